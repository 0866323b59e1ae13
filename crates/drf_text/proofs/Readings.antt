-- The steps of the reader together give the meaning of a piece.
use Rattle.std.proofs.Common.{◌≡◌, ℕ, Bool, true, false, cond, eqb, List, [], ◌∷◌, ◌&&◌, map, Option, Some, None, Result, Ok, Err, refl, ap, ◌∙◌, arith, get_or, not, eqb-true, ne_eqb}
use Rattle.std.specs.List.{list_all, list_any, flat_map}
use Rattle.std.specs.FinSet as set
use Rattle.std.specs.Ordering.{nat_cmp}
use Rattle.drf_text.proofs.Names.{Text, is_label, is_role, begins, inside, parts_between, parts_inside, head_of, body_of, is_reserved, name_of, role_text_of, is_head, is_body, is_range, has_form, members_are_labels, has_labels, has_bad_role, has_numbers, fault_of, quantity_fault_of, numbers_of, value_of, role_of, TextFault, Syntax, BadName, BadRole, BadNumber}
use Rattle.drf_role.specs.Path.{Path}
use Rattle.drf_role.specs.Parts.{parts_of}
use Rattle.drf_bundle.specs.declared.value.Value.{Value}
use Rattle.drf_bundle.specs.declared.value.Value.TheVariants as value
use Rattle.drf_text.specs.Steps.{◌>>=◌, each_of, cut_in, head_in, kind_of, content_of, body_in, label_in, members_in, role_in, no_role, fitting, scalar_in, ranges_in, numbers_between, value_in, DraftOf, draft_in, said_in, counted_in}
use Rattle.drf_text.specs.declared.piece.Kind.{Kind}
use Rattle.drf_text.specs.declared.said.Said.{Said}
use Rattle.drf_text.specs.declared.said.Counted.{Counted}
use Rattle.drf_text.proofs.Parts.{pair_of, each_tested, flat_map-map}
use Rattle.drf_text.proofs.RangeLemmas.{pairs_tested}

-- the error, or the value if there is no error
abbrev pub reported : {A : Type 0} → Option TextFault → A → Result A TextFault
reported (Some fault) x = Err fault
reported None x = Ok x

reported_next : {A B : Type 0} (fault : Option TextFault) (x : A) (next : A → Result B TextFault) → (reported fault x >>= next) ≡ (reported fault x >>= λ _. next x)
reported_next (Some fault) x next = refl
reported_next None x next = refl

-- ---- the three kinds of a body

not_both : (body : Text) → begins 91 body ≡ true → begins 123 body ≡ false
not_both body first = ne_eqb (get_or body 0 0) 123 (λ e. absurd (omega (arith, e, eqb-true (get_or body 0 0) 91 first)))

labels_tested : (parts : List Text) → each_of label_in parts ≡ cond (list_all is_label parts) (Ok parts) (Err BadName)
unfolding label_in
labels_tested parts =
    each_tested label_in is_label (λ (part : Text). part) BadName (λ part. refl) parts
    ∙ ap (λ (same : List Text). cond (list_all is_label parts) (Ok same) (Err BadName)) (map_same parts)
  where
    map_same : (xs : List Text) → map (λ (x : Text). x) xs ≡ xs
    map_same [] = refl
    map_same (x ∷ xs) = ap (λ (rest : List Text). x ∷ rest) (map_same xs)

-- the members that a body lists
abbrev members_of : Text → List Text
members_of body = cond (begins 91 body) [] (cond (begins 123 body) (parts_inside body) [])

members_tested : (body : Text) → members_in (kind_of body, content_of (kind_of body) body) ≡ cond (members_are_labels body) (Ok (members_of body)) (Err BadName)
unfolding members_in
members_tested body = by (begins 91 body) (begins 123 body) refl refl
  where
    by : (range items : Bool) → begins 91 body ≡ range → begins 123 body ≡ items
        → members_in (kind_of body, content_of (kind_of body) body) ≡ cond (members_are_labels body) (Ok (members_of body)) (Err BadName)
    by true items first second = rw (first, not_both body first) refl
    by false true first second = rw (first, second) (labels_tested (parts_inside body))
    by false false first second = rw (first, second) refl

-- the set of the numbers of a list
abbrev numbers_set : List ℕ → set.FinSet nat_cmp
numbers_set numbers = set.from_list numbers

ranges_at : (parts : List Text) (all : Bool)
    → (cond {A = Result (List (ℕ × ℕ)) TextFault} all (Ok (map pair_of parts)) (Err BadNumber) >>= λ pairs. Ok (numbers_set (flat_map numbers_between pairs)))
    ≡ cond {A = Result (set.FinSet nat_cmp) TextFault} all (Ok (numbers_set (flat_map numbers_of parts))) (Err BadNumber)
ranges_at parts true = ap (λ (numbers : List ℕ). let r : Result (set.FinSet nat_cmp) TextFault = Ok (numbers_set numbers) in r) (flat_map-map numbers_between pair_of parts)
ranges_at parts false = refl

ranges_tested : (text : Text) → ranges_in text ≡ cond (list_all is_range (parts_between text)) (Ok (numbers_set (flat_map numbers_of (parts_between text)))) (Err BadNumber)
unfolding ranges_in
ranges_tested text =
    ap (λ (r : Result (List (ℕ × ℕ)) TextFault). r >>= λ pairs. Ok (numbers_set (flat_map numbers_between pairs))) (pairs_tested (parts_between text))
    ∙ ranges_at (parts_between text) (list_all is_range (parts_between text))

ranges_as_value : (all : Bool) (numbers : set.FinSet nat_cmp)
    → (cond {A = Result (set.FinSet nat_cmp) TextFault} all (Ok numbers) (Err BadNumber) >>= λ found. Ok (Some (value.Ranges found)))
    ≡ cond {A = Result (Option Value) TextFault} all (Ok (Some (value.Ranges numbers))) (Err BadNumber)
ranges_as_value true numbers = refl
ranges_as_value false numbers = refl

value_tested : (body : Text) → value_in (kind_of body, content_of (kind_of body) body) (members_of body) ≡ cond (has_numbers body) (Ok (fitting (value_of body))) (Err BadNumber)
unfolding value_in scalar_in
value_tested body = by (begins 91 body) (begins 123 body) refl refl
  where
    by : (range items : Bool) → begins 91 body ≡ range → begins 123 body ≡ items
        → value_in (kind_of body, content_of (kind_of body) body) (members_of body) ≡ cond (has_numbers body) (Ok (fitting (value_of body))) (Err BadNumber)
    by true items first second =
        rw first (ap (λ (r : Result (set.FinSet nat_cmp) TextFault). r >>= λ found. Ok (Some (value.Ranges found))) (ranges_tested (inside body))
        ∙ ranges_as_value (list_all is_range (parts_inside body)) (numbers_set (flat_map numbers_of (parts_inside body))))
    by false true first second = rw (first, second) refl
    by false false first second = rw (first, second) refl

-- ---- pieces

abbrev draft_fault : Text → Option TextFault
draft_fault piece = cond (not (has_form piece)) (Some Syntax) (cond (not (has_labels piece)) (Some BadName) None)

abbrev role_text_in : Text → Option Text
role_text_in head = cond (is_reserved head) (Some (role_text_of head)) None

abbrev draft_of : Text → DraftOf
draft_of piece = record {
  label = name_of (head_of piece);
  role = role_text_in (head_of piece);
  body = (kind_of (body_of piece), content_of (kind_of (body_of piece)) (body_of piece));
  members = members_of (body_of piece);
}

bind_at : {A B : Type 0} (test : Bool) (x : A) (fault : TextFault) (next : A → Result B TextFault)
    → (cond {A = Result A TextFault} test (Ok x) (Err fault) >>= next) ≡ cond test (next x) (Err fault)
bind_at true x fault next = refl
bind_at false x fault next = refl

nested : (colon head body label members : Bool) (draft : DraftOf)
    → cond {A = Result DraftOf TextFault} colon (cond head (cond body (cond label (cond members (Ok draft) (Err BadName)) (Err BadName)) (Err Syntax)) (Err Syntax)) (Err Syntax)
    ≡ reported (cond (not (colon && head && body)) (Some Syntax) (cond (not (label && members)) (Some BadName) None)) draft
nested false head body label members draft = refl
nested true false body label members draft = refl
nested true true false label members draft = refl
nested true true true false members draft = refl
nested true true true true false draft = refl
nested true true true true true draft = refl

draft_tested : (piece : Text) → draft_in piece ≡ reported (draft_fault piece) (draft_of piece)
unfolding draft_in cut_in head_in body_in label_in
draft_tested piece =
    let head = head_of piece in
    let body = body_of piece in
    let kinded : Kind × Text = (kind_of body, content_of (kind_of body) body) in
    let last : List Text → Result DraftOf TextFault = λ members.
    Ok (record { label = name_of head; role = role_text_in head; body = kinded; members = members }) in
    let labelled : Text → Result DraftOf TextFault = λ label.
    members_in kinded >>= λ members. Ok (record { label = label; role = role_text_in head; body = kinded; members = members }) in
    let bodied : Kind × Text → Result DraftOf TextFault = λ body.
    label_in (name_of head) >>= λ label. members_in body >>= λ members. Ok (record { label = label; role = role_text_in head; body = body; members = members }) in
    let headed : Text × Option Text → Result DraftOf TextFault = λ head.
    body_in body >>= λ body. label_in head.0 >>= λ label. members_in body >>= λ members. Ok (record { label = label; role = head.1; body = body; members = members }) in
    let cut : Text × Text → Result DraftOf TextFault = λ parts.
    head_in parts.0 >>= λ head. body_in parts.1 >>= λ body. label_in head.0 >>= λ label.
    members_in body >>= λ members. Ok (record { label = label; role = head.1; body = body; members = members }) in
    bind_at (list_any (λ b. eqb b 58) piece) (head, body) Syntax cut
    ∙ ap (λ (r : Result DraftOf TextFault). cond (list_any (λ b. eqb b 58) piece) r (Err Syntax))
    (bind_at (is_head head) (name_of head, role_text_in head) Syntax headed
    ∙ ap (λ (r : Result DraftOf TextFault). cond (is_head head) r (Err Syntax))
    (bind_at (is_body body) kinded Syntax bodied
    ∙ ap (λ (r : Result DraftOf TextFault). cond (is_body body) r (Err Syntax))
    (bind_at (is_label (name_of head)) (name_of head) BadName labelled
    ∙ ap (λ (r : Result DraftOf TextFault). cond (is_label (name_of head)) r (Err BadName))
    (ap (λ (r : Result (List Text) TextFault). r >>= last) (members_tested body) ∙ bind_at (members_are_labels body) (members_of body) BadName last))))
    ∙ nested (list_any (λ b. eqb b 58) piece) (is_head head) (is_body body) (is_label (name_of head)) (members_are_labels body) (draft_of piece)

role_tested : (head : Text) → role_in (role_text_in head) ≡ cond (has_bad_role head) (Err BadRole) (Ok (role_of head))
unfolding role_in
role_tested head = by (is_reserved head) refl
  where
    by : (reserved : Bool) → is_reserved head ≡ reserved → role_in (role_text_in head) ≡ cond (has_bad_role head) (Err BadRole) (Ok (role_of head))
    by true e = rw e (turned (is_role (role_text_of head)))
      where
        turned : (b : Bool) → cond {A = Result Path TextFault} b (Ok (parts_of (role_text_of head))) (Err BadRole) ≡ cond (not b) (Err BadRole) (Ok (parts_of (role_text_of head)))
        turned true = refl
        turned false = refl
    by false e = rw e refl

no_role_tested : (head : Text) → no_role (role_text_in head) ≡ cond (is_reserved head) (Err BadRole) (Ok tt)
no_role_tested head = by (is_reserved head)
  where
    by : (reserved : Bool) → no_role (cond reserved (Some (role_text_of head)) None) ≡ cond reserved (Err BadRole) (Ok tt)
    by true = refl
    by false = refl

-- the role and the value, which are read after the draft
behind : {D R V S : Type 0} (syntax name role number : Bool) (draft : D) (r : R) (v : V) (make : R → V → S)
    → (reported (cond syntax (Some Syntax) (cond name (Some BadName) None)) draft >>= λ _.
    cond {A = Result R TextFault} role (Err BadRole) (Ok r) >>= λ r. cond {A = Result V TextFault} number (Ok v) (Err BadNumber) >>= λ v. Ok (make r v))
    ≡ reported (cond syntax (Some Syntax) (cond name (Some BadName) (cond role (Some BadRole) (cond (not number) (Some BadNumber) None)))) (make r v)
behind true name role number draft r v make = refl
behind false true role number draft r v make = refl
behind false false true number draft r v make = refl
behind false false false true draft r v make = refl
behind false false false false draft r v make = refl

-- the resource that a piece of a bundle describes; a scalar that is too large gives no value
abbrev pub said_of : Text → Said
said_of piece = record { label = name_of (head_of piece); role = role_of (head_of piece); value = fitting (value_of (body_of piece)) }

pub said_tested : (piece : Text) → said_in piece ≡ reported (fault_of piece) (said_of piece)
unfolding said_in
said_tested piece =
    let head = head_of piece in
    let body = body_of piece in
    let draft = draft_of piece in
    let make : Path → Option Value → Said = λ role value. record { label = name_of head; role = role; value = value } in
    ap (λ (r : Result DraftOf TextFault). r >>= λ d. role_in d.role >>= λ role. value_in d.body d.members >>= λ value.
    Ok (record { label = d.label; role = role; value = value })) (draft_tested piece)
    ∙ reported_next (draft_fault piece) draft (λ d. role_in d.role >>= λ role. value_in d.body d.members >>= λ value.
    Ok (record { label = d.label; role = role; value = value }))
    ∙ (λ i. reported (draft_fault piece) draft >>= λ _. role_tested head i >>= λ role. value_tested body i >>= λ value. Ok (make role value))
    ∙ behind (not (has_form piece)) (not (has_labels piece)) (has_bad_role head) (has_numbers body) draft (role_of head) (fitting (value_of body)) make

abbrev pub counted_of : Text → Counted
counted_of piece = record { label = name_of (head_of piece); value = fitting (value_of (body_of piece)) }

pub counted_tested : (piece : Text) → counted_in piece ≡ reported (quantity_fault_of piece) (counted_of piece)
unfolding counted_in
counted_tested piece =
    let head = head_of piece in
    let body = body_of piece in
    let draft = draft_of piece in
    let make : Unit {0} → Option Value → Counted = λ _ value. record { label = name_of head; value = value } in
    ap (λ (r : Result DraftOf TextFault). r >>= λ d. no_role d.role >>= λ _. value_in d.body d.members >>= λ value.
    Ok (record { label = d.label; value = value })) (draft_tested piece)
    ∙ reported_next (draft_fault piece) draft (λ d. no_role d.role >>= λ _. value_in d.body d.members >>= λ value.
    Ok (record { label = d.label; value = value }))
    ∙ (λ i. reported (draft_fault piece) draft >>= λ _. no_role_tested head i >>= λ none. value_tested body i >>= λ value. Ok (make none value))
    ∙ behind (not (has_form piece)) (not (has_labels piece)) (is_reserved head) (has_numbers body) draft tt (fitting (value_of body)) make
