use Rattle.std.proofs.Common.{◌≡◌, ℕ, ◌-◌, ◌+◌, ◌<◌, ◌≤◌, List, [], ◌∷◌, ◌++◌, length, take, get_or, Bor, Bool, true, false, cond, Some, sym, ap, ◌∙◌, arith}
use Rattle.std.proofs.lemmas.List.{take_more}
use Rattle.std.specs.Str.{bytes_eq}
use Rattle.json.specs.Find.{get_member}
use Rattle.json.specs.Value.{value_view, members_view}
use Rattle.json.specs.declared.value.Value.{Value}
use Rattle.json.proofs.Trees.{get_member-push}
use Rattle.drf_lines.proofs.object.find_member.Goals as goal

-- the member is the last of the remaining ones, or the search continues before it
last_left : {A : Type 0} (name : List ℕ) (all : List (Bor (List ℕ) × Value A)) (left : ℕ) (m : Bor (List ℕ) × Value A) (b : Bool)
    → 0 < left → left ≤ length all → m ≡ get_or all (left - 1) m → bytes_eq m.0.now name ≡ b
    → get_member name (members_view (take left all)) ≡ cond b (Some (value_view m.1)) (get_member name (members_view (take (left - 1) all)))
last_left {A} name all left m b some inside is same =
    let next : left ≡ left - 1 + 1 = omega arith in
    ap (λ k. get_member name (members_view (take k all))) next
    ∙ ap (λ (ms : List (Bor (List ℕ) × Value A)). get_member name (members_view ms)) (take_more all (left - 1) m (omega arith) ∙ ap (λ (last : Bor (List ℕ) × Value A). take (left - 1) all ++ last ∷ []) (sym is))
    ∙ get_member-push name (take (left - 1) all) m
    ∙ ap (λ b. cond b (Some (value_view m.1)) (get_member name (members_view (take (left - 1) all)))) same

pub returns-then-is_key : goal.returns-then-is_key
returns-then-is_key c =
    sym (c.loop-left.invariant.0 ∙ last_left c.args.name.now c.args.members.now c.loop-left.left c.index-members-left.result true
    (omega arith) c.loop-left.invariant.1 c.index-members-left.is (sym c.is_key.ensures ∙ c.if-is_key.true))

pub loop-left-preserved : goal.loop-left-preserved
loop-left-preserved c = (
  c.loop-left.invariant.0 ∙ last_left c.args.name.now c.args.members.now c.loop-left.left c.index-members-left.result false
      (omega arith) c.loop-left.invariant.1 c.index-members-left.is (sym c.is_key.ensures ∙ c.if-is_key.false),
  omega arith,
)
