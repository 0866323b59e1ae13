-- Which rows can be read back from their lines: exactly the valid ones whose numbers are below 2^64.
use Rattle.std.proofs.Common.{◌≡◌, ℕ, Bool, true, false, cond, List, [], ◌∷◌, map, Result, Ok, Err, refl, ap, subst, codes}
use Rattle.std.specs.List.{AllByRecursion}
use Rattle.serde_json.specs.Data.{Data}
use Rattle.drf_role.specs.Name.{IsName}
use Rattle.drf_role.specs.Parts.{parts_of}
use Rattle.drf_role.specs.Role.{IsRole}
use Rattle.drf_role.specs.Text.{Text, same_text}
use Rattle.drf_role.specs.Tests.{is_name, is_role}
use Rattle.drf_role.proofs.TestLaws.{name_decides, role_decides}
use Rattle.drf_bundle.specs.Bundle.{IsBundle}
use Rattle.drf_bundle.specs.declared.quantities.Entry.{Entry}
use Rattle.drf_bundle.specs.declared.resource.Resource.{Resource}
use Rattle.drf_text.specs.Meaning.{meaning_of, quantities_meant}
use Rattle.drf_text.specs.declared.fault.TextFault.{TextFault}
use Rattle.drf_rows.specs.declared.rows.AgentRow.{AgentRow}
use Rattle.drf_rows.specs.declared.rows.ClientRow.{ClientRow}
use Rattle.drf_rows.specs.declared.rows.FrameworkRow.{FrameworkRow}
use Rattle.drf_rows.specs.declared.rows.OfferRow.{OfferRow}
use Rattle.drf_rows.specs.declared.rows.TaskRow.{TaskRow}
use Rattle.drf_rows.specs.declared.rows.FilterRow.{FilterRow}
use Rattle.drf_saved.specs.declared.saved.SavedRow.{SavedRow}
use Rattle.drf_saved.specs.declared.saved.SavedRow.TheVariants.{Agent, Framework, Weight, Limit, Offer, Task, Filter}
use Rattle.drf_saved.specs.declared.saved.StateLine.{StateLine}
use Rattle.drf_saved.specs.declared.saved.StateLine.TheVariants as says
use Rattle.drf_lines.specs.AgentRows.{agent_row}
use Rattle.drf_lines.specs.Fault.{◌>>=◌}
use Rattle.drf_lines.specs.FrameworkRows.{ClientText, client_in, client_text, framework_row}
use Rattle.drf_lines.specs.HeldRows.{filter_row, offer_row, OwnerText, owner_in, owner_text, task_row}
use Rattle.drf_lines.specs.LimitEvents.{its_limit}
use Rattle.drf_lines.specs.Meaning.{made, meant_among, value_in}
use Rattle.drf_lines.specs.Object.{boolean_at, keys, number_at, text_at}
use Rattle.drf_lines.specs.Resources.{bundle_in, quantities_in, read_or_bad, weight_in}
use Rattle.drf_lines.specs.StateLine.{row_line}
use Rattle.drf_lines.specs.StateMeaning.{end_in, head_in, state_line_in, state_line_meaning, state_lines}
use Rattle.drf_lines.specs.TaskTexts.{each_in, values_at}
use Rattle.drf_lines.specs.WeightEvents.{its_weight}
use Rattle.drf_lines.specs.Words.{name_in, role_in}
use Rattle.drf_lines.specs.declared.fault.LineFault.{LineFault}
use Rattle.drf_lines.specs.declared.fault.LineFault.TheVariants.{BadText}
use Rattle.drf_state.specs.Read.{IsRead}
use Rattle.drf_state.specs.Valid.{AreQuantities, IsValidRow}
use Rattle.drf_state.proofs.Meant.{bundle_is, quantities_are}

-- ---- steps

-- a step that succeeded, and the result of the next one
record HasFound {A B : Type 0} (step : Result A LineFault) (next : A → Result B LineFault) (made : B) : Type 0 where
  found : A
  is : step ≡ Ok found
  then : next found ≡ Ok made

found_in : {A B : Type 0} (step : Result A LineFault) (next : A → Result B LineFault) (made : B) → (step >>= next) ≡ Ok made → HasFound step next made
found_in (Ok x) next made is = record { found = x; is = refl; then = is }
found_in (Err fault) next made is = let none : ⊥ = cc in absurd none

-- ---- names, roles, resources

name_valid : (text name : Text) → name_in text ≡ Ok name → IsName name
unfolding name_in
name_valid text name is = by (is_name text) refl is
  where
    by : (b : Bool) → is_name text ≡ b → cond b (Ok text) (Err BadText) ≡ Ok name → IsName name
    by true test is = let same : text ≡ name = cc in subst IsName same ((name_decides text).0 test)
    by false test is = let none : ⊥ = cc in absurd none

role_valid : (text : Text) (role : List Text) → role_in text ≡ Ok role → IsRole role
unfolding role_in
role_valid text role is = by (is_role text) refl is
  where
    by : (b : Bool) → is_role text ≡ b → cond b (Ok (parts_of text)) (Err BadText) ≡ Ok role → IsRole role
    by true test is = let same : parts_of text ≡ role = cc in subst IsRole same ((role_decides text).0 test)
    by false test is = let none : ⊥ = cc in absurd none

was_read : {A : Type 0} (r : Result A TextFault) (x : A) → read_or_bad r ≡ Ok x → r ≡ Ok x
was_read (Ok y) x is = let same : y ≡ x = cc in ap Ok same
was_read (Err fault) x is = let none : ⊥ = cc in absurd none

bundle_valid : (text : Text) (bundle : List Resource) → bundle_in text ≡ Ok bundle → IsBundle bundle
unfolding bundle_in
bundle_valid text bundle is = bundle_is text bundle (was_read (meaning_of text) bundle is)

quantities_valid : (text : Text) (entries : List Entry) → quantities_in text ≡ Ok entries → AreQuantities entries
unfolding quantities_in
quantities_valid text entries is = quantities_are text entries (was_read (quantities_meant text) entries is)

-- ---- rows

agent_valid : (value : Data) (a : AgentRow) → agent_row value ≡ Ok a → IsValidRow (Agent a)
unfolding agent_row
agent_valid value a is =
    let s0 = found_in (keys 4 value) _ a is in
    let s1 = found_in (boolean_at (codes "active") value) _ a s0.then in
    let s2 = found_in (text_at (codes "agent") value) _ a s1.then in
    let s3 = found_in (text_at (codes "total") value) _ a s2.then in
    let s4 = found_in (name_in s2.found) _ a s3.then in
    let s5 = found_in (bundle_in s3.found) _ a s4.then in
    let made : AgentRow = record { name = s4.found; total = s5.found; active = s1.found } in
    let last : Ok made ≡ Ok a = s5.then in
    let same : made ≡ a = cc in
    subst (λ (r : AgentRow). IsValidRow (Agent r)) same (name_valid s2.found s4.found s4.is, bundle_valid s3.found s5.found s5.is)

clients_valid : (texts : List ClientText) (clients : List ClientRow) → each_in client_in texts ≡ Ok clients → AllByRecursion IsRole (map (λ c. c.role) clients)
unfolding client_in
clients_valid [] clients is =
    let same : [] ≡ clients = cc in
    subst (λ (cs : List ClientRow). AllByRecursion IsRole (map (λ c. c.role) cs)) same tt
clients_valid (t ∷ texts) clients is =
    let s0 = found_in (client_in t) _ clients is in
    let s1 = found_in (each_in client_in texts) _ clients s0.then in
    let s2 = found_in (role_in t.0) _ s0.found s0.is in
    let client : ClientRow = record { role = s2.found; count = t.1; suppressed = t.2 } in
    let one : Ok client ≡ Ok s0.found = s2.then in
    let is_one : client ≡ s0.found = cc in
    let last : Ok (s0.found ∷ s1.found) ≡ Ok clients = s1.then in
    let same : s0.found ∷ s1.found ≡ clients = cc in
    subst (λ (cs : List ClientRow). AllByRecursion IsRole (map (λ c. c.role) cs)) same
    (subst (λ (c : ClientRow). IsRole c.role) is_one (role_valid t.0 s2.found s2.is), clients_valid texts s1.found s1.is)

framework_valid : (value : Data) (f : FrameworkRow) → framework_row value ≡ Ok f → IsValidRow (Framework f)
unfolding framework_row
framework_valid value f is =
    let s0 = found_in (keys 3 value) _ f is in
    let s1 = found_in (values_at (codes "clients") value) _ f s0.then in
    let s2 = found_in (each_in client_text s1.found) _ f s1.then in
    let s3 = found_in (text_at (codes "framework") value) _ f s2.then in
    let s4 = found_in (name_in s3.found) _ f s3.then in
    let s5 = found_in (each_in client_in s2.found) _ f s4.then in
    let made : FrameworkRow = record { name = s4.found; clients = s5.found } in
    let last : Ok made ≡ Ok f = s5.then in
    let same : made ≡ f = cc in
    subst (λ (r : FrameworkRow). IsValidRow (Framework r)) same (record { name = name_valid s3.found s4.found s4.is; roles = clients_valid s2.found s5.found s5.is })

weight_valid : (value : Data) (w : List Text × ℕ) → its_weight value ≡ Ok w → IsRole w.0
unfolding its_weight
weight_valid value w is =
    let s0 = found_in (keys 3 value) _ w is in
    let s1 = found_in (text_at (codes "role") value) _ w s0.then in
    let s2 = found_in (text_at (codes "weight") value) _ w s1.then in
    let s3 = found_in (role_in s1.found) _ w s2.then in
    let s4 = found_in (weight_in s2.found) _ w s3.then in
    let last : Ok (s3.found, s4.found) ≡ Ok w = s4.then in
    let same : (s3.found, s4.found) ≡ w = cc in
    subst (λ (r : List Text × ℕ). IsRole r.0) same (role_valid s1.found s3.found s3.is)

limit_valid : (value : Data) (l : List Text × List Entry) → its_limit value ≡ Ok l → IsRole l.0 × AreQuantities l.1
unfolding its_limit
limit_valid value l is =
    let s0 = found_in (keys 3 value) _ l is in
    let s1 = found_in (text_at (codes "role") value) _ l s0.then in
    let s2 = found_in (text_at (codes "limit") value) _ l s1.then in
    let s3 = found_in (role_in s1.found) _ l s2.then in
    let s4 = found_in (quantities_in s2.found) _ l s3.then in
    let last : Ok (s3.found, s4.found) ≡ Ok l = s4.then in
    let same : (s3.found, s4.found) ≡ l = cc in
    subst (λ (r : List Text × List Entry). IsRole r.0 × AreQuantities r.1) same (role_valid s1.found s3.found s3.is, quantities_valid s2.found s4.found s4.is)

owner_valid : (text : OwnerText) (owner : Text × Text × List Text) → owner_in text ≡ Ok owner → IsName owner.0 × IsName owner.1 × IsRole owner.2
unfolding owner_in
owner_valid text owner is =
    let s0 = found_in (name_in text.0) _ owner is in
    let s1 = found_in (name_in text.1) _ owner s0.then in
    let s2 = found_in (role_in text.2) _ owner s1.then in
    let last : Ok (s0.found, s1.found, s2.found) ≡ Ok owner = s2.then in
    let same : (s0.found, s1.found, s2.found) ≡ owner = cc in
    subst (λ (o : Text × Text × List Text). IsName o.0 × IsName o.1 × IsRole o.2) same
    (name_valid text.0 s0.found s0.is, name_valid text.1 s1.found s1.is, role_valid text.2 s2.found s2.is)

offer_valid : (value : Data) (o : OfferRow) → offer_row value ≡ Ok o → IsValidRow (Offer o)
unfolding offer_row
offer_valid value o is =
    let s0 = found_in (keys 6 value) _ o is in
    let s1 = found_in (owner_text value) _ o s0.then in
    let s2 = found_in (number_at (codes "offer") value) _ o s1.then in
    let s3 = found_in (text_at (codes "resources") value) _ o s2.then in
    let s4 = found_in (owner_in s1.found) _ o s3.then in
    let s5 = found_in (bundle_in s3.found) _ o s4.then in
    let owner = owner_valid s1.found s4.found s4.is in
    let made : OfferRow = record { number = s2.found; agent = s4.found.0; framework = s4.found.1; role = s4.found.2; bundle = s5.found } in
    let last : Ok made ≡ Ok o = s5.then in
    let same : made ≡ o = cc in
    subst (λ (r : OfferRow). IsValidRow (Offer r)) same (owner.0, owner.1, owner.2, bundle_valid s3.found s5.found s5.is)

task_valid : (value : Data) (t : TaskRow) → task_row value ≡ Ok t → IsValidRow (Task t)
unfolding task_row
task_valid value t is =
    let s0 = found_in (keys 6 value) _ t is in
    let s1 = found_in (owner_text value) _ t s0.then in
    let s2 = found_in (text_at (codes "task") value) _ t s1.then in
    let s3 = found_in (text_at (codes "use") value) _ t s2.then in
    let s4 = found_in (owner_in s1.found) _ t s3.then in
    let s5 = found_in (name_in s2.found) _ t s4.then in
    let s6 = found_in (bundle_in s3.found) _ t s5.then in
    let owner = owner_valid s1.found s4.found s4.is in
    let made : TaskRow = record { name = s5.found; agent = s4.found.0; framework = s4.found.1; role = s4.found.2; bundle = s6.found } in
    let last : Ok made ≡ Ok t = s6.then in
    let same : made ≡ t = cc in
    subst (λ (r : TaskRow). IsValidRow (Task r)) same (name_valid s2.found s5.found s5.is, owner.0, owner.1, owner.2, bundle_valid s3.found s6.found s6.is)

filter_valid : (value : Data) (f : FilterRow) → filter_row value ≡ Ok f → IsValidRow (Filter f)
unfolding filter_row
filter_valid value f is =
    let s0 = found_in (keys 6 value) _ f is in
    let s1 = found_in (owner_text value) _ f s0.then in
    let s2 = found_in (text_at (codes "resources") value) _ f s1.then in
    let s3 = found_in (number_at (codes "until") value) _ f s2.then in
    let s4 = found_in (owner_in s1.found) _ f s3.then in
    let s5 = found_in (bundle_in s2.found) _ f s4.then in
    let owner = owner_valid s1.found s4.found s4.is in
    let made : FilterRow = record { framework = s4.found.1; role = s4.found.2; agent = s4.found.0; bundle = s5.found; until = s3.found } in
    let last : Ok made ≡ Ok f = s5.then in
    let same : made ≡ f = cc in
    subst (λ (r : FilterRow). IsValidRow (Filter r)) same (owner.0, owner.1, owner.2, bundle_valid s2.found s5.found s5.is)

-- ---- lines

-- every row that a line of this kind means is valid
SaysValid : List ℕ × (Data → Result StateLine LineFault) → Type 0
SaysValid kind = (value : Data) (row : SavedRow) → kind.1 value ≡ Ok (says.Row row) → IsValidRow row

made_valid : {A : Type 0} (name : List ℕ) (row_of : A → SavedRow) (read : Data → Result A LineFault)
    → ((value : Data) (found : A) → read value ≡ Ok found → IsValidRow (row_of found))
    → SaysValid (name, made (λ found. says.Row (row_of found)) read)
unfolding SaysValid
made_valid name row_of read valid value row is =
    let step = found_in (read value) _ (says.Row row) is in
    let last : Ok (says.Row (row_of step.found)) ≡ Ok (says.Row row) = step.then in
    let same : row_of step.found ≡ row = cc in
    subst IsValidRow same (valid value step.found step.is)

head_says_none : SaysValid (codes "state", made says.Head head_in)
unfolding SaysValid
head_says_none value row is =
    let step = found_in (head_in value) _ (says.Row row) is in
    let last : Ok (says.Head step.found) ≡ Ok (says.Row row) = step.then in
    let none : ⊥ = cc in absurd none

end_says_none : SaysValid (codes "end", end_in)
unfolding SaysValid end_in
end_says_none value row is =
    let s0 = found_in (keys 3 value) _ (says.Row row) is in
    let s1 = found_in (number_at (codes "rows") value) _ (says.Row row) s0.then in
    let s2 = found_in (text_at (codes "sha256") value) _ (says.Row row) s1.then in
    let last : Ok says.End ≡ Ok (says.Row row) = s2.then in
    let none : ⊥ = cc in absurd none

among : (kinds : List (List ℕ × (Data → Result StateLine LineFault))) → AllByRecursion SaysValid kinds
    → (name : List ℕ) (value : Data) (row : SavedRow) → meant_among kinds name value ≡ Ok (says.Row row) → IsValidRow row
unfolding SaysValid
among [] each name value row is = let none : ⊥ = cc in absurd none
among (kind ∷ kinds) each name value row is = by (same_text name kind.0) is (λ rest. among kinds each.1 name value row rest)
  where
    by : (b : Bool) → cond b (kind.1 value) (meant_among kinds name value) ≡ Ok (says.Row row)
        → (meant_among kinds name value ≡ Ok (says.Row row) → IsValidRow row) → IsValidRow row
    by true is rest = each.0 value row is
    by false is rest = rest is

all_kinds : AllByRecursion SaysValid state_lines
all_kinds = (
  head_says_none,
  (
    made_valid (codes "agent") Agent agent_row agent_valid,
    (
      made_valid (codes "framework") Framework framework_row framework_valid,
      (
        made_valid (codes "weight") (λ w. Weight (record { role = w.0; weight = w.1 })) its_weight weight_valid,
        (
          made_valid (codes "limit") (λ l. Limit (record { role = l.0; limit = l.1 })) its_limit limit_valid,
          (
            made_valid (codes "offer") Offer offer_row offer_valid,
            (
              made_valid (codes "task") Task task_row task_valid,
              (
                made_valid (codes "filter") Filter filter_row filter_valid,
                (end_says_none, tt),
              ),
            ),
          ),
        ),
      ),
    ),
  ),
)

-- a row that can be read from its line is valid
pub read_is_valid : (row : SavedRow) → IsRead row → IsValidRow row
unfolding state_line_meaning state_line_in
read_is_valid row is =
    let s0 = found_in (value_in (row_line row)) _ (says.Row row) is in
    let s1 = found_in (text_at (codes "row") s0.found) _ (says.Row row) s0.then in
    among state_lines all_kinds s1.found s0.found row s1.then
