-- Suppressing and reviving change only their client.
use Rattle.std.specs.Prelude.{◌≡◌, Bool, true, false, not, ◌&&◌, ◌||◌, List, [], ◌∷◌, map, if◌then◌else◌}
use Rattle.std.specs.List.{list_all}
use Rattle.std.proofs.Common.{refl, sym, ap, ◌∙◌}
use Rattle.std.proofs.Math.Bool.{or-true}
use Rattle.std.proofs.lemmas.Bool.{and_from}
use Rattle.drf_role.specs.Text.{same_text}
use Rattle.drf_role.specs.TextLaws.{same_from_test}
use Rattle.drf_role.specs.Path.{same_path}
use Rattle.drf_role.specs.PathLaws.{same_path-true}
use Rattle.drf_rows.specs.Client.{Client}
use Rattle.drf_rows.specs.Held.{client_of}
use Rattle.drf_rows.specs.Members.{suppressed_at, suppressed_in}
use Rattle.drf_rows.specs.Step.{effect}
use Rattle.drf_row_laws.specs.LifeLaws.{is_same_client, quiet_row, quiet_framework, SuppressionIsItsClients}
use Rattle.drf_rows.specs.declared.rows.ClientRow.{ClientRow}
use Rattle.drf_rows.specs.declared.rows.FrameworkRow.{FrameworkRow}

-- ---- all elements of a changed list

all_as_before : {X : Type 0} (p : X → Bool) (f : X → X) (xs : List X) → ((x : X) → p (f x) ≡ p x) → list_all p (map f xs) ≡ list_all p xs
all_as_before p f [] same = refl
all_as_before p f (x ∷ xs) same = λ i. same x i && all_as_before p f xs same i

all_each : {X Y : Type 0} (p : Y → Bool) (f : X → Y) (xs : List X) → ((x : X) → p (f x) ≡ true) → list_all p (map f xs) ≡ true
all_each p f [] each = refl
all_each p f (x ∷ xs) each = and_from _ _ (each x) (all_each p f xs each)

-- ---- the rows of the client are as they should be

-- the row belongs to another client, or its suppression passes the test
abbrev passes_row : (Bool → Bool) → Client → FrameworkRow → ClientRow → Bool
passes_row test client f c = not (is_same_client client (client_of f c)) || test c.suppressed

abbrev passes : (Bool → Bool) → Client → FrameworkRow → Bool
passes test client f = list_all (passes_row test client f) f.clients

module _ (client : Client) (test : Bool → Bool) (suppressed : Bool) (is : test suppressed ≡ true) where
  own_row : (f : FrameworkRow) (c : ClientRow) → passes_row test client f (suppressed_at client suppressed c) ≡ true
  own_row f c = by (same_path c.role client.role) refl
    where
      by : (b : Bool) → same_path c.role client.role ≡ b → passes_row test client f (if b then record c { suppressed = suppressed } else c) ≡ true
      by true here =
          let another : Bool = not (is_same_client client (client_of f c)) in
          ap (λ (b : Bool). another || b) is ∙ or-true another
      by false past = ap (λ (b : Bool). not (b && same_text f.name client.framework) || test c.suppressed) past

  own_framework : (f : FrameworkRow) → passes test client (suppressed_in client suppressed f) ≡ true
  own_framework f = by (same_text f.name client.framework) refl
    where
      another : (b c : Bool) → (not (b && false) || c) ≡ true
      another true c = refl
      another false c = refl

      all_others : (cs : List ClientRow) → same_text f.name client.framework ≡ false → list_all (passes_row test client f) cs ≡ true
      all_others [] past = refl
      all_others (c ∷ cs) past = and_from _ _
          (ap (λ (b : Bool). not (same_path c.role client.role && b) || test c.suppressed) past ∙ another (same_path c.role client.role) (test c.suppressed))
          (all_others cs past)

      by : (b : Bool) → same_text f.name client.framework ≡ b
          → passes test client (if b then record f { clients = map (suppressed_at client suppressed) f.clients } else f) ≡ true
      by true here = all_each (passes_row test client f) (suppressed_at client suppressed) f.clients (own_row f)
      by false past = all_others f.clients past

-- ---- no other row is changed

abbrev is_itself : Bool → Bool
is_itself b = b

module _ (client : Client) (suppressed : Bool) where
  rows_unnoticed : (cs : List ClientRow) → map quiet_row (map (suppressed_at client suppressed) cs) ≡ map quiet_row cs
  rows_unnoticed [] = refl
  rows_unnoticed (c ∷ cs) = λ i. by (same_path c.role client.role) i ∷ rows_unnoticed cs i
    where
      by : (b : Bool) → record (if b then record c { suppressed = suppressed } else c) { suppressed = true } ≡ record c { suppressed = true }
      by true = refl
      by false = refl

  frameworks_unnoticed : (fs : List FrameworkRow) → map quiet_framework (map (suppressed_in client suppressed) fs) ≡ map quiet_framework fs
  frameworks_unnoticed [] = refl
  frameworks_unnoticed (f ∷ fs) = λ i. by (same_text f.name client.framework) i ∷ frameworks_unnoticed fs i
    where
      by : (b : Bool) → quiet_framework (if b then record f { clients = map (suppressed_at client suppressed) f.clients } else f) ≡ quiet_framework f
      by true = λ i. record f { clients = rows_unnoticed f.clients i }
      by false = refl

  module _ (other : Client) (differ : is_same_client other client ≡ false) where
    other_row : (f : FrameworkRow) (c : ClientRow) → same_text f.name client.framework ≡ true
        → passes_row is_itself other f (suppressed_at client suppressed c) ≡ passes_row is_itself other f c
    other_row f c own = by (same_path c.role client.role) refl
      where
        by : (b : Bool) → same_path c.role client.role ≡ b
            → passes_row is_itself other f (if b then record c { suppressed = suppressed } else c) ≡ passes_row is_itself other f c
        by true here =
            let role : c.role ≡ client.role = same_path-true c.role client.role here in
            let framework : f.name ≡ client.framework = same_from_test f.name client.framework own in
            let past : is_same_client other (client_of f c) ≡ false =
            (λ i. is_same_client other (record { role = role i; framework = framework i })) ∙ differ in
            ap (λ (b : Bool). not b || suppressed) past ∙ sym (ap (λ (b : Bool). not b || c.suppressed) past)
        by false past = refl

    other_framework : (f : FrameworkRow) → passes is_itself other (suppressed_in client suppressed f) ≡ passes is_itself other f
    other_framework f = by (same_text f.name client.framework) refl
      where
        by : (b : Bool) → same_text f.name client.framework ≡ b
            → passes is_itself other (if b then record f { clients = map (suppressed_at client suppressed) f.clients } else f) ≡ passes is_itself other f
        by true here = all_as_before (passes_row is_itself other f) (suppressed_at client suppressed) f.clients (λ c. other_row f c here)
        by false past = refl

    others_as_before : (fs : List FrameworkRow) → list_all (passes is_itself other) (map (suppressed_in client suppressed) fs) ≡ list_all (passes is_itself other) fs
    others_as_before fs = all_as_before (passes is_itself other) (suppressed_in client suppressed) fs other_framework

pub suppression_is_its_clients : SuppressionIsItsClients
unfolding effect
suppression_is_its_clients rows client = (
  record {
    client_suppressed = all_each (passes is_itself client) (suppressed_in client true) rows.frameworks (own_framework client is_itself true refl);
    others_as_before = λ other differ. others_as_before client true other differ rows.frameworks;
    nothing_else_there = frameworks_unnoticed client true rows.frameworks;
    only_frameworks = refl;
  },
  record {
    client_served = all_each (passes not client) (suppressed_in client false) rows.frameworks (own_framework client not false refl);
    others_as_before = λ other differ. others_as_before client false other differ rows.frameworks;
    nothing_else_there = frameworks_unnoticed client false rows.frameworks;
    only_frameworks_and_filters = refl;
  },
)
