-- How the content changes when the row of one client changes.
use Rattle.std.specs.Prelude.{◌≡◌, ◌&&◌, Bool, true, false, List, [], ◌∷◌, ◌++◌, map, flat_map, if◌then◌else◌}
use Rattle.std.proofs.Common.{refl, sym, ap, ◌∙◌, inl, inr}
use Rattle.std.proofs.lemmas.Bool.{cases_Bool}
use Rattle.std.proofs.lemmas.List.{map-append}
use Rattle.drf_role.specs.Text.{same_text}
use Rattle.drf_role.specs.Path.{Path, same_path}
use Rattle.drf_role.proofs.PathLaws.{same_path-client_path}
use Rattle.drf_rows.specs.Client.{Client, path_of}
use Rattle.drf_rows.specs.Holdings.{Holding}
use Rattle.drf_rows.specs.Held.{client_of}
use Rattle.drf_rows.specs.declared.rows.ClientRow.{ClientRow}
use Rattle.drf_rows.specs.declared.rows.FrameworkRow.{FrameworkRow}
use Rattle.drf_sorter.specs.Content.{Ranked}
use Rattle.drf_content.specs.Content.{ranked}

-- the clients of a framework as a sorter holds them
abbrev pub ranked_all : List Holding → FrameworkRow → List Ranked
ranked_all holdings f = map (ranked holdings f) f.clients

pub ranked-path : (hs : List Holding) (f : FrameworkRow) (c : ClientRow)
    → (ranked hs f c).path ≡ path_of (client_of f c)
unfolding ranked
ranked-path hs f c = refl

ranked-framework : (hs : List Holding) (f : FrameworkRow) (cs : List ClientRow)
    → ranked hs (record f { clients = cs }) ≡ ranked hs f
unfolding ranked
ranked-framework hs f cs = refl

-- changes the row of a client, and leaves those of other roles
abbrev pub change_row : Client → (ClientRow → ClientRow) → ClientRow → ClientRow
change_row client change c = if same_path c.role client.role then change c else c

abbrev pub change_framework : Client → (ClientRow → ClientRow) → FrameworkRow → FrameworkRow
change_framework client change f =
    if same_text f.name client.framework then record f { clients = map (change_row client change) f.clients } else f

-- changes the client of a path, and leaves the others
abbrev pub change_ranked : Path → (Ranked → Ranked) → Ranked → Ranked
change_ranked path change c = if same_path c.path path then change c else c

-- the path of a client of a framework
abbrev path_in : FrameworkRow → ClientRow → Path
path_in f c = path_of (client_of f c)

module _ (client : Client) (row : ClientRow → ClientRow) (change : Ranked → Ranked) (before after : List Holding)
    (others : (f : FrameworkRow) (c : ClientRow) → same_path (path_in f c) (path_of client) ≡ false
    → ranked after f c ≡ ranked before f c)
    (its_own : (f : FrameworkRow) (c : ClientRow) → same_path (path_in f c) (path_of client) ≡ true
    → ranked after f (row c) ≡ change (ranked before f c)) where
  -- two paths are equal exactly if their frameworks and roles are
  tests : (f : FrameworkRow) (c : ClientRow)
      → same_path (ranked before f c).path (path_of client)
      ≡ (same_text f.name client.framework && same_path c.role client.role)
  tests f c =
      ap (λ (p : Path). same_path p (path_of client)) (ranked-path before f c)
      ∙ same_path-client_path c.role client.role f.name client.framework

  -- clients of other frameworks do not change
  each_past : (f : FrameworkRow) (cs : List ClientRow) → same_text f.name client.framework ≡ false
      → map (ranked after f) cs ≡ map (change_ranked (path_of client) change) (map (ranked before f) cs)
  each_past f [] past = refl
  each_past f (c ∷ cs) past =
      let test : same_path (ranked before f c).path (path_of client) ≡ false
      = tests f c ∙ ap (λ (b : Bool). b && same_path c.role client.role) past in
      let other : same_path (path_in f c) (path_of client) ≡ false
      = sym (ap (λ (p : Path). same_path p (path_of client)) (ranked-path before f c)) ∙ test in
      let head : ranked after f c ≡ change_ranked (path_of client) change (ranked before f c) = rw test (others f c other) in
      λ i. head i ∷ each_past f cs past i

  -- of its own framework, only the client changes
  each_here : (f : FrameworkRow) (cs : List ClientRow) → same_text f.name client.framework ≡ true
      → map (ranked after f) (map (change_row client row) cs) ≡ map (change_ranked (path_of client) change) (map (ranked before f) cs)
  each_here f [] here = refl
  each_here f (c ∷ cs) here =
      let test : same_path (ranked before f c).path (path_of client) ≡ same_path c.role client.role
      = tests f c ∙ ap (λ (b : Bool). b && same_path c.role client.role) here in
      let path : same_path (path_in f c) (path_of client) ≡ same_path c.role client.role
      = sym (ap (λ (p : Path). same_path p (path_of client)) (ranked-path before f c)) ∙ test in
      let head : ranked after f (change_row client row c) ≡ change_ranked (path_of client) change (ranked before f c)
      = elim (cases_Bool (same_path c.role client.role)) [
        | inl same ↦ rw (test ∙ same, same) (its_own f c (path ∙ same))
        | inr other ↦ rw (test ∙ other, other) (others f c (path ∙ other))
      ] in
      λ i. head i ∷ each_here f cs here i

  one_framework : (f : FrameworkRow)
      → ranked_all after (change_framework client row f) ≡ map (change_ranked (path_of client) change) (ranked_all before f)
  one_framework f = elim (cases_Bool (same_text f.name client.framework)) [
    | inl here ↦ rw here (
        ap (λ (r : ClientRow → Ranked). map r (map (change_row client row) f.clients))
        (ranked-framework after f (map (change_row client row) f.clients))
        ∙ each_here f f.clients here)
    | inr past ↦ rw past (each_past f f.clients past)
  ]

  -- over all frameworks, only the client changes
  pub ranked-changed : (fs : List FrameworkRow)
      → flat_map (ranked_all after) (map (change_framework client row) fs)
      ≡ map (change_ranked (path_of client) change) (flat_map (ranked_all before) fs)
  ranked-changed [] = refl
  ranked-changed (f ∷ fs) =
      (λ i. one_framework f i ++ ranked-changed fs i)
      ∙ sym (map-append (change_ranked (path_of client) change) (ranked_all before f) (flat_map (ranked_all before) fs))
