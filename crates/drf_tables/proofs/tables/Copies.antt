-- Copies of maps, entry by entry.
use Rattle.std.specs.List.{AllByRecursion, IsDistinct}
use Rattle.std.specs.Map.{keys_of}
use Rattle.std.specs.Global.{Vec}
use Rattle.std.proofs.Common.{refl, sym, ap, ◌∙◌, subst, append_assoc, ◌≡◌, ℕ, Bool, false, List, [], ◌∷◌, ◌++◌, map}
use Rattle.std.proofs.lemmas.Map.Keys.{IsDistinct-head, IsDistinct-tail}
use Rattle.drf_tables.proofs.tables.Names.{insert_entry, Text, ClientRow, Path, Agent, Inside}
use Rattle.drf_rows.specs.declared.rows.FilterRow.{FilterRow}
use Rattle.drf_rows.specs.declared.rows.LimitRow.{LimitRow}
use Rattle.drf_holdings.specs.Stored.{OffersAndTasks}
use Rattle.drf_tables.specs.Inside.{agent_row, framework_rows, rows_in, rows_of, weight_rows}

module _ {K V : Type 0} (same : K → K → Bool) (swap : (x y : K) → same x y ≡ same y x) where
  -- keys are distinct, so a key that was not copied yet is new
  apart : (key : K) (e : K × V) (es : List (K × V)) (rest : List K)
      → AllByRecursion (λ y. same e.0 y ≡ false) (keys_of es ++ key ∷ rest) → same key e.0 ≡ false
  apart key e [] rest none = swap key e.0 ∙ none.0
  apart key e (x ∷ xs) rest none = apart key e xs rest none.1

  -- and its entry is added last
  entry_to_come : (es : List (K × V)) (key : K) (value : V) (rest : List K)
      → IsDistinct same (keys_of es ++ key ∷ rest) → insert_entry same es key value ≡ es ++ (key, value) ∷ []
  entry_to_come [] key value rest distinct = refl
  entry_to_come (e ∷ es) key value rest distinct =
      let other = apart key e es rest (IsDistinct-head same e.0 (keys_of es ++ key ∷ rest) distinct) in
      rw other (ap (λ (xs : List (K × V)). e ∷ xs)
      (entry_to_come es key value rest (IsDistinct-tail same e.0 (keys_of es ++ key ∷ rest) distinct)))

  keys-append : (es fs : List (K × V)) → keys_of (es ++ fs) ≡ keys_of es ++ keys_of fs
  keys-append [] fs = refl
  keys-append (e ∷ es) fs = ap (λ ks. e.0 ∷ ks) (keys-append es fs)

  -- one more entry is copied
  pub copied_more : (whole copied new rest : List (K × V)) (key : K) (value : V)
      → IsDistinct same (keys_of whole) → copied ++ (key, value) ∷ rest ≡ whole
      → new ≡ insert_entry same copied key value → new ++ rest ≡ whole
  copied_more whole copied new rest key value distinct split put =
      let keys : keys_of whole ≡ keys_of copied ++ key ∷ keys_of rest =
      ap keys_of (sym split) ∙ keys-append copied ((key, value) ∷ rest) in
      let last : new ≡ copied ++ (key, value) ∷ [] =
      put ∙ entry_to_come copied key value (keys_of rest) (subst (λ (ks : List K). IsDistinct same ks) keys distinct) in
      ap (λ (es : List (K × V)). es ++ rest) last ∙ append_assoc copied ((key, value) ∷ []) rest ∙ split

-- ---- the tables

-- copies of the fields mean the same rows
pub rows-copied : (t : Inside) (agents : List (Text × Agent)) (frameworks : List (Text × Vec ClientRow)) (holdings : OffersAndTasks)
    (filters : List FilterRow) (weights : List (Path × ℕ)) (limits : List LimitRow)
    → agents ≡ t.agents.entries → framework_rows frameworks ≡ framework_rows t.frameworks.entries → holdings ≡ t.holdings
    → filters ≡ t.filters → weights ≡ t.weights.entries → limits ≡ t.limits
    → rows_of agents frameworks holdings filters weights limits t.clock t.next_offer t.events ≡ rows_in t
unfolding rows_of
rows-copied t agents frameworks holdings filters weights limits agents_are frameworks_are held filters_are weights_are limits_are =
    λ i. record {
      agents = map agent_row (agents_are i);
      frameworks = frameworks_are i;
      offers = (held i).offers;
      tasks = (held i).tasks;
      weights = weight_rows (weights_are i);
      limits = limits_are i;
      filters = filters_are i;
      clock = t.clock;
      next_offer = t.next_offer;
      events = t.events;
    }
