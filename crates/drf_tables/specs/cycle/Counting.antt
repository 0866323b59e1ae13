-- The counts of clients after offers.
use Rattle.std.specs.Prelude.{ℕ, ◌+◌, ◌^◌, ◌<◌, List, [], ◌∷◌, fold, flat_map, length, map}
use Rattle.std.specs.List.{AllByRecursion}
use Rattle.drf_rows.specs.Cycle.{count_offer}
use Rattle.drf_rows.specs.Held.{client_of}
use Rattle.drf_rows.specs.Holdings.{holding_of_offer}
use Rattle.drf_rows.specs.declared.rows.ClientRow.{ClientRow}
use Rattle.drf_rows.specs.declared.rows.FrameworkRow.{FrameworkRow}
use Rattle.drf_rows.specs.declared.rows.OfferRow.{OfferRow}

-- the frameworks after an offer is counted for its client
abbrev pub counting : List FrameworkRow → OfferRow → List FrameworkRow
counting frameworks offer = map (count_offer (holding_of_offer offer).client) frameworks

-- the frameworks after offers are counted for their clients
abbrev pub counting_all : List FrameworkRow → List OfferRow → List FrameworkRow
counting_all frameworks offers = fold counting frameworks offers

-- this many more offers can be counted for each client without overflow
abbrev pub CanCount : ℕ → List ClientRow → Type 0
CanCount number clients = AllByRecursion (λ c. c.count + number < 2 ^ 64) clients

abbrev pub CanCountAll : ℕ → List FrameworkRow → Type 0
CanCountAll number frameworks = AllByRecursion (λ f. CanCount number f.clients) frameworks

-- the number of the first offer, or the next number if there is none
abbrev pub first_number : List OfferRow → ℕ → ℕ
first_number [] next = next
first_number (o ∷ os) next = o.number

-- the number of all clients
abbrev pub count_clients : List FrameworkRow → ℕ
count_clients frameworks = length (flat_map (λ f. map (client_of f) f.clients) frameworks)
