-- Contents whose orders and shares are computed.
use Rattle.std.specs.Prelude.{ℕ, List, [], ◌∷◌, codes}
use Rattle.drf_bundle.specs.declared.quantities.Entry.{Entry}
use Rattle.drf_role.specs.Path.{Path, client_path}
use Rattle.drf_sorter.specs.Content.{Content, charged, empty, refunded, with_change, with_client, with_weight}

-- an amount of cpus, in thousandths
abbrev pub cpus : ℕ → List Entry
cpus amount = record { label = codes "cpus"; amount = amount } ∷ []

abbrev pub eng : Path
eng = codes "eng" ∷ []

abbrev pub dev : Path
dev = codes "dev" ∷ []

abbrev pub client_of_eng : Path
client_of_eng = client_path eng (codes "f1")

abbrev pub client_of_eng_web : Path
client_of_eng_web = client_path (codes "eng" ∷ codes "web" ∷ []) (codes "f2")

abbrev pub client_of_ops : Path
client_of_ops = client_path (codes "ops" ∷ []) (codes "f3")

-- a cluster of 8 cpus and three clients that hold nothing
abbrev pub three_clients : Content
three_clients =
    with_client
    (with_client (with_client (record empty { total = cpus 8000 }) client_of_eng) client_of_eng_web) client_of_ops

abbrev pub with_charge : Path → ℕ → Content → Content
with_charge path amount content = with_change content path (charged (cpus amount) 1)

-- each client was made one offer
abbrev pub three_charges : Content
three_charges =
    with_charge client_of_eng_web 2000 (with_charge client_of_ops 2000 (with_charge client_of_eng 1000 three_clients))

-- the client of `ops` was made a second offer
abbrev pub four_charges : Content
four_charges = with_charge client_of_ops 2000 three_charges

-- what is refunded is no longer held, but the offers still count
abbrev pub ops_gave_back : Content
ops_gave_back = with_change four_charges client_of_ops (refunded (cpus 4000))

abbrev pub eng_has_half_weight : Content
eng_has_half_weight = with_weight four_charges eng 500

-- a role below another can come before that role's own clients
abbrev pub client_of_eng_mark : Path
client_of_eng_mark = client_path (codes "eng" ∷ codes "!x" ∷ []) (codes "f2")

abbrev pub two_clients : Content
two_clients = with_client (with_client (record empty { total = cpus 8000 }) client_of_eng) client_of_eng_mark
