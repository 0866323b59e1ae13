use Rattle.std.specs.Option.{is_some, option_map_or}
use Rattle.std.proofs.Common.{refl, ◌≡◌, ℕ, List, None, Option, Some, true}
use Rattle.drf_tree.proofs.Names.{Path, Place, client_at, is_live, place_at}
use Rattle.drf_tree.proofs.tree.Tree.leaf.Goals as goal

-- the node of a client is live
client_live : (places : List (Option Place)) (node : ℕ) (path : Path) → client_at places node ≡ Some path
    → is_live places node ≡ true
client_live places node path client = by (place_at places node) client
  where
    by : (place : Option Place) → option_map_or (λ p. p.client) place None ≡ Some path → is_some place ≡ true
    by None none = absurd cc
    by (Some place) some = refl

pub returns-then-is_client-clause-at : goal.returns-then-is_client-clause-at
returns-then-is_client-clause-at c =
    (c.requires.others c.args.known c.args.path.now (c.is_client.ensures c.if-is_client.true)).0

pub returns-then-is_client-clause-live : goal.returns-then-is_client-clause-live
returns-then-is_client-clause-live c =
    client_live c.args.self.now.places.items c.args.known c.args.path.now (c.is_client.ensures c.if-is_client.true)
