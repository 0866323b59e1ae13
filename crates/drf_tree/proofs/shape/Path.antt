-- Prefixes of paths.
use Rattle.std.specs.Cmp.Lexicographic.{bytes_decides}
use Rattle.std.proofs.Common.{refl, sym, ap, ◌∙◌, append_assoc, arith, length-append, ◌≡◌, ◌≤◌, true, [], ◌∷◌, ◌++◌, drop, length, append-nil}
use Rattle.std.proofs.lemmas.Slice.Eq.{starts_is}
use Rattle.drf_tree.proofs.Names.{Text, Path, begins_with}

pub begins_to : (path node : Path) → begins_with path node ≡ true → path ≡ node ++ drop (length node) path
begins_to path node begins = (starts_is bytes_decides path node (begins_with path node) refl).0 begins

pub begins_by : (path node rest : Path) → path ≡ node ++ rest → begins_with path node ≡ true
begins_by path node rest whole = (starts_is bytes_decides path node (begins_with path node) refl).1 rest whole

pub begins_itself : (path : Path) → begins_with path path ≡ true
begins_itself path = begins_by path path [] (sym (append-nil path))

pub begins_trans : (a b c : Path) → begins_with a b ≡ true → begins_with b c ≡ true → begins_with a c ≡ true
begins_trans a b c first second =
    begins_by a c (drop (length c) b ++ drop (length b) a)
    (begins_to a b first
    ∙ ap (λ (n : Path). n ++ drop (length b) a) (begins_to b c second)
    ∙ append_assoc c (drop (length c) b) (drop (length b) a))

-- a path that begins with a node of one part more begins with the node
pub begins_above : (path node : Path) (name : Text) → begins_with path (node ++ name ∷ []) ≡ true
    → begins_with path node ≡ true
begins_above path node name begins =
    begins_trans path (node ++ name ∷ []) node begins (begins_by (node ++ name ∷ []) node (name ∷ []) refl)

pub begins_long : (path node : Path) → begins_with path node ≡ true → length node ≤ length path
begins_long path node begins =
    omega (arith, ap length (begins_to path node begins), length-append node (drop (length node) path))

-- a longer path begins with all parts of the other except the last
prefix_of : (node rest prefix : Path) (part name : Text) → node ++ part ∷ rest ≡ prefix ++ name ∷ []
    → (more : Path) × (prefix ≡ node ++ more)
prefix_of [] rest prefix part name same = (prefix, refl)
prefix_of (x ∷ node) rest [] part name same =
    absurd (omega (arith, ap length same, length-append node (part ∷ rest)))
prefix_of (x ∷ node) rest (y ∷ prefix) part name same =
    let tail : node ++ part ∷ rest ≡ prefix ++ name ∷ [] = cc in
    let head : y ≡ x = cc in
    let later = prefix_of node rest prefix part name tail in
    (later.0, λ i. head i ∷ later.1 i)

pub begins_prefix : (node rest prefix : Path) (part name : Text) → node ++ part ∷ rest ≡ prefix ++ name ∷ []
    → begins_with prefix node ≡ true
begins_prefix node rest prefix part name same =
    let more = prefix_of node rest prefix part name same in
    begins_by prefix node more.0 more.1
