use Rattle.std.proofs.Common.{◌≡◌, ◌<◌, ◌==◌, ◌∷◌, [], ℕ, List, length, get_or, true, sym, ap, ◌∙◌, arith}
use Rattle.std.proofs.lemmas.Bool.{eqb-true}
use Rattle.drf_holdings.proofs.index.is_first.Goals as goal

first_of : (ns : List ℕ) (x n : ℕ) → 0 < length ns → x ≡ get_or ns 0 x → (x == n) ≡ true → (rest : List ℕ) × (ns ≡ n ∷ rest)
first_of [] x n within read same = absurd (omega (arith, within))
first_of (m ∷ ns) x n within read same = (ns, ap (λ (k : ℕ). k ∷ ns) (sym read ∙ eqb-true x n same))

pub returns-in-Some : goal.returns-in-Some
returns-in-Some c here =
    first_of c.args.numbers.now.items c.in-Some.first.now c.args.number c.in-Some.ensures.item.3.0 c.in-Some.ensures.lookup here
