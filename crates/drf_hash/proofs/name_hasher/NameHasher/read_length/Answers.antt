use Rattle.std.proofs.Common.{◌≡◌, true, false, nat_lt, refl, arith}
use Rattle.std.proofs.lemmas.Bool.Decides.{nat_tests}
use Rattle.drf_hash.specs.Reading.{with_length}
use Rattle.drf_hash.proofs.name_hasher.NameHasher.read_length.Goals as goal

pub returns-then-length-le-SHORT : goal.returns-then-length-le-SHORT
unfolding with_length
returns-then-length-le-SHORT c =
    let short : nat_lt 8 c.args.length ≡ false = grind (arith, nat_tests, c.if-length-le-SHORT.true) in
    rw short refl

pub returns : goal.returns
unfolding with_length
returns c =
    let long : nat_lt 8 c.args.length ≡ true = grind (arith, nat_tests, c.if-length-le-SHORT.false) in
    rw long c.write.ensures
