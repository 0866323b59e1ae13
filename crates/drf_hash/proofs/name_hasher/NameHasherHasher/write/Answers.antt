use Rattle.std.proofs.Common.{ap, ◌∙◌}
use Rattle.std.specs.Hash.FoldHasher as folding
use Rattle.std.specs.declared.hash.FoldHasher.{FoldHasher}
use Rattle.drf_hash.specs.Reading.{read_text}
use Rattle.drf_hash.proofs.name_hasher.NameHasherHasher.write.Goals as goal

pub returns : goal.returns
unfolding read_text
returns c =
    let same = c.write.ensures ∙ ap (λ (fold : FoldHasher). folding.write fold c.args.bytes.now) c.read_length.ensures in
    λ i. record { fold = same i }
