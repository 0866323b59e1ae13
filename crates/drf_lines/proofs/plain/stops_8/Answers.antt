use Rattle.std.proofs.Common.{arith}
use Rattle.std.proofs.lemmas.Simd.{zip2_splat}
use Rattle.drf_lines.proofs.Lanes.{hit, below, joined, stops_in}
use Rattle.drf_lines.proofs.plain.stops_8.Goals as goal

pub returns : goal.returns
returns c =
    let bytes = c.args.bytes in
    let long = c.fits-bytes.0 in
    stops_in 8 bytes (omega arith) long c.fits-bytes.1
    (joined _ _ bytes (joined _ _ bytes (zip2_splat hit bytes 8 34 long) (zip2_splat hit bytes 8 92 long)) (zip2_splat below bytes 8 32 long))
