use Rattle.std.proofs.Common.{◌↔◌, IsTrue, subst}
use Rattle.drf_role.specs.Parts.{parts_of, BeginsWith, GoesOn}
use Rattle.drf_role.proofs.PartLaws.{begins_decided}
use Rattle.drf_role.proofs.joined.Joined.begins_with.Goals as goal

pub returns : goal.returns
returns c =
    let text = c.text.result.now in
    let prefix = c.text-2.result.now in
    let by_bytes = subst (λ bs. IsTrue c.goes_on.result ↔ GoesOn bs c.as_bytes-2.result.now) c.as_bytes.ensures.value c.goes_on.ensures in
    let by_text = subst (λ bs. IsTrue c.goes_on.result ↔ GoesOn text bs) c.as_bytes-2.ensures.value by_bytes in
    let by_parts = begins_decided c.goes_on.result text prefix by_text in
    let of_self = subst (λ ps. IsTrue c.goes_on.result ↔ BeginsWith ps (parts_of prefix)) c.text.ensures.parts by_parts in
    subst (λ ps. IsTrue c.goes_on.result ↔ BeginsWith c.args.self.now ps) c.text-2.ensures.parts of_self
