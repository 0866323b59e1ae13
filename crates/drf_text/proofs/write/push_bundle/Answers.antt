use Rattle.std.proofs.Common.{ℕ, List, map, ap, sym, append-nil, ◌∙◌, ◌++◌, string_bytes, take_all}
use Rattle.std.specs.List.{join_with_byte}
use Rattle.drf_bundle.specs.declared.resource.Resource.{Resource}
use Rattle.drf_text.specs.Written.{resource_text, bundle_text}
use Rattle.drf_text.proofs.Joined.{mapped_more}
use Rattle.drf_text.proofs.write.push_bundle.Goals as goal

pub loop-i-init : goal.loop-i-init
loop-i-init c = sym (append-nil (string_bytes c.args.text.now))

pub loop-i-preserved : goal.loop-i-preserved
loop-i-preserved c =
    mapped_more resource_text (string_bytes c.args.text.now) 59 c.entries-resources.result.now c.loop-i.i c.index-resources-i.result (string_bytes c.loop-i.text) (string_bytes c.push_resource.new.text)
    c.loop-i-test.true c.index-resources-i.is c.loop-i.invariant
    (c.in_ok-push_resource.ensures ∙ ap (λ (b : List ℕ). b ++ resource_text c.index-resources-i.result) c.in_ok-push_separator.ensures)

pub returns : goal.returns
unfolding bundle_text
returns c =
    c.loop-i.invariant
    ∙ ap (λ (rs : List Resource). string_bytes c.args.text.now ++ join_with_byte 59 (map resource_text rs))
    (take_all c.loop-i.i c.entries-resources.result.now c.loop-i-test.false ∙ c.entries-resources.ensures.value)
