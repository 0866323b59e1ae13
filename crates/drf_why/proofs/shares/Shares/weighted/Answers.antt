use Rattle.std.proofs.Common.{[], sym, ap, ◌∙◌}
use Rattle.std.specs.HashMap.{get_by_text}
use Rattle.std.specs.Option.{option_copied, option_map_or}
use Rattle.std.specs.Prelude.{string_bytes}
use Rattle.drf_role.specs.Parts.{text_of}
use Rattle.drf_why.proofs.Shared.{share-reported}
use Rattle.drf_why.proofs.shares.Shares.weighted.Goals as goal

pub returns-in-Some : goal.returns-in-Some
returns-in-Some c =
    let node = text_of c.args.node.now in
    let by_node = c.args.self.now.by_node in
    let found = sym (ap option_copied c.in-Some.is) ∙ c.get.ensures.value ∙ ap (get_by_text by_node) c.text.ensures.text in
    c.as_str.ensures.value
    ∙ ap (λ share. option_map_or string_bytes share []) found
    ∙ share-reported (get_by_text by_node node) c.args.self.now.report.now.nodes node (c.requires node)

pub returns-in-None : goal.returns-in-None
returns-in-None c =
    let node = text_of c.args.node.now in
    let by_node = c.args.self.now.by_node in
    let none = sym (ap option_copied c.in-None.is) ∙ c.get.ensures.value ∙ ap (get_by_text by_node) c.text.ensures.text in
    ap (λ share. option_map_or string_bytes share []) none
    ∙ share-reported (get_by_text by_node node) c.args.self.now.report.now.nodes node (c.requires node)
