use Rattle.std.proofs.Common.{◌≡◌, map, take, ◌∙◌, ◌++◌, List, ℕ, string_bytes, sym, ap, take_all}
use Rattle.std.specs.List.{join_with_byte}
use Rattle.std.specs.FinSet as set
use Rattle.std.specs.Cmp.Lexicographic.{nat_list_cmp_total}
use Rattle.drf_kinds.specs.Names.{text_cmp}
use Rattle.drf_kinds.specs.Listed.{listed}
use Rattle.drf_kinds.proofs.ListedLaws.{listed-from_list}
use Rattle.drf_text.proofs.Joined.{mapped_more, map_same}
use Rattle.drf_text.proofs.write.push_names.Goals as goal

pub loop-i-preserved : goal.loop-i-preserved
loop-i-preserved c =
    let e = c.index-names-i.result in
    mapped_more (λ (name : List ℕ). name) (string_bytes c.args.text.now) 44 c.names-names.result.now c.loop-i.i e (string_bytes c.loop-i.text) (string_bytes c.push_str.new.self) c.loop-i-test.true c.index-names-i.is c.loop-i.invariant
    (c.in_ok-push_str.ensures.bytes ∙ (λ i. c.in_ok-push_separator.ensures i ++ c.text.ensures.text i))

pub returns : goal.returns
returns c =
    let names : listed c.args.items.now ≡ c.names-names.result.now =
    ap listed (sym c.names-names.ensures.value)
    ∙ listed-from_list text_cmp nat_list_cmp_total (set.slice_cmp-IsAntisymmetric set.nat_cmp-IsAntisymmetric) c.names-names.result.now c.names-names.ensures.ascending in
    let all : map (λ name. name) (take c.loop-i.i c.names-names.result.now) ≡ listed c.args.items.now =
    map_same (take c.loop-i.i c.names-names.result.now) ∙ take_all c.loop-i.i c.names-names.result.now c.loop-i-test.false ∙ sym names in
    c.loop-i.invariant ∙ ap (λ (ns : List (List ℕ)). string_bytes c.args.text.now ++ join_with_byte 44 ns) all
