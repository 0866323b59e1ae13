use Rattle.std.proofs.Common.{◌≡◌, ℕ, ◌+◌, List, [], ◌∷◌, ◌++◌, length, map, take, ◌∙◌, sym, ap, subst, arith}
use Rattle.std.specs.Global.{Vec}
use Rattle.std.proofs.lemmas.List.{length-map}
use Rattle.drf_journal.specs.Files.{Known, IsFileFault, MayHave}
use Rattle.drf_drive.specs.Files.{AreContents, IsUnread, bytes_of, fault_of}
use Rattle.drf_drive.proofs.Contents.{contents-fault, contents-next}
use Rattle.drf_drive.proofs.files.read_files.Goals as goal

pub returns-in-Err-clause-fault : goal.returns-in-Err-clause-fault
returns-in-Err-clause-fault g c =
    let known = g.F.FileBytes.known c.args.files.now in
    let names = map g.S.AsStr.text c.args.names.now in
    let fault = c.in-Err.fault in
    let read = c.loop-name.contents.items in
    let reported = subst (λ (name : List ℕ). IsFileFault (known name) fault) c.as_str.ensures
    (subst (λ (k : Known). IsFileFault (k c.as_str.result.now) fault) c.loop-name.invariant.same c.in-Err.ensures.fault) in
    let count = ap length c.reserve.ensures.items in
    let place : c.len.result ≡ length (bytes_of read) =
    omega (arith, c.len.ensures, c.reserve.new.self.ok.0, count, length-map read (λ (bytes : Vec ℕ). bytes.items)) in
    subst (IsUnread known names) (sym (c.fault_of.ensures ∙ ap (λ (n : ℕ). fault_of n fault) place))
    (contents-fault g.S.AsStr.text known c.args.names.now c.loop-name.name-index c.name-item.result c.loop-name-test.true c.name-item.is
    (bytes_of read) c.loop-name.invariant.read fault reported)

pub loop-name-preserved : goal.loop-name-preserved
loop-name-preserved g c =
    let known = g.F.FileBytes.known c.args.files.now in
    let bytes = c.in-Ok.bytes in
    let old = c.loop-name.contents.items in
    let whole = subst (λ (name : List ℕ). MayHave (known name) bytes.items) c.as_str.ensures
    (subst (λ (k : Known). MayHave (k c.as_str.result.now) bytes.items) c.loop-name.invariant.same c.in-Ok.ensures.whole) in
    let items : c.push_reserved.new.self.items ≡ old ++ bytes ∷ [] = cc (c.push_reserved.ensures.items, c.reserve.ensures.items) in
    record {
      same = c.bytes.ensures.same ∙ c.loop-name.invariant.same;
      read = subst (λ (l : List (Vec ℕ)). AreContents known (map g.S.AsStr.text (take (c.loop-name.name-index + 1) c.args.names.now)) (bytes_of l)) (sym items)
          (contents-next g.S.AsStr.text known c.args.names.now c.loop-name.name-index c.name-item.result c.loop-name-test.true c.name-item.is
          old bytes c.loop-name.invariant.read whole);
    }
