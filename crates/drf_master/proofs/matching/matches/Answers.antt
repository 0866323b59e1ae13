use Rattle.std.proofs.Common.{◌≡◌, ℕ, ◌≤◌, ◌+◌, length, List, [], ◌∷◌, ◌++◌, Bool, Option, Some, None, take, ap, sym, subst, ◌∙◌, take_all, true≢false}
use Rattle.std.proofs.lemmas.List.{map_more}
use Rattle.drf_board.specs.declared.entry.Entry.{Entry}
use Rattle.drf_master.specs.Matching.{IsShuffle, IsMissing, IsWrong, IsLeast, receipts_of}
use Rattle.drf_master.specs.Receipts.{Held}
use Rattle.drf_master.specs.Tallies.{IsTally, IsLeastIfAny}
use Rattle.drf_master.specs.declared.matching.CloseFault.TheVariants.{Missing, Mismatch}
use Rattle.drf_master.specs.declared.pass.Receipt.{Receipt}
use Rattle.drf_master.proofs.laws.ShuffleLaws.{no_fault, is_shuffle}
use Rattle.drf_master.proofs.matching.matches.Goals as goal

pub loop-pass-preserved : goal.loop-pass-preserved
loop-pass-preserved c =
    let more : receipts_of (take (c.loop-pass.pass-index + 1) c.args.passes.now) ≡ receipts_of (take c.loop-pass.pass-index c.args.passes.now) ++ c.receipts.result.now ∷ [] =
    map_more (λ (h : Held). h.receipts) c.args.passes.now c.loop-pass.pass-index _ c.loop-pass-test.true
    ∙ ap (λ rs. receipts_of (take c.loop-pass.pass-index c.args.passes.now) ++ rs ∷ []) (sym (c.receipts.ensures ∙ ap (λ (h : Held). h.receipts) c.pass-item.is)) in
    subst (λ (lists : List (List Receipt)). IsTally c.args.journal.now lists c.take_all.new.self.named.items c.take_all.new.self.wrong) (sym more)
    (c.take_all.ensures (receipts_of (take c.loop-pass.pass-index c.args.passes.now)) c.loop-pass.invariant)

-- if no place is wrong and there are enough receipts, the journal is a shuffle
told-ok : (journal : List Entry) (lists : List (List Receipt)) (named : List Bool) (wrong : Option ℕ) → IsTally journal lists named wrong → wrong ≡ None
    → ¬ IsMissing journal lists → IsShuffle journal lists
told-ok journal lists named wrong tally none enough =
    is_shuffle journal lists (tally.entries none) (subst (IsLeastIfAny (IsWrong journal lists)) none tally.least) enough

told-wrong : (journal : List Entry) (lists : List (List Receipt)) (named : List Bool) (wrong : Option ℕ) (place : ℕ) → IsTally journal lists named wrong
    → wrong ≡ Some place → IsLeast (IsWrong journal lists) place
told-wrong journal lists named wrong place tally some = subst (IsLeastIfAny (IsWrong journal lists)) some tally.least

is-all : (passes : List Held) (index : ℕ) → length passes ≤ index → receipts_of (take index passes) ≡ receipts_of passes
is-all passes index past = ap receipts_of (take_all index passes past)

pub returns-then-lack-clause-exact : goal.returns-then-lack-clause-exact
returns-then-lack-clause-exact c shuffle =
    no_fault c.args.journal.now (receipts_of c.args.passes.now) Missing shuffle (c.lack.ensures.0 c.if-lack.true)

pub returns-in-None-clause-ok : goal.returns-in-None-clause-ok
returns-in-None-clause-ok c =
    let all = is-all c.args.passes.now c.loop-pass.pass-index c.loop-pass-test.false in
    told-ok c.args.journal.now (receipts_of c.args.passes.now) c.loop-pass.tally.named.items c.loop-pass.tally.wrong
    (subst (λ (lists : List (List Receipt)). IsTally c.args.journal.now lists c.loop-pass.tally.named.items c.loop-pass.tally.wrong) all c.loop-pass.invariant)
    c.in-None.is (λ missing. true≢false (sym (c.lack.ensures.1 missing) ∙ c.if-lack.false))

pub returns-clause-exact : goal.returns-clause-exact
returns-clause-exact c shuffle =
    let all = is-all c.args.passes.now c.loop-pass.pass-index c.loop-pass-test.false in
    no_fault c.args.journal.now (receipts_of c.args.passes.now) (Mismatch c.in-Some.place) shuffle (
      (λ missing. true≢false (sym (c.lack.ensures.1 missing) ∙ c.if-lack.false)),
      told-wrong c.args.journal.now (receipts_of c.args.passes.now) c.loop-pass.tally.named.items c.loop-pass.tally.wrong c.in-Some.place
          (subst (λ (lists : List (List Receipt)). IsTally c.args.journal.now lists c.loop-pass.tally.named.items c.loop-pass.tally.wrong) all c.loop-pass.invariant)
          c.in-Some.is,
    )
