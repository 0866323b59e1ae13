use Rattle.std.proofs.Common.{◌≡◌, ap, ◌∙◌}
use Rattle.std.specs.List.{list_any}
use Rattle.std.specs.Option.{option_copied}
use Rattle.drf_role.specs.Path.{Path}
use Rattle.drf_why.specs.Passers.{first_bundle, passers_by}
use Rattle.drf_why.specs.Pick.{earlier_on, is_inactive, is_nothing_free, outcome_in, outcome_on, own_on}
use Rattle.drf_why.specs.Places.{turn_of}
use Rattle.drf_why.specs.Tally.{more_if, with_outcome, with_passed}
use Rattle.drf_why.specs.declared.tally.Tally.{Tally}
use Rattle.drf_why.proofs.PassersFound.{granted-passers}
use Rattle.drf_why.proofs.tally.Tally.take.Goals as goal

pub returns : goal.returns
returns c =
    let old : Tally = c.args.self.now in
    let path : Path = old.client in
    let turn = c.args.turn.now in
    let reported = turn.turn.now.reported.items in
    let own = c.own-own.ensures in
    let outcome : option_copied c.first_outcome.result ≡ outcome_on path reported = c.first_outcome.ensures ∙ ap outcome_in own in
    let counted : c.count_outcome.new.self ≡ with_outcome (outcome_on path reported) old =
    c.count_outcome.ensures ∙ ap (λ o. with_outcome o old) outcome in
    let inactive : c.raise_if.new.count ≡ more_if (list_any is_inactive reported) old.inactive =
    c.raise_if.ensures ∙ (λ i. more_if (c.requires.inactive i) (counted i).inactive) in
    let nothing_free : c.raise_if-2.new.count ≡ more_if (list_any is_nothing_free reported) old.nothing_free =
    c.raise_if-2.ensures ∙ (λ i. more_if (c.requires.nothing_free i) (counted i).nothing_free) in
    c.in_ok-count_passers.ensures
    ∙ (λ i. with_passed (passers_by (own i) (c.grants_before-earlier.ensures i) (c.first_bundle-bundle.ensures i))
    (record (counted i) { inactive = inactive i; nothing_free = nothing_free i }))
    ∙ ap (λ paths. with_passed paths
    (record (with_outcome (outcome_on path reported) old) {
      inactive = more_if (list_any is_inactive reported) old.inactive;
      nothing_free = more_if (list_any is_nothing_free reported) old.nothing_free;
    }))
    (granted-passers (own_on path reported) (earlier_on path reported) (first_bundle path (turn_of turn)))
