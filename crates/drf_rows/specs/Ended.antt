-- The `Release` of the definition that a value of the type `Release` in `src/release.rt` means.
use Rattle.drf_rows.specs.Releases.{Release, one_offer, one_task, offers_on, all_on, all_of}
use Rattle.drf_rows.specs.declared.release.Release as reported
use Rattle.drf_rows.specs.declared.release.Release.TheVariants.{Offer, Task, OffersOn, AllOn, AllOf}

abbrev pub release_of : reported.Release → Release
release_of (Offer number) = one_offer number
release_of (Task framework name) = one_task framework.now name.now
release_of (OffersOn agent) = offers_on agent.now
release_of (AllOn agent) = all_on agent.now
release_of (AllOf framework) = all_of framework.now
