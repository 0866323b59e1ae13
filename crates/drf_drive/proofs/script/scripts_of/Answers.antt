use Rattle.std.proofs.Common.{ℕ, List, ap, sym, subst, ◌∙◌, Result, Ok, Err, IfOk, IfErr}
use Rattle.std.specs.Global.{Vec}
use Rattle.rayon.proofs.ToStd.{slice-AllZip}
use Rattle.drf_rows.specs.declared.event.Event.{Event}
use Rattle.drf_drive.specs.Files.{bytes_of}
use Rattle.drf_drive.specs.Scripts.{AreScripts, AreWhole, HaveBadLine, HaveStopped, IsScriptOf}
use Rattle.drf_drive.specs.declared.script.Script.{Script}
use Rattle.drf_drive.specs.declared.script.ScriptFault.{ScriptFault}
use Rattle.drf_drive.proofs.Scripts.{AreScriptsOf, scripts-stopped, scripts-whole}
use Rattle.drf_drive.proofs.script.scripts_of.Goals as goal

module _ (files : List (Vec ℕ)) (scripts : List Script) (of : AreScriptsOf files scripts) where
  all-whole : (r : Result (Vec (Vec Event)) ScriptFault) → IfOk r (λ events. AreWhole scripts events.items) → IfOk r (λ events. AreScripts (bytes_of files) events.items)
  all-whole (Ok events) whole = scripts-whole files scripts events.items of whole
  all-whole (Err fault) whole = tt

  one-stopped : (r : Result (Vec (Vec Event)) ScriptFault) → IfErr r (HaveStopped scripts) → IfErr r (HaveBadLine (bytes_of files))
  one-stopped (Ok events) stopped = tt
  one-stopped (Err fault) stopped = scripts-stopped files scripts of fault stopped

pub returns : goal.returns
returns g c =
    let files : List (Vec ℕ) = c.args.contents.now in
    let h = c.in_ok-scripts.ensures in
    let chain = h.1 in
    let slice = ap (λ it. it.base.slice.now) c.map.ensures.base ∙ ap (λ it. it.slice.now) c.with_min_len.ensures.base ∙ c.par_iter.ensures in
    let each = slice-AllZip chain.0 files (chain.1 ∙ slice) (λ (file : Vec ℕ) (script : Script). IsScriptOf file.items script) h.0 chain.2 in
    let of = subst (AreScriptsOf files) (sym h.2) each in
    let scripts = c.in_ok-scripts.scripts.items in
    let reported = c.all_whole.ensures in
    record { ok = all-whole files scripts of c.all_whole.result reported.ok; err = one-stopped files scripts of c.all_whole.result reported.err }
