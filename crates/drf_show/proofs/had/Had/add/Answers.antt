use Rattle.std.proofs.Common.{◌≡◌, ◌∷◌, [], ◌++◌, cond, Some, None, is_some, sym, ap, ◌∙◌}
use Rattle.std.specs.Map.{lookup}
use Rattle.std.specs.Option.{option_copied_mut}
use Rattle.std.proofs.lemmas.List.{map-append}
use Rattle.drf_role.specs.Text.{Text, same_text}
use Rattle.drf_show.specs.Had.{Part, parts_of}
use Rattle.drf_show.proofs.Parts.{parts_or, parts_at, added_at}
use Rattle.drf_show.proofs.had.Had.add.Goals as goal

pub returns-in-Some : goal.returns-in-Some
returns-in-Some c =
    let framework : Text = c.args.framework.now in
    let part : Part = (c.args.role.now, c.args.bundle.now) in
    let old = c.args.self.now.by_framework.entries in
    let found : lookup (same_text framework) old ≡ Some c.in-Some.parts.now = sym c.get_mut.ensures.value ∙ ap option_copied_mut c.in-Some.is in
    let wrote = (c.get_mut.follows.holds c.push.new.self).3 (ap is_some found) in
    let pushed : parts_or (Some c.push.new.self) ≡ parts_at old framework ++ part ∷ [] =
    ap parts_of c.in_ok-push.ensures.items ∙ map-append (λ p. (p.0.now, p.1.now)) c.in-Some.parts.now.items ((c.args.role, c.args.bundle) ∷ [])
    ∙ ap (λ ps. ps ++ part ∷ []) (sym (ap parts_or found)) in
    added_at old (c.get_mut.follows.lender c.push.new.self).entries framework (Some c.push.new.self) part wrote.0 pushed

pub returns : goal.returns
returns c =
    let framework : Text = c.args.framework.now in
    let part : Part = (c.args.role.now, c.args.bundle.now) in
    let old = c.args.self.now.by_framework.entries in
    let none : lookup (same_text framework) old ≡ None = sym c.get_mut.ensures.value ∙ ap option_copied_mut c.in_default.is in
    let same = c.get_mut.follows.holds-at-none in
    let mid = c.get_mut.follows.lender-at-none.entries in
    let key : Text = c.in_ok-copy.field-0 in
    let copied : key ≡ framework = c.in_ok-copy.ensures in
    let missing : lookup (same_text key) mid ≡ None = (λ i. lookup (same_text (copied i)) (same i).entries) ∙ none in
    let v = c.push-2.new.self in
    let pushed : parts_or (Some v) ≡ parts_at mid key ++ part ∷ [] =
    ap parts_of (c.in_ok-push-2.ensures.items ∙ ap (λ bs. bs ++ (c.args.role, c.args.bundle) ∷ []) c.new-parts.ensures.items)
    ∙ ap (λ ps. ps ++ part ∷ []) (sym (ap parts_or missing)) in
    let updates = c.in_ok-insert.ensures.updates in
    λ q. added_at mid c.insert.new.self.entries key (Some v) part updates.0 pushed q
    ∙ (λ i. parts_at (same i).entries q ++ cond (same_text (copied i) q) (part ∷ []) [])
