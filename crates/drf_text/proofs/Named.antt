-- A piece that was read has a valid name.
use Rattle.std.proofs.Common.{◌≡◌, Result, Ok, Err, refl, ap, IsOk}
use Rattle.std.specs.Result.{is_ok}
use Rattle.drf_text.proofs.Names.{Text, trimmed, TextFault}
use Rattle.drf_text.specs.Steps.{◌>>=◌, cut_in, head_in, body_in, label_in, named_in, DraftOf, draft_in, said_in, counted_in, put_said, put_counted, bundle_step, quantities_step}
use Rattle.drf_text.specs.declared.said.Said.{Said}
use Rattle.drf_text.specs.declared.said.Counted.{Counted}
use Rattle.drf_text.proofs.Reading.{StepsAreNamed}

-- if two steps succeed, the first one does
first_ok : {A B : Type 0} (r : Result A TextFault) (next : A → Result B TextFault) → IsOk (r >>= next) → IsOk r
first_ok (Ok x) next is = refl
first_ok (Err fault) next is = is

next_ok : {A B C : Type 0} (r : Result A TextFault) (next : A → Result B TextFault) (other : A → Result C TextFault)
    → ((x : A) → IsOk (next x) → IsOk (other x)) → IsOk (r >>= next) → IsOk (r >>= other)
next_ok (Ok x) next other more is = more x is
next_ok (Err fault) next other more is = is

named_from_draft : (piece : Text) → IsOk (draft_in piece) → IsOk (named_in piece)
unfolding draft_in named_in
named_from_draft piece is =
    next_ok (cut_in piece) _ _ (λ parts. next_ok (head_in parts.0) _ _ (λ head. next_ok (body_in parts.1) _ _ (λ body. first_ok (label_in head.0) _))) is

pub draft_named : (piece : Text) (draft : DraftOf) → draft_in piece ≡ Ok draft → IsOk (named_in piece)
draft_named piece draft is = named_from_draft piece (ap is_ok is)

said_ok : (piece : Text) → IsOk (said_in piece) → IsOk (named_in piece)
unfolding said_in
said_ok piece is = named_from_draft piece (first_ok (draft_in piece) _ is)

pub said_named : (piece : Text) (said : Said) → said_in piece ≡ Ok said → IsOk (named_in piece)
said_named piece said is = said_ok piece (ap is_ok is)

counted_ok : (piece : Text) → IsOk (counted_in piece) → IsOk (named_in piece)
unfolding counted_in
counted_ok piece is = named_from_draft piece (first_ok (draft_in piece) _ is)

pub counted_named : (piece : Text) (said : Counted) → counted_in piece ≡ Ok said → IsOk (named_in piece)
counted_named piece said is = counted_ok piece (ap is_ok is)

pub bundle_steps_named : StepsAreNamed bundle_step
unfolding bundle_step
bundle_steps_named text earlier now some is = said_ok (trimmed text) (first_ok (said_in (trimmed text)) (put_said earlier) (ap is_ok (rw some at is)))

pub quantities_steps_named : StepsAreNamed quantities_step
unfolding quantities_step
quantities_steps_named text earlier now some is = counted_ok (trimmed text) (first_ok (counted_in (trimmed text)) (put_counted earlier) (ap is_ok (rw some at is)))
