-- The steps in which the reader reads a piece, in the order of their errors. It is proved that the steps together give
-- the meaning of a piece.
use Rattle.std.specs.Prelude.{ℕ, ◌+◌, ◌-◌, ◌^◌, ◌&&◌, ◌==◌, List, [], ◌∷◌, length, Option, Some, None, Result, Ok, Err, if◌then◌else◌, nat_lt, nat_le, IsOk}
use Rattle.std.specs.List.{list_any, flat_map, range_with_len}
use Rattle.std.specs.Option.{option_copied, ok_or}
use Rattle.std.specs.Ordering.{nat_cmp}
use Rattle.std.specs.Str.Parse.{digits_value}
use Rattle.std.specs.FinSet as set
use Rattle.drf_role.specs.Text.{Text}
use Rattle.drf_role.specs.Path.{Path}
use Rattle.drf_role.specs.Parts.{parts_of}
use Rattle.drf_role.specs.Role.{default_role}
use Rattle.drf_bundle.specs.Union.{has_other_kind}
use Rattle.drf_bundle.specs.Value.{amount_in}
use Rattle.drf_bundle.specs.declared.quantities.Entry.{Entry}
use Rattle.drf_bundle.specs.declared.resource.Resource.{Resource}
use Rattle.drf_bundle.specs.declared.value.Value.{Value}
use Rattle.drf_bundle.specs.declared.value.Value.TheVariants.{Scalar, Ranges, Items}
use Rattle.drf_text.specs.Blanks.{trimmed}
use Rattle.drf_text.specs.Meaning.{put, counted}
use Rattle.drf_text.specs.Number.{is_number, thousandths_of}
use Rattle.drf_role.specs.Tests.{is_label, is_role}
use Rattle.drf_text.specs.Pieces.{begins, inside, parts_between, head_of, body_of, is_reserved, name_of, role_text_of, low_of, high_of, is_head, is_body, is_end}
use Rattle.drf_text.specs.declared.fault.TextFault.{TextFault}
use Rattle.drf_text.specs.declared.fault.TextFault.TheVariants.{Syntax, BadName, BadRole, BadNumber, TooLarge}
use Rattle.drf_text.specs.declared.fault.TextFault.TheVariants as fault
use Rattle.drf_text.specs.declared.piece.Head.{Head}
use Rattle.drf_text.specs.declared.piece.Kind.{Kind}
use Rattle.drf_text.specs.declared.piece.Kind.TheVariants as kind
use Rattle.drf_text.specs.declared.piece.Body.{Body}
use Rattle.drf_text.specs.declared.said.Draft.{Draft}
use Rattle.drf_text.specs.declared.said.Said.{Said}
use Rattle.drf_text.specs.declared.said.Counted.{Counted}

-- ---- steps

infixr 10 ◌>>=◌
-- a step, and then the next step with its result; the first error is the result
abbrev pub ◌>>=◌ : {A B : Type 0} → Result A TextFault → (A → Result B TextFault) → Result B TextFault
◌>>=◌ (Ok x) next = next x
◌>>=◌ (Err fault) next = Err fault

-- a step on each element of a list, which fails if one of them fails
abbrev pub each_of : {A B : Type 0} → (A → Result B TextFault) → List A → Result (List B) TextFault
each_of step [] = Ok []
each_of step (x ∷ xs) = step x >>= λ y. each_of step xs >>= λ ys. Ok (y ∷ ys)

-- ---- cutting

-- the trimmed parts before and after the first `:`
unfoldable pub cut_in : Text → Result (Text × Text) TextFault
cut_in piece = if list_any (λ b. b == 58) piece then Ok (head_of piece, body_of piece) else Err Syntax

abbrev pub view_head : Head → Text × Option Text
view_head head = (head.name.now, option_copied head.role)

-- a head without `(`
unfoldable pub plain_head_in : Text → Result (Text × Option Text) TextFault
plain_head_in head = if list_any (λ b. b == 41) head then Err Syntax else Ok (trimmed head, None)

-- the name, and the text of the role if there is one
unfoldable pub head_in : Text → Result (Text × Option Text) TextFault
head_in head =
    if is_head head then Ok (name_of head, if is_reserved head then Some (role_text_of head) else None) else Err Syntax

abbrev pub view_body : Body → Kind × Text
view_body body = (body.kind, body.text.now)

abbrev pub kind_of : Text → Kind
kind_of body = if begins 91 body then kind.Ranges else if begins 123 body then kind.Items else kind.Scalar

abbrev pub content_of : Kind → Text → Text
content_of kind.Scalar body = body
content_of kind.Ranges body = inside body
content_of kind.Items body = inside body

-- the kind of a value, and the text in its brackets if it has any
unfoldable pub body_in : Text → Result (Kind × Text) TextFault
body_in body = if is_body body then Ok (kind_of body, content_of (kind_of body) body) else Err Syntax

-- ---- names and roles

unfoldable pub label_in : Text → Result Text TextFault
label_in text = if is_label text then Ok text else Err BadName

-- the members of a set; other kinds of values have none
unfoldable pub members_in : Kind × Text → Result (List Text) TextFault
members_in body = members body.0 body.1
  where
    members : Kind → Text → Result (List Text) TextFault
    members kind.Scalar text = Ok []
    members kind.Ranges text = Ok []
    members kind.Items text = each_of label_in (parts_between text)

unfoldable pub role_in : Option Text → Result Path TextFault
role_in None = Ok default_role
role_in (Some text) = if is_role text then Ok (parts_of text) else Err BadRole

-- the name of a piece with a valid form; only after this step memory can run out
unfoldable pub named_in : Text → Result Text TextFault
named_in piece = cut_in piece >>= λ parts. head_in parts.0 >>= λ head. body_in parts.1 >>= λ body. label_in head.0

-- the first piece, if there is one, has a valid form and a valid name
abbrev pub IsFirstNamed : List Text → Type 0
IsFirstNamed [] = Unit {0}
IsFirstNamed (piece ∷ pieces) = IsOk (named_in piece)

-- ---- values

abbrev pub end_in : Text → Option ℕ
end_in text = if is_end text then Some (digits_value 10 text) else None

-- the two ends of a range, if the first is not greater than the last
abbrev pub ends_in : Text → Text → Option (ℕ × ℕ)
ends_in low high =
    if is_end low && is_end high && nat_le (digits_value 10 low) (digits_value 10 high)
    then Some (digits_value 10 low, digits_value 10 high) else None

unfoldable pub pair_in : Text → Result (ℕ × ℕ) TextFault
pair_in part = ok_or (ends_in (low_of part) (high_of part)) BadNumber

abbrev pub numbers_between : ℕ × ℕ → List ℕ
numbers_between pair = range_with_len pair.0 (pair.1 + 1 - pair.0)

-- the value, or nothing if a scalar is 2^64 thousandths or more
abbrev pub fitting : Value → Option Value
fitting (Scalar thousandths) = if nat_lt thousandths (2 ^ 64) then Some (Scalar thousandths) else None
fitting (Ranges numbers) = Some (Ranges numbers)
fitting (Items members) = Some (Items members)

unfoldable pub scalar_in : Text → Result (Option Value) TextFault
scalar_in text = if is_number text then Ok (fitting (Scalar (thousandths_of text))) else Err BadNumber

unfoldable pub ranges_in : Text → Result (set.FinSet nat_cmp) TextFault
ranges_in text = each_of pair_in (parts_between text) >>= λ pairs. Ok (set.from_list (flat_map numbers_between pairs))

-- the value, whose members were read before; nothing if a scalar is too large
unfoldable pub value_in : Kind × Text → List Text → Result (Option Value) TextFault
value_in body members = value body.0 body.1
  where
    value : Kind → Text → Result (Option Value) TextFault
    value kind.Scalar text = scalar_in text
    value kind.Ranges text = ranges_in text >>= λ numbers. Ok (Some (Ranges numbers))
    value kind.Items text = Ok (Some (Items (set.from_list members)))

-- ---- pieces

-- a piece that is partly read: its role, and its value apart from the members of a set, are still to be read
pub record DraftOf : Type 0 where
  pub label : Text
  pub role : Option Text
  pub body : Kind × Text
  pub members : List Text

abbrev pub view_draft : Draft → DraftOf
view_draft draft = record {
  label = draft.label;
  role = option_copied draft.role;
  body = view_body draft.body;
  members = draft.members.items;
}

unfoldable pub draft_in : Text → Result DraftOf TextFault
draft_in piece =
    cut_in piece >>= λ parts. head_in parts.0 >>= λ head. body_in parts.1 >>= λ body. label_in head.0 >>= λ label.
    members_in body >>= λ members. Ok (record { label = label; role = head.1; body = body; members = members })

-- the resource that a piece of a bundle describes
unfoldable pub said_in : Text → Result Said TextFault
said_in piece =
    draft_in piece >>= λ draft. role_in draft.role >>= λ role. value_in draft.body draft.members >>= λ value.
    Ok (record { label = draft.label; role = role; value = value })

-- fails if there are parentheses
abbrev pub no_role : Option Text → Result (Unit {0}) TextFault
no_role None = Ok tt
no_role (Some text) = Err BadRole

-- the entry that a piece of quantities describes
unfoldable pub counted_in : Text → Result Counted TextFault
counted_in piece =
    draft_in piece >>= λ draft. no_role draft.role >>= λ _. value_in draft.body draft.members >>= λ value.
    Ok (record { label = draft.label; value = value })

-- ---- pieces put together

-- a piece added to the resources of earlier pieces; `Kind` comes before `TooLarge`
abbrev pub put_said : List Resource → Said → Result (List Resource) TextFault
put_said earlier said = put_value said.value
  where
    put_value : Option Value → Result (List Resource) TextFault
    put_value None = Err (if has_other_kind earlier said.label (Scalar 0) then fault.Kind else TooLarge)
    put_value (Some v) =
        if nat_lt 0 (amount_in v) then put earlier (record { label = said.label; role = said.role; value = v }) else Ok earlier

abbrev pub put_counted : List Entry → Counted → Result (List Entry) TextFault
put_counted earlier said = put_value said.value
  where
    put_value : Option Value → Result (List Entry) TextFault
    put_value None = Err TooLarge
    put_value (Some v) = counted earlier said.label v

-- the resources after the text between two `;`; a blank text changes nothing
unfoldable pub bundle_step : Text → List Resource → Result (List Resource) TextFault
bundle_step text earlier =
    if nat_lt 0 (length (trimmed text)) then (said_in (trimmed text) >>= put_said earlier) else Ok earlier

unfoldable pub quantities_step : Text → List Entry → Result (List Entry) TextFault
quantities_step text earlier =
    if nat_lt 0 (length (trimmed text)) then (counted_in (trimmed text) >>= put_counted earlier) else Ok earlier
