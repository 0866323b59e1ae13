-- The meaning of a text of a bundle or of quantities: the meaning of each piece, combined from the left.
use Rattle.std.specs.Prelude.{◌+◌, ◌^◌, Bool, true, false, List, [], ◌∷◌, Option, Some, None, Result, Ok, Err, if◌then◌else◌, nat_lt}
use Rattle.std.specs.Option.{option_map}
use Rattle.drf_role.specs.Text.{Text}
use Rattle.drf_amount.specs.declared.algebra.AlgebraFault.{AlgebraFault}
use Rattle.drf_amount.specs.declared.algebra.AlgebraFault.TheVariants as refusal
use Rattle.drf_bundle.specs.Quantities.{amount_of, with_amount}
use Rattle.drf_bundle.specs.Value.{amount_in}
use Rattle.drf_bundle.specs.Union.{union_refusal, with_united}
use Rattle.drf_bundle.specs.declared.quantities.Entry.{Entry}
use Rattle.drf_bundle.specs.declared.resource.Resource.{Resource}
use Rattle.drf_bundle.specs.declared.value.Value.{Value}
use Rattle.drf_bundle.specs.declared.value.Value.TheVariants.{Scalar, Ranges, Items}
use Rattle.drf_text.specs.Pieces.{pieces_of, head_of, body_of, name_of, value_of, fault_of, quantity_fault_of, resource_of}
use Rattle.drf_text.specs.declared.fault.TextFault.{TextFault}
use Rattle.drf_text.specs.declared.fault.TextFault.TheVariants.{Kind, Overlap, TooLarge, Memory}

-- the meaning after one piece: its error; or, if the piece is empty, that of the later pieces; or that of the later
-- pieces after the piece was added
abbrev pub after : {T : Type 0} → Option TextFault → Bool → Result T TextFault → T → (T → Result T TextFault) → Result T TextFault
after (Some refused) filled now earlier more = Err refused
after None false now earlier more = more earlier
after None true (Err refused) earlier more = Err refused
after None true (Ok now) earlier more = more now

-- ---- bundles

-- the error of a text for an error of a union; a union never has the last two
abbrev pub text_fault_of : AlgebraFault → TextFault
text_fault_of refusal.Kind = Kind
text_fault_of refusal.Overlap = Overlap
text_fault_of refusal.TooLarge = TooLarge
text_fault_of refusal.NotCovered = Memory
text_fault_of refusal.Memory = Memory

-- the error for which a resource cannot be added to those of earlier pieces
abbrev pub clash_of : List Resource → Resource → Option TextFault
clash_of earlier r = option_map text_fault_of (union_refusal earlier r)

-- the resources with one more: under one name and reservation, sets are united and scalars are added
abbrev pub put_or : Option TextFault → List Resource → Result (List Resource) TextFault
put_or (Some refused) whole = Err refused
put_or None whole = Ok whole

abbrev pub put : List Resource → Resource → Result (List Resource) TextFault
put earlier r = put_or (clash_of earlier r) (with_united earlier r)

-- the meaning of the pieces after earlier ones; the first piece with an error decides
abbrev pub meaning_from : List Text → List Resource → Result (List Resource) TextFault
meaning_from [] earlier = Ok earlier
meaning_from (piece ∷ pieces) earlier =
    after (fault_of piece) (nat_lt 0 (amount_in (resource_of piece).value)) (put earlier (resource_of piece)) earlier (meaning_from pieces)

-- the bundle that a text means, or the error for which it has no meaning
abbrev pub meaning_of : Text → Result (List Resource) TextFault
meaning_of text = meaning_from (pieces_of text) []

-- ---- quantities

-- a scalar added to the amount of its name, even if it is 0
abbrev pub counted : List Entry → Text → Value → Result (List Entry) TextFault
counted earlier name (Scalar thousandths) =
    let sum = amount_of earlier name + thousandths in if nat_lt sum (2 ^ 64) then Ok (with_amount earlier name sum) else Err TooLarge
counted earlier name (Ranges numbers) = Err Kind
counted earlier name (Items members) = Err Kind

-- the meaning of the pieces after earlier ones; the first piece with an error decides
abbrev pub quantities_from : List Text → List Entry → Result (List Entry) TextFault
quantities_from [] earlier = Ok earlier
quantities_from (piece ∷ pieces) earlier =
    after (quantity_fault_of piece) true (counted earlier (name_of (head_of piece)) (value_of (body_of piece))) earlier (quantities_from pieces)

-- the quantities that a text means, or the error for which it has no meaning
abbrev pub quantities_meant : Text → Result (List Entry) TextFault
quantities_meant text = quantities_from (pieces_of text) []
