-- Names that many proofs of this crate use, re-exported from one place.
pub use Rattle.drf_bundle.specs.declared.resource.Resource.{Resource}
pub use Rattle.drf_role.specs.Tests.{is_label, is_label_byte, is_role}
pub use Rattle.drf_role.specs.Text.{Text, same_text, text_below}
pub use Rattle.drf_text.specs.Blanks.{IsOneLastLess, is_blank, trimmed, without_first_blanks, without_last_blanks}
pub use Rattle.drf_text.proofs.ByteLaws.{HasNone, amount_has_none, is_amount_byte, label_has_none, none_of, not_that}
pub use Rattle.drf_text.proofs.DecimalLaws.{decimals_none, decimals_said, digits_of, numerals}
pub use Rattle.drf_text.specs.Faults.{IsCutAs, IsMeaning, IsReported, fault_of_name, fault_of_ranges, fault_of_role}
pub use Rattle.drf_text.specs.Pieces.{begins, body_of, ends, fault_of, first_fault, has_bad_role, has_form, has_labels, has_numbers, has_one_dash, head_of, high_of, inside, is_body, is_end, is_head, is_range, is_reserved, low_of, members_are_labels, name_of, numbers_of, parts_between, parts_inside, pieces_of, quantity_fault_of, resource_of, role_of, role_text_of, value_of}
pub use Rattle.drf_text.specs.RoundTrip.{BundleIsRead, IsEntry, QuantitiesAreRead, WeightIsRead}
pub use Rattle.drf_text.specs.Steps.{each_of, view_head, ◌>>=◌}
pub use Rattle.drf_text.specs.Written.{amount_text, head_text, interval_text, intervals_text, items_text, quantity_text, ranges_text, resource_text, value_text}
pub use Rattle.drf_text.specs.declared.fault.TextFault.{TextFault}
pub use Rattle.drf_text.specs.declared.fault.TextFault.TheVariants.{BadName, BadNumber, BadRole, Kind, Memory, Syntax, TooLarge}
