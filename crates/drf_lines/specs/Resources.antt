-- The texts of resources, quantities and weights in a line.
use Rattle.std.specs.Prelude.{ℕ, List, Result, Ok, Err}
use Rattle.drf_bundle.specs.declared.quantities.Entry.{Entry}
use Rattle.drf_bundle.specs.declared.resource.Resource.{Resource}
use Rattle.drf_text.specs.Meaning as text
use Rattle.drf_text.specs.Number.{weight_of}
use Rattle.drf_text.specs.declared.fault.TextFault.{TextFault}
use Rattle.drf_lines.specs.declared.fault.LineFault.{LineFault}
use Rattle.drf_lines.specs.declared.fault.LineFault.TheVariants.{BadText}

-- the value that was read; every error becomes `BadText`
abbrev pub read_or_bad : {A : Type 0} → Result A TextFault → Result A LineFault
read_or_bad (Ok x) = Ok x
read_or_bad (Err fault) = Err BadText

-- the bundle that a text means
unfoldable pub bundle_in : List ℕ → Result (List Resource) LineFault
bundle_in bytes = read_or_bad (text.meaning_of bytes)

-- the quantities that a text means, with amounts of 0
unfoldable pub quantities_in : List ℕ → Result (List Entry) LineFault
quantities_in bytes = read_or_bad (text.quantities_meant bytes)

-- the weight that a text means, in thousandths
unfoldable pub weight_in : List ℕ → Result ℕ LineFault
weight_in text = read_or_bad (weight_of text)
