-- When a call fails.
use Rattle.std.specs.Prelude.{◌≡◌, ℕ}
use Rattle.drf_master.specs.Receipts.{Held}
use Rattle.drf_master.specs.declared.master.CallFault.{CallFault}
use Rattle.drf_master.specs.declared.master.CallFault.TheVariants.{Stranger, Memory}

-- `Stranger` only if the pass has another key than the master, and `Memory` only if it has the same
abbrev pub IsCallFault : ℕ → Held → CallFault → Type 0
IsCallFault key pass Stranger = ¬ (pass.key ≡ key)
IsCallFault key pass Memory = pass.key ≡ key
