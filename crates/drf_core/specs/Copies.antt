-- Copies of a reply that are made before anything changes.
use Rattle.std.specs.Prelude.{Bool, Option, Some, None, if◌then◌else◌}
use Rattle.drf_rows.specs.declared.reply.Reply.{Reply}

-- two copies of a reply, if they are wanted
abbrev pub copies_if : Bool → Reply → Option (Reply × Reply)
copies_if copied reply = if copied then Some (reply, reply) else None
