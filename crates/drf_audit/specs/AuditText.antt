-- The line of an audit: compact JSON (RFC 8259) with keys in byte order, and a line feed.
use Rattle.std.specs.Prelude.{ℕ, List, [], ◌∷◌, ◌++◌, codes}
use Rattle.serde_json.specs.Data.{Data, number, unsigned, string, object, member, no_members}
use Rattle.serde_json.specs.Written.{compact_text}
use Rattle.drf_text.specs.Written.{bundle_text}
use Rattle.drf_audit.specs.declared.agents.AuditLine.{AuditLine}

abbrev pub audit_value : AuditLine → Data
audit_value line = object (
    member (codes "agent") (string line.agent)
    (member (codes "free") (string (bundle_text line.free))
    (member (codes "out") (number (unsigned line.out))
    (member (codes "total") (string (bundle_text line.total))
    no_members))))

-- the line of an agent
unfoldable pub audit_text : AuditLine → List ℕ
audit_text line = compact_text (audit_value line) ++ 10 ∷ []
