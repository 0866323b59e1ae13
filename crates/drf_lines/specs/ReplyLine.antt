-- The line of a reply: compact JSON with its keys in byte order, and a line feed (RFC 8259).
use Rattle.std.specs.Prelude.{ℕ, true, List, [], ◌∷◌, ◌++◌, map, codes}
use Rattle.serde_json.specs.Data.{Data, boolean, number, unsigned, string, array, object, member, no_members}
use Rattle.serde_json.specs.View.{items_of}
use Rattle.serde_json.specs.Written.{compact_text}
use Rattle.drf_role.specs.Parts.{text_of}
use Rattle.drf_rows.specs.Refusal.{refusal_number, refusal_name}
use Rattle.drf_rows.specs.declared.reply.OfferLine.{OfferLine}
use Rattle.drf_rows.specs.declared.reply.Reply.{Reply}
use Rattle.drf_rows.specs.declared.reply.Reply.TheVariants.{Done, Offers, Report, Refused}
use Rattle.drf_lines.specs.declared.fault.LineFault.{LineFault}
use Rattle.drf_lines.specs.Fault.{fault_number, fault_name}
use Rattle.drf_lines.specs.ReportLine.{report_value}
use Rattle.drf_text.specs.Written.{bundle_text}

abbrev pub offer_value : OfferLine → Data
offer_value offer = object (
    member (codes "agent") (string offer.agent)
    (member (codes "framework") (string offer.framework)
    (member (codes "offer") (number (unsigned offer.number))
    (member (codes "resources") (string (bundle_text offer.resources))
    (member (codes "role") (string (text_of offer.role))
    no_members)))))

abbrev pub offers_value : List OfferLine → Data
offers_value offers = object (member (codes "offers") (array (items_of (map offer_value offers))) no_members)

-- the object that reports a refusal or an error
abbrev pub refused_value : List ℕ → ℕ → Data
refused_value name reason =
    object (member (codes "name") (string name) (member (codes "refused") (number (unsigned reason)) no_members))

-- a reply as JSON
abbrev pub reply_value : Reply → Data
reply_value Done = object (member (codes "ok") (boolean true) no_members)
reply_value (Offers offers) = offers_value offers
reply_value (Report report) = report_value report
reply_value (Refused refusal) = refused_value (refusal_name refusal) (refusal_number refusal)

-- a JSON value with a line feed
abbrev pub line_of : Data → List ℕ
line_of value = compact_text value ++ 10 ∷ []

-- the line of a reply
unfoldable pub reply_line : Reply → List ℕ
reply_line reply = line_of (reply_value reply)

-- the line that reports why a line is not an event
unfoldable pub fault_line : LineFault → List ℕ
fault_line fault = line_of (refused_value (fault_name fault) (fault_number fault))
