use Rattle.std.proofs.Common.{◌++◌}
use Rattle.json.specs.Print.{quoted}
use Rattle.drf_ask.proofs.Texts.{string_begun, byte_more, string_ended}
use Rattle.drf_ask.proofs.text.push_string.Goals as goal

pub loop-byte-init : goal.loop-byte-init
loop-byte-init c = string_begun c.args.bytes.now c.args.text.now.items c.push.new.self.items c.in_ok-push.ensures.items

pub loop-byte-preserved : goal.loop-byte-preserved
loop-byte-preserved c =
    byte_more c.args.bytes.now c.loop-byte.byte-index (c.args.text.now.items ++ quoted c.args.bytes.now) c.loop-byte.text.items _
    c.loop-byte-test.true c.in_ok-push_escaped.ensures c.loop-byte.invariant

pub returns : goal.returns
returns c =
    string_ended c.args.bytes.now c.loop-byte.byte-index (c.args.text.now.items ++ quoted c.args.bytes.now) c.loop-byte.text.items _
    c.loop-byte-test.false c.loop-byte.invariant c.in_ok-push-2.ensures.items
