use Rattle.std.proofs.Common.{false, []}
use Rattle.listing_lines.specs.Texts.{text_from}
use Rattle.listing_lines.proofs.TextSteps.{after_escape, after_backslash, after_plain}
use Rattle.listing_lines.proofs.texts.text_behind.Goals as goal

pub bytes-preserved-in_ok-push-in-len1-up : goal.bytes-preserved-in_ok-push-in-len1-up
bytes-preserved-in_ok-push-in-len1-up c =
    after_escape c.bytes.behind c.bytes.text.items c.bytes.rest.now (text_from false [] c.args.bytes.now)
    c.in-len1-up.len_at_least c.bytes.invariant c.push.new.self.items c.in-Some.byte c.if-behind.true
    c.in-Some.ensures c.in_ok-push-in-len1-up.ensures.items

pub bytes-preserved-then-b-eq92 : goal.bytes-preserved-then-b-eq92
bytes-preserved-then-b-eq92 c =
    after_backslash c.bytes.behind c.bytes.text.items c.bytes.rest.now (text_from false [] c.args.bytes.now)
    c.in-len1-up.len_at_least c.bytes.invariant c.if-behind.false c.if-b-eq34.false c.if-b-eq92.true

pub bytes-preserved : goal.bytes-preserved
bytes-preserved c =
    after_plain c.bytes.behind c.bytes.text.items c.bytes.rest.now (text_from false [] c.args.bytes.now)
    c.in-len1-up.len_at_least c.bytes.invariant c.push-else-b-eq92.new.self.items c.if-behind.false
    c.if-b-eq34.false c.if-b-eq92.false c.in_ok-push-in-len1-up-2.ensures.items
