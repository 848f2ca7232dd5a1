use Rattle.std.proofs.Common.{refl, sym, append-nil}
use Rattle.tatp_text.specs.Number.{phone_text}
use Rattle.tatp_text.proofs.Joined.{phones_after, texts_more}
use Rattle.tatp_text.proofs.reply.push_phones.Goals as goal

pub returns-after-loop-other : goal.returns-after-loop-other
returns-after-loop-other c =
    phones_after c.args.line.now.items c.push_phone.new.line.items c.loop-other.line.items c.in-Some.first.now c.in-Some.others.now c.args.phones.now c.loop-other.other-index c.in-Some.ensures.cases.0 c.in_ok-push_phone.ensures c.loop-other-test.false c.loop-other.invariant

pub loop-other-preserved : goal.loop-other-preserved
loop-other-preserved c =
    texts_more phone_text c.in-Some.others.now c.loop-other.other-index c.push_phone.new.line.items c.loop-other.line.items c.push.new.self.items c.push_phone-in-loop-other.new.line.items _ c.loop-other-test.true c.loop-other.invariant c.in_ok-push.ensures.items refl c.in_ok-push_phone-2.ensures

pub loop-other-init : goal.loop-other-init
loop-other-init c = sym (append-nil c.push_phone.new.line.items)
