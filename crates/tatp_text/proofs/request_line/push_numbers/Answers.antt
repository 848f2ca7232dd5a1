use Rattle.std.proofs.Common.{refl, sym, append-nil}
use Rattle.std.specs.Prelude.{decimal}
use Rattle.tatp_text.proofs.Joined.{texts_all, texts_more}
use Rattle.tatp_text.proofs.request_line.push_numbers.Goals as goal

pub loop-number-preserved : goal.loop-number-preserved
loop-number-preserved c =
    texts_more decimal c.args.numbers.now c.loop-number.number-index c.args.line.now.items c.loop-number.line.items c.push.new.self.items c.push_number.new.line.items _ c.loop-number-test.true c.loop-number.invariant c.in_ok-push.ensures.items refl c.in_ok-push_number.ensures

pub loop-number-init : goal.loop-number-init
loop-number-init c = sym (append-nil c.args.line.now.items)

pub returns : goal.returns
returns c =
    texts_all decimal c.args.numbers.now c.loop-number.number-index c.args.line.now.items c.loop-number.line.items c.loop-number-test.false c.loop-number.invariant
