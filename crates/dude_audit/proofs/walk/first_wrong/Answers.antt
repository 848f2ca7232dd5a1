use Rattle.std.proofs.Common.{◌∙◌}
use Rattle.std.proofs.lemmas.Bool.{both_ways}
use Rattle.dude_audit.proofs.Along.{wrong_here, right_here, after_here}
use Rattle.dude_audit.proofs.walk.first_wrong.Goals as goal

pub returns-then-not-has_text-clause-wrong : goal.returns-then-not-has_text-clause-wrong
returns-then-not-has_text-clause-wrong c =
    let at = c.loop-k.invariant in
    wrong_here _ _ _ _ _ c.loop-k.k _ c.in_ok-reply.reply c.loop-k-test.true at.along at.after c.in_ok-reply.ensures.reply
    _ _ (c.deref.ensures.value ∙ c.in_ok-push_reply.ensures) c.clear.ensures.items
    (λ same. both_ways _ c.if-not-has_text.true (c.has_text.ensures.1 same))

pub loop-k-preserved : goal.loop-k-preserved
loop-k-preserved c =
    let at = c.loop-k.invariant in
    record {
      along = right_here _ _ _ _ _ c.loop-k.k _ c.in_ok-reply.reply c.loop-k-test.true at.along at.after c.in_ok-reply.ensures.reply
          _ _ (c.deref.ensures.value ∙ c.in_ok-push_reply.ensures) c.clear.ensures.items (c.has_text.ensures.0 c.if-not-has_text.false);
      after = after_here _ _ _ _ _ c.loop-k.k _ c.in_ok-reply.reply c.loop-k-test.true at.along at.after c.in_ok-reply.ensures.reply _ c.in_ok-reply.ensures.after;
      in_order = c.step.ensures.in_order;
      room = c.step.ensures.room;
    }
