use Rattle.std.proofs.Common.{true, false, refl, subst, arith, rules}
use Rattle.std.proofs.lemmas.Grind.{common_steps}
use Rattle.pmem_trait.specs.Sights.{CallsMade}
use Rattle.pmem_trait.proofs.Runs.{made_cause}
use Rattle.redo_record.specs.Calls.{append_calls}
use Rattle.log_ring.specs.Ring.{RingState, next_head}
use Rattle.log_ring.proofs.AppendMakes.{appends_safely, wants_of}
use Rattle.log_ring.proofs.ring.Ring.append.Goals as goal

pub returns-then-used-need-clause-safe : goal.returns-then-used-need-clause-safe
returns-then-used-need-clause-safe g c = appends_safely c.args.self.now c.args.b.now _ _ _ (wants_of c.args.b.now c.self.view_is c.self.invariant.accepted (record { ring_is = c.self.invariant.ring; slot_is = c.self.invariant.next }) c.self.invariant.laid c.len-count.ensures.bundle c.requires.may) c.requires.room refl (first_of (search rules, grind (arith, common_steps)))

pub returns-in-Ok-clause-safe : goal.returns-in-Ok-clause-safe
returns-in-Ok-clause-safe g c =
    appends_safely c.args.self.now c.args.b.now _ _ _ (wants_of c.args.b.now c.self.view_is c.self.invariant.accepted (record { ring_is = c.self.invariant.ring; slot_is = c.self.invariant.next }) c.self.invariant.laid c.len-count.ensures.bundle c.requires.may) c.requires.room
    (subst (λ (v : RingState). CallsMade (append_calls v.sizes (next_head v) c.args.b.now) true (g.M.Medium.sight c.args.m.now) (g.M.Medium.sight c.append_record.new.m)) c.self.view_is c.in-Ok.ensures.made) (grind (arith, common_steps))

pub returns-in-Err-clause-cause : goal.returns-in-Err-clause-cause
returns-in-Err-clause-cause g c = record {
  full_is = grind (arith, common_steps);
  device = λ _. made_cause c.in-Err.ensures.made;
  only = search rules;
}

pub returns-in-Err-clause-safe : goal.returns-in-Err-clause-safe
returns-in-Err-clause-safe g c =
    appends_safely c.args.self.now c.args.b.now _ _ _ (wants_of c.args.b.now c.self.view_is c.self.invariant.accepted (record { ring_is = c.self.invariant.ring; slot_is = c.self.invariant.next }) c.self.invariant.laid c.len-count.ensures.bundle c.requires.may) c.requires.room
    (subst (λ (v : RingState). CallsMade (append_calls v.sizes (next_head v) c.args.b.now) false (g.M.Medium.sight c.args.m.now) (g.M.Medium.sight c.append_record.new.m)) c.self.view_is c.in-Err.ensures.made) (grind (arith, common_steps))
