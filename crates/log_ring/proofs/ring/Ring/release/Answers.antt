use Rattle.std.proofs.Common.{◌≡◌, nat_lt, refl, sym, rules, subst}
use Rattle.std.specs.List.{filter}
use Rattle.std.proofs.lemmas.Fn.{filter_same}
use Rattle.redo_record.specs.Fits.{Logged}
use Rattle.log_ring.specs.Laid.{AreLaid}
use Rattle.log_ring.proofs.Laid.{laid_less, fits_less}
use Rattle.log_ring.proofs.ring.Ring.release.Goals as goal

pub kept : (c : goal.After-self-1) → c.retain.new.self.items ≡ filter (λ (l : Logged). nat_lt c.args.reproduced l.last) c.self.inside.records.items
kept c = filter_same _ _ _ (λ x b f' k. search rules) _ _ c.retain.ensures.filtered

pub invariant_of-self : goal.invariant_of-self
invariant_of-self c =
    let a = c.self.inside in
    record {
      accepted = c.self.invariant.accepted;
      ring = c.self.invariant.ring;
      next = c.self.invariant.next;
      room = rw c.retain.ensures.capacity c.self.invariant.room;
      laid = subst (AreLaid a.place a.next) (sym (kept c)) (laid_less a.place a.next c.args.reproduced a.records.items c.self.invariant.next c.self.invariant.laid);
    }

pub returns-clause-ring : goal.returns-clause-ring
returns-clause-ring c = rw (kept c, c.max-self-inside.ensures, ← c.self.view_is) refl

pub returns-clause-fits : goal.returns-clause-fits
returns-clause-fits c p fits upto =
    let a = c.self.inside in
    rw (kept c, c.max-self-inside.ensures) (fits_less a.place a.ring a.next c.args.reproduced a.records.items a.released p c.self.invariant.laid (rw (← c.self.view_is) at fits) upto)
