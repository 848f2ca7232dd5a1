use Rattle.std.proofs.Common.{◌≡◌, sym, ap, arith}
use Rattle.redo_record.specs.Fits.{Logged}
use Rattle.log_ring.proofs.Laid.{used_first}
use Rattle.log_ring.proofs.ring.Ring.used.Goals as goal

pub returns-in-Some-clause-used : goal.returns-in-Some-clause-used
returns-in-Some-clause-used c =
    let a = c.self.inside in
    let o : Logged = c.in-Some.oldest.now in
    let same : c.oldest.inside.slot ≡ o.slot = ap (λ (l : Logged). l.slot) c.oldest.view_is in
    rw (← c.self.view_is)
    (used_first a.place a.next c.distance.result a.records.items o (rw c.deref.ensures.value at (sym (c.in-Some.ensures.value))) c.self.invariant.laid
    (λ before. let up = c.distance.ensures.up in omega (arith, same, up (omega (arith, same))))
    (λ behind. let around = c.distance.ensures.around in omega (arith, same, around (omega (arith, same)))))
