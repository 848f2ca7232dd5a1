-- From the outcome of an append to what its clauses say.
use Rattle.std.proofs.Common.{◌≡◌, ℕ, ◌+◌, ◌*◌, ◌<◌, ◌≤◌, List, length, All, Result, Ok, Err, ◌↔◌, IsErrOf, OnOk, sym, subst, arith, rules, IsTrue}
use Rattle.dude_base.specs.declared.limits.TheConstants.{PAGE}
use Rattle.dude_base.specs.Sizes.{IsAccepted}
use Rattle.dude_base.specs.Image.{image_words}
use Rattle.dude_base.specs.Records.{IsBundle, RedoBundle}
use Rattle.pmem_trait.specs.declared.call.Call.{Call}
use Rattle.pmem_trait.specs.Words.{State, EveryImage, AfterEachCall}
use Rattle.pmem_trait.specs.Sights.{Sight, state_now, Risen, AtEveryMoment}
use Rattle.pmem_trait.proofs.Runs.{made_here, made_cause}
use Rattle.pmem_trait.proofs.Laws.{made_keep, every_moment_here}
use Rattle.redo_record.specs.Cells.{IsCell}
use Rattle.redo_record.specs.Record.{cells_for}
use Rattle.redo_record.specs.Encoding.{IsEncodable}
use Rattle.redo_record.specs.Fits.{settled_mark, cells_used}
use Rattle.redo_record.specs.AppendLaw.{CanAppend, HeadsHold, Appended}
use Rattle.redo_record.specs.Calls.{append_calls}
use Rattle.redo_record.proofs.AppendedRecord.{append_law}
use Rattle.redo_record.proofs.AppendingImages.{append_images, heads_here}
use Rattle.log_ring.specs.declared.ring_fault.RingFault.{RingFault}
use Rattle.log_ring.specs.declared.ring_fault.RingFault.TheVariants.{Full, Device}
use Rattle.log_ring.specs.Laid.{AreLaid}
use Rattle.log_ring.specs.Ring.{RingState, FitsMedium, next_head}
use Rattle.log_ring.specs.Appends.{AppendCalls, AppendsBehind, AppendsSafely, IsOverfull, MayAppend, full_for}
use Rattle.log_ring.proofs.Laid.{laid_free}

-- at Device the count of faults rose
pub device_cause : (r : Result (Unit {0}) RingFault) (cs : List Call) (s t : Sight) → AppendCalls r cs s t → IsErrOf r Device → Risen s.faults t.faults
device_cause (Ok done) cs s t made is = absurd (search rules)
device_cause (Err Device) cs s t made is = made_cause made
device_cause (Err (Full used need)) cs s t made is = absurd (search rules)

-- what the record needs to be appended, but for room
pub record Wants (v : RingState) (r : RedoBundle) : Type 0 where
  pub sizes : IsAccepted v.sizes
  pub cell : IsCell v.sizes (next_head v)
  pub laid : AreLaid v.sizes v.next v.logged
  pub encodable : IsEncodable r
  pub home : All (λ w. w.at < v.sizes.pages * PAGE) r.writes

-- by what the ring keeps and by what the call requires
pub wants_of : {was v : RingState} (r : RedoBundle) → was ≡ v → IsAccepted was.sizes → IsCell was.sizes (next_head was) → AreLaid was.sizes was.next was.logged → IsBundle r → MayAppend v r → Wants v r
wants_of r is accepted cell laid bundle may = record {
  sizes = subst (λ (v : RingState). IsAccepted v.sizes) is accepted;
  cell = subst (λ (v : RingState). IsCell v.sizes (next_head v)) is cell;
  laid = subst (λ (v : RingState). AreLaid v.sizes v.next v.logged) is laid;
  encodable =
      let low = may.numbers.low in
      record {
        number_is = record { low = omega arith; high = may.numbers.high };
        span_is = bundle.span_is;
        first_is = omega arith;
        writes_are = bundle.writes_are;
      };
  home = may.home;
}

pub can_append : (v : RingState) (r : RedoBundle) (mark : ℕ) → Wants v r → (IsOverfull v r → ⊥) → CanAppend v.sizes mark v.logged (next_head v) r
can_append v r mark wants room =
    let few : cells_used v.logged + cells_for (length r.writes) ≤ v.sizes.cells = grind (arith, room) in
    record {
      sizes = wants.sizes;
      cell = wants.cell;
      encodable = wants.encodable;
      home = wants.home;
      room = omega arith;
      free = laid_free v.sizes v.next (cells_for (length r.writes)) mark v.logged wants.laid few;
    }

along : (v : RingState) (r : RedoBundle) (p : State) (len : ℕ) → Wants v r → (IsOverfull v r → ⊥) → image_words v.sizes ≤ len → FitsMedium v p
    → AfterEachCall (EveryImage len (HeadsHold v.sizes v.logged (next_head v) r p)) p (append_calls v.sizes (next_head v) r)
along v r p len wants room long fits = append_images v.sizes v.logged v.released (next_head v) r p len long fits (can_append v r (settled_mark p) wants room)

-- not Full, so there is room
roomy : (v : RingState) (r : RedoBundle) (res : Result (Unit {0}) RingFault) → IsErrOf res (full_for v r) ↔ IsOverfull v r → (res ≡ Err (full_for v r) → ⊥) → IsOverfull v r → ⊥
roomy v r res full other over = other (full.1 over)

heads_kept : (v : RingState) (r : RedoBundle) (res : Result (Unit {0}) RingFault) (s t : Sight) → Wants v r → image_words v.sizes ≤ s.len
    → AppendCalls res (append_calls v.sizes (next_head v) r) s t → IsErrOf res (full_for v r) ↔ IsOverfull v r → (IsTrue s.is_visible → FitsMedium v (state_now s))
    → AtEveryMoment (HeadsHold v.sizes v.logged (next_head v) r (state_now s)) s t
heads_kept v r (Ok done) s t wants long made full fits =
    made_keep _ made (λ told. along v r (state_now s) s.len wants (roomy v r (Ok done) full (λ is. absurd (search rules))) long (fits told))
heads_kept v r (Err Device) s t wants long made full fits =
    made_keep _ made (λ told. along v r (state_now s) s.len wants (roomy v r (Err Device) full (λ is. absurd (search rules))) long (fits told))
heads_kept v r (Err (Full used need)) s t wants long made full fits =
    subst (λ (u : Sight). AtEveryMoment (HeadsHold v.sizes v.logged (next_head v) r (state_now s)) s u) (sym made)
    (every_moment_here _ (λ told. heads_here v.sizes v.logged v.released (next_head v) r (state_now s) (fits told) s.len long))

ends_appended : (v : RingState) (r : RedoBundle) (res : Result (Unit {0}) RingFault) (s t : Sight) → Wants v r → image_words v.sizes ≤ s.len
    → AppendCalls res (append_calls v.sizes (next_head v) r) s t → IsErrOf res (full_for v r) ↔ IsOverfull v r
    → OnOk res (IsTrue s.is_visible → FitsMedium v (state_now s) → Appended v.sizes v.logged v.released (next_head v) r (state_now s) (state_now t))
ends_appended v r (Ok done) s t wants long made full = λ told fits.
    let can = can_append v r (settled_mark (state_now s)) wants (roomy v r (Ok done) full (λ is. absurd (search rules))) in
    subst (Appended v.sizes v.logged v.released (next_head v) r (state_now s)) (sym (made_here made told))
    (append_law v.sizes v.logged v.released (next_head v) r (state_now s) fits can).1
ends_appended v r (Err fault) s t wants long made full = tt

-- what an append left
pub appends_safely : (v : RingState) (r : RedoBundle) (res : Result (Unit {0}) RingFault) (s t : Sight) → Wants v r → image_words v.sizes ≤ s.len → AppendsBehind v r res s t → IsErrOf res (full_for v r) ↔ IsOverfull v r → AppendsSafely v r res s t
appends_safely v r res s t wants long made full = record {
  can = λ mark room. can_append v r mark wants room;
  heads = heads_kept v r res s t wants long made full;
  appended = ends_appended v r res s t wants long made full;
}
