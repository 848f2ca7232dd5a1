-- What it leaves to announce and reproduce all.
use Rattle.std.proofs.Common.{◌≡◌, ◌↔◌, ℕ, ◌+◌, ◌<◌, ◌≤◌, true, false, List, length, sym, ap, ◌∙◌, subst, ⊎_elim, arith}
use Rattle.std.specs.Prelude.{Result, Ok, IfOk, IsErrOf}
use Rattle.std.specs.List.{Contains}
use mathlib.Core.Logic.{dite}
use native.Mathlib.Decide.{dec_le, dec_lt}
use Rattle.dude_base.specs.Records.{RedoRecord}
use Rattle.pmem_trait.specs.Sights.{Sight}
use Rattle.redo_record.specs.Waiting.{Waiting}
use Rattle.redo_record.proofs.WaitingRecords.{consecutive_up}
use Rattle.back_store.specs.Backlog.{StopsAfter}
use Rattle.back_store.specs.Answers.{after_announce, after_reproduce, announced, reproduced}
use Rattle.back_store.specs.Back.{BackState, IsEnd, waiting_now}
use Rattle.back_store.specs.declared.back_fault.BackFault.{BackFault}
use Rattle.back_store.specs.declared.back_fault.BackFault.TheVariants.{Dead}
use Rattle.stm_slots.specs.Known.{Known}
use Rattle.stm_slots.specs.KnownLists.{LawfulLists, lists}
use Rattle.stm_slots.specs.Records.{HasRecord}
use Rattle.stm_slots.proofs.JoinedRecords.{not_both}
use Rattle.stm_slots.proofs.Lawful.{EndOf, end_of, waits_over}
use Rattle.run_threads.specs.CaughtUp.{GoesOn, HasCaughtUp}
use Rattle.run_threads.specs.Ending.{Ending, HasDied, IsKnownBy, IsUnderWay, since}
use Rattle.run_threads.specs.Rest.{at, number_at}
use Rattle.run_threads.proofs.RestRises.{of_rest, rising_upto}
use Rattle.stm_turns.proofs.Calling.{alive_unless, announce_goes, announced_ok, reproduce_goes, reproduced_ok, stops_at_durable}
use Rattle.tiny_stm.specs.declared.posted.Posted.{Posted}

module _ (first : ℕ) (v : BackState) (rs : List RedoRecord) (lawful : LawfulLists first (lists v rs)) where
  rings_are : v.log.sizes.rings ≤ length v.log.lanes
  rings_are = let count = lawful.log.lanes.count in omega arith

  pub announce_on : (w : BackState) (result : Result ℕ BackFault) → IfOk result (IsEnd v) → w ≡ after_announce result v → (IsErrOf result Dead ↔ (v.dead ≡ true)) → GoesOn v w
  announce_on w result end is dead = let goes = announce_goes v.log.sizes.rings first v rs lawful w result end is dead in
      record { sizes = goes.sizes; durable = goes.durable; alive = goes.alive; waits = goes.waits }

  pub reproduce_on : (w : BackState) (most : ℕ) (result : Result ℕ BackFault) → IfOk result (StopsAfter v.log most) → w ≡ after_reproduce result v → GoesOn v w
  reproduce_on w most result stop is = let goes = reproduce_goes v.log.sizes.rings first v rs lawful w most result stop is rings_are in
      record { sizes = goes.sizes; durable = goes.durable; alive = goes.alive; waits = goes.waits }

pub then_on : (u v w : BackState) → GoesOn u v → GoesOn v w → GoesOn u w
then_on u v w a b = record {
  sizes = b.sizes ∙ a.sizes;
  durable = (let x = a.durable in let y = b.durable in omega arith);
  alive = λ alive. a.alive (b.alive alive);
  waits = λ alive ring q lt among. a.waits (b.alive alive) ring q lt (b.waits alive ring q (let rings = ap (λ z. z.rings) a.sizes in omega arith) among);
}

module _ (first : ℕ) (u v w : BackState) (rs : List RedoRecord) (lawful : LawfulLists first (lists u rs)) (then : LawfulLists first (lists v rs)) where
  -- both calls succeeded
  pub caught_up : (n m : ℕ) (a b : Result ℕ BackFault) → a ≡ Ok n → IsEnd u n → v ≡ announced u n → (IsErrOf a Dead ↔ (u.dead ≡ true)) → b ≡ Ok m → StopsAfter v.log n m → w ≡ reproduced v m → HasCaughtUp u w
  caught_up n m a b ok end is dead done stop now =
      let one = announced_ok u.log.sizes.rings first u rs lawful v n a ok end is dead in
      let most : v.log.durable ≡ n = one.is.durable in
      let stop_there : StopsAfter v.log v.log.durable m = subst (λ (k : ℕ). StopsAfter v.log k m) (sym most) stop in
      let two = reproduced_ok v.log.sizes.rings first v rs then w n m one.is stop_there now in
      let there : m ≡ v.log.durable = stops_at_durable v.log.sizes.rings first v rs then m stop_there in record {
        end = n;
        is_end = end;
        was_alive = alive_unless u a n ok dead;
        alive = two.is.alive;
        durable = two.is.durable ∙ (there ∙ most);
        reproduced = two.reproduced ∙ (there ∙ most);
      }

  -- then the durable number is the end
  pub caught_durable : (n m : ℕ) (a b : Result ℕ BackFault) → a ≡ Ok n → IsEnd u n → v ≡ announced u n → (IsErrOf a Dead ↔ (u.dead ≡ true)) → b ≡ Ok m → StopsAfter v.log n m → w ≡ reproduced v m → w.log.durable ≡ n
  caught_durable n m a b ok end is dead done stop now =
      let one = announced_ok u.log.sizes.rings first u rs lawful v n a ok end is dead in
      let most : v.log.durable ≡ n = one.is.durable in
      let stop_there : StopsAfter v.log v.log.durable m = subst (λ (k : ℕ). StopsAfter v.log k m) (sym most) stop in
      let two = reproduced_ok v.log.sizes.rings first v rs then w n m one.is stop_there now in
      two.is.durable ∙ (stops_at_durable v.log.sizes.rings first v rs then m stop_there ∙ most)

module _ (e : Ending) (rest : List Posted) (from : ℕ) (v w : BackState) (s t : Sight) (u : IsUnderWay e rest from v s) where
  -- behind such calls all is under way still
  pub under_on : GoesOn v w → w.dead ≡ false → Known (since e) (lists w u.records) t → IsUnderWay e rest from w t
  under_on goes alive known = record {
    of = u.of;
    records = u.records;
    known = record { known = known; listed = u.known.listed; sizes = goes.sizes ∙ u.known.sizes; announced = (let a = u.known.announced in let d = goes.durable in omega arith) };
    left = record {
      alive = alive;
      placed = u.left.placed;
      lacks = u.left.lacks;
      newest = λ i q low lt among. u.left.newest i q low lt (goes.waits alive (at rest i).ring q
          (let of = of_rest e rest u.of i lt in let ring = of.ring in let rings = ap (λ z. z.rings) u.known.sizes in omega arith) among);
    };
  }

  -- or the back died
  pub died_on : GoesOn v w → w.dead ≡ true → Known (since e) (lists w u.records) t → HasDied e w t
  died_on goes dead known = record {
    dead = dead;
    kept = record {
      records = u.records;
      known = record { known = known; listed = u.known.listed; sizes = goes.sizes ∙ u.known.sizes; announced = (let a = u.known.announced in let d = goes.durable in omega arith) };
    };
  }

  module _ (up : HasCaughtUp v w) where
    end_is : EndOf e.setup.first (lists v u.records) u.known.known.lawful up.was_alive up.end
    end_is = end_of e.setup.first (lists v u.records) u.known.known.lawful up.was_alive up.end up.is_end

    from_first : e.setup.first ≤ up.end
    from_first = let a = consecutive_up v.log.reproduced up.end up.is_end.records up.is_end.lead.consecutive in let b = u.known.known.lawful.from in omega arith

    -- all before the next record of the rest is in the home
    pub reaches : from < length rest → number_at rest from ≤ w.log.reproduced + 1
    reaches inside =
        let is = up.reproduced in let low = from_first in
        let of = of_rest e rest u.of from inside in let upto = of.upto in
        dite (dec_le (up.end + 1) e.last)
        (λ le. ⊎_elim
        (λ has. absurd (not_both u.records (up.end + 1) has end_is.next))
        (λ place. let step = rising_upto rest u.of.posted.rising from place.place place.low place.high in let same = place.is in omega arith)
        (u.left.placed (up.end + 1) (omega arith) le))
        (λ over. omega arith)

    -- where nothing of the rest is left, all is
    pub reaches_last : from ≡ length rest → up.end ≡ e.last
    reaches_last all =
        let low = from_first in let first = u.of.first in
        dite (dec_lt up.end e.last)
        (λ lt. ⊎_elim
        (λ has. absurd (not_both u.records (up.end + 1) has end_is.next))
        (λ place. let a = place.low in let b = place.high in absurd (omega arith))
        (u.left.placed (up.end + 1) (omega arith) (omega arith)))
        (λ no. dite (dec_lt e.last up.end)
        (λ over. let is = u.known.listed up.end (end_is.reached up.end (omega arith) (omega arith)) in let le = is.0 in absurd (omega arith))
        (λ upto. omega arith))

-- where all up to the last number is in the home, nothing waits
pub none_waits : (e : Ending) (records : List RedoRecord) (w : BackState) (t : Sight) → IsKnownBy e records w t → w.dead ≡ false → w.log.reproduced ≡ e.last → (x : Waiting) → Contains (waiting_now w) x → ⊥
none_waits e records w t known alive at_last x among =
    let over = waits_over w.log known.known.lawful.log x among in
    let has : HasRecord records x.redo.last = ((known.known.lawful.live alive).waits x among).has x.redo.last (record { low = omega arith; high = omega arith }) in
    let le = (known.listed x.redo.last has).0 in absurd (omega arith)
