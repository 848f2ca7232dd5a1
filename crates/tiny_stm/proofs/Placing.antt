-- A page is read from the home: what the thread with the turn has behind the call, and what the words are.
use Rattle.std.proofs.Common.{◌≡◌, ◌↔◌, ◌⊎◌, ℕ, ◌+◌, ◌*◌, ◌<◌, true, List, length, get_or, refl, sym, ap, ◌∙◌, subst, ⊎_elim, arith, []}
use Rattle.std.specs.Prelude.{Result, Ok, Err, IfErr, IsErrOf, OnErr, IsTrue}
use Rattle.std.proofs.lemmas.Bool.{false≢true}
use Rattle.std.proofs.lemmas.List.FromFn.{length-map-range_with_len}
use Rattle.dude_base.specs.declared.limits.TheConstants.{PAGE}
use Rattle.dude_base.specs.Image.{home_word}
use Rattle.pmem_trait.specs.Words.{value_of}
use Rattle.pmem_trait.specs.Sights.{Sight, state_now}
use Rattle.pmem_trait.specs.declared.medium.Medium.{Ghosts}
use Rattle.atomic_table.specs.declared.shared.Seat.{Seat}
use Rattle.back_store.specs.declared.back.Back.{Back}
use Rattle.back_store.specs.declared.back_fault.BackFault.{BackFault}
use Rattle.back_store.specs.declared.back_fault.BackFault.TheVariants.{RingFull, Device, Dead}
use Rattle.back_store.specs.Answers.{after_read}
use Rattle.back_store.specs.Back.{BackState, home_now}
use Rattle.back_store.specs.BackView.{medium_of, state_of}
use Rattle.core_events.specs.Setups.{Setup}
use Rattle.core_events.specs.Entries.{value}
use Rattle.core_table.specs.Known.{Known}
use Rattle.core_table.specs.Layout.{TableSight}
use Rattle.stm_slots.specs.Known.{Known as KnownBy}
use Rattle.stm_slots.specs.KnownLists.{lists}
use Rattle.stm_slots.specs.Records.{writes_in}
use Rattle.stm_slots.specs.Beside.{Hands, Beside}
use Rattle.stm_slots.specs.Opening.{setup_of, since_of, start_sight}
use Rattle.stm_slots.specs.declared.home.Home.{Home as TheHome}
use Rattle.stm_slots.specs.declared.slot.Slot.{Slot}
use Rattle.stm_slots.specs.declared.opening.Opening.{Opening}
use Rattle.stm_turns.specs.Holding.{boxes_held, hands_of}
use Rattle.stm_turns.proofs.Calling.{GoesOn, called_turn}
use Rattle.tiny_stm.specs.Filling.{MayFill, MayPlace}
use Rattle.tiny_stm.specs.Paging.{HasTurn}

-- ---- the state
read_same : (threads : ℕ) (v : BackState) → GoesOn threads v v
read_same threads v = record { sizes = refl; durable = omega arith; reproduced = omega arith; dead = λ e. e; alive = λ e. e; waits = λ alive t q lt among. among }

read_dead : (threads : ℕ) (v : BackState) → GoesOn threads v (record v { dead = true })
read_dead threads v = record { sizes = refl; durable = omega arith; reproduced = omega arith; dead = λ e. refl; alive = λ e. absurd (false≢true (sym e)); waits = λ alive t q lt among. absurd (false≢true (sym alive)) }

pub read_goes : (threads : ℕ) (v w : BackState) (result : Result (Unit {0}) BackFault) → w ≡ after_read result v → GoesOn threads v w
read_goes threads v w (Ok done) is = subst (GoesOn threads v) (sym is) (read_same threads v)
read_goes threads v w (Err Device) is = subst (GoesOn threads v) (sym is) (read_dead threads v)
read_goes threads v w (Err Dead) is = subst (GoesOn threads v) (sym is) (read_same threads v)
read_goes threads v w (Err (RingFull used need)) is = subst (GoesOn threads v) (sym is) (read_same threads v)

not_full : (used need : ℕ) → (RingFull used need ≡ Device) ⊎ (RingFull used need ≡ Dead) → ⊥
not_full used need h = ⊎_elim (λ e. cc) (λ e. cc) h

-- a read that fails leaves a dead back
pub read_died : (v w : BackState) (result : Result (Unit {0}) BackFault) → w ≡ after_read result v → (IsErrOf result Dead ↔ (v.dead ≡ true)) → IfErr result (λ fault. (fault ≡ Device) ⊎ (fault ≡ Dead)) → OnErr result (w.dead ≡ true)
read_died v w (Ok done) is dead only = tt
read_died v w (Err Device) is dead only = ap (λ (s : BackState). s.dead) is
read_died v w (Err Dead) is dead only = ap (λ (s : BackState). s.dead) is ∙ dead.0 refl
read_died v w (Err (RingFull used need)) is dead only = absurd (not_full used need only)

-- ---- the seat
module _ {M : Type 0} {ghosts : Ghosts M} (sight : M → Sight) (t : TableSight (Opening M ghosts)) where
  abbrev z : Setup
  z = setup_of sight t.key

  abbrev TurnSeat : Type 0
  TurnSeat = Seat (Slot M ghosts) (Known Beside)

  module _ (seat : TurnSeat) (h : TheHome M ghosts) (b : Back M ghosts) (i : HasTurn sight t seat h) (result : Result (Unit {0}) BackFault) (is : state_of b ≡ after_read result (state_of h.back))
      (known : KnownBy (since_of sight t.key) (lists (state_of b) i.holding.records) (sight (medium_of b))) where
    abbrev pub read_turn : HasTurn sight t seat (record h { back = b })
    read_turn = called_turn sight t seat h [] i b known (read_goes z.threads (state_of h.back) (state_of b) result is)

  -- the words of the page that was read, at the number up to which all is in the home
  module _ (page frame : ℕ) (words : List ℕ) (seat : TurnSeat) (h : TheHome M ghosts) (b : Back M ghosts) (p : MayPlace sight t page frame seat h) (is : state_of b ≡ state_of h.back)
      (known : KnownBy (since_of sight t.key) (lists (state_of b) p.room.turn.holding.records) (sight (medium_of b)))
      (reads : IsTrue (sight (medium_of h.back)).is_visible → (k : ℕ) → k < PAGE → get_or words k 0 ≡ get_or (home_now (state_of h.back).log.sizes (sight (medium_of h.back))) (page * PAGE + k) 0) where
    abbrev i : HasTurn sight t seat h
    i = p.room.turn

    abbrev before : Hands
    before = record (hands_of sight h i.holding.records i.holding.shown (boxes_held z [])) { lists = i.holding.stale }

    page_values : (start_sight sight t.key).is_visible ≡ true → (k : ℕ) → k < PAGE → get_or words k 0 ≡ value z.opening (writes_in i.holding.records) p.number (page * PAGE + k)
    page_values visible k small =
        let s : Sight = sight (medium_of h.back) in let v : BackState = state_of h.back in
        let now : s.is_visible ≡ true = i.holding.known.is.moments.later.is_visible ∙ visible in
        let home = i.holding.known.is.home p.settled.is.alive now in
        let size : length (home_now v.log.sizes s) ≡ v.log.sizes.pages * PAGE = length-map-range_with_len (λ d. value_of ((state_now s).word (home_word v.log.sizes d))) 0 (v.log.sizes.pages * PAGE) in
        let few = i.holding.pages in let setup = ap (λ (y : Setup). y.pages) i.setup in let m = p.room.map_is.pages in let low = p.room.absent.inside in let long = home.size in
        let below : page < v.log.sizes.pages = omega arith in
        reads now k small ∙ (home.words (page * PAGE + k) (omega arith) ∙ ap (λ (n : ℕ). value z.opening (writes_in i.holding.records) n (page * PAGE + k)) p.settled.reproduced)

    pub may_fill_read : MayFill sight t page frame words seat (record h { back = b })
    may_fill_read = record {
      room = record {
        turn = called_turn sight t seat h [] i b known (subst (GoesOn z.threads (state_of h.back)) (sym is) (read_same z.threads (state_of h.back)));
        map_is = p.room.map_is;
        absent = p.room.absent;
      };
      free = p.free;
      number = p.number;
      shown = p.shown before i.holding.hands;
      touch = p.touch;
      touched = p.touched;
      reproduced = p.reproduced;
      reached = λ m over upto. (i.holding.known.lawful.live p.settled.is.alive).reached m over (let d = p.settled.is.durable in omega arith);
      values = page_values;
    }
