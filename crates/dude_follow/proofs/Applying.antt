-- A packet is persisted in a back where nothing waits, announced, and reproduced.
use Rattle.std.proofs.Common.{◌≡◌, ◌⊎◌, inl, inr, ℕ, ◌+◌, ◌<◌, Bool, true, false, if◌then◌else◌, IsTrue, List, [], ◌∷◌, eq-eqb, Result, Ok, Err, is_ok, refl, sym, ap, ◌∙◌, subst, ⊎_elim, arith}
use Rattle.std.specs.Prelude.{◌↔◌, IsErrOf, OnOk}
use Rattle.std.proofs.lemmas.Bool.{cases_eq, ne_eqb}
use Rattle.std.proofs.lemmas.List.Elements.{All-head, All-tail}
use Rattle.dude_base.specs.Records.{RedoBundle, first_of, overwritten_by_all}
use Rattle.dude_base.specs.Writes.{overwritten}
use Rattle.pmem_trait.specs.declared.call.Call.{Call}
use Rattle.pmem_trait.specs.Sights.{Extends, Risen, Sight, SomeCalls}
use Rattle.redo_record.specs.BackCalls.{announce_calls}
use Rattle.redo_record.specs.LogState.{RecoversAmong}
use Rattle.redo_record.specs.Recovery.{Recovers}
use Rattle.redo_record.specs.Waiting.{IsArrayAt, Lead, Waiting, Waits}
use Rattle.redo_record.proofs.WaitingRecords.{waiting_law}
use Rattle.back_store.specs.Backlog.{MayWait, log_of, without_records_to}
use Rattle.back_store.specs.Answers.{Announces, CallsAnswered, ReproducesUnlessDead, announced, answered, reproduced, with_record}
use Rattle.back_store.specs.Back.{BackState, IsRingFull, home_now, waiting_now}
use Rattle.back_store.specs.Images.{HasReproduced, HomeStays, RecoversOnTheWay, StillHoldsStore}
use Rattle.back_store.specs.declared.back_fault.BackFault.{BackFault}
use Rattle.back_store.specs.declared.back_fault.BackFault.TheVariants.{Device, Dead}
use Rattle.log_numbered.specs.Backs.{LeadsUpTo}
use Rattle.log_numbered.proofs.GoingOn.{by_device}
use Rattle.log_numbered.proofs.HeldArrays.{moments_less}
use Rattle.log_numbered.proofs.LedLogs.{adds, has_room, leads_added, leads_announced, none_covers, ring_newest}
use Rattle.dude_follow.specs.Applying.{GoesOn, IsAtRest, Overwrites, RecoversAlong, RecoversThrough, ReproducesAlone, WaitsAlone}
use Rattle.dude_follow.specs.Packets.{IsPacket}

-- ---- answers

-- a call that went well
pub went : (v w : BackState) (s t : Sight) → Extends s t → w.log.sizes ≡ v.log.sizes → w.dead ≡ false → SomeCalls true s t → GoesOn true v s w t
went v w s t later sizes alive ran = record { later = later; sizes = sizes; ran = ran; cause = λ no. absurd (cc); dead = alive }

-- of a back that isn't dead a call fails by its device
pub failed_so : {X : Type 0} (fault : BackFault) (v w : BackState) (ok : X → BackState) → (fault ≡ Device) ⊎ (fault ≡ Dead) → (let result : Result X BackFault = Err fault in IsErrOf result Dead ↔ (v.dead ≡ true)) → v.dead ≡ false
    → w ≡ answered (Err fault) ok v → (fault ≡ Device) × (w ≡ record v { dead = true })
failed_so fault v w ok which dead alive state =
    let device : fault ≡ Device = by_device fault v which (λ is. dead.0 (ap Err is)) alive in
    (device, subst (λ f. w ≡ answered (Err f) ok v) device state)

pub went_wrong : (v w : BackState) (s t : Sight) → Extends s t → w ≡ record v { dead = true } → Risen s.faults t.faults → SomeCalls false s t → GoesOn false v s w t
went_wrong v w s t later state cause ran = record {
  later = later;
  sizes = ap (λ (x : BackState). x.log.sizes) state;
  ran = ran;
  cause = λ no. cause;
  dead = ap (λ (x : BackState). x.dead) state;
}

-- the calls of one that failed by its device
pub persist_ran : (fault : BackFault) (calls : List Call) (s t : Sight) → fault ≡ Device → (let result : Result (Unit {0}) BackFault = Err fault in CallsAnswered result calls s t) → SomeCalls false s t
persist_ran fault calls s t device made = (calls, subst (λ (f : BackFault). let result : Result (Unit {0}) BackFault = Err f in CallsAnswered result calls s t) device made)

pub announce_ran : (v : BackState) (fault : BackFault) (s t : Sight) → fault ≡ Device → Announces v (Err fault) s t → SomeCalls false s t
announce_ran v fault s t device is = let own = subst (λ (f : BackFault). Announces v (Err f) s t) device is in (announce_calls own.end, own.made)

pub reproduce_ran : (v : BackState) (most : ℕ) (fault : BackFault) (s t : Sight) → fault ≡ Device → ReproducesUnlessDead v most (Err fault) s t → SomeCalls false s t
reproduce_ran v most fault s t device is = let own = subst (λ (f : BackFault). ReproducesUnlessDead v most (Err f) s t) device is in (own.made.calls, own.made.made)

-- a reproduction leaves the sizes, and the back alive
pub record Reproduced (v w : BackState) : Type 0 where
  pub dead : w.dead ≡ v.dead
  pub sizes : w.log.sizes ≡ v.log.sizes

pub reproduced_same : (v : BackState) (number : ℕ) → Reproduced v (reproduced v number)
reproduced_same v number = elim (cases_eq number v.log.reproduced) [
  | inl same ↦ subst (Reproduced v) (sym (ap (λ (b : Bool). if b then v else record v { log = without_records_to number v.log }) (eq-eqb number v.log.reproduced same))) (record { dead = refl; sizes = refl })
  | inr apart ↦ subst (Reproduced v) (sym (ap (λ (b : Bool). if b then v else record v { log = without_records_to number v.log }) (ne_eqb number v.log.reproduced apart))) (record { dead = refl; sizes = refl })
]

-- ---- nothing waits

pub rest_leads : (v : BackState) → IsAtRest v → LeadsUpTo v v.log.reproduced
rest_leads v rests = record {
  alive = rests.alive;
  lawful = rests.lawful;
  end = record { records = []; lead = waiting_law.here (waiting_now v) v.log.reproduced; greatest = λ w among. absurd (rests.none_waits w among) };
  small = (let small = rests.lawful.small in let same = rests.durable in omega arith);
  none_over = λ w among. absurd (rests.none_waits w among);
}

module _ (v : BackState) (b : RedoBundle) (rests : IsAtRest v) (packet : IsPacket v.log.sizes b) (next : first_of b ≡ v.log.reproduced + 1) where
  ring : 0 < v.log.sizes.rings
  ring = let some = rests.lawful.accepted.rings.low in omega arith

  leads : LeadsUpTo v v.log.reproduced
  leads = rest_leads v rests

  pub may_wait : MayWait v.log 0 b
  may_wait = record {
    exists = ring;
    numbers = packet.numbers;
    newest = ring_newest v v.log.reproduced leads 0 b next;
    over = (let same = rests.durable in omega arith);
    new = none_covers v v.log.reproduced leads b next;
    home = packet.home;
  }

  pub room_for : IsRingFull v 0 b → ⊥
  room_for = has_room v v.log.reproduced leads 0 b ring refl packet.room

  pub waits_alone : WaitsAlone b (with_record 0 b v)
  waits_alone = record {
    leads = leads_added v v.log.reproduced leads 0 b ring next room_for packet.numbers.high packet.home;
    first = next;
    only = λ w among. ⊎_elim
        (λ old. absurd (rests.none_waits w old))
        (λ new. ap (λ (u : Waiting). u.redo) new)
        ((adds v v.log.reproduced leads 0 b ring next).only w among);
  }

-- ---- one packet waits

pub announced_waits : (v w : BackState) (b : RedoBundle) → WaitsAlone b v → w ≡ announced v b.last → WaitsAlone b w
announced_waits v w b alone state = subst (WaitsAlone b) (sym state) (record { leads = leads_announced v b.last alone.leads; first = alone.first; only = alone.only })

module _ (v : BackState) (b : RedoBundle) (alone : WaitsAlone b v) where
  pub goes_up : v.log.reproduced < b.last
  goes_up = let first = alone.first in omega arith

  is_it : (r : RedoBundle) → Waits (waiting_now v) r → r ≡ b
  is_it r waits = alone.only _ waits.is_one

  -- the array is the home, or the home overwritten by the packet
  pub array_alone : (home array : List ℕ) (n : ℕ) → IsArrayAt (waiting_now v) v.log.reproduced home n array
      → ((v.log.reproduced ≡ n) × (array ≡ home)) ⊎ ((b.last ≡ n) × (array ≡ overwritten b.writes home))
  array_alone home array n is = by is.records is.lead is.result
    where
      by : (rs : List RedoBundle) → Lead (waiting_now v) v.log.reproduced rs n → array ≡ overwritten_by_all rs home
          → ((v.log.reproduced ≡ n) × (array ≡ home)) ⊎ ((b.last ≡ n) × (array ≡ overwritten b.writes home))
      by [] lead result = inl (lead.consecutive, result)
      by (r ∷ []) lead result =
          let same : r ≡ b = is_it r (All-head (Waits (waiting_now v)) r [] lead.wait) in
          inr (ap (λ (x : RedoBundle). x.last) (sym same) ∙ lead.consecutive.1, result ∙ ap (λ (x : RedoBundle). overwritten x.writes home) same)
      by (r ∷ q ∷ rs) lead result =
          let one : r ≡ b = is_it r (All-head (Waits (waiting_now v)) r (q ∷ rs) lead.wait) in
          let rest = All-tail (Waits (waiting_now v)) r (q ∷ rs) lead.wait in
          let other : q ≡ b = is_it q (All-head (Waits (waiting_now v)) q rs rest) in
          let next = lead.consecutive.1.0 in
          let begins : first_of q ≡ first_of b = ap first_of other in
          let ends : r.last ≡ b.last = ap (λ (x : RedoBundle). x.last) one in
          absurd (omega arith)

  pub alone_recovers : (home : List ℕ) (before low high : ℕ) (told image : List ℕ) → RecoversAmong (log_of v.log home) before low high told image
      → RecoversAlong v.log.sizes v.log.reproduced (b ∷ []) home before told image
  alone_recovers home before low high told image is = elim (array_alone home is.array is.number is.is_array) [
    | inl none ↦ record {
      front = [];
      rest = b ∷ [];
      split = refl;
      number = is.number;
      lead = none.0;
      recovered = subst (Recovers image is.number) none.1 is.recovered;
      same_sizes = is.same_sizes;
      floor = is.floor;
    }
    | inr one ↦ record {
      front = b ∷ [];
      rest = [];
      split = refl;
      number = is.number;
      lead = (alone.first, one.0);
      recovered = subst (Recovers image is.number) one.1 is.recovered;
      same_sizes = is.same_sizes;
      floor = is.floor;
    }
  ]

  -- at each moment of a call that leaves the packet waiting
  pub alone_moments : (s t : Sight) → RecoversOnTheWay v v s t → RecoversThrough (b ∷ []) v s t
  alone_moments s t way before array is = moments_less
      (λ visible told image here. subst (λ h. RecoversAlong v.log.sizes v.log.reproduced (b ∷ []) h before told image) (is.home visible)
      (alone_recovers (home_now v.log.sizes s) before b.last b.last told image here))
      (way before b.last b.last alone.leads.alive is.keeps alone.leads.end alone.leads.end)

-- at each moment of the call that lets it wait
pub persist_moments : (v : BackState) (b : RedoBundle) (s t : Sight) → IsAtRest v → WaitsAlone b (with_record 0 b v) → RecoversOnTheWay v (with_record 0 b v) s t → RecoversThrough (b ∷ []) v s t
persist_moments v b s t rests alone way before array is = moments_less
    (λ visible told image here. subst (λ h. RecoversAlong v.log.sizes v.log.reproduced (b ∷ []) h before told image) (is.home visible)
    (alone_recovers (with_record 0 b v) b alone (home_now v.log.sizes s) before v.log.reproduced b.last told image here))
    (way before v.log.reproduced b.last rests.alive is.keeps (rest_leads v rests).end alone.leads.end)

-- behind a reproduction that went well nothing waits
pub rests_behind : {E : Type 0} (result : Result (Unit {0}) E) (v w : BackState) (s t : Sight) (b : RedoBundle) → GoesOn (is_ok result) v s w t
    → OnOk result ((c : RedoBundle) → WaitsAlone c v → v.log.durable ≡ c.last → ReproducesAlone c v s w t) → WaitsAlone b v → v.log.durable ≡ b.last → w.dead ≡ false → IsAtRest w
rests_behind (Ok x) v w s t b goes done alone all alive = (done b alone all).rests
rests_behind (Err e) v w s t b goes done alone all alive = absurd (let both = sym goes.dead ∙ alive in cc)

-- ---- the array

-- a call that leaves the home
pub array_stays : (v w : BackState) (s t : Sight) → v.dead ≡ false → Extends s t → w.log.sizes ≡ v.log.sizes → StillHoldsStore v w s t → HomeStays v s t → Overwrites [] v s w t
array_stays v w s t alive later sizes keeps stays before array is = record {
  keeps = keeps before is.keeps;
  home = λ visible.
      let here : IsTrue s.is_visible = sym later.is_visible ∙ visible in
      ap (λ z. home_now z t) sizes ∙ stays before is.keeps alive here ∙ is.home here;
}

-- a reproduction of the packet that waits
pub array_overwritten : (v w : BackState) (b : RedoBundle) (number : ℕ) (s t : Sight) → WaitsAlone b v → number ≡ b.last → Extends s t → w.log.sizes ≡ v.log.sizes → StillHoldsStore v w s t → HasReproduced v w number s t
    → Overwrites (b ∷ []) v s w t
array_overwritten v w b number s t alone last later sizes keeps done before array is = record {
  keeps = keeps before is.keeps;
  home = λ visible.
      let here : IsTrue s.is_visible = sym later.is_visible ∙ visible in
      let now = (done before is.keeps alone.leads.alive here).home in
      ap (λ z. home_now z t) sizes
      ∙ ⊎_elim
      (λ none. absurd (let up = goes_up v b alone in let same = none.0 in omega arith))
      (λ one. one.1)
      (array_alone v b alone (home_now v.log.sizes s) (home_now v.log.sizes t) number now)
      ∙ ap (overwritten b.writes) (is.home here);
}
