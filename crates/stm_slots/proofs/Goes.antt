-- A back is known still, behind each of its calls.
use Rattle.std.proofs.Common.{◌≡◌, ℕ, ◌<◌, ◌⊎◌, Bool, true, false, not, IsTrue, List, [], ◌++◌, All, refl, sym, ◌∙◌, subst, inl, inr, arith, Result, Ok, Err, eq-eqb, ne_eqb, is_ok}
use Rattle.std.specs.Prelude.{◌↔◌, IsErrOf, IfOk, IfErr, OnOk}
use Rattle.std.proofs.lemmas.Bool.{true≢false, cases_eq}
use Rattle.std.proofs.lemmas.List.Elements.{All-nil}
use Rattle.dude_base.specs.Records.{RedoBundle, RedoRecord}
use Rattle.pmem_trait.specs.Sights.{Sight, state_now, CallsMade, SomeCalls, AtEveryMoment}
use Rattle.pmem_trait.specs.declared.call.Call.{Call}
use Rattle.pmem_trait.proofs.Runs.{ran_on}
use Rattle.pmem_trait.proofs.Laws.{every_moment_then, every_moment_weaker}
use Rattle.redo_record.specs.BackCalls.{announce_calls}
use Rattle.redo_record.specs.LogState.{RecoversAmong}
use Rattle.redo_record.proofs.WaitingRecords.{waiting_law}
use Rattle.back_store.specs.Backlog.{IsLawful, StopsAfter, log_of}
use Rattle.back_store.proofs.AddedRecords.{added_lawful}
use Rattle.back_store.specs.Back.{BackState, IsEnd, IsRingFull, MayPersist, home_now, ring_full, waiting_now}
use Rattle.back_store.specs.Answers.{CallsAnswered, Announces, ReproducedBy, ReproducesUnlessDead, after_announce, after_persist, after_read, after_reproduce, announced, persist_calls, reproduced, with_record}
use Rattle.back_store.specs.Operations.{Operates, OperatesLog}
use Rattle.back_store.specs.Images.{HasReproduced, HoldsStore, HomeStays, StillHoldsStore, RecoversOnTheWay}
use Rattle.back_store.specs.Told.{WereTold}
use Rattle.back_store.specs.declared.back_fault.BackFault.{BackFault}
use Rattle.back_store.specs.declared.back_fault.BackFault.TheVariants.{RingFull, Device, Dead}
use Rattle.back_store.proofs.KeptLogs.{alive_from}
use Rattle.back_store.proofs.Operations.{one_announces, one_persists, one_reproduces, operates_on}
use Rattle.back_store.proofs.NoTells.{TellsNothing, reproduce_tells_nothing, told_same}
use Rattle.back_store.proofs.ToldNumbers.{tells_none, tells_then}
use Rattle.stm_slots.specs.Records.{AreNew, HasValues, JoinsJust, writes_in}
use Rattle.stm_slots.specs.KnownLists.{LawfulLists, lists}
use Rattle.stm_slots.specs.Known.{Since, told_before, RecoversIn, Known}
use Rattle.stm_slots.specs.Calls.{handed}
use Rattle.stm_slots.proofs.Images.{array_values, recovers_in, recovers_more}
use Rattle.stm_slots.proofs.Lawful.{lawful_announced, lawful_dead, lawful_died_persisting, lawful_persisted, lawful_without, reached_by, stop_end}
use Rattle.stm_slots.proofs.Values.{values_more}

-- a reproduction tells nothing
untold_by : {v : BackState} {number : ℕ} {calls : List Call} → ((number ≡ v.log.reproduced) × (calls ≡ [])) ⊎ ReproducedBy v number calls → All TellsNothing calls
untold_by (inl nothing) = subst (All TellsNothing) (sym nothing.1) (All-nil TellsNothing)
untold_by {v} {number} (inr by) = subst (All TellsNothing) (sym by.calls_are) (reproduce_tells_nothing v.log.sizes by.writes number)

-- what a reproduction leaves
pub record Reproduced (v w : BackState) (n : ℕ) : Type 0 where
  pub sizes : w.log.sizes ≡ v.log.sizes
  pub dead : w.dead ≡ v.dead
  pub durable : w.log.durable ≡ v.log.durable
  pub number : w.log.reproduced ≡ n

was_reproduced : (v : BackState) (n : ℕ) → Reproduced v (reproduced v n) n
was_reproduced v n = elim (cases_eq n v.log.reproduced) [
  | inl e ↦ rw (eq-eqb n v.log.reproduced e) (record { sizes = refl; dead = refl; durable = refl; number = sym e })
  | inr o ↦ rw (ne_eqb n v.log.reproduced o) (record { sizes = refl; dead = refl; durable = refl; number = refl })
]

module _ (b : Since) (v : BackState) (rs : List RedoRecord) (s t : Sight) (known : Known b (lists v rs) s) where
  same_known : t ≡ s → Known b (lists v rs) t
  same_known e = subst (Known b (lists v rs)) (sym e) known

  -- Calls were made on a back that isn't dead.
  module _ (alive : v.dead ≡ false) where
    -- by other lists, where nothing is said otherwise of images that were there before
    goes_on : (w : BackState) (others : List RedoRecord) → w.log.sizes ≡ v.log.sizes → ((told image : List ℕ) → RecoversIn b rs v.log.sizes told image → RecoversIn b others v.log.sizes told image) → LawfulLists b.first (lists w others)
        → AtEveryMoment (RecoversIn b others v.log.sizes) s t → SomeCalls (not w.dead) b.start t → (w.dead ≡ false → Operates v w s t) → (IsTrue s.is_visible → WereTold (not w.dead) v.log.durable w.log.durable (state_now s).told (state_now t).told)
        → HoldsStore (told_before b) w t → (w.dead ≡ false → IsTrue t.is_visible → HasValues b.opening (writes_in others) w.log.reproduced (home_now v.log.sizes t)) → Known b (lists w others) t
    goes_on w others sizes more lawful moments ran operates tells keeps home =
        let is = known.is in record {
          lawful = lawful;
          is = record {
            room = rw sizes (let room = is.room in let len = moments.later.len in omega arith);
            moments = rw sizes (every_moment_then (every_moment_weaker (λ told image _ i. more told image i) is.moments) moments);
            ran = ran;
            operates = λ lives. operates_on (known.is.operates alive) (operates lives);
            keeps = keeps;
            home = rw sizes home;
            tells = λ seen. let here : IsTrue s.is_visible = sym moments.later.is_visible ∙ seen in
                tells_then (not w.dead) b.first v.log.durable w.log.durable (state_now b.start).told (state_now s).told (state_now t).told
                (subst (λ d. WereTold (not d) b.first v.log.durable (state_now b.start).told (state_now s).told) alive (is.tells here)) (tells here);
          };
        }

    -- exactly the calls of one operation were made
    operated : {w : BackState} {cs : List Call} → OperatesLog v w cs → CallsMade cs true s t → w.dead ≡ false → Operates v w s t
    operated {cs = cs} by made lives = (cs, by, made)

    -- a dead back operates no more
    died : {w : BackState} → w.dead ≡ true → w.dead ≡ false → Operates v w s t
    died dead lives = absurd (true≢false (sym dead ∙ lives))

    ran_now : {ok : Bool} {cs : List Call} → CallsMade cs ok s t → SomeCalls ok b.start t
    ran_now made = ran_on (subst (λ d. SomeCalls (not d) b.start s) alive known.is.ran) made

    -- where nothing was told
    untold : (ok : Bool) {cs : List Call} {made_ok : Bool} → CallsMade cs made_ok s t → All TellsNothing cs → IsTrue s.is_visible → WereTold ok v.log.durable v.log.durable (state_now s).told (state_now t).told
    untold ok made nothing seen = tells_none ok v.log.durable v.log.durable (state_now s).told (state_now t).told refl (told_same made nothing seen)

    low : (n : ℕ) × IsEnd v n
    low = waiting_law.some_end (waiting_now v) v.log.reproduced

    -- A bundle was persisted.
    module _ (ring : ℕ) (r : RedoBundle) (more : List RedoRecord) (inside : ring < v.log.sizes.rings) (joined : JoinsJust more r) (new : AreNew b.first rs more) (way : RecoversOnTheWay v (with_record ring r v) s t)
        (log : IsLawful (with_record ring r v).log) where
      lawful_m : LawfulLists b.first (lists (with_record ring r v) (more ++ rs))
      lawful_m = lawful_persisted b.first (lists v rs) known.lawful alive r more joined new ring inside log

      high : (n : ℕ) × IsEnd (with_record ring r v) n
      high = waiting_law.some_end (waiting_now (with_record ring r v)) v.log.reproduced

      at : AtEveryMoment (RecoversAmong (log_of (with_record ring r v).log (home_now v.log.sizes s)) (told_before b) low.0 high.0) s t
      at = way (told_before b) low.0 high.0 alive known.is.keeps low.1 high.1

      values : IsTrue s.is_visible → HasValues b.opening (writes_in (more ++ rs)) v.log.reproduced (home_now v.log.sizes s)
      values seen = values_more b.opening b.first more rs v.log.reproduced (home_now v.log.sizes s) new
          (reached_by b.first (lists v rs) known.lawful alive v.log.reproduced [] (waiting_law.here (waiting_now v) v.log.reproduced)) (known.is.home alive seen)

      moments : AtEveryMoment (RecoversIn b (more ++ rs) v.log.sizes) s t
      moments = record {
        later = at.later;
        each = λ seen k from upto. record { each = λ image i. recovers_in b (lists (with_record ring r v) (more ++ rs)) lawful_m alive (home_now v.log.sizes s) (values seen) low.0 high.0 (t.state k).told image ((at.each seen k from upto).each image i) };
      }

      pub persisted_known : {cs : List Call} → OperatesLog v (with_record ring r v) cs → CallsMade cs true s t → All TellsNothing cs → StillHoldsStore v (with_record ring r v) s t → HomeStays v s t → Known b (lists (with_record ring r v) (more ++ rs)) t
      persisted_known by made nothing keeps stays = goes_on (with_record ring r v) (more ++ rs) refl (recovers_more b more rs v.log.sizes new) lawful_m moments (subst (λ d. SomeCalls (not d) b.start t) (sym alive) (ran_now made)) (operated by made) (untold (not v.dead) made nothing)
          (keeps (told_before b) known.is.keeps)
          (λ _ seen. let here : IsTrue s.is_visible = sym at.later.is_visible ∙ seen in subst (HasValues b.opening (writes_in (more ++ rs)) v.log.reproduced) (sym (stays (told_before b) known.is.keeps alive here)) (values here))

      pub died_persisting : {cs : List Call} → CallsMade cs false s t → All TellsNothing cs → StillHoldsStore v (record v { dead = true }) s t → Known b (lists (record v { dead = true }) (more ++ rs)) t
      died_persisting made nothing keeps = goes_on (record v { dead = true }) (more ++ rs) refl (recovers_more b more rs v.log.sizes new) (lawful_died_persisting b.first (lists v rs) known.lawful alive r more joined new known.lawful.log) moments (ran_now made) (died refl)
          (untold false made nothing) (keeps (told_before b) known.is.keeps) (λ alive2. absurd (true≢false alive2))

    -- A call left the records.
    module _ (way : RecoversOnTheWay v v s t) where
      abbrev along : AtEveryMoment (RecoversAmong (log_of v.log (home_now v.log.sizes s)) (told_before b) low.0 low.0) s t
      along = way (told_before b) low.0 low.0 alive known.is.keeps low.1 low.1

      on_the_way : AtEveryMoment (RecoversIn b rs v.log.sizes) s t
      on_the_way = record {
        later = along.later;
        each = λ seen k from upto. record { each = λ image i. recovers_in b (lists v rs) known.lawful alive (home_now v.log.sizes s) (known.is.home alive seen) low.0 low.0 (t.state k).told image ((along.each seen k from upto).each image i) };
      }

      live_now : {cs : List Call} → CallsMade cs true s t → SomeCalls (not v.dead) b.start t
      live_now made = subst (λ d. SomeCalls (not d) b.start t) (sym alive) (ran_now made)

      home_there : HomeStays v s t → IsTrue t.is_visible → HasValues b.opening (writes_in rs) v.log.reproduced (home_now v.log.sizes t)
      home_there stays seen = let here : IsTrue s.is_visible = sym along.later.is_visible ∙ seen in
          subst (HasValues b.opening (writes_in rs) v.log.reproduced) (sym (stays (told_before b) known.is.keeps alive here)) (known.is.home alive here)

      call_died : {cs : List Call} → CallsMade cs false s t → (IsTrue s.is_visible → WereTold false v.log.durable v.log.durable (state_now s).told (state_now t).told) → StillHoldsStore v (record v { dead = true }) s t
          → Known b (lists (record v { dead = true }) rs) t
      call_died made tells keeps = goes_on (record v { dead = true }) rs refl (λ told image is. is) (lawful_dead b.first (lists v rs) known.lawful) on_the_way (ran_now made) (died refl) tells (keeps (told_before b) known.is.keeps) (λ alive2. absurd (true≢false alive2))

      read_ok : {cs : List Call} → OperatesLog v v cs → CallsMade cs true s t → All TellsNothing cs → StillHoldsStore v v s t → HomeStays v s t → Known b (lists v rs) t
      read_ok by made nothing keeps stays = goes_on v rs refl (λ told image is. is) known.lawful on_the_way (live_now made) (operated by made) (untold (not v.dead) made nothing) (keeps (told_before b) known.is.keeps) (λ _. home_there stays)

      announced_ok : {cs : List Call} (n : ℕ) → OperatesLog v (announced v n) cs → CallsMade cs true s t → IsEnd v n → IsLawful (announced v n).log → (IsTrue s.is_visible → WereTold true v.log.durable n (state_now s).told (state_now t).told) → StillHoldsStore v (announced v n) s t → HomeStays v s t
          → Known b (lists (announced v n) rs) t
      announced_ok n by made is log told keeps stays = goes_on (announced v n) rs refl (λ told image is. is) (lawful_announced b.first (lists v rs) known.lawful alive n is log) on_the_way (live_now made) (operated by made)
          (subst (λ d. IsTrue s.is_visible → WereTold (not d) v.log.durable n (state_now s).told (state_now t).told) (sym alive) told) (keeps (told_before b) known.is.keeps) (λ _. home_there stays)

      reproduced_ok : {cs : List Call} (most n : ℕ) → OperatesLog v (reproduced v n) cs → CallsMade cs true s t → All TellsNothing cs → StopsAfter v.log most n → IsLawful (reproduced v n).log → StillHoldsStore v (reproduced v n) s t → HasReproduced v (reproduced v n) n s t
          → Known b (lists (reproduced v n) rs) t
      reproduced_ok most n by made nothing stops log keeps has =
          let stop = stop_end b.first (lists v rs) known.lawful alive most n stops in
          let was = was_reproduced v n in
          goes_on (reproduced v n) rs was.sizes (λ told image is. is) (lawful_without b.first (lists v rs) known.lawful alive n stop.0 stop.1 log) on_the_way
          (subst (λ d. SomeCalls (not d) b.start t) (sym (was.dead ∙ alive)) (ran_now made)) (operated by made)
          (λ seen. tells_none (not (reproduced v n).dead) v.log.durable (reproduced v n).log.durable (state_now s).told (state_now t).told was.durable (told_same made nothing seen)) (keeps (told_before b) known.is.keeps)
          (λ _ seen. let here : IsTrue s.is_visible = sym along.later.is_visible ∙ seen in let is = has (told_before b) known.is.keeps alive here in
          subst (λ k. HasValues b.opening (writes_in rs) k (home_now v.log.sizes t)) (sym was.number)
          (array_values b.opening b.first (lists v rs) (known.lawful.live alive) (home_now v.log.sizes s) n (home_now v.log.sizes t) (known.is.home alive here) is.home))

  alive_unless : {X : Type 0} (result : Result X BackFault) → (IsErrOf result Dead ↔ (v.dead ≡ true)) → (IsErrOf result Dead → ⊥) → v.dead ≡ false
  alive_unless result dead other = alive_from v.dead (λ was. other (dead.1 was))

  -- ---- the calls, by their answers
  -- where the ring has room the log is lawful with the bundle
  lawful_with : (ring : ℕ) (r : RedoBundle) → MayPersist v ring r → (IsRingFull v ring r → ⊥) → IsLawful (with_record ring r v).log
  lawful_with ring r may left = added_lawful v.log ring r known.lawful.log may.exists left may.numbers may.home may.new may.over

  pub persist_goes : (ring : ℕ) (r : RedoBundle) (more : List RedoRecord) → MayPersist v ring r → JoinsJust more r → AreNew b.first rs more → (result : Result (Unit {0}) BackFault)
      → (IsErrOf result (ring_full v ring r) ↔ (v.dead ≡ false) × IsRingFull v ring r) → (IsErrOf result Dead ↔ (v.dead ≡ true))
      → (calls : List Call) → calls ≡ persist_calls v ring r → All TellsNothing calls → CallsAnswered result calls s t → RecoversOnTheWay v (with_record ring r v) s t
      → StillHoldsStore v (after_persist result ring r v) s t → OnOk result (HomeStays v s t) → Known b (lists (after_persist result ring r v) (handed result more rs)) t
  persist_goes ring r more may joined new (Ok done) full dead calls are nothing made way keeps home =
      let alive : v.dead ≡ false = alive_unless {X = Unit {0}} (Ok done) dead (λ bad. cc) in
      let room : IsRingFull v ring r → ⊥ = λ is. let bad = full.1 (alive, is) in cc in
      persisted_known alive ring r more may.exists joined new way (lawful_with ring r may room) (one_persists (record { room = room; back = refl; calls_are = are })) made nothing keeps home
  persist_goes ring r more may joined new (Err Device) full dead calls are nothing made way keeps home =
      let alive : v.dead ≡ false = alive_unless {X = Unit {0}} (Err Device) dead (λ bad. cc) in
      died_persisting alive ring r more may.exists joined new way (lawful_with ring r may (λ is. let bad = full.1 (alive, is) in cc)) made nothing keeps
  persist_goes ring r more may joined new (Err Dead) full dead calls are nothing still way keeps home = same_known still
  persist_goes ring r more may joined new (Err (RingFull used need)) full dead calls are nothing still way keeps home = same_known still

  pub announce_goes : (result : Result ℕ BackFault) → IsLawful (after_announce result v).log → Announces v result s t → (IsErrOf result Dead ↔ (v.dead ≡ true)) → RecoversOnTheWay v v s t
      → (IsTrue s.is_visible → WereTold (is_ok result) v.log.durable (after_announce result v).log.durable (state_now s).told (state_now t).told) → StillHoldsStore v (after_announce result v) s t → OnOk result (HomeStays v s t)
      → IfErr result (λ fault. (fault ≡ Device) ⊎ (fault ≡ Dead)) → Known b (lists (after_announce result v) rs) t
  announce_goes (Ok n) log a dead way told keeps home only =
      let is : IsEnd v n = subst (IsEnd v) (sym a.answer) a.is_end in
      announced_ok (alive_unless {X = ℕ} (Ok n) dead (λ bad. cc)) way n (subst (λ (e : ℕ). OperatesLog v (announced v n) (announce_calls e)) a.answer (one_announces v n)) a.made is log told keeps home
  announce_goes (Err Device) log a dead way told keeps home only = call_died (alive_unless {X = ℕ} (Err Device) dead (λ bad. cc)) way a.made told keeps
  announce_goes (Err Dead) log a dead way told keeps home only = same_known a.made
  announce_goes (Err (RingFull used need)) log a dead way told keeps home only = same_known a.made

  pub reproduce_goes : (result : Result ℕ BackFault) (most : ℕ) → IsLawful (after_reproduce result v).log → IfOk result (StopsAfter v.log most) → ReproducesUnlessDead v most result s t → (IsErrOf result Dead ↔ (v.dead ≡ true)) → RecoversOnTheWay v v s t
      → StillHoldsStore v (after_reproduce result v) s t → IfOk result (λ n. HasReproduced v (reproduced v n) n s t) → Known b (lists (after_reproduce result v) rs) t
  reproduce_goes (Ok n) most log stops r dead way keeps home = reproduced_ok (alive_unless {X = ℕ} (Ok n) dead (λ bad. cc)) way most n (subst (λ (m : ℕ). OperatesLog v (reproduced v m) r.made.calls) (sym r.made.answer) (one_reproduces v r.stop r.made.by)) r.made.made (untold_by r.made.by) stops log keeps home
  reproduce_goes (Err Device) most log stops r dead way keeps home =
      let alive : v.dead ≡ false = alive_unless {X = ℕ} (Err Device) dead (λ bad. cc) in call_died alive way r.made.made (untold alive false r.made.made (untold_by r.made.by)) keeps
  reproduce_goes (Err Dead) most log stops still dead way keeps home = same_known still
  reproduce_goes (Err (RingFull used need)) most log stops still dead way keeps home = same_known still

  pub read_goes : (result : Result (Unit {0}) BackFault) (calls : List Call) → OperatesLog v v calls → All TellsNothing calls → CallsAnswered result calls s t → (IsErrOf result Dead ↔ (v.dead ≡ true)) → RecoversOnTheWay v v s t
      → StillHoldsStore v (after_read result v) s t → OnOk result (HomeStays v s t) → Known b (lists (after_read result v) rs) t
  read_goes (Ok done) calls by nothing made dead way keeps home = read_ok (alive_unless {X = Unit {0}} (Ok done) dead (λ bad. cc)) way by made nothing keeps home
  read_goes (Err Device) calls by nothing made dead way keeps home =
      let alive : v.dead ≡ false = alive_unless {X = Unit {0}} (Err Device) dead (λ bad. cc) in call_died alive way made (untold alive false made nothing) keeps
  read_goes (Err Dead) calls by nothing still dead way keeps home = same_known still
  read_goes (Err (RingFull used need)) calls by nothing still dead way keeps home = same_known still

-- an announced number is the end
pub announced_end : (v : BackState) (s t : Sight) (result : Result ℕ BackFault) → Announces v result s t → IfOk result (IsEnd v)
announced_end v s t (Ok n) a = subst (IsEnd v) (sym a.answer) a.is_end
announced_end v s t (Err fault) a = tt

-- ---- the same, of a back that is so behind the call
module _ (b : Since) (v : BackState) (rs : List RedoRecord) (s t : Sight) (known : Known b (lists v rs) s) (w : BackState) where
  pub persist_known : (ring : ℕ) (r : RedoBundle) (more : List RedoRecord) → MayPersist v ring r → JoinsJust more r → AreNew b.first rs more → (result : Result (Unit {0}) BackFault)
      → (IsErrOf result (ring_full v ring r) ↔ (v.dead ≡ false) × IsRingFull v ring r) → (IsErrOf result Dead ↔ (v.dead ≡ true))
      → (calls : List Call) → calls ≡ persist_calls v ring r → All TellsNothing calls → CallsAnswered result calls s t → RecoversOnTheWay v (with_record ring r v) s t
      → StillHoldsStore v w s t → OnOk result (HomeStays v s t) → w ≡ after_persist result ring r v → Known b (lists w (handed result more rs)) t
  persist_known ring r more may joined new result full dead calls are nothing made way keeps home is =
      subst (λ u. Known b (lists u (handed result more rs)) t) (sym is)
      (persist_goes b v rs s t known ring r more may joined new result full dead calls are nothing made way (subst (λ u. StillHoldsStore v u s t) is keeps) home)

  pub announce_known : (result : Result ℕ BackFault) → IsLawful w.log → Announces v result s t → (IsErrOf result Dead ↔ (v.dead ≡ true)) → RecoversOnTheWay v v s t
      → (IsTrue s.is_visible → WereTold (is_ok result) v.log.durable w.log.durable (state_now s).told (state_now t).told) → StillHoldsStore v w s t → OnOk result (HomeStays v s t)
      → IfErr result (λ fault. (fault ≡ Device) ⊎ (fault ≡ Dead)) → w ≡ after_announce result v → Known b (lists w rs) t
  announce_known result log a dead way told keeps home only is =
      subst (λ u. Known b (lists u rs) t) (sym is)
      (announce_goes b v rs s t known result (subst (λ (u : BackState). IsLawful u.log) is log) a dead way
      (subst (λ (u : BackState). IsTrue s.is_visible → WereTold (is_ok result) v.log.durable u.log.durable (state_now s).told (state_now t).told) is told)
      (subst (λ u. StillHoldsStore v u s t) is keeps) home only)

  pub reproduce_known : (result : Result ℕ BackFault) (most : ℕ) → IsLawful w.log → IfOk result (StopsAfter v.log most) → ReproducesUnlessDead v most result s t → (IsErrOf result Dead ↔ (v.dead ≡ true)) → RecoversOnTheWay v v s t
      → StillHoldsStore v w s t → IfOk result (λ n. HasReproduced v w n s t) → w ≡ after_reproduce result v → Known b (lists w rs) t
  reproduce_known result most log stops r dead way keeps home is =
      subst (λ u. Known b (lists u rs) t) (sym is)
      (reproduce_goes b v rs s t known result most (subst (λ (u : BackState). IsLawful u.log) is log) stops r dead way (subst (λ u. StillHoldsStore v u s t) is keeps)
      (home_at result (subst (λ u. IfOk result (λ n. HasReproduced v u n s t)) is home)))
    where
      home_at : (result : Result ℕ BackFault) → IfOk result (λ n. HasReproduced v (after_reproduce result v) n s t) → IfOk result (λ n. HasReproduced v (reproduced v n) n s t)
      home_at (Ok n) h = h
      home_at (Err e) h = tt

  pub read_known : (result : Result (Unit {0}) BackFault) (calls : List Call) → OperatesLog v v calls → All TellsNothing calls → CallsAnswered result calls s t → (IsErrOf result Dead ↔ (v.dead ≡ true)) → RecoversOnTheWay v v s t
      → StillHoldsStore v w s t → OnOk result (HomeStays v s t) → w ≡ after_read result v → Known b (lists w rs) t
  read_known result calls by nothing made dead way keeps home is =
      subst (λ u. Known b (lists u rs) t) (sym is)
      (read_goes b v rs s t known result calls by nothing made dead way (subst (λ u. StillHoldsStore v u s t) is keeps) home)
