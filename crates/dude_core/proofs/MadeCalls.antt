-- A call on the medium, by the call of the back with which it goes on.
use Rattle.std.proofs.Common.{◌≡◌, ℕ, ◌+◌, ◌*◌, ◌<◌, ◌≤◌, Bool, true, false, List, [], ◌∷◌, ◌++◌, length, refl, sym, ap, subst, ◌∙◌, inl, inr, arith, All, mul-le-mul_right, nat_lt}
use Rattle.std.specs.Prelude.{◌↔◌, Result, Ok, Err, OnOk, OnErr, IsErrOf}
use Rattle.std.specs.declared.alloc.AllocError.{AllocError}
use Rattle.std.specs.List.{filter}
use Rattle.std.proofs.lemmas.Bool.{cases_Bool}
use Rattle.std.proofs.lemmas.List.Sums.{sum_by-cons, sum_by_push}
use Rattle.dude_base.specs.declared.limits.TheConstants.{PAGE}
use Rattle.dude_base.specs.declared.write.Write.{Write}
use Rattle.dude_base.specs.Records.{RedoBundle, HasNumbers}
use Rattle.pmem_trait.specs.declared.call.Call.{Call}
use Rattle.redo_record.specs.Waiting.{Waiting, IsContiguousEnd}
use Rattle.redo_record.specs.BackCalls.{announce_calls, read_page_calls}
use Rattle.core_events.specs.Setups.{Setup}
use Rattle.core_events.specs.Views.{View}
use Rattle.core_events.specs.Words.{State}
use Rattle.core_medium.specs.BoxBundles.{bundle_in}
use Rattle.core_medium.specs.Stores.{Store}
use Rattle.core_medium.specs.Machines.{Machine, MayDevice, device, with_device, MachineLeads}
use Rattle.core_medium.specs.BackCalls.{BackCall, persisting, announcing, reproducing, reading, MayReproduce, device_after}
use Rattle.core_medium.specs.KeptStore.{MachineKept}
use Rattle.core_medium.proofs.Devices.{can}
use Rattle.dude_core.specs.declared.core_refusal.CoreRefusal.{CoreRefusal}
use Rattle.dude_core.specs.declared.core_refusal.CoreRefusal.TheVariants.{Off}
use Rattle.dude_core.specs.Named.{Tells}
use Rattle.dude_core.specs.CallFits.{IsFront, IsApart}
use Rattle.dude_core.specs.StoreData.{StoreData, log_of, tells}
use Rattle.dude_core.specs.Effects.{Effect, called, appends, tells_number, replays, reads_page, left_of, data_after}
use Rattle.dude_core.specs.Stands.{store_of, machine_over}
use Rattle.dude_core.specs.NextCalls.{AreApartOver, ReadsOn, Announces, Replays, ReplaysNoneTo, bundle_calls}
use Rattle.dude_core.specs.Gathers.{Persists, PersistsNone}
use Rattle.dude_core.specs.MadeCalls.{GoesOnWith, made_by, HasMade, MakesNone, IsNext, HasTurnAt, refused_as}
use Rattle.dude_core.specs.StateSteps.{IsOffIn}
use Rattle.dude_core.specs.Chains.{writes_in}
use Rattle.dude_core.proofs.DataEffects.{told_law, effects_law, few}

-- after a want of memory this holds of the refusal too
err_as : (P : Type 0) (r : Result (Unit {0}) AllocError) → OnErr r P → OnErr (refused_as r) P
err_as P (Ok x) err = tt
err_as P (Err x) err = err

pub refused_err : (P : Type 0) (r : Result (Unit {0}) AllocError) (s : Result (Unit {0}) CoreRefusal) → s ≡ refused_as r → OnErr r P → OnErr s P
refused_err P r s is err = subst (λ (t : Result (Unit {0}) CoreRefusal). OnErr t P) (sym is) (err_as P r err)

-- ---- what the call makes of the data
pub made_data : (e : Effect) (call : Call) (ends : Bool) (a : StoreData) (left : List Call) → Tells ends (left ≡ []) → made_by e call ends a ≡ data_after e call left a
made_data e call true a [] h = refl
made_data e call true a (x ∷ xs) h = absurd (let none : x ∷ xs ≡ [] = h in cc)
made_data e call false a [] h = absurd (h refl)
made_data e call false a (x ∷ xs) h = refl

module _ (z : Setup) (c : State) (a : StoreData) (call : Call) where
  pub made_next : (e : Effect) (ends : Bool) (d : StoreData) → IsNext z c a call e ends → d ≡ made_by e call ends a → HasMade z c a call d
  made_next e ends d n is = record {
    back = n.back;
    left = n.left;
    goes = n.goes;
    made = is ∙ (made_data e call ends a n.left n.ends_is ∙ ap (λ (f : Effect). data_after f call n.left a) (sym n.effect_is));
  }

  pub next_not_none : (e : Effect) (ends : Bool) → IsNext z c a call e ends → MakesNone z c a call → ⊥
  next_not_none e ends n none = none n.back n.left n.goes

  -- a call that goes on with a call of the back is made, or there is no memory
  made_ok : (r : Result (Unit {0}) AllocError) (e : Effect) (ends : Bool) (d : StoreData) → IsNext z c a call e ends → OnOk r (d ≡ made_by e call ends a) → OnOk (refused_as r) (HasMade z c a call d)
  made_ok (Ok x) e ends d n ok = made_next e ends d n ok
  made_ok (Err x) e ends d n ok = tt

  not_off : (r : Result (Unit {0}) AllocError) → IsErrOf (refused_as r) Off → ⊥
  not_off (Ok x) is = absurd (cc)
  not_off (Err x) is = absurd (cc)

  module _ (r : Result (Unit {0}) AllocError) (s : Result (Unit {0}) CoreRefusal) (is : s ≡ refused_as r) where
    pub refused_ok : (e : Effect) (ends : Bool) (d : StoreData) → IsNext z c a call e ends → OnOk r (d ≡ made_by e call ends a) → OnOk s (HasMade z c a call d)
    refused_ok e ends d n ok = subst (λ (t : Result (Unit {0}) CoreRefusal). OnOk t (HasMade z c a call d)) (sym is) (made_ok r e ends d n ok)

    pub refused_off : (e : Effect) (ends : Bool) → IsNext z c a call e ends → IsErrOf s Off ↔ MakesNone z c a call
    refused_off e ends n = ((λ off. absurd (not_off r (sym is ∙ off))), (λ none. absurd (next_not_none e ends n none)))

  pub next_reads : (p : ℕ) (ends : Bool) → ReadsOn a call p ends → IsNext z c a call (reads_page p) ends
  next_reads p ends r = record { back = reading p; left = r.front.left; goes = record { may = r.inside; whole = r.front.goes }; effect_is = refl; ends_is = r.front.ends_is }

  pub next_announces : (n : ℕ) → Announces a call n → IsNext z c a call (tells_number n) true
  next_announces n r = record { back = announcing n; left = []; goes = record { may = r.end; whole = r.goes }; effect_is = refl; ends_is = refl }

  pub next_replays : (ws : List Write) (n : ℕ) (ends : Bool) → Replays (z.first ∷ tells a.ended) a call ws n ends → IsNext z c a call (replays ws n) ends
  next_replays ws n ends r = record {
    back = reproducing r.bundles ws n;
    left = r.front.left;
    goes = record { may = subst (λ (told : List ℕ). MayReproduce (log_of a) told r.bundles ws n) (sym (told_law z a)) r.may; whole = r.front.goes };
    effect_is = refl;
    ends_is = r.front.ends_is;
  }

  pub next_persists : (t : ℕ) (b : RedoBundle) (ends : Bool) → Persists z c a call t b ends → IsNext z c a call (appends t b) ends
  next_persists t b ends r =
      let front : IsFront (bundle_calls a t (bundle_in z c.records t r.place r.more)) a.calls call ends = subst (λ (x : RedoBundle). IsFront (bundle_calls a t x) a.calls call ends) r.bundle_is r.front in
      record {
        back = persisting t r.place r.more;
        left = front.left;
        goes = record { may = r.may; whole = front.goes };
        effect_is = ap (appends t) (sym r.bundle_is);
        ends_is = front.ends_is;
      }

  pub makes_none : ((p : ℕ) → p < a.sizes.pages → IsApart (read_page_calls a.sizes p) a.calls call) → ((n : ℕ) → IsContiguousEnd a.waiting a.reproduced n → IsApart (announce_calls n) a.calls call)
      → ((n : ℕ) → ReplaysNoneTo (z.first ∷ tells a.ended) a call n) → ((t : ℕ) → t < z.threads → PersistsNone z c a call t) → MakesNone z c a call
  makes_none reads announces replay persist (persisting t j more) left g = persist t g.may.gather.first.thread j more g.may left g.whole
  makes_none reads announces replay persist (announcing n) left g = announces n g.may left g.whole
  makes_none reads announces replay persist (reproducing rs ws n) left g = replay n rs ws (subst (λ (told : List ℕ). MayReproduce (log_of a) told rs ws n) (told_law z a) g.may) left g.whole
  makes_none reads announces replay persist (reading p) left g = reads p g.may left g.whole

  -- ---- what the kept state says of it
  module _ (k : MachineKept z (machine_over z c a)) where
    pub apart_over : AreApartOver a.reproduced a.waiting
    apart_over = record { distinct = k.store.holds.distinct; over = λ w is. (k.store.holds.waits w is).over }

    pub read_inside : (p : ℕ) (ends : Bool) → ReadsOn a call p ends → p * PAGE + length a.calls < a.sizes.pages * PAGE
    read_inside p ends r =
        let lt = few z a k.store.holds p r.inside call r.front.left r.front.goes in
        let pages : (p + 1) * PAGE ≤ a.sizes.pages * PAGE = mul-le-mul_right PAGE (let below = r.inside in omega arith) in omega arith

    module _ (t : ℕ) (b : RedoBundle) (ends : Bool) (r : Persists z c a call t b ends) where
      pub persist_ring : t < a.sizes.rings
      persist_ring = (can z k.ghost_is c k.layers (store_of z a) k.store t r.place r.more r.may).append.cell.ring_is

      pub persist_numbers : HasNumbers b
      persist_numbers =
          let e = (can z k.ghost_is c k.layers (store_of z a) k.store t r.place r.more r.may).append.encodable in
          let first = e.first_is in let high = e.number_is.high in
          subst HasNumbers (sym r.bundle_is) (record { low = omega arith; high = high })

      pub persist_inside : All (λ w. w.at < a.sizes.pages * PAGE) b.writes
      persist_inside = subst (λ (x : RedoBundle). All (λ w. w.at < a.sizes.pages * PAGE) x.writes) (sym r.bundle_is) (can z k.ghost_is c k.layers (store_of z a) k.store t r.place r.more r.may).append.home

-- ---- how many writes wait
pub writes_push : (ws : List Waiting) (t : ℕ) (b : RedoBundle) → writes_in (ws ++ record { ring = t; redo = b } ∷ []) ≡ writes_in ws + length b.writes
writes_push ws t b = sum_by_push (λ (w : Waiting). length w.redo.writes) ws (record { ring = t; redo = b })

pub writes_left : (n : ℕ) (ws : List Waiting) → writes_in (filter (λ w. nat_lt n w.redo.last) ws) ≤ writes_in ws
writes_left n [] = omega arith
writes_left n (w ∷ ws) =
    let rest = writes_left n ws in
    let f : Waiting → ℕ = λ v. length v.redo.writes in
    let sum = sum_by-cons f w ws in
    elim (cases_Bool (nat_lt n w.redo.last)) [
      | inl kept ↦ rw kept (let more = sum_by-cons f w (filter (λ v. nat_lt n v.redo.last) ws) in omega arith)
      | inr gone ↦ rw gone (omega arith)
    ]

-- a reproduction leaves no more of them
pub fewer_by : (r : Result (Unit {0}) AllocError) (ws : List Write) (n : ℕ) (call : Call) (a d : StoreData) → OnOk r (d ≡ left_of (replays ws n) (called call a)) → OnErr r (d ≡ a) → writes_in d.waiting ≤ writes_in a.waiting
fewer_by (Ok x) ws n call a d ok err = let same : writes_in d.waiting ≡ writes_in (filter (λ w. nat_lt n w.redo.last) a.waiting) = ap (λ (s : StoreData). writes_in s.waiting) ok in let less = writes_left n a.waiting in omega arith
fewer_by (Err x) ws n call a d ok err = let same : writes_in d.waiting ≡ writes_in a.waiting = ap (λ (s : StoreData). writes_in s.waiting) err in omega arith

-- ---- a call on the medium by a view
module _ (z : Setup) (c : State) (a : StoreData) (call : Call) (k : MachineKept z (machine_over z c a)) (who : ℕ) where
  abbrev m : Machine
  m = machine_over z c a

  may_device : (v : View) (b : BackCall) (left : List Call) → HasTurnAt c who v → GoesOnWith z c a call b left → MayDevice z m who v call b left
  may_device v b left h goes = record { is_there = h.0; live = h.1.live; threaded = h.1.threaded; turn = h.1.turn; may = goes.may; whole = goes.whole }

  goes_on_with : (v : View) (b : BackCall) (left : List Call) → MayDevice z m who v call b left → GoesOnWith z c a call b left
  goes_on_with v b left may = record { may = may.may; whole = may.whole }

  has_turn_at : (v : View) (b : BackCall) (left : List Call) → MayDevice z m who v call b left → HasTurnAt c who v
  has_turn_at v b left may = (may.is_there, record { live = may.live; threaded = may.threaded; turn = may.turn })

  device_leads : (d : StoreData) → length a.rings ≡ a.sizes.rings → (v : View) → HasTurnAt c who v → HasMade z c a call d → MachineLeads z m (device who call) (machine_over z c d)
  device_leads d rings v h made =
      let places : (t : ℕ) → t < z.threads → t < a.sizes.rings = λ t lt. (let most = k.store.places.rings in omega arith) in
      let same : store_of z d ≡ device_after z c.records made.back call made.left (store_of z a) =
      ap (store_of z) made.made ∙ effects_law z c.boxes c.records a made.back call made.left rings places k.store.holds made.goes.may made.goes.whole in
      (v, made.back, made.left, may_device v made.back made.left h made.goes, ap (λ (s : Store). let n : Machine = record { core = c; store = s } in n) same)

  pub device_ok : (r : Result (Unit {0}) CoreRefusal) (d : StoreData) → length a.rings ≡ a.sizes.rings → (v : View) × HasTurnAt c who v → OnOk r (HasMade z c a call d) → OnOk r (MachineLeads z m (device who call) (machine_over z c d))
  device_ok (Ok x) d rings h ok = device_leads d rings h.0 h.1 ok
  device_ok (Err x) d rings h ok = tt

  pub device_off : {P : Type 0} → (v : View) × HasTurnAt c who v → P ↔ MakesNone z c a call → P ↔ IsOffIn z m (device who call)
  device_off h off = (
    (λ p n l. off.0 p l.1 l.2 (goes_on_with l.0 l.1 l.2 l.3)),
    (λ none. off.1 (λ b left goes. none (with_device z m b call left) (h.0, b, left, may_device h.0 b left h.1 goes, refl))),
  )

  pub turn_off : {P : Type 0} → P → ((v : View) × HasTurnAt c who v → ⊥) → P ↔ IsOffIn z m (device who call)
  turn_off p none = ((λ q n l. none (l.0, has_turn_at l.0 l.1 l.2 l.3)), (λ off. p))
