-- Every image of a kept machine's medium recovers to the values at a number.
use Rattle.std.proofs.Common.{◌≡◌, ℕ, ◌*◌, ◌<◌, ◌≤◌, nat_lt, List, [], ◌∷◌, ◌++◌, length, take, sym, ap, ◌∙◌, subst, inl, inr, ⊎_elim, arith, refl}
use Rattle.std.specs.List.{filter}
use mathlib.Core.Logic.{dite}
use native.Mathlib.Decide.{dec_lt}
use Rattle.dude_base.specs.declared.limits.TheConstants.{PAGE}
use Rattle.dude_base.specs.Image.{image_words, cell_at}
use Rattle.dude_base.proofs.Overwriting.{length-overwritten_by_all}
use Rattle.pmem_trait.specs.declared.call.Call.{Call}
use Rattle.pmem_trait.specs.Words.{State as MediumState, EveryImage, AfterEachCall, after_all}
use Rattle.pmem_trait.proofs.Laws.{after_each_prefix}
use Rattle.redo_record.specs.Waiting.{IsEnd}
use Rattle.redo_record.specs.LogState.{LogState, RecoversAmong}
use Rattle.redo_record.proofs.WaitingRecords.{waiting_law, keeps_filter, consecutive_up}
use Rattle.redo_record.proofs.Persisting.{persist_law}
use Rattle.redo_record.proofs.Reproducing.{reproduce_law}
use Rattle.redo_record.proofs.HeldLog.{held_log_law, announce_law}
use Rattle.core_events.specs.Setups.{Setup}
use Rattle.core_events.specs.Words.{State}
use Rattle.core_events.specs.Ghosts.{Ghost}
use Rattle.core_events.specs.Kept.{LayersKept}
use Rattle.core_medium.specs.KeptLog.{LogIn}
use Rattle.core_medium.specs.BoxBundles.{bundle_in}
use Rattle.core_medium.proofs.LogCalls.{array_law}
use Rattle.core_medium.specs.Stores.{Store, medium_of}
use Rattle.core_medium.specs.BackCalls.{BackCall, persisting, announcing, reproducing, reading, MayCall, calls_of}
use Rattle.core_medium.specs.KeptStore.{StoreKept}
use Rattle.core_medium.specs.Machines.{Machine}
use Rattle.core_medium.specs.Crash.{IsEndNow, RecoversToValues}
use Rattle.core_medium.proofs.Devices.{take_front, log2, stands2, can, logged, adds, can_reproduce, still, told_upto}

-- no call was made
pub none_made : (calls : List Call) → (0 < length calls → ⊥) → calls ≡ []
none_made [] none = refl
none_made (call ∷ calls) none = absurd (none (omega arith))

module _ (z : Setup) (g : Ghost) (c : State) (l : LayersKept z g c) (d : Store) (k : StoreKept z g c d) where
  abbrev m : Machine
  m = record { core = c; store = d }

  -- what an image that recovers so has, where a log of this home stands
  among : (l2 : LogState) → l2.sizes ≡ d.log.sizes → length l2.home ≡ z.pages * PAGE → LogIn z g c l2 → ((n : ℕ) → IsEnd l2.waiting l2.reproduced n → IsEndNow z m n) → (told image : List ℕ) (low high : ℕ)
      → RecoversAmong l2 0 low high told image → RecoversToValues z m told image
  among l2 sizes long stands ends told image low high is =
      let law = array_law z g c l2 is.number is.array l stands long is.is_array in record {
        number = is.number;
        array = is.array;
        recovered = is.recovered;
        same_sizes = is.same_sizes ∙ sizes;
        size = ap length is.is_array.result ∙ (length-overwritten_by_all is.is_array.records l2.home ∙ long);
        values = law.0;
        is_end = ends is.number (record { records = is.is_array.records; lead = is.is_array.lead });
        from = (let up = consecutive_up l2.reproduced is.number is.is_array.records is.is_array.lead.consecutive in let from = stands.from in omega arith);
        posted = law.1;
        least = is.floor;
      }

  home_long : length d.log.home ≡ z.pages * PAGE
  home_long = k.holds.rest.count ∙ ap (λ (n : ℕ). n * PAGE) k.places.pages

  -- the medium after the calls made, where these are the front of a list
  pub front : (P : MediumState → Type 0) (whole : List Call) (later : List Call) → whole ≡ d.calls ++ later → AfterEachCall P d.rest whole → P (medium_of d)
  front P whole later is along =
      let calls : take (length d.calls) whole ≡ d.calls = ap (take (length d.calls)) is ∙ take_front d.calls later in
      subst (λ (cs : List Call). P (after_all cs d.rest)) calls (after_each_prefix (length d.calls) along)

  module _ (len : ℕ) (long : image_words d.log.sizes ≤ len) where
    every : (l2 : LogState) → l2.sizes ≡ d.log.sizes → length l2.home ≡ z.pages * PAGE → LogIn z g c l2 → ((n : ℕ) → IsEnd l2.waiting l2.reproduced n → IsEndNow z m n) → (low high : ℕ) (p : MediumState)
        → EveryImage len (RecoversAmong l2 0 low high) p → EveryImage len (RecoversToValues z m) p
    every l2 sizes home stands ends low high p all = record { each = λ image is. among l2 sizes home stands ends p.told image low high (all.each image is) }

    at_rest : EveryImage len (RecoversToValues z m) d.rest
    at_rest =
        let end = waiting_law.some_end d.log.waiting d.log.reproduced in
        every d.log refl home_long k.stands (λ n is. inl is) end.0 end.0 d.rest (held_log_law d.log d.rest len 0 end.0 k.holds long end.1 (told_upto z g c l d k end.0 end.1))

    under : (b : BackCall) (later : List Call) → 0 < length d.calls → MayCall z c.boxes c.records d.log d.rest.told b → calls_of z c.records d.log.sizes d.next b ≡ d.calls ++ later → EveryImage len (RecoversToValues z m) (medium_of d)
    under (persisting t j more) later made may whole =
        let log = log2 z g c l d k t j more may in
        let low = waiting_law.some_end d.log.waiting d.log.reproduced in let high = waiting_law.some_end log.waiting d.log.reproduced in
        let law =
        persist_law d.log (cell_at t (d.next t)) (bundle_in z c.records t j more) log.rings log.waiting d.rest k.holds
        (can z g c l d k t j more may) (logged z g c l d k t j more may) (adds z g c l d k t j more may) in
        every log refl home_long (stands2 z g c l d k t j more may) (λ n is. inr (t, j, more, record { made = made; may = may; later = later; whole = whole }, is)) low.0 high.0 (medium_of d)
        (front (EveryImage len (RecoversAmong log 0 low.0 high.0)) (calls_of z c.records d.log.sizes d.next (persisting t j more)) later whole
        (law.0 len 0 low.0 high.0 long low.1 high.1 (told_upto z g c l d k low.0 low.1)))
    under (announcing n) later made may whole =
        every d.log refl home_long k.stands (λ x is. inl is) n n (medium_of d)
        (front (EveryImage len (RecoversAmong d.log 0 n n)) (calls_of z c.records d.log.sizes d.next (announcing n)) later whole
        ((announce_law d.log n d.rest k.holds).0 len 0 n long may (told_upto z g c l d k n may) (omega arith)))
    under (reproducing rs ws x) later made may whole =
        let end = waiting_law.some_end d.log.waiting d.log.reproduced in
        let law = reproduce_law d.log rs ws x (filter (λ w. nat_lt x w.redo.last) d.log.waiting) d.rest k.holds (can_reproduce z g c l d k rs ws x may) (keeps_filter x d.log.waiting) in
        every d.log refl home_long k.stands (λ n is. inl is) end.0 end.0 (medium_of d)
        (front (EveryImage len (RecoversAmong d.log 0 end.0 end.0)) (calls_of z c.records d.log.sizes d.next (reproducing rs ws x)) later whole
        (law.0 len 0 end.0 long end.1 (told_upto z g c l d k end.0 end.1)))
    under (reading p) later made may whole = subst (λ (q : MediumState). EveryImage len (RecoversToValues z m) q) (sym (still z g c l d k p may later whole)) at_rest

    pub recovers : EveryImage len (RecoversToValues z m) (medium_of d)
    recovers = ⊎_elim rests (λ u. dite (dec_lt 0 (length d.calls)) (λ made. under u.back (u.call ∷ u.later) made u.may u.whole) (λ none. rests (none_made d.calls none))) k.under
      where
        rests : d.calls ≡ [] → EveryImage len (RecoversToValues z m) (medium_of d)
        rests none = subst (λ (cs : List Call). EveryImage len (RecoversToValues z m) (after_all cs d.rest)) (sym none) at_rest
