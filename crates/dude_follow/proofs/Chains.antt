-- Packets that are applied one after another.
use Rattle.std.proofs.Common.{◌≡◌, ℕ, ◌+◌, Bool, true, List, [], ◌∷◌, ◌++◌, map, append_assoc, append-nil, refl, sym, ap, ◌∙◌, subst, arith}
use Rattle.std.proofs.lemmas.List.{map-append}
use Rattle.dude_base.specs.declared.sizes.Sizes.{Sizes}
use Rattle.dude_base.specs.Records.{RedoBundle, first_of, overwritten_by_all}
use Rattle.pmem_trait.specs.declared.call.Call.{Call}
use Rattle.pmem_trait.specs.Sights.{AtEveryMoment, CallsMade, Extends, Sight, state_now}
use Rattle.pmem_trait.proofs.Laws.{every_moment_then, every_moment_weaker}
use Rattle.pmem_trait.proofs.Runs.{later_then, made_then, ran_then, risen_later}
use Rattle.redo_record.specs.Recovery.{AreConsecutive, Recovers}
use Rattle.redo_record.proofs.Reproducing.{overwritten-append}
use Rattle.back_store.specs.Back.{BackState}
use Rattle.log_numbered.proofs.LoggedCalls.{settled_back, settled_by}
use Rattle.dude_follow.specs.Applying.{AnnouncesAlone, Applies, AppliedBy, AppliedBy.none, AppliedBy.next, GoesOn, HoldsArray, Overwrites, PersistsAlone, RecoversAlong, RecoversThrough, ReproducesAlone, Tells, WaitsAlone}
use Rattle.dude_follow.proofs.Applying.{announced_waits}
use Rattle.dude_follow.proofs.Leading.{consecutive_append}

-- an image that recovers along the first of the packets recovers along all
pub along_more : (sizes : Sizes) (from : ℕ) (xs ys : List RedoBundle) (array : List ℕ) (before : ℕ) (told image : List ℕ) → RecoversAlong sizes from xs array before told image → RecoversAlong sizes from (xs ++ ys) array before told image
along_more sizes from xs ys array before told image is = record {
  front = is.front;
  rest = is.rest ++ ys;
  split = ap (λ (l : List RedoBundle). l ++ ys) is.split ∙ append_assoc is.front is.rest ys;
  number = is.number;
  lead = is.lead;
  recovered = is.recovered;
  same_sizes = is.same_sizes;
  floor = is.floor;
}

-- and so does one behind them
pub along_behind : (sizes : Sizes) (from to : ℕ) (xs ys : List RedoBundle) (array : List ℕ) (before : ℕ) (told image : List ℕ) → AreConsecutive from xs to → RecoversAlong sizes to ys (overwritten_by_all xs array) before told image
    → RecoversAlong sizes from (xs ++ ys) array before told image
along_behind sizes from to xs ys array before told image lead is = record {
  front = xs ++ is.front;
  rest = is.rest;
  split = ap (λ (l : List RedoBundle). xs ++ l) is.split ∙ sym (append_assoc xs is.front is.rest);
  number = is.number;
  lead = consecutive_append from to is.number xs is.front lead is.lead;
  recovered = subst (Recovers image is.number) (sym (overwritten-append xs is.front array)) is.recovered;
  same_sizes = is.same_sizes;
  floor = is.floor;
}

pub through_more : (v : BackState) (s t : Sight) (xs ys : List RedoBundle) → RecoversThrough xs v s t → RecoversThrough (xs ++ ys) v s t
through_more v s t xs ys through before array is =
    every_moment_weaker (λ told image long here. along_more v.log.sizes v.log.reproduced xs ys array before told image here) (through before array is)

pub through_then : (v w : BackState) (s t u : Sight) (xs ys : List RedoBundle) → w.log.sizes ≡ v.log.sizes → AreConsecutive v.log.reproduced xs w.log.reproduced → Overwrites xs v s w t
    → RecoversThrough xs v s t → RecoversThrough ys w t u → RecoversThrough (xs ++ ys) v s u
through_then v w s t u xs ys sizes lead overwrites one other before array is =
    every_moment_then (through_more v s t xs ys one before array is)
    (every_moment_weaker
    (λ told image long here. along_behind v.log.sizes v.log.reproduced w.log.reproduced xs ys array before told image lead
    (subst (λ (z : Sizes). RecoversAlong z w.log.reproduced ys (overwritten_by_all xs array) before told image) sizes here))
    (other before (overwritten_by_all xs array) (overwrites before array is)))

-- where a call leaves the array
pub through_same : (v w : BackState) (s t u : Sight) (packets : List RedoBundle) → w.log.sizes ≡ v.log.sizes → w.log.reproduced ≡ v.log.reproduced → Overwrites [] v s w t
    → RecoversThrough packets v s t → RecoversThrough packets w t u → RecoversThrough packets v s u
through_same v w s t u packets sizes number overwrites one other before array is =
    every_moment_then (one before array is)
    (subst (λ (n : ℕ). AtEveryMoment (RecoversAlong v.log.sizes n packets array before) t u) number
    (subst (λ (z : Sizes). AtEveryMoment (RecoversAlong z w.log.reproduced packets array before) t u) sizes
    (other before array (overwrites before array is))))

pub goes_then : {ok : Bool} (v w x : BackState) (s t u : Sight) → GoesOn true v s w t → GoesOn ok w t x u → GoesOn ok v s x u
goes_then v w x s t u one other = record {
  later = later_then one.later other.later;
  sizes = other.sizes ∙ one.sizes;
  ran = ran_then one.ran other.ran;
  cause = λ no. risen_later s.faults t.faults u.faults u.faults one.later.faults (other.cause no) (omega arith);
  dead = other.dead;
}

pub told_then : (s t u : Sight) (xs ys : List ℕ) → Extends s t → Tells xs s t → Tells ys t u → Tells (xs ++ ys) s u
told_then s t u xs ys later one other visible =
    other (later.is_visible ∙ visible) ∙ ap (λ (l : List ℕ). l ++ ys) (one visible) ∙ append_assoc (state_now s).told xs ys

pub applied_then : {xs ys : List RedoBundle} {v w u : BackState} {bs cs : List Call} → AppliedBy xs v w bs → AppliedBy ys w u cs → AppliedBy (xs ++ ys) v u (bs ++ cs)
applied_then none other = other
applied_then {ys = ys} {u = u} {cs = cs} (next {b = b} {packets = packets} {v = v} persisting settling calls persisted settled rest) other =
    subst (AppliedBy (b ∷ packets ++ ys) v u) (sym (append_assoc (persisting ++ settling) calls cs))
    (next persisting settling (calls ++ cs) persisted settled (applied_then rest other))

pub applies_then : (xs ys : List RedoBundle) (v w x : BackState) (s t u : Sight) → Extends s t → Applies xs v s w t → Applies ys w t x u → Applies (xs ++ ys) v s x u
applies_then xs ys v w x s t u later one other = record {
  lead = consecutive_append v.log.reproduced w.log.reproduced x.log.reproduced xs ys one.lead other.lead;
  overwrites = λ before array is.
      subst (λ (a : List ℕ). HoldsArray before x a u) (sym (overwritten-append xs ys array)) (other.overwrites before (overwritten_by_all xs array) (one.overwrites before array is));
  told = subst (λ (l : List ℕ). Tells l s u) (sym (map-append (λ (b : RedoBundle). b.last) xs ys))
      (told_then s t u (map (λ b. b.last) xs) (map (λ b. b.last) ys) later one.told other.told);
  calls = (one.calls.0 ++ other.calls.0, applied_then one.calls.1 other.calls.1, made_then one.calls.2 other.calls.2);
}

-- ---- one packet, by its three steps

pub goes_through : {ok : Bool} (v w x y : BackState) (s t u r : Sight) → GoesOn true v s w t → GoesOn true w t x u → GoesOn ok x u y r → GoesOn ok v s y r
goes_through v w x y s t u r one other last = goes_then v w y s t r one (goes_then w x y t u r other last)

pub through_one : (b : RedoBundle) (v w x : BackState) (s t u r : Sight) → GoesOn true v s w t → GoesOn true w t x u → PersistsAlone b v s w t → ((c : RedoBundle) → WaitsAlone c w → AnnouncesAlone c w t x u)
    → RecoversThrough (b ∷ []) v s t → ((c : RedoBundle) → WaitsAlone c w → RecoversThrough (c ∷ []) w t u) → ((c : RedoBundle) → WaitsAlone c x → RecoversThrough (c ∷ []) x u r) → RecoversThrough (b ∷ []) v s r
through_one b v w x s t u r goes onward one announces moments middle last =
    let other = announces b one.waits in
    through_same v w s t r (b ∷ []) goes.sizes one.number one.overwrites moments
    (through_same w x t u r (b ∷ []) onward.sizes (ap (λ (y : BackState). y.log.reproduced) other.back) other.overwrites (middle b one.waits) (last b (announced_waits w x b one.waits other.back)))

pub applies_one : (b : RedoBundle) (v w x y : BackState) (s t u r : Sight) → GoesOn true v s w t → GoesOn true w t x u → first_of b ≡ v.log.reproduced + 1
    → PersistsAlone b v s w t → AnnouncesAlone b w t x u → ReproducesAlone b x u y r → Applies (b ∷ []) v s y r
applies_one b v w x y s t u r goes onward first one other last = record {
  lead = (first, sym last.number);
  overwrites = λ before array is. last.overwrites before array (other.overwrites before array (one.overwrites before array is));
  told = told_then s t r [] (b.last ∷ []) goes.later one.told (told_then t u r (b.last ∷ []) [] onward.later other.told last.told);
  calls =
      let settling = settled_by w x b.last b.last t u r one.waits.leads.end other.calls other.back refl last.calls in (
        one.calls.0 ++ settling.0 ++ [],
        subst (λ z. AppliedBy (b ∷ []) v z (one.calls.0 ++ settling.0 ++ [])) (sym (settled_back w x y b.last b.last other.back refl last.back)) (next one.calls.0 settling.0 [] one.calls.1 settling.1 none),
        subst (λ l. CallsMade l true s r) (sym (append-nil (one.calls.0 ++ settling.0))) (made_then one.calls.2 settling.2),
      );
}
