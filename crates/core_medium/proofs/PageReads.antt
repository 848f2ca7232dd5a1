-- A page that is read whole gives the words of the home.
use Rattle.std.proofs.Common.{◌≡◌, ℕ, ◌+◌, ◌*◌, ◌<◌, ◌≤◌, List, [], ◌∷◌, ◌++◌, length, refl, sym, ap, ◌∙◌, arith, append_assoc, length-append, mul-le-mul_right}
use Rattle.std.specs.Prelude.{Some, slice_index}
use Rattle.std.proofs.lemmas.List.FromFn.{length-map-range_with_len}
use mathlib.Core.Logic.{dite}
use native.Mathlib.Decide.{ℕ_discrete}
use Rattle.dude_base.specs.declared.limits.TheConstants.{PAGE}
use Rattle.dude_base.specs.declared.sizes.Sizes.{Sizes}
use Rattle.dude_base.specs.Image.{home_word}
use Rattle.pmem_trait.specs.declared.call.Call.{Call}
use Rattle.pmem_trait.specs.declared.call.Call.TheVariants.{Read}
use Rattle.pmem_trait.specs.Words.{State as MediumState, value_of, after_all}
use Rattle.pmem_trait.proofs.Laws.{after_each_last}
use Rattle.redo_record.specs.BackCalls.{read_page_calls}
use Rattle.redo_record.proofs.HeldLog.{read_page_law}
use Rattle.core_events.specs.Setups.{Setup}
use Rattle.core_events.specs.Keyed.{find}
use Rattle.core_events.specs.Words.{State}
use Rattle.core_events.specs.Ghosts.{Ghost}
use Rattle.core_events.specs.Kept.{LayersKept}
use Rattle.core_events.proofs.Lists.{find_head, find_tail}
use Rattle.core_medium.specs.Stores.{Store, medium_of}
use Rattle.core_medium.specs.BackCalls.{reading, with_call, store_behind}
use Rattle.core_medium.specs.KeptStore.{StoreKept}
use Rattle.core_medium.specs.MachineLaws.{HasReadPage}
use Rattle.core_medium.proofs.Devices.{still, device_keep}

reads_long : (s : Sizes) (p : ℕ) → length (read_page_calls s p) ≡ PAGE
reads_long s p = length-map-range_with_len Read (home_word s (p * PAGE)) PAGE

module _ (z : Setup) (g : Ghost) (c : State) (l : LayersKept z g c) (p : ℕ) where
  -- the first words of the page were read
  abbrev ReadsTo : Store → ℕ → Type 0
  ReadsTo d n = (i : ℕ) → i < n → find d.read (p * PAGE + i) ≡ Some (slice_index d.log.home (p * PAGE + i))

  module _ (d : Store) (k : StoreKept z g c d) (below : p < d.log.sizes.pages) (call : Call) (later : List Call) (whole : read_page_calls d.log.sizes p ≡ d.calls ++ call ∷ later) where
    few : length d.calls < PAGE
    few = let long = reads_long d.log.sizes p in let size : length (d.calls ++ call ∷ later) ≡ length d.calls + length (call ∷ later) = length-append d.calls (call ∷ later) in let e = ap length whole in omega arith

    word_is : value_of ((medium_of d).word (home_word d.log.sizes (p * PAGE + length d.calls))) ≡ slice_index d.log.home (p * PAGE + length d.calls)
    word_is =
        let pages : (p + 1) * PAGE ≤ d.log.sizes.pages * PAGE = mul-le-mul_right PAGE (omega arith) in let lt = few in let count = k.holds.rest.count in
        ap (λ (q : MediumState). value_of (q.word (home_word d.log.sizes (p * PAGE + length d.calls)))) (still z g c l d k p below (call ∷ later) whole)
        ∙ ap value_of (k.holds.rest.words (p * PAGE + length d.calls) (omega arith))

    -- one word more
    reads_more : ReadsTo d (length d.calls) → ReadsTo (with_call (reading p) call d) (length d.calls + 1)
    reads_more so_far i lt = dite (ℕ_discrete (length d.calls) i)
        (λ here.
        ap (λ (n : ℕ). find ((p * PAGE + length d.calls, value_of ((medium_of d).word (home_word d.log.sizes (p * PAGE + length d.calls)))) ∷ d.read) (p * PAGE + n)) (sym here)
        ∙ (find_head d.read (p * PAGE + length d.calls) (value_of ((medium_of d).word (home_word d.log.sizes (p * PAGE + length d.calls))))
        ∙ (ap Some word_is ∙ ap (λ (n : ℕ). Some (slice_index d.log.home (p * PAGE + n))) here)))
        (λ other.
        find_tail d.read (p * PAGE + length d.calls) (value_of ((medium_of d).word (home_word d.log.sizes (p * PAGE + length d.calls)))) (p * PAGE + i) (λ same. other (omega arith))
        ∙ so_far i (omega arith))

  pub page_read : (calls : List Call) (d : Store) → StoreKept z g c d → p < d.log.sizes.pages → read_page_calls d.log.sizes p ≡ d.calls ++ calls → 0 < length calls → ReadsTo d (length d.calls)
      → HasReadPage p d (store_behind z c.records (reading p) d calls)
  page_read [] d k below whole filled so_far = absurd (omega arith)
  page_read (call ∷ []) d k below whole filled so_far =
      let long = reads_long d.log.sizes p in let size : length (d.calls ++ call ∷ []) ≡ length d.calls + 1 = length-append d.calls (call ∷ []) in let e = ap length whole in
      record {
        log = refl;
        rest = ap (λ (cs : List Call). after_all cs d.rest) (sym whole) ∙ after_each_last (read_page_law d.log p d.rest k.holds below).0;
        calls = refl;
        words = λ i lt. reads_more d k below call [] whole so_far i (omega arith);
      }
  page_read (call ∷ next ∷ later) d k below whole filled so_far =
      let size : length (d.calls ++ call ∷ []) ≡ length d.calls + 1 = length-append d.calls (call ∷ []) in
      let r = page_read (next ∷ later) (with_call (reading p) call d) (device_keep z g c l d k (reading p) call (next ∷ later) below whole) below (whole ∙ sym (append_assoc d.calls (call ∷ []) (next ∷ later))) (omega arith)
      (λ i lt. reads_more d k below call (next ∷ later) whole so_far i (omega arith)) in
      record { log = r.log; rest = r.rest; calls = r.calls; words = r.words }

  -- from rest
  pub whole_page_read : (d : Store) → StoreKept z g c d → p < d.log.sizes.pages → d.calls ≡ [] → HasReadPage p d (store_behind z c.records (reading p) d (read_page_calls d.log.sizes p))
  whole_page_read d k below none =
      let long = reads_long d.log.sizes p in let zero_calls : length d.calls ≡ 0 = ap length none in
      page_read (read_page_calls d.log.sizes p) d k below (ap (λ (cs : List Call). cs ++ read_page_calls d.log.sizes p) (sym none)) (omega arith) (λ i lt. absurd (omega arith))
