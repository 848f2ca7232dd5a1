-- The packets of a run, along the printed order of what was done.
use Rattle.std.proofs.Common.{◌≡◌, ℕ, ◌≤◌, List, take, Result, Ok, Err, sym, ap, ◌∙◌, subst, arith}
use Rattle.std.specs.List.{AllPairs}
use Rattle.std.specs.Prelude.{IsPermutation, OnOk}
use Rattle.dude_base.specs.declared.sizes.Sizes.{Sizes}
use Rattle.dude_base.specs.Records.{RedoBundle}
use Rattle.dude_base.specs.Image.{image_words}
use Rattle.pmem_trait.specs.declared.medium.Medium.{Ghosts}
use Rattle.pmem_trait.specs.Sights.{Sight}
use Rattle.redo_record.specs.Recovery.{AreConsecutive, overwritten_by_all}
use Rattle.redo_record.proofs.WaitingRecords.{consecutive_up}
use Rattle.tatp_model.specs.declared.done.Done.{Done}
use Rattle.tatp_model.specs.declared.request.Request.{Request}
use Rattle.tatp_model.specs.Database.{Database}
use Rattle.tatp_model.specs.OneThread.{after_number}
use Rattle.tatp_layout.specs.StandsFor.{StandsFor}
use Rattle.word_space.specs.Flats.{words_of}
use Rattle.run_order.specs.Runs.{Collects, PrecedesInRounds}
use Rattle.log_numbered.specs.Arrays.{RunArrays, array_at}
use Rattle.log_numbered.specs.KeptBundles.{LeadThrough, kept_bundles}
use Rattle.log_numbered.specs.RunLog.{log_end, log_sizes}
use Rattle.log_numbered.proofs.Keeping.{front_upto, one_end}
use Rattle.dude_engine.specs.declared.run.Run.{Run}
use Rattle.dude_engine.specs.declared.run_fault.RunFault.{RunFault}
use Rattle.dude_engine.specs.declared.run_fault.RunFault.TheVariants.{Device, NoMemory}
use Rattle.dude_engine.specs.Opening.{Opening}
use Rattle.dude_engine.specs.Shipping.{KeepsUp, Ships}
use Rattle.dude_engine.specs.Keeping.{EndsOver, KeepsBy}
use Rattle.dude_engine.specs.Running.{AreAnswered, HasArrays, IsLeft, IsSettledRun}
use Rattle.dude_engine.proofs.Keeping.{end_from, rest_over}
use Rattle.dude_engine.proofs.RunEnds.{printed_like, recovers_printed}

-- however a run ended, the bundles that it kept lead along its arrays as far as was persisted
pub record KeptThrough {M : Type 0} {ghosts : Ghosts M} (opening : Opening) (words : List ℕ) (run : Run M ghosts) : Type 0 where
  pub arrays : RunArrays
  pub current : List ℕ
  pub has : HasArrays opening run.done.items current arrays
  pub opening_is : arrays.opening ≡ words
  pub through : LeadThrough opening.sizes arrays (log_end run.log) (kept_bundles run.packets)

module _ {M : Type 0} {ghosts : Ghosts M} (opening : Opening) (words : List ℕ) (run : Run M ghosts) (s t : Sight) where
  pub through_of : (served : Result (Unit {0}) RunFault) → IsLeft served opening words run s t → KeepsBy served opening words run s t → KeptThrough opening words run
  through_of (Ok done) left kept = record {
    arrays = kept.arrays;
    current = words_of run.words;
    has = kept.has;
    opening_is = kept.opening_is;
    through = subst (λ (z : Sizes). LeadThrough z kept.arrays (log_end run.log) (kept_bundles run.packets)) left.sizes kept.keeps.through;
  }
  through_of (Err NoMemory) left kept = record {
    arrays = kept.arrays;
    current = words_of run.words;
    has = kept.has;
    opening_is = kept.opening_is;
    through = subst (λ (z : Sizes). LeadThrough z kept.arrays (log_end run.log) (kept_bundles run.packets)) left.0.sizes kept.keeps.through;
  }
  through_of (Err Device) left kept = record { arrays = kept.arrays; current = kept.current; has = kept.has; opening_is = kept.opening_is; through = kept.through }

  -- and every image recovers to a number from there on
  pub over_of : (served : Result (Unit {0}) RunFault) (durable : ℕ) → image_words (log_sizes run.log) ≤ t.len → IsLeft served opening words run s t → KeepsBy served opening words run s t
      → OnOk served (IsSettledRun opening words durable run.done.items s t) → OnOk served (log_end run.log ≡ durable) → EndsOver (log_end run.log) opening words run.done.items s t
  over_of (Ok done) durable room left kept settled end = λ before held visible. record { each = λ image is. (durable, omega (arith, end), (settled.images before held visible).each image is) }
  over_of (Err NoMemory) durable room left kept settled end =
      rest_over opening words run.lay run.log (words_of run.words) run.done.items s t room left.1
      (end_from opening run.done.items (words_of run.words) kept.arrays (log_sizes run.log) (log_end run.log) (kept_bundles run.packets) kept.has kept.keeps.through) left.0
  over_of (Err Device) durable room left kept settled end = kept.ends

module _ (opening : Opening) (files : List (List Request)) (performed done : List Done) (same : IsPermutation performed done) (collects : Collects files performed done) (rounds : AllPairs PrecedesInRounds performed) (answered : AreAnswered opening performed) where
  pub ships_of : (words : List ℕ) (a : RunArrays) (current : List ℕ) (end : ℕ) (bundles : List RedoBundle) → HasArrays opening performed current a → a.opening ≡ words → LeadThrough opening.sizes a end bundles → Ships opening words done bundles
  ships_of words a current end bundles has opening_is through =
      let like = printed_like opening files performed done same collects rounds answered in
      record {
        last = end;
        lead = subst (λ (n : ℕ). AreConsecutive n bundles end) has.first through.lead;
        each = through.packets;
        order = like.order;
        printed = like.printed;
        stand = λ k number front.
            let here : AreConsecutive a.first (take k bundles) number = subst (λ (n : ℕ). AreConsecutive n (take k bundles) number) (sym has.first) front in
            let low = consecutive_up a.first number (take k bundles) here in
            let high = front_upto a.first end number k bundles through.lead here in
            let first = has.first in
            let upto = through.upto in
            let is : array_at a number ≡ overwritten_by_all (take k bundles) words = sym (through.arrays k number here) ∙ ap (overwritten_by_all (take k bundles)) opening_is in
            subst (λ (db : Database). StandsFor opening.sizes (overwritten_by_all (take k bundles) words) db) (sym (like.databases number))
            (subst (λ (array : List ℕ). StandsFor opening.sizes array (after_number opening.sizes.calls opening.database performed number)) is (has.stand number (omega arith) (omega arith)));
      }

  pub keeps_up_of : (words : List ℕ) (end : ℕ) (bundles : List RedoBundle) (s t : Sight) → AreConsecutive opening.number bundles end → EndsOver end opening words performed s t → KeepsUp opening words done bundles s t
  keeps_up_of words end bundles s t whole over before last held visible lead =
      let like = printed_like opening files performed done same collects rounds answered in
      let is : last ≡ end = one_end opening.number end last bundles whole lead in
      record {
        order = like.order;
        printed = like.printed;
        images = record {
          each = λ image is_image.
              let r = (over before held visible).each image is_image in
              (r.0, omega (arith, r.1, is), recovers_printed opening files performed done same collects rounds answered image r.0 r.2);
        };
      }
