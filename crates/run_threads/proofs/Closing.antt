-- Transactions that were closed have run, whether their ending succeeded or not.
use Rattle.std.proofs.Common.{◌≡◌, ◌||◌, ◌==◌, ℕ, ◌≤◌, Bool, false, true, IsTrue, List, length, map, refl, sym, ◌∙◌, subst, arith}
use Rattle.std.specs.Prelude.{not}
use Rattle.std.specs.List.{All, range_with_len}
use Rattle.std.proofs.lemmas.Bool.{true≢false}
use Rattle.dude_base.specs.declared.limits.TheConstants.{VERSION}
use Rattle.dude_base.specs.declared.sizes.Sizes.{Sizes}
use Rattle.dude_base.specs.Image.{image_words}
use Rattle.pmem_trait.specs.Words.{EveryImage}
use Rattle.pmem_trait.specs.Sights.{AtEveryMoment, Sight, state_now}
use Rattle.pmem_trait.specs.declared.medium.Medium.{Ghosts}
use Rattle.pmem_trait.proofs.Told.{settled_image}
use Rattle.redo_record.proofs.Recovered.{home_sizes, images_at_rest_law}
use Rattle.redo_record.proofs.WaitingRecords.{consecutive_up}
use Rattle.back_store.specs.declared.back.Back.{Back}
use Rattle.back_store.specs.Back.{home_now, idle}
use Rattle.back_store.specs.BackView.{medium_of, state_of}
use Rattle.back_store.specs.Images.{HoldsStore}
use Rattle.core_events.specs.Entries.{HaveNumbers, IsLegal}
use Rattle.core_events.specs.Setups.{Setup}
use Rattle.core_events.specs.Views.{Entry, View}
use Rattle.stm_slots.specs.Opening.{setup_of, start_sight}
use Rattle.stm_slots.specs.declared.opening.Opening.{Opening}
use Rattle.tiny_stm.specs.Ended.{IsKeptEnd, RecoversUpTo}
use Rattle.run_threads.specs.HasRun.{HasRun}

-- the sizes that images recover to are those at the start
same_sizes : (z : Setup) (es : List Entry) (last k first : ℕ) (kept sizes : Sizes) (s t : Sight) → AtEveryMoment (RecoversUpTo z es last kept k) s t → HoldsStore first (idle sizes z.first) s
    → image_words sizes ≤ s.len → IsTrue s.is_visible → kept ≡ sizes
same_sizes z es last k first kept sizes s t m holds room seen =
    let image : List ℕ = map (λ j. ((state_now s).word j).settled) (range_with_len 0 s.len) in
    let here : EveryImage s.len (RecoversUpTo z es last kept k) (state_now s) = subst (EveryImage s.len (RecoversUpTo z es last kept k)) (m.later.past seen s.now (omega arith)) (m.each seen s.now (omega arith) m.later.now) in
    let is = settled_image s.len (state_now s) in
    let home = images_at_rest_law VERSION sizes z.first (home_now sizes s) (state_now s) s.len image room (holds.holds refl seen).rest is in
    sym (here.each image is).same_sizes ∙ home_sizes home

module _ {M : Type 0} {ghosts : Ghosts M} (sight : M → Sight) (o : Opening M ghosts) (v : View) (last : ℕ) (numbers : HaveNumbers o.terms.first v.entries) (legal : (setup_of sight o).is_told ≡ true → IsLegal o.terms.first o.terms.opening v.entries) (upto : All (λ e. e.number ≤ last) v.entries)
    (b : Back M ghosts) (kept : IsKeptEnd sight o v last b)
    (sizes : Sizes) (room : image_words sizes ≤ (start_sight sight o).len) where
  pub has_run : HasRun (setup_of sight o) sizes v.entries last (state_of b).log.durable (not (state_of b).dead) (start_sight sight o) (sight (medium_of b))
  has_run = record {
    numbers = numbers;
    legal = legal;
    upto = upto;
    later = kept.images.later;
    images = λ before holds. let s = start_sight sight o in record {
      later = kept.images.later;
      each = λ seen m from upto.
          let same = same_sizes (setup_of sight o) v.entries last (length (state_now s).told) before (state_of b).log.sizes sizes s (sight (medium_of b)) kept.images holds room seen in
          subst (λ (z : Sizes). EveryImage s.len (RecoversUpTo (setup_of sight o) v.entries last z (length (state_now s).told)) ((sight (medium_of b)).state m)) same (kept.images.each seen m from upto);
    };
    ran = kept.ran;
    told = λ seen. kept.told (kept.images.later.is_visible ∙ seen);
    from =
        let lawful = kept.by_entries.known.lawful in let low = lawful.from in
        let up = consecutive_up (state_of b).log.reproduced (state_of b).log.durable lawful.log.led.records lawful.log.led.lead.consecutive in
        omega arith;
  }

-- where the medium is visible, or all pages are in frames, it is known what the medium gives
told_seen : (b c : Bool) → IsTrue b → (b || c) ≡ true
told_seen true c seen = refl
told_seen false c seen = absurd (true≢false (sym seen))

pub told_where : {M : Type 0} {ghosts : Ghosts M} (sight : M → Sight) (o : Opening M ghosts) → IsTrue (start_sight sight o).is_visible → (setup_of sight o).is_told ≡ true
told_where sight o seen = told_seen (start_sight sight o).is_visible (o.terms.frames == o.terms.pages) seen
