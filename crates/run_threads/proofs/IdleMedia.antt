-- The medium behind an ended run is that of an idle back.
use Rattle.std.proofs.Common.{◌≡◌, ℕ, ◌<◌, ◌≤◌, List, [], ◌∷◌, map, refl, ap, sym, ◌∙◌, subst, ⊎_elim, arith}
use Rattle.std.specs.Prelude.{IsTrue}
use Rattle.std.specs.List.{All, Contains, range_with_len}
use Rattle.std.proofs.lemmas.Grind.{same_number_lists}
use Rattle.std.proofs.lemmas.List.Elements.{All-head, All-tail}
use Rattle.dude_base.specs.declared.limits.TheConstants.{VERSION}
use Rattle.dude_base.specs.declared.sizes.Sizes.{Sizes}
use Rattle.dude_base.specs.Image.{image_words}
use Rattle.pmem_trait.specs.Words.{AtLeast, EveryImage, State}
use Rattle.pmem_trait.specs.Sights.{Sight, state_now}
use Rattle.pmem_trait.specs.declared.medium.Medium.{Ghosts}
use Rattle.pmem_trait.proofs.Told.{settled_image}
use Rattle.redo_record.specs.Tags.{number_of}
use Rattle.redo_record.specs.Fits.{HasHead, Logged, settled_mark}
use Rattle.redo_record.specs.Rest.{RestsAt}
use Rattle.redo_record.specs.Waiting.{Waiting}
use Rattle.redo_record.specs.LogState.{HoldsLog, IsWaiting, LogState}
use Rattle.redo_record.specs.BackLaws.{HasNoHeads}
use Rattle.redo_record.proofs.Recovered.{home_sizes, images_at_rest_law}
use Rattle.back_store.specs.Backlog.{log_of}
use Rattle.back_store.specs.declared.back.Back.{Back}
use Rattle.back_store.specs.Back.{home_now, idle}
use Rattle.back_store.specs.BackView.{medium_of, state_of}
use Rattle.back_store.specs.Images.{HoldsStore, IsIdleMedium}
use Rattle.core_events.specs.Views.{View}
use Rattle.stm_slots.specs.Known.{told_before}
use Rattle.dude_recover.specs.Opened.{HoldsWhereIdle}
use Rattle.run_threads.specs.Home.{IsHome}
use Rattle.run_threads.specs.Reopened.{HoldsReopened}
use Rattle.run_threads.proofs.Keeping.{told_of}
use Rattle.stm_slots.specs.Opening.{setup_of, since_of, start_sight}
use Rattle.stm_slots.specs.declared.opening.Opening.{Opening}
use Rattle.tatp_check.specs.Faults.{IsCause}
use Rattle.tatp_check.specs.declared.check_fault.CheckFault.{CheckFault}
use Rattle.tatp_check.specs.declared.check_fault.CheckFault.TheVariants.{NoMemory, NotDb}
use Rattle.tatp_check.specs.Order.{IsNotDb}
use Rattle.tatp_layout.specs.StandsFor.{IsLawful}
use Rattle.tiny_stm.specs.Ended.{IsKeptEnd, RecoversUpTo}
use Rattle.tiny_stm.specs.declared.closed.Closed.{Closed}

-- what holds of each record over the mark holds of none where it can't hold
none_over : (P : Logged → Type 0) (mark : ℕ) (logged : List Logged) (n slot : ℕ) → All (λ l. mark < l.last → P l) logged → ((l : Logged) → P l → ⊥) → mark < n → HasHead n slot logged → ⊥
none_over P mark [] n slot all never over head = head
none_over P mark (l ∷ ls) n slot all never over head = ⊎_elim
    (λ h. never l (All-head (λ k. mark < k.last → P k) l ls all (let e = h.0 in omega arith)))
    (λ rest. none_over P mark ls n slot (All-tail (λ k. mark < k.last → P k) l ls all) never over rest) head

module _ (l : LogState) (p : State) (h : HoldsLog l p) (none : (w : Waiting) → Contains l.waiting w → ⊥) where
  mark_is : settled_mark p ≡ l.reproduced
  mark_is = ap (λ w. w.settled) h.rest.mark

  pub no_heads : HasNoHeads l.sizes l.reproduced p
  no_heads ring slot tag r s may over =
      let head = (h.fits ring r).heads slot tag s may (record { kind = over.kind; over = (let m = mark_is in let o = over.over in omega arith) }) in
      none_over (IsWaiting l.sizes l.waiting ring p) l.reproduced (l.rings ring).logged (number_of tag) slot (h.logged ring r)
      (λ k w. none (record { ring = ring; redo = w.redo }) w.waits) over.over head

module _ {M : Type 0} {ghosts : Ghosts M} (sight : M → Sight) (o : Opening M ghosts) (v : View) (c : Closed M ghosts) (h : IsHome sight o v c) (seen : IsTrue (sight (medium_of c.back)).is_visible) where
  -- the words are those of the home
  pub words_are : home_now (state_of c.back).log.sizes (sight (medium_of c.back)) ≡ c.words.items
  words_are =
      let start = subst IsTrue h.ended.kept.by_entries.known.is.moments.later.is_visible seen in
      let words = h.words.values (told_of sight o v start) in
      let home = h.ended.home seen in
      same_number_lists (home_now (state_of c.back).log.sizes (sight (medium_of c.back))) c.words.items (home.size ∙ sym words.size)
      (λ i lt. let size = home.size in home.words i (omega arith) ∙ sym (words.words i (omega arith)))

  pub idle_medium : (before : ℕ) → AtLeast before (state_now (sight (medium_of c.back))).told c.number → IsIdleMedium before (state_of c.back).log.sizes c.number c.words.items (state_now (sight (medium_of c.back)))
  idle_medium before told =
      let holds = h.ended.kept.by_entries.known.is.keeps.holds h.ended.alive seen in
      let sizes = (state_of c.back).log.sizes in let state = state_now (sight (medium_of c.back)) in record {
        rest = subst (λ (home : List ℕ). RestsAt VERSION sizes c.number home state) words_are
            (subst (λ (n : ℕ). RestsAt VERSION sizes n (home_now sizes (sight (medium_of c.back))) state) h.ended.reproduced holds.rest);
        heads = subst (λ (n : ℕ). HasNoHeads sizes n state) h.ended.reproduced (no_heads (log_of (state_of c.back).log (home_now sizes (sight (medium_of c.back)))) state holds h.ended.none);
        told = told;
      }

-- the sizes of images at the end are those of the back at the start
same_sizes : {M : Type 0} {ghosts : Ghosts M} (sight : M → Sight) (o : Opening M ghosts) (v : View) (last : ℕ) (b : Back M ghosts) (sizes : Sizes) (first : ℕ) → IsKeptEnd sight o v last b → HoldsStore first (idle sizes o.terms.first) (start_sight sight o)
    → image_words sizes ≤ (start_sight sight o).len → IsTrue (start_sight sight o).is_visible → (state_of b).log.sizes ≡ sizes
same_sizes sight o v last b sizes first kept holds room seen =
    let s = start_sight sight o in let m = kept.images in let later = m.later in let P = RecoversUpTo (setup_of sight o) v.entries last (state_of b).log.sizes (told_before (since_of sight o)) in
    let image : List ℕ = map (λ k. ((state_now s).word k).settled) (range_with_len 0 s.len) in
    let here : EveryImage s.len P (state_now s) = subst (EveryImage s.len P) (later.past seen s.now (omega arith)) (m.each seen s.now (omega arith) later.now) in
    let is = settled_image s.len (state_now s) in
    let home = images_at_rest_law VERSION sizes o.terms.first (home_now sizes s) (state_now s) s.len image room (holds.holds refl seen).rest is in
    sym (here.each image is).same_sizes ∙ home_sizes home

-- so the image that is opened over it holds it
pub holds_reopened : {M : Type 0} {ghosts : Ghosts M} (sight : M → Sight) (sizes : Sizes) (c : Closed M ghosts) → image_words sizes ≤ (sight (medium_of c.back)).len → HoldsWhereIdle sizes c.number c.words.items (sight (medium_of c.back))
    → HoldsReopened sight sizes c
holds_reopened sight sizes c room holds o v first before home start told = holds before (λ seen.
    let later = home.ended.kept.images.later in
    let same = same_sizes sight o v c.number c.back sizes first home.ended.kept start (let long = later.len in omega arith) (subst IsTrue later.is_visible seen) in
    subst (λ (s : Sizes). IsIdleMedium before s c.number c.words.items (state_now (sight (medium_of c.back)))) same (idle_medium sight o v c home seen before (told seen)))

-- words that stand for tables are refused for want of memory alone
pub only_memory : (s : Sizes) (array : List ℕ) (fault : CheckFault) → IsCause (IsNotDb s array) fault → IsLawful s array → fault ≡ NoMemory
only_memory s array (NotDb word) is lawful = absurd (is.unlawful lawful)
only_memory s array NoMemory is lawful = refl
