-- The words of the home that are read page by page.
use Rattle.std.proofs.Common.{◌≡◌, ◌||◌, ◌==◌, ℕ, ◌+◌, ◌-◌, ◌*◌, ◌<◌, Bool, true, false, List, length, refl, sym, ap, ◌∙◌, subst, ne_eqb, arith}
use Rattle.std.specs.Prelude.{IsTrue, slice_index}
use Rattle.std.specs.List.{Contains}
use Rattle.std.proofs.lemmas.Bool.{true≢false}
use Rattle.std.proofs.lemmas.List.FromFn.{length-map-range_with_len}
use mathlib.Core.Logic.{dite}
use native.Mathlib.Decide.{dec_lt}
use Rattle.dude_base.specs.declared.limits.TheConstants.{PAGE}
use Rattle.dude_base.specs.Records.{RedoRecord}
use Rattle.pmem_trait.specs.Sights.{Sight}
use Rattle.pmem_trait.specs.declared.medium.Medium.{Ghosts}
use Rattle.back_store.specs.declared.back.Back.{Back}
use Rattle.back_store.specs.Back.{BackState, home_now, waiting_now}
use Rattle.back_store.specs.BackView.{medium_of, sight_of, state_of}
use Rattle.core_events.specs.Entries.{value}
use Rattle.core_events.specs.Views.{View}
use Rattle.stm_slots.specs.Calls.{IsKnownBy, StaysKnown}
use Rattle.stm_slots.specs.Known.{Known, Since}
use Rattle.stm_slots.specs.KnownLists.{lists}
use Rattle.stm_slots.specs.Records.{HasValues, writes_in}
use Rattle.run_threads.specs.Ended.{IsCutOff, IsEnded}
use Rattle.run_threads.specs.Ending.{IsKept}
use Rattle.run_threads.specs.Home.{AreHomeWords, HasEnded, TakesHome, TakesPage}
use Rattle.run_threads.proofs.Keeping.{cut_by, ending, kept_end, reached_home, values_agree}
use Rattle.stm_slots.specs.Opening.{setup_of, since_of, start_sight}
use Rattle.stm_slots.specs.declared.opening.Opening.{Opening}
use Rattle.tiny_stm.specs.declared.closed.Closed.{Closed}
use Rattle.tiny_stm.specs.Ended.{HasValuesAt}

module _ {M : Type 0} {ghosts : Ghosts M} where
  -- by whichever records the back is known, the first so many words have the values at its reproduced number
  abbrev pub TakesUpTo : ℕ → Back M ghosts → List ℕ → Type 0
  TakesUpTo upto back words = (b : Since) (rs : List RedoRecord) → IsKnownBy b rs back → IsTrue b.start.is_visible → (i : ℕ) → i < upto → i < length b.opening → slice_index words i ≡ value b.opening (writes_in rs) (state_of back).log.reproduced i

  -- the values of the home of a back that is known
  home_values : (b : Since) (rs : List RedoRecord) (back : Back M ghosts) → IsKnownBy b rs back → (state_of back).dead ≡ false → IsTrue b.start.is_visible
      → HasValues b.opening (writes_in rs) (state_of back).log.reproduced (home_now (state_of back).log.sizes (sight_of back))
  home_values b rs back known alive seen = known.is.home alive (subst IsTrue (sym known.is.moments.later.is_visible) seen)

  pub takes_more : (first mid : Back M ghosts) (page : ℕ) (old new : List ℕ) → StaysKnown first mid → state_of mid ≡ state_of first → (state_of first).dead ≡ false → TakesPage page mid old new
      → TakesUpTo (page * PAGE) first old → TakesUpTo ((page + 1) * PAGE) first new
  takes_more first mid page old new stays same alive takes before b rs known seen i upto inside = dite (dec_lt i (page * PAGE))
      (λ low. takes.before i low ∙ before b rs known seen i low inside)
      (λ high.
      let there = stays b rs known in
      let seen_mid : IsTrue (sight_of mid).is_visible = subst IsTrue (sym there.is.moments.later.is_visible) seen in
      let values = home_values b rs mid there (ap (λ (v : BackState). v.dead) same ∙ alive) seen in
      let place : page * PAGE + (i - page * PAGE) ≡ i = omega arith in
      let word = takes.words seen_mid (i - page * PAGE) (omega arith) in
      let here : slice_index new i ≡ slice_index (home_now (state_of mid).log.sizes (sight_of mid)) i = ap (slice_index new) (sym place) ∙ (word ∙ ap (slice_index (home_now (state_of mid).log.sizes (sight_of mid))) place) in
      here ∙ (values.words i inside ∙ ap (λ (v : BackState). value b.opening (writes_in rs) v.log.reproduced i) same))

  pub takes_all : (back : Back M ghosts) (words : List ℕ) → (state_of back).dead ≡ false → length words ≡ (state_of back).log.sizes.pages * PAGE → TakesUpTo (length words) back words → TakesHome back words
  takes_all back words alive size takes b rs known seen =
      let values = home_values b rs back known alive seen in
      let long : length (home_now (state_of back).log.sizes (sight_of back)) ≡ (state_of back).log.sizes.pages * PAGE = length-map-range_with_len _ 0 ((state_of back).log.sizes.pages * PAGE) in
      let same = values.size in record {
        size = omega arith;
        words = λ i lt. takes b rs known seen i (omega arith) lt;
      }

told_seen : (b c : Bool) → (b || c) ≡ true → c ≡ false → IsTrue b
told_seen true c told none = refl
told_seen false c told none = absurd (true≢false (sym told ∙ none))

module _ {M : Type 0} {ghosts : Ghosts M} (sight : M → Sight) (o : Opening M ghosts) (v : View) where
  -- by whichever records the one back is known, the other is
  abbrev pub Stays : Back M ghosts → Back M ghosts → Type 0
  Stays old new = (b : Since) (rs : List RedoRecord) → Known b (lists (state_of old) rs) (sight (medium_of old)) → Known b (lists (state_of new) rs) (sight (medium_of new))

  -- by whichever records the back is known, the words have the values at its reproduced number
  abbrev pub Takes : Back M ghosts → List ℕ → Type 0
  Takes back words = (b : Since) (rs : List RedoRecord) → Known b (lists (state_of back) rs) (sight (medium_of back)) → IsTrue b.start.is_visible → HasValues b.opening (writes_in rs) (state_of back).log.reproduced words

  -- a back that was only read is ended still, or cut off
  module _ (last : ℕ) (old new : Back M ghosts) (e : IsEnded sight o v last old) (stays : Stays old new) (log : (state_of new).log ≡ (state_of old).log) where
    still_kept : IsKept (ending sight o v last (state_of old).log.sizes) (state_of new) (sight (medium_of new))
    still_kept = let k = e.kept.by_entries in record {
      records = k.records;
      known = record {
        known = stays (since_of sight o) k.records k.known;
        listed = k.listed;
        sizes = ap (λ l. l.sizes) log;
        announced = (let a = e.kept.raised in let d = ap (λ l. l.durable) log in omega arith);
      };
    }

    pub cut_reading : (state_of new).dead ≡ true → IsCutOff sight o v last new
    cut_reading dead = cut_by sight o v last new (kept_end sight o v last (state_of old).log.sizes e.legal new still_kept e.first e.kept.pages (λ met. dead)) dead

    module _ (same : state_of new ≡ state_of old) where
      alive_still : (state_of new).dead ≡ false
      alive_still = ap (λ (s : BackState). s.dead) same ∙ e.alive

      pub ended_still : IsEnded sight o v last new
      ended_still =
          let kept = kept_end sight o v last (state_of old).log.sizes e.legal new still_kept e.first e.kept.pages (λ met. absurd (true≢false (sym (e.kept.fault met) ∙ e.alive))) in
          let at_last : (state_of new).log.reproduced ≡ last = ap (λ l. l.reproduced) log ∙ e.reproduced in record {
            kept = kept;
            first = e.first;
            legal = e.legal;
            alive = alive_still;
            none = λ w among. e.none w (subst (λ (s : BackState). Contains (waiting_now s) w) same among);
            durable = ap (λ l. l.durable) log ∙ e.durable;
            reproduced = at_last;
            home = λ seen. subst (λ (n : ℕ). HasValuesAt (setup_of sight o) v.entries n (home_now (state_of new).log.sizes (sight (medium_of new)))) at_last (kept.home alive_still seen);
          }

  -- ---- the words at home
  module _ (frames : ℕ) (c : Closed M ghosts) (h : HasEnded sight frames o v c) (size : length c.words.items ≡ (state_of c.back).log.sizes.pages * PAGE) where
    -- where all pages were in frames, those that were left
    pub home_left : frames ≡ (state_of c.back).log.sizes.pages → AreHomeWords sight o v.entries c.number c.words.items
    home_left all = record {
      size = h.words.size;
      values = λ told. record { size = h.words.size; words = λ i lt. h.words.all (h.frames_are ∙ (all ∙ h.ended.kept.pages)) i lt };
    }

    -- else those that were read
    pub home_read : (frames ≡ (state_of c.back).log.sizes.pages → ⊥) → (words : List ℕ) → length words ≡ length c.words.items → Takes c.back words → AreHomeWords sight o v.entries c.number words
    home_read fewer words long takes =
        let k = h.ended.kept.by_entries in
        let apart : o.terms.frames ≡ o.terms.pages → ⊥ = (λ all. fewer (sym h.frames_are ∙ (all ∙ sym h.ended.kept.pages))) in
        let kept : IsKept (ending sight o v c.number (state_of c.back).log.sizes) (state_of c.back) (sight (medium_of c.back)) =
        record { records = k.records; known = record { known = k.known; listed = k.listed; sizes = refl; announced = h.ended.kept.raised } } in
        record {
          size = long ∙ h.words.size;
          values = λ told.
              let seen = told_seen (start_sight sight o).is_visible (o.terms.frames == o.terms.pages) told (ne_eqb o.terms.frames o.terms.pages apart) in
              let values = takes (since_of sight o) k.records k.known seen in
              subst (λ (n : ℕ). HasValuesAt (setup_of sight o) v.entries n words) h.ended.reproduced
              (values_agree sight o v c.number (state_of c.back).log.sizes h.ended.legal c.back kept seen (state_of c.back).log.reproduced words
              (reached_home sight o v c.number (state_of c.back).log.sizes h.ended.legal c.back kept h.ended.alive) values);
        }
