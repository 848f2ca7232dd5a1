-- The words of the home at the last number.
use Rattle.std.specs.Prelude.{◌≡◌, ℕ, ◌+◌, ◌*◌, ◌<◌, true, IsTrue, List, length, slice_index}
use Rattle.dude_base.specs.declared.limits.TheConstants.{PAGE}
use Rattle.dude_base.specs.Records.{RedoRecord}
use Rattle.pmem_trait.specs.declared.medium.Medium.{Ghosts}
use Rattle.pmem_trait.specs.Sights.{Sight}
use Rattle.back_store.specs.declared.back.Back.{Back}
use Rattle.back_store.specs.Back.{home_now}
use Rattle.back_store.specs.BackView.{sight_of, state_of}
use Rattle.core_events.specs.Views.{Entry, View}
use Rattle.stm_slots.specs.Calls.{IsKnownBy}
use Rattle.stm_slots.specs.Known.{Since}
use Rattle.stm_slots.specs.Records.{HasValues, writes_in}
use Rattle.run_threads.specs.Ended.{IsCutOff, IsEnded}
use Rattle.stm_slots.specs.Opening.{setup_of}
use Rattle.stm_slots.specs.declared.opening.Opening.{Opening}
use Rattle.tiny_stm.specs.Ended.{AreLastWords, HasValuesAt}
use Rattle.tiny_stm.specs.declared.closed.Closed.{Closed}

-- ---- a page
module _ {M : Type 0} {ghosts : Ghosts M} where
  -- The words of a page are those of the home, and those before it are as they were.
  pub record TakesPage (page : ℕ) (back : Back M ghosts) (old new : List ℕ) : Type 0 where
    pub words : IsTrue (sight_of back).is_visible → (i : ℕ) → i < PAGE
        → slice_index new (page * PAGE + i) ≡ slice_index (home_now (state_of back).log.sizes (sight_of back)) (page * PAGE + i)
    pub before : (i : ℕ) → i < page * PAGE → slice_index new i ≡ slice_index old i

  -- by whichever records the back is known, the words have the values at its reproduced number, where the medium is visible
  abbrev pub TakesHome : Back M ghosts → List ℕ → Type 0
  TakesHome back words = (b : Since) (rs : List RedoRecord) → IsKnownBy b rs back → IsTrue b.start.is_visible → HasValues b.opening (writes_in rs) (state_of back).log.reproduced words

-- ---- all pages
module _ {M : Type 0} {ghosts : Ghosts M} (sight : M → Sight) where
  -- The words have the values at the last number, where it is known what the medium gives.
  pub record AreHomeWords (o : Opening M ghosts) (es : List Entry) (last : ℕ) (words : List ℕ) : Type 0 where
    pub size : length words ≡ length o.terms.opening
    pub values : (setup_of sight o).is_told ≡ true → HasValuesAt (setup_of sight o) es last words

  -- A run with so many frames has ended; the words are those that it left.
  pub record HasEnded (frames : ℕ) (o : Opening M ghosts) (v : View) (c : Closed M ghosts) : Type 0 where
    pub ended : IsEnded sight o v c.number c.back
    pub frames_are : o.terms.frames ≡ frames
    pub words : AreLastWords sight o v.entries c.number c.words.items

  -- There is such a run, and a word for each of the home.
  pub record MayReadHome (frames : ℕ) (c : Closed M ghosts) : Type 0 where
    pub opening : Opening M ghosts
    pub view : View
    pub ended : HasEnded frames opening view c
    pub size : length c.words.items ≡ (state_of c.back).log.sizes.pages * PAGE

  -- It is ended still, and the words are those of its home.
  pub record IsHome (o : Opening M ghosts) (v : View) (c : Closed M ghosts) : Type 0 where
    pub ended : IsEnded sight o v c.number c.back
    pub words : AreHomeWords o v.entries c.number c.words.items

  -- whatever ended so is at home
  abbrev pub ReadsHome : ℕ → Closed M ghosts → Closed M ghosts → Type 0
  ReadsHome frames old new = (o : Opening M ghosts) (v : View) → HasEnded frames o v old → IsHome o v new

  -- or cut off
  abbrev pub FailsHome : ℕ → Closed M ghosts → Closed M ghosts → Type 0
  FailsHome frames old new = (o : Opening M ghosts) (v : View) → HasEnded frames o v old → IsCutOff sight o v new.number new.back
