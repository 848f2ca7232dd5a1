-- Views by their places, and a step that was made.
use Rattle.std.proofs.Common.{◌≡◌, ℕ, ◌<◌, Bool, true, false, List, length, get_or, slice_set, refl, sym, ap, subst, ◌∙◌}
use mathlib.Core.Option.{some, some-injective}
use lib.ListN.{get_elem?}
use Rattle.dude_base.specs.Records.{RedoRecord}
use Rattle.core_events.specs.Setups.{Setup}
use Rattle.core_events.specs.Views.{View, Word, the_threads, the_clock, the_turn, the_durable, the_reproduced, the_lock, the_entry, the_touch, the_cell, the_box}
use Rattle.core_events.specs.Words.{State, found, put}
use Rattle.core_events.specs.Events.{Event, name, word_after, view_after}
use Rattle.core_events.specs.Conditions.{May}
use Rattle.core_medium.specs.Machines.{Meets}
use Rattle.core_events.proofs.Lists.{there, at_index}
use Rattle.dude_core.specs.Named.{Tells}
use Rattle.dude_core.specs.MadeCalls.{HasTurnAt}
use Rattle.dude_core.specs.Turns.{HasTurn}
use Rattle.dude_core.specs.StoreData.{StoreData}
use Rattle.dude_core.specs.Stands.{store_of, machine_over}
use Rattle.dude_core.specs.StateSteps.{MayMake, moved}

pub inside_there : (l m : List View) (i : ℕ) (v : View) → l ≡ m → get_elem? m i ≡ some v → i < length l
inside_there l m i v e at = there l i v (ap (λ (k : List View). get_elem? k i) e ∙ at)

-- what is read at the place is the view that is there
pub same_there : (l m : List View) (i : ℕ) (v u : View) → l ≡ m → get_elem? m i ≡ some v → u ≡ get_or l i u → u ≡ v
same_there l m i v u e at is =
    let here : get_elem? l i ≡ some v = ap (λ (k : List View). get_elem? k i) e ∙ at in
    some-injective u v (sym (at_index l i u (there l i v here) is) ∙ here)

module _ (z : Setup) (c : State) (a : StoreData) (who : ℕ) (e : Event) (u : View) where
  pub met_tells : (b : Bool) → get_elem? c.views who ≡ some u → May z e u → Tells b (Meets z e c (store_of z a) u) → Tells b (MayMake z (machine_over z c a) who e)
  met_tells true at may h = (u, record { is_there = at; may = may; meets = h })
  met_tells false at may h = λ t. h (subst (λ (v : View). Meets z e c (store_of z a) v) (some-injective t.0 u (sym t.1.is_there ∙ at)) t.1.meets)

  pub not_met : (b : Bool) → b ≡ false → get_elem? c.views who ≡ some u → Tells b (May z e u) → Tells b (MayMake z (machine_over z c a) who e)
  not_met true is at h = absurd (cc)
  not_met false is at h = λ t. h (subst (λ (v : View). May z e v) (some-injective t.0 u (sym t.1.is_there ∙ at)) t.1.may)

-- the view that is there has the turn, or none there has it
pub turn_tells : (c : State) (who : ℕ) (u : View) (b : Bool) → get_elem? c.views who ≡ some u → Tells b (HasTurn u) → Tells b ((v : View) × HasTurnAt c who v)
turn_tells c who u true at h = (u, (at, h))
turn_tells c who u false at h = λ t. h (subst HasTurn (some-injective t.0 u (sym t.1.0 ∙ at)) t.1.1)

-- what is put into a word leaves the views and the records, whatever they are
put_words : (c : State) (w : Word) (n : ℕ) (vs : List View) (rs ps : List RedoRecord) → put (record c { views = vs; records = rs; persisted = ps }) w n ≡ record (put c w n) { views = vs; records = rs; persisted = ps }
put_words c the_threads n vs rs ps = refl
put_words c the_clock n vs rs ps = refl
put_words c the_turn n vs rs ps = refl
put_words c the_durable n vs rs ps = refl
put_words c the_reproduced n vs rs ps = refl
put_words c (the_lock k) n vs rs ps = refl
put_words c (the_entry k) n vs rs ps = refl
put_words c (the_touch k) n vs rs ps = refl
put_words c (the_cell k) n vs rs ps = refl
put_words c (the_box k) n vs rs ps = refl

pub put_leaves : (c : State) (w : Word) (n : ℕ) (vs : List View) → record (put c w n) { views = vs } ≡ record (put c w n) { views = vs; records = c.records; persisted = c.persisted }
put_leaves c w n vs = ap (λ (s : State). record s { views = vs }) (put_words c w n c.views c.records c.persisted)

put_beside : (c : State) (w : Word) (n : ℕ) (vs : List View) → put (record c { views = vs }) w n ≡ record (put c w n) { views = vs }
put_beside c w n vs = put_words c w n vs c.records c.persisted ∙ sym (put_leaves c w n vs)

pub moved_is : (z : Setup) (c : State) (who : ℕ) (e : Event) (v : View) (w : Word) (n x : ℕ) (a d : State) → w ≡ name z e v → n ≡ found c w → x ≡ word_after e v n
    → a ≡ record c { views = slice_set c.views who (view_after z e v n) } → d ≡ put a w x → d ≡ moved z c who v e
moved_is z c who e v w n x a d w_is n_is x_is a_is d_is =
    let m : n ≡ found c (name z e v) = n_is ∙ ap (found c) w_is in
    let vs : ℕ → List View = λ (k : ℕ). slice_set c.views who (view_after z e v k) in
    d_is ∙ (ap (λ (s : State). put s w x) a_is ∙ (put_beside c w x (vs n)
    ∙ (ap (λ (y : Word). record (put c y x) { views = vs n }) w_is
    ∙ (ap (λ (y : ℕ). record (put c (name z e v) y) { views = vs n }) x_is
    ∙ ap (λ (k : ℕ). record (put c (name z e v) (word_after e v k)) { views = vs k }) m))))
