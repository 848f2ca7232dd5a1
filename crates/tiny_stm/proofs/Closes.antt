-- What is known behind a close, by what the ended table has.
use Rattle.std.proofs.Common.{◌≡◌, ◌≢◌, ◌⊎◌, ◌||◌, ℕ, zero, suc, ◌+◌, ◌-◌, ◌*◌, ◌<◌, ◌≤◌, Bool, true, false, List, [], ◌∷◌, All, length, get_or, map, refl, sym, ap, ◌∙◌, subst, inl, inr, ⊎_elim, eq-eqb, set, get_or-set_same, get_or-set_other, arith}
use Rattle.std.specs.Prelude.{Some, sum_by}
use Rattle.std.specs.List.{Contains}
use Rattle.std.specs.List.Sorted.{IsNonDecreasingBy, IsPermutation, IsStrictlyIncreasing}
use Rattle.std.proofs.lemmas.Bool.{cases_eq}
use Rattle.std.proofs.lemmas.List.{get_or-map, length-map}
use Rattle.std.proofs.lemmas.List.Elements.{All-contains, All-weaker}
use Rattle.std.proofs.lemmas.List.Sums.{sum_by_more, sum_by_more_le}
use Rattle.std.proofs.lemmas.List.Sorted.{All-permutation, Contains-permutation, IsPermutation-sym, sum_by-IsPermutation}
use Rattle.std.proofs.Math.Nat.{mul-le-mul_left}
use Rattle.std.proofs.lemmas.Option.{slice_get_within}
use mathlib.Core.Option.{some, some-injective}
use mathlib.Core.Logic.{dite}
use native.Mathlib.Decide.{dec_lt}
use lib.ListN.{get_elem?}
use Rattle.dude_base.specs.declared.limits.TheConstants.{PAGE}
use Rattle.dude_base.specs.Records.{RedoRecord, first_of}
use Rattle.dude_base.specs.Writes.{written}
use Rattle.pmem_trait.specs.Sights.{Sight}
use Rattle.pmem_trait.specs.declared.medium.Medium.{Ghosts}
use Rattle.pmem_trait.proofs.Laws.{every_moment_weaker}
use Rattle.back_store.specs.Back.{home_now}
use Rattle.back_store.specs.BackView.{medium_of, state_of}
use Rattle.core_events.specs.Setups.{Setup, cell_of, frame_in, page_of}
use Rattle.core_events.specs.Views.{Entry, View, the_cell, the_entry}
use Rattle.core_events.specs.Words.{State}
use Rattle.core_events.specs.Entries.{value_at, writes_of}
use Rattle.core_events.proofs.Lists.{there}
use Rattle.core_table.specs.Places.{count, index}
use Rattle.core_table.proofs.Flat.{flat_found, placed}
use Rattle.stm_slots.specs.Known.{told_before}
use Rattle.stm_slots.specs.KnownLists.{lists}
use Rattle.stm_slots.specs.Records.{last_written}
use Rattle.stm_slots.proofs.Images.{array_values}
use Rattle.stm_slots.proofs.Lawful.{reached_by}
use Rattle.stm_slots.specs.Closed.{IsClosed}
use Rattle.stm_slots.specs.KeptBack.{InBox, IsArrayOf, RecoversTo}
use Rattle.stm_slots.specs.Opening.{setup_of, since_of, start_sight}
use Rattle.stm_slots.specs.declared.home.Home.{Home as TheHome}
use Rattle.stm_slots.specs.declared.opening.Opening.{Opening}
use Rattle.stm_slots.specs.declared.slot.Slot.{Slot}
use Rattle.stm_slots.specs.declared.slot.Slot.TheVariants.{Empty, Record, Home}
use Rattle.tiny_stm.specs.Collected.{AreCollected, AreCopied, AreOnce, HasIn, HasPlaces, StoodIn, counts, entry_at, shown_at}
use Rattle.back_store.specs.declared.back.Back.{Back}
use Rattle.tiny_stm.specs.declared.closed.Closed.{Closed}
use Rattle.tiny_stm.specs.Ended.{AreLastWords, HasClosed, HasValuesAt, IsKeptEnd, IsLiveEnd, IsOfRest, IsRest, RecoversUpTo}
use Rattle.tiny_stm.specs.Posts.{IsAmong, number_of}
use Rattle.tiny_stm.specs.declared.posted.Posted.{Posted}

-- ---- lists
elem_at : {A : Type 0} (l : List A) (i : ℕ) → i < length l → (a : A) × (get_elem? l i ≡ some a)
elem_at [] i lt = absurd (omega arith)
elem_at (x ∷ xs) zero lt = (x, refl)
elem_at (x ∷ xs) (suc i) lt = elem_at xs i (omega arith)

-- numbers that don't fall, each once, rise
pub strictly : (qs : List Posted) → IsNonDecreasingBy number_of qs → ((n : ℕ) → sum_by (counts n) qs ≤ 1) → IsStrictlyIncreasing (map number_of qs)
strictly qs up once i lt =
    let d : Posted = record { ring = 0; redo = record { number = 0; writes = [] } } in
    let long = length-map qs number_of in
    let first = get_or-map number_of qs i d 0 (omega arith) in let second = get_or-map number_of qs (i + 1) d 0 (omega arith) in
    let a : ℕ = number_of (get_or qs i d) in let b : ℕ = number_of (get_or qs (i + 1) d) in
    let rises : a ≤ b = up i (i + 1) d (omega arith) (omega arith) in
    let apart : a ≢ b = (λ e.
    let one : counts a (get_or qs i d) ≡ 1 = rw (eq-eqb a a refl) refl in
    let other : counts a (get_or qs (i + 1) d) ≡ 1 = rw (eq-eqb b a (sym e)) refl in
    let front = sum_by_more (counts a) qs i d (omega arith) in
    let all = sum_by_more_le (counts a) qs (i + 1) d (omega arith) in
    let most = once a in absurd (omega arith)) in
    let less : a < b = dite (dec_lt a b) (λ l. l) (λ g. absurd (apart (omega arith))) in
    rw (first, second) less

or_true : (b : Bool) → (b || true) ≡ true
or_true true = refl
or_true false = refl

module _ {M : Type 0} {ghosts : Ghosts M} where
  empty_home : (a : Slot M ghosts) (h : TheHome M ghosts) → a ≡ Empty → a ≡ Home h → ⊥
  empty_home a h e f = cc

  record_home : (a : Slot M ghosts) (r : RedoRecord) (h : TheHome M ghosts) → a ≡ Record r → a ≡ Home h → ⊥
  record_home a r h e f = cc

  empty_record : (a : Slot M ghosts) (r : RedoRecord) → a ≡ Empty → a ≡ Record r → ⊥
  empty_record a r e f = cc

  record_is : (a : Slot M ghosts) (p r : RedoRecord) → a ≡ Record p → a ≡ Record r → p ≡ r
  record_is a p r e f = cc

  home_same : (a : Slot M ghosts) (g h : TheHome M ghosts) → a ≡ Home g → a ≡ Home h → g ≡ h
  home_same a g h e f = cc

pub home_is_in : {M : Type 0} {ghosts : Ghosts M} (a : Slot M ghosts) (g h : TheHome M ghosts) → a ≡ Home g → a ≡ Home h → g ≡ h
home_is_in a g h e f = home_same a g h e f

module _ {M : Type 0} {ghosts : Ghosts M} (sight : M → Sight) (o : Opening M ghosts) (v : View) (words : List ℕ) (slots : List (Slot M ghosts)) (k : IsClosed sight o v words slots) where
  abbrev z : Setup
  z = setup_of sight o

  abbrev c : State
  c = k.core

  pub clock_is : (n : ℕ) → get_elem? words 1 ≡ some n → n ≡ c.clock
  clock_is n e = some-injective n c.clock (sym e ∙ ap (λ (l : List ℕ). get_elem? l 1) k.words_are)

  -- the record in the slot of a box that has a number
  abbrev record_of : ℕ → RedoRecord
  record_of n = record { number = n; writes = writes_of v.entries n }

  -- what stands in the slot of a box
  slot_is : (b : ℕ) → b < o.terms.threads * o.terms.boxes → (get_elem? slots b ≡ some Empty) ⊎ ((n : ℕ) × (0 < n) × (get_elem? c.boxes b ≡ some n) × (get_elem? slots b ≡ some (Record (record_of n))))
  slot_is b lt =
      let e = elem_at c.boxes b (let s = k.sized.boxes in omega arith) in
      dite (dec_lt 0 e.0)
      (λ pos. inr (e.0, pos, e.1, k.full b e.0 e.1 pos))
      (λ none. let n : e.0 ≡ 0 = omega arith in inl (k.empty b (subst (λ (m : ℕ). get_elem? c.boxes b ≡ some m) n e.1)))

  -- the record of a slot
  recorded : (b : ℕ) (r : RedoRecord) → b < o.terms.threads * o.terms.boxes → HasIn slots b r → (0 < r.number) × (get_elem? c.boxes b ≡ some r.number) × (r.writes ≡ writes_of v.entries r.number)
  recorded b r lt has = ⊎_elim
      (λ e. absurd (empty_record Empty r refl (some-injective Empty (Record r) (sym e ∙ has))))
      (λ f. let same : record_of f.0 ≡ r = record_is (Record (record_of f.0)) (record_of f.0) r refl (some-injective (Record (record_of f.0)) (Record r) (sym f.3 ∙ has)) in
      subst (λ (p : RedoRecord). (0 < p.number) × (get_elem? c.boxes b ≡ some p.number) × (p.writes ≡ writes_of v.entries p.number)) same (f.1, f.2, refl))
      (slot_is b lt)

  pub are_once : AreOnce slots (o.terms.threads * o.terms.boxes)
  are_once = record {
    no_home = λ b h lt at. ⊎_elim
        (λ e. empty_home Empty h refl (some-injective Empty (Home h) (sym e ∙ at)))
        (λ f. record_home (Record (record_of f.0)) (record_of f.0) h refl (some-injective (Record (record_of f.0)) (Home h) (sym f.3 ∙ at)))
        (slot_is b lt);
    once = λ i j p r li lj at_i at_j same.
        let a = recorded i p li at_i in let b = recorded j r lj at_j in
        (k.read_out.boxes r.number j b.1 b.0).3 i (a.1 ∙ ap some same);
  }

  -- ---- the rest
  module _ (first rest : List Posted) (stood : All (StoodIn slots o.terms.boxes (o.terms.threads * o.terms.boxes)) first) (all : (b : ℕ) (r : RedoRecord) → b < o.terms.threads * o.terms.boxes → HasIn slots b r → (q : Posted) × Contains first q × (q.redo ≡ r)) (once : (n : ℕ) → sum_by (counts n) first ≤ 1) (moved : IsPermutation first rest) (sorted : IsNonDecreasingBy number_of rest) where
    ring_inside : (ring place : ℕ) → ring * o.terms.boxes + place < o.terms.threads * o.terms.boxes → ring < o.terms.threads
    ring_inside ring place lt = dite (dec_lt ring o.terms.threads) (λ l. l) (λ g. let h : o.terms.threads ≤ ring = omega arith in absurd (omega (arith, mul-le-mul_left o.terms.boxes h)))

    of_rest : (q : Posted) → StoodIn slots o.terms.boxes (o.terms.threads * o.terms.boxes) q → IsOfRest z (state_of k.home.back).log.sizes.rings v.entries c.clock q
    of_rest q s =
        let a = recorded (q.ring * o.terms.boxes + s.place) q.redo s.before s.is in
        let b = k.read_out.boxes q.redo.number (q.ring * o.terms.boxes + s.place) a.1 a.0 in
        let w = k.read_out.writes q.redo.number in
        let ring = ring_inside q.ring s.place s.before in record {
          thread = ring;
          ring = (let r = k.rings in omega arith);
          over = b.0;
          upto = b.1;
          writes = a.2;
          list = rw a.2 w.0;
          home = λ i x e. w.1 i x (ap (λ ws. written ws i) (sym a.2) ∙ e);
        }

    pub is_rest : IsRest z (state_of k.home.back).log.sizes.rings v.entries c.clock rest
    is_rest = record {
      each = All-permutation (IsOfRest z (state_of k.home.back).log.sizes.rings v.entries c.clock) first rest moved (All-weaker (StoodIn slots o.terms.boxes (o.terms.threads * o.terms.boxes)) (IsOfRest z (state_of k.home.back).log.sizes.rings v.entries c.clock) of_rest first stood);
      rising = strictly rest sorted (λ n. let e = sum_by-IsPermutation (counts n) first rest moved in let m = once n in omega arith);
    }

    stood_in : (q : Posted) → Contains rest q → StoodIn slots o.terms.boxes (o.terms.threads * o.terms.boxes) q
    stood_in q among = All-contains (StoodIn slots o.terms.boxes (o.terms.threads * o.terms.boxes)) first q stood (Contains-permutation rest first q (IsPermutation-sym first rest moved) among)

    among_box : (n : ℕ) → 0 < n → InBox c n → IsAmong rest n
    among_box n pos b =
        let lt : b.0 < o.terms.threads * o.terms.boxes = (let s = k.sized.boxes in let t = there c.boxes b.0 n b.1 in omega arith) in
        let h = all b.0 (record_of n) lt (k.full b.0 n b.1 pos) in
        (h.0, Contains-permutation first rest h.0 moved h.1, ap (λ (r : RedoRecord). r.number) h.2)

    box_among : (n : ℕ) → IsAmong rest n → (0 < n) × InBox c n × (z.first < n)
    box_among n a =
        let s = stood_in a.0 a.1 in let r = recorded (a.0.ring * o.terms.boxes + s.place) a.0.redo s.before s.is in
        let over = (of_rest a.0 s).over in
        subst (λ (m : ℕ). (0 < m) × InBox c m × (z.first < m)) a.2 (r.0, (a.0.ring * o.terms.boxes + s.place, r.1), over)

    pub live_end : (state_of k.home.back).dead ≡ false → IsLiveEnd z v.entries c.clock (state_of k.home.back) rest
    live_end alive =
        let b = k.back.live alive in let same = b.reproduced in record {
          reproduced = same;
          from = (let f = b.from in omega arith);
          upto = (let u = b.upto in omega arith);
          placed = λ n lt le. ⊎_elim
              (λ w. absurd (k.no_view n (omega arith) w))
              (λ e. ⊎_elim (λ x. inl (among_box n (omega arith) x)) (λ w. inr w) e)
              (b.placed n (omega arith) le);
          waits = λ n w. let x = b.waits n w in let low = x.0 in (omega arith, x.1);
          stood = λ n a. let x = box_among n a in dite (dec_lt (state_of k.home.back).log.reproduced n) (λ l. l) (λ g. absurd ((b.gone n x.2 (omega arith)).1 x.1));
          apart = λ n a w. (b.waits n w).3 (box_among n a).1;
          newest = λ q u among waiting.
              let s = stood_in q among in let r = recorded (q.ring * o.terms.boxes + s.place) q.redo s.before s.is in
              b.boxed q.ring s.place q.redo.number u (ring_inside q.ring s.place s.before) s.inside r.1 r.0 waiting;
          writes = λ w among i. b.writes w among i ∙ ap (λ (es : List Entry). last_written (writes_of es) (first_of w.redo) (w.redo.last + 1 - first_of w.redo) i) k.read_out.all;
        }

  -- ---- the back
  array_is : (n : ℕ) (array : List ℕ) → IsArrayOf z c n array → HasValuesAt z v.entries n array
  array_is n array a = record { size = a.size; words = λ i lt. a.words i lt ∙ ap (λ (es : List Entry). value_at z.opening es n i) k.read_out.all }

  up_to : (told image : List ℕ) → RecoversTo z c (state_of k.home.back).log.sizes (told_before (since_of sight o)) told image → RecoversUpTo z v.entries c.clock (state_of k.home.back).log.sizes (told_before (since_of sight o)) told image
  up_to told image r = record { number = r.number; array = r.array; recovered = r.recovered; same_sizes = r.same_sizes; values = array_is r.number r.array r.array_is; from = r.from; upto = r.upto; floor = r.floor }

  pub kept_end : IsKeptEnd sight o v c.clock k.home.back
  kept_end = record {
    images = every_moment_weaker (λ told image len r. up_to told image r) k.back.images;
    raised = k.back.raised k.is_view.0 v k.is_view.1;
    fault = k.back.fault k.is_view.0 v k.is_view.1;
    ran = k.back.ran;
    told = k.back.told;
    home = λ alive seen. array_is (state_of k.home.back).log.reproduced (home_now (state_of k.home.back).log.sizes (sight (medium_of k.home.back))) (k.back.home alive seen);
    arrays = λ alive seen n array a.
        let l = lists (state_of k.home.back) k.records in
        let x = array_values o.terms.opening o.terms.first l (k.known.lawful.live alive) (home_now (state_of k.home.back).log.sizes (sight (medium_of k.home.back))) n array (k.known.is.home alive seen) a in
        let reached = reached_by o.terms.first l k.known.lawful alive n a.records a.lead in
        record { size = x.size; words = λ i lt. x.words i lt ∙ k.values n i reached };
    by_entries = record { records = k.records; known = k.known; listed = k.listed };
    pages = k.sizes;
  }

  -- ---- the words of pages in frames
  module _ (size : length o.terms.opening ≡ o.terms.pages * PAGE) (long : length words ≡ count z) (entries cells : ℕ) (entries_is : entries ≡ 5 + o.terms.locks) (cells_is : cells ≡ entries + 2 * o.terms.pages) where
    page_inside : (i : ℕ) → i < length o.terms.opening → page_of i < o.terms.pages
    page_inside i lt = omega arith

    entry_index : (p : ℕ) → entries + p ≡ index z (the_entry p)
    entry_index p = omega arith

    cell_index : (f i : ℕ) → cells + cell_of f i ≡ index z (the_cell (cell_of f i))
    cell_index f i = omega arith

    entry_is : (i : ℕ) → i < length o.terms.opening → entry_at words entries i ≡ get_or c.entries (page_of i) 0
    entry_is i lt = ap (λ (n : ℕ). get_or words n 0) (entry_index (page_of i)) ∙ (ap (λ (l : List ℕ). get_or l (index z (the_entry (page_of i))) 0) k.words_are ∙ flat_found z c k.sized (the_entry (page_of i)) (page_inside i lt))

    frame_inside : (i : ℕ) → i < length o.terms.opening → 0 < entry_at words entries i → cell_of (frame_in (entry_at words entries i)) i < o.terms.frames * PAGE
    frame_inside i lt pos =
        let e = entry_is i lt in
        let h = k.pages.shows (page_of i) (page_inside i lt) (omega arith) in
        let w = slice_get_within k.home.pager.frames (frame_in (get_or c.entries (page_of i) 0)) (Some (page_of i)) h in
        let n = k.pages.frames in let f : frame_in (entry_at words entries i) < o.terms.frames = rw e (omega arith) in omega arith

    shown_is : (i : ℕ) → i < length o.terms.opening → 0 < entry_at words entries i → get_or words (shown_at words entries cells i) 0 ≡ get_or c.cells (cell_of (frame_in (get_or c.entries (page_of i) 0)) i) 0
    shown_is i lt pos =
        ap (λ (n : ℕ). get_or words n 0) (cell_index (frame_in (entry_at words entries i)) i)
        ∙ (ap (λ (l : List ℕ). get_or l (index z (the_cell (cell_of (frame_in (entry_at words entries i)) i))) 0) k.words_are
        ∙ (flat_found z c k.sized (the_cell (cell_of (frame_in (entry_at words entries i)) i)) (frame_inside i lt pos)
        ∙ ap (λ (e : ℕ). get_or c.cells (cell_of (frame_in e) i) 0) (entry_is i lt)))

    pub has_places : HasPlaces words entries cells (length o.terms.opening)
    has_places i lt = record {
      entry = (let p = placed z (the_entry (page_of i)) (page_inside i lt) in let e = entry_index (page_of i) in omega arith);
      cell = λ pos. let p = placed z (the_cell (cell_of (frame_in (entry_at words entries i)) i)) (frame_inside i lt pos) in let e = cell_index (frame_in (entry_at words entries i)) i in omega arith;
    }

    pub last_words : (new : List ℕ) → AreCopied words entries cells o.terms.opening (length o.terms.opening) new → AreLastWords sight o v.entries c.clock new
    last_words new a = record {
      size = a.size;
      each = λ i lt. dite (dec_lt 0 (entry_at words entries i))
          (λ pos. inr (λ told. in_frame i lt pos told))
          (λ none. inl (a.absent i lt lt (omega arith)));
      all = λ e i lt. let pos = k.pages.all e (page_of i) (page_inside i lt) in let is = entry_is i lt in
          in_frame i lt (omega arith) (ap (λ (b : Bool). (sight_of_start || b)) (eq-eqb o.terms.frames o.terms.pages e) ∙ or_true sight_of_start);
    }
      where
        sight_of_start : Bool
        sight_of_start = (start_sight sight o).is_visible

        in_frame : (i : ℕ) → i < length o.terms.opening → 0 < entry_at words entries i → z.is_told ≡ true → get_or new i 0 ≡ value_at o.terms.opening v.entries c.clock i
        in_frame i lt pos told = a.shown i lt lt pos ∙ (shown_is i lt pos ∙ k.shown told i (omega arith) (let is = entry_is i lt in omega arith))

  -- ---- all together
  pub home_is : (slot : Slot M ghosts) (home : TheHome M ghosts) → get_elem? slots (o.terms.threads * o.terms.boxes) ≡ some slot → slot ≡ Home home → k.home ≡ home
  home_is slot home at is = home_same (Home k.home) k.home home refl (some-injective (Home k.home) (Home home) (sym k.is_home ∙ (at ∙ ap some is)))

  pub in_slot : (slot : Slot M ghosts) → get_elem? slots (o.terms.threads * o.terms.boxes) ≡ some slot → slot ≡ Home k.home
  in_slot slot at = some-injective slot (Home k.home) (sym at ∙ k.is_home)

  pub has_closed : (w : View) → w ≡ v → (e : Closed M ghosts) → e.back ≡ k.home.back → e.number ≡ c.clock → IsRest z (state_of k.home.back).log.sizes.rings v.entries c.clock e.rest.items
      → ((state_of k.home.back).dead ≡ false → IsLiveEnd z v.entries c.clock (state_of k.home.back) e.rest.items) → AreLastWords sight o v.entries c.clock e.words.items → HasClosed sight o w e
  has_closed w same e back number rest live words_are = subst (λ (x : View). HasClosed sight o x e) (sym same) (record {
    upto = subst (λ (n : ℕ). All (λ (x : Entry). x.number ≤ n) v.entries) (sym number) k.read_out.upto;
    room = (let r = k.read_out.room in omega arith);
    numbers = k.read_out.numbers;
    legal = k.read_out.legal;
    rest = subst (λ (b : Back M ghosts). IsRest z (state_of b).log.sizes.rings v.entries e.number e.rest.items) (sym back) (subst (λ (n : ℕ). IsRest z (state_of k.home.back).log.sizes.rings v.entries n e.rest.items) (sym number) rest);
    back = subst (IsKeptEnd sight o v e.number) (sym back) (subst (λ (n : ℕ). IsKeptEnd sight o v n k.home.back) (sym number) kept_end);
    live = subst (λ (b : Back M ghosts). (state_of b).dead ≡ false → IsLiveEnd z v.entries e.number (state_of b) e.rest.items) (sym back) (subst (λ (n : ℕ). (state_of k.home.back).dead ≡ false → IsLiveEnd z v.entries n (state_of k.home.back) e.rest.items) (sym number) live);
    words = subst (λ (n : ℕ). AreLastWords sight o v.entries n e.words.items) (sym number) words_are;
  })

  -- ---- by counts that code has
  module _ (th bx : ℕ) (et : th ≡ o.terms.threads) (eb : bx ≡ o.terms.boxes) where
    pub count_is : th * bx ≡ o.terms.threads * o.terms.boxes
    count_is = ap (λ (n : ℕ). n * bx) et ∙ ap (λ (n : ℕ). o.terms.threads * n) eb

    pub some_slot : th * bx < length slots
    some_slot = let t = there slots (o.terms.threads * o.terms.boxes) (Home k.home) k.is_home in let e = count_is in omega arith

    pub once_each : AreOnce slots (th * bx)
    once_each = subst (AreOnce slots) (sym count_is) are_once

    pub back_in : (slot : Slot M ghosts) → get_elem? slots (th * bx) ≡ some slot → slot ≡ Home k.home
    back_in slot at = in_slot slot (ap (get_elem? slots) (sym count_is) ∙ at)

    module _ (now : List (Slot M ghosts)) (filled : List Bool) (first : List Posted) (taken : AreCollected slots now filled bx (th * bx) first) where
      collected_all : AreCollected slots now filled o.terms.boxes (o.terms.threads * o.terms.boxes) first
      collected_all = let P : ℕ → ℕ → Type 0 = λ t b. AreCollected slots now filled b (t * b) first in subst (λ (t : ℕ). P t o.terms.boxes) et (subst (P th) eb taken)

      pub all_rest : (rest : List Posted) → IsPermutation first rest → IsNonDecreasingBy number_of rest → IsRest z (state_of k.home.back).log.sizes.rings v.entries c.clock rest
      all_rest rest moved sorted = let d = collected_all in is_rest first rest d.stood d.all d.once moved sorted

      pub all_live : (rest : List Posted) → IsPermutation first rest → IsNonDecreasingBy number_of rest → (state_of k.home.back).dead ≡ false → IsLiveEnd z v.entries c.clock (state_of k.home.back) rest
      all_live rest moved sorted = let d = collected_all in live_end first rest d.stood d.all d.once moved sorted

      -- nothing is left once the last slot is taken too
      pub none_left : length slots ≡ o.terms.threads * o.terms.boxes + 1 → (filled2 : List Bool) → filled2 ≡ set filled (th * bx) false → (i : ℕ) → i < length slots → get_or filled2 i false ≡ false
      none_left long filled2 is i lt = ap (λ (l : List Bool). get_or l i false) is ∙ ⊎_elim
          (λ e. ap (λ (j : ℕ). get_or (set filled (th * bx) false) j false) e ∙ get_or-set_same filled (th * bx) false false (let s = taken.slots.size in let t = some_slot in omega arith))
          (λ other. get_or-set_other filled (th * bx) i false false other ∙ taken.slots.taken i (let e = count_is in omega arith))
          (cases_eq i (th * bx))
