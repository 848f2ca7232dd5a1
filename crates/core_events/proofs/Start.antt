-- The state at the start is kept.
use Rattle.std.proofs.Common.{◌≡◌, ℕ, zero, suc, ◌+◌, ◌-◌, ◌*◌, ◌<◌, ◌≤◌, Bool, true, false, List, [], ◌∷◌, length, get_or, refl, sym, ap, ◌∙◌, subst, inl, ⊎_elim, arith, All, mod-lt, div-add-mod', mul-le-mul_right}
use Rattle.std.specs.Prelude.{Option, Some, None, replicate, slice_index, if◌then◌else◌, ltb}
use Rattle.std.proofs.lemmas.Bool.{true≢false}
use Rattle.std.proofs.lemmas.List.{get_or-replicate, length-replicate, length-take-le, get_or-take}
use mathlib.Core.Option.{some, some-injective, some-ne-none}
use mathlib.Core.Logic.{dite}
use native.Mathlib.Decide.{dec_lt}
use lib.ListN.{get_elem?}
use Rattle.dude_base.specs.declared.limits.TheConstants.{PAGE, MAX_NUMBER}
use Rattle.dude_base.specs.Writes.{written}
use Rattle.core_events.specs.Setups.{Setup, IsSetup, page_of, cell_of, box_of, entry_with}
use Rattle.core_events.specs.Keyed.{find, has, Distinct}
use Rattle.core_events.specs.Views.{Entry, Part, View}
use Rattle.core_events.specs.Entries.{History, value, numbers_written}
use Rattle.core_events.specs.Conditions.{no_record}
use Rattle.core_events.specs.Partings.{newcomer, first_entries, start}
use Rattle.core_events.specs.Ghosts.{free, taken, writing, behind_boxes, Claims, Ghost}
use Rattle.core_events.specs.KeptLocks.{Knows}
use Rattle.core_events.specs.KeptEntries.{EntryLegal}
use Rattle.core_events.specs.KeptTurn.{Holder, holder_of, KnowsTurn}
use Rattle.core_events.specs.KeptNumbers.{DrawnPlaced}
use Rattle.core_events.specs.KeptPages.{entry_word, KnowsPages}
use Rattle.core_events.specs.KeptOrder.{KnowsOrderOf}
use Rattle.core_events.specs.KeptValues.{ReadValues, EntryReads}
use Rattle.core_events.specs.Layers.{ThreadsIn, LocksIn}
use Rattle.core_events.proofs.Stays.{empty_list, new_knows}
use Rattle.core_events.specs.Kept.{LayersKept, Kept}

only_one : {A : Type 0} (a b : A) (j : ℕ) → get_elem? (a ∷ []) j ≡ some b → (j ≡ 0) × (a ≡ b)
only_one a b zero e = (refl, some-injective a b e)
only_one a b (suc j) e = absurd (some-ne-none b (sym e))

in_replicate : {A : Type 0} (n j : ℕ) (a b : A) → get_elem? (replicate n a) j ≡ some b → a ≡ b
in_replicate zero j a b e = absurd (some-ne-none b (sym e))
in_replicate (suc n) zero a b e = some-injective a b e
in_replicate (suc n) (suc j) a b e = in_replicate n j a b e

replicated_zero : (n k : ℕ) → let none_there : ℕ = get_or (replicate n 0) k 0 in none_there ≡ 0
replicated_zero zero k = refl
replicated_zero (suc n) zero = refl
replicated_zero (suc n) (suc k) = replicated_zero n k

length_entries : (frames p n : ℕ) → length (first_entries frames p n) ≡ n
length_entries frames p zero = refl
length_entries frames p (suc n) = let r = length_entries frames (p + 1) n in omega arith

entry_at : (frames p n i : ℕ) → i < n → get_or (first_entries frames p n) i 0 ≡ (if ltb (p + i) frames then entry_with (p + i) 0 else 0)
entry_at frames p zero i lt = absurd (omega arith)
entry_at frames p (suc n) zero lt = let e : p + 0 ≡ p = omega arith in rw e refl
entry_at frames p (suc n) (suc i) lt = let e : p + suc i ≡ p + 1 + i = omega arith in rw e (entry_at frames (p + 1) n i (omega arith))

abbrev pub no_history : History
no_history n = []

still : (opening : List ℕ) (n i : ℕ) → value opening no_history n i ≡ slice_index opening i
still opening zero i = refl
still opening (suc n) i = still opening n i

-- the pages below so many are in the frames of their own numbers
abbrev pub first_frame : ℕ → ℕ → Option ℕ
first_frame frames p = if ltb p frames then Some p else None

framed : (frames p f : ℕ) (b : Bool) → ltb p frames ≡ b → first_frame frames p ≡ Some f → (f ≡ p) × (b ≡ true)
framed frames p f true is e = (let r : Some p ≡ Some f = rw is at e in let s : p ≡ f = cc in sym s, refl)
framed frames p f false is e = absurd (let r : None ≡ Some f = rw is at e in cc)

below : (p frames : ℕ) → ltb p frames ≡ true → p < frames
below p frames e = dite (dec_lt p frames) (λ lt. lt) (λ ge. grind arith)

module _ (z : Setup) (ok : IsSetup z) where
  abbrev claims0 : Claims
  claims0 = record { hist = no_history; pending = no_history; who = λ n. 0; settled = λ n. false; lock = λ k. free z.first }

  abbrev ghost0 : Ghost
  ghost0 = record { claims = claims0; author = λ n. 0; place = λ n. behind_boxes; thread = λ j. 0; home = λ t. 0; frame = first_frame z.frames; next = λ t. 0 }

  abbrev v0 : View
  v0 = newcomer z (z.threads - 1) (MAX_NUMBER - z.first)

  nothing_written : (n i x : ℕ) → written (no_history n) i ≡ Some x → ⊥
  nothing_written n i x e = let f : None ≡ Some x = e in cc

  no_bool : false ≡ true → ⊥
  no_bool e = true≢false (sym e)

  none_some : {A : Type 0} (a : A) → None ≡ Some a → ⊥
  none_some a e = cc

  knows0 : Knows z claims0 z.first 0 v0.part.thread v0.tx
  knows0 = new_knows z claims0 z.first 0 (λ k u e. absurd cc) (λ k u e. absurd cc)

  threads0 : ThreadsIn z ghost0 (start z)
  threads0 = record {
    mine = λ j t p e is. absurd (none_some t (ap (λ (q : Part). q.thread) (only_one v0.part p j e).1 ∙ is));
    gone = λ j t p e h. absurd (no_bool (ap (λ (q : Part). has q.ended t) (only_one v0.part p j e).1 ∙ h));
    once = λ j p e. subst (λ (q : Part). Distinct q.ended) (only_one v0.part p j e).1 tt;
    there = λ t lt. absurd (omega arith);
    held = refl;
    counted = let a = ok.threads.low in omega arith;
  }

  locks0 : LocksIn z ghost0 (start z)
  locks0 = record {
    owned = record {
      shows = λ k lt. get_or-replicate z.locks k (2 * z.first) 0 lt;
      upto = λ k. omega arith;
      covered = λ n i x lt f. absurd (nothing_written n i x f);
    };
    undecided = record { waiting = λ n i x f. absurd (nothing_written n i x f) };
    numbers = record {
      some_lock = let a = ok.run.locks.low in omega arith;
      from = omega arith;
      sized = length-replicate z.locks (2 * z.first);
      later = λ n lt. (refl, refl);
      before = λ n le. (refl, refl);
      inside = λ n i x e. absurd (⊎_elim (λ f. nothing_written n i x f) (λ f. nothing_written n i x f) e);
      lists = λ n. (empty_list, empty_list);
    };
    each = λ j v e. let o = only_one v0 v j e in subst (λ (u : View). Knows z claims0 z.first j u.part.thread u.tx) o.1 (rw o.0 knows0);
    seated = λ k j u e. absurd (⊎_elim (λ t. let f : free z.first ≡ taken j u = t in cc) (λ t. let f : free z.first ≡ writing j u = t in cc) e);
    bounded = let a = ok.number in omega arith;
  }

  turn_knows0 : KnowsTurn z (start z).boxes z.first v0
  turn_knows0 = record {
    seen = record {
      place = let a = ok.run.boxes.low in omega arith;
      empty = λ e. absurd (no_bool e);
      drawn = λ p. absurd (omega arith);
      full_with = λ e. absurd (no_bool e);
    };
    raised = omega arith;
  }

  pages_knows0 : KnowsPages z (first_frame z.frames) (start z).touches v0
  pages_knows0 = record {
    pins = record {
      pinner = λ p f e. absurd (none_some f e);
      written_pinned = λ u. absurd (let p = u.number in omega arith);
      touches_made = λ p e. absurd (no_bool e);
    };
    turn = λ e. absurd (no_bool e);
  }

  frames_inside : z.frames ≤ z.pages
  frames_inside = ok.run.frames.high

  entry_word0 : (p : ℕ) (b : Bool) → ltb p z.frames ≡ b → (if ltb p z.frames then entry_with p 0 else 0) ≡ entry_word (first_frame z.frames p) 0
  entry_word0 p true is = rw is refl
  entry_word0 p false is = rw is refl

  pub layers0 : LayersKept z ghost0 (start z)
  layers0 = record {
    threads = threads0;
    locks = locks0;
    entries = record {
      legal = λ j es e. let o = only_one [] es j e in subst (λ (l : List Entry). All (EntryLegal z.first no_history no_history (λ n. false) z.first) l) o.1 (λ k d lt. absurd (omega arith));
      once = record {
        wrote = λ j n es e h. absurd (no_bool (ap (λ (l : List Entry). has (numbers_written l) n) (only_one [] es j e).1 ∙ h));
        once = λ j es e. subst (λ (l : List Entry). Distinct (numbers_written l)) (only_one [] es j e).1 tt;
        entered = λ n e. absurd (no_bool e);
      };
      only = λ n e. refl;
      spent = λ j v e now. absurd (no_bool (ap (λ (u : View). u.part.is_spent) (only_one v0 v j e).1 ∙ now));
    };
    numbers = record {
      placed = record {
        in_views = λ n j lt le e. absurd (omega arith);
        of_views = λ n j e pos. absurd (let o = (only_one 0 n j e).1 in omega arith);
        in_boxes = λ n k lt le e. absurd (omega arith);
        of_boxes = λ n k e pos. absurd (let o = in_replicate (z.threads * z.boxes) k 0 n e in omega arith);
        behind = λ n lt le e. absurd (omega arith);
        of_persisted = λ n e. absurd (no_bool e);
        once = tt;
      };
      records = record {
        as_many = length-replicate (z.threads * z.boxes) no_record ∙ sym (length-replicate (z.threads * z.boxes) 0);
        boxed = λ n k e pos. absurd (let o = in_replicate (z.threads * z.boxes) k 0 n e in omega arith);
        kept = λ j r lt. absurd (omega arith);
      };
      drawn = λ j v e. let o = only_one v0 v j e in subst (λ (u : View). DrawnPlaced z (start z).boxes [] u) o.1 record { each = λ n e. absurd (no_bool e) };
    };
    turn = record {
      turn = record {
        holds = λ j h e has. absurd (no_bool (ap (λ (x : Holder). x.has_it) (only_one (holder_of v0) h j e).1 ∙ has));
        held = λ pos. absurd (omega arith);
      };
      durable = record { from = omega arith; ordered = omega arith; durable_from = omega arith; drawn = omega arith };
      sized = length-replicate (z.threads * z.boxes) 0;
      some_box = let a = ok.run.boxes.low in omega arith;
      each = λ j v e. let o = only_one v0 v j e in subst (λ (u : View). KnowsTurn z (start z).boxes z.first u) o.1 turn_knows0;
    };
    pages = record {
      pins = record {
        sized = length_entries z.frames 0 z.pages;
        counted = λ p lt. entry_at z.frames 0 z.pages p lt ∙ (let e : 0 + p ≡ p = omega arith in rw e (entry_word0 p (ltb p z.frames) refl));
        pinned = λ j p f ps e found. absurd (none_some f (ap (λ (l : List (ℕ × ℕ)). find l p) (only_one [] ps j e).1 ∙ found));
      };
      touches = record { sized = length-replicate z.pages z.first; touched = λ n i x f. absurd (nothing_written n i x f) };
      frames = record {
        sized = length-take-le (z.frames * PAGE) z.opening (let a = ok.words in let b : z.frames * PAGE ≤ z.pages * PAGE = mul-le-mul_right PAGE frames_inside in omega arith);
        inside = λ p f e. let o = framed z.frames p f (ltb p z.frames) refl e in let lt = below p z.frames o.1 in let is = o.0 in let a = frames_inside in (omega arith, omega arith);
        one_each = λ p q f e e2. let a = (framed z.frames p f (ltb p z.frames) refl e).0 in let b = (framed z.frames q f (ltb q z.frames) refl e2).0 in omega arith;
      };
      each = λ j v e. let o = only_one v0 v j e in subst (λ (u : View). KnowsPages z (first_frame z.frames) (start z).touches u) o.1 pages_knows0;
      few = let a = ok.threads.high in omega arith;
    };
    order = record {
      rises = λ t. record { rising = λ i j li lj before pi pj. absurd (let w = replicated_zero (z.threads * z.boxes) (box_of z t i) in omega arith) };
      unborn = λ t le. refl;
      each = λ j v e. subst (λ (u : View). KnowsOrderOf z (λ t. 0) (start z).boxes u) (only_one v0 v j e).1 record {
        at_place = λ t is. refl;
        at_first = λ is. refl;
        over = λ t i is. absurd (none_some t is);
      };
    };
  }

  pub start_keeps : Kept z (start z)
  start_keeps = record {
    ghost_is = ghost0;
    layers = layers0;
    values = λ told. record {
      shown = record {
        shown = λ i f lt e. inl (let o = framed z.frames (page_of i) f (ltb (page_of i) z.frames) refl e in let small = below (page_of i) z.frames o.1 in
            let cell : cell_of f i ≡ i = (let is = o.0 in let d = div-add-mod' i PAGE in omega arith) in
            rw cell (get_or-take (z.frames * PAGE) z.opening i 0 (let d = div-add-mod' i PAGE in let off = mod-lt i {m = PAGE} (omega arith) in omega arith) ∙ sym (still z.opening z.first i)));
      };
      reads = λ j v e. subst (λ (u : View). ReadValues z no_history (λ k. free z.first) u.part.thread u.tx) (only_one v0 v j e).1 record { read = λ q. absurd (no_bool q); waits = λ i y e. absurd (none_some (i, y) e) };
      filled = λ j v e has. absurd (no_bool (ap (λ (u : View). u.turn.has_it) (only_one v0 v j e).1 ∙ has));
      entries = λ j v e. subst (λ (u : View). All (EntryReads z no_history) u.entries) (only_one v0 v j e).1 (λ k d lt. absurd (omega arith));
    };
  }
