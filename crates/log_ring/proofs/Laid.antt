-- Records that follow one another round a ring, up to the next slot.
use Rattle.std.proofs.Common.{◌≡◌, ◌⊎◌, inl, inr, ℕ, suc, ◌+◌, ◌%◌, ◌<◌, ◌≤◌, max, Bool, true, false, List, [], ◌∷◌, ◌++◌, length, get_or, refl, sym, ap, ◌∙◌, subst, arith, rules, All, Some, nat_lt}
use Rattle.std.specs.List.{filter, slice_get, AllPairs}
use Rattle.std.proofs.lemmas.List.Elements.{All-nil, All-cons, All-append, All-filter}
use Rattle.std.proofs.lemmas.List.Kept.{AllPairs-filter}
use Rattle.std.proofs.lemmas.List.Quantifiers.{all_pairs_push}
use Rattle.std.proofs.lemmas.List.Sums.{sum_by-append}
use Rattle.dude_base.specs.declared.sizes.Sizes.{Sizes}
use Rattle.pmem_trait.specs.Words.{State}
use Rattle.redo_record.specs.Fits.{Logged, first_logged, AreFree, FollowFrom, FitsRing, cells_used, settled_mark}
use Rattle.redo_record.specs.RingLaws.{slot_after}
use Rattle.redo_record.proofs.CellPlaces.{wrapped, steps_more}
use Rattle.redo_record.proofs.RingRoom.{used_more, room_law, following_law, release_law}
use Rattle.log_ring.specs.Laid.{AreLaid, oldest_slot}

-- the cells of records one behind another
used-append : (ls ms : List Logged) → cells_used (ls ++ ms) ≡ cells_used ls + cells_used ms
used-append ls ms = sum_by-append (λ (l : Logged). l.cells) ls ms

used-one : (l : Logged) → cells_used (l ∷ []) ≡ l.cells
used-one l = used_more l [] ∙ omega arith

-- the next cells are free
pub laid_free : (s : Sizes) (next n mark : ℕ) (logged : List Logged) → AreLaid s next logged → cells_used logged + n ≤ s.cells → AreFree s mark next n logged
laid_free s next n mark logged laid room =
    subst (λ (slot : ℕ). AreFree s mark slot n logged) laid.ends (room_law s (oldest_slot next logged) n mark logged laid.oldest laid.follow room)

-- there are no more records than cells
pub laid_few : (ls : List Logged) → All (λ l. 1 ≤ l.cells) ls → length ls ≤ cells_used ls
laid_few [] some = omega arith
laid_few (l ∷ ls) some =
    let one : 1 ≤ l.cells = some 0 l (omega arith) in
    let rest = laid_few ls (λ k d lt. some (suc k) d (omega arith)) in
    omega (arith, used_more l ls)

-- One more record in the next slot.
module _ (s : Sizes) (next : ℕ) (l : Logged) (first : l.slot ≡ next) (below : next < s.cells) where
  oldest-push : (ls : List Logged) (last : ℕ) → oldest_slot last (ls ++ l ∷ []) ≡ oldest_slot next ls
  oldest-push [] last = first
  oldest-push (k ∷ ls) last = refl

  pub laid_more : (ls : List Logged) → 1 ≤ l.cells → cells_used ls + l.cells ≤ s.cells → All (λ k. k.last < first_logged l) ls
      → AreLaid s next ls → AreLaid s (slot_after s next l.cells) (ls ++ l ∷ [])
  laid_more ls some few newest laid =
      let oldest = oldest-push ls (slot_after s next l.cells) in
      let used : cells_used (ls ++ l ∷ []) ≡ cells_used ls + l.cells = used-append ls (l ∷ []) ∙ ap (λ n. cells_used ls + n) (used-one l) in
      record {
        some = All-append (λ (k : Logged). 1 ≤ k.cells) ls (l ∷ []) laid.some (All-cons (λ (k : Logged). 1 ≤ k.cells) l [] some (All-nil (λ (k : Logged). 1 ≤ k.cells)));
        rising = all_pairs_push (λ (k m : Logged). k.last < first_logged m) ls l laid.rising newest;
        oldest = subst (λ (slot : ℕ). slot < s.cells) (sym oldest) laid.oldest;
        follow = subst (λ (slot : ℕ). FollowFrom s slot (ls ++ l ∷ [])) (sym oldest) ((following_law s (oldest_slot next ls) laid.oldest).0 ls l laid.follow (first ∙ sym laid.ends));
        ends =
            ap (λ (slot : ℕ). (slot + cells_used (ls ++ l ∷ [])) % s.cells) oldest
            ∙ (ap (λ (n : ℕ). (oldest_slot next ls + n) % s.cells) used
            ∙ (sym (steps_more s.cells (oldest_slot next ls) (cells_used ls) l.cells) ∙ ap (λ (slot : ℕ). (slot + l.cells) % s.cells) laid.ends));
        few = omega (arith, used);
      }

-- Rising records are those up to a number, and then those over it.
record Parts (n : ℕ) (ls : List Logged) : Type 0 where
  gone : List Logged
  old : All (λ l. l.last ≤ n) gone
  whole : ls ≡ gone ++ filter (λ l. nat_lt n l.last) ls

-- where all pass, a filter changes nothing
filter_all : (p : Logged → Bool) (ls : List Logged) → All (λ l. p l ≡ true) ls → filter p ls ≡ ls
filter_all p [] all = refl
filter_all p (l ∷ ls) all = rw (all 0 l (omega arith)) (ap (λ (r : List Logged). l ∷ r) (filter_all p ls (λ k d lt. all (suc k) d (omega arith))))

parts : (n : ℕ) (ls : List Logged) → AllPairs (λ l m. l.last < first_logged m) ls → Parts n ls
parts n [] rising = record { gone = []; old = All-nil (λ (l : Logged). l.last ≤ n); whole = refl }
parts n (l ∷ ls) rising = by (parts n ls (λ i j d lt inside. rising (suc i) (suc j) d (omega arith) (omega arith))) (nat_lt n l.last) refl
  where
    by : Parts n ls → (b : Bool) → nat_lt n l.last ≡ b → Parts n (l ∷ ls)
    by rest true over = record {
      gone = [];
      old = All-nil (λ (l : Logged). l.last ≤ n);
      whole = sym (filter_all (λ (m : Logged). nat_lt n m.last) (l ∷ ls) (All-cons (λ (m : Logged). nat_lt n m.last ≡ true) l ls over later));
    }
      where
        later : All (λ (m : Logged). nat_lt n m.last ≡ true) ls
        later k d lt = let more = rising 0 (suc k) d (omega arith) (omega arith) in let up : l.last < (get_or ls k d).last = omega arith in grind (arith, over, up)
    by rest false under =
        let old : l.last ≤ n = grind (arith, under) in
        record {
          gone = l ∷ rest.gone;
          old = All-cons (λ (m : Logged). m.last ≤ n) l rest.gone old rest.old;
          whole = ap (λ (r : List Logged). l ∷ r) rest.whole ∙ rw under refl;
        }

-- Without the records up to n.
pub laid_less : (s : Sizes) (next n : ℕ) (ls : List Logged) → next < s.cells → AreLaid s next ls → AreLaid s next (filter (λ l. nat_lt n l.last) ls)
laid_less s next n ls inside laid = record {
  some = All-filter (λ (l : Logged). nat_lt n l.last) (λ (l : Logged). 1 ≤ l.cells) ls laid.some;
  rising = AllPairs-filter (λ (l m : Logged). l.last < first_logged m) (λ (l : Logged). nat_lt n l.last) ls laid.rising;
  oldest = below kept follow;
  follow = subst (λ (slot : ℕ). FollowFrom s slot kept) (sym (start_is kept follow ends)) follow;
  ends = ap (λ (slot : ℕ). (slot + cells_used kept) % s.cells) (start_is kept follow ends) ∙ ends;
  few = (let few = laid.few in omega (arith, used));
}
  where
    kept : List Logged
    kept = filter (λ l. nat_lt n l.last) ls

    split : Parts n ls
    split = parts n ls laid.rising

    used : cells_used ls ≡ cells_used split.gone + cells_used kept
    used = ap cells_used split.whole ∙ used-append split.gone kept

    start : ℕ
    start = slot_after s (oldest_slot next ls) (cells_used split.gone)

    follow : FollowFrom s start kept
    follow = (following_law s (oldest_slot next ls) laid.oldest).1 split.gone kept (subst (λ (l : List Logged). FollowFrom s (oldest_slot next ls) l) split.whole laid.follow)

    ends : slot_after s start (cells_used kept) ≡ next
    ends = steps_more s.cells (oldest_slot next ls) (cells_used split.gone) (cells_used kept) ∙ (ap (λ (n : ℕ). (oldest_slot next ls + n) % s.cells) (sym used) ∙ laid.ends)

    start_is : (ks : List Logged) → FollowFrom s start ks → slot_after s start (cells_used ks) ≡ next → oldest_slot next ks ≡ start
    start_is [] from at = sym at ∙ again
      where
        again : (start + 0) % s.cells ≡ start
        again = steps_more s.cells (oldest_slot next ls) (cells_used split.gone) 0 ∙ ap (λ (x : ℕ). (oldest_slot next ls + x) % s.cells) (omega arith)
    start_is (k ∷ ks) from at = from.0

    below : (ks : List Logged) → FollowFrom s start ks → oldest_slot next ks < s.cells
    below [] from = inside
    below (k ∷ ks) from = let at : k.slot ≡ start = from.0 in omega arith

-- The ring still fits then.
pub fits_less : (s : Sizes) (ring next n : ℕ) (ls : List Logged) (released : ℕ) (p : State) → AreLaid s next ls → FitsRing s ring ls released p → n ≤ settled_mark p
    → FitsRing s ring (filter (λ l. nat_lt n l.last) ls) (max released n) p
fits_less s ring next n ls released p laid fits upto =
    let split = parts n ls laid.rising in
    release_law s ring split.gone (filter (λ l. nat_lt n l.last) ls) released n p (subst (λ (l : List Logged). FitsRing s ring l released p) split.whole fits) split.old upto

-- The way from the oldest head to the next slot is what the records take.
used_is : (c next first used d : ℕ) → first < c → 1 ≤ used → used ≤ c → (first + used) % c ≡ next
    → (first < next → first + d ≡ next) → (next ≤ first → first + d ≡ c + next) → d ≡ used
used_is c next first used d below some few ends up around = by (wrapped c first used below few)
  where
    by : ((first + used < c) × ((first + used) % c ≡ first + used)) ⊎ ((c ≤ first + used) × ((first + used) % c + c ≡ first + used)) → d ≡ used
    by (inl u) = let is = u.1 in let later : first < next = omega arith in omega (arith, up later)
    by (inr u) = let is = u.1 in let before : next ≤ first = omega arith in omega (arith, around before)

pub used_first : (s : Sizes) (next d : ℕ) (ls : List Logged) (o : Logged) → slice_get ls 0 ≡ Some o → AreLaid s next ls
    → (o.slot < next → o.slot + d ≡ next) → (next ≤ o.slot → o.slot + d ≡ s.cells + next) → d ≡ cells_used ls
used_first s next d [] o is laid up around = absurd (search rules)
used_first s next d (l ∷ ls) o is laid up around =
    let same : l ≡ o = cc in
    let some : 1 ≤ l.cells = laid.some 0 l (omega arith) in
    used_is s.cells next l.slot (cells_used (l ∷ ls)) d laid.oldest (omega (arith, used_more l ls)) laid.few laid.ends (rw same up) (rw same around)
