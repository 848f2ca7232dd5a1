-- Room in a ring, and rings that still fit.
use Rattle.std.proofs.Common.{◌≡◌, inl, inr, ℕ, ◌+◌, ◌%◌, ◌<◌, ◌≤◌, List, [], ◌∷◌, ◌++◌, get_or, sym, ap, ◌∙◌, subst, arith, All}
use Rattle.std.proofs.Math.Nat.{mod-eq_of_lt, mod-lt}
use Rattle.std.proofs.lemmas.List.Elements.{All-cons, All-nil, All-head, All-tail}
use Rattle.std.proofs.lemmas.List.Sums.{sum_by-cons}
use Rattle.dude_base.specs.declared.sizes.Sizes.{Sizes}
use Rattle.redo_record.specs.Tags.{number_of}
use Rattle.redo_record.specs.Fits.{Logged, HasHead, settled_mark, IsIntact, AreFree, cells_used, FollowFrom}
use Rattle.redo_record.specs.RingLaws.{slot_after, LawOfRoom, LawOfFollowing, LawOfRelease, LawOfRest}
use Rattle.redo_record.proofs.CellPlaces.{steps_same, steps_more}
use Rattle.redo_record.proofs.RingHeads.{intact_by}

-- the cells used with one record more in front
pub used_more : (l : Logged) (ls : List Logged) → cells_used (l ∷ ls) ≡ l.cells + cells_used ls
used_more l ls = sum_by-cons (λ (l : Logged). l.cells) l ls

module _ (s : Sizes) (slot : ℕ) (below : slot < s.cells) where
  module _ (n mark total : ℕ) (room : total + n ≤ s.cells) where
    free_from : (at offset : ℕ) (ls : List Logged) → at ≡ (slot + offset) % s.cells → offset + cells_used ls ≡ total → FollowFrom s at ls → AreFree s mark ((slot + total) % s.cells) n ls
    free_from at offset [] is sum follow = All-nil (λ (l : Logged). mark < l.last → (i k : ℕ) → i < l.cells → k < n → (l.slot + i) % s.cells ≡ ((slot + total) % s.cells + k) % s.cells → ⊥)
    free_from at offset (l ∷ ls) is sum follow =
        let used = used_more l ls in
        All-cons (λ (l : Logged). mark < l.last → (i k : ℕ) → i < l.cells → k < n → (l.slot + i) % s.cells ≡ ((slot + total) % s.cells + k) % s.cells → ⊥) l ls
        (λ over i k lt small same.
        let first : (l.slot + i) % s.cells ≡ (slot + (offset + i)) % s.cells = ap (λ x. (x + i) % s.cells) (follow.0 ∙ is) ∙ steps_more s.cells slot offset i in
        let last : ((slot + total) % s.cells + k) % s.cells ≡ (slot + (total + k)) % s.cells = steps_more s.cells slot total k in
        let one = steps_same s.cells slot (offset + i) (total + k) below (omega arith) (omega arith) (sym first ∙ (same ∙ last)) in
        omega arith)
        (free_from ((at + l.cells) % s.cells) (offset + l.cells) ls (ap (λ x. (x + l.cells) % s.cells) is ∙ steps_more s.cells slot offset l.cells) (omega arith) follow.1)

  pub room_is_free : (n mark : ℕ) (logged : List Logged) → FollowFrom s slot logged → cells_used logged + n ≤ s.cells → AreFree s mark (slot_after s slot (cells_used logged)) n logged
  room_is_free n mark logged follow room =
      free_from n mark (cells_used logged) room slot 0 logged (sym (ap (λ x. x % s.cells) (omega arith) ∙ mod-eq_of_lt below)) (omega arith) follow

pub room_law : LawOfRoom
room_law s slot n mark logged below follow room = room_is_free s slot below n mark logged follow room

pub follow_more : (s : Sizes) (slot : ℕ) → slot < s.cells → (logged : List Logged) (next : Logged) → FollowFrom s slot logged → next.slot ≡ (slot + cells_used logged) % s.cells → FollowFrom s slot (logged ++ next ∷ [])
follow_more s slot below [] next follow at = (at ∙ (ap (λ x. x % s.cells) (omega arith) ∙ mod-eq_of_lt below), tt)
follow_more s slot below (l ∷ ls) next follow at =
    let used = used_more l ls in (
      follow.0,
      follow_more s ((slot + l.cells) % s.cells) (mod-lt (slot + l.cells) (omega arith)) ls next follow.1
          (at ∙ (ap (λ x. (slot + x) % s.cells) used ∙ sym (steps_more s.cells slot l.cells (cells_used ls)))),
    )

pub follow_rest : (s : Sizes) (slot : ℕ) → slot < s.cells → (gone rest : List Logged) → FollowFrom s slot (gone ++ rest) → FollowFrom s ((slot + cells_used gone) % s.cells) rest
follow_rest s slot below [] rest follow = subst (λ x. FollowFrom s x rest) (sym (ap (λ x. x % s.cells) (omega arith) ∙ mod-eq_of_lt below)) follow
follow_rest s slot below (l ∷ ls) rest follow =
    let used = used_more l ls in
    subst (λ x. FollowFrom s x rest) (steps_more s.cells slot l.cells (cells_used ls) ∙ ap (λ x. (slot + x) % s.cells) (sym used))
    (follow_rest s ((slot + l.cells) % s.cells) (mod-lt (slot + l.cells) (omega arith)) ls rest follow.1)

pub following_law : LawOfFollowing
following_law s slot below = (follow_more s slot below, follow_rest s slot below)

-- a head over the number isn't one of the released records
head_of_rest : (number slot bound : ℕ) (gone rest : List Logged) → All (λ l. l.last ≤ bound) gone → bound < number → HasHead number slot (gone ++ rest) → HasHead number slot rest
head_of_rest number slot bound [] rest old over has = has
head_of_rest number slot bound (l ∷ ls) rest old over (inl is) = absurd (let small = All-head (λ (l : Logged). l.last ≤ bound) l ls old in let same = is.0 in omega arith)
head_of_rest number slot bound (l ∷ ls) rest old over (inr has) = head_of_rest number slot bound ls rest (All-tail (λ (l : Logged). l.last ≤ bound) l ls old) over has

pub all_rest : {X : Type 0} (P : X → Type 0) (gone rest : List X) → All P (gone ++ rest) → All P rest
all_rest P [] rest all = all
all_rest P (l ∷ ls) rest all = all_rest P ls rest (All-tail P l (ls ++ rest) all)

pub release_law : LawOfRelease
release_law s ring gone rest released number p fits old upto =
    let kept = fits.reproduced in
    record {
      mark = fits.mark;
      reproduced = omega arith;
      heads = λ slot tag below may over. let high = over.over in head_of_rest (number_of tag) slot number gone rest old (omega arith) (fits.heads slot tag below may over);
      records = all_rest (λ l. settled_mark p < l.last → IsIntact s ring p l) gone rest fits.records;
    }

pub rest_law : LawOfRest
rest_law s ring logged released p q positive fits mark more tags words =
    let kept = fits.reproduced in
    record {
      mark = mark;
      reproduced = omega arith;
      heads = λ slot tag below may over. let high = over.over in fits.heads slot tag below (tags slot tag below may) (record { kind = over.kind; over = omega arith });
      records = λ k d lt over. let intact = fits.records k d lt (omega arith) in
          intact_by intact (λ i j small tiny. words (((get_or logged k d).slot + i) % s.cells) j _ (mod-lt ((get_or logged k d).slot + i) positive) tiny (intact.settled_words i j small tiny));
    }
