-- The lines that writes of words touch, with one write more.
use Rattle.std.proofs.Common.{◌≡◌, ◌≢◌, ◌⊎◌, ℕ, zero, suc, ◌+◌, ◌-◌, ◌/◌, ◌<◌, List, [], ◌∷◌, ◌++◌, length, map, take, get_or, Some, sym, ap, ◌∙◌, subst, inl, inr, arith, length-append}
use Rattle.std.specs.Prelude.{slice_get}
use Rattle.std.proofs.lemmas.Bool.{cases_eq}
use Rattle.std.proofs.lemmas.List.{take_more, map_push}
use Rattle.redo_record.specs.BackCalls.{without_repeats, lines_touched}
use Rattle.redo_record.proofs.GroupCalls.{slice_get_behind, slice_get_front}
use Rattle.redo_record.proofs.HomeWrites.{repeats_same, repeats_other}

abbrev pub line_at : List (ℕ × ℕ) → ℕ → ℕ × ℕ → ℕ
line_at puts k d = (get_or puts k d).0 / 8

more : (puts : List (ℕ × ℕ)) (k : ℕ) (d : ℕ × ℕ) → k < length puts → map (λ (w : ℕ × ℕ). w.0 / 8) (take (k + 1) puts) ≡ map (λ (w : ℕ × ℕ). w.0 / 8) (take k puts) ++ line_at puts k d ∷ []
more puts k d lt = ap (map (λ (w : ℕ × ℕ). w.0 / 8)) (take_more puts k d lt) ∙ map_push (λ (w : ℕ × ℕ). w.0 / 8) (take k puts) (get_or puts k d)

pub lines_first : (puts : List (ℕ × ℕ)) (d : ℕ × ℕ) → 0 < length puts → lines_touched (take 1 puts) ≡ line_at puts 0 d ∷ []
lines_first puts d lt = ap without_repeats (more puts 0 d lt)

pub lines_other : (puts : List (ℕ × ℕ)) (k : ℕ) (d : ℕ × ℕ) → k + 1 < length puts → line_at puts k d ≢ line_at puts (k + 1) d → lines_touched (take (k + 1 + 1) puts) ≡ lines_touched (take (k + 1) puts) ++ line_at puts (k + 1) d ∷ []
lines_other puts k d lt apart =
    let before : List ℕ = map (λ (w : ℕ × ℕ). w.0 / 8) (take k puts) in
    let so_far = more puts k d (omega arith) in
    ap without_repeats (more puts (k + 1) d lt ∙ ap (λ l. l ++ line_at puts (k + 1) d ∷ []) so_far)
    ∙ repeats_other before (line_at puts k d) (line_at puts (k + 1) d) apart
    ∙ ap (λ l. without_repeats l ++ line_at puts (k + 1) d ∷ []) (sym so_far)

pub lines_same : (puts : List (ℕ × ℕ)) (k : ℕ) (d : ℕ × ℕ) → k + 1 < length puts → line_at puts k d ≡ line_at puts (k + 1) d → lines_touched (take (k + 1 + 1) puts) ≡ lines_touched (take (k + 1) puts)
lines_same puts k d lt same =
    let before : List ℕ = map (λ (w : ℕ × ℕ). w.0 / 8) (take k puts) in
    let so_far = more puts k d (omega arith) in
    ap without_repeats (more puts (k + 1) d lt ∙ ap (λ l. l ++ line_at puts (k + 1) d ∷ []) so_far ∙ ap (λ x. (before ++ line_at puts k d ∷ []) ++ x ∷ []) (sym same))
    ∙ repeats_same before (line_at puts k d)
    ∙ ap without_repeats (sym so_far)

-- a write of another line than the one before it
new_line : (puts : List (ℕ × ℕ)) (k line before : ℕ) (d : ℕ × ℕ) → k < length puts → line ≡ line_at puts k d → (0 < k → before ≡ line_at puts (k - 1) d) → (k ≡ 0) ⊎ (line ≢ before)
    → lines_touched (take (k + 1) puts) ≡ lines_touched (take k puts) ++ line ∷ []
new_line puts zero line before d lt is was apart = lines_first puts d lt ∙ ap (λ (l : ℕ). l ∷ []) (sym is)
new_line puts (suc k) line before d lt is was (inl first) = absurd (omega arith)
new_line puts (suc k) line before d lt is was (inr apart) =
    let one : k + 1 ≡ suc k = omega arith in
    let here : line ≡ line_at puts (k + 1) d = is ∙ ap (λ i. line_at puts i d) (sym one) in
    let old : before ≡ line_at puts k d = was (omega arith) ∙ ap (λ i. line_at puts i d) (omega arith) in
    subst (λ n. lines_touched (take (n + 1) puts) ≡ lines_touched (take n puts) ++ line ∷ []) one
    (lines_other puts k d (omega arith) (λ same. apart (here ∙ sym same ∙ sym old)) ∙ ap (λ x. lines_touched (take (k + 1) puts) ++ x ∷ []) (sym here))

-- one of the same
same_line : (puts : List (ℕ × ℕ)) (k line before : ℕ) (d : ℕ × ℕ) → k < length puts → line ≡ line_at puts k d → (0 < k → before ≡ line_at puts (k - 1) d) → 0 < k → line ≡ before
    → lines_touched (take (k + 1) puts) ≡ lines_touched (take k puts)
same_line puts zero line before d lt is was some same = absurd (omega arith)
same_line puts (suc k) line before d lt is was some same =
    let one : k + 1 ≡ suc k = omega arith in
    let here : line ≡ line_at puts (k + 1) d = is ∙ ap (λ i. line_at puts i d) (sym one) in
    let old : before ≡ line_at puts k d = was (omega arith) ∙ ap (λ i. line_at puts i d) (omega arith) in
    subst (λ n. lines_touched (take (n + 1) puts) ≡ lines_touched (take n puts)) one (lines_same puts k d (omega arith) (sym old ∙ sym same ∙ here))

-- Of the first k writes: how many lines they touch, the one at an index, and that of the last write.
pub record Touched (puts : List (ℕ × ℕ)) (k wanted count found before : ℕ) : Type 0 where
  pub counted : count ≡ length (lines_touched (take k puts))
  pub found_is : wanted < count → slice_get (lines_touched (take k puts)) wanted ≡ Some found
  pub before_is : (d : ℕ × ℕ) → 0 < k → before ≡ line_at puts (k - 1) d

module _ (puts : List (ℕ × ℕ)) (k wanted count found before line : ℕ) (inside : k < length puts) (so_far : Touched puts k wanted count found before) (is : (d : ℕ × ℕ) → line ≡ line_at puts k d) where
  last_is : (d : ℕ × ℕ) → 0 < k + 1 → line ≡ line_at puts (k + 1 - 1) d
  last_is d some = is d ∙ ap (λ i. line_at puts i d) (omega arith)

  pub touched_same : 0 < k → line ≡ before → Touched puts (k + 1) wanted count found line
  touched_same some same =
      let still = same_line puts k line before (0, 0) inside (is (0, 0)) (so_far.before_is (0, 0)) some same in
      record {
        counted = so_far.counted ∙ ap length (sym still);
        found_is = λ lt. ap (λ l. slice_get l wanted) still ∙ so_far.found_is lt;
        before_is = last_is;
      }

  pub touched_new : (now : ℕ) → (k ≡ 0) ⊎ (line ≢ before) → (count ≡ wanted → now ≡ line) → (count ≢ wanted → now ≡ found) → Touched puts (k + 1) wanted (count + 1) now line
  touched_new now apart at elsewhere =
      let more = new_line puts k line before (0, 0) inside (is (0, 0)) (so_far.before_is (0, 0)) apart in
      let old : List ℕ = lines_touched (take k puts) in
      record {
        counted = (let one = length-append old (line ∷ []) in let so = so_far.counted in let same = ap length more in omega arith);
        found_is = λ lt. ap (λ l. slice_get l wanted) more ∙ elim (cases_eq count wanted) [
          | inl here ↦ (let so = so_far.counted in slice_get_behind old (line ∷ []) wanted 0 (omega arith) ∙ ap Some (sym (at here)))
          | inr other ↦ (let so = so_far.counted in slice_get_front old (line ∷ []) wanted (omega arith) ∙ so_far.found_is (omega arith) ∙ ap Some (sym (elsewhere other)))
        ];
        before_is = last_is;
      }
