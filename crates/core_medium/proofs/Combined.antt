-- Two lists of writes in rising order of word that leave the same of every array are one.
use Rattle.std.proofs.Common.{◌≡◌, ◌≢◌, ℕ, zero, suc, ◌<◌, List, [], ◌∷◌, length, get_or, refl, sym, ap, ◌∙◌, arith, All, unwrap_or, eq-eqb, ne_eqb}
use Rattle.std.specs.Prelude.{Option, Some, None, replicate}
use Rattle.std.specs.List.{AllPairs}
use Rattle.std.proofs.lemmas.List.{get_or-replicate, length-replicate}
use mathlib.Core.Logic.{dite}
use native.Mathlib.Decide.{ℕ_discrete, dec_lt}
use Rattle.dude_base.specs.declared.write.Write.{Write}
use Rattle.dude_base.specs.Writes.{written, overwritten}
use Rattle.dude_base.proofs.Overwriting.{index-overwritten}

both_same : (a b : Option ℕ) → unwrap_or a 0 ≡ unwrap_or b 0 → unwrap_or a 1 ≡ unwrap_or b 1 → a ≡ b
both_same None None zero_is one_is = refl
both_same None (Some y) zero_is one_is = absurd (omega arith)
both_same (Some x) None zero_is one_is = absurd (omega arith)
both_same (Some x) (Some y) zero_is one_is = ap Some zero_is

-- none of these writes is of a word that is below them all
none_below : (ws : List Write) (i : ℕ) → All (λ w. i < w.at) ws → written ws i ≡ None
none_below [] i above = refl
none_below (w ∷ ws) i above =
    let first : i < w.at = above 0 w (omega arith) in
    rw (ne_eqb w.at i (λ same. omega arith)) (none_below ws i (λ k d lt. above (suc k) d (omega arith)))

head_written : (w : Write) (ws : List Write) → written (w ∷ ws) w.at ≡ Some w.value
head_written w ws = rw (eq-eqb w.at w.at refl) refl

tail_written : (w : Write) (ws : List Write) (i : ℕ) → w.at ≢ i → written (w ∷ ws) i ≡ written ws i
tail_written w ws i other = rw (ne_eqb w.at i other) refl

write_is : (v w : Write) → v.at ≡ w.at → v.value ≡ w.value → v ≡ w
write_is v w at value = λ k. record { at = at k; value = value k }

module _ (words : ℕ) where
  -- what one array shows
  shown : (ws vs : List Write) → ((array : List ℕ) → length array ≡ words → overwritten ws array ≡ overwritten vs array) → (i x : ℕ) → i < words → unwrap_or (written ws i) x ≡ unwrap_or (written vs i) x
  shown ws vs same i x lt =
      let array : List ℕ = replicate words x in
      let long : length array ≡ words = length-replicate words x in
      let value : get_or array i 0 ≡ x = get_or-replicate words i x 0 lt in
      ap (unwrap_or (written ws i)) (sym value) ∙ (sym (index-overwritten ws array i (omega arith)) ∙ (ap (λ (a : List ℕ). get_or a i 0) (same array long) ∙ (index-overwritten vs array i (omega arith) ∙ ap (unwrap_or (written vs i)) value)))

  rising_same : (ws vs : List Write) → AllPairs (λ v w. v.at < w.at) ws → AllPairs (λ v w. v.at < w.at) vs → All (λ w. w.at < words) ws → All (λ w. w.at < words) vs → ((i : ℕ) → i < words → written ws i ≡ written vs i) → ws ≡ vs
  rising_same [] [] up_w up_v in_w in_v same = refl
  rising_same [] (v ∷ vs) up_w up_v in_w in_v same = absurd (let e : None ≡ Some v.value = same v.at (in_v 0 v (omega arith)) ∙ head_written v vs in cc)
  rising_same (w ∷ ws) [] up_w up_v in_w in_v same = absurd (let e : None ≡ Some w.value = sym (same w.at (in_w 0 w (omega arith))) ∙ head_written w ws in cc)
  rising_same (w ∷ ws) (v ∷ vs) up_w up_v in_w in_v same = dite (dec_lt w.at v.at)
      (λ less. absurd (let e : None ≡ Some w.value = sym (none_below (v ∷ vs) w.at (above w v vs less up_v)) ∙ (sym (same w.at (in_w 0 w (omega arith))) ∙ head_written w ws) in cc))
      (λ not_less. dite (dec_lt v.at w.at)
      (λ more. absurd (let e : None ≡ Some v.value = sym (none_below (w ∷ ws) v.at (above v w ws more up_w)) ∙ (same v.at (in_v 0 v (omega arith)) ∙ head_written v vs) in cc))
      (λ not_more.
      let at : w.at ≡ v.at = omega arith in
      let values : Some w.value ≡ Some v.value = sym (head_written w ws) ∙ (same w.at (in_w 0 w (omega arith)) ∙ (ap (written (v ∷ vs)) at ∙ head_written v vs)) in
      let head : w ≡ v = write_is w v at cc in
      let tail : ws ≡ vs = rising_same ws vs (λ i j d lt few. up_w (suc i) (suc j) d (omega arith) (omega arith)) (λ i j d lt few. up_v (suc i) (suc j) d (omega arith) (omega arith))
      (λ i d lt. in_w (suc i) d (omega arith)) (λ i d lt. in_v (suc i) d (omega arith))
      (λ i lt. dite (ℕ_discrete w.at i)
      (λ hit. let none_w = none_below ws i (λ k d few. let later = up_w 0 (suc k) d (omega arith) (omega arith) in omega arith) in
      let none_v = none_below vs i (λ k d few. let later = up_v 0 (suc k) d (omega arith) (omega arith) in omega arith) in none_w ∙ sym none_v)
      (λ miss. sym (tail_written w ws i miss) ∙ (same i lt ∙ tail_written v vs i (λ e. miss (at ∙ e))))) in
      ap (λ (x : Write). x ∷ ws) head ∙ ap (λ (xs : List Write). v ∷ xs) tail))
    where
      above : (a b : Write) (bs : List Write) → a.at < b.at → AllPairs (λ v w. v.at < w.at) (b ∷ bs) → All (λ w. a.at < w.at) (b ∷ bs)
      above a b bs less up zero d lt = less
      above a b bs less up (suc k) d lt = let later = up 0 (suc k) d (omega arith) lt in omega arith

  pub combined_law : (ws vs : List Write) → AllPairs (λ v w. v.at < w.at) ws → AllPairs (λ v w. v.at < w.at) vs → All (λ w. w.at < words) ws → All (λ w. w.at < words) vs
      → ((array : List ℕ) → length array ≡ words → overwritten ws array ≡ overwritten vs array) → ws ≡ vs
  combined_law ws vs up_w up_v in_w in_v same = rising_same ws vs up_w up_v in_w in_v (λ i lt. both_same (written ws i) (written vs i) (shown ws vs same i 0 lt) (shown ws vs same i 1 lt))
