-- The last writes of the first writes of a row that is in order: one write more.
use Rattle.std.proofs.Common.{◌≡◌, ◌≢◌, ◌==◌, ℕ, ◌+◌, ◌<◌, ◌≤◌, List, [], ◌∷◌, ◌++◌, Some, if◌then◌else◌, All, length, map, take, get_or, refl, sym, ap, ◌∙◌, subst, inl, inr, arith, eq-eqb, ne_eqb}
use Rattle.std.proofs.lemmas.Bool.{cases_eq}
use Rattle.std.proofs.lemmas.List.{take_more, map_push, length_push}
use Rattle.std.proofs.lemmas.List.Elements.{All-nil, All-push, All-weaker}
use Rattle.std.proofs.lemmas.List.Quantifiers.{all_pairs_push}
use Rattle.dude_base.specs.declared.write.Write.{Write}
use Rattle.dude_base.specs.Writes.{written}
use Rattle.dude_base.proofs.WriteLists.{put_absent}
use Rattle.dude_base.proofs.Overwriting.{written-put}
use Rattle.group_combine.specs.declared.numbered.Numbered.{Numbered}
use Rattle.group_combine.specs.Numbered.{write_of, last_of, AreInOrder, EndsWord, HasNextOfWord, IsKept}
use Rattle.group_combine.proofs.LastWrites.{last_of-push}

pub kept_none : (row : List Numbered) → IsKept row [] 0
kept_none row = record {
  rising = λ i j d lt jl. absurd (omega arith);
  few = omega arith;
  below = λ d lt. All-nil (λ (w : Write). w.at < (get_or row 0 d).at);
  last = λ i other. refl;
}

-- the last write of word i among one write more
last_of-more : (row : List Numbered) (k : ℕ) (e : Numbered) (i : ℕ) → k < length row → get_or row k e ≡ e
    → last_of (map write_of (take (k + 1) row)) i ≡ (if e.at == i then Some e.value else last_of (map write_of (take k row)) i)
last_of-more row k e i lt is =
    ap (λ (l : List Numbered). last_of (map write_of l) i) (take_more row k e lt ∙ ap (λ (w : Numbered). take k row ++ w ∷ []) is)
    ∙ ap (λ l. last_of l i) (map_push write_of (take k row) e)
    ∙ last_of-push (map write_of (take k row)) (write_of e) i

module _ (row : List Numbered) (k : ℕ) (e : Numbered) (order : AreInOrder row) (lt : k < length row) (is : (d : Numbered) → get_or row k d ≡ e) where
  at_is : (d : Numbered) → (get_or row k d).at ≡ e.at
  at_is d = ap (λ (w : Numbered). w.at) (is d)

  module _ (ws : List Write) (kept : IsKept row ws k) where
    lower : All (λ w. w.at < e.at) ws
    lower = subst (λ n. All (λ (w : Write). w.at < n) ws) (at_is e) (kept.below e lt)

    written_more : (i : ℕ) → written (ws ++ write_of e ∷ []) i ≡ (if e.at == i then Some e.value else written ws i)
    written_more i =
        let absent : All (λ w. w.at ≢ e.at) ws = All-weaker (λ (w : Write). w.at < e.at) (λ (w : Write). w.at ≢ e.at) (λ w less same. omega arith) ws lower in
        ap (λ l. written l i) (sym (put_absent ws (write_of e) absent)) ∙ written-put ws (write_of e) i

    -- the last write of its word is kept
    pub kept_more : EndsWord row k → IsKept row (ws ++ write_of e ∷ []) (k + 1)
    kept_more ends =
        record {
          rising = all_pairs_push (λ (v w : Write). v.at < w.at) ws (write_of e) kept.rising lower;
          few = let few = kept.few in omega (arith, length_push ws (write_of e));
          below = λ d next.
              let up : e.at ≤ (get_or row (k + 1) d).at = let words = (order k (k + 1) d (omega arith) next).words in omega (arith, at_is d) in
              let apart : (get_or row (k + 1) d).at ≢ e.at = λ same. ends d next (same ∙ sym (at_is d)) in
              let less : e.at < (get_or row (k + 1) d).at = omega arith in
              All-push (λ (w : Write). w.at < (get_or row (k + 1) d).at) ws (write_of e)
              (All-weaker (λ (w : Write). w.at < e.at) (λ (w : Write). w.at < (get_or row (k + 1) d).at) (λ w low. omega arith) ws lower) less;
          last = λ i other. written_more i ∙ elim (cases_eq e.at i) [
            | inl same ↦ rw (last_of-more row k e i lt (is e), eq-eqb e.at i same) refl
            | inr apart ↦ rw (last_of-more row k e i lt (is e), ne_eqb e.at i apart) (kept.last i (λ d _ same. apart (sym (at_is d) ∙ same)))
          ];
        }

    -- one that another write of its word follows isn't
    pub kept_same : HasNextOfWord row k → IsKept row ws (k + 1)
    kept_same (more, same) =
        record {
          rising = kept.rising;
          few = let few = kept.few in omega arith;
          below = λ d next. subst (λ n. All (λ (w : Write). w.at < n) ws) (sym (same d)) (kept.below d lt);
          last = λ i other.
              let apart : e.at ≢ i = λ here. other e more (same e ∙ at_is e ∙ here) in
              kept.last i (λ d _ here. apart (sym (at_is d) ∙ here)) ∙ sym (last_of-more row k e i lt (is e) ∙ rw (ne_eqb e.at i apart) refl);
        }
