-- The last write of each word: in a row that goes on, in another order of it, and of records.
use Rattle.std.proofs.Common.{◌≡◌, ◌≢◌, ◌==◌, ℕ, ◌+◌, ◌<◌, ◌≤◌, zero, suc, false, List, [], ◌∷◌, ◌++◌, Option, Some, None, if◌then◌else◌, All, AllPairs, length, map, flat_map, get_or, refl, sym, ap, ◌∙◌, inl, inr, arith, eq-eqb, ne_eqb, append_assoc, append-nil}
use Rattle.std.specs.Option.{option_or}
use Rattle.std.specs.Ordering.{nat_cmp, ordering_then, is_lt}
use Rattle.std.specs.Cmp.{IsTotalOrder}
use Rattle.std.specs.declared.cmp.Ordering.{Ordering}
use Rattle.std.specs.List.{Contains}
use Rattle.std.specs.List.Sorted.{IsPermutation, IsSortedByKey}
use Rattle.std.proofs.lemmas.Bool.{cases_eq, cases_lt}
use Rattle.std.proofs.lemmas.Bool.Decides.{nat_tests}
use Rattle.std.proofs.lemmas.Cmp.{then_total, on_total, nat_cmp_total}
use Rattle.std.proofs.lemmas.List.{get_or_default}
use Rattle.std.proofs.lemmas.List.Elements.{All-contains, All-cons, All-weaker, Contains-append_right}
use Rattle.std.proofs.lemmas.List.Sorted.{ranks_by, sorted_far, All-permutation, Contains-permutation, IsPermutation-sym}
use Rattle.std.proofs.lemmas.Grind.{common_steps, flat_map-append}
use Rattle.dude_base.specs.declared.write.Write.{Write}
use Rattle.dude_base.specs.Records.{RedoBundle}
use Rattle.dude_base.specs.Writes.{written, HasDistinctPlaces}
use Rattle.dude_base.proofs.WriteLists.{written_absent}
use Rattle.group_combine.specs.declared.numbered.Numbered.{Numbered}
use Rattle.group_combine.specs.Group.{last_written}
use Rattle.group_combine.specs.Numbered.{numbered_from, write_of, last_of, ComesBefore, AreInOrder}

or_none : (o : Option ℕ) → option_or o None ≡ o
or_none None = refl
or_none (Some x) = refl

or_then : (o p q : Option ℕ) → option_or (option_or o p) q ≡ option_or o (option_or p q)
or_then None p q = refl
or_then (Some x) p q = refl

-- a row that goes on
pub last_of-append : (vs ws : List Write) (i : ℕ) → last_of (vs ++ ws) i ≡ option_or (last_of ws i) (last_of vs i)
last_of-append [] ws i = sym (or_none (last_of ws i))
last_of-append (v ∷ vs) ws i =
    let t : Option ℕ = if v.at == i then Some v.value else None in
    ap (λ o. option_or o t) (last_of-append vs ws i) ∙ or_then (last_of ws i) (last_of vs i) t

pub last_of-push : (ws : List Write) (w : Write) (i : ℕ) → last_of (ws ++ w ∷ []) i ≡ (if w.at == i then Some w.value else last_of ws i)
last_of-push ws w i = last_of-append ws (w ∷ []) i ∙ elim (cases_eq w.at i) [ inl same ↦ grind (arith, common_steps) | inr other ↦ grind (arith, common_steps) ]

-- of writes of different words the last one of a word is the only one
pub last_of-distinct : (ws : List Write) (i : ℕ) → HasDistinctPlaces ws → last_of ws i ≡ written ws i
last_of-distinct [] i distinct = refl
last_of-distinct (w ∷ ws) i distinct =
    let rest : last_of ws i ≡ written ws i = last_of-distinct ws i (λ a b d ab bl. distinct (suc a) (suc b) d (omega arith) (omega arith)) in
    elim (cases_eq w.at i) [
      | inl same ↦
          let none : written ws i ≡ None = written_absent ws i (λ k d lt e. distinct 0 (suc k) d (omega arith) (omega arith) (same ∙ sym e)) in
          grind (arith, common_steps)
      | inr other ↦ let same : last_of ws i ≡ written ws i = rest in grind (arith, common_steps, or_none (last_of ws i))
    ]

-- the writes of records in order
pub last_of-records : (rs : List RedoBundle) (i : ℕ) → All (λ r. HasDistinctPlaces r.writes) rs → last_of (flat_map (λ (r : RedoBundle). r.writes) rs) i ≡ last_written rs i
last_of-records [] i distinct = refl
last_of-records (r ∷ rs) i distinct =
    let here : last_of r.writes i ≡ written r.writes i = last_of-distinct r.writes i (distinct 0 r (omega arith)) in
    let rest = last_of-records rs i (λ k d lt. distinct (suc k) d (omega arith)) in
    last_of-append r.writes (flat_map (λ (r : RedoBundle). r.writes) rs) i ∙ ap (λ o. option_or o (last_of r.writes i)) rest ∙ ap (option_or (last_written rs i)) here

pub numbered_from-append : (n : ℕ) (vs ws : List Write) → numbered_from n (vs ++ ws) ≡ numbered_from n vs ++ numbered_from (n + length vs) ws
numbered_from-append n [] ws = ap (λ k. numbered_from k ws) (omega arith)
numbered_from-append n (v ∷ vs) ws =
    ap (λ (l : List Numbered). record { at = v.at; order = n; value = v.value } ∷ l)
    (numbered_from-append (n + 1) vs ws ∙ ap (λ k. numbered_from (n + 1) vs ++ numbered_from k ws) (omega arith))

pub length-numbered_from : (n : ℕ) (ws : List Write) → length (numbered_from n ws) ≡ length ws
length-numbered_from n [] = refl
length-numbered_from n (w ∷ ws) = ap suc (length-numbered_from (n + 1) ws)

pub write_of-numbered_from : (n : ℕ) (ws : List Write) → map write_of (numbered_from n ws) ≡ ws
write_of-numbered_from n [] = refl
write_of-numbered_from n (w ∷ ws) = ap (λ (l : List Write). w ∷ l) (write_of-numbered_from (n + 1) ws)

later : (n : ℕ) (ws : List Write) → All (λ w. n ≤ w.order) (numbered_from n ws)
later n [] k d lt = absurd (omega arith)
later n (w ∷ ws) zero d lt = omega arith
later n (w ∷ ws) (suc k) d lt = let rest = later (n + 1) ws k d (omega arith) in omega arith

-- the numbers rise
rising : (n : ℕ) (ws : List Write) → AllPairs (λ v w. v.order < w.order) (numbered_from n ws)
rising n [] i j d lt jl = absurd (omega arith)
rising n (w ∷ ws) i zero d lt jl = absurd (omega arith)
rising n (w ∷ ws) zero (suc j) d lt jl = let rest = later (n + 1) ws j d (omega arith) in omega arith
rising n (w ∷ ws) (suc i) (suc j) d lt jl = rising (n + 1) ws i j d (omega arith) (omega arith)

-- The last write of word i in a row, by the numbers.
record IsLatest (row : List Numbered) (i value : ℕ) : Type 0 where
  it : Numbered
  among : Contains row it
  of_word : it.at ≡ i
  same_value : it.value ≡ value
  latest : All (λ w. w.at ≡ i → w.order ≤ it.order) row

abbrev LatestIs : List Numbered → ℕ → Option ℕ → Type 0
LatestIs row i None = All (λ w. w.at ≢ i) row
LatestIs row i (Some value) = IsLatest row i value

latest_more : (e : Numbered) (es : List Numbered) (i : ℕ) (o : Option ℕ) → All (λ w. e.at ≡ w.at → e.order ≤ w.order) es → LatestIs es i o
    → LatestIs (e ∷ es) i (option_or o (if e.at == i then Some e.value else None))
latest_more e es i (Some value) after rest =
    let before : e.at ≡ i → e.order ≤ rest.it.order = λ same. All-contains (λ (w : Numbered). e.at ≡ w.at → e.order ≤ w.order) es rest.it after rest.among (same ∙ sym rest.of_word) in
    record {
      it = rest.it;
      among = Contains-append_right (e ∷ []) es rest.it rest.among;
      of_word = rest.of_word;
      same_value = rest.same_value;
      latest = All-cons (λ (w : Numbered). w.at ≡ i → w.order ≤ rest.it.order) e es before rest.latest;
    }
latest_more e es i None after rest = elim (cases_eq e.at i) [
  | inl same ↦
      let own : IsLatest (e ∷ es) i e.value = record {
        it = e;
        among = (0, omega arith, refl);
        of_word = same;
        same_value = refl;
        latest = All-cons (λ (w : Numbered). w.at ≡ i → w.order ≤ e.order) e es (λ _. omega arith)
            (All-weaker (λ (w : Numbered). w.at ≢ i) (λ (w : Numbered). w.at ≡ i → w.order ≤ e.order) (λ w other here. absurd (other here)) es rest);
      } in
      rw (eq-eqb e.at i same) own
  | inr other ↦ rw (ne_eqb e.at i other) (All-cons (λ (w : Numbered). w.at ≢ i) e es other rest)
]

latest_last : (row : List Numbered) (i : ℕ) → AllPairs (λ v w. v.at ≡ w.at → v.order ≤ w.order) row → LatestIs row i (last_of (map write_of row) i)
latest_last [] i order = λ k d lt. absurd (omega arith)
latest_last (e ∷ es) i order =
    latest_more e es i (last_of (map write_of es) i)
    (λ k d lt. order 0 (suc k) d (omega arith) (omega arith))
    (latest_last es i (λ a b d ab bl. order (suc a) (suc b) d (omega arith) (omega arith)))

latest_permuted : (xs ys : List Numbered) (i : ℕ) (o : Option ℕ) → IsPermutation xs ys → LatestIs xs i o → LatestIs ys i o
latest_permuted xs ys i None same rest = All-permutation (λ (w : Numbered). w.at ≢ i) xs ys same rest
latest_permuted xs ys i (Some value) same rest = record {
  it = rest.it;
  among = Contains-permutation xs ys rest.it same rest.among;
  of_word = rest.of_word;
  same_value = rest.same_value;
  latest = All-permutation (λ (w : Numbered). w.at ≡ i → w.order ≤ rest.it.order) xs ys same rest.latest;
}

-- writes of one number are one
same_numbered : (row : List Numbered) (v w : Numbered) → AllPairs (λ v w. v.order < w.order) row → Contains row v → Contains row w → v.order ≡ w.order → v ≡ w
same_numbered row v w rise (j, jl, is_v) (k, kl, is_w) same =
    let at_j : (get_or row j v).order ≡ v.order = ap (λ (u : Numbered). u.order) is_v in
    let at_k : (get_or row k w).order ≡ w.order = ap (λ (u : Numbered). u.order) is_w in
    let jk : get_or row j v ≡ get_or row j w = get_or_default row j v w jl in
    let at_jw : (get_or row j w).order ≡ v.order = ap (λ (u : Numbered). u.order) (sym jk) ∙ at_j in
    let not_less : ¬ (j < k) = λ lt. let no = rise j k w lt kl in omega arith in
    let not_more : ¬ (k < j) = λ lt. let no = rise k j w lt jl in omega arith in
    let one : j ≡ k = elim (cases_lt j k) [ inl lt ↦ absurd (not_less lt) | inr ge ↦ elim (cases_lt k j) [ inl lt ↦ absurd (not_more lt) | inr le ↦ omega arith ] ] in
    sym is_v ∙ jk ∙ ap (λ n. get_or row n w) one ∙ is_w

same_latest : (row : List Numbered) (i : ℕ) (o p : Option ℕ) → AllPairs (λ v w. v.order < w.order) row → LatestIs row i o → LatestIs row i p → o ≡ p
same_latest row i None None rise one other = refl
same_latest row i None (Some x) rise one other = absurd (All-contains (λ (w : Numbered). w.at ≢ i) row other.it one other.among other.of_word)
same_latest row i (Some x) None rise one other = absurd (All-contains (λ (w : Numbered). w.at ≢ i) row one.it other one.among one.of_word)
same_latest row i (Some x) (Some y) rise one other =
    let up : one.it.order ≤ other.it.order = All-contains (λ (w : Numbered). w.at ≡ i → w.order ≤ other.it.order) row one.it other.latest one.among one.of_word in
    let down : other.it.order ≤ one.it.order = All-contains (λ (w : Numbered). w.at ≡ i → w.order ≤ one.it.order) row other.it one.latest other.among other.of_word in
    let same : one.it ≡ other.it = same_numbered row one.it other.it rise one.among other.among (omega arith) in
    ap Some (sym one.same_value ∙ ap (λ (w : Numbered). w.value) same ∙ other.same_value)

-- a row in another order, in which the writes of a word stand in their order, has the same last writes
pub last_of-sorted : (ws : List Write) (row : List Numbered) (i : ℕ) → IsPermutation (numbered_from 0 ws) row → AreInOrder row → last_of (map write_of row) i ≡ last_of ws i
last_of-sorted ws row i same order =
    let there : LatestIs row i (last_of (map write_of row) i) = latest_last row i (λ a b d ab bl. (order a b d ab bl).order) in
    let back : LatestIs (numbered_from 0 ws) i (last_of (map write_of row) i) = latest_permuted row (numbered_from 0 ws) i (last_of (map write_of row) i) (IsPermutation-sym (numbered_from 0 ws) row same) there in
    let here : LatestIs (numbered_from 0 ws) i (last_of (map write_of (numbered_from 0 ws)) i) = latest_last (numbered_from 0 ws) i (λ a b d ab bl same. let up = rising 0 ws a b d ab bl in omega arith) in
    same_latest (numbered_from 0 ws) i (last_of (map write_of row) i) (last_of (map write_of (numbered_from 0 ws)) i) (rising 0 ws) back here
    ∙ ap (λ l. last_of l i) (write_of-numbered_from 0 ws)

abbrev key_of : Numbered → ℕ × ℕ
key_of w = (w.at, w.order)

abbrev by_word_and_order : ℕ × ℕ → ℕ × ℕ → Ordering
by_word_and_order x y = ordering_then (nat_cmp x.0 y.0) (nat_cmp x.1 y.1)

total_order : IsTotalOrder by_word_and_order
total_order = then_total (on_total (λ (p : ℕ × ℕ). p.0) nat_cmp_total) (on_total (λ (p : ℕ × ℕ). p.1) nat_cmp_total)

lower : (a b c d : ℕ) → a < b → is_lt (by_word_and_order (a, c) (b, d)) ≡ false → ⊥
lower a b c d less same_rank = grind (arith, nat_tests)

earlier : (a b c d : ℕ) → a ≡ b → c < d → is_lt (by_word_and_order (a, c) (b, d)) ≡ false → ⊥
earlier a b c d same less same_rank = grind (arith, nat_tests)

before : (v w : Numbered) → is_lt (by_word_and_order (key_of w) (key_of v)) ≡ false → ComesBefore v w
before v w not_before = elim (cases_lt w.at v.at) [
  | inl lt ↦ absurd (lower w.at v.at w.order v.order lt not_before)
  | inr ge ↦ record { words = ge; order = λ same. elim (cases_lt w.order v.order) [ inl lt ↦ absurd (earlier w.at v.at w.order v.order (sym same) lt not_before) | inr le ↦ le ] }
]

-- what the sort by word and number says
pub in_order_from_sorted : (row : List Numbered) → IsSortedByKey key_of by_word_and_order row → AreInOrder row
in_order_from_sorted row sorted i j d lt jl =
    before (get_or row i d) (get_or row j d)
    (sorted_far (λ x y. is_lt (by_word_and_order (key_of x) (key_of y))) (ranks_by total_order key_of) row sorted i j d (omega arith) jl)

-- one write more, behind others
pub numbered_from-push : (row : List Numbered) (n : ℕ) (ws : List Write) (w : Write) (order : ℕ) → order ≡ n + length ws → {all : List Numbered} → all ≡ row ++ numbered_from n ws
    → all ++ record { at = w.at; order = order; value = w.value } ∷ [] ≡ row ++ numbered_from n (ws ++ w ∷ [])
numbered_from-push row n ws w order is {all} so_far =
    let last : List Numbered = record { at = w.at; order = order; value = w.value } ∷ [] in
    ap (λ l. l ++ last) so_far ∙ append_assoc row (numbered_from n ws) last
    ∙ ap (λ l. row ++ l) (ap (λ k. numbered_from n ws ++ numbered_from k (w ∷ [])) is ∙ sym (numbered_from-append n ws (w ∷ [])))

-- the writes of one record more, behind others
pub writes_more : (rs : List RedoBundle) (r : RedoBundle) → flat_map (λ (r : RedoBundle). r.writes) rs ++ r.writes ≡ flat_map (λ (r : RedoBundle). r.writes) (rs ++ r ∷ [])
writes_more rs r = ap (λ l. flat_map (λ (r : RedoBundle). r.writes) rs ++ l) (sym (append-nil r.writes)) ∙ sym (flat_map-append (λ (r : RedoBundle). r.writes) rs (r ∷ []))
