-- Lists of packets that lead from one number to another.
use Rattle.std.proofs.Common.{◌≡◌, ◌⊎◌, inl, inr, ℕ, ◌<◌, ◌≤◌, List, [], ◌∷◌, ◌++◌, refl, sym, ap, ◌∙◌, subst, arith, All, ⊎_elim, zero, suc, nat_lt, true, false, get_or}
use Rattle.std.specs.List.{Contains, filter}
use Rattle.std.proofs.lemmas.Bool.{cases_Bool, lt-ltb, ltb-true}
use Rattle.std.proofs.lemmas.List.Elements.{All-head, All-tail, All-contains, All-filter, All-contains_itself, filter_passes, Contains-get_or}
use Rattle.dude_base.specs.Records.{RedoBundle, first_of}
use Rattle.redo_record.specs.Recovery.{AreConsecutive}
use Rattle.redo_record.proofs.WaitingRecords.{consecutive_up}
use Rattle.dude_follow.specs.Packets.{Share}

-- one of a list with a head is the head or one of the others
pub contains_cases : {X : Type 0} (y : X) (ys : List X) (x : X) → Contains (y ∷ ys) x → (y ≡ x) ⊎ Contains ys x
contains_cases y ys x (zero, lt, is) = inl is
contains_cases y ys x (suc k, lt, is) = inr (k, omega (arith, lt), is)

pub contains_later : {X : Type 0} (y : X) (ys : List X) (x : X) → Contains ys x → Contains (y ∷ ys) x
contains_later y ys x is = let lt = is.1 in (suc is.0, omega (arith, lt), is.2)

pub contains_first : {X : Type 0} (y : X) (ys : List X) → Contains (y ∷ ys) y
contains_first y ys = (zero, omega arith, refl)

-- each begins over the front's number, and ends at most at the end
pub begins_over : (from to : ℕ) (bs : List RedoBundle) (c : RedoBundle) → AreConsecutive from bs to → Contains bs c → from < first_of c
begins_over from to [] c is (k, lt, e) = absurd (omega (arith, lt))
begins_over from to (b ∷ bs) c is has = ⊎_elim
    (λ (same : b ≡ c). subst (λ (x : RedoBundle). from < first_of x) same (let first = is.0 in omega (arith, first)))
    (λ (later : Contains bs c). let over = begins_over b.last to bs c is.1 later in let first = is.0 in omega (arith, over, first))
    (contains_cases b bs c has)

pub ends_within : (from to : ℕ) (bs : List RedoBundle) (c : RedoBundle) → AreConsecutive from bs to → Contains bs c → c.last ≤ to
ends_within from to [] c is (k, lt, e) = absurd (omega (arith, lt))
ends_within from to (b ∷ bs) c is has = ⊎_elim
    (λ (same : b ≡ c). subst (λ (x : RedoBundle). x.last ≤ to) same (consecutive_up b.last to bs is.1))
    (λ (later : Contains bs c). ends_within b.last to bs c is.1 later)
    (contains_cases b bs c has)

-- two that cover one number are one
pub one_packet : (from to : ℕ) (bs : List RedoBundle) (b c : RedoBundle) → AreConsecutive from bs to → Contains bs b → Contains bs c → Share b c → b ≡ c
one_packet from to [] b c is (k, lt, e) other both = absurd (omega (arith, lt))
one_packet from to (x ∷ xs) b c is one other both = by (λ p q. one_packet x.last to xs b c is.1 p q both) (contains_cases x xs b one) (contains_cases x xs c other)
  where
    by : (Contains xs b → Contains xs c → b ≡ c) → (x ≡ b) ⊎ Contains xs b → (x ≡ c) ⊎ Contains xs c → b ≡ c
    by further (inl p) (inl q) = sym p ∙ q
    by further (inl p) (inr q) = absurd (
        let over = begins_over x.last to xs c is.1 q in
        let high = both.one.high in let low = both.other.low in
        let same = ap (λ (r : RedoBundle). r.last) p in omega (arith, over, high, low, same))
    by further (inr p) (inl q) = absurd (
        let over = begins_over x.last to xs b is.1 p in
        let high = both.other.high in let low = both.one.low in
        let same = ap (λ (r : RedoBundle). r.last) q in omega (arith, over, high, low, same))
    by further (inr p) (inr q) = further p q

-- two that begin at one number are one
pub same_first : (from to : ℕ) (bs : List RedoBundle) (b c : RedoBundle) → AreConsecutive from bs to → Contains bs b → Contains bs c → first_of b ≡ first_of c → b ≡ c
same_first from to bs b c is one other same =
    let over = begins_over from to bs b is one in
    one_packet from to bs b c is one other
    (record { number = first_of b; one = record { low = omega arith; high = omega (arith, over) }; other = record { low = omega (arith, same); high = omega (arith, same, over) } })

-- A list that leads on goes through another.
pub record Goes (records rest : List RedoBundle) (to last : ℕ) : Type 0 where
  pub behind : List RedoBundle
  pub whole : rest ≡ records ++ behind
  pub consecutive : AreConsecutive to behind last

pub goes_through : (from to last : ℕ) (records rest : List RedoBundle) → AreConsecutive from records to → AreConsecutive from rest last → All (Contains rest) records → Goes records rest to last
goes_through from to last [] rest is on all = record { behind = rest; whole = refl; consecutive = subst (λ (n : ℕ). AreConsecutive n rest last) is on }
goes_through from to last (b ∷ bs) [] is on all =
    let none = All-head (Contains []) b bs all in absurd (let lt = none.1 in omega (arith, lt))
goes_through from to last (b ∷ bs) (r ∷ rs) is on all =
    let same : b ≡ r = same_first from last (r ∷ rs) b r on (All-head (Contains (r ∷ rs)) b bs all) (contains_first r rs) (is.0 ∙ sym on.0) in
    let next : AreConsecutive b.last rs last = subst (λ (u : RedoBundle). AreConsecutive u.last rs last) (sym same) on.1 in
    let others : All (Contains rs) bs = λ k d lt.
    let c = get_or bs k d in
    let over = begins_over b.last to bs c is.1 (Contains-get_or bs k d lt) in
    ⊎_elim
    (λ (e : r ≡ c). absurd (let high = ap (λ (u : RedoBundle). u.last) (same ∙ e) in omega (arith, over, high)))
    (λ (later : Contains rs c). later)
    (contains_cases r rs c (All-tail (Contains (r ∷ rs)) b bs all k d lt)) in
    let further = goes_through b.last to last bs rs is.1 next others in
    record {
      behind = further.behind;
      whole = ap (λ (u : RedoBundle). u ∷ rs) (sym same) ∙ ap (λ (us : List RedoBundle). b ∷ us) further.whole;
      consecutive = further.consecutive;
    }

pub consecutive_append : (from mid to : ℕ) (xs ys : List RedoBundle) → AreConsecutive from xs mid → AreConsecutive mid ys to → AreConsecutive from (xs ++ ys) to
consecutive_append from mid to [] ys is on = subst (λ (n : ℕ). AreConsecutive n ys to) (sym is) on
consecutive_append from mid to (x ∷ xs) ys is on = (is.0, consecutive_append x.last mid to xs ys is.1 on)

-- Those over a number are kept by a filter.
pub contains_filter : (number : ℕ) (c : RedoBundle) (bs : List RedoBundle) → Contains bs c → number < c.last → Contains (filter (λ b. nat_lt number b.last) bs) c
contains_filter number c [] (k, lt, is) over = absurd (omega (arith, lt))
contains_filter number c (b ∷ bs) (zero, lt, is) over =
    let first : b ≡ c = is in
    rw (lt-ltb number b.last (let same : b.last ≡ c.last = ap (λ (x : RedoBundle). x.last) first in omega (arith, same, over))) (0, omega arith, first)
contains_filter number c (b ∷ bs) (suc k, lt, is) over = ⊎_elim
    (λ (kept : nat_lt number b.last ≡ true). rw kept (contains_later b (filter (λ b. nat_lt number b.last) bs) c (contains_filter number c bs (k, omega (arith, lt), is) over)))
    (λ (gone : nat_lt number b.last ≡ false). rw gone (contains_filter number c bs (k, omega (arith, lt), is) over))
    (cases_Bool (nat_lt number b.last))

pub filter_kept : (number : ℕ) (bs : List RedoBundle) (c : RedoBundle) → Contains (filter (λ b. nat_lt number b.last) bs) c → Contains bs c × (number < c.last)
filter_kept number bs c is = (
  All-contains (Contains bs) (filter (λ b. nat_lt number b.last) bs) c (All-filter (λ b. nat_lt number b.last) (Contains bs) bs (All-contains_itself bs)) is,
  ltb-true number c.last (All-contains (λ (b : RedoBundle). nat_lt number b.last ≡ true) (filter (λ b. nat_lt number b.last) bs) c (filter_passes (λ b. nat_lt number b.last) bs) is),
)
