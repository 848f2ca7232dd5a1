-- The words of pages in frames are copied, one page after another.
use Rattle.std.proofs.Common.{◌≡◌, ◌≢◌, ℕ, zero, suc, ◌+◌, ◌-◌, ◌*◌, ◌/◌, ◌%◌, ◌<◌, ◌≤◌, List, [], ◌∷◌, length, get_or, set, refl, sym, ap, ◌∙◌, subst, inl, inr, length-set, get_or-set_same, get_or-set_other, arith}
use Rattle.std.proofs.lemmas.Bool.{cases_eq, cases_lt}
use mathlib.Core.Option.{some, some-injective}
use lib.ListN.{get_elem?}
use Rattle.dude_base.specs.declared.limits.TheConstants.{PAGE}
use Rattle.core_events.specs.Setups.{ENTRY, cell_of, frame_in, page_of}
use Rattle.tiny_stm.specs.Collected.{AreCopied, HasPlaces, IsPageCopied, entry_at, shown_at}

pub read_at : (l : List ℕ) (i n : ℕ) → get_elem? l i ≡ some n → get_or l i 0 ≡ n
read_at [] i n e = absurd cc
read_at (x ∷ xs) zero n e = some-injective x n e
read_at (x ∷ xs) (suc i) n e = read_at xs i n e

-- ---- one word of a page after another
module _ (table : List ℕ) (cells first : ℕ) (old : List ℕ) where
  pub none_of_page : IsPageCopied table cells first 0 old old
  none_of_page = record { size = refl; copied = λ k lt. absurd (omega (arith, lt)); before = λ i lt. refl; behind = λ i le. refl }

  pub one_of_page : (k word : ℕ) (now : List ℕ) → IsPageCopied table cells first k old now → first + k < length old → get_elem? table (cells + k) ≡ some word → IsPageCopied table cells first (k + 1) old (set now (first + k) word)
  one_of_page k word now c inside is =
      let at = first + k in
      let there : at < length now = omega (arith, c.size, inside) in record {
        size = length-set now at word ∙ c.size;
        copied = λ j lt. elim (cases_eq j k) [
          | inl same ↦ subst (λ (x : ℕ). get_or (set now at word) (first + x) 0 ≡ get_or table (cells + x) 0) (sym same) (get_or-set_same now at word 0 there ∙ sym (read_at table (cells + k) word is))
          | inr other ↦ get_or-set_other now at (first + j) word 0 (λ e. other (omega (arith, e))) ∙ c.copied j (lesser j k lt other)
        ];
        before = λ i lt. get_or-set_other now at i word 0 (λ e. absurd (omega (arith, e, lt))) ∙ c.before i lt;
        behind = λ i le. get_or-set_other now at i word 0 (λ e. absurd (omega (arith, e, le))) ∙ c.behind i (omega (arith, le));
      }
    where
      lesser : (j k : ℕ) → j < k + 1 → j ≢ k → j < k
      lesser j k lt other = elim (cases_lt j k) [ inl less ↦ less | inr le ↦ absurd (other (omega (arith, lt, le))) ]

-- ---- one page after another
module _ (table : List ℕ) (entries cells : ℕ) (old : List ℕ) where
  pub none_copied : AreCopied table entries cells old 0 old
  none_copied = record { size = refl; shown = λ i lt. absurd (omega (arith, lt)); absent = λ i lt. absurd (omega (arith, lt)); later = λ i low lt. refl }

  module _ (page entry : ℕ) (found : get_elem? table (entries + page) ≡ some entry) where
    -- the entry of a word of the page
    entry_here : (i : ℕ) → page * PAGE ≤ i → i < (page + 1) * PAGE → entry_at table entries i ≡ entry
    entry_here i low high = ap (λ (p : ℕ). get_or table (entries + p) 0) (page_is i low high) ∙ read_at table (entries + page) entry found
      where
        page_is : (i : ℕ) → page * PAGE ≤ i → i < (page + 1) * PAGE → page_of i ≡ page
        page_is i low high = omega (arith, low, high)

    pub page_absent : (now : List ℕ) → AreCopied table entries cells old (page * PAGE) now → entry ≡ 0 → AreCopied table entries cells old ((page + 1) * PAGE) now
    page_absent now c none = record {
      size = c.size;
      shown = λ i below inside pos. elim (cases_lt i (page * PAGE)) [
        | inl lt ↦ c.shown i lt inside pos
        | inr le ↦ absurd (omega (arith, entry_here i le below, none, pos))
      ];
      absent = λ i below inside out. elim (cases_lt i (page * PAGE)) [
        | inl lt ↦ c.absent i lt inside out
        | inr le ↦ c.later i le inside
      ];
      later = λ i low inside. c.later i (omega (arith, low)) inside;
    }

    pub page_shown : (frame : ℕ) (now new : List ℕ) → AreCopied table entries cells old (page * PAGE) now → entry ≢ 0 → frame ≡ entry / ENTRY - 1 → IsPageCopied table (cells + frame * PAGE) (page * PAGE) PAGE now new → AreCopied table entries cells old ((page + 1) * PAGE) new
    page_shown frame now new c some_entry is copied = record {
      size = copied.size ∙ c.size;
      shown = λ i below inside pos. elim (cases_lt i (page * PAGE)) [
        | inl lt ↦ copied.before i lt ∙ c.shown i lt inside pos
        | inr le ↦ here i le below
      ];
      absent = λ i below inside out. elim (cases_lt i (page * PAGE)) [
        | inl lt ↦ copied.before i lt ∙ c.absent i lt inside out
        | inr le ↦ absurd (some_entry (sym (entry_here i le below) ∙ out))
      ];
      later = λ i low inside. copied.behind i (omega (arith, low)) ∙ c.later i (omega (arith, low)) inside;
    }
      where
        here : (i : ℕ) → page * PAGE ≤ i → i < (page + 1) * PAGE → get_or new i 0 ≡ get_or table (shown_at table entries cells i) 0
        here i low high =
            let k = i - page * PAGE in
            let i_is : page * PAGE + k ≡ i = omega (arith, low) in
            let k_is : i % PAGE ≡ k = omega (arith, low, high) in
            let place : shown_at table entries cells i ≡ cells + (frame * PAGE + i % PAGE) = ap (λ (e : ℕ). cells + cell_of (frame_in e) i) (entry_here i low high) ∙ ap (λ (f : ℕ). cells + (f * PAGE + i % PAGE)) (sym is) in
            ap (λ (j : ℕ). get_or new j 0) (sym i_is) ∙ copied.copied k (omega (arith, low, high)) ∙ ap (λ (j : ℕ). get_or table j 0) (omega (arith, place, k_is))

    -- the frame of a page in one lies in the table
    pub frame_inside : (frame : ℕ) → HasPlaces table entries cells (length old) → (page + 1) * PAGE ≤ length old → entry ≢ 0 → frame ≡ entry / ENTRY - 1 → cells + frame * PAGE + PAGE ≤ length table
    frame_inside frame places whole some_entry is =
        let last = page * PAGE + (PAGE - 1) in
        let here = entry_here last (omega arith) (omega arith) in
        let inside = (places last (omega (arith, whole))).cell (positive (entry_at table entries last) (λ none. some_entry (sym here ∙ none))) in
        let place : shown_at table entries cells last ≡ cells + (frame * PAGE + last % PAGE) = ap (λ (e : ℕ). cells + cell_of (frame_in e) last) here ∙ ap (λ (f : ℕ). cells + (f * PAGE + last % PAGE)) (sym is) in
        omega (arith, inside, place)
      where
        positive : (n : ℕ) → n ≢ 0 → 0 < n
        positive n some_n = elim (cases_lt 0 n) [ inl lt ↦ lt | inr le ↦ absurd (some_n (omega (arith, le))) ]
