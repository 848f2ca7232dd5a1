-- The records that a reader of `csv` has left, one read after another.
use Rattle.std.proofs.Common.{ℕ, zero, suc, ◌≡◌, ◌+◌, ◌≤◌, ◌⊎◌, inl, inr, ◌∙◌, Bool, true, false, List, [], ◌∷◌, ◌++◌, length, Option, Some, None, refl, sym, ap, arith}
use Rattle.std.proofs.lemmas.Bool.{cases_Bool}
use Rattle.csv.specs.Machine.{Read, next_record, step, is_end, ends_at_end, fields_after, field_after}
use Rattle.std.specs.Borrow.{Bor}
use Rattle.csv.specs.Reading.{Reached, ReadRecord, default_config, records, records_from, records_next}
use Rattle.tatp_csv.specs.Rows.{bytes_left, rows_left, TakesFirst}
use Rattle.csv.specs.declared.parser.Config.{Config}
use Rattle.csv.specs.declared.parser.State.{State}
use Rattle.csv.specs.declared.parser.State.TheVariants as st
use Rattle.csv.specs.declared.reader.Reader.{Reader}
use Rattle.csv.proofs.ReadFacts.{rows-end, rows-more}

-- the records of a text from a state
abbrev records_left : Config → State → List ℕ → List (List (List ℕ))
records_left cfg s xs = records_from cfg (length xs + 1) s xs

-- a record takes at least a byte, or it ends the text
abbrev Shrinks : List ℕ → Read → Type 0
Shrinks xs p = (length p.2 + 1 ≤ length xs) ⊎ ((p.1 ≡ st.StartRecord) × (p.2 ≡ []))

shrinks-by : (xs : List ℕ) (p q : Read) → Shrinks xs q → ◌≡◌ {A = Option Read} (Some q) (Some p) → Shrinks xs p
shrinks-by xs p q h e = let same : q ≡ p = cc in rw (← same) h

shrinks-more : (c : ℕ) (xs : List ℕ) (p : Read) → Shrinks xs p → Shrinks (c ∷ xs) p
shrinks-more c xs p (inl h) = inl (omega arith)
shrinks-more c xs p (inr h) = inr h

next_record-shrinks : (cfg : Config) (s : State) (fields : List (List ℕ)) (field xs : List ℕ) (p : Read) → next_record cfg s fields field xs ≡ Some p → Shrinks xs p
unfolding next_record
next_record-shrinks cfg s fields field [] p e = elim (cases_Bool (ends_at_end s)) [
  | inl ends ↦ shrinks-by [] p (fields ++ (field ∷ []), st.StartRecord, []) (inr (refl, refl)) (rw ends at e)
  | inr goes ↦ let none : ◌≡◌ {A = Option Read} None (Some p) = rw goes at e in cc none
]
next_record-shrinks cfg s fields field (c ∷ rest) p e = elim (cases_Bool (is_end (step cfg s c).1)) [
  | inl ends ↦ shrinks-by (c ∷ rest) p (fields_after (step cfg s c).1 fields field, (step cfg s c).0, rest) (inl (omega arith)) (rw ends at e)
  | inr goes ↦
      shrinks-more c rest p (next_record-shrinks cfg (step cfg s c).0 (fields_after (step cfg s c).1 fields field) (field_after (step cfg s c).1 c field) rest p (rw goes at e))
]

-- no record at the end of a text
none-left : (cfg : Config) (n : ℕ) (s : State) (xs : List ℕ) → s ≡ st.StartRecord → xs ≡ [] → records_from cfg n s xs ≡ []
unfolding records_from next_record
none-left cfg zero s xs a b = refl
none-left cfg (suc n) s xs a b = rw (a, b) refl

-- any count of turns that is more than the bytes gives every record
same-turns : (cfg : Config) (n m : ℕ) (s : State) (xs : List ℕ) → length xs + 1 ≤ n → length xs + 1 ≤ m → records_from cfg n s xs ≡ records_from cfg m s xs
unfolding records_from
same-turns cfg zero m s xs a b = absurd (omega arith)
same-turns cfg (suc n) zero s xs a b = absurd (omega arith)
same-turns cfg (suc n) (suc m) s xs a b =
    by (next_record cfg s [] [] xs) refl (λ p h. same-turns cfg n m p.1 p.2 (omega arith) (omega arith))
  where
    then : (p : Read) → Shrinks xs p → (length p.2 + 1 ≤ length xs → records_from cfg n p.1 p.2 ≡ records_from cfg m p.1 p.2) → records_from cfg n p.1 p.2 ≡ records_from cfg m p.1 p.2
    then p (inl h) more = more h
    then p (inr h) more = none-left cfg n p.1 p.2 h.0 h.1 ∙ sym (none-left cfg m p.1 p.2 h.0 h.1)

    by : (o : Option Read) → next_record cfg s [] [] xs ≡ o → ((p : Read) → length p.2 + 1 ≤ length xs → records_from cfg n p.1 p.2 ≡ records_from cfg m p.1 p.2) → records_next (records_from cfg n) o ≡ records_next (records_from cfg m) o
    by None e more = refl
    by (Some p) e more =
        ap (λ (rest : List (List (List ℕ))). p.0 ∷ rest) (then p (next_record-shrinks cfg s [] [] xs p e) (more p))

-- the records left, by the next one
left-by : (cfg : Config) (s : State) (xs : List ℕ) (o : Option Read) → next_record cfg s [] [] xs ≡ o → records_left cfg s xs ≡ records_next (records_left cfg) o
unfolding records_from
left-by cfg s xs None e = same-turns cfg (length xs + 1) (suc (length xs)) s xs (omega arith) (omega arith) ∙ rw e refl
left-by cfg s xs (Some p) e =
    same-turns cfg (length xs + 1) (suc (length xs)) s xs (omega arith) (omega arith)
    ∙ rw e (ap (λ (rest : List (List (List ℕ))). p.0 ∷ rest) (then (next_record-shrinks cfg s [] [] xs p e)))
  where
    then : Shrinks xs p → records_from cfg (length xs) p.1 p.2 ≡ records_left cfg p.1 p.2
    then (inl h) = same-turns cfg (length xs) (length p.2 + 1) p.1 p.2 (omega arith) (omega arith)
    then (inr h) = none-left cfg (length xs) p.1 p.2 h.0 h.1 ∙ sym (none-left cfg (length p.2 + 1) p.1 p.2 h.0 h.1)

-- the records of a text, by its first one
pub records-first : (fields : List (List ℕ)) (xs rest : List ℕ) → next_record default_config st.StartRecord [] [] xs ≡ Some (fields, st.StartRecord, rest) → records default_config xs ≡ fields ∷ records default_config rest
records-first fields xs rest next = left-by default_config st.StartRecord xs (Some (fields, st.StartRecord, rest)) next

pub records-none : records default_config [] ≡ []
records-none = none-left default_config 1 st.StartRecord [] refl refl

next-left : (cfg : Config) (p : Read) (fields : List (List ℕ)) (s : State) (ys : List ℕ) → fields ≡ p.0 → p.1 ≡ s → p.2 ≡ ys → p.0 ∷ records_left cfg p.1 p.2 ≡ fields ∷ records_left cfg s ys
next-left cfg p fields s ys a b c = rw (a, ← b, ← c) refl

-- a read takes the first of the rows left, where there is one
pub takes : (a b : Reader (Bor (List ℕ))) (found : Bool) (row : List (List ℕ)) (xs : List ℕ)
    → a.config ≡ default_config → bytes_left a ≡ Some xs → ReadRecord (λ (text : Bor (List ℕ)). Some text.now) a b found row
    → TakesFirst (rows_left a) found row (rows_left b)
unfolding Reached
takes a b true row xs config source read =
    let m = rows-more (λ (text : Bor (List ℕ)). Some text.now) a b row default_config a.state xs xs [] config source (refl, refl) read in
    let r = m.2 in
    rw (source, m.1) (left-by default_config a.state xs (Some r.0) r.1 ∙ next-left default_config r.0 row b.state m.0 r.2 r.3.0 r.3.1)
takes a b false row xs config source read =
    rw source (left-by default_config a.state xs None (rows-end (λ (text : Bor (List ℕ)). Some text.now) a b row default_config xs config source read))
