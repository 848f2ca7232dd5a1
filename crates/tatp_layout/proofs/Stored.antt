-- What a record holds once words of it are written.
use Rattle.std.proofs.Common.{◌≡◌, ℕ, zero, suc, ◌+◌, ◌*◌, ◌/◌, ◌%◌, ◌<◌, ◌≤◌, List, [], ◌∷◌, length, length-set, All, slice_index, slice_set, sym, ap, subst, ◌∙◌, arith, get_or-set_other, get_or-set_same}
use Rattle.tatp_model.specs.declared.sub_row.SubRow.{SubRow}
use Rattle.tatp_model.specs.declared.fac_row.FacRow.{FacRow}
use Rattle.tatp_model.specs.declared.call_row.CallRow.{CallRow}
use Rattle.tatp_model.specs.Database.{IsSubRow, IsFacRow, call_key}
use Rattle.record_heap.specs.Pool.{IsRecord}
use Rattle.hash_table.specs.declared.table.Table.{Table}
use Rattle.hash_table.specs.Table.{FitsTable}
use Rattle.tatp_layout.specs.Digits.{from_digits}
use Rattle.tatp_layout.specs.Records.{HasWords, HoldsRow, subscriber_form, facility_form, call_form}

-- words stay where a word before them is written
words_behind : (a words : List ℕ) (at place value : ℕ) → place < at → HasWords a at words → HasWords (slice_set a place value) at words
words_behind a [] at place value before has = tt
words_behind a (word ∷ words) at place value before has =
    (get_or-set_other a place at value 0 (omega arith) ∙ has.0, words_behind a words (at + 1) place value (omega arith) has.1)

-- one of the words is written
pub words_set : (a words : List ℕ) (at k place value : ℕ) → place ≡ at + k → k < length words → place < length a → HasWords a at words → HasWords (slice_set a place value) at (slice_set words k value)
words_set a [] at k place value is under inside has = absurd (omega arith)
words_set a (word ∷ words) at zero place value is under inside has =
    let here : at ≡ place = omega arith in
    (ap (slice_index (slice_set a place value)) here ∙ get_or-set_same a place value 0 inside, words_behind a words (at + 1) place value (omega arith) has.1)
words_set a (word ∷ words) at (suc k) place value is under inside has =
    (get_or-set_other a place at value 0 (omega arith) ∙ has.0, words_set a words (at + 1) k place value (omega arith) (omega arith) inside has.1)

-- the location
pub vlr_set : {a : List ℕ} {at : ℕ} (vlr : ℕ) {r : SubRow} → at + 6 < length a → HoldsRow subscriber_form a at r → HoldsRow subscriber_form (slice_set a (at + 6) vlr) at (record r { vlr = vlr })
vlr_set {a} {at} vlr {r} inside held = record {
  key = get_or-set_other a (at + 6) at vlr 0 (omega arith) ∙ held.key;
  words = words_set a (subscriber_form.words r) (at + 2) 4 (at + 6) vlr (omega arith) (omega arith) inside held.words;
  lengths = held.lengths;
}

first_bit : (bits : List ℕ) (bit high : ℕ) → 0 < length bits → All (λ b. b ≤ 1) bits → (from_digits 2 bits + 1024 * high) / 2 * 2 + bit ≡ from_digits 2 (slice_set bits 0 bit) + 1024 * high
first_bit [] bit high some below = absurd (omega arith)
first_bit (b ∷ bits) bit high some below = omega (arith, below 0 0 (omega arith))

-- the first bit
pub bit_set : {a : List ℕ} {at : ℕ} (word bit : ℕ) {r : SubRow} → at + 2 < length a → word ≡ slice_index a (at + 2) → IsSubRow r → HoldsRow subscriber_form a at r
    → HoldsRow subscriber_form (slice_set a (at + 2) (word / 2 * 2 + bit)) at (record r { bits = slice_set r.bits 0 bit })
bit_set {a} {at} word bit {r} inside read range held =
    let value : word / 2 * 2 + bit ≡ from_digits 2 (slice_set r.bits 0 bit) + 1024 * from_digits 16 r.hexes =
    ap (λ w. w / 2 * 2 + bit) (read ∙ held.words.0) ∙ first_bit r.bits bit (from_digits 16 r.hexes) (omega (arith, held.lengths.0)) range.bits in
    subst (λ v. HoldsRow subscriber_form (slice_set a (at + 2) v) at (record r { bits = slice_set r.bits 0 bit })) (sym value) (record {
      key = get_or-set_other a (at + 2) at _ 0 (omega arith) ∙ held.key;
      words = words_set a (subscriber_form.words r) (at + 2) 0 (at + 2) (from_digits 2 (slice_set r.bits 0 bit) + 1024 * from_digits 16 r.hexes) (omega arith) (omega arith) inside held.words;
      lengths = (length-set r.bits 0 bit ∙ held.lengths.0, held.lengths.1, held.lengths.2);
    })

-- the third byte
pub data_a_set : {a : List ℕ} {at : ℕ} (word value : ℕ) {r : FacRow} → at + 2 < length a → word ≡ slice_index a (at + 2) → value < 256 → IsFacRow r → HoldsRow facility_form a at r
    → HoldsRow facility_form (slice_set a (at + 2) (word / 16777216 * 16777216 + value * 65536 + word % 65536)) at (record r { data_a = value })
data_a_set {a} {at} word value {r} inside read small range held =
    let is : word / 16777216 * 16777216 + value * 65536 + word % 65536 ≡ from_digits 256 (r.is_active ∷ r.error_cntrl ∷ value ∷ []) =
    omega (arith, read, held.words.0, range.is_active, range.error_cntrl, range.data_a) in
    subst (λ v. HoldsRow facility_form (slice_set a (at + 2) v) at (record r { data_a = value })) (sym is) (record {
      key = get_or-set_other a (at + 2) at _ 0 (omega arith) ∙ held.key;
      words = words_set a (facility_form.words r) (at + 2) 0 (at + 2) (from_digits 256 (r.is_active ∷ r.error_cntrl ∷ value ∷ [])) (omega arith) (omega arith) inside held.words;
      lengths = held.lengths;
    })

-- the fields of a call row
pub call_set : (a : List ℕ) (at : ℕ) {r : CallRow} → at + 3 < length a → slice_index a at ≡ call_key r → HoldsRow call_form (slice_set (slice_set a (at + 2) r.end_time) (at + 3) r.numberx) at r
call_set a at {r} inside key =
    let b = slice_set a (at + 2) r.end_time in
    let next : at + 2 + 1 ≡ at + 3 = omega arith in
    record {
      key = get_or-set_other b (at + 3) at r.numberx 0 (omega arith) ∙ get_or-set_other a (at + 2) at r.end_time 0 (omega arith) ∙ key;
      words = (
        get_or-set_other b (at + 3) (at + 2) r.numberx 0 (omega arith) ∙ get_or-set_same a (at + 2) r.end_time 0 (omega arith),
        (ap (slice_index (slice_set b (at + 3) r.numberx)) next ∙ get_or-set_same b (at + 3) r.numberx 0 (omega (arith, length-set a (at + 2) r.end_time)), tt),
      );
      lengths = tt;
    }

-- a word of a record lies inside, in an array that is as long as the home
pub word_fits : {t u : Table} {n at : ℕ} (array : List ℕ) (k : ℕ) → k < u.pool.size → t ≡ u → FitsTable t n → IsRecord u.pool at → length array ≡ n → at + k < length array
word_fits {t} {u} {n} {at} array k under is fits there long =
    let fits_other : FitsTable u n = subst (λ (x : Table). FitsTable x n) is fits in
    omega (arith, fits_other.pool.inside at there, long, under)
