-- The cells of a packet as words, and what they decode to.
use Rattle.std.proofs.Common.{◌≡◌, ℕ, ◌+◌, ◌*◌, ◌<◌, ◌≤◌, All, List, length, length-take-le, take, get_or-take, slice_index, Option, Some, None, Result, Ok, Err, sym, ap, ◌∙◌, subst, arith}
use Rattle.std.specs.Prelude.{IfNone, IfOk, OnErr}
use Rattle.std.specs.Result.{result_ok}
use Rattle.std.proofs.lemmas.List.FromFn.{length-map-range_with_len}
use Rattle.dude_base.specs.declared.sizes.Sizes.{Sizes}
use Rattle.dude_base.specs.Records.{RedoBundle}
use Rattle.redo_record.specs.Record.{cells_for, count_of, record_of, write_of}
use Rattle.redo_record.specs.Encoding.{IsRecordSlice, word_in_slice}
use Rattle.redo_record.specs.Decoding.{IsBundleIn}
use Rattle.redo_record.proofs.HeldRecords.{AreSame, count_same, holds_same, record_same}
use Rattle.dude_follow.specs.Packet.{BeginsWith, BeginsWithNone, CountsCells, bytes_for, cells_in, word_in_bytes}

-- by what a call gave
pub if_none : {X P : Type 0} (o : Option X) → P → IfNone o P
if_none None holds = holds
if_none (Some x) holds = tt

pub err_holds : {X E P : Type 0} (result : Result X E) (o : Option X) → o ≡ result_ok result → o ≡ None → OnErr result P → P
err_holds (Ok x) o is none holds = absurd (let no : Some x ≡ None = sym is ∙ none in cc)
err_holds (Err e) o is none holds = holds

ok_holds : {X E : Type 0} (P : X → Type 0) (x : X) (result : Result X E) (o : Option X) → o ≡ result_ok result → o ≡ Some x → IfOk result P → P x
ok_holds P x (Ok y) o is some holds =
    let both : Some y ≡ Some x = sym is ∙ some in
    let same : y ≡ x = cc in
    subst P same holds
ok_holds P x (Err e) o is some holds = absurd (let no : ◌≡◌ {A = Option _} None (Some x) = sym is ∙ some in cc)

-- the head counts the bundle's writes
pub begins_counted : (s : Sizes) (bytes : List ℕ) (b : RedoBundle) → BeginsWith s bytes b → count_of (cells_in bytes) ≡ length b.writes
begins_counted s bytes b begins =
    let count = length-map-range_with_len (write_of (cells_in bytes)) 0 (count_of (cells_in bytes)) in
    sym count ∙ ap (λ (r : RedoBundle). length r.writes) (sym begins.bundle)

-- all bytes of the packet are there
pub begins_long : (s : Sizes) (bytes : List ℕ) (b : RedoBundle) → BeginsWith s bytes b → bytes_for (length b.writes) ≤ length bytes
begins_long s bytes b begins = subst (λ (n : ℕ). bytes_for n ≤ length bytes) (begins_counted s bytes b begins) begins.whole

module _ (s : Sizes) (bytes words : List ℕ) (cells : ℕ) (counts : CountsCells s bytes cells) (long : length words ≡ 256) (is : (i : ℕ) → i < 8 * cells → slice_index words i ≡ word_in_bytes bytes i) where
  abbrev pub slice : List ℕ
  slice = take (8 * cells) words

  few : cells ≤ 32
  few = let same = counts.cells_are in let few = counts.few in omega arith

  size : length slice ≡ 8 * cells
  size = let less = few in length-take-le (8 * cells) words (omega arith)

  word_same : (k j : ℕ) → k < cells → j < 8 → word_in_slice slice k j ≡ cells_in bytes k j
  word_same k j lt small = get_or-take (8 * cells) words (8 * k + j) 0 (omega arith) ∙ is (8 * k + j) (omega arith)

  same : AreSame (cells_in bytes) (word_in_slice slice) (cells_for (count_of (cells_in bytes)))
  same = record { word = λ k j lt small. word_same k j (subst (λ (n : ℕ). k < n) (sym counts.cells_are) lt) small }

  slice_cells : cells_for (count_of (word_in_slice slice)) ≡ cells
  slice_cells = ap cells_for (count_same same) ∙ sym counts.cells_are

  back : AreSame (word_in_slice slice) (cells_in bytes) (cells_for (count_of (word_in_slice slice)))
  back = record { word = λ k j lt small. sym (word_same k j (subst (λ (n : ℕ). k < n) slice_cells lt) small) }

  -- words that hold no record
  pub no_record : ¬ IsRecordSlice slice → BeginsWithNone s bytes
  no_record not b begins = not (record { whole = holds_same same begins.complete.whole; size = size ∙ ap (λ (n : ℕ). 8 * n) (sym slice_cells) })

  -- what a call decoded
  module _ (r : RedoBundle) {E : Type 0} (result : Result RedoBundle E) (o : Option RedoBundle) (value : o ≡ result_ok result) (some : o ≡ Some r) (ok : IfOk result (IsBundleIn slice)) where
    decoded : IsBundleIn slice r
    decoded = ok_holds (IsBundleIn slice) r result o value some ok

    bundle_is : r ≡ record_of (cells_in bytes)
    bundle_is = decoded.1 ∙ sym (record_same back)

    -- words that hold one of home words
    pub begins_with : All (λ w. w.at < s.pages * 64) r.writes → BeginsWith s bytes r
    begins_with home = record {
      complete = record {
        whole = holds_same back decoded.0.whole;
        room = subst (λ (n : ℕ). n ≤ s.cells) counts.cells_are counts.room;
        home = subst (λ (b : RedoBundle). All (λ w. w.at < s.pages * 64) b.writes) bundle_is home;
      };
      whole = subst (λ (n : ℕ). 64 * n ≤ length bytes) counts.cells_are counts.whole;
      bundle = bundle_is;
    }

    -- and one of others
    pub no_home : (All (λ w. w.at < s.pages * 64) r.writes → ⊥) → BeginsWithNone s bytes
    no_home not b begins = not (subst (λ (x : RedoBundle). All (λ w. w.at < s.pages * 64) x.writes) (sym bundle_is) begins.complete.home)
