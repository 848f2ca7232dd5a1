-- The loops of the writes: one turn more.
use Rattle.std.proofs.Common.{◌≡◌, ℕ, ◌+◌, ◌*◌, ◌-◌, ◌/◌, ◌<◌, ◌≤◌, Bool, true, List, [], ◌∷◌, ◌++◌, length, get_or, take, sym, ◌∙◌, ap, append_assoc, arith, subst}
use Rattle.std.proofs.lemmas.List.FromFn.{get_or-range_with_len, length-range_with_len, get_or-enumerate_from, length-enumerate_from}
use Rattle.std.specs.Prelude.{slice_index}
use Rattle.std.specs.List.{enumerate_from}
use Rattle.dude_base.specs.declared.sizes.Sizes.{Sizes}
use Rattle.dude_base.specs.Image.{home_word, image_words}
use Rattle.pmem_trait.specs.declared.call.Call.{Call}
use Rattle.pmem_trait.specs.declared.call.Call.TheVariants.{Put, Flush, Fence}
use Rattle.pmem_trait.specs.Sights.{Sight, OneCall, CallsMade}
use Rattle.pmem_trait.specs.Groups.{put_pairs, flush_lines, group_calls}
use Rattle.pmem_trait.proofs.GroupLists.{length-put_pairs, length-flush_lines, put_pairs-append, puts_next, flushes_next}
use Rattle.pmem_trait.proofs.Runs.{making}
use Rattle.dude_recover.specs.FormatCalls.{empty_cells, content_writes, content_lines}
use Rattle.dude_recover.proofs.Writes.{length-empty_cells, empty_value, enumerate_from-append}

-- the put of the value with this index, at the word that it belongs to
pub put_turn : (from : ℕ) (values : List ℕ) (i at value : ℕ) {ok : Bool} {s t u : Sight} → i < length values → at ≡ from + i → value ≡ slice_index values i
    → CallsMade (take i (put_pairs (enumerate_from from values))) true s t → OneCall (Put at value) ok t u
    → CallsMade (take (i + 1) (put_pairs (enumerate_from from values))) ok s u
put_turn from values i at value below at_is value_is made goes =
    puts_next (enumerate_from from values) i (0, 0) (at, value) (omega (arith, length-enumerate_from from values))
    (get_or-enumerate_from from values i (0, 0) below ∙ pair (sym at_is) (sym value_is)) made goes
  where
    pair : {a b c d : ℕ} → a ≡ c → b ≡ d → ◌≡◌ {A = ℕ × ℕ} (a, b) (c, d)
    pair p q = cc

-- the put of 0 in a word of a cell
pub clear_turn : (s : Sizes) (word : ℕ) {ok : Bool} {a b c : Sight} → 16 ≤ word → word < 16 + s.rings * s.cells * 8
    → CallsMade (take (word - 16) (put_pairs (enumerate_from 16 (empty_cells s)))) true a b → OneCall (Put word 0) ok b c
    → CallsMade (take (word + 1 - 16) (put_pairs (enumerate_from 16 (empty_cells s)))) ok a c
clear_turn s word {ok} {a} {b} {c} low below made goes =
    let P : ℕ → Type 0 = λ n. CallsMade (take n (put_pairs (enumerate_from 16 (empty_cells s)))) ok a c in
    subst P (omega arith) (put_turn 16 (empty_cells s) (word - 16) word 0 (omega (arith, length-empty_cells s)) (omega arith) (sym (empty_value s (word - 16))) made goes)

pub length-puts : (from : ℕ) (values : List ℕ) → length (put_pairs (enumerate_from from values)) ≡ length values
length-puts from values = length-put_pairs (enumerate_from from values) ∙ length-enumerate_from from values

-- the flush of a line
pub flush_turn : (s : Sizes) (line : ℕ) {ok : Bool} {a b c : Sight} → 1 ≤ line → line < image_words s / 8
    → CallsMade (take (line - 1) (flush_lines (content_lines s))) true a b → OneCall (Flush line) ok b c → CallsMade (take (line + 1 - 1) (flush_lines (content_lines s))) ok a c
flush_turn s line {ok} {a} {b} {c} low below made goes =
    let P : ℕ → Type 0 = λ n. CallsMade (take n (flush_lines (content_lines s))) ok a c in
    let same : get_or (content_lines s) (line - 1) 0 ≡ line = get_or-range_with_len 1 (image_words s / 8 - 1) (line - 1) 0 (omega arith) ∙ omega arith in
    subst P (omega arith) (flushes_next (content_lines s) (line - 1) 0 line (omega (arith, length-range_with_len 1 (image_words s / 8 - 1))) same made goes)

pub length-flushes : (s : Sizes) → length (flush_lines (content_lines s)) ≡ image_words s / 8 - 1
length-flushes s = length-flush_lines (content_lines s) ∙ length-range_with_len 1 (image_words s / 8 - 1)

-- the calls that settle the contents: cells and home are put by one loop each
pub contents_made : (s : Sizes) (home : List ℕ) {ok : Bool} {a b : Sight}
    → CallsMade (Put 8 0 ∷ (put_pairs (enumerate_from 16 (empty_cells s)) ++ (put_pairs (enumerate_from (home_word s 0) home) ++ (flush_lines (content_lines s) ++ Fence ∷ [])))) ok a b
    → CallsMade (group_calls (content_writes s home) (content_lines s)) ok a b
unfolding group_calls
contents_made s home {ok} {a} {b} made = subst (λ (cs : List Call). CallsMade cs ok a b) (ap (λ (cs : List Call). Put 8 0 ∷ cs) same) made
  where
    cells : List Call
    cells = put_pairs (enumerate_from 16 (empty_cells s))

    words : List Call
    words = put_pairs (enumerate_from (home_word s 0) home)

    end : List Call
    end = flush_lines (content_lines s) ++ Fence ∷ []

    same : cells ++ (words ++ end) ≡ put_pairs (enumerate_from 16 (empty_cells s ++ home)) ++ end
    same =
        sym (append_assoc cells words end)
        ∙ ap (λ (cs : List Call). cs ++ end)
        (sym (ap put_pairs (enumerate_from-append 16 (home_word s 0) (empty_cells s) home (omega (arith, length-empty_cells s)))
        ∙ put_pairs-append (enumerate_from 16 (empty_cells s)) (enumerate_from (home_word s 0) home)))

pub ruleset filling = (making, contents_made)
