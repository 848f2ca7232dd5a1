-- The calls of a group of writes, one by one, and of a list behind another.
use Rattle.std.proofs.Common.{◌≡◌, ℕ, zero, suc, ◌+◌, ◌-◌, ◌*◌, ◌<◌, ◌≤◌, List, [], ◌∷◌, ◌++◌, drop, length, get_or, Option, Some, refl, ap, ◌∙◌, arith, length-append}
use Rattle.std.specs.Prelude.{slice_get}
use Rattle.std.proofs.lemmas.List.{get_or-map, length-drop, length-map, length-take}
use Rattle.std.proofs.lemmas.Option.{get_or_from_slice_get, slice_get-get_or}
use Rattle.dude_base.specs.declared.sizes.Sizes.{Sizes}
use Rattle.dude_base.specs.declared.write.Write.{Write}
use Rattle.dude_base.specs.Image.{home_word}
use Rattle.pmem_trait.specs.declared.call.Call.{Call}
use Rattle.pmem_trait.specs.declared.call.Call.TheVariants.{Put, Flush, Fence}
use Rattle.pmem_trait.specs.Groups.{flush_lines, group_calls, put_pairs}
use Rattle.redo_record.specs.declared.append_calls.AppendCalls.{AppendCalls}
use Rattle.redo_record.specs.BackCalls.{home_writes, lines_touched, mark_writes, reproduce_calls}
use Rattle.redo_record.specs.CallLists.{append_list, body_lines_of, body_of, tag_line_of, tag_of}
use Rattle.pmem_trait.proofs.GroupLists.{flush_lines_at, length-flush_lines, length-put_pairs, put_pairs_at}

-- an element of the first list, and of the second one
pub slice_get_front : {X : Type 0} (xs ys : List X) (k : ℕ) → k < length xs → slice_get (xs ++ ys) k ≡ slice_get xs k
slice_get_front [] ys k lt = absurd (omega arith)
slice_get_front (x ∷ xs) ys zero lt = refl
slice_get_front (x ∷ xs) ys (suc k) lt = slice_get_front xs ys k (omega arith)

pub slice_get_behind : {X : Type 0} (xs ys : List X) (k i : ℕ) → k ≡ length xs + i → slice_get (xs ++ ys) k ≡ slice_get ys i
slice_get_behind [] ys k i is = ap (slice_get ys) (omega arith)
slice_get_behind (x ∷ xs) ys zero i is = absurd (omega arith)
slice_get_behind (x ∷ xs) ys (suc k) i is = slice_get_behind xs ys k i (omega arith)

module _ (ws : List (ℕ × ℕ)) (ls : List ℕ) where
  pub group_length : length (group_calls ws ls) ≡ length ws + length ls + 1
  unfolding group_calls
  group_length =
      length-append (put_pairs ws) (flush_lines ls ++ Fence ∷ [])
      ∙ (let puts = length-put_pairs ws in let flushes = length-flush_lines ls in let both = length-append (flush_lines ls) (Fence ∷ []) in omega arith)

  pub group_put : (k : ℕ) (d : ℕ × ℕ) → k < length ws → slice_get (group_calls ws ls) k ≡ Some (Put (get_or ws k d).0 (get_or ws k d).1)
  unfolding group_calls
  group_put k d lt =
      let puts = length-put_pairs ws in
      slice_get_front (put_pairs ws) (flush_lines ls ++ Fence ∷ []) k (omega arith)
      ∙ slice_get-get_or (put_pairs ws) k Fence (omega arith) ∙ ap Some (put_pairs_at ws k d Fence lt)

  pub group_flush : (k i d : ℕ) → k ≡ length ws + i → i < length ls → slice_get (group_calls ws ls) k ≡ Some (Flush (get_or ls i d))
  unfolding group_calls
  group_flush k i d is lt =
      let puts = length-put_pairs ws in
      let flushes = length-flush_lines ls in
      slice_get_behind (put_pairs ws) (flush_lines ls ++ Fence ∷ []) k i (omega arith)
      ∙ slice_get_front (flush_lines ls) (Fence ∷ []) i (omega arith)
      ∙ slice_get-get_or (flush_lines ls) i Fence (omega arith) ∙ ap Some (flush_lines_at ls i d Fence lt)

  pub group_fence : (k : ℕ) → k ≡ length ws + length ls → slice_get (group_calls ws ls) k ≡ Some Fence
  unfolding group_calls
  group_fence k is =
      let puts = length-put_pairs ws in
      let flushes = length-flush_lines ls in
      slice_get_behind (put_pairs ws) (flush_lines ls ++ Fence ∷ []) k (length ls) (omega arith)
      ∙ slice_get_behind (flush_lines ls) (Fence ∷ []) (length ls) 0 (omega arith)

-- the calls of an append: how many, those of the first group, and those of the second one
module _ (a : AppendCalls) (some : 1 ≤ a.cells) (few : a.cells ≤ 32) (pairs : length a.pairs ≡ 256) (lines : length a.lines ≡ 32) where
  pub body_length : length (group_calls (body_of a) (body_lines_of a)) ≡ 9 * a.cells
  body_length =
      let all = group_length (body_of a) (body_lines_of a) in
      let puts = length-take (8 * a.cells - 1) (drop 1 a.pairs) in
      let dropped = length-drop 1 a.pairs in
      let flushes = length-take a.cells a.lines in
      omega arith

  pub tag_length : length (group_calls (tag_of a) (tag_line_of a)) ≡ 3
  tag_length =
      let all = group_length (tag_of a) (tag_line_of a) in
      let puts = length-take 1 a.pairs in
      let flushes = length-take 1 a.lines in
      omega arith

  pub append_length : length (append_list a) ≡ 9 * a.cells + 3
  append_length =
      let both = length-append (group_calls (body_of a) (body_lines_of a)) (group_calls (tag_of a) (tag_line_of a)) in
      let body = body_length in
      let tag = tag_length in
      omega arith

  pub append_front : (k : ℕ) → k < 9 * a.cells → slice_get (append_list a) k ≡ slice_get (group_calls (body_of a) (body_lines_of a)) k
  append_front k lt = let body = body_length in slice_get_front (group_calls (body_of a) (body_lines_of a)) (group_calls (tag_of a) (tag_line_of a)) k (omega arith)

  pub append_behind : (k i : ℕ) → k ≡ 9 * a.cells + i → slice_get (append_list a) k ≡ slice_get (group_calls (tag_of a) (tag_line_of a)) i
  append_behind k i is = let body = body_length in slice_get_behind (group_calls (body_of a) (body_lines_of a)) (group_calls (tag_of a) (tag_line_of a)) k i (omega arith)

-- the calls of a reproduction
module _ (s : Sizes) (ws : List Write) (number : ℕ) where
  abbrev puts : List (ℕ × ℕ)
  puts = home_writes s ws

  puts_length : length puts ≡ length ws
  puts_length = length-map ws (λ (w : Write). (home_word s w.at, w.value))

  abbrev home : List Call
  home = group_calls puts (lines_touched puts)

  abbrev mark : List Call
  mark = group_calls (mark_writes number) (1 ∷ [])

  home_length : length home ≡ length ws + length (lines_touched puts) + 1
  home_length = let all = group_length puts (lines_touched puts) in let same = puts_length in omega arith

  pub reproduction_length : length (reproduce_calls s ws number) ≡ length ws + length (lines_touched puts) + 4
  unfolding reproduce_calls
  reproduction_length =
      let both = length-append home mark in
      let first = home_length in
      let second = group_length (mark_writes number) (1 ∷ []) in
      omega arith

  in_home : (k : ℕ) → k < length home → slice_get (reproduce_calls s ws number) k ≡ slice_get home k
  unfolding reproduce_calls
  in_home k lt = slice_get_front home mark k lt

  pub reproduction_put : (k : ℕ) (d : Write) → k < length ws → slice_get (reproduce_calls s ws number) k ≡ Some (Put (home_word s (get_or ws k d).at) (get_or ws k d).value)
  reproduction_put k d lt =
      let first = home_length in
      let same = puts_length in
      in_home k (omega arith)
      ∙ group_put puts (lines_touched puts) k (home_word s d.at, d.value) (omega arith)
      ∙ ap (λ (p : ℕ × ℕ). (let call : Option Call = Some (Put p.0 p.1) in call)) (get_or-map (λ (w : Write). (home_word s w.at, w.value)) ws k d (home_word s d.at, d.value) lt)

  pub reproduction_flush : (k i line : ℕ) → k ≡ length ws + i → i < length (lines_touched puts) → slice_get (lines_touched puts) i ≡ Some line → slice_get (reproduce_calls s ws number) k ≡ Some (Flush line)
  reproduction_flush k i line is lt at =
      let first = home_length in
      let same = puts_length in
      in_home k (omega arith)
      ∙ group_flush puts (lines_touched puts) k i 0 (omega arith) lt
      ∙ ap (λ (l : ℕ). (let call : Option Call = Some (Flush l) in call)) (get_or_from_slice_get (lines_touched puts) i line 0 at)

  pub reproduction_fence : (k : ℕ) → k ≡ length ws + length (lines_touched puts) → slice_get (reproduce_calls s ws number) k ≡ Some Fence
  reproduction_fence k is =
      let first = home_length in
      let same = puts_length in
      in_home k (omega arith) ∙ group_fence puts (lines_touched puts) k (omega arith)

  pub reproduction_mark : (k i : ℕ) → k ≡ length ws + length (lines_touched puts) + 1 + i → slice_get (reproduce_calls s ws number) k ≡ slice_get (group_calls (mark_writes number) (1 ∷ [])) i
  unfolding reproduce_calls
  reproduction_mark k i is = let first = home_length in slice_get_behind home mark k i (omega arith)
