-- The calls on the medium that announce a number, that reproduce records into the home, and that read a page of it. Those
-- that persist a record are the calls of an append.
use Rattle.std.specs.Prelude.{ℕ, ◌==◌, ◌*◌, ◌/◌, List, [], ◌∷◌, ◌++◌, map, if◌then◌else◌}
use Rattle.std.specs.List.{range_with_len}
use Rattle.dude_base.specs.declared.limits.TheConstants.{LINE, MARK, PAGE}
use Rattle.dude_base.specs.declared.sizes.Sizes.{Sizes}
use Rattle.dude_base.specs.declared.write.Write.{Write}
use Rattle.dude_base.specs.Image.{home_word}
use Rattle.pmem_trait.specs.declared.call.Call.{Call}
use Rattle.pmem_trait.specs.declared.call.Call.TheVariants.{Read, Tell}
use Rattle.pmem_trait.specs.Groups.{group_calls}

-- the number is told
abbrev pub announce_calls : ℕ → List Call
announce_calls number = Tell number ∷ []

-- the writes of home words, as words of the medium
abbrev pub home_writes : Sizes → List Write → List (ℕ × ℕ)
home_writes s ws = map (λ w. (home_word s w.at, w.value)) ws

-- x before these numbers, unless the first of them is x
abbrev pub once_before : ℕ → List ℕ → List ℕ
once_before x [] = x ∷ []
once_before x (y ∷ ys) = if x == y then y ∷ ys else x ∷ y ∷ ys

-- these numbers, of equal ones that follow one another only one
abbrev pub without_repeats : List ℕ → List ℕ
without_repeats [] = []
without_repeats (x ∷ xs) = once_before x (without_repeats xs)

-- the lines that these writes of words touch, each once where the words rise
abbrev pub lines_touched : List (ℕ × ℕ) → List ℕ
lines_touched ws = without_repeats (map (λ w. w.0 / LINE) ws)

-- the mark, put at this number
abbrev pub mark_writes : ℕ → List (ℕ × ℕ)
mark_writes number = (MARK, number) ∷ []

-- the home words are made durable, and then the mark
unfoldable pub reproduce_calls : Sizes → List Write → ℕ → List Call
reproduce_calls s ws number =
    group_calls (home_writes s ws) (lines_touched (home_writes s ws)) ++ group_calls (mark_writes number) (MARK / LINE ∷ [])

-- the words of a page are read in order
abbrev pub read_page_calls : Sizes → ℕ → List Call
read_page_calls s page = map Read (range_with_len (home_word s (page * PAGE)) PAGE)
