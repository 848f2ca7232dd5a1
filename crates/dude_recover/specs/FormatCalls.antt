-- The calls that make a new image, and which of them a part of it makes.
use Rattle.std.specs.Prelude.{ℕ, ◌*◌, ◌-◌, ◌/◌, List, [], ◌∷◌, ◌++◌, Result, map, drop, is_ok}
use Rattle.std.specs.List.{range_with_len, enumerate_from}
use Rattle.dude_base.specs.declared.limits.TheConstants.{HEADER, LINE, MAGIC, MARK, VERSION}
use Rattle.dude_base.specs.declared.sizes.Sizes.{Sizes}
use Rattle.dude_base.specs.Image.{header_words, home_word, image_words}
use Rattle.pmem_trait.specs.declared.call.Call.{Call}
use Rattle.pmem_trait.specs.declared.call.Call.TheVariants.{Tell}
use Rattle.pmem_trait.specs.declared.failed.Failed.{Failed}
use Rattle.pmem_trait.specs.Sights.{CallsMade, Sight}
use Rattle.pmem_trait.specs.Groups.{flush_lines, group_calls, put_pairs}

-- 0 for each word of each cell
abbrev pub empty_cells : Sizes → List ℕ
empty_cells s = map (λ _. 0) (range_with_len 0 (s.rings * s.cells * LINE))

-- the mark is put at 0, the cells are cleared, and the home is put
abbrev pub content_writes : Sizes → List ℕ → List (ℕ × ℕ)
content_writes s home = (MARK, 0) ∷ enumerate_from HEADER (empty_cells s ++ home)

-- the lines of these words: all of the image but the first
abbrev pub content_lines : Sizes → List ℕ
content_lines s = range_with_len 1 (image_words s / LINE - 1)

-- words 1 to 7
abbrev pub header_writes : Sizes → List (ℕ × ℕ)
header_writes s = enumerate_from 1 (drop 1 (header_words VERSION s))

-- Word 0 is cleared; then mark, cells and home are made durable; then words 1 to 7; then word 0 with the magic number; then 0
-- is told. Each of the four is put, flushed and fenced before the next.
unfoldable pub format_calls : Sizes → List ℕ → List Call
format_calls s home =
    group_calls ((0, 0) ∷ []) (0 ∷ [])
    ++ group_calls (content_writes s home) (content_lines s)
    ++ group_calls (header_writes s) (0 ∷ [])
    ++ group_calls ((0, MAGIC) ∷ []) (0 ∷ [])
    ++ Tell 0 ∷ []

-- 0 is put in each word of each cell; or, as in each of these, a prefix of the calls was made, whose last one failed
abbrev pub PutsCells : Sizes → Result (Unit {0}) Failed → Sight → Sight → Type 0
PutsCells s result = CallsMade (put_pairs (enumerate_from HEADER (empty_cells s))) (is_ok result)

-- the home is put in its words
abbrev pub PutsHome : Sizes → List ℕ → Result (Unit {0}) Failed → Sight → Sight → Type 0
PutsHome s home result = CallsMade (put_pairs (enumerate_from (home_word s 0) home)) (is_ok result)

-- each line of the image but the first is flushed
abbrev pub FlushesContents : Sizes → Result (Unit {0}) Failed → Sight → Sight → Type 0
FlushesContents s result = CallsMade (flush_lines (content_lines s)) (is_ok result)

-- mark, cells and home are made durable
abbrev pub SettlesContents : Sizes → List ℕ → Result (Unit {0}) Failed → Sight → Sight → Type 0
SettlesContents s home result = CallsMade (group_calls (content_writes s home) (content_lines s)) (is_ok result)

-- words 1 to 7 are made durable
abbrev pub SettlesHeader : Sizes → Result (Unit {0}) Failed → Sight → Sight → Type 0
SettlesHeader s result = CallsMade (group_calls (header_writes s) (0 ∷ [])) (is_ok result)

-- the image is written, and 0 is told
abbrev pub WritesImage : Sizes → List ℕ → Result (Unit {0}) Failed → Sight → Sight → Type 0
WritesImage s home result = CallsMade (format_calls s home) (is_ok result)
