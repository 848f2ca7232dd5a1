-- Lines as they stood when they were flushed, and the bytes of those that are written at once.
use Rattle.std.specs.Prelude.{◌≡◌, ◌≢◌, ℕ, ◌+◌, ◌-◌, ◌*◌, ◌<◌, ◌≤◌, List, [], ◌∷◌, ◌++◌, take, drop, length, map, flat_map, slice_index, All, AllPairs}
use Rattle.std.specs.List.{between}
use Rattle.std.specs.Int.{w64, to_le_bytes}
use Rattle.dude_io.specs.declared.line.Line.{Line}

-- a line of these words: its number, and the eight words from there on
pub record IsLineOf (words : List ℕ) (number : ℕ) (line : Line) : Type 0 where
  pub at : line.number ≡ number
  pub held : line.words ≡ take 8 (drop (8 * number) words)

-- one line of these words was noted behind those noted before
abbrev pub NotesLine : List ℕ → ℕ → List Line → List Line → Type 0
NotesLine words number old new = (line : Line) × (new ≡ old ++ line ∷ []) × IsLineOf words number line

-- the bytes of a line in its file: each word with its lowest byte first
abbrev pub line_bytes : Line → List ℕ
line_bytes line = flat_map (to_le_bytes w64) line.words

-- the bytes of so many lines of these words, from the first one on
abbrev pub lines_bytes : ℕ → ℕ → List ℕ → List ℕ
lines_bytes first count words = flat_map (to_le_bytes w64) (take (8 * count) (drop (8 * first) words))

-- the line of this place among those that the bytes are of
abbrev pub line_at : ℕ → List ℕ → List ℕ
line_at n bytes = between (64 * n) (64 * n + 64) bytes

-- the number of the first line
abbrev pub first_number : List Line → ℕ
first_number lines = slice_index (map (λ line. line.number) lines) 0

-- how many lines there are from the first one to the last
abbrev pub lines_spanned : List Line → ℕ
lines_spanned lines = slice_index (map (λ line. line.number) lines) (length lines - 1) + 1 - first_number lines

-- the lines can be written at once: there is one, and behind it each lies farther on in the file, within 1024 of each before it
pub record IsSpan (lines : List Line) : Type 0 where
  pub some : 1 ≤ length lines
  pub near : AllPairs (λ a b. (a.number < b.number) × (b.number < a.number + 1024)) lines

-- the bytes from the first line to the last one: each line as it was noted, and each one between them as the words have it
pub record FillsSpan (lines : List Line) (words bytes : List ℕ) : Type 0 where
  pub noted : All (λ line. line_at (line.number - first_number lines) bytes ≡ line_bytes line) lines
  pub between : (n : ℕ) → All (λ line. line.number ≢ first_number lines + n) lines → line_at n bytes ≡ line_at n (lines_bytes (first_number lines) (lines_spanned lines) words)
