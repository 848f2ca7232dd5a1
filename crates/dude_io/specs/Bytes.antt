-- The words that bytes are.
use Rattle.std.specs.Prelude.{ℕ, ◌/◌, List, length, map}
use Rattle.std.specs.Int.{w64, from_le_bytes}
use Rattle.std.specs.Simd.{first_chunks}

-- the whole words of some bytes, each with its lowest byte first
abbrev pub words_in : List ℕ → List ℕ
words_in bytes = map (from_le_bytes w64) (first_chunks 8 (length bytes / 8) bytes)
