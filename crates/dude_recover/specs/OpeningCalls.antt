-- The calls on the medium that open an image, behind the reads that recovered it, and which of them a part of it makes.
use Rattle.std.specs.Prelude.{◌≡◌, ℕ, ◌*◌, ◌/◌, ◌==◌, nat_lt, ◌&&◌, Bool, cond, if◌then◌else◌, List, [], ◌∷◌, ◌++◌, Result, is_ok, map, slice_index}
use Rattle.std.specs.List.{range_with_len, enumerate_from, filter}
use Rattle.dude_base.specs.declared.limits.TheConstants.{HEADER, LINE, MARK, PAGE, VERSION, VERSION_ONE, VERSION_WORD}
use Rattle.dude_base.specs.declared.sizes.Sizes.{Sizes}
use Rattle.dude_base.specs.Image.{home_word}
use Rattle.pmem_trait.specs.declared.call.Call.{Call}
use Rattle.pmem_trait.specs.declared.failed.Failed.{Failed}
use Rattle.pmem_trait.specs.Sights.{CallsMade, Sight}
use Rattle.pmem_trait.specs.Groups.{flush_lines, group_calls, put_pairs}
use Rattle.pmem_trait.specs.Reads.{ContentHas}
use Rattle.redo_record.specs.Tags.{kind_of, number_of}
use Rattle.redo_record.specs.BackCalls.{mark_writes}

-- every home word is put, in order, also one that has its value already
abbrev pub home_puts : Sizes → List ℕ → List (ℕ × ℕ)
home_puts s words = enumerate_from (home_word s 0) words

-- the lines of the home
abbrev pub home_lines : Sizes → List ℕ
home_lines s = range_with_len (home_word s 0 / LINE) (s.pages * (PAGE / LINE))

-- the tag is that of a head with a number over this one
abbrev pub is_head_over : ℕ → ℕ → Bool
is_head_over above tag = (kind_of tag == 1) && nat_lt above (number_of tag)

-- the lines of the cells of an image that are heads with numbers over this one, in rising order
unfoldable pub stale_lines : Sizes → ℕ → List ℕ → List ℕ
stale_lines s number image = filter (λ line. is_head_over number (slice_index image (LINE * line))) (range_with_len (HEADER / LINE) (s.rings * s.cells))

-- the lines with this one behind them, where its tag is that of a head with a number over this one
abbrev pub with_stale : ℕ → ℕ → ℕ → List ℕ → List ℕ
with_stale line above tag lines = lines ++ cond (is_head_over above tag) (line ∷ []) []

-- these are the lines of the content's cells that are such heads, where the medium is visible
abbrev pub AreStaleLines : Sizes → ℕ → Sight → List ℕ → Type 0
AreStaleLines s above m lines = ContentHas (λ content. lines ≡ stale_lines s above content) m

-- 0 is put in the first word of each of these lines
abbrev pub clear_puts : List ℕ → List (ℕ × ℕ)
clear_puts lines = map (λ line. (LINE * line, 0)) lines

-- the first words of these lines are cleared, in one group; where there are none, no call is made
abbrev pub clear_calls : List ℕ → List Call
clear_calls [] = []
clear_calls (line ∷ lines) = group_calls (clear_puts (line ∷ lines)) (line ∷ lines)

-- the newest version is put in the place of the first one
abbrev pub raise_puts : List (ℕ × ℕ)
raise_puts = (VERSION_WORD, VERSION) ∷ []

-- an image of the first version is raised to the newest one; of the newest one, no call is made
abbrev pub raise_calls : ℕ → List Call
raise_calls version = if version == VERSION_ONE then group_calls raise_puts (VERSION_WORD / LINE ∷ []) else []

-- The home words are made durable, then the mark; then the heads over the number are cleared; and then an image of this
-- version is raised.
unfoldable pub opening_calls : ℕ → Sizes → ℕ → List ℕ → List ℕ → List Call
opening_calls version s number words stale =
    group_calls (home_puts s words) (home_lines s) ++ (group_calls (mark_writes number) (MARK / LINE ∷ []) ++ (clear_calls stale ++ raise_calls version))

-- The home words are put; or, as in each of these, a prefix of the calls was made, whose last one failed.
abbrev pub PutsHome : Sizes → List ℕ → Result (Unit {0}) Failed → Sight → Sight → Type 0
PutsHome s words result = CallsMade (put_pairs (home_puts s words)) (is_ok result)

-- each line of the home is flushed
abbrev pub FlushesHome : Sizes → Result (Unit {0}) Failed → Sight → Sight → Type 0
FlushesHome s result = CallsMade (flush_lines (home_lines s)) (is_ok result)

-- the home words are made durable
abbrev pub SettlesHome : Sizes → List ℕ → Result (Unit {0}) Failed → Sight → Sight → Type 0
SettlesHome s words result = CallsMade (group_calls (home_puts s words) (home_lines s)) (is_ok result)

-- 0 is put in the first word of each of these lines
abbrev pub PutsZeros : List ℕ → Result (Unit {0}) Failed → Sight → Sight → Type 0
PutsZeros lines result = CallsMade (put_pairs (clear_puts lines)) (is_ok result)

-- the first words of these lines are cleared; where there are none, no call is made
abbrev pub ClearsHeads : List ℕ → Result (Unit {0}) Failed → Sight → Sight → Type 0
ClearsHeads lines result = CallsMade (clear_calls lines) (is_ok result)

-- an image of this version is raised to the newest one
abbrev pub RaisesVersion : ℕ → Result (Unit {0}) Failed → Sight → Sight → Type 0
RaisesVersion version result = CallsMade (raise_calls version) (is_ok result)

-- exactly the calls that settle the image were made; or a prefix of them, whose last failed
abbrev pub SettlesImage : ℕ → Sizes → ℕ → List ℕ → List ℕ → Result (Unit {0}) Failed → Sight → Sight → Type 0
SettlesImage version s number words stale result = CallsMade (opening_calls version s number words stale) (is_ok result)
