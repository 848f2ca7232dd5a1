-- What contracts see of a `Flat`.
use Rattle.std.specs.Prelude.{◌≡◌, ℕ, List, [], None, length, refl}
use Rattle.dude_base.specs.Records.{RedoRecord}
use Rattle.word_space.specs.declared.flat.Flat.{Flat}
use Rattle.word_space.specs.Sights.{WordsSight, IsWellFormed, IsBelow}
use Rattle.word_space.specs.Sound.{IsWideOrNoMemory}

-- the array at rest
abbrev pub words_of : Flat → List ℕ
words_of f = f.words.items

-- what is seen of a `Flat` as words
abbrev pub flat_sight : Flat → WordsSight
flat_sight f = record { count = length f.words.items; reads = f.reads.reads; writes = f.writes; stopped = f.stopped }

-- the array at rest is the same
abbrev pub HasSameWords : Flat → Flat → Type 0
HasSameWords x y = words_of y ≡ words_of x

-- the pending writes as the redo record of this number
abbrev pub redo_of : ℕ → Flat → RedoRecord
redo_of number f = record { number = number; writes = (flat_sight f).writes }

-- nothing was read or written, and no Stop was answered
abbrev pub fresh : List ℕ → WordsSight
fresh words = record { count = length words; reads = []; writes = []; stopped = None }

-- what is seen of it is well formed at all times
pub flat_well_formed : (f : Flat) → IsWellFormed (flat_sight f)
flat_well_formed f = record { count = f.sound.in_range; reads_inside = f.sound.reads_inside; writes = f.sound.list; inside = f.sound.inside }

-- every list of reads that it makes agrees with its array
pub flat_below : (f : Flat) → IsBelow (flat_sight f) (words_of f)
flat_below f = record { size = refl; agrees = f.sound.agrees }

-- a `Flat` answers no Stop but `Wide` and want of memory
pub flat_stops : (f : Flat) → IsWideOrNoMemory (flat_sight f).stopped
flat_stops f = f.sound.stops
