-- The crash laws of the back of the store, over states of the medium and lists of calls alone: what every image is after
-- each prefix of the calls that persist a record, announce a number or reproduce records, and what the whole list leaves.
use Rattle.std.specs.Prelude.{◌≡◌, ◌≢◌, ◌⊎◌, ◌==◌, ℕ, ◌+◌, ◌*◌, ◌<◌, ◌≤◌, max, nat_lt, List, [], ◌∷◌, ◌++◌, All, AllPairs, length, slice_index, if◌then◌else◌}
use Rattle.std.specs.List.{Contains, filter}
use Rattle.dude_base.specs.declared.limits.TheConstants.{MARK, MAX_NUMBER, PAGE, VERSION}
use Rattle.dude_base.specs.declared.sizes.Sizes.{Sizes}
use Rattle.dude_base.specs.declared.write.Write.{Write}
use Rattle.dude_base.specs.Sizes.{IsAccepted}
use Rattle.dude_base.specs.Image.{Cell, cell_at, cell_start, header_words, home_word, image_words}
use Rattle.dude_base.specs.Records.{RedoBundle, first_of, Covers}
use Rattle.dude_base.specs.Writes.{overwritten}
use Rattle.pmem_trait.specs.Words.{State, MayHold, AtLeast, EveryImage, AfterEachCall, after_all, value_of, settled_at}
use Rattle.redo_record.specs.Tags.{number_of, IsHeadOver}
use Rattle.redo_record.specs.Calls.{append_calls}
use Rattle.redo_record.specs.Fits.{Logged, HasHead, FitsRing, settled_mark}
use Rattle.redo_record.specs.AppendLaw.{CanAppend, Appending, logged_as}
use Rattle.redo_record.specs.Recovery.{overwritten_by_all}
use Rattle.redo_record.specs.Rest.{RestsAt}
use Rattle.redo_record.specs.Waiting.{Waiting, Lead, IsContiguousEnd, IsArrayAt, AreDisjoint, AddsWaiting, KeepsOver}
use Rattle.redo_record.specs.LogState.{RingRecords, LogState, KeepsCells, IsWaiting, HoldsLog, RecoversAmong}
use Rattle.redo_record.specs.BackCalls.{announce_calls, reproduce_calls, read_page_calls}

-- a ring without records, of which none was released
abbrev pub no_records : RingRecords
no_records = record { logged = []; released = 0 }

-- the ring with one record more, the last
abbrev pub with_last : Logged → RingRecords → RingRecords
with_last k ring = record { logged = ring.logged ++ k ∷ []; released = ring.released }

-- the ring without its records up to a number
abbrev pub released_upto : ℕ → RingRecords → RingRecords
released_upto number ring = record { logged = filter (λ k. nat_lt number k.last) ring.logged; released = max ring.released number }

-- one ring has this record more, in the cells from this one on, and the others are as they were
abbrev pub AddsLogged : Sizes → Cell → RedoBundle → (ℕ → RingRecords) → (ℕ → RingRecords) → Type 0
AddsLogged s head r old new = (ring : ℕ) → ring < s.rings → new ring ≡ (if ring == head.ring then with_last (logged_as head r) (old ring) else old ring)

-- each ring has released its records up to this number
abbrev pub HaveReleased : Sizes → ℕ → (ℕ → RingRecords) → (ℕ → RingRecords) → Type 0
HaveReleased s number old new = (ring : ℕ) → ring < s.rings → new ring ≡ released_upto number (old ring)

-- No head over this number may be left in the rings.
abbrev pub HasNoHeads : Sizes → ℕ → State → Type 0
HasNoHeads s number p = (ring slot tag : ℕ) → ring < s.rings → slot < s.cells → MayHold (p.word (cell_start s (cell_at ring slot))) tag → IsHeadOver number tag → ⊥

-- The bundle may be persisted into the cells from this one on: they are free, its first number is over those of its ring
-- and over the mark, and no waiting bundle covers one of its numbers.
pub record CanPersist (l : LogState) (head : Cell) (r : RedoBundle) : Type 0 where
  pub append : CanAppend l.sizes l.reproduced (l.rings head.ring).logged head r
  pub newest : All (λ k. k.last < first_of r) (l.rings head.ring).logged
  pub over : l.reproduced < first_of r
  pub new : (w : Waiting) (number : ℕ) → Contains l.waiting w → Covers w.redo number → Covers r number → ⊥

-- These writes may stand for the records, which wait and lead from the mark to a number: they are in rising order of word,
-- and leave of each array what the records leave.
pub record CanReproduce (l : LogState) (records : List RedoBundle) (ws : List Write) (number : ℕ) : Type 0 where
  pub lead : Lead l.waiting l.reproduced records number
  pub rising : AllPairs (λ v w. v.at < w.at) ws
  pub effect : (array : List ℕ) → length array ≡ l.sizes.pages * PAGE → overwritten ws array ≡ overwritten_by_all records array

-- the medium has these home words settled
abbrev pub HasSettledHome : Sizes → List ℕ → State → Type 0
HasSettledHome s home p = (i : ℕ) → i < length home → p.word (home_word s i) ≡ settled_at (slice_index home i)

-- From a state p to a state q on the way of reproducing by these writes, up to this number. Nothing more was told; header
-- and cells stay. A home word may hold what it had before, or what is written there. The mark may hold what it had before;
-- or the number, where the home is settled with the writes.
pub record Reproducing (l : LogState) (ws : List Write) (number : ℕ) (p q : State) : Type 0 where
  pub told : q.told ≡ p.told
  pub header : (i : ℕ) → i < MARK → q.word i ≡ settled_at (slice_index (header_words VERSION l.sizes) i)
  pub cells : KeepsCells l.sizes p q
  pub words : (i x : ℕ) → i < length l.home → MayHold (q.word (home_word l.sizes i)) x → (x ≡ slice_index l.home i) ⊎ (x ≡ slice_index (overwritten ws l.home) i)
  pub mark : (x : ℕ) → MayHold (q.word MARK) x → (x ≡ l.reproduced) ⊎ ((x ≡ number) × HasSettledHome l.sizes (overwritten ws l.home) q)

-- the log with these rings and waiting records; with these rings; and with the home overwritten and the mark raised
abbrev pub with_waiting : LogState → (ℕ → RingRecords) → List Waiting → LogState
with_waiting l rings waiting = record l { rings = rings; waiting = waiting }

-- the log with other records in its rings
abbrev pub with_rings : LogState → (ℕ → RingRecords) → LogState
with_rings l rings = record l { rings = rings }

-- the log where the home has these writes, all up to a number is reproduced, and these records wait
abbrev pub reproduced_to : LogState → List Write → ℕ → List Waiting → LogState
reproduced_to l ws number waiting = record l { reproduced = number; home = overwritten ws l.home; waiting = waiting }

-- A medium at rest with no head over the mark holds a log of no records.
abbrev pub LawOfEmptyLog : Type 0
LawOfEmptyLog = (s : Sizes) (number : ℕ) (home : List ℕ) (rings : ℕ → RingRecords) (p : State) → IsAccepted s → number ≤ MAX_NUMBER
    → RestsAt VERSION s number home p → HasNoHeads s number p → ((ring : ℕ) → ring < s.rings → rings ring ≡ no_records)
    → HoldsLog (record { sizes = s; reproduced = number; home = home; rings = rings; waiting = [] }) p

-- Every image of a medium that holds a log recovers to the contiguous end, and to the array there.
abbrev pub LawOfHeldLog : Type 0
LawOfHeldLog = (l : LogState) (p : State) (len before end : ℕ) → HoldsLog l p → image_words l.sizes ≤ len → IsContiguousEnd l.waiting l.reproduced end
    → AtLeast before p.told end → EveryImage len (RecoversAmong l before end end) p

-- While a record is persisted, each image recovers to a number from the contiguous end without it to that with it.
-- Behind the whole list the medium holds the log with the record.
abbrev pub LawOfPersist : Type 0
LawOfPersist = (l : LogState) (head : Cell) (r : RedoBundle) (rings : ℕ → RingRecords) (waiting : List Waiting) (p : State)
    → HoldsLog l p → CanPersist l head r → AddsLogged l.sizes head r l.rings rings → AddsWaiting (record { ring = head.ring; redo = r }) l.waiting waiting
    → ((len before low high : ℕ) → image_words l.sizes ≤ len → IsContiguousEnd l.waiting l.reproduced low → IsContiguousEnd waiting l.reproduced high → AtLeast before p.told low
    → AfterEachCall (EveryImage len (RecoversAmong (with_waiting l rings waiting) before low high)) p (append_calls l.sizes head r))
    × HoldsLog (with_waiting l rings waiting) (after_all (append_calls l.sizes head r) p)
    × ((after_all (append_calls l.sizes head r) p).told ≡ p.told)

-- In each state on the way of an append every image recovers to a number from the contiguous end without the record to
-- that with it, and to the array there.
abbrev pub LawOfPersisting : Type 0
LawOfPersisting = (l : LogState) (head : Cell) (r : RedoBundle) (rings : ℕ → RingRecords) (waiting : List Waiting) (p q : State)
    → HoldsLog l p → CanPersist l head r → AddsLogged l.sizes head r l.rings rings → AddsWaiting (record { ring = head.ring; redo = r }) l.waiting waiting
    → Appending l.sizes (l.rings head.ring).logged head r p q
    → (len before low high : ℕ) → image_words l.sizes ≤ len → IsContiguousEnd l.waiting l.reproduced low → IsContiguousEnd waiting l.reproduced high → AtLeast before p.told low
    → EveryImage len (RecoversAmong (with_waiting l rings waiting) before low high) q

-- In each state on the way of the append header, mark and home are settled as before, each other ring fits, and each waiting
-- bundle stands in its cells.
abbrev pub LawOfLogOnTheWay : Type 0
LawOfLogOnTheWay = (l : LogState) (head : Cell) (r : RedoBundle) (p q : State) → HoldsLog l p → CanPersist l head r → Appending l.sizes (l.rings head.ring).logged head r p q
    → RestsAt VERSION l.sizes l.reproduced l.home q
    × ((ring : ℕ) → ring < l.sizes.rings → ring ≢ head.ring → FitsRing l.sizes ring (l.rings ring).logged (l.rings ring).released q)
    × ((ring : ℕ) → ring < l.sizes.rings → All (λ k. l.reproduced < k.last → IsWaiting l.sizes l.waiting ring q k) (l.rings ring).logged)

-- In each state on the way of a reproduction a head over the old mark that a crash may leave is that of a bundle of its ring,
-- and each waiting bundle stands in its cells; the mark is settled at the old number, or at the new one.
abbrev pub LawOfLogWhileReproducing : Type 0
LawOfLogWhileReproducing = (l : LogState) (ws : List Write) (number : ℕ) (p q : State) → HoldsLog l p → Reproducing l ws number p q
    → ((ring slot tag : ℕ) → ring < l.sizes.rings → slot < l.sizes.cells → MayHold (q.word (cell_start l.sizes (cell_at ring slot))) tag → IsHeadOver l.reproduced tag → HasHead (number_of tag) slot (l.rings ring).logged)
    × ((ring : ℕ) → ring < l.sizes.rings → All (λ k. l.reproduced < k.last → IsWaiting l.sizes l.waiting ring q k) (l.rings ring).logged)
    × ((settled_mark q ≡ l.reproduced) ⊎ ((settled_mark q ≡ number) × HasSettledHome l.sizes (overwritten ws l.home) q))

-- While a number up to the contiguous end is announced, each image recovers to that end, before the tell and after it.
abbrev pub LawOfAnnounce : Type 0
LawOfAnnounce = (l : LogState) (number : ℕ) (p : State) → HoldsLog l p
    → ((len before end : ℕ) → image_words l.sizes ≤ len → IsContiguousEnd l.waiting l.reproduced end → AtLeast before p.told end → number ≤ end
    → AfterEachCall (EveryImage len (RecoversAmong l before end end)) p (announce_calls number))
    × HoldsLog l (after_all (announce_calls number) p)
    × ((after_all (announce_calls number) p).told ≡ p.told ++ number ∷ [])

-- While records are reproduced, each image recovers to the contiguous end. Behind the whole list the mark and the home are
-- settled at the last number and its array, and the records over it wait. There are at most two calls for each write, and
-- four.
abbrev pub LawOfReproduce : Type 0
LawOfReproduce = (l : LogState) (records : List RedoBundle) (ws : List Write) (number : ℕ) (waiting : List Waiting) (p : State)
    → HoldsLog l p → CanReproduce l records ws number → KeepsOver number l.waiting waiting
    → ((len before end : ℕ) → image_words l.sizes ≤ len → IsContiguousEnd l.waiting l.reproduced end → AtLeast before p.told end
    → AfterEachCall (EveryImage len (RecoversAmong l before end end)) p (reproduce_calls l.sizes ws number))
    × HoldsLog (reproduced_to l ws number waiting) (after_all (reproduce_calls l.sizes ws number) p)
    × ((after_all (reproduce_calls l.sizes ws number) p).told ≡ p.told)
    × (length (reproduce_calls l.sizes ws number) ≤ 2 * length ws + 4)

-- The entry and the state after each call are on the way; and in each state on the way every image recovers so.
abbrev pub LawOfReproducing : Type 0
LawOfReproducing = (l : LogState) (records : List RedoBundle) (ws : List Write) (number : ℕ) (p : State) → HoldsLog l p → CanReproduce l records ws number
    → AfterEachCall (Reproducing l ws number p) p (reproduce_calls l.sizes ws number)
    × ((q : State) (len before end : ℕ) → Reproducing l ws number p q → image_words l.sizes ≤ len → IsContiguousEnd l.waiting l.reproduced end → AtLeast before p.told end
    → EveryImage len (RecoversAmong l before end end) q)

-- Where writes stand for records up to a number: the contiguous end is no less and stays, as do the arrays from that
-- number on, whose array is then the home.
abbrev pub LawOfReproduced : Type 0
LawOfReproduced = (l : LogState) (records : List RedoBundle) (ws : List Write) (number : ℕ) (waiting : List Waiting)
    → AreDisjoint l.waiting → length l.home ≡ l.sizes.pages * PAGE → CanReproduce l records ws number → KeepsOver number l.waiting waiting
    → ((end : ℕ) → IsContiguousEnd l.waiting l.reproduced end → (number ≤ end) × IsContiguousEnd waiting number end)
    × ((n : ℕ) (array : List ℕ) → number ≤ n → IsArrayAt l.waiting l.reproduced l.home n array → IsArrayAt waiting number (overwritten ws l.home) n array)
    × IsArrayAt l.waiting l.reproduced l.home number (overwritten ws l.home)

-- The medium still holds the log where rings release records up to a number that is no more than the mark.
abbrev pub LawOfReleasedRings : Type 0
LawOfReleasedRings = (l : LogState) (number : ℕ) (rings : ℕ → RingRecords) (p : State) → HoldsLog l p → number ≤ l.reproduced
    → HaveReleased l.sizes number l.rings rings → HoldsLog (with_rings l rings) p

-- The reads of a page leave the state as it is, and give the words of that page of the home.
abbrev pub LawOfReadPage : Type 0
LawOfReadPage = (l : LogState) (page : ℕ) (p : State) → HoldsLog l p → page < l.sizes.pages
    → AfterEachCall (λ q. q ≡ p) p (read_page_calls l.sizes page)
    × ((i : ℕ) → i < PAGE → value_of (p.word (home_word l.sizes (page * PAGE) + i)) ≡ slice_index l.home (page * PAGE + i))
