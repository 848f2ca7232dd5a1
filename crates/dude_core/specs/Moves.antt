-- What a view becomes by an event, and by the parts of a check.
use Rattle.std.specs.Prelude.{◌≡◌, ◌==◌, ℕ, true, [], ◌∷◌, ◌++◌, None, if◌then◌else◌, Result, Ok, Err}
use Rattle.std.specs.declared.alloc.AllocError.{AllocError}
use prog.Atomic.{either}
use Rattle.core_events.specs.Setups.{Setup}
use Rattle.core_events.specs.Views.{View}
use Rattle.dude_core.specs.Memory.{MayTakeMemory}
use Rattle.core_events.specs.Events.{Event, view_after, looked_word, own_word, is_good, all_checked, reaching, extending, validating, replacing}

-- the view v became w by the event, which found the number n; without memory, which the event may take, it is as it was
abbrev pub Advances : Result (Unit {0}) AllocError → Setup → Event → View → ℕ → View → Type 0
Advances (Ok x) z e v n w = w ≡ view_after z e v n
Advances (Err x) z e v n w = (w ≡ v) × MayTakeMemory e

-- the value x of the home word i waited no longer: it joins the reads where the lock's word n is still the looked-at one
abbrev pub confirmed : ℕ → ℕ → ℕ → View → View
confirmed i x n v = record v { tx = record v.tx { reads = if n == looked_word v.tx.look then v.tx.reads ++ (i, x) ∷ [] else v.tx.reads; loaded = None } }

-- an extension to this number ended where each lock of the reads was found good
abbrev pub reached : Setup → ℕ → View → View
reached z goal v = record v { tx = reaching (all_checked z v.tx.checked v.tx.reads) goal v.tx }

-- in an extension to this number the word n of the lock was found
abbrev pub extended : Setup → ℕ → ℕ → ℕ → View → View
extended z goal lock n v = record v { tx = extending z (is_good v.part.thread v.tx.snapshot n) goal lock v.tx }

-- after the draw the word n of the lock was found
abbrev pub validated : ℕ → ℕ → View → View
validated lock n v = record v { tx = validating (is_good v.part.thread v.tx.snapshot n) lock v.tx }

-- the entry n of the page p is the one kept of it, and what was kept of the page in the turn is dropped
abbrev pub replaced : ℕ → ℕ → View → View
replaced p n v = record v { paging = record v.paging { entries = (p, n) ∷ v.paging.entries }; turn = replacing true p v.turn }

-- what becomes of the word n of a lock that is taken: the thread's own word, where n is the looked-at one
abbrev pub word_taken : View → ℕ → ℕ
word_taken v n = either (n == looked_word v.tx.look) (own_word v.part.thread) n
