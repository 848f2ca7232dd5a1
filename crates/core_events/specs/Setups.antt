-- What the machine is set up with.
use Rattle.std.specs.Prelude.{◌≡◌, ℕ, ◌+◌, ◌-◌, ◌*◌, ◌/◌, ◌%◌, ◌≤◌, Bool, List, length}
use Rattle.dude_base.specs.declared.limits.TheConstants.{PAGE, MAX_RINGS, MAX_NUMBER}
use Rattle.dude_base.specs.declared.run.Run.{Run}
use Rattle.dude_base.specs.Run.{IsRunWithin}
use Rattle.dude_base.specs.Sizes.{IsFrom}

-- how many threads, locks, pages, frames and boxes there are, the home words and the number at the start, whether it is
-- known what the medium gives, and whether a turn may end with a fault
pub record Setup : Type 0 where
  -- how many threads may take part
  pub threads : ℕ
  pub locks : ℕ
  pub pages : ℕ
  pub frames : ℕ
  -- the boxes of each thread
  pub boxes : ℕ
  -- the home words and the number at the start
  pub opening : List ℕ
  pub first : ℕ
  -- whether it is known what the medium below gives; where it isn't, nothing is said of values
  pub is_told : Bool
  -- whether a turn may end with a fault, as it may over a medium that fails
  pub may_fail : Bool

-- the frames, locks and boxes of a setup, whose limits are those of a run
abbrev pub run_of : Setup → Run
run_of z = record { frames = z.frames; locks = z.locks; boxes = z.boxes }

-- the sizes of a setup are within the limits
pub record IsSetup (z : Setup) : Type 0 where
  pub threads : IsFrom 1 MAX_RINGS z.threads
  pub run : IsRunWithin z.pages (run_of z)
  pub words : length z.opening ≡ z.pages * PAGE
  pub number : z.first ≤ MAX_NUMBER

-- ---- where things stand
-- the lock of a home word
abbrev pub lock_of : Setup → ℕ → ℕ
lock_of z at = at % z.locks

-- the page of a home word
abbrev pub page_of : ℕ → ℕ
page_of at = at / PAGE

-- the frame word of the home word `at` where its page is in this frame
abbrev pub cell_of : ℕ → ℕ → ℕ
cell_of frame at = frame * PAGE + at % PAGE

-- the number of a thread's box among all boxes
abbrev pub box_of : Setup → ℕ → ℕ → ℕ
box_of z thread place = thread * z.boxes + place

-- ---- page entries
-- what the frame of an entry is multiplied by; a pin counts 1
abbrev pub ENTRY : ℕ
ENTRY = 65_536

-- the entry of a page that is in a frame and has so many pins
abbrev pub entry_with : ℕ → ℕ → ℕ
entry_with frame pins = (frame + 1) * ENTRY + pins

-- the frame that an entry names; one that is 0 names none
abbrev pub frame_in : ℕ → ℕ
frame_in entry = entry / ENTRY - 1

-- the entry of a page in the same frame with no pins
abbrev pub without_pins : ℕ → ℕ
without_pins entry = entry / ENTRY * ENTRY
