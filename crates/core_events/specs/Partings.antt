-- A view is split in two, and two views are joined; each reads the first word. Lists of steps, and the states that they lead through.
use Rattle.std.specs.Prelude.{◌≡◌, ◌≢◌, ℕ, zero, suc, take, ◌+◌, ◌-◌, ◌*◌, ◌<◌, ◌≤◌, ◌||◌, true, false, List, [], ◌∷◌, ◌++◌, Option, Some, None, max, slice_set, replicate, if◌then◌else◌, ltb}
use mathlib.Core.Option.{some}
use lib.ListN.{get_elem?}
use Rattle.dude_base.specs.declared.limits.TheConstants.{PAGE, MAX_NUMBER}
use Rattle.core_events.specs.Setups.{Setup, entry_with}
use Rattle.core_events.specs.Keyed.{one_if}
use Rattle.core_events.specs.Views.{Entry, Part, Turn, View}
use Rattle.core_events.specs.Words.{State}
use Rattle.core_events.specs.Events.{Event, finish, decide, no_hand, read_entry, write_entry}
use Rattle.core_events.specs.Conditions.{IsIdle, IsAllowed, after, no_record}

-- a view that has done nothing and has no thread's number
abbrev pub newcomer : Setup → ℕ → ℕ → View
newcomer z splits draws = record {
  part = record { is_spent = false; thread = None; ended = []; splits = splits };
  draws = draws;
  drawn = [];
  tx = record { is_open = false; snapshot = 0; extension = None; reads = []; checked = []; look = None; loaded = None; owned = []; hand = no_hand };
  paging = record { entries = []; pins = []; touched = [] };
  box = record { next = 0; is_empty = false };
  turn = record { has_it = false; count = 0; durable = z.first; met_fault = false; full = []; touches = []; filled = [] };
  entries = [];
  found = None;
  count = 0;
}

-- a view that was joined into another
abbrev pub spent : Setup → View
spent z = record (newcomer z 0 0) { part = record { is_spent = true; thread = None; ended = []; splits = 0 } }

-- what is left of a view from which so many draws were split
abbrev pub left_of : ℕ → View → View
left_of draws v = record v { part = record v.part { splits = v.part.splits - 1 }; draws = v.draws - draws }

-- a list of the thread's number, or of nothing where there is none
abbrev pub thread_list : Option ℕ → List ℕ
thread_list None = []
thread_list (Some t) = t ∷ []

-- what p becomes when q is joined into it: the threads of q ended in it, and it has the splits of both, with one more
-- where q has no thread
abbrev pub both_parts : Part → Part → Part
both_parts p q = record p { ended = p.ended ++ (thread_list q.thread ++ q.ended); splits = p.splits + (q.splits + (1 - one_if q.thread)) }

-- what p becomes when q is joined into it: the greater durable number, and a fault where one of them met one
abbrev pub both_turns : Turn → Turn → Turn
both_turns p q = record p { durable = max p.durable q.durable; met_fault = p.met_fault || q.met_fault }

-- the view v with all that it takes over from w
abbrev pub both_of : View → View → View
both_of v w = record v { part = both_parts v.part w.part; draws = v.draws + w.draws; turn = both_turns v.turn w.turn; entries = v.entries ++ w.entries }

-- The view `who` may be split: it is live, and has a split and so many draws left.
pub record MaySplit (c : State) (who : ℕ) (v : View) (draws : ℕ) : Type 0 where
  pub is_there : get_elem? c.views who ≡ some v
  pub live : v.part.is_spent ≡ false
  pub split_left : 0 < v.part.splits
  pub draws_left : draws ≤ v.draws

-- The view `who` may take in the view `other`: both are live, and the other one is idle and has not the turn.
pub record MayJoin (c : State) (who : ℕ) (v : View) (other : ℕ) (w : View) : Type 0 where
  pub is_there : get_elem? c.views who ≡ some v
  pub live : v.part.is_spent ≡ false
  pub apart : other ≢ who
  pub other_there : get_elem? c.views other ≡ some w
  pub other_live : w.part.is_spent ≡ false
  pub other_idle : IsIdle w
  pub no_turn : w.turn.has_it ≡ false

-- the state after a split: the new view comes last, with so many draws of the view `who`
abbrev pub split : Setup → State → ℕ → View → ℕ → State
split z c who v draws = record c { views = slice_set c.views who (left_of draws v) ++ newcomer z 0 draws ∷ [] }

-- the state after a join: the view `who` has all of the view `other`, which is spent
abbrev pub join : Setup → State → ℕ → View → ℕ → View → State
join z c who v other w = record c { views = slice_set (slice_set c.views who (both_of v w)) other (spent z) }

-- ---- lists of steps
-- an event by a view; a split of a view, with so many draws; a join of a view and another one
pub data Step : Type 0 where
  event : ℕ → Event → Step
  parting : ℕ → ℕ → Step
  joining : ℕ → ℕ → Step

-- the step is allowed in the state c and leads to d
abbrev pub Leads : Setup → State → Step → State → Type 0
Leads z c (event who e) d = (v : View) × IsAllowed z c who e v × (d ≡ after z c who v e)
Leads z c (parting who draws) d = (v : View) × MaySplit c who v draws × (d ≡ split z c who v draws)
Leads z c (joining who other) d = (v : View) × (w : View) × MayJoin c who v other w × (d ≡ join z c who v other w)

-- each step is allowed, and the last leads to d
abbrev pub AllLead : Setup → State → List Step → State → Type 0
AllLead z c [] d = d ≡ c
AllLead z c (s ∷ ss) d = (b : State) × Leads z c s b × AllLead z b ss d

-- the entries that an event makes
abbrev pub entries_made : Event → View → List Entry
entries_made (finish a) v = read_entry a v ∷ []
entries_made decide v = write_entry v ∷ []
entries_made e v = []

-- the entries that a list of steps makes, in order
abbrev pub all_made : (z : Setup) (ss : List Step) (c d : State) → AllLead z c ss d → List Entry
all_made z [] c d h = []
all_made z (event who e ∷ ss) c d h = entries_made e h.1.0 ++ all_made z ss h.0 d h.2
all_made z (parting who draws ∷ ss) c d h = all_made z ss h.0 d h.2
all_made z (joining who other ∷ ss) c d h = all_made z ss h.0 d h.2

-- ---- the start
-- the entries of pages from p on, so many; those below `frames` are in the frame of their own number
abbrev pub first_entries : ℕ → ℕ → ℕ → List ℕ
first_entries frames p zero = []
first_entries frames p (suc more) = (if ltb p frames then entry_with p 0 else 0) ∷ first_entries frames (p + 1) more

-- the state at the start: one view has all splits and draws, no lock is owned, and the first pages are in the frames
abbrev pub start : Setup → State
start z = record {
  threads = 0;
  clock = z.first;
  turn = 0;
  durable = z.first;
  reproduced = z.first;
  locks = replicate z.locks (2 * z.first);
  entries = first_entries z.frames 0 z.pages;
  touches = replicate z.pages z.first;
  cells = take (z.frames * PAGE) z.opening;
  boxes = replicate (z.threads * z.boxes) 0;
  views = newcomer z (z.threads - 1) (MAX_NUMBER - z.first) ∷ [];
  records = replicate (z.threads * z.boxes) no_record;
  persisted = [];
}
