-- One transaction on the smallest image, step by step: a thread reads the word 3 and writes it, and in one turn its record is persisted,
-- announced and reproduced, call by call; then the page is evicted, and the word filled in again from the medium.
use Rattle.std.specs.Prelude.{◌≡◌, ◌+◌, ◌*◌, List, [], ◌∷◌, ◌++◌, length, map, replicate, false, slice_index}
use Rattle.dude_base.specs.declared.limits.TheConstants.{PAGE}
use Rattle.dude_base.specs.declared.sizes.Sizes.{Sizes}
use Rattle.dude_base.specs.Image.{cell_at}
use Rattle.dude_base.specs.Records.{RedoBundle}
use Rattle.dude_base.specs.Sizes.{sizes_for}
use Rattle.pmem_trait.specs.declared.call.Call.{Call}
use Rattle.redo_record.specs.Calls.{append_calls}
use Rattle.redo_record.specs.BackCalls.{announce_calls, reproduce_calls, read_page_calls}
use Rattle.core_events.specs.Setups.{Setup}
use Rattle.core_events.specs.Events.{Event, number, see_box, begin, entry, pin, look, load, check, take, draw, decide, store, touch, release, unpin, post, take_turn, empty_box, raise_durable, raise_reproduced, evict, load_touch, fill, give_turn, no_about}
use Rattle.core_events.specs.Partings.{event}
use Rattle.core_events.specs.OneCommit.{smallest, one_write}
use Rattle.core_medium.specs.Machines.{Machine, MachineStep, on_words, device, AllMachineLead}
use Rattle.core_medium.specs.KeptStore.{opening_medium, start_machine}

-- one subscriber and one call record, in three pages, and one ring of 16 cells
abbrev pub small_sizes : Sizes
small_sizes = sizes_for 1 1 1 16

-- one thread, lock and box, and all pages in frames; all words are 0
abbrev pub small_setup : Setup
small_setup = record smallest { pages = 3; frames = 3; opening = replicate (3 * PAGE) 0 }

-- the machine at the start, over the medium of its image
abbrev pub small_machine : Machine
small_machine = start_machine small_setup small_sizes (opening_medium small_setup small_sizes)

-- the bundle of the record of number 1
abbrev pub one_bundle : RedoBundle
one_bundle = record { last = 1; span = 0; writes = one_write }

-- these events, made by the first view
abbrev pub by_first : List Event → List MachineStep
by_first es = map (λ e. on_words (event 0 e)) es

-- these calls on the medium, made by it
abbrev pub calls_by_first : List Call → List MachineStep
calls_by_first cs = map (device 0) cs

-- a thread's number is drawn, the transaction reads, writes and posts, and a turn begins
abbrev pub events_before : List Event
events_before =
    number ∷ see_box ∷ begin ∷ entry 0 ∷ pin 0 ∷ look 0 ∷ load 3 ∷ check 0 ∷ take 0 ∷ draw no_about one_write ∷ check 0
    ∷ decide ∷ store 3 ∷ touch 0 ∷ release 0 ∷ unpin 0 ∷ post ∷ take_turn ∷ []

-- the calls that persist the bundle
abbrev pub persist_one : List MachineStep
persist_one = calls_by_first (append_calls small_sizes (cell_at 0 0) one_bundle)

-- the calls that reproduce it
abbrev pub reproduce_one : List MachineStep
reproduce_one = calls_by_first (reproduce_calls small_sizes one_write 1)

-- the bundle is reproduced, and the reproduced word raised
abbrev pub last_steps : List MachineStep
last_steps = reproduce_one ++ by_first (raise_reproduced 1 ∷ [])

-- before that its number is announced, and the durable word raised
abbrev pub steps_announcing : List MachineStep
steps_announcing = calls_by_first (announce_calls 1) ++ (by_first (raise_durable 1 ∷ []) ++ last_steps)

-- the steps until then: before these the bundle is persisted, and its box emptied
abbrev pub durable_steps : List MachineStep
durable_steps = by_first events_before ++ (persist_one ++ (by_first (empty_box 0 0 ∷ []) ++ steps_announcing))

-- behind them the page is evicted and read, a frame is filled with the word that was written, and the turn is given away
abbrev pub reading_steps : List MachineStep
reading_steps =
    by_first (entry 0 ∷ evict 0 ∷ load_touch 0 ∷ [])
    ++ (calls_by_first (read_page_calls small_sizes 0) ++ by_first (fill 0 0 3 7 ∷ give_turn false ∷ []))

-- All steps are allowed and lead to this machine, whose durable and reproduced word, mark and home have the commit.
pub record IsDurablyCommitted (m : Machine) : Type 0 where
  pub led : AllMachineLead small_setup small_machine (durable_steps ++ reading_steps) m
  pub durable : m.core.durable ≡ 1
  pub reproduced : m.core.reproduced ≡ 1
  pub mark : m.store.log.reproduced ≡ 1
  pub word : slice_index m.store.log.home 3 ≡ 7
  -- calls on the medium, beside the reads
  pub calls : length persist_one + length (announce_calls 1) + length reproduce_one ≡ 19
