-- What contracts see of a transaction.
use Rattle.std.proofs.Common.{arith, refl, ◌∙◌}
use Rattle.std.specs.Prelude.{◌≡◌, ℕ, ◌*◌, ◌≤◌, ◌⊎◌, List, [], None, Result}
use Rattle.dude_base.specs.declared.limits.TheConstants.{PAGE}
use Rattle.dude_base.specs.declared.write.Write.{Write}
use Rattle.word_space.specs.declared.stop.Stop.{Stop}
use Rattle.word_space.specs.declared.stop.Stop.TheVariants.{Conflict, NoMemory, Wide}
use Rattle.word_space.specs.Sights.{WordsSight, IsWellFormed}
use Rattle.word_space.specs.Steps.{stop_of}
use Rattle.core_events.specs.Setups.{Setup, lock_of}
use Rattle.core_events.specs.Views.{View}
use Rattle.core_events.specs.Events.{begin, see_box, view_after}
use Rattle.core_table.specs.Known.{Known}
use Rattle.core_table.specs.Layout.{TableSight}
use Rattle.stm_transactions.specs.Owns.{IsOwnStop}
use Rattle.stm_transactions.specs.Reads.{IsReadStop}
use Rattle.stm_transactions.specs.declared.pass_numbers.PassNumbers.{PassNumbers}
use Rattle.stm_transactions.specs.Passes.{PassSight, pass_view}
use Rattle.stm_transactions.specs.declared.tx.TxOver.{TxOver}
use Rattle.stm_transactions.specs.declared.transaction_lists.TransactionLists.{Ghosts}
use Rattle.stm_transactions.specs.Stops.{CountsStop, after_stop}

-- why a write of the word `at` stopped for another transaction
abbrev pub IsWriteStop : {X : Type 0} → Setup → ℕ → ℕ → List (ℕ × ℕ) → ℕ → Stop → View → Known X → Type 0
IsWriteStop z thread snapshot reads at (Conflict lock seen) v k = IsOwnStop z thread snapshot reads (lock_of z at) lock seen v k
IsWriteStop z thread snapshot reads at _ v k = ⊥

module _ {S X K P L : Type 0} {g : Ghosts L} where
  -- the table that it runs on
  abbrev pub tx_table : TxOver S X K P L g → TableSight K
  tx_table t = t.stm.now.events

  -- the view of its seat
  abbrev pub tx_view : TxOver S X K P L g → View
  tx_view t = t.seat.me.0.view

  -- its reads, each a word's number and the value found there
  abbrev pub tx_reads : TxOver S X K P L g → List (ℕ × ℕ)
  tx_reads t = g.reads t.lists

  -- its writes, which are pending
  abbrev pub tx_writes : TxOver S X K P L g → List Write
  tx_writes t = g.writes t.lists

  -- the numbers of its pass, as they were at its begin
  abbrev pub tx_numbers : TxOver S X K P L g → PassNumbers
  tx_numbers t = t.numbers

  -- how many refusals it counted
  abbrev pub tx_refused : TxOver S X K P L g → ℕ
  tx_refused t = t.refused

  -- what is seen of it as words
  abbrev pub tx_sight : TxOver S X K P L g → WordsSight
  tx_sight t = record { count = (tx_table t).setup.pages * PAGE; reads = tx_reads t; writes = tx_writes t; stopped = t.stopped }

  -- its reads and writes are of words of the home, and its writes are of different words
  pub tx_well_formed : (t : TxOver S X K P L g) → IsWellFormed (tx_sight t)
  tx_well_formed t = record { count = (let p = t.belongs.small.pages in omega arith); reads_inside = t.reads_inside; writes = t.running.list; inside = t.running.inside }

  -- refusals were counted for its last Stop, and a page that was out exists
  abbrev pub HasCountedStop : TxOver S X K P L g → Type 0
  HasCountedStop t = CountsStop (tx_table t).setup (tx_sight t).stopped (tx_refused t)

  -- It is the pass's, begun behind a look at its empty box, with nothing read or written
  pub record HasBegun (e : TableSight K) (p : PassSight X) (t : TxOver S X K P L g) : Type 0 where
    pub table : tx_table t ≡ e
    pub view : tx_view t ≡ view_after e.setup begin (view_after e.setup see_box (pass_view p) 0) t.snapshot
    pub numbers : tx_numbers t ≡ p.numbers
    pub refused : tx_refused t ≡ 0
    pub no_reads : tx_reads t ≡ []
    pub no_writes : tx_writes t ≡ []
    pub no_stop : (tx_sight t).stopped ≡ None

  -- Why a read of the word `at` stopped: memory is wanting, and no step was made, or its page or a lock hinders it
  abbrev pub StopsReading : ℕ → TxOver S X K P L g → TxOver S X K P L g → Stop → Type 0
  StopsReading at t u stop = ((stop ≡ NoMemory) × (tx_view u ≡ tx_view t)) ⊎ IsReadStop (tx_table t).setup t.numbers.thread t.snapshot (tx_reads t) at stop (tx_view t) (tx_view u)

  -- Why a write of the word `at` stopped: it would be of a word too many, and no step was made, or a lock hinders it
  abbrev pub StopsWriting : ℕ → TxOver S X K P L g → TxOver S X K P L g → Stop → Type 0
  StopsWriting at t u stop = ((stop ≡ Wide) × (tx_view u ≡ tx_view t)) ⊎ IsWriteStop (tx_table t).setup t.numbers.thread t.snapshot (tx_reads t) at stop (tx_view t) u.seat.me.0

  -- a call that handed on such a Stop, or none, counts refusals as it says
  abbrev pub CountsRefusal : {T : Type 0} → Result T Stop → TxOver S X K P L g → TxOver S X K P L g → Type 0
  CountsRefusal result t u = tx_refused u ≡ after_stop (stop_of result) (tx_refused t)

  -- the pages that it keeps and pins are as before
  abbrev pub KeepsPages : TxOver S X K P L g → TxOver S X K P L g → Type 0
  KeepsPages t u = (tx_view u).paging ≡ (tx_view t).paging

  -- It is of the same pass and table, and no entry and no draw is new; refusals only grow
  pub record TurnsInto (t u : TxOver S X K P L g) : Type 0 where
    pub same_pass : u.pass.ghost_name ≡ t.pass.ghost_name
    pub pass : u.pass.now ≡ t.pass.now
    pub stm : u.stm.now ≡ t.stm.now
    pub numbers : tx_numbers u ≡ tx_numbers t
    pub part : (tx_view u).part ≡ (tx_view t).part
    pub draws : (tx_view u).draws ≡ (tx_view t).draws
    pub drawn : (tx_view u).drawn ≡ (tx_view t).drawn
    pub box : (tx_view u).box ≡ (tx_view t).box
    pub turn : (tx_view u).turn ≡ (tx_view t).turn
    pub entries : (tx_view u).entries ≡ (tx_view t).entries
    pub refused : tx_refused t ≤ tx_refused u

  -- it turns into itself
  pub turns_begin : (x : TxOver S X K P L g) → TurnsInto x x
  turns_begin x = record { same_pass = refl; pass = refl; stm = refl; numbers = refl; part = refl; draws = refl; drawn = refl; box = refl; turn = refl; entries = refl; refused = omega arith }

  -- one call behind another turns it into what the second one leaves
  pub turns_on : (x y z : TxOver S X K P L g) → TurnsInto x y → TurnsInto y z → TurnsInto x z
  turns_on x y z a b = record {
    same_pass = b.same_pass ∙ a.same_pass;
    pass = b.pass ∙ a.pass;
    stm = b.stm ∙ a.stm;
    numbers = b.numbers ∙ a.numbers;
    part = b.part ∙ a.part;
    draws = b.draws ∙ a.draws;
    drawn = b.drawn ∙ a.drawn;
    box = b.box ∙ a.box;
    turn = b.turn ∙ a.turn;
    entries = b.entries ∙ a.entries;
    refused = (let p = a.refused in let q = b.refused in omega arith);
  }
