-- How a transaction ends, seen at its pass.
use Rattle.std.specs.Prelude.{◌≡◌, ℕ, ◌<◌, ◌≤◌, List, [], ◌∷◌, ◌++◌, length, Ok, Err}
use Rattle.tatp_model.specs.declared.request.Request.{Request}
use Rattle.tatp_model.specs.declared.reply.Reply.{Reply}
use Rattle.tatp_model.specs.declared.done.Done.{Done}
use Rattle.dude_base.specs.declared.write.Write.{Write}
use Rattle.core_events.specs.Views.{Entry}
use Rattle.core_table.specs.Abouts.{about}
use Rattle.stm_transactions.specs.declared.lost.Lost.{Lost}
use Rattle.stm_transactions.specs.CommitEnds.{HasEnded, IsLost, has_writes, drawn_for}
use Rattle.stm_transactions.specs.Numbers.{with_refusals}
use Rattle.stm_transactions.specs.Passes.{PassSight, IsResting, pass_view}
use Rattle.stm_transactions.specs.declared.tx.TxOver.{TxOver}
use Rattle.stm_transactions.specs.declared.transaction_lists.TransactionLists.{Ghosts}
use Rattle.stm_transactions.specs.Counts.{after_commit}
use Rattle.stm_transactions.specs.Transactions.{tx_numbers, tx_reads, tx_refused, tx_table, tx_view, tx_writes}

-- what is done, with these reads and writes
abbrev pub entry_of : Done → List (ℕ × ℕ) → List Write → Entry
entry_of d reads ws = record { number = d.number; wrote = d.wrote; about = about d.file d.index d.request d.reply; reads = reads; writes = ws }

module _ {S X K P L : Type 0} {g : Ghosts L} where
  -- with writes, its pass may draw a number
  abbrev pub HasDrawLeft : TxOver S X K P L g → Type 0
  HasDrawLeft t = 0 < length (tx_writes t) → 0 < (tx_numbers t).left

  -- The pass is whose it was, and has one entry more, of what is done: where nothing was written, at the snapshot
  pub record HasCommitted (file index : ℕ) (q : Request) (r : Reply) (t : TxOver S X K P L g) (p : PassSight X) (d : Done) : Type 0 where
    pub rests : IsResting (tx_table t) p
    pub done : d ≡ record { file = file; index = index; number = d.number; wrote = has_writes (tx_writes t); request = q; reply = r }
    pub entries : (pass_view p).entries ≡ (tx_view t).entries ++ entry_of d (tx_reads t) (tx_writes t) ∷ []
    pub drawn : (pass_view p).drawn ≡ (tx_view t).drawn ++ drawn_for (tx_writes t) d.number
    pub part : (pass_view p).part ≡ (tx_view t).part
    pub turn : (pass_view p).turn ≡ (tx_view t).turn
    pub last : (tx_numbers t).last ≤ d.number
    pub over : 0 < length (tx_writes t) → (tx_numbers t).last < d.number
    pub reader : tx_writes t ≡ [] → d.number ≡ t.snapshot
    pub numbers : p.numbers ≡ with_refusals (tx_refused t) (after_commit (has_writes (tx_writes t)) (Ok d.number) (tx_table t).setup.boxes (tx_numbers t))

  -- It has no entry more, and this is why. That comes only with writes
  pub record HasLostCommit (t : TxOver S X K P L g) (p : PassSight X) (l : Lost) : Type 0 where
    pub rests : IsResting (tx_table t) p
    pub some : 0 < length (tx_writes t)
    pub entries : (pass_view p).entries ≡ (tx_view t).entries
    pub part : (pass_view p).part ≡ (tx_view t).part
    pub turn : (pass_view p).turn ≡ (tx_view t).turn
    pub why : IsLost (tx_table t).setup t.numbers.thread t.snapshot (tx_reads t) (tx_writes t) l (tx_view t) (pass_view p)
    pub numbers : p.numbers ≡ with_refusals (tx_refused t) (after_commit (has_writes (tx_writes t)) (Err l) (tx_table t).setup.boxes (tx_numbers t))

  -- It has none, and drew no number
  pub record HasAborted (t : TxOver S X K P L g) (p : PassSight X) : Type 0 where
    pub rests : IsResting (tx_table t) p
    pub ended : HasEnded (tx_view t) (pass_view p)
    pub numbers : p.numbers ≡ with_refusals (tx_refused t) (tx_numbers t)
