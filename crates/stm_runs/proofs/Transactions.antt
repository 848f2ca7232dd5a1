-- What passes do leaves them at rest, and whose they were.
use Rattle.std.proofs.Common.{◌≡◌, ℕ, refl, ap, ◌∙◌, subst}
use Rattle.tatp_model.specs.declared.request.Request.{Request}
use Rattle.tatp_model.specs.declared.reply.Reply.{Reply}
use Rattle.tatp_model.specs.declared.done.Done.{Done}
use Rattle.core_events.specs.Views.{View}
use Rattle.core_table.specs.Layout.{TableSight}
use Rattle.stm_transactions.specs.declared.lost.Lost.{Lost}
use Rattle.stm_transactions.specs.Passes.{IsRefused, IsResting, PassSight, pass_view}
use Rattle.stm_transactions.specs.declared.tx.TxOver.{TxOver}
use Rattle.stm_transactions.specs.declared.transaction_lists.TransactionLists.{Ghosts}
use Rattle.stm_transactions.specs.Ends.{HasAborted, HasCommitted, HasLostCommit}
use Rattle.stm_transactions.specs.Transactions.{HasBegun, TurnsInto, tx_numbers, tx_table, tx_view}
use Rattle.tiny_stm.specs.Turned.{KeepsWork}
use Rattle.stm_runs.specs.Kept.{StaysWith}

module _ {X K : Type 0} (t : TableSight K) (p q : PassSight X) where
  pub stays : IsResting t p → StaysWith t p p
  stays r = record { rests = r; part = refl }

  pub refused : (seen : ℕ) → IsRefused t seen p q → StaysWith t p q
  refused seen h = record { rests = h.looked.rests; part = ap (λ (v : View). v.part) h.looked.view }

  pub turned : IsResting t q → KeepsWork p q → StaysWith t p q
  turned r w = record { rests = r; part = w.part }

module _ {S X K P L : Type 0} {g : Ghosts L} (e : TableSight K) (p r : PassSight X) (t0 t : TxOver S X K P L g) (begun : HasBegun e p t0) (turns : TurnsInto t0 t) where
  events : tx_table t ≡ e
  events = ap (λ s. s.events) turns.stm ∙ begun.table

  pub numbers : tx_numbers t ≡ p.numbers
  numbers = turns.numbers ∙ begun.numbers

  with_part : IsResting (tx_table t) r → (pass_view r).part ≡ (tx_view t).part → StaysWith e p r
  with_part rests part = record {
    rests = subst (λ (y : TableSight K). IsResting y r) events rests;
    part = part ∙ (turns.part ∙ ap (λ (v : View). v.part) begun.view);
  }

  pub aborted : HasAborted t r → StaysWith e p r
  aborted a = with_part a.rests a.ended.part

  pub lost : (l : Lost) → HasLostCommit t r l → StaysWith e p r
  lost l u = with_part u.rests u.part

  pub committed : (file index : ℕ) (q : Request) (reply : Reply) (d : Done) → HasCommitted file index q reply t r d → StaysWith e p r
  committed file index q reply d c = with_part c.rests c.part
