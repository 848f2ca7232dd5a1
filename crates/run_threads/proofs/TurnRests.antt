-- A pass behind a fetch over a back, as a worker sees it.
use Rattle.std.proofs.Common.{◌≡◌, ℕ, sym, ap, subst, arith}
use Rattle.std.specs.Prelude.{Result, Ok, Err, IfOk, OnOk}
use Rattle.core_events.specs.Conditions.{KeepsFrame}
use Rattle.core_events.specs.Views.{View}
use Rattle.core_table.specs.Layout.{TableSight}
use Rattle.pmem_trait.specs.Sights.{Sight}
use Rattle.pmem_trait.specs.declared.medium.Medium.{Ghosts}
use Rattle.stm_transactions.specs.declared.pass_numbers.PassNumbers.{PassNumbers}
use Rattle.stm_transactions.specs.Numbers.{with_turn}
use Rattle.stm_transactions.specs.Passes.{PassSight, IsResting, first_view, pass_view}
use Rattle.stm_slots.specs.Beside.{Beside}
use Rattle.stm_slots.specs.declared.opening.Opening.{Opening}
use Rattle.stm_slots.specs.declared.slot.Slot.{Slot}
use Rattle.tiny_stm.specs.Fetch.{HasFetched as HasBroughtIn}
use Rattle.tiny_stm.specs.declared.fetch_fault.FetchFault.{FetchFault}
use Rattle.tiny_stm.specs.declared.fetch_fault.FetchFault.TheVariants.{Held, Behind, AllPinned, Device, Dead}
use Rattle.tiny_stm.specs.Turned.{BySeat, KeepsWork, numbers_fetched}
use Rattle.request_attempts.specs.declared.turn_fault.TurnFault.{TurnFault}
use Rattle.request_attempts.specs.Turns.{HasFetched}
use Rattle.run_threads.specs.TurnAnswers.{fetch_answer}

module _ {X K : Type 0} (t : TableSight K) (page d : ℕ) (p q : PassSight X) (was : IsResting t p) (is : IsResting t q) (stays : KeepsWork p q) where
  fetched : KeepsFrame (pass_view q) page → q.numbers ≡ with_turn d p.numbers → HasFetched t page p q
  fetched shown e = record {
    keeps = record {
      pass = record {
        rests = is;
        part = stays.part;
        entries = stays.entries;
        last = ap (λ (f : PassNumbers). f.last) e;
        rises = (let r = ap (λ (f : PassNumbers). f.refused) e in omega arith);
        durable = (let a = was.numbers.durable in let b = is.numbers.durable in let c = stays.durable in omega arith);
      };
      left = ap (λ (f : PassNumbers). f.left) e;
    };
    shown = shown;
    had = ap (λ (f : PassNumbers). f.had_turn) e;
    no_fault = ap (λ (f : PassNumbers). f.met_fault) e;
  }

  fetch_ok : (a : Result (Unit {0}) FetchFault) → OnOk a (KeepsFrame (pass_view q) page) → q.numbers ≡ numbers_fetched a d p.numbers → OnOk (fetch_answer a) (HasFetched t page p q)
  fetch_ok (Ok done) shown e = fetched shown e
  fetch_ok (Err (Held seen)) shown e = tt
  fetch_ok (Err (Behind touch reproduced)) shown e = tt
  fetch_ok (Err (AllPinned last seen)) shown e = tt
  fetch_ok (Err Device) shown e = tt
  fetch_ok (Err Dead) shown e = tt

  -- whatever a worker makes of the answer
  pub fetch_turn : (a : Result (Unit {0}) FetchFault) (w : Result (Unit {0}) TurnFault) → OnOk a (KeepsFrame (pass_view q) page) → q.numbers ≡ numbers_fetched a d p.numbers → w ≡ fetch_answer a → OnOk w (HasFetched t page p q)
  fetch_turn a w shown e same = subst (λ (x : Result (Unit {0}) TurnFault). OnOk x (HasFetched t page p q)) (sym same) (fetch_ok a shown e)

-- of a page that was brought in, the view of the pass keeps the entry
pub brought_in : {M : Type 0} {ghosts : Ghosts M} (sight : M → Sight) (t : TableSight (Opening M ghosts)) (page : ℕ) (p q : PassSight Beside) (a : Result (Unit {0}) FetchFault)
    → IfOk a (λ done. BySeat {S = Slot M ghosts} (HasBroughtIn sight t page) p q) → OnOk a (KeepsFrame (pass_view q) page)
brought_in sight t page p q (Ok done) ok = subst (λ (v : View). KeepsFrame v page) (sym (ap first_view ok.is)) ok.did.shown
brought_in sight t page p q (Err e) ok = tt
