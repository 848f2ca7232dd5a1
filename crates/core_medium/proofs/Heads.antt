-- The heads over the mark that a crash may leave, and their bundles.
use Rattle.std.proofs.Common.{◌≡◌, ℕ, ◌<◌, sym, ap, ◌∙◌, subst, arith, All}
use Rattle.std.specs.List.{Contains}
use Rattle.dude_base.specs.Image.{cell_at}
use Rattle.dude_base.specs.Records.{RedoBundle, Covers}
use Rattle.pmem_trait.specs.Words.{State as MediumState}
use Rattle.redo_record.specs.Fits.{Logged, HasHead, head_of, IsIntact}
use Rattle.redo_record.specs.SettledRecords.{HoldSettled}
use Rattle.redo_record.specs.LogState.{LogState, HoldsLog, IsWaiting}
use Rattle.redo_record.specs.Waiting.{Waiting}
use Rattle.redo_record.proofs.RingHeads.{find_head}
use Rattle.redo_record.proofs.HeldLog.{single_head}
use Rattle.core_medium.specs.BackCalls.{waiting_as}

-- the bundle of a ring whose head this is: it waits, and is settled there
pub record Found (l : LogState) (q : MediumState) (ring number slot : ℕ) : Type 0 where
  pub redo : RedoBundle
  pub waits : Contains l.waiting (waiting_as ring redo)
  pub number_is : number ≡ redo.last
  pub held : HoldSettled l.sizes (cell_at ring slot) redo q
  pub has : HasHead number slot (l.rings ring).logged

-- one bundle of a ring is settled there
abbrev Stands : LogState → MediumState → ℕ → Logged → Type 0
Stands l q ring k = l.reproduced < k.last → (b : RedoBundle) × Contains l.waiting (waiting_as ring b) × (k.last ≡ b.last) × HoldSettled l.sizes (head_of ring k) b q

-- what stands in its cells is found by its head
pub found : (l : LogState) (q : MediumState) (ring number slot : ℕ) → All (λ k. l.reproduced < k.last → IsWaiting l.sizes l.waiting ring q k) (l.rings ring).logged
    → All (λ k. l.reproduced < k.last → IsIntact l.sizes ring q k) (l.rings ring).logged → l.reproduced < number → HasHead number slot (l.rings ring).logged → Found l q ring number slot
found l q ring number slot waiting intact over has = by (find_head {P = Stands l q ring} number slot (l.rings ring).logged each has)
  where
    each : All (Stands l q ring) (l.rings ring).logged
    each i e lt high =
        let is = waiting i e lt high in let whole = intact i e lt high in
        (is.redo, is.waits, sym (sym (ap (λ (r : RedoBundle). r.last) is.held.same) ∙ whole.same_last), is.held)

    by : (k : Logged) × (k.last ≡ number) × (k.slot ≡ slot) × Stands l q ring k → Found l q ring number slot
    by f =
        let last = f.1 in let s = f.3 (omega arith) in record {
          redo = s.0;
          waits = s.1;
          number_is = sym last ∙ s.2;
          held = subst (λ (n : ℕ). HoldSettled l.sizes (cell_at ring n) s.0 q) f.2 s.3;
          has = has;
        }

-- two heads whose bundles cover one number are one
pub one_head : (l : LogState) (p q : MediumState) → HoldsLog l p → (ring number slot ring2 number2 slot2 n : ℕ) → ring < l.sizes.rings → (a : Found l q ring number slot) (b : Found l q ring2 number2 slot2)
    → Covers a.redo n → Covers b.redo n → cell_at ring slot ≡ cell_at ring2 slot2
one_head l p q holds ring number slot ring2 number2 slot2 n below a b cov cov2 =
    let same = holds.distinct (waiting_as ring a.redo) (waiting_as ring2 b.redo) n a.waits b.waits cov cov2 in
    let rings : ring ≡ ring2 = ap (λ (w : Waiting). w.ring) same in
    let numbers : number2 ≡ number = b.number_is ∙ (sym (ap (λ (w : Waiting). w.redo.last) same) ∙ sym a.number_is) in
    let there : HasHead number slot2 (l.rings ring).logged = subst (λ (r : ℕ). HasHead number slot2 (l.rings r).logged) (sym rings) (subst (λ (m : ℕ). HasHead m slot2 (l.rings ring2).logged) numbers b.has) in
    let slots : slot ≡ slot2 = single_head number slot slot2 (l.rings ring).logged (holds.rising ring below) a.has there in
    ap (λ (r : ℕ). cell_at r slot) rings ∙ ap (λ (s : ℕ). cell_at ring2 s) slots
