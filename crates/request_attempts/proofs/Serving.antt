-- Tries, one after another.
use Rattle.std.proofs.Common.{ℕ, ◌+◌, ◌*◌, ◌<◌, ◌≤◌, Bool, true, false, List, [], ◌∷◌, ◌++◌, refl, ap, ◌∙◌, inl, inr, ⊎_elim, arith}
use Rattle.dude_base.specs.declared.sizes.Sizes.{Sizes}
use Rattle.tatp_model.specs.declared.request.Request.{Request}
use Rattle.tatp_model.specs.declared.done.Done.{Done}
use Rattle.tatp_model.specs.OneThread.{is_sync}
use Rattle.core_events.specs.Views.{Entry}
use Rattle.core_table.specs.Layout.{TableSight}
use Rattle.stm_transactions.specs.Numbers.{bit}
use Rattle.stm_transactions.specs.Passes.{PassSight, IsResting}
use Rattle.request_attempts.specs.Counting.{IsUnder, PATIENCE, RisesBy}
use Rattle.request_attempts.specs.MayTry.{MayServe, MayTry}
use Rattle.request_attempts.specs.Tries.{IsServing, IsUnserved, IsAgain, HasTried, AnswersBy}

pub tried_none : {X K : Type 0} (t : TableSight K) (p : PassSight X) → IsResting t p → HasTried 0 t p p
tried_none t p r = record { pass = record { rests = r; part = refl; entries = refl; last = refl; rises = omega arith; durable = omega arith }; no_fault = refl; used = 0; draws = omega arith; counted = omega arith; tries = omega arith; few = omega arith; under = omega arith }

module _ {X K : Type 0} (k : ℕ) (t : TableSight K) (p q : PassSight X) (h : HasTried k t p q) where
  pub may_try : (s : Sizes) (x : Request) → MayServe t s x p → MayTry t s x q
  may_try s x m = record { rests = h.pass.rests; draws = (let d = h.draws in let f = h.few in let l = m.draws in omega arith); home = m.home; in_range = m.in_range }

  -- the durable number didn't fall since p either
  kept_over : (r : PassSight X) → q.numbers.durable ≤ r.numbers.durable → p.numbers.durable ≤ r.numbers.durable
  kept_over r k = let d = h.pass.durable in omega arith

  -- what is left falls
  pub left_under : (r : PassSight X) → IsAgain t q r → r.numbers.left ≤ p.numbers.left
  left_under r a = let d = h.draws in let e = a.draws.draws in omega arith

  pub tried_on : (r : PassSight X) → IsAgain t q r → p.numbers.left < r.numbers.left + 64 → IsUnder PATIENCE p.numbers.refused r.numbers.refused → HasTried (k + 1) t p r
  tried_on r a fewer under = ⊎_elim (λ last. let u = under.1 in absurd (omega arith))
      (λ c. let d = h.draws in let e = a.draws.draws in let tr = h.tries in let co = h.counted in let c0 = c.0 in let c1 = c.1 in record {
        pass = record {
          rests = a.pass.rests;
          part = a.pass.part ∙ h.pass.part;
          entries = a.pass.entries ∙ h.pass.entries;
          last = a.pass.last ∙ h.pass.last;
          rises = (let x = h.pass.rises in let y = a.pass.rises in omega arith);
          durable = kept_over r a.pass.durable;
        };
        no_fault = a.no_fault ∙ h.no_fault;
        used = h.used + a.draws.used;
        draws = omega arith;
        counted = omega arith;
        tries = omega arith;
        few = omega arith;
        under = under.0;
      })
      a.counts

  answers_on : (b : Bool) (s : Sizes) (file index : ℕ) (x : Request) (d : Done) (r : PassSight X) → AnswersBy b t s file index x q r d → AnswersBy b t s file index x p r d
  answers_on true s file index x d r a = record { rests = a.rests; done = a.done; entries = a.entries ∙ h.pass.entries; last = (let l = a.last in let e = h.pass.last in omega arith) }
  answers_on false s file index x d r a = record {
    rests = a.rests;
    at = a.at;
    entry = a.entry;
    part = a.part ∙ h.pass.part;
    entries = a.entries ∙ ap (λ (l : List Entry). l ++ a.entry ∷ []) h.pass.entries;
    done = a.done;
    served = a.served;
    last = (let l = a.last in let e = h.pass.last in omega arith);
    over = λ wrote. (let l = a.over wrote in let e = h.pass.last in omega arith);
  }

  pub served_on : (s : Sizes) (file index : ℕ) (x : Request) (d : Done) (r : PassSight X) → IsServing 1 t s file index x q r d → IsServing 65 t s file index x p r d
  served_on s file index x d r a = let i = h.draws in let e = a.draws.draws in let u = h.few in let f = a.draws.few in record {
    answers = answers_on (is_sync x) s file index x d r a.answers;
    part = a.part ∙ h.pass.part;
    draws = record { used = h.used + a.draws.used; draws = omega arith; few = omega arith };
    no_fault = a.no_fault ∙ h.no_fault;
    durable = kept_over r a.durable;
  }

  pub unserved_on : (r : PassSight X) → IsUnserved 0 t q r → IsUnserved 65 t p r
  unserved_on r a = let i = h.draws in let e = a.draws.draws in let u = h.few in let f = a.draws.few in
      record { rests = a.rests; part = a.part ∙ h.pass.part; entries = a.entries ∙ h.pass.entries; draws = record { used = h.used + a.draws.used; draws = omega arith; few = omega arith }; durable = kept_over r a.durable }

  pub again_unserved : (most : ℕ) (r : PassSight X) → IsAgain t q r → 64 ≤ most → IsUnserved most t p r
  again_unserved most r a le = let i = h.draws in let e = a.draws.draws in let u = h.few in let f = a.draws.few in
      record { rests = a.pass.rests; part = a.pass.part ∙ h.pass.part; entries = a.pass.entries ∙ h.pass.entries; draws = record { used = h.used + a.draws.used; draws = omega arith; few = omega arith }; durable = kept_over r a.pass.durable }

  -- each number drawn in vain counts a refusal
  pub drawn_often : (r : PassSight X) → IsAgain t q r → r.numbers.left + 64 ≤ p.numbers.left → RisesBy 64 p.numbers.refused r.numbers.refused
  drawn_often r a drawn = ⊎_elim (λ last. inr last)
      (λ c. let d = h.draws in let e = a.draws.draws in let co = h.counted in let c0 = c.0 in inl (omega arith))
      a.counts

  pub never : 2000001 ≤ k → ⊥
  never le = at_bit q.numbers.had_turn h.tries
    where
      at_bit : (b : Bool) → 2 * p.numbers.refused + k ≤ 2 * q.numbers.refused + bit b → ⊥
      at_bit true e = let u = h.under in omega arith
      at_bit false e = let u = h.under in omega arith

answers_rest : {X K : Type 0} (b : Bool) (t : TableSight K) (s : Sizes) (file index : ℕ) (x : Request) (d : Done) (p r : PassSight X) → AnswersBy b t s file index x p r d → IsResting t r
answers_rest true t s file index x d p r a = a.rests
answers_rest false t s file index x d p r a = a.rests

pub serving_rests : {X K : Type 0} (most : ℕ) (t : TableSight K) (s : Sizes) (file index : ℕ) (x : Request) (d : Done) (p r : PassSight X) → IsServing most t s file index x p r d → IsResting t r
serving_rests most t s file index x d p r a = answers_rest (is_sync x) t s file index x d p r a.answers
