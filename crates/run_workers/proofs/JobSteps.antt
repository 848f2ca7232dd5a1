-- A worker's job goes on by a request, and by a turn.
use Rattle.std.proofs.Common.{◌≡◌, ℕ, ◌+◌, ◌<◌, List, [], ◌∷◌, ◌++◌, length, get_or, ap, sym, ◌∙◌, subst, arith}
use Rattle.std.specs.Vec.{vec_capacity}
use Rattle.std.proofs.lemmas.List.{length_push}
use Rattle.dude_base.specs.declared.sizes.Sizes.{Sizes}
use Rattle.tatp_model.specs.declared.request.Request.{Request}
use Rattle.tatp_model.specs.declared.done.Done.{Done}
use Rattle.core_table.specs.Layout.{TableSight}
use Rattle.request_attempts.specs.Tries.{IsServing}
use Rattle.request_attempts.specs.Turns.{HasFailed}
use Rattle.run_workers.specs.declared.job.Job.{Job}
use Rattle.run_workers.specs.declared.work_end.WorkEnd.{WorkEnd}
use Rattle.run_workers.specs.declared.work_end.WorkEnd.TheVariants.{Device}
use Rattle.run_workers.specs.Job.{KeepsPlace}
use Rattle.run_workers.specs.Steps.{EndsAt, HasTurned, IsAt}
use Rattle.run_workers.specs.Working.{HasDone}
use Rattle.run_workers.proofs.NextDone.{done_more, done_still}

module _ {X K : Type 0} (t : TableSight K) (s : Sizes) (requests : List Request) (index : ℕ) (old new : Job X) (at : IsAt t s requests index old) where
  -- the request at the index was served, and noted
  pub at_next : (q : Request) (d : Done) → index < length requests → q ≡ get_or requests index q → IsServing 65 t s old.file index q old.pass new.pass d
      → new.file ≡ old.file → new.done.items ≡ old.done.items ++ d ∷ [] → vec_capacity new.done ≡ vec_capacity old.done → IsAt t s requests (index + 1) new
  at_next q d there is v file items capacity =
      let count : length old.done.items ≡ index = at.at in
      let here : length old.done.items < length requests = omega arith in
      let next : q ≡ get_or requests (length old.done.items) q = is ∙ ap (λ (n : ℕ). get_or requests n q) (sym count) in
      let serving : IsServing 65 t s old.file (length old.done.items) q old.pass new.pass d = subst (λ (n : ℕ). IsServing 65 t s old.file n q old.pass new.pass d) (sym count) v in
      let more : HasDone t s old.file requests (old.done.items ++ d ∷ []) new.pass = done_more t s old.file requests old.done.items old.pass at.has_done here q next new.pass d serving in
      record {
        has_done = subst (λ (f : ℕ). HasDone t s f requests new.done.items new.pass) (sym file) (subst (λ (l : List Done). HasDone t s old.file requests l new.pass) (sym items) more);
        at = (let n = length_push old.done.items d in let l = ap length items in omega arith);
        no_fault = v.no_fault ∙ at.no_fault;
        draws = (let w = at.draws in let u = v.draws.draws in let f = v.draws.few in omega arith);
        room = (let r = at.room in omega arith);
      }

  -- a turn was had or refused
  pub at_turned : new ≡ record old { pass = new.pass } → HasTurned t old.pass new.pass → IsAt t s requests index new
  at_turned is h = subst (λ (j : Job X). IsAt t s requests index j) (sym is) (record {
    has_done = done_still t s old.file requests old.done.items old.pass at.has_done new.pass h.keeps.pass.rests h.keeps.pass.entries h.keeps.pass.durable;
    at = at.at;
    no_fault = h.no_fault ∙ at.no_fault;
    draws = (let w = at.draws in let l = h.keeps.left in omega arith);
    room = at.room;
  })

  -- and the place is kept
  pub place_turned : (first : Job X) → KeepsPlace first old → new ≡ record old { pass = new.pass } → HasTurned t old.pass new.pass → KeepsPlace first new
  place_turned first k is h = subst (λ (j : Job X). KeepsPlace first j) (sym is) (record { file = k.file; part = h.keeps.pass.part ∙ k.part; room = k.room })

  -- a turn met a fault
  pub failed_at : (end : WorkEnd) → end ≡ Device → new ≡ record old { pass = new.pass } → HasFailed t old.pass new.pass → EndsAt t s requests end new
  failed_at end ends is h = subst (λ (j : Job X). EndsAt t s requests end j) (sym is) (record {
    has_done = done_still t s old.file requests old.done.items old.pass at.has_done new.pass h.keeps.pass.rests h.keeps.pass.entries h.keeps.pass.durable;
    whole = λ e. absurd (let no : ⊥ = cc in no);
    set_aside = λ e. absurd (let no : ⊥ = cc in no);
    no_memory = λ e. absurd (let no : ⊥ = cc in no);
    device = (λ _. h.fault, λ _. ends);
  })

  -- replies were sent
  pub at_sent : new ≡ record old { outbox = new.outbox } → IsAt t s requests index new
  at_sent is = subst (λ (j : Job X). IsAt t s requests index j) (sym is) (record { has_done = at.has_done; at = at.at; no_fault = at.no_fault; draws = at.draws; room = at.room })

-- the place is kept by a request and by what is sent
pub place_sent : {X : Type 0} (first job one two : Job X) → KeepsPlace first job → KeepsPlace job one → two ≡ record one { outbox = two.outbox } → KeepsPlace first two
place_sent {X} first job one two a b is = subst (λ (j : Job X). KeepsPlace first j) (sym is) (record { file = b.file ∙ a.file; part = b.part ∙ a.part; room = b.room ∙ a.room })
