-- What workers served, or nothing, and the transactions closed.
use Rattle.std.proofs.Common.{◌≡◌, ℕ, ◌≤◌, IsTrue, List, [], ◌∷◌, ◌++◌, length, sym, ap, ◌∙◌, subst, arith}
use Rattle.std.proofs.lemmas.List.{length-map}
use Rattle.std.proofs.lemmas.List.Elements.{All-weaker}
use Rattle.dude_base.specs.declared.sizes.Sizes.{Sizes}
use Rattle.pmem_trait.specs.Sights.{Sight}
use Rattle.pmem_trait.specs.declared.medium.Medium.{Ghosts}
use Rattle.tatp_model.specs.declared.done.Done.{Done}
use Rattle.tatp_model.specs.declared.request.Request.{Request}
use Rattle.tatp_model.specs.OneThread.{AllAreDone, is_sync}
use Rattle.core_events.specs.Setups.{Setup}
use Rattle.core_events.specs.Views.{Entry}
use Rattle.core_table.specs.Layout.{TableSight}
use Rattle.stm_transactions.specs.Passes.{PassSight, pass_view}
use Rattle.stm_slots.specs.Beside.{Beside}
use Rattle.stm_slots.specs.Opening.{setup_of}
use Rattle.stm_slots.specs.declared.opening.Opening.{Opening}
use Rattle.tiny_stm.specs.Ended.{HasClosed}
use Rattle.run_workers.specs.declared.joined.Joined.{Joined}
use Rattle.run_workers.specs.declared.work_end.WorkEnd.TheVariants.{NoMemory}
use Rattle.run_workers.specs.Jobs.{IsBack}
use Rattle.run_workers.specs.Joined.{AreServed, parts_by}
use Rattle.run_workers.specs.Working.{IsSynced}
use Rattle.run_threads.specs.HasRun.{AreEntriesDone}
use Rattle.run_threads.specs.Served.{HasServed}
use Rattle.run_threads.specs.Starts.{StartsOver}
use Rattle.run_threads.specs.declared.served.Served.{Served}
use Rattle.run_threads.proofs.NothingDone.{none_done}
use Rattle.run_threads.proofs.Counts.{same_count}

-- there are no more parts than counts
parts_few : (counts : List ℕ) (files : List (List Request)) → length (parts_by counts files) ≤ length counts
parts_few [] files = omega arith
parts_few (n ∷ counts) [] = omega arith
parts_few (n ∷ counts) (f ∷ files) = let h = parts_few counts files in omega arith

module _ {M : Type 0} {ghosts : Ghosts M} (sight : M → Sight) (t : TableSight (Opening M ghosts)) (sizes : Sizes) (files : List (List Request)) (r : Served M ghosts) (starts : StartsOver sight t.key sizes) (setup : t.setup ≡ setup_of sight t.key) where
  -- the workers were joined
  pub has_served : (joined : Joined Beside) → AreServed t sizes files joined → HasClosed sight t.key (pass_view joined.pass) r.closed → r.done ≡ joined.done → r.counts ≡ joined.counts → r.end ≡ joined.end → HasServed sight t.key sizes files r
  has_served joined a closed dones counts ends =
      let v = pass_view joined.pass in
      let first : t.setup.first ≡ t.key.terms.first = ap (λ (z : Setup). z.first) setup in
      let durable : v.turn.durable ≡ joined.pass.numbers.durable = a.rests.numbers.durable in
      let same : AreEntriesDone sizes t.key.terms.first v.turn.durable files v.entries joined.done.items = record {
        served = a.served;
        done_by = record { held = a.counted.held; follow = a.done_by.follow; same = a.done_by.same; syncs = a.done_by.syncs };
        follow = a.syncs_follow;
        syncs = All-weaker (λ d. IsTrue (is_sync d.request) → IsSynced t.setup.first joined.pass.numbers.durable d) (λ d. IsTrue (is_sync d.request) → (t.key.terms.first ≤ d.number) × (d.number ≤ v.turn.durable))
            (λ d h sync. let s = h sync in let low = s.from in let high = s.upto in (omega arith, omega arith)) joined.done.items a.syncs;
      } in
      record {
        starts = starts;
        view = v;
        closed = closed;
        are = subst (λ (d : _). AreEntriesDone sizes t.key.terms.first v.turn.durable files v.entries d.items) (sym dones) same;
        whole = λ whole. subst (λ (d : _). AllAreDone files d.items) (sym dones) (a.whole (sym ends ∙ whole));
        rests = λ aside. let left = a.set_aside (sym ends ∙ aside) in let draws : v.draws ≡ joined.pass.numbers.left = a.rests.numbers.left in let same_files = same_count files in record {
          parts = parts_by joined.counts.items files;
          files_are = a.counted.files_are;
          lengths = rw counts a.counted.lengths;
          counted = rw counts (let few = parts_few joined.counts.items files in let long = length-map (parts_by joined.counts.items files) (λ p. p.0 ++ p.1) in let is = ap (λ (l : List (List Request)). length l) a.counted.files_are in omega arith);
          all = rw dones a.counted.all;
          done_by = rw dones a.done_by;
          draws_left = rw dones (let l = left.1 in omega arith);
        };
        device = λ device. let met = a.device.0 (sym ends ∙ device) in a.rests.numbers.met_fault ∙ met;
      }

  -- no worker was started
  pub none_served : (p q : PassSight Beside) → (pass_view p).entries ≡ [] → IsBack t p q → HasClosed sight t.key (pass_view q) r.closed → r.done.items ≡ [] → r.end ≡ NoMemory → HasServed sight t.key sizes files r
  none_served p q none back closed dones ends = record {
    starts = starts;
    view = pass_view q;
    closed = closed;
    are = subst (λ (es : List Entry). AreEntriesDone sizes t.key.terms.first (pass_view q).turn.durable files es r.done.items) (sym (back.entries ∙ none))
        (subst (λ (d : List Done). AreEntriesDone sizes t.key.terms.first (pass_view q).turn.durable files [] d) (sym dones) (none_done sizes t.key.terms.first (pass_view q).turn.durable files));
    whole = λ whole. absurd (let e = sym ends ∙ whole in let no : ⊥ = cc in no);
    rests = λ aside. absurd (let e = sym ends ∙ aside in let no : ⊥ = cc in no);
    device = λ device. absurd (let e = sym ends ∙ device in let no : ⊥ = cc in no);
  }
