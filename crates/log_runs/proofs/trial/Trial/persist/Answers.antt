use Rattle.std.proofs.Common.{◌∙◌, sym, rules}
use Rattle.back_store.specs.BackView.{state_of}
use Rattle.log_runs.proofs.Listed.{numbers_new, numbers_newest, listed_persisted, sizes_persisted}
use Rattle.log_runs.proofs.trial.Trial.persist.Goals as goal

pub persist-requires : goal.persist-requires
persist-requires c =
    let v = state_of c.args.self.now.back in
    record {
      may = record {
        exists = (search rules);
        numbers = (search rules);
        newest = numbers_newest v c.args.self.now.persisted.items c.args.self.now.listed c.args.ring c.args.bundle.now (rw (sym c.first-first.ensures, sym c.last-last.ensures) (rw c.deref.ensures.value at (c.may_follow.ensures c.if-not-may_follow.false)));
        over = (search rules);
        new = numbers_new v c.args.self.now.persisted.items c.args.self.now.listed c.args.ring c.args.bundle.now (rw (sym c.first-first.ensures, sym c.last-last.ensures) (rw c.deref.ensures.value at (c.may_follow.ensures c.if-not-may_follow.false)));
        home = (search rules);
      };
    }

pub invariant_of-self-2 : goal.invariant_of-self-2
invariant_of-self-2 c = record {
  sizes = sizes_persisted (state_of c.args.self.now.back) (state_of c.persist.new.self) c.args.ring c.args.bundle.now c.persist.result c.persist.ensures.state ∙ c.args.self.now.sizes;
  listed = rw (c.in_ok-push.ensures.items, c.first-first.ensures, c.last-last.ensures)
      (listed_persisted (state_of c.args.self.now.back) (state_of c.persist.new.self) c.args.self.now.persisted.items c.args.ring c.args.bundle.now c.persist.result c.persist.ensures.state c.args.self.now.listed);
}
