use Rattle.std.proofs.Common.{◌∙◌}
use Rattle.back_store.specs.BackView.{state_of}
use Rattle.log_runs.proofs.Listed.{listed_reproduced, sizes_reproduced}
use Rattle.log_runs.proofs.trial.Trial.reproduce.Goals as goal

pub invariant_of-self : goal.invariant_of-self
invariant_of-self c = record {
  sizes = sizes_reproduced (state_of c.args.self.now.back) (state_of c.reproduce.new.self) c.reproduce.result c.reproduce.ensures.state ∙ c.args.self.now.sizes;
  listed = listed_reproduced (state_of c.args.self.now.back) (state_of c.reproduce.new.self) c.args.self.now.persisted.items c.reproduce.result c.reproduce.ensures.state c.args.self.now.listed;
}
