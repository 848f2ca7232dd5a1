use Rattle.std.proofs.Common.{arith}
use Rattle.dude_program.proofs.EachCommand.{frames_within, locks_within}
use Rattle.dude_program.proofs.run_options.RunOptions.over.Goals as goal

pub returns-clause-within : goal.returns-clause-within
returns-clause-within c = record {
  frames = frames_within c.args.self.frames c.args.pages c.unwrap_or.result c.requires.frames c.unwrap_or.ensures;
  locks = locks_within c.args.self.locks c.unwrap_or-2.result c.requires.locks c.unwrap_or-2.ensures;
  boxes = record { low = omega arith; high = omega arith };
}
