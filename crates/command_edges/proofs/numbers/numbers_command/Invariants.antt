use Rattle.std.proofs.Common.{◌≡◌, take}
use Rattle.clap.specs.Words.{app_of}
use Rattle.command_edges.specs.Numbers.{numbers_app}
use Rattle.command_edges.proofs.numbers.numbers_command.Given as goal

abbrev pub invariant-loop-wanted : goal.invariant-loop-wanted
invariant-loop-wanted l = app_of l.command ≡ numbers_app l.fn.name (take l.wanted-index l.numbers)
