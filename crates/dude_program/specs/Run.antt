-- Which command runs files on threads, by when it prints, and the fault that it ends with where it prints meanwhile.
use Rattle.std.specs.Prelude.{ℕ, Bool, true, false, Option, Some, None, List}
use Rattle.command_edges.specs.Command.{Meaning, Meaning.RunFiles, Meaning.StreamFiles}
use Rattle.command_edges.specs.declared.fault.Fault.{Fault}
use Rattle.command_edges.specs.declared.fault.Fault.TheVariants.{Output}
use Rattle.dude_program.specs.declared.print_time.PrintTime.{PrintTime}
use Rattle.dude_program.specs.declared.print_time.PrintTime.TheVariants.{AtEnd, Meanwhile}
use Rattle.dude_program.specs.declared.run_options.RunOptions.{RunOptions}

-- the command that runs the files of these names with these options, and prints the replies at this time
abbrev pub meaning_of_run : PrintTime → RunOptions → List (List ℕ) → Meaning
meaning_of_run AtEnd options names = RunFiles options.frames options.locks names
meaning_of_run Meanwhile options names = StreamFiles options.frames options.locks names

-- the fault that a streamed run ends with: that of the run, and where there is none and the sink failed, this
abbrev pub fault_of_stream : Option Fault → (sink_failed : Bool) → Option Fault
fault_of_stream (Some earlier) failed = Some earlier
fault_of_stream None true = Some Output
fault_of_stream None false = None
