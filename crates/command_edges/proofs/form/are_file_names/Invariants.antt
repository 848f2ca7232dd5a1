use Rattle.std.proofs.Common.{◌≡◌, drop, map}
use Rattle.std.specs.List.{list_all}
use Rattle.std.specs.Rc.{rc_str_bytes}
use Rattle.command_edges.specs.Command.{is_file_name}
use Rattle.command_edges.proofs.form.are_file_names.Given as goal

abbrev pub invariant-loop-word : goal.invariant-loop-word
invariant-loop-word l =
    list_all is_file_name (map rc_str_bytes l.words) ≡ list_all is_file_name (map rc_str_bytes (drop l.word-index l.words))
