use Rattle.std.proofs.Common.{take}
use Rattle.std.specs.List.{AllZip}
use Rattle.tatp_model.specs.Files.{requests_in}
use Rattle.command_edges.specs.Texts.{HoldsRequests}
use Rattle.command_edges.proofs.lists.parse_texts.Given as goal

-- the texts so far gave these requests
abbrev pub invariant-loop-index : goal.invariant-loop-index
invariant-loop-index l = AllZip HoldsRequests (take l.index l.texts) (requests_in l.lists.items)
