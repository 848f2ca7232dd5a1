use Rattle.std.proofs.Common.{ap, ◌∙◌}
use Rattle.command_edges.specs.Texts.{meaning_of}
use Rattle.command_edges.proofs.Few.{few_requests}
use Rattle.command_edges.proofs.lists.parse_text.Goals as goal

pub returns-in-Ok-clause-parsed : goal.returns-in-Ok-clause-parsed
returns-in-Ok-clause-parsed c = record {
  meant = ap meaning_of c.in-Whole.is ∙ rw c.deref.ensures.value at c.in-Ok.ensures.read;
  in_range = c.in-Ok.ensures.ranges;
  few = few_requests c.deref.result.now c.in-Ok.requests.items c.in-Ok.ensures.read;
}
