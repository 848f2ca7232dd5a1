use Rattle.clap.specs.Words.{app_of, is_simple}
use Rattle.command_edges.proofs.NumberWords.{both}
use Rattle.command_edges.proofs.matches.matches_in.Goals as goal

pub returns-in-Ok : goal.returns-in-Ok
returns-in-Ok c =
    let simple = both (is_simple (app_of c.args.command)) _ c.requires in
    (c.in-Ok.ensures.kinds c.requires, (c.in-Ok.ensures.matches simple.0).0)
