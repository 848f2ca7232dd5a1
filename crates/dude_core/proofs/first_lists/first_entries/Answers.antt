use Rattle.dude_core.proofs.Started.{entries_more}
use Rattle.dude_core.proofs.first_lists.first_entries.Goals as goal

pub loop-page-preserved : goal.loop-page-preserved
loop-page-preserved c = entries_more c.args.z.now.frames c.loop-page.page c.first_entry.result c.loop-page.entries.items c.push.new.self.items c.loop-page.invariant c.first_entry.ensures c.in_ok-push.ensures.items
