use Rattle.std.proofs.Common.{◌≡◌, is_ok, false, rules, ◌∙◌}
use Rattle.pmem_trait.specs.Sights.{CallsMade.step, CallsMade.stop}
use Rattle.pmem_trait.proofs.Runs.{goes_alone, made_stop, made_then}
use Rattle.dude_recover.proofs.Loops.{contents_made}
use Rattle.dude_recover.proofs.image_writing.settle_contents.Goals as goal

pub clear_cells-requires : goal.clear_cells-requires
clear_cells-requires g c = record { room = rw c.in_ok-put.ensures.later.len c.requires.room }

pub put_home-requires-clause-room : goal.put_home-requires-clause-room
put_home-requires-clause-room g c = rw (c.in_ok-clear_cells.ensures.len ∙ c.in_ok-put.ensures.later.len) c.requires.room

pub flush_contents-requires : goal.flush_contents-requires
flush_contents-requires g c = record { room = rw (c.in_ok-put_home.ensures.len ∙ c.in_ok-clear_cells.ensures.len ∙ c.in_ok-put.ensures.later.len) c.requires.room }

pub returns-in_err-put-clause-len : goal.returns-in_err-put-clause-len
returns-in_err-put-clause-len g c = c.in_err-put.ensures.later.len

pub returns-in_err-put-clause-made : goal.returns-in_err-put-clause-made
returns-in_err-put-clause-made g c =
    let err : is_ok c.from_residual.result ≡ false = search rules in
    rw err (contents_made c.args.place.now c.args.home.now (stop c.in_err-put.ensures))

pub returns-in_err-clear_cells-clause-len : goal.returns-in_err-clear_cells-clause-len
returns-in_err-clear_cells-clause-len g c = c.in_err-clear_cells.ensures.len ∙ c.in_ok-put.ensures.later.len

pub returns-in_err-clear_cells-clause-made : goal.returns-in_err-clear_cells-clause-made
returns-in_err-clear_cells-clause-made g c =
    let err : is_ok c.from_residual-in_err-clear_cells.result ≡ false = search rules in
    rw err (contents_made c.args.place.now c.args.home.now (step c.in_ok-put.ensures (made_stop _ c.in_err-clear_cells.ensures.made)))

pub returns-in_err-put_home-clause-len : goal.returns-in_err-put_home-clause-len
returns-in_err-put_home-clause-len g c = c.in_err-put_home.ensures.len ∙ c.in_ok-clear_cells.ensures.len ∙ c.in_ok-put.ensures.later.len

pub returns-in_err-put_home-clause-made : goal.returns-in_err-put_home-clause-made
returns-in_err-put_home-clause-made g c =
    let err : is_ok c.from_residual-in_err-put_home.result ≡ false = search rules in
    rw err (contents_made c.args.place.now c.args.home.now (step c.in_ok-put.ensures (made_then c.in_ok-clear_cells.ensures.made (made_stop _ c.in_err-put_home.ensures.made))))

pub returns-in_err-flush_contents-clause-len : goal.returns-in_err-flush_contents-clause-len
returns-in_err-flush_contents-clause-len g c = c.in_err-flush_contents.ensures.len ∙ c.in_ok-put_home.ensures.len ∙ c.in_ok-clear_cells.ensures.len ∙ c.in_ok-put.ensures.later.len

pub returns-in_err-flush_contents-clause-made : goal.returns-in_err-flush_contents-clause-made
returns-in_err-flush_contents-clause-made g c =
    let err : is_ok c.from_residual-in_err-flush_contents.result ≡ false = search rules in
    rw err (contents_made c.args.place.now c.args.home.now
    (step c.in_ok-put.ensures (made_then c.in_ok-clear_cells.ensures.made (made_then c.in_ok-put_home.ensures.made (made_stop _ c.in_err-flush_contents.ensures.made)))))

pub returns-clause-len : goal.returns-clause-len
returns-clause-len g c = c.fence.ensures.later.len ∙ c.in_ok-flush_contents.ensures.len ∙ c.in_ok-put_home.ensures.len ∙ c.in_ok-clear_cells.ensures.len ∙ c.in_ok-put.ensures.later.len

pub returns-clause-made : goal.returns-clause-made
returns-clause-made g c =
    contents_made c.args.place.now c.args.home.now
    (step c.in_ok-put.ensures (made_then c.in_ok-clear_cells.ensures.made (made_then c.in_ok-put_home.ensures.made (made_then c.in_ok-flush_contents.ensures.made (goes_alone (is_ok c.fence.result) c.fence.ensures)))))
