use Rattle.std.proofs.Common.{◌≡◌, ◌+◌, ◌*◌, ◌<◌, ℕ, length, ap, ◌∙◌, arith}
use Rattle.std.specs.Prelude.{Some}
use Rattle.std.proofs.lemmas.List.FromFn.{length-map-range_with_len}
use Rattle.dude_base.specs.declared.limits.TheConstants.{PAGE}
use Rattle.dude_base.specs.Image.{home_word}
use Rattle.pmem_trait.specs.declared.call.Call.TheVariants.{Read}
use Rattle.redo_record.specs.BackCalls.{read_page_calls}
use Rattle.dude_core.proofs.CallLists.{reads_at}
use Rattle.dude_core.proofs.page_reads.PageReadsCallList.get.Goals as goal

pub returns : goal.returns
returns c =
    let a = c.args.self.now in
    let long : length (read_page_calls a.place a.page) ≡ PAGE = length-map-range_with_len Read (home_word a.place (a.page * PAGE)) PAGE in
    let few : c.args.k < PAGE = (let lt = c.requires in omega arith) in
    let at : home_word a.place (a.page * PAGE) + c.args.k ≡ c.home.result = (let is = c.home.ensures.place in omega arith) in
    reads_at (home_word a.place (a.page * PAGE)) PAGE c.args.k few ∙ ap (λ (m : ℕ). Some (Read m)) at
