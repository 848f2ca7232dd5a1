use Rattle.std.proofs.Common.{◌≡◌, ◌*◌, ◌∙◌, sym, ap, subst}
use Rattle.dude_base.specs.declared.sizes.Sizes.{Sizes}
use Rattle.dude_base.specs.Image.{home_word}
use Rattle.redo_record.specs.BackCalls.{read_page_calls}
use Rattle.back_store.specs.Answers.{CallsAnswered}
use Rattle.back_store.specs.BackView.{sight_of}
use Rattle.back_store.proofs.AnsweredCalls.{calls_at_device}
use Rattle.back_store.proofs.PageReads.{reads_from}
use Rattle.back_store.proofs.back.Back.read_into.Goals as goal

pub returns-in-Ok-clause-calls : goal.returns-in-Ok-clause-calls
returns-in-Ok-clause-calls g c =
    let at : c.home-at.result ≡ home_word c.args.self.now.log.sizes (c.args.page * 64) = c.home-at.ensures.place ∙ ap (λ (s : Sizes). home_word s (c.args.page * 64)) c.place.ensures.sizes in
    reads_from at c.in-Ok.ensures.made

pub returns-in-Err-clause-calls : goal.returns-in-Err-clause-calls
returns-in-Err-clause-calls g c =
    let at : c.home-at.result ≡ home_word c.args.self.now.log.sizes (c.args.page * 64) = c.home-at.ensures.place ∙ ap (λ (s : Sizes). home_word s (c.args.page * 64)) c.place.ensures.sizes in
    subst (λ m. CallsAnswered c.die.result (read_page_calls c.args.self.now.log.sizes c.args.page) (sight_of c.args.self.now) (g.M.Medium.sight m)) (sym c.die.ensures.medium)
    (calls_at_device c.die.ensures.fault (reads_from at c.in-Err.ensures.made))
