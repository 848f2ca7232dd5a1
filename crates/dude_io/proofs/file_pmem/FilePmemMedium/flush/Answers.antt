use Rattle.std.proofs.Common.{ap, subst, ◌∙◌, ◌++◌, ◌∷◌, [], List}
use Rattle.dude_io.specs.declared.file_words.FileWords.{FileWords}
use Rattle.dude_io.specs.declared.line.Line.{Line}
use Rattle.dude_io.specs.FileWords.{words_of}
use Rattle.dude_io.specs.Line.{IsLineOf}
use Rattle.dude_io.proofs.file_pmem.FilePmemMedium.flush.Goals as goal

pub returns-clause-noted : goal.returns-clause-noted
returns-clause-noted g c =
    let note = c.note.ensures.noted in (
      note.0,
      note.1 ∙ ap (λ (lines : List Line). lines ++ note.0 ∷ []) c.in_ok-make_room.ensures.made,
      subst (λ (words : FileWords). IsLineOf (words_of words) c.args.line note.0) c.in_ok-make_room.ensures.words note.2,
    )
