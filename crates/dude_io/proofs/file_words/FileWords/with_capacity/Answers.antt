use Rattle.dude_io.proofs.Pieces.{no_words}
use Rattle.dude_io.proofs.file_words.FileWords.with_capacity.Goals as goal

pub returns-clause-words : goal.returns-clause-words
returns-clause-words c = no_words _ _ c.in_ok-with_capacity.ensures.items
