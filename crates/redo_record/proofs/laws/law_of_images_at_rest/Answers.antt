use Rattle.redo_record.proofs.Recovered.{images_at_rest_law}
use Rattle.redo_record.proofs.laws.law_of_images_at_rest.Goals as goal

pub returns : goal.returns
returns c = images_at_rest_law
