use Rattle.redo_record.proofs.HeldLog.{read_page_law}
use Rattle.redo_record.proofs.back_laws.law_of_read_page.Goals as goal

pub returns : goal.returns
returns c = read_page_law
