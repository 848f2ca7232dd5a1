use Rattle.legal_entries.proofs.Carrying.{law_done, law_numbered}
use Rattle.legal_entries.proofs.Law.{law}
use Rattle.legal_entries.proofs.Serving.{served_entry}
use Rattle.legal_entries.proofs.laws.law_of_served_entries.Goals as goal

pub returns-clause-served : goal.returns-clause-served
returns-clause-served c = served_entry

pub returns-clause-leads : goal.returns-clause-leads
returns-clause-leads c = law

pub returns-clause-done : goal.returns-clause-done
returns-clause-done c = law_done

pub returns-clause-numbered : goal.returns-clause-numbered
returns-clause-numbered c = law_numbered
