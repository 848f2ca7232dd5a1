use Rattle.run_order.proofs.Databases.{law_writers}
use Rattle.run_order.proofs.NumbersPrinted.{law_printed, law_parts, law_replies, law_databases}
use Rattle.run_order.proofs.numbered.law_of_numbered_requests.Goals as goal

pub returns : goal.returns
returns c = record { printed = law_printed; parts = law_parts; replies = law_replies; databases = law_databases; writers = law_writers }
