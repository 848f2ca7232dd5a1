use Rattle.tatp_csv.proofs.RoundTrip.{requests_of-requests_text}
use Rattle.tatp_csv.proofs.laws.law_of_request_text.Goals as goal

pub returns : goal.returns
returns c = requests_of-requests_text
