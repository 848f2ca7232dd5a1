use Rattle.dude_stream.proofs.Streaming.{stopped_law, stopped_rests_law, whole_law}
use Rattle.dude_stream.proofs.law.law_of_streams.Goals as goal

pub returns : goal.returns
returns c = record { whole = whole_law; stopped_in_the_rest = stopped_rests_law; stopped = stopped_law }
