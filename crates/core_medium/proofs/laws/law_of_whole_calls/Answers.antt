use Rattle.core_medium.proofs.WholeCalls.{whole_leads}
use Rattle.core_medium.proofs.laws.law_of_whole_calls.Goals as goal

pub returns : goal.returns
returns c = λ z b d who v back calls there live threaded turn may whole. whole_leads z b who v there live threaded turn back calls d may whole
