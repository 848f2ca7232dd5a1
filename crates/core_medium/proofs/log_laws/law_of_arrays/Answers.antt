use Rattle.core_medium.proofs.LogCalls.{array_law}
use Rattle.core_medium.proofs.log_laws.law_of_arrays.Goals as goal

pub returns : goal.returns
returns c = λ z g b l number array k s long is. array_law z g b l number array k s long is
