-- What a worker makes of a turn's answer.
use Rattle.std.specs.Prelude.{ℕ, Result, Ok, Err}
use Rattle.request_attempts.specs.declared.turn_fault.TurnFault.{TurnFault}
use Rattle.request_attempts.specs.declared.turn_fault.TurnFault.TheVariants.{Refused, Fault}
use Rattle.tiny_stm.specs.declared.fetch_fault.FetchFault.{FetchFault}
use Rattle.tiny_stm.specs.declared.fetch_fault.FetchFault.TheVariants as fetch
use Rattle.stm_turns.specs.declared.pumped.Pumped.{Pumped}
use Rattle.stm_turns.specs.declared.pump_fault.PumpFault.{PumpFault}
use Rattle.stm_turns.specs.declared.pump_fault.PumpFault.TheVariants as pump

-- the durable number; a turn that is another's is a refusal
abbrev pub pump_answer : Result Pumped PumpFault → Result ℕ TurnFault
pump_answer (Ok pumped) = Ok pumped.durable
pump_answer (Err (pump.Held seen)) = Err Refused
pump_answer (Err pump.Device) = Err Fault
pump_answer (Err pump.Dead) = Err Fault

-- a turn that is another's is a refusal, and so is a page that can't be shown now
abbrev pub fetch_answer : Result (Unit {0}) FetchFault → Result (Unit {0}) TurnFault
fetch_answer (Ok done) = Ok done
fetch_answer (Err (fetch.Held seen)) = Err Refused
fetch_answer (Err (fetch.Behind touch reproduced)) = Err Refused
fetch_answer (Err (fetch.AllPinned page seen)) = Err Refused
fetch_answer (Err fetch.Device) = Err Fault
fetch_answer (Err fetch.Dead) = Err Fault
