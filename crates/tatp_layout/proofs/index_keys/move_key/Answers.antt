use Rattle.std.proofs.Common.{lit≤}
use Rattle.word_space.proofs.Runs.{used_more, used_none}
use Rattle.tatp_layout.proofs.Moved.{key_stays, moves_key}
use Rattle.std.proofs.lemmas.Result.{IfOk-weaker}
use Rattle.tatp_layout.proofs.index_keys.move_key.Goals as goal

pub returns-then-from-to-clause-uses : goal.returns-then-from-to-clause-uses
returns-then-from-to-clause-uses g c = used_more used_none (lit≤ tt) (lit≤ tt)

pub returns-then-from-to-clause-moves : goal.returns-then-from-to-clause-moves
returns-then-from-to-clause-moves g c = λ array below. key_stays c.if-from-to.true

pub returns-clause-moves : goal.returns-clause-moves
returns-clause-moves g c = IfOk-weaker c.replace.result _ _ (λ done replaces array below. moves_key c.if-from-to.false (replaces array below)) c.replace.ensures.replaces
