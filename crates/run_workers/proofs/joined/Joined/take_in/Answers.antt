use Rattle.std.proofs.Common.{◌≡◌, ◌∷◌, [], ◌++◌, length, ap, ◌∙◌, arith}
use Rattle.run_workers.proofs.JobsJoined.{taken_in}
use Rattle.run_workers.proofs.joined.Joined.take_in.Goals as goal

pub returns-clause-joined : goal.returns-clause-joined
returns-clause-joined g c =
    let old = c.args.self.now in
    let job = c.args.job in
    let count : c.len.result ≡ length job.done.items = omega (arith, c.len.ensures, job.done.ok.0) in
    let done : c.append.new.done.items ≡ old.done.items ++ job.done.items = c.append.ensures.items ∙ ap (λ l. old.done.items ++ l) c.deref.ensures.value in
    let counts : c.push_reserved.new.self.items ≡ old.counts.items ++ length job.done.items ∷ [] = c.push_reserved.ensures.items ∙ ap (λ n. old.counts.items ++ n ∷ []) count in
    let end = c.worse-self.ensures in
    taken_in c.args.stm.now.events job old _ c.requires.other c.join.ensures.joined done counts end.either end.first end.second
