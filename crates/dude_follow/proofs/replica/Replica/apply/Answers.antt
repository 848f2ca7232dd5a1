use Rattle.std.proofs.Common.{◌≡◌, [], ◌∷◌, ap, false, is_ok, rules}
use Rattle.back_store.specs.Back.{BackState}
use Rattle.back_store.specs.BackView.{sight_of, state_of}
use Rattle.dude_follow.specs.Replica.{replica_back, replica_sight}
use Rattle.dude_follow.proofs.Applying.{announced_waits, rests_behind}
use Rattle.dude_follow.proofs.Chains.{applies_one, goes_then, goes_through, through_one, through_same}
use Rattle.dude_follow.proofs.replica.Replica.apply.Goals as goal

pub persist-requires-clause-rests : goal.persist-requires-clause-rests
persist-requires-clause-rests g c = record {
  alive = c.requires.alive;
  lawful = c.durable-durable.ensures.lawful;
  durable = c.args.self.now.announced c.requires.alive;
  none_waits = c.args.self.now.none_waits c.requires.alive;
}

pub returns-in_err-announce-clause-goes_on : goal.returns-in_err-announce-clause-goes_on
returns-in_err-announce-clause-goes_on g c =
    let err : is_ok c.from_residual-in_err-announce.result ≡ false = search rules in
    rw err (goes_then (replica_back c.args.self.now) (state_of c.persist.new.back) (state_of c.announce.new.back) (replica_sight c.args.self.now) (sight_of c.persist.new.back) (sight_of c.announce.new.back)
    c.in_ok-persist.ensures.goes_on c.in_err-announce.ensures.goes_on)

pub returns-in_err-reproduce_all-clause-goes_on : goal.returns-in_err-reproduce_all-clause-goes_on
returns-in_err-reproduce_all-clause-goes_on g c =
    let err : is_ok c.from_residual-in_err-reproduce_all.result ≡ false = search rules in
    rw err (goes_through (replica_back c.args.self.now) (state_of c.persist.new.back) (state_of c.announce.new.back) (state_of c.reproduce_all.new.back) (replica_sight c.args.self.now) (sight_of c.persist.new.back) (sight_of c.announce.new.back) (sight_of c.reproduce_all.new.back)
    c.in_ok-persist.ensures.goes_on c.in_ok-announce.ensures.goes_on c.in_err-reproduce_all.ensures.goes_on)

pub returns-clause-goes_on : goal.returns-clause-goes_on
returns-clause-goes_on g c = goes_through (replica_back c.args.self.now) (state_of c.persist.new.back) (state_of c.announce.new.back) (state_of c.reproduce_all.new.back) (replica_sight c.args.self.now) (sight_of c.persist.new.back) (sight_of c.announce.new.back) (sight_of c.reproduce_all.new.back)
    c.in_ok-persist.ensures.goes_on c.in_ok-announce.ensures.goes_on c.in_ok-reproduce_all.ensures.goes_on

pub returns-in_err-announce-clause-moments : goal.returns-in_err-announce-clause-moments
returns-in_err-announce-clause-moments g c =
    let one = c.in_ok-persist.ensures in
    through_same (replica_back c.args.self.now) (state_of c.persist.new.back) (replica_sight c.args.self.now) (sight_of c.persist.new.back) (sight_of c.announce.new.back) (c.args.b.now ∷ [])
    one.goes_on.sizes one.persists.number one.persists.overwrites one.moments (c.in_err-announce.ensures.moments c.args.b.now one.persists.waits)

pub invariant_of-self-2 : goal.invariant_of-self-2
invariant_of-self-2 g c =
    let x : BackState = state_of c.announce.new.back in
    let b = c.args.b.now in
    let one = c.in_ok-persist.ensures in
    let other = c.in_ok-announce.ensures.announces b one.persists.waits in
    let rests = rests_behind c.reproduce_all.result x (state_of c.reproduce_all.new.back) (sight_of c.announce.new.back) (sight_of c.reproduce_all.new.back) b c.reproduce_all.ensures.goes_on c.reproduce_all.ensures.reproduces
    (announced_waits (state_of c.persist.new.back) x b one.persists.waits other.back) (ap (λ (y : BackState). y.log.durable) other.back) in
    record { announced = λ alive. (rests alive).durable; none_waits = λ alive. (rests alive).none_waits }

pub returns-in_err-reproduce_all-clause-moments : goal.returns-in_err-reproduce_all-clause-moments
returns-in_err-reproduce_all-clause-moments g c = through_one c.args.b.now (replica_back c.args.self.now) (state_of c.persist.new.back) (state_of c.announce.new.back) (replica_sight c.args.self.now) (sight_of c.persist.new.back) (sight_of c.announce.new.back) (sight_of c.reproduce_all.new.back)
    c.in_ok-persist.ensures.goes_on c.in_ok-announce.ensures.goes_on c.in_ok-persist.ensures.persists c.in_ok-announce.ensures.announces c.in_ok-persist.ensures.moments c.in_ok-announce.ensures.moments c.in_err-reproduce_all.ensures.moments

pub returns-clause-applies : goal.returns-clause-applies
returns-clause-applies g c =
    let w : BackState = state_of c.persist.new.back in
    let x : BackState = state_of c.announce.new.back in
    let b = c.args.b.now in
    let one = c.in_ok-persist.ensures in
    let two = c.in_ok-announce.ensures in
    let other = two.announces b one.persists.waits in
    applies_one b (replica_back c.args.self.now) w x (state_of c.reproduce_all.new.back) (replica_sight c.args.self.now) (sight_of c.persist.new.back) (sight_of c.announce.new.back) (sight_of c.reproduce_all.new.back)
    one.goes_on two.goes_on c.requires.next one.persists other
    (c.in_ok-reproduce_all.ensures.reproduces b (announced_waits w x b one.persists.waits other.back) (ap (λ (y : BackState). y.log.durable) other.back))

pub returns-clause-moments : goal.returns-clause-moments
returns-clause-moments g c = through_one c.args.b.now (replica_back c.args.self.now) (state_of c.persist.new.back) (state_of c.announce.new.back) (replica_sight c.args.self.now) (sight_of c.persist.new.back) (sight_of c.announce.new.back) (sight_of c.reproduce_all.new.back)
    c.in_ok-persist.ensures.goes_on c.in_ok-announce.ensures.goes_on c.in_ok-persist.ensures.persists c.in_ok-announce.ensures.announces c.in_ok-persist.ensures.moments c.in_ok-announce.ensures.moments c.in_ok-reproduce_all.ensures.moments
