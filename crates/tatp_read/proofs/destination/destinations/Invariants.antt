use Rattle.std.proofs.Common.{◌≡◌, ◌≤◌, ◌+◌, ◌*◌, ◌-◌, None, ℕ, List}
use Rattle.word_space.specs.Sights.{IsBelow, shown}
use Rattle.word_space.specs.Steps.{WordsUsed}
use Rattle.tatp_model.specs.Database.{Database}
use Rattle.tatp_model.specs.Numbers.{numbers_of}
use Rattle.tatp_layout.specs.StandsFor.{StandsFor}
use Rattle.tatp_read.specs.Lookups.{call_reads}
use Rattle.tatp_read.specs.Forwarding.{numbers_within}
use Rattle.tatp_read.proofs.destination.destinations.Given as goal

abbrev pub invariant-loop-key : goal.invariant-loop-key
invariant-loop-key g l = record {
  uses : WordsUsed g.W.Words.sight g.W.Words.turns_into ((l.key - l.first) * call_reads l.lay) 0 None l.initial.w l.w;
  few : l.phones.count + l.first ≤ l.key;
  numbers : (array : List ℕ) → IsBelow (g.W.Words.sight l.w) array → (db : Database) → StandsFor l.lay (shown (g.W.Words.sight l.initial.w) array) db →
      l.phones ≡ numbers_of (numbers_within l.first l.key l.end_time db.calls);
}
