-- What a worker has sent of what it has done.
use Rattle.std.specs.Prelude.{◌≡◌, ◌≤◌, ◌⊎◌, List, length, take}
use Rattle.tatp_model.specs.declared.done.Done.{Done}
use Rattle.dude_stream.specs.declared.outbox.Outbox.{Outbox}
use Rattle.dude_stream.specs.Lanes.{free_for, sent_by}

-- just the first so many of what is done were sent
pub record HasSent (done : List Done) (o : Outbox) : Type 0 where
  pub few : o.sent ≤ length done
  pub first : sent_by o.feed ≡ take o.sent done

-- all that is done was sent, or the lane had no place for the next one
abbrev pub SentAll : List Done → Outbox → Type 0
SentAll done o = (o.sent ≡ length done) ⊎ (free_for o.feed ≡ 0)
