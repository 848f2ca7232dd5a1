-- What went into a lane, and what came out of it.
use Rattle.std.specs.Prelude.{◌≡◌, ℕ, List, [], ◌++◌}
use Rattle.rtrb.specs.Ring.{IsPair, SameConsumer, SameProducer, known_free, known_items, producer_capacity, received, sent}
use Rattle.tatp_model.specs.declared.done.Done.{Done}
use Rattle.dude_stream.specs.declared.drain.Drain.{Drain}
use Rattle.dude_stream.specs.declared.feed.Feed.{Feed}

-- what was sent, oldest first
abbrev pub sent_by : Feed → List Done
sent_by feed = sent feed.producer

-- what was received, oldest first
abbrev pub received_by : Drain → List Done
received_by drain = received drain.consumer

-- how many replies a lane takes while none is received
abbrev pub room_of : Feed → ℕ
room_of feed = producer_capacity feed.producer

-- how many places the feed knows to be free
abbrev pub free_for : Feed → ℕ
free_for feed = known_free feed.producer

-- the replies that the drain knows to be there
abbrev pub known_to : Drain → List Done
known_to drain = known_items drain.consumer

-- the two ends of one lane
abbrev pub IsLane : Feed → Drain → Type 0
IsLane feed drain = IsPair feed.producer drain.consumer × (drain.file ≡ feed.file)

-- the feed of the same lane
abbrev pub IsSameFeed : Feed → Feed → Type 0
IsSameFeed a b = SameProducer a.producer b.producer × (b.file ≡ a.file)

-- the drain of the same lane
abbrev pub IsSameDrain : Drain → Drain → Type 0
IsSameDrain a b = SameConsumer a.consumer b.consumer × (b.file ≡ a.file)

-- an empty lane of this file, with this room
pub record IsNewLane (file room : ℕ) (feed : Feed) (drain : Drain) : Type 0 where
  pub lane : IsLane feed drain
  pub file_is : feed.file ≡ file
  pub room_is : room_of feed ≡ room
  pub sent_none : sent_by feed ≡ []
  pub received_none : received_by drain ≡ []

-- what was received is the first part of what was sent
abbrev pub HasReceived : List Done → List Done → Type 0
HasReceived sent received = (rest : List Done) × (sent ≡ received ++ rest)
