-- What workers send of what they do.
use Rattle.std.specs.Prelude.{◌≡◌, ℕ, ◌<◌, Option, None, Some, List, ◌++◌, ⊤, IfSome, All, length, slice_index_or}
use Rattle.tatp_model.specs.declared.done.Done.{Done}
use Rattle.dude_stream.specs.declared.outbox.Outbox.{Outbox}
use Rattle.dude_stream.specs.Lanes.{IsSameFeed}
use Rattle.dude_stream.specs.Outboxes.{HasSent}
use Rattle.run_workers.specs.declared.job.Job.{Job}

-- where the worker sends, it sent just the first so many replies
abbrev pub SendsFirst : {X : Type 0} → Job X → Type 0
SendsFirst job = IfSome job.outbox (HasSent job.done.items)

-- both are ends of one lane, or there is none
abbrev pub IsSameLane : Option Outbox → Option Outbox → Type 0
IsSameLane None None = ⊤
IsSameLane None (Some b) = ⊥
IsSameLane (Some a) None = ⊥
IsSameLane (Some a) (Some b) = IsSameFeed a.feed b.feed

-- what was done stays, and what is done stands behind
abbrev pub DoesMore : {X : Type 0} → Job X → Job X → Type 0
DoesMore old new = (more : List Done) × (new.done.items ≡ old.done.items ++ more)

-- each job sends into its lane still
abbrev pub KeepLanes : {X : Type 0} → List (Job X) → List (Job X) → Type 0
KeepLanes {X} old new = (i : ℕ) (d : Job X) → i < length old → IsSameLane (slice_index_or old i d).outbox (slice_index_or new i d).outbox

-- each job sent first replies
abbrev pub SendFirst : {X : Type 0} → List (Job X) → Type 0
SendFirst jobs = All SendsFirst jobs
