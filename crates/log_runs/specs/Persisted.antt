-- The numbers of bundles that were persisted.
use Rattle.std.specs.Prelude.{◌==◌, ◌≢◌, ◌⊎◌, ◌<◌, ◌&&◌, ◌||◌, ℕ, Bool, false, List, [], ◌∷◌}
use Rattle.dude_base.specs.Records.{first_of}
use Rattle.redo_record.specs.Waiting.{Waiting}
use Rattle.log_runs.specs.declared.persisted.Persisted.{Persisted}

-- the ring of a waiting bundle, its first number and its last
abbrev pub numbers_of : Waiting → Persisted
numbers_of w = record { ring = w.ring; first = first_of w.redo; last = w.redo.last }

-- a bundle of these numbers was persisted
abbrev pub is_listed : List Persisted → Persisted → Bool
is_listed [] q = false
is_listed (p ∷ ps) q = ((p.ring == q.ring) && ((p.first == q.first) && (p.last == q.last))) || is_listed ps q

-- a bundle of these numbers may be persisted in this ring behind that one: it comes behind its numbers, or, in another ring,
-- before them
abbrev pub MayComeBehind : ℕ → ℕ → ℕ → Persisted → Type 0
MayComeBehind ring first last before = (before.last < first) ⊎ ((last < before.first) × (before.ring ≢ ring))
