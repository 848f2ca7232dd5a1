-- Which records a bundle takes, and why it refuses one; and what a joined bundle writes.
use Rattle.std.specs.Prelude.{◌≡◌, ◌≢◌, ℕ, ◌+◌, ◌<◌, ◌≤◌, List, length}
use Rattle.std.specs.Option.{option_or}
use Rattle.dude_base.specs.declared.limits.TheConstants.{MAX_SPAN, MAX_BUNDLE_WRITES}
use Rattle.dude_base.specs.declared.no_join.NoJoin.{NoJoin}
use Rattle.dude_base.specs.declared.no_join.NoJoin.TheVariants.{Gap, Long, Broad}
use Rattle.dude_base.specs.Records.{RedoRecord, RedoBundle, with_next}
use Rattle.dude_base.specs.Writes.{HasDistinctPlaces, written, overwritten, put_all}

-- how many different words a bundle and a record write together
abbrev pub places_of : RedoBundle → RedoRecord → ℕ
places_of b r = length (put_all b.writes r.writes)

-- the bundle takes the record
pub record CanJoin (b : RedoBundle) (r : RedoRecord) : Type 0 where
  pub next : r.number ≡ b.last + 1
  pub short : b.span < MAX_SPAN
  pub narrow : places_of b r ≤ MAX_BUNDLE_WRITES

-- the first reason that a bundle doesn't take a record
abbrev pub Refuses : NoJoin → RedoBundle → RedoRecord → Type 0
Refuses (Gap last number) b r = (last ≡ b.last) × (number ≡ r.number) × (number ≢ last + 1)
Refuses (Long span) b r = (r.number ≡ b.last + 1) × (span ≡ b.span) × (span ≡ MAX_SPAN)
Refuses (Broad places) b r = (r.number ≡ b.last + 1) × (b.span < MAX_SPAN) × (places ≡ places_of b r) × (MAX_BUNDLE_WRITES < places)

-- A joined bundle writes what the record writes, and else what it wrote before; overwriting an array by it is overwriting it
-- by the old bundle, and then by the record.
pub record LawOfJoining : Type 0 where
  pub writes : (b : RedoBundle) (r : RedoRecord) (i : ℕ) → HasDistinctPlaces r.writes → written (with_next b r).writes i ≡ option_or (written r.writes i) (written b.writes i)
  pub effect : (b : RedoBundle) (r : RedoRecord) (array : List ℕ) → HasDistinctPlaces r.writes → overwritten (with_next b r).writes array ≡ overwritten r.writes (overwritten b.writes array)
