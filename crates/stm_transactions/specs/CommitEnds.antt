-- How a transaction ends.
use Rattle.std.specs.Prelude.{◌≡◌, ℕ, ◌+◌, ◌<◌, ◌≤◌, Bool, true, false, List, [], ◌∷◌, ◌++◌, length, map, All, Some}
use Rattle.atomic_table.specs.declared.shared.Seat.{Seat}
use Rattle.dude_base.specs.declared.write.Write.{Write}
use Rattle.word_space.specs.declared.stop.Stop.{Stop}
use Rattle.word_space.specs.declared.stop.Stop.TheVariants as stop
use Rattle.core_events.specs.Setups.{Setup, lock_of}
use Rattle.core_events.specs.Keyed.{has}
use Rattle.core_events.specs.Views.{the_lock, About, View}
use Rattle.core_events.specs.Events.{is_good, place_behind}
use Rattle.core_events.specs.Conditions.{IsIdle}
use Rattle.core_table.specs.Known.{Known}
use Rattle.core_table.specs.Layout.{TableSight}
use Rattle.stm_transactions.specs.Seats.{HasNotFallen, HasRisen}
use Rattle.core_table.specs.Abouts.{about_of}
use Rattle.stm_transactions.specs.declared.commit.Commit.{Commit}
use Rattle.core_table.specs.declared.served.Served.{Served}
use Rattle.stm_transactions.specs.declared.lost.Lost.{Lost}
use Rattle.stm_transactions.specs.declared.lost.Lost.TheVariants as lost
use Rattle.stm_transactions.specs.Pages.{IsPageStop}

-- whether there are writes
abbrev pub has_writes : List Write → Bool
has_writes [] = false
has_writes (w ∷ ws) = true

-- the number n, where there are writes
abbrev pub drawn_for : List Write → ℕ → List ℕ
drawn_for [] n = []
drawn_for (w ∷ ws) n = n ∷ []

-- the place of the next box, behind a transaction with these writes
abbrev pub next_for : Setup → List Write → ℕ → ℕ
next_for z [] place = place
next_for z (w ∷ ws) place = place_behind z place

-- v's transaction made this entry with the number n: the snapshot, or where there are writes one that was drawn
pub record HasEntered (z : Setup) (n : ℕ) (a : About) (reads : List (ℕ × ℕ)) (ws : List Write) (v w : View) : Type 0 where
  pub part : w.part ≡ v.part
  pub turn : w.turn ≡ v.turn
  pub drawn : w.drawn ≡ v.drawn ++ drawn_for ws n
  pub draws : w.draws + length (drawn_for ws n) ≡ v.draws
  pub entries : w.entries ≡ v.entries ++ (record { number = n; wrote = has_writes ws; about = a; reads = reads; writes = ws }) ∷ []
  pub from : z.first ≤ n
  pub upto : All (λ e. e.number ≤ n) v.entries
  pub over : 0 < length ws → (z.first < n) × All (λ e. e.number < n) v.entries
  pub newest : 0 < length ws → (m : ℕ) → has v.drawn m ≡ true → m < n
  pub reader : ws ≡ [] → n ≡ v.tx.snapshot
  pub idle : IsIdle w
  pub next : w.box.next ≡ next_for z ws v.box.next

-- it made none, and its number n is void, since the lock of a read isn't good
pub record HasLost (z : Setup) (thread snapshot : ℕ) (reads : List (ℕ × ℕ)) (lock seen n : ℕ) (v w : View) : Type 0 where
  pub part : w.part ≡ v.part
  pub turn : w.turn ≡ v.turn
  pub draws : w.draws + 1 ≡ v.draws
  pub drawn : w.drawn ≡ v.drawn ++ n ∷ []
  pub entries : w.entries ≡ v.entries
  pub over : All (λ e. e.number < n) v.entries
  pub newest : (m : ℕ) → has v.drawn m ≡ true → m < n
  pub idle : IsIdle w
  pub next : w.box.next ≡ place_behind z v.box.next
  pub found : w.found ≡ Some (the_lock lock, seen)
  pub counted : HasRisen v.count w.count
  pub of_read : has (map (λ r. lock_of z r.0) reads) lock ≡ true
  pub bad : is_good (Some thread) snapshot seen ≡ false

-- v's transaction ended without an entry and without a draw
pub record HasEnded (v w : View) : Type 0 where
  pub part : w.part ≡ v.part
  pub turn : w.turn ≡ v.turn
  pub draws : w.draws ≡ v.draws
  pub drawn : w.drawn ≡ v.drawn
  pub entries : w.entries ≡ v.entries
  pub box : w.box ≡ v.box
  pub idle : IsIdle w
  pub counted : HasNotFallen v.count w.count

-- and since a page of the writes couldn't be pinned: w is the view then, but for the locks and pins that it still had
pub record HasMissed (z : Setup) (ws : List Write) (stop : Stop) (v w : View) : Type 0 where
  pub ended : HasEnded v w
  pub at : View
  pub why : IsPageStop z ws stop at
  pub undone : w ≡ record at { tx = record at.tx { owned = [] }; paging = record at.paging { pins = [] } }
  pub counted : HasRisen v.count w.count

-- why a commit with writes was lost
abbrev pub IsLost : Setup → ℕ → ℕ → List (ℕ × ℕ) → List Write → Lost → View → View → Type 0
IsLost z thread snapshot reads ws (lost.Out page) v w = HasMissed z ws (stop.Out page) v w
IsLost z thread snapshot reads ws (lost.Busy page seen) v w = HasMissed z ws (stop.Busy page seen) v w
IsLost z thread snapshot reads ws (lost.Conflict lock seen n) v w = HasLost z thread snapshot reads lock seen n v w

-- a page couldn't be pinned
abbrev pub IsPinStop : Stop → Type 0
IsPinStop (stop.Out page) = Unit {0}
IsPinStop (stop.Busy page seen) = Unit {0}
IsPinStop _ = ⊥

-- and the commit is lost for it
abbrev pub AsLost : Stop → Lost → Type 0
AsLost (stop.Out page) l = l ≡ lost.Out page
AsLost (stop.Busy page seen) l = l ≡ lost.Busy page seen
AsLost _ l = ⊥

-- ---- of a seat
module _ {S X : Type 0} where
  -- the transaction made its entry, with this number
  abbrev pub Enters : {K : Type 0} → Served → Commit → TableSight K → Seat S (Known X) → Seat S (Known X) → ℕ → Type 0
  Enters s c t old new n = HasEntered t.setup n (about_of s) c.reads.now c.writes.now old.me.0.view new.me.0.view

  -- it made none, and this is why
  abbrev pub IsLostBy : {K : Type 0} → Commit → TableSight K → Seat S (Known X) → Seat S (Known X) → Lost → Type 0
  IsLostBy c t old new l = IsLost t.setup c.thread c.snapshot c.reads.now c.writes.now l old.me.0.view new.me.0.view

  -- the view is as before, but for its locks and pins, of which it has none
  abbrev pub OnlyUndoes : Seat S (Known X) → Seat S (Known X) → Type 0
  OnlyUndoes old new = new.me.0.view ≡ record old.me.0.view { tx = record old.me.0.view.tx { owned = [] }; paging = record old.me.0.view.paging { pins = [] } }
