-- A number is decided and its writes made; and what each step on the words, locks and pages leaves.
use Rattle.std.specs.Prelude.{◌≡◌, ℕ, ◌*◌, ◌<◌, ◌⊎◌, true, List, [], ◌∷◌, ◌++◌, length, All, is_some}
use Rattle.atomic_table.specs.declared.shared.Seat.{Seat}
use Rattle.dude_base.specs.declared.limits.TheConstants.{PAGE}
use Rattle.dude_base.specs.declared.write.Write.{Write}
use Rattle.core_events.specs.Setups.{Setup, lock_of}
use Rattle.core_events.specs.Keyed.{find, has}
use Rattle.core_events.specs.Views.{View}
use Rattle.core_events.specs.Events.{place_behind, write_entry}
use Rattle.core_events.specs.Conditions.{IsIdle, IsUndecided}
use Rattle.core_table.specs.Known.{Known}
use Rattle.stm_transactions.specs.Pairs.{pairs_of}
use Rattle.core_table.specs.Layout.{TableSight}
use Rattle.stm_transactions.specs.declared.commit.Commit.{Commit}
use Rattle.stm_transactions.specs.Seats.{IsLive, IsOf}
use Rattle.stm_transactions.specs.Pages.{ArePaged, IsWrittenPage}

-- a transaction whose number may be decided: each lock of its reads was found good since the draw
pub record MayDecide (z : Setup) (thread number : ℕ) (ws held frames : List Write) (v : View) : Type 0 where
  pub of : IsOf thread v
  pub number_is : v.tx.hand.number ≡ number
  pub undecided : IsUndecided v.tx.hand
  pub writes_are : v.tx.hand.writes ≡ ws
  pub owned_are : v.tx.owned ≡ pairs_of held
  pub pins_are : v.paging.pins ≡ pairs_of frames
  pub good : All (λ r. has v.tx.checked (lock_of z r.0) ≡ true) v.tx.reads
  pub some_lock : 0 < length held
  pub inside : All (λ w. w.at < z.pages * PAGE) ws
  pub covered : All (λ w. is_some (find (pairs_of held) (lock_of z w.at)) ≡ true) ws
  pub paged : ArePaged ws frames
  pub written_pages : All (IsWrittenPage ws) frames

-- a decided number that writes ws, whose locks and pages it still has
pub record IsStoring (z : Setup) (ws frames : List Write) (v : View) : Type 0 where
  pub its : IsLive v
  pub decided : v.tx.hand.decided ≡ true
  pub writes_are : v.tx.hand.writes ≡ ws
  pub pins_are : v.paging.pins ≡ pairs_of frames
  pub inside : All (λ w. w.at < z.pages * PAGE) ws
  pub covered : All (λ w. is_some (find v.tx.owned (lock_of z w.at)) ≡ true) ws
  pub paged : ArePaged ws frames

-- one whose touches are to be made
pub record IsTouching (number : ℕ) (frames : List Write) (v : View) : Type 0 where
  pub its : IsLive v
  pub decided : v.tx.hand.decided ≡ true
  pub number_is : v.tx.hand.number ≡ number
  pub pins_are : v.paging.pins ≡ pairs_of frames
  pub written_pages : All (IsWrittenPage v.tx.hand.writes) frames

-- one that may give its locks back: all is stored
pub record IsReleasing (number : ℕ) (held : List Write) (v : View) : Type 0 where
  pub its : IsLive v
  pub decided : v.tx.hand.decided ≡ true
  pub number_is : v.tx.hand.number ≡ number
  pub owned_are : v.tx.owned ≡ pairs_of held
  pub stored : All (λ w. has v.tx.hand.stored w.at ≡ true) v.tx.hand.writes

-- a transaction that may take the pins of these pages back: it isn't undecided, and where it is decided, all is stored and touched
pub record IsLeaving (frames : List Write) (v : View) : Type 0 where
  pub its : IsLive v
  pub pins_are : v.paging.pins ≡ pairs_of frames
  pub not_undecided : IsUndecided v.tx.hand → ⊥
  pub stored : v.tx.hand.decided ≡ true → All (λ w. has v.tx.hand.stored w.at ≡ true) v.tx.hand.writes
  pub touched : v.tx.hand.decided ≡ true → All (λ f. has v.paging.touched f.at ≡ true) frames

-- a transaction that may give its locks their old words: its number is void, or it has none
pub record IsUndone (held : List Write) (v : View) : Type 0 where
  pub its : IsLive v
  pub owned_are : v.tx.owned ≡ pairs_of held
  pub may : (v.tx.hand.void ≡ true) ⊎ (v.tx.hand.number ≡ 0)

-- v's number was decided, stored and posted: its entry is there, and no transaction is open
pub record IsPosted (z : Setup) (v w : View) : Type 0 where
  pub part : w.part ≡ v.part
  pub draws : w.draws ≡ v.draws
  pub drawn : w.drawn ≡ v.drawn
  pub turn : w.turn ≡ v.turn
  pub entries : w.entries ≡ v.entries ++ write_entry v ∷ []
  pub idle : IsIdle w
  pub next : w.box.next ≡ place_behind z v.box.next

-- the writes are stored
abbrev pub AreStored : List Write → View → Type 0
AreStored ws v = All (λ w. has v.tx.hand.stored w.at ≡ true) ws

-- the touches of the noted pages are made
abbrev pub AreTouched : List Write → View → Type 0
AreTouched frames v = All (λ f. has v.paging.touched f.at ≡ true) frames

-- ---- of a seat
module _ {S X : Type 0} where
  -- its transaction's number may be decided: each lock of its reads was found good since the draw
  abbrev pub Decides : {K : Type 0} → Commit → ℕ → List Write → TableSight K → Seat S (Known X) → Type 0
  Decides c number frames t s = MayDecide t.setup c.thread number c.writes.now c.held.now frames s.me.0.view

  -- the view is as before, but for what is stored
  abbrev pub OnlyStores : Seat S (Known X) → Seat S (Known X) → Type 0
  OnlyStores old new = new.me.0.view ≡ record old.me.0.view { tx = record old.me.0.view.tx { hand = record old.me.0.view.tx.hand { stored = new.me.0.view.tx.hand.stored } } }

  -- but for the touches
  abbrev pub OnlyTouches : Seat S (Known X) → Seat S (Known X) → Type 0
  OnlyTouches old new = new.me.0.view ≡ record old.me.0.view { paging = record old.me.0.view.paging { touched = new.me.0.view.paging.touched } }

  -- but for its locks, of which it has none
  abbrev pub OnlyGivesLocks : Seat S (Known X) → Seat S (Known X) → Type 0
  OnlyGivesLocks old new = new.me.0.view ≡ record old.me.0.view { tx = record old.me.0.view.tx { owned = [] } }

  -- but for its pins, of which it has none
  abbrev pub OnlyTakesPins : Seat S (Known X) → Seat S (Known X) → Type 0
  OnlyTakesPins old new = new.me.0.view ≡ record old.me.0.view { paging = record old.me.0.view.paging { pins = [] } }
