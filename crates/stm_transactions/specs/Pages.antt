-- The pages of written words, and what a call that pins them leaves.
use Rattle.std.specs.Prelude.{◌≡◌, ℕ, true, List, All, is_some, Some}
use Rattle.atomic_table.specs.declared.shared.Seat.{Seat}
use Rattle.dude_base.specs.declared.write.Write.{Write}
use Rattle.dude_base.specs.Writes.{written}
use Rattle.word_space.specs.declared.stop.Stop.{Stop}
use Rattle.core_events.specs.Setups.{Setup, page_of}
use Rattle.core_events.specs.Keyed.{find}
use Rattle.core_events.specs.Views.{View}
use Rattle.core_table.specs.Known.{Known}
use Rattle.core_table.specs.Layout.{TableSight}
use Rattle.stm_transactions.specs.Pairs.{Noted, pairs_of}
use Rattle.stm_transactions.specs.Pins.{IsNotPinned, Paged}
use Rattle.stm_transactions.specs.Seats.{HasRisen}

-- a word of this page is written
abbrev pub IsPageOf : List Write → ℕ → Type 0
IsPageOf ws page = (i : ℕ) × (x : ℕ) × (written ws i ≡ Some x) × (page_of i ≡ page)

-- the noted page is one of a written word
abbrev pub IsWrittenPage : List Write → Write → Type 0
IsWrittenPage ws f = IsPageOf ws f.at

-- the page of each write is among these
abbrev pub ArePaged : List Write → List Write → Type 0
ArePaged ws frames = All (λ w. is_some (find (pairs_of frames) (page_of w.at)) ≡ true) ws

-- a page that the writes write to couldn't be pinned
abbrev pub IsPageStop : Setup → List Write → Stop → View → Type 0
IsPageStop z ws stop w = (page : ℕ) × IsPageOf ws page × IsNotPinned z page stop w

-- The noted pages are just those of the writes.
pub record ArePagesOf (ws frames : List Write) : Type 0 where
  pub paged : ArePaged ws frames
  pub written_pages : All (IsWrittenPage ws) frames

-- ---- of a seat
module _ {S X : Type 0} where
  -- just these pages are pinned
  abbrev pub HasPages : List Write → Seat S (Known X) → Seat S (Known X) → Type 0
  HasPages frames old new = Paged (pairs_of frames) old.me.0.view new.me.0.view

  -- the page is pinned and noted, and those that were
  abbrev pub PinsOnce : ℕ → List Write → List Write → Seat S (Known X) → Seat S (Known X) → Type 0
  PinsOnce page frames frames2 old new = Paged (pairs_of frames2) old.me.0.view new.me.0.view × Noted page frames frames2

  -- the pages are as they were
  abbrev pub PinsNoMore : List Write → List Write → Seat S (Known X) → Seat S (Known X) → Type 0
  PinsNoMore frames frames2 old new = (frames2 ≡ frames) × Paged (pairs_of frames) old.me.0.view new.me.0.view

  -- why a page of the writes wasn't pinned
  abbrev pub StopsPages : {K : Type 0} → List Write → TableSight K → Seat S (Known X) → Seat S (Known X) → Stop → Type 0
  StopsPages ws t old new stop = IsPageStop t.setup ws stop new.me.0.view × HasRisen old.me.0.view.count new.me.0.view.count
