-- What a store of vectors keeps of its fields.
use Rattle.std.specs.Prelude.{◌≡◌, ◌*◌, ◌≤◌, ◌<◌, All, length}
use Rattle.dude_base.specs.declared.limits.TheConstants.{PAGE}
use Rattle.dude_base.specs.Records.{HasNumbers}
use Rattle.dude_core.specs.StoreData.{AreInside}
use Rattle.dude_core.specs.declared.store.Store.TheInside.{Inside}

-- Each ring of the image is there, with its next slot in it, and the home; a waiting bundle has numbers that transactions may
-- have, and writes home words.
pub record IsKeptStore (a : Inside) : Type 0 where
  pub since : a.since ≤ length a.made.items
  pub rings : length a.rings.items ≡ a.place.rings
  pub slots : All (λ r. r.next < a.place.cells) a.rings.items
  pub home : length a.home.items ≡ a.place.pages * PAGE
  pub numbers : All (λ w. HasNumbers w.redo) a.waiting.items
  pub inside : AreInside a.place a.waiting.items
