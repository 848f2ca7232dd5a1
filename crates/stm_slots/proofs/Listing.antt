-- What is kept of a back's lists outlasts what leaves boxes, records and open numbers, and follows what the calls of the back make of them.
use Rattle.std.proofs.Common.{◌≡◌, ℕ, ◌<◌, ◌≤◌, ◌⊎◌, true, false, List, All, sym, ◌∙◌, arith}
use Rattle.std.specs.Prelude.{Some}
use Rattle.std.specs.List.{Contains}
use mathlib.Core.Option.{some}
use lib.ListN.{get_elem?}
use Rattle.dude_base.specs.Records.{RedoBundle, RedoRecord}
use Rattle.back_store.specs.Back.{waiting_of_ring}
use Rattle.core_events.specs.Setups.{Setup}
use Rattle.stm_slots.specs.KnownLists.{BackLists}
use Rattle.stm_slots.specs.Records.{HasRecord, writes_in}
use Rattle.stm_slots.specs.Stage.{Owner, Stage}
use Rattle.stm_slots.specs.Lists.{IsBoxed, RingsOrdered, ListsKept}
use Rattle.stm_slots.proofs.Alike.{AreAlike}

module _ (z : Setup) where
  -- with other words, boxes and owners: what is said of the back's log alone stays
  pub lists_moved : (s t : Stage) (l : BackLists) (taken now : List (ℕ × RedoRecord)) → ListsKept z s l taken → t.durable ≤ l.state.log.durable → t.reproduced ≤ l.state.log.reproduced
      → ((j : ℕ) (o : Owner) → get_elem? t.owners j ≡ some o → o.met_fault ≡ true → l.state.dead ≡ true)
      → All (λ r. HasRecord l.records r.number × (writes_in l.records r.number ≡ r.writes)) t.persisted
      → ((n : ℕ) → HasRecord l.records n → HasRecord t.persisted n ⊎ ((k : ℕ) × IsBoxed t k (record { number = n; writes = writes_in l.records n })))
      → (l.state.dead ≡ false → (k n : ℕ) → get_elem? t.boxes k ≡ some n → 0 < n → HasRecord l.records n → (r : RedoRecord) × Contains now (k, r))
      → (l.state.dead ≡ false → RingsOrdered z t l)
      → ListsKept z t l now
  lists_moved s t l taken now k durable reproduced fault persisted handed in_hand ordered = record { lawful = k.lawful; rings = k.rings; pages = k.pages; durable = durable; reproduced = reproduced; fault = fault; persisted = persisted; handed = handed; in_hand = in_hand; ordered = ordered }

  -- with other owners and words
  pub lists_owned : (s t : Stage) (l : BackLists) (taken : List (ℕ × RedoRecord)) → ListsKept z s l taken → t.durable ≤ l.state.log.durable → t.reproduced ≤ l.state.log.reproduced
      → ((j : ℕ) (o : Owner) → get_elem? t.owners j ≡ some o → o.met_fault ≡ true → l.state.dead ≡ true)
      → (l.state.dead ≡ false → (j u : ℕ) (o : Owner) (q : RedoBundle) → get_elem? t.owners j ≡ some o → o.thread ≡ Some u → 0 < o.number → Contains (waiting_of_ring l.state u) q → q.last < o.number)
      → ListsKept z (record t { boxes = s.boxes; records = s.records; persisted = s.persisted }) l taken
  lists_owned s t l taken k durable reproduced fault opened =
      lists_moved s (record t { boxes = s.boxes; records = s.records; persisted = s.persisted }) l taken taken k durable reproduced fault k.persisted k.handed k.in_hand (λ alive. record { boxed = (k.ordered alive).boxed; opened = opened alive })

  -- with other owners, of whom none is new
  pub lists_alike : (s : Stage) (os : List Owner) (l : BackLists) (taken : List (ℕ × RedoRecord)) → AreAlike os s.owners → ((j : ℕ) (o : Owner) → get_elem? os j ≡ some o → o.met_fault ≡ true → l.state.dead ≡ true) → ListsKept z s l taken
      → (turn durable reproduced : ℕ) (entries : List ℕ) → durable ≤ l.state.log.durable → reproduced ≤ l.state.log.reproduced → ListsKept z (record s { owners = os; turn = turn; durable = durable; reproduced = reproduced; entries = entries }) l taken
  lists_alike s os l taken same fault k turn durable reproduced entries le low = lists_owned s (record s { owners = os; turn = turn; durable = durable; reproduced = reproduced; entries = entries }) l taken k le low fault
      (λ alive j t o q at of_t pos among. let p = same j o at in let like = p.2 in let n = like.number in
      let lt = (k.ordered alive).opened j t p.0 q p.1 (sym like.thread ∙ of_t) (let h : 0 < p.0.number = omega arith in h) among in omega arith)

  -- with other records that left their boxes with the turn
  pub lists_taken : (s : Stage) (l : BackLists) (taken now : List (ℕ × RedoRecord)) → ListsKept z s l taken
      → (l.state.dead ≡ false → (b n : ℕ) → get_elem? s.boxes b ≡ some n → 0 < n → HasRecord l.records n → (r : RedoRecord) × Contains now (b, r)) → ListsKept z s l now
  lists_taken s l taken now k in_hand = lists_moved s s l taken now k k.durable k.reproduced k.fault k.persisted k.handed in_hand k.ordered
