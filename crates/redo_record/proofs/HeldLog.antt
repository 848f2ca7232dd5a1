-- A medium that holds a log: what keeps it so, and what an image as a medium at rest recovers to.
use Rattle.std.proofs.Common.{◌≡◌, ◌⊎◌, inl, inr, ⊎_elim, ℕ, suc, ◌+◌, ◌*◌, ◌<◌, ◌≤◌, max, nat_lt, true, false, List, [], ◌∷◌, ◌++◌, length, map, slice_index, get_or, refl, sym, ap, ◌∙◌, subst, arith, All}
use Rattle.std.specs.List.{Contains, AllPairs, filter, range_with_len}
use Rattle.std.proofs.Math.Nat.{mul-le-mul_right}
use Rattle.std.proofs.lemmas.List.Elements.{All-nil, All-weaker, All-filter}
use Rattle.std.proofs.lemmas.List.Kept.{AllPairs-filter}
use Rattle.std.proofs.lemmas.Bool.{cases_Bool, lt-ltb}
use Rattle.dude_base.specs.declared.limits.TheConstants.{MARK, MAX_NUMBER, VERSION}
use Rattle.dude_base.specs.declared.sizes.Sizes.{Sizes}
use Rattle.dude_base.specs.Image.{Cell, cell_at, cell_start, home_word, image_words}
use Rattle.dude_base.specs.Records.{RedoBundle, first_of, Covers}
use Rattle.pmem_trait.specs.Words.{Word, State, MayHold, IsImage, AtLeast, AfterEachCall, AfterEachCall.end as end_each, more, after, value_of, settled_at}
use Rattle.pmem_trait.specs.declared.call.Call.TheVariants.{Read, Tell}
use Rattle.pmem_trait.proofs.Images.{may_still}
use Rattle.pmem_trait.proofs.Told.{IsIn-drop_push}
use Rattle.redo_record.specs.Tags.{kind_of, number_of, IsHeadOver}
use Rattle.redo_record.specs.Cells.{IsCell}
use Rattle.redo_record.specs.Record.{record_of}
use Rattle.redo_record.specs.Images.{sizes_of, tag_of, word_in_image, IsComplete, IsNewHead}
use Rattle.redo_record.specs.Damage.{IsUndamaged}
use Rattle.redo_record.specs.Recovery.{HasRecord, IsVersion, overwritten_by_all, Recovers}
use Rattle.redo_record.specs.Rest.{HasHome, RestsAt}
use Rattle.redo_record.specs.Fits.{Logged, first_logged, head_of, HasHead, FitsRing, IsIntact, settled_mark}
use Rattle.redo_record.specs.SettledRecords.{HoldSettled}
use Rattle.redo_record.specs.Waiting.{Waiting, Waits, Lead, IsContiguousEnd, KeepsOver}
use Rattle.redo_record.specs.LogState.{RingRecords, LogState, KeepsCells, IsWaiting, IsLogged, HoldsLog, RecoversAmong}
use Rattle.redo_record.specs.BackLaws.{LawOfHeldLog, LawOfAnnounce, LawOfReadPage, LawOfEmptyLog, LawOfReleasedRings}
use Rattle.redo_record.proofs.CellPlaces.{first_cell}
use Rattle.redo_record.proofs.RingHeads.{cell_is, find_head, is_settled}
use Rattle.redo_record.proofs.RingRoom.{rest_law}
use Rattle.redo_record.proofs.Recovered.{recovery_law, images_at_rest_law}
use Rattle.redo_record.proofs.SettledRecords.{settled_records_law}
use Rattle.redo_record.proofs.WaitingRecords.{waiting_law, beside_end, consecutive_up}

-- one last number has one head in a ring whose numbers rise
pub single_head : (number a b : ℕ) (ls : List Logged) → AllPairs (λ k m. k.last < first_logged m) ls → HasHead number a ls → HasHead number b ls → a ≡ b
single_head number a b [] rising one other = absurd one
single_head number a b (l ∷ ls) rising one other = by (single_head number a b ls (λ i j d ij lt. rising (suc i) (suc j) d (omega arith) (omega arith))) one other
  where
    later : All (λ m. l.last < m.last) ls
    later k d lt = let over = rising 0 (suc k) d (omega arith) (omega arith) in omega arith

    apart : (slot : ℕ) → l.last ≡ number → HasHead number slot ls → ⊥
    apart slot is has =
        let found = find_head {P = λ m. l.last < m.last} number slot ls later has in
        let same = found.1 in
        let over = found.3 in
        omega arith

    by : (HasHead number a ls → HasHead number b ls → a ≡ b) → ((l.last ≡ number) × (l.slot ≡ a)) ⊎ HasHead number a ls → ((l.last ≡ number) × (l.slot ≡ b)) ⊎ HasHead number b ls → a ≡ b
    by rest (inl x) (inl y) = sym x.1 ∙ y.1
    by rest (inl x) (inr y) = absurd (apart b x.0 y)
    by rest (inr x) (inl y) = absurd (apart a y.0 x)
    by rest (inr x) (inr y) = rest x y

module _ {l : LogState} {p : State} (holds : HoldsLog l p) where
  pub settled_mark_is : settled_mark p ≡ l.reproduced
  settled_mark_is = ap (λ (w : Word). w.settled) holds.rest.mark

  pub some_cells : 0 < l.sizes.cells
  some_cells = let least = holds.accepted.cells.low in omega arith

  -- a record that waits has the number of the one in its ring
  pub logged_last : (ring : ℕ) → ring < l.sizes.rings → (k : ℕ) (d : Logged) → k < length (l.rings ring).logged → l.reproduced < (get_or (l.rings ring).logged k d).last
      → (is : IsWaiting l.sizes l.waiting ring p (get_or (l.rings ring).logged k d)) → is.redo.last ≡ (get_or (l.rings ring).logged k d).last
  logged_last ring below k d lt over is =
      let intact = (holds.fits ring below).records k d lt (let mark = settled_mark_is in omega arith) in
      sym (ap (λ (r : RedoBundle). r.last) is.held.same) ∙ intact.same_last

  -- the waiting records are all over the mark
  pub keeps_all : KeepsOver l.reproduced l.waiting l.waiting
  keeps_all = record { kept = λ w is over. is; only = λ w is. (is, (let over = (holds.waits w is).over in omega arith)) }

-- where a waiting record stands: its cells hold it
pub record StandsIn (l : LogState) (p : State) (w : Waiting) : Type 0 where
  pub slot : ℕ
  pub cell : IsCell l.sizes (cell_at w.ring slot)
  pub held : HoldSettled l.sizes (cell_at w.ring slot) w.redo p
  pub has : HasHead w.redo.last slot (l.rings w.ring).logged

-- a record of this number in its ring is in cells that hold it
abbrev IsFound : LogState → State → Waiting → Logged → Type 0
IsFound l p w k = k.last ≡ w.redo.last → (k.slot < l.sizes.cells) × HoldSettled l.sizes (head_of w.ring k) w.redo p

pub stands_in : {l : LogState} {p : State} → HoldsLog l p → (w : Waiting) → Contains l.waiting w → StandsIn l p w
stands_in {l} {p} holds w contains = by (find_head {P = IsFound l p w} w.redo.last is.slot (l.rings w.ring).logged each is.has)
  where
    is : IsLogged l w
    is = holds.waits w contains

    each : All (IsFound l p w) (l.rings w.ring).logged
    each k d lt same =
        let over = is.over in
        let high : l.reproduced < (get_or (l.rings w.ring).logged k d).last = omega arith in
        let one = holds.logged w.ring is.ring_is k d lt high in
        let number_is = logged_last holds w.ring is.ring_is k d lt high one in
        let both : ◌≡◌ {A = Waiting} (record { ring = w.ring; redo = one.redo }) w = holds.distinct _ w w.redo.last one.waits contains (record { low = omega arith; high = omega arith }) (record { low = omega arith; high = omega arith }) in
        (one.slot_is, subst (λ (r : RedoBundle). HoldSettled l.sizes (head_of w.ring (get_or (l.rings w.ring).logged k d)) r p) (ap (λ (v : Waiting). v.redo) both) one.held)

    by : (k : Logged) × (k.last ≡ w.redo.last) × (k.slot ≡ is.slot) × IsFound l p w k → StandsIn l p w
    by found =
        let both = found.3 found.1 in
        record {
          slot = is.slot;
          cell = record { ring_is = is.ring_is; slot_is = subst (λ (n : ℕ). n < l.sizes.cells) found.2 both.0 };
          held = subst (λ (n : ℕ). HoldSettled l.sizes (cell_at w.ring n) w.redo p) found.2 both.1;
          has = is.has;
        }

-- cells that stay twice
pub keeps_then : {s : Sizes} {p q r : State} → KeepsCells s p q → KeepsCells s q r → KeepsCells s p r
keeps_then one other = record {
  tags = λ ring slot tag below lt may. one.tags ring slot tag below lt (other.tags ring slot tag below lt may);
  stay = λ ring slot j x below lt small is. other.stay ring slot j x below lt small (one.stay ring slot j x below lt small is);
}

-- The log is held where the cells stay, the mark is settled at no less and home at any values, with the records over it.
pub held_by : {l : LogState} {p q : State} {records : List RedoBundle} (number : ℕ) (home : List ℕ) (waiting : List Waiting) → HoldsLog l p → Lead l.waiting l.reproduced records number → number ≤ MAX_NUMBER
    → RestsAt VERSION l.sizes number home q → KeepsCells l.sizes p q → KeepsOver number l.waiting waiting
    → HoldsLog (record l { reproduced = number; home = home; waiting = waiting }) q
held_by {l} {p} {q} {records} number home waiting holds lead small rests keeps over = record {
  accepted = holds.accepted;
  small = small;
  rest = rests;
  fits = λ ring below. rest_law l.sizes ring (l.rings ring).logged (l.rings ring).released p q (some_cells holds) (holds.fits ring below) (is_settled rests.mark)
      (let old = settled_mark_is holds in let more = up in let new : settled_mark q ≡ number = ap (λ (w : Word). w.settled) rests.mark in omega arith)
      (λ slot tag lt may. keeps.tags ring slot tag below lt may)
      (λ slot j x lt small is. keeps.stay ring slot j x below lt small is);
  rising = holds.rising;
  logged = λ ring below k d lt high.
      let more = up in
      let is = holds.logged ring below k d lt (omega arith) in
      let same = logged_last holds ring below k d lt (omega arith) is in
      record {
        slot_is = is.slot_is;
        redo = is.redo;
        waits = over.kept _ is.waits (let big : number < is.redo.last = omega arith in big);
        held = settled_records_law.rest l.sizes (head_of ring (get_or (l.rings ring).logged k d)) is.redo p q (record { ring_is = below; slot_is = is.slot_is })
            (λ slot j x lt small settled. keeps.stay ring slot j x below lt small settled) is.held;
      };
  waits = λ w is.
      let both = over.only w is in
      let old = holds.waits w both.0 in
      record {
        ring_is = old.ring_is;
        over = ⊎_elim (λ begins. begins) (λ ends. absurd (let past = both.1 in omega arith)) (beside_end holds.distinct lead w both.0 old.over);
        slot = old.slot;
        has = old.has;
      };
  distinct = λ v w number one other covers too. holds.distinct v w number (over.only v one).0 (over.only w other).0 covers too;
}
  where
    up : l.reproduced ≤ number
    up = consecutive_up l.reproduced number records lead.consecutive

-- no bundles lead from a number to itself
pub leads_here : (l : LogState) → Lead l.waiting l.reproduced [] l.reproduced
leads_here l = waiting_law.here l.waiting l.reproduced

-- an image as a medium at rest
abbrev pub settled_state : List ℕ → State
settled_state image = record { word = λ k. settled_at (slice_index image k); told = [] }

own_image : (image : List ℕ) → IsImage (length image) (settled_state image) image
own_image image = record { size = refl; each = λ k below. inl refl }

-- where a medium rests, so does its image
pub settled_state_rests : {version : ℕ} {s : Sizes} {number : ℕ} {home image : List ℕ} → HasHome version s number home image → RestsAt version s number home (settled_state image)
settled_state_rests has = record {
  header = λ i below. ap settled_at (has.header i below);
  mark = ap settled_at has.mark;
  count = has.count;
  words = λ i below. ap settled_at (has.words i below);
}

-- a word of a cell lies between the header and the home
pub in_cells : (s : Sizes) (ring slot j : ℕ) → ring < s.rings → slot < s.cells → j < 8 → (16 ≤ cell_start s (cell_at ring slot) + j) × (cell_start s (cell_at ring slot) + j < home_word s 0)
in_cells s ring slot j below lt small =
    let rings : (ring + 1) * s.cells ≤ s.rings * s.cells = mul-le-mul_right s.cells (omega arith) in
    (omega arith, omega arith)

pub settled_state_keeps : (s : Sizes) (p : State) (image : List ℕ) → ((k : ℕ) → 16 ≤ k → k < home_word s 0 → MayHold (p.word k) (slice_index image k)) → KeepsCells s p (settled_state image)
settled_state_keeps s p image may = record {
  tags = λ ring slot tag below lt is.
      let at = in_cells s ring slot 0 below lt (omega arith) in
      subst (MayHold (p.word (cell_start s (cell_at ring slot)))) (sym (may_still _ _ tag refl is)) (may (cell_start s (cell_at ring slot)) (omega arith) (omega arith));
  stay = λ ring slot j x below lt small is.
      let at = in_cells s ring slot j below lt small in
      ap settled_at (may_still _ x _ is (may (cell_start s (cell_at ring slot) + j) (omega arith) (omega arith)));
}

-- where cells hold a record, its number is that of the head's tag
pub tag_number : (s : Sizes) (image : List ℕ) (c : Cell) (r : RedoBundle) → IsCell s c → record_of (word_in_image s image c) ≡ r → number_of (tag_of s image c) ≡ r.last
tag_number s image c r is_cell same = ap (λ (i : ℕ). number_of (slice_index image i)) (omega (arith, first_cell s c is_cell 0)) ∙ ap (λ (r : RedoBundle). r.last) same

-- an image of any sizes may have the newest version
pub newest_version : (s : Sizes) → IsVersion VERSION s
newest_version s = record { known = inr refl; rings = λ one. absurd (omega arith); index = λ one. absurd (omega arith) }

-- what is known of a head over the mark: its cells hold a record that waits
record HeadKnown (l : LogState) (image : List ℕ) (c : Cell) : Type 0 where
  redo : RedoBundle
  waits : Contains l.waiting (record { ring = c.ring; redo = redo })
  over : l.reproduced < first_of redo
  complete : IsComplete l.sizes image c
  same : record_of (word_in_image l.sizes image c) ≡ redo
  number_is : number_of (tag_of l.sizes image c) ≡ redo.last

module _ {l : LogState} {image : List ℕ} (holds : HoldsLog l (settled_state image)) (long : image_words l.sizes ≤ length image) where
  settled_state_home : HasHome VERSION l.sizes l.reproduced l.home image
  settled_state_home = images_at_rest_law VERSION l.sizes l.reproduced l.home (settled_state image) (length image) image long holds.rest (own_image image)

  head_in_ring : (c : Cell) → IsNewHead l.sizes l.reproduced image c → HasHead (number_of (tag_of l.sizes image c)) c.slot (l.rings c.ring).logged
  head_in_ring c new = (holds.fits c.ring new.cell.ring_is).heads c.slot (tag_of l.sizes image c) new.cell.slot_is (inl refl)
      (subst (λ (m : ℕ). IsHeadOver m (tag_of l.sizes image c)) (sym (settled_mark_is holds)) new.new)

  known : (c : Cell) → IsNewHead l.sizes l.reproduced image c → HeadKnown l image c
  known c new =
      let found = find_head {P = λ k. l.reproduced < k.last → IsWaiting l.sizes l.waiting c.ring (settled_state image) k} (number_of (tag_of l.sizes image c)) c.slot (l.rings c.ring).logged
      (holds.logged c.ring new.cell.ring_is) (head_in_ring c new) in
      let above = new.new.over in
      let number_is = found.1 in
      let waits = found.3 (omega arith) in
      let here : head_of c.ring found.0 ≡ c = cell_is (head_of c.ring found.0) c refl found.2 in
      let held : HoldSettled l.sizes c waits.redo (settled_state image) = subst (λ (d : Cell). HoldSettled l.sizes d waits.redo (settled_state image)) here waits.held in
      record { redo = waits.redo; waits = waits.waits; over = (holds.waits _ waits.waits).over; complete = held.complete; same = held.same; number_is = tag_number l.sizes image c waits.redo new.cell held.same }

  undamaged : IsUndamaged l.sizes l.reproduced image
  undamaged = record {
    complete = λ c new.
        let one = known c new in
        record {
          complete = one.complete;
          version = λ old. absurd (let here = settled_state_home.header 1 (omega arith) in omega arith);
          over = subst (λ (r : RedoBundle). l.reproduced < first_of r) (sym one.same) one.over;
        };
    single = λ c d number new other covers too.
        let one = known c new in
        let two = known d other in
        let both : ◌≡◌ {A = Waiting} (record { ring = c.ring; redo = one.redo }) (record { ring = d.ring; redo = two.redo }) =
        holds.distinct _ _ number one.waits two.waits (subst (λ (r : RedoBundle). Covers r number) one.same covers) (subst (λ (r : RedoBundle). Covers r number) two.same too) in
        let same : number_of (tag_of l.sizes image c) ≡ number_of (tag_of l.sizes image d) = one.number_is ∙ (ap (λ (w : Waiting). w.redo.last) both ∙ sym two.number_is) in
        let ring : c.ring ≡ d.ring = ap (λ (w : Waiting). w.ring) both in
        let slot : c.slot ≡ d.slot = single_head (number_of (tag_of l.sizes image c)) c.slot d.slot (l.rings c.ring).logged (holds.rising c.ring new.cell.ring_is) (head_in_ring c new)
        (subst (λ (r : ℕ). HasHead (number_of (tag_of l.sizes image c)) d.slot (l.rings r).logged) (sym ring)
        (subst (λ (n : ℕ). HasHead n d.slot (l.rings d.ring).logged) (sym same) (head_in_ring d other))) in
        cell_is c d ring slot;
  }

  -- a record that waits is that of a head
  has_record : (r : RedoBundle) → Waits l.waiting r → HasRecord l.sizes l.reproduced image r
  has_record r waits =
      let stands = stands_in holds _ waits.is_one in
      let is = holds.waits _ waits.is_one in
      let head : Cell = cell_at waits.ring stands.slot in
      record {
        head = head;
        new = record {
          cell = stands.cell;
          new = record {
            kind = ap (λ (i : ℕ). kind_of (slice_index image i)) (omega (arith, first_cell l.sizes head stands.cell 0)) ∙ stands.held.complete.whole.head;
            over = subst (λ (n : ℕ). l.reproduced < n) (sym (tag_number l.sizes image head r stands.cell stands.held.same)) (let over = is.over in let last : l.reproduced < r.last = omega arith in last);
          };
        };
        same = stands.held.same;
      }

  pub settled_state_recovers : {number : ℕ} → (end : IsContiguousEnd l.waiting l.reproduced number)
      → (sizes_of image ≡ l.sizes) × Recovers image number (overwritten_by_all end.records l.home)
  settled_state_recovers {number} end = recovery_law VERSION l.sizes l.reproduced l.home image number end.records holds.accepted (newest_version l.sizes) holds.small settled_state_home undamaged
      (All-weaker (Waits l.waiting) (HasRecord l.sizes l.reproduced image) has_record end.records end.lead.wait) end.lead.consecutive
      (λ c new same. let one = known c new in end.greatest _ one.waits (ap first_of (sym one.same) ∙ same))

-- An image that holds a log recovers to the contiguous end, and to the array there.
pub shows : {l : LogState} {image : List ℕ} → HoldsLog l (settled_state image) → image_words l.sizes ≤ length image → (before low high number : ℕ) (told : List ℕ)
    → IsContiguousEnd l.waiting l.reproduced number → low ≤ number → number ≤ high → AtLeast before told low → RecoversAmong l before low high told image
shows {l} {image} holds long before low high number told end least most floor =
    let both = settled_state_recovers holds long end in
    record {
      number = number;
      array = overwritten_by_all end.records l.home;
      recovered = both.1;
      same_sizes = both.0;
      is_array = record { records = end.records; lead = end.lead; result = refl };
      least = least;
      most = most;
      floor = λ x is. let below = floor x is in omega arith;
    }

-- Each image of a medium that holds a log holds it.
pub image_holds : {l : LogState} {p : State} (len : ℕ) {image : List ℕ} → HoldsLog l p → image_words l.sizes ≤ len → IsImage len p image → HoldsLog l (settled_state image)
image_holds {l} {p} len {image} holds long is =
    held_by l.reproduced l.home l.waiting holds (leads_here l) holds.small (settled_state_rests (images_at_rest_law VERSION l.sizes l.reproduced l.home p len image long holds.rest is))
    (settled_state_keeps l.sizes p image (λ k low below. is.each k (omega arith))) (keeps_all holds)

pub held_log_law : LawOfHeldLog
held_log_law l p len before end holds long is floor = record {
  each = λ image image_is.
      let size = image_is.size in
      shows (image_holds len holds long image_is) (omega arith) before end end end p.told is (omega arith) (omega arith) floor;
}

-- the log is held in a state of the same words
pub held_same : {l : LogState} {p q : State} → HoldsLog l p → ((k : ℕ) → q.word k ≡ p.word k) → HoldsLog l q
held_same {l} {p} {q} holds same = held_by l.reproduced l.home l.waiting holds (leads_here l) holds.small
    (record {
      header = λ i below. same i ∙ holds.rest.header i below;
      mark = same MARK ∙ holds.rest.mark;
      count = holds.rest.count;
      words = λ i below. same (home_word l.sizes i) ∙ holds.rest.words i below;
    })
    (record {
      tags = λ ring slot tag below lt may. subst (λ (w : Word). MayHold w tag) (same (cell_start l.sizes (cell_at ring slot))) may;
      stay = λ ring slot j x below lt small is. same (cell_start l.sizes (cell_at ring slot) + j) ∙ is;
    })
    (keeps_all holds)

pub announce_law : LawOfAnnounce
announce_law l number p holds = (
  λ len before end long is floor upto. more (held_log_law l p len before end holds long is floor)
      (end_each (held_log_law l (after (Tell number) p) len before end told long is (told_floor before end number p.told floor upto))),
  told,
  refl,
)
  where
    told : HoldsLog l (after (Tell number) p)
    told = held_same holds (λ k. refl)

    told_floor : (before end number : ℕ) (told : List ℕ) → AtLeast before told end → number ≤ end → AtLeast before (told ++ number ∷ []) end
    told_floor before end number told floor upto x is = ⊎_elim (λ old. floor x old) (λ e. omega arith) (IsIn-drop_push before x number told is)

-- Reads leave the state as it is.
reads_stay : (p : State) (words : List ℕ) → AfterEachCall (λ q. q ≡ p) p (map Read words)
reads_stay p [] = end_each refl
reads_stay p (at ∷ words) = more refl (reads_stay p words)

pub read_page_law : LawOfReadPage
read_page_law l page p holds below = (
  reads_stay p (range_with_len (home_word l.sizes (page * 64)) 64),
  λ i small.
      let pages : (page + 1) * 64 ≤ l.sizes.pages * 64 = mul-le-mul_right 64 (omega arith) in
      let inside : page * 64 + i < length l.home = omega (arith, holds.rest.count) in
      let at : home_word l.sizes (page * 64) + i ≡ home_word l.sizes (page * 64 + i) = omega arith in
      ap (λ (k : ℕ). value_of (p.word k)) at ∙ ap value_of (holds.rest.words (page * 64 + i) inside),
)

-- a medium at rest with no head over the mark
pub empty_log_law : LawOfEmptyLog
empty_log_law s number home rings p accepted small rests none empty = record {
  accepted = accepted;
  small = small;
  rest = rests;
  fits = λ ring below. subst (λ (r : RingRecords). FitsRing s ring r.logged r.released p) (sym (empty ring below)) (record {
    mark = is_settled rests.mark;
    reproduced = omega arith;
    heads = λ slot tag lt may over. none ring slot tag below lt may (subst (λ (m : ℕ). IsHeadOver m tag) (ap (λ (w : Word). w.settled) rests.mark) over);
    records = All-nil (λ (k : Logged). settled_mark p < k.last → IsIntact s ring p k);
  });
  rising = λ ring below. subst (λ (r : RingRecords). AllPairs (λ k m. k.last < first_logged m) r.logged) (sym (empty ring below)) (λ i j d ij lt. absurd (omega arith));
  logged = λ ring below. subst (λ (r : RingRecords). All (λ k. number < k.last → IsWaiting s [] ring p k) r.logged) (sym (empty ring below))
      (All-nil (λ (k : Logged). number < k.last → IsWaiting s [] ring p k));
  waits = λ w is. absurd (none_in w is);
  distinct = λ v w number one other covers too. absurd (none_in v one);
}
  where
    none_in : (w : Waiting) → Contains [] w → ⊥
    none_in w is = let lt = is.1 in omega arith

-- a head over a number stays where the records up to it go
head_filtered : (bound number slot : ℕ) (ls : List Logged) → bound < number → HasHead number slot ls → HasHead number slot (filter (λ k. nat_lt bound k.last) ls)
head_filtered bound number slot [] over has = absurd has
head_filtered bound number slot (l ∷ ls) over (inl is) = rw (lt-ltb bound l.last (let same = is.0 in omega arith)) (inl is)
head_filtered bound number slot (l ∷ ls) over (inr has) = ⊎_elim
    (λ (is : nat_lt bound l.last ≡ true). rw is (inr (head_filtered bound number slot ls over has)))
    (λ (is : nat_lt bound l.last ≡ false). rw is (head_filtered bound number slot ls over has))
    (cases_Bool (nat_lt bound l.last))

pub released_rings_law : LawOfReleasedRings
released_rings_law l number rings p holds upto less = record {
  accepted = holds.accepted;
  small = holds.small;
  rest = holds.rest;
  fits = λ ring below. subst (λ (r : RingRecords). FitsRing l.sizes ring r.logged r.released p) (sym (less ring below)) (fits ring (holds.fits ring below));
  rising = λ ring below. subst (λ (r : RingRecords). AllPairs (λ k m. k.last < first_logged m) r.logged) (sym (less ring below))
      (AllPairs-filter (λ (k m : Logged). k.last < first_logged m) (λ k. nat_lt number k.last) (l.rings ring).logged (holds.rising ring below));
  logged = λ ring below. subst (λ (r : RingRecords). All (λ k. l.reproduced < k.last → IsWaiting l.sizes l.waiting ring p k) r.logged) (sym (less ring below))
      (All-filter (λ k. nat_lt number k.last) (λ (k : Logged). l.reproduced < k.last → IsWaiting l.sizes l.waiting ring p k) (l.rings ring).logged (holds.logged ring below));
  waits = λ w is.
      let old = holds.waits w is in
      let over = old.over in
      record {
        ring_is = old.ring_is;
        over = old.over;
        slot = old.slot;
        has = subst (λ (r : RingRecords). HasHead w.redo.last old.slot r.logged) (sym (less w.ring old.ring_is))
            (head_filtered number w.redo.last old.slot (l.rings w.ring).logged (omega arith) old.has);
      };
  distinct = holds.distinct;
}
  where
    fits : (ring : ℕ) → FitsRing l.sizes ring (l.rings ring).logged (l.rings ring).released p
        → FitsRing l.sizes ring (filter (λ k. nat_lt number k.last) (l.rings ring).logged) (max (l.rings ring).released number) p
    fits ring is =
        let mark = settled_mark_is holds in
        let old = is.reproduced in
        record {
          mark = is.mark;
          reproduced = omega arith;
          heads = λ slot tag lt may over. let high = over.over in head_filtered number (number_of tag) slot (l.rings ring).logged (omega arith) (is.heads slot tag lt may over);
          records = All-filter (λ k. nat_lt number k.last) (λ (k : Logged). settled_mark p < k.last → IsIntact l.sizes ring p k) (l.rings ring).logged is.records;
        }
