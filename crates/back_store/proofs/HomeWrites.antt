-- The writes that stand for records are of home words, and so lie in the image.
use Rattle.std.proofs.Common.{◌≡◌, ℕ, ◌+◌, ◌*◌, ◌/◌, ◌%◌, ◌==◌, ◌<◌, ◌≤◌, Bool, true, false, List, [], ◌∷◌, Some, All, AllPairs, map, get_or, ap, ◌∙◌, subst, inl, inr, arith, if◌then◌else◌, ne_eqb}
use Rattle.std.proofs.lemmas.Bool.{cases_eq}
use Rattle.std.proofs.lemmas.List.Elements.{All-map, All-weaker, All-cons, All-head, All-tail, All-contains}
use Rattle.dude_base.specs.declared.sizes.Sizes.{Sizes}
use Rattle.dude_base.specs.declared.write.Write.{Write}
use Rattle.dude_base.specs.Image.{home_word, image_words}
use Rattle.dude_base.specs.Records.{RedoBundle}
use Rattle.dude_base.specs.Writes.{written}
use Rattle.pmem_trait.specs.Groups.{PlacesFit, LinesFit}
use Rattle.redo_record.specs.BackCalls.{home_writes, once_before, without_repeats, lines_touched}
use Rattle.redo_record.specs.Waiting.{Waits}
use Rattle.group_combine.specs.Group.{last_written, IsWrittenBy}
use Rattle.group_combine.specs.Numbered.{last_of}
use Rattle.group_combine.proofs.Effects.{overwritten-last, written_by_records}
use Rattle.group_combine.proofs.LastWrites.{last_of-records}
use Rattle.back_store.specs.Lane.{LaneState}
use Rattle.back_store.specs.HomeGroup.{AreLedWrites, StandForLed}
use Rattle.back_store.specs.Lanes.{AreLanes, no_lane, waiting_in, waiting_of}
use Rattle.back_store.proofs.WaitingLanes.{waits_in}

-- what holds of each word that is written
written_has : (P : ℕ → Type 0) (ws : List Write) (i v : ℕ) → All (λ w. P w.at) ws → written ws i ≡ Some v → P i
written_has P [] i v all is = absurd (cc)
written_has P (w ∷ ws) i v all is = elim (cases_eq w.at i) [
  | inl same ↦ subst P same (All-head (λ (w : Write). P w.at) w ws all)
  | inr other ↦ written_has P ws i v (All-tail (λ (w : Write). P w.at) w ws all) (rw (ne_eqb w.at i other) at is)
]

-- a waiting record is one of home words
pub home_waits : (s : Sizes) (lanes : List LaneState) (r : RedoBundle) → AreLanes s lanes → Waits (waiting_of lanes) r → All (λ w. w.at < s.pages * 64) r.writes
home_waits s lanes r are waits =
    let at = waits_in 0 lanes (waiting_in waits.ring r) waits.is_one in
    All-contains (λ (q : RedoBundle). All (λ w. w.at < s.pages * 64) q.writes) (get_or lanes at.lane no_lane).waiting r (are.each at.lane no_lane at.within).home (at.among no_lane)

-- writes that waiting records make are of home words
pub inside_home : (s : Sizes) (lanes : List LaneState) (rs : List RedoBundle) (ws : List Write) → AreLanes s lanes → All (Waits (waiting_of lanes)) rs → All (IsWrittenBy rs) ws → All (λ w. w.at < s.pages * 64) ws
inside_home s lanes rs ws are wait each = All-weaker (IsWrittenBy rs) (λ (w : Write). w.at < s.pages * 64) (λ w by.
    let home = home_waits s lanes by.writer are (All-contains (Waits (waiting_of lanes)) rs by.writer wait by.among) in
    written_has (λ i. i < s.pages * 64) by.writer.writes w.at w.value home by.writes) ws each

pub places_fit : (s : Sizes) (ws : List Write) (len : ℕ) → image_words s ≤ len → All (λ w. w.at < s.pages * 64) ws → PlacesFit len (home_writes s ws)
places_fit s ws len long inside = All-map (λ (w : ℕ × ℕ). w.0 < len) (λ (w : Write). (home_word s w.at, w.value)) ws
    (All-weaker (λ (w : Write). w.at < s.pages * 64) (λ (w : Write). home_word s w.at < len) (λ w lt. omega arith) ws inside)

all_once : (P : ℕ → Type 0) (x : ℕ) (xs : List ℕ) → P x → All P xs → All P (once_before x xs)
all_once P x [] here all = All-cons P x [] here all
all_once P x (y ∷ ys) here all = by (x == y)
  where
    by : (b : Bool) → All P (if b then y ∷ ys else x ∷ y ∷ ys)
    by true = all
    by false = All-cons P x (y ∷ ys) here all

all_without_repeats : (P : ℕ → Type 0) (xs : List ℕ) → All P xs → All P (without_repeats xs)
all_without_repeats P [] all = all
all_without_repeats P (x ∷ xs) all = all_once P x (without_repeats xs) (All-head P x xs all) (all_without_repeats P xs (All-tail P x xs all))

line_inside : (n q cells pages len : ℕ) → n ≡ 8 * q + n % 8 → n < (16 + cells * 8) + pages * 64 → (16 + cells * 8) + pages * 64 ≤ len → 8 * q + 8 ≤ len
line_inside n q cells pages len is below long = omega arith

pub lines_fit : (s : Sizes) (ws : List Write) (len : ℕ) → image_words s ≤ len → All (λ w. w.at < s.pages * 64) ws → LinesFit len (lines_touched (home_writes s ws))
lines_fit s ws len long inside =
    all_without_repeats (λ l. 8 * l + 8 ≤ len) (map (λ (w : ℕ × ℕ). w.0 / 8) (home_writes s ws))
    (All-map (λ l. 8 * l + 8 ≤ len) (λ (w : ℕ × ℕ). w.0 / 8) (home_writes s ws)
    (All-map (λ (w : ℕ × ℕ). 8 * (w.0 / 8) + 8 ≤ len) (λ (w : Write). (home_word s w.at, w.value)) ws
    (All-weaker (λ (w : Write). w.at < s.pages * 64) (λ (w : Write). 8 * (home_word s w.at / 8) + 8 ≤ len) (λ w lt. omega arith) ws inside)))

-- the last writes among those of records that lead on stand for the records
pub last_stand : (s : Sizes) (lanes : List LaneState) (from to : ℕ) (taken ws : List Write) → AreLanes s lanes → AreLedWrites lanes from to taken → AllPairs (λ v w. v.at < w.at) ws → ((i : ℕ) → written ws i ≡ last_of taken i)
    → StandForLed s lanes from to ws
last_stand s lanes from to taken ws are led rising is =
    let last : (i : ℕ) → written ws i ≡ last_written led.records i = λ i. is i ∙ ap (λ (l : List Write). last_of l i) led.all ∙ last_of-records led.records i led.distinct in
    record {
      records = led.records;
      lead = led.lead;
      stand = record {
        rising = rising;
        inside = inside_home s lanes led.records ws are led.lead.wait (written_by_records led.records ws rising last);
        last = last;
        effect = λ array. overwritten-last led.records ws array last;
      };
    }
