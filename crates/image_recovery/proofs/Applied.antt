-- Bundles that lead on from a number, from the front of a list of rising numbers.
use Rattle.std.proofs.Common.{◌≡◌, ◌≢◌, ℕ, zero, suc, ◌+◌, ◌<◌, ◌≤◌, List, [], ◌∷◌, ◌++◌, length, get_or, map, take, All, refl, sym, ap, ◌∙◌, subst, arith}
use Rattle.std.proofs.lemmas.List.{length-map, get_or-map, map_push, take-map, take_more}
use Rattle.std.proofs.lemmas.List.Elements.{All-map}
use Rattle.std.specs.List.{AllPairs}
use Rattle.dude_base.specs.declared.sizes.Sizes.{Sizes}
use Rattle.dude_base.specs.Records.{RedoBundle, first_of}
use Rattle.dude_base.specs.Writes.{overwritten}
use Rattle.redo_record.specs.Recovery.{AreConsecutive, overwritten_by_all}
use Rattle.redo_record.proofs.WaitingRecords.{consecutive_up}
use Rattle.log_ring.specs.declared.head.Head.{Head}
use Rattle.log_ring.specs.Heads.{bundle_of_head, cell_of}
use Rattle.log_ring.specs.Scan.{AreHeads}
use Rattle.image_recovery.specs.Replays.{AreApplied}

-- one bundle more
pub overwritten_by_all-push : (rs : List RedoBundle) (r : RedoBundle) (array : List ℕ) → overwritten_by_all (rs ++ r ∷ []) array ≡ overwritten r.writes (overwritten_by_all rs array)
overwritten_by_all-push [] r array = refl
overwritten_by_all-push (t ∷ rs) r array = overwritten_by_all-push rs r (overwritten t.writes array)

-- the first of some bundles of rising numbers is below each later one
first_below : (x : RedoBundle) (xs : List RedoBundle) → AllPairs (λ r t. r.last < first_of t) (x ∷ xs) → All (λ r. x.last < first_of r) xs
first_below x xs rising j d inside = rising 0 (suc j) d (omega arith) (omega arith)

rest_rising : (x : RedoBundle) (xs : List RedoBundle) → AllPairs (λ r t. r.last < first_of t) (x ∷ xs) → AllPairs (λ r t. r.last < first_of t) xs
rest_rising x xs rising i j d lt inside = rising (suc i) (suc j) d (omega arith) (omega arith)

-- where the first records lead on and the next one doesn't, no bundle begins behind the last
none_next : (from number count : ℕ) (log : List RedoBundle) → AreConsecutive from (take count log) number
    → All (λ r. from < first_of r) log → AllPairs (λ r t. r.last < first_of t) log
    → ((d : RedoBundle) → count < length log → first_of (get_or log count d) ≢ number + 1)
    → (j : ℕ) (d : RedoBundle) → j < length log → first_of (get_or log j d) ≢ number + 1
none_next from number count [] lead over rising stop j d inside = absurd (omega arith)
none_next from number zero (x ∷ xs) lead over rising stop zero d inside = stop d inside
none_next from number zero (x ∷ xs) lead over rising stop (suc j) d inside =
    let above : x.last < first_of (get_or xs j d) = first_below x xs rising j d (omega arith) in
    let first : from < first_of x = over 0 d (omega arith) in
    let other : first_of x ≢ number + 1 = stop d (omega arith) in
    omega (arith, other)
none_next from number (suc count) (x ∷ xs) lead over rising stop zero d inside =
    let up : x.last ≤ number = consecutive_up x.last number (take count xs) lead.1 in
    omega arith
none_next from number (suc count) (x ∷ xs) lead over rising stop (suc j) d inside =
    none_next x.last number count xs lead.1 (first_below x xs rising) (rest_rising x xs rising) (λ d lt. stop d (omega arith)) j d (omega arith)

pub applied : (from number count : ℕ) (log : List RedoBundle) (old new : List ℕ) → AreConsecutive from (take count log) number → new ≡ overwritten_by_all (take count log) old
    → ((d : RedoBundle) → count < length log → first_of (get_or log count d) ≢ number + 1)
    → All (λ r. from < first_of r) log → AllPairs (λ r t. r.last < first_of t) log → AreApplied log from old new number
applied from number count log old new lead result stop over rising = record {
  count = count;
  lead = lead;
  result = result;
  stop = λ r has is. none_next from number count log lead over rising stop has.0 r has.1 (ap (λ (t : RedoBundle). first_of t) has.2 ∙ is);
}

module _ (s : Sizes) (mark : ℕ) (content : List ℕ) (heads : List Head) (are : AreHeads s mark content heads) where
  abbrev bundles : List RedoBundle
  bundles = map (bundle_of_head s content) heads

  -- the bundles of the heads are over the mark
  over_mark : All (λ r. mark < first_of r) bundles
  over_mark = All-map (λ (r : RedoBundle). mark < first_of r) (bundle_of_head s content) heads (λ i d lt. (are.scanned.undamaged.complete (cell_of (get_or heads i d)) (are.new i d lt)).over)

  -- those of the first heads lead on, and the next one doesn't
  pub applied_heads : (number count : ℕ) (old new : List ℕ) → AreConsecutive mark (map (bundle_of_head s content) (take count heads)) number
      → new ≡ overwritten_by_all (map (bundle_of_head s content) (take count heads)) old → ((d : Head) → count < length heads → first_of (bundle_of_head s content (get_or heads count d)) ≢ number + 1)
      → AreApplied bundles mark old new number
  applied_heads number count old new lead result stop =
      let same : map (bundle_of_head s content) (take count heads) ≡ take count bundles = sym (take-map (bundle_of_head s content) count heads) in
      applied mark number count bundles old new (subst (λ (rs : List RedoBundle). AreConsecutive mark rs number) same lead) (result ∙ ap (λ (rs : List RedoBundle). overwritten_by_all rs old) same)
      (λ d below is.
      let none : Head = record { last = 0; span = 0; ring = 0; slot = 0 } in
      let within : count < length heads = omega (arith, length-map heads (bundle_of_head s content)) in
      stop none within (ap (λ (r : RedoBundle). first_of r) (sym (get_or-map (bundle_of_head s content) heads count none d within)) ∙ is))
      over_mark are.scanned.rising

-- one bundle more
pub next_bundles : (s : Sizes) (content : List ℕ) (heads : List Head) (i : ℕ) (d : Head) → i < length heads
    → map (bundle_of_head s content) (take (i + 1) heads) ≡ map (bundle_of_head s content) (take i heads) ++ bundle_of_head s content (get_or heads i d) ∷ []
next_bundles s content heads i d lt = ap (map (bundle_of_head s content)) (take_more heads i d lt) ∙ map_push (bundle_of_head s content) (take i heads) (get_or heads i d)
