-- The bundles of a lane by its entries, and one more.
use Rattle.std.proofs.Common.{◌≡◌, ◌≢◌, ℕ, true, false, nat_le, ◌*◌, ◌<◌, ◌≤◌, List, [], ◌∷◌, ◌++◌, All, AllPairs, length, map, get_or, refl, sym, ap, ◌∙◌, subst, arith}
use Rattle.std.specs.List.Sorted.{IsPartitionedBy, IsPartitionPoint}
use Rattle.std.specs.Vec.{vec_capacity}
use Rattle.std.proofs.lemmas.Bool.Decides.{nat_tests}
use Rattle.std.proofs.lemmas.List.{length-map, get_or-map, map_push}
use Rattle.std.proofs.lemmas.List.Elements.{All-nil, All-push}
use Rattle.std.proofs.lemmas.List.FromFn.{length-map-range_with_len, get_or-map-range_with_len}
use Rattle.std.proofs.lemmas.List.Quantifiers.{all_pairs_push}
use Rattle.dude_base.specs.declared.sizes.Sizes.{Sizes}
use Rattle.dude_base.specs.declared.write.Write.{Write}
use Rattle.dude_base.specs.Records.{RedoBundle, IsBundle, first_of}
use Rattle.redo_record.specs.AppendLaw.{logged_as}
use Rattle.redo_record.specs.Record.{cells_for}
use Rattle.redo_record.specs.Fits.{Logged, AreFree}
use Rattle.log_ring.specs.Ring.{RingState, empty_ring, next_head, with_record}
use Rattle.back_store.specs.declared.entry.Entry.{Entry}
use Rattle.back_store.specs.declared.lane.Lane.TheInside.{Inside}
use Rattle.back_store.specs.Entries.{bundle_in, logged_of, no_write, write_place, writes_in}
use Rattle.back_store.specs.KeptLane.{extent, extent_of, waiting_in_lane, IsKeptLane}
use Rattle.back_store.specs.Lane.{IsFront}
use Rattle.back_store.proofs.LaneRecords.{partitioned_upto}
use Rattle.back_store.proofs.LaneWrites.{bundles_more, extents_same}

module _ (a : Inside) where
  pub length_waiting : length (waiting_in_lane a) ≡ length a.entries.items
  length_waiting = length-map a.entries.items (bundle_in a.ring.sizes.cells a.writes.items)

  pub extents_kept : IsKeptLane a → map extent a.ring.logged ≡ map extent_of (waiting_in_lane a)
  extents_kept kept = ap (map extent) kept.same ∙ extents_same a.ring.sizes.cells a.writes.items a.entries.items

  -- the bundle at an index, by its entry
  pub bundle_at_entry : (k : ℕ) (d : RedoBundle) (e : Entry) → k < length a.entries.items → get_or (waiting_in_lane a) k d ≡ bundle_in a.ring.sizes.cells a.writes.items (get_or a.entries.items k e)
  bundle_at_entry k d e lt = get_or-map (bundle_in a.ring.sizes.cells a.writes.items) a.entries.items k e d lt

-- how many writes an entry has, and which
pub count_in : (c : ℕ) (writes : List Write) (e : Entry) → length (bundle_in c writes e).writes ≡ e.count
count_in c writes e = length-map-range_with_len (λ i. get_or writes (write_place c e.slot i) no_write) 0 e.count

pub write_in : (c : ℕ) (writes : List Write) (e : Entry) (i : ℕ) (w : Write) → i < e.count → get_or (bundle_in c writes e).writes i w ≡ get_or writes (write_place c e.slot i) no_write
write_in c writes e i w lt = get_or-map-range_with_len (λ i. get_or writes (write_place c e.slot i) no_write) 0 e.count i i w lt (omega arith)

-- One bundle more, whose writes were put into the places of free cells.
module _ (a b : Inside) (kept : IsKeptLane a) (r : RedoBundle) (e : Entry) (bundle : IsBundle r) (some : 1 ≤ r.last) (newest : All (λ q. q.last < first_of r) (waiting_in_lane a)) (next : a.ring.next < a.ring.sizes.cells)
    (is : e ≡ record { last = r.last; span = r.span; slot = a.ring.next; count = length r.writes }) (ring : b.ring ≡ with_record r a.ring) (entries : b.entries.items ≡ a.entries.items ++ e ∷ [])
    (capacity : vec_capacity b.entries ≡ vec_capacity a.entries) (long : length b.writes.items ≡ length a.writes.items) (free : AreFree a.ring.sizes 0 a.ring.next (cells_for (length r.writes)) a.ring.logged)
    (own : writes_in a.ring.sizes.cells b.writes.items a.ring.next (length r.writes) ≡ r.writes)
    (others : (at : ℕ) (d : Write) → ((i : ℕ) → i < length r.writes → at ≢ write_place a.ring.sizes.cells a.ring.next i) → get_or b.writes.items at d ≡ get_or a.writes.items at d) where
  sizes : b.ring.sizes ≡ a.ring.sizes
  sizes = ap (λ (v : RingState). v.sizes) ring

  bundle_is : bundle_in a.ring.sizes.cells b.writes.items e ≡ r
  bundle_is = ap (bundle_in a.ring.sizes.cells b.writes.items) is ∙ ap (λ (ws : List Write). record { last = r.last; span = r.span; writes = ws }) own

  pub waiting_more : waiting_in_lane b ≡ waiting_in_lane a ++ r ∷ []
  waiting_more =
      ap (λ (s : Sizes). map (bundle_in s.cells b.writes.items) b.entries.items) sizes ∙ ap (map (bundle_in a.ring.sizes.cells b.writes.items)) entries
      ∙ bundles_more a.ring.sizes a.ring.next (length r.writes) a.writes.items b.writes.items others a.entries.items e r
      (subst (AreFree a.ring.sizes 0 a.ring.next (cells_for (length r.writes))) kept.same free) kept.some bundle_is

  logged_more : b.ring.logged ≡ map logged_of b.entries.items
  logged_more =
      ap (λ (v : RingState). v.logged) ring ∙ ap (λ (ls : List Logged). ls ++ logged_as (next_head a.ring) r ∷ []) kept.same
      ∙ ap (λ (l : Logged). map logged_of a.entries.items ++ l ∷ []) (sym (ap logged_of is)) ∙ sym (map_push logged_of a.entries.items e) ∙ ap (map logged_of) (sym entries)

  pub lane_more : IsKeptLane b
  lane_more =
      let cells : b.ring.sizes.cells ≡ a.ring.sizes.cells = ap (λ (s : Sizes). s.cells) sizes in
      let last : r.last ≡ e.last = sym (ap (λ (d : Entry). d.last) is) in
      let slot : a.ring.next ≡ e.slot = sym (ap (λ (d : Entry). d.slot) is) in
      record {
        room = omega (arith, capacity, cells, kept.room);
        places = long ∙ kept.places ∙ ap (λ n. 3 * n) (sym cells);
        same = logged_more;
        bundles = subst (All IsBundle) (sym waiting_more) (All-push IsBundle (waiting_in_lane a) r kept.bundles bundle);
        some = subst (All (λ (d : Entry). 1 ≤ d.last)) (sym entries) (All-push (λ (d : Entry). 1 ≤ d.last) a.entries.items e kept.some (subst (λ n. 1 ≤ n) last some));
        inside = subst (λ n. All (λ (d : Entry). d.slot < n) b.entries.items) (sym cells) (subst (All (λ (d : Entry). d.slot < a.ring.sizes.cells)) (sym entries)
            (All-push (λ (d : Entry). d.slot < a.ring.sizes.cells) a.entries.items e kept.inside (subst (λ n. n < a.ring.sizes.cells) slot next)));
        rising = subst (AllPairs (λ (q t : RedoBundle). q.last < first_of t)) (sym waiting_more) (all_pairs_push (λ (q t : RedoBundle). q.last < first_of t) (waiting_in_lane a) r kept.rising newest);
      }

no_entry : Entry
no_entry = record { last = 0; span = 0; slot = 0; count = 0 }

module _ (n c : ℕ) (writes : List Write) (es : List Entry) where
  -- of bundles that rise those up to a number come first
  pub partitioned_entries : AllPairs (λ r t. r.last < first_of t) (map (bundle_in c writes) es) → IsPartitionedBy (λ (e : Entry). nat_le e.last n) es
  partitioned_entries rising i j d le jl upto =
      let one = get_or-map (bundle_in c writes) es i d (bundle_in c writes d) (omega arith) in
      let other = get_or-map (bundle_in c writes) es j d (bundle_in c writes d) jl in
      subst (λ (r : RedoBundle). nat_le r.last n ≡ true) one
      (partitioned_upto n (map (bundle_in c writes) es) rising i j (bundle_in c writes d) le (omega (arith, length-map es (bundle_in c writes))) (subst (λ (r : RedoBundle). nat_le r.last n ≡ true) (sym other) upto))

  pub front_entries : (k : ℕ) → k ≤ length es → IsPartitionPoint (λ (e : Entry). nat_le e.last n ≡ true) (λ (e : Entry). nat_le e.last n ≡ false) es k → IsFront (map (bundle_in c writes) es) k n
  front_entries k le (low, high) = (
    omega (arith, length-map es (bundle_in c writes)),
    (λ i d z lt.
        let within : i < length es = omega arith in
        let upto : nat_le (get_or es i no_entry).last n ≡ true = low i no_entry z lt in
        let few : (get_or es i no_entry).last ≤ n = grind (arith, nat_tests) in
        subst (λ (r : RedoBundle). r.last ≤ n) (sym (get_or-map (bundle_in c writes) es i no_entry d within)) few),
    (λ i d z lt.
        let within : i < length es = omega (arith, length-map es (bundle_in c writes)) in
        let over : nat_le (get_or es i no_entry).last n ≡ false = high i no_entry z within in
        let more : n < (get_or es i no_entry).last = grind (arith, nat_tests) in
        subst (λ (r : RedoBundle). n < r.last) (sym (get_or-map (bundle_in c writes) es i no_entry d within)) more),
  )

-- a lane without records
pub kept_empty : (a : Inside) (s : Sizes) (ring : ℕ) → a.ring ≡ empty_ring s ring → a.entries.items ≡ [] → s.cells ≤ vec_capacity a.entries → length a.writes.items ≡ 3 * s.cells → IsKeptLane a
kept_empty a s ring is none room long = record {
  room = rw is room;
  places = rw is long;
  same = rw (is, none) refl;
  bundles = rw none (All-nil IsBundle);
  some = rw none (All-nil (λ (e : Entry). 1 ≤ e.last));
  inside = rw none (All-nil (λ (e : Entry). e.slot < a.ring.sizes.cells));
  rising = rw none (λ i j d lt below. absurd (omega arith));
}
