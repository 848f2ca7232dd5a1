-- Each of the five tables of accepted sizes may be used over the home, in a range of its own.
use Rattle.std.proofs.Common.{◌≡◌, ℕ, ◌+◌, ◌*◌, ◌<◌, ◌≤◌, inl, inr, refl, ap, ◌∙◌, arith}
use Rattle.dude_base.specs.declared.limits.TheConstants.{LINE, PAGE}
use Rattle.dude_base.specs.declared.sizes.Sizes.{Sizes}
use Rattle.dude_base.specs.Home.{TableShape, in_whole_lines, table_words, home_length, index_length, index_shape, tables_length}
use Rattle.dude_base.specs.Sizes.{IsAccepted}
use Rattle.hash_table.specs.declared.table.Table.{Table}
use Rattle.hash_table.specs.Ranges.{FitsRange, AreSeparate}
use Rattle.hash_table.specs.Table.{FitsTable}
use Rattle.hash_table.proofs.Fits.{record_ends, table_fits}
use Rattle.tree_index.proofs.Fits.{tree_fits}
use Rattle.tree_index.specs.Tree.{FitsTree}
use Rattle.tatp_layout.specs.Layout.{table_at, subscriber_shape, number_shape, kind_shape, call_shape, number_base, access_base, facility_base, call_base, index_tree, inner_base, leaf_base, tree_from, subscriber_table, number_table, access_table, facility_table, call_table}

up : (x : ℕ) → x ≤ in_whole_lines x
up x = omega arith

records_end : (base : ℕ) (shape : TableShape) → base + LINE + in_whole_lines shape.buckets + shape.size * shape.records ≤ base + table_words shape
records_end base shape = omega (arith, up (shape.records * shape.size))

-- a table at a word, over an array that reaches behind it
pub fits_at : {n : ℕ} (base : ℕ) (shape : TableShape) → 0 < shape.buckets → 2 ≤ shape.size → base + table_words shape ≤ n → FitsTable (table_at base shape) n
fits_at {n} base shape some wide inside =
    let links = up shape.buckets in
    let records = records_end base shape in
    table_fits (table_at base shape) n some (omega arith) wide (omega arith) (omega arith) (inr (omega arith)) (inl (omega arith))

-- the tree of an index whose leaves begin at a word, over an array that reaches behind it
tree_at : {n : ℕ} (base subscribers : ℕ) → base + table_words (index_shape subscribers) + table_words (index_shape subscribers) ≤ n → FitsTree (tree_from base subscribers) n
tree_at {n} base subscribers inside =
    let leaves = records_end base (index_shape subscribers) in
    let inner = records_end (base + table_words (index_shape subscribers)) (index_shape subscribers) in
    tree_fits (tree_from base subscribers) n (omega arith) (omega arith) (omega arith) (omega (arith, leaves)) (omega arith) (omega arith) (omega (arith, inner, inside))

-- a home whose length has an index reaches behind it
index_room : {n : ℕ} (s : Sizes) → s.index ≡ 1 → home_length s.subscribers s.calls s.index ≤ n → inner_base s + table_words (index_shape s.subscribers) ≤ n
index_room s is inside =
    let one : 1 * (2 * table_words (index_shape s.subscribers)) ≡ 2 * table_words (index_shape s.subscribers) = omega arith in
    let both : index_length s.subscribers s.index ≡ 2 * table_words (index_shape s.subscribers) = ap (index_length s.subscribers) is ∙ one in
    omega (arith, inside, both)

-- its range
pub range_at : {high : ℕ} (base : ℕ) (shape : TableShape) → 2 ≤ shape.size → high ≡ base + table_words shape → FitsRange (table_at base shape) base high
range_at {high} base shape wide ends =
    let links = up shape.buckets in
    let records = records_end base shape in
    record {
      header_from = omega arith;
      header_to = omega arith;
      links_from = omega arith;
      links_to = omega arith;
      record_from = λ at r. omega (arith, (record_ends r).0);
      record_to = λ at r. omega (arith, (record_ends r).1);
    }

-- two tables, of which the first ends before the second
pub before : {first second : Table} {low high second_low second_high : ℕ} → FitsRange first low high → FitsRange second second_low second_high → high ≤ second_low → AreSeparate first second
before f g below = record { first_low = _; first_high = _; second_low = _; second_high = _; of_first = f; of_second = g; apart = inl below }

pub separate_flip : {first second : Table} → AreSeparate first second → AreSeparate second first
separate_flip s = record { first_low = _; first_high = _; second_low = _; second_high = _; of_first = s.of_second; of_second = s.of_first; apart = elim s.apart [ inl below ↦ inr below | inr above ↦ inl above ] }

-- ---- their ranges

module _ (s : Sizes) where
  pub subscriber_range : FitsRange (subscriber_table s) 0 (number_base s)
  subscriber_range = range_at 0 (subscriber_shape s) (omega arith) (omega arith)

  pub number_range : FitsRange (number_table s) (number_base s) (access_base s)
  number_range = range_at (number_base s) (number_shape s) (omega arith) refl

  pub access_range : FitsRange (access_table s) (access_base s) (facility_base s)
  access_range = range_at (access_base s) (kind_shape s) (omega arith) refl

  pub facility_range : FitsRange (facility_table s) (facility_base s) (call_base s)
  facility_range = range_at (facility_base s) (kind_shape s) (omega arith) refl

  pub call_range : FitsRange (call_table s) (call_base s) (tables_length s.subscribers s.calls)
  call_range = range_at (call_base s) (call_shape s) (omega arith) (omega arith)

  -- they follow one another
  pub number_after : number_base s ≤ access_base s
  number_after = omega arith

  pub access_after : access_base s ≤ facility_base s
  access_after = omega arith

  pub facility_after : facility_base s ≤ call_base s
  facility_after = omega arith

  -- ---- any two are separate

  pub subscribers_numbers : AreSeparate (subscriber_table s) (number_table s)
  subscribers_numbers = before subscriber_range number_range (omega arith)

  pub subscribers_access : AreSeparate (subscriber_table s) (access_table s)
  subscribers_access = before subscriber_range access_range number_after

  pub subscribers_facilities : AreSeparate (subscriber_table s) (facility_table s)
  subscribers_facilities = before subscriber_range facility_range (omega (arith, number_after, access_after))

  pub subscribers_calls : AreSeparate (subscriber_table s) (call_table s)
  subscribers_calls = before subscriber_range call_range (omega (arith, number_after, access_after, facility_after))

  pub numbers_facilities : AreSeparate (number_table s) (facility_table s)
  numbers_facilities = before number_range facility_range access_after

  pub numbers_calls : AreSeparate (number_table s) (call_table s)
  numbers_calls = before number_range call_range (omega (arith, access_after, facility_after))

  pub access_facilities : AreSeparate (access_table s) (facility_table s)
  access_facilities = before access_range facility_range (omega arith)

  pub access_calls : AreSeparate (access_table s) (call_table s)
  access_calls = before access_range call_range facility_after

  pub facilities_calls : AreSeparate (facility_table s) (call_table s)
  facilities_calls = before facility_range call_range (omega arith)

-- ---- over a home of accepted sizes each may be used

-- the pages have room for all five, and for an index
pub home_fits : {s : Sizes} → IsAccepted s → home_length s.subscribers s.calls s.index ≤ s.pages * PAGE
home_fits {s} accepted = omega (arith, accepted.pages)

module _ {s : Sizes} (accepted : IsAccepted s) where
  some : (0 < s.subscribers) × (0 < s.calls)
  some = (omega (arith, accepted.subscribers.low), omega (arith, accepted.calls.low))

  inside : call_base s + table_words (call_shape s) ≤ s.pages * PAGE
  inside = omega (arith, home_fits accepted)

  pub subscribers_fit : FitsTable (subscriber_table s) (s.pages * PAGE)
  subscribers_fit = fits_at 0 (subscriber_shape s) some.0 (omega arith) (omega (arith, inside))

  pub numbers_fit : FitsTable (number_table s) (s.pages * PAGE)
  numbers_fit = fits_at (number_base s) (number_shape s) some.0 (omega arith) (omega (arith, inside))

  pub access_fits : FitsTable (access_table s) (s.pages * PAGE)
  access_fits = fits_at (access_base s) (kind_shape s) (omega (arith, some)) (omega arith) (omega (arith, inside))

  pub facilities_fit : FitsTable (facility_table s) (s.pages * PAGE)
  facilities_fit = fits_at (facility_base s) (kind_shape s) (omega (arith, some)) (omega arith) (omega (arith, inside))

  pub calls_fit : FitsTable (call_table s) (s.pages * PAGE)
  calls_fit = fits_at (call_base s) (call_shape s) some.1 (omega arith) inside

  -- and so may the tree of an index
  pub index_fits : s.index ≡ 1 → FitsTree (index_tree s) (s.pages * PAGE)
  index_fits is = tree_at (leaf_base s) s.subscribers (index_room s is (home_fits accepted))
