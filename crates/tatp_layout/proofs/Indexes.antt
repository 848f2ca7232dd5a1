-- An index stays where no word changes from its first one on, and the tables stay where none changes in front of it.
use Rattle.std.proofs.Common.{◌≡◌, ℕ, ◌+◌, ◌<◌, ◌≤◌, ◌≢◌, zero, suc, inr, List, Some, None, slice_index, refl, sym, ap, arith}
use Rattle.std.specs.List.Sorted.{IsPermutation}
use Rattle.std.proofs.lemmas.List.Sorted.{IsPermutation-trans}
use Rattle.std.specs.Option.{unwrap_or}
use Rattle.dude_base.specs.declared.sizes.Sizes.{Sizes}
use Rattle.dude_base.specs.Home.{index_shape, table_words}
use Rattle.hash_table.specs.declared.table.Table.{Table}
use Rattle.hash_table.specs.Ranges.{FitsRange}
use Rattle.record_heap.proofs.Frames.{SamePool}
use Rattle.tatp_model.specs.Database.{Database}
use Rattle.tree_index.specs.declared.tree.Tree.{Tree}
use Rattle.tree_index.specs.Shape.{keys_in}
use Rattle.tree_index.specs.Tree.{IsBeside, IsOutside}
use Rattle.tree_index.proofs.Frames.{SameTree, tree_stays}
use Rattle.tree_index.proofs.Frees.{none_is_not}
use Rattle.tatp_layout.specs.Index.{HasKeys, IndexHas, by_index}
use Rattle.tatp_layout.specs.Layout.{call_base, call_table, facility_table, index_pool, index_tree, leaf_base, number_base, subscriber_table, tree_from, tree_where}
use Rattle.tatp_layout.proofs.Places.{access_after, access_range, call_range, facility_after, facility_range, number_after, number_range, subscriber_range}
use Rattle.tatp_layout.proofs.Stays.{ChangesTable, rows_in_range}
use Rattle.tatp_layout.proofs.Tables.{HasTables, access_room, call_room, facility_room, number_room, subscriber_room}

-- the tree with its keys
pub keys_stay : {tree : Tree} {a b keys : List ℕ} → SameTree tree a b → HasKeys tree a keys → HasKeys tree b keys
keys_stay same h = record { shape = h.shape; free_leaves = h.free_leaves; free_inner = h.free_inner; lawful = tree_stays h.shape same h.lawful; same = h.same }

-- the same keys in another order
pub keys_reordered : {tree : Tree} {array keys other : List ℕ} → IsPermutation keys other → HasKeys tree array keys → HasKeys tree array other
keys_reordered {keys = keys} {other = other} moved h = record { shape = h.shape; free_leaves = h.free_leaves; free_inner = h.free_inner; lawful = h.lawful; same = IsPermutation-trans (keys_in h.shape) keys other h.same moved }

-- ---- the words of a pool lie from its base on

pool_same : {a b : List ℕ} (from base count : ℕ) → from ≤ base → ((i : ℕ) → from ≤ i → slice_index b i ≡ slice_index a i) → SamePool (index_pool base count) a b
pool_same from base count behind same = record {
  first = same base behind;
  live = same (base + 1) (omega (arith, behind));
  links = λ x r. same (x + 1) (omega (arith, behind, r.is));
}

tree_same : {a b : List ℕ} (base subscribers : ℕ) → ((i : ℕ) → base ≤ i → slice_index b i ≡ slice_index a i) → SameTree (tree_from base subscribers) a b
tree_same base subscribers same = record {
  leaves = pool_same base base subscribers (omega arith) same;
  inner = pool_same base (base + table_words (index_shape subscribers)) subscribers (omega arith) same;
  root = same (base + 2) (omega arith);
  keys = λ x r. same x (omega (arith, r.is));
  forks = λ x j r small. same (x + j) (omega (arith, r.is));
}

pool_beside : (i base count : ℕ) → i < base → IsBeside (index_pool base count) i 1
pool_beside i base count before = record { header = inr (omega (arith, before)); records = λ at r. inr (omega (arith, before, r.is)) }

outside : (i base subscribers : ℕ) → i < base → IsOutside (tree_from base subscribers) i
outside i base subscribers before = record {
  leaves = pool_beside i base subscribers before;
  inner = pool_beside i (base + table_words (index_shape subscribers)) subscribers (omega (arith, before));
  root = λ same. omega (arith, before, same);
}

-- ---- the index

-- no word changes from the index on
pub index_stays : (s : Sizes) {a b : List ℕ} (keys : List ℕ) → ((i : ℕ) → leaf_base s ≤ i → slice_index b i ≡ slice_index a i) → IndexHas s a keys → IndexHas s b keys
index_stays s keys same has = λ is. keys_stay (tree_same (leaf_base s) s.subscribers same) (has is)

-- a word in front of the index is none of its tree's
pub before_index : (s : Sizes) (i : ℕ) → i < leaf_base s → IsOutside (index_tree s) i
before_index s i before = outside i (leaf_base s) s.subscribers before

-- a table in front of it changes
beside : (s : Sizes) {table : Table} {a b : List ℕ} {low high : ℕ} → FitsRange table low high → high ≤ leaf_base s → (keys : List ℕ) → ChangesTable table a b → IndexHas s a keys → IndexHas s b keys
beside s {low = low} {high = high} range before keys changes has = index_stays s keys (λ i from. changes.others low high range i (inr (omega (arith, before, from)))) has

module _ (s : Sizes) where
  pub number_before : number_base s ≤ leaf_base s
  number_before = omega (arith, number_after s, access_after s, facility_after s)

  pub call_before : call_base s ≤ leaf_base s
  call_before = omega arith

module _ (s : Sizes) {a b : List ℕ} (keys : List ℕ) where
  pub index_subscribers : ChangesTable (subscriber_table s) a b → IndexHas s a keys → IndexHas s b keys
  index_subscribers = beside s (subscriber_range s) (number_before s) keys

  pub index_facilities : ChangesTable (facility_table s) a b → IndexHas s a keys → IndexHas s b keys
  index_facilities = beside s (facility_range s) (call_before s) keys

  pub index_calls : ChangesTable (call_table s) a b → IndexHas s a keys → IndexHas s b keys
  index_calls = beside s (call_range s) (omega arith) keys

-- ---- the tables

-- no word changes in front of the index
pub tables_stay : {s : Sizes} {a b : List ℕ} {db : Database} → ((i : ℕ) → i < leaf_base s → slice_index b i ≡ slice_index a i) → HasTables s a db → HasTables s b db
tables_stay {s} same tables =
    let calls = call_before s in
    let facilities = facility_after s in
    let access = access_after s in
    let numbers = number_after s in
    record {
      subscribers = rows_in_range (subscriber_range s) (omega arith) (λ i from to. same i (omega (arith, to, number_before s))) (subscriber_room s) tables.subscribers;
      numbers = rows_in_range (number_range s) (omega arith) (λ i from to. same i (omega (arith, to, access, facilities, calls))) (number_room s) tables.numbers;
      access = rows_in_range (access_range s) (omega arith) (λ i from to. same i (omega (arith, to, facilities, calls))) (access_room s) tables.access;
      facilities = rows_in_range (facility_range s) (omega arith) (λ i from to. same i (omega (arith, to, calls))) (facility_room s) tables.facilities;
      calls = rows_in_range (call_range s) (omega arith) (λ i from to. same i (omega (arith, to))) (call_room s) tables.calls;
    }

-- ---- numbers that depend on whether there is an index

pub by_index_most : (index bare indexed most : ℕ) → bare ≤ most → indexed ≤ most → by_index index bare indexed ≤ most
by_index_most zero bare indexed most a b = a
by_index_most (suc more) bare indexed most a b = b

pub by_index_least : (index bare indexed least : ℕ) → least ≤ bare → least ≤ indexed → least ≤ by_index index bare indexed
by_index_least zero bare indexed least a b = a
by_index_least (suc more) bare indexed least a b = b

-- there is none
pub no_tree : (index : ℕ) (tree : Tree) → tree_where index tree ≡ None → index ≡ 0
no_tree zero tree none = refl
no_tree (suc more) tree none = absurd (none_is_not none)

-- there is one
pub with_tree : (index bare indexed : ℕ) {tree other : Tree} → tree_where index tree ≡ Some other → (index ≢ 0) × (by_index index bare indexed ≡ indexed) × (tree ≡ other)
with_tree zero bare indexed is = absurd (none_is_not (sym is))
with_tree (suc more) bare indexed {tree} {other} is = (omega arith, refl, ap (λ o. unwrap_or o tree) is)

pub by_index_both : (index bare indexed more most : ℕ) → bare ≤ more → indexed ≤ most → by_index index bare indexed ≤ by_index index more most
by_index_both zero bare indexed more most a b = a
by_index_both (suc other) bare indexed more most a b = b
