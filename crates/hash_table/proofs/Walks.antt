-- Walks along the links of any array: what is known at each step, and what is found.
use Rattle.std.proofs.Common.{◌≡◌, ◌≢◌, ℕ, ◌+◌, ◌-◌, ◌%◌, ◌<◌, ◌≤◌, inl, inr, zero, suc, List, [], ◌∷◌, ◌++◌, length, All, Option, Some, None, slice_index, refl, sym, ap, ◌∙◌, subst, arith, length-append}
use Rattle.std.proofs.lemmas.List.{length_push}
use Rattle.std.proofs.lemmas.List.Elements.{All-append, All-cons, All-push, All-nil, All-tail, All-contains}
use Rattle.record_heap.specs.Links.{Linked}
use Rattle.record_heap.specs.declared.pool.Pool.{Pool}
use Rattle.record_heap.specs.Pool.{IsRecord}
use Rattle.record_heap.proofs.Records.{record_or_not}
use Rattle.hash_table.specs.declared.table.ChainPosition.{ChainPosition}
use Rattle.hash_table.specs.declared.table.Table.{Table}
use Rattle.hash_table.specs.Seek.{SeeksFirst}
use Rattle.hash_table.specs.Table.{link_after, lookup}
use Rattle.hash_table.specs.Walk.{FindsFirst, IsChain, IsPath}
use Rattle.hash_table.proofs.Chains.{first_among}
use Rattle.hash_table.proofs.Maps.{lookup_absent, lookup_amid}

-- ---- paths

pub link_after-append : (link : ℕ) (xs ys : List ℕ) → link_after link (xs ++ ys) ≡ link_after (link_after link xs) ys
link_after-append link [] ys = refl
link_after-append link (x ∷ xs) ys = link_after-append (x + 1) xs ys

pub path_append : (array : List ℕ) (link : ℕ) (xs ys : List ℕ) → IsPath array link xs → IsPath array (link_after link xs) ys → IsPath array link (xs ++ ys)
path_append array link [] ys p q = q
path_append array link (x ∷ xs) ys p q = (p.0, path_append array (x + 1) xs ys p.1 q)

pub path_linked : (array : List ℕ) (link : ℕ) (xs : List ℕ) → Linked array link xs → IsPath array link xs
path_linked array link [] linked = tt
path_linked array link (x ∷ xs) linked = (linked.0, path_linked array (x + 1) xs linked.1)

pub end_linked : (array : List ℕ) (link : ℕ) (xs : List ℕ) → Linked array link xs → slice_index array (link_after link xs) ≡ 0
end_linked array link [] linked = linked
end_linked array link (x ∷ xs) linked = end_linked array (x + 1) xs linked.1

pub linked_path : (array : List ℕ) (link : ℕ) (xs : List ℕ) → IsPath array link xs → slice_index array (link_after link xs) ≡ 0 → Linked array link xs
linked_path array link [] path end = end
linked_path array link (x ∷ xs) path end = (path.0, linked_path array (x + 1) xs path.1 end)

-- ---- chains

-- a list of records that ends with the link 0 is a chain
pub chain_linked : {pool : Pool} {array : List ℕ} {link : ℕ} (most : ℕ) (xs : List ℕ) → ¬ IsRecord pool 0 → Linked array link xs → All (IsRecord pool) xs → length xs ≤ most → IsChain pool most array link xs
chain_linked {pool} {array} {link} most xs none linked records few = record {
  path = path_linked array link xs linked;
  records = records;
  few = few;
  ends = λ less there. none (subst (IsRecord pool) (end_linked array link xs linked) there);
}

-- each word begins a chain
chain_from : (pool : Pool) → 0 < pool.size → (array : List ℕ) (most link : ℕ) → (chain : List ℕ) × IsChain pool most array link chain
chain_from pool wide array zero link = ([], record { path = tt; records = All-nil (IsRecord pool); few = omega arith; ends = λ less. absurd (omega arith) })
chain_from pool wide array (suc most) link =
    elim (record_or_not pool wide (slice_index array link)) [
      | inl there ↦
          let others = chain_from pool wide array most (slice_index array link + 1) in (
            slice_index array link ∷ others.0,
            record {
              path = (refl, others.1.path);
              records = All-cons (IsRecord pool) (slice_index array link) others.0 there others.1.records;
              few = omega (arith, others.1.few);
              ends = λ less. others.1.ends (omega (arith, less));
            },
          )
      | inr none ↦ ([], record { path = tt; records = All-nil (IsRecord pool); few = omega arith; ends = λ less. none })
    ]

chain_tail : {pool : Pool} {most link x : ℕ} {array xs : List ℕ} → IsChain pool most array link (x ∷ xs) → IsChain pool (most - 1) array (x + 1) xs
chain_tail {pool} {most} {x = x} {xs = xs} c = record {
  path = c.path.1;
  records = All-tail (IsRecord pool) x xs c.records;
  few = omega (arith, c.few);
  ends = λ less. c.ends (omega (arith, less));
}

chain_starts : {pool : Pool} {most link x : ℕ} {array xs : List ℕ} → IsChain pool most array link (x ∷ xs) → (0 < most) × IsRecord pool (slice_index array link)
chain_starts {pool} {x = x} {xs = xs} c = (omega (arith, c.few), subst (IsRecord pool) (sym c.path.0) (All-contains (IsRecord pool) (x ∷ xs) x c.records (first_among x xs)))

same_chain : {pool : Pool} {array : List ℕ} (most link : ℕ) (xs ys : List ℕ) → IsChain pool most array link xs → IsChain pool most array link ys → xs ≡ ys
same_chain most link [] [] c d = refl
same_chain most link [] (y ∷ ys) c d = absurd (c.ends (chain_starts d).0 (chain_starts d).1)
same_chain most link (x ∷ xs) [] c d = absurd (d.ends (chain_starts c).0 (chain_starts c).1)
same_chain {pool} {array} most link (x ∷ xs) (y ∷ ys) c d =
    let same : y ≡ x = sym d.path.0 ∙ c.path.0 in
    let others = same_chain (most - 1) (x + 1) xs ys (chain_tail c) (subst (λ z. IsChain pool (most - 1) array (z + 1) ys) same (chain_tail d)) in
    ap (λ l. x ∷ l) others ∙ ap (λ z. z ∷ ys) (sym same)

-- and only one
pub chain_unique : {pool : Pool} {most link : ℕ} {array : List ℕ} (xs ys : List ℕ) → IsChain pool most array link xs → IsChain pool most array link ys → xs ≡ ys
chain_unique {most = most} {link = link} xs ys c d = same_chain most link xs ys c d

-- ---- steps of a walk

-- A walk for the key that began at the word `start` passed so many records, none of which has the key, and
-- stands at the link of the next.
pub record Passes (pool : Pool) (array : List ℕ) (start key number link : ℕ) : Type 0 where
  pub before : List ℕ
  pub passed : length before ≡ number
  pub at : link ≡ link_after start before
  pub path : IsPath array start before
  pub records : All (IsRecord pool) before
  pub absent : All (λ x. slice_index array x ≢ key) before

-- where it begins
pub passes_none : {pool : Pool} {array : List ℕ} {start key : ℕ} → Passes pool array start key 0 start
passes_none {pool} {array} {start} {key} = record { before = []; passed = refl; at = refl; path = tt; records = All-nil (IsRecord pool); absent = All-nil (λ x. slice_index array x ≢ key) }

-- the word may be said otherwise
pub passes_from : {pool : Pool} {array : List ℕ} {start other key number link : ℕ} → start ≡ other → Passes pool array start key number link → Passes pool array other key number link
passes_from {pool} {array} {key = key} {number = number} {link = link} same p = subst (λ s. Passes pool array s key number link) same p

pub link_after-push : (start : ℕ) (xs : List ℕ) (x : ℕ) → link_after start (xs ++ x ∷ []) ≡ x + 1
link_after-push start xs x = link_after-append start xs (x ∷ [])

-- the word that the walk reads
read_there : {pool : Pool} {array : List ℕ} {start key number link : ℕ} (found : ℕ) (p : Passes pool array start key number link) → found ≡ slice_index array link → slice_index array (link_after start p.before) ≡ found
read_there {array = array} found p read = ap (λ i. slice_index array i) (sym p.at) ∙ sym read

-- one more record without the key
pub passes_more : {pool : Pool} {array : List ℕ} {start key number link : ℕ} (found : ℕ) → Passes pool array start key number link → IsRecord pool found → found ≡ slice_index array link → slice_index array found ≢ key → Passes pool array start key (number + 1) (found + 1)
passes_more {pool} {array} {start} {key} found p there read differs = record {
  before = p.before ++ found ∷ [];
  passed = length_push p.before found ∙ ap (λ n. n + 1) p.passed;
  at = sym (link_after-push start p.before found);
  path = path_append array start p.before (found ∷ []) p.path (read_there found p read, tt);
  records = All-push (IsRecord pool) p.before found p.records there;
  absent = All-push (λ x. slice_index array x ≢ key) p.before found p.absent differs;
}

-- the record with the key is found
pub seeks_found : {table : Table} {array : List ℕ} {key number : ℕ} (position : ChainPosition) → 0 < table.pool.size → Passes table.pool array (table.at + key % table.buckets) key number position.link → number < table.pool.count
    → IsRecord table.pool position.record → position.record ≡ slice_index array position.link → slice_index array position.record ≡ key → SeeksFirst table key array (Some position)
seeks_found {table} {array} {key} {number} position wide p less there read holds =
    let pool = table.pool in
    let start = table.at + key % table.buckets in
    let found = position.record in
    let rest = chain_from pool wide array (pool.count - number - 1) (found + 1) in
    let behind = rest.0 in
    let many : length (p.before ++ found ∷ behind) ≡ number + (1 + length behind) = omega (arith, length-append p.before (found ∷ behind), p.passed) in
    record {
      chain = p.before ++ found ∷ behind;
      is = record {
        path = path_append array start p.before (found ∷ behind) p.path (read_there found p read, rest.1.path);
        records = All-append (IsRecord pool) p.before (found ∷ behind) p.records (All-cons (IsRecord pool) found behind there rest.1.records);
        few = omega (arith, many, rest.1.few, less);
        ends = λ short next. rest.1.ends (omega (arith, many, short)) (subst (λ i. IsRecord pool (slice_index array i)) (link_after-append start p.before (found ∷ behind)) next);
      };
      seeks = record { before = p.before; behind = behind; split = refl; met = p.at; absent = p.absent; holds = holds };
    }

-- the link is no record
pub seeks_end : {table : Table} {array : List ℕ} {key number link : ℕ} (found : ℕ) → Passes table.pool array (table.at + key % table.buckets) key number link → number ≤ table.pool.count → (IsRecord table.pool found → ⊥) → found ≡ slice_index array link → SeeksFirst table key array None
seeks_end {table} found p few none read = record {
  chain = p.before;
  is = record { path = p.path; records = p.records; few = omega (arith, p.passed, few); ends = λ less there. none (subst (IsRecord table.pool) (read_there found p read) there) };
  seeks = p.absent;
}

-- as many records were passed as the pool has
pub seeks_out : {table : Table} {array : List ℕ} {key number link : ℕ} → Passes table.pool array (table.at + key % table.buckets) key number link → number ≡ table.pool.count → SeeksFirst table key array None
seeks_out p all = record {
  chain = p.before;
  is = record { path = p.path; records = p.records; few = omega (arith, p.passed, all); ends = λ less. absurd (omega (arith, p.passed, all, less)) };
  seeks = p.absent;
}

-- ---- what a walk answers

pub finds_none : {table : Table} {key : ℕ} {array : List ℕ} (r : Option ChainPosition) → r ≡ None → SeeksFirst table key array r → FindsFirst table key array None
finds_none {table} {key} {array} r is s =
    let seen = subst (SeeksFirst table key array) is s in
    record { chain = seen.chain; is = seen.is; answer = sym (lookup_absent array seen.chain key seen.seeks) }

pub finds_some : {table : Table} {key : ℕ} {array : List ℕ} (r : Option ChainPosition) (position : ChainPosition) → r ≡ Some position → SeeksFirst table key array r → FindsFirst table key array (Some position.record)
finds_some {table} {key} {array} r position is s =
    let seen = subst (SeeksFirst table key array) is s in
    let amid = seen.seeks in
    record {
      chain = seen.chain;
      is = seen.is;
      answer = sym (ap (λ l. lookup array l key) amid.split ∙ lookup_amid array amid.before amid.behind position.record key amid.absent amid.holds);
    }
