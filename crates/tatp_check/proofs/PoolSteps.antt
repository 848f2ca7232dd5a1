-- On the way through a pool: one link of its free list more, and what is known at the end.
use Rattle.std.proofs.Common.{◌≡◌, ◌≢◌, ℕ, ◌+◌, ◌<◌, List, [], ◌∷◌, ◌++◌, length, AllPairs, None, Some, Result, Err, IfErr, slice_index, refl, sym, ap, ◌∙◌, subst, arith, inl, inr, append_assoc}
use Rattle.std.proofs.lemmas.List.{append-nil, get_or_default}
use Rattle.std.proofs.lemmas.List.Elements.{All-nil, All-push}
use Rattle.std.proofs.lemmas.List.Quantifiers.{all_pairs_push}
use Rattle.record_heap.specs.declared.pool.Pool.{Pool}
use Rattle.record_heap.specs.Pool.{FitsPool, IsRecord}
use Rattle.hash_table.specs.Table.{link_after}
use Rattle.hash_table.specs.Walk.{IsPath}
use Rattle.hash_table.proofs.Walks.{link_after-push, path_append, linked_path}
use Rattle.tatp_check.specs.declared.check_fault.CheckFault.{CheckFault}
use Rattle.tatp_check.specs.declared.check_fault.CheckFault.TheVariants.{NotDb, NoMemory}
use Rattle.tatp_check.specs.declared.marks.Marks.{Marks}
use Rattle.tatp_check.specs.Faults.{IsCause, NamesWord}
use Rattle.tatp_check.specs.Marks.{AreMarked, IsLeastNew, IsNew}
use Rattle.tatp_check.specs.Pools.{HasMetEach, HasWholePool, IsWrongFree, IsWrongPool}
use Rattle.tatp_check.specs.PoolWalk.{AreApartMarked, KnowsFree, KnowsFreeList}

-- the words of a record lie in the array
pub word_inside : {pool : Pool} {n at : ℕ} (offset : ℕ) → FitsPool pool n → IsRecord pool at → offset < pool.size → at + offset < n
word_inside offset fits r below = omega (arith, fits.inside _ r, below)

-- a refusal that `?` hands on, by a word of one kind that is one of another
pub handed_word : {T : Type 0} {r : Result T CheckFault} {fault : CheckFault} (P Q : ℕ → Type 0) → ((word : ℕ) → P word → Q word) → r ≡ Err fault → NamesWord P fault → IfErr r (NamesWord Q)
handed_word {fault = NotDb word} P Q gives was is = subst (λ o. IfErr o (NamesWord Q)) (sym was) (gives word is)
handed_word {fault = NoMemory} P Q gives was is = absurd is

-- and where the refusal may be for memory too
pub handed_cause : {T : Type 0} {r : Result T CheckFault} {fault : CheckFault} (P Q : ℕ → Type 0) → ((word : ℕ) → P word → Q word) → r ≡ Err fault → NamesWord P fault → IfErr r (IsCause Q)
handed_cause {fault = NotDb word} P Q gives was is = subst (λ o. IfErr o (IsCause Q)) (sym was) (gives word is)
handed_cause {fault = NoMemory} P Q gives was is = absurd is

-- a path, and the record that its last word links
pub path_more : (array : List ℕ) (link : ℕ) (xs : List ℕ) (at : ℕ) → IsPath array link xs → slice_index array (link_after link xs) ≡ at → IsPath array link (xs ++ at ∷ [])
path_more array link xs at path next = path_append array link xs (at ∷ []) path (next, tt)

module _ (pool : Pool) (array taken : List ℕ) where
  pub free_begins : (marks : Marks) → AreApartMarked pool taken marks → KnowsFree pool array taken pool.base marks
  free_begins marks known =
      let same = sym (append-nil taken) in
      record {
        free = [];
        met = record { path = tt; places = All-nil (IsRecord pool); differ = subst (AllPairs (λ x y. x ≢ y)) same known.differ };
        link_is = refl;
        marked = subst (λ l. AreMarked pool l marks.marks.items) same known.marked;
      }

  pub wrong_free : {link : ℕ} {marks : Marks} (known : KnowsFree pool array taken link marks) → slice_index array link ≢ 0 → ¬ IsNew pool (taken ++ known.free) (slice_index array link) → IsWrongFree pool array taken link
  wrong_free known leads astray = record { free = known.free; met = known.met; link = record { leads = leads; astray = astray }; word_is = known.link_is }

  pub free_more : {link : ℕ} {marks : Marks} (known : KnowsFree pool array taken link marks) (new : Marks) → IsNew pool (taken ++ known.free) (slice_index array link)
      → AreMarked pool ((taken ++ known.free) ++ slice_index array link ∷ []) new.marks.items → KnowsFree pool array taken (slice_index array link + 1) new
  free_more {link} known new is_new marked =
      let at = slice_index array link in
      let assoc = append_assoc taken known.free (at ∷ []) in
      record {
        free = known.free ++ at ∷ [];
        met = record {
          path = path_more array _ known.free at known.met.path (ap (λ l. slice_index array l) (sym known.link_is));
          places = All-push (IsRecord pool) known.free at known.met.places is_new.place;
          differ = subst (AllPairs (λ x y. x ≢ y)) assoc (all_pairs_push (λ x y. x ≢ y) (taken ++ known.free) at known.met.differ
              (λ k d below same. is_new.unmet (k, below, get_or_default (taken ++ known.free) k at d below ∙ same)));
        };
        link_is = sym (link_after-push pool.base known.free at);
        marked = subst (λ l. AreMarked pool l new.marks.items) assoc marked;
      }

  pub free_ends : {link : ℕ} {marks : Marks} (known : KnowsFree pool array taken link marks) → slice_index array link ≡ 0 → KnowsFreeList pool array taken marks
  free_ends known end = record {
    free = known.free;
    list = record { met = known.met; ended = linked_path array pool.base known.free known.met.path (ap (λ l. slice_index array l) (sym known.link_is) ∙ end) };
    marked = known.marked;
  }

  -- Behind the free list:
  module _ {marks : Marks} (known : KnowsFreeList pool array taken marks) where
    -- a record is in no list
    pub lost_record : (word : ℕ) → IsLeastNew pool (taken ++ known.free) (Some word) → IsWrongPool pool array taken word
    lost_record word least = inr (inl (record { free = known.free; list = known.list; new = least.0; lower = least.1 }))

    met_each : IsLeastNew pool (taken ++ known.free) None → HasMetEach pool array taken known.free
    met_each none = record { list = known.list; every = none }

    -- the count is wrong
    pub wrong_count : IsLeastNew pool (taken ++ known.free) None → slice_index array (pool.base + 1) ≢ length taken → IsWrongPool pool array taken (pool.base + 1)
    wrong_count none differs = inr (inr (record { free = known.free; met = met_each none; word_is = refl; differs = differs }))

    -- nothing is wrong
    pub whole_pool : IsLeastNew pool (taken ++ known.free) None → slice_index array (pool.base + 1) ≡ length taken → HasWholePool pool array taken
    whole_pool none same = record { free = known.free; whole = record { met = met_each none; count = same } }
