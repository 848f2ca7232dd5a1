-- Two walks through one table: one goes as far as the other, or further.
use Rattle.std.proofs.Common.{◌≡◌, ◌≢◌, ◌⊎◌, inl, inr, ℕ, ◌+◌, ◌<◌, ◌≤◌, List, [], ◌∷◌, ◌++◌, length, take, drop, All, AllPairs, Contains, slice_index, get_or, refl, sym, ap, ◌∙◌, subst, arith, append_assoc, length-append, length-take-le, get_or-take}
use Rattle.std.proofs.lemmas.List.{drop_more, ext_get_or, get_or_append_left, get_or_at, get_or_default, get_or-append-add, take-append-drop}
use Rattle.std.proofs.lemmas.List.Concat.{flat_map-append}
use Rattle.std.proofs.lemmas.List.Elements.{All-head, All-tail, All-contains}
use Rattle.record_heap.specs.Links.{Linked}
use Rattle.record_heap.specs.Pool.{IsRecord}
use Rattle.hash_table.specs.declared.table.Table.{Table}
use Rattle.hash_table.specs.Table.{chain_of, link_after, records_in}
use Rattle.hash_table.specs.Walk.{IsPath}
use Rattle.tatp_check.specs.Walk.{IsSound, HasMet}

-- ---- pairs

-- what holds of each pair holds of each pair of elements, one before and one behind
pub pairs_across : {X : Type 0} (R : X → X → Type 0) (xs ys : List X) (x y : X) → AllPairs R (xs ++ ys) → Contains xs x → Contains ys y → R x y
pairs_across R xs ys x y all (i, below, is) (j, inside, same) =
    let left : get_or (xs ++ ys) i x ≡ x = get_or_append_left xs ys x i below ∙ is in
    let right : get_or (xs ++ ys) (length xs + j) x ≡ y = get_or-append-add xs ys j x ∙ get_or_default ys j x y inside ∙ same in
    subst (λ v. R v y) left (subst (R (get_or (xs ++ ys) i x)) right (all i (length xs + j) x (omega (arith, below)) (omega (arith, inside, length-append xs ys))))

-- ---- paths

module _ (array : List ℕ) where
  -- a list that is linked whole, and a path from the same word: the path is a front of the list
  pub path_in_linked : (link : ℕ) (xs ys : List ℕ) → All (λ x. x ≢ 0) xs → IsPath array link xs → Linked array link ys
      → ((xs ≡ ys) × (slice_index array (link_after link xs) ≡ 0)) ⊎ ((rest : List ℕ) × (ys ≡ xs ++ slice_index array (link_after link xs) ∷ rest))
  path_in_linked link [] [] some path linked = inl (refl, linked)
  path_in_linked link [] (y ∷ ys) some path linked = inr (ys, ap (λ v. v ∷ ys) (sym linked.0))
  path_in_linked link (x ∷ xs) [] some path linked = absurd (All-head (λ v. v ≢ 0) x xs some (sym path.0 ∙ linked))
  path_in_linked link (x ∷ xs) (y ∷ ys) some path linked =
      let same : y ≡ x = sym linked.0 ∙ path.0 in
      elim (path_in_linked (x + 1) xs ys (All-tail (λ v. v ≢ 0) x xs some) path.1 (subst (λ v. Linked array (v + 1) ys) same linked.1)) [
        | inl whole ↦ inl (ap (λ v. v ∷ xs) (sym same) ∙ ap (λ l. y ∷ l) whole.0, whole.1)
        | inr front ↦ inr (front.0, ap (λ v. v ∷ ys) same ∙ ap (λ l. x ∷ l) front.1)
      ]

  -- two paths from one word: one is a front of the other
  pub path_in_path : (link : ℕ) (xs ys : List ℕ) → IsPath array link xs → IsPath array link ys
      → (xs ≡ ys) ⊎ (((rest : List ℕ) × (ys ≡ xs ++ slice_index array (link_after link xs) ∷ rest)) ⊎ ((rest : List ℕ) × (xs ≡ ys ++ slice_index array (link_after link ys) ∷ rest)))
  path_in_path link [] [] p q = inl refl
  path_in_path link [] (y ∷ ys) p q = inr (inl (ys, ap (λ v. v ∷ ys) (sym q.0)))
  path_in_path link (x ∷ xs) [] p q = inr (inr (xs, ap (λ v. v ∷ xs) (sym p.0)))
  path_in_path link (x ∷ xs) (y ∷ ys) p q =
      let same : y ≡ x = sym q.0 ∙ p.0 in
      elim (path_in_path (x + 1) xs ys p.1 (subst (λ v. IsPath array (v + 1) ys) same q.1)) [
        | inl both ↦ inl (ap (λ v. v ∷ xs) (sym same) ∙ ap (λ l. y ∷ l) both)
        | inr one ↦ inr (elim one [
          | inl longer ↦ inl (longer.0, ap (λ v. v ∷ ys) same ∙ ap (λ l. x ∷ l) longer.1)
          | inr shorter ↦ inr (
            shorter.0,
            ap (λ l. x ∷ l) shorter.1 ∙ ap (λ v. v ∷ (ys ++ slice_index array (link_after (x + 1) ys) ∷ shorter.0)) (sym same)
                ∙ ap (λ v. y ∷ (ys ++ slice_index array (link_after (v + 1) ys) ∷ shorter.0)) (sym same),
          )
        ])
      ]

  -- two lists that are linked whole from one word are one
  pub linked_one : (link : ℕ) (xs ys : List ℕ) → All (λ x. x ≢ 0) xs → All (λ y. y ≢ 0) ys → Linked array link xs → Linked array link ys → xs ≡ ys
  linked_one link [] [] some others p q = refl
  linked_one link [] (y ∷ ys) some others p q = absurd (All-head (λ v. v ≢ 0) y ys others (sym q.0 ∙ p))
  linked_one link (x ∷ xs) [] some others p q = absurd (All-head (λ v. v ≢ 0) x xs some (sym p.0 ∙ q))
  linked_one link (x ∷ xs) (y ∷ ys) some others p q =
      let same : y ≡ x = sym q.0 ∙ p.0 in
      ap (λ v. v ∷ xs) (sym same)
      ∙ ap (λ l. y ∷ l) (linked_one (x + 1) xs ys (All-tail (λ v. v ≢ 0) x xs some) (All-tail (λ v. v ≢ 0) y ys others) p.1 (subst (λ v. Linked array (v + 1) ys) same q.1))

-- ---- walks

module _ (content : ℕ → ℕ → Type 0) (table : Table) (array : List ℕ) (none : ¬ IsRecord table.pool 0) where
  -- sound records are not at word 0
  pub sound_some : (bucket : ℕ) (xs : List ℕ) → All (IsSound content table array bucket) xs → All (λ x. x ≢ 0) xs
  sound_some bucket xs sound = λ k d below same. none (subst (IsRecord table.pool) same (sound k d below).place)

  -- the word that comes next
  abbrev pub next_of : List (List ℕ) → List ℕ → ℕ
  next_of chains part = slice_index array (link_after (table.at + length chains) part)

  -- what the second has met goes on from what the first has: by the record that comes next, or with another bucket
  pub record ChainsGoOn (chains : List (List ℕ)) (part met : List ℕ) : Type 0 where
    pub behind : List ℕ
    pub all : met ≡ (records_in chains ++ part) ++ behind
    pub next : (next_of chains part ≡ 0) ⊎ ((rest : List ℕ) × (behind ≡ next_of chains part ∷ rest) × IsSound content table array (length chains) (next_of chains part))

  module _ (cs : List (List ℕ)) (p : List ℕ) (ds : List (List ℕ)) (q : List ℕ) (first : HasMet content table array cs p) (second : HasMet content table array ds q) where
    same_chain : length cs ≤ length ds → (k : ℕ) → k < length cs → chain_of cs k ≡ chain_of ds k
    same_chain fewer k below =
        linked_one array (table.at + k) (chain_of cs k) (chain_of ds k) (sound_some k (chain_of cs k) (first.sound k below)) (sound_some k (chain_of ds k) (second.sound k (omega arith))) (first.ended k below) (second.ended k (omega arith))

    -- the chains of the same buckets are the same
    pub front_same : length cs ≤ length ds → ds ≡ cs ++ drop (length cs) ds
    front_same fewer =
        let long : length (take (length cs) ds) ≡ length cs = length-take-le (length cs) ds fewer in
        let front : cs ≡ take (length cs) ds = ext_get_or [] cs (take (length cs) ds) (sym long) (λ k below. same_chain fewer k below ∙ sym (get_or-take (length cs) ds k [] below)) in
        sym (take-append-drop (length cs) ds) ∙ ap (λ l. l ++ drop (length cs) ds) (sym front)

    -- the second is in another bucket
    pub goes_further : length cs < length ds → ChainsGoOn cs p (records_in ds ++ q)
    goes_further fewer =
        let chain = chain_of ds (length cs) in
        let more = drop (length cs + 1) ds in
        let split : ds ≡ cs ++ chain ∷ more = front_same (omega (arith, fewer)) ∙ ap (λ l. cs ++ l) (drop_more ds (length cs) [] fewer) in
        let met : records_in ds ++ q ≡ records_in cs ++ (chain ++ (records_in more ++ q)) =
        ap (λ l. l ++ q) (ap records_in split ∙ flat_map-append (λ c. c) cs (chain ∷ more)) ∙ append_assoc (records_in cs) (chain ++ records_in more) q ∙ ap (λ l. records_in cs ++ l) (append_assoc chain (records_in more) q) in
        elim (path_in_linked array (table.at + length cs) p chain (sound_some (length cs) p first.part_sound) first.path (second.ended (length cs) fewer)) [
          | inl whole ↦ record {
            behind = records_in more ++ q;
            all = met ∙ ap (λ l. records_in cs ++ (l ++ (records_in more ++ q))) (sym whole.0) ∙ sym (append_assoc (records_in cs) p (records_in more ++ q));
            next = inl whole.1;
          }
          | inr front ↦
              let behind = next_of cs p ∷ (front.0 ++ (records_in more ++ q)) in
              record {
                behind = behind;
                all = met ∙ ap (λ l. records_in cs ++ (l ++ (records_in more ++ q))) front.1 ∙ ap (λ l. records_in cs ++ l) (append_assoc p (next_of cs p ∷ front.0) (records_in more ++ q)) ∙ sym (append_assoc (records_in cs) p behind);
                next = inr (
                  front.0 ++ (records_in more ++ q),
                  refl,
                  All-contains (IsSound content table array (length cs)) chain (next_of cs p) (second.sound (length cs) fewer)
                      (length p, subst (λ l. length p < length l) (sym front.1) (omega (arith, length-append p (next_of cs p ∷ front.0))), ap (λ l. get_or l (length p) (next_of cs p)) front.1 ∙ get_or_at p (next_of cs p) front.0 (next_of cs p) (length p) refl),
                );
              }
        ]

    -- the second is further in the same bucket
    pub goes_longer : cs ≡ ds → (rest : List ℕ) → q ≡ p ++ next_of cs p ∷ rest → ChainsGoOn cs p (records_in ds ++ q)
    goes_longer same rest longer = record {
      behind = next_of cs p ∷ rest;
      all = ap (λ l. l ++ q) (ap records_in (sym same)) ∙ ap (λ l. records_in cs ++ l) longer ∙ sym (append_assoc (records_in cs) p (next_of cs p ∷ rest));
      next = inr (
        rest,
        refl,
        All-contains (IsSound content table array (length cs)) q (next_of cs p) (subst (λ l. All (IsSound content table array (length l)) q) (sym same) second.part_sound)
            (length p, subst (λ l. length p < length l) (sym longer) (omega (arith, length-append p (next_of cs p ∷ rest))), ap (λ l. get_or l (length p) (next_of cs p)) longer ∙ get_or_at p (next_of cs p) rest (next_of cs p) (length p) refl),
      );
    }
