-- The first wrong word of an array is one, and there is none where the array stands for tables.
use Rattle.std.proofs.Common.{◌≡◌, inl, inr, ℕ, zero, suc, ◌+◌, ◌/◌, List, ◌∷◌, ◌++◌, length, All, Any, Contains, slice_index, get_or, refl, sym, ap, ◌∙◌, subst, arith}
use Rattle.std.proofs.lemmas.Bool.{cases_order}
use Rattle.std.proofs.lemmas.List.{get_or_at, get_or_append_left}
use Rattle.std.proofs.lemmas.List.Elements.{All-contains, All-get_or, All-weaker, Contains-append_right}
use Rattle.dude_base.specs.declared.sizes.Sizes.{Sizes}
use Rattle.record_heap.specs.Pool.{IsRecord}
use Rattle.hash_table.specs.Table.{records_in}
use Rattle.tatp_model.specs.Database.{Database}
use Rattle.tatp_layout.specs.Layout.{index_tree}
use Rattle.tatp_layout.specs.StandsFor.{StandsFor}
use Rattle.tatp_check.specs.Faults.{IsFirstWrong}
use Rattle.tatp_check.proofs.OneTableWord.{none_wrong, one_chains, one_wrong}
use Rattle.tatp_check.specs.declared.table_kind.TableKind.{TableKind}
use Rattle.tatp_check.specs.declared.table_kind.TableKind.TheVariants.{Subscribers, Numbers, Access, Facilities, Calls}
use Rattle.tatp_check.specs.Content.{content_of, table_of}
use Rattle.tatp_check.specs.IndexFaults.{IsWrongIndex}
use Rattle.tatp_check.specs.Order.{IsFirstWord, IsInIndex, IsInTables, IsNotDb, IsWholeKind}
use Rattle.tatp_check.specs.References.{AreAllBound, IsFirstUnbound, IsUnbound, Refers, kind_rank, reference_offset}
use Rattle.tatp_check.proofs.IndexPlaces.{index_parted, no_fork, no_leaf}
use Rattle.tatp_check.proofs.IndexSound.{none_in_index, one_in_index}
use Rattle.tatp_check.proofs.Lawful.{lawful_bound, lawful_records, lawful_whole}
use Rattle.tatp_check.proofs.LawfulIndex.{lawful_index}

-- no record stands at word 0
pub no_record : (kind : TableKind) (s : Sizes) → ¬ IsRecord (table_of kind s).pool 0
no_record Subscribers s r = omega (arith, r.is)
no_record Numbers s r = omega (arith, r.is)
no_record Access s r = omega (arith, r.is)
no_record Facilities s r = omega (arith, r.is)
no_record Calls s r = omega (arith, r.is)

-- ---- the kinds by their ranks

kind_at : ℕ → TableKind
kind_at zero = Subscribers
kind_at (suc zero) = Numbers
kind_at (suc (suc zero)) = Access
kind_at (suc (suc (suc zero))) = Facilities
kind_at (suc (suc (suc (suc k)))) = Calls

kind_at-rank : (kind : TableKind) → kind_at (kind_rank kind) ≡ kind
unfolding kind_at
kind_at-rank Subscribers = refl
kind_at-rank Numbers = refl
kind_at-rank Access = refl
kind_at-rank Facilities = refl
kind_at-rank Calls = refl

pub one_rank : (a b : TableKind) → kind_rank a ≡ kind_rank b → a ≡ b
one_rank a b same = sym (kind_at-rank a) ∙ ap kind_at same ∙ kind_at-rank b

module _ (s : Sizes) (array : List ℕ) where
  -- ---- tables

  no_wrong : (kind : TableKind) (records : List ℕ) → IsWholeKind s array kind records → (w : ℕ) → ¬ IsFirstWrong (content_of kind) (table_of kind s) array w
  no_wrong kind records whole w = none_wrong (content_of kind) (table_of kind s) array (no_record kind s) whole.chains whole.free whole.whole w

  -- the records of a table are one list
  pub same_records : (kind : TableKind) (xs ys : List ℕ) → IsWholeKind s array kind xs → IsWholeKind s array kind ys → xs ≡ ys
  same_records kind xs ys a b =
      a.taken_is ∙ ap records_in (one_chains (content_of kind) (table_of kind s) array (no_record kind s) a.chains b.chains a.whole.met b.whole.met) ∙ sym b.taken_is

  -- ---- references

  refers_same : (r q : TableKind → List ℕ) → ((k : TableKind) → r k ≡ q k) → (kind : TableKind) (at : ℕ) → Refers array r kind at → Refers array q kind at
  refers_same r q same Subscribers at h = subst (Any (λ n. (slice_index array n ≡ slice_index array (at + 7)) × (slice_index array (n + 2) ≡ slice_index array at))) (same Numbers) h
  refers_same r q same Numbers at h = subst (Any (λ x. (slice_index array x ≡ slice_index array (at + 2)) × (slice_index array (x + 7) ≡ slice_index array at))) (same Subscribers) h
  refers_same r q same Access at h = subst (Any (λ x. slice_index array x ≡ slice_index array at / 4)) (same Subscribers) h
  refers_same r q same Facilities at h = subst (Any (λ x. slice_index array x ≡ slice_index array at / 4)) (same Subscribers) h
  refers_same r q same Calls at h = subst (Any (λ x. slice_index array x ≡ slice_index array at / 3)) (same Facilities) h

  there : {records : TableKind → List ℕ} {kind : TableKind} {at : ℕ} → (u : IsUnbound array records kind at) → Contains (records kind) at
  there {records} {kind} {at} u = subst (λ l. Contains l at) (sym u.split) (Contains-append_right u.before (at ∷ u.behind) at (0, omega arith, refl))

  -- where all are bound there is no first unbound one
  all_bound : (r q : TableKind → List ℕ) → ((k : TableKind) → q k ≡ r k) → AreAllBound array q → (w : ℕ) → ¬ IsFirstUnbound array r w
  all_bound r q same bound w u =
      u.unbound.unbound (refers_same q r same u.kind u.at (All-contains (Refers array q u.kind) (q u.kind) u.at (bound u.kind) (subst (λ l. Contains l u.at) (sym (same u.kind)) (there u.unbound))))

  -- an array that stands for tables has no first wrong word
  pub lawful_right : (db : Database) → StandsFor s array db → (w : ℕ) → ¬ IsFirstWord s array w
  lawful_right db stands w (inl tables) = no_wrong tables.kind (lawful_records s array db stands tables.kind) (lawful_whole s array db stands tables.kind) w tables.wrong
  lawful_right db stands w (inr (inr index)) =
      let same = same_records Subscribers (index.records Subscribers) (lawful_records s array db stands Subscribers) (index.whole Subscribers) (lawful_whole s array db stands Subscribers) in
      none_in_index (index_tree s) array (lawful_records s array db stands Subscribers) (index_parted s) (no_leaf s) (no_fork s) (lawful_index s array db stands index.wrong.0) w
      (subst (λ l. IsWrongIndex (index_tree s) array l w) same index.wrong.1)
  lawful_right db stands w (inr (inl references)) =
      all_bound references.records (lawful_records s array db stands)
      (λ k. same_records k (lawful_records s array db stands k) (references.records k) (lawful_whole s array db stands k) (references.whole k)) (lawful_bound s array db stands) w references.wrong

  -- ---- one word

  -- the first unbound record of one list is one
  one_unbound : (r q : TableKind → List ℕ) → ((k : TableKind) → r k ≡ q k) → (kind : TableKind) (x y : ℕ) → IsUnbound array r kind x → IsUnbound array q kind y → x ≡ y
  one_unbound r q same kind x y a b =
      let lists : a.before ++ x ∷ a.behind ≡ b.before ++ y ∷ b.behind = sym a.split ∙ same kind ∙ b.split in
      elim (cases_order (length a.before) (length b.before)) [
        | inl level ↦ sym (get_or_at a.before x a.behind 0 (length a.before) refl) ∙ ap (λ l. get_or l (length a.before) 0) lists ∙ get_or_at b.before y b.behind 0 (length a.before) (sym level)
        | inr order ↦ elim order [
          | inl sooner ↦ absurd (a.unbound (refers_same q r (λ k. sym (same k)) kind x
              (subst (Refers array q kind) (sym (get_or_append_left b.before (y ∷ b.behind) 0 (length a.before) sooner) ∙ sym (ap (λ l. get_or l (length a.before) 0) lists) ∙ get_or_at a.before x a.behind 0 (length a.before) refl)
              (All-get_or (Refers array q kind) b.before (length a.before) 0 sooner b.bound))))
          | inr later ↦ absurd (b.unbound (refers_same r q same kind y
              (subst (Refers array r kind) (sym (get_or_append_left a.before (x ∷ a.behind) 0 (length b.before) later) ∙ ap (λ l. get_or l (length b.before) 0) lists ∙ get_or_at b.before y b.behind 0 (length b.before) refl)
              (All-get_or (Refers array r kind) a.before (length b.before) 0 later a.bound))))
        ]
      ]

  one_reference : (r q : TableKind → List ℕ) → ((k : TableKind) → r k ≡ q k) → (v w : ℕ) → IsFirstUnbound array r v → IsFirstUnbound array q w → v ≡ w
  one_reference r q same v w a b = elim (cases_order (kind_rank a.kind) (kind_rank b.kind)) [
    | inl level ↦
        let kind = one_rank a.kind b.kind level in
        let at = one_unbound r q same b.kind a.at b.at (subst (λ k. IsUnbound array r k a.at) kind a.unbound) b.unbound in
        a.word_is ∙ ap (λ k. a.at + reference_offset k) kind ∙ ap (λ x. x + reference_offset b.kind) at ∙ sym b.word_is
    | inr order ↦ elim order [
      | inl sooner ↦ absurd (a.unbound.unbound (refers_same q r (λ k. sym (same k)) a.kind a.at
          (All-contains (Refers array q a.kind) (q a.kind) a.at (b.before a.kind sooner) (subst (λ l. Contains l a.at) (same a.kind) (there a.unbound)))))
      | inr later ↦ absurd (b.unbound.unbound (refers_same r q same b.kind b.at
          (All-contains (Refers array r b.kind) (r b.kind) b.at (a.before b.kind later) (subst (λ l. Contains l b.at) (sym (same b.kind)) (there b.unbound)))))
    ]
  ]

  one_in_tables : (v w : ℕ) → IsInTables s array v → IsInTables s array w → v ≡ w
  one_in_tables v w a b = elim (cases_order (kind_rank a.kind) (kind_rank b.kind)) [
    | inl level ↦
        let kind = one_rank a.kind b.kind level in
        one_wrong (content_of b.kind) (table_of b.kind s) array (no_record b.kind s) v w (subst (λ k. IsFirstWrong (content_of k) (table_of k s) array v) kind a.wrong) b.wrong
    | inr order ↦ elim order [
      | inl sooner ↦ let whole = b.before a.kind sooner in absurd (no_wrong a.kind whole.0 whole.1 v a.wrong)
      | inr later ↦ let whole = a.before b.kind later in absurd (no_wrong b.kind whole.0 whole.1 w b.wrong)
    ]
  ]

  one_index : (v w : ℕ) → IsInIndex s array v → IsInIndex s array w → v ≡ w
  one_index v w a b =
      let same = same_records Subscribers (a.records Subscribers) (b.records Subscribers) (a.whole Subscribers) (b.whole Subscribers) in
      one_in_index (index_tree s) array (b.records Subscribers) (index_parted s) (no_leaf s) (no_fork s) v w (subst (λ l. IsWrongIndex (index_tree s) array l v) same a.wrong.1) b.wrong.1

  -- the first wrong word is one
  pub one_word : (v w : ℕ) → IsFirstWord s array v → IsFirstWord s array w → v ≡ w
  one_word v w (inl a) (inl b) = one_in_tables v w a b
  one_word v w (inl a) (inr (inl b)) = absurd (no_wrong a.kind (b.records a.kind) (b.whole a.kind) v a.wrong)
  one_word v w (inl a) (inr (inr b)) = absurd (no_wrong a.kind (b.records a.kind) (b.whole a.kind) v a.wrong)
  one_word v w (inr (inl a)) (inl b) = absurd (no_wrong b.kind (a.records b.kind) (a.whole b.kind) w b.wrong)
  one_word v w (inr (inr a)) (inl b) = absurd (no_wrong b.kind (a.records b.kind) (a.whole b.kind) w b.wrong)
  one_word v w (inr (inl a)) (inr (inr b)) = absurd (all_bound a.records b.records (λ k. same_records k (b.records k) (a.records k) (b.whole k) (a.whole k)) b.bound v a.wrong)
  one_word v w (inr (inr a)) (inr (inl b)) = absurd (all_bound b.records a.records (λ k. same_records k (a.records k) (b.records k) (a.whole k) (b.whole k)) a.bound w b.wrong)
  one_word v w (inr (inr a)) (inr (inr b)) = one_index v w a b
  one_word v w (inr (inl a)) (inr (inl b)) = one_reference a.records b.records (λ k. same_records k (a.records k) (b.records k) (a.whole k) (b.whole k)) v w a.wrong b.wrong

  -- where there is one the array stands for none
  pub not_db : (w : ℕ) → IsFirstWord s array w → IsNotDb s array w
  not_db w first = record { unlawful = λ lawful. lawful_right lawful.0 lawful.1 w first; first = first }

  -- the references of walked tables are right where the array stands for some
  pub lawful_references : (db : Database) → StandsFor s array db → (records : TableKind → List ℕ) → ((kind : TableKind) → IsWholeKind s array kind (records kind)) → AreAllBound array records
  lawful_references db stands records whole kind =
      let lawful = lawful_records s array db stands in
      let same : (k : TableKind) → lawful k ≡ records k = λ k. same_records k (lawful k) (records k) (lawful_whole s array db stands k) (whole k) in
      subst (All (Refers array records kind)) (same kind)
      (All-weaker (Refers array lawful kind) (Refers array records kind) (λ at h. refers_same lawful records same kind at h) (lawful kind) (lawful_bound s array db stands kind))
