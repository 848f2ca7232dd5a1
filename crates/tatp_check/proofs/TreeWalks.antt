-- On the way through a tree: one record more, and what is known at the end.
use Rattle.std.proofs.Common.{◌≡◌, ◌≢◌, inl, inr, ℕ, ◌+◌, ◌<◌, ◌≤◌, List, [], ◌∷◌, ◌++◌, All, Contains, Option, Some, None, Bool, true, false, slice_index, refl, sym, ap, ◌∙◌, subst, arith}
use Rattle.std.proofs.lemmas.List.{append-nil}
use Rattle.std.proofs.lemmas.List.Elements.{All-append, All-cons, All-nil, All-push, All-weaker}
use Rattle.tree_index.specs.declared.tree.Tree.{Tree}
use Rattle.tree_index.specs.Shape.{Shape, Leaf, Fork, bit_of, forks_of, least_of, leaves_of, link_of}
use Rattle.tree_index.specs.Tree.{FitsTree}
use Rattle.tatp_check.specs.declared.taken.Taken.{Taken}
use Rattle.tatp_check.specs.declared.tree_seen.OpenFork.{OpenFork}
use Rattle.tatp_check.specs.declared.tree_seen.TreeSeen.{TreeSeen}
use Rattle.tatp_check.specs.Marks.{AreMarked, IsNew}
use Rattle.tatp_check.specs.Taken.{AreTaken, Takes}
use Rattle.tatp_check.specs.TreeFaults.{IsWrongOnWalk}
use Rattle.tatp_check.specs.TreeSeen.{Ended, Going, HasMetNone, IsTurned, KnowsNext, KnowsRecords, KnowsTree, KnowsTurns, OpensFork, Progress, kept_fork, kept_forks, turned}
use Rattle.tatp_check.specs.TreeWalk.{GoesByTurns, HasWalked, HasWalkedAll, IsSoundShape, ToOnes, ToZeros, Turn, bit_limit, forks_met, leaves_met, next_slot}
use Rattle.tatp_check.proofs.SoundTrees.{asks_less, forks_first, forks_split, leaves_split}

-- ---- what a shape that is done leaves

-- the leaves met where a walk is
abbrev pub leaves_at : Progress → List ℕ
leaves_at (Going turns) = leaves_met turns
leaves_at (Ended shape) = leaves_of shape

-- the inner records met there
abbrev pub forks_at : Progress → List ℕ
forks_at (Going turns) = forks_met turns
forks_at (Ended shape) = forks_of shape

pub turned_leaves : (turns : List Turn) (shape : Shape) → leaves_at (turned shape turns) ≡ leaves_met turns ++ leaves_of shape
turned_leaves [] shape = refl
turned_leaves (ToZeros at bit ∷ turns) shape = refl
turned_leaves (ToOnes at bit zeros ∷ turns) shape = turned_leaves turns (Fork at bit zeros shape) ∙ leaves_split turns zeros shape

pub turned_forks : (turns : List Turn) (shape : Shape) → forks_at (turned shape turns) ≡ forks_met turns ++ forks_of shape
turned_forks [] shape = refl
turned_forks (ToZeros at bit ∷ turns) shape = forks_first turns at shape
turned_forks (ToOnes at bit zeros ∷ turns) shape = turned_forks turns (Fork at bit zeros shape) ∙ forks_split turns at zeros shape

module _ (tree : Tree) (array keys : List ℕ) where
  -- what was walked there
  abbrev pub HasGone : Progress → Type 0
  HasGone (Going turns) = HasWalked tree array keys turns
  HasGone (Ended shape) = HasWalkedAll tree array keys (Some shape)

  pub turned_walked : (turns : List Turn) (shape : Shape) → HasWalked tree array keys turns → slice_index array (next_slot tree.root turns) ≡ link_of shape → IsSoundShape tree array keys turns shape → HasGone (turned shape turns)
  turned_walked [] shape walked link sound = (link, sound)
  turned_walked (ToZeros at bit ∷ turns) shape walked link sound = (walked.0, walked.1, link, sound)
  turned_walked (ToOnes at bit zeros ∷ turns) shape walked link sound =
      turned_walked turns (Fork at bit zeros shape) walked.0 walked.1.link (walked.1.bit_is, walked.1.sound, walked.2, walked.3, link, sound)

  -- ---- keys

  leaf_keys : (turns : List Turn) (shape : Shape) → IsSoundShape tree array keys turns shape → All (λ x. GoesByTurns (slice_index array x) None turns) (leaves_of shape)
  leaf_keys turns (Leaf at key) sound = All-cons (λ x. GoesByTurns (slice_index array x) None turns) at [] sound.1.goes (All-nil (λ x. GoesByTurns (slice_index array x) None turns))
  leaf_keys turns (Fork at bit zeros ones) sound =
      let P : ℕ → Type 0 = λ x. GoesByTurns (slice_index array x) None turns in
      All-append P (leaves_of zeros) (leaves_of ones)
      (All-weaker (λ x. GoesByTurns (slice_index array x) None (ToZeros at bit ∷ turns)) P (λ x g. g.2) (leaves_of zeros) (leaf_keys (ToZeros at bit ∷ turns) zeros sound.3))
      (All-weaker (λ x. GoesByTurns (slice_index array x) None (ToOnes at bit zeros ∷ turns)) P (λ x g. asks_less (slice_index array x) (least_of zeros) turns g.2) (leaves_of ones) (leaf_keys (ToOnes at bit zeros ∷ turns) ones sound.5))

  -- a key that goes by the turns is none of those met
  pub key_new : (key : ℕ) (first : Option ℕ) (turns : List Turn) → HasWalked tree array keys turns → GoesByTurns key first turns → All (λ x. slice_index array x ≢ key) (leaves_met turns)
  key_new key first [] walked goes = All-nil (λ x. slice_index array x ≢ key)
  key_new key first (ToZeros at bit ∷ turns) walked goes = key_new key first turns walked.0 goes.2
  key_new key first (ToOnes at bit zeros ∷ turns) walked goes =
      All-append (λ x. slice_index array x ≢ key) (leaves_met turns) (leaves_of zeros) (key_new key (Some (least_of zeros)) turns walked.0 goes.2)
      (All-weaker (λ x. GoesByTurns (slice_index array x) None (ToZeros at bit ∷ turns)) (λ x. slice_index array x ≢ key) (λ x g same. omega (arith, g.0, goes.0, ap (λ k. bit_of k bit) same)) (leaves_of zeros) (leaf_keys (ToZeros at bit ∷ turns) zeros walked.3))

  -- ---- places

  module _ {n : ℕ} (fits : FitsTree tree n) where
    -- the word that comes next lies in the array
    pub slot_inside : (turns : List Turn) → HasWalked tree array keys turns → next_slot tree.root turns < n
    slot_inside [] walked = fits.root
    slot_inside (ToZeros at bit ∷ turns) walked = omega (arith, fits.inner.inside at walked.1.sound.new.place, fits.inner_size)
    slot_inside (ToOnes at bit zeros ∷ turns) walked = omega (arith, fits.inner.inside at walked.1.sound.new.place, fits.inner_size)

    pub known_inside : {slot : ℕ} {seen : TreeSeen} → KnowsTurns tree array keys slot seen → slot < n
    known_inside known = subst (λ k. k < n) (sym known.slot_is) (slot_inside known.turns known.walked)

    -- the inner records that the walk is below lie in it
    pub open_inside : (turns : List Turn) → HasWalked tree array keys turns → All (λ (fork : OpenFork). fork.at + 3 < n) (kept_forks turns)
    open_inside [] walked = All-nil (λ (fork : OpenFork). fork.at + 3 < n)
    open_inside (ToZeros at bit ∷ turns) walked =
        All-push (λ (fork : OpenFork). fork.at + 3 < n) (kept_forks turns) (kept_fork (ToZeros at bit)) (open_inside turns walked.0) (omega (arith, fits.inner.inside at walked.1.sound.new.place, fits.inner_size))
    open_inside (ToOnes at bit zeros ∷ turns) walked =
        All-push (λ (fork : OpenFork). fork.at + 3 < n) (kept_forks turns) (kept_fork (ToOnes at bit zeros)) (open_inside turns walked.0) (omega (arith, fits.inner.inside at walked.1.sound.new.place, fits.inner_size))

  -- their bits are below 64
  limit_small : (turns : List Turn) → HasWalked tree array keys turns → bit_limit turns ≤ 64
  limit_small [] walked = omega arith
  limit_small (ToZeros at bit ∷ turns) walked = omega (arith, walked.1.bit_is, walked.1.sound.falls, limit_small turns walked.0)
  limit_small (ToOnes at bit zeros ∷ turns) walked = omega (arith, walked.1.bit_is, walked.1.sound.falls, limit_small turns walked.0)

  pub open_bits : (turns : List Turn) → HasWalked tree array keys turns → All (λ (fork : OpenFork). fork.bit < 64) (kept_forks turns)
  open_bits [] walked = All-nil (λ (fork : OpenFork). fork.bit < 64)
  open_bits (ToZeros at bit ∷ turns) walked =
      All-push (λ (fork : OpenFork). fork.bit < 64) (kept_forks turns) (kept_fork (ToZeros at bit)) (open_bits turns walked.0) (omega (arith, walked.1.bit_is, walked.1.sound.falls, limit_small turns walked.0))
  open_bits (ToOnes at bit zeros ∷ turns) walked =
      All-push (λ (fork : OpenFork). fork.bit < 64) (kept_forks turns) (kept_fork (ToOnes at bit zeros)) (open_bits turns walked.0) (omega (arith, walked.1.bit_is, walked.1.sound.falls, limit_small turns walked.0))

  -- ---- what is known

  pub knows_root : (seen : TreeSeen) → HasMetNone tree seen → KnowsTurns tree array keys tree.root seen
  knows_root seen none = record {
    turns = [];
    walked = tt;
    slot_is = refl;
    above = none.above;
    records = record { leaves_marked = none.leaves; leaves_taken = none.taken array; forks_marked = none.inner; forks_kept = none.forks };
  }

  pub knows_bare : (seen : TreeSeen) → HasMetNone tree seen → HasWalkedAll tree array keys None → KnowsTree tree array keys seen
  knows_bare seen none bare = record {
    shape = None;
    walked = bare;
    records = record { leaves_marked = none.leaves; leaves_taken = none.taken array; forks_marked = none.inner; forks_kept = none.forks };
  }

  -- the walk is there
  arrives : (new : TreeSeen) (next : Option ℕ) (place : Progress) → HasGone place → KnowsRecords tree array (leaves_at place) (forks_at place) new → IsTurned tree.root place next new.above.items → KnowsNext tree array keys new next
  arrives new next (Going turns) gone records is = subst (KnowsNext tree array keys new) (sym is.0) (record {
    turns = turns;
    walked = gone;
    slot_is = refl;
    above = is.1;
    records = records;
  })
  arrives new next (Ended shape) gone records is = subst (KnowsNext tree array keys new) (sym is) (record { shape = Some shape; walked = gone; records = records })

  module _ {slot : ℕ} {seen : TreeSeen} (known : KnowsTurns tree array keys slot seen) where
    link_is : slice_index array slot ≡ slice_index array (next_slot tree.root known.turns)
    link_is = ap (slice_index array) known.slot_is

    at_link : (P : ℕ → Type 0) → P (slice_index array slot) → P (slice_index array (next_slot tree.root known.turns))
    at_link P p = subst P link_is p

    -- the link is wrong
    pub stray : ¬ IsNew tree.leaves (leaves_met known.turns) (slice_index array slot) → ¬ IsNew tree.inner (forks_met known.turns) (slice_index array slot) → IsWrongOnWalk tree array keys slot
    stray leaf fork = record {
      turns = known.turns;
      walked = known.walked;
      next = inl (record { no_leaf = at_link (λ x. ¬ IsNew tree.leaves (leaves_met known.turns) x) leaf; no_fork = at_link (λ x. ¬ IsNew tree.inner (forks_met known.turns) x) fork }, known.slot_is);
    }

    -- the bit of an inner record is too high
    pub high_bit : IsNew tree.inner (forks_met known.turns) (slice_index array slot) → bit_limit known.turns ≤ slice_index array (slice_index array slot) → IsWrongOnWalk tree array keys (slice_index array slot)
    high_bit new high = record {
      turns = known.turns;
      walked = known.walked;
      next = inr (inl (
        record { new = at_link (IsNew tree.inner (forks_met known.turns)) new; high = at_link (λ x. bit_limit known.turns ≤ slice_index array x) high },
        link_is,
      ));
    }

    -- a leaf's key is wrong
    pub wrong_key : IsNew tree.leaves (leaves_met known.turns) (slice_index array slot) → ¬ (Contains keys (slice_index array (slice_index array slot)) × GoesByTurns (slice_index array (slice_index array slot)) None known.turns)
        → IsWrongOnWalk tree array keys (slice_index array slot)
    wrong_key new wrong = record {
      turns = known.turns;
      walked = known.walked;
      next = inr (inr (
        record { new = at_link (IsNew tree.leaves (leaves_met known.turns)) new; wrong = at_link (λ x. ¬ (Contains keys (slice_index array x) × GoesByTurns (slice_index array x) None known.turns)) wrong },
        link_is,
      ));
    }

    -- an inner record was taken in
    pub down : (middle new : TreeSeen) → IsNew tree.inner (forks_met known.turns) (slice_index array slot) → slice_index array (slice_index array slot) < bit_limit known.turns
        → AreMarked tree.inner (forks_met known.turns ++ slice_index array slot ∷ []) middle.inner.marks.items → middle.leaves ≡ seen.leaves → middle.forks ≡ seen.forks → middle.above ≡ seen.above
        → OpensFork (slice_index array slot) (slice_index array (slice_index array slot)) middle new → KnowsTurns tree array keys (slice_index array slot + 2) new
    down middle new is_new falls marked leaves forks above opens =
        let at = slice_index array slot in
        let bit = slice_index array at in
        record {
          turns = ToZeros at bit ∷ known.turns;
          walked = (known.walked, record { link = sym link_is; bit_is = refl; sound = record { new = is_new; falls = falls } });
          slot_is = refl;
          above = opens.above ∙ ap (λ l. l ++ kept_fork (ToZeros at bit) ∷ []) (ap (λ v. v.items) above ∙ known.above);
          records = record {
            leaves_marked = subst (λ s. AreMarked tree.leaves (leaves_met known.turns) s.marks.marks.items) (sym (opens.leaves ∙ leaves)) known.records.leaves_marked;
            leaves_taken = subst (λ s. AreTaken array (leaves_met known.turns) s.taken) (sym (opens.leaves ∙ leaves)) known.records.leaves_taken;
            forks_marked = subst (λ m. AreMarked tree.inner (forks_met known.turns ++ at ∷ []) m.marks.items) (sym opens.inner) marked;
            forks_kept = opens.forks ∙ ap (λ l. l ++ at ∷ []) (ap (λ v. v.items) forks ∙ known.records.forks_kept);
          };
        }

    -- a leaf was taken in
    taken_in : (old new : Taken) (is_new : Bool) → Takes array (slice_index array slot) old new is_new → AreTaken array (leaves_met known.turns) old → GoesByTurns (slice_index array (slice_index array slot)) None known.turns
        → AreTaken array (leaves_met known.turns ++ slice_index array slot ∷ []) new
    taken_in old new true takes taken goes = (takes (leaves_met known.turns) taken).1
    taken_in old new false takes taken goes = absurd (takes (leaves_met known.turns) taken (key_new (slice_index array (slice_index array slot)) None known.turns known.walked goes))

    pub leaf_taken : (old new : Taken) (is_new : Bool) → old ≡ seen.leaves.taken → Takes array (slice_index array slot) old new is_new → GoesByTurns (slice_index array (slice_index array slot)) None known.turns
        → AreTaken array (leaves_met known.turns ++ slice_index array slot ∷ []) new
    leaf_taken old new is_new same takes goes = taken_in old new is_new takes (subst (AreTaken array (leaves_met known.turns)) (sym same) known.records.leaves_taken) goes

    -- what comes next behind a leaf
    pub behind_leaf : (new : TreeSeen) (next : Option ℕ) → IsNew tree.leaves (leaves_met known.turns) (slice_index array slot) → Contains keys (slice_index array (slice_index array slot))
        → GoesByTurns (slice_index array (slice_index array slot)) None known.turns
        → AreMarked tree.leaves (leaves_met known.turns ++ slice_index array slot ∷ []) new.leaves.marks.marks.items → AreTaken array (leaves_met known.turns ++ slice_index array slot ∷ []) new.leaves.taken
        → new.inner ≡ seen.inner → new.forks ≡ seen.forks
        → IsTurned tree.root (turned (Leaf (slice_index array slot) (slice_index array (slice_index array slot))) known.turns) next new.above.items → KnowsNext tree array keys new next
    behind_leaf new next is_new is_known goes marked taken inner forks back =
        let at = slice_index array slot in
        let leaf = Leaf at (slice_index array at) in
        let leaves = sym (turned_leaves known.turns leaf) in
        let others = sym (turned_forks known.turns leaf ∙ append-nil (forks_met known.turns)) in
        arrives new next (turned leaf known.turns)
        (turned_walked known.turns leaf known.walked (sym link_is) (refl, record { new = is_new; known = is_known; goes = goes }))
        (record {
          leaves_marked = subst (λ l. AreMarked tree.leaves l new.leaves.marks.marks.items) leaves marked;
          leaves_taken = subst (λ l. AreTaken array l new.leaves.taken) leaves taken;
          forks_marked = subst (λ l. AreMarked tree.inner l new.inner.marks.items) others (subst (λ m. AreMarked tree.inner (forks_met known.turns) m.marks.items) (sym inner) known.records.forks_marked);
          forks_kept = ap (λ v. v.items) forks ∙ known.records.forks_kept ∙ others;
        })
        back
