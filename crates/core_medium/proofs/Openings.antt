-- A medium to start with.
use Rattle.std.proofs.Common.{◌≡◌, ℕ, ◌-◌, ◌*◌, ◌<◌, ◌≤◌, nat_lt, false, refl, sym, ap, ◌∙◌, subst, ⊎_elim, arith, ne_eqb}
use Rattle.std.specs.Prelude.{slice_index}
use Rattle.std.proofs.lemmas.Bool.{cases_Bool, lt-ltb, ltb-true}
use Rattle.dude_base.specs.declared.limits.TheConstants.{MARK, PAGE, VERSION}
use Rattle.dude_base.specs.declared.sizes.Sizes.{Sizes}
use Rattle.dude_base.specs.Sizes.{IsAccepted}
use Rattle.dude_base.specs.Image.{cell_at, cell_start, header_words, home_word}
use Rattle.pmem_trait.specs.Words.{settled_at}
use Rattle.pmem_trait.proofs.Images.{may_still}
use Rattle.redo_record.specs.Tags.{kind_of}
use Rattle.redo_record.proofs.HeldLog.{in_cells}
use Rattle.core_events.specs.Setups.{Setup, IsSetup}
use Rattle.core_medium.specs.KeptStore.{HasPlaces, IsStart, opening_word, opening_medium}

not_below : (a b : ℕ) → b ≤ a → nat_lt a b ≡ false
not_below a b le = ⊎_elim (λ yes. absurd (let lt = ltb-true a b yes in omega arith)) (λ no. no) (cases_Bool (nat_lt a b))

module _ (z : Setup) (s : Sizes) where
  header_word : (i : ℕ) → i < MARK → opening_word z s i ≡ slice_index (header_words VERSION s) i
  header_word i lt = rw (lt-ltb i MARK lt) refl

  cell_word : (k : ℕ) → MARK < k → k < home_word s 0 → opening_word z s k ≡ 0
  cell_word k over below = rw (not_below k MARK (omega arith), ne_eqb k MARK (λ same. omega arith), lt-ltb k (home_word s 0) below) refl

  home_is : (i : ℕ) → opening_word z s (home_word s i) ≡ slice_index z.opening i
  home_is i =
      let back : home_word s i - home_word s 0 ≡ i = omega arith in
      rw (not_below (home_word s i) MARK (omega arith), ne_eqb (home_word s i) MARK (λ same. omega arith), not_below (home_word s i) (home_word s 0) (omega arith)) (ap (slice_index z.opening) back)

  pub opens : IsSetup z → IsAccepted s → HasPlaces z s → IsStart z s (opening_medium z s)
  opens ok accepted places = record {
    accepted = accepted;
    places = places;
    rests = record {
      header = λ i lt. ap settled_at (header_word i lt);
      mark = refl;
      count = ok.words ∙ ap (λ (n : ℕ). n * PAGE) (sym places.pages);
      words = λ i lt. ap settled_at (home_is i);
    };
    no_heads = λ ring slot tag below lt may over.
        let at = in_cells s ring slot 0 below lt (omega arith) in
        let zero_there : tag ≡ 0 = may_still _ _ tag (ap settled_at (cell_word (cell_start s (cell_at ring slot)) (omega arith) (omega arith))) may in
        let kind : kind_of 0 ≡ 1 = subst (λ (t : ℕ). kind_of t ≡ 1) zero_there over.kind in
        omega arith;
    told = refl;
  }
