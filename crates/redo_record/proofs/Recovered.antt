-- What an image of known header, mark and home recovers to.
use Rattle.std.proofs.Common.{◌≡◌, ◌≢◌, ℕ, ◌+◌, ◌-◌, ◌<◌, ◌≤◌, List, length, take, drop, slice_index, sym, ap, ◌∙◌, subst, arith, All}
use Rattle.std.proofs.lemmas.List.{get_or-take, get_or-drop, length-take, length-drop}
use Rattle.std.proofs.lemmas.Grind.{same_number_lists}
use Rattle.dude_base.specs.declared.limits.TheConstants.{MAX_NUMBER}
use Rattle.dude_base.specs.declared.sizes.Sizes.{Sizes}
use Rattle.dude_base.specs.Sizes.{IsAccepted}
use Rattle.dude_base.specs.Image.{header_words, home_word, image_words, Cell}
use Rattle.dude_base.specs.Records.{first_of}
use Rattle.pmem_trait.specs.Words.{settled_at}
use Rattle.pmem_trait.proofs.Images.{may_still}
use Rattle.redo_record.specs.Images.{sizes_of, version_of, mark_of, home_of, bundle_at, IsNewHead}
use Rattle.redo_record.specs.Damage.{IsUndamaged}
use Rattle.redo_record.specs.Rest.{HasHome, LawOfImagesAtRest}
use Rattle.redo_record.specs.Recovery.{IsFormatted, IsVersion, HasRecord, AreConsecutive, overwritten_by_all, Recovers, LawOfRecovery}

-- sizes by their fields
sizes_is : {s : Sizes} {subscribers calls rings cells pages index : ℕ} → subscribers ≡ s.subscribers → calls ≡ s.calls → rings ≡ s.rings → cells ≡ s.cells → pages ≡ s.pages → index ≡ s.index
    → ◌≡◌ {A = Sizes} (record { subscribers = subscribers; calls = calls; rings = rings; cells = cells; pages = pages; index = index }) s
sizes_is a b c d e f = λ i. record { subscribers = a i; calls = b i; rings = c i; cells = d i; pages = e i; index = f i }

module _ {version : ℕ} {s : Sizes} {mark : ℕ} {home image : List ℕ} (has : HasHome version s mark home image) where
  pub home_sizes : sizes_of image ≡ s
  home_sizes = sizes_is (has.header 2 (omega arith)) (has.header 3 (omega arith)) (has.header 4 (omega arith)) (has.header 5 (omega arith)) (has.header 6 (omega arith)) (has.header 7 (omega arith))

  home_header : take 8 image ≡ header_words version s
  home_header = same_number_lists (take 8 image) (header_words version s) count same
    where
      count : length (take 8 image) ≡ 8
      count = simp length-take (let long = has.whole in omega arith)

      same : (i : ℕ) → i < length (take 8 image) → slice_index (take 8 image) i ≡ slice_index (header_words version s) i
      same i below = let small : i < 8 = omega (arith, count) in get_or-take 8 image i 0 small ∙ has.header i small

  pub home_version : version_of image ≡ version
  home_version = has.header 1 (omega arith)

  pub home_formatted : IsAccepted s → IsVersion version s → IsFormatted image
  home_formatted accepted fits = record {
    long = (let long = has.whole in omega arith);
    header = home_header ∙ (ap (header_words version) (sym home_sizes) ∙ ap (λ (v : ℕ). header_words v (sizes_of image)) (sym home_version));
    version = subst (λ (v : ℕ). IsVersion v (sizes_of image)) (sym home_version) (subst (IsVersion version) (sym home_sizes) fits);
    sizes = subst IsAccepted (sym home_sizes) accepted;
    whole = subst (λ (s : Sizes). image_words s ≤ length image) (sym home_sizes) has.whole;
  }

  pub home_is : home_of s image ≡ home
  home_is = same_number_lists (home_of s image) home count same
    where
      count : length (home_of s image) ≡ length home
      count = simp (length-take, length-drop) (let long = has.whole in let length_is = has.count in omega arith)

      same : (i : ℕ) → i < length (home_of s image) → slice_index (home_of s image) i ≡ slice_index home i
      same i below =
          let small : i < length home = omega (arith, count) in
          let length_is = has.count in
          get_or-take (image_words s - home_word s 0) (drop (home_word s 0) image) i 0 (omega arith) ∙ (get_or-drop (home_word s 0) image i 0 ∙ (ap (slice_index image) (omega arith) ∙ has.words i small))

pub recovery_law : LawOfRecovery
recovery_law version s mark home image number records accepted fits small has undamaged logged consecutive greatest = (home_sizes has, recovered)
  where
    at_image : (P : Sizes → ℕ → Type 0) → P s mark → P (sizes_of image) (mark_of image)
    at_image P holds = subst (λ (m : ℕ). P (sizes_of image) m) (sym has.mark) (subst (λ (s : Sizes). P s mark) (sym (home_sizes has)) holds)

    recovered : Recovers image number (overwritten_by_all records home)
    recovered = record {
      formatted = home_formatted has accepted fits;
      small = subst (λ (m : ℕ). m ≤ MAX_NUMBER) (sym has.mark) small;
      undamaged = at_image (λ s m. IsUndamaged s m image) undamaged;
      records = records;
      logged = at_image (λ s m. All (HasRecord s m image) records) logged;
      consecutive = subst (λ (m : ℕ). AreConsecutive m records number) (sym has.mark) consecutive;
      greatest = at_image (λ s m. (head : Cell) → IsNewHead s m image head → first_of (bundle_at s image head) ≢ number + 1) greatest;
      result = ap (overwritten_by_all records) (sym (home_is has) ∙ ap (λ (s : Sizes). home_of s image) (sym (home_sizes has)));
    }

-- the images of a medium at rest
pub images_at_rest_law : LawOfImagesAtRest
images_at_rest_law version s mark home p len image long rests is = record {
  header = λ i below. kept i _ (omega arith) (rests.header i below);
  mark = kept 8 mark (omega arith) rests.mark;
  count = rests.count;
  words = λ i below. kept (home_word s i) _ (let count = rests.count in omega arith) (rests.words i below);
  whole = (let size = is.size in omega arith);
}
  where
    kept : (i x : ℕ) → i < len → p.word i ≡ settled_at x → slice_index image i ≡ x
    kept i x below settled = may_still (p.word i) x (slice_index image i) settled (is.each i below)
