-- The home of an image, word by word.
use Rattle.std.proofs.Common.{◌≡◌, ◌≢◌, ⊎_elim, ℕ, ◌+◌, ◌-◌, ◌*◌, ◌<◌, ◌≤◌, List, [], ◌∷◌, ◌++◌, length, drop, slice_index, sym, ap, ◌∙◌, arith}
use Rattle.std.proofs.lemmas.Bool.{cases_eq}
use Rattle.std.proofs.lemmas.List.{get_or-take, get_or-drop, length-take, length-drop, get_or_append_left, get_or-append_right}
use Rattle.std.proofs.lemmas.Grind.{same_number_lists}
use Rattle.dude_base.specs.declared.sizes.Sizes.{Sizes}
use Rattle.dude_base.specs.Image.{home_word, image_words}
use Rattle.redo_record.specs.Images.{home_of}

pub length-home_of : (s : Sizes) (image : List ℕ) → image_words s ≤ length image → length (home_of s image) ≡ s.pages * 64
length-home_of s image long = simp (length-take, length-drop) (omega arith)

pub index-home_of : (s : Sizes) (image : List ℕ) (i : ℕ) → i < s.pages * 64 → slice_index (home_of s image) i ≡ slice_index image (home_word s i)
index-home_of s image i below =
    get_or-take (image_words s - home_word s 0) (drop (home_word s 0) image) i 0 (omega arith) ∙ (get_or-drop (home_word s 0) image i 0 ∙ ap (slice_index image) (omega arith))

pub home_same : (s : Sizes) (image words : List ℕ) → image_words s ≤ length image → length words ≡ s.pages * 64
    → ((i : ℕ) → i < s.pages * 64 → slice_index words i ≡ slice_index image (home_word s i)) → words ≡ home_of s image
home_same s image words long size each = same_number_lists words (home_of s image) (size ∙ sym (length-home_of s image long))
    (λ i below. let small : i < s.pages * 64 = omega arith in each i small ∙ sym (index-home_of s image i small))

-- one home word more
pub word_pushed : (s : Sizes) (image old new : List ℕ) (n value : ℕ) → length old ≡ n → new ≡ old ++ value ∷ [] → ((i : ℕ) → i < n → slice_index old i ≡ slice_index image (home_word s i))
    → slice_index image (home_word s n) ≡ value → (i : ℕ) → i < n + 1 → slice_index new i ≡ slice_index image (home_word s i)
word_pushed s image old new n value size is before here i below = ap (λ (l : List ℕ). slice_index l i) is ∙ ⊎_elim
    (λ (same : i ≡ n). get_or-append_right old (value ∷ []) n i 0 size (omega arith) ∙ (ap (slice_index (value ∷ [])) {y = 0} (omega arith) ∙ (sym here ∙ ap (λ (k : ℕ). slice_index image (home_word s k)) (sym same))))
    (λ (apart : i ≢ n). let small : i < n = omega (arith, apart) in get_or_append_left old (value ∷ []) 0 i (omega arith) ∙ before i small)
    (cases_eq i n)
