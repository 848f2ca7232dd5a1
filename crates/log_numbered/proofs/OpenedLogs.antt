-- A run that starts on an opened image.
use Rattle.std.proofs.Common.{◌≡◌, ℕ, ◌-◌, List, [], ◌∷◌, get_or, length, sym, ap, ◌∙◌, arith}
use Rattle.dude_base.specs.declared.sizes.Sizes.{Sizes}
use Rattle.pmem_trait.specs.Sights.{Sight}
use Rattle.back_store.proofs.EmptyLanes.{none_waiting}
use Rattle.back_store.specs.Back.{home_now, idle}
use Rattle.log_numbered.specs.Arrays.{RunArrays, array_at, last_number}
use Rattle.log_numbered.specs.Backs.{HoldsArrays}
use Rattle.log_numbered.proofs.HeldArrays.{array_alone}

-- the one array of a run without records
abbrev pub first_array : ℕ → List ℕ → RunArrays
first_array number words = record { first = number; opening = words; others = [] }

pub first_last : (number : ℕ) (words : List ℕ) → number ≡ last_number (first_array number words)
first_last number words = omega arith

array_first : (number n : ℕ) (words : List ℕ) → n ≡ number → array_at (first_array number words) n ≡ words
array_first number n words is = let none : n - number ≡ 0 = omega arith in ap (λ i. get_or (words ∷ []) i []) none

pub holds_first : (sizes : Sizes) (number : ℕ) (words : List ℕ) (s : Sight) → home_now sizes s ≡ words → HoldsArrays (first_array number words) (idle sizes number) s
holds_first sizes number words s same = record {
  from = omega arith;
  size = ap length (sym same);
  arrays = λ n array is. let alone = array_alone (none_waiting sizes) is in alone.1 ∙ same ∙ sym (array_first number n words alone.0);
}
