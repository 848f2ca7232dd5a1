-- What a caller settles in groups, and what it promises of every image.
use Rattle.std.specs.Prelude.{◌≡◌, ◌⊎◌, ℕ, Bool, if◌then◌else◌, List, [], ◌∷◌, ◌++◌, slice_index}
use Rattle.pmem_trait.specs.declared.call.Call.{Call}
use Rattle.pmem_trait.specs.declared.call.Call.TheVariants.{Tell}
use Rattle.pmem_trait.specs.Groups.{group_calls}

-- the calls that settle a value in word 0; and, if it is to be told, tell it and settle it in word 8 too
abbrev pub save_calls : ℕ → Bool → List Call
save_calls value tell =
    group_calls ((0, value) ∷ []) (0 ∷ [])
    ++ (if tell then Tell value ∷ group_calls ((8, value) ∷ []) (1 ∷ []) else [])

-- word 0 of the image is one of the two values
abbrev pub HoldsEither : ℕ → ℕ → List ℕ → List ℕ → Type 0
HoldsEither old value told image = (slice_index image 0 ≡ old) ⊎ (slice_index image 0 ≡ value)
