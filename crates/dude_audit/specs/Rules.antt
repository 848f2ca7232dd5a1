-- The rules that the numbers of a printed run keep, line by line.
use Rattle.std.specs.Prelude.{ℕ, ◌≡◌, ◌≤◌, ◌<◌, Bool, true, false, nat_le, nat_lt, nat_eq, ◌&&◌, ◌||◌, if◌then◌else◌, List, take, length, slice_index_or, All}
use Rattle.dude_audit.specs.declared.claim.Claim.{Claim}
use Rattle.dude_audit.specs.Claim.{claims_sync}

-- of one file, an earlier line's number isn't over a later one's, and under it where the later one wrote
pub record IsFollowedBy (e c : Claim) : Type 0 where
  pub upto : e.number ≤ c.number
  pub under : c.wrote ≡ true → e.number < c.number

-- The number of a line, behind the earlier ones, keeps its rule.
pub record KeepsRule (first last : ℕ) (earlier : List Claim) (c : Claim) : Type 0 where
  -- it is from the first number on, and over it where the request wrote
  pub from : first ≤ c.number
  pub over : c.wrote ≡ true → first < c.number
  -- one that wrote has another number than each earlier one that wrote
  pub differs : c.wrote ≡ true → All (λ e. e.wrote ≡ true → e.number ≡ c.number → ⊥) earlier
  -- of its file, the earlier numbers but those of `SYNC` aren't over it, and under it where it wrote
  pub follows : claims_sync c ≡ false → All (λ e. e.file ≡ c.file → claims_sync e ≡ false → IsFollowedBy e c) earlier
  -- a `SYNC` isn't under any earlier number of its file, nor over the last number
  pub synced : claims_sync c ≡ true → All (λ e. e.file ≡ c.file → e.number ≤ c.number) earlier
  pub durable : claims_sync c ≡ true → c.number ≤ last

-- each line keeps its rule
abbrev pub AreRuled : ℕ → ℕ → List Claim → Type 0
AreRuled first last claims = (k : ℕ) (d : Claim) → k < length claims → KeepsRule first last (take k claims) (slice_index_or claims k d)

-- the line at k is the first one that doesn't keep its rule
pub record IsFirstBroken (first last : ℕ) (claims : List Claim) (k : ℕ) : Type 0 where
  pub within : k < length claims
  pub before : (j : ℕ) (d : Claim) → j < k → KeepsRule first last (take j claims) (slice_index_or claims j d)
  pub here : (d : Claim) → KeepsRule first last (take k claims) (slice_index_or claims k d) → ⊥

-- whether the number of a line is within the bounds that the earlier ones give
abbrev pub within_bounds : Claim → ℕ → ℕ → ℕ → Bool
within_bounds c asked any last =
    if claims_sync c then nat_le any c.number && nat_le c.number last
    else if c.wrote then nat_lt asked c.number else nat_le asked c.number

-- the line's request wrote with a number that is known already
abbrev pub repeats : (ℕ → Bool) → Claim → Bool
repeats known c = c.wrote && known c.number

-- what was known is known, and the line's number, if its request wrote
abbrev pub LearnsFrom : (ℕ → Bool) → (ℕ → Bool) → Claim → Type 0
LearnsFrom old new c = (q : ℕ) → new q ≡ (old q || (c.wrote && nat_eq q c.number))
