-- The shape of a tree: which records it has, with which keys and bits, and what that means in an array.
use Rattle.std.specs.Prelude.{◌≡◌, ◌≢◌, ℕ, ◌+◌, ◌*◌, ◌/◌, ◌%◌, ◌^◌, ◌<◌, List, [], ◌∷◌, ◌++◌, All, Option, Some, None, slice_index}

-- a leaf at this place with this key; or an inner record at this place with this bit, and what is below it,
-- first what has 0 in that bit
pub data Shape : Type 0 where
  Leaf : ℕ → ℕ → Shape
  Fork : ℕ → ℕ → Shape → Shape → Shape

-- what links a shape: the place of its leaf or of its highest inner record
abbrev pub link_of : Shape → ℕ
link_of (Leaf at key) = at
link_of (Fork at bit zeros ones) = at

-- the keys, from left to right
abbrev pub keys_of : Shape → List ℕ
keys_of (Leaf at key) = key ∷ []
keys_of (Fork at bit zeros ones) = keys_of zeros ++ keys_of ones

-- the first key from the left
abbrev pub least_of : Shape → ℕ
least_of (Leaf at key) = key
least_of (Fork at bit zeros ones) = least_of zeros

-- the places of the leaves, from left to right
abbrev pub leaves_of : Shape → List ℕ
leaves_of (Leaf at key) = at ∷ []
leaves_of (Fork at bit zeros ones) = leaves_of zeros ++ leaves_of ones

-- the places of the inner records, each before those below it
abbrev pub forks_of : Shape → List ℕ
forks_of (Leaf at key) = []
forks_of (Fork at bit zeros ones) = at ∷ (forks_of zeros ++ forks_of ones)

-- a bit of a key, counted from the lowest
abbrev pub bit_of : ℕ → ℕ → ℕ
bit_of key bit = key / 2 ^ bit % 2

-- these keys are one number from this bit on
abbrev pub AgreeFrom : ℕ → ℕ → List ℕ → Type 0
AgreeFrom bit high keys = All (λ key. key / 2 ^ bit ≡ high) keys

-- The bits fall from the root to each leaf, and are all below `most`. Below an inner record all keys agree
-- above its bit, which is 0 in the keys of the first side and 1 in those of the other.
abbrev pub IsRadix : ℕ → Shape → Type 0
IsRadix most (Leaf at key) = Unit {0}
IsRadix most (Fork at bit zeros ones) = (bit < most) × ((high : ℕ) × AgreeFrom bit (2 * high) (keys_of zeros) × AgreeFrom bit (2 * high + 1) (keys_of ones)) × IsRadix bit zeros × IsRadix bit ones

-- The words of an array hold a shape: word 0 of a leaf is its key; word 0 of an inner record is its bit, and
-- words 2 and 3 link what is below.
abbrev pub Holds : List ℕ → Shape → Type 0
Holds array (Leaf at key) = slice_index array at ≡ key
Holds array (Fork at bit zeros ones) = (slice_index array at ≡ bit) × (slice_index array (at + 2) ≡ link_of zeros) × (slice_index array (at + 3) ≡ link_of ones) × Holds array zeros × Holds array ones

-- a word that this shape doesn't read: it is none of the words 0 of its leaves, and of the words 0, 2 and 3 of its inner records
abbrev pub IsUnread : Shape → ℕ → Type 0
IsUnread (Leaf at key) i = i ≢ at
IsUnread (Fork at bit zeros ones) i = (i ≢ at) × (i ≢ at + 2) × (i ≢ at + 3) × IsUnread zeros i × IsUnread ones i

-- the keys of a tree that may be empty
abbrev pub keys_in : Option Shape → List ℕ
keys_in None = []
keys_in (Some shape) = keys_of shape

-- the leaves of a tree that may be empty
abbrev pub leaves_in : Option Shape → List ℕ
leaves_in None = []
leaves_in (Some shape) = leaves_of shape

-- the inner records of a tree that may be empty
abbrev pub forks_in : Option Shape → List ℕ
forks_in None = []
forks_in (Some shape) = forks_of shape

-- a word that a tree which may be empty doesn't read below its root
abbrev pub IsUnreadIn : Option Shape → ℕ → Type 0
IsUnreadIn None i = Unit {0}
IsUnreadIn (Some shape) i = IsUnread shape i
