-- What a replay gives, on any medium, and by an image.
use Rattle.std.specs.Prelude.{◌≡◌, ◌≢◌, ℕ, ◌+◌, ◌*◌, ◌^◌, ◌≤◌, All, IfOk, IsErrOf, List, length, map, take, Option, Some, None, Result}
use Rattle.std.specs.List.{Contains}
use Rattle.dude_base.specs.declared.limits.TheConstants.{PAGE, MAX_NUMBER}
use Rattle.dude_base.specs.declared.sizes.Sizes.{Sizes}
use Rattle.dude_base.specs.Sizes.{IsAccepted}
use Rattle.dude_base.specs.Image.{image_words}
use Rattle.dude_base.specs.Records.{RedoBundle, first_of}
use Rattle.pmem_trait.specs.Sights.{Sight}
use Rattle.pmem_trait.specs.Reads.{ContentHas}
use Rattle.redo_record.specs.Cells.{IsCell}
use Rattle.redo_record.specs.Images.{home_of, sizes_of}
use Rattle.redo_record.specs.Recovery.{IsFormatted, Recovers, AreConsecutive, overwritten_by_all}
use Rattle.log_ring.specs.declared.head.Head.{Head}
use Rattle.log_ring.specs.declared.scan_fault.ScanFault.{ScanFault}
use Rattle.log_ring.specs.declared.scan_fault.ScanFault.TheVariants.{Damaged}
use Rattle.log_ring.specs.Heads.{bundle_of_head, cell_of}
use Rattle.log_ring.specs.Scan.{AreHeads}
use Rattle.image_recovery.specs.declared.replayed_image.ReplayedImage.{ReplayedImage}

-- The replay is one of an image of accepted sizes, for which so many words are enough; its number is in its limits, and it
-- has all words of a home. This holds also where contracts don't see what the medium holds.
pub record IsReplay (len : ℕ) (r : ReplayedImage) : Type 0 where
  pub accepted : IsAccepted r.sizes
  pub room : image_words r.sizes ≤ len
  pub small : r.number ≤ MAX_NUMBER
  pub size : length r.words.items ≡ r.sizes.pages * PAGE

-- The image recovers to the number and the words of the replay, by its own header.
pub record IsReplayOf (r : ReplayedImage) (image : List ℕ) : Type 0 where
  pub recovered : Recovers image r.number r.words.items
  pub same_sizes : sizes_of image ≡ r.sizes

-- the image has these accepted sizes; or it isn't formatted
abbrev pub HasSizes : Option Sizes → List ℕ → Type 0
HasSizes None image = ¬ IsFormatted image
HasSizes (Some s) image = IsFormatted image × (sizes_of image ≡ s)

-- The bundles from the first one on that lead on from a number were applied; none begins behind the last number.
pub record AreApplied (log : List RedoBundle) (from : ℕ) (old new : List ℕ) (number : ℕ) : Type 0 where
  pub count : ℕ
  pub lead : AreConsecutive from (take count log) number
  pub result : new ≡ overwritten_by_all (take count log) old
  pub stop : (r : RedoBundle) → Contains log r → first_of r ≢ number + 1

-- The bundles of some heads over a mark can be applied to home words.
pub record CanApply (s : Sizes) (log : List Head) (mark : ℕ) (words : List ℕ) (len : ℕ) : Type 0 where
  -- the mark is in its limits
  pub in_limits : mark ≤ MAX_NUMBER
  -- each head is in a cell of the image
  pub inside : All (λ h. IsCell s (cell_of h)) log
  -- so many words are enough for the image
  pub room : image_words s ≤ len
  -- there are as many home words as it has
  pub size : length words ≡ s.pages * PAGE

-- at Ok, where the medium is visible and its content has just these heads over the mark, their bundles were applied up to this
-- number
abbrev pub Applies : Sizes → ℕ → List Head → List ℕ → List ℕ → Result ℕ ScanFault → Sight → Type 0
Applies s mark log old new result m = IfOk result (λ number. ContentHas (λ content.
    AreHeads s mark content log → AreApplied (map (bundle_of_head s content) log) mark old new number) m)

-- at Damaged the content, where the medium is visible, hasn't just these heads over the mark
abbrev pub LacksHeads : Sizes → ℕ → List Head → Result ℕ ScanFault → Sight → Type 0
LacksHeads s mark log result m =
    (line : ℕ) → IsErrOf result (Damaged line) → ContentHas (λ content. AreHeads s mark content log → ⊥) m

-- these are the home words, where the medium is visible
abbrev pub IsHomeOf : Sizes → Sight → List ℕ → Type 0
IsHomeOf s m words = ContentHas (λ content. words ≡ home_of s content) m

-- how many reads a replay makes at most: header, mark, rings and home
abbrev pub replay_reads : ℕ
replay_reads = 2 ^ 32
