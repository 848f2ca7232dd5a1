-- From the parts of an image that were read to what it recovers to.
use Rattle.std.proofs.Common.{◌≡◌, ◌≢◌, ℕ, ◌+◌, ◌<◌, ◌≤◌, List, All, take, refl, sym, ap, ◌∙◌, subst}
use Rattle.std.proofs.lemmas.List.Elements.{All-take, All-weaker}
use Rattle.std.specs.List.{AllPairs}
use Rattle.dude_base.specs.declared.limits.TheConstants.{MAX_NUMBER}
use Rattle.dude_base.specs.declared.sizes.Sizes.{Sizes}
use Rattle.dude_base.specs.Image.{Cell}
use Rattle.dude_base.specs.Records.{RedoBundle, first_of}
use Rattle.redo_record.specs.Images.{sizes_of, mark_of, home_of, bundle_at, IsNewHead}
use Rattle.redo_record.specs.Damage.{IsUndamaged}
use Rattle.redo_record.specs.Recovery.{IsFormatted, HasRecord, AreConsecutive, Recovers, overwritten_by_all}
use Rattle.log_ring.specs.Scan.{AreScanned}
use Rattle.image_recovery.specs.Replays.{AreApplied}

module _ (s : Sizes) (mark : ℕ) (content : List ℕ) (sizes : sizes_of content ≡ s) (mark_is : mark_of content ≡ mark) where
  -- what holds of the sizes and the mark that were read holds of the content's
  pub at_content : (P : Sizes → ℕ → Type 0) → P s mark → P (sizes_of content) (mark_of content)
  at_content P holds = subst (λ (m : ℕ). P (sizes_of content) m) (sym mark_is) (subst (λ (s : Sizes). P s mark) (sym sizes) holds)

  module _ (log : List RedoBundle) (scanned : AreScanned s mark content log) where
    -- the records are over the mark
    over : All (λ r. mark < first_of r) log
    over = All-weaker (HasRecord s mark content) (λ (r : RedoBundle). mark < first_of r)
        (λ r has. subst (λ (b : RedoBundle). mark < first_of b) has.same (scanned.undamaged.complete has.head has.new).over) log scanned.logged

    pub recovered : (words new : List ℕ) (number : ℕ) → IsFormatted content → mark ≤ MAX_NUMBER → words ≡ home_of s content
        → (All (λ r. mark < first_of r) log → AllPairs (λ r t. r.last < first_of t) log → AreApplied log mark words new number) → Recovers content number new
    recovered words new number formatted small home applies =
        let applied = applies over scanned.rising in
        let records : List RedoBundle = take applied.count log in
        record {
          formatted = formatted;
          small = subst (λ (m : ℕ). m ≤ MAX_NUMBER) (sym mark_is) small;
          undamaged = at_content (λ s m. IsUndamaged s m content) scanned.undamaged;
          records = records;
          logged = at_content (λ s m. All (HasRecord s m content) records) (All-take (HasRecord s mark content) applied.count log scanned.logged);
          consecutive = subst (λ (m : ℕ). AreConsecutive m records number) (sym mark_is) applied.lead;
          greatest = at_content (λ s m. (head : Cell) → IsNewHead s m content head → first_of (bundle_at s content head) ≢ number + 1) (λ head is.
              let r : RedoBundle = bundle_at s content head in
              applied.stop r (scanned.every r record { head = head; new = is; same = refl }));
          result = applied.result ∙ ap (overwritten_by_all records) (home ∙ ap (λ (s : Sizes). home_of s content) (sym sizes));
        }
