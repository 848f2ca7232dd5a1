-- Which numbers the records that an image recovers by cover.
use Rattle.std.proofs.Common.{◌≡◌, ◌⊎◌, inl, inr, ℕ, ◌+◌, ◌<◌, ◌≤◌, sym, ap, ◌∙◌, subst, arith}
use Rattle.std.proofs.lemmas.Bool.{cases_order}
use Rattle.dude_base.specs.declared.sizes.Sizes.{Sizes}
use Rattle.dude_base.specs.Image.{Cell}
use Rattle.dude_base.specs.Records.{RedoBundle, first_of, Covers}
use Rattle.redo_record.specs.Images.{sizes_of, mark_of, bundle_at, IsNewHead, IsSound}
use Rattle.redo_record.specs.Recovery.{HasRecord, LawOfCovering}
use Rattle.redo_record.proofs.WaitingRecords.{consecutive_up, consecutive_reach}

pub covering_law : LawOfCovering
covering_law image number array recovers = (up, each, behind)
  where
    s : Sizes
    s = sizes_of image

    mark : ℕ
    mark = mark_of image

    up : mark ≤ number
    up = consecutive_up mark number recovers.records recovers.consecutive

    -- the record that covers a number on the way
    found : (n : ℕ) → mark < n → n ≤ number → (r : RedoBundle) × HasRecord s mark image r × Covers r n × (r.last ≤ number)
    found n low high =
        let is = consecutive_reach (HasRecord s mark image) mark number n recovers.records recovers.logged recovers.consecutive low high in
        (is.one, is.holds, is.covers, is.upto)

    each : (n : ℕ) → mark < n → n ≤ number → (head : Cell) × IsNewHead s mark image head × IsSound s mark image head × Covers (bundle_at s image head) n
    each n low high =
        let is = found n low high in
        (is.1.head, is.1.new, recovers.undamaged.complete is.1.head is.1.new, subst (λ (r : RedoBundle). Covers r n) (sym is.1.same) is.2)

    behind : (head : Cell) → IsNewHead s mark image head → Covers (bundle_at s image head) (number + 1) → ⊥
    behind head new covers = by (cases_order number (first_of b))
      where
        b : RedoBundle
        b = bundle_at s image head

        over : mark < first_of b
        over = (recovers.undamaged.complete head new).over

        -- else it covers a number that a record on the way covers
        under : first_of b ≤ number → ⊥
        under low =
            let is = found (first_of b) over low in
            let first : Covers b (first_of b) = record { low = omega arith; high = omega arith } in
            let same : is.1.head ≡ head = recovers.undamaged.single is.1.head head (first_of b) is.1.new new (subst (λ (r : RedoBundle). Covers r (first_of b)) (sym is.1.same) is.2) first in
            let last : is.0.last ≡ b.last = ap (λ (r : RedoBundle). r.last) (sym is.1.same ∙ ap (bundle_at s image) same) in
            let upto = is.3 in
            let high = covers.high in
            omega arith

        by : (number ≡ first_of b) ⊎ ((number < first_of b) ⊎ (first_of b < number)) → ⊥
        by (inl same) = under (omega arith)
        by (inr (inl lt)) = recovers.greatest head new (let low = covers.low in omega arith)
        by (inr (inr gt)) = under (omega arith)
