-- Lines have one verdict at most.
use Rattle.std.proofs.Common.{◌≡◌, ℕ, zero, suc, ◌<◌, List, [], ◌∷◌, length, get_or, take, refl, ap, sym, ◌∙◌, subst, arith, ⊎_elim}
use Rattle.std.proofs.lemmas.Bool.{cases_lt}
use Rattle.tatp_model.specs.Database.{Database}
use Rattle.tatp_model.specs.Transaction.{reply_to, after_request}
use Rattle.tatp_text.specs.Reply.{reply_text}
use Rattle.dude_audit.specs.declared.claim.Claim.{Claim}
use Rattle.dude_audit.specs.Claim.{text_of}
use Rattle.dude_audit.specs.Rules.{AreRuled}
use Rattle.dude_audit.specs.Walk.{TextsAlong, after_claims, IsFirstWrong}
use Rattle.dude_audit.specs.Verdict.{BreaksRule, IsWrongLine, HasVerdict}
use Rattle.dude_audit.specs.declared.verdict.Verdict.{Verdict}
use Rattle.dude_audit.specs.declared.verdict.Verdict.TheVariants.{Yes, No}
use Rattle.dude_audit.proofs.Necessary.{any_claim, order_unique, excluded}

-- texts that are right up to a place are right before it
texts_before : (printed : List ℕ) (limit : ℕ) (db : Database) (order : List Claim) (k m : ℕ) (d : Claim) → TextsAlong printed limit db (take m order) → k < m → k < length order
    → text_of printed (get_or order k d) ≡ reply_text (reply_to limit (after_claims limit db (take k order)) (get_or order k d).request)
texts_before printed limit db [] k m d along less within = absurd (omega (arith, within))
texts_before printed limit db (c ∷ order) k zero d along less within = absurd (omega (arith, less))
texts_before printed limit db (c ∷ order) zero (suc m) d along less within = along.0
texts_before printed limit db (c ∷ order) (suc k) (suc m) d along less within = texts_before printed limit (after_request limit db c.request) order k m d along.1 (omega (arith, less)) (omega (arith, within))

-- two places of which neither is before the other are one
one_place : (k m : ℕ) → (k < m → ⊥) → (m < k → ⊥) → k ≡ m
one_place k m under over = ⊎_elim (λ lt. absurd (under lt)) (λ ge. ⊎_elim (λ lt. absurd (over lt)) (λ le. omega (arith, ge, le)) (cases_lt m k)) (cases_lt k m)

module _ (first limit : ℕ) (db : Database) (printed : List ℕ) (claims : List Claim) (last : ℕ) where
  one_broken : (l m : ℕ) → BreaksRule first last claims l → BreaksRule first last claims m → l ≡ m
  one_broken l m a b =
      let same : a.at ≡ b.at = one_place a.at b.at (λ lt. a.broken.here any_claim (b.broken.before a.at any_claim lt)) (λ lt. b.broken.here any_claim (a.broken.before b.at any_claim lt)) in
      a.named any_claim ∙ ap (λ (k : ℕ). (get_or claims k any_claim).line) same ∙ sym (b.named any_claim)

  one_wrong : (l m : ℕ) (xs : List Claim) → IsWrongLine printed limit db xs l → IsWrongLine printed limit db xs m → l ≡ m
  one_wrong l m xs a b =
      let right : (k n : ℕ) → IsFirstWrong printed limit db xs k → IsFirstWrong printed limit db xs n → k < n → ⊥ =
      λ k n p q lt. p.here any_claim (texts_before printed limit db xs k n any_claim q.before lt p.within) in
      let same : a.at ≡ b.at = one_place a.at b.at (right a.at b.at a.wrong b.wrong) (right b.at a.at b.wrong a.wrong) in
      a.named any_claim ∙ ap (λ (k : ℕ). (get_or xs k any_claim).line) same ∙ sym (b.named any_claim)

  ruled_not : (l : ℕ) → AreRuled first last claims → BreaksRule first last claims l → ⊥
  ruled_not l ruled breaks = breaks.broken.here any_claim (ruled breaks.at any_claim breaks.broken.within)

  one_reason : (l m : ℕ) → HasVerdict first limit db printed claims last (No l) → HasVerdict first limit db printed claims last (No m) → l ≡ m
  one_reason l m a b =
      ⊎_elim
      (λ breaks. ⊎_elim (λ breaks'. one_broken l m breaks breaks')
      (λ other. ⊎_elim (λ misses. absurd (ruled_not l misses.ruled breaks)) (λ wrong. absurd (ruled_not l wrong.ruled breaks)) other) b)
      (λ rest. ⊎_elim
      (λ misses. ⊎_elim (λ breaks'. absurd (ruled_not m misses.ruled breaks'))
      (λ other. ⊎_elim (λ misses'. misses.named ∙ sym misses'.named) (λ wrong. absurd (misses.misses wrong.ends)) other) b)
      (λ wrong. ⊎_elim (λ breaks'. absurd (ruled_not m wrong.ruled breaks'))
      (λ other. ⊎_elim (λ misses'. absurd (misses'.misses wrong.ends))
      (λ wrong'. one_wrong l m wrong'.order (subst (λ (xs : List Claim). IsWrongLine printed limit db xs l) (order_unique claims wrong.order wrong'.order wrong.printed_so wrong'.printed_so) wrong.wrong) wrong'.wrong) other) b)
      rest) a

  pub one_of : (v w : Verdict) → HasVerdict first limit db printed claims last v → HasVerdict first limit db printed claims last w → v ≡ w
  one_of Yes Yes a b = refl
  one_of Yes (No m) a b = absurd (excluded first limit db printed claims last m b a)
  one_of (No l) Yes a b = absurd (excluded first limit db printed claims last l a b)
  one_of (No l) (No m) a b = ap No (one_reason l m a b)
