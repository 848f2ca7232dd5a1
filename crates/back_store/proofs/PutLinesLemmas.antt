-- The puts and the lines of one write more.
use Rattle.std.proofs.Common.{◌≡◌, ℕ, zero, suc, ◌+◌, ◌-◌, ◌/◌, ◌<◌, List, length, sym, ap, ◌∙◌, subst, inl, inr, arith, eq-eqb, ne_eqb, not, ◌==◌}
use Rattle.std.specs.Prelude.{MatchBool}
use Rattle.std.proofs.lemmas.Bool.{cases_eq}
use Rattle.std.proofs.lemmas.List.{get_or_default}
use Rattle.redo_record.proofs.TouchedLines.{line_at, lines_first, lines_other, lines_same}
use Rattle.back_store.specs.PutLines.{StartsLine, SharesLine}

pub starts_first : (puts : List (ℕ × ℕ)) (k : ℕ) → k ≡ 0 → k < length puts → StartsLine puts k
starts_first puts k first lt d = rw first (lines_first puts d (omega arith))

starts_or_shares_next : (puts : List (ℕ × ℕ)) (k a b : ℕ) (d : ℕ × ℕ) → k + 1 < length puts → a ≡ line_at puts k d → b ≡ line_at puts (k + 1) d → MatchBool (not (a == b)) (StartsLine puts (k + 1)) (SharesLine puts (k + 1))
starts_or_shares_next puts k a b d lt is_a is_b = elim (cases_eq a b) [
  | inl same ↦ rw (eq-eqb a b same) (lines_same puts k d lt (sym is_a ∙ same ∙ is_b))
  | inr apart ↦ rw (ne_eqb a b apart) (λ e. lines_other puts k e lt (λ same. apart (is_a ∙ at_default k d e (omega arith) ∙ same ∙ at_default (k + 1) e d lt ∙ sym is_b)))
]
  where
    at_default : (i : ℕ) (d e : ℕ × ℕ) → i < length puts → line_at puts i d ≡ line_at puts i e
    at_default i d e il = ap (λ (w : ℕ × ℕ). w.0 / 8) (get_or_default puts i d e il)

pub starts_or_shares : (puts : List (ℕ × ℕ)) (k a b : ℕ) (d : ℕ × ℕ) → 0 < k → k < length puts → a ≡ line_at puts (k - 1) d → b ≡ line_at puts k d → MatchBool (not (a == b)) (StartsLine puts k) (SharesLine puts k)
starts_or_shares puts zero a b d some lt is_a is_b = absurd (omega arith)
starts_or_shares puts (suc k) a b d some lt is_a is_b =
    let one : k + 1 ≡ suc k = omega arith in
    let before : k ≡ suc k - 1 = omega arith in
    subst (λ i. MatchBool (not (a == b)) (StartsLine puts i) (SharesLine puts i)) one
    (starts_or_shares_next puts k a b d (omega arith) (is_a ∙ ap (λ i. line_at puts i d) (sym before)) (is_b ∙ ap (λ i. line_at puts i d) (sym one)))
