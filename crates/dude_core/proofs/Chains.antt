-- Waiting bundles that lead on, one after another.
use Rattle.std.proofs.Common.{◌≡◌, ◌≢◌, ℕ, ◌+◌, ◌<◌, ◌≤◌, List, [], ◌∷◌, ◌++◌, append-nil, append_assoc, refl, sym, ap, subst, ◌∙◌, arith, inl, inr, eq-eqb, ne_eqb}
use Rattle.std.specs.Prelude.{◌↔◌, ◌==◌}
use Rattle.std.proofs.lemmas.Bool.{cases_eq}
use Rattle.std.specs.List.{Contains}
use Rattle.std.proofs.lemmas.List.Elements.{All-head, All-tail, All-cons, All-nil, All-push}
use Rattle.dude_base.specs.Records.{RedoBundle, first_of}
use Rattle.redo_record.specs.Recovery.{AreConsecutive}
use Rattle.redo_record.specs.Waiting.{Waiting, Waits, Lead, IsEnd, AreDisjoint}
use Rattle.redo_record.proofs.WaitingRecords.{one_record, consecutive_up, consecutive_push}
use Rattle.dude_core.specs.Named.{Tells}
use Rattle.dude_core.specs.Chains.{LeadAlone}

-- what is left of a list that leads on, behind its first bundle
pub record Behind (waiting : List Waiting) (r : RedoBundle) (rs : List RedoBundle) (to : ℕ) : Type 0 where
  pub rest : List RedoBundle
  pub whole : rs ≡ r ∷ rest
  pub lead : Lead waiting r.last rest to

-- what is left of a list that leads on, behind some bundles
pub record LeftOf (waiting : List Waiting) (rs ts : List RedoBundle) (end to : ℕ) : Type 0 where
  pub rest : List RedoBundle
  pub whole : ts ≡ rs ++ rest
  pub lead : Lead waiting end rest to

module _ (waiting : List Waiting) (distinct : AreDisjoint waiting) where
  pub wait_one : (w : Waiting) → Contains waiting w → (r : RedoBundle) → w.redo ≡ r → Waits waiting r
  wait_one w is r same = record { ring = w.ring; is_one = subst (λ (t : RedoBundle). Contains waiting (record { ring = w.ring; redo = t })) same is }

  -- a list that leads on begins with the bundle that begins there
  pub behind_first : (r : RedoBundle) (end to : ℕ) (rs : List RedoBundle) → Waits waiting r → first_of r ≡ end + 1 → end < to → Lead waiting end rs to → Behind waiting r rs to
  behind_first r end to [] waits first lt lead = absurd (let last : end ≡ to = lead.consecutive in omega arith)
  behind_first r end to (t ∷ ts) waits first lt lead =
      let same : t ≡ r = one_record distinct (All-head (Waits waiting) t ts lead.wait) waits (lead.consecutive.0 ∙ sym first) in
      record {
        rest = ts;
        whole = ap (λ (u : RedoBundle). u ∷ ts) same;
        lead = record { wait = All-tail (Waits waiting) t ts lead.wait; consecutive = subst (λ (u : RedoBundle). AreConsecutive u.last ts to) same lead.consecutive.1 };
      }

  pub before_rest : (r : RedoBundle) (end to : ℕ) (rs : List RedoBundle) → Waits waiting r → first_of r ≡ end + 1 → Lead waiting r.last rs to → Lead waiting end (r ∷ rs) to
  before_rest r end to rs waits first lead = record { wait = All-cons (Waits waiting) r rs waits lead.wait; consecutive = (first, lead.consecutive) }

  -- ---- an end, one bundle further
  pub end_on : (r : RedoBundle) (from end last to : ℕ) → Waits waiting r → first_of r ≡ end + 1 → end < to → last ≡ r.last → (IsEnd waiting from to ↔ IsEnd waiting end to) → (IsEnd waiting from to ↔ IsEnd waiting last to)
  end_on r from end last to waits first lt last_is same = (
    (λ e. let here = same.0 e in let b = behind_first r end to here.records waits first lt here.lead in record { records = b.rest; lead = subst (λ (n : ℕ). Lead waiting n b.rest to) (sym last_is) b.lead }),
    (λ e. same.1 (record { records = r ∷ e.records; lead = before_rest r end to e.records waits first (subst (λ (n : ℕ). Lead waiting n e.records to) last_is e.lead) })),
  )

  -- no bundle begins behind a number that is below an end
  pub no_end : (end to : ℕ) → end < to → ((w : Waiting) → Contains waiting w → first_of w.redo ≢ end + 1) → IsEnd waiting end to → ⊥
  no_end end to lt none e = by e.records e.lead
    where
      by : (rs : List RedoBundle) → Lead waiting end rs to → ⊥
      by [] lead = absurd (let last : end ≡ to = lead.consecutive in omega arith)
      by (t ∷ ts) lead = none _ (All-head (Waits waiting) t ts lead.wait).is_one lead.consecutive.0

  -- an end isn't below a number from which bundles lead to it
  pub end_upto : (end to : ℕ) → IsEnd waiting end to → end ≤ to
  end_upto end to e = consecutive_up end to e.records e.lead.consecutive

  pub end_here : (end to : ℕ) → end ≡ to → IsEnd waiting end to
  end_here end to same = record { records = []; lead = record { wait = All-nil (Waits waiting); consecutive = same } }

  -- a number that isn't below another one is an end from there exactly where it is that one
  pub end_tells : (from end to : ℕ) → to ≤ end → (IsEnd waiting from to ↔ IsEnd waiting end to) → Tells (end == to) (IsEnd waiting from to)
  end_tells from end to over same = elim (cases_eq end to) [
    | inl is ↦ rw (eq-eqb end to is) (same.1 (end_here end to is))
    | inr other ↦ rw (ne_eqb end to other) (λ e. let up = end_upto end to (same.0 e) in other (omega arith))
  ]

  -- ---- a list of bundles, one bundle longer
  pub lead_none : (from : ℕ) → Lead waiting from [] from
  lead_none from = record { wait = All-nil (Waits waiting); consecutive = refl }

  pub lead_push : (r : RedoBundle) (from end : ℕ) (rs : List RedoBundle) → Waits waiting r → first_of r ≡ end + 1 → Lead waiting from rs end → Lead waiting from (rs ++ r ∷ []) r.last
  lead_push r from end rs waits first lead = record { wait = All-push (Waits waiting) rs r lead.wait waits; consecutive = consecutive_push from end rs r lead.consecutive first }

  pub left_push : (r : RedoBundle) (end to : ℕ) (rs ts : List RedoBundle) → Waits waiting r → first_of r ≡ end + 1 → end < to → LeftOf waiting rs ts end to → LeftOf waiting (rs ++ r ∷ []) ts r.last to
  left_push r end to rs ts waits first lt l =
      let b = behind_first r end to l.rest waits first lt l.lead in
      record { rest = b.rest; whole = l.whole ∙ (ap (λ (us : List RedoBundle). rs ++ us) b.whole ∙ sym (append_assoc rs (r ∷ []) b.rest)); lead = b.lead }

  none_left : (end to : ℕ) (rs : List RedoBundle) → end ≡ to → Lead waiting end rs to → rs ≡ []
  none_left end to [] same lead = refl
  none_left end to (r ∷ rs) same lead = absurd (let up = consecutive_up r.last to rs lead.consecutive.1 in let first = lead.consecutive.0 in omega arith)

  pub alone : (from end to : ℕ) (rs : List RedoBundle) → end ≡ to → Lead waiting from rs end → ((ts : List RedoBundle) → Lead waiting from ts to → LeftOf waiting rs ts end to) → LeadAlone waiting from to rs
  alone from end to rs same lead each = record {
    lead = subst (λ (n : ℕ). Lead waiting from rs n) same lead;
    only = λ ts h. let l = each ts h in l.whole ∙ (ap (λ (us : List RedoBundle). rs ++ us) (none_left end to l.rest same l.lead) ∙ append-nil rs);
  }
