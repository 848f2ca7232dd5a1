-- The line of a request at a place in the printed bytes.
use Rattle.std.proofs.Common.{ℕ, ◌≡◌, ◌+◌, ◌-◌, ◌<◌, ◌≤◌, Bool, true, IsTrue, List, ◌++◌, length, take, drop, refl, ap, ap₂, sym, ◌∙◌, subst, arith}
use Rattle.std.specs.Prelude.{codes, ◌↔◌}
use Rattle.std.proofs.lemmas.List.{drop-drop, length-drop}
use Rattle.tatp_model.specs.OneThread.{is_sync}
use Rattle.dude_audit.specs.declared.claim.Claim.{Claim}
use Rattle.dude_audit.specs.Claim.{may_write}
use Rattle.dude_audit.specs.declared.line.Line.{Line}
use Rattle.dude_audit.specs.Bytes.{HasNo}
use Rattle.dude_audit.specs.Line.{line_bytes, BeginsWithLine}
use Rattle.dude_audit.specs.Reading.{BeginsFor, IsReadAt}
use Rattle.dude_audit.proofs.Lined.{line_unique}

module _ (printed : List ℕ) (at : ℕ) (blank : Claim) (line : Line) (inside : at ≤ length printed) (begins : BeginsWithLine (drop at printed) line) (text : List ℕ) (is_text : text ≡ take ((at + line.to) - (at + line.from)) (drop (at + line.from) printed)) where
  text_there : text ≡ take (line.to - line.from) (drop line.from (drop at printed))
  text_there = let e : (at + line.to) - (at + line.from) ≡ line.to - line.from = omega arith in
      is_text ∙ ap₂ (λ (k : ℕ) (l : List ℕ). take k l) e (sym (drop-drop line.from at printed))

  its : drop at printed ≡ line_bytes line.number text ++ drop (line.to + 1) (drop at printed)
  its = begins.is ∙ ap (λ (t : List ℕ). line_bytes line.number t ++ drop (line.to + 1) (drop at printed)) (sym text_there)

  whole : HasNo 10 text
  whole = subst (HasNo 10) (sym text_there) begins.whole

  -- a text that doesn't fit the request
  pub misfits : (((is_sync blank.request ≡ true) ↔ (text ≡ codes "DURABLE")) → ⊥) → BeginsFor blank.request (drop at printed) → ⊥
  misfits not (number, t, more, fits, is) =
      let one = line_unique line.number number text t (drop (line.to + 1) (drop at printed)) more begins.small fits.small whole fits.whole (sym its ∙ is) in
      not (subst (λ (u : List ℕ). (is_sync blank.request ≡ true) ↔ (u ≡ codes "DURABLE")) (sym one.1) fits.syncs)

  -- a text that fits it
  pub reads : (wrote : Bool) → ((is_sync blank.request ≡ true) ↔ (text ≡ codes "DURABLE")) → ((wrote ≡ true) ↔ (IsTrue (may_write blank.request) × (text ≡ codes "OK")))
      → IsReadAt printed at blank (record { file = blank.file; index = blank.index; request = blank.request; number = line.number; wrote = wrote; line = blank.line; from = at + line.from; to = at + line.to })
  reads wrote fits says =
      let ends : at + line.to < length printed = (let w = begins.within in omega (arith, w, length-drop at printed)) in
      record {
        request = refl;
        line = refl;
        read = record {
          fits = record {
            small = begins.small;
            whole = subst (HasNo 10) is_text whole;
            syncs = subst (λ (u : List ℕ). (is_sync blank.request ≡ true) ↔ (u ≡ codes "DURABLE")) is_text fits;
          };
          says = subst (λ (u : List ℕ). (wrote ≡ true) ↔ (IsTrue (may_write blank.request) × (u ≡ codes "OK"))) is_text says;
          within = record { rises = (let r = begins.rises in omega (arith, r)); ends = omega (arith, ends) };
        };
        ends = ends;
        is = its ∙ ap₂ (λ (t rest : List ℕ). line_bytes line.number t ++ rest) is_text (drop-drop (line.to + 1) at printed ∙ ap (λ (k : ℕ). drop k printed) (omega arith));
      }
