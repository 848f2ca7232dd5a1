-- How a walk along the printed order grows by one line.
use Rattle.std.proofs.Common.{◌≡◌, ℕ, ◌+◌, ◌<◌, List, [], ◌∷◌, ◌++◌, length, get_or, take, refl, ap, sym, ◌∙◌}
use Rattle.std.proofs.lemmas.List.{take_more, get_or_default}
use Rattle.tatp_model.specs.declared.reply.Reply.{Reply}
use Rattle.tatp_model.specs.Database.{Database}
use Rattle.tatp_model.specs.Transaction.{reply_to, after_request}
use Rattle.tatp_text.specs.Reply.{reply_text}
use Rattle.dude_audit.specs.declared.claim.Claim.{Claim}
use Rattle.dude_audit.specs.Claim.{text_of}
use Rattle.dude_audit.specs.Walk.{after_claims, TextsAlong, IsFirstWrong}

after_push : (limit : ℕ) (db : Database) (order : List Claim) (c : Claim) → after_claims limit db (order ++ c ∷ []) ≡ after_request limit (after_claims limit db order) c.request
after_push limit db [] c = refl
after_push limit db (d ∷ order) c = after_push limit (after_request limit db d.request) order c

texts_push : (printed : List ℕ) (limit : ℕ) (db : Database) (order : List Claim) (c : Claim) → TextsAlong printed limit db order
    → text_of printed c ≡ reply_text (reply_to limit (after_claims limit db order) c.request) → TextsAlong printed limit db (order ++ c ∷ [])
texts_push printed limit db [] c so_far here = (here, tt)
texts_push printed limit db (d ∷ order) c so_far here = (so_far.0, texts_push printed limit (after_request limit db d.request) order c so_far.1 here)

-- the step of a loop over the order
pub after_more : (limit : ℕ) (db : Database) (order : List Claim) (k : ℕ) (d : Claim) → k < length order
    → after_claims limit db (take (k + 1) order) ≡ after_request limit (after_claims limit db (take k order)) (get_or order k d).request
after_more limit db order k d within = rw (take_more order k d within) (after_push limit db (take k order) (get_or order k d))

pub texts_more : (printed : List ℕ) (limit : ℕ) (db : Database) (order : List Claim) (k : ℕ) (d : Claim) → k < length order → TextsAlong printed limit db (take k order)
    → text_of printed (get_or order k d) ≡ reply_text (reply_to limit (after_claims limit db (take k order)) (get_or order k d).request) → TextsAlong printed limit db (take (k + 1) order)
texts_more printed limit db order k d within so_far here = rw (take_more order k d within) (texts_push printed limit db (take k order) (get_or order k d) so_far here)

module _ (printed : List ℕ) (limit : ℕ) (db now : Database) (order : List Claim) (k : ℕ) (e : Claim) (reply : Reply) (within : k < length order) (before : TextsAlong printed limit db (take k order)) (after : now ≡ after_claims limit db (take k order)) (is : reply ≡ reply_to limit now (get_or order k e).request) where
  expected : (d : Claim) → reply_text reply ≡ reply_text (reply_to limit (after_claims limit db (take k order)) (get_or order k d).request)
  expected d = ap reply_text is ∙ ap (λ (b : Database). reply_text (reply_to limit b (get_or order k e).request)) after ∙ ap (λ (c : Claim). reply_text (reply_to limit (after_claims limit db (take k order)) c.request)) (get_or_default order k e d within)

  -- the line at k has another text
  pub wrong_here : (text was : List ℕ) → text ≡ was ++ reply_text reply → was ≡ [] → (text_of printed (get_or order k e) ≡ text → ⊥) → IsFirstWrong printed limit db order k
  wrong_here text was told empty differs = record {
    within = within;
    before = before;
    here = λ d same. differs (ap (text_of printed) (get_or_default order k e d within) ∙ same ∙ sym (told ∙ ap (λ (l : List ℕ). l ++ reply_text reply) empty ∙ expected d));
  }

  -- the line at k has this text
  pub right_here : (text was : List ℕ) → text ≡ was ++ reply_text reply → was ≡ [] → text_of printed (get_or order k e) ≡ text → TextsAlong printed limit db (take (k + 1) order)
  right_here text was told empty same = texts_more printed limit db order k e within before (same ∙ (told ∙ ap (λ (l : List ℕ). l ++ reply_text reply) empty ∙ expected e))

  pub after_here : (next : Database) → next ≡ after_request limit now (get_or order k e).request → next ≡ after_claims limit db (take (k + 1) order)
  after_here next leads = leads ∙ ap (λ (b : Database). after_request limit b (get_or order k e).request) after ∙ sym (after_more limit db order k e within)
