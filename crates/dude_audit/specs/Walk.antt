-- What one thread would print for the requests of lines.
use Rattle.std.specs.Prelude.{ℕ, ◌≡◌, ◌<◌, List, [], ◌∷◌, map, fold, take, length, slice_index_or, ⊤}
use Rattle.tatp_model.specs.Database.{Database}
use Rattle.tatp_model.specs.Transaction.{reply_to, after_request}
use Rattle.tatp_text.specs.Reply.{reply_text}
use Rattle.dude_audit.specs.declared.claim.Claim.{Claim}
use Rattle.dude_audit.specs.Claim.{text_of}

-- the database after the requests of these lines
abbrev pub after_claims : ℕ → Database → List Claim → Database
after_claims limit db claims = fold (after_request limit) db (map (λ c. c.request) claims)

-- one thread that performs the requests of these lines gives replies with these texts
abbrev pub TextsAlong : List ℕ → ℕ → Database → List Claim → Type 0
TextsAlong printed limit db [] = ⊤
TextsAlong printed limit db (c ∷ order) =
    (text_of printed c ≡ reply_text (reply_to limit db c.request)) × TextsAlong printed limit (after_request limit db c.request) order

-- the line at k is the first one whose text isn't that of one thread's reply
pub record IsFirstWrong (printed : List ℕ) (limit : ℕ) (db : Database) (order : List Claim) (k : ℕ) : Type 0 where
  pub within : k < length order
  pub before : TextsAlong printed limit db (take k order)
  pub here : (d : Claim) → text_of printed (slice_index_or order k d) ≡ reply_text (reply_to limit (after_claims limit db (take k order)) (slice_index_or order k d).request) → ⊥
