-- A printed run as lines of its requests, and the first line that isn't formed as it has to be.
use Rattle.std.specs.Prelude.{ℕ, ◌≡◌, ◌⊎◌, ◌≤◌, ◌<◌, ◌+◌, ◌↔◌, true, List, [], ◌∷◌, ◌++◌, length, take, drop, map, slice_index_or, All, codes, decimal}
use Rattle.std.specs.List.{flat_map}
use Rattle.dude_base.specs.declared.limits.TheConstants.{MAX_NUMBER}
use Rattle.tatp_model.specs.declared.request.Request.{Request}
use Rattle.tatp_model.specs.OneThread.{is_sync}
use Rattle.tatp_text.specs.Output.{last_line}
use Rattle.dude_audit.specs.declared.claim.Claim.{Claim}
use Rattle.dude_audit.specs.declared.reading.Reading.{Reading}
use Rattle.dude_audit.specs.declared.reading.Reading.TheVariants.{Lines, Misformed}
use Rattle.dude_audit.specs.Bytes.{HasNo}
use Rattle.dude_audit.specs.Claim.{IsWithin, text_of, claimed_request_of, SaysWrote}
use Rattle.dude_audit.specs.Line.{line_bytes}

-- A number and a text are a line for the request: the number has at most 48 bits, the text no LF, and it is `DURABLE` for
-- exactly the `SYNC` requests.
pub record Fits (q : Request) (number : ℕ) (text : List ℕ) : Type 0 where
  pub small : number ≤ MAX_NUMBER
  pub whole : HasNo 10 text
  pub syncs : (is_sync q ≡ true) ↔ (text ≡ codes "DURABLE")

-- these bytes begin with a line for the request
abbrev pub BeginsFor : Request → List ℕ → Type 0
BeginsFor q bytes = (number : ℕ) × (text : List ℕ) × (more : List ℕ) × Fits q number text × (bytes ≡ line_bytes number text ++ more)

-- these bytes begin with a last line
abbrev pub BeginsLast : List ℕ → Type 0
BeginsLast bytes = (number : ℕ) × (more : List ℕ) × (number ≤ MAX_NUMBER) × (bytes ≡ last_line number ++ more)

-- a line that was read
pub record IsReadLine (printed : List ℕ) (c : Claim) : Type 0 where
  pub fits : Fits c.request c.number (text_of printed c)
  pub says : SaysWrote printed c
  pub within : IsWithin (length printed) c

-- the bytes from `at` on begin with the line of this request
pub record IsReadAt (printed : List ℕ) (at : ℕ) (blank c : Claim) : Type 0 where
  pub request : claimed_request_of c ≡ claimed_request_of blank
  pub line : c.line ≡ blank.line
  pub read : IsReadLine printed c
  pub ends : c.to < length printed
  pub is : drop at printed ≡ line_bytes c.number (text_of printed c) ++ drop (c.to + 1) printed

-- the bytes of a line that was read
abbrev pub claim_bytes : List ℕ → Claim → List ℕ
claim_bytes printed c = line_bytes c.number (text_of printed c)

-- lines stand one behind the other, from `at` up to `end`: each is its number, a space, its text and LF
abbrev pub StandUpTo : ℕ → List Claim → ℕ → Type 0
StandUpTo at [] end = at ≡ end
StandUpTo at (c ∷ claims) end = (c.from ≡ at + length (decimal c.number) + 1) × StandUpTo (c.to + 1) claims end

-- the printed bytes up to `at` are these lines, those of the requests of the blanks
pub record BeginsWithLines (blanks : List Claim) (printed : List ℕ) (claims : List Claim) (at : ℕ) : Type 0 where
  pub requests : map claimed_request_of claims ≡ map claimed_request_of blanks
  pub numbered : map (λ c. c.line) claims ≡ map (λ c. c.line) blanks
  pub each : All (IsReadLine printed) claims
  pub placed : StandUpTo 0 claims at
  pub inside : at ≤ length printed
  pub is : printed ≡ flat_map (claim_bytes printed) claims ++ drop at printed

-- the lines of the first requests are there, and what follows doesn't begin with one for the next request: its line is named
pub record MissesLine (blanks : List Claim) (printed : List ℕ) (line : ℕ) : Type 0 where
  pub claims : List Claim
  pub at : ℕ
  pub count : ℕ
  pub some : count < length blanks
  pub front : BeginsWithLines (take count blanks) printed claims at
  pub misses : (d : Claim) → BeginsFor (slice_index_or blanks count d).request (drop at printed) → ⊥
  pub named : line ≡ count + 1

-- the lines of all requests are there, and what follows doesn't begin with a last line: its place is named
pub record MissesEnd (blanks : List Claim) (printed : List ℕ) (line : ℕ) : Type 0 where
  pub claims : List Claim
  pub at : ℕ
  pub front : BeginsWithLines blanks printed claims at
  pub misses : BeginsLast (drop at printed) → ⊥
  pub named : line ≡ length blanks + 1

-- the lines of all requests and a last line are there, and bytes follow: the line behind the last one is named
pub record HasSurplus (blanks : List Claim) (printed : List ℕ) (line : ℕ) : Type 0 where
  pub claims : List Claim
  pub last : ℕ
  pub more : List ℕ
  pub front : BeginsWithLines blanks printed claims (length (flat_map (claim_bytes printed) claims))
  pub small : last ≤ MAX_NUMBER
  pub is : printed ≡ flat_map (claim_bytes printed) claims ++ (last_line last ++ more)
  pub some : more ≡ [] → ⊥
  pub named : line ≡ length blanks + 2

-- the printed bytes are these lines, those of the requests of the blanks, and this last line
pub record AreLines (blanks : List Claim) (printed : List ℕ) (claims : List Claim) (last : ℕ) : Type 0 where
  pub requests : map claimed_request_of claims ≡ map claimed_request_of blanks
  pub numbered : map (λ c. c.line) claims ≡ map (λ c. c.line) blanks
  pub each : All (IsReadLine printed) claims
  pub placed : StandUpTo 0 claims (length (flat_map (claim_bytes printed) claims))
  pub small : last ≤ MAX_NUMBER
  pub is : printed ≡ flat_map (claim_bytes printed) claims ++ last_line last

-- the first line that isn't formed as it has to be
abbrev pub IsMisformed : List Claim → List ℕ → ℕ → Type 0
IsMisformed blanks printed line = MissesLine blanks printed line ⊎ (MissesEnd blanks printed line ⊎ HasSurplus blanks printed line)

-- a printed run, read as lines of the requests of the blanks
abbrev pub IsReading : List Claim → List ℕ → Reading → Type 0
IsReading blanks printed (Lines claims last) = AreLines blanks printed claims.items last
IsReading blanks printed (Misformed line) = IsMisformed blanks printed line
