-- The lines at the front of the printed bytes, one more of them, and the last line.
use Rattle.std.proofs.Common.{ℕ, ◌≡◌, ◌+◌, ◌-◌, ◌<◌, ◌≤◌, List, [], ◌∷◌, ◌++◌, length, get_or, map, take, drop, refl, ap, ap₂, sym, ◌∙◌, subst, arith, append_assoc, append-nil}
use Rattle.std.specs.Prelude.{decimal}
use Rattle.std.specs.List.{flat_map}
use Rattle.std.proofs.lemmas.List.{take_more, take_all, drop-drop, length-drop, map-append, get_or_default, drop_all, length-append, drop_at}
use Rattle.std.proofs.lemmas.List.Concat.{flat_map-append}
use Rattle.std.proofs.lemmas.List.Elements.{All-nil, All-push}
use Rattle.tatp_model.specs.OneThread.{IndexedRequest}
use Rattle.tatp_text.specs.Output.{last_line}
use Rattle.dude_audit.specs.declared.claim.Claim.{Claim}
use Rattle.dude_audit.specs.Claim.{text_of, claimed_request_of}
use Rattle.dude_audit.specs.declared.last.Last.{Last}
use Rattle.dude_audit.specs.Last.{BeginsWithLast}
use Rattle.dude_audit.proofs.Texts.{text_size}
use Rattle.dude_audit.specs.Reading.{BeginsFor, BeginsLast, IsReadLine, IsReadAt, claim_bytes, StandUpTo, BeginsWithLines, MissesLine, MissesEnd, HasSurplus, AreLines}

pub front_none : (blanks : List Claim) (printed : List ℕ) → BeginsWithLines (take 0 blanks) printed [] 0
front_none blanks printed = record {
  requests = refl;
  numbered = refl;
  each = All-nil (IsReadLine printed);
  placed = refl;
  inside = omega arith;
  is = refl;
}

-- one more line, behind the others
stand_push : (a : ℕ) (claims : List Claim) (at : ℕ) (c : Claim) → StandUpTo a claims at → c.from ≡ at + length (decimal c.number) + 1 → StandUpTo a (claims ++ c ∷ []) (c.to + 1)
stand_push a [] at c here from = (from ∙ ap (λ (k : ℕ). k + length (decimal c.number) + 1) (sym here), refl)
stand_push a (d ∷ claims) at c stand from = (stand.0, stand_push (d.to + 1) claims at c stand.1 from)

-- the bytes of a number, a space, a text and LF, and those behind them
line_sizes : (number text rest : List ℕ) → length ((number ++ 32 ∷ text ++ 10 ∷ []) ++ rest) ≡ length number + length text + 2 + length rest
line_sizes number text rest =
    omega (arith, length-append (number ++ 32 ∷ text ++ 10 ∷ []) rest, length-append (number ++ 32 ∷ text) (10 ∷ []), length-append number (32 ∷ text))

-- a line's text begins behind its number and a space
begins_behind : (printed : List ℕ) (at : ℕ) (blank c : Claim) → at ≤ length printed → IsReadAt printed at blank c → c.from ≡ at + length (decimal c.number) + 1
begins_behind printed at blank c inside read =
    let text : List ℕ = text_of printed c in
    let rest : List ℕ = drop (c.to + 1) printed in
    let size : length text ≡ c.to - c.from = text_size printed c read.read.within in
    let all : length (drop at printed) ≡ length (decimal c.number) + length text + 2 + length rest = ap length read.is ∙ line_sizes (decimal c.number) text rest in
    let rises = read.read.within.rises in
    let ends = read.ends in
    omega (arith, all, size, rises, ends, inside, length-drop at printed, length-drop (c.to + 1) printed)

map_push : {X Y : Type 0} (f : X → Y) (xs : List X) (x : X) → map f (xs ++ x ∷ []) ≡ map f xs ++ f x ∷ []
map_push f xs x = map-append f xs (x ∷ [])

module _ (blanks : List Claim) (printed : List ℕ) (claims : List Claim) (k at : ℕ) (e : Claim) (some : k < length blanks) (front : BeginsWithLines (take k blanks) printed claims at) where
  pub misses_here : (BeginsFor (get_or blanks k e).request (drop at printed) → ⊥) → MissesLine blanks printed (k + 1)
  misses_here misses = record {
    claims = claims;
    at = at;
    count = k;
    some = some;
    front = front;
    misses = λ d. subst (λ (b : Claim). BeginsFor b.request (drop at printed) → ⊥) (get_or_default blanks k e d some) misses;
    named = refl;
  }

  pub front_more : (c : Claim) → IsReadAt printed at (get_or blanks k e) c → BeginsWithLines (take (k + 1) blanks) printed (claims ++ c ∷ []) (c.to + 1)
  front_more c read = rw (take_more blanks k e some) (record {
    requests = map_push claimed_request_of claims c ∙ ap₂ (λ (l : List IndexedRequest) (r : IndexedRequest). l ++ r ∷ []) front.requests read.request ∙ sym (map_push claimed_request_of (take k blanks) (get_or blanks k e));
    numbered = map_push (λ (c : Claim). c.line) claims c ∙ ap₂ (λ (l : List ℕ) (r : ℕ). l ++ r ∷ []) front.numbered read.line ∙ sym (map_push (λ (c : Claim). c.line) (take k blanks) (get_or blanks k e));
    each = All-push (IsReadLine printed) claims c front.each read.read;
    placed = stand_push 0 claims at c front.placed (begins_behind printed at (get_or blanks k e) c front.inside read);
    inside = let w = read.ends in omega (arith, w);
    is = front.is ∙ ap (λ (l : List ℕ). flat_map (claim_bytes printed) claims ++ l) read.is
        ∙ sym (append_assoc (flat_map (claim_bytes printed) claims) (claim_bytes printed c) (drop (c.to + 1) printed))
        ∙ ap (λ (l : List ℕ). l ++ drop (c.to + 1) printed) (sym (flat_map-append (claim_bytes printed) claims (c ∷ []) ∙ ap (λ (l : List ℕ). flat_map (claim_bytes printed) claims ++ l) (append-nil (claim_bytes printed c))));
  })

module _ (blanks : List Claim) (printed : List ℕ) (claims : List Claim) (k at : ℕ) (all : length blanks ≤ k) (front : BeginsWithLines (take k blanks) printed claims at) where
  whole : BeginsWithLines blanks printed claims at
  whole = subst (λ (l : List Claim). BeginsWithLines l printed claims at) (take_all k blanks all) front

  pub misses_end : (BeginsLast (drop at printed) → ⊥) → MissesEnd blanks printed (length blanks + 1)
  misses_end misses = record { claims = claims; at = at; front = whole; misses = misses; named = refl }

  -- the lines end where they are as long as the bytes so far
  stand : StandUpTo 0 claims (length (flat_map (claim_bytes printed) claims))
  stand =
      let inside = whole.inside in
      let ends : at ≡ length (flat_map (claim_bytes printed) claims) = omega (arith, ap length whole.is, length-append (flat_map (claim_bytes printed) claims) (drop at printed), length-drop at printed, inside) in
      subst (λ (n : ℕ). StandUpTo 0 claims n) ends whole.placed

  rest_is : (last : Last) → BeginsWithLast (drop at printed) last → printed ≡ flat_map (claim_bytes printed) claims ++ (last_line last.number ++ drop (at + last.next) printed)
  rest_is last begins = whole.is ∙ ap (λ (l : List ℕ). flat_map (claim_bytes printed) claims ++ l) (begins.is ∙ ap (λ (l : List ℕ). last_line last.number ++ l) (drop-drop last.next at printed))

  pub surplus : (last : Last) → BeginsWithLast (drop at printed) last → at + last.next < length printed → HasSurplus blanks printed (length blanks + 2)
  surplus last begins less = record {
    claims = claims;
    last = last.number;
    more = drop (at + last.next) printed;
    front = record {
      requests = whole.requests;
      numbered = whole.numbered;
      each = whole.each;
      placed = stand;
      inside = long;
      is = whole.is ∙ ap (λ (l : List ℕ). flat_map (claim_bytes printed) claims ++ l) (sym behind);
    };
    small = begins.small;
    is = rest_is last begins;
    some = λ none. let e : length (drop (at + last.next) printed) ≡ 0 = ap length none in absurd (omega (arith, e, length-drop (at + last.next) printed, less));
    named = refl;
  }
    where
      behind : drop (length (flat_map (claim_bytes printed) claims)) printed ≡ drop at printed
      behind = ap (drop (length (flat_map (claim_bytes printed) claims))) whole.is ∙ drop_at (flat_map (claim_bytes printed) claims) (drop at printed) (length (flat_map (claim_bytes printed) claims)) refl

      long : length (flat_map (claim_bytes printed) claims) ≤ length printed
      long = let e : length printed ≡ length (flat_map (claim_bytes printed) claims ++ drop at printed) = ap length whole.is in omega (arith, e, length-append (flat_map (claim_bytes printed) claims) (drop at printed))

  pub lines_are : (last : Last) → BeginsWithLast (drop at printed) last → length printed ≤ at + last.next → AreLines blanks printed claims last.number
  lines_are last begins none = record {
    requests = whole.requests;
    numbered = whole.numbered;
    each = whole.each;
    placed = stand;
    small = begins.small;
    is = rest_is last begins ∙ ap (λ (l : List ℕ). flat_map (claim_bytes printed) claims ++ l)
        (ap (λ (l : List ℕ). last_line last.number ++ l) (drop_all (at + last.next) printed none) ∙ append-nil (last_line last.number));
  }
