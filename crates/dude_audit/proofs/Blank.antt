-- The requests of files, one more at the end.
use Rattle.std.proofs.Common.{ℕ, zero, suc, ◌≡◌, ◌+◌, ◌<◌, ◌≤◌, List, [], ◌∷◌, ◌++◌, length, get_or, map, take, ap, ap₂, sym, ◌∙◌, arith, append_assoc, append-nil, ⊎_elim}
use Rattle.std.specs.List.{enumerate_from}
use Rattle.std.specs.Global.{Vec}
use Rattle.std.proofs.lemmas.Bool.{cases_lt}
use Rattle.std.proofs.lemmas.List.{take_more, take_all, map_push, length-take, length-map, get_or-map, get_or_append_left, length-append}
use Rattle.std.proofs.Math.Seq.{get_or-append_seam}
use Rattle.tatp_model.specs.declared.request.Request.{Request}
use Rattle.tatp_model.specs.OneThread.{IndexedRequest, indexed_requests_from}
use Rattle.dude_audit.specs.declared.claim.Claim.{Claim}
use Rattle.dude_audit.specs.Claim.{claimed_request_of}
use Rattle.tatp_model.specs.Files.{requests_in}

abbrev pub in_file : ℕ → List Request → List IndexedRequest
in_file file requests = map (λ r. record { file = file; index = r.0; request = r.1 }) (enumerate_from 0 requests)

enumerate_push : (a : ℕ) (xs : List Request) (x : Request) → enumerate_from a (xs ++ x ∷ []) ≡ enumerate_from a xs ++ (a + length xs, x) ∷ []
enumerate_push a [] x = let e : a ≡ a + 0 = omega arith in ap (λ (k : ℕ). (k, x) ∷ []) e
enumerate_push a (y ∷ xs) x = let e : a + 1 + length xs ≡ a + suc (length xs) = omega arith in
    ap (λ l. (a, y) ∷ l) (enumerate_push (a + 1) xs x ∙ ap (λ (k : ℕ). enumerate_from (a + 1) xs ++ (k, x) ∷ []) e)

pub in_file_more : (file : ℕ) (requests : List Request) (i : ℕ) (e : Request) → i < length requests
    → in_file file (take (i + 1) requests) ≡ in_file file (take i requests) ++ record { file = file; index = i; request = get_or requests i e } ∷ []
in_file_more file requests i e within =
    let n : 0 + length (take i requests) ≡ i = omega (arith, length-take i requests, within) in
    let make : ℕ × Request → IndexedRequest = λ r. record { file = file; index = r.0; request = r.1 } in
    ap (in_file file) (take_more requests i e within)
    ∙ ap (map make) (enumerate_push 0 (take i requests) (get_or requests i e))
    ∙ map_push make (enumerate_from 0 (take i requests)) (0 + length (take i requests), get_or requests i e)
    ∙ ap (λ (k : ℕ). in_file file (take i requests) ++ record { file = file; index = k; request = get_or requests i e } ∷ []) n

indexed_push : (file : ℕ) (files : List (List Request)) (r : List Request) → indexed_requests_from file (files ++ r ∷ []) ≡ indexed_requests_from file files ++ in_file (file + length files) r
indexed_push file [] r = let e : file ≡ file + 0 = omega arith in append-nil (in_file file r) ∙ ap (λ (k : ℕ). in_file k r) e
indexed_push file (f ∷ files) r =
    let e : file + 1 + length files ≡ file + suc (length files) = omega arith in
    ap (λ l. in_file file f ++ l) (indexed_push (file + 1) files r ∙ ap (λ (k : ℕ). indexed_requests_from (file + 1) files ++ in_file k r) e)
    ∙ sym (append_assoc (in_file file f) (indexed_requests_from (file + 1) files) (in_file (file + suc (length files)) r))

pub files_more : (files : List (List Request)) (k : ℕ) (e : List Request) → k < length files
    → indexed_requests_from 0 (take (k + 1) files) ≡ indexed_requests_from 0 (take k files) ++ in_file k (get_or files k e)
files_more files k e within =
    let n : 0 + length (take k files) ≡ k = omega (arith, length-take k files, within) in
    ap (indexed_requests_from 0) (take_more files k e within) ∙ indexed_push 0 (take k files) (get_or files k e)
    ∙ ap (λ (j : ℕ). indexed_requests_from 0 (take k files) ++ in_file j (get_or files k e)) n

file_there : (files : List (Vec Request)) (k : ℕ) (v : Vec Request) → k < length files → v ≡ get_or files k v → get_or (requests_in files) k [] ≡ v.items
file_there files k v within is = get_or-map (λ (v : Vec Request). v.items) files k v [] within ∙ ap (λ (v : Vec Request). v.items) (sym is)

module _ (files : List (Vec Request)) (k : ℕ) (v : Vec Request) (within : k < length files) (is : v ≡ get_or files k v) where
  -- a file's end
  pub next_file : (blanks : List Claim) (i : ℕ) → length v.items ≤ i → map claimed_request_of blanks ≡ indexed_requests_from 0 (take k (requests_in files)) ++ in_file k (take i (get_or (requests_in files) k []))
      → map claimed_request_of blanks ≡ indexed_requests_from 0 (take (k + 1) (requests_in files))
  next_file blanks i all so =
      let there : length (get_or (requests_in files) k []) ≤ i = rw (file_there files k v within is) all in
      let inside : k < length (requests_in files) = omega (arith, within, length-map files (λ (v : Vec Request). v.items)) in
      so ∙ ap (λ l. indexed_requests_from 0 (take k (requests_in files)) ++ in_file k l) (take_all i (get_or (requests_in files) k []) there) ∙ sym (files_more (requests_in files) k [] inside)

  -- one request more
  pub next_request : (blanks : List Claim) (i : ℕ) (e : Request) (c : Claim) → i < length v.items → claimed_request_of c ≡ record { file = k; index = i; request = get_or v.items i e }
      → map claimed_request_of blanks ≡ indexed_requests_from 0 (take k (requests_in files)) ++ in_file k (take i (get_or (requests_in files) k []))
      → map claimed_request_of (blanks ++ c ∷ []) ≡ indexed_requests_from 0 (take k (requests_in files)) ++ in_file k (take (i + 1) (get_or (requests_in files) k []))
  next_request blanks i e c inside about so =
      let there : get_or (requests_in files) k [] ≡ v.items = file_there files k v within is in
      let less : i < length (get_or (requests_in files) k []) = rw there inside in
      let about' : claimed_request_of c ≡ record { file = k; index = i; request = get_or (get_or (requests_in files) k []) i e } = rw there about in
      map_push claimed_request_of blanks c ∙ ap₂ (λ l r. l ++ r ∷ []) so about'
      ∙ append_assoc (indexed_requests_from 0 (take k (requests_in files))) (in_file k (take i (get_or (requests_in files) k []))) (record { file = k; index = i; request = get_or (get_or (requests_in files) k []) i e } ∷ [])
      ∙ ap (λ l. indexed_requests_from 0 (take k (requests_in files)) ++ l) (sym (in_file_more k (get_or (requests_in files) k []) i e less))

pub numbered_more : (blanks : List Claim) (c : Claim) → c.line ≡ length blanks + 1 → ((j : ℕ) (d : Claim) → j < length blanks → (get_or blanks j d).line ≡ j + 1) → (j : ℕ) (d : Claim) → j < length (blanks ++ c ∷ []) → (get_or (blanks ++ c ∷ []) j d).line ≡ j + 1
numbered_more [] c is so zero d within = is
numbered_more [] c is so (suc j) d within = absurd (omega (arith, within))
numbered_more (b ∷ blanks) c is so zero d within = so zero d (omega arith)
numbered_more (b ∷ blanks) c is so (suc j) d within =
    ⊎_elim
    (λ less. rw (get_or_append_left blanks (c ∷ []) d j less) (so (suc j) d (omega (arith, less))))
    (λ ge. let same : length blanks ≡ j = omega (arith, ge, within, length-append blanks (c ∷ [])) in
    rw (← same, get_or-append_seam blanks c [] d) (is ∙ omega arith))
    (cases_lt j (length blanks))
