-- Bytes have one verdict at most.
use Rattle.std.proofs.Common.{◌≡◌, ℕ, suc, ◌+◌, ◌<◌, ◌≤◌, Bool, true, false, List, [], ◌∷◌, ◌++◌, length, get_or, map, take, drop, refl, ap, ap₂, sym, ◌∙◌, subst, arith, inl, inr, ◌⊎◌, ⊎_elim, append_assoc, append-nil}
use Rattle.std.specs.Prelude.{decimal, IsTrue}
use Rattle.std.specs.List.{All, flat_map}
use Rattle.std.proofs.lemmas.Bool.{cases_lt}
use Rattle.std.proofs.lemmas.List.{take-map, length-map, get_or-map, get_or-take, length-take, take_all}
use Rattle.std.proofs.lemmas.List.Elements.{All-head, All-tail}
use Rattle.dude_base.specs.declared.limits.TheConstants.{MAX_NUMBER}
use Rattle.tatp_model.specs.declared.request.Request.{Request}
use Rattle.tatp_model.specs.Database.{Database}
use Rattle.tatp_model.specs.OneThread.{IndexedRequest, indexed_requests_from}
use Rattle.tatp_text.specs.Output.{last_line}
use Rattle.dude_audit.specs.declared.claim.Claim.{Claim}
use Rattle.dude_audit.specs.Blanks.{AreBlanks}
use Rattle.dude_audit.specs.Claim.{text_of, claimed_request_of, may_write}
use Rattle.dude_audit.specs.Reading.{BeginsFor, BeginsLast, IsReadLine, claim_bytes, StandUpTo, AreLines, IsMisformed}
use Rattle.dude_audit.proofs.Lined.{line_unique}
use Rattle.dude_audit.proofs.Texts.{text_size}
use Rattle.dude_audit.specs.declared.verdict.Verdict.{Verdict}
use Rattle.dude_audit.specs.declared.verdict.Verdict.TheVariants.{Yes, No}
use Rattle.dude_audit.specs.Verdict.{HasVerdict}
use Rattle.dude_audit.specs.PrintedRun.{IsVerdict, HasReadVerdict}
use Rattle.dude_audit.proofs.Printing.{last_same}
use Rattle.dude_audit.proofs.Necessary.{any_claim}
use Rattle.dude_audit.proofs.OneReason.{one_of}

both_same : (a b : Bool) → (a ≡ true → b ≡ true) → (b ≡ true → a ≡ true) → a ≡ b
both_same true b there back = sym (there refl)
both_same false true there back = back refl
both_same false false there back = refl

module _ (printed : List ℕ) where
  -- two lines at the front of the same bytes are one
  agree : (c d : Claim) (xs ys : List ℕ) → IsReadLine printed c → IsReadLine printed d → claim_bytes printed c ++ xs ≡ claim_bytes printed d ++ ys
      → (c.number ≡ d.number) × (text_of printed c ≡ text_of printed d) × (xs ≡ ys)
  agree c d xs ys rc rd is = line_unique c.number d.number (text_of printed c) (text_of printed d) xs ys rc.fits.small rd.fits.small rc.fits.whole rd.fits.whole is

  split : (c d : Claim) (cs ds : List Claim) (xs ys : List ℕ) → flat_map (claim_bytes printed) (c ∷ cs) ++ xs ≡ flat_map (claim_bytes printed) (d ∷ ds) ++ ys
      → claim_bytes printed c ++ (flat_map (claim_bytes printed) cs ++ xs) ≡ claim_bytes printed d ++ (flat_map (claim_bytes printed) ds ++ ys)
  split c d cs ds xs ys is =
      sym (append_assoc (claim_bytes printed c) (flat_map (claim_bytes printed) cs) xs) ∙ is ∙ append_assoc (claim_bytes printed d) (flat_map (claim_bytes printed) ds) ys

  -- behind as many lines stands the same
  same_rest : (cs ds : List Claim) (xs ys : List ℕ) → length cs ≡ length ds → All (IsReadLine printed) cs → All (IsReadLine printed) ds
      → flat_map (claim_bytes printed) cs ++ xs ≡ flat_map (claim_bytes printed) ds ++ ys → xs ≡ ys
  same_rest [] [] xs ys long rc rd is = is
  same_rest [] (d ∷ ds) xs ys long rc rd is = absurd (omega (arith, long))
  same_rest (c ∷ cs) [] xs ys long rc rd is = absurd (omega (arith, long))
  same_rest (c ∷ cs) (d ∷ ds) xs ys long rc rd is =
      let one = agree c d _ _ (All-head (IsReadLine printed) c cs rc) (All-head (IsReadLine printed) d ds rd) (split c d cs ds xs ys is) in
      same_rest cs ds xs ys (omega (arith, long)) (All-tail (IsReadLine printed) c cs rc) (All-tail (IsReadLine printed) d ds rd) one.2

  -- behind fewer lines stands the next one
  ahead : (cs ds : List Claim) (xs ys : List ℕ) (e : Claim) → length cs < length ds → All (IsReadLine printed) cs → All (IsReadLine printed) ds
      → flat_map (claim_bytes printed) cs ++ xs ≡ flat_map (claim_bytes printed) ds ++ ys → BeginsFor (get_or ds (length cs) e).request xs
  ahead cs [] xs ys e fewer rc rd is = absurd (omega (arith, fewer))
  ahead [] (d ∷ ds) xs ys e fewer rc rd is =
      (d.number, text_of printed d, flat_map (claim_bytes printed) ds ++ ys, (All-head (IsReadLine printed) d ds rd).fits, is ∙ append_assoc (claim_bytes printed d) (flat_map (claim_bytes printed) ds) ys)
  ahead (c ∷ cs) (d ∷ ds) xs ys e fewer rc rd is =
      let one = agree c d _ _ (All-head (IsReadLine printed) c cs rc) (All-head (IsReadLine printed) d ds rd) (split c d cs ds xs ys is) in
      ahead cs ds xs ys e (omega (arith, fewer)) (All-tail (IsReadLine printed) c cs rc) (All-tail (IsReadLine printed) d ds rd) one.2

  -- two lines of one request at one place, with one number and one text, are one
  one_claim : (at : ℕ) (c d : Claim) → claimed_request_of c ≡ claimed_request_of d → c.line ≡ d.line → IsReadLine printed c → IsReadLine printed d
      → c.from ≡ at + length (decimal c.number) + 1 → d.from ≡ at + length (decimal d.number) + 1 → c.number ≡ d.number → text_of printed c ≡ text_of printed d → c ≡ d
  one_claim at c d request line rc rd from from' number text =
      let asked : c.request ≡ d.request = ap (λ (r : IndexedRequest). r.request) request in
      let froms : c.from ≡ d.from = from ∙ ap (λ (n : ℕ). at + length (decimal n) + 1) number ∙ sym from' in
      let rises = rc.within.rises in
      let rises' = rd.within.rises in
      let tos : c.to ≡ d.to = omega (arith, froms, rises, rises', text_size printed c rc.within, text_size printed d rd.within, ap length text) in
      let wrote : c.wrote ≡ d.wrote =
      both_same c.wrote d.wrote
      (λ w. let s = rc.says.0 w in rd.says.1 (subst (λ (q : Request). IsTrue (may_write q)) asked s.0, sym text ∙ s.1))
      (λ w. let s = rd.says.0 w in rc.says.1 (subst (λ (q : Request). IsTrue (may_write q)) (sym asked) s.0, text ∙ s.1)) in
      λ i. record {
        file = ap (λ (r : IndexedRequest). r.file) request i;
        index = ap (λ (r : IndexedRequest). r.index) request i;
        request = asked i;
        number = number i;
        wrote = wrote i;
        line = line i;
        from = froms i;
        to = tos i;
      }

  same_claims : (at : ℕ) (cs ds : List Claim) (e f : ℕ) (xs ys : List ℕ) → map claimed_request_of cs ≡ map claimed_request_of ds → map (λ (c : Claim). c.line) cs ≡ map (λ (c : Claim). c.line) ds
      → All (IsReadLine printed) cs → All (IsReadLine printed) ds → StandUpTo at cs e → StandUpTo at ds f
      → flat_map (claim_bytes printed) cs ++ xs ≡ flat_map (claim_bytes printed) ds ++ ys → cs ≡ ds
  same_claims at [] [] e f xs ys requests lines rc rd sc sd is = refl
  same_claims at [] (d ∷ ds) e f xs ys requests lines rc rd sc sd is = let l = ap length requests in absurd (omega (arith, l))
  same_claims at (c ∷ cs) [] e f xs ys requests lines rc rd sc sd is = let l = ap length requests in absurd (omega (arith, l))
  same_claims at (c ∷ cs) (d ∷ ds) e f xs ys requests lines rc rd sc sd is =
      let here = All-head (IsReadLine printed) c cs rc in
      let there = All-head (IsReadLine printed) d ds rd in
      let one = agree c d _ _ here there (split c d cs ds xs ys is) in
      let request : claimed_request_of c ≡ claimed_request_of d = ap (λ (l : List IndexedRequest). get_or l 0 (claimed_request_of c)) requests in
      let line : c.line ≡ d.line = ap (λ (l : List ℕ). get_or l 0 0) lines in
      let same : c ≡ d = one_claim at c d request line here there sc.0 sd.0 one.0 one.1 in
      let others : map claimed_request_of cs ≡ map claimed_request_of ds = ap (drop 1) requests in
      let other_lines : map (λ (c : Claim). c.line) cs ≡ map (λ (c : Claim). c.line) ds = ap (drop 1) lines in
      let stand : StandUpTo (c.to + 1) ds f = subst (λ (x : Claim). StandUpTo (x.to + 1) ds f) (sym same) sd.1 in
      ap₂ (λ (x : Claim) (l : List Claim). x ∷ l) same (same_claims (c.to + 1) cs ds e f xs ys others other_lines (All-tail (IsReadLine printed) c cs rc) (All-tail (IsReadLine printed) d ds rd) sc.1 stand one.2)

-- ---- how far bytes are lines of requests

-- the printed bytes begin with lines of the first requests, and go on so
record Reads (asked : List IndexedRequest) (printed : List ℕ) (count : ℕ) (rest : List ℕ) : Type 0 where
  claims : List Claim
  requests : map claimed_request_of claims ≡ take count asked
  each : All (IsReadLine printed) claims
  is : printed ≡ flat_map (claim_bytes printed) claims ++ rest

record StopsAt (asked : List IndexedRequest) (printed : List ℕ) (line : ℕ) : Type 0 where
  count : ℕ
  rest : List ℕ
  reads : Reads asked printed count rest
  some : count < length asked
  misses : (e : IndexedRequest) → BeginsFor (get_or asked count e).request rest → ⊥
  named : line ≡ count + 1

record StopsBehind (asked : List IndexedRequest) (printed : List ℕ) (line : ℕ) : Type 0 where
  rest : List ℕ
  reads : Reads asked printed (length asked) rest
  misses : BeginsLast rest → ⊥
  named : line ≡ length asked + 1

record GoesOn (asked : List IndexedRequest) (printed : List ℕ) (line : ℕ) : Type 0 where
  last : ℕ
  more : List ℕ
  small : last ≤ MAX_NUMBER
  reads : Reads asked printed (length asked) (last_line last ++ more)
  some : more ≡ [] → ⊥
  named : line ≡ length asked + 2

record IsWhole (asked : List IndexedRequest) (printed : List ℕ) (last : ℕ) : Type 0 where
  small : last ≤ MAX_NUMBER
  reads : Reads asked printed (length asked) (last_line last)

module _ (asked : List IndexedRequest) (printed : List ℕ) where
  long : (count : ℕ) (rest : List ℕ) (r : Reads asked printed count rest) → count ≤ length asked → length r.claims ≡ count
  long count rest r within = omega (arith, ap length r.requests, length-map r.claims claimed_request_of, length-take count asked, within)

  met : (count : ℕ) (xs ys : List ℕ) → Reads asked printed count xs → Reads asked printed count ys → count ≤ length asked → xs ≡ ys
  met count xs ys r s within =
      same_rest printed r.claims s.claims xs ys (long count xs r within ∙ sym (long count ys s within)) r.each s.each (sym r.is ∙ s.is)

  further : (line m : ℕ) (ys : List ℕ) (stop : StopsAt asked printed line) → Reads asked printed m ys → stop.count < m → m ≤ length asked → ⊥
  further line m ys stop s fewer within =
      let r = stop.reads in
      let k : ℕ = stop.count in
      let some = stop.some in
      let size : length r.claims ≡ k = long k stop.rest r (omega (arith, some)) in
      let size' : length s.claims ≡ m = long m ys s within in
      let there : k < length s.claims = omega (arith, size', fewer) in
      let next = ahead printed r.claims s.claims stop.rest ys any_claim (omega (arith, size, there)) r.each s.each (sym r.is ∙ s.is) in
      let e : IndexedRequest = claimed_request_of any_claim in
      let request : (get_or s.claims (length r.claims) any_claim).request ≡ (get_or asked k e).request =
      ap (λ (n : ℕ). (get_or s.claims n any_claim).request) size
      ∙ ap (λ (q : IndexedRequest). q.request) (sym (get_or-map claimed_request_of s.claims k any_claim e there) ∙ ap (λ (l : List IndexedRequest). get_or l k e) s.requests ∙ get_or-take m asked k e fewer) in
      stop.misses e (subst (λ (q : Request). BeginsFor q stop.rest) request next)

  at_same : (l m : ℕ) → StopsAt asked printed l → StopsAt asked printed m → l ≡ m
  at_same l m s t =
      let some = s.some in
      let some' = t.some in
      let a = s.named in
      let b = t.named in
      ⊎_elim (λ lt. absurd (further l t.count t.rest s t.reads lt (omega (arith, some'))))
      (λ ge. ⊎_elim (λ lt. absurd (further m s.count s.rest t s.reads lt (omega (arith, some)))) (λ le. omega (arith, ge, le, a, b)) (cases_lt t.count s.count)) (cases_lt s.count t.count)

  at_not_whole : (l : ℕ) (ys : List ℕ) → StopsAt asked printed l → Reads asked printed (length asked) ys → ⊥
  at_not_whole l ys s r = further l (length asked) ys s r s.some (omega arith)

  behind_not_last : (l last : ℕ) (more : List ℕ) → StopsBehind asked printed l → Reads asked printed (length asked) (last_line last ++ more) → last ≤ MAX_NUMBER → ⊥
  behind_not_last l last more s r small = s.misses (last, more, small, met (length asked) s.rest (last_line last ++ more) s.reads r (omega arith))

  with_nothing : (last : ℕ) → Reads asked printed (length asked) (last_line last) → Reads asked printed (length asked) (last_line last ++ [])
  with_nothing last r = subst (λ (xs : List ℕ). Reads asked printed (length asked) xs) (sym (append-nil (last_line last))) r

  goes_not_whole : (l last : ℕ) → GoesOn asked printed l → IsWhole asked printed last → ⊥
  goes_not_whole l last g w =
      g.some (last_same g.last last g.more [] g.small w.small (met (length asked) (last_line g.last ++ g.more) (last_line last ++ []) g.reads (with_nothing last w.reads) (omega arith))).1

  -- where the form is wrong
  abbrev Stops : ℕ → Type 0
  Stops line = StopsAt asked printed line ⊎ (StopsBehind asked printed line ⊎ GoesOn asked printed line)

  one_form : (l m : ℕ) → Stops l → Stops m → l ≡ m
  one_form l m a b =
      ⊎_elim
      (λ at. ⊎_elim (λ at'. at_same l m at at')
      (λ other. ⊎_elim (λ behind. absurd (at_not_whole l behind.rest at behind.reads)) (λ goes. absurd (at_not_whole l (last_line goes.last ++ goes.more) at goes.reads)) other) b)
      (λ first. ⊎_elim
      (λ behind. ⊎_elim (λ at'. absurd (at_not_whole m behind.rest at' behind.reads))
      (λ other. ⊎_elim (λ behind'. behind.named ∙ sym behind'.named) (λ goes. absurd (behind_not_last l goes.last goes.more behind goes.reads goes.small)) other) b)
      (λ goes. ⊎_elim (λ at'. absurd (at_not_whole m (last_line goes.last ++ goes.more) at' goes.reads))
      (λ other. ⊎_elim (λ behind'. absurd (behind_not_last m goes.last goes.more behind' goes.reads goes.small)) (λ goes'. goes.named ∙ sym goes'.named) other) b)
      first) a

  stops_not_whole : (l last : ℕ) → Stops l → IsWhole asked printed last → ⊥
  stops_not_whole l last a w =
      ⊎_elim (λ at. at_not_whole l (last_line last) at w.reads)
      (λ other. ⊎_elim (λ behind. behind_not_last l last [] behind (with_nothing last w.reads) w.small) (λ goes. goes_not_whole l last goes w) other) a

module _ (files : List (List Request)) (printed : List ℕ) where
  abbrev asked_in : List IndexedRequest
  asked_in = indexed_requests_from 0 files

  all_of : (blanks claims : List Claim) → AreBlanks files blanks → map claimed_request_of claims ≡ map claimed_request_of blanks → map claimed_request_of claims ≡ take (length asked_in) asked_in
  all_of blanks claims are same = same ∙ are.requests ∙ sym (take_all (length asked_in) asked_in (omega arith))

  long_as : (blanks : List Claim) → AreBlanks files blanks → length blanks ≡ length asked_in
  long_as blanks are = sym (length-map blanks claimed_request_of) ∙ ap length are.requests

  stops_from : (blanks : List Claim) (line : ℕ) → AreBlanks files blanks → IsMisformed blanks printed line → Stops asked_in printed line
  stops_from blanks line are form =
      ⊎_elim
      (λ miss. inl (record {
        count = miss.count;
        rest = drop miss.at printed;
        reads = record {
          claims = miss.claims;
          requests = miss.front.requests ∙ sym (take-map claimed_request_of miss.count blanks) ∙ ap (take miss.count) are.requests;
          each = miss.front.each;
          is = miss.front.is;
        };
        some = (let some = miss.some in omega (arith, some, long_as blanks are));
        misses = λ e begins. miss.misses any_claim (subst (λ (q : Request). BeginsFor q (drop miss.at printed))
            (ap (λ (q : IndexedRequest). q.request) (ap (λ (l : List IndexedRequest). get_or l miss.count e) (sym are.requests) ∙ get_or-map claimed_request_of blanks miss.count any_claim e miss.some)) begins);
        named = miss.named;
      }))
      (λ other. inr (⊎_elim
      (λ miss. inl (record {
        rest = drop miss.at printed;
        reads = record { claims = miss.claims; requests = all_of blanks miss.claims are miss.front.requests; each = miss.front.each; is = miss.front.is };
        misses = miss.misses;
        named = miss.named ∙ ap (λ (n : ℕ). n + 1) (long_as blanks are);
      }))
      (λ more. inr (record {
        last = more.last;
        more = more.more;
        small = more.small;
        reads = record { claims = more.claims; requests = all_of blanks more.claims are more.front.requests; each = more.front.each; is = more.is };
        some = more.some;
        named = more.named ∙ ap (λ (n : ℕ). n + 2) (long_as blanks are);
      })) other)) form

  whole_from : (blanks claims : List Claim) (last : ℕ) → AreBlanks files blanks → AreLines blanks printed claims last → IsWhole asked_in printed last
  whole_from blanks claims last are lines = record {
    small = lines.small;
    reads = record { claims = claims; requests = all_of blanks claims are lines.requests; each = lines.each; is = lines.is };
  }

  lines_same : (n : ℕ) (us bs : List Claim) → length us ≡ length bs → ((j : ℕ) (d : Claim) → j < length us → (get_or us j d).line ≡ j + n) → ((j : ℕ) (d : Claim) → j < length bs → (get_or bs j d).line ≡ j + n)
      → map (λ (c : Claim). c.line) us ≡ map (λ (c : Claim). c.line) bs
  lines_same n [] [] long na nb = refl
  lines_same n [] (b ∷ bs) long na nb = absurd (omega (arith, long))
  lines_same n (a ∷ us) [] long na nb = absurd (omega (arith, long))
  lines_same n (a ∷ us) (b ∷ bs) long na nb =
      ap₂ (λ (x : ℕ) (l : List ℕ). x ∷ l) (na 0 a (omega arith) ∙ sym (nb 0 b (omega arith)))
      (lines_same (suc n) us bs (omega (arith, long)) (λ j d within. na (suc j) d (omega (arith, within)) ∙ omega arith) (λ j d within. nb (suc j) d (omega (arith, within)) ∙ omega arith))

  -- the bytes are lines of the requests in one way
  one_reading : (us bs : List Claim) (cs ds : List Claim) (m n : ℕ) → AreBlanks files us → AreBlanks files bs → AreLines us printed cs m → AreLines bs printed ds n → (cs ≡ ds) × (m ≡ n)
  one_reading us bs cs ds m n are are' lines lines' =
      let requests : map claimed_request_of cs ≡ map claimed_request_of ds = lines.requests ∙ are.requests ∙ sym are'.requests ∙ sym lines'.requests in
      let numbers : map (λ (c : Claim). c.line) cs ≡ map (λ (c : Claim). c.line) ds =
      lines.numbered ∙ lines_same 1 us bs (long_as us are ∙ sym (long_as bs are')) are.numbered are'.numbered ∙ sym lines'.numbered in
      let bytes = sym lines.is ∙ lines'.is in
      let long : length cs ≡ length ds = sym (length-map cs claimed_request_of) ∙ ap length requests ∙ length-map ds claimed_request_of in (
        same_claims printed 0 cs ds _ _ (last_line m) (last_line n) requests numbers lines.each lines'.each lines.placed lines'.placed bytes,
        (last_same m n [] [] lines.small lines'.small (ap (λ (l : List ℕ). l ++ []) (same_rest printed cs ds (last_line m) (last_line n) long lines.each lines'.each bytes))).0,
      )

  module _ (first limit : ℕ) (db : Database) where
    one_read : (us bs : List Claim) (v w : Verdict) → AreBlanks files us → AreBlanks files bs → HasReadVerdict first limit db us printed v → HasReadVerdict first limit db bs printed w → v ≡ w
    one_read us bs v w are are' a b =
        let same = one_reading us bs a.claims b.claims a.last b.last are are' a.lines b.lines in
        one_of first limit db printed b.claims b.last v w (subst (λ (l : List Claim). HasVerdict first limit db printed l b.last v) same.0 (subst (λ (n : ℕ). HasVerdict first limit db printed a.claims n v) same.1 a.verdict)) b.verdict

    not_both : (us bs : List Claim) (l : ℕ) (w : Verdict) → AreBlanks files us → AreBlanks files bs → IsMisformed us printed l → HasReadVerdict first limit db bs printed w → ⊥
    not_both us bs l w are are' form b = stops_not_whole asked_in printed l b.last (stops_from us l are form) (whole_from bs b.claims b.last are' b.lines)

    pub one_verdict : (v w : Verdict) → IsVerdict first limit db files printed v → IsVerdict first limit db files printed w → v ≡ w
    one_verdict Yes Yes a b = refl
    one_verdict Yes (No m) a b = ⊎_elim (λ form. absurd (not_both b.blanks a.blanks m Yes b.are a.are form a.verdict)) (λ read. one_read a.blanks b.blanks Yes (No m) a.are b.are a.verdict read) b.verdict
    one_verdict (No l) Yes a b = ⊎_elim (λ form. absurd (not_both a.blanks b.blanks l Yes a.are b.are form b.verdict)) (λ read. one_read a.blanks b.blanks (No l) Yes a.are b.are read b.verdict) a.verdict
    one_verdict (No l) (No m) a b =
        ⊎_elim
        (λ form. ⊎_elim (λ form'. ap No (one_form asked_in printed l m (stops_from a.blanks l a.are form) (stops_from b.blanks m b.are form')))
        (λ read. absurd (not_both a.blanks b.blanks l (No m) a.are b.are form read)) b.verdict)
        (λ read. ⊎_elim (λ form'. absurd (not_both b.blanks a.blanks m (No l) b.are a.are form' read))
        (λ read'. one_read a.blanks b.blanks (No l) (No m) a.are b.are read read') b.verdict) a.verdict
