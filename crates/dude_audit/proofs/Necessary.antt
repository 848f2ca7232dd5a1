-- The lines of a run that one thread gives pass.
use Rattle.std.proofs.Common.{◌≡◌, ℕ, zero, suc, ◌<◌, ◌≤◌, Bool, true, false, not, cond, List, [], ◌∷◌, length, get_or, set, map, take, refl, ap, ap₂, sym, ◌∙◌, subst, arith, ◌⊎◌, ⊎_elim}
use Rattle.std.specs.Prelude.{IsPermutation}
use Rattle.std.specs.List.{All, AllZip, AllPairs, Contains, filter, swap}
use Rattle.std.proofs.lemmas.Bool.{both_ways, cases_Bool, not_from_false, false_from_ne_true}
use Rattle.std.proofs.lemmas.List.{get_or-take, length-take, length-map, get_or-map, get_or_default, map-set}
use Rattle.std.proofs.Math.ListN.{get_or-map as each_there}
use Rattle.std.proofs.lemmas.List.Elements.{All-nil, All-cons, All-head, All-tail, All-map, All-weaker, All-contains, All-contains_itself, All-filter, Contains-get_or}
use Rattle.std.proofs.lemmas.List.Kept.{AllPairs-cons}
use Rattle.std.proofs.lemmas.List.Sorted.{IsPermutation-map, IsPermutation-refl, IsPermutation-sym, IsPermutation-trans, IsPermutation-swap, IsPermutation-keeps, All-permutation, Contains-permutation}
use Rattle.tatp_model.specs.declared.request.Request.{Request}
use Rattle.tatp_model.specs.declared.request.Request.TheVariants.{Sync}
use Rattle.tatp_model.specs.declared.reply.Reply.TheVariants.{Durable}
use Rattle.tatp_model.specs.declared.done.Done.{Done}
use Rattle.tatp_model.specs.Database.{Database}
use Rattle.tatp_model.specs.Transaction.{reply_to, after_request}
use Rattle.tatp_model.specs.OneThread.{is_sync, is_changed, IndexedRequest, PrecedesInFiles, Precedes, RepliesAlong}
use Rattle.tatp_model.proofs.PrintedOrder.{same_from_order, Precedes-asymmetric}
use Rattle.run_order.proofs.Pairs.{pairs_nil, pairs_head, pairs_tail, pairs_mapped, pairs_unmapped, pairs_among, one_or_other}
use Rattle.run_order.proofs.Elements.{contains_filter}
use Rattle.run_order.proofs.FileOrder.{in_files_from_holding}
use Rattle.tatp_text.specs.Reply.{reply_text}
use Rattle.dude_audit.specs.declared.claim.Claim.{Claim}
use Rattle.dude_audit.specs.Claim.{text_of, claims_sync, SaysWrote}
use Rattle.dude_audit.specs.Order.{done_of, ClaimPrecedes, IsClaimOrder}
use Rattle.dude_audit.specs.Walk.{TextsAlong, after_claims}
use Rattle.dude_audit.specs.Rules.{IsFollowedBy, AreRuled}
use Rattle.dude_audit.proofs.OneThreadRuns.{AreClaims, IsLineOf, IsOneThreadRun}
use Rattle.dude_audit.specs.Verdict.{Passes, HasVerdict}
use Rattle.dude_audit.specs.declared.verdict.Verdict.TheVariants.{No}
use Rattle.dude_audit.proofs.Replies.{wrote_is, may_no_sync}
use Rattle.dude_audit.proofs.Passing.{IsBehind, kept_or_not, filter_map_same}

-- ---- lists

map_swap : {X Y : Type 0} (f : X → Y) (xs : List X) (i j : ℕ) → i < length xs → j < length xs → map f (swap xs i j) ≡ swap (map f xs) i j
map_swap f [] i j within within' = refl
map_swap f (x ∷ xs) i j within within' =
    map-set f (set (x ∷ xs) i (get_or (x ∷ xs) j x)) j (get_or (x ∷ xs) i x) ∙ ap (λ l. set l j (f (get_or (x ∷ xs) i x))) (map-set f (x ∷ xs) i (get_or (x ∷ xs) j x))
    ∙ ap₂ (λ u v. set (set (map f (x ∷ xs)) i u) j v) (sym (each_there f (x ∷ xs) j x)) (sym (each_there f (x ∷ xs) i x))

-- a list whose images stand in another order, in that order
pub record Lifted {P X : Type 0} (f : P → X) (ps : List P) (ys : List X) : Type 0 where
  pub list : List P
  pub same : IsPermutation ps list
  pub is : map f list ≡ ys

lift : {P X : Type 0} (f : P → X) (ps : List P) (ys : List X) → IsPermutation (map f ps) ys → Lifted f ps ys
lift f ps ys same =
    IsPermutation-keeps (map f ps) (Lifted f ps) (record { list = ps; same = IsPermutation-refl ps; is = refl })
    (λ l i j a b so.
    let a' : i < length so.list = omega (arith, a, ap length so.is, length-map so.list f) in
    let b' : j < length so.list = omega (arith, b, ap length so.is, length-map so.list f) in
    record {
      list = swap so.list i j;
      same = IsPermutation-trans ps so.list (swap so.list i j) so.same (IsPermutation-swap so.list (swap so.list i j) i j a' b' refl);
      is = map_swap f so.list i j a' b' ∙ ap (λ z. swap z i j) so.is;
    }) ys same

filter_map_all : {X Y : Type 0} (f : X → Y) (p : Y → Bool) (q : X → Bool) (xs : List X) → All (λ x. p (f x) ≡ q x) xs → filter p (map f xs) ≡ map f (filter q xs)
filter_map_all f p q [] same = refl
filter_map_all f p q (x ∷ xs) same =
    kept_or_not f x (filter q xs) (filter p (map f xs)) (p (f x)) (q x) (All-head (λ z. p (f z) ≡ q z) x xs same) (filter_map_all f p q xs (All-tail (λ z. p (f z) ≡ q z) x xs same))

-- what is said of each element that a filter keeps
from_filter : {X : Type 0} (p : X → Bool) (P : X → Type 0) (xs : List X) → All P (filter p xs) → (x : X) → Contains xs x → p x ≡ true → P x
from_filter p P xs all x there passes = All-contains P (filter p xs) x all (contains_filter p xs x there passes)

pairs_from_filter : {X : Type 0} (R : X → X → Type 0) (p : X → Bool) (xs : List X) → AllPairs R (filter p xs) → AllPairs (λ x y. p x ≡ true → p y ≡ true → R x y) xs
pairs_from_filter R p [] pairs = pairs_nil (λ x y. p x ≡ true → p y ≡ true → R x y)
pairs_from_filter R p (x ∷ xs) pairs =
    AllPairs-cons (λ x y. p x ≡ true → p y ≡ true → R x y) x xs
    (All-weaker (Contains xs) (λ y. p x ≡ true → p y ≡ true → R x y)
    (λ y there px py. let kept : AllPairs R (x ∷ filter p xs) = rw px at pairs in from_filter p (R x) xs (pairs_head R x (filter p xs) kept) y there py) xs (All-contains_itself xs))
    (pairs_from_filter R p xs (rest_kept R x (filter p xs) (p x) pairs))
  where
    rest_kept : {X : Type 0} (R : X → X → Type 0) (x : X) (ys : List X) (b : Bool) → AllPairs R (cond b (x ∷ ys) ys) → AllPairs R ys
    rest_kept R x ys true pairs = pairs_tail R x ys pairs
    rest_kept R x ys false pairs = pairs

mapped_contains : {X Y : Type 0} (f : X → Y) (xs : List X) (x : X) → Contains xs x → Contains (map f xs) (f x)
mapped_contains f xs x there = (there.0, rw (length-map xs f) there.1, get_or-map f xs there.0 x (f x) there.1 ∙ ap f there.2)

-- ---- lines with what was done

pub record Twins (printed : List ℕ) (claims : List Claim) (done : List Done) : Type 0 where
  pub pairs : List (Claim × Done)
  pub firsts : map (λ p. p.0) pairs ≡ claims
  pub seconds : map (λ p. p.1) pairs ≡ done
  pub lines : All (λ p. IsLineOf printed p.0 p.1) pairs

twins : (printed : List ℕ) (claims : List Claim) (done : List Done) → AllZip (IsLineOf printed) claims done → Twins printed claims done
twins printed [] [] lines = record { pairs = []; firsts = refl; seconds = refl; lines = All-nil (λ (p : Claim × Done). IsLineOf printed p.0 p.1) }
twins printed [] (d ∷ done) lines = elim lines [ ]
twins printed (c ∷ claims) [] lines = elim lines [ ]
twins printed (c ∷ claims) (d ∷ done) lines =
    let rest = twins printed claims done lines.1 in
    record {
      pairs = (c, d) ∷ rest.pairs;
      firsts = ap (λ l. c ∷ l) rest.firsts;
      seconds = ap (λ l. d ∷ l) rest.seconds;
      lines = All-cons (λ (p : Claim × Done). IsLineOf printed p.0 p.1) (c, d) rest.pairs lines.0 rest.lines;
    }

-- a request that one thread answered on some database
pub record Answered (limit : ℕ) (d : Done) : Type 0 where
  pub base : Database
  pub reply : d.reply ≡ reply_to limit base d.request
  pub wrote : d.wrote ≡ is_changed d.reply

answered : (limit : ℕ) (db : Database) (order : List Done) → RepliesAlong limit db order → All (Answered limit) order
answered limit db [] along = All-nil (Answered limit)
answered limit db (d ∷ order) along =
    All-cons (Answered limit) d order (record { base = db; reply = along.0; wrote = along.1 }) (answered limit (after_request limit db d.request) order along.2)

-- a line and what was done are alike but for the reply
pub record AreAlike (printed : List ℕ) (c : Claim) (d : Done) : Type 0 where
  pub file : c.file ≡ d.file
  pub index : c.index ≡ d.index
  pub request : c.request ≡ d.request
  pub number : c.number ≡ d.number
  pub wrote : c.wrote ≡ d.wrote
  pub text : text_of printed c ≡ reply_text d.reply

alike_from : (printed : List ℕ) (c : Claim) (d : Done) → IsLineOf printed c d → c.wrote ≡ d.wrote → AreAlike printed c d
alike_from printed c d line wrote = record {
  file = ap (λ (r : IndexedRequest). r.file) line.request;
  index = ap (λ (r : IndexedRequest). r.index) line.request;
  request = ap (λ (r : IndexedRequest). r.request) line.request;
  number = line.number;
  wrote = wrote;
  text = line.text;
}

-- the order of two lines is that of what was done
lines_precede : (printed : List ℕ) (c d : Claim) (x y : Done) → AreAlike printed c x → AreAlike printed d y → Precedes x y → ClaimPrecedes c d
lines_precede printed c d x y a b before = rw (a.file, a.index, a.number, a.wrote, b.file, b.index, b.number, b.wrote) before

-- the texts along
texts_from : (printed : List ℕ) (limit : ℕ) (db : Database) (pairs : List (Claim × Done)) → All (λ p. AreAlike printed p.0 p.1) pairs → RepliesAlong limit db (map (λ p. p.1) pairs) → TextsAlong printed limit db (map (λ p. p.0) pairs)
texts_from printed limit db [] alike along = tt
texts_from printed limit db (p ∷ pairs) alike along =
    let a = All-head (λ (p : Claim × Done). AreAlike printed p.0 p.1) p pairs alike in
    let rest = texts_from printed limit (after_request limit db p.1.request) pairs (All-tail (λ (p : Claim × Done). AreAlike printed p.0 p.1) p pairs alike) along.2 in (
      a.text ∙ ap reply_text (along.0 ∙ ap (reply_to limit db) (sym a.request)),
      subst (λ (q : Request). TextsAlong printed limit (after_request limit db q) (map (λ (p : Claim × Done). p.0) pairs)) (sym a.request) rest,
    )

-- of two that were done
pub record IsDoneBehind (d e : Done) : Type 0 where
  pub differs : d.wrote ≡ true → e.wrote ≡ true → d.number ≡ e.number → ⊥
  pub follows : is_sync d.request ≡ false → is_sync e.request ≡ false → d.file ≡ e.file → (d.number ≤ e.number) × (e.wrote ≡ true → d.number < e.number)
  pub synced : is_sync e.request ≡ true → d.file ≡ e.file → d.number ≤ e.number

lines_behind : (printed : List ℕ) (c d : Claim) (x y : Done) → AreAlike printed c x → AreAlike printed d y → IsDoneBehind x y → IsBehind c d
lines_behind printed c d x y a b behind = record {
  differs = λ w w' same. behind.differs (sym a.wrote ∙ w') (sym b.wrote ∙ w) (sym a.number ∙ same ∙ b.number);
  follows = λ ask file ask'.
      let f = behind.follows (ap is_sync (sym a.request) ∙ ask') (ap is_sync (sym b.request) ∙ ask) (sym a.file ∙ file ∙ b.file) in
      record { upto = rw (a.number, b.number) f.0; under = λ w. rw (a.number, b.number) (f.1 (sym b.wrote ∙ w)) };
  synced = λ sync file. rw (a.number, b.number) (behind.synced (ap is_sync (sym b.request) ∙ sync) (sym a.file ∙ file ∙ b.file));
}

-- what is said of a line alone
pub record KeepsAlone (first last : ℕ) (c : Claim) : Type 0 where
  pub from : first ≤ c.number
  pub over : c.wrote ≡ true → first < c.number
  pub durable : claims_sync c ≡ true → c.number ≤ last

ruled_from : (first last : ℕ) (claims : List Claim) → All (KeepsAlone first last) claims → AllPairs IsBehind claims → AreRuled first last claims
ruled_from first last claims alone behind = λ k d within.
    let its = alone k d within in
    let c : Claim = get_or claims k d in
    let before : All (λ e. IsBehind e c) (take k claims) = λ i e lt.
    let less : i < k = omega (arith, length-take k claims, lt) in
    rw (get_or-take k claims i e less) (subst (λ (x : Claim). IsBehind (get_or claims i e) x) (get_or_default claims k e d within) (behind i k e less within)) in
    record {
      from = its.from;
      over = its.over;
      differs = λ w. All-weaker (λ e. IsBehind e c) (λ e. e.wrote ≡ true → e.number ≡ c.number → ⊥) (λ e b w' same. b.differs w w' same) (take k claims) before;
      follows = λ ask. All-weaker (λ e. IsBehind e c) (λ e. e.file ≡ c.file → claims_sync e ≡ false → IsFollowedBy e c) (λ e b file ask'. b.follows ask file ask') (take k claims) before;
      synced = λ sync. All-weaker (λ e. IsBehind e c) (λ e. e.file ≡ c.file → e.number ≤ c.number) (λ e b file. b.synced sync file) (take k claims) before;
      durable = its.durable;
    }

-- of two requests of one file, in order of index: how their numbers stand, by the printed order
follow : (d f : Done) → PrecedesInFiles d f → (d.wrote ≡ true → f.wrote ≡ true → d.number ≡ f.number → ⊥) → d.file ≡ f.file
    → (d ≡ f) ⊎ ((Precedes d f × (d.file ≡ f.file → d.index < f.index)) ⊎ (Precedes f d × (f.file ≡ d.file → f.index < d.index))) → (d.number ≤ f.number) × (f.wrote ≡ true → d.number < f.number)
follow d f place differ file either =
    let index : d.index < f.index = ⊎_elim (λ less. absurd (omega (arith, less, file))) (λ same. same.1) place in
    ⊎_elim
    (λ one. let same : d.index ≡ f.index = ap (λ (x : Done). x.index) one in absurd (omega (arith, index, same)))
    (λ other. ⊎_elim
    (λ here. ⊎_elim
    (λ less. (omega (arith, less), λ w. less))
    (λ same. let is = same.0 in (omega (arith, is), λ w. ⊎_elim (λ a. absurd (both_ways f.wrote a.1 w)) (λ a. absurd (differ (a.0 ∙ w) w is)) same.1)) here.0)
    (λ back. let less = back.1 (sym file) in absurd (omega (arith, index, less))) other)
    either

module _ (first limit : ℕ) (db : Database) (files : List (List Request)) (printed : List ℕ) (claims : List Claim) (last : ℕ) (are : AreClaims files printed claims) (run : IsOneThreadRun first limit db files printed claims last) where
  abbrev done : List Done
  done = run.done

  abbrev order : List Done
  order = run.run.replies.numbers.order

  abbrev asked : Done → Bool
  asked d = not (is_sync d.request)

  in_files : AllPairs PrecedesInFiles done
  in_files = in_files_from_holding files done run.run.all

  is_there : (d : Done) → Contains done d → is_sync d.request ≡ false → Contains order d
  is_there d there ask = Contains-permutation (filter asked done) order d run.run.replies.numbers.printed.same (contains_filter asked done d there (not_from_false (is_sync d.request) ask))

  tw : Twins printed claims done
  tw = twins printed claims done run.lines

  was_answered : (d : Done) → Contains done d → is_sync d.request ≡ false → Answered limit d
  was_answered d there ask = All-contains (Answered limit) order d (answered limit db order run.run.replies.one_thread) (is_there d there ask)

  first_there : (p : Claim × Done) → Contains tw.pairs p → Contains claims p.0
  first_there p there = subst (λ (l : List Claim). Contains l p.0) tw.firsts (mapped_contains (λ (p : Claim × Done). p.0) tw.pairs p there)

  second_there : (p : Claim × Done) → Contains tw.pairs p → Contains done p.1
  second_there p there = subst (λ (l : List Done). Contains l p.1) tw.seconds (mapped_contains (λ (p : Claim × Done). p.1) tw.pairs p there)

  same_wrote : (p : Claim × Done) → Contains tw.pairs p → IsLineOf printed p.0 p.1 → p.0.wrote ≡ p.1.wrote
  same_wrote p there line =
      let says = All-contains (SaysWrote printed) claims p.0 are.wrote (first_there p there) in
      let request : p.0.request ≡ p.1.request = ap (λ (r : IndexedRequest). r.request) line.request in
      ⊎_elim
      (λ sync.
      let none : p.1.wrote ≡ false = (from_filter (λ (d : Done). is_sync d.request) (λ d. (d.reply ≡ Durable) × (d.wrote ≡ false)) done run.run.replies.numbers.syncs p.1 (second_there p there) sync).1 in
      false_from_ne_true p.0.wrote (λ w. both_ways (is_sync p.0.request) (may_no_sync p.0.request (says.0 w).0) (ap is_sync request ∙ sync)) ∙ sym none)
      (λ ask. let a = was_answered p.1 (second_there p there) ask in
      wrote_is limit a.base p.0.request p.1.reply (text_of printed p.0) p.0.wrote (a.reply ∙ ap (reply_to limit a.base) (sym request)) line.text says ∙ sym a.wrote)
      (cases_Bool (is_sync p.1.request))

  alike : All (λ p. AreAlike printed p.0 p.1) tw.pairs
  alike = λ k d within. let p : Claim × Done = get_or tw.pairs k d in let line = tw.lines k d within in alike_from printed p.0 p.1 line (same_wrote p (Contains-get_or tw.pairs k d within) line)

  done_behind : AllPairs IsDoneBehind done
  done_behind = λ i j e before within.
      let d : Done = get_or done i e in
      let f : Done = get_or done j e in
      let inside : i < length done = omega (arith, before, within) in
      let differ : d.wrote ≡ true → f.wrote ≡ true → d.number ≡ f.number → ⊥ = pairs_from_filter (λ d e. d.number ≡ e.number → ⊥) (λ d. d.wrote) done run.run.replies.numbers.distinct i j e before within in
      let place : PrecedesInFiles d f = in_files i j e before within in
      record {
        differs = differ;
        follows = λ ask ask' file. follow d f place differ file
            (one_or_other (λ x y. Precedes x y × (x.file ≡ y.file → x.index < y.index)) order d f (λ i j e b w. (run.run.replies.numbers.printed.sorted i j e b w, run.run.replies.numbers.files_in_order i j e b w))
            (is_there d (Contains-get_or done i e inside) ask) (is_there f (Contains-get_or done j e within) ask'));
        synced = λ sync file. run.run.syncs_follow i j e before within file sync;
      }

  pairs_behind : AllPairs IsBehind claims
  pairs_behind = subst (λ (l : List Claim). AllPairs IsBehind l) tw.firsts (pairs_mapped IsBehind (λ (p : Claim × Done). p.0) tw.pairs
      (pairs_among (λ p q. IsDoneBehind p.1 q.1) (λ p q. IsBehind p.0 q.0) tw.pairs
      (λ p q tp tq b. lines_behind printed p.0 q.0 p.1 q.1 (All-contains (λ p. AreAlike printed p.0 p.1) tw.pairs p alike tp) (All-contains (λ p. AreAlike printed p.0 p.1) tw.pairs q alike tq) b)
      (pairs_unmapped IsDoneBehind (λ (p : Claim × Done). p.1) tw.pairs (subst (λ (l : List Done). AllPairs IsDoneBehind l) (sym tw.seconds) done_behind))))

  alone_so : (p : Claim × Done) → Contains done p.1 → AreAlike printed p.0 p.1 → KeepsAlone first last p.0
  alone_so p there a =
      let number = a.number in
      record {
        from = rw number (⊎_elim (λ sync. All-contains (λ d. is_sync d.request ≡ true → first ≤ d.number) done p.1 run.run.syncs_from there sync)
            (λ ask. from_filter asked (λ d. first ≤ d.number) done run.run.replies.numbers.from p.1 there (not_from_false (is_sync p.1.request) ask)) (cases_Bool (is_sync p.1.request)));
        over = λ w. rw number (from_filter (λ (d : Done). d.wrote) (λ d. first < d.number) done run.run.replies.numbers.over p.1 there (sym a.wrote ∙ w));
        durable = λ sync. rw number (All-contains (λ d. d.number ≤ last) done p.1 run.run.none_over there);
      }

  all_claims : (P : Claim → Type 0) → ((p : Claim × Done) → Contains done p.1 → AreAlike printed p.0 p.1 → P p.0) → All P claims
  all_claims P follows = subst (λ (l : List Claim). All P l) tw.firsts (All-map P (λ (p : Claim × Done). p.0) tw.pairs
      (λ k d within. let p : Claim × Done = get_or tw.pairs k d in follows p (second_there p (Contains-get_or tw.pairs k d within)) (alike k d within)))

  -- the lines in the order of what was done
  abbrev kept_pairs : List (Claim × Done)
  kept_pairs = filter (λ (p : Claim × Done). not (claims_sync p.0)) tw.pairs

  kept_done : filter asked done ≡ map (λ (p : Claim × Done). p.1) kept_pairs
  kept_done = ap (filter asked) (sym tw.seconds)
      ∙ filter_map_all (λ (p : Claim × Done). p.1) asked (λ p. not (claims_sync p.0)) tw.pairs (All-weaker (λ p. AreAlike printed p.0 p.1) (λ p. asked p.1 ≡ not (claims_sync p.0)) (λ p a. ap (λ q. not (is_sync q)) (sym a.request)) tw.pairs alike)

  kept_claims : filter (λ c. not (claims_sync c)) claims ≡ map (λ (p : Claim × Done). p.0) kept_pairs
  kept_claims = ap (filter (λ c. not (claims_sync c))) (sym tw.firsts) ∙ filter_map_same (λ (p : Claim × Done). p.0) (λ c. not (claims_sync c)) (λ p. not (claims_sync p.0)) (λ p. refl) tw.pairs

  lifted : Lifted (λ (p : Claim × Done). p.1) kept_pairs order
  lifted = lift (λ (p : Claim × Done). p.1) kept_pairs order (subst (λ (l : List Done). IsPermutation l order) kept_done run.run.replies.numbers.printed.same)

  lifted_alike : All (λ p. AreAlike printed p.0 p.1) lifted.list
  lifted_alike = All-permutation (λ p. AreAlike printed p.0 p.1) kept_pairs lifted.list lifted.same (All-filter (λ (p : Claim × Done). not (claims_sync p.0)) (λ p. AreAlike printed p.0 p.1) tw.pairs alike)

  abbrev claim_order : List Claim
  claim_order = map (λ (p : Claim × Done). p.0) lifted.list

  ordered : IsClaimOrder claims claim_order
  ordered = record {
    same = subst (λ (l : List Claim). IsPermutation l claim_order) (sym kept_claims) (IsPermutation-map (λ (p : Claim × Done). p.0) kept_pairs lifted.list lifted.same);
    sorted = pairs_mapped ClaimPrecedes (λ (p : Claim × Done). p.0) lifted.list
        (pairs_among (λ p q. Precedes p.1 q.1) (λ p q. ClaimPrecedes p.0 q.0) lifted.list
        (λ p q tp tq b. lines_precede printed p.0 q.0 p.1 q.1 (All-contains (λ p. AreAlike printed p.0 p.1) lifted.list p lifted_alike tp) (All-contains (λ p. AreAlike printed p.0 p.1) lifted.list q lifted_alike tq) b)
        (pairs_unmapped Precedes (λ (p : Claim × Done). p.1) lifted.list (subst (λ (l : List Done). AllPairs Precedes l) (sym lifted.is) run.run.replies.numbers.printed.sorted)));
  }

  pub passes : Passes first limit db printed claims last
  passes = record {
    ruled = ruled_from first last claims (all_claims (KeepsAlone first last) alone_so) pairs_behind;
    ends = record {
      from = run.run.from;
      none_over = all_claims (λ c. c.number ≤ last) (λ p there a. rw a.number (All-contains (λ d. d.number ≤ last) done p.1 run.run.none_over there));
    };
    order = claim_order;
    printed_so = ordered;
    along = texts_from printed limit db lifted.list lifted_alike (subst (λ (l : List Done). RepliesAlong limit db l) (sym lifted.is) run.run.replies.one_thread);
  }

-- ---- a reason and a pass exclude one another

pub order_unique : (claims xs ys : List Claim) → IsClaimOrder claims xs → IsClaimOrder claims ys → xs ≡ ys
order_unique claims xs ys a b =
    let kept = filter (λ c. not (claims_sync c)) claims in
    let across = λ (us vs : List Claim) (p : IsPermutation kept us) (q : IsPermutation kept vs) (x : Claim) (there : Contains us x). Contains-permutation kept vs x q (Contains-permutation us kept x (IsPermutation-sym kept us p) there) in
    same_from_order ClaimPrecedes (λ c d. Precedes-asymmetric (done_of c Durable) (done_of d Durable)) xs ys a.sorted b.sorted (across xs ys a.same b.same) (across ys xs b.same a.same)

texts_at : (printed : List ℕ) (limit : ℕ) (db : Database) (order : List Claim) (k : ℕ) (d : Claim) → TextsAlong printed limit db order → k < length order
    → text_of printed (get_or order k d) ≡ reply_text (reply_to limit (after_claims limit db (take k order)) (get_or order k d).request)
texts_at printed limit db [] k d along within = absurd (omega (arith, within))
texts_at printed limit db (c ∷ order) zero d along within = along.0
texts_at printed limit db (c ∷ order) (suc k) d along within = texts_at printed limit (after_request limit db c.request) order k d along.1 (omega (arith, within))

pub any_claim : Claim
any_claim = record { file = 0; index = 0; request = Sync; number = 0; wrote = false; line = 0; from = 0; to = 0 }

pub excluded : (first limit : ℕ) (db : Database) (printed : List ℕ) (claims : List Claim) (last line : ℕ) → HasVerdict first limit db printed claims last (No line) → Passes first limit db printed claims last → ⊥
excluded first limit db printed claims last line refused passing =
    ⊎_elim
    (λ breaks. breaks.broken.here any_claim (passing.ruled breaks.at any_claim breaks.broken.within))
    (λ other. ⊎_elim
    (λ misses. misses.misses passing.ends)
    (λ wrong. let same : wrong.order ≡ passing.order = order_unique claims wrong.order passing.order wrong.printed_so passing.printed_so in
    let along : TextsAlong printed limit db wrong.order = subst (λ (l : List Claim). TextsAlong printed limit db l) (sym same) passing.along in
    wrong.wrong.wrong.here any_claim (texts_at printed limit db wrong.order wrong.wrong.at any_claim along wrong.wrong.wrong.within)) other)
    refused
