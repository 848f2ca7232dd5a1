-- Lines that pass are those of a run that one thread gives.
use Rattle.std.proofs.Common.{◌≡◌, ℕ, ◌<◌, ◌≤◌, Bool, true, false, not, ◌&&◌, cond, List, [], ◌∷◌, length, get_or, map, take, refl, ap, ap₂, append-nil, sym, ◌∙◌, subst, arith, ⊎_elim}
use Rattle.std.specs.Prelude.{◌==◌, if◌then◌else◌, codes, ◌↔◌}
use Rattle.std.specs.List.{All, AllZip, AllPairs, Contains, filter}
use Rattle.std.proofs.lemmas.Bool.{both_ways, cases_Bool, eqb-true, eq-eqb, and_from, and_parts, not-true, not_from_false, false_from_ne_true}
use Rattle.std.proofs.lemmas.List.{get_or-take, length-take}
use Rattle.std.proofs.lemmas.List.Elements.{All-nil, All-cons, All-head, All-tail, All-map, All-weaker, All-contains, All-contains_itself}
use Rattle.std.proofs.lemmas.List.Kept.{AllPairs-filter}
use Rattle.std.proofs.lemmas.List.Sorted.{IsPermutation-map, IsPermutation-sym, Contains-permutation}
use Rattle.tatp_model.specs.declared.request.Request.{Request}
use Rattle.tatp_model.specs.declared.reply.Reply.{Reply}
use Rattle.tatp_model.specs.declared.reply.Reply.TheVariants.{Durable}
use Rattle.tatp_model.specs.declared.done.Done.{Done}
use Rattle.tatp_model.specs.Database.{Database}
use Rattle.tatp_model.specs.Transaction.{reply_to, after_request}
use Rattle.tatp_model.specs.OneThread.{is_sync, indexed_request_of, AllAreDone, IsPrefixOf, PrecedesInFiles, Precedes, RepliesAlong, RepliesOfOneThread}
use Rattle.tatp_model.proofs.PrintedOrder.{Precedes-asymmetric}
use Rattle.run_order.proofs.Pairs.{pairs_head, pairs_tail, pairs_mapped, pairs_unmapped, pairs_among, pairs_weaker, one_or_other}
use Rattle.run_order.proofs.Elements.{filter_contains, contains_filter}
use Rattle.run_order.proofs.FileOrder.{in_files_from_holding}
use Rattle.tatp_text.specs.Reply.{reply_text}
use Rattle.dude_audit.specs.declared.claim.Claim.{Claim}
use Rattle.dude_audit.specs.Claim.{text_of, claimed_request_of, claims_sync, SaysWrote}
use Rattle.dude_audit.specs.Order.{done_of, AreApart, ClaimPrecedes}
use Rattle.dude_audit.specs.Walk.{TextsAlong}
use Rattle.dude_audit.specs.Rules.{IsFollowedBy, KeepsRule, AreRuled}
use Rattle.dude_audit.proofs.OneThreadRuns.{AreClaims, IsLineOf, IsOneThreadRun}
use Rattle.dude_audit.specs.Verdict.{Passes}
use Rattle.dude_audit.proofs.Replies.{wrote_is, may_no_sync}
use Rattle.dude_audit.proofs.Orders.{all_order}
use Rattle.dude_audit.proofs.Sorted.{apart_permuted}

-- the reply to the request of a line, along an order
abbrev reply_along : ℕ → Database → List Claim → Claim → Reply
reply_along limit db [] c = Durable
reply_along limit db (x ∷ order) c =
    if (x.file == c.file) && (x.index == c.index) then reply_to limit db x.request else reply_along limit (after_request limit db x.request) order c

-- each prefix of a list is of itself
prefixes_refl : (files : List (List Request)) → AllZip IsPrefixOf files files
prefixes_refl [] = tt
prefixes_refl (f ∷ files) = (([], sym (append-nil f)), prefixes_refl files)

map_congr : {X Y : Type 0} (f g : X → Y) (xs : List X) → All (λ x. f x ≡ g x) xs → map f xs ≡ map g xs
map_congr f g [] same = refl
map_congr f g (x ∷ xs) same = ap₂ (λ y ys. y ∷ ys) (All-head (λ z. f z ≡ g z) x xs same) (map_congr f g xs (All-tail (λ z. f z ≡ g z) x xs same))

pub kept_or_not : {X Y : Type 0} (f : X → Y) (x : X) (xs : List X) (ys : List Y) (a b : Bool) → a ≡ b → ys ≡ map f xs → cond a (f x ∷ ys) ys ≡ map f (cond b (x ∷ xs) xs)
kept_or_not f x xs ys true true same is = ap (λ zs. f x ∷ zs) is
kept_or_not f x xs ys false false same is = is
kept_or_not f x xs ys true false same is = absurd (both_ways true same refl)
kept_or_not f x xs ys false true same is = absurd (both_ways false refl same)

pub filter_map_same : {X Y : Type 0} (f : X → Y) (p : Y → Bool) (q : X → Bool) → ((x : X) → p (f x) ≡ q x) → (xs : List X) → filter p (map f xs) ≡ map f (filter q xs)
filter_map_same f p q same [] = refl
filter_map_same f p q same (x ∷ xs) = kept_or_not f x (filter q xs) (filter p (map f xs)) (p (f x)) (q x) (same x) (filter_map_same f p q same xs)

-- with such replies the order is answered as one thread answers
pub along : (printed : List ℕ) (limit : ℕ) (db : Database) (order : List Claim) → AllPairs AreApart order → All (SaysWrote printed) order → TextsAlong printed limit db order
    → RepliesAlong limit db (map (λ c. done_of c (reply_along limit db order c)) order) × All (λ c. text_of printed c ≡ reply_text (reply_along limit db order c)) order
along printed limit db [] apart says texts = (tt, All-nil (λ c. text_of printed c ≡ reply_text (reply_along limit db [] c)))
along printed limit db (x ∷ order) apart says texts =
    let db' : Database = after_request limit db x.request in
    let rest = along printed limit db' order (pairs_tail AreApart x order apart) (All-tail (SaysWrote printed) x order says) texts.1 in
    let itself : reply_along limit db (x ∷ order) x ≡ reply_to limit db x.request = rw (and_from (x.file == x.file) (x.index == x.index) (eq-eqb x.file x.file refl) (eq-eqb x.index x.index refl)) refl in
    let others : All (λ c. reply_along limit db (x ∷ order) c ≡ reply_along limit db' order c) order =
    All-weaker (AreApart x) (λ c. reply_along limit db (x ∷ order) c ≡ reply_along limit db' order c)
    (λ c differs. rw (false_from_ne_true ((x.file == c.file) && (x.index == c.index)) (λ same. let p = and_parts (x.file == c.file) (x.index == c.index) same in differs (eqb-true x.file c.file p.0) (eqb-true x.index c.index p.1))) refl)
    order (pairs_head AreApart x order apart) in
    let same : map (λ c. done_of c (reply_along limit db (x ∷ order) c)) order ≡ map (λ c. done_of c (reply_along limit db' order c)) order =
    map_congr (λ c. done_of c (reply_along limit db (x ∷ order) c)) (λ c. done_of c (reply_along limit db' order c)) order
    (All-weaker (λ c. reply_along limit db (x ∷ order) c ≡ reply_along limit db' order c) (λ c. done_of c (reply_along limit db (x ∷ order) c) ≡ done_of c (reply_along limit db' order c)) (λ c e. ap (done_of c) e) order others) in (
      (
        itself,
        wrote_is limit db x.request (reply_along limit db (x ∷ order) x) (text_of printed x) x.wrote itself (texts.0 ∙ ap reply_text (sym itself)) (All-head (SaysWrote printed) x order says),
        subst (λ (l : List Done). RepliesAlong limit db' l) (sym same) rest.0,
      ),
      All-cons (λ c. text_of printed c ≡ reply_text (reply_along limit db (x ∷ order) c)) x order (texts.0 ∙ ap reply_text (sym itself))
          (λ k d within. let e = others k d within in let t = rest.1 k d within in t ∙ ap reply_text (sym e)),
    )

-- of two lines: the later one keeps its rule behind the earlier one
pub record IsBehind (c d : Claim) : Type 0 where
  pub differs : d.wrote ≡ true → c.wrote ≡ true → c.number ≡ d.number → ⊥
  pub follows : claims_sync d ≡ false → c.file ≡ d.file → claims_sync c ≡ false → IsFollowedBy c d
  pub synced : claims_sync d ≡ true → c.file ≡ d.file → c.number ≤ d.number

pub pairs_ruled : (first last : ℕ) (claims : List Claim) → AreRuled first last claims → AllPairs IsBehind claims
pairs_ruled first last claims ruled i j e before within =
    let keeps = ruled j e within in
    let there : i < length (take j claims) = omega (arith, length-take j claims, before, within) in
    let is : get_or (take j claims) i e ≡ get_or claims i e = get_or-take j claims i e before in
    let d : Claim = get_or claims j e in
    record {
      differs = λ w w' same. subst (λ (x : Claim). x.wrote ≡ true → x.number ≡ d.number → ⊥) is (keeps.differs w i e there) w' same;
      follows = λ ask file ask'. subst (λ (x : Claim). x.file ≡ d.file → claims_sync x ≡ false → IsFollowedBy x d) is (keeps.follows ask i e there) file ask';
      synced = λ sync file. subst (λ (x : Claim). x.file ≡ d.file → x.number ≤ d.number) is (keeps.synced sync i e there) file;
    }

-- what holds of each that passes holds of what a filter keeps
pub among : {X : Type 0} (p : X → Bool) (P : X → Type 0) (xs : List X) → ((x : X) → Contains xs x → p x ≡ true → P x) → All P (filter p xs)
among p P xs follows = All-weaker (Contains (filter p xs)) P (λ x c. let k = filter_contains p xs x c in follows x k.0 k.1) (filter p xs) (All-contains_itself (filter p xs))

pub zip_mapped : {X Y : Type 0} (R : X → Y → Type 0) (g : X → Y) (xs : List X) → All (λ x. R x (g x)) xs → AllZip R xs (map g xs)
zip_mapped R g [] all = tt
zip_mapped R g (x ∷ xs) all = (All-head (λ y. R y (g y)) x xs all, zip_mapped R g xs (All-tail (λ y. R y (g y)) x xs all))

pub requests_same : (r : Claim → Reply) (claims : List Claim) → map indexed_request_of (map (λ c. done_of c (r c)) claims) ≡ map claimed_request_of claims
requests_same r [] = refl
requests_same r (c ∷ claims) = ap (λ qs. claimed_request_of c ∷ qs) (requests_same r claims)

in_index_order : (c d : Claim) → ClaimPrecedes c d → c.file ≡ d.file → PrecedesInFiles (done_of d Durable) (done_of c Durable) → IsFollowedBy d c → c.index < d.index
in_index_order c d printed file back followed =
    let up = followed.upto in
    ⊎_elim (λ less. absurd (omega (arith, less, up)))
    (λ same. ⊎_elim (λ a. let under = followed.under a.0 in let is = same.0 in absurd (omega (arith, under, is)))
    (λ a. ⊎_elim (λ less. absurd (omega (arith, less, file))) (λ index. index.1) a.1) same.1) printed

module _ (first limit : ℕ) (db : Database) (files : List (List Request)) (printed : List ℕ) (claims : List Claim) (last : ℕ) (are : AreClaims files printed claims) (passes : Passes first limit db printed claims last) where
  abbrev order : List Claim
  order = passes.order

  abbrev reply : Claim → Reply
  reply c = if claims_sync c then Durable else reply_along limit db order c

  abbrev made : Claim → Done
  made c = done_of c (reply c)

  abbrev done : List Done
  done = map made claims

  all : AllAreDone files done
  all = requests_same reply claims ∙ are.asked

  in_files : AllPairs (λ c d. PrecedesInFiles (done_of c Durable) (done_of d Durable)) claims
  in_files = pairs_unmapped PrecedesInFiles made claims (in_files_from_holding files done all)

  apart : AllPairs AreApart claims
  apart = pairs_weaker (λ c d. PrecedesInFiles (done_of c Durable) (done_of d Durable)) AreApart claims
      (λ c d before file index. ⊎_elim (λ less. absurd (omega (arith, less, file))) (λ less. absurd (omega (arith, less.1, index))) before) in_files

  behind : AllPairs IsBehind claims
  behind = pairs_ruled first last claims passes.ruled

  abbrev kept : List Claim
  kept = filter (λ c. not (claims_sync c)) claims

  was_claim : (c : Claim) → Contains order c → Contains claims c × (claims_sync c ≡ false)
  was_claim c there =
      let k = filter_contains (λ c. not (claims_sync c)) claims c (Contains-permutation order kept c (IsPermutation-sym kept order passes.printed_so.same) there) in
      (k.0, not-true (claims_sync c) k.1)

  is_there : (c : Claim) → Contains claims c → claims_sync c ≡ false → Contains order c
  is_there c there ask = Contains-permutation kept order c passes.printed_so.same (contains_filter (λ c. not (claims_sync c)) claims c there (not_from_false (claims_sync c) ask))

  -- what is said of each line
  keeps_each : (P : Claim → Type 0) → ((earlier : List Claim) (c : Claim) → KeepsRule first last earlier c → P c) → All P claims
  keeps_each P follows = λ k d within. follows (take k claims) (get_or claims k d) (passes.ruled k d within)

  order_apart : AllPairs AreApart order
  order_apart = apart_permuted kept order passes.printed_so.same (AllPairs-filter AreApart (λ c. not (claims_sync c)) claims apart)

  said : RepliesAlong limit db (map (λ c. done_of c (reply_along limit db order c)) order) × All (λ c. text_of printed c ≡ reply_text (reply_along limit db order c)) order
  said = along printed limit db order order_apart (all_order (SaysWrote printed) claims order passes.printed_so are.wrote) passes.along

  asked_reply : (c : Claim) → claims_sync c ≡ false → reply c ≡ reply_along limit db order c
  asked_reply c ask = rw ask refl

  sync_reply : (c : Claim) → claims_sync c ≡ true → reply c ≡ Durable
  sync_reply c sync = rw sync refl

  made_same : map (λ c. done_of c (reply_along limit db order c)) order ≡ map made order
  made_same = map_congr (λ c. done_of c (reply_along limit db order c)) made order
      (All-weaker (Contains order) (λ c. done_of c (reply_along limit db order c) ≡ made c) (λ c there. ap (done_of c) (sym (asked_reply c (was_claim c there).1))) order (All-contains_itself order))

  text_here : (c : Claim) → Contains claims c → text_of printed c ≡ reply_text (reply c)
  text_here c there =
      ⊎_elim (λ sync. (All-contains (λ c. (claims_sync c ≡ true) ↔ (text_of printed c ≡ codes "DURABLE")) claims c are.syncs there).0 sync ∙ ap reply_text (sym (sync_reply c sync)))
      (λ ask. All-contains (λ c. text_of printed c ≡ reply_text (reply_along limit db order c)) order c said.1 (is_there c there ask) ∙ ap reply_text (sym (asked_reply c ask)))
      (cases_Bool (claims_sync c))

  each_done : (Q : Done → Type 0) → All (λ c. Q (made c)) claims → (d : Done) → Contains done d → Q d
  each_done Q holds d there = All-contains Q done d (All-map Q made claims holds) there

  no_sync_wrote : (c : Claim) → Contains claims c → c.wrote ≡ true → claims_sync c ≡ false
  no_sync_wrote c there w = may_no_sync c.request ((All-contains (SaysWrote printed) claims c are.wrote there).0 w).0

  order_index : AllPairs (λ c d. c.file ≡ d.file → c.index < d.index) order
  order_index = pairs_among ClaimPrecedes (λ c d. c.file ≡ d.file → c.index < d.index) order
      (λ c d tc td before file. let wc = was_claim c tc in let wd = was_claim d td in
      ⊎_elim
      (λ one. let itself : ClaimPrecedes c c = subst (λ (x : Claim). ClaimPrecedes c x) (sym one) before in absurd (Precedes-asymmetric (done_of c Durable) (done_of c Durable) itself itself))
      (λ other. ⊎_elim
      (λ here. ⊎_elim (λ less. absurd (omega (arith, less, file))) (λ same. same.1) here.0)
      (λ back. in_index_order c d before file back.0 (back.1.follows wc.1 (sym file) wd.1)) other)
      (one_or_other (λ x y. PrecedesInFiles (done_of x Durable) (done_of y Durable) × IsBehind x y) claims c d (λ i j e b w. (in_files i j e b w, behind i j e b w)) wc.0 wd.0))
      passes.printed_so.sorted

  one_thread : RepliesOfOneThread first limit db files done
  one_thread = record {
    numbers = record {
      held = (files, prefixes_refl files, all);
      distinct = rw (filter_map_same made (λ d. d.wrote) (λ c. c.wrote) (λ c. refl) claims)
          (pairs_mapped (λ d e. d.number ≡ e.number → ⊥) made (filter (λ c. c.wrote) claims)
          (pairs_among IsBehind (λ c d. c.number ≡ d.number → ⊥) (filter (λ c. c.wrote) claims)
          (λ c d tc td b. b.differs (filter_contains (λ c. c.wrote) claims d td).1 (filter_contains (λ c. c.wrote) claims c tc).1)
          (AllPairs-filter IsBehind (λ c. c.wrote) claims behind)));
      over = among (λ d. d.wrote) (λ d. first < d.number) done
          (each_done (λ d. d.wrote ≡ true → first < d.number) (keeps_each (λ c. c.wrote ≡ true → first < c.number) (λ earlier c k. k.over)));
      from = among (λ d. not (is_sync d.request)) (λ d. first ≤ d.number) done
          (λ d there p. each_done (λ d. first ≤ d.number) (keeps_each (λ c. first ≤ c.number) (λ earlier c k. k.from)) d there);
      syncs = among (λ d. is_sync d.request) (λ d. (d.reply ≡ Durable) × (d.wrote ≡ false)) done
          (each_done (λ d. is_sync d.request ≡ true → (d.reply ≡ Durable) × (d.wrote ≡ false))
          (All-weaker (Contains claims) (λ c. claims_sync c ≡ true → (reply c ≡ Durable) × (c.wrote ≡ false))
          (λ c there sync. (sync_reply c sync, false_from_ne_true c.wrote (λ w. both_ways (claims_sync c) (no_sync_wrote c there w) sync))) claims (All-contains_itself claims)));
      order = map made order;
      printed = record {
        same = rw (filter_map_same made (λ d. not (is_sync d.request)) (λ c. not (claims_sync c)) (λ c. refl) claims) (IsPermutation-map made kept order passes.printed_so.same);
        sorted = pairs_mapped Precedes made order passes.printed_so.sorted;
      };
      files_in_order = pairs_mapped (λ d e. d.file ≡ e.file → d.index < e.index) made order order_index;
    };
    one_thread = subst (λ (l : List Done). RepliesAlong limit db l) made_same said.0;
  }

  pub passing : IsOneThreadRun first limit db files printed claims last
  passing = record {
    done = done;
    lines = zip_mapped (IsLineOf printed) made claims
        (All-weaker (Contains claims) (λ c. IsLineOf printed c (made c)) (λ c there. record { request = refl; number = refl; text = text_here c there }) claims (All-contains_itself claims));
    run = record {
      all = all;
      replies = one_thread;
      syncs_from = All-map (λ d. is_sync d.request ≡ true → first ≤ d.number) made claims (keeps_each (λ c. claims_sync c ≡ true → first ≤ c.number) (λ earlier c k sync. k.from));
      syncs_follow = pairs_mapped (λ d e. d.file ≡ e.file → is_sync e.request ≡ true → d.number ≤ e.number) made claims
          (pairs_weaker IsBehind (λ c d. c.file ≡ d.file → claims_sync d ≡ true → c.number ≤ d.number) claims (λ c d b file sync. b.synced sync file) behind);
      none_over = All-map (λ d. d.number ≤ last) made claims passes.ends.none_over;
      from = passes.ends.from;
    };
  }
