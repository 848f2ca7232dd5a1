-- Requests that have numbers, as they are printed, and what one thread answers along that order.
use Rattle.std.proofs.Common.{◌≡◌, ℕ, ◌-◌, ◌<◌, ◌≤◌, Bool, true, false, not, List, [], ◌∷◌, ◌++◌, map, get_or, refl, ap, sym, ◌∙◌, subst, arith, inl, inr, ◌⊎◌, ⊎_elim, append-nil, append_assoc}
use Rattle.std.specs.List.{All, AllPairs, Contains, filter}
use Rattle.std.proofs.lemmas.Bool.{cases_Bool, both_ways}
use Rattle.std.proofs.lemmas.List.Elements.{Contains-append_right, All-weaker, All-filter, All-contains, All-contains_itself, filter_passes, filter-append}
use Rattle.std.proofs.lemmas.List.Kept.{AllPairs-filter}
use Rattle.std.proofs.lemmas.List.Sorted.{IsPermutation-sym, Contains-permutation}
use Rattle.tatp_model.specs.declared.done.Done.{Done}
use Rattle.tatp_model.specs.declared.request.Request.{Request}
use Rattle.tatp_model.specs.declared.reply.Reply.TheVariants.{Durable}
use Rattle.tatp_model.specs.Database.{Database}
use Rattle.tatp_model.specs.Transaction.{reply_to}
use Rattle.tatp_model.specs.OneThread.{is_sync, PrecedesInFiles, Precedes, IsPrintedOrder, RepliesAlong, after_requests, after_number, RepliesOfOneThread}
use Rattle.tatp_model.proofs.PrintedOrder.{Precedes-asymmetric}
use Rattle.tatp_model.proofs.Run.{after_order, RepliesAlong-push, after_number-all}
use Rattle.run_order.specs.Runs.{StandApart}
use Rattle.run_order.proofs.Pairs.{pairs_head, pairs_tail, pairs_weaker, pairs_among, pairs_at, one_or_other}
use Rattle.run_order.proofs.Elements.{filter_contains, contains_filter}
use Rattle.run_order.proofs.FileOrder.{in_files_from_holding}
use Rattle.run_order.specs.Numbers.{AreDatabases, HaveSameWriters, answered_at, IsAnswered, AreAnswered, Differ, IsFollowedBy, IsNumbered, AreNumbered}
use Rattle.run_order.specs.Printed.{NumbersOfOneThread, RepliesInOrder, LawOfPrintedOrder, LawOfParts, LawOfReplies, LawOfDatabases}
use Rattle.run_order.proofs.Sorting.{sort, Sorted}
use Rattle.run_order.proofs.Databases.{with_writers, databases_from, counted, counted_over, counted_read, precedes_upto, filter_none, databases_along}

abbrev is_printed : Done → Bool
is_printed d = not (is_sync d.request)

not_sync : (b : Bool) → not b ≡ true → b ≡ false
not_sync true e = sym e
not_sync false e = refl

printed_not : (b : Bool) → b ≡ false → not b ≡ true
printed_not true e = sym e
printed_not false e = refl

files_apart : (d e : Done) → PrecedesInFiles d e → StandApart d e
files_apart d e before file index = ⊎_elim (λ less. absurd (omega (arith, less, file))) (λ less. absurd (omega (arith, less.1, index))) before

behind_pairs : {X : Type 0} (R : X → X → Type 0) (l : List X) (d : X) (r : List X) → AllPairs R (l ++ d ∷ r) → All (R d) r
behind_pairs R [] d r pairs = pairs_head R d r pairs
behind_pairs R (x ∷ l) d r pairs = behind_pairs R l d r (pairs_tail R x (l ++ d ∷ r) pairs)

answered_under : (d : Done) → d.wrote ≡ true → answered_at d ≡ d.number - 1
answered_under d w = rw w refl

answered_there : (d : Done) → d.wrote ≡ false → answered_at d ≡ d.number
answered_there d w = rw w refl

-- how the requests of an order stand to one of it, d: those before it have numbers up to the one where it was answered, and those behind
-- it don't count up to there
upto_before : (d e : Done) → (d.wrote ≡ true → 0 < d.number) → Precedes e d → Differ e d → e.number ≤ answered_at d
upto_before d e pos before other =
    ⊎_elim
    (λ w. rw (answered_under d w) (let p = pos w in ⊎_elim (λ less. omega arith)
    (λ same. ⊎_elim (λ a. absurd (both_ways d.wrote a.1 w)) (λ a. absurd (other (a.0 ∙ w) w same.0)) same.1) before))
    (λ h. rw (answered_there d h) (precedes_upto e d before)) (cases_Bool d.wrote)

over_behind : (d e : Done) → (d.wrote ≡ true → 0 < d.number) → Precedes d e → counted (answered_at d) e ≡ false
over_behind d e pos before =
    ⊎_elim
    (λ w. rw (answered_under d w) (let p = pos w in let up = precedes_upto d e before in counted_over (d.number - 1) e (omega arith)))
    (λ h. rw (answered_there d h) (⊎_elim (λ less. counted_over d.number e less)
    (λ same. ⊎_elim (λ a. absurd (both_ways d.wrote h a.0)) (λ a. counted_read d.number e (sym a.0 ∙ h)) same.1) before)) (cases_Bool d.wrote)

itself_not : (d : Done) → (d.wrote ≡ true → 0 < d.number) → counted (answered_at d) d ≡ false
itself_not d pos =
    ⊎_elim (λ w. rw (answered_under d w) (let p = pos w in counted_over (d.number - 1) d (omega arith)))
    (λ h. rw (answered_there d h) (counted_read d.number d h)) (cases_Bool d.wrote)

-- of one file, as they are printed
in_index_order : (d e : Done) → Precedes d e → d.file ≡ e.file → (d ≡ e) ⊎ ((PrecedesInFiles d e × IsFollowedBy d e) ⊎ (PrecedesInFiles e d × IsFollowedBy e d)) → d.index < e.index
in_index_order d e printed file either =
    ⊎_elim
    (λ one. let itself : Precedes d d = subst (λ (x : Done). Precedes d x) (sym one) printed in absurd (Precedes-asymmetric d d itself itself))
    (λ other. ⊎_elim
    (λ here. ⊎_elim (λ less. absurd (omega (arith, less, file))) (λ same. same.1) here.0)
    (λ back. let up = back.1.upto in ⊎_elim (λ less. absurd (omega arith))
    (λ same. ⊎_elim (λ a. let under = back.1.under a.0 in let is = same.0 in absurd (omega arith))
    (λ a. ⊎_elim (λ less. absurd (omega (arith, less, file))) (λ index. index.1) a.1) same.1) printed) other)
    either

-- of requests that have numbers, along a printed order of them
module _ (first : ℕ) (files : List (List Request)) (done : List Done) (numbered : AreNumbered first files done) (order : List Done) (printed : IsPrintedOrder done order) where
  abbrev kept : List Done
  kept = filter is_printed done

  -- what stands in the order was done, and is no SYNC; and the other way round
  was_done : (d : Done) → Contains order d → Contains done d × (is_sync d.request ≡ false)
  was_done d c = let k = filter_contains is_printed done d (Contains-permutation order kept d (IsPermutation-sym kept order printed.same) c) in (k.0, not_sync (is_sync d.request) k.1)

  is_there : (d : Done) → Contains done d → is_sync d.request ≡ false → Contains order d
  is_there d c isnt = Contains-permutation kept order d printed.same (contains_filter is_printed done d c (printed_not (is_sync d.request) isnt))

  about : (d : Done) → Contains done d → IsNumbered first d
  about d c = All-contains (IsNumbered first) done d numbered.each c

  no_sync : (d : Done) → Contains done d → d.wrote ≡ true → is_sync d.request ≡ false
  no_sync d c w = ⊎_elim (λ s. absurd (both_ways d.wrote ((about d c).durable s).1 w)) (λ n. n) (cases_Bool (is_sync d.request))

  all_of_order : (P : Done → Type 0) → ((d : Done) → Contains order d → P d) → All P order
  all_of_order P holds = All-weaker (Contains order) P holds order (All-contains_itself order)

  over : All (λ d. d.wrote ≡ true → first < d.number) order
  over = all_of_order (λ d. d.wrote ≡ true → first < d.number) (λ d c. (about d (was_done d c).0).over)

  -- two of those that wrote have different numbers
  differ : AllPairs Differ order
  differ = pairs_among Precedes Differ order
      (λ d e c c' before w w' same. ⊎_elim
      (λ one. let itself : Precedes d d = subst (λ (x : Done). Precedes d x) (sym one) before in Precedes-asymmetric d d itself itself)
      (λ other. ⊎_elim (λ r. r w w' same) (λ r. r w' w (sym same)) other)
      (one_or_other Differ done d e numbered.differ (was_done d c).0 (was_done e c').0))
      printed.sorted

  -- those that wrote stand in both lists
  same_writers : HaveSameWriters done order
  same_writers d w = ((λ c. is_there d c (no_sync d c w)), (λ c. (was_done d c).0))

  in_files : AllPairs PrecedesInFiles done
  in_files = in_files_from_holding numbered.held.0 done numbered.held.2

  -- of what a filter keeps, what holds of each
  among : (p : Done → Bool) (P : Done → Type 0) → ((d : Done) → IsNumbered first d → p d ≡ true → P d) → All P (filter p done)
  among p P follows = λ k d within. follows _ (All-filter p (IsNumbered first) done numbered.each k d within) (filter_passes p done k d within)

  numbers : NumbersOfOneThread first files done
  numbers = record {
    held = numbered.held;
    distinct =
        pairs_among Differ (λ d e. d.number ≡ e.number → ⊥) (filter (λ d. d.wrote) done)
        (λ d e c c' other. other (filter_contains (λ x. x.wrote) done d c).1 (filter_contains (λ x. x.wrote) done e c').1)
        (AllPairs-filter Differ (λ d. d.wrote) done numbered.differ);
    over = among (λ d. d.wrote) (λ d. first < d.number) (λ d a w. a.over w);
    from = among is_printed (λ d. first ≤ d.number) (λ d a p. a.from (not_sync (is_sync d.request) p));
    syncs = among (λ d. is_sync d.request) (λ d. (d.reply ≡ Durable) × (d.wrote ≡ false)) (λ d a s. a.durable s);
    order = order;
    printed = printed;
    files_in_order =
        pairs_among Precedes (λ d e. d.file ≡ e.file → d.index < e.index) order
        (λ d e c c' before file.
        let x = was_done d c in let y = was_done e c' in
        in_index_order d e before file
        (⊎_elim (λ one. inl one) (λ other. inr (⊎_elim (λ r. inl (r.0, r.1 file x.1 y.1)) (λ r. inr (r.0, r.1 (sym file) y.1 x.1)) other))
        (one_or_other (λ u v. PrecedesInFiles u v × (u.file ≡ v.file → is_sync u.request ≡ false → is_sync v.request ≡ false → IsFollowedBy u v)) done d e
        (λ i j f low within. (in_files i j f low within, numbered.follow i j f low within)) x.0 y.0)))
        printed.sorted;
  }

  -- databases lead along the order, and no others
  pub along_order : (limit : ℕ) (db : Database) (databases : ℕ → Database) → AreDatabases first limit db done databases → (n : ℕ) → first ≤ n → after_number limit db order n ≡ databases n
  along_order limit db databases leads =
      databases_along first limit db order databases printed.sorted differ over (with_writers first limit db done order databases same_writers leads)

  back_along : (limit : ℕ) (db : Database) (databases : ℕ → Database) → ((n : ℕ) → first ≤ n → after_number limit db order n ≡ databases n) → AreDatabases first limit db done databases
  back_along limit db databases along =
      with_writers first limit db order done databases (λ d w. ((same_writers d w).1, (same_writers d w).0))
      (databases_from first limit db order databases printed.sorted differ over along)

  -- with answers on the databases at the numbers
  module _ (limit : ℕ) (db : Database) (databases : ℕ → Database) (leads : AreDatabases first limit db done databases) (answers : AreAnswered limit databases done) where
    -- the database behind those that stand before d in the order
    module _ (l : List Done) (d : Done) (r : List Done) (is : order ≡ l ++ d ∷ r) (along : RepliesAlong limit db l) where
      here : Contains order d
      here = subst (λ (o : List Done). Contains o d) (sym is) (Contains-append_right l (d ∷ r) d (0, omega arith, refl))

      its : IsNumbered first d
      its = about d (was_done d here).0

      pos : d.wrote ≡ true → 0 < d.number
      pos w = let o = its.over w in omega arith

      from : first ≤ answered_at d
      from = ⊎_elim (λ w. rw (answered_under d w) (let o = its.over w in omega arith)) (λ h. rw (answered_there d h) (its.from (was_done d here).1)) (cases_Bool d.wrote)

      sorted_is : AllPairs Precedes (l ++ d ∷ r)
      sorted_is = subst (λ (o : List Done). AllPairs Precedes o) is printed.sorted

      before_upto : All (λ e. e.number ≤ answered_at d) l
      before_upto =
          let p = pairs_at Precedes l d r sorted_is in
          let q = pairs_at Differ l d r (subst (λ (o : List Done). AllPairs Differ o) is differ) in
          λ k e within. upto_before d (get_or l k e) pos (p k e within) (q k e within)

      behind_over : All (λ e. counted (answered_at d) e ≡ false) r
      behind_over = All-weaker (Precedes d) (λ e. counted (answered_at d) e ≡ false) (λ e b. over_behind d e pos b) r (behind_pairs Precedes l d r sorted_is)

      counted_alike : filter (counted (answered_at d)) order ≡ filter (counted (answered_at d)) l
      counted_alike =
          let n = answered_at d in
          ap (filter (counted n)) is ∙ (filter-append (counted n) l (d ∷ r)
          ∙ (ap (λ (x : List Done). filter (counted n) l ++ x) (rw (itself_not d pos) (filter_none (counted n) r behind_over)) ∙ append-nil (filter (counted n) l)))

      database_here : after_order limit db l ≡ databases (answered_at d)
      database_here =
          sym (after_number-all limit db l (answered_at d) along before_upto)
          ∙ (ap (λ (x : List Done). after_requests limit db (map (λ (e : Done). e.request) x)) (sym counted_alike) ∙ along_order limit db databases leads (answered_at d) from)

      answer : IsAnswered limit databases d
      answer = All-contains (λ e. is_sync e.request ≡ false → IsAnswered limit databases e) done d answers (was_done d here).0 (was_done d here).1

      one_more : RepliesAlong limit db (l ++ d ∷ [])
      one_more = RepliesAlong-push limit db l d along (answer.reply ∙ ap (λ (b : Database). reply_to limit b d.request) (sym database_here)) answer.wrote

    replies_from : (l r : List Done) → order ≡ l ++ r → RepliesAlong limit db l → RepliesAlong limit db (l ++ r)
    replies_from l [] is along = subst (λ (x : List Done). RepliesAlong limit db x) (sym (append-nil l)) along
    replies_from l (d ∷ r) is along =
        let assoc = append_assoc l (d ∷ []) r in
        subst (λ (x : List Done). RepliesAlong limit db x) assoc (replies_from (l ++ d ∷ []) r (is ∙ sym assoc) (one_more l d r is along))

    replies : RepliesAlong limit db order
    replies = replies_from [] order refl tt

-- the printed order of requests that have numbers
module _ (first : ℕ) (files : List (List Request)) (done : List Done) (numbered : AreNumbered first files done) where
  result : Sorted (filter is_printed done)
  result =
      let in_order = in_files_from_holding numbered.held.0 done numbered.held.2 in
      sort (filter is_printed done) (pairs_weaker PrecedesInFiles StandApart (filter is_printed done) files_apart (AllPairs-filter PrecedesInFiles is_printed done in_order))

  printed_order : IsPrintedOrder done result.order
  printed_order = record { same = result.same; sorted = result.sorted }

-- the two parts of what is said of one thread
parted : (first limit : ℕ) (db : Database) (files : List (List Request)) (done : List Done) → RepliesOfOneThread first limit db files done → RepliesInOrder first limit db files done
parted first limit db files done r = (r.numbers, r.one_thread)

joined : (first limit : ℕ) (db : Database) (files : List (List Request)) (done : List Done) → RepliesInOrder first limit db files done → RepliesOfOneThread first limit db files done
joined first limit db files done (numbers, along) = record { numbers = numbers; one_thread = along }

pub law_printed : LawOfPrintedOrder
law_printed first files done numbered = numbers first files done numbered (result first files done numbered).order (printed_order first files done numbered)

pub law_parts : LawOfParts
law_parts first limit db files done = (parted first limit db files done, joined first limit db files done)

pub law_replies : LawOfReplies
unfolding numbers
law_replies first limit db files done databases numbered leads answers =
    let order = (result first files done numbered).order in let printed = printed_order first files done numbered in
    joined first limit db files done (numbers first files done numbered order printed, replies first files done numbered order printed limit db databases leads answers)

pub law_databases : LawOfDatabases
law_databases first limit db files done databases numbered = (
  (λ leads. record {
    order = (result first files done numbered).order;
    printed = printed_order first files done numbered;
    along = along_order first files done numbered (result first files done numbered).order (printed_order first files done numbered) limit db databases leads;
  }),
  (λ prints. back_along first files done numbered prints.order prints.printed limit db databases prints.along),
)
