-- What transactions that ran answered, what every image recovers to meanwhile, and at their end.
use Rattle.std.proofs.Common.{◌≡◌, ◌⊎◌, inl, inr, ⊎_elim, ℕ, ◌+◌, ◌<◌, ◌≤◌, Bool, false, true, IsTrue, List, [], ◌∷◌, ◌++◌, length, refl, sym, ap, ◌∙◌, subst, arith, append-nil, append_assoc, length-append}
use Rattle.std.specs.List.{All, Contains}
use Rattle.std.proofs.lemmas.Bool.{cases_Bool, both_ways}
use Rattle.std.proofs.lemmas.List.Elements.{All-contains, All-contains_itself, All-head, All-weaker}
use Rattle.dude_base.specs.declared.sizes.Sizes.{Sizes}
use Rattle.pmem_trait.specs.Words.{AtLeast, EveryImage}
use Rattle.pmem_trait.specs.Sights.{Sight, state_now}
use Rattle.tatp_model.specs.declared.done.Done.{Done}
use Rattle.tatp_model.specs.declared.request.Request.{Request}
use Rattle.tatp_model.specs.Database.{Database}
use Rattle.tatp_model.specs.OneThread.{RepliesOfOneThread, is_sync}
use Rattle.tatp_layout.specs.StandsFor.{StandsFor}
use Rattle.dude_recover.specs.Opened.{HoldsOpened}
use Rattle.back_store.specs.Told.{WereTold}
use Rattle.core_events.specs.Setups.{Setup}
use Rattle.core_events.specs.Views.{Entry}
use Rattle.run_order.specs.Numbers.{AreAnswered, AreDatabases, AreNumbered}
use Rattle.run_order.specs.Printed.{NumbersOfOneThread, PrintsAt}
use Rattle.run_order.proofs.Members.{map_contains}
use Rattle.run_order.proofs.NumbersPrinted.{law_databases, law_printed, law_replies}
use Rattle.legal_entries.specs.Served.{LeadsThrough, done_of}
use Rattle.legal_entries.proofs.Carrying.{law_done, law_numbered}
use Rattle.legal_entries.proofs.Law.{law}
use Rattle.tiny_stm.specs.Ended.{RecoversUpTo}
use Rattle.dude_engine.specs.Endings.{End, LosesAtMost, RecoversNear, WasToldLast}
use Rattle.dude_engine.specs.Opening.{Opening, RecoversAmong, RecoversAt, last_of}
use Rattle.dude_engine.proofs.Numbering.{greatest_within}
use Rattle.run_threads.specs.Answers.{TellsSyncsOnThreads}
use Rattle.run_threads.specs.Ends.{AnyNumber, RecoversOnThreads}
use Rattle.run_threads.specs.HasRun.{AreEntriesDone, HasRun}
use Rattle.run_threads.proofs.ToldOnTheWay.{every_moment_told, floor_before, told_in}

by_more : (durable : ℕ) (s t : Sight) (earlier more : List ℕ) → length more ≤ 1 → All (λ n. durable ≤ n) more → (state_now t).told ≡ (state_now s).told ++ earlier ++ durable ∷ more
    → (n : ℕ) × WasToldLast n s t × (durable ≤ n)
by_more durable s t earlier [] few no_less is = (durable, ((state_now s).told ++ earlier, is, omega (arith, length-append (state_now s).told earlier)), omega arith)
by_more durable s t earlier (x ∷ []) few no_less is =
    let before = (state_now s).told ++ earlier in
    (x, (before ++ durable ∷ [], is ∙ sym (append_assoc before (durable ∷ []) (x ∷ [])), omega (arith, length-append before (durable ∷ []), length-append (state_now s).told earlier)), All-head (λ n. durable ≤ n) x [] no_less)
by_more durable s t earlier (x ∷ y ∷ more) few no_less is = absurd (omega arith)

none_more : (durable : ℕ) (s t : Sight) (more : List ℕ) → length more ≤ 1 → All (λ n. durable ≤ n) more → (state_now t).told ≡ (state_now s).told ++ more
    → ((state_now t).told ≡ (state_now s).told) ⊎ ((n : ℕ) × WasToldLast n s t × (durable ≤ n))
none_more durable s t [] few no_less is = inl (is ∙ append-nil (state_now s).told)
none_more durable s t (x ∷ []) few no_less is = inr (x, ((state_now s).told, is, omega arith), All-head (λ n. durable ≤ n) x [] no_less)
none_more durable s t (x ∷ y ∷ more) few no_less is = absurd (omega arith)

-- the durable number is the first one and none was told, or one that was told last is no less
pub told_last : (well : Bool) (first durable : ℕ) (s t : Sight) → WereTold well first durable (state_now s).told (state_now t).told
    → ((durable ≡ first) × ((state_now t).told ≡ (state_now s).told)) ⊎ ((n : ℕ) × WasToldLast n s t × (durable ≤ n))
told_last well first durable s t told = ⊎_elim
    (λ (none : (state_now t).told ≡ (state_now s).told ++ told.0 × durable ≡ first). ⊎_elim
    (λ (same : (state_now t).told ≡ (state_now s).told). inl (none.1, same))
    (λ (some : (n : ℕ) × WasToldLast n s t × (durable ≤ n)). inr some)
    (none_more durable s t told.0 told.2 told.3 none.0))
    (λ (some : (earlier : List ℕ) × ((state_now t).told ≡ (state_now s).told ++ earlier ++ durable ∷ told.0)). inr (by_more durable s t some.0 told.0 told.2 told.3 some.1))
    told.4

module _ (z : Setup) (sizes : Sizes) (es : List Entry) (last durable : ℕ) (well : Bool) (s t : Sight) (run : HasRun z sizes es last durable well s t)
    (synced : ℕ) (files : List (List Request)) (done : List Done) (are : AreEntriesDone sizes z.first synced files es done) (upto : synced ≤ durable) where
  pub numbered : AreNumbered z.first files done
  numbered = law_numbered z.first sizes files es done run.numbers are.served are.done_by

  pub numbers : NumbersOfOneThread z.first files done
  numbers = law_printed z.first files done numbered

  pub syncs : TellsSyncsOnThreads z.first done s t
  syncs = record {
    follow = are.follow;
    from = All-weaker (λ d. IsTrue (is_sync d.request) → (z.first ≤ d.number) × (d.number ≤ synced)) (λ d. IsTrue (is_sync d.request) → z.first ≤ d.number) (λ d h sync. (h sync).0) done are.syncs;
    told = λ visible. All-weaker (λ d. IsTrue (is_sync d.request) → (z.first ≤ d.number) × (d.number ≤ synced)) (λ d. IsTrue (is_sync d.request) → ((d.number ≡ z.first) × ((state_now t).told ≡ (state_now s).told)) ⊎ ((n : ℕ) × WasToldLast n s t × (d.number ≤ n)))
        (λ d h sync. let both = h sync in ⊎_elim
        (λ (none : (durable ≡ z.first) × ((state_now t).told ≡ (state_now s).told)). inl ((let low = both.0 in let high = both.1 in let is = none.0 in omega arith), none.1))
        (λ (some : (n : ℕ) × WasToldLast n s t × (durable ≤ n)). inr (some.0, some.1, (let high = both.1 in let most = some.2 in omega arith)))
        (told_last well z.first durable s t (run.told visible))) done are.syncs;
  }

  -- no number is over the last one
  pub none_over : durable ≤ last → All (λ d. d.number ≤ last) done
  none_over within = All-weaker (Contains done) (λ d. d.number ≤ last) (λ d among. ⊎_elim
      (λ (sync : is_sync d.request ≡ true). let both = All-contains (λ d. IsTrue (is_sync d.request) → (z.first ≤ d.number) × (d.number ≤ synced)) done d are.syncs among sync in let high = both.1 in omega arith)
      (λ (other : is_sync d.request ≡ false).
      let e = map_contains done_of es d ((are.done_by.same d other).0 among) in
      let most : e.0.number ≤ last = All-contains (λ (x : Entry). x.number ≤ last) es e.0 run.upto e.1 in
      let same : e.0.number ≡ d.number = ap (λ (x : Done). x.number) e.2 in omega arith)
      (cases_Bool (is_sync d.request))) done (All-contains_itself done)

  module _ (db : Database) (stands : StandsFor sizes z.opening db) where
    abbrev pub opening : Opening
    opening = record { number = z.first; sizes = sizes; database = db }

    module _ (told : z.is_told ≡ true) where
      pub through : LeadsThrough z.first sizes z.opening db es
      through = law z.first sizes z.opening db es stands (run.legal told) are.served

      pub answered : AreNumbered z.first files done × AreDatabases z.first sizes.calls db done through.databases × AreAnswered sizes.calls through.databases done
      answered = law_done z.first sizes z.opening db files es done through are.done_by

      pub replies : RepliesOfOneThread z.first sizes.calls db files done
      replies = law_replies z.first sizes.calls db files done through.databases answered.0 answered.1 answered.2

      pub prints : PrintsAt z.first sizes.calls db done through.databases
      prints = (law_databases z.first sizes.calls db files done through.databases answered.0).0 answered.1

      -- an image that recovers to the values at a number recovers to the database there
      pub database_at : (before : ℕ) (said image : List ℕ) (r : RecoversUpTo z es last sizes before said image) → RecoversAt opening prints.order image r.number
      database_at before said image r =
          let size = through.words r.number r.array (r.values.size ∙ stands.size) (λ i lt. r.values.words i (subst (λ (n : ℕ). i < n) (sym stands.size) lt)) in
          let is : StandsFor sizes r.array (through.databases r.number) = subst (λ (array : List ℕ). StandsFor sizes array (through.databases r.number)) (sym size) (through.stands r.number) in
          record {
            array = r.array;
            recovered = r.recovered;
            same_sizes = r.same_sizes;
            stands = subst (λ (base : Database). StandsFor sizes r.array base) (sym (prints.along r.number r.from)) is;
          }

    pub moments : (IsTrue s.is_visible → z.is_told ≡ true) → RecoversOnThreads opening z.opening done s t
    moments where_seen before held = ⊎_elim
        (λ (seen : s.is_visible ≡ true).
        let told = where_seen seen in let p = prints told in (
          p.order,
          p.printed,
          every_moment_told {P = RecoversUpTo z es last sizes (length (state_now s).told)} {Q = RecoversAmong (AnyNumber p.order) before opening p.order} run.ran (λ visible said image more r.
              (r.number, r.from, floor_before before z.first r.number (state_now s).told said more (held.keeps.told refl visible) r.from r.floor, tt, database_at told (length (state_now s).told) said image r)) (run.images before held.keeps),
        ))
        (λ (unseen : s.is_visible ≡ false).
        (numbers.order, numbers.printed, record { later = run.later; each = λ visible m from most. absurd (both_ways s.is_visible unseen visible) }))
        (cases_Bool s.is_visible)

    -- where the last number was told last, every image recovers to it
    pub end : z.is_told ≡ true → (before : ℕ) → HoldsOpened before sizes z.first z.opening s → IsTrue s.is_visible → WasToldLast last s t → End opening done last s t
    end told before held visible said = let p = prints told in record {
      told = said;
      order = p.order;
      printed = p.printed;
      images = subst (λ (n : ℕ). EveryImage n (λ told image. RecoversAt opening p.order image last) (state_now t)) (sym run.later.len)
          (record {
            each = λ image is.
                let r = ((run.images before held.keeps).each visible t.now run.later.now (omega arith)).each image is in
                let low : last ≤ r.number = r.floor last (told_in last (length (state_now s).told) said.0 (state_now t).told said.1 said.2) in
                let same : r.number ≡ last = (let high = r.upto in omega arith) in
                subst (λ (n : ℕ). RecoversAt opening p.order image n) same (database_at told (length (state_now s).told) (state_now t).told image r);
          });
    }

    -- where each number that is at least all told since is close to the greatest one done, few are lost
    pub near : z.is_told ≡ true → (most before : ℕ) → HoldsOpened before sizes z.first z.opening s → IsTrue s.is_visible
        → ((n : ℕ) → z.first ≤ n → AtLeast (length (state_now s).told) (state_now t).told n → last_of z.first done ≤ n + most) → LosesAtMost most opening done t
    near told most before held visible low = let p = prints told in record {
      order = p.order;
      printed = p.printed;
      images = subst (λ (n : ℕ). EveryImage n (λ told image. RecoversNear most opening done p.order image) (state_now t)) (sym run.later.len)
          (record {
            each = λ image is.
                let r = ((run.images before held.keeps).each visible t.now run.later.now (omega arith)).each image is in
                (r.number, low r.number r.from r.floor, database_at told (length (state_now s).told) (state_now t).told image r);
          });
    }

    -- where the last number was told last, none is lost
    pub none_lost : z.is_told ≡ true → durable ≤ last → z.first ≤ last → (most before : ℕ) → HoldsOpened before sizes z.first z.opening s → IsTrue s.is_visible → WasToldLast last s t → LosesAtMost most opening done t
    none_lost told within first most before held visible said = near told most before held visible (λ n from floor.
        let low : last ≤ n = floor last (told_in last (length (state_now s).told) said.0 (state_now t).told said.1 said.2) in
        let greatest : last_of z.first done ≤ last = greatest_within last z.first done first (none_over within) in omega arith)
