-- The arrays that a medium holds, behind a call and at each moment of it.
use Rattle.std.proofs.Common.{◌≡◌, ℕ, ◌+◌, ◌*◌, ◌<◌, ◌≤◌, All, IsTrue, List, [], ◌∷◌, ◌++◌, length, sym, ap, ◌∙◌, subst, inl, inr, ⊎_elim, arith}
use Rattle.std.specs.List.{Contains}
use Rattle.std.proofs.lemmas.Bool.{cases_lt}
use Rattle.std.proofs.lemmas.List.Elements.{All-cons, All-head, All-nil, All-tail}
use Rattle.std.proofs.lemmas.List.FromFn.{length-map-range_with_len}
use Rattle.dude_base.specs.declared.sizes.Sizes.{Sizes}
use Rattle.dude_base.specs.Image.{home_word}
use Rattle.dude_base.specs.Records.{RedoBundle, first_of}
use Rattle.dude_base.specs.declared.write.Write.{Write}
use Rattle.dude_base.specs.Writes.{overwritten}
use Rattle.pmem_trait.specs.Words.{value_of}
use Rattle.pmem_trait.specs.Sights.{Sight, state_now, AtEveryMoment}
use Rattle.redo_record.specs.Recovery.{AreConsecutive, Recovers, overwritten_by_all}
use Rattle.redo_record.specs.Waiting.{AddsWaiting, IsArrayAt, Lead, Waiting, Waits}
use Rattle.redo_record.specs.LogState.{RecoversAmong}
use Rattle.redo_record.proofs.Reproducing.{overwritten-append}
use Rattle.redo_record.proofs.WaitingRecords.{consecutive_up, lead_more, waiting_law}
use Rattle.back_store.specs.Lanes.{waiting_in}
use Rattle.back_store.specs.Backlog.{log_of}
use Rattle.back_store.specs.Back.{BackState, home_now, waiting_now}
use Rattle.back_store.specs.Answers.{with_record}
use Rattle.back_store.specs.Images.{IsReproduced}
use Rattle.log_numbered.specs.Arrays.{RecoversIn, RunArrays, array_at, last_number, with_writes}
use Rattle.log_numbered.specs.Backs.{Carries, HoldsArrays, LeadsUpTo}
use Rattle.log_numbered.proofs.ArraysOfRuns.{array_stays, one_more}
use Rattle.log_numbered.proofs.LedLogs.{adds, disjoint_added, durable_least, end_added, reproduced_least}

-- a home has as many words as the sizes say
home_length : (s : Sizes) (t : Sight) → length (home_now s t) ≡ s.pages * 64
home_length s t = length-map-range_with_len (λ i. value_of ((state_now t).word (home_word s i))) 0 (s.pages * 64)

-- bundles that lead to a number are up to it
upto_number : (from to : ℕ) (bs : List RedoBundle) → AreConsecutive from bs to → All (λ b. b.last ≤ to) bs
upto_number from to [] lead = All-nil (λ (b : RedoBundle). b.last ≤ to)
upto_number from to (b ∷ bs) lead = All-cons (λ (c : RedoBundle). c.last ≤ to) b bs (consecutive_up b.last to bs lead.1) (upto_number b.last to bs lead.1)

-- those that lead to a number under the new bundle's last waited before it
waited : (w : Waiting) (old new : List Waiting) (to : ℕ) (bs : List RedoBundle) → AddsWaiting w old new → to < w.redo.last → All (λ b. b.last ≤ to) bs → All (Waits new) bs → All (Waits old) bs
waited w old new to [] adds over upto all = All-nil (Waits old)
waited w old new to (b ∷ bs) adds over upto all =
    let here = All-head (Waits new) b bs all in
    let low : b.last ≤ to = All-head (λ (c : RedoBundle). c.last ≤ to) b bs upto in
    All-cons (Waits old) b bs
    (⊎_elim
    (λ was. record { ring = here.ring; is_one = was })
    (λ is. let same : b.last ≡ w.redo.last = ap (λ (u : Waiting). u.redo.last) is in absurd (omega arith))
    (adds.only _ here.is_one))
    (waited w old new to bs adds over (All-tail (λ (c : RedoBundle). c.last ≤ to) b bs upto) (All-tail (Waits new) b bs all))

-- where nothing waits the one array is the home
pub array_alone : {waiting : List Waiting} {from n : ℕ} {home array : List ℕ} → ((w : Waiting) → Contains waiting w → ⊥) → IsArrayAt waiting from home n array → (n ≡ from) × (array ≡ home)
array_alone {waiting} {from} {n} {home} {array} none is = alone is.records is.lead is.result
  where
    alone : (bs : List RedoBundle) → Lead waiting from bs n → array ≡ overwritten_by_all bs home → (n ≡ from) × (array ≡ home)
    alone [] lead result = (sym lead.consecutive, result)
    alone (b ∷ bs) lead result = let here = All-head (Waits waiting) b bs lead.wait in absurd (none _ here.is_one)

-- ---- a bundle more

module _ (v : BackState) (last : ℕ) (leads : LeadsUpTo v last) (ring : ℕ) (b : RedoBundle) (below : ring < v.log.sizes.rings) (next : first_of b ≡ last + 1) where
  low : v.log.reproduced ≤ last
  low = let d = durable_least v last leads in let e = reproduced_least v last leads in omega arith

  -- behind those that lead to the number before it
  array_with : (home array : List ℕ) → IsArrayAt (waiting_now v) v.log.reproduced home last array → IsArrayAt (waiting_now (with_record ring b v)) v.log.reproduced home b.last (overwritten b.writes array)
  array_with home array is = record {
    records = is.records ++ b ∷ [];
    lead = waiting_law.next (waiting_now (with_record ring b v)) v.log.reproduced last is.records b (lead_more (adds v last leads ring b below next) is.lead) (record { ring = ring; is_one = (adds v last leads ring b below next).one }) next;
    result = ap (overwritten b.writes) is.result ∙ sym (overwritten-append is.records (b ∷ []) home);
  }

  -- an array up to the old end was there before
  array_before : (home array : List ℕ) (n : ℕ) → n ≤ last → IsArrayAt (waiting_now (with_record ring b v)) v.log.reproduced home n array → IsArrayAt (waiting_now v) v.log.reproduced home n array
  array_before home array n upto is = record {
    records = is.records;
    lead = record {
      wait = waited (waiting_in ring b) (waiting_now v) (waiting_now (with_record ring b v)) n is.records (adds v last leads ring b below next) (omega arith) (upto_number v.log.reproduced n is.records is.lead.consecutive) is.lead.wait;
      consecutive = is.lead.consecutive;
    };
    result = is.result;
  }

  -- one over it is that at the bundle's last number
  at_last : (home array : List ℕ) (n : ℕ) → last < n → IsArrayAt (waiting_now (with_record ring b v)) v.log.reproduced home n array → n ≡ b.last
  at_last home array n over is =
      let new : List Waiting = waiting_now (with_record ring b v) in
      let upto = (waiting_law.within new v.log.reproduced b.last n home array (disjoint_added v last leads ring b below next) (end_added v last leads ring b below next) is).1 in
      let from = low in
      let at = waiting_law.covered new v.log.reproduced n (last + 1) is.records is.lead (omega arith) (omega arith) in
      let high = at.2.high in
      ⊎_elim
      (λ old. let le = leads.none_over at.0 old in absurd (omega arith))
      (λ is_new. let same : at.0.redo.last ≡ b.last = ap (λ (u : Waiting). u.redo.last) is_new in let most = at.3 in omega arith)
      ((adds v last leads ring b below next).only at.0 at.1)

  pub holds_added : (a : RunArrays) (s t : Sight) → overwritten b.writes (array_at a last) ≡ array_at a b.last → home_now v.log.sizes t ≡ home_now v.log.sizes s → HoldsArrays a v s → HoldsArrays a (with_record ring b v) t
  holds_added a s t array same holds = record {
    from = holds.from;
    size = holds.size ∙ ap length (sym same);
    arrays = λ n other there.
        let home : List ℕ = home_now v.log.sizes s in
        let is : IsArrayAt (waiting_now (with_record ring b v)) v.log.reproduced home n other = subst (λ h. IsArrayAt (waiting_now (with_record ring b v)) v.log.reproduced h n other) same there in
        elim (cases_lt last n) [
          | inl over ↦
              let old = waiting_law.arrays (waiting_now v) v.log.reproduced last home (record { records = leads.end.records; lead = leads.end.lead }) in
              let new : IsArrayAt (waiting_now (with_record ring b v)) v.log.reproduced home b.last (overwritten b.writes old.0) = array_with home old.0 old.1 in
              let at : n ≡ b.last = at_last home other n over is in
              waiting_law.one_array (waiting_now (with_record ring b v)) v.log.reproduced b.last home other (overwritten b.writes old.0) (disjoint_added v last leads ring b below next)
              (subst (λ m. IsArrayAt (waiting_now (with_record ring b v)) v.log.reproduced home m other) at is) new
              ∙ ap (overwritten b.writes) (holds.arrays last old.0 old.1) ∙ array ∙ ap (array_at a) (sym at)
          | inr upto ↦ holds.arrays n other (array_before home other n upto is)
        ];
  }

-- ---- the others

-- where all was reproduced
pub holds_reproduced : (v w : BackState) (number : ℕ) (a : RunArrays) (s t : Sight) → w.log.sizes ≡ v.log.sizes → w.log.reproduced ≡ number → v.log.reproduced ≤ number → ((u : Waiting) → Contains (waiting_now w) u → ⊥) → IsReproduced v w number s t
    → HoldsArrays a v s → HoldsArrays a w t
holds_reproduced v w number a s t sizes is up none done holds = record {
  from = (let from = holds.from in omega arith);
  size = holds.size ∙ (home_length v.log.sizes s ∙ sym (ap (λ (z : Sizes). length (home_now z t)) sizes ∙ home_length v.log.sizes t));
  arrays = λ n array there.
      let alone = array_alone none there in
      alone.1 ∙ ap (λ (z : Sizes). home_now z t) sizes ∙ holds.arrays number (home_now v.log.sizes t) done.home ∙ ap (array_at a) (sym (alone.0 ∙ is));
}

-- one array more, behind the end
pub holds_more : (v : BackState) (last : ℕ) (a : RunArrays) (ws : List Write) (s : Sight) → LeadsUpTo v last → last ≤ last_number a → HoldsArrays a v s → HoldsArrays (with_writes ws a) v s
holds_more v last a ws s leads upto holds = record {
  from = holds.from;
  size = holds.size;
  arrays = λ n array is.
      let within = (waiting_law.within (waiting_now v) v.log.reproduced last n (home_now v.log.sizes s) array leads.lawful.lanes.distinct leads.end is).1 in
      holds.arrays n array is ∙ sym (array_stays ws a n (omega arith));
}

-- the back carries the arrays where there is one more
pub carries_more : (before : ℕ) (v : BackState) (end : ℕ) (a : RunArrays) (ws : List Write) (s : Sight) → LeadsUpTo v end → Carries before a v end s → Carries before (with_writes ws a) v end s
carries_more before v end a ws s leads is = record {
  from = is.from;
  upto = (let upto = is.upto in let more = one_more ws a in omega arith);
  keeps = is.keeps;
  holds = λ visible. holds_more v end a ws s leads is.upto (is.holds visible);
}

-- an image that recovers to one of the waiting records' arrays does so to one of the run's
pub recovers_in : (w : BackState) (a : RunArrays) (s : Sight) (before low high : ℕ) (told image : List ℕ) → HoldsArrays a w s → high ≤ last_number a
    → RecoversAmong (log_of w.log (home_now w.log.sizes s)) before low high told image → RecoversIn w.log.sizes a low before told image
recovers_in w a s before low high told image holds upto is =
    let most : is.number ≤ last_number a = (let most = is.most in omega arith) in
    record {
      number = is.number;
      from = is.least;
      most = most;
      recovered = subst (Recovers image is.number) (holds.arrays is.number is.array is.is_array) is.recovered;
      same_sizes = is.same_sizes;
      floor = is.floor;
    }

-- it still does where the run gets one array more
pub recovers_more : (ws : List Write) (sizes : Sizes) (a : RunArrays) (least before : ℕ) (told image : List ℕ) → RecoversIn sizes a least before told image → RecoversIn sizes (with_writes ws a) least before told image
recovers_more ws sizes a least before told image is = record {
  number = is.number;
  from = is.from;
  most = (let most = is.most in let more = one_more ws a in omega arith);
  recovered = subst (Recovers image is.number) (sym (array_stays ws a is.number is.most)) is.recovered;
  same_sizes = is.same_sizes;
  floor = is.floor;
}

-- a property that asks less where the medium is visible
pub moments_less : {P Q : List ℕ → List ℕ → Type 0} {s t : Sight} → (IsTrue s.is_visible → (told image : List ℕ) → P told image → Q told image) → AtEveryMoment P s t → AtEveryMoment Q s t
moments_less less moments = record {
  later = moments.later;
  each = λ visible m from upto. record { each = λ image is. less visible _ image ((moments.each visible m from upto).each image is) };
}
