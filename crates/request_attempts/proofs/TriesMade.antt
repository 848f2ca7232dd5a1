-- A transaction for a request, and the turn that follows where it can't get on, are a try.
use Rattle.std.proofs.Common.{◌≡◌, ◌≢◌, ℕ, ◌+◌, ◌*◌, ◌<◌, ◌≤◌, ◌⊎◌, leb, Bool, true, false, refl, sym, ap, ◌∙◌, subst, inl, inr, ⊎_elim, arith}
use Rattle.std.specs.Prelude.{Some, Ok}
use Rattle.std.proofs.lemmas.Bool.{cases_Bool, leb-true, leb-false}
use Rattle.dude_base.specs.declared.sizes.Sizes.{Sizes}
use Rattle.pmem_trait.specs.Faults.{up_to_last}
use Rattle.word_space.specs.declared.stop.Stop.{Stop}
use Rattle.word_space.specs.declared.stop.Stop.TheVariants as stop
use Rattle.tatp_model.specs.declared.request.Request.{Request}
use Rattle.tatp_model.specs.OneThread.{is_sync}
use Rattle.tatp_model.specs.declared.done.Done.{Done as DoneOf}
use Rattle.core_events.specs.Views.{View}
use Rattle.core_table.specs.Layout.{TableSight}
use Rattle.stm_transactions.specs.declared.lost.Lost.{Lost}
use Rattle.stm_transactions.specs.declared.lost.Lost.TheVariants as lost
use Rattle.stm_transactions.specs.declared.pass_numbers.PassNumbers.{PassNumbers}
use Rattle.stm_transactions.specs.Numbers.{after_draw, bit, with_refusals}
use Rattle.stm_transactions.specs.Passes.{PassSight, IsResting, IsRefused, pass_view}
use Rattle.stm_transactions.specs.Counts.{after_commit}
use Rattle.stm_transactions.specs.Stops.{counts}
use Rattle.request_attempts.specs.declared.tried.Tried.{Tried}
use Rattle.request_attempts.specs.declared.tried.Tried.TheVariants.{Done, Again, Device, NoMemory}
use Rattle.request_attempts.specs.Counting.{LAST_COUNT, RisesBy}
use Rattle.request_attempts.specs.Served.{HasServed}
use Rattle.request_attempts.specs.AfterOnce.{HasStopped, WasLost, CountsEntry}
use Rattle.request_attempts.specs.Turns.{HasFailed, HasFetched, HasPumped, KeepsPass, KeepsRest, WasRefused}
use Rattle.request_attempts.specs.Tries.{IsServing, IsUnserved, IsAgain, HasGained, AnswersAtOnce, AnswersBy, AfterFull, AfterOut, AfterStop, AfterTry, stop_for}

bit_few : (b : Bool) → bit b ≤ 1
bit_few true = omega arith
bit_few false = omega arith

-- more refusals, unless the count stands at its last value
more_by : (n k : ℕ) → (LAST_COUNT ≤ up_to_last (n + k)) ⊎ (up_to_last (n + k) ≡ n + k)
more_by n k = elim (cases_Bool (leb LAST_COUNT (n + k))) [
  | inl h ↦ inl (let l = leb-true LAST_COUNT (n + k) h in omega arith)
  | inr h ↦ inr (let l = leb-false LAST_COUNT (n + k) h in omega arith)
]

-- one refusal is enough for a try
one_more : (a b : ℕ) (x y : Bool) → a < b → 2 * a + bit x < 2 * b + bit y
one_more a b x y lt = let f = bit_few x in omega arith

-- so many refusals and more are refusals enough
pub rises_less : (a b k l : ℕ) → l ≤ k → RisesBy k a b → RisesBy l a b
rises_less a b k l le r = ⊎_elim (λ x. inl (omega arith)) (λ last. inr last) r

-- what a transaction leaves that made no entry, drew so many numbers and counted so many refusals
record IsBare {X : Type 0} (used k : ℕ) (p m : PassSight X) : Type 0 where
  pub part : (pass_view m).part ≡ (pass_view p).part
  pub entries : (pass_view m).entries ≡ (pass_view p).entries
  pub last : m.numbers.last ≡ p.numbers.last
  pub no_fault : m.numbers.met_fault ≡ p.numbers.met_fault
  pub draws : m.numbers.left + used ≡ p.numbers.left
  pub few : used ≤ 1
  pub rises : p.numbers.refused ≤ m.numbers.refused
  pub durable : m.numbers.durable ≡ p.numbers.durable
  pub counts : RisesBy k p.numbers.refused m.numbers.refused

module _ {X K : Type 0} (t : TableSight K) (p m r : PassSight X) where
  fewer : (used k l : ℕ) → l ≤ k → IsBare used k p m → IsBare used l p m
  fewer used k l le b = record { part = b.part; entries = b.entries; last = b.last; no_fault = b.no_fault; draws = b.draws; few = b.few; rises = b.rises; durable = b.durable; counts = rises_less p.numbers.refused m.numbers.refused k l le b.counts }

  -- one that counts a refusal for itself, and nothing behind it
  again_same : (used : ℕ) → IsBare used 1 p m → IsResting t m → IsAgain t p m
  again_same used b rests = record {
    pass = record { rests = rests; part = b.part; entries = b.entries; last = b.last; rises = b.rises; durable = (let d = b.durable in omega arith) };
    no_fault = b.no_fault;
    draws = record { used = used; draws = b.draws; few = b.few };
    counts = ⊎_elim (λ n. inr ((let f = b.few in omega arith), one_more p.numbers.refused m.numbers.refused p.numbers.had_turn m.numbers.had_turn (omega arith))) (λ l. inl l) b.counts;
  }

  -- a turn behind it keeps the durable number
  kept_bare : (used k : ℕ) → IsBare used k p m → KeepsRest t m r → p.numbers.durable ≤ r.numbers.durable
  kept_bare used k b c = let d = b.durable in let e = c.pass.durable in omega arith

  -- and so all that a try keeps
  kept_pass : (used k : ℕ) → IsBare used k p m → KeepsRest t m r → KeepsPass t p r
  kept_pass used k b c = record {
    rests = c.pass.rests;
    part = c.pass.part ∙ b.part;
    entries = c.pass.entries ∙ b.entries;
    last = c.pass.last ∙ b.last;
    rises = (let a = b.rises in let e = c.pass.rises in omega arith);
    durable = kept_bare used k b c;
  }

  -- and a turn behind it
  again_turned : (used : ℕ) → IsBare used 1 p m → HasGained t m r → IsAgain t p r
  again_turned used b g = let c = g.keeps.pass.rises in record {
    pass = kept_pass used 1 b g.keeps;
    no_fault = g.no_fault ∙ b.no_fault;
    draws = record { used = used; draws = ap (λ (n : ℕ). n + used) g.keeps.left ∙ b.draws; few = b.few };
    counts = ⊎_elim (λ n. inr ((let f = b.few in omega arith), one_more p.numbers.refused r.numbers.refused p.numbers.had_turn r.numbers.had_turn (omega arith))) (λ l. inl (omega arith)) b.counts;
  }

  -- a turn that was refused, or had
  refused_gains : WasRefused t m r → HasGained t m r
  refused_gains w = record {
    keeps = w.keeps;
    no_fault = w.no_fault;
    had = w.had;
    gains = ⊎_elim (λ l. inl (let is = w.counts in omega arith)) (λ n. inr (inl (let is = w.counts in omega arith))) (more_by m.numbers.refused 1);
  }

  pumped_gains : (n : ℕ) → HasPumped t m r n → HasGained t m r
  pumped_gains n h = record { keeps = h.keeps; no_fault = h.no_fault; had = λ had. h.had; gains = inr (inr h.had) }

  fetched_gains : (page : ℕ) → HasFetched t page m r → HasGained t m r
  fetched_gains page h = record { keeps = h.keeps; no_fault = h.no_fault; had = λ had. h.had; gains = inr (inr h.had) }

  -- nothing behind it, with this answer
  at_once : (used : ℕ) → IsBare used 1 p m → IsResting t m → (s : Sizes) (file index : ℕ) (q : Request) (x : Tried) → AnswersAtOnce Again x m r → AfterTry t s file index q x p r
  at_once used b rests s file index q x a = subst (λ (y : Tried). AfterTry t s file index q y p r) (sym a.0) (subst (λ (y : PassSight X). IsAgain t p y) (sym a.1) (again_same used b rests))

  unserved : (k : ℕ) → IsBare 0 k p m → HasFailed t m r → IsUnserved 0 t p r × (r.numbers.met_fault ≡ true)
  unserved k b f = (
    record {
      rests = f.keeps.pass.rests;
      part = f.keeps.pass.part ∙ b.part;
      entries = f.keeps.pass.entries ∙ b.entries;
      draws = record { used = 0; draws = ap (λ (n : ℕ). n + 0) f.keeps.left ∙ b.draws; few = omega arith };
      durable = kept_bare 0 k b f.keeps;
    },
    f.fault,
  )

-- the refusals of p and k more
module _ {X : Type 0} (p m : PassSight X) (small : up_to_last p.numbers.refused ≡ p.numbers.refused) where
  counts_of : (k : ℕ) → m.numbers.refused ≡ up_to_last (p.numbers.refused + k) → RisesBy k p.numbers.refused m.numbers.refused
  counts_of k is = ⊎_elim (λ l. inr (omega arith)) (λ n. inl (omega arith)) (more_by p.numbers.refused k)

  rises_of : (k : ℕ) → m.numbers.refused ≡ up_to_last (p.numbers.refused + k) → p.numbers.refused ≤ m.numbers.refused
  rises_of k is = omega arith

  -- at most one number was drawn, and so many refusals are new
  drew_bare : (used k : ℕ) (f : PassNumbers) → used ≤ 1 → (pass_view m).part ≡ (pass_view p).part → (pass_view m).entries ≡ (pass_view p).entries → m.numbers ≡ f
      → f.last ≡ p.numbers.last → f.met_fault ≡ p.numbers.met_fault → f.left + used ≡ p.numbers.left → f.durable ≡ p.numbers.durable → f.refused ≡ up_to_last (p.numbers.refused + k) → IsBare used k p m
  drew_bare used k f few part entries is last no_fault left durable refused = let n = ap (λ (x : PassNumbers). x.refused) is ∙ refused in record {
    part = part;
    entries = entries;
    last = ap (λ (x : PassNumbers). x.last) is ∙ last;
    no_fault = ap (λ (x : PassNumbers). x.met_fault) is ∙ no_fault;
    draws = ap (λ (x : PassNumbers). x.left + used) is ∙ left;
    few = few;
    rises = rises_of k n;
    durable = ap (λ (x : PassNumbers). x.durable) is ∙ durable;
    counts = counts_of k n;
  }

  -- only refusals are new
  refused_bare : (k : ℕ) → (pass_view m).part ≡ (pass_view p).part → (pass_view m).entries ≡ (pass_view p).entries → m.numbers ≡ with_refusals k p.numbers → IsBare 0 k p m
  refused_bare k part entries is = drew_bare 0 k (with_refusals k p.numbers) (omega arith) part entries is refl refl (omega arith) refl refl

-- ---- a full box
module _ {X K : Type 0} (t : TableSight K) (seen : ℕ) (p m : PassSight X) (small : up_to_last p.numbers.refused ≡ p.numbers.refused) (h : IsRefused t seen p m) where
  full_bare : (b : Bool) → p.numbers.had_turn ≡ b → IsBare 0 (bit b) p m
  full_bare b is = refused_bare p m small (bit b) (ap (λ (v : View). v.part) h.looked.view) (ap (λ (v : View). v.entries) h.looked.view) (h.numbers ∙ ap (λ (x : Bool). with_refusals (bit x) p.numbers) is)

  full_again : (r : PassSight X) → HasGained t m r → IsAgain t p r
  full_again r g = ⊎_elim
      (λ b1. again_turned t p m r 0 (full_bare true b1) g)
      (λ b0. let b = full_bare false b0 in
      let less : 2 * p.numbers.refused + bit p.numbers.had_turn ≡ 2 * p.numbers.refused + 0 = ap (λ (x : Bool). 2 * p.numbers.refused + bit x) b0 in
      let a = b.rises in
      let c = g.keeps.pass.rises in
      record {
        pass = kept_pass t p m r 0 0 b g.keeps;
        no_fault = g.no_fault ∙ b.no_fault;
        draws = record { used = 0; draws = ap (λ (n : ℕ). n + 0) g.keeps.left ∙ b.draws; few = omega arith };
        counts = ⊎_elim (λ l. inl l) (λ gain. ⊎_elim
            (λ lt. inr (omega arith, omega arith))
            (λ had. inr (omega arith, rw had (omega arith)))
            gain) g.gains;
      })
      (cases_Bool p.numbers.had_turn)

  pub full_try : (s : Sizes) (file index : ℕ) (q : Request) (x : Tried) (r : PassSight X) → AfterFull t x m r → AfterTry t s file index q x p r
  full_try s file index q (Done d) r a = absurd a
  full_try s file index q Again r a = full_again r (⊎_elim (λ h. pumped_gains t p m r h.0 h.1) (λ w. refused_gains t p m r w) a)
  full_try s file index q Device r a = unserved t p m r (bit p.numbers.had_turn) (full_bare p.numbers.had_turn refl) a
  full_try s file index q NoMemory r a = absurd a

-- ---- a page that is out
out_try : {X K : Type 0} (t : TableSight K) (page : ℕ) (p m : PassSight X) → IsBare 0 1 p m → (s : Sizes) (file index : ℕ) (q : Request) (x : Tried) (r : PassSight X) → AfterOut t page x m r → AfterTry t s file index q x p r
out_try t page p m b s file index q (Done d) r a = absurd a
out_try t page p m b s file index q Again r a = again_turned t p m r 0 b (⊎_elim (λ h. fetched_gains t p m r page h) (λ w. refused_gains t p m r w) a)
out_try t page p m b s file index q Device r a = unserved t p m r 1 b a
out_try t page p m b s file index q NoMemory r a = absurd a

-- ---- a Stop
module _ {X K : Type 0} (t : TableSight K) (e : Stop) (p m : PassSight X) (small : up_to_last p.numbers.refused ≡ p.numbers.refused) (h : HasStopped t e p m) where
  stop_bare : IsBare 0 h.refusals p m
  stop_bare = refused_bare p m small h.refusals h.part h.entries h.numbers

  stop_counts : (e2 : Stop) → e ≡ e2 → e2 ≢ stop.Wide → e2 ≢ stop.NoMemory → 1 ≤ h.refusals
  stop_counts (stop.Conflict lock seen) is a b = let c = subst (λ (x : Stop). counts (Some x) ≤ h.refusals) is h.counts_it in c
  stop_counts (stop.Out page) is a b = let c = subst (λ (x : Stop). counts (Some x) ≤ h.refusals) is h.counts_it in c
  stop_counts (stop.Busy page seen) is a b = let c = subst (λ (x : Stop). counts (Some x) ≤ h.refusals) is h.counts_it in c
  stop_counts stop.Wide is a b = absurd (a refl)
  stop_counts stop.NoMemory is a b = absurd (b refl)

  stop_one : e ≢ stop.NoMemory → IsBare 0 1 p m
  stop_one other = fewer t p m m 0 h.refusals 1 (stop_counts e refl h.narrow other) stop_bare

  pub stop_try : (s : Sizes) (file index : ℕ) (q : Request) (x : Tried) (r : PassSight X) → AfterStop t e x m r → AfterTry t s file index q x p r
  stop_try s file index q x r a = by e refl a
    where
      other : (e2 : Stop) → e ≡ e2 → e2 ≢ stop.NoMemory → e ≢ stop.NoMemory
      other e2 is differs none = differs (sym is ∙ none)

      by : (e2 : Stop) → e ≡ e2 → AfterStop t e2 x m r → AfterTry t s file index q x p r
      by (stop.Conflict lock seen) is b = at_once t p m r 0 (stop_one (other (stop.Conflict lock seen) is (λ same. let bad : ⊥ = cc in bad))) h.rests s file index q x b
      by (stop.Out page) is b = out_try t page p m (stop_one (other (stop.Out page) is (λ same. let bad : ⊥ = cc in bad))) s file index q x r b
      by (stop.Busy page seen) is b = at_once t p m r 0 (stop_one (other (stop.Busy page seen) is (λ same. let bad : ⊥ = cc in bad))) h.rests s file index q x b
      by stop.Wide is b = absurd (h.narrow is)
      by stop.NoMemory is b = subst (λ (y : Tried). AfterTry t s file index q y p r) (sym b.0)
          (subst (λ (y : PassSight X). IsUnserved 0 t p y × (y.numbers.met_fault ≡ p.numbers.met_fault)) (sym b.1)
          (record { rests = h.rests; part = h.part; entries = h.entries; draws = record { used = 0; draws = stop_bare.draws; few = omega arith }; durable = (let d = stop_bare.durable in omega arith) }, stop_bare.no_fault))

-- ---- a commit that was lost
-- it has a page that is out where its Stop has
pub lost_out : (l : Lost) (page : ℕ) → stop_for l ≡ stop.Out page → l ≡ lost.Out page
lost_out (lost.Out p) page e = let same : p ≡ page = cc in ap (λ (n : ℕ). lost.Out n) same
lost_out (lost.Busy p seen) page e = absurd (let no : ⊥ = cc in no)
lost_out (lost.Conflict lock seen n) page e = absurd (let no : ⊥ = cc in no)

module _ {X K : Type 0} (t : TableSight K) (p m : PassSight X) (small : up_to_last p.numbers.refused ≡ p.numbers.refused) (left : 0 < p.numbers.left) where
  -- the commit counts one
  one_and : (k : ℕ) → up_to_last (up_to_last (p.numbers.refused + 1) + k) ≡ up_to_last (p.numbers.refused + (1 + k))
  one_and k = omega arith

  lost_page : (k : ℕ) → m.numbers ≡ with_refusals k (with_refusals 1 p.numbers) → (pass_view m).part ≡ (pass_view p).part → (pass_view m).entries ≡ (pass_view p).entries → IsBare 0 1 p m
  lost_page k is part entries = fewer t p m m 0 (1 + k) 1 (omega arith) (drew_bare p m small 0 (1 + k) (with_refusals k (with_refusals 1 p.numbers)) (omega arith) part entries is refl refl (omega arith) refl (one_and k))

  lost_number : (k number : ℕ) → m.numbers ≡ with_refusals k (with_refusals 1 (after_draw number t.setup.boxes p.numbers)) → (pass_view m).part ≡ (pass_view p).part → (pass_view m).entries ≡ (pass_view p).entries → IsBare 1 1 p m
  lost_number k number is part entries = fewer t p m m 1 (1 + k) 1 (omega arith) (drew_bare p m small 1 (1 + k) (with_refusals k (with_refusals 1 (after_draw number t.setup.boxes p.numbers))) (omega arith) part entries is refl refl (omega arith) refl (one_and k))

  pub lost_try : (l : Lost) (s : Sizes) (file index : ℕ) (q : Request) (x : Tried) (r : PassSight X) → WasLost t l p m → AfterStop t (stop_for l) x m r → AfterTry t s file index q x p r
  lost_try (lost.Out page) s file index q x r h a = out_try t page p m (lost_page h.refusals h.numbers h.part h.entries) s file index q x r a
  lost_try (lost.Busy page seen) s file index q x r h a = at_once t p m r 0 (lost_page h.refusals h.numbers h.part h.entries) h.rests s file index q x a
  lost_try (lost.Conflict lock seen n) s file index q x r h a = at_once t p m r 1 (lost_number h.refusals n h.numbers h.part h.entries) h.rests s file index q x a

-- ---- it was answered
pub done_try : {X K : Type 0} (t : TableSight K) (s : Sizes) (file index : ℕ) (q : Request) (d : DoneOf) (p r : PassSight X) → is_sync q ≡ false → 0 < p.numbers.left → HasServed t s file index q p r d × CountsEntry t d.number p r → AfterTry t s file index q (Done d) p r
done_try {X} {K} t s file index q d p r no_sync left h = by_wrote h.1.1 h.1.2
  where
    answers : AnswersBy (is_sync q) t s file index q p r d
    answers = subst (λ (b : Bool). AnswersBy b t s file index q p r d) (sym no_sync) h.0

    by_wrote : (b : Bool) → r.numbers ≡ with_refusals h.1.0 (after_commit b (Ok d.number) t.setup.boxes p.numbers) → IsServing 1 t s file index q p r d
    by_wrote true is = record { answers = answers; part = h.0.part; draws = record { used = 1; draws = (let l = ap (λ (x : PassNumbers). x.left) is in omega arith); few = omega arith }; no_fault = ap (λ (x : PassNumbers). x.met_fault) is; durable = (let d = ap (λ (x : PassNumbers). x.durable) is in omega arith) }
    by_wrote false is = record { answers = answers; part = h.0.part; draws = record { used = 0; draws = (let l = ap (λ (x : PassNumbers). x.left) is in omega arith); few = omega arith }; no_fault = ap (λ (x : PassNumbers). x.met_fault) is; durable = (let d = ap (λ (x : PassNumbers). x.durable) is in omega arith) }

-- ---- a `SYNC`
module _ {X K : Type 0} (t : TableSight K) (p r : PassSight X) (small : up_to_last p.numbers.refused ≡ p.numbers.refused) where
  -- a turn that counted a refusal
  turn_again : KeepsRest t p r → r.numbers.met_fault ≡ p.numbers.met_fault → r.numbers.refused ≡ up_to_last (p.numbers.refused + 1) → IsAgain t p r
  turn_again k no_fault is = record {
    pass = k.pass;
    no_fault = no_fault;
    draws = record { used = 0; draws = ap (λ (n : ℕ). n + 0) k.left ∙ none; few = omega arith };
    counts = ⊎_elim (λ n. inr (omega arith, one_more p.numbers.refused r.numbers.refused p.numbers.had_turn r.numbers.had_turn (omega arith))) (λ l. inl l) (counts_of p r small 1 is);
  }
    where
      none : p.numbers.left + 0 ≡ p.numbers.left
      none = omega arith

  -- its durable number is under one of the pass
  pub pumped_again : (n : ℕ) → HasPumped t p r n → n < p.numbers.last → IsAgain t p r
  pumped_again n h under = turn_again h.keeps h.no_fault (⊎_elim (λ is. is) (λ o. let le = o.0 in absurd (omega arith)) h.counts)

  pub refused_again : WasRefused t p r → IsAgain t p r
  refused_again h = turn_again h.keeps h.no_fault h.counts
