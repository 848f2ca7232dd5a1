-- What holds of an ended run by its entries, and what an ending starts from.
use Rattle.std.proofs.Common.{◌≡◌, ◌≢◌, ◌⊎◌, ◌||◌, ◌==◌, ℕ, ◌<◌, ◌≤◌, Bool, true, false, List, [], ◌∷◌, All, length, refl, sym, ap, ◌∙◌, subst, inl, inr, ⊎_elim, ne_eqb, arith}
use Rattle.std.specs.Prelude.{IsTrue, not}
use Rattle.std.proofs.lemmas.Bool.{true≢false}
use Rattle.std.proofs.lemmas.List.Elements.{All-head, All-tail}
use mathlib.Core.Logic.{dite}
use native.Mathlib.Decide.{dec_le, dec_lt}
use Rattle.dude_base.specs.declared.sizes.Sizes.{Sizes}
use Rattle.dude_base.specs.Records.{RedoRecord}
use Rattle.pmem_trait.specs.Sights.{AtEveryMoment, CallsMade, Sight}
use Rattle.pmem_trait.specs.declared.medium.Medium.{Ghosts}
use Rattle.pmem_trait.proofs.Laws.{every_moment_weaker}
use Rattle.pmem_trait.proofs.Runs.{made_cause}
use Rattle.redo_record.proofs.WaitingRecords.{consecutive_up}
use Rattle.back_store.specs.declared.back.Back.{Back}
use Rattle.back_store.specs.Back.{home_now}
use Rattle.back_store.specs.BackView.{medium_of, state_of}
use Rattle.core_events.specs.Entries.{IsLegal, writes_of}
use Rattle.core_events.specs.Setups.{Setup}
use Rattle.core_events.specs.Views.{Entry, View}
use Rattle.core_events.proofs.Values.{value_agree}
use Rattle.stm_slots.specs.Known.{Known, Since}
use Rattle.stm_slots.specs.KnownLists.{LiveLists, lists}
use Rattle.stm_slots.specs.Records.{HasRecord, HasValues, IsReached, LacksRecord, writes_in}
use Rattle.stm_slots.proofs.Images.{array_values}
use Rattle.stm_slots.proofs.JoinedRecords.{lacks_from}
use Rattle.stm_slots.proofs.Lawful.{reached_by}
use Rattle.run_threads.specs.CaughtUp.{GoesOn, HasCaughtUp}
use Rattle.run_threads.specs.Ended.{IsCutOff, IsEnded}
use Rattle.run_threads.specs.Ending.{Ending, HasDied, IsKept, IsUnderWay}
use Rattle.run_threads.specs.Rest.{IsWithin, at, number_at}
use Rattle.run_threads.proofs.CatchingUp.{none_waits, reaches_last, under_on}
use Rattle.run_threads.proofs.RestRises.{among_at, placed_among}
use Rattle.stm_slots.specs.Opening.{setup_of, since_of, start_sight}
use Rattle.stm_slots.specs.declared.opening.Opening.{Opening}
use Rattle.tiny_stm.specs.Posts.{IsAmong}
use Rattle.tiny_stm.specs.declared.closed.Closed.{Closed}
use Rattle.tiny_stm.specs.Ended.{HasClosed, HasValuesAt, IsKeptEnd}

-- ---- writes of numbers up to the first one
none_case : (first : ℕ) (e : Entry) (es : List Entry) (n : ℕ) (b : Bool) → e.wrote ≡ b → (b ≡ true → first < e.number) → n ≤ first → writes_of es n ≡ [] → writes_of (e ∷ es) n ≡ []
none_case first e es n true wrote over low rest = let lt = over refl in let other : e.number ≢ n = (λ same. absurd (omega arith)) in rw (wrote, ne_eqb e.number n other) rest
none_case first e es n false none over low rest = rw none rest

none_written : (first : ℕ) (es : List Entry) (n : ℕ) → All (λ e. e.wrote ≡ true → first < e.number) es → n ≤ first → writes_of es n ≡ []
none_written first [] n over low = refl
none_written first (e ∷ es) n over low = none_case first e es n e.wrote refl (All-head (λ (x : Entry). x.wrote ≡ true → first < x.number) e es over) low
    (none_written first es n (All-tail (λ (x : Entry). x.wrote ≡ true → first < x.number) e es over) low)

none_listed : (first : ℕ) (rs : List RedoRecord) (n : ℕ) → All (λ r. first < r.number) rs → n ≤ first → writes_in rs n ≡ []
none_listed first [] n over low = refl
none_listed first (r ∷ rs) n over low =
    let lt = All-head (λ (x : RedoRecord). first < x.number) r rs over in
    let other : r.number ≢ n = (λ same. absurd (omega arith)) in
    rw (ne_eqb r.number n other) (none_listed first rs n (All-tail (λ (x : RedoRecord). first < x.number) r rs over) low)

-- what every image is at each moment, where the medium is visible
moments_where : {P Q : List ℕ → List ℕ → Type 0} {s t : Sight} → (IsTrue s.is_visible → (told image : List ℕ) → P told image → Q told image) → AtEveryMoment P s t → AtEveryMoment Q s t
moments_where {P} {Q} {s} {t} weaker m = record { later = m.later; each = λ seen. (every_moment_weaker (λ told image long p. weaker seen told image p) m).each seen }

told_where : (b c : Bool) → IsTrue b → (b || c) ≡ true
told_where true c seen = refl
told_where false c seen = absurd (true≢false (sym seen))

module _ {M : Type 0} {ghosts : Ghosts M} (sight : M → Sight) (o : Opening M ghosts) (v : View) where
  abbrev z : Setup
  z = setup_of sight o

  -- an ending of these transactions
  abbrev pub ending : ℕ → Sizes → Ending
  ending last sizes = record { setup = z; start = start_sight sight o; state = state_of o.back.value; entries = v.entries; last = last; sizes = sizes; announced = v.turn.durable }

  -- where the medium is visible, what it gives is told
  pub told_of : IsTrue (start_sight sight o).is_visible → z.is_told ≡ true
  told_of seen = told_where (start_sight sight o).is_visible (o.terms.frames == o.terms.pages) seen

  module _ (last : ℕ) (sizes : Sizes) (legal : z.is_told ≡ true → IsLegal o.terms.first o.terms.opening v.entries) (b : Back M ghosts) (k : IsKept (ending last sizes) (state_of b) (sight (medium_of b))) where
    abbrev rs : List RedoRecord
    rs = k.records

    -- the values by records are those by entries
    writes_agree : IsTrue (start_sight sight o).is_visible → (n m : ℕ) → IsReached o.terms.first rs n → m ≤ n → writes_in rs m ≡ writes_of v.entries m
    writes_agree seen n m reached le = dite (dec_le m o.terms.first)
        (λ low. none_listed o.terms.first rs m k.known.known.lawful.over low ∙ sym (none_written o.terms.first v.entries m (legal (told_of seen)).numbers.over low))
        (λ over. (k.known.listed m (reached m (omega arith) le)).1)

    pub values_agree : IsTrue (start_sight sight o).is_visible → (n : ℕ) (array : List ℕ) → IsReached o.terms.first rs n → HasValues o.terms.opening (writes_in rs) n array → HasValuesAt z v.entries n array
    values_agree seen n array reached is = record {
      size = is.size;
      words = λ i lt. is.words i lt ∙ value_agree o.terms.opening (writes_of v.entries) (writes_in rs) n i (λ m le. writes_agree seen n m reached le);
    }

    seen_before : IsTrue (sight (medium_of b)).is_visible → IsTrue (start_sight sight o).is_visible
    seen_before seen = subst IsTrue k.known.known.is.moments.later.is_visible seen

    pub reached_home : (state_of b).dead ≡ false → IsReached o.terms.first rs (state_of b).log.reproduced
    reached_home alive m over upto =
        let led = k.known.known.lawful.log.led in let up = consecutive_up (state_of b).log.reproduced (state_of b).log.durable led.records led.lead.consecutive in
        (k.known.known.lawful.live alive).reached m over (omega arith)

    last_of : o.terms.first ≤ last → (n : ℕ) → IsReached o.terms.first rs n → n ≤ last
    last_of first n reached = dite (dec_lt o.terms.first n)
        (λ over. (k.known.listed n (reached n over (omega arith))).0)
        (λ low. omega arith)

    pub kept_end : o.terms.first ≤ last → sizes.pages ≡ o.terms.pages → (v.turn.met_fault ≡ true → (state_of b).dead ≡ true) → IsKeptEnd sight o v last b
    kept_end first pages fault = record {
      images = moments_where (λ seen told image r. record {
        number = r.number;
        array = r.array;
        recovered = r.recovered;
        same_sizes = r.same_sizes;
        values = values_agree seen r.number r.array r.reached r.values;
        from = r.from;
        upto = last_of first r.number r.reached;
        floor = r.floor;
      }) k.known.known.is.moments;
      raised = k.known.announced;
      fault = fault;
      ran = k.known.known.is.ran;
      told = k.known.known.is.tells;
      home = λ alive seen. values_agree (seen_before seen) (state_of b).log.reproduced (home_now (state_of b).log.sizes (sight (medium_of b))) (reached_home alive) (k.known.known.is.home alive seen);
      arrays = λ alive seen n array a.
          let l = lists (state_of b) rs in
          let x = array_values o.terms.opening o.terms.first l (k.known.known.lawful.live alive) (home_now (state_of b).log.sizes (sight (medium_of b))) n array (k.known.known.is.home alive seen) a in
          values_agree (seen_before seen) n array (reached_by o.terms.first l k.known.known.lawful alive n a.records a.lead) x;
      by_entries = record { records = rs; known = k.known.known; listed = k.known.listed };
      pages = ap (λ (s : Sizes). s.pages) k.known.sizes ∙ pages;
    }

  -- a dead back is cut off
  pub cut_by : (last : ℕ) (b : Back M ghosts) → IsKeptEnd sight o v last b → (state_of b).dead ≡ true → IsCutOff sight o v last b
  cut_by last b kept dead = record {
    kept = kept;
    dead = dead;
    cause = made_cause (subst (λ (k : Bool). CallsMade kept.ran.0 (not k) (start_sight sight o) (sight (medium_of b))) dead kept.ran.1);
  }

  -- ---- an ending starts
  module _ (c : Closed M ghosts) (h : HasClosed sight o v c) where
    abbrev here : Ending
    here = ending c.number (state_of c.back).log.sizes

    module _ (alive : (state_of c.back).dead ≡ false) where
      abbrev listed : List RedoRecord
      listed = h.back.by_entries.records

      live : LiveLists o.terms.first (lists (state_of c.back) listed)
      live = h.back.by_entries.known.lawful.live alive

      placed_first : (n : ℕ) → o.terms.first < n → n ≤ c.number → HasRecord listed n ⊎ IsWithin c.rest.items 0 (length c.rest.items) n
      placed_first n over upto = let same = (h.live alive).reproduced in dite (dec_le n (state_of c.back).log.reproduced)
          (λ low. inl (live.reached n over (omega arith)))
          (λ high. ⊎_elim
          (λ among. inr (placed_among c.rest.items n among))
          (λ waits. inl ((live.waits waits.0 waits.1).has n waits.2))
          ((h.live alive).placed n (omega arith) upto))

      lacks_first : (i : ℕ) → i < length c.rest.items → LacksRecord listed (number_at c.rest.items i)
      lacks_first i lt =
          let among : IsAmong c.rest.items (number_at c.rest.items i) = (at c.rest.items i, among_at c.rest.items i lt, refl) in
          lacks_from listed (number_at c.rest.items i) (λ has.
          (h.live alive).apart (number_at c.rest.items i) among (live.logged (number_at c.rest.items i) has ((h.live alive).stood (number_at c.rest.items i) among)))

      pub starts : IsUnderWay here c.rest.items 0 (state_of c.back) (sight (medium_of c.back))
      starts = record {
        of = record {
          posted = h.rest;
          small = (let room = h.room in omega arith);
          first = (let from = (h.live alive).from in let upto = (h.live alive).upto in omega arith);
          pages = h.back.pages;
        };
        records = listed;
        known = record { known = h.back.by_entries.known; listed = h.back.by_entries.listed; sizes = refl; announced = h.back.raised };
        left = record {
          alive = alive;
          placed = placed_first;
          lacks = λ i low lt. lacks_first i lt;
          newest = λ i b low lt among. (h.live alive).newest (at c.rest.items i) b (among_at c.rest.items i lt) among;
        };
      }

      -- a pass that met a fault has a dead back
      met_none : v.turn.met_fault ≡ true → ⊥
      met_none met = true≢false (sym (h.back.fault met) ∙ alive)

      -- ---- and ends
      pub ends : (mid b : Back M ghosts) → IsUnderWay here c.rest.items (length c.rest.items) (state_of mid) (sight (medium_of mid)) → GoesOn (state_of mid) (state_of b) → HasCaughtUp (state_of mid) (state_of b)
          → ((since : Since) (rs : List RedoRecord) → Known since (lists (state_of mid) rs) (sight (medium_of mid)) → Known since (lists (state_of b) rs) (sight (medium_of b))) → IsEnded sight o v c.number b
      ends mid b under goes up stays =
          let known = stays (since_of sight o) under.records under.known.known in
          let w = under_on here c.rest.items (length c.rest.items) (state_of mid) (state_of b) (sight (medium_of mid)) (sight (medium_of b)) under goes up.alive known in
          let at_last = reaches_last here c.rest.items (length c.rest.items) (state_of mid) (state_of b) (sight (medium_of mid)) (sight (medium_of b)) under up refl in
          let kept = kept_end c.number (state_of c.back).log.sizes h.legal b (record { records = w.records; known = w.known }) w.of.first h.back.pages (λ met. absurd (met_none met)) in
          record {
            kept = kept;
            first = w.of.first;
            legal = h.legal;
            alive = up.alive;
            none = none_waits here w.records (state_of b) (sight (medium_of b)) w.known up.alive (up.reproduced ∙ at_last);
            durable = up.durable ∙ at_last;
            reproduced = up.reproduced ∙ at_last;
            home = λ seen. subst (λ (n : ℕ). HasValuesAt z v.entries n (home_now (state_of b).log.sizes (sight (medium_of b)))) (up.reproduced ∙ at_last) (kept.home up.alive seen);
          }

      pub cut_off : (b : Back M ghosts) → HasDied here (state_of b) (sight (medium_of b)) → IsCutOff sight o v c.number b
      cut_off b died = cut_by c.number b (kept_end c.number (state_of c.back).log.sizes h.legal b died.kept starts.of.first h.back.pages (λ met. died.dead)) died.dead
