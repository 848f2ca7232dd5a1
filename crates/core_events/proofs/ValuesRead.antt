-- Values of the view that makes the step: what it loads, what a second look confirms, what an extension keeps.
use Rattle.std.proofs.Common.{◌≡◌, ℕ, ◌*◌, ◌<◌, ◌≤◌, ◌⊎◌, Bool, true, false, List, [], ◌∷◌, get_or, refl, sym, ap, ◌∙◌, subst, inl, inr, ⊎_elim, eq-eqb, ne_eqb, arith, mod-lt}
use Rattle.std.specs.Prelude.{Option, Some, None}
use Rattle.std.proofs.lemmas.Bool.{true≢false}
use Rattle.std.proofs.lemmas.List.Elements.{All-append}
use mathlib.Core.Option.{some}
use mathlib.Core.Logic.{dite}
use native.Mathlib.Decide.{dec_lt, ℕ_discrete}
use lib.ListN.{get_elem?}
use Rattle.dude_base.specs.declared.limits.TheConstants.{PAGE}
use Rattle.core_events.specs.Setups.{Setup, lock_of, page_of, cell_of}
use Rattle.core_events.specs.Keyed.{find}
use Rattle.core_events.specs.Views.{View}
use Rattle.core_events.specs.Words.{State}
use Rattle.core_events.specs.Entries.{value}
use Rattle.core_events.specs.Events.{own_word, looked_word, is_good, all_checked, reaching, extending, validating, checking}
use Rattle.core_events.specs.Conditions.{IsSteady}
use Rattle.core_events.specs.Ghosts.{Hold, free, taken, writing, version, IsWriting, Ghost}
use Rattle.core_events.specs.KeptLocks.{Knows}
use Rattle.core_events.specs.KeptValues.{ReadValues, ValuesKept}
use Rattle.core_events.specs.Layers.{ThreadsIn, LocksIn}
use Rattle.core_events.proofs.Lists.{all_one, pair_of}
use Rattle.core_events.proofs.Values.{value_still, even_version, either_way}
use Rattle.core_events.proofs.Reading.{good_cases, mine_if}
use Rattle.core_events.proofs.Checks.{Fresh, all_of, fresh_more}

pub not_writing : (h : Hold) → (IsWriting h → ⊥) ⊎ IsWriting h
not_writing (free u) = inl (λ w. let e = w.2 in absurd cc)
not_writing (taken j u) = inl (λ w. let e = w.2 in absurd cc)
not_writing (writing j u) = inr (j, u, refl)

module _ (z : Setup) (c : State) (g : Ghost) (s : ThreadsIn z g c) (l : LocksIn z g c) (y : ValuesKept z g c) (id t : ℕ) (v : View) (at : get_elem? c.views id ≡ some v) (thread_is : v.part.thread ≡ Some t) where
  abbrev m : Knows z g.claims c.clock id v.part.thread v.tx
  m = l.each id v at

  abbrev rd : ReadValues z g.claims.hist g.claims.lock v.part.thread v.tx
  rd = y.reads id v at

  -- the value of a word whose lock isn't being written, and has a version up to the snapshot
  calm_value : (i f : ℕ) → i < z.pages * PAGE → g.frame (page_of i) ≡ Some f → v.tx.snapshot ≤ c.clock → version (g.claims.lock (lock_of z i)) ≤ v.tx.snapshot → (IsWriting (g.claims.lock (lock_of z i)) → ⊥) → get_or c.cells (cell_of f i) 0 ≡ value z.opening g.claims.hist v.tx.snapshot i
  calm_value i f inside is le old calm = ⊎_elim
      (λ e. e ∙ value_still z.opening g.claims.hist v.tx.snapshot c.clock i le (λ n a b x w. let o = l.owned.covered n i x (omega arith) w in calm (o.0, o.1, o.3)))
      (λ p. absurd (calm (p.0, p.1, p.4)))
      (y.shown.shown i f inside is)

  pub load_reads : (i f : ℕ) → i < z.pages * PAGE → g.frame (page_of i) ≡ Some f → IsSteady v.tx → (look : ℕ) → v.tx.look ≡ Some (lock_of z i, look) → is_good v.part.thread v.tx.snapshot look ≡ true
      → ReadValues z g.claims.hist g.claims.lock v.part.thread (record v.tx { loaded = Some (i, get_or c.cells (cell_of f i) 0) })
  load_reads i f inside is steady look look_is good =
      let x : ℕ = get_or c.cells (cell_of f i) 0 in let k : ℕ = lock_of z i in
      let snap = (m.confirmed.snap steady.undrawn.is_open).1 in let calm = (m.number.blank steady.undrawn.no_number).0 in
      let kept : (x ≡ value z.opening g.claims.hist v.tx.snapshot i)
      ⊎ (((u : ℕ) × (v.tx.look ≡ Some (k, 2 * u)) × (IsWriting (g.claims.lock k) ⊎ (u < version (g.claims.lock k)))) ⊎ ((v.tx.look ≡ Some (k, own_word v.part.thread)) × (find v.tx.owned k ≡ None)))
      = ⊎_elim
      (λ own. let own_is : v.tx.look ≡ Some (k, own_word v.part.thread) = look_is ∙ ap (λ (w : ℕ). Some (k, w)) own in ⊎_elim
      (λ gone. inr (inr (own_is, gone)))
      (λ o. let p = m.owns.owns k o.0 o.1 in let mine = p.3 calm in let old : version (g.claims.lock k) ≡ p.0 = ap version mine in
      inl (calm_value i f inside is snap (let le = p.2 in omega arith) (λ wr. let e : taken id p.0 ≡ writing wr.0 wr.1 = sym mine ∙ wr.2 in absurd cc)))
      (either_way (find v.tx.owned k)))
      (λ u. let u_is : v.tx.look ≡ Some (k, 2 * u.0) = look_is ∙ ap (λ (w : ℕ). Some (k, w)) u.1 in
      let below = m.look.looked k (2 * u.0) u.0 u_is refl in let le = u.2 in
      dite (dec_lt u.0 (version (g.claims.lock k)))
      (λ h. inr (inl (u.0, u_is, inr h)))
      (λ h. ⊎_elim (λ still. inl (calm_value i f inside is snap (omega arith) still)) (λ w. inr (inl (u.0, u_is, inl w))) (not_writing (g.claims.lock k))))
      (good_cases v.part.thread v.tx.snapshot look good) in
      record { read = rd.read; waits = λ j b e. let same = pair_of (i, x) (j, b) e in let here = same.0 in let word = same.1 in rw (← here, ← word) kept }

  -- the second look shows the same word
  value_is : (i x : ℕ) → v.tx.loaded ≡ Some (i, x) → get_or c.locks (lock_of z i) 0 ≡ looked_word v.tx.look → x ≡ value z.opening g.claims.hist v.tx.snapshot i
  value_is i x e hit =
      let w = m.look.waits i x e in let k : ℕ = lock_of z i in let inside = mod-lt i l.numbers.some_lock in let calm = (m.number.blank w.0.no_number).0 in
      ⊎_elim (λ done. done)
      (λ rest. ⊎_elim
      (λ u. let h : g.claims.lock k ≡ free u.0 = even_version g.thread (g.claims.lock k) u.0 (sym (l.owned.shows k inside) ∙ (hit ∙ ap looked_word u.1)) in
      absurd (⊎_elim (λ is. let o : free u.0 ≡ writing is.0 is.1 = sym h ∙ is.2 in cc) (λ lt. let o : version (g.claims.lock k) ≡ u.0 = ap version h in omega arith) u.2))
      (λ own. let mine = mine_if z g.claims g.thread c.clock c.locks c.views l z.threads c.threads g.home s id t v at thread_is k inside (hit ∙ ap looked_word own.0) calm in
      let held = (m.owns.has_taken k mine.0 mine.1).1 in let o : None ≡ Some (2 * mine.0) = sym own.1 ∙ held in absurd cc)
      rest)
      (rd.waits i x e)

  joined_reads : (i x n : ℕ) → v.tx.loaded ≡ Some (i, x) → n ≡ get_or c.locks (lock_of z i) 0 → (extension : Option ℕ) (th : Option ℕ) (k : ℕ) → ReadValues z g.claims.hist g.claims.lock v.part.thread (checking z (Some (i, x)) extension th k n v.tx)
  joined_reads i x n e is extension th k =
      let Value : (ℕ × ℕ) → Type 0 = λ r. r.1 ≡ value z.opening g.claims.hist v.tx.snapshot r.0 in
      record {
        read = λ o. dite (ℕ_discrete n (looked_word v.tx.look))
            (λ hit. rw (eq-eqb n (looked_word v.tx.look) hit) (All-append Value v.tx.reads ((i, x) ∷ []) (rd.read o) (all_one Value (i, x) (value_is i x e (sym is ∙ hit)))))
            (λ miss. rw (ne_eqb n (looked_word v.tx.look) miss) (rd.read o));
        waits = λ j b e2. absurd (let f : None ≡ Some (j, b) = e2 in cc);
      }

  -- an extension to s that has found the locks cs good
  abbrev FreshIn : List ℕ → ℕ → Type 0
  FreshIn cs n = Fresh z g.claims g.thread c.clock c.locks c.views l c.threads g.home s id t v at thread_is cs n

  reaches : (b : Bool) (cs : List ℕ) (n : ℕ) → all_checked z cs v.tx.reads ≡ b → v.tx.is_open ≡ true → v.tx.snapshot ≤ n → FreshIn cs n → ReadValues z g.claims.hist g.claims.lock v.part.thread (reaching b n (record v.tx { checked = cs; loaded = None }))
  reaches true cs n all opened up fresh =
      let good = all_of z g.claims g.thread c.clock c.locks c.views l c.threads g.home s id t v at thread_is cs v.tx.reads all in
      record {
        read = λ o j d lt. let i : ℕ = (get_or v.tx.reads j d).0 in rd.read opened j d lt ∙ sym (value_still z.opening g.claims.hist v.tx.snapshot n i up (λ p a b w f. let q = (fresh i p (good j d lt) a b).0 in let e : None ≡ Some w = sym q ∙ f in absurd cc));
        waits = λ j b e2. absurd (let f : None ≡ Some (j, b) = e2 in cc);
      }
  reaches false cs n all opened up fresh = record { read = rd.read; waits = λ j b e2. absurd (let f : None ≡ Some (j, b) = e2 in cc) }

  pub extend_reads : v.tx.is_open ≡ true → ReadValues z g.claims.hist g.claims.lock v.part.thread (reaching (all_checked z [] v.tx.reads) c.clock (record v.tx { checked = []; loaded = None }))
  extend_reads opened = reaches (all_checked z [] v.tx.reads) [] c.clock refl opened (m.confirmed.snap opened).1 (λ i n h. absurd (true≢false (sym h)))

  extended_reads : (n k : ℕ) → k < z.locks → v.tx.loaded ≡ None → v.tx.extension ≡ Some n → (b : Bool) → is_good v.part.thread v.tx.snapshot (get_or c.locks k 0) ≡ b → ReadValues z g.claims.hist g.claims.lock v.part.thread (extending z b n k v.tx)
  extended_reads n k inside none_kept e true good =
      let x = m.confirmed.extended n e in
      subst (λ (o : Option (ℕ × ℕ)). ReadValues z g.claims.hist g.claims.lock v.part.thread (reaching (all_checked z (k ∷ v.tx.checked) v.tx.reads) n (record v.tx { checked = k ∷ v.tx.checked; loaded = o }))) (sym none_kept)
      (reaches (all_checked z (k ∷ v.tx.checked) v.tx.reads) (k ∷ v.tx.checked) n refl x.0 x.3 (fresh_more z g.claims g.thread c.clock c.locks c.views l c.threads g.home s id t v at thread_is k n inside e good))
  extended_reads n k inside none_kept e false bad = record { read = rd.read; waits = λ j b e2. absurd (let f : None ≡ Some (j, b) = sym none_kept ∙ e2 in cc) }

  validated_reads : (k : ℕ) (b : Bool) → v.tx.loaded ≡ None → ReadValues z g.claims.hist g.claims.lock v.part.thread (validating b k v.tx)
  validated_reads k true none_kept = record { read = rd.read; waits = λ j b e2. absurd (let f : None ≡ Some (j, b) = sym none_kept ∙ e2 in cc) }
  validated_reads k false none_kept = record { read = rd.read; waits = λ j b e2. absurd (let f : None ≡ Some (j, b) = sym none_kept ∙ e2 in cc) }

  checked_by : (k : ℕ) → k < z.locks → ((p : ℕ × ℕ) → v.tx.loaded ≡ Some p → k ≡ lock_of z p.0) → (o : Option (ℕ × ℕ)) (n : Option ℕ) → v.tx.loaded ≡ o → v.tx.extension ≡ n
      → ReadValues z g.claims.hist g.claims.lock v.part.thread (checking z o n v.part.thread k (get_or c.locks k 0) v.tx)
  checked_by k inside here (Some p) n e e2 = joined_reads p.0 p.1 (get_or c.locks k 0) e (ap (λ (w : ℕ). get_or c.locks w 0) (here p e)) n v.part.thread k
  checked_by k inside here None (Some n) e e2 = extended_reads n k inside e e2 (is_good v.part.thread v.tx.snapshot (get_or c.locks k 0)) refl
  checked_by k inside here None None e e2 = validated_reads k (is_good v.part.thread v.tx.snapshot (get_or c.locks k 0)) e

  pub check_reads : (k : ℕ) → k < z.locks → ((p : ℕ × ℕ) → v.tx.loaded ≡ Some p → k ≡ lock_of z p.0) → ReadValues z g.claims.hist g.claims.lock v.part.thread (checking z v.tx.loaded v.tx.extension v.part.thread k (get_or c.locks k 0) v.tx)
  check_reads k inside here = checked_by k inside here v.tx.loaded v.tx.extension refl refl
