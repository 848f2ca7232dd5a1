-- A second look at a lock: of a value that waits, in an extension, and after the draw.
use Rattle.std.proofs.Common.{◌≡◌, ◌≢◌, ℕ, ◌*◌, ◌<◌, ◌≤◌, ◌&&◌, Bool, true, false, List, [], ◌∷◌, get_or, set, map, refl, sym, ap, ◌∙◌, subst, inl, inr, ⊎_elim, eq-eqb, ne_eqb, arith, All, mod-lt}
use Rattle.std.specs.Prelude.{Option, Some, None}
use Rattle.std.proofs.lemmas.List.Elements.{All-append}
use Rattle.std.proofs.lemmas.Bool.{true≢false}
use mathlib.Core.Option.{some}
use mathlib.Core.Logic.{dite}
use native.Mathlib.Decide.{ℕ_discrete, dec_le}
use lib.ListN.{get_elem?}
use Rattle.dude_base.specs.declared.write.Write.{Write}
use Rattle.dude_base.specs.Writes.{written}
use Rattle.core_events.specs.Setups.{Setup, lock_of}
use Rattle.core_events.specs.Keyed.{has, change}
use Rattle.core_events.specs.Views.{Hand, Transaction, View}
use Rattle.core_events.specs.Events.{check, looked_word, is_good, all_checked, reaching, extending, validating, checking}
use Rattle.core_events.specs.Conditions.{Can, IsUndrawn, IsUndecided}
use Rattle.core_events.specs.Ghosts.{free, taken, writing, version, Claims, voids}
use Rattle.core_events.specs.KeptThreads.{part_of, ThreadsCounted}
use Rattle.core_events.specs.KeptLocks.{draws_of, Unwritten, Knows, LocksKept}
use Rattle.core_events.proofs.Lists.{total_set, all_one, at_change}
use Rattle.core_events.proofs.Values.{even_version, either_way}
use Rattle.core_events.proofs.Stays.{empty_list, Moves, at_rest, together, alone, new_hand, owned_on}
use Rattle.core_events.proofs.Reading.{good_cases, mine_if}

module _ (z : Setup) (q : Claims) (thread : ℕ → ℕ) (clock : ℕ) (locks : List ℕ) (views : List View) (k : LocksKept z q thread clock locks views) (threads : ℕ) (home : ℕ → ℕ) (seats : ThreadsCounted z.threads thread home threads (map part_of views))
    (id t : ℕ) (v : View) (at : get_elem? views id ≡ some v) (thread_is : v.part.thread ≡ Some t) where
  abbrev m : Knows z q clock id v.part.thread v.tx
  m = k.each id v at

  -- ---- what a good word of a lock shows
  none_of : (i n : ℕ) → ((x : ℕ) → written (q.hist n) i ≡ Some x → ⊥) → ((x : ℕ) → written (q.pending n) i ≡ Some x → ⊥) → Unwritten q.hist q.pending i n
  none_of i n a b = (⊎_elim (λ e. e) (λ s. absurd (a s.0 s.1)) (either_way (written (q.hist n) i)), ⊎_elim (λ e. e) (λ s. absurd (b s.0 s.1)) (either_way (written (q.pending n) i)))

  -- the number of an undecided write under a lock of the view's own is the view's number
  my_number : (i n x u : ℕ) → q.lock (lock_of z i) ≡ taken id u → written (q.pending n) i ≡ Some x → v.tx.hand.number ≡ n
  my_number i n x u mine f =
      let r = k.undecided.waiting n i x f in let e : taken id u ≡ taken r.0 r.1 = sym mine ∙ r.3 in let j : r.0 ≡ id = cc in
      ⊎_elim (λ s. ap (λ (h : Hand). h.number) (sym s.1) ∙ r.5) (λ s. absurd (s.0 j)) (new_hand views id v v at r.0 r.2 r.4)

  -- under a lock with a good word no other number over the snapshot writes
  pub good_unwritten : (l : ℕ) → l < z.locks → v.tx.hand.decided ≡ false → is_good v.part.thread v.tx.snapshot (get_or locks l 0) ≡ true → (i n : ℕ) → l ≡ lock_of z i → v.tx.snapshot < n → v.tx.hand.number ≢ n → Unwritten q.hist q.pending i n
  good_unwritten l inside calm good i n here lt other =
      let b = k.owned in
      ⊎_elim
      (λ own. let o = mine_if z q thread clock locks views k z.threads threads home seats id t v at thread_is l inside own calm in
      let s = m.owns.has_taken l o.0 o.1 in let w = m.owns.owns l (2 * o.0) s.1 in let same : w.0 ≡ o.0 = (let e = w.1 in omega arith) in
      let mine : q.lock (lock_of z i) ≡ taken id o.0 = ap q.lock (sym here) ∙ o.1 in let old : version (q.lock (lock_of z i)) ≡ o.0 = ap version mine in
      none_of i n
      (λ x f. let r = b.covered n i x (let le = w.2 in omega arith) f in let e : taken id o.0 ≡ writing r.0 r.1 = sym mine ∙ r.3 in absurd cc)
      (λ x f. other (my_number i n x o.0 mine f)))
      (λ f. let h : q.lock l ≡ free f.0 = even_version thread (q.lock l) f.0 (sym (b.shows l inside) ∙ f.1) in
      let mine : q.lock (lock_of z i) ≡ free f.0 = ap q.lock (sym here) ∙ h in let old : version (q.lock (lock_of z i)) ≡ f.0 = ap version mine in
      none_of i n
      (λ x e. let r = b.covered n i x (let le = f.2 in omega arith) e in let e2 : free f.0 ≡ writing r.0 r.1 = sym mine ∙ r.3 in absurd cc)
      (λ x e. let r = k.undecided.waiting n i x e in let e2 : free f.0 ≡ taken r.0 r.1 = sym mine ∙ r.3 in absurd cc))
      (good_cases v.part.thread v.tx.snapshot (get_or locks l 0) good)

  -- ---- a value that waits: no undecided number writes there, where the lock's word is as it was
  pub value_apart : (i x : ℕ) → v.tx.loaded ≡ Some (i, x) → get_or locks (lock_of z i) 0 ≡ looked_word v.tx.look → (n : ℕ) → written (q.pending n) i ≡ None
  value_apart i x e hit n =
      let w = m.look.waits i x e in let inside = mod-lt i k.numbers.some_lock in let calm = (m.number.blank w.0.no_number).0 in
      ⊎_elim
      (λ f. let h : q.lock (lock_of z i) ≡ free f.0 = even_version thread (q.lock (lock_of z i)) f.0 (sym (k.owned.shows (lock_of z i) inside) ∙ (hit ∙ ap looked_word f.1)) in
      ⊎_elim (λ s. s) (λ p. let r = k.undecided.waiting n i p.0 p.1 in let o : free f.0 ≡ taken r.0 r.1 = sym h ∙ r.3 in absurd cc) (either_way (written (q.pending n) i)))
      (λ o. let mine = mine_if z q thread clock locks views k z.threads threads home seats id t v at thread_is (lock_of z i) inside (hit ∙ ap looked_word o.0) calm in
      ⊎_elim (λ s. s) (λ p. let r = k.undecided.waiting n i p.0 p.1 in let pos = r.6 in absurd (let a : v.tx.hand.number ≡ n = my_number i n p.0 mine.0 mine.1 p.1 in let y = w.0.no_number in omega arith)) (either_way (written (q.pending n) i)))
      w.2

  joined_knows : (i x n : ℕ) → v.tx.loaded ≡ Some (i, x) → n ≡ get_or locks (lock_of z i) 0 → Knows z q clock id v.part.thread (checking z (Some (i, x)) v.tx.extension v.part.thread (lock_of z i) n v.tx)
  joined_knows i x n e is =
      let w0 = m.look.waits i x e in record {
        owns = m.owns;
        number = m.number;
        apart = record {
          apart = λ o p le. let Quiet : (ℕ × ℕ) → Type 0 = λ r. written (q.pending p) r.0 ≡ None in dite (ℕ_discrete n (looked_word v.tx.look))
              (λ hit. rw (eq-eqb n (looked_word v.tx.look) hit) (All-append Quiet v.tx.reads ((i, x) ∷ []) (m.apart.apart o p le) (all_one Quiet (i, x) (value_apart i x e (sym is ∙ hit) p))))
              (λ miss. rw (ne_eqb n (looked_word v.tx.look) miss) (m.apart.apart o p le));
        };
        confirmed = record {
          snap = m.confirmed.snap;
          extended = λ s e2. absurd (let f : None ≡ Some s = sym w0.1 ∙ e2 in cc);
          valid = m.confirmed.valid;
        };
        look = record { looked = m.look.looked; waits = λ j y e2. absurd (let f : None ≡ Some (j, y) = e2 in cc) };
      }

  -- ---- an extension to s that has found the locks `cs` good
  abbrev pub Fresh : List ℕ → ℕ → Type 0
  Fresh cs s = (i n : ℕ) → has cs (lock_of z i) ≡ true → v.tx.snapshot < n → n ≤ s → Unwritten q.hist q.pending i n

  all_cons : (cs : List ℕ) (r : ℕ × ℕ) (rs : List (ℕ × ℕ)) (b : Bool) → has cs (lock_of z r.0) ≡ b → (b && all_checked z cs rs) ≡ true → (all_checked z cs rs ≡ true → All (λ (p : ℕ × ℕ). has cs (lock_of z p.0) ≡ true) rs)
      → All (λ (p : ℕ × ℕ). has cs (lock_of z p.0) ≡ true) (r ∷ rs)
  all_cons cs r rs true is e rest = All-append (λ (p : ℕ × ℕ). has cs (lock_of z p.0) ≡ true) (r ∷ []) rs (all_one (λ (p : ℕ × ℕ). has cs (lock_of z p.0) ≡ true) r is) (rest e)
  all_cons cs r rs false is e rest = absurd (true≢false (sym e))

  pub all_of : (cs : List ℕ) (rs : List (ℕ × ℕ)) → all_checked z cs rs ≡ true → All (λ (r : ℕ × ℕ). has cs (lock_of z r.0) ≡ true) rs
  all_of cs [] e = λ j d lt. absurd (omega arith)
  all_of cs (r ∷ rs) e = all_cons cs r rs (has cs (lock_of z r.0)) refl e (λ o. all_of cs rs o)

  reaches : (b : Bool) (cs : List ℕ) (s : ℕ) → all_checked z cs v.tx.reads ≡ b → v.tx.is_open ≡ true → v.tx.hand.number ≡ 0 → v.tx.snapshot ≤ s → s ≤ clock → Fresh cs s
      → Knows z q clock id v.part.thread (reaching b s (record v.tx { checked = cs; loaded = None }))
  reaches true cs s all opened zero_hand up le fresh =
      let good = all_of cs v.tx.reads all in record {
        owns = record {
          owns = λ i o e. let w = m.owns.owns i o e in let y = w.2 in (w.0, w.1, omega arith, w.3, w.4);
          has_taken = m.owns.has_taken;
          has_writing = m.owns.has_writing;
          owner = m.owns.owner;
          inside = m.owns.inside;
        };
        number = record {
          numbered = λ h. absurd (omega arith);
          blank = m.number.blank;
          undecided = m.number.undecided;
          decided = m.number.decided;
          voided = m.number.voided;
        };
        apart = record { apart = λ o p b j d lt. dite (dec_le p v.tx.snapshot) (λ small. m.apart.apart opened p small j d lt) (λ large. (fresh (get_or v.tx.reads j d).0 p (good j d lt) (omega arith) b).1) };
        confirmed = record {
          snap = λ o. let y = (m.confirmed.snap opened).0 in (omega arith, le);
          extended = λ s2 e2. absurd (let f : None ≡ Some s2 = e2 in cc);
          valid = λ h. absurd (let p = h.number in omega arith);
        };
        look = record { looked = m.look.looked; waits = λ j y e2. absurd (let f : None ≡ Some (j, y) = e2 in cc) };
      }
  reaches false cs s all opened zero_hand up le fresh = record {
    owns = m.owns;
    number = m.number;
    apart = m.apart;
    confirmed = record {
      snap = m.confirmed.snap;
      extended = λ s2 e2. let same : s ≡ s2 = cc in (opened, refl, zero_hand, rw (← same) up, rw (← same) le, rw (← same) fresh);
      valid = λ h. absurd (let p = h.number in omega arith);
    };
    look = record { looked = m.look.looked; waits = λ j y e2. absurd (let f : None ≡ Some (j, y) = e2 in cc) };
  }

  pub extend_knows : IsUndrawn v.tx → Knows z q clock id v.part.thread (reaching (all_checked z [] v.tx.reads) clock (record v.tx { checked = []; loaded = None }))
  extend_knows und = reaches (all_checked z [] v.tx.reads) [] clock refl und.is_open und.no_number (m.confirmed.snap und.is_open).1 (omega arith) (λ i n h. absurd (true≢false (sym h)))

  -- the locks that an extension found good, with one more
  pub fresh_more : (l s : ℕ) → l < z.locks → v.tx.extension ≡ Some s → is_good v.part.thread v.tx.snapshot (get_or locks l 0) ≡ true → Fresh (l ∷ v.tx.checked) s
  fresh_more l s inside e good i p h lt le =
      let x = m.confirmed.extended s e in let zero_hand = x.2 in dite (ℕ_discrete l (lock_of z i))
      (λ here. good_unwritten l inside (m.number.blank zero_hand).0 good i p here lt (λ y. omega arith))
      (λ other. x.5 i p (let r = rw (ne_eqb l (lock_of z i) other) at h in r) lt le)

  extended_knows : (s l n : ℕ) → l < z.locks → n ≡ get_or locks l 0 → v.tx.loaded ≡ None → v.tx.extension ≡ Some s → (b : Bool) → is_good v.part.thread v.tx.snapshot n ≡ b → Knows z q clock id v.part.thread (extending z b s l v.tx)
  extended_knows s l n inside is none_kept e true good =
      let x = m.confirmed.extended s e in
      subst (λ (o : Option (ℕ × ℕ)). Knows z q clock id v.part.thread (reaching (all_checked z (l ∷ v.tx.checked) v.tx.reads) s (record v.tx { checked = l ∷ v.tx.checked; loaded = o }))) (sym none_kept)
      (reaches (all_checked z (l ∷ v.tx.checked) v.tx.reads) (l ∷ v.tx.checked) s refl x.0 x.2 x.3 x.4 (fresh_more l s inside e (rw (← is) good)))
  extended_knows s l n inside is none_kept e false bad = record {
    owns = m.owns;
    number = m.number;
    apart = m.apart;
    confirmed = record { snap = m.confirmed.snap; extended = λ s2 e2. absurd (let f : None ≡ Some s2 = e2 in cc); valid = m.confirmed.valid };
    look = record { looked = m.look.looked; waits = λ j y e2. absurd (let f : None ≡ Some (j, y) = sym none_kept ∙ e2 in cc) };
  }

  -- ---- after the draw
  good_knows : (l n : ℕ) → l < z.locks → n ≡ get_or locks l 0 → v.tx.loaded ≡ None → v.tx.extension ≡ None → IsUndecided v.tx.hand → is_good v.part.thread v.tx.snapshot n ≡ true → Knows z q clock id v.part.thread (validating true l v.tx)
  good_knows l n inside is none_kept none_open und good = record {
    owns = m.owns;
    number = m.number;
    apart = m.apart;
    confirmed = record {
      snap = m.confirmed.snap;
      extended = λ s e2. absurd (let f : None ≡ Some s = sym none_open ∙ e2 in cc);
      valid = λ u i p h lt lt2. dite (ℕ_discrete l (lock_of z i))
          (λ here. good_unwritten l inside und.not_decided (rw (← is) good) i p here lt (λ y. omega arith))
          (λ other. m.confirmed.valid (record { number = u.number; not_decided = u.not_decided; not_void = u.not_void }) i p (let r = rw (ne_eqb l (lock_of z i) other) at h in r) lt lt2);
    };
    look = record { looked = m.look.looked; waits = λ j y e2. absurd (let f : None ≡ Some (j, y) = sym none_kept ∙ e2 in cc) };
  }

  abbrev pub voided_claims : Claims
  voided_claims = record q { pending = change q.pending v.tx.hand.number [] }

  hidden : (x i : ℕ) → written (q.pending x) i ≡ None → written (voided_claims.pending x) i ≡ None
  hidden x i e = ⊎_elim (λ s. ap (λ (ws : List Write). written ws i) s.1) (λ s. ap (λ (ws : List Write). written ws i) s.1 ∙ e) (at_change q.pending v.tx.hand.number [] x)

  pub void_moves : IsUndecided v.tx.hand → Moves z id clock q clock voided_claims
  void_moves und = record {
    clock_up = omega arith;
    version_up = λ i. omega arith;
    writing_on = λ i e. inl e;
    taken_on = λ j i x o e. e;
    taken_back = λ j i x o e. e;
    owner_on = λ j i x o e. e;
    owner_back = λ j i x o e. e;
    changed = λ i. inl (λ x le. refl);
    silent = λ x i le e. (refl, hidden x i e);
    others = λ x le o. (refl, ⊎_elim (λ s. absurd (o (ap q.who s.0 ∙ (m.number.numbered und.number).3))) (λ s. s.1) (at_change q.pending v.tx.hand.number [] x), refl);
    who_past = λ x le. refl;
    firm = λ x le e. (e, refl);
  }

  void_knows : (l : ℕ) → v.tx.loaded ≡ None → v.tx.extension ≡ None → IsUndecided v.tx.hand → Knows z voided_claims clock id v.part.thread (validating false l v.tx)
  void_knows l none_kept none_open und =
      let u = m.number.undecided und in record {
        owns = m.owns;
        number = record {
          numbered = m.number.numbered;
          blank = λ y. absurd (let p = und.number in omega arith);
          undecided = λ f. absurd (true≢false f.not_void);
          decided = λ f. absurd (true≢false (sym f ∙ und.not_decided));
          voided = λ f. (und.number, und.not_decided, u.0, u.3, ⊎_elim (λ s. s.1) (λ s. absurd (s.0 refl)) (at_change q.pending v.tx.hand.number [] v.tx.hand.number));
        };
        apart = record { apart = λ o x le j d lt. hidden x (get_or v.tx.reads j d).0 (m.apart.apart o x le j d lt) };
        confirmed = record {
          snap = m.confirmed.snap;
          extended = λ s e2. absurd (let f : None ≡ Some s = sym none_open ∙ e2 in cc);
          valid = λ f. absurd (true≢false f.not_void);
        };
        look = record { looked = m.look.looked; waits = λ j y e2. absurd (let f : None ≡ Some (j, y) = sym none_kept ∙ e2 in cc) };
      }

  voided_kept : (w : View) (l : ℕ) → w.tx ≡ validating false l v.tx → w.part ≡ v.part → w.draws ≡ v.draws → v.tx.loaded ≡ None → v.tx.extension ≡ None → IsUndecided v.tx.hand
      → LocksKept z voided_claims thread clock locks (set views id w)
  voided_kept w l tx part draws none_kept none_open und =
      let b = k.numbers in let num : ℕ = v.tx.hand.number in let at2 = at_change q.pending num [] in
      let quiet : (x : ℕ) → q.pending x ≡ [] → voided_claims.pending x ≡ [] = λ x e. ⊎_elim (λ s. s.1) (λ s. s.1 ∙ e) (at2 x) in
      let sums = total_set draws_of views id v w at in
      let same : w.tx.hand.number ≡ num = ap (λ (y : Transaction). y.hand.number) tx in
      together z q thread clock locks views k id v w at voided_claims thread clock locks
      (owned_on z q.hist q.lock thread clock locks views id v w at same k.owned)
      record {
        waiting = λ x i y f. ⊎_elim
            (λ s. absurd (let e : written [] i ≡ Some y = rw s.1 at f in cc))
            (λ s. let o = k.undecided.waiting x i y (rw s.1 at f) in ⊎_elim
            (λ r. absurd (s.0 (sym o.5 ∙ ap (λ (h : Hand). h.number) r.1)))
            (λ r. (o.0, o.1, o.2, o.3, r.1, o.5, o.6))
            (new_hand views id v w at o.0 o.2 o.4))
            (at2 x);
      }
      record {
        some_lock = b.some_lock;
        from = b.from;
        sized = b.sized;
        later = λ x lt. ((b.later x lt).0, quiet x (b.later x lt).1);
        before = λ x le. ((b.before x le).0, quiet x (b.before x le).1);
        inside = λ x i y e. ⊎_elim (λ a. b.inside x i y (inl a)) (λ a. ⊎_elim (λ s. absurd (let f : written [] i ≡ Some y = rw s.1 at a in cc)) (λ s. b.inside x i y (inr (rw s.1 at a))) (at2 x)) e;
        lists = λ x. ((b.lists x).0, ⊎_elim (λ s. rw s.1 empty_list) (λ s. rw s.1 (b.lists x).1) (at2 x));
      }
      (void_moves und)
      (subst (λ (y : Transaction). Knows z voided_claims clock id w.part.thread y) (sym tx) (rw part (void_knows l none_kept none_open und)))
      (let s = k.bounded in omega arith)

  -- a check that makes nothing void changes no claims
  validated : (w : View) (l n : ℕ) (b : Bool) → w.tx ≡ validating b l v.tx → w.part ≡ v.part → w.draws ≡ v.draws → l < z.locks → n ≡ get_or locks l 0 → v.tx.loaded ≡ None → v.tx.extension ≡ None → IsUndecided v.tx.hand → is_good v.part.thread v.tx.snapshot n ≡ b
      → LocksKept z (record q { pending = voids None None b v.tx.hand.number q.pending }) thread clock locks (set views id w)
  validated w l n true tx part draws inside is none_kept none_open und good =
      alone z q thread clock locks views k id v w at (ap (λ (y : Transaction). y.hand) tx) draws
      (subst (λ (y : Transaction). Knows z q clock id w.part.thread y) (sym tx) (rw part (good_knows l n inside is none_kept none_open und good)))
  validated w l n false tx part draws inside is none_kept none_open und bad = voided_kept w l tx part draws none_kept none_open und

  abbrev CheckKept : View → Option (ℕ × ℕ) → Option ℕ → ℕ → ℕ → Type 0
  CheckKept w o s l n = w.tx ≡ checking z o s v.part.thread l n v.tx → LocksKept z (record q { pending = voids o s (is_good v.part.thread v.tx.snapshot n) v.tx.hand.number q.pending }) thread clock locks (set views id w)

  extending_hand : (b : Bool) (s l : ℕ) → (extending z b s l v.tx).hand ≡ v.tx.hand
  extending_hand true s l = reaching_hand (all_checked z (l ∷ v.tx.checked) v.tx.reads) s (record v.tx { checked = l ∷ v.tx.checked })
    where
      reaching_hand : (b : Bool) (s : ℕ) (x : Transaction) → (reaching b s x).hand ≡ x.hand
      reaching_hand true s x = refl
      reaching_hand false s x = refl
  extending_hand false s l = refl

  undecided_in : (l : ℕ) → v.tx.loaded ≡ None → v.tx.extension ≡ None → Can z (check l) v → IsUndecided v.tx.hand
  undecided_in l e e2 can = ⊎_elim (λ a. let f : None ≡ Some (a.0, a.1) = sym e ∙ a.2 in absurd cc) (λ a. ⊎_elim (λ x. let f : None ≡ Some x.0 = sym e2 ∙ x.1 in absurd cc) (λ x. x.1) a.why) can

  checked_by : (w : View) (l : ℕ) → l < z.locks → Can z (check l) v → w.part ≡ v.part → w.draws ≡ v.draws → (o : Option (ℕ × ℕ)) (s : Option ℕ) → v.tx.loaded ≡ o → v.tx.extension ≡ s → CheckKept w o s l (get_or locks l 0)
  checked_by w l inside can part draws (Some p) s e e2 tx =
      let n : ℕ = get_or locks l 0 in
      let here : l ≡ lock_of z p.0 = ⊎_elim (λ a. let same : (a.0, a.1) ≡ p = (let f : Some (a.0, a.1) ≡ Some p = sym a.2 ∙ e in cc) in a.3 ∙ ap (λ (r : ℕ × ℕ). lock_of z r.0) same) (λ a. let f : None ≡ Some p = sym a.no_value ∙ e in absurd cc) can in
      alone z q thread clock locks views k id v w at (ap (λ (y : Transaction). y.hand) tx) draws
      (subst (λ (y : Transaction). Knows z q clock id w.part.thread y) (sym tx) (rw part
      (joined_knows p.0 p.1 n e (ap (λ y. get_or locks y 0) here))))
  checked_by w l inside can part draws None (Some s) e e2 tx =
      let n : ℕ = get_or locks l 0 in let b = is_good v.part.thread v.tx.snapshot n in
      alone z q thread clock locks views k id v w at (ap (λ (y : Transaction). y.hand) tx ∙ extending_hand b s l) draws
      (subst (λ (y : Transaction). Knows z q clock id w.part.thread y) (sym tx) (rw part (extended_knows s l n inside refl e e2 b refl)))
  checked_by w l inside can part draws None None e e2 tx = validated w l (get_or locks l 0) (is_good v.part.thread v.tx.snapshot (get_or locks l 0)) tx part draws inside refl e e2 (undecided_in l e e2 can) refl

  pub checks : (w : View) (l : ℕ) → l < z.locks → Can z (check l) v → w.part ≡ v.part → w.draws ≡ v.draws → CheckKept w v.tx.loaded v.tx.extension l (get_or locks l 0)
  checks w l inside can part draws = checked_by w l inside can part draws v.tx.loaded v.tx.extension refl refl

  validate_moves : (b : Bool) → IsUndecided v.tx.hand → Moves z id clock q clock (record q { pending = voids None None b v.tx.hand.number q.pending })
  validate_moves true und = at_rest z id clock q
  validate_moves false und = void_moves und

  check_moves_by : (l : ℕ) (b : Bool) → Can z (check l) v → (o : Option (ℕ × ℕ)) (s : Option ℕ) → v.tx.loaded ≡ o → v.tx.extension ≡ s → Moves z id clock q clock (record q { pending = voids o s b v.tx.hand.number q.pending })
  check_moves_by l b can (Some p) s e e2 = at_rest z id clock q
  check_moves_by l b can None (Some s) e e2 = at_rest z id clock q
  check_moves_by l b can None None e e2 = validate_moves b (undecided_in l e e2 can)

  pub check_moves : (l : ℕ) (b : Bool) → Can z (check l) v → Moves z id clock q clock (record q { pending = voids v.tx.loaded v.tx.extension b v.tx.hand.number q.pending })
  check_moves l b can = check_moves_by l b can v.tx.loaded v.tx.extension refl refl
