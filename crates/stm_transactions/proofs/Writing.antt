-- A transaction owns the lock of a word, and notes a write of it.
use Rattle.std.proofs.Common.{◌≡◌, ◌≢◌, ℕ, ◌*◌, ◌<◌, ◌≤◌, true, List, [], ◌∷◌, ◌++◌, length, get_or, sym, ap, ◌∙◌, subst, inl, inr, ⊎_elim, arith}
use Rattle.std.specs.Prelude.{None, is_some}
use Rattle.std.specs.List.{All}
use Rattle.std.proofs.lemmas.Bool.{true≢false, cases_Bool}
use Rattle.std.proofs.lemmas.List.{length-append}
use Rattle.dude_base.specs.declared.limits.TheConstants.{PAGE, MAX_WRITES}
use Rattle.dude_base.specs.declared.write.Write.{Write}
use Rattle.dude_base.specs.Writes.{written, put_write, IsWide, IsWriteList}
use Rattle.dude_base.proofs.WriteLists.{absent_written, put_absent, All-put_write, IsWriteList-put_write, length-put_write, None-from_is_some}
use Rattle.core_events.specs.Setups.{Setup, lock_of}
use Rattle.core_events.specs.Keyed.{find}
use Rattle.core_events.specs.Views.{View, Transaction}
use Rattle.stm_transactions.specs.Pairs.{pairs_of, Noted}
use Rattle.stm_transactions.specs.Looks.{AreUpTo}
use Rattle.stm_transactions.specs.Owns.{AfterOwn}
use Rattle.stm_transactions.specs.Running.{IsRunning}
use Rattle.stm_transactions.proofs.Pairs.{found_some, found_pairs, length_pairs, among, written_more}
use Rattle.stm_transactions.specs.declared.pass_numbers.PassNumbers.{PassNumbers}
use Rattle.stm_transactions.specs.Passes.{Describes, greatest, entry_numbers}

module _ (z : Setup) (thread snapshot : ℕ) (reads : List (ℕ × ℕ)) (ws held : List Write) (pins : List (ℕ × ℕ)) (v : View) (r : IsRunning z thread snapshot reads ws (pairs_of held) pins v) where
  -- a written word's lock is owned
  held_if_written : (at : ℕ) → is_some (written ws at) ≡ true → is_some (written held (lock_of z at)) ≡ true
  held_if_written at is =
      let x = found_some (written ws at) is in
      let m = among ws at x.0 x.1 in
      let d : Write = record { at = at; value = x.0 } in
      sym (found_pairs held (lock_of z at)) ∙ subst (λ (i : ℕ). is_some (find (pairs_of held) (lock_of z i)) ≡ true) (m.2 d) (r.covered m.0 d m.1)

  fresh : (at : ℕ) → written held (lock_of z at) ≡ None → written ws at ≡ None
  fresh at none = elim (cases_Bool (is_some (written ws at))) [
    | inl there ↦ absurd (true≢false (sym (held_if_written at there) ∙ ap is_some none))
    | inr new ↦ None-from_is_some (written ws at) new
  ]

  -- there is room for one lock more
  pub room : (at : ℕ) → (IsWide ws at → ⊥) → written held (lock_of z at) ≡ None → length held < MAX_WRITES
  room at narrow none =
      let new = fresh at none in
      let full : length ws ≢ MAX_WRITES = λ e. narrow (record { full = e; new = new }) in
      let a = r.few in let b = length_pairs held in let c = r.list.few in omega arith

  pub running_own : (held2 ws2 : List Write) (s2 : ℕ) (w : View) → AfterOwn (pairs_of held2) s2 v w → IsWriteList ws2 → All (λ x. x.at < z.pages * PAGE) ws2 → All (λ x. is_some (find (pairs_of held2) (lock_of z x.at)) ≡ true) ws2 → length held2 ≤ length ws2
      → IsRunning z thread s2 reads ws2 (pairs_of held2) pins w
  running_own held2 ws2 s2 w a list inside covered few = record {
    of = record { live = ap (λ (x : View). x.part.is_spent) a.within ∙ r.of.live; its = ap (λ (x : View). x.part.thread) a.within ∙ r.of.its };
    steady = record { undrawn = record { is_open = ap (λ (x : Transaction). x.is_open) a.like ∙ r.steady.undrawn.is_open; no_number = ap (λ (x : Transaction). x.hand.number) a.like ∙ r.steady.undrawn.no_number }; no_extension = a.ended };
    snap = a.snap;
    reads_are = ap (λ (x : Transaction). x.reads) a.like ∙ r.reads_are;
    owned_are = a.owned_are;
    pins_are = ap (λ (x : View). x.paging.pins) a.within ∙ r.pins_are;
    no_turn = ap (λ (x : View). x.turn.has_it) a.within ∙ r.no_turn;
    box = ap (λ (x : View). x.box.is_empty) a.within ∙ r.box;
    upto = (let same : w.entries ≡ v.entries = ap (λ (x : View). x.entries) a.within in let up : AreUpTo v.tx.snapshot v = rw r.snap r.upto in rw same (a.upto up));
    list = list;
    inside = inside;
    covered = covered;
    few = (let b = length_pairs held2 in omega arith);
  }

  -- the lock is owned now, and the write is noted
  pub running_write : (at value : ℕ) (held2 : List Write) (s2 : ℕ) (w : View) → at < z.pages * PAGE → (IsWide ws at → ⊥) → AfterOwn (pairs_of held2) s2 v w → Noted (lock_of z at) held held2
      → IsRunning z thread s2 reads (put_write ws (record { at = at; value = value })) (pairs_of held2) pins w
  running_write at value held2 s2 w there narrow a noted =
      let x : Write = record { at = at; value = value } in
      let more : (k : ℕ) → is_some (find (pairs_of held) k) ≡ true → is_some (find (pairs_of held2) k) ≡ true = λ k is. ⊎_elim
      (λ same. rw same is)
      (λ m. found_pairs held2 k ∙ rw m.1.1 (written_more held (lock_of z at) m.1.0 k (sym (found_pairs held k) ∙ is)))
      noted.more in
      running_own held2 (put_write ws x) s2 w a
      (IsWriteList-put_write x ws r.list narrow)
      (All-put_write x (λ (i : ℕ). i < z.pages * PAGE) there ws r.inside)
      (All-put_write x (λ (i : ℕ). is_some (find (pairs_of held2) (lock_of z i)) ≡ true) (found_pairs held2 (lock_of z at) ∙ noted.there) ws (λ k d lt. more (lock_of z (get_or ws k d).at) (r.covered k d lt)))
      (⊎_elim
      (λ same. let n = (length-put_write ws x).0 in let m = ap length same in let f = r.few in let g = length_pairs held in omega arith)
      (λ m. let p : put_write ws x ≡ ws ++ x ∷ [] = put_absent ws x (absent_written ws at (fresh at m.0)) in let n = ap length p in let b = ap length m.1.1 in let f = r.few in let g = length_pairs held in
      omega (arith, length-append ws (x ∷ []), length-append held ((record { at = lock_of z at; value = m.1.0 }) ∷ [])))
      noted.more)

  pub running_lost : (s2 : ℕ) (w : View) → AfterOwn (pairs_of held) s2 v w → IsRunning z thread s2 reads ws (pairs_of held) pins w
  running_lost s2 w a = running_own held ws s2 w a r.list r.inside r.covered (let f = r.few in let g = length_pairs held in omega arith)

pub own_describes : (z : Setup) (f : PassNumbers) (owned : List (ℕ × ℕ)) (s2 : ℕ) (v w : View) → AfterOwn owned s2 v w → Describes z f v → Describes z f w
own_describes z f owned s2 v w a t = record {
  of = record { live = ap (λ (x : View). x.part.is_spent) a.within ∙ t.of.live; its = ap (λ (x : View). x.part.thread) a.within ∙ t.of.its };
  next = ap (λ (x : View). x.box.next) a.within ∙ t.next;
  last = t.last ∙ ap (λ (x : View). greatest z.first (entry_numbers x.entries)) (sym a.within);
  drawn = t.drawn ∙ ap (λ (x : View). greatest 0 x.drawn) (sym a.within);
  left = ap (λ (x : View). x.draws) a.within ∙ t.left;
  splits = ap (λ (x : View). x.part.splits) a.within ∙ t.splits;
  durable = ap (λ (x : View). x.turn.durable) a.within ∙ t.durable;
  met_fault = ap (λ (x : View). x.turn.met_fault) a.within ∙ t.met_fault;
  few = t.few;
  opening = t.opening;
}
