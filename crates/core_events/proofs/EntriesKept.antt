-- The layer of entries is kept.
use Rattle.std.proofs.Common.{◌≡◌, ℕ, ◌+◌, ◌≤◌, Bool, true, false, List, [], ◌∷◌, ◌++◌, get_or, set, map, refl, sym, ap, ◌∙◌, ⊎_elim, arith, All}
use Rattle.std.proofs.lemmas.Bool.{true≢false}
use Rattle.std.proofs.lemmas.List.{map-set}
use Rattle.std.proofs.lemmas.List.Elements.{All-append}
use mathlib.Core.Option.{some}
use mathlib.Core.Logic.{dite}
use native.Mathlib.Decide.{dec_le}
use lib.ListN.{get_elem?}
use Rattle.dude_base.specs.declared.write.Write.{Write}
use Rattle.dude_base.specs.Writes.{written}
use Rattle.core_events.specs.Setups.{Setup}
use Rattle.core_events.specs.Views.{Entry, View}
use Rattle.core_events.specs.Words.{State, found}
use Rattle.core_events.specs.Entries.{read_at}
use Rattle.core_events.specs.Events.{Event, number, finish, draw, decide, name, view_after, read_entry, write_entry}
use Rattle.core_events.specs.Conditions.{IsAllowed, after}
use Rattle.core_events.specs.Partings.{newcomer, left_of, both_of, spent, MaySplit, MayJoin, split, join}
use Rattle.core_events.specs.Ghosts.{Claims, Ghost, claims_after, ghost_after, ghost_joined}
use Rattle.core_events.specs.KeptEntries.{entries_of, EntryLegal, EntriesLegal, EntriesOnce, OnlyDecidedWrote, SpentEmpty, EntriesKept}
use Rattle.core_events.specs.Layers.{ThreadsIn, LocksIn}
use Rattle.core_events.proofs.Lists.{at_set, at_snoc, at_map, unmoved, all_one, at_change}
use Rattle.core_events.proofs.Stays.{Moves}
use Rattle.core_events.proofs.Decides.{decided_claims, hist_at, pending_at}
use Rattle.core_events.proofs.LocksKept.{moves}
use Rattle.core_events.proofs.EntriesOnce.{written_append, append_none, later, reads_on, writes_on, draws_on, splits_on, joins_on}

abbrev LegalIn : Setup → Claims → ℕ → Entry → Type 0
LegalIn z q clock e = EntryLegal z.first q.hist q.pending q.settled clock e

abbrev AllLegal : Setup → Claims → ℕ → List (List Entry) → Type 0
AllLegal z q clock logs = EntriesLegal z.first q.hist q.pending q.settled clock logs

read_le : (e : Entry) (b : Bool) → e.wrote ≡ b → read_at e ≤ e.number
read_le e true is = rw is (omega arith)
read_le e false is = rw is (omega arith)

module _ (z : Setup) (id clock clock2 : ℕ) (q r : Claims) (m : Moves z id clock q clock2 r) where
  -- an entry that was legal stays so
  pub legal_on : (e : Entry) → LegalIn z q clock e → LegalIn z r clock2 e
  legal_on e l =
      let le = read_le e e.wrote refl in let u = l.upto in let up = m.clock_up in record {
        upto = omega arith;
        from = l.from;
        apart = λ n s k d lt. (m.silent n (get_or e.reads k d).0 (omega arith) (l.apart n s k d lt)).1;
        wrote = λ w. let p = l.wrote w in let f = m.firm e.number l.upto p.1 in (p.0, f.0, f.1 ∙ p.2);
      }

  all_on : (es : List Entry) → All (LegalIn z q clock) es → All (LegalIn z r clock2) es
  all_on es a k d lt = legal_on (get_or es k d) (a k d lt)

  -- a step that adds no entry
  adds_none : (views : List View) (v w : View) → get_elem? views id ≡ some v → w.entries ≡ v.entries → AllLegal z q clock (map entries_of views) → AllLegal z r clock2 (map entries_of (set views id w))
  adds_none views v w at same legal = rw (unmoved entries_of views id v w at same) (λ j es e. all_on es (legal j es e))

  -- a step that adds one entry
  adds_one : (views : List View) (v w : View) (e : Entry) → get_elem? views id ≡ some v → w.entries ≡ v.entries ++ e ∷ [] → LegalIn z r clock2 e → AllLegal z q clock (map entries_of views) → AllLegal z r clock2 (map entries_of (set views id w))
  adds_one views v w e at is new legal j es got =
      let P : Entry → Type 0 = LegalIn z r clock2 in
      let there : get_elem? (set (map entries_of views) id w.entries) j ≡ some es = rw map-set at got in
      ⊎_elim
      (λ t. rw (← t.1, is) (All-append P v.entries (e ∷ []) (all_on v.entries (legal id v.entries (at_map entries_of views id v at))) (all_one P e new)))
      (λ t. all_on es (legal j es t.1))
      (at_set (map entries_of views) id j w.entries es there)

map_snoc : (l : List View) (a : View) → map entries_of (l ++ a ∷ []) ≡ map entries_of l ++ a.entries ∷ []
map_snoc [] a = refl
map_snoc (x ∷ xs) a = ap (λ (h : List (List Entry)). x.entries ∷ h) (map_snoc xs a)

module _ (z : Setup) where
  -- the logs after a split and a join
  logs_split : (c : State) (id draws : ℕ) (v : View) → get_elem? c.views id ≡ some v → map entries_of (split z c id v draws).views ≡ map entries_of c.views ++ [] ∷ []
  logs_split c id draws v at =
      map_snoc (set c.views id (left_of draws v)) (newcomer z 0 draws)
      ∙ ap (λ (l : List (List Entry)). l ++ [] ∷ []) (unmoved entries_of c.views id v (left_of draws v) at refl)

  logs_join : (c : State) (id other : ℕ) (v w : View) → map entries_of (join z c id v other w).views ≡ set (set (map entries_of c.views) id (v.entries ++ w.entries)) other []
  logs_join c id other v w = map-set entries_of (set c.views id (both_of v w)) other (spent z) ∙ ap (λ (l : List (List Entry)). set l other []) (map-set entries_of c.views id (both_of v w))

  -- the entry of a transaction that read, and of a number that becomes decided
  read_legal : (c : State) (g : Ghost) (k : LocksIn z g c) (id : ℕ) (v : View) (a : IsAllowed z c id decide v) → LegalIn z (decided_claims z g.claims g.thread c.clock c.locks c.views k id v a.is_there a.may.can.0) c.clock (write_entry v)
  read_legal c g k id v a =
      let m = k.each id v a.is_there in let und = a.may.can.0 in let num = m.number.numbered und.number in let n : ℕ = v.tx.hand.number in
      let low = (m.confirmed.snap num.2).0 in let lt = num.0 in let q = g.claims in record {
        upto = num.1;
        from = omega arith;
        apart = λ x le j d lt2. ap (λ (l : List Write). written l (get_or v.tx.reads j d).0) (⊎_elim (λ t. absurd (let e = t.0 in omega arith)) (λ t. t.1) (pending_at z q g.thread c.clock c.locks c.views k id v a.is_there und x))
            ∙ dite (dec_le x v.tx.snapshot)
            (λ small. m.apart.apart num.2 x small j d lt2)
            (λ large. (m.confirmed.valid und (get_or v.tx.reads j d).0 x (a.may.can.1 j d lt2) (omega arith) (omega arith)).1);
        wrote = λ _. (
          omega arith,
          ⊎_elim (λ t. t.1) (λ t. absurd (t.0 refl)) (at_change q.settled n true n),
          ⊎_elim (λ t. t.1) (λ t. absurd (t.0 refl)) (hist_at z q g.thread c.clock c.locks c.views k id v a.is_there und n),
        );
      }

  legal_keep : (e : Event) (c : State) (id : ℕ) (v : View) (g : Ghost) → ThreadsIn z g c → LocksIn z g c → IsAllowed z c id e v → AllLegal z g.claims c.clock (map entries_of c.views)
      → AllLegal z (claims_after z g.claims c id v e) (after z c id v e).clock (map entries_of (after z c id v e).views)
  legal_keep (finish b) c id v g s k a l =
      let m = k.each id v a.is_there in let steady = a.may.can.0 in let snap = m.confirmed.snap steady.undrawn.is_open in
      adds_one z id c.clock c.clock g.claims g.claims (moves z (finish b) c id v g s k a) c.views v (view_after z (finish b) v c.threads) (read_entry b v) a.is_there refl
      record { upto = snap.1; from = snap.0; apart = m.apart.apart steady.undrawn.is_open; wrote = λ w. absurd (true≢false (sym w)) } l
  legal_keep decide c id v g s k a l =
      adds_one z id c.clock c.clock g.claims (claims_after z g.claims c id v decide) (moves z decide c id v g s k a) c.views v (view_after z decide v (found c (name z decide v))) (write_entry v) a.is_there refl (read_legal c g k id v a) l
  legal_keep e c id v g s k a l =
      adds_none z id c.clock (after z c id v e).clock g.claims (claims_after z g.claims c id v e) (moves z e c id v g s k a) c.views v (view_after z e v (found c (name z e v))) a.is_there refl l

  once_keep : (e : Event) (c : State) (id : ℕ) (v : View) (g : Ghost) → LocksIn z g c → IsAllowed z c id e v → EntriesOnce g.author g.claims.settled c.clock (map entries_of c.views)
      → EntriesOnce (ghost_after z g c id v e).author (claims_after z g.claims c id v e).settled (after z c id v e).clock (map entries_of (after z c id v e).views)
  once_keep (finish b) c id v g k a o =
      let w = view_after z (finish b) v c.threads in
      rw (map-set entries_of c.views id w) (reads_on g.author g.claims.settled c.clock (map entries_of c.views) o id v.entries w.entries (at_map entries_of c.views id v a.is_there) (written_append v.entries _ ∙ append_none _))
  once_keep decide c id v g k a o =
      let w = view_after z decide v (found c (name z decide v)) in let m = k.each id v a.is_there in let und = a.may.can.0 in
      rw (map-set entries_of c.views id w) (writes_on g.author g.claims.settled c.clock (map entries_of c.views) o id v.tx.hand.number v.entries w.entries (at_map entries_of c.views id v a.is_there) (written_append v.entries _) (m.number.undecided und).3 (m.number.numbered und.number).1)
  once_keep (draw b ws) c id v g k a o =
      rw (unmoved entries_of c.views id v (view_after z (draw b ws) v c.clock) a.is_there refl)
      (later g.author _ c.clock _ (draws_on g.author g.claims.settled c.clock _ o (c.clock + 1) (omega arith)) (c.clock + 1) (omega arith))
  once_keep e c id v g k a o = rw (unmoved entries_of c.views id v (view_after z e v (found c (name z e v))) a.is_there refl) o

  only_keep : (e : Event) (c : State) (id : ℕ) (v : View) (g : Ghost) → LocksIn z g c → OnlyDecidedWrote g.claims.settled g.claims.hist → OnlyDecidedWrote (claims_after z g.claims c id v e).settled (claims_after z g.claims c id v e).hist
  only_keep (draw b ws) c id v g k o = λ n e. ⊎_elim (λ t. (k.numbers.later n (let m = t.0 in omega arith)).0) (λ t. o n (sym t.1 ∙ e)) (at_change g.claims.settled (c.clock + 1) false n)
  only_keep decide c id v g k o = λ n e. ⊎_elim (λ t. absurd (true≢false (sym t.1 ∙ e))) (λ t. ⊎_elim (λ u. absurd (t.0 u.0)) (λ u. u.1 ∙ o n (sym t.1 ∙ e)) (at_change g.claims.hist v.tx.hand.number v.tx.hand.writes n)) (at_change g.claims.settled v.tx.hand.number true n)
  only_keep e c id v g k o = o

  -- a view that isn't spent changes
  live_stays : (views : List View) (id : ℕ) (w : View) → w.part.is_spent ≡ false → SpentEmpty views → SpentEmpty (set views id w)
  live_stays views id w live s j u at now = ⊎_elim (λ t. absurd (true≢false (sym now ∙ (ap (λ (x : View). x.part.is_spent) (sym t.1) ∙ live)))) (λ t. s j u t.1 now) (at_set views id j w u at)

  still_live : (e : Event) (c : State) (v : View) → v.part.is_spent ≡ false → (view_after z e v (found c (name z e v))).part.is_spent ≡ false
  still_live number c v live = live
  still_live e c v live = live

  pub entries_keep : (e : Event) (c : State) (id : ℕ) (v : View) (g : Ghost) → ThreadsIn z g c → LocksIn z g c → EntriesKept z g c → IsAllowed z c id e v → EntriesKept z (ghost_after z g c id v e) (after z c id v e)
  entries_keep e c id v g s k o a = record {
    legal = legal_keep e c id v g s k a o.legal;
    once = once_keep e c id v g k a o.once;
    only = only_keep e c id v g k o.only;
    spent = live_stays c.views id (view_after z e v (found c (name z e v))) (still_live e c v a.may.live) o.spent;
  }

  no_entries : (q : Claims) (clock : ℕ) → All (LegalIn z q clock) []
  no_entries q clock k d lt = absurd (omega arith)

  pub entries_split_keep : (c : State) (id draws : ℕ) (v : View) (g : Ghost) → EntriesKept z g c → MaySplit c id v draws → EntriesKept z g (split z c id v draws)
  entries_split_keep c id draws v g o may =
      let logs = logs_split c id draws v may.is_there in record {
        legal = λ j es got. let there : get_elem? (map entries_of c.views ++ [] ∷ []) j ≡ some es = rw logs at got in
            ⊎_elim (λ t. o.legal j es t) (λ t. rw (← t.0) (no_entries g.claims c.clock)) (at_snoc (map entries_of c.views) [] es j there);
        once = rw logs (splits_on g.author g.claims.settled c.clock (map entries_of c.views) o.once);
        only = o.only;
        spent = λ j u e now. ⊎_elim
            (λ t. live_stays c.views id (left_of draws v) may.live o.spent j u t now)
            (λ t. absurd (true≢false (sym now ∙ ap (λ (x : View). x.part.is_spent) (sym t.0))))
            (at_snoc (set c.views id (left_of draws v)) (newcomer z 0 draws) u j e);
      }

  pub entries_join_keep : (c : State) (id other : ℕ) (v w : View) (g : Ghost) → EntriesKept z g c → MayJoin c id v other w → EntriesKept z (ghost_joined g id other) (join z c id v other w)
  entries_join_keep c id other v w g o may =
      let logs = map entries_of c.views in let all = v.entries ++ w.entries in let is = logs_join c id other v w in
      record {
        legal = λ j es got. let there : get_elem? (set (set logs id all) other []) j ≡ some es = rw is at got in
            ⊎_elim (λ t. rw (← t.1) (no_entries g.claims c.clock))
            (λ t. ⊎_elim
            (λ s. rw (← s.1) (All-append (LegalIn z g.claims c.clock) v.entries w.entries (o.legal id v.entries (at_map entries_of c.views id v may.is_there)) (o.legal other w.entries (at_map entries_of c.views other w may.other_there))))
            (λ s. o.legal j es s.1) (at_set logs id j all es t.1))
            (at_set (set logs id all) other j [] es there);
        once = rw is (joins_on g.author g.claims.settled c.clock logs o.once id other v.entries w.entries (at_map entries_of c.views id v may.is_there) may.apart (at_map entries_of c.views other w may.other_there));
        only = o.only;
        spent = λ j u e now. ⊎_elim
            (λ t. ap (λ (x : View). x.entries) (sym t.1))
            (λ t. live_stays c.views id (both_of v w) may.live o.spent j u t.1 now)
            (at_set (set c.views id (both_of v w)) other j (spent z) u e);
      }
