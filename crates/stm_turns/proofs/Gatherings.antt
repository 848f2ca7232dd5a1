-- Records in hand and the bundle that joins them: one more, and what may be done with them.
use Rattle.std.proofs.Common.{◌≡◌, ◌≢◌, ℕ, ◌+◌, ◌*◌, ◌<◌, ◌≤◌, Bool, true, false, List, [], ◌∷◌, ◌++◌, All, if◌then◌else◌, ◌==◌, length, map, get_or, set, refl, sym, ap, ◌∙◌, subst, ⊎_elim, arith}
use Rattle.std.specs.Prelude.{is_some}
use Rattle.std.specs.List.{Contains}
use Rattle.std.proofs.lemmas.Bool.{true≢false}
use Rattle.std.proofs.lemmas.List.Elements.{All-nil, All-cons, All-head, All-tail, All-push, Contains-append_left, Contains-push, Contains-push_cases}
use Rattle.dude_base.specs.declared.limits.TheConstants.{MAX_SPAN, PAGE}
use Rattle.dude_base.specs.declared.write.Write.{Write}
use Rattle.dude_base.specs.Records.{RedoBundle, RedoRecord, bundle_of, first_of, with_next}
use Rattle.dude_base.specs.Writes.{put_all, put_write, written}
use Rattle.redo_record.specs.Record.{cells_for}
use Rattle.core_events.specs.Setups.{Setup}
use Rattle.stm_slots.specs.KnownLists.{BackLists}
use Rattle.stm_slots.specs.Records.{AreNew, HasRecord, LacksRecord, writes_in}
use Rattle.stm_slots.proofs.JoinedRecords.{has_either, has_here, has_more, joined_records_law, writes_here, writes_more}
use Rattle.stm_slots.specs.Queues.{place_at}
use Rattle.stm_slots.proofs.Taken.{contains_here, contains_either, contains_none}
use Rattle.stm_turns.specs.Gathered.{AreFronts, BeginsAlike, BeginsWith, IsGathered, IsJoined, TakesNext}
use Rattle.stm_turns.specs.Holding.{Held, IsHeld, IsInHand, box_held, boxes_held}
use Rattle.stm_turns.specs.Turns.{place_after}
use Rattle.stm_turns.specs.declared.gathering.Gathering.{Gathering}
use Rattle.stm_turns.proofs.HeldRecords.{apart_push, fronts_push, threads_push}

-- ---- writes of home words
put_home : (n : ℕ) (ws : List Write) (w : Write) → All (λ x. x.at < n) ws → w.at < n → All (λ x. x.at < n) (put_write ws w)
put_home n ws w all new = by_case (is_some (written ws w.at)) refl
  where
    one : (v : Write) → v.at < n → (if v.at == w.at then w else v).at < n
    one v lt = pick (v.at == w.at)
      where
        pick : (b : Bool) → (if b then w else v).at < n
        pick true = new
        pick false = lt

    replaced : (vs : List Write) → All (λ x. x.at < n) vs → All (λ x. x.at < n) (map (λ v. if v.at == w.at then w else v) vs)
    replaced [] home = All-nil (λ (x : Write). x.at < n)
    replaced (v ∷ vs) home = All-cons (λ (x : Write). x.at < n) (if v.at == w.at then w else v) (map (λ u. if u.at == w.at then w else u) vs) (one v (All-head (λ (x : Write). x.at < n) v vs home)) (replaced vs (All-tail (λ (x : Write). x.at < n) v vs home))

    by_case : (b : Bool) → is_some (written ws w.at) ≡ b → All (λ x. x.at < n) (put_write ws w)
    by_case true e = rw e (replaced ws all)
    by_case false e = rw e (All-push (λ (x : Write). x.at < n) ws w all new)

puts_home : (n : ℕ) (ws vs : List Write) → All (λ x. x.at < n) ws → All (λ x. x.at < n) vs → All (λ x. x.at < n) (put_all ws vs)
puts_home n ws [] all home = all
puts_home n ws (v ∷ vs) all home = puts_home n (put_write ws v) vs (put_home n ws v all (All-head (λ (x : Write). x.at < n) v vs home)) (All-tail (λ (x : Write). x.at < n) v vs home)

-- ---- the bundle
module _ (z : Setup) where
  -- of one record
  pub joined_one : (l : BackLists) (p : Held) → IsHeld z l p → IsJoined z (p ∷ []) p.thread (bundle_of p.redo)
  joined_one l p held = record {
    records = p.redo ∷ [];
    joins = joined_records_law.one p.redo;
    has = λ q among. ⊎_elim
        (λ e. subst (λ (a : Held). HasRecord (p.redo ∷ []) a.redo.number × (writes_in (p.redo ∷ []) a.redo.number ≡ a.redo.writes)) e (has_here p.redo [], writes_here p.redo []))
        (λ none_left. absurd (contains_none q none_left))
        (contains_either p [] q among);
    only = λ n has. ⊎_elim
        (λ e. (p, contains_here p [], subst (λ (m : ℕ). p.redo ≡ record { number = m; writes = writes_in (p.redo ∷ []) m }) e (ap (λ ws. record { number = p.redo.number; writes = ws }) (sym (writes_here p.redo [])))))
        (λ none_left. absurd (true≢false (sym none_left)))
        (has_either p.redo [] n has);
    first = p;
    others = [];
    hand_is = refl;
    ring_is = refl;
    first_is = omega arith;
    span = omega arith;
    small = held.may.small;
    home = held.may.home;
  }

  -- of one more
  module _ (l : BackLists) (hand : List Held) (ring : ℕ) (b : RedoBundle) (j : IsJoined z hand ring b) (p : Held) (held : IsHeld z l p) (next : p.redo.number ≡ b.last + 1) where
    abbrev more : List RedoRecord
    more = p.redo ∷ j.records

    is_new : (n : ℕ) → HasRecord j.records n → p.redo.number ≢ n
    is_new n has e = let c = j.joins.only n has in let high = c.high in absurd (omega arith)

    joined_next : IsJoined z (hand ++ p ∷ []) ring (with_next b p.redo)
    joined_next = record {
      records = more;
      joins = joined_records_law.next j.records b p.redo j.joins j.span next held.may.list.distinct;
      has = λ q among. ⊎_elim
          (λ old. let h = j.has q old in (has_more p.redo j.records q.redo.number h.0, writes_more p.redo j.records q.redo.number (is_new q.redo.number h.0) ∙ h.1))
          (λ e. subst (λ (a : Held). HasRecord more a.redo.number × (writes_in more a.redo.number ≡ a.redo.writes)) e (has_here p.redo j.records, writes_here p.redo j.records))
          (Contains-push_cases hand p q among);
      only = λ n has. ⊎_elim
          (λ e. (p, Contains-push hand p, subst (λ (m : ℕ). p.redo ≡ record { number = m; writes = writes_in more m }) e (ap (λ ws. record { number = p.redo.number; writes = ws }) (sym (writes_here p.redo j.records)))))
          (λ old. let o = j.only n old in (o.0, Contains-append_left hand (p ∷ []) o.0 o.1, o.2 ∙ ap (λ ws. record { number = n; writes = ws }) (sym (writes_more p.redo j.records n (is_new n old)))))
          (has_either p.redo j.records n has);
      first = j.first;
      others = j.others ++ p ∷ [];
      hand_is = ap (λ xs. xs ++ p ∷ []) j.hand_is;
      ring_is = j.ring_is;
      first_is = j.first_is ∙ (let s = j.span in omega arith);
      span = (let s = j.span in omega arith);
      small = (let s = held.may.small in omega arith);
      home = puts_home (z.pages * PAGE) b.writes p.redo.writes j.home held.may.home;
    }

  -- no record in hand has the next number
  pub others_than_next : (hand : List Held) (ring : ℕ) (b : RedoBundle) → IsJoined z hand ring b → (p : Held) → Contains hand p → p.redo.number ≢ b.last + 1
  others_than_next hand ring b j p among e = let c = j.joins.only p.redo.number (j.has p among).0 in let high = c.high in absurd (omega arith)

  -- ---- a gathering
  pub gathered_one : (l : BackLists) (next : List ℕ) (cells boxes : ℕ) (p : Held) (g : Gathering) → IsHeld z l p → p.place ≡ get_or next p.thread 0 → boxes ≡ z.boxes → BeginsWith p.thread p.redo next boxes g → cells_for (length p.redo.writes) ≤ cells → IsGathered z next cells (p ∷ []) g
  gathered_one l next cells boxes p g held front same b short = record {
    joined = subst (λ (u : ℕ). IsJoined z (p ∷ []) u g.bundle) (sym b.ring) (subst (IsJoined z (p ∷ []) p.thread) (sym b.bundle) (joined_one l p held));
    fronts = (held.inside, front, b.ahead ∙ ap (λ (d : ℕ). set next p.thread d) (ap (λ (c : ℕ). place_after c (get_or next p.thread 0)) same ∙ ap (λ (j : ℕ). place_at z j 1) (sym front)));
    apart = ((λ q among. contains_none (box_held z p, q) among), tt);
    threads = (b.threads, sym b.count);
    short = subst (λ (c : RedoBundle). cells_for (length c.writes) ≤ cells) (sym b.bundle) short;
    few = (let c = b.count in omega arith);
    some = (let c = b.count in omega arith);
  }

  pub gathered_next : (l : BackLists) (next : List ℕ) (cells boxes : ℕ) (hand : List Held) (g h : Gathering) (p : Held) → IsGathered z next cells hand g → IsHeld z l p → p.place ≡ get_or g.ahead p.thread 0 → boxes ≡ z.boxes → MAX_SPAN < length g.threads
      → ((q : RedoRecord) → Contains (boxes_held z hand) (box_held z p, q) → ⊥) → TakesNext p.thread p.redo cells boxes g h → IsGathered z next cells (hand ++ p ∷ []) h
  gathered_next l next cells boxes hand g h p is held front same wide apart k = record {
    joined = subst (λ (u : ℕ). IsJoined z (hand ++ p ∷ []) u h.bundle) (sym k.ring) (subst (IsJoined z (hand ++ p ∷ []) g.ring) (sym k.bundle) (joined_next l hand g.ring g.bundle is.joined p held k.can.next));
    fronts = subst (AreFronts z next (hand ++ p ∷ [])) (sym (k.ahead ∙ ap (λ (d : ℕ). set g.ahead p.thread d) (ap (λ (c : ℕ). place_after c (get_or g.ahead p.thread 0)) same ∙ ap (λ (j : ℕ). place_at z j 1) (sym front)))) (fronts_push z next hand g.ahead p is.fronts held.inside front);
    apart = apart_push z hand p is.apart apart;
    threads = rw (k.threads, k.count) (threads_push g.threads g.count 0 hand p (let r = k.room in omega arith) is.threads);
    short = k.short;
    few = (let c = k.count in let r = k.room in omega arith);
    some = (let c = k.count in omega arith);
  }

  pub alike_next : (thread cells boxes : ℕ) (r : RedoRecord) (g h : Gathering) → TakesNext thread r cells boxes g h → BeginsAlike g h
  alike_next thread cells boxes r g h k = record { ring = k.ring; first = ap first_of k.bundle ∙ (let e : first_of (with_next g.bundle r) ≡ first_of g.bundle = omega arith in e) }

  -- ---- its records are new
  pub gathered_new : (l : BackLists) (hand : List Held) (ring : ℕ) (b : RedoBundle) (j : IsJoined z hand ring b) → IsInHand z l hand → l.state.dead ≡ false → AreNew z.first l.records j.records
  gathered_new l hand ring b j in_hand alive = record {
    over = λ n has. let o = j.only n has in let may = (in_hand o.0 o.1).may in subst (λ (r : RedoRecord). z.first < r.number) o.2 may.over;
    lacks = λ n has. let o = j.only n has in let may = (in_hand o.0 o.1).may in subst (λ (r : RedoRecord). LacksRecord l.records r.number) o.2 (may.lacks alive);
  }
