-- Calls one after another: what they leave together.
use Rattle.std.proofs.Common.{◌≡◌, ℕ, ◌+◌, ◌<◌, ◌≤◌, List, [], ◌∷◌, ◌++◌, length, length-append, All, slice_index, Option, Some, None, Result, Ok, Err, MatchOption, refl, sym, ap, ◌∙◌, subst, append_assoc, arith, lit≤}
use Rattle.std.proofs.lemmas.List.{append-nil, get_or_append_left}
use Rattle.std.specs.Result.{IsErrAnd}
use Rattle.std.proofs.lemmas.Result.{err_from_is_err_and}
use Rattle.dude_base.specs.declared.write.Write.{Write}
use Rattle.dude_base.specs.Writes.{overwritten, put_all, put_write, written}
use Rattle.dude_base.proofs.Joining.{put_all-append, put_all-longer, length-put_all}
use Rattle.dude_base.proofs.Overwriting.{length-overwritten}
use Rattle.dude_base.proofs.WriteLists.{length-put_write}
use Rattle.word_space.specs.declared.stop.Stop.{Stop}
use Rattle.word_space.specs.Sights.{WordsSight, IsBelow, shown}
use Rattle.word_space.specs.Steps.{stop_of, IsLastStop, MadeAtMost, WordsGoOn, WordsUsed, Wrote, ReadsWord, WritesWord}

-- ---- at most so many reads and writes

-- a call that only tells its Stop
stopped_only : {stop : Stop} {s t : WordsSight} (m n : ℕ) → t ≡ record s { stopped = Some stop } → MadeAtMost m n s t
stopped_only {s = s} m n is = record {
  noted = [];
  few_reads = omega arith;
  reads = ap (λ (t : WordsSight). t.reads) is ∙ sym (append-nil s.reads);
  made = [];
  few_writes = omega arith;
  writes = ap (λ (t : WordsSight). t.writes) is;
}

noted_or_not : {s t : WordsSight} (at value : ℕ) (found : Option ℕ) → MatchOption found (t ≡ record s { reads = s.reads ++ (at, value) ∷ [] }) (λ x. (value ≡ x) × (t ≡ s)) → MadeAtMost 1 0 s t
noted_or_not at value None is = record {
  noted = (at, value) ∷ [];
  few_reads = omega arith;
  reads = ap (λ (t : WordsSight). t.reads) is;
  made = [];
  few_writes = omega arith;
  writes = ap (λ (t : WordsSight). t.writes) is;
}
noted_or_not {s} at value (Some x) is = record {
  noted = [];
  few_reads = omega arith;
  reads = ap (λ (t : WordsSight). t.reads) is.1 ∙ sym (append-nil s.reads);
  made = [];
  few_writes = omega arith;
  writes = ap (λ (t : WordsSight). t.writes) is.1;
}

most_read : {at : ℕ} {s t : WordsSight} (result : Result ℕ Stop) → ReadsWord at result s t → MadeAtMost 1 0 s t
most_read {at} {s = s} (Ok value) reads = noted_or_not at value (written s.writes at) reads.does
most_read (Err stop) reads = stopped_only 1 0 reads.does.1

most_write : {at value : ℕ} {s t : WordsSight} (result : Result (Unit {0}) Stop) → WritesWord at value result s t → MadeAtMost 0 1 s t
most_write {at} {value} {s = s} (Ok done) writes = record {
  noted = [];
  few_reads = omega arith;
  reads = ap (λ (t : WordsSight). t.reads) writes.does.1 ∙ sym (append-nil s.reads);
  made = record { at = at; value = value } ∷ [];
  few_writes = omega arith;
  writes = ap (λ (t : WordsSight). t.writes) writes.does.1;
}
most_write (Err stop) writes = stopped_only 0 1 writes.does.1

most_then : {k l m n : ℕ} {s t u : WordsSight} → MadeAtMost k l s t → MadeAtMost m n t u → MadeAtMost (k + m) (l + n) s u
most_then {s = s} a b = record {
  noted = a.noted ++ b.noted;
  few_reads = omega (arith, length-append a.noted b.noted, a.few_reads, b.few_reads);
  reads = b.reads ∙ ap (λ q. q ++ b.noted) a.reads ∙ append_assoc s.reads a.noted b.noted;
  made = a.made ++ b.made;
  few_writes = omega (arith, length-append a.made b.made, a.few_writes, b.few_writes);
  writes = b.writes ∙ ap (λ ws. put_all ws b.made) a.writes ∙ sym (put_all-append s.writes a.made b.made);
}

-- ---- one call

seen_or_not : (s t : WordsSight) (at value : ℕ) (found : Option ℕ) → MatchOption found (t ≡ record s { reads = s.reads ++ (at, value) ∷ [] }) (λ x. (value ≡ x) × (t ≡ s)) → (t.count ≡ s.count) × (t.stopped ≡ s.stopped)
seen_or_not s t at value None is = (ap (λ (t : WordsSight). t.count) is, ap (λ (t : WordsSight). t.stopped) is)
seen_or_not s t at value (Some x) is = (ap (λ (t : WordsSight). t.count) is.1, ap (λ (t : WordsSight). t.stopped) is.1)

count_read : {at : ℕ} {s t : WordsSight} (result : Result ℕ Stop) → ReadsWord at result s t → t.count ≡ s.count
count_read {at} {s} (Ok value) reads = (seen_or_not _ _ at value (written s.writes at) reads.does).0
count_read (Err stop) reads = ap (λ (t : WordsSight). t.count) reads.does.1

last_read : {at : ℕ} {s t : WordsSight} (result : Result ℕ Stop) → ReadsWord at result s t → IsLastStop (stop_of result) s t
last_read {at} {s} (Ok value) reads = (seen_or_not _ _ at value (written s.writes at) reads.does).1
last_read (Err stop) reads = (ap (λ (t : WordsSight). t.stopped) reads.does.1, λ wide. absurd (reads.does.0 wide))

count_write : {at value : ℕ} {s t : WordsSight} (result : Result (Unit {0}) Stop) → WritesWord at value result s t → t.count ≡ s.count
count_write (Ok done) writes = ap (λ (t : WordsSight). t.count) writes.does.1
count_write (Err stop) writes = ap (λ (t : WordsSight). t.count) writes.does.1

last_write : {at value : ℕ} {s t : WordsSight} (result : Result (Unit {0}) Stop) → WritesWord at value result s t → IsLastStop (stop_of result) s t
last_write (Ok done) writes = ap (λ (t : WordsSight). t.stopped) writes.does.1
last_write (Err stop) writes = (
  ap (λ (t : WordsSight). t.stopped) writes.does.1,
  λ wide. ap (λ (t : WordsSight). length t.writes) writes.does.1 ∙ (writes.does.0.0 wide).full,
)

-- ---- what calls leave of any value

last_then : (s t u : WordsSight) (stop : Option Stop) → t.stopped ≡ s.stopped → IsLastStop stop t u → IsLastStop stop s u
last_then s t u None e h = h ∙ e
last_then s t u (Some x) e h = h

-- the result that `?` hands on
pub is_err : {T : Type 0} {e : Stop} (r : Result T Stop) → IsErrAnd r (λ f. f ≡ e) → r ≡ Err e
is_err r handed = let p = err_from_is_err_and r handed in p.1 ∙ ap Err p.2

all_before : {X : Type 0} (P : X → Type 0) (xs ys : List X) → All P (xs ++ ys) → All P xs
all_before P xs ys all k d lt = subst P (get_or_append_left xs ys d k lt) (all k d (omega (arith, length-append xs ys)))

none_made : {ws us : List Write} (made : List Write) → length made ≤ 0 → us ≡ put_all ws made → us ≡ ws
none_made [] none is = is
none_made (w ∷ made) none is = absurd (omega (arith, none))

module _ {S : Type 0} {sight : S → WordsSight} {turns_into : S → S → Type 0} where
  -- no call
  pub used_none : {x : S} → WordsUsed sight turns_into 0 0 None x x
  used_none {x} = record {
    count = refl;
    turns = λ y led. led;
    last = refl;
    most = record { noted = []; few_reads = lit≤ tt; reads = sym (append-nil (sight x).reads); made = []; few_writes = lit≤ tt; writes = refl };
  }

  -- a read, whatever it answered
  pub used_read : {at : ℕ} {x y : S} (result : Result ℕ Stop) → ReadsWord at result (sight x) (sight y) → WordsGoOn turns_into x y → WordsUsed sight turns_into 1 0 (stop_of result) x y
  used_read result reads turns = record { count = count_read result reads; turns = turns; last = last_read result reads; most = most_read result reads }

  -- a write, whatever it answered
  pub used_write : {at value : ℕ} {x y : S} (result : Result (Unit {0}) Stop) → WritesWord at value result (sight x) (sight y) → WordsGoOn turns_into x y → WordsUsed sight turns_into 0 1 (stop_of result) x y
  used_write result writes turns = record { count = count_write result writes; turns = turns; last = last_write result writes; most = most_write result writes }

  -- calls behind calls that handed no Stop on
  pub used_behind : {k l m n : ℕ} {stop : Option Stop} {x y z : S} → WordsUsed sight turns_into k l None x y → WordsUsed sight turns_into m n stop y z → WordsUsed sight turns_into (k + m) (l + n) stop x z
  used_behind {stop = stop} a b = record {
    count = b.count ∙ a.count;
    turns = λ w led. b.turns w (a.turns w led);
    last = last_then _ _ _ stop a.last b.last;
    most = most_then a.most b.most;
  }

  -- where these handed no Stop on either
  pub used_then : {k l m n : ℕ} {x y z : S} → WordsUsed sight turns_into k l None x y → WordsUsed sight turns_into m n None y z → WordsUsed sight turns_into (k + m) (l + n) None x z
  used_then a b = used_behind {stop = None} a b

  -- where these handed a Stop on
  pub used_until : {e : Stop} {k l m n : ℕ} {x y z : S} → WordsUsed sight turns_into k l None x y → WordsUsed sight turns_into m n (Some e) y z → WordsUsed sight turns_into (k + m) (l + n) (Some e) x z
  used_until {e} a b = used_behind {stop = Some e} a b

  -- more reads and writes are allowed
  pub used_more : {k l m n : ℕ} {stop : Option Stop} {x y : S} → WordsUsed sight turns_into k l stop x y → k ≤ m → l ≤ n → WordsUsed sight turns_into m n stop x y
  used_more a reads writes = record {
    count = a.count;
    turns = a.turns;
    last = a.last;
    most = record { noted = a.most.noted; few_reads = omega (arith, a.most.few_reads, reads); reads = a.most.reads; made = a.most.made; few_writes = omega (arith, a.most.few_writes, writes); writes = a.most.writes };
  }

  -- a Stop that `?` hands on
  pub used_handed : {T : Type 0} {e : Stop} {k l m n : ℕ} {x y : S} (r : Result T Stop) → IsErrAnd r (λ f. f ≡ e) → WordsUsed sight turns_into k l (Some e) x y → k ≤ m → l ≤ n → WordsUsed sight turns_into m n (stop_of r) x y
  used_handed {m = m} {n = n} {x = x} {y = y} r handed used reads writes = subst (λ o. WordsUsed sight turns_into m n (stop_of o) x y) (sym (is_err r handed)) (used_more used reads writes)

  -- an array that may lie below after calls may lie below before them
  pub below_behind : {m n : ℕ} {stop : Option Stop} {x y : S} {array : List ℕ} → WordsUsed sight turns_into m n stop x y → IsBelow (sight y) array → IsBelow (sight x) array
  below_behind {array = array} used below = record { size = below.size ∙ used.count; agrees = record { each = all_before (λ r. slice_index array r.0 ≡ r.1) _ used.most.noted (subst (λ q. All (λ r. slice_index array r.0 ≡ r.1) q) used.most.reads below.agrees.each) } }

  pub below_before : {m n : ℕ} {x y : S} {array : List ℕ} → WordsUsed sight turns_into m n None x y → IsBelow (sight y) array → IsBelow (sight x) array
  below_before used below = below_behind {stop = None} used below

  -- calls that may write nothing leave the writes
  pub unwritten : {m : ℕ} {stop : Option Stop} {x y : S} → WordsUsed sight turns_into m 0 stop x y → (sight y).writes ≡ (sight x).writes
  unwritten used = none_made used.most.made used.most.few_writes used.most.writes

  -- and the words as they are seen
  pub shown_same : {m : ℕ} {x y : S} → WordsUsed sight turns_into m 0 None x y → (array : List ℕ) → shown (sight y) array ≡ shown (sight x) array
  shown_same used array = ap (λ ws. overwritten ws array) (unwritten {stop = None} used)

  -- from no writes at most so many are pending
  pub few_pending : {m n : ℕ} {stop : Option Stop} {x y : S} → WordsUsed sight turns_into m n stop x y → (sight x).writes ≡ [] → length (sight y).writes ≤ n
  few_pending {x = x} used none = omega (arith, length-put_all (sight x).writes used.most.made, used.most.few_writes, ap length used.most.writes, ap length none)

  -- such calls made no write
  pub wrote_none : {m : ℕ} {x y : S} → WordsUsed sight turns_into m 0 None x y → Wrote 0 (sight x) (sight y)
  wrote_none used = record { made = []; count = refl; writes = unwritten {stop = None} used }

-- as many words are seen as there are
pub length_shown : {s : WordsSight} {array : List ℕ} → IsBelow s array → length (shown s array) ≡ s.count
length_shown {s} {array} below = length-overwritten s.writes array ∙ below.size

-- ---- exactly so many writes

-- one write
pub wrote_one : {at value : ℕ} {done : Unit {0}} {s t : WordsSight} → WritesWord at value (Ok done) s t → Wrote 1 s t
wrote_one {at} {value} w = record { made = record { at = at; value = value } ∷ []; count = refl; writes = ap (λ (t : WordsSight). t.writes) w.does.1 }

-- calls behind calls
pub wrote_then : {m n : ℕ} {s t u : WordsSight} → Wrote m s t → Wrote n t u → Wrote (m + n) s u
wrote_then {m} {n} {s} a b = record {
  made = a.made ++ b.made;
  count = length-append a.made b.made ∙ ap (λ k. k + length b.made) a.count ∙ ap (λ k. m + k) b.count;
  writes = b.writes ∙ ap (λ ws. put_all ws b.made) a.writes ∙ sym (put_all-append s.writes a.made b.made);
}

some_after : (made ws : List Write) → 0 < length made → 0 < length (put_all ws made)
some_after [] ws some = absurd (omega arith)
some_after (w ∷ made) ws some = omega (arith, (length-put_write ws w).2, put_all-longer (put_write ws w) made)

-- some writes leave some
pub wrote_some : {n : ℕ} {s t : WordsSight} → Wrote n s t → 0 < n → 0 < length t.writes
wrote_some {n} {s} wrote some = omega (arith, some_after wrote.made s.writes (omega (arith, wrote.count, some)), ap length wrote.writes)

-- no write leaves the list of writes
pub wrote_zero : {s t : WordsSight} → Wrote 0 s t → t.writes ≡ s.writes
wrote_zero wrote = none_made wrote.made (omega (arith, wrote.count)) wrote.writes

-- calls one by one, and what they come to
pub ruleset using_words = (used_then, used_until, used_more, used_handed, wrote_none, wrote_one, wrote_then)
