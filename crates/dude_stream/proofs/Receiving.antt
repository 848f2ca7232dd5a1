-- Replies of all lanes, one lane's turn after another.
use Rattle.std.proofs.Common.{◌≡◌, ◌≢◌, ◌⊎◌, ℕ, ◌+◌, ◌<◌, Bool, true, false, List, [], ◌∷◌, ◌++◌, length, map, filter, set, get_or, refl, sym, ◌∙◌, ap, arith, append_assoc, length-append, inl, inr, ⊎_elim, subst}
use Rattle.std.specs.Prelude.{All, ◌==◌}
use Rattle.std.specs.List.{flat_map}
use Rattle.std.proofs.lemmas.Bool.{cases_eq, eq-eqb}
use Rattle.std.proofs.lemmas.Bool.Decides.{nat_tests}
use Rattle.std.proofs.Math.Seq.{take-append-add}
use Rattle.std.proofs.lemmas.List.{map-append, length-set, get_or-set_same, get_or-set_other, get_or_default}
use Rattle.std.proofs.lemmas.List.Sums.{sum_by-set}
use Rattle.std.proofs.lemmas.List.Elements.{All-append, All-cons, All-nil, filter-append}
use Rattle.std.proofs.lemmas.Grind.{flat_map-append}
use Rattle.pmem_trait.proofs.Runs.{risen_later}
use Rattle.tatp_model.specs.declared.done.Done.{Done}
use Rattle.dude_io.specs.Sink.{SinkSight, Took, TookPart}
use Rattle.dude_io.proofs.WriteLaws.{took-then}
use Rattle.dude_stream.specs.declared.outlet.Outlet.{Outlet}
use Rattle.dude_stream.specs.declared.print_fault.PrintFault.{PrintFault}
use Rattle.dude_stream.specs.declared.print_fault.PrintFault.TheVariants.{Sink, NoMemory}
use Rattle.dude_stream.specs.Lines.{lane_line}
use Rattle.dude_stream.specs.Printing.{Empties, Gave, GaveLines, GaveMore, GaveSomeLines, HadTurn, HasGathered, HasGatheredSome, HasPrinted, IsDrained, IsStopped, Lessens, Received, ReceivedMore, Taken, lines_text, of_lane}
use Rattle.dude_stream.proofs.Giving.{gave_none, gave_then, gave_more, gave_more_then}

pub of_lane-append : (k : ℕ) (xs ys : List Taken) → of_lane k (xs ++ ys) ≡ of_lane k xs ++ of_lane k ys
of_lane-append k xs ys =
    ap (map (λ (t : Taken). t.done)) (filter-append (λ (t : Taken). t.lane == k) xs ys)
    ∙ map-append (λ (t : Taken). t.done) (filter (λ (t : Taken). t.lane == k) xs) (filter (λ (t : Taken). t.lane == k) ys)

pub text-append : (xs ys : List Taken) → lines_text (xs ++ ys) ≡ lines_text xs ++ lines_text ys
text-append xs ys = flat_map-append (λ (t : Taken). lane_line t.done) xs ys

-- ---- what was received
inside_more : (a b : List Outlet) (xs ys : List Taken) → length b ≡ length a → All (λ (l : Taken). l.lane < length a) xs → All (λ (l : Taken). l.lane < length b) ys → All (λ (l : Taken). l.lane < length a) (xs ++ ys)
inside_more a b xs ys same p q = All-append (λ (l : Taken). l.lane < length a) xs ys p (rw (sym same) q)

received_then : {xs ys : List Taken} {a b c : List Outlet} → Received xs a b → Received ys b c → Received (xs ++ ys) a c
received_then {xs} {ys} {a} {b} {c} p q = record {
  count = q.count ∙ p.count;
  inside = inside_more a b xs ys p.count p.inside q.inside;
  each = λ lane d below. rw (of_lane-append lane xs ys) (gave_then (p.each lane d below) (q.each lane d (omega (arith, below, p.count))));
}

received_more_then : {xs ys : List Taken} {a b c : List Outlet} → Received xs a b → ReceivedMore ys b c → ReceivedMore (xs ++ ys) a c
received_more_then {xs} {ys} {a} {b} {c} p q = record {
  count = q.count ∙ p.count;
  inside = inside_more a b xs ys p.count p.inside q.inside;
  each = λ lane d below. rw (of_lane-append lane xs ys) (gave_more_then (p.each lane d below) (q.each lane d (omega (arith, below, p.count))));
}

-- nothing more was received
received_more : {xs : List Taken} {a b : List Outlet} → Received xs a b → ReceivedMore xs a b
received_more p = record { count = p.count; inside = p.inside; each = λ lane d below. gave_more (p.each lane d below) }

-- ---- lines behind a text
behind : (xs ys : List Taken) (old mid new : List ℕ) → mid ≡ old ++ lines_text xs → new ≡ mid ++ lines_text ys → new ≡ old ++ lines_text (xs ++ ys)
behind xs ys old mid new first second =
    second ∙ (ap (λ (l : List ℕ). l ++ lines_text ys) first ∙ (append_assoc old (lines_text xs) (lines_text ys) ∙ ap (λ (l : List ℕ). old ++ l) (sym (text-append xs ys))))

pub gathered_then : (a b c : List Outlet) (old mid new : List ℕ) → HasGathered a b old mid → HasGathered b c mid new → HasGathered a c old new
gathered_then a b c old mid new p q = (p.0 ++ q.0, received_then p.1 q.1, behind p.0 q.0 old mid new p.2 q.2)

pub gathered_some_then : (a b c : List Outlet) (old mid new : List ℕ) → HasGathered a b old mid → HasGatheredSome b c mid new → HasGatheredSome a c old new
gathered_some_then a b c old mid new p q = (p.0 ++ q.0, received_more_then p.1 q.1, behind p.0 q.0 old mid new p.2 q.2)

-- ---- lines that a sink took
-- a part that was taken behind a text
pub part_behind : {front text : List ℕ} {s t u : SinkSight} → Took front s t → TookPart text t u → TookPart (front ++ text) s u
part_behind {front} {text} {s} {t} {u} a b = record {
  n = length front + b.n;
  less = omega (arith, b.less, length-append front text);
  took = rw (take-append-add front text b.n) (took-then a b.took);
  cause = risen_later s.faults t.faults u.faults u.faults a.faults b.cause (omega arith);
}

pub printed_then : (a b c : List Outlet) (s t u : SinkSight) → HasPrinted a b s t → HasPrinted b c t u → HasPrinted a c s u
printed_then a b c s t u p q = (p.0 ++ q.0, received_then p.1 q.1, rw (text-append p.0 q.0) (took-then p.2 q.2))

pub stopped_then : (a b c : List Outlet) (s t u : SinkSight) (fault : PrintFault) → HasPrinted a b s t → IsStopped fault b c t u → IsStopped fault a c s u
stopped_then a b c s t u NoMemory p q = (p.0 ++ q.0, received_more_then p.1 q.1, rw (text-append p.0 q.0) (took-then p.2 q.2))
stopped_then a b c s t u Sink p q = (p.0 ++ q.0, received_more_then p.1 q.1, rw (text-append p.0 q.0) (part_behind p.2 q.2))

-- ---- one lane's turn
-- replies with the lane that they came from
abbrev tagged : ℕ → List Done → List Taken
tagged lane done = map (λ d. record { lane = lane; done = d }) done

of_lane-tagged : (k : ℕ) (done : List Done) → of_lane k (tagged k done) ≡ done
of_lane-tagged k [] = refl
of_lane-tagged k (d ∷ ds) = rw (eq-eqb k k refl) (ap (λ (l : List Done). d ∷ l) (of_lane-tagged k ds))

of_lane-tagged_other : (j k : ℕ) (done : List Done) → (k == j) ≡ false → of_lane j (tagged k done) ≡ []
of_lane-tagged_other j k [] other = refl
of_lane-tagged_other j k (d ∷ ds) other = rw other (of_lane-tagged_other j k ds other)

lines_text-tagged : (k : ℕ) (done : List Done) → lines_text (tagged k done) ≡ flat_map lane_line done
lines_text-tagged k [] = refl
lines_text-tagged k (d ∷ ds) = ap (λ (l : List ℕ). lane_line d ++ l) (lines_text-tagged k ds)

tagged_inside : (k n : ℕ) (done : List Done) → k < n → All (λ (t : Taken). t.lane < n) (tagged k done)
tagged_inside k n [] below = All-nil (λ (t : Taken). t.lane < n)
tagged_inside k n (d ∷ ds) below = All-cons (λ (t : Taken). t.lane < n) (record { lane = k; done = d }) (tagged k ds) below (tagged_inside k n ds below)

-- a list with one element that is another, `d` being what was read there
module _ (outlets : List Outlet) (lane : ℕ) (d new : Outlet) (within : lane < length outlets) where
  old_at : (e : Outlet) → get_or outlets lane e ≡ get_or outlets lane d
  old_at e = get_or_default outlets lane e d within

  changed_at : (e : Outlet) → get_or (set outlets lane new) lane e ≡ new
  changed_at e = get_or-set_same outlets lane new e within

  same_at : (k : ℕ) (e : Outlet) → k ≢ lane → get_or (set outlets lane new) k e ≡ get_or outlets k e
  same_at k e other = get_or-set_other outlets lane k new e other

  -- what holds of the lane and of each other one holds of each
  by_lane : (P : ℕ → Outlet → Outlet → Type 0) → P lane (get_or outlets lane d) new → ((k : ℕ) (e : Outlet) → k ≢ lane → P k (get_or outlets k e) (get_or outlets k e))
      → (k : ℕ) (e : Outlet) → k < length outlets → P k (get_or outlets k e) (get_or (set outlets lane new) k e)
  by_lane P here there k e below =
      let one : k ≡ lane → P k (get_or outlets k e) (get_or (set outlets lane new) k e)
      = λ is. subst (λ (j : ℕ). P j (get_or outlets j e) (get_or (set outlets lane new) j e)) (sym is) (rw (changed_at e, old_at e) here) in
      let other : k ≢ lane → P k (get_or outlets k e) (get_or (set outlets lane new) k e)
      = λ n. rw (same_at k e n) (there k e n) in
      ⊎_elim one other (cases_eq k lane)

  none_other : (k : ℕ) (done : List Done) → k ≢ lane → of_lane k (tagged lane done) ≡ []
  none_other k done n = of_lane-tagged_other k lane done (grind (arith, nat_tests))

  lane_received : (taken : List Done) → Gave taken (get_or outlets lane d) new → Received (tagged lane taken) outlets (set outlets lane new)
  lane_received taken p = record {
    count = length-set outlets lane new;
    inside = tagged_inside lane (length outlets) taken within;
    each = by_lane (λ k a b. Gave (of_lane k (tagged lane taken)) a b) (rw (of_lane-tagged lane taken) p) (λ k e n. rw (none_other k taken n) (gave_none (get_or outlets k e)));
  }

  lane_received_more : (taken : List Done) → GaveMore taken (get_or outlets lane d) new → ReceivedMore (tagged lane taken) outlets (set outlets lane new)
  lane_received_more taken p = record {
    count = length-set outlets lane new;
    inside = tagged_inside lane (length outlets) taken within;
    each = by_lane (λ k a b. GaveMore (of_lane k (tagged lane taken)) a b) (rw (of_lane-tagged lane taken) p) (λ k e n. rw (none_other k taken n) (gave_more (gave_none (get_or outlets k e))));
  }

  pub lane_gathered : (old text : List ℕ) → GaveLines (get_or outlets lane d) new old text → HasGathered outlets (set outlets lane new) old text
  lane_gathered old text p = (tagged lane p.0, lane_received p.0 p.1, rw (lines_text-tagged lane p.0) p.2)

  pub lane_gathered_some : (old text : List ℕ) → GaveSomeLines (get_or outlets lane d) new old text → HasGatheredSome outlets (set outlets lane new) old text
  lane_gathered_some old text p = (tagged lane p.0, lane_received_more p.0 p.1, rw (lines_text-tagged lane p.0) p.2)

  pub lane_had_turn : (some : Bool) → Empties some (get_or outlets lane d) new → HadTurn lane outlets (set outlets lane new) some
  lane_had_turn true p = record {
    others = same_at;
    drained = λ e. absurd (let no : ⊥ = cc in no);
    lessens = omega (arith, sum_by-set (λ (o : Outlet). o.left) outlets lane new d within, p);
  }
  lane_had_turn false p = record {
    others = same_at;
    drained = λ e f. rw (changed_at f) p.1;
    lessens = omega (arith, sum_by-set (λ (o : Outlet). o.left) outlets lane new d within, p.0);
  }

-- ---- a round
-- the lanes before this one had their turn and gave nothing
abbrev pub AreDrainedTo : ℕ → List Outlet → Type 0
AreDrainedTo lane outlets = (k : ℕ) (d : Outlet) → k < lane → IsDrained (get_or outlets k d)

pub drained_more : (lane : ℕ) (a b : List Outlet) (some : Bool) → some ≡ false → AreDrainedTo lane a → HadTurn lane a b some → AreDrainedTo (lane + 1) b
drained_more lane a b some none before turn k d below = ⊎_elim here there (cases_eq k lane)
  where
    here : k ≡ lane → IsDrained (get_or b k d)
    here is = subst (λ (j : ℕ). IsDrained (get_or b j d)) (sym is) (turn.drained none d)

    there : k ≢ lane → IsDrained (get_or b k d)
    there other = rw (turn.others k d other) (before k d (omega (arith, below, other)))

-- what is known of all lanes so far is joined with what one lane gave
abbrev pub IsJoined : Bool → Bool → Bool → Type 0
IsJoined some found next = ((found ≡ true) × (next ≡ true)) ⊎ ((found ≡ false) × (next ≡ some))

pub drained_next : (lane : ℕ) (a b : List Outlet) (some found next : Bool) → IsJoined some found next → (some ≡ false → AreDrainedTo lane a) → HadTurn lane a b found
    → next ≡ false → AreDrainedTo (lane + 1) b
drained_next lane a b some found next (inl (gave, is)) before turn none = absurd (let no : ⊥ = cc in no)
drained_next lane a b some found next (inr (gave, is)) before turn none = drained_more lane a b found gave (before (sym is ∙ none)) turn

pub lessens_then : (a b c : List Outlet) (some found next : Bool) → IsJoined some found next → Lessens some a b → Lessens found b c → Lessens next a c
lessens_then a b c some true next (inl (gave, is)) p q = rw is (omega (arith, p, q))
lessens_then a b c some false next (inl (gave, is)) p q = absurd (let no : ⊥ = cc in no)
lessens_then a b c some true next (inr (gave, is)) p q = absurd (let no : ⊥ = cc in no)
lessens_then a b c some false next (inr (gave, is)) p q = rw is (omega (arith, p, q))
