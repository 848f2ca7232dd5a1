-- Replies of one lane, one after another.
use Rattle.std.proofs.Common.{◌≡◌, List, [], ◌∷◌, ◌++◌, ℕ, refl, sym, ◌∙◌, ap, arith, append_assoc, append-nil, length-append}
use Rattle.std.specs.Prelude.{Result, Ok, Err, OnErr}
use Rattle.std.specs.List.{flat_map}
use Rattle.std.proofs.lemmas.Grind.{flat_map-append}
use Rattle.tatp_model.specs.declared.done.Done.{Done}
use Rattle.dude_stream.specs.declared.drain.Drain.{Drain}
use Rattle.dude_stream.specs.declared.outlet.Outlet.{Outlet}
use Rattle.dude_stream.specs.Lanes.{IsSameDrain, received_by}
use Rattle.dude_stream.specs.Lines.{lane_line}
use Rattle.dude_stream.specs.Printing.{Gave, GaveLines, GaveMore, GaveSomeLines}

drain_then : (a b c : Drain) → IsSameDrain a b → IsSameDrain b c → IsSameDrain a c
drain_then a b c p q =
    let e = p.0.0 in let f = q.0.0 in
    (((f.0 ∙ e.0, f.1 ∙ e.1, f.2 ∙ e.2, f.3 ∙ e.3), q.0.1 ∙ p.0.1), q.1 ∙ p.1)

pub gave_none : (a : Outlet) → Gave [] a a
gave_none a = record { same = (((refl, refl, refl, refl), refl), refl); received = sym (append-nil (received_by a.drain)); left = omega arith }

pub gave_then : {xs ys : List Done} {a b c : Outlet} → Gave xs a b → Gave ys b c → Gave (xs ++ ys) a c
gave_then {xs} {ys} {a} {b} {c} p q = record {
  same = drain_then a.drain b.drain c.drain p.same q.same;
  received = q.received ∙ (ap (λ (l : List Done). l ++ ys) p.received ∙ append_assoc (received_by a.drain) xs ys);
  left = omega (arith, p.left, q.left, length-append xs ys);
}

pub gave_more_then : {xs ys : List Done} {a b c : Outlet} → Gave xs a b → GaveMore ys b c → GaveMore (xs ++ ys) a c
gave_more_then {xs} {ys} {a} {b} {c} p q = record {
  same = drain_then a.drain b.drain c.drain p.same q.same;
  more = q.more;
  received = q.received ∙ (ap (λ (l : List Done). (l ++ ys) ++ q.more) p.received ∙ ap (λ (l : List Done). l ++ q.more) (append_assoc (received_by a.drain) xs ys));
  left = omega (arith, p.left, q.left, length-append xs ys);
}

pub gave_more : {xs : List Done} {a b : Outlet} → Gave xs a b → GaveMore xs a b
gave_more {xs} {a} {b} p = record { same = p.same; more = []; received = p.received ∙ sym (append-nil (received_by a.drain ++ xs)); left = p.left }

-- one was received, of which no line is kept
pub gave_lost : (a b : Outlet) (done : Done) → IsSameDrain a.drain b.drain → received_by b.drain ≡ received_by a.drain ++ done ∷ [] → b.left ≡ a.left → GaveMore [] a b
gave_lost a b done same received left = record {
  same = same;
  more = done ∷ [];
  received = received ∙ ap (λ (l : List Done). l ++ done ∷ []) (sym (append-nil (received_by a.drain)));
  left = omega (arith, left);
}

-- what holds at any end holds at an error
pub at_any : {X E P : Type 0} (r : Result X E) → P → OnErr r P
at_any (Ok x) p = tt
at_any (Err e) p = p

-- ---- their lines
-- lines behind lines, behind a text
lines_then : (xs ys : List Done) (old mid new : List ℕ) → mid ≡ old ++ flat_map lane_line xs → new ≡ mid ++ flat_map lane_line ys → new ≡ old ++ flat_map lane_line (xs ++ ys)
lines_then xs ys old mid new first second =
    second ∙ (ap (λ (l : List ℕ). l ++ flat_map lane_line ys) first
    ∙ (append_assoc old (flat_map lane_line xs) (flat_map lane_line ys) ∙ ap (λ (l : List ℕ). old ++ l) (sym (flat_map-append lane_line xs ys))))

-- no memory for one more
pub lines_stop : (a b c : Outlet) (old mid new : List ℕ) → GaveLines a b old mid → GaveMore [] b c → new ≡ mid → GaveSomeLines a c old new
lines_stop a b c old mid new p q same = (p.0 ++ [], gave_more_then p.1 q, lines_then p.0 [] old mid new p.2 (same ∙ sym (append-nil mid)))
