-- What a pass is after its transaction.
use Rattle.std.proofs.Common.{◌≡◌, ℕ, suc, ◌+◌, ◌-◌, ◌<◌, ◌≤◌, ◌==◌, ◌||◌, Bool, true, false, List, [], ◌∷◌, ◌++◌, ◌%◌, append-nil, refl, sym, ap, ◌∙◌, eq-eqb, arith}
use Rattle.std.specs.Prelude.{Result, Ok, Err, IfOk, IfErr, MatchResult}
use Rattle.std.specs.List.{All}
use Rattle.atomic_table.specs.declared.shared.Seat.{Seat}
use Rattle.tatp_model.specs.declared.done.Done.{Done}
use Rattle.dude_base.specs.declared.write.Write.{Write}
use Rattle.core_events.specs.Setups.{Setup}
use Rattle.core_events.specs.Keyed.{has}
use Rattle.core_events.specs.Views.{View, Part, Turn, About, Entry}
use Rattle.core_events.specs.Conditions.{IsIdle}
use Rattle.core_table.specs.Known.{Known}
use Rattle.core_table.specs.Layout.{TableSight}
use Rattle.core_table.specs.Steps.{BelongsTo}
use Rattle.stm_transactions.specs.Seats.{IsOf}
use Rattle.stm_transactions.specs.declared.lost.Lost.{Lost}
use Rattle.stm_transactions.specs.declared.lost.Lost.TheVariants.{Out, Busy, Conflict}
use Rattle.stm_transactions.specs.CommitEnds.{HasEntered, HasLost, HasEnded, IsLost, has_writes}
use Rattle.stm_transactions.specs.declared.pass_numbers.PassNumbers.{PassNumbers}
use Rattle.stm_transactions.specs.Numbers.{after_draw, with_refusals}
use Rattle.stm_transactions.specs.Passes.{Describes, IsResting, PassSight, entry_numbers, greatest, is_given}
use Rattle.stm_transactions.proofs.Rests.{given_rests, refused_describes}
use Rattle.stm_transactions.specs.Counts.{after_commit}

-- ---- the greatest of some numbers
has_head : (x : ℕ) (xs : List ℕ) → has (x ∷ xs) x ≡ true
has_head x xs = rw (eq-eqb x x refl) refl

has_tail : (x m : ℕ) (xs : List ℕ) → has xs m ≡ true → has (x ∷ xs) m ≡ true
has_tail x m xs h = or_right (x == m) (has xs m) h
  where
    or_right : (a b : Bool) → b ≡ true → (a || b) ≡ true
    or_right true b e = refl
    or_right false b e = e

greatest_push : (d : ℕ) (xs : List ℕ) (n : ℕ) → d ≤ n → ((m : ℕ) → has xs m ≡ true → m < n) → greatest d (xs ++ n ∷ []) ≡ n
greatest_push d [] n le all = omega arith
greatest_push d (x ∷ xs) n le all = let rest = greatest_push d xs n le (λ m h. all m (has_tail x m xs h)) in let first = all x (has_head x xs) in omega arith

greatest_entry : (d : ℕ) (es : List Entry) (e : Entry) → d ≤ e.number → All (λ x. x.number ≤ e.number) es → greatest d (entry_numbers (es ++ e ∷ [])) ≡ e.number
greatest_entry d [] e le all = omega arith
greatest_entry d (x ∷ es) e le all = let rest = greatest_entry d es e le (λ k f lt. all (suc k) f (omega arith)) in let first : x.number ≤ e.number = all 0 x (omega arith) in omega arith

pub greatest_upto : (d : ℕ) (es : List Entry) (n : ℕ) → d ≤ n → All (λ x. x.number ≤ n) es → greatest d (entry_numbers es) ≤ n
greatest_upto d [] n le all = le
greatest_upto d (x ∷ es) n le all = let rest = greatest_upto d es n le (λ k f lt. all (suc k) f (omega arith)) in let first : x.number ≤ n = all 0 x (omega arith) in omega arith

pub greatest_under : (d : ℕ) (es : List Entry) (n : ℕ) → d < n → All (λ x. x.number < n) es → greatest d (entry_numbers es) < n
greatest_under d [] n lt all = lt
greatest_under d (x ∷ es) n lt all = let rest = greatest_under d es n lt (λ k f b. all (suc k) f (omega arith)) in let first : x.number < n = all 0 x (omega arith) in omega arith

-- ---- the numbers still tell
of_on : (thread : ℕ) (v w : View) → w.part ≡ v.part → IsOf thread v → IsOf thread w
of_on thread v w same o = record { live = ap (λ (p : Part). p.is_spent) same ∙ o.live; its = ap (λ (p : Part). p.thread) same ∙ o.its }

module _ (z : Setup) (f : PassNumbers) (v : View) (t : Describes z f v) where
  -- other numbers of its own, the next box and the draws that are left: its part, and what it knows of the turn, are as before
  describes_on : (next last drawn left : ℕ) (had_turn : Bool) (w : View) → w.part ≡ v.part → w.turn ≡ v.turn → w.box.next ≡ next → last ≡ greatest z.first (entry_numbers w.entries) → drawn ≡ greatest 0 w.drawn → w.draws ≡ left
      → Describes z (record f { next = next; last = last; drawn = drawn; left = left; had_turn = had_turn }) w
  describes_on next last drawn left had_turn w part turn next_is last_is drawn_is left_is = record {
    of = of_on f.thread v w part t.of;
    next = next_is;
    last = last_is;
    drawn = drawn_is;
    left = left_is;
    splits = ap (λ (p : Part). p.splits) part ∙ t.splits;
    durable = ap (λ (u : Turn). u.durable) turn ∙ t.durable;
    met_fault = ap (λ (u : Turn). u.met_fault) turn ∙ t.met_fault;
    few = t.few;
    opening = t.opening;
  }

  -- no entry, or no number, is new
  last_still : (w : View) → w.entries ≡ v.entries → f.last ≡ greatest z.first (entry_numbers w.entries)
  last_still w same = t.last ∙ ap (λ (l : List Entry). greatest z.first (entry_numbers l)) (sym same)

  drawn_still : (w : View) → w.drawn ≡ v.drawn → f.drawn ≡ greatest 0 w.drawn
  drawn_still w same = t.drawn ∙ ap (λ (l : List ℕ). greatest 0 l) (sym same)

  pub describes_ended : (w : View) → HasEnded v w → Describes z f w
  describes_ended w e = describes_on f.next f.last f.drawn f.left f.had_turn w e.part e.turn (ap (λ b. b.next) e.box ∙ t.next) (last_still w e.entries) (drawn_still w e.drawn) (e.draws ∙ t.left)

  pub describes_entered : (n : ℕ) (a : About) (reads : List (ℕ × ℕ)) (ws : List Write) (w : View) → HasEntered z n a reads ws v w → Describes z (after_commit (has_writes ws) (Ok n) z.boxes f) w
  describes_entered n a reads [] w e = describes_on f.next n f.drawn f.left f.had_turn w e.part e.turn (e.next ∙ t.next)
      (sym (ap (λ (l : List Entry). greatest z.first (entry_numbers l)) e.entries ∙ greatest_entry z.first v.entries _ e.from e.upto))
      (drawn_still w (e.drawn ∙ append-nil v.drawn))
      (let d = e.draws in let l = t.left in omega arith)
  describes_entered n a reads (x ∷ ws) w e = describes_on ((f.next + 1) % z.boxes) n n (f.left - 1) false w e.part e.turn (e.next ∙ ap (λ (k : ℕ). (k + 1) % z.boxes) t.next)
      (sym (ap (λ (l : List Entry). greatest z.first (entry_numbers l)) e.entries ∙ greatest_entry z.first v.entries _ e.from e.upto))
      (sym (ap (λ (l : List ℕ). greatest 0 l) e.drawn ∙ greatest_push 0 v.drawn n (omega arith) (e.newest (omega arith))))
      (let d = e.draws in let l = t.left in omega arith)

  describes_drew : (snapshot : ℕ) (reads : List (ℕ × ℕ)) (lock seen n : ℕ) (w : View) → HasLost z f.thread snapshot reads lock seen n v w → Describes z (after_draw n z.boxes f) w
  describes_drew snapshot reads lock seen n w e = describes_on ((f.next + 1) % z.boxes) f.last n (f.left - 1) false w e.part e.turn (e.next ∙ ap (λ (k : ℕ). (k + 1) % z.boxes) t.next)
      (last_still w e.entries)
      (sym (ap (λ (l : List ℕ). greatest 0 l) e.drawn ∙ greatest_push 0 v.drawn n (omega arith) e.newest))
      (let d = e.draws in let l = t.left in omega arith)

-- what all ends leave
pub record LeavesIdle (v w : View) : Type 0 where
  pub idle : IsIdle w
  pub part : w.part ≡ v.part
  pub turn : w.turn ≡ v.turn
  pub entries : w.entries ≡ v.entries

module _ (z : Setup) (f : PassNumbers) (v : View) (t : Describes z f v) (snapshot : ℕ) (reads : List (ℕ × ℕ)) (ws : List Write) where
  pub lost_leaves : (l : Lost) (w : View) → IsLost z f.thread snapshot reads ws l v w → LeavesIdle v w
  lost_leaves (Out page) w h = record { idle = h.ended.idle; part = h.ended.part; turn = h.ended.turn; entries = h.ended.entries }
  lost_leaves (Busy page seen) w h = record { idle = h.ended.idle; part = h.ended.part; turn = h.ended.turn; entries = h.ended.entries }
  lost_leaves (Conflict lock seen n) w h = record { idle = h.idle; part = h.part; turn = h.turn; entries = h.entries }

  pub describes_lost : (b : Bool) (l : Lost) (w : View) → IsLost z f.thread snapshot reads ws l v w → Describes z (after_commit b (Err l) z.boxes f) w
  describes_lost true (Out page) w h = refused_describes z f w (describes_ended z f v t w h.ended) 1
  describes_lost false (Out page) w h = refused_describes z f w (describes_ended z f v t w h.ended) 1
  describes_lost true (Busy page seen) w h = refused_describes z f w (describes_ended z f v t w h.ended) 1
  describes_lost false (Busy page seen) w h = refused_describes z f w (describes_ended z f v t w h.ended) 1
  describes_lost true (Conflict lock seen n) w h = refused_describes z (after_draw n z.boxes f) w (describes_drew z f v t snapshot reads lock seen n w h) 1
  describes_lost false (Conflict lock seen n) w h = refused_describes z (after_draw n z.boxes f) w (describes_drew z f v t snapshot reads lock seen n w h) 1

-- ---- the pass
-- the numbers that go back, by the calls that made them
counted_as : (refused : ℕ) (ws : List Write) (f g h : PassNumbers) (wrote : Bool) (r q : Result ℕ Lost) (boxes count : ℕ) → h ≡ with_refusals refused g → g ≡ after_commit wrote r boxes f → wrote ≡ has_writes ws → r ≡ q → boxes ≡ count
    → h ≡ with_refusals refused (after_commit (has_writes ws) q count f)
counted_as refused ws f g h wrote r q boxes count eh eg ew er eb = rw (eh, eg, ew, er, eb) refl

-- the pass has its seat back, with these numbers
pub given_as : {S X : Type 0} (s : Seat S (Known X)) (p : PassSight X) (refused : ℕ) (ws : List Write) (f g h : PassNumbers) (wrote : Bool) (r q : Result ℕ Lost) (boxes count : ℕ) → p ≡ is_given s h → h ≡ with_refusals refused g → g ≡ after_commit wrote r boxes f → wrote ≡ has_writes ws → r ≡ q → boxes ≡ count
    → p ≡ is_given s (with_refusals refused (after_commit (has_writes ws) q count f))
given_as s p refused ws f g h wrote r q boxes count given eh eg ew er eb = given ∙ ap (λ (n : PassNumbers). is_given s n) (counted_as refused ws f g h wrote r q boxes count eh eg ew er eb)

-- the seat goes back to the pass, with these numbers and so many refusals more
pub rests_with : {S X K : Type 0} (t : TableSight K) (s : Seat S (Known X)) (k : ℕ) (g : PassNumbers) (v : View) → BelongsTo t s → IsIdle s.me.0.view → s.me.0.view.turn ≡ v.turn → v.turn.has_it ≡ false → Describes t.setup g s.me.0.view → IsResting t (is_given s (with_refusals k g))
rests_with t s k g v b idle turn none d = given_rests t s (with_refusals k g) s.me.0.view refl b idle (ap (λ (u : Turn). u.has_it) turn ∙ none) (refused_describes t.setup g s.me.0.view d k)

-- ---- by the answer
pub if_ok : (r : Result Done Lost) (A : Done → Type 0) (B : Lost → Type 0) (P : Done → Type 0) → MatchResult r A B → ((d : Done) → A d → P d) → IfOk r P
if_ok (Ok d) A B P m f = f d m
if_ok (Err l) A B P m f = tt

pub if_err : (r : Result Done Lost) (A : Done → Type 0) (B : Lost → Type 0) (P : Lost → Type 0) → MatchResult r A B → ((l : Lost) → B l → P l) → IfErr r P
if_err (Ok d) A B P m f = tt
if_err (Err l) A B P m f = f l m
