-- A record that can be replayed, the heads that a scan holds, and the moments that reads take.
use Rattle.std.proofs.Common.{◌≡◌, ◌≢◌, inl, inr, ⊎_elim, ℕ, ◌+◌, ◌≤◌, Bool, length, List, [], Option, Some, None, IfSome, All, sym, ap, ◌∙◌, subst, arith, rules, is_some, true≢false}
use Rattle.std.proofs.lemmas.Bool.{cases_eq}
use Rattle.std.proofs.lemmas.Option.{slice_get-get_or}
use Rattle.std.proofs.lemmas.List.{length-map}
use Rattle.std.proofs.lemmas.List.Elements.{All-map}
use Rattle.std.proofs.lemmas.Map.Entries.{btree_map_get_place}
use Rattle.std.specs.Cmp.{nat_cmp_total}
use Rattle.std.specs.Ordering.{nat_cmp}
use Rattle.std.specs.Map.{lookup, values_of}
use Rattle.std.specs.BTreeMap.{IsOrdered, btree_map_len, get, is_at}
use Rattle.dude_base.specs.declared.sizes.Sizes.{Sizes}
use Rattle.dude_base.specs.Records.{RedoBundle}
use Rattle.pmem_trait.specs.declared.call.Call.{Call}
use Rattle.pmem_trait.specs.Sights.{Sight, OneCall}
use Rattle.redo_record.specs.Cells.{IsCell}
use Rattle.log_ring.specs.declared.head.Head.{Head}
use Rattle.log_ring.specs.declared.scan_state.ScanState.{ScanState}
use Rattle.log_ring.specs.Heads.{cell_of}
use Rattle.log_ring.specs.Scan.{IsReplayable, HoldsCells}
use Rattle.log_ring.specs.Scanning.{IsHomeRecord, TakesHead}
use Rattle.log_ring.proofs.ScanSteps.{other_key}

-- a call takes one moment at most
pub one_moment : {c : Call} {ok : Bool} {s t : Sight} → OneCall c ok s t → t.now ≤ s.now + 1
one_moment {s = s} {t = t} g = ⊎_elim (λ (next : t.now ≡ s.now + 1). omega arith) (λ full. let same = full.1 in omega arith) g.time

-- the record that a slice of cells holds
pub home_replayable : (s : Sizes) (words : List ℕ) (found : Option RedoBundle) → IsHomeRecord s words found → IfSome found (IsReplayable s)
home_replayable s words None none = tt
home_replayable s words (Some r) both = subst (IsReplayable s) (sym both.1) (record { number = (let number = both.0.slice.whole.number in let low = number.low in let first = both.0.slice.whole.first in record { low = omega arith; high = number.high }); home = both.0.home })

-- nothing was found yet
pub none_held : (s : Sizes) (found : ScanState) → found.heads.entries ≡ [] → HoldsCells s 0 found
none_held s found empty = record {
  inside = λ n h is. absurd (true≢false (sym (ap is_some is) ∙ ap (λ (es : List (ℕ × Head)). is_some (lookup (is_at (nat_cmp n)) es)) empty));
  few = rw empty (omega arith);
}

-- a cell more was looked at, whose head wasn't taken in
pub held_skip : (s : Sizes) (most more : ℕ) (found : ScanState) → most ≤ more → HoldsCells s most found → HoldsCells s more found
held_skip s most more found up holds = let few = holds.few in record { inside = holds.inside; few = omega arith }

-- a head more
pub held_more : (s : Sizes) (most line : ℕ) (h : Head) (old new : ScanState) → IsCell s (cell_of h) → TakesHead line h old new → btree_map_len new.heads ≤ btree_map_len old.heads + 1 → HoldsCells s most old → HoldsCells s (most + 1) new
held_more s most line h old new own takes few holds = record { inside = by takes; few = (let before = holds.few in omega arith) }
  where
    by : TakesHead line h old new → (n : ℕ) (q : Head) → get nat_cmp new.heads n ≡ Some q → IsCell s (cell_of q)
    by (inl again) = λ n q is. holds.inside n q (ap (λ m. get nat_cmp m n) (sym again.1) ∙ is)
    by (inr kept) = λ n q is. ⊎_elim
        (λ (key : n ≡ h.last).
        let found : get nat_cmp new.heads h.last ≡ Some q = ap (get nat_cmp new.heads) (sym key) ∙ is in
        let one : h ≡ q = search (rules, sym kept.1.1 ∙ found) in
        subst (λ (x : Head). IsCell s (cell_of x)) one own)
        (λ (apart : n ≢ h.last). holds.inside n q (sym (kept.1.2 n (other_key h.last n apart)) ∙ is))
        (cases_eq n h.last)

-- all heads at the end
pub all_inside : (s : Sizes) (most : ℕ) (found : ScanState) → IsOrdered nat_cmp found.heads → HoldsCells s most found → All (λ h. IsCell s (cell_of h)) (values_of found.heads.entries)
all_inside s most found ordered holds = All-map (λ (h : Head). IsCell s (cell_of h)) (λ (e : ℕ × Head). e.1) found.heads.entries
    (λ i d lt. holds.inside _ _ (btree_map_get_place nat_cmp_total found.heads i _ _ ordered (slice_get-get_or found.heads.entries i d lt)))

pub count_inside : (s : Sizes) (most : ℕ) (found : ScanState) → HoldsCells s most found → length (values_of found.heads.entries) ≤ most
count_inside s most found holds = let few = holds.few in omega (arith, length-map found.heads.entries (λ (e : ℕ × Head). e.1))
