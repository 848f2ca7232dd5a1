-- What a group of writes leaves of a medium, from the list of its calls.
use Rattle.std.proofs.Common.{Bool, true, false, IsTrue, ℕ, List, Result, Ok, Err, is_ok, OnOk, sym, subst}
use Rattle.pmem_trait.specs.declared.call.Call.TheVariants.{Fence}
use Rattle.pmem_trait.specs.Words.{State}
use Rattle.pmem_trait.specs.Sights.{Sight, state_now, OneCall, CallsMade, AtEveryMoment}
use Rattle.pmem_trait.specs.Groups.{put_pairs, flush_lines, group_calls, MixOf, SettlesGroup}
use Rattle.pmem_trait.proofs.Runs.{made_here, made_then, made_stop, goes_alone}
use Rattle.pmem_trait.proofs.Laws.{made_keep}
use Rattle.pmem_trait.proofs.GroupLaw.{mix_law, group_settles}

-- a group, part by part: it stops at a put, it stops at a flush, or it comes to its fence
pub group_stops_in_puts : (ws : List (ℕ × ℕ)) (ls : List ℕ) {s t : Sight} → CallsMade (put_pairs ws) false s t → CallsMade (group_calls ws ls) false s t
unfolding group_calls
group_stops_in_puts ws ls made = made_stop _ made

pub group_stops_in_flushes : (ws : List (ℕ × ℕ)) (ls : List ℕ) {s t u : Sight} → CallsMade (put_pairs ws) true s t → CallsMade (flush_lines ls) false t u → CallsMade (group_calls ws ls) false s u
unfolding group_calls
group_stops_in_flushes ws ls put flushed = made_then put (made_stop _ flushed)

pub group_made : (ws : List (ℕ × ℕ)) (ls : List ℕ) {ok : Bool} {s t u v : Sight} → CallsMade (put_pairs ws) true s t → CallsMade (flush_lines ls) true t u → OneCall Fence ok u v → CallsMade (group_calls ws ls) ok s v
unfolding group_calls
group_made ws ls {ok} put flushed fenced = made_then put (made_then flushed (goes_alone ok fenced))

pub ruleset grouping = (group_stops_in_puts, group_stops_in_flushes, group_made)

-- each image at each moment is a mix of the words before and the written ones
pub group_keeps : (ws : List (ℕ × ℕ)) (ls : List ℕ) {ok : Bool} {s t : Sight} → CallsMade (group_calls ws ls) ok s t → AtEveryMoment (MixOf s.len (state_now s) ws) s t
group_keeps ws ls {ok} {s} {t} makes = made_keep (MixOf s.len (state_now s) ws) makes (λ told. mix_law ws ls)

-- at its end the written words are settled
pub made_settle : (ws : List (ℕ × ℕ)) (ls : List ℕ) {s t : Sight} → CallsMade (group_calls ws ls) true s t → IsTrue s.is_visible → SettlesGroup ws ls (state_now s) (state_now t)
made_settle ws ls {s} {t} makes told = subst (λ (q : State). SettlesGroup ws ls (state_now s) q) (sym (made_here makes told)) (group_settles ws ls (state_now s))

pub ok_settles : {T E : Type 0} (r : Result T E) (ws : List (ℕ × ℕ)) (ls : List ℕ) {s t : Sight} → CallsMade (group_calls ws ls) (is_ok r) s t → OnOk r (IsTrue s.is_visible → SettlesGroup ws ls (state_now s) (state_now t))
ok_settles (Ok x) ws ls makes = made_settle ws ls makes
ok_settles (Err e) ws ls makes = tt
