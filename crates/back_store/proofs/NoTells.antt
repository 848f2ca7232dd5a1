-- Calls that tell nothing.
use Rattle.std.specs.List.{range_with_len}
use Rattle.std.proofs.Common.{◌≡◌, ℕ, ◌*◌, Bool, IsTrue, List, [], ◌∷◌, ◌++◌, All, map, refl, ◌∙◌, ⊎_elim}
use Rattle.std.proofs.lemmas.List.Elements.{All-append, All-cons, All-head, All-nil, All-tail}
use Rattle.dude_base.specs.declared.limits.TheConstants.{PAGE}
use Rattle.dude_base.specs.declared.sizes.Sizes.{Sizes}
use Rattle.dude_base.specs.declared.write.Write.{Write}
use Rattle.dude_base.specs.Image.{Cell, home_word}
use Rattle.dude_base.specs.Records.{RedoBundle}
use Rattle.pmem_trait.specs.declared.call.Call.{Call}
use Rattle.pmem_trait.specs.declared.call.Call.TheVariants.{Put, Flush, Fence, Read}
use Rattle.pmem_trait.specs.Words.{told_after}
use Rattle.pmem_trait.specs.Sights.{Sight, state_now, OneCall, CallsMade, CallsMade.none, CallsMade.stop, CallsMade.step}
use Rattle.pmem_trait.specs.Groups.{flush_lines, group_calls, put_pairs}
use Rattle.redo_record.specs.Calls.{append_calls}
use Rattle.redo_record.specs.BackCalls.{read_page_calls, reproduce_calls}
use Rattle.back_store.proofs.ToldNumbers.{one_told}

-- the call tells nothing
abbrev pub TellsNothing : Call → Type 0
TellsNothing c = (told : List ℕ) → told_after c told ≡ told

one_same : {c : Call} {ok : Bool} {s t : Sight} → TellsNothing c → OneCall c ok s t → IsTrue s.is_visible → (state_now t).told ≡ (state_now s).told
one_same {s = s} nothing call visible = ⊎_elim (λ same. same) (λ more. more ∙ nothing (state_now s).told) (one_told call visible)

pub told_same : {cs : List Call} {ok : Bool} {s t : Sight} → CallsMade cs ok s t → All TellsNothing cs → IsTrue s.is_visible → (state_now t).told ≡ (state_now s).told
told_same none all visible = refl
told_same (stop {c = c} {cs = cs} call) all visible = one_same (All-head TellsNothing c cs all) call visible
told_same (step {c = c} {cs = cs} call rest) all visible = told_same rest (All-tail TellsNothing c cs all) (call.later.is_visible ∙ visible) ∙ one_same (All-head TellsNothing c cs all) call visible

puts_tell_nothing : (ws : List (ℕ × ℕ)) → All TellsNothing (put_pairs ws)
puts_tell_nothing [] = All-nil TellsNothing
puts_tell_nothing (w ∷ ws) = All-cons TellsNothing (Put w.0 w.1) (put_pairs ws) (λ told. refl) (puts_tell_nothing ws)

flushes_tell_nothing : (ls : List ℕ) → All TellsNothing (flush_lines ls)
flushes_tell_nothing [] = All-nil TellsNothing
flushes_tell_nothing (l ∷ ls) = All-cons TellsNothing (Flush l) (flush_lines ls) (λ told. refl) (flushes_tell_nothing ls)

group_tells_nothing : (ws : List (ℕ × ℕ)) (ls : List ℕ) → All TellsNothing (group_calls ws ls)
unfolding group_calls
group_tells_nothing ws ls =
    All-append TellsNothing (put_pairs ws) (flush_lines ls ++ Fence ∷ []) (puts_tell_nothing ws)
    (All-append TellsNothing (flush_lines ls) (Fence ∷ []) (flushes_tell_nothing ls) (All-cons TellsNothing Fence [] (λ told. refl) (All-nil TellsNothing)))

pub append_tells_nothing : (s : Sizes) (head : Cell) (r : RedoBundle) → All TellsNothing (append_calls s head r)
unfolding append_calls
append_tells_nothing s head r = All-append TellsNothing _ _ (group_tells_nothing _ _) (group_tells_nothing _ _)

pub reproduce_tells_nothing : (s : Sizes) (ws : List Write) (number : ℕ) → All TellsNothing (reproduce_calls s ws number)
unfolding reproduce_calls
reproduce_tells_nothing s ws number = All-append TellsNothing _ _ (group_tells_nothing _ _) (group_tells_nothing _ _)

reads_tell_nothing : (words : List ℕ) → All TellsNothing (map Read words)
reads_tell_nothing [] = All-nil TellsNothing
reads_tell_nothing (w ∷ ws) = All-cons TellsNothing (Read w) (map Read ws) (λ told. refl) (reads_tell_nothing ws)

pub page_tells_nothing : (s : Sizes) (page : ℕ) → All TellsNothing (read_page_calls s page)
page_tells_nothing s page = reads_tell_nothing (range_with_len (home_word s (page * PAGE)) PAGE)
