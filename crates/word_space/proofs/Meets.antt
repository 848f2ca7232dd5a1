-- What an implementation owes beside its lists follows from them.
use Rattle.std.proofs.Common.{◌≡◌, ℕ, ◌<◌, List, [], ◌∷◌, ◌++◌, length, length-append, slice_index, slice_set, get_or, Option, Some, None, Ok, MatchOption, unwrap_or, refl, sym, ap, ◌∙◌, subst, arith}
use Rattle.std.proofs.lemmas.List.{get_or_push}
use Rattle.dude_base.specs.Writes.{written, overwritten}
use Rattle.dude_base.proofs.Overwriting.{index-overwritten, overwritten-put}
use Rattle.word_space.specs.Sights.{WordsSight, IsBelow, shown}
use Rattle.word_space.specs.Steps.{DoesRead, DoesWrite}

value_by : (s t : WordsSight) (at v : ℕ) (found : Option ℕ) → written s.writes at ≡ found → at < s.count
    → MatchOption found (t ≡ record s { reads = s.reads ++ (at, v) ∷ [] }) (λ x. (v ≡ x) × (t ≡ s))
    → (array : List ℕ) → IsBelow t array → v ≡ slice_index (shown s array) at
value_by s t at v None is inside does array below =
    let size : length array ≡ s.count = below.size ∙ ap (λ (u : WordsSight). u.count) does in
    let reads : t.reads ≡ s.reads ++ (at, v) ∷ [] = ap (λ (u : WordsSight). u.reads) does in
    let all = below.agrees.each (length s.reads) (at, v) (omega (arith, ap length reads, length-append s.reads ((at, v) ∷ []))) in
    let last : get_or t.reads (length s.reads) (at, v) ≡ (at, v) = ap (λ q. get_or q (length s.reads) (at, v)) reads ∙ get_or_push s.reads (at, v) (at, v) (length s.reads) refl in
    let there : slice_index array at ≡ v = subst (λ (r : ℕ × ℕ). slice_index array r.0 ≡ r.1) last all in
    sym (index-overwritten s.writes array at (omega arith) ∙ ap (λ o. unwrap_or o (slice_index array at)) is ∙ there)
value_by s t at v (Some x) is inside does array below =
    let size : length array ≡ s.count = below.size ∙ ap (λ (u : WordsSight). u.count) does.1 in
    does.0 ∙ sym (index-overwritten s.writes array at (omega arith) ∙ ap (λ o. unwrap_or o (slice_index array at)) is)

-- the value of a read is the one that is seen at its word
pub value_read : (s t : WordsSight) (at v : ℕ) → at < s.count → DoesRead at (Ok v) s t → (array : List ℕ) → IsBelow t array → v ≡ slice_index (shown s array) at
value_read s t at v inside does = value_by s t at v (written s.writes at) refl inside does

-- a write changes one word of those that are seen
pub shown_write : (s t : WordsSight) (at value : ℕ) → DoesWrite at value (Ok tt) s t → (array : List ℕ) → shown t array ≡ slice_set (shown s array) at value
shown_write s t at value does array =
    ap (λ (u : WordsSight). overwritten u.writes array) does.1 ∙ overwritten-put s.writes (record { at = at; value = value }) array
