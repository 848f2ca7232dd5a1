-- A line at the front of bytes, and that it is the only one.
use Rattle.std.proofs.Common.{ℕ, ◌≡◌, ◌+◌, ◌-◌, ◌<◌, ◌≤◌, List, [], ◌∷◌, ◌++◌, length, take, drop, refl, ap, ap₂, sym, ◌∙◌, subst, arith, append_assoc}
use Rattle.std.specs.Prelude.{decimal, codes}
use Rattle.std.proofs.lemmas.Fmt.{decimal_injective}
use Rattle.std.proofs.lemmas.List.{drop-take, length-take, take-append-drop}
use Rattle.std.proofs.lemmas.List.Elements.{All-nil, All-cons, All-append, All-drop}
use Rattle.dude_base.specs.declared.limits.TheConstants.{MAX_NUMBER}
use Rattle.tatp_text.specs.Output.{last_line}
use Rattle.dude_audit.specs.Bytes.{HasNo, IsFirstAt}
use Rattle.dude_audit.specs.Line.{line_bytes, BeginsWithLine}
use Rattle.dude_audit.proofs.Numerals.{one_split, decimal_no, absent_not}

-- the front of a line has no LF
front_whole : (n : ℕ) (text : List ℕ) → n ≤ MAX_NUMBER → HasNo 10 text → HasNo 10 (decimal n ++ 32 ∷ text)
front_whole n text small whole = All-append (λ b. b ≡ 10 → ⊥) (decimal n) (32 ∷ text) (decimal_no 10 n refl small) (All-cons (λ b. b ≡ 10 → ⊥) 32 text (λ e. absurd (omega (arith, e))) whole)

line_split : (n : ℕ) (text more : List ℕ) → line_bytes n text ++ more ≡ (decimal n ++ 32 ∷ text) ++ 10 ∷ more
line_split n text more = simp append_assoc

-- two lines at the front of the same bytes are one
pub line_unique : (m n : ℕ) (t u xs ys : List ℕ) → m ≤ MAX_NUMBER → n ≤ MAX_NUMBER → HasNo 10 t → HasNo 10 u → line_bytes m t ++ xs ≡ line_bytes n u ++ ys → (m ≡ n) × (t ≡ u) × (xs ≡ ys)
line_unique m n t u xs ys ms ns tw uw same =
    let outer = one_split 10 (decimal m ++ 32 ∷ t) (decimal n ++ 32 ∷ u) xs ys (front_whole m t ms tw) (front_whole n u ns uw) (sym (line_split m t xs) ∙ same ∙ line_split n u ys) in
    let inner = one_split 32 (decimal m) (decimal n) t u (decimal_no 32 m refl ms) (decimal_no 32 n refl ns) outer.0 in
    (decimal_injective m n (omega (arith, ms)) (omega (arith, ns)) inner.0, inner.1, outer.1)

-- bytes without LF begin with no line
pub no_line : (bytes : List ℕ) → HasNo 10 bytes → (n : ℕ) (text more : List ℕ) → n ≤ MAX_NUMBER → HasNo 10 text → bytes ≡ line_bytes n text ++ more → ⊥
no_line bytes none n text more small whole is = absent_not 10 (decimal n ++ 32 ∷ text) more (subst (HasNo 10) (is ∙ line_split n text more) none)

-- nor those whose bytes up to the first LF have no number in front
pub no_head : (bytes : List ℕ) (to : ℕ) → IsFirstAt 10 bytes to → ((n : ℕ) (text : List ℕ) → n ≤ MAX_NUMBER → take to bytes ≡ decimal n ++ 32 ∷ text → ⊥) → (n : ℕ) (text more : List ℕ) → n ≤ MAX_NUMBER → HasNo 10 text → bytes ≡ line_bytes n text ++ more → ⊥
no_head bytes to first none n text more small whole is =
    none n text small (one_split 10 (take to bytes) (decimal n ++ 32 ∷ text) (drop (to + 1) bytes) more first.before (front_whole n text small whole) (sym first.splits ∙ is ∙ line_split n text more)).0

-- bytes whose bytes up to the first LF are a number, a space and what is from this place on
begins_at : (bytes : List ℕ) (to from number : ℕ) → IsFirstAt 10 bytes to → number ≤ MAX_NUMBER → from ≤ length (take to bytes) → take to bytes ≡ decimal number ++ 32 ∷ drop from (take to bytes)
    → BeginsWithLine bytes (record { number = number; from = from; to = to })
begins_at bytes to from number first small within splits =
    let long : length (take to bytes) ≡ to = (let w = first.within in omega (arith, length-take to bytes, w)) in
    let rises : from ≤ to = omega (arith, within, long) in
    let same : drop from (take to bytes) ≡ take (to - from) (drop from bytes) =
    (let e : from + (to - from) ≡ to = omega (arith, rises) in subst (λ (k : ℕ). drop from (take k bytes) ≡ take (to - from) (drop from bytes)) e (drop-take from (to - from) bytes)) in
    let text : List ℕ = take (to - from) (drop from bytes) in
    let front : take to bytes ≡ decimal number ++ 32 ∷ text = splits ∙ ap (λ (l : List ℕ). decimal number ++ 32 ∷ l) same in
    record {
      small = small;
      rises = rises;
      within = first.within;
      whole = subst (HasNo 10) same (All-drop (λ b. b ≡ 10 → ⊥) from (take to bytes) first.before);
      is = first.splits ∙ ap (λ (l : List ℕ). l ++ 10 ∷ drop (to + 1) bytes) front ∙ sym (line_split number text (drop (to + 1) bytes));
    }

-- bytes whose bytes up to the first LF have a number up to their first space
pub begins_with : (bytes : List ℕ) (to space number : ℕ) → IsFirstAt 10 bytes to → IsFirstAt 32 (take to bytes) space → (number ≤ MAX_NUMBER) × (take space (take to bytes) ≡ decimal number)
    → BeginsWithLine bytes (record { number = number; from = space + 1; to = to })
begins_with bytes to space number first behind said =
    let within = behind.within in
    begins_at bytes to (space + 1) number first said.0 (omega (arith, within)) (behind.splits ∙ ap (λ (l : List ℕ). l ++ 32 ∷ drop (space + 1) (take to bytes)) said.1)

-- ---- the last line

pub last_split : (n : ℕ) (more : List ℕ) → last_line n ++ more ≡ (codes "last " ++ decimal n) ++ 10 ∷ more
last_split n more = simp append_assoc

pub last_whole : (n : ℕ) → n ≤ MAX_NUMBER → HasNo 10 (codes "last " ++ decimal n)
last_whole n small = All-append (λ b. b ≡ 10 → ⊥) (codes "last ") (decimal n) (front_bytes) (decimal_no 10 n refl small)
  where
    other : (b : ℕ) → 10 < b → b ≡ 10 → ⊥
    other b over same = absurd (omega (arith, over, same))

    front_bytes : HasNo 10 (codes "last ")
    front_bytes =
        All-cons (λ b. b ≡ 10 → ⊥) 108 (97 ∷ 115 ∷ 116 ∷ 32 ∷ []) (other 108 (omega arith))
        (All-cons (λ b. b ≡ 10 → ⊥) 97 (115 ∷ 116 ∷ 32 ∷ []) (other 97 (omega arith))
        (All-cons (λ b. b ≡ 10 → ⊥) 115 (116 ∷ 32 ∷ []) (other 115 (omega arith))
        (All-cons (λ b. b ≡ 10 → ⊥) 116 (32 ∷ []) (other 116 (omega arith))
        (All-cons (λ b. b ≡ 10 → ⊥) 32 [] (other 32 (omega arith)) (All-nil (λ b. b ≡ 10 → ⊥))))))

pub no_last : (bytes : List ℕ) → HasNo 10 bytes → (n : ℕ) (more : List ℕ) → n ≤ MAX_NUMBER → bytes ≡ last_line n ++ more → ⊥
no_last bytes none n more small is = absent_not 10 (codes "last " ++ decimal n) more (subst (HasNo 10) (is ∙ last_split n more) none)

pub last_front : (bytes : List ℕ) (to : ℕ) → IsFirstAt 10 bytes to → (n : ℕ) (more : List ℕ) → n ≤ MAX_NUMBER → bytes ≡ last_line n ++ more → take to bytes ≡ codes "last " ++ decimal n
last_front bytes to first n more small is =
    (one_split 10 (take to bytes) (codes "last " ++ decimal n) (drop (to + 1) bytes) more first.before (last_whole n small) (sym first.splits ∙ is ∙ last_split n more)).0

pub no_last_number : (bytes : List ℕ) (to : ℕ) → IsFirstAt 10 bytes to → ((n : ℕ) → n ≤ MAX_NUMBER → drop 5 (take to bytes) ≡ decimal n → ⊥) → (n : ℕ) (more : List ℕ) → n ≤ MAX_NUMBER → bytes ≡ last_line n ++ more → ⊥
no_last_number bytes to first none n more small is = none n small (ap (drop 5) (last_front bytes to first n more small is))

pub no_last_front : (bytes : List ℕ) (to : ℕ) → IsFirstAt 10 bytes to → (take 5 (take to bytes) ≡ codes "last " → ⊥) → (n : ℕ) (more : List ℕ) → n ≤ MAX_NUMBER → bytes ≡ last_line n ++ more → ⊥
no_last_front bytes to first none n more small is = none (ap (take 5) (last_front bytes to first n more small is))

pub begins_last : (bytes : List ℕ) (to n : ℕ) → IsFirstAt 10 bytes to → take 5 (take to bytes) ≡ codes "last " → drop 5 (take to bytes) ≡ decimal n → bytes ≡ last_line n ++ drop (to + 1) bytes
begins_last bytes to n first front number =
    first.splits ∙ ap (λ (l : List ℕ). l ++ 10 ∷ drop (to + 1) bytes) (sym (take-append-drop 5 (take to bytes)) ∙ ap₂ (λ (x y : List ℕ). x ++ y) front number) ∙ sym (last_split n (drop (to + 1) bytes))
