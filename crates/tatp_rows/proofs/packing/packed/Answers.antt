use Rattle.std.proofs.Common.{◌≡◌, ℕ, ◌+◌, ◌-◌, ◌*◌, ◌^◌, ◌<◌, ◌≤◌, List, drop, length, All, slice_index, ap, ◌∙◌, arith, length-drop}
use Rattle.std.proofs.Math.Nat.{pow-le-pow_right}
use Rattle.std.proofs.lemmas.List.{drop_more}
use Rattle.std.proofs.lemmas.List.Elements.{All-drop, recursion_from_All}
use Rattle.tatp_layout.specs.Digits.{from_digits}
use Rattle.tatp_layout.specs.DigitLists.{digits_small}
use Rattle.tatp_rows.proofs.packing.packed.Goals as goal

-- one digit more, in front
more : (base : ℕ) (digits : List ℕ) (i j number : ℕ) → i < length digits → j ≡ i + 1 → number ≡ from_digits base (drop j digits) → number * base + slice_index digits i ≡ from_digits base (drop i digits)
more base digits i j number inside next is =
    let whole : from_digits base (drop i digits) ≡ slice_index digits i + base * from_digits base (drop (i + 1) digits) = ap (from_digits base) (drop_more digits i 0 inside) in
    let front : number * base ≡ from_digits base (drop (i + 1) digits) * base = ap (λ n. n * base) (is ∙ ap (λ n. from_digits base (drop n digits)) next) in
    omega (arith, whole, front)

room : (base : ℕ) (digits : List ℕ) (i number : ℕ) → 2 ≤ base → base ^ length digits ≤ 2 ^ 64 → All (λ d. d < base) digits → number ≡ from_digits base (drop i digits) → number < 2 ^ 64
room base digits i number low fits below is =
    let small = digits_small base (drop i digits) (recursion_from_All (λ d. d < base) (drop i digits) (All-drop (λ d. d < base) i digits below)) in
    let fewer : base ^ length (drop i digits) ≤ base ^ length digits = pow-le-pow_right (omega arith) (omega (arith, length-drop i digits)) in
    omega (arith, small, fewer)

pub overflow_mul-number : goal.overflow_mul-number
overflow_mul-number c =
    let i = length c.args.digits.now - 1 - c.loop-done.done in
    let sum = more c.args.base c.args.digits.now i (length c.args.digits.now - c.loop-done.done) c.loop-done.number (omega arith) (omega arith) c.loop-done.invariant in
    omega (arith, room c.args.base c.args.digits.now i _ c.requires.base c.requires.fits c.requires.digits sum)

pub overflow_add-number : goal.overflow_add-number
overflow_add-number c =
    let i = length c.args.digits.now - 1 - c.loop-done.done in
    let sum = more c.args.base c.args.digits.now i (length c.args.digits.now - c.loop-done.done) c.loop-done.number (omega arith) (omega arith) c.loop-done.invariant in
    omega (arith, room c.args.base c.args.digits.now i _ c.requires.base c.requires.fits c.requires.digits sum)

pub loop-done-preserved : goal.loop-done-preserved
loop-done-preserved c =
    let i = length c.args.digits.now - 1 - c.loop-done.done in
    let same : i ≡ length c.args.digits.now - (c.loop-done.done + 1) = omega arith in
    more c.args.base c.args.digits.now i (length c.args.digits.now - c.loop-done.done) c.loop-done.number (omega arith) (omega arith) c.loop-done.invariant
    ∙ ap (λ n. from_digits c.args.base (drop n c.args.digits.now)) same
