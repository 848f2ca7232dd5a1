-- The rest of what is printed, piece by piece.
use Rattle.std.proofs.Common.{◌≡◌, ℕ, ◌+◌, ◌<◌, ◌≤◌, nat_le, List, [], ◌∷◌, ◌++◌, length, take, drop, sym, ◌∙◌, ap, subst, arith, append_assoc, append-nil, length-append}
use Rattle.std.specs.List.{flat_map}
use Rattle.std.specs.Prelude.{codes, decimal}
use Rattle.std.proofs.Math.Seq.{take-add, take-append-add, take-append_seam}
use Rattle.std.proofs.lemmas.List.{take_all, take-append-le, take-append-drop}
use Rattle.std.proofs.lemmas.List.Elements.{filter-append}
use Rattle.std.proofs.lemmas.Grind.{flat_map-append}
use Rattle.tatp_model.specs.declared.done.Done.{Done}
use Rattle.tatp_text.specs.Output.{last_line}
use Rattle.dude_io.specs.Sink.{SinkSight, Took, TookPart}
use Rattle.dude_io.proofs.WriteLaws.{took-then}
use Rattle.dude_stream.specs.declared.print_fault.PrintFault.{PrintFault}
use Rattle.dude_stream.specs.declared.print_fault.PrintFault.TheVariants.{Sink, NoMemory}
use Rattle.dude_stream.specs.Lines.{lane_line}
use Rattle.dude_stream.specs.Streams.{StopsAt, StopsIn, TookLess, rest_lines, rest_of, rest_text}
use Rattle.dude_stream.proofs.Receiving.{part_behind}

pub lines-append : (printed : ℕ → ℕ) (xs ys : List Done) → rest_lines printed (xs ++ ys) ≡ rest_lines printed xs ++ rest_lines printed ys
lines-append printed xs ys =
    ap (flat_map lane_line) (filter-append (λ (d : Done). nat_le (printed d.file) d.index) xs ys) ∙ flat_map-append lane_line (rest_of printed xs) (rest_of printed ys)

-- one more piece was printed
pub piece_printed : (printed : ℕ → ℕ) (done : List Done) (at n : ℕ) (s t u : SinkSight) → Took (rest_lines printed (take at done)) s t → Took (rest_lines printed (take n (drop at done))) t u
    → Took (rest_lines printed (take (at + n) done)) s u
piece_printed printed done at n s t u a b = rw (take-add at n done, lines-append printed (take at done) (take n (drop at done))) (took-then a b)

-- a part of a text that is longer
pub part_longer : (front back : List ℕ) {s t : SinkSight} → TookPart front s t → TookPart (front ++ back) s t
part_longer front back {s} {t} p = record {
  n = p.n;
  less = omega (arith, p.less, length-append front back);
  took = subst (λ (l : List ℕ). Took l s t) (sym (take-append-le p.n front back (omega (arith, p.less)))) p.took;
  cause = p.cause;
}

-- less of a text, behind another
pub less_behind : {front text : List ℕ} {s t u : SinkSight} → Took front s t → TookLess text t u → TookLess (front ++ text) s u
less_behind {front} {text} a b = record {
  n = length front + b.n;
  less = omega (arith, b.less, length-append front text);
  took = rw (take-append-add front text b.n) (took-then a b.took);
}

-- the first bytes of a text that is longer
pub first_bytes : (front back : List ℕ) {s t : SinkSight} → 0 < length back → Took front s t → TookLess (front ++ back) s t
first_bytes front back {s} {t} some took = record {
  n = length front;
  less = omega (arith, some, length-append front back);
  took = subst (λ (l : List ℕ). Took l s t) (sym (take-append_seam front back)) took;
}

pub last_some : (xs : List ℕ) (last : ℕ) → 0 < length (xs ++ last_line last)
last_some xs last = omega (arith, length-append xs (last_line last), length-append (codes "last " ++ decimal last) (10 ∷ []))

-- printing stops at a piece, of which the last number is behind or a part
stops_in : (fault : PrintFault) (front piece back : List ℕ) (s t u : SinkSight) → 0 < length (piece ++ back) → Took front s t → StopsAt fault piece t u → StopsIn fault (front ++ (piece ++ back)) s u
stops_in Sink front piece back s t u some took stop =
    subst (λ (l : List ℕ). TookPart l s u) (append_assoc front piece back) (part_longer (front ++ piece) back (part_behind took stop))
stops_in NoMemory front piece back s t u some took stop = first_bytes front (piece ++ back) some (rw stop took)

pub piece_stops : (printed : ℕ → ℕ) (done : List Done) (at n last : ℕ) (fault : PrintFault) (s t u : SinkSight) → Took (rest_lines printed (take at done)) s t
    → StopsAt fault (rest_lines printed (take n (drop at done))) t u → StopsIn fault (rest_text printed done last) s u
piece_stops printed done at n last fault s t u took stop =
    let front = rest_lines printed (take at done) in
    let piece = rest_lines printed (take n (drop at done)) in
    let more = rest_lines printed (drop n (drop at done)) in
    let all : rest_text printed done last ≡ front ++ (piece ++ (more ++ last_line last))
    = ap (λ (l : List ℕ). l ++ last_line last) (split at done ∙ ap (λ (l : List ℕ). front ++ l) (split n (drop at done)))
    ∙ (append_assoc front (piece ++ more) (last_line last) ∙ ap (λ (l : List ℕ). front ++ l) (append_assoc piece more (last_line last))) in
    let some : 0 < length (piece ++ (more ++ last_line last)) = rw (sym (append_assoc piece more (last_line last))) (last_some (piece ++ more) last) in
    subst (λ (l : List ℕ). StopsIn fault l s u) (sym all) (stops_in fault front piece (more ++ last_line last) s t u some took stop)
  where
    split : (i : ℕ) (xs : List Done) → rest_lines printed xs ≡ rest_lines printed (take i xs) ++ rest_lines printed (drop i xs)
    split i xs = ap (rest_lines printed) (sym (take-append-drop i xs)) ∙ lines-append printed (take i xs) (drop i xs)

-- printing stops at the last number
pub last_stops : (printed : ℕ → ℕ) (done : List Done) (at last : ℕ) (fault : PrintFault) (s t u : SinkSight) → length done ≤ at → Took (rest_lines printed (take at done)) s t
    → StopsAt fault (last_line last) t u → StopsIn fault (rest_text printed done last) s u
last_stops printed done at last fault s t u past took stop =
    let whole : Took (rest_lines printed done) s t = subst (λ (l : List Done). Took (rest_lines printed l) s t) (take_all at done past) took in
    subst (λ (l : List ℕ). StopsIn fault (rest_lines printed done ++ l) s u) (append-nil (last_line last))
    (stops_in fault (rest_lines printed done) (last_line last) [] s t u (omega (arith, last_some [] last, length-append (last_line last) [])) whole stop)
