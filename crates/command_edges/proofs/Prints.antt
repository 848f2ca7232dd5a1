-- Printing in pieces: what was taken and what is held back are the lines so far.
use Rattle.std.proofs.Common.{◌≡◌, ℕ, add-one, ◌+◌, ◌<◌, ◌≤◌, List, [], ◌∷◌, ◌++◌, length, get_or, take, drop, refl, sym, ◌∙◌, ap, arith, append_assoc, append-nil, codes, inl, inr, subst, Result, Ok, Err}
use Rattle.std.specs.Prelude.{IfErr, IsErrAnd, decimal}
use Rattle.std.proofs.lemmas.List.{take-append-drop, flat_map_more, take_more, take_all, length-drop, length-append}
use Rattle.std.proofs.lemmas.Grind.{flat_map-append}
use Rattle.std.proofs.Math.Seq.{drop-cons}
use Rattle.std.specs.List.{flat_map}
use Rattle.pmem_trait.proofs.Runs.{risen_later}
use Rattle.tatp_model.specs.declared.done.Done.{Done}
use Rattle.command_edges.specs.declared.fault.Fault.{Fault}
use Rattle.command_edges.specs.declared.fault.Fault.TheVariants.{Memory, Output}
use Rattle.tatp_text.specs.Output.{output_line, last_line, output_of}
use Rattle.tatp_text.specs.Reply.{reply_text}
use Rattle.dude_io.specs.Sink.{SinkSight, Took, TookPart}
use Rattle.dude_io.proofs.WriteLaws.{took_none, took-then}
use Rattle.command_edges.specs.Printing.{Collects, StopsIn}

-- the sink failed in a text
pub part_stops : (text : List ℕ) {s t : SinkSight} → TookPart text s t → StopsIn text s t Output
part_stops text part = record {
  prefix = take part.n text;
  rest = drop part.n text;
  split = sym (take-append-drop part.n text);
  some = omega (arith, part.less, length-drop part.n text);
  took = part.took;
  cause = λ _. part.cause;
  only = inl refl;
}

-- what stops in a text behind a prefix that was taken stops in the whole
pub later_stops : {fault : Fault} {text : List ℕ} (all more prefix : List ℕ) {s t u : SinkSight} → all ≡ prefix ++ (text ++ more) → Took prefix s t → StopsIn text t u fault → StopsIn all s u fault
later_stops {fault} {text} all more prefix {s} {t} {u} whole took h = record {
  prefix = prefix ++ h.prefix;
  rest = h.rest ++ more;
  split = whole ∙ (ap (λ (x : List ℕ). prefix ++ (x ++ more)) h.split ∙ regroup prefix h.prefix h.rest more);
  some = omega (arith, h.some, length-append h.rest more);
  took = took-then took h.took;
  cause = λ e. risen_later s.faults t.faults u.faults u.faults took.faults (h.cause e) (omega arith);
  only = h.only;
}
  where
    regroup : (a b c d : List ℕ) → a ++ ((b ++ c) ++ d) ≡ (a ++ b) ++ (c ++ d)
    regroup a b c d = simp append_assoc

-- there was no memory for a text that isn't empty
pub untold : {X : Type 0} (r : Result X Fault) (text : List ℕ) (s : SinkSight) → IsErrAnd r (λ fault. fault ≡ Memory) → 1 ≤ length text → IfErr r (StopsIn text s s)
untold (Ok x) text s is some = absurd is
untold (Err fault) text s is some =
    subst (StopsIn text s s) (sym is) (record { prefix = []; rest = text; split = refl; some = some; took = took_none; cause = λ e. absurd (let no : ⊥ = cc in no); only = inr refl })

-- what is held back with a line behind it isn't empty
some_behind : (xs ys : List ℕ) → 1 ≤ length ys → 1 ≤ length (xs ++ ys)
some_behind [] ys some = some
some_behind (x ∷ xs) ys some = omega arith

pub line_some : (text : List ℕ) (done : Done) → 1 ≤ length (text ++ output_line done)
line_some text done = some_behind text (output_line done) (some_behind (decimal done.number ++ 32 ∷ [] ++ reply_text done.reply) (10 ∷ []) (omega arith))

-- nor is an output that ends with the last line
pub ended_some : (lines : List ℕ) (last : ℕ) → 1 ≤ length (lines ++ last_line last)
ended_some lines last = some_behind lines (last_line last) (some_behind (codes "last " ++ decimal last) (10 ∷ []) (omega arith))

-- What was taken and what is held back are the lines of the first so many requests.
pub record Printed (done : List Done) (i : ℕ) (held : List ℕ) (s t : SinkSight) : Type 0 where
  pub prefix : List ℕ
  pub lines : prefix ++ held ≡ flat_map output_line (take i done)
  pub took : Took prefix s t

pub printed_none : (done : List Done) (s : SinkSight) → Printed done 0 [] s s
printed_none done s = record { prefix = []; lines = refl; took = took_none }

pub printed_more : (done : List Done) (i : ℕ) (d : Done) {line held next : List ℕ} {s t u : SinkSight} → i < length done → line ≡ output_line (get_or done i d)
    → Printed done i held s t → Collects line held next t u → Printed done (i + 1) next s u
printed_more done i d {line} {held} {next} below is p c = record {
  prefix = p.prefix ++ c.prefix;
  lines = append_assoc p.prefix c.prefix next ∙ (ap (λ (x : List ℕ). p.prefix ++ x) (sym c.split) ∙ (sym (append_assoc p.prefix held line)
      ∙ (ap (λ (x : List ℕ). x ++ line) p.lines ∙ (ap (λ (x : List ℕ). flat_map output_line (take i done) ++ x) is
      ∙ (flat_map_more output_line [] (take i done) (get_or done i d) ∙ ap (flat_map output_line) (sym (take_more done i d below)))))));
  took = took-then p.took c.took;
}

-- the lines so far, what comes next, and the rest are the output
pub output_is : (done : List Done) (i : ℕ) (d : Done) (last : ℕ) {line held : List ℕ} {s t : SinkSight} → i < length done → line ≡ output_line (get_or done i d) → (p : Printed done i held s t)
    → output_of done last ≡ p.prefix ++ ((held ++ line) ++ (flat_map output_line (drop (i + 1) done) ++ last_line last))
output_is done i d last {line} {held} below is p =
    ap (λ (x : List ℕ). x ++ last_line last) (ap (flat_map output_line) (split done i d below) ∙ flat_map-append output_line (take i done) (get_or done i d ∷ drop (i + 1) done))
    ∙ (ap (λ (x : List ℕ). (x ++ (output_line (get_or done i d) ++ flat_map output_line (drop (i + 1) done))) ++ last_line last) (sym p.lines)
    ∙ (regroup p.prefix held (output_line (get_or done i d)) (flat_map output_line (drop (i + 1) done)) (last_line last)
    ∙ ap (λ (x : List ℕ). p.prefix ++ ((held ++ x) ++ (flat_map output_line (drop (i + 1) done) ++ last_line last))) (sym is)))
  where
    split : (xs : List Done) (i : ℕ) (d : Done) → i < length xs → xs ≡ take i xs ++ get_or xs i d ∷ drop (i + 1) xs
    split xs i d below =
        sym (take-append-drop i xs) ∙ ap (λ (l : List Done). take i xs ++ l) (drop-cons xs i d below ∙ ap (λ (n : ℕ). get_or xs i d ∷ drop n xs) (sym (add-one i)))

    regroup : (a b c e f : List ℕ) → ((a ++ b) ++ (c ++ e)) ++ f ≡ a ++ ((b ++ c) ++ (e ++ f))
    regroup a b c e f = simp append_assoc

-- at the end the lines and the last line are the output
pub output_ends : (done : List Done) (i : ℕ) (last : ℕ) (held : List ℕ) {s t : SinkSight} → length done ≤ i → (p : Printed done i held s t)
    → output_of done last ≡ p.prefix ++ (held ++ last_line last)
output_ends done i last held past p =
    ap (λ (x : List Done). flat_map output_line x ++ last_line last) (sym (take_all i done past)) ∙ (ap (λ (x : List ℕ). x ++ last_line last) (sym p.lines) ∙ append_assoc p.prefix held (last_line last))

-- a fact for each error gives another
pub err_map : {T E : Type 0} {P Q : E → Type 0} (r : Result T E) → ((e : E) → P e → Q e) → IfErr r P → IfErr r Q
err_map (Ok v) f h = h
err_map (Err e) f h = f e h

-- what stops in the last piece stops in the output
pub last_stops : {fault : Fault} (done : List Done) (i last : ℕ) {held : List ℕ} {s t u : SinkSight} → length done ≤ i → Printed done i held s t
    → StopsIn (held ++ last_line last) t u fault → StopsIn (output_of done last) s u fault
last_stops done i last {held} past p h =
    later_stops (output_of done last) [] p.prefix (output_ends done i last held past p ∙ ap (λ (x : List ℕ). p.prefix ++ x) (sym (append-nil (held ++ last_line last)))) p.took h
