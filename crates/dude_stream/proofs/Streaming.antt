-- What was printed while a run went on, and the rest behind it, as one text.
use Rattle.std.proofs.Common.{◌≡◌, ℕ, Bool, true, false, List, [], ◌∷◌, ◌++◌, map, refl, sym, ◌∙◌, ap, append_assoc}
use Rattle.std.specs.List.{flat_map}
use Rattle.std.proofs.lemmas.Grind.{flat_map-append}
use Rattle.tatp_model.specs.declared.done.Done.{Done}
use Rattle.tatp_model.specs.declared.request.Request.{Request}
use Rattle.tatp_model.specs.OneThread.{AllAreDone}
use Rattle.tatp_text.specs.Output.{last_line}
use Rattle.dude_io.specs.Sink.{SinkSight, Took, TookPart}
use Rattle.dude_io.proofs.WriteLaws.{took-then}
use Rattle.dude_stream.specs.Lines.{lane_line}
use Rattle.dude_stream.specs.Printing.{Taken, lines_text}
use Rattle.dude_stream.specs.Streams.{AreFirst, IsStreamText, LawOfStoppedRests, LawOfStoppedStreams, LawOfWholeStreams, Streams, TookLess, count_in, rest_lines, rest_of, rest_text}
use Rattle.dude_stream.proofs.Interleaving.{lines_law}
use Rattle.dude_stream.proofs.Receiving.{part_behind}
use Rattle.dude_stream.proofs.Rests.{first_bytes, last_some, less_behind, part_longer}

lines_text-map : (lines : List Taken) → flat_map lane_line (map (λ (t : Taken). t.done) lines) ≡ lines_text lines
lines_text-map [] = refl
lines_text-map (t ∷ ts) = ap (λ (l : List ℕ). lane_line t.done ++ l) (lines_text-map ts)

module _ (files : List (List Request)) (done : List Done) (lines : List Taken) (last : ℕ) (all : AllAreDone files done) (first : AreFirst lines done) where
  abbrev front : List ℕ
  front = lines_text lines

  abbrev rest : List ℕ
  rest = rest_text (count_in lines) done last

  -- both parts are a whole text
  both : IsStreamText done last (front ++ rest)
  both = record {
    lines = map (λ t. t.done) lines ++ rest_of (count_in lines) done;
    order = lines_law files done lines all first;
    is = sym (append_assoc front (rest_lines (count_in lines) done) (last_line last))
        ∙ ap (λ (l : List ℕ). l ++ last_line last)
        (ap (λ (l : List ℕ). l ++ rest_lines (count_in lines) done) (sym (lines_text-map lines))
        ∙ sym (flat_map-append lane_line (map (λ t. t.done) lines) (rest_of (count_in lines) done)));
  }

  whole : (s t u : SinkSight) → Took front s t → Took rest t u → Streams true false done last s u
  whole s t u a b = (front ++ rest, both, took-then a b)

  less : (s t : SinkSight) → Took front s t → Streams false false done last s t
  less s t a = (front ++ rest, both, first_bytes front rest (last_some (rest_lines (count_in lines) done) last) a)

  failed : (s t : SinkSight) → TookPart (front ++ rest) s t → (w : Bool) → Streams w true done last s t
  failed s t p true = (front ++ rest, both, p)
  failed s t p false = (front ++ rest, both, p)

  less_in_rest : (s t u : SinkSight) → Took front s t → TookLess rest t u → Streams false false done last s u
  less_in_rest s t u a b = (front ++ rest, both, less_behind a b)

pub whole_law : LawOfWholeStreams
whole_law files done lines last s t u all first = whole files done lines last all first s t u

pub stopped_rests_law : LawOfStoppedRests
stopped_rests_law files done lines last s t u all first a =
    (less_in_rest files done lines last all first s t u a, λ p. failed files done lines last all first s u (part_behind a p))

pub stopped_law : LawOfStoppedStreams
stopped_law files done lines last s t all first =
    (less files done lines last all first s t, λ p. failed files done lines last all first s t (part_longer (lines_text lines) (rest_text (count_in lines) done last) p))
