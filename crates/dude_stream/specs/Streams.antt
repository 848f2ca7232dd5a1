-- Lines that are printed while a run goes on: in some order, those of each file in its order.
use Rattle.std.specs.Prelude.{◌≡◌, ◌==◌, ℕ, ◌<◌, nat_le, Bool, true, false, List, ◌++◌, length, map, filter, take}
use Rattle.std.specs.List.{flat_map}
use Rattle.tatp_model.specs.declared.done.Done.{Done}
use Rattle.tatp_model.specs.declared.request.Request.{Request}
use Rattle.tatp_model.specs.OneThread.{AllAreDone}
use Rattle.tatp_text.specs.Output.{last_line}
use Rattle.dude_io.specs.Sink.{SinkSight, Took, TookPart}
use Rattle.dude_stream.specs.declared.print_fault.PrintFault.{PrintFault}
use Rattle.dude_stream.specs.declared.print_fault.PrintFault.TheVariants.{Sink, NoMemory}
use Rattle.dude_stream.specs.Lanes.{HasReceived}
use Rattle.dude_stream.specs.Lines.{lane_line}
use Rattle.dude_stream.specs.Printing.{Taken, lines_text, of_lane}

-- ---- texts
-- those of one file, in order
abbrev pub of_file : ℕ → List Done → List Done
of_file file done = filter (λ d. d.file == file) done

-- the same replies, those of each file in the same order
abbrev pub Interleave : List Done → List Done → Type 0
Interleave done lines = (file : ℕ) → of_file file lines ≡ of_file file done

-- a text that a streamed run prints whole: a line for each request done, and the last number
pub record IsStreamText (done : List Done) (last : ℕ) (text : List ℕ) : Type 0 where
  pub lines : List Done
  pub order : Interleave done lines
  pub is : text ≡ flat_map lane_line lines ++ last_line last

-- ---- what is printed in two parts
-- of each file the lines of its lane are those of the first requests done
abbrev pub AreFirst : List Taken → List Done → Type 0
AreFirst lines done = (file : ℕ) → HasReceived (of_file file done) (of_lane file lines)

-- how many lines there are of a lane
abbrev pub count_in : List Taken → ℕ → ℕ
count_in lines lane = length (of_lane lane lines)

-- what isn't printed yet, where of each file so many of the first replies are
abbrev pub rest_of : (ℕ → ℕ) → List Done → List Done
rest_of printed done = filter (λ d. nat_le (printed d.file) d.index) done

-- their lines, one behind another
abbrev pub rest_lines : (ℕ → ℕ) → List Done → List ℕ
rest_lines printed done = flat_map lane_line (rest_of printed done)

-- their lines, and the last number
abbrev pub rest_text : (ℕ → ℕ) → List Done → ℕ → List ℕ
rest_text printed done last = rest_lines printed done ++ last_line last

-- first lines of each file, and behind them the rest, are all
abbrev pub LawOfLines : Type 0
LawOfLines = (files : List (List Request)) (done : List Done) (lines : List Taken) → AllAreDone files done → AreFirst lines done
    → Interleave done (map (λ t. t.done) lines ++ rest_of (count_in lines) done)

-- ---- what the sink took
-- the sink took the first bytes of the text, but not all
pub record TookLess (text : List ℕ) (s t : SinkSight) : Type 0 where
  pub n : ℕ
  pub less : n < length text
  pub took : Took (take n text) s t

-- the text wasn't printed whole: the sink failed in it, or there was no memory
abbrev pub StopsIn : PrintFault → List ℕ → SinkSight → SinkSight → Type 0
StopsIn Sink text s t = TookPart text s t
StopsIn NoMemory text s t = TookLess text s t

-- a piece of a text wasn't printed: the sink failed in it, or there was no memory, and no call was made
abbrev pub StopsAt : PrintFault → List ℕ → SinkSight → SinkSight → Type 0
StopsAt Sink piece s t = TookPart piece s t
StopsAt NoMemory piece s t = t ≡ s

-- What a streamed run hands the sink. Where it ends whole and the sink doesn't fail, a whole text; where it doesn't end
-- whole, less of one; and where the sink fails, it fails in one.
abbrev pub Streams : (whole failed : Bool) → List Done → ℕ → SinkSight → SinkSight → Type 0
Streams true false done last s t = (text : List ℕ) × IsStreamText done last text × Took text s t
Streams false false done last s t = (text : List ℕ) × IsStreamText done last text × TookLess text s t
Streams whole true done last s t = (text : List ℕ) × IsStreamText done last text × TookPart text s t

-- lines that were printed while the run went on, and the whole rest behind them: a whole text
abbrev pub LawOfWholeStreams : Type 0
LawOfWholeStreams = (files : List (List Request)) (done : List Done) (lines : List Taken) (last : ℕ) (s t u : SinkSight) → AllAreDone files done → AreFirst lines done
    → Took (lines_text lines) s t → Took (rest_text (count_in lines) done last) t u → Streams true false done last s u

-- such lines, and a rest that isn't printed whole: less of a text, or the sink failed in it
abbrev pub LawOfStoppedRests : Type 0
LawOfStoppedRests = (files : List (List Request)) (done : List Done) (lines : List Taken) (last : ℕ) (s t u : SinkSight) → AllAreDone files done → AreFirst lines done
    → Took (lines_text lines) s t
    → (TookLess (rest_text (count_in lines) done last) t u → Streams false false done last s u)
    × (TookPart (rest_text (count_in lines) done last) t u → (whole : Bool) → Streams whole true done last s u)

-- such lines, and nothing behind them: the same
abbrev pub LawOfStoppedStreams : Type 0
LawOfStoppedStreams = (files : List (List Request)) (done : List Done) (lines : List Taken) (last : ℕ) (s t : SinkSight) → AllAreDone files done → AreFirst lines done
    → (Took (lines_text lines) s t → Streams false false done last s t)
    × (TookPart (lines_text lines) s t → (whole : Bool) → Streams whole true done last s t)
