-- Output that is handed to a sink in pieces.
use Rattle.std.specs.Prelude.{◌≡◌, ◌⊎◌, ℕ, ◌≤◌, List, ◌++◌, length}
use Rattle.std.specs.Global.{Vec}
use Rattle.pmem_trait.specs.Sights.{Risen}
use Rattle.tatp_model.specs.declared.done.Done.{Done}
use Rattle.tatp_text.specs.Output.{output_line, last_line}
use Rattle.command_edges.specs.declared.fault.Fault.{Fault}
use Rattle.command_edges.specs.declared.fault.Fault.TheVariants.{Output, Memory}
use Rattle.dude_io.specs.Sink.{SinkSight, Took}

-- of what was held back and some more, a prefix was taken and the rest is held back now
pub record Collects (more old new : List ℕ) (s t : SinkSight) : Type 0 where
  pub prefix : List ℕ
  pub split : old ++ more ≡ prefix ++ new
  pub took : Took prefix s t

-- The text wasn't taken whole, but a prefix of it: the sink failed, or there was no memory.
pub record StopsIn (text : List ℕ) (s t : SinkSight) (fault : Fault) : Type 0 where
  pub prefix : List ℕ
  pub rest : List ℕ
  pub split : text ≡ prefix ++ rest
  pub some : 1 ≤ length rest
  pub took : Took prefix s t
  pub cause : fault ≡ Output → Risen s.faults t.faults
  pub only : (fault ≡ Output) ⊎ (fault ≡ Memory)

-- the text wasn't taken whole, but a prefix of it, since the sink failed
abbrev pub FailsIn : List ℕ → SinkSight → SinkSight → Fault → Type 0
FailsIn text s t fault = StopsIn text s t fault × (fault ≡ Output)

-- a sink, seen so, took the text
abbrev pub Prints : {K : Type 0} → (K → SinkSight) → List ℕ → K → K → Type 0
Prints sight text old new = Took text (sight old) (sight new)

-- a sink, seen so, took a prefix of the text, and why not all of it
abbrev pub StopsWithin : {K : Type 0} → (K → SinkSight) → List ℕ → K → K → Fault → Type 0
StopsWithin sight text old new fault = StopsIn text (sight old) (sight new) fault

-- the text that was held back, with the line of a request behind it
abbrev pub with_line : Vec ℕ → Done → List ℕ
with_line text done = text.items ++ output_line done

-- the text that was held back, with the last line behind it
abbrev pub with_last : Vec ℕ → ℕ → List ℕ
with_last text last = text.items ++ last_line last

-- the line of a request joins what is held back, of which a sink, seen so, may have got a prefix
abbrev pub Gathers : {K : Type 0} → (K → SinkSight) → Done → Vec ℕ → Vec ℕ → K → K → Type 0
Gathers sight done before after old new =
    Collects (output_line done) before.items after.items (sight old) (sight new)
