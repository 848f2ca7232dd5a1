use denote.Text.{Utf8}
use denote.Shadow.{shadow}
use Rattle.thread_runs.proofs.saying.last_line_of.Given as goal

-- the line is text
abbrev pub invariant-loop-line : goal.invariant-loop-line
invariant-loop-line l = shadow (Utf8 l.last)
