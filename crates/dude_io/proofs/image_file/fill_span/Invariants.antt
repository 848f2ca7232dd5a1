use Rattle.std.proofs.Common.{ℕ, ◌≡◌, ◌≢◌, ◌+◌, ◌-◌, take, All}
use Rattle.dude_io.specs.FileWords.{words_of}
use Rattle.dude_io.specs.Line.{line_at, line_bytes, lines_bytes, lines_spanned}
use Rattle.dude_io.proofs.image_file.fill_span.Given as goal

abbrev pub invariant-loop-line : goal.invariant-loop-line
invariant-loop-line l = record {
  noted : All (λ line. line_at (line.number - l.first) l.into ≡ line_bytes line) (take l.line-index l.lines);
  between : (n : ℕ) → All (λ line. line.number ≢ l.first + n) (take l.line-index l.lines) → line_at n l.into ≡ line_at n (lines_bytes l.first (lines_spanned l.lines) (words_of l.words));
}
