-- An opening, by the reads before its calls: those that recovered the image, those that found its stale heads, and the one of its version.
use Rattle.std.proofs.Common.{◌≡◌, ℕ, ◌<◌, Bool, true, IsTrue, List, sym, ap, ◌∙◌, subst}
use Rattle.dude_base.specs.declared.sizes.Sizes.{Sizes}
use Rattle.pmem_trait.specs.declared.call.Call.TheVariants.{Read}
use Rattle.pmem_trait.specs.Words.{value_of}
use Rattle.pmem_trait.specs.Sights.{Sight, state_now, OneCall, CallsMade}
use Rattle.pmem_trait.specs.Reads.{OnlyReads}
use Rattle.pmem_trait.proofs.ReadRuns.{reads_then, read_alone, read_content, content_before}
use Rattle.dude_recover.specs.Answers.{Opens}
use Rattle.dude_recover.specs.OpeningCalls.{AreStaleLines, stale_lines, opening_calls}

pub opens_behind : {ok : Bool} {sizes place : Sizes} {number version : ℕ} {words home stale lines : List ℕ} {s m n read t : Sight}
    → place ≡ sizes → home ≡ words → lines ≡ stale → OnlyReads true s m → OnlyReads true m n → OneCall (Read 1) true n read
    → 1 < n.len → (IsTrue n.is_visible → version ≡ value_of ((state_now n).word 1)) → AreStaleLines place number m stale
    → CallsMade (opening_calls version place number home lines) ok read t → Opens ok sizes number words s t
opens_behind {ok} {sizes} {place} {number} {version} {words} {home} {stale} {lines} {s} {m} {n} {read} {t} same home_is lines_is recovered found one inside version_is stale_is made = record {
  read = read;
  reads = reads_then (reads_then recovered found) (read_alone one);
  stale = stale;
  heads = content_before {P = λ content. stale ≡ stale_lines sizes number content} recovered (λ visible content is. stale_is visible content is ∙ ap (λ (s : Sizes). stale_lines s number content) same);
  version = version;
  named = λ visible content is. sym (read_content 1 (reads_then recovered found) inside version_is visible content is);
  made = subst (λ (z : Sizes). CallsMade (opening_calls version z number words stale) ok read t) same
      (subst (λ (l : List ℕ). CallsMade (opening_calls version place number l stale) ok read t) home_is
      (subst (λ (l : List ℕ). CallsMade (opening_calls version place number home l) ok read t) lines_is made));
}
