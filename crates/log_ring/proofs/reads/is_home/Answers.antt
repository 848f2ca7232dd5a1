use Rattle.std.proofs.Common.{◌≡◌, ℕ, ◌*◌, ◌<◌, get_or, ap, arith}
use Rattle.std.proofs.lemmas.Option.{get_or_from_slice_get}
use Rattle.dude_base.specs.declared.write.Write.{Write}
use borrow.Author.Count.{below_more}
use Rattle.log_ring.proofs.reads.is_home.Goals as goal

pub returns-then-write_at-words : goal.returns-then-write_at-words
returns-then-write_at-words c = (
  λ is. absurd (cc),
  λ all.
      let w = c.write_at.result in
      let pages : c.sizes-words.result.pages ≡ c.args.place.now.pages = ap (λ s. s.pages) c.sizes-words.ensures.sizes in
      let inside : (get_or c.args.b.now.writes c.loop-k.k w).at < c.args.place.now.pages * 64 = all c.loop-k.k w (omega arith) in
      let at : (get_or c.args.b.now.writes c.loop-k.k w).at ≡ w.at = ap (λ (x : Write). x.at) (get_or_from_slice_get c.args.b.now.writes c.loop-k.k w w c.write_at.ensures) in
      absurd (omega arith),
)

pub loop-k-preserved : goal.loop-k-preserved
loop-k-preserved c = λ j d lt. below_more (λ (j : ℕ). (d : Write) → (get_or c.args.b.now.writes j d).at < c.sizes-words.result.pages * 64) c.loop-k.k (λ j lt d. c.loop-k.invariant j d lt)
    (λ e.
    let at : (get_or c.args.b.now.writes c.loop-k.k e).at ≡ c.write_at.result.at = ap (λ (x : Write). x.at) (get_or_from_slice_get c.args.b.now.writes c.loop-k.k c.write_at.result e c.write_at.ensures) in
    omega arith) j lt d
