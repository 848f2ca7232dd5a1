use Rattle.std.proofs.Common.{◌≤◌, subst, sym, List, ℕ}
use Rattle.dude_base.specs.Image.{image_words}
use Rattle.pmem_trait.specs.Groups.{LinesFit}
use Rattle.back_store.proofs.HomeWrites.{lines_fit}
use Rattle.back_store.proofs.home_puts.settle_home.Goals as goal

pub flush_all-requires : goal.flush_all-requires
flush_all-requires g c =
    subst (λ (ls : List ℕ). LinesFit (g.M.Medium.sight c.put_home.new.m).len ls) (sym c.requires.lines)
    (lines_fit c.args.place.now c.args.group.now.writes (g.M.Medium.sight c.put_home.new.m).len (subst (λ n. image_words c.args.place.now ≤ n) (sym c.in_ok-put_home.ensures.len) c.requires.room) c.requires.inside)
