use Rattle.tiny_stm.proofs.closing.keep.Goals as goal

pub unreachable-requires : goal.unreachable-requires
unreachable-requires g c = c.requires.no_home (_, c.in-Home.is)
