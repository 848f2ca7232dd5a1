-- What contracts see of a replica.
use Rattle.pmem_trait.specs.declared.medium.Medium.{Ghosts}
use Rattle.pmem_trait.specs.Sights.{Sight}
use Rattle.back_store.specs.Back.{BackState}
use Rattle.back_store.specs.BackView.{medium_of, state_of}
use Rattle.dude_follow.specs.declared.replica.Replica.{Replica}

-- the medium of a replica
abbrev pub replica_medium : {M : Type 0} {ghosts : Ghosts M} → Replica M ghosts → M
replica_medium r = medium_of r.back

-- the back of a replica, without its medium
abbrev pub replica_back : {M : Type 0} {ghosts : Ghosts M} → Replica M ghosts → BackState
replica_back r = state_of r.back

-- what clauses see of the medium of a replica
abbrev pub replica_sight : {M : Type 0} {ghosts : Ghosts M} → Replica M ghosts → Sight
replica_sight {M} {ghosts} r = ghosts.sight (replica_medium r)
