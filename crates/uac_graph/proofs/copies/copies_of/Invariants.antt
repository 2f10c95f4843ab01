use Rattle.std.proofs.Common.{◌≡◌, take}
use Rattle.uac_graph.proofs.copies.copies_of.Given as goal

abbrev pub invariant-loop-entity : goal.invariant-loop-entity
invariant-loop-entity l = l.copies.items ≡ take l.entity-index l.entities
