-- What the rules say of the blocks.
use Rattle.std.specs.Prelude.{◌≡◌, List, Some}
use Rattle.uac_descriptor.specs.declared.block.Block as block
use Rattle.uac_topology.specs.Topology.{first_fault_of, IsSound, IsFunctionOf}
use Rattle.uac_topology.specs.declared.soundness.Judged.{Judged}
use Rattle.uac_topology.specs.declared.soundness.Judged.TheVariants as judged

abbrev pub IsJudged : List block.Block → Judged → Type 0
IsJudged blocks (judged.Sound function) = IsSound blocks × IsFunctionOf function blocks
IsJudged blocks (judged.Broken fault) = first_fault_of blocks ≡ Some fault
