-- The function that a descriptor's bytes describe.
use Rattle.std.specs.Prelude.{ℕ, List, [], ◌∷◌, Option, None, Some}
use Rattle.uac_descriptor.specs.declared.context.Context.{Context}
use Rattle.uac_descriptor.specs.declared.context.Context.TheVariants as context
use Rattle.uac_descriptor.specs.declared.block.Block.{Block}
use Rattle.uac_descriptor.specs.BlockParsing.{block_of}
use Rattle.uac_grammar_rules.specs.Cutting.{chop}
use Rattle.uac_grammar_rules.specs.BlockRole.{context_after}
use Rattle.uac_entities.specs.Entities.{entities_of}
use Rattle.uac_topology_rules.specs.Clusters.{with_own_clusters}
use Rattle.uac_topology_rules.specs.Domains.{domains_of}
use Rattle.uac_topology.specs.Function.{FunctionFields}
use Rattle.uac_topology.specs.Topology.{control_number, first_given, streams_in, total_length}

-- a block, if there is one, and those after it
abbrev pub first_then : Option Block → (Block → List Block) → List Block
first_then None following = []
first_then (Some b) following = b ∷ following b

-- the blocks of these pieces, each read in the context in which it stands
unfoldable pub blocks_from : Context → List (List ℕ) → List Block
blocks_from context [] = []
blocks_from context (piece ∷ pieces) = first_then (block_of context piece) (λ b. blocks_from (context_after context b) pieces)

-- the blocks of a descriptor's bytes
unfoldable pub blocks_of : List ℕ → List Block
blocks_of bytes = blocks_from context.DeviceFront (chop bytes).pieces

-- the function of blocks
unfoldable pub function_of : List Block → FunctionFields
function_of blocks =
    record {
      entities = with_own_clusters (entities_of blocks);
      domains = domains_of (entities_of blocks);
      streams = streams_in blocks;
      control_interface = first_given control_number blocks;
      total = first_given total_length blocks;
    }
