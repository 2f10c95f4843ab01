-- The blocks and the function that a descriptor's bytes describe.
use Rattle.std.proofs.Common.{◌≡◌, ◌≢◌, ℕ, List, [], ◌∷◌, ◌++◌, refl, sym, ap, subst, ◌∙◌, flat_map, Option, None, Some, Result, Ok, Err, IfOk, IfErr}
use Rattle.uac_descriptor.specs.declared.context.Context.{Context}
use Rattle.uac_descriptor.specs.declared.context.Context.TheVariants as context
use Rattle.uac_descriptor.specs.declared.block.Block.{Block}
use Rattle.uac_descriptor.specs.Spelling.{spelling}
use Rattle.uac_descriptor.proofs.SpellingLemmas.{block_of-Spells}
use Rattle.uac_grammar_rules.specs.Cutting.{Cut, IsPiece, with_piece, chop}
use Rattle.uac_grammar_rules.specs.Grammar.{first_fault}
use Rattle.uac_grammar_rules.specs.BlockRole.{context_after}
use Rattle.uac_grammar_rules.specs.Sentence.{EachIn, SpellsItself, spellings, IsSentence}
use Rattle.uac_grammar_rules.proofs.CuttingLemmas.{chop_piece, chop_rest}
use Rattle.uac_grammar_rules.proofs.SentenceLemmas.{piece_of}
use Rattle.uac_grammar.specs.Stop.{first_stop}
use Rattle.uac_grammar.specs.declared.fault.ReadStop.{ReadStop}
use Rattle.uac_grammar.specs.declared.fault.ReadStop.TheVariants as reads
use Rattle.uac_grammar.proofs.StopLemmas.{stop_at-Fault}
use Rattle.uac_entities.specs.declared.entity.Entity.{Entity}
use Rattle.uac_entities.specs.declared.stream.StreamInterface.{StreamInterface}
use Rattle.uac_topology_rules.specs.declared.fault.TopologyFault.{TopologyFault}
use Rattle.uac_topology.specs.Function.{FunctionFields}
use Rattle.uac_topology.specs.Topology.{first_fault_of, IsSound, IsFunctionOf}
use Rattle.uac_topology.specs.declared.describing.SoundDescriptor.{SoundDescriptor}
use Rattle.uac_topology.specs.declared.fault.DescriptorFault.{DescriptorFault}
use Rattle.uac_topology.specs.declared.fault.DescriptorFault.TheVariants as faults
use Rattle.uac_topology.specs.Configuration.{configuration_of}
use Rattle.uac_topology.specs.Description.{first_then, blocks_from, blocks_of, function_of}
use Rattle.uac_topology.specs.ConfigurationVerdict.{Describes, fault_of}

abbrev the_fields : List Entity → List ℕ → List StreamInterface → ℕ → ℕ → FunctionFields
the_fields es ds ss k t = record { entities = es; domains = ds; streams = ss; control_interface = k; total = t }

-- the blocks of the spellings of blocks that stand are these
pub blocks_from_spellings : (context : Context) (blocks : List Block) → EachIn SpellsItself context blocks
    → blocks_from context (chop (spellings blocks)).pieces ≡ blocks
unfolding blocks_from
blocks_from_spellings context [] each = ap (λ (cut : Cut). blocks_from context cut.pieces) (chop_rest [] refl)
blocks_from_spellings context (b ∷ blocks) (stands, each) =
    let piece : IsPiece (spelling b) = piece_of context b stands in
    let cut : chop (spelling b ++ spellings blocks) ≡ with_piece (spelling b) (chop (spellings blocks)) = chop_piece (spelling b) (spellings blocks) piece in
    let following : Block → List Block = λ x. blocks_from (context_after context x) (chop (spellings blocks)).pieces in
    ap (λ (c : Cut). blocks_from context c.pieces) cut
    ∙ ap (λ (o : Option Block). first_then o following) (block_of-Spells context b (spelling b) stands)
    ∙ ap (λ (rest : List Block). b ∷ rest) (blocks_from_spellings (context_after context b) blocks each)

-- a sentence's bytes describe its blocks
pub blocks_of_sentence : (bytes : List ℕ) (blocks : List Block) → IsSentence bytes blocks → blocks_of bytes ≡ blocks
unfolding blocks_of
blocks_of_sentence bytes blocks sentence =
    ap (λ (bs : List ℕ). blocks_from context.DeviceFront (chop bs).pieces) sentence.spelt
    ∙ blocks_from_spellings context.DeviceFront blocks sentence.stand

-- a function of blocks is the one that they describe
pub function_is : (function : FunctionFields) (blocks : List Block) → IsFunctionOf function blocks → function ≡ function_of blocks
unfolding function_of
function_is function blocks is =
    same_fields function.entities (function_of blocks).entities function.domains (function_of blocks).domains function.streams (function_of blocks).streams
    function.control_interface (function_of blocks).control_interface function.total (function_of blocks).total
    is.entities is.domains is.streams is.control_interface is.total
  where
    same_fields : (es es' : List Entity) (ds ds' : List ℕ) (ss ss' : List StreamInterface) (k k' t t' : ℕ) → es ≡ es' → ds ≡ ds' → ss ≡ ss' → k ≡ k' → t ≡ t'
        → the_fields es ds ss k t ≡ the_fields es' ds' ss' k' t'
    same_fields es es' ds ds' ss ss' k k' t t' e d s c l = cc

-- the descriptor's bytes were read, their function is sound, and the configuration's bytes were kept
pub described_with : (bytes : List ℕ) (blocks lent again : List Block) (function : FunctionFields) (result : Result SoundDescriptor DescriptorFault)
    → IsSentence bytes blocks → first_fault bytes ≡ None → lent ≡ blocks → again ≡ blocks → IsSound lent × IsFunctionOf function lent
    → IfOk result (λ d. (d.function ≡ function) × (d.configuration ≡ configuration_of (flat_map spelling again)))
    → IfErr result (λ fault. fault ≡ faults.NoMemory) → Describes bytes result
described_with bytes blocks lent again function (Ok d) sentence none same back sound is other =
    let all : blocks_of bytes ≡ lent = blocks_of_sentence bytes blocks sentence ∙ sym same in (
      none,
      ap first_fault_of all ∙ sound.0,
      is.0 ∙ function_is function lent sound.1 ∙ ap function_of (sym all),
      is.1 ∙ ap (λ (bs : List Block). configuration_of (flat_map spelling bs)) back ∙ ap configuration_of (sym sentence.spelt),
    )
described_with bytes blocks lent again function (Err fault) sentence none same back sound is other =
    subst (λ (f : DescriptorFault). Describes bytes (Err f)) (sym other) tt

-- or it breaks a rule
pub described_broken : (bytes : List ℕ) (blocks lent : List Block) (fault : TopologyFault) → IsSentence bytes blocks → first_fault bytes ≡ None → lent ≡ blocks
    → first_fault_of lent ≡ Some fault → Describes bytes (Err (faults.Topology fault))
described_broken bytes blocks lent fault sentence none same broken =
    (none, ap first_fault_of (blocks_of_sentence bytes blocks sentence ∙ sym same) ∙ broken)

-- or the bytes are refused
stopped_there : (bytes : List ℕ) (stop : ReadStop) → (stop ≢ reads.NoMemory → first_stop bytes ≡ Some stop) → Describes bytes (Err (fault_of stop))
stopped_there bytes (reads.Fault f) told = stop_at-Fault (first_fault bytes) f (told (λ n. cc))
stopped_there bytes reads.NoMemory told = tt

pub described_refused : (bytes : List ℕ) (stop : ReadStop) (fault : DescriptorFault) → (stop ≢ reads.NoMemory → first_stop bytes ≡ Some stop) → fault ≡ fault_of stop → Describes bytes (Err fault)
described_refused bytes stop fault told is = subst (λ (f : DescriptorFault). Describes bytes (Err f)) (sym is) (stopped_there bytes stop told)
