-- What a verdict on the bytes of a block says, of all that may follow them.
use Rattle.std.specs.Prelude.{◌≡◌, ℕ, ◌+◌, Bool, true, false, List, [], ◌∷◌, ◌++◌, length, max, Some, None}
use Rattle.uac_descriptor.specs.BlockParsing.{block_of}
use Rattle.uac_descriptor.specs.declared.block.Block.{Block}
use Rattle.uac_grammar_rules.specs.Cutting.{IsPiece}
use Rattle.uac_grammar_rules.specs.Fault.{IsShown, faults_from}
use Rattle.uac_grammar_rules.specs.declared.faults.GrammarFault.{GrammarFault}
use Rattle.uac_grammar_rules.specs.Grammar.{grammar, rule_broken, state_after}
use Rattle.uac_grammar_rules.specs.declared.states.State.{State}
use Rattle.uac_grammar.specs.declared.judge.Verdict.{Verdict}
use Rattle.uac_grammar.specs.declared.judge.Verdict.TheVariants.{Partial, Kept, Stopped}
use Rattle.uac_grammar.specs.declared.fault.ReadStop.{ReadStop}
use Rattle.uac_grammar.specs.declared.fault.ReadStop.TheVariants.{Fault, NoMemory}
use Rattle.uac_grammar.specs.ReaderKept.{IsPartial}

-- after the blocks that left this state at this place, these bytes show this fault, whatever follows
pub record Shows (state : State) (place : ℕ) (bytes : List ℕ) (fault : GrammarFault) : Type 0 where
  pub first : (rest : List ℕ) → faults_from grammar state place (bytes ++ rest) ≡ Some fault
  pub shown : IsShown fault (place + length bytes)

-- these bytes are this block, and it breaks no rule
pub record IsGoodBlock (state : State) (place : ℕ) (bytes : List ℕ) (block : Block) : Type 0 where
  pub piece : IsPiece bytes
  pub read : block_of state.context bytes ≡ Some block
  pub unbroken : rule_broken state place (length bytes) block ≡ None

-- where these bytes are kept as a block more: the blocks and the state before and after it
pub record AddsBlock (old new : List Block) (s t : State) (place : ℕ) (bytes : List ℕ) : Type 0 where
  pub block : Block
  pub kept : IsGoodBlock s place bytes block
  pub more : new ≡ old ++ block ∷ []
  pub following : t ≡ state_after s place block

-- nothing was kept
pub record IsUnchanged (old new : List Block) (s t : State) : Type 0 where
  pub blocks : new ≡ old
  pub state : t ≡ s

-- where they are not kept: at a fault, all is as it was; where there is no memory, nothing is known
abbrev pub Refuses : List Block → List Block → State → State → ℕ → List ℕ → ReadStop → Type 0
Refuses old new s t place bytes (Fault fault) = Shows s place bytes fault × IsUnchanged old new s t
Refuses old new s t place bytes NoMemory = Unit {0}

abbrev pub IsVerdict : List Block → List Block → State → State → ℕ → List ℕ → Verdict → Type 0
IsVerdict old new s t place bytes Partial = IsPartial bytes × IsUnchanged old new s t
IsVerdict old new s t place bytes Kept = AddsBlock old new s t place bytes
IsVerdict old new s t place bytes (Stopped stop) = Refuses old new s t place bytes stop

-- ---- the bytes that are judged

-- how many bytes a block has of this length byte; but two show that a length below 2 is wrong
abbrev pub bytes_wanted : ℕ → ℕ
bytes_wanted size = max size 2

abbrev pub is_kept : Verdict → Bool
is_kept Kept = true
is_kept Partial = false
is_kept (Stopped stop) = false

-- what is pending after these bytes
abbrev pub pending_after : Verdict → List ℕ → List ℕ
pending_after Kept bytes = []
pending_after Partial bytes = bytes
pending_after (Stopped stop) bytes = bytes
