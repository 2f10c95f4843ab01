-- What a reader knows of its input, and what holds of the parts that it keeps.
use Rattle.std.specs.Prelude.{◌≡◌, ◌≢◌, ◌≤◌, ◌<◌, ℕ, ◌+◌, List, ◌++◌, length, slice_index, Option, Some, None}
use Rattle.uac_descriptor.specs.BlockParsing.{AreBytes}
use Rattle.uac_descriptor.specs.declared.block.Block.{Block}
use Rattle.uac_grammar_rules.specs.Progress.{HasRead}
use Rattle.uac_grammar_rules.specs.Sentence.{spellings}
use Rattle.uac_grammar_rules.specs.declared.states.State.{State}
use Rattle.uac_grammar.specs.declared.fault.ReadStop.{ReadStop}
use Rattle.uac_grammar.specs.declared.fault.ReadStop.TheVariants.{NoMemory}
use Rattle.uac_grammar.specs.Stop.{shown_stop}

-- the bytes that a reader took, up to its stop where it has one
pub record ReaderFields : Type 0 where
  pub taken : List ℕ
  pub stop : Option ReadStop

-- the most bytes that a reader takes without a stop: a device descriptor, a configuration of the greatest
-- total, and all but the last byte of the longest block
abbrev pub most_taken : ℕ
most_taken = 18 + 65535 + 254

-- a reader that may go on: nothing is wrong so far
pub record IsUnstopped (reading : ReaderFields) : Type 0 where
  pub no_stop : reading.stop ≡ None
  pub nothing_shown : shown_stop reading.taken ≡ None
  pub bounded : length reading.taken ≤ most_taken

-- no block is whole yet, and nothing is wrong with its length
pub record IsPartial (bytes : List ℕ) : Type 0 where
  pub long_enough : 2 ≤ length bytes → 2 ≤ slice_index bytes 0
  pub not_whole : 2 ≤ length bytes → length bytes < slice_index bytes 0
  pub short : length bytes ≤ 254

-- a reader that has no stop: these blocks left this state at this place, and broke no rule
pub record IsGoing (blocks : List Block) (state : State) (place : ℕ) (pending : List ℕ) : Type 0 where
  pub read : HasRead blocks state place
  pub bytes : AreBytes (spellings blocks ++ pending)
  pub fits : place ≤ 18 + 65535
  pub partial : IsPartial pending

-- what holds of a reader's parts
pub record IsReaderOf (blocks : List Block) (state : State) (place : ℕ) (pending : List ℕ) (stop : Option ReadStop) : Type 0 where
  pub going : stop ≡ None → IsGoing blocks state place pending
  pub stopped : (s : ReadStop) → stop ≡ Some s → s ≢ NoMemory → (rest : List ℕ)
      → shown_stop (spellings blocks ++ (pending ++ rest)) ≡ Some s
