-- The first fault of bytes, over any rules of blocks.
use Rattle.std.specs.Prelude.{◌≢◌, ℕ, ◌+◌, ◌<◌, List, [], ◌∷◌, length, Option, Some, None, nat_lt, if◌then◌else◌}
use Rattle.std.specs.Option.{option_or}
pub use Rattle.uac_grammar_rules.specs.declared.faults.GrammarFault.{GrammarFault}
use Rattle.uac_grammar_rules.specs.Cutting.{chop}

-- rules over blocks: the least one that the block at this place breaks, the state after it, and the
-- rule that is broken where the input ends
pub record Rules (S : Type 0) : Type 0 where
  pub broken : S → ℕ → List ℕ → Option ℕ
  pub after : S → ℕ → List ℕ → S
  pub ended : S → ℕ → Option ℕ

abbrev pub at_place : ℕ → Option ℕ → Option GrammarFault
at_place place None = None
at_place place (Some rule) = Some (record { rule = rule; at = place })

-- what is wrong with bytes that begin with no whole block: G1, one byte alone, or a block that runs past
-- the end; G2, a length below 2; or where no bytes are left, what the rules say of an end there
abbrev pub rest_rule : Option ℕ → List ℕ → Option ℕ
rest_rule ended [] = ended
rest_rule ended (byte ∷ []) = Some 1
rest_rule ended (byte ∷ next ∷ rest) = if nat_lt byte 2 then Some 2 else Some 1

-- the first fault of blocks, and of the rest after them
abbrev pub faults_over : {S : Type 0} → Rules S → S → ℕ → List (List ℕ) → List ℕ → Option GrammarFault
faults_over rules state place [] rest = at_place place (rest_rule (rules.ended state place) rest)
faults_over rules state place (piece ∷ pieces) rest =
    option_or
    (at_place place (rules.broken state place piece))
    (faults_over rules (rules.after state place piece) (place + length piece) pieces rest)

-- the first fault of bytes that stand at a place, after blocks that left this state
unfoldable pub faults_from : {S : Type 0} → Rules S → S → ℕ → List ℕ → Option GrammarFault
faults_from rules state place bytes = faults_over rules state place (chop bytes).pieces (chop bytes).rest

-- more bytes cannot change this fault of n bytes
abbrev pub IsShown : GrammarFault → ℕ → Type 0
IsShown fault n = (fault.rule ≢ 1) × (fault.at < n)
