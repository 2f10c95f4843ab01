-- How far a reader has come: the blocks that it has read one after the other, none of which breaks a rule.
use Rattle.std.specs.Prelude.{◌≡◌, ℕ, ◌+◌, List, [], ◌∷◌, length, None}
use Rattle.uac_descriptor.specs.declared.context.Context.TheVariants as context
use Rattle.uac_descriptor.specs.declared.block.Block as block
use Rattle.uac_descriptor.specs.Spelling.{spelling}
use Rattle.uac_grammar_rules.specs.declared.states.State.{State}
use Rattle.uac_grammar_rules.specs.Grammar.{start, state_after, rule_broken}
use Rattle.uac_grammar_rules.specs.Sentence.{EachIn, SpellsItself, size}

-- the state after blocks that begin at a place
abbrev pub state_following : State → ℕ → List block.Block → State
state_following s place [] = s
state_following s place (b ∷ blocks) = state_following (state_after s place b) (place + length (spelling b)) blocks

-- none of these blocks breaks a rule
abbrev pub BreakNone : State → ℕ → List block.Block → Type 0
BreakNone s place [] = Unit {0}
BreakNone s place (b ∷ blocks) =
    (rule_broken s place (length (spelling b)) b ≡ None) × BreakNone (state_after s place b) (place + length (spelling b)) blocks

-- the blocks were read from the start, and left this state at this place
pub record HasRead (blocks : List block.Block) (s : State) (place : ℕ) : Type 0 where
  pub stand : EachIn SpellsItself context.DeviceFront blocks
  pub unbroken : BreakNone start 0 blocks
  pub state_is : s ≡ state_following start 0 blocks
  pub place_is : place ≡ size blocks
