-- What the bytes of a block so far come to, whatever follows them.
use Rattle.std.proofs.Common.{◌≡◌, ◌≢◌, ◌≤◌, ◌<◌, ℕ, Bool, true, false, List, [], ◌∷◌, ◌++◌, length, refl, ap, ◌∙◌, arith, Option, Some, None, inl, inr}
use Rattle.std.proofs.lemmas.Bool.{cases_lt}
use Rattle.std.specs.Prelude.{slice_index}
use Rattle.uac_descriptor.specs.BlockParsing.{block_of}
use Rattle.uac_descriptor.specs.declared.block.Block.{Block}
use Rattle.uac_grammar_rules.specs.Cutting.{IsPiece}
use Rattle.uac_grammar_rules.specs.Fault.{at_place, faults_from}
use Rattle.uac_grammar_rules.specs.Grammar.{grammar, least, rule_broken, rule_at_end}
use Rattle.uac_grammar_rules.specs.declared.states.State.{State}
use Rattle.uac_grammar_rules.proofs.ProgressLemmas.{fault_unread, fault_broken, fault_short, fault_lone, fault_partial, fault_at_end}
use Rattle.uac_grammar.specs.ReaderKept.{IsPartial}
use Rattle.uac_grammar.specs.Verdict.{Shows}

-- ---- blocks

pub piece_is : (bytes : List ℕ) → 2 ≤ slice_index bytes 0 → slice_index bytes 0 ≤ length bytes → (2 < length bytes → length bytes ≤ slice_index bytes 0)
    → IsPiece bytes
piece_is bytes two long no_more = (
  two,
  elim (cases_lt 2 (length bytes)) [
    | inl more ↦ (let most = no_more more in omega arith)
    | inr few ↦ omega arith
  ],
)

-- the rules of a table that isn't broken at G1
least_not_one : (a b c d e f : Bool) (rule : ℕ) → least ((4, a) ∷ (5, b) ∷ (6, c) ∷ (7, d) ∷ (8, e) ∷ (9, f) ∷ []) ≡ Some rule → rule ≢ 1
least_not_one true b c d e f rule is one = cc
least_not_one false true c d e f rule is one = cc
least_not_one false false true d e f rule is one = cc
least_not_one false false false true e f rule is one = cc
least_not_one false false false false true f rule is one = cc
least_not_one false false false false false true rule is one = cc
least_not_one false false false false false false rule is one = cc

broken_not_one : (s : State) (place size : ℕ) (b : Block) (rule : ℕ) → rule_broken s place size b ≡ Some rule → rule ≢ 1
unfolding rule_broken
broken_not_one s place size b rule is = least_not_one _ _ _ _ _ _ rule is

-- a rule above the first isn't the first
above_one : (rule : ℕ) → 1 < rule → rule ≢ 1
above_one rule above e = absurd (omega (arith, above, e))

-- a length below 2
pub short_shows : (s : State) (place : ℕ) (bytes : List ℕ) → 2 ≤ length bytes → slice_index bytes 0 < 2 → Shows s place bytes (record { rule = 2; at = place })
short_shows s place [] two below = absurd (omega arith)
short_shows s place (size ∷ []) two below = absurd (omega arith)
short_shows s place (size ∷ kind ∷ more) two below = record {
  first = λ (rest : List ℕ). fault_short s place size kind (more ++ rest) below;
  shown = (above_one 2 (omega arith), omega arith);
}

-- a block that its row doesn't read
pub none_read : (read found : Option Block) → found ≡ read → ((b : Block) → found ≡ Some b → ⊥) → read ≡ None
none_read None found e not = refl
none_read (Some b) found e not = absurd (not b e)

pub unread_shows : (s : State) (place : ℕ) (bytes : List ℕ) → IsPiece bytes → block_of s.context bytes ≡ None
    → Shows s place bytes (record { rule = 3; at = place })
unread_shows s place bytes piece unread = record {
  first = λ (rest : List ℕ). fault_unread s place bytes rest piece unread;
  shown = (above_one 3 (omega arith), let two = piece.0 in let count = piece.1 in omega (arith, two, count));
}

-- a block that breaks a rule
pub broken_shows : (s : State) (place : ℕ) (bytes : List ℕ) (b : Block) (rule : ℕ) → IsPiece bytes → block_of s.context bytes ≡ Some b
    → rule_broken s place (length bytes) b ≡ Some rule → Shows s place bytes (record { rule = rule; at = place })
broken_shows s place bytes b rule piece read broken = record {
  first = λ (rest : List ℕ). fault_broken s place bytes rest b rule piece read broken;
  shown = (broken_not_one s place (length bytes) b rule broken, let two = piece.0 in let count = piece.1 in omega (arith, two, count));
}

-- ---- blocks that aren't whole

pub partial_one : (bytes : List ℕ) → length bytes < 2 → IsPartial bytes
partial_one bytes few = record {
  long_enough = λ (two : 2 ≤ length bytes). absurd (omega (arith, few, two));
  not_whole = λ (two : 2 ≤ length bytes). absurd (omega (arith, few, two));
  short = omega (arith, few);
}

-- ---- the end

-- a block that is cut off
pub pending_faults : (s : State) (place : ℕ) (pending : List ℕ) → IsPartial pending → 0 < length pending
    → faults_from grammar s place pending ≡ Some (record { rule = 1; at = place })
pending_faults s place [] partial some = absurd (omega arith)
pending_faults s place (x ∷ []) partial some = fault_lone s place x
pending_faults s place (x ∷ y ∷ more) partial some =
    fault_partial s place x y more (partial.long_enough (omega arith)) (partial.not_whole (omega arith))

pub end_breaks : (s : State) (place : ℕ) (pending : List ℕ) (rule : ℕ) → pending ≡ [] → rule_at_end s place ≡ Some rule
    → faults_from grammar s place pending ≡ Some (record { rule = rule; at = place })
end_breaks s place pending rule none broken =
    ap (faults_from grammar s place) none ∙ (fault_at_end s place ∙ ap (at_place place) broken)

pub end_fine : (s : State) (place : ℕ) (pending : List ℕ) → pending ≡ [] → rule_at_end s place ≡ None → faults_from grammar s place pending ≡ None
end_fine s place pending none fine =
    ap (faults_from grammar s place) none ∙ (fault_at_end s place ∙ ap (at_place place) fine)
