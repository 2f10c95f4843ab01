-- The least rule that a block breaks, from tests that are each made once.
use Rattle.std.proofs.Common.{◌≡◌, ℕ, ◌+◌, Bool, true, false, ◌&&◌, ◌||◌, not, [], ◌∷◌, Some}
use Rattle.uac_descriptor.specs.declared.block.Block.{Block}
use Rattle.uac_grammar_rules.specs.declared.states.State.{State}
use Rattle.uac_grammar_rules.specs.BlockRole.{role_of}
use Rattle.uac_grammar_rules.specs.Values.{has_wrong_value}
use Rattle.uac_grammar_rules.specs.Grammar.{
  comes_again,
  end_after,
  ends_before,
  ends_list_early,
  is_out_of_order,
  is_refused,
  lacks_association,
  least,
  list_end,
  listing_after,
  lists_unknown,
  passes_list,
  passes_total,
  rule_broken,
}

-- a block that G7, G8 or G9 names is none of G6
least_named : (refused lacks unknown again : Bool) (rule : ℕ) → least ((7, lacks) ∷ (8, unknown) ∷ (9, again) ∷ []) ≡ Some rule
    → least ((6, refused && not (lacks || unknown || again)) ∷ (7, lacks) ∷ (8, unknown) ∷ (9, again) ∷ []) ≡ Some rule
least_named false lacks unknown again rule e = e
least_named true true unknown again rule e = e
least_named true false true again rule e = e
least_named true false false true rule e = e
least_named true false false false rule e = absurd (cc)

-- and where it breaks neither G4 nor G5, that rule is the least
pub rule_named : (s : State) (place size : ℕ) (b : Block) (rule : ℕ) → has_wrong_value s.context b ≡ false
    → ends_before (end_after s.end place b) (place + size) ≡ false
    → ends_before (list_end (listing_after s.listing place b)) (place + size) ≡ false
    → ends_list_early s.listing place (role_of b) ≡ false
    → least ((7, lacks_association s.stage (role_of b)) ∷ (8, lists_unknown s.stage (role_of b)) ∷ (9, comes_again s.stage (role_of b)) ∷ []) ≡ Some rule
    → rule_broken s place size b ≡ Some rule
unfolding rule_broken passes_total passes_list is_out_of_order
rule_named s place size b rule value end list early named =
    rw (value, end, list, early) (least_named (is_refused s b) (lacks_association s.stage (role_of b)) (lists_unknown s.stage (role_of b)) (comes_again s.stage (role_of b)) rule named)
