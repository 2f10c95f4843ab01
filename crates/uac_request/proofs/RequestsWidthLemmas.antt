-- The widths of controls that have ranges.
use Rattle.std.proofs.Common.{◌≡◌, ℕ, ◌≤◌, true, unwrap_or, inl, inr, arith}
use Rattle.uac_entities.specs.declared.entity.EntityKind.{EntityKind}
use Rattle.uac_entities.specs.declared.entity.EntityKind.TheVariants as kind
use Rattle.uac_store.proofs.ControlTableLemmas.{one_or_two, some_so}
use Rattle.uac_request.specs.Requests.{Owner, by_entity, by_streaming_interface, entity_range, entity_width, has_range, width_of}

first_narrow : (k : EntityKind) → unwrap_or (entity_width k 1) 0 ≤ 4
first_narrow kind.ClockSource = omega arith
first_narrow kind.ClockSelector = omega arith
first_narrow kind.ClockMultiplier = omega arith
first_narrow kind.InputTerminal = omega arith
first_narrow kind.OutputTerminal = omega arith
first_narrow kind.Mixer = omega arith
first_narrow kind.Selector = omega arith
first_narrow kind.Feature = omega arith
first_narrow kind.Effect = omega arith

second_narrow : (k : EntityKind) → entity_range k 2 ≡ true → unwrap_or (entity_width k 2) 0 ≤ 4
second_narrow kind.ClockSource ranged = omega arith
second_narrow kind.ClockSelector ranged = omega arith
second_narrow kind.ClockMultiplier ranged = omega arith
second_narrow kind.InputTerminal ranged = cc
second_narrow kind.OutputTerminal ranged = cc
second_narrow kind.Mixer ranged = omega arith
second_narrow kind.Selector ranged = omega arith
second_narrow kind.Feature ranged = omega arith
second_narrow kind.Effect ranged = omega arith

narrow_entity : (k : EntityKind) (selector : ℕ) → entity_range k selector ≡ true → unwrap_or (entity_width k selector) 0 ≤ 4
narrow_entity k selector ranged = elim (one_or_two k selector (some_so (λ f. f.ranged) k selector ranged)) [
  | inl one ↦ rw one (first_narrow k)
  | inr two ↦ (let second : entity_range k 2 ≡ true = rw two at ranged in rw two (second_narrow k second))
]

-- a control that has ranges has at most four bytes
pub narrow_range : (o : Owner) (selector : ℕ) → has_range o selector ≡ true → unwrap_or (width_of o selector) 0 ≤ 4
narrow_range (by_entity e) selector ranged = narrow_entity e.kind selector ranged
narrow_range (by_streaming_interface s) selector ranged = cc
