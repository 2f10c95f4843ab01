-- The host's pace and the clock go on by a bus frame.
use Rattle.std.proofs.Common.{arith, ◌≡◌, ◌∙◌, refl, sym, ap, subst, ℤ, w32, FitsSigned, pos, negsuc, ◌≤ℤ◌, rules}
use Rattle.std.proofs.lemmas.Int.{ints, to_z-of_z}
use Rattle.uac_fullspeed.specs.declared.values.FsNominal.{FsNominal}
use Rattle.uac_fullspeed.specs.FullSpeedNominal.{fs_step_of}
use Rattle.uac_fullspeed.specs.FullSpeedWorld.{step_next}
use Rattle.uac_fullspeed.specs.FullSpeedKept.{FsRunFields, FsRunStands, four_times}
use Rattle.uac_fullspeed.proofs.RunLemmas.{last_is, step_few, few_ticks, passed_stands, step_is}
use Rattle.uac_fullspeed.proofs.run.FsRun.pass.Goals as goal

fits_in : (z : ℤ) → negsuc 99999 ≤ℤ z → z ≤ℤ pos 100000 → FitsSigned w32 z
fits_in (pos n) low high = record { sfits = omega (arith, ints) }
fits_in (negsuc n) low high = record { sfits = omega (arith, ints) }

pub overflow_mul-step : goal.overflow_mul-step
overflow_mul-step c =
    let few = step_few c.self.inside.nominal c.self.inside.deviation c.self.invariant.of_a_rate c.self.invariant.low c.self.invariant.high in
    record { fits = omega (arith, (c.fs_step-step.ensures ∙ ap (fs_step_of c.self.inside.nominal) (to_z-of_z w32 c.self.inside.deviation (fits_in _ c.self.invariant.low c.self.invariant.high)))) }

pub returns-clause-stands : goal.returns-clause-stands
returns-clause-stands c = λ w stands.
    let s = subst (λ (p : FsRunFields). FsRunStands p w) (sym c.self.view_is) stands in
    passed_stands _ w c.args.packet_lost c.advance-ticks.new.self c.next-frames.new.self c.self.inside.value c.fs_step-step.result c.saturating_add-self-inside.result _ s
    (c.advance-ticks.ensures.stands (four_times w.steps) s.clock) (step_is _ w c.fs_step-step.result s (c.fs_step-step.ensures ∙ ap (fs_step_of c.self.inside.nominal) (to_z-of_z w32 c.self.inside.deviation (fits_in _ c.self.invariant.low c.self.invariant.high))))
    (c.next-frames.ensures.stands (four_times w.values) s.pace) s.value c.saturating_add-self-inside.ensures refl

pub returns-clause-frames : goal.returns-clause-frames
returns-clause-frames c = λ w stands.
    let s = subst (λ (p : FsRunFields). FsRunStands p w) (sym c.self.view_is) stands in
    last_is w.values w.value c.self.inside.value c.next-frames.result s.value (c.next-frames.ensures.in_packet (four_times w.values) s.pace)

pub returns-clause-ticks : goal.returns-clause-ticks
returns-clause-ticks c = λ w stands.
    let s = subst (λ (p : FsRunFields). FsRunStands p w) (sym c.self.view_is) stands in
    last_is w.steps (step_next w) c.fs_step-step.result c.advance-ticks.result (step_is _ w c.fs_step-step.result s (c.fs_step-step.ensures ∙ ap (fs_step_of c.self.inside.nominal) (to_z-of_z w32 c.self.inside.deviation (fits_in _ c.self.invariant.low c.self.invariant.high)))) (c.advance-ticks.ensures.ticks (four_times w.steps) s.clock)

pub returns-clause-few : goal.returns-clause-few
returns-clause-few c = λ w stands.
    let s = subst (λ (p : FsRunFields). FsRunStands p w) (sym c.self.view_is) stands in
    few_ticks _ w c.advance-ticks.result s c.self.invariant.of_a_rate c.self.invariant.low c.self.invariant.high
    (last_is w.steps (step_next w) c.fs_step-step.result c.advance-ticks.result (step_is _ w c.fs_step-step.result s (c.fs_step-step.ensures ∙ ap (fs_step_of c.self.inside.nominal) (to_z-of_z w32 c.self.inside.deviation (fits_in _ c.self.invariant.low c.self.invariant.high)))) (c.advance-ticks.ensures.ticks (four_times w.steps) s.clock))
