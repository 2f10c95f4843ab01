use Rattle.std.proofs.Common.{◌∷◌, ◌∙◌, [], ap, rules, ℤ, FitsSigned, w32}
use Rattle.std.proofs.lemmas.Int.{to_z-of_z}
use Rattle.uac_flow.specs.FlowTicks.{in_after_ticks}
use Rattle.uac_units.specs.SampleRows.{sample_at}
use Rattle.uac_flow.proofs.FlowTicksLemmas.{put_next, put_none}
use Rattle.uac_flow.proofs.inward.InFlow.put_only.Goals as goal

pub loop-tick-init : goal.loop-tick-init
loop-tick-init c = (
  λ i stands. put_none c.args.ring.now c.args.self.now (λ tick. sample_at tick c.args.row.now ∷ []) i stands,
  c.requires.sound,
)

pub loop-tick-preserved : goal.loop-tick-preserved
loop-tick-preserved c =
    let fits : FitsSigned w32 c.sample.result = search rules in (
      λ i stands.
          put_next c.put_mono.new.ring c.args.self.now (λ tick. sample_at tick c.args.row.now ∷ []) c.loop-tick.tick i _
          (ap (λ (s : ℤ). s ∷ []) (to_z-of_z w32 c.sample.result fits ∙ c.sample.ensures))
          (c.put_mono.ensures.stands (in_after_ticks (λ tick. sample_at tick c.args.row.now ∷ []) c.loop-tick.tick i) (c.loop-tick.invariant.0 i stands)),
      c.put_mono.ensures.sound,
    )
