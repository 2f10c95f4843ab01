use Rattle.std.proofs.Common.{◌∙◌, ◌+◌, refl, ap, arith, sym, subst, rules, length, List, ℤ}
use Rattle.uac_units.specs.Rendering.{FitsKind, job_samples}
use Rattle.uac_units.specs.SampleRows.{HaveTicks}
use Rattle.uac_units.proofs.RenderingLemmas.{length-job_samples}
use Rattle.uac_units.proofs.SampleRowsLemmas.{fits_at, rendered_more, ticks_kept, ticks_less}
use Rattle.uac_units.proofs.unit.Unit.render_rows.Goals as goal

pub read_frame-requires : goal.read_frame-requires
read_frame-requires g c =
    let inside : HaveTicks (c.loop-tick.tick + 1) c.args.inputs.now = ticks_less (c.loop-tick.tick + 1) c.args.ticks c.args.inputs.now (omega arith) c.requires.given in
    search (rules, inside)

pub render-requires-clause-fits : goal.render-requires-clause-fits
render-requires-clause-fits g c =
    subst (λ (pins : List ℤ). FitsKind (g.Self.Unit.kind_of c.args.self.now) c.args.job.now pins) (sym c.read_frame.ensures)
    (fits_at (g.Self.Unit.kind_of c.args.self.now) c.args.job.now c.args.inputs.now 0 c.loop-tick.tick c.requires.fits)

pub write_frame-requires-clause-inside : goal.write_frame-requires-clause-inside
write_frame-requires-clause-inside g c =
    ticks_less (c.loop-tick.tick + 1) c.args.ticks c.loop-tick.out (omega arith) (ticks_kept c.args.ticks c.args.out.now c.loop-tick.out c.loop-tick.invariant.lengths c.requires.taken)

pub write_frame-requires-clause-sized : goal.write_frame-requires-clause-sized
write_frame-requires-clause-sized g c =
    ap length (c.as_slice.ensures.value ∙ c.render.ensures.samples)
    ∙ length-job_samples (g.Self.Unit.kind_of c.args.self.now) c.args.job.now c.read_frame.new.frame.items
    ∙ sym c.requires.sized
    ∙ sym c.loop-tick.auto.out

pub loop-tick-init : goal.loop-tick-init
loop-tick-init g c = record {
  samples = λ tick early. absurd (omega (arith, early));
  lengths = refl;
  counted = omega arith;
}

pub loop-tick-preserved : goal.loop-tick-preserved
loop-tick-preserved g c =
    let kind = g.Self.Unit.kind_of c.args.self.now in
    record {
      samples =
          rendered_more kind c.args.job.now c.loop-tick.tick c.args.inputs.now c.loop-tick.out c.write_frame.new.rows c.loop-tick.invariant.samples
          c.write_frame.ensures.others
          (c.write_frame.ensures.here ∙ c.as_slice.ensures.value ∙ c.render.ensures.samples ∙ ap (job_samples kind c.args.job.now) c.read_frame.ensures);
      lengths = c.write_frame.ensures.lengths ∙ c.loop-tick.invariant.lengths;
      counted = omega (arith, c.render.ensures.counted, c.loop-tick.invariant.counted);
    }

pub returns-clause-samples : goal.returns-clause-samples
returns-clause-samples g c = λ tick early. c.loop-tick.invariant.samples tick (omega (arith, early))
