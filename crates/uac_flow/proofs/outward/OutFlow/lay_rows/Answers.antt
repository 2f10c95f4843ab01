use Rattle.std.proofs.Common.{◌∙◌, ap, length, min, ℕ}
use Rattle.uac_alt.specs.AltStreams.{StreamFields}
use Rattle.uac_units.proofs.SampleRowsLemmas.{ticks_kept}
use Rattle.uac_flow.proofs.FlowTicksRowLemmas.{rows_given}
use Rattle.uac_flow.proofs.outward.OutFlow.lay_rows.Goals as goal

pub lay_silence-requires-clause-inside : goal.lay_silence-requires-clause-inside
lay_silence-requires-clause-inside c = ticks_kept c.args.ticks c.args.rows.now c.lay_frames.new.rows c.lay_frames.ensures.lengths c.requires.inside

pub returns-clause-frames : goal.returns-clause-frames
returns-clause-frames c = λ o stands.
    rows_given o c.args.ring.now c.lay_frames.new.rows c.lay_silence.new.rows c.args.ticks c.min-taken.result (length c.lay_frames.new.rows) stands.held
    (c.min-taken.ensures ∙ ap (λ (n : ℕ). min n c.args.ticks) (c.ready.ensures.ready o stands)) (c.lay_frames.auto.rows ∙ c.requires.channels ∙ ap (λ (s : StreamFields). s.channels) stands.stream) c.lay_frames.ensures.here
    c.lay_silence.ensures.others c.lay_silence.ensures.here
