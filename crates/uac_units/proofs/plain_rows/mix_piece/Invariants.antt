use Rattle.std.proofs.Common.{◌+◌}
use Rattle.uac_units.specs.SampleRows.{HasSamples, frame_at}
use Rattle.uac_units.proofs.RenderingMixLemmas.{mixed_front}
use Rattle.uac_units.proofs.plain_rows.mix_piece.Given as goal

abbrev pub invariant-loop-at : goal.invariant-loop-at
invariant-loop-at l = HasSamples l.count (λ tick. mixed_front l.job (frame_at (l.from + tick) l.inputs) l.channel l.at) l.sums
