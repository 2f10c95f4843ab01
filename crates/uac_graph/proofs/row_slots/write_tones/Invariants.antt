use Rattle.std.proofs.Common.{◌≡◌, ◌+◌, ◌<◌, ℕ, length}
use Rattle.uac_pcm.specs.Tones.{tone_frame}
use Rattle.uac_units.specs.Hearing.{at_most_u64}
use Rattle.uac_units.specs.SampleRows.{frame_at, row_lengths}
use Rattle.uac_graph.proofs.row_slots.write_tones.Given as goal

abbrev pub invariant-loop-tick : goal.invariant-loop-tick
invariant-loop-tick l = record {
  sized : length l.frame.items ≡ length l.initial.rows;
  frames : (tick : ℕ) → tick < l.tick → frame_at tick l.rows ≡ tone_frame (length l.initial.rows) l.tone (at_most_u64 (l.place + tick));
  lengths : row_lengths l.rows ≡ row_lengths l.initial.rows;
}
