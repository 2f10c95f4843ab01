use Rattle.std.proofs.Common.{◌≡◌}
use Rattle.std.specs.Io.KnownBytes.{Appends}
use Rattle.uac_fullspeed.specs.FullSpeedWorld.{FullSpeedWorld, bus_frames}
use Rattle.uac_fullspeed.specs.FullSpeedLines.{fs_text_of, frames_lines}
use Rattle.uac_fullspeed.specs.FullSpeedKept.{FsRunStandsBetween}
use Rattle.uac_fullspeed.proofs.run.FsRun.frames.Given as goal

abbrev pub invariant-loop-passed : goal.invariant-loop-passed
invariant-loop-passed g l = record {
  told : (w : FullSpeedWorld) → FsRunStandsBetween l.initial.self w
      → Appends (g.K.Sink.written l.fn.sink) (g.K.Sink.written l.sink) (fs_text_of (frames_lines l._passed l.packet_lost l.report_lost w))
      × FsRunStandsBetween l.self (bus_frames l._passed l.packet_lost l.report_lost w);
  faultless : g.K.Sink.faults l.sink ≡ g.K.Sink.faults l.fn.sink;
}
