use Rattle.std.proofs.Common.{◌≡◌, ℕ, map}
use Rattle.uac_script.specs.Line.{phrase_mark}
use Rattle.uac_device.specs.DeviceWorld.{DeviceWorld, feedback_in}
use Rattle.uac_device.specs.DeviceWaits.{feedback_later_in}
use Rattle.uac_streaming.specs.StreamingWorld.{StreamingWorld}
use Rattle.uac_streaming.specs.StreamingKept.{StreamingStands}
use Rattle.uac_streaming.proofs.StreamingReportLemmas.{Reported}
use Rattle.uac_streaming.proofs.streaming.Streaming.give_feedback_later.Given as goal

abbrev pub invariant-loop-at : goal.invariant-loop-at
invariant-loop-at l = record {
  reported : (w : StreamingWorld) (later : DeviceWorld) → StreamingStands l.initial.self l.device w → later.function ≡ w.device.function
      → ((interface : ℕ) → feedback_in later interface ≡ feedback_later_in w.device interface l.ticks)
      → Reported (map phrase_mark l.marks) later l.initial.self.order l.at w (StreamingStands l.self l.device);
  order : l.self.order ≡ l.initial.self.order;
}
