use Rattle.std.proofs.Common.{◌≡◌, length}
use Rattle.uac_status.specs.Panels.{PanelWorld}
use Rattle.uac_status.specs.FrontKept.{FrontStands}
use Rattle.uac_status.proofs.FrontFollowLemmas.{SoFar}
use Rattle.uac_status.proofs.front.Front.follow_waiting.Given as goal

abbrev pub invariant-loop-message : goal.invariant-loop-message
invariant-loop-message g l = record {
  told : (w : PanelWorld) → FrontStands l.initial.self w → SoFar w l.self (g.K.Sink.written l.fn.sink) (g.K.Sink.written l.sink);
  faultless : g.K.Sink.faults l.sink ≡ g.K.Sink.faults l.fn.sink;
}

abbrev pub decreases-loop-message : goal.decreases-loop-message
decreases-loop-message g l = length l.self.pending
