use Rattle.std.proofs.Common.{sym, subst}
use Rattle.uac_rate.specs.Steadiness.{with_restart_given}
use Rattle.uac_streaming.specs.StreamingKept.{StreamingFields, StreamingStands}
use Rattle.uac_streaming.specs.StreamingWorld.{given_at, stream_index}
use Rattle.uac_streaming.specs.contracts.streaming.Streaming.{the_view}
use Rattle.uac_streaming.proofs.StreamingKeptLemmas.{given_nowhere, given_there, steadied}
use Rattle.uac_streaming.proofs.streaming.Streaming.start_feedback.Goals as goal

pub returns-in-Some : goal.returns-in-Some
returns-in-Some c d w stands same =
    let here = subst (λ (p : StreamingFields). StreamingStands p d w) (sym c.self.view_is) stands in
    steadied (the_view c.self.inside) d w here c.restart.new.self (given_at (stream_index w.device.function c.args.interface) with_restart_given w.history)
    (given_there w.device.function c.args.function.now c.args.interface c.in-Some.index with_restart_given c.restart.new.self w.history same c.in-Some.ensures
    (c.restart.ensures.stands w.history here.steady))

pub returns-in-None : goal.returns-in-None
returns-in-None c d w stands same =
    steadied c.args.self.now d w stands c.args.self.now.steady (given_at (stream_index w.device.function c.args.interface) with_restart_given w.history)
    (given_nowhere w.device.function c.args.function.now c.args.interface with_restart_given c.args.self.now.steady w.history same c.in-None.ensures stands.steady)
