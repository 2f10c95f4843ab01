use Rattle.std.proofs.Common.{false, subst}
use Rattle.uac_request.specs.declared.setup.Setup.{Setup}
use Rattle.uac_request.specs.Requests.{setup_of}
use Rattle.uac_running.specs.RunningTransfers.{transfer}
use Rattle.uac_rows.specs.BusWorld.{step_telling}
use Rattle.uac_rows.specs.Rows.{RunsAs}
use Rattle.uac_rows.specs.BusSteps.{IsWriteCut, Reaches}
use Rattle.uac_rows.proofs.BusStepsLemmas.{cut_handed_on}
use Rattle.uac_rows.proofs.transfers.control.Goals as goal

pub returns-clause-does : goal.returns-clause-does
returns-clause-does g c = λ shown r s.
    let tells = c.in_ok-control.ensures.tells shown r s in
    subst (λ (setup : Setup).
    Reaches (step_telling (transfer setup c.args.sent.now r)) (RunsAs c.control.new.self shown) (g.K.Sink.written c.args.sink.now) (g.K.Sink.written c.control.new.sink))
    c.read-setup.ensures (tells.1, tells.0)

pub returns-in_err-control-clause-does : goal.returns-in_err-control-clause-does
returns-in_err-control-clause-does g c = λ shown r s.
    cut_handed_on (step_telling (transfer (setup_of c.args.setup) c.args.sent.now r)) false (RunsAs c.control.new.self shown)
    (g.K.Sink.written c.args.sink.now) (g.K.Sink.written c.control.new.sink) _ c.from_residual.ensures.1
    (subst (λ (setup : Setup). IsWriteCut (step_telling (transfer setup c.args.sent.now r)) (g.K.Sink.written c.args.sink.now) (g.K.Sink.written c.control.new.sink))
    c.read-setup.ensures (c.in_err-control.ensures.tells shown r s).0)
