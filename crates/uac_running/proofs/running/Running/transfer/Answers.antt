use Rattle.std.proofs.Common.{◌∙◌, ap, sym, subst, refl, Some}
use Rattle.std.specs.Option.{option_map}
use Rattle.uac_device.specs.DeviceKept.{begun_fields}
use Rattle.uac_running.specs.RunningKept.{RunningFields, RunningStands}
use Rattle.uac_running.proofs.RunningTransfersLemmas.{begun_over, begun_stand, came_back, transfer_stands}
use Rattle.uac_running.specs.contracts.running.Running.{the_view}
use Rattle.uac_running.proofs.running.Running.transfer.Goals as goal

pub follow-requires : goal.follow-requires
follow-requires c =
    begun_over c.args.setup.now c.args.sent.now _ _ _ c.began-began.result c.function.result.now c.transfer-came.ensures.made.transfer.answered
    (ap (option_map begun_fields) c.new-link.ensures.began) (ap (option_map begun_fields) c.began-began.ensures)
    (sym c.transfer-came.ensures.made.function ∙ sym c.function.ensures)

pub returns-clause-stands : goal.returns-clause-stands
returns-clause-stands c meters r stands =
    let own = subst (λ (p : RunningFields). RunningStands p meters r) (sym c.self.view_is) stands in
    let fault = ap Some (c.new-link.ensures.fault ∙ c.take-fault.ensures.value) in
    let after : RunningFields = record (the_view c.self.inside) {
      device = c.transfer-came.new.link.device.now;
      view = c.transfer-came.new.self;
      breaks = c.take-fault.new.self;
      streaming = c.follow.new.streaming;
    } in
    transfer_stands meters r (the_view c.self.inside) after c.args.setup.now c.args.sent.now _ _ _ own c.new-link.ensures.device fault c.transfer-came.ensures.made refl
    c.take-fault.ensures.after (record { configuration = refl; jacks = refl; counts = refl; time = refl; detail = refl; renders = refl })
    (begun_stand meters r (the_view c.self.inside) after c.args.setup.now c.args.sent.now _ _ _ own c.new-link.ensures.device fault c.transfer-came.ensures.made
    c.follow.new.streaming c.began-began.result c.function.result.now (ap (option_map begun_fields) c.began-began.ensures)
    (ap (option_map begun_fields) c.new-link.ensures.began) c.function.ensures c.follow.ensures)

pub returns-clause-came : goal.returns-clause-came
returns-clause-came c meters r stands =
    let own = subst (λ (p : RunningFields). RunningStands p meters r) (sym c.self.view_is) stands in
    let after : RunningFields = record (the_view c.self.inside) { view = c.transfer-came.new.self } in
    came_back meters r (the_view c.self.inside) after c.args.setup.now c.args.sent.now _ _ _ own c.new-link.ensures.device
    (ap Some (c.new-link.ensures.fault ∙ c.take-fault.ensures.value)) c.transfer-came.ensures.made
