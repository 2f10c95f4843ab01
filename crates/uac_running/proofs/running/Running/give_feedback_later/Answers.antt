use Rattle.std.proofs.Common.{ap, map, sym, subst, refl}
use Rattle.uac_script.specs.Line.{phrase_mark}
use Rattle.uac_device.specs.DeviceWorld.{DeviceWorld}
use Rattle.uac_streaming.specs.StreamingWaits.{after_reports_of}
use Rattle.uac_streaming.proofs.StreamingWaitsLemmas.{reports_device}
use Rattle.uac_running.specs.RunningWorld.{streaming_of}
use Rattle.uac_running.specs.RunningKept.{RunningFields, RunningStands}
use Rattle.uac_running.proofs.EventsLemmas.{streamed}
use Rattle.uac_running.specs.contracts.running.Running.{the_view}
use Rattle.uac_running.proofs.running.Running.give_feedback_later.Goals as goal

pub returns : goal.returns
returns c meters r later stands function given =
    let marks = map phrase_mark c.args.marks.now in
    let own = subst (λ (p : RunningFields). RunningStands p meters r) (sym c.self.view_is) stands in
    streamed meters r (the_view c.self.inside) _ own (after_reports_of marks later (streaming_of r))
    (c.give_feedback_later.ensures (streaming_of r) later own.streaming function given)
    (ap (λ (v : DeviceWorld). v.domains) (reports_device marks later (streaming_of r))) refl refl refl refl refl
    (record { view = refl; configuration = refl; breaks = refl })
