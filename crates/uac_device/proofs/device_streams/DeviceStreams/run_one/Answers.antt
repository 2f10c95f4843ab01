use Rattle.std.proofs.Common.{◌∙◌, ap, sym}
use Rattle.uac_device.proofs.DeviceStreamsRunningLemmas.{none_runs, one_runs, run_one}
use Rattle.uac_device.proofs.device_streams.DeviceStreams.run_one.Goals as goal

pub returns-clause-value : goal.returns-clause-value
returns-clause-value c outs ins keeps = c.run_one.ensures ∙ ap run_one (c.deref.ensures.value ∙ c.self.view_is) ∙ one_runs c.args.self.now outs ins keeps

pub returns-clause-none : goal.returns-clause-none
returns-clause-none c outs ins keeps none =
    none_runs c.args.self.now outs ins keeps (ap run_one (sym (c.deref.ensures.value ∙ c.self.view_is)) ∙ sym c.run_one.ensures ∙ none)
