use Rattle.std.proofs.Common.{sym, subst, Option}
use Rattle.std.specs.Option.{option_map}
use Rattle.uac_device.specs.declared.streams.Begun.{Begun}
use Rattle.uac_device.specs.DeviceKept.{begun_fields}
use Rattle.uac_streaming.specs.StreamingKept.{StreamingStands}
use Rattle.uac_running.specs.RunningTransfers.{with_begun}
use Rattle.uac_running.proofs.transfers.follow.Goals as goal

pub returns-in-Some : goal.returns-in-Some
returns-in-Some c d w stands same =
    subst (λ (began : Option Begun). StreamingStands c.follow.new.self d (with_begun (option_map begun_fields began) w)) (sym c.in-Some.is)
    (c.follow.ensures d w stands same)
