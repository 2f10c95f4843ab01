-- The exit status of the process for each way in which a run ends (profile).
use Rattle.std.specs.Prelude.{ℕ}
use Rattle.uac_ends.specs.declared.status.Status.{Status}
use Rattle.uac_ends.specs.declared.status.Status.TheVariants as statuses

abbrev pub exit_number : Status → ℕ
exit_number statuses.Ok = 0
exit_number statuses.Descriptor = 1
exit_number statuses.Script = 2
exit_number statuses.Usage = 3
exit_number statuses.ReadFault = 4
exit_number statuses.WriteFault = 5
exit_number statuses.NoMemory = 6
exit_number statuses.TooLong = 7
