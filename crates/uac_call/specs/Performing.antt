-- What a command comes to with one rack, before what waits in the sink is handed on.
use Rattle.std.specs.Prelude.{◌≡◌, true}
use Rattle.uac_words.specs.declared.commands.Command.{Command}
use Rattle.uac_ends.specs.declared.status.Status.{Status}
use Rattle.uac_ends.specs.Closing.{HasReadCause, HasWriteCause, IsFaultless, IsReadToEnd}
use Rattle.uac_scripts.specs.Surroundings.{Surroundings}
use Rattle.uac_call.specs.Call.{ComesOfCommand, reads_all}

-- the command was done, each fault of the outside has its cause, and where none is told none was met; and what reads all did so
pub record Performs (command : Command) (before after : Surroundings) (status : Status) : Type 0 where
  pub done : ComesOfCommand command before after status
  pub read_fault : HasReadCause before.outer after.outer status
  pub write_fault : HasWriteCause before.outer after.outer status
  pub faultless : IsFaultless before.outer after.outer status
  pub ok : reads_all command ≡ true → IsReadToEnd after.outer status
