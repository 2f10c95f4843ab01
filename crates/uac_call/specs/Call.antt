-- One call of the program, by what its words ask for (profile).
use Rattle.std.specs.Prelude.{◌≡◌, ℕ, ◌⊎◌, Bool, true, false, List, Option, None, Some}
use Rattle.uac_gen.specs.GeneratedScript.{script_of}
use Rattle.uac_words.specs.declared.commands.Command.{Command}
use Rattle.uac_words.specs.declared.commands.Command.TheVariants as commands
use Rattle.uac_words.specs.declared.commands.Invocation.{Invocation}
use Rattle.uac_words.specs.Table.{usage_line}
use Rattle.uac_ends.specs.declared.status.Status.{Status}
use Rattle.uac_ends.specs.declared.status.Status.TheVariants as statuses
use Rattle.uac_ends.specs.Closing.{IsClosed}
use Rattle.uac_ends.specs.Outcome.{Outcome, no_memory}
use Rattle.uac_ends.specs.Outside.{IsUntouched}
use Rattle.uac_listing.specs.declared.description.Description.{Description}
use Rattle.uac_listing.specs.declared.description.Description.TheVariants.{Check, Elements, Show}
use Rattle.uac_listing.specs.Answered.{IsDescribed}
use Rattle.uac_listing.specs.SettleLines.{settle_outcome}
use Rattle.uac_scripts.specs.BusRun.{IsBusRun}
use Rattle.uac_scripts.specs.Surroundings.{Surroundings, with_source}
use Rattle.uac_call.specs.Benches.{RunsAtFullSpeed, RunsOnPair}
use Rattle.uac_call.specs.FrontPanel.{RunsOnPanel}

-- the words are no command
abbrev pub usage : Outcome
usage = record { text = usage_line; status = statuses.Usage }

-- This was printed; nothing of the source was taken, and the meters heard nothing.
pub record PrintsAlone (outcome : Outcome) (before after : Surroundings) (status : Status) : Type 0 where
  pub closed : IsClosed outcome before.outer after.outer status
  pub untouched : IsUntouched before.outer after.outer
  pub unheard : after.shown ≡ before.shown

-- A descriptor was read, and this is said of it; the meters heard nothing.
pub record Describes (description : Description) (before after : Surroundings) (status : Status) : Type 0 where
  pub described : IsDescribed description before.outer after.outer status
  pub unheard : after.shown ≡ before.shown

-- `gen`: a number's script was run as from a source that has just its bytes and never fails; nothing was taken of the program's own.
pub record IsGenerated (number : ℕ) (before after : Surroundings) (status : Status) : Type 0 where
  pub unread : Option (List ℕ)
  pub run : IsBusRun (with_source (Some (script_of number)) 0 before) (with_source unread 0 after) status
  pub untouched : IsUntouched before.outer after.outer

-- what a command comes to; a bench may find no memory, before the first line
abbrev pub ComesOfCommand : Command → Surroundings → Surroundings → Status → Type 0
ComesOfCommand commands.Check before after status = Describes Check before after status
ComesOfCommand commands.Show before after status = Describes Show before after status
ComesOfCommand commands.Elements before after status = Describes Elements before after status
ComesOfCommand commands.Run before after status = IsBusRun before after status
ComesOfCommand (commands.Gen number) before after status = IsGenerated number before after status
ComesOfCommand (commands.Full rate) before after status = RunsAtFullSpeed rate before after status ⊎ PrintsAlone no_memory before after status
ComesOfCommand commands.Settle before after status = PrintsAlone settle_outcome before after status
ComesOfCommand (commands.Pair rate) before after status = RunsOnPair rate before after status ⊎ PrintsAlone no_memory before after status
ComesOfCommand commands.Panel before after status = RunsOnPanel before after status

-- what words come to: the command that they ask for is done, over either rack, and words that ask for none are told how the program is
-- used
abbrev pub AreAnswered : Option Invocation → Surroundings → Surroundings → Status → Type 0
AreAnswered None before after status = PrintsAlone usage before after status
AreAnswered (Some words) before after status = ComesOfCommand words.command before after status

-- a call of the program: words come to that, or there was no memory to read them
abbrev pub IsCall : Option Invocation → Surroundings → Surroundings → Status → Type 0
IsCall asked before after status = AreAnswered asked before after status ⊎ PrintsAlone no_memory before after status

-- the command reads the source to its end
abbrev pub reads_all : Command → Bool
reads_all commands.Check = true
reads_all commands.Show = true
reads_all commands.Elements = true
reads_all commands.Run = true
reads_all (commands.Gen number) = false
reads_all (commands.Full rate) = true
reads_all commands.Settle = false
reads_all (commands.Pair rate) = true
reads_all commands.Panel = true

-- the words ask for such a command
abbrev pub ask_to_read : Option Invocation → Bool
ask_to_read None = false
ask_to_read (Some words) = reads_all words.command
