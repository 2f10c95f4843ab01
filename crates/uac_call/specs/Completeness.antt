-- What a call comes to where nothing of the outside fails: what all of its input comes to, however little of that was taken (profile).
use Rattle.std.specs.Prelude.{◌≡◌, ℕ, ◌⊎◌, true, List, Option, Some}
use Rattle.uac_gen.specs.GeneratedScript.{script_of}
use Rattle.uac_units.specs.Hearing.{Reading}
use Rattle.uac_words.specs.declared.commands.Command.{Command}
use Rattle.uac_words.specs.declared.commands.Command.TheVariants as commands
use Rattle.uac_words.specs.declared.commands.Invocation.{Invocation}
use Rattle.uac_rows.specs.BusWorld.{start}
use Rattle.uac_ends.specs.declared.status.Status.{Status}
use Rattle.uac_ends.specs.declared.status.Status.TheVariants as statuses
use Rattle.uac_ends.specs.Closing.{ComesTo, HasNoFault}
use Rattle.uac_ends.specs.Outcome.{Outcome, at_end}
use Rattle.uac_listing.specs.declared.description.Description.TheVariants.{Check, Elements, Show}
use Rattle.uac_listing.specs.Outcome.{IsOutcomeOf}
use Rattle.uac_listing.specs.SettleLines.{settle_outcome}
use Rattle.uac_runner.specs.Machine.{Machine}
use Rattle.uac_runner.specs.Transcript.{outcome_of, transcript}
use Rattle.uac_fullspeed.specs.FullSpeedWorld.{full_speed_start}
use Rattle.uac_fullspeed.specs.FullSpeedMachine.{fs_machine}
use Rattle.uac_implicit.specs.Following.{pair_start}
use Rattle.uac_implicit.specs.PairMachine.{pair_machine}
use Rattle.uac_scripts.specs.BusMachine.{AreByTable, Sayings, bus_machine}
use Rattle.uac_scripts.specs.Surroundings.{Surroundings}
use Rattle.uac_call.specs.Call.{reads_all}
use Rattle.uac_call.specs.FrontPanel.{PanelComesTo}

-- a script of these bytes and no more has this outcome on a machine from this world on, by what its texts say by the table of spellings
abbrev pub ScriptComesTo : {W L : Type 0} → (Sayings → Machine W L) → W → List ℕ → Outcome → Type 0
ScriptComesTo machine w bytes outcome =
    (says : Sayings) × AreByTable says × (outcome_of (machine says) (transcript (machine says) w bytes at_end) ≡ outcome)

-- What a command comes to over an input that is these bytes and no more: `check`, `show` and `elements` say what is said of them where they
-- end, `run`, `full`, `pair` and `panel` do their lines to the end, each on its machine, `gen` does those of its number's script, and `settle` takes no
-- input.
abbrev pub InputComesTo : Command → List Reading → List ℕ → Outcome → Type 0
InputComesTo commands.Check shown bytes outcome = IsOutcomeOf Check bytes at_end outcome
InputComesTo commands.Show shown bytes outcome = IsOutcomeOf Show bytes at_end outcome
InputComesTo commands.Elements shown bytes outcome = IsOutcomeOf Elements bytes at_end outcome
InputComesTo commands.Run shown bytes outcome = ScriptComesTo bus_machine (start shown) bytes outcome
InputComesTo (commands.Gen number) shown bytes outcome = ScriptComesTo bus_machine (start shown) (script_of number) outcome
InputComesTo (commands.Full rate) shown bytes outcome = ScriptComesTo fs_machine (full_speed_start rate) bytes outcome
InputComesTo commands.Settle shown bytes outcome = settle_outcome ≡ outcome
InputComesTo (commands.Pair rate) shown bytes outcome = ScriptComesTo pair_machine (pair_start rate) bytes outcome
InputComesTo commands.Panel shown bytes outcome = PanelComesTo bytes outcome

-- the source has these bytes and no more, and no read of it failed, where the command reads it
abbrev pub HasInput : Command → List ℕ → Surroundings → Surroundings → Type 0
HasInput command bytes before after =
    reads_all command ≡ true → (before.outer.left ≡ Some bytes) × HasNoFault before.outer.reads after.outer.reads

-- Where the words ask for a command, no read and no write failed, and the whole input comes to an outcome, the call has that
-- outcome's status and wrote its whole text; or memory was wanted.
abbrev pub IsCompleteCall : Option Invocation → Surroundings → Surroundings → Status → Type 0
IsCompleteCall asked before after status =
    (words : Invocation) (bytes : List ℕ) (outcome : Outcome) → asked ≡ Some words → HasInput words.command bytes before after
    → HasNoFault before.outer.writes after.outer.writes → InputComesTo words.command before.shown bytes outcome
    → ComesTo outcome before.outer after.outer status ⊎ (status ≡ statuses.NoMemory)
