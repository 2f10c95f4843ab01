-- From what a call came to, to what all of its input comes to.
use Rattle.std.proofs.Common.{◌≡◌, ◌≢◌, ℕ, ◌⊎◌, inl, inr, List, Option, Some, refl, sym, ap, subst, ◌∙◌, arith}
use Rattle.std.specs.Prelude.{⊤}
use Rattle.uac_words.specs.declared.commands.Command.{Command}
use Rattle.uac_words.specs.declared.commands.Command.TheVariants as commands
use Rattle.uac_words.specs.declared.commands.Invocation.{Invocation}
use Rattle.uac_gen.specs.GeneratedScript.{script_of}
use Rattle.uac_rows.specs.BusWorld.{meters_in, start}
use Rattle.uac_ends.specs.declared.status.Status.{Status}
use Rattle.uac_ends.specs.declared.status.Status.TheVariants as statuses
use Rattle.uac_ends.specs.Closing.{ComesTo, HasNoFault, HasWriteCause, IsClosed}
use Rattle.uac_ends.specs.Outcome.{Outcome, at_end, no_memory}
use Rattle.uac_ends.specs.Outside.{Outside}
use Rattle.uac_ends.proofs.ClosingLemmas.{closed_whole}
use Rattle.uac_listing.specs.declared.description.Description.{Description}
use Rattle.uac_listing.specs.declared.description.Description.TheVariants.{Check, Elements, Show}
use Rattle.uac_listing.specs.Outcome.{IsOutcomeOf}
use Rattle.uac_listing.specs.SettleLines.{settle_outcome}
use Rattle.uac_listing.proofs.OutcomeLemmas.{said_once}
use Rattle.uac_runner.specs.Machine.{Machine}
use Rattle.uac_runner.specs.Run.{IsRun}
use Rattle.uac_runner.specs.Transcript.{Ending, outcome_of, transcript}
use Rattle.uac_runner.proofs.WholeLemmas.{run_complete}
use Rattle.uac_fullspeed.specs.FullSpeedWorld.{full_speed_start}
use Rattle.uac_fullspeed.specs.FullSpeedMachine.{fs_machine}
use Rattle.uac_fullspeed.proofs.MachineLemmas as full_speed
use Rattle.uac_implicit.specs.Following.{pair_start}
use Rattle.uac_implicit.specs.PairMachine.{pair_machine}
use Rattle.uac_implicit.proofs.MachineLemmas as pairs
use Rattle.uac_scripts.specs.BusMachine.{AreByTable, Sayings, bus_machine}
use Rattle.uac_scripts.specs.BusRun.{IsBusRun}
use Rattle.uac_scripts.specs.Surroundings.{Surroundings, with_source}
use Rattle.uac_scripts.proofs.BusLemmas.{one_transcript}
use Rattle.uac_status.specs.Desks.{desk_machine_by, desk_start}
use Rattle.uac_status.specs.DeskLaws.{AreByPanelTable}
use Rattle.uac_status.proofs.DeskLawLemmas as panels
use Rattle.uac_call.specs.Call.{AreAnswered, ComesOfCommand, Describes, IsCall}
use Rattle.uac_call.specs.Completeness.{HasInput, InputComesTo, IsCompleteCall, ScriptComesTo}

-- a source that never failed
pub never_failed : HasNoFault 0 0
never_failed (inl less) = omega arith
never_failed (inr last) = omega arith

-- the outcome's status and its whole text, or want of memory
abbrev IsWhole : Outcome → Outside → Outside → Status → Type 0
IsWhole outcome before after status = ComesTo outcome before after status ⊎ (status ≡ statuses.NoMemory)

module _ (before after : Outside) (status : Status) (quiet : HasNoFault before.writes after.writes) where
  -- no write failed, so the whole text was written
  whole : (outcome : Outcome) → IsClosed outcome before after status → ComesTo outcome before after status
  whole outcome closed = closed_whole outcome before.written after.written before.writes after.writes status quiet closed

  -- of one outcome that is another
  whole_of : (one other : Outcome) → one ≡ other → IsClosed one before after status → IsWhole other before after status
  whole_of one other same closed = inl (subst (λ (o : Outcome). ComesTo o before after status) same (whole one closed))

  -- memory was wanted
  wanted_of : (one other : Outcome) → one.status ≡ statuses.NoMemory → IsClosed one before after status → IsWhole other before after status
  wanted_of one other is closed = inr ((whole one closed).0 ∙ is)

module _ (before after : Surroundings) (status : Status) (bytes : List ℕ) (outcome : Outcome) (quiet : HasNoFault before.outer.writes after.outer.writes) where
  described_whole : (description : Description) → Describes description before after status → before.outer.left ≡ Some bytes → HasNoFault before.outer.reads after.outer.reads
      → IsOutcomeOf description bytes at_end outcome → IsWhole outcome before.outer after.outer status
  described_whole description describes is rests said =
      let run = describes.described in
      elim run.meant as (λ _. IsWhole outcome before.outer after.outer status) [
        | inl answers ↦
            whole_of before.outer after.outer status quiet run.outcome outcome
            (said_once description bytes run.taken before.outer.left after.outer.left before.outer.reads after.outer.reads run.end run.outcome outcome is run.consumed rests run.ended answers said) run.closed
        | inr none ↦ wanted_of before.outer after.outer status quiet run.outcome outcome (ap (λ (o : Outcome). o.status) none) run.closed
      ]

  -- on any machine to which the table of spellings gives one transcript
  machine_whole : {S W L : Type 0} (ByTable : S → Type 0) (machine : S → Machine W L) (w : W)
      → ((says says' : S) → ByTable says → ByTable says' → transcript (machine says) w bytes at_end ≡ transcript (machine says') w bytes at_end)
      → ((says says' : S) (ending : Ending W L) → outcome_of (machine says) ending ≡ outcome_of (machine says') ending) → (Shows : W → Type 0) (says : S) → ByTable says → IsRun (machine says) w Shows before.outer after.outer status
      → before.outer.left ≡ Some bytes → HasNoFault before.outer.reads after.outer.reads → HasWriteCause before.outer after.outer status
      → (says' : S) → ByTable says' → outcome_of (machine says') (transcript (machine says') w bytes at_end) ≡ outcome
      → IsWhole outcome before.outer after.outer status
  machine_whole {S} {W} {L} ByTable machine w once spelt Shows says table run is rests cause says' table' said =
      let m = machine says in
      elim (run_complete m w Shows before.outer after.outer status run cause bytes is (record { read = rests; wrote = quiet })) as (λ _. IsWhole outcome before.outer after.outer status) [
        | inl came ↦
            let same : outcome_of m (transcript m w bytes at_end) ≡ outcome =
            ap (λ (e : Ending W L). outcome_of m e) (once says says' table table')
            ∙ (spelt says says' (transcript (machine says') w bytes at_end) ∙ said) in
            inl (subst (λ (o : Outcome). ComesTo o before.outer after.outer status) same came)
        | inr wanted ↦ inr wanted
      ]

  script_whole : IsBusRun before after status → before.outer.left ≡ Some bytes → HasNoFault before.outer.reads after.outer.reads → HasWriteCause before.outer after.outer status
      → ScriptComesTo bus_machine (start before.shown) bytes outcome → IsWhole outcome before.outer after.outer status
  script_whole bus is rests cause said =
      machine_whole AreByTable bus_machine (start before.shown) (λ says says' table table'. one_transcript says says' table table' (start before.shown) bytes at_end)
      (λ says says' ending. refl) (λ w. after.shown ≡ meters_in w) bus.says bus.by_table bus.run is rests cause said.0 said.1 said.2

module _ (before after : Surroundings) (status : Status) (bytes : List ℕ) (outcome : Outcome) (quiet : HasNoFault before.outer.writes after.outer.writes) where
  command_whole : (command : Command) → ComesOfCommand command before after status → HasInput command bytes before after → HasWriteCause before.outer after.outer status
      → InputComesTo command before.shown bytes outcome → IsWhole outcome before.outer after.outer status
  command_whole commands.Check describes input cause said = let i = input refl in described_whole before after status bytes outcome quiet Check describes i.0 i.1 said
  command_whole commands.Show describes input cause said = let i = input refl in described_whole before after status bytes outcome quiet Show describes i.0 i.1 said
  command_whole commands.Elements describes input cause said = let i = input refl in described_whole before after status bytes outcome quiet Elements describes i.0 i.1 said
  command_whole commands.Run bus input cause said = let i = input refl in script_whole before after status bytes outcome quiet bus i.0 i.1 cause said
  command_whole (commands.Gen number) generated input cause said =
      script_whole (with_source (Some (script_of number)) 0 before) (with_source generated.unread 0 after) status (script_of number) outcome quiet generated.run refl never_failed cause said
  command_whole (commands.Full rate) (inl ran) input cause said =
      let i = input refl in
      machine_whole before after status bytes outcome quiet AreByTable fs_machine (full_speed_start rate)
      (λ says says' table table'. full_speed.one_transcript says says' table table' (full_speed_start rate) bytes at_end)
      (λ says says' ending. refl) (λ w. ⊤) ran.says ran.by_table ran.run i.0 i.1 cause said.0 said.1 said.2
  command_whole (commands.Full rate) (inr prints) input cause said = inr (whole before.outer after.outer status quiet no_memory prints.closed).0
  command_whole (commands.Pair rate) (inl ran) input cause said =
      let i = input refl in
      machine_whole before after status bytes outcome quiet AreByTable pair_machine (pair_start rate)
      (λ says says' table table'. pairs.one_transcript says says' table table' (pair_start rate) bytes at_end)
      (λ says says' ending. refl) (λ w. ⊤) ran.says ran.by_table ran.run i.0 i.1 cause said.0 said.1 said.2
  command_whole (commands.Pair rate) (inr prints) input cause said = inr (whole before.outer after.outer status quiet no_memory prints.closed).0
  command_whole commands.Panel ran input cause said =
      let i = input refl in
      machine_whole before after status bytes outcome quiet AreByPanelTable desk_machine_by desk_start
      (λ says says' table table'. panels.panel_transcript says says' table table' desk_start bytes at_end)
      (λ says says' ending. refl) (λ w. ⊤) ran.says ran.by_table ran.run i.0 i.1 cause said.0 said.1 said.2
  command_whole commands.Settle prints input cause said = whole_of before.outer after.outer status quiet settle_outcome outcome said prints.closed

-- a call is complete
pub call_whole : (asked : Option Invocation) (before after : Surroundings) (status : Status) → IsCall asked before after status → HasWriteCause before.outer after.outer status
    → IsCompleteCall asked before after status
call_whole asked before after status (inl answered) cause words bytes outcome is input quiet said =
    command_whole before after status bytes outcome quiet words.command
    (subst (λ (x : Option Invocation). AreAnswered x before after status) is answered) input cause said
call_whole asked before after status (inr prints) cause words bytes outcome is input quiet said = inr (whole before.outer after.outer status quiet no_memory prints.closed).0
