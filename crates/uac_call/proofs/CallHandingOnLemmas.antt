-- From what a call was to come to, to what it comes to once all that waits in the sink was to be handed on.
use Rattle.std.proofs.Common.{◌≡◌, ◌≢◌, ℕ, inl, inr, List, Option, None, Some, sym, subst, ◌∙◌}
use Rattle.std.specs.Prelude.{⊤}
use Rattle.std.specs.Io.KnownBytes.{Keeps}
use Rattle.uac_edges.specs.Faults.{Rose}
use Rattle.uac_units.specs.Hearing.{Reading}
use Rattle.uac_words.specs.declared.commands.Command.{Command}
use Rattle.uac_words.specs.declared.commands.Command.TheVariants as commands
use Rattle.uac_words.specs.declared.commands.Invocation.{Invocation}
use Rattle.uac_rows.specs.BusWorld.{meters_in, start}
use Rattle.uac_ends.specs.declared.status.Status.{Status}
use Rattle.uac_ends.specs.declared.status.Status.TheVariants as statuses
use Rattle.uac_ends.specs.Closing.{HasWriteCause, IsClosed}
use Rattle.uac_ends.specs.HandingOn.{HandsOn}
use Rattle.uac_ends.specs.Outcome.{Outcome, no_memory}
use Rattle.uac_ends.specs.Outside.{Outside, outside}
use Rattle.uac_ends.proofs.ClosingLemmas.{closes_faultless}
use Rattle.uac_ends.proofs.HandingOnLemmas.{closes_on, status_before}
use Rattle.uac_listing.specs.declared.description.Description.{Description}
use Rattle.uac_listing.specs.SettleLines.{settle_outcome}
use Rattle.uac_runner.specs.Transcript as runner
use Rattle.uac_runner.proofs.HandingOnLemmas.{run_on}
use Rattle.uac_fullspeed.specs.FullSpeedWorld.{full_speed_start}
use Rattle.uac_fullspeed.specs.FullSpeedMachine.{fs_machine}
use Rattle.uac_implicit.specs.Following.{pair_start}
use Rattle.uac_implicit.specs.PairMachine.{pair_machine}
use Rattle.uac_scripts.specs.BusMachine.{bus_machine}
use Rattle.uac_scripts.specs.BusRun.{IsBusRun}
use Rattle.uac_scripts.specs.Surroundings.{Surroundings, surroundings, with_source}
use Rattle.uac_status.specs.Desks.{desk_machine_by, desk_start}
use Rattle.uac_call.specs.Benches.{RunsAtFullSpeed, RunsOnPair}
use Rattle.uac_call.specs.Call.{AreAnswered, ComesOfCommand, Describes, IsCall, IsGenerated, PrintsAlone, usage}
use Rattle.uac_call.specs.FrontPanel.{RunsOnPanel}

-- ---- what was to come

module _ (shown : List Reading) (m w' : Option (List ℕ)) (g f' : ℕ) (status status' : Status) (kept : Keeps m w') (ends : HandsOn status g f' status') where
  bus_on : (before : Surroundings) (left : Option (List ℕ)) (reads : ℕ) → IsBusRun before (surroundings (outside left reads m g) shown) status
      → IsBusRun before (surroundings (outside left reads w' f') shown) status'
  unfolding run_on
  bus_on before left reads bus = record {
    says = bus.says;
    by_table = bus.by_table;
    run = run_on (bus_machine bus.says) (start before.shown) (λ w. shown ≡ meters_in w) before.outer left reads m w' g f' status status' kept ends bus.run;
    as_said = bus.as_said;
    promised = bus.promised;
    within_a_line = bus.within_a_line;
    read_back = bus.read_back;
  }

  full_on : (rate : ℕ) (before : Surroundings) (left : Option (List ℕ)) (reads : ℕ) → RunsAtFullSpeed rate before (surroundings (outside left reads m g) shown) status
      → RunsAtFullSpeed rate before (surroundings (outside left reads w' f') shown) status'
  unfolding run_on
  full_on rate before left reads ran = record {
    says = ran.says;
    by_table = ran.by_table;
    run = run_on (fs_machine ran.says) (full_speed_start rate) (λ w. ⊤) before.outer left reads m w' g f' status status' kept ends ran.run;
    promised = ran.promised;
    unheard = ran.unheard;
  }

  pair_on : (rate : ℕ) (before : Surroundings) (left : Option (List ℕ)) (reads : ℕ) → RunsOnPair rate before (surroundings (outside left reads m g) shown) status
      → RunsOnPair rate before (surroundings (outside left reads w' f') shown) status'
  unfolding run_on
  pair_on rate before left reads ran = record {
    says = ran.says;
    by_table = ran.by_table;
    run = run_on (pair_machine ran.says) (pair_start rate) (λ w. ⊤) before.outer left reads m w' g f' status status' kept ends ran.run;
    promised = ran.promised;
    near = ran.near;
    unheard = ran.unheard;
  }

  panel_on : (before : Surroundings) (left : Option (List ℕ)) (reads : ℕ) → RunsOnPanel before (surroundings (outside left reads m g) shown) status
      → RunsOnPanel before (surroundings (outside left reads w' f') shown) status'
  unfolding run_on
  panel_on before left reads ran = record {
    says = ran.says;
    by_table = ran.by_table;
    run = run_on (desk_machine_by ran.says) desk_start (λ w. ⊤) before.outer left reads m w' g f' status status' kept ends ran.run;
    agreed = ran.agreed;
    told = ran.told;
    unheard = ran.unheard;
  }

  prints_on : (outcome : Outcome) (before : Surroundings) (left : Option (List ℕ)) (reads : ℕ) → PrintsAlone outcome before (surroundings (outside left reads m g) shown) status
      → PrintsAlone outcome before (surroundings (outside left reads w' f') shown) status'
  prints_on outcome before left reads prints = record {
    closed = closes_on outcome before.outer.written m w' before.outer.writes g f' status status' kept ends prints.closed;
    untouched = record { left = prints.untouched.left; reads = prints.untouched.reads };
    unheard = prints.unheard;
  }

  describes_on : (description : Description) (before : Surroundings) (left : Option (List ℕ)) (reads : ℕ)
      → Describes description before (surroundings (outside left reads m g) shown) status → Describes description before (surroundings (outside left reads w' f') shown) status'
  describes_on description before left reads describes =
      let said = describes.described in
      record {
        described = record {
          taken = said.taken;
          end = said.end;
          outcome = said.outcome;
          consumed = said.consumed;
          ended = said.ended;
          prompt = said.prompt;
          meant = said.meant;
          closed = closes_on said.outcome before.outer.written m w' before.outer.writes g f' status status' kept ends said.closed;
        };
        unheard = describes.unheard;
      }

  module _ (before : Surroundings) (left : Option (List ℕ)) (reads : ℕ) where
    abbrev mid : Surroundings
    mid = surroundings (outside left reads m g) shown

    abbrev last : Surroundings
    last = surroundings (outside left reads w' f') shown

    done_on : (command : Command) → ComesOfCommand command before mid status → ComesOfCommand command before last status'
    done_on commands.Check describes = describes_on _ before left reads describes
    done_on commands.Show describes = describes_on _ before left reads describes
    done_on commands.Elements describes = describes_on _ before left reads describes
    done_on commands.Run bus = bus_on before left reads bus
    done_on (commands.Gen number) generated = record {
      unread = generated.unread;
      run = bus_on _ generated.unread 0 generated.run;
      untouched = record { left = generated.untouched.left; reads = generated.untouched.reads };
    }
    done_on (commands.Full rate) (inl ran) = inl (full_on rate before left reads ran)
    done_on (commands.Full rate) (inr prints) = inr (prints_on no_memory before left reads prints)
    done_on commands.Settle prints = prints_on settle_outcome before left reads prints
    done_on (commands.Pair rate) (inl ran) = inl (pair_on rate before left reads ran)
    done_on (commands.Pair rate) (inr prints) = inr (prints_on no_memory before left reads prints)
    done_on commands.Panel ran = panel_on before left reads ran

    answered_on : (asked : Option Invocation) → AreAnswered asked before mid status → AreAnswered asked before last status'
    answered_on None prints = prints_on usage before left reads prints
    answered_on (Some words) answered = done_on words.command answered

    pub call_on : (asked : Option Invocation) → IsCall asked before mid status → IsCall asked before last status'
    call_on asked (inl answered) = inl (answered_on asked answered)
    call_on asked (inr prints) = inr (prints_on no_memory before left reads prints)

-- ---- its faults

module _ (before after : Surroundings) (status : Status) (other : status ≢ statuses.WriteFault) where
  -- no write failed, so none met a fault
  quiet : (outcome : Outcome) → IsClosed outcome before.outer after.outer status → after.outer.writes ≡ before.outer.writes
  quiet outcome closed = closes_faultless outcome before.outer.written after.outer.written before.outer.writes after.outer.writes status closed other

  bus_quiet : (bus : IsBusRun before after status) → after.outer.writes ≡ before.outer.writes
  bus_quiet bus = quiet (runner.outcome_of (bus_machine bus.says) bus.run.ending) bus.run.closed

  done_quiet : (command : Command) → ComesOfCommand command before after status → after.outer.writes ≡ before.outer.writes
  done_quiet commands.Check describes = quiet describes.described.outcome describes.described.closed
  done_quiet commands.Show describes = quiet describes.described.outcome describes.described.closed
  done_quiet commands.Elements describes = quiet describes.described.outcome describes.described.closed
  done_quiet commands.Run bus = bus_quiet bus
  done_quiet (commands.Gen number) generated = let run = generated.run.run in quiet (runner.outcome_of (bus_machine generated.run.says) run.ending) run.closed
  done_quiet (commands.Full rate) (inl ran) = quiet (runner.outcome_of (fs_machine ran.says) ran.run.ending) ran.run.closed
  done_quiet (commands.Full rate) (inr prints) = quiet no_memory prints.closed
  done_quiet commands.Settle prints = quiet settle_outcome prints.closed
  done_quiet (commands.Pair rate) (inl ran) = quiet (runner.outcome_of (pair_machine ran.says) ran.run.ending) ran.run.closed
  done_quiet (commands.Pair rate) (inr prints) = quiet no_memory prints.closed
  done_quiet commands.Panel ran = quiet (runner.outcome_of (desk_machine_by ran.says) ran.run.ending) ran.run.closed

  answered_quiet : (asked : Option Invocation) → AreAnswered asked before after status → after.outer.writes ≡ before.outer.writes
  answered_quiet None prints = quiet usage prints.closed
  answered_quiet (Some words) answered = done_quiet words.command answered

  call_quiet : (asked : Option Invocation) → IsCall asked before after status → after.outer.writes ≡ before.outer.writes
  call_quiet asked (inl answered) = answered_quiet asked answered
  call_quiet asked (inr prints) = quiet no_memory prints.closed

-- a failed write has its cause in the call
pub write_fault_on : (asked : Option Invocation) (before after : Surroundings) (f' : ℕ) (status status' : Status) → HandsOn status after.outer.writes f' status'
    → IsCall asked before after status → HasWriteCause before.outer after.outer status → status' ≡ statuses.WriteFault → Rose before.outer.writes f'
write_fault_on asked before after f' status status' (inl same) call cause is =
    subst (λ (n : ℕ). Rose before.outer.writes n) (sym same.1) (cause (sym same.0 ∙ is))
write_fault_on asked before after f' status status' (inr fault) call cause is =
    subst (λ (n : ℕ). Rose n f') (call_quiet before after status fault.0 asked call) fault.2
