-- From what was done on a bench to what the commands `full` and `pair` come to.
use Rattle.std.proofs.Common.{◌≡◌, ℕ, inl, inr, true, List, Option, Some, refl, sym, subst}
use Rattle.std.specs.Prelude.{⊤}
use Rattle.std.proofs.lemmas.Bool.{cond-true}
use Rattle.uac_clock.specs.Nominal.{is_listed}
use Rattle.uac_script.specs.LineParsing.{answer}
use Rattle.uac_units.specs.Hearing.{Reading}
use Rattle.uac_words.specs.declared.commands.Command.{Command}
use Rattle.uac_words.specs.declared.commands.Command.TheVariants as commands
use Rattle.uac_words.specs.declared.commands.RackChoice.TheVariants as racks
use Rattle.uac_words.specs.CommandLines.{IsCommandInRange}
use Rattle.uac_ends.specs.declared.status.Status.{Status}
use Rattle.uac_ends.specs.Closing.{Closes}
use Rattle.uac_ends.specs.Outcome.{no_memory}
use Rattle.uac_ends.specs.Outside.{Outside, outside}
use Rattle.uac_runner.specs.Run.{Runs}
use Rattle.uac_fullspeed.specs.FullSpeedNominal.{is_fs_listed, fs_nominal_of, fs_values_of}
use Rattle.uac_fullspeed.specs.FullSpeedWorld.{full_speed_start}
use Rattle.uac_fullspeed.specs.FullSpeedMachine.{FsFrontsKeepPromises, fs_machine}
use Rattle.uac_implicit.specs.Following.{pair_start}
use Rattle.uac_implicit.specs.PairMachine.{PairFrontsKeepPromises, PairFrontsStayNear, pair_machine}
use Rattle.uac_scripts.specs.Surroundings.{Surroundings, surroundings}
use Rattle.uac_scripts.proofs.BusLemmas.{answers_by_table}
use Rattle.uac_call.specs.Performing.{Performs}
use Rattle.uac_call.proofs.CallLemmas.{memory_refuses, printed, refused_cause, refused_end, refused_faultless, refused_unread}

pub full_listed : (rate : ℕ) → is_fs_listed rate ≡ true → fs_nominal_of rate ≡ Some (fs_values_of rate)
unfolding fs_nominal_of
full_listed rate listed = cond-true _ _ _ listed

-- the rates that commands ask for are the benches'
pub asked_full : (command : Command) (rate : ℕ) → command ≡ commands.Full rate → IsCommandInRange command → is_fs_listed rate ≡ true
asked_full command rate is range = subst IsCommandInRange is range

pub asked_pair : (command : Command) (rate : ℕ) → command ≡ commands.Pair rate → IsCommandInRange command → is_listed rate ≡ true
asked_pair command rate is range = subst IsCommandInRange is range

pub performs_as : (command other : Command) (before after : Surroundings) (status : Status) → command ≡ other → Performs other before after status → Performs command before after status
performs_as command other before after status is performs = subst (λ (c : Command). Performs c before after status) (sym is) performs

module _ (rate : ℕ) (shown : List Reading) (before after : Outside) (status : Status) where
  -- a script was run
  pub full_performs : FsFrontsKeepPromises → is_fs_listed rate ≡ true → Runs (fs_machine answer) (full_speed_start rate) (λ w. ⊤) before after status
      → Performs (commands.Full rate) (surroundings before shown) (surroundings after shown) status
  full_performs keep listed ran = record {
    done =
        inl (record {
          says = answer;
          by_table = answers_by_table;
          run = ran.run;
          promised = keep answer rate ran.run.lived.texts listed;
          unheard = refl;
        });
    read_fault = ran.read_fault;
    write_fault = ran.write_fault;
    faultless = ran.faultless;
    ok = (λ reads. ran.ok);
  }

  pub pair_performs : PairFrontsKeepPromises → PairFrontsStayNear → is_listed rate ≡ true → Runs (pair_machine answer) (pair_start rate) (λ w. ⊤) before after status
      → Performs (commands.Pair rate) (surroundings before shown) (surroundings after shown) status
  pair_performs keep near listed ran = record {
    done =
        inl (record {
          says = answer;
          by_table = answers_by_table;
          run = ran.run;
          promised = keep answer rate ran.run.lived.texts listed;
          near = near answer rate ran.run.lived.texts listed;
          unheard = refl;
        });
    read_fault = ran.read_fault;
    write_fault = ran.write_fault;
    faultless = ran.faultless;
    ok = (λ reads. ran.ok);
  }

module _ (rate : ℕ) (shown : List Reading) (left : Option (List ℕ)) (reads : ℕ) (w w' : Option (List ℕ)) (f f' : ℕ) (status : Status) (closed : Closes no_memory w w' f f' status) where
  -- there was no memory for the bench
  pub full_unmade : Performs (commands.Full rate) (surroundings (outside left reads w f) shown) (surroundings (outside left reads w' f') shown) status
  full_unmade = record {
    done = inr (printed no_memory shown left reads w w' f f' status closed);
    read_fault = refused_unread no_memory memory_refuses w w' f f' status closed reads;
    write_fault = refused_cause no_memory memory_refuses w w' f f' status closed;
    faultless = refused_faultless no_memory memory_refuses w w' f f' status closed left reads;
    ok = (λ asked is. refused_end no_memory memory_refuses w w' f f' status closed (Some (record { command = commands.Full rate; rack = racks.Plain })) left is asked);
  }

  pub pair_unmade : Performs (commands.Pair rate) (surroundings (outside left reads w f) shown) (surroundings (outside left reads w' f') shown) status
  pair_unmade = record {
    done = inr (printed no_memory shown left reads w w' f f' status closed);
    read_fault = refused_unread no_memory memory_refuses w w' f f' status closed reads;
    write_fault = refused_cause no_memory memory_refuses w w' f f' status closed;
    faultless = refused_faultless no_memory memory_refuses w w' f f' status closed left reads;
    ok = (λ asked is. refused_end no_memory memory_refuses w w' f f' status closed (Some (record { command = commands.Pair rate; rack = racks.Plain })) left is asked);
  }
