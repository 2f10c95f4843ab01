-- From what was done on a desk to what the command `panel` comes to.
use Rattle.std.proofs.Common.{◌≡◌, ℕ, List, refl}
use Rattle.std.specs.Prelude.{⊤}
use Rattle.uac_units.specs.Hearing.{Reading}
use Rattle.uac_words.specs.declared.commands.Command.{Command}
use Rattle.uac_words.specs.declared.commands.Command.TheVariants as commands
use Rattle.uac_ends.specs.declared.status.Status.{Status}
use Rattle.uac_ends.specs.Outside.{Outside}
use Rattle.uac_runner.specs.Run.{Runs}
use Rattle.uac_status.specs.DeskPhrases.{DeskSaysOnce, desk_answer}
use Rattle.uac_status.specs.Desks.{desk_machine_by, desk_start}
use Rattle.uac_status.specs.DeskLaws.{AreByPanelTable, MessagesTellAllInLines, PanelLinesAgree}
use Rattle.uac_scripts.specs.Surroundings.{Surroundings, surroundings}
use Rattle.uac_call.specs.Performing.{Performs}

by_table : DeskSaysOnce → AreByPanelTable desk_answer
by_table once text = (once text).says

module _ (shown : List Reading) (before after : Outside) (status : Status) where
  -- a script was run
  pub panel_performs : DeskSaysOnce → PanelLinesAgree → MessagesTellAllInLines → Runs (desk_machine_by desk_answer) desk_start (λ w. ⊤) before after status
      → Performs commands.Panel (surroundings before shown) (surroundings after shown) status
  panel_performs once agreed told ran = record {
    done = record {
      says = desk_answer;
      by_table = by_table once;
      run = ran.run;
      agreed = agreed desk_answer ran.run.lived.texts (by_table once);
      told = told desk_answer ran.run.lived.texts (by_table once);
      unheard = refl;
    };
    read_fault = ran.read_fault;
    write_fault = ran.write_fault;
    faultless = ran.faultless;
    ok = (λ reads. ran.ok);
  }
