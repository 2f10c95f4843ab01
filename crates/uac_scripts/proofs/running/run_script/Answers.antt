use Rattle.uac_units.specs.MeterReadings.{readings}
use Rattle.uac_script.specs.LineParsing.{answer}
use Rattle.uac_rows.specs.BusWorld.{start}
use Rattle.uac_scripts.proofs.BusLemmas.{answers_by_table, fronts_keep_promises, lines_are_sayings, lines_begin, printed_read_back}
use Rattle.uac_scripts.proofs.running.run_script.Goals as goal

pub run_script-status-requires-clause-fits : goal.run_script-status-requires-clause-fits
run_script-status-requires-clause-fits g c = (c.requires.mixer, c.requires.selector, c.requires.feature, c.requires.effect)

pub returns-clause-run : goal.returns-clause-run
returns-clause-run g c =
    let shown = readings (λ v x. (goal.Meter-dyn g (v, x)).reading_of x) c.args.meters.now in
    let ran = c.run_script-status.ensures (start shown) (c.new-bus.ensures shown) in
    record {
      says = answer;
      by_table = answers_by_table;
      run = ran.run;
      as_said = lines_are_sayings answer;
      promised = fronts_keep_promises answer shown ran.run.lived.texts answers_by_table;
      within_a_line = lines_begin answer shown ran.run.lived.texts answers_by_table;
      read_back = printed_read_back answer ran.run.lived.texts (start shown) ran.run.ending.lines ran.run.lived.printed;
    }

pub returns-clause-read_fault : goal.returns-clause-read_fault
returns-clause-read_fault g c =
    let shown = readings (λ v x. (goal.Meter-dyn g (v, x)).reading_of x) c.args.meters.now in
    (c.run_script-status.ensures (start shown) (c.new-bus.ensures shown)).read_fault

pub returns-clause-write_fault : goal.returns-clause-write_fault
returns-clause-write_fault g c =
    let shown = readings (λ v x. (goal.Meter-dyn g (v, x)).reading_of x) c.args.meters.now in
    (c.run_script-status.ensures (start shown) (c.new-bus.ensures shown)).write_fault

pub returns-clause-faultless : goal.returns-clause-faultless
returns-clause-faultless g c =
    let shown = readings (λ v x. (goal.Meter-dyn g (v, x)).reading_of x) c.args.meters.now in
    (c.run_script-status.ensures (start shown) (c.new-bus.ensures shown)).faultless

pub returns-clause-ok : goal.returns-clause-ok
returns-clause-ok g c =
    let shown = readings (λ v x. (goal.Meter-dyn g (v, x)).reading_of x) c.args.meters.now in
    (c.run_script-status.ensures (start shown) (c.new-bus.ensures shown)).ok
