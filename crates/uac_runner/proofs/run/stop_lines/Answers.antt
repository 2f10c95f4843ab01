use Rattle.uac_lines.specs.declared.lines.LineStop.TheVariants as stops
use Rattle.uac_ends.proofs.ClosingLemmas.{closes_too_long, closes_read_fault}
use Rattle.uac_runner.proofs.RunLemmas.{closes_stop}
use Rattle.uac_runner.proofs.run.stop_lines.Goals as goal

pub returns-in-TooLong-clause-closed : goal.returns-in-TooLong-clause-closed
returns-in-TooLong-clause-closed g c = closes_stop _ stops.TooLong _ _ _ _ _ _ c.in-TooLong.is (closes_too_long _ _ _ _ _ c.close-in-TooLong.ensures)

pub returns-in-Failed-clause-closed : goal.returns-in-Failed-clause-closed
returns-in-Failed-clause-closed g c = closes_stop _ stops.Failed _ _ _ _ _ _ c.in-Failed.is (closes_read_fault _ _ _ _ _ c.close-in-Failed.ensures)
