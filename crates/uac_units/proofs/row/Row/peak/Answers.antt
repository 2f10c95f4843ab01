use Rattle.std.proofs.Common.{arith, pos, subst}
use Rattle.uac_units.specs.SampleRows.{HasSamples}
use Rattle.uac_units.proofs.SilentRowsLemmas.{peak-of_silence}
use Rattle.uac_units.proofs.row.Row.peak.Goals as goal

pub returns-then-self-ticks : goal.returns-then-self-ticks
returns-then-self-ticks c =
    peak-of_silence c.args.ticks c.self.inside.silent c.args.self.now (omega (arith, c.if-self-ticks.true)) c.requires
    (subst (HasSamples c.self.inside.silent (λ tick. pos 0)) c.self.view_is c.self.invariant)
