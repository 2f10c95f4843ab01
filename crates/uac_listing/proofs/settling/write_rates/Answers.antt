use Rattle.std.proofs.Common.{refl}
use Rattle.uac_edges.proofs.WritingLemmas.{front_of_each, Writes-handed_on}
use Rattle.uac_listing.specs.SettleLines.{settling_line}
use Rattle.uac_listing.proofs.settling.write_rates.Goals as goal

pub returns-in_err-write_rate-clause-written : goal.returns-in_err-write_rate-clause-written
returns-in_err-write_rate-clause-written g c =
    Writes-handed_on _ (g.K.Sink.written c.args.sink.now) (g.K.Sink.written c.write_rate.new.sink) c.from_residual.result _ c.from_residual.ensures.1 (
    front_of_each _ _ _ settling_line c.args.rates.now c.loop-rate.rate-index 0 _ c.loop-rate-test.true c.loop-rate.invariant.written
    c.in_err-write_rate.ensures.written refl
    )
