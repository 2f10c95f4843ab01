use Rattle.std.proofs.Common.{arith}
use Rattle.uac_device.proofs.ListChangeLemmas.{turned_all, turned_more}
use Rattle.uac_device.proofs.derived.renew.Goals as goal

pub loop-rate-preserved : goal.loop-rate-preserved
loop-rate-preserved c =
    turned_more _ c.loop-rate.rates c.args.rates.now c.loop-rate.rate-index c.renew_one.new.rate _ (omega arith)
    c.loop-rate.invariant c.renew_one.ensures

pub returns : goal.returns
returns c = turned_all _ c.loop-rate.rates c.args.rates.now c.loop-rate.rate-index (omega arith) c.loop-rate.invariant
