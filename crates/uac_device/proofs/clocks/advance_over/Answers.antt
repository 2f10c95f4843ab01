use Rattle.std.proofs.Common.{◌∙◌, ap, arith}
use Rattle.uac_device.specs.DeviceKept.{IsDeviationInRange}
use Rattle.uac_device.specs.DeviceTurns.{clock_after_advances, ticks_where}
use Rattle.uac_device.specs.declared.clocks.DomainClock.{DomainClock}
use Rattle.uac_device.proofs.DeviceKeptLemmas.{first_more, first_read}
use Rattle.uac_device.proofs.ListChangeLemmas.{turned_all, turned_more, untouched, untouched_holds}
use Rattle.uac_device.proofs.clocks.advance_over.Goals as goal

pub advance_one-requires-clause-range : goal.advance_one-requires-clause-range
advance_one-requires-clause-range c =
    untouched_holds (λ (k : DomainClock). IsDeviationInRange k.deviation) _ c.loop-clock.clocks c.args.clocks.now c.loop-clock.clock-index c.clock-item.result c.requires.range
    (omega arith) c.loop-clock.invariant.turned

pub loop-clock-preserved : goal.loop-clock-preserved
loop-clock-preserved c =
    let here = untouched _ c.loop-clock.clocks c.args.clocks.now c.loop-clock.clock-index c.clock-item.result c.loop-clock.invariant.turned in
    record {
      turned =
          turned_more _ c.loop-clock.clocks c.args.clocks.now c.loop-clock.clock-index c.advance_one.new.clock c.clock-item.result (omega arith)
          c.loop-clock.invariant.turned c.advance_one.ensures.clock;
      first =
          first_more c.args.domain c.args.values c.args.microframes c.args.clocks.now c.loop-clock.clock-index c.clock-item.result c.loop-clock.first c.or-first.result c.advance_one.result
          (omega arith) (c.advance_one.ensures.ticks ∙ ap (ticks_where c.args.domain c.args.values c.args.microframes) here) c.loop-clock.invariant.first c.or-first.ensures;
    }

pub returns-clause-clocks : goal.returns-clause-clocks
returns-clause-clocks c =
    turned_all (clock_after_advances c.args.domain c.args.values c.args.microframes) c.loop-clock.clocks c.args.clocks.now c.loop-clock.clock-index (omega arith) c.loop-clock.invariant.turned

pub returns-clause-ticks : goal.returns-clause-ticks
returns-clause-ticks c = c.unwrap_or.ensures ∙ first_read c.args.domain c.args.values c.args.microframes c.args.clocks.now c.loop-clock.clock-index c.loop-clock.first (omega arith) c.loop-clock.invariant.first
