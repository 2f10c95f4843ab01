use Rattle.std.proofs.Common.{arith, pos, rules}
use Rattle.uac_units.proofs.SampleRowsLemmas.{all_rows_written, hushed, next_has_ticks, no_rows_written, rows_written_more}
use Rattle.uac_units.proofs.row_frames.hush_rows.Goals as goal

pub loop-channel-init : goal.loop-channel-init
loop-channel-init c = no_rows_written c.args.ticks (λ channel tick. pos 0) c.args.rows.now

pub fill-requires : goal.fill-requires
fill-requires c = record {
  taken =
      next_has_ticks c.args.ticks (λ channel tick. pos 0) c.loop-channel.channel c.args.rows.now c.loop-channel.rows c.index-rows-channel.result c.loop-channel.invariant c.requires (omega arith);
}

pub loop-channel-preserved : goal.loop-channel-preserved
loop-channel-preserved c =
    rows_written_more c.args.ticks (λ channel tick. pos 0) c.loop-channel.channel c.args.rows.now c.loop-channel.rows c.index-rows-channel.result c.fill.new.self (omega arith)
    (λ tick early. c.fill.ensures.samples tick early) c.fill.ensures.length c.loop-channel.invariant

pub returns-clause-frames : goal.returns-clause-frames
returns-clause-frames c =
    hushed c.args.ticks c.loop-channel.rows c.args.rows.now (search rules)
    (all_rows_written c.args.ticks (λ channel tick. pos 0) c.loop-channel.channel c.args.rows.now c.loop-channel.rows c.loop-channel.invariant (omega arith))
