use Rattle.std.proofs.Common.{◌∙◌, ◌+◌, [], ap, arith, get_or}
use Rattle.uac_units.specs.SampleRows.{sample_at}
use Rattle.uac_units.proofs.SampleRowsLemmas.{all_rows_written, has_ticks, next_has_ticks, no_rows_written, rows_written_more, stands}
use Rattle.uac_units.proofs.plain_rows.pass_rows.Goals as goal

pub loop-channel-init : goal.loop-channel-init
loop-channel-init c = no_rows_written c.args.ticks (λ channel tick. sample_at tick (get_or c.args.inputs.now (c.args.from + channel) [])) c.args.out.now

pub copy-requires-clause-given : goal.copy-requires-clause-given
copy-requires-clause-given c =
    has_ticks c.args.ticks c.args.inputs.now (c.args.from + c.loop-channel.channel) c.index-inputs-from.result c.requires.given (omega arith) c.index-inputs-from.is

pub copy-requires-clause-taken : goal.copy-requires-clause-taken
copy-requires-clause-taken c =
    next_has_ticks c.args.ticks (λ channel tick. sample_at tick (get_or c.args.inputs.now (c.args.from + channel) [])) c.loop-channel.channel c.args.out.now c.loop-channel.out c.index-out-channel.result c.loop-channel.invariant
    c.requires.taken (omega arith)

pub loop-channel-preserved : goal.loop-channel-preserved
loop-channel-preserved c =
    let input_row = stands c.args.inputs.now (c.args.from + c.loop-channel.channel) c.index-inputs-from.result (omega arith) c.index-inputs-from.is in
    rows_written_more c.args.ticks (λ channel tick. sample_at tick (get_or c.args.inputs.now (c.args.from + channel) [])) c.loop-channel.channel c.args.out.now c.loop-channel.out c.index-out-channel.result c.copy.new.self (omega arith)
    (λ tick early. c.copy.ensures.samples tick early ∙ ap (sample_at tick) input_row) c.copy.ensures.length c.loop-channel.invariant

pub returns-clause-samples : goal.returns-clause-samples
returns-clause-samples c =
    all_rows_written c.args.ticks (λ channel tick. sample_at tick (get_or c.args.inputs.now (c.args.from + channel) [])) c.loop-channel.channel c.args.out.now c.loop-channel.out c.loop-channel.invariant (omega arith)
