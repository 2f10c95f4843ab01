use Rattle.std.proofs.Common.{◌∙◌, ◌<◌, arith, sym, length}
use Rattle.uac_device.proofs.DeviceStreamsMetLemmas.{keeps_here}
use Rattle.uac_device.proofs.StreamRowsAllLemmas.{all_more, each_one, goes_on_with, not_all}
use Rattle.uac_device.proofs.stream_rows.go_on.Goals as goal

pub loop-device_stream-preserved : goal.loop-device_stream-preserved
loop-device_stream-preserved c outs ins keeps =
    let l = c.device_stream-item.result in
    let at = c.loop-device_stream.device_stream-index in
    let below : at < length c.args.device_streams.now = omega arith in
    all_more (goes_on_with c.args.domain c.args.ticks outs ins) c.args.device_streams.now at l l below c.device_stream-item.is
    (sym c.if-not-goes_on.false
    ∙ c.goes_on.ensures (outs l.port.interface) (ins l.port.interface) (keeps_here c.args.device_streams.now outs ins at l l keeps below c.device_stream-item.is))
    (c.loop-device_stream.invariant outs ins keeps)

pub returns-then-not-goes_on : goal.returns-then-not-goes_on
returns-then-not-goes_on c outs ins keeps =
    let l = c.device_stream-item.result in
    let at = c.loop-device_stream.device_stream-index in
    let below : at < length c.args.device_streams.now = omega arith in
    not_all c.args.domain c.args.ticks outs ins c.args.device_streams.now at l l below c.device_stream-item.is
    (sym c.if-not-goes_on.true
    ∙ c.goes_on.ensures (outs l.port.interface) (ins l.port.interface) (keeps_here c.args.device_streams.now outs ins at l l keeps below c.device_stream-item.is))

pub returns : goal.returns
returns c outs ins keeps =
    each_one c.args.domain c.args.ticks outs ins c.args.device_streams.now c.loop-device_stream.device_stream-index (omega arith) (c.loop-device_stream.invariant outs ins keeps)
