use Rattle.std.proofs.Common.{◌≡◌, ◌∙◌, ◌<◌, arith, subst, sym, length, true, false}
use Rattle.std.proofs.lemmas.List.Elements.{All-more}
use Rattle.uac_device.specs.declared.device_stream.DeviceStream.{DeviceStream}
use Rattle.uac_device.proofs.DeviceAheadLemmas.{HoldsFrames, all_pass, hold_all, one_fails, waits_at}
use Rattle.uac_device.proofs.DeviceStreamsMetLemmas.{keeps_here}
use Rattle.uac_device.proofs.StreamRowsAllLemmas.{all_more}
use Rattle.uac_device.proofs.ahead.may_wait.Goals as goal

pub loop-device_stream-preserved : goal.loop-device_stream-preserved
loop-device_stream-preserved c outs ins keeps =
    let l = c.device_stream-item.result in
    let at = c.loop-device_stream.device_stream-index in
    let below : at < length c.args.device_streams.now = omega arith in
    let here = keeps_here c.args.device_streams.now outs ins at l l keeps below c.device_stream-item.is in
    let so_far = c.loop-device_stream.invariant outs ins keeps in (
      All-more (HoldsFrames ins) c.args.device_streams.now at l below so_far.0
          (subst (HoldsFrames ins) c.device_stream-item.is
          (c.may_wait.ensures.held (outs l.port.interface) (ins l.port.interface) here c.if-not-may_wait.false)),
      all_more (λ (m : DeviceStream). waits_at c.args.domain c.args.ticks outs ins m.port) c.args.device_streams.now at l l below c.device_stream-item.is
          (sym c.if-not-may_wait.false ∙ c.may_wait.ensures.value (outs l.port.interface) (ins l.port.interface) here) so_far.1,
    )

pub returns-then-not-may_wait-clause-held : goal.returns-then-not-may_wait-clause-held
returns-then-not-may_wait-clause-held c outs ins keeps waits = absurd (let clash : false ≡ true = waits in cc)

pub returns-then-not-may_wait-clause-value : goal.returns-then-not-may_wait-clause-value
returns-then-not-may_wait-clause-value c outs ins keeps =
    let l = c.device_stream-item.result in
    let at = c.loop-device_stream.device_stream-index in
    let below : at < length c.args.device_streams.now = omega arith in
    one_fails (waits_at c.args.domain c.args.ticks outs ins) c.args.device_streams.now at l below c.device_stream-item.is
    (sym c.if-not-may_wait.true
    ∙ c.may_wait.ensures.value (outs l.port.interface) (ins l.port.interface) (keeps_here c.args.device_streams.now outs ins at l l keeps below c.device_stream-item.is))

pub returns-clause-held : goal.returns-clause-held
returns-clause-held c outs ins keeps waits =
    hold_all outs ins c.args.device_streams.now c.loop-device_stream.device_stream-index (omega arith) keeps (c.loop-device_stream.invariant outs ins keeps).0

pub returns-clause-value : goal.returns-clause-value
returns-clause-value c outs ins keeps =
    all_pass (waits_at c.args.domain c.args.ticks outs ins) c.args.device_streams.now c.loop-device_stream.device_stream-index (omega arith)
    (c.loop-device_stream.invariant outs ins keeps).1
