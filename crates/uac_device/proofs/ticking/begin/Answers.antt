use Rattle.std.proofs.Common.{◌≡◌, ◌∙◌, ◌^◌, ◌<◌, ◌≤◌, ap, arith, get_or, length, map, refl, ℕ}
use Rattle.uac_graph.specs.Wiring.{frame_on}
use Rattle.uac_device.specs.declared.ticking.Ticked.{Ticked}
use Rattle.uac_device.specs.InterfaceStreams.{set_of_streams}
use Rattle.uac_device.specs.DeviceStreams.{IsWiredIn, is_found_dry, is_found_full, ports, stream_taken_on}
use Rattle.uac_device.proofs.DeviceStreamsFrameLemmas.{frames_all, frames_more}
use Rattle.uac_device.proofs.DeviceStreamsMetLemmas.{few_more, keeps_here, light, met_all, met_more, met_none, next_weight}
use Rattle.uac_device.proofs.DeviceStreamsChangeLemmas.{ports_turned, sound_turned, taken_keeps, turned_more, turned_none, untouched, untouched_port, untouched_sound}
use Rattle.uac_device.proofs.ticking.begin.Goals as goal

pub loop-device_stream-init : goal.loop-device_stream-init
loop-device_stream-init c = record {
  turned = turned_none _ _ _;
  frames = λ outs ins keeps id. refl;
  lengths = λ id. refl;
  inside = omega arith;
  weight = refl;
  under = λ outs ins keeps. met_none (λ p. is_found_dry c.args.domain (outs p.interface) p) c.args.device_streams.now;
  over = λ outs ins keeps. met_none (λ p. is_found_full c.args.domain (ins p.interface) p) c.args.device_streams.now;
  few_under = omega arith;
  few_over = omega arith;
}

pub begin-found-requires-clause-sound : goal.begin-found-requires-clause-sound
begin-found-requires-clause-sound c =
    untouched_sound _ _ c.loop-device_stream.device_streams c.args.device_streams.now c.loop-device_stream.device_stream-index c.device_stream-item.result _ c.loop-device_stream.invariant.turned c.requires.sound (omega arith) refl

pub begin-found-requires-clause-wired : goal.begin-found-requires-clause-wired
begin-found-requires-clause-wired c out =
    c.loop-device_stream.invariant.lengths (get_or c.loop-device_stream.device_streams c.loop-device_stream.device_stream-index c.device_stream-item.result).port.terminal
    ∙ untouched_port (IsWiredIn c.args.wires.now) _ _ c.loop-device_stream.device_streams c.args.device_streams.now c.loop-device_stream.device_stream-index c.device_stream-item.result _ c.loop-device_stream.invariant.turned c.requires.wired
    (omega arith) refl out

pub with_next_stream-under-requires : goal.with_next_stream-under-requires
with_next_stream-under-requires c =
    let most : 2 ^ c.loop-device_stream.device_stream-index ≤ 256 = light c.loop-device_stream.device_stream-index (omega (arith, c.loop-device_stream.invariant.inside, c.requires.few)) in
    omega (arith, most, c.loop-device_stream.invariant.weight, c.loop-device_stream.invariant.few_under)

pub with_next_stream-over-requires : goal.with_next_stream-over-requires
with_next_stream-over-requires c =
    let most : 2 ^ c.loop-device_stream.device_stream-index ≤ 256 = light c.loop-device_stream.device_stream-index (omega (arith, c.loop-device_stream.invariant.inside, c.requires.few)) in
    omega (arith, most, c.loop-device_stream.invariant.weight, c.loop-device_stream.invariant.few_over)

pub overflow_mul-bit : goal.overflow_mul-bit
overflow_mul-bit c =
    let most : 2 ^ c.loop-device_stream.device_stream-index ≤ 256 = light c.loop-device_stream.device_stream-index (omega (arith, c.loop-device_stream.invariant.inside, c.requires.few)) in
    omega (arith, most, c.loop-device_stream.invariant.weight)

pub loop-device_stream-preserved : goal.loop-device_stream-preserved
loop-device_stream-preserved c =
    let old = c.args.device_streams.now in
    let at = c.loop-device_stream.device_stream-index in
    let d = c.device_stream-item.result in
    let l = get_or c.loop-device_stream.device_streams at d in
    let below : at < length old = omega (arith, c.loop-device_stream.invariant.turned.same) in
    let read : l ≡ get_or old at d = untouched _ _ c.loop-device_stream.device_streams old at d c.loop-device_stream.invariant.turned in
    record {
      turned =
          turned_more (stream_taken_on c.args.domain) (λ p in_. in_) c.loop-device_stream.device_streams old at c.begin-found.new.self _ d (omega arith)
          c.loop-device_stream.invariant.turned refl c.begin-found.ensures.turns c.begin-found.ensures.sound;
      frames = λ outs ins keeps id.
          frames_more c.args.domain old at d _ c.args.wires.now c.loop-device_stream.wires c.begin-found.new.wires outs ins id below read keeps c.begin-found.ensures.frame
          (c.loop-device_stream.invariant.frames outs ins keeps id);
      lengths = λ id. c.begin-found.ensures.lengths id ∙ c.loop-device_stream.invariant.lengths id;
      inside = omega (arith, below);
      weight = next_weight c.loop-device_stream.bit at c.loop-device_stream.invariant.weight;
      under = λ outs ins keeps.
          met_more (λ p. is_found_dry c.args.domain (outs p.interface) p) old at d l c.begin-found.result.dry c.loop-device_stream.under c.loop-device_stream.bit c.with_next_stream-under.result below read
          (c.begin-found.ensures.dry (outs l.port.interface) (ins l.port.interface) (keeps_here old outs ins at d l keeps below read))
          c.loop-device_stream.invariant.weight (c.loop-device_stream.invariant.under outs ins keeps) c.with_next_stream-under.ensures;
      over = λ outs ins keeps.
          met_more (λ p. is_found_full c.args.domain (ins p.interface) p) old at d l c.begin-found.result.full c.loop-device_stream.over c.loop-device_stream.bit c.with_next_stream-over.result below read
          (c.begin-found.ensures.full (outs l.port.interface) (ins l.port.interface) (keeps_here old outs ins at d l keeps below read))
          c.loop-device_stream.invariant.weight (c.loop-device_stream.invariant.over outs ins keeps) c.with_next_stream-over.ensures;
      few_under = few_more c.loop-device_stream.under c.loop-device_stream.bit c.with_next_stream-under.result c.begin-found.result.dry c.loop-device_stream.invariant.few_under c.with_next_stream-under.ensures;
      few_over = few_more c.loop-device_stream.over c.loop-device_stream.bit c.with_next_stream-over.result c.begin-found.result.full c.loop-device_stream.invariant.few_over c.with_next_stream-over.ensures;
    }

pub met_streams-requires-clause-under : goal.met_streams-requires-clause-under
met_streams-requires-clause-under c =
    let most : 2 ^ c.loop-device_stream.device_stream-index ≤ 256 = light c.loop-device_stream.device_stream-index (omega (arith, c.loop-device_stream.invariant.inside, c.requires.few)) in
    omega (arith, most, c.loop-device_stream.invariant.weight, c.loop-device_stream.invariant.few_under)

pub met_streams-requires-clause-over : goal.met_streams-requires-clause-over
met_streams-requires-clause-over c =
    let most : 2 ^ c.loop-device_stream.device_stream-index ≤ 256 = light c.loop-device_stream.device_stream-index (omega (arith, c.loop-device_stream.invariant.inside, c.requires.few)) in
    omega (arith, most, c.loop-device_stream.invariant.weight, c.loop-device_stream.invariant.few_over)

pub returns-clause-met : goal.returns-clause-met
returns-clause-met c outs ins keeps =
    let past : length c.args.device_streams.now ≤ c.loop-device_stream.device_stream-index = omega (arith, c.loop-device_stream.invariant.turned.same) in
    c.met_streams.ensures
    ∙ ap (λ (n : ℕ). let t : Ticked = record { under = n; over = c.loop-device_stream.over } in t)
    (met_all (λ p. is_found_dry c.args.domain (outs p.interface) p) c.args.device_streams.now c.loop-device_stream.device_stream-index c.loop-device_stream.under past (c.loop-device_stream.invariant.under outs ins keeps))
    ∙ ap (λ (n : ℕ). let t : Ticked = record { under = set_of_streams (map (λ p. is_found_dry c.args.domain (outs p.interface) p) (ports c.args.device_streams.now)); over = n } in t)
    (met_all (λ p. is_found_full c.args.domain (ins p.interface) p) c.args.device_streams.now c.loop-device_stream.device_stream-index c.loop-device_stream.over past (c.loop-device_stream.invariant.over outs ins keeps))

pub returns-clause-stands : goal.returns-clause-stands
returns-clause-stands c =
    taken_keeps c.args.domain c.loop-device_stream.device_streams c.args.device_streams.now c.loop-device_stream.device_stream-index c.loop-device_stream.invariant.turned (omega arith) c.requires.sound

pub returns-clause-frames : goal.returns-clause-frames
returns-clause-frames c outs ins keeps id =
    c.loop-device_stream.invariant.frames outs ins keeps id
    ∙ frames_all c.args.domain id outs c.args.device_streams.now c.loop-device_stream.device_stream-index (frame_on c.args.wires.now id) (omega (arith, c.loop-device_stream.invariant.turned.same))

pub returns-clause-lengths : goal.returns-clause-lengths
returns-clause-lengths c id = c.loop-device_stream.invariant.lengths id

pub returns-clause-ports : goal.returns-clause-ports
returns-clause-ports c = ports_turned _ _ c.loop-device_stream.device_streams c.args.device_streams.now c.loop-device_stream.device_stream-index c.loop-device_stream.invariant.turned (omega arith)

pub returns-clause-sound : goal.returns-clause-sound
returns-clause-sound c = sound_turned _ _ c.loop-device_stream.device_streams c.args.device_streams.now c.loop-device_stream.device_stream-index c.loop-device_stream.invariant.turned (omega arith)
