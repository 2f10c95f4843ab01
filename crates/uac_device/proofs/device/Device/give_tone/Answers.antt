use Rattle.std.proofs.Common.{◌≡◌, ◌∙◌, ℕ, true, List, ℤ, Option, None, Some, length, subst, sym, ap, if◌then◌else◌, ◌==◌}
use Rattle.std.proofs.lemmas.List.FromFn.{length-map-range_with_len}
use Rattle.uac_pcm.specs.Tones.{tone_sample, tone_frame}
use Rattle.std.specs.Option.{option_map}
use Rattle.uac_graph.specs.Meaning.{entity}
use Rattle.uac_graph.specs.Wiring.{frame_on}
use Rattle.uac_device.specs.DeviceWorld.{is_input_jack, set_jack}
use Rattle.uac_device.specs.DeviceKept.{DeviceFields, DeviceStands}
use Rattle.uac_device.specs.contracts.device.Device.{the_view}
use Rattle.uac_device.proofs.DeviceWorldLemmas.{jack_fits, jack_stands}
use Rattle.uac_device.proofs.device.Device.give_tone.Goals as goal

-- a wire that is given a tone anew has that frame on its channels
toned_anew : (tone_on : ℕ → List ℤ) (frame : Option (List ℤ)) (channels : ℕ) → option_map length frame ≡ Some channels
    → option_map (λ samples. tone_on (length samples)) frame ≡ Some (tone_on channels)
toned_anew tone_on None channels fits = cc
toned_anew tone_on (Some samples) channels fits =
    let as_many : length samples ≡ channels = cc in
    ap (λ (n : ℕ). Some (tone_on n)) as_many

pub returns-clause-stands : goal.returns-clause-stands
returns-clause-stands c w stands =
    let device : DeviceFields = the_view c.self.inside in
    let terminal : ℕ = c.args.terminal in
    let channels : ℕ = (entity device.function.entities terminal).cluster.channels in
    let jack : is_input_jack (entity device.function.entities terminal) ≡ true =
    subst (λ (device : DeviceFields). is_input_jack (entity device.function.entities terminal) ≡ true) (sym c.self.view_is) c.requires in
    let tone_on : ℕ → List ℤ = λ (channels : ℕ). tone_frame channels c.args.tone c.args.place in
    let long : length (tone_on channels) ≡ channels = length-map-range_with_len (tone_sample c.args.tone c.args.place) 0 channels in
    let fits = jack_fits device terminal (tone_on channels) c.self.invariant.0 jack long in
    let toned = toned_anew tone_on (frame_on device.wires terminal) channels (fits ∙ ap Some long) in
    subst (λ (channels : ℕ). DeviceStands (record device { wires = c.give_tone.new.self }) (set_jack terminal (tone_on channels) w))
    (ap (λ (device : DeviceFields). (entity device.function.entities terminal).cluster.channels) c.self.view_is)
    (jack_stands device c.give_tone.new.self terminal (tone_on channels) w jack
    (λ id. c.give_tone.ensures.wires id ∙ ap (λ (o : Option (List ℤ)). if terminal == id then o else frame_on device.wires id) toned)
    (subst (λ (device : DeviceFields). DeviceStands device w) (sym c.self.view_is) stands))
