-- Several ticks of a domain: what becomes of a device's world, tick by tick, and each of its parts after so many of them. A tick has
-- the number of those before it. Profile: the events and their order; the terms are those of Audio Class 2.0, 3.13.
use Rattle.std.specs.Prelude.{◌≡◌, ℕ, zero, suc, ◌<◌, ◌&&◌, ◌||◌, not, Bool, true, false, if◌then◌else◌}
use Rattle.std.specs.Prelude.{ℤ, List, map, filter, Option, Some, IfSome}
use Rattle.std.specs.List.{list_all}
use Rattle.std.specs.Option.{option_map_or}
use Rattle.uac_graph.specs.GraphControls.{controls_in}
use Rattle.uac_graph.specs.Meaning.{meaning}
use Rattle.uac_graph.specs.Needs.{is_end}
use Rattle.uac_graph.specs.TickRows.{RowsById, frames_at}
use Rattle.uac_graph.specs.Wiring.{frame_on}
use Rattle.uac_units.specs.Hearing.{Reading}
use Rattle.uac_flow.specs.FlowStreams.{InStream, OutStream}
use Rattle.uac_flow.specs.FlowTicks.{IsHeld, has_room, in_after_ticks, is_dry_at, is_full_at, lasts, out_after_ticks}
use Rattle.uac_device.specs.declared.ticking.Ticked.{Ticked}
use Rattle.uac_device.specs.InterfaceStreams.{changed_where, set_of_streams}
use Rattle.uac_device.specs.DeviceWorld.{DeviceWorld, after_frames, after_tick, entity_in, is_on, is_output_jack_of, is_streamed}
use Rattle.uac_device.specs.DeviceWorld.{met_of, played_to, streamed_frame}

-- ---- tick by tick

-- by input terminal, the frames that it is given, one before each tick, where it is given any
abbrev pub Tones : Type 0
Tones = ℕ → Option (ℕ → List ℤ)

-- before a tick each of these terminals is given its frame
unfoldable pub after_tones : Tones → ℕ → DeviceWorld → DeviceWorld
after_tones tones t w = record w { given = λ id. option_map_or (λ frames. frames t) (tones id) (w.given id) }

-- so many ticks of a domain, before each of which the terminals are given their frames
unfoldable pub after_tick_times : ℕ → Tones → ℕ → DeviceWorld → DeviceWorld
after_tick_times domain tones zero w = w
after_tick_times domain tones (suc t) w = after_tick domain (after_tones tones t (after_tick_times domain tones t w))

-- the world that a tick finds
abbrev pub before_tick : ℕ → Tones → ℕ → DeviceWorld → DeviceWorld
before_tick domain tones t w = after_tones tones t (after_tick_times domain tones t w)

-- ---- the parts of the world

-- the streams to the device after so many ticks of a domain
abbrev pub outs_after : ℕ → DeviceWorld → ℕ → ℕ → Option OutStream
outs_after domain w t = changed_where (is_on w domain) (λ interface. out_after_ticks t) w.outs

-- what an input terminal gives at a tick
unfoldable pub input_at : ℕ → Tones → DeviceWorld → ℕ → ℕ → List ℤ
input_at domain tones w t id =
    if is_streamed domain (entity_in w id) then streamed_frame (record w { outs = outs_after domain w t }) id
    else option_map_or (λ frames. frames t) (tones id) (w.given id)

-- what a terminal plays at a tick
unfoldable pub played_in : ℕ → Tones → DeviceWorld → ℕ → ℕ → List ℤ
played_in domain tones w t id =
    if is_end domain (entity_in w id) then meaning w.function.entities (controls_in w.controls) (input_at domain tones w t) id
    else w.played id

-- rows hold what a domain's output terminals play at each of so many ticks
abbrev pub HoldPlayed : ℕ → Tones → ℕ → DeviceWorld → RowsById → Type 0
HoldPlayed domain tones n w rows = (t : ℕ) → t < n → (id : ℕ) → is_end domain (entity_in w id) ≡ true
    → frame_on (frames_at t rows) id ≡ Some (played_in domain tones w t id)

-- the streams from the device after so many ticks
abbrev pub ins_after : ℕ → Tones → DeviceWorld → ℕ → ℕ → Option InStream
ins_after domain tones w t =
    changed_where (is_on w domain) (λ interface. in_after_ticks (λ u. played_to w (played_in domain tones w u) interface) t) w.ins

-- what terminals gave and played last, after so many ticks
unfoldable pub given_after : ℕ → Tones → DeviceWorld → ℕ → ℕ → List ℤ
given_after domain tones w zero = w.given
given_after domain tones w (suc t) = input_at domain tones w t

unfoldable pub played_after : ℕ → Tones → DeviceWorld → ℕ → ℕ → List ℤ
played_after domain tones w zero = w.played
played_after domain tones w (suc t) = played_in domain tones w t

-- the world by these parts
unfoldable pub world_after : ℕ → Tones → ℕ → DeviceWorld → DeviceWorld
world_after domain tones t w =
    record w {
      outs = outs_after domain w t;
      ins = ins_after domain tones w t;
      given = given_after domain tones w t;
      played = played_after domain tones w t;
    }

-- what a tick meets: the streams to the device that it finds dry, and those from it that it finds full
unfoldable pub met_at : ℕ → ℕ → DeviceWorld → Ticked
met_at domain t w =
    record {
      under = set_of_streams (map (λ s. is_on w domain s.number && option_map_or (is_dry_at t) (w.outs s.number) false) w.function.streams);
      over = set_of_streams (map (λ s. is_on w domain s.number && option_map_or (is_full_at t) (w.ins s.number) false) w.function.streams);
    }

-- the rings of all streams from the device hold their frames
abbrev pub AreHeld : DeviceWorld → Type 0
AreHeld w = (interface : ℕ) → IfSome (w.ins interface) IsHeld

-- so many ticks find no ring of the domain empty, and none full: by levels alone
unfoldable pub goes_on : ℕ → ℕ → DeviceWorld → Bool
goes_on domain ticks w =
    list_all
    (λ s. not (is_on w domain s.number)
    || (option_map_or (lasts ticks) (w.outs s.number) true && option_map_or (has_room ticks) (w.ins s.number) true))
    w.function.streams

-- so none of these ticks meets anything
abbrev pub MeetsNothing : ℕ → ℕ → DeviceWorld → Type 0
MeetsNothing domain ticks w = (tones : Tones) (t : ℕ) → t < ticks
    → met_of domain (before_tick domain tones t w) ≡ record { under = 0; over = 0 }

-- ---- what is heard

-- the frames that the meters hear after a tick
unfoldable pub heard_at : ℕ → Tones → DeviceWorld → ℕ → List (List ℤ)
heard_at domain tones w t = map (λ e. played_in domain tones w t e.id) (filter (is_output_jack_of domain) w.function.entities)

-- what meters show that hear these frames at so many ticks, one tick after the other
unfoldable pub heard_by_ticks : (ℕ → List (List ℤ)) → ℕ → List Reading → List Reading
heard_by_ticks frames zero readings = readings
heard_by_ticks frames (suc t) readings = after_frames (frames t) (heard_by_ticks frames t readings)

-- what meters show after so many ticks
unfoldable pub readings_after : ℕ → Tones → DeviceWorld → ℕ → List Reading → List Reading
readings_after domain tones w zero readings = readings
readings_after domain tones w (suc t) readings = after_frames (heard_at domain tones w t) (readings_after domain tones w t readings)
