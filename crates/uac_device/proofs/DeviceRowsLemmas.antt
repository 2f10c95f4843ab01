-- What the parts of several ticks did with a device's rows, as they say it, is what those ticks make of the world.
use Rattle.std.proofs.Common.{◌≡◌, ◌∙◌, sym, refl, ap, subst, arith, ℕ, zero, suc, ◌+◌, ◌<◌, ◌≤◌, ◌&&◌, ◌==◌, Bool, true, false, if◌then◌else◌, ℤ, List, [], ◌∷◌, get_or, length, Option, Some, None}
use Rattle.std.specs.List.{All, fold}
use Rattle.std.specs.Option.{option_map, option_map_or}
use Rattle.std.proofs.lemmas.Bool.{and_parts, eqb-true}
use Rattle.uac_entities.specs.declared.entity.Entity.{Entity}
use Rattle.uac_topology_rules.specs.Clusters.{is_input}
use Rattle.uac_topology_rules.specs.Rules.{is_output}
use Rattle.uac_topology.specs.Function.{FunctionFields}
use Rattle.uac_topology.specs.FunctionKept.{AreNumbered, HaveChannels}
use Rattle.uac_graph.specs.Meaning.{entity}
use Rattle.uac_graph.specs.Needs.{is_end}
use Rattle.uac_graph.specs.TickRows.{AreRowsOf, RowsById, frames_at, slot_lengths}
use Rattle.uac_graph.specs.Wiring.{AreWiresOf, Frames, frame_on}
use Rattle.uac_graph.proofs.TickRowsLemmas as graph
use Rattle.uac_graph.proofs.WiringTerminalLemmas.{input_signal}
use Rattle.uac_graph.proofs.WiringWireLemmas.{signal_channels}
use Rattle.uac_units.specs.Hearing.{Reading}
use Rattle.uac_flow.specs.FlowStreams.{InStream, OutStream}
use Rattle.uac_flow.specs.FlowTicks.{in_after_ticks, out_after_ticks}
use Rattle.uac_device.specs.declared.device_stream.DeviceStream.{DeviceStream}
use Rattle.uac_device.specs.declared.jacks.Jack.{Jack}
use Rattle.uac_device.specs.InterfaceStreams.{changed_where}
use Rattle.uac_device.specs.DeviceWorld.{DeviceWorld, after_frames, entity_in, is_input_jack, is_jack}
use Rattle.uac_device.specs.DeviceKept.{DeviceFields, DeviceStands, IsDevice}
use Rattle.uac_device.specs.DeviceStreams.{DeviceStreamsStand, frame_given_by, ports}
use Rattle.uac_device.specs.DeviceTicks.{HoldPlayed, after_tick_times, heard_at, heard_by_ticks, readings_after}
use Rattle.uac_device.specs.DeviceTurns.{frames_heard, jacks_of}
use Rattle.uac_device.specs.Jacks.{jack_after, next_frame, tone_with, tones_of}
use Rattle.uac_device.specs.Linked.{AreLinked}
use Rattle.uac_device.proofs.DeviceKeptTickLemmas.{input_channels}
use Rattle.uac_device.proofs.DeviceTicksStandLemmas.{AreForJacks, AreRenderedTicks, TicksTurned, ends_new, heard_new, ticks_stand}
use Rattle.uac_device.proofs.DeviceWorldInputLemmas.{apart}

-- ---- rows

-- rows that are as long as others are rows of the same entities
pub rows_kept : (entities : List Entity) (old new : RowsById) → slot_lengths new.slots ≡ slot_lengths old.slots → AreRowsOf entities old → AreRowsOf entities new
rows_kept entities old new same have = λ tick. graph.wires_kept entities old.slots new.slots tick tick same (have tick)

-- ---- jacks

-- a jack's terminal is an input terminal
jack_input : (entities : List Entity) (id : ℕ) → is_input_jack (entity entities id) ≡ true → is_input (entity entities id).kind ≡ true
jack_input entities id jack = (and_parts (is_input (entity entities id).kind) (is_jack (entity entities id)) jack).0

-- a jack's rows have its channels, and these are few
pub tones_wired : (entities : List Entity) (jacks : List Jack) (frames : Frames) → AreWiresOf entities frames
    → All (λ j. is_input_jack (entity entities j.terminal) ≡ true) jacks → All (λ j. (entity entities j.terminal).cluster.channels ≡ j.channels) jacks
    → All (λ j. option_map length (frame_on frames j.terminal) ≡ Some j.channels) jacks
tones_wired entities jacks frames fitting kinds channels = λ k d below.
    (let t = (get_or jacks k d).terminal in
    fitting.channels t
    ∙ signal_channels entities t (input_signal (entity entities t).kind (jack_input entities t (kinds k d below)))
    ∙ ap (λ (n : ℕ). Some n) (channels k d below))

pub tones_few : (entities : List Entity) (jacks : List Jack) → HaveChannels entities → All (λ j. is_input_jack (entity entities j.terminal) ≡ true) jacks
    → All (λ j. (entity entities j.terminal).cluster.channels ≡ j.channels) jacks → All (λ j. j.channels ≤ 32) jacks
tones_few entities jacks have kinds channels = λ k d below.
    (let t = (get_or jacks k d).terminal in
    let few = (input_channels entities t have (jack_input entities t (kinds k d below))).1 in
    subst (λ (n : ℕ). n ≤ 32) (channels k d below) few)

-- no jack's tone is for a terminal of the bus
no_tone : (entities : List Entity) (domain id : ℕ) (jacks : List Jack) → All (λ j. is_input_jack (entity entities j.terminal) ≡ true) jacks
    → is_jack (entity entities id) ≡ false → fold (tone_with domain id) None jacks ≡ None
no_tone entities domain id [] kinds bus = refl
no_tone entities domain id (j ∷ js) kinds bus =
    ap (λ (o : Option (ℕ → List ℤ)). fold (tone_with domain id) o js) (by (j.domain == domain) (id == j.terminal) refl)
    ∙ no_tone entities domain id js (λ k d below. kinds (suc k) d (omega (arith, below))) bus
  where
    tone : Option (ℕ → List ℤ)
    tone = Some (λ t. next_frame (jack_after domain t j))

    by : (here own : Bool) → (id == j.terminal) ≡ own → (if here && own then tone else None) ≡ None
    by false own test = refl
    by true false test = refl
    by true true test =
        absurd
        (let jack : is_jack (entity entities j.terminal) ≡ true =
        (and_parts (is_input (entity entities j.terminal).kind) (is_jack (entity entities j.terminal)) (kinds 0 j (omega arith))).1 in
        let other : is_jack (entity entities j.terminal) ≡ false = subst (λ (n : ℕ). is_jack (entity entities n) ≡ false) (eqb-true id j.terminal test) bus in
        cc)

-- ---- what was done

-- what the parts of so many ticks did with rows: they held the frames of all input terminals, then had the tones of jacks, then what the
-- streams to the device gave, and then what the graph made of all that; the wires have the frames of one of these ticks
pub record RowsTurned (device : DeviceFields) (jacks : List Jack) (domain ticks tick : ℕ) (first given mid new : RowsById) (wires : Frames)
    (between device_streams : List DeviceStream) : Type 0 where
  pub held :
      (t : ℕ) → t < ticks → (id : ℕ) → is_input (entity device.function.entities id).kind ≡ true → frame_on (frames_at t first) id ≡ frame_on device.wires id
  pub toned :
      (t : ℕ) → t < ticks → (id : ℕ)
      → frame_on (frames_at t given) id ≡ option_map_or (λ frames. Some (frames t)) (tones_of domain jacks id) (frame_on (frames_at t first) id)
  pub frames :
      (on : ℕ → Bool) (outs : ℕ → Option OutStream) (ins : ℕ → Option InStream) → All (λ p. on p.interface ≡ (p.domain == domain)) (ports device.device_streams)
      → DeviceStreamsStand device.device_streams outs ins → (t : ℕ) → t < ticks → (id : ℕ)
      → frame_on (frames_at t mid) id
      ≡ frame_given_by domain id (changed_where on (λ interface. out_after_ticks t) outs) (ports device.device_streams) (frame_on (frames_at t given) id)
  pub taken :
      (on : ℕ → Bool) (outs : ℕ → Option OutStream) (ins : ℕ → Option InStream) → All (λ p. on p.interface ≡ (p.domain == domain)) (ports device.device_streams)
      → DeviceStreamsStand device.device_streams outs ins → DeviceStreamsStand between (changed_where on (λ interface. out_after_ticks ticks) outs) ins
  pub same : ports between ≡ ports device.device_streams
  pub rendered : AreRenderedTicks device domain ticks (λ t. frames_at t mid) (λ t. frames_at t new)
  pub put :
      (on : ℕ → Bool) (played : ℕ → ℕ → List ℤ) (outs : ℕ → Option OutStream) (ins : ℕ → Option InStream)
      → All (λ p. on p.interface ≡ (p.domain == domain)) (ports between)
      → All (λ p. p.out ≡ false → 1 ≤ p.channels → (p.domain == domain) ≡ true → (t : ℕ) → t < ticks
      → frame_on (frames_at t new) p.terminal ≡ Some (played t p.interface))
      (ports between)
      → DeviceStreamsStand between outs ins
      → DeviceStreamsStand device_streams outs (changed_where on (λ interface. in_after_ticks (λ t. played t interface) ticks) ins)
  pub inputs : (id : ℕ) → is_input (entity device.function.entities id).kind ≡ true → frame_on wires id ≡ frame_on (frames_at tick new) id
  pub ends : (id : ℕ) → is_end domain (entity device.function.entities id) ≡ true → frame_on wires id ≡ frame_on (frames_at tick new) id
  pub others :
      (id : ℕ) → is_input (entity device.function.entities id).kind ≡ false → is_end domain (entity device.function.entities id) ≡ false
      → frame_on wires id ≡ frame_on device.wires id

-- a frame that is held, or a tone's
toned_over : (t : ℕ) (tone : Option (ℕ → List ℤ)) (frame : List ℤ)
    → option_map_or (λ frames. Some (frames t)) tone (Some frame) ≡ Some (option_map_or (λ frames. frames t) tone frame)
toned_over t None frame = refl
toned_over t (Some frames) frame = refl

-- what is no input terminal where it is an output terminal
no_input : (e : Entity) → is_output e.kind ≡ true → is_input e.kind ≡ false
no_input e output = by (is_input e.kind) refl
  where
    by : (b : Bool) → is_input e.kind ≡ b → b ≡ false
    by true input = absurd (apart e.kind input output)
    by false other = refl

module _ (device : DeviceFields) (jacks : List Jack) (w : DeviceWorld) (domain : ℕ) (first given mid new : RowsById) (wires : Frames)
    (between device_streams : List DeviceStream) (numbered : AreNumbered device.function) (linked : AreLinked device.function)
    (have : HaveChannels device.function.entities) (is : IsDevice device) (stands : DeviceStands device w)
    (kinds : All (λ j. is_input_jack (entity device.function.entities j.terminal) ≡ true) jacks) where
  for_jacks : AreForJacks (tones_of domain jacks) w
  for_jacks = record {
    none = λ id bus.
        no_tone device.function.entities domain id jacks kinds
        (subst (λ (f : FunctionFields). is_jack (entity f.entities id) ≡ false) (sym stands.function) bus);
  }

  turned_here : (last : ℕ) → RowsTurned device jacks domain (suc last) last first given mid new wires between device_streams
      → TicksTurned device (tones_of domain jacks) w domain last (λ t. frames_at t given) (λ t. frames_at t mid) (λ t. frames_at t new) wires between device_streams
  turned_here last turned = record {
    given = record {
      filled = λ t less id input.
          turned.toned t less id
          ∙ ap (λ (o : Option (List ℤ)). option_map_or (λ frames. Some (frames t)) (tones_of domain jacks id) o)
          (turned.held t less id (there id input) ∙ stands.inputs id input)
          ∙ toned_over t (tones_of domain jacks id) (w.given id);
      frames = turned.frames;
    };
    taken = turned.taken;
    same = turned.same;
    rendered = turned.rendered;
    put = turned.put;
    inputs = λ id input. turned.inputs id (there id input);
    ends = λ id end. turned.ends id (subst (λ (f : FunctionFields). is_end domain (entity f.entities id) ≡ true) (sym stands.function) end);
    others = λ id output other.
        turned.others id
        (no_input (entity device.function.entities id) (subst (λ (f : FunctionFields). is_output (entity f.entities id).kind ≡ true) (sym stands.function) output))
        (subst (λ (f : FunctionFields). is_end domain (entity f.entities id) ≡ false) (sym stands.function) other);
  }
    where
      there : (id : ℕ) → is_input (entity_in w id).kind ≡ true → is_input (entity device.function.entities id).kind ≡ true
      there id input = subst (λ (f : FunctionFields). is_input (entity f.entities id).kind ≡ true) (sym stands.function) input

  -- the device stands for the world after these ticks
  pub rows_stand : (ticks tick : ℕ) → tick + 1 ≡ ticks → RowsTurned device jacks domain ticks tick first given mid new wires between device_streams
      → DeviceStands (record device { wires = wires; device_streams = device_streams; rows = new }) (after_tick_times domain (tones_of domain jacks) ticks w)
  rows_stand zero tick more turned = absurd (omega (arith, more))
  rows_stand (suc last) tick more turned =
      ticks_stand device (tones_of domain jacks) w domain last (λ t. frames_at t given) (λ t. frames_at t mid) (λ t. frames_at t new) wires new between device_streams numbered
      linked have is stands for_jacks
      (turned_here last
      (subst (λ (n : ℕ). RowsTurned device jacks domain (suc last) n first given mid new wires between device_streams) (omega (arith, more)) turned))

  -- and the meters show what they are to show
  rows_heard : (ticks tick : ℕ) → tick + 1 ≡ ticks → RowsTurned device jacks domain ticks tick first given mid new wires between device_streams
      → (t : ℕ) → t < ticks → frames_heard (frames_at t new) domain (jacks_of device.function.entities) ≡ heard_at domain (tones_of domain jacks) w t
  rows_heard zero tick more turned = absurd (omega (arith, more))
  rows_heard (suc last) tick more turned =
      heard_new device (tones_of domain jacks) w domain last (λ t. frames_at t given) (λ t. frames_at t mid) (λ t. frames_at t new) wires new between device_streams numbered
      linked have is stands for_jacks
      (turned_here last
      (subst (λ (n : ℕ). RowsTurned device jacks domain (suc last) n first given mid new wires between device_streams) (omega (arith, more)) turned))

  -- and the rows hold what was played
  pub rows_hold : (ticks tick : ℕ) → tick + 1 ≡ ticks → RowsTurned device jacks domain ticks tick first given mid new wires between device_streams
      → HoldPlayed domain (tones_of domain jacks) ticks w new
  rows_hold zero tick more turned = absurd (omega (arith, more))
  rows_hold (suc last) tick more turned = λ t less id end.
      ends_new device (tones_of domain jacks) w domain last (λ t. frames_at t given) (λ t. frames_at t mid) (λ t. frames_at t new) wires new between device_streams numbered
      linked have is stands for_jacks
      (turned_here last
      (subst (λ (n : ℕ). RowsTurned device jacks domain (suc last) n first given mid new wires between device_streams) (omega (arith, more)) turned))
      t less id (and_parts (is_output (entity_in w id).kind) ((entity_in w id).clock == domain) end).0 end

  pub rows_read : (ticks tick : ℕ) (readings : List Reading) → tick + 1 ≡ ticks
      → RowsTurned device jacks domain ticks tick first given mid new wires between device_streams
      → heard_by_ticks (λ t. frames_heard (frames_at t new) domain (jacks_of device.function.entities)) ticks readings
      ≡ readings_after domain (tones_of domain jacks) w ticks readings
  unfolding heard_by_ticks readings_after
  rows_read ticks tick readings more turned = along ticks (λ t less. rows_heard ticks tick more turned t less)
    where
      frames : ℕ → List (List ℤ)
      frames t = frames_heard (frames_at t new) domain (jacks_of device.function.entities)

      along : (n : ℕ) → ((t : ℕ) → t < n → frames t ≡ heard_at domain (tones_of domain jacks) w t)
          → heard_by_ticks frames n readings ≡ readings_after domain (tones_of domain jacks) w n readings
      along zero same = refl
      along (suc n) same =
          ap (λ (fs : List (List ℤ)). after_frames fs (heard_by_ticks frames n readings)) (same n (omega arith))
          ∙ ap (after_frames (heard_at domain (tones_of domain jacks) w n)) (along n (λ t less. same t (omega (arith, less))))
