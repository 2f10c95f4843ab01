-- A device where no interface runs a stream: a tick gives its terminals of the bus silence again, and finds nothing.
use Rattle.std.proofs.Common.{◌≡◌, ◌∙◌, sym, refl, ap, subst, ℕ, ◌+◌, ◌*◌, ◌==◌, ◌&&◌, not, Bool, true, false, if◌then◌else◌, ℤ, List, [], ◌∷◌, Option, Some, None, map, unwrap_or, inl, inr}
use Rattle.std.proofs.Math.Bool.{and-false}
use Rattle.std.specs.List.{find}
use Rattle.std.specs.Option.{option_and_then, option_map, option_map_or}
use Rattle.std.proofs.lemmas.Bool.{and_parts, cases_Bool, eqb-true, true≢false}
use Rattle.uac_entities.specs.declared.stream.StreamInterface.{StreamInterface}
use Rattle.uac_topology_rules.specs.Clusters.{is_input}
use Rattle.uac_graph.specs.Wiring.{Frames, silence}
use Rattle.uac_flow.specs.FlowStreams.{OutStream, InStream, after_putting, after_taking, is_dry, is_full, next_taken}
use Rattle.uac_device.specs.declared.ticking.Ticked.{Ticked}
use Rattle.uac_device.specs.InterfaceStreams.{NoneRuns, set_of_streams, changed_where}
use Rattle.uac_device.specs.DeviceWorld.{DeviceWorld, entity_in, input_of, is_input_jack, is_jack, is_on, is_streamed, met_of, played_to, set_jack, streamed_frame, after_tick}
use Rattle.uac_device.specs.DeviceKept.{DeviceFields, IsDevice, DeviceStands}
use Rattle.uac_topology.specs.FunctionKept.{AreNumbered, HaveChannels}
use Rattle.uac_device.specs.DeviceStreams.{ports}
use Rattle.uac_device.specs.declared.device_stream.DeviceStream.{DeviceStream}
use Rattle.uac_device.specs.Linked.{AreLinked}
use Rattle.uac_device.specs.Stillness.{HasBegun, TickHasEnded, IsStill}
use Rattle.uac_device.proofs.DeviceWorldLemmas.{Rendered, tick_stands}
use Rattle.uac_device.proofs.DeviceKeptStreamLemmas.{same_streams}
use Rattle.uac_device.proofs.DeviceKeptTickLemmas.{met_here, ticked_stands}

-- ---- where no interface runs a stream

streamed_silent : (w : DeviceWorld) (id : ℕ) → NoneRuns w.outs w.ins → streamed_frame w id ≡ silence (entity_in w id).cluster.channels
unfolding streamed_frame
streamed_silent w id none = by (find (λ s. s.terminal == id) w.function.streams)
  where
    rest : List ℤ
    rest = silence (entity_in w id).cluster.channels

    by : (o : Option StreamInterface) → unwrap_or (option_and_then next_taken (option_and_then (λ (s : StreamInterface). w.outs s.number) o)) rest ≡ rest
    by None = refl
    by (Some s) = ap (λ (o : Option OutStream). unwrap_or (option_and_then next_taken o) rest) (none s.number).0

none_where : {S : Type 0} (test : ℕ → Bool) (change : ℕ → S → S) (streams : ℕ → Option S) (k : ℕ) → streams k ≡ None → changed_where test change streams k ≡ None
none_where test change streams k none = ap (option_map (λ s. if test k then change k s else s)) none

bits_none : (test : StreamInterface → Bool) (streams : List StreamInterface) → ((s : StreamInterface) → test s ≡ false) → set_of_streams (map test streams) ≡ 0
unfolding set_of_streams
bits_none test [] none = refl
bits_none test (s ∷ ss) none =
    ap (λ (b : Bool). (if b then 1 else 0) + 2 * set_of_streams (map test ss)) (none s) ∙ ap (λ (n : ℕ). 0 + 2 * n) (bits_none test ss none)

-- a tick finds nothing
pub nothing_met : (domain : ℕ) (w : DeviceWorld) → NoneRuns w.outs w.ins → met_of domain w ≡ record { under = 0; over = 0 }
unfolding met_of
nothing_met domain w none =
    let dry : StreamInterface → Bool = λ s. is_on w domain s.number && option_map_or is_dry (w.outs s.number) false in
    let full : StreamInterface → Bool = λ s. is_on w domain s.number && option_map_or is_full (w.ins s.number) false in
    let met : ℕ → ℕ → Ticked = λ under over. record { under = under; over = over } in
    ap (λ (n : ℕ). met n (set_of_streams (map full w.function.streams)))
    (bits_none dry w.function.streams
    (λ s. ap (λ (o : Option OutStream). is_on w domain s.number && option_map_or is_dry o false) (none s.number).0 ∙ and-false (is_on w domain s.number)))
    ∙ ap (λ (n : ℕ). met 0 n)
    (bits_none full w.function.streams
    (λ s. ap (λ (o : Option InStream). is_on w domain s.number && option_map_or is_full o false) (none s.number).1 ∙ and-false (is_on w domain s.number)))

-- ---- between two ticks

-- after a tick it is still
pub still_after : (domain : ℕ) (w : DeviceWorld) → NoneRuns w.outs w.ins → IsStill domain (after_tick domain w)
unfolding after_tick input_of
still_after domain w none = record {
  none = λ k. (
    none_where (is_on w domain) (λ interface. after_taking) w.outs k (none k).0,
    none_where (is_on w domain) (λ interface. after_putting (played_to w (after_tick domain w).played interface)) w.ins k (none k).1,
  );
  gave = λ id bus. ap (λ (b : Bool). if b then streamed_frame w id else w.given id) bus ∙ streamed_silent w id none;
}

-- and so it is after a jack was given a frame
pub still_given : (domain terminal : ℕ) (frame : List ℤ) (w : DeviceWorld) → is_input_jack (entity_in w terminal) ≡ true → IsStill domain w → IsStill domain (set_jack terminal frame w)
unfolding set_jack
still_given domain terminal frame w jack still = record { none = still.none; gave = gave }
  where
    gave : (id : ℕ) → is_streamed domain (entity_in w id) ≡ true → (if id == terminal then frame else w.given id) ≡ silence (entity_in w id).cluster.channels
    gave id bus =
        elim (cases_Bool (id == terminal)) [
          | inl there ↦
              (let e = entity_in w id in
              let other : not (is_jack e) ≡ true = (and_parts (not (is_jack e)) _ (and_parts (is_input e.kind) _ bus).1).0 in
              let is : is_jack e ≡ true =
              subst (λ (n : ℕ). is_jack (entity_in w n) ≡ true) (sym (eqb-true id terminal there)) (and_parts (is_input (entity_in w terminal).kind) _ jack).1 in
              absurd (true≢false (sym other ∙ ap not is)))
          | inr away ↦ ap (λ (b : Bool). if b then frame else w.given id) away ∙ still.gave id bus
        ]

-- ---- a tick

-- an input terminal gives what it gave
given_stays : (domain : ℕ) (w : DeviceWorld) (id : ℕ) → IsStill domain w → input_of domain w id ≡ w.given id
unfolding input_of
given_stays domain w id still =
    elim (cases_Bool (is_streamed domain (entity_in w id))) [
      | inl bus ↦
          ap (λ (b : Bool). if b then streamed_frame w id else w.given id) bus ∙ streamed_silent w id still.none ∙ sym (still.gave id bus)
      | inr other ↦ ap (λ (b : Bool). if b then streamed_frame w id else w.given id) other
    ]

-- where the graph alone is rendered the device stands for the world in which the domain ticked
pub still_stands : (device : DeviceFields) (wires : Frames) (domain : ℕ) (w : DeviceWorld) → Rendered device device.wires wires domain → IsStill domain w → DeviceStands device w
    → DeviceStands (record device { wires = wires }) (after_tick domain w)
unfolding after_tick
still_stands device wires domain w rendered still stands =
    tick_stands device device.wires wires domain w rendered
    (record {
      inputs = λ id input. stands.inputs id input ∙ ap (λ (f : List ℤ). Some f) (sym (given_stays domain w id still));
      outputs = stands.outputs;
    })
    stands.function stands.controls device.device_streams
    (same_streams device.device_streams w.outs (after_tick domain w).outs w.ins (after_tick domain w).ins stands.streams
    (λ k. none_where (is_on w domain) (λ interface. after_taking) w.outs k (still.none k).0 ∙ sym (still.none k).0)
    (λ k. none_where (is_on w domain) (λ interface. after_putting (played_to w (after_tick domain w).played interface)) w.ins k (still.none k).1 ∙ sym (still.none k).1))
    stands

-- ---- a tick, of a device that may be still

module _ (still : Bool) (device : DeviceFields) (mid wires : Frames) (between device_streams : List DeviceStream) (domain : ℕ) (w : DeviceWorld) (found : Ticked) where
  -- nothing was begun
  abbrev Rests : Type 0
  Rests = still ≡ true → (between ≡ device.device_streams) × (mid ≡ device.wires) × (found ≡ record { under = 0; over = 0 })

  pub ticked_or_still : AreNumbered device.function → AreLinked device.function → HaveChannels device.function.entities → IsDevice device
      → Rendered device mid wires domain → ports between ≡ ports device.device_streams → (still ≡ false → HasBegun domain device.device_streams between device.wires mid found) → Rests
      → (still ≡ false → TickHasEnded domain between device_streams wires) → (still ≡ true → device_streams ≡ between) → (still ≡ true → IsStill domain w) → DeviceStands device w
      → DeviceStands (record device { wires = wires; device_streams = device_streams }) (after_tick domain w)
  ticked_or_still numbered linked have is rendered same begun rests ended left quiet stands =
      elim (cases_Bool still) [
        | inl rested ↦
            (let kept = rests rested in
            let own : Rendered device device.wires wires domain = subst (λ (frames : Frames). Rendered device frames wires domain) kept.1 rendered in
            subst (λ (ls : List DeviceStream). DeviceStands (record device { wires = wires; device_streams = ls }) (after_tick domain w)) (sym (left rested ∙ kept.0))
            (still_stands device wires domain w own (quiet rested) stands))
        | inr moves ↦
            ticked_stands device mid wires between device_streams domain w numbered linked have is
            (record {
              frames = (begun moves).frames;
              given = (begun moves).stands;
              same = same;
              rendered = rendered;
              put = (ended moves).stands;
            })
            stands
      ]

module _ (still : Bool) (device : DeviceFields) (mid : Frames) (between : List DeviceStream) (domain : ℕ) (w : DeviceWorld) (found : Ticked) where
  pub found_or_still : AreNumbered device.function → IsDevice device → (still ≡ false → HasBegun domain device.device_streams between device.wires mid found)
      → (still ≡ true → (between ≡ device.device_streams) × (mid ≡ device.wires) × (found ≡ record { under = 0; over = 0 })) → (still ≡ true → IsStill domain w) → DeviceStands device w
      → found ≡ met_of domain w
  found_or_still numbered is begun rests quiet stands =
      elim (cases_Bool still) [
        | inl rested ↦ (rests rested).2 ∙ sym (nothing_met domain w (quiet rested).none)
        | inr moves ↦ (begun moves).met w.outs w.ins stands.streams ∙ met_here device w domain numbered is stands
      ]
