-- What several ticks of a domain make of a device's world, part by part.
use Rattle.std.proofs.Common.{◌≡◌, ◌∙◌, sym, refl, ap, subst, arith, ℕ, zero, suc, ◌&&◌, ◌==◌, Bool, true, false, if◌then◌else◌, ℤ, List, [], ◌∷◌, Option, Some, None, map, length, inl, inr}
use Rattle.std.specs.Prelude.{IfSome}
use Rattle.std.specs.Option.{option_map, option_map_or}
use Rattle.std.proofs.Math.Path.{fun_ext}
use Rattle.uac_entities.specs.declared.stream.StreamInterface.{StreamInterface}
use Rattle.uac_graph.specs.GraphControls.{controls_in}
use Rattle.uac_graph.specs.Meaning.{meaning}
use Rattle.uac_graph.specs.Needs.{is_end}
use Rattle.uac_flow.specs.FlowStreams.{InStream, OutStream, after_putting, after_taking, is_dry, is_full}
use Rattle.uac_flow.specs.FlowTicks.{IsHeld, in_after_ticks, is_dry_at, is_full_at, out_after_ticks}
use Rattle.uac_device.specs.declared.ticking.Ticked.{Ticked}
use Rattle.uac_device.specs.InterfaceStreams.{changed_where, set_of_streams}
use Rattle.uac_device.specs.DeviceWorld.{DeviceWorld, after_tick, entity_in, heard_of, input_of, is_on, is_streamed, met_of, played_to, renders_of, streamed_frame}
use Rattle.uac_device.specs.DeviceTicks.{AreHeld, Tones, after_tick_times, after_tones, before_tick, given_after, heard_at, input_at, ins_after, met_at, outs_after, played_after, played_in, world_after}
use Rattle.uac_flow.proofs.FlowTicksLemmas.{in_full, out_dry, out_more, out_none}

-- a world with other streams, and with other frames at its terminals
abbrev with_parts : DeviceWorld → (ℕ → Option OutStream) → (ℕ → Option InStream) → (ℕ → List ℤ) → (ℕ → List ℤ) → DeviceWorld
with_parts w outs ins given played = record w { outs = outs; ins = ins; given = given; played = played }

same_parts : (w : DeviceWorld) (outs outs' : ℕ → Option OutStream) (ins ins' : ℕ → Option InStream) (given given' played played' : ℕ → List ℤ)
    → ((k : ℕ) → outs k ≡ outs' k) → ((k : ℕ) → ins k ≡ ins' k) → ((k : ℕ) → given k ≡ given' k) → ((k : ℕ) → played k ≡ played' k)
    → with_parts w outs ins given played ≡ with_parts w outs' ins' given' played'
same_parts w outs outs' ins ins' given given' played played' o i g p =
    ap (λ (f : ℕ → Option OutStream). with_parts w f ins given played) (fun_ext o)
    ∙ ap (λ (f : ℕ → Option InStream). with_parts w outs' f given played) (fun_ext i)
    ∙ ap (λ (f : ℕ → List ℤ). with_parts w outs' ins' f played) (fun_ext g)
    ∙ ap (λ (f : ℕ → List ℤ). with_parts w outs' ins' given' f) (fun_ext p)

-- ---- an interface

outs_none : (on : Bool) (stream : Option OutStream) → stream ≡ option_map (λ o. if on then out_after_ticks 0 o else o) stream
outs_none on None = refl
outs_none true (Some o) = ap (λ (o : OutStream). Some o) (sym (out_none o))
outs_none false (Some o) = refl

outs_more : (on : Bool) (t : ℕ) (stream : Option OutStream)
    → option_map (λ o. if on then after_taking o else o) (option_map (λ o. if on then out_after_ticks t o else o) stream)
    ≡ option_map (λ o. if on then out_after_ticks (suc t) o else o) stream
outs_more on t None = refl
outs_more true t (Some o) = ap (λ (o : OutStream). Some o) (out_more t o)
outs_more false t (Some o) = refl

ins_none : (on : Bool) (frames : ℕ → List ℤ) (stream : Option InStream) → stream ≡ option_map (λ i. if on then in_after_ticks frames 0 i else i) stream
unfolding in_after_ticks
ins_none on frames None = refl
ins_none true frames (Some i) = refl
ins_none false frames (Some i) = refl

ins_more : (on : Bool) (frames : ℕ → List ℤ) (t : ℕ) (stream : Option InStream)
    → option_map (λ i. if on then after_putting (frames t) i else i) (option_map (λ i. if on then in_after_ticks frames t i else i) stream)
    ≡ option_map (λ i. if on then in_after_ticks frames (suc t) i else i) stream
unfolding in_after_ticks
ins_more on frames t None = refl
ins_more true frames t (Some i) = refl
ins_more false frames t (Some i) = refl

dry_bit : (on : Bool) (t : ℕ) (stream : Option OutStream)
    → (on && option_map_or is_dry (option_map (λ o. if on then out_after_ticks t o else o) stream) false) ≡ (on && option_map_or (is_dry_at t) stream false)
dry_bit true t None = refl
dry_bit true t (Some o) = out_dry t o
dry_bit false t stream = refl

full_bit : (on : Bool) (frames : ℕ → List ℤ) (t : ℕ) (stream : Option InStream) → IfSome stream IsHeld
    → (on && option_map_or is_full (option_map (λ i. if on then in_after_ticks frames t i else i) stream) false) ≡ (on && option_map_or (is_full_at t) stream false)
full_bit true frames t None held = refl
full_bit true frames t (Some i) held = in_full frames t i held
full_bit false frames t stream held = refl

-- ---- a terminal

-- what isn't given frames keeps what it had
given_kept : (domain : ℕ) (tones : Tones) (w : DeviceWorld) (t id : ℕ) → is_streamed domain (entity_in w id) ≡ false → tones id ≡ None
    → given_after domain tones w t id ≡ w.given id
unfolding given_after input_at
given_kept domain tones w zero id other none = refl
given_kept domain tones w (suc t) id other none = rw other (rw none refl)

held_input : (domain : ℕ) (tones : Tones) (w : DeviceWorld) (t id : ℕ) (tone : Option (ℕ → List ℤ)) → is_streamed domain (entity_in w id) ≡ false → tones id ≡ tone
    → option_map_or (λ frames. frames t) tone (given_after domain tones w t id) ≡ option_map_or (λ frames. frames t) tone (w.given id)
held_input domain tones w t id None other none = given_kept domain tones w t id other none
held_input domain tones w t id (Some frames) other some = refl

input_more : (domain : ℕ) (tones : Tones) (w : DeviceWorld) (t id : ℕ)
    → input_of domain (after_tones tones t (world_after domain tones t w)) id ≡ input_at domain tones w t id
unfolding input_of input_at after_tones world_after streamed_frame
input_more domain tones w t id = by (is_streamed domain (entity_in w id)) refl
  where
    by : (b : Bool) → is_streamed domain (entity_in w id) ≡ b
        → (if b then streamed_frame (record w { outs = outs_after domain w t }) id else option_map_or (λ frames. frames t) (tones id) (given_after domain tones w t id))
        ≡ (if b then streamed_frame (record w { outs = outs_after domain w t }) id else option_map_or (λ frames. frames t) (tones id) (w.given id))
    by true streamed = refl
    by false other = held_input domain tones w t id (tones id) other refl

played_kept : (domain : ℕ) (tones : Tones) (w : DeviceWorld) (t id : ℕ) → is_end domain (entity_in w id) ≡ false → played_after domain tones w t id ≡ w.played id
unfolding played_after played_in
played_kept domain tones w zero id other = refl
played_kept domain tones w (suc t) id other = rw other refl

played_more : (domain : ℕ) (tones : Tones) (w : DeviceWorld) (t id : ℕ)
    → (if is_end domain (entity_in w id)
    then meaning w.function.entities (controls_in w.controls) (input_of domain (after_tones tones t (world_after domain tones t w))) id
    else played_after domain tones w t id)
    ≡ played_in domain tones w t id
unfolding played_in
played_more domain tones w t id = by (is_end domain (entity_in w id)) refl
  where
    by : (b : Bool) → is_end domain (entity_in w id) ≡ b
        → (if b then meaning w.function.entities (controls_in w.controls) (input_of domain (after_tones tones t (world_after domain tones t w))) id
        else played_after domain tones w t id)
        ≡ (if b then meaning w.function.entities (controls_in w.controls) (input_at domain tones w t) id else w.played id)
    by true end =
        ap (λ (ins : ℕ → List ℤ). meaning w.function.entities (controls_in w.controls) ins id) (fun_ext (input_more domain tones w t))
    by false other = played_kept domain tones w t id other

-- ---- the world

world_none : (domain : ℕ) (tones : Tones) (w : DeviceWorld) → w ≡ world_after domain tones 0 w
unfolding world_after given_after played_after
world_none domain tones w =
    same_parts w w.outs (outs_after domain w 0) w.ins (ins_after domain tones w 0) w.given w.given w.played w.played
    (λ k. outs_none (is_on w domain k) (w.outs k))
    (λ k. ins_none (is_on w domain k) (λ u. played_to w (played_in domain tones w u) k) (w.ins k)) (λ k. refl) (λ k. refl)

-- what the terminals of a world play at its next tick
abbrev played_next : ℕ → Tones → DeviceWorld → ℕ → ℕ → List ℤ
played_next domain tones w t id =
    if is_end domain (entity_in w id) then meaning w.function.entities (controls_in w.controls) (input_of domain (after_tones tones t (world_after domain tones t w))) id
    else played_after domain tones w t id

world_more : (domain : ℕ) (tones : Tones) (t : ℕ) (w : DeviceWorld)
    → after_tick domain (after_tones tones t (world_after domain tones t w)) ≡ world_after domain tones (suc t) w
unfolding after_tick after_tones world_after given_after played_after
world_more domain tones t w =
    same_parts w (changed_where (is_on w domain) (λ interface. after_taking) (outs_after domain w t)) (outs_after domain w (suc t))
    (changed_where (is_on w domain) (λ interface. after_putting (played_to w (played_next domain tones w t) interface)) (ins_after domain tones w t))
    (ins_after domain tones w (suc t)) (input_of domain (after_tones tones t (world_after domain tones t w))) (input_at domain tones w t)
    (played_next domain tones w t) (played_in domain tones w t)
    (λ k. outs_more (is_on w domain k) t (w.outs k))
    (λ k.
    ap
    (λ (played : ℕ → List ℤ). option_map (λ i. if is_on w domain k then after_putting (played_to w played k) i else i) (ins_after domain tones w t k))
    (fun_ext (played_more domain tones w t))
    ∙ ins_more (is_on w domain k) (λ u. played_to w (played_in domain tones w u) k) t (w.ins k))
    (input_more domain tones w t)
    (played_more domain tones w t)

pub world_by_parts : (domain : ℕ) (tones : Tones) (t : ℕ) (w : DeviceWorld) → after_tick_times domain tones t w ≡ world_after domain tones t w
unfolding after_tick_times
world_by_parts domain tones zero w = world_none domain tones w
world_by_parts domain tones (suc t) w =
    ap (λ (v : DeviceWorld). after_tick domain (after_tones tones t v)) (world_by_parts domain tones t w) ∙ world_more domain tones t w

-- ---- what is met, rendered and heard

met_bits : (domain : ℕ) (tones : Tones) (t : ℕ) (w : DeviceWorld) → AreHeld w → met_of domain (after_tones tones t (world_after domain tones t w)) ≡ met_at domain t w
unfolding met_of met_at after_tones world_after
met_bits domain tones t w held =
    ap (λ (f : StreamInterface → Bool). met (map f w.function.streams) fulls)
    (fun_ext (λ s. dry_bit (is_on w domain s.number) t (w.outs s.number)))
    ∙ ap (λ (f : StreamInterface → Bool). met dries (map f w.function.streams))
    (fun_ext
    (λ s. full_bit (is_on w domain s.number) (λ u. played_to w (played_in domain tones w u) s.number) t (w.ins s.number) (held s.number)))
  where
    met : List Bool → List Bool → Ticked
    met under over = record { under = set_of_streams under; over = set_of_streams over }

    dries : List Bool
    dries = map (λ s. is_on w domain s.number && option_map_or (is_dry_at t) (w.outs s.number) false) w.function.streams

    fulls : List Bool
    fulls = map (λ s. is_on w domain s.number && option_map_or is_full (ins_after domain tones w t s.number) false) w.function.streams

pub met_by_levels : (domain : ℕ) (tones : Tones) (t : ℕ) (w : DeviceWorld) → AreHeld w → met_of domain (before_tick domain tones t w) ≡ met_at domain t w
met_by_levels domain tones t w held =
    ap (λ (v : DeviceWorld). met_of domain (after_tones tones t v)) (world_by_parts domain tones t w) ∙ met_bits domain tones t w held

pub renders_same : (domain : ℕ) (tones : Tones) (t : ℕ) (w : DeviceWorld) → renders_of domain (before_tick domain tones t w) ≡ renders_of domain w
unfolding renders_of after_tones world_after
renders_same domain tones t w = ap (λ (v : DeviceWorld). renders_of domain (after_tones tones t v)) (world_by_parts domain tones t w)

pub heard_by_tick : (domain : ℕ) (tones : Tones) (t : ℕ) (w : DeviceWorld) → heard_of domain (after_tick_times domain tones (suc t) w) ≡ heard_at domain tones w t
unfolding heard_of heard_at world_after played_after
heard_by_tick domain tones t w = ap (heard_of domain) (world_by_parts domain tones (suc t) w)
