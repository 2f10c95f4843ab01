-- One stream from the device in a world, and what the turns of all interfaces, and the ticks of all domains, make of it.
use Rattle.std.proofs.Common.{arith, ◌≡◌, ◌∙◌, sym, ap, subst, ℕ, ℤ, zero, suc, ◌+◌, ◌-◌, ◌≤◌, ◌<◌, ◌==◌, ◌&&◌, Bool, true, false, if◌then◌else◌, nat_eq, List, [], ◌∷◌, ◌++◌, length, length-append, Option, Some, None}
use Rattle.std.specs.List.{All, IsDistinct, filter, find, fold}
use Rattle.std.specs.Option.{option_and_then, option_map, option_map_or}
use Rattle.std.proofs.Math.Nat.{min-eq_left}
use Rattle.uac_clock.specs.Nominal.{nominal_of, step_of}
use Rattle.uac_clock.specs.Ticks.{ticks_in}
use Rattle.uac_topology.specs.Function.{FunctionFields, interface_in}
use Rattle.uac_store.specs.declared.keys.Key.{Key}
use Rattle.uac_store.specs.Rates.{rate_of}
use Rattle.uac_graph.specs.Meaning.{entity}
use Rattle.uac_alt.specs.AltStreams.{StreamFields}
use Rattle.uac_alt.specs.declared.settings.InterfaceSetting.{InterfaceSetting}
use Rattle.uac_flow.specs.FlowStreams.{InStream, OutStream, after_packet, after_putting, after_sending_in, after_taking, after_ticks, in_level, is_due, is_full, sent_in_frames, in_after_end, out_after_end}
use Rattle.uac_device.specs.InterfaceStreams.{either_due}
use Rattle.uac_device.specs.DeviceWorld.{DeviceWorld, Domain, after_advance, feedback_in, is_due_in, is_on, next_ticks, after_receiving, set_jack, after_end, step_in, steps_with_next, after_tick}
use Rattle.uac_device.specs.DeviceWorld.{after_sending_in_packet as device_sends}
use Rattle.uac_script.specs.Phrase.{PhraseMark}
use Rattle.uac_streaming.specs.Telling.{without_event}
use Rattle.uac_streaming.specs.StreamingWorld.{StreamingWorld, all_feedback, all_ends, comes_in, fetched_lines, in_packet_turn, in_packets, is_in_due, is_out_due, loses_in, loses_out, loses_feedback, numbers, out_packets, out_turn, packet_fetched, packet_sent_out, packet_to, feedback_lines, feedback_made, feedback_turn, sent_out_lines, end_turn}
use Rattle.uac_device.specs.declared.jacks.Jack.{Jack}
use Rattle.uac_running.specs.RunningWorld.{RunningWorld}
use Rattle.uac_running.specs.Events.{after_all_jacks, domain_microframe, domain_microframes, next_frame, tick, tick_times}
use Rattle.uac_streaming.proofs.AmongLemmas.{Among, known_among}
use Rattle.uac_levels.proofs.TellingTurnLemmas.{domain_other, domain_same, none_at, none_where, numbers_differ, own_number, row_once, turns_keep, turns_once, where_false, where_true}
use Rattle.uac_levels.proofs.LifeTurnLemmas.{if_false, if_true}
use Rattle.uac_levels.proofs.LifeTickLemmas.{a_row, clock_only}
use Rattle.uac_levels.proofs.ProjectionLifeLemmas.{mapped}
use Rattle.uac_levels.proofs.RecordingRestLemmas.{putting}

-- ---- what stays so within a microframe

-- where the stream is: of this function, under these controls and settings; its interface, its clock, and its domain but for its steps;
-- and what its setting says
pub record Spot : Type 0 where
  pub function : FunctionFields
  pub controls : List (Key × ℤ)
  pub settings : List InterfaceSetting
  pub interface : ℕ
  pub clock : ℕ
  pub domain : Domain
  pub stream : StreamFields

pub record IsSpot (p : Spot) : Type 0 where
  pub comes : comes_in p.function p.interface ≡ true
  pub on_clock : option_map (λ s. (entity p.function.entities s.terminal).clock) (interface_in p.function p.interface) ≡ Some p.clock

-- a stream of that setting after so many microframes, with at most so many frames in its ring
pub record IsRing (s : StreamFields) (after few : ℕ) (i : InStream) : Type 0 where
  pub stream : i.stream ≡ s
  pub counted : i.microframes ≡ after
  pub gone : i.gone ≤ length i.made
  pub level : in_level i ≤ few

-- a device runs such a stream there, and its domain made these steps
pub record Rings (p : Spot) (after few : ℕ) (steps : List ℕ) (w : DeviceWorld) : Type 0 where
  pub function : w.function ≡ p.function
  pub controls : w.controls ≡ p.controls
  pub settings : w.settings ≡ p.settings
  pub out : w.outs p.interface ≡ None
  pub ring : InStream
  pub in_ : w.ins p.interface ≡ Some ring
  pub is : IsRing p.stream after few ring
  pub domain : find (λ d. d.id == p.clock) w.domains ≡ Some (record p.domain { steps = steps })

-- ---- one stream

-- a packet takes all frames that fit it
sends_all : (s : StreamFields) (after few : ℕ) (i : InStream) → few ≤ s.most → IsRing s after few i → IsRing s after 0 (after_sending_in i)
unfolding after_sending_in
sends_all s after few i fits is =
    let room : in_level i ≤ i.stream.most = subst (λ (t : StreamFields). in_level i ≤ t.most) (sym is.stream) (within (in_level i) few s.most is.level fits) in
    let all : sent_in_frames i ≡ in_level i = min-eq_left room in
    let end : i.gone + sent_in_frames i ≡ length i.made = ends i.gone (length i.made) (sent_in_frames i) is.gone all in
    record { stream = is.stream; counted = is.counted; gone = upto (i.gone + sent_in_frames i) (length i.made) end; level = nothing (i.gone + sent_in_frames i) (length i.made) end }
  where
    within : (a b c : ℕ) → a ≤ b → b ≤ c → a ≤ c
    within a b c low high = omega arith

    ends : (gone made sent : ℕ) → gone ≤ made → sent ≡ made - gone → gone + sent ≡ made
    ends gone made sent below is = omega arith

    upto : (gone made : ℕ) → gone ≡ made → gone ≤ made
    upto gone made is = omega arith

    nothing : (gone made : ℕ) → gone ≡ made → made - gone ≤ 0
    nothing gone made is = omega arith

-- a tick puts one frame at most
puts_one : (s : StreamFields) (after few : ℕ) (frame : List ℤ) (i : InStream) → IsRing s after few i → IsRing s after (suc few) (after_putting frame i)
unfolding after_putting
puts_one s after few frame i is = by (is_full i)
  where
    more : (gone made n : ℕ) → gone ≤ made → made - gone ≤ few → n ≡ made + 1 → (gone ≤ n) × (n - gone ≤ suc few)
    more gone made n below least grown = (omega arith, omega arith)

    later : (n : ℕ) → n ≤ few → n ≤ suc few
    later n low = omega arith

    by : (b : Bool) → IsRing s after (suc few) (if b then i else record i { made = i.made ++ frame ∷ [] })
    by true = record { stream = is.stream; counted = is.counted; gone = is.gone; level = later (in_level i) is.level }
    by false =
        let both = more i.gone (length i.made) (length (i.made ++ frame ∷ [])) is.gone is.level (length-append i.made (frame ∷ [])) in
        record { stream = is.stream; counted = is.counted; gone = both.0; level = both.1 }

ring_ends : (s : StreamFields) (after few : ℕ) (i : InStream) → IsRing s after few i → IsRing s (after + 1) few (in_after_end i)
unfolding in_after_end
ring_ends s after few i is = record { stream = is.stream; counted = ap (λ (n : ℕ). n + 1) is.counted; gone = is.gone; level = is.level }

-- a ring with room for one frame more isn't full
pub has_room_left : (s : StreamFields) (after few : ℕ) (i : InStream) → few < 2048 → IsRing s after few i → is_full i ≡ false
has_room_left s after few i room is = apart (in_level i) is.level
  where
    apart : (n : ℕ) → n ≤ few → (n == 2048) ≡ false
    apart n low = grind arith

-- the stream is of its clock's domain, and of no other
pub on_clock_only : (p : Spot) → IsSpot p → (w : DeviceWorld) (c : ℕ) → w.function ≡ p.function → is_on w c p.interface ≡ (p.clock == c)
on_clock_only p spot = clock_only p.function p.interface p.clock spot.on_clock

-- ---- turns

module _ (p : Spot) (detail : ℕ) (marks : List PhraseMark) (after few : ℕ) (steps : List ℕ) where
  out_any : (n : ℕ) (w : StreamingWorld) → Rings p after few steps w.device → Rings p after few steps (out_turn detail marks n w).world.device
  unfolding out_turn packet_sent_out after_receiving
  out_any n w s = by (is_out_due w n)
    where
      by : (b : Bool)
          → Rings p after few steps (if b then record { lines = sent_out_lines detail (loses_out marks n) n w; world = packet_sent_out (loses_out marks n) n w }
          else without_event w).world.device
      by true = record {
        function = s.function;
        controls = s.controls;
        settings = s.settings;
        out = none_at n p.interface (after_packet (packet_to (loses_out marks n) n w)) w.device.outs s.out;
        ring = s.ring;
        in_ = s.in_;
        is = s.is;
        domain = s.domain;
      }
      by false = s

  in_other : (n : ℕ) (w : StreamingWorld) → (p.interface == n) ≡ false → Rings p after few steps w.device
      → Rings p after few steps (in_packet_turn detail marks n w).world.device
  unfolding in_packet_turn packet_fetched device_sends
  in_other n w other s = by (is_in_due w n)
    where
      by : (b : Bool)
          → Rings p after few steps (if b then record { lines = fetched_lines detail (loses_in marks n) n w; world = packet_fetched (loses_in marks n) n w }
          else without_event w).world.device
      by true = record {
        function = s.function;
        controls = s.controls;
        settings = s.settings;
        out = s.out;
        ring = s.ring;
        in_ = if_false (p.interface == n) _ (w.device.ins p.interface) other ∙ s.in_;
        is = s.is;
        domain = s.domain;
      }
      by false = s

  in_here : IsSpot p → few ≤ p.stream.most → (w : StreamingWorld) → Rings p after few steps w.device
      → Rings p after (if is_due p.stream after then 0 else few) steps (in_packet_turn detail marks p.interface w).world.device
  unfolding in_packet_turn packet_fetched device_sends is_due_in
  in_here spot fits w s =
      subst (λ (b : Bool). Rings p after (if is_due p.stream after then 0 else few) steps (if b then record { lines = fetched_lines detail (loses_in marks p.interface) p.interface w; world = packet_fetched (loses_in marks p.interface) p.interface w } else without_event w).world.device)
      (sym due) (by (is_due p.stream after))
    where
      due : is_in_due w p.interface ≡ is_due p.stream after
      due =
          ap (λ (f : FunctionFields). comes_in f p.interface && either_due (w.device.outs p.interface) (w.device.ins p.interface)) s.function
          ∙ ap (λ (b : Bool). b && either_due (w.device.outs p.interface) (w.device.ins p.interface)) spot.comes
          ∙ ap (λ (o : Option OutStream). either_due o (w.device.ins p.interface)) s.out
          ∙ ap (λ (i : Option InStream). either_due None i) s.in_
          ∙ ap (λ (t : StreamFields). is_due t s.ring.microframes) s.is.stream
          ∙ ap (λ (n : ℕ). is_due p.stream n) s.is.counted

      by : (b : Bool)
          → Rings p after (if b then 0 else few) steps (if b then record { lines = fetched_lines detail (loses_in marks p.interface) p.interface w; world = packet_fetched (loses_in marks p.interface) p.interface w } else without_event w).world.device
      by true = record {
        function = s.function;
        controls = s.controls;
        settings = s.settings;
        out = s.out;
        ring = after_sending_in s.ring;
        in_ =
            if_true (p.interface == p.interface) _ (w.device.ins p.interface) (own_number p.interface)
            ∙ ap (option_map after_sending_in) s.in_;
        is = sends_all p.stream after few s.ring fits s.is;
        domain = s.domain;
      }
      by false = s

  ended_other : (n : ℕ) (w : StreamingWorld) → (p.interface == n) ≡ false → Rings p after few steps w.device
      → Rings p after few steps (end_turn detail n w).world.device
  unfolding end_turn after_end
  ended_other n w other s = record {
    function = s.function;
    controls = s.controls;
    settings = s.settings;
    out = none_at n p.interface out_after_end w.device.outs s.out;
    ring = s.ring;
    in_ = if_false (p.interface == n) _ (w.device.ins p.interface) other ∙ s.in_;
    is = s.is;
    domain = s.domain;
  }

  ended_here : (w : StreamingWorld) → Rings p after few steps w.device
      → Rings p (after + 1) few steps (end_turn detail p.interface w).world.device
  unfolding end_turn after_end
  ended_here w s = record {
    function = s.function;
    controls = s.controls;
    settings = s.settings;
    out = none_at p.interface p.interface out_after_end w.device.outs s.out;
    ring = in_after_end s.ring;
    in_ = if_true (p.interface == p.interface) _ (w.device.ins p.interface) (own_number p.interface) ∙ ap (option_map in_after_end) s.in_;
    is = ring_ends p.stream after few s.ring s.is;
    domain = s.domain;
  }

  report_any : (n : ℕ) (w : StreamingWorld) → Rings p after few steps w.device → Rings p after few steps (feedback_turn detail marks n w).world.device
  unfolding feedback_turn feedback_made
  report_any n w s = by (feedback_in w.device n)
    where
      by : (o : Option ℕ)
          → Rings p after few steps (option_map_or (λ value. record { lines = feedback_lines detail (loses_feedback marks n) value n; world = feedback_made (loses_feedback marks n) value n w })
          o (without_event w)).world.device
      by None = s
      by (Some value) = s

-- ---- all turns

module _ (p : Spot) (spot : IsSpot p) (small : All (λ s. s.number < 256) p.function.streams) (detail : ℕ) (marks : List PhraseMark) (after few : ℕ)
    (steps : List ℕ) where
  among : (w : DeviceWorld) → Rings p after few steps w → Among p.interface (numbers w.function)
  among w s =
      let found = mapped _ (interface_in p.function p.interface) p.clock spot.on_clock in
      subst (λ (f : FunctionFields). Among p.interface (numbers f)) (sym s.function) (known_among p.function p.interface found.0 small found.1)

  pub packets_out : (w : StreamingWorld) → Rings p after few steps w.device → Rings p after few steps (out_packets detail marks w).world.device
  unfolding out_packets
  packets_out w s =
      turns_keep (λ v. Rings p after few steps v.device) (out_turn detail marks) (λ n v. out_any p detail marks after few steps n v)
      (numbers w.device.function) w s

  pub packets_in : few ≤ p.stream.most → (w : StreamingWorld) → Rings p after few steps w.device
      → Rings p after (if is_due p.stream after then 0 else few) steps (in_packets detail marks w).world.device
  unfolding in_packets
  packets_in fits w s =
      let less : ℕ = if is_due p.stream after then 0 else few in
      turns_once (in_packet_turn detail marks) p.interface (λ v. Rings p after few steps v.device) (λ v. Rings p after less steps v.device)
      (λ n v other. in_other p detail marks after few steps n v other) (λ n v other. in_other p detail marks after less steps n v other)
      (λ v. in_here p detail marks after few steps spot fits v) (numbers w.device.function) w (numbers_differ w.device.function) (among w.device s) s

  pub ends : (w : StreamingWorld) → Rings p after few steps w.device → Rings p (after + 1) few steps (all_ends detail w).world.device
  unfolding all_ends
  ends w s =
      turns_once (end_turn detail) p.interface (λ v. Rings p after few steps v.device) (λ v. Rings p (after + 1) few steps v.device)
      (λ n v other. ended_other p detail marks after few steps n v other) (λ n v other. ended_other p detail marks (after + 1) few steps n v other)
      (λ v. ended_here p detail marks after few steps v) (numbers w.device.function) w (numbers_differ w.device.function) (among w.device s) s

  pub reports : (w : StreamingWorld) → Rings p after few steps w.device → Rings p after few steps (all_feedback detail marks w).world.device
  unfolding all_feedback
  reports w s =
      turns_keep (λ v. Rings p after few steps v.device) (feedback_turn detail marks) (λ n v. report_any p detail marks after few steps n v)
      (numbers w.device.function) w s

-- ---- ticks

-- what its domain's clock gives
abbrev pub step_at : Spot → ℕ
step_at p =
    option_map_or (λ values. step_of values p.domain.deviation)
    (option_and_then nominal_of (rate_of p.function.entities p.controls p.domain.id)) 0

-- its domain's steps with those of the microframe that comes
abbrev pub steps_on : Spot → List ℕ → List ℕ
steps_on p steps = steps ++ step_at p ∷ []

module _ (p : Spot) (spot : IsSpot p) (after : ℕ) where
  jacks_ring : (few : ℕ) (steps : List ℕ) (jacks : List Jack) (w : DeviceWorld) → Rings p after few steps w
      → Rings p after few steps (fold (λ v j. set_jack j.terminal (next_frame j) v) w jacks)
  unfolding set_jack
  jacks_ring few steps [] w s = s
  jacks_ring few steps (j ∷ js) w s = jacks_ring few steps js (set_jack j.terminal (next_frame j) w) (record {
    function = s.function;
    controls = s.controls;
    settings = s.settings;
    out = s.out;
    ring = s.ring;
    in_ = s.in_;
    is = s.is;
    domain = s.domain;
  })

  pub given_rings : (few : ℕ) (steps : List ℕ) (c : ℕ) (r : RunningWorld) → Rings p after few steps r.device → Rings p after few steps (after_all_jacks c r)
  unfolding after_all_jacks
  given_rings few steps c r s = jacks_ring few steps (filter (λ (j : Jack). j.domain == c) r.jacks) r.device s

  ticked_other : (few : ℕ) (steps : List ℕ) (c : ℕ) (w : DeviceWorld) → (p.clock == c) ≡ false → Rings p after few steps w
      → Rings p after few steps (after_tick c w)
  unfolding after_tick
  ticked_other few steps c w other s = record {
    function = s.function;
    controls = s.controls;
    settings = s.settings;
    out = none_where (is_on w c) (λ interface. after_taking) w.outs p.interface s.out;
    ring = s.ring;
    in_ = where_false (is_on w c) (putting c w) w.ins p.interface s.ring (on_clock_only p spot w c s.function ∙ other) s.in_;
    is = s.is;
    domain = s.domain;
  }

  ticked_own : (few : ℕ) (steps : List ℕ) (w : DeviceWorld) → Rings p after few steps w → Rings p after (suc few) steps (after_tick p.clock w)
  unfolding after_tick
  ticked_own few steps w s = record {
    function = s.function;
    controls = s.controls;
    settings = s.settings;
    out = none_where (is_on w p.clock) (λ interface. after_taking) w.outs p.interface s.out;
    ring = putting p.clock w p.interface s.ring;
    in_ = where_true (is_on w p.clock) (putting p.clock w) w.ins p.interface s.ring (on_clock_only p spot w p.clock s.function ∙ own_number p.clock) s.in_;
    is = puts_one p.stream after few _ s.ring s.is;
    domain = s.domain;
  }

  pub tick_other : (few : ℕ) (steps : List ℕ) (c : ℕ) (r : RunningWorld) → (p.clock == c) ≡ false → Rings p after few steps r.device
      → Rings p after few steps (tick c r).world.device
  unfolding tick
  tick_other few steps c r other s = ticked_other few steps c (after_all_jacks c r) other (given_rings few steps c r s)

  pub tick_own : (few : ℕ) (steps : List ℕ) (r : RunningWorld) → Rings p after few steps r.device
      → Rings p after (suc few) steps (tick p.clock r).world.device
  unfolding tick
  tick_own few steps r s = ticked_own few steps (after_all_jacks p.clock r) (given_rings few steps p.clock r s)

  ticks_other : (few : ℕ) (steps : List ℕ) (count c : ℕ) (r : RunningWorld) → (p.clock == c) ≡ false → Rings p after few steps r.device
      → Rings p after few steps (tick_times count c r).world.device
  unfolding tick_times
  ticks_other few steps zero c r other s = s
  ticks_other few steps (suc count) c r other s = ticks_other few steps count c (tick c r).world other (tick_other few steps c r other s)

  ticks_own : (few : ℕ) (steps : List ℕ) (count : ℕ) (r : RunningWorld) → Rings p after few steps r.device
      → Rings p after (few + count) steps (tick_times count p.clock r).world.device
  unfolding tick_times
  ticks_own few steps zero r s = subst (λ (n : ℕ). Rings p after n steps r.device) (omega arith) s
  ticks_own few steps (suc count) r s =
      subst (λ (n : ℕ). Rings p after n steps (tick_times count p.clock (tick p.clock r).world).world.device) (shift few count)
      (ticks_own (suc few) steps count (tick p.clock r).world (tick_own few steps r s))
    where
      shift : (a b : ℕ) → suc a + b ≡ a + suc b
      shift a b = omega arith

  -- ---- domains

  -- its clock gives what it gave before the microframe
  step_rings : (few : ℕ) (steps : List ℕ) (w : DeviceWorld) → Rings p after few steps w → step_in w (record p.domain { steps = steps }) ≡ step_at p
  unfolding step_in
  step_rings few steps w s =
      ap (λ (f : FunctionFields). option_map_or (λ values. step_of values p.domain.deviation) (option_and_then nominal_of (rate_of f.entities w.controls p.domain.id)) 0) s.function
      ∙ ap (λ (cs : List (Key × ℤ)). option_map_or (λ values. step_of values p.domain.deviation) (option_and_then nominal_of (rate_of p.function.entities cs p.domain.id)) 0) s.controls

  pub advanced_other : (few : ℕ) (steps : List ℕ) (c : ℕ) (w : DeviceWorld) → (p.clock == c) ≡ false → Rings p after few steps w
      → Rings p after few steps (after_advance c w)
  unfolding after_advance
  advanced_other few steps c w other s = record {
    function = s.function;
    controls = s.controls;
    settings = s.settings;
    out = none_where (is_on w c) (λ interface. after_ticks (next_ticks c w)) w.outs p.interface s.out;
    ring = s.ring;
    in_ = s.in_;
    is = s.is;
    domain = domain_other (steps_with_next w) c p.clock w.domains other ∙ s.domain;
  }

  pub domain_elsewhere : (few : ℕ) (steps : List ℕ) (c : ℕ) (r : RunningWorld) → (p.clock == c) ≡ false → Rings p after few steps r.device
      → Rings p after few steps (domain_microframe c r).world.device
  unfolding domain_microframe
  domain_elsewhere few steps c r other s =
      ticks_other few steps (next_ticks c r.device) c (record r { device = after_advance c r.device }) other (advanced_other few steps c r.device other s)

  module _ (few : ℕ) (steps : List ℕ) where
    -- what its own clock gives
    pub so_many : (w : DeviceWorld) → Rings p after few steps w → next_ticks p.clock w ≡ ticks_in (steps_on p steps)
    unfolding next_ticks
    so_many w s =
        ap (λ (o : Option Domain). option_map_or (λ d. ticks_in (steps_with_next w d)) o 0) s.domain
        ∙ ap (λ (n : ℕ). ticks_in (steps ++ n ∷ [])) (step_rings few steps w s)

    pub advanced_own : (w : DeviceWorld) → Rings p after few steps w → Rings p after few (steps_on p steps) (after_advance p.clock w)
    unfolding after_advance
    advanced_own w s = record {
      function = s.function;
      controls = s.controls;
      settings = s.settings;
      out = none_where (is_on w p.clock) (λ interface. after_ticks (next_ticks p.clock w)) w.outs p.interface s.out;
      ring = s.ring;
      in_ = s.in_;
      is = s.is;
      domain = domain_same (steps_with_next w) p.clock w.domains (record p.domain { steps = steps }) s.domain
          ∙ ap (λ (n : ℕ). Some (record p.domain { steps = steps ++ n ∷ [] })) (step_rings few steps w s);
    }

    pub domain_own : (r : RunningWorld) → Rings p after few steps r.device
        → Rings p after (few + ticks_in (steps_on p steps)) (steps_on p steps) (domain_microframe p.clock r).world.device
    unfolding domain_microframe
    domain_own r s =
        subst (λ (n : ℕ). Rings p after (few + n) (steps_on p steps) (domain_microframe p.clock r).world.device) (so_many r.device s)
        (ticks_own few (steps_on p steps) (next_ticks p.clock r.device) (record r { device = after_advance p.clock r.device }) (advanced_own r.device s))

    -- all domains, of which one is its own
    pub domains_ring : (clocks : List ℕ) (r : RunningWorld) → IsDistinct nat_eq clocks → Among p.clock clocks → Rings p after few steps r.device
        → Rings p after (few + ticks_in (steps_on p steps)) (steps_on p steps) (domain_microframes clocks r).world.device
    domains_ring clocks r once there s =
        subst (λ (v : RunningWorld). Rings p after (few + ticks_in (steps_on p steps)) (steps_on p steps) v.device) (sym (a_row clocks r))
        (row_once (λ c v. (domain_microframe c v).world) p.clock (λ v. Rings p after few steps v.device)
        (λ v. Rings p after (few + ticks_in (steps_on p steps)) (steps_on p steps) v.device)
        (λ c v other. domain_elsewhere few steps c v other) (λ c v other. domain_elsewhere (few + ticks_in (steps_on p steps)) (steps_on p steps) c v other)
        (λ v. domain_own v) clocks r once there s)
