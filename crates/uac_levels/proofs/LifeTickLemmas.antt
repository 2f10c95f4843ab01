-- One stream to the device, and what the ticks of all domains make of it.
use Rattle.std.proofs.Common.{◌≡◌, ◌∙◌, sym, refl, ap, subst, ℕ, zero, suc, ◌==◌, false, nat_eq, ℤ, List, [], ◌∷◌, ◌++◌, Option, Some, None}
use Rattle.std.specs.List.{IsDistinct, filter, find, fold}
use Rattle.std.specs.Option.{option_and_then, option_map, option_map_or}
use Rattle.uac_clock.specs.Nominal.{nominal_of, step_of}
use Rattle.uac_clock.specs.Ticks.{ticks_in}
use Rattle.uac_entities.specs.declared.stream.StreamInterface.{StreamInterface}
use Rattle.uac_topology.specs.Function.{FunctionFields, interface_in}
use Rattle.uac_store.specs.declared.keys.Key.{Key}
use Rattle.uac_store.specs.Rates.{rate_of}
use Rattle.uac_graph.specs.Meaning.{entity}
use Rattle.uac_flow.specs.FlowStreams.{after_taking, after_ticks}
use Rattle.uac_host.specs.HostWorld.{Track}
use Rattle.uac_device.specs.DeviceWorld.{DeviceWorld, Domain, after_advance, is_on, next_ticks, set_jack, step_in, steps_with_next, after_tick}
use Rattle.uac_streaming.specs.StreamingWorld.{StreamingWorld}
use Rattle.uac_device.specs.declared.jacks.Jack.{Jack}
use Rattle.uac_running.specs.RunningWorld.{RunningWorld, streaming_of}
use Rattle.uac_running.specs.Events.{after_all_jacks, domain_microframe, domain_microframes, after_jacks, next_frame, tick, tick_times}
use Rattle.uac_levels.specs.Life.{Life, ticks_taken, with_step}
use Rattle.uac_streaming.proofs.AmongLemmas.{Among}
use Rattle.uac_levels.proofs.TellingTurnLemmas.{domain_other, domain_same, own_number, row_once, where_false, where_true}
use Rattle.uac_levels.proofs.LifeTurnLemmas.{IsPlace, Place, Shows}

-- ---- streams of one domain

-- an interface is of its clock's domain, and of no other
pub clock_only : (function : FunctionFields) (interface clock : ℕ)
    → option_map (λ s. (entity function.entities s.terminal).clock) (interface_in function interface) ≡ Some clock
    → (w : DeviceWorld) (c : ℕ) → w.function ≡ function → is_on w c interface ≡ (clock == c)
clock_only function interface clock on_clock w c same =
    ap (λ (f : FunctionFields). option_map_or (λ s. (entity f.entities s.terminal).clock == c) (find (λ s. s.number == interface) f.streams) false) same
    ∙ by (interface_in function interface)
    ∙ ap (λ (o : Option ℕ). option_map_or (λ n. n == c) o false) on_clock
  where
    by : (o : Option StreamInterface) → option_map_or (λ s. (entity function.entities s.terminal).clock == c) o false
        ≡ option_map_or (λ n. n == c) (option_map (λ s. (entity function.entities s.terminal).clock) o) false
    by None = refl
    by (Some s) = refl

pub on_clock_only : (p : Place) → IsPlace p → (w : DeviceWorld) (c : ℕ) → w.function ≡ p.function → is_on w c p.interface ≡ (p.clock == c)
on_clock_only p is = clock_only p.function p.interface p.clock is.on_clock

-- ---- ticks

pub a_row : (clocks : List ℕ) (r : RunningWorld) → (domain_microframes clocks r).world ≡ fold (λ v c. (domain_microframe c v).world) r clocks
unfolding domain_microframes
a_row [] r = refl
a_row (c ∷ cs) r = a_row cs (domain_microframe c r).world

-- what a domain's clock gives
abbrev pub step_at : Place → ℕ
step_at p =
    option_map_or (λ values. step_of values p.domain.deviation)
    (option_and_then nominal_of (rate_of p.function.entities p.controls p.domain.id)) 0

module _ (p : Place) where
  pub jacks_show : (jacks : List Jack) (w : DeviceWorld) (r : RunningWorld) (l : Life) (t : Track) → Shows p (record (streaming_of r) { device = w }) l t
      → Shows p (record (streaming_of r) { device = fold (λ v j. set_jack j.terminal (next_frame j) v) w jacks }) l t
  unfolding set_jack
  jacks_show [] w r l t s = s
  jacks_show (j ∷ js) w r l t s = jacks_show js (set_jack j.terminal (next_frame j) w) r l t (record {
    function = s.function;
    controls = s.controls;
    out = s.out;
    pace = s.pace;
    track = s.track;
    domain = s.domain;
    reports = s.reports;
  })

  pub tick_other : IsPlace p → (c : ℕ) (r : RunningWorld) (l : Life) (t : Track) → (p.clock == c) ≡ false → Shows p (streaming_of r) l t
      → Shows p (streaming_of (tick c r).world) l t
  unfolding tick after_all_jacks after_tick
  tick_other is c r l t other before =
      let w : DeviceWorld = after_jacks c r.jacks r.device in
      let s = jacks_show (filter (λ (j : Jack). j.domain == c) r.jacks) r.device r l t before in
      record {
        function = s.function;
        controls = s.controls;
        out = where_false (is_on w c) (λ interface. after_taking) w.outs p.interface l.out (on_clock_only p is w c s.function ∙ other) s.out;
        pace = s.pace;
        track = s.track;
        domain = s.domain;
        reports = s.reports;
      }

  pub tick_own : IsPlace p → (r : RunningWorld) (l : Life) (t : Track) → Shows p (streaming_of r) l t
      → Shows p (streaming_of (tick p.clock r).world) (record l { out = after_taking l.out }) t
  unfolding tick after_all_jacks after_tick
  tick_own is r l t before =
      let w : DeviceWorld = after_jacks p.clock r.jacks r.device in
      let s = jacks_show (filter (λ (j : Jack). j.domain == p.clock) r.jacks) r.device r l t before in
      record {
        function = s.function;
        controls = s.controls;
        out = where_true (is_on w p.clock) (λ interface. after_taking) w.outs p.interface l.out (on_clock_only p is w p.clock s.function ∙ own_number p.clock) s.out;
        pace = s.pace;
        track = s.track;
        domain = s.domain;
        reports = s.reports;
      }

  ticks_other : IsPlace p → (count c : ℕ) (r : RunningWorld) (l : Life) (t : Track) → (p.clock == c) ≡ false → Shows p (streaming_of r) l t
      → Shows p (streaming_of (tick_times count c r).world) l t
  unfolding tick_times
  ticks_other is zero c r l t other s = s
  ticks_other is (suc count) c r l t other s = ticks_other is count c (tick c r).world l t other (tick_other is c r l t other s)

  ticks_own : IsPlace p → (count : ℕ) (r : RunningWorld) (l : Life) (t : Track) → Shows p (streaming_of r) l t
      → Shows p (streaming_of (tick_times count p.clock r).world) (record l { out = ticks_taken count l.out }) t
  unfolding tick_times ticks_taken
  ticks_own is zero r l t s = s
  ticks_own is (suc count) r l t s = ticks_own is count (tick p.clock r).world (record l { out = after_taking l.out }) t (tick_own is r l t s)

  -- ---- domains

  -- its clock gives what it gave before the microframe
  pub step_shown : (w : StreamingWorld) (l : Life) (t : Track) → Shows p w l t → step_in w.device (record p.domain { steps = l.steps }) ≡ step_at p
  unfolding step_in
  step_shown w l t s =
      ap (λ (f : FunctionFields). option_map_or (λ values. step_of values p.domain.deviation) (option_and_then nominal_of (rate_of f.entities w.device.controls p.domain.id)) 0) s.function
      ∙ ap (λ (cs : List (Key × ℤ)). option_map_or (λ values. step_of values p.domain.deviation) (option_and_then nominal_of (rate_of p.function.entities cs p.domain.id)) 0) s.controls

  pub advanced_elsewhere : IsPlace p → (c : ℕ) (r : RunningWorld) (l : Life) (t : Track) → (p.clock == c) ≡ false → Shows p (streaming_of r) l t
      → Shows p (streaming_of (record r { device = after_advance c r.device })) l t
  unfolding after_advance
  advanced_elsewhere is c r l t other s = record {
    function = s.function;
    controls = s.controls;
    out = where_false (is_on r.device c) (λ interface. after_ticks (next_ticks c r.device)) r.device.outs p.interface l.out (on_clock_only p is r.device c s.function ∙ other) s.out;
    pace = s.pace;
    track = s.track;
    domain = domain_other (steps_with_next r.device) c p.clock r.device.domains other ∙ s.domain;
    reports = s.reports;
  }

  pub domain_elsewhere : IsPlace p → (c : ℕ) (r : RunningWorld) (l : Life) (t : Track) → (p.clock == c) ≡ false → Shows p (streaming_of r) l t
      → Shows p (streaming_of (domain_microframe c r).world) l t
  unfolding domain_microframe
  domain_elsewhere is c r l t other s =
      ticks_other is (next_ticks c r.device) c (record r { device = after_advance c r.device }) l t other (advanced_elsewhere is c r l t other s)

  -- what its own clock gives
  pub so_many : (r : RunningWorld) (l : Life) (t : Track) → Shows p (streaming_of r) l t
      → next_ticks p.clock r.device ≡ ticks_in (l.steps ++ step_at p ∷ [])
  unfolding next_ticks
  so_many r l t s =
      ap (λ (o : Option Domain). option_map_or (λ d. ticks_in (steps_with_next r.device d)) o 0) s.domain
      ∙ ap (λ (n : ℕ). ticks_in (l.steps ++ n ∷ [])) (step_shown (streaming_of r) l t s)

  pub advanced_own : IsPlace p → (r : RunningWorld) (l : Life) (t : Track) → Shows p (streaming_of r) l t
      → Shows p (streaming_of (record r { device = after_advance p.clock r.device }))
      (record l { out = after_ticks (next_ticks p.clock r.device) l.out; steps = l.steps ++ step_at p ∷ [] }) t
  unfolding after_advance
  advanced_own is r l t s = record {
    function = s.function;
    controls = s.controls;
    out = where_true (is_on r.device p.clock) (λ interface. after_ticks (next_ticks p.clock r.device)) r.device.outs p.interface l.out (on_clock_only p is r.device p.clock s.function ∙ own_number p.clock) s.out;
    pace = s.pace;
    track = s.track;
    domain = domain_same (steps_with_next r.device) p.clock r.device.domains (record p.domain { steps = l.steps }) s.domain
        ∙ ap (λ (n : ℕ). Some (record p.domain { steps = l.steps ++ n ∷ [] })) (step_shown (streaming_of r) l t s);
    reports = s.reports;
  }

  pub domain_own : IsPlace p → (r : RunningWorld) (l : Life) (t : Track) → Shows p (streaming_of r) l t
      → Shows p (streaming_of (domain_microframe p.clock r).world) (with_step (step_at p) l) t
  unfolding domain_microframe
  domain_own is r l t s =
      let steps : List ℕ = l.steps ++ step_at p ∷ [] in
      subst (λ (n : ℕ). Shows p (streaming_of (domain_microframe p.clock r).world) (record l { out = ticks_taken n (after_ticks n l.out); steps = steps }) t)
      (so_many r l t s)
      (ticks_own is (next_ticks p.clock r.device) (record r { device = after_advance p.clock r.device })
      (record l { out = after_ticks (next_ticks p.clock r.device) l.out; steps = steps }) t (advanced_own is r l t s))

  -- all domains, of which one is its own
  pub domains_show : IsPlace p → (clocks : List ℕ) (r : RunningWorld) (l : Life) (t : Track) → IsDistinct nat_eq clocks → Among p.clock clocks
      → Shows p (streaming_of r) l t → Shows p (streaming_of (domain_microframes clocks r).world) (with_step (step_at p) l) t
  domains_show is clocks r l t once there s =
      subst (λ (v : RunningWorld). Shows p (streaming_of v) (with_step (step_at p) l) t) (sym (a_row clocks r))
      (row_once (λ c v. (domain_microframe c v).world) p.clock (λ v. Shows p (streaming_of v) l t) (λ v. Shows p (streaming_of v) (with_step (step_at p) l) t)
      (λ c v other. domain_elsewhere is c v l t other) (λ c v other. domain_elsewhere is c v (with_step (step_at p) l) t other)
      (λ v. domain_own is v l t) clocks r once there s)
