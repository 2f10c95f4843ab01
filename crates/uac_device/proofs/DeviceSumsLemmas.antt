-- Several microframes of a domain's clock: what becomes of a device's world, part by part, and that the clocks that are kept go on as
-- those of the world.
use Rattle.std.proofs.Common.{◌≡◌, ◌∙◌, sym, refl, ap, subst, arith, mul-suc, ℕ, zero, suc, ◌+◌, ◌-◌, ◌*◌, ◌/◌, ◌%◌, ◌==◌, Bool, true, false, if◌then◌else◌, cond, List, [], ◌∷◌, ◌++◌, Option, Some, None, length, map, sum, take, length-append}
use Rattle.std.specs.List.{find}
use Rattle.std.specs.Option.{option_and_then, option_map, option_map_or}
use Rattle.std.proofs.Math.Path.{fun_ext}
use Rattle.std.proofs.lemmas.Bool.{eqb-true}
use Rattle.std.proofs.lemmas.List.{take_at}
use Rattle.std.proofs.lemmas.List.Sums.{sum_by_push}
use Rattle.uac_clock.specs.Nominal.{nominal_of, step_of}
use Rattle.uac_clock.specs.Ticks.{ticks_in}
use Rattle.uac_clock.specs.declared.values.Nominal.{Nominal}
use Rattle.uac_store.specs.Rates.{rate_of}
use Rattle.uac_flow.specs.FlowStreams.{OutStream, after_ticks}
use Rattle.uac_device.specs.InterfaceStreams.{changed_where}
use Rattle.uac_device.specs.DeviceWorld.{DeviceWorld, Domain, after_advance, is_on, next_ticks, step_in, steps_with_next}
use Rattle.uac_device.specs.DeviceSums.{after_advances, ticks_over}
use Rattle.uac_device.specs.declared.clocks.DomainClock.{DomainClock}
use Rattle.uac_device.specs.declared.device_stream.DeviceStream.{DeviceStream}
use Rattle.uac_device.specs.DeviceStreams.{DeviceStreamsStand}
use Rattle.uac_device.specs.DeviceKept.{DeviceFields, DeviceStands, clock_of}
use Rattle.uac_device.specs.DeviceTurns.{clock_after_advances, first_ticks, step_by, ticks_of}
use Rattle.uac_device.proofs.DeviceKeptLemmas.{map_turned}

-- ---- the world, part by part

-- steps, with so many that are alike
unfoldable pub with_steps : List ℕ → ℕ → ℕ → List ℕ
with_steps steps step zero = steps
with_steps steps step (suc n) = with_steps steps step n ++ step ∷ []

abbrev pub gone_over : DeviceWorld → ℕ → ℕ → Domain → Domain
gone_over w clock n d = if d.id == clock then record d { steps = with_steps d.steps (step_in w d) n } else d

abbrev pub gone_on : DeviceWorld → ℕ → Domain → Domain
gone_on w clock d = if d.id == clock then record d { steps = steps_with_next w d } else d

abbrev pub world_over : ℕ → ℕ → DeviceWorld → DeviceWorld
world_over clock n w =
    record w {
      domains = map (gone_over w clock n) w.domains;
      outs = changed_where (is_on w clock) (λ interface. after_ticks (ticks_over clock n w)) w.outs;
    }

gone_none : (w : DeviceWorld) (clock : ℕ) (ds : List Domain) → ds ≡ map (gone_over w clock 0) ds
unfolding with_steps
gone_none w clock [] = refl
gone_none w clock (d ∷ ds) = ap (λ (e : Domain). e ∷ ds) (one (d.id == clock)) ∙ ap (λ (es : List Domain). gone_over w clock 0 d ∷ es) (gone_none w clock ds)
  where
    one : (b : Bool) → d ≡ (if b then record d { steps = with_steps d.steps (step_in w d) 0 } else d)
    one true = refl
    one false = refl

gone_more : (w : DeviceWorld) (clock n : ℕ) (ds : List Domain)
    → map (gone_on (world_over clock n w) clock) (map (gone_over w clock n) ds) ≡ map (gone_over w clock (suc n)) ds
unfolding with_steps step_in
gone_more w clock n [] = refl
gone_more w clock n (d ∷ ds) =
    ap (λ (e : Domain). e ∷ map (gone_on (world_over clock n w) clock) (map (gone_over w clock n) ds)) (one (d.id == clock) refl)
    ∙ ap (λ (es : List Domain). gone_over w clock (suc n) d ∷ es) (gone_more w clock n ds)
  where
    one : (b : Bool) → (d.id == clock) ≡ b
        → gone_on (world_over clock n w) clock (if b then record d { steps = with_steps d.steps (step_in w d) n } else d)
        ≡ (if b then record d { steps = with_steps d.steps (step_in w d) (suc n) } else d)
    one true same =
        ap (λ (b : Bool). if b then record d { steps = with_steps d.steps (step_in w d) (suc n) } else record d { steps = with_steps d.steps (step_in w d) n }) same
    one false other = ap (λ (b : Bool). if b then record d { steps = steps_with_next w d } else d) other

counted_none : (on : Bool) (stream : Option OutStream) → stream ≡ option_map (λ o. if on then after_ticks 0 o else o) stream
counted_none on None = refl
counted_none true (Some o) = ap (λ (ticks : ℕ). Some (record o { ticks = ticks })) (let e : o.ticks ≡ o.ticks + 0 = omega arith in e)
counted_none false (Some o) = refl

counted_more : (on : Bool) (a b : ℕ) (stream : Option OutStream)
    → option_map (λ o. if on then after_ticks b o else o) (option_map (λ o. if on then after_ticks a o else o) stream)
    ≡ option_map (λ o. if on then after_ticks (a + b) o else o) stream
counted_more on a b None = refl
counted_more true a b (Some o) = ap (λ (ticks : ℕ). Some (record o { ticks = ticks })) (let e : o.ticks + a + b ≡ o.ticks + (a + b) = omega arith in e)
counted_more false a b (Some o) = refl

over_none : (clock : ℕ) (w : DeviceWorld) → w ≡ world_over clock 0 w
unfolding ticks_over
over_none clock w =
    ap (λ (outs : ℕ → Option OutStream). record w { outs = outs }) (fun_ext (λ k. counted_none (is_on w clock k) (w.outs k)))
    ∙ ap (λ (domains : List Domain). record (world_over clock 0 w) { domains = domains }) (gone_none w clock w.domains)

over_more : (clock n : ℕ) (w : DeviceWorld) → after_advances clock n w ≡ world_over clock n w → after_advance clock (world_over clock n w) ≡ world_over clock (suc n) w
unfolding after_advance ticks_over
over_more clock n w same =
    let next : next_ticks clock (world_over clock n w) ≡ next_ticks clock (after_advances clock n w) = ap (next_ticks clock) (sym same) in
    ap (λ (domains : List Domain). record (after_advance clock (world_over clock n w)) { domains = domains }) (gone_more w clock n w.domains)
    ∙ ap (λ (outs : ℕ → Option OutStream). record w { domains = map (gone_over w clock (suc n)) w.domains; outs = outs })
    (fun_ext
    (λ k.
    counted_more (is_on w clock k) (ticks_over clock n w) (next_ticks clock (world_over clock n w)) (w.outs k)
    ∙ ap (λ (t : ℕ). option_map (λ o. if is_on w clock k then after_ticks (ticks_over clock n w + t) o else o) (w.outs k)) next))

pub advances_by_parts : (clock n : ℕ) (w : DeviceWorld) → after_advances clock n w ≡ world_over clock n w
unfolding after_advances
advances_by_parts clock zero w = over_none clock w
advances_by_parts clock (suc n) w = ap (after_advance clock) (advances_by_parts clock n w) ∙ over_more clock n w (advances_by_parts clock n w)

-- ---- the clocks that are kept

-- the last step's ticks, by the remainder of those before
last_ticks : (steps : List ℕ) (step : ℕ) → ticks_in (steps ++ step ∷ []) ≡ (sum steps % 65536 + step) / 65536
last_ticks steps step =
    let short : length (steps ++ step ∷ []) - 1 ≡ length steps = omega (arith, length-append steps (step ∷ [])) in
    ap (λ (n : ℕ). n / 65536 - sum (take (length (steps ++ step ∷ []) - 1) (steps ++ step ∷ [])) / 65536) (sum_by_push (λ (n : ℕ). n) steps step)
    ∙ ap (λ (before : List ℕ). (sum steps + step) / 65536 - sum before / 65536) (take_at steps (step ∷ []) (length (steps ++ step ∷ []) - 1) (sym short))
    ∙ along (sum steps) step
  where
    along : (a b : ℕ) → (a + b) / 65536 - a / 65536 ≡ (a % 65536 + b) / 65536
    along a b = omega arith

sum_over : (steps : List ℕ) (step n : ℕ) → sum (with_steps steps step n) ≡ sum steps + step * n
unfolding with_steps
sum_over steps step zero = omega arith
sum_over steps step (suc n) =
    sum_by_push (λ (n : ℕ). n) (with_steps steps step n) step
    ∙ ap (λ (before : ℕ). before + step) (sum_over steps step n)
    ∙ along (sum steps) (step * n) step
    ∙ ap (λ (all : ℕ). sum steps + all) (sym (mul-suc step n))
  where
    along : (a b c : ℕ) → a + b + c ≡ a + (b + c)
    along a b c = omega arith

phase_over : (steps : List ℕ) (step n : ℕ) → sum (with_steps steps step n) % 65536 ≡ (sum steps % 65536 + step * n) % 65536
phase_over steps step n = ap (λ (all : ℕ). all % 65536) (sum_over steps step n) ∙ along (sum steps) (step * n)
  where
    along : (a b : ℕ) → (a + b) % 65536 ≡ (a % 65536 + b) % 65536
    along a b = omega arith

-- what a domain's clock gives, by the nominal values of its rate
step_same : (w : DeviceWorld) (clock : ℕ) (values : Option Nominal) → values ≡ option_and_then nominal_of (rate_of w.function.entities w.controls clock)
    → (d : Domain) → d.id ≡ clock → step_in w d ≡ step_by values d.deviation
unfolding step_in
step_same w clock values rated d same =
    ap (λ (c : ℕ). option_map_or (λ v. step_of v d.deviation) (option_and_then nominal_of (rate_of w.function.entities w.controls c)) 0) same
    ∙ ap (λ (o : Option Nominal). option_map_or (λ v. step_of v d.deviation) o 0) (sym rated)

over_kept : (w : DeviceWorld) (clock : ℕ) (values : Option Nominal) → values ≡ option_and_then nominal_of (rate_of w.function.entities w.controls clock) → (n : ℕ) (ds : List Domain)
    → map clock_of (map (gone_over w clock n) ds) ≡ map (clock_after_advances clock values n) (map clock_of ds)
over_kept w clock values rated n ds = map_turned clock_of (gone_over w clock n) (clock_after_advances clock values n) (λ d. one d (d.id == clock) refl) ds
  where
    one : (d : Domain) (b : Bool) → (d.id == clock) ≡ b
        → clock_of (if b then record d { steps = with_steps d.steps (step_in w d) n } else d)
        ≡ (if b then record { domain = d.id; deviation = d.deviation; phase = (sum d.steps % 65536 + step_by values d.deviation * n) % 65536 } else clock_of d)
    one d true same =
        ap (λ (phase : ℕ). record { domain = d.id; deviation = d.deviation; phase = phase })
        (phase_over d.steps (step_in w d) n ∙ ap (λ (step : ℕ). (sum d.steps % 65536 + step * n) % 65536) (step_same w clock values rated d (eqb-true d.id clock same)))
    one d false other = refl

-- ---- the ticks are those of the first clock of the domain

first_none : (clock : ℕ) (values : Option Nominal) (ds : List Domain) → 0 ≡ first_ticks clock values 0 (map clock_of ds)
first_none clock values [] = refl
first_none clock values (d ∷ ds) = one (d.id == clock) (first_none clock values ds)
  where
    one : (b : Bool) → 0 ≡ first_ticks clock values 0 (map clock_of ds)
        → 0 ≡ option_map_or (ticks_of values 0) (cond b (Some (clock_of d)) (find (λ c. c.domain == clock) (map clock_of ds))) 0
    one true others = omega arith
    one false others = others

-- with one microframe more
clock_more : (steps : List ℕ) (step n : ℕ)
    → (sum steps % 65536 + step * n) / 65536 + ticks_in (with_steps steps step n ++ step ∷ []) ≡ (sum steps % 65536 + step * suc n) / 65536
clock_more steps step n =
    ap (λ (ticks : ℕ). (sum steps % 65536 + step * n) / 65536 + ticks) (last_ticks (with_steps steps step n) step)
    ∙ ap (λ (phase : ℕ). (sum steps % 65536 + step * n) / 65536 + (phase + step) / 65536) (phase_over steps step n)
    ∙ along (sum steps % 65536) (step * n) step
    ∙ ap (λ (all : ℕ). (sum steps % 65536 + all) / 65536) (sym (mul-suc step n))
  where
    along : (a b c : ℕ) → (a + b) / 65536 + ((a + b) % 65536 + c) / 65536 ≡ (a + (b + c)) / 65536
    along a b c = omega arith

first_more : (w : DeviceWorld) (clock : ℕ) (values : Option Nominal) → values ≡ option_and_then nominal_of (rate_of w.function.entities w.controls clock) → (n : ℕ) (ds : List Domain)
    → first_ticks clock values n (map clock_of ds) + option_map_or (λ d. ticks_in (steps_with_next w d)) (find (λ d. d.id == clock) (map (gone_over w clock n) ds)) 0
    ≡ first_ticks clock values (suc n) (map clock_of ds)
unfolding step_in
first_more w clock values rated n [] = refl
first_more w clock values rated n (d ∷ ds) = one (d.id == clock) refl (first_more w clock values rated n ds)
  where
    one : (b : Bool) → (d.id == clock) ≡ b
        → first_ticks clock values n (map clock_of ds) + option_map_or (λ e. ticks_in (steps_with_next w e)) (find (λ e. e.id == clock) (map (gone_over w clock n) ds)) 0
        ≡ first_ticks clock values (suc n) (map clock_of ds)
        → option_map_or (ticks_of values n) (cond b (Some (clock_of d)) (find (λ c. c.domain == clock) (map clock_of ds))) 0
        + option_map_or (λ e. ticks_in (steps_with_next w e))
        (find (λ e. e.id == clock) ((if b then record d { steps = with_steps d.steps (step_in w d) n } else d) ∷ map (gone_over w clock n) ds)) 0
        ≡ option_map_or (ticks_of values (suc n)) (cond b (Some (clock_of d)) (find (λ c. c.domain == clock) (map clock_of ds))) 0
    one true same others =
        ap
        (λ (b : Bool).
        ticks_of values n (clock_of d)
        + option_map_or (λ e. ticks_in (steps_with_next w e))
        (cond b (Some (record d { steps = with_steps d.steps (step_in w d) n })) (find (λ e. e.id == clock) (map (gone_over w clock n) ds))) 0)
        same
        ∙ ap (λ (step : ℕ). (sum d.steps % 65536 + step * n) / 65536 + ticks_in (with_steps d.steps (step_in w d) n ++ step_in w d ∷ []))
        (sym (step_same w clock values rated d (eqb-true d.id clock same)))
        ∙ clock_more d.steps (step_in w d) n
        ∙ ap (λ (step : ℕ). (sum d.steps % 65536 + step * suc n) / 65536) (step_same w clock values rated d (eqb-true d.id clock same))
    one false other others =
        ap
        (λ (b : Bool).
        first_ticks clock values n (map clock_of ds)
        + option_map_or (λ e. ticks_in (steps_with_next w e)) (cond b (Some d) (find (λ e. e.id == clock) (map (gone_over w clock n) ds))) 0)
        other
        ∙ others

ticks_kept : (w : DeviceWorld) (clock : ℕ) (values : Option Nominal) → values ≡ option_and_then nominal_of (rate_of w.function.entities w.controls clock) → (n : ℕ)
    → ticks_over clock n w ≡ first_ticks clock values n (map clock_of w.domains)
unfolding ticks_over next_ticks step_in
ticks_kept w clock values rated zero = first_none clock values w.domains
ticks_kept w clock values rated (suc n) =
    ap (λ (ticks : ℕ). ticks + next_ticks clock (after_advances clock n w)) (ticks_kept w clock values rated n)
    ∙ ap (λ (v : DeviceWorld). first_ticks clock values n (map clock_of w.domains) + next_ticks clock v) (advances_by_parts clock n w)
    ∙ first_more w clock values rated n w.domains

-- ---- the device

rated_in : (device : DeviceFields) (w : DeviceWorld) (clock : ℕ) (values : Option Nominal) → DeviceStands device w
    → values ≡ option_and_then nominal_of (rate_of device.function.entities device.controls clock)
    → values ≡ option_and_then nominal_of (rate_of w.function.entities w.controls clock)
rated_in device w clock values stands rated =
    rated
    ∙ ap (λ f. option_and_then nominal_of (rate_of f.entities device.controls clock)) stands.function
    ∙ ap (λ controls. option_and_then nominal_of (rate_of w.function.entities controls clock)) stands.controls

pub ticks_same : (device : DeviceFields) (clock : ℕ) (values : Option Nominal) (n : ℕ) (w : DeviceWorld)
    → values ≡ option_and_then nominal_of (rate_of device.function.entities device.controls clock)
    → DeviceStands device w → first_ticks clock values n device.clocks ≡ ticks_over clock n w
ticks_same device clock values n w rated stands =
    ap (first_ticks clock values n) stands.clocks ∙ sym (ticks_kept w clock values (rated_in device w clock values stands rated) n)

pub over_stands : (device : DeviceFields) (clocks : List DomainClock) (device_streams : List DeviceStream) (clock : ℕ) (values : Option Nominal) (n : ℕ) (w : DeviceWorld)
    → values ≡ option_and_then nominal_of (rate_of device.function.entities device.controls clock) → clocks ≡ map (clock_after_advances clock values n) device.clocks
    → DeviceStreamsStand device_streams (changed_where (is_on w clock) (λ interface. after_ticks (ticks_over clock n w)) w.outs) w.ins
    → DeviceStands device w → DeviceStands (record device { clocks = clocks; device_streams = device_streams }) (after_advances clock n w)
over_stands device clocks device_streams clock values n w rated turned counted stands =
    subst (λ (v : DeviceWorld). DeviceStands (record device { clocks = clocks; device_streams = device_streams }) v) (sym (advances_by_parts clock n w)) here
  where
    here : DeviceStands (record device { clocks = clocks; device_streams = device_streams }) (world_over clock n w)
    here = record {
      function = stands.function;
      controls = stands.controls;
      settings = stands.settings;
      clocks =
          turned
          ∙ ap (map (clock_after_advances clock values n)) stands.clocks
          ∙ sym (over_kept w clock values (rated_in device w clock values stands rated) n w.domains);
      streams = counted;
      unlinked = stands.unlinked;
      inputs = stands.inputs;
      outputs = stands.outputs;
    }
