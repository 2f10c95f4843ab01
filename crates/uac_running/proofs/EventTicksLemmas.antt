-- Several ticks of a domain of a running device, part by part.
use Rattle.std.proofs.Common.{◌≡◌, ◌∙◌, sym, refl, ap, arith, ℕ, zero, suc, ◌+◌, ◌*◌, ◌^◌, ◌<◌, ◌≤◌, ◌==◌, eqb, nat_le, Bool, true, false, if◌then◌else◌, ℤ, List, [], ◌∷◌, ◌++◌, Some, None, map, append_assoc}
use Rattle.std.specs.List.{fold}
use Rattle.std.specs.Option.{option_map_or}
use Rattle.std.proofs.Math.Path.{fun_ext}
use Rattle.std.proofs.lemmas.Bool.{ne_eqb}
use Rattle.std.proofs.lemmas.List.{append-nil}
use Rattle.uac_units.specs.Hearing.{at_most_u64}
use Rattle.uac_device.specs.DeviceWorld.{DeviceWorld, after_frames, after_tick, heard_of, renders_of, set_jack}
use Rattle.uac_device.specs.DeviceTicks.{Tones, after_tick_times, after_tones, heard_at, readings_after}
use Rattle.uac_device.proofs.DeviceTicksLemmas.{heard_by_tick, renders_same}
use Rattle.uac_device.proofs.JacksLemmas.{domain_after, terminal_after}
use Rattle.uac_transcript.specs.Transcript.{Said}
use Rattle.uac_streaming.specs.Telling.{Telling, telling_after, without_event}
use Rattle.uac_streaming.specs.StreamingWorld.{found_counts, found_lines}
use Rattle.uac_device.specs.declared.jacks.Jack.{Jack}
use Rattle.uac_device.specs.Jacks.{after_one, jack_after, next_frame, tone_with, tones_of}
use Rattle.uac_running.specs.RunningWorld.{RunningWorld}
use Rattle.uac_running.specs.ReportLines.{played_lines}
use Rattle.uac_running.specs.Events.{after_all_jacks, after_jacks, jacks_after_frame, tick, tick_times}
use Rattle.uac_running.specs.EventTicks.{device_after, device_before, jacks_after, lines_after, lines_at, met_after, renders_after, running_after, ticks_told}

-- ---- jacks

-- a jack of another domain stays
pub other_after : (domain t : ℕ) (j : Jack) → (j.domain ≡ domain → ⊥) → jack_after domain t j ≡ j
unfolding jack_after
other_after domain zero j other = refl
other_after domain (suc t) j other =
    ap (after_one domain) (other_after domain t j other) ∙ rw (ne_eqb j.domain domain other) refl

pub jacks_each : (domain t : ℕ) (jacks : List Jack) → jacks_after domain t jacks ≡ map (jack_after domain t) jacks
unfolding jacks_after jack_after
jacks_each domain zero jacks = each jacks
  where
    each : (js : List Jack) → js ≡ map (λ j. j) js
    each [] = refl
    each (j ∷ js) = ap (λ (ks : List Jack). j ∷ ks) (each js)
jacks_each domain (suc t) jacks = ap (jacks_after_frame domain) (jacks_each domain t jacks) ∙ each jacks
  where
    each : (js : List Jack) → map (after_one domain) (map (jack_after domain t) js) ≡ map (λ j. after_one domain (jack_after domain t j)) js
    each [] = refl
    each (j ∷ js) = ap (λ (ks : List Jack). after_one domain (jack_after domain t j) ∷ ks) (each js)

pub jacks_once : (domain : ℕ) (jacks : List Jack) → jacks_after domain 1 jacks ≡ jacks_after_frame domain jacks
unfolding jacks_after
jacks_once domain jacks = refl

-- a jack of the domain gives its frame
gives_one : (domain t : ℕ) (tones : Tones) (j : Jack) (w : DeviceWorld) → (j.domain == domain) ≡ true
    → set_jack (jack_after domain t j).terminal (next_frame (jack_after domain t j)) (after_tones tones t w) ≡ after_tones (λ id. tone_with domain id (tones id) j) t w
unfolding set_jack after_tones
gives_one domain t tones j w own =
    ap (λ (f : ℕ → List ℤ). record w { given = f })
    (fun_ext
    (λ id.
    (ap
    (λ (n : ℕ). if id == n then next_frame (jack_after domain t j) else option_map_or (λ frames. frames t) (tones id) (w.given id))
    (terminal_after domain t j)
    ∙ rw own (by id (id == j.terminal)))))
  where
    by : (id : ℕ) (b : Bool) → (if b then next_frame (jack_after domain t j) else option_map_or (λ frames. frames t) (tones id) (w.given id))
        ≡ option_map_or (λ frames. frames t) (if b then Some (λ u. next_frame (jack_after domain u j)) else tones id) (w.given id)
    by id true = refl
    by id false = refl

gives_all : (domain t : ℕ) (jacks : List Jack) (tones : Tones) (w : DeviceWorld)
    → after_jacks domain (map (jack_after domain t) jacks) (after_tones tones t w) ≡ after_tones (λ id. fold (tone_with domain id) (tones id) jacks) t w
gives_all domain t [] tones w = refl
gives_all domain t (j ∷ js) tones w = by (j.domain == domain) refl (λ given. gives_all domain t js given w)
  where
    by : (b : Bool) → (j.domain == domain) ≡ b
        → ((given : Tones) → after_jacks domain (map (jack_after domain t) js) (after_tones given t w) ≡ after_tones (λ id. fold (tone_with domain id) (given id) js) t w)
        → after_jacks domain (map (jack_after domain t) (j ∷ js)) (after_tones tones t w) ≡ after_tones (λ id. fold (tone_with domain id) (tones id) (j ∷ js)) t w
    by true own rest =
        rw (ap (λ (n : ℕ). eqb n domain) (domain_after domain t j) ∙ own)
        (ap (after_jacks domain (map (jack_after domain t) js)) (gives_one domain t tones j w own)
        ∙ rest (λ id. tone_with domain id (tones id) j))
    by false other rest =
        rw (ap (λ (n : ℕ). eqb n domain) (domain_after domain t j) ∙ other)
        (rest tones
        ∙ ap (λ (f : Tones). after_tones (λ id. fold (tone_with domain id) (f id) js) t w) (fun_ext (λ id. rw other refl)))

pub jacks_give : (domain t : ℕ) (jacks : List Jack) (w : DeviceWorld) → after_jacks domain (jacks_after domain t jacks) w ≡ after_tones (tones_of domain jacks) t w
unfolding after_tones
jacks_give domain t jacks w =
    ap (λ (js : List Jack). after_jacks domain js w) (jacks_each domain t jacks) ∙ gives_all domain t jacks (λ id. None) w

-- ---- tick by tick

-- the world after one tick more
tick_world : (domain t : ℕ) (r : RunningWorld) → (tick domain (running_after domain t r)).world ≡ running_after domain (suc t) r
unfolding tick running_after after_all_jacks jacks_after met_after renders_after readings_after after_tick_times
tick_world domain t r =
    ap
    (λ (w : DeviceWorld). record r {
      device = after_tick domain w;
      jacks = jacks_after_frame domain (jacks_after domain t r.jacks);
      met = found_counts domain w (met_after domain t r);
      meters = after_frames (heard_of domain (after_tick domain w)) (readings_after domain (tones_of domain r.jacks) r.device t r.meters);
      renders = at_most_u64 (renders_after domain t r + renders_of domain w);
    })
    (jacks_give domain t r.jacks (device_after domain t r))
    ∙ ap
    (λ (heard : List (List ℤ)). record r {
      device = device_after domain (suc t) r;
      jacks = jacks_after_frame domain (jacks_after domain t r.jacks);
      met = found_counts domain (device_before domain t r) (met_after domain t r);
      meters = after_frames heard (readings_after domain (tones_of domain r.jacks) r.device t r.meters);
      renders = at_most_u64 (renders_after domain t r + renders_of domain (device_before domain t r));
    })
    (heard_by_tick domain (tones_of domain r.jacks) t r.device)
    ∙ ap
    (λ (n : ℕ). record r {
      device = device_after domain (suc t) r;
      jacks = jacks_after_frame domain (jacks_after domain t r.jacks);
      met = found_counts domain (device_before domain t r) (met_after domain t r);
      meters = after_frames (heard_at domain (tones_of domain r.jacks) r.device t) (readings_after domain (tones_of domain r.jacks) r.device t r.meters);
      renders = at_most_u64 (renders_after domain t r + n);
    })
    (renders_same domain (tones_of domain r.jacks) t r.device)

tick_lines : (domain t : ℕ) (r : RunningWorld) → (tick domain (running_after domain t r)).lines ≡ lines_at domain t r
unfolding tick running_after after_all_jacks lines_at after_tick_times
tick_lines domain t r =
    ap (λ (w : DeviceWorld). found_lines domain w ++ (if nat_le 1 r.detail then played_lines domain (after_tick domain w) else []))
    (jacks_give domain t r.jacks (device_after domain t r))

-- one tick more, at the end of those that were
times_more : (n domain : ℕ) (r : RunningWorld)
    → tick_times (suc n) domain r
    ≡ record { lines = (tick_times n domain r).lines ++ (tick domain (tick_times n domain r).world).lines; world = (tick domain (tick_times n domain r).world).world }
unfolding tick_times
times_more zero domain r = ap (λ (lines : List Said). record { lines = lines; world = (tick domain r).world }) (append-nil (tick domain r).lines)
times_more (suc n) domain r =
    ap (telling_after (tick domain r).lines) (times_more n domain (tick domain r).world)
    ∙ ap (λ (lines : List Said). record {
      lines = lines;
      world = (tick domain (tick_times n domain (tick domain r).world).world).world;
    })
    (sym (append_assoc (tick domain r).lines (tick_times n domain (tick domain r).world).lines (tick domain (tick_times n domain (tick domain r).world).world).lines))

told_none : (domain : ℕ) (r : RunningWorld) → without_event r ≡ ticks_told domain 0 r
unfolding running_after after_tick_times jacks_after met_after renders_after readings_after lines_after
told_none domain r = refl

told_more : (domain t : ℕ) (r : RunningWorld)
    → record {
      lines = lines_after domain t r ++ (tick domain (running_after domain t r)).lines;
      world = (tick domain (running_after domain t r)).world;
    }
    ≡ ticks_told domain (suc t) r
unfolding lines_after
told_more domain t r =
    ap (λ (lines : List Said). record { lines = lines_after domain t r ++ lines; world = (tick domain (running_after domain t r)).world }) (tick_lines domain t r)
    ∙ ap (λ (world : RunningWorld). record { lines = lines_after domain t r ++ lines_at domain t r; world = world }) (tick_world domain t r)

pub ticks_by_parts : (n domain : ℕ) (r : RunningWorld) → tick_times n domain r ≡ ticks_told domain n r
unfolding tick_times
ticks_by_parts zero domain r = told_none domain r
ticks_by_parts (suc n) domain r =
    times_more n domain r
    ∙ ap (λ (told : Telling RunningWorld). record { lines = told.lines ++ (tick domain told.world).lines; world = (tick domain told.world).world }) (ticks_by_parts n domain r)
    ∙ told_more domain n r

-- ---- renders

times_one_more : (t n : ℕ) → suc t * n ≡ t * n + n
times_one_more t n = grind arith

saturated : (a b c d : ℕ) → d ≡ b + c → at_most_u64 (at_most_u64 (a + b) + c) ≡ at_most_u64 (a + d)
saturated a b c d e = omega (arith, e)

pub renders_many : (domain t : ℕ) (r : RunningWorld) → r.renders < 2 ^ 64
    → renders_after domain t r ≡ at_most_u64 (r.renders + t * renders_of domain r.device)
unfolding renders_after
renders_many domain zero r few = omega (arith, few)
renders_many domain (suc t) r few =
    ap (λ (k : ℕ). at_most_u64 (k + renders_of domain r.device)) (renders_many domain t r few)
    ∙ saturated r.renders (t * renders_of domain r.device) (renders_of domain r.device) (suc t * renders_of domain r.device)
    (times_one_more t (renders_of domain r.device))

once : (n : ℕ) → n ≡ 1 * n
once n = grind arith

-- from the first on, whatever the count was
pub renders_some : (domain t : ℕ) (r : RunningWorld) → 1 ≤ t → renders_after domain t r ≡ at_most_u64 (r.renders + t * renders_of domain r.device)
unfolding renders_after
renders_some domain zero r some = absurd (omega (arith, some))
renders_some domain (suc zero) r some = ap (λ (n : ℕ). at_most_u64 (r.renders + n)) (once (renders_of domain r.device))
renders_some domain (suc (suc t)) r some =
    ap (λ (k : ℕ). at_most_u64 (k + renders_of domain r.device)) (renders_some domain (suc t) r (omega arith))
    ∙ saturated r.renders (suc t * renders_of domain r.device) (renders_of domain r.device) (suc (suc t) * renders_of domain r.device)
    (times_one_more (suc t) (renders_of domain r.device))
