-- Each line of a script adds little to the counts of a run, so no input has lines enough to bring one near its end.
use Rattle.std.proofs.Common.{◌≡◌, sym, refl, subst, arith, rules, eqb, ℕ, ◌+◌, ◌-◌, ◌*◌, ◌/◌, ◌^◌, ◌<◌, ◌≤◌, ◌==◌, ◌&&◌, ◌||◌, Bool, true, false, if◌then◌else◌, ℤ, pos, negsuc, List, [], ◌∷◌, map, filter, length, sum, Option, Some, None, Result, Ok, Err}
use Rattle.std.specs.List.{All, list_any}
use Rattle.std.proofs.Math.Nat.{min-le_left}
use Rattle.std.specs.Prelude.{int_le}
use Rattle.std.proofs.lemmas.Bool.{and_parts, eqb-true, leb-true}
use Rattle.std.proofs.lemmas.List.{length-map}
use Rattle.std.proofs.lemmas.List.Elements.{All-head, All-map, All-tail, All-weaker}
use Rattle.std.proofs.lemmas.Map.Steps.{length-le_from_distinct_below}
use Rattle.uac_pcm.specs.declared.tones.Tone.{Tone}
use Rattle.uac_descriptor.specs.BlockParsing.{AreBytes}
use Rattle.uac_topology.specs.Function.{FunctionFields}
use Rattle.uac_topology.proofs.TopologySizeLemmas.{small}
use Rattle.uac_store.proofs.StoreControlsSoundLemmas.{keyed}
use Rattle.uac_alt.specs.AltStreams.{StreamFields}
use Rattle.uac_units.specs.Hearing.{Reading}
use Rattle.uac_request.specs.Requests.{after_request, request_state, reply_of, setup_of, sets_interface, is_done_answer}
use Rattle.uac_request.specs.declared.setup.Setup.{Setup}
use Rattle.uac_host.specs.HostWorld.{HostWorld}
use Rattle.uac_device.specs.DeviceWorld.{DeviceWorld, Domain, resting_domain, after_control, after_deviation, fresh, is_input_jack, after_restart, stream_in_setting}
use Rattle.uac_device.specs.DeviceKept.{IsDeviationInRange}
use Rattle.uac_mixer.specs.MixerElements.{fits_element}
use Rattle.uac_mixer.specs.declared.link.When.{When}
use Rattle.uac_mixer.specs.declared.link.When.TheVariants as when
use Rattle.uac_script.specs.Phrase.{Phrase, nothing_line, bytes_line, go_line, control_line, get_line, set_line, show_line, break_line, append_line, track_line, jack_line, deviate_line, microframes_line, detail_line, report_line, is_in_range}
use Rattle.uac_lines.specs.Ranges.{is_id, is_within}
use Rattle.uac_script.specs.Line.{Says}
use Rattle.uac_script.specs.LineParsing.{answer}
use Rattle.uac_script.proofs.LineParsingLemmas.{answer_says}
use Rattle.uac_script.proofs.LineRangeLemmas.{within_means}
use Rattle.uac_ring.specs.declared.counts.StreamCounts.{StreamCounts}
use Rattle.uac_streaming.specs.StreamingWorld.{StreamingWorld, after_following}
use Rattle.uac_device.specs.declared.jacks.Jack.{Jack}
use Rattle.uac_running.specs.RunningWorld.{RunningWorld, at_start, silent_jack, streaming_of, jack_with_tone, with_detail, with_deviation, with_samples_on, with_jack_tone, with_track}
use Rattle.uac_running.specs.RunningNames.{are_frames, natural_of_int}
use Rattle.uac_running.specs.Events.{microframes}
use Rattle.uac_running.specs.ReportLines.{ticks_since}
use Rattle.uac_running.specs.RunningTransfers.{acts, element_named, holds_setting, read_element, set_element, show_element, transfer, after_transfer, with_break}
use Rattle.uac_fault.specs.declared.fault.BusFault.{BusFault}
use Rattle.uac_rows.specs.BusWorld.{Step, BusWorld, describing, done, refused, running, silently, start, step, step_describing, step_running, step_telling, tone_of, unless}
use Rattle.uac_rows.specs.After.{after, and_then, said_step}
use Rattle.uac_promises.proofs.ScriptsStartLemmas.{IsDescribed, describing_is, feeds_bytes}
use Rattle.uac_promises.proofs.ScriptsEarlierLemmas.{on_element_is, unless_is}
use Rattle.uac_promises.specs.Counts.{AreFar, CountsStayFar, IsFar, IsFarFromTheEnd, IsFarIn}
use Rattle.uac_promises.proofs.CountsEventLemmas.{HasCounted, HasGiven, HasMet, HaveCounted, IsTimed, microframes_add, within}

-- ---- the start

-- one of some numbers below a bound
below_all : (most : ℕ) (ns : List ℕ) → All (λ n. n < most) ns → (q : ℕ) → list_any (eqb q) ns ≡ true → q < most
below_all most [] all q is = absurd (cc)
below_all most (n ∷ ns) all q is = by (eqb q n) refl (below_all most ns (All-tail (λ n. n < most) n ns all) q) is
  where
    by : (b : Bool) → eqb q n ≡ b → (list_any (eqb q) ns ≡ true → q < most) → (b || list_any (eqb q) ns) ≡ true → q < most
    by true same later h = subst (λ (m : ℕ). m < most) (sym (eqb-true q n same)) (All-head (λ n. n < most) n ns all)
    by false other later h = later h

-- the ids of entities are bytes, and differ
few_entities : (function : FunctionFields) → IsDescribed function → length function.entities ≤ 256
few_entities function is =
    let ids : List ℕ = map (λ e. e.id) function.entities in
    let few : length ids ≤ 256 = length-le_from_distinct_below ids 256 (keyed function is.sound).apart (below_all 256 ids is.ids) in
    subst (λ (n : ℕ). n ≤ 256) (length-map function.entities (λ e. e.id)) few

resting_timed : (most clock : ℕ) → IsTimed most (resting_domain clock)
resting_timed most clock = record { ticks = omega arith; range = search rules }

none_met : (most : ℕ) → HasMet most (record { under = 0; over = 0; lost = 0; missed = 0 })
none_met most = record { under = omega arith; over = omega arith; lost = omega arith; missed = omega arith }

start_counted : (most : ℕ) (bytes : List ℕ) (function : FunctionFields) (meters : List Reading) → IsDescribed function
    → HasCounted most (at_start bytes function meters)
unfolding at_start fresh
start_counted most bytes function meters is = record {
  streams = record {
    domains = (small function is.sound).0;
    entities = few_entities function is;
    clocks = All-map (IsTimed most) resting_domain function.domains (λ k d below. resting_timed most _);
    met = λ k. none_met most;
  };
  time = omega arith;
  renders = omega arith;
  frames = All-map (HasGiven most) silent_jack (filter is_input_jack function.entities) (λ k d below. zero_given most);
}
  where
    zero_given : (most : ℕ) → 0 ≤ most
    zero_given most = omega arith

-- ---- transfers

-- a control request leaves the function and the domains
asked_counted : (p : Setup) (bytes : List ℕ) (most : ℕ) (w : StreamingWorld) → HaveCounted most w
    → HaveCounted most (record w { device = after_control p bytes w.device })
unfolding after_control after_restart
asked_counted p bytes most w is = by (sets_interface p && is_done_answer (reply_of d.function (request_state d.controls d.settings) p bytes))
  where
    d : DeviceWorld
    d = w.device

    begun : Option StreamFields
    begun = stream_in_setting d.function d.controls p.index p.value

    by : (b : Bool)
        → (let after = after_request d.function (request_state d.controls d.settings) p bytes in
        let asked : DeviceWorld = record d { controls = after.controls; settings = after.settings } in
        HaveCounted most (record w { device = if b then after_restart p.index begun asked else asked }))
    by true = record { domains = is.domains; entities = is.entities; clocks = is.clocks; met = is.met }
    by false = record { domains = is.domains; entities = is.entities; clocks = is.clocks; met = is.met }

followed_counted : (interface most : ℕ) (begun : Option StreamFields) (w : StreamingWorld) → HaveCounted most w
    → HaveCounted most (after_following interface begun w)
unfolding after_following
followed_counted interface most begun w is = record { domains = is.domains; entities = is.entities; clocks = is.clocks; met = is.met }

transfers_counted : (p : Setup) (bytes : List ℕ) (most : ℕ) (r : RunningWorld) → HasCounted most r → HasCounted most (after_transfer p bytes r)
unfolding after_transfer
transfers_counted p bytes most r is =
    record { streams = by (holds_setting p bytes r) r.breaks; time = is.time; renders = is.renders; frames = is.frames }
  where
    begun : Option StreamFields
    begun = stream_in_setting r.device.function r.device.controls p.index p.value

    acted : (pending : Option When)
        → HaveCounted most (record (streaming_of r) { device = acts pending r.device (after_control p bytes r.device) })
    acted None = asked_counted p bytes most (streaming_of r) is.streams
    acted (Some when.Before) = is.streams
    acted (Some when.After) = asked_counted p bytes most (streaming_of r) is.streams

    by : (b : Bool) (pending : Option When)
        → HaveCounted most (let s = record (streaming_of r) { device = acts pending r.device (after_control p bytes r.device) } in
        if b then after_following p.index begun s else s)
    by true pending =
        followed_counted p.index most begun (record (streaming_of r) { device = acts pending r.device (after_control p bytes r.device) }) (acted pending)
    by false pending = acted pending

-- ---- tones and clocks

toned_counted : (terminal : ℕ) (tone : Tone) (most : ℕ) (r : RunningWorld) → HasCounted most r → HasCounted most (with_jack_tone terminal tone r)
unfolding with_jack_tone
toned_counted terminal tone most r is = record {
  streams = is.streams;
  time = is.time;
  renders = is.renders;
  frames = All-map (HasGiven most) (jack_with_tone terminal tone) r.jacks
      (All-weaker (HasGiven most) (λ j. HasGiven most (jack_with_tone terminal tone j)) (λ j given. by j (j.terminal == terminal) given) r.jacks is.frames);
}
  where
    by : (j : Jack) (b : Bool) → HasGiven most j → HasGiven most (if b then record j { tone = tone; place = 0 } else j)
    by j true given = omega arith
    by j false given = given

off_timed : (clock : ℕ) (ppm : ℤ) (most : ℕ) → IsDeviationInRange ppm → (d : Domain) → IsTimed most d
    → IsTimed most (if d.id == clock then record d { deviation = ppm } else d)
off_timed clock ppm most range d is = by (d.id == clock)
  where
    by : (b : Bool) → IsTimed most (if b then record d { deviation = ppm } else d)
    by true = record { ticks = is.ticks; range = range }
    by false = is

deviated_counted : (clock : ℕ) (ppm : ℤ) (most : ℕ) (r : RunningWorld) → IsDeviationInRange ppm → HasCounted most r
    → HasCounted most (with_deviation clock ppm r)
unfolding with_deviation after_deviation
deviated_counted clock ppm most r range is = record {
  streams = record {
    domains = is.streams.domains;
    entities = is.streams.entities;
    clocks = All-map (IsTimed most) (λ (d : Domain). if d.id == clock then record d { deviation = ppm } else d) r.device.domains
        (All-weaker (IsTimed most) (λ (d : Domain). IsTimed most (if d.id == clock then record d { deviation = ppm } else d))
        (off_timed clock ppm most range) r.device.domains is.streams.clocks);
    met = is.streams.met;
  };
  time = is.time;
  renders = is.renders;
  frames = is.frames;
}

-- another host
hosted : (most : ℕ) (r : RunningWorld) (host : HostWorld) → HasCounted most r → HasCounted most (record r { host = host })
hosted most r host is = record {
  streams = record { domains = is.streams.domains; entities = is.streams.entities; clocks = is.streams.clocks; met = is.streams.met };
  time = is.time;
  renders = is.renders;
  frames = is.frames;
}

-- ---- one line

-- a descriptor's bytes are bytes; the counts of a running device go up to a bound
abbrev CountsIn : ℕ → BusWorld → Type 0
CountsIn most (describing bytes meters) = AreBytes bytes
CountsIn most (running r) = HasCounted most r

-- 8,000 microframes at most
abbrev Adds : ℕ → Step → Type 0
Adds most (done next lines) = CountsIn (most + 524288000) next
Adds most (refused fault) = Unit {0}

microframes_few : (count : ℤ) → is_within (pos 1) (pos 8000) count ≡ true → natural_of_int count ≤ 8000
microframes_few (pos n) h = leb-true n 8000 (and_parts (int_le (pos 1) (pos n)) (int_le (pos n) (pos 8000)) h).1
microframes_few (negsuc n) h = omega arith

module _ (most : ℕ) (r : RunningWorld) (is : HasCounted most r) where
  refused_adds : (fault : BusFault) → Adds most (refused fault)
  refused_adds fault = tt

  more : HasCounted (most + 524288000) r
  more = within most (most + 524288000) (omega arith) r is

  running_adds : (phrase : Phrase) → is_in_range phrase ≡ true → Adds most (step_running r phrase)
  unfolding transfer read_element set_element show_element with_break with_samples_on with_track with_detail
  running_adds nothing_line range = more
  running_adds (bytes_line bytes) range = tt
  running_adds go_line range = tt
  running_adds (control_line setup sent) range = transfers_counted (setup_of setup) sent _ r more
  running_adds (get_line name) range =
      on_element_is (Adds most) refused_adds (element_named r name) (λ x. step_telling (read_element x r)) (λ x. transfers_counted _ _ _ r more)
  running_adds (set_line name value) range =
      on_element_is (Adds most) refused_adds (element_named r name) (λ x. unless (fits_element x.kind value) 7 (step_telling (set_element x value r)))
      (λ x. unless_is (Adds most) refused_adds (fits_element x.kind value) 7 (step_telling (set_element x value r)) (transfers_counted _ _ _ r more))
  running_adds (show_line name) range =
      on_element_is (Adds most) refused_adds (element_named r name) (λ x. step_telling (show_element x r)) (λ x. more)
  running_adds (break_line later) range = record { streams = more.streams; time = more.time; renders = more.renders; frames = more.frames }
  running_adds (append_line number samples) range =
      unless_is (Adds most) refused_adds _ 6
      (unless (are_frames r.device.function (natural_of_int number) (length samples)) 7
      (silently (running (with_samples_on (natural_of_int number) samples r))))
      (unless_is (Adds most) refused_adds _ 7 (silently (running (with_samples_on (natural_of_int number) samples r))) (hosted _ r _ more))
  running_adds (track_line number tone) range =
      unless_is (Adds most) refused_adds _ 6 (silently (running (with_track (natural_of_int number) (tone_of tone) r))) (hosted _ r _ more)
  running_adds (jack_line terminal tone) range =
      unless_is (Adds most) refused_adds _ 6 (silently (running (with_jack_tone (natural_of_int terminal) (tone_of tone) r)))
      (toned_counted (natural_of_int terminal) (tone_of tone) _ r more)
  running_adds (deviate_line clock ppm) range =
      unless_is (Adds most) refused_adds _ 6 (silently (running (with_deviation (natural_of_int clock) ppm r)))
      (deviated_counted (natural_of_int clock) ppm _ r (within_means (negsuc 99999) (pos 100000) ppm (and_parts (is_id clock) _ range).1) more)
  running_adds (microframes_line count marks) range =
      unless_is (Adds most) refused_adds _ 6 (step_telling (microframes marks (natural_of_int count) r))
      (microframes_add marks (natural_of_int count) most (most + 524288000) r
      (omega (arith, microframes_few count (and_parts (is_within (pos 1) (pos 8000) count) _ range).0)) is)
  running_adds (detail_line level) range = record { streams = more.streams; time = more.time; renders = more.renders; frames = more.frames }
  running_adds report_line range = more

describing_adds : (most : ℕ) (bytes : List ℕ) (meters : List Reading) (phrase : Phrase) → AreBytes bytes
    → ((more : List ℕ) → phrase ≡ bytes_line more → AreBytes more) → Adds most (step_describing bytes meters phrase)
describing_adds most bytes meters =
    describing_is (λ phrase s. Adds most s) (λ phrase fault. tt) bytes meters (λ are. are) (λ more now are. are)
    (λ function is. start_counted (most + 524288000) bytes function meters is)

step_adds : (most : ℕ) (phrase : Phrase) (w : BusWorld) → CountsIn most w → is_in_range phrase ≡ true
    → ((more : List ℕ) → phrase ≡ bytes_line more → AreBytes more) → Adds most (step phrase w)
unfolding step
step_adds most phrase (describing bytes meters) is range feed = describing_adds most bytes meters phrase is feed
step_adds most phrase (running r) is range feed = running_adds most r is phrase range

said_adds : (most : ℕ) (text : List ℕ) (w : BusWorld) → CountsIn most w → Adds most (said_step (answer text) w)
said_adds most text w is = by (answer text) refl
  where
    by : (said : Result Phrase ℕ) → answer text ≡ said → Adds most (said_step said w)
    by (Ok phrase) same =
        step_adds most phrase w is (let says : Says text (Ok phrase) = subst (Says text) same (answer_says text) in says.1)
        (λ more fed. feeds_bytes text more (let all : answer text ≡ Ok (bytes_line more) = cc in all))
    by (Err rule) same = tt

-- ---- lines in a row

counts_within : (most limit : ℕ) → most ≤ limit → (w : BusWorld) → CountsIn most w → CountsIn limit w
counts_within most limit up (describing bytes meters) is = is
counts_within most limit up (running r) is = within most limit up r is

lines_add : (texts : List (List ℕ)) (most limit : ℕ) (w : BusWorld) → most + length texts * 524288000 ≤ limit → CountsIn most w
    → CountsIn limit (after (map answer texts) w).world
unfolding after
lines_add [] most limit w few is = counts_within most limit (omega arith) w is
lines_add (text ∷ texts) most limit w few is =
    by (said_step (answer text) w) (said_adds most text w is)
    (λ next counts. lines_add texts (most + 524288000) limit next (omega arith) counts)
  where
    by : (s : Step) → Adds most s
        → ((next : BusWorld) → CountsIn (most + 524288000) next → CountsIn limit (after (map answer texts) next).world)
        → CountsIn limit (and_then s w (after (map answer texts))).world
    by (done next lines) adds rest = rest next adds
    by (refused fault) adds rest = counts_within most limit (omega arith) w is

-- ---- far from the end

module _ (most : ℕ) (low : most < 2 ^ 63) where
  far : (count : ℕ) → count ≤ most → IsFar count
  far count few = omega (arith, low, few)

  met_far : (c : StreamCounts) → HasMet most c → AreFar c
  met_far c is = record { under = far c.under is.under; over = far c.over is.over; lost = far c.lost is.lost; missed = far c.missed is.missed }

  ticks_far : (d : Domain) → IsTimed most d → IsFar (ticks_since d)
  ticks_far d is = far (ticks_since d) (let cut = min-le_left (sum d.steps / 65536) (2 ^ 64 - 1) in omega (arith, cut, is.ticks))

  run_far : (r : RunningWorld) → HasCounted most r → IsFarFromTheEnd r
  run_far r is = record {
    time = far r.time is.time;
    ticks = All-weaker (IsTimed most) (λ (d : Domain). IsFar (ticks_since d)) ticks_far r.device.domains is.streams.clocks;
    renders = far r.renders is.renders;
    frames = All-weaker (HasGiven most) (λ (j : Jack). IsFar j.place) (λ j given. far j.place given) r.jacks is.frames;
    met = λ k. met_far (r.met k) (is.streams.met k);
  }

  far_in : (w : BusWorld) → CountsIn most w → IsFarIn w
  far_in (describing bytes meters) is = tt
  far_in (running r) is = run_far r is

pub counts_stay_far : CountsStayFar
counts_stay_far texts shown few =
    far_in 140737488355328000 (omega arith) (after (map answer texts) (start shown)).world
    (lines_add texts 0 140737488355328000 (start shown) (omega (arith, few)) (λ i. no_bytes i))
  where
    no_bytes : AreBytes []
    no_bytes i = search rules
