-- Each event of a running device, from what its parts are seen to do.
use Rattle.std.proofs.Common.{◌≡◌, ◌∙◌, sym, ap, subst, refl, arith, ℕ, suc, ◌+◌, ◌-◌, ◌<◌, ◌≤◌, ◌==◌, nat_le, eqb, Bool, true, if◌then◌else◌, ℤ, List, [], ◌∷◌, ◌++◌, length, map, drop, get_or, Option, Some, Result, Ok, Err, inl, inr, drop-cons, add-one}
use Rattle.std.specs.List.{IsDistinct}
use Rattle.std.proofs.lemmas.Bool.{cases_Bool}
use Rattle.std.proofs.lemmas.List.{drop_all}
use Rattle.uac_pcm.specs.declared.tones.Tone.{Tone}
use Rattle.uac_units.specs.Hearing.{Reading, at_most_u64}
use Rattle.uac_rate.specs.Steadiness as steadiness
use Rattle.uac_device.specs.DeviceKept as device
use Rattle.uac_device.specs.DeviceWorld.{DeviceWorld, after_advance, after_frames, after_deviation, heard_of, met_of, next_ticks, renders_of, set_jack, after_tick}
use Rattle.uac_device.specs.DeviceSums.{after_advances, ticks_over}
use Rattle.uac_device.proofs.DeviceSumsLemmas.{advances_by_parts}
use Rattle.uac_device.specs.declared.ticking.Ticked.{Ticked}
use Rattle.uac_script.specs.Phrase.{PhraseMark}
use Rattle.uac_transcript.specs.Printing.{Prints, text_of}
use Rattle.uac_transcript.proofs.PrintingLemmas.{front_after, front_of_more}
use Rattle.uac_edges.specs.Writing.{AppendsFront}
use Rattle.std.specs.Io.KnownBytes.{Appends}
use Rattle.uac_streaming.specs.Room.{HaveRoom}
use Rattle.uac_streaming.specs.StreamingKept as streaming
use Rattle.uac_streaming.specs.Telling.{Telling, telling_after, without_event}
use Rattle.uac_host.specs.HostWorld.{HostWorld}
use Rattle.uac_streaming.specs.StreamingKept.{StreamingFields}
use Rattle.uac_streaming.specs.StreamingWorld.{StreamingWorld, found_counts, found_lines, met_in, numbers, numbers_in, numbers_out}
use Rattle.uac_running.specs.declared.counts.TickCount.{TickCount}
use Rattle.uac_device.specs.declared.jacks.Jack.{Jack}
use Rattle.uac_topology.specs.Function.{FunctionFields}
use Rattle.uac_mixer.specs.ViewWorld.{IsViewOf, ViewWorld}
use Rattle.uac_running.specs.RunningWorld.{RunningWorld, streaming_of, jack_with_tone, with_detail, with_deviation, with_streaming, with_jack_tone}
use Rattle.uac_running.specs.ReportLines.{played_lines}
pub use Rattle.uac_running.specs.Ahead.{numbered}
use Rattle.uac_running.specs.Events.{after_all_jacks, domain_microframe, domain_microframes, ends_and_feedback, followed_by, after_jacks, jacks_after_frame, microframe, microframes, next_frame, number_said, of_streams, packets_and_ticks, tick, tick_times}
use Rattle.uac_running.specs.RunningTransfers.{break_at, with_break}
use Rattle.uac_running.specs.RunningKept.{RunningFields, RunningStands, RunningStandsBetween, RunningTells, RunningTellsBetween}
use Rattle.uac_running.specs.TickCounts.{tick_count_of, more_counted}
use Rattle.uac_running.specs.Silence.{AreAtRest}
use Rattle.uac_running.proofs.RunningKeptLemmas.{clocks_of, tick_count_of-off, tick_count_of-over}
use Rattle.uac_running.proofs.TellingLemmas.{at_ok, front_then, ok_then, tells_following, tells_then}

-- ---- events one after the other

pub ticks_split : (count i clock : ℕ) (w : RunningWorld) → i < count → tick_times (count - i) clock w ≡ telling_after (tick clock w).lines (tick_times (count - (i + 1)) clock (tick clock w).world)
unfolding tick_times
ticks_split count i clock w below = let left : count - i ≡ suc (count - (i + 1)) = omega arith in ap (λ n. tick_times n clock w) left

pub ticks_end : (count i clock : ℕ) (w : RunningWorld) → count ≤ i → tick_times (count - i) clock w ≡ without_event w
unfolding tick_times
ticks_end count i clock w past = let left : count - i ≡ 0 = omega arith in ap (λ n. tick_times n clock w) left

pub microframes_split : (marks : List PhraseMark) (count i : ℕ) (w : RunningWorld) → i < count
    → microframes marks (count - i) w ≡ telling_after (microframe marks w).lines (microframes marks (count - (i + 1)) (microframe marks w).world)
unfolding microframes
microframes_split marks count i w below = let left : count - i ≡ suc (count - (i + 1)) = omega arith in ap (λ n. microframes marks n w) left

pub microframes_end : (marks : List PhraseMark) (count i : ℕ) (w : RunningWorld) → count ≤ i → microframes marks (count - i) w ≡ without_event w
unfolding microframes
microframes_end marks count i w past = let left : count - i ≡ 0 = omega arith in ap (λ n. microframes marks n w) left

pub domains_split : (clocks : List ℕ) (i : ℕ) (w : RunningWorld) → i < length clocks
    → domain_microframes (drop i clocks) w ≡ telling_after (domain_microframe (get_or clocks i 0) w).lines (domain_microframes (drop (i + 1) clocks) (domain_microframe (get_or clocks i 0) w).world)
unfolding domain_microframes
domains_split clocks i w below = ap (λ (cs : List ℕ). domain_microframes cs w) (drop-cons clocks i 0 below) ∙ rw add-one refl

pub domains_end : (clocks : List ℕ) (i : ℕ) (w : RunningWorld) → length clocks ≤ i → domain_microframes (drop i clocks) w ≡ without_event w
unfolding domain_microframes
domains_end clocks i w past = ap (λ (cs : List ℕ). domain_microframes cs w) (drop_all i clocks past)

-- what the host knows, and what is answered of the configuration, is as it was
pub record IsBeside (p q : RunningFields) : Type 0 where
  pub view : q.view ≡ p.view
  pub configuration : q.configuration ≡ p.configuration
  pub breaks : q.breaks ≡ p.breaks

-- the elements are still those of the function
pub view_still : (f f' : FunctionFields) (view : ViewWorld) → f' ≡ f → IsViewOf f.entities view → IsViewOf f'.entities view
view_still f f' view same is = subst (λ (g : FunctionFields). IsViewOf g.entities view) (sym same) is

-- the host's streams stand beside another world of the device, of the same function
pub stands_beside : (s : StreamingFields) (d e : device.DeviceFields) (w : StreamingWorld) (v : DeviceWorld) → streaming.StreamingStands s d w → device.DeviceStands e v → v.function ≡ w.device.function
    → streaming.StreamingStands s e (record w { device = v })
stands_beside s d e w v stands kept same = record {
  device = kept;
  host = stands.host;
  same = stands.same ∙ sym same;
  order = stands.order ∙ ap numbers (sym same);
  outs = stands.outs ∙ ap numbers_out (sym same);
  ins = stands.ins ∙ ap numbers_in (sym same);
  met = stands.met ∙ ap (met_in w.met) (sym same);
  steady = stands.steady;
}

-- ---- the device and its counts under events

module _ (meters : List Reading) (r : RunningWorld) (p q : RunningFields) (stands : RunningStands p meters r) where
  pub passed_by : (n : ℕ) → q ≡ record p { time = at_most_u64 (p.time + n) } → RunningStands q meters (record r { time = at_most_u64 (r.time + n) })
  passed_by n is =
      let P : RunningFields → Type 0 = λ x. RunningStands x meters (record r { time = at_most_u64 (r.time + n) }) in
      subst P (sym is)
      (record {
        streaming = stands.streaming;
        view = stands.view;
        configuration = stands.configuration;
        breaks = stands.breaks;
        jacks = stands.jacks;
        counts = stands.counts;
        time = ap (λ k. at_most_u64 (k + n)) stands.time;
        detail = stands.detail;
        meters = stands.meters;
        renders = stands.renders;
      })

  pub passed : q ≡ record p { time = at_most_u64 (p.time + 1) } → RunningStands q meters (record r { time = at_most_u64 (r.time + 1) })
  passed is = passed_by 1 is

  pub detailed : (level : ℕ) → q ≡ record p { detail = level } → RunningStands q meters (with_detail level r)
  unfolding with_detail
  detailed level is =
      let P : RunningFields → Type 0 = λ x. RunningStands x meters (with_detail level r) in
      subst P (sym is)
      (record {
        streaming = stands.streaming;
        view = stands.view;
        configuration = stands.configuration;
        breaks = stands.breaks;
        jacks = stands.jacks;
        counts = stands.counts;
        time = stands.time;
        detail = refl;
        meters = stands.meters;
        renders = stands.renders;
      })

  pub broke : (after : Bool) → q ≡ record p { breaks = Some (break_at after) } → RunningStands q meters (with_break after r)
  unfolding with_break
  broke after is =
      let P : RunningFields → Type 0 = λ x. RunningStands x meters (with_break after r) in
      subst P (sym is)
      (record {
        streaming = stands.streaming;
        view = stands.view;
        configuration = stands.configuration;
        breaks = refl;
        jacks = stands.jacks;
        counts = stands.counts;
        time = stands.time;
        detail = stands.detail;
        meters = stands.meters;
        renders = stands.renders;
      })

  pub toned_on : (terminal : ℕ) (tone : Tone) (jacks : List Jack) → jacks ≡ map (jack_with_tone terminal tone) p.jacks → q ≡ record p { jacks = jacks } → RunningStands q meters (with_jack_tone terminal tone r)
  unfolding with_jack_tone
  toned_on terminal tone jacks changed is =
      let P : RunningFields → Type 0 = λ x. RunningStands x meters (with_jack_tone terminal tone r) in
      subst P (sym is)
      (record {
        streaming = stands.streaming;
        view = stands.view;
        configuration = stands.configuration;
        breaks = stands.breaks;
        jacks = changed ∙ ap (map (jack_with_tone terminal tone)) stands.jacks;
        counts = stands.counts;
        time = stands.time;
        detail = stands.detail;
        meters = stands.meters;
        renders = stands.renders;
      })

  pub off : (clock : ℕ) (ppm : ℤ) → device.DeviceStands q.device (after_deviation clock ppm r.device)
      → ((w : StreamingWorld) → streaming.StreamingStands p.streaming q.device w → streaming.StreamingStands q.streaming q.device (record w { history = steadiness.with_deviation_given ppm w.history }))
      → q.jacks ≡ p.jacks → q.counts ≡ p.counts → q.time ≡ p.time → q.detail ≡ p.detail → q.renders ≡ p.renders → IsBeside p q → RunningStands q meters (with_deviation clock ppm r)
  unfolding with_deviation after_deviation
  off clock ppm kept gives jacks counts time detail renders beside = record {
    streaming = gives (record (streaming_of r) { device = after_deviation clock ppm r.device }) (stands_beside p.streaming p.device q.device (streaming_of r) (after_deviation clock ppm r.device) stands.streaming kept refl);
    view = beside.view ∙ stands.view;
    configuration = beside.configuration ∙ stands.configuration;
    breaks = beside.breaks ∙ stands.breaks;
    jacks = jacks ∙ stands.jacks;
    counts = counts ∙ stands.counts ∙ sym (tick_count_of-off clock ppm r.device.domains);
    time = time ∙ stands.time;
    detail = detail ∙ stands.detail;
    meters = stands.meters;
    renders = renders ∙ stands.renders;
  }

  pub advanced_over : (clock n ticks : ℕ) → device.DeviceStands q.device (after_advances clock n r.device) → ticks ≡ ticks_over clock n r.device
      → IsDistinct eqb (clocks_of p.counts) → q.streaming ≡ p.streaming → q.counts ≡ map (more_counted clock ticks) p.counts
      → q.jacks ≡ p.jacks → q.time ≡ p.time → q.detail ≡ p.detail → q.renders ≡ p.renders → IsBeside p q
      → RunningStands q meters (record r { device = after_advances clock n r.device })
  advanced_over clock n ticks kept is once same counts jacks time detail renders beside = record {
    streaming = subst (λ (s : StreamingFields). streaming.StreamingStands s q.device (record (streaming_of r) { device = after_advances clock n r.device })) (sym same)
        (stands_beside p.streaming p.device q.device (streaming_of r) (after_advances clock n r.device) stands.streaming kept
        (ap (λ (w : DeviceWorld). w.function) (advances_by_parts clock n r.device)));
    view = beside.view ∙ stands.view;
    configuration = beside.configuration ∙ stands.configuration;
    breaks = beside.breaks ∙ stands.breaks;
    jacks = jacks ∙ stands.jacks;
    counts =
        counts
        ∙ ap (map (more_counted clock ticks)) stands.counts
        ∙ ap (λ (k : ℕ). map (more_counted clock k) (map tick_count_of r.device.domains)) is
        ∙ tick_count_of-over clock n r.device (subst (λ (cs : List TickCount). IsDistinct eqb (clocks_of cs)) stands.counts once);
    time = time ∙ stands.time;
    detail = detail ∙ stands.detail;
    meters = stands.meters;
    renders = renders ∙ stands.renders;
  }

  -- the host's part alone is another
  pub hosted : (host : HostWorld) → streaming.StreamingStands q.streaming q.device (record (streaming_of r) { host = host })
      → q.jacks ≡ p.jacks → q.counts ≡ p.counts → q.time ≡ p.time → q.detail ≡ p.detail → q.renders ≡ p.renders → IsBeside p q → RunningStands q meters (record r { host = host })
  hosted host kept jacks counts time detail renders beside = record {
    streaming = kept;
    view = beside.view ∙ stands.view;
    configuration = beside.configuration ∙ stands.configuration;
    breaks = beside.breaks ∙ stands.breaks;
    jacks = jacks ∙ stands.jacks;
    counts = counts ∙ stands.counts;
    time = time ∙ stands.time;
    detail = detail ∙ stands.detail;
    meters = stands.meters;
    renders = renders ∙ stands.renders;
  }

  -- what happens to the streams leaves the domains, and all else
  pub streamed : (w : StreamingWorld) → streaming.StreamingStands q.streaming q.device w → w.device.domains ≡ r.device.domains
      → q.jacks ≡ p.jacks → q.counts ≡ p.counts → q.time ≡ p.time → q.detail ≡ p.detail → q.renders ≡ p.renders → IsBeside p q → RunningStands q meters (with_streaming r w)
  streamed w kept same jacks counts time detail renders beside = record {
    streaming = kept;
    view = beside.view ∙ stands.view;
    configuration = beside.configuration ∙ stands.configuration;
    breaks = beside.breaks ∙ stands.breaks;
    jacks = jacks ∙ stands.jacks;
    counts = counts ∙ stands.counts ∙ ap (map tick_count_of) (sym same);
    time = time ∙ stands.time;
    detail = detail ∙ stands.detail;
    meters = stands.meters;
    renders = renders ∙ stands.renders;
  }

  -- what is told of them is told of the running device
  pub streams_told : {E : Type 0} (event : StreamingWorld → Telling StreamingWorld) (old new : Option (List ℕ)) (result : Result (Unit {0}) E)
      → streaming.StreamingTells (event (streaming_of r)) q.streaming q.device old new result → (event (streaming_of r)).world.device.domains ≡ r.device.domains
      → q.jacks ≡ p.jacks → q.counts ≡ p.counts → q.time ≡ p.time → q.detail ≡ p.detail → q.renders ≡ p.renders → IsBeside p q → RunningTells (of_streams event r) q meters old new result
  streams_told event old new (Ok u) told same jacks counts time detail renders beside = (told.0, streamed (event (streaming_of r)).world told.1 same jacks counts time detail renders beside)
  streams_told event old new (Err e) told same jacks counts time detail renders beside = (told.0, tt)

-- giving frames leaves all that setting a jack leaves
pub after_jacks-kept : {X : Type 0} (f : DeviceWorld → X) → ((terminal : ℕ) (frame : List ℤ) (w : DeviceWorld) → f (set_jack terminal frame w) ≡ f w)
    → (clock : ℕ) (jacks : List Jack) (w : DeviceWorld) → f (after_jacks clock jacks w) ≡ f w
after_jacks-kept f keeps clock [] w = refl
after_jacks-kept f keeps clock (j ∷ js) w =
    elim (cases_Bool (j.domain == clock)) [
      | inl same ↦ rw same (after_jacks-kept f keeps clock js (set_jack j.terminal (next_frame j) w) ∙ keeps j.terminal (next_frame j) w)
      | inr other ↦ rw other (after_jacks-kept f keeps clock js w)
    ]

-- the device's world after the jacks of a domain gave
abbrev pub gave : ℕ → RunningWorld → DeviceWorld
gave clock r = after_jacks clock r.jacks r.device

-- the jacks of the world gave
jacks_gave : (rest : Bool) (clock : ℕ) (r : RunningWorld) (jacks : List Jack) (mid : device.DeviceFields) → jacks ≡ r.jacks → (rest ≡ true → AreAtRest clock r.jacks r.device)
    → ((rest ≡ true → AreAtRest clock jacks r.device) → device.DeviceStands mid (after_jacks clock jacks r.device)) → device.DeviceStands mid (after_jacks clock r.jacks r.device)
jacks_gave rest clock r jacks mid are rests gives =
    subst (λ (js : List Jack). (rest ≡ true → AreAtRest clock js r.device) → device.DeviceStands mid (after_jacks clock js r.device)) are gives rests

-- jacks give, the device ticks, meters hear, and what rings were found empty and full is counted
pub device_ticked : (rest : Bool) (clock count : ℕ) (shown showing : List Reading) (r : RunningWorld) (p q : RunningFields) (jacks : List Jack) (mid : device.DeviceFields) (found : Ticked) (f : FunctionFields)
    → RunningStands p shown r → (rest ≡ true → AreAtRest clock r.jacks r.device) → jacks ≡ p.jacks → f ≡ q.device.function
    → ((w : DeviceWorld) → device.DeviceStands p.device w → (rest ≡ true → AreAtRest clock jacks w) → device.DeviceStands mid (after_jacks clock jacks w))
    → (device.DeviceStands mid (gave clock r) → device.DeviceStands q.device (after_tick clock (gave clock r)))
    → (device.DeviceStands mid (gave clock r) → showing ≡ after_frames (heard_of clock (after_tick clock (gave clock r))) shown)
    → (device.DeviceStands mid (gave clock r) → count ≡ renders_of clock (gave clock r))
    → (device.DeviceStands mid (gave clock r) → found ≡ met_of clock (gave clock r))
    → ((w : StreamingWorld) (before : DeviceWorld) → streaming.StreamingStands p.streaming q.device w → w.device.function ≡ f → before.function ≡ f → found ≡ met_of clock before
    → streaming.StreamingStands q.streaming q.device (record w { met = found_counts clock before w.met }))
    → q.jacks ≡ jacks_after_frame clock jacks → q.counts ≡ p.counts → q.time ≡ p.time → q.detail ≡ p.detail → q.renders ≡ at_most_u64 (p.renders + count)
    → IsBeside p q → RunningStands q showing (tick clock r).world
unfolding tick after_all_jacks after_tick set_jack
device_ticked rest clock count shown showing r p q jacks mid found f stands rests own is_f gives ticks hears rendered meets finds gone counts time detail renders beside =
    let all : jacks ≡ r.jacks = own ∙ stands.jacks in
    let before = jacks_gave rest clock r jacks mid all rests (gives r.device stands.streaming.device) in
    let after = ticks before in
    let same : (after_all_jacks clock r).function ≡ r.device.function = after_jacks-kept (λ w. w.function) (λ t frame w. refl) clock r.jacks r.device in
    let here : (after_all_jacks clock r).function ≡ f = sym after.function ∙ sym is_f in
    let there = stands_beside p.streaming p.device q.device (streaming_of r) (after_tick clock (after_all_jacks clock r)) stands.streaming after same in
    record {
      streaming = finds (record (streaming_of r) { device = after_tick clock (after_all_jacks clock r) }) (after_all_jacks clock r) there here here (meets before);
      view = beside.view ∙ stands.view;
      configuration = beside.configuration ∙ stands.configuration;
      breaks = beside.breaks ∙ stands.breaks;
      jacks = gone ∙ ap (jacks_after_frame clock) all;
      counts = counts ∙ stands.counts ∙ ap (map tick_count_of) (sym (after_jacks-kept (λ w. w.domains) (λ t frame w. refl) clock r.jacks r.device));
      time = time ∙ stands.time;
      detail = detail ∙ stands.detail;
      meters = hears before ∙ ap (after_frames (heard_of clock (after_tick clock (after_all_jacks clock r)))) stands.meters;
      renders =
          renders ∙ ap (λ n. at_most_u64 (n + count)) stands.renders ∙ ap (λ n. at_most_u64 (r.renders + n)) (rendered before);
    }

-- what the tick found
pub device_ticked_found : (rest : Bool) (clock : ℕ) (shown : List Reading) (r : RunningWorld) (p : RunningFields) (jacks : List Jack) (mid : device.DeviceFields) (found : Ticked)
    → RunningStands p shown r → (rest ≡ true → AreAtRest clock r.jacks r.device) → jacks ≡ p.jacks
    → ((w : DeviceWorld) → device.DeviceStands p.device w → (rest ≡ true → AreAtRest clock jacks w) → device.DeviceStands mid (after_jacks clock jacks w))
    → (device.DeviceStands mid (gave clock r) → found ≡ met_of clock (gave clock r)) → found ≡ met_of clock (after_all_jacks clock r)
unfolding after_all_jacks
device_ticked_found rest clock shown r p jacks mid found stands rests own gives meets =
    meets (jacks_gave rest clock r jacks mid (own ∙ stands.jacks) rests (gives r.device stands.streaming.device))

-- ---- what is told of an event

pub tick_told : {E : Type 0} (clock : ℕ) (meters : List Reading) (r : RunningWorld) (p : RunningFields) (found : Ticked) (old new : Option (List ℕ)) (result : Result (Unit {0}) E)
    → RunningStands p meters (tick clock r).world → found ≡ met_of clock (after_all_jacks clock r)
    → ((before after : DeviceWorld) → before.function ≡ p.device.function → found ≡ met_of clock before → device.DeviceStands p.device after
    → Prints old new result (found_lines clock before ++ (if nat_le 1 p.detail then played_lines clock after else [])))
    → RunningTells (tick clock r) p meters old new result
unfolding tick after_tick
tick_told {E = E} clock meters r p found old new result stands is shows = (
  subst (λ (n : ℕ). Prints old new result (found_lines clock (after_all_jacks clock r) ++ (if nat_le 1 n then played_lines clock (tick clock r).world.device else []))) stands.detail
      (shows (after_all_jacks clock r) (tick clock r).world.device (sym stands.streaming.device.function) is stands.streaming.device),
  at_ok (RunningStands p meters (tick clock r).world) result stands,
)

pub domain_told : (clock n : ℕ) (r : RunningWorld) → n ≡ next_ticks clock r.device → tick_times n clock (record r { device = after_advance clock r.device }) ≡ domain_microframe clock r
unfolding domain_microframe
domain_told clock n r is = ap (λ k. tick_times k clock (record r { device = after_advance clock r.device })) is

-- the line of a microframe's number
pub number_line : (r : RunningWorld) (p : RunningFields) (meters : List Reading) → RunningStands p meters (record r { time = at_most_u64 (r.time + 1) })
    → number_said p.detail p.time ≡ number_said r.detail (at_most_u64 (r.time + 1))
number_line r p meters stands = ap (λ n. number_said n p.time) stands.detail ∙ ap (number_said r.detail) stands.time

module _ (marks : List PhraseMark) (r : RunningWorld) where
  abbrev all_of_it : Telling RunningWorld
  all_of_it = followed_by (packets_and_ticks marks) (ends_and_feedback marks) (numbered r)

  microframe_is : telling_after (number_said r.detail (at_most_u64 (r.time + 1))) all_of_it ≡ microframe marks r
  unfolding microframe
  microframe_is = refl

  -- its number was not printed whole
  pub microframe_front : (old new : Option (List ℕ)) → AppendsFront old new (text_of (number_said r.detail (at_most_u64 (r.time + 1)))) → AppendsFront old new (text_of (microframe marks r).lines)
  microframe_front old new front =
      subst (λ (told : Telling RunningWorld). AppendsFront old new (text_of told.lines)) microframe_is
      (front_of_more old new (number_said r.detail (at_most_u64 (r.time + 1))) all_of_it.lines front)

  -- its packets and ticks were not
  pub microframe_next_front : (old mid new : Option (List ℕ)) → Appends old mid (text_of (number_said r.detail (at_most_u64 (r.time + 1))))
      → AppendsFront mid new (text_of (packets_and_ticks marks (numbered r)).lines) → AppendsFront old new (text_of (microframe marks r).lines)
  microframe_next_front old mid new number front =
      subst (λ (told : Telling RunningWorld). AppendsFront old new (text_of told.lines)) microframe_is
      (front_after old mid new (number_said r.detail (at_most_u64 (r.time + 1))) all_of_it.lines number
      (front_then (packets_and_ticks marks) (ends_and_feedback marks) (numbered r) mid new front))

  -- all of it, or what lies after these
  pub microframe_told : {E : Type 0} (p : RunningFields) (meters : List Reading) (old mid later new : Option (List ℕ)) (result : Result (Unit {0}) E)
      → HaveRoom (microframe marks r).world.device → Appends old mid (text_of (number_said r.detail (at_most_u64 (r.time + 1))))
      → Appends mid later (text_of (packets_and_ticks marks (numbered r)).lines)
      → RunningTells (ends_and_feedback marks (packets_and_ticks marks (numbered r)).world) p meters later new result → RunningTellsBetween (microframe marks r) p meters old new result
  microframe_told {E = E} p meters old mid later new result room number first next =
      let whole = subst (λ (told : Telling RunningWorld). RunningTells told p meters old new result) microframe_is
      (tells_following (number_said r.detail (at_most_u64 (r.time + 1))) all_of_it p meters old mid new result number
      (tells_then (packets_and_ticks marks) (ends_and_feedback marks) (numbered r) p meters mid later new result first next)) in
      (whole.0, ok_then (RunningStands p meters (microframe marks r).world) (RunningStandsBetween p meters (microframe marks r).world) result (λ stands. record { now = stands; room = room }) whole.1)
