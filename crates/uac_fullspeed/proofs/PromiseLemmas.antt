-- What is promised holds in every line of a steady script.
use Rattle.std.proofs.Common.{arith, ◌≡◌, ◌≢◌, ℕ, zero, suc, ◌+◌, ◌-◌, ◌%◌, ◌/◌, ◌<◌, ◌≤◌, ◌⊎◌, inl, inr, ◌==◌, ◌&&◌, ◌||◌, not, Bool, true, false, nat_lt, nat_le, ℤ, pos, List, [], ◌∷◌, ◌++◌, length, drop, sum, flat_map, Option, Some, None, Result, Ok, Err, refl, ap, sym, subst, ◌∙◌, length-append, length-drop, append_assoc}
use Rattle.std.specs.List.{AllByRecursion, list_all}
use Rattle.std.proofs.lemmas.Bool.{and_parts, le-leb}
use Rattle.std.proofs.lemmas.Grind.{flat_map-append}
use Rattle.std.proofs.lemmas.List.{append-nil}
use Rattle.uac_rate.specs.Levels.{Within}
use Rattle.uac_rate.specs.Steadiness.{SteadyHistory, is_slight, run, has_four_lost, latest_run, one_more, with_report_given, with_deviation_given, is_steady, loses_few_reports, eight_streams}
use Rattle.uac_units.specs.Hearing.{at_most_u64}
use Rattle.uac_script.specs.Phrase.{PhraseMark, Phrase, nothing_line, bytes_line, go_line, control_line, get_line, set_line, show_line, break_line, append_line, track_line, jack_line, deviate_line, microframes_line, detail_line, report_line}
use Rattle.uac_script.specs.Losses.{is_at}
use Rattle.uac_ring.specs.declared.arrival.Arrival.{Arrival}
use Rattle.uac_ring.specs.declared.arrival.Arrival.TheVariants as arrivals
use Rattle.uac_ring.specs.declared.counts.StreamCounts.{StreamCounts}
use Rattle.uac_transcript.specs.Transcript.{Said, says_microframe, says_out, says_over, says_under, says_played, says_level, says_time, says_steady, says_domain}
use Rattle.uac_bench.specs.BenchStreams.{StreamWorld, stream_start, level_of, arrives_by, arrival_of, numbered, ticked_by, after_tick, after_ticks, with_zeros, is_dry, is_dry_by, played_in}
use Rattle.uac_bench.proofs.FramesLemmas.{length-numbered}
use Rattle.uac_fullspeed.specs.FullSpeedNominal.{is_fs_listed, fs_values_of, fs_nominal_of, IsFsNominal}
use Rattle.uac_fullspeed.specs.FullSpeedBands.{FsLeavesRoom, FsMoment}
use Rattle.uac_fullspeed.specs.FullSpeedWorld.{FullSpeedWorld, full_speed_start, is_steady_in, size_next, step_next, ticks_next, at_ticks, ticked, replaced_by, after_frame, passed, before_feedback, is_feedback_due, feedback_in, feedback_given, feedback_if, after_feedback, bus_frame, bus_frames, with_deviation, with_detail}
use Rattle.uac_bench.specs.BenchLines.{if_said, over_lines, arrival_lines}
use Rattle.uac_fullspeed.specs.FullSpeedLines.{FsLine, says_as_run, says_fs_feedback, says_stream, as_run, frame_number, ticks_lines, level_lines, feedback_lines_if, stream_lines, lines_before_feedback, feedback_lines, frame_lines, frames_lines, state_lines}
use Rattle.uac_fullspeed.specs.FullSpeedSteps.{FsStep, fs_done, fs_refused, fs_step, FsAfter, fs_after, fs_and_then, natural_of_int, loses_packet, loses_feedback, is_of_stream, unless, frames_step}
use Rattle.uac_fullspeed.specs.FullSpeedPromise.{IsFsNear, HasMetNone, IsFsKept, IsFsSafe, IsMoment, IsKeptLine, Happening, bus_frame_passed, line_done, frames_passed, happens_in, and_then_happens, happenings, lines_in, IsKeptFrame, IsKept, IsFsPromised}
use Rattle.uac_fullspeed.proofs.BandsLemmas.{leaves_room, fs_listed, fs_near, fs_tight_near, fs_moment}
use Rattle.uac_fullspeed.proofs.SumsLemmas.{last_by_remainder}
use Rattle.uac_fullspeed.proofs.WorldLemmas.{Moved, at_first, packet_moves, primed_ticks, zeros_move, lost_run, numbers, KeptBy, IsPriming, IsPrimed, Good, IsGood, slight_next, PrimedNext, primed_next, priming_few, before_good, frame_good}
use Rattle.uac_fullspeed.proofs.RoomLemmas.{HowBy, ticks_leave}

-- ---- steadiness

not_lost : (b : Bool) → not b ≡ true → b ≡ false
not_lost true h = absurd (cc)
not_lost false h = refl

few_lost : (reports : List Bool) → has_four_lost reports ≡ false → run reports ≤ 3
few_lost [] h = omega arith
few_lost (lost ∷ older) h = not_over (run (lost ∷ older)) (has_four_lost older) h where
  not_over : (n : ℕ) (b : Bool) → (nat_lt 3 n || b) ≡ false → n ≤ 3
  not_over n b h = grind arith

latest_few : (lists : List (List Bool)) → list_all (λ reports. not (has_four_lost reports)) lists ≡ true → latest_run lists ≤ 3
latest_few [] h = omega arith
latest_few (latest ∷ earlier) h = few_lost latest (not_lost (has_four_lost latest) (and_parts (not (has_four_lost latest)) _ h).0)

-- of a steady history the deviations are slight, and few reports of the stream were lost
steady_parts : (h : SteadyHistory) → is_steady h ≡ true → (list_all is_slight h.deviations ≡ true) × (list_all (λ reports. not (has_four_lost reports)) (h.feedback 0) ≡ true)
steady_parts h steady =
    let both = and_parts (list_all is_slight h.deviations) (loses_few_reports h.feedback eight_streams) steady in
    (both.0, (and_parts (list_all (λ reports. not (has_four_lost reports)) (h.feedback 0)) _ both.1).0)

steady_few : (h : SteadyHistory) → is_steady h ≡ true → latest_run (h.feedback 0) ≤ 3
steady_few h steady = latest_few (h.feedback 0) (steady_parts h steady).1

-- one report more, or one deviation more, was steady before
older_keeps : (lost : Bool) (lists : List (List Bool)) (rest : Bool) → (list_all (λ reports. not (has_four_lost reports)) (one_more lost lists) && rest) ≡ true
    → (list_all (λ reports. not (has_four_lost reports)) lists && rest) ≡ true
older_keeps lost [] rest h = (and_parts (list_all (λ reports. not (has_four_lost reports)) (one_more lost [])) rest h).1
older_keeps lost (latest ∷ earlier) rest h = by (nat_lt 3 (run (lost ∷ latest))) (has_four_lost latest) (list_all (λ reports. not (has_four_lost reports)) earlier) h where
  by : (a b c : Bool) → ((not (a || b) && c) && rest) ≡ true → ((not b && c) && rest) ≡ true
  by true b c h = absurd (cc)
  by false b c h = h

feedback_before : (lost : Bool) (h : SteadyHistory) → is_steady (with_report_given 0 lost h) ≡ true → is_steady h ≡ true
feedback_before lost h steady =
    let both = and_parts (list_all is_slight h.deviations) _ steady in
    let rest = older_keeps lost (h.feedback 0) _ both.1 in
    ap (λ (b : Bool). b && loses_few_reports h.feedback eight_streams) both.0 ∙ rest

deviation_before : (ppm : ℤ) (h : SteadyHistory) → is_steady (with_deviation_given ppm h) ≡ true → (is_slight ppm ≡ true) × (is_steady h ≡ true)
deviation_before ppm h steady = by (is_slight ppm) (list_all is_slight h.deviations) (loses_few_reports h.feedback eight_streams) steady where
  by : (a b c : Bool) → ((a && b) && c) ≡ true → (a ≡ true) × ((b && c) ≡ true)
  by true b c h = (refl, h)
  by false b c h = absurd (cc)

-- ---- what a frame keeps of the world before it

history_kept : (lost : Bool) (w : FullSpeedWorld) → (before_feedback lost w).history.feedback 0 ≡ w.history.feedback 0
unfolding before_feedback passed
history_kept lost w = refl

if_before : (due lost : Bool) (value : ℕ) (w : FullSpeedWorld) → is_steady_in (feedback_if due lost value w) ≡ true → is_steady_in w ≡ true
if_before false lost value w h = h
if_before true true value w h = feedback_before true w.history h
if_before true false value w h = feedback_before false w.history h

pub frame_before : (packet_lost report_lost : Bool) (w : FullSpeedWorld) → is_steady_in (bus_frame packet_lost report_lost w) ≡ true → is_steady_in w ≡ true
unfolding bus_frame after_feedback before_feedback passed
frame_before packet_lost report_lost w h = if_before (is_feedback_due (before_feedback packet_lost w)) report_lost (feedback_in (before_feedback packet_lost w)) (before_feedback packet_lost w) h

pub frames_before : (count : ℕ) (packet_lost report_lost : Bool) (w : FullSpeedWorld) → is_steady_in (bus_frames count packet_lost report_lost w) ≡ true → is_steady_in w ≡ true
unfolding bus_frames
frames_before zero packet_lost report_lost w h = h
frames_before (suc count) packet_lost report_lost w h =
    frame_before packet_lost report_lost w (frames_before count packet_lost report_lost (bus_frame packet_lost report_lost w) h)

-- a report changes neither the stream's frames nor whether every packet came
record LeavesStream (w v : FullSpeedWorld) : Type 0 where
  pub target : v.stream.target ≡ w.stream.target
  pub level : level_of v.stream ≡ level_of w.stream
  pub whole : v.whole ≡ w.whole

if_leaves : (due lost : Bool) (value : ℕ) (w : FullSpeedWorld) → LeavesStream w (feedback_if due lost value w)
if_leaves false lost value w = record { target = refl; level = refl; whole = refl }
if_leaves true true value w = record { target = refl; level = refl; whole = refl }
if_leaves true false value w = record { target = refl; level = refl; whole = refl }

frame_leaves : (packet_lost report_lost : Bool) (w : FullSpeedWorld) → LeavesStream (before_feedback packet_lost w) (bus_frame packet_lost report_lost w)
unfolding bus_frame after_feedback
frame_leaves packet_lost report_lost w = if_leaves (is_feedback_due (before_feedback packet_lost w)) report_lost (feedback_in (before_feedback packet_lost w)) (before_feedback packet_lost w)

-- ---- near

near_by : (w : FullSpeedWorld) (waited : ℕ) (o : Option ℕ) → FsLeavesRoom w.nominal → KeptBy o w waited → IsFsNear o (level_of w.stream) w.whole
near_by w waited None room kept = tt
near_by w waited (Some target) room kept =
    let near = fs_near w.nominal (numbers w target waited) kept.robust in
    ((omega arith, omega arith), λ whole. let t = kept.tight whole in fs_tight_near w.nominal t.anchor (numbers w target waited) room kept.robust t.tight)

good_kept : (w : FullSpeedWorld) (waited : ℕ) → Good w waited → IsFsKept w
good_kept w waited good = record { near = near_by w waited w.stream.target (leaves_room w.nominal good.nominal) good.kept; met = (good.under, good.over) }

-- ---- moments

safe_at : (w : FullSpeedWorld) (waited t level played came : ℕ) → Good w waited → IsPrimed w t waited → played ≤ ticks_next w
    → (came ≤ size_next w) ⊎ (came ≤ ticks_next w) → level + played ≡ level_of w.stream + came → (24 ≤ level) × (level ≤ 584)
safe_at w waited t level played came good primed some_ticks some is =
    let s = last_by_remainder w.steps (step_next w) in
    let h = last_by_remainder w.values w.value in
    fs_moment w.nominal (numbers w t waited) level (leaves_room w.nominal good.nominal) primed.robust (record {
      step = step_next w;
      slight = slight_next w waited good;
      played = played;
      some_ticks = omega (arith, s.0);
      came = came;
      some_frames = by some;
      level_is = is;
    }) where
      by : (came ≤ size_next w) ⊎ (came ≤ ticks_next w) → (came ≤ ((sum w.values % 16384 + w.value) / 16384)) ⊎ (came ≤ ((sum w.steps % 16384 + step_next w) / 16384))
      by (inl h) = inl (let e = last_by_remainder w.values w.value in omega (arith, e.0))
      by (inr h) = inr (let e = last_by_remainder w.steps (step_next w) in omega (arith, e.0))

-- a priming stream is so at each moment before the end
none_stays : (v : StreamWorld) (t : ℕ) → v.target ≡ None → v.target ≡ Some t → ⊥
none_stays v t none some = (let e : None ≡ Some t = sym none ∙ some in cc)

priming_stays : (count : ℕ) (s : StreamWorld) → s.played ≤ length s.arrived → s.target ≡ None → (after_ticks count s).target ≡ None
priming_stays count s below none = by s.target none (ticks_leave count s below).how where
  by : (o : Option ℕ) → o ≡ None → HowBy o s (after_ticks count s) count → (after_ticks count s).target ≡ None
  by None e how = how.0
  by (Some t) e how = absurd (cc)

-- none of so many ticks finds the ring empty
abbrev Quiet : StreamWorld → ℕ → Type 0
Quiet s count = (s.target ≡ None) ⊎ (s.played + count ≤ length s.arrived)

module _ (w : FullSpeedWorld) (waited : ℕ) (good : Good w waited) (short : waited ≤ 7) (packet_lost : Bool) where
  -- what the next bus frame brings, whatever the stream's state
  record Next : Type 0 where
    pub fits : level_of w.stream + size_next w ≤ 1024
    pub sent : size_next w ≤ 97
    pub ticks : ticks_next w ≤ 97
    pub holds : (t : ℕ) → w.stream.target ≡ Some t → ticks_next w ≤ level_of w.stream

  next_by : (o : Option ℕ) → w.stream.target ≡ o → KeptBy o w waited → Next
  next_by None is kept =
      let few = priming_few w (leaves_room w.nominal good.nominal) (slight_next w waited good) kept.value in
      let level = kept.few in
      record { fits = omega (arith, few.0); sent = few.0; ticks = few.1; holds = λ t some. absurd (none_stays w.stream t is some) }
  next_by (Some t) is kept =
      let n = primed_next w waited t (leaves_room w.nominal good.nominal) (slight_next w waited good) kept.robust in
      let near = n.near in
      let at = n.target in
      record { fits = omega (arith, n.sent); sent = n.sent; ticks = n.ticks; holds = λ u some. omega (arith, n.ticks) }

  next : Next
  next = next_by w.stream.target refl good.kept

  primed_of : (t : ℕ) → w.stream.target ≡ Some t → IsPrimed w t waited
  primed_of t is = subst (λ (o : Option ℕ). KeptBy o w waited) is good.kept

  sent_is : Moved w.stream (at_ticks packet_lost (size_next w) w.stream) (at_first packet_lost (size_next w)) 0
  sent_is = packet_moves packet_lost (size_next w) w.stream next.fits

  ticked_is : (t count : ℕ) → w.stream.target ≡ Some t → count ≤ ticks_next w
      → Moved (at_ticks packet_lost (size_next w) w.stream) (after_ticks count (at_ticks packet_lost (size_next w) w.stream)) 0 count
  ticked_is t count is few =
      let holds = next.holds t is in
      let below = good.below in
      primed_ticks count (at_ticks packet_lost (size_next w) w.stream) t (sent_is.target ∙ is) (omega (arith, sent_is.arrived, sent_is.played))

  first_few : (lost : Bool) → at_first lost (size_next w) ≤ size_next w
  first_few true = omega arith
  first_few false = omega arith

  lost_first : packet_lost ≡ true → at_first packet_lost (size_next w) ≡ 0
  lost_first e = ap (λ (b : Bool). at_first b (size_next w)) e

  priming_ticked : (count : ℕ) → w.stream.target ≡ None → (after_ticks count (at_ticks packet_lost (size_next w) w.stream)).target ≡ None
  priming_ticked count none =
      let below = good.below in
      priming_stays count (at_ticks packet_lost (size_next w) w.stream) (omega (arith, sent_is.arrived, sent_is.played)) (sent_is.target ∙ none)

  some_came : (o : Option ℕ) (came : ℕ) (v : StreamWorld) → w.stream.target ≡ o → came ≤ size_next w → v ≡ record w.stream { arrived = w.stream.arrived ++ numbered w.stream.formed came } → IsFsSafe v
  some_came None came v none few is t some = absurd (none_stays v t (ap (λ (s : StreamWorld). s.target) is ∙ none) some)
  some_came (Some u) came v primed few is t some =
      let long : length (w.stream.arrived ++ numbered w.stream.formed came) ≡ length w.stream.arrived + came =
      length-append w.stream.arrived (numbered w.stream.formed came) ∙ ap (λ (n : ℕ). length w.stream.arrived + n) (length-numbered w.stream.formed came) in
      let arrived : length v.arrived ≡ length w.stream.arrived + came = ap (λ (s : StreamWorld). length s.arrived) is ∙ long in
      let played : v.played ≡ w.stream.played = ap (λ (s : StreamWorld). s.played) is in
      let below = good.below in
      safe_at w waited u (level_of v) 0 came good (primed_of u primed) (omega arith) (inl few) (omega arith)

  some_passed : (o : Option ℕ) (passed : ℕ) (v : StreamWorld) → w.stream.target ≡ o → passed ≤ ticks_next w → v ≡ after_ticks passed (at_ticks packet_lost (size_next w) w.stream) → IsFsSafe v
  some_passed None passed v none few is t some = absurd (none_stays v t (ap (λ (s : StreamWorld). s.target) is ∙ priming_ticked passed none) some)
  some_passed (Some u) passed v primed few is t some =
      let m = ticked_is u passed primed few in
      let arrived = ap (λ (s : StreamWorld). length s.arrived) is in
      let played = ap (λ (s : StreamWorld). s.played) is in
      let below = good.below in
      let holds = next.holds u primed in
      safe_at w waited u (level_of v) passed (at_first packet_lost (size_next w)) good (primed_of u primed) few (inl (first_few packet_lost))
      (omega (arith, m.arrived, m.played, sent_is.arrived, sent_is.played))

  some_zeros : (o : Option ℕ) (zeros : ℕ) (v : StreamWorld) → w.stream.target ≡ o → packet_lost ≡ true → zeros ≤ ticks_next w → v ≡ with_zeros zeros (ticked packet_lost (size_next w) (ticks_next w) w.stream) → IsFsSafe v
  some_zeros None zeros v none lost few is t some =
      absurd (none_stays v t (ap (λ (s : StreamWorld). s.target) is ∙ (zeros_move zeros (ticked packet_lost (size_next w) (ticks_next w) w.stream)).target ∙ priming_ticked (ticks_next w) none) some)
  some_zeros (Some u) zeros v primed lost few is t some =
      let m = ticked_is u (ticks_next w) primed (omega arith) in
      let z = zeros_move zeros (ticked packet_lost (size_next w) (ticks_next w) w.stream) in
      let first = lost_first lost in
      let arrived = ap (λ (s : StreamWorld). length s.arrived) is in
      let played = ap (λ (s : StreamWorld). s.played) is in
      let below = good.below in
      let holds = next.holds u primed in
      safe_at w waited u (level_of v) (ticks_next w) zeros good (primed_of u primed) (omega arith) (inr few)
      (omega (arith, m.arrived, m.played, sent_is.arrived, sent_is.played, z.arrived, z.played))

  stream_before : (before_feedback packet_lost w).stream ≡ after_frame packet_lost (size_next w) (ticks_next w) w.stream
  unfolding before_feedback
  stream_before = refl

  at_end : (v : StreamWorld) → v ≡ after_frame packet_lost (size_next w) (ticks_next w) w.stream → IsFsSafe v
  at_end v is t some =
      let u : FullSpeedWorld = before_feedback packet_lost w in
      let after = before_good w waited packet_lost short good in
      let same : v ≡ u.stream = is ∙ sym stream_before in
      let primed : IsPrimed u t (suc waited) = subst (λ (o : Option ℕ). KeptBy o u (suc waited)) (ap (λ (s : StreamWorld). s.target) (sym same) ∙ some) after.kept in
      let near = fs_near u.nominal (numbers u t (suc waited)) primed.robust in
      let at = primed.robust.target in
      let level : level_of v ≡ level_of u.stream = ap level_of same in
      (omega (arith, near, at), omega (arith, near, at))

  pub moments_safe : (v : StreamWorld) → IsMoment packet_lost (size_next w) (ticks_next w) w.stream v → IsFsSafe v
  moments_safe v (inl h) = some_came w.stream.target h.0 v refl h.2 h.3
  moments_safe v (inr (inl h)) = some_passed w.stream.target h.0 v refl h.1 h.2
  moments_safe v (inr (inr (inl h))) = some_zeros w.stream.target h.0 v refl h.1 h.2 h.3
  moments_safe v (inr (inr (inr h))) = at_end v h

  -- ---- lines of a bus frame

  -- no packet is over
  pub never_over : arrival_of 1024 packet_lost (size_next w) w.stream ≢ arrivals.Over
  never_over e = by packet_lost (nat_le (level_of w.stream + size_next w) 1024) (le-leb (level_of w.stream + size_next w) 1024 next.fits) e where
    by : (lost fits : Bool) → fits ≡ true → arrives_by lost fits ≡ arrivals.Over → ⊥
    by true fits h e = cc
    by false true h e = cc
    by false false h e = cc

  -- no tick finds the ring empty
  pub ticks_quiet : Quiet (at_ticks packet_lost (size_next w) w.stream) (ticks_next w)
  ticks_quiet = by w.stream.target refl where
    by : (o : Option ℕ) → w.stream.target ≡ o → Quiet (at_ticks packet_lost (size_next w) w.stream) (ticks_next w)
    by None is = inl (sent_is.target ∙ is)
    by (Some u) is = (let holds = next.holds u is in let below = good.below in let some : (at_ticks packet_lost (size_next w) w.stream).played + ticks_next w ≤ length (at_ticks packet_lost (size_next w) w.stream).arrived = omega (arith, sent_is.arrived, sent_is.played) in inr some)

-- ---- lines

all_append : {A : Type 0} (P : A → Type 0) (xs ys : List A) → AllByRecursion P xs → AllByRecursion P ys → AllByRecursion P (xs ++ ys)
all_append P [] ys a b = b
all_append P (x ∷ xs) ys a b = (a.0, all_append P xs ys a.1 b)

all_if : {A : Type 0} (P : A → Type 0) (b : Bool) (line : A) → P line → AllByRecursion P (if_said b (line ∷ []))
all_if P true line p = (p, tt)
all_if P false line p = tt

-- a line that a run has, too
abbrev IsKeptSaid : Bool → Said → Type 0
IsKeptSaid whole said = IsKeptLine whole (says_as_run said)

all_as_run : (whole : Bool) (saids : List Said) → AllByRecursion (IsKeptSaid whole) saids → AllByRecursion (IsKeptLine whole) (as_run saids)
all_as_run whole [] all = tt
all_as_run whole (said ∷ saids) all = (all.0, all_as_run whole saids all.1)

kept_microframe : (whole : Bool) (n : ℕ) → IsKeptLine whole (says_as_run (says_microframe n))
kept_microframe whole n = record { no_under = λ i e. cc; no_over = λ i e. cc; level = λ i l t e. absurd (cc); stream = λ l t m e. absurd (cc) }

kept_out : (whole : Bool) (i n : ℕ) (a : Arrival) → IsKeptLine whole (says_as_run (says_out i n a))
kept_out whole i n a = record { no_under = λ j e. cc; no_over = λ j e. cc; level = λ j l t e. absurd (cc); stream = λ l t m e. absurd (cc) }

kept_played : (whole : Bool) (i : ℕ) (frame : List ℤ) → IsKeptLine whole (says_as_run (says_played i frame))
kept_played whole i frame = record { no_under = λ j e. cc; no_over = λ j e. cc; level = λ j l t e. absurd (cc); stream = λ l t m e. absurd (cc) }

kept_time : (whole : Bool) (n : ℕ) → IsKeptLine whole (says_as_run (says_time n))
kept_time whole n = record { no_under = λ i e. cc; no_over = λ i e. cc; level = λ i l t e. absurd (cc); stream = λ l t m e. absurd (cc) }

kept_steady : (whole b : Bool) → IsKeptLine whole (says_as_run (says_steady b))
kept_steady whole b = record { no_under = λ i e. cc; no_over = λ i e. cc; level = λ i l t e. absurd (cc); stream = λ l t m e. absurd (cc) }

kept_domain : (whole : Bool) (i : ℕ) (rate : Option ℕ) (n : ℕ) → IsKeptLine whole (says_as_run (says_domain i rate n))
kept_domain whole i rate n = record { no_under = λ j e. cc; no_over = λ j e. cc; level = λ j l t e. absurd (cc); stream = λ l t m e. absurd (cc) }

kept_feedback : (whole : Bool) (value : ℕ) (lost : Bool) → IsKeptLine whole (says_fs_feedback value lost)
kept_feedback whole value lost = record { no_under = λ i e. cc; no_over = λ i e. cc; level = λ i l t e. absurd (cc); stream = λ l t m e. absurd (cc) }

kept_level : (whole : Bool) (n : ℕ) (o : Option ℕ) → IsFsNear o n whole → IsKeptLine whole (says_as_run (says_level 1 n o))
kept_level whole n o near = record {
  no_under = λ i e. cc;
  no_over = λ i e. cc;
  level = λ i l t e.
      let a : o ≡ Some t = cc in
      let b : n ≡ l = cc in
      subst (λ (x : Option ℕ). IsFsNear x l whole) a (subst (λ (m : ℕ). IsFsNear o m whole) b near);
  stream = λ l t m e. absurd (cc);
}

kept_stream : (whole : Bool) (n : ℕ) (o : Option ℕ) (met : StreamCounts) → IsFsNear o n whole → HasMetNone met → IsKeptLine whole (says_stream n o met)
kept_stream whole n o met near none = record {
  no_under = λ i e. cc;
  no_over = λ i e. cc;
  level = λ i l t e. absurd (cc);
  stream = λ l t m e.
      let a : o ≡ t = cc in
      let b : n ≡ l = cc in
      let d : met ≡ m = cc in
      (subst (λ (x : Option ℕ). IsFsNear x l whole) a (subst (λ (k : ℕ). IsFsNear o k whole) b near), subst HasMetNone d none);
}

ticks_kept : (whole : Bool) (detail count : ℕ) (s : StreamWorld) → Quiet s count → AllByRecursion (IsKeptSaid whole) (ticks_lines count detail s)
unfolding ticks_lines after_tick is_dry
ticks_kept whole detail zero s quiet = tt
ticks_kept whole detail (suc count) s quiet =
    from s.target (drop s.played s.arrived) refl (length-drop s.played s.arrived) quiet (λ v q. ticks_kept whole detail count v q) where
      from : (o : Option ℕ) (waiting : List (List ℤ)) → s.target ≡ o → length waiting ≡ length s.arrived - s.played → Quiet s (suc count)
          → ((v : StreamWorld) → Quiet v count → AllByRecursion (IsKeptSaid whole) (ticks_lines count detail v))
          → AllByRecursion (IsKeptSaid whole) ((if_said (is_dry_by o waiting) (says_under 1 ∷ []) ++ if_said (nat_le 1 detail) (says_played 1 (played_in s) ∷ [])) ++ ticks_lines count detail (ticked_by o waiting s))
      from None waiting is long q rest =
          all_append (IsKeptSaid whole) (if_said (nat_le 1 detail) (says_played 1 (played_in s) ∷ [])) (ticks_lines count detail s)
          (all_if (IsKeptSaid whole) (nat_le 1 detail) (says_played 1 (played_in s)) (kept_played whole 1 (played_in s))) (rest s (inl is))
      from (Some t) [] is long (inl none) rest = absurd (none_stays s t none is)
      from (Some t) [] is long (inr enough) rest = absurd (let none : ⊥ = omega arith in none)
      from (Some t) (frame ∷ more) is long (inl none) rest = absurd (none_stays s t none is)
      from (Some t) (frame ∷ more) is long (inr enough) rest =
          all_append (IsKeptSaid whole) (if_said (nat_le 1 detail) (says_played 1 (played_in s) ∷ [])) (ticks_lines count detail (record s { played = suc s.played }))
          (all_if (IsKeptSaid whole) (nat_le 1 detail) (says_played 1 (played_in s)) (kept_played whole 1 (played_in s)))
          (rest (record s { played = suc s.played }) (let fewer : suc s.played + count ≤ length s.arrived = omega arith in inr fewer))

over_kept : (whole : Bool) (a : Arrival) → a ≢ arrivals.Over → AllByRecursion (IsKeptSaid whole) (over_lines a)
over_kept whole arrivals.Taken never = tt
over_kept whole arrivals.Lost never = tt
over_kept whole arrivals.Over never = absurd (never refl)

feedback_kept_if : (whole due : Bool) (detail : ℕ) (lost : Bool) (value : ℕ) → AllByRecursion (IsKeptLine whole) (feedback_lines_if due detail lost value)
feedback_kept_if whole false detail lost value = tt
feedback_kept_if whole true detail lost value = all_if (IsKeptLine whole) (nat_le 2 detail) (says_fs_feedback value lost) (kept_feedback whole value lost)

stream_kept : (w : FullSpeedWorld) (waited : ℕ) (good : Good w waited) → waited ≤ 7 → (packet_lost whole : Bool) → whole ≡ (before_feedback packet_lost w).whole
    → AllByRecursion (IsKeptSaid whole) (stream_lines w.detail packet_lost (size_next w) (ticks_next w) w.stream)
unfolding stream_lines
stream_kept w waited good short packet_lost whole same =
    let P : Said → Type 0 = IsKeptSaid whole in
    let size = size_next w in
    let arrival = arrival_of 1024 packet_lost (size_next w) w.stream in
    let u : FullSpeedWorld = before_feedback packet_lost w in
    let after = before_good w waited packet_lost short good in
    let near : IsFsNear u.stream.target (level_of u.stream) whole =
    subst (λ (b : Bool). IsFsNear u.stream.target (level_of u.stream) b) (sym same) (near_by u (suc waited) u.stream.target (leaves_room u.nominal after.nominal) after.kept) in
    let ends : IsFsNear (after_frame packet_lost (size_next w) (ticks_next w) w.stream).target (level_of (after_frame packet_lost (size_next w) (ticks_next w) w.stream)) whole =
    subst (λ (s : StreamWorld). IsFsNear s.target (level_of s) whole) (stream_before w waited good short packet_lost) near in
    all_append P (arrival_lines w.detail (size_next w) arrival) (ticks_lines (ticks_next w) w.detail (at_ticks packet_lost (size_next w) w.stream) ++ level_lines w.detail (after_frame packet_lost (size_next w) (ticks_next w) w.stream))
    (all_append P (if_said (nat_le 2 w.detail) (says_out 1 (size_next w) arrival ∷ [])) (over_lines arrival)
    (all_if P (nat_le 2 w.detail) (says_out 1 (size_next w) arrival) (kept_out whole 1 (size_next w) arrival))
    (over_kept whole arrival (never_over w waited good short packet_lost)))
    (all_append P (ticks_lines (ticks_next w) w.detail (at_ticks packet_lost (size_next w) w.stream)) (level_lines w.detail (after_frame packet_lost (size_next w) (ticks_next w) w.stream))
    (ticks_kept whole w.detail (ticks_next w) (at_ticks packet_lost (size_next w) w.stream) (ticks_quiet w waited good short packet_lost))
    (all_if P (nat_le 2 w.detail) (says_level 1 (level_of (after_frame packet_lost (size_next w) (ticks_next w) w.stream)) (after_frame packet_lost (size_next w) (ticks_next w) w.stream).target)
    (kept_level whole (level_of (after_frame packet_lost (size_next w) (ticks_next w) w.stream)) (after_frame packet_lost (size_next w) (ticks_next w) w.stream).target ends)))

lines_kept : (packet_lost report_lost : Bool) (w : FullSpeedWorld) → IsGood w → AllByRecursion (IsKeptLine (bus_frame packet_lost report_lost w).whole) (frame_lines packet_lost report_lost w)
unfolding frame_lines lines_before_feedback
lines_kept packet_lost report_lost w good =
    let whole = (bus_frame packet_lost report_lost w).whole in
    let short : length w.steps % 8 ≤ 7 = omega arith in
    let u : FullSpeedWorld = before_feedback packet_lost w in
    let first : List Said = frame_number (passed packet_lost w) in
    let rest : List Said = stream_lines w.detail packet_lost (size_next w) (ticks_next w) w.stream in
    all_append (IsKeptLine whole) (as_run (first ++ rest)) (feedback_lines report_lost u)
    (all_as_run whole (first ++ rest) (all_append (IsKeptSaid whole) first rest
    (all_if (IsKeptSaid whole) (nat_le 2 (passed packet_lost w).detail) (says_microframe (at_most_u64 (length (passed packet_lost w).steps))) (kept_microframe whole (at_most_u64 (length (passed packet_lost w).steps))))
    (stream_kept w (length w.steps % 8) good short packet_lost whole (frame_leaves packet_lost report_lost w).whole)))
    (feedback_kept_if whole (is_feedback_due u) u.detail report_lost (feedback_in u))

-- ---- a bus frame, and so many

kept_frame : (packet_lost report_lost : Bool) (w : FullSpeedWorld) → IsGood w → IsGood (bus_frame packet_lost report_lost w) → IsKeptFrame packet_lost report_lost w
kept_frame packet_lost report_lost w good after =
    let short : length w.steps % 8 ≤ 7 = omega arith in
    record {
      ends = good_kept (bus_frame packet_lost report_lost w) (length (bus_frame packet_lost report_lost w).steps % 8) after;
      moments = moments_safe w (length w.steps % 8) good short packet_lost;
      lines = lines_kept packet_lost report_lost w good;
    }

frames_kept : (count : ℕ) (packet_lost report_lost : Bool) (w : FullSpeedWorld) → IsGood w → is_steady_in (bus_frames count packet_lost report_lost w) ≡ true
    → IsGood (bus_frames count packet_lost report_lost w) × AllByRecursion IsKept (frames_passed count packet_lost report_lost w)
unfolding bus_frames frames_passed
frames_kept zero packet_lost report_lost w good steady = (good, tt)
frames_kept (suc count) packet_lost report_lost w good steady =
    let few = steady_few (bus_frame packet_lost report_lost w).history (frames_before count packet_lost report_lost (bus_frame packet_lost report_lost w) steady) in
    let after = frame_good packet_lost report_lost w few good in
    let rest = frames_kept count packet_lost report_lost (bus_frame packet_lost report_lost w) after steady in
    (rest.0, (kept_frame packet_lost report_lost w good after, rest.1))

-- ---- a line of the script

-- where it is done and leaves a steady world, the world before it was steady, and what was kept still is
abbrev StepKeeps : Phrase → FullSpeedWorld → FsStep → Type 0
StepKeeps phrase w (fs_done next lines) = is_steady_in next ≡ true → (is_steady_in w ≡ true) × (IsGood w → IsGood next × AllByRecursion IsKept (happens_in phrase lines next w))
StepKeeps phrase w (fs_refused rule) = Unit {0}

deviated : (ppm : ℤ) (w : FullSpeedWorld) → is_slight ppm ≡ true → IsGood w → IsGood (with_deviation ppm w)
unfolding with_deviation
deviated ppm w slight good = record {
  nominal = good.nominal;
  slight = slight;
  below = good.below;
  under = good.under;
  over = good.over;
  lost = good.lost;
  waited_few = good.waited_few;
  kept = by w.stream.target good.kept;
} where
  by : (o : Option ℕ) → KeptBy o w (length w.steps % 8) → KeptBy o (with_deviation ppm w) (length w.steps % 8)
  by None k = record { few = k.few; value = k.value }
  by (Some t) k = record { robust = k.robust; tight = λ whole. let a = k.tight whole in record { anchor = a.anchor; tight = a.tight } }

detailed : (detail : ℕ) (w : FullSpeedWorld) → IsGood w → IsGood (with_detail detail w)
unfolding with_detail
detailed detail w good = record {
  nominal = good.nominal;
  slight = good.slight;
  below = good.below;
  under = good.under;
  over = good.over;
  lost = good.lost;
  waited_few = good.waited_few;
  kept = by w.stream.target good.kept;
} where
  by : (o : Option ℕ) → KeptBy o w (length w.steps % 8) → KeptBy o (with_detail detail w) (length w.steps % 8)
  by None k = record { few = k.few; value = k.value }
  by (Some t) k = record { robust = k.robust; tight = λ whole. let a = k.tight whole in record { anchor = a.anchor; tight = a.tight } }

silent_line : (w : FullSpeedWorld) → IsGood w → AllByRecursion IsKept (line_done [] w ∷ [])
silent_line w good = ((good_kept w (length w.steps % 8) good, tt), tt)

state_kept : (w : FullSpeedWorld) → IsGood w → AllByRecursion IsKept (line_done (state_lines w) w ∷ [])
state_kept w good =
    let k = good_kept w (length w.steps % 8) good in
    ((k, (kept_time w.whole _, (kept_steady w.whole _, (kept_domain w.whole 1 (Some w.rate) _, (kept_stream w.whole (level_of w.stream) w.stream.target w.stream.met k.near k.met, tt))))), tt)

deviate_keeps : (domain ppm : ℤ) (w : FullSpeedWorld) (b : Bool) → StepKeeps (deviate_line domain ppm) w (unless b 6 (fs_done (with_deviation ppm w) []))
unfolding with_deviation
deviate_keeps domain ppm w false = tt
deviate_keeps domain ppm w true = λ steady.
    let before = deviation_before ppm w.history steady in
    (before.1, λ good. (deviated ppm w before.0 good, silent_line (with_deviation ppm w) (deviated ppm w before.0 good)))

frames_keep : (count : ℤ) (marks : List PhraseMark) (w : FullSpeedWorld) (b : Bool) → StepKeeps (microframes_line count marks) w (unless b 6 (frames_step (natural_of_int count) (loses_packet marks) (loses_feedback marks) w))
frames_keep count marks w false = tt
frames_keep count marks w true = λ steady. (
  frames_before (natural_of_int count) (loses_packet marks) (loses_feedback marks) w steady,
  λ good. frames_kept (natural_of_int count) (loses_packet marks) (loses_feedback marks) w good steady,
)

detail_keeps : (detail : ℕ) (level : ℤ) (w : FullSpeedWorld) → StepKeeps (detail_line level) w (fs_done (with_detail detail w) [])
unfolding with_detail
detail_keeps detail level w = λ steady. (steady, λ good. (detailed detail w good, silent_line (with_detail detail w) (detailed detail w good)))

step_keeps : (phrase : Phrase) (w : FullSpeedWorld) → StepKeeps phrase w (fs_step phrase w)
unfolding fs_step
step_keeps nothing_line w = λ steady. (steady, λ good. (good, silent_line w good))
step_keeps (bytes_line bytes) w = tt
step_keeps go_line w = tt
step_keeps (control_line setup sent) w = tt
step_keeps (get_line name) w = tt
step_keeps (set_line name value) w = tt
step_keeps (show_line name) w = tt
step_keeps (break_line after) w = tt
step_keeps (append_line number samples) w = tt
step_keeps (track_line number tone) w = tt
step_keeps (jack_line terminal tone) w = tt
step_keeps (deviate_line domain ppm) w = deviate_keeps domain ppm w (is_at domain 1)
step_keeps (microframes_line count marks) w = frames_keep count marks w (list_all is_of_stream marks)
step_keeps (detail_line level) w = detail_keeps (natural_of_int level) level w
step_keeps report_line w = λ steady. (steady, λ good. (good, state_kept w good))

-- ---- lines

after_before : (saids : List (Result Phrase ℕ)) (w : FullSpeedWorld) → is_steady_in (fs_after saids w).world ≡ true → is_steady_in w ≡ true
unfolding fs_after
after_before [] w h = h
after_before (Err rule ∷ saids) w h = h
after_before (Ok phrase ∷ saids) w h = by (fs_step phrase w) (step_keeps phrase w) (λ v k. after_before saids v k) h where
  by : (s : FsStep) → StepKeeps phrase w s → ((v : FullSpeedWorld) → is_steady_in (fs_after saids v).world ≡ true → is_steady_in v ≡ true)
      → is_steady_in (fs_and_then s w (fs_after saids)).world ≡ true → is_steady_in w ≡ true
  by (fs_done next lines) keeps rest h = (keeps (rest next h)).0
  by (fs_refused rule) keeps rest h = h

after_kept : (saids : List (Result Phrase ℕ)) (w : FullSpeedWorld) → IsGood w → is_steady_in (fs_after saids w).world ≡ true
    → IsGood (fs_after saids w).world × AllByRecursion IsKept (happenings saids w)
unfolding fs_after happenings
after_kept [] w good h = (good, tt)
after_kept (Err rule ∷ saids) w good h = (good, tt)
after_kept (Ok phrase ∷ saids) w good h = by (fs_step phrase w) (step_keeps phrase w) (λ v g k. after_kept saids v g k) h where
  by : (s : FsStep) → StepKeeps phrase w s → ((v : FullSpeedWorld) → IsGood v → is_steady_in (fs_after saids v).world ≡ true → IsGood (fs_after saids v).world × AllByRecursion IsKept (happenings saids v))
      → is_steady_in (fs_and_then s w (fs_after saids)).world ≡ true
      → IsGood (fs_and_then s w (fs_after saids)).world × AllByRecursion IsKept (and_then_happens s phrase w (happenings saids))
  by (fs_done next lines) keeps rest h =
      let k = (keeps (after_before saids next h)).1 good in
      let r = rest next k.0 h in
      (r.0, all_append IsKept (happens_in phrase lines next w) (happenings saids next) k.1 r.1)
  by (fs_refused rule) keeps rest h = (good, tt)

start_good : (hertz : ℕ) → is_fs_listed hertz ≡ true → IsGood (full_speed_start hertz)
unfolding full_speed_start
start_good hertz listed = record {
  nominal = (hertz, fs_listed hertz listed);
  slight = refl;
  below = omega arith;
  under = refl;
  over = refl;
  lost = omega arith;
  waited_few = omega arith;
  kept = record { few = omega arith; value = refl };
}

pub keeps_promises : (saids : List (Result Phrase ℕ)) (hertz : ℕ) → is_fs_listed hertz ≡ true → is_steady_in (fs_after saids (full_speed_start hertz)).world ≡ true → IsFsPromised saids hertz
keeps_promises saids hertz listed steady =
    let k = after_kept saids (full_speed_start hertz) (start_good hertz listed) steady in
    record { left = good_kept (fs_after saids (full_speed_start hertz)).world (length (fs_after saids (full_speed_start hertz)).world.steps % 8) k.0; kept = k.1 }

-- ---- what is printed

frames_print : (count : ℕ) (packet_lost report_lost : Bool) (w : FullSpeedWorld) → flat_map lines_in (frames_passed count packet_lost report_lost w) ≡ frames_lines count packet_lost report_lost w
unfolding frames_passed frames_lines
frames_print zero packet_lost report_lost w = refl
frames_print (suc count) packet_lost report_lost w =
    ap (λ (ls : List FsLine). frame_lines packet_lost report_lost w ++ ls) (frames_print count packet_lost report_lost (bus_frame packet_lost report_lost w))

abbrev StepPrints : Phrase → FullSpeedWorld → FsStep → Type 0
StepPrints phrase w (fs_done next lines) = flat_map lines_in (happens_in phrase lines next w) ≡ lines
StepPrints phrase w (fs_refused rule) = Unit {0}

deviate_prints : (domain ppm : ℤ) (w : FullSpeedWorld) (b : Bool) → StepPrints (deviate_line domain ppm) w (unless b 6 (fs_done (with_deviation ppm w) []))
deviate_prints domain ppm w false = tt
deviate_prints domain ppm w true = refl

frames_do_print : (count : ℤ) (marks : List PhraseMark) (w : FullSpeedWorld) (b : Bool) → StepPrints (microframes_line count marks) w (unless b 6 (frames_step (natural_of_int count) (loses_packet marks) (loses_feedback marks) w))
frames_do_print count marks w false = tt
frames_do_print count marks w true = frames_print (natural_of_int count) (loses_packet marks) (loses_feedback marks) w

step_prints : (phrase : Phrase) (w : FullSpeedWorld) → StepPrints phrase w (fs_step phrase w)
unfolding fs_step
step_prints nothing_line w = refl
step_prints (bytes_line bytes) w = tt
step_prints go_line w = tt
step_prints (control_line setup sent) w = tt
step_prints (get_line name) w = tt
step_prints (set_line name value) w = tt
step_prints (show_line name) w = tt
step_prints (break_line after) w = tt
step_prints (append_line number samples) w = tt
step_prints (track_line number tone) w = tt
step_prints (jack_line terminal tone) w = tt
step_prints (deviate_line domain ppm) w = deviate_prints domain ppm w (is_at domain 1)
step_prints (microframes_line count marks) w = frames_do_print count marks w (list_all is_of_stream marks)
step_prints (detail_line level) w = refl
step_prints report_line w = append-nil (state_lines w)

pub happenings_print : (saids : List (Result Phrase ℕ)) (w : FullSpeedWorld) → flat_map lines_in (happenings saids w) ≡ (fs_after saids w).lines
unfolding fs_after happenings
happenings_print [] w = refl
happenings_print (Err rule ∷ saids) w = refl
happenings_print (Ok phrase ∷ saids) w = by (fs_step phrase w) (step_prints phrase w) (λ v. happenings_print saids v) where
  by : (s : FsStep) → StepPrints phrase w s → ((v : FullSpeedWorld) → flat_map lines_in (happenings saids v) ≡ (fs_after saids v).lines)
      → flat_map lines_in (and_then_happens s phrase w (happenings saids)) ≡ (fs_and_then s w (fs_after saids)).lines
  by (fs_done next lines) prints rest =
      flat_map-append lines_in (happens_in phrase lines next w) (happenings saids next)
      ∙ ap (λ (ls : List FsLine). ls ++ flat_map lines_in (happenings saids next)) prints ∙ ap (λ (ls : List FsLine). lines ++ ls) (rest next)
  by (fs_refused rule) prints rest = refl
