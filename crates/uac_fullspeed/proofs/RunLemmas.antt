-- A run of a full-speed stream, step by step.
use Rattle.std.proofs.Common.{arith, ◌≡◌, ◌≢◌, ◌∙◌, refl, sym, ap, subst, ℕ, zero, suc, ◌+◌, ◌-◌, ◌*◌, ◌/◌, ◌%◌, ◌==◌, ◌<◌, ◌≤◌, ◌≤ℤ◌, ℤ, pos, negsuc, Bool, true, false, nat_le, List, [], ◌∷◌, ◌++◌, length, map, sum, take, Option, Some, None, Result, Ok, Err, OnOk, length-append}
use Rattle.std.proofs.lemmas.Int.{ints}
use Rattle.std.proofs.lemmas.Bool.{eq-eqb, eqb-true}
use Rattle.std.proofs.lemmas.List.{map-append, take-map, length-map, append-nil}
use Rattle.std.proofs.lemmas.List.Sums.{sum_by-append}
use Rattle.std.proofs.Math.Nat.{mul-le-mul_left}
use Rattle.std.specs.Io.KnownBytes.{Appends}
use Rattle.uac_edges.specs.Writing.{AppendsFront}
use Rattle.uac_clock.specs.Ticks.{IsPhaseAfter, ticks_in}
use Rattle.uac_rate.specs.PacketSizes.{frames_in_packet}
use Rattle.uac_rate.specs.Levels.{HasBand}
use Rattle.uac_rate.specs.Steadiness.{SteadyStands, nothing_given}
use Rattle.uac_units.specs.Hearing.{at_most_u64}
use Rattle.uac_ring.specs.declared.counts.StreamCounts.{StreamCounts}
use Rattle.std.proofs.KnownBytes.{Appends-nil}
use Rattle.uac_transcript.specs.Printing.{Prints, text_of}
use Rattle.uac_transcript.proofs.PrintingLemmas.{Prints-after, front_of_more, spelt-after, spelt-front_of_more}
use Rattle.uac_bench.specs.BenchLines.{if_said}
use Rattle.uac_bench.proofs.RepeatedLemmas.{one_further, told_more, told_in_part}
use Rattle.uac_bench.specs.BenchStreams.{StreamWorld, stream_start, level_of}
use Rattle.uac_bench.specs.BenchKept.{BenchClockFields, BenchClockStands, BenchStreamFields, BenchStreamStands}
use Rattle.uac_fullspeed.specs.declared.values.FsNominal.{FsNominal}
use Rattle.uac_fullspeed.specs.declared.carry.Brought.{Brought}
use Rattle.uac_fullspeed.specs.declared.printing.Shown.{Shown}
use Rattle.uac_fullspeed.specs.FullSpeedNominal.{IsFsNominal, fs_nominal_of, fs_step_of, fs_values_of}
use Rattle.uac_fullspeed.specs.FullSpeedBands.{FsLeavesRoom}
use Rattle.uac_fullspeed.specs.FullSpeedWorld.{FullSpeedWorld, is_steady_in, full_speed_start, frames_of_last, size_next, step_next, ticks_next, after_frame, passed, before_feedback, is_feedback_due, feedback_in, feedback_given, feedback_if, after_feedback, bus_frame, bus_frames}
use Rattle.uac_fullspeed.specs.FullSpeedLines.{FsLine, shown_in, says_fs_feedback, as_run, fs_spelling_of, fs_text_of, FsPrints, frame_number, stream_lines, lines_before_feedback, feedback_lines_if, feedback_lines, frame_lines, frames_lines}
use Rattle.uac_fullspeed.specs.FullSpeedKept.{FsRunFields, four_times, FsRunStands, HasRoom, FsRunStandsBetween, FsTellsBetween, FsSaysBetween, CarryTells}
use Rattle.uac_fullspeed.proofs.BandsLemmas.{leaves_room, listed_nominal}
use Rattle.uac_fullspeed.proofs.FsPrintingLemmas.{as_run_text}
use Rattle.uac_fullspeed.proofs.CarryLemmas.{on_ok}
use Rattle.uac_fullspeed.proofs.RoomLemmas.{after_frame_room}
use Rattle.uac_fullspeed.proofs.SumsLemmas.{last_by_remainder}

-- ---- 16,384ths as 65,536ths

four_more : (xs : List ℕ) (x : ℕ) → four_times (xs ++ x ∷ []) ≡ four_times xs ++ 4 * x ∷ []
four_more xs x = map-append (λ (v : ℕ). 4 * v) xs (x ∷ [])

sum_more : (x : ℕ) (xs : List ℕ) → sum (x ∷ xs) ≡ (0 + x) + sum xs
sum_more x xs = sum_by-append (λ (n : ℕ). n) (x ∷ []) xs

four_sum : (xs : List ℕ) → sum (four_times xs) ≡ 4 * sum xs
four_sum [] = refl
four_sum (x ∷ xs) = added x (sum (four_times xs)) (sum xs) (sum (four_times (x ∷ xs))) (sum (x ∷ xs)) (four_sum xs) (sum_more (4 * x) (four_times xs)) (sum_more x xs) where
  added : (x a b c d : ℕ) → a ≡ 4 * b → c ≡ (0 + 4 * x) + a → d ≡ (0 + x) + b → c ≡ 4 * d
  added x a b c d h k l = omega arith

four_frames : (xs : List ℕ) → frames_in_packet 1 (four_times xs) ≡ frames_of_last xs
four_frames xs =
    let all = four_sum xs in
    let before : take (length (four_times xs) - 1) (four_times xs) ≡ four_times (take (length xs - 1) xs) =
    ap (λ (n : ℕ). take (n - 1) (four_times xs)) (length-map xs (λ (v : ℕ). 4 * v)) ∙ take-map (λ (v : ℕ). 4 * v) (length xs - 1) xs in
    let older = ap sum before ∙ four_sum (take (length xs - 1) xs) in
    quarter (sum (four_times xs)) (sum xs) (sum (take (length (four_times xs) - 1) (four_times xs))) (sum (take (length xs - 1) xs)) all older where
      quarter : (a b c d : ℕ) → a ≡ 4 * b → c ≡ 4 * d → a / 65536 - c / 65536 ≡ b / 16384 - d / 16384
      quarter a b c d h k = omega arith

-- the frames of the next packet, or the ticks of the next bus frame, by steps four times as large
pub last_is : (values : List ℕ) (value given result : ℕ) → given ≡ value → result ≡ frames_in_packet 1 (four_times values ++ 4 * given ∷ []) → result ≡ frames_of_last (values ++ value ∷ [])
last_is values value given result same is =
    is ∙ ap (λ (v : ℕ). frames_in_packet 1 (four_times values ++ 4 * v ∷ [])) same ∙ ap (frames_in_packet 1) (sym (four_more values value)) ∙ four_frames (values ++ value ∷ [])

pub steps_are : (values : List ℕ) (value given : ℕ) → given ≡ value → four_times values ++ 4 * given ∷ [] ≡ four_times (values ++ value ∷ [])
steps_are values value given same = ap (λ (v : ℕ). four_times values ++ 4 * v ∷ []) same ∙ sym (four_more values value)

-- a clock that is off by at most a tenth ticks at most 769 times
pub step_few : (values : FsNominal) (ppm : ℤ) → IsFsNominal values → negsuc 99999 ≤ℤ ppm → ppm ≤ℤ pos 100000 → fs_step_of values ppm ≤ 3200000
step_few values (pos n) h low high =
    let room = leaves_room values h in
    let few : n ≤ 100000 = omega (arith, ints) in
    let part : values.f * n ≤ values.f * 100000 = mul-le-mul_left values.f few in
    omega (arith, room.band.above, room.most)
step_few values (negsuc n) h low high = let room = leaves_room values h in omega (arith, room.band.above, room.most)

ticks_few : (steps : List ℕ) (step : ℕ) → step ≤ 3200000 → frames_of_last (steps ++ step ∷ []) ≤ 769
ticks_few steps step few =
    let grown : length (steps ++ step ∷ []) ≡ length steps + 1 = length-append steps (step ∷ []) in
    let is = last_by_remainder steps step in
    omega (arith, is.0)

pub few_ticks : (run : FsRunFields) (w : FullSpeedWorld) (ticks : ℕ) → FsRunStands run w → IsFsNominal run.nominal → negsuc 99999 ≤ℤ run.deviation → run.deviation ≤ℤ pos 100000
    → ticks ≡ ticks_next w → ticks ≤ 769
few_ticks run w ticks stands h low high is =
    let step : step_next w ≡ fs_step_of run.nominal run.deviation = ap (λ (v : FsNominal). fs_step_of v w.deviation) (sym stands.nominal) ∙ ap (fs_step_of run.nominal) (sym stands.deviation) in
    let few = step_few run.nominal run.deviation h low high in
    let fewer = ticks_few w.steps (step_next w) (omega arith) in
    omega arith

pub step_is : (run : FsRunFields) (w : FullSpeedWorld) (step : ℕ) → FsRunStands run w → step ≡ fs_step_of run.nominal run.deviation → step ≡ step_next w
step_is run w step stands is =
    is ∙ ap (fs_step_of run.nominal) stands.deviation ∙ ap (λ (v : FsNominal). fs_step_of v w.deviation) stands.nominal

-- ---- a start

pub starts : (run : FsRunFields) (nominal : FsNominal) (hertz : ℕ) → fs_nominal_of hertz ≡ Some nominal
    → run.nominal ≡ nominal → run.value ≡ nominal.f → run.deviation ≡ pos 0 → run.detail ≡ 0 → run.time ≡ 0 → run.since ≡ 0
    → IsPhaseAfter run.pace [] → BenchClockStands run.clock [] → BenchStreamStands run.stream stream_start → SteadyStands run.steady nothing_given
    → FsRunStandsBetween run (full_speed_start hertz)
unfolding full_speed_start
starts run nominal hertz h is value deviation detail time since pace clock stream steady =
    let listed = listed_nominal hertz nominal h in
    record {
      now = record {
        rate = h ∙ ap (λ (v : FsNominal). Some v) (sym is);
        nominal = is ∙ sym listed.1;
        stream = stream;
        clock = clock;
        pace = pace;
        value = value ∙ ap (λ (v : FsNominal). v.f) (sym listed.1);
        deviation = deviation;
        steady = steady;
        detail = detail;
        time = time;
        since = since;
      };
      room = record { played = omega arith; few = omega arith };
    }

-- ---- a bus frame comes

pub passed_stands : (run : FsRunFields) (w : FullSpeedWorld) (lost : Bool) (clock : BenchClockFields) (pace value step time since : ℕ) → FsRunStands run w
    → BenchClockStands clock (four_times w.steps ++ 4 * step ∷ []) → step ≡ step_next w
    → IsPhaseAfter pace (four_times w.values ++ 4 * value ∷ []) → value ≡ w.value
    → time ≡ at_most_u64 (run.time + 1) → since ≡ (run.since + 1) % 8
    → FsRunStands (record run { clock = clock; pace = pace; time = time; since = since }) (passed lost w)
unfolding passed
passed_stands run w lost clock pace value step time since stands clocks steps paces values times sinces =
    let grown : length (w.steps ++ step_next w ∷ []) ≡ length w.steps + 1 = length-append w.steps (step_next w ∷ []) in
    let before = stands.time in
    let counted = stands.since in
    record {
      rate = stands.rate;
      nominal = stands.nominal;
      stream = stands.stream;
      clock = subst (BenchClockStands clock) (steps_are w.steps (step_next w) step steps) clocks;
      pace = subst (IsPhaseAfter pace) (steps_are w.values w.value value values) paces;
      value = stands.value;
      deviation = stands.deviation;
      steady = stands.steady;
      detail = stands.detail;
      time = omega arith;
      since = omega arith;
    }

pub passed_between : (run : FsRunFields) (w : FullSpeedWorld) (lost : Bool) → FsRunStands run (passed lost w) → HasRoom w.stream → FsRunStandsBetween run (passed lost w)
unfolding passed
passed_between run w lost stands room = record { now = stands; room = room }

-- what the report of the bench shows
pub time_ticks : (kept : ℕ) (steps : List ℕ) → kept ≡ at_most_u64 (sum (four_times steps) / 65536) → kept ≡ at_most_u64 (sum steps / 16384)
time_ticks kept steps h = h ∙ ap at_most_u64 (quarter (sum (four_times steps)) (sum steps) (four_sum steps)) where
  quarter : (a b : ℕ) → a ≡ 4 * b → a / 65536 ≡ b / 16384
  quarter a b h = omega arith

abbrev mk : ℕ → Bool → ℕ → ℕ → ℕ → Option ℕ → StreamCounts → Shown
mk time steady rate ticks level target met =
    record { time = time; steady = steady; rate = rate; ticks = ticks; level = level; target = target; met = met }

pub shows : (w : FullSpeedWorld) (s : Shown) → s.time ≡ at_most_u64 (length w.steps) → s.steady ≡ is_steady_in w → s.rate ≡ w.rate → s.ticks ≡ at_most_u64 (sum w.steps / 16384)
    → s.level ≡ level_of w.stream → s.target ≡ w.stream.target → s.met ≡ w.stream.met → s ≡ shown_in w
shows w s a b c d e f g =
    ap (λ (x : ℕ). mk x s.steady s.rate s.ticks s.level s.target s.met) a
    ∙ ap (λ (x : Bool). mk (shown_in w).time x s.rate s.ticks s.level s.target s.met) b
    ∙ ap (λ (x : ℕ). mk (shown_in w).time (shown_in w).steady x s.ticks s.level s.target s.met) c
    ∙ ap (λ (x : ℕ). mk (shown_in w).time (shown_in w).steady w.rate x s.level s.target s.met) d
    ∙ ap (λ (x : ℕ). mk (shown_in w).time (shown_in w).steady w.rate (shown_in w).ticks x s.target s.met) e
    ∙ ap (λ (x : Option ℕ). mk (shown_in w).time (shown_in w).steady w.rate (shown_in w).ticks (shown_in w).level x s.met) f
    ∙ ap (λ (x : StreamCounts). mk (shown_in w).time (shown_in w).steady w.rate (shown_in w).ticks (shown_in w).level w.stream.target x) g

-- the stream's part of a bus frame
pub carried_between : {E : Type 0} (b : Brought) (w : FullSpeedWorld) (before : FsRunFields) (stream : BenchStreamFields) (detail : ℕ) (old new : Option (List ℕ)) (r : Result (Unit {0}) E)
    → FsRunStandsBetween before w → detail ≡ w.detail → b.ticks ≤ 769
    → Prints old new r (stream_lines detail b.lost b.frames b.ticks w.stream) × OnOk r (BenchStreamStands stream (after_frame b.lost b.frames b.ticks w.stream))
    → CarryTells b w (record before { stream = stream }) old new r
carried_between b w before stream detail old new (Ok u) stands same short told = (
  subst (λ (d : ℕ). Appends old new (text_of (stream_lines d b.lost b.frames b.ticks w.stream))) same told.0,
  record {
    now = record {
      rate = stands.now.rate;
      nominal = stands.now.nominal;
      stream = told.1;
      clock = stands.now.clock;
      pace = stands.now.pace;
      value = stands.now.value;
      deviation = stands.now.deviation;
      steady = stands.now.steady;
      detail = stands.now.detail;
      time = stands.now.time;
      since = stands.now.since;
    };
    room = after_frame_room b.lost b.frames b.ticks w.stream stands.room short;
  },
)
carried_between b w before stream detail old new (Err e) stands same short told =
    (subst (λ (d : ℕ). AppendsFront old new (text_of (stream_lines d b.lost b.frames b.ticks w.stream))) same told.0, tt)

-- ---- up to the report

pub number_cut : (w : FullSpeedWorld) (lost : Bool) (old new : Option (List ℕ)) → AppendsFront old new (text_of (frame_number (passed lost w)))
    → AppendsFront old new (text_of (lines_before_feedback lost w))
unfolding lines_before_feedback
number_cut w lost old new f = front_of_more old new (frame_number (passed lost w)) (stream_lines w.detail lost (size_next w) (ticks_next w) w.stream) f

-- what a bus frame brings, told of the world before it
abbrev Carries : {E : Type 0} → ℕ → Bool → ℕ → FullSpeedWorld → FsRunFields → Bool → Option (List ℕ) → Option (List ℕ) → Result (Unit {0}) E → Type 0
Carries frames l ticks w kept lost old new r =
    FsSaysBetween (stream_lines w.detail l frames ticks w.stream) (record (passed lost w) { stream = after_frame l frames ticks w.stream }) kept old new r

carries : {E : Type 0} (b : Brought) (w : FullSpeedWorld) (kept : FsRunFields) (lost : Bool) (old new : Option (List ℕ)) (r : Result (Unit {0}) E)
    → CarryTells b (passed lost w) kept old new r → Carries b.frames b.lost b.ticks w kept lost old new r
unfolding passed
carries b w kept lost old new r h = h

pub told_up : {E : Type 0} (b : Brought) (w : FullSpeedWorld) (kept : FsRunFields) (lost : Bool) (old mid new : Option (List ℕ)) (r : Result (Unit {0}) E)
    → Appends old mid (text_of (frame_number (passed lost w))) → b.frames ≡ size_next w → b.lost ≡ lost → b.ticks ≡ ticks_next w
    → CarryTells b (passed lost w) kept mid new r → FsSaysBetween (lines_before_feedback lost w) (before_feedback lost w) kept old new r
unfolding lines_before_feedback before_feedback
told_up b w kept lost old mid new r first frames is ticks told =
    let t = subst (λ (n : ℕ). Carries n lost (ticks_next w) w kept lost mid new r) frames
    (subst (λ (l : Bool). Carries b.frames l (ticks_next w) w kept lost mid new r) is
    (subst (λ (n : ℕ). Carries b.frames b.lost n w kept lost mid new r) ticks (carries b w kept lost mid new r told))) in
    (Prints-after old mid new r (frame_number (passed lost w)) (stream_lines w.detail lost (size_next w) (ticks_next w) w.stream) first t.0, t.1)

-- ---- the report

pub not_due : (w : FullSpeedWorld) (lost : Bool) (since : ℕ) → since ≡ length w.steps % 8 → since ≢ 0 → (feedback_lines lost w ≡ []) × (after_feedback lost w ≡ w)
unfolding after_feedback
not_due w lost since is some =
    let none : is_feedback_due w ≡ false = from (is_feedback_due w) refl in
    (ap (λ (due : Bool). feedback_lines_if due w.detail lost (feedback_in w)) none, ap (λ (due : Bool). feedback_if due lost (feedback_in w) w) none) where
      from : (due : Bool) → is_feedback_due w ≡ due → is_feedback_due w ≡ false
      from false e = e
      from true e = absurd (some (is ∙ eqb-true (length w.steps % 8) 0 e))

pub due : (w : FullSpeedWorld) (lost : Bool) (since : ℕ) → since ≡ length w.steps % 8 → since ≡ 0
    → (feedback_lines lost w ≡ if_said (nat_le 2 w.detail) (says_fs_feedback (feedback_in w) lost ∷ [])) × (after_feedback lost w ≡ feedback_given lost (feedback_in w) w)
unfolding after_feedback
due w lost since is none =
    let some : is_feedback_due w ≡ true = eq-eqb (length w.steps % 8) 0 (sym is ∙ none) in
    (ap (λ (d : Bool). feedback_lines_if d w.detail lost (feedback_in w)) some, ap (λ (d : Bool). feedback_if d lost (feedback_in w) w) some)

given_room : (lost : Bool) (value : ℕ) (w : FullSpeedWorld) → HasRoom w.stream → HasRoom (feedback_given lost value w).stream
given_room true value w room = record { played = room.played; few = room.few }
given_room false value w room = room

abbrev pub NoFeedback : FullSpeedWorld → FsRunFields → Bool → Option (List ℕ) → Type 0
NoFeedback w kept lost old = Appends old old (fs_text_of (feedback_lines lost w)) × FsRunStandsBetween kept (after_feedback lost w)

pub no_feedback : (w : FullSpeedWorld) (kept : FsRunFields) (lost : Bool) (old : Option (List ℕ)) → FsRunStandsBetween kept w → kept.since ≢ 0
    → NoFeedback w kept lost old
no_feedback w kept lost old stands some =
    let none = not_due w lost kept.since stands.now.since some in (
      subst (λ (ls : List FsLine). Appends old old (fs_text_of ls)) (sym none.0) (Appends-nil old),
      subst (FsRunStandsBetween kept) (sym none.1) stands,
    )

pub some_feedback : {E : Type 0} (w : FullSpeedWorld) (before kept : FsRunFields) (lost : Bool) (value detail : ℕ) (old new : Option (List ℕ)) (r : Result (Unit {0}) E)
    → FsRunStandsBetween before w → before.since ≡ 0 → value ≡ feedback_in w → detail ≡ before.detail → FsRunStands kept (feedback_given lost value w)
    → FsPrints old new r (if_said (nat_le 2 detail) (says_fs_feedback value lost ∷ []))
    → FsTellsBetween (feedback_lines lost w) (after_feedback lost w) kept old new r
some_feedback w before kept lost value detail old new r stands none is same given printed =
    let some = due w lost before.since stands.now.since none in
    let now : FsRunStandsBetween kept (feedback_given lost (feedback_in w) w) =
    record { now = subst (λ (v : ℕ). FsRunStands kept (feedback_given lost v w)) is given; room = given_room lost (feedback_in w) w stands.room } in
    let lines : if_said (nat_le 2 detail) (says_fs_feedback value lost ∷ []) ≡ feedback_lines lost w =
    ap (λ (d : ℕ). if_said (nat_le 2 d) (says_fs_feedback value lost ∷ [])) (same ∙ stands.now.detail) ∙ ap (λ (v : ℕ). if_said (nat_le 2 w.detail) (says_fs_feedback v lost ∷ [])) is ∙ sym some.0 in
    (subst (FsPrints old new r) lines printed, on_ok r (FsRunStandsBetween kept (after_feedback lost w)) (subst (FsRunStandsBetween kept) (sym some.1) now))

-- ---- a bus frame

pub frame_cut : (w : FullSpeedWorld) (packet_lost report_lost : Bool) (old new : Option (List ℕ)) → AppendsFront old new (text_of (lines_before_feedback packet_lost w))
    → AppendsFront old new (fs_text_of (frame_lines packet_lost report_lost w))
unfolding frame_lines
frame_cut w packet_lost report_lost old new f =
    spelt-front_of_more fs_spelling_of old new (as_run (lines_before_feedback packet_lost w)) (feedback_lines report_lost (before_feedback packet_lost w))
    (subst (AppendsFront old new) (sym (as_run_text (lines_before_feedback packet_lost w))) f)

pub frame_told : {E : Type 0} (w : FullSpeedWorld) (kept : FsRunFields) (packet_lost report_lost : Bool) (old mid new : Option (List ℕ)) (r : Result (Unit {0}) E)
    → Appends old mid (text_of (lines_before_feedback packet_lost w))
    → FsTellsBetween (feedback_lines report_lost (before_feedback packet_lost w)) (after_feedback report_lost (before_feedback packet_lost w)) kept mid new r
    → FsTellsBetween (frame_lines packet_lost report_lost w) (bus_frame packet_lost report_lost w) kept old new r
unfolding frame_lines bus_frame
frame_told w kept packet_lost report_lost old mid new r first told = (
  spelt-after fs_spelling_of old mid new r (as_run (lines_before_feedback packet_lost w)) (feedback_lines report_lost (before_feedback packet_lost w))
      (subst (Appends old mid) (sym (as_run_text (lines_before_feedback packet_lost w))) first) told.0,
  told.1,
)

-- ---- bus frames

module _ (packet_lost report_lost : Bool) where
  abbrev step_of : FullSpeedWorld → FullSpeedWorld
  step_of w = bus_frame packet_lost report_lost w

  abbrev said_of : FullSpeedWorld → List FsLine
  said_of w = frame_lines packet_lost report_lost w

  abbrev all_of : ℕ → FullSpeedWorld → List FsLine
  all_of n w = frames_lines n packet_lost report_lost w

  abbrev after_of : ℕ → FullSpeedWorld → FullSpeedWorld
  after_of n w = bus_frames n packet_lost report_lost w

  no_lines : (w : FullSpeedWorld) → all_of zero w ≡ []
  unfolding frames_lines
  no_lines w = refl

  more_lines : (n : ℕ) (w : FullSpeedWorld) → all_of (suc n) w ≡ said_of w ++ all_of n (step_of w)
  unfolding frames_lines
  more_lines n w = refl

  no_frames : (w : FullSpeedWorld) → after_of zero w ≡ w
  unfolding bus_frames
  no_frames w = refl

  more_frames : (n : ℕ) (w : FullSpeedWorld) → after_of (suc n) w ≡ after_of n (step_of w)
  unfolding bus_frames
  more_frames n w = refl

  pub frames_further : (i : ℕ) (w : FullSpeedWorld) → bus_frames (i + 1) packet_lost report_lost w ≡ bus_frame packet_lost report_lost (bus_frames i packet_lost report_lost w)
  frames_further = one_further fs_spelling_of step_of said_of all_of after_of no_lines more_lines no_frames more_frames

  pub frames_told_more : (old mid new : Option (List ℕ)) (i : ℕ) (w : FullSpeedWorld) → Appends old mid (fs_text_of (frames_lines i packet_lost report_lost w))
      → Appends mid new (fs_text_of (frame_lines packet_lost report_lost (bus_frames i packet_lost report_lost w))) → Appends old new (fs_text_of (frames_lines (i + 1) packet_lost report_lost w))
  frames_told_more = told_more fs_spelling_of step_of said_of all_of after_of no_lines more_lines no_frames more_frames

  pub frames_told_in_part : (old mid new : Option (List ℕ)) (i count : ℕ) (w : FullSpeedWorld) → i < count → Appends old mid (fs_text_of (frames_lines i packet_lost report_lost w))
      → AppendsFront mid new (fs_text_of (frame_lines packet_lost report_lost (bus_frames i packet_lost report_lost w))) → AppendsFront old new (fs_text_of (frames_lines count packet_lost report_lost w))
  frames_told_in_part = told_in_part fs_spelling_of step_of said_of all_of after_of no_lines more_lines no_frames more_frames

  pub no_frames_told : (old : Option (List ℕ)) (kept : FsRunFields) (w : FullSpeedWorld) → FsRunStandsBetween kept w
      → Appends old old (fs_text_of (frames_lines 0 packet_lost report_lost w)) × FsRunStandsBetween kept (bus_frames 0 packet_lost report_lost w)
  no_frames_told old kept w stands = (
    subst (λ (ls : List FsLine). Appends old old (fs_text_of ls)) (sym (no_lines w)) (Appends-nil old),
    subst (FsRunStandsBetween kept) (sym (no_frames w)) stands,
  )

  pub frames_done : (old new : Option (List ℕ)) (kept : FsRunFields) (i count : ℕ) (w : FullSpeedWorld) → count ≤ i → i ≤ count
      → Appends old new (fs_text_of (frames_lines i packet_lost report_lost w)) × FsRunStandsBetween kept (bus_frames i packet_lost report_lost w)
      → Appends old new (fs_text_of (frames_lines count packet_lost report_lost w)) × FsRunStandsBetween kept (bus_frames count packet_lost report_lost w)
  frames_done old new kept i count w past within told =
      let same : i ≡ count = omega arith in
      subst (λ (n : ℕ). Appends old new (fs_text_of (frames_lines n packet_lost report_lost w)) × FsRunStandsBetween kept (bus_frames n packet_lost report_lost w)) same told
