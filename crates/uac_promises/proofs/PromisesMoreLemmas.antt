-- Lines in a row: what their reports tell, that no count of rings found empty or full rises, and what rings hold at every moment of them.
use Rattle.std.proofs.Common.{◌≡◌, ◌∙◌, refl, ap, subst, ℕ, zero, suc, true, List, [], ◌∷◌, ◌++◌, map, Option, Some, None, Result, Ok, Err}
use Rattle.std.specs.List.{All, AllByRecursion}
use Rattle.std.proofs.lemmas.List.Elements.{All-append, All-cons, All-map, All-nil, All-weaker}
use Rattle.uac_descriptor.specs.BlockParsing.{AreBytes}
use Rattle.uac_rate.specs.Levels.{IsSafeLevel}
use Rattle.uac_rate.specs.Steadiness.{is_steady}
use Rattle.uac_flow.specs.FlowStreams.{OutStream, out_level}
use Rattle.uac_units.specs.Hearing.{Reading}
use Rattle.uac_device.specs.DeviceWorld.{DeviceWorld}
use Rattle.uac_mixer.specs.MixerElements.{fits_element}
use Rattle.uac_script.specs.Phrase.{PhraseMark, Phrase, nothing_line, bytes_line, go_line, control_line, get_line, set_line, show_line, break_line, append_line, track_line, jack_line, deviate_line, microframes_line, detail_line, report_line}
use Rattle.uac_transcript.specs.Transcript.{Said, says_answer, says_view}
use Rattle.uac_running.specs.RunningWorld.{RunningWorld, with_detail, with_deviation, with_jack_tone, with_samples_on, with_track}
use Rattle.uac_running.specs.RunningNames.{natural_of_int}
use Rattle.uac_running.specs.RunningLines.{ready_line, report_lines}
use Rattle.uac_running.specs.RunningTransfers.{element_named, read_element, set_element, show_element, transfer, with_break}
use Rattle.uac_running.specs.Events.{microframe, microframes}
use Rattle.uac_fault.specs.declared.fault.BusFault.{BusFault}
use Rattle.uac_rows.specs.BusWorld.{Step, BusWorld, describing, done, refused, running, step, step_describing, step_running, step_telling, tone_of}
use Rattle.uac_rows.specs.After.{after, and_then}
use Rattle.uac_levels.specs.Life.{Life}
use Rattle.uac_levels.specs.BandRun.{IsNoUnder}
use Rattle.uac_levels.proofs.BandsLemmas.{holds_between}
use Rattle.uac_levels.specs.Recording.{IsNoOver}
use Rattle.uac_levels.proofs.RecordingLemmas.{rings_hold_an_interval}
use Rattle.uac_levels.specs.Past.{Pasts, pasts_after}
use Rattle.uac_promises.specs.Scripts.{is_steady_in}
use Rattle.uac_promises.proofs.ScriptsEarlierLemmas.{appended, framed, gone_on, microframes_before, off, on_element_is, reads, set_to, shown, toned, tracked, unless_is}
use Rattle.uac_promises.proofs.ScriptsLemmas.{lines_look_back}
use Rattle.uac_promises.proofs.ScriptsStartLemmas.{describing_is}
use Rattle.uac_promises.specs.Watches.{Microframes, Watch, Watches, and_then_watches, line_watches, microframe_watches, microframes_of, watch_in, watches_after}
use Rattle.uac_promises.specs.Promises.{IsKeptPromise, IsOfBytes}
use Rattle.uac_promises.specs.ReportPromises.{HaveMetNone, HaveMetNoneIn, IsTrueLine}
use Rattle.uac_promises.specs.Moments.{HoldsEnough, and_then_moments, line_moments, microframes_moments, moments, moments_after, resting}
use Rattle.uac_promises.proofs.WatchesLemmas.{IsSeen, line_is_seen, said_in}
use Rattle.uac_promises.proofs.RingCountsLineLemmas.{MeetsNone, TellOfNone, step_meets}
use Rattle.uac_promises.proofs.ReportLemmas.{IsOther, microframe_other, other_true, report_true}
use Rattle.uac_promises.proofs.MomentsOutLemmas.{outs_hold}
use Rattle.uac_promises.proofs.MomentsInLemmas.{ins_hold}
use Rattle.uac_promises.proofs.PromisesRunLemmas.{IsGoodIn, IsGoodRun, LawsOfSteps, microframe_keeps}
use Rattle.uac_promises.proofs.PromisesLineLemmas.{KeepsAll, running_keeps_all}
use Rattle.uac_promises.proofs.PromisesStartLemmas.{describing_keeps_all}

-- ---- what a line's reports tell

-- what a line that was done printed is so
abbrev TellsTrue : Option Microframes → BusWorld → Pasts → Step → Type 0
TellsTrue m w pasts (done next lines) = All IsTrueLine (line_watches m w next lines pasts).lines
TellsTrue m w pasts (refused fault) = Unit {0}

each_true : (w : BusWorld) (pasts : Pasts) (lines : List Said) → All IsOther lines → All IsTrueLine (map (watch_in w pasts) lines)
each_true w pasts lines others =
    All-map IsTrueLine (watch_in w pasts) lines
    (All-weaker IsOther (λ said. IsTrueLine (watch_in w pasts said)) (other_true w pasts) lines others)

lines_true : (w next : BusWorld) (pasts : Pasts) (lines : List Said) → All IsOther lines
    → All IsTrueLine (line_watches None w next lines pasts).lines
unfolding line_watches
lines_true w next pasts lines others = each_true next pasts lines others

one_other : (said : Said) → IsOther said → All IsOther (said ∷ [])
one_other said other = All-cons IsOther said [] other (All-nil IsOther)

microframes_true : (marks : List PhraseMark) (count : ℕ) (r : RunningWorld) (pasts : Pasts)
    → All IsTrueLine (microframe_watches marks count r pasts).lines
unfolding microframe_watches
microframes_true marks zero r pasts = All-nil IsTrueLine
microframes_true marks (suc count) r pasts =
    let next : RunningWorld = (microframe marks r).world in
    let later : Pasts = pasts_after marks r pasts in
    All-append IsTrueLine (map (watch_in (running next) later) (microframe marks r).lines) (microframe_watches marks count next later).lines
    (each_true (running next) later (microframe marks r).lines (microframe_other marks r)) (microframes_true marks count next later)

module _ (r : RunningWorld) (pasts : Pasts) (good : IsGoodRun r pasts) (none : HaveMetNone r) where
  abbrev Tells : Step → Type 0
  Tells = TellsTrue None (running r) pasts

  no_step : (fault : BusFault) → Tells (refused fault)
  no_step fault = tt

  prints : (next : RunningWorld) (lines : List Said) → All IsOther lines
      → All IsTrueLine (line_watches None (running r) (running next) lines pasts).lines
  prints next = lines_true (running r) (running next) pasts

  silent : (next : RunningWorld) → All IsTrueLine (line_watches None (running r) (running next) [] pasts).lines
  silent next = prints next [] (All-nil IsOther)

  running_true : (phrase : Phrase) → TellsTrue (microframes_of phrase) (running r) pasts (step_running r phrase)
  unfolding line_watches transfer read_element set_element show_element
  running_true nothing_line = silent r
  running_true (bytes_line more) = tt
  running_true go_line = tt
  running_true (control_line setup sent) = prints _ (says_answer _ ∷ []) (one_other (says_answer _) refl)
  running_true (get_line name) =
      on_element_is Tells no_step (element_named r name) (reads r) (λ x. prints _ (says_view _ ∷ []) (one_other (says_view _) refl))
  running_true (set_line name value) =
      on_element_is Tells no_step (element_named r name) (set_to r value)
      (λ x. unless_is Tells no_step (fits_element x.kind value) 7 (step_telling (set_element x value r))
      (prints _ (says_view _ ∷ []) (one_other (says_view _) refl)))
  running_true (show_line name) =
      on_element_is Tells no_step (element_named r name) (shown r) (λ x. prints _ (says_view _ ∷ []) (one_other (says_view _) refl))
  running_true (break_line after) = silent (with_break after r)
  running_true (append_line number samples) =
      unless_is Tells no_step _ 6 (framed r number samples) (unless_is Tells no_step _ 7 (appended r number samples) (silent (with_samples_on (natural_of_int number) samples r)))
  running_true (track_line number tone) = unless_is Tells no_step _ 6 (tracked r number tone) (silent (with_track (natural_of_int number) (tone_of tone) r))
  running_true (jack_line terminal tone) = unless_is Tells no_step _ 6 (toned r terminal tone) (silent (with_jack_tone (natural_of_int terminal) (tone_of tone) r))
  running_true (deviate_line clock ppm) = unless_is Tells no_step _ 6 (off r clock ppm) (silent (with_deviation (natural_of_int clock) ppm r))
  running_true (microframes_line count marks) =
      unless_is (TellsTrue (microframes_of (microframes_line count marks)) (running r) pasts) (λ fault. tt) _ 6 (gone_on r count marks)
      (microframes_true marks (natural_of_int count) r pasts)
  running_true (detail_line level) = silent (with_detail (natural_of_int level) r)
  running_true report_line =
      All-map IsTrueLine (watch_in (running r) pasts) (report_lines r) (report_true r pasts good none)

describing_true : (bytes : List ℕ) (meters : List Reading) (pasts : Pasts) (phrase : Phrase) → AreBytes bytes
    → ((more : List ℕ) → phrase ≡ bytes_line more → AreBytes more)
    → TellsTrue (microframes_of phrase) (describing bytes meters) pasts (step_describing bytes meters phrase)
describing_true bytes meters pasts =
    describing_is (λ phrase s. TellsTrue (microframes_of phrase) (describing bytes meters) pasts s) (λ phrase fault. tt) bytes meters
    (λ are. lines_true (describing bytes meters) _ pasts [] (All-nil IsOther))
    (λ more now are. lines_true (describing bytes meters) _ pasts [] (All-nil IsOther))
    (λ function is. lines_true (describing bytes meters) _ pasts (ready_line function ∷ []) (one_other (ready_line function) refl))

-- ---- what rings hold

rest_holds : (r : RunningWorld) (pasts : Pasts) → IsGoodRun r pasts → HoldsEnough r.device
rest_holds r pasts good = record {
  outs = λ k o target there is.
      (let stream = good.band.streams k o there in
      let l : Life = stream.0 in
      let same : l.out ≡ o = stream.2 in
      subst (λ (x : OutStream). IsSafeLevel x.stream.service (out_level x)) same
      (holds_between l target stream.3.band (ap (λ (x : OutStream). x.target) same ∙ is)));
  ins = λ k i there. rings_hold_an_interval r k i good.recorded there;
}

moments_hold : (marks : List PhraseMark) (r : RunningWorld) (pasts : Pasts) → IsGoodRun r pasts
    → is_steady (microframe marks r).world.history ≡ true → All HoldsEnough (moments marks r)
moments_hold marks r pasts good steady i d h = record {
  outs = λ k. outs_hold marks r good.band steady k i d h;
  ins = λ k. ins_hold marks r good.band good.sound good.recorded k i d h;
}

resting_holds : (w : BusWorld) (pasts : Pasts) → IsGoodIn w pasts → All HoldsEnough (resting w)
resting_holds (describing bytes meters) pasts good = All-nil HoldsEnough
resting_holds (running r) pasts good = All-cons HoldsEnough r.device [] (rest_holds r pasts good) (All-nil HoldsEnough)

said_so : (phrase : Phrase) (more : List ℕ) → phrase ≡ bytes_line more → (let said : Result Phrase ℕ = Ok phrase in said) ≡ Ok (bytes_line more)
said_so phrase more same = ap (λ (p : Phrase). let said : Result Phrase ℕ = Ok p in said) same

-- what lines leave, and what was so on the way
pub record LeavesMore (next : BusWorld) (later : Pasts) (seen : List Watch) (passed : List DeviceWorld) : Type 0 where
  pub good : IsGoodIn next later
  pub met : HaveMetNoneIn next
  pub told : All IsTrueLine seen
  pub held : All HoldsEnough passed

module _ (laws : LawsOfSteps) where
  microframes_hold : (marks : List PhraseMark) (count : ℕ) (r : RunningWorld) (pasts : Pasts) → IsGoodRun r pasts
      → is_steady (microframes marks count r).world.history ≡ true → All HoldsEnough (microframes_moments marks count r)
  unfolding microframes microframes_moments
  microframes_hold marks zero r pasts good steady = All-cons HoldsEnough r.device [] (rest_holds r pasts good) (All-nil HoldsEnough)
  microframes_hold marks (suc count) r pasts good steady =
      let next : RunningWorld = (microframe marks r).world in
      let is : is_steady next.history ≡ true = microframes_before marks count next steady in
      let first = microframe_keeps laws marks r pasts good is in
      All-cons HoldsEnough r.device (moments marks r ++ microframes_moments marks count next) (rest_holds r pasts good)
      (All-append HoldsEnough (moments marks r) (microframes_moments marks count next) (moments_hold marks r pasts good is)
      (microframes_hold marks count next (pasts_after marks r pasts) first.good steady))

  -- a line that was done
  abbrev HoldsAll : Option Microframes → BusWorld → Step → Type 0
  HoldsAll m w (done next lines) = is_steady_in next ≡ true → All HoldsEnough (line_moments m w)
  HoldsAll m w (refused fault) = Unit {0}

  resting_all : (w : BusWorld) (pasts : Pasts) → IsGoodIn w pasts → (s : Step) → HoldsAll None w s
  unfolding line_moments
  resting_all w pasts good (done next lines) = λ h. resting_holds w pasts good
  resting_all w pasts good (refused fault) = tt

  describing_all : (m : Option Microframes) (bytes : List ℕ) (meters : List Reading) (s : Step) → HoldsAll m (describing bytes meters) s
  unfolding line_moments
  describing_all None bytes meters (done next lines) = λ h. All-nil HoldsEnough
  describing_all (Some m) bytes meters (done next lines) = λ h. All-nil HoldsEnough
  describing_all m bytes meters (refused fault) = tt

  running_all : (r : RunningWorld) (pasts : Pasts) → IsGoodRun r pasts → (phrase : Phrase)
      → HoldsAll (microframes_of phrase) (running r) (step_running r phrase)
  unfolding line_moments
  running_all r pasts good (microframes_line count marks) =
      unless_is (HoldsAll (microframes_of (microframes_line count marks)) (running r)) (λ fault. tt) _ 6 (gone_on r count marks)
      (microframes_hold marks (natural_of_int count) r pasts good)
  running_all r pasts good phrase = resting_all (running r) pasts good (step_running r phrase)

  -- ---- one line

  step_keeps : (phrase : Phrase) (w : BusWorld) (pasts : Pasts) → IsGoodIn w pasts
      → ((more : List ℕ) → phrase ≡ bytes_line more → AreBytes more) → KeepsAll (microframes_of phrase) w pasts (step phrase w)
  unfolding step
  step_keeps phrase (describing bytes meters) pasts good feed = describing_keeps_all laws bytes meters pasts phrase good feed
  step_keeps phrase (running r) pasts good feed = running_keeps_all laws r pasts good phrase

  step_true : (phrase : Phrase) (w : BusWorld) (pasts : Pasts) → IsGoodIn w pasts → HaveMetNoneIn w
      → ((more : List ℕ) → phrase ≡ bytes_line more → AreBytes more) → TellsTrue (microframes_of phrase) w pasts (step phrase w)
  unfolding step
  step_true phrase (describing bytes meters) pasts good none feed = describing_true bytes meters pasts phrase good feed
  step_true phrase (running r) pasts good none feed = running_true r pasts good none phrase

  step_holds : (phrase : Phrase) (w : BusWorld) (pasts : Pasts) → IsGoodIn w pasts → HoldsAll (microframes_of phrase) w (step phrase w)
  unfolding step
  step_holds phrase (describing bytes meters) pasts good =
      describing_all (microframes_of phrase) bytes meters (step_describing bytes meters phrase)
  step_holds phrase (running r) pasts good = running_all r pasts good phrase

  -- ---- lines in a row

  abbrev TheRest : List (Result Phrase ℕ) → Type 0
  TheRest saids =
      (next : BusWorld) (later : Pasts) → IsGoodIn next later → HaveMetNoneIn next → is_steady_in (after saids next).world ≡ true
      → LeavesMore (after saids next).world (watches_after saids next later).pasts (watches_after saids next later).lines (moments_after saids next)

  none_more : (w : BusWorld) (pasts : Pasts) → IsGoodIn w pasts → HaveMetNoneIn w → LeavesMore w pasts [] (resting w)
  none_more w pasts good none =
      record { good = good; met = none; told = All-nil IsTrueLine; held = resting_holds w pasts good }

  tell_of_none : (seen : List Watch) (lines : List Said) → map said_in seen ≡ lines → All IsKeptPromise seen → TellOfNone lines
  tell_of_none seen lines same kept = record {
    no_under = subst (All IsNoUnder) same
        (All-map IsNoUnder said_in seen (All-weaker IsKeptPromise (λ watch. IsNoUnder watch.said) (λ watch is. is.no_under) seen kept));
    no_over = subst (All IsNoOver) same
        (All-map IsNoOver said_in seen (All-weaker IsKeptPromise (λ watch. IsNoOver watch.said) (λ watch is. is.no_over) seen kept));
  }

  with_first : (saids : List (Result Phrase ℕ)) (w : BusWorld) (pasts : Pasts) → IsGoodIn w pasts → HaveMetNoneIn w
      → (m : Option Microframes) (s : Step) → KeepsAll m w pasts s → TellsTrue m w pasts s → HoldsAll m w s → MeetsNone w s → IsSeen m w pasts s
      → TheRest saids → is_steady_in (and_then s w (after saids)).world ≡ true
      → LeavesMore (and_then s w (after saids)).world (and_then_watches s m w pasts (watches_after saids)).pasts
      (and_then_watches s m w pasts (watches_after saids)).lines (and_then_moments s m w (moments_after saids))
  with_first saids w pasts good none m (done next lines) keeps tells holds meets same rest h =
      let seen : Watches = line_watches m w next lines pasts in
      let steady : is_steady_in next ≡ true = lines_look_back saids next h in
      let leaves = keeps steady in
      let later = rest next seen.pasts leaves.good (meets (tell_of_none seen.lines lines same leaves.kept) none) h in
      record {
        good = later.good;
        met = later.met;
        told = All-append IsTrueLine seen.lines (watches_after saids next seen.pasts).lines tells later.told;
        held = All-append HoldsEnough (line_moments m w) (moments_after saids next) (holds steady) later.held;
      }
  with_first saids w pasts good none m (refused fault) keeps tells holds meets same rest h = none_more w pasts good none

  pub lines_leave_more : (saids : List (Result Phrase ℕ)) → AllByRecursion IsOfBytes saids → TheRest saids
  unfolding after watches_after moments_after
  lines_leave_more [] each w pasts good none steady = none_more w pasts good none
  lines_leave_more (Ok phrase ∷ saids) each w pasts good none steady =
      let feed : (more : List ℕ) → phrase ≡ bytes_line more → AreBytes more = λ more same. each.0 more (said_so phrase more same) in
      with_first saids w pasts good none (microframes_of phrase) (step phrase w) (step_keeps phrase w pasts good feed)
      (step_true phrase w pasts good none feed) (step_holds phrase w pasts good) (step_meets phrase w) (line_is_seen phrase w pasts)
      (lines_leave_more saids each.1) steady
  lines_leave_more (Err rule ∷ saids) each w pasts good none steady = none_more w pasts good none
