-- No line that is printed tells of an element in whose name a newline stands, so the text of lines tells them.
use Rattle.std.proofs.Common.{arith, refl, ℕ, zero, suc, ◌≢◌, Bool, true, false, if◌then◌else◌, ℤ, List, [], ◌∷◌, ◌++◌, map, length, codes, decimal, Option, None, Some, is_some, Result, Ok, Err}
use Rattle.std.specs.List.{All}
use Rattle.std.proofs.lemmas.List.Elements.{All-append, All-cons, All-map, All-nil}
use Rattle.uac_entities.specs.declared.stream.StreamInterface.{StreamInterface}
use Rattle.uac_grammar_rules.specs.declared.faults.GrammarFault.{GrammarFault}
use Rattle.uac_grammar_rules.specs.Grammar.{first_fault}
use Rattle.uac_grammar.specs.Stop.{shown_fault}
use Rattle.uac_topology_rules.specs.declared.fault.TopologyFault.{TopologyFault}
use Rattle.uac_topology.specs.Function.{FunctionFields}
use Rattle.uac_topology.specs.Topology.{first_fault_of}
use Rattle.uac_topology.specs.Description.{blocks_of, function_of}
use Rattle.uac_units.specs.Hearing.{Reading}
use Rattle.uac_request.specs.Requests.{AnswerFields, with_bytes, with_descriptor, is_done, is_stalled}
use Rattle.uac_ring.specs.declared.counts.StreamCounts.{StreamCounts}
use Rattle.uac_device.specs.DeviceWorld.{Domain, after_advance, next_ticks}
use Rattle.uac_mixer.specs.MixerElements.{fits_element, kind_name, name_of}
use Rattle.uac_mixer.specs.declared.element.Element.{Element}
use Rattle.uac_mixer.specs.declared.kinds.ElementKind.{ElementKind}
use Rattle.uac_mixer.specs.declared.kinds.ElementKind.TheVariants as kinds
use Rattle.uac_script.specs.Phrase.{PhraseMark, Phrase, nothing_line, bytes_line, go_line, control_line, get_line, set_line, show_line, break_line, append_line, track_line, jack_line, deviate_line, microframes_line, detail_line, report_line}
use Rattle.uac_transcript.specs.Spellings.{HasNoNewline, HasPlainName}
use Rattle.uac_transcript.specs.Transcript.{Said, TransferOutcome, says_answer, says_level, says_meter, says_over, says_time, says_renders, says_steady, says_under, says_view, element_has_value, was_broken}
use Rattle.uac_transcript.proofs.SpellingsLemmas.{decimal-without, without}
use Rattle.uac_transcript.proofs.ReadBackLemmas.{read_back}
use Rattle.uac_streaming.specs.StreamingWorld.{finds_empty, finds_full}
use Rattle.uac_running.specs.ReportLines.{domain_line, says_stream, stream_line}
use Rattle.uac_running.specs.RunningWorld.{RunningWorld, at_start, streaming_of, with_deviation, with_samples_on, with_jack_tone, with_track}
use Rattle.uac_running.specs.RunningWorld as world
use Rattle.uac_running.specs.RunningNames.{are_frames, natural_of_int}
use Rattle.uac_running.specs.RunningLines.{ready_line, report_lines}
use Rattle.uac_running.specs.Events.{after_all_jacks, domain_microframe, domain_microframes, microframe, microframes, tick}
use Rattle.uac_running.specs.RunningTransfers.{element_named, read_element, read_sight, set_element, set_sight, show_element, shown_sight, transfer}
use Rattle.uac_fault.specs.declared.fault.BusFault.{BusFault}
use Rattle.uac_rows.specs.BusWorld.{Step, BusWorld, describing, done, if_no_fault, if_sound, refused, running, silently, step, step_describing, step_feed, step_go, step_running, step_telling, tone_of, unless}
use Rattle.uac_rows.specs.After.{after, and_then, said_step}
use Rattle.uac_levels.proofs.RunningWorldLineLemmas.{IsQuiet, domains_say, each_says, ends_say, fetched, microframe_says, numbered, outs_say, tick_says, ticked_on, ticks_say}
use Rattle.uac_promises.proofs.ScriptsEarlierLemmas.{on_element_is, unless_is}
use Rattle.uac_promises.specs.PrintedText.{TextsAreReadBack}

-- ---- names of elements

kind_plain : (kind : ElementKind) → HasNoNewline (kind_name kind)
kind_plain kinds.Rate = without 10 (codes "rate") refl
kind_plain kinds.Clock = without 10 (codes "clock") refl
kind_plain kinds.Times = without 10 (codes "times") refl
kind_plain kinds.Over = without 10 (codes "over") refl
kind_plain kinds.Mix = without 10 (codes "mix") refl
kind_plain kinds.Select = without 10 (codes "select") refl
kind_plain kinds.Mute = without 10 (codes "mute") refl
kind_plain kinds.Volume = without 10 (codes "volume") refl
kind_plain kinds.Enable = without 10 (codes "enable") refl

then_dot : (front : List ℕ) (n : ℕ) → HasNoNewline front → HasNoNewline (front ++ codes "." ++ decimal n)
then_dot front n plain =
    All-append (λ b. b ≢ 10) (front ++ codes ".") (decimal n)
    (All-append (λ b. b ≢ 10) front (codes ".") plain (without 10 (codes ".") refl)) (decimal-without 10 n (omega arith))

name_plain : (x : Element) → HasNoNewline (name_of x)
unfolding name_of
name_plain x =
    then_dot (kind_name x.kind ++ codes "." ++ decimal x.key.entity) x.key.channel (then_dot (kind_name x.kind) x.key.entity (kind_plain x.kind))

-- ---- lines

abbrev ArePlain : List Said → Type 0
ArePlain lines = All HasPlainName lines

none_plain : ArePlain []
none_plain = All-nil HasPlainName

one_plain : (said : Said) → HasPlainName said → ArePlain (said ∷ [])
one_plain said plain = All-cons HasPlainName said [] plain none_plain

answer_plain : (outcome : TransferOutcome) → ArePlain (says_answer outcome ∷ [])
unfolding HasPlainName
answer_plain outcome = one_plain (says_answer outcome) tt

read_is_plain : (x : Element) (value : ℤ) (b : Bool) → HasPlainName (says_view (if b then was_broken else element_has_value (name_of x) value))
unfolding HasPlainName
read_is_plain x value true = tt
read_is_plain x value false = name_plain x

set_is_plain : (came : Option AnswerFields) → HasPlainName (says_view (set_sight came))
unfolding HasPlainName
set_is_plain None = tt
set_is_plain (Some (with_bytes bytes)) = tt
set_is_plain (Some (with_descriptor from to)) = tt
set_is_plain (Some is_done) = tt
set_is_plain (Some (is_stalled rule)) = tt

shown_is_plain : (x : Element) (value : Option ℤ) → HasPlainName (says_view (shown_sight x value))
unfolding HasPlainName
shown_is_plain x None = name_plain x
shown_is_plain x (Some value) = name_plain x

-- ---- a microframe

under_plain : (interface : ℕ) → HasPlainName (says_under interface)
unfolding HasPlainName
under_plain interface = tt

over_plain : (interface : ℕ) → HasPlainName (says_over interface)
unfolding HasPlainName
over_plain interface = tt

level_plain : (interface level : ℕ) (target : Option ℕ) → HasPlainName (says_level interface level target)
unfolding HasPlainName
level_plain interface level target = tt

others_plain : IsQuiet HasPlainName
unfolding HasPlainName
others_plain = record {
  microframe = λ number. tt;
  out = λ interface frames arrival. tt;
  in_ = λ interface frames lost. tt;
  frame = λ interface samples. tt;
  played = λ terminal samples. tt;
  feedback = λ interface value lost. tt;
}

tick_plain : (c : ℕ) (r : RunningWorld) → ArePlain (tick c r).lines
tick_plain c r =
    tick_says HasPlainName others_plain c r
    (each_says HasPlainName says_under (finds_empty c (after_all_jacks c r)) (λ n passes. under_plain n))
    (each_says HasPlainName says_over (finds_full c (after_all_jacks c r)) (λ n passes. over_plain n))

domain_plain : (c : ℕ) (r : RunningWorld) → Unit {0} → ArePlain (domain_microframe c r).lines
unfolding domain_microframe
domain_plain c r all =
    ticks_say HasPlainName others_plain (λ v. Unit {0}) c (λ v any. tick_plain c v) (λ v any. tt) (next_ticks c r.device)
    (record r { device = after_advance c r.device }) tt

ticks_plain : (clocks : List ℕ) (r : RunningWorld) → ArePlain (domain_microframes clocks r).lines
ticks_plain clocks r = domains_say HasPlainName others_plain (λ v. Unit {0}) domain_plain (λ c v any. tt) clocks r tt

microframe_plain : (marks : List PhraseMark) (r : RunningWorld) → ArePlain (microframe marks r).lines
microframe_plain marks r =
    microframe_says HasPlainName others_plain marks r
    (outs_say HasPlainName others_plain over_plain r.detail marks (streaming_of (numbered r)))
    (ticks_plain (fetched marks r).device.function.domains (fetched marks r))
    (ends_say HasPlainName others_plain level_plain (ticked_on marks r).detail (streaming_of (ticked_on marks r)))

microframes_plain : (marks : List PhraseMark) (count : ℕ) (r : RunningWorld) → ArePlain (microframes marks count r).lines
unfolding microframes
microframes_plain marks zero r = none_plain
microframes_plain marks (suc count) r =
    All-append HasPlainName (microframe marks r).lines (microframes marks count (microframe marks r).world).lines (microframe_plain marks r)
    (microframes_plain marks count (microframe marks r).world)

-- ---- the report

each_plain : {A : Type 0} (line : A → Said) → ((x : A) → HasPlainName (line x)) → (xs : List A) → ArePlain (map line xs)
each_plain line plain xs = All-map HasPlainName line xs (λ k d inside. plain _)

domain_line_plain : (r : RunningWorld) (d : Domain) → HasPlainName (domain_line r.device d)
unfolding domain_line HasPlainName
domain_line_plain r d = tt

says_stream_plain : (out : Bool) (number setting level : ℕ) (target : Option ℕ) (met : StreamCounts)
    → HasPlainName (says_stream out number setting level target met)
unfolding HasPlainName
says_stream_plain true number setting level target met = tt
says_stream_plain false number setting level target met = tt

stream_line_plain : (r : RunningWorld) (s : StreamInterface) → HasPlainName (stream_line r.device r.met s)
unfolding stream_line
stream_line_plain r s = says_stream_plain s.out _ _ _ _ _

report_plain : (r : RunningWorld) → ArePlain (report_lines r)
unfolding report_lines HasPlainName
report_plain r =
    let last : List Said = says_renders r.renders ∷ [] in
    let meters : List Said = map says_meter r.meters in
    let streams : List Said = map (stream_line r.device r.met) r.device.function.streams in
    let domains : List Said = map (domain_line r.device) r.device.domains in
    let heard : ArePlain (meters ++ last) =
    All-append HasPlainName meters last (each_plain says_meter (λ reading. tt) r.meters) (one_plain (says_renders r.renders) tt) in
    let streamed : ArePlain (streams ++ (meters ++ last)) =
    All-append HasPlainName streams (meters ++ last) (each_plain (stream_line r.device r.met) (stream_line_plain r) r.device.function.streams) heard in
    let clocked : ArePlain (domains ++ (streams ++ (meters ++ last))) =
    All-append HasPlainName domains (streams ++ (meters ++ last)) (each_plain (domain_line r.device) (domain_line_plain r) r.device.domains) streamed in
    let steady : Said = says_steady (world.is_steady r) in
    All-cons HasPlainName (says_time r.time) (steady ∷ domains ++ (streams ++ (meters ++ last))) tt
    (All-cons HasPlainName steady (domains ++ (streams ++ (meters ++ last))) tt clocked)

-- ---- one line of a script

abbrev Prints : Step → Type 0
Prints (done next lines) = ArePlain lines
Prints (refused fault) = Unit {0}

no_step : (fault : BusFault) → Prints (refused fault)
no_step fault = tt

module _ (r : RunningWorld) where
  running_prints : (phrase : Phrase) → Prints (step_running r phrase)
  unfolding transfer read_element set_element show_element
  running_prints nothing_line = none_plain
  running_prints (bytes_line more) = tt
  running_prints go_line = tt
  running_prints (control_line setup sent) = answer_plain _
  running_prints (get_line name) =
      on_element_is Prints no_step (element_named r name) (λ x. step_telling (read_element x r))
      (λ x. one_plain (says_view (read_sight x r)) (read_is_plain x _ (is_some r.breaks)))
  running_prints (set_line name value) =
      on_element_is Prints no_step (element_named r name) (λ x. unless (fits_element x.kind value) 7 (step_telling (set_element x value r)))
      (λ x. unless_is Prints no_step (fits_element x.kind value) 7 (step_telling (set_element x value r))
      (one_plain (says_view (set_sight _)) (set_is_plain _)))
  running_prints (show_line name) =
      on_element_is Prints no_step (element_named r name) (λ x. step_telling (show_element x r))
      (λ x. one_plain (says_view (shown_sight x x.value)) (shown_is_plain x x.value))
  running_prints (break_line later) = none_plain
  running_prints (append_line number samples) =
      let next : Step = silently (running (with_samples_on (natural_of_int number) samples r)) in
      unless_is Prints no_step _ 6 (unless (are_frames r.device.function (natural_of_int number) (length samples)) 7 next)
      (unless_is Prints no_step _ 7 next none_plain)
  running_prints (track_line number tone) =
      unless_is Prints no_step _ 6 (silently (running (with_track (natural_of_int number) (tone_of tone) r))) none_plain
  running_prints (jack_line terminal tone) =
      unless_is Prints no_step _ 6 (silently (running (with_jack_tone (natural_of_int terminal) (tone_of tone) r))) none_plain
  running_prints (deviate_line clock ppm) =
      unless_is Prints no_step _ 6 (silently (running (with_deviation (natural_of_int clock) ppm r))) none_plain
  running_prints (microframes_line count marks) =
      unless_is Prints no_step _ 6 (step_telling (microframes marks (natural_of_int count) r)) (microframes_plain marks (natural_of_int count) r)
  running_prints (detail_line level) = none_plain
  running_prints report_line = report_plain r

unless_faulty : (o : Option GrammarFault) (s : Step) → Prints s → Prints (if_no_fault o s)
unless_faulty None s prints = prints
unless_faulty (Some fault) s prints = tt

unless_unsound : (o : Option TopologyFault) (s : Step) → Prints s → Prints (if_sound o s)
unless_unsound None s prints = prints
unless_unsound (Some fault) s prints = tt

ready_plain : (function : FunctionFields) → ArePlain (ready_line function ∷ [])
unfolding HasPlainName
ready_plain function = one_plain (ready_line function) tt

module _ (bytes : List ℕ) (meters : List Reading) where
  fed_prints : (now : List ℕ) → Prints (step_feed now meters)
  unfolding step_feed
  fed_prints now = unless_faulty (shown_fault now) (silently (describing now meters)) none_plain

  gone_prints : Prints (step_go bytes meters)
  unfolding step_go
  gone_prints =
      let function : FunctionFields = function_of (blocks_of bytes) in
      let starts : Step = done (running (at_start bytes function meters)) (ready_line function ∷ []) in
      unless_faulty (first_fault bytes) (if_sound (first_fault_of (blocks_of bytes)) starts)
      (unless_unsound (first_fault_of (blocks_of bytes)) starts (ready_plain function))

  describing_prints : (phrase : Phrase) → Prints (step_describing bytes meters phrase)
  describing_prints nothing_line = none_plain
  describing_prints (bytes_line more) = fed_prints (bytes ++ more)
  describing_prints go_line = gone_prints
  describing_prints (control_line setup sent) = tt
  describing_prints (get_line name) = tt
  describing_prints (set_line name value) = tt
  describing_prints (show_line name) = tt
  describing_prints (break_line later) = tt
  describing_prints (append_line number samples) = tt
  describing_prints (track_line number tone) = tt
  describing_prints (jack_line terminal tone) = tt
  describing_prints (deviate_line clock ppm) = tt
  describing_prints (microframes_line count marks) = tt
  describing_prints (detail_line level) = tt
  describing_prints report_line = tt

said_prints : (said : Result Phrase ℕ) (w : BusWorld) → Prints (said_step said w)
unfolding step
said_prints (Ok phrase) (describing bytes meters) = describing_prints bytes meters phrase
said_prints (Ok phrase) (running r) = running_prints r phrase
said_prints (Err rule) w = tt

-- ---- lines in a row

lines_plain : (saids : List (Result Phrase ℕ)) (w : BusWorld) → ArePlain (after saids w).lines
unfolding after
lines_plain [] w = none_plain
lines_plain (said ∷ saids) w = by (said_step said w) (said_prints said w) (lines_plain saids)
  where
    by : (s : Step) → Prints s → ((next : BusWorld) → ArePlain (after saids next).lines) → ArePlain (and_then s w (after saids)).lines
    by (done next lines) now later = All-append HasPlainName lines (after saids next).lines now (later next)
    by (refused fault) now later = none_plain

pub texts_are_read_back : TextsAreReadBack
texts_are_read_back saids w = read_back (after saids w).lines (lines_plain saids w)
