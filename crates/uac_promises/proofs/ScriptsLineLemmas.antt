-- A line done in a world whose running device is in its bands, where what was given is steady after it: the device is in its bands after
-- it, and the line tells of no ring that was found empty, and of levels near their targets alone.
use Rattle.std.proofs.Common.{◌≡◌, ℕ, zero, suc, true, false, List, [], ◌∷◌, ◌++◌, map, Bool, Option}
use Rattle.std.specs.List.{All}
use Rattle.std.proofs.lemmas.List.Elements.{All-append, All-cons, All-nil}
use Rattle.uac_descriptor.specs.BlockParsing.{AreBytes}
use Rattle.uac_entities.specs.declared.stream.StreamInterface.{StreamInterface}
use Rattle.uac_rate.specs.Steadiness.{is_steady}
use Rattle.uac_device.specs.DeviceWorld.{Domain}
use Rattle.uac_request.specs.Requests.{setup_of}
use Rattle.uac_request.specs.declared.setup.Setup.{Setup}
use Rattle.uac_mixer.specs.MixerElements.{fits_element}
use Rattle.uac_script.specs.Phrase.{PhraseMark, Phrase, nothing_line, bytes_line, go_line, control_line, get_line, set_line, show_line, break_line, append_line, track_line, jack_line, deviate_line, microframes_line, detail_line, report_line}
use Rattle.uac_transcript.specs.Transcript.{Said, Sight, TransferOutcome, says_answer, says_view, says_meter, says_time, says_renders, says_steady}
use Rattle.uac_ring.specs.declared.counts.StreamCounts.{StreamCounts}
use Rattle.uac_running.specs.RunningWorld.{RunningWorld}
use Rattle.uac_running.specs.RunningWorld as world
use Rattle.uac_running.specs.RunningNames.{natural_of_int}
use Rattle.uac_running.specs.Events.{microframe, microframes}
use Rattle.uac_running.specs.RunningLines.{report_lines}
use Rattle.uac_running.specs.ReportLines.{domain_line, says_stream, stream_line}
use Rattle.uac_running.specs.RunningTransfers.{element_named, read_element, set_element, show_element, transfer, after_transfer}
use Rattle.uac_fault.specs.declared.fault.BusFault.{BusFault}
use Rattle.uac_rows.specs.BusWorld.{Step, BusWorld, describing, done, refused, running, step_running, step_telling, tone_of}
use Rattle.uac_levels.specs.BandRun.{IsNearLevel, IsNoUnder, RunInBand}
use Rattle.uac_levels.specs.BandTransfers.{IsSoundRun}
use Rattle.uac_levels.proofs.BeginningsLemmas.{calls_keep_bands}
use Rattle.uac_levels.proofs.BandRunEarlierLemmas.{calls_look_back, stay_steady}
use Rattle.uac_levels.proofs.BandTransfersBandLemmas.{transfers_keep_bands}
use Rattle.uac_levels.proofs.BandTransfersRunLemmas.{calls_keep_sound, microframes_keep_sound}
use Rattle.uac_levels.proofs.BandTransfersLemmas.{transfers_keep_sound}
use Rattle.uac_promises.specs.Scripts.{is_steady_in}
use Rattle.uac_promises.proofs.ScriptsEarlierLemmas.{appended, framed, gone_on, off, on_element_is, reads, set_to, shown, toned, tracked, unless_is}

-- lines that tell of no ring that was found empty, and of levels near their targets alone
pub record AreQuiet (lines : List Said) : Type 0 where
  pub no_under : All IsNoUnder lines
  pub near : All IsNearLevel lines

-- a descriptor's bytes are bytes; a running device is sound and in its bands
abbrev pub IsGood : BusWorld → Type 0
IsGood (describing bytes meters) = AreBytes bytes
IsGood (running r) = RunInBand r × IsSoundRun r

-- so it is after a line where what was given is steady there
pub record LeavesGood (next : BusWorld) (lines : List Said) : Type 0 where
  pub good : IsGood next
  pub quiet : AreQuiet lines

abbrev pub KeepsGood : Step → Type 0
KeepsGood (done next lines) = is_steady_in next ≡ true → LeavesGood next lines
KeepsGood (refused fault) = Unit {0}

pub no_step : (fault : BusFault) → KeepsGood (refused fault)
no_step fault = tt

-- ---- lines

-- a line that is neither of those
pub record IsQuiet (said : Said) : Type 0 where
  pub no_under : IsNoUnder said
  pub near : IsNearLevel said

pub none_quiet : AreQuiet []
none_quiet = record { no_under = All-nil IsNoUnder; near = All-nil IsNearLevel }

pub one_more : (said : Said) (lines : List Said) → IsQuiet said → AreQuiet lines → AreQuiet (said ∷ lines)
one_more said lines one more = record {
  no_under = All-cons IsNoUnder said lines one.no_under more.no_under;
  near = All-cons IsNearLevel said lines one.near more.near;
}

pub with_more : (lines more : List Said) → AreQuiet lines → AreQuiet more → AreQuiet (lines ++ more)
with_more lines more front back = record {
  no_under = All-append IsNoUnder lines more front.no_under back.no_under;
  near = All-append IsNearLevel lines more front.near back.near;
}

mapped_quiet : {A : Type 0} → (f : A → Said) → ((x : A) → IsQuiet (f x)) → (xs : List A) → AreQuiet (map f xs)
mapped_quiet f each [] = none_quiet
mapped_quiet f each (x ∷ xs) = one_more (f x) (map f xs) (each x) (mapped_quiet f each xs)

answer_quiet : (outcome : TransferOutcome) → AreQuiet (says_answer outcome ∷ [])
answer_quiet outcome =
    one_more (says_answer outcome) [] (record { no_under = λ k same. cc; near = λ k level target same. absurd (cc) }) none_quiet

view_quiet : (sight : Sight) → AreQuiet (says_view sight ∷ [])
view_quiet sight =
    one_more (says_view sight) [] (record { no_under = λ k same. cc; near = λ k level target same. absurd (cc) }) none_quiet

domain_quiet : (r : RunningWorld) (d : Domain) → IsQuiet (domain_line r.device d)
unfolding domain_line
domain_quiet r d = record { no_under = λ k same. cc; near = λ k level target same. absurd (cc) }

says_quiet : (out : Bool) (number setting level : ℕ) (target : Option ℕ) (met : StreamCounts)
    → IsQuiet (says_stream out number setting level target met)
says_quiet true number setting level target met = record { no_under = λ k same. cc; near = λ k level target same. absurd (cc) }
says_quiet false number setting level target met = record { no_under = λ k same. cc; near = λ k level target same. absurd (cc) }

stream_quiet : (r : RunningWorld) (s : StreamInterface) → IsQuiet (stream_line r.device r.met s)
unfolding stream_line
stream_quiet r s = says_quiet s.out _ _ _ _ _

report_quiet : (r : RunningWorld) → AreQuiet (report_lines r)
unfolding report_lines
report_quiet r =
    one_more (says_time r.time) _ (record { no_under = λ k same. cc; near = λ k level target same. absurd (cc) })
    (one_more (says_steady (world.is_steady r)) _ (record { no_under = λ k same. cc; near = λ k level target same. absurd (cc) })
    (with_more (map (domain_line r.device) r.device.domains) _ (mapped_quiet (domain_line r.device) (domain_quiet r) r.device.domains)
    (with_more (map (stream_line r.device r.met) r.device.function.streams) _
    (mapped_quiet (stream_line r.device r.met) (stream_quiet r) r.device.function.streams)
    (with_more (map says_meter r.meters) _
    (mapped_quiet says_meter (λ reading. record { no_under = λ k same. cc; near = λ k level target same. absurd (cc) }) r.meters)
    (one_more (says_renders r.renders) [] (record { no_under = λ k same. cc; near = λ k level target same. absurd (cc) }) none_quiet)))))

-- ---- the running device

sound_after : (marks : List PhraseMark) (count : ℕ) (r : RunningWorld) → IsSoundRun r → IsSoundRun (microframes marks count r).world
unfolding microframes
sound_after marks zero r sound = sound
sound_after marks (suc count) r sound = sound_after marks count (microframe marks r).world (microframes_keep_sound marks r sound)

module _ (r : RunningWorld) (band : RunInBand r) (sound : IsSoundRun r) where
  transfer_leaves : (p : Setup) (bytes : List ℕ) (lines : List Said) → AreQuiet lines → LeavesGood (running (after_transfer p bytes r)) lines
  transfer_leaves p bytes lines quiet =
      record { good = (transfers_keep_bands p bytes r band sound, transfers_keep_sound p bytes r sound); quiet = quiet }

  silent : (next : RunningWorld) → RunInBand next → IsSoundRun next → LeavesGood (running next) []
  silent next banded sounds = record { good = (banded, sounds); quiet = none_quiet }

  microframes_leave : (marks : List PhraseMark) (count : ℕ) → is_steady (microframes marks count r).world.history ≡ true
      → LeavesGood (running (microframes marks count r).world) (microframes marks count r).lines
  microframes_leave marks count steady =
      let stays = stay_steady marks count r band steady in
      record { good = (stays.stays, sound_after marks count r sound); quiet = record { no_under = stays.no_under; near = stays.near } }

  pub running_keeps : (phrase : Phrase) → KeepsGood (step_running r phrase)
  unfolding transfer read_element set_element show_element
  running_keeps nothing_line = λ h. silent r band sound
  running_keeps (bytes_line more) = tt
  running_keeps go_line = tt
  running_keeps (control_line setup sent) = λ h. transfer_leaves (setup_of setup) sent _ (answer_quiet _)
  running_keeps (get_line name) =
      on_element_is KeepsGood no_step (element_named r name) (reads r) (λ x h. transfer_leaves _ _ _ (view_quiet _))
  running_keeps (set_line name value) =
      on_element_is KeepsGood no_step (element_named r name) (set_to r value)
      (λ x. unless_is KeepsGood no_step (fits_element x.kind value) 7 (step_telling (set_element x value r))
      (λ h. transfer_leaves _ _ _ (view_quiet _)))
  running_keeps (show_line name) =
      on_element_is KeepsGood no_step (element_named r name) (shown r)
      (λ x h. record { good = (band, sound); quiet = view_quiet _ })
  running_keeps (break_line after) = λ h. silent _ ((calls_keep_bands r band).breaks after) ((calls_keep_sound r sound).breaks after)
  running_keeps (append_line number samples) =
      unless_is KeepsGood no_step _ 6 (framed r number samples)
      (unless_is KeepsGood no_step _ 7 (appended r number samples) (λ h.
      silent _ ((calls_keep_bands r band).samples (natural_of_int number) samples) ((calls_keep_sound r sound).samples (natural_of_int number) samples)))
  running_keeps (track_line number tone) =
      unless_is KeepsGood no_step _ 6 (tracked r number tone) (λ h.
      silent _ ((calls_keep_bands r band).track (natural_of_int number) (tone_of tone))
      ((calls_keep_sound r sound).track (natural_of_int number) (tone_of tone)))
  running_keeps (jack_line terminal tone) =
      unless_is KeepsGood no_step _ 6 (toned r terminal tone) (λ h.
      silent _ ((calls_keep_bands r band).tone (natural_of_int terminal) (tone_of tone))
      ((calls_keep_sound r sound).tone (natural_of_int terminal) (tone_of tone)))
  running_keeps (deviate_line clock ppm) =
      unless_is KeepsGood no_step _ 6 (off r clock ppm) (λ h.
      let slight = ((calls_look_back r).deviation (natural_of_int clock) ppm h).0 in
      silent _ ((calls_keep_bands r band).deviation (natural_of_int clock) ppm slight)
      ((calls_keep_sound r sound).deviation (natural_of_int clock) ppm slight))
  running_keeps (microframes_line count marks) =
      unless_is KeepsGood no_step _ 6 (gone_on r count marks) (microframes_leave marks (natural_of_int count))
  running_keeps (detail_line level) =
      λ h. silent _ ((calls_keep_bands r band).detail (natural_of_int level)) ((calls_keep_sound r sound).detail (natural_of_int level))
  running_keeps report_line = λ h. record { good = (band, sound); quiet = report_quiet r }
