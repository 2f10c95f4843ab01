-- A line of a script that tells of no ring that was found empty or full lets no count of such rings rise.
use Rattle.std.proofs.Common.{refl, ℕ, List, [], ◌∷◌, ◌++◌, Option, Some, None}
use Rattle.std.specs.List.{All, AllByRecursion}
use Rattle.std.proofs.lemmas.List.Elements.{recursion_from_All}
use Rattle.uac_grammar_rules.specs.declared.faults.GrammarFault.{GrammarFault}
use Rattle.uac_grammar_rules.specs.Grammar.{first_fault}
use Rattle.uac_grammar.specs.Stop.{shown_fault}
use Rattle.uac_topology_rules.specs.declared.fault.TopologyFault.{TopologyFault}
use Rattle.uac_topology.specs.Topology.{first_fault_of}
use Rattle.uac_topology.specs.Description.{blocks_of, function_of}
use Rattle.uac_units.specs.Hearing.{Reading}
use Rattle.uac_request.specs.Requests.{setup_of}
use Rattle.uac_request.specs.declared.setup.Setup.{Setup}
use Rattle.uac_mixer.specs.MixerElements.{fits_element}
use Rattle.uac_script.specs.Phrase.{Phrase, nothing_line, bytes_line, go_line, control_line, get_line, set_line, show_line, break_line, append_line, track_line, jack_line, deviate_line, microframes_line, detail_line, report_line}
use Rattle.uac_transcript.specs.Transcript.{Said}
use Rattle.uac_running.specs.RunningWorld.{RunningWorld, at_start, with_detail, with_deviation, with_samples_on, with_jack_tone, with_track}
use Rattle.uac_running.specs.RunningLines.{ready_line}
use Rattle.uac_running.specs.RunningNames.{natural_of_int}
use Rattle.uac_running.specs.Events.{microframes}
use Rattle.uac_running.specs.RunningTransfers.{after_transfer, element_named, read_element, set_element, show_element, transfer, with_break}
use Rattle.uac_fault.specs.declared.fault.BusFault.{BusFault}
use Rattle.uac_rows.specs.BusWorld.{Step, BusWorld, describing, done, if_no_fault, if_sound, refused, running, silently, step, step_describing, step_feed, step_go, step_running, step_telling}
use Rattle.uac_levels.specs.BandRun.{IsNoUnder}
use Rattle.uac_levels.proofs.BandTransfersRequestLemmas.{transferred_so}
use Rattle.uac_levels.specs.Recording.{IsNoOver}
use Rattle.uac_promises.proofs.ScriptsEarlierLemmas.{appended, framed, gone_on, off, on_element_is, reads, set_to, shown, toned, tracked, unless_is}
use Rattle.uac_promises.specs.ReportPromises.{HaveMetNone, HaveMetNoneIn}
use Rattle.uac_promises.proofs.RingCountsLemmas.{NotMet, microframes_meet}

-- lines that tell of no ring that was found empty, and of none that was full
pub record TellOfNone (lines : List Said) : Type 0 where
  pub no_under : All IsNoUnder lines
  pub no_over : All IsNoOver lines

none_of : (k : ℕ) (lines : List Said) → TellOfNone lines → AllByRecursion (NotMet k) lines
none_of k lines quiet = recursion_from_All (NotMet k) lines (λ i d h. (quiet.no_under i d h k, quiet.no_over i d h k))

-- where such a line was done, none was met after it where none was before
abbrev pub MeetsNone : BusWorld → Step → Type 0
MeetsNone w (done next lines) = TellOfNone lines → HaveMetNoneIn w → HaveMetNoneIn next
MeetsNone w (refused fault) = Unit {0}

transfer_meets : (p : Setup) (bytes : List ℕ) (r : RunningWorld) → HaveMetNone r → HaveMetNone (after_transfer p bytes r)
transfer_meets p bytes r none = transferred_so p bytes r HaveMetNone (λ set. none) (λ alone. none) none

module _ (r : RunningWorld) where
  abbrev Meets : Step → Type 0
  Meets = MeetsNone (running r)

  no_step : (fault : BusFault) → Meets (refused fault)
  no_step fault = tt

  running_meets : (phrase : Phrase) → Meets (step_running r phrase)
  unfolding transfer read_element set_element show_element with_break with_samples_on with_track with_jack_tone with_detail with_deviation
  running_meets nothing_line = λ quiet none. none
  running_meets (bytes_line more) = tt
  running_meets go_line = tt
  running_meets (control_line setup sent) = λ quiet none. transfer_meets (setup_of setup) sent r none
  running_meets (get_line name) =
      on_element_is Meets no_step (element_named r name) (reads r) (λ x quiet none. transfer_meets _ _ r none)
  running_meets (set_line name value) =
      on_element_is Meets no_step (element_named r name) (set_to r value)
      (λ x. unless_is Meets no_step (fits_element x.kind value) 7 (step_telling (set_element x value r))
      (λ quiet none. transfer_meets _ _ r none))
  running_meets (show_line name) = on_element_is Meets no_step (element_named r name) (shown r) (λ x quiet none. none)
  running_meets (break_line after) = λ quiet none. none
  running_meets (append_line number samples) =
      unless_is Meets no_step _ 6 (framed r number samples)
      (unless_is Meets no_step _ 7 (appended r number samples) (λ quiet none. none))
  running_meets (track_line number tone) = unless_is Meets no_step _ 6 (tracked r number tone) (λ quiet none. none)
  running_meets (jack_line terminal tone) = unless_is Meets no_step _ 6 (toned r terminal tone) (λ quiet none. none)
  running_meets (deviate_line clock ppm) = unless_is Meets no_step _ 6 (off r clock ppm) (λ quiet none. none)
  running_meets (microframes_line count marks) =
      unless_is Meets no_step _ 6 (gone_on r count marks)
      (λ quiet none k. microframes_meet k marks (natural_of_int count) r (none_of k (microframes marks (natural_of_int count) r).lines quiet) (none k))
  running_meets (detail_line level) = λ quiet none. none
  running_meets report_line = λ quiet none. none

module _ (bytes : List ℕ) (meters : List Reading) where
  abbrev Starts : Step → Type 0
  Starts = MeetsNone (describing bytes meters)

  fed : (now : List ℕ) → Starts (step_feed now meters)
  unfolding step_feed
  fed now = by (shown_fault now)
    where
      by : (o : Option GrammarFault) → Starts (if_no_fault o (silently (describing now meters)))
      by None = λ quiet none. tt
      by (Some fault) = tt

  gone : Starts (step_go bytes meters)
  unfolding step_go at_start
  gone = by (first_fault bytes) (first_fault_of (blocks_of bytes))
    where
      by : (f : Option GrammarFault) (b : Option TopologyFault)
          → Starts (if_no_fault f (if_sound b (done (running (at_start bytes (function_of (blocks_of bytes)) meters)) (ready_line (function_of (blocks_of bytes)) ∷ []))))
      by None None = λ quiet none k. record { never_empty = refl; never_full = refl }
      by None (Some fault) = tt
      by (Some fault) b = tt

  describing_meets : (phrase : Phrase) → Starts (step_describing bytes meters phrase)
  describing_meets nothing_line = λ quiet none. tt
  describing_meets (bytes_line more) = fed (bytes ++ more)
  describing_meets go_line = gone
  describing_meets (control_line setup sent) = tt
  describing_meets (get_line name) = tt
  describing_meets (set_line name value) = tt
  describing_meets (show_line name) = tt
  describing_meets (break_line later) = tt
  describing_meets (append_line number samples) = tt
  describing_meets (track_line number tone) = tt
  describing_meets (jack_line terminal tone) = tt
  describing_meets (deviate_line clock ppm) = tt
  describing_meets (microframes_line count marks) = tt
  describing_meets (detail_line level) = tt
  describing_meets report_line = tt

pub step_meets : (phrase : Phrase) (w : BusWorld) → MeetsNone w (step phrase w)
unfolding step
step_meets phrase (describing bytes meters) = describing_meets bytes meters phrase
step_meets phrase (running r) = running_meets r phrase
