-- Worked scripts of a bench, as the checker computes them.
use Rattle.std.proofs.Common.{◌≡◌, ℕ, ◌-◌, pos, List, [], ◌∷◌, ◌++◌, length, drop, Bool, true, false, Option, Some, None, codes, refl}
use Rattle.std.specs.Prelude.{Result, Ok, slice_get, flat_map}
use Rattle.uac_pcm.specs.Subslots.{wrap}
use Rattle.uac_script.specs.declared.line.MarkKind.TheVariants.{Out, Feedback}
use Rattle.uac_script.specs.Phrase.{Phrase, PhraseMark, detail_line, microframes_line, report_line, deviate_line}
use Rattle.uac_transcript.specs.Transcript.{Said, says_level, says_played, spelling_of}
use Rattle.uac_bench.specs.BenchStreams.{level_of, after_packet, after_tick, after_ticks, is_dry, played_in, with_zeros, after_priming}
use Rattle.uac_fullspeed.specs.FullSpeedNominal.{fs_values_of}
use Rattle.uac_fullspeed.specs.FullSpeedWorld.{FullSpeedWorld, full_speed_start, after_frame, passed, before_feedback, after_feedback, bus_frame, bus_frames, with_detail, with_deviation}
use Rattle.uac_fullspeed.specs.FullSpeedLines.{FsLine, says_as_run, says_fs_feedback, says_stream, fs_spelling_of, fs_text_of, ticks_lines, stream_lines, lines_before_feedback, frame_lines, frames_lines}
use Rattle.uac_fullspeed.specs.FullSpeedSteps.{fs_step, fs_after}

-- detail 2, and eight bus frames with these losses
script : List PhraseMark → List (Result Phrase ℕ)
script marks = Ok (detail_line (pos 2)) ∷ Ok (microframes_line (pos 8) marks) ∷ []

-- the levels that lines tell, each with its target
levels_of : List FsLine → List (ℕ × Option ℕ)
levels_of [] = []
levels_of (says_fs_feedback value lost ∷ lines) = levels_of lines
levels_of (says_stream level target met ∷ lines) = levels_of lines
levels_of (says_as_run (says_level interface level target) ∷ lines) = (level, target) ∷ levels_of lines
levels_of (says_as_run _ ∷ lines) = levels_of lines

-- the last lines, so many
last_of : ℕ → List FsLine → List FsLine
last_of count lines = drop (length lines - count) lines

-- at 48,000 Hz the stream is primed after the sixth bus frame
levels_48000 : levels_of (fs_after (script []) (full_speed_start 48000)).lines
    ≡ (48, None) ∷ (96, None) ∷ (144, None) ∷ (192, None) ∷ (240, None) ∷ (288, Some 288) ∷ (288, Some 288) ∷ (288, Some 288) ∷ []
unfolding script levels_of fs_after fs_step full_speed_start fs_values_of with_detail bus_frames bus_frame after_feedback before_feedback passed after_frame after_priming with_zeros after_packet after_ticks after_tick is_dry played_in frames_lines frame_lines lines_before_feedback stream_lines ticks_lines
levels_48000 = refl

-- the seventh bus frame plays the first frame that was formed
first_played : slice_get (frame_lines false false (bus_frames 6 false false (with_detail 1 (full_speed_start 48000)))) 0
    ≡ Some (says_as_run (says_played 1 (wrap (pos 1) ∷ [])))
unfolding full_speed_start fs_values_of with_detail bus_frames bus_frame after_feedback before_feedback passed after_frame after_priming with_zeros after_packet after_ticks after_tick is_dry played_in frame_lines lines_before_feedback stream_lines ticks_lines
first_played = refl

-- the last line is the report 0x0c0000, which comes
last_48000 : last_of 1 (fs_after (script []) (full_speed_start 48000)).lines ≡ says_fs_feedback 786432 false ∷ []
unfolding script last_of fs_after fs_step full_speed_start fs_values_of with_detail bus_frames bus_frame after_feedback before_feedback passed after_frame after_priming with_zeros after_packet after_ticks after_tick is_dry played_in frames_lines frame_lines lines_before_feedback stream_lines ticks_lines
last_48000 = refl

-- at 44,100 Hz, where the report 0x0b0666 is lost
last_44100 : last_of 2 (fs_after (script (record { kind = Feedback; interface = pos 1 } ∷ [])) (full_speed_start 44100)).lines
    ≡ says_as_run (says_level 1 264 (Some 264)) ∷ says_fs_feedback 722534 true ∷ []
unfolding script last_of fs_after fs_step full_speed_start fs_values_of with_detail bus_frames bus_frame after_feedback before_feedback passed after_frame after_priming with_zeros after_packet after_ticks after_tick is_dry played_in frames_lines frame_lines lines_before_feedback stream_lines ticks_lines
last_44100 = refl
