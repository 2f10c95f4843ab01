-- Profile: what a line of the script says, with numbers of any size, and the ranges of these numbers.
use Rattle.std.specs.Prelude.{ℕ, nat_le, ◌&&◌, Bool, true, List, length, ℤ, pos, negsuc}
use Rattle.std.specs.List.{list_all}
use Rattle.uac_lines.specs.Words.{Word}
use Rattle.uac_lines.specs.Ranges.{is_within, is_id, is_in_32_bits}
use Rattle.uac_script.specs.declared.line.MarkKind.{MarkKind}

-- a tone, with its numbers as they are spelt
pub data PhraseTone : Type 0 where
  silent : PhraseTone
  ramp_tone : ℤ → ℤ → PhraseTone
  noise_tone : ℤ → PhraseTone

-- one packet or report to lose in each microframe: of which kind, and of which interface
pub record PhraseMark : Type 0 where
  pub kind : MarkKind
  pub interface : ℤ

-- a line, with its numbers as they are spelt, in the order of the table of lines
pub data Phrase : Type 0 where
  nothing_line : Phrase
  bytes_line : List ℕ → Phrase
  go_line : Phrase
  control_line : List ℕ → List ℕ → Phrase
  get_line : Word → Phrase
  set_line : Word → ℤ → Phrase
  show_line : Word → Phrase
  break_line : Bool → Phrase
  append_line : ℤ → List ℤ → Phrase
  track_line : ℤ → PhraseTone → Phrase
  jack_line : ℤ → PhraseTone → Phrase
  deviate_line : ℤ → ℤ → Phrase
  microframes_line : ℤ → List PhraseMark → Phrase
  detail_line : ℤ → Phrase
  report_line : Phrase

abbrev pub is_tone_in_range : PhraseTone → Bool
is_tone_in_range silent = true
is_tone_in_range (ramp_tone start step) = is_in_32_bits start && is_in_32_bits step
is_tone_in_range (noise_tone seed) = is_within (pos 0) (pos 4294967295) seed

-- each interface of the marks is an id, and there are at most 24 of them
abbrev pub are_marks_in_range : List PhraseMark → Bool
are_marks_in_range marks = list_all (λ mark. is_id mark.interface) marks && nat_le (length marks) 24

-- each number of the line lies in its range, and there are at most 24 marks
abbrev pub is_in_range : Phrase → Bool
is_in_range nothing_line = true
is_in_range (bytes_line bytes) = true
is_in_range go_line = true
is_in_range (control_line setup sent) = true
is_in_range (get_line name) = true
is_in_range (set_line name value) = is_in_32_bits value
is_in_range (show_line name) = true
is_in_range (break_line after) = true
is_in_range (append_line interface samples) = is_id interface && list_all is_in_32_bits samples
is_in_range (track_line interface tone) = is_id interface && is_tone_in_range tone
is_in_range (jack_line terminal tone) = is_id terminal && is_tone_in_range tone
is_in_range (deviate_line domain ppm) = is_id domain && is_within (negsuc 99999) (pos 100000) ppm
is_in_range (microframes_line count marks) = is_within (pos 1) (pos 8000) count && are_marks_in_range marks
is_in_range (detail_line level) = is_within (pos 0) (pos 2) level
is_in_range report_line = true
