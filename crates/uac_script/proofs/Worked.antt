-- Worked lines: what each row of the table spells, and what is answered where a rule is broken.
use Rattle.std.proofs.Common.{◌≡◌, true, false, [], ◌∷◌, Err, pos, negsuc, inl, inr, refl, codes}
use Rattle.hex.proofs.OnLiterals.{hex_on_literals}
use Rattle.uac_script.specs.declared.line.MarkKind.TheVariants.{Out, In, Feedback}
use Rattle.uac_edges.specs.Numerals.{natural, numeral}
use Rattle.uac_lines.specs.ScriptNumerals.{is_natural, natural_of, number_of, is_number, value_of}
use Rattle.uac_script.specs.Phrase.{silent, ramp_tone, noise_tone, nothing_line, bytes_line, go_line, control_line, get_line, set_line, show_line, break_line, append_line, track_line, jack_line, deviate_line, microframes_line, detail_line, report_line}
use Rattle.uac_script.specs.Line.{SpellsLine}
use Rattle.uac_script.specs.LineParsing.{answer}

-- ---- a line of each row

empty_line : SpellsLine [] nothing_line
empty_line = inl (refl, refl)

remark : SpellsLine (codes "# a remark") nothing_line
remark = inl (refl, refl)

descriptor : SpellsLine (codes "d 0902Af") (bytes_line (9 ∷ 2 ∷ 175 ∷ []))
unfolding hex_on_literals
descriptor = inr (codes "0902Af", refl, refl)

go : SpellsLine (codes "g") go_line
go = inr refl

asking : SpellsLine (codes "c a102010200030200") (control_line (161 ∷ 2 ∷ 1 ∷ 2 ∷ 0 ∷ 3 ∷ 2 ∷ 0 ∷ []) [])
unfolding hex_on_literals
asking = inr (codes "a102010200030200", refl, refl, inl (refl, refl))

sending : SpellsLine (codes "c 2101010200030200 00F6") (control_line (33 ∷ 1 ∷ 1 ∷ 2 ∷ 0 ∷ 3 ∷ 2 ∷ 0 ∷ []) (0 ∷ 246 ∷ []))
unfolding hex_on_literals
sending = inr (codes "2101010200030200", refl, refl, inr (codes "00F6", refl, refl))

getting : SpellsLine (codes "h get volume.3.1") (get_line (codes "volume.3.1"))
getting = inr (refl, λ e. cc)

setting : SpellsLine (codes "h set mute.3.0 -1") (set_line (codes "mute.3.0") (negsuc 0))
unfolding numeral natural
setting = inr (refl, λ e. cc)

showing : SpellsLine (codes "h show x") (show_line (codes "x"))
showing = inr (refl, λ e. cc)

breaking : SpellsLine (codes "b after") (break_line true)
breaking = inr refl

breaking_before : SpellsLine (codes "b before") (break_line false)
breaking_before = inr refl

appending : SpellsLine (codes "a 1 256 -256 0") (append_line (pos 1) (pos 256 ∷ negsuc 255 ∷ pos 0 ∷ []))
unfolding numeral natural
appending = inr (refl, λ e. cc)

track : SpellsLine (codes "t 255 none") (track_line (pos 255) silent)
unfolding numeral natural
track = inr refl

jack : SpellsLine (codes "j 5 ramp 100 -7") (jack_line (pos 5) (ramp_tone (pos 100) (negsuc 6)))
unfolding numeral natural
jack = inr refl

noise : SpellsLine (codes "t 1 noise 1234") (track_line (pos 1) (noise_tone (pos 1234)))
unfolding numeral natural
noise = inr refl

deviation : SpellsLine (codes "k 1 -1000") (deviate_line (pos 1) (negsuc 999))
unfolding numeral natural
deviation = inr refl

running : SpellsLine (codes "m 24 f1 o2 i3") (microframes_line (pos 24) (record { kind = Feedback; interface = pos 1 } ∷ record { kind = Out; interface = pos 2 } ∷ record { kind = In; interface = pos 3 } ∷ []))
unfolding numeral natural
running = inr refl

-- a number out of its range is spelt all the same
out_of_range : SpellsLine (codes "m 9999 o-1 i256") (microframes_line (pos 9999) (record { kind = Out; interface = negsuc 0 } ∷ record { kind = In; interface = pos 256 } ∷ []))
unfolding numeral natural
out_of_range = inr refl

detail : SpellsLine (codes "v 2") (detail_line (pos 2))
unfolding numeral natural
detail = inr refl

report : SpellsLine (codes "q") report_line
report = inr refl

-- ---- the first rule that is broken

two_spaces : answer (codes "k 1  5") ≡ Err 3
unfolding answer is_number value_of number_of natural_of is_natural
two_spaces = refl

minus_zero : answer (codes "k 1 -0") ≡ Err 3
unfolding answer is_number value_of number_of natural_of is_natural
minus_zero = refl

leading_zero : answer (codes "m 1 o01") ≡ Err 3
unfolding answer is_number value_of number_of natural_of is_natural
leading_zero = refl

spelling_first : answer (codes "m 0 x1") ≡ Err 3
unfolding answer is_number value_of number_of natural_of is_natural
spelling_first = refl

no_id : answer (codes "m 1 o-1") ≡ Err 4
unfolding answer is_number value_of number_of natural_of is_natural
no_id = refl

past_every_range : answer (codes "k 1 99999999999999999999999999999999999999") ≡ Err 4
unfolding answer is_number value_of number_of natural_of is_natural
past_every_range = refl

space_first : answer (codes " q") ≡ Err 2
unfolding answer
space_first = refl

longer_word : answer (codes "quit") ≡ Err 2
unfolding answer
longer_word = refl
