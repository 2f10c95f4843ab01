-- The numbers of rules S2 to S4, by their names in the code, and what a row of the table answers with such a rule (profile).
use Rattle.std.specs.Prelude.{ℕ, ℤ, pos, Result, Ok, Err}
use Rattle.uac_pcm.specs.declared.tones.Tone.{Tone}
use Rattle.uac_script.specs.declared.lent.LentLine.{LentLine}
use Rattle.uac_script.specs.declared.rule.LineRule.{LineRule}
use Rattle.uac_script.specs.declared.rule.LineRule.TheVariants as rule
use Rattle.uac_script.specs.Phrase.{Phrase, PhraseTone}
use Rattle.uac_script.specs.Line.{phrase_tone_of}
use Rattle.uac_script.specs.Lent.{lent_phrase}

abbrev pub rule_number : LineRule → ℕ
rule_number rule.Unknown = 2
rule_number rule.Misspelt = 3
rule_number rule.OutOfRange = 4

-- a value's phrase in place of the value, and a rule's number in place of the rule
abbrev pub row_result : Result LentLine LineRule → Result Phrase ℕ
row_result (Ok line) = Ok (lent_phrase line)
row_result (Err rule) = Err (rule_number rule)

abbrev pub tone_result : Result Tone LineRule → Result PhraseTone ℕ
tone_result (Ok tone) = Ok (phrase_tone_of tone)
tone_result (Err rule) = Err (rule_number rule)

abbrev pub signal_result : Result (ℕ × Tone) LineRule → Result (ℤ × PhraseTone) ℕ
signal_result (Ok signal) = Ok (pos signal.0, phrase_tone_of signal.1)
signal_result (Err rule) = Err (rule_number rule)
