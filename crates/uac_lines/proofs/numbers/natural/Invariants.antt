use Rattle.std.proofs.Common.{◌≡◌, ◌≤◌, min, take}
use Rattle.std.specs.Str.Parse.{digits_value}
use Rattle.uac_lines.specs.ScriptNumerals.{far}
use Rattle.uac_lines.proofs.numbers.natural.Given as goal

abbrev pub invariant-loop-digit : goal.invariant-loop-digit
invariant-loop-digit l = (l.value ≡ min (digits_value 10 (take l.digit-index l.word)) far) × (l.value ≤ far)
