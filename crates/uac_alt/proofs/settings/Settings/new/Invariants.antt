use Rattle.std.proofs.Common.{◌≡◌, ◌∷◌, ◌+◌, length, map, take}
use Rattle.uac_alt.specs.AltSettings.{in_first}
use Rattle.uac_alt.proofs.settings.Settings.new.Given as goal

abbrev pub invariant-loop-stream : goal.invariant-loop-stream
invariant-loop-stream l = record {
  held : l.list.items ≡ map in_first (l.function.control_interface ∷ map (λ s. s.number) (take l.stream-index l.function.streams));
  count : length l.list.items ≡ l.stream-index + 1;
}
