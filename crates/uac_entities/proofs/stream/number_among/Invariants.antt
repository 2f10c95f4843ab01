use Rattle.std.proofs.Common.{◌≡◌, ◌==◌, drop}
use Rattle.std.specs.List.{list_any}
use Rattle.uac_entities.proofs.stream.number_among.Given as goal

abbrev pub invariant-loop-setting : goal.invariant-loop-setting
invariant-loop-setting l = list_any (λ t. t.number == l.number) (drop l.setting-index l.settings) ≡ list_any (λ t. t.number == l.number) l.settings
