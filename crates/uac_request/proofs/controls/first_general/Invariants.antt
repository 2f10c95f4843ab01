use Rattle.std.proofs.Common.{◌≡◌, drop, true}
use Rattle.std.specs.List.{filter_map, find}
use Rattle.uac_request.proofs.controls.first_general.Given as goal

abbrev pub invariant-loop-setting : goal.invariant-loop-setting
invariant-loop-setting l = find (λ g. true) (filter_map (λ t. t.general) (drop l.setting-index l.settings)) ≡ find (λ g. true) (filter_map (λ t. t.general) l.settings)
