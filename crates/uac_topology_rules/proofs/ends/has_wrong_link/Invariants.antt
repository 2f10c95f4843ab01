use Rattle.std.proofs.Common.{◌≡◌, ◌==◌, ◌&&◌, not, drop}
use Rattle.std.specs.List.{list_any}
use Rattle.uac_entities.specs.EntityInterfaces.{links_of}
use Rattle.uac_topology_rules.specs.Rules.{is_usb}
use Rattle.uac_topology_rules.proofs.ends.has_wrong_link.Given as goal

abbrev pub invariant-loop-setting : goal.invariant-loop-setting
invariant-loop-setting l =
    list_any (λ x. not (is_usb l.table x && x == l.terminal)) (links_of (drop l.setting-index l.settings))
    ≡ list_any (λ x. not (is_usb l.table x && x == l.terminal)) (links_of l.settings)
