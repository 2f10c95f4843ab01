use Rattle.std.proofs.Common.{◌≡◌, ◌++◌, List, Option, get_or, take, sym, ap, ◌∙◌}
use Rattle.std.specs.Option.{option_to_list}
use Rattle.std.specs.List.{filter_map}
use Rattle.uac_entities.specs.declared.stream.Setting.{Setting}
use Rattle.uac_entities.specs.EntityInterfaces.{setting_on_interface}
use Rattle.uac_entities.proofs.ListFilterLemmas.{filter_map_more, blank}
use Rattle.uac_entities.proofs.interfaces.settings_of.Goals as goal

pub loop-declared-preserved : goal.loop-declared-preserved
loop-declared-preserved c =
    let l = c.loop-declared in
    let xs = c.args.all.now in
    let h = setting_on_interface c.args.number in
    let kept : c.setting_on_interface-setting.result ≡ h (get_or xs l.declared-index blank) = c.setting_on_interface-setting.ensures in
    c.in_ok-keep.ensures
    ∙ ap (λ (ys : List Setting). ys ++ option_to_list (c.setting_on_interface-setting.result)) l.invariant
    ∙ ap (λ (o : Option Setting). filter_map h (take l.declared-index xs) ++ option_to_list o) kept
    ∙ sym (filter_map_more h xs l.declared-index blank c.loop-declared-test.true)
