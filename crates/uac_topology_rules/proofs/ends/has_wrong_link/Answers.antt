use Rattle.std.proofs.Common.{◌==◌, ◌&&◌, ◌||◌, ◌+◌, ℕ, Bool, false, not, Option, drop, ap, sym, ◌∙◌}
use Rattle.std.specs.List.{list_any}
use Rattle.std.specs.Option.{option_map_or}
use Rattle.uac_entities.specs.EntityInterfaces.{links_of}
use Rattle.uac_topology_rules.specs.Rules.{is_usb}
use Rattle.uac_topology_rules.proofs.EndRulesLemmas.{any_link_at}
use Rattle.uac_topology_rules.proofs.ends.has_wrong_link.Goals as goal

pub returns-then-is_wrong_link : goal.returns-then-is_wrong_link
returns-then-is_wrong_link c =
    let l = c.loop-setting in
    let p : ℕ → Bool = λ x. not (is_usb c.args.table.now x && x == c.args.terminal) in
    let rest = list_any p (links_of (drop (l.setting-index + 1) c.args.settings.now)) in
    ap (λ (t : Bool). t || rest) (c.if-is_wrong_link.ensures ∙ ap (λ (o : Option ℕ). option_map_or p o false) c.link_of.ensures)
    ∙ sym (any_link_at p c.args.settings.now l.setting-index c.loop-setting-test.true)
    ∙ l.invariant

pub loop-setting-preserved : goal.loop-setting-preserved
loop-setting-preserved c =
    let l = c.loop-setting in
    let p : ℕ → Bool = λ x. not (is_usb c.args.table.now x && x == c.args.terminal) in
    let rest = list_any p (links_of (drop (l.setting-index + 1) c.args.settings.now)) in
    ap (λ (t : Bool). t || rest) (c.if-is_wrong_link.ensures ∙ ap (λ (o : Option ℕ). option_map_or p o false) c.link_of.ensures)
    ∙ sym (any_link_at p c.args.settings.now l.setting-index c.loop-setting-test.true)
    ∙ l.invariant
