use Rattle.std.proofs.Common.{◌≡◌, ◌+◌, ◌++◌, List, Option, drop, sym, ap, ◌∙◌, append_assoc, append-nil}
use Rattle.std.specs.Option.{option_to_list}
use Rattle.std.proofs.lemmas.List.{take_rest}
use Rattle.uac_descriptor.specs.declared.block.Block as block
use Rattle.uac_descriptor.specs.declared.block.Block.TheVariants as row
use Rattle.uac_entities.specs.declared.settings.DeclaredSetting.{DeclaredSetting}
use Rattle.uac_entities.specs.EntitySettings.{declared_setting_at, declared_settings}
use Rattle.uac_entities.proofs.EntitySettingsLemmas.{settings_at, settings_end, no_setting}
use Rattle.uac_entities.proofs.settings.declared_settings.Goals as goal
use Rattle.uac_entities.proofs.settings.declared_settings.Goals.{in-Interface+in_ok-keep, in_default}

pub loop-index-preserved : goal.loop-index-preserved
loop-index-preserved c =
    let l = c.loop-index in
    let xs = c.args.blocks.now in
    let b = c.index-blocks-index.result in
    let rest = drop (l.index + 1) xs in
    let one : declared_settings (drop l.index xs) ≡ option_to_list (declared_setting_at b rest) ++ declared_settings rest =
    settings_at xs l.index b c.loop-index-test.true c.index-blocks-index.is in
    let whole = ap (λ (ys : List DeclaredSetting). l.all.items ++ ys) (sym one) ∙ l.invariant in
    elim c.match-block.branch [
      | in-Interface+in_ok-keep w ↦
          (let here : w.declared_setting_at-declared.result ≡ declared_setting_at b rest =
          w.declared_setting_at-declared.ensures ∙ ap (declared_setting_at (row.Interface w.in-Interface.interface)) (take_rest xs (l.index + 1))
          ∙ ap (λ (this : block.Block). declared_setting_at this rest) (sym w.in-Interface.is) in
          ap (λ all. all.items ++ declared_settings rest) w.all-is
          ∙ ap (λ (ys : List DeclaredSetting). ys ++ declared_settings rest)
          (w.in_ok-keep.ensures ∙ ap (λ (o : Option DeclaredSetting). l.all.items ++ option_to_list o) here)
          ∙ append_assoc l.all.items (option_to_list (declared_setting_at b rest)) (declared_settings rest)
          ∙ whole)
      | in_default w ↦
          ap (λ all. all.items ++ declared_settings rest) w.all-is
          ∙ ap (λ (o : Option DeclaredSetting). l.all.items ++ (option_to_list o ++ declared_settings rest)) (sym (no_setting b rest w.in_default.not-Interface))
          ∙ whole
    ]

pub returns : goal.returns
returns c =
    let l = c.loop-index in
    sym (append-nil l.all.items)
    ∙ ap (λ (ys : List DeclaredSetting). l.all.items ++ ys) (sym (settings_end c.args.blocks.now l.index c.loop-index-test.false))
    ∙ l.invariant
