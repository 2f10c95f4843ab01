use Rattle.std.proofs.Common.{◌≡◌, ◌∙◌, List, refl, subst, take, flat_map, arith}
use Rattle.std.proofs.lemmas.List.{take_all}
use Rattle.std.specs.Io.KnownBytes.{Appends}
use Rattle.uac_edges.specs.Writing.{AppendsFront}
use Rattle.uac_edges.proofs.WritingLemmas.{front_of_each, Writes-handed_on}
use Rattle.uac_entities.specs.declared.stream.Setting.{Setting}
use Rattle.uac_listing.specs.SettingLines.{interface_lines, setting_line}
use Rattle.uac_listing.proofs.settings.write_interface.Goals as goal

pub returns-in_err-write_setting-clause-written : goal.returns-in_err-write_setting-clause-written
unfolding interface_lines
returns-in_err-write_setting-clause-written g c =
    Writes-handed_on _ (g.K.Sink.written c.args.sink.now) (g.K.Sink.written c.write_setting.new.sink) c.from_residual.result _ c.from_residual.ensures.1 (
    subst (λ (settings : List Setting). AppendsFront (g.K.Sink.written c.args.sink.now) (g.K.Sink.written c.write_setting.new.sink) (flat_map (setting_line c.args.function.now c.args.store.now c.args.stream.now) settings))
    c.loop-setting.invariant.items
    (front_of_each _ _ _ (setting_line c.args.function.now c.args.store.now c.args.stream.now) c.as_slice-setting-items.result.now c.loop-setting.setting-index _ _
    c.loop-setting-test.true c.loop-setting.invariant.written c.in_err-write_setting.ensures.written refl)
    )

pub returns-clause-written : goal.returns-clause-written
unfolding interface_lines
returns-clause-written g c =
    let settings = c.as_slice-setting-items.result.now in
    let all : take c.loop-setting.setting-index settings ≡ settings = take_all c.loop-setting.setting-index settings (let past = c.loop-setting-test.false in omega arith) in
    subst (λ (settings : List Setting). Appends (g.K.Sink.written c.args.sink.now) (g.K.Sink.written c.loop-setting.sink) (flat_map (setting_line c.args.function.now c.args.store.now c.args.stream.now) settings))
    (all ∙ c.loop-setting.invariant.items) c.loop-setting.invariant.written
