use Rattle.std.proofs.Common.{sym, ◌∙◌, map}
use Rattle.uac_script.specs.Line.{phrase_mark}
use Rattle.uac_running.specs.Events.{microframes}
use Rattle.uac_rows.proofs.BusStepsLemmas.{cut_handed_on, unless_fails}
use Rattle.uac_rows.proofs.RowsLemmas.{are_placed_in, told_reached, unless_cut}
use Rattle.uac_rows.proofs.rows.run.Goals as goal

pub returns-then-not-all_name_streams-clause-does : goal.returns-then-not-all_name_streams-clause-does
returns-then-not-all_name_streams-clause-does g c = λ r s.
    let function = c.function.ensures ∙ s.now.streaming.device.function in
    let all = are_placed_in _ _ c.args.marks.now _ function c.all_name_streams.ensures in
    unless_fails _ 6 _ (sym all ∙ c.if-not-all_name_streams.true)

pub returns-clause-does : goal.returns-clause-does
returns-clause-does g c = λ r s.
    let function = c.function.ensures ∙ s.now.streaming.device.function in
    let all = are_placed_in _ _ c.args.marks.now _ function c.all_name_streams.ensures in
    let tells = c.in_ok-microframes.ensures.tells r s in
    told_reached _ 6 (microframes (map phrase_mark c.args.marks.now) c.args.count r) c.microframes.new.self _ _ _
    (sym all ∙ c.if-not-all_name_streams.false) tells.0 tells.1

pub returns-in_err-microframes-clause-does : goal.returns-in_err-microframes-clause-does
returns-in_err-microframes-clause-does g c = λ r s.
    let function = c.function.ensures ∙ s.now.streaming.device.function in
    let all = are_placed_in _ _ c.args.marks.now _ function c.all_name_streams.ensures in
    cut_handed_on _ _ _ _ _ _ c.from_residual.ensures.1 (unless_cut _ 6 _ _ _ (sym all ∙ c.if-not-all_name_streams.false) (c.in_err-microframes.ensures.tells r s).0)
