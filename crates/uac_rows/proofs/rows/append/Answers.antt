use Rattle.std.proofs.Common.{sym, subst, ◌∙◌}
use Rattle.std.proofs.KnownBytes.{Appends-nil}
use Rattle.uac_topology.specs.Function.{FunctionFields}
use Rattle.uac_host.specs.HostCalls.{AreWhole}
use Rattle.uac_rows.proofs.RowsLemmas.{append_broken, unless_reached, has_out_in, are_frames_in}
use Rattle.uac_rows.proofs.HostCallsFrameLemmas.{are_whole}
use Rattle.uac_rows.proofs.rows.append.Goals as goal

pub returns-then-not-are_frames-clause-does : goal.returns-then-not-are_frames-clause-does
returns-then-not-are_frames-clause-does c = λ shown r written s.
    let function = c.function-function.ensures ∙ s.now.streaming.device.function in
    let out = has_out_in _ _ c.args.interface _ function c.has_out.ensures in
    let frames = are_frames_in _ _ c.args.interface _ _ function c.are_frames.ensures in
    append_broken _ _ _ (sym out ∙ c.if-not-has_out.false) (sym frames ∙ c.if-not-are_frames.true)

pub returns-clause-does : goal.returns-clause-does
returns-clause-does c = λ shown r written s.
    let function = c.function-function.ensures ∙ s.now.streaming.device.function in
    let out = has_out_in _ _ c.args.interface _ function c.has_out.ensures in
    let frames = are_frames_in _ _ c.args.interface _ _ function c.are_frames.ensures in
    let whole : AreWhole r.host.function c.args.interface c.args.samples.now =
    subst (λ (f : FunctionFields). AreWhole f c.args.interface c.args.samples.now) (sym s.now.streaming.same)
    (are_whole r.device.function c.args.interface c.args.samples.now (sym frames ∙ c.if-not-are_frames.false))
    in
    unless_reached _ 6 _ _ _ _ (sym out ∙ c.if-not-has_out.false)
    (unless_reached _ 7 _ _ _ _ (sym frames ∙ c.if-not-are_frames.false) (c.in_ok-append.ensures.stands shown r s whole, Appends-nil written))
