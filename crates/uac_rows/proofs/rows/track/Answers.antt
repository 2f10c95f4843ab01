use Rattle.std.proofs.Common.{sym, subst, ◌∙◌}
use Rattle.std.proofs.KnownBytes.{Appends-nil}
use Rattle.uac_pcm.specs.declared.tones.Tone.{Tone}
use Rattle.uac_running.specs.RunningWorld.{with_track}
use Rattle.uac_running.specs.RunningKept.{RunningStandsBetween}
use Rattle.uac_rows.proofs.BusStepsLemmas.{tone_back}
use Rattle.uac_rows.proofs.RowsLemmas.{unless_reached, has_out_in}
use Rattle.uac_rows.proofs.rows.track.Goals as goal

pub returns-clause-does : goal.returns-clause-does
returns-clause-does c = λ shown r written s.
    let out = has_out_in _ _ c.args.interface _ (c.function.ensures ∙ s.now.streaming.device.function) c.has_out.ensures in
    let stands =
    subst (λ (tone : Tone). RunningStandsBetween c.track.new.self shown (with_track c.args.interface tone r)) (sym (tone_back c.args.tone))
    (c.track.ensures.stands shown r s)
    in
    unless_reached _ 6 _ _ _ _ (sym out ∙ c.if-not-has_out.false) (stands, Appends-nil written)
