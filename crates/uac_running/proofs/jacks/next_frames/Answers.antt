use Rattle.std.proofs.Common.{◌∙◌}
use Rattle.uac_running.proofs.SilenceLemmas.{given_again}
use Rattle.uac_running.proofs.EventTicksLemmas.{jacks_once}
use Rattle.uac_running.proofs.jacks.next_frames.Goals as goal

pub returns-then-rest-clause-stands : goal.returns-then-rest-clause-stands
returns-then-rest-clause-stands c w stands rests =
    let still = rests c.if-rest.true in
    given_again c.args.domain c.args.jacks.now c.args.device.now w still.silent still.gave stands

pub returns-then-rest-clause-jacks : goal.returns-then-rest-clause-jacks
returns-then-rest-clause-jacks c = c.pass_frames.ensures ∙ jacks_once c.args.domain c.args.jacks.now
