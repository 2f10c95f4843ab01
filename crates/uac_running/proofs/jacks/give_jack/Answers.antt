use Rattle.std.proofs.Common.{arith}
use Rattle.uac_running.proofs.RunningKeptJackLemmas.{tone_given}
use Rattle.uac_running.proofs.jacks.give_jack.Goals as goal

pub returns-then-jack-domain-clause-stands : goal.returns-then-jack-domain-clause-stands
returns-then-jack-domain-clause-stands c w stands =
    tone_given c.args.domain _ c.args.jack.now w c.give_tone.new.self (omega (arith, c.if-jack-domain.true)) c.requires.channels (c.give_tone.ensures.stands w stands)
