use Rattle.std.proofs.Common.{rules}
use Rattle.uac_mixer.proofs.ReadingLemmas.{reading_stands}
use Rattle.uac_mixer.proofs.viewed.with_view.Goals as goal

pub returns-in-Ok-clause-stands : goal.returns-in-Ok-clause-stands
returns-in-Ok-clause-stands c w stands =
    reading_stands _ _ c.args.device _ w c.in-Ok.ensures.asked c.new-link.ensures.device (search rules) stands
