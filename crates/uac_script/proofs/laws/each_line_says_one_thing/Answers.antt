use Rattle.uac_script.proofs.SayingLemmas.{says_once, each_says_once}
use Rattle.uac_script.proofs.laws.each_line_says_one_thing.Goals as goal

pub returns : goal.returns
returns c = record { once = says_once; each = each_says_once }
