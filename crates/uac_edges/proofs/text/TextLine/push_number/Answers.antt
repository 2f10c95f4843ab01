use Rattle.std.proofs.Common.{arith}
use Rattle.uac_edges.proofs.NumeralsLemmas.{decimal_of_one}
use Rattle.uac_edges.proofs.text.TextLine.push_number.Goals as goal

pub returns-then-number-lt10-clause-text : goal.returns-then-number-lt10-clause-text
returns-then-number-lt10-clause-text g c =
    rw (c.push_byte.ensures.text, c.digit.ensures, decimal_of_one c.args.number (omega arith))
