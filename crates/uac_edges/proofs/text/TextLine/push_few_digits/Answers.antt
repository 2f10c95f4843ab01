use Rattle.std.proofs.Common.{arith, append_assoc}
use Rattle.uac_edges.proofs.NumeralsLemmas.{decimal_and_last}
use Rattle.uac_edges.proofs.text.TextLine.push_few_digits.Goals as goal

pub returns-clause-text : goal.returns-clause-text
returns-clause-text g c =
    rw (c.push_byte.ensures.text, c.push_below_hundred.ensures.text, c.digit.ensures, append_assoc, decimal_and_last c.args.number (omega arith) (omega arith))
