use Rattle.std.proofs.Common.{arith, append_assoc}
use Rattle.uac_edges.proofs.NumeralsLemmas.{decimal_of_one, decimal_of_two}
use Rattle.uac_edges.proofs.text.TextLine.push_below_hundred.Goals as goal

pub returns-then-number-lt10-clause-text : goal.returns-then-number-lt10-clause-text
returns-then-number-lt10-clause-text g c =
    rw (c.push_byte.ensures.text, c.digit.ensures, decimal_of_one c.args.number (omega arith))

pub returns-else-number-lt10-clause-text : goal.returns-else-number-lt10-clause-text
returns-else-number-lt10-clause-text g c =
    rw (
      c.push_byte-else-number-lt10-2.ensures.text,
      c.push_byte-else-number-lt10.ensures.text,
      c.digit-else-number-lt10-2.ensures,
      c.digit-else-number-lt10.ensures,
      append_assoc,
      decimal_of_two c.args.number (omega arith) (omega arith),
    )
