use Rattle.uac_script.proofs.LineParsingLemmas.{lent_keeps, lent_refuses}
use Rattle.uac_script.proofs.lent.LentLine.read.Goals as goal

pub returns : goal.returns
returns c = record {
  answered = c.read_into.ensures.says;
  keeps = lent_keeps c.args.text.now c.read_into.result c.read_into.ensures.says;
  no_other = lent_refuses c.args.text.now c.read_into.result c.read_into.ensures.says;
}
