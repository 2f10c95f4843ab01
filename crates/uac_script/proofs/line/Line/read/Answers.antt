use Rattle.uac_script.proofs.LineParsingLemmas.{read_says, read_keeps, read_refuses}
use Rattle.uac_script.proofs.line.Line.read.Goals as goal

pub returns : goal.returns
returns c = record {
  says = read_says c.args.text.now c.read.result c.read.ensures;
  answered = c.read.ensures;
  keeps = read_keeps c.args.text.now c.read.result c.read.ensures;
  no_other = read_refuses c.args.text.now c.read.result c.read.ensures;
}
