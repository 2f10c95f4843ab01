use Rattle.std.proofs.Common.{refl}
use Rattle.uac_grammar.proofs.VerdictLemmas.{piece_is, short_shows}
use Rattle.uac_grammar.proofs.judge.judge.Goals as goal

pub returns-then-length-lt2 : goal.returns-then-length-lt2
returns-then-length-lt2 c = (
  short_shows c.args.state.now c.args.place c.args.bytes.now c.if-bytes-lt2.false c.if-length-lt2.true,
  record { blocks = refl; state = refl },
)

pub keep-requires-clause-piece : goal.keep-requires-clause-piece
keep-requires-clause-piece c = piece_is c.args.bytes.now c.if-length-lt2.false c.if-bytes-length.false c.requires.no_more
