use Rattle.std.proofs.Common.{rules}
use Rattle.uac_words.proofs.AskedLemmas.{answers_line}
use Rattle.uac_words.proofs.ByClapLemmas.{answered_as_asked, refused_as_asked}
use Rattle.uac_words.proofs.PlainLemmas.{answers_plainly}
use Rattle.uac_words.proofs.parsing.read.Goals as goal

pub returns-in_err-matches : goal.returns-in_err-matches
returns-in_err-matches c =
    let by_clap = refused_as_asked _ c.in_err-matches.field-0.0 c.from_residual.result c.in_err-matches.ensures (search rules) in
    let plainly = answers_plainly c.args.words.now c.from_residual.result by_clap in
    record { by_clap = by_clap; plainly = plainly; line = answers_line _ c.from_residual.result plainly }

pub returns : goal.returns
returns c =
    let by_clap = answered_as_asked _ c.in_ok-matches.matches c.answer_to_words.result c.in_ok-matches.ensures (search rules) in
    let plainly = answers_plainly c.args.words.now c.answer_to_words.result by_clap in
    record { by_clap = by_clap; plainly = plainly; line = answers_line _ c.answer_to_words.result plainly }
