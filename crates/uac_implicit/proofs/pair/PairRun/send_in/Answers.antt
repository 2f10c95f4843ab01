use Rattle.std.proofs.Common.{subst, List}
use Rattle.std.specs.Io.KnownBytes.{Appends}
use Rattle.uac_edges.specs.Writing.{AppendsFront}
use Rattle.uac_transcript.specs.Transcript.{Said}
use Rattle.uac_transcript.specs.Printing.{text_of}
use Rattle.uac_implicit.specs.Following.{sent_in}
use Rattle.uac_implicit.proofs.PairKeptLemmas.{emptied_stands}
use Rattle.uac_implicit.proofs.SaidLemmas.{in_told}
use Rattle.uac_implicit.proofs.pair.PairRun.send_in.Goals as goal

pub returns-in-Err-clause-tells : goal.returns-in-Err-clause-tells
unfolding sent_in
returns-in-Err-clause-tells g c = λ sent steps w s.
    let t = rw (← c.self.view_is) at (c.hear.ensures sent steps w s) in (
      subst (λ (lines : List Said). AppendsFront (g.K.Sink.written c.args.sink.now) (g.K.Sink.written c.write_fetched.new.sink) (text_of lines))
          (in_told c.self.inside.detail c.args.lost c.self.inside.waiting w t.detail t.waiting) c.in-Err.ensures.printed,
      tt,
    )

pub returns-clause-tells : goal.returns-clause-tells
unfolding sent_in
returns-clause-tells g c = λ sent steps w s.
    let t = rw (← c.self.view_is) at (c.hear.ensures sent steps w s) in (
      subst (λ (lines : List Said). Appends (g.K.Sink.written c.args.sink.now) (g.K.Sink.written c.write_fetched.new.sink) (text_of lines))
          (in_told c.self.inside.detail c.args.lost c.self.inside.waiting w t.detail t.waiting) c.in-Ok.ensures.printed,
      emptied_stands sent steps _ w c.args.lost c.clear.new.self c.clear.ensures t,
    )
