use Rattle.std.proofs.Common.{subst, List, suc, ℕ}
use Rattle.uac_clock.specs.Nominal.{values_of}
use Rattle.uac_transcript.specs.Transcript.{Said}
use Rattle.uac_transcript.specs.Printing.{Prints}
use Rattle.uac_bench.specs.BenchStreams.{after_packet}
use Rattle.uac_bench.specs.BenchKept.{BenchStreamStands}
use Rattle.uac_implicit.specs.Following.{sent_out, size_next}
use Rattle.uac_implicit.specs.PairKept.{PairStandsIn}
use Rattle.uac_implicit.proofs.PairKeptLemmas.{sent_stands}
use Rattle.uac_implicit.proofs.SaidLemmas.{always, out_told}
use Rattle.uac_implicit.proofs.pair.PairRun.send_out.Goals as goal

pub returns-clause-tells : goal.returns-clause-tells
unfolding size_next sent_out
returns-clause-tells g c = λ w s.
    let t = rw (← c.self.view_is) at s in
    let size = c.next-frames.ensures.frames (values_of w.rate) w.time w.heard t.in_it.follower in (
      subst (λ (lines : List Said). Prints (g.K.Sink.written c.args.sink.now) (g.K.Sink.written c.write_packet.new.sink) c.write_packet.result lines)
          (out_told c.self.inside.detail c.next-frames.result c.receive-arrival.result c.args.lost w t.in_it.detail size (c.receive-arrival.ensures.arrival w.out t.in_it.out))
          c.write_packet.ensures.printed,
      always c.write_packet.result _
          (sent_stands c.args.lost _ w c.next-frames.new.self c.receive-arrival.new.self t (c.next-frames.ensures.stands (values_of w.rate) w.time w.heard t.in_it.follower)
          (subst (λ (n : ℕ). BenchStreamStands c.receive-arrival.new.self (after_packet 2048 c.args.lost n w.out)) size (c.receive-arrival.ensures.stands w.out t.in_it.out))),
    )
