use Rattle.std.proofs.Common.{◌++◌, codes}
use Rattle.uac_edges.proofs.WritingLemmas.{AppendsFront-after, AppendsFront-longer, Writes-after, Writes-handed_on}
use Rattle.uac_transcript.specs.Transcript.{hex_or_dash, spelling_of}
use Rattle.uac_transcript.proofs.transfers.write_given.Goals as goal

pub returns-in_err-give_all-clause-written : goal.returns-in_err-give_all-clause-written
unfolding spelling_of
returns-in_err-give_all-clause-written g c =
    Writes-handed_on _ (g.K.Sink.written c.args.sink.now) (g.K.Sink.written c.give_all.new.sink) c.from_residual.result _ c.from_residual.ensures.1 (
    AppendsFront-longer (g.K.Sink.written c.args.sink.now) (g.K.Sink.written c.give_all.new.sink) (codes "c bytes ")
    (hex_or_dash c.args.bytes.now ++ codes "\n") c.in_err-give_all.ensures.written
    )

pub returns-in_err-write_hex_or_dash-clause-written : goal.returns-in_err-write_hex_or_dash-clause-written
unfolding spelling_of
returns-in_err-write_hex_or_dash-clause-written g c =
    Writes-handed_on _ (g.K.Sink.written c.args.sink.now) (g.K.Sink.written c.write_hex_or_dash.new.sink) c.from_residual-in_err-write_hex_or_dash.result _ c.from_residual-in_err-write_hex_or_dash.ensures.1 (
    AppendsFront-after (g.K.Sink.written c.args.sink.now) (g.K.Sink.written c.give_all.new.sink) (g.K.Sink.written c.write_hex_or_dash.new.sink)
    (codes "c bytes ") (hex_or_dash c.args.bytes.now ++ codes "\n") c.in_ok-give_all.ensures.written
    (AppendsFront-longer (g.K.Sink.written c.give_all.new.sink) (g.K.Sink.written c.write_hex_or_dash.new.sink) (hex_or_dash c.args.bytes.now)
    (codes "\n") c.in_err-write_hex_or_dash.ensures.written)
    )

pub returns-clause-written : goal.returns-clause-written
unfolding spelling_of
returns-clause-written g c =
    Writes-after (g.K.Sink.written c.args.sink.now) (g.K.Sink.written c.give_all.new.sink) (g.K.Sink.written c.give_all-2.new.sink) c.give_all-2.result
    (codes "c bytes ") (hex_or_dash c.args.bytes.now ++ codes "\n") c.in_ok-give_all.ensures.written
    (Writes-after (g.K.Sink.written c.give_all.new.sink) (g.K.Sink.written c.write_hex_or_dash.new.sink) (g.K.Sink.written c.give_all-2.new.sink)
    c.give_all-2.result (hex_or_dash c.args.bytes.now) (codes "\n") c.in_ok-write_hex_or_dash.ensures.written c.give_all-2.ensures.written)
