-- The number, and then what the bus frame brings.
use Rattle.std.proofs.Common.{◌≡◌, sym, subst}
use Rattle.uac_fullspeed.specs.FullSpeedWorld.{passed}
use Rattle.uac_transcript.proofs.PrintingLemmas.{Tells-handed_on}
use Rattle.uac_fullspeed.proofs.RunLemmas.{number_cut, passed_between, told_up}
use Rattle.uac_fullspeed.proofs.run.FsRun.up_to_feedback.Goals as goal

pub returns-in_err-write_number-clause-tells : goal.returns-in_err-write_number-clause-tells
returns-in_err-write_number-clause-tells g c = λ w stands.
    let later = c.pass-brought.ensures.stands w stands.now in
    Tells-handed_on _ _ (g.K.Sink.written c.args.sink.now) (g.K.Sink.written c.write_number.new.sink) c.from_residual.result _ c.from_residual.ensures.1
    (number_cut w c.args.packet_lost (g.K.Sink.written c.args.sink.now) (g.K.Sink.written c.write_number.new.sink) (c.in_err-write_number.ensures.printed (passed c.args.packet_lost w) later))

pub returns-clause-tells : goal.returns-clause-tells
returns-clause-tells g c = λ w stands.
    let later = c.pass-brought.ensures.stands w stands.now in
    told_up c.pass-brought.result w c.carry.new.self c.args.packet_lost (g.K.Sink.written c.args.sink.now) (g.K.Sink.written c.write_number.new.sink) (g.K.Sink.written c.carry.new.sink) c.carry.result
    (c.in_ok-write_number.ensures.printed (passed c.args.packet_lost w) later) (c.pass-brought.ensures.frames w stands.now) c.pass-brought.ensures.lost (c.pass-brought.ensures.ticks w stands.now)
    (c.carry.ensures.tells (passed c.args.packet_lost w) (passed_between c.pass-brought.new.self w c.args.packet_lost later stands.room) (c.pass-brought.ensures.few w stands.now))
