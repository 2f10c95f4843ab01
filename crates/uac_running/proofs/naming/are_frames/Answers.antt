use Rattle.std.proofs.Common.{◌∙◌, sym}
use Rattle.uac_running.proofs.NamingLemmas.{out_has_channels}
use Rattle.uac_running.proofs.naming.are_frames.Goals as goal

pub are_whole-requires : goal.are_whole-requires
are_whole-requires c =
    out_has_channels c.args.function.now c.args.number c.channels_of.result c.in-Some.stream.now c.functions_are_sound.ensures
    (c.entities_have_channels.ensures c.args.function.now c.functions_are_sound.ensures) (sym c.in-Some.ensures)
    (sym c.carries_out.ensures ∙ c.if-carries_out.true) c.channels_of.ensures.placed
