use Rattle.std.proofs.Common.{◌∙◌, w32, FitsSigned, rules, arith}
use Rattle.std.proofs.lemmas.Int.{to_z-of_z}
use Rattle.uac_store.proofs.StoreControlsStartLemmas.{no_channels, channel_more, below_count, all_channels}
use Rattle.uac_store.proofs.start.add_channels.Goals as goal

pub loop-channel-init : goal.loop-channel-init
loop-channel-init c = no_channels _ _ _ _

pub loop-channel-preserved : goal.loop-channel-preserved
loop-channel-preserved c =
    let fits : FitsSigned w32 c.start_of.result = search rules in
    c.in_ok-insert.ensures.entries
    ∙ channel_more _ _ _ _ _ c.loop-channel.values _ _ c.requires.absent c.requires.pins (to_z-of_z w32 c.start_of.result fits ∙ c.start_of.ensures) c.loop-channel.invariant

pub start_of-requires : goal.start_of-requires
start_of-requires c =
    below_count _ _ _ _ c.requires.pins (omega (arith, c.loop-channel-test.true, c.loop-channel.auto.channel-end, c.count_of-channel-end.ensures.value))

pub returns : goal.returns
returns c = all_channels _ _ _ _ _ _ (omega (arith, c.loop-channel-test.false, c.loop-channel.auto.channel-end, c.count_of-channel-end.ensures.value)) c.loop-channel.invariant
