use Rattle.uac_mixer.proofs.MixerElementsListLemmas.{channel_more}
use Rattle.uac_mixer.proofs.listing.add_control.Goals as goal

pub loop-channel-preserved : goal.loop-channel-preserved
loop-channel-preserved c =
    channel_more c.args.entity.now c.args.selector c.loop-channel.channel _ c.loop-channel.elements.items _ c.in_ok-add_channel.ensures c.loop-channel.invariant
