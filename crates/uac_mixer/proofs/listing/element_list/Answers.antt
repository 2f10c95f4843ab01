use Rattle.uac_mixer.proofs.MixerElementsListLemmas.{small_at}
use Rattle.uac_mixer.proofs.listing.element_list.Goals as goal

pub add_entity-requires : goal.add_entity-requires
add_entity-requires c =
    small_at _ _ _ _ c.entities-entity-items.ensures (c.sound_functions_have_keys_and_rates.ensures.keys c.args.function.now c.functions_are_sound.ensures) c.loop-entity-test.true c.entity-item.is
