use Rattle.uac_pcm.proofs.SubslotsLemmas.{cut_to-cut_to, sample_of_subslot-subslot_of}
use Rattle.uac_pcm.proofs.laws.subslot_is_read_back.Goals as goal

pub returns : goal.returns
returns c = record { read = λ size resolution sample some. sample_of_subslot-subslot_of size resolution sample; once = cut_to-cut_to }
