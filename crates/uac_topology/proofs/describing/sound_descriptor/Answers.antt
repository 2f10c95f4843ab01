use Rattle.std.proofs.Common.{subst, sym}
use Rattle.uac_descriptor.specs.WellFormed.{AreWellFormed}
use Rattle.uac_topology.proofs.DescriptionLemmas.{described_with, described_broken}
use Rattle.uac_topology.proofs.describing.sound_descriptor.Goals as goal

pub returns-in-Ok-check : goal.returns-in-Ok-check
returns-in-Ok-check c =
    described_with _ _ _ _ _ c.with_bytes.result c.in-Ok.ensures.sentence c.in-Ok.ensures.no_fault c.as_slice.ensures.value c.as_slice-in-Ok-check.ensures.value
    c.in-Ok-check.ensures.sound
    c.with_bytes.ensures.ok c.with_bytes.ensures.err

pub returns-in-Err-Fault : goal.returns-in-Err-Fault
returns-in-Err-Fault c =
    rw c.in-Err-Fault.field-0-is
    (described_broken _ _ _ _ c.in-Ok.ensures.sentence c.in-Ok.ensures.no_fault c.as_slice.ensures.value (rw c.in-Err-Fault.field-0-is at c.in-Err-Fault.ensures.broken))

pub check-requires : goal.check-requires
check-requires c =
    subst AreWellFormed (sym c.as_slice.ensures.value) (c.sentences_are_well_formed.ensures c.args.reader.taken c.in-Ok.blocks.items c.in-Ok.ensures.sentence)
