use Rattle.std.proofs.Common.{◌++◌, flat_map, ap, sym, ◌∙◌, arith, append_assoc}
use Rattle.uac_descriptor.specs.Spelling.{spelling}
use Rattle.uac_gen.specs.GeneratedDescriptor.{unit_at, units_of}
use Rattle.uac_gen.proofs.GeneratedDescriptorLemmas.{units_more}
use Rattle.uac_gen.proofs.descriptor.push_units.Goals as goal

pub loop-distance-preserved : goal.loop-distance-preserved
loop-distance-preserved c =
    let i = c.loop-distance.invariant in
    let d = c.loop-distance.distance in
    let len = c.push_unit.ensures.len in
    let room = i.room in
    record {
      units = c.push_unit.ensures.unit ∙ ap (λ bytes. bytes ++ spelling (unit_at d)) i.units
          ∙ append_assoc c.args.bytes.now (flat_map spelling (units_of d)) (spelling (unit_at d))
          ∙ ap (λ bytes. c.args.bytes.now ++ bytes) (sym (units_more d));
      room = omega arith;
      few = omega arith;
    }
