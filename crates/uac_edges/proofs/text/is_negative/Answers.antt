use Rattle.std.proofs.Common.{ap, sym, pos, w32}
use Rattle.std.specs.Prelude.{int_lt}
use Rattle.std.proofs.lemmas.Int.{to_z-of_z}
use Rattle.uac_edges.proofs.NumeralsLemmas.{signed-numeral}
use Rattle.uac_edges.proofs.text.is_negative.Goals as goal

pub returns : goal.returns
returns c =
    signed-numeral c.args.number c.ranges.number _ (ap (λ z. int_lt z (pos 0)) (sym (to_z-of_z w32 c.args.number c.ranges.number)))
