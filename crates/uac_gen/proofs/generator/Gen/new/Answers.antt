use Rattle.uac_gen.proofs.GeneratedScriptLemmas.{begins}
use Rattle.uac_gen.proofs.generator.Gen.new.Goals as goal

pub returns : goal.returns
returns c =
    begins c.args.number c.draw.new.self.x c.draw-2.new.self.x c.draw.result c.draw-2.result c.descriptor.result
    c.draw.ensures.moves c.draw.ensures.drawn c.draw-2.ensures.moves c.draw-2.ensures.drawn c.descriptor.ensures
