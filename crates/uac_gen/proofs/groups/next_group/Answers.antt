use Rattle.std.proofs.Common.{◌∷◌, [], ap, sym, ◌∙◌, arith}
use Rattle.uac_gen.proofs.GeneratedScriptLemmas.{begun, report}
use Rattle.uac_gen.proofs.groups.next_group.Goals as goal

pub returns-then-count-eq0 : goal.returns-then-count-eq0
returns-then-count-eq0 c = λ number hertz bytes.
    report c.args.count c.args.draws.now.x c.if-count-eq0.true ∙ ap (λ line. line ∷ []) (sym c.fixed_line.ensures)

pub returns : goal.returns
returns c = λ number hertz bytes.
    begun c.args.count c.args.draws.now.x c.draw-drawn.new.self.x c.draw-eights.new.self.x c.draw-lost.new.self.x
    c.draw-drawn.result c.draw-eights.result c.draw-lost.result c.deviation_line.result _
    (let some = c.if-count-eq0.false in omega arith)
    c.draw-drawn.ensures.moves c.draw-eights.ensures.moves c.draw-lost.ensures.moves
    c.draw-drawn.ensures.drawn c.draw-eights.ensures.drawn c.draw-lost.ensures.drawn
    c.deviation_line.ensures (c.next_after_deviation.ensures number hertz c.draw-lost.new.self.x bytes)
