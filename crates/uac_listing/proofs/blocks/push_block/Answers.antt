use Rattle.std.proofs.Common.{List, ℕ, ◌++◌, refl, ap, ◌∙◌}
use Rattle.uac_listing.proofs.BlockLinesLemmas.{line-spelling}
use Rattle.uac_listing.proofs.blocks.push_block.Goals as goal

pub returns-clause-text : goal.returns-clause-text
returns-clause-text c =
    c.push_line.ensures
    ∙ ap (λ (line : List ℕ). c.args.lines.now ++ line) (line-spelling c.args.place c.args.block.now _ _ c.front-bytes.ensures.bytes refl)
