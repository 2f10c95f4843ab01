use Rattle.std.proofs.Common.{◌≡◌, ℕ, length, take, ap, ◌∙◌, sym}
use Rattle.uac_descriptor.specs.Spelling.{spelling}
use Rattle.uac_listing.proofs.BlockLinesLemmas.{in_front}
use Rattle.uac_listing.proofs.blocks.front.Goals as goal

pub bounds-rest-0 : goal.bounds-rest-0
bounds-rest-0 c = (in_front c.args.block.now c.args.rest.now c.requires.following c.has_spelling.ensures c.requires.parts).some

pub slice_bounds-result-end : goal.slice_bounds-result-end
slice_bounds-result-end c =
    let f = in_front c.args.block.now c.args.rest.now c.requires.following c.has_spelling.ensures c.requires.parts in
    let n : c.from.result ≡ length (spelling c.args.block.now) = c.from.ensures ∙ f.size in
    n ∙ sym (ap (λ (k : ℕ). length (take k c.args.rest.now)) n ∙ ap length f.front)

pub returns-clause-bytes : goal.returns-clause-bytes
returns-clause-bytes c =
    let f = in_front c.args.block.now c.args.rest.now c.requires.following c.has_spelling.ensures c.requires.parts in
    ap (λ (k : ℕ). take k c.args.rest.now) (c.from.ensures ∙ f.size) ∙ f.front
