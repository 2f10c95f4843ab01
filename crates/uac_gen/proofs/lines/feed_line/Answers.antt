use Rattle.std.proofs.Common.{◌≡◌, ◌+◌, ◌-◌, ◌*◌, ◌++◌, [], ◌∷◌, take, drop, ap, ◌∙◌}
use Rattle.hex.specs.Hex.{encode_lower}
use Rattle.uac_gen.proofs.GeneratedScriptLemmas.{piece}
use Rattle.uac_gen.proofs.lines.feed_line.Goals as goal

pub returns : goal.returns
returns c =
    let start = 64 * c.args.fed in
    let cut = piece c.args.bytes.now start c.min-size.result c.min-size.ensures in
    let word : c.push.new.self ≡ 100 ∷ 32 ∷ [] = c.push.ensures.text ∙ ap (λ xs. xs ++ 100 ∷ 32 ∷ []) c.new-line.ensures in
    c.push_hex.ensures.text
    ∙ ap (λ xs. xs ++ encode_lower (take (start + c.min-size.result - start) (drop start c.args.bytes.now))) word
    ∙ ap (λ xs. 100 ∷ 32 ∷ encode_lower xs) cut
