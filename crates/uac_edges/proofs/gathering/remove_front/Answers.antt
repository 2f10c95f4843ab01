use Rattle.std.proofs.Common.{ℕ, List, length, take, drop, ap, ◌++◌, ◌∙◌, arith, length-drop, take_at}
use Rattle.uac_edges.proofs.gathering.remove_front.Goals as goal

pub returns : goal.returns
returns c =
    let n = c.args.count in
    let xs = c.args.bytes.now.items in
    let ys = c.rotate_left.new.self in
    let lent = c.as_mut_slice.ensures.value in
    let whole = take_at ys (drop (length ys) xs) (length xs) (c.rotate_left.ensures.len ∙ ap length lent) in
    let turned = c.rotate_left.ensures.after ∙ ap (λ (zs : List ℕ). drop n zs ++ take n zs) lent in
    c.truncate.ensures.items ∙ ap (take _) (whole ∙ turned) ∙ take_at (drop n xs) (take n xs) _ (omega (arith, length-drop n xs))
