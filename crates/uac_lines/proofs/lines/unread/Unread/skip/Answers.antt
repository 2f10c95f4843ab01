use Rattle.std.proofs.Common.{◌≡◌, ◌+◌, ◌-◌, ◌≤◌, length, take, drop, ap, ◌∙◌, sym, arith}
use Rattle.std.proofs.lemmas.List.{length-take}
use Rattle.uac_lines.proofs.UnreadLemmas.{skipped}
use Rattle.uac_lines.proofs.lines.unread.Unread.skip.Goals as goal

pub returns : goal.returns
returns c =
    let u = c.self.inside in
    let few : length c.args.self.now ≡ length (take (u.end - u.start) (drop u.start u.bytes)) = ap length (sym c.self.view_is) in
    let fits : u.start + c.args.count ≤ u.end = omega (arith, length-take (u.end - u.start) (drop u.start u.bytes)) in
    skipped u.bytes u.start u.end c.args.count fits ∙ ap (drop c.args.count) c.self.view_is
