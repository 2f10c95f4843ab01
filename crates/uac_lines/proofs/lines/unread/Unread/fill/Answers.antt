use Rattle.std.proofs.Common.{◌≡◌, ◌-◌, length, take, drop, ap, ◌∙◌, sym, arith, length-drop}
use Rattle.std.proofs.lemmas.List.{length-take-le}
use Rattle.uac_lines.proofs.UnreadLemmas.{filled}
use Rattle.uac_lines.proofs.lines.unread.Unread.fill.Goals as goal

pub returns-clause-ok : goal.returns-clause-ok
returns-clause-ok g c =
    let u = c.self.inside in
    let told = c.in_ok-count.ensures in
    let fits = told.fits in
    let moved = c.move_to_front.auto.bytes in
    let kept = c.take.auto.into in
    let full : length c.args.self.now ≡ u.end - u.start =
    ap length (sym c.self.view_is) ∙ length-take-le (u.end - u.start) (drop u.start u.bytes) (omega (arith, length-drop u.start u.bytes)) in
    let room = c.requires.room in
    record {
      taken = take c.in_ok-count.count c.take.new.into;
      grown = filled c.move_to_front.new.bytes c.take.new.into c.args.self.now (u.end - u.start) c.in_ok-count.count _ (sym c.self.view_is ∙ sym c.move_to_front.ensures) fits (omega arith);
      size = length-take-le c.in_ok-count.count c.take.new.into fits;
      few = omega arith;
      consumed = told.bytes.0;
      ended = λ none. told.bytes.1 none (omega arith);
    }
