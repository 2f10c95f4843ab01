use Rattle.std.proofs.Common.{◌≡◌, drop, Some, None, ◌==◌, ap, ◌∙◌, sym, arith, length-drop}
use Rattle.std.specs.List.{position}
use Rattle.std.proofs.lemmas.List.{take_rest}
use Rattle.uac_lines.proofs.ScriptLinesLemmas.{line_end_following, line_end_found, line_end_missed}
use Rattle.uac_lines.proofs.lines.front.find_end.Goals as goal

pub returns-in-Some : goal.returns-in-Some
returns-in-Some c =
    let bytes = c.args.bytes.now in
    let from = c.args.searched in
    let e : position (λ b. b == 10) (drop from bytes) ≡ Some c.in-Some.following =
    ap (position (λ b. b == 10)) (sym (take_rest bytes from)) ∙ sym c.in-Some.ensures in
    let found = line_end_found (drop from bytes) c.in-Some.following e in
    omega (arith, line_end_following bytes from c.requires.known)

pub returns-in-None : goal.returns-in-None
returns-in-None c =
    let bytes = c.args.bytes.now in
    let from = c.args.searched in
    let e : position (λ b. b == 10) (drop from bytes) ≡ None =
    ap (position (λ b. b == 10)) (sym (take_rest bytes from)) ∙ sym c.in-None.ensures in
    let missed = line_end_missed (drop from bytes) e in
    let there = c.requires.there in
    omega (arith, line_end_following bytes from c.requires.known, length-drop from bytes)
