use Rattle.std.proofs.Common.{◌≡◌, ◌≤◌, length, take, ap, ◌∙◌, arith}
use Rattle.std.proofs.lemmas.List.{length-take, take_all}
use Rattle.uac_lines.specs.Looking.{line_end}
use Rattle.uac_lines.proofs.ScriptLinesLemmas.{line_end_within, line_end_in, counted_is, head_long, head_line, head_past, head_unended}
use Rattle.uac_lines.proofs.lines.front.look.Goals as goal

pub find_end-size-requires : goal.find_end-size-requires
find_end-size-requires c =
    let known = c.requires.known in
    let counted = c.requires.counted in
    record {
      known = omega (arith, line_end_in c.min.result c.args.bytes.now, line_end_within c.args.bytes.now);
      there = omega (arith, length-take c.min.result c.args.bytes.now, line_end_within c.args.bytes.now);
    }

pub returns-then-size-gt-MOST : goal.returns-then-size-gt-MOST
returns-then-size-gt-MOST c =
    let cut = counted_is c.args.bytes.now c.min.result c.args.spare c.min.ensures in
    head_long c.args.spare c.args.bytes.now c.find_end-size.result (c.find_end-size.ensures ∙ ap line_end cut) (omega arith)

pub returns-then-size-counted : goal.returns-then-size-counted
returns-then-size-counted c =
    let cut = counted_is c.args.bytes.now c.min.result c.args.spare c.min.ensures in
    let same : length (take c.min.result c.args.bytes.now) ≡ length (take c.args.spare c.args.bytes.now) = ap length cut in
    let size = length-take c.args.spare c.args.bytes.now in
    (head_line c.args.spare c.args.bytes.now c.find_end-size.result (c.find_end-size.ensures ∙ ap line_end cut) (omega arith) (omega arith), omega arith, omega arith, omega arith)

pub returns-then-counted-bytes : goal.returns-then-counted-bytes
returns-then-counted-bytes c =
    let cut = counted_is c.args.bytes.now c.min.result c.args.spare c.min.ensures in
    let same : length (take c.min.result c.args.bytes.now) ≡ length (take c.args.spare c.args.bytes.now) = ap length cut in
    let size = length-take c.args.spare c.args.bytes.now in
    head_past c.args.spare c.args.bytes.now c.find_end-size.result (c.find_end-size.ensures ∙ ap line_end cut) (omega arith) (omega arith) (omega arith)

pub returns-else-counted-bytes : goal.returns-else-counted-bytes
returns-else-counted-bytes c =
    let cut = counted_is c.args.bytes.now c.min.result c.args.spare c.min.ensures in
    let same : length (take c.min.result c.args.bytes.now) ≡ length (take c.args.spare c.args.bytes.now) = ap length cut in
    let size = length-take c.args.spare c.args.bytes.now in
    let within : length c.args.bytes.now ≤ c.args.spare = omega arith in
    let is = c.find_end-size.ensures ∙ ap line_end cut in
    let reach = line_end_within (take c.args.spare c.args.bytes.now) in
    let whole : line_end (take c.args.spare c.args.bytes.now) ≡ line_end c.args.bytes.now = ap line_end (take_all c.args.spare c.args.bytes.now within) in
    (head_unended c.args.spare c.args.bytes.now c.find_end-size.result is (omega arith) (omega arith) within, omega arith, omega arith, omega arith, omega arith)
