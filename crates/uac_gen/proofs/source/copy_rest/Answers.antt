use Rattle.std.proofs.Common.{arith, rules, drop}
use Rattle.std.proofs.lemmas.Grind.{common_steps}
use Rattle.uac_gen.proofs.CopyRestLemmas.{byte_written, newline_moved, bytes_moved}
use Rattle.uac_gen.proofs.source.copy_rest.Goals as goal

pub returns-then-at-line-2-clause-moved : goal.returns-then-at-line-2-clause-moved
returns-then-at-line-2-clause-moved c = newline_moved c.args.line.now _ c.args.at (search rules) (byte_written c.args.into.now 10 c.requires.room)

pub returns-clause-moved : goal.returns-clause-moved
returns-clause-moved c =
    bytes_moved c.args.line.now c.copy_from_slice.new.self (drop c.min-count.result c.args.into.now) c.args.at c.min-count.result
    (grind (arith, common_steps)) (grind (arith, common_steps)) (grind (arith, common_steps))
