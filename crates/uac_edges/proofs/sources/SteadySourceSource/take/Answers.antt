use Rattle.std.proofs.Common.{arith, length, ◌+◌, drop}
use Rattle.std.proofs.lemmas.Grind.{common_steps}
use Rattle.uac_edges.proofs.MemoryLemmas.{consumes_front}
use Rattle.uac_edges.proofs.sources.SteadySourceSource.take.Goals as goal

pub returns-clause-bytes : goal.returns-clause-bytes
returns-clause-bytes c =
    let called = c.copy_front-count in
    consumes_front c.args.self.now (drop (c.self.inside.at + called.result) c.self.inside.bytes) c.args.into.now called.new.into (length c.args.into.now) called.result
    (grind (arith, common_steps)) (grind (arith, common_steps)) (grind (arith, common_steps)) (omega arith)
