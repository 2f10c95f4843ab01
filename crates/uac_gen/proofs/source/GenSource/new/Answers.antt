use Rattle.std.proofs.Common.{rules}
use Rattle.uac_gen.specs.GeneratedScript.{script_of}
use Rattle.uac_gen.proofs.source.GenSource.new.Goals as goal

pub returns : goal.returns
unfolding script_of
returns c = search rules
