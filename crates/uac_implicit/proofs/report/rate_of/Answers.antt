use Rattle.std.proofs.Common.{◌≡◌, ◌∙◌, ◌+◌, ◌*◌, ◌/◌, arith}
use Rattle.uac_implicit.proofs.PairKeptLemmas.{rate_back}
use Rattle.uac_implicit.proofs.report.rate_of.Goals as goal

pub returns : goal.returns
returns c = λ hertz listed.
    let back = rate_back c.args.nominal.now hertz listed in
    omega arith
