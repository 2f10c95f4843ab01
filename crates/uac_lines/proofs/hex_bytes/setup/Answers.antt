use Rattle.std.proofs.Common.{ap, ◌∙◌}
use Rattle.std.specs.Result.{result_ok}
use Rattle.uac_lines.proofs.SetupBytesLemmas.{setup_is}
use Rattle.uac_lines.proofs.hex_bytes.setup.Goals as goal

pub returns : goal.returns
returns c = c.ok.ensures.value ∙ ap result_ok c.from_hex.ensures ∙ setup_is c.args.word.now
