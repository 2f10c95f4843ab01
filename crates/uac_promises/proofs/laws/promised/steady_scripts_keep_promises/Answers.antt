use Rattle.uac_promises.proofs.PromisesLemmas.{all_scripts_keep_promises}
use Rattle.uac_promises.proofs.PromisesRowLemmas.{one_more_line_is_kept}
use Rattle.uac_promises.proofs.PromisesBegunLemmas.{lines_begin_as_promised}
use Rattle.uac_promises.proofs.WatchesLemmas.{lines_are_seen}
use Rattle.uac_promises.proofs.laws.promised.steady_scripts_keep_promises.Goals as goal

pub returns : goal.returns
returns c = record {
  promises = all_scripts_keep_promises;
  seen = lines_are_seen;
  one_more = one_more_line_is_kept all_scripts_keep_promises;
  begun = lines_begin_as_promised all_scripts_keep_promises;
}
