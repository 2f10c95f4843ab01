use Rattle.uac_promises.proofs.MomentLawsLemmas.{all_is_put, all_is_taken, domains_are_seen, frames_are_seen, parts_make_microframes, ticks_are_seen, turns_are_seen}
use Rattle.uac_promises.proofs.laws.promised.moments_are_all.Goals as goal

pub returns : goal.returns
returns c = record {
  ticks = ticks_are_seen;
  frames = frames_are_seen;
  turns = turns_are_seen;
  domains = domains_are_seen;
  puts = all_is_put;
  takes = all_is_taken;
  parts = parts_make_microframes;
}
