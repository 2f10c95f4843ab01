use Rattle.uac_units.proofs.RenderingLemmas.{length-job_samples, get_or-job_samples}
use Rattle.uac_units.proofs.laws.each_output_has_its_sample.Goals as goal

pub returns-clause-length : goal.returns-clause-length
returns-clause-length c = length-job_samples

pub returns-clause-sample : goal.returns-clause-sample
returns-clause-sample c = get_or-job_samples
