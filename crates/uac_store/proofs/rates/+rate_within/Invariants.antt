use Rattle.uac_store.proofs.rates.+rate_within.Given as goal

abbrev pub decreases-rate_within : goal.decreases-rate_within
decreases-rate_within c = c.steps
