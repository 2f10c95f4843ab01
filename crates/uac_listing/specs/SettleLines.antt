-- What `settle` prints (profile).
use Rattle.std.specs.Prelude.{ℕ, List, [], ◌++◌, flat_map, codes, decimal}
use Rattle.std.specs.Option.{option_map_or}
use Rattle.uac_clock.specs.Nominal.{twelve_rates}
use Rattle.uac_settle.specs.Settling.{bound_of}
use Rattle.uac_ends.specs.declared.status.Status.TheVariants as statuses
use Rattle.uac_ends.specs.Outcome.{Outcome}

-- a rate's line: after how many microframes without a lost packet a stream is home
abbrev pub settling_line : ℕ → List ℕ
settling_line rate = option_map_or (λ bound. codes "rate " ++ decimal rate ++ codes " settle " ++ decimal bound
    ++ codes "\n") (bound_of rate) []

-- one for each of the twelve rates, in their order
abbrev pub settle_outcome : Outcome
settle_outcome = record { text = flat_map settling_line twelve_rates; status = statuses.Ok }
