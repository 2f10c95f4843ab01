-- How often a node is named.
use Rattle.std.specs.Prelude.{ℕ, ◌==◌, List, count_by}
use Rattle.std.specs.List.{sum_by}

-- how often v stands in a list
abbrev pub times : ℕ → List ℕ → ℕ
times v xs = count_by (λ u. u == v) xs

-- how often the nodes of xs stand in a list, all together
abbrev pub times_in : List ℕ → List ℕ → ℕ
times_in ps xs = sum_by (λ t. times t ps) xs
