-- As much of the clocks behind an entity as tells which clock differs from one of them.
use Rattle.std.specs.Prelude.{◌≡◌, ◌==◌, ℕ, Bool, true, false, not, if◌then◌else◌, List}
use Rattle.std.specs.List.{list_any}
use Rattle.uac_topology_rules.specs.declared.signals.Behind.{Behind}
use Rattle.uac_topology_rules.specs.declared.signals.Behind.TheVariants as clocks

-- one of the clocks behind is another than this
abbrev pub differs : Behind → ℕ → Bool
differs clocks.Nothing clock = false
differs (clocks.One c) clock = not (c == clock)
differs clocks.Several clock = true

-- the clocks behind two sources
abbrev pub behind_both : Behind → Behind → Behind
behind_both clocks.Nothing b = b
behind_both (clocks.One c) clocks.Nothing = clocks.One c
behind_both (clocks.One c) (clocks.One d) = if c == d then clocks.One c else clocks.Several
behind_both (clocks.One c) clocks.Several = clocks.Several
behind_both clocks.Several b = clocks.Several

-- a summary tells which clock differs from one of the list
abbrev pub Summarizes : Behind → List ℕ → Type 0
Summarizes b list = (clock : ℕ) → list_any (λ c. not (c == clock)) list ≡ differs b clock
