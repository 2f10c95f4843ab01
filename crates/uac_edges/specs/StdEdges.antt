-- profile: what a sink over a writer tells.
use Rattle.std.specs.Prelude.{ℕ, ◌-◌, List, length, take, Option}
use Rattle.std.specs.Option.{option_map}

-- the bytes that a writer holds, where it tells them, but for the last so many
abbrev pub without_last : ℕ → Option (List ℕ) → Option (List ℕ)
without_last count known = option_map (λ bytes. take (length bytes - count) bytes) known
