-- One call of the program with the arguments of its process (profile).
use Rattle.std.specs.Prelude.{◌≡◌, ℕ, [], drop, map, string_bytes, Option, Result, Ok, Err}
use Rattle.std.specs.Vec.Iter.{into_iter_items}
use Rattle.std.specs.declared.string.String.{String}
use Rattle.std.specs.declared.vec.IntoIter.{IntoIter}
use Rattle.uac_words.specs.declared.commands.Invocation.{Invocation}
use Rattle.uac_words.specs.Plain.{plainly}
use Rattle.uac_ends.specs.declared.status.Status.{Status}
use Rattle.uac_ends.specs.Exit.{exit_number}

-- what the arguments ask for: all but the first of them, and nothing at all where they couldn't be read
abbrev pub asked_by : {X Z E : Type 0} → Result (IntoIter (String X) Z) E → Option Invocation
asked_by (Ok all) = plainly (map (λ word. string_bytes word) (drop 1 (into_iter_items all)))
asked_by (Err error) = plainly []

-- The process ends with the number of a status of which this is so.
pub record Exits (IsSo : Status → Type 0) (number : ℕ) : Type 0 where
  pub status : Status
  pub so : IsSo status
  pub exit : number ≡ exit_number status
