-- What a function is seen as.
use Rattle.std.specs.Prelude.{ℕ, ◌==◌, List, Option, position}
use Rattle.std.specs.List.{find}
use Rattle.uac_entities.specs.declared.entity.Entity.{Entity}
use Rattle.uac_entities.specs.declared.stream.StreamInterface.{StreamInterface}

-- the entities in block order, each with the cluster that it puts out; the clocks that terminals name, in the order in
-- which they are first named; the streaming interfaces in block order; the number of the control interface; and the
-- configuration's wTotalLength
pub record FunctionFields : Type 0 where
  pub entities : List Entity
  pub domains : List ℕ
  pub streams : List StreamInterface
  pub control_interface : ℕ
  pub total : ℕ

-- the streaming interface with this number, if there is one
abbrev pub interface_in : FunctionFields → ℕ → Option StreamInterface
interface_in function number = find (λ s. s.number == number) function.streams

-- its index among the streaming interfaces, in block order
abbrev pub stream_index : FunctionFields → ℕ → Option ℕ
stream_index function number = position (λ s. s.number == number) function.streams
