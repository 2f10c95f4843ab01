-- What is said of one descriptor, as its source and its sink see it (profile).
use Rattle.std.specs.Prelude.{◌≡◌, ℕ, ◌⊎◌, List, Option}
use Rattle.uac_descriptor.specs.declared.block.Block.{Block}
use Rattle.uac_grammar.specs.declared.fault.ReadStop.{ReadStop}
use Rattle.uac_grammar.specs.declared.fault.ReadStop.TheVariants.{Fault, NoMemory}
use Rattle.uac_topology.specs.declared.soundness.CheckStop.{CheckStop}
use Rattle.uac_topology.specs.declared.soundness.CheckStop.TheVariants as check
use Rattle.uac_listing.specs.declared.description.Description.{Description}
use Rattle.uac_ends.specs.declared.status.Status.{Status}
use Rattle.uac_ends.specs.Closing.{Closes, HasEnded, IsClosed}
use Rattle.uac_ends.specs.Outside.{Outside, Takes}
use Rattle.uac_ends.specs.Outcome.{End, Outcome, no_memory, refusal, unsound}
use Rattle.uac_listing.specs.Outcome.{IsOutcomeOf, IsTopologyVerdict}
use Rattle.uac_listing.specs.SourceParsing.{StopsThere}

-- The bytes that were taken, why no more were, and what is said of them; or memory was wanted.
pub record IsDescribed (description : Description) (before after : Outside) (status : Status) : Type 0 where
  pub taken : List ℕ
  pub end : End
  pub outcome : Outcome
  pub consumed : Takes taken before after
  pub ended : HasEnded end before after
  pub prompt : StopsThere taken
  pub meant : IsOutcomeOf description taken end outcome ⊎ (outcome ≡ no_memory)
  pub closed : IsClosed outcome before after status

-- what is printed of a descriptor that is refused, or for which there was no memory
abbrev pub PrintsRefusal : ReadStop → Option (List ℕ) → Option (List ℕ) → ℕ → ℕ → Status → Type 0
PrintsRefusal (Fault fault) old new before after status = Closes (refusal fault) old new before after status
PrintsRefusal NoMemory old new before after status = Closes no_memory old new before after status

-- what is printed of a function that is refused, or for which there was no memory
abbrev pub RefusesFunction : CheckStop → Option (List ℕ) → Option (List ℕ) → ℕ → ℕ → Status → Type 0
RefusesFunction (check.Fault fault) old new before after status = Closes (unsound fault) old new before after status
RefusesFunction check.NoMemory old new before after status = Closes no_memory old new before after status

-- The text of a verdict on these blocks was written; or there was no memory for it.
pub record Judges (description : Description) (blocks : List Block) (old new : Option (List ℕ)) (before after : ℕ)
    (status : Status) : Type 0 where
  pub outcome : Outcome
  pub meant : IsTopologyVerdict description blocks outcome ⊎ (outcome ≡ no_memory)
  pub closed : Closes outcome old new before after status
