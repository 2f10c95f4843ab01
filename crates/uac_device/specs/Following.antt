-- What a device keeps so that a tick looks up nothing: what its units are asked and the nominal values of its domains, which follow from
-- its controls, and its output jacks.
use Rattle.std.specs.Prelude.{◌≡◌, ℕ, ℤ, false, List, Option}
use Rattle.std.specs.List.{All}
use Rattle.std.specs.Option.{option_and_then}
use Rattle.uac_clock.specs.Nominal.{nominal_of}
use Rattle.uac_clock.specs.declared.values.Nominal.{Nominal}
use Rattle.uac_entities.specs.declared.entity.Entity.{Entity}
use Rattle.uac_topology.specs.Function.{FunctionFields}
use Rattle.uac_store.specs.declared.keys.Key.{Key}
use Rattle.uac_store.specs.Rates.{rate_of}
use Rattle.uac_graph.specs.GraphControls.{controls_in}
use Rattle.uac_graph.specs.Jobs.{AreJobs, AreSameBut}
use Rattle.uac_request.specs.Requests.{high, sets_cur}
use Rattle.uac_request.specs.declared.setup.Setup.{Setup}
use Rattle.uac_device.specs.declared.derived.Derived.{Derived}
use Rattle.uac_device.specs.declared.derived.DomainRate.{DomainRate}
use Rattle.uac_device.specs.DeviceTurns.{jacks_of}

-- the nominal values of the rate that a domain's clock has, if it has one
abbrev pub nominal_at : List Entity → List (Key × ℤ) → ℕ → Option Nominal
nominal_at entities controls domain = option_and_then nominal_of (rate_of entities controls domain)

abbrev pub IsDomainRate : List Entity → List (Key × ℤ) → DomainRate → Type 0
IsDomainRate entities controls p = p.values ≡ nominal_at entities controls p.domain

-- the pace of a domain, renewed
abbrev pub renewed_rate : List Entity → List (Key × ℤ) → DomainRate → DomainRate
renewed_rate entities controls p = record { domain = p.domain; values = nominal_at entities controls p.domain }

-- what is kept follows from these values of the controls
pub record IsDerived (function : FunctionFields) (controls : List (Key × ℤ)) (derived : Derived) : Type 0 where
  pub asked : AreJobs function.entities (controls_in controls) derived.jobs
  pub paced : All (IsDomainRate function.entities controls) derived.rates.items
  pub heard : derived.jacks.items ≡ jacks_of function.entities

-- what a request can change: one to set a control the values of the entity that it names, and any other none
pub record IsLeftBy (p : Setup) (before after : List (Key × ℤ)) : Type 0 where
  pub same : sets_cur p ≡ false → after ≡ before
  pub others : AreSameBut (high p.index) (controls_in before) (controls_in after)
