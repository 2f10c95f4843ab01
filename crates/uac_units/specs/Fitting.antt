-- A rack whose boxes have the kinds of their slots.
use Rattle.std.specs.Prelude.{◌≡◌}
use Rattle.uac_units.specs.declared.jobs.UnitKind.{UnitKind}
use Rattle.uac_units.specs.declared.jobs.UnitKind.TheVariants.{Mixer, Selector, Feature, Effect}
use Rattle.uac_units.specs.declared.rack.Rack.{Rack}

-- each box of the rack has its slot's kind. A box is a value with the table of its type's calls; `kind_of` is the kind
-- that the trait `Unit` gives it
pub record IsFitted {Table : Type 0} {Boxed : Table → Type 0} (kind_of : (table : Table) → Boxed table
    → UnitKind) (rack : Rack Table Boxed) : Type 0 where
  pub mixer : kind_of rack.mixer.vtable rack.mixer.value ≡ Mixer
  pub selector : kind_of rack.selector.vtable rack.selector.value ≡ Selector
  pub feature : kind_of rack.feature.vtable rack.feature.value ≡ Feature
  pub effect : kind_of rack.effect.vtable rack.effect.value ≡ Effect

-- the box in the slot of that kind
abbrev pub slot : {Table : Type 0} {Boxed : Table → Type 0} → Rack Table Boxed → UnitKind → (table : Table) × Boxed table
slot rack Mixer = (rack.mixer.vtable, rack.mixer.value)
slot rack Selector = (rack.selector.vtable, rack.selector.value)
slot rack Feature = (rack.feature.vtable, rack.feature.value)
slot rack Effect = (rack.effect.vtable, rack.effect.value)
