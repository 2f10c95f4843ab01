-- What a list of boxed meters shows.
use Rattle.std.specs.Prelude.{List, map}
use Rattle.uac_units.specs.Hearing.{Reading}
use Rattle.uac_units.specs.declared.meter_list.Meters.{Meters}
use Rattle.std.specs.declared.dyn_box.DynBox.{DynBox}

-- the readings of boxed meters, in order. A box is a value with the table of its type's calls; `reading_of` is the reading
-- that the trait `Meter` gives it
abbrev pub readings_of : {Table Alloc : Type 0} {Boxed : Table → Type 0} → ((table : Table) → Boxed table → Reading)
    → List (DynBox Table Alloc Boxed) → List Reading
readings_of reading_of boxes = map (λ b. reading_of b.vtable b.value) boxes

abbrev pub readings : {Table : Type 0} {Boxed : Table → Type 0} → ((table : Table) → Boxed table → Reading) → Meters Table Boxed
    → List Reading
readings reading_of meters = readings_of reading_of meters.list.items
