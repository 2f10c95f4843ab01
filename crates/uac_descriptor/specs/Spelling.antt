-- The bytes of each block (USB 2.0, 9.6; Audio Class 2.0, 4.7.2, 4.9 and 4.10; Audio Data Formats 2.0, 2.3.1.6).
use Rattle.std.specs.Prelude.{ℕ, ◌+◌, List, [], ◌∷◌, ◌++◌, length, flat_map}
use Rattle.uac_descriptor.specs.Little.{two, four}
use Rattle.uac_descriptor.specs.Standard.{
  CONFIGURATION,
  INTERFACE,
  ENDPOINT,
  INTERFACE_ASSOCIATION,
  CS_INTERFACE,
  CS_ENDPOINT,
  HEADER,
  INPUT_TERMINAL,
  OUTPUT_TERMINAL,
  MIXER_UNIT,
  SELECTOR_UNIT,
  FEATURE_UNIT,
  EFFECT_UNIT,
  CLOCK_SOURCE,
  CLOCK_SELECTOR,
  CLOCK_MULTIPLIER,
  AS_GENERAL,
  FORMAT_TYPE,
  FORMAT_TYPE_I,
  EP_GENERAL,
}
use Rattle.uac_descriptor.specs.declared.block.Block as block
use Rattle.uac_descriptor.specs.declared.block.Block.TheVariants as row

-- bLength, bDescriptorType and what follows
abbrev pub descriptor : ℕ → List ℕ → List ℕ
descriptor kind rest = (length rest + 2) ∷ kind ∷ rest

-- a class block of an interface
abbrev pub class_interface : ℕ → List ℕ → List ℕ
class_interface subtype rest = descriptor CS_INTERFACE (subtype ∷ rest)

-- the bytes of a block, one case for each row of the layouts
unfoldable pub spelling : block.Block → List ℕ
spelling (row.Configuration c) =
    descriptor CONFIGURATION (two c.total ++ c.interfaces ∷ c.value ∷ c.name ∷ c.attributes ∷ c.power ∷ [])
spelling (row.Association a) =
    descriptor INTERFACE_ASSOCIATION (a.first ∷ a.count ∷ a.class ∷ a.subclass ∷ a.protocol ∷ a.name ∷ [])
spelling (row.Interface i) =
    descriptor INTERFACE (i.number ∷ i.setting ∷ i.endpoints ∷ i.class ∷ i.subclass ∷ i.protocol ∷ i.name ∷ [])
spelling (row.Endpoint e) =
    descriptor ENDPOINT (e.address ∷ e.attributes ∷ (two e.max_packet ++ e.interval ∷ []))
spelling (row.Header h) =
    class_interface HEADER (two h.version ++ h.category ∷ two h.total ++ h.controls ∷ [])
spelling (row.InputTerminal t) =
    class_interface INPUT_TERMINAL (
    t.id ∷ two t.terminal_type ++ t.assoc ∷ t.clock ∷ t.channels ∷ four t.locations
    ++ t.names ∷ two t.controls ++ t.name ∷ [])
spelling (row.OutputTerminal t) =
    class_interface OUTPUT_TERMINAL (
    t.id ∷ two t.terminal_type ++ t.assoc ∷ t.source ∷ t.clock ∷ two t.controls ++ t.name ∷ [])
spelling (row.Mixer m) =
    class_interface MIXER_UNIT (
    m.id ∷ length m.sources ∷ (m.sources ++ (m.channels ∷ four m.locations
    ++ m.names ∷ (m.mix_bits ++ m.controls ∷ m.name ∷ []))))
spelling (row.Selector s) =
    class_interface SELECTOR_UNIT (s.id ∷ length s.sources ∷ (s.sources ++ s.controls ∷ s.name ∷ []))
spelling (row.Feature f) =
    class_interface FEATURE_UNIT (f.id ∷ f.source ∷ (flat_map four f.words ++ f.name ∷ []))
spelling (row.Effect e) =
    class_interface EFFECT_UNIT (
    e.id ∷ (two e.effect_type ++ e.source ∷ (flat_map four e.words ++ e.name ∷ [])))
spelling (row.ClockSource c) =
    class_interface CLOCK_SOURCE (c.id ∷ c.attributes ∷ c.controls ∷ c.assoc ∷ c.name ∷ [])
spelling (row.ClockSelector c) =
    class_interface CLOCK_SELECTOR (c.id ∷ length c.sources ∷ (c.sources ++ c.controls ∷ c.name ∷ []))
spelling (row.ClockMultiplier c) =
    class_interface CLOCK_MULTIPLIER (c.id ∷ c.source ∷ c.controls ∷ c.name ∷ [])
spelling (row.General g) =
    class_interface AS_GENERAL (
    g.link ∷ g.controls ∷ g.format_type ∷ four g.formats ++ g.channels ∷ four g.locations ++ g.names ∷ [])
spelling (row.TypeOne t) =
    class_interface FORMAT_TYPE (FORMAT_TYPE_I ∷ t.subslot ∷ t.bits ∷ [])
spelling (row.Extra e) =
    class_interface e.subtype e.rest
spelling (row.ClassEndpoint e) =
    descriptor CS_ENDPOINT (EP_GENERAL ∷ e.attributes ∷ e.controls ∷ e.lock_units ∷ two e.lock_delay)
spelling (row.Foreign bytes) = bytes
