-- The entities that the blocks describe (Audio Class 2.0, 4.7.2).
use Rattle.std.specs.Prelude.{List, [], ◌∷◌, Option, Some, None}
use Rattle.std.specs.List.{filter_map}
use Rattle.uac_descriptor.specs.Layout.{SelectorFields, MixerFields, FeatureFields, EffectFields}
use Rattle.uac_descriptor.specs.declared.control.ClockSource.{ClockSource}
use Rattle.uac_descriptor.specs.declared.control.ClockMultiplier.{ClockMultiplier}
use Rattle.uac_descriptor.specs.declared.control.InputTerminal.{InputTerminal}
use Rattle.uac_descriptor.specs.declared.control.OutputTerminal.{OutputTerminal}
use Rattle.uac_descriptor.specs.declared.block.Block as block
use Rattle.uac_descriptor.specs.declared.block.Block.TheVariants as row
use Rattle.uac_entities.specs.declared.entity.Cluster.{Cluster}
use Rattle.uac_entities.specs.declared.entity.Entity.{Entity}
use Rattle.uac_entities.specs.declared.entity.EntityKind.TheVariants as kind

-- no channels
abbrev pub no_cluster : Cluster
no_cluster = record { channels = 0; locations = 0; names = 0 }

-- 4.7.2.1
abbrev pub clock_source : ClockSource → Entity
clock_source c =
    record {
      id = c.id;
      kind = kind.ClockSource;
      terminal_type = 0;
      sources = [];
      clock = 0;
      cluster = no_cluster;
      controls = c.controls ∷ [];
      mix_bits = [];
      attributes = c.attributes;
    }

-- 4.7.2.2
abbrev pub clock_selector : SelectorFields → Entity
clock_selector c =
    record {
      id = c.id;
      kind = kind.ClockSelector;
      terminal_type = 0;
      sources = c.sources;
      clock = 0;
      cluster = no_cluster;
      controls = c.controls ∷ [];
      mix_bits = [];
      attributes = 0;
    }

-- 4.7.2.3
abbrev pub clock_multiplier : ClockMultiplier → Entity
clock_multiplier c =
    record {
      id = c.id;
      kind = kind.ClockMultiplier;
      terminal_type = 0;
      sources = c.source ∷ [];
      clock = 0;
      cluster = no_cluster;
      controls = c.controls ∷ [];
      mix_bits = [];
      attributes = 0;
    }

-- 4.7.2.4: its cluster is its own
abbrev pub input_terminal : InputTerminal → Entity
input_terminal t =
    record {
      id = t.id;
      kind = kind.InputTerminal;
      terminal_type = t.terminal_type;
      sources = [];
      clock = t.clock;
      cluster = record { channels = t.channels; locations = t.locations; names = t.names };
      controls = t.controls ∷ [];
      mix_bits = [];
      attributes = 0;
    }

-- 4.7.2.5
abbrev pub output_terminal : OutputTerminal → Entity
output_terminal t =
    record {
      id = t.id;
      kind = kind.OutputTerminal;
      terminal_type = t.terminal_type;
      sources = t.source ∷ [];
      clock = t.clock;
      cluster = no_cluster;
      controls = t.controls ∷ [];
      mix_bits = [];
      attributes = 0;
    }

-- 4.7.2.6: its cluster is its own
abbrev pub mixer : MixerFields → Entity
mixer m =
    record {
      id = m.id;
      kind = kind.Mixer;
      terminal_type = 0;
      sources = m.sources;
      clock = 0;
      cluster = record { channels = m.channels; locations = m.locations; names = m.names };
      controls = m.controls ∷ [];
      mix_bits = m.mix_bits;
      attributes = 0;
    }

-- 4.7.2.7
abbrev pub selector : SelectorFields → Entity
selector s =
    record {
      id = s.id;
      kind = kind.Selector;
      terminal_type = 0;
      sources = s.sources;
      clock = 0;
      cluster = no_cluster;
      controls = s.controls ∷ [];
      mix_bits = [];
      attributes = 0;
    }

-- 4.7.2.8
abbrev pub feature : FeatureFields → Entity
feature f =
    record {
      id = f.id;
      kind = kind.Feature;
      terminal_type = 0;
      sources = f.source ∷ [];
      clock = 0;
      cluster = no_cluster;
      controls = f.words;
      mix_bits = [];
      attributes = 0;
    }

-- 4.7.2.10
abbrev pub effect : EffectFields → Entity
effect e =
    record {
      id = e.id;
      kind = kind.Effect;
      terminal_type = 0;
      sources = e.source ∷ [];
      clock = 0;
      cluster = no_cluster;
      controls = e.words;
      mix_bits = [];
      attributes = 0;
    }

-- the entity that a block describes, if it describes one
unfoldable pub entity_of : block.Block → Option Entity
entity_of (row.ClockSource c) = Some (clock_source c)
entity_of (row.ClockSelector c) = Some (clock_selector c)
entity_of (row.ClockMultiplier c) = Some (clock_multiplier c)
entity_of (row.InputTerminal t) = Some (input_terminal t)
entity_of (row.OutputTerminal t) = Some (output_terminal t)
entity_of (row.Mixer m) = Some (mixer m)
entity_of (row.Selector s) = Some (selector s)
entity_of (row.Feature f) = Some (feature f)
entity_of (row.Effect e) = Some (effect e)
entity_of (row.Configuration _) = None
entity_of (row.Association _) = None
entity_of (row.Interface _) = None
entity_of (row.Endpoint _) = None
entity_of (row.Header _) = None
entity_of (row.General _) = None
entity_of (row.TypeOne _) = None
entity_of (row.Extra _) = None
entity_of (row.ClassEndpoint _) = None
entity_of (row.Foreign _) = None

-- the entities of the blocks, in block order
abbrev pub entities_of : List block.Block → List Entity
entities_of blocks = filter_map entity_of blocks
