-- Worked values of the definitions: two jacks, two features, a mixer, a selector and an effect.
use Rattle.std.proofs.Common.{◌≡◌, ◌&&◌, ℕ, eqb, if◌then◌else◌, ℤ, pos, negsuc, List, [], ◌∷◌, Some, None, refl}
use Rattle.uac_entities.specs.declared.entity.Cluster.{Cluster}
use Rattle.uac_entities.specs.declared.entity.Entity.{Entity}
use Rattle.uac_entities.specs.declared.entity.EntityKind.{EntityKind}
use Rattle.uac_entities.specs.declared.entity.EntityKind.TheVariants as kind
use Rattle.uac_gain.specs.Gain.{decibel_gain, raised_gain}
use Rattle.uac_topology_rules.specs.Links.{signal_sources}
use Rattle.uac_topology_rules.specs.Table.{at, index_of}
use Rattle.uac_graph.specs.GraphControls.{Controls}
use Rattle.uac_graph.specs.Meaning.{entity, frame_of, meaning, samples, samples_by}
use Rattle.uac_graph.specs.Needs.{depends_on, needed_units, reaches}

abbrev stereo : Cluster
stereo = record { channels = 2; locations = 3; names = 0 }

abbrev mono : Cluster
mono = record { channels = 1; locations = 0; names = 0 }

abbrev with : ℕ → EntityKind → List ℕ → ℕ → Cluster → Entity
with id k sources clock cluster =
    record { id = id; kind = k; terminal_type = 0; sources = sources; clock = clock; cluster = cluster; controls = []; mix_bits = []; attributes = 0 }

-- terminal 4 plays feature 6 of jack 5; terminal 7 plays effect 10 of selector 9, whose pins are feature 3 of jack 2, and mixer 8,
-- which hears jack 2 twice. Terminal 7 is of another clock
graph : List Entity
graph =
    with 1 kind.ClockSource [] 0 (record { channels = 0; locations = 0; names = 0 })
    ∷ with 2 kind.InputTerminal [] 11 stereo
    ∷ with 5 kind.InputTerminal [] 1 mono
    ∷ with 3 kind.Feature (2 ∷ []) 0 stereo
    ∷ with 6 kind.Feature (5 ∷ []) 0 mono
    ∷ with 4 kind.OutputTerminal (6 ∷ []) 1 mono
    ∷ with 8 kind.Mixer (2 ∷ 2 ∷ []) 0 stereo
    ∷ with 9 kind.Selector (3 ∷ 8 ∷ []) 0 stereo
    ∷ with 10 kind.Effect (9 ∷ []) 0 stereo
    ∷ with 7 kind.OutputTerminal (10 ∷ []) 11 stereo
    ∷ []

-- what the jacks give
given : ℤ → ℤ → ℤ → ℕ → List ℤ
given left right voice id = if eqb id 2 then left ∷ right ∷ [] else if eqb id 5 then voice ∷ [] else []

-- no control is held but that of one entity, selector and channel
unset : Controls
unset id selector channel = None

set : ℕ → ℕ → ℕ → ℤ → Controls → Controls
set i s c value others id selector channel = if eqb i id && eqb s selector && eqb c channel then Some value else others id selector channel

-- full volume
passed : meaning graph unset (given (pos 1) (negsuc 0) (pos 65536)) 4 ≡ pos 65536 ∷ []
unfolding graph unset given meaning samples samples_by entity frame_of at index_of signal_sources decibel_gain raised_gain
passed = refl

-- one decibel down on the channel, and on the master too; each rounds down
channel_down : meaning graph (set 6 2 1 (negsuc 255) unset) (given (pos 1) (negsuc 0) (pos 65536)) 4 ≡ pos 58409 ∷ []
unfolding graph unset set given meaning samples samples_by entity frame_of at index_of signal_sources decibel_gain raised_gain
channel_down = refl

both_down : meaning graph (set 6 2 0 (negsuc 255) (set 6 2 1 (negsuc 255) unset)) (given (pos 1) (negsuc 0) (pos 65536)) 4 ≡ pos 52057 ∷ []
unfolding graph unset set given meaning samples samples_by entity frame_of at index_of signal_sources decibel_gain raised_gain
both_down = refl

least_down : meaning graph (set 6 2 1 (negsuc 255) unset) (given (pos 1) (negsuc 0) (negsuc 0)) 4 ≡ negsuc 0 ∷ []
unfolding graph unset set given meaning samples samples_by entity frame_of at index_of signal_sources decibel_gain raised_gain
least_down = refl

-- the master's mute silences all channels, a channel's its own alone
muted : meaning graph (set 3 1 0 (pos 1) unset) (given (pos 1) (negsuc 0) (pos 65536)) 7 ≡ pos 0 ∷ pos 0 ∷ []
unfolding graph unset set given meaning samples samples_by entity frame_of at index_of signal_sources decibel_gain raised_gain
muted = refl

right_muted : meaning graph (set 3 1 2 (pos 1) unset) (given (pos 1) (negsuc 0) (pos 65536)) 7 ≡ pos 1 ∷ pos 0 ∷ []
unfolding graph unset set given meaning samples samples_by entity frame_of at index_of signal_sources decibel_gain raised_gain
right_muted = refl

-- of the mixer's eight nodes, numbered by inputs, those of inputs 1 and 2 with output 2 and those of inputs 3 and 4 with output 1 are
-- closed
half_open : Controls
half_open = set 8 1 1 (negsuc 32767) (set 8 1 3 (negsuc 32767) (set 8 1 4 (negsuc 32767) (set 8 1 6 (negsuc 32767) unset)))

mixed : meaning graph half_open (given (pos 1000) (pos 1) (pos 65536)) 8 ≡ pos 1001 ∷ pos 1001 ∷ []
unfolding graph unset set half_open given meaning samples samples_by entity frame_of at index_of signal_sources decibel_gain raised_gain
mixed = refl

one_node_down : meaning graph (set 8 1 0 (negsuc 511) half_open) (given (pos 1000) (pos 1) (pos 65536)) 8 ≡ pos 795 ∷ pos 1001 ∷ []
unfolding graph unset set half_open given meaning samples samples_by entity frame_of at index_of signal_sources decibel_gain raised_gain
one_node_down = refl

-- the mixer's sum doesn't wrap
saturated_sum : meaning graph unset (given (pos 2147483647) (pos 1) (pos 65536)) 8 ≡ pos 2147483647 ∷ pos 2147483647 ∷ []
unfolding graph unset given meaning samples samples_by entity frame_of at index_of signal_sources decibel_gain raised_gain
saturated_sum = refl

-- the selector's second pin, and a pin that isn't there
second_pin : meaning graph (set 9 1 0 (pos 2) unset) (given (pos 3) (negsuc 4) (pos 65536)) 7 ≡ negsuc 3 ∷ negsuc 3 ∷ []
unfolding graph unset set given meaning samples samples_by entity frame_of at index_of signal_sources decibel_gain raised_gain
second_pin = refl

no_such_pin : meaning graph (set 9 1 0 (pos 3) unset) (given (pos 3) (negsuc 4) (pos 65536)) 7 ≡ pos 3 ∷ negsuc 4 ∷ []
unfolding graph unset set given meaning samples samples_by entity frame_of at index_of signal_sources decibel_gain raised_gain
no_such_pin = refl

-- what each domain needs
first_domain : needed_units graph 1 ≡ 6 ∷ []
unfolding graph needed_units depends_on reaches entity at index_of signal_sources
first_domain = refl

second_domain : needed_units graph 11 ≡ 3 ∷ 8 ∷ 9 ∷ 10 ∷ []
unfolding graph needed_units depends_on reaches entity at index_of signal_sources
second_domain = refl

no_domain : needed_units graph 2 ≡ []
unfolding graph needed_units depends_on reaches entity at index_of signal_sources
no_domain = refl
