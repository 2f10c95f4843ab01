-- The rules, each a test of the entity, or of the streaming interface, at an index. A test may rely on the rules of
-- lesser number: it is judged only where they hold.
use Rattle.std.specs.Prelude.{ℕ, ◌+◌, ◌*◌, ◌/◌, Bool, true, false, ◌==◌, ◌&&◌, ◌||◌, not, nat_lt, if◌then◌else◌, List, Option, Some, None}
use Rattle.std.specs.Prelude.{length, take, slice_get, is_none, count_ones}
use Rattle.std.specs.List.{list_any}
use Rattle.std.specs.Option.{option_map_or}
use Rattle.uac_topology_rules.specs.Walk.{has_walk}
use Rattle.uac_descriptor.specs.Endpoints.{transfer_type, usage_type}
use Rattle.uac_descriptor.specs.declared.standard.Endpoint.{Endpoint}
use Rattle.uac_entities.specs.EntityInterfaces.{links_of}
use Rattle.uac_entities.specs.declared.settings.DeclaredSetting.{DeclaredSetting}
use Rattle.uac_descriptor.specs.Standard.{USB_STREAMING}
use Rattle.uac_entities.specs.declared.entity.Entity.{Entity}
use Rattle.uac_entities.specs.declared.entity.EntityKind.{EntityKind}
use Rattle.uac_entities.specs.declared.entity.EntityKind.TheVariants as kind
use Rattle.uac_entities.specs.declared.stream.StreamInterface.{StreamInterface}
use Rattle.uac_topology_rules.specs.Table.{at, first_index_of, kind_of}
use Rattle.uac_topology_rules.specs.Links.{is_clock, is_terminal, signal_sources, clock_sources, signal_links, clock_links}
use Rattle.uac_topology_rules.specs.Clusters.{cluster_of, has_own_cluster, pins, inputs, clocks_of}
use Rattle.uac_topology_rules.specs.Domains.{domains_of, names_new}

-- U1 (Audio Class 2.0, 4.7.2): an id is not 0
unfoldable pub breaks_u1 : List Entity → ℕ → Bool
breaks_u1 entities index = (at entities index).id == 0

-- U2 (Audio Class 2.0, 3.13): an id is of no earlier entity
unfoldable pub breaks_u2 : List Entity → ℕ → Bool
breaks_u2 entities index = list_any (λ e. e.id == (at entities index).id) (take index entities)

-- U3 (Audio Class 2.0, 4.7.2.5 to 4.7.2.10): a signal source is an entity
unfoldable pub breaks_u3 : List Entity → ℕ → Bool
breaks_u3 entities index = list_any (λ id. is_none (kind_of entities id)) (signal_sources (at entities index))

abbrev pub is_output : EntityKind → Bool
is_output kind.ClockSource = false
is_output kind.ClockSelector = false
is_output kind.ClockMultiplier = false
is_output kind.InputTerminal = false
is_output kind.OutputTerminal = true
is_output kind.Mixer = false
is_output kind.Selector = false
is_output kind.Feature = false
is_output kind.Effect = false

-- a clock entity and an output terminal put out no signal
abbrev pub is_silent : Option EntityKind → Bool
is_silent None = false
is_silent (Some k) = is_clock k || is_output k

-- U4 (Audio Class 2.0, 3.13.2 and 3.13.10 to 3.13.12): a signal source is neither a clock entity nor an output terminal
unfoldable pub breaks_u4 : List Entity → ℕ → Bool
breaks_u4 entities index = list_any (λ id. is_silent (kind_of entities id)) (signal_sources (at entities index))

abbrev pub is_some_clock : Option EntityKind → Bool
is_some_clock None = false
is_some_clock (Some k) = is_clock k

-- U5 (Audio Class 2.0, 4.7.2.2 to 4.7.2.5): a terminal's clock and a clock entity's sources are clock entities
unfoldable pub breaks_u5 : List Entity → ℕ → Bool
breaks_u5 entities index =
    (is_terminal (at entities index).kind && not (is_some_clock (kind_of entities (at entities index).clock)))
    || list_any (λ id. not (is_some_clock (kind_of entities id))) (clock_sources (at entities index))

-- U6 (profile): signal source links come round from no entity. A walk of as many links as there are entities is the
-- test; the law `WalkRulesNameCycles` says that it finds this and nothing else
unfoldable pub breaks_u6 : List Entity → ℕ → Bool
breaks_u6 entities index = has_walk (signal_links entities) (length entities) index

-- U7 (profile): the same for clock source links
unfoldable pub breaks_u7 : List Entity → ℕ → Bool
breaks_u7 entities index = has_walk (clock_links entities) (length entities) index

-- U8 (Audio Class 2.0, 4.1; profile: at most 32, and all 32 bits count alike): a cluster has channels, and no more
-- locations than channels
unfoldable pub breaks_u8 : List Entity → ℕ → Bool
breaks_u8 entities index =
    let e = at entities index in
    let c = e.cluster in
    has_own_cluster e.kind && (c.channels == 0 || (nat_lt 32 c.channels || nat_lt c.channels (count_ones c.locations)))

-- the least number of bytes with so many bits
abbrev pub bytes_for : ℕ → ℕ
bytes_for bits = (bits + 7) / 8

abbrev pub wrong_size : EntityKind → Bool → Bool → Bool → Bool
wrong_size kind.ClockSource bitmap words more = false
wrong_size kind.ClockSelector bitmap words more = false
wrong_size kind.ClockMultiplier bitmap words more = false
wrong_size kind.InputTerminal bitmap words more = false
wrong_size kind.OutputTerminal bitmap words more = false
wrong_size kind.Mixer bitmap words more = not bitmap
wrong_size kind.Selector bitmap words more = false
wrong_size kind.Feature bitmap words more = not words
wrong_size kind.Effect bitmap words more = not (words || more)

-- U9 (Audio Class 2.0, 4.7.2.6 and 4.7.2.8; profile: the effect unit): the bitmap of a mixer has the least number of bytes
-- for its nodes, a feature has a word for the master and each channel, and an effect has one more at most
unfoldable pub breaks_u9 : List Entity → ℕ → Bool
breaks_u9 entities index =
    let e = at entities index in
    let channels = (cluster_of entities index).channels in
    wrong_size e.kind (length e.mix_bits == bytes_for (inputs entities index * channels))
    (length e.controls == channels + 1) (length e.controls == channels + 2)

abbrev pub is_selector : EntityKind → Bool
is_selector kind.ClockSource = false
is_selector kind.ClockSelector = false
is_selector kind.ClockMultiplier = false
is_selector kind.InputTerminal = false
is_selector kind.OutputTerminal = false
is_selector kind.Mixer = false
is_selector kind.Selector = true
is_selector kind.Feature = false
is_selector kind.Effect = false

-- U10 (Audio Class 2.0, 3.13.4 and 4.7.2.7): the pins of a selector have as many channels as its first
unfoldable pub breaks_u10 : List Entity → ℕ → Bool
breaks_u10 entities index =
    is_selector (at entities index).kind
    && list_any (λ n. not (n == (cluster_of entities index).channels)) (pins entities index)

-- U11 (profile): an output terminal has the clock of each input terminal behind it
unfoldable pub breaks_u11 : List Entity → ℕ → Bool
breaks_u11 entities index =
    is_output (at entities index).kind
    && list_any (λ c. not (c == (at entities index).clock)) (clocks_of entities index)

abbrev pub too_large : EntityKind → Bool → Bool → Bool
too_large kind.ClockSource channels nodes = false
too_large kind.ClockSelector channels nodes = false
too_large kind.ClockMultiplier channels nodes = false
too_large kind.InputTerminal channels nodes = false
too_large kind.OutputTerminal channels nodes = false
too_large kind.Mixer channels nodes = channels || nodes
too_large kind.Selector channels nodes = channels
too_large kind.Feature channels nodes = false
too_large kind.Effect channels nodes = false

-- the entity at an index is the terminal that first names the ninth different clock: those before it name eight, none
-- of which is its own
unfoldable pub names_ninth : List Entity → ℕ → Bool
names_ninth entities index =
    let before = domains_of (take index entities) in
    names_new before (at entities index) && length before == 8

-- U14 (profile), of an entity: at most 256 nodes of a mixer, at most 256 input channels of a mixer or a selector, and
-- no ninth clock
unfoldable pub breaks_u14 : List Entity → ℕ → Bool
breaks_u14 entities index =
    let e = at entities index in
    too_large e.kind (nat_lt 256 (inputs entities index)) (nat_lt 256 (inputs entities index * (cluster_of entities index).channels))
    || names_ninth entities index

-- the streaming interface at an index
unfoldable pub at_stream : {X : Type 0} → (StreamInterface → X) → X → List StreamInterface → ℕ → X
at_stream f none streams index = option_map_or f (slice_get streams index) none

abbrev pub is_usb_terminal : Entity → Bool
is_usb_terminal e = is_terminal e.kind && e.terminal_type == USB_STREAMING

-- the entity with an id is a USB streaming terminal
unfoldable pub is_usb : List Entity → ℕ → Bool
is_usb entities id = option_map_or (λ index. is_usb_terminal (at entities index)) (first_index_of entities id) false

-- U12 (Audio Class 2.0, 4.9.2; profile: one terminal each): a link is to a USB streaming terminal, the settings of an
-- interface have one link, and no earlier interface has it
unfoldable pub breaks_u12 : List Entity → List StreamInterface → ℕ → Bool
breaks_u12 entities streams index =
    at_stream (λ s.
    list_any (λ l. not (is_usb entities l && l == s.terminal)) (links_of s.settings)
    || (not (s.terminal == 0) && list_any (λ d. d.terminal == s.terminal) (take index streams))) false streams index

-- an isochronous endpoint of this direction, bit 7 of the address being 1 for IN
abbrev pub is_isochronous_to : Bool → Endpoint → Bool
is_isochronous_to out e = transfer_type e.attributes == 1 && (if out then nat_lt e.address 128 else not (nat_lt e.address 128))

-- an endpoint of data, or of implicit feedback data
abbrev pub carries_data : Bool → Endpoint → Bool
carries_data out e = is_isochronous_to out e && (usage_type e.attributes == 0 || usage_type e.attributes == 2)

-- an endpoint of feedback
abbrev pub carries_feedback : Bool → Endpoint → Bool
carries_feedback out e = is_isochronous_to out e && usage_type e.attributes == 1

-- the endpoints of a setting are not those that it may have
unfoldable pub is_wrong : Bool → DeclaredSetting → Bool
is_wrong out a =
    not (a.endpoint_count == a.endpoints)
    || ((a.setting.number == 0 && not (a.endpoints == 0))
    || (option_map_or (λ e. not (carries_data out e)) a.setting.first false
    || option_map_or (λ e. not (carries_feedback (not out) e)) a.setting.second false))

-- U13 (Audio Class 2.0, 4.10; USB 2.0, 9.6.5 and 9.6.6): each setting has as many endpoints as it says, setting 0 has
-- none, the first carries data in the terminal's direction, the second feedback in the other
unfoldable pub breaks_u13 : List DeclaredSetting → List StreamInterface → ℕ → Bool
breaks_u13 all streams index =
    at_stream (λ s. list_any (λ a. a.interface == s.number && is_wrong s.out a) all) false streams index

-- U14 (profile), of a streaming interface: at most eight, and at most 16 settings of each
unfoldable pub exceeds : List StreamInterface → ℕ → Bool
exceeds streams index = nat_lt 7 index || at_stream (λ s. nat_lt 16 (length s.settings)) false streams index
