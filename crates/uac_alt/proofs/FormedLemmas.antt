-- The streams of a sound function have the numbers of a format.
use Rattle.std.proofs.Common.{◌≡◌, sym, subst, refl, ℕ, ◌≤◌, ◌==◌, true, false, Option, Some, arith}
use Rattle.std.specs.List.{All, find}
use Rattle.std.specs.Option.{option_map_or}
use Rattle.std.proofs.lemmas.Bool.{and_parts}
use Rattle.uac_descriptor.specs.declared.streaming.General.{General}
use Rattle.uac_entities.specs.EntityInterfaces.{channels_of, entity_by_id}
use Rattle.uac_entities.specs.declared.entity.Entity.{Entity}
use Rattle.uac_entities.specs.declared.entity.EntityKind.{EntityKind}
use Rattle.uac_entities.specs.declared.entity.EntityKind.TheVariants as kind
use Rattle.uac_entities.specs.declared.stream.Setting.{Setting}
use Rattle.uac_entities.specs.declared.stream.StreamInterface.{StreamInterface}
use Rattle.uac_pcm.specs.Frames.{IsFormat}
use Rattle.uac_topology_rules.specs.Links.{is_clock, is_terminal}
use Rattle.uac_topology.specs.Function.{FunctionFields}
use Rattle.uac_topology.specs.FunctionKept.{IsLink}
use Rattle.uac_topology.specs.Topology.{IsSoundFunction}
use Rattle.uac_topology.proofs.FunctionKeptChannelLemmas.{have_channels}
use Rattle.uac_topology.proofs.FunctionKeptLinkLemmas.{are_links}
use Rattle.uac_topology.proofs.FunctionKeptRangeLemmas.{in_range}
use Rattle.uac_alt.specs.Formed.{HasFormat}
use Rattle.uac_alt.specs.AltStreams.{StreamFields, linked_channels, stream_of}
use Rattle.uac_alt.proofs.AltStreamsLemmas.{all_found, parts_of, ran_of, range_at}

no_clock : (k : EntityKind) → is_terminal k ≡ true → is_clock k ≡ false
no_clock kind.InputTerminal is = refl
no_clock kind.OutputTerminal is = refl
no_clock kind.ClockSource is = absurd (cc)
no_clock kind.ClockSelector is = absurd (cc)
no_clock kind.ClockMultiplier is = absurd (cc)
no_clock kind.Mixer is = absurd (cc)
no_clock kind.Selector is = absurd (cc)
no_clock kind.Feature is = absurd (cc)
no_clock kind.Effect is = absurd (cc)

-- a link to a terminal of a sound function brings its channels
linked_width : (function : FunctionFields) (s : StreamInterface) (link : ℕ) → IsSoundFunction function → IsLink function.entities s.terminal link
    → (1 ≤ linked_channels function s) × (linked_channels function s ≤ 32)
unfolding linked_channels channels_of entity_by_id
linked_width function s link sound is =
    subst (λ (o : Option Entity). (1 ≤ option_map_or (λ e. e.cluster.channels) o 0) × (option_map_or (λ e. e.cluster.channels) o 0 ≤ 32)) (sym is.there)
    (all_found (λ (e : Entity). is_clock e.kind ≡ false → (1 ≤ e.cluster.channels) × (e.cluster.channels ≤ 32)) (λ e. e.id == s.terminal)
    function.entities is.entity (have_channels function sound) is.there (no_clock is.entity.kind (and_parts _ _ is.usb).0))

pub has_format : (function : FunctionFields) (interface number : ℕ) (s : StreamInterface) (setting : Setting) → IsSoundFunction function
    → find (λ c. c.number == interface) function.streams ≡ Some s → find (λ t. t.number == number) s.settings ≡ Some setting
    → HasFormat function s setting
has_format function interface number s setting sound carried set g f has_general has_type_one linked =
    let range = (range_at function interface number s setting (in_range function sound) carried set).format f has_type_one in
    let links =
    all_found (λ (c : StreamInterface). All (λ (t : Setting). (g : General) → t.general ≡ Some g → IsLink function.entities c.terminal g.link) c.settings)
    (λ c. c.number == interface) function.streams s (are_links function sound) carried in
    let link =
    all_found (λ (t : Setting). (g : General) → t.general ≡ Some g → IsLink function.entities s.terminal g.link) (λ t. t.number == number) s.settings setting
    links set g has_general in
    let width = linked_width function s g.link sound link in
    (omega (arith, linked, width.0), omega (arith, linked, width.1), range.slots.0, range.slots.1, range.fits.0, range.fits.1)

pub stream_format : (function : FunctionFields) (rate interface number : ℕ) (s : StreamFields) → IsSoundFunction function
    → stream_of function rate interface number ≡ Some s → IsFormat s.channels s.subslot s.bits
stream_format function rate interface number s sound is =
    let parts = parts_of function rate interface number s is in
    let ran = ran_of function parts.streaming_interface parts.setting parts.nominal parts.general parts.type_one parts.first parts.runs in
    subst (λ (t : StreamFields). IsFormat t.channels t.subslot t.bits) (sym parts.is)
    (has_format function interface number parts.streaming_interface parts.setting sound parts.carried parts.set parts.general parts.type_one
    parts.has_general parts.has_type_one ran.linked)
