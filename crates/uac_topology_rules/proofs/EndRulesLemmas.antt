-- Reading the streaming interface at an index.
use Rattle.std.proofs.Common.{◌≡◌, ◌<◌, ℕ, Bool, false, ◌||◌, ◌+◌, List, Option, Some, None, length, get_or, drop, refl, sym, ap, ◌∙◌}
use Rattle.std.specs.List.{list_any, cons_option}
use Rattle.std.specs.Option.{option_map_or}
use Rattle.uac_entities.specs.declared.stream.StreamInterface.{StreamInterface}
use Rattle.std.proofs.lemmas.List.{get_or_default}
use Rattle.std.proofs.lemmas.Option.{slice_get_read}
use Rattle.uac_entities.specs.declared.stream.Setting.{Setting}
use Rattle.uac_entities.specs.EntityInterfaces.{link_of, links_of}
use Rattle.uac_entities.proofs.EntitySettingsLemmas.{filter_map_at}
use Rattle.uac_topology_rules.specs.Rules.{at_stream}
use Rattle.uac_topology_rules.specs.Offenders.{number_at}

pub at_stream_is : {X : Type 0} (f : StreamInterface → X) (none : X) (streams : List StreamInterface) (k : ℕ) (s : StreamInterface) → k < length streams →
    s ≡ get_or streams k s → at_stream f none streams k ≡ f s
unfolding at_stream
at_stream_is f none streams k s below e = ap (λ (o : Option StreamInterface). option_map_or f o none) (slice_get_read streams (length streams) k s refl below e)

pub number_is : (streams : List StreamInterface) (k : ℕ) (s : StreamInterface) → k < length streams → s ≡ get_or streams k s → s.number ≡ number_at streams k
unfolding number_at
number_is streams k s below e = sym (ap (λ (o : Option StreamInterface). option_map_or (λ (x : StreamInterface). x.number) o 0) (slice_get_read streams (length streams) k s refl below e))

-- a test of what an option gives, and of the rest
pub any_given : {X : Type 0} (p : X → Bool) (o : Option X) (rest : List X) → list_any p (cons_option o rest) ≡ (option_map_or p o false || list_any p rest)
any_given p None rest = refl
any_given p (Some x) rest = refl

-- a setting of no fields, which stands for an index past the end
abbrev pub blank : Setting
blank = record { number = 0; general = None; format = None; first = None; second = None }

-- a test of the links of the settings from an index on
pub any_link_at : (p : ℕ → Bool) (settings : List Setting) (j : ℕ) → j < length settings →
    list_any p (links_of (drop j settings)) ≡ (option_map_or p (link_of (get_or settings j blank)) false || list_any p (links_of (drop (j + 1) settings)))
any_link_at p settings j below =
    ap (list_any p) (filter_map_at link_of settings j (get_or settings j blank) below (get_or_default settings j blank (get_or settings j blank) below))
    ∙ any_given p (link_of (get_or settings j blank)) (links_of (drop (j + 1) settings))
