-- The numbers of a function's interfaces are bytes, and a streaming interface has at most 16 settings.
use Rattle.std.proofs.Common.{◌≡◌, ◌∙◌, sym, ap, arith, ◌<◌, ◌≤◌, ◌==◌, Bool, true, false, cond, if◌then◌else◌, List, [], ◌∷◌, Option, Some, None, length, get_or, slice_get}
use Rattle.std.specs.Prelude.{nat_lt, unwrap_or}
use Rattle.std.specs.List.{All, cons_option, filter_map}
use Rattle.std.specs.Option.{option_map_or}
use Rattle.std.proofs.lemmas.Bool.{ltb-false, or_parts}
use Rattle.std.proofs.lemmas.List.Elements.{All-nil, All-cons}
use Rattle.uac_descriptor.specs.Classes.{is_control_interface, is_streaming_interface}
use Rattle.uac_descriptor.specs.Contexts.{EachIn, context_after}
use Rattle.uac_descriptor.specs.WellFormed.{IsWellFormed}
use Rattle.uac_descriptor.specs.declared.context.Context.{Context}
use Rattle.uac_descriptor.specs.declared.block.Block as block
use Rattle.uac_descriptor.specs.declared.block.Block.TheVariants as row
use Rattle.uac_entities.specs.EntitySettings.{declared_setting_at, declared_setting_of, declared_settings}
use Rattle.uac_entities.specs.EntityInterfaces.{streaming_interface_at, streaming_interface_of}
use Rattle.uac_entities.specs.declared.settings.DeclaredSetting.{DeclaredSetting}
use Rattle.uac_entities.specs.declared.entity.Entity.{Entity}
use Rattle.uac_entities.specs.declared.stream.StreamInterface.{StreamInterface}
use Rattle.uac_topology_rules.specs.RuleFaults.{of_interface}
use Rattle.uac_topology_rules.specs.Rules.{at_stream, exceeds}
use Rattle.uac_topology.specs.Topology.{control_number, first_given}
use Rattle.uac_topology.proofs.FunctionKeptRangeLemmas.{got_at}
use Rattle.uac_topology.proofs.TopologyRuleLemmas.{no_interface}

abbrev HasSmallNumber : StreamInterface → Type 0
HasSmallNumber s = s.number < 256

module _ (es : List Entity) (whole : List DeclaredSetting) where
  abbrev streams_from : List block.Block → List StreamInterface
  streams_from blocks = filter_map (streaming_interface_at es whole) (declared_settings blocks)

  pub small_streams : (context : Context) (blocks : List block.Block) → EachIn IsWellFormed context blocks → All HasSmallNumber (streams_from blocks)
  unfolding declared_settings declared_setting_at streaming_interface_at streaming_interface_of
  small_streams context [] each = All-nil HasSmallNumber
  small_streams context (row.Interface i ∷ blocks) (here, rest) =
      by (is_streaming_interface i) (small_streams (context_after context (row.Interface i)) blocks rest)
    where
      by_setting : (t : Bool) → All HasSmallNumber (streams_from blocks)
          → All HasSmallNumber (cons_option (if t then Some (streaming_interface_of es whole i.number) else None) (streams_from blocks))
      by_setting true each = All-cons HasSmallNumber (streaming_interface_of es whole i.number) (streams_from blocks) here each
      by_setting false each = each

      by : (t : Bool) → All HasSmallNumber (streams_from blocks)
          → All HasSmallNumber (filter_map (streaming_interface_at es whole) (cons_option (cond t (Some (declared_setting_of i blocks)) None) (declared_settings blocks)))
      by true each = by_setting (i.setting == 0) each
      by false each = each
  small_streams context (b ∷ blocks) (here, rest) = small_streams (context_after context b) blocks rest

pub small_control : (context : Context) (blocks : List block.Block) → EachIn IsWellFormed context blocks → first_given control_number blocks < 256
unfolding control_number
small_control context [] each = omega arith
small_control context (row.Interface i ∷ blocks) (here, rest) =
    by (is_control_interface i) (small_control (context_after context (row.Interface i)) blocks rest)
  where
    by : (c : Bool) → first_given control_number blocks < 256
        → unwrap_or (slice_get (cons_option (cond c (Some i.number) None) (filter_map control_number blocks)) 0) 0 < 256
    by true later = here
    by false later = later
small_control context (b ∷ blocks) (here, rest) = small_control (context_after context b) blocks rest

pub few_settings : (ss : List StreamInterface) → of_interface 14 ss exceeds ≡ None → All (λ s. length s.settings ≤ 16) ss
unfolding exceeds at_stream
few_settings ss none k d below =
    ltb-false 16 (length (get_or ss k d).settings)
    (ap (λ (o : Option StreamInterface). option_map_or (λ s. nat_lt 16 (length s.settings)) o false) (sym (got_at ss k d below))
    ∙ (or_parts (nat_lt 7 k) (at_stream (λ s. nat_lt 16 (length s.settings)) false ss k) (no_interface 14 ss exceeds none k below)).1)
