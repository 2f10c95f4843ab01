-- The function of a generated script has one stream, to the device: interface 1, whose reports fall due each eight microframes; and one
-- clock, which is 1.
use Rattle.std.proofs.Common.{◌≡◌, sym, refl, ap, subst, ℕ, ◌<◌, ◌==◌, true, List, [], ◌∷◌, None, Some, arith}
use Rattle.std.specs.List.{All, find, list_all}
use Rattle.std.specs.Option.{option_and_then}
use Rattle.std.proofs.lemmas.List.Elements.{All-cons, All-nil}
use Rattle.std.proofs.lemmas.Option.{cond_some, option_and_then_some}
use Rattle.uac_clock.specs.Nominal.{nominal_of}
use Rattle.uac_clock.specs.declared.values.Nominal.{Nominal}
use Rattle.uac_descriptor.specs.Classes.{is_streaming_interface}
use Rattle.uac_entities.specs.Entities.{entity_of, entities_of}
use Rattle.uac_entities.specs.EntitySettings.{declared_settings, declared_setting_at, own_blocks, ends_setting, general_of, format_of, endpoint_of}
use Rattle.uac_entities.specs.EntityInterfaces.{link_of, entity_by_id, setting_on_interface}
use Rattle.uac_entities.specs.EntityInterfaces as entities
use Rattle.uac_entities.specs.declared.stream.Setting.{Setting}
use Rattle.uac_entities.specs.declared.stream.StreamInterface.{StreamInterface}
use Rattle.uac_topology_rules.specs.Domains.{clock_named, domains_of, each_once}
use Rattle.uac_topology.specs.Function.{FunctionFields}
use Rattle.uac_topology.specs.Topology.{streams_in}
use Rattle.uac_store.specs.declared.keys.Key.{Key}
use Rattle.uac_alt.specs.AltStreams.{StreamFields, stream_at, stream_of}
use Rattle.uac_request.specs.Requests.{rate_at}
use Rattle.uac_device.specs.DeviceWorld.{stream_in_setting}
use Rattle.uac_streaming.specs.StreamingWorld.{stream_index}
use Rattle.uac_streaming.proofs.AmongLemmas.{known_among}
use Rattle.uac_topology.specs.Description.{function_of}
use Rattle.uac_running.specs.RunningNames.{has_out, names_stream}
use Rattle.uac_promises.proofs.GeneratedDescriptorLemmas.{function_at}
use Rattle.uac_promises.proofs.GeneratedStreamLemmas.{HasOne}
use Rattle.uac_promises.proofs.DescriptorFunctionLemmas.{blocks_at}
use Rattle.uac_promises.proofs.PhraseLemmas.{no_packet, no_feedback}
use Rattle.uac_promises.proofs.ListRangeLemmas.{of_thirty}

-- its setting 0, and the one that plays
abbrev idle_setting : Setting
idle_setting = record { number = 0; general = None; format = None; first = None; second = None }

abbrev play_setting : Setting
play_setting =
    record {
      number = 1;
      general = Some (record { link = 2; controls = 5; format_type = 1; formats = 1; channels = 2; locations = 3; names = 0 });
      format = Some (record { subslot = 3; bits = 24 });
      first = Some (record { address = 1; attributes = 5; max_packet = 150; interval = 1 });
      second = Some (record { address = 129; attributes = 17; max_packet = 4; interval = 4 });
    }

abbrev pub the_stream : StreamInterface
the_stream = record { number = 1; terminal = 2; out = true; settings = idle_setting ∷ play_setting ∷ [] }

streams_read : (d : ℕ) → d < 30 → streams_in (blocks_at d) ≡ the_stream ∷ []
unfolding entity_of declared_settings declared_setting_at is_streaming_interface own_blocks ends_setting general_of format_of endpoint_of entities.streaming_interface_at entities.streaming_interface_of setting_on_interface link_of entity_by_id
streams_read d below = of_thirty (λ d. streams_in (blocks_at d)) (λ d. the_stream ∷ []) refl d below

pub streams_are : (d : ℕ) → d < 30 → (function_at d).streams ≡ the_stream ∷ []
unfolding function_of
streams_are d below = streams_read d below

domains_read : (d : ℕ) → d < 30 → domains_of (entities_of (blocks_at d)) ≡ 1 ∷ []
unfolding entity_of clock_named each_once domains_of
domains_read d below = of_thirty (λ d. domains_of (entities_of (blocks_at d))) (λ d. 1 ∷ []) refl d below

pub domains_are : (d : ℕ) → d < 30 → (function_at d).domains ≡ 1 ∷ []
unfolding function_of
domains_are d below = domains_read d below

-- ---- any function whose streaming interfaces are this one

module _ (function : FunctionFields) (streams : function.streams ≡ the_stream ∷ []) where
  small : All (λ s. s.number < 256) function.streams
  small = subst (All (λ s. s.number < 256)) (sym streams) (All-cons (λ s. s.number < 256) the_stream [] (omega arith) (All-nil (λ s. s.number < 256)))

  found : find (λ s. s.number == 1) function.streams ≡ Some the_stream
  found = ap (find (λ s. s.number == 1)) streams

  placed : stream_index function 1 ≡ Some 0
  placed = ap (λ (ss : List StreamInterface). stream_index (record function { streams = ss }) 1) streams

  with_parts : (nominal : Nominal) (stream : StreamFields) → stream_at function the_stream play_setting nominal ≡ Some stream → stream.period ≡ 8
  unfolding stream_at
  with_parts nominal stream made = let parts = cond_some _ _ _ made in sym (ap (λ (s : StreamFields). s.period) parts.1)

  of_setting : (rate : ℕ) (stream : StreamFields) → stream_of function rate 1 1 ≡ Some stream → stream.period ≡ 8
  unfolding stream_of
  of_setting rate stream made =
      let carried : option_and_then (λ s. option_and_then (λ setting. option_and_then (stream_at function s setting) (nominal_of rate)) (find (λ t. t.number == 1) s.settings)) (find (λ s. s.number == 1) (the_stream ∷ [])) ≡ Some stream =
      subst (λ (ss : List StreamInterface). option_and_then (λ s. option_and_then (λ setting. option_and_then (stream_at function s setting) (nominal_of rate)) (find (λ t. t.number == 1) s.settings)) (find (λ s. s.number == 1) ss) ≡ Some stream) streams made in
      option_and_then_some (stream_at function the_stream play_setting) (nominal_of rate) stream carried (λ nominal rated at. with_parts nominal stream at)

  eight : (controls : List (Key × _)) (stream : StreamFields) → stream_in_setting function controls 1 1 ≡ Some stream → stream.out ≡ true → stream.period ≡ 8
  unfolding stream_in_setting
  eight controls stream asked out =
      option_and_then_some _ (find (λ t. t.number == 1) function.streams) stream asked (λ t there at_rate.
      option_and_then_some _ (rate_at function controls t) stream at_rate (λ rate at of. of_setting rate stream of))

  pub has_one : HasOne function 0
  has_one = record { among = known_among function 1 the_stream small found; placed = placed; eight = eight }

  pub has_its_out : has_out function 1 ≡ true
  has_its_out = ap (λ (ss : List StreamInterface). has_out (record function { streams = ss }) 1) streams

  pub feedback_losses_placed : list_all (names_stream function) (no_feedback ∷ []) ≡ true
  feedback_losses_placed =
      ap (λ (ss : List StreamInterface). list_all (names_stream (record function { streams = ss })) (no_feedback ∷ [])) streams

  pub unpacked_placed : list_all (names_stream function) (no_packet ∷ []) ≡ true
  unpacked_placed =
      ap (λ (ss : List StreamInterface). list_all (names_stream (record function { streams = ss })) (no_packet ∷ [])) streams
