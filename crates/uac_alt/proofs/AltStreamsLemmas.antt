-- The parts of the setting that a stream is of, and what was asked of them.
use Rattle.std.proofs.Common.{◌≡◌, ◌∙◌, sym, subst, ℕ, ◌*◌, ◌≤◌, ◌==◌, Bool, true, false, List, Some, slice_get, inl, inr, eqb-true}
use Rattle.std.specs.List.{All, find, position_or_len}
use Rattle.std.proofs.lemmas.Bool.{and_parts, cases_Bool, leb-true}
use Rattle.std.proofs.lemmas.List.Folds.{find_at}
use Rattle.std.proofs.lemmas.Option.{cond_some, get_or_from_slice_get, option_and_then_some, slice_get_within}
use Rattle.uac_clock.specs.Nominal.{nominal_of}
use Rattle.uac_clock.specs.declared.values.Nominal.{Nominal}
use Rattle.uac_descriptor.specs.declared.standard.Endpoint.{Endpoint}
use Rattle.uac_descriptor.specs.declared.streaming.General.{General}
use Rattle.uac_descriptor.specs.declared.streaming.TypeOne.{TypeOne}
use Rattle.uac_entities.specs.declared.stream.Setting.{Setting}
use Rattle.uac_entities.specs.declared.stream.StreamInterface.{StreamInterface}
use Rattle.uac_topology.specs.Function.{FunctionFields}
use Rattle.uac_topology.specs.FunctionKept.{AreInRange, IsSettingInRange}
use Rattle.uac_alt.specs.AltStreams.{can_run, has_its_feedback, linked_channels, packet_room, period_of, stream_at, stream_of, stream_with, StreamFields}

-- what holds of each element holds of one that was found
pub all_found : {A : Type 0} (P : A → Type 0) (test : A → Bool) (xs : List A) (a : A) → All P xs → find test xs ≡ Some a → P a
all_found P test xs a each is =
    let index : ℕ = position_or_len test xs in
    let at : slice_get xs index ≡ Some a = sym (find_at test xs) ∙ is in
    subst P (get_or_from_slice_get xs index a a at) (each index a (slice_get_within xs index a at))

-- the numbers of a setting that was found are in range
pub range_at : (function : FunctionFields) (interface number : ℕ) (s : StreamInterface) (setting : Setting) → AreInRange function.streams
    → find (λ c. c.number == interface) function.streams ≡ Some s → find (λ t. t.number == number) s.settings ≡ Some setting
    → IsSettingInRange setting
range_at function interface number s setting ranges carried set =
    all_found IsSettingInRange (λ t. t.number == number) s.settings setting
    (all_found (λ (c : StreamInterface). All IsSettingInRange c.settings) (λ c. c.number == interface) function.streams s ranges carried) set

pub record Parts (function : FunctionFields) (rate interface number : ℕ) (stream : StreamFields) : Type 0 where
  pub above : (number == 0) ≡ false
  pub streaming_interface : StreamInterface
  pub carried : find (λ s. s.number == interface) function.streams ≡ Some streaming_interface
  pub setting : Setting
  pub set : find (λ t. t.number == number) streaming_interface.settings ≡ Some setting
  pub nominal : Nominal
  pub rated : nominal_of rate ≡ Some nominal
  pub general : General
  pub has_general : setting.general ≡ Some general
  pub type_one : TypeOne
  pub has_type_one : setting.format ≡ Some type_one
  pub first : Endpoint
  pub has_first : setting.first ≡ Some first
  pub runs : can_run function streaming_interface setting nominal general type_one first ≡ true
  pub is : stream ≡ stream_with streaming_interface setting nominal general type_one first

pub parts_of : (function : FunctionFields) (rate interface number : ℕ) (stream : StreamFields) → stream_of function rate interface number ≡ Some stream
    → Parts function rate interface number stream
unfolding stream_of stream_at
parts_of function rate interface number stream e = elim (cases_Bool (number == 0)) [
  | inl zero_th ↦ (let none = rw zero_th at e in absurd cc)
  | inr above ↦
      (let found = rw above at e in
      option_and_then_some _ (find (λ s. s.number == interface) function.streams) stream found (λ s carried in_setting.
      option_and_then_some _ (find (λ t. t.number == number) s.settings) stream in_setting (λ setting set at_rate.
      option_and_then_some (stream_at function s setting) (nominal_of rate) stream at_rate (λ nominal rated with_general.
      option_and_then_some _ setting.general stream with_general (λ g has_general with_type_one.
      option_and_then_some _ setting.format stream with_type_one (λ f has_type_one with_first.
      option_and_then_some _ setting.first stream with_first (λ first has_first ran.
      (let both = cond_some _ _ _ ran in
      record {
        above = above;
        streaming_interface = s;
        carried = carried;
        setting = setting;
        set = set;
        nominal = nominal;
        rated = rated;
        general = g;
        has_general = has_general;
        type_one = f;
        has_type_one = has_type_one;
        first = first;
        has_first = has_first;
        runs = both.0;
        is = sym both.1;
      })))))))
      )
]

-- what the test of a setting says
pub record Ran (function : FunctionFields) (s : StreamInterface) (setting : Setting) (nominal : Nominal) (g : General) (f : TypeOne) (first : Endpoint) : Type 0 where
  pub linked : g.channels ≡ linked_channels function s
  pub most : first.interval ≤ 4
  pub answers : has_its_feedback s.out first setting.second ≡ true
  pub fits : period_of first * nominal.hi * (g.channels * f.subslot) ≤ packet_room first

pub ran_of : (function : FunctionFields) (s : StreamInterface) (setting : Setting) (nominal : Nominal) (g : General) (f : TypeOne) (first : Endpoint)
    → can_run function s setting nominal g f first ≡ true → Ran function s setting nominal g f first
unfolding can_run
ran_of function s setting nominal g f first e =
    let pcm = and_parts _ _ e in
    let linked = and_parts _ _ pcm.1 in
    let carried = and_parts _ _ linked.1 in
    let feedback = and_parts _ _ carried.1 in
    let asynchronous = and_parts _ _ carried.0 in
    let at_most = and_parts _ _ asynchronous.1 in
    record {
      linked = eqb-true _ _ linked.0;
      most = leb-true _ _ at_most.0;
      answers = feedback.0;
      fits = leb-true _ _ feedback.1;
    }
