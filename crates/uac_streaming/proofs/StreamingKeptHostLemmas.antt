-- The host's stream of an interface: of one that the function has, and of one that it hasn't.
use Rattle.std.proofs.Common.{◌≡◌, ◌∙◌, sym, refl, ap, subst, arith, ℕ, ◌==◌, Bool, true, if◌then◌else◌, List, [], ◌∷◌, Option, Some, None, IfSome, is_some, inl, inr}
use Rattle.std.specs.List.{find}
use Rattle.std.specs.Option.{option_map}
use Rattle.std.proofs.lemmas.Bool.{cases_Bool, cases_eq}
use Rattle.uac_entities.specs.declared.stream.StreamInterface.{StreamInterface}
use Rattle.uac_topology.specs.Function.{FunctionFields, interface_in}
use Rattle.uac_rate.specs.Steadiness as steadiness
use Rattle.uac_alt.specs.AltStreams.{StreamFields, stream_fields}
use Rattle.uac_alt.specs.declared.values.Stream.{Stream}
use Rattle.uac_device.specs.DeviceKept as devices
use Rattle.uac_host.specs.HostWorld.{HostWorld, Pace}
use Rattle.uac_host.specs.HostCalls.{IsStreamOf, at_interface, with_stream}
use Rattle.uac_host.specs.HostKept as hosts
use Rattle.uac_host.specs.declared.host_streams.HostStream.{HostStream}
use Rattle.uac_host.proofs.HostKeptCallLemmas.{elsewhere, here}
use Rattle.uac_host.proofs.HostCallsStreamLemmas.{carried_by}
use Rattle.uac_streaming.specs.StreamingWorld.{StreamingWorld, after_following, given_at, stream_index}
use Rattle.uac_streaming.specs.StreamingKept.{StreamingFields, StreamingStands}

eq_of : (m n : ℕ) → (m == n) ≡ true → m ≡ n
eq_of m n e = grind arith

some_same : {A : Type 0} (x y : A) → Some x ≡ Some y → x ≡ y
some_same x y e = cc

-- the interface that was found has the number
pub found_number : (interface : ℕ) (streams : List StreamInterface) (s : StreamInterface) → find (λ t. t.number == interface) streams ≡ Some s → s.number ≡ interface
found_number interface [] s e = absurd cc
found_number interface (t ∷ ts) s e =
    elim (cases_Bool (t.number == interface)) [
      | inl same ↦ (let first = rw same at e in ap (λ (i : StreamInterface). i.number) (sym (some_same t s first)) ∙ eq_of t.number interface same)
      | inr other ↦ found_number interface ts s (rw other at e)
    ]

pub number_is : (function : FunctionFields) (interface number : ℕ) → Some number ≡ option_map (λ s. s.number) (interface_in function interface) → number ≡ interface
number_is function interface number e = by (interface_in function interface) refl where
  by : (o : Option StreamInterface) → interface_in function interface ≡ o → number ≡ interface
  by None none = absurd (let f : Some number ≡ None = e ∙ ap (option_map (λ s. s.number)) none in cc)
  by (Some s) found =
      some_same number s.number (e ∙ ap (option_map (λ s. s.number)) found) ∙ found_number interface function.streams s found

pub none_found : (function : FunctionFields) (interface : ℕ) → None ≡ option_map (λ (s : StreamInterface). s.number) (interface_in function interface) → interface_in function interface ≡ None
none_found function interface e = by (interface_in function interface) refl where
  by : (o : Option StreamInterface) → interface_in function interface ≡ o → interface_in function interface ≡ None
  by None none = none
  by (Some s) found = absurd (let f : None ≡ Some s.number = e ∙ ap (option_map (λ s. s.number)) found in cc)

-- no stream is of an interface that the function hasn't
pub none_begun : (function : FunctionFields) (interface : ℕ) (begun : Option Stream) → IfSome begun (λ s. IsStreamOf function interface (stream_fields s))
    → interface_in function interface ≡ None → option_map stream_fields begun ≡ None
none_begun function interface None of none = refl
none_begun function interface (Some s) of none =
    let carried = carried_by function interface (stream_fields s) of in absurd (let f : None ≡ Some carried.0 = sym none ∙ carried.1 in cc)

-- where there is no such interface, the host has nothing to stop
pub no_host_stream : (host_streams : List HostStream) (w : HostWorld) (interface : ℕ) → hosts.HostStands host_streams w → interface_in w.function interface ≡ None
    → hosts.HostStands host_streams (with_stream interface None w)
unfolding with_stream
no_host_stream host_streams w interface stands none = record {
  host_streams = λ k.
      elim (cases_eq k interface) [
        | inl same ↦
            (let nothing : interface_in w.function k ≡ None = ap (interface_in w.function) same ∙ none in
            stands.host_streams k ∙ ap (option_map (λ (s : StreamInterface). hosts.kept_stream w k)) nothing
            ∙ sym (ap (option_map (λ (s : StreamInterface). hosts.kept_stream (with_stream interface None w) k)) nothing))
        | inr other ↦
            stands.host_streams k
            ∙ ap (λ (p : Option Pace). option_map (λ (s : StreamInterface). hosts.kept_stream (record w { paces = λ (n : ℕ). p }) k) (interface_in w.function k))
            (sym (elsewhere interface None w.paces k other))
      ];
  whole = stands.whole;
  streams = λ k p runs.
      elim (cases_eq k interface) [
        | inl same ↦ absurd (let f : None ≡ Some p = sym (here interface None w.paces) ∙ ap (at_interface interface None w.paces) (sym same) ∙ runs in cc)
        | inr other ↦ stands.streams k p (sym (elsewhere interface None w.paces k other) ∙ runs)
      ];
}

stopped : (p : StreamingFields) (d : devices.DeviceFields) (w : StreamingWorld) (interface : ℕ) → StreamingStands p d w → hosts.HostStands p.host (with_stream interface None w.host)
    → StreamingStands p d (after_following interface None w)
unfolding after_following with_stream
stopped p d w interface stands of_host = record {
  device = stands.device;
  host = of_host;
  same = stands.same;
  order = stands.order;
  outs = stands.outs;
  ins = stands.ins;
  met = stands.met;
  steady = stands.steady;
}

pub followed_nowhere : (p : StreamingFields) (d : devices.DeviceFields) (w : StreamingWorld) (function : FunctionFields) (interface : ℕ) (begun : Option Stream) → StreamingStands p d w
    → w.device.function ≡ function → IfSome begun (λ s. IsStreamOf function interface (stream_fields s))
    → None ≡ option_map (λ (s : StreamInterface). s.number) (interface_in function interface) → StreamingStands p d (after_following interface (option_map stream_fields begun) w)
followed_nowhere p d w function interface begun stands same of none =
    let nothing = none_found function interface none in
    subst (λ (o : Option StreamFields). StreamingStands p d (after_following interface o w)) (sym (none_begun function interface begun of nothing))
    (stopped p d w interface stands
    (no_host_stream p.host w.host interface stands.host (ap (λ (f : FunctionFields). interface_in f interface) (stands.same ∙ same) ∙ nothing)))

-- one that it has
pub followed_so : (p : StreamingFields) (d : devices.DeviceFields) (w : StreamingWorld) (interface : ℕ) (begun : Option StreamFields) (b : Bool) → is_some begun ≡ b
    → StreamingStands p d (record w { host = with_stream interface begun w.host; history = if b then given_at (stream_index w.device.function interface) steadiness.with_restart_given w.history else w.history })
    → StreamingStands p d (after_following interface begun w)
unfolding after_following
followed_so p d w interface begun b is stands =
    subst (λ (b : Bool). StreamingStands p d (record w { host = with_stream interface begun w.host; history = if b then given_at (stream_index w.device.function interface) steadiness.with_restart_given w.history else w.history }))
    (sym is) stands

pub seen_some : (begun : Option Stream) → is_some (option_map stream_fields begun) ≡ is_some begun
seen_some None = refl
seen_some (Some s) = refl
