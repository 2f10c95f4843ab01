-- What is so of a stream that a setting of an interface can run.
use Rattle.std.proofs.Common.{arith, ◌≡◌, ◌∙◌, sym, refl, ap, subst, ℕ, zero, suc, ◌-◌, ◌^◌, ◌%◌, ◌≤◌, ◌==◌, nat_le, Bool, true, false, ℤ, List, Option, Some, None}
use Rattle.std.specs.List.{find}
use Rattle.std.specs.Option.{option_and_then}
use Rattle.std.proofs.lemmas.Bool.{and_parts, leb-true, true≢false}
use Rattle.std.proofs.lemmas.Option.{option_and_then_some}
use Rattle.uac_clock.specs.Nominal.{nominal_of}
use Rattle.uac_descriptor.specs.declared.standard.Endpoint.{Endpoint}
use Rattle.uac_entities.specs.EntityInterfaces.{entity_by_id}
use Rattle.uac_entities.specs.declared.entity.Entity.{Entity}
use Rattle.uac_entities.specs.declared.stream.StreamInterface.{StreamInterface}
use Rattle.uac_topology.specs.Function.{FunctionFields}
use Rattle.uac_store.specs.declared.keys.Key.{Key}
use Rattle.uac_store.specs.Rates.{rate_of}
use Rattle.uac_rate.specs.Levels.{AreIntervals}
use Rattle.uac_graph.specs.Meaning.{entity}
use Rattle.uac_alt.specs.AltStreams.{StreamFields, has_its_feedback, period_of, report_period, stream_of, stream_with}
use Rattle.uac_alt.proofs.AltStreamsLemmas as alt
use Rattle.uac_request.specs.Requests.{rate_at}
use Rattle.uac_device.specs.declared.device_stream.Port.{Port}
use Rattle.uac_device.specs.DeviceWorld.{stream_in_setting}
use Rattle.uac_device.proofs.DeviceStreamsLemmas.{port_named}
use Rattle.uac_device.proofs.AltStreamsLemmas.{interval}

-- ---- intervals

multiple : (a b : ℕ) → a ≤ b → b ≤ 3 → 2 ^ b % 2 ^ a ≡ 0
multiple zero zero less most = refl
multiple zero (suc zero) less most = refl
multiple zero (suc (suc zero)) less most = refl
multiple zero (suc (suc (suc zero))) less most = refl
multiple (suc zero) zero less most = absurd (omega arith)
multiple (suc zero) (suc zero) less most = refl
multiple (suc zero) (suc (suc zero)) less most = refl
multiple (suc zero) (suc (suc (suc zero))) less most = refl
multiple (suc (suc zero)) zero less most = absurd (omega arith)
multiple (suc (suc zero)) (suc zero) less most = absurd (omega arith)
multiple (suc (suc zero)) (suc (suc zero)) less most = refl
multiple (suc (suc zero)) (suc (suc (suc zero))) less most = refl
multiple (suc (suc (suc zero))) zero less most = absurd (omega arith)
multiple (suc (suc (suc zero))) (suc zero) less most = absurd (omega arith)
multiple (suc (suc (suc zero))) (suc (suc zero)) less most = absurd (omega arith)
multiple (suc (suc (suc zero))) (suc (suc (suc zero))) less most = refl
multiple zero (suc (suc (suc (suc b)))) less most = absurd (omega arith)
multiple (suc zero) (suc (suc (suc (suc b)))) less most = absurd (omega arith)
multiple (suc (suc zero)) (suc (suc (suc (suc b)))) less most = absurd (omega arith)
multiple (suc (suc (suc zero))) (suc (suc (suc (suc b)))) less most = absurd (omega arith)
multiple (suc (suc (suc (suc a)))) b less most = absurd (omega arith)

powers : (a b : ℕ) → a ≤ b → b ≤ 3 → AreIntervals (2 ^ a) (2 ^ b)
powers a b less most = record { serves = interval a (omega arith); reports = interval b most; multiple = multiple a b less most }

reports_later : (out : Bool) (first : Endpoint) (second : Option Endpoint) → has_its_feedback out first second ≡ true
    → out ≡ true → AreIntervals (period_of first) (report_period out second)
reports_later true first (Some e) answers is =
    let later = and_parts (nat_le first.interval e.interval) _ answers in
    let from : first.interval ≤ e.interval = leb-true first.interval e.interval later.0 in
    let to : e.interval ≤ 4 = leb-true e.interval 4 (and_parts (nat_le e.interval 4) _ later.1).0 in
    powers (first.interval - 1) (e.interval - 1) (omega (arith, from)) (omega (arith, to))
reports_later true first None answers is = absurd (true≢false (sym answers))
reports_later false first second answers is = absurd (true≢false (sym is))

-- ---- a stream of a setting

pub record StreamParts (function : FunctionFields) (rate interface number : ℕ) (stream : StreamFields) : Type 0 where
  pub setting : (number == 0) ≡ false
  pub nominal : nominal_of rate ≡ Some stream.nominal
  pub streaming_interface : StreamInterface
  pub there : find (λ s. s.number == interface) function.streams ≡ Some streaming_interface
  pub out : stream.out ≡ streaming_interface.out
  pub intervals : stream.out ≡ true → AreIntervals stream.service stream.period

pub parts_of : (function : FunctionFields) (rate interface number : ℕ) (stream : StreamFields)
    → stream_of function rate interface number ≡ Some stream → StreamParts function rate interface number stream
parts_of function rate interface number stream is =
    let parts = alt.parts_of function rate interface number stream is in
    let s = parts.streaming_interface in
    let first = parts.first in
    let ran = alt.ran_of function s parts.setting parts.nominal parts.general parts.type_one first parts.runs in
    let here : StreamParts function rate interface number (stream_with s parts.setting parts.nominal parts.general parts.type_one first) =
    record {
      setting = parts.above;
      nominal = parts.rated;
      streaming_interface = s;
      there = parts.carried;
      out = refl;
      intervals = reports_later s.out first parts.setting.second ran.answers;
    } in
    subst (StreamParts function rate interface number) (sym parts.is) here

-- ---- a stream that is asked for

pub record IsAsked (function : FunctionFields) (controls : List (Key × ℤ)) (interface number : ℕ) (stream : StreamFields) : Type 0 where
  pub streaming_interface : StreamInterface
  pub there : find (λ s. s.number == interface) function.streams ≡ Some streaming_interface
  pub rate : ℕ
  pub at : rate_of function.entities controls (entity function.entities streaming_interface.terminal).clock ≡ Some rate
  pub of : stream_of function rate interface number ≡ Some stream

rated_by : (function : FunctionFields) (controls : List (Key × ℤ)) (s : StreamInterface) (rate : ℕ) → rate_at function controls s ≡ Some rate
    → rate_of function.entities controls (entity function.entities s.terminal).clock ≡ Some rate
rated_by function controls s rate is = by (entity_by_id function.entities s.terminal) refl is
  where
    by : (o : Option Entity) → entity_by_id function.entities s.terminal ≡ o → option_and_then (λ e. rate_of function.entities controls e.clock) o ≡ Some rate
        → rate_of function.entities controls (entity function.entities s.terminal).clock ≡ Some rate
    by None none found = absurd (cc)
    by (Some e) some found =
        ap (λ (n : ℕ). rate_of function.entities controls n) (sym (ap (λ (p : Port). p.domain) (port_named function.entities s e some))) ∙ found

pub asked_of : (function : FunctionFields) (controls : List (Key × ℤ)) (interface number : ℕ) (stream : StreamFields)
    → stream_in_setting function controls interface number ≡ Some stream → IsAsked function controls interface number stream
unfolding stream_in_setting
asked_of function controls interface number stream asked =
    option_and_then_some _ (find (λ t. t.number == interface) function.streams) stream asked (λ t there at_rate.
    option_and_then_some _ (rate_at function controls t) stream at_rate (λ rate at of.
    record { streaming_interface = t; there = there; rate = rate; at = rated_by function controls t rate at; of = of }))
