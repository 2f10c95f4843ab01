-- A run starts recorded, and what is asked of it between microframes leaves it so, control transfers too.
use Rattle.std.proofs.Common.{arith, ◌≡◌, ◌∙◌, sym, refl, ap, subst, ℕ, ◌≤◌, ◌==◌, ◌&&◌, not, Bool, true, false, if◌then◌else◌, ℤ, List, map, Option, Some, None}
use Rattle.std.specs.List.{find, list_any}
use Rattle.std.specs.Option.{option_and_then, option_map, option_map_or}
use Rattle.std.proofs.lemmas.Bool.{and_parts, eqb-true}
use Rattle.uac_clock.specs.Nominal.{nominal_of}
use Rattle.uac_rate.specs.Steadiness.{is_slight}
use Rattle.uac_entities.specs.declared.entity.Entity.{Entity}
use Rattle.uac_entities.specs.declared.stream.StreamInterface.{StreamInterface}
use Rattle.uac_topology.specs.Function.{FunctionFields}
use Rattle.uac_store.specs.declared.keys.Key.{Key}
use Rattle.uac_store.specs.Rates.{rate_of}
use Rattle.uac_graph.specs.Meaning.{entity}
use Rattle.uac_alt.specs.AltStreams.{StreamFields}
use Rattle.uac_alt.specs.AltSettings.{setting_of}
use Rattle.uac_alt.specs.declared.settings.InterfaceSetting.{InterfaceSetting}
use Rattle.uac_alt.proofs.AltStreamsPacketLemmas.{interval_fits}
use Rattle.uac_request.specs.declared.setup.Setup.{Setup}
use Rattle.uac_request.proofs.RequestsLemmas.{rates_stay}
use Rattle.uac_flow.specs.FlowStreams.{InStream, OutStream, started_in}
use Rattle.uac_host.specs.HostCalls.{with_stream}
use Rattle.uac_device.specs.InterfaceStreams.{in_from, out_from, streams_replaced_at}
use Rattle.uac_request.specs.Requests.{sets_interface}
use Rattle.uac_device.specs.DeviceWorld.{Domain, after_deviation, fresh, after_restart, stream_in_setting}
use Rattle.uac_device.specs.Linked.{IsOutput}
use Rattle.uac_device.proofs.LinkedLemmas.{linked}
use Rattle.uac_device.proofs.AltStreamsLemmas.{stream_fits}
use Rattle.uac_running.specs.RunningWorld.{RunningWorld, at_start, with_detail, with_deviation, with_samples_on, with_jack_tone, with_track}
use Rattle.uac_running.specs.RunningTransfers.{with_break}
use Rattle.uac_levels.specs.Life.{domain_id_on, domain_on}
use Rattle.uac_levels.specs.BandRun.{RunInBand}
use Rattle.uac_levels.specs.BandTransfers.{IsInSetting, IsSoundRun}
use Rattle.uac_levels.proofs.AltStreamsLemmas.{asked_of, parts_of}
use Rattle.uac_levels.proofs.BeginningsLemmas.{found_off, off, off_clock}
use Rattle.uac_levels.proofs.BandTransfersRunLemmas.{known_clock}
use Rattle.uac_levels.proofs.BandTransfersStartLemmas.{any_among, found_stream}
use Rattle.uac_levels.proofs.BandTransfersRequestLemmas.{after, asked_device, begun, done, given_then, held, seen, transferred_so}
use Rattle.uac_levels.proofs.BandTransfersLemmas.{other_setting, same_settings, setting_is, settings_are}
use Rattle.uac_levels.proofs.BandTransfersBandLemmas.{controls_same, found_domain, running_by, some_of}
use Rattle.uac_levels.specs.Recording.{AreRecorded, CallsStayRecorded, IsRecorded, RunsStartRecorded, TransfersStayRecorded}
use Rattle.uac_levels.proofs.RulesClockLemmas.{output_known}

-- ---- the start

pub runs_start_recorded : RunsStartRecorded
unfolding at_start fresh
runs_start_recorded descriptor function meters k i there = absurd (let none : None ≡ Some i = there in cc)

-- ---- another world by the same function and domains

module _ (r other : RunningWorld) (cs : List (Key × ℤ)) (ss : List InterfaceSetting) (outs : ℕ → Option OutStream) (ins : ℕ → Option InStream) where
  abbrev changed : RunningWorld
  changed = record other { device = record r.device { controls = cs; settings = ss; outs = outs; ins = ins } }

  abbrev entities : List Entity
  entities = r.device.function.entities

  stays_there : (k : ℕ) (i : InStream) (d : Domain) → IsRecorded r k i d → setting_of ss k ≡ setting_of r.device.settings k
      → rate_of entities cs d.id ≡ rate_of entities r.device.controls d.id → IsRecorded changed k i d
  stays_there k i d rec setting rate = record {
    comes = rec.comes;
    set = (rec.set.0, setting ∙ rec.set.1, rec.set.2);
    domain = rec.domain;
    nominal = rec.nominal;
    rate = ap (option_and_then nominal_of) rate ∙ rec.rate;
    serves = rec.serves;
    fits = rec.fits;
    gone = rec.gone;
    few = rec.few;
  }

-- a run is recorded by its device
carried : (r other : RunningWorld) → AreRecorded r → AreRecorded (record other { device = r.device })
carried r other recorded k i there =
    let rec = recorded k i there in
    (rec.0, stays_there r other r.device.controls r.device.settings r.device.outs r.device.ins k i rec.0 rec.1 refl refl)

-- ---- what is asked of it between microframes

module _ (clock : ℕ) (ppm : ℤ) (r : RunningWorld) where
  domain_off : (k : ℕ) → domain_on (with_deviation clock ppm r) k ≡ option_map (off clock ppm) (domain_on r k)
  unfolding with_deviation after_deviation
  domain_off k = by (domain_id_on r k)
    where
      by : (o : Option ℕ)
          → option_and_then (λ c. find (λ d. d.id == c) (map (off clock ppm) r.device.domains)) o
          ≡ option_map (off clock ppm) (option_and_then (λ c. find (λ d. d.id == c) r.device.domains) o)
      by None = refl
      by (Some c) = found_off clock ppm c r.device.domains

  recorded_off : (k : ℕ) (i : InStream) (d : Domain) → IsRecorded r k i d → IsRecorded (with_deviation clock ppm r) k i (off clock ppm d)
  unfolding with_deviation after_deviation
  recorded_off k i d rec = record {
    comes = rec.comes;
    set = rec.set;
    domain = domain_off k ∙ ap (option_map (off clock ppm)) rec.domain;
    nominal = rec.nominal;
    rate =
        ap (λ (n : ℕ). option_and_then nominal_of (rate_of r.device.function.entities r.device.controls n)) (off_clock clock ppm d) ∙ rec.rate;
    serves = rec.serves;
    fits = rec.fits;
    gone = rec.gone;
    few = rec.few;
  }

  deviation_keeps : AreRecorded r → AreRecorded (with_deviation clock ppm r)
  unfolding with_deviation after_deviation
  deviation_keeps recorded k i there =
      let rec = recorded k i there in
      (off clock ppm rec.0, recorded_off k i rec.0 rec.1)

pub calls_stay_recorded : CallsStayRecorded
unfolding with_jack_tone with_detail with_break with_samples_on with_track
calls_stay_recorded r recorded = record {
  tone = λ terminal tone. carried r (with_jack_tone terminal tone r) recorded;
  detail = λ level. carried r (with_detail level r) recorded;
  breaks = λ after. carried r (with_break after r) recorded;
  samples = λ interface samples. carried r (with_samples_on interface samples r) recorded;
  track = λ interface tone. carried r (with_track interface tone r) recorded;
  deviation = λ clock ppm slight. deviation_keeps clock ppm r recorded;
}

-- ---- a stream that starts

module _ (r : RunningWorld) (band : RunInBand r) (sound : IsSoundRun r) (k number : ℕ) (s : StreamFields)
    (is : stream_in_setting r.device.function r.device.controls k number ≡ Some s) (comes : s.out ≡ false) where
  -- its domain
  has_domain : (streaming_interface : StreamInterface) → find (λ c. c.number == k) r.device.function.streams ≡ Some streaming_interface
      → (d : Domain) × (find (λ d. d.id == (entity r.device.function.entities streaming_interface.terminal).clock) r.device.domains ≡ Some d)
  has_domain streaming_interface there =
      let function : FunctionFields = r.device.function in
      let asked = asked_of function r.device.controls k number s is in
      let fits = stream_fits function sound.sound asked.rate k number s asked.of in
      let same : fits.streaming_interface ≡ streaming_interface = let both : Some fits.streaming_interface ≡ Some streaming_interface = sym fits.there ∙ there in cc in
      let goes : streaming_interface.out ≡ false = ap (λ (c : StreamInterface). c.out) (sym same) ∙ sym fits.out ∙ comes in
      let some : 1 ≤ (entity function.entities streaming_interface.terminal).cluster.channels =
      subst (λ (c : StreamInterface). 1 ≤ (entity function.entities c.terminal).cluster.channels) same
      (subst (λ (n : ℕ). 1 ≤ n) fits.channels fits.some) in
      let output = found_stream (λ c. c.out ≡ false → IsOutput (entity function.entities c.terminal)) k function.streams streaming_interface (linked function sound.sound).outputs there in
      let clock : ℕ = (entity function.entities streaming_interface.terminal).clock in
      let known = output_known function sound.sound streaming_interface (output goes some) in
      some_of (find (λ (d : Domain). d.id == clock) r.device.domains)
      (known_clock clock r.device.domains
      ∙ ap (list_any (λ (n : ℕ). n == clock)) band.ordered.domains ∙ any_among clock function.domains known)

  starts_there : (other : RunningWorld) (cs : List (Key × ℤ)) (ss : List InterfaceSetting) (outs : ℕ → Option OutStream) (ins : ℕ → Option InStream)
      → setting_of ss k ≡ Some number
      → ((id : ℕ) → rate_of r.device.function.entities cs id ≡ rate_of r.device.function.entities r.device.controls id)
      → (d : Domain) × IsRecorded (changed r other cs ss outs ins) k (started_in s) d
  starts_there other cs ss outs ins setting rates =
      let function : FunctionFields = r.device.function in
      let asked = asked_of function r.device.controls k number s is in
      let fits = stream_fits function sound.sound asked.rate k number s asked.of in
      let parts = parts_of function asked.rate k number s asked.of in
      let clock : ℕ = (entity function.entities asked.streaming_interface.terminal).clock in
      let found = has_domain asked.streaming_interface asked.there in
      let d : Domain = found.0 in
      let here = found_domain (λ d. is_slight d.deviation ≡ true) clock r.device.domains d sound.slight found.1 in
      let on_clock : domain_id_on r k ≡ Some clock = ap (option_map (λ (c : StreamInterface). (entity function.entities c.terminal).clock)) asked.there in (
        d,
        record {
          comes = ap (λ (o : Option StreamInterface). option_map_or (λ c. not c.out) o false) fits.there ∙ ap not (sym fits.out ∙ comes);
          set = (number, setting, parts.setting);
          domain = ap (option_and_then (λ (c : ℕ). find (λ (d : Domain). d.id == c) r.device.domains)) on_clock ∙ found.1;
          nominal = fits.runs.rate;
          rate =
              ap (option_and_then nominal_of)
              (rates d.id ∙ ap (rate_of function.entities r.device.controls) here.1 ∙ asked.at)
              ∙ parts.nominal;
          serves = fits.runs.serves;
          fits = interval_fits function asked.rate k number s sound.sound asked.of;
          gone = omega arith;
          few = omega arith;
        },
      )

-- ---- a request

module _ (p : Setup) (bytes : List ℕ) (r : RunningWorld) (band : RunInBand r) (sound : IsSoundRun r) (recorded : AreRecorded r) where
  -- while a stream runs, no rate changes
  rates_last : (k : ℕ) → IsInSetting r k → (id : ℕ)
      → rate_of r.device.function.entities (after p bytes r).controls id ≡ rate_of r.device.function.entities r.device.controls id
  rates_last k set id = rates_stay r.device.function (held p bytes r) p bytes sound.store (running_by r.device.settings k set.0 set.1 set.2) id

  acts_alone : (other : RunningWorld) → (sets_interface p && done p bytes r) ≡ false → AreRecorded (record other { device = asked_device p bytes r })
  acts_alone other not_set k i there =
      let rec = recorded k i there in (
        rec.0,
        stays_there r other (after p bytes r).controls (after p bytes r).settings r.device.outs r.device.ins k i rec.0 rec.1
            (ap (λ (ss : List InterfaceSetting). setting_of ss k) (same_settings r.device.function (held p bytes r) p bytes not_set))
            (rates_last k rec.1.set rec.0.id),
      )

  module _ (other : RunningWorld) (set : (sets_interface p && done p bytes r) ≡ true) where
    abbrev outs_then : ℕ → Option OutStream
    outs_then = streams_replaced_at p.index (option_and_then out_from (begun p bytes r)) r.device.outs

    abbrev ins_then : ℕ → Option InStream
    ins_then = streams_replaced_at p.index (option_and_then in_from (begun p bytes r)) r.device.ins

    abbrev Then : ℕ → InStream → Type 0
    Then k i = (d : Domain) × IsRecorded (changed r other (after p bytes r).controls (after p bytes r).settings outs_then ins_then) k i d

    elsewhere : (k : ℕ) (i : InStream) → (k == p.index) ≡ false → r.device.ins k ≡ Some i → Then k i
    elsewhere k i apart there =
        let rec = recorded k i there in (
          rec.0,
          stays_there r other (after p bytes r).controls (after p bytes r).settings outs_then ins_then k i rec.0 rec.1
              (ap (λ (ss : List InterfaceSetting). setting_of ss k) (settings_are p bytes r set) ∙ other_setting k p.index p.value r.device.settings apart)
              (rates_last k rec.1.set rec.0.id),
        )

    here : (i : InStream) (b : Option StreamFields) → begun p bytes r ≡ b → option_and_then in_from b ≡ Some i → Then p.index i
    here i None is there = absurd (cc)
    here i (Some s) is there = by s.out refl there
      where
        by : (b : Bool) → s.out ≡ b → (if b then None else Some (started_in s)) ≡ Some i → Then p.index i
        by true goes none = absurd (cc)
        by false comes some =
            let same : started_in s ≡ i = cc in
            let asked = asked_of r.device.function r.device.controls p.index p.value s is in
            let setting = setting_is p bytes r set sound.settings asked.streaming_interface asked.there in
            let controls = controls_same r.device.function (held p bytes r) p bytes (and_parts (sets_interface p) (done p bytes r) set).0 in
            subst (Then p.index) same
            (starts_there r band sound p.index p.value s is comes other (after p bytes r).controls (after p bytes r).settings outs_then ins_then setting
            (λ id. ap (λ (cs : List (Key × ℤ)). rate_of r.device.function.entities cs id) controls))

    restarts : AreRecorded (record other { device = after_restart p.index (begun p bytes r) (asked_device p bytes r) })
    unfolding after_restart
    restarts k i there = by k i (k == p.index) refl there
      where
        by : (k : ℕ) (i : InStream) (b : Bool) → (k == p.index) ≡ b
            → (if b then option_and_then in_from (begun p bytes r) else r.device.ins k) ≡ Some i → Then k i
        by k i true same there = subst (λ (n : ℕ). Then n i) (sym (eqb-true k p.index same)) (here i (begun p bytes r) refl there)
        by k i false apart there = elsewhere k i apart there

-- ---- a transfer

pub transfers_stay_recorded : TransfersStayRecorded
transfers_stay_recorded p bytes r band sound recorded =
    transferred_so p bytes r AreRecorded
    (restarts p bytes r band sound recorded (record (seen p bytes r) { host = with_stream p.index (begun p bytes r) r.host; history = given_then p bytes r }))
    (acts_alone p bytes r band sound recorded (seen p bytes r)) (carried r (seen p bytes r) recorded)
