-- A control transfer keeps a sound run in its bands.
use Rattle.std.proofs.Common.{arith, ◌≡◌, ◌∙◌, sym, refl, ap, subst, ℕ, ◌==◌, ◌&&◌, ◌||◌, not, Bool, true, false, if◌then◌else◌, cond, ℤ, List, [], ◌∷◌, length, Option, Some, None, is_some, inl, inr}
use Rattle.std.specs.List.{All, find, list_any, position, position_or_len}
use Rattle.std.specs.Option.{option_and_then, option_map, option_map_or}
use Rattle.std.proofs.lemmas.Bool.{and_parts, cases_lt, eqb-true, lt-ltb, true≢false}
use Rattle.std.proofs.lemmas.List.Elements.{All-head, All-tail}
use Rattle.std.proofs.lemmas.List.Folds.{find_at}
use Rattle.std.proofs.lemmas.Option.{cond_some, option_and_then_some, slice_get_past}
use Rattle.uac_clock.specs.Nominal.{nominal_of}
use Rattle.uac_rate.specs.Steadiness.{SteadyHistory, is_slight}
use Rattle.uac_rate.specs.Steadiness as steadiness
use Rattle.uac_entities.specs.declared.entity.Entity.{Entity}
use Rattle.uac_entities.specs.declared.stream.StreamInterface.{StreamInterface}
use Rattle.uac_topology.specs.Function.{FunctionFields}
use Rattle.uac_store.specs.declared.keys.Key.{Key}
use Rattle.uac_store.specs.Rates.{rate_of}
use Rattle.uac_graph.specs.Meaning.{entity}
use Rattle.uac_alt.specs.AltStreams.{StreamFields, stream_of}
use Rattle.uac_alt.specs.AltSettings.{is_running, setting_of, with_setting}
use Rattle.uac_alt.proofs.FormedLemmas.{stream_format}
use Rattle.uac_alt.specs.declared.settings.InterfaceSetting.{InterfaceSetting}
use Rattle.uac_request.specs.Requests.{RequestState, after_request, controls_set, first_broken, left_by, sets_cur, sets_interface}
use Rattle.uac_request.specs.declared.setup.Setup.{Setup}
use Rattle.uac_request.proofs.RequestsLemmas.{rates_stay}
use Rattle.uac_flow.specs.FlowStreams.{InStream, OutStream, started_out}
use Rattle.uac_host.specs.HostWorld.{Pace}
use Rattle.uac_host.specs.HostCalls.{at_interface, fresh_pace, with_stream}
use Rattle.uac_device.specs.InterfaceStreams.{in_from, out_from, streams_replaced_at}
use Rattle.uac_device.specs.DeviceWorld.{Domain, after_restart}
use Rattle.uac_streaming.specs.StreamingWorld.{given_at, goes_out, stream_index}
use Rattle.uac_running.specs.RunningWorld.{RunningWorld}
use Rattle.uac_levels.specs.Life.{Life, domain_id_on, domain_on, life_of}
use Rattle.uac_levels.specs.Bands.{started_life}
use Rattle.uac_levels.specs.Projection.{Runs}
use Rattle.uac_levels.specs.BandRun.{RunInBand, StreamInBand}
use Rattle.uac_levels.specs.BandTransfers.{IsSoundRun, TransfersKeepBands}
use Rattle.uac_levels.proofs.TellingTurnLemmas.{own_number}
use Rattle.uac_levels.proofs.ProjectionLifeLemmas.{mapped}
use Rattle.uac_levels.proofs.LifeTurnLemmas.{if_false, if_true, place_other}
use Rattle.uac_levels.proofs.BandsLemmas.{starts_in_band}
use Rattle.uac_levels.proofs.BeginningsLemmas.{carry}
use Rattle.uac_levels.proofs.AltStreamsLemmas.{IsAsked, asked_of, parts_of}
use Rattle.uac_levels.proofs.BandTransfersRequestLemmas.{after, asked_device, begun, done, given_then, held, seen, transferred_so}

-- ---- a life, by its parts

record HasLife (r : RunningWorld) (k : ℕ) (l : Life) (d : Domain) : Type 0 where
  out : r.device.outs k ≡ Some l.out
  pace : r.host.paces k ≡ Some l.pace
  domain : domain_on r k ≡ Some d
  steps : d.steps ≡ l.steps
  index : ℕ
  placed : stream_index r.device.function k ≡ Some index
  reports : r.history.feedback index ≡ l.reports

has_life : (r : RunningWorld) (k : ℕ) (l : Life) (d : Domain) → Runs r k l d → HasLife r k l d
unfolding life_of
has_life r k l d runs =
    option_and_then_some _ (r.device.outs k) l runs.life (λ out outs after_out.
    option_and_then_some _ (r.host.paces k) l after_out (λ pace paces after_pace.
    option_and_then_some _ (domain_on r k) l after_pace (λ d' domain after_domain.
    (let placed = mapped _ (stream_index r.device.function k) l after_domain in
    let one : d' ≡ d = let both : Some d' ≡ Some d = sym domain ∙ runs.domain in cc in
    record {
      out = outs ∙ ap (λ (m : Life). Some m.out) placed.2;
      pace = paces ∙ ap (λ (m : Life). Some m.pace) placed.2;
      domain = runs.domain;
      steps = sym (ap (λ (e : Domain). e.steps) one) ∙ ap (λ (m : Life). m.steps) placed.2;
      index = placed.0;
      placed = placed.1;
      reports = ap (λ (m : Life). m.reports) placed.2;
    }))))

lives : (r : RunningWorld) (k : ℕ) (l : Life) (d : Domain) → HasLife r k l d → life_of r k ≡ Some l
unfolding life_of
lives r k l d h =
    ap (option_and_then (λ out. option_and_then (λ pace. option_and_then (λ d. option_map (life out pace d) in_turn) at_domain) (r.host.paces k))) h.out
    ∙ ap (option_and_then (λ pace. option_and_then (λ d. option_map (life l.out pace d) in_turn) at_domain)) h.pace
    ∙ ap (option_and_then (λ d. option_map (life l.out l.pace d) in_turn)) h.domain
    ∙ ap (option_map (life l.out l.pace d)) h.placed
    ∙ ap (λ (steps : List ℕ). Some (record { out = l.out; pace = l.pace; steps = steps; reports = r.history.feedback h.index })) h.steps
    ∙ ap (λ (reports : List (List Bool)). Some (record l { reports = reports })) h.reports
  where
    life : OutStream → Pace → Domain → ℕ → Life
    life out pace d index = record { out = out; pace = pace; steps = d.steps; reports = r.history.feedback index }

    in_turn : Option ℕ
    in_turn = stream_index r.device.function k

    at_domain : Option Domain
    at_domain = domain_on r k

-- ---- what is found

pub found_domain : (P : Domain → Type 0) (clock : ℕ) (ds : List Domain) (d : Domain) → All P ds → find (λ d. d.id == clock) ds ≡ Some d
    → P d × (d.id ≡ clock)
found_domain P clock [] d all e = absurd (cc)
found_domain P clock (x ∷ xs) d all e = by (x.id == clock) refl e (found_domain P clock xs d (All-tail P x xs all))
  where
    by : (b : Bool) → (x.id == clock) ≡ b → cond b (Some x) (find (λ d. d.id == clock) xs) ≡ Some d
        → (find (λ d. d.id == clock) xs ≡ Some d → P d × (d.id ≡ clock)) → P d × (d.id ≡ clock)
    by true is found rest =
        let same : x ≡ d = cc in
        (subst P same (All-head P x xs all), ap (λ (e : Domain). e.id) (sym same) ∙ eqb-true x.id clock is)
    by false is found rest = rest found

pub some_of : {A : Type 0} (o : Option A) → is_some o ≡ true → (x : A) × (o ≡ Some x)
some_of None is = absurd (true≢false (sym is))
some_of (Some x) is = (x, refl)

found_index : (k : ℕ) (ss : List StreamInterface) (s : StreamInterface) → find (λ s. s.number == k) ss ≡ Some s
    → (index : ℕ) × (position (λ s. s.number == k) ss ≡ Some index)
found_index k ss s e = elim (cases_lt (position_or_len (λ (t : StreamInterface). t.number == k) ss) (length ss)) [
  | inl below ↦ (
    position_or_len (λ (t : StreamInterface). t.number == k) ss,
    ap (λ (b : Bool). cond b (Some (position_or_len (λ (t : StreamInterface). t.number == k) ss)) None)
        (lt-ltb (position_or_len (λ (t : StreamInterface). t.number == k) ss) (length ss) below),
  )
  | inr past ↦
      absurd (let none : None ≡ Some s = sym (slice_get_past ss (position_or_len (λ (t : StreamInterface). t.number == k) ss) past)
      ∙ sym (find_at (λ (t : StreamInterface). t.number == k) ss) ∙ e in cc)
]

-- some interface is in a setting other than 0
pub running_by : (settings : List InterfaceSetting) (k n : ℕ) → setting_of settings k ≡ Some n → (n == 0) ≡ false → is_running settings ≡ true
unfolding setting_of
running_by [] k n is other = absurd (cc)
running_by (s ∷ ss) k n is other = by (s.interface == k) is (running_by ss k n)
  where
    here : s.setting ≡ n → list_any (λ s. not (s.setting == 0)) (s ∷ ss) ≡ true
    here same =
        ap (λ (m : ℕ). not (m == 0) || list_any (λ s. not (s.setting == 0)) ss) same
        ∙ ap (λ (b : Bool). not b || list_any (λ s. not (s.setting == 0)) ss) other

    later : (b : Bool) → list_any (λ s. not (s.setting == 0)) ss ≡ true → (b || list_any (λ s. not (s.setting == 0)) ss) ≡ true
    later true rest = refl
    later false rest = rest

    by : (b : Bool) → option_map (λ s. s.setting) (cond b (Some s) (find (λ s. s.interface == k) ss)) ≡ Some n
        → (option_map (λ s. s.setting) (find (λ s. s.interface == k) ss) ≡ Some n → (n == 0) ≡ false → is_running ss ≡ true)
        → list_any (λ s. not (s.setting == 0)) (s ∷ ss) ≡ true
    by true found rest = here (let same : s.setting ≡ n = cc in same)
    by false found rest = later (not (s.setting == 0)) (rest found other)

-- ---- controls

-- a request that sets an interface leaves all controls as they are
pub controls_same : (function : FunctionFields) (held : RequestState) (p : Setup) (bytes : List ℕ) → sets_interface p ≡ true
    → (after_request function held p bytes).controls ≡ held.controls
unfolding after_request left_by
controls_same function held p bytes sets = by (is_some (first_broken function held p bytes)) (sets_cur p) not_cur
  where
    apart : (n : ℕ) → (n == 1) ≡ true → (n == 33) ≡ false
    apart n is = grind arith

    not_cur : sets_cur p ≡ false
    not_cur = ap (λ (b : Bool). b && p.request == 1) (apart p.request_type (and_parts (p.request_type == 1) (p.request == 11) sets).0)

    last : (d : Bool) → (if d then record held { settings = with_setting held.settings p.index p.value } else held).controls ≡ held.controls
    last true = refl
    last false = refl

    by : (b c : Bool) → c ≡ false
        → (if b then held
        else if c then record held { controls = controls_set function held p bytes }
        else if sets_interface p then record held { settings = with_setting held.settings p.index p.value }
        else held).controls ≡ held.controls
    by true c is = refl
    by false true is = absurd (true≢false is)
    by false false is = last (sets_interface p)

-- ---- another world by the same function, domains and tracks

module _ (r other : RunningWorld) (cs : List (Key × ℤ)) (ss : List InterfaceSetting) (outs : ℕ → Option OutStream) (ins : ℕ → Option InStream)
    (paces : ℕ → Option Pace) (given : SteadyHistory) where
  abbrev changed : RunningWorld
  changed = record other {
    device = record r.device { controls = cs; settings = ss; outs = outs; ins = ins };
    host = record r.host { paces = paces };
    history = given;
  }

  abbrev entities : List Entity
  entities = r.device.function.entities

  abbrev IsThere : ℕ → OutStream → Type 0
  IsThere k o = (l : Life) × (d : Domain) × (l.out ≡ o) × StreamInBand changed k l d

  stays_there : (k : ℕ) (l : Life) (d : Domain) → StreamInBand r k l d → outs k ≡ r.device.outs k → paces k ≡ r.host.paces k
      → ((index : ℕ) → stream_index r.device.function k ≡ Some index → given.feedback index ≡ r.history.feedback index)
      → rate_of entities cs d.id ≡ rate_of entities r.device.controls d.id → StreamInBand changed k l d
  stays_there k l d s out pace reports rate =
      let h = has_life r k l d s.runs in
      record {
        runs = record {
          out = s.runs.out;
          life = lives changed k l d (record {
            out = out ∙ h.out;
            pace = pace ∙ h.pace;
            domain = h.domain;
            steps = h.steps;
            index = h.index;
            placed = h.placed;
            reports = reports h.index h.placed ∙ h.reports;
          });
          domain = h.domain;
        };
        fed = record { same = s.fed.same; streams = s.fed.streams; format = s.fed.format; whole = s.fed.whole };
        band = s.band;
        rate = ap (option_and_then nominal_of) rate ∙ s.rate;
        slight = s.slight;
      }

  starts_there : (k number : ℕ) (s : StreamFields) → RunInBand r → IsSoundRun r → IsAsked r.device.function r.device.controls k number s
      → s.out ≡ true → outs k ≡ Some (started_out s) → paces k ≡ Some (fresh_pace s)
      → ((index : ℕ) → stream_index r.device.function k ≡ Some index → given.feedback index ≡ [] ∷ r.history.feedback index)
      → ((id : ℕ) → rate_of entities cs id ≡ rate_of entities r.device.controls id) → IsThere k (started_out s)
  starts_there k number s band sound asked goes out pace reports rates =
      let function : FunctionFields = r.device.function in
      let index = found_index k function.streams asked.streaming_interface asked.there in
      let clock : ℕ = (entity entities asked.streaming_interface.terminal).clock in
      let on_clock : domain_id_on r k ≡ Some clock = ap (option_map (λ (c : StreamInterface). (entity entities c.terminal).clock)) asked.there in
      let parts = parts_of function asked.rate k number s asked.of in
      let to_device : goes_out function k ≡ true = ap (λ (o : Option StreamInterface). option_map_or (λ c. c.out) o false) parts.there ∙ sym parts.out ∙ goes in
      let found = some_of (find (λ (d : Domain). d.id == clock) r.device.domains) (sound.clocked k clock to_device on_clock) in
      let d : Domain = found.0 in
      let here = found_domain (λ d. is_slight d.deviation ≡ true) clock r.device.domains d sound.slight found.1 in
      let domain : domain_on r k ≡ Some d = ap (option_and_then (λ (c : ℕ). find (λ (d : Domain). d.id == c) r.device.domains)) on_clock ∙ found.1 in
      let l : Life = started_life s d.steps (r.history.feedback index.0) in (
        l,
        d,
        refl,
        record {
          runs = record {
            out = to_device;
            life = lives changed k l d
                (record { out = out; pace = pace; domain = domain; steps = refl; index = index.0; placed = index.1; reports = reports index.0 index.1 });
            domain = domain;
          };
          fed = record {
            same = refl;
            streams = record {
              rate = asked.rate;
              setting = number;
              is = subst (λ (f : FunctionFields). stream_of f asked.rate k number ≡ Some s) (sym band.hosts) asked.of;
            };
            format = stream_format function asked.rate k number s sound.sound asked.of;
            whole = sound.whole k;
          };
          band = starts_in_band s d.steps (r.history.feedback index.0) (asked.rate, parts.nominal) (parts.intervals goes);
          rate = ap (option_and_then nominal_of) (rates d.id ∙ ap (rate_of entities r.device.controls) here.1 ∙ asked.at) ∙ parts.nominal;
          slight = here.0;
        },
      )

  changed_in_band : RunInBand r → ((k : ℕ) (o : OutStream) → outs k ≡ Some o → IsThere k o) → RunInBand changed
  changed_in_band band there = record {
    ordered = record { apart = band.ordered.apart; domains = band.ordered.domains; numbers = band.ordered.numbers };
    hosts = band.hosts;
    few = band.few;
    streams = there;
  }

-- ---- a request

module _ (p : Setup) (bytes : List ℕ) (r : RunningWorld) (band : RunInBand r) (sound : IsSoundRun r) where
  -- while a stream runs, no rate changes
  rates_last : (k : ℕ) (o : OutStream) → r.device.outs k ≡ Some o → (id : ℕ)
      → rate_of r.device.function.entities (after p bytes r).controls id ≡ rate_of r.device.function.entities r.device.controls id
  rates_last k o there id =
      let set = sound.running k o there in
      rates_stay r.device.function (held p bytes r) p bytes sound.store (running_by r.device.settings k set.0 set.1 set.2) id

  acts_alone : (other : RunningWorld) → RunInBand (record other { device = asked_device p bytes r; host = r.host; history = r.history })
  acts_alone other =
      changed_in_band r other (after p bytes r).controls (after p bytes r).settings r.device.outs r.device.ins r.host.paces r.history band (λ k o there.
      (let stream = band.streams k o there in (
        stream.0,
        stream.1,
        stream.2,
        stays_there r other (after p bytes r).controls (after p bytes r).settings r.device.outs r.device.ins r.host.paces r.history k stream.0 stream.1 stream.3 refl refl
            (λ index placed. refl) (rates_last k o there stream.1.id),
      )))

  pub reports_elsewhere : (k index : ℕ) → (k == p.index) ≡ false → stream_index r.device.function k ≡ Some index
      → (given_then p bytes r).feedback index ≡ r.history.feedback index
  reports_elsewhere k index other placed = by (is_some (begun p bytes r))
    where
      at : (o : Option ℕ) → stream_index r.device.function p.index ≡ o
          → (given_at o steadiness.with_restart_given r.history).feedback index ≡ r.history.feedback index
      at None there = refl
      at (Some j) there =
          if_false (index == j) _ (r.history.feedback index) (place_other k p.index index j r.device.function.streams other placed there)

      by : (b : Bool)
          → (if b then given_at (stream_index r.device.function p.index) steadiness.with_restart_given r.history else r.history).feedback index ≡ r.history.feedback index
      by true = at (stream_index r.device.function p.index) refl
      by false = refl

  reports_here : (s : StreamFields) (index : ℕ) → begun p bytes r ≡ Some s → stream_index r.device.function p.index ≡ Some index
      → (given_then p bytes r).feedback index ≡ [] ∷ r.history.feedback index
  reports_here s index is placed =
      ap (λ (o : Option StreamFields). (if is_some o then given_at (stream_index r.device.function p.index) steadiness.with_restart_given r.history else r.history).feedback index) is
      ∙ ap (λ (o : Option ℕ). (given_at o steadiness.with_restart_given r.history).feedback index) placed
      ∙ if_true (index == index) _ (r.history.feedback index) (own_number index)

  module _ (other : RunningWorld) (sets : sets_interface p ≡ true) where
    abbrev outs_then : ℕ → Option OutStream
    outs_then = streams_replaced_at p.index (option_and_then out_from (begun p bytes r)) r.device.outs

    abbrev ins_then : ℕ → Option InStream
    ins_then = streams_replaced_at p.index (option_and_then in_from (begun p bytes r)) r.device.ins

    abbrev paces_then : ℕ → Option Pace
    paces_then = at_interface p.index (option_map fresh_pace (begun p bytes r)) r.host.paces

    abbrev Then : ℕ → OutStream → Type 0
    Then k o = IsThere r other (after p bytes r).controls (after p bytes r).settings outs_then ins_then paces_then (given_then p bytes r) k o

    elsewhere : (k : ℕ) (o : OutStream) → (k == p.index) ≡ false → r.device.outs k ≡ Some o → Then k o
    elsewhere k o apart there =
        let stream = band.streams k o there in (
          stream.0,
          stream.1,
          stream.2,
          stays_there r other (after p bytes r).controls (after p bytes r).settings outs_then ins_then paces_then (given_then p bytes r) k stream.0 stream.1 stream.3
              (if_false (k == p.index) _ (r.device.outs k) apart) (if_false (k == p.index) _ (r.host.paces k) apart)
              (λ index placed. reports_elsewhere k index apart placed) (rates_last k o there stream.1.id),
        )

    here : (o : OutStream) (b : Option StreamFields) → begun p bytes r ≡ b → option_and_then out_from b ≡ Some o → Then p.index o
    here o None is there = absurd (cc)
    here o (Some s) is there =
        let both = cond_some s.out (started_out s) o there in
        let asked = asked_of r.device.function r.device.controls p.index p.value s is in
        let same = controls_same r.device.function (held p bytes r) p bytes sets in
        subst (Then p.index) both.1
        (starts_there r other (after p bytes r).controls (after p bytes r).settings outs_then ins_then paces_then (given_then p bytes r) p.index p.value s band sound asked both.0
        (if_true (p.index == p.index) _ (r.device.outs p.index) (own_number p.index)
        ∙ ap (option_and_then out_from) is ∙ ap (λ (c : Bool). if c then Some (started_out s) else None) both.0)
        (if_true (p.index == p.index) _ (r.host.paces p.index) (own_number p.index) ∙ ap (option_map fresh_pace) is)
        (λ index placed. reports_here s index is placed)
        (λ id. ap (λ (cs : List (Key × ℤ)). rate_of r.device.function.entities cs id) same))

    restarts : RunInBand (record other { device = after_restart p.index (begun p bytes r) (asked_device p bytes r); host = with_stream p.index (begun p bytes r) r.host; history = given_then p bytes r })
    unfolding after_restart with_stream
    restarts =
        changed_in_band r other (after p bytes r).controls (after p bytes r).settings outs_then ins_then paces_then (given_then p bytes r) band
        (λ k o there. by k o (k == p.index) refl there)
      where
        by : (k : ℕ) (o : OutStream) (b : Bool) → (k == p.index) ≡ b
            → (if b then option_and_then out_from (begun p bytes r) else r.device.outs k) ≡ Some o → Then k o
        by k o true same there = subst (λ (n : ℕ). Then n o) (sym (eqb-true k p.index same)) (here o (begun p bytes r) refl there)
        by k o false apart there = elsewhere k o apart there

-- ---- a transfer

pub transfers_keep_bands : TransfersKeepBands
transfers_keep_bands p bytes r band sound =
    transferred_so p bytes r RunInBand
    (λ is. restarts p bytes r band sound (seen p bytes r) (and_parts (sets_interface p) (done p bytes r) is).0)
    (λ is. acts_alone p bytes r band sound (seen p bytes r)) (carry r (seen p bytes r) band)
