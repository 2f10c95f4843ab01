-- A microframe of a sound run in its bands: what the rings of streams from the device hold after it, and that none was full.
use Rattle.std.proofs.Common.{arith, ◌≡◌, ◌∙◌, sym, refl, ap, subst, ℕ, ℤ, ◌+◌, ◌*◌, ◌/◌, ◌%◌, ◌≤◌, ◌<◌, ◌==◌, not, nat_eq, Bool, true, false, if◌then◌else◌, List, [], ◌∷◌, ◌++◌, sum, Option, Some, None}
use Rattle.std.specs.List.{All, IsDistinct, find}
use Rattle.std.specs.Option.{option_and_then, option_map, option_map_or}
use Rattle.std.proofs.Math.Nat.{mul-le-mul_right}
use Rattle.std.proofs.lemmas.Bool.{true≢false}
use Rattle.std.proofs.lemmas.Option.{option_and_then_some}
use Rattle.uac_clock.specs.Nominal.{IsNominal, nominal_of, step_of}
use Rattle.uac_clock.specs.Ticks.{ticks_in}
use Rattle.uac_clock.specs.declared.values.Nominal.{Nominal}
use Rattle.uac_clock.proofs.NominalLemmas.{has_room}
use Rattle.uac_rate.specs.Levels.{IsInterval, Within}
use Rattle.uac_rate.specs.Steadiness.{is_slight}
use Rattle.uac_rate.proofs.LevelsLemmas.{interval_size, slight_step, whole_ticks}
use Rattle.uac_rate.proofs.PacketSizesLemmas.{by_remainder}
use Rattle.uac_entities.specs.declared.stream.StreamInterface.{StreamInterface}
use Rattle.uac_topology.specs.Function.{FunctionFields, interface_in}
use Rattle.uac_store.specs.declared.keys.Key.{Key}
use Rattle.uac_store.specs.Rates.{rate_of}
use Rattle.uac_graph.specs.Meaning.{entity}
use Rattle.uac_alt.specs.AltSettings.{setting_of}
use Rattle.uac_alt.specs.AltStreams.{StreamFields}
use Rattle.uac_alt.specs.declared.settings.InterfaceSetting.{InterfaceSetting}
use Rattle.uac_flow.specs.FlowStreams.{InStream, OutStream, in_level, is_due}
use Rattle.uac_device.specs.DeviceWorld.{DeviceWorld, Domain}
use Rattle.uac_script.specs.Phrase.{PhraseMark}
use Rattle.uac_streaming.specs.StreamingWorld.{all_ends, comes_in, goes_out, out_packets}
use Rattle.uac_running.specs.RunningWorld.{RunningWorld, streaming_of, with_streaming}
use Rattle.uac_running.specs.Events.{domain_microframes, ends_and_feedback, microframe, packets_and_ticks}
use Rattle.uac_levels.specs.Life.{domain_id_on, domain_on}
use Rattle.uac_levels.specs.BandRun.{RunInBand}
use Rattle.uac_levels.specs.BandTransfers.{IsSoundRun}
use Rattle.uac_levels.proofs.LevelsMicroframeLemmas.{placed_at, times_more}
use Rattle.uac_streaming.proofs.AmongLemmas.{Among}
use Rattle.uac_levels.proofs.TellingTurnLemmas.{clock_among}
use Rattle.uac_levels.proofs.RunningWorldLineLemmas.{fetched, microframe_says, numbered, ticked_on}
use Rattle.uac_levels.proofs.LifeSteadyLemmas.{is_some_more}
use Rattle.uac_levels.proofs.BandTransfersBandLemmas.{found_domain}
use Rattle.uac_levels.specs.Recording.{HoldsFew, IsRecorded, MicroframesStayRecorded, RingsHoldAnInterval}
use Rattle.uac_levels.proofs.RecordingRestLemmas.{before_ticks_sends_none, microframe_sends_none}
use Rattle.uac_levels.proofs.RecordingStreamLemmas.{IsSpot, Rings, Spot, domains_ring, ends, packets_in, packets_out, reports, step_at, steps_on}
use Rattle.uac_levels.proofs.RecordingFullLemmas.{NotOver, ends_not, none_domains, outs_have_room, quiet, ticks_have_room}

-- ---- numbers

pub at_most : (a b c : ℕ) → a ≤ b → b ≤ c → a ≤ c
at_most a b c low high = omega arith

-- a clock that is slight ticks at most as often as the greatest packet has frames
few_ticks : (values : Nominal) (steps : List ℕ) (step : ℕ) → IsNominal values → Within values.e step values.f
    → ticks_in (steps ++ step ∷ []) ≤ values.hi
few_ticks values steps step nominal slight =
    let by = by_remainder steps (step ∷ []) in
    let one : sum (step ∷ []) ≡ step = omega arith in
    let ticks : ticks_in (steps ++ step ∷ []) ≡ (sum steps % 65536 + sum (step ∷ [])) / 65536 = by.0 in
    let whole = whole_ticks values 1 (sum steps % 65536) step (has_room values nominal) (omega arith) (omega (arith, slight.0), omega (arith, slight.1)) in
    bounded (ticks_in (steps ++ step ∷ [])) (sum (step ∷ [])) (sum steps % 65536) step values.hi ticks one whole.1
  where
    bounded : (ticks some before step hi : ℕ) → ticks ≡ (before + some) / 65536 → some ≡ step → (before + step) / 65536 ≤ 1 * hi → ticks ≤ hi
    bounded ticks some before step hi is same most = omega arith

-- what a ring holds after so many microframes
abbrev pub most_after : ℕ → ℕ → ℕ → ℕ
most_after s hi n = (n % s + 1) * hi

-- an interval's frames
pub within_interval : (s hi n : ℕ) → IsInterval s → most_after s hi n ≤ s * hi
within_interval s hi n serves = mul-le-mul_right hi (placed_at s n serves).next

-- from one microframe to the next: its packet takes all where it is due, and then come so many ticks
pub after_ticks : (s hi n ticks : ℕ) (b : Bool) → IsInterval s → ((n + 1) % s == 0) ≡ b → ticks ≤ hi
    → (if b then 0 else most_after s hi n) + ticks ≤ most_after s hi (n + 1)
after_ticks s hi n ticks true serves due few =
    let more = times_more ((n + 1) % s) hi in
    omega arith
after_ticks s hi n ticks false serves rests few =
    let at = placed_at s n serves in
    let some : 0 < (n + 1) % s = is_some_more ((n + 1) % s) rests in
    let next : (n + 1) % s ≡ n % s + 1 = at.within some in
    let more : ((n % s + 1) + 1) * hi ≡ (n % s + 1) * hi + hi = times_more (n % s + 1) hi in
    subst (λ (m : ℕ). (n % s + 1) * hi + ticks ≤ (m + 1) * hi) (sym next) (sums ((n % s + 1) * hi) ticks hi (((n % s + 1) + 1) * hi) few more)
  where
    sums : (a ticks hi b : ℕ) → ticks ≤ hi → b ≡ a + hi → a + ticks ≤ b
    sums a ticks hi b few is = omega arith

-- that is far below what a ring has room for
far_below : (s hi n ticks : ℕ) (b : Bool) → IsInterval s → hi ≤ 25 → ticks ≤ hi → (if b then 0 else most_after s hi n) + ticks ≤ 2048
far_below s hi n ticks true serves most few = omega arith
far_below s hi n ticks false serves most few =
    let within = within_interval s hi n serves in
    let size = interval_size s serves in
    let all : s * hi ≤ 8 * hi = mul-le-mul_right hi size.1 in
    omega (arith, within)

-- ---- what is found

-- an interface carries a stream one way
pub one_way : (function : FunctionFields) (k : ℕ) → comes_in function k ≡ true → goes_out function k ≡ true → ⊥
one_way function k comes goes = by (interface_in function k) comes goes
  where
    both : (b : Bool) → not b ≡ true → b ≡ true → ⊥
    both true is_not is = true≢false (sym is_not)
    both false is_not is = true≢false (sym is)

    by : (o : Option StreamInterface) → option_map_or (λ s. not s.out) o false ≡ true → option_map_or (λ s. s.out) o false ≡ true → ⊥
    by None is_not is = true≢false (sym is)
    by (Some s) is_not is = both s.out is_not is

-- ---- one stream from the device

module _ (marks : List PhraseMark) (r : RunningWorld) (band : RunInBand r) (sound : IsSoundRun r) (k : ℕ) (i : InStream) (d : Domain) (clock : ℕ)
    (there : r.device.ins k ≡ Some i) (rec : IsRecorded r k i d) (on_clock : domain_id_on r k ≡ Some clock)
    (found : find (λ d. d.id == clock) r.device.domains ≡ Some d) where
  abbrev pub p : Spot
  p = record {
    function = r.device.function;
    controls = r.device.controls;
    settings = r.device.settings;
    interface = k;
    clock = clock;
    domain = d;
    stream = i.stream;
  }

  pub spot : IsSpot p
  spot = record { comes = rec.comes; on_clock = on_clock }

  abbrev few : ℕ
  few = most_after i.stream.service i.stream.nominal.hi i.microframes

  abbrev less : ℕ
  less = if is_due i.stream i.microframes then 0 else few

  abbrev ticks : ℕ
  ticks = ticks_in (steps_on p d.steps)

  no_out : r.device.outs k ≡ None
  no_out = by (r.device.outs k) refl
    where
      by : (o : Option OutStream) → r.device.outs k ≡ o → o ≡ None
      by None is = refl
      by (Some o) is = absurd (one_way r.device.function k rec.comes (band.streams k o is).3.runs.out)

  before : Rings p i.microframes few d.steps r.device
  before = record {
    function = refl;
    controls = refl;
    settings = refl;
    out = no_out;
    ring = i;
    in_ = there;
    is = record { stream = refl; counted = refl; gone = rec.gone; level = rec.few };
    domain = found;
  }

  slight : Within i.stream.nominal.e (step_at p) i.stream.nominal.f
  slight =
      subst (λ (o : Option Nominal). Within i.stream.nominal.e (option_map_or (λ values. step_of values d.deviation) o 0) i.stream.nominal.f) (sym rec.rate)
      (slight_step i.stream.nominal d.deviation rec.nominal (found_domain (λ d. is_slight d.deviation ≡ true) clock r.device.domains d sound.slight found).0)

  pub some_ticks : ticks ≤ i.stream.nominal.hi
  some_ticks = few_ticks i.stream.nominal d.steps (step_at p) rec.nominal slight

  fits_packet : few ≤ i.stream.most
  fits_packet =
      at_most few (i.stream.service * i.stream.nominal.hi) i.stream.most
      (within_interval i.stream.service i.stream.nominal.hi i.microframes rec.serves) rec.fits

  room : less + ticks ≤ 2048
  room =
      far_below i.stream.service i.stream.nominal.hi i.microframes ticks (is_due i.stream i.microframes) rec.serves
      (has_room i.stream.nominal rec.nominal).most some_ticks

  -- after its packets
  pub came : Rings p i.microframes less d.steps (fetched marks r).device
  came =
      let v : RunningWorld = numbered r in
      let sent = with_streaming v (out_packets v.detail marks (streaming_of v)).world in
      packets_in p spot band.ordered.numbers v.detail marks i.microframes few d.steps fits_packet (streaming_of sent)
      (packets_out p spot band.ordered.numbers v.detail marks i.microframes few d.steps (streaming_of v) before)

  pub once : IsDistinct nat_eq (fetched marks r).device.function.domains
  once = subst (λ (f : FunctionFields). IsDistinct nat_eq f.domains) (sym came.function) band.ordered.apart

  clocked : Among clock (fetched marks r).device.function.domains
  clocked =
      subst (λ (f : FunctionFields). Among clock f.domains) (sym came.function)
      (subst (Among clock) band.ordered.domains (clock_among clock r.device.domains d found))

  -- after its ticks
  pub ticked : Rings p i.microframes (less + ticks) (steps_on p d.steps) (ticked_on marks r).device
  unfolding packets_and_ticks
  ticked =
      domains_ring p spot i.microframes less d.steps (fetched marks r).device.function.domains (fetched marks r) once clocked came

  -- no tick found it full
  pub ticks_quiet : All (NotOver k) (domain_microframes (fetched marks r).device.function.domains (fetched marks r)).lines
  ticks_quiet =
      ticks_have_room p spot i.microframes less d.steps room (fetched marks r).device.function.domains (fetched marks r) once clocked came

  -- after the microframe
  following : Rings p (i.microframes + 1) (less + ticks) (steps_on p d.steps) (microframe marks r).world.device
  unfolding microframe ends_and_feedback
  following =
      let u : RunningWorld = ticked_on marks r in
      reports p spot band.ordered.numbers u.detail marks (i.microframes + 1) (less + ticks) (steps_on p d.steps)
      (all_ends u.detail (streaming_of u)).world
      (ends p spot band.ordered.numbers u.detail marks i.microframes (less + ticks) (steps_on p d.steps) (streaming_of u) ticked)

  enough : (after : InStream) → after.stream ≡ i.stream → after.microframes ≡ i.microframes + 1 → in_level after ≤ less + ticks → HoldsFew after
  enough after same counted level =
      subst (λ (t : StreamFields). in_level after ≤ (after.microframes % t.service + 1) * t.nominal.hi) (sym same)
      (subst (λ (n : ℕ). in_level after ≤ (n % i.stream.service + 1) * i.stream.nominal.hi) (sym counted)
      (at_most (in_level after) (less + ticks) (most_after i.stream.service i.stream.nominal.hi (i.microframes + 1)) level
      (after_ticks i.stream.service i.stream.nominal.hi i.microframes ticks (is_due i.stream i.microframes) rec.serves refl some_ticks)))

  pub recorded_following : (after : InStream) → (microframe marks r).world.device.ins k ≡ Some after
      → (d : Domain) × IsRecorded (microframe marks r).world k after d
  recorded_following after now =
      let s = following in
      let w : DeviceWorld = (microframe marks r).world.device in
      let same : s.ring ≡ after = let both : Some s.ring ≡ Some after = sym s.in_ ∙ now in cc in (
        record d { steps = steps_on p d.steps },
        subst (λ (j : InStream). IsRecorded (microframe marks r).world k j (record d { steps = steps_on p d.steps })) same (record {
          comes = ap (λ (f : FunctionFields). comes_in f k) s.function ∙ rec.comes;
          set = (rec.set.0, ap (λ (ss : List InterfaceSetting). setting_of ss k) s.settings ∙ rec.set.1, rec.set.2);
          domain =
              ap (λ (f : FunctionFields). option_and_then (λ clock. find (λ d. d.id == clock) w.domains) (option_map (λ s. (entity f.entities s.terminal).clock) (interface_in f k))) s.function
              ∙ ap (λ (o : Option ℕ). option_and_then (λ clock. find (λ d. d.id == clock) w.domains) o) on_clock
              ∙ s.domain;
          nominal = subst (λ (t : StreamFields). IsNominal t.nominal) (sym s.is.stream) rec.nominal;
          rate =
              ap (λ (f : FunctionFields). option_and_then nominal_of (rate_of f.entities w.controls d.id)) s.function
              ∙ ap (λ (cs : List (Key × ℤ)). option_and_then nominal_of (rate_of r.device.function.entities cs d.id)) s.controls
              ∙ rec.rate ∙ ap (λ (t : StreamFields). Some t.nominal) (sym s.is.stream);
          serves = subst (λ (t : StreamFields). IsInterval t.service) (sym s.is.stream) rec.serves;
          fits = subst (λ (t : StreamFields). t.service * t.nominal.hi ≤ t.most) (sym s.is.stream) rec.fits;
          gone = s.is.gone;
          few = enough s.ring s.is.stream s.is.counted s.is.level;
        }),
      )

-- ---- all

-- the clock of a stream that is recorded
pub opened_in : {R : Type 0} (r : RunningWorld) (k : ℕ) (d : Domain) → domain_on r k ≡ Some d
    → ((clock : ℕ) → domain_id_on r k ≡ Some clock → find (λ d. d.id == clock) r.device.domains ≡ Some d → R) → R
opened_in r k d on goes_on = option_and_then_some _ (domain_id_on r k) d on (λ clock on_clock found. goes_on clock on_clock found)

pub microframes_stay_recorded : MicroframesStayRecorded
microframes_stay_recorded marks r band sound recorded = record {
  stays = λ k after now. stays k after now (r.device.ins k) refl;
  no_over = λ j said below k.
      microframe_says (NotOver k) (quiet k) marks r (outs_have_room marks r band k) (ticks_quiet_at k (r.device.ins k) refl)
      (ends_not k (ticked_on marks r).detail (streaming_of (ticked_on marks r))) j said below;
}
  where
    stays : (k : ℕ) (after : InStream) → (microframe marks r).world.device.ins k ≡ Some after → (o : Option InStream) → r.device.ins k ≡ o
        → (d : Domain) × IsRecorded (microframe marks r).world k after d
    stays k after now None none = absurd (let nowhere = microframe_sends_none k marks r none in cc)
    stays k after now (Some i) there =
        let rec = recorded k i there in
        opened_in r k rec.0 rec.1.domain (λ clock on_clock found.
        recorded_following marks r band sound k i rec.0 clock there rec.1 on_clock found after now)

    ticks_quiet_at : (k : ℕ) (o : Option InStream) → r.device.ins k ≡ o
        → All (NotOver k) (domain_microframes (fetched marks r).device.function.domains (fetched marks r)).lines
    ticks_quiet_at k None none =
        none_domains k (fetched marks r).device.function.domains (fetched marks r) (before_ticks_sends_none k marks (numbered r) none)
    ticks_quiet_at k (Some i) there =
        let rec = recorded k i there in
        opened_in r k rec.0 rec.1.domain (λ clock on_clock found.
        ticks_quiet marks r band sound k i rec.0 clock there rec.1 on_clock found)

pub rings_hold_an_interval : RingsHoldAnInterval
rings_hold_an_interval r k i recorded there =
    let rec = recorded k i there in
    at_most (in_level i) (most_after i.stream.service i.stream.nominal.hi i.microframes) (i.stream.service * i.stream.nominal.hi) rec.1.few
    (within_interval i.stream.service i.stream.nominal.hi i.microframes rec.1.serves)
