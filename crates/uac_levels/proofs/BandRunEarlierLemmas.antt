-- A run that is steady after microframes was so before each of them.
use Rattle.std.proofs.Common.{◌≡◌, sym, refl, ℕ, zero, suc, ◌==◌, ◌||◌, not, nat_lt, Bool, true, false, if◌then◌else◌, ℤ, List, [], ◌∷◌, Option, Some, None, is_some}
use Rattle.std.specs.List.{list_all}
use Rattle.std.proofs.lemmas.Bool.{and_from, and_parts, true≢false}
use Rattle.std.proofs.lemmas.List.Elements.{All-append, All-nil}
use Rattle.uac_rate.specs.Steadiness.{SteadyHistory, eight_streams, has_four_lost, is_slight, is_steady, with_deviation_given, one_more, with_report_given, with_restart_given, run}
use Rattle.uac_alt.specs.AltStreams.{StreamFields}
use Rattle.uac_request.specs.declared.setup.Setup.{Setup}
use Rattle.uac_device.specs.DeviceWorld.{DeviceWorld, after_control, stream_in_setting}
use Rattle.uac_script.specs.Phrase.{PhraseMark}
use Rattle.uac_streaming.specs.StreamingWorld.{StreamingWorld, after_following, given_at, packet_fetched, packet_sent_out, stream_index, feedback_made}
use Rattle.uac_running.specs.RunningWorld.{RunningWorld, streaming_of, with_deviation}
use Rattle.uac_running.specs.RunningTransfers.{acts, holds_setting, after_transfer}
use Rattle.uac_running.specs.Events.{microframe, microframes}
use Rattle.uac_levels.specs.BandRun.{IsNearLevel, IsNoUnder, SteadinessLooksBack, SteadyRunsStaySteady}
use Rattle.uac_levels.specs.BandTransfers.{CallsLookBack}
use Rattle.uac_levels.proofs.RunningWorldKeptLemmas.{IsKeptByEach, microframe_keeps}
use Rattle.uac_levels.proofs.BandRunLemmas.{keep_bands}
use Rattle.uac_levels.proofs.BandRunEmptyLemmas.{find_none_empty}
use Rattle.uac_levels.proofs.BandRunLevelLemmas.{tell_near}

-- ---- a report

not_either : (a b : Bool) → not (a || b) ≡ true → not b ≡ true
not_either false b h = h
not_either true b h = absurd (true≢false (sym h))

-- no start of a stream lost four reports in succession
abbrev pub keeps : List (List Bool) → Bool
keeps lists = list_all (λ reports. not (has_four_lost reports)) lists

kept_before : (lost : Bool) (lists : List (List Bool)) → keeps (one_more lost lists) ≡ true → keeps lists ≡ true
kept_before lost [] h = refl
kept_before lost (latest ∷ earlier) h =
    let parts = and_parts (not (has_four_lost (lost ∷ latest))) (keeps earlier) h in
    and_from (not (has_four_lost latest)) (keeps earlier) (not_either (nat_lt 3 (run (lost ∷ latest))) (has_four_lost latest) parts.0) parts.1

all_before : (P Q : ℕ → Bool) → ((n : ℕ) → Q n ≡ true → P n ≡ true) → (ns : List ℕ) → list_all Q ns ≡ true → list_all P ns ≡ true
all_before P Q back [] h = refl
all_before P Q back (n ∷ ns) h =
    let parts = and_parts (Q n) (list_all Q ns) h in
    and_from (P n) (list_all P ns) (back n parts.0) (all_before P Q back ns parts.1)

report_before : (index : ℕ) (lost : Bool) (given : SteadyHistory) → is_steady (with_report_given index lost given) ≡ true → is_steady given ≡ true
report_before index lost given h =
    let parts = and_parts (list_all is_slight given.deviations) _ h in
    and_from (list_all is_slight given.deviations) (list_all (λ n. keeps (given.feedback n)) eight_streams) parts.0
    (all_before (λ n. keeps (given.feedback n)) (λ n. keeps ((with_report_given index lost given).feedback n)) (λ n. by n (n == index)) eight_streams parts.1)
  where
    by : (n : ℕ) (b : Bool) → keeps (if b then one_more lost (given.feedback n) else given.feedback n) ≡ true → keeps (given.feedback n) ≡ true
    by n true kept = kept_before lost (given.feedback n) kept
    by n false kept = kept

-- ---- a microframe

-- what is steady came from this
module _ (g : SteadyHistory) where
  abbrev Leads : StreamingWorld → Type 0
  Leads w = is_steady w.history ≡ true → is_steady g ≡ true

  placed : (lost : Bool) (given : SteadyHistory) → (is_steady given ≡ true → is_steady g ≡ true) → (o : Option ℕ)
      → is_steady (given_at o (λ index. with_report_given index lost) given) ≡ true → is_steady g ≡ true
  placed lost given leads None h = leads h
  placed lost given leads (Some index) h = leads (report_before index lost given h)

  leads_each : IsKeptByEach Leads
  unfolding packet_sent_out packet_fetched feedback_made
  leads_each = record {
    sends = λ lost n w leads. leads;
    fetches = λ lost n w leads. leads;
    ends = λ n w leads. leads;
    reports = λ lost value n w leads. placed lost w.history leads (stream_index w.device.function n);
    jacks = λ terminal frame w leads. leads;
    ticks = λ c met w leads. leads;
    goes_on = λ c w leads. leads;
  }

  microframe_leads : (marks : List PhraseMark) (r : RunningWorld) → Leads (streaming_of r) → Leads (streaming_of (microframe marks r).world)
  microframe_leads = microframe_keeps Leads leads_each

  microframes_lead : (marks : List PhraseMark) (count : ℕ) (r : RunningWorld) → Leads (streaming_of r)
      → Leads (streaming_of (microframes marks count r).world)
  unfolding microframes
  microframes_lead marks zero r leads = leads
  microframes_lead marks (suc count) r leads = microframes_lead marks count (microframe marks r).world (microframe_leads marks r leads)

pub looks_back : SteadinessLooksBack
looks_back marks r steady = microframe_leads r.history marks r (λ h. h) steady

-- ---- so many microframes

pub stay_steady : SteadyRunsStaySteady
unfolding microframes
stay_steady marks zero r band steady = record { stays = band; no_under = All-nil IsNoUnder; near = All-nil IsNearLevel }
stay_steady marks (suc count) r band steady =
    let next : RunningWorld = (microframe marks r).world in
    let now : is_steady next.history ≡ true = microframes_lead next.history marks count next (λ h. h) steady in
    let rest = stay_steady marks count next (keep_bands marks r band now) steady in
    record {
      stays = rest.stays;
      no_under = All-append IsNoUnder (microframe marks r).lines (microframes marks count next).lines (find_none_empty marks r band) rest.no_under;
      near = All-append IsNearLevel (microframe marks r).lines (microframes marks count next).lines (tell_near marks r band now) rest.near;
    }

-- ---- between microframes

deviation_before : (ppm : ℤ) (given : SteadyHistory) → is_steady (with_deviation_given ppm given) ≡ true
    → (is_slight ppm ≡ true) × (is_steady given ≡ true)
deviation_before ppm given h =
    let parts = and_parts (list_all is_slight (ppm ∷ given.deviations)) _ h in
    let slight = and_parts (is_slight ppm) (list_all is_slight given.deviations) parts.0 in
    (slight.0, and_from (list_all is_slight given.deviations) (list_all (λ n. keeps (given.feedback n)) eight_streams) slight.1 parts.1)

start_before : (index : ℕ) (given : SteadyHistory) → is_steady (with_restart_given index given) ≡ true → is_steady given ≡ true
start_before index given h =
    let parts = and_parts (list_all is_slight given.deviations) _ h in
    and_from (list_all is_slight given.deviations) (list_all (λ n. keeps (given.feedback n)) eight_streams) parts.0
    (all_before (λ n. keeps (given.feedback n)) (λ n. keeps ((with_restart_given index given).feedback n)) (λ n. by n (n == index)) eight_streams parts.1)
  where
    by : (n : ℕ) (b : Bool) → keeps (if b then [] ∷ given.feedback n else given.feedback n) ≡ true → keeps (given.feedback n) ≡ true
    by n true kept = kept
    by n false kept = kept

deviation_looks_back : (r : RunningWorld) (clock : ℕ) (ppm : ℤ) → is_steady (with_deviation clock ppm r).history ≡ true
    → (is_slight ppm ≡ true) × (is_steady r.history ≡ true)
unfolding with_deviation
deviation_looks_back r clock ppm h = deviation_before ppm r.history h

transfer_looks_back : (r : RunningWorld) (p : Setup) (bytes : List ℕ) → is_steady (after_transfer p bytes r).history ≡ true → is_steady r.history ≡ true
unfolding after_transfer after_following
transfer_looks_back r p bytes h = by (holds_setting p bytes r) h
  where
    device : DeviceWorld
    device = acts r.breaks r.device (after_control p bytes r.device)

    begun : Option StreamFields
    begun = stream_in_setting r.device.function r.device.controls p.index p.value

    at : (o : Option ℕ) → is_steady (given_at o with_restart_given r.history) ≡ true → is_steady r.history ≡ true
    at None steady = steady
    at (Some index) steady = start_before index r.history steady

    begins : (b : Bool) → is_steady (if b then given_at (stream_index device.function p.index) with_restart_given r.history else r.history) ≡ true
        → is_steady r.history ≡ true
    begins true steady = at (stream_index device.function p.index) steady
    begins false steady = steady

    by : (b : Bool)
        → is_steady (let s = record (streaming_of r) { device = device } in if b then after_following p.index begun s else s).history ≡ true
        → is_steady r.history ≡ true
    by true steady = begins (is_some begun) steady
    by false steady = steady

pub calls_look_back : CallsLookBack
calls_look_back r = record { deviation = deviation_looks_back r; transfer = transfer_looks_back r }
