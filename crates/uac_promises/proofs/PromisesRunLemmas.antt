-- Runs that are sound, in their bands, with few frames in the rings of their streams from the device and trails of those to it: microframes
-- leave them so, and all that these print is as promised.
use Rattle.std.proofs.Common.{◌≡◌, ℕ, zero, suc, true, List, map}
use Rattle.std.specs.List.{All}
use Rattle.std.proofs.lemmas.List.Elements.{All-append, All-map, All-nil}
use Rattle.uac_descriptor.specs.BlockParsing.{AreBytes}
use Rattle.uac_rate.specs.Steadiness.{is_steady}
use Rattle.uac_script.specs.Phrase.{PhraseMark}
use Rattle.uac_running.specs.RunningWorld.{RunningWorld}
use Rattle.uac_running.specs.Events.{microframe, microframes}
use Rattle.uac_rows.specs.BusWorld.{BusWorld, describing, running}
use Rattle.uac_levels.specs.BandRun.{RunInBand}
use Rattle.uac_levels.specs.BandTransfers.{IsSoundRun}
use Rattle.uac_levels.proofs.BandRunLevelLemmas.{tell_near}
use Rattle.uac_levels.proofs.BandRunEmptyLemmas.{find_none_empty}
use Rattle.uac_levels.proofs.BandTransfersRunLemmas.{microframes_keep_sound}
use Rattle.uac_levels.proofs.BandRunLemmas.{keep_bands}
use Rattle.uac_levels.specs.Recording.{AreRecorded, CallsStayRecorded, MicroframesStayRecorded, RunsStartRecorded, TransfersStayRecorded}
use Rattle.uac_levels.specs.Past.{Pasts, pasts_after}
use Rattle.uac_levels.specs.Homing.{CallsStayTrailed, HaveTrails, MicroframesStayTrailed, RunsStartTrailed, TransfersStayTrailed}
use Rattle.uac_promises.proofs.ScriptsEarlierLemmas.{microframes_before}
use Rattle.uac_promises.specs.Watches.{Watches, microframe_watches, watch_in}
use Rattle.uac_promises.specs.Promises.{IsKeptPromise}

-- what is said of one microframe, transfer or call: of rings that have room, and of streams that come home
pub record LawsOfSteps : Type 0 where
  pub start_recorded : RunsStartRecorded
  pub microframes_recorded : MicroframesStayRecorded
  pub calls_recorded : CallsStayRecorded
  pub transfers_recorded : TransfersStayRecorded
  pub start_trailed : RunsStartTrailed
  pub microframes_trailed : MicroframesStayTrailed
  pub calls_trailed : CallsStayTrailed
  pub transfers_trailed : TransfersStayTrailed

pub record IsGoodRun (r : RunningWorld) (pasts : Pasts) : Type 0 where
  pub band : RunInBand r
  pub sound : IsSoundRun r
  pub recorded : AreRecorded r
  pub trails : HaveTrails r pasts

-- a descriptor's bytes are bytes; a running device is all that
abbrev pub IsGoodIn : BusWorld → Pasts → Type 0
IsGoodIn (describing bytes meters) pasts = AreBytes bytes
IsGoodIn (running r) pasts = IsGoodRun r pasts

-- so it is after what was seen, and all that was seen is as promised
pub record LeavesKept (next : BusWorld) (seen : Watches) : Type 0 where
  pub good : IsGoodIn next seen.pasts
  pub kept : All IsKeptPromise seen.lines

-- ---- microframes

module _ (laws : LawsOfSteps) where
  -- what is seen of one microframe
  abbrev microframe_seen : List PhraseMark → RunningWorld → Pasts → Watches
  microframe_seen marks r pasts = record {
    lines = map (watch_in (running (microframe marks r).world) (pasts_after marks r pasts)) (microframe marks r).lines;
    pasts = pasts_after marks r pasts;
  }

  pub microframe_keeps : (marks : List PhraseMark) (r : RunningWorld) (pasts : Pasts) → IsGoodRun r pasts
      → is_steady (microframe marks r).world.history ≡ true
      → LeavesKept (running (microframe marks r).world) (microframe_seen marks r pasts)
  microframe_keeps marks r pasts good steady =
      let records = laws.microframes_recorded marks r good.band good.sound good.recorded in
      let trails = laws.microframes_trailed marks r pasts good.band steady good.trails in
      let full = find_none_empty marks r good.band in
      let near = tell_near marks r good.band steady in
      record {
        good = record {
          band = keep_bands marks r good.band steady;
          sound = microframes_keep_sound marks r good.sound;
          recorded = records.stays;
          trails = trails.stays;
        };
        kept = All-map IsKeptPromise (watch_in (running (microframe marks r).world) (pasts_after marks r pasts)) (microframe marks r).lines
            (λ k d h. record { no_under = full k d h; no_over = records.no_over k d h; near = near k d h; close = trails.close k d h });
      }

  pub microframes_keep : (marks : List PhraseMark) (count : ℕ) (r : RunningWorld) (pasts : Pasts) → IsGoodRun r pasts
      → is_steady (microframes marks count r).world.history ≡ true
      → LeavesKept (running (microframes marks count r).world) (microframe_watches marks count r pasts)
  unfolding microframes microframe_watches
  microframes_keep marks zero r pasts good steady = record { good = good; kept = All-nil IsKeptPromise }
  microframes_keep marks (suc count) r pasts good steady =
      let next : RunningWorld = (microframe marks r).world in
      let first = microframe_keeps marks r pasts good (microframes_before marks count next steady) in
      let rest = microframes_keep marks count next (pasts_after marks r pasts) first.good steady in
      record {
        good = rest.good;
        kept = All-append IsKeptPromise (microframe_seen marks r pasts).lines
            (microframe_watches marks count next (pasts_after marks r pasts)).lines first.kept rest.kept;
      }
