-- A control transfer keeps the trails of a run's streams: a stream that it starts isn't primed, and no other's life changes.
use Rattle.std.proofs.Common.{◌≡◌, ◌∙◌, sym, refl, ap, ℕ, ◌==◌, Bool, true, false, if◌then◌else◌, ℤ, List, Option, Some, None}
use Rattle.std.specs.Option.{option_and_then, option_map}
use Rattle.std.proofs.lemmas.Option.{cond_some}
use Rattle.uac_rate.specs.Steadiness.{SteadyHistory}
use Rattle.uac_store.specs.declared.keys.Key.{Key}
use Rattle.uac_alt.specs.AltStreams.{StreamFields}
use Rattle.uac_alt.specs.declared.settings.InterfaceSetting.{InterfaceSetting}
use Rattle.uac_request.specs.declared.setup.Setup.{Setup}
use Rattle.uac_flow.specs.FlowStreams.{InStream, OutStream, started_out}
use Rattle.uac_host.specs.HostWorld.{Pace}
use Rattle.uac_host.specs.HostCalls.{at_interface, fresh_pace, with_stream}
use Rattle.uac_device.specs.InterfaceStreams.{in_from, out_from, streams_replaced_at}
use Rattle.uac_device.specs.DeviceWorld.{Domain, after_restart}
use Rattle.uac_streaming.specs.StreamingWorld.{stream_index}
use Rattle.uac_running.specs.RunningWorld.{RunningWorld}
use Rattle.uac_running.specs.RunningTransfers.{after_transfer}
use Rattle.uac_levels.specs.Life.{Life, domain_on, life_of}
use Rattle.uac_levels.specs.BandRun.{RunInBand}
use Rattle.uac_levels.specs.BandTransfers.{IsSoundRun}
use Rattle.uac_levels.proofs.LifeTurnLemmas.{if_false}
use Rattle.uac_levels.proofs.BandRunLemmas.{lived}
use Rattle.uac_levels.proofs.BandTransfersRequestLemmas.{asked_device, begun, given_then, seen, transferred_so}
use Rattle.uac_levels.proofs.BandTransfersBandLemmas.{reports_elsewhere}
use Rattle.uac_levels.specs.Homing.{TransfersStayTrailed}

-- each primed stream of one world has that life in another, too
abbrev PrimedBefore : RunningWorld → RunningWorld → Type 0
PrimedBefore r w = (k : ℕ) (l : Life) (target : ℕ) → life_of w k ≡ Some l → l.out.target ≡ Some target → life_of r k ≡ Some l

-- ---- another world by the same function, domains and tracks

module _ (r other : RunningWorld) (cs : List (Key × ℤ)) (ss : List InterfaceSetting) (outs : ℕ → Option OutStream) (ins : ℕ → Option InStream)
    (paces : ℕ → Option Pace) (given : SteadyHistory) where
  abbrev changed : RunningWorld
  changed = record other {
    device = record r.device { controls = cs; settings = ss; outs = outs; ins = ins };
    host = record r.host { paces = paces };
    history = given;
  }

  -- an interface whose stream, pace and reports are the same
  same_life : (k : ℕ) → outs k ≡ r.device.outs k → paces k ≡ r.host.paces k
      → ((index : ℕ) → stream_index r.device.function k ≡ Some index → given.feedback index ≡ r.history.feedback index)
      → life_of changed k ≡ life_of r k
  unfolding life_of
  same_life k out pace reports =
      ap (λ (o : Option OutStream). life o (paces k) (domain_on r k) (stream_index r.device.function k) given) out
      ∙ ap (λ (q : Option Pace). life (r.device.outs k) q (domain_on r k) (stream_index r.device.function k) given) pace
      ∙ by (r.device.outs k) (r.host.paces k) (domain_on r k) (stream_index r.device.function k) reports
    where
      life : Option OutStream → Option Pace → Option Domain → Option ℕ → SteadyHistory → Option Life
      life o q e j all =
          option_and_then (λ out. option_and_then (λ pace. option_and_then (λ d. option_map (λ index. record { out = out; pace = pace; steps = d.steps; reports = all.feedback index }) j) e) q) o

      by : (o : Option OutStream) (q : Option Pace) (e : Option Domain) (j : Option ℕ)
          → ((index : ℕ) → j ≡ Some index → given.feedback index ≡ r.history.feedback index) → life o q e j given ≡ life o q e j r.history
      by None q e j same = refl
      by (Some out) None e j same = refl
      by (Some out) (Some pace) None j same = refl
      by (Some out) (Some pace) (Some d) None same = refl
      by (Some out) (Some pace) (Some d) (Some index) same =
          ap (λ (lists : List (List Bool)). Some (record { out = out; pace = pace; steps = d.steps; reports = lists })) (same index refl)

-- ---- a request

module _ (p : Setup) (bytes : List ℕ) (r : RunningWorld) (band : RunInBand r) (sound : IsSoundRun r) where
  -- that acts alone
  acts_alone : (other : RunningWorld) → PrimedBefore r (record other { device = asked_device p bytes r; host = r.host; history = r.history })
  acts_alone other k l target life is =
      sym (same_life r other (asked_device p bytes r).controls (asked_device p bytes r).settings r.device.outs r.device.ins r.host.paces r.history k refl refl
      (λ index placed. refl)) ∙ life

  -- that starts a stream, or stops one
  abbrev outs_then : ℕ → Option OutStream
  outs_then = streams_replaced_at p.index (option_and_then out_from (begun p bytes r)) r.device.outs

  abbrev ins_then : ℕ → Option InStream
  ins_then = streams_replaced_at p.index (option_and_then in_from (begun p bytes r)) r.device.ins

  abbrev paces_then : ℕ → Option Pace
  paces_then = at_interface p.index (option_map fresh_pace (begun p bytes r)) r.host.paces

  not_primed : (b : Option StreamFields) (o : OutStream) → option_and_then out_from b ≡ Some o → o.target ≡ None
  not_primed None o there = absurd (cc)
  not_primed (Some s) o there =
      let both = cond_some s.out (started_out s) o there in ap (λ (x : OutStream). x.target) (sym both.1)

  module _ (other : RunningWorld) where
    abbrev restarted_world : RunningWorld
    restarted_world = record other {
      device = after_restart p.index (begun p bytes r) (asked_device p bytes r);
      host = with_stream p.index (begun p bytes r) r.host;
      history = given_then p bytes r;
    }

    restarts : PrimedBefore r restarted_world
    unfolding after_restart with_stream
    restarts k l target life is = by (k == p.index) refl
      where
        out : outs_then k ≡ Some l.out
        out = (lived restarted_world k l life).out

        by : (b : Bool) → (k == p.index) ≡ b → life_of r k ≡ Some l
        by true same =
            absurd (let there : option_and_then out_from (begun p bytes r) ≡ Some l.out =
            sym (ap (λ (b : Bool). if b then option_and_then out_from (begun p bytes r) else r.device.outs k) same) ∙ out in
            let none = not_primed (begun p bytes r) l.out there in
            let both : None ≡ Some target = sym none ∙ is in cc)
        by false apart =
            sym (same_life r other (asked_device p bytes r).controls (asked_device p bytes r).settings outs_then ins_then paces_then (given_then p bytes r) k
            (if_false (k == p.index) _ (r.device.outs k) apart) (if_false (k == p.index) _ (r.host.paces k) apart)
            (λ index placed. reports_elsewhere p bytes r band sound k index apart placed)) ∙ life

-- a world with the same device, host and all that was given
carried : (r other : RunningWorld) → PrimedBefore r (record other { device = r.device; host = r.host; history = r.history })
unfolding life_of
carried r other k l target life is = life

-- ---- a transfer

primed_before : (p : Setup) (bytes : List ℕ) (r : RunningWorld) → RunInBand r → IsSoundRun r → PrimedBefore r (after_transfer p bytes r)
primed_before p bytes r band sound =
    transferred_so p bytes r (PrimedBefore r) (λ set. restarts p bytes r band sound (seen p bytes r)) (λ other. acts_alone p bytes r band sound (seen p bytes r))
    (carried r (seen p bytes r))

pub transfers_stay_trailed : TransfersStayTrailed
transfers_stay_trailed p bytes r pasts band sound trails k l target life is =
    trails k l target (primed_before p bytes r band sound k l target life is) is
