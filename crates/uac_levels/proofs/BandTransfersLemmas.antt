-- A control transfer keeps a run sound.
use Rattle.std.proofs.Common.{◌≡◌, ◌∙◌, sym, refl, ap, subst, ℕ, ◌==◌, ◌&&◌, ◌||◌, nat_le, Bool, true, false, if◌then◌else◌, cond, List, [], ◌∷◌, map, take, Option, Some, None, is_some, unwrap_or}
use Rattle.std.specs.List.{find}
use Rattle.std.specs.Option.{option_and_then, option_map, option_map_or}
use Rattle.std.proofs.Math.Bool.{or-true}
use Rattle.std.proofs.lemmas.Bool.{and_parts, eqb-true, true≢false}
use Rattle.uac_entities.specs.declared.stream.StreamInterface.{StreamInterface}
use Rattle.uac_topology.specs.Function.{FunctionFields, interface_in}
use Rattle.uac_alt.specs.AltStreams.{StreamFields}
use Rattle.uac_alt.specs.AltSettings.{setting_of, with_setting}
use Rattle.uac_alt.specs.declared.settings.InterfaceSetting.{InterfaceSetting}
use Rattle.uac_alt.proofs.AltSettingsLemmas.{setting_of_changed}
use Rattle.uac_request.specs.Requests.{AreSettingsOf, RequestState, AnswerFields, after_request, unbroken_reply, controls_set, cur_named, first_broken, gets_cur, gets_descriptor, gets_interface, gets_range, is_done, is_stalled, left_by, ranges_named, reply_of, sets_cur, with_bytes, with_descriptor, sets_interface, is_done_answer}
use Rattle.uac_request.specs.declared.setup.Setup.{Setup}
use Rattle.uac_request.proofs.RequestsLemmas.{settings_stay, store_stays}
use Rattle.uac_flow.specs.FlowStreams.{OutStream}
use Rattle.uac_host.specs.HostCalls.{with_stream}
use Rattle.uac_device.specs.InterfaceStreams.{out_from}
use Rattle.uac_device.specs.DeviceWorld.{after_restart}
use Rattle.uac_running.specs.RunningWorld.{RunningWorld}
use Rattle.uac_levels.specs.BandTransfers.{IsSoundRun, TransfersKeepSound}
use Rattle.uac_levels.proofs.TellingTurnLemmas.{not_this, own_number}
use Rattle.uac_levels.proofs.LifeTurnLemmas.{if_true}
use Rattle.uac_levels.proofs.AltStreamsLemmas.{asked_of, parts_of}
use Rattle.uac_levels.proofs.BandTransfersRequestLemmas.{after, asked_device, begun, done, given_then, held, seen, transferred_so}
use Rattle.uac_levels.proofs.BandTransfersRunLemmas.{carried}

-- ---- settings

-- another interface's setting
pub other_setting : (k interface setting : ℕ) (ss : List InterfaceSetting) → (k == interface) ≡ false
    → setting_of (with_setting ss interface setting) k ≡ setting_of ss k
unfolding setting_of with_setting
other_setting k interface setting [] other = refl
other_setting k interface setting (s ∷ ss) other = by (s.interface == interface) refl (other_setting k interface setting ss other)
  where
    rest : Option InterfaceSetting
    rest = find (λ t. t.interface == k) ss

    rest_then : Option InterfaceSetting
    rest_then = find (λ t. t.interface == k) (map {A = InterfaceSetting} (λ t. if t.interface == interface then record t { setting = setting } else t) ss)

    this : (c : Bool) → option_map (λ t. t.setting) rest_then ≡ option_map (λ t. t.setting) rest
        → option_map (λ t. t.setting) (cond c (Some s) rest_then) ≡ option_map (λ t. t.setting) (cond c (Some s) rest)
    this true same = refl
    this false same = same

    by : (b : Bool) → (s.interface == interface) ≡ b → option_map (λ t. t.setting) rest_then ≡ option_map (λ t. t.setting) rest
        → (let t : InterfaceSetting = if b then record s { setting = setting } else s in
        option_map (λ t. t.setting) (cond (t.interface == k) (Some t) rest_then) ≡ option_map (λ t. t.setting) (cond (s.interface == k) (Some s) rest))
    by true is same =
        let apart : (s.interface == k) ≡ false = not_this s.interface interface k is other in
        ap (λ (c : Bool). option_map (λ (t : InterfaceSetting). t.setting) (cond c (Some (record s { setting = setting })) rest_then)) apart
        ∙ same ∙ sym (ap (λ (c : Bool). option_map (λ (t : InterfaceSetting). t.setting) (cond c (Some s) rest)) apart)
    by false is same = this (s.interface == k) same

differs : (n m : ℕ) → (n == 1) ≡ true → (1 == m) ≡ false → (n == m) ≡ false
differs n m is other = ap (λ (k : ℕ). k == m) (eqb-true n 1 is) ∙ other

-- ---- a request

module _ (function : FunctionFields) (held : RequestState) (p : Setup) (bytes : List ℕ) where
  -- what is done breaks no rule
  pub none_broken : is_done_answer (reply_of function held p bytes) ≡ true → first_broken function held p bytes ≡ None
  unfolding reply_of
  none_broken done = by (first_broken function held p bytes) done
    where
      by : (o : Option ℕ) → is_done_answer (option_map_or is_stalled o (unbroken_reply function held p)) ≡ true → o ≡ None
      by None is = refl
      by (Some rule) is = absurd (true≢false (sym is))

  module _ (sets : sets_interface p ≡ true) where
    is_one : (p.request_type == 1) ≡ true
    is_one = (and_parts (p.request_type == 1) (p.request == 11) sets).0

    not_cur : sets_cur p ≡ false
    not_cur = ap (λ (b : Bool). b && p.request == 1) (differs p.request_type 33 is_one refl)

    pub set_settings : first_broken function held p bytes ≡ None → (after_request function held p bytes).settings ≡ with_setting held.settings p.index p.value
    unfolding after_request left_by
    set_settings none =
        ap (λ (o : Option ℕ). (if is_some o then held else left_by function held p bytes).settings) none
        ∙ ap (λ (c : Bool). (if c then record held { controls = controls_set function held p bytes }
        else if sets_interface p then record held { settings = with_setting held.settings p.index p.value }
        else held).settings) not_cur
        ∙ ap (λ (c : Bool). (if c then record held { settings = with_setting held.settings p.index p.value } else held).settings) sets

    last : (a b c d : Bool) (w x y z : AnswerFields) → a ≡ false → b ≡ false → c ≡ false → d ≡ false
        → is_done_answer (if a then w else if b then x else if c then y else if d then z else is_done) ≡ true
    last true b c d w x y z a_not b_not c_not d_not = absurd (true≢false a_not)
    last false true c d w x y z a_not b_not c_not d_not = absurd (true≢false b_not)
    last false false true d w x y z a_not b_not c_not d_not = absurd (true≢false c_not)
    last false false false true w x y z a_not b_not c_not d_not = absurd (true≢false d_not)
    last false false false false w x y z a_not b_not c_not d_not = refl

    -- and what sets an interface and breaks none is done
    is_answered : is_done_answer (unbroken_reply function held p) ≡ true
    unfolding unbroken_reply
    is_answered =
        last (gets_cur p) (gets_range p) (gets_descriptor p) (gets_interface p) (with_bytes (take p.length (cur_named function held p)))
        (with_bytes (take p.length (ranges_named function p)))
        (with_descriptor 0 (if nat_le p.length function.total then p.length else function.total))
        (with_bytes (take p.length (unwrap_or (setting_of held.settings p.index) 0 ∷ [])))
        (ap (λ (b : Bool). b && p.request == 1) (differs p.request_type 161 is_one refl))
        (ap (λ (b : Bool). b && p.request == 2) (differs p.request_type 161 is_one refl))
        (ap (λ (b : Bool). b && p.request == 6) (differs p.request_type 128 is_one refl))
        (ap (λ (b : Bool). b && p.request == 10) (differs p.request_type 129 is_one refl))

    told_done : first_broken function held p bytes ≡ None → is_done_answer (reply_of function held p bytes) ≡ true
    unfolding reply_of
    told_done none = ap (λ (o : Option ℕ). is_done_answer (option_map_or is_stalled o (unbroken_reply function held p))) none ∙ is_answered

  -- another request leaves all settings as they are
  pub same_settings : (sets_interface p && is_done_answer (reply_of function held p bytes)) ≡ false
      → (after_request function held p bytes).settings ≡ held.settings
  unfolding after_request left_by
  same_settings not_set = by (first_broken function held p bytes) refl
    where
      kept : (d : Bool) → sets_interface p ≡ d → first_broken function held p bytes ≡ None
          → (if d then record held { settings = with_setting held.settings p.index p.value } else held).settings ≡ held.settings
      kept true sets none =
          absurd (true≢false (sym (ap (λ (b : Bool). b && is_done_answer (reply_of function held p bytes)) sets ∙ told_done sets none) ∙ not_set))
      kept false sets none = refl

      by_cur : (c : Bool) → first_broken function held p bytes ≡ None
          → (if c then record held { controls = controls_set function held p bytes }
          else if sets_interface p then record held { settings = with_setting held.settings p.index p.value }
          else held).settings ≡ held.settings
      by_cur true none = refl
      by_cur false none = kept (sets_interface p) refl none

      by : (o : Option ℕ) → first_broken function held p bytes ≡ o
          → (if is_some o then held
          else if sets_cur p then record held { controls = controls_set function held p bytes }
          else if sets_interface p then record held { settings = with_setting held.settings p.index p.value }
          else held).settings ≡ held.settings
      by None none = by_cur (sets_cur p) none
      by (Some rule) broken = refl

-- ---- the device after it

module _ (p : Setup) (bytes : List ℕ) (r : RunningWorld) (set : (sets_interface p && done p bytes r) ≡ true) where
  pub settings_are : (after p bytes r).settings ≡ with_setting r.device.settings p.index p.value
  settings_are =
      let both = and_parts (sets_interface p) (done p bytes r) set in
      set_settings r.device.function (held p bytes r) p bytes both.0 (none_broken r.device.function (held p bytes r) p bytes both.1)

  -- the setting of an interface whose stream begins
  pub setting_is : AreSettingsOf r.device.function r.device.settings → (streaming_interface : StreamInterface)
      → interface_in r.device.function p.index ≡ Some streaming_interface → setting_of (after p bytes r).settings p.index ≡ Some p.value
  setting_is settings streaming_interface there =
      let known : is_some (setting_of r.device.settings p.index) ≡ true =
      settings p.index
      ∙ ap (λ (o : Option StreamInterface). p.index == r.device.function.control_interface || is_some o) there
      ∙ or-true (p.index == r.device.function.control_interface) in
      ap (λ (ss : List InterfaceSetting). setting_of ss p.index) settings_are
      ∙ setting_of_changed r.device.settings p.index p.value p.index known
      ∙ if_true (p.index == p.index) (Some p.value) (setting_of r.device.settings p.index) (own_number p.index)

module _ (p : Setup) (bytes : List ℕ) (r : RunningWorld) (sound : IsSoundRun r) where
  acts_alone : (other : RunningWorld) → (sets_interface p && done p bytes r) ≡ false
      → IsSoundRun (record other { device = asked_device p bytes r; host = r.host })
  acts_alone other not_set = record {
    sound = sound.sound;
    store = store_stays r.device.function (held p bytes r) p bytes sound.store;
    settings = settings_stay r.device.function (held p bytes r) p bytes sound.settings;
    running = λ k o there.
        (let set = sound.running k o there in
        (set.0, ap (λ (ss : List InterfaceSetting). setting_of ss k) (same_settings r.device.function (held p bytes r) p bytes not_set) ∙ set.1, set.2));
    whole = sound.whole;
    slight = sound.slight;
    clocked = sound.clocked;
  }

  restarts : (other : RunningWorld) → (sets_interface p && done p bytes r) ≡ true
      → IsSoundRun (record other { device = after_restart p.index (begun p bytes r) (asked_device p bytes r); host = with_stream p.index (begun p bytes r) r.host })
  unfolding after_restart with_stream
  restarts other set = record {
    sound = sound.sound;
    store = store_stays r.device.function (held p bytes r) p bytes sound.store;
    settings = settings_stay r.device.function (held p bytes r) p bytes sound.settings;
    running = λ k o there. by k o (k == p.index) refl there;
    whole = sound.whole;
    slight = sound.slight;
    clocked = sound.clocked;
  }
    where
      begins : (o : OutStream) (b : Option StreamFields) → begun p bytes r ≡ b → option_and_then out_from b ≡ Some o
          → (n : ℕ) × (setting_of (after p bytes r).settings p.index ≡ Some n) × ((n == 0) ≡ false)
      begins o None is there = absurd (cc)
      begins o (Some s) is there =
          let asked = asked_of r.device.function r.device.controls p.index p.value s is in
          let parts = parts_of r.device.function asked.rate p.index p.value s asked.of in
          (p.value, setting_is p bytes r set sound.settings parts.streaming_interface parts.there, parts.setting)

      by : (k : ℕ) (o : OutStream) (b : Bool) → (k == p.index) ≡ b → (if b then option_and_then out_from (begun p bytes r) else r.device.outs k) ≡ Some o
          → (n : ℕ) × (setting_of (after p bytes r).settings k ≡ Some n) × ((n == 0) ≡ false)
      by k o true same there =
          subst (λ (m : ℕ). (n : ℕ) × (setting_of (after p bytes r).settings m ≡ Some n) × ((n == 0) ≡ false)) (sym (eqb-true k p.index same)) (begins o (begun p bytes r) refl there)
      by k o false apart there =
          let before = sound.running k o there in (
            before.0,
            ap (λ (ss : List InterfaceSetting). setting_of ss k) (settings_are p bytes r set) ∙ other_setting k p.index p.value r.device.settings apart ∙ before.1,
            before.2,
          )

-- ---- a transfer

pub transfers_keep_sound : TransfersKeepSound
transfers_keep_sound p bytes r sound =
    transferred_so p bytes r IsSoundRun
    (restarts p bytes r sound (record (seen p bytes r) { history = given_then p bytes r }))
    (acts_alone p bytes r sound (seen p bytes r)) (carried r (seen p bytes r) sound)
