-- What a transfer of a running device brings back, and the worlds after it, from what its link and its view are seen to do.
use Rattle.std.proofs.Common.{◌≡◌, ◌∙◌, sym, ap, subst, refl, ℕ, Bool, true, false, if◌then◌else◌, ℤ, List, [], ◌&&◌, map, Option, None, Some, is_some}
use Rattle.std.specs.Prelude.{◌<◌, ◌==◌, zero, suc, ◌∷◌, position, slice_get, length, not, Result, Ok, Err, IfOk, IfSome}
use Rattle.std.specs.Option.{option_and_then, option_map, option_map_or}
use Rattle.std.specs.List.{find}
use Rattle.std.proofs.Common.{arith}
use Rattle.std.proofs.lemmas.List.Folds.{find_at}
use Rattle.std.proofs.lemmas.Option.{slice_get_past}
use Rattle.uac_topology_rules.proofs.ListFindLemmas.{position_is, position_none}
use Rattle.uac_store.specs.Keyed.{value_of}
use Rattle.uac_mixer.specs.ViewTransfers.{came_of_get}
use Rattle.uac_mixer.specs.declared.element.Element.{Element}
use Rattle.uac_mixer.specs.declared.link.Broken.{Broken}
use Rattle.uac_alt.specs.declared.settings.InterfaceSetting.{InterfaceSetting}
use Rattle.uac_store.specs.declared.keys.Key.{Key}
use Rattle.uac_request.specs.Requests.{AnswerFields, request_state, rate_at, reply_of, sets_interface, is_done_answer}
use Rattle.uac_request.specs.declared.setup.Setup.{Setup}
use Rattle.uac_topology.specs.Function.{FunctionFields}
use Rattle.uac_units.specs.Hearing.{Reading}
use Rattle.uac_device.specs.DeviceKept as device
use Rattle.uac_alt.specs.AltStreams.{StreamFields, stream_fields, stream_of}
use Rattle.uac_alt.specs.declared.values.Stream.{Stream}
use Rattle.uac_entities.specs.declared.stream.StreamInterface.{StreamInterface}
use Rattle.uac_host.specs.HostCalls.{IsStreamOf}
use Rattle.uac_device.specs.declared.streams.Begun.{Begun}
use Rattle.uac_device.specs.DeviceKept.{begun_fields}
use Rattle.uac_device.specs.DeviceWorld.{BegunFields, DeviceWorld, after_control, after_restart, begun_by, stream_in_setting}
use Rattle.std.proofs.Math.Bool.{and-false}
use Rattle.uac_mixer.specs.Agreement.{IsMade}
use Rattle.uac_mixer.specs.ViewLinks.{BreaksAs, IsAnswered, BreaksAsFaultSays, IsUntouched, LinkFields}
use Rattle.uac_mixer.specs.ViewTransfers.{view_after}
use Rattle.uac_mixer.specs.ViewWorld.{ViewWorld}
use Rattle.uac_mixer.specs.declared.link.When.{When}
use Rattle.uac_mixer.specs.declared.link.When.TheVariants as when
use Rattle.uac_streaming.specs.StreamingKept as streaming
use Rattle.uac_streaming.specs.StreamingWorld.{StreamingWorld, after_following, met_in, numbers, numbers_in, numbers_out}
use Rattle.uac_running.specs.RunningWorld.{RunningWorld, streaming_of}
use Rattle.uac_running.specs.RunningTransfers.{IsRead, acts, break_at, breaks_before, comes_back, holds_setting, reply_in, streams_follow, after_transfer, with_begun, with_break}
use Rattle.uac_running.specs.RunningKept.{RunningFields, RunningStands}
use Rattle.uac_running.specs.TickCounts.{tick_count_of}

-- what a device that stands for a world would answer
replies : (d : device.DeviceFields) (r : RunningWorld) (p : Setup) (sent : List ℕ) → device.DeviceStands d r.device
    → reply_of d.function (request_state d.controls d.settings) p sent ≡ reply_in p sent r
replies d r p sent stands =
    ap (λ (f : FunctionFields). reply_of f (request_state d.controls d.settings) p sent) stands.function
    ∙ ap (λ (c : List (Key × ℤ)). reply_of r.device.function (request_state c d.settings) p sent) stands.controls
    ∙ ap (λ (s : List InterfaceSetting). reply_of r.device.function (request_state r.device.controls s) p sent) stands.settings

-- what comes back over a link that tells its fault
came_by : (fault : Option When) (came : Option AnswerFields) (p : Setup) (sent : List ℕ) (old new : LinkFields) (reply : AnswerFields)
    → BreaksAsFaultSays fault p sent came old new → IsAnswered p sent came old new
    → reply_of old.device.function (request_state old.device.controls old.device.settings) p sent ≡ reply
    → came ≡ (if is_some fault then None else Some reply)
came_by None None p sent old new reply told answered is = absurd (let some = told.breaks.0 refl in cc)
came_by None (Some t) p sent old new reply told answered is = ap Some (answered.device.answer ∙ is)
came_by (Some w) came p sent old new reply told answered is = told.breaks.1 refl

-- what the device after it stands for
acted : (fault : Option When) (came : Option AnswerFields) (p : Setup) (sent : List ℕ) (old new : LinkFields) (w : DeviceWorld)
    → BreaksAsFaultSays fault p sent came old new → IsAnswered p sent came old new → device.DeviceStands old.device w
    → device.DeviceStands new.device (acts fault w (after_control p sent w))
acted None None p sent old new w told answered stands = absurd (let some = told.breaks.0 refl in cc)
acted None (Some t) p sent old new w told answered stands = answered.device.stands w stands
acted (Some when.Before) came p sent old new w told answered stands =
    let kept : IsUntouched old new = told.at when.Before refl in
    subst (λ (d : device.DeviceFields). device.DeviceStands d w) (sym kept.device) stands
acted (Some when.After) came p sent old new w told answered stands =
    let stream_fields : BreaksAs when.After p sent old new = told.at when.After refl in
    stream_fields.1.device.stands w stands

-- ---- what no request changes

either : {X : Type 0} (f : DeviceWorld → X) (v : X) (b : Bool) (x y : DeviceWorld) → f x ≡ v → f y ≡ v → f (if b then x else y) ≡ v
either f v true x y is other = is
either f v false x y is other = other

pub controlled_function : (p : Setup) (sent : List ℕ) (w : DeviceWorld) → (after_control p sent w).function ≡ w.function
unfolding after_control after_restart
controlled_function p sent w = either (λ d. d.function) w.function _ _ _ refl refl

pub controlled_domains : (p : Setup) (sent : List ℕ) (w : DeviceWorld) → (after_control p sent w).domains ≡ w.domains
unfolding after_control after_restart
controlled_domains p sent w = either (λ d. d.domains) w.domains _ _ _ refl refl

pub acts_kept : {X : Type 0} (f : DeviceWorld → X) (fault : Option When) (w c : DeviceWorld) → f c ≡ f w → f (acts fault w c) ≡ f w
acts_kept f None w c is = is
acts_kept f (Some when.Before) w c is = refl
acts_kept f (Some when.After) w c is = is

-- ---- streams

-- a host and its device, where the device is another
abbrev pub with_device : DeviceWorld → StreamingWorld → StreamingWorld
with_device w s = record s { device = w }

-- streams that stand beside a device stand beside one that acted
pub beside : (s : streaming.StreamingFields) (d e : device.DeviceFields) (w : StreamingWorld) (v : DeviceWorld) → streaming.StreamingStands s d w → device.DeviceStands e v
    → v.function ≡ w.device.function → streaming.StreamingStands s e (with_device v w)
beside s d e w v stands acted same = record {
  device = acted;
  host = stands.host;
  same = stands.same ∙ sym same;
  order = stands.order ∙ ap numbers (sym same);
  outs = stands.outs ∙ ap numbers_out (sym same);
  ins = stands.ins ∙ ap numbers_in (sym same);
  met = stands.met ∙ ap (met_in w.met) (sym same);
  steady = stands.steady;
}

-- what a setting that is held begins
abbrev pub begins : Bool → Setup → FunctionFields → List (Key × ℤ) → Option BegunFields
begins held p function controls =
    if held then Some (record { interface = p.index; stream = stream_in_setting function controls p.index p.value }) else None

-- over a link that tells its fault a setting was begun where the device acted and was done
told_began : (fault : Option When) (came : Option AnswerFields) (p : Setup) (sent : List ℕ) (old new : LinkFields) (reply : AnswerFields)
    → BreaksAsFaultSays fault p sent came old new → IsAnswered p sent came old new → old.began ≡ None
    → reply_of old.device.function (request_state old.device.controls old.device.settings) p sent ≡ reply
    → new.began ≡ begins (sets_interface p && (not (breaks_before fault) && is_done_answer reply)) p old.device.function old.device.controls
unfolding begun_by
told_began None None p sent old new reply told answered unbegun is = absurd (let some = told.breaks.0 refl in cc)
told_began None (Some t) p sent old new reply told answered unbegun is =
    answered.began
    ∙ ap (λ (b : Bool). begins (sets_interface p && b) p old.device.function old.device.controls) (ap is_done_answer (answered.device.answer ∙ is))
told_began (Some when.Before) came p sent old new reply told answered unbegun is =
    let kept : IsUntouched old new = told.at when.Before refl in
    kept.began
    ∙ unbegun
    ∙ ap (λ (b : Bool). begins b p old.device.function old.device.controls) (sym (and-false (sets_interface p)))
told_began (Some when.After) came p sent old new reply told answered unbegun is =
    let acts_first : BreaksAs when.After p sent old new = told.at when.After refl in
    acts_first.1.began
    ∙ ap (λ (b : Bool). begins (sets_interface p && b) p old.device.function old.device.controls) (ap is_done_answer (acts_first.1.device.answer ∙ is))

-- the host's streams follow what a setting that is held begins
with_begins : (held : Bool) (p : Setup) (f : FunctionFields) (controls : List (Key × ℤ)) (w : StreamingWorld)
    → with_begun (begins held p f controls) w
    ≡ (if held then after_following p.index (stream_in_setting f controls p.index p.value) w else w)
with_begins true p f controls w = refl
with_begins false p f controls w = refl

-- a stream that is asked for is one of its interface
asked_is : (f : FunctionFields) (controls : List (Key × ℤ)) (interface setting : ℕ) (x : StreamFields)
    → stream_in_setting f controls interface setting ≡ Some x → IsStreamOf f interface x
unfolding stream_in_setting
asked_is f controls interface setting x asked = of_carrier (find (λ s. s.number == interface) f.streams) asked
  where
    at_rate : (o : Option ℕ) → option_and_then (λ rate. stream_of f rate interface setting) o ≡ Some x → IsStreamOf f interface x
    at_rate None is = absurd (let none : None ≡ Some x = is in cc)
    at_rate (Some rate) is = record { rate = rate; setting = setting; is = is }

    of_carrier : (o : Option StreamInterface)
        → option_and_then (λ s. option_and_then (λ rate. stream_of f rate interface setting) (rate_at f controls s)) o ≡ Some x → IsStreamOf f interface x
    of_carrier None is = absurd (let none : None ≡ Some x = is in cc)
    of_carrier (Some s) is = at_rate (rate_at f controls s) is

pub begun_is : (begun : Option Stream) (f g : FunctionFields) (controls : List (Key × ℤ)) (interface setting : ℕ)
    → option_map stream_fields begun ≡ stream_in_setting f controls interface setting → f ≡ g → IfSome begun (λ s. IsStreamOf g interface (stream_fields s))
begun_is None f g controls interface setting asked same = tt
begun_is (Some s) f g controls interface setting asked same =
    subst (λ (h : FunctionFields). IsStreamOf h interface (stream_fields s)) same (asked_is f controls interface setting (stream_fields s) (sym asked))

-- and what was begun is a stream of its interface
pub begun_is_one : (began : Option Begun) (held : Bool) (p : Setup) (f g : FunctionFields) (controls : List (Key × ℤ))
    → option_map begun_fields began ≡ begins held p f controls → f ≡ g
    → IfSome began (λ begun. IfSome begun.stream (λ s. IsStreamOf g begun.interface (stream_fields s)))
begun_is_one None held p f g controls told same = tt
begun_is_one (Some begun) false p f g controls told same = absurd (let none : Some (begun_fields begun) ≡ None = told in cc)
begun_is_one (Some begun) true p f g controls told same =
    begun_is begun.stream f g controls begun.interface p.value
    (ap (λ (b : BegunFields). b.stream) is
    ∙ ap (λ (n : ℕ). stream_in_setting f controls n p.value) (sym (ap (λ (b : BegunFields). b.interface) is))) same
  where
    is : begun_fields begun ≡ record { interface = p.index; stream = stream_in_setting f controls p.index p.value }
    is = (let some : Some (begun_fields begun) ≡ begins true p f controls = told in cc)

-- so is what a link tells of one transfer
pub begun_over : (p : Setup) (sent : List ℕ) (came : Option AnswerFields) (old new : LinkFields) (began : Option Begun) (g : FunctionFields)
    → IsAnswered p sent came old new → old.began ≡ None → option_map begun_fields began ≡ new.began → old.device.function ≡ g
    → IfSome began (λ begun. IfSome begun.stream (λ s. IsStreamOf g begun.interface (stream_fields s)))
unfolding begun_by
begun_over p sent (Some told) old new began g answered unbegun is same =
    begun_is_one began (sets_interface p && is_done_answer told) p old.device.function g old.device.controls (is ∙ answered.began) same
begun_over p sent None old new began g answered unbegun is same = broken answered.1.0 answered.1.1
  where
    broken : (at : When) → BreaksAs at p sent old new
        → IfSome began (λ begun. IfSome begun.stream (λ s. IsStreamOf g begun.interface (stream_fields s)))
    broken when.Before kept = begun_is_one began false p old.device.function g old.device.controls (is ∙ kept.began ∙ unbegun) same
    broken when.After acts_first =
        begun_is_one began (sets_interface p && is_done_answer acts_first.0) p old.device.function g old.device.controls
        (is ∙ acts_first.1.began) same

-- following a device changes the host's side alone
follow_device : (b : Bool) (interface : ℕ) (begun : Option StreamFields) (s : StreamingWorld) → (if b then after_following interface begun s else s).device ≡ s.device
unfolding after_following
follow_device true interface begun s = refl
follow_device false interface begun s = refl

-- all but the device, the streams, the view and the break is as it was
pub record IsRest (p q : RunningFields) : Type 0 where
  pub configuration : q.configuration ≡ p.configuration
  pub jacks : q.jacks ≡ p.jacks
  pub counts : q.counts ≡ p.counts
  pub time : q.time ≡ p.time
  pub detail : q.detail ≡ p.detail
  pub renders : q.renders ≡ p.renders

module _ (meters : List Reading) (r : RunningWorld) (p q : RunningFields) (setup : Setup) (sent : List ℕ) (came : Option AnswerFields) (old new : LinkFields)
    (stands : RunningStands p meters r) (lent : old.device ≡ p.device) (fault : old.fault ≡ Some p.breaks)
    (made : IsMade setup sent came p.view q.view old new) where
  stands_lent : device.DeviceStands old.device r.device
  stands_lent = subst (λ (d : device.DeviceFields). device.DeviceStands d r.device) (sym lent) stands.streaming.device

  pub came_back : came ≡ comes_back setup sent r
  unfolding comes_back
  came_back =
      came_by p.breaks came setup sent old new (reply_in setup sent r) (made.transfer.told p.breaks fault) made.transfer.answered (replies old.device r setup sent stands_lent)
      ∙ ap (λ (o : Option When). if is_some o then None else Some (reply_in setup sent r)) stands.breaks

  -- what the link began is what the device holds
  pub began_told : old.began ≡ None → new.began ≡ begins (holds_setting setup sent r) setup r.device.function r.device.controls
  began_told unbegun =
      told_began p.breaks came setup sent old new (reply_in setup sent r) (made.transfer.told p.breaks fault) made.transfer.answered unbegun (replies old.device r setup sent stands_lent)
      ∙ ap (λ (o : Option When). begins (sets_interface setup && (not (breaks_before o) && is_done_answer (reply_in setup sent r))) setup old.device.function old.device.controls) stands.breaks
      ∙ ap (λ (f : FunctionFields). begins (holds_setting setup sent r) setup f old.device.controls) stands_lent.function
      ∙ ap (λ (controls : List (Key × ℤ)). begins (holds_setting setup sent r) setup r.device.function controls) stands_lent.controls

  pub function_kept : (acts r.breaks r.device (after_control setup sent r.device)).function ≡ r.device.function
  function_kept = acts_kept (λ d. d.function) r.breaks r.device (after_control setup sent r.device) (controlled_function setup sent r.device)

  domains_kept : (acts r.breaks r.device (after_control setup sent r.device)).domains ≡ r.device.domains
  domains_kept = acts_kept (λ d. d.domains) r.breaks r.device (after_control setup sent r.device) (controlled_domains setup sent r.device)

  device_stands : device.DeviceStands new.device (acts r.breaks r.device (after_control setup sent r.device))
  device_stands =
      subst (λ (o : Option When). device.DeviceStands new.device (acts o r.device (after_control setup sent r.device))) stands.breaks
      (acted p.breaks came setup sent old new r.device (made.transfer.told p.breaks fault) made.transfer.answered stands_lent)

  -- before the host's streams follow
  pub streams_stand : streaming.StreamingStands p.streaming new.device (with_device (acts r.breaks r.device (after_control setup sent r.device)) (streaming_of r))
  streams_stand =
      beside p.streaming p.device new.device (streaming_of r) (acts r.breaks r.device (after_control setup sent r.device)) stands.streaming device_stands function_kept

  -- the streams that followed what was begun
  pub begun_stand : (s : streaming.StreamingFields) (began : Option Begun) (f : FunctionFields) → option_map begun_fields began ≡ new.began
      → old.began ≡ None → f ≡ new.device.function
      → ((d : device.DeviceFields) (w : StreamingWorld) → streaming.StreamingStands p.streaming d w → w.device.function ≡ f
      → streaming.StreamingStands s d (with_begun (option_map begun_fields began) w))
      → streaming.StreamingStands s new.device
      (streams_follow setup sent r (with_device (acts r.breaks r.device (after_control setup sent r.device)) (streaming_of r)))
  begun_stand s began f told unbegun same follows =
      let world : StreamingWorld = with_device (acts r.breaks r.device (after_control setup sent r.device)) (streaming_of r) in
      let function = function_kept ∙ sym stands_lent.function ∙ sym made.function ∙ sym same in
      subst (λ (v : StreamingWorld). streaming.StreamingStands s new.device v)
      (ap (λ (o : Option BegunFields). with_begun o world) (told ∙ began_told unbegun)
      ∙ with_begins (holds_setting setup sent r) setup r.device.function r.device.controls world) (follows new.device world streams_stand function)

  pub transfer_stands : q.device ≡ new.device → q.breaks ≡ None → IsRest p q
      → streaming.StreamingStands q.streaming new.device
      (streams_follow setup sent r (with_device (acts r.breaks r.device (after_control setup sent r.device)) (streaming_of r)))
      → RunningStands q meters (after_transfer setup sent r)
  unfolding after_transfer
  transfer_stands kept used rest follows = record {
    streaming =
        subst (λ (d : device.DeviceFields). streaming.StreamingStands q.streaming d
        (streams_follow setup sent r (with_device (acts r.breaks r.device (after_control setup sent r.device)) (streaming_of r)))) (sym kept) follows;
    view =
        made.view
        ∙ ap (λ (f : FunctionFields). view_after f.control_interface setup sent came p.view) stands_lent.function
        ∙ ap (λ (v : ViewWorld). view_after r.device.function.control_interface setup sent came v) stands.view
        ∙ ap (λ (o : Option AnswerFields). view_after r.device.function.control_interface setup sent o r.view) came_back;
    configuration = rest.configuration ∙ stands.configuration;
    breaks = used;
    jacks = rest.jacks ∙ stands.jacks;
    counts =
        rest.counts
        ∙ stands.counts
        ∙ ap (map tick_count_of) (sym domains_kept)
        ∙ ap (λ (d : DeviceWorld). map tick_count_of d.domains)
        (sym (follow_device (holds_setting setup sent r) setup.index (stream_in_setting r.device.function r.device.controls setup.index setup.value)
        (with_device (acts r.breaks r.device (after_control setup sent r.device)) (streaming_of r))));
    time = rest.time ∙ stands.time;
    detail = rest.detail ∙ stands.detail;
    meters = stands.meters;
    renders = rest.renders ∙ stands.renders;
  }

-- a break is set
pub break_set : (meters : List Reading) (r : RunningWorld) (p q : RunningFields) (after : Bool) → RunningStands p meters r → q ≡ record p { breaks = Some (break_at after) }
    → RunningStands q meters (with_break after r)
unfolding with_break
break_set meters r p q after stands is =
    subst (λ (f : RunningFields). RunningStands f meters (with_break after r)) (sym is)
    (record {
      streaming = stands.streaming;
      view = stands.view;
      configuration = stands.configuration;
      breaks = refl;
      jacks = stands.jacks;
      counts = stands.counts;
      time = stands.time;
      detail = stands.detail;
      meters = stands.meters;
      renders = stands.renders;
    })

-- ---- elements

-- there is an element at an index
pub an_element : (xs : List Element) (at : ℕ) → at < length xs → (x : Element) × (slice_get xs at ≡ Some x)
an_element [] at below = absurd (omega arith)
an_element (x ∷ xs) zero below = (x, refl)
an_element (x ∷ xs) (suc n) below = an_element xs n (omega arith)

-- the first that passes a test, by its index
pub found_at : (p : Element → Bool) (xs ys : List Element) (at : Option ℕ) → xs ≡ ys → at ≡ position p xs → option_and_then (slice_get ys) at ≡ find p ys
found_at p xs ys at same is =
    ap (option_and_then (slice_get ys)) (is ∙ ap (position p) same) ∙ first p ys
  where
    from : (p : Element → Bool) (ys : List Element) (o : Option ℕ) → position p ys ≡ o → option_and_then (slice_get ys) o ≡ find p ys
    from p ys (Some k) found = (let w = position_is p ys k found in ap (slice_get ys) (sym w.1) ∙ sym (find_at p ys))
    from p ys None none = sym (find_at p ys ∙ ap (slice_get ys) (position_none p ys none) ∙ slice_get_past ys (length ys) (omega arith))

    first : (p : Element → Bool) (ys : List Element) → option_and_then (slice_get ys) (position p ys) ≡ find p ys
    first p ys = from p ys (position p ys) refl

-- what a read of an element answers
pub read_told : (x : Element) (result : Result ℤ Broken) (r : RunningWorld) (p : Setup) (sent : List ℕ) → came_of_get x result ≡ comes_back p sent r
    → (controls : List (Key × ℤ)) → controls ≡ r.device.controls → IfOk result (λ value. value_of controls x.key ≡ Some value) → IsRead x r result
unfolding comes_back
read_told x (Ok value) r p sent came controls same is = (unbroken (is_some r.breaks) refl, subst (λ (cs : List (Key × ℤ)). value_of cs x.key ≡ Some value) same is)
  where
    unbroken : (b : Bool) → is_some r.breaks ≡ b → is_some r.breaks ≡ false
    unbroken false test = test
    unbroken true test = (let none : came_of_get x (Ok value) ≡ None = came ∙ ap (λ (c : Bool). if c then None else Some (reply_in p sent r)) test in cc)
read_told x (Err broken) r p sent came controls same is = broke (is_some r.breaks) refl
  where
    broke : (b : Bool) → is_some r.breaks ≡ b → is_some r.breaks ≡ true
    broke true test = test
    broke false test = (let some : came_of_get x (Err broken) ≡ Some (reply_in p sent r) = came ∙ ap (λ (c : Bool). if c then None else Some (reply_in p sent r)) test in cc)
