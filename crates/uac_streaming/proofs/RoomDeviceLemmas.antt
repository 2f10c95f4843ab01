-- What the events of a microframe leave of the room in a device's rings.
use Rattle.std.proofs.Common.{◌≡◌, ◌∙◌, sym, refl, ap, subst, arith, ℕ, suc, ◌*◌, ◌%◌, ◌<◌, ◌≤◌, ◌⊎◌, ◌==◌, nat_eq, Bool, true, false, if◌then◌else◌, ℤ, List, [], ◌∷◌, map, Option, Some, None, IfSome, inl, inr}
use Rattle.std.specs.List.{All, IsDistinct, find}
use Rattle.std.specs.Option.{option_map, option_map_or}
use Rattle.std.proofs.lemmas.Bool.{eqb-false, eqb-true, true≢false}
use Rattle.std.proofs.lemmas.List.Elements.{All-map, All-weaker}
use Rattle.std.proofs.lemmas.Map.Keys.{IsDistinct-head}
use Rattle.uac_entities.specs.declared.stream.StreamInterface.{StreamInterface}
use Rattle.uac_topology.specs.Function.{FunctionFields}
use Rattle.uac_graph.specs.Meaning.{entity}
use Rattle.uac_flow.specs.Flows.{ZerosFit}
use Rattle.uac_flow.specs.FlowStreams.{OutStream, after_packet, after_taking, after_ticks, is_due, out_after_end}
use Rattle.uac_device.specs.InterfaceStreams.{streams_changed_at, changed_where, either_due}
use Rattle.uac_device.specs.DeviceWorld.{DeviceWorld, Domain, ZerosFitIn, after_advance, is_due_in, next_ticks, after_receiving, after_sending_in_packet, set_jack, after_end, steps_with_next, after_tick}
use Rattle.uac_device.specs.DeviceKept.{IsDeviationInRange}
use Rattle.uac_streaming.specs.Room.{HasRoom, HaveRoom}
use Rattle.uac_streaming.specs.StreamingWorld.{numbers}
use Rattle.uac_streaming.proofs.AmongLemmas.{Among, among_cases, among_first, among_none, among_rest, apart_from, known_among}
use Rattle.uac_streaming.proofs.RoomLemmas.{IsWithin, next_few, opened, packet_came, packet_keeps, ended_again, ended_room, tick_came, tick_keeps, ticks_came, zeros_fit}

-- ---- streams that change

mapped_some : {A : Type 0} (f : A → A) (s : Option A) (y : A) → option_map f s ≡ Some y → (x : A) × (s ≡ Some x) × (f x ≡ y)
mapped_some f None y e = absurd (cc)
mapped_some f (Some x) y e = (x, refl, cc)

-- that of one interface
each_at : (P Q : ℕ → OutStream → Type 0) (interface : ℕ) (change : OutStream → OutStream) (streams : ℕ → Option OutStream)
    → ((o : OutStream) → streams interface ≡ Some o → P interface o → Q interface (change o))
    → ((k : ℕ) (o : OutStream) → (k == interface) ≡ false → P k o → Q k o)
    → ((k : ℕ) (o : OutStream) → streams k ≡ Some o → P k o)
    → (k : ℕ) (o : OutStream) → streams_changed_at interface change streams k ≡ Some o → Q k o
each_at P Q interface change streams here there all k o is = by (k == interface) refl is
  where
    by : (b : Bool) → (k == interface) ≡ b → (if b then option_map change (streams k) else streams k) ≡ Some o → Q k o
    by true same e =
        let at : k ≡ interface = eqb-true k interface same in
        let before = mapped_some change (streams k) o e in
        let was : streams interface ≡ Some before.0 = ap streams (sym at) ∙ before.1 in
        subst (Q k) before.2 (subst (λ (i : ℕ). Q i (change before.0)) (sym at) (here before.0 was (all interface before.0 was)))
    by false other e = there k o other (all k o e)

-- those of some interfaces
each_where : (P Q : ℕ → OutStream → Type 0) (test : ℕ → Bool) (change : ℕ → OutStream → OutStream) (streams : ℕ → Option OutStream)
    → ((k : ℕ) (o : OutStream) → test k ≡ true → P k o → Q k (change k o))
    → ((k : ℕ) (o : OutStream) → test k ≡ false → P k o → Q k o)
    → ((k : ℕ) (o : OutStream) → streams k ≡ Some o → P k o)
    → (k : ℕ) (o : OutStream) → changed_where test change streams k ≡ Some o → Q k o
each_where P Q test change streams here there all k o is =
    let before = mapped_some (λ s. if test k then change k s else s) (streams k) o is in
    subst (Q k) before.2 (by before.0 (test k) refl (all k before.0 before.1))
  where
    by : (s : OutStream) (b : Bool) → test k ≡ b → P k s → Q k (if b then change k s else s)
    by s true passes p = here k s passes p
    by s false fails p = there k s fails p

-- ---- clocks and lists of numbers

-- the terminal of an interface is of a clock domain
abbrev pub on : FunctionFields → ℕ → ℕ → Bool
on function clock interface =
    option_map_or (λ s. (entity function.entities s.terminal).clock == clock) (find (λ s. s.number == interface) function.streams) false

-- of one alone
one_clock : (function : FunctionFields) (clock other interface : ℕ) → on function clock interface ≡ true
    → on function other interface ≡ true → clock ≡ other
one_clock function clock other interface = by (find (λ s. s.number == interface) function.streams)
  where
    by : (o : Option StreamInterface) → option_map_or (λ s. (entity function.entities s.terminal).clock == clock) o false ≡ true
        → option_map_or (λ s. (entity function.entities s.terminal).clock == other) o false ≡ true → clock ≡ other
    by None first second = absurd (true≢false (sym first))
    by (Some s) first second = sym (eqb-true _ _ first) ∙ eqb-true _ _ second

off_any : (function : FunctionFields) (clock interface : ℕ) → find (λ s. s.number == interface) function.streams ≡ None
    → on function clock interface ≡ false
off_any function clock interface none =
    ap (λ (o : Option StreamInterface). option_map_or (λ s. (entity function.entities s.terminal).clock == clock) o false) none

same_eq : (n : ℕ) → nat_eq n n ≡ true
same_eq n = grind arith

-- ---- a device within a microframe

abbrev pub left_on : Bool → ℕ → ℕ
left_on true left = left
left_on false left = 0

still : (b : Bool) → left_on b 0 ≡ 0
still true = refl
still false = refl

-- a stream while of a domain so many ticks are still to be played, and the clocks of others are still to go on. One whose interface isn't
-- known stays as it was
pub record IsAmong (function : FunctionFields) (loses : ℕ → Bool) (ahead : List ℕ) (clock left k : ℕ) (o : OutStream) : Type 0 where
  pub within : IsWithin (loses k) (left_on (on function clock k) left) o
  pub waiting : (c : ℕ) → Among c ahead → on function c k ≡ true → o.ticks ≤ 27 * (o.microframes % o.stream.service)
  pub unlinked : find (λ s. s.number == k) function.streams ≡ None → HasRoom o

-- so it is for each of a device, and something is so of its function
pub record AreWithin (about : FunctionFields → Type 0) (loses : ℕ → Bool) (ahead : List ℕ) (clock left : ℕ) (w : DeviceWorld) : Type 0 where
  pub deviations : All (λ d. IsDeviationInRange d.deviation) w.domains
  pub apart : IsDistinct nat_eq w.function.domains
  pub function : about w.function
  pub streams : (k : ℕ) (o : OutStream) → w.outs k ≡ Some o → IsAmong w.function loses ahead clock left k o

-- as the microframe begins
pub all_opened : (about : FunctionFields → Type 0) (loses : ℕ → Bool) (ahead : List ℕ) (w : DeviceWorld) → about w.function
    → HaveRoom w → AreWithin about loses ahead 0 0 w
all_opened about loses ahead w holds room = record {
  deviations = room.deviations;
  apart = room.apart;
  function = holds;
  streams = λ k o there.
      (let has = room.streams k o there in
      record {
        within = subst (λ (n : ℕ). IsWithin (loses k) n o) (sym (still (on w.function 0 k))) (opened (loses k) o has);
        waiting = λ _ _ _. has.few;
        unlinked = λ _. has;
      });
}

-- while no ticks are to be played, it is no matter of which domain they are
other_clock : (function : FunctionFields) (loses : ℕ → Bool) (ahead : List ℕ) (clock other k : ℕ) (o : OutStream)
    → IsAmong function loses ahead clock 0 k o
    → IsAmong function loses ahead other 0 k o
other_clock function loses ahead clock other k o is = record {
  within = subst (λ (n : ℕ). IsWithin (loses k) n o) (still (on function clock k) ∙ sym (still (on function other k))) is.within;
  waiting = is.waiting;
  unlinked = is.unlinked;
}

pub any_clock : (about : FunctionFields → Type 0) (loses : ℕ → Bool) (ahead : List ℕ) (clock other : ℕ) (w : DeviceWorld)
    → AreWithin about loses ahead clock 0 w
    → AreWithin about loses ahead other 0 w
any_clock about loses ahead clock other w is = record {
  deviations = is.deviations;
  apart = is.apart;
  function = is.function;
  streams = λ k o there. other_clock w.function loses ahead clock other k o (is.streams k o there);
}

-- a packet comes to the device, or is lost, where an interface that is known is due
pub received_within : (about : FunctionFields → Type 0) (loses : ℕ → Bool) (ahead : List ℕ) (clock interface : ℕ) (packet : List ℕ) (w : DeviceWorld)
    → (find (λ s. s.number == interface) w.function.streams ≡ None → ⊥) → is_due_in w interface ≡ true
    → AreWithin about loses ahead clock 0 w
    → AreWithin about loses ahead clock 0 (after_receiving interface (if loses interface then None else Some packet) w)
unfolding after_receiving is_due_in
received_within about loses ahead clock interface packet w known due is = record {
  deviations = is.deviations;
  apart = is.apart;
  function = is.function;
  streams =
      each_at (IsAmong w.function loses ahead clock 0) (IsAmong w.function loses ahead clock 0) interface
      (after_packet (if loses interface then None else Some packet)) w.outs here (λ k o other a. a) is.streams;
}
  where
    here : (o : OutStream) → w.outs interface ≡ Some o → IsAmong w.function loses ahead clock 0 interface o
        → IsAmong w.function loses ahead clock 0 interface (after_packet (if loses interface then None else Some packet) o)
    here o there a =
        let now : is_due o.stream o.microframes ≡ true = sym (ap (λ (s : Option OutStream). either_due s (w.ins interface)) there) ∙ due in
        let none = still (on w.function clock interface) in
        record {
          within =
              subst (λ (n : ℕ). IsWithin (loses interface) n (after_packet (if loses interface then None else Some packet) o)) (sym none)
              (packet_came (loses interface) packet o now (subst (λ (n : ℕ). IsWithin (loses interface) n o) none a.within));
          waiting = λ c later on_c. packet_keeps (λ ticks microframes service. ticks ≤ 27 * (microframes % service)) (loses interface) packet o (a.waiting c later on_c);
          unlinked = λ none. absurd (known none);
        }

-- the device sends a packet, or a jack is given a frame
pub sent_within : (about : FunctionFields → Type 0) (loses : ℕ → Bool) (ahead : List ℕ) (clock left interface : ℕ) (w : DeviceWorld)
    → AreWithin about loses ahead clock left w
    → AreWithin about loses ahead clock left (after_sending_in_packet interface w)
unfolding after_sending_in_packet
sent_within about loses ahead clock left interface w is = record { deviations = is.deviations; apart = is.apart; function = is.function; streams = is.streams }

pub jack_within : (about : FunctionFields → Type 0) (loses : ℕ → Bool) (ahead : List ℕ) (clock left terminal : ℕ) (frame : List ℤ) (w : DeviceWorld) → AreWithin about loses ahead clock left w
    → AreWithin about loses ahead clock left (set_jack terminal frame w)
unfolding set_jack
jack_within about loses ahead clock left terminal frame w is = record { deviations = is.deviations; apart = is.apart; function = is.function; streams = is.streams }

-- the deviations of domains of which some change, but not in that
pub deviations_kept : (change : Domain → Domain) → ((d : Domain) → IsDeviationInRange d.deviation → IsDeviationInRange (change d).deviation)
    → (test : Domain → Bool) (ds : List Domain)
    → All (λ d. IsDeviationInRange d.deviation) ds → All (λ d. IsDeviationInRange d.deviation) (map (λ d. if test d then change d else d) ds)
deviations_kept change keeps test ds all =
    All-map (λ d. IsDeviationInRange d.deviation) (λ d. if test d then change d else d) ds
    (All-weaker (λ d. IsDeviationInRange d.deviation) (λ d. IsDeviationInRange (if test d then change d else d).deviation) (λ d range. by d (test d) range) ds all)
  where
    by : (d : Domain) (b : Bool) → IsDeviationInRange d.deviation → IsDeviationInRange (if b then change d else d).deviation
    by d true range = keeps d range
    by d false range = range

-- a domain's clock goes on
pub advanced_within : (about : FunctionFields → Type 0) (loses : ℕ → Bool) (clock before : ℕ) (ahead : List ℕ) (w : DeviceWorld)
    → IsDistinct nat_eq (clock ∷ ahead)
    → AreWithin about loses (clock ∷ ahead) before 0 w → AreWithin about loses ahead clock (next_ticks clock w) (after_advance clock w)
unfolding after_advance
advanced_within about loses clock before ahead w once is = record {
  deviations = deviations_kept (λ d. record d { steps = steps_with_next w d }) (λ d range. range) (λ d. d.id == clock) w.domains is.deviations;
  apart = is.apart;
  function = is.function;
  streams =
      each_where (IsAmong w.function loses (clock ∷ ahead) before 0) (IsAmong w.function loses ahead clock (next_ticks clock w)) (on w.function clock)
      (λ interface. after_ticks (next_ticks clock w)) w.outs here there is.streams;
}
  where
    here : (k : ℕ) (o : OutStream) → on w.function clock k ≡ true → IsAmong w.function loses (clock ∷ ahead) before 0 k o
        → IsAmong w.function loses ahead clock (next_ticks clock w) k (after_ticks (next_ticks clock w) o)
    here k o its a = record {
      within =
          subst (λ (b : Bool). IsWithin (loses k) (left_on b (next_ticks clock w)) (after_ticks (next_ticks clock w) o)) (sym its)
          (ticks_came (loses k) (next_ticks clock w) o (next_few w clock is.deviations) (a.waiting clock (among_first clock ahead) its)
          (subst (λ (n : ℕ). IsWithin (loses k) n o) (still (on w.function before k)) a.within));
      waiting = λ c later on_c.
          absurd (true≢false (sym (subst (λ (n : ℕ). nat_eq clock n ≡ true) (one_clock w.function clock c k its on_c) (same_eq clock))
          ∙ apart_from clock c ahead (IsDistinct-head nat_eq clock ahead once) later));
      unlinked = λ none. absurd (true≢false (sym its ∙ off_any w.function clock k none));
    }

    there : (k : ℕ) (o : OutStream) → on w.function clock k ≡ false → IsAmong w.function loses (clock ∷ ahead) before 0 k o
        → IsAmong w.function loses ahead clock (next_ticks clock w) k o
    there k o other a = record {
      within =
          subst (λ (b : Bool). IsWithin (loses k) (left_on b (next_ticks clock w)) o) (sym other)
          (subst (λ (n : ℕ). IsWithin (loses k) n o) (still (on w.function before k)) a.within);
      waiting = λ c later. a.waiting c (among_rest c clock ahead later);
      unlinked = a.unlinked;
    }

-- it ticks
pub ticked_within : (about : FunctionFields → Type 0) (loses : ℕ → Bool) (ahead : List ℕ) (clock left : ℕ) (w : DeviceWorld)
    → AreWithin about loses ahead clock (suc left) w
    → AreWithin about loses ahead clock left (after_tick clock w)
unfolding after_tick
ticked_within about loses ahead clock left w is = record {
  deviations = is.deviations;
  apart = is.apart;
  function = is.function;
  streams =
      each_where (IsAmong w.function loses ahead clock (suc left)) (IsAmong w.function loses ahead clock left) (on w.function clock)
      (λ interface. after_taking) w.outs here there is.streams;
}
  where
    here : (k : ℕ) (o : OutStream) → on w.function clock k ≡ true → IsAmong w.function loses ahead clock (suc left) k o
        → IsAmong w.function loses ahead clock left k (after_taking o)
    here k o its a = record {
      within =
          subst (λ (b : Bool). IsWithin (loses k) (left_on b left) (after_taking o)) (sym its)
          (tick_came (loses k) left o (subst (λ (b : Bool). IsWithin (loses k) (left_on b (suc left)) o) its a.within));
      waiting = λ c later on_c. tick_keeps (λ ticks microframes service. ticks ≤ 27 * (microframes % service)) o (a.waiting c later on_c);
      unlinked = λ none. absurd (true≢false (sym its ∙ off_any w.function clock k none));
    }

    there : (k : ℕ) (o : OutStream) → on w.function clock k ≡ false → IsAmong w.function loses ahead clock (suc left) k o
        → IsAmong w.function loses ahead clock left k o
    there k o other a = record {
      within =
          subst (λ (b : Bool). IsWithin (loses k) (left_on b left) o) (sym other)
          (subst (λ (b : Bool). IsWithin (loses k) (left_on b (suc left)) o) other a.within);
      waiting = a.waiting;
      unlinked = a.unlinked;
    }

-- the zeros of each stream fit
pub all_fit : (about : FunctionFields → Type 0) (loses : ℕ → Bool) (ahead : List ℕ) (clock : ℕ) (w : DeviceWorld) (interface : ℕ)
    → AreWithin about loses ahead clock 0 w → ZerosFitIn w interface
unfolding ZerosFitIn
all_fit about loses ahead clock w interface is = by (w.outs interface) refl
  where
    by : (s : Option OutStream) → w.outs interface ≡ s → IfSome s ZerosFit
    by None e = tt
    by (Some o) e = zeros_fit (loses interface) o (subst (λ (n : ℕ). IsWithin (loses interface) n o) (still (on w.function clock interface)) (is.streams interface o e).within)

-- ---- the end of the microframe

-- a stream has room, or its interface is still to come
pub IsEnding : (ℕ → Bool) → List ℕ → ℕ → OutStream → Type 0
IsEnding loses ahead k o = HasRoom o ⊎ (Among k ahead × IsWithin (loses k) 0 o)

-- so it is for each of a device, and something is so of its function
pub record AreEnding (about : FunctionFields → Type 0) (loses : ℕ → Bool) (ahead : List ℕ) (w : DeviceWorld) : Type 0 where
  pub deviations : All (λ d. IsDeviationInRange d.deviation) w.domains
  pub apart : IsDistinct nat_eq w.function.domains
  pub function : about w.function
  pub streams : (k : ℕ) (o : OutStream) → w.outs k ≡ Some o → IsEnding loses ahead k o

-- the numbers of interfaces are bytes (USB 2.0, 9.6.5)
abbrev pub HaveSmallNumbers : FunctionFields → Type 0
HaveSmallNumbers function = All (λ s. s.number < 256) function.streams

-- as the ends begin
pub all_ending : (about : FunctionFields → Type 0) (loses : ℕ → Bool) (clock : ℕ) (w : DeviceWorld) → HaveSmallNumbers w.function
    → AreWithin about loses [] clock 0 w → AreEnding about loses (numbers w.function) w
unfolding IsEnding
all_ending about loses clock w numbered is = record {
  deviations = is.deviations;
  apart = is.apart;
  function = is.function;
  streams = λ k o there. by k o (is.streams k o there) (find (λ s. s.number == k) w.function.streams) refl;
}
  where
    by : (k : ℕ) (o : OutStream) → IsAmong w.function loses [] clock 0 k o → (s : Option StreamInterface)
        → find (λ s. s.number == k) w.function.streams ≡ s
        → HasRoom o ⊎ (Among k (numbers w.function) × IsWithin (loses k) 0 o)
    by k o a None unknown = inl (a.unlinked unknown)
    by k o a (Some s) known =
        inr (known_among w.function k s numbered known, subst (λ (n : ℕ). IsWithin (loses k) n o) (still (on w.function clock k)) a.within)

-- the microframe ends for an interface's stream
pub end_keeps_ending : (about : FunctionFields → Type 0) (loses : ℕ → Bool) (interface : ℕ) (ahead : List ℕ) (w : DeviceWorld)
    → AreEnding about loses (interface ∷ ahead) w
    → AreEnding about loses ahead (after_end interface w)
unfolding after_end IsEnding
end_keeps_ending about loses interface ahead w is = record {
  deviations = is.deviations;
  apart = is.apart;
  function = is.function;
  streams = each_at (IsEnding loses (interface ∷ ahead)) (IsEnding loses ahead) interface out_after_end w.outs here there is.streams;
}
  where
    here : (o : OutStream) → w.outs interface ≡ Some o
        → HasRoom o ⊎ (Among interface (interface ∷ ahead) × IsWithin (loses interface) 0 o)
        → HasRoom (out_after_end o) ⊎ (Among interface ahead × IsWithin (loses interface) 0 (out_after_end o))
    here o _ ending = elim ending [ inl room ↦ inl (ended_again o room) | inr both ↦ inl (ended_room (loses interface) o both.1) ]

    there : (k : ℕ) (o : OutStream) → (k == interface) ≡ false → HasRoom o ⊎ (Among k (interface ∷ ahead) × IsWithin (loses k) 0 o)
        → HasRoom o ⊎ (Among k ahead × IsWithin (loses k) 0 o)
    there k o other (inl room) = inl room
    there k o other (inr both) = elim (among_cases k interface ahead both.0) [
      | inl same ↦ absurd (eqb-false k interface other (sym same))
      | inr later ↦ inr (later, both.1)
    ]

-- after the last there is room in all
pub all_ended : (about : FunctionFields → Type 0) (loses : ℕ → Bool) (w : DeviceWorld) → AreEnding about loses [] w → HaveRoom w
unfolding IsEnding
all_ended about loses w is = record {
  deviations = is.deviations;
  apart = is.apart;
  streams = λ k o there. by k o (is.streams k o there);
}
  where
    by : (k : ℕ) (o : OutStream) → HasRoom o ⊎ (Among k [] × IsWithin (loses k) 0 o) → HasRoom o
    by k o (inl room) = room
    by k o (inr both) = absurd (among_none k both.0)
