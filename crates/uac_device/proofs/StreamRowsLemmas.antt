-- Several ticks at once, interface by interface: what one stream does with rows.
use Rattle.std.proofs.Common.{◌≡◌, ◌∙◌, sym, refl, ap, subst, arith, eq-eqb, ℕ, zero, suc, ◌<◌, ◌==◌, ◌&&◌, Bool, true, false, if◌then◌else◌, ℤ, pos, List, [], ◌∷◌, Option, Some, None, length, get_or, replicate, set, unwrap_or}
use Rattle.std.specs.Option.{IfSome, option_map}
use Rattle.std.proofs.lemmas.List.{set-set}
use Rattle.std.proofs.lemmas.Option.{same_Some}
use Rattle.uac_units.specs.SampleRows.{HaveTicks, frame_at, row_lengths}
use Rattle.uac_units.proofs.SampleRowsLemmas.{length-frame_at, ticks_kept}
use Rattle.uac_graph.specs.TickRows.{RowSlots, slot_frames, slot_lengths}
use Rattle.uac_graph.specs.Wiring.{Frames, frame_on, samples_on, silence}
use Rattle.uac_graph.proofs.TickRowsLemmas.{count_seen, lengths_set, rows_counted, slot_set}
use Rattle.uac_flow.specs.declared.inward.InFlow.{InFlow}
use Rattle.uac_flow.specs.Flows.{InStands}
use Rattle.uac_flow.specs.FlowStreams.{InStream, OutStream, after_putting}
use Rattle.uac_flow.specs.FlowTicks.{given_at, in_after_ticks, next_taken_at, out_after_ticks}
use Rattle.uac_flow.proofs.FlowTicksLemmas.{out_next}
use Rattle.uac_device.specs.declared.device_stream.Flow.TheVariants as flow
use Rattle.uac_device.specs.declared.device_stream.Port.{Port}
use Rattle.uac_device.specs.declared.device_stream.DeviceStream.{DeviceStream}
use Rattle.uac_device.specs.DeviceStreams.{Changes, IsWired, frame_given, gives_to}
use Rattle.uac_device.specs.DeviceStreamTicks.{stream_with_on}
use Rattle.uac_device.proofs.DeviceStreamsFlowLemmas.{known}
use Rattle.uac_device.proofs.DeviceStreamsFrameLemmas.{hushed}

-- ---- wires at each tick

-- a wire has its channels at each tick
pub wired_at : (tick : ℕ) (slots : RowSlots) (id channels : ℕ) → option_map length (frame_on (slot_frames 0 slots) id) ≡ Some channels
    → option_map length (frame_on (slot_frames tick slots) id) ≡ Some channels
wired_at tick slots id channels is = count_seen tick slots id ∙ sym (count_seen 0 slots id) ∙ is

-- and where the rows were written over
pub wired_kept : (old new : RowSlots) (id channels : ℕ) → slot_lengths new ≡ slot_lengths old → option_map length (frame_on (slot_frames 0 old) id) ≡ Some channels
    → option_map length (frame_on (slot_frames 0 new) id) ≡ Some channels
wired_kept old new id channels same is =
    count_seen 0 new id
    ∙ ap (λ (ls : List (Option (List ℕ))). option_map length (get_or ls id None)) same
    ∙ sym (count_seen 0 old id)
    ∙ is

-- so many rows are read there
wired_samples : (o : Option (List ℤ)) (channels : ℕ) → option_map length o ≡ Some channels → length (unwrap_or o []) ≡ channels
wired_samples None channels is = absurd (let none : ◌≡◌ {A = Option ℕ} None (Some channels) = is in cc)
wired_samples (Some samples) channels is = same_Some (length samples) channels is

pub got_channels : (tick : ℕ) (rows : List (List ℤ)) (frames : Frames) (id channels : ℕ) → frame_at tick rows ≡ samples_on frames id
    → option_map length (frame_on frames id) ≡ Some channels → length rows ≡ channels
got_channels tick rows frames id channels is wired =
    sym (length-frame_at tick rows) ∙ ap length is ∙ wired_samples (frame_on frames id) channels wired

-- ---- rows taken out and put back

pub held_channels : (slots : RowSlots) (id channels : ℕ) (held : List (List ℤ)) → Some held ≡ get_or slots id None
    → option_map length (frame_on (slot_frames 0 slots) id) ≡ Some channels → length held ≡ channels
held_channels slots id channels held there wired =
    same_Some (length held) channels (ap (option_map length) there ∙ rows_counted 0 slots id ∙ wired)

pub none_held : (slots : RowSlots) (id channels : ℕ) → None ≡ get_or slots id None → option_map length (frame_on (slot_frames 0 slots) id) ≡ Some channels → ⊥
none_held slots id channels there wired =
    let none : ◌≡◌ {A = Option ℕ} None (Some channels) = ap (option_map length) there ∙ rows_counted 0 slots id ∙ wired in cc

-- what is so of the rows in a slot
pub held_ticks : {V : Type 0} (items : V → List (List ℤ)) (ticks : ℕ) (o : Option V) (v : V) → o ≡ Some v → IfSome o (λ w. HaveTicks ticks (items w)) → HaveTicks ticks (items v)
held_ticks items ticks o v is have = subst (λ p. IfSome p (λ w. HaveTicks ticks (items w))) is have

-- rows as long as others have their ticks
pub back_ticks : (ticks less : ℕ) (held rows back : List (List ℤ)) → less ≡ ticks → back ≡ rows → row_lengths rows ≡ row_lengths held → HaveTicks ticks held → HaveTicks less back
back_ticks ticks less held rows back room is same have =
    subst (λ (n : ℕ). HaveTicks n back) (sym room) (ticks_kept ticks held back (ap row_lengths is ∙ same) have)

inside : {X : Type 0} (xs : List (Option X)) (id : ℕ) (x : X) → Some x ≡ get_or xs id None → id < length xs
inside [] id x there = absurd (let none : Some x ≡ None = there in cc)
inside (y ∷ ys) zero x there = omega arith
inside (y ∷ ys) (suc id) x there = let more : id < length ys = inside ys id x there in omega (arith, more)

written_back : (slots taken new : RowSlots) (id : ℕ) (back : List (List ℤ)) → taken ≡ set slots id None → new ≡ set taken id (Some back) → new ≡ set slots id (Some back)
written_back slots taken new id back gone is =
    is ∙ ap (λ (s : RowSlots). set s id (Some back)) gone ∙ set-set slots id None (Some back)

-- the frames on the wires, where the rows of one were taken out, changed and put back
pub frames_back : (slots taken new : RowSlots) (id : ℕ) (held rows back : List (List ℤ)) → Some held ≡ get_or slots id None → taken ≡ set slots id None → new ≡ set taken id (Some back)
    → back ≡ rows → (tick : ℕ) (frame : List ℤ) → frame_at tick rows ≡ frame
    → (k : ℕ) → frame_on (slot_frames tick new) k ≡ (if id == k then Some frame else frame_on (slot_frames tick slots) k)
frames_back slots taken new id held rows back there gone is same tick frame own k =
    slot_set tick slots new id (Some back) frame (inside slots id held there) (written_back slots taken new id back gone is) (ap Some (ap (frame_at tick) same ∙ own)) k

pub lengths_back : (slots taken new : RowSlots) (id : ℕ) (held rows back : List (List ℤ)) → Some held ≡ get_or slots id None → taken ≡ set slots id None → new ≡ set taken id (Some back)
    → back ≡ rows → row_lengths rows ≡ row_lengths held → slot_lengths new ≡ slot_lengths slots
lengths_back slots taken new id held rows back there gone is same long =
    lengths_set slots new id (Some back) (written_back slots taken new id back gone is)
    (ap Some (ap row_lengths same ∙ long) ∙ ap (option_map row_lengths) there)

-- ---- what is given

gives_when : (a b c : Bool) → a ≡ true → b ≡ true → (a && (b && c)) ≡ c
gives_when a b c first second = ap (λ (x : Bool). x && (b && c)) first ∙ ap (λ (x : Bool). x && c) second

pub gives_here : (domain id : ℕ) (p : Port) → p.out ≡ true → p.domain ≡ domain → gives_to domain id p ≡ (p.terminal == id)
gives_here domain id p out same = gives_when p.out (p.domain == domain) (p.terminal == id) out (eq-eqb p.domain domain same)

-- a terminal whose rows are hushed has silence at each tick
pub rested : (tick domain : ℕ) (p : Port) (id : ℕ) (old new : RowSlots) → p.out ≡ true → p.domain ≡ domain → IsWired (slot_frames 0 old) p
    → frame_on (slot_frames tick new) id
    ≡ (if p.terminal == id then option_map (λ samples. replicate (length samples) (pos 0)) (frame_on (slot_frames tick old) p.terminal) else frame_on (slot_frames tick old) id)
    → frame_on (slot_frames tick new) id ≡ (if gives_to domain id p then Some (silence p.channels) else frame_on (slot_frames tick old) id)
rested tick domain p id old new out same wired is =
    is
    ∙ ap (λ (o : Option (List ℤ)). if p.terminal == id then o else frame_on (slot_frames tick old) id)
    (hushed (frame_on (slot_frames tick old) p.terminal) p.channels (wired_at tick old p.terminal p.channels wired))
    ∙ ap (λ (b : Bool). if b then Some (silence p.channels) else frame_on (slot_frames tick old) id) (sym (gives_here domain id p out same))

-- what a stream gives at a tick
pub given_as : (t : ℕ) (o : OutStream) (p : Port) → o.stream.channels ≡ p.channels → frame_given (Some (out_after_ticks t o)) p ≡ given_at t o
given_as t o p same =
    ap (λ (next : Option (List ℤ)). unwrap_or next (silence p.channels)) (out_next t o)
    ∙ ap (λ (n : ℕ). unwrap_or (next_taken_at t o) (silence n)) (sym same)

pub taken_given : (t domain : ℕ) (p : Port) (id : ℕ) (old new : Option (List ℤ)) (o : OutStream) (out : Option OutStream) → p.out ≡ true → p.domain ≡ domain → out ≡ Some o
    → o.stream.channels ≡ p.channels → new ≡ (if p.terminal == id then Some (given_at t o) else old)
    → new ≡ (if gives_to domain id p then Some (frame_given (option_map (out_after_ticks t) out) p) else old)
taken_given t domain p id old new o out goes same there channels is =
    is
    ∙ ap (λ (f : List ℤ). if p.terminal == id then Some f else old) (sym (given_as t o p channels))
    ∙ ap (λ (x : Option OutStream). if p.terminal == id then Some (frame_given (option_map (out_after_ticks t) x) p) else old) (sym there)
    ∙ ap (λ (b : Bool). if b then Some (frame_given (option_map (out_after_ticks t) out) p) else old) (sym (gives_here domain id p goes same))

-- ---- what is put

-- a stream that gets the same frames is the same
pub in_same : (f g : ℕ → List ℤ) (ticks : ℕ) (i : InStream) → ((t : ℕ) → t < ticks → f t ≡ g t) → in_after_ticks f ticks i ≡ in_after_ticks g ticks i
unfolding in_after_ticks
in_same f g zero i same = refl
in_same f g (suc ticks) i same =
    ap (λ (x : List ℤ). after_putting x (in_after_ticks f ticks i)) (same ticks (omega arith))
    ∙ ap (λ (j : InStream). after_putting (g ticks) j) (in_same f g ticks i (λ t early. same t (omega (arith, early))))

pub ticks_same : (on : Bool) (ticks : ℕ) (f g : ℕ → List ℤ) (in_ : Option InStream) → (on ≡ true → (t : ℕ) → t < ticks → f t ≡ g t)
    → option_map (λ i. if on then in_after_ticks f ticks i else i) in_ ≡ option_map (λ i. if on then in_after_ticks g ticks i else i) in_
ticks_same on ticks f g None same = refl
ticks_same false ticks f g (Some i) same = refl
ticks_same true ticks f g (Some i) same = ap Some (in_same f g ticks i (same refl))

-- a stream from the device that took the frames of its terminal
pub put_turns : (domain ticks : ℕ) (frames given : ℕ → List ℤ) (l : DeviceStream) (f : InFlow) (ring : List (List ℤ)) → l.flow ≡ flow.In f → l.port.domain ≡ domain
    → ((t : ℕ) → given t ≡ frames t) → ((i : InStream) → InStands l.ring f i → InStands ring f (in_after_ticks given ticks i))
    → Changes (λ out. out) (stream_with_on domain ticks frames l.port) l (record l { ring = ring })
put_turns domain ticks frames given l f ring is on same turns = record {
  port = refl;
  stands = λ out in_ keeps.
      let k = known l.ring l.flow (flow.In f) out in_ is keeps in
      let new : InStream = in_after_ticks frames ticks k.0 in
      let own : InStands ring f new = subst (InStands ring f) (in_same given frames ticks k.0 (λ t early. same t)) (turns k.0 k.3) in
      let there : stream_with_on domain ticks frames l.port in_ ≡ Some new =
      ap (stream_with_on domain ticks frames l.port) k.1
      ∙ ap (λ (b : Bool). Some (if b then in_after_ticks frames ticks k.0 else k.0)) (eq-eqb l.port.domain domain on) in
      known ring (flow.In f) l.flow out (stream_with_on domain ticks frames l.port in_) (sym is) (new, there, k.2, own);
}
