-- The blocks of a sentence are well-formed.
use Rattle.std.proofs.Common.{◌≡◌, ℕ, ◌+◌, ◌<◌, ◌≤◌, arith, length, get_or, drop, ◌++◌, append-nil, length-append, Bool, true, false, ◌&&◌, ◌||◌, not, List, [], ◌∷◌, Option, Some, None, if◌then◌else◌, ◌⊎◌, refl, sym, ap, ◌∙◌, subst, inl, inr}
use Rattle.std.specs.Prelude.{IfSome}
use Rattle.std.specs.Bool.{OnTrue}
use Rattle.std.proofs.lemmas.Bool.{true≢false}
use Rattle.uac_descriptor.specs.declared.context.Context.{Context}
use Rattle.uac_descriptor.specs.declared.context.Context.TheVariants as context
use Rattle.uac_descriptor.specs.declared.standard.Interface as interface
use Rattle.uac_descriptor.specs.declared.block.Block as block
use Rattle.uac_descriptor.specs.declared.block.Block.TheVariants as variant
use Rattle.uac_descriptor.specs.Classes.{is_audio_association, is_control_interface, is_streaming_interface}
use Rattle.std.proofs.lemmas.List.{drop_more, drop_all}
use Rattle.uac_descriptor.specs.BlockParsing.{AreBytes}
use Rattle.uac_descriptor.specs.Contexts.{EachIn, context_after}
use Rattle.uac_descriptor.specs.Little.{four}
use Rattle.uac_descriptor.specs.Spelling.{spelling}
use Rattle.uac_descriptor.specs.BlockTurns.{BeginsWithControl, InTurn, interface_of, interfaces_in}
use Rattle.uac_descriptor.specs.WellFormed.{IsWellFormed, AreWellFormed}
use Rattle.uac_grammar_rules.specs.declared.roles.BlockRole.{BlockRole}
use Rattle.uac_grammar_rules.specs.declared.roles.BlockRole.TheVariants as role
use Rattle.uac_grammar_rules.specs.declared.stages.OrderStage.{OrderStage}
use Rattle.uac_grammar_rules.specs.declared.stages.OrderStage.TheVariants.{Start, Due, Opening, Before, Announced}
use Rattle.uac_grammar_rules.specs.Grammar.{is_control, is_audio_interface, is_in_turn, used_after, latest_after}
use Rattle.uac_grammar_rules.specs.BlockRole.{role_of, whole_role, interface_role, is_device, has_unknown_subtype, is_ordered_type, type_of}
use Rattle.uac_grammar_rules.specs.Sentence.{IsSentence, SpellsItself, spellings}
use Rattle.uac_grammar_rules.specs.declared.states.Latest.{Latest}
use Rattle.uac_grammar_rules.specs.OrderStages.{next_stage, may_end}
use Rattle.uac_grammar_rules.specs.Values.{HasValues, has_wrong_value}
use Rattle.uac_grammar_rules.proofs.OrderStagesLemmas.{Goes, allows_goes}
pub use Rattle.uac_grammar_rules.proofs.SentenceTurnLemmas.{IsTurning}
use Rattle.uac_grammar_rules.proofs.SentenceTurnLemmas.{HasSmallNumbers, small_alone, turning_step, turning_stops, turning_ends}
use Rattle.uac_grammar_rules.proofs.SentenceLemmas.{bytes_left, bytes_right, piece_of, small_numbers, spelt_bytes}
use Rattle.uac_grammar_rules.proofs.ValuesLemmas.{right_values, no_wrong_value}

-- allowed values are well-formed ones, where the number of an interface is a byte and the block's length fits one
pub kept_well : (context : Context) (b : block.Block) → HasSmallNumbers (b ∷ []) → length (spelling b) ≤ 255 → HasValues context b → IsWellFormed context b
unfolding spelling
kept_well context (variant.Interface i) small short h = small.0
kept_well context (variant.Endpoint e) small short h = h
kept_well context (variant.Mixer m) small short h =
    (h, omega (arith, short, length-append m.sources (m.channels ∷ four m.locations ++ m.names ∷ (m.mix_bits ++ m.controls ∷ m.name ∷ []))))
kept_well context (variant.Selector s) small short h = (h.0, omega (arith, short, length-append s.sources (s.controls ∷ s.name ∷ [])))
kept_well context (variant.ClockSelector c) small short h = (h.0, omega (arith, short, length-append c.sources (c.controls ∷ c.name ∷ [])))
kept_well context (variant.TypeOne t) small short h = h
kept_well context _ small short h = tt

pub right_well : (context : Context) (b : block.Block) (wrong : Bool) → wrong ≡ has_wrong_value context b → IfSome (interface_of b) (λ i. i.number < 256)
    → length (spelling b) ≤ 255 → OnTrue (not wrong) (IsWellFormed context b)
right_well context b true is small short = tt
right_well context b false is small short = kept_well context b (small_alone b small) short (right_values context b (sym is))

-- the length of a block that stands among bytes fits a byte
short_block : (context : Context) (b : block.Block) → SpellsItself context b → AreBytes (spelling b) → length (spelling b) ≤ 255
short_block context b stands are =
    let first : get_or (spelling b) 0 0 < 256 = are 0 in
    omega (arith, first, (piece_of context b stands).1)

all_well : (context : Context) (blocks : List block.Block) → EachIn SpellsItself context blocks → AreBytes (spellings blocks)
    → EachIn HasValues context blocks → EachIn IsWellFormed context blocks
all_well context [] stand are values = tt
all_well context (b ∷ blocks) (stands, stand) are (value, values) =
    let here : AreBytes (spelling b) = bytes_left (spelling b) (spellings blocks) are in (
      kept_well context b (small_numbers (b ∷ []) (λ i. subst (λ (n : ℕ). n < 256) (ap (λ (y : List ℕ). get_or y i 0) (sym (append-nil (spelling b)))) (here i)))
          (short_block context b stands here) value,
      all_well (context_after context b) blocks stand (bytes_right (spelling b) (spellings blocks) are) values,
    )

-- the control interface is still to come
abbrev is_front : OrderStage → Bool
is_front Start = true
is_front Due = true
is_front Opening = true
is_front Before = true
is_front Announced = true
is_front _ = false

-- a role is the control interface, or no interface of the function and the control interface is still to come
abbrev is_on : BlockRole → Option OrderStage → Bool
is_on k None = true
is_on k (Some t) = is_control k || not (is_audio_interface k) && is_front t

steps_on : (s : OrderStage) (k : BlockRole) → is_front s ≡ true → is_on k (next_stage s k) ≡ true
steps_on Start role.Device front = refl
steps_on Start k front = refl
steps_on Due role.Device front = refl
steps_on Due k front = refl
steps_on Opening role.Device front = refl
steps_on Opening k front = refl
steps_on Before role.Device front = refl
steps_on Before k front = refl
steps_on Announced role.Device front = refl
steps_on Announced k front = refl
steps_on s k front = cc

front_open : (s : OrderStage) → is_front s ≡ true → may_end s ≡ false
front_open Start front = refl
front_open Due front = refl
front_open Opening front = refl
front_open Before front = refl
front_open Announced front = refl
front_open s front = cc

if_not : (t : Bool) (a b : BlockRole) → is_audio_interface a ≡ false → is_audio_interface b ≡ false → is_audio_interface (if t then a else b) ≡ false
if_not true a b e f = e
if_not false a b e f = f

-- only an interface is one of the audio function
no_audio : (b : block.Block) → interface_of b ≡ None → is_audio_interface (role_of b) ≡ false
unfolding whole_role
no_audio (variant.Interface i) none = cc
no_audio (variant.Association a) none = if_not (is_audio_association a) role.AudioAssociation role.ForeignAssociation refl refl
no_audio (variant.Foreign bytes) none =
    if_not (is_device bytes) role.Device _ refl
    (if_not (has_unknown_subtype bytes) role.UnknownSubtype _ refl (if_not (is_ordered_type (type_of bytes)) role.Stray role.Other refl refl))
no_audio b none = refl

other_control : (k : BlockRole) → is_audio_interface k ≡ false → is_control k ≡ false
other_control role.ControlInterface e = cc
other_control k e = refl

no_control : (b : block.Block) → interface_of b ≡ None → is_control (role_of b) ≡ false
no_control b none = other_control (role_of b) (no_audio b none)

still_front : (k : BlockRole) (t : OrderStage) → is_control k ≡ false → is_on k (Some t) ≡ true → is_front t ≡ true
still_front k t other on = of (is_control k) (is_audio_interface k) (is_front t) other on where
  of : (c a f : Bool) → c ≡ false → (c || not a && f) ≡ true → f ≡ true
  of true a f e h = cc
  of false true f e h = cc
  of false false f e h = h

-- the role of an interface by two tests
abbrev role_by : Bool → Bool → BlockRole
role_by control streaming = if control then role.ControlInterface else if streaming then role.StreamingInterface else role.ForeignInterface

-- an interface that is on: the control interface, or another that does not stream
interface_on : (c r : Bool) (t : OrderStage) → is_on (role_by c r) (Some t) ≡ true → (c ≡ true) ⊎ ((not r ≡ true) × (is_front t ≡ true))
interface_on true r t on = inl refl
interface_on false true t on = cc
interface_on false false t on = inr (refl, on)

role_is : (i : interface.Interface) → interface_role i ≡ role_by (is_control_interface i) (is_streaming_interface i)
unfolding interface_role
role_is i = refl

begins : (s : OrderStage) (blocks : List block.Block) → is_front s ≡ true → Goes role_of s blocks → BeginsWithControl (interfaces_in blocks)
begins s [] front ends = absurd (true≢false (sym ends ∙ front_open s front))
begins s (variant.Interface i ∷ blocks) front (t, e, goes) =
    let on : is_on (role_by (is_control_interface i) (is_streaming_interface i)) (Some t) ≡ true =
    subst (λ k. is_on k (Some t) ≡ true) (role_is i) (subst (λ o. is_on (interface_role i) o ≡ true) e (steps_on s (interface_role i) front)) in
    elim (interface_on (is_control_interface i) (is_streaming_interface i) t on) [
      | inl c ↦ inl c
      | inr n ↦ inr (n.0, begins t blocks n.1 goes)
    ]
begins s (b ∷ blocks) front (t, e, goes) =
    begins t blocks (still_front (role_of b) t (no_control b refl) (subst (λ o. is_on (role_of b) o ≡ true) e (steps_on s (role_of b) front))) goes

pub sentence_is_well_formed : (bytes : List ℕ) (blocks : List block.Block) → IsSentence bytes blocks → AreWellFormed blocks
sentence_is_well_formed bytes blocks h =
    record {
      fields = all_well context.DeviceFront blocks h.stand (spelt_bytes bytes blocks h) h.values;
      control = begins Start blocks refl (allows_goes role_of Start blocks h.order);
      in_turn = h.in_turn;
    }

-- ---- the test, block by block

-- the rest at a place begins with the block there
rest_at : (xs : List block.Block) (i : ℕ) (b : block.Block) → i < length xs → b ≡ get_or xs i b → drop i xs ≡ b ∷ drop (i + 1) xs
rest_at xs i b below is = drop_more xs i b below ∙ ap (λ x. x ∷ drop (i + 1) xs) (sym is)

pub none_left : (P : List block.Block → Type 0) → P [] → (xs : List block.Block) (i : ℕ) → length xs ≤ i → P (drop i xs)
none_left P base xs i past = subst P (sym (drop_all i xs past)) base

-- values

pub well_on : (context : Context) (xs : List block.Block) (i : ℕ) (b : block.Block) → i < length xs → b ≡ get_or xs i b → IsWellFormed context b
    → EachIn IsWellFormed (context_after context b) (drop (i + 1) xs) → EachIn IsWellFormed context (drop i xs)
well_on context xs i b below is well rest = subst (EachIn IsWellFormed context) (sym (rest_at xs i b below is)) (well, rest)

pub values_on : (context : Context) (xs : List block.Block) (i : ℕ) (b : block.Block) → i < length xs → b ≡ get_or xs i b → has_wrong_value context b ≡ false
    → EachIn HasValues (context_after context b) (drop (i + 1) xs) → EachIn HasValues context (drop i xs)
values_on context xs i b below is right rest =
    subst (EachIn HasValues context) (sym (rest_at xs i b below is)) (right_values context b right, rest)

pub values_back : (context : Context) (xs : List block.Block) (i : ℕ) (b : block.Block) → i < length xs → b ≡ get_or xs i b
    → EachIn HasValues context (drop i xs) → EachIn HasValues (context_after context b) (drop (i + 1) xs)
values_back context xs i b below is h = (subst (EachIn HasValues context) (rest_at xs i b below is) h).1

pub values_stop : (context : Context) (xs : List block.Block) (i : ℕ) (b : block.Block) → i < length xs → b ≡ get_or xs i b → has_wrong_value context b ≡ true
    → EachIn HasValues context (drop i xs) → false ≡ true
values_stop context xs i b below is wrong h =
    sym (no_wrong_value context b (subst (EachIn HasValues context) (rest_at xs i b below is) h).0) ∙ wrong

-- the control interface

control_by : (c r : Bool) → is_control (role_by c r) ≡ true → c ≡ true
control_by true r e = refl
control_by false true e = cc
control_by false false e = cc

no_stream_by : (c r : Bool) → is_audio_interface (role_by c r) ≡ false → not r ≡ true
no_stream_by true r e = cc
no_stream_by false true e = cc
no_stream_by false false e = refl

-- an interface that is no control interface and streams
stream_by : (c r : Bool) → is_control (role_by c r) ≡ false → is_audio_interface (role_by c r) ≡ true → (c ≡ false) × (r ≡ true)
stream_by true r e f = cc
stream_by false true e f = (refl, refl)
stream_by false false e f = cc

begins_here : (b : block.Block) (bs : List block.Block) → is_control (role_of b) ≡ true → BeginsWithControl (interfaces_in (b ∷ bs))
begins_here (variant.Interface i) bs e =
    inl (control_by (is_control_interface i) (is_streaming_interface i) (subst (λ k. is_control k ≡ true) (role_is i) e))
begins_here b bs e = absurd (true≢false (sym e ∙ no_control b refl))

begins_later : (b : block.Block) (bs : List block.Block) → is_audio_interface (role_of b) ≡ false → BeginsWithControl (interfaces_in bs)
    → BeginsWithControl (interfaces_in (b ∷ bs))
begins_later (variant.Interface i) bs e rest =
    inr (no_stream_by (is_control_interface i) (is_streaming_interface i) (subst (λ k. is_audio_interface k ≡ false) (role_is i) e), rest)
begins_later b bs e rest = rest

-- what is no interface of the function leaves the control interface to come
begins_following : (b : block.Block) (bs : List block.Block) → is_control (role_of b) ≡ false → BeginsWithControl (interfaces_in (b ∷ bs))
    → BeginsWithControl (interfaces_in bs)
begins_following (variant.Interface i) bs e h =
    elim h [
      | inl control ↦ absurd (true≢false (sym (controls (is_control_interface i) (is_streaming_interface i) control)
          ∙ subst (λ k. is_control k ≡ false) (role_is i) e))
      | inr later ↦ later.1
    ]
  where
    controls : (c r : Bool) → c ≡ true → is_control (role_by c r) ≡ true
    controls true r e = refl
    controls false r e = cc
begins_following b bs e h = h

-- a streaming interface that comes first is no control interface
begins_not : (b : block.Block) (bs : List block.Block) → is_control (role_of b) ≡ false → is_audio_interface (role_of b) ≡ true
    → BeginsWithControl (interfaces_in (b ∷ bs)) → false ≡ true
begins_not (variant.Interface i) bs e f h =
    let (other, streams) = stream_by (is_control_interface i) (is_streaming_interface i) (subst (λ k. is_control k ≡ false) (role_is i) e)
    (subst (λ k. is_audio_interface k ≡ true) (role_is i) f) in
    elim h [
      | inl control ↦ sym other ∙ control
      | inr later ↦ ap not (sym streams) ∙ later.0
    ]
begins_not b bs e f h = sym (no_audio b refl) ∙ f

pub control_at : (xs : List block.Block) (i : ℕ) (b : block.Block) → i < length xs → b ≡ get_or xs i b → is_control (role_of b) ≡ true
    → BeginsWithControl (interfaces_in (drop i xs))
control_at xs i b below is e = subst (λ bs. BeginsWithControl (interfaces_in bs)) (sym (rest_at xs i b below is)) (begins_here b (drop (i + 1) xs) e)

pub control_on : (xs : List block.Block) (i : ℕ) (b : block.Block) → i < length xs → b ≡ get_or xs i b → is_audio_interface (role_of b) ≡ false
    → BeginsWithControl (interfaces_in (drop (i + 1) xs)) → BeginsWithControl (interfaces_in (drop i xs))
control_on xs i b below is e rest =
    subst (λ bs. BeginsWithControl (interfaces_in bs)) (sym (rest_at xs i b below is)) (begins_later b (drop (i + 1) xs) e rest)

pub control_back : (xs : List block.Block) (i : ℕ) (b : block.Block) → i < length xs → b ≡ get_or xs i b → is_control (role_of b) ≡ false
    → BeginsWithControl (interfaces_in (drop i xs)) → BeginsWithControl (interfaces_in (drop (i + 1) xs))
control_back xs i b below is e h =
    begins_following b (drop (i + 1) xs) e (subst (λ bs. BeginsWithControl (interfaces_in bs)) (rest_at xs i b below is) h)

pub control_stops : (xs : List block.Block) (i : ℕ) (b : block.Block) → i < length xs → b ≡ get_or xs i b → is_control (role_of b) ≡ false
    → is_audio_interface (role_of b) ≡ true → BeginsWithControl (interfaces_in (drop i xs)) → false ≡ true
control_stops xs i b below is e f h =
    begins_not b (drop (i + 1) xs) e f (subst (λ bs. BeginsWithControl (interfaces_in bs)) (rest_at xs i b below is) h)

pub control_ends : (xs : List block.Block) (i : ℕ) → length xs ≤ i → BeginsWithControl (interfaces_in (drop i xs)) → false ≡ true
control_ends xs i past h = absurd (subst (λ bs. BeginsWithControl (interfaces_in bs)) (drop_all i xs past) h)

-- the numbers in turn

pub turn_on : (used : List Bool) (latest : Option Latest) (xs : List block.Block) (i : ℕ) (b : block.Block) → i < length xs → b ≡ get_or xs i b
    → IfSome (interface_of b) (λ i. i.number < 256) → is_in_turn used latest b ≡ true → IsTurning used latest xs (drop i xs)
    → IsTurning (used_after used b) (latest_after latest b) xs (drop (i + 1) xs)
turn_on used latest xs i b below is small turn t =
    turning_step used latest xs b (drop (i + 1) xs) (small_alone b small) turn (subst (IsTurning used latest xs) (rest_at xs i b below is) t)

pub turn_stops : (used : List Bool) (latest : Option Latest) (xs : List block.Block) (i : ℕ) (b : block.Block) → i < length xs → b ≡ get_or xs i b
    → IfSome (interface_of b) (λ i. i.number < 256) → is_in_turn used latest b ≡ false → IsTurning used latest xs (drop i xs)
    → InTurn [] (interfaces_in xs) → false ≡ true
turn_stops used latest xs i b below is small out t h =
    turning_stops used latest xs b (drop (i + 1) xs) (small_alone b small) out (subst (IsTurning used latest xs) (rest_at xs i b below is) t) h

pub turn_ends : (used : List Bool) (latest : Option Latest) (xs : List block.Block) (i : ℕ) → length xs ≤ i → IsTurning used latest xs (drop i xs)
    → InTurn [] (interfaces_in xs)
turn_ends used latest xs i past t = turning_ends used latest xs (subst (IsTurning used latest xs) (drop_all i xs past) t)

-- ---- all three

pub well_formed_by : (blocks : List block.Block) → EachIn IsWellFormed context.DeviceFront blocks → BeginsWithControl (interfaces_in blocks)
    → InTurn [] (interfaces_in blocks) → AreWellFormed blocks
well_formed_by blocks fields control turn = record { fields = fields; control = control; in_turn = turn }

pub sentence_passes : (bytes : List ℕ) (blocks : List block.Block) → IsSentence bytes blocks
    → EachIn HasValues context.DeviceFront blocks × BeginsWithControl (interfaces_in blocks) × InTurn [] (interfaces_in blocks)
sentence_passes bytes blocks h = (h.values, (sentence_is_well_formed bytes blocks h).control, h.in_turn)
