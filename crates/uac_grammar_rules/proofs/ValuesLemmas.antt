-- The tests of rule G4 say what the values of a sentence are.
use Rattle.std.proofs.Common.{◌≡◌, ◌≢◌, ℕ, ◌*◌, Bool, false, ◌&&◌, ◌||◌, eqb, ltb, List, [], ◌∷◌, length, refl, sym, ◌∙◌, inl, inr, ltb-false, le-ltb, ne_eqb, eq-eqb, eqb-true}
use Rattle.std.specs.List.{AllByRecursion, list_any}
use Rattle.std.proofs.lemmas.Bool.{eqb-false, and_from, and_cases, and_left, and_right, or_parts, or_from, not-false, not_from_true, true≢false, cases_Bool}
use Rattle.uac_descriptor.specs.declared.context.Context.{Context}
use Rattle.uac_descriptor.specs.declared.standard.Endpoint as endpoint
use Rattle.uac_descriptor.specs.declared.streaming.TypeOne as type_one
use Rattle.uac_descriptor.specs.declared.block.Block as block
use Rattle.uac_descriptor.specs.declared.block.Block.TheVariants as variant
use Rattle.uac_descriptor.specs.Standard.{VERSION_02_00}
use Rattle.uac_descriptor.specs.Endpoints.{packet_size, additional_transactions}
use Rattle.uac_grammar_rules.specs.BlockRole.{context_after}
use Rattle.uac_grammar_rules.specs.Values.{control_bits, IsAllowed, is_barred, is_audio, is_isochronous, IsHighSpeed, is_no_high_speed, IsTypeOneFormat, is_no_format, HasValues, has_wrong_value}
use Rattle.uac_grammar_rules.specs.Sentence.{EachIn}

-- a fact that follows in each context follows along the blocks
pub EachIn-weaker : (P Q : Context → block.Block → Type 0) → ((context : Context) (b : block.Block) → P context b → Q context b)
    → (context : Context) (blocks : List block.Block) → EachIn P context blocks → EachIn Q context blocks
EachIn-weaker P Q weaker context [] h = tt
EachIn-weaker P Q weaker context (b ∷ blocks) (h, rest) = (weaker context b h, EachIn-weaker P Q weaker (context_after context b) blocks rest)

none_passes : {X : Type 0} (p : X → Bool) (P : X → Type 0) → ((x : X) → p x ≡ false → P x) → (xs : List X) → list_any p xs ≡ false → AllByRecursion P xs
none_passes p P each [] e = tt
none_passes p P each (x ∷ xs) e = let (h, rest) = or_parts (p x) (list_any p xs) e in (each x h, none_passes p P each xs rest)

all_none : {X : Type 0} (p : X → Bool) (P : X → Type 0) → ((x : X) → P x → p x ≡ false) → (xs : List X) → AllByRecursion P xs → list_any p xs ≡ false
all_none p P each [] h = refl
all_none p P each (x ∷ xs) (h, rest) = or_from (p x) (list_any p xs) (each x h) (all_none p P each xs rest)

-- both of two controls
both_allowed : (m n w : ℕ) → (is_barred m w || is_barred n w) ≡ false → IsAllowed m w × IsAllowed n w
both_allowed m n w e =
    let (p, q) = or_parts (is_barred m w) (is_barred n w) e in (eqb-false (control_bits m w) 2 p, eqb-false (control_bits n w) 2 q)

none_barred : (m n w : ℕ) → IsAllowed m w × IsAllowed n w → (is_barred m w || is_barred n w) ≡ false
none_barred m n w (p, q) = or_from (is_barred m w) (is_barred n w) (ne_eqb (control_bits m w) 2 p) (ne_eqb (control_bits n w) 2 q)

-- pins, and a control
pins_and_control : (pins w : ℕ) → (eqb pins 0 || is_barred 0 w) ≡ false → (pins ≢ 0) × IsAllowed 0 w
pins_and_control pins w e =
    let (p, q) = or_parts (eqb pins 0) (is_barred 0 w) e in (eqb-false pins 0 p, eqb-false (control_bits 0 w) 2 q)

control_and_pins : (pins w : ℕ) → (pins ≢ 0) × IsAllowed 0 w → (eqb pins 0 || is_barred 0 w) ≡ false
control_and_pins pins w (p, q) = or_from (eqb pins 0) (is_barred 0 w) (ne_eqb pins 0 p) (ne_eqb (control_bits 0 w) 2 q)

high_speed : (e : endpoint.Endpoint) → is_no_high_speed e ≡ false → IsHighSpeed e
unfolding is_no_high_speed
high_speed e h =
    let (h3, small) = or_parts (ltb e.interval 1 || ltb 16 e.interval || eqb (additional_transactions e.max_packet) 3) (ltb 1024 (packet_size e.max_packet)) h in
    let (h2, few) = or_parts (ltb e.interval 1 || ltb 16 e.interval) (eqb (additional_transactions e.max_packet) 3) h3 in
    let (low, high) = or_parts (ltb e.interval 1) (ltb 16 e.interval) h2 in
    record {
      has_period = (ltb-false e.interval 1 low, ltb-false 16 e.interval high);
      few_transactions = eqb-false (additional_transactions e.max_packet) 3 few;
      small = ltb-false 1024 (packet_size e.max_packet) small;
    }

no_high_speed : (e : endpoint.Endpoint) → IsHighSpeed e → is_no_high_speed e ≡ false
unfolding is_no_high_speed
no_high_speed e h =
    or_from (ltb e.interval 1 || ltb 16 e.interval || eqb (additional_transactions e.max_packet) 3) (ltb 1024 (packet_size e.max_packet))
    (or_from (ltb e.interval 1 || ltb 16 e.interval) (eqb (additional_transactions e.max_packet) 3)
    (or_from (ltb e.interval 1) (ltb 16 e.interval) (le-ltb e.interval 1 h.has_period.0) (le-ltb 16 e.interval h.has_period.1))
    (ne_eqb (additional_transactions e.max_packet) 3 h.few_transactions))
    (le-ltb 1024 (packet_size e.max_packet) h.small)

format_of : (t : type_one.TypeOne) → is_no_format t ≡ false → IsTypeOneFormat t
unfolding is_no_format
format_of t h =
    let (h3, most) = or_parts (ltb t.subslot 1 || ltb 4 t.subslot || ltb t.bits 1) (ltb (8 * t.subslot) t.bits) h in
    let (h2, least) = or_parts (ltb t.subslot 1 || ltb 4 t.subslot) (ltb t.bits 1) h3 in
    let (low, high) = or_parts (ltb t.subslot 1) (ltb 4 t.subslot) h2 in
    record {
      slots = (ltb-false t.subslot 1 low, ltb-false 4 t.subslot high);
      fits = (ltb-false t.bits 1 least, ltb-false (8 * t.subslot) t.bits most);
    }

no_format : (t : type_one.TypeOne) → IsTypeOneFormat t → is_no_format t ≡ false
unfolding is_no_format
no_format t h =
    or_from (ltb t.subslot 1 || ltb 4 t.subslot || ltb t.bits 1) (ltb (8 * t.subslot) t.bits)
    (or_from (ltb t.subslot 1 || ltb 4 t.subslot) (ltb t.bits 1)
    (or_from (ltb t.subslot 1) (ltb 4 t.subslot) (le-ltb t.subslot 1 h.slots.0) (le-ltb 4 t.subslot h.slots.1))
    (le-ltb t.bits 1 h.fits.0))
    (le-ltb (8 * t.subslot) t.bits h.fits.1)

pub right_values : (context : Context) (b : block.Block) → has_wrong_value context b ≡ false → HasValues context b
unfolding has_wrong_value
right_values context (variant.Endpoint e) h =
    λ audio isochronous. high_speed e
    (elim (and_cases (is_audio context && is_isochronous e) (is_no_high_speed e) h) [
      | inl wrong ↦ absurd (true≢false (sym (and_from (is_audio context) (is_isochronous e) audio isochronous) ∙ wrong))
      | inr right ↦ right
    ])
right_values context (variant.Header h) e = eqb-true h.version VERSION_02_00 (not-false (eqb h.version VERSION_02_00) e)
right_values context (variant.InputTerminal t) e = eqb-false (control_bits 1 t.controls) 2 e
right_values context (variant.OutputTerminal t) e = eqb-false (control_bits 1 t.controls) 2 e
right_values context (variant.Mixer m) e = eqb-false (length m.sources) 0 e
right_values context (variant.Selector s) e = pins_and_control (length s.sources) s.controls e
right_values context (variant.Feature f) e =
    none_passes (λ word. is_barred 0 word || is_barred 1 word) (λ word. IsAllowed 0 word × IsAllowed 1 word) (both_allowed 0 1) f.words e
right_values context (variant.Effect f) e = none_passes (is_barred 0) (IsAllowed 0) (λ word. eqb-false (control_bits 0 word) 2) f.words e
right_values context (variant.ClockSource c) e = both_allowed 0 1 c.controls e
right_values context (variant.ClockSelector c) e = pins_and_control (length c.sources) c.controls e
right_values context (variant.ClockMultiplier c) e = both_allowed 0 1 c.controls e
right_values context (variant.General g) e = both_allowed 0 1 g.controls e
right_values context (variant.TypeOne t) e = format_of t e
right_values context _ e = tt

pub no_wrong_value : (context : Context) (b : block.Block) → HasValues context b → has_wrong_value context b ≡ false
unfolding has_wrong_value
no_wrong_value context (variant.Endpoint e) h =
    elim (cases_Bool (is_audio context)) [
      | inr wrong ↦ and_left (is_audio context && is_isochronous e) (is_no_high_speed e) (and_left (is_audio context) (is_isochronous e) wrong)
      | inl audio ↦ elim (cases_Bool (is_isochronous e)) [
        | inr wrong ↦ and_left (is_audio context && is_isochronous e) (is_no_high_speed e) (and_right (is_audio context) (is_isochronous e) wrong)
        | inl isochronous ↦ and_right (is_audio context && is_isochronous e) (is_no_high_speed e) (no_high_speed e (h audio isochronous))
      ]
    ]
no_wrong_value context (variant.Header h) e = not_from_true (eqb h.version VERSION_02_00) (eq-eqb h.version VERSION_02_00 e)
no_wrong_value context (variant.InputTerminal t) e = ne_eqb (control_bits 1 t.controls) 2 e
no_wrong_value context (variant.OutputTerminal t) e = ne_eqb (control_bits 1 t.controls) 2 e
no_wrong_value context (variant.Mixer m) e = ne_eqb (length m.sources) 0 e
no_wrong_value context (variant.Selector s) e = control_and_pins (length s.sources) s.controls e
no_wrong_value context (variant.Feature f) e =
    all_none (λ word. is_barred 0 word || is_barred 1 word) (λ word. IsAllowed 0 word × IsAllowed 1 word) (none_barred 0 1) f.words e
no_wrong_value context (variant.Effect f) e = all_none (is_barred 0) (IsAllowed 0) (λ word. ne_eqb (control_bits 0 word) 2) f.words e
no_wrong_value context (variant.ClockSource c) e = none_barred 0 1 c.controls e
no_wrong_value context (variant.ClockSelector c) e = control_and_pins (length c.sources) c.controls e
no_wrong_value context (variant.ClockMultiplier c) e = none_barred 0 1 c.controls e
no_wrong_value context (variant.General g) e = none_barred 0 1 g.controls e
no_wrong_value context (variant.TypeOne t) e = no_format t e
no_wrong_value context _ e = refl
