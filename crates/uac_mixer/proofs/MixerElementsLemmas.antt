-- The controls that elements stand for, by an entity's kind and the selector.
use Rattle.std.proofs.Common.{◌≡◌, ◌∙◌, refl, ap, sym, subst, ℕ, ◌%◌, ◌≤◌, ◌==◌, ◌&&◌, nat_lt, nat_le, true, false, ℤ, pos, negsuc, List, Option, Some, None, is_some, unwrap_or, arith, rules, inl, inr, w32, FitsSigned}
use Rattle.std.specs.Option.{option_and_then}
use Rattle.std.proofs.lemmas.Bool.{and_parts, cases_Bool}
use Rattle.uac_clock.specs.Nominal.{is_listed}
use Rattle.uac_entities.specs.declared.entity.Entity.{Entity}
use Rattle.uac_entities.specs.declared.entity.EntityKind.{EntityKind}
use Rattle.uac_entities.specs.declared.entity.EntityKind.TheVariants as kind
use Rattle.uac_store.specs.declared.keys.Key.{Key}
use Rattle.uac_store.specs.declared.controls.Control.{Control}
use Rattle.uac_store.specs.ControlTable.{control_of, is_frequency, selectors_of, takes_by}
use Rattle.uac_store.proofs.ControlTableLemmas.{one_or_two}
use Rattle.uac_request.specs.Requests.{entity_bytes, entity_width, is_signed, IsWithin, kept_bytes}
use Rattle.uac_request.proofs.RequestElementsLemmas.{kept_value}
use Rattle.uac_request.proofs.RequestsByteLemmas.{taken_within}
use Rattle.uac_mixer.specs.declared.kinds.ElementKind.{ElementKind}
use Rattle.uac_mixer.specs.declared.kinds.ElementKind.TheVariants as shown
use Rattle.uac_mixer.specs.MixerElements.{element_of, fits_element, is_gain, kind_at, lies_in, width_of}

-- ---- values that are taken fit

frequency_fits : (n : ℕ) → n ≤ 192000 → fits_element shown.Rate (pos n) ≡ true
frequency_fits n few = grind arith

frequency : (attributes : ℕ) (v : ℤ) → is_frequency attributes v ≡ true → fits_element shown.Rate v ≡ true
frequency attributes (negsuc n) taken = cc
frequency attributes (pos n) taken = elim (cases_Bool (nat_lt (attributes % 4) 2)) [
  | inl fixed ↦ (let is : (n == 48000) ≡ true = rw fixed at taken in let few : n ≤ 192000 = grind arith in frequency_fits n few)
  | inr listed ↦ (let is : is_listed n ≡ true = rw listed at taken in let few : n ≤ 192000 = grind arith in frequency_fits n few)
]

-- a value of one byte, of two, and one of two with a sign
byte : (v : ℤ) → IsWithin false 1 v → (lies_in false 1 v && lies_in true 4 v) ≡ true
byte (pos n) within = grind arith
byte (negsuc n) within = absurd within

word : (v : ℤ) → IsWithin false 2 v → (lies_in false 2 v && lies_in true 4 v) ≡ true
word (pos n) within = grind arith
word (negsuc n) within = absurd within

gain : (v : ℤ) → IsWithin true 2 v → (lies_in true 2 v && lies_in true 4 v) ≡ true
gain (pos n) within = grind arith
gain (negsuc n) within = grind arith

-- ---- what is so of a control by its kind

pub record Agrees (k : EntityKind) (s : ℕ) (x : ElementKind) : Type 0 where
  pub width : entity_width k s ≡ Some (width_of x)
  pub signed : is_signed k s ≡ is_gain x
  pub above : nat_lt 0 s ≡ true
  pub kept : nat_le s (selectors_of k) ≡ true
  pub fits : (pins attributes : ℕ) (v : ℤ) → takes_by k pins attributes s v ≡ true → fits_element x v ≡ true
  pub told : (e : Entity) (controls : List (Key × ℤ)) (key : Key) → key.selector ≡ s → entity_bytes k e controls key ≡ kept_bytes controls key (width_of x)

-- a control that keeps a value tells it in its bytes
told_by : (k : EntityKind) (s : ℕ) (x : ElementKind) (e : Entity) (controls : List (Key × ℤ)) (key : Key) → entity_width k s ≡ Some (width_of x) → nat_lt 0 s ≡ true → nat_le s (selectors_of k) ≡ true
    → key.selector ≡ s → entity_bytes k e controls key ≡ kept_bytes controls key (width_of x)
told_by k s x e controls key wide some low is =
    kept_value k e controls key (ap (λ n. nat_lt 0 n) is ∙ some) (ap (λ n. nat_le n (selectors_of k)) is ∙ low)
    ∙ ap (λ (w : Option ℕ). kept_bytes controls key (unwrap_or w 0)) (ap (entity_width k) is ∙ wide)

rate : Agrees kind.ClockSource 1 shown.Rate
rate = record {
  width = refl;
  signed = refl;
  above = refl;
  kept = refl;
  fits = λ pins attributes v taken. frequency attributes v taken;
  told = λ e controls key. told_by kind.ClockSource 1 shown.Rate e controls key refl refl refl;
}

clock : Agrees kind.ClockSelector 1 shown.Clock
clock = record {
  width = refl;
  signed = refl;
  above = refl;
  kept = refl;
  fits = λ pins attributes v taken. byte v (taken_within kind.ClockSelector pins attributes 1 v refl refl taken);
  told = λ e controls key. told_by kind.ClockSelector 1 shown.Clock e controls key refl refl refl;
}

times : Agrees kind.ClockMultiplier 1 shown.Times
times = record {
  width = refl;
  signed = refl;
  above = refl;
  kept = refl;
  fits = λ pins attributes v taken. word v (taken_within kind.ClockMultiplier pins attributes 1 v refl refl taken);
  told = λ e controls key. told_by kind.ClockMultiplier 1 shown.Times e controls key refl refl refl;
}

over : Agrees kind.ClockMultiplier 2 shown.Over
over = record {
  width = refl;
  signed = refl;
  above = refl;
  kept = refl;
  fits = λ pins attributes v taken. word v (taken_within kind.ClockMultiplier pins attributes 2 v refl refl taken);
  told = λ e controls key. told_by kind.ClockMultiplier 2 shown.Over e controls key refl refl refl;
}

mix : Agrees kind.Mixer 1 shown.Mix
mix = record {
  width = refl;
  signed = refl;
  above = refl;
  kept = refl;
  fits = λ pins attributes v taken. gain v (taken_within kind.Mixer pins attributes 1 v refl refl taken);
  told = λ e controls key. told_by kind.Mixer 1 shown.Mix e controls key refl refl refl;
}

select : Agrees kind.Selector 1 shown.Select
select = record {
  width = refl;
  signed = refl;
  above = refl;
  kept = refl;
  fits = λ pins attributes v taken. byte v (taken_within kind.Selector pins attributes 1 v refl refl taken);
  told = λ e controls key. told_by kind.Selector 1 shown.Select e controls key refl refl refl;
}

mute : Agrees kind.Feature 1 shown.Mute
mute = record {
  width = refl;
  signed = refl;
  above = refl;
  kept = refl;
  fits = λ pins attributes v taken. byte v (taken_within kind.Feature pins attributes 1 v refl refl taken);
  told = λ e controls key. told_by kind.Feature 1 shown.Mute e controls key refl refl refl;
}

volume : Agrees kind.Feature 2 shown.Volume
volume = record {
  width = refl;
  signed = refl;
  above = refl;
  kept = refl;
  fits = λ pins attributes v taken. gain v (taken_within kind.Feature pins attributes 2 v refl refl taken);
  told = λ e controls key. told_by kind.Feature 2 shown.Volume e controls key refl refl refl;
}

enable : Agrees kind.Effect 1 shown.Enable
enable = record {
  width = refl;
  signed = refl;
  above = refl;
  kept = refl;
  fits = λ pins attributes v taken. byte v (taken_within kind.Effect pins attributes 1 v refl refl taken);
  told = λ e controls key. told_by kind.Effect 1 shown.Enable e controls key refl refl refl;
}

-- the only kind that an element is
the_one : (k : EntityKind) (s : ℕ) (a x : ElementKind) → Agrees k s a → Some a ≡ Some x → Agrees k s x
the_one k s a x agrees is = (let same : a ≡ x = cc in subst (λ y. Agrees k s y) same agrees)

first_agrees : (k : EntityKind) (x : ElementKind) → kind_at k 1 ≡ Some x → Agrees k 1 x
first_agrees kind.ClockSource x is = the_one kind.ClockSource 1 shown.Rate x rate is
first_agrees kind.ClockSelector x is = the_one kind.ClockSelector 1 shown.Clock x clock is
first_agrees kind.ClockMultiplier x is = the_one kind.ClockMultiplier 1 shown.Times x times is
first_agrees kind.InputTerminal x is = cc
first_agrees kind.OutputTerminal x is = cc
first_agrees kind.Mixer x is = the_one kind.Mixer 1 shown.Mix x mix is
first_agrees kind.Selector x is = the_one kind.Selector 1 shown.Select x select is
first_agrees kind.Feature x is = the_one kind.Feature 1 shown.Mute x mute is
first_agrees kind.Effect x is = the_one kind.Effect 1 shown.Enable x enable is

second_agrees : (k : EntityKind) (x : ElementKind) → kind_at k 2 ≡ Some x → Agrees k 2 x
second_agrees kind.ClockSource x is = cc
second_agrees kind.ClockSelector x is = cc
second_agrees kind.ClockMultiplier x is = the_one kind.ClockMultiplier 2 shown.Over x over is
second_agrees kind.InputTerminal x is = cc
second_agrees kind.OutputTerminal x is = cc
second_agrees kind.Mixer x is = cc
second_agrees kind.Selector x is = cc
second_agrees kind.Feature x is = the_one kind.Feature 2 shown.Volume x volume is
second_agrees kind.Effect x is = cc

shown_some : (o : Option Control) (x : ElementKind) → option_and_then element_of o ≡ Some x → is_some o ≡ true
shown_some None x is = cc
shown_some (Some c) x is = refl

pub agrees : (k : EntityKind) (s : ℕ) (x : ElementKind) → kind_at k s ≡ Some x → Agrees k s x
agrees k s x is = elim (one_or_two k s (shown_some (control_of k s) x is)) [
  | inl one ↦ subst (λ n. kind_at k n ≡ Some x → Agrees k n x) (sym one) (first_agrees k x) is
  | inr two ↦ subst (λ n. kind_at k n ≡ Some x → Agrees k n x) (sym two) (second_agrees k x) is
]

-- a value that fits is one of 32 bits
in_four : (v : ℤ) → lies_in true 4 v ≡ true → FitsSigned w32 v
in_four (pos n) lies = (let few : n ≤ 2147483647 = grind arith in search rules)
in_four (negsuc n) lies = (let few : n ≤ 2147483647 = grind arith in search rules)

pub narrow : (x : ElementKind) (v : ℤ) → fits_element x v ≡ true → FitsSigned w32 v
narrow x v fits = in_four v (and_parts (lies_in (is_gain x) (width_of x) v) _ fits).1
