-- Each kind has the selectors 1 and 2 alone.
use Rattle.std.proofs.Common.{◌≡◌, sym, subst, refl, ap, ◌∙◌, ℕ, zero, suc, ◌*◌, ◌≤◌, ◌<◌, ◌==◌, nat_lt, nat_le, Bool, true, false, List, [], ◌∷◌, Option, Some, None, is_some, ◌⊎◌, inl, inr, arith}
use Rattle.std.specs.List.{AllByRecursion}
use Rattle.std.specs.Option.{option_map, option_map_or}
use Rattle.std.proofs.lemmas.Bool.{cases_Bool, eqb-true}
use Rattle.uac_entities.specs.declared.entity.EntityKind.{EntityKind}
use Rattle.uac_entities.specs.declared.entity.EntityKind.TheVariants as kind
use Rattle.uac_store.specs.declared.controls.Control.{Control}
use Rattle.uac_store.specs.declared.controls.Control.TheVariants as control
use Rattle.uac_store.specs.declared.controls.Facts.{Facts}
use Rattle.uac_store.specs.declared.controls.Start.TheVariants as start
use Rattle.uac_store.specs.ControlTable.{at_selector, control_of, controls_by, count_by, facts_at, facts_of, selectors_of}

-- what stands in a row at a selector has one of the row's selectors
in_row : {A : Type 0} (row : List (ℕ × A)) (selector : ℕ) → AllByRecursion (λ r. (r.0 ≡ 1) ⊎ (r.0 ≡ 2)) row → is_some (at_selector row selector) ≡ true → (selector ≡ 1) ⊎ (selector ≡ 2)
in_row [] selector each there = cc
in_row (r ∷ row) selector each there = elim (cases_Bool (r.0 == selector)) [
  | inl here ↦ subst (λ s. (s ≡ 1) ⊎ (s ≡ 2)) (eqb-true r.0 selector here) each.0
  | inr other ↦ in_row row selector each.1 (rw other at there)
]

each_one_or_two : (k : EntityKind) → AllByRecursion (λ r. (r.0 ≡ 1) ⊎ (r.0 ≡ 2)) (controls_by k)
each_one_or_two kind.ClockSource = (inl refl, (inr refl, tt))
each_one_or_two kind.ClockSelector = (inl refl, tt)
each_one_or_two kind.ClockMultiplier = (inl refl, (inr refl, tt))
each_one_or_two kind.InputTerminal = (inr refl, tt)
each_one_or_two kind.OutputTerminal = (inr refl, tt)
each_one_or_two kind.Mixer = (inl refl, tt)
each_one_or_two kind.Selector = (inl refl, tt)
each_one_or_two kind.Feature = (inl refl, (inr refl, tt))
each_one_or_two kind.Effect = (inl refl, tt)

pub one_or_two : (k : EntityKind) (selector : ℕ) → is_some (control_of k selector) ≡ true → (selector ≡ 1) ⊎ (selector ≡ 2)
one_or_two k selector there = in_row (controls_by k) selector (each_one_or_two k) there

-- what isn't in a row stands at no selector
none_in_row : (c : Control) (row : List (ℕ × Control)) (selector : ℕ) → AllByRecursion (λ r. r.1 ≡ c → ⊥) row → at_selector row selector ≡ Some c → ⊥
none_in_row c [] selector each is = cc
none_in_row c (r ∷ row) selector each is = elim (cases_Bool (r.0 == selector)) [
  | inl here ↦ (let same : Some r.1 ≡ Some c = rw here at is in let one : r.1 ≡ c = cc in each.0 one)
  | inr other ↦ none_in_row c row selector each.1 (rw other at is)
]

-- a mixer's nodes alone start by node
node_alone : (c : Control) → (facts_of c).start ≡ start.ByNode → c ≡ control.MixerNode
node_alone control.SamplingFrequency is = cc
node_alone control.ClockValid is = cc
node_alone control.ClockSelector is = cc
node_alone control.Numerator is = cc
node_alone control.Denominator is = cc
node_alone control.Connector is = cc
node_alone control.MixerNode is = refl
node_alone control.Selector is = cc
node_alone control.Mute is = cc
node_alone control.Volume is = cc
node_alone control.Enable is = cc

-- a mixer alone has nodes, and where it has one it puts out a channel
node_has_outputs : (k : EntityKind) (selector inputs outputs channel : ℕ) → control_of k selector ≡ Some control.MixerNode → channel < count_by k (inputs * outputs) outputs → 0 < outputs
node_has_outputs kind.ClockSource selector inputs outputs channel is within = absurd (none_in_row control.MixerNode (controls_by kind.ClockSource) selector (λ same. cc, (λ same. cc, tt)) is)
node_has_outputs kind.ClockSelector selector inputs outputs channel is within = absurd (none_in_row control.MixerNode (controls_by kind.ClockSelector) selector (λ same. cc, tt) is)
node_has_outputs kind.ClockMultiplier selector inputs outputs channel is within = absurd (none_in_row control.MixerNode (controls_by kind.ClockMultiplier) selector (λ same. cc, (λ same. cc, tt)) is)
node_has_outputs kind.InputTerminal selector inputs outputs channel is within = absurd (none_in_row control.MixerNode (controls_by kind.InputTerminal) selector (λ same. cc, tt) is)
node_has_outputs kind.OutputTerminal selector inputs outputs channel is within = absurd (none_in_row control.MixerNode (controls_by kind.OutputTerminal) selector (λ same. cc, tt) is)
node_has_outputs kind.Mixer selector inputs zero channel is within = absurd (omega arith)
node_has_outputs kind.Mixer selector inputs (suc outputs) channel is within = omega arith
node_has_outputs kind.Selector selector inputs outputs channel is within = absurd (none_in_row control.MixerNode (controls_by kind.Selector) selector (λ same. cc, tt) is)
node_has_outputs kind.Feature selector inputs outputs channel is within = absurd (none_in_row control.MixerNode (controls_by kind.Feature) selector (λ same. cc, (λ same. cc, tt)) is)
node_has_outputs kind.Effect selector inputs outputs channel is within = absurd (none_in_row control.MixerNode (controls_by kind.Effect) selector (λ same. cc, tt) is)

-- what starts by node is on an entity that puts out a channel
pub has_outputs : (k : EntityKind) (selector inputs outputs channel : ℕ) (f : Facts) → facts_at k selector ≡ Some f → f.start ≡ start.ByNode
    → channel < count_by k (inputs * outputs) outputs → 0 < outputs
has_outputs k selector inputs outputs channel f is by_node within = from (control_of k selector) refl is
  where
    from : (o : Option Control) → control_of k selector ≡ o → option_map facts_of o ≡ Some f → 0 < outputs
    from None at is = cc
    from (Some c) at is =
        let facts : facts_of c ≡ f = cc in
        let node : c ≡ control.MixerNode = node_alone c (ap (λ (x : Facts). x.start) facts ∙ by_node) in
        node_has_outputs k selector inputs outputs channel (at ∙ ap Some node) within

-- where something is so of a control there is one
pub some_so : (test : Facts → Bool) (k : EntityKind) (selector : ℕ) → option_map_or test (facts_at k selector) false ≡ true → is_some (control_of k selector) ≡ true
some_so test k selector is = from (control_of k selector) is where
  from : (o : Option Control) → option_map_or test (option_map facts_of o) false ≡ true → is_some o ≡ true
  from None is = cc
  from (Some c) is = refl

pub few_selectors : (k : EntityKind) → selectors_of k ≤ 2
few_selectors kind.ClockSource = omega arith
few_selectors kind.ClockSelector = omega arith
few_selectors kind.ClockMultiplier = omega arith
few_selectors kind.InputTerminal = omega arith
few_selectors kind.OutputTerminal = omega arith
few_selectors kind.Mixer = omega arith
few_selectors kind.Selector = omega arith
few_selectors kind.Feature = omega arith
few_selectors kind.Effect = omega arith

-- a property of the selectors of a kind, by its two
pub at_each : (k : EntityKind) (P : ℕ → Type 0) (selector : ℕ) → nat_lt 0 selector ≡ true → nat_le selector (selectors_of k) ≡ true → (nat_le 1 (selectors_of k) ≡ true → P 1) → (nat_le 2 (selectors_of k) ≡ true → P 2) → P selector
at_each k P selector some low one two =
    let few : selectors_of k ≤ 2 = few_selectors k in
    elim (cases_Bool (selector == 1)) [
      | inl is_one ↦ (let is : 1 ≡ selector = grind arith in let there : nat_le 1 (selectors_of k) ≡ true = rw (sym is) at low in subst P is (one there))
      | inr more ↦ (let is : 2 ≡ selector = grind arith in let there : nat_le 2 (selectors_of k) ≡ true = rw (sym is) at low in subst P is (two there))
    ]
