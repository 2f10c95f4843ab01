use Rattle.std.proofs.Common.{◌≡◌, refl, sym, subst}
use Rattle.uac_units.specs.declared.jobs.UnitKind.{UnitKind}
use Rattle.uac_units.specs.declared.jobs.UnitKind.TheVariants.{Mixer, Selector, Feature, Effect}
use Rattle.uac_boxes.proofs.boxes.run_in_boxes.OwnLists as lists
use Rattle.uac_boxes.proofs.boxes.run_in_boxes.Goals as goal

-- what lies in a box is a unit of this kind
abbrev IsOfKind : UnitKind → (lists.own-1).I → Type 0
IsOfKind kind boxed = (x : (lists.own-1.entry boxed).0.Denot) → (lists.own-1.entry boxed).1.kind_of x ≡ kind

-- a box is of the kind of the unit that was put into it
of_kind : (kind : UnitKind) (boxed made : (lists.own-1).I) → boxed ≡ made → IsOfKind kind made → IsOfKind kind boxed
of_kind kind boxed made same known = subst (IsOfKind kind) (sym same) known

pub new-requires-5-clause-mixer : goal.new-requires-5-clause-mixer
new-requires-5-clause-mixer g c = of_kind Mixer _ _ c.into_dyn_box.ensures.0 (λ x. refl) c.into_dyn_box.result.value

pub new-requires-5-clause-selector : goal.new-requires-5-clause-selector
new-requires-5-clause-selector g c = of_kind Selector _ _ c.into_dyn_box-in_ok-new-2.ensures.0 (λ x. refl) c.into_dyn_box-in_ok-new-2.result.value

pub new-requires-5-clause-feature : goal.new-requires-5-clause-feature
new-requires-5-clause-feature g c = of_kind Feature _ _ c.into_dyn_box-in_ok-new-3.ensures.0 (λ x. refl) c.into_dyn_box-in_ok-new-3.result.value

pub new-requires-5-clause-effect : goal.new-requires-5-clause-effect
new-requires-5-clause-effect g c = of_kind Effect _ _ c.into_dyn_box-in_ok-new-4.ensures.0 (λ x. refl) c.into_dyn_box-in_ok-new-4.result.value

pub new-requires-10-clause-mixer : goal.new-requires-10-clause-mixer
new-requires-10-clause-mixer g c = of_kind Mixer _ _ c.into_dyn_box-in_ok-new-5.ensures.0 (λ x. refl) c.into_dyn_box-in_ok-new-5.result.value

pub new-requires-10-clause-selector : goal.new-requires-10-clause-selector
new-requires-10-clause-selector g c = of_kind Selector _ _ c.into_dyn_box-in_ok-new-6.ensures.0 (λ x. refl) c.into_dyn_box-in_ok-new-6.result.value

pub new-requires-10-clause-feature : goal.new-requires-10-clause-feature
new-requires-10-clause-feature g c = of_kind Feature _ _ c.into_dyn_box-in_ok-new-7.ensures.0 (λ x. refl) c.into_dyn_box-in_ok-new-7.result.value

pub new-requires-10-clause-effect : goal.new-requires-10-clause-effect
new-requires-10-clause-effect g c = of_kind Effect _ _ c.into_dyn_box-in_ok-new-8.ensures.0 (λ x. refl) c.into_dyn_box-in_ok-new-8.result.value
