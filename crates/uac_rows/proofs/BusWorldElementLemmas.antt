-- The lines that name an element, as steps of the world.
use Rattle.std.proofs.Common.{◌≡◌, ◌∙◌, sym, subst, ℕ, ◌<◌, length, List, Option, Some, slice_get}
use Rattle.std.specs.Option.{option_and_then}
use Rattle.uac_mixer.specs.declared.element.Element.{Element}
use Rattle.uac_running.specs.RunningWorld.{RunningWorld}
use Rattle.uac_running.specs.RunningTransfers.{element_named}
use Rattle.uac_running.proofs.RunningTransfersLemmas.{an_element}
use Rattle.uac_rows.specs.BusWorld.{Step, on_element}

-- the element at the place that was found is the one that has the name
pub on_named : (P : Step → Type 0) (r : RunningWorld) (name : List ℕ) (own : List Element) (at : ℕ) (step : Element → Step) → own ≡ r.view.elements → at < length own
    → option_and_then (slice_get r.view.elements) (Some at) ≡ element_named r name
    → ((x : Element) → slice_get own at ≡ Some x → slice_get r.view.elements at ≡ Some x → P (step x)) → P (on_element (element_named r name) step)
on_named P r name own at step same below found holds =
    let e = an_element own at below in
    let there : slice_get r.view.elements at ≡ Some e.0 = subst (λ (xs : List Element). slice_get xs at ≡ Some e.0) same e.1 in
    subst (λ (o : Option Element). P (on_element o step)) (sym there ∙ found) (holds e.0 e.1 there)
