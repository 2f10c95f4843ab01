-- The worlds in which what the host knows is so, and stays so.
use Rattle.std.proofs.Common.{◌≡◌, sym, subst, ℤ, true, List, is_some}
use Rattle.std.specs.List.{AllByRecursion}
use Rattle.uac_descriptor.specs.BlockParsing.{AreBytes}
use Rattle.uac_topology.specs.Function.{FunctionFields}
use Rattle.uac_topology.specs.Topology.{IsSoundFunction}
use Rattle.uac_store.specs.declared.keys.Key.{Key}
use Rattle.uac_store.specs.StoreControls.{IsStoreOf}
use Rattle.uac_mixer.specs.Agreement.{IsAgreed}
use Rattle.uac_mixer.specs.ViewWorld.{IsViewOf, ViewWorld}
use Rattle.uac_mixer.specs.declared.element.Element.{Element}
use Rattle.uac_running.specs.RunningWorld.{RunningWorld}
use Rattle.uac_rows.specs.BusWorld.{Step, BusWorld, describing, done, refused, running}
use Rattle.uac_promises.specs.Believed.{IsSoIn}

-- a sound function, a value for each of its controls, and a view of it that knows these values alone
pub record Agree (function : FunctionFields) (controls : List (Key × ℤ)) (view : ViewWorld) : Type 0 where
  pub sound : IsSoundFunction function
  pub store : IsStoreOf function.entities controls
  pub of_function : IsViewOf function.entities view
  pub agreed : IsAgreed controls view

-- so it is of a running device
abbrev pub IsBelieved : RunningWorld → Type 0
IsBelieved r = Agree r.device.function r.device.controls r.view

-- a descriptor's bytes are bytes, until the device runs
abbrev pub IsGood : BusWorld → Type 0
IsGood (describing bytes meters) = AreBytes bytes
IsGood (running r) = IsBelieved r

pub is_so : (w : BusWorld) → IsGood w → IsSoIn w
is_so (describing bytes meters) good = tt
is_so (running r) good = good.agreed

-- what is as before agrees as before
pub carried : (f g : FunctionFields) (c d : List (Key × ℤ)) (v w : ViewWorld) → g ≡ f → d ≡ c → w ≡ v → Agree f c v → Agree g d w
carried f g c d v w function controls view agree =
    subst (λ (h : FunctionFields). Agree h d w) (sym function)
    (subst (λ (e : List (Key × ℤ)). Agree f e w) (sym controls) (subst (λ (u : ViewWorld). Agree f c u) (sym view) agree))

-- just after the descriptor's end each value is known
pub record IsBegun (r : RunningWorld) : Type 0 where
  pub believed : IsBelieved r
  pub known : AllByRecursion (λ (x : Element). is_some x.value ≡ true) r.view.elements

-- a line before it, or that of it: bytes of a descriptor stay bytes, and the device begins
abbrev pub Begins : Step → Type 0
Begins (done (describing bytes meters) lines) = AreBytes bytes
Begins (done (running r) lines) = IsBegun r
Begins (refused fault) = Unit {0}

-- a line keeps a world good
abbrev pub Keeps : Step → Type 0
Keeps (done next lines) = IsGood next
Keeps (refused fault) = Unit {0}

pub begins_good : (s : Step) → Begins s → Keeps s
begins_good (done (describing bytes meters) lines) begins = begins
begins_good (done (running r) lines) begins = begins.believed
begins_good (refused fault) begins = tt
