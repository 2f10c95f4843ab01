-- Ticks of a device where no interface runs a stream leave it still.
use Rattle.std.proofs.Common.{◌≡◌, ◌∙◌, sym, ap, subst, refl, ℕ, ◌==◌, true, List, [], ◌∷◌, Option, inl, inr}
use Rattle.std.specs.List.{All}
use Rattle.std.proofs.lemmas.Bool.{cases_Bool}
use Rattle.std.proofs.lemmas.List.Elements.{All-head, All-tail}
use Rattle.uac_topology.specs.Function.{FunctionFields}
use Rattle.uac_graph.specs.Meaning.{entity}
use Rattle.uac_units.specs.Hearing.{Reading}
use Rattle.uac_flow.specs.FlowStreams.{InStream, OutStream}
use Rattle.uac_device.specs.InterfaceStreams.{NoneRuns}
use Rattle.uac_device.specs.DeviceWorld.{DeviceWorld, is_input_jack, set_jack}
use Rattle.uac_device.specs.Stillness.{IsStill}
use Rattle.uac_device.proofs.StillnessLemmas.{still_after, still_given}
use Rattle.uac_device.specs.declared.jacks.Jack.{Jack}
use Rattle.uac_running.specs.RunningWorld.{RunningWorld}
use Rattle.uac_running.specs.Events.{after_all_jacks, after_jacks, next_frame, tick}
use Rattle.uac_running.specs.RunningKept.{HasItsJacks, RunningFields, RunningStands}
use Rattle.uac_running.proofs.EventsLemmas.{gave, after_jacks-kept}

-- ---- the jacks give

still_jacks : (f : FunctionFields) (clock : ℕ) (jacks : List Jack) (w : DeviceWorld) → All (λ (j : Jack). is_input_jack (entity f.entities j.terminal) ≡ true) jacks → w.function ≡ f
    → IsStill clock w → IsStill clock (after_jacks clock jacks w)
unfolding set_jack
still_jacks f clock [] w kinds same still = still
still_jacks f clock (j ∷ js) w kinds same still =
    let kind : Jack → Type 0 = λ j. is_input_jack (entity f.entities j.terminal) ≡ true in
    let more : All kind js = All-tail kind j js kinds in
    let input : is_input_jack (entity w.function.entities j.terminal) ≡ true =
    subst (λ (g : FunctionFields). is_input_jack (entity g.entities j.terminal) ≡ true) (sym same) (All-head kind j js kinds) in
    elim (cases_Bool (j.domain == clock)) [
      | inl here ↦ rw here (still_jacks f clock js (set_jack j.terminal (next_frame j) w) more same (still_given clock j.terminal (next_frame j) w input still))
      | inr away ↦ rw away (still_jacks f clock js w more same still)
    ]

pub still_gave : (clock : ℕ) (shown : List Reading) (r : RunningWorld) (p : RunningFields) → RunningStands p shown r → HasItsJacks p → IsStill clock r.device → IsStill clock (gave clock r)
still_gave clock shown r p stands jacks still =
    still_jacks r.device.function clock r.jacks r.device
    (subst (λ (js : List Jack). All (λ (j : Jack). is_input_jack (entity r.device.function.entities j.terminal) ≡ true) js) stands.jacks
    (subst (λ (g : FunctionFields). All (λ (j : Jack). is_input_jack (entity g.entities j.terminal) ≡ true) p.jacks) stands.streaming.device.function jacks.kinds))
    refl still

pub none_given : (clock : ℕ) (r : RunningWorld) → NoneRuns r.device.outs r.device.ins → NoneRuns (after_all_jacks clock r).outs (after_all_jacks clock r).ins
unfolding after_all_jacks set_jack
none_given clock r none k = (
  ap (λ (outs : ℕ → Option OutStream). outs k) (after_jacks-kept (λ w. w.outs) (λ t frame w. refl) clock r.jacks r.device) ∙ (none k).0,
  ap (λ (ins : ℕ → Option InStream). ins k) (after_jacks-kept (λ w. w.ins) (λ t frame w. refl) clock r.jacks r.device) ∙ (none k).1,
)

-- after a tick the device is still
pub stills_after : (clock : ℕ) (r : RunningWorld) → NoneRuns r.device.outs r.device.ins → IsStill clock (tick clock r).world.device
unfolding tick
stills_after clock r none = still_after clock (after_all_jacks clock r) (none_given clock r none)
