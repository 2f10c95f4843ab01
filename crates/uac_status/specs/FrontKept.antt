-- What a device with a front panel keeps, for which worlds it stands, and what its calls leave.
use Rattle.std.specs.Prelude.{◌≡◌, ◌≢◌, ℕ, ◌≤◌, Bool, true, false, not, ℤ, List, [], ◌∷◌, Option, Some, is_some, Result, Ok, Err, IfErr, IfOk, OnOk}
use Rattle.std.specs.List.{AllByRecursion}
use Rattle.std.specs.Io.KnownBytes.{Appends}
use Rattle.uac_edges.specs.Faults.{Rose}
use Rattle.uac_edges.specs.Writing.{AppendsFront, Writes}
use Rattle.uac_topology.specs.declared.fault.DescriptorFault.{DescriptorFault}
use Rattle.uac_topology.specs.declared.fault.DescriptorFault.TheVariants as descriptor
use Rattle.uac_alt.specs.AltSettings.{initial_settings}
use Rattle.uac_device.specs.DeviceKept.{DeviceFields}
use Rattle.uac_store.specs.declared.keys.Key.{Key}
use Rattle.uac_store.specs.Keyed.{value_of}
use Rattle.uac_mixer.specs.ViewWorld.{IsViewOf, ViewWorld}
use Rattle.uac_mixer.specs.declared.element.Element.{Element}
use Rattle.uac_mixer.specs.declared.link.Broken.{Broken}
use Rattle.uac_mixer.specs.declared.link.When.{When}
use Rattle.uac_transcript.specs.Transcript.{says_view}
use Rattle.uac_ends.specs.declared.fault.LineFault.{LineFault}
use Rattle.uac_ends.specs.declared.fault.LineFault.TheVariants as faults
use Rattle.uac_runner.specs.Machine.{done, refused}
use Rattle.uac_status.specs.declared.following.Heard.{Heard}
use Rattle.uac_status.specs.Messages.{element_keyed, message_of}
use Rattle.uac_status.specs.Panels.{PanelWorld, followed}
use Rattle.uac_status.specs.PanelLaws.{IsKeyShown}
use Rattle.uac_status.specs.PanelLines.{PanelLine, got_sight, panel_text, says_line, says_message}
use Rattle.uac_status.specs.Desks.{DeskStep, DeskWorld, describing, fronted}

-- what a device with a front panel is seen as
pub record FrontFields : Type 0 where
  pub device : DeviceFields
  pub view : ViewWorld
  pub pending : List Key
  pub breaks : Option When

-- its view is of its function, and each key that waits is shown
pub record IsFront (front : FrontFields) : Type 0 where
  pub of_function : IsViewOf front.device.function.entities front.view
  pub shown : AllByRecursion (IsKeyShown front.view.elements) front.pending

-- it stands for this world
pub record FrontStands (front : FrontFields) (w : PanelWorld) : Type 0 where
  pub function : front.device.function ≡ w.function
  pub controls : front.device.controls ≡ w.controls
  pub settings : front.device.settings ≡ initial_settings w.function
  pub view : front.view ≡ w.view
  pub pending : front.pending ≡ w.pending
  pub breaks : front.breaks ≡ w.breaks

-- the device stands for a world past the descriptor's end
abbrev pub FrontAs : FrontFields → DeskWorld → Type 0
FrontAs front (describing bytes) = ⊥
FrontAs front (fronted w) = FrontStands front w

-- ---- what calls answer and leave

-- reading an element answers the device's value, or that the transfer broke
abbrev pub IsGot : Element → PanelWorld → Result ℤ Broken → Type 0
IsGot x w (Ok value) = (is_some w.breaks ≡ false) × (value_of w.controls x.key ≡ Some value)
IsGot x w (Err broken) = is_some w.breaks ≡ true

-- a fault that is answered again from now on
abbrev pub is_final : LineFault → Bool
is_final (faults.Script rule) = false
is_final (faults.Grammar fault) = true
is_final (faults.Topology fault) = true
is_final faults.WriteFault = true
is_final faults.NoMemory = true

-- what a fault leaves as it was: a rule of the script that is broken, what the line would have changed; any fault but a failed write, the
-- sink
pub record Leaves {A B : Type 0} (old new : A) (sink sink' : B) (result : Result (Unit {0}) LineFault) : Type 0 where
  pub script : IfErr result (λ fault. is_final fault ≡ false → new ≡ old)
  pub unwritten : IfErr result (λ fault. fault ≢ faults.WriteFault → sink' ≡ sink)

-- a failed write has its cause in this call; the count of faults never falls, and where the line is done no write met one
pub record HasWriteCause {T : Type 0} (old new : ℕ) (result : Result T LineFault) : Type 0 where
  pub cause : IfErr result (λ fault. fault ≡ faults.WriteFault → Rose old new)
  pub never_falls : old ≤ new
  pub faultless : OnOk result (new ≡ old)

-- ---- what a step is answered

-- the step was done: this holds of the next world, and its lines were written
abbrev pub IsDone : DeskStep → (DeskWorld → Type 0) → Option (List ℕ) → Option (List ℕ) → Type 0
IsDone (done next lines) Holds written written' = Holds next × Appends written written' (panel_text lines)
IsDone (refused fault) Holds written written' = ⊥

-- a write failed in the middle of the step's lines
abbrev pub IsCut : DeskStep → Option (List ℕ) → Option (List ℕ) → Type 0
IsCut (done next lines) written written' = AppendsFront written written' (panel_text lines)
IsCut (refused fault) written written' = ⊥

-- why a step wasn't done; memory may be wanted only where this says so
abbrev pub Stops : LineFault → Bool → DeskStep → Option (List ℕ) → Option (List ℕ) → Type 0
Stops faults.WriteFault memory s written written' = IsCut s written written'
Stops faults.NoMemory memory s written written' = memory ≡ true
Stops (faults.Script rule) memory s written written' = s ≡ refused (faults.Script rule)
Stops (faults.Grammar fault) memory s written written' = s ≡ refused (faults.Grammar fault)
Stops (faults.Topology fault) memory s written written' = s ≡ refused (faults.Topology fault)

-- what a step is answered, and what it leaves
abbrev pub Does : DeskStep → Bool → (DeskWorld → Type 0) → Option (List ℕ) → Option (List ℕ) → Result (Unit {0}) LineFault → Type 0
Does s memory Holds written written' (Ok _) = IsDone s Holds written written'
Does s memory Holds written written' (Err fault) = Stops fault memory s written written'

-- lines were printed, and what is kept stands for this world; or at an error a front of them was printed
abbrev pub FrontTells : {E : Type 0} → List PanelLine → PanelWorld → FrontFields → Option (List ℕ) → Option (List ℕ) → Result (Unit {0}) E
    → Type 0
FrontTells lines w front old new result = Writes old new result (panel_text lines) × OnOk result (FrontStands front w)

-- what following the first message answers: the element as it was and its value, which is the device's; or that the transfer broke
abbrev pub IsHeard : Element → PanelWorld → Result Heard Broken → Type 0
IsHeard x w (Ok heard) = (is_some w.breaks ≡ false) × (heard.element ≡ x) × (value_of w.controls x.key ≡ Some heard.value)
IsHeard x w (Err broken) = is_some w.breaks ≡ true

-- and what it leaves: this key waited first, these after it, and this is the element with the key
pub record HearsMessage (w : PanelWorld) (front : FrontFields) (result : Result Heard Broken) : Type 0 where
  pub k : Key
  pub later : List Key
  pub x : Element
  pub waits : w.pending ≡ k ∷ later
  pub keyed : element_keyed w.view.elements k ≡ Some x
  pub stands : FrontStands front (followed x later w)
  pub heard : IsHeard x w result

-- what is printed then
abbrev pub message_lines : PanelWorld → Key → Element → List PanelLine
message_lines w k x = says_message (message_of w.function.control_interface k) ∷ says_line (says_view (got_sight x w)) ∷ []

-- what was printed of the first message, and what it leaves
pub record TellsMessage {E : Type 0} (w : PanelWorld) (front : FrontFields) (old new : Option (List ℕ)) (result : Result Bool E) : Type 0 where
  pub k : Key
  pub later : List Key
  pub x : Element
  pub waits : w.pending ≡ k ∷ later
  pub keyed : element_keyed w.view.elements k ≡ Some x
  pub written : Writes old new result (panel_text (message_lines w k x))
  pub stands : OnOk result (FrontStands front (followed x later w))
  pub answered : IfOk result (λ answered. answered ≡ not (is_some w.breaks))

-- what the descriptor's end is answered: the device stands for the next world
abbrev pub Begins : DeskStep → Option (List ℕ) → Option (List ℕ) → Result FrontFields LineFault → Type 0
Begins s written written' (Ok front) = IsDone s (FrontAs front) written written'
Begins s written written' (Err fault) = Stops fault true s written written'

-- why a descriptor's bytes come to nothing, as why a line isn't done
abbrev pub line_fault : DescriptorFault → LineFault
line_fault (descriptor.Grammar fault) = faults.Grammar fault
line_fault (descriptor.Topology fault) = faults.Topology fault
line_fault descriptor.NoMemory = faults.NoMemory
