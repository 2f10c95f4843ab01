-- The lines of the descriptor, as steps of a desk's world.
use Rattle.std.proofs.Common.{◌≡◌, ◌≢◌, ℕ, List, [], ◌∷◌, ◌++◌, refl, sym, ap, subst, ◌∙◌, true, Option, None, Some, Result, Ok, Err, IfOk, IfErr}
use Rattle.std.specs.Io.KnownBytes.{Appends}
use Rattle.std.proofs.KnownBytes.{Appends-nil}
use Rattle.uac_grammar_rules.specs.declared.faults.GrammarFault.{GrammarFault}
use Rattle.uac_grammar.specs.ReaderKept as reader
use Rattle.uac_grammar.specs.Stop.{shown_fault, shown_stop}
use Rattle.uac_grammar.specs.declared.fault.ReadStop.{ReadStop}
use Rattle.uac_grammar.specs.declared.fault.ReadStop.TheVariants as reads
use Rattle.uac_grammar.proofs.ReaderKeptLemmas.{no_stop_no_fault}
use Rattle.uac_grammar.proofs.StopLemmas.{stop_at-Fault}
use Rattle.uac_topology_rules.specs.declared.fault.TopologyFault.{TopologyFault}
use Rattle.uac_topology.specs.Function.{FunctionFields}
use Rattle.uac_topology.specs.Topology.{first_fault_of}
use Rattle.uac_topology.specs.declared.describing.SoundDescriptor.{SoundDescriptor}
use Rattle.uac_topology.specs.declared.fault.DescriptorFault.{DescriptorFault}
use Rattle.uac_topology.specs.declared.fault.DescriptorFault.TheVariants as broken
use Rattle.uac_topology.specs.Description.{blocks_of, function_of}
use Rattle.uac_topology.specs.ConfigurationVerdict.{Describes, fault_of}
use Rattle.uac_edges.specs.Writing.{AppendsFront, Writes}
use Rattle.uac_ends.specs.declared.fault.LineFault.{LineFault}
use Rattle.uac_ends.specs.declared.fault.LineFault.TheVariants as faults
use Rattle.uac_runner.specs.Machine.{done}
use Rattle.uac_status.specs.Panels.{panel_start}
use Rattle.uac_status.specs.PanelLines.{panel_spelling}
use Rattle.uac_status.specs.Desks.{DeskStep, describing, fronted, if_no_fault, if_sound, ready_line, silently, step_feed, step_go}
use Rattle.uac_status.specs.FrontKept.{Begins, FrontAs, FrontFields, FrontStands, IsCut, IsDone, Stops, is_final, line_fault}
use Rattle.uac_status.specs.DeskKept.{StageStands}
use Rattle.uac_status.specs.declared.desk.DeskStage.TheVariants as stages
use Rattle.uac_status.proofs.PanelTextLemmas.{one_appended, one_front}

-- a fault of the descriptor is answered again from now on, and is no failed write
pub told_finally : (fault : DescriptorFault) → is_final (line_fault fault) ≡ true
told_finally (broken.Grammar f) = refl
told_finally (broken.Topology f) = refl
told_finally broken.NoMemory = refl

pub told_unwritten : (fault : DescriptorFault) → line_fault fault ≢ faults.WriteFault
told_unwritten (broken.Grammar f) e = absurd (cc)
told_unwritten (broken.Topology f) e = absurd (cc)
told_unwritten broken.NoMemory e = absurd (cc)

-- ---- the descriptor's end

pub gone_well : (bytes : List ℕ) (d : SoundDescriptor) → Describes bytes (Ok d) → step_go bytes ≡ done (fronted (panel_start d.function)) (ready_line d.function ∷ [])
unfolding step_go
gone_well bytes sound d =
    let began : FunctionFields → DeskStep = λ f. done (fronted (panel_start f)) (ready_line f ∷ []) in
    let whole : DeskStep = began (function_of (blocks_of bytes)) in
    ap (λ (o : Option GrammarFault). if_no_fault o (if_sound (first_fault_of (blocks_of bytes)) whole)) d.0
    ∙ ap (λ (o : Option TopologyFault). if_sound o whole) d.1
    ∙ ap began (sym d.2)

not_gone : (bytes : List ℕ) (fault : DescriptorFault) (written : Option (List ℕ)) → Describes bytes (Err fault) → Stops (line_fault fault) true (step_go bytes) written written
unfolding step_go
not_gone bytes (broken.Grammar f) written d =
    let function = function_of (blocks_of bytes) in
    ap (λ (o : Option GrammarFault). if_no_fault o (if_sound (first_fault_of (blocks_of bytes)) (done (fronted (panel_start function)) (ready_line function ∷ [])))) d
not_gone bytes (broken.Topology f) written d =
    let function = function_of (blocks_of bytes) in
    let whole : DeskStep = done (fronted (panel_start function)) (ready_line function ∷ []) in
    ap (λ (o : Option GrammarFault). if_no_fault o (if_sound (first_fault_of (blocks_of bytes)) whole)) d.0
    ∙ ap (λ (o : Option TopologyFault). if_sound o whole) d.1
not_gone bytes broken.NoMemory written d = refl

pub gone_ill : (bytes : List ℕ) (fault : DescriptorFault) (told : LineFault) (written : Option (List ℕ)) → Describes bytes (Err fault)
    → told ≡ line_fault fault → Stops told true (step_go bytes) written written
gone_ill bytes fault told written d is = subst (λ (f : LineFault). Stops f true (step_go bytes) written written) (sym is) (not_gone bytes fault written d)

-- the device's line was printed, or a front of it
pub begun_well : (bytes : List ℕ) (d : SoundDescriptor) (p : FrontFields) (written written' : Option (List ℕ)) (result : Result FrontFields LineFault)
    → Describes bytes (Ok d) → FrontStands p (panel_start d.function)
    → IfOk result (λ announced. announced ≡ p) → IfErr result (λ fault. fault ≡ faults.WriteFault)
    → Writes written written' result (panel_spelling (ready_line p.device.function)) → Begins (step_go bytes) written written' result
unfolding panel_start
begun_well bytes d p written written' (Ok announced) described stands is other writes =
    subst (λ (s : DeskStep). IsDone s (FrontAs announced) written written') (sym (gone_well bytes d described)) (
      subst (λ (x : FrontFields). FrontStands x (panel_start d.function)) (sym is) stands,
      one_appended written written' (ready_line d.function) (subst (λ (f : FunctionFields). Appends written written' (panel_spelling (ready_line f))) stands.function writes),
    )
begun_well bytes d p written written' (Err fault) described stands is other writes =
    subst (λ (f : LineFault). Stops f true (step_go bytes) written written') (sym other)
    (subst (λ (s : DeskStep). IsCut s written written') (sym (gone_well bytes d described))
    (one_front written written' (ready_line d.function) (subst (λ (f : FunctionFields). AppendsFront written written' (panel_spelling (ready_line f))) stands.function writes)))

-- without memory
pub begun_ill : (s : DeskStep) (written : Option (List ℕ)) → Stops faults.NoMemory true s written written
begun_ill s written = refl

-- ---- more bytes

pub fed_well : (taken piece : List ℕ) (r : reader.ReaderFields) (written : Option (List ℕ)) → r.stop ≡ None → r.taken ≡ taken ++ piece
    → (r.stop ≢ Some reads.NoMemory → r.stop ≡ shown_stop (taken ++ piece))
    → IsDone (step_feed (taken ++ piece)) (StageStands (stages.Describing r)) written written
unfolding step_feed
fed_well taken piece r written none all told =
    let quiet : shown_fault (taken ++ piece) ≡ None = no_stop_no_fault (shown_fault (taken ++ piece)) (sym (told (λ n. cc)) ∙ none) in
    let P : Option GrammarFault → Type 0 =
    λ o. IsDone (if_no_fault o (silently (describing (taken ++ piece)))) (StageStands (stages.Describing r)) written written
    in
    subst P (sym quiet) ((all, none), Appends-nil written)

fed_stopped : (taken piece : List ℕ) (stop : ReadStop) (told : Option ReadStop) (written : Option (List ℕ))
    → told ≡ Some stop → (told ≢ Some reads.NoMemory → told ≡ shown_stop (taken ++ piece))
    → Stops (line_fault (fault_of stop)) true (step_feed (taken ++ piece)) written written
unfolding step_feed
fed_stopped taken piece (reads.Fault f) told written at shows =
    let found : shown_fault (taken ++ piece) ≡ Some f = stop_at-Fault (shown_fault (taken ++ piece)) f (sym (shows (λ n. cc)) ∙ at) in
    ap (λ (o : Option GrammarFault). if_no_fault o (silently (describing (taken ++ piece)))) found
fed_stopped taken piece reads.NoMemory told written at shows = refl

pub fed_ill : (taken piece : List ℕ) (stop : ReadStop) (told : Option ReadStop) (fault : LineFault) (from : DescriptorFault) (written : Option (List ℕ))
    → told ≡ Some stop → (told ≢ Some reads.NoMemory → told ≡ shown_stop (taken ++ piece)) → from ≡ fault_of stop → fault ≡ line_fault from
    → Stops fault true (step_feed (taken ++ piece)) written written
fed_ill taken piece stop told fault from written at shows made is =
    subst (λ (f : LineFault). Stops f true (step_feed (taken ++ piece)) written written) (sym (is ∙ ap line_fault made))
    (fed_stopped taken piece stop told written at shows)
