-- The lines of the descriptor, as steps of the world.
use Rattle.std.proofs.Common.{◌≡◌, ◌≢◌, ℕ, List, [], ◌∷◌, ◌++◌, refl, sym, ap, subst, ◌∙◌, true, Option, None, Some, Result, Ok, Err, IfOk, IfErr, IsErrAnd}
use Rattle.std.specs.Io.KnownBytes.{Appends}
use Rattle.std.proofs.KnownBytes.{Appends-nil}
use Rattle.uac_grammar_rules.specs.declared.faults.GrammarFault.{GrammarFault}
use Rattle.uac_grammar.specs.ReaderKept as reader
use Rattle.uac_grammar.specs.Stop.{shown_fault, shown_stop}
use Rattle.uac_grammar.specs.declared.fault.ReadStop.{ReadStop}
use Rattle.uac_grammar.specs.declared.fault.ReadStop.TheVariants as reads
use Rattle.uac_grammar.proofs.ReaderKeptLemmas.{no_stop_no_fault}
use Rattle.uac_grammar.proofs.StopLemmas.{stop_at-Fault}
use Rattle.uac_topology_rules.specs.declared.fault.TopologyFault.{TopologyFault}
use Rattle.uac_topology.specs.Function.{FunctionFields}
use Rattle.uac_topology.specs.Topology.{first_fault_of}
use Rattle.uac_topology.specs.declared.describing.SoundDescriptor.{SoundDescriptor}
use Rattle.uac_topology.specs.declared.fault.DescriptorFault.{DescriptorFault}
use Rattle.uac_topology.specs.declared.fault.DescriptorFault.TheVariants as broken
use Rattle.uac_topology.specs.Description.{blocks_of, function_of}
use Rattle.uac_topology.specs.ConfigurationVerdict.{Describes, fault_of}
use Rattle.uac_units.specs.Hearing.{Reading}
use Rattle.uac_edges.specs.Writing.{AppendsFront, Writes}
use Rattle.uac_transcript.specs.Transcript.{spelling_of}
use Rattle.uac_transcript.proofs.PrintingLemmas.{Appends-line, front_of_line}
use Rattle.uac_running.specs.RunningKept.{RunningFields, RunningStandsBetween}
use Rattle.uac_running.specs.RunningLines.{ready_line}
use Rattle.uac_running.specs.RunningWorld.{at_start}
use Rattle.uac_fault.specs.declared.fault.BusFault.{BusFault}
use Rattle.uac_fault.specs.declared.fault.BusFault.TheVariants as faults
use Rattle.uac_bus.specs.declared.bus.BusStage.TheVariants as stages
use Rattle.uac_rows.specs.BusWorld.{BusWorld, Step, done, describing, running, if_no_fault, if_sound, silently, step_feed, step_go}
use Rattle.uac_bus.specs.BusKept.{BusStageStands}
use Rattle.uac_rows.specs.BusSteps.{Reaches, IsWriteCut, Prevents, Does, is_final}
use Rattle.uac_bus.specs.Beginning.{BeginsRunning}
use Rattle.uac_fault.specs.DescriptorFaults.{bus_fault_of}

-- a fault of the descriptor is answered again from now on, and is no failed write
pub told_finally : (fault : DescriptorFault) → is_final (bus_fault_of fault) ≡ true
told_finally (broken.Grammar f) = refl
told_finally (broken.Topology f) = refl
told_finally broken.NoMemory = refl

pub told_unwritten : (fault : DescriptorFault) → bus_fault_of fault ≢ faults.WriteFault
told_unwritten (broken.Grammar f) e = absurd (cc)
told_unwritten (broken.Topology f) e = absurd (cc)
told_unwritten broken.NoMemory e = absurd (cc)

-- and `?` handed it on
pub final_handed_on : (fault : DescriptorFault) (result : Result (Unit {0}) BusFault) → IsErrAnd result (λ told. told ≡ bus_fault_of fault)
    → IfErr result (λ told. is_final told ≡ true)
final_handed_on fault (Ok _) is = absurd is
final_handed_on fault (Err told) is = ap is_final is ∙ told_finally fault

pub unwritten_handed_on : (fault : DescriptorFault) (result : Result (Unit {0}) BusFault) → IsErrAnd result (λ told. told ≡ bus_fault_of fault)
    → IfErr result (λ told. told ≢ faults.WriteFault)
unwritten_handed_on fault (Ok _) is = absurd is
unwritten_handed_on fault (Err told) is = λ write. told_unwritten fault (sym is ∙ write)

-- the end of such a descriptor
pub gone_well : (bytes : List ℕ) (d : SoundDescriptor) (shown : List Reading) → Describes bytes (Ok d)
    → step_go bytes shown ≡ done (running (at_start bytes d.function shown)) (ready_line d.function ∷ [])
unfolding step_go
gone_well bytes sound shown d =
    let began : FunctionFields → Step = λ f. done (running (at_start bytes f shown)) (ready_line f ∷ []) in
    let whole : Step = began (function_of (blocks_of bytes)) in
    ap (λ (o : Option GrammarFault). if_no_fault o (if_sound (first_fault_of (blocks_of bytes)) whole)) d.0
    ∙ ap (λ (o : Option TopologyFault). if_sound o whole) d.1
    ∙ ap began (sym d.2)

not_gone : (bytes : List ℕ) (fault : DescriptorFault) (shown : List Reading) (written : Option (List ℕ)) → Describes bytes (Err fault)
    → Prevents (bus_fault_of fault) true (step_go bytes shown) written written
unfolding step_go
not_gone bytes (broken.Grammar f) shown written d =
    let function = function_of (blocks_of bytes) in
    ap (λ (o : Option GrammarFault). if_no_fault o (if_sound (first_fault_of (blocks_of bytes)) (done (running (at_start bytes function shown)) (ready_line function ∷ [])))) d
not_gone bytes (broken.Topology f) shown written d =
    let function = function_of (blocks_of bytes) in
    let whole : Step = done (running (at_start bytes function shown)) (ready_line function ∷ []) in
    ap (λ (o : Option GrammarFault). if_no_fault o (if_sound (first_fault_of (blocks_of bytes)) whole)) d.0
    ∙ ap (λ (o : Option TopologyFault). if_sound o whole) d.1
not_gone bytes broken.NoMemory shown written d = refl

pub gone_ill : (bytes : List ℕ) (fault : DescriptorFault) (told : BusFault) (shown : List Reading) (written : Option (List ℕ)) → Describes bytes (Err fault)
    → told ≡ bus_fault_of fault → Prevents told true (step_go bytes shown) written written
gone_ill bytes fault told shown written d is =
    subst (λ (f : BusFault). Prevents f true (step_go bytes shown) written written) (sym is) (not_gone bytes fault shown written d)

-- the device's line was printed, or a front of it
pub begun : (bytes : List ℕ) (d : SoundDescriptor) (p : RunningFields) (shown : List Reading) (written written' : Option (List ℕ)) (result : Result RunningFields BusFault)
    → Describes bytes (Ok d) → p.device.function ≡ d.function → RunningStandsBetween p shown (at_start bytes d.function shown)
    → IfOk result (λ announce. announce ≡ p) → IfErr result (λ fault. fault ≡ faults.WriteFault)
    → Writes written written' result (spelling_of (ready_line p.device.function)) → BeginsRunning (step_go bytes shown) shown written written' result
begun bytes d p shown written written' (Ok announce) described same stands is other writes =
    subst (λ (s : Step). Reaches s (BusStageStands (stages.Running announce) shown) written written') (sym (gone_well bytes d shown described)) (
      subst (λ (x : RunningFields). RunningStandsBetween x shown (at_start bytes d.function shown)) (sym is) stands,
      Appends-line written written' (ready_line d.function) (subst (λ (f : FunctionFields). Appends written written' (spelling_of (ready_line f))) same writes),
    )
begun bytes d p shown written written' (Err fault) described same stands is other writes =
    subst (λ (f : BusFault). Prevents f true (step_go bytes shown) written written') (sym other)
    (subst (λ (s : Step). IsWriteCut s written written') (sym (gone_well bytes d shown described))
    (front_of_line written written' (ready_line d.function) (subst (λ (f : FunctionFields). AppendsFront written written' (spelling_of (ready_line f))) same writes)))

-- more bytes show no fault
pub fed_well : (taken piece : List ℕ) (r : reader.ReaderFields) (shown : List Reading) (written : Option (List ℕ)) → r.stop ≡ None → r.taken ≡ taken ++ piece
    → (r.stop ≢ Some reads.NoMemory → r.stop ≡ shown_stop (taken ++ piece))
    → Reaches (step_feed (taken ++ piece) shown) (BusStageStands (stages.Describing r) shown) written written
unfolding step_feed
fed_well taken piece r shown written none all told =
    let quiet : shown_fault (taken ++ piece) ≡ None = no_stop_no_fault (shown_fault (taken ++ piece)) (sym (told (λ n. cc)) ∙ none) in
    let P : Option GrammarFault → Type 0 =
    λ o. Reaches (if_no_fault o (silently (describing (taken ++ piece) shown))) (BusStageStands (stages.Describing r) shown) written written
    in
    subst P (sym quiet) ((all, none, refl), Appends-nil written)

-- or they show one, or there was no memory
fed_stopped : (taken piece : List ℕ) (stop : ReadStop) (told : Option ReadStop) (shown : List Reading) (written : Option (List ℕ))
    → told ≡ Some stop → (told ≢ Some reads.NoMemory → told ≡ shown_stop (taken ++ piece))
    → Prevents (bus_fault_of (fault_of stop)) true (step_feed (taken ++ piece) shown) written written
unfolding step_feed
fed_stopped taken piece (reads.Fault f) told shown written at shows =
    let found : shown_fault (taken ++ piece) ≡ Some f = stop_at-Fault (shown_fault (taken ++ piece)) f (sym (shows (λ n. cc)) ∙ at) in
    ap (λ (o : Option GrammarFault). if_no_fault o (silently (describing (taken ++ piece) shown))) found
fed_stopped taken piece reads.NoMemory told shown written at shows = refl

pub fed_ill : (taken piece : List ℕ) (stop : ReadStop) (told : Option ReadStop) (shown : List Reading) (written : Option (List ℕ))
    (Holds : BusWorld → Type 0) (result : Result (Unit {0}) BusFault)
    → told ≡ Some stop → (told ≢ Some reads.NoMemory → told ≡ shown_stop (taken ++ piece)) → IsErrAnd result (λ fault. fault ≡ bus_fault_of (fault_of stop))
    → Does (step_feed (taken ++ piece) shown) true Holds written written result
fed_ill taken piece stop told shown written Holds (Ok _) at shows is = absurd is
fed_ill taken piece stop told shown written Holds (Err fault) at shows is =
    subst (λ (f : BusFault). Prevents f true (step_feed (taken ++ piece) shown) written written) (sym is)
    (fed_stopped taken piece stop told shown written at shows)
