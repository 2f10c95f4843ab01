-- The lines of the descriptor of a generated script: each is fed, and after them the descriptor's end is accepted.
use Rattle.std.proofs.Common.{◌≡◌, ◌∙◌, sym, refl, ap, subst, ℕ, zero, suc, ◌+◌, ◌*◌, ◌≤◌, ◌<◌, true, List, [], ◌∷◌, ◌++◌, map, length, take, drop, length-drop, Option, None, Some, arith}
use Rattle.std.specs.Prelude.{nat_lt}
use Rattle.std.specs.List.{list_all, range_with_len}
use Rattle.std.proofs.lemmas.List.{drop-take, length-take, take-append-drop, take-take, take_all}
use Rattle.uac_descriptor.specs.declared.block.Block.{Block}
use Rattle.uac_descriptor.specs.Classes.{is_audio_association, is_control_interface, is_streaming_interface}
use Rattle.uac_descriptor.specs.BlockParsing.{block_of, fields, is_whole, has_length}
use Rattle.uac_descriptor.specs.LayoutRows.{row_of, row_in}
use Rattle.uac_descriptor.specs.Spelling.{spelling}
use Rattle.uac_grammar_rules.specs.Cutting.{chop, chop_within}
use Rattle.uac_grammar_rules.specs.Grammar.{first_fault}
use Rattle.uac_grammar_rules.specs.BlockRole.{interface_context, interface_role, whole_role, is_device, has_unknown_subtype}
use Rattle.uac_grammar_rules.specs.declared.faults.GrammarFault.{GrammarFault}
use Rattle.uac_grammar.specs.Stop.{first_stop, shown_fault, stop_at}
use Rattle.uac_grammar.specs.declared.fault.ReadStop.TheVariants.{Fault}
use Rattle.uac_grammar.proofs.ReaderKeptLemmas.{shown_stop_first, shown_stop_stays}
use Rattle.uac_topology_rules.specs.declared.fault.TopologyFault.{TopologyFault}
use Rattle.uac_topology.specs.Function.{FunctionFields}
use Rattle.uac_topology.specs.Topology.{first_fault_of}
use Rattle.uac_units.specs.Hearing.{Reading}
use Rattle.uac_script.specs.Phrase.{bytes_line, go_line}
use Rattle.uac_running.specs.RunningWorld.{at_start}
use Rattle.uac_running.specs.RunningLines.{ready_line}
use Rattle.uac_topology.specs.Description.{blocks_from, blocks_of, function_of}
use Rattle.uac_rows.specs.BusWorld.{Step, BusWorld, describing, done, step_feed, step_go, if_no_fault, if_sound, running, silently, step}
use Rattle.uac_gen.specs.GeneratedDescriptor.{descriptor_of}
use Rattle.uac_gen.specs.Generator.{feed_count, feed_line}
use Rattle.uac_promises.proofs.GrammarLemmas.{none_faulty}
use Rattle.uac_promises.proofs.BusWorldLineLemmas.{Reaches, nothing, then_line}
use Rattle.uac_promises.proofs.GeneratorLineLemmas.{piece_are}
use Rattle.uac_promises.proofs.DescriptorFunctionLemmas.{blocks_at, none_broken}
use Rattle.uac_promises.proofs.PhraseLemmas.{feed_said}
use Rattle.uac_promises.proofs.ListRangeLemmas.{of_thirty}

-- ---- bytes that begin a descriptor without a fault show none

quiet_of : (shown : Option GrammarFault) → ((fault : GrammarFault) → shown ≡ Some fault → ⊥) → shown ≡ None
quiet_of None never = refl
quiet_of (Some fault) never = absurd (never fault refl)

pub none_shown : (bytes more : List ℕ) → first_fault (bytes ++ more) ≡ None → shown_fault bytes ≡ None
none_shown bytes more whole = quiet_of (shown_fault bytes) (λ fault is.
    let told : first_stop (bytes ++ more) ≡ Some (Fault fault) =
    shown_stop_first (bytes ++ more) (Fault fault) (shown_stop_stays bytes more (Fault fault) (ap stop_at is)) in
    let none : first_stop (bytes ++ more) ≡ None = ap stop_at whole in
    (let both : None ≡ Some (Fault fault) = sym none ∙ told in cc))

-- ---- the bytes that were fed

taken_on : (n : ℕ) (bytes : List ℕ) → take n bytes ++ take 64 (drop n bytes) ≡ take (n + 64) bytes
taken_on n bytes =
    ap (λ (front : List ℕ). front ++ take 64 (drop n bytes)) (sym (take-take n (n + 64) bytes (omega arith)))
    ∙ ap (λ (back : List ℕ). take n (take (n + 64) bytes) ++ back) (sym (drop-take n 64 bytes))
    ∙ take-append-drop n (take (n + 64) bytes)

module _ (bytes : List ℕ) (shown : List Reading) (whole : first_fault bytes ≡ None) (are : list_all (λ b. nat_lt b 256) bytes ≡ true) where
  abbrev pub before : ℕ → BusWorld
  before index = describing (take (64 * index) bytes) shown

  fed_is : (index : ℕ) → step (bytes_line (take 64 (drop (64 * index) bytes))) (before index) ≡ done (before (index + 1)) []
  unfolding step step_feed
  fed_is index =
      let next : List ℕ = take (64 * index) bytes ++ take 64 (drop (64 * index) bytes) in
      let more : next ≡ take (64 * (index + 1)) bytes =
      taken_on (64 * index) bytes ∙ ap (λ (n : ℕ). take n bytes) (let same : 64 * index + 64 ≡ 64 * (index + 1) = omega arith in same) in
      let none : shown_fault (take (64 * (index + 1)) bytes) ≡ None =
      none_shown (take (64 * (index + 1)) bytes) (drop (64 * (index + 1)) bytes)
      (ap first_fault (take-append-drop (64 * (index + 1)) bytes) ∙ whole) in
      ap (λ (bs : List ℕ). if_no_fault (shown_fault bs) (silently (describing bs shown))) more
      ∙ ap (λ (o : Option GrammarFault). if_no_fault o (silently (before (index + 1)))) none

  pub are_fed : (count index : ℕ) (P : BusWorld → Type 0) → index + count ≤ feed_count bytes → P (before (index + count))
      → Reaches (map (feed_line bytes) (range_with_len index count)) (before index) P
  are_fed zero index P within is = nothing (before index) P (subst (λ (n : ℕ). P (before n)) (let same : index + 0 ≡ index = omega arith in same) is)
  are_fed (suc count) index P within is =
      let piece : List ℕ = take 64 (drop (64 * index) bytes) in
      let some : 0 < length piece = omega (arith, length-take 64 (drop (64 * index) bytes), length-drop (64 * index) bytes) in
      then_line (feed_line bytes index) (map (feed_line bytes) (range_with_len (index + 1) count)) (bytes_line piece) (before index) (before (index + 1)) [] P
      (feed_said piece (piece_are bytes index are) some) (fed_is index)
      (are_fed count (index + 1) P (omega arith) (subst (λ (n : ℕ). P (before n)) (let same : index + suc count ≡ index + 1 + count = omega arith in same) is))

  -- all of them
  pub all_fed : (P : BusWorld → Type 0) → P (describing bytes shown)
      → Reaches (map (feed_line bytes) (range_with_len 0 (feed_count bytes))) (describing [] shown) P
  all_fed P is =
      are_fed (feed_count bytes) 0 P (omega arith)
      (subst (λ (bs : List ℕ). P (describing bs shown)) (sym (take_all (64 * (0 + feed_count bytes)) bytes (omega arith))) is)

-- ---- the descriptor's end

-- the bytes are the blocks
read_back : (d : ℕ) → d < 30 → blocks_of (descriptor_of (1 + d)) ≡ blocks_at d
unfolding blocks_of blocks_from chop chop_within is_audio_association is_control_interface is_streaming_interface interface_context interface_role whole_role is_device has_unknown_subtype block_of fields is_whole has_length row_of row_in descriptor_of spelling
read_back d below = of_thirty (λ d. blocks_of (descriptor_of (1 + d))) blocks_at refl d below

-- the function of a script with so many units and one more
abbrev pub function_at : ℕ → FunctionFields
function_at d = function_of (blocks_at d)

pub gone_is : (d : ℕ) (shown : List Reading) → d < 30
    → step go_line (describing (descriptor_of (1 + d)) shown)
    ≡ done (running (at_start (descriptor_of (1 + d)) (function_at d) shown)) (ready_line (function_at d) ∷ [])
unfolding step step_go
gone_is d shown below =
    let bytes : List ℕ = descriptor_of (1 + d) in
    let begun : FunctionFields → Step = λ function. done (running (at_start bytes function shown)) (ready_line function ∷ []) in
    ap (λ (blocks : List Block). if_no_fault (first_fault bytes) (if_sound (first_fault_of blocks) (begun (function_of blocks)))) (read_back d below)
    ∙ ap (λ (o : Option GrammarFault). if_no_fault o (if_sound (first_fault_of (blocks_at d)) (begun (function_at d)))) (none_faulty d below)
    ∙ ap (λ (o : Option TopologyFault). if_sound o (begun (function_at d))) (none_broken d below)
