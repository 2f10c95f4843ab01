-- The lines of a descriptor: what they feed is bytes, so each entity's id is a byte, and the device that the bytes describe starts in its
-- bands.
use Rattle.std.proofs.Common.{◌≡◌, sym, refl, subst, ℕ, zero, suc, ◌⊎◌, ◌<◌, true, List, [], ◌∷◌, ◌++◌, map, Option, None, Some, Result, Ok, Err, inl, inr}
use Rattle.std.specs.List.{All}
use Rattle.std.specs.Result.{result_ok}
use Rattle.std.proofs.lemmas.List.Elements.{All-cons, All-map, All-nil}
use Rattle.hex.specs.Hex.{decode_of}
use Rattle.hex.proofs.HexLemmas.{decode_of-ok}
use Rattle.uac_descriptor.specs.BlockParsing.{AreBytes}
use Rattle.uac_descriptor.specs.Spelling.{spelling}
use Rattle.uac_descriptor.specs.WellFormed.{AreWellFormed}
use Rattle.uac_descriptor.specs.declared.block.Block as block
use Rattle.uac_descriptor.specs.declared.block.Block.TheVariants as row
use Rattle.uac_grammar_rules.specs.Grammar.{first_fault}
use Rattle.uac_grammar_rules.specs.Sentence.{spellings}
use Rattle.uac_grammar_rules.specs.declared.faults.GrammarFault.{GrammarFault}
use Rattle.uac_grammar_rules.proofs.SentenceLemmas.{bytes_right, none_sentence, spelt_bytes}
use Rattle.uac_grammar_rules.proofs.SentenceWellFormedLemmas.{sentence_is_well_formed}
use Rattle.uac_entities.specs.Entities.{entities_of, entity_of}
use Rattle.uac_entities.specs.declared.entity.Entity.{Entity}
use Rattle.uac_topology_rules.specs.Clusters.{with_own_clusters}
use Rattle.uac_topology_rules.specs.declared.fault.TopologyFault.{TopologyFault}
use Rattle.uac_topology.specs.Function.{FunctionFields}
use Rattle.uac_topology.specs.Topology.{IsSoundFunction, first_fault_of}
use Rattle.uac_topology.proofs.ClustersLemmas.{seen_alike}
use Rattle.uac_grammar.specs.Stop.{shown_fault}
use Rattle.uac_script.specs.Phrase.{Phrase, nothing_line, bytes_line, go_line, control_line, get_line, set_line, show_line, break_line, append_line, track_line, jack_line, deviate_line, microframes_line, detail_line, report_line}
use Rattle.uac_script.specs.Line.{IsRow, Says}
use Rattle.uac_script.specs.LineParsing.{answer}
use Rattle.uac_lines.specs.Words.{Word, hex_of, is_idle, words_of}
use Rattle.uac_script.proofs.LineParsingLemmas.{answer_says}
use Rattle.uac_units.specs.Hearing.{Reading}
use Rattle.uac_running.specs.RunningWorld.{at_start}
use Rattle.uac_running.specs.RunningLines.{ready_line}
use Rattle.uac_topology.specs.Description.{blocks_of, function_of}
use Rattle.uac_fault.specs.declared.fault.BusFault.{BusFault}
use Rattle.uac_rows.specs.BusWorld.{Step, describing, done, step_feed, step_go, if_no_fault, if_sound, refused, running, silently, step_describing}
use Rattle.uac_topology.proofs.DescriptionLemmas.{blocks_of_sentence}
use Rattle.uac_levels.proofs.BeginningsLemmas.{runs_start_in_band}
use Rattle.uac_levels.proofs.BandTransfersStartLemmas.{runs_start_sound}
use Rattle.uac_promises.proofs.ScriptsLineLemmas.{KeepsGood, none_quiet, one_more}

-- ---- what lines feed

hex_bytes : (word : Word) (bytes : List ℕ) → hex_of word ≡ Some bytes → AreBytes bytes
hex_bytes [] bytes is = absurd (cc)
hex_bytes (digit ∷ digits) bytes is = by (decode_of (digit ∷ digits)) refl is
  where
    by : (d : Result (List ℕ) _) → decode_of (digit ∷ digits) ≡ d → result_ok d ≡ Some bytes → AreBytes bytes
    by (Ok found) from same = subst AreBytes (let e : found ≡ bytes = cc in e) (decode_of-ok (digit ∷ digits) found from).3
    by (Err e) from same = absurd (cc)

pub feeds_bytes : (text bytes : List ℕ) → answer text ≡ Ok (bytes_line bytes) → AreBytes bytes
feeds_bytes text bytes is = by (subst (Says text) is (answer_says text)).0
  where
    by : ((is_idle text ≡ true) × (bytes_line bytes ≡ nothing_line)) ⊎ IsRow (words_of text) (bytes_line bytes) → AreBytes bytes
    by (inl (still, same)) = absurd (cc)
    by (inr (digits, words, read)) = hex_bytes digits bytes read

pub appended_bytes : (xs ys : List ℕ) → AreBytes xs → AreBytes ys → AreBytes (xs ++ ys)
appended_bytes [] ys front back i = back i
appended_bytes (x ∷ xs) ys front back zero = front zero
appended_bytes (x ∷ xs) ys front back (suc i) = appended_bytes xs ys (λ k. front (suc k)) back i

-- ---- the ids of entities

abbrev HasSmallId : Entity → Type 0
HasSmallId e = e.id < 256

small_first : (e : Entity) (es : List Entity) → HasSmallId e → All HasSmallId es → All HasSmallId (e ∷ es)
small_first e es here rest = All-cons HasSmallId e es here rest

-- the fourth byte of an entity's block is its id
small_entities : (blocks : List block.Block) → AreBytes (spellings blocks) → All HasSmallId (entities_of blocks)
unfolding spelling entity_of
small_entities [] are = All-nil HasSmallId
small_entities (row.ClockSource c ∷ blocks) are =
    small_first _ _ (are 3) (small_entities blocks (bytes_right (spelling (row.ClockSource c)) (spellings blocks) are))
small_entities (row.ClockSelector c ∷ blocks) are =
    small_first _ _ (are 3) (small_entities blocks (bytes_right (spelling (row.ClockSelector c)) (spellings blocks) are))
small_entities (row.ClockMultiplier c ∷ blocks) are =
    small_first _ _ (are 3) (small_entities blocks (bytes_right (spelling (row.ClockMultiplier c)) (spellings blocks) are))
small_entities (row.InputTerminal t ∷ blocks) are =
    small_first _ _ (are 3) (small_entities blocks (bytes_right (spelling (row.InputTerminal t)) (spellings blocks) are))
small_entities (row.OutputTerminal t ∷ blocks) are =
    small_first _ _ (are 3) (small_entities blocks (bytes_right (spelling (row.OutputTerminal t)) (spellings blocks) are))
small_entities (row.Mixer m ∷ blocks) are =
    small_first _ _ (are 3) (small_entities blocks (bytes_right (spelling (row.Mixer m)) (spellings blocks) are))
small_entities (row.Selector s ∷ blocks) are =
    small_first _ _ (are 3) (small_entities blocks (bytes_right (spelling (row.Selector s)) (spellings blocks) are))
small_entities (row.Feature f ∷ blocks) are =
    small_first _ _ (are 3) (small_entities blocks (bytes_right (spelling (row.Feature f)) (spellings blocks) are))
small_entities (row.Effect e ∷ blocks) are =
    small_first _ _ (are 3) (small_entities blocks (bytes_right (spelling (row.Effect e)) (spellings blocks) are))
small_entities (b ∷ blocks) are = small_entities blocks (bytes_right (spelling b) (spellings blocks) are)

abbrev AreSmall : List ℕ → Type 0
AreSmall ids = All (λ n. n < 256) ids

small_ids : (blocks : List block.Block) → AreBytes (spellings blocks) → AreSmall (map (λ e. e.id) (with_own_clusters (entities_of blocks)))
small_ids blocks are =
    subst AreSmall (sym (seen_alike (entities_of blocks) 0 (λ e. e.id) (λ e c. refl)))
    (All-map (λ n. n < 256) (λ e. e.id) (entities_of blocks) (small_entities blocks are))

-- the function that bytes without a fault describe
pub record IsDescribed (function : FunctionFields) : Type 0 where
  pub sound : IsSoundFunction function
  pub ids : AreSmall (map (λ e. e.id) function.entities)

pub described : (bytes : List ℕ) → AreBytes bytes → first_fault bytes ≡ None → first_fault_of (blocks_of bytes) ≡ None
    → IsDescribed (function_of (blocks_of bytes))
unfolding function_of
described bytes are whole sound =
    let sentence = none_sentence bytes are whole in
    let blocks : List block.Block = sentence.0 in
    let same : blocks_of bytes ≡ blocks = blocks_of_sentence bytes blocks sentence.1 in
    let read : List block.Block = blocks_of bytes in
    record {
      sound = (
        read,
        sound,
        record { entities = refl; domains = refl; streams = refl; control_interface = refl; total = refl },
        subst AreWellFormed (sym same) (sentence_is_well_formed bytes blocks sentence.1),
      );
      ids = subst (λ (bs : List block.Block). AreSmall (map (λ e. e.id) (with_own_clusters (entities_of bs)))) (sym same)
          (small_ids blocks (spelt_bytes bytes blocks sentence.1));
    }

-- ---- lines

-- what holds of the steps of a descriptor's lines: of bytes that stay bytes, of a device that starts, and of a refusal
module _ (P : Phrase → Step → Type 0) (fails : (phrase : Phrase) (fault : BusFault) → P phrase (refused fault))
    (bytes : List ℕ) (meters : List Reading) (rests : AreBytes bytes → P nothing_line (silently (describing bytes meters)))
    (grows : (more now : List ℕ) → AreBytes now → P (bytes_line more) (silently (describing now meters)))
    (starts : (function : FunctionFields) → IsDescribed function
    → P go_line (done (running (at_start bytes function meters)) (ready_line function ∷ []))) where
  fed_is : (more now : List ℕ) → AreBytes now → P (bytes_line more) (step_feed now meters)
  unfolding step_feed
  fed_is more now are = by (shown_fault now)
    where
      by : (o : Option GrammarFault) → P (bytes_line more) (if_no_fault o (silently (describing now meters)))
      by None = grows more now are
      by (Some fault) = fails (bytes_line more) _

  gone_is : AreBytes bytes → P go_line (step_go bytes meters)
  unfolding step_go
  gone_is are = by (first_fault bytes) refl (first_fault_of (blocks_of bytes)) refl
    where
      function : FunctionFields
      function = function_of (blocks_of bytes)

      by : (f : Option GrammarFault) → first_fault bytes ≡ f → (b : Option TopologyFault) → first_fault_of (blocks_of bytes) ≡ b
          → P go_line (if_no_fault f (if_sound b (done (running (at_start bytes function meters)) (ready_line function ∷ []))))
      by None whole None sound = starts function (described bytes are whole sound)
      by None whole (Some fault) broken = fails go_line _
      by (Some fault) at b is = fails go_line _

  pub describing_is : (phrase : Phrase) → AreBytes bytes → ((more : List ℕ) → phrase ≡ bytes_line more → AreBytes more)
      → P phrase (step_describing bytes meters phrase)
  describing_is nothing_line are feed = rests are
  describing_is (bytes_line more) are feed = fed_is more (bytes ++ more) (appended_bytes bytes more are (feed more refl))
  describing_is go_line are feed = gone_is are
  describing_is (control_line setup sent) are feed = fails (control_line setup sent) _
  describing_is (get_line name) are feed = fails (get_line name) _
  describing_is (set_line name value) are feed = fails (set_line name value) _
  describing_is (show_line name) are feed = fails (show_line name) _
  describing_is (break_line later) are feed = fails (break_line later) _
  describing_is (append_line number samples) are feed = fails (append_line number samples) _
  describing_is (track_line number tone) are feed = fails (track_line number tone) _
  describing_is (jack_line terminal tone) are feed = fails (jack_line terminal tone) _
  describing_is (deviate_line clock ppm) are feed = fails (deviate_line clock ppm) _
  describing_is (microframes_line count marks) are feed = fails (microframes_line count marks) _
  describing_is (detail_line level) are feed = fails (detail_line level) _
  describing_is report_line are feed = fails report_line _

pub describing_keeps : (bytes : List ℕ) (meters : List Reading) (phrase : Phrase) → AreBytes bytes
    → ((more : List ℕ) → phrase ≡ bytes_line more → AreBytes more) → KeepsGood (step_describing bytes meters phrase)
describing_keeps bytes meters =
    describing_is (λ phrase s. KeepsGood s) (λ phrase fault. tt) bytes meters (λ are h. record { good = are; quiet = none_quiet })
    (λ more now are h. record { good = are; quiet = none_quiet }) (λ function is h. record {
      good = (runs_start_in_band bytes function meters is.sound, runs_start_sound bytes function meters is.sound);
      quiet = one_more (ready_line function) [] (record { no_under = λ k same. cc; near = λ k level target same. absurd (cc) }) none_quiet;
    })
