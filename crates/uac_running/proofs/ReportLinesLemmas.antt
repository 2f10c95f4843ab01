-- Lines that are printed of a running device.
use Rattle.std.proofs.Common.{◌≡◌, ℕ, ◌<◌, ◌==◌, ◌&&◌, Bool, true, false, cond, if◌then◌else◌, ℤ, List, [], ◌∷◌, ◌++◌, map, length, get_or, flat_map, unwrap_or, slice_get, Option, None, Some, Result, refl, sym, ap, subst, ◌∙◌, arith, inl, inr, not}
use Rattle.std.specs.Prelude.{filter}
use Rattle.std.specs.List.{All}
use Rattle.std.specs.Option.{option_map}
use Rattle.std.proofs.lemmas.Bool.{and_from, and_parts, cases_lt, cond-false, cond-true, eq-eqb, ne_eqb}
use Rattle.std.specs.List.{position_or_len}
use Rattle.std.proofs.lemmas.List.Elements.{All-filter, All-map, filter_passes}
use Rattle.std.proofs.lemmas.List.Sums.{prefix_len_passes}
use Rattle.std.proofs.lemmas.List.{get_or_default, get_or-map, length-map}
use Rattle.std.proofs.lemmas.Option.{slice_get-map, slice_get-get_or}
use Rattle.uac_entities.specs.declared.entity.Entity.{Entity}
use Rattle.uac_entities.specs.declared.stream.StreamInterface.{StreamInterface}
use Rattle.uac_topology_rules.specs.Rules.{is_output}
use Rattle.uac_topology_rules.specs.Table.{at, nothing}
use Rattle.uac_topology.specs.Function.{FunctionFields}
use Rattle.uac_topology.specs.Topology.{IsSoundFunction}
use Rattle.uac_store.specs.declared.keys.Key.{Key}
use Rattle.uac_store.specs.Rates.{rate_of}
use Rattle.uac_alt.specs.AltSettings.{setting_of}
use Rattle.uac_alt.specs.declared.settings.InterfaceSetting.{InterfaceSetting}
use Rattle.uac_units.specs.Hearing.{Reading}
use Rattle.uac_units.specs.declared.meter.MeterKind.{MeterKind}
use Rattle.uac_graph.specs.Meaning.{entity}
use Rattle.uac_graph.specs.Needs.{is_end}
use Rattle.uac_graph.specs.TickRows.{frames_at}
use Rattle.uac_graph.specs.Wiring.{samples_on}
use Rattle.uac_graph.specs.Fitness.{IsSignalGraph}
use Rattle.uac_graph.proofs.FitnessLemmas.{sound_graph}
use Rattle.uac_edges.specs.Writing.{Writes}
use Rattle.uac_ring.specs.declared.counts.StreamCounts.{StreamCounts}
use Rattle.uac_transcript.specs.Transcript.{Said, says_domain, says_meter, says_played, spelling_of}
use Rattle.uac_streaming.specs.StreamingWorld as streams
use Rattle.uac_topology_rules.proofs.ListFindLemmas.{position-below}
use Rattle.uac_device.specs.DeviceKept.{DeviceFields, DeviceStands}
use Rattle.uac_device.specs.DeviceWorld.{Domain, DeviceWorld, is_jack, is_output_jack, is_output_jack_of, level_of, played_at, target_of}
use Rattle.uac_device.specs.DeviceTurns.{jack_of, jacks_of}
use Rattle.uac_device.specs.declared.hearing.OutputJack.{OutputJack}
use Rattle.uac_running.specs.declared.counts.TickCount.{TickCount}
use Rattle.uac_running.specs.TickCounts.{tick_count_of}
use Rattle.uac_running.specs.ReportLines.{Shows, domain_line, played_line, played_lines, says_stream, stream_line}

-- ---- what output jacks played

-- what is said of an output jack, where it is of the domain
abbrev pub of_jack : ℕ → DeviceWorld → OutputJack → List Said
of_jack domain w j = if j.domain == domain then says_played j.terminal (w.played j.terminal) ∷ [] else []

-- of all output jacks among entities this is said
jacks_said : (domain : ℕ) (w : DeviceWorld) (entities : List Entity)
    → flat_map (of_jack domain w) (jacks_of entities) ≡ map (played_line w) (filter (is_output_jack_of domain) entities)
jacks_said domain w [] = refl
jacks_said domain w (e ∷ es) = first (is_output_jack e) ∙ one (is_output e.kind) (e.clock == domain) (is_jack e) (jacks_said domain w es)
  where
    said : List Said
    said = flat_map (of_jack domain w) (jacks_of es)

    rest : List Entity
    rest = filter (is_output_jack_of domain) es

    first : (b : Bool) → flat_map (of_jack domain w) (map jack_of (cond b (e ∷ filter is_output_jack es) (filter is_output_jack es)))
        ≡ cond b (of_jack domain w (jack_of e) ++ said) said
    first true = refl
    first false = refl

    one : (output own jack : Bool) → said ≡ map (played_line w) rest
        → cond (output && jack) ((if own then says_played e.id (w.played e.id) ∷ [] else []) ++ said) said
        ≡ map (played_line w) (cond ((output && own) && jack) (e ∷ rest) rest)
    one true true true others = ap (λ (lines : List Said). says_played e.id (w.played e.id) ∷ lines) others
    one true false true others = others
    one true true false others = others
    one true false false others = others
    one false own jack others = others

pub jacks_played : (domain : ℕ) (w : DeviceWorld) (jacks : List OutputJack) → jacks ≡ jacks_of w.function.entities
    → flat_map (of_jack domain w) jacks ≡ played_lines domain w
unfolding played_lines
jacks_played domain w jacks same = ap (flat_map (of_jack domain w)) same ∙ jacks_said domain w w.function.entities

-- in a sound function an entity's id leads to it
each_own : (entities : List Entity) → IsSignalGraph entities → All (λ (e : Entity). entity entities e.id ≡ e) entities
unfolding entity at
each_own entities graph k d below =
    let is : get_or entities k d ≡ at entities k = get_or_default entities k d nothing below in
    subst (λ (e : Entity). entity entities e.id ≡ e) (sym is) (ap (at entities) (graph.distinct k below))

-- so the terminal of each of its output jacks is one
pub jacks_are : (function : FunctionFields) → IsSoundFunction function
    → All (λ (j : OutputJack). is_output_jack (entity function.entities j.terminal) ≡ true) (jacks_of function.entities)
jacks_are function sound =
    All-map (λ (j : OutputJack). is_output_jack (entity function.entities j.terminal) ≡ true) jack_of (filter is_output_jack function.entities)
    (λ k d below. ap is_output_jack (own k d below) ∙ filter_passes is_output_jack function.entities k d below)
  where
    own : All (λ (e : Entity). entity function.entities e.id ≡ e) (filter is_output_jack function.entities)
    own = All-filter is_output_jack (λ (e : Entity). entity function.entities e.id ≡ e) function.entities
        (each_own function.entities (sound_graph function sound))

-- and the terminal is of the jack's domain
pub jacks_clocked : (function : FunctionFields) → IsSoundFunction function
    → All (λ (j : OutputJack). (entity function.entities j.terminal).clock ≡ j.domain) (jacks_of function.entities)
jacks_clocked function sound =
    All-map (λ (j : OutputJack). (entity function.entities j.terminal).clock ≡ j.domain) jack_of (filter is_output_jack function.entities)
    (λ k d below. ap (λ (e : Entity). e.clock)
    (All-filter is_output_jack (λ (e : Entity). entity function.entities e.id ≡ e) function.entities (each_own function.entities (sound_graph function sound)) k d below))

-- what a device's output jack played in one of the ticks that it did at once last
pub earlier_played : (tick domain clock : ℕ) (device : DeviceFields) (w : DeviceWorld) (id : ℕ) → Shows tick domain device w
    → is_output_jack (entity device.function.entities id) ≡ true → (entity device.function.entities id).clock ≡ clock → clock ≡ domain
    → samples_on (frames_at tick device.rows) id ≡ w.played id
earlier_played tick domain clock device w id shows jack of_clock here =
    let output : is_output (entity device.function.entities id).kind ≡ true =
    (and_parts (is_output (entity device.function.entities id).kind) (is_jack (entity device.function.entities id)) jack).0 in
    let end : is_end domain (entity device.function.entities id) ≡ true =
    and_from (is_output (entity device.function.entities id).kind) _ output (eq-eqb _ _ (of_clock ∙ here)) in
    ap (λ (frame : Option (List ℤ)). unwrap_or frame [])
    (shows.rows id (subst (λ (f : FunctionFields). is_end domain (entity f.entities id) ≡ true) shows.function end))

-- so that is said of an output jack of the domain, and of one of another nothing
pub jack_said : (tick domain : ℕ) (device : DeviceFields) (w : DeviceWorld) (jacks : List OutputJack) (i : ℕ) (d : OutputJack) → IsSoundFunction device.function
    → jacks ≡ jacks_of device.function.entities → i < length jacks → Shows tick domain device w → (get_or jacks i d).domain ≡ domain
    → says_played (get_or jacks i d).terminal (samples_on (frames_at tick device.rows) (get_or jacks i d).terminal) ∷ [] ≡ of_jack domain w (get_or jacks i d)
jack_said tick domain device w jacks i d sound same below shows here =
    let j : OutputJack = get_or jacks i d in
    let kinds : All (λ (k : OutputJack). is_output_jack (entity device.function.entities k.terminal) ≡ true) jacks =
    subst (All (λ (k : OutputJack). is_output_jack (entity device.function.entities k.terminal) ≡ true)) (sym same) (jacks_are device.function sound) in
    let clocks : All (λ (k : OutputJack). (entity device.function.entities k.terminal).clock ≡ k.domain) jacks =
    subst (All (λ (k : OutputJack). (entity device.function.entities k.terminal).clock ≡ k.domain)) (sym same) (jacks_clocked device.function sound) in
    ap (λ (samples : List ℤ). says_played j.terminal samples ∷ [])
    (earlier_played tick domain j.domain device w j.terminal shows (kinds i d below) (clocks i d below) here)
    ∙ sym (cond-true _ _ _ (eq-eqb _ _ here))

pub none_said : (domain : ℕ) (w : DeviceWorld) (j : OutputJack) → (j.domain ≡ domain → ⊥) → [] ≡ of_jack domain w j
none_said domain w j other = sym (cond-false _ _ _ (ne_eqb _ _ other))

-- a terminal that is one has a frame
played_here : (w : DeviceWorld) (device : DeviceFields) (id : ℕ) → DeviceStands device w → is_output_jack (entity device.function.entities id) ≡ true
    → played_at w id ≡ Some (w.played id)
unfolding played_at
played_here w device id stands output =
    cond-true _ _ _ (subst (λ (f : FunctionFields). is_output_jack (entity f.entities id) ≡ true) stands.function output)

-- the frame of an output jack is the one that is said of it
pub said-played : (w : DeviceWorld) (device : DeviceFields) (id : ℕ) (samples : List ℤ) → DeviceStands device w
    → is_output_jack (entity device.function.entities id) ≡ true → Some samples ≡ played_at w id → samples ≡ w.played id
said-played w device id samples stands output played = let here = played_here w device id stands output in cc

pub none_played : (w : DeviceWorld) (device : DeviceFields) (id : ℕ) → DeviceStands device w → is_output_jack (entity device.function.entities id) ≡ true
    → None ≡ played_at w id → ⊥
none_played w device id stands output played = let here = played_here w device id stands output in cc

-- ---- the report

-- the line of the domain at an index, from its count
pub count_at : (device : DeviceFields) (w : DeviceWorld) (counts : List TickCount) (i : ℕ) (d : Domain) (e c : TickCount) (rate : Option ℕ) → DeviceStands device w
    → counts ≡ map tick_count_of w.domains → i < length w.domains → c ≡ get_or counts i e → rate ≡ rate_of device.function.entities device.controls c.domain
    → says_domain c.domain rate c.ticks ≡ domain_line w (get_or w.domains i d)
unfolding domain_line
count_at device w counts i d e c rate stands same h is is_rate =
    let here : c ≡ tick_count_of (get_or w.domains i d) = is ∙ ap (λ (xs : List TickCount). get_or xs i e) same ∙ get_or-map tick_count_of w.domains i d e h in
    ap (λ (r : Option ℕ). says_domain c.domain r c.ticks)
    (is_rate
    ∙ ap (λ (f : List Entity). rate_of f device.controls c.domain) (ap (λ f. f.entities) stands.function)
    ∙ ap (λ (controls : List (Key × ℤ)). rate_of w.function.entities controls c.domain) stands.controls)
    ∙ ap (λ (t : TickCount). says_domain t.domain (rate_of w.function.entities w.controls t.domain) t.ticks) here

-- as many counts as domains
pub below_domains : (w : DeviceWorld) (counts : List TickCount) (i : ℕ) → counts ≡ map tick_count_of w.domains → i < length counts → i < length w.domains
below_domains w counts i same h = omega (arith, ap length same, length-map w.domains tick_count_of)

-- the line of an interface's streams
pub stream-line : (w : DeviceWorld) (met : ℕ → StreamCounts) (settings : List InterfaceSetting) (s : StreamInterface) (setting level : ℕ) (target : Option ℕ) (counts : StreamCounts)
    → settings ≡ w.settings → setting ≡ unwrap_or (setting_of settings s.number) 0 → level ≡ level_of w s.number → target ≡ target_of w s.number
    → counts ≡ met s.number → says_stream s.out s.number setting level target counts ≡ stream_line w met s
unfolding stream_line
stream-line w met settings s setting level target counts same is_setting is_level is_target is_met =
    ap (λ (n : ℕ). says_stream s.out s.number n level target counts) (is_setting ∙ ap (λ (xs : List InterfaceSetting). unwrap_or (setting_of xs s.number) 0) same)
    ∙ ap (λ (n : ℕ). says_stream s.out s.number (unwrap_or (setting_of w.settings s.number) 0) n target counts) is_level
    ∙ ap (λ (t : Option ℕ). says_stream s.out s.number (unwrap_or (setting_of w.settings s.number) 0) (level_of w s.number) t counts) is_target
    ∙ ap (says_stream s.out s.number (unwrap_or (setting_of w.settings s.number) 0) (level_of w s.number) (target_of w s.number)) is_met

-- the same of a stream to the device, and of one from it
pub stream-writes : {T E : Type 0} (old new : Option (List ℕ)) (r : Result T E) (w : DeviceWorld) (met : ℕ → StreamCounts) (settings : List InterfaceSetting) (s : StreamInterface)
    (out : Bool) (setting level : ℕ) (target : Option ℕ) (counts : StreamCounts)
    → out ≡ s.out → settings ≡ w.settings → setting ≡ unwrap_or (setting_of settings s.number) 0 → level ≡ level_of w s.number → target ≡ target_of w s.number
    → counts ≡ met s.number → Writes old new r (spelling_of (says_stream out s.number setting level target counts)) → Writes old new r (spelling_of (stream_line w met s))
stream-writes old new r w met settings s out setting level target counts is_out same is_setting is_level is_target is_met writes =
    subst (λ (said : Said). Writes old new r (spelling_of said))
    (ap (λ (b : Bool). says_stream b s.number setting level target counts) is_out
    ∙ stream-line w met settings s setting level target counts same is_setting is_level is_target is_met)
    writes

-- the reading at an index, from its kind and its value
pub meter_at : (shown : List Reading) (i : ℕ) (d : Reading) (k : MeterKind) (v : ℕ) → i < length shown
    → slice_get (map (λ r. r.kind) shown) i ≡ Some k → slice_get (map (λ r. r.value) shown) i ≡ Some v → says_meter (record { kind = k; value = v }) ≡ says_meter (get_or shown i d)
meter_at shown i d k v h kind value =
    let there = slice_get-get_or shown i d h in
    let a : Some (get_or shown i d).kind ≡ Some k = sym (slice_get-map (λ (r : Reading). r.kind) shown i ∙ ap (option_map (λ (r : Reading). r.kind)) there) ∙ kind in
    let b : Some (get_or shown i d).value ≡ Some v = sym (slice_get-map (λ (r : Reading). r.value) shown i ∙ ap (option_map (λ (r : Reading). r.value)) there) ∙ value in
    let same_kind : k ≡ (get_or shown i d).kind = cc in
    let same_value : v ≡ (get_or shown i d).value = cc in
    ap (λ (x : MeterKind). says_meter (record { kind = x; value = v })) same_kind
    ∙ ap (λ (n : ℕ). says_meter (record { kind = (get_or shown i d).kind; value = n })) same_value

-- an interface of these is found by its number
pub index_there : (f : FunctionFields) (items : List StreamInterface) (i : ℕ) (s d : StreamInterface) → items ≡ f.streams → i < length items → s ≡ get_or items i d
    → (index : ℕ) × (streams.stream_index f s.number ≡ Some index)
index_there f items i s d same below is =
    let xs = f.streams in
    let p : StreamInterface → Bool = λ x. x.number == s.number in
    let within : i < length xs = subst (λ (ys : List StreamInterface). i < length ys) same below in
    let here : get_or xs i d ≡ s = ap (λ (ys : List StreamInterface). get_or ys i d) (sym same) ∙ sym is in
    let passes : p (get_or xs i d) ≡ true = ap p here ∙ eq-eqb s.number s.number refl in
    elim (cases_lt (position_or_len p xs) (length xs)) [
      | inl found ↦ (position_or_len p xs, position-below p xs found)
      | inr past ↦
          (let before : i < position_or_len p xs = omega arith in
          let fails = prefix_len_passes (λ x. not (p x)) xs i d before in
          absurd (true_not (p (get_or xs i d)) passes fails))
    ]
  where
    true_not : (b : Bool) → b ≡ true → not b ≡ true → ⊥
    true_not true passes fails = cc
    true_not false passes fails = cc
