-- A run starts sound.
use Rattle.std.proofs.Common.{arith, ◌≡◌, ◌∙◌, sym, refl, ap, subst, ℕ, zero, suc, ◌<◌, ◌⊎◌, inl, inr, ◌==◌, ◌||◌, not, Bool, true, false, if◌then◌else◌, cond, List, [], ◌∷◌, length, get_or, map, filter, Option, Some, None, is_some}
use Rattle.std.specs.List.{All, cons_option, filter_map, find, list_any, position_or_len}
use Rattle.std.specs.Option.{option_map, option_map_or}
use Rattle.std.proofs.lemmas.Bool.{cases_lt, eqb-true, true≢false}
use Rattle.std.proofs.lemmas.List.{get_or_past}
use Rattle.std.proofs.lemmas.List.Elements.{All-head, All-map, All-nil, All-tail}
use Rattle.uac_entities.specs.Entities.{entities_of}
use Rattle.uac_entities.specs.declared.entity.Entity.{Entity}
use Rattle.uac_entities.specs.declared.entity.EntityKind.{EntityKind}
use Rattle.uac_entities.specs.declared.entity.EntityKind.TheVariants as kind
use Rattle.uac_entities.specs.declared.stream.StreamInterface.{StreamInterface}
use Rattle.uac_topology_rules.specs.Clusters.{cluster_of, with_own_clusters, is_input}
use Rattle.uac_topology_rules.specs.Domains.{clock_named, domains_of, each_once}
use Rattle.uac_topology_rules.specs.Links.{is_terminal}
use Rattle.uac_topology_rules.specs.Table.{at, nothing, index_of, with_cluster}
use Rattle.uac_topology.specs.Function.{FunctionFields, interface_in}
use Rattle.uac_topology.specs.Topology.{IsSoundFunction}
use Rattle.uac_topology.proofs.ClustersLemmas.{with_own_clusters-at, length-with_own_clusters}
use Rattle.uac_topology.proofs.FunctionKeptPinLemmas.{have_pins}
use Rattle.uac_rate.specs.Steadiness.{is_slight}
use Rattle.uac_graph.specs.Meaning.{entity}
use Rattle.uac_store.proofs.StoreControlsLemmas.{initial_is_store}
use Rattle.uac_store.proofs.StoreControlsSoundLemmas.{keyed}
use Rattle.uac_request.proofs.RequestsStartLemmas.{are_settings}
use Rattle.uac_host.specs.HostWorld.{fresh_host}
use Rattle.uac_host.specs.HostCalls.{channels_at}
use Rattle.uac_device.specs.DeviceWorld.{resting_domain, fresh}
use Rattle.uac_device.specs.Linked.{IsBusInput}
use Rattle.uac_device.proofs.LinkedLemmas.{linked}
use Rattle.uac_running.specs.RunningWorld.{at_start}
use Rattle.uac_levels.specs.BandTransfers.{RunsStartSound}
use Rattle.uac_streaming.proofs.AmongLemmas.{Among, among_kept}
use Rattle.uac_levels.proofs.TellingTurnLemmas.{own_number}
use Rattle.uac_levels.proofs.ProjectionLemmas.{resting_clocks}
use Rattle.uac_levels.proofs.BandTransfersRunLemmas.{known_clock}

-- ---- the clocks of terminals are the domains

among_more : (n : ℕ) (o : Option ℕ) (ns : List ℕ) → Among n ns → Among n (cons_option o ns)
unfolding Among
among_more n None ns there = there
among_more n (Some m) ns there = inr there

named_clock : (e : Entity) → is_terminal e.kind ≡ true → clock_named e ≡ Some e.clock
unfolding clock_named
named_clock e is = ap (λ (b : Bool). if b then Some e.clock else None) is

first_named : (n : ℕ) (o : Option ℕ) (ns : List ℕ) → o ≡ Some n → Among n (cons_option o ns)
unfolding Among
first_named n None ns is = absurd (cc)
first_named n (Some m) ns is = inl (let same : m ≡ n = cc in same)

clocks_named : (es : List Entity) (i : ℕ) (d : Entity) → i < length es → is_terminal (get_or es i d).kind ≡ true
    → Among (get_or es i d).clock (filter_map clock_named es)
clocks_named [] i d below is = absurd (omega arith)
clocks_named (e ∷ es) zero d below is = first_named e.clock (clock_named e) (filter_map clock_named es) (named_clock e is)
clocks_named (e ∷ es) (suc i) d below is =
    among_more (get_or es i d).clock (clock_named e) (filter_map clock_named es) (clocks_named es i d (omega arith) is)

once_each : (c : ℕ) (ns : List ℕ) → Among c ns → Among c (each_once ns)
unfolding Among each_once
once_each c [] there = absurd there
once_each c (n ∷ ns) there = elim there [ inl same ↦ inl same | inr later ↦ by (c == n) refl (once_each c ns later) ]
  where
    by : (b : Bool) → (c == n) ≡ b → Among c (each_once ns) → (n ≡ c) ⊎ Among c (filter (λ m. not (m == n)) (each_once ns))
    by true same rest = inl (sym (eqb-true c n same))
    by false other rest = inr (among_kept (λ m. not (m == n)) c (each_once ns) (ap not other) rest)

input_is_terminal : (k : EntityKind) → is_input k ≡ true → is_terminal k ≡ true
input_is_terminal kind.ClockSource is = absurd (true≢false (sym is))
input_is_terminal kind.ClockSelector is = absurd (true≢false (sym is))
input_is_terminal kind.ClockMultiplier is = absurd (true≢false (sym is))
input_is_terminal kind.InputTerminal is = refl
input_is_terminal kind.OutputTerminal is = absurd (true≢false (sym is))
input_is_terminal kind.Mixer is = absurd (true≢false (sym is))
input_is_terminal kind.Selector is = absurd (true≢false (sym is))
input_is_terminal kind.Feature is = absurd (true≢false (sym is))
input_is_terminal kind.Effect is = absurd (true≢false (sym is))

-- entities of a kind of terminals
module _ (is_kind : EntityKind → Bool) (terminal : (k : EntityKind) → is_kind k ≡ true → is_terminal k ≡ true)
    (none : is_kind nothing.kind ≡ false) where
  terminal_clock : (es : List Entity) (id : ℕ) → is_kind (entity (with_own_clusters es) id).kind ≡ true
      → Among (entity (with_own_clusters es) id).clock (domains_of es)
  unfolding entity at index_of domains_of
  terminal_clock es id is = elim (cases_lt (position_or_len (λ (e : Entity). e.id == id) (with_own_clusters es)) (length (with_own_clusters es))) [
    | inl below ↦
        (let i : ℕ = position_or_len (λ (e : Entity). e.id == id) (with_own_clusters es) in
        let size : length (with_own_clusters es) ≡ length es = length-with_own_clusters es in
        let within : i < length es = omega arith in
        let there : get_or (with_own_clusters es) i nothing ≡ with_cluster (at es i) (cluster_of es i) = with_own_clusters-at es i nothing within in
        let here : is_kind (get_or es i nothing).kind ≡ true = sym (ap (λ (e : Entity). is_kind e.kind) there) ∙ is in
        let named = clocks_named es i nothing within (terminal (get_or es i nothing).kind here) in
        subst (λ (c : ℕ). Among c (each_once (filter_map clock_named es))) (sym (ap (λ (e : Entity). e.clock) there))
        (once_each (get_or es i nothing).clock (filter_map clock_named es) named))
    | inr past ↦
        absurd (let missing : get_or (with_own_clusters es) (position_or_len (λ (e : Entity). e.id == id) (with_own_clusters es)) nothing ≡ nothing =
        get_or_past (with_own_clusters es) (position_or_len (λ (e : Entity). e.id == id) (with_own_clusters es)) nothing past in
        true≢false (sym is ∙ ap (λ (e : Entity). is_kind e.kind) missing ∙ none))
  ]

  -- the clock of the terminal of an interface is a domain of its function
  pub clock_known : (function : FunctionFields) → IsSoundFunction function → (s : StreamInterface)
      → is_kind (entity function.entities s.terminal).kind ≡ true → Among (entity function.entities s.terminal).clock function.domains
  clock_known function sound s is =
      let es : List Entity = entities_of sound.0 in
      let there = terminal_clock es s.terminal
      (subst (λ (all : List Entity). is_kind (entity all s.terminal).kind ≡ true) sound.2.entities is) in
      subst (λ (all : List Entity). Among (entity all s.terminal).clock function.domains) (sym sound.2.entities)
      (subst (λ (ds : List ℕ). Among (entity (with_own_clusters es) s.terminal).clock ds) (sym sound.2.domains) there)

-- ---- a domain for each interface to the device

pub any_among : (c : ℕ) (ns : List ℕ) → Among c ns → list_any (λ n. n == c) ns ≡ true
unfolding Among
any_among c [] there = absurd there
any_among c (n ∷ ns) there = elim there [
  | inl same ↦
      ap (λ (b : Bool). b || list_any (λ (m : ℕ). m == c) ns) (subst (λ (m : ℕ). (n == m) ≡ true) same (own_number n))
  | inr later ↦ either (n == c) (any_among c ns later)
]
  where
    either : (b : Bool) → list_any (λ m. m == c) ns ≡ true → (b || list_any (λ m. m == c) ns) ≡ true
    either true rest = refl
    either false rest = rest

pub found_stream : (P : StreamInterface → Type 0) (k : ℕ) (ss : List StreamInterface) (s : StreamInterface) → All P ss
    → find (λ s. s.number == k) ss ≡ Some s → P s
found_stream P k [] s all e = absurd (cc)
found_stream P k (x ∷ xs) s all e = by (x.number == k) e (found_stream P k xs s (All-tail P x xs all))
  where
    by : (b : Bool) → cond b (Some x) (find (λ s. s.number == k) xs) ≡ Some s → (find (λ s. s.number == k) xs ≡ Some s → P s) → P s
    by true found rest = let same : x ≡ s = cc in subst P same (All-head P x xs all)
    by false found rest = rest found

clocked_at_start : (function : FunctionFields) → IsSoundFunction function → (k clock : ℕ) (o : Option StreamInterface)
    → interface_in function k ≡ o → option_map_or (λ s. s.out) o false ≡ true
    → option_map (λ s. (entity function.entities s.terminal).clock) o ≡ Some clock
    → is_some (find (λ d. d.id == clock) (map resting_domain function.domains)) ≡ true
clocked_at_start function sound k clock None there goes on = absurd (true≢false (sym goes))
clocked_at_start function sound k clock (Some s) there goes on =
    let same : (entity function.entities s.terminal).clock ≡ clock = cc in
    let input = found_stream (λ s. s.out ≡ true → IsBusInput (entity function.entities s.terminal)) k function.streams s (linked function sound).inputs there in
    let known = subst (λ (c : ℕ). Among c function.domains) same (clock_known is_input input_is_terminal refl function sound s (input goes).0) in
    known_clock clock (map resting_domain function.domains)
    ∙ ap (list_any (λ (n : ℕ). n == clock)) (resting_clocks function.domains) ∙ any_among clock function.domains known

pub runs_start_sound : RunsStartSound
unfolding at_start fresh fresh_host
runs_start_sound descriptor function meters sound = record {
  sound = sound;
  store = initial_is_store function.entities (keyed function sound).apart (have_pins function sound);
  settings = are_settings function;
  running = λ k o there. absurd (let none : None ≡ Some o = there in cc);
  whole = λ k. All-nil (λ frame. length frame ≡ channels_at function k);
  slight = All-map (λ d. is_slight d.deviation ≡ true) resting_domain function.domains (λ k d below. refl);
  clocked = λ k clock goes on. clocked_at_start function sound k clock (interface_in function k) refl goes on;
}
