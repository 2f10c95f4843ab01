-- The interfaces of a function have different numbers, which are bytes, and their few settings are numbered from 0.
use Rattle.std.proofs.Common.{◌≡◌, ◌≢◌, ◌∙◌, sym, ap, subst, refl, arith, ℕ, ◌+◌, ◌<◌, ◌≤◌, ◌==◌, ◌||◌, ◌⊎◌, not, Bool, true, false, cond, if◌then◌else◌, nat_eq, List, [], ◌∷◌, Some, None, length, get_or, map, slice_get, inl, inr, IsTrue, eqb-true, ne_eqb}
use Rattle.std.specs.Prelude.{unwrap_or}
use Rattle.std.specs.List.{All, AllByRecursion, IsDistinct, filter_map, cons_option, range_with_len}
use Rattle.std.proofs.lemmas.Bool.{eqb-false, true≢false}
use Rattle.std.proofs.lemmas.Map.Keys.{IsDistinct-cons}
use Rattle.uac_topology_rules.proofs.CountLemmas.{IsDistinct-from_times}
use Rattle.uac_descriptor.specs.Classes.{is_control_interface, is_streaming_interface}
use Rattle.uac_descriptor.specs.BlockTurns.{is_of_function, Begins, Continues, InTurn, interfaces_in, BeginsWithControl}
use Rattle.uac_descriptor.specs.declared.context.Context.TheVariants as context
use Rattle.uac_descriptor.specs.declared.standard.Interface.{Interface}
use Rattle.uac_descriptor.specs.declared.block.Block as block
use Rattle.uac_descriptor.specs.declared.block.Block.TheVariants as row
use Rattle.uac_entities.specs.Entities.{entities_of}
use Rattle.uac_entities.specs.EntitySettings.{declared_setting_of, declared_setting_at, declared_settings}
use Rattle.uac_entities.specs.EntityInterfaces.{setting_on_interface, settings_of, streaming_interface_of, streaming_interface_at, streaming_interfaces_of}
use Rattle.uac_entities.specs.declared.settings.DeclaredSetting.{DeclaredSetting}
use Rattle.uac_entities.specs.declared.entity.Entity.{Entity}
use Rattle.uac_entities.specs.declared.stream.Setting.{Setting}
use Rattle.uac_entities.specs.declared.stream.StreamInterface.{StreamInterface}
use Rattle.uac_topology.specs.Function.{FunctionFields}
use Rattle.uac_topology.specs.FunctionKept.{AreNumbered}
use Rattle.uac_topology.specs.Topology.{IsSoundFunction, control_number, first_given}
use Rattle.uac_topology.proofs.FunctionKeptByteLemmas.{few_settings, small_control, small_streams}
use Rattle.uac_topology.proofs.FunctionKeptRangeLemmas.{each_has_its_settings, no_both}
use Rattle.uac_topology.proofs.TopologyRuleLemmas.{streams_within}

-- ---- an interface of the function among earlier ones has the number

abbrev Used : ℕ → List Interface → Type 0
Used n [] = ⊥
Used n (j ∷ earlier) = IsTrue (is_of_function j) × (j.number ≡ n) ⊎ Used n earlier

unused : (n : ℕ) (earlier : List Interface) → AllByRecursion (λ j. IsTrue (is_of_function j) → j.number ≢ n) earlier → Used n earlier → ⊥
unused n [] each u = u
unused n (j ∷ earlier) (here, rest) (inl (of, same)) = here of same
unused n (j ∷ earlier) (here, rest) (inr u) = unused n earlier rest u

-- a streaming interface and the control interface are of the function
streams_too : (i : Interface) → is_streaming_interface i ≡ true → IsTrue (is_of_function i)
streams_too i s = by (is_control_interface i) (is_streaming_interface i) s
  where
    by : (c t : Bool) → t ≡ true → (c || t) ≡ true
    by true t e = refl
    by false t e = e

controls_too : (i : Interface) → is_control_interface i ≡ true → IsTrue (is_of_function i)
controls_too i c = ap (λ (b : Bool). b || is_streaming_interface i) c

-- ---- the settings of a number are numbered from k on

abbrev Numbered : ℕ → List Setting → Type 0
Numbered k [] = Unit {0}
Numbered k (t ∷ ts) = (t.number ≡ k) × Numbered (k + 1) ts

in_a_row : (k : ℕ) (ts : List Setting) → Numbered k ts → map (λ t. t.number) ts ≡ range_with_len k (length ts)
in_a_row k [] h = refl
in_a_row k (t ∷ ts) (here, rest) = ap (λ n. n ∷ map (λ (x : Setting). x.number) ts) here ∙ ap (λ ns. k ∷ ns) (in_a_row (k + 1) ts rest)

-- no streaming interface had the number, or the latest interface has it, or an earlier one had it and the latest has not
abbrev Fresh : ℕ → ℕ → List Interface → Type 0
Fresh n k earlier = (k ≡ 0) × AllByRecursion (λ j. IsTrue (is_streaming_interface j) → j.number ≢ n) earlier

abbrev Within : ℕ → ℕ → List Interface → Type 0
Within n k [] = ⊥
Within n k (j ∷ earlier) = IsTrue (is_streaming_interface j) × (j.number ≡ n) × (j.setting + 1 ≡ k)

abbrev OtherLatest : ℕ → List Interface → Type 0
OtherLatest n [] = Unit {0}
OtherLatest n (j ∷ earlier) = IsTrue (is_streaming_interface j) → j.number ≢ n

abbrev At : ℕ → ℕ → List Interface → Type 0
At n k earlier = Fresh n k earlier ⊎ (Within n k earlier ⊎ (Used n earlier × OtherLatest n earlier))

-- after an interface that doesn't stream under this number
moves : (n k : ℕ) (i : Interface) (earlier : List Interface) → (IsTrue (is_streaming_interface i) → i.number ≢ n) → At n k earlier → At n k (i ∷ earlier)
moves n k i earlier other (inl (none, each)) = inl (none, (other, each))
moves n k i [] other (inr (inl within)) = absurd within
moves n k i (j ∷ earlier) other (inr (inl (s, same, next))) = inr (inr (inr (inl (streams_too j s, same)), other))
moves n k i earlier other (inr (inr (used, latest))) = inr (inr (inr used, other))

-- a streaming interface of this number has the next setting
is_next : (n k : ℕ) (i : Interface) (earlier : List Interface) → i.number ≡ n → Begins earlier i ⊎ Continues earlier i → At n k earlier → i.setting ≡ k
is_next n k i earlier same (inl begins) (inl (none, each)) = begins.setting ∙ sym none
is_next n k i [] same (inl begins) (inr (inl within)) = absurd within
is_next n k i (j ∷ earlier) same (inl begins) (inr (inl (s, number, next))) = absurd (begins.new.0 (streams_too j s) (number ∙ sym same))
is_next n k i earlier same (inl begins) (inr (inr (used, latest))) =
    absurd (unused n earlier (subst (λ (m : ℕ). AllByRecursion (λ j. IsTrue (is_of_function j) → j.number ≢ m) earlier) same begins.new) used)
is_next n k i [] same (inr continues) at = absurd continues
is_next n k i (j ∷ earlier) same (inr (s, number, next)) (inl (none, (here, each))) = absurd (here s (sym number ∙ same))
is_next n k i (j ∷ earlier) same (inr (s, number, next)) (inr (inl (s', number', next'))) = next ∙ next'
is_next n k i (j ∷ earlier) same (inr (s, number, next)) (inr (inr (used, latest))) = absurd (latest s (sym number ∙ same))

numbered : (n k : ℕ) (blocks : List block.Block) (earlier : List Interface) → InTurn earlier (interfaces_in blocks) → At n k earlier
    → Numbered k (settings_of (declared_settings blocks) n)
unfolding declared_settings declared_setting_at setting_on_interface
numbered n k [] earlier turn at = tt
numbered n k (row.Interface i ∷ blocks) earlier (here, rest) at =
    by (is_streaming_interface i) refl here (λ m. numbered n m blocks (i ∷ earlier) rest)
  where
    by_number : (t : Bool) → (i.number == n) ≡ t → is_streaming_interface i ≡ true → Begins earlier i ⊎ Continues earlier i
        → ((m : ℕ) → At n m (i ∷ earlier) → Numbered m (settings_of (declared_settings blocks) n))
        → Numbered k (cons_option (if t then Some (declared_setting_of i blocks).setting else None) (settings_of (declared_settings blocks) n))
    by_number true e s turn go =
        let same = eqb-true i.number n e in
        let next = is_next n k i earlier same turn at in
        (next, go (k + 1) (inr (inl (s, same, ap (λ (m : ℕ). m + 1) next))))
    by_number false e s turn go = go k (moves n k i earlier (λ _. eqb-false i.number n e) at)

    by : (t : Bool) → is_streaming_interface i ≡ t → (IsTrue (is_streaming_interface i) → Begins earlier i ⊎ Continues earlier i)
        → ((m : ℕ) → At n m (i ∷ earlier) → Numbered m (settings_of (declared_settings blocks) n))
        → Numbered k (settings_of (cons_option (cond t (Some (declared_setting_of i blocks)) None) (declared_settings blocks)) n)
    by true s turn go = by_number (i.number == n) refl s (turn s) go
    by false s turn go = go k (moves n k i earlier (λ yes. absurd (true≢false (sym yes ∙ s))) at)
numbered n k (b ∷ blocks) earlier turn at = numbered n k blocks earlier turn at

-- ---- the numbers of streaming interfaces

abbrev numbers : List StreamInterface → List ℕ
numbers ss = map (λ s. s.number) ss

-- they differ, and none was used before
record Differ (earlier : List Interface) (ns : List ℕ) : Type 0 where
  pub distinct : IsDistinct nat_eq ns
  pub new : AllByRecursion (λ n. Used n earlier → ⊥) ns

-- what was used by fewer was used by more
newer : (i : Interface) (earlier : List Interface) (ns : List ℕ) → AllByRecursion (λ n. Used n (i ∷ earlier) → ⊥) ns → AllByRecursion (λ n. Used n earlier → ⊥) ns
newer i earlier [] each = tt
newer i earlier (n ∷ ns) (here, rest) = ((λ used. here (inr used)), newer i earlier ns rest)

-- none is the number of an interface of the function that stands before
apart : (i : Interface) (earlier : List Interface) → IsTrue (is_of_function i) → (ns : List ℕ) → AllByRecursion (λ n. Used n (i ∷ earlier) → ⊥) ns
    → AllByRecursion (λ n. nat_eq i.number n ≡ false) ns
apart i earlier of [] each = tt
apart i earlier of (n ∷ ns) (here, rest) = (ne_eqb i.number n (λ same. here (inl (of, same))), apart i earlier of ns rest)

module _ (es : List Entity) (whole : List DeclaredSetting) where
  streams_from : List block.Block → List StreamInterface
  streams_from blocks = filter_map (streaming_interface_at es whole) (declared_settings blocks)

  first_setting : (i : Interface) (earlier : List Interface) → i.setting ≡ 0 → Begins earlier i ⊎ Continues earlier i → Begins earlier i
  first_setting i earlier none (inl begins) = begins
  first_setting i [] none (inr continues) = absurd continues
  first_setting i (j ∷ earlier) none (inr (s, number, next)) = absurd (omega (arith, none, next))

  differ : (blocks : List block.Block) (earlier : List Interface) → InTurn earlier (interfaces_in blocks) → Differ earlier (numbers (streams_from blocks))
  unfolding declared_settings declared_setting_at streaming_interface_at streaming_interface_of streams_from
  differ [] earlier turn = record { distinct = IsDistinct-from_times [] (λ q. omega arith); new = tt }
  differ (row.Interface i ∷ blocks) earlier (here, rest) = by (is_streaming_interface i) refl here (differ blocks (i ∷ earlier) rest)
    where
      later : Differ (i ∷ earlier) (numbers (streams_from blocks)) → Differ earlier (numbers (streams_from blocks))
      later d = record { distinct = d.distinct; new = newer i earlier (numbers (streams_from blocks)) d.new }

      by_setting : (t : Bool) → (i.setting == 0) ≡ t → is_streaming_interface i ≡ true → Begins earlier i ⊎ Continues earlier i
          → Differ (i ∷ earlier) (numbers (streams_from blocks))
          → Differ earlier (numbers (cons_option (if t then Some (streaming_interface_of es whole i.number) else None) (streams_from blocks)))
      by_setting true e s turn d =
          let begins = first_setting i earlier (eqb-true i.setting 0 e) turn in
          record {
            distinct = IsDistinct-cons nat_eq i.number (numbers (streams_from blocks)) (apart i earlier (streams_too i s) (numbers (streams_from blocks)) d.new) d.distinct;
            new = (unused i.number earlier begins.new, newer i earlier (numbers (streams_from blocks)) d.new);
          }
      by_setting false e s turn d = later d

      by : (t : Bool) → is_streaming_interface i ≡ t → (IsTrue (is_streaming_interface i) → Begins earlier i ⊎ Continues earlier i)
          → Differ (i ∷ earlier) (numbers (streams_from blocks))
          → Differ earlier (numbers (filter_map (streaming_interface_at es whole) (cons_option (cond t (Some (declared_setting_of i blocks)) None) (declared_settings blocks))))
      by true s turn d = by_setting (i.setting == 0) refl s (turn s) d
      by false s turn d = later d
  differ (b ∷ blocks) earlier turn = differ blocks earlier turn

  -- and the control interface has another one
  control_differs : (blocks : List block.Block) (earlier : List Interface) → BeginsWithControl (interfaces_in blocks) → InTurn earlier (interfaces_in blocks)
      → AllByRecursion (λ n. nat_eq (first_given control_number blocks) n ≡ false) (numbers (streams_from blocks))
  unfolding declared_settings declared_setting_at control_number streams_from
  control_differs [] earlier begins turn = absurd begins
  control_differs (row.Interface i ∷ blocks) earlier begins (here, rest) =
      by (is_control_interface i) refl (is_streaming_interface i) refl begins (control_differs blocks (i ∷ earlier))
    where
      by : (c : Bool) → is_control_interface i ≡ c → (t : Bool) → is_streaming_interface i ≡ t
          → IsTrue (is_control_interface i) ⊎ IsTrue (not (is_streaming_interface i)) × BeginsWithControl (interfaces_in blocks)
          → (BeginsWithControl (interfaces_in blocks) → InTurn (i ∷ earlier) (interfaces_in blocks)
          → AllByRecursion (λ n. nat_eq (first_given control_number blocks) n ≡ false) (numbers (streams_from blocks)))
          → AllByRecursion (λ n. nat_eq (unwrap_or (slice_get (cons_option (cond c (Some i.number) None) (filter_map control_number blocks)) 0) 0) n ≡ false)
          (numbers (filter_map (streaming_interface_at es whole) (cons_option (cond t (Some (declared_setting_of i blocks)) None) (declared_settings blocks))))
      by c is true s begins go = absurd (wrong begins)
        where
          wrong : IsTrue (is_control_interface i) ⊎ IsTrue (not (is_streaming_interface i)) × BeginsWithControl (interfaces_in blocks) → ⊥
          wrong (inl control) = true≢false (sym control ∙ no_both i s)
          wrong (inr (silent, more)) = (let e : not true ≡ true = ap not (sym s) ∙ silent in cc)
      by true is false s begins go = apart i earlier (controls_too i is) (numbers (streams_from blocks)) (differ blocks (i ∷ earlier) rest).new
      by false is false s (inl control) go = absurd (true≢false (sym control ∙ is))
      by false is false s (inr (silent, more)) go = go more rest
  control_differs (b ∷ blocks) earlier begins turn = control_differs blocks earlier begins turn

-- ---- a function

pub are_numbered : (function : FunctionFields) → IsSoundFunction function → AreNumbered function
unfolding streams_from
are_numbered function sound =
    let blocks = sound.0 in
    let es = entities_of blocks in
    let all = declared_settings blocks in
    let ss : function.streams ≡ streaming_interfaces_of es all = sound.2.streams in
    record {
      different =
          subst (λ (xs : List StreamInterface). IsDistinct nat_eq (function.control_interface ∷ numbers xs)) (sym ss)
          (subst (λ (n : ℕ). IsDistinct nat_eq (n ∷ numbers (streaming_interfaces_of es all))) (sym sound.2.control_interface)
          (IsDistinct-cons nat_eq _ _ (control_differs es all blocks [] sound.3.control sound.3.in_turn) (differ es all blocks [] sound.3.in_turn).distinct));
      control = subst (λ (n : ℕ). n < 256) (sym sound.2.control_interface) (small_control context.DeviceFront blocks sound.3.fields);
      bytes = subst (All (λ s. s.number < 256)) (sym ss) (small_streams es all context.DeviceFront blocks sound.3.fields);
      few = subst (All (λ s. length s.settings ≤ 16)) (sym ss) (few_settings (streaming_interfaces_of es all) (streams_within blocks sound.1));
      settings =
          subst (All (λ s. map (λ t. t.number) s.settings ≡ range_with_len 0 (length s.settings))) (sym ss)
          (λ k d below.
          let s = get_or (streaming_interfaces_of es all) k d in
          subst (λ (ts : List Setting). map (λ t. t.number) ts ≡ range_with_len 0 (length ts)) (sym (each_has_its_settings es all k d below))
          (in_a_row 0 (settings_of all s.number) (numbered s.number 0 blocks [] sound.3.in_turn (inl (refl, tt)))));
    }
