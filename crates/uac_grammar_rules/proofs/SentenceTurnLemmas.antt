-- The flags of used numbers and the latest setting say what the earlier interfaces do.
use Rattle.std.proofs.Common.{◌≡◌, ◌≢◌, ℕ, ◌+◌, ◌<◌, Bool, true, false, ◌&&◌, ◌||◌, ◌⊎◌, not, eqb, List, [], ◌∷◌, length, get_or, set, replicate, filter_map, Option, Some, None, IsTrue, if◌then◌else◌, refl, sym, ap, ◌∙◌, subst, inl, inr, ⊎_elim, arith, eqb-true, eq-eqb, ne_eqb, get_or-set_same, get_or-set_other, length-set}
use Rattle.std.specs.Prelude.{IfSome}
use Rattle.std.specs.List.{AllByRecursion}
use Rattle.std.proofs.lemmas.Bool.{cases_Bool, cases_eq, true≢false, false≢true, cond-true, cond-false, and_left, and_right, and_from, and_parts, or_from, or_parts, or_left, or_right, or_cases, not-true, not_from_true, not_from_false}
use Rattle.std.proofs.lemmas.List.{get_or-replicate, length-replicate}
use Rattle.uac_descriptor.specs.declared.standard.Interface as interface
use Rattle.uac_descriptor.specs.declared.block.Block as block
use Rattle.uac_descriptor.specs.declared.block.Block.TheVariants as variant
use Rattle.uac_grammar_rules.specs.declared.states.Latest.{Latest}
use Rattle.uac_descriptor.specs.Classes.{is_streaming_interface}
use Rattle.uac_grammar_rules.specs.Grammar.{used_after, latest_after, continues, is_in_turn}
use Rattle.uac_grammar_rules.specs.Sentence.{is_of_function, Begins, Continues, InTurn, IsSoOf, interface_of}
use Rattle.uac_grammar_rules.proofs.GrammarLemmas.{TurnRun}

-- the number of each interface is a byte
abbrev pub HasSmallNumbers : List block.Block → Type 0
HasSmallNumbers [] = Unit {0}
HasSmallNumbers (b ∷ blocks) = IsSoOf (interface_of b) (λ i. (i.number < 256) × HasSmallNumbers blocks) (HasSmallNumbers blocks)

-- so it is of one block
pub small_alone : (b : block.Block) → IfSome (interface_of b) (λ i. i.number < 256) → HasSmallNumbers (b ∷ [])
small_alone (variant.Interface i) small = (small, tt)
small_alone _ small = tt

-- an interface of the function among these has the number
abbrev uses : ℕ → List interface.Interface → Bool
uses n [] = false
uses n (j ∷ earlier) = is_of_function j && eqb j.number n || uses n earlier

-- the flags are those of the earlier interfaces' numbers
pub record IsUsed (used : List Bool) (earlier : List interface.Interface) : Type 0 where
  pub many : length used ≡ 256
  pub flags : (n : ℕ) → n < 256 → get_or used n false ≡ uses n earlier

unfoldable pub latest_of : List interface.Interface → Option Latest
latest_of [] = None
latest_of (j ∷ earlier) = if is_streaming_interface j then Some (record { number = j.number; setting = j.setting }) else None

-- no earlier interface has the number, as a fact and as a test
new_number : (n : ℕ) (earlier : List interface.Interface) → uses n earlier ≡ false
    → AllByRecursion (λ j. IsTrue (is_of_function j) → j.number ≢ n) earlier
new_number n [] h = tt
new_number n (j ∷ earlier) h =
    let (here, there) = or_parts (is_of_function j && eqb j.number n) (uses n earlier) h in
    (λ of same. true≢false (sym (and_from (is_of_function j) (eqb j.number n) of (eq-eqb j.number n same)) ∙ here), new_number n earlier there)

number_new : (n : ℕ) (earlier : List interface.Interface) → AllByRecursion (λ j. IsTrue (is_of_function j) → j.number ≢ n) earlier
    → uses n earlier ≡ false
number_new n [] h = refl
number_new n (j ∷ earlier) (here, there) =
    or_from (is_of_function j && eqb j.number n) (uses n earlier)
    (elim (cases_Bool (is_of_function j)) [
      | inl of ↦ and_right (is_of_function j) (eqb j.number n) (ne_eqb j.number n (here of))
      | inr other ↦ and_left (is_of_function j) (eqb j.number n) other
    ])
    (number_new n earlier there)

-- the flags after one more interface
pub flags_after : (used : List Bool) (i : interface.Interface) (earlier : List interface.Interface) → i.number < 256 → IsUsed used earlier
    → IsUsed (used_after used (variant.Interface i)) (i ∷ earlier)
flags_after used i earlier small is =
    elim (cases_Bool (is_of_function i)) [
      | inl of ↦ (
          let e : used_after used (variant.Interface i) ≡ set used i.number true = cond-true (is_of_function i) (set used i.number true) used of in
          record {
            many = ap length e ∙ length-set used i.number true ∙ is.many;
            flags = λ n below. ap (λ u. get_or u n false) e ∙ set_flag n below of;
          })
      | inr other ↦ (
          let e : used_after used (variant.Interface i) ≡ used = cond-false (is_of_function i) (set used i.number true) used other in
          record {
            many = ap length e ∙ is.many;
            flags = λ n below. ap (λ u. get_or u n false) e ∙ is.flags n below ∙ ap (λ t. t || uses n earlier) (sym (and_left (is_of_function i) (eqb i.number n) other));
          })
    ]
  where
    set_flag : (n : ℕ) → n < 256 → is_of_function i ≡ true → get_or (set used i.number true) n false ≡ uses n (i ∷ earlier)
    set_flag n below of =
        elim (cases_eq n i.number) [
          | inl same ↦
              ap (λ k. get_or (set used i.number true) k false) same
              ∙ get_or-set_same used i.number true false (subst (λ k. i.number < k) (sym is.many) small)
              ∙ sym (or_left (is_of_function i && eqb i.number n) (uses n earlier) (and_from (is_of_function i) (eqb i.number n) of (eq-eqb i.number n (sym same))))
          | inr different ↦
              get_or-set_other used i.number n true false different
              ∙ is.flags n below
              ∙ ap (λ t. t || uses n earlier) (sym (and_right (is_of_function i) (eqb i.number n) (ne_eqb i.number n (λ e. different (sym e)))))
        ]

-- the latest setting, as a test and as a fact
continues_latest : (earlier : List interface.Interface) (i : interface.Interface) → continues (latest_of earlier) i ≡ true → Continues earlier i
unfolding latest_of
continues_latest [] i h = false≢true h
continues_latest (j ∷ earlier) i h =
    elim (cases_Bool (is_streaming_interface j)) [
      | inl streaming ↦ (
          let e = subst (λ o. continues o i ≡ true) (cond-true (is_streaming_interface j) (Some (record { number = j.number; setting = j.setting })) None streaming) h in
          let (number, setting) = and_parts (eqb i.number j.number) (eqb i.setting (j.setting + 1)) e in
          (streaming, eqb-true i.number j.number number, eqb-true i.setting (j.setting + 1) setting))
      | inr other ↦ absurd (false≢true
          (subst (λ o. continues o i ≡ true) (cond-false (is_streaming_interface j) (Some (record { number = j.number; setting = j.setting })) None other) h))
    ]

latest_continues : (earlier : List interface.Interface) (i : interface.Interface) → Continues earlier i → continues (latest_of earlier) i ≡ true
unfolding latest_of
latest_continues [] i h = absurd h
latest_continues (j ∷ earlier) i (streaming, number, setting) =
    ap (λ o. continues o i) (cond-true (is_streaming_interface j) (Some (record { number = j.number; setting = j.setting })) None streaming)
    ∙ and_from (eqb i.number j.number) (eqb i.setting (j.setting + 1)) (eq-eqb i.number j.number number) (eq-eqb i.setting (j.setting + 1) setting)

-- one interface in turn, as a test and as a fact
pub turn_of : (used : List Bool) (earlier : List interface.Interface) (i : interface.Interface) → i.number < 256 → IsUsed used earlier
    → is_in_turn used (latest_of earlier) (variant.Interface i) ≡ true → IsTrue (is_streaming_interface i) → Begins earlier i ⊎ Continues earlier i
unfolding is_in_turn
turn_of used earlier i small is h streaming =
    let first : Bool = not (get_or used i.number false) in
    let next : Bool = continues (latest_of earlier) i in
    let turn : (if eqb i.setting 0 then first else next) ≡ true =
    ⊎_elim
    (λ out. absurd (true≢false (sym out ∙ not_from_true (is_streaming_interface i) streaming)))
    (λ right. right)
    (or_cases (not (is_streaming_interface i)) (if eqb i.setting 0 then first else next) h) in
    elim (cases_Bool (eqb i.setting 0)) [
      | inl zero_setting ↦ inl (record {
        setting = eqb-true i.setting 0 zero_setting;
        new = new_number i.number earlier
            (sym (is.flags i.number small) ∙ not-true (get_or used i.number false) (sym (cond-true (eqb i.setting 0) first next zero_setting) ∙ turn));
      })
      | inr later ↦ inr (continues_latest earlier i (sym (cond-false (eqb i.setting 0) first next later) ∙ turn))
    ]

pub of_turn : (used : List Bool) (earlier : List interface.Interface) (i : interface.Interface) → i.number < 256 → IsUsed used earlier
    → (IsTrue (is_streaming_interface i) → Begins earlier i ⊎ Continues earlier i) → is_in_turn used (latest_of earlier) (variant.Interface i) ≡ true
unfolding is_in_turn
of_turn used earlier i small is h =
    let first : Bool = not (get_or used i.number false) in
    let next : Bool = continues (latest_of earlier) i in
    elim (cases_Bool (is_streaming_interface i)) [
      | inr other ↦ or_left (not (is_streaming_interface i)) (if eqb i.setting 0 then first else next) (not_from_false (is_streaming_interface i) other)
      | inl streaming ↦ or_right (not (is_streaming_interface i)) (if eqb i.setting 0 then first else next)
          (elim (h streaming) [
            | inl begins ↦
                cond-true (eqb i.setting 0) first next (eq-eqb i.setting 0 begins.setting)
                ∙ not_from_false (get_or used i.number false) (is.flags i.number small ∙ number_new i.number earlier begins.new)
            | inr continues_it ↦
                cond-false (eqb i.setting 0) first next (ne_eqb i.setting 0 (above_zero earlier i continues_it))
                ∙ latest_continues earlier i continues_it
          ])
    ]
  where
    above_zero : (earlier : List interface.Interface) (i : interface.Interface) → Continues earlier i → i.setting ≢ 0
    above_zero [] i h = absurd h
    above_zero (j ∷ earlier) i (streaming, number, setting) = λ e. omega arith

turns : (used : List Bool) (latest : Option Latest) (earlier : List interface.Interface) (blocks : List block.Block)
    → HasSmallNumbers blocks → IsUsed used earlier → latest ≡ latest_of earlier → TurnRun used latest blocks → InTurn earlier (filter_map interface_of blocks)
unfolding latest_of
turns used latest earlier [] small is e run = tt
turns used latest earlier (variant.Interface i ∷ blocks) (small, rest) is e (turn, run) = (
  turn_of used earlier i small is (subst (λ l. is_in_turn used l (variant.Interface i) ≡ true) e turn),
  turns (used_after used (variant.Interface i)) (latest_after latest (variant.Interface i)) (i ∷ earlier) blocks rest (flags_after used i earlier small is) refl run,
)
turns used latest earlier (_ ∷ blocks) small is e (turn, run) = turns used latest earlier blocks small is e run

turns_back : (used : List Bool) (latest : Option Latest) (earlier : List interface.Interface) (blocks : List block.Block)
    → HasSmallNumbers blocks → IsUsed used earlier → latest ≡ latest_of earlier → InTurn earlier (filter_map interface_of blocks) → TurnRun used latest blocks
unfolding latest_of is_in_turn
turns_back used latest earlier [] small is e h = tt
turns_back used latest earlier (variant.Interface i ∷ blocks) (small, rest) is e (turn, h) = (
  subst (λ l. is_in_turn used l (variant.Interface i) ≡ true) (sym e) (of_turn used earlier i small is turn),
  turns_back (used_after used (variant.Interface i)) (latest_after latest (variant.Interface i)) (i ∷ earlier) blocks rest (flags_after used i earlier small is) refl h,
)
turns_back used latest earlier (_ ∷ blocks) small is e h = (refl, turns_back used latest earlier blocks small is e h)

pub at_start : IsUsed (replicate 256 false) []
at_start = record { many = length-replicate 256 false; flags = λ n below. get_or-replicate 256 n false false below }

pub in_turn : (blocks : List block.Block) → HasSmallNumbers blocks → TurnRun (replicate 256 false) None blocks → InTurn [] (filter_map interface_of blocks)
unfolding latest_of
in_turn blocks small run = turns (replicate 256 false) None [] blocks small at_start refl run

pub turn_in : (blocks : List block.Block) → HasSmallNumbers blocks → InTurn [] (filter_map interface_of blocks) → TurnRun (replicate 256 false) None blocks
unfolding latest_of
turn_in blocks small h = turns_back (replicate 256 false) None [] blocks small at_start refl h

-- ---- a test that goes along the blocks

-- the flags and the latest setting are those of earlier interfaces, and what comes after these is in turn exactly where all is
pub record IsTurning (used : List Bool) (latest : Option Latest) (all rest : List block.Block) : Type 0 where
  pub earlier : List interface.Interface
  pub is_used : IsUsed used earlier
  pub is_latest : latest ≡ latest_of earlier
  pub onward : InTurn earlier (filter_map interface_of rest) → InTurn [] (filter_map interface_of all)
  pub back : InTurn [] (filter_map interface_of all) → InTurn earlier (filter_map interface_of rest)

pub turning_start : (blocks : List block.Block) → IsTurning (replicate 256 false) None blocks blocks
unfolding latest_of
turning_start blocks = record { earlier = []; is_used = at_start; is_latest = refl; onward = λ h. h; back = λ h. h }

pub turning_step : (used : List Bool) (latest : Option Latest) (all : List block.Block) (b : block.Block) (rest : List block.Block)
    → HasSmallNumbers (b ∷ []) → is_in_turn used latest b ≡ true → IsTurning used latest all (b ∷ rest)
    → IsTurning (used_after used b) (latest_after latest b) all rest
unfolding latest_of
turning_step used latest all (variant.Interface i) rest small turn t =
    record {
      earlier = i ∷ t.earlier;
      is_used = flags_after used i t.earlier small.0 t.is_used;
      is_latest = refl;
      onward = λ h. t.onward
          (turn_of used t.earlier i small.0 t.is_used (subst (λ l. is_in_turn used l (variant.Interface i) ≡ true) t.is_latest turn), h);
      back = λ h. (t.back h).1;
    }
turning_step used latest all b rest small turn t =
    record { earlier = t.earlier; is_used = t.is_used; is_latest = t.is_latest; onward = λ h. t.onward h; back = λ h. t.back h }

pub turning_stops : (used : List Bool) (latest : Option Latest) (all : List block.Block) (b : block.Block) (rest : List block.Block)
    → HasSmallNumbers (b ∷ []) → is_in_turn used latest b ≡ false → IsTurning used latest all (b ∷ rest)
    → InTurn [] (filter_map interface_of all) → false ≡ true
unfolding is_in_turn
turning_stops used latest all (variant.Interface i) rest small out t h =
    sym out ∙ subst (λ l. is_in_turn used l (variant.Interface i) ≡ true) (sym t.is_latest)
    (of_turn used t.earlier i small.0 t.is_used (t.back h).0)
turning_stops used latest all b rest small out t h = sym out

pub turning_ends : (used : List Bool) (latest : Option Latest) (all : List block.Block) → IsTurning used latest all [] → InTurn [] (filter_map interface_of all)
turning_ends used latest all t = t.onward tt
