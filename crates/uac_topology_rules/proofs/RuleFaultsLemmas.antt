-- The first index that a test finds.
use Rattle.std.proofs.Common.{◌≡◌, ℕ, ◌+◌, ◌<◌, ◌≤◌, Bool, true, false, List, Option, Some, None, suc, zero, length, refl, sym, ap, ◌∙◌, arith, subst, inl, inr}
use Rattle.std.proofs.lemmas.Bool.{cases_eq, cases_Bool, cond-true, cond-false}
use Rattle.std.proofs.lemmas.Option.{none-some}
use Rattle.std.specs.List.{find, range_with_len}
use Rattle.std.specs.Option.{option_map}
use Rattle.uac_entities.specs.declared.entity.Entity.{Entity}
use Rattle.uac_entities.specs.declared.stream.StreamInterface.{StreamInterface}
use Rattle.uac_topology_rules.specs.declared.fault.TopologyFault.{TopologyFault}
use Rattle.uac_topology_rules.specs.Table.{at}
use Rattle.uac_topology_rules.specs.Offenders.{first_index, offender, number_at, interface_offender}
use Rattle.uac_topology_rules.specs.RuleFaults.{of_entity, of_interface}

first_from : (test : ℕ → Bool) (a n k : ℕ) → a ≤ k → k < a + n → ((j : ℕ) → a ≤ j → j < k → test j ≡ false) → test k ≡ true →
    find test (range_with_len a n) ≡ Some k
first_from test a zero k low high none here = absurd (omega arith)
first_from test a (suc n) k low high none here =
    elim (cases_eq a k) [
      | inl e ↦ rw (subst (λ (i : ℕ). test i ≡ true) (sym e) here) (ap (λ (i : ℕ). Some i) e)
      | inr n' ↦ rw (none a (omega arith) (omega arith)) (first_from test (a + 1) n k (omega arith) (omega arith) (λ j l h. none j (omega arith) h) here)
    ]

none_from : (test : ℕ → Bool) (a n : ℕ) → ((j : ℕ) → a ≤ j → j < a + n → test j ≡ false) → find test (range_with_len a n) ≡ None
none_from test a zero none = refl
none_from test a (suc n) none =
    rw (none a (omega arith) (omega arith)) (none_from test (a + 1) n (λ j l h. none j (omega arith) (omega arith)))

pub first_index_is : (test : ℕ → Bool) (n k : ℕ) → k < n → ((j : ℕ) → j < k → test j ≡ false) → test k ≡ true → first_index test n ≡ Some k
unfolding first_index
first_index_is test n k below none here = first_from test 0 n k (omega arith) (omega arith) (λ j l h. none j h) here

pub first_index_none : (test : ℕ → Bool) (n : ℕ) → ((j : ℕ) → j < n → test j ≡ false) → first_index test n ≡ None
unfolding first_index
first_index_none test n none = none_from test 0 n (λ j l h. none j (omega arith))

-- a broken rule, with who breaks it
abbrev pub fault_by : ℕ → ℕ → Bool → TopologyFault
fault_by rule id interface = record { rule = rule; id = id; interface = interface }

-- an entity that breaks a rule, and none before it does
pub entity_breaks : (rule : ℕ) (es : List Entity) (breaks : List Entity → ℕ → Bool) (k : ℕ) → k < length es →
    ((j : ℕ) → j < k → breaks es j ≡ false) → breaks es k ≡ true →
    of_entity rule es breaks ≡ Some (record { rule = rule; id = (at es k).id; interface = false })
unfolding of_entity offender
entity_breaks rule es breaks k below none here =
    ap (λ (o : Option ℕ). option_map (λ (id : ℕ). fault_by rule id false) (option_map (λ (p : ℕ). (at es p).id) o)) (first_index_is (breaks es) (length es) k below none here)

pub no_entity_breaks : (rule : ℕ) (es : List Entity) (breaks : List Entity → ℕ → Bool) →
    ((j : ℕ) → j < length es → breaks es j ≡ false) → of_entity rule es breaks ≡ None
unfolding of_entity offender
no_entity_breaks rule es breaks none =
    ap (λ (o : Option ℕ). option_map (λ (id : ℕ). fault_by rule id false) (option_map (λ (p : ℕ). (at es p).id) o)) (first_index_none (breaks es) (length es) none)

-- a streaming interface that breaks a rule, and none before it does
pub interface_breaks : (rule : ℕ) (ss : List StreamInterface) (breaks : List StreamInterface → ℕ → Bool) (k : ℕ) → k < length ss →
    ((j : ℕ) → j < k → breaks ss j ≡ false) → breaks ss k ≡ true →
    of_interface rule ss breaks ≡ Some (record { rule = rule; id = number_at ss k; interface = true })
unfolding of_interface interface_offender
interface_breaks rule ss breaks k below none here =
    ap (λ (o : Option ℕ). option_map (λ (id : ℕ). fault_by rule id true) (option_map (number_at ss) o)) (first_index_is (breaks ss) (length ss) k below none here)

pub no_interface_breaks : (rule : ℕ) (ss : List StreamInterface) (breaks : List StreamInterface → ℕ → Bool) →
    ((j : ℕ) → j < length ss → breaks ss j ≡ false) → of_interface rule ss breaks ≡ None
unfolding of_interface interface_offender
no_interface_breaks rule ss breaks none =
    ap (λ (o : Option ℕ). option_map (λ (id : ℕ). fault_by rule id true) (option_map (number_at ss) o)) (first_index_none (breaks ss) (length ss) none)

-- where no fault is found, no entity breaks the rule
find_none : (test : ℕ → Bool) (a n j : ℕ) → find test (range_with_len a n) ≡ None → a ≤ j → j < a + n → test j ≡ false
find_none test a zero j e low high = absurd (omega arith)
find_none test a (suc n) j e low high =
    elim (cases_Bool (test a)) [
      | inl t ↦ absurd (none-some a (sym e ∙ cond-true (test a) (Some a) (find test (range_with_len (a + 1) n)) t))
      | inr f ↦
          elim (cases_eq a j) [
            | inl s ↦ subst (λ (i : ℕ). test i ≡ false) s f
            | inr n' ↦ find_none test (a + 1) n j (sym (cond-false (test a) (Some a) (find test (range_with_len (a + 1) n)) f) ∙ e) (omega arith) (omega arith)
          ]
    ]

map_none : {X Y : Type 0} (f : X → Y) (o : Option X) → option_map f o ≡ None → o ≡ None
map_none f None e = refl
map_none f (Some x) e = absurd (cc)

pub breaks_none : (rule : ℕ) (es : List Entity) (breaks : List Entity → ℕ → Bool) → of_entity rule es breaks ≡ None →
    (j : ℕ) → j < length es → breaks es j ≡ false
unfolding of_entity offender first_index
breaks_none rule es breaks e j below =
    find_none (breaks es) 0 (length es) j (map_none _ _ (map_none _ _ e)) (omega arith) (omega arith)

-- the same fault by equal parts
pub same_fault : (a b i j : ℕ) (t : Bool) → a ≡ b → i ≡ j →
    Some (fault_by a i t) ≡ Some (fault_by b j t)
same_fault a b i j t e f = ap (λ (r : ℕ). Some (fault_by r i t)) e ∙ ap (λ (n : ℕ). Some (fault_by b n t)) f
