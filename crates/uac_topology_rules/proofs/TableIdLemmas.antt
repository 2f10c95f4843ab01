-- One more entity in the table of ids.
use Rattle.std.proofs.Common.{◌≡◌, ℕ, ◌+◌, ◌<◌, ◌≤◌, ◌==◌, Bool, true, false, cond, List, [], ◌∷◌, ◌++◌, Option, Some, None, length, get_or, take, ◌⊎◌, inl, inr, refl, sym, ap, ◌∙◌, arith, subst, zero, suc, ltb}
use Rattle.std.specs.Prelude.{nat_eq}
use Rattle.std.specs.Option.{is_some, option_map}
use Rattle.std.specs.HashMap.{get, HashMap}
use Rattle.std.specs.List.{list_any, position_or_len}
use Rattle.std.proofs.lemmas.Bool.{cases_eq, cases_lt, cases_Bool, eq-eqb, ne_eqb, lt-ltb, le-ltb}
use Rattle.std.proofs.lemmas.List.{take_more, length-take-le, get_or_read}
use Rattle.uac_entities.specs.declared.entity.Entity.{Entity}
use Rattle.uac_topology_rules.specs.Table.{first_index_of, index_of, at, nothing, kind_of}
use Rattle.uac_topology_rules.specs.Indices.{IsTable}
use Rattle.uac_topology_rules.proofs.ListFindLemmas.{position_is, position_none, position-push_found, position-push_new, position-push_none}

cases_option : (o : Option ℕ) → (o ≡ None) ⊎ ((k : ℕ) × (o ≡ Some k))
cases_option None = inl refl
cases_option (Some k) = inr (k, refl)

-- an id that is there already stays where it is
pub table_same : {S : Type 0} (es : List Entity) (k : ℕ) (e : Entity) (indices : HashMap ℕ ℕ S) → k < length es → e ≡ get_or es k e →
    true ≡ is_some (get nat_eq indices e.id) → IsTable (take k es) indices → IsTable (take (k + 1) es) indices
unfolding first_index_of
table_same es k e indices below is some h id =
    let p : Entity → Bool = λ x. x.id == id in
    let grown : take (k + 1) es ≡ take k es ++ e ∷ [] = take_more es k e below ∙ ap (λ (x : Entity). take k es ++ x ∷ []) (sym is) in
    subst (λ (xs : List Entity). get nat_eq indices id ≡ first_index_of xs id) (sym grown)
    (elim (cases_option (first_index_of (take k es) id)) [
      | inl none ↦
          elim (cases_eq e.id id) [
            | inl same ↦
                absurd (true_none (get nat_eq indices e.id) some (h e.id ∙ subst (λ (i : ℕ). first_index_of (take k es) i ≡ None) (sym same) none))
            | inr other ↦ h id ∙ none ∙ sym (position-push_none p (take k es) e none (ne_eqb e.id id other))
          ]
      | inr there ↦ h id ∙ there.1 ∙ sym (position-push_found p (take k es) e there.0 there.1)
    ])
  where
    true_none : (o : Option ℕ) → true ≡ is_some o → o ≡ None → ⊥
    true_none None t n = cc
    true_none (Some k) t n = cc

-- a new id has the index of its entity
pub table_more : {S : Type 0} (es : List Entity) (k : ℕ) (e : Entity) (indices indices' : HashMap ℕ ℕ S) → k < length es → e ≡ get_or es k e →
    false ≡ is_some (get nat_eq indices e.id) → ((q : ℕ) → get nat_eq indices' q ≡ cond (nat_eq e.id q) (Some k) (get nat_eq indices q)) →
    IsTable (take k es) indices → IsTable (take (k + 1) es) indices'
unfolding first_index_of
table_more es k e indices indices' below is none new h id =
    let p : Entity → Bool = λ x. x.id == id in
    let grown : take (k + 1) es ≡ take k es ++ e ∷ [] = take_more es k e below ∙ ap (λ (x : Entity). take k es ++ x ∷ []) (sym is) in
    let short : length (take k es) ≡ k = length-take-le k es (omega arith) in
    subst (λ (xs : List Entity). get nat_eq indices' id ≡ first_index_of xs id) (sym grown)
    (elim (cases_eq e.id id) [
      | inl same ↦
          (let gone : first_index_of (take k es) id ≡ None = sym (h id) ∙ ap (get nat_eq indices) (sym same) ∙ false_none (get nat_eq indices e.id) none in
          new id ∙ rw (eq-eqb e.id id same) (ap (λ (i : ℕ). Some i) (sym short)) ∙ sym (position-push_new p (take k es) e gone (eq-eqb e.id id same)))
      | inr other ↦
          (let old : get nat_eq indices' id ≡ first_index_of (take k es) id = new id ∙ rw (ne_eqb e.id id other) (h id) in
          elim (cases_option (first_index_of (take k es) id)) [
            | inl gone ↦ old ∙ gone ∙ sym (position-push_none p (take k es) e gone (ne_eqb e.id id other))
            | inr there ↦ old ∙ there.1 ∙ sym (position-push_found p (take k es) e there.0 there.1)
          ])
    ])
  where
    false_none : (o : Option ℕ) → false ≡ is_some o → o ≡ None
    false_none None t = refl
    false_none (Some k) t = absurd (cc)

-- where an id is found, and where it isn't
pub found_is : (es : List Entity) (id k : ℕ) → Some k ≡ first_index_of es id → (k < length es) × (index_of es id ≡ k)
unfolding first_index_of index_of
found_is es id k e = position_is (λ (x : Entity). x.id == id) es k (sym e)

pub found_none : (es : List Entity) (id : ℕ) → None ≡ first_index_of es id → index_of es id ≡ length es
unfolding first_index_of index_of
found_none es id e = position_none (λ (x : Entity). x.id == id) es (sym e)

pub at_read : (es : List Entity) (k : ℕ) (e : Entity) → k < length es → e ≡ get_or es k e → e ≡ at es k
unfolding at
at_read es k e below is = get_or_read es k e below is nothing

pub kind_read : (es : List Entity) (id k : ℕ) (e : Entity) → Some k ≡ first_index_of es id → e ≡ get_or es k e → Some e.kind ≡ kind_of es id
unfolding kind_of
kind_read es id k e f is =
    ap (λ (x : Entity). Some x.kind) (at_read es k e (found_is es id k f).0 is) ∙ ap (option_map (λ (p : ℕ). (at es p).kind)) f

pub kind_none : (es : List Entity) (id : ℕ) → None ≡ first_index_of es id → None ≡ kind_of es id
unfolding kind_of
kind_none es id f = ap (option_map (λ (p : ℕ). (at es p).kind)) f

any_first : {X : Type 0} (p : X → Bool) (xs : List X) (k : ℕ) → k ≤ length xs → ltb (position_or_len p xs) k ≡ list_any p (take k xs)
any_first p [] zero h = refl
any_first p [] (suc k) h = absurd (omega arith)
any_first p (x ∷ xs) zero h = le-ltb (position_or_len p (x ∷ xs)) 0 (omega arith)
any_first p (x ∷ xs) (suc k) h =
    elim (cases_Bool (p x)) [
      | inl t ↦ rw t (lt-ltb 0 (suc k) (omega arith))
      | inr f ↦ rw f (shifted (position_or_len p xs) k ∙ any_first p xs k (omega arith))
    ]
  where
    shifted : (n k : ℕ) → ltb (1 + n) (suc k) ≡ ltb n k
    shifted n k =
        elim (cases_lt n k) [
          | inl below ↦ lt-ltb (1 + n) (suc k) (omega arith) ∙ sym (lt-ltb n k below)
          | inr past ↦ le-ltb (1 + n) (suc k) (omega arith) ∙ sym (le-ltb n k past)
        ]

-- the first index of an id is before that of an entity before it that has the id
pub any_before : (es : List Entity) (id k : ℕ) → k ≤ length es → ltb (index_of es id) k ≡ list_any (λ e. e.id == id) (take k es)
unfolding index_of
any_before es id k h = any_first (λ (e : Entity). e.id == id) es k h
