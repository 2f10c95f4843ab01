-- Rates that stay, and settings that stay valid.
use Rattle.std.proofs.Common.{◌≡◌, ◌∙◌, sym, ap, subst, refl, ℕ, zero, suc, ◌==◌, ◌||◌, true, false, List, [], ◌∷◌, length, slice_get, Option, Some, None, IsSome, is_some, ℤ, inl, inr, if◌then◌else◌, eqb-true, arith}
use Rattle.std.specs.List.{find}
use Rattle.std.specs.Map.{lookup}
use Rattle.std.specs.Option.{option_and_then, option_map_or}
use Rattle.std.specs.Ordering.{int_eq}
use Rattle.std.proofs.lemmas.Bool.{cases_Bool, cases_eq}
use Rattle.uac_entities.specs.EntityInterfaces.{entity_by_id}
use Rattle.uac_entities.specs.declared.entity.Entity.{Entity}
use Rattle.uac_entities.specs.declared.entity.EntityKind.{EntityKind}
use Rattle.uac_entities.specs.declared.entity.EntityKind.TheVariants as kind
use Rattle.uac_entities.specs.declared.stream.StreamInterface.{StreamInterface}
use Rattle.uac_topology_rules.specs.Links.{is_clock}
use Rattle.uac_topology.specs.Function.{FunctionFields}
use Rattle.uac_store.specs.declared.keys.Key.{Key}
use Rattle.uac_store.specs.Keyed.{key_of, same_key, value_of, with_value}
use Rattle.uac_store.specs.Rates.{source_on_pin, rate_times, of_frequency, rate_by, rate_of, rate_step, rate_within, source_rate, chosen_source, multiplier_rate, value_at}
use Rattle.uac_store.proofs.KeyedLemmas.{changed_alone, key_laws}
use Rattle.uac_alt.specs.AltStreams.{stream_of}
use Rattle.uac_request.specs.Requests.{is_valid}

-- an entity that was found has the id
pub id_of_named : (entities : List Entity) (id : ℕ) (e : Entity) → entity_by_id entities id ≡ Some e → e.id ≡ id
unfolding entity_by_id
id_of_named [] id e found = cc
id_of_named (x ∷ entities) id e found = elim (cases_Bool (x.id == id)) [
  | inl same ↦ (let here : Some x ≡ Some e = rw same at found in let is : x ≡ e = cc in ap (λ (y : Entity). y.id) (sym is) ∙ eqb-true x.id id same)
  | inr other ↦ (let rest : find (λ y. y.id == id) entities ≡ Some e = rw other at found in id_of_named entities id e rest)
]

-- ---- rates

-- the clocks of these entities have the same values
pub record SameClocks (entities : List Entity) (before after : List (Key × ℤ)) : Type 0 where
  pub at : (id : ℕ) (e : Entity) → entity_by_id entities id ≡ Some e → is_clock e.kind ≡ true → (selector : ℕ) → value_at after e.id selector ≡ value_at before e.id selector

module _ (entities : List Entity) (before after : List (Key × ℤ)) (same : SameClocks entities before after) where
  by_kind : (id : ℕ) (e : Entity) → entity_by_id entities id ≡ Some e → (below below' : ℕ → Option ℕ) → ((n : ℕ) → below' n ≡ below n) → (k : EntityKind) → e.kind ≡ k → rate_by after below' e k ≡ rate_by before below e k
  unfolding source_rate chosen_source multiplier_rate
  by_kind id e is below below' under kind.ClockSource of = ap (option_and_then of_frequency) (same.at id e is (ap is_clock of) 1)
  by_kind id e is below below' under kind.ClockSelector of =
      λ j. option_and_then (λ n. under n j) (option_and_then (source_on_pin e.sources) (same.at id e is (ap is_clock of) 1 j))
  by_kind id e is below below' under kind.ClockMultiplier of =
      λ j. option_and_then (λ rate. option_and_then (λ n. option_and_then (rate_times rate n) (same.at id e is (ap is_clock of) 2 j)) (same.at id e is (ap is_clock of) 1 j))
      (option_and_then (λ n. under n j) (slice_get e.sources 0))
  by_kind id e is below below' under kind.InputTerminal of = refl
  by_kind id e is below below' under kind.OutputTerminal of = refl
  by_kind id e is below below' under kind.Mixer of = refl
  by_kind id e is below below' under kind.Selector of = refl
  by_kind id e is below below' under kind.Feature of = refl
  by_kind id e is below below' under kind.Effect of = refl

  rate_stays : (n id : ℕ) → rate_within n entities after id ≡ rate_within n entities before id
  unfolding rate_within rate_step
  rate_stays zero id = refl
  rate_stays (suc n) id = from (entity_by_id entities id) refl (rate_stays n) where
    from : (o : Option Entity) → entity_by_id entities id ≡ o → ((m : ℕ) → rate_within n entities after m ≡ rate_within n entities before m)
        → option_and_then (λ e. rate_by after (rate_within n entities after) e e.kind) o ≡ option_and_then (λ e. rate_by before (rate_within n entities before) e e.kind) o
    from None is under = refl
    from (Some e) is under = by_kind id e is (rate_within n entities before) (rate_within n entities after) under e.kind refl

  pub same_rate : (id : ℕ) → rate_of entities after id ≡ rate_of entities before id
  unfolding rate_of
  same_rate id = rate_stays (length entities) id

-- ---- a control that is set

-- a value that is the one held changes none
pub unchanged : (controls : List (Key × ℤ)) (k : Key) (v : ℤ) → value_of controls k ≡ Some v → (l : Key) → value_of (with_value controls k v) l ≡ value_of controls l
unfolding value_of
unchanged controls k v is l = changed_alone controls k v (subst IsSome (sym is) refl) l ∙ (elim (cases_Bool (same_key k l)) [
  | inl same ↦ rw same (sym is ∙ ap (λ f. lookup f controls) (λ j m. key_laws.congr k l m same j))
  | inr other ↦ rw other refl
])

pub held_alike : (held : Option ℤ) (v : ℤ) → option_map_or (int_eq v) held false ≡ true → held ≡ Some v
held_alike None v same = cc
held_alike (Some w) v same = grind (arith, same)

pub same_by_value : (entities : List Entity) (controls : List (Key × ℤ)) (k : Key) (v : ℤ) → value_of controls k ≡ Some v → SameClocks entities controls (with_value controls k v)
same_by_value entities controls k v is = record { at = λ id e found clock selector. unchanged controls k v is (key_of e.id selector 0) }

-- another entity's control than a clock's
pub same_by_kind : (entities : List Entity) (controls : List (Key × ℤ)) (k : Key) (v : ℤ) (e : Entity) → IsSome (value_of controls k) → entity_by_id entities k.entity ≡ Some e → is_clock e.kind ≡ false → SameClocks entities controls (with_value controls k v)
same_by_kind entities controls k v e there is other = record {
  at = λ id c found clock selector. changed_alone controls k v there (key_of c.id selector 0) ∙ apart id c found clock selector;
} where
  apart : (id : ℕ) (c : Entity) → entity_by_id entities id ≡ Some c → is_clock c.kind ≡ true → (selector : ℕ) → (if same_key k (key_of c.id selector 0) then Some v else value_of controls (key_of c.id selector 0)) ≡ value_of controls (key_of c.id selector 0)
  apart id c found clock selector = elim (cases_eq k.entity c.id) [
    | inl same ↦ (
        let of_id : c.id ≡ id = id_of_named entities id c found in
        let of_key : entity_by_id entities k.entity ≡ Some c = ap (entity_by_id entities) (same ∙ of_id) ∙ found in
        let one : Some e ≡ Some c = sym is ∙ of_key in
        let is_one : e ≡ c = cc in
        let no : false ≡ true = sym other ∙ (ap (λ (x : Entity). is_clock x.kind) is_one ∙ clock) in
        cc)
    | inr not_it ↦ (let no : (k.entity == c.id) ≡ false = grind arith in rw no refl)
  ]

-- settings are as valid at the same rates
pub valid_alike : (function : FunctionFields) (before after : List (Key × ℤ)) → ((id : ℕ) → rate_of function.entities after id ≡ rate_of function.entities before id) → (s : StreamInterface) (number : ℕ) → is_valid function after s number ≡ is_valid function before s number
unfolding is_valid
valid_alike function before after same s number =
    λ j. number == 0 || option_map_or (λ rate. is_some (stream_of function rate s.number number)) (option_and_then (λ e. same e.clock j) (entity_by_id function.entities s.terminal)) false
