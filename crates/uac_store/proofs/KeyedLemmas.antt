-- A control with a new value.
use Rattle.std.proofs.Common.{◌≡◌, ◌==◌, ◌&&◌, ℤ, List, Some, is_some, if◌then◌else◌, Bool, true, false, refl, ap, sym, subst, ◌∙◌, IsSome}
use Rattle.std.specs.Cmp.{IsEquivalence}
use Rattle.std.proofs.lemmas.Bool.{and_parts, eqb-true, eq-eqb}
use Rattle.std.proofs.lemmas.Cmp.{nat_eq_equiv}
use Rattle.std.proofs.lemmas.Map.{lookup-set_value}
use Rattle.uac_entities.specs.declared.entity.Entity.{Entity}
use Rattle.uac_store.specs.declared.keys.Key.{Key}
use Rattle.uac_store.specs.Keyed.{same_key, value_of, with_value}
use Rattle.uac_store.specs.StoreControls.{takes, IsStoreOf}

-- the parts of one key are those of the other
pub one_key : (k l : Key) → same_key k l ≡ true → k ≡ l
one_key k l h =
    let a = and_parts (k.entity == l.entity) _ h in
    let b = and_parts (k.selector == l.selector) _ a.1 in
    let i = eqb-true k.entity l.entity a.0 in
    let j = eqb-true k.selector l.selector b.0 in
    let m = eqb-true k.channel l.channel b.1 in
    λ p. record { entity = i p; selector = j p; channel = m p }

pub key_itself : (k : Key) → same_key k k ≡ true
key_itself k =
    (λ j. eq-eqb k.entity k.entity refl j && (eq-eqb k.selector k.selector refl j && eq-eqb k.channel k.channel refl j))

pub key_laws : IsEquivalence same_key
key_laws = record {
  refl = key_itself;
  symm = λ k l j. nat_eq_equiv.symm k.entity l.entity j && (nat_eq_equiv.symm k.selector l.selector j && nat_eq_equiv.symm k.channel l.channel j);
  congr = λ k l m h. ap (λ n. same_key n m) (one_key k l h);
}

-- that value alone changes
pub changed_alone : (controls : List (Key × ℤ)) (k : Key) (v : ℤ) → IsSome (value_of controls k) → (l : Key)
    → value_of (with_value controls k v) l ≡ (if same_key k l then Some v else value_of controls l)
unfolding value_of with_value
changed_alone controls k v there l = lookup-set_value key_laws (same_key k) (λ x y h. ap (λ n. same_key n y) (one_key k x h)) l v controls there

-- a control that takes the value is still one of the entities' controls
pub kept_by_set : (all : List Entity) (controls : List (Key × ℤ)) (k : Key) (v : ℤ) → IsSome (value_of controls k)
    → IsStoreOf all controls → takes all k v ≡ true → IsStoreOf all (with_value controls k v)
kept_by_set all controls k v there h taken = record {
  keys = λ l. ap is_some (changed_alone controls k v there l) ∙ still (same_key k l) l refl ∙ h.keys l;
  values = λ l w is. given (same_key k l) l w refl (sym (changed_alone controls k v there l) ∙ is);
} where
  still : (b : Bool) (l : Key) → same_key k l ≡ b → is_some (if b then Some v else value_of controls l) ≡ is_some (value_of controls l)
  still true l same = sym (ap (λ m. is_some (value_of controls m)) (sym (one_key k l same)) ∙ there)
  still false l other = refl

  given : (b : Bool) (l : Key) (w : ℤ) → same_key k l ≡ b → (if b then Some v else value_of controls l) ≡ Some w → takes all l w ≡ true
  given true l w same is =
      let i : v ≡ w = cc in
      subst (λ m. takes all m w ≡ true) (one_key k l same) (subst (λ x. takes all k x ≡ true) i taken)
  given false l w other is = h.values l w is
