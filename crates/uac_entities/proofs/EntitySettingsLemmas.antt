-- What stands after an interface block, from an index on.
use Rattle.std.proofs.Common.{◌≡◌, ℕ, ◌+◌, ◌-◌, ◌<◌, ◌≤◌, Bool, true, false, cond, List, [], ◌∷◌, ◌++◌, Option, Some, None, suc, zero, length, get_or, drop, refl, sym, ap, ◌∙◌, arith}
use Rattle.std.specs.Prelude.{slice_get}
use Rattle.std.specs.List.{filter_map, cons_option, find}
use Rattle.std.specs.Option.{option_to_list, is_some}
use Rattle.std.proofs.lemmas.List.{drop_more, drop_all}
use Rattle.uac_descriptor.specs.declared.block.Block as block
use Rattle.uac_descriptor.specs.declared.block.Block.TheVariants as row
use Rattle.uac_descriptor.specs.declared.standard.Interface.{Interface}
use Rattle.uac_entities.specs.EntitySettings.{ends_setting, own_blocks, own, declared_setting_at, declared_settings}

own-stop : {X : Type 0} (r : block.Block → Option X) (b : block.Block) (bs : List block.Block) → ends_setting b ≡ true → own r (b ∷ bs) ≡ []
unfolding own_blocks
own-stop r b bs e = ap (λ (t : Bool). filter_map r (cond t [] (b ∷ own_blocks bs))) e

own-next : {X : Type 0} (r : block.Block → Option X) (b : block.Block) (bs : List block.Block) → ends_setting b ≡ false →
    own r (b ∷ bs) ≡ cons_option (r b) (own r bs)
unfolding own_blocks
own-next r b bs e = ap (λ (t : Bool). filter_map r (cond t [] (b ∷ own_blocks bs))) e

own-nil : {X : Type 0} (r : block.Block → Option X) → own r [] ≡ []
unfolding own_blocks
own-nil r = refl

-- at an interface nothing more is its own
pub own_at_stop : {X : Type 0} (r : block.Block → Option X) (xs : List block.Block) (j : ℕ) (b : block.Block) → j < length xs →
    b ≡ get_or xs j b → true ≡ ends_setting b → own r (drop j xs) ≡ []
own_at_stop r xs j b below is e =
    ap (own r) (drop_more xs j b below) ∙ ap (λ c. own r (c ∷ drop (j + 1) xs)) (sym is) ∙ own-stop r b (drop (j + 1) xs) (sym e)

-- another block gives what its row gives
pub own_at_next : {X : Type 0} (r : block.Block → Option X) (xs : List block.Block) (j : ℕ) (b : block.Block) → j < length xs →
    b ≡ get_or xs j b → false ≡ ends_setting b → own r (drop j xs) ≡ cons_option (r b) (own r (drop (j + 1) xs))
own_at_next r xs j b below is e =
    ap (own r) (drop_more xs j b below) ∙ ap (λ c. own r (c ∷ drop (j + 1) xs)) (sym is) ∙ own-next r b (drop (j + 1) xs) (sym e)

-- after the last block there is nothing
pub own_at_end : {X : Type 0} (r : block.Block → Option X) (xs : List block.Block) (j : ℕ) → length xs ≤ j → own r (drop j xs) ≡ []
own_at_end r xs j past = ap (own r) (drop_all j xs past) ∙ own-nil r

-- the elements that give something, from an index on
pub filter_map_at : {X Y : Type 0} (h : X → Option Y) (xs : List X) (j : ℕ) (x : X) → j < length xs → x ≡ get_or xs j x →
    filter_map h (drop j xs) ≡ cons_option (h x) (filter_map h (drop (j + 1) xs))
filter_map_at h xs j x below is =
    ap (filter_map h) (drop_more xs j x below) ∙ ap (λ y. cons_option (h y) (filter_map h (drop (j + 1) xs))) (sym is)

pub filter_map_end : {X Y : Type 0} (h : X → Option Y) (xs : List X) (j : ℕ) → length xs ≤ j → filter_map h (drop j xs) ≡ []
filter_map_end h xs j past = ap (filter_map h) (drop_all j xs past)

-- the first that passes, from an index on
pub find_at : {X : Type 0} (p : X → Bool) (xs : List X) (j : ℕ) (x : X) → j < length xs → x ≡ get_or xs j x →
    find p (drop j xs) ≡ cond (p x) (Some x) (find p (drop (j + 1) xs))
find_at p xs j x below is =
    ap (find p) (drop_more xs j x below) ∙ ap (λ y. cond (p y) (Some y) (find p (drop (j + 1) xs))) (sym is)

pub find_end : {X : Type 0} (p : X → Bool) (xs : List X) (j : ℕ) → length xs ≤ j → find p (drop j xs) ≡ None
find_end p xs j past = ap (find p) (drop_all j xs past)

cons_is_append : {X : Type 0} (o : Option X) (xs : List X) → cons_option o xs ≡ option_to_list o ++ xs
cons_is_append None xs = refl
cons_is_append (Some x) xs = refl

-- one more block of the settings in turn
pub settings_at : (xs : List block.Block) (j : ℕ) (b : block.Block) → j < length xs → b ≡ get_or xs j b →
    declared_settings (drop j xs) ≡ option_to_list (declared_setting_at b (drop (j + 1) xs)) ++ declared_settings (drop (j + 1) xs)
unfolding declared_settings
settings_at xs j b below is =
    ap declared_settings (drop_more xs j b below)
    ∙ ap (λ c. cons_option (declared_setting_at c (drop (j + 1) xs)) (declared_settings (drop (j + 1) xs))) (sym is)
    ∙ cons_is_append (declared_setting_at b (drop (j + 1) xs)) (declared_settings (drop (j + 1) xs))

pub settings_end : (xs : List block.Block) (j : ℕ) → length xs ≤ j → declared_settings (drop j xs) ≡ []
unfolding declared_settings
settings_end xs j past = ap declared_settings (drop_all j xs past)

-- no block but an interface begins a setting
pub no_setting : (b : block.Block) (following : List block.Block) → ((i : Interface) → b ≡ row.Interface i → ⊥) → declared_setting_at b following ≡ None
unfolding declared_setting_at
no_setting (row.Interface i) following other = absurd (other i refl)
no_setting (row.Configuration _) following other = refl
no_setting (row.Association _) following other = refl
no_setting (row.Endpoint _) following other = refl
no_setting (row.Header _) following other = refl
no_setting (row.InputTerminal _) following other = refl
no_setting (row.OutputTerminal _) following other = refl
no_setting (row.Mixer _) following other = refl
no_setting (row.Selector _) following other = refl
no_setting (row.Feature _) following other = refl
no_setting (row.Effect _) following other = refl
no_setting (row.ClockSource _) following other = refl
no_setting (row.ClockSelector _) following other = refl
no_setting (row.ClockMultiplier _) following other = refl
no_setting (row.General _) following other = refl
no_setting (row.TypeOne _) following other = refl
no_setting (row.Extra _) following other = refl
no_setting (row.ClassEndpoint _) following other = refl
no_setting (row.Foreign _) following other = refl

-- the first of what is given, and a later one
pub get_first : {X : Type 0} (o : Option X) (x : X) (n : ℕ) (rest : List X) → Some x ≡ o → n ≡ 0 → Some x ≡ slice_get (cons_option o rest) n
get_first o x n rest e z = rw (← e, z) refl

pub get_later : {X : Type 0} (o : Option X) (x : X) (n : ℕ) (rest : List X) → Some x ≡ o → (n ≡ 0 → ⊥) →
    slice_get rest (n - 1) ≡ slice_get (cons_option o rest) n
get_later o x zero rest e more = absurd (more refl)
get_later o x (suc n) rest e more =
    ap (slice_get rest) (let p : suc n - 1 ≡ n = omega arith in p) ∙ ap (λ (p : Option _). slice_get (cons_option p rest) (suc n)) e

pub length-some : {X : Type 0} (o : Option X) (rest : List X) → is_some o ≡ true → length (cons_option o rest) ≡ length rest + 1
length-some None rest e = absurd (cc)
length-some (Some x) rest e = omega arith

pub length-none : {X : Type 0} (o : Option X) (rest : List X) → is_some o ≡ false → length (cons_option o rest) ≡ length rest
length-none None rest e = refl
length-none (Some x) rest e = absurd (cc)
