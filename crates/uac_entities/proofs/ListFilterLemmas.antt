-- Lists that a loop makes of those elements of another that give something.
use Rattle.std.proofs.Common.{◌≡◌, ℕ, ◌+◌, ◌<◌, List, [], ◌∷◌, ◌++◌, Option, Some, None, length, get_or, take, refl, ap, ◌∙◌}
use Rattle.std.specs.List.{filter_map, cons_option}
use Rattle.std.specs.Option.{option_to_list}
use Rattle.std.proofs.lemmas.List.{take_more}
use Rattle.uac_entities.specs.declared.settings.DeclaredSetting.{DeclaredSetting}
use Rattle.std.proofs.lemmas.List.Elements.{filter_map-append}

one_kept : {Y : Type 0} (o : Option Y) → cons_option o [] ≡ option_to_list o
one_kept None = refl
one_kept (Some y) = refl

-- one more element
pub filter_map_more : {X Y : Type 0} (h : X → Option Y) (xs : List X) (i : ℕ) (d : X) → i < length xs →
    filter_map h (take (i + 1) xs) ≡ filter_map h (take i xs) ++ option_to_list (h (get_or xs i d))
filter_map_more h xs i d below =
    ap (filter_map h) (take_more xs i d below)
    ∙ filter_map-append h (take i xs) (get_or xs i d ∷ [])
    ∙ ap (λ rest. filter_map h (take i xs) ++ rest) (one_kept (h (get_or xs i d)))

-- a setting of no fields, which stands for an index past the end
abbrev pub blank : DeclaredSetting
blank =
    record {
      interface = 0;
      endpoint_count = 0;
      endpoints = 0;
      setting = record { number = 0; general = None; format = None; first = None; second = None };
    }
