-- Values by keys (Audio Class 2.0, 5.2.2: an entity id, a control selector and a channel number address a control).
use Rattle.std.specs.Prelude.{ℕ, Bool, ◌==◌, ◌&&◌, ℤ, List, Option}
use Rattle.std.specs.Map.{lookup, set_value}
use Rattle.uac_store.specs.declared.keys.Key.{Key}

abbrev pub key_of : ℕ → ℕ → ℕ → Key
key_of entity selector channel = record { entity = entity; selector = selector; channel = channel }

-- the keys address one control
abbrev pub same_key : Key → Key → Bool
same_key k l = k.entity == l.entity && (k.selector == l.selector && k.channel == l.channel)

-- the value of a control, if there is one
unfoldable pub value_of : List (Key × ℤ) → Key → Option ℤ
value_of controls k = lookup (same_key k) controls

-- the values of controls, with that of one replaced
unfoldable pub with_value : List (Key × ℤ) → Key → ℤ → List (Key × ℤ)
with_value controls k v = set_value (same_key k) controls v
