-- Interrupt data messages: the six bytes by which a device tells its host that a control changed (Audio Class 2.0, 6.1).
use Rattle.std.specs.Prelude.{ℕ, ◌%◌, ◌==◌, ◌&&◌, ◌||◌, not, Bool, List, [], ◌∷◌, get_or, Option, None, Some, is_some}
use Rattle.std.specs.List.{find}
use Rattle.uac_store.specs.declared.keys.Key.{Key}
use Rattle.uac_store.specs.Keyed.{key_of, same_key}
use Rattle.uac_mixer.specs.declared.element.Element.{Element}

-- the message of a control's current value: bInfo 0, bAttribute CUR, then wValue and wIndex as the host's request for it has them, so
-- that the channel, the selector, the control interface and the entity follow one another
abbrev pub message_of : ℕ → Key → List ℕ
message_of control k = 0 ∷ 1 ∷ k.channel ∷ k.selector ∷ control ∷ k.entity ∷ []

-- that of the first key
abbrev pub first_message : ℕ → List Key → Option (List ℕ)
first_message control [] = None
first_message control (k ∷ later) = Some (message_of control k)

-- the key that a message names
abbrev pub key_told : List ℕ → Key
key_told message = key_of (get_or message 5 0) (get_or message 3 0) (get_or message 2 0)

-- the element with a key
abbrev pub element_keyed : List Element → Key → Option Element
element_keyed elements k = find (λ x. same_key x.key k) elements

-- the message is of an interface, as bits 0 and 1 of bInfo say, which are clear where it isn't vendor-specific and of no endpoint; of the
-- attribute CUR; and of the control interface
abbrev pub is_of_interface : ℕ → List ℕ → Bool
is_of_interface control message = get_or message 0 0 % 4 == 0 && (get_or message 1 0 == 1 && get_or message 4 0 == control)

-- a message that is of no element: it is of something else, or it names a key that no element has
abbrev pub is_foreign : ℕ → List Element → List ℕ → Bool
is_foreign control elements message =
    not (is_of_interface control message) || not (is_some (element_keyed elements (key_told message)))
