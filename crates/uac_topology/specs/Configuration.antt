-- The bytes of the configuration among those of a descriptor (USB 2.0, 9.6.1).
use Rattle.std.specs.Prelude.{ℕ, ◌==◌, ◌&&◌, Bool, if◌then◌else◌, List, drop, get_or}

-- a device descriptor in front of a configuration: 18 bytes of type 1 (USB 2.0, 9.6.1)
abbrev pub begins_with_device : List ℕ → Bool
begins_with_device bytes = get_or bytes 0 0 == 18 && get_or bytes 1 0 == 1

-- the bytes of the configuration, without a device descriptor in front
unfoldable pub configuration_of : List ℕ → List ℕ
configuration_of bytes = if begins_with_device bytes then drop 18 bytes else bytes
