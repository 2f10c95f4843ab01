-- Several microframes of a domain's clock: what they make of a device's world, and how often the domain ticks in them. Profile.
use Rattle.std.specs.Prelude.{ℕ, zero, suc, ◌+◌}
use Rattle.uac_device.specs.DeviceWorld.{DeviceWorld, after_advance, next_ticks}
use Rattle.uac_device.specs.DeviceKept.{DeviceFields}
use Rattle.uac_device.specs.DeviceTurns.{first_ticks}
use Rattle.uac_device.specs.Following.{nominal_at}

-- so many microframes, one after the other
unfoldable pub after_advances : ℕ → ℕ → DeviceWorld → DeviceWorld
after_advances domain zero w = w
after_advances domain (suc n) w = after_advance domain (after_advances domain n w)

-- how often it ticks in all of them
unfoldable pub ticks_over : ℕ → ℕ → DeviceWorld → ℕ
ticks_over domain zero w = 0
ticks_over domain (suc n) w = ticks_over domain n w + next_ticks domain (after_advances domain n w)

-- the same, by what is kept of a device
abbrev pub kept_ticks : DeviceFields → ℕ → ℕ → ℕ
kept_ticks device domain n = first_ticks domain (nominal_at device.function.entities device.controls domain) n device.clocks
