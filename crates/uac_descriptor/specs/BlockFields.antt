-- The values of an endpoint's and of a format's fields: USB 2.0, 9.6.6 (bmAttributes, wMaxPacketSize, bInterval); Audio
-- Data Formats 2.0, 2.3.1.6 (bSubslotSize, bBitResolution).
use Rattle.std.specs.Prelude.{◌≢◌, ◌*◌, ◌≤◌, Bool, ◌||◌, ◌==◌, nat_lt}
use Rattle.uac_descriptor.specs.declared.standard.Endpoint as endpoint
use Rattle.uac_descriptor.specs.declared.streaming.TypeOne as type_one
use Rattle.uac_descriptor.specs.Endpoints.{transfer_type, packet_size, additional_transactions}

-- whether an endpoint's transfers are isochronous
abbrev pub is_isochronous : endpoint.Endpoint → Bool
is_isochronous e = transfer_type e.attributes == 1

-- an isochronous endpoint of high speed
pub record IsHighSpeed (e : endpoint.Endpoint) : Type 0 where
  pub has_period : (1 ≤ e.interval) × (e.interval ≤ 16)
  pub few_transactions : additional_transactions e.max_packet ≢ 3
  pub small : packet_size e.max_packet ≤ 1024

-- the bytes and the bits of a sample
pub record IsTypeOneFormat (t : type_one.TypeOne) : Type 0 where
  pub slots : (1 ≤ t.subslot) × (t.subslot ≤ 4)
  pub fits : (1 ≤ t.bits) × (t.bits ≤ 8 * t.subslot)

-- whether an endpoint is none of high speed, and a format is none: tests of what is wrong
unfoldable pub is_no_high_speed : endpoint.Endpoint → Bool
is_no_high_speed e =
    nat_lt e.interval 1 || nat_lt 16 e.interval || additional_transactions e.max_packet == 3 || nat_lt 1024 (packet_size e.max_packet)

unfoldable pub is_no_format : type_one.TypeOne → Bool
is_no_format t = nat_lt t.subslot 1 || nat_lt 4 t.subslot || nat_lt t.bits 1 || nat_lt (8 * t.subslot) t.bits
