-- The parts of an endpoint's bmAttributes and wMaxPacketSize (USB 2.0, 9.6.6).
use Rattle.std.specs.Prelude.{ℕ, ◌/◌, ◌%◌}

-- bits 1 and 0 of bmAttributes: 1 is isochronous
abbrev pub transfer_type : ℕ → ℕ
transfer_type attributes = attributes % 4

-- bits 3 and 2 of bmAttributes: 1 is asynchronous, 2 adaptive, 3 synchronous
abbrev pub synchronization_type : ℕ → ℕ
synchronization_type attributes = attributes / 4 % 4

-- bits 5 and 4 of bmAttributes: 0 is data, 1 feedback, 2 implicit feedback data
abbrev pub usage_type : ℕ → ℕ
usage_type attributes = attributes / 16 % 4

-- bits 10 to 0 of wMaxPacketSize: the bytes of one transaction
abbrev pub packet_size : ℕ → ℕ
packet_size max_packet = max_packet % 2048

-- bits 12 and 11 of wMaxPacketSize: the transactions that a microframe has besides the first
abbrev pub additional_transactions : ℕ → ℕ
additional_transactions max_packet = max_packet / 2048 % 4
