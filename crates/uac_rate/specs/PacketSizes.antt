-- profile: the host counts what its rate values give, in 65,536ths of a frame, and sends the whole frames. A rate value is a feedback
-- value or the nominal one: USB 2.0, 5.12.4.2.
use Rattle.std.specs.Prelude.{ℕ, ◌-◌, ◌/◌, List, length, take, sum}

-- the frames of the last packet of a stream that has one every so many microframes, by the rate values of its microframes:
-- the whole frames of all, without those of all but the last packet's
abbrev pub frames_in_packet : ℕ → List ℕ → ℕ
frames_in_packet service values = sum values / 65536 - sum (take (length values - service) values) / 65536
