-- Worked examples of the definitions.
use Rattle.std.proofs.Common.{◌≡◌, pos, negsuc, None, [], ◌∷◌, map, refl}
use Rattle.uac_fullspeed.specs.FullSpeedNominal.{ten_rates, fs_values_of, fs_nominal_of, fs_step_of, fs_report_of, report_bytes, report_number}

-- the nominal values of the ten rates
table : map fs_values_of ten_rates ≡
    record { f = 131072; e = 131; lo = 7; hi = 9 } ∷
    record { f = 180633; e = 180; lo = 11; hi = 12 } ∷
    record { f = 262144; e = 262; lo = 15; hi = 17 } ∷
    record { f = 361267; e = 361; lo = 22; hi = 23 } ∷
    record { f = 524288; e = 524; lo = 31; hi = 33 } ∷
    record { f = 722534; e = 722; lo = 44; hi = 45 } ∷
    record { f = 786432; e = 786; lo = 47; hi = 49 } ∷
    record { f = 1048576; e = 1048; lo = 63; hi = 65 } ∷
    record { f = 1445068; e = 1445; lo = 88; hi = 89 } ∷
    record { f = 1572864; e = 1572; lo = 95; hi = 97 } ∷ []
unfolding fs_values_of
table = refl

-- no full-speed stream runs at 192,000 Hz
none_192000 : fs_nominal_of 192000 ≡ None
unfolding fs_nominal_of
none_192000 = refl

-- a thousandth more and less of 48,000 Hz
fast : fs_step_of (fs_values_of 48000) (pos 1000) ≡ 787218
unfolding fs_values_of
fast = refl

slow : fs_step_of (fs_values_of 48000) (negsuc 999) ≡ 785646
unfolding fs_values_of
slow = refl

-- three frames too few ask for 768 16,384ths of a frame more in each bus frame, and a hundred for the greatest packet
three_few : fs_report_of (fs_values_of 48000) 288 285 ≡ 787200
unfolding fs_values_of
three_few = refl

many_few : fs_report_of (fs_values_of 48000) 288 188 ≡ 802816
unfolding fs_values_of
many_few = refl

-- at 44,100 Hz the nominal value goes out as these bytes
sent : report_bytes 722534 ≡ 102 ∷ 6 ∷ 11 ∷ []
sent = refl

read_back : report_number (102 ∷ 6 ∷ 11 ∷ []) ≡ 722534
read_back = refl
