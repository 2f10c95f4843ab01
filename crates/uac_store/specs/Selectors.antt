-- The selectors of controls, as the standard's tables give them (Audio Class 2.0, A.17). The code's own constants have to be these.
use Rattle.std.specs.Prelude.{ℕ}

-- ---- of a clock source (A.17.1), a clock selector (A.17.2) and a clock multiplier (A.17.3)

abbrev pub CS_SAM_FREQ_CONTROL : ℕ
CS_SAM_FREQ_CONTROL = 1

abbrev pub CS_CLOCK_VALID_CONTROL : ℕ
CS_CLOCK_VALID_CONTROL = 2

abbrev pub CX_CLOCK_SELECTOR_CONTROL : ℕ
CX_CLOCK_SELECTOR_CONTROL = 1

abbrev pub CM_NUMERATOR_CONTROL : ℕ
CM_NUMERATOR_CONTROL = 1

abbrev pub CM_DENOMINATOR_CONTROL : ℕ
CM_DENOMINATOR_CONTROL = 2

-- ---- of a terminal (A.17.4), a mixer unit (A.17.5), a selector unit (A.17.6) and a feature unit (A.17.7)

abbrev pub TE_CONNECTOR_CONTROL : ℕ
TE_CONNECTOR_CONTROL = 2

abbrev pub MU_MIXER_CONTROL : ℕ
MU_MIXER_CONTROL = 1

abbrev pub SU_SELECTOR_CONTROL : ℕ
SU_SELECTOR_CONTROL = 1

abbrev pub FU_MUTE_CONTROL : ℕ
FU_MUTE_CONTROL = 1

abbrev pub FU_VOLUME_CONTROL : ℕ
FU_VOLUME_CONTROL = 2

-- ---- of an effect unit (A.17.8): the enable control of each type of effect has this one; profile: one name for them all

abbrev pub EU_ENABLE_CONTROL : ℕ
EU_ENABLE_CONTROL = 1

-- ---- of a streaming interface (A.17.11)

abbrev pub AS_ACT_ALT_SETTING_CONTROL : ℕ
AS_ACT_ALT_SETTING_CONTROL = 1

abbrev pub AS_VAL_ALT_SETTINGS_CONTROL : ℕ
AS_VAL_ALT_SETTINGS_CONTROL = 2
