-- The numbers of types, subtypes and class codes, as the standards' tables give them. The code's own constants have to be these.
use Rattle.std.specs.Prelude.{ℕ}

-- ---- the types of descriptors (USB 2.0, table 9-5; its supplement on interface associations; Audio Class 2.0, A.8)

abbrev pub DEVICE : ℕ
DEVICE = 1

abbrev pub CONFIGURATION : ℕ
CONFIGURATION = 2

abbrev pub INTERFACE : ℕ
INTERFACE = 4

abbrev pub ENDPOINT : ℕ
ENDPOINT = 5

abbrev pub INTERFACE_ASSOCIATION : ℕ
INTERFACE_ASSOCIATION = 11

abbrev pub CS_INTERFACE : ℕ
CS_INTERFACE = 36

abbrev pub CS_ENDPOINT : ℕ
CS_ENDPOINT = 37

-- ---- the subtypes of the audio control interface (Audio Class 2.0, A.9)

abbrev pub HEADER : ℕ
HEADER = 1

abbrev pub INPUT_TERMINAL : ℕ
INPUT_TERMINAL = 2

abbrev pub OUTPUT_TERMINAL : ℕ
OUTPUT_TERMINAL = 3

abbrev pub MIXER_UNIT : ℕ
MIXER_UNIT = 4

abbrev pub SELECTOR_UNIT : ℕ
SELECTOR_UNIT = 5

abbrev pub FEATURE_UNIT : ℕ
FEATURE_UNIT = 6

abbrev pub EFFECT_UNIT : ℕ
EFFECT_UNIT = 7

abbrev pub CLOCK_SOURCE : ℕ
CLOCK_SOURCE = 10

abbrev pub CLOCK_SELECTOR : ℕ
CLOCK_SELECTOR = 11

abbrev pub CLOCK_MULTIPLIER : ℕ
CLOCK_MULTIPLIER = 12

-- ---- the subtypes of a streaming interface (Audio Class 2.0, A.10) and after an endpoint (A.13)

abbrev pub AS_GENERAL : ℕ
AS_GENERAL = 1

abbrev pub FORMAT_TYPE : ℕ
FORMAT_TYPE = 2

abbrev pub EP_GENERAL : ℕ
EP_GENERAL = 1

-- Audio Data Formats 2.0, A.1
abbrev pub FORMAT_TYPE_I : ℕ
FORMAT_TYPE_I = 1

-- ---- class codes (Audio Class 2.0, A.1 and A.3 to A.6), the version of the header (4.7.2), and the bytes of a device
-- descriptor (USB 2.0, 9.6.1)

abbrev pub AUDIO : ℕ
AUDIO = 1

abbrev pub AUDIOCONTROL : ℕ
AUDIOCONTROL = 1

abbrev pub AUDIOSTREAMING : ℕ
AUDIOSTREAMING = 2

abbrev pub IP_VERSION_02_00 : ℕ
IP_VERSION_02_00 = 32

abbrev pub VERSION_02_00 : ℕ
VERSION_02_00 = 512

abbrev pub DEVICE_LENGTH : ℕ
DEVICE_LENGTH = 18

-- the type of a terminal that carries a stream of the bus (USB Terminal Types 2.0, 2.1)
abbrev pub USB_STREAMING : ℕ
USB_STREAMING = 257
