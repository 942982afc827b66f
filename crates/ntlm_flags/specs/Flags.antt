-- Negotiate flags (MS-NLMP 2.2.2.5): a 32-bit number with a bit for each flag. Each flag stands under its letter there.
use Rattle.std.specs.Prelude.{ℕ, Bool, ◌==◌, bit_and, bit_or}

-- A: texts are UTF-16LE
abbrev pub negotiate_unicode : ℕ
negotiate_unicode = 0x0000_0001

-- B: texts are in the OEM character set
abbrev pub negotiate_oem : ℕ
negotiate_oem = 0x0000_0002

-- C: the CHALLENGE is to name its target
abbrev pub request_target : ℕ
request_target = 0x0000_0004

-- D: session keys for signing
abbrev pub negotiate_sign : ℕ
negotiate_sign = 0x0000_0010

-- E: session keys for sealing
abbrev pub negotiate_seal : ℕ
negotiate_seal = 0x0000_0020

-- H: the NTLM protocol
abbrev pub negotiate_ntlm : ℕ
negotiate_ntlm = 0x0000_0200

-- K: NEGOTIATE carries a domain name
abbrev pub negotiate_oem_domain_supplied : ℕ
negotiate_oem_domain_supplied = 0x0000_1000

-- L: NEGOTIATE carries a workstation name
abbrev pub negotiate_oem_workstation_supplied : ℕ
negotiate_oem_workstation_supplied = 0x0000_2000

-- M: a signature on every message
abbrev pub negotiate_always_sign : ℕ
negotiate_always_sign = 0x0000_8000

-- N: the target is a domain
abbrev pub target_type_domain : ℕ
target_type_domain = 0x0001_0000

-- O: the target is a server
abbrev pub target_type_server : ℕ
target_type_server = 0x0002_0000

-- P: extended session security
abbrev pub negotiate_extended_sessionsecurity : ℕ
negotiate_extended_sessionsecurity = 0x0008_0000

-- S: CHALLENGE carries target information
abbrev pub negotiate_target_info : ℕ
negotiate_target_info = 0x0080_0000

-- T: the version field is filled
abbrev pub negotiate_version : ℕ
negotiate_version = 0x0200_0000

-- U: session keys of 128 bits
abbrev pub negotiate_128 : ℕ
negotiate_128 = 0x2000_0000

-- V: AUTHENTICATE carries an encrypted session key
abbrev pub negotiate_key_exch : ℕ
negotiate_key_exch = 0x4000_0000

-- W: session keys of 56 bits
abbrev pub negotiate_56 : ℕ
negotiate_56 = 0x8000_0000

-- the flag is set
abbrev pub has_flag : ℕ → ℕ → Bool
has_flag flags flag = bit_and flags flag == flag

-- ---- Which flags the ends of this project offer and answer: this project's own choice.

-- what a client's NEGOTIATE offers
abbrev pub offered_flags : ℕ
offered_flags = 0xE008_8235

-- the flags that are offered for NTLMv1 responses without extended session security
abbrev pub offered_flags_v1 : ℕ
offered_flags_v1 = 0xE000_8235

-- what a member's CHALLENGE answers of the flags that are offered
abbrev pub answered_flags : ℕ
answered_flags = 0xE008_8235

-- what a member's CHALLENGE says besides: its target is a domain, and it carries target information
abbrev pub target_flags : ℕ
target_flags = 0x0081_0000

-- the flags of a member's CHALLENGE, by those of the NEGOTIATE
abbrev pub challenge_flags : ℕ → ℕ
challenge_flags offered = bit_or (bit_and offered answered_flags) target_flags

-- The flags that are agreed: those that stand in two messages, the offer and the CHALLENGE or the CHALLENGE and the
-- AUTHENTICATE.
abbrev pub agreed_flags : ℕ → ℕ → ℕ
agreed_flags one other = bit_and one other
