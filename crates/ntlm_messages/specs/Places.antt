-- Where the parts of the three messages stand (MS-NLMP 2.2.1.1, 2.2.1.2, 2.2.1.3): places of the fixed header, counted
-- in bytes from the message's first one, and sizes of the fixed headers in bytes. A version, where there is one, stands
-- behind the fixed header.
use Rattle.std.specs.Prelude.{ℕ}

-- the message's type, 32 bits, behind the signature
abbrev pub type_place : ℕ
type_place = 8

-- ---- NEGOTIATE

abbrev pub negotiate_flags_place : ℕ
negotiate_flags_place = 12

abbrev pub negotiate_domain_place : ℕ
negotiate_domain_place = 16

abbrev pub negotiate_workstation_place : ℕ
negotiate_workstation_place = 24

abbrev pub negotiate_size : ℕ
negotiate_size = 32

-- The least that is taken, since old clients end behind the flags: this project's own choice.
abbrev pub negotiate_least : ℕ
negotiate_least = 16

-- ---- CHALLENGE

abbrev pub challenge_target_place : ℕ
challenge_target_place = 12

abbrev pub challenge_flags_place : ℕ
challenge_flags_place = 20

-- the server challenge, 8 bytes; behind it stand 8 reserved bytes
abbrev pub challenge_server_place : ℕ
challenge_server_place = 24

abbrev pub challenge_info_place : ℕ
challenge_info_place = 40

abbrev pub challenge_size : ℕ
challenge_size = 48

-- ---- AUTHENTICATE

abbrev pub authenticate_lm_place : ℕ
authenticate_lm_place = 12

abbrev pub authenticate_nt_place : ℕ
authenticate_nt_place = 20

abbrev pub authenticate_domain_place : ℕ
authenticate_domain_place = 28

abbrev pub authenticate_user_place : ℕ
authenticate_user_place = 36

abbrev pub authenticate_workstation_place : ℕ
authenticate_workstation_place = 44

abbrev pub authenticate_key_place : ℕ
authenticate_key_place = 52

abbrev pub authenticate_flags_place : ℕ
authenticate_flags_place = 60

abbrev pub authenticate_size : ℕ
authenticate_size = 64
