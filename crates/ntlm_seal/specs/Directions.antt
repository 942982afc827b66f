-- One direction of a session with extended session security (MS-NLMP 3.4.2 to 3.4.4): how a unit is sealed, its
-- signature, and what the direction is afterwards. A unit is a list of bytes, of which those from place `from` to
-- before place `to` are sealed; a unit that is signed alone has from = to = 0.
use Rattle.std.specs.Prelude.{ℕ, ◌+◌, ◌-◌, Bool, true, false, List, ◌++◌, take, drop, slice_range}
use Rattle.std.specs.Int.{w32, from_le_bytes, to_le_bytes}
use Rattle.digest_parts.specs.Hmac.{hmac_of}
use Rattle.rc4_stream.specs.Rc4.{applied}
use Rattle.ntlm_seal.specs.declared.side.Side.{Side}
use Rattle.ntlm_flags.specs.Flags.{has_flag, negotiate_key_exch}
use Rattle.ntlm_seal.specs.Keys.{signing_key_of, sealing_key_of}

-- A direction: its keys, of 16 bytes each; whether checksums pass through the key stream (NTLMSSP_NEGOTIATE_KEY_EXCH);
-- the number of the next unit, below 2 ^ 32; and how many bytes of the key stream under the sealing key are used.
pub record Direction : Type 0 where
  pub signing_key : List ℕ
  pub sealing_key : List ℕ
  pub key_exchange : Bool
  pub number : ℕ
  pub used : ℕ

-- the direction from a side, before its first unit: exported session key, flags and side
abbrev pub direction_of : List ℕ → ℕ → Side → Direction
direction_of exported flags side = record {
  signing_key = signing_key_of exported side;
  sealing_key = sealing_key_of exported flags side;
  key_exchange = has_flag flags negotiate_key_exch;
  number = 0;
  used = 0;
}

-- ---- the sealed unit (3.4.3)

-- the unit with its range combined with the next bytes of the key stream; of the plain unit this is the sealed one, and
-- of the sealed unit the plain one
unfoldable pub combine : Direction → List ℕ → ℕ → ℕ → List ℕ
combine d unit from to =
    take from unit ++ applied d.sealing_key d.used (slice_range unit from to) ++ drop to unit

-- ---- the signature (2.2.2.9.2 and 3.4.4.2)

-- the checksum of a plain unit under a signing key and a number: the first 8 bytes of HMAC-MD5 of the number and the
-- unit
unfoldable pub checksum_of : List ℕ → ℕ → List ℕ → List ℕ
checksum_of signing_key number plain = take 8 (hmac_of signing_key (to_le_bytes w32 number ++ plain))

-- a checksum as it is sent: with a key exchange it is combined with the bytes of the key stream that follow the used
-- ones
abbrev pub sent_form_by : (is_exchanged : Bool) (sealing_key : List ℕ) (used : ℕ) (checksum : List ℕ) → List ℕ
sent_form_by true sealing_key used checksum = applied sealing_key used checksum
sent_form_by false sealing_key used checksum = checksum

-- the checksum of a direction's next unit as it is sent, after as many more bytes of the key stream as its range takes
unfoldable pub sent_checksum : Direction → List ℕ → ℕ → List ℕ
sent_checksum d plain range =
    sent_form_by d.key_exchange d.sealing_key (d.used + range) (checksum_of d.signing_key d.number plain)

-- the signature of a plain unit whose range is sealed: version 1, the checksum as it is sent and the number, 16 bytes
unfoldable pub signature_of : Direction → List ℕ → ℕ → ℕ → List ℕ
signature_of d plain from to =
    to_le_bytes w32 1 ++ sent_checksum d plain (to - from) ++ to_le_bytes w32 d.number

-- the parts of a signature
abbrev pub version_in : List ℕ → ℕ
version_in signature = from_le_bytes w32 (slice_range signature 0 4)

abbrev pub checksum_in : List ℕ → List ℕ
checksum_in signature = slice_range signature 4 12

abbrev pub number_in : List ℕ → ℕ
number_in signature = from_le_bytes w32 (slice_range signature 12 16)

-- ---- the direction after a unit

-- how many bytes of the key stream a checksum takes
abbrev pub checksum_bytes : Bool → ℕ
checksum_bytes true = 8
checksum_bytes false = 0

-- the number rises by one, and the bytes used by the range and the checksum
abbrev pub next_of : Direction → ℕ → ℕ → Direction
next_of d from to = record d {
  number = d.number + 1;
  used = d.used + (to - from) + checksum_bytes d.key_exchange;
}
