-- The signature of a sealed unit (MS-NRPC 2.2.1.3.2, NL_AUTH_SIGNATURE, and 3.3.4.2), with HMAC-MD5 and RC4: its 32
-- bytes, and how the unit is sealed. The channel's key has 16 bytes, and a number is below 2 ^ 32. An end of the
-- channel is told by whether it is the requester, the client of MS-NRPC. Two things are this project's own choice. The
-- checksum covers the whole unit before the signature, headers among it. Numbers have 32 bits, those of the low half.
use Rattle.std.specs.Prelude.{ℕ, ◌-◌, Bool, true, false, List, [], ◌∷◌, ◌++◌, length, take, drop, slice_range, map, bit_xor}
use Rattle.std.specs.Int.{w32, to_be_bytes}
use Rattle.digest_parts.specs.Hmac.{hmac_of}
use Rattle.md5.specs.Md5.{md5}
use Rattle.rc4_stream.specs.Rc4.{applied}

-- ---- the parts of a unit that ends with a signature

abbrev pub signature_length : ℕ
signature_length = 32

abbrev pub before_signature : List ℕ → List ℕ
before_signature unit = take (length unit - signature_length) unit

abbrev pub signature_in : List ℕ → List ℕ
signature_in unit = drop (length unit - signature_length) unit

-- ---- the parts of a signature (2.2.1.3.2)

-- SignatureAlgorithm 0x0077, HMAC-MD5; SealAlgorithm 0x007A, RC4; Pad 0xFFFF; Flags 0: numbers of 16 bits, low byte
-- first
abbrev pub algorithms : List ℕ
algorithms = 0x77 ∷ 0x00 ∷ 0x7A ∷ 0x00 ∷ 0xFF ∷ 0xFF ∷ 0x00 ∷ 0x00 ∷ []

abbrev pub algorithms_in : List ℕ → List ℕ
algorithms_in signature = take 8 signature

abbrev pub hidden_number_in : List ℕ → List ℕ
hidden_number_in signature = slice_range signature 8 16

abbrev pub checksum_in : List ℕ → List ℕ
checksum_in signature = slice_range signature 16 24

abbrev pub hidden_confounder_in : List ℕ → List ℕ
hidden_confounder_in signature = slice_range signature 24 32

-- ---- numbers, checksums and keys (3.3.4.2.1)

abbrev pub four_zeros : List ℕ
four_zeros = 0 ∷ 0 ∷ 0 ∷ 0 ∷ []

-- who sends: the high half of the copy of the sequence number, with its highest bit set by the requester
abbrev pub sender_mark : Bool → List ℕ
sender_mark true = 0x80 ∷ 0 ∷ 0 ∷ 0 ∷ []
sender_mark false = four_zeros

-- the copy of the sequence number: the number, high byte first, and who sends
unfoldable pub sequence_bytes : ℕ → Bool → List ℕ
sequence_bytes number requester = to_be_bytes w32 number ++ sender_mark requester

-- the checksum of a confounder and a plain unit
unfoldable pub checksum_of : List ℕ → List ℕ → List ℕ → List ℕ
checksum_of key confounder plain =
    take 8 (hmac_of key (md5 (four_zeros ++ algorithms ++ confounder ++ plain)))

-- the channel's key with each byte combined with 0xF0
unfoldable pub masked_key : List ℕ → List ℕ
masked_key key = map (λ byte. bit_xor byte 0xF0) key

-- the RC4 key under which the confounder and the unit are sealed, each from the first byte of its stream
unfoldable pub sealing_key_of : List ℕ → List ℕ → List ℕ
sealing_key_of key sequence = hmac_of (hmac_of (masked_key key) four_zeros) sequence

-- the RC4 key under which the copy of the sequence number is hidden
unfoldable pub sequence_key_of : List ℕ → List ℕ → List ℕ
sequence_key_of key checksum = hmac_of (hmac_of key four_zeros) checksum

-- ---- what is sealed

-- a unit's range, from place `from` to before place `to`, combined with the key stream; of the plain unit this is the
-- sealed one, and of the sealed unit the plain one
unfoldable pub combine_range : List ℕ → List ℕ → ℕ → ℕ → List ℕ
combine_range sealing_key unit from to =
    take from unit ++ applied sealing_key 0 (slice_range unit from to) ++ drop to unit

-- the signature of a plain unit: key, number, whether the requester sends, plain unit and confounder
unfoldable pub signature_of : List ℕ → ℕ → Bool → List ℕ → List ℕ → List ℕ
signature_of key number requester plain confounder =
    algorithms
    ++ applied (sequence_key_of key (checksum_of key confounder plain)) 0 (sequence_bytes number requester)
    ++ checksum_of key confounder plain
    ++ applied (sealing_key_of key (sequence_bytes number requester)) 0 confounder

-- the sealed unit with its signature: key, number, whether the requester sends, plain unit before the signature, its
-- range and the confounder
unfoldable pub sealed_unit : List ℕ → ℕ → Bool → List ℕ → ℕ → ℕ → List ℕ → List ℕ
sealed_unit key number requester plain from to confounder =
    combine_range (sealing_key_of key (sequence_bytes number requester)) plain from to
    ++ signature_of key number requester plain confounder

-- ---- what is opened

-- the copy of the sequence number in a signature
unfoldable pub number_in : List ℕ → List ℕ → List ℕ
number_in key signature =
    applied (sequence_key_of key (checksum_in signature)) 0 (hidden_number_in signature)

-- the confounder in a signature, under the copy of the sequence number
unfoldable pub confounder_in : List ℕ → List ℕ → List ℕ → List ℕ
confounder_in key sequence signature =
    applied (sealing_key_of key sequence) 0 (hidden_confounder_in signature)
