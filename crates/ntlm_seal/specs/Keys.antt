-- The keys of a direction of a session with extended session security (MS-NLMP 3.4.5.2 and 3.4.5.3): 16 bytes each,
-- made of the exported session key, of 16 bytes, and the text of the direction. A direction is named by the side that
-- sends in it.
use Rattle.std.specs.Prelude.{ℕ, Bool, true, false, List, [], ◌∷◌, ◌++◌, take, codes}
use Rattle.md5.specs.Md5.{md5}
use Rattle.ntlm_seal.specs.declared.side.Side.{Side}
use Rattle.ntlm_seal.specs.declared.side.Side.TheVariants.{Client, Server}
use Rattle.ntlm_flags.specs.Flags.{has_flag, negotiate_128, negotiate_56}

-- ---- SIGNKEY (3.4.5.2)

-- the text, with its final zero
abbrev pub signing_text : Side → List ℕ
signing_text Client = codes "session key to client-to-server signing key magic constant" ++ 0 ∷ []
signing_text Server = codes "session key to server-to-client signing key magic constant" ++ 0 ∷ []

-- MD5 of the exported session key and the text
unfoldable pub signing_key_of : List ℕ → Side → List ℕ
signing_key_of exported side = md5 (exported ++ signing_text side)

-- ---- SEALKEY (3.4.5.3)

-- the text, with its final zero
abbrev pub sealing_text : Side → List ℕ
sealing_text Client = codes "session key to client-to-server sealing key magic constant" ++ 0 ∷ []
sealing_text Server = codes "session key to server-to-client sealing key magic constant" ++ 0 ∷ []

-- how many bytes of the exported session key are taken: those of 128 bits, else of 56, else of 40
abbrev pub sealing_length_by : (is_128_agreed is_56_agreed : Bool) → ℕ
sealing_length_by true _ = 16
sealing_length_by false true = 7
sealing_length_by false false = 5

abbrev pub sealing_length : ℕ → ℕ
sealing_length flags =
    sealing_length_by (has_flag flags negotiate_128) (has_flag flags negotiate_56)

-- MD5 of the front of the exported session key and the text
unfoldable pub sealing_key_of : List ℕ → ℕ → Side → List ℕ
sealing_key_of exported flags side = md5 (take (sealing_length flags) exported ++ sealing_text side)
