-- The keys of a session (MS-NLMP 3.4.5.1 and 3.1.5.1.2), 16 bytes each.
use Rattle.std.specs.Prelude.{ℕ, Bool, true, false, ◌==◌, List, ◌++◌, length, Option, Some, None}
use Rattle.digest_parts.specs.Hmac.{hmac_of}
use Rattle.rc4_stream.specs.Rc4.{applied}
use Rattle.ntlm_flags.specs.Flags.{has_flag, negotiate_key_exch}
use Rattle.ntlm_responses.specs.Responses.{client_challenge_of}

-- ---- KXKEY, the key exchange key (3.4.5.1)

-- for NTLMv1 with extended session security, HMAC-MD5 under the base key of the server's challenge and the client's;
-- else the base key
abbrev pub exchange_key_by : Option (List ℕ) → List ℕ → List ℕ → List ℕ
exchange_key_by (Some client) base challenge = hmac_of base (challenge ++ client)
exchange_key_by None base challenge = base

abbrev pub exchange_key_of : List ℕ → ℕ → List ℕ → List ℕ → List ℕ → List ℕ
exchange_key_of base flags challenge lm nt = exchange_key_by (client_challenge_of flags lm nt) base challenge

-- ---- ExportedSessionKey (3.1.5.1.2 and 3.2.5.1.2)

-- the exported key, where the exchange key and the message's key field are these
abbrev pub exported_key_by : (is_exchanged is_16_bytes : Bool) (exchange key : List ℕ) → Option (List ℕ)
exported_key_by true true exchange key = Some (applied exchange 0 key)
exported_key_by true false exchange key = None
exported_key_by false _ exchange key = Some exchange

-- where keys are exchanged, the message's key field under RC4 with the exchange key, and none where the field hasn't 16
-- bytes; else the exchange key
abbrev pub exported_key_of : List ℕ → ℕ → List ℕ → Option (List ℕ)
exported_key_of exchange flags key =
    exported_key_by (has_flag flags negotiate_key_exch) (length key == 16) exchange key
