-- The key of a logon, hidden in a reply under the session key of the channel (MS-NRPC 3.5.4.5.3, UserSessionKey of the
-- validation): RC4, unless it is all zeros, which then stay (this project's own choice). Both keys have 16 bytes. What
-- hides it also shows it.
use Rattle.std.specs.Prelude.{ℕ, Bool, true, false, List, replicate, bytes_eq}
use Rattle.rc4_stream.specs.Rc4.{applied}

abbrev pub is_zero : List ℕ → Bool
is_zero key = bytes_eq key (replicate 16 0)

-- a key as it travels under a session key: one that is all zeros travels as it is
abbrev pub crypt_by : (is_zeros : Bool) (session_key key : List ℕ) → List ℕ
crypt_by true session_key key = key
crypt_by false session_key key = applied session_key 0 key

abbrev pub crypt_key : List ℕ → List ℕ → List ℕ
crypt_key session_key key = crypt_by (is_zero key) session_key key
