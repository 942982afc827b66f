-- The client's session, and its calls under it (MS-RPCE 2.2.2.11, MS-NLMP 3.4.2 to 3.4.4).
use Rattle.std.specs.Prelude.{ℕ, ◌==◌, ◌&&◌, Bool, true, false, List, Option, Some, None}
use Rattle.ntlm_flags.specs.Flags.{has_flag, negotiate_extended_sessionsecurity}
use Rattle.ntlm_seal.specs.declared.side.Side.TheVariants.{Client}
use Rattle.ntlm_seal.specs.Sessions.{SessionState, session_of}
use Rattle.rpc_units.specs.declared.unit.Unit.{Unit as RpcUnit}
use Rattle.rpc_units.specs.declared.unit.Trailer.{Trailer}
use Rattle.rpc_units.specs.Calls.{bytes_of_call}
use Rattle.unit_security.specs.declared.securing.Secured.{Secured}
use Rattle.unit_security.specs.Levels.{is_signed}
use Rattle.unit_security.specs.Securing.{secure_call}
use Rattle.logon_client.specs.declared.securing.Sending.{Sending}

-- the security context of all trailers that a client writes
abbrev pub trailer_context : ℕ
trailer_context = 1

-- a response has a trailer of that level
abbrev pub has_level : ℕ → Option Trailer → Bool
has_level level None = false
has_level level (Some trailer) = trailer.level == level

-- ---- a session

abbrev pub session_if : Bool → List ℕ → ℕ → Option SessionState
session_if false key flags = None
session_if true key flags = Some (session_of key flags Client)

-- the client's session of an exported key and the flags that are agreed, where units are signed. Where they are,
-- extended session security is agreed
abbrev pub session_for : ℕ → List ℕ → ℕ → Option SessionState
session_for level key flags = session_if (is_signed level && has_flag flags negotiate_extended_sessionsecurity) key flags

-- ---- a call

abbrev pub sent_secured : Option Secured → Option Sending
sent_secured None = None
sent_secured (Some secured) = Some (record { bytes = secured.bytes; session = Some secured.session })

-- a call at a level, in units of at most that many bytes
abbrev pub send_call : Option SessionState → ℕ → RpcUnit → ℕ → Option Sending
send_call None level call limit = Some (record { bytes = bytes_of_call call limit; session = None })
send_call (Some session) level call limit = sent_secured (secure_call session level trailer_context call limit)
