-- Units that a session signs or seals in their place (MS-RPCE 2.2.2.11, MS-NLMP 3.4.2 to 3.4.4). A unit has a trailer
-- with a value of 16 bytes, which is the signature of all bytes before it. Where units are sealed, the stub and its
-- padding are encrypted.
use Rattle.std.specs.Prelude.{ℕ, ◌+◌, ◌==◌, Bool, true, false, List, [], ◌∷◌, ◌++◌, length, take, drop, replicate, Option, Some, None, Result, Ok, Err}
use Rattle.ntlm_seal.specs.declared.refusal.SealRefused.{SealRefused}
use Rattle.ntlm_seal.specs.Directions.{combine}
use Rattle.ntlm_seal.specs.Sessions.{SessionState, Sealing, Judgement, seal_of, judge_of, open_of}
use Rattle.rpc_units.specs.declared.unit.Unit.{Unit as RpcUnit}
use Rattle.rpc_units.specs.declared.unit.Trailer.{Trailer}
use Rattle.rpc_units.specs.Joining.{cut_of}
use Rattle.rpc_units.specs.Numbers.{ntlm_provider}
use Rattle.rpc_units.specs.Sealing.{sealed_of}
use Rattle.rpc_units.specs.Writing.{written}
use Rattle.unit_security.specs.declared.securing.Secured.{Secured}
use Rattle.unit_security.specs.Levels.{is_sealed}

-- ---- trailers

-- the trailer of NTLM with that level, context number and authentication value
abbrev pub trailer_of : ℕ → ℕ → List ℕ → Trailer
trailer_of level context value = record { kind = ntlm_provider; level = level; context = context; value = value }

-- the trailer of a unit that isn't signed yet
abbrev pub blank_trailer : ℕ → ℕ → Trailer
blank_trailer level context = trailer_of level context (replicate 16 0)

-- the unit with room for a signature
abbrev pub with_room : ℕ → ℕ → RpcUnit → RpcUnit
with_room level context unit = record unit { trailer = Some (blank_trailer level context) }

-- ---- the parts of a unit

-- the stub and its padding, from the first place to before the second, where the trailer's 8 bytes and a value of 16
-- follow to the end
abbrev pub range_if : Bool → ℕ × ℕ → Option (ℕ × ℕ)
range_if false range = None
range_if true range = Some range

abbrev pub range_by : Option (ℕ × ℕ) → List ℕ → Option (ℕ × ℕ)
range_by None bytes = None
range_by (Some range) bytes = range_if (range.1 + 24 == length bytes) range

abbrev pub range_of : List ℕ → Option (ℕ × ℕ)
range_of bytes = range_by (sealed_of bytes) bytes

-- the bytes that are signed, and the signature behind them
abbrev pub signed_part : ℕ × ℕ → List ℕ → List ℕ
signed_part range bytes = take (range.1 + 8) bytes

abbrev pub signature_part : ℕ × ℕ → List ℕ → List ℕ
signature_part range bytes = drop (range.1 + 8) bytes

-- ---- one unit

-- bytes, and the session after them, where it is done
abbrev pub secured_if : Bool → List ℕ → SessionState → Option Secured
secured_if true bytes session = Some (record { bytes = bytes; session = session })
secured_if false bytes session = None

-- the bytes and the signature, unless the session refuses
abbrev pub signed_with : Result (List ℕ) SealRefused → List ℕ → SessionState → Option Secured
signed_with (Ok signature) bytes session = Some (record { bytes = bytes ++ signature; session = session })
signed_with (Err why) bytes session = None

abbrev pub sealed_with : Sealing → Option Secured
sealed_with sealing = signed_with sealing.answer sealing.unit sealing.session

abbrev pub secure_in : (seals : Bool) → Option (ℕ × ℕ) → SessionState → List ℕ → Option Secured
secure_in seals None session bytes = None
secure_in true (Some range) session bytes = sealed_with (seal_of session (signed_part range bytes) range.0 range.1)
secure_in false (Some range) session bytes =
    signed_with (seal_of session (signed_part range bytes) 0 0).answer (signed_part range bytes)
    (seal_of session (signed_part range bytes) 0 0).session

-- a unit as it is sent; none where it has no such trailer or the session refuses
abbrev pub secure_unit : Bool → SessionState → List ℕ → Option Secured
secure_unit seals session bytes = secure_in seals (range_of bytes) session bytes

-- the bytes, unless the session refuses their signature
abbrev pub taken_by : Result Unit SealRefused → SessionState → List ℕ → Option Secured
taken_by (Ok taken) session bytes = Some (record { bytes = bytes; session = session })
taken_by (Err why) session bytes = None

abbrev pub taken_with : Judgement → List ℕ → Option Secured
taken_with judgement bytes = taken_by judgement.answer judgement.session bytes

abbrev pub open_in : Bool → Option (ℕ × ℕ) → SessionState → List ℕ → Option Secured
open_in seals None session bytes = None
open_in true (Some range) session bytes =
    taken_with (open_of session (signed_part range bytes) range.0 range.1 (signature_part range bytes))
    (combine session.receiving (signed_part range bytes) range.0 range.1 ++ signature_part range bytes)
open_in false (Some range) session bytes =
    taken_with (judge_of session (signed_part range bytes) 0 0 (signature_part range bytes)) bytes

-- a unit that comes, in plain form; none where it has no such trailer or the session refuses it
abbrev pub open_unit : Bool → SessionState → List ℕ → Option Secured
open_unit seals session bytes = open_in seals (range_of bytes) session bytes

-- ---- a call

abbrev pub behind : List ℕ → Option Secured → Option Secured
behind bytes None = None
behind bytes (Some later) = Some (record { bytes = bytes ++ later.bytes; session = later.session })

-- one unit after another
abbrev pub then_secured : Option Secured → (SessionState → Option Secured) → Option Secured
then_secured None next = None
then_secured (Some one) next = behind one.bytes (next one.session)

unfoldable pub secure_all : Bool → SessionState → List RpcUnit → Option Secured
secure_all seals session [] = Some (record { bytes = []; session = session })
secure_all seals session (unit ∷ units) =
    then_secured (secure_unit seals session (written unit)) (λ next. secure_all seals next units)

abbrev pub secured_with : Option (List ℕ) → SessionState → Option Secured
secured_with None session = None
secured_with (Some bytes) session = Some (record { bytes = bytes; session = session })

-- the fragments of a call or response with room for signatures, each of at most that many bytes; the numbers are the
-- level and the context number
abbrev pub secure_call : SessionState → ℕ → ℕ → RpcUnit → ℕ → Option Secured
secure_call session level context call limit =
    secure_all (is_sealed level) session (cut_of (with_room level context call) limit)
