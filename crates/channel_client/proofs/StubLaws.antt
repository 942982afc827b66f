-- A stub is short enough for the hint of a request, and for one send.
use Rattle.std.proofs.Common.{◌≡◌, ◌≤◌, ◌<◌, ◌^◌, List, ℕ, length, Option, Some, None, Ok, arith, ap, sym, subst}
use Rattle.wire_base.specs.Units.{AreUnits}
use Rattle.authenticators.specs.SecureChannels.{SecureChannelState}
use Rattle.authenticators.proofs.BlockLaws.{cred_block}
use Rattle.secret_change.specs.Calls.{written_set_call}
use Rattle.secret_change.specs.declared.calls.SetCall.{SetCall}
use Rattle.secret_change.proofs.HideLaws.{hidden_is_secret}
use Rattle.secret_change.proofs.SetLaws.{call_stub}
use Rattle.channel_client.specs.Machine.{CanSendSet, change_call, stub_limit}
use Rattle.channel_client.specs.declared.caller.Caller.{Caller}
use Rattle.wire_base.specs.Numbers.{AreBytes}
use Rattle.logon_stubs.specs.Parts.{FitsText, IfThere, size_if_there, text_size}
use Rattle.logon_stubs.specs.Calls.{call_of, opnum_of_call}
use Rattle.logon_stubs.specs.Ranges.{bytes_of_text, call_content, logon_content}
use Rattle.logon_stubs.specs.Writing.{CanWriteCall, CanWriteNetworkInfo, written_call}
use Rattle.logon_stubs.specs.declared.calls.Call.{Call}
use Rattle.logon_stubs.specs.declared.calls.Call.TheVariants as call
use Rattle.logon_stubs.specs.declared.info.NetworkInfo.{NetworkInfo}
use Rattle.logon_stubs.proofs.GivenLaws.{call_of-InRange}
use Rattle.logon_stubs.proofs.WrittenLaws.{written_call-content}

content_if_there : (value : Option (List ℕ)) → IfThere FitsText value → size_if_there bytes_of_text value ≤ 65534
content_if_there None fits = omega arith
content_if_there (Some value) fits = omega (arith, fits)

logon_content-le : (info : NetworkInfo) → CanWriteNetworkInfo info → logon_content info ≤ 327672
logon_content-le info can = omega (arith, can.domain, can.user, can.workstation, can.nt, can.lm)

call_content-le : (value : Call) → CanWriteCall value → call_content value ≤ 458740
call_content-le (call.Logon value) can = omega (arith, content_if_there value.server can.server, content_if_there value.computer can.computer, logon_content-le value.info can.info)
call_content-le (call.Logoff value) can = omega (arith, content_if_there value.server can.server, content_if_there value.computer can.computer, logon_content-le value.info can.info)
call_content-le (call.Challenge value) can = omega (arith, content_if_there value.primary can.0, can.1)
call_content-le (call.Authenticate value) can = omega (arith, content_if_there value.primary can.0, can.1, can.2)

pub stub_short : (value : Call) (stub : List ℕ) → AreBytes stub → CanWriteCall value → call_of (opnum_of_call value) stub ≡ Ok value →
    stub ≡ written_call value → length stub ≤ stub_limit
stub_short value stub bytes can again is =
    omega (arith, ap length is, written_call-content value can (call_of-InRange (opnum_of_call value) stub value bytes again), call_content-le value can)

-- ---- a call that sets a secret

text_if_there : (value : Option (List ℕ)) → IfThere FitsText value → size_if_there text_size value ≤ 65551
text_if_there None fits = omega arith
text_if_there (Some value) fits = omega (arith, fits)

pub set_stub_short : (value : SetCall) (stub : List ℕ) → CanSendSet value → stub ≡ written_set_call value → length stub ≤ stub_limit
set_stub_short value stub can is =
    omega (arith, ap length is, (call_stub value can.writes can.range).short, text_if_there value.primary can.writes.primary, can.writes.account, can.writes.computer)

pub change_sends : (caller : Caller) (o : SecureChannelState) (timestamp : ℕ) (next : List ℕ) (call : SetCall) → call ≡ change_call caller o timestamp next →
    AreUnits caller.account → AreUnits caller.computer → caller.kind < 2 ^ 16 → timestamp < 2 ^ 32 → FitsText caller.computer → FitsText caller.account → CanSendSet call
change_sends caller o timestamp next call is account computer kind below fits_computer fits_account =
    subst CanSendSet (sym is) (record {
      writes = record { primary = tt; account = fits_account; computer = fits_computer };
      range = record {
        primary = tt;
        account = account;
        channel = kind;
        computer = computer;
        authenticator = record { credential = cred_block _ _; timestamp = below };
        hidden = hidden_is_secret _ next;
      };
    })
