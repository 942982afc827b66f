-- An AUTHENTICATE on a link that was sent its CHALLENGE (MS-NLMP 3.2.5.1.2, MS-RPCE 3.3.1.5.2).
use Rattle.std.specs.Prelude.{ℕ, ◌==◌, ◌&&◌, ◌||◌, Bool, true, false, not, List, [], length, Option, Some, None, Result, Ok, Err}
use Rattle.outside.specs.declared.action.Action.TheVariants as action
use Rattle.outside.specs.declared.action.Outcome.TheVariants as outcome
use Rattle.outside.specs.declared.action.DropCause.TheVariants as drop_cause
use Rattle.outside.specs.declared.action.CloseCause.TheVariants as close
use Rattle.wire_base.specs.Maps.{put, same_number}
use Rattle.ntlm_flags.specs.Flags.{has_flag, agreed_flags, negotiate_unicode, negotiate_key_exch, negotiate_extended_sessionsecurity}
use Rattle.ntlm_messages.specs.declared.messages.Authenticate.{Authenticate}
use Rattle.ntlm_messages.specs.declared.refused.MessageRefused.{MessageRefused}
use Rattle.ntlm_messages.specs.Authenticate.{authenticate_of}
use Rattle.ntlm_messages.specs.Text.{units_of_text}
use Rattle.ntlm_responses.specs.Responses.{challenge_for_of}
use Rattle.logon_stubs.specs.declared.info.NetworkInfo.{NetworkInfo}
use Rattle.rpc_units.specs.declared.unit.Trailer.{Trailer}
use Rattle.rpc_units.specs.declared.unit.Unit.{Unit as RpcUnit}
use Rattle.rpc_units.specs.Numbers.{rpc_s_server_unavailable}
use Rattle.channel_client.specs.declared.answers.AskRefused.{AskRefused}
use Rattle.channel_client.specs.declared.answers.AskRefused.TheVariants as ask_refused
use Rattle.channel_client.specs.Machine.{Asking, ask_of}
use Rattle.channel_client.specs.State.{Requester}
use Rattle.member_server.specs.declared.state.AtLink.{AtLink}
use Rattle.member_server.specs.declared.state.Bound.{Bound}
use Rattle.member_server.specs.declared.state.Logon.{Logon}
use Rattle.member_server.specs.declared.state.Logons.{Logons}
use Rattle.member_server.specs.declared.state.Phase.TheVariants as phase
use Rattle.unit_security.specs.Levels.{is_plain}
use Rattle.rpc_units.specs.Numbers.{ntlm_provider}
use Rattle.member_server.specs.Work.{Served, tell, stay, shut, with_logons}

-- ---- what is agreed

-- texts are UTF-16LE, a level that signs has extended session security, and a key that is exchanged has 16 bytes
abbrev pub is_fit : ℕ → ℕ → Authenticate → Bool
is_fit level agreed message =
    has_flag agreed negotiate_unicode
    && (is_plain level || has_flag agreed negotiate_extended_sessionsecurity)
    && (not (has_flag agreed negotiate_key_exch) || (length message.key == 16))

-- ---- the logon that is asked

abbrev pub info_of : Authenticate → ℕ → List ℕ → NetworkInfo
info_of message agreed challenge = record {
  domain = units_of_text message.flags message.domain;
  control = 0;
  logon_id = 0;
  user = units_of_text message.flags message.user;
  workstation = units_of_text message.flags message.workstation;
  challenge = challenge_for_of agreed challenge message.lm message.nt;
  nt = message.nt;
  lm = message.lm;
}

abbrev pub with_channel : Logons → Requester → Logons
with_channel logons channel = record logons { channel = channel }

-- the logon of that place is kept until its outcome is told
abbrev pub with_logon : Logons → ℕ → Logon → Logons
with_logon logons place logon = record logons { asked = put same_number place logon logons.asked }

-- a logon waits; where as many wait as may, no controller will answer it. `Memory` is no answer of `ask_of`, and its
-- line says nothing
abbrev pub wait_by : Result ℕ AskRefused → Logons → Logon → Bound → Option RpcUnit → AtLink → Served
wait_by (Ok place) logons logon bound joiner at =
    stay (with_logons at (with_logon logons place logon)) (record { joiner = joiner; phase = phase.Asked bound place [] })
wait_by (Err ask_refused.QueueFull) logons logon bound joiner at =
    stay (tell (with_logons at logons) (action.Told at.link (outcome.NoController drop_cause.QueueFull)))
    (record { joiner = joiner; phase = phase.Out bound rpc_s_server_unavailable })
wait_by (Err ask_refused.Memory) logons logon bound joiner at = shut close.OutOfPlace at

abbrev pub wait_for : Asking → Logon → Bound → Option RpcUnit → AtLink → Served
wait_for asking logon bound joiner at = wait_by asking.answer (with_channel at.logons asking.state) logon bound joiner at

-- ---- the message

-- the controller is asked about an AUTHENTICATE that is fit
abbrev pub ask_by : (is_fit : Bool) (message : Authenticate) (agreed : ℕ) (challenge : List ℕ) (bound : Bound) (joiner : Option RpcUnit) (at : AtLink) → Served
ask_by false message agreed challenge bound joiner at = shut close.BadAuthentication at
ask_by true message agreed challenge bound joiner at =
    wait_for (ask_of at.logons.channel (info_of message agreed challenge))
    (record { link = at.link; challenge = challenge; message = message; agreed = agreed }) bound joiner at

abbrev pub take_message : Result Authenticate MessageRefused → Bound → List ℕ → ℕ → Option RpcUnit → AtLink → Served
take_message (Err why) bound challenge flags joiner at = shut close.BadAuthentication at
take_message (Ok message) bound challenge flags joiner at =
    ask_by (is_fit bound.level (agreed_flags flags message.flags) message) message (agreed_flags flags message.flags) challenge bound joiner at

-- an AUTHENTICATE is taken from a trailer of NTLM's
abbrev pub take_trailer : (is_ntlm : Bool) (trailer : Trailer) (bound : Bound) (challenge : List ℕ) (flags : ℕ) (joiner : Option RpcUnit) (at : AtLink) → Served
take_trailer false trailer bound challenge flags joiner at = shut close.OutOfPlace at
take_trailer true trailer bound challenge flags joiner at =
    take_message (authenticate_of trailer.value) bound challenge flags joiner at

-- an auth3
abbrev pub take_auth3 : Option Trailer → Bound → List ℕ → ℕ → Option RpcUnit → AtLink → Served
take_auth3 None bound challenge flags joiner at = shut close.OutOfPlace at
take_auth3 (Some trailer) bound challenge flags joiner at =
    take_trailer (trailer.kind == ntlm_provider) trailer bound challenge flags joiner at
