-- What a controller that may hand logons on sends when bytes come on an accepted link, as replies to the calls on
-- secure channels that it judged (MS-NRPC 3.5.4.4.6, 3.5.4.5.3, 3.5.4.5.4; what is claimed is this project's own
-- choice, in the standard's terms).
use Rattle.std.specs.Prelude.{ℕ, ◌≡◌, ◌⊎◌, true, false, List, Option, Some, None, Ok}
use Rattle.authenticators.specs.Channels.{ChannelIdentity}
use Rattle.authenticators.specs.Sequences.{return_of}
use Rattle.authenticators.specs.SecureChannels.{SecureChannelState, key_of_channel}
use Rattle.wire_base.specs.declared.authenticator.Authenticator.{Authenticator}
use Rattle.account_table.specs.LookUps.{route_in}
use Rattle.account_table.specs.declared.table.Route.TheVariants as route
use Rattle.outside.specs.declared.action.Action.{Action}
use Rattle.outside.specs.declared.action.Judged.TheVariants as judged
use Rattle.outside.specs.declared.event.Event.TheVariants as event
use Rattle.rpc_units.specs.Calls.{bytes_of_call}
use Rattle.logon_stubs.specs.Status.{no_logon_servers}
use Rattle.logon_stubs.specs.Writing.{written_reply}
use Rattle.logon_stubs.specs.declared.info.NetworkInfo.{NetworkInfo}
use Rattle.logon_stubs.specs.declared.info.Verdict.TheVariants.{Status}
use Rattle.end_links.specs.Sending.{response_of}
use Rattle.channel_turns.specs.Turning.{is_on}
use Rattle.controller_calls.specs.Calls.{asked_of}
use Rattle.controller_calls.specs.Handing.{hands_on}
use Rattle.controller_calls.specs.Logons.{reply_to, serves_level}
use Rattle.controller_calls.specs.declared.calls.Asked.TheVariants as asked
use Rattle.domain_controller.specs.State.{State as ControllerState}
use Rattle.domain_controller.specs.TrustStep.{trust_step_of}
use Rattle.channel_events.specs.Marks.{Mark, Plain, Opening, Opened, Calling, ReplyTo}
use Rattle.step_notes.specs.ChannelNames.{sends_in}
use Rattle.step_notes.specs.Judged.{IsNextOn, passed_channel}
use Rattle.step_notes.specs.Records.{InUnit, Judging, Source, given_in}
use Rattle.step_notes.specs.ReplySends.{AreSentBy, IsOpeningReply, IsReplyOfCall, standing_at}
use Rattle.step_notes.specs.TrustNotes.{trust_answers_of}

-- ---- the reply to a logon that could be asked of nobody

-- the stub of the reply at that validation level, on a channel whose next authenticator the call has
abbrev pub stub_unasked : SecureChannelState → Authenticator → ℕ → List ℕ
stub_unasked channel given validation =
    written_reply
    (reply_to (Status no_logon_servers) validation (key_of_channel channel)
    (return_of (key_of_channel channel) channel.seed given.timestamp))

-- The call is a network logon for a domain that the table trusts, on a channel of a type that hands on, and asks for a
-- level that is served. It passed with NO_LOGON_SERVERS, and these bytes are all frames of the reply with that status,
-- under the call's number.
pub record IsUnaskedReply (j : Judging) (bytes : List ℕ) : Type 0 where
  pub next : IsNextOn j.checks (given_in j.asked)
  pub how : j.how ≡ Some (judged.Passed no_logon_servers)
  pub info : NetworkInfo
  pub validation : ℕ
  pub asks : asked_of j.asked ≡ asked.Network info validation
  pub kind : hands_on next.channel.kind ≡ true
  pub level : serves_level validation ≡ true
  pub trust : ℕ
  pub routed : route_in j.table info.domain ≡ route.Trust trust
  pub context : ℕ
  pub limit : ℕ
  pub frames : bytes ≡ bytes_of_call (response_of j.number context (stub_unasked next.channel next.given validation)) limit

-- The call came in that unit of the bag, passed on that channel and had that number, and these bytes are its reply.
pub record IsReplyOfUnasked (channel : ChannelIdentity) (number request : ℕ) (j : Judging) (bytes : List ℕ) : Type 0 where
  pub came : j.source ≡ InUnit request
  pub passed : passed_channel j ≡ Some channel
  pub call : j.number ≡ number
  pub carries : IsUnaskedReply j bytes

-- ---- at one step

-- a unit that is marked as a reply carries the reply to the call that was judged, or to one that could be asked of
-- nobody; a unit that is marked as the reply to an opening is the reply that opens a channel; none is marked as a
-- request
abbrev pub CarriesTrustReply : Mark → Option Judging → List ℕ → Type 0
CarriesTrustReply Plain j bytes = Unit {0}
CarriesTrustReply (Opening channel number) j bytes = ⊥
CarriesTrustReply (Opened channel number request) j bytes = IsOpeningReply number bytes
CarriesTrustReply (Calling channel number timestamp) j bytes = ⊥
CarriesTrustReply (ReplyTo channel number request) None bytes = ⊥
CarriesTrustReply (ReplyTo channel number request) (Some j) bytes =
    IsReplyOfCall channel number request j bytes ⊎ IsReplyOfUnasked channel number request j bytes

-- Whatever bytes come on an accepted link of a controller that may hand logons on, and whoever sent them: it sends one
-- unit of bytes for each unit that is written down as answered then, in their order, and each is what its mark says. A
-- call that is handed on isn't answered then.
abbrev pub TrustRepliesAreSent : Type 0
TrustRepliesAreSent =
    (c : ControllerState) (at controller : ℕ) (source : Source) (link : ℕ) (piece : List ℕ) (now : ℕ) (left : List (List ℕ)) (actions : List Action) →
    is_on link c.trusting.dialling ≡ false → (trust_step_of c (event.Bytes link piece) now left).answer ≡ Ok actions →
    AreSentBy CarriesTrustReply (trust_answers_of link (standing_at at controller source c now) c piece now left) (sends_in actions)
