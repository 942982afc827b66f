-- What a controller sends when bytes come, as replies to the calls on secure channels that it judged (MS-NRPC
-- 3.5.4.4.6, 3.5.4.5.3, 3.5.4.5.4; what is claimed is this project's own choice, in the standard's terms).
use Rattle.std.specs.Prelude.{ℕ, ◌≡◌, Bool, true, false, List, [], ◌∷◌, Option, Some, None, Ok, map}
use Rattle.authenticators.specs.Channels.{ChannelIdentity}
use Rattle.authenticators.specs.Sequences.{return_of}
use Rattle.channel_keys.specs.Credentials.{cred_of}
use Rattle.wire_base.specs.declared.authenticator.Authenticator.{Authenticator}
use Rattle.authenticators.specs.SecureChannels.{SecureChannelState, key_of_channel}
use Rattle.outside.specs.declared.action.Action.{Action}
use Rattle.outside.specs.declared.action.Judged.TheVariants as judged
use Rattle.outside.specs.declared.event.Event.TheVariants as event
use Rattle.rpc_units.specs.Calls.{bytes_of_call}
use Rattle.logon_stubs.specs.declared.calls.LogonCall.{LogonCall}
use Rattle.logon_stubs.specs.declared.calls.Reply.{Reply}
use Rattle.logon_stubs.specs.declared.info.Verdict.{Verdict}
use Rattle.logon_stubs.specs.Writing.{written_reply}
use Rattle.end_links.specs.Sending.{response_of}
use Rattle.controller_calls.specs.Doing.{Done, done_by, reply_stub}
use Rattle.controller_calls.specs.Logons.{judge_info}
use Rattle.domain_controller.specs.ReadBack.{opened_reply, passed_reply}
use Rattle.domain_controller.specs.State.{State as ControllerState}
use Rattle.domain_controller.specs.Step.{step_of as controller_step}
use Rattle.channel_events.specs.Marks.{Mark, Plain, Opening, Opened, Calling, ReplyTo}
use Rattle.step_notes.specs.ChannelNames.{sends_in}
use Rattle.step_notes.specs.ControllerNotes.{Answered, Where, answer_on, units_of_controller}
use Rattle.step_notes.specs.Judged.{IsNextOn, passed_channel}
use Rattle.step_notes.specs.Records.{InUnit, Judging, Source, given_in}

-- ---- the reply to a call that passed

-- what the call comes to where it passes on that channel, by the accounts of its controller and at the moment of that
-- step
abbrev pub done_on : Judging → SecureChannelState → Done
done_on j channel = done_by j.asked channel j.name j.table j.moment j.sessions

-- the verdict on a network logon at that step; a level other than 2 and 3 isn't served
abbrev pub verdict_passed : Judging → LogonCall → Verdict
verdict_passed j c = (judge_info j.table j.name j.moment c.info c.validation).verdict

-- the stub of the reply, on a channel whose next authenticator the call has
abbrev pub stub_passed : Judging → SecureChannelState → Authenticator → List ℕ
stub_passed j channel given =
    reply_stub j.asked (key_of_channel channel) (return_of (key_of_channel channel) channel.seed given.timestamp) (done_on j channel)

-- the reply to a network logon, whose stub that is
abbrev pub reply_passed : Judging → LogonCall → SecureChannelState → Authenticator → Reply
reply_passed j c channel given =
    passed_reply (key_of_channel channel) (return_of (key_of_channel channel) channel.seed given.timestamp) c.validation (verdict_passed j c)

-- The call passed, with the status of that reply, and these bytes are all frames of the reply, under the call's number.
-- Which presentation context it names, and how long its frames are, isn't said.
pub record IsItsReply (j : Judging) (bytes : List ℕ) : Type 0 where
  pub next : IsNextOn j.checks (given_in j.asked)
  pub how : j.how ≡ Some (judged.Passed (done_on j next.channel).status)
  pub context : ℕ
  pub limit : ℕ
  pub frames : bytes ≡ bytes_of_call (response_of j.number context (stub_passed j next.channel next.given)) limit

-- The call came in that unit of the bag, passed on that channel and had that number, and these bytes are its reply.
pub record IsReplyOfCall (channel : ChannelIdentity) (number request : ℕ) (j : Judging) (bytes : List ℕ) : Type 0 where
  pub came : j.source ≡ InUnit request
  pub passed : passed_channel j ≡ Some channel
  pub call : j.number ≡ number
  pub carries : IsItsReply j bytes

-- The bytes are all frames of the reply that opens a channel (MS-NRPC 3.5.4.4.2), under that call's number: it has the
-- credential of a server challenge under some session key, and the flags that are granted of those offered.
pub record IsOpeningReply (number : ℕ) (bytes : List ℕ) : Type 0 where
  pub context : ℕ
  pub limit : ℕ
  pub key : List ℕ
  pub server : List ℕ
  pub offered : ℕ
  pub frames : bytes ≡ bytes_of_call (response_of number context (written_reply (opened_reply (cred_of key server) offered))) limit

-- ---- at one step

-- a unit that is marked as a reply carries that of the call that was judged, and one that is marked as the reply to an
-- opening is a reply that opens a channel, under the number of the mark; none is marked as a request
abbrev pub CarriesReply : Mark → Option Judging → List ℕ → Type 0
CarriesReply Plain j bytes = Unit {0}
CarriesReply (Opening channel number) j bytes = ⊥
CarriesReply (Opened channel number request) j bytes = IsOpeningReply number bytes
CarriesReply (Calling channel number timestamp) j bytes = ⊥
CarriesReply (ReplyTo channel number request) None bytes = ⊥
CarriesReply (ReplyTo channel number request) (Some j) bytes = IsReplyOfCall channel number request j bytes

-- if the unit sends something, the next of what was sent carries that, and `Later` holds of the rest
abbrev pub IsSentBy : (Carries : Mark → Option Judging → List ℕ → Type 0) (sends : Bool) (one : Answered) (sent : List (List ℕ)) (Later : List (List ℕ) → Type 0) → Type 0
IsSentBy Carries false one sent Later = Later sent
IsSentBy Carries true one [] Later = ⊥
IsSentBy Carries true one (bytes ∷ sent) Later = Carries one.mark one.judging bytes × Later sent

-- what was sent is, in order, what the units that send something come to, and nothing else
abbrev pub AreSentBy : (Mark → Option Judging → List ℕ → Type 0) → List Answered → List (List ℕ) → Type 0
AreSentBy Carries [] [] = Unit {0}
AreSentBy Carries [] (bytes ∷ sent) = ⊥
AreSentBy Carries (one ∷ answers) sent =
    IsSentBy Carries one.sends one sent (λ (rest : List (List ℕ)). AreSentBy Carries answers rest)

abbrev pub IsSentIf : Bool → Answered → List (List ℕ) → (List (List ℕ) → Type 0) → Type 0
IsSentIf sends one sent Later = IsSentBy CarriesReply sends one sent Later

abbrev pub AreSentFor : List Answered → List (List ℕ) → Type 0
AreSentFor answers sent = AreSentBy CarriesReply answers sent

-- where a controller stands as bytes come: after how many moves, at which controller, where they came from, under which
-- name and at which moment
abbrev pub standing_at : ℕ → ℕ → Source → ControllerState → ℕ → Where
standing_at at controller source c now = record { at = at; controller = controller; source = source; name = c.name; moment = now }

-- Whatever bytes come at a controller that asks nobody, and whoever sent them: it sends one unit of bytes for each unit
-- that is written down as answered, in their order. Each that is marked as a reply carries what its call came to, and
-- each that is marked as the reply to an opening is a reply that opens a channel, under its number. None is marked as a
-- request.
abbrev pub RepliesAreSentAsJudged : Type 0
RepliesAreSentAsJudged =
    (c : ControllerState) (at controller : ℕ) (source : Source) (link : ℕ) (piece : List ℕ) (now : ℕ) (left : List (List ℕ)) (actions : List Action) →
    (controller_step c (event.Bytes link piece) now left).answer ≡ Ok actions →
    AreSentFor
    (map (answer_on link (standing_at at controller source c now)) (units_of_controller c link piece now left))
    (sends_in actions)
