-- What a run leaves behind, as plain records: what each unit was made for, which calls were judged, which messages were
-- taken, what was told. Nothing here says how an end works. Moves, draws, links and units of the bag are numbered from
-- 0.
use Rattle.std.specs.Prelude.{ℕ, ◌==◌, ◌&&◌, Bool, false, List, [], Option, Some, None}
use Rattle.wire_base.specs.declared.authenticator.Authenticator.{Authenticator}
use Rattle.authenticators.specs.Channels.{ChannelIdentity}
use Rattle.authenticators.specs.SecureChannels.{SecureChannelState}
use Rattle.outside.specs.declared.action.Judged.{Judged}
use Rattle.outside.specs.declared.action.Outcome.{Outcome}
use Rattle.account_table.specs.AccountTable.{AccountTable}
use Rattle.interactive_logon.specs.declared.sessions.Session.{Session}
pub use Rattle.controller_calls.specs.Calls.{computer_named, given_in, IfNetwork}
use Rattle.controller_calls.specs.declared.calls.JudgedCall.{JudgedCall}
use Rattle.logon_client.specs.declared.plan.ClientPlan.{ClientPlan}
use Rattle.member_server.specs.declared.state.Logon.{Logon}
use Rattle.channel_events.specs.Marks.{Mark}

-- ---- units of the bag

-- a unit of the bag, and how many moves were made before the one at which it was sent
pub record Sent : Type 0 where
  pub mark : Mark
  pub at : ℕ

-- ---- where bytes came from

-- Where bytes came from that an end hears: in a unit of the bag, by its number, or from outside, where they are handed
-- in on a link.
pub data Source : Type 0 where
  InUnit : (number : ℕ) → Source
  Outside : Source

-- the unit of the bag in which they came, where they came in one
abbrev pub unit_in : Source → Option ℕ
unit_in (InUnit number) = Some number
unit_in Outside = None

-- ---- at a controller

-- the timestamp of an authenticator; 0 of none
abbrev pub timestamp_in : Option Authenticator → ℕ
timestamp_in None = 0
timestamp_in (Some given) = given.timestamp

-- A call that a controller heard and judged, also one that it handed on, with all that its answer rests on.
pub record Judging : Type 0 where
  -- the moves made before it
  pub at : ℕ
  -- which controller, and its name
  pub controller : ℕ
  pub name : List ℕ
  -- where the call's bytes came from
  pub source : Source
  -- the call's number, and what it asked
  pub number : ℕ
  pub asked : JudgedCall
  -- the channel that it is checked on, as it stood before: that of the computer that it names
  pub checks : Option SecureChannelState
  -- the accounts, the sessions, and the moment, before it was judged
  pub table : AccountTable
  pub sessions : List Session
  pub moment : ℕ
  -- how it was judged, as the controller told
  pub how : Option Judged
  -- the unit of the bag that carries the reply, where it went to an end of this world
  pub reply : Option ℕ

-- A call that a controller handed on to a trusted domain's controller: as it was judged, the link on which it came, and
-- of which trust it was asked, at which place there.
pub record Forward : Type 0 where
  pub judging : Judging
  pub link : ℕ
  pub trust : ℕ
  pub place : ℕ

-- A judgement that a controller told, whatever it is of.
pub record JudgementTold : Type 0 where
  pub at : ℕ
  pub controller : ℕ
  pub how : Judged

-- A channel that a controller accepted: a NetrServerAuthenticate2 opened it (MS-NRPC 3.5.4.4.3).
pub record ChannelAccepted : Type 0 where
  -- the moves made before it
  pub at : ℕ
  -- where the call's bytes came from, and its number
  pub source : Source
  pub number : ℕ
  -- the channel that it opened, which names the controller, and the type of the channel (2.2.1.3.13) that it named
  pub channel : ChannelIdentity
  pub kind : ℕ
  -- the unit of the bag that carries the reply, where it went to an end of this world
  pub reply : Option ℕ

-- ---- at a member

-- A CHALLENGE that a member sent on an accepted link (MS-NLMP 3.2.5.1.1).
pub record ChallengeSent : Type 0 where
  pub at : ℕ
  pub member : ℕ
  pub link : ℕ
  -- which draw of the run gave the challenge of 8 bytes, and the bytes of the message
  pub draw : ℕ
  pub challenge : List ℕ
  pub bytes : List ℕ

-- An AUTHENTICATE that a member took, for which a logon waits or waited (MS-NLMP 3.2.5.1.2).
pub record MessageTaken : Type 0 where
  pub at : ℕ
  pub member : ℕ
  pub link : ℕ
  -- the bytes of the message
  pub bytes : List ℕ
  -- the link, its challenge, the message and the agreed flags, as the member keeps them, and the place of the logon
  pub logon : Logon
  pub place : ℕ
  -- the unit of the bag that carries the Logon call of that place, once there is one
  pub call : Option ℕ
  -- the unit of the bag that the member took as the answer in the turn of that place, once it took one; without a clash
  -- it is that of the entry of `answers` for that call
  pub reply : Option ℕ

-- An outcome that a member told.
pub record OutcomeTold : Type 0 where
  pub at : ℕ
  pub member : ℕ
  pub link : ℕ
  pub outcome : Outcome

-- Who asks on secure channels: a member, by its number; or a controller, by its number, that asks the controller of a
-- domain that it trusts, by the number of the trust, in the order of its table.
pub data RequesterId : Type 0 where
  OfMember : (member : ℕ) → RequesterId
  OfTrust : (controller trust : ℕ) → RequesterId

abbrev pub same_requester : RequesterId → RequesterId → Bool
same_requester (OfMember one) (OfMember other) = one == other
same_requester (OfMember one) (OfTrust controller trust) = false
same_requester (OfTrust controller trust) (OfMember other) = false
same_requester (OfTrust controller trust) (OfTrust other there) = (controller == other) && (trust == there)

-- A turn of who asks on a channel that stands, whatever its call is: the channel and the timestamp of its
-- authenticator. The call is a NetrLogonSamLogon, or a NetrServerPasswordSet.
pub record ChannelTurn : Type 0 where
  pub requester : RequesterId
  pub channel : ChannelIdentity
  pub timestamp : ℕ

-- An answer that was taken, whoever asked and whatever: the unit of the bag that carries the call, and the one that was
-- taken as its answer.
pub record CallTaken : Type 0 where
  pub at : ℕ
  pub requester : RequesterId
  pub call : ℕ
  pub reply : ℕ

-- ---- at a station

-- A NetrLogonSamLogon that a station made, which logs its user on by the hash (MS-NRPC 3.5.4.5.3). A station makes one
-- in each of its lives.
pub record StationLogon : Type 0 where
  pub at : ℕ
  pub station : ℕ
  -- the link on which it went out, and the unit of the bag that carries it
  pub link : ℕ
  pub unit : ℕ
  -- the channel on which it was made, and its number
  pub channel : ChannelIdentity
  pub number : ℕ
  -- the unit of the bag that the station took as its answer, once it took one
  pub reply : Option ℕ

-- A station told that its user is in, with these names and that key.
pub record StationTold : Type 0 where
  pub at : ℕ
  pub station : ℕ
  pub link : ℕ
  pub domain : List ℕ
  pub user : List ℕ
  pub key : List ℕ

-- ---- at a client

-- An AUTHENTICATE that a client made for the CHALLENGE that it heard (MS-NLMP 3.1.5.1.2).
pub record MessageMade : Type 0 where
  pub at : ℕ
  pub client : ℕ
  pub link : ℕ
  pub plan : ClientPlan
  -- the bytes of the CHALLENGE and of the AUTHENTICATE
  pub challenge : List ℕ
  pub bytes : List ℕ
  -- the exported session key that it keeps
  pub key : List ℕ

-- ---- a run

pub record Book : Type 0 where
  -- one for each unit of the bag
  pub sent : List Sent
  -- the calls that were judged, those of them that were handed on and aren't answered yet, what controllers told of
  -- any, and the channels that they accepted, the newest first
  pub judged : List Judging
  pub forwards : List Forward
  pub judgements : List JudgementTold
  pub accepted : List ChannelAccepted
  -- what ends sent and took beside calls, in the order in which it happened
  pub challenges : List ChallengeSent
  -- the link of each AUTHENTICATE that a member took, also of one for which no place was free
  pub taken : List ℕ
  pub messages : List MessageTaken
  pub told : List OutcomeTold
  pub turns : List ChannelTurn
  pub answers : List CallTaken
  pub made : List MessageMade
  -- a credential passed on a unit that was made for another channel, or for none
  pub clash : Bool

-- before the first move
abbrev pub blank : Book
blank = record {
  sent = [];
  judged = [];
  forwards = [];
  judgements = [];
  accepted = [];
  challenges = [];
  taken = [];
  messages = [];
  told = [];
  turns = [];
  answers = [];
  made = [];
  clash = false;
}
