-- The ranges of what calls and replies hold: numbers of their width, texts of units, strings of bytes.
use Rattle.std.specs.Prelude.{ℕ, ◌≡◌, ◌+◌, ◌*◌, ◌^◌, ◌<◌, ◌≤◌, List, length}
use Rattle.std.specs.List.{AllByRecursion}
use Rattle.wire_base.specs.Numbers.{AreBytes}
use Rattle.wire_base.specs.Units.{AreUnits}
use Rattle.wire_base.specs.Sid.{SidParts, IsSid}
use Rattle.ndr_codec.specs.Parts.{IfThere, size_if_there}
use Rattle.wire_base.specs.declared.authenticator.Authenticator.{Authenticator}
use Rattle.logon_stubs.specs.declared.info.NetworkInfo.{NetworkInfo}
use Rattle.logon_stubs.specs.declared.info.SamInfo.{SamInfo}
use Rattle.logon_stubs.specs.declared.calls.ChallengeCall.{ChallengeCall}
use Rattle.logon_stubs.specs.declared.calls.ChallengeReply.{ChallengeReply}
use Rattle.logon_stubs.specs.declared.calls.AuthCall.{AuthCall}
use Rattle.logon_stubs.specs.declared.calls.AuthReply.{AuthReply}
use Rattle.logon_stubs.specs.declared.calls.LogonCall.{LogonCall}
use Rattle.logon_stubs.specs.declared.calls.LogonReply.{LogonReply}
use Rattle.logon_stubs.specs.declared.calls.LogoffCall.{LogoffCall}
use Rattle.logon_stubs.specs.declared.calls.LogoffReply.{LogoffReply}
use Rattle.logon_stubs.specs.declared.calls.Call.{Call}
use Rattle.logon_stubs.specs.declared.calls.Call.TheVariants as call
use Rattle.logon_stubs.specs.declared.calls.Reply.{Reply}
use Rattle.logon_stubs.specs.declared.calls.Reply.TheVariants as reply
use Rattle.logon_stubs.specs.Writing.{front_of, times_of, texts_of}

-- that many bytes
abbrev pub IsBlock : ℕ → List ℕ → Type 0
IsBlock count bytes = (length bytes ≡ count) × AreBytes bytes

pub record IsAuthenticator (value : Authenticator) : Type 0 where
  pub credential : IsBlock 8 value.credential
  pub timestamp : value.timestamp < 2 ^ 32

pub record InRangeNetworkInfo (info : NetworkInfo) : Type 0 where
  pub domain : AreUnits info.domain
  pub control : info.control < 2 ^ 32
  pub logon_id : info.logon_id < 2 ^ 64
  pub user : AreUnits info.user
  pub workstation : AreUnits info.workstation
  pub challenge : IsBlock 8 info.challenge
  pub nt : AreBytes info.nt
  pub lm : AreBytes info.lm

pub record InRangeChallengeCall (value : ChallengeCall) : Type 0 where
  pub primary : IfThere AreUnits value.primary
  pub computer : AreUnits value.computer
  pub challenge : IsBlock 8 value.challenge

pub record InRangeAuthCall (value : AuthCall) : Type 0 where
  pub primary : IfThere AreUnits value.primary
  pub account : AreUnits value.account
  pub channel : value.channel < 2 ^ 16
  pub computer : AreUnits value.computer
  pub credential : IsBlock 8 value.credential
  pub flags : value.flags < 2 ^ 32

pub record InRangeLogoffCall (value : LogoffCall) : Type 0 where
  pub server : IfThere AreUnits value.server
  pub computer : IfThere AreUnits value.computer
  pub authenticator : IfThere IsAuthenticator value.authenticator
  pub returned : IfThere IsAuthenticator value.returned
  pub info : InRangeNetworkInfo value.info

pub record InRangeLogonCall (value : LogonCall) : Type 0 where
  pub front : InRangeLogoffCall (front_of value)
  pub validation : value.validation < 2 ^ 16

abbrev pub InRangeCall : Call → Type 0
InRangeCall (call.Logon value) = InRangeLogonCall value
InRangeCall (call.Logoff value) = InRangeLogoffCall value
InRangeCall (call.Challenge value) = InRangeChallengeCall value
InRangeCall (call.Authenticate value) = InRangeAuthCall value

abbrev pub InRangeGroup : ℕ × ℕ → Type 0
InRangeGroup group = (group.0 < 2 ^ 32) × (group.1 < 2 ^ 32)

-- an identifier whose numbers have 32 bits
abbrev pub InRangeSid : SidParts → Type 0
InRangeSid sid = IsSid sid × AllByRecursion (λ n. n < 2 ^ 32) sid.numbers

-- an extra identifier and its attributes
abbrev pub InRangeExtra : SidParts × ℕ → Type 0
InRangeExtra extra = InRangeSid extra.0 × (extra.1 < 2 ^ 32)

pub record InRangeNumbers (info : SamInfo) : Type 0 where
  pub logon_count : info.logon_count < 2 ^ 16
  pub bad_count : info.bad_count < 2 ^ 16
  pub user_id : info.user_id < 2 ^ 32
  pub group_id : info.group_id < 2 ^ 32

pub record InRangeSamInfo (info : SamInfo) : Type 0 where
  pub times : AllByRecursion (λ n. n < 2 ^ 64) (times_of info)
  pub texts : AllByRecursion AreUnits (texts_of info)
  pub numbers : InRangeNumbers info
  pub groups : AllByRecursion InRangeGroup info.groups
  pub user_flags : info.user_flags < 2 ^ 32
  pub key : IsBlock 16 info.key
  pub server : AreUnits info.server
  pub domain : AreUnits info.domain
  pub sid : InRangeSid info.sid
  pub extra : AllByRecursion InRangeExtra info.extra

pub record InRangeLogonReply (value : LogonReply) : Type 0 where
  pub returned : IfThere IsAuthenticator value.returned
  pub level : value.level < 2 ^ 16
  pub info : IfThere InRangeSamInfo value.info
  pub authoritative : value.authoritative < 2 ^ 8
  pub status : value.status < 2 ^ 32

pub record InRangeLogoffReply (value : LogoffReply) : Type 0 where
  pub returned : IfThere IsAuthenticator value.returned
  pub status : value.status < 2 ^ 32

pub record InRangeChallengeReply (value : ChallengeReply) : Type 0 where
  pub challenge : IsBlock 8 value.challenge
  pub status : value.status < 2 ^ 32

pub record InRangeAuthReply (value : AuthReply) : Type 0 where
  pub credential : IsBlock 8 value.credential
  pub flags : value.flags < 2 ^ 32
  pub status : value.status < 2 ^ 32

abbrev pub InRangeReply : Reply → Type 0
InRangeReply (reply.Logon value) = InRangeLogonReply value
InRangeReply (reply.Logoff value) = InRangeLogoffReply value
InRangeReply (reply.Challenge value) = InRangeChallengeReply value
InRangeReply (reply.Authenticate value) = InRangeAuthReply value

-- ---- what the number of bytes of a stub depends on

-- the bytes of the units of a text
abbrev pub bytes_of_text : List ℕ → ℕ
bytes_of_text text = 2 * length text

-- the bytes of the texts and of the responses of a logon
abbrev pub logon_content : NetworkInfo → ℕ
logon_content info = bytes_of_text info.domain + bytes_of_text info.user + bytes_of_text info.workstation + length info.nt + length info.lm

-- the bytes of the texts of a call, and of the responses of its logon
abbrev pub call_content : Call → ℕ
call_content (call.Logon value) = size_if_there bytes_of_text value.server + size_if_there bytes_of_text value.computer + logon_content value.info
call_content (call.Logoff value) = size_if_there bytes_of_text value.server + size_if_there bytes_of_text value.computer + logon_content value.info
call_content (call.Challenge value) = size_if_there bytes_of_text value.primary + bytes_of_text value.computer
call_content (call.Authenticate value) = size_if_there bytes_of_text value.primary + bytes_of_text value.account + bytes_of_text value.computer

-- texts of at most 64 units
pub record HasShortTexts (info : SamInfo) : Type 0 where
  pub effective_name : length info.effective_name ≤ 64
  pub full_name : length info.full_name ≤ 64
  pub script : length info.script ≤ 64
  pub profile : length info.profile ≤ 64
  pub home : length info.home ≤ 64
  pub home_drive : length info.home_drive ≤ 64
  pub server : length info.server ≤ 64
  pub domain : length info.domain ≤ 64

abbrev pub IsShortReply : Reply → Type 0
IsShortReply (reply.Logon value) = IfThere HasShortTexts value.info
IsShortReply (reply.Logoff value) = Unit {0}
IsShortReply (reply.Challenge value) = Unit {0}
IsShortReply (reply.Authenticate value) = Unit {0}

-- The most bytes of what is told of a user in short texts: 581 of its fields of fixed width and of what stands before
-- each text and list, with the gaps between them; eight texts of 64 units of 2 bytes; 256 groups of 14 bytes, and 256
-- extra identifiers of 89.
abbrev pub short_info_limit : ℕ
short_info_limit = 581 + 8 * (2 * 64) + 256 * 14 + 256 * 89

-- The most bytes of a short reply: what is told, and 42 of the authenticator that is returned, the level, the status,
-- and gaps.
abbrev pub short_reply_limit : ℕ
short_reply_limit = 42 + short_info_limit
