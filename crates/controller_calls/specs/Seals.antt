-- What a controller keeps to open and to seal units of computers' channels, and how a reply is sealed (MS-NRPC 3.1.4.1,
-- 3.3.4.2; MS-RPCE 2.2.2.11; that openings are counted is this project's own choice). Computers' names are compared
-- without case. A key has 16 bytes, a confounder 8.
use Rattle.std.specs.Prelude.{ℕ, ◌≡◌, ◌+◌, ◌%◌, ◌^◌, ◌==◌, ◌&&◌, Bool, true, false, List, [], Option, Some, None, is_none, Result, Ok, Err}
use Rattle.std.specs.Option.{option_map}
use Rattle.wire_base.specs.Maps.{IsMap, lookup, put, take_out}
use Rattle.wire_base.specs.Names.{same_name}
use Rattle.ntlm_flags.specs.Flags.{has_flag}
use Rattle.channel_keys.specs.Flags.{secure_rpc_flag}
use Rattle.netlogon_seal.specs.declared.refusal.NlRefused.{NlRefused}
use Rattle.netlogon_seal.specs.Channels.{NlState, Opening, last_number, nl_state_of, open_of}
use Rattle.channel_sealing.specs.Frames.{SealedFrames, seal_all}
use Rattle.channel_sealing.specs.Names.{Texts}
use Rattle.channel_sealing.specs.Trailers.{sealed_limit, with_room}
use Rattle.end_links.specs.Sending.{frames_of, joined_frames, response_of}
use Rattle.controller_calls.specs.declared.line.Line.{Line}
use Rattle.controller_calls.specs.declared.seals.ChannelSeals.{ChannelSeals}
use Rattle.controller_calls.specs.declared.seals.KeptSeal.{KeptSeal}
use Rattle.controller_calls.specs.declared.seals.LinkSeal.{LinkSeal}
use Rattle.controller_calls.specs.declared.seals.ReplySeal.{ReplySeal}

-- ---- channels that open

-- at first
abbrev pub no_seals : ChannelSeals
no_seals = record { openings = 0; kept = [] }

-- a channel seals where secure RPC was granted
abbrev pub is_secure : (flags : ℕ) → Bool
is_secure flags = has_flag flags secure_rpc_flag

-- the end of a channel that seals begins anew; one that doesn't has none
abbrev pub keep_if : (seals : Bool) (computer key : List ℕ) (opening : ℕ) (kept : List (List ℕ × KeptSeal)) → List (List ℕ × KeptSeal)
keep_if false computer key opening kept = take_out same_name computer kept
keep_if true computer key opening kept =
    put same_name computer (record { opening = opening; seal = nl_state_of key false }) kept

-- once a channel of the computer was opened, of that key, which seals or doesn't
abbrev pub after_opening : (seals : Bool) (computer key : List ℕ) (kept : ChannelSeals) → ChannelSeals
after_opening seals computer key s = record {
  openings = (s.openings + 1) % 2 ^ 64;
  kept = keep_if seals computer key s.openings s.kept;
}

-- ---- the channel that a link belongs to

abbrev pub is_of : (opening : ℕ) (found : Option KeptSeal) → Bool
is_of opening None = false
is_of opening (Some kept) = kept.opening == opening

-- whether a link's seal stands: no other channel was opened for that computer since the link's bind
abbrev pub stands : LinkSeal → ChannelSeals → Bool
stands link seals = is_of link.opening (lookup same_name link.computer seals.kept)

-- A call that names that computer came on a link of its channel: on one that isn't sealed where the channel doesn't
-- seal, and on a sealed one where that is of this computer and its channel stands.
abbrev pub is_on : Option LinkSeal → (computer : List ℕ) (seals : ChannelSeals) → Bool
is_on None computer seals = is_none (lookup same_name computer seals.kept)
is_on (Some link) computer seals = same_name computer link.computer && stands link seals

-- one that names none is refused anyway
abbrev pub belongs : Option LinkSeal → (named : Option (List ℕ)) (seals : ChannelSeals) → Bool
belongs link None seals = true
belongs link (Some computer) seals = is_on link computer seals

-- ---- the channel that a bind seals its link by

-- which opening the computer's channel is of, where it seals
abbrev pub opening_kept : (computer : List ℕ) → ChannelSeals → Option ℕ
opening_kept computer seals = option_map (λ (kept : KeptSeal). kept.opening) (lookup same_name computer seals.kept)

abbrev pub link_by : (opening : Option ℕ) (computer : List ℕ) (context receive : ℕ) → Option LinkSeal
link_by None computer context receive = None
link_by (Some opening) computer context receive =
    Some (record { computer = computer; opening = opening; context = context; receive = receive })

-- by the names that the bind tells, the domain's and the computer's, of which the domain's isn't looked at; the link
-- isn't sealed where none are told, or the computer's channel doesn't seal
abbrev pub link_bound : (names : Option Texts) (context receive : ℕ) → ChannelSeals → Option LinkSeal
link_bound None context receive seals = None
link_bound (Some names) context receive seals = link_by (opening_kept names.1 seals) names.1 context receive

-- ---- the channel's end, moved on

abbrev pub with_end : (computer : List ℕ) (kept : KeptSeal) (end : NlState) (seals : ChannelSeals) → ChannelSeals
with_end computer kept end seals =
    record seals { kept = put same_name computer (record kept { seal = end }) (take_out same_name computer seals.kept) }

-- ---- a request that is opened

-- the bytes of the unit then, or None where the channel's end refuses; and what is kept
pub record OpenedUnit : Type 0 where
  pub bytes : Option (List ℕ)
  pub seals : ChannelSeals

abbrev pub opened_bytes : Result Unit NlRefused → (unit : List ℕ) → Option (List ℕ)
opened_bytes (Ok done) unit = Some unit
opened_bytes (Err why) unit = None

abbrev pub bytes_if : (is_done : Bool) (unit : List ℕ) → Option (List ℕ)
bytes_if false unit = None
bytes_if true unit = Some unit

-- a refusal leaves the end
abbrev pub opened_as : Opening → LinkSeal → KeptSeal → ChannelSeals → OpenedUnit
opened_as opening link kept seals =
    record { bytes = opened_bytes opening.answer opening.unit; seals = with_end link.computer kept opening.state seals }

-- from one place of the unit to before the other
abbrev pub open_found : Option KeptSeal → LinkSeal → (unit : List ℕ) (from to : ℕ) (seals : ChannelSeals) → OpenedUnit
open_found None link unit from to seals = record { bytes = None; seals = seals }
open_found (Some kept) link unit from to seals = opened_as (open_of kept.seal unit from to) link kept seals

abbrev pub open_unit : LinkSeal → (unit : List ℕ) (from to : ℕ) (seals : ChannelSeals) → OpenedUnit
open_unit link unit from to seals = open_found (lookup same_name link.computer seals.kept) link unit from to seals

-- ---- a reply that is sealed

-- the frames of the reply, with room for signatures
abbrev pub reply_frames : LinkSeal → Line → (stub : List ℕ) → List (List ℕ)
reply_frames link line stub =
    frames_of (with_room link.context (response_of line.call line.context stub)) (sealed_limit link.receive)

-- the bytes that are sent, or None where the numbers of the channel's end are used up; and what is kept then
pub record SealedReply : Type 0 where
  pub bytes : Option (List ℕ)
  pub seals : ChannelSeals

-- none where the numbers of the channel's end are used up, which stands at its last number then: the frames before were
-- sealed, and aren't sent
abbrev pub reply_bytes : Option SealedFrames → Option (List ℕ)
reply_bytes None = None
reply_bytes (Some sealed) = Some (joined_frames sealed.frames)

abbrev pub reply_end : Option SealedFrames → NlState → NlState
reply_end None end = record end { sent = last_number }
reply_end (Some sealed) end = sealed.seal

abbrev pub sealed_reply : Option SealedFrames → LinkSeal → KeptSeal → ChannelSeals → SealedReply
sealed_reply sealed link kept seals =
    record { bytes = reply_bytes sealed; seals = with_end link.computer kept (reply_end sealed kept.seal) seals }

-- without a channel that stands there is none
abbrev pub seal_found : Option KeptSeal → ReplySeal → Line → (stub : List ℕ) (seals : ChannelSeals) → SealedReply
seal_found None reply line stub seals = record { bytes = None; seals = seals }
seal_found (Some kept) reply line stub seals =
    sealed_reply (seal_all kept.seal reply.confounder (reply_frames reply.link line stub)) reply.link kept seals

abbrev pub seal_reply : ReplySeal → Line → (stub : List ℕ) (seals : ChannelSeals) → SealedReply
seal_reply reply line stub seals =
    seal_found (lookup same_name reply.link.computer seals.kept) reply line stub seals

-- ---- laws

-- A link whose channel doesn't stand is one of a channel that was replaced. It stays so, whatever channel opens next,
-- also one with the same challenges, until its number comes again, after 2^64 openings. Each channel that opens
-- replaces the one of before, whether it seals or not; what is opened and sealed replaces none. A computer has one
-- channel.
pub record ReplacedStay : Type 0 where
  pub opens : (link : LinkSeal) (secure : Bool) (computer key : List ℕ) (seals : ChannelSeals) → IsMap same_name seals.kept → stands link seals ≡ false →
      (seals.openings == link.opening) ≡ false → stands link (after_opening secure computer key seals) ≡ false
  pub replaces : (link : LinkSeal) (secure : Bool) (computer key : List ℕ) (seals : ChannelSeals) → IsMap same_name seals.kept →
      same_name computer link.computer ≡ true → (seals.openings == link.opening) ≡ false →
      stands link (after_opening secure computer key seals) ≡ false
  pub others : (link : LinkSeal) (secure : Bool) (computer key : List ℕ) (seals : ChannelSeals) → same_name computer link.computer ≡ false →
      stands link (after_opening secure computer key seals) ≡ stands link seals
  pub moves : (link : LinkSeal) (computer : List ℕ) (kept : KeptSeal) (end : NlState) (seals : ChannelSeals) →
      lookup same_name computer seals.kept ≡ Some kept → stands link (with_end computer kept end seals) ≡ stands link seals
  pub map : (secure : Bool) (computer key : List ℕ) (seals : ChannelSeals) → IsMap same_name seals.kept →
      IsMap same_name (after_opening secure computer key seals).kept
