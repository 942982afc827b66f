-- How the outcome of a logon reaches its link (MS-NLMP 3.2.5.1.2; how it is told is this project's own choice).
use Rattle.std.specs.Prelude.{ℕ, ◌==◌, Bool, true, false, List, [], ◌∷◌, ◌++◌, Option, Some, None}
use Rattle.outside.specs.declared.action.Action.{Action}
use Rattle.outside.specs.declared.action.Action.TheVariants as action
use Rattle.outside.specs.declared.action.Outcome.{Outcome}
use Rattle.outside.specs.declared.action.Outcome.TheVariants as outcome
use Rattle.wire_base.specs.Maps.{lookup, put, take_out, same_number}
use Rattle.ntlm_flags.specs.Flags.{has_flag, negotiate_extended_sessionsecurity}
use Rattle.ntlm_responses.specs.Keys.{exchange_key_of, exported_key_of}
use Rattle.ntlm_seal.specs.declared.side.Side.TheVariants.{Server}
use Rattle.ntlm_seal.specs.Sessions.{SessionState, session_of}
use Rattle.logon_stubs.specs.declared.info.SamInfo.{SamInfo}
use Rattle.rpc_units.specs.Numbers.{error_access_denied, rpc_s_server_unavailable}
use Rattle.end_links.specs.Links.{LinkState}
use Rattle.member_server.specs.declared.outcomes.Ending.{Ending}
use Rattle.member_server.specs.declared.outcomes.Ending.TheVariants as ending
use Rattle.member_server.specs.declared.state.AtLink.{AtLink}
use Rattle.member_server.specs.declared.state.Bound.{Bound}
use Rattle.member_server.specs.declared.state.Logon.{Logon}
use Rattle.member_server.specs.declared.state.Phase.{Phase}
use Rattle.member_server.specs.declared.state.Phase.TheVariants as phase
use Rattle.member_server.specs.declared.state.Talk.{Talk}
use Rattle.member_server.specs.declared.state.Work.{Work}
use Rattle.member_server.specs.Units.{serve_held}
use Rattle.member_server.specs.Work.{Served}

-- ---- actions and links of a member at work

abbrev pub tell_at : Work → Action → Work
tell_at work what = record work { actions = work.actions ++ what ∷ [] }

abbrev pub without_link : ℕ → Work → Work
without_link number work = record work { links = take_out same_number number work.links }

abbrev pub with_link : ℕ → LinkState Talk → Work → Work
with_link number link work = record work { links = put same_number number link work.links }

-- at work on a link of that number, and after it
abbrev pub at_link : ℕ → Work → AtLink
at_link number work = record { link = number; logons = work.logons; actions = work.actions }

abbrev pub after_link : AtLink → Work → Work
after_link at work = record work { logons = at.logons; actions = at.actions }

-- the link is put back, with this rest of its stream, where it stays open
abbrev pub keep_link : Option Talk → List ℕ → ℕ → Work → Work
keep_link None rest number work = work
keep_link (Some talk) rest number work = with_link number (record { rest = rest; talk = talk }) work

abbrev pub after_served : Served → List ℕ → ℕ → Work → Work
after_served served rest number work = keep_link served.1 rest number (after_link served.0 work)

-- ---- what is known of a user who is let in

-- the domain, a backslash and the user
abbrev pub name_in : SamInfo → List ℕ
name_in info = info.domain ++ 0x5C ∷ info.effective_name

-- the key exchange key, of the session base key that the controller granted
abbrev pub exchange_in : SamInfo → Logon → List ℕ
exchange_in info logon = exchange_key_of info.key logon.agreed logon.challenge logon.message.lm logon.message.nt

-- the exported session key where there is one, else the exchange key; a message without one isn't asked
abbrev pub key_or : List ℕ → Option (List ℕ) → List ℕ
key_or exchange None = exchange
key_or exchange (Some key) = key

-- the exported session key
abbrev pub key_in : SamInfo → Logon → List ℕ
key_in info logon =
    key_or (exchange_in info logon) (exported_key_of (exchange_in info logon) logon.agreed logon.message.key)

-- the session that signs and seals, where extended session security is agreed
abbrev pub session_by : (is_extended : Bool) (key : List ℕ) (agreed : ℕ) → Option SessionState
session_by false key agreed = None
session_by true key agreed = Some (session_of key agreed Server)

abbrev pub session_in : List ℕ → ℕ → Option SessionState
session_in key agreed = session_by (has_flag agreed negotiate_extended_sessionsecurity) key agreed

-- ---- an outcome, and how far a link is that waited for it

abbrev pub outcome_of : Ending → Logon → Outcome
outcome_of (ending.Granted info) logon = outcome.In info.domain info.effective_name (key_in info logon)
outcome_of (ending.Refused status) logon = outcome.Out status
outcome_of (ending.NoController cause) logon = outcome.NoController cause

abbrev pub phase_after : Ending → Logon → Bound → Phase
phase_after (ending.Granted info) logon bound = phase.In (record {
  bound = bound;
  name = name_in info;
  key = key_in info logon;
  session = session_in (key_in info logon) logon.agreed;
})
phase_after (ending.Refused status) logon bound = phase.Out bound error_access_denied
phase_after (ending.NoController cause) logon bound = phase.Out bound rpc_s_server_unavailable

-- ---- the link

abbrev pub waiting_if : Bool → Bound → List (List ℕ) → Option (Bound × List (List ℕ))
waiting_if false bound held = None
waiting_if true bound held = Some (bound, held)

-- what is bound and held on a link that waits for the logon of this place
abbrev pub waiting_at : ℕ → Phase → Option (Bound × List (List ℕ))
waiting_at place phase.Fresh = None
waiting_at place (phase.Challenged bound challenge flags) = None
waiting_at place (phase.Asked bound other held) = waiting_if (other == place) bound held
waiting_at place (phase.In on) = None
waiting_at place (phase.Out bound status) = None

abbrev pub waiting_on : ℕ → Option (LinkState Talk) → Option (Bound × List (List ℕ))
waiting_on place None = None
waiting_on place (Some link) = waiting_at place link.talk.phase

-- a link that waits, and is out of the map, is in or out, and then what is held is served as it would be now
abbrev pub reach_waiting : Bound × List (List ℕ) → LinkState Talk → Ending → Logon → Work → Work
reach_waiting waits link how logon work =
    after_served (serve_held waits.1 (at_link logon.link work) (record { joiner = link.talk.joiner; phase = phase_after how logon waits.0 }))
    link.rest logon.link work

-- a link that is out of the map, where it waits, is in or out, and what is held is served; else nothing is done
abbrev pub reach_alone : Option (Bound × List (List ℕ)) → LinkState Talk → Ending → Logon → Work → Work
reach_alone None link how logon work = work
reach_alone (Some waits) link how logon work = reach_waiting waits link how logon work

-- any other link stays as it is
abbrev pub reach_in_map : Option (Bound × List (List ℕ)) → LinkState Talk → Ending → Logon → Work → Work
reach_in_map None link how logon work = work
reach_in_map (Some waits) link how logon work = reach_waiting waits link how logon (without_link logon.link work)

abbrev pub reach_link : Option (LinkState Talk) → ℕ → Ending → Logon → Work → Work
reach_link None place how logon work = work
reach_link (Some link) place how logon work = reach_in_map (waiting_at place link.talk.phase) link how logon work

-- ---- the outcome of the logon of a place: it is told, also where its link has closed, and reaches the link where that
-- still waits for this place

abbrev pub without_logon : ℕ → Work → Work
without_logon place work =
    record work { logons = record work.logons { asked = take_out same_number place work.logons.asked } }

abbrev pub tell_outcome : Ending → Logon → Work → Work
tell_outcome how logon work = tell_at work (action.Told logon.link (outcome_of how logon))

abbrev pub end_found : Option Logon → ℕ → Ending → Work → Work
end_found None place how work = work
end_found (Some logon) place how work =
    reach_link (lookup same_number logon.link work.links) place how logon (tell_outcome how logon work)

abbrev pub end_logon : ℕ → Ending → Work → Work
end_logon place how work =
    end_found (lookup same_number place work.logons.asked) place how (without_logon place work)
