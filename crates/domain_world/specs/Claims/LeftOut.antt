-- That what is written down of a member's step for bytes leaves no CHALLENGE out that answers a bind, and no
-- AUTHENTICATE for which a logon then waits (MS-NLMP 3.2.5.1.1, 3.2.5.1.2), also where it closes the link in that step.
-- What the law says is this project's own choice.
use Rattle.std.specs.Prelude.{ℕ, ◌≡◌, ◌≤◌, ◌⊎◌, List, [], ◌∷◌, ◌++◌, flat_map, length, map, Option, Some, None, Ok, Err}
use Rattle.std.specs.List.{AllByRecursion}
use Rattle.wire_base.specs.Maps.{lookup, same_number}
use Rattle.outside.specs.declared.action.Action.{Action}
use Rattle.outside.specs.declared.action.Action.TheVariants as action
use Rattle.outside.specs.declared.action.CloseCause.{CloseCause}
use Rattle.outside.specs.declared.action.DropCause.TheVariants as drop_cause
use Rattle.outside.specs.declared.action.Outcome.TheVariants as outcome
use Rattle.outside.specs.declared.event.Event.TheVariants as event
use Rattle.ntlm_messages.specs.Challenge.{written_challenge}
use Rattle.rpc_units.specs.declared.unit.Body.{Body}
use Rattle.rpc_units.specs.declared.unit.Body.TheVariants.{BindAck}
use Rattle.rpc_units.specs.declared.unit.Trailer.{Trailer}
use Rattle.rpc_units.specs.declared.unit.Unit.{Unit as RpcUnit}
use Rattle.rpc_units.specs.Numbers.{ntlm_provider}
use Rattle.rpc_units.specs.Writing.{written}
use Rattle.end_links.specs.Binding.{nak_of}
use Rattle.end_links.specs.Serving.{ServedPart, ServedUnit}
use Rattle.member_server.specs.Binds.{challenge_message}
use Rattle.member_server.specs.Machine.{step_of}
use Rattle.member_server.specs.State.{State as MemberState}
use Rattle.member_server.specs.declared.state.AtLink.{AtLink}
use Rattle.member_server.specs.declared.state.Phase.{Phase}
use Rattle.member_server.specs.declared.state.Phase.TheVariants as phase
use Rattle.member_server.specs.declared.state.Talk.{Talk}
use Rattle.wire_base.specs.Lists.{OneOf}
use Rattle.step_notes.specs.MemberNotes.{LinkAt, challenge_note, link_units, message_in, message_note, next_draw, taken_link}
use Rattle.step_notes.specs.Records.{ChallengeSent, MessageTaken}

-- ---- the challenges that are drawn

abbrev pub challenges_in : List ChallengeSent → List (List ℕ)
challenges_in sent = map (λ (one : ChallengeSent). one.challenge) sent

-- what a unit draws is those of its CHALLENGEs, in order
abbrev pub DrawsFor : List (List ℕ) → List ChallengeSent → ServedPart AtLink Talk → Type 0
DrawsFor left sent (Err why) = Unit {0}
DrawsFor left sent (Ok part) = left ≡ challenges_in sent ++ part.left

abbrev pub IsDial : Action → Type 0
IsDial (action.Dial peer) = Unit {0}
IsDial _ = ⊥

-- what a step draws is those of its CHALLENGEs, in order, and behind them at most one more: only where it dials, for
-- the next turn
pub record AreDrawnFor (sent : List ChallengeSent) (actions : List Action) (drawn : List (List ℕ)) : Type 0 where
  pub own : List (List ℕ)
  pub is : drawn ≡ challenges_in sent ++ own
  pub few : length own ≤ 1
  pub dials : (own ≡ []) ⊎ OneOf IsDial actions

-- ---- what is done of a unit

-- that action is the one that the unit adds
abbrev pub Does : AtLink → AtLink → Action → Type 0
Does before after what = after.actions ≡ before.actions ++ what ∷ []

-- the link is closed
abbrev pub IsShut : AtLink → AtLink → Type 0
IsShut before after = (cause : CloseCause) × Does before after (action.Close before.link cause)

abbrev pub IsAck : Body → Type 0
IsAck (BindAck send receive group results) = Unit {0}
IsAck _ = ⊥

-- the bytes are a bind_ack whose trailer carries that CHALLENGE of this member, link and moment
pub record CarriesIt (w : LinkAt) (before : AtLink) (left : List (List ℕ)) (bytes : List ℕ) (sent : ChallengeSent) : Type 0 where
  pub ack : RpcUnit
  pub trailer : Trailer
  pub flags : ℕ
  pub is : bytes ≡ written ack
  pub kind : IsAck ack.body
  pub has : ack.trailer ≡ Some trailer
  pub provider : trailer.kind ≡ ntlm_provider
  pub value : trailer.value ≡ sent.bytes
  pub message : sent.bytes ≡ written_challenge (challenge_message flags before.logons.plan sent.challenge)
  pub at : sent.at ≡ w.at
  pub member : sent.member ≡ w.member
  pub link : sent.link ≡ w.link
  pub draw : sent.draw ≡ next_draw w left

-- The CHALLENGE that is written down goes out. Where none is written down, a bind_nak goes out, or the link is closed.
abbrev pub Answers : LinkAt → List (List ℕ) → List ChallengeSent → AtLink → AtLink → Type 0
Answers w left [] before after = IsShut before after ⊎ ((call : ℕ) × Does before after (action.Send before.link (written (nak_of call))))
Answers w left (one ∷ []) before after = (bytes : List ℕ) × CarriesIt w before left bytes one × Does before after (action.Send before.link bytes)
Answers w left (one ∷ other ∷ more) before after = ⊥

-- ---- a message that is taken

-- the message that is written down is that of the unit, and of the logon that the member keeps for that place, with the
-- link's challenge
pub record IsTakenAs (w : LinkAt) (bytes challenge : List ℕ) (place : ℕ) (after : AtLink) (one : MessageTaken) : Type 0 where
  pub at : one.at ≡ w.at
  pub member : one.member ≡ w.member
  pub link : one.link ≡ w.link
  pub bytes_are : one.bytes ≡ message_in bytes
  pub place_is : one.place ≡ place
  pub kept : lookup same_number place after.logons.asked ≡ Some one.logon
  pub challenge_is : one.logon.challenge ≡ challenge

-- Where a logon waits for it, the message is written down, and none besides. Else none is, and the member tells that as
-- many wait as may.
abbrev pub TakesOn : Phase → LinkAt → List ℕ → List ℕ → List MessageTaken → AtLink → AtLink → Type 0
TakesOn phase.Fresh w bytes challenge messages before after = ⊥
TakesOn (phase.Challenged bound other flags) w bytes challenge messages before after = ⊥
TakesOn (phase.Asked bound place held) w bytes challenge messages before after =
    (one : MessageTaken) × (messages ≡ one ∷ []) × IsTakenAs w bytes challenge place after one
TakesOn (phase.In on) w bytes challenge messages before after = ⊥
TakesOn (phase.Out bound status) w bytes challenge messages before after =
    (messages ≡ []) × Does before after (action.Told before.link (outcome.NoController drop_cause.QueueFull))

-- that the link took one is written down too; or the link is closed, and neither is
abbrev pub Takes : Option Talk → LinkAt → List ℕ → List ℕ → List MessageTaken → List ℕ → AtLink → AtLink → Type 0
Takes None w bytes challenge messages links before after = (messages ≡ []) × (links ≡ []) × IsShut before after
Takes (Some talk) w bytes challenge messages links before after = (links ≡ w.link ∷ []) × TakesOn talk.phase w bytes challenge messages before after

-- ---- a unit

-- where the challenges were enough for the unit: what it comes to
abbrev pub IfServed : (AtLink → Option Talk → Type 0) → ServedPart AtLink Talk → Type 0
IfServed Holds (Err why) = Unit {0}
IfServed Holds (Ok part) = Holds part.value.0 part.value.1

-- where nothing is bound; elsewhere no CHALLENGE is written down
abbrev pub SendsAt : Phase → LinkAt → ServedUnit AtLink Talk → Type 0
SendsAt phase.Fresh w unit = IfServed (λ after talk. Answers w unit.left (challenge_note w unit) unit.work after) unit.part
SendsAt _ w unit = challenge_note w unit ≡ []

-- where a CHALLENGE had been sent; elsewhere no message is
abbrev pub TakesAt : Phase → LinkAt → ServedUnit AtLink Talk → Type 0
TakesAt (phase.Challenged bound challenge flags) w unit =
    IfServed (λ after talk. Takes talk w unit.bytes challenge (message_note w unit) (taken_link w unit) unit.work after) unit.part
TakesAt _ w unit = (message_note w unit ≡ []) × (taken_link w unit ≡ [])

pub record LeavesNothingOut (w : LinkAt) (unit : ServedUnit AtLink Talk) : Type 0 where
  pub sends : SendsAt unit.talk.phase w unit
  pub takes : TakesAt unit.talk.phase w unit
  pub draws : DrawsFor unit.left (challenge_note w unit) unit.part

-- ---- the law

-- Of each unit that a member serves on an accepted link as bytes come (`link_units`), that holds. And what a step draws
-- for bytes is the challenges of its CHALLENGEs, and at most one more.
pub record MembersLeaveNothingOut : Type 0 where
  pub units : (m : MemberState) (w : LinkAt) (piece : List ℕ) (now : ℕ) (left : List (List ℕ)) →
      AllByRecursion (LeavesNothingOut w) (link_units m w.link piece now left)
  pub draws : (m : MemberState) (w : LinkAt) (piece : List ℕ) (now : ℕ) (left : List (List ℕ)) (actions : List Action) →
      (step_of m (event.Bytes w.link piece) now left).answer ≡ Ok actions →
      AreDrawnFor (flat_map (challenge_note w) (link_units m w.link piece now left)) actions (step_of m (event.Bytes w.link piece) now left).drawn
