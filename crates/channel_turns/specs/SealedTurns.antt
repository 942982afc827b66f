-- The units on the link of a turn of a channel that seals, and how its next turn starts (MS-NRPC 3.1.4, 3.3, 3.5.4; for
-- which cause a link closes is this project's own choice). Such a link is sealed from the unit on behind which the
-- sealed call goes out; each response on it is opened, before it is read. All else of such a turn is as `Turns`,
-- `Turning` and `Dials` have it.
use Rattle.std.specs.Prelude.{ℕ, ◌≡◌, ◌==◌, ◌&&◌, Bool, true, false, List, [], ◌∷◌, ◌++◌, replicate, Option, Some, None, Result, Ok, Err}
use Rattle.outside.specs.declared.action.CloseCause.{CloseCause}
use Rattle.outside.specs.declared.action.CloseCause.TheVariants as close
use Rattle.outside.specs.declared.action.DropCause.{DropCause}
use Rattle.outside.specs.declared.action.DropCause.TheVariants as drop_cause
use Rattle.outside.specs.declared.action.StepRefused.{StepRefused}
use Rattle.outside.specs.declared.action.StepRefused.TheVariants as refused
use Rattle.outside.specs.Machine.{Part, then_part}
use Rattle.authenticators.specs.Timestamps.{timestamp_of}
use Rattle.rpc_units.specs.declared.refused.UnitRefused.{UnitRefused}
use Rattle.rpc_units.specs.declared.unit.Body.{Body}
use Rattle.rpc_units.specs.declared.unit.Body.TheVariants.{Auth3, Bind, BindAck, BindNak, Fault, Request, Response}
use Rattle.rpc_units.specs.declared.unit.Unit.{Unit as RpcUnit}
use Rattle.rpc_units.specs.Reading.{unit_of}
use Rattle.rpc_units.specs.Stream.{cut_stream}
use Rattle.end_links.specs.Links.{LinkState}
use Rattle.end_links.specs.Serving.{Server, ServedPart, served_cut}
use Rattle.netlogon_seal.specs.declared.refusal.NlRefused.{NlRefused}
use Rattle.channel_sealing.specs.declared.parts.SealedPart.{SealedPart}
use Rattle.channel_sealing.specs.declared.parts.SealedPart.TheVariants as part
use Rattle.channel_sealing.specs.Parts.{sealed_part_of}
use Rattle.channel_client.specs.declared.answers.Taken.{Taken}
use Rattle.channel_client.specs.declared.answers.Taken.TheVariants as taken
use Rattle.channel_client.specs.Machine.{Losing, Taking, can_start, lose_of}
use Rattle.channel_client.specs.Sealed.{Unsealing, channel_start, channel_take, draws_challenge, is_sealed, unseal_of}
use Rattle.channel_client.specs.State.{Requester}
use Rattle.channel_turns.specs.declared.hearing.Heard.{Heard}
use Rattle.channel_turns.specs.declared.hearing.Heard.TheVariants as heard
use Rattle.channel_turns.specs.declared.sealed_turns.SealedWork.{SealedWork}
use Rattle.channel_turns.specs.declared.state.Dialling.{Dialling}
use Rattle.channel_turns.specs.declared.state.Dialling.TheVariants as dialling
use Rattle.channel_turns.specs.declared.state.TurnEnd.TheVariants as turn_end
use Rattle.channel_turns.specs.declared.state.TurnTalk.{TurnTalk}
use Rattle.channel_turns.specs.declared.state.Turning.{Turning}
use Rattle.channel_turns.specs.Dials.{NextTurn, begun, next_part}
use Rattle.channel_turns.specs.Hearing.{heard_of}
use Rattle.channel_turns.specs.Turning.{Turned, after_piece, dial_part}
use Rattle.channel_turns.specs.Turns.{TurnServed, break_turn, do_taken, end_by, keep_turn, turn_talk, with_channel}

-- ---- a unit: the channel at work afterwards, and what is said on the link, or None where the turn ended

abbrev pub SealedServed : Type 0
SealedServed = SealedWork × Option TurnTalk

abbrev pub beside : (is_link_sealed : Bool) → TurnServed → SealedServed
beside sealed served = (record { work = served.0; is_link_sealed = sealed }, served.1)

abbrev pub with_sealed_channel : Requester → SealedWork → SealedWork
with_sealed_channel channel at = record at { work = with_channel channel at.work }

-- ---- what of a unit is opened

abbrev pub is_response : Body → Bool
is_response (Response hint context stub) = true
is_response (Request hint context opnum stub) = false
is_response (Bind send receive group contexts) = false
is_response (BindAck send receive group results) = false
is_response (BindNak reason) = false
is_response Auth3 = false
is_response (Fault hint context status) = false

abbrev pub is_reply : Result RpcUnit UnitRefused → Bool
is_reply (Err why) = false
is_reply (Ok unit) = is_response unit.body

abbrev pub part_on : (is_opened : Bool) (found : SealedPart) → SealedPart
part_on false found = part.Nothing
part_on true found = found

-- of responses alone, and only where they are to be sealed
abbrev pub reply_part_of : (is_sealed : Bool) (bytes : List ℕ) → SealedPart
reply_part_of sealed bytes = part_on (sealed && is_reply (unit_of bytes)) (sealed_part_of bytes)

-- ---- what the channel made of a whole unit

-- a call that can't be sealed ends the turn as a reply that can't be opened does
abbrev pub close_of : DropCause → CloseCause
close_of drop_cause.BadSeal = close.BadAuthentication
close_of _ = close.CallDone

-- behind the unit at which the sealed call goes out the link is sealed
abbrev pub do_sealed_taken : Taken → Option RpcUnit → SealedWork → SealedServed
do_sealed_taken (taken.Skip turn) joiner at = beside at.is_link_sealed (do_taken (taken.Skip turn) joiner at.work)
do_sealed_taken (taken.Next turn frames) joiner at =
    beside (is_sealed at.work.channel) (do_taken (taken.Next turn frames) joiner at.work)
do_sealed_taken taken.Half joiner at = beside at.is_link_sealed (do_taken taken.Half joiner at.work)
do_sealed_taken taken.Opened joiner at = beside at.is_link_sealed (do_taken taken.Opened joiner at.work)
do_sealed_taken (taken.Answer place verdict) joiner at =
    beside at.is_link_sealed (do_taken (taken.Answer place verdict) joiner at.work)
do_sealed_taken (taken.Dropped place cause) joiner at =
    beside at.is_link_sealed (end_by (close_of cause) (turn_end.Dropped place cause) at.work)
do_sealed_taken taken.Set joiner at = beside at.is_link_sealed (do_taken taken.Set joiner at.work)

abbrev pub take_sealed_by : Taking → Option RpcUnit → SealedWork → SealedServed
take_sealed_by taking joiner at = do_sealed_taken taking.taken joiner (with_sealed_channel taking.state at)

abbrev pub do_sealed_heard : Heard → SealedWork → SealedServed
do_sealed_heard (heard.Waits joiner) at = (at, Some (turn_talk joiner))
do_sealed_heard (heard.Whole unit joiner) at = take_sealed_by (channel_take at.work.channel unit) joiner at
do_sealed_heard (heard.Broken cause) at = beside at.is_link_sealed (break_turn cause at.work)

-- ---- a unit, by what of it is opened

-- a response that isn't sealed as it is to be loses the turn
abbrev pub break_seal_by : Losing → SealedWork → SealedServed
break_seal_by losing at = beside at.is_link_sealed
    (end_by close.BadAuthentication (turn_end.Dropped losing.place drop_cause.BadSeal) (with_channel losing.state at.work))

abbrev pub break_seal : SealedWork → SealedServed
break_seal at = break_seal_by (lose_of at.work.channel) at

abbrev pub opened_unit : Result Unit NlRefused → (bytes : List ℕ) (joiner : Option RpcUnit) (at : SealedWork) → SealedServed
opened_unit (Err why) bytes joiner at = break_seal at
opened_unit (Ok done) bytes joiner at = do_sealed_heard (heard_of (unit_of bytes) joiner) at

abbrev pub after_unsealing : Unsealing → (joiner : Option RpcUnit) (at : SealedWork) → SealedServed
after_unsealing u joiner at = opened_unit u.answer u.unit joiner (with_sealed_channel u.state at)

abbrev pub unit_by_part : SealedPart → (bytes : List ℕ) (joiner : Option RpcUnit) (at : SealedWork) → SealedServed
unit_by_part part.Nothing bytes joiner at = do_sealed_heard (heard_of (unit_of bytes) joiner) at
unit_by_part (part.Range from to) bytes joiner at = after_unsealing (unseal_of at.work.channel bytes from to) joiner at
unit_by_part part.Missing bytes joiner at = break_seal at

-- whether responses are to be sealed by now
abbrev pub needs_seal : SealedWork → Bool
needs_seal at = at.is_link_sealed && is_sealed at.work.channel

-- a turn whose channel seals hears a unit
abbrev pub sealed_unit : (bytes : List ℕ) (joiner : Option RpcUnit) (at : SealedWork) → SealedServed
sealed_unit bytes joiner at =
    unit_by_part (reply_part_of (needs_seal at) bytes) bytes joiner at

-- ---- the units of a stream, which draw no challenge

abbrev pub sealed_unit_part : List ℕ → SealedWork → TurnTalk → List (List ℕ) → ServedPart SealedWork TurnTalk
sealed_unit_part bytes at talk left = Ok (record { value = sealed_unit bytes talk.joiner at; left = left })

abbrev pub sealed_refusal_part : UnitRefused → SealedWork → TurnTalk → List (List ℕ) → Result (Part SealedWork) StepRefused
sealed_refusal_part why at talk left =
    Ok (record { value = (beside at.is_link_sealed (break_turn close.BadUnit at.work)).0; left = left })

abbrev pub sealed_turn_server : Server SealedWork TurnTalk
sealed_turn_server = record { unit = sealed_unit_part; refusal = sealed_refusal_part }

-- ---- a piece that comes on the link: what `Turning` has of it, and whether the link is sealed afterwards

abbrev pub SealedTurned : Type 0
SealedTurned = Turned × Bool

abbrev pub after_sealed_piece : (link : ℕ) → SealedWork × Option (LinkState TurnTalk) → SealedTurned
after_sealed_piece link served = (after_piece link (served.0.work, served.1), served.0.is_link_sealed)

abbrev pub after_sealed_units : (link : ℕ) (rest : List ℕ) → SealedServed → List (List ℕ) → Result (Part SealedTurned) StepRefused
after_sealed_units link rest served left =
    Ok (record { value = after_sealed_piece link (served.0, keep_turn served.1 rest); left = left })

-- the channel at work on that link
abbrev pub sealed_work : (link : ℕ) (is_link_sealed : Bool) → Turning → SealedWork
sealed_work link sealed turning = record {
  work = record { link = link; channel = turning.channel; actions = turning.actions; ended = None };
  is_link_sealed = sealed;
}

abbrev pub sealed_hear_on : (link : ℕ) (said : LinkState TurnTalk) (piece : List ℕ) (work : SealedWork) → List (List ℕ) → Result (Part SealedTurned) StepRefused
sealed_hear_on link said piece work left = then_part
    (served_cut sealed_turn_server (cut_stream (said.rest ++ piece)) work said.talk left)
    (after_sealed_units link (cut_stream (said.rest ++ piece)).rest)

abbrev pub not_heard : (is_link_sealed : Bool) (turning : Turning) → List (List ℕ) → Result (Part SealedTurned) StepRefused
not_heard sealed turning left = Ok (record { value = ((turning, None), sealed); left = left })

abbrev pub sealed_hear_if : (is_turn_link : Bool) (link : ℕ) (said : LinkState TurnTalk) (piece : List ℕ) (is_link_sealed : Bool) (turning : Turning) → List (List ℕ) → Result (Part SealedTurned) StepRefused
sealed_hear_if false link said piece sealed turning left = not_heard sealed turning left
sealed_hear_if true link said piece sealed turning left = sealed_hear_on link said piece (sealed_work link sealed turning) left

abbrev pub sealed_hear_by : Dialling → (link : ℕ) (piece : List ℕ) (is_link_sealed : Bool) (turning : Turning) → List (List ℕ) → Result (Part SealedTurned) StepRefused
sealed_hear_by dialling.Nothing link piece sealed turning left = not_heard sealed turning left
sealed_hear_by (dialling.Waits turn frames) link piece sealed turning left = not_heard sealed turning left
sealed_hear_by (dialling.On number said) link piece sealed turning left =
    sealed_hear_if (number == link) number said piece sealed turning left

abbrev pub sealed_link_hears : (link : ℕ) (piece : List ℕ) (is_link_sealed : Bool) (turning : Turning) → List (List ℕ) → Result (Part SealedTurned) StepRefused
sealed_link_hears link piece sealed turning left = sealed_hear_by turning.dialling link piece sealed turning left

-- ---- the next turn, for which that peer is dialled: as in `Dials`, but one on the open channel draws its confounder

abbrev pub next_sealed_by : (starts draws : Bool) (now : ℕ) (channel : Requester) (left : List (List ℕ)) → Result (Part NextTurn) StepRefused
next_sealed_by false needs now channel left = next_part (channel, None) left
next_sealed_by true false now channel left =
    next_part (begun (channel_start channel (timestamp_of now) (replicate 8 0))) left
next_sealed_by true true now channel [] = Err refused.Spent
next_sealed_by true true now channel (challenge ∷ left) =
    next_part (begun (channel_start channel (timestamp_of now) challenge)) left

abbrev pub next_sealed_turn : ℕ → Requester → List (List ℕ) → Result (Part NextTurn) StepRefused
next_sealed_turn now channel left =
    next_sealed_by (can_start channel.turn channel.waiting) (draws_challenge channel.sealing channel.standing) now channel left

abbrev pub next_sealed_dial : (now : ℕ) (peer : List ℕ) (turning : Turning) → List (List ℕ) → Result (Part Turning) StepRefused
next_sealed_dial now peer turning left = then_part (next_sealed_turn now turning.channel left) (dial_part peer turning)

-- ---- what holds of a unit on the link of a turn of a channel that seals

-- where the turn was lost since a response wasn't sealed as it was to be
abbrev pub LostForSeal : SealedWork → SealedServed → Type 0
LostForSeal at served = (served.1 ≡ None) × (served.0.work.ended ≡ Some (record {
  closes = Some (at.work.link, close.BadAuthentication);
  how = turn_end.Dropped (lose_of at.work.channel).place drop_cause.BadSeal;
}))

pub record SealedRepliesAreOpened : Type 0 where
  -- where responses are to be sealed, one without a signature loses the turn, and so does one that the end refuses
  pub missing : (bytes : List ℕ) (joiner : Option RpcUnit) (at : SealedWork) → needs_seal at ≡ true → is_reply (unit_of bytes) ≡ true →
      sealed_part_of bytes ≡ part.Missing → LostForSeal at (sealed_unit bytes joiner at)
  pub refused : (bytes : List ℕ) (joiner : Option RpcUnit) (at : SealedWork) (from to : ℕ) (why : NlRefused) → needs_seal at ≡ true → is_reply (unit_of bytes) ≡ true →
      sealed_part_of bytes ≡ part.Range from to → (unseal_of at.work.channel bytes from to).answer ≡ Err why →
      LostForSeal (with_sealed_channel (unseal_of at.work.channel bytes from to).state at) (sealed_unit bytes joiner at)
  -- one that is opened is heard as what is found in it
  pub opened : (bytes : List ℕ) (joiner : Option RpcUnit) (at : SealedWork) (from to : ℕ) → needs_seal at ≡ true → is_reply (unit_of bytes) ≡ true →
      sealed_part_of bytes ≡ part.Range from to → (unseal_of at.work.channel bytes from to).answer ≡ Ok tt → sealed_unit bytes joiner at
      ≡ do_sealed_heard (heard_of (unit_of (unseal_of at.work.channel bytes from to).unit) joiner)
      (with_sealed_channel (unseal_of at.work.channel bytes from to).state at)
  -- what else comes is heard as it is
  pub others : (bytes : List ℕ) (joiner : Option RpcUnit) (at : SealedWork) → (needs_seal at && is_reply (unit_of bytes)) ≡ false →
      sealed_unit bytes joiner at ≡ do_sealed_heard (heard_of (unit_of bytes) joiner) at
