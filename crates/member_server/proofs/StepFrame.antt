-- What a member's step can come to above its accepted links: a unit on the link of the turn, an event, and the next
-- turn. Each is walked here alone: what is kept by each change is kept by the step. It serves the laws of a member's
-- steps.
use Rattle.std.proofs.Common.{◌≡◌, ℕ, ◌==◌, Bool, true, false, List, [], ◌∷◌, ◌++◌, replicate, Option, Some, None, is_some, Result, Ok, Err, refl, sym, ap, subst, ◌∙◌, nat_le, length}
use Rattle.std.proofs.lemmas.Bool.{eqb-true}
use Rattle.std.proofs.lemmas.Bool.Decides.{Decides-eqb}
use Rattle.wire_base.specs.Maps.{lookup, same_number}
use Rattle.outside.specs.declared.action.Action.{Action}
use Rattle.outside.specs.declared.action.Action.TheVariants as action
use Rattle.outside.specs.declared.action.CloseCause.{CloseCause}
use Rattle.outside.specs.declared.action.CloseCause.TheVariants as close
use Rattle.outside.specs.declared.action.DropCause.{DropCause}
use Rattle.outside.specs.declared.action.DropCause.TheVariants as drop_cause
use Rattle.outside.specs.declared.action.StepRefused.{StepRefused}
use Rattle.outside.specs.declared.event.Event.{Event}
use Rattle.outside.specs.declared.event.Event.TheVariants as event
use Rattle.outside.specs.Machine.{Part, step_by, then_part}
use Rattle.rpc_units.specs.declared.refused.JoinRefused.{JoinRefused}
use Rattle.rpc_units.specs.declared.refused.JoinRefused.TheVariants as join
use Rattle.rpc_units.specs.declared.refused.UnitRefused.{UnitRefused}
use Rattle.rpc_units.specs.declared.unit.Unit.{Unit as RpcUnit}
use Rattle.rpc_units.specs.Joining.{answer_of, open_after}
use Rattle.rpc_units.specs.Reading.{unit_of}
use Rattle.rpc_units.specs.Stream.{Cut, cut_stream}
use Rattle.end_links.specs.Links.{LinkState}
use Rattle.end_links.specs.Sending.{joined_frames}
use Rattle.end_links.specs.Serving.{ServedPart, served_by, then_talk}
use Rattle.channel_client.specs.declared.answers.Taken.TheVariants as taken
use Rattle.channel_client.specs.Machine.{can_start, lose_of, needs_challenge, start_of, take_of}
use Rattle.channel_client.specs.State.{Requester}
use Rattle.channel_client.proofs.TurnLaws.{one_turn}
use Rattle.channel_turns.specs.declared.state.Dialling.{Dialling}
use Rattle.channel_turns.specs.declared.state.Dialling.TheVariants as dialling
use Rattle.channel_turns.specs.declared.state.TurnEnd.{TurnEnd}
use Rattle.channel_turns.specs.declared.state.TurnEnd.TheVariants as turn_end
use Rattle.channel_turns.specs.declared.state.TurnTalk.{TurnTalk}
use Rattle.channel_turns.specs.Turning.{is_on}
use Rattle.channel_turns.proofs.KeepLaws.{end_of, taken_by}
use Rattle.member_server.specs.declared.outcomes.Ending.{Ending}
use Rattle.member_server.specs.declared.outcomes.Ending.TheVariants as ending
use Rattle.member_server.specs.declared.state.AtLink.{AtLink}
use Rattle.member_server.specs.declared.state.Running.{Running}
use Rattle.member_server.specs.declared.state.Talk.{Talk}
use Rattle.member_server.specs.declared.state.Work.{Work}
use Rattle.member_server.specs.ChannelSteps.{IsNextTurn}
use Rattle.member_server.specs.Laws.{heard_if, heard_in, is_dialled, then_whole, whole_by, whole_units}
use Rattle.member_server.specs.Machine.{actions_in, after_turn, after_units, at_turn, by_event, bytes_by, bytes_on, bytes_on_link, close_link, close_turn, event_part, fail_dial, fresh_link, halted_state, keep_turn, open_by, serve_alone, serve_dialled, state_in, step_of, step_on, work_of}
use Rattle.member_server.specs.Outcomes.{at_link, end_logon, tell_at, with_link, without_link}
use Rattle.member_server.specs.State.{State}
use Rattle.member_server.specs.Units.{link_server}
use Rattle.member_server.specs.Secrets.{SecretsState, give_secrets, written_secrets}
use Rattle.member_server.specs.Turns.{AtTurn, DialWork, TurnServed, after_turn_served, break_turn, dial_for, do_taken, end_turn, ending_of, keep_ended, keep_if, lose_turn, next_turn, ready_channel, timestamp_of, turn_by, turn_by_join, turn_server, turn_talk, turn_unit, turn_work, with_requester, with_work}

-- ---- a turn that ends

-- the logon that it was for, and how that ends
abbrev pub logon_of : TurnEnd → Option (ℕ × Ending)
logon_of turn_end.Half = None
logon_of turn_end.Opened = None
logon_of (turn_end.Answer place verdict) = Some (place, ending_of verdict)
logon_of (turn_end.Dropped place cause) = Some (place, ending.NoController cause)
logon_of turn_end.Set = None

pub turn_ended : (how : TurnEnd) (w : Work) (Holds : Work → Type 0) → (logon_of how ≡ None → Holds w) →
    ((place : ℕ) (ends : Ending) → logon_of how ≡ Some (place, ends) → Holds (end_logon place ends w)) → Holds (end_turn how w)
turn_ended turn_end.Half w Holds none some = none refl
turn_ended turn_end.Opened w Holds none some = none refl
turn_ended (turn_end.Answer place verdict) w Holds none some = some place (ending_of verdict) refl
turn_ended (turn_end.Dropped place cause) w Holds none some = some place (ending.NoController cause) refl
turn_ended turn_end.Set w Holds none some = none refl

-- the actions then, by whether the text of the secrets is another
pub text_kept : (changes : Bool) (secrets : SecretsState) (actions : List Action) (Holds : List Action → Type 0) → (changes ≡ false → Holds actions) →
    (changes ≡ true → Holds (actions ++ action.Keep (written_secrets secrets) ∷ [])) → Holds (keep_if changes secrets actions)
text_kept false secrets actions Holds none some = none refl
text_kept true secrets actions Holds none some = some refl

-- ---- the units on the link of the turn

-- the member whose channel took the unit
abbrev pub taken_at : AtTurn → RpcUnit → AtTurn
taken_at at unit = with_work at (with_requester at.work (take_of at.work.logons.channel unit).state)

-- `Out` while the turn is out, of the whole units that are still to come, and `Over` once it isn't
pub record KeepsTurn (Out : List RpcUnit → AtTurn → Type 0) (Over : Work → Type 0) : Type 0 where
  pub skips : (right : Unit {0}) (unit : RpcUnit) (units : List RpcUnit) (at : AtTurn) → (take_of at.work.logons.channel unit).taken ≡ taken.Skip right →
      Out (unit ∷ units) at → Out units (taken_at at unit)
  pub sends : (right : Unit {0}) (frames : List (List ℕ)) (unit : RpcUnit) (units : List RpcUnit) (at : AtTurn) → (take_of at.work.logons.channel unit).taken ≡ taken.Next right frames →
      Out (unit ∷ units) at → Out units (with_work at (tell_at (taken_at at unit).work (action.Send at.link (joined_frames frames))))
  pub ends : (how : TurnEnd) (unit : RpcUnit) (units : List RpcUnit) (at : AtTurn) → end_of (take_of at.work.logons.channel unit).taken ≡ Some how →
      Out (unit ∷ units) at → Over (end_turn how (tell_at (keep_ended how (taken_at at unit).work) (action.Close at.link close.CallDone)))
  -- a unit is refused
  pub breaks : (cause : CloseCause) (at : AtTurn) → Out [] at →
      Over (end_turn (turn_end.Dropped (lose_of at.work.logons.channel).place drop_cause.BadReply)
      (tell_at (with_requester at.work (lose_of at.work.logons.channel).state) (action.Close at.link cause)))

-- by whether the link stays open, behind which units are to come
abbrev pub TurnHolds : (List RpcUnit → AtTurn → Type 0) → (Work → Type 0) → List (List ℕ) → TurnServed → Type 0
TurnHolds Out Over units (at, None) = Over at.work
TurnHolds Out Over units (at, Some talk) = Out (whole_units units talk.joiner) at

-- all that comes of a unit that was taken, said at once
pub record TakesTurn (Out : List RpcUnit → AtTurn → Type 0) (Over : Work → Type 0) : Type 0 where
  pub takes : (unit : RpcUnit) (after : Option RpcUnit) (units : List (List ℕ)) (at : AtTurn) → Out (unit ∷ whole_units units after) at →
      TurnHolds Out Over units (do_taken (take_of at.work.logons.channel unit).taken after (taken_at at unit))
  pub breaks : (cause : CloseCause) (at : AtTurn) → Out [] at → Over (break_turn cause at).0.work

pub each_taken : (Out : List RpcUnit → AtTurn → Type 0) (Over : Work → Type 0) → KeepsTurn Out Over → TakesTurn Out Over
each_taken Out Over keeps = record {
  takes = λ unit after units at out.
      taken_by (take_of at.work.logons.channel unit).taken after (turn_work (taken_at at unit))
      (λ served. TurnHolds Out Over units (after_turn_served served at)) (record {
        skips = λ right is. keeps.skips right unit (whole_units units after) at is out;
        sends = λ right frames is. keeps.sends right frames unit (whole_units units after) at is out;
        ends = λ how is. keeps.ends how unit (whole_units units after) at is out;
      });
  breaks = keeps.breaks;
}

module _ (Out : List RpcUnit → AtTurn → Type 0) (Over : Work → Type 0) (keeps : TakesTurn Out Over) where
  join_keeps : (whole : Result (Option RpcUnit) JoinRefused) (after : Option RpcUnit) (units : List (List ℕ)) (at : AtTurn) →
      Out (then_whole whole (whole_units units after)) at → TurnHolds Out Over units (turn_by_join whole after at)
  join_keeps (Err join.OutOfPlace) after units at out = keeps.breaks close.OutOfPlace at out
  join_keeps (Err join.CallTooLong) after units at out = keeps.breaks close.TooMuchHeld at out
  join_keeps (Err join.Memory) after units at out = keeps.breaks close.OutOfPlace at out
  join_keeps (Ok None) after units at out = out
  join_keeps (Ok (Some unit)) after units at out = keeps.takes unit after units at out

  pub turn_keeps : (unit : Result RpcUnit UnitRefused) (joiner : Option RpcUnit) (units : List (List ℕ)) (at : AtTurn) →
      Out (whole_by unit joiner (λ after. whole_units units after)) at → TurnHolds Out Over units (turn_unit unit joiner at)
  turn_keeps (Err why) joiner units at out = keeps.breaks close.BadUnit at out
  turn_keeps (Ok unit) joiner units at out = join_keeps (answer_of joiner unit) (open_after joiner unit) units at out

  -- no challenge is drawn
  abbrev pub TurnPartHolds : List (List ℕ) → ServedPart AtTurn TurnTalk → Type 0
  TurnPartHolds left (Err why) = Unit {0}
  TurnPartHolds left (Ok part) = (part.left ≡ left) × TurnHolds Out Over [] part.value

  abbrev pub LaterTurn : List (List ℕ) → Option UnitRefused → Type 0
  LaterTurn units why = (at : AtTurn) (talk : TurnTalk) (left : List (List ℕ)) → Out (whole_units units talk.joiner) at →
      TurnPartHolds left (served_by turn_server units why at talk left)

  said_keeps : (units : List (List ℕ)) (why : Option UnitRefused) (served : TurnServed) (left : List (List ℕ)) → LaterTurn units why → TurnHolds Out Over units served →
      TurnPartHolds left (then_talk served.0 served.1 left (λ later talk rest. served_by turn_server units why later talk rest))
  said_keeps units why (at, None) left later holds = (refl, holds)
  said_keeps units why (at, Some talk) left later holds = later at talk left holds

  pub units_keep : (units : List (List ℕ)) (why : Option UnitRefused) → LaterTurn units why
  units_keep [] None at talk left out = (refl, out)
  units_keep [] (Some why) at talk left out = (refl, keeps.breaks close.BadUnit at out)
  units_keep (bytes ∷ units) why at talk left out =
      said_keeps units why (turn_unit (unit_of bytes) talk.joiner at) left (units_keep units why) (turn_keeps (unit_of bytes) talk.joiner units at out)

-- ---- an event

-- of the dial, the member at work, and the challenges that are left
abbrev pub WorkFact : Type 1
WorkFact = Dialling → Work → List (List ℕ) → Type 0

-- nothing is said where the challenges weren't enough
abbrev pub PartHolds : WorkFact → Result (Part DialWork) StepRefused → Type 0
PartHolds Holds (Err why) = Unit {0}
PartHolds Holds (Ok part) = Holds part.value.1 part.value.0 part.left

-- the link of a turn whose bind went out
abbrev pub bound_said : LinkState TurnTalk
bound_said = record { rest = []; talk = turn_talk None }

-- the event closes the link of that number
abbrev pub IsClosed : Event → ℕ → Type 0
IsClosed (event.Opened link) number = (number == link) ≡ true
IsClosed (event.Closed link) number = (number == link) ≡ true
IsClosed _ number = ⊥

-- the turn is lost: its link closed, or its dial failed
abbrev pub IsLost : Event → Dialling → Type 0
IsLost what dialling.Nothing = ⊥
IsLost what (dialling.Waits turn frames) = what ≡ event.DialFailed
IsLost what (dialling.On number said) = IsClosed what number

-- `Before` as the event comes, and `After` once it was served
pub record KeepsEvent (what : Event) (Before After : WorkFact) : Type 0 where
  pub still : (how : Dialling) (w : Work) (left : List (List ℕ)) → Before how w left → After how w left
  pub closes : (link : ℕ) (how : Dialling) (w : Work) (left : List (List ℕ)) → Before how w left → After how (without_link link w) left
  pub loses : (cause : DropCause) (how : Dialling) (w : Work) (left : List (List ℕ)) → IsLost what how → heard_in what how ≡ [] → Before how w left →
      After dialling.Nothing (lose_turn cause w) left
  pub full : (link : ℕ) (how : Dialling) (w : Work) (left : List (List ℕ)) → what ≡ event.Opened link → After how w left →
      After how (tell_at w (action.Close link close.TooManyLinks)) left
  pub opens : (link : ℕ) (how : Dialling) (w : Work) (left : List (List ℕ)) → what ≡ event.Opened link → After how w left → After how (with_link link fresh_link w) left
  pub answers : (link : ℕ) (turn : Unit {0}) (frames : List (List ℕ)) (w : Work) (left : List (List ℕ)) → what ≡ event.Dialled link → Before (dialling.Waits turn frames) w left →
      After (dialling.On link bound_said) (tell_at (without_link link w) (action.Send link (joined_frames frames))) left
  pub link : (number : ℕ) (piece : List ℕ) (link : LinkState Talk) (how : Dialling) (w : Work) (left : List (List ℕ)) → what ≡ event.Bytes number piece →
      lookup same_number number w.links ≡ Some link → Before how w left →
      PartHolds After (serve_alone (cut_stream (link.rest ++ piece)) number link.talk how (without_link number w) left)
  pub turn : (number : ℕ) (piece : List ℕ) (said : LinkState TurnTalk) (w : Work) (left : List (List ℕ)) → what ≡ event.Bytes number piece →
      Before (dialling.On number said) w left → PartHolds After (serve_dialled (cut_stream (said.rest ++ piece)) number said.talk w left)

pub lost_dialled : (what : Event) (how : Dialling) → IsLost what how → is_dialled how ≡ true
lost_dialled what dialling.Nothing lost = absurd lost
lost_dialled what (dialling.Waits turn frames) lost = refl
lost_dialled what (dialling.On number said) lost = refl

closed_lost : (what : Event) (link : ℕ) (how : Dialling) → ((number : ℕ) → (number == link) ≡ true → IsClosed what number) → is_on link how ≡ true → IsLost what how
closed_lost what link dialling.Nothing closes on = absurd (let x = on in cc)
closed_lost what link (dialling.Waits turn frames) closes on = absurd (let x = on in cc)
closed_lost what link (dialling.On number said) closes on = closes number on

-- no bytes lose it at once
pub bytes_lose_none : (number : ℕ) (piece : List ℕ) (how : Dialling) → IsLost (event.Bytes number piece) how → ⊥
bytes_lose_none number piece dialling.Nothing lost = lost
bytes_lose_none number piece (dialling.Waits turn frames) lost = let x = lost in cc
bytes_lose_none number piece (dialling.On other said) lost = lost

module _ (Before After : WorkFact) where
  abbrev Closes : DialWork → List (List ℕ) → Type 0
  Closes dial_work left = After dial_work.1 dial_work.0 left

  close_keeps : (what : Event) → KeepsEvent what Before After → (hit : Bool) (link : ℕ) (how : Dialling) (w : Work) (left : List (List ℕ)) → (hit ≡ true → IsLost what how) →
      heard_in what how ≡ [] → Before how w left → Closes (close_turn hit link how w) left
  close_keeps what keeps false link how w left lost none before = keeps.closes link how w left before
  close_keeps what keeps true link how w left lost none before = keeps.loses drop_cause.LinkClosed how w left (lost refl) none before

  open_keeps : (link : ℕ) → KeepsEvent (event.Opened link) Before After → (full : Bool) (dial_work : DialWork) (left : List (List ℕ)) → Closes dial_work left →
      After dial_work.1 (open_by full link dial_work.0) left
  open_keeps link keeps true dial_work left after = keeps.full link dial_work.1 dial_work.0 left refl after
  open_keeps link keeps false dial_work left after = keeps.opens link dial_work.1 dial_work.0 left refl after

  fail_keeps : KeepsEvent event.DialFailed Before After → (how : Dialling) (w : Work) (left : List (List ℕ)) → Before how w left → Closes (fail_dial how w) left
  fail_keeps keeps dialling.Nothing w left before = keeps.still dialling.Nothing w left before
  fail_keeps keeps (dialling.Waits turn frames) w left before = keeps.loses drop_cause.DialFailed (dialling.Waits turn frames) w left refl refl before
  fail_keeps keeps (dialling.On number said) w left before = keeps.still (dialling.On number said) w left before

  module _ (number : ℕ) (piece : List ℕ) (keeps : KeepsEvent (event.Bytes number piece) Before After) where
    link_keeps : (found : Option (LinkState Talk)) (how : Dialling) (w : Work) (left : List (List ℕ)) → lookup same_number number w.links ≡ found → Before how w left →
        PartHolds After (bytes_on_link found number piece how w left)
    link_keeps None how w left there before = keeps.still how w left before
    link_keeps (Some link) how w left there before = keeps.link number piece link how w left refl there before

    bytes_keep : (hit : Bool) (other : ℕ) (said : LinkState TurnTalk) (w : Work) (left : List (List ℕ)) → (other == number) ≡ hit → Before (dialling.On other said) w left →
        PartHolds After (bytes_by hit said number piece (dialling.On other said) w left)
    bytes_keep true other said w left hit before =
        keeps.turn number piece said w left refl (subst (λ (n : ℕ). Before (dialling.On n said) w left) (eqb-true other number hit) before)
    bytes_keep false other said w left hit before = link_keeps (lookup same_number number w.links) (dialling.On other said) w left refl before

    on_keeps : (how : Dialling) (w : Work) (left : List (List ℕ)) → Before how w left → PartHolds After (bytes_on how number piece w left)
    on_keeps dialling.Nothing w left before = link_keeps (lookup same_number number w.links) dialling.Nothing w left refl before
    on_keeps (dialling.Waits turn frames) w left before = link_keeps (lookup same_number number w.links) (dialling.Waits turn frames) w left refl before
    on_keeps (dialling.On other said) w left before = bytes_keep (other == number) other said w left refl before

  pub event_keeps : (what : Event) → KeepsEvent what Before After → (how : Dialling) (w : Work) (left : List (List ℕ)) → Before how w left →
      PartHolds After (by_event what how w left)
  event_keeps (event.Opened link) keeps how w left before =
      let closed : DialWork = close_link how link w in
      open_keeps link keeps (nat_le 256 (length closed.0.links)) closed left
      (close_keeps (event.Opened link) keeps (is_on link how) link how w left (closed_lost (event.Opened link) link how (λ number hit. hit)) refl before)
  event_keeps (event.Bytes number piece) keeps how w left before = on_keeps number piece keeps how w left before
  event_keeps (event.Closed link) keeps how w left before =
      close_keeps (event.Closed link) keeps (is_on link how) link how w left (closed_lost (event.Closed link) link how (λ number hit. hit)) refl before
  event_keeps (event.Dialled link) keeps dialling.Nothing w left before = keeps.still dialling.Nothing w left before
  event_keeps (event.Dialled link) keeps (dialling.Waits turn frames) w left before = keeps.answers link turn frames w left refl before
  event_keeps (event.Dialled link) keeps (dialling.On number said) w left before = keeps.still (dialling.On number said) w left before
  event_keeps event.DialFailed keeps how w left before = fail_keeps keeps how w left before
  event_keeps event.Stop keeps how w left before = keeps.still how w left before

-- The turn by its units: `After` follows while the link stays open, and once it is closed.
pub dialled_keeps : (Out : List RpcUnit → AtTurn → Type 0) (Over : Work → Type 0) (After : WorkFact) → TakesTurn Out Over →
    (cut : Cut) (number : ℕ) (talk : TurnTalk) (w : Work) (left : List (List ℕ)) →
    ((rest : List ℕ) (later : TurnTalk) (at : AtTurn) → Out [] at → After (dialling.On number (record { rest = rest; talk = later })) at.work left) →
    ((w : Work) → Over w → After dialling.Nothing w left) → Out (whole_units cut.units talk.joiner) (at_turn number w) →
    PartHolds After (serve_dialled cut number talk w left)
dialled_keeps Out Over After keeps cut number talk w left opens shuts out =
    done (served_by turn_server cut.units cut.refused (at_turn number w) talk left) (units_keep Out Over keeps cut.units cut.refused (at_turn number w) talk left out)
  where
    said : (served : TurnServed) → TurnHolds Out Over [] served → PartHolds After (after_turn (Ok (record { value = served; left = left })) cut.rest number)
    said (at, None) holds = shuts at.work holds
    said (at, Some later) holds = opens cut.rest later at holds

    done : (part : ServedPart AtTurn TurnTalk) → TurnPartHolds Out Over keeps left part → PartHolds After (after_turn part cut.rest number)
    done (Err why) holds = tt
    done (Ok part) holds =
        subst (λ (rest : List (List ℕ)). PartHolds After (after_turn (Ok (record { value = part.value; left = rest })) cut.rest number)) (sym holds.0) (said part.value holds.1)

-- A fact of the dial alone: bytes on an accepted link leave the dial.
pub dial_stays : (Holds : Dialling → Type 0) (cut : Cut) (number : ℕ) (talk : Talk) (how : Dialling) (w : Work) (left : List (List ℕ)) → Holds how →
    PartHolds (λ how w left. Holds how) (serve_alone cut number talk how w left)
dial_stays Holds cut number talk how w left holds = of_part (served_by link_server cut.units cut.refused (at_link number w) talk left)
  where
    of_part : (part : ServedPart AtLink Talk) → PartHolds (λ how w left. Holds how) (after_units part cut.rest number how w)
    of_part (Err why) = tt
    of_part (Ok part) = holds

-- units on the link of the turn leave a turn out on that link, or none
pub dial_turns : (Holds : Dialling → Type 0) (cut : Cut) (number : ℕ) (talk : TurnTalk) (w : Work) (left : List (List ℕ)) →
    ((rest : List ℕ) (later : TurnTalk) → Holds (dialling.On number (record { rest = rest; talk = later }))) → Holds dialling.Nothing →
    PartHolds (λ how w left. Holds how) (serve_dialled cut number talk w left)
dial_turns Holds cut number talk w left opens shuts = of_part (served_by turn_server cut.units cut.refused (at_turn number w) talk left)
  where
    of_said : (said : Option TurnTalk) → Holds (keep_turn said cut.rest number)
    of_said None = shuts
    of_said (Some later) = opens cut.rest later

    of_part : (part : ServedPart AtTurn TurnTalk) → PartHolds (λ how w left. Holds how) (after_turn part cut.rest number)
    of_part (Err why) = tt
    of_part (Ok part) = of_said part.value.1

-- the units that are heard on the link of the turn
pub heard_on : (what : Event) (number : ℕ) (piece : List ℕ) (said : LinkState TurnTalk) → what ≡ event.Bytes number piece →
    heard_in what (dialling.On number said) ≡ whole_units (cut_stream (said.rest ++ piece)).units said.talk.joiner
heard_on what number piece said is =
    ap (λ (e : Event). heard_in e (dialling.On number said)) is ∙ ap (λ (hit : Bool). heard_if hit said piece) ((Decides-eqb number number).1 refl)

-- ---- the next turn

-- the challenge that it has, by whether it needs one: the next that is left, or zeros
abbrev pub IsDrawnNext : Bool → List ℕ → List (List ℕ) → List (List ℕ) → Type 0
IsDrawnNext false challenge before after = (challenge ≡ replicate 8 0) × (after ≡ before)
IsDrawnNext true challenge before after = before ≡ challenge ∷ after

abbrev pub can_dial : Work → Bool
can_dial w = can_start w.logons.channel.turn w.logons.channel.waiting

-- the channel of a turn that starts, with the secrets that it is given
abbrev pub given_channel : Work → Requester
given_channel w = give_secrets true w.logons.plan.secrets w.logons.channel

pub is_given : (w : Work) → can_dial w ≡ true → ready_channel w ≡ given_channel w
is_given w can = ap (λ (starts : Bool). give_secrets starts w.logons.plan.secrets w.logons.channel) can

pub is_left : (w : Work) → can_dial w ≡ false → ready_channel w ≡ w.logons.channel
is_left w can = ap (λ (starts : Bool). give_secrets starts w.logons.plan.secrets w.logons.channel) can

-- the member whose turn started, and whose controller is dialled
abbrev pub dialling_at : Work → ℕ → List ℕ → Work
dialling_at w timestamp challenge =
    tell_at (with_requester w (start_of (given_channel w) timestamp challenge).state) (action.Dial w.logons.plan.controller)

pub record KeepsNext (now : ℕ) (Before After : WorkFact) : Type 0 where
  pub still : (how : Dialling) (w : Work) (left : List (List ℕ)) → can_dial w ≡ false → Before how w left → After how w left
  pub starts : (turn : Unit {0}) (frames : List (List ℕ)) (challenge : List ℕ) (how : Dialling) (w : Work) (before after : List (List ℕ)) → can_dial w ≡ true →
      IsDrawnNext (needs_challenge w.logons.channel.standing) challenge before after →
      (start_of (given_channel w) (timestamp_of now) challenge).answer ≡ Some (turn, frames) → Before how w before →
      After (dialling.Waits turn frames) (dialling_at w (timestamp_of now) challenge) after

next_is : (needs : Bool) (now : ℕ) (c : Requester) (challenge : List ℕ) (before after : List (List ℕ)) → IsDrawnNext needs challenge before after →
    IsNextTurn true needs now c before (start_of c (timestamp_of now) challenge).state after
next_is false now c challenge before after drawn = (ap (λ (x : List ℕ). (start_of c (timestamp_of now) x).state) drawn.0, drawn.1)
next_is true now c challenge before after drawn = (challenge, drawn, refl)

-- the channel then, by whether a turn can start
pub none_next : (now : ℕ) (w : Work) (left : List (List ℕ)) → can_dial w ≡ false →
    IsNextTurn (can_dial w) (needs_challenge w.logons.channel.standing) now (ready_channel w) left w.logons.channel left
none_next now w left can =
    let c : Requester = w.logons.channel in
    subst (λ (b : Bool). IsNextTurn b (needs_challenge c.standing) now (give_secrets b w.logons.plan.secrets c) left c left) (sym can) (refl, refl)

pub some_next : (now : ℕ) (w : Work) (challenge : List ℕ) (before after : List (List ℕ)) → can_dial w ≡ true →
    IsDrawnNext (needs_challenge w.logons.channel.standing) challenge before after →
    IsNextTurn (can_dial w) (needs_challenge w.logons.channel.standing) now (ready_channel w) before (start_of (given_channel w) (timestamp_of now) challenge).state after
some_next now w challenge before after can drawn =
    let c : Requester = w.logons.channel in
    subst (λ (b : Bool). IsNextTurn b (needs_challenge c.standing) now (give_secrets b w.logons.plan.secrets c) before (start_of (given_channel w) (timestamp_of now) challenge).state after)
    (sym can) (next_is (needs_challenge c.standing) now (given_channel w) challenge before after drawn)

module _ (now : ℕ) (Before After : WorkFact) (keeps : KeepsNext now Before After) where
  dial_keeps : (start : Option (Unit {0} × List (List ℕ))) (challenge : List ℕ) (how : Dialling) (w : Work) (before after : List (List ℕ)) →
      (start_of (given_channel w) (timestamp_of now) challenge).answer ≡ start → can_dial w ≡ true → IsDrawnNext (needs_challenge w.logons.channel.standing) challenge before after →
      Before how w before → PartHolds After (Ok (record { value = dial_for start (with_requester w (start_of (given_channel w) (timestamp_of now) challenge).state) how; left = after }))
  dial_keeps None challenge how w before after is can drawn holds =
      let some = sym (ap (λ (s : Option (Unit {0} × List (List ℕ))). is_some s) is) ∙ one_turn.start (given_channel w) (timestamp_of now) challenge ∙ can in
      absurd (let x = some in cc)
  dial_keeps (Some start) challenge how w before after is can drawn holds = keeps.starts start.0 start.1 challenge how w before after can drawn is holds

  turn_if : (starts needs : Bool) (how : Dialling) (w : Work) (left : List (List ℕ)) → can_dial w ≡ starts → needs_challenge w.logons.channel.standing ≡ needs → Before how w left →
      PartHolds After (turn_by starts needs now (with_requester w (give_secrets starts w.logons.plan.secrets w.logons.channel)) how left)
  turn_if false needs how w left can need holds = keeps.still how w left can holds
  turn_if true false how w left can need holds =
      dial_keeps (start_of (given_channel w) (timestamp_of now) (replicate 8 0)).answer (replicate 8 0) how w left left refl can
      (subst (λ (n : Bool). IsDrawnNext n (replicate 8 0) left left) (sym need) (refl, refl)) holds
  turn_if true true how w [] can need holds = tt
  turn_if true true how w (challenge ∷ left) can need holds =
      dial_keeps (start_of (given_channel w) (timestamp_of now) challenge).answer challenge how w (challenge ∷ left) left refl can
      (subst (λ (n : Bool). IsDrawnNext n challenge (challenge ∷ left) left) (sym need) refl) holds

  pub next_keeps : (how : Dialling) (w : Work) (left : List (List ℕ)) → Before how w left → PartHolds After (next_turn now (w, how) left)
  next_keeps how w left holds = turn_if (can_dial w) (needs_challenge w.logons.channel.standing) how w left refl refl holds

  pub next_follows : (part : Result (Part DialWork) StepRefused) → PartHolds Before part → PartHolds After (then_part part (next_turn now))
  next_follows (Err why) holds = tt
  next_follows (Ok part) holds = next_keeps part.value.1 part.value.0 part.left holds

-- ---- a step

abbrev pub running_of : Dialling → Work → Running
running_of how w = record { logons = w.logons; links = w.links; dialling = how; sealing = None }

-- an event, and then the next turn
pub part_keeps : (Before Middle After : WorkFact) (running : Running) (what : Event) (now : ℕ) (left : List (List ℕ)) → KeepsEvent what Before Middle → KeepsNext now Middle After →
    Before running.dialling (work_of running) left → PartHolds After (event_part running what now left)
part_keeps Before Middle After running what now left event next before =
    next_follows now Middle After next (by_event what running.dialling (work_of running) left) (event_keeps Before Middle what event running.dialling (work_of running) left before)

module _ (Holds : Option Running → Type 0) (what : Event) (now : ℕ) (left : List (List ℕ)) where
  abbrev pub StepHolds : WorkFact
  StepHolds how w left = Holds (Some (running_of how w))

  stepped_keeps : Holds None → (part : Result (Part DialWork) StepRefused) → PartHolds StepHolds part →
      Holds (step_by actions_in state_in halted_state left part).state.running
  stepped_keeps none (Err why) holds = none
  stepped_keeps none (Ok part) holds = holds

  running_keeps : (r : Option Running) (s : State) → Holds None → Holds s.running →
      ((running : Running) → r ≡ Some running → PartHolds StepHolds (event_part running what now left)) → Holds (step_on r s what now left).state.running
  running_keeps None s none was each = was
  running_keeps (Some running) s none was each = stepped_keeps none (event_part running what now left) (each running refl)

  -- a fact of what is kept, which holds of an end that stopped
  pub step_keeps : (s : State) → Holds None → Holds s.running →
      ((running : Running) → s.running ≡ Some running → PartHolds StepHolds (event_part running what now left)) → Holds (step_of s what now left).state.running
  step_keeps s none was each = running_keeps s.running s none was each

module _ (Holds : List Action → Type 0) (what : Event) (now : ℕ) (left : List (List ℕ)) where
  part_answers : (part : Result (Part DialWork) StepRefused) (actions : List Action) → PartHolds (λ how w left. Holds w.actions) part →
      (step_by actions_in state_in halted_state left part).answer ≡ Ok actions → Holds actions
  part_answers (Err why) actions holds is = absurd (let x = is in cc)
  part_answers (Ok part) actions holds is = let same : part.value.0.actions ≡ actions = (let x = is in cc) in subst Holds same holds

  running_answers : (r : Option Running) (s : State) (actions : List Action) → ((running : Running) → r ≡ Some running → PartHolds (λ how w left. Holds w.actions) (event_part running what now left)) →
      (step_on r s what now left).answer ≡ Ok actions → Holds actions
  running_answers None s actions each is = absurd (let x = is in cc)
  running_answers (Some running) s actions each is = part_answers (event_part running what now left) actions (each running refl) is

  -- a fact of the actions that a step gives
  pub step_answers : (s : State) (actions : List Action) → ((running : Running) → s.running ≡ Some running → PartHolds (λ how w left. Holds w.actions) (event_part running what now left)) →
      (step_of s what now left).answer ≡ Ok actions → Holds actions
  step_answers s actions each is = running_answers s.running s actions each is
