-- What becomes of the places that wait at an end that asks, by the events on the link of its turn. It serves
-- `what_is_asked_waits`.
use Rattle.std.proofs.Common.{◌≡◌, ◌==◌, ◌++◌, ℕ, Bool, true, false, not, List, [], ◌∷◌, map, Option, Some, None, is_some, Result, Ok, Err, refl, sym, ap, subst, ◌∙◌}
use Rattle.outside.specs.Machine.{Part}
use Rattle.outside.specs.declared.action.DropCause.{DropCause}
use Rattle.outside.specs.declared.action.DropCause.TheVariants as drop_cause
use Rattle.outside.specs.declared.action.StepRefused.{StepRefused}
use Rattle.rpc_units.specs.Stream.{cut_stream}
use Rattle.rpc_units.specs.declared.unit.Unit.{Unit as RpcUnit}
use Rattle.authenticators.specs.Timestamps.{timestamp_of}
use Rattle.end_links.specs.Links.{LinkState}
use Rattle.channel_client.proofs.EffectLaws.{steps_have_effects}
use Rattle.channel_client.proofs.TurnLaws.{one_turn}
use Rattle.channel_client.specs.Effects.{IsCoherent, IsForFirst}
use Rattle.channel_client.specs.Machine.{SetOutcome, Taking, act, act_set, can_start, hear, judge, judge_set, later_logons, lose_of, needs_challenge, place_of, settle, settle_set, start_by, start_of, take_of}
use Rattle.channel_client.specs.State.{Requester}
use Rattle.channel_client.specs.Turns.{gives_right, is_out}
use Rattle.channel_client.specs.declared.answers.Taken.{Taken}
use Rattle.channel_client.specs.declared.answers.Taken.TheVariants as taken
use Rattle.channel_client.specs.declared.hearing.Hearing.{Hearing}
use Rattle.channel_client.specs.declared.hearing.Hearing.TheVariants as hearing
use Rattle.channel_client.specs.declared.hearing.SetHearing.{SetHearing}
use Rattle.channel_client.specs.declared.hearing.SetHearing.TheVariants as set_hearing
use Rattle.channel_client.specs.declared.judging.Judgement.{Judgement}
use Rattle.channel_client.specs.declared.judging.Judgement.TheVariants as judgement
use Rattle.channel_client.specs.declared.state.Pending.{Pending}
use Rattle.channel_client.specs.declared.state.Waiting.{Waiting}
use Rattle.channel_turns.proofs.KeepLaws.{StaysOnTurns, end_of, taken_by, turn_stays}
use Rattle.channel_turns.specs.Dials.{NextTurn, next_by, next_turn}
use Rattle.channel_turns.specs.Turning.{Turned, answer_by, close_if, drop_turn, fail_by, hear_by, hear_if, is_on}
use Rattle.channel_turns.specs.Turns.{TurnServed, turn_served}
use Rattle.channel_turns.specs.declared.state.Dialling.{Dialling}
use Rattle.channel_turns.specs.declared.state.Dialling.TheVariants as dialling
use Rattle.channel_turns.specs.declared.state.TurnEnd.{TurnEnd}
use Rattle.channel_turns.specs.declared.state.TurnEnd.TheVariants as turn_end
use Rattle.channel_turns.specs.declared.state.TurnEnded.{TurnEnded}
use Rattle.channel_turns.specs.declared.state.TurnTalk.{TurnTalk}
use Rattle.channel_turns.specs.declared.state.TurnWork.{TurnWork}
use Rattle.channel_turns.specs.declared.state.Turning.{Turning}
use Rattle.domain_controller.specs.TrustOrder.{places_waiting}
use Rattle.domain_controller.specs.TrustStep.{is_idle}

-- ---- a unit that is taken, and a turn that is lost

-- the places stay, or the first one waits no more, and the turn ended for it
abbrev pub EndsHow : List ℕ → List ℕ → TurnEnd → Type 0
EndsHow before after turn_end.Half = after ≡ before
EndsHow before after turn_end.Opened = after ≡ before
EndsHow before after turn_end.Set = after ≡ before
EndsHow before after (turn_end.Answer place verdict) = before ≡ place ∷ after
EndsHow before after (turn_end.Dropped place cause) = before ≡ place ∷ after

abbrev pub EndsAs : List ℕ → List ℕ → Option TurnEnded → Type 0
EndsAs before after None = after ≡ before
EndsAs before after (Some ended) = EndsHow before after ended.how

abbrev TakenAs : List ℕ → List ℕ → Taken → Type 0
TakenAs before after (taken.Skip right) = after ≡ before
TakenAs before after (taken.Next right frames) = after ≡ before
TakenAs before after taken.Half = after ≡ before
TakenAs before after taken.Opened = after ≡ before
TakenAs before after taken.Set = after ≡ before
TakenAs before after (taken.Answer place verdict) = before ≡ place ∷ after
TakenAs before after (taken.Dropped place cause) = before ≡ place ∷ after

abbrev places : List Waiting → List ℕ
places logons = map (λ (logon : Waiting). logon.place) logons

-- a turn that is out is for the first logon that waits
first_waits : (turn : Option Pending) (logons : List Waiting) → IsForFirst turn logons → is_some turn ≡ true → places logons ≡ place_of turn ∷ places (later_logons logons)
first_waits None logons first out = absurd (let x = out in cc)
first_waits (Some p) [] first out = absurd first
first_waits (Some p) (logon ∷ logons) first out = ap (λ (place : ℕ). place ∷ places logons) (sym first.0)

module _ (s : Requester) (coherent : IsCoherent s) (out : is_out s ≡ true) where
  abbrev Moves : Taking → Type 0
  Moves taking = TakenAs (places_waiting s) (places_waiting taking.state) taking.taken

  first_is : places_waiting s ≡ place_of s.turn ∷ places (later_logons s.waiting)
  first_is = first_waits s.turn s.waiting coherent.first out

  settles : (what : Judgement) → Moves (settle what s)
  settles (judgement.Half client server) = refl
  settles (judgement.Opened o) = refl
  settles (judgement.Answer o v) = first_is
  settles (judgement.Drop cause) = first_is

  settles_set : (what : SetOutcome) → Moves (settle_set what s)
  settles_set (Ok o) = refl
  settles_set (Err cause) = first_is

  acts_set : (what : SetHearing) → Moves (act_set what s)
  acts_set (set_hearing.Next frames) = refl
  acts_set (set_hearing.Reply r) = settles_set (judge_set r s.standing)

  acts : (what : Hearing) → Moves (act what s)
  acts hearing.Skip = refl
  acts (hearing.Next q frames) = refl
  acts (hearing.Reply q r) = settles (judge q r s.standing s.caller.secret)
  acts (hearing.Drop cause) = settles (judgement.Drop cause)
  acts (hearing.Set what) = acts_set what

  takes : (unit : RpcUnit) → Moves (take_of s unit)
  takes unit = acts (hear s.turn unit s.next_call)

  pub lost_first : places_waiting s ≡ (lose_of s).place ∷ places_waiting (lose_of s).state
  lost_first = first_is

-- ---- the units of a piece

taken_same : (before after : List ℕ) (what : Taken) → gives_right what ≡ true → TakenAs before after what → after ≡ before
taken_same before after (taken.Skip right) gives is = is
taken_same before after (taken.Next right frames) gives is = is
taken_same before after taken.Half gives is = is
taken_same before after taken.Opened gives is = is
taken_same before after taken.Set gives is = is
taken_same before after (taken.Answer place verdict) gives so = absurd (let x = gives in cc)
taken_same before after (taken.Dropped place cause) gives so = absurd (let x = gives in cc)

taken_ends : (before after : List ℕ) (what : Taken) (how : TurnEnd) → end_of what ≡ Some how → TakenAs before after what → EndsHow before after how
taken_ends before after (taken.Skip right) how ends so = absurd (let x = ends in cc)
taken_ends before after (taken.Next right frames) how ends so = absurd (let x = ends in cc)
taken_ends before after taken.Half how ends so = subst (λ (h : TurnEnd). EndsHow before after h) (let same : turn_end.Half ≡ how = (let x = ends in cc) in same) so
taken_ends before after taken.Opened how ends so = subst (λ (h : TurnEnd). EndsHow before after h) (let same : turn_end.Opened ≡ how = (let x = ends in cc) in same) so
taken_ends before after taken.Set how ends so = subst (λ (h : TurnEnd). EndsHow before after h) (let same : turn_end.Set ≡ how = (let x = ends in cc) in same) so
taken_ends before after (taken.Answer place verdict) how ends so =
    subst (λ (h : TurnEnd). EndsHow before after h) (let same : turn_end.Answer place verdict ≡ how = (let x = ends in cc) in same) so
taken_ends before after (taken.Dropped place cause) how ends so =
    subst (λ (h : TurnEnd). EndsHow before after h) (let same : turn_end.Dropped place cause ≡ how = (let x = ends in cc) in same) so

-- with the turn still out, or ended
abbrev ServedAs : List ℕ → TurnServed → Type 0
ServedAs before (at, None) = IsCoherent at.channel × EndsAs before (places_waiting at.channel) at.ended
ServedAs before (at, Some talk) = IsCoherent at.channel × (is_out at.channel ≡ true) × (places_waiting at.channel ≡ before) × (at.ended ≡ None)

module _ (before : List ℕ) where
  abbrev Holds : TurnServed → Type 0
  Holds served = ServedAs before served

  -- what a unit leaves, of a channel at which those waited
  moved : (s : Requester) (unit : RpcUnit) → IsCoherent s → is_out s ≡ true → places_waiting s ≡ before →
      TakenAs before (places_waiting (take_of s unit).state) (take_of s unit).taken
  moved s unit coherent out same = subst (λ (all : List ℕ). TakenAs all (places_waiting (take_of s unit).state) (take_of s unit).taken) same (takes s coherent out unit)

  turns_move : StaysOnTurns Holds
  turns_move = record {
    waits = λ at talk other holds. holds;
    takes = λ unit joiner at talk holds.
        let s : Requester = at.channel in
        let coherent : IsCoherent (take_of s unit).state = (steps_have_effects.take 0 s unit holds.0).1 in
        let so : TakenAs before (places_waiting (take_of s unit).state) (take_of s unit).taken = moved s unit holds.0 holds.1 holds.2 in
        let right : gives_right (take_of s unit).taken ≡ is_out (take_of s unit).state = one_turn.take s unit holds.1 in
        taken_by (take_of s unit).taken joiner (record at { channel = (take_of s unit).state }) Holds (record {
          skips = λ given is.
              let gives : gives_right (take_of s unit).taken ≡ true = ap gives_right is in
              (coherent, sym right ∙ gives, taken_same before (places_waiting (take_of s unit).state) (take_of s unit).taken gives so, holds.3);
          sends = λ given frames is.
              let gives : gives_right (take_of s unit).taken ≡ true = ap gives_right is in
              (coherent, sym right ∙ gives, taken_same before (places_waiting (take_of s unit).state) (take_of s unit).taken gives so, holds.3);
          ends = λ how is. (coherent, taken_ends before (places_waiting (take_of s unit).state) (take_of s unit).taken how is so);
        });
    breaks = λ cause at talk holds. (
      (steps_have_effects.lose 0 at.channel holds.0).1,
      subst (λ (all : List ℕ). all ≡ (lose_of at.channel).place ∷ places_waiting (lose_of at.channel).state) holds.2 (lost_first at.channel holds.0 holds.1),
    );
  }

-- ---- events on the link of the turn

-- a turn is out exactly while it is dialled
abbrev pub AgreesOn : Turning → Type 0
AgreesOn turning = is_out turning.channel ≡ not (is_idle turning.dialling)

abbrev pub TurnMoves : Requester → Turned → Type 0
TurnMoves before turned = IsCoherent turned.0.channel × EndsAs (places_waiting before) (places_waiting turned.0.channel) turned.1

abbrev pub MovesOn : (Turning → Turned) → Type 0
MovesOn happens = (turning : Turning) → IsCoherent turning.channel → AgreesOn turning → TurnMoves turning.channel (happens turning)

stays : (turning : Turning) → IsCoherent turning.channel → TurnMoves turning.channel (turning, None)
stays turning coherent = (coherent, refl)

drops : (cause : DropCause) (turning : Turning) → IsCoherent turning.channel → is_out turning.channel ≡ true → TurnMoves turning.channel (drop_turn cause turning.channel turning.actions)
drops cause turning coherent out = ((steps_have_effects.lose 0 turning.channel coherent).1, lost_first turning.channel coherent out)

busy_out : (turning : Turning) (how : Dialling) → turning.dialling ≡ how → is_idle how ≡ false → AgreesOn turning → is_out turning.channel ≡ true
busy_out turning how is busy agrees = agrees ∙ ap (λ (d : Dialling). not (is_idle d)) is ∙ ap not busy

closes_on : (how : Dialling) (number : ℕ) (b : Bool) (turning : Turning) → turning.dialling ≡ how → is_on number how ≡ b → IsCoherent turning.channel → AgreesOn turning →
    TurnMoves turning.channel (close_if b turning)
closes_on how number false turning is on coherent agrees = stays turning coherent
closes_on dialling.Nothing number true turning is on coherent agrees = absurd (let x = on in cc)
closes_on (dialling.Waits turn frames) number true turning is on coherent agrees = absurd (let x = on in cc)
closes_on (dialling.On other said) number true turning is on coherent agrees =
    drops drop_cause.LinkClosed turning coherent (busy_out turning (dialling.On other said) is refl agrees)

pub closes_moves : (number : ℕ) → MovesOn (λ turning. close_if (is_on number turning.dialling) turning)
closes_moves number turning coherent agrees = closes_on turning.dialling number (is_on number turning.dialling) turning refl refl coherent agrees

pub fails_move : (how : Dialling) (turning : Turning) → turning.dialling ≡ how → IsCoherent turning.channel → AgreesOn turning → TurnMoves turning.channel (fail_by how turning)
fails_move dialling.Nothing turning is coherent agrees = stays turning coherent
fails_move (dialling.Waits turn frames) turning is coherent agrees =
    drops drop_cause.DialFailed turning coherent (busy_out turning (dialling.Waits turn frames) is refl agrees)
fails_move (dialling.On number said) turning is coherent agrees = stays turning coherent

pub answers_move : (how : Dialling) (link : ℕ) (turning : Turning) → IsCoherent turning.channel → TurnMoves turning.channel (answer_by how link turning, None)
answers_move dialling.Nothing link turning coherent = (coherent, refl)
answers_move (dialling.Waits turn frames) link turning coherent = (coherent, refl)
answers_move (dialling.On number said) link turning coherent = (coherent, refl)

served_moves : (before : Requester) (served : TurnServed) → ServedAs (places_waiting before) served → IsCoherent served.0.channel × EndsAs (places_waiting before) (places_waiting served.0.channel) served.0.ended
served_moves before (at, None) holds = holds
served_moves before (at, Some talk) holds =
    (holds.0, subst (λ (ended : Option TurnEnded). EndsAs (places_waiting before) (places_waiting at.channel) ended) (sym holds.3) holds.2)

hears_if : (b : Bool) (number : ℕ) (said : LinkState TurnTalk) (piece : List ℕ) (turning : Turning) → IsCoherent turning.channel → is_out turning.channel ≡ true →
    TurnMoves turning.channel (hear_if b number said piece turning)
hears_if false number said piece turning coherent out = stays turning coherent
hears_if true number said piece turning coherent out =
    let at : TurnWork = record { link = number; channel = turning.channel; actions = turning.actions; ended = None } in
    served_moves turning.channel (turn_served (cut_stream (said.rest ++ piece)) at said.talk)
    (turn_stays (ServedAs (places_waiting turning.channel)) (turns_move (places_waiting turning.channel)) (cut_stream (said.rest ++ piece)) at said.talk (coherent, out, refl, refl))

pub hears_move : (how : Dialling) (link : ℕ) (piece : List ℕ) (turning : Turning) → turning.dialling ≡ how → IsCoherent turning.channel → AgreesOn turning →
    TurnMoves turning.channel (hear_by how link piece turning)
hears_move dialling.Nothing link piece turning is coherent agrees = stays turning coherent
hears_move (dialling.Waits turn frames) link piece turning is coherent agrees = stays turning coherent
hears_move (dialling.On number said) link piece turning is coherent agrees =
    hears_if (number == link) number said piece turning coherent (busy_out turning (dialling.On number said) is refl agrees)

-- ---- the next turn: who waits stays, and where one can start, one does

start_same : (turn : Option Pending) (logons : List Waiting) (s : Requester) (timestamp : ℕ) (challenge : List ℕ) → (start_by turn logons s timestamp challenge).state.waiting ≡ s.waiting
start_same (Some pending) logons s timestamp challenge = refl
start_same None [] s timestamp challenge = refl
start_same None (logon ∷ logons) s timestamp challenge = refl

pub record IsNextOf (channel : Requester) (next : NextTurn) : Type 0 where
  pub coherent : IsCoherent next.0
  pub waiting : next.0.waiting ≡ channel.waiting
  pub starts : can_start channel.turn channel.waiting ≡ true → is_some next.1 ≡ true

abbrev pub NextOf : Requester → Result (Part NextTurn) StepRefused → Type 0
NextOf channel (Err why) = Unit {0}
NextOf channel (Ok part) = IsNextOf channel part.value

begun : (channel : Requester) (timestamp : ℕ) (challenge : List ℕ) → IsCoherent channel → IsNextOf channel ((start_of channel timestamp challenge).state, (start_of channel timestamp challenge).answer)
begun channel timestamp challenge coherent = record {
  coherent = (steps_have_effects.start 0 channel timestamp challenge coherent).1;
  waiting = start_same channel.turn channel.waiting channel timestamp challenge;
  starts = λ can. one_turn.start channel timestamp challenge ∙ can;
}

next_is : (can needs : Bool) (now : ℕ) (channel : Requester) (left : List (List ℕ)) → can_start channel.turn channel.waiting ≡ can → IsCoherent channel → NextOf channel (next_by can needs now channel left)
next_is false needs now channel left is coherent =
    record { coherent = coherent; waiting = refl; starts = λ can. absurd (let never : false ≡ true = sym is ∙ can in cc) }
next_is true false now channel left is coherent = begun channel (timestamp_of now) _ coherent
next_is true true now channel [] is coherent = tt
next_is true true now channel (challenge ∷ left) is coherent = begun channel (timestamp_of now) challenge coherent

pub next_moves : (now : ℕ) (channel : Requester) (left : List (List ℕ)) → IsCoherent channel → NextOf channel (next_turn now channel left)
next_moves now channel left coherent = next_is (can_start channel.turn channel.waiting) (needs_challenge channel.standing) now channel left refl coherent
