-- A member's turns are those of every end that asks. It serves `turns_are_shared`, and the calls over the link of the
-- turn.
use Rattle.std.proofs.Common.{◌≡◌, ◌==◌, ℕ, Bool, true, false, List, [], ◌∷◌, ◌++◌, Option, Some, None, Result, Ok, Err, refl, sym, ap, subst, ◌∙◌, arith}
use Rattle.std.proofs.lemmas.Bool.Decides.{nat_tests}
use Rattle.outside.specs.declared.action.StepRefused.{StepRefused}
use Rattle.outside.specs.declared.action.StepRefused.TheVariants.{Memory}
use Rattle.outside.specs.Machine.{AnswersBy, Part, left_by, then_part}
use Rattle.outside.specs.Drawing.{IsRest}
use Rattle.outside.proofs.DrawLaws.{DrawsSome-none, IsRest-refl}
use Rattle.outside.proofs.MachineLaws.{AnswersBy-refused}
use Rattle.wire_base.specs.Maps.{lookup, same_number}
use Rattle.rpc_units.specs.declared.refused.UnitRefused.{UnitRefused}
use Rattle.rpc_units.specs.Reading.{unit_of}
use Rattle.rpc_units.specs.Stream.{cut_stream}
use Rattle.end_links.specs.Serving.{ServedPart, served_by, then_talk}
use Rattle.channel_client.specs.Machine.{can_start, needs_challenge, take_of}
use Rattle.channel_turns.specs.declared.hearing.Heard.{Heard}
use Rattle.channel_turns.specs.declared.hearing.Heard.TheVariants as heard
use Rattle.channel_turns.specs.declared.state.Dialling.{Dialling}
use Rattle.channel_turns.specs.declared.state.Dialling.TheVariants as dialling
use Rattle.channel_turns.specs.declared.state.Turning.{Turning}
use Rattle.channel_turns.specs.declared.state.TurnTalk.{TurnTalk}
use Rattle.channel_turns.specs.Dials.{next_by}
use Rattle.channel_turns.specs.Hearing.{heard_of}
use Rattle.channel_turns.specs.Turning as turning
use Rattle.channel_turns.specs.Turning.{is_on, link_hears, next_dial}
use Rattle.channel_turns.specs.Turns as turns
use Rattle.channel_turns.proofs.KeepLaws.{taken_by}
use Rattle.member_server.specs.declared.state.Work.{Work}
use Rattle.member_server.specs.Outcomes.{tell_at}
use Rattle.outside.specs.declared.action.Action.TheVariants as action
use Rattle.end_links.specs.Sending.{joined_frames}
use Rattle.member_server.specs.Machine.{after_turn, at_turn, bytes_by, bytes_on, bytes_on_link, drawless_part}
use Rattle.member_server.specs.Sharing.{SharesTurns, turned_part}
use Rattle.member_server.specs.Turns.{AtTurn, DialWork, TurnServed, after_turn_served, after_turned, next_turn, ready_channel, turn_server, turn_talk, turn_work, turning_of, with_requester, with_work}

-- ---- the units of a stream

module _ (units : List (List ℕ)) (why : Option UnitRefused) (left : List (List ℕ)) where
  abbrev IsShared : ServedPart AtTurn TurnTalk → AtTurn → turns.TurnServed → Type 0
  IsShared part at served = part ≡ Ok (record { value = after_turn_served served at; left = left })

  abbrev Each : Type 0
  Each = (at : AtTurn) (talk : TurnTalk) →
      IsShared (served_by turn_server units why at talk left) at (turns.served_by units why (turn_work at) talk)

  abbrev then_own : TurnServed → ServedPart AtTurn TurnTalk
  then_own served = then_talk served.0 served.1 left (λ later said rest. served_by turn_server units why later said rest)

  abbrev then_shared : turns.TurnServed → turns.TurnServed
  then_shared served = turns.then_said served (λ later said. turns.served_by units why later said)

  after_heard : (what : Heard) (at : AtTurn) → Each →
      IsShared (then_own (after_turn_served (turns.do_heard what (turn_work at)) at)) at (then_shared (turns.do_heard what (turn_work at)))
  after_heard (heard.Waits joiner) at each = each at (turn_talk joiner)
  after_heard (heard.Whole unit joiner) at each =
      let taking = take_of at.work.logons.channel unit in
      let after : AtTurn = with_work at (with_requester at.work taking.state) in
      taken_by taking.taken joiner (turn_work after) (λ served. IsShared (then_own (after_turn_served served at)) at (then_shared served)) (record {
        skips = λ right is. each after (turn_talk joiner);
        sends = λ right frames is. each (with_work at (tell_at after.work (action.Send at.link (joined_frames frames)))) (turn_talk joiner);
        ends = λ how is. refl;
      })
  after_heard (heard.Broken cause) at each = refl

by_shared : (units : List (List ℕ)) (why : Option UnitRefused) (at : AtTurn) (talk : TurnTalk) (left : List (List ℕ)) →
    served_by turn_server units why at talk left
    ≡ Ok (record { value = after_turn_served (turns.served_by units why (turn_work at) talk) at; left = left })
by_shared [] None at talk left = refl
by_shared [] (Some why) at talk left = refl
by_shared (bytes ∷ units) why at talk left =
    after_heard units why left (heard_of (unit_of bytes) talk.joiner) at (λ later said. by_shared units why later said left)

-- ---- bytes on the link of the turn

same_link : (other link : ℕ) → (other == link) ≡ true → other ≡ link
same_link other link is = grind (arith, nat_tests)

pub bytes_shared : (how : Dialling) (number : ℕ) (piece : List ℕ) (work : Work) (left : List (List ℕ)) → is_on number how ≡ true →
    bytes_on how number piece work left ≡ drawless_part (after_turned (link_hears number piece (turning_of work how)) work) left
bytes_shared dialling.Nothing number piece work left on = absurd (let x = on in cc)
bytes_shared (dialling.Waits turn frames) number piece work left on = absurd (let x = on in cc)
bytes_shared (dialling.On other said) number piece work left on =
    let cut = cut_stream (said.rest ++ piece) in
    ap (λ (hit : Bool). bytes_by hit said number piece (dialling.On other said) work left) on
    ∙ ap (λ (p : ServedPart AtTurn TurnTalk). after_turn p cut.rest number) (by_shared cut.units cut.refused (at_turn number work) said.talk left)
    ∙ ap (λ (n : ℕ). drawless_part (after_turned (turning.hear_on n said piece work.logons.channel work.actions) work) left) (sym (same_link other number on))
    ∙ ap (λ (hit : Bool). drawless_part (after_turned (turning.hear_if hit other said piece (turning_of work (dialling.On other said))) work) left) (sym on)

-- no memory was found
pub bytes_unserved : (how : Dialling) (number : ℕ) (piece : List ℕ) (work : Work) (left : List (List ℕ)) → is_on number how ≡ true →
    AnswersBy (Err Memory) (bytes_on how number piece work left) left
bytes_unserved how number piece work left on =
    subst (λ p. IsRest (left_by p) left) (sym (bytes_shared how number piece work left on)) (IsRest-refl left)

-- bytes on another link than that of the turn
pub bytes_off : (how : Dialling) (number : ℕ) (piece : List ℕ) (work : Work) (left : List (List ℕ)) → is_on number how ≡ false →
    bytes_on how number piece work left ≡ bytes_on_link (lookup same_number number work.links) number piece how work left
bytes_off dialling.Nothing number piece work left off = refl
bytes_off (dialling.Waits turn frames) number piece work left off = refl
bytes_off (dialling.On other said) number piece work left off = ap (λ (hit : Bool). bytes_by hit said number piece (dialling.On other said) work left) off

-- ---- the next turn

then_again : {T U V : Type 0} (part : Result (Part T) StepRefused) (next : T → List (List ℕ) → Result (Part U) StepRefused) (last : U → List (List ℕ) → Result (Part V) StepRefused) →
    then_part part (λ value left. then_part (next value left) last) ≡ then_part (then_part part next) last
then_again (Err why) next last = refl
then_again (Ok part) next last = refl

-- the member whose channel was given its secrets
abbrev pub ready : Work → Work
ready work = with_requester work (ready_channel work)

next_shared : (now : ℕ) (work : Work) (how : Dialling) (left : List (List ℕ)) →
    next_turn now (work, how) left ≡ then_part (next_dial now work.logons.plan.controller (turning_of (ready work) how) left) (turned_part work)
next_shared now work how left =
    let c = work.logons.channel in
    then_again (next_by (can_start c.turn c.waiting) (needs_challenge c.standing) now (ready_channel work) left)
    (turning.dial_part work.logons.plan.controller (turning_of (ready work) how)) (turned_part work)

pub next_done : (now : ℕ) (work : Work) (how : Dialling) (turning : Turning) (dial_work : DialWork) (before after : List (List ℕ)) →
    next_dial now work.logons.plan.controller (turning_of (ready work) how) before ≡ Ok (record { value = turning; left = after }) →
    dial_work ≡ after_turned (turning, None) work → next_turn now (work, how) before ≡ Ok (record { value = dial_work; left = after })
next_done now work how turning dial_work before after is done =
    next_shared now work how before ∙ ap (λ p. then_part p (turned_part work)) is
    ∙ ap (λ (d : DialWork). Ok (record { value = d; left = after })) (sym done)

pub next_refused : (why : StepRefused) (now : ℕ) (work : Work) (how : Dialling) (before after : List (List ℕ)) →
    AnswersBy (Err why) (next_dial now work.logons.plan.controller (turning_of (ready work) how) before) after →
    AnswersBy (Err why) (next_turn now (work, how) before) after
next_refused why now work how before after answer =
    subst (λ p. AnswersBy (Err why) p after) (sym (next_shared now work how before))
    (AnswersBy-refused why (next_dial now work.logons.plan.controller (turning_of (ready work) how) before) (turned_part work) after
    (λ turning left. IsRest-refl left) answer)

pub shares_turns : SharesTurns
shares_turns = record {
  units = λ cut at talk left. by_shared cut.units cut.refused at talk left;
  bytes = bytes_shared;
  next = next_shared;
}

pub ruleset serving = (bytes_shared, bytes_unserved, bytes_off, DrawsSome-none)
