-- A turn ends once, and what becomes of its channel. It serves `turns_end_once` and `turns_step_their_channel`.
use Rattle.std.proofs.Common.{◌≡◌, ℕ, Bool, true, false, List, [], ◌∷◌, map, Option, Some, None, is_some, Result, Ok, Err, refl, sym, ap, ap₂, ◌∙◌}
use Rattle.std.specs.List.{AllByRecursion}
use Rattle.rpc_units.specs.Calls.{IsHeard}
use Rattle.rpc_units.specs.Joining.{AddsTo, answer_by, answer_of, grown, joined_of, kept_by, open_after}
use Rattle.rpc_units.specs.Reading.{unit_of}
use Rattle.rpc_units.specs.Stream.{Cut, cut_stream}
use Rattle.rpc_units.specs.Writing.{written}
use Rattle.rpc_units.specs.declared.refused.JoinRefused.{JoinRefused}
use Rattle.rpc_units.specs.declared.refused.UnitRefused.{UnitRefused}
use Rattle.rpc_units.specs.declared.unit.Unit.{Unit as RpcUnit}
use Rattle.channel_client.specs.Machine.{take_of}
use Rattle.channel_client.specs.State.{Requester}
use Rattle.channel_client.specs.Turns.{gives_right, is_out}
use Rattle.channel_client.specs.declared.answers.Taken.{Taken}
use Rattle.channel_client.specs.declared.answers.Taken.TheVariants as taken
use Rattle.channel_client.proofs.TurnLaws.{one_turn}
use Rattle.channel_turns.specs.declared.hearing.Heard.{Heard}
use Rattle.channel_turns.specs.declared.hearing.Heard.TheVariants as heard
use Rattle.channel_turns.specs.declared.state.TurnEnd.{TurnEnd}
use Rattle.channel_turns.specs.declared.state.TurnTalk.{TurnTalk}
use Rattle.channel_turns.specs.declared.state.TurnWork.{TurnWork}
use Rattle.channel_turns.specs.Hearing.{heard_by, heard_of}
use Rattle.channel_turns.specs.Laws.{EndsOnce, TurnsEndOnce, TurnsStepTheChannel, is_refused, or_broken, taken_in_order, then_heard, while_out, whole_units}
use Rattle.channel_turns.specs.Turns.{TurnServed, do_heard, do_taken, served_by, take_by, then_said, turn_served, turn_talk, turn_unit, with_channel}
use Rattle.channel_turns.proofs.KeepLaws.{end_of, taken_by, turn_stays}
use Rattle.channel_turns.proofs.ServedLaws.{served_part}

-- ---- a turn ends once

ends_once : (cut : Cut) (at : TurnWork) (talk : TurnTalk) → at.ended ≡ None → EndsOnce (turn_served cut at talk)
ends_once cut at talk not_yet =
    turn_stays EndsOnce (record {
      waits = λ at talk other ends. ends;
      takes = λ unit joiner at talk ends.
          let taking = take_of at.channel unit in
          taken_by taking.taken joiner (with_channel taking.state at) EndsOnce (record {
            skips = λ right is. ends;
            sends = λ right frames is. ends;
            ends = λ how is. refl;
          });
      breaks = λ cause at talk ends. refl;
    }) cut at talk not_yet

-- ---- a turn is out while its link stays open

abbrev IsOutWhile : TurnServed → Type 0
IsOutWhile served = is_out served.0.channel ≡ is_some served.1

ended_right : (what : Taken) (how : TurnEnd) → end_of what ≡ Some how → gives_right what ≡ false
ended_right (taken.Skip right) how is = absurd (let x = is in cc)
ended_right (taken.Next right frames) how is = absurd (let x = is in cc)
ended_right taken.Half how is = refl
ended_right taken.Opened how is = refl
ended_right (taken.Answer place verdict) how is = refl
ended_right (taken.Dropped place cause) how is = refl
ended_right taken.Set how is = refl

stays_out : (cut : Cut) (at : TurnWork) (talk : TurnTalk) → is_out at.channel ≡ true → IsOutWhile (turn_served cut at talk)
stays_out cut at talk out =
    turn_stays IsOutWhile (record {
      waits = λ at talk other out. out;
      takes = λ unit joiner at talk out.
          let taking = take_of at.channel unit in
          let right : gives_right taking.taken ≡ is_out taking.state = one_turn.take at.channel unit out in
          taken_by taking.taken joiner (with_channel taking.state at) IsOutWhile (record {
            skips = λ turn is. sym right ∙ ap gives_right is;
            sends = λ turn frames is. sym right ∙ ap gives_right is;
            ends = λ how is. sym right ∙ ended_right taking.taken how is;
          });
      breaks = λ cause at talk out. refl;
    }) cut at talk out

pub turns_end : TurnsEndOnce
turns_end = record {
  part = served_part;
  once = ends_once;
  out = stays_out;
  lost = λ cause channel. refl;
}

-- ---- units are taken in order

module _ (units : List (List ℕ)) (why : Option UnitRefused) where
  -- what becomes of the channel by the units behind a first one
  abbrev later_taken : Option RpcUnit → Requester → Requester
  later_taken joiner c = taken_in_order (whole_units units joiner) (is_refused units why joiner) c

  abbrev Each : Type 0
  Each = (at : TurnWork) (talk : TurnTalk) → (served_by units why at talk).0.channel ≡ later_taken talk.joiner at.channel

  abbrev then_served : TurnServed → TurnServed
  then_served served = then_said served (λ later said. served_by units why later said)

  after_taken : (t : Taken) (joiner : Option RpcUnit) (at : TurnWork) → Each →
      (then_served (do_taken t joiner at)).0.channel ≡ while_out (gives_right t) at.channel (λ after. later_taken joiner after)
  after_taken (taken.Skip turn) joiner at each = each at (turn_talk joiner)
  after_taken (taken.Next turn frames) joiner at each = each (do_taken (taken.Next turn frames) joiner at).0 (turn_talk joiner)
  after_taken taken.Half joiner at each = refl
  after_taken taken.Opened joiner at each = refl
  after_taken (taken.Answer place verdict) joiner at each = refl
  after_taken (taken.Dropped place cause) joiner at each = refl
  after_taken taken.Set joiner at each = refl

  after_heard : (what : Heard) (at : TurnWork) → Each →
      (then_served (do_heard what at)).0.channel ≡
      taken_in_order (then_heard what (λ after. whole_units units after)) (or_broken what (λ after. is_refused units why after)) at.channel
  after_heard (heard.Waits joiner) at each = each at (turn_talk joiner)
  after_heard (heard.Whole unit joiner) at each =
      after_taken (take_of at.channel unit).taken joiner (with_channel (take_of at.channel unit).state at) each
  after_heard (heard.Broken cause) at each = refl

takes_by : (units : List (List ℕ)) (why : Option UnitRefused) (at : TurnWork) (talk : TurnTalk) →
    (served_by units why at talk).0.channel ≡ taken_in_order (whole_units units talk.joiner) (is_refused units why talk.joiner) at.channel
takes_by [] None at talk = refl
takes_by [] (Some why) at talk = refl
takes_by (bytes ∷ units) why at talk =
    after_heard units why (heard_of (unit_of bytes) talk.joiner) at (λ later said. takes_by units why later said)

-- ---- the bytes of one whole unit

whole_last : (joined : Result RpcUnit JoinRefused) (last : Bool) (whole : RpcUnit) → answer_by joined last ≡ Ok (Some whole) → last ≡ true
whole_last (Err why) last whole is = absurd (let x = is in cc)
whole_last (Ok unit) true whole is = refl
whole_last (Ok unit) false whole is = absurd (let x = is in cc)

none_open : (so_far : Option RpcUnit) (frame whole : RpcUnit) → answer_of so_far frame ≡ Ok (Some whole) → open_after so_far frame ≡ None
none_open so_far frame whole is = ap (λ (last : Bool). kept_by last (grown so_far frame)) (whole_last (joined_of so_far frame) frame.last whole is)

abbrev AreRead : List RpcUnit → Type 0
AreRead frames = AllByRecursion (λ (frame : RpcUnit). unit_of (written frame) ≡ Ok frame) frames

each_read : (frames : List RpcUnit) → map unit_of (map written frames) ≡ map (λ (unit : RpcUnit). Ok unit) frames → AreRead frames
each_read [] all = tt
each_read (frame ∷ frames) all = (let x = all in cc, each_read frames (let x = all in cc))

part_served : (frame : RpcUnit) (at : TurnWork) (talk : TurnTalk) → unit_of (written frame) ≡ Ok frame → answer_of talk.joiner frame ≡ Ok None →
    turn_unit (unit_of (written frame)) talk.joiner at ≡ (at, Some (turn_talk (open_after talk.joiner frame)))
part_served frame at talk read adds =
    ap (λ (r : _). turn_unit r talk.joiner at) read
    ∙ ap (λ (a : Result (Option RpcUnit) JoinRefused). do_heard (heard_by a (open_after talk.joiner frame)) at) adds

last_served : (frame unit : RpcUnit) (at : TurnWork) (talk : TurnTalk) → unit_of (written frame) ≡ Ok frame → answer_of talk.joiner frame ≡ Ok (Some unit) →
    turn_unit (unit_of (written frame)) talk.joiner at ≡ take_by (take_of at.channel unit) None at
last_served frame unit at talk read adds =
    ap (λ (r : _). turn_unit r talk.joiner at) read
    ∙ ap₂ (λ (a : Result (Option RpcUnit) JoinRefused) (o : Option RpcUnit). do_heard (heard_by a o) at) adds (none_open talk.joiner frame unit adds)

no_more : (served : TurnServed) → then_said served (λ later said. served_by [] None later said) ≡ served
no_more (at, None) = refl
no_more (at, Some talk) = refl

frames_come : (unit : RpcUnit) (frames : List RpcUnit) (at : TurnWork) (talk : TurnTalk) → AreRead frames → AddsTo talk.joiner frames unit →
    served_by (map written frames) None at talk ≡ take_by (take_of at.channel unit) None at
frames_come unit [] at talk read adds = absurd adds
frames_come unit (frame ∷ []) at talk read adds =
    ap (λ (s : TurnServed). then_said s (λ later said. served_by [] None later said)) (last_served frame unit at talk read.0 adds)
    ∙ no_more (take_by (take_of at.channel unit) None at)
frames_come unit (frame ∷ next ∷ frames) at talk read adds =
    ap (λ (s : TurnServed). then_said s (λ later said. served_by (map written (next ∷ frames)) None later said)) (part_served frame at talk read.0 adds.0)
    ∙ frames_come unit (next ∷ frames) at (turn_talk (open_after talk.joiner frame)) read.1 adds.1

pub whole_served : (bytes : List ℕ) (frames : List RpcUnit) (unit : RpcUnit) (at : TurnWork) → IsHeard bytes frames unit →
    turn_served (cut_stream bytes) at (turn_talk None) ≡ take_by (take_of at.channel unit) None at
whole_served bytes frames unit at comes =
    ap (λ (cut : Cut). turn_served cut at (turn_talk None)) comes.stream
    ∙ frames_come unit frames at (turn_talk None) (each_read frames comes.read) comes.joined

pub turns_step : TurnsStepTheChannel
turns_step = record {
  takes = λ cut at talk. takes_by cut.units cut.refused at talk;
  whole = whole_served;
}
