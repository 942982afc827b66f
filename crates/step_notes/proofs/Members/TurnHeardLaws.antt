-- What the end that asks takes of the bytes of one whole unit.
-- It serves `members_take_whole`.
use Rattle.std.proofs.Common.{◌≡◌, ℕ, List, [], ◌∷◌, map, Option, Some, None, Result, Ok, Err, refl, sym, ap, ap₂, subst, ◌∙◌}
use Rattle.channel_client.specs.Machine.{take_of}
use Rattle.rpc_units.specs.Joining.{AddsTo, answer_of, open_after}
use Rattle.rpc_units.specs.Reading.{unit_of}
use Rattle.rpc_units.specs.Writing.{written}
use Rattle.rpc_units.specs.declared.refused.JoinRefused.{JoinRefused}
use Rattle.rpc_units.specs.declared.unit.Unit.{Unit as RpcUnit}
use Rattle.end_links.specs.Serving.{ServedPart, ServedUnit, served_units, units_on, units_then}
use Rattle.member_server.specs.Turns.{AtTurn, take_by, turn_by_join, turn_server, turn_talk, turn_unit}
use Rattle.channel_turns.specs.declared.state.TurnTalk.{TurnTalk}
use Rattle.member_server.proofs.ChannelStepLaws.{whole_served}
use Rattle.step_notes.specs.MemberNotes.{taking_joined, taking_read}
use Rattle.step_notes.specs.TakenWhole.{MembersTakeWhole, TakesWhole}
use Rattle.step_notes.proofs.Controllers.HeardLaws.{AreRead, each_read, none_open}

-- a frame behind which more is to come changes nothing but what is open
part_served : (frame : RpcUnit) (at : AtTurn) (talk : TurnTalk) (left : List (List ℕ)) → unit_of (written frame) ≡ Ok frame → answer_of talk.joiner frame ≡ Ok None →
    turn_server.unit (written frame) at talk left ≡ Ok (record { value = (at, Some (turn_talk (open_after talk.joiner frame))); left = left })
part_served frame at talk left read adds =
    ap (λ (r : _). Ok (record { value = turn_unit r talk.joiner at; left = left })) read
    ∙ ap (λ (a : Result (Option RpcUnit) JoinRefused). Ok (record { value = turn_by_join a (open_after talk.joiner frame) at; left = left })) adds

last_served : (frame unit : RpcUnit) (at : AtTurn) (talk : TurnTalk) (left : List (List ℕ)) → unit_of (written frame) ≡ Ok frame → answer_of talk.joiner frame ≡ Ok (Some unit) →
    turn_server.unit (written frame) at talk left ≡ Ok (record { value = take_by (take_of at.work.logons.channel unit) None at; left = left })
last_served frame unit at talk left read adds =
    ap (λ (r : _). Ok (record { value = turn_unit r talk.joiner at; left = left })) read
    ∙ ap₂ (λ (a : Result (Option RpcUnit) JoinRefused) (o : Option RpcUnit). Ok (record { value = turn_by_join a o at; left = left })) adds (none_open talk.joiner frame unit adds)

none_taken : (frame : RpcUnit) (at : AtTurn) (talk : TurnTalk) → unit_of (written frame) ≡ Ok frame → answer_of talk.joiner frame ≡ Ok None →
    taking_read (unit_of (written frame)) talk.joiner at.work.logons.channel ≡ None
none_taken frame at talk read adds =
    ap (λ (r : _). taking_read r talk.joiner at.work.logons.channel) read ∙ ap (λ (a : Result (Option RpcUnit) JoinRefused). taking_joined a at.work.logons.channel) adds

one_taken : (frame unit : RpcUnit) (at : AtTurn) (talk : TurnTalk) → unit_of (written frame) ≡ Ok frame → answer_of talk.joiner frame ≡ Ok (Some unit) →
    taking_read (unit_of (written frame)) talk.joiner at.work.logons.channel ≡ Some (take_of at.work.logons.channel unit)
one_taken frame unit at talk read adds =
    ap (λ (r : _). taking_read r talk.joiner at.work.logons.channel) read ∙ ap (λ (a : Result (Option RpcUnit) JoinRefused). taking_joined a at.work.logons.channel) adds

-- ---- the units that are served

nothing_on : (at : AtTurn) (said : Option TurnTalk) (left : List (List ℕ)) → units_on at said left (λ later t rest. served_units turn_server [] later t rest) ≡ []
nothing_on at None left = refl
nothing_on at (Some talk) left = refl

nothing_follows : (part : ServedPart AtTurn TurnTalk) → units_then part (λ later t rest. served_units turn_server [] later t rest) ≡ []
nothing_follows (Err why) = refl
nothing_follows (Ok part) = nothing_on part.value.0 part.value.1 part.left

frames_served : (unit : RpcUnit) (frames : List RpcUnit) (at : AtTurn) (talk : TurnTalk) (left : List (List ℕ)) → AreRead frames → AddsTo talk.joiner frames unit →
    TakesWhole at unit left (served_units turn_server (map written frames) at talk left)
frames_served unit [] at talk left read adds = absurd adds
frames_served unit (frame ∷ []) at talk left read adds =
    let one : ServedUnit AtTurn TurnTalk = record { bytes = written frame; work = at; talk = talk; left = left; part = turn_server.unit (written frame) at talk left } in
    record {
      before = [];
      last = one;
      all = ap (λ (rest : _). one ∷ rest) (nothing_follows (turn_server.unit (written frame) at talk left));
      none = tt;
      work = refl;
      takes = one_taken frame unit at talk read.0 adds;
      comes = last_served frame unit at talk left read.0 adds;
    }
frames_served unit (frame ∷ next ∷ frames) at talk left read adds =
    let one : ServedUnit AtTurn TurnTalk = record { bytes = written frame; work = at; talk = talk; left = left; part = turn_server.unit (written frame) at talk left } in
    let rest : TakesWhole at unit left (served_units turn_server (map written (next ∷ frames)) at (turn_talk (open_after talk.joiner frame)) left) =
    frames_served unit (next ∷ frames) at (turn_talk (open_after talk.joiner frame)) left read.1 adds.1 in
    record {
      before = one ∷ rest.before;
      last = rest.last;
      all = ap (λ (p : ServedPart AtTurn TurnTalk). one ∷ units_then p (λ later t more. served_units turn_server (map written (next ∷ frames)) later t more)) (part_served frame at talk left read.0 adds.0)
          ∙ ap (λ (units : _). one ∷ units) rest.all;
      none = ((none_taken frame at talk read.0 adds.0, refl), rest.none);
      work = rest.work;
      takes = rest.takes;
      comes = rest.comes;
    }

pub members_take : MembersTakeWhole
members_take = record {
  units = λ bytes frames unit at talk left is none.
      subst (λ (cut : _). TakesWhole at unit left (served_units turn_server cut.units at talk left)) (sym is.stream)
      (frames_served unit frames at talk left (each_read frames is.read) (subst (λ (joiner : Option RpcUnit). AddsTo joiner frames unit) (sym none) is.joined));
  comes = whole_served;
}
