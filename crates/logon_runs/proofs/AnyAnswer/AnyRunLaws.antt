-- A logon of any client that reaches a member, from rest to rest.
-- Of `logons_rest`.
use Rattle.std.proofs.Common.{◌≡◌, ℕ, true, suc, ◌*◌, ◌<◌, ◌^◌, refl, sym, ap, subst, ◌∙◌, List, [], ◌∷◌, ◌++◌, length, length-append, Option, Some, arith, inl, inr, slice_get}
use Rattle.std.specs.List.{AllByRecursion}
use Rattle.std.specs.Prelude.{◌⊎◌}
use Rattle.authenticators.specs.SecureChannels.{after_call, after_return}
use Rattle.account_table.specs.declared.account.Account.{Account}
use Rattle.channel_client.specs.declared.state.Standing.TheVariants as standing
use Rattle.world_moves.specs.declared.links.EndId.{EndId}
use Rattle.world_moves.specs.declared.links.EndId.TheVariants.{Client, Controller, Member}
use Rattle.world_moves.specs.declared.links.Route.{Route}
use Rattle.world_moves.specs.declared.moves.Move.{Move}
use Rattle.world_moves.specs.declared.moves.Move.TheVariants as move
use Rattle.world_moves.specs.declared.plan.Plan.{Plan}
use Rattle.world_moves.specs.declared.state.State.{State}
use Rattle.world_moves.specs.declared.state.WaitingDial.{WaitingDial}
use Rattle.world_moves.specs.Choosing.{chosen_place}
use Rattle.world_moves.specs.Ends.{starters_in}
use Rattle.world_moves.specs.Forms.{HasForms}
use Rattle.world_moves.specs.Moving.{act, end_of_peer, onward, route_to, start}
use Rattle.world_moves.specs.World.{IsPlan, first_ends, first_world}
use Rattle.logon_runs.specs.AnyAnswer.AnyLogons.{AreBelow, DrawsUpTo, LogonRests}
use Rattle.logon_runs.specs.Scenes.Others.{AreAmong, IsDialAmong, IsRoutedAmong, IsStepOn, OthersStay}
use Rattle.logon_runs.specs.Rests.{AtRest, HasEnough, moved_by, three_in}
use Rattle.logon_runs.specs.Phases.{Acked, Answers, Binds, BindsBefore, BindsHeld, Calls, Challenged, Arrival, Dials, DialsBefore, DialsHeld, DrawsFew, Echoed, Echoes, Granted, Halved, HasThree, LogonPhase, Named, Proved, Sets, Third, scene_of}
use Rattle.logon_runs.specs.Scenes.Staying.{HasSameEnds}
use Rattle.logon_runs.specs.Scenes.WaitingUnits.{waiting}
use Rattle.logon_runs.specs.AnyAnswer.AnyPhases.{AnyPhase, Away, IsAble, IsAnywhere, IsDone, IsHeard, IsLetIn, IsOnward, Judged, On, Setting, Told, any_scene}
use Rattle.logon_runs.specs.AnyAnswer.AnyStarts.{AreThree, HasStarted, IsReachedOrNot, coming_from}
use Rattle.logon_runs.specs.OtherKeys.GrantRests.{HasSettled, judged_rest}
use Rattle.logon_runs.proofs.AmongLaws.{away_among, away_dials, links_among, no_dial_among, turn_among}
use Rattle.logon_runs.proofs.Scenes.OtherLaws.{others_are_left}
use Rattle.logon_runs.proofs.EnoughLaws.{enough_after, none_drawn, three_from}
use Rattle.logon_runs.proofs.Scenes.StayingLaws.{both_same, ends_stay, reach_still, starts_same}
use Rattle.logon_runs.proofs.AnyAnswer.AnyBeginLaws.{any_logons_start}
use Rattle.logon_runs.proofs.AnyAnswer.AnyPhaseLaws.{any_phases_go_on}
use Rattle.logon_runs.proofs.AnyAnswer.AnyTurnLaws.{left_so_far}
use Rattle.logon_runs.proofs.OtherKeys.GrantRestLaws.{grants_rest}

-- ---- an address is the same end's in each state

-- the route of a dial
pub route_still : (end : EndId) (peer : List ℕ) (s after : State) → HasSameEnds s after → route_to end (end_of_peer peer after.ends) ≡ route_to end (end_of_peer peer s.ends)
route_still end peer s after same = ap (λ (found : Option EndId). route_to end found) (ends_stay.reach peer s.ends after.ends same.ends)

pub moved_same : (moves : List Move) (s : State) → HasSameEnds s (moved_by moves s)
moved_same [] s = ends_stay.none s
moved_same (what ∷ moves) s = both_same s (act s what).state (moved_by moves (act s what).state) (ends_stay.acts s what) (moved_same moves (act s what).state)

pub heard_still : (plan : Plan) (p : Arrival) (s now : State) → IsHeard plan p s → HasSameEnds s now → IsHeard plan p now
heard_still plan p s now heard same = record {
  member = reach_still p.meeting.task.server (Member p.meeting.at_member) s now same heard.member;
  controller = elim heard.controller [
    | inl there ↦ inl (there.0, reach_still p.meeting.plan.controller (Controller p.meeting.at_controller) s now same there.1)
    | inr nobody ↦ inr (route_still (Member p.meeting.at_member) p.meeting.plan.controller s now same ∙ nobody)
  ];
}

-- ---- a phase's links are between the three, and so is the dial that waits

module _ (plan : Plan) (p : Arrival) (s : State) where
  any_among : (phase : AnyPhase p) (left : List (List ℕ)) (moment : ℕ) → AreAmong (three_in p) (any_scene p phase left moment).opened
  any_among (On phase) left moment = links_among p phase left moment
  any_among (Told a who v client server credential status) left moment = turn_among p v
  any_among (Setting a who v o c timestamp new accounts answer) left moment = turn_among p v
  any_among (Judged a who v o c timestamp accounts answer) left moment = turn_among p v
  any_among (Away phase) left moment = away_among p phase left moment

  client_dials : IsHeard plan p s → IsDialAmong (three_in p) s (Some (record { end = Client p.meeting.at_client; peer = p.meeting.task.server }))
  client_dials heard = (refl, subst (λ (end : Option EndId). IsRoutedAmong (three_in p) (route_to (Client p.meeting.at_client) end)) (sym heard.member) (refl, refl))

  member_dials : IsHeard plan p s → IsDialAmong (three_in p) s (Some (record { end = Member p.meeting.at_member; peer = p.meeting.plan.controller }))
  member_dials heard =
      elim heard.controller [
        | inl there ↦ (refl, subst (λ (end : Option EndId). IsRoutedAmong (three_in p) (route_to (Member p.meeting.at_member) end)) (sym there.1) (refl, refl))
        | inr nobody ↦ (refl, subst (λ (route : Option Route). IsRoutedAmong (three_in p) route) (sym nobody) tt)
      ]

  on_dials : (phase : LogonPhase p) (left : List (List ℕ)) (moment : ℕ) → IsHeard plan p s → IsDialAmong (three_in p) s (slice_get (scene_of p phase left moment).dials 0)
  on_dials Dials left moment heard = client_dials heard
  on_dials Binds left moment heard = tt
  on_dials (Challenged challenge) left moment heard = tt
  on_dials (Answers a who) left moment heard = tt
  on_dials (DialsBefore a who v aim) left moment heard = member_dials heard
  on_dials (DialsHeld a who v aim) left moment heard = member_dials heard
  on_dials (BindsBefore a who v aim) left moment heard = tt
  on_dials (BindsHeld a who v aim) left moment heard = tt
  on_dials (Acked a who v aim) left moment heard = tt
  on_dials (Calls a who v aim) left moment heard = tt
  on_dials (Halved a who v one other) left moment heard = tt
  on_dials (Proved a who v one other) left moment heard = tt
  on_dials (Granted a who v o c timestamp judged_at accounts) left moment heard = tt
  on_dials (Sets a who v o c timestamp new accounts) left moment heard = tt
  on_dials (Named a e on one other back) left moment heard = tt
  on_dials (Echoes a e on one asks) left moment heard = tt
  on_dials (Echoed a e talk one other back) left moment heard = tt

  dials_so : (dials : List WaitingDial) → dials ≡ [] → IsDialAmong (three_in p) s (slice_get dials 0)
  dials_so dials none = subst (λ (dials : List WaitingDial). IsDialAmong (three_in p) s (slice_get dials 0)) (sym none) tt

  any_dials : (phase : AnyPhase p) (left : List (List ℕ)) (moment : ℕ) → IsHeard plan p s → IsDialAmong (three_in p) s (slice_get (any_scene p phase left moment).dials 0)
  any_dials (On phase) left moment heard = on_dials phase left moment heard
  any_dials (Told a who v client server credential status) left moment heard = tt
  any_dials (Setting a who v o c timestamp new accounts answer) left moment heard = tt
  any_dials (Judged a who v o c timestamp accounts answer) left moment heard = tt
  any_dials (Away phase) left moment heard = dials_so _ (away_dials p phase left moment)

  -- a move leaves the other ends as they were
  moves_alone : (what : Move) → IsStepOn what → IsHeard plan p s → IsAnywhere plan p s ⊎ IsDone plan p s → OthersStay (three_in p) s (act s what).state
  moves_alone what steps heard (inl at) =
      others_are_left.steps (three_in p) s what steps (subst (AreAmong (three_in p)) (sym at.shows.opened) (any_among at.phase at.left at.moment))
      (subst (λ (dials : List WaitingDial). IsDialAmong (three_in p) s (slice_get dials 0)) (sym at.shows.dials) (any_dials at.phase at.left at.moment heard))
  moves_alone what steps heard (inr over) =
      others_are_left.steps (three_in p) s what steps (subst (AreAmong (three_in p)) (sym over.shows.opened) tt) (no_dial_among p s over.shows.dials)

-- ---- the moves, one after the other

-- what holds since the logon started at rest
record IsGoing (plan : Plan) (p : Arrival) (s now : State) : Type 0 where
  others : OthersStay (three_in p) s now
  same : HasSameEnds s now
  at : IsAnywhere plan p now ⊎ IsDone plan p now

-- once nothing waits
record HasFinished (plan : Plan) (p : Arrival) (s : State) (moves : ℕ) (now after : State) : Type 0 where
  done : IsDone plan p after
  others : OthersStay (three_in p) s after
  draws : DrawsUpTo (3 * moves) now.chances.left after.chances.left

done_so : (plan : Plan) (p : Arrival) (now : State) → IsAnywhere plan p now ⊎ IsDone plan p now → now.dials ≡ [] → waiting now.bag ≡ [] → IsDone plan p now
done_so plan p now (inl at) dials units = absurd (any_phases_go_on.waits plan p now at dials units)
done_so plan p now (inr over) dials units = over

joined_lists : {T : Type 0} (one two three : List T) → one ++ (two ++ three) ≡ (one ++ two) ++ three
joined_lists [] two three = refl
joined_lists (first ∷ one) two three = ap (λ (rest : List _). first ∷ rest) (joined_lists one two three)

pub more_drawn : (moves : ℕ) (before between after : List (List ℕ)) → DrawsFew before between → DrawsUpTo (3 * moves) between after → DrawsUpTo (3 * suc moves) before after
more_drawn moves before between after few more = record {
  front = few.front ++ more.front;
  few = omega (arith, few.few, more.few, length-append few.front more.front);
  are = few.are ∙ ap (λ (rest : List (List ℕ)). few.front ++ rest) more.are ∙ joined_lists few.front more.front after;
}

pub none_up_to : (moves : ℕ) (before after : List (List ℕ)) → after ≡ before → DrawsUpTo (3 * moves) before after
none_up_to moves before after same = record { front = []; few = omega arith; are = sym same }

module _ (plan : Plan) (p : Arrival) (s : State) (able : IsAble plan p) (heard : IsHeard plan p s) where
  -- the member lets the client in
  let_in_ends : (now : State) (moves : List Move) → IsLetIn plan p now → OthersStay (three_in p) s now → AllByRecursion IsStepOn moves →
      (moved_by moves (onward now).state).dials ≡ [] → waiting (moved_by moves (onward now).state).bag ≡ [] →
      HasFinished plan p s (suc (length moves)) now (moved_by moves (onward now).state)
  let_in_ends now moves let_in others steps dials units =
      let settled : HasSettled p now (judged_rest p let_in.a let_in.who let_in.v let_in.o let_in.c let_in.timestamp let_in.accounts (after_return true (after_call let_in.o let_in.timestamp)))
      (moved_by moves (onward now).state) =
      grants_rest.rests p now let_in.a let_in.who let_in.v let_in.o let_in.c let_in.timestamp let_in.accounts let_in.answer (after_return true (after_call let_in.o let_in.timestamp)) let_in.sam
      let_in.left let_in.moment
      (record {
        can = able.can;
        units = able.units;
        names = able.names;
        draws = let_in.fits.turning.answering.draws;
        joined_so = let_in.fits.turning.joined_so;
        next_below = let_in.fits.turning.next_below;
      })
      let_in.fits.goes (let_in.fits.names _ _ _ _ let_in.judged) let_in.judged let_in.shows moves steps dials units in
      record {
        done = record {
          outcome = settled.outcome;
          settled = judged_rest p let_in.a let_in.who let_in.v let_in.o let_in.c let_in.timestamp let_in.accounts (after_return true (after_call let_in.o let_in.timestamp));
          left = settled.left;
          moment = settled.moment;
          fits = left_so_far plan p now let_in.a let_in.who let_in.v (Third let_in.o let_in.c let_in.timestamp) let_in.left let_in.moment let_in.accounts let_in.fits.turning let_in.fits.differs
              let_in.fits.ranged (standing.Open (after_return true (after_call let_in.o let_in.timestamp))) let_in.fits.stands (λ o stands. let_in.fits.one);
          shows = settled.shows;
        };
        others = others_are_left.both (three_in p) s now (moved_by moves (onward now).state) others settled.others;
        draws = none_up_to (suc (length moves)) now.chances.left (moved_by moves (onward now).state).chances.left settled.draws;
      }

  -- a move where the logon is done already
  over_goes : (now : State) (what : Move) → IsStepOn what → IsDone plan p now → IsOnward plan p now (act now what).state
  over_goes now what steps over = record {
    few = none_drawn now.chances.left (act now what).state.chances.left (any_phases_go_on.rests_draws plan p now what steps over);
    at = inr (any_phases_go_on.rests plan p now what steps over);
  }

  goes_by : (now : State) (what : Move) → IsHeard plan p now → HasThree now.chances.left → now.moment < 2 ^ 64 → IsStepOn what → IsAnywhere plan p now ⊎ IsDone plan p now →
      IsOnward plan p now (act now what).state ⊎ (IsLetIn plan p now × (what ≡ move.Onward))
  goes_by now what heard_now three below steps (inl at) =
      elim (any_phases_go_on.goes_on plan p now what able (record { heard = heard_now; draws = three; below = below }) steps at) [
        | inl to ↦ inl (record { few = to.few; at = elim to.at [ inl so ↦ inl so.at | inr done ↦ inr done ] })
        | inr let_in ↦ inr let_in
      ]
  goes_by now what heard_now three below steps (inr over) = inl (over_goes now what steps over)

  runs_on : (moves : List Move) (now : State) → AllByRecursion IsStepOn moves → AreBelow moves now → HasEnough (length moves) now.chances.left → IsGoing plan p s now →
      (moved_by moves now).dials ≡ [] → waiting (moved_by moves now).bag ≡ [] → HasFinished plan p s (length moves) now (moved_by moves now)
  runs_on [] now steps below enough going dials units = record {
    done = done_so plan p now going.at dials units;
    others = going.others;
    draws = none_up_to 0 now.chances.left now.chances.left refl;
  }
  runs_on (what ∷ moves) now steps below enough going dials units =
      let three : HasThree now.chances.left = three_from now.chances.left enough.blocks (omega (arith, enough.many)) in
      let heard_now : IsHeard plan p now = heard_still plan p s now heard going.same in
      let next : State = (act now what).state in
      elim (goes_by now what heard_now three below.0 steps.0 going.at) [
        | inl on ↦
            let rest : HasFinished plan p s (length moves) next (moved_by moves next) =
            runs_on moves next steps.1 below.1 (enough_after (length moves) now.chances.left next.chances.left enough on.few)
            (record {
              others = others_are_left.both (three_in p) s now next going.others (moves_alone plan p now what steps.0 heard_now going.at);
              same = both_same s now next going.same (ends_stay.acts now what);
              at = on.at;
            }) dials units in
            record { done = rest.done; others = rest.others; draws = more_drawn (length moves) now.chances.left next.chances.left (moved_by moves next).chances.left on.few rest.draws }
        | inr let_in ↦
            subst (λ (m : Move). (moved_by moves (act now m).state).dials ≡ [] → waiting (moved_by moves (act now m).state).bag ≡ [] →
            HasFinished plan p s (suc (length moves)) now (moved_by moves (act now m).state)) (sym let_in.1)
            (λ dials_then units_then. let_in_ends now moves let_in.0 going.others steps.1 dials_then units_then) dials units
      ]

-- ---- from rest to rest

pub reached_rests : (plan : Plan) (s : State) (rest : AtRest plan s) (client member controller : ℕ) (three : AreThree plan client member controller) (account : Account) (number : ℕ) →
    IsPlan plan → HasForms plan → HasSameEnds (first_world plan).state s → chosen_place number (starters_in s.ends) ≡ Some client →
    end_of_peer three.task.server (first_ends plan) ≡ Some (Member member) → IsReachedOrNot plan member three.member_plan controller →
    (moves : List Move) → AllByRecursion IsStepOn moves → AreBelow moves (start number s).state → HasEnough (length moves) (start number s).state.chances.left →
    (moved_by moves (start number s).state).dials ≡ [] → waiting (moved_by moves (start number s).state).bag ≡ [] →
    LogonRests plan s client three.task (length moves) (start number s).state (moved_by moves (start number s).state)
reached_rests plan s rest client member controller three account number is forms same chosen to_member reaches moves steps below enough dials units =
    let p : Arrival = coming_from plan s rest client member controller three account account in
    let first : State = (start number s).state in
    let after : State = moved_by moves first in
    let started : HasStarted plan p first = any_logons_start.starts plan s rest client member controller three account account number is forms chosen in
    let heard : IsHeard plan p s = record {
      member = reach_still three.task.server (Member member) (first_world plan).state s same to_member;
      controller = elim reaches [
        | inl there ↦ inl (there, reach_still three.member_plan.controller (Controller controller) (first_world plan).state s same there)
        | inr nobody ↦ inr (route_still (Member member) three.member_plan.controller (first_world plan).state s same ∙ nobody)
      ];
    } in
    let finished : HasFinished plan p s (length moves) first after =
    runs_on plan p s started.able heard moves first steps below enough
    (record { others = others_are_left.starts (three_in p) s number chosen rest.opened; same = starts_same number s; at = inl started.at }) dials units in
    record {
      outcome = finished.done.outcome;
      has = finished.done.shows.client;
      rest = any_logons_start.ends plan s rest client member controller three account account after reaches finished.others
          (both_same s first after (starts_same number s) (moved_same moves first)).clients finished.done;
      clients = finished.others.clients;
      draws = finished.draws;
    }
