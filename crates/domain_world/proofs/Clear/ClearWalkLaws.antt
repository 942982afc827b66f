-- Logons that come one at a time, whatever they come to, from one start to the next: no credential clashes.
-- It serves `Proved.one_by_one`.
use Rattle.std.proofs.Common.{◌≡◌, ℕ, suc, ◌<◌, ◌^◌, false, List, [], ◌∷◌, length, Some, None, inl, inr, refl, sym, ap, subst, ◌∙◌, slice_get, arith, true}
use Rattle.std.specs.Prelude.{◌⊎◌, ◌%◌}
use Rattle.std.specs.List.{AllByRecursion}
use Rattle.outside.specs.Drawing.{Drawing}
use Rattle.authenticators.specs.SecureChannels.{after_call, after_return}
use Rattle.account_table.specs.AccountTable.{AccountTable}
use Rattle.logon_client.specs.declared.plan.ClientPlan.{ClientPlan}
use Rattle.member_server.specs.declared.plan.MemberPlan.{MemberPlan}
use Rattle.step_notes.specs.Records.{Book, blank}
use Rattle.world_moves.specs.declared.links.EndId.TheVariants.{Client, Controller, Member}
use Rattle.world_moves.specs.declared.moves.Move.{Move}
use Rattle.world_moves.specs.declared.plan.Plan.{Plan}
use Rattle.world_moves.specs.declared.state.State.{State}
use Rattle.world_moves.specs.Forms.{HasForms}
use Rattle.world_moves.specs.Moving.{act, end_of_peer, route_to, start}
use Rattle.world_moves.specs.World.{IsPlan, World, first_ends, first_world, happens}
use Rattle.logon_runs.specs.AnyAnswer.AnyLogons.{HasServers}
use Rattle.logon_runs.specs.AnyAnswer.AnyPhases.{GoesTo, IsAble, IsAnywhere, IsDone, IsHeard, IsLetIn, IsOwn, IsReadyBy, IsSoFar, IsThere, On, progress_by, progress_in}
use Rattle.logon_runs.specs.AnyAnswer.AnyStarts.{AreThree, IsReachedOrNot, coming_from}
use Rattle.logon_runs.specs.OtherKeys.GrantRests.{judged_rest}
use Rattle.logon_runs.specs.Failing.TurnedAway.{settled_in}
use Rattle.logon_runs.specs.FirstLogon.ExampleLogon.{ann}
use Rattle.logon_runs.specs.OtherKeys.LetIn.{Asks, Hears, LetInPhase, let_in_scene, GoesOn}
use Rattle.logon_runs.specs.Phases.{Arrival, Dials, DrawsFew, HasThree, Progress, scene_of}
use Rattle.logon_runs.specs.Rests.{AtRest, HasEnough}
use Rattle.logon_runs.specs.Scenes.Scene.{Shows}
use Rattle.logon_runs.specs.Scenes.LinkScenes.{Meeting}
use Rattle.logon_runs.specs.Scenes.Others.{IsStepOn}
use Rattle.logon_runs.specs.Scenes.Staying.{HasSameEnds}
use Rattle.logon_runs.specs.Scenes.WaitingUnits.{waiting}
use Rattle.logon_runs.proofs.EnoughLaws.{enough_after, none_drawn, three_from}
use Rattle.logon_runs.proofs.AnyAnswer.AnyBeginLaws.{able_so, begins_seen}
use Rattle.logon_runs.proofs.AnyAnswer.AnyLogonLaws.{by_reach}
use Rattle.logon_runs.proofs.AnyAnswer.AnyPhaseLaws.{any_phases_go_on}
use Rattle.logon_runs.proofs.AnyAnswer.AnyRunLaws.{heard_still, route_still}
use Rattle.logon_runs.proofs.AnyAnswer.UnreachedLaws.{shows_on, unanswered}
use Rattle.logon_runs.proofs.OtherKeys.GrantRestLaws.{let_in_goes}
use Rattle.logon_runs.proofs.OtherKeys.LetInLaws.{grants_go_on}
use Rattle.logon_runs.proofs.RestLaws.{logons_come_to_rest}
use Rattle.logon_runs.proofs.Scenes.StayingLaws.{ends_stay, reach_still}
use Rattle.logon_runs.proofs.Scenes.StepOnLaws.{by_step}
use Rattle.domain_world.specs.Claims.Completeness.{ComesOneAtATime, IsQuiet, started_in}
use Rattle.domain_world.specs.Claims.OneByOne.{HasOwnMember, NoneClashes}
use Rattle.domain_world.specs.Past.{book, note, past}
use Rattle.domain_world.proofs.Completeness.ApartLaws.{own_name_of}
use Rattle.domain_world.proofs.Completeness.MomentLaws.{start_chances}
use Rattle.domain_world.proofs.Completeness.PlainLaws.{by_plain, later_starts}
use Rattle.domain_world.proofs.Completeness.RestingLaws.{Along, Resting, Started, along_next, begins_so, fewer_moves, goes_further, rests_on, rests_then}
use Rattle.domain_world.proofs.Completeness.SuccessLaws.{first_enough}
use Rattle.domain_world.proofs.Clear.NoServersLaws.{no_servers}
use Rattle.domain_world.proofs.Clear.PhaseClearLaws.{IsClean, IsClearFor, IsPlanned, connect_clean, connect_clear, link_clean, onward_clear, rest_clean, start_clean, tick_clean, tick_clear}
use Rattle.domain_world.proofs.Moves.MemberPlanLaws.{found_but_secret}
use Rattle.domain_world.proofs.Frames.AloneFrameLaws.{stands_first}
use Rattle.world_moves.specs.Choosing.{chosen_place}
use Rattle.world_moves.specs.declared.moves.Move.TheVariants as move
use Rattle.world_moves.specs.Alone.{IsPlainAlone}
use Rattle.world_moves.specs.Ends.{starters_in}

-- ---- how far a logon is

-- what is known of it from its start on
record IsMet (plan : Plan) (p : Arrival) : Type 0 where
  able : IsAble plan p
  heard : IsHeard plan p (first_world plan).state
  planned : IsPlanned plan p (first_world plan).state
  own : IsThere plan p → IsOwn plan p

-- a logon is in a phase, or over; its client is let in; or its dial reaches nobody. No credential clashed
data Stage (plan : Plan) (p : Arrival) (s : State) (b : Book) : Type 0 where
  Goes : IsMet plan p → (at : IsAnywhere plan p s) → IsClearFor p (progress_in at.phase) s b → Stage plan p s b
  Over : IsDone plan p s → IsClean s b → Stage plan p s b
  Links : (g : Meeting) (left : List (List ℕ)) → GoesOn g left s → IsClean s b → Stage plan p s b
  Calls : route_to (Client p.meeting.at_client) (end_of_peer p.meeting.task.server (first_ends plan)) ≡ None → (left : List (List ℕ)) (moment : ℕ) →
      Shows s (scene_of p Dials left moment) ⊎ Shows s (unanswered p left moment) → IsClean s b → Stage plan p s b

stage_clean : (plan : Plan) (p : Arrival) (s : State) (b : Book) → Stage plan p s b → IsClean s b
stage_clean plan p s b (Goes met at clear) = clear.clean
stage_clean plan p s b (Over done clean) = clean
stage_clean plan p s b (Links g left on clean) = clean
stage_clean plan p s b (Calls nobody left moment shows clean) = clean

-- a move leads to another, and draws few challenges
record StageThen (plan : Plan) (p : Arrival) (s after : State) (b : Book) : Type 0 where
  stage : Stage plan p after b
  few : DrawsFew s.chances.left after.chances.left

scene_left : (g : Meeting) (phase : LetInPhase) (left : List (List ℕ)) (moment : ℕ) → (let_in_scene g phase left moment).left ≡ left
scene_left g (Asks terms question on bytes) left moment = refl
scene_left g (Hears terms question on bytes) left moment = refl

left_of : (g : Meeting) (left : List (List ℕ)) (s : State) → GoesOn g left s → s.chances.left ≡ left
left_of g left s (inl on) = on.shows.left ∙ scene_left g on.phase left on.moment
left_of g left s (inr over) = over.shows.left

dial_left : (p : Arrival) (left : List (List ℕ)) (moment : ℕ) (s : State) → Shows s (scene_of p Dials left moment) ⊎ Shows s (unanswered p left moment) → s.chances.left ≡ left
dial_left p left moment s (inl shows) = shows.left
dial_left p left moment s (inr shows) = shows.left

dial_waits : (p : Arrival) (left : List (List ℕ)) (moment : ℕ) (s : State) → Shows s (scene_of p Dials left moment) ⊎ Shows s (unanswered p left moment) → waiting s.bag ≡ []
dial_waits p left moment s (inl shows) = shows.units
dial_waits p left moment s (inr shows) = shows.units

module _ (plan : Plan) (p : Arrival) (w : World) (b : Book) (same : HasSameEnds (first_world plan).state w.state) where
  abbrev Then : Move → Type 0
  Then what = StageThen plan p w.state (act w.state what).state (note w what b)

  then_at : (far : Progress) (what : Move) → IsMet plan p → IsSoFar plan p far (act w.state what).state ⊎ IsDone plan p (act w.state what).state →
      IsClearFor p far (act w.state what).state (note w what b) → Stage plan p (act w.state what).state (note w what b)
  then_at far what met (inl so) clear = Goes met so.at (subst (λ (f : Progress). IsClearFor p f (act w.state what).state (note w what b)) (sym so.is) clear)
  then_at far what met (inr done) clear = Over done clear.clean

  -- the client is let in
  let_in_then : IsMet plan p → IsLetIn plan p w.state → IsClean (act w.state move.Onward).state (note w move.Onward b) → Then move.Onward
  let_in_then met at clean =
      let g : Meeting = settled_in p (judged_rest p at.a at.who at.v at.o at.c at.timestamp at.accounts (after_return true (after_call at.o at.timestamp))) in
      let on : GoesOn g at.left (act w.state move.Onward).state =
      let_in_goes p w.state at.a at.who at.v at.o at.c at.timestamp at.accounts at.answer (after_return true (after_call at.o at.timestamp)) at.sam at.left at.moment
      (record {
        can = met.able.can;
        units = met.able.units;
        names = met.able.names;
        draws = at.fits.turning.answering.draws;
        joined_so = at.fits.turning.joined_so;
        next_below = at.fits.turning.next_below;
      })
      at.fits.goes (at.fits.names _ _ _ _ at.judged) at.judged at.shows in
      record {
        stage = Links g at.left on clean;
        few = none_drawn w.state.chances.left (act w.state move.Onward).state.chances.left (left_of g at.left (act w.state move.Onward).state on ∙ sym at.shows.left);
      }

  goes_on : (far : Progress) (what : Move) → IsMet plan p → GoesTo plan p far w.state (act w.state what).state ⊎ (IsLetIn plan p w.state × (what ≡ move.Onward)) →
      IsClearFor p far (act w.state what).state (note w what b) → Then what
  goes_on far what met (inl to) clear = record { stage = then_at far what met to.at clear; few = to.few }
  goes_on far what met (inr let_in) clear =
      subst Then (sym let_in.1) (let_in_then met let_in.0 (subst (λ (m : Move). IsClean (act w.state m).state (note w m b)) let_in.1 clear.clean))

  -- a move between starts leaves it clear
  clear_then : (what : Move) → IsStepOn what → IsReadyBy plan p w.state → IsMet plan p → (at : IsAnywhere plan p w.state) → IsClearFor p (progress_in at.phase) w.state b →
      IsClearFor p (progress_by what at.phase) (act w.state what).state (note w what b)
  clear_then what steps ready met at clear =
      let planned : IsPlanned plan p w.state = record {
        is_plan = ap (λ (plans : _). slice_get plans p.meeting.at_member) same.members ∙ met.planned.is_plan;
        reach = λ there. reach_still p.meeting.plan.controller (Controller p.meeting.at_controller) (first_world plan).state w.state same (met.planned.reach there);
      } in
      by_step (λ (one : Move). IsClearFor p (progress_by one at.phase) (act w.state one).state (note w one b))
      (connect_clear plan p w.state w.moves b clear.clean at.left at.moment at.phase at.fits clear.waits at.shows)
      (onward_clear plan p w.state w.moves b met.able planned met.own clear.clean at.left at.moment at.phase ready at.fits clear.waits at.shows)
      (λ more. tick_clear p w.state w.moves b clear.clean (progress_in at.phase) more clear.waits) what steps

  goes_then : (what : Move) → IsStepOn what → HasThree w.state.chances.left → w.state.moment < 2 ^ 64 → IsMet plan p → (at : IsAnywhere plan p w.state) → IsClearFor p (progress_in at.phase) w.state b →
      Then what
  goes_then what steps three below met at clear =
      let ready : IsReadyBy plan p w.state = record { heard = heard_still plan p (first_world plan).state w.state met.heard same; draws = three; below = below } in
      goes_on (progress_by what at.phase) what met (any_phases_go_on.goes_on plan p w.state what met.able ready steps at) (clear_then what steps ready met at clear)

  over_then : (what : Move) → IsStepOn what → IsDone plan p w.state → IsClean w.state b → Then what
  over_then what steps done clean = record {
    stage = Over (any_phases_go_on.rests plan p w.state what steps done) (rest_clean w b what steps done.shows.units clean);
    few = none_drawn w.state.chances.left (act w.state what).state.chances.left (any_phases_go_on.rests_draws plan p w.state what steps done);
  }

  links_clean : (g : Meeting) (left : List (List ℕ)) (what : Move) → IsStepOn what → GoesOn g left w.state → IsClean w.state b → IsClean (act w.state what).state (note w what b)
  links_clean g left what steps (inl on) clean =
      by_step (λ (one : Move). IsClean (act w.state one).state (note w one b)) (connect_clean w.state w.moves b clean) (link_clean g left w.state w.moves b on clean)
      (λ more. tick_clean w.state w.moves b clean more) what steps
  links_clean g left what steps (inr over) clean = rest_clean w b what steps over.shows.units clean

  links_on : (g : Meeting) (left : List (List ℕ)) (what : Move) → IsStepOn what → GoesOn g left w.state → GoesOn g left (act w.state what).state
  links_on g left what steps (inl on) = grants_go_on.goes_on g left w.state what steps on
  links_on g left what steps (inr over) = inr (grants_go_on.rests g left w.state what steps over)

  links_then : (g : Meeting) (left : List (List ℕ)) (what : Move) → IsStepOn what → GoesOn g left w.state → IsClean w.state b → Then what
  links_then g left what steps on clean = record {
    stage = Links g left (links_on g left what steps on) (links_clean g left what steps on clean);
    few = none_drawn w.state.chances.left (act w.state what).state.chances.left
        (left_of g left (act w.state what).state (links_on g left what steps on) ∙ sym (left_of g left w.state on));
  }

  calls_then : (nobody : route_to (Client p.meeting.at_client) (end_of_peer p.meeting.task.server (first_ends plan)) ≡ None) (left : List (List ℕ)) (moment : ℕ) (what : Move) → IsStepOn what →
      Shows w.state (scene_of p Dials left moment) ⊎ Shows w.state (unanswered p left moment) → IsClean w.state b → Then what
  calls_then nobody left moment what steps shows clean =
      let here : route_to (Client p.meeting.at_client) (end_of_peer p.meeting.task.server w.state.ends) ≡ None =
      route_still (Client p.meeting.at_client) p.meeting.task.server (first_world plan).state w.state same ∙ nobody in
      let on = shows_on p left w.state here w.state moment what steps (ends_stay.none w.state) shows in
      record {
        stage = Calls nobody left on.0 on.1 (rest_clean w b what steps (dial_waits p left moment w.state shows) clean);
        few = none_drawn w.state.chances.left (act w.state what).state.chances.left (dial_left p left on.0 (act w.state what).state on.1 ∙ sym (dial_left p left moment w.state shows));
      }

  stage_then : (what : Move) → IsStepOn what → HasThree w.state.chances.left → w.state.moment < 2 ^ 64 → Stage plan p w.state b → Then what
  stage_then what steps three below (Goes met at clear) = goes_then what steps three below met at clear
  stage_then what steps three below (Over done clean) = over_then what steps done clean
  stage_then what steps three below (Links g left on clean) = links_then g left what steps on clean
  stage_then what steps three below (Calls nobody left moment shows clean) = calls_then nobody left moment what steps shows clean

-- ---- the moves

module _ (plan : Plan) (is : IsPlan plan) (forms : HasForms plan) (servers : HasServers plan) (bk : Book) where
  -- a client goes on
  record Going (moves : List Move) (w : World) (b : Book) : Type 0 where
    p : Arrival
    stage : Stage plan p w.state b
    enough : HasEnough (length moves) w.state.chances.left
    rested : State
    client : ℕ
    started : Started plan (length moves) rested client w.state

  -- the world rests, or a client goes on; no credential clashed
  abbrev StandsClear : List Move → World → Book → Type 0
  StandsClear moves w b = (Resting plan (length moves) w.state × IsClean w.state b) ⊎ Going moves w b

  stands_clean : (moves : List Move) (w : World) (b : Book) → StandsClear moves w b → IsClean w.state b
  stands_clean moves w b (inl resting) = resting.1
  stands_clean moves w b (inr going) = stage_clean plan going.p w.state b going.stage

  stands_quiet : (moves : List Move) (w : World) (b : Book) → IsQuiet w → StandsClear moves w b → Resting plan (length moves) w.state
  stands_quiet moves w b quiet (inl resting) = resting.0
  stands_quiet moves w b quiet (inr going) = rests_then plan (length moves) going.rested going.client w going.started quiet

  -- any logon, where none is under way
  step_stands : (what : Move) (moves : List Move) (w : World) (b : Book) → IsStepOn what → Along plan (what ∷ moves) w → StandsClear (what ∷ moves) w b → StandsClear moves (happens w what) (note w what b)
  step_stands what moves w b steps along (inr g) =
      let three : HasThree w.state.chances.left = three_from w.state.chances.left g.enough.blocks (omega (arith, g.enough.many)) in
      let next : StageThen plan g.p w.state (act w.state what).state (note w what b) = stage_then plan g.p w b along.same what steps three along.below g.stage in
      inr (record {
        p = g.p;
        stage = next.stage;
        enough = enough_after (length moves) w.state.chances.left (act w.state what).state.chances.left g.enough next.few;
        rested = g.rested;
        client = g.client;
        started = goes_further plan (length moves) g.rested g.client w.state what steps along.below g.started;
      })
  step_stands what moves w b steps along (inl resting) =
      inl (
        rests_on plan (length moves) w.state what steps resting.0,
        rest_clean w b what steps resting.0.rest.units resting.1,
      )

  -- ---- a client starts

  record Begun (s : State) (b : Book) : Type 0 where
    p : Arrival
    stage : Stage plan p s b

  module _ (number client : ℕ) (w : World) (b : Book) (rest : AtRest plan w.state) (task : ClientPlan) (is_task : slice_get plan.clients client ≡ Some task) (own : HasOwnMember plan client)
      (chosen : chosen_place number (starters_in w.state.ends) ≡ Some client) (clean : IsClean (start number w.state).state (note w (move.Start number) b)) where
    abbrev BeginsAt : Type 0
    BeginsAt = Begun (start number w.state).state (note w (move.Start number) b)

    begins_there : (member controller : ℕ) (work : MemberPlan) (table : AccountTable) → slice_get plan.members member ≡ Some work → slice_get plan.tables controller ≡ Some table →
        end_of_peer task.server (first_ends plan) ≡ Some (Member member) → IsReachedOrNot plan member work controller → BeginsAt
    begins_there member controller work table is_work is_table to_member reaches =
        let three : AreThree plan client member controller = record { task = task; is_task = is_task; member_plan = work; is_member_plan = is_work; table = table; is_table = is_table } in
        let p : Arrival = coming_from plan w.state rest client member controller three ann ann in
        record {
          p = p;
          stage = Goes
              (record {
                able = able_so plan w.state rest client member controller three ann ann is forms;
                heard = record {
                  member = to_member;
                  controller = elim reaches [ inl there ↦ inl (there, there) | inr nobody ↦ inr nobody ];
                };
                planned = record { is_plan = found_but_secret plan.members member work is_work; reach = λ there. there };
                own = λ there. record {
                  member = work;
                  planned = is_work;
                  named = own_name_of plan controller member work (own task member work controller table is_task to_member is_work there is_table).1 is_work there
                      (λ one is_one. (own task member work controller one is_task to_member is_work there is_one).0);
                };
              })
              (record {
                phase = On Dials;
                left = w.state.chances.left;
                moment = w.state.moment;
                fits = tt;
                shows = begins_seen plan w.state rest client member controller three ann ann number chosen;
              }) (record { clean = clean; waits = tt });
        }

    begins_nowhere : route_to (Client client) (end_of_peer task.server (first_ends plan)) ≡ None → BeginsAt
    begins_nowhere nobody =
        let three : AreThree plan client servers.member servers.controller =
        record { task = task; is_task = is_task; member_plan = servers.member_plan; is_member_plan = servers.is_member_plan; table = servers.table; is_table = servers.is_table } in
        record {
          p = coming_from plan w.state rest client servers.member servers.controller three ann ann;
          stage = Calls nobody w.state.chances.left w.state.moment (inl (begins_seen plan w.state rest client servers.member servers.controller three ann ann number chosen)) clean;
        }

    begins_at : BeginsAt
    begins_at = by_reach plan client task servers BeginsAt begins_there begins_nowhere

  abbrev ClearFrom : List Move → World → Book → Type 0
  ClearFrom moves w b =
      Along plan moves w → AllByRecursion (HasOwnMember plan) (started_in moves (length plan.clients)) → bk ≡ book moves w b → StandsClear moves w b → bk.clash ≡ false

  clear_starts : (number : ℕ) (moves : List Move) (w : World) (b : Book) → ClearFrom moves (happens w (move.Start number)) (note w (move.Start number) b) → ClearFrom (move.Start number ∷ moves) w b
  clear_starts number moves w b then_on along owns is_book stands =
      let resting : Resting plan (suc (length moves)) w.state = stands_quiet (move.Start number ∷ moves) w b along.quiet.0 stands in
      let clean : IsClean (start number w.state).state (note w (move.Start number) b) = start_clean number w b (stands_clean (move.Start number ∷ moves) w b stands) in
      let enough : HasEnough (length moves) (start number w.state).state.chances.left =
      subst (λ (chances : Drawing). HasEnough (length moves) chances.left) (sym (start_chances number w.state)) (fewer_moves (length moves) w.state.chances.left resting.enough) in
      then_on (along_next plan (move.Start number) moves w along) owns.1 is_book
      (elim (begins_so plan (length moves) w.state number is forms servers along.same along.stands.plain resting) [
        | inl none ↦ inl (
          record { rest = subst (λ (s : State). AtRest plan s) (sym none.0) resting.rest; enough = enough },
          clean,
        )
        | inr begins ↦
            let begun : Begun (start number w.state).state (note w (move.Start number) b) =
            begins_at number (number % length plan.clients) w b resting.rest begins.task begins.is_task owns.0 begins.chosen clean in
            inr (record {
              p = begun.p;
              stage = begun.stage;
              enough = enough;
              rested = w.state;
              client = number % length plan.clients;
              started = begins.started;
            })
      ])

  clear_from : (moves : List Move) (w : World) (b : Book) → ClearFrom moves w b
  clear_from [] w b along owns is_book stands = ap (λ (one : Book). one.clash) is_book ∙ (stands_clean [] w b stands).apart
  clear_from (what ∷ moves) w b along owns is_book stands =
      by_plain (λ (one : Move). ClearFrom (one ∷ moves) w b)
      (λ number. clear_starts number moves w b (clear_from moves (happens w (move.Start number)) (note w (move.Start number) b)))
      (λ one steps on some its_book standing.
      clear_from moves (happens w one) (note w one b) (along_next plan one moves w on)
      (later_starts (AllByRecursion (HasOwnMember plan)) one (length plan.clients) (started_in moves (length plan.clients)) steps some) its_book (step_stands one moves w b steps on standing))
      what along.plain.0 along owns is_book stands

-- ---- a run

first_along : (plan : Plan) (moves : List Move) → IsPlainAlone plan → ComesOneAtATime (past plan moves) moves → Along plan moves (first_world plan)
first_along plan moves nobody comes =
    record { plain = comes.plain; quiet = comes.quiet; same = ends_stay.none (first_world plan).state; below = comes.schedule.forms.now; stands = stands_first plan nobody }

with_servers : (plan : Plan) (moves : List Move) → IsPlainAlone plan → HasServers plan → NoneClashes (past plan moves) moves
with_servers plan moves nobody servers comes owns =
    let first : World = first_world plan in
    let is : IsPlan plan = comes.schedule.start in
    let forms : HasForms plan = comes.schedule.forms in
    clear_from plan is forms servers (book moves first blank) moves first blank (first_along plan moves nobody comes) owns refl
    (inl (record { rest = logons_come_to_rest.first plan is forms nobody; enough = first_enough plan (length moves) comes.schedule.few }, record { apart = refl; marked = refl }))

-- by whether there is a controller, and a member
by_servers : (plan : Plan) (moves : List Move) (nobody : IsPlainAlone plan) (tables : List AccountTable) (members : List MemberPlan) → plan.tables ≡ tables → plan.members ≡ members → NoneClashes (past plan moves) moves
by_servers plan moves nobody [] members no_table is comes owns = no_servers plan moves nobody comes.schedule (first_along plan moves nobody comes) (inl no_table)
by_servers plan moves nobody (table ∷ tables) [] is no_member comes owns = no_servers plan moves nobody comes.schedule (first_along plan moves nobody comes) (inr no_member)
by_servers plan moves nobody (table ∷ tables) (member ∷ members) is are comes owns =
    with_servers plan moves nobody
    (record {
      controller = 0;
      table = table;
      is_table = ap (λ (all : List AccountTable). slice_get all 0) is;
      member = 0;
      member_plan = member;
      is_member_plan = ap (λ (all : List MemberPlan). slice_get all 0) are;
    }) comes owns

pub none_clashes : (plan : Plan) (moves : List Move) → IsPlainAlone plan → NoneClashes (past plan moves) moves
none_clashes plan moves nobody = by_servers plan moves nobody plan.tables plan.members refl refl
