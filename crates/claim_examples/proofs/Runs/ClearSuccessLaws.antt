-- The client of the example can succeed: her account may log on in each state of the run; and she does, since no key of
-- the run travels as zeros.
-- It serves `ann_can_succeed`.
use Rattle.std.proofs.Common.{◌≡◌, ℕ, ◌≤◌, arith, true, false, List, [], length, Option, Some, refl, sym, subst, inl, inr}
use Rattle.std.specs.Prelude.{◌==◌, codes, IsSomeAnd}
use Rattle.wire_base.specs.Names.{SameName, same_name}
use Rattle.wire_base.specs.Names as names
use Rattle.account_table.specs.AccountTable.{AccountTable}
use Rattle.account_table.specs.Changes.{with_bad_count}
use Rattle.account_table.specs.LookUps.{place_in}
use Rattle.memo_stubs.specs.Memo.{written_echo_reply, written_echo_request}
use Rattle.memo_stubs.proofs.MemoLaws.{reply_stub, request_stub}
use Rattle.logon_stubs.specs.declared.info.NetworkInfo.{NetworkInfo}
use Rattle.sam_logon.specs.MayLogOn.{MayLogOn}
use Rattle.domain_controller.specs.State.{State as ControllerState}
use Rattle.logon_client.specs.Machine as steps
use Rattle.member_server.specs.declared.plan.MemberPlan.{MemberPlan}
use Rattle.wire_base.proofs.ListLaws.{all_weaker}
use Rattle.logon_stubs.specs.declared.calls.LogonCall.{LogonCall}
use Rattle.step_notes.proofs.Controllers.JudgedCallLaws.{network_so}
use Rattle.domain_world.specs.Claims.{TravelsAsZeros}
use Rattle.world_moves.specs.declared.plan.Plan.{Plan}
use Rattle.world_moves.specs.declared.state.State.{State}
use Rattle.world_moves.specs.Choosing.{chosen_place}
use Rattle.world_moves.specs.Forms.{HasForms}
use Rattle.world_moves.specs.World.{IsPlan, first_world, starters_of}
use Rattle.domain_world.specs.Claims.Completeness.{CanSucceed, ComesOneAtATime, InEachState, IsMadeForClient, KeyArrives, MayLogOnIn, OwnKeysArrive, info_planned}
use Rattle.domain_world.specs.Past.{past}
use Rattle.logon_steps.specs.Granting.{cleared}
use Rattle.logon_steps.specs.MemoCalls.{ReplyGoes, RequestGoes}
use Rattle.logon_steps.proofs.ClientStepLaws.{echo_are, echo_length}
use Rattle.logon_steps.proofs.MemoCallLaws.{memo_calls_go}
use Rattle.logon_runs.specs.FirstLogon.ExampleLogon.{ann, ann_moves, ann_plan, ann_task, corp, file1, file1_plan}
use Rattle.logon_runs.specs.FirstLogon.FirstLogonRuns.{ComesInFirst, after_first, first_turns}
use Rattle.logon_runs.specs.FirstLogon.FirstWorlds.{CanComeIn, FirstKeyArrives, IsLoggedOn, draw, first_asked, first_meeting, left_then, logon_moves, no_computers}
use Rattle.logon_runs.specs.Scenes.LinkScenes.{IsJoined, Meeting}
use Rattle.logon_runs.specs.Scenes.Scene.{Scene, Shows}
use Rattle.logon_runs.proofs.FirstLogon.ExampleLogonLaws.{an_example_logs_on, ann_can, ann_found, file1_found}
use Rattle.logon_runs.proofs.FirstLogon.FirstLogonRunLaws.{joined_still}
use Rattle.logon_runs.proofs.FirstLogon.FirstWorldLaws.{comes_first, first_shows, first_worlds_run}
use Rattle.logon_runs.proofs.Scenes.LinkSceneLaws.{meetings_are_seen}
use Rattle.domain_world.specs.Claims.OneByOne.{HaveOwnMembers}
use Rattle.world_moves.proofs.AloneLaws.{alone_if}
use Rattle.world_moves.specs.Alone.{IsPlainAlone}
use Rattle.domain_world.proofs.Clear.ClearWalkLaws.{none_clashes}
use Rattle.domain_world.proofs.Completeness.ApartLaws.{own_member}
use Rattle.domain_world.proofs.Completeness.SuccessLaws.{each_succeeds}
use Rattle.claim_examples.specs.ClearSuccess.{AnnCanSucceed, ann_clashed, ann_run}
use Rattle.claim_examples.proofs.Runs.ClearRunLaws.{NoKeyIsLost, ann_once, ann_plain, ann_quiet, keys_arrive}
use Rattle.claim_examples.proofs.Runs.ExampleKeyLaws.{ann_key_arrives}
use Rattle.claim_examples.proofs.SequenceLaws.{one_apart}

may_here : (info : NetworkInfo) (s : State) (v : Scene) → Shows s v → MayLogOn v.controller.table info v.moment → MayLogOnIn v.at_controller info s
may_here info s v shows may =
    subst (λ (c : Option ControllerState). IsSomeAnd c (λ (one : ControllerState). MayLogOn one.table info s.moment)) (sym shows.controller)
    (subst (λ (now : ℕ). MayLogOn v.controller.table info now) (sym shows.moment) may)

-- in each state of the first logon in a world, with Echo
may_each : (plan : Plan) (client member controller : ℕ) (can : CanComeIn plan client member controller) → IsPlan plan → HasForms plan → (number : ℕ) →
    chosen_place number (starters_of plan) ≡ Some client → FirstKeyArrives plan client member controller can → (can.task.echo == 0) ≡ false → (info : NetworkInfo) →
    MayLogOn can.table info plan.now → MayLogOn (cleared can.table can.task.user) info plan.now → InEachState (MayLogOnIn controller info) (logon_moves number false) (first_world plan)
may_each plan client member controller can is forms number chosen arrives some info before behind =
    let g : Meeting = first_meeting plan client member controller can in
    let comes : ComesInFirst (first_world plan).state g number [] (first_asked plan) (draw plan 4) (draw plan 5) can.table can.name can.account can.machine plan.now =
    comes_first plan client member controller can is forms number chosen arrives in
    let logged : IsLoggedOn plan client member controller number can = first_worlds_run.comes_in plan client member controller number is forms chosen can arrives in
    let seen = logged.seen in
    let end : Meeting = after_first g [] can.machine (draw plan 4) (draw plan 5) can.table can.name no_computers plan.now in
    let bytes : List ℕ = steps.echo_bytes g.task.echo in
    let few : length bytes ≤ 4096 = omega (arith, echo_length g.task.echo, comes.opened.can.echo) in
    let asks : RequestGoes 3 g.task.level 3 1 (written_echo_request bytes) seen.back.next seen.back.later =
    memo_calls_go.request 3 g.task.level 3 1 (written_echo_request bytes) seen.back.next seen.back.later (omega arith) (omega arith) (omega arith)
    (omega (arith, few, (request_stub bytes few (echo_are g.task.echo)).short)) seen.back.sessions in
    let again : ReplyGoes 4 g.task.level 3 (written_echo_reply bytes) asks.next asks.later =
    memo_calls_go.reply 4 g.task.level 3 (written_echo_reply bytes) asks.later asks.next (omega arith) (omega arith)
    (omega (arith, few, (reply_stub bytes few (echo_are g.task.echo)).short)) asks.sessions in
    let still : IsJoined end = joined_still g [] can.machine (draw plan 4) (draw plan 5) can.table can.name no_computers plan.now comes.opened.joined in
    let named = meetings_are_seen.named (first_turns number (first_world plan).state) end _ _ 2 seen.who.next _ _ (left_then plan) plan.now still seen.back (omega (arith, comes.short)) comes.units some refl asks.goes seen.granted in
    let echoed = meetings_are_seen.echoes _ end _ 3 _ bytes seen.back.next (left_then plan) plan.now still refl few (echo_are g.task.echo) asks again named in
    let ended = meetings_are_seen.ends_echoed _ end _ _ 4 asks.next _ (left_then plan) plan.now still comes.opened.can again echoed in
    let turns = seen.turns in (
      may_here info _ _ (first_shows plan client member controller can) before,
      (
        may_here info _ _ seen.begun before,
        (
          may_here info _ _ seen.bind before,
          (
            may_here info _ _ seen.ack before,
            (
              may_here info _ _ seen.answered before,
              (
                may_here info _ _ turns.asked before,
                (
                  may_here info _ _ turns.held before,
                  (
                    may_here info _ _ turns.challenge.bind before,
                    (
                      may_here info _ _ turns.challenge.ack before,
                      (
                        may_here info _ _ turns.challenge.call before,
                        (
                          may_here info _ _ turns.challenge.reply before,
                          (
                            may_here info _ _ turns.half before,
                            (
                              may_here info _ _ turns.proof.bind before,
                              (
                                may_here info _ _ turns.proof.ack before,
                                (
                                  may_here info _ _ turns.proof.call before,
                                  (
                                    may_here info _ _ turns.proof.reply before,
                                    (
                                      may_here info _ _ turns.opened before,
                                      (
                                        may_here info _ _ turns.logon.bind before,
                                        (
                                          may_here info _ _ turns.logon.ack before,
                                          (
                                            may_here info _ _ turns.logon.call before,
                                            (
                                              may_here info _ _ turns.logon.reply behind,
                                              (
                                                may_here info _ _ seen.granted behind,
                                                (
                                                  may_here info _ _ named behind,
                                                  (may_here info _ _ echoed behind, may_here info _ _ ended behind),
                                                ),
                                              ),
                                            ),
                                          ),
                                        ),
                                      ),
                                    ),
                                  ),
                                ),
                              ),
                            ),
                          ),
                        ),
                      ),
                    ),
                  ),
                ),
              ),
            ),
          ),
        ),
      ),
    )

-- ---- the example

same_accounts : cleared corp (codes "ann") ≡ corp
unfolding place_in same_name with_bad_count names.upper_of
same_accounts = refl

ann_may : MayLogOn corp (info_planned ann_task) 0
unfolding place_in same_name names.upper_of
ann_may = record {
  there = record {
    domain = inr refl;
    account = record {
      user = refl;
      unlocked = refl;
      below_lockout = inl refl;
      enabled = refl;
      not_expired = inl refl;
      workstation = inl refl;
      no_change_due = refl;
      password_not_expired = inl refl;
    };
  };
  taken_response = inl refl;
}

abbrev ann_can_so : CanSucceed ann_plan ann_moves 0
ann_can_so = record {
  task = ann_task;
  is_task = refl;
  member = 0;
  is_member = refl;
  member_plan = file1_plan;
  is_member_plan = refl;
  controller = 0;
  is_controller = refl;
  table = corp;
  is_table = refl;
  apart = one_apart (λ (one other : MemberPlan). SameName one.computer other.computer → ⊥) file1_plan;
  computer = record { account = file1; found = file1_found; kind = refl; enabled = refl; secret = refl };
  account = ann;
  found = ann_found;
  hash = refl;
  may = may_each ann_plan 0 0 0 ann_can an_example_logs_on.schedule.start an_example_logs_on.schedule.forms 0 refl (λ signed. absurd cc) refl (info_planned ann_task) ann_may
      (subst (λ (table : AccountTable). MayLogOn table (info_planned ann_task) 0) (sym same_accounts) ann_may);
}

ann_comes : ComesOneAtATime (past ann_plan ann_moves) ann_moves
ann_comes = record {
  schedule = an_example_logs_on.schedule;
  plain = ann_plain;
  once = ann_once;
  quiet = ann_quiet;
}

-- no key of a call that was granted in the run travels as zeros
ann_arrives : OwnKeysArrive (past ann_plan ann_moves) ann_moves 0 ann_can_so
ann_arrives =
    all_weaker NoKeyIsLost (KeyArrives ann_task file1_plan.computer 0) (past ann_plan ann_moves).book.judged
    (λ j kept how.
    network_so (λ (c : LogonCall). TravelsAsZeros j c.info → ⊥) (λ (c : LogonCall). IsMadeForClient ann_task file1_plan.computer 0 j c → TravelsAsZeros j c.info → ⊥) j.asked
    (λ c never own. never) (kept how))
    (keys_arrive ann_plan 0 0 0 ann_can an_example_logs_on.schedule.start an_example_logs_on.schedule.forms 0 refl (λ signed. absurd cc) ann_key_arrives)

ann_each : HaveOwnMembers ann_run ann_moves
ann_each = (own_member ann_plan ann_moves 0 ann_can_so, tt)

ann_comes_so : ComesOneAtATime ann_clashed ann_moves
ann_comes_so = record { schedule = ann_comes.schedule; plain = ann_comes.plain; once = ann_comes.once; quiet = ann_comes.quiet }

ann_alone : IsPlainAlone ann_plan
ann_alone = alone_if ann_plan (record { controllers = refl; members = (refl, tt); stations = refl }) refl

pub ann_can_succeed : AnnCanSucceed
ann_can_succeed = record {
  can = ann_can_so;
  comes = ann_comes;
  arrives = ann_arrives;
  succeeds = (each_succeeds ann_plan ann_moves ann_alone ann_comes).0 ann_can_so ann_arrives;
  each = ann_each;
  unclashed = none_clashes ann_plan ann_moves ann_alone;
  fails_clash = λ claim. let is : true ≡ false = claim ann_comes_so ann_each in absurd (let x = is in cc);
}
