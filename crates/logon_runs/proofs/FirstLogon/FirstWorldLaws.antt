-- The first logon in a world, from its plan to the client's outcome.
-- Of `first_worlds_run`.
use Rattle.std.proofs.Common.{◌≡◌, ℕ, zero, suc, ◌+◌, ◌<◌, ◌-◌, ◌^◌, Bool, true, false, List, [], ◌∷◌, ◌++◌, length, Option, Some, None, refl, ap, ap₂, subst, ◌∙◌, arith, slice_get, inl, inr}
use Rattle.std.specs.Prelude.{◌==◌, All}
use Rattle.std.specs.List.{AllByRecursion}
use Rattle.std.specs.Option.{option_and_then}
use Rattle.std.proofs.lemmas.Bool.{cases_lt}
use Rattle.std.proofs.lemmas.Bool.Decides.{nat_tests}
use Rattle.std.proofs.lemmas.List.{get_or_past, length-map}
use Rattle.std.proofs.lemmas.List.Elements.{All-get_or, All-head, All-tail}
use Rattle.wire_base.specs.Names.{IsName}
use Rattle.wire_base.specs.Units.{AreUnits}
use Rattle.wire_base.proofs.NumberLaws.{bytes_from_all}
use Rattle.channel_keys.specs.Des.{IsBlock as IsDesBlock}
use Rattle.channel_keys.proofs.CredLaws.{IsBlock-cred_of}
use Rattle.outside.specs.Counter.{challenge_of, challenges_from, most_draws}
use Rattle.outside.proofs.CounterLaws.{challenges_from-next}
use Rattle.logon_stubs.specs.Ranges.{IsBlock}
use Rattle.account_table.specs.AccountTable.{AccountTable}
use Rattle.account_table.specs.LookUps.{place_in}
use Rattle.account_table.specs.Ranges.{InRangeAccount}
use Rattle.domain_controller.specs.Step.{first_state}
use Rattle.domain_controller.specs.Whole.{InRangeTable}
use Rattle.domain_controller.proofs.TrustPlaceLaws.{got_all}
use Rattle.domain_controller.proofs.TurnOutLaws.{got_map}
use Rattle.logon_client.specs.declared.outcome.ClientOutcome.TheVariants.{In}
use Rattle.interactive_station.specs.Machine.{fresh_station}
use Rattle.logon_client.specs.Machine.{fresh_client}
use Rattle.logon_client.specs.Plans.{CanLogOn}
use Rattle.member_server.specs.SealStep.{sealing_member}
use Rattle.member_server.proofs.SealLaws.{plain_members_stay}
use Rattle.world_moves.specs.declared.plan.Plan.{Plan}
use Rattle.world_moves.specs.Choosing.{chosen_place}
use Rattle.world_moves.specs.Forms.{HasForms, IsClientPlan, IsMemberPlan, IsTable}
use Rattle.world_moves.specs.Alone.{TrustsNobody}
use Rattle.world_moves.specs.Ends.{fresh_controller}
use Rattle.world_moves.specs.World.{IsPlan, first_controllers, first_world, outcome_by, run, starters_of}
use Rattle.world_moves.proofs.AloneLaws.{fresh_alone}
use Rattle.world_moves.proofs.RangeLaws.{table_in_range}
use Rattle.logon_steps.specs.Answers.{AreDraws, HasUnits}
use Rattle.logon_steps.specs.ClientSteps.{client_ended}
use Rattle.logon_steps.specs.Meeting.{HasShortNames}
use Rattle.logon_steps.proofs.CallingLaws.{calls_can_go}
use Rattle.logon_steps.proofs.KnowingLaws.{computers_are_known}
use Rattle.logon_steps.proofs.TellingLaws.{logons_are_short}
use Rattle.logon_runs.specs.Scenes.AskScenes.{with_controller}
use Rattle.logon_runs.specs.FirstLogon.FirstLogonRuns.{ComesInFirst, after_first, first_turns}
use Rattle.logon_runs.specs.FirstLogon.FirstRuns.{IsToBeOpened}
use Rattle.logon_runs.specs.FirstLogon.FirstWorlds.{CanComeIn, FirstWorldsRun, FirstKeyArrives, draw, first_asked, first_channel, first_meeting, key_then, left_then, logon_moves, no_computers}
use Rattle.logon_runs.specs.Grants.{CanBeTold}
use Rattle.logon_runs.specs.Scenes.LinkScenes.{Meeting, joined, rest_scene}
use Rattle.logon_runs.specs.Runs.{goes}
use Rattle.logon_runs.specs.Scenes.Scene.{Shows}
use Rattle.logon_runs.proofs.FirstLogon.FirstLogonRunLaws.{first_logons_run}
use Rattle.logon_runs.proofs.FirstLogon.FirstLogonTraceLaws.{first_logons_are_seen}
use Rattle.logon_runs.proofs.GrantLaws.{grants_are_told}

-- ---- lists

-- an item of a list, each of which has something
pub item_has : {T : Type 0} (P : T → Type 0) (items : List T) (at : ℕ) (item : T) → All P items → slice_get items at ≡ Some item → P item
item_has P [] at item all is = absurd cc
item_has P (first ∷ items) zero item all is = let same : first ≡ item = cc in subst P same (All-head P first items all)
item_has P (first ∷ items) (suc at) item all is = item_has P items at item (All-tail P first items all) is

pub at_place : {T : Type 0} (P : T → Type 0) (items : List T) (place : Option ℕ) (item : T) → AllByRecursion P items → option_and_then (slice_get items) place ≡ Some item → P item
at_place P items None item all is = absurd cc
at_place P items (Some at) item all is = got_all P items at item all is

-- the controller is made of its table and its name
controller_of : (hands_on seals : Bool) (tables : List AccountTable) (names : List (List ℕ)) (at : ℕ) (table : AccountTable) (name : List ℕ) → slice_get tables at ≡ Some table → slice_get names at ≡ Some name →
    slice_get (first_controllers hands_on seals tables names) at ≡ Some (fresh_controller hands_on seals table name)
controller_of hands_on seals [] names at table name is_table is_name = absurd cc
controller_of hands_on seals (first ∷ tables) [] at table name is_table is_name = absurd cc
controller_of hands_on seals (first ∷ tables) (other ∷ names) zero table name is_table is_name = cc
controller_of hands_on seals (first ∷ tables) (other ∷ names) (suc at) table name is_table is_name = controller_of hands_on seals tables names at table name is_table is_name

-- a controller of the first world asks nobody where it can't seal and trusts nobody
pub got_controller : (hands_on seals : Bool) (tables : List AccountTable) (names : List (List ℕ)) (at : ℕ) (table : AccountTable) (name : List ℕ) → slice_get tables at ≡ Some table →
    slice_get names at ≡ Some name → seals ≡ false → TrustsNobody hands_on table → slice_get (first_controllers hands_on seals tables names) at ≡ Some (first_state table name)
got_controller hands_on seals tables names at table name is_table is_name unsealed none =
    controller_of hands_on seals tables names at table name is_table is_name
    ∙ ap (λ (can : Bool). Some (fresh_controller hands_on can table name)) unsealed ∙ ap Some (fresh_alone hands_on table name none)

-- ---- forms

pub are_units : (units : List ℕ) → All (λ (unit : ℕ). unit < 2 ^ 16) units → AreUnits units
are_units units all place =
    elim (cases_lt place (length units)) [
      | inl within ↦ All-get_or (λ (unit : ℕ). unit < 2 ^ 16) units place 0 within all
      | inr past ↦ rw (get_or_past units place 0 past) (omega arith)
    ]

draw_is : (seed : List ℕ) (count : ℕ) → IsDesBlock (challenge_of seed 0 count)
unfolding challenge_of
draw_is seed count = IsBlock-cred_of _ _

draw_block : (seed : List ℕ) (count : ℕ) → IsBlock 8 (challenge_of seed 0 count)
draw_block seed count = ((draw_is seed count).eight, bytes_from_all (challenge_of seed 0 count) (draw_is seed count).bytes)

six_left : (seed : List ℕ) →
    challenges_from seed 0 0 (most_draws - 0)
    ≡ challenge_of seed 0 0 ∷ challenge_of seed 0 1 ∷ challenge_of seed 0 2 ∷ challenge_of seed 0 3 ∷ challenge_of seed 0 4 ∷ challenge_of seed 0 5 ∷ challenges_from seed 0 6 (most_draws - 6)
six_left seed =
    let put : ℕ → List (List ℕ) → List (List ℕ) = λ (count : ℕ) (left : List (List ℕ)). challenge_of seed 0 count ∷ left in
    challenges_from-next seed 0 0 (most_draws - 0) (omega arith)
    ∙ ap (put 0) (challenges_from-next seed 0 1 (most_draws - 1) (omega arith)
    ∙ ap (put 1) (challenges_from-next seed 0 2 (most_draws - 2) (omega arith)
    ∙ ap (put 2) (challenges_from-next seed 0 3 (most_draws - 3) (omega arith)
    ∙ ap (put 3) (challenges_from-next seed 0 4 (most_draws - 4) (omega arith)
    ∙ ap (put 4) (challenges_from-next seed 0 5 (most_draws - 5) (omega arith))))))

-- ---- the first state

module _ (plan : Plan) (client member controller : ℕ) (can : CanComeIn plan client member controller) where
  pub first_shows : Shows (first_world plan).state
      (rest_scene (with_controller (first_meeting plan client member controller can) can.table can.name no_computers) (fresh_client can.task) []
      (draw plan 0 ∷ draw plan 1 ∷ draw plan 2 ∷ draw plan 3 ∷ draw plan 4 ∷ draw plan 5 ∷ left_then plan) plan.now [])
  first_shows = record {
    client = got_map fresh_client plan.clients client can.task can.is_task;
    member = got_map sealing_member plan.members member can.member_plan can.is_member_plan ∙ ap Some (plain_members_stay.made can.member_plan can.plain);
    controller = got_controller plan.hands_on plan.seals plan.tables plan.controllers controller can.table can.name can.is_table can.is_name can.unsealed can.alone;
    unsealed = refl;
    plain = refl;
    links = refl;
    opened = refl;
    units = refl;
    dials = refl;
    left = six_left plan.seed;
    moment = refl;
  }

  module _ (is : IsPlan plan) (forms : HasForms plan) where
    is_table : InRangeTable can.table
    is_table = table_in_range can.table (item_has IsTable plan.tables controller can.table forms.tables can.is_table)

    is_named : IsName can.name
    is_named = item_has IsName plan.controllers controller can.name forms.controllers can.is_name

    is_work : IsMemberPlan can.member_plan
    is_work = item_has IsMemberPlan plan.members member can.member_plan forms.members can.is_member_plan

    is_task : IsClientPlan can.task
    is_task = item_has IsClientPlan plan.clients client can.task forms.clients can.is_task

    follows : CanLogOn can.task
    follows = item_has CanLogOn plan.clients client can.task is.clients can.is_task

    has_units : HasUnits can.task
    has_units = record {
      domain = are_units can.task.domain is_task.domain;
      user = are_units can.task.user is_task.user;
      workstation = are_units can.task.workstation is_task.workstation;
    }

    has_short : HasShortNames can.member_plan
    has_short = record { domain = is_work.domain.0; computer = is_work.computer.0 }

    are_draws : AreDraws (draw plan 1) (draw plan 2) (draw plan 3)
    are_draws = record { client = (draw_block plan.seed 1).0; first = (draw_block plan.seed 2).0; second = (draw_block plan.seed 3).0 }

    is_account : InRangeAccount can.account
    is_account = at_place InRangeAccount can.table.accounts (place_in can.table.accounts can.task.user) can.account is_table.accounts can.found

    told : CanBeTold (joined (first_meeting plan client member controller can) []) (first_asked plan) (first_channel plan client member controller can) can.table can.name can.account plan.now
    told =
        grants_are_told.told (joined (first_meeting plan client member controller can) []) (first_asked plan) (first_channel plan client member controller can) can.table can.name can.account
        plan.now is_table.domain is_table.sid is_named is_account forms.now

    opened_so : IsToBeOpened (joined (first_meeting plan client member controller can) []) (first_asked plan) (draw plan 4) (draw plan 5) can.table can.name can.account can.machine plan.now
    opened_so = record {
      joined = refl;
      can = follows;
      units = has_units;
      names = has_short;
      draws = are_draws;
      caller = calls_can_go.caller can.member_plan is_work.computer;
      info = logons_are_short.info can.member_plan can.task (draw plan 0) (draw plan 1) (draw plan 2) (draw plan 3) plan.now 0 follows has_units has_short are_draws
          (draw_block plan.seed 0).0 (draw_block plan.seed 0).1 (draw_block plan.seed 1).1 (omega arith);
      stands = refl;
      fits = record { tried = λ none. refl; kept = λ o stands. refl; one = λ o stands. can.one };
      one = can.one;
      block = draw_block plan.seed 4;
      knows = computers_are_known.knows can.table can.member_plan.computer can.machine can.machine_found can.kind;
      machine_found = computers_are_known.machine can.table can.member_plan (draw plan 4) (draw plan 5) can.machine can.machine_found can.kind can.enabled;
      secret = can.secret;
      found = can.found;
      hash = can.hash;
      may = can.may;
      server_block = draw_block plan.seed 5;
      logon_reply = told.reply;
      short = omega (arith, told.short);
      number = omega arith;
      alone = refl;
    }

    module _ (number : ℕ) (chosen : chosen_place number (starters_of plan) ≡ Some client) (shown : FirstKeyArrives plan client member controller can) where
      pub comes_first : ComesInFirst (first_world plan).state (first_meeting plan client member controller can) number [] (first_asked plan) (draw plan 4) (draw plan 5) can.table can.name
          can.account can.machine plan.now
      comes_first = record {
        chosen = ap₂ (λ (clients stations : ℕ). chosen_place number (clients + stations)) (length-map plan.clients fresh_client) (length-map plan.stations fresh_station) ∙ chosen;
        planned = can.is_task;
        member = can.is_member;
        controller = can.is_controller;
        eight = (draw_block plan.seed 0).0;
        opened = opened_so;
        key = shown;
        short = told.short;
        units = told.units;
      }

-- ---- the last state

zero_so : (count : ℕ) → (count == 0) ≡ true → 0 ≡ count
zero_so count is = grind (arith, nat_tests)

-- the run has these moves where nothing is echoed, and two more else
runs_so : (plan : Plan) (client member controller number : ℕ) (can : CanComeIn plan client member controller) → IsPlan plan → HasForms plan →
    chosen_place number (starters_of plan) ≡ Some client → FirstKeyArrives plan client member controller can → (silent : Bool) → (can.task.echo == 0) ≡ silent →
    let end : Meeting = after_first (first_meeting plan client member controller can) [] can.machine (draw plan 4) (draw plan 5) can.table can.name no_computers plan.now in
    Shows (run (logon_moves number silent) (first_world plan)).state
    (rest_scene end (client_ended can.task (In (can.table.domain ++ 0x5C ∷ can.account.name) (key_then plan client member controller can) can.task.echo)) end.links
    (left_then plan) plan.now [])
runs_so plan client member controller number can is forms chosen shown true silent =
    let g : Meeting = first_meeting plan client member controller can in
    let end : Meeting = after_first g [] can.machine (draw plan 4) (draw plan 5) can.table can.name no_computers plan.now in
    subst (λ (count : ℕ). Shows (goes (first_turns number (first_world plan).state))
    (rest_scene end (client_ended can.task (In (can.table.domain ++ 0x5C ∷ can.account.name) (key_then plan client member controller can) count)) end.links (left_then plan) plan.now []))
    (zero_so can.task.echo silent)
    (subst (λ (told_name : List ℕ). Shows (goes (first_turns number (first_world plan).state))
    (rest_scene end (client_ended can.task (In told_name (key_then plan client member controller can) 0)) end.links (left_then plan) plan.now []))
    (told plan client member controller can is forms).found
    (first_logons_run.named (first_world plan).state g number (fresh_client can.task) [] (draw plan 0) (draw plan 1) (draw plan 2) (draw plan 3) (draw plan 4) (draw plan 5)
    can.table can.name can.account can.machine no_computers (left_then plan) plan.now (comes_first plan client member controller can is forms number chosen shown) silent
    (first_shows plan client member controller can)))
runs_so plan client member controller number can is forms chosen shown false silent =
    let g : Meeting = first_meeting plan client member controller can in
    let end : Meeting = after_first g [] can.machine (draw plan 4) (draw plan 5) can.table can.name no_computers plan.now in
    subst (λ (told_name : List ℕ). Shows (goes (goes (goes (first_turns number (first_world plan).state))))
    (rest_scene end (client_ended can.task (In told_name (key_then plan client member controller can) can.task.echo)) end.links (left_then plan) plan.now []))
    (told plan client member controller can is forms).found
    (first_logons_run.echoed (first_world plan).state g number (fresh_client can.task) [] (draw plan 0) (draw plan 1) (draw plan 2) (draw plan 3) (draw plan 4) (draw plan 5)
    can.table can.name can.account can.machine no_computers (left_then plan) plan.now (comes_first plan client member controller can is forms number chosen shown) silent
    (first_shows plan client member controller can))

pub first_worlds_run : FirstWorldsRun
first_worlds_run = record {
  comes_in = λ plan client member controller number is forms chosen can shown.
      let rests = runs_so plan client member controller number can is forms chosen shown (can.task.echo == 0) refl in
      record {
        seen = first_logons_are_seen.logon (first_world plan).state (first_meeting plan client member controller can) number (fresh_client can.task) [] (draw plan 0) (draw plan 1)
            (draw plan 2) (draw plan 3) (draw plan 4) (draw plan 5) can.table can.name can.account can.machine no_computers (left_then plan) plan.now
            (comes_first plan client member controller can is forms number chosen shown) (first_shows plan client member controller can);
        outcome = ap outcome_by rests.client;
        rests = rests;
      };
}
