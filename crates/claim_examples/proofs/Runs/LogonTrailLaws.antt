-- What is written down of the turn in which a logon is granted: one call is judged, and it passes in the unit that was
-- made for its channel, as does the answer.
-- It serves `a_run_is_clear`.
use Rattle.std.proofs.Common.{◌≡◌, ℕ, ◌<◌, ◌^◌, arith, true, List, [], ◌∷◌, length, Option, Some, None, refl, sym, ap, subst, ◌∙◌}
use Rattle.wire_base.specs.Maps.{lookup}
use Rattle.wire_base.specs.Names.{same_name}
use Rattle.authenticators.specs.Channels.{ChannelIdentity}
use Rattle.authenticators.specs.SecureChannels.{channel_of, SecureChannelState, after_call, key_of_channel}
use Rattle.outside.specs.declared.action.Action.TheVariants as action
use Rattle.outside.specs.declared.action.Judged.{Judged}
use Rattle.outside.specs.declared.event.Event.TheVariants as event
use Rattle.outside.specs.Machine.{whole_step}
use Rattle.rpc_units.specs.Calls.{bytes_of_call}
use Rattle.logon_stubs.specs.declared.calls.Call.{Call}
use Rattle.logon_stubs.specs.declared.calls.Reply.{Reply}
use Rattle.logon_stubs.specs.declared.info.NetworkInfo.{NetworkInfo}
use Rattle.logon_stubs.specs.declared.info.SamInfo.{SamInfo}
use Rattle.channel_client.specs.Effects.{stands_in}
use Rattle.channel_client.specs.Machine.{Taking, after, judge, logon_call, settle, wait_for}
use Rattle.channel_client.specs.State.{Requester}
use Rattle.channel_client.specs.declared.state.Question.TheVariants as question
use Rattle.channel_client.specs.declared.state.Standing.{Standing}
use Rattle.channel_client.specs.declared.state.Standing.TheVariants as standing
use Rattle.channel_client.specs.declared.state.Step.TheVariants as step
use Rattle.channel_events.specs.Marks.{Calling, ReplyTo}
use Rattle.domain_controller.specs.Hearing.{bound_talk, served_call}
use Rattle.domain_controller.specs.Machine.{Desk, by_call}
use Rattle.domain_controller.specs.State.{State as ControllerState}
use Rattle.domain_controller.specs.Step.{step_of as controller_step_of}
use Rattle.controller_calls.specs.declared.state.Computers.{Computers}
use Rattle.step_notes.specs.ChannelNames.{HasChannel, place_answered}
use Rattle.step_notes.specs.ControllerNotes.{Answered, has_passed, judged_in, judging_of, new_actions, passing}
use Rattle.step_notes.specs.Marking.{answered_marks}
use Rattle.step_notes.specs.MemberNotes.{asked_note}
use Rattle.step_notes.specs.Judged.{hash_in}
use Rattle.step_notes.specs.Records.{Book, Judging}
use Rattle.controller_calls.specs.declared.calls.JudgedCall.TheVariants.{Network}
use Rattle.step_notes.specs.Served.{work_after}
use Rattle.step_notes.proofs.Channels.ChannelNameLaws.{channels_are_named_alike}
use Rattle.world_moves.specs.declared.moves.Move.TheVariants as move
use Rattle.world_moves.specs.declared.state.State.{State}
use Rattle.domain_world.specs.Past.{first_of, judged_of, note, onto}
use Rattle.logon_steps.specs.Answering.{IsInStep}
use Rattle.secret_change.specs.Secrets.{next_of}
use Rattle.logon_steps.specs.Asking.{asking_keeping}
use Rattle.logon_steps.specs.BesideTrusts.{at_no_trusts}
use Rattle.logon_steps.specs.ControllerTurns.{controller_at, reply_bytes, turn_link}
use Rattle.logon_steps.specs.MemberAnswers.{granting}
use Rattle.logon_steps.specs.Turning.{IsTurnCall, IsTurnReply, turn_agreed, turn_request}
use Rattle.logon_steps.proofs.AnsweringLaws.{calls_are_answered}
use Rattle.logon_steps.proofs.AskingLaws.{logons_are_asked}
use Rattle.logon_steps.proofs.TurningLaws.{turns_go_through}
use Rattle.logon_runs.specs.FirstLogon.FirstRuns.{go_through_turn}
use Rattle.logon_runs.specs.FirstLogon.FirstTraces.{TurnSeen}
use Rattle.logon_runs.specs.FirstLogon.FirstWorlds.{turn_moves}
use Rattle.logon_runs.specs.Runs.{connects, goes}
use Rattle.logon_runs.specs.Scenes.TurnScenes.{IsBetween, TurnScene, with_accounts}
use Rattle.account_table.specs.AccountTable.{AccountTable}
use Rattle.account_table.specs.LookUps.{account_in}
use Rattle.ntlm_responses.specs.Verification.{base_key_of}
use Rattle.logon_runs.proofs.RunLaws.{between_still}
use Rattle.domain_world.proofs.Completeness.HeardOnceLaws.{turn_line}
use Rattle.claim_examples.proofs.Runs.JudgedOnLaws.{OnlyTravels, none_travels, travels_so}
use Rattle.domain_world.proofs.Clear.NotedLaws.{Fine, Trail, world_at}
use Rattle.domain_world.proofs.Clear.NotedOnLaws.{waits_marked}
use Rattle.claim_examples.proofs.Runs.TurnTrailLaws.{replied_names, turn_trail}
use Rattle.domain_world.proofs.Clear.UnitComesLaws.{Called, FineAnd, Names, answer_in_turn, call_comes, channel_in_turn, desk_in_turn, judged_bag, reply_leads, reply_waits, where_in_turn}

-- fine, and that holds
pub record FineSo (s : State) (count : ℕ) (Holds : Book → Type 0) (b : Book) : Type 0 where
  pub fine : Fine s count b
  pub holds : Holds b

-- the session base key of what is asked in a turn, by the accounts then
abbrev pub key_in_turn : TurnScene → NetworkInfo → List ℕ
key_in_turn t info = base_key_of (hash_in (account_in t.table.accounts info.user)) info.user info.domain info.nt

pub logon_trail : (s : State) (t : TurnScene) (accounts : AccountTable) (next number stamp : ℕ) (o state : SecureChannelState) (info : NetworkInfo) (sam : SamInfo) (how_judged : Judged) (computers kept : Computers)
    (left : List (List ℕ)) (moment : ℕ) (after_step : ControllerState) (Holds : Book → Type 0) →
    TurnSeen s t (with_accounts accounts t) next number (logon_call t.caller o stamp info) (granting o stamp 0 1 sam) computers kept left left moment → t.trusts ≡ at_no_trusts → IsBetween t → number < 2 ^ 32 → next < 2 ^ 32 →
    Names s t → t.how ≡ standing.Open (after_call o stamp) → IsTurnCall (logon_call t.caller o stamp info) → IsTurnReply question.Logon (granting o stamp 0 1 sam) →
    lookup same_name t.caller.computer computers.channels ≡ Some state → IsInStep o state → channel_of t.at_controller t.caller.computer state ≡ channel_of t.at_controller t.caller.computer o →
    controller_step_of (controller_at t.table t.name computers (turn_link t.link)) (event.Bytes t.link (bytes_of_call (turn_request next (logon_call t.caller o stamp info)) 5840)) moment left
    ≡ whole_step left left (action.Judged how_judged ∷ action.Send t.link (reply_bytes next (granting o stamp 0 1 sam)) ∷ []) after_step →
    ((k : ℕ) (b : Book) → OnlyTravels (key_of_channel o) (key_in_turn t info) b.judged → Holds (note (world_at k (goes (goes (goes (connects s))))) move.Onward b)) →
    Trail s turn_moves (Fine s 0) (FineSo (go_through_turn s) 1 Holds)
logon_trail s t accounts next number stamp o state info sam how_judged computers kept left moment after_step Holds seen alone between below below_next names how is_call is_reply found in_step is_named steps holds =
    let c : Call = logon_call t.caller o stamp info in
    let r : Reply = granting o stamp 0 1 sam in
    let q = question.Logon in
    let s3 : State = goes (goes (connects s)) in
    let s4 : State = goes s3 in
    let asks : Requester = channel_in_turn t next number (step.Bind c) in
    let channel : Requester = channel_in_turn t (after next) next (step.Reply q) in
    let named : ChannelIdentity = channel_of t.at_controller t.caller.computer o in
    let base : List ℕ = key_in_turn t info in
    let d : Desk = desk_in_turn t computers in
    let then_so : Option Desk = work_after (by_call (served_call c) (turn_line t.link next) (bound_talk None turn_agreed) t.name moment d left) in
    let has : HasChannel computers named = record { state = state; kept = found; is = is_named } in
    let passed : has_passed (judged_in (new_actions then_so d)) ≡ true =
    ap (λ (part : _). has_passed (judged_in (new_actions (work_after part) d)))
    (calls_are_answered.judges t.caller o state info stamp (turn_line t.link next) (bound_talk None turn_agreed) t.name moment d left found in_step) in
    let takes =
    turns_go_through.takes.reply channel next t.place q r is_reply
    ∙ ap (λ (h : Standing). settle (judge q r h t.caller.secret) (asking_keeping t.caller h t.info t.place (after next) (Some (record { number = next; place = t.place; step = step.Reply q })) (next_of t.plan.secrets))) how
    ∙ logons_are_asked.granted t.caller o t.info sam t.place (after next) next stamp 0 1 (next_of t.plan.secrets) in
    turn_trail s t (with_accounts accounts t) next number c r computers kept left left moment 0 (Calling named asks.next_call stamp) (Some t.place)
    (λ (b : Book). FineAnd s4 1 (Some named) b × OnlyTravels (key_of_channel o) base b.judged) (FineSo (go_through_turn s) 1 Holds) seen alone between below names
    (ap (λ (h : Standing). asked_note (Some (step.Reply q)) h t.at_controller asks (wait_for asks t.place (step.Reply q))) how)
    (λ k b f.
    let j : ℕ → Judging = λ unit. judging_of (where_in_turn s3 t next c computers k unit) (turn_line t.link next) (Network _) d then_so in
    let one : (unit : ℕ) → answer_in_turn s3 t next c computers k unit left moment ≡ passing (Some named) (j unit) =
    λ unit. channels_are_named_alike.calls.passes (j unit) computers named refl refl refl has passed in
    let called : Called s3 t next c computers k 1 left moment b =
    call_comes s3 t (after next) next (step.Reply q) c computers left left moment 0 1 _ _ alone between below_next is_call steps seen.call k b f.fine
    (λ unit first. channels_are_named_alike.exchanges.calling (j unit) computers named b.sent refl refl refl has passed (waits_marked s3 (Some named) b unit f.waits first))
    (λ unit numbers. omega (arith, ap (λ (a : Answered). length (judged_of (a ∷ []) numbers)) (one unit))) in (
      reply_waits s3 t next c computers k 0 1 left moment b (reply_bytes next r) (Some named) f.fine called (ReplyTo named next called.came.number)
          (ap (λ (a : Answered). answered_marks (a ∷ [])) (one called.came.number)) refl
          (judged_bag s3 t (after next) next (step.Reply q) c computers left left moment how_judged (reply_bytes next r) after_step called.came.number alone between steps seen.call),
      subst (OnlyTravels (key_of_channel o) base)
          (sym (called.judged ∙ ap (λ (a : Answered). onto (judged_of (a ∷ []) called.numbers) b.judged) (one called.came.number))) (
            travels_so (record (j called.came.number) { reply = first_of called.numbers }) info o state t.caller.computer passed refl found in_step.key,
            none_travels (key_of_channel o) base b.judged f.fine.few,
          ),
    ))
    (λ k b f. record {
      fine = reply_leads s4 (with_accounts accounts t) (after next) next q r kept left moment 1 (between_still t accounts between) below_next is_reply
          (let same_names : Names s4 t = replied_names s t names in record { plan = same_names.plan; reach = same_names.reach }) seen.reply k b f.0.fine
          (λ unit first. channels_are_named_alike.exchanges.answered t.at_controller channel _ t.place named (Some unit) b.sent
          (ap (λ (h : Standing). stands_in t.at_controller t.caller.computer h) how) (ap (λ (taking : Taking). place_answered taking.taken) takes) (waits_marked s4 (Some named) b unit f.0.waits first));
      holds = holds k b f.1;
    })
