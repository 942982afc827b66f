-- What is written down of the turns of a member that opens its channel and asks for one logon: no credential passes in
-- a unit that was made for another channel, and one call is judged.
-- It serves `a_run_is_clear`.
use Rattle.std.proofs.Common.{◌≡◌, ℕ, ◌<◌, ◌^◌, arith, true, List, [], ◌∷◌, length, Option, Some, None, refl, ap, ◌∙◌, slice_get}
use Rattle.wire_base.specs.Maps.{lookup}
use Rattle.wire_base.specs.Names.{same_name}
use Rattle.authenticators.specs.Channels.{ChannelIdentity}
use Rattle.account_table.specs.LookUps.{knows_in}
use Rattle.account_table.specs.declared.account.Account.{Account}
use Rattle.logon_stubs.specs.Ranges.{IsBlock}
use Rattle.logon_stubs.specs.declared.calls.Call.{Call}
use Rattle.logon_stubs.specs.declared.calls.Reply.{Reply}
use Rattle.logon_stubs.specs.declared.calls.Reply.TheVariants as reply
use Rattle.channel_client.specs.Machine.{Taking, after, auth_call, challenge_call, judge, offered_flags, question_of, server_credential, settle, wait_for}
use Rattle.channel_client.specs.State.{Requester}
use Rattle.channel_client.specs.declared.state.Question.TheVariants as question
use Rattle.channel_client.specs.declared.state.Standing.{Standing}
use Rattle.channel_client.specs.declared.state.Standing.TheVariants as standing
use Rattle.channel_client.specs.declared.state.Step.TheVariants as step
use Rattle.channel_events.specs.Marks.{Mark, Opened, Opening, Plain}
use Rattle.domain_controller.specs.Hearing.{bound_talk, served_call}
use Rattle.domain_controller.specs.Machine.{Desk, account_for, by_call}
use Rattle.controller_calls.specs.declared.state.Computers.{Computers}
use Rattle.step_notes.specs.ChannelNames.{Expects}
use Rattle.step_notes.specs.ControllerNotes.{Answered, opening}
use Rattle.step_notes.specs.Marking.{answered_marks, clashes, mark_channel}
use Rattle.step_notes.specs.MemberNotes.{asked_note, half_channel, request_note, taking_note}
use Rattle.step_notes.specs.Records.{Book}
use Rattle.step_notes.specs.Served.{work_after}
use Rattle.domain_world.specs.Past.{judged_of}
use Rattle.step_notes.proofs.Channels.ChannelNameLaws.{channels_are_named_alike}
use Rattle.world_moves.specs.declared.links.EndId.TheVariants.{Controller}
use Rattle.world_moves.specs.declared.moves.Move.TheVariants as move
use Rattle.world_moves.specs.declared.state.State.{State}
use Rattle.logon_steps.specs.Answering.{auth_value, pair_of}
use Rattle.secret_change.specs.Secrets.{next_of}
use Rattle.logon_steps.specs.Asking.{asking_keeping}
use Rattle.logon_steps.specs.BesideTrusts.{at_no_trusts}
use Rattle.logon_steps.specs.Calling.{HasShortCaller}
use Rattle.logon_steps.specs.ControllerTurns.{reply_bytes}
use Rattle.logon_steps.specs.Turning.{turn_agreed}
use Rattle.logon_steps.proofs.AskingLaws.{logons_are_asked}
use Rattle.logon_steps.proofs.CallingLaws.{calls_can_go}
use Rattle.logon_steps.proofs.ControllerTurnLaws.{controllers_step}
use Rattle.logon_steps.proofs.TurningLaws.{turns_go_through}
use Rattle.logon_runs.specs.FirstLogon.FirstRuns.{go_through_turn}
use Rattle.logon_runs.specs.FirstLogon.FirstTraces.{TurnSeen}
use Rattle.logon_runs.specs.FirstLogon.FirstWorlds.{turn_moves}
use Rattle.logon_runs.specs.Runs.{connects, goes}
use Rattle.logon_runs.specs.Scenes.Staying.{HasSameEnds}
use Rattle.logon_runs.specs.Scenes.TurnScenes.{IsBetween, TurnScene}
use Rattle.logon_runs.proofs.Scenes.StayingLaws.{both_same, connects_same, goes_same, reach_still}
use Rattle.domain_world.proofs.Completeness.HeardOnceLaws.{turn_line}
use Rattle.domain_world.proofs.Clear.NotedLaws.{Fine, Leads, Trail, no_more_moves, then_on}
use Rattle.domain_world.proofs.Clear.NotedOnLaws.{waits_marked}
use Rattle.domain_world.proofs.Clear.UnitComesLaws.{Called, FineAnd, Names, ack_leads, answer_in_turn, bind_leads, call_comes, channel_in_turn, connect_fine, desk_in_turn, replied_bag, reply_leads, reply_waits, where_in_turn}

-- ---- the plans stay

pub names_stay : (s after : State) (t : TurnScene) → HasSameEnds s after → Names s t → Names after t
names_stay s after t same names = record {
  plan = ap (λ (plans : _). slice_get plans t.at_member) same.members ∙ names.plan;
  reach = reach_still t.plan.controller (Controller t.at_controller) s after same names.reach;
}

-- ---- a turn, by what comes of its call and of the reply

pub turn_trail : (s : State) (t later : TurnScene) (next number : ℕ) (c : Call) (r : Reply) (computers kept : Computers) (left rest : List (List ℕ)) (moment count : ℕ) (mark : Mark) (called : Option ℕ)
    (Replied After : Book → Type 0) → TurnSeen s t later next number c r computers kept left rest moment → t.trusts ≡ at_no_trusts → IsBetween t → number < 2 ^ 32 → Names s t →
    asked_note (Some (step.Reply (question_of c))) t.how t.at_controller (channel_in_turn t next number (step.Bind c)) (wait_for (channel_in_turn t next number (step.Bind c)) t.place (step.Reply (question_of c))) ≡ request_note mark called →
    Leads (goes (goes (connects s))) move.Onward (FineAnd (goes (goes (connects s))) count (mark_channel mark)) Replied → Leads (goes (goes (goes (connects s)))) move.Onward Replied After →
    Trail s turn_moves (Fine s count) After
turn_trail s t later next number c r computers kept left rest moment count mark called Replied After seen alone between below names note_is calls replies =
    let s1 : State = connects s in
    let s2 : State = goes s1 in
    let s3 : State = goes s2 in
    let s4 : State = goes s3 in
    let s5 : State = goes s4 in
    let same2 : HasSameEnds s s2 = both_same s s1 s2 (connects_same s) (goes_same s1) in
    then_on s move.Connect (move.Onward ∷ move.Onward ∷ move.Onward ∷ move.Onward ∷ []) (Fine s count) (Fine s1 count) After (connect_fine s count)
    (then_on s1 move.Onward (move.Onward ∷ move.Onward ∷ move.Onward ∷ []) (Fine s1 count) (Fine s2 count) After
    (bind_leads s1 t next number (step.Bind c) computers left moment count alone between below seen.bind)
    (then_on s2 move.Onward (move.Onward ∷ move.Onward ∷ []) (Fine s2 count) (FineAnd s3 count (mark_channel mark)) After
    (ack_leads s2 t next number c computers left moment count mark called between below (names_stay s s2 t same2 names) note_is seen.ack)
    (then_on s3 move.Onward (move.Onward ∷ []) (FineAnd s3 count (mark_channel mark)) Replied After calls
    (then_on s4 move.Onward [] Replied After After replies (no_more_moves s5 After)))))

pub replied_names : (s : State) (t : TurnScene) → Names s t → Names (goes (goes (goes (connects s)))) t
replied_names s t names =
    let s1 : State = connects s in
    let s2 : State = goes s1 in
    let s3 : State = goes s2 in
    let s4 : State = goes s3 in
    names_stay s s4 t (both_same s s2 s4 (both_same s s1 s2 (connects_same s) (goes_same s1)) (both_same s2 s3 s4 (goes_same s2) (goes_same s3))) names

-- ---- NetrServerReqChallenge

pub challenge_trail : (s : State) (t : TurnScene) (next number : ℕ) (client server : List ℕ) (computers kept : Computers) (left : List (List ℕ)) (moment : ℕ) →
    TurnSeen s t t next number (challenge_call t.caller client) (reply.Challenge (record { challenge = server; status = 0 })) computers kept (server ∷ left) left moment → t.trusts ≡ at_no_trusts → IsBetween t → number < 2 ^ 32 → next < 2 ^ 32 →
    Names s t → t.how ≡ standing.Nothing → HasShortCaller t.caller → IsBlock 8 client → IsBlock 8 server → knows_in t.table.accounts t.caller.computer ≡ true →
    Trail s turn_moves (Fine s 0) (Fine (go_through_turn s) 0)
challenge_trail s t next number client server computers kept left moment seen alone between below below_next names how caller client_block server_block knows =
    let c : Call = challenge_call t.caller client in
    let r : Reply = reply.Challenge (record { challenge = server; status = 0 }) in
    let q = question.Challenge client in
    let s3 : State = goes (goes (connects s)) in
    let s4 : State = goes s3 in
    let is_call = calls_can_go.challenge t.caller client caller client_block in
    let is_reply = calls_can_go.challenged client server server_block in
    let steps = controllers_step.challenged t.table t.name computers t.link moment next t.caller client server left below_next is_call knows in
    let channel : Requester = channel_in_turn t (after next) next (step.Reply q) in
    let half : Taking = settle (judge q r standing.Nothing t.caller.secret) (asking_keeping t.caller standing.Nothing t.info t.place (after next) (Some (record { number = next; place = t.place; step = step.Reply q })) (next_of t.plan.secrets)) in
    let takes =
    turns_go_through.takes.reply channel next t.place q r is_reply
    ∙ ap (λ (h : Standing). settle (judge q r h t.caller.secret) (asking_keeping t.caller h t.info t.place (after next) (Some (record { number = next; place = t.place; step = step.Reply q })) (next_of t.plan.secrets))) how
    ∙ logons_are_asked.half t.caller t.info t.place (after next) next client server (next_of t.plan.secrets) in
    turn_trail s t t next number c r computers kept (server ∷ left) left moment 0 Plain None (Fine s4 0) (Fine (go_through_turn s) 0) seen alone between below names
    (ap (λ (h : Standing). asked_note (Some (step.Reply q)) h t.at_controller (channel_in_turn t next number (step.Bind c)) (wait_for (channel_in_turn t next number (step.Bind c)) t.place (step.Reply q))) how)
    (λ k b f. (call_comes s3 t (after next) next (step.Reply q) c computers (server ∷ left) left moment 0 0 _ _ alone between below_next is_call steps seen.call k b f.fine (λ unit first. refl) (λ unit numbers. omega arith)).has.fine)
    (λ k b fine. reply_leads s4 t (after next) next q r kept left moment 0 between below_next is_reply (replied_names s t names) seen.reply k b fine
    (λ unit first. ap (λ (taking : Taking). clashes (taking_note (Some taking) t.at_controller channel).checked (Some unit) b.sent) takes))

-- ---- NetrServerAuthenticate2

pub opening_trail : (s : State) (t : TurnScene) (next number : ℕ) (client server : List ℕ) (account : Account) (computers kept : Computers) (left : List (List ℕ)) (moment : ℕ) →
    TurnSeen s t t next number (auth_call t.caller client server)
    (reply.Authenticate (record { credential = server_credential t.caller.secret client server; flags = offered_flags; status = 0 })) computers kept left left moment → t.trusts ≡ at_no_trusts → IsBetween t → number < 2 ^ 32 → next < 2 ^ 32 →
    Names s t → t.how ≡ standing.Half client server → HasShortCaller t.caller → account_for t.table (auth_value t.caller client server) ≡ Some account → account.hash ≡ t.caller.secret →
    lookup same_name t.caller.computer computers.pending ≡ Some (pair_of client server) →
    Trail s turn_moves (Fine s 0) (Fine (go_through_turn s) 0)
opening_trail s t next number client server account computers kept left moment seen alone between below below_next names how caller found hash waits =
    let c : Call = auth_call t.caller client server in
    let r : Reply = reply.Authenticate (record { credential = server_credential t.caller.secret client server; flags = offered_flags; status = 0 }) in
    let q = question.Authenticate in
    let s3 : State = goes (goes (connects s)) in
    let s4 : State = goes s3 in
    let is_call = calls_can_go.authenticate t.caller client server caller in
    let is_reply = calls_can_go.proved t.caller.secret client server in
    let steps = controllers_step.proved t.table t.name computers t.link moment next t.caller client server account left below_next is_call found hash waits in
    let asks : Requester = channel_in_turn t next number (step.Bind c) in
    let channel : Requester = channel_in_turn t (after next) next (step.Reply q) in
    let named : ChannelIdentity = half_channel t.at_controller channel client server in
    let takes =
    turns_go_through.takes.reply channel next t.place q r is_reply
    ∙ ap (λ (h : Standing). settle (judge q r h t.caller.secret) (asking_keeping t.caller h t.info t.place (after next) (Some (record { number = next; place = t.place; step = step.Reply q })) (next_of t.plan.secrets))) how
    ∙ logons_are_asked.opened t.caller t.info t.place (after next) next offered_flags client server (next_of t.plan.secrets) refl in
    turn_trail s t t next number c r computers kept left left moment 0 (Opening named asks.next_call) None (FineAnd s4 0 (Some named)) (Fine (go_through_turn s) 0) seen alone between below names
    (ap (λ (h : Standing). asked_note (Some (step.Reply q)) h t.at_controller asks (wait_for asks t.place (step.Reply q))) how)
    (λ k b f.
    let d : Desk = desk_in_turn t computers in
    let then_so : Option Desk = work_after (by_call (served_call c) (turn_line t.link next) (bound_talk None turn_agreed) t.name moment d left) in
    let expects : Expects d channel client server = record { account = account; found = found; secret = hash; pair = waits } in
    let one : (unit : ℕ) → answer_in_turn s3 t next c computers k unit left moment ≡ opening (Some named) (where_in_turn s3 t next c computers k unit) next channel.caller.kind =
    λ unit. channels_are_named_alike.openings.opens channel client server (where_in_turn s3 t next c computers k unit) (turn_line t.link next) d then_so expects in
    let called : Called s3 t next c computers k 0 left moment b =
    call_comes s3 t (after next) next (step.Reply q) c computers left left moment 0 0 _ _ alone between below_next is_call steps seen.call k b f.fine
    (λ unit first. channels_are_named_alike.exchanges.opening channel client server (where_in_turn s3 t next c computers k unit) (turn_line t.link next) d then_so b.sent expects
    (waits_marked s3 (Some named) b unit f.waits first))
    (λ unit numbers. omega (arith, ap (λ (a : Answered). length (judged_of (a ∷ []) numbers)) (one unit))) in
    reply_waits s3 t next c computers k 0 0 left moment b (reply_bytes next r) (Some named) f.fine called (Opened named next called.came.number)
    (ap (λ (a : Answered). answered_marks (a ∷ [])) (one called.came.number)) refl
    (replied_bag s3 t (after next) next (step.Reply q) c computers left left moment (reply_bytes next r) _ called.came.number alone between steps seen.call))
    (λ k b f. reply_leads s4 t (after next) next q r kept left moment 0 between below_next is_reply (replied_names s t names) seen.reply k b f.fine
    (λ unit first. channels_are_named_alike.exchanges.opened t.at_controller channel _ client server (Some unit) b.sent how (ap (λ (taking : Taking). taking.taken) takes) (waits_marked s4 (Some named) b unit f.waits first)))
