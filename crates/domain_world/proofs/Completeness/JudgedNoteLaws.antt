-- What is written down where the controller grants a logon: a call that passed with status 0, by the user's hash and on
-- the member's channel.
-- It serves `Proved.complete`.
use Rattle.std.proofs.Common.{◌≡◌, ℕ, true, slice_get, refl, sym, ap, ap₂, subst, ◌∙◌, List, [], ◌∷◌, ◌++◌, length, map, replicate, Option, Some, None, inl}
use Rattle.std.specs.Prelude.{IsSomeAnd}
use Rattle.rc4_stream.specs.Rc4.{applied}
use Rattle.authenticators.specs.Channels.{ChannelIdentity}
use Rattle.outside.specs.declared.action.Judged.{Judged}
use Rattle.outside.specs.declared.action.Judged.TheVariants as judged
use Rattle.outside.specs.Machine.{Stepped}
use Rattle.rpc_units.specs.Calls.{bytes_of_call}
use Rattle.ntlm_responses.specs.Verification.{base_key_of}
use Rattle.authenticators.specs.Sequences.{authenticator_of, return_of}
use Rattle.authenticators.specs.SecureChannels.{SecureChannelState, key_of_channel}
use Rattle.end_links.specs.Serving.{ServedPart}
use Rattle.logon_stubs.specs.declared.calls.Call.{Call}
use Rattle.logon_stubs.specs.declared.calls.LogonCall.{LogonCall}
use Rattle.logon_stubs.specs.declared.info.NetworkInfo.{NetworkInfo}
use Rattle.account_table.specs.LookUps.{account_in}
use Rattle.sam_logon.specs.MayLogOn.{MayLogOn}
use Rattle.sam_logon.specs.Verdict.{Judgement}
use Rattle.channel_client.specs.declared.state.Question.TheVariants as question
use Rattle.channel_client.specs.declared.state.Step.TheVariants as step
use Rattle.channel_client.specs.declared.caller.Caller.{Caller}
use Rattle.channel_client.specs.Machine.{after, level_asked, logon_call}
use Rattle.domain_controller.specs.Hearing.{bound_talk, served_call}
use Rattle.domain_controller.specs.Machine.{Desk, by_call, put_channel, take_channel, with_judgement}
use Rattle.controller_calls.specs.declared.line.Line.{Line}
use Rattle.domain_controller.specs.declared.state.Talk.{Talk}
use Rattle.domain_controller.specs.State.{State as ControllerState}
use Rattle.domain_controller.specs.Step.{first_desk}
use Rattle.wire_base.specs.Lists.{OneOf}
use Rattle.step_notes.specs.ControllerNotes.{Answered, Where, answer_on, identity_by, channel_in, has_passed, judged_in, judging_by, judging_of, new_actions, passing, units_of_controller}
use Rattle.step_notes.specs.Judged.{channel_if, hash_in, passed_channel}
use Rattle.step_notes.specs.Records.{Book, Judging, computer_named}
use Rattle.controller_calls.specs.declared.calls.JudgedCall.TheVariants.{Network}
use Rattle.step_notes.specs.Served.{work_after}
use Rattle.world_moves.specs.declared.bag.BagUnit.{BagUnit}
use Rattle.world_moves.specs.declared.links.EndId.TheVariants.{Controller}
use Rattle.world_moves.specs.declared.moves.Move.TheVariants as move
use Rattle.world_moves.specs.declared.state.State.{State}
use Rattle.world_moves.specs.Moving.{settle}
use Rattle.world_moves.specs.World.{World}
use Rattle.logon_steps.specs.Answering.{moved}
use Rattle.logon_steps.specs.Calling.{TravelsAsZeros as KeyTravels}
use Rattle.logon_steps.specs.ControllerTurns.{controller_at, turn_link}
use Rattle.logon_steps.specs.Granting.{base_key, info_told}
use Rattle.logon_steps.specs.Turning.{IsTurnCall, turn_agreed, turn_request}
use Rattle.logon_steps.proofs.AnsweringLaws.{calls_are_answered}
use Rattle.logon_steps.proofs.AnswersLaws.{answers_are_asked}
use Rattle.logon_steps.proofs.CallingLaws.{calls_can_go}
use Rattle.logon_steps.proofs.BesideTrustsLaws.{trusts_stay_beside}
use Rattle.logon_steps.proofs.ControllerTurnLaws.{controllers_step}
use Rattle.logon_steps.proofs.GrantingLaws.{logons_are_granted}
use Rattle.logon_steps.proofs.TurningLaws.{request_comes}
use Rattle.logon_runs.specs.Phases.{Calls, Arrival, Fits, HasUserIn, IsAimed, IsKnown, IsTurning, MayLogOnAt, Third, TurnAt, WhoAsked, own, scene_of, standing_for, turn_before, turn_on}
use Rattle.logon_runs.specs.Runs.{ClientAnswer, info_asked, message_for}
use Rattle.logon_runs.specs.Scenes.Scene.{Shows}
use Rattle.logon_runs.specs.Scenes.TurnScenes.{IsBetween, TurnScene, unit_there}
use Rattle.logon_runs.proofs.Scenes.TurnSceneLaws.{heard_there}
use Rattle.logon_runs.proofs.Scenes.TwoLinkLaws.{turns_have_links}
use Rattle.domain_world.specs.Claims.{TravelsAsZeros, key_bytes}
use Rattle.domain_world.specs.Claims.Completeness.{IsMadeForClient}
use Rattle.domain_world.specs.Past.{Delivery, at_controller, judged_of, note, note_controller, number_sent, numbers_on, onto, with_reply}
use Rattle.domain_world.proofs.Frames.AloneNoteLaws.{alone_answers as answers_of, state_noted}
use Rattle.domain_world.proofs.Completeness.HeardOnceLaws.{ComeTo, controller_answers, turn_answer, turn_line}
use Rattle.domain_world.proofs.Completeness.UnitNotedLaws.{Came, comes_so, coming, state_then}

-- ---- the judging of an answer

passing_judging : (channel : Option ChannelIdentity) (j : Judging) → (passing channel j).judging ≡ Some j
passing_judging None j = refl
passing_judging (Some channel) j = refl

-- a judging is written down in front of the others, with its reply
newest : (P : Judging → Type 0) (one : Answered) (j : Judging) (numbers : List ℕ) (older : List Judging) → one.judging ≡ Some j →
    ((number : Option ℕ) → P (record j { reply = number })) → OneOf P (onto (judged_of (one ∷ []) numbers) older)
newest P one j numbers older is holds =
    subst (λ (found : Option Judging). OneOf P (onto (with_reply found (number_sent one.sends numbers) ++ []) older)) (sym is) (inl (holds (number_sent one.sends numbers)))

-- ---- the call that grants

-- a network logon that is made for the client, and passed with status 0, on a key that travels as zeros where this one
-- does
pub record IsGrant (p : Arrival) (key base : List ℕ) (j : Judging) : Type 0 where
  pub how : j.how ≡ Some (judged.Passed 0)
  pub call : LogonCall
  pub asks : j.asked ≡ Network call
  pub own : IsMadeForClient p.meeting.task p.meeting.caller.computer p.meeting.at_controller j call
  pub zeros : KeyTravels key base → TravelsAsZeros j call.info

-- the logon of the call
abbrev pub logon_value : Caller → SecureChannelState → ℕ → NetworkInfo → LogonCall
logon_value caller o timestamp info = record {
  server = None;
  computer = Some caller.computer;
  authenticator = Some (authenticator_of (key_of_channel o) o.seed timestamp);
  returned = Some (record { credential = replicate 8 0; timestamp = 0 });
  info = info;
  validation = level_asked;
}

module _ (p : Arrival) (a : ClientAnswer) (v : TurnAt) (o c : SecureChannelState) (timestamp moment : ℕ) (left : List (List ℕ)) (known : IsKnown p) (user : HasUserIn p v.table) (is : IsTurning p a v)
    (aimed : IsAimed p v (Third o c timestamp)) (may : MayLogOn v.table (info_told p.meeting.task) moment) where
  abbrev info : NetworkInfo
  info = info_asked (own p) a

  abbrev line : Line
  line = turn_line (length v.links) v.next

  abbrev before : Desk
  before = first_desk v.table (record { computers = v.computers; links = turn_link (length v.links) })

  abbrev then_so : Option Desk
  then_so = work_after (by_call (served_call (logon_call p.meeting.caller o timestamp (info_asked (own p) a))) line (bound_talk None turn_agreed) p.name moment before left)

  pub passed_so : judged_in (new_actions then_so before) ≡ Some (judged.Passed 0)
  passed_so =
      ap (λ (part : ServedPart Desk Talk). judged_in (new_actions (work_after part) before))
      (calls_are_answered.judges p.meeting.caller o c info timestamp line (bound_talk None turn_agreed) p.name moment before left aimed.1 aimed.2)
      ∙ ap (λ (j : Judgement). judged_in (new_actions (Some (with_judgement j line level_asked (key_of_channel o) (return_of (key_of_channel o) o.seed timestamp)
      (put_channel p.meeting.caller.computer (moved c timestamp) (take_channel p.meeting.caller.computer before.work)))) before))
      (logons_are_granted.granted p.meeting.plan p.meeting.task a.challenge a.one a.two a.three a.then_now p.meeting.place moment v.table p.name p.account known.can known.units is.answering.draws
      user.found user.hash may)

  names_so : (info.domain ≡ p.meeting.task.domain) × (info.user ≡ p.meeting.task.user) × (info.workstation ≡ p.meeting.task.workstation)
  names_so = answers_are_asked.names p.meeting.plan p.meeting.task a.challenge a.one a.two a.three a.then_now known.can known.units

  hash_so : hash_in (account_in v.table.accounts info.user) ≡ p.meeting.task.hash
  hash_so = ap (λ (name : List ℕ). hash_in (account_in v.table.accounts name)) names_so.1 ∙ ap hash_in user.found ∙ user.hash

  base_so : base_key_of (hash_in (account_in v.table.accounts info.user)) info.user info.domain info.nt ≡ base_key p.meeting.task (message_for (own p) a)
  base_so =
      ap₂ (λ (hash name : List ℕ). base_key_of hash name info.domain info.nt) hash_so names_so.1
      ∙ ap (λ (domain : List ℕ). base_key_of p.meeting.task.hash p.meeting.task.user domain info.nt) names_so.0

  -- the judging that is written down
  abbrev judging_then : Where → Judging
  judging_then w = judging_of w line (Network (logon_value p.meeting.caller o timestamp info)) before then_so

  bytes_so : (w : Where) (number : Option ℕ) → key_bytes (passed_channel (record (judging_then w) { reply = number })) ≡ applied (key_of_channel o) 0 (replicate 16 0)
  bytes_so w number =
      ap (λ (how : Option Judged). key_bytes (channel_if (has_passed how) (record (judging_then w) { reply = number }))) passed_so
      ∙ ap (λ (found : Option SecureChannelState). key_bytes (identity_by w.controller p.meeting.caller.computer found)) aimed.1
      ∙ ap (λ (key : List ℕ). applied key 0 (replicate 16 0)) aimed.2.key

  pub grant_so : (w : Where) → w.controller ≡ p.meeting.at_controller → (number : Option ℕ) → IsGrant p (key_of_channel o) (base_key p.meeting.task (message_for (own p) a)) (record (judging_then w) { reply = number })
  grant_so w at number = record {
    how = passed_so;
    call = logon_value p.meeting.caller o timestamp info;
    asks = refl;
    own = record { its_controller = at; its_computer = refl; domain = names_so.0; user = names_so.1; workstation = names_so.2 };
    zeros = λ zeros. base_so ∙ zeros ∙ sym (bytes_so w number);
  }

  pub judging_so : (w : Where) → (turn_answer p.name moment (length v.links) v.next (logon_call p.meeting.caller o timestamp (info_asked (own p) a)) w before left).judging ≡ Some (judging_then w)
  judging_so w =
      ap (λ (how : Option Judged). (judging_by (has_passed how) (judging_then w)).judging) passed_so
      ∙ passing_judging (channel_in (judging_then w).controller (computer_named (judging_then w).asked) (judging_then w).checks) (judging_then w)

-- ---- the move at which it is judged

pub grant_noted : (p : Arrival) (w : World) (b : Book) (a : ClientAnswer) (who : WhoAsked p a) (v : TurnAt) (o c : SecureChannelState) (timestamp : ℕ) (left : List (List ℕ)) (moment : ℕ) → IsKnown p →
    HasUserIn p v.table → MayLogOnAt p w.state → Fits p (Calls a who v (Third o c timestamp)) → Shows w.state (scene_of p (Calls a who v (Third o c timestamp)) left moment) →
    OneOf (IsGrant p (key_of_channel o) (base_key p.meeting.task (message_for (own p) a))) (note w move.Onward b).judged
grant_noted p w b a who v o c timestamp left moment known user may_log fits shows =
    let s : State = w.state in
    let call : Call = logon_call p.meeting.caller o timestamp (info_asked (own p) a) in
    let t : TurnScene = turn_on p a who.later (who.sent ∷ []) v (Third o c timestamp) in
    let bytes : List ℕ = bytes_of_call (turn_request v.next call) 5840 in
    let unit : BagUnit = unit_there t bytes in
    let at : ℕ = p.meeting.at_controller in
    let there : ControllerState = controller_at v.table p.name v.computers (turn_link (length v.links)) in
    let is_there : slice_get s.ends.controllers at ≡ Some there =
    shows.controller ∙ ap Some (trusts_stay_beside.stands v.table p.name v.computers (turn_link (length v.links)) p.meeting.trusts known.alone) in
    let may_then : MayLogOn v.table (info_told p.meeting.task) s.moment =
    subst (λ (found : Option ControllerState). IsSomeAnd found (λ (k : ControllerState). MayLogOn k.table (info_told p.meeting.task) s.moment)) is_there may_log in
    let may : MayLogOn v.table (info_told p.meeting.task) moment = subst (λ (now : ℕ). MayLogOn v.table (info_told p.meeting.task) now) shows.moment may_then in
    let can : IsTurnCall call = calls_can_go.logon p.meeting.caller o timestamp (info_asked (own p) a) known.caller fits.1.0 fits.0.answering.info in
    let between : IsBetween t = turns_have_links.between (own p) (turn_before p a who.later (who.sent ∷ []) v) (standing_for (Third o c timestamp)) fits.0.joined_so in
    let came : Came s unit [] (Controller at) =
    comes_so s _ unit [] (Controller at) shows
    (heard_there t bytes (after v.next) v.next (step.Reply question.Logon) v.computers (turn_link (length v.links)) left moment between (request_comes v.next call can)) in
    let by : Delivery = coming w.moves came.number unit in
    let s1 : State = settle came.number s in
    let later : State = state_then (Controller at) unit came.number s in
    let where_so : Where = at_controller at there by s1 in
    let one : Answered = turn_answer p.name moment (length v.links) v.next call where_so (first_desk v.table (record { computers = v.computers; links = turn_link (length v.links) })) left in
    let to : ComeTo (answers_of at there by bytes s1) one =
    subst (λ (all : List Answered). ComeTo all one)
    (sym (ap₂ (λ (now : ℕ) (l : List (List ℕ)). map (answer_on (length v.links) where_so) (units_of_controller there (length v.links) bytes now l)) shows.moment shows.left))
    (controller_answers p.name moment (length v.links) v.next call where_so can v.table v.computers left _ fits.0.next_below
    (ap (λ (stepped : Stepped ControllerState). stepped.answer)
    (controllers_step.judged v.table p.name v.computers (length v.links) moment v.next timestamp p.meeting.caller o c (info_asked (own p) a) left fits.0.next_below can fits.1.1 fits.1.2))) in
    let numbers : List ℕ = numbers_on unit.link true s1.bag later.bag in
    subst (λ (now : Book). OneOf (IsGrant p (key_of_channel o) (base_key p.meeting.task (message_for (own p) a))) now.judged)
    (sym (came.noted w.moves b ∙ ap (λ (found : Option ControllerState). note_controller found at by bytes s1 later b) is_there
    ∙ state_noted at there by bytes s1 later b refl))
    (subst (λ (js : List Judging). OneOf (IsGrant p (key_of_channel o) (base_key p.meeting.task (message_for (own p) a))) (onto js b.judged)) (sym (to.judged numbers))
    (newest (IsGrant p (key_of_channel o) (base_key p.meeting.task (message_for (own p) a))) one _ numbers b.judged (judging_so p a v o c timestamp moment left known user fits.0 fits.1 may where_so)
    (grant_so p a v o c timestamp moment left known user fits.0 fits.1 may where_so refl)))
