-- One logon that is granted: the member's turns with its controller.
-- Of `phases_go_on`.
use Rattle.std.proofs.Common.{arith, Bool, true, false, inr, slice_get, Some, None, ◌≡◌, ℕ, zero, suc, ◌<◌, ◌^◌, refl, sym, ap, ap₂, subst, ◌∙◌, List, [], ◌∷◌, ◌++◌, length, Option}
use Rattle.std.specs.Option.{option_and_then}
use Rattle.std.specs.Prelude.{IsSomeAnd}
use Rattle.wire_base.specs.Maps.{put, take_out}
use Rattle.wire_base.specs.Names.{same_name}
use Rattle.wire_base.proofs.MapLaws.{lookup-put_same, put_others, taken_others}
use Rattle.wire_base.proofs.NameLaws.{IsSameness-same_name}
use Rattle.authenticators.specs.Sequences.{return_of}
use Rattle.outside.specs.declared.action.Action.TheVariants as action
use Rattle.outside.specs.declared.action.Judged.TheVariants as judged
use Rattle.outside.specs.declared.event.Event.TheVariants as event
use Rattle.outside.specs.Machine.{whole_step}
use Rattle.rpc_units.specs.Calls.{bytes_of_call}
use Rattle.logon_stubs.specs.declared.calls.Call.{Call}
use Rattle.logon_stubs.specs.declared.calls.Reply.{Reply}
use Rattle.logon_stubs.specs.declared.calls.Reply.TheVariants as reply
use Rattle.logon_stubs.specs.declared.info.SamInfo.{SamInfo}
use Rattle.logon_stubs.specs.declared.info.Verdict.{Verdict}
use Rattle.std.specs.List.{AllByRecursion}
use Rattle.authenticators.specs.SecureChannels.{SecureChannelState, after_call, after_return, fresh_channel, key_of_channel}
use Rattle.account_table.specs.AccountTable.{AccountTable}
use Rattle.secret_change.specs.Secrets.{IsNextSecret, IsSecret, SecretsState, alone, tried_of_next}
use Rattle.secret_change.specs.declared.secrets.Next.{Next}
use Rattle.account_table.specs.Changes.{at_place, with_bad_count, with_count, with_hash}
use Rattle.account_table.specs.Secrets.{secrets_of}
use Rattle.account_table.specs.LookUps.{knows_in, machine_in, place_in}
use Rattle.account_table.specs.Ranges.{InRangeAccount}
use Rattle.account_table.specs.declared.account.Account.{Account}
use Rattle.sam_logon.proofs.GrantedLaws.{in_range-counted}
use Rattle.domain_controller.specs.Whole.{InRangeTable}
use Rattle.sam_logon.specs.MayLogOn.{MayLogOn}
use Rattle.channel_client.specs.declared.state.Question.TheVariants as question
use Rattle.channel_client.specs.declared.state.Standing.{Standing}
use Rattle.channel_client.specs.declared.state.Standing.TheVariants as standing
use Rattle.channel_client.specs.declared.state.SetStep.TheVariants as set_step
use Rattle.channel_client.specs.declared.state.Step.TheVariants as step
use Rattle.channel_client.specs.Machine.{after, auth_call, challenge_call, change_call, judge_set_awaited, logon_call, offered_flags, server_credential}
use Rattle.domain_controller.specs.State.{State as ControllerState}
use Rattle.domain_controller.specs.Step.{step_of as controller_step_of}
use Rattle.controller_calls.specs.declared.state.Computers.{Computers}
use Rattle.domain_controller.specs.Machine.{account_for, channel_for, status_of}
use Rattle.member_server.specs.Turns.{timestamp_of}
use Rattle.world_moves.specs.declared.links.Route.TheVariants.{ToController}
use Rattle.world_moves.specs.declared.moves.Move.TheVariants as move
use Rattle.world_moves.specs.declared.state.State.{State}
use Rattle.world_moves.specs.Links.{OpenMap}
use Rattle.world_moves.specs.Moving.{onward}
use Rattle.logon_steps.specs.Answering.{auth_value, moved, pair_of}
use Rattle.logon_steps.specs.Answers.{AreDraws}
use Rattle.logon_steps.specs.ControllerTurns.{controller_at, passed_reply, reply_bytes, turn_link}
use Rattle.logon_steps.specs.Granting.{cleared, cleared_at, info_told}
use Rattle.logon_steps.specs.MemberAnswers.{granting}
use Rattle.logon_steps.specs.SetTurns.{IsSetTurn, set_taken}
use Rattle.logon_steps.specs.BesideTrusts.{AtTrusts, Keeping}
use Rattle.logon_steps.specs.Turning.{IsTurnCall, turn_request}
use Rattle.logon_steps.proofs.AnsweringLaws.{calls_are_answered}
use Rattle.logon_steps.proofs.CallingLaws.{calls_can_go}
use Rattle.logon_steps.proofs.BesideTrustsLaws.{trusts_stay_beside}
use Rattle.logon_steps.proofs.ControllerTurnLaws.{controllers_step}
use Rattle.logon_steps.proofs.GrantingLaws.{logons_are_granted}
use Rattle.logon_steps.proofs.SetTurnLaws.{controllers_set, set_units_go, taken_in_range}
use Rattle.logon_steps.proofs.AskingLaws.{same_bytes}
use Rattle.domain_controller.proofs.WholeParts.{hash_table}
use Rattle.logon_runs.specs.Grants.{KeyArrives}
use Rattle.logon_runs.specs.Scenes.LinkScenes.{its_link}
use Rattle.logon_runs.specs.Phases.{NotYet, Fourth, IsSetAt, WasJudged, WasOpened, WasSet, progress_called, progress_onward, Aim, ArrivesAt, Arrival, First, Fits, HasThree, IsAimed, IsPlanned, IsReady, IsTurning, HasUserAt, HasUserIn, MayLogOnAt, IsKnown, Second, Third, TurnAt, WhoAsked, own, scene_of, standing_for, step_for, turn_before, turn_on}
use Rattle.logon_runs.specs.Phases.{Acked, BindsBefore, BindsHeld, Calls, DialsBefore, DialsHeld, Granted, Halved, Proved, Sets}
use Rattle.logon_runs.specs.Runs.{ClientAnswer, hidden, info_asked, sam_for, with_moved}
use Rattle.logon_runs.specs.FirstLogon.FirstRuns.{with_pair}
use Rattle.logon_runs.specs.Scenes.Scene.{Shows}
use Rattle.logon_runs.specs.Scenes.AskScenes.{kept_by}
use Rattle.logon_runs.specs.Scenes.TurnScenes.{IsBetween, TurnScene, dial_scene, waiting_scene, with_accounts, with_secrets}
use Rattle.logon_runs.proofs.Scenes.AskSceneLaws.{logons_are_seen}
use Rattle.logon_runs.proofs.FirstLogon.FirstTraceLaws.{after_below}
use Rattle.logon_runs.proofs.Scenes.LinkSceneLaws.{found_here}
use Rattle.logon_runs.proofs.RunLaws.{between_still, same_computer, timestamp_below}
use Rattle.logon_runs.proofs.Scenes.SetSceneLaws.{sets_are_seen}
use Rattle.logon_runs.proofs.SecretRestLaws.{fits_set}
use Rattle.logon_runs.proofs.Scenes.TurnSceneLaws.{turns_are_seen}
use Rattle.logon_runs.proofs.Scenes.TwoLinkLaws.{turns_have_links}
use Rattle.logon_runs.proofs.Phases.PhaseStartLaws.{ComesBy, under_less, left_so, under}

-- ---- the bind, the answer and the call

-- the bind is answered, and the call goes out, whichever it is
pub asks_for : (p : Arrival) (s : State) (a : ClientAnswer) (who : WhoAsked p a) (v : TurnAt) (aim : Aim) (left : List (List ℕ)) (moment : ℕ) →
    IsBetween (turn_on p a who.later (who.sent ∷ []) v aim) → v.number < 2 ^ 32 → Shows s (scene_of p (Acked a who v aim) left moment) →
    Shows (onward s).state (scene_of p (Calls a who v aim) left moment)
asks_for p s a who v (First client) left moment between below shows =
    turns_are_seen.asks s (turn_on p a who.later (who.sent ∷ []) v (First client)) v.next v.number (challenge_call p.meeting.caller client) v.computers left moment between below shows
asks_for p s a who v (Second client server) left moment between below shows =
    turns_are_seen.asks s (turn_on p a who.later (who.sent ∷ []) v (Second client server)) v.next v.number (auth_call p.meeting.caller client server) v.computers left moment between below shows
asks_for p s a who v (Third o c timestamp) left moment between below shows =
    turns_are_seen.asks s (turn_on p a who.later (who.sent ∷ []) v (Third o c timestamp)) v.next v.number (logon_call p.meeting.caller o timestamp (info_asked (own p) a)) v.computers left moment
    between below shows
asks_for p s a who v (Fourth o c timestamp new) left moment between below shows =
    sets_are_seen.asks s (turn_on p a who.later (who.sent ∷ []) v (Fourth o c timestamp new)) v.next v.number (change_call p.meeting.caller o timestamp new) v.computers left moment between below shows

module _ (p : Arrival) (s : State) (a : ClientAnswer) (who : WhoAsked p a) (v : TurnAt) (aim : Aim) (left : List (List ℕ)) (moment : ℕ) (fits : IsTurning p a v × IsAimed p v aim) where
  pub dials_held : Shows s (scene_of p (DialsBefore a who v aim) left moment) → ComesBy p NotYet s (onward s).state
  dials_held shows =
      under p s _ (DialsHeld a who v aim) left moment shows.left fits
      (logons_are_seen.held_before s (own p) (turn_before p a who.later [] v) (its_link (own p)) (standing_for aim) v.next v.number 1 2 0 (step_for p a aim) v.computers [] _ _ who []
      left moment refl (found_here (own p)) shows)

  pub binds_held : Shows s (scene_of p (BindsBefore a who v aim) left moment) → ComesBy p NotYet s (onward s).state
  binds_held shows =
      let t : TurnScene = turn_before p a who.later [] v in
      under p s _ (BindsHeld a who v aim) left moment shows.left fits
      (logons_are_seen.held_within s (own p) (turn_on p a who.later [] v aim) v.next v.number 1 2 0 (step_for p a aim) v.computers _ [] _ _ who _
      left moment refl (turns_have_links.own (own p) t (standing_for aim) fits.0.joined_so) (turns_have_links.apart (own p) t fits.0.joined_so) shows)

  between : IsBetween (turn_on p a who.later (who.sent ∷ []) v aim)
  between = turns_have_links.between (own p) (turn_before p a who.later (who.sent ∷ []) v) (standing_for aim) fits.0.joined_so

  pub bound_on : Shows s (scene_of p (BindsHeld a who v aim) left moment) → ComesBy p NotYet s (onward s).state
  bound_on shows =
      under p s _ (Acked a who v aim) left moment shows.left fits
      (turns_are_seen.bound s (turn_on p a who.later (who.sent ∷ []) v aim) v.next v.number (step_for p a aim) v.computers left moment between fits.0.number_below shows)

  pub acked_on : Shows s (scene_of p (Acked a who v aim) left moment) → ComesBy p (progress_called aim) s (onward s).state
  acked_on shows =
      under p s _ (Calls a who v aim) left moment shows.left fits (asks_for p s a who v aim left moment between fits.0.number_below shows)

-- ---- the controller answers

-- what holds of the accounts with which the logon began
pub of_table : (p : Arrival) (v : TurnAt) (Holds : AccountTable → Type 0) → IsPlanned p v → Holds p.table → Holds v.table
of_table p v Holds planned is = subst Holds (sym planned.1) is

first_answered : (p : Arrival) (s : State) (a : ClientAnswer) (who : WhoAsked p a) (v : TurnAt) (client : List ℕ) (left : List (List ℕ)) (moment : ℕ) → IsKnown p → IsReady p s →
    IsTurning p a v × IsAimed p v (First client) → Shows s (scene_of p (Calls a who v (First client)) left moment) → ComesBy p NotYet s (onward s).state
first_answered p s a who v client left moment known ready fits shows =
    let three : HasThree s.chances.left = ready.draws in
    let can : IsTurnCall (challenge_call p.meeting.caller client) = calls_can_go.challenge p.meeting.caller client known.caller fits.1.0 in
    let later : Computers = with_pair (own p) client three.one v.computers in
    let more : List (List ℕ) = three.two ∷ three.three ∷ three.more in
    under_less p s _ (Halved a who (record v { computers = later }) client three.one) (three.one ∷ []) more moment (omega arith) three.are (
      record {
        answering = fits.0.answering;
        joined_so = fits.0.joined_so;
        number_below = fits.0.number_below;
        next_below = fits.0.next_below;
        others = fits.0.others;
        ranged = fits.0.ranged;
        set = fits.0.set;
        next = fits.0.next;
        fits = fits.0.fits;
      },
      three.first,
      (lookup-put_same same_name p.meeting.caller.computer (pair_of client three.one) v.computers.pending (same_computer p.meeting.caller.computer), fits.1.1, fits.1.2),
    )
    (turns_are_seen.answers s (turn_on p a who.later (who.sent ∷ []) v (First client)) (after v.next) v.next (step.Reply (question.Challenge client)) (challenge_call p.meeting.caller client)
    (reply.Challenge (record { challenge = three.one; status = 0 })) v.computers later (three.one ∷ more) more moment
    (between p s a who v (First client) left moment fits) can
    (trusts_stay_beside.called (kept_by (own p) v.table p.name v.computers) (length v.links) moment v.next (challenge_call p.meeting.caller client) (three.one ∷ more) more _ _ _ p.meeting.trusts.nobody
    fits.0.next_below can tt
    (controllers_step.challenged v.table p.name v.computers (length v.links) moment v.next p.meeting.caller client three.one more fits.0.next_below can
    (of_table p v (λ (t : AccountTable). knows_in t.accounts p.meeting.caller.computer ≡ true) fits.1.2 known.knows)))
    (left_so s (λ (l : List (List ℕ)). scene_of p (Calls a who v (First client)) l moment) left _ shows.left three.are shows))

-- the channel stands, and others are as they were
abbrev stands_at : Arrival → List ℕ → List ℕ → SecureChannelState
stands_at p client server = channel_for p.machine (pair_of client server) (auth_value p.meeting.caller client server)

abbrev with_stands : Arrival → List ℕ → List ℕ → Computers → Computers
with_stands p client server computers = record {
  pending = take_out same_name p.meeting.caller.computer computers.pending;
  channels = put same_name p.meeting.caller.computer (stands_at p client server) computers.channels;
  sessions = computers.sessions;
}

second_answered : (p : Arrival) (s : State) (a : ClientAnswer) (who : WhoAsked p a) (v : TurnAt) (client server : List ℕ) (left : List (List ℕ)) (moment : ℕ) → IsKnown p →
    IsTurning p a v × IsAimed p v (Second client server) → Shows s (scene_of p (Calls a who v (Second client server)) left moment) → ComesBy p (WasOpened client server) s (onward s).state
second_answered p s a who v client server left moment known fits shows =
    let can : IsTurnCall (auth_call p.meeting.caller client server) = calls_can_go.authenticate p.meeting.caller client server known.caller in
    let later : Computers = with_stands p client server v.computers in
    let c : SecureChannelState = stands_at p client server in
    let name : List ℕ = p.meeting.caller.computer in
    under p s _ (Proved a who (record v { computers = later }) client server) left moment shows.left (
      record {
        answering = fits.0.answering;
        joined_so = fits.0.joined_so;
        number_below = fits.0.number_below;
        next_below = fits.0.next_below;
        others = λ other apart. put_others same_name name other c v.computers.channels IsSameness-same_name apart ∙ fits.0.others other apart;
        ranged = fits.0.ranged;
        set = fits.0.set;
        next = fits.0.next;
        fits = fits.0.fits;
      },
      fits.1.2,
      (c, lookup-put_same same_name name c v.computers.channels (same_computer name), calls_are_answered.in_step p.meeting.caller client server p.machine (known.secret fits.1.1)),
    )
    (turns_are_seen.answers s (turn_on p a who.later (who.sent ∷ []) v (Second client server)) (after v.next) v.next (step.Reply question.Authenticate) (auth_call p.meeting.caller client server)
    (reply.Authenticate (record { credential = server_credential p.meeting.caller.secret client server; flags = offered_flags; status = 0 })) v.computers later left left moment
    (between p s a who v (Second client server) left moment fits) can
    (trusts_stay_beside.called (kept_by (own p) v.table p.name v.computers) (length v.links) moment v.next (auth_call p.meeting.caller client server) left left _ _ _ p.meeting.trusts.nobody
    fits.0.next_below can tt
    (controllers_step.proved v.table p.name v.computers (length v.links) moment v.next p.meeting.caller client server p.machine left fits.0.next_below can
    (of_table p v (λ (t : AccountTable). account_for t (auth_value p.meeting.caller client server) ≡ Some p.machine) fits.1.2 (known.machine_found client server)) (known.secret fits.1.1)
    fits.1.0)) shows)

-- accounts stay in their ranges where a count is 0
counted_range : (place : ℕ) (accounts : List Account) → AllByRecursion InRangeAccount accounts → AllByRecursion InRangeAccount (at_place place (with_count 0) accounts)
counted_range place [] are = tt
counted_range zero (account ∷ accounts) are = (in_range-counted account 0 (omega arith) are.0, are.1)
counted_range (suc place) (account ∷ accounts) are = (are.0, counted_range place accounts are.1)

cleared_at_range : (place : Option ℕ) (table : AccountTable) → InRangeTable table → InRangeTable (cleared_at place table)
unfolding with_bad_count
cleared_at_range None table is = is
cleared_at_range (Some place) table is = record { domain = is.domain; sid = is.sid; accounts = counted_range place table.accounts is.accounts }

cleared_range : (table : AccountTable) (user : List ℕ) → InRangeTable table → InRangeTable (cleared table user)
cleared_range table user is = cleared_at_range (place_in table.accounts user) table is

-- what the controller makes of the logon's call
pub grants_then : (p : Arrival) (a : ClientAnswer) (v : TurnAt) (o c : SecureChannelState) (timestamp moment : ℕ) (left : List (List ℕ)) → IsKnown p → HasUserIn p v.table → IsTurning p a v →
    IsAimed p v (Third o c timestamp) → MayLogOn v.table (info_told p.meeting.task) moment → IsTurnCall (logon_call p.meeting.caller o timestamp (info_asked (own p) a)) →
    let sam : SamInfo = sam_for (own p) a v.table p.name p.account moment in
    controller_step_of (controller_at v.table p.name v.computers (turn_link (length v.links)))
    (event.Bytes (length v.links) (bytes_of_call (turn_request v.next (logon_call p.meeting.caller o timestamp (info_asked (own p) a))) 5840)) moment left
    ≡ whole_step left left (action.Judged (judged.Passed 0) ∷ action.Send (length v.links) (reply_bytes v.next (granting o timestamp 0 1 (hidden o sam))) ∷ [])
    (controller_at (cleared v.table p.meeting.task.user) p.name (with_moved (own p) c timestamp v.computers) (turn_link (length v.links)))
grants_then p a v o c timestamp moment left known user is aimed may can =
    let sam : SamInfo = sam_for (own p) a v.table p.name p.account moment in
    let link : ℕ = length v.links in
    let later : Computers = with_moved (own p) c timestamp v.computers in
    let draws : AreDraws a.one a.two a.three = is.answering.draws in
    controllers_step.judged v.table p.name v.computers link moment v.next timestamp p.meeting.caller o c (info_asked (own p) a) left is.next_below can aimed.1 aimed.2
    ∙ ap₂ (λ (found : Verdict) (accounts : AccountTable). whole_step left left
    (action.Judged (judged.Passed (status_of found)) ∷ action.Send link (reply_bytes v.next (passed_reply (key_of_channel o) (return_of (key_of_channel o) o.seed timestamp) found)) ∷ [])
    (controller_at accounts p.name later (turn_link link)))
    (logons_are_granted.verdict p.meeting.plan p.meeting.task a.challenge a.one a.two a.three a.then_now p.meeting.place moment v.table p.name p.account known.can known.units draws
    user.found user.hash may)
    (logons_are_granted.table p.meeting.plan p.meeting.task a.challenge a.one a.two a.three a.then_now p.meeting.place moment v.table p.account known.can known.units draws
    user.found user.hash may)
    ∙ ap (λ (r : Reply). whole_step left left (action.Judged (judged.Passed 0) ∷ action.Send link (reply_bytes v.next r) ∷ [])
    (controller_at (cleared v.table p.meeting.task.user) p.name later (turn_link link))) (logons_are_granted.reply o timestamp sam)

third_answered : (p : Arrival) (s : State) (a : ClientAnswer) (who : WhoAsked p a) (v : TurnAt) (o c : SecureChannelState) (timestamp : ℕ) (left : List (List ℕ)) (moment : ℕ) → IsKnown p → HasUserIn p v.table → MayLogOnAt p s →
    IsReady p s → IsTurning p a v × IsAimed p v (Third o c timestamp) → KeyArrives (own p) a o → Shows s (scene_of p (Calls a who v (Third o c timestamp)) left moment) →
    ComesBy p (WasJudged a o) s (onward s).state
third_answered p s a who v o c timestamp left moment known user may_log ready fits arrives shows =
    let can : IsTurnCall (logon_call p.meeting.caller o timestamp (info_asked (own p) a)) = calls_can_go.logon p.meeting.caller o timestamp (info_asked (own p) a) known.caller fits.1.0 fits.0.answering.info in
    let later : Computers = with_moved (own p) c timestamp v.computers in
    let name : List ℕ = p.meeting.caller.computer in
    let accounts : AccountTable = cleared v.table p.meeting.task.user in
    let call : Call = logon_call p.meeting.caller o timestamp (info_asked (own p) a) in
    let kept : Keeping = kept_by (own p) v.table p.name v.computers in
    let rest : List (List ℕ × SecureChannelState) = take_out same_name name v.computers.channels in
    let may_then : MayLogOn v.table (info_told p.meeting.task) s.moment =
    subst (λ (found : Option ControllerState). IsSomeAnd found (λ (k : ControllerState). MayLogOn k.table (info_told p.meeting.task) s.moment)) shows.controller may_log in
    let may : MayLogOn v.table (info_told p.meeting.task) moment = subst (λ (now : ℕ). MayLogOn v.table (info_told p.meeting.task) now) shows.moment may_then in
    under p s _ (Granted a who (record v { computers = later }) o c timestamp moment accounts) left moment shows.left (
      record {
        answering = fits.0.answering;
        joined_so = fits.0.joined_so;
        number_below = fits.0.number_below;
        next_below = fits.0.next_below;
        others = λ other apart.
            put_others same_name name other (moved c timestamp) rest IsSameness-same_name apart ∙ taken_others same_name name other v.computers.channels IsSameness-same_name apart
            ∙ fits.0.others other apart;
        ranged = fits.0.ranged;
        set = fits.0.set;
        next = fits.0.next;
        fits = fits.0.fits;
      },
      subst (λ (now : ℕ). now < 2 ^ 64) shows.moment ready.below,
      logons_are_granted.counts v.table p.meeting.task.user,
      arrives,
      lookup-put_same same_name name (moved c timestamp) rest (same_computer name),
      fits.1.2,
      cleared_range v.table p.meeting.task.user fits.0.ranged,
      fits.1.3,
    )
    (turns_are_seen.judges s (turn_on p a who.later (who.sent ∷ []) v (Third o c timestamp)) (after v.next) v.next (step.Reply question.Logon) (logon_call p.meeting.caller o timestamp (info_asked (own p) a))
    (granting o timestamp 0 1 (hidden o (sam_for (own p) a v.table p.name p.account moment))) (judged.Passed 0) v.computers later accounts left left moment
    (between p s a who v (Third o c timestamp) left moment fits) can
    (trusts_stay_beside.called kept (length v.links) moment v.next call left left _ _ _ p.meeting.trusts.nobody fits.0.next_below can
    (trusts_stay_beside.alone kept call (ap (λ (trusts : AtTrusts). trusts.requesters) known.alone)) (grants_then p a v o c timestamp moment left known user fits.0 fits.1 may can)) shows)

-- the account by which the channel was opened has a place
pub record HasPlace (found : Option ℕ) : Type 0 where
  pub place : ℕ
  pub is : found ≡ Some place

pub place_found : {T : Type 0} (items : List T) (found : Option ℕ) (item : T) → option_and_then (slice_get items) found ≡ Some item → HasPlace found
place_found items None item is = absurd cc
place_found items (Some place) item is = record { place = place; is = refl }

pub some_not_none : (next : Option Next) (one : Next) → next ≡ Some one → next ≡ None → ⊥
some_not_none next one is none = absurd cc

fourth_answered : (p : Arrival) (s : State) (a : ClientAnswer) (who : WhoAsked p a) (v : TurnAt) (o c : SecureChannelState) (timestamp : ℕ) (new : List ℕ) (left : List (List ℕ)) (moment : ℕ) →
    IsKnown p → IsTurning p a v × IsAimed p v (Fourth o c timestamp new) → Shows s (scene_of p (Calls a who v (Fourth o c timestamp new)) left moment) → ComesBy p (WasSet o) s (onward s).state
fourth_answered p s a who v o c timestamp new left moment known fits shows =
    let can : IsSetTurn (change_call p.meeting.caller o timestamp new) = set_units_go.call p.meeting.caller o timestamp new known.caller fits.1.0 in
    let later : Computers = with_moved (own p) c timestamp v.computers in
    let name : List ℕ = p.meeting.caller.computer in
    let rest : List (List ℕ × SecureChannelState) = take_out same_name name v.computers.channels in
    let there : HasPlace (machine_in p.table.accounts p.meeting.caller.account p.meeting.caller.kind p.meeting.caller.computer) =
    place_found p.table.accounts (machine_in p.table.accounts p.meeting.caller.account p.meeting.caller.kind p.meeting.caller.computer) p.machine (known.machine_found [] []) in
    let found : machine_in v.table.accounts p.meeting.caller.account p.meeting.caller.kind p.meeting.caller.computer ≡ Some there.place =
    of_table p v (λ (t : AccountTable). machine_in t.accounts p.meeting.caller.account p.meeting.caller.kind p.meeting.caller.computer ≡ Some there.place) fits.1.3 there.is in
    let accounts : AccountTable = with_hash there.place new v.table in
    let is_secret : IsSecret new = subst IsNextSecret fits.1.4 known.next in
    under p s _ (Sets a who (record v { computers = later }) o c timestamp new accounts) left moment shows.left (
      record {
        answering = fits.0.answering;
        joined_so = fits.0.joined_so;
        number_below = fits.0.number_below;
        next_below = fits.0.next_below;
        others = λ other apart.
            put_others same_name name other (moved c timestamp) rest IsSameness-same_name apart ∙ taken_others same_name name other v.computers.channels IsSameness-same_name apart
            ∙ fits.0.others other apart;
        ranged = fits.0.ranged;
        set = fits.0.set;
        next = fits.0.next;
        fits = fits.0.fits;
      },
      lookup-put_same same_name name (moved c timestamp) rest (same_computer name),
      calls_are_answered.stays o c timestamp fits.1.2,
      fits.1.3,
      fits.1.4,
      (record { place = there.place; hash = new; found = found; is = refl }, refl),
      hash_table there.place new v.table fits.0.ranged,
    )
    (sets_are_seen.sets s (turn_on p a who.later (who.sent ∷ []) v (Fourth o c timestamp new)) (after v.next) v.next (step.Set set_step.Reply) (change_call p.meeting.caller o timestamp new)
    (set_taken o timestamp) (judged.Passed 0) (secrets_of accounts.accounts) v.computers later accounts left left moment (between p s a who v (Fourth o c timestamp new) left moment fits) can
    (trusts_stay_beside.set (kept_by (own p) v.table p.name v.computers) (length v.links) moment v.next (change_call p.meeting.caller o timestamp new) left left _ _ _ p.meeting.trusts.nobody fits.0.next_below can
    (controllers_set.set v.table p.name v.computers (length v.links) moment v.next timestamp there.place p.meeting.caller o c new left fits.0.next_below can is_secret fits.1.1 fits.1.2
    found)) shows)

pub calls_on : (p : Arrival) (s : State) (a : ClientAnswer) (who : WhoAsked p a) (v : TurnAt) (aim : Aim) (left : List (List ℕ)) (moment : ℕ) → IsKnown p → IsReady p s →
    IsTurning p a v × IsAimed p v aim → HasUserAt p s (Calls a who v aim) move.Onward → ArrivesAt p (Calls a who v aim) move.Onward → Shows s (scene_of p (Calls a who v aim) left moment) → ComesBy p (progress_onward {p = p} (Calls a who v aim)) s (onward s).state
calls_on p s a who v (First client) left moment known ready fits user arrives shows = first_answered p s a who v client left moment known ready fits shows
calls_on p s a who v (Second client server) left moment known ready fits user arrives shows = second_answered p s a who v client server left moment known fits shows
calls_on p s a who v (Third o c timestamp) left moment known ready fits user arrives shows =
    third_answered p s a who v o c timestamp left moment known user.0 user.1 ready fits arrives shows
calls_on p s a who v (Fourth o c timestamp new) left moment known ready fits user arrives shows = fourth_answered p s a who v o c timestamp new left moment known fits shows

-- ---- the member takes the replies that open the channel

-- the turn that follows
abbrev pub turn_after : Arrival → TurnAt → TurnAt
turn_after p v = record {
  computers = v.computers;
  number = after v.next;
  next = after (after v.next);
  links = v.links ++ ToController p.meeting.at_member p.meeting.at_controller ∷ [];
  secrets = v.secrets;
  table = v.table;
}

pub turning_after : (p : Arrival) (a : ClientAnswer) (who : WhoAsked p a) (v : TurnAt) (aim : Aim) → IsTurning p a v → IsTurning p a (turn_after p v)
turning_after p a who v aim is = record {
  answering = is.answering;
  joined_so = turns_have_links.met (own p) (turn_before p a who.later (who.sent ∷ []) v) (standing_for aim) is.joined_so;
  number_below = after_below v.next;
  next_below = after_below (after v.next);
  others = is.others;
  ranged = is.ranged;
  set = is.set;
  next = is.next;
  fits = is.fits;
}

pub halved_on : (p : Arrival) (s : State) (a : ClientAnswer) (who : WhoAsked p a) (v : TurnAt) (client server : List ℕ) (left : List (List ℕ)) (moment : ℕ) →
    Fits p (Halved a who v client server) → Shows s (scene_of p (Halved a who v client server) left moment) → ComesBy p NotYet s (onward s).state
halved_on p s a who v client server left moment fits shows =
    let t : TurnScene = turn_before p a who.later (who.sent ∷ []) v in
    let out : TurnScene = turn_on p a who.later (who.sent ∷ []) v (First client) in
    under p s _ (DialsHeld a who (turn_after p v) (Second client server)) left moment shows.left (turning_after p a who v (First client) fits.0, fits.2)
    (subst (λ (map : OpenMap). Shows (onward s).state
    (dial_scene out map (standing.Half client server) (after (after v.next)) (after v.next) (auth_call p.meeting.caller client server) v.computers [] left moment))
    (turns_have_links.taken (own p) t standing.Nothing fits.0.joined_so)
    (turns_are_seen.half s out (after v.next) v.next client server v.computers left moment (turns_have_links.between (own p) t standing.Nothing fits.0.joined_so)
    fits.0.next_below refl (calls_can_go.challenged client server fits.1) shows))

module _ (p : Arrival) (s : State) (a : ClientAnswer) (who : WhoAsked p a) (v : TurnAt) (client server : List ℕ) (left : List (List ℕ)) (moment : ℕ) (fits : Fits p (Proved a who v client server))
    (shows : Shows s (scene_of p (Proved a who v client server) left moment)) where
  abbrev before : TurnScene
  before = turn_before p a who.later (who.sent ∷ []) v

  abbrev half : Standing
  half = standing.Half client server

  abbrev out : TurnScene
  out = turn_on p a who.later (who.sent ∷ []) v (Second client server)

  abbrev fresh : SecureChannelState
  fresh = fresh_channel p.meeting.caller.secret client server offered_flags

  -- none is next: the logon's own turn is dialled
  opens_one : v.secrets.next ≡ None → ComesBy p NotYet s (onward s).state
  opens_one one =
      under p s _ (DialsHeld a who (turn_after p v) (Third fresh fits.2.0 (timestamp_of moment))) left moment shows.left
      (turning_after p a who v (Second client server) fits.0, (timestamp_below moment, fits.2.1, fits.2.2, one))
      (subst (λ (map : OpenMap). Shows (onward s).state
      (dial_scene out map (standing.Open (after_call fresh (timestamp_of moment))) (after (after v.next)) (after v.next)
      (logon_call p.meeting.caller fresh (timestamp_of moment) (info_asked (own p) a)) v.computers [] left moment))
      (turns_have_links.taken (own p) before half fits.0.joined_so)
      (turns_are_seen.opened s out (after v.next) v.next offered_flags client server v.computers left moment (turns_have_links.between (own p) before half fits.0.joined_so)
      fits.0.next_below refl one refl (calls_can_go.proved p.meeting.caller.secret client server) shows))

  -- the current secret was tried: the turn that sets the next one is dialled
  opens_set : (new : List ℕ) → v.secrets.next ≡ Some (record { secret = new; is_tried = false }) → ComesBy p NotYet s (onward s).state
  opens_set new next =
      under p s _ (DialsHeld a who (turn_after p v) (Fourth fresh fits.2.0 (timestamp_of moment) new)) left moment shows.left
      (turning_after p a who v (Second client server) fits.0, (timestamp_below moment, fits.2.1, fits.2.2, fits.1, sym (ap (λ (k : SecretsState). k.next) fits.1.0) ∙ next))
      (subst (λ (map : OpenMap). Shows (onward s).state
      (waiting_scene out map (standing.Open (after_call fresh (timestamp_of moment))) (after (after v.next)) (after v.next)
      (step.Set (set_step.Bind (change_call p.meeting.caller fresh (timestamp_of moment) new))) v.computers [] left moment))
      (turns_have_links.taken (own p) before half fits.0.joined_so)
      (sets_are_seen.opened s out (after v.next) v.next offered_flags client server v.secrets.current new v.computers left moment (turns_have_links.between (own p) before half fits.0.joined_so)
      fits.0.next_below refl (ap (λ (n : Option Next). record { current = v.secrets.current; next = n }) next) refl (calls_can_go.proved p.meeting.caller.secret client server) shows))

  -- the next one was: the member keeps it alone, and the logon's own turn is dialled
  opens_next : (new : List ℕ) → v.secrets.next ≡ Some (record { secret = new; is_tried = true }) → ComesBy p NotYet s (onward s).state
  opens_next new next =
      let turned : IsTurning p a (turn_after p v) = turning_after p a who v (Second client server) fits.0 in
      under p s _ (DialsHeld a who (record (turn_after p v) { secrets = alone new }) (Third fresh fits.2.0 (timestamp_of moment))) left moment shows.left (
        record {
          answering = turned.answering;
          joined_so = turned.joined_so;
          number_below = turned.number_below;
          next_below = turned.next_below;
          others = turned.others;
          ranged = turned.ranged;
          set = turned.set;
          next = tt;
          fits = λ first machine found. turned.fits first machine found ∙ ap (λ (n : Option Next). tried_of_next n v.secrets.current) next;
        },
        (timestamp_below moment, fits.2.1, fits.2.2, refl),
      )
      (subst (λ (map : OpenMap). Shows (onward s).state
      (dial_scene (with_secrets (alone new) out) map (standing.Open (after_call fresh (timestamp_of moment))) (after (after v.next)) (after v.next)
      (logon_call p.meeting.caller fresh (timestamp_of moment) (info_asked (own p) a)) v.computers [] left moment))
      (turns_have_links.taken (own p) before half fits.0.joined_so)
      (sets_are_seen.opened_next s out (after v.next) v.next offered_flags client server v.secrets.current new v.computers left moment (turns_have_links.between (own p) before half fits.0.joined_so)
      fits.0.next_below refl (ap (λ (n : Option Next). record { current = v.secrets.current; next = n }) next) refl (calls_can_go.proved p.meeting.caller.secret client server) shows))

  opens_by : (n : Next) (tried : Bool) → n.is_tried ≡ tried → v.secrets.next ≡ Some n → ComesBy p NotYet s (onward s).state
  opens_by n true tried next = opens_next n.secret (next ∙ ap (λ (b : Bool). Some (record { secret = n.secret; is_tried = b })) tried)
  opens_by n false tried next = opens_set n.secret (next ∙ ap (λ (b : Bool). Some (record { secret = n.secret; is_tried = b })) tried)

  opens : (next : Option Next) → v.secrets.next ≡ next → ComesBy p NotYet s (onward s).state
  opens None next = opens_one next
  opens (Some n) next = opens_by n n.is_tried refl next

  pub proved_on : ComesBy p NotYet s (onward s).state
  proved_on = opens v.secrets.next refl

-- ---- the member takes the reply that sets the secret

pub sets_on : (p : Arrival) (s : State) (a : ClientAnswer) (who : WhoAsked p a) (v : TurnAt) (o c : SecureChannelState) (timestamp : ℕ) (new : List ℕ) (accounts : AccountTable) (left : List (List ℕ)) (moment : ℕ) →
    Fits p (Sets a who v o c timestamp new accounts) → Shows s (scene_of p (Sets a who v o c timestamp new accounts) left moment) → ComesBy p NotYet s (onward s).state
sets_on p s a who v o c timestamp new accounts left moment fits shows =
    let t : TurnScene = turn_before p a who.later (who.sent ∷ []) v in
    let how : Standing = standing.Open (after_call o timestamp) in
    let later : SecureChannelState = after_return true (after_call o timestamp) in
    let out : TurnScene = turn_on p a who.later (who.sent ∷ []) v (Fourth o c timestamp new) in
    let turned : IsTurning p a (turn_after p v) = turning_after p a who v (Fourth o c timestamp new) fits.0 in
    let next : v.secrets.next ≡ Some (record { secret = new; is_tried = false }) = ap (λ (k : SecretsState). k.next) fits.3.0 ∙ fits.4 in
    under p s _ (DialsHeld a who (record (turn_after p v) { secrets = alone new; table = accounts }) (Third later (moved c timestamp) (timestamp_of moment))) left moment shows.left (
      record {
        answering = turned.answering;
        joined_so = turned.joined_so;
        number_below = turned.number_below;
        next_below = turned.next_below;
        others = turned.others;
        ranged = fits.6;
        set = inr (subst (λ (t : AccountTable). IsSetAt p.meeting.caller t accounts) fits.3.1 fits.5.0);
        next = tt;
        fits = λ first. fits_set p.meeting.caller new v.table accounts fits.5.0 fits.5.1;
      },
      (timestamp_below moment, fits.1, fits.2, refl),
    )
    (subst (λ (map : OpenMap). Shows (onward s).state
    (dial_scene (with_secrets (alone new) (with_accounts accounts out)) map (standing.Open (after_call later (timestamp_of moment))) (after (after v.next)) (after v.next)
    (logon_call p.meeting.caller later (timestamp_of moment) (info_asked (own p) a)) v.computers [] left moment))
    (turns_have_links.taken (own p) t how fits.0.joined_so)
    (sets_are_seen.set s (with_accounts accounts out) (after_call o timestamp) later (set_taken o timestamp) (after v.next) v.next v.secrets.current new v.computers left moment
    (between_still out accounts (turns_have_links.between (own p) t how fits.0.joined_so)) fits.0.next_below (taken_in_range o timestamp) refl
    (ap (λ (is_same : Bool). judge_set_awaited is_same (after_call o timestamp)) (same_bytes (return_of (key_of_channel o) o.seed timestamp)))
    (ap (λ (n : Option Next). record { current = v.secrets.current; next = n }) next) shows))
