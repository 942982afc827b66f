-- A logon that is granted at a member server, and the calls under it (MS-NLMP 3.2.5.1.2; the memo
-- interface is this project's own).
use Rattle.std.specs.Prelude.{ℕ, ◌≡◌, ◌+◌, ◌≤◌, ◌<◌, ◌^◌, true, List, [], ◌∷◌, length, Option, Some, None}
use Rattle.authenticators.specs.Sequences.{return_of}
use Rattle.memo_stubs.specs.Memo.{written_echo_reply, written_echo_request, written_who_reply}
use Rattle.wire_base.specs.Numbers.{AreBytes}
use Rattle.channel_keys.specs.Hidden.{crypt_key}
use Rattle.authenticators.specs.SecureChannels.{SecureChannelState, after_call, after_return, key_of_channel}
use Rattle.ntlm_seal.specs.Sessions.{SessionState}
use Rattle.outside.specs.declared.action.Action.TheVariants as action
use Rattle.outside.specs.declared.action.CloseCause.TheVariants as close
use Rattle.outside.specs.declared.action.Outcome.TheVariants as outcome
use Rattle.outside.specs.declared.event.Event.TheVariants as event
use Rattle.outside.specs.Machine.{whole_step}
use Rattle.rpc_units.specs.Calls.{bytes_of_call}
use Rattle.logon_stubs.specs.declared.calls.Reply.{Reply}
use Rattle.logon_stubs.specs.declared.calls.Reply.TheVariants as reply
use Rattle.logon_stubs.specs.declared.info.NetworkInfo.{NetworkInfo}
use Rattle.logon_stubs.specs.declared.info.SamInfo.{SamInfo}
use Rattle.channel_client.specs.declared.caller.Caller.{Caller}
use Rattle.channel_client.specs.declared.state.Question.TheVariants as question
use Rattle.channel_client.specs.declared.state.Standing.{Standing}
use Rattle.channel_client.specs.declared.state.Standing.TheVariants as standing
use Rattle.channel_client.specs.declared.state.Step.TheVariants as step
use Rattle.channel_client.specs.Machine.{after, level_asked}
use Rattle.logon_client.specs.declared.plan.ClientPlan.{ClientPlan}
use Rattle.member_server.specs.declared.plan.MemberPlan.{MemberPlan}
use Rattle.channel_turns.specs.declared.state.Dialling.TheVariants as dialling
use Rattle.member_server.specs.declared.state.LoggedOn.{LoggedOn}
use Rattle.member_server.specs.declared.state.Logon.{Logon}
use Rattle.member_server.specs.Machine.{step_of}
use Rattle.member_server.specs.Outcomes.{key_in, name_in, session_in}
use Rattle.member_server.specs.Requests.{talk_in}
use Rattle.logon_steps.specs.Meeting.{bound_for}
use Rattle.secret_change.specs.Secrets.{next_of}
use Rattle.logon_steps.specs.MemberLinks.{asked_talk, logons_resting, one_link}
use Rattle.logon_steps.specs.MemberTurns.{logons_keeping, member_at, on_turn}
use Rattle.logon_steps.specs.MemoCalls.{ReplyGoes, RequestGoes, logged_on}
use Rattle.logon_steps.specs.Turning.{IsTurnReply, turn_response}

-- the reply that grants, with a key that is hidden
abbrev pub granting : SecureChannelState → ℕ → ℕ → ℕ → SamInfo → Reply
granting o timestamp moment authoritative sam = reply.Logon (record {
  returned = Some (record { credential = return_of (key_of_channel o) o.seed timestamp; timestamp = moment });
  level = level_asked;
  info = Some sam;
  authoritative = authoritative;
  status = 0;
})

-- what is granted, with the plain key
abbrev pub sam_shown : SecureChannelState → SamInfo → SamInfo
sam_shown o sam = record sam { key = crypt_key (key_of_channel o) sam.key }

-- who is let in then
abbrev pub let_in : ClientPlan → SamInfo → Logon → LoggedOn
let_in task sam logon = record {
  bound = bound_for task;
  name = name_in sam;
  key = key_in sam logon;
  session = session_in (key_in sam logon) logon.agreed;
}

pub record LogonsEnd : Type 0 where
  -- the member tells that he is in, and WhoAmI, which was held, is answered
  pub granted : (plan : MemberPlan) (caller : Caller) (o : SecureChannelState) (info : NetworkInfo) (sam : SamInfo) (logon : Logon) (task : ClientPlan)
      (place next number turn now timestamp moment authoritative most : ℕ) (one : Option SessionState) (left : List (List ℕ)) → number < 2 ^ 32 →
      let shown : SamInfo = sam_shown o sam in
      let on : LoggedOn = let_in task shown logon in
      IsTurnReply question.Logon (granting o timestamp moment authoritative sam) → length (name_in shown) ≤ 32767 →
      (who : RequestGoes most task.level 2 0 [] one on.session) (back : ReplyGoes (most + 1) task.level 2 (written_who_reply (name_in shown)) who.next who.later) →
      step_of (member_at (logons_keeping plan caller (standing.Open (after_call o timestamp)) info place next number (step.Reply question.Logon) ((place, logon) ∷ []))
      (one_link logon.link (asked_talk (bound_for task) place (who.sent ∷ []))) (on_turn turn))
      (event.Bytes turn (bytes_of_call (turn_response number (granting o timestamp moment authoritative sam)) 5840)) now left
      ≡ whole_step left left
      (action.Close turn close.CallDone ∷ action.Told logon.link (outcome.In shown.domain shown.effective_name (key_in shown logon)) ∷ action.Send logon.link back.sent ∷ [])
      (member_at (logons_resting plan caller (next_of plan.secrets) (standing.Open (after_return true (after_call o timestamp))) (after place) next)
      (one_link logon.link (talk_in None (logged_on on back.later))) dialling.Nothing)
  -- Echo is answered with the same bytes
  pub echoed : (plan : MemberPlan) (caller : Caller) (kept : Option (List ℕ)) (how : Standing) (place next link now most : ℕ) (task : ClientPlan) (on : LoggedOn) (bytes : List ℕ)
      (one : Option SessionState) (left : List (List ℕ)) → on.bound ≡ bound_for task → length bytes ≤ 4096 → AreBytes bytes →
      (asks : RequestGoes most task.level 3 1 (written_echo_request bytes) one on.session)
      (back : ReplyGoes (most + 1) task.level 3 (written_echo_reply bytes) asks.next asks.later) →
      step_of (member_at (logons_resting plan caller kept how place next) (one_link link (talk_in None on)) dialling.Nothing) (event.Bytes link asks.sent) now left
      ≡ whole_step left left (action.Send link back.sent ∷ [])
      (member_at (logons_resting plan caller kept how place next) (one_link link (talk_in None (logged_on on back.later))) dialling.Nothing)
