-- A client's answer to the CHALLENGE of its member, and what the member asks for it (MS-NLMP
-- 3.1.5.1.2, 3.2.5.1.2; MS-RPCE 3.3.1.5.2).
use Rattle.std.specs.Prelude.{ℕ, ◌≡◌, List, [], ◌++◌, length, Some, None}
use Rattle.outside.specs.declared.action.Action.TheVariants as action
use Rattle.wire_base.specs.Units.{AreUnits}
use Rattle.ntlm_messages.specs.declared.messages.Authenticate.{Authenticate}
use Rattle.ntlm_messages.specs.Authenticate.{written_authenticate}
use Rattle.rpc_units.specs.declared.unit.Unit.{Unit as RpcUnit}
use Rattle.rpc_units.specs.Reading.{unit_of}
use Rattle.rpc_units.specs.Writing.{IsSendable, written}
use Rattle.logon_stubs.specs.declared.info.NetworkInfo.{NetworkInfo}
use Rattle.channel_client.specs.Machine.{ask_of}
use Rattle.end_links.specs.Sending.{request_of}
use Rattle.logon_client.specs.declared.answering.Answer.{Answer}
use Rattle.logon_client.specs.declared.answering.Drawn.{Drawn}
use Rattle.logon_client.specs.declared.plan.ClientPlan.{ClientPlan}
use Rattle.logon_client.specs.declared.securing.Sending.{Sending}
use Rattle.logon_client.specs.declared.state.Phase.TheVariants as client_phase
use Rattle.logon_client.specs.declared.state.Question.TheVariants as client_question
use Rattle.logon_client.specs.declared.state.Terms.{Terms}
use Rattle.logon_client.specs.declared.state.Work.{Work as ClientWork}
use Rattle.logon_client.specs.Answering.{answer_of, auth3_unit}
use Rattle.logon_client.specs.Machine as client
use Rattle.logon_client.specs.Plans.{CanLogOn}
use Rattle.logon_client.specs.Securing.{send_call}
use Rattle.member_server.specs.declared.plan.MemberPlan.{MemberPlan}
use Rattle.member_server.specs.declared.state.AtLink.{AtLink}
use Rattle.member_server.specs.declared.state.Logon.{Logon}
use Rattle.member_server.specs.Messages.{info_of, wait_for}
use Rattle.member_server.specs.Units.{unit_challenged}
use Rattle.logon_steps.specs.Meeting.{HasShortNames, bound_for, flags_agreed, flags_answered, offer_for}

-- what is drawn: the client's challenge, and the key in two halves
abbrev pub drawn_of : List ℕ → List ℕ → List ℕ → Drawn
drawn_of one two three = record { client = one; chosen = Some (two ++ three) }

pub record AreDraws (one two three : List ℕ) : Type 0 where
  pub client : length one ≡ 8
  pub first : length two ≡ 8
  pub second : length three ≡ 8

abbrev pub answer_for : MemberPlan → ClientPlan → List ℕ → ℕ → Drawn → Answer
answer_for plan task challenge now drawn = answer_of task (offer_for plan task challenge now) drawn

-- the auth3 with its message, and the terms of the calls behind it
abbrev pub auth3_for : ClientPlan → Authenticate → RpcUnit
auth3_for task message = auth3_unit task.level (written_authenticate message)

abbrev pub terms_for : MemberPlan → ClientPlan → List ℕ → ℕ → Drawn → Terms
terms_for plan task challenge now drawn =
    client.terms_of task.level (offer_for plan task challenge now) (answer_for plan task challenge now drawn).key

-- what the member keeps of the message
abbrev pub logon_for : ℕ → ClientPlan → List ℕ → Authenticate → Logon
logon_for link task challenge message = record { link = link; challenge = challenge; message = message; agreed = flags_agreed task }

-- the names of the plan are units of UTF-16
pub record HasUnits (task : ClientPlan) : Type 0 where
  pub domain : AreUnits task.domain
  pub user : AreUnits task.user
  pub workstation : AreUnits task.workstation

pub record AnswersAreAsked : Type 0 where
  -- the auth3 can be sent
  pub sends : (plan : MemberPlan) (task : ClientPlan) (challenge one two three : List ℕ) (now : ℕ) → CanLogOn task → HasShortNames plan → AreDraws one two three →
      IsSendable (auth3_for task (answer_for plan task challenge now (drawn_of one two three)).message)
  -- the answer to a CHALLENGE goes out, and the first call behind it
  pub goes : (plan : MemberPlan) (work : ClientWork) (challenge one two three : List ℕ) (link : ℕ) (sending : Sending) → CanLogOn work.task → HasShortNames plan →
      AreDraws one two three →
      let drawn : Drawn = drawn_of one two three in
      let terms : Terms = terms_for plan work.task challenge work.now drawn in
      send_call terms.session work.task.level (request_of client.who_number 0 client.who_opnum []) 5840 ≡ Some sending →
      client.answers (offer_for plan work.task challenge work.now) drawn link work
      ≡ (
        client.told (client.told work
            (action.Send link (written (auth3_for work.task (answer_for plan work.task challenge work.now drawn).message)))) (action.Send link sending.bytes),
        Some (client.talk_on link None (client_phase.Asked (record terms { session = sending.session }) client_question.Who)),
      )
  -- the member hears the auth3, and asks for the logon
  pub asked : (plan : MemberPlan) (task : ClientPlan) (challenge one two three : List ℕ) (now : ℕ) (at : AtLink) → CanLogOn task → HasShortNames plan →
      AreDraws one two three →
      let message : Authenticate = (answer_for plan task challenge now (drawn_of one two three)).message in
      unit_challenged (unit_of (written (auth3_for task message))) (bound_for task) challenge (flags_answered task) None at
      ≡ wait_for (ask_of at.logons.channel (info_of message (flags_agreed task) challenge)) (logon_for at.link task challenge message) (bound_for task) None at
  -- what is asked has the names of the plan
  pub names : (plan : MemberPlan) (task : ClientPlan) (challenge one two three : List ℕ) (now : ℕ) → CanLogOn task → HasUnits task →
      let message : Authenticate = (answer_for plan task challenge now (drawn_of one two three)).message in
      let info : NetworkInfo = info_of message (flags_agreed task) challenge in
      (info.domain ≡ task.domain) × (info.user ≡ task.user) × (info.workstation ≡ task.workstation)
