-- That what a member tells its controller of a client's answer fits into a call (MS-NRPC
-- 2.2.1.4.5).
use Rattle.std.specs.Prelude.{ℕ, ◌≡◌, ◌<◌, ◌^◌, List, length}
use Rattle.wire_base.specs.Numbers.{AreBytes}
use Rattle.logon_client.specs.declared.plan.ClientPlan.{ClientPlan}
use Rattle.logon_client.specs.Plans.{CanLogOn}
use Rattle.member_server.specs.declared.plan.MemberPlan.{MemberPlan}
use Rattle.member_server.specs.Messages.{info_of}
use Rattle.logon_steps.specs.Answers.{AreDraws, HasUnits, answer_for, drawn_of}
use Rattle.logon_steps.specs.Asking.{info_at}
use Rattle.logon_steps.specs.Calling.{HasShortInfo}
use Rattle.logon_steps.specs.Meeting.{HasShortNames, flags_agreed}

pub record LogonsAreShort : Type 0 where
  pub info : (plan : MemberPlan) (task : ClientPlan) (challenge one two three : List ℕ) (then_now place : ℕ) → CanLogOn task → HasUnits task → HasShortNames plan → AreDraws one two three →
      length challenge ≡ 8 → AreBytes challenge → AreBytes one → place < 2 ^ 32 →
      HasShortInfo (info_at place (info_of (answer_for plan task challenge then_now (drawn_of one two three)).message (flags_agreed task) challenge))
