-- How a client and a member server meet on a link: the bind with its NEGOTIATE, the answer with the
-- CHALLENGE, and the auth3 with the AUTHENTICATE and the first call behind it (MS-NLMP 3.1.5.1,
-- 3.2.5.1; MS-RPCE 3.3.1.5.2; C706 12.6.3).
use Rattle.std.specs.Prelude.{ℕ, ◌≡◌, ◌≤◌, List, [], ◌∷◌, ◌++◌, length, Some, None, Ok}
use Rattle.wire_base.specs.Units.{utf16_of}
use Rattle.ntlm_flags.specs.Flags.{agreed_flags, challenge_flags}
use Rattle.ntlm_messages.specs.Pairs.{written_pairs}
use Rattle.rpc_units.specs.declared.unit.Syntax.{Syntax}
use Rattle.rpc_units.specs.declared.unit.Unit.{Unit as RpcUnit}
use Rattle.rpc_units.specs.Numbers.{ndr_syntax}
use Rattle.rpc_units.specs.Stream.{cut_stream}
use Rattle.rpc_units.specs.Writing.{written}
use Rattle.memo_stubs.specs.Interface.{memo_syntax}
use Rattle.end_links.specs.Serving.{served_cut}
use Rattle.logon_client.specs.declared.answering.ServerOffer.{ServerOffer}
use Rattle.logon_client.specs.declared.plan.ClientPlan.{ClientPlan}
use Rattle.logon_client.specs.declared.state.Phase.TheVariants as client_phase
use Rattle.logon_client.specs.declared.state.Work.{Work as ClientWork}
use Rattle.logon_client.specs.Answering.{bind_for}
use Rattle.logon_client.specs.Machine as client
use Rattle.logon_client.specs.declared.hearing.Heard.TheVariants as heard
use Rattle.logon_client.specs.Plans.{CanLogOn, offer_of}
use Rattle.member_server.specs.declared.binds.Offer.{Offer}
use Rattle.member_server.specs.declared.plan.MemberPlan.{MemberPlan}
use Rattle.member_server.specs.declared.state.AtLink.{AtLink}
use Rattle.member_server.specs.declared.state.Bound.{Bound}
use Rattle.member_server.specs.declared.state.Phase.TheVariants as phase
use Rattle.member_server.specs.declared.state.Talk.{Talk}
use Rattle.member_server.specs.Binds.{bound_by, challenge_ack}
use Rattle.member_server.specs.Units.{link_server}
use Rattle.member_server.specs.Work.{drawless, send_unit, stay}

-- ---- what each side says

-- the context of a client's bind
abbrev pub memo_contexts : List (ℕ × Syntax × List Syntax)
memo_contexts = (0, memo_syntax, ndr_syntax ∷ []) ∷ []

-- the flags of the CHALLENGE that answers it, and those that both then have
abbrev pub flags_answered : ClientPlan → ℕ
flags_answered task = challenge_flags (offer_of task.auth)

abbrev pub flags_agreed : ClientPlan → ℕ
flags_agreed task = agreed_flags (offer_of task.auth) (flags_answered task)

-- what a bind of that client offers, and what is bound then
abbrev pub offer_heard : ClientPlan → Offer
offer_heard task = record { level = task.level; context = 1; flags = flags_answered task }

abbrev pub bound_for : ClientPlan → Bound
bound_for task = bound_by (offer_heard task) 5840 memo_contexts

-- the answer of that member
abbrev pub ack_for : MemberPlan → ClientPlan → List ℕ → RpcUnit
ack_for plan task challenge = challenge_ack (offer_heard task) plan 1 5840 memo_contexts challenge

-- the pairs of its CHALLENGE, and what the client then answers
abbrev pub info_for : MemberPlan → List ℕ
info_for plan = written_pairs ((2, utf16_of plan.domain) ∷ (1, utf16_of plan.computer) ∷ [])

abbrev pub offer_for : MemberPlan → ClientPlan → List ℕ → ℕ → ServerOffer
offer_for plan task challenge now = record {
  flags = flags_agreed task;
  challenge = challenge;
  info = info_for plan;
  time = now;
  receive = 5840;
}

-- what is said on the member's link, before the bind and after it
abbrev pub fresh_talk : Talk
fresh_talk = record { joiner = None; phase = phase.Fresh }

abbrev pub challenged_talk : ClientPlan → List ℕ → Talk
challenged_talk task challenge = record { joiner = None; phase = phase.Challenged (bound_for task) challenge (flags_answered task) }

-- the member's names fit
pub record HasShortNames (plan : MemberPlan) : Type 0 where
  pub domain : length plan.domain ≤ 64
  pub computer : length plan.computer ≤ 64

-- ---- what comes of it

pub record Meets : Type 0 where
  -- the member answers the bind
  pub bind : (task : ClientPlan) (at : AtLink) (challenge : List ℕ) (left : List (List ℕ)) → CanLogOn task → HasShortNames at.logons.plan → length challenge ≡ 8 →
      served_cut link_server (cut_stream (written (bind_for task.level task.auth))) at fresh_talk (challenge ∷ left)
      ≡ drawless (stay (send_unit at (ack_for at.logons.plan task challenge)) (challenged_talk task challenge)) left
  -- the client hears the CHALLENGE
  pub challenge : (plan : MemberPlan) (work : ClientWork) (challenge : List ℕ) (link : ℕ) → CanLogOn work.task → HasShortNames plan → length challenge ≡ 8 →
      client.hear (written (ack_for plan work.task challenge)) (client.talk_on link None client_phase.Bound) work
      ≡ heard.Challenged work link (offer_for plan work.task challenge work.now)
  -- the client answers the CHALLENGE, with what it draws
  pub answer : (plan : MemberPlan) (work : ClientWork) (challenge one two three : List ℕ) (left : List (List ℕ)) (link : ℕ) → CanLogOn work.task → HasShortNames plan →
      length challenge ≡ 8 →
      served_cut client.client_server (cut_stream (written (ack_for plan work.task challenge))) work (client.talk_on link None client_phase.Bound) (one ∷ two ∷ three ∷ left)
      ≡ Ok (record {
        value = client.answers (offer_for plan work.task challenge work.now) (record { client = one; chosen = Some (two ++ three) }) link work;
        left = left;
      })
