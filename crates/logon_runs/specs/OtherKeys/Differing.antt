-- A call of a client to its member and the reply, whatever session each of both has: a unit that the other can't verify
-- ends the link (C706 12.6.4.9, 12.6.4.10; MS-RPCE 2.2.2.11; which cause and outcome is this project's own choice).
use Rattle.std.specs.Prelude.{ℕ, ◌≡◌, ◌≤◌, ◌<◌, ◌^◌, ◌-◌, ◌⊎◌, true, false, List, [], ◌∷◌, length, suc, Option, Some, None, Ok}
use Rattle.wire_base.specs.Units.{AreUnits}
use Rattle.ntlm_seal.specs.Sessions.{SessionState}
use Rattle.outside.specs.declared.action.Action.TheVariants as action
use Rattle.outside.specs.declared.action.CloseCause.{CloseCause}
use Rattle.outside.specs.declared.action.CloseCause.TheVariants as close
use Rattle.outside.specs.declared.event.Event.TheVariants as event
use Rattle.outside.specs.Machine.{whole_step}
use Rattle.rpc_units.specs.declared.unit.Body.{Body}
use Rattle.rpc_units.specs.declared.unit.Body.TheVariants.{Request}
use Rattle.rpc_units.specs.declared.unit.Trailer.{Trailer}
use Rattle.rpc_units.specs.declared.unit.Unit.{Unit as RpcUnit}
use Rattle.rpc_units.specs.Reading.{unit_of}
use Rattle.logon_client.specs.declared.outcome.ClientOutcome.{ClientOutcome}
use Rattle.logon_client.specs.declared.plan.ClientPlan.{ClientPlan}
use Rattle.logon_client.specs.declared.state.Phase.TheVariants as client_phase
use Rattle.logon_client.specs.declared.state.Question.{Question}
use Rattle.logon_client.specs.declared.state.Question.TheVariants as client_question
use Rattle.logon_client.specs.declared.state.Terms.{Terms}
use Rattle.logon_client.specs.Machine as client
use Rattle.logon_client.specs.Plans.{CanLogOn}
use Rattle.member_server.specs.declared.state.AtLink.{AtLink}
use Rattle.member_server.specs.declared.state.LoggedOn.{LoggedOn}
use Rattle.unit_security.specs.Levels.{is_plain}
use Rattle.member_server.specs.Requests.{talk_in, unit_in}
use Rattle.member_server.specs.Work.{send, shut, stay}
use Rattle.logon_steps.specs.ClientSteps.{client_at, client_ended, on_link}
use Rattle.logon_steps.specs.Meeting.{bound_for}

-- ---- units

-- the unit of a call that has no other fragment
abbrev pub single_unit : ℕ → Body → Option Trailer → RpcUnit
single_unit call body trailer = record { first = true; last = true; call = call; body = body; trailer = trailer }

-- the bytes are one unit that is whole, whatever its call, body and trailer
pub record IsSingle (bytes : List ℕ) : Type 0 where
  pub call : ℕ
  pub body : Body
  pub trailer : Option Trailer
  pub read : unit_of bytes ≡ Ok (single_unit call body trailer)
  pub some : 0 < length bytes
  pub short : length bytes ≤ 5840

-- the bytes are a request of that call and operation, whatever its stub looks like
pub record IsRequest (call opnum : ℕ) (bytes : List ℕ) : Type 0 where
  pub hint : ℕ
  pub stub : List ℕ
  pub trailer : Option Trailer
  pub read : unit_of bytes ≡ Ok (single_unit call (Request hint 0 opnum stub) trailer)
  pub some : 0 < length bytes
  pub short : length bytes ≤ 5840

-- ---- who they come from

-- a session that wasn't refused anything, and that has sent at most `most` units
abbrev pub HasSent : (most : ℕ) → Option SessionState → Type 0
HasSent most None = Unit {0}
HasSent most (Some s) = (s.broken ≡ false) × (s.sending.number ≤ most)

-- a client's terms, under which it has sent at most `sent` units
pub record AreTerms (sent : ℕ) (terms : Terms) : Type 0 where
  pub receive : terms.receive ≡ 5840
  pub session : HasSent sent terms.session

-- who is let in on the link of that client, once at most `sent` units were sent to him; his name is a short one
pub record IsLetIn (task : ClientPlan) (sent : ℕ) (on : LoggedOn) : Type 0 where
  pub bound : on.bound ≡ bound_for task
  pub name : length on.name ≤ 129
  pub units : AreUnits on.name
  pub session : HasSent sent on.session

-- ---- a request comes to the member

-- the member closes the link at these bytes
pub record IsShut (on : LoggedOn) (bytes : List ℕ) : Type 0 where
  pub cause : CloseCause
  pub shuts : (at : AtLink) → unit_in (is_plain on.bound.level) bytes on None at ≡ shut cause at

-- the member answers these bytes, by a response or a fault
pub record IsReplied (task : ClientPlan) (sent : ℕ) (on : LoggedOn) (bytes : List ℕ) : Type 0 where
  pub reply : List ℕ
  pub later : LoggedOn
  pub fits : IsSingle reply
  pub let_in : IsLetIn task (suc sent) later
  pub replies : (at : AtLink) → unit_in (is_plain on.bound.level) bytes on None at ≡ stay (send at reply) (talk_in None later)

-- ---- a reply comes to the client, which waits for the answer of that question

-- the client has an outcome, and closes the link
pub record HasItsOutcome (task : ClientPlan) (terms : Terms) (question : Question) (bytes : List ℕ) : Type 0 where
  pub outcome : ClientOutcome
  pub ends : (link now : ℕ) (left : List (List ℕ)) →
      client.step_of (client_at task (on_link link (client_phase.Asked terms question))) (event.Bytes link bytes) now left
      ≡ whole_step left left (action.Close link close.CallDone ∷ []) (client_ended task outcome)

-- the client reads a name in these bytes, and sends Echo
pub record AsksEcho (task : ClientPlan) (sent : ℕ) (terms : Terms) (question : Question) (bytes : List ℕ) : Type 0 where
  pub name : List ℕ
  pub later : Terms
  pub echo : List ℕ
  pub request : IsRequest client.echo_number client.echo_opnum echo
  pub terms_fit : AreTerms (suc sent) later
  pub asks : (link now : ℕ) (left : List (List ℕ)) →
      client.step_of (client_at task (on_link link (client_phase.Asked terms question))) (event.Bytes link bytes) now left
      ≡ whole_step left left (action.Send link echo ∷ []) (client_at task (on_link link (client_phase.Asked later (client_question.Echo name))))

abbrev pub Hears : ClientPlan → ℕ → Terms → Question → List ℕ → Type 0
Hears task sent terms client_question.Who bytes =
    HasItsOutcome task terms client_question.Who bytes ⊎ AsksEcho task sent terms client_question.Who bytes
Hears task sent terms (client_question.Echo name) bytes = HasItsOutcome task terms (client_question.Echo name) bytes

pub record KeysMayDiffer : Type 0 where
  pub answers : (task : ClientPlan) (sent call opnum : ℕ) (on : LoggedOn) (bytes : List ℕ) → sent < 2 ^ 32 - 1 → call < 2 ^ 32 →
      IsRequest call opnum bytes → IsLetIn task sent on → IsShut on bytes ⊎ IsReplied task sent on bytes
  pub hears : (task : ClientPlan) (sent : ℕ) (terms : Terms) (question : Question) (bytes : List ℕ) → sent < 2 ^ 32 - 1 → CanLogOn task →
      IsSingle bytes → AreTerms sent terms → Hears task sent terms question bytes
