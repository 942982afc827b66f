-- What is heard while the response to a call is waited for.
use Rattle.std.proofs.Common.{ℕ, ◌==◌, Bool, true, false, List, Option, Some, None, Result, Ok, Err, bytes_eq}
use Rattle.ntlm_seal.specs.Sessions.{SessionState}
use Rattle.rpc_units.specs.declared.refused.JoinRefused.{JoinRefused}
use Rattle.rpc_units.specs.declared.refused.UnitRefused.{UnitRefused}
use Rattle.rpc_units.specs.declared.unit.Body.{Body}
use Rattle.rpc_units.specs.declared.unit.Body.TheVariants.{Bind, BindAck, BindNak, Auth3, Request, Response, Fault}
use Rattle.rpc_units.specs.declared.unit.Unit.{Unit as RpcUnit}
use Rattle.rpc_units.specs.Joining.{answer_of, open_after, stub_of}
use Rattle.rpc_units.specs.Reading.{unit_of}
use Rattle.memo_stubs.specs.declared.refused.MemoRefused.{MemoRefused}
use Rattle.memo_stubs.specs.Memo.{who_of, echo_reply_of}
use Rattle.logon_client.specs.declared.hearing.Heard.{Heard}
use Rattle.logon_client.specs.declared.hearing.Heard.TheVariants.{Done}
use Rattle.logon_client.specs.declared.outcome.ClientOutcome.{ClientOutcome}
use Rattle.logon_client.specs.declared.state.Phase.TheVariants.{Asked}
use Rattle.logon_client.specs.declared.state.Question.{Question}
use Rattle.logon_client.specs.declared.state.Question.TheVariants.{Who, Echo}
use Rattle.logon_client.specs.declared.state.Terms.{Terms}
use Rattle.logon_client.specs.declared.state.Work.{Work}
use Rattle.logon_client.specs.Machine.{done, fails, asks_echo, echo_bytes, outcome_of, talk_on, hear_name_by, hear_name, hear_echo_by, hear_echo, hear_reply, hear_joined, hear_fragment, hear_body_opened, hear_unit_opened, hear_opened, hear_secured, hear_response, hear_body}
use Rattle.unit_security.specs.Levels.{is_sealed}
use Rattle.unit_security.specs.declared.securing.Secured.{Secured}
use Rattle.unit_security.specs.Securing.{open_unit}
use Rattle.logon_client.specs.Securing.{has_level}

-- What holds of an outcome on a link, of Echo that is sent there, and of a response of which more is to come.
pub record HoldsOf (P : Heard → Type 0) (link : ℕ) (work : Work) : Type 0 where
  pub ends : (outcome : ClientOutcome) → P (fails outcome link work)
  pub echoes : (name : List ℕ) (terms : Terms) → P (done (asks_echo name terms link work))
  pub goes_on : (joiner : Option RpcUnit) (terms : Terms) (question : Question) → P (Done work (Some (talk_on link joiner (Asked terms question))))

name_by_holds : (P : Heard → Type 0) (none : Bool) (name : List ℕ) (terms : Terms) (link : ℕ) (work : Work) → HoldsOf P link work → P (hear_name_by none name terms link work)
name_by_holds P true name terms link work holds = holds.ends _
name_by_holds P false name terms link work holds = holds.echoes name terms

name_holds : (P : Heard → Type 0) (name : Result (List ℕ) MemoRefused) (terms : Terms) (link : ℕ) (work : Work) → HoldsOf P link work → P (hear_name name terms link work)
name_holds P (Err why) terms link work holds = holds.ends _
name_holds P (Ok name) terms link work holds = name_by_holds P (work.task.echo == 0) name terms link work holds

echo_by_holds : (P : Heard → Type 0) (same : Bool) (name : List ℕ) (terms : Terms) (link : ℕ) (work : Work) → HoldsOf P link work → P (hear_echo_by same name terms link work)
echo_by_holds P true name terms link work holds = holds.ends _
echo_by_holds P false name terms link work holds = holds.ends _

echo_holds : (P : Heard → Type 0) (bytes : Result (List ℕ) MemoRefused) (name : List ℕ) (terms : Terms) (link : ℕ) (work : Work) → HoldsOf P link work → P (hear_echo bytes name terms link work)
echo_holds P (Err why) name terms link work holds = holds.ends _
echo_holds P (Ok bytes) name terms link work holds = echo_by_holds P (bytes_eq bytes (echo_bytes work.task.echo)) name terms link work holds

reply_holds : (P : Heard → Type 0) (question : Question) (stub : List ℕ) (terms : Terms) (link : ℕ) (work : Work) → HoldsOf P link work → P (hear_reply question stub terms link work)
reply_holds P Who stub terms link work holds = name_holds P (who_of stub) terms link work holds
reply_holds P (Echo name) stub terms link work holds = echo_holds P (echo_reply_of stub) name terms link work holds

joined_holds : (P : Heard → Type 0) (joined : Result (Option RpcUnit) JoinRefused) (joiner : Option RpcUnit) (terms : Terms) (question : Question) (link : ℕ) (work : Work) → HoldsOf P link work →
    P (hear_joined joined joiner terms question link work)
joined_holds P (Err why) joiner terms question link work holds = holds.ends _
joined_holds P (Ok None) joiner terms question link work holds = holds.goes_on joiner terms question
joined_holds P (Ok (Some whole)) joiner terms question link work holds = reply_holds P question (stub_of whole.body) terms link work holds

fragment_holds : (P : Heard → Type 0) (unit : RpcUnit) (joiner : Option RpcUnit) (terms : Terms) (question : Question) (link : ℕ) (work : Work) → HoldsOf P link work →
    P (hear_fragment unit joiner terms question link work)
fragment_holds P unit joiner terms question link work holds = joined_holds P (answer_of joiner unit) (open_after joiner unit) terms question link work holds

body_opened_holds : (P : Heard → Type 0) (body : Body) (unit : RpcUnit) (joiner : Option RpcUnit) (terms : Terms) (question : Question) (link : ℕ) (work : Work) → HoldsOf P link work →
    P (hear_body_opened body unit joiner terms question link work)
body_opened_holds P (Bind send receive group contexts) unit joiner terms question link work holds = holds.ends _
body_opened_holds P (BindAck send receive group results) unit joiner terms question link work holds = holds.ends _
body_opened_holds P (BindNak reason) unit joiner terms question link work holds = holds.ends _
body_opened_holds P Auth3 unit joiner terms question link work holds = holds.ends _
body_opened_holds P (Request hint context opnum stub) unit joiner terms question link work holds = holds.ends _
body_opened_holds P (Response hint context stub) unit joiner terms question link work holds = fragment_holds P unit joiner terms question link work holds
body_opened_holds P (Fault hint context status) unit joiner terms question link work holds = holds.ends _

unit_opened_holds : (P : Heard → Type 0) (unit : Result RpcUnit UnitRefused) (joiner : Option RpcUnit) (terms : Terms) (question : Question) (link : ℕ) (work : Work) → HoldsOf P link work →
    P (hear_unit_opened unit joiner terms question link work)
unit_opened_holds P (Err why) joiner terms question link work holds = holds.ends _
unit_opened_holds P (Ok unit) joiner terms question link work holds = body_opened_holds P unit.body unit joiner terms question link work holds

opened_holds : (P : Heard → Type 0) (opened : Option Secured) (joiner : Option RpcUnit) (terms : Terms) (question : Question) (link : ℕ) (work : Work) → HoldsOf P link work →
    P (hear_opened opened joiner terms question link work)
opened_holds P None joiner terms question link work holds = holds.ends _
opened_holds P (Some opened) joiner terms question link work holds =
    unit_opened_holds P (unit_of opened.bytes) joiner (record terms { session = Some opened.session }) question link work holds

secured_holds : (P : Heard → Type 0) (level : Bool) (bytes : List ℕ) (session : SessionState) (joiner : Option RpcUnit) (terms : Terms) (question : Question) (link : ℕ) (work : Work) → HoldsOf P link work →
    P (hear_secured level bytes session joiner terms question link work)
secured_holds P false bytes session joiner terms question link work holds = holds.ends _
secured_holds P true bytes session joiner terms question link work holds =
    opened_holds P (open_unit (is_sealed work.task.level) session bytes) joiner terms question link work holds

-- a response
pub response_holds : (P : Heard → Type 0) (session : Option SessionState) (unit : RpcUnit) (bytes : List ℕ) (joiner : Option RpcUnit) (terms : Terms) (question : Question) (link : ℕ) (work : Work) → HoldsOf P link work →
    P (hear_response session unit bytes joiner terms question link work)
response_holds P None unit bytes joiner terms question link work holds = fragment_holds P unit joiner terms question link work holds
response_holds P (Some session) unit bytes joiner terms question link work holds =
    secured_holds P (has_level work.task.level unit.trailer) bytes session joiner terms question link work holds

-- a unit of the number that is waited for
pub body_holds : (P : Heard → Type 0) (body : Body) (terms : Terms) (question : Question) (unit : RpcUnit) (bytes : List ℕ) (joiner : Option RpcUnit) (link : ℕ) (work : Work) → HoldsOf P link work →
    P (hear_body body (Asked terms question) unit bytes joiner link work)
body_holds P (Bind send receive group contexts) terms question unit bytes joiner link work holds = holds.ends _
body_holds P (BindAck send receive group results) terms question unit bytes joiner link work holds = holds.ends _
body_holds P (BindNak reason) terms question unit bytes joiner link work holds = holds.ends _
body_holds P Auth3 terms question unit bytes joiner link work holds = holds.ends _
body_holds P (Request hint context opnum stub) terms question unit bytes joiner link work holds = holds.ends _
body_holds P (Response hint context stub) terms question unit bytes joiner link work holds = response_holds P terms.session unit bytes joiner terms question link work holds
body_holds P (Fault hint context status) terms question unit bytes joiner link work holds = holds.ends (outcome_of (Fault hint context status))
