-- What a unit comes to, once it is read.
use Rattle.std.proofs.Common.{◌≡◌, ◌≤◌, ◌==◌, inl, inr, ℕ, Bool, true, false, List, length, Option, Some, None, Ok, refl, ap, ◌∙◌, arith}
use Rattle.std.proofs.lemmas.Bool.Decides.{eqb_tells}
use Rattle.std.proofs.lemmas.List.FromFn.{map-range_with_len_more, length-map-range_with_len}
use Rattle.wire_base.specs.Numbers.{AreBytes}
use Rattle.ntlm_seal.specs.Sessions.{SessionState}
use Rattle.rpc_units.specs.declared.unit.Unit.{Unit as RpcUnit}
use Rattle.rpc_units.specs.declared.unit.Body.{Body}
use Rattle.rpc_units.specs.declared.unit.Body.TheVariants.{Bind, BindAck, BindNak, Auth3, Request, Response, Fault}
use Rattle.rpc_units.specs.Reading.{unit_of}
use Rattle.memo_stubs.specs.Memo.{FitsEcho, echo_request_limit, written_echo_request}
use Rattle.memo_stubs.proofs.MemoLaws.{request_stub}
use Rattle.logon_client.specs.declared.outcome.ClientOutcome.TheVariants.{BadPeer}
use Rattle.logon_client.specs.declared.outcome.PeerFault.TheVariants as peer_fault
use Rattle.logon_client.specs.declared.state.Phase.TheVariants.{Asked}
use Rattle.logon_client.specs.declared.state.Question.{Question}
use Rattle.logon_client.specs.declared.state.Talk.{Talk}
use Rattle.logon_client.specs.declared.state.Terms.{Terms}
use Rattle.logon_client.specs.declared.state.Work.{Work}
use Rattle.logon_client.specs.Machine.{awaited, fails, outcome_of, is_response, talk_on, hear, hear_unit, hear_call, hear_body, hear_response, hear_secured, hear_fragment, hear_opened, hear_unit_opened}
use Rattle.unit_security.specs.Levels.{is_sealed}
use Rattle.unit_security.specs.declared.securing.Secured.{Secured}
use Rattle.unit_security.specs.Securing.{secured_if, open_unit}
use Rattle.logon_client.specs.Securing.{has_level}

-- ---- bytes that are echoed

pub ruleset echoes = (map-range_with_len_more, length-map-range_with_len)

-- the stub of Echo is short
pub echo_short : (bytes : List ℕ) → FitsEcho bytes → AreBytes bytes → length (written_echo_request bytes) ≤ echo_request_limit
echo_short bytes fits are = omega (arith, (request_stub bytes fits are).short, fits)

-- ---- a unit that is read

other_number : (one other : ℕ) → (one ≡ other → ⊥) → (one == other) ≡ false
other_number one other apart = elim (eqb_tells one other) [ inl same ↦ absurd (apart same.1) | inr not ↦ not.0 ]

same_number : (one other : ℕ) → one ≡ other → (one == other) ≡ true
same_number one other is = elim (eqb_tells one other) [ inl same ↦ same.0 | inr not ↦ absurd (not.1 is) ]

-- a unit of another number
pub unit_out : (bytes : List ℕ) (talk : Talk) (work : Work) (unit : RpcUnit) → unit_of bytes ≡ Ok unit → (unit.call ≡ awaited talk.phase → ⊥) →
    hear bytes talk work ≡ fails (BadPeer peer_fault.OutOfPlace) talk.link work
unit_out bytes talk work unit read other =
    ap (λ u. hear_unit u bytes talk work) read ∙ ap (λ b. hear_call b unit bytes talk work) (other_number unit.call (awaited talk.phase) other)

-- a unit of the number that is waited for
pub unit_in : (bytes : List ℕ) (talk : Talk) (work : Work) (unit : RpcUnit) → unit_of bytes ≡ Ok unit → unit.call ≡ awaited talk.phase →
    hear bytes talk work ≡ hear_body unit.body talk.phase unit bytes talk.joiner talk.link work
unit_in bytes talk work unit read same =
    ap (λ u. hear_unit u bytes talk work) read ∙ ap (λ b. hear_call b unit bytes talk work) (same_number unit.call (awaited talk.phase) same)

-- ---- a unit while the response to a call is waited for

body_out : (body : Body) (terms : Terms) (question : Question) (unit : RpcUnit) (bytes : List ℕ) (joiner : Option RpcUnit) (link : ℕ) (work : Work) → is_response body ≡ false →
    hear_body body (Asked terms question) unit bytes joiner link work ≡ fails (outcome_of body) link work
body_out (Bind send receive group contexts) terms question unit bytes joiner link work other = refl
body_out (BindAck send receive group results) terms question unit bytes joiner link work other = refl
body_out (BindNak reason) terms question unit bytes joiner link work other = refl
body_out Auth3 terms question unit bytes joiner link work other = refl
body_out (Request hint context opnum stub) terms question unit bytes joiner link work other = refl
body_out (Response hint context stub) terms question unit bytes joiner link work other = absurd cc
body_out (Fault hint context status) terms question unit bytes joiner link work other = refl

body_in : (body : Body) (terms : Terms) (question : Question) (unit : RpcUnit) (bytes : List ℕ) (joiner : Option RpcUnit) (link : ℕ) (work : Work) → is_response body ≡ true →
    hear_body body (Asked terms question) unit bytes joiner link work ≡ hear_response terms.session unit bytes joiner terms question link work
body_in (Bind send receive group contexts) terms question unit bytes joiner link work is = absurd cc
body_in (BindAck send receive group results) terms question unit bytes joiner link work is = absurd cc
body_in (BindNak reason) terms question unit bytes joiner link work is = absurd cc
body_in Auth3 terms question unit bytes joiner link work is = absurd cc
body_in (Request hint context opnum stub) terms question unit bytes joiner link work is = absurd cc
body_in (Response hint context stub) terms question unit bytes joiner link work is = refl
body_in (Fault hint context status) terms question unit bytes joiner link work is = absurd cc

-- no response
pub asked_out : (bytes : List ℕ) (joiner : Option RpcUnit) (terms : Terms) (question : Question) (link : ℕ) (work : Work) (unit : RpcUnit) → unit_of bytes ≡ Ok unit →
    unit.call ≡ awaited (Asked terms question) → is_response unit.body ≡ false →
    hear bytes (talk_on link joiner (Asked terms question)) work ≡ fails (outcome_of unit.body) link work
asked_out bytes joiner terms question link work unit read same other =
    unit_in bytes (talk_on link joiner (Asked terms question)) work unit read same
    ∙ body_out unit.body terms question unit bytes joiner link work other

-- a response
pub asked_in : (bytes : List ℕ) (joiner : Option RpcUnit) (terms : Terms) (question : Question) (link : ℕ) (work : Work) (unit : RpcUnit) → unit_of bytes ≡ Ok unit →
    unit.call ≡ awaited (Asked terms question) → is_response unit.body ≡ true →
    hear bytes (talk_on link joiner (Asked terms question)) work ≡ hear_response terms.session unit bytes joiner terms question link work
asked_in bytes joiner terms question link work unit read same is =
    unit_in bytes (talk_on link joiner (Asked terms question)) work unit read same
    ∙ body_in unit.body terms question unit bytes joiner link work is

-- a response without a session
pub response_plain : (terms : Terms) (question : Question) (unit : RpcUnit) (bytes : List ℕ) (joiner : Option RpcUnit) (link : ℕ) (work : Work) → terms.session ≡ None →
    hear_response terms.session unit bytes joiner terms question link work ≡ hear_fragment unit joiner (record { key = terms.key; receive = terms.receive; session = None }) question link work
response_plain terms question unit bytes joiner link work none =
    ap (λ s. hear_response s unit bytes joiner terms question link work) none
    ∙ ap (λ s. hear_fragment unit joiner (record { key = terms.key; receive = terms.receive; session = s }) question link work) none

-- a response in a session, by its trailer
response_by : (terms : Terms) (question : Question) (unit : RpcUnit) (bytes : List ℕ) (joiner : Option RpcUnit) (link : ℕ) (work : Work) (session : SessionState) (level : Bool) → terms.session ≡ Some session →
    has_level work.task.level unit.trailer ≡ level →
    hear_response terms.session unit bytes joiner terms question link work ≡ hear_secured level bytes session joiner terms question link work
response_by terms question unit bytes joiner link work session level some is =
    ap (λ s. hear_response s unit bytes joiner terms question link work) some
    ∙ ap (λ l. hear_secured l bytes session joiner terms question link work) is

pub response_unlevelled : (terms : Terms) (question : Question) (unit : RpcUnit) (bytes : List ℕ) (joiner : Option RpcUnit) (link : ℕ) (work : Work) (session : SessionState) → terms.session ≡ Some session →
    has_level work.task.level unit.trailer ≡ false →
    hear_response terms.session unit bytes joiner terms question link work ≡ fails (BadPeer peer_fault.BadSeal) link work
response_unlevelled terms question unit bytes joiner link work session some is = response_by terms question unit bytes joiner link work session false some is

opened_same : (secured : Option Secured) (joiner : Option RpcUnit) (terms : Terms) (question : Question) (link : ℕ) (work : Work) →
    hear_opened secured joiner terms question link work
    ≡ hear_opened secured joiner (record { key = terms.key; receive = terms.receive; session = None }) question link work
opened_same None joiner terms question link work = refl
opened_same (Some opened) joiner terms question link work = refl

pub response_secured : (terms : Terms) (question : Question) (unit : RpcUnit) (bytes : List ℕ) (joiner : Option RpcUnit) (link : ℕ) (work : Work) (session : SessionState) → terms.session ≡ Some session →
    has_level work.task.level unit.trailer ≡ true →
    hear_response terms.session unit bytes joiner terms question link work
    ≡ hear_secured true bytes session joiner (record { key = terms.key; receive = terms.receive; session = None }) question link work
response_secured terms question unit bytes joiner link work session some is =
    response_by terms question unit bytes joiner link work session true some is
    ∙ opened_same (open_unit (is_sealed work.task.level) session bytes) joiner terms question link work

-- a unit that was opened
pub opened_in : (secured : Option Secured) (taken : Bool) (bytes : List ℕ) (session : SessionState) (joiner : Option RpcUnit) (terms : Terms) (question : Question) (link : ℕ) (work : Work) →
    secured ≡ secured_if taken bytes session → taken ≡ true →
    hear_opened secured joiner terms question link work ≡ hear_unit_opened (unit_of bytes) joiner (record terms { session = Some session }) question link work
opened_in secured taken bytes session joiner terms question link work is was =
    ap (λ s. hear_opened s joiner terms question link work) (is ∙ ap (λ t. secured_if t bytes session) was)
