-- A call of a client to its member under a logon, and the reply, each in one unit, plain, signed or
-- sealed (C706 12.6.4.9, 12.6.4.10; MS-RPCE 2.2.2.11, 3.3.1.5.2).
use Rattle.std.specs.Prelude.{ℕ, ◌≡◌, ◌≤◌, ◌<◌, ◌+◌, ◌-◌, ◌^◌, true, false, List, length, Option, Some, None, Ok}
use Rattle.ntlm_seal.specs.Sessions.{SessionState}
use Rattle.ntlm_seal.specs.Turns.{Paired}
use Rattle.rpc_units.specs.declared.unit.Body.TheVariants.{Request}
use Rattle.rpc_units.specs.declared.unit.Unit.{Unit as RpcUnit}
use Rattle.rpc_units.specs.Joining.{stub_of}
use Rattle.rpc_units.specs.Reading.{unit_of}
use Rattle.end_links.specs.Sending.{request_of}
use Rattle.logon_client.specs.declared.state.Phase.TheVariants as client_phase
use Rattle.logon_client.specs.declared.state.Question.{Question}
use Rattle.logon_client.specs.declared.state.Terms.{Terms}
use Rattle.logon_client.specs.declared.state.Work.{Work as ClientWork}
use Rattle.logon_client.specs.Machine as client
use Rattle.logon_client.specs.Securing.{send_call}
use Rattle.member_server.specs.declared.state.AtLink.{AtLink}
use Rattle.member_server.specs.declared.state.LoggedOn.{LoggedOn}
use Rattle.unit_security.specs.Levels.{is_plain}
use Rattle.member_server.specs.Requests.{answer_call, send_reply, talk_in, unit_in}
use Rattle.member_server.specs.Work.{send, stay}

-- the sessions of both ends: at the level without signatures the client has none, and the member's isn't used; else
-- both are in step, and each has sent fewer units than `most`
abbrev pub AreSessions : (most level : ℕ) → Option SessionState → Option SessionState → Type 0
AreSessions most level None other = is_plain level ≡ true
AreSessions most level (Some one) None = ⊥
AreSessions most level (Some one) (Some other) =
    (is_plain level ≡ false) × Paired one other × (one.sending.number < most) × (other.sending.number < most)

-- who is logged on, with that session
abbrev pub logged_on : LoggedOn → Option SessionState → LoggedOn
logged_on on session = record on { session = session }

abbrev pub with_session : Terms → Option SessionState → Terms
with_session terms session = record terms { session = session }

-- a request goes out at the client, and is heard once at the member
pub record RequestGoes (most level number opnum : ℕ) (stub : List ℕ) (one other : Option SessionState) : Type 0 where
  pub sent : List ℕ
  pub later : Option SessionState
  pub next : Option SessionState
  pub sessions : AreSessions (most + 1) level later next
  pub goes : send_call one level (request_of number 0 opnum stub) 5840 ≡ Some (record { bytes = sent; session = later })
  pub some : 0 < length sent
  pub short : length sent ≤ 5840
  -- the unit is a request, whatever its stub looks like
  pub unit : RpcUnit
  pub read : unit_of sent ≡ Ok unit
  pub call : unit.call ≡ number
  pub body : Request (length stub) 0 opnum (stub_of unit.body) ≡ unit.body
  pub heard : (on : LoggedOn) (at : AtLink) → on.bound.level ≡ level → on.session ≡ other →
      unit_in (is_plain level) sent on None at ≡ answer_call (request_of number 0 opnum stub).body number (logged_on on next) None at

-- a reply goes out at the member, and is heard once at the client
pub record ReplyGoes (most level number : ℕ) (stub : List ℕ) (other one : Option SessionState) : Type 0 where
  pub sent : List ℕ
  pub later : Option SessionState
  pub next : Option SessionState
  pub sessions : AreSessions (most + 1) level next later
  pub goes : (on : LoggedOn) (at : AtLink) → on.bound.level ≡ level → on.bound.context ≡ 1 → on.bound.binding.limit ≡ 5840 → on.session ≡ other →
      send_reply (is_plain level) number 0 stub on None at ≡ stay (send at sent) (talk_in None (logged_on on later))
  pub some : 0 < length sent
  pub short : length sent ≤ 5840
  pub unit : RpcUnit
  pub read : unit_of sent ≡ Ok unit
  pub heard : (terms : Terms) (question : Question) (link : ℕ) (work : ClientWork) → work.task.level ≡ level → terms.session ≡ one →
      client.awaited (client_phase.Asked terms question) ≡ number →
      client.hear sent (client.talk_on link None (client_phase.Asked terms question)) work
      ≡ client.hear_reply question stub (with_session terms next) link work

-- The most stub bytes of a call that goes in one unit, also where it is signed: the 5,840 of a unit, less 24 of its
-- header, 8 before the signature, and 16 of the signature.
abbrev pub one_unit_limit : ℕ
one_unit_limit = 5792

-- Requests and replies of the memo interface go so, whatever the operation, where their stubs fit into one unit.
pub record MemoCallsGo : Type 0 where
  pub request : (most level number opnum : ℕ) (stub : List ℕ) (one other : Option SessionState) → most < 2 ^ 32 - 1 → number < 2 ^ 32 → opnum < 2 ^ 16 →
      length stub ≤ one_unit_limit → AreSessions most level one other → RequestGoes most level number opnum stub one other
  pub reply : (most level number : ℕ) (stub : List ℕ) (one other : Option SessionState) → most < 2 ^ 32 - 1 → number < 2 ^ 32 →
      length stub ≤ one_unit_limit → AreSessions most level one other → ReplyGoes most level number stub other one
