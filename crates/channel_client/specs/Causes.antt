-- The order of causes by which a turn ends without an answer (this project's own choice): the first test that holds
-- tells the cause.
use Rattle.std.specs.Prelude.{ℕ, ◌≡◌, ◌==◌, ◌&&◌, Bool, true, false, not, List, [], ◌∷◌, Option, Some, None, is_some, Result, Ok, Err, bytes_eq}
use Rattle.ntlm_flags.specs.Flags.{has_flag}
use Rattle.channel_keys.specs.Flags.{rc4_flag}
use Rattle.wire_base.specs.declared.authenticator.Authenticator.{Authenticator}
use Rattle.authenticators.specs.SecureChannels.{is_awaited}
use Rattle.outside.specs.declared.action.DropCause.{DropCause}
use Rattle.outside.specs.declared.action.DropCause.TheVariants as drop_cause
use Rattle.rpc_units.specs.declared.unit.Unit.{Unit as RpcUnit}
use Rattle.rpc_units.specs.declared.unit.Body.{Body}
use Rattle.rpc_units.specs.declared.unit.Body.TheVariants.{BindAck, BindNak, Response, Fault}
use Rattle.logon_stubs.specs.Calls.{reply_of}
use Rattle.logon_stubs.specs.Status.{access_denied}
use Rattle.logon_stubs.specs.declared.refused.StubRefused.{StubRefused}
use Rattle.logon_stubs.specs.declared.calls.Reply.{Reply}
use Rattle.logon_stubs.specs.declared.calls.Reply.TheVariants as reply
use Rattle.secret_change.specs.Calls.{set_reply_of}
use Rattle.secret_change.specs.declared.calls.SetReply.{SetReply}
use Rattle.secret_change.specs.declared.refused.SetRefused.{SetRefused}
use Rattle.channel_client.specs.State.{Requester}
use Rattle.channel_client.specs.Machine.{is_accepting, level_asked, offered_flags, opnum_asked, server_credential, take_of}
use Rattle.channel_client.specs.declared.state.Standing.{Standing}
use Rattle.channel_client.specs.declared.state.Standing.TheVariants as standing
use Rattle.channel_client.specs.declared.state.Question.{Question}
use Rattle.channel_client.specs.declared.state.Question.TheVariants as question
use Rattle.channel_client.specs.declared.state.Step.{Step}
use Rattle.channel_client.specs.declared.state.Step.TheVariants as step
use Rattle.channel_client.specs.declared.state.SetStep.TheVariants as set_step
use Rattle.channel_client.specs.declared.state.Pending.{Pending}
use Rattle.channel_client.specs.declared.answers.Taken.{Taken}
use Rattle.channel_client.specs.declared.answers.Taken.TheVariants as taken

-- ---- the tests

-- a bind_nak, or a bind_ack whose first result isn't acceptance, or isn't there
abbrev pub refuses_bind : Body → Bool
refuses_bind (BindNak reason) = true
refuses_bind (BindAck send receive group results) = not (is_accepting results)
refuses_bind _ = false

abbrev pub is_fault : Body → Bool
is_fault (Fault hint context status) = true
is_fault _ = false

abbrev pub status_of_fault : Body → ℕ
status_of_fault (Fault hint context status) = status
status_of_fault _ = 0

-- the reply answers the question
abbrev pub is_reply_to : Question → Reply → Bool
is_reply_to (question.Challenge client) (reply.Challenge r) = true
is_reply_to question.Authenticate (reply.Authenticate r) = true
is_reply_to question.Logon (reply.Logon r) = true
is_reply_to _ _ = false

abbrev pub only_if : Bool → Reply → Option Reply
only_if true r = Some r
only_if false r = None

abbrev pub reply_if_read : Question → Result Reply StubRefused → Option Reply
reply_if_read q (Err why) = None
reply_if_read q (Ok r) = only_if (is_reply_to q r) r

-- the reply to what the turn asked, where the unit is a response whose stub is one
abbrev pub reply_in : Step → Body → Option Reply
reply_in (step.Reply q) (Response hint context stub) = reply_if_read q (reply_of (opnum_asked q) stub)
reply_in _ _ = None

abbrev pub set_reply_if_read : Result SetReply SetRefused → Option SetReply
set_reply_if_read (Err why) = None
set_reply_if_read (Ok r) = Some r

-- the reply to a call that sets a secret, where it comes in the turn that waits for it, and is read
abbrev pub set_reply_in : Step → Body → Option SetReply
set_reply_in (step.Set set_step.Reply) (Response hint context stub) = set_reply_if_read (set_reply_of stub)
set_reply_in _ _ = None

-- the unit is what the turn waits for: an answer to its bind, or a reply to its request
abbrev pub is_due : Step → Body → Bool
is_due (step.Bind c) (BindAck send receive group results) = true
is_due (step.Bind c) _ = false
is_due (step.Reply q) body = is_some (reply_in (step.Reply q) body)
is_due (step.Set (set_step.Bind c)) (BindAck send receive group results) = true
is_due (step.Set (set_step.Bind c)) _ = false
is_due (step.Set set_step.Reply) body = is_some (set_reply_in (step.Set set_step.Reply) body)

-- the status of an opening call or of a change isn't 0, or that of a logon is ACCESS_DENIED
abbrev pub denies : Option Reply → Bool
denies (Some (reply.Challenge r)) = not (r.status == 0)
denies (Some (reply.Authenticate r)) = not (r.status == 0)
denies (Some (reply.Logon r)) = r.status == access_denied
denies _ = false

abbrev pub denies_set : Option SetReply → Bool
denies_set None = false
denies_set (Some r) = not (r.status == 0)

abbrev pub denies_in : Step → Body → Bool
denies_in (step.Bind c) body = false
denies_in (step.Reply q) body = denies (reply_in (step.Reply q) body)
denies_in (step.Set st) body = denies_set (set_reply_in (step.Set st) body)

-- the credential is that of the server
abbrev pub is_of_server : Standing → List ℕ → List ℕ → Bool
is_of_server (standing.Half client server) secret credential = bytes_eq credential (server_credential secret client server)
is_of_server _ secret credential = false

-- an authenticator is returned whose credential is the one that is awaited
abbrev pub is_return : Standing → Option Authenticator → Bool
is_return (standing.Open o) (Some returned) = is_awaited o.awaited returned.credential
is_return _ _ = false

-- the reply has no credential to compare, or the one that is awaited
abbrev pub is_next : Option Reply → Standing → List ℕ → Bool
is_next (Some (reply.Authenticate r)) s secret = is_of_server s secret r.credential
is_next (Some (reply.Logon r)) s secret = is_return s r.returned
is_next _ s secret = true

abbrev pub is_set_next : Option SetReply → Standing → Bool
is_set_next None s = true
is_set_next (Some r) s = is_return s (Some r.returned)

abbrev pub is_next_in : Step → Body → Standing → List ℕ → Bool
is_next_in (step.Bind c) body s secret = true
is_next_in (step.Reply q) body s secret = is_next (reply_in (step.Reply q) body) s secret
is_next_in (step.Set st) body s secret = is_set_next (set_reply_in (step.Set st) body) s

-- flags are granted beyond those offered, or without RC4; or a status of 0 comes without validation of the level asked
abbrev pub is_lacking : Option Reply → Bool
is_lacking (Some (reply.Authenticate r)) = not (has_flag offered_flags r.flags && has_flag r.flags rc4_flag)
is_lacking (Some (reply.Logon r)) = (r.status == 0) && not ((r.level == level_asked) && is_some r.info)
is_lacking _ = false

-- ---- the first that holds

abbrev pub cause_if : Bool → DropCause → Option DropCause → Option DropCause
cause_if true cause later = Some cause
cause_if false cause later = later

abbrev pub first_cause : List (Bool × DropCause) → Option DropCause
first_cause [] = None
first_cause (test ∷ tests) = cause_if test.0 test.1 (first_cause tests)

-- the tests of a unit that has the number that the turn waits for, in their order
abbrev pub tests_of : Requester → Step → Body → List (Bool × DropCause)
tests_of s st body =
    (refuses_bind body, drop_cause.Bind)
    ∷ (is_fault body, drop_cause.Fault (status_of_fault body))
    ∷ (not (is_due st body), drop_cause.BadReply)
    ∷ (denies_in st body, drop_cause.Denied)
    ∷ (not (is_next_in st body s.standing s.caller.secret), drop_cause.NotNext)
    ∷ (is_lacking (reply_in st body), drop_cause.BadReply)
    ∷ []

abbrev pub cause_of : Requester → Step → Body → Option DropCause
cause_of s st body = first_cause (tests_of s st body)

-- ---- laws

-- the cause by which a turn ended
abbrev pub cause_in : Taken → Option DropCause
cause_in (taken.Dropped place cause) = Some cause
cause_in (taken.Skip right) = None
cause_in (taken.Next right frames) = None
cause_in taken.Half = None
cause_in taken.Opened = None
cause_in (taken.Answer place verdict) = None
cause_in taken.Set = None

-- the number that a turn waits for is the unit's
abbrev pub is_numbered : Option Pending → ℕ → Bool
is_numbered None number = false
is_numbered (Some p) number = number == p.number

-- A unit of the number that the turn waits for ends it by the first cause that holds, and by none where none holds; a
-- unit of another number changes nothing.
pub record CausesInOrder : Type 0 where
  pub due : (s : Requester) (p : Pending) (unit : RpcUnit) → s.turn ≡ Some p → (unit.call == p.number) ≡ true →
      cause_in (take_of s unit).taken ≡ cause_of s p.step unit.body
  pub other : (s : Requester) (unit : RpcUnit) → is_numbered s.turn unit.call ≡ false →
      take_of s unit ≡ record { taken = taken.Skip tt; state = s }
