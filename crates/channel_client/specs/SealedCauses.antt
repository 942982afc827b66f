-- The order of causes by which a turn ends without an answer on a channel that seals (this project's own choice): as in
-- `Causes`, but that secure RPC has to be granted, and last, that the request could be sealed.
use Rattle.std.specs.Prelude.{ℕ, ◌≡◌, ◌==◌, ◌&&◌, Bool, true, false, not, List, [], ◌∷◌, Option, Some, None, is_some, bytes_eq}
use Rattle.ntlm_flags.specs.Flags.{has_flag}
use Rattle.outside.specs.declared.action.DropCause.{DropCause}
use Rattle.outside.specs.declared.action.DropCause.TheVariants as drop_cause
use Rattle.rpc_units.specs.declared.unit.Unit.{Unit as RpcUnit}
use Rattle.rpc_units.specs.declared.unit.Body.{Body}
use Rattle.rpc_units.specs.declared.unit.Body.TheVariants.{BindAck}
use Rattle.logon_stubs.specs.Calls.{opnum_of_call}
use Rattle.logon_stubs.specs.Writing.{written_call}
use Rattle.logon_stubs.specs.declared.calls.Reply.{Reply}
use Rattle.logon_stubs.specs.declared.calls.Reply.TheVariants as reply
use Rattle.secret_change.specs.Calls.{set_opnum, written_set_call}
use Rattle.end_links.specs.Sending.{request_of}
use Rattle.channel_sealing.specs.Frames.{seal_all}
use Rattle.channel_client.specs.Causes.{cause_in, denies_in, first_cause, is_due, is_fault, is_lacking, is_next, is_numbered, is_set_next, refuses_bind, reply_in, set_reply_in, status_of_fault}
use Rattle.channel_client.specs.Sealed.{channel_take, room_frames_of, secure_server_credential}
use Rattle.channel_client.specs.Sealing.{needed_secure_flags, secure_flags, wire_of}
use Rattle.channel_client.specs.State.{Requester}
use Rattle.channel_client.specs.declared.answers.Taken.TheVariants as taken
use Rattle.channel_client.specs.declared.state.Pending.{Pending}
use Rattle.channel_client.specs.declared.state.Sealing.{Sealing}
use Rattle.channel_client.specs.declared.state.SetStep.TheVariants as set_step
use Rattle.channel_client.specs.declared.state.Standing.{Standing}
use Rattle.channel_client.specs.declared.state.Standing.TheVariants as standing
use Rattle.channel_client.specs.declared.state.Step.{Step}
use Rattle.channel_client.specs.declared.state.Step.TheVariants as step

-- the credential is that of the server
abbrev pub is_of_secure_server : Standing → (secret credential : List ℕ) → Bool
is_of_secure_server standing.Nothing secret credential = false
is_of_secure_server (standing.Half client server) secret credential = bytes_eq credential (secure_server_credential secret client server)
is_of_secure_server (standing.Open o) secret credential = false

-- the reply has no credential to compare, or the one that is awaited
abbrev pub is_next_sealed : Option Reply → Standing → (secret : List ℕ) → Bool
is_next_sealed None s secret = is_next None s secret
is_next_sealed (Some (reply.Challenge r)) s secret = is_next (Some (reply.Challenge r)) s secret
is_next_sealed (Some (reply.Authenticate r)) s secret = is_of_secure_server s secret r.credential
is_next_sealed (Some (reply.Logon r)) s secret = is_next (Some (reply.Logon r)) s secret
is_next_sealed (Some (reply.Logoff r)) s secret = is_next (Some (reply.Logoff r)) s secret

abbrev pub is_next_sealed_in : Step → Body → Standing → (secret : List ℕ) → Bool
is_next_sealed_in (step.Bind c) body s secret = true
is_next_sealed_in (step.Reply q) body s secret = is_next_sealed (reply_in (step.Reply q) body) s secret
is_next_sealed_in (step.Set st) body s secret = is_set_next (set_reply_in (step.Set st) body) s

-- flags are granted beyond those offered, or without those needed; or a status of 0 comes without validation of the
-- level asked
abbrev pub is_lacking_sealed : Option Reply → Bool
is_lacking_sealed None = is_lacking None
is_lacking_sealed (Some (reply.Challenge r)) = is_lacking (Some (reply.Challenge r))
is_lacking_sealed (Some (reply.Authenticate r)) = not (has_flag secure_flags r.flags && has_flag r.flags needed_secure_flags)
is_lacking_sealed (Some (reply.Logon r)) = is_lacking (Some (reply.Logon r))
is_lacking_sealed (Some (reply.Logoff r)) = is_lacking (Some (reply.Logoff r))

-- the frames of the request that the unit lets out, if any, before they are sealed
abbrev pub room_request_in : Step → Body → (next : ℕ) → Option (List (List ℕ))
room_request_in (step.Bind c) (BindAck send receive group results) next =
    Some (room_frames_of (request_of next 0 (opnum_of_call c) (written_call c)) receive)
room_request_in (step.Set (set_step.Bind c)) (BindAck send receive group results) next =
    Some (room_frames_of (request_of next 0 set_opnum (written_set_call c)) receive)
room_request_in _ _ next = None

-- the frames of a request can be sealed, where they are to be
abbrev pub can_seal : Option (List (List ℕ)) → Option Sealing → Bool
can_seal None wire = true
can_seal (Some frames) None = true
can_seal (Some frames) (Some g) = is_some (seal_all g.seal g.confounder frames)

-- the tests of a unit that has the number that the turn waits for, in their order
abbrev pub sealed_tests_of : Sealing → Requester → Step → Body → List (Bool × DropCause)
sealed_tests_of g s st body =
    (refuses_bind body, drop_cause.Bind)
    ∷ (is_fault body, drop_cause.Fault (status_of_fault body))
    ∷ (not (is_due st body), drop_cause.BadReply)
    ∷ (denies_in st body, drop_cause.Denied)
    ∷ (not (is_next_sealed_in st body s.standing s.caller.secret), drop_cause.NotNext)
    ∷ (is_lacking_sealed (reply_in st body), drop_cause.BadReply)
    ∷ (not (can_seal (room_request_in st body s.next_call) (wire_of (Some g) s.standing)), drop_cause.BadSeal)
    ∷ []

abbrev pub sealed_cause_of : Sealing → Requester → Step → Body → Option DropCause
sealed_cause_of g s st body = first_cause (sealed_tests_of g s st body)

-- A unit of the number that the turn waits for ends it by the first cause that holds, and by none where none holds; a
-- unit of another number changes nothing.
pub record SealedCausesInOrder : Type 0 where
  pub due : (g : Sealing) (s : Requester) (p : Pending) (unit : RpcUnit) → s.sealing ≡ Some g → s.turn ≡ Some p → (unit.call == p.number) ≡ true →
      cause_in (channel_take s unit).taken ≡ sealed_cause_of g s p.step unit.body
  pub other : (s : Requester) (unit : RpcUnit) → is_numbered s.turn unit.call ≡ false →
      channel_take s unit ≡ record { taken = taken.Skip tt; state = s }
