-- How long a reply to a Logon call is that has an authenticator (MS-NRPC 3.5.4.5.3): longer than that of an opening
-- (3.5.4.4.2), so that none is read as the other. Lengths are in bytes.
use Rattle.std.specs.Prelude.{ℕ, ◌≡◌, ◌≤◌, List, Some, Ok, length}
use Rattle.wire_base.specs.Numbers.{AreBytes}
use Rattle.wire_base.specs.declared.authenticator.Authenticator.{Authenticator}
use Rattle.logon_stubs.specs.Calls.{reply_of}
use Rattle.logon_stubs.specs.Writing.{written_reply}
use Rattle.logon_stubs.specs.declared.calls.AuthReply.{AuthReply}
use Rattle.logon_stubs.specs.declared.calls.LogonReply.{LogonReply}
use Rattle.logon_stubs.specs.declared.calls.Reply.TheVariants as reply

pub record AnswersAreLong : Type 0 where
  -- a stub read as a logon's reply with an authenticator
  pub answer : (stub : List ℕ) (r : LogonReply) (given : Authenticator) → AreBytes stub → reply_of 2 stub ≡ Ok (reply.Logon r) → r.returned ≡ Some given → 17 ≤ length stub
  -- the reply of an opening
  pub opened : (r : AuthReply) → length r.credential ≡ 8 → length (written_reply (reply.Authenticate r)) ≡ 16
  -- the reply of an opening isn't read as a logon's
  pub apart : (r : AuthReply) (other : LogonReply) (given : Authenticator) → length r.credential ≡ 8 → AreBytes (written_reply (reply.Authenticate r)) →
      reply_of 2 (written_reply (reply.Authenticate r)) ≡ Ok (reply.Logon other) → other.returned ≡ Some given → ⊥
