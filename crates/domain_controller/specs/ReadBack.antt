-- That a reply is read as it was made: its frames are heard as one unit (C706 12.6.2), and the stub of a reply to a
-- call that passed, or that opened a channel, is read as that reply (MS-NRPC 3.5.4.5.3, 3.5.4.5.4, 3.5.4.4.6,
-- 3.5.4.4.2).
use Rattle.std.specs.Prelude.{ℕ, ◌≡◌, ◌≤◌, ◌<◌, ◌^◌, ◌%◌, Bool, List, length, Some, Ok}
use Rattle.wire_base.specs.Names.{IsName}
use Rattle.wire_base.specs.Numbers.{AreBytes}
use Rattle.authenticators.specs.Sequences.{return_of}
use Rattle.channel_keys.specs.Credentials.{cred_of}
use Rattle.rpc_units.specs.declared.unit.Unit.{Unit as RpcUnit}
use Rattle.rpc_units.specs.Calls.{CanBeSent, IsHeard, bytes_of_call}
use Rattle.rpc_units.specs.Joining.{cut_of, stub_of}
use Rattle.logon_stubs.specs.declared.calls.Reply.{Reply}
use Rattle.logon_stubs.specs.declared.calls.Reply.TheVariants as reply
use Rattle.logon_stubs.specs.declared.info.NetworkInfo.{NetworkInfo}
use Rattle.logon_stubs.specs.declared.info.Verdict.{Verdict}
use Rattle.logon_stubs.specs.Calls.{opnum_of_reply, reply_of}
use Rattle.logon_stubs.specs.Writing.{written_reply}
use Rattle.logon_stubs.specs.Ranges.{short_reply_limit}
use Rattle.interactive_logon.specs.declared.calls.InteractiveInfo.{InteractiveInfo}
use Rattle.secret_change.specs.declared.calls.SetReply.{SetReply}
use Rattle.secret_change.specs.Calls.{set_reply_of, written_set_reply}
use Rattle.account_table.specs.AccountTable.{AccountTable}
use Rattle.end_links.specs.Sending.{response_of}
use Rattle.controller_calls.specs.Opening.{grant_flags}
use Rattle.controller_calls.specs.Interactive.{admitted, judge_interactive}
use Rattle.controller_calls.specs.Logons.{info_of, judge_info, status_of}
use Rattle.domain_controller.specs.Whole.{InRangeTable}

-- the reply to a call that passed, by the session key of its channel, the credential that is returned, the level that
-- was asked for, and the verdict
abbrev pub passed_reply : List ℕ → List ℕ → ℕ → Verdict → Reply
passed_reply key credential level verdict = reply.Logon (record {
  returned = Some (record { credential = credential; timestamp = 0 });
  level = level;
  info = info_of level key verdict;
  authoritative = 1;
  status = status_of verdict;
})

-- the reply to a logoff that passed, with a status
abbrev pub logged_off_reply : List ℕ → ℕ → Reply
logged_off_reply credential status =
    reply.Logoff (record { returned = Some (record { credential = credential; timestamp = 0 }); status = status })

-- the reply to a change of a secret that passed, with a status
abbrev pub set_reply : List ℕ → ℕ → SetReply
set_reply credential status = record { returned = record { credential = credential; timestamp = 0 }; status = status }

-- the reply that opens a channel, by the credential of its server challenge and the flags that were offered
abbrev pub opened_reply : List ℕ → ℕ → Reply
opened_reply credential offered = reply.Authenticate (record { credential = credential; flags = grant_flags offered; status = 0 })

-- a reply is read as it was written, from at most 28,015 bytes
pub record IsReadBack (answer : Reply) : Type 0 where
  pub read : reply_of (opnum_of_reply answer) (written_reply answer) ≡ Ok answer
  pub few : length (written_reply answer) ≤ short_reply_limit
  pub bytes : AreBytes (written_reply answer)

pub record IsSetReadBack (answer : SetReply) : Type 0 where
  pub read : set_reply_of (written_set_reply answer) ≡ Ok answer
  pub few : length (written_set_reply answer) ≤ short_reply_limit
  pub bytes : AreBytes (written_set_reply answer)

-- the unit as which a reply is heard: its bytes have its call number and its context modulo their widths
abbrev pub heard_reply : ℕ → ℕ → List ℕ → RpcUnit
heard_reply call context stub = response_of (call % 2 ^ 32) (context % 2 ^ 16) stub

pub record RepliesAreReadBack : Type 0 where
  -- a reply that is sent in fragments of at most `limit` bytes is heard as that reply
  pub frames : (call context limit : ℕ) (stub : List ℕ) → 1432 ≤ limit → limit ≤ 5840 → length stub ≤ 65536 →
      IsHeard (bytes_of_call (response_of call context stub) limit) (cut_of (heard_reply call context stub) limit) (heard_reply call context stub)
  pub can : (call context limit : ℕ) (stub : List ℕ) → 1432 ≤ limit → limit ≤ 5840 → length stub ≤ 65536 →
      CanBeSent (heard_reply call context stub) limit
  -- bytes of its frames that are those of one whole unit, of whatever size, are those of that unit alone
  pub alone : (call context limit : ℕ) (stub : List ℕ) (frames : List RpcUnit) (unit : RpcUnit) → length stub ≤ short_reply_limit →
      IsHeard (bytes_of_call (response_of call context stub) limit) frames unit → unit ≡ heard_reply call context stub
  -- a reply that is read as it was written is read from any whole unit that its bytes are
  pub reads : (call context limit : ℕ) (answer : Reply) (frames : List RpcUnit) (unit : RpcUnit) → IsReadBack answer →
      IsHeard (bytes_of_call (response_of call context (written_reply answer)) limit) frames unit →
      reply_of (opnum_of_reply answer) (stub_of unit.body) ≡ Ok answer
  -- the call number of a whole unit has 32 bits
  pub number : (bytes : List ℕ) (frames : List RpcUnit) (unit : RpcUnit) → IsHeard bytes frames unit → unit.call < 2 ^ 32
  -- the reply to a network logon that passed, with the credential that is returned at its channel's seed
  pub passed : (table : AccountTable) (name : List ℕ) (now : ℕ) (info : NetworkInfo) (validation : ℕ) (key seed : List ℕ) (timestamp : ℕ) →
      InRangeTable table → IsName name → now < 2 ^ 64 → validation < 2 ^ 16 →
      IsReadBack (passed_reply key (return_of key seed timestamp) validation (judge_info table name now info validation).verdict)
  -- to an interactive logon that passed, where as many sessions stood as are kept, or fewer
  pub interactive : (table : AccountTable) (name : List ℕ) (now : ℕ) (info : InteractiveInfo) (validation : ℕ) (full : Bool) (key seed : List ℕ) (timestamp : ℕ) →
      InRangeTable table → IsName name → now < 2 ^ 64 → validation < 2 ^ 16 →
      IsReadBack (passed_reply key (return_of key seed timestamp) validation (admitted full (judge_interactive table name now info validation key).verdict))
  -- to a logoff, and to a change of a secret, with whatever status
  pub logged_off : (key seed : List ℕ) (timestamp status : ℕ) → status < 2 ^ 32 → IsReadBack (logged_off_reply (return_of key seed timestamp) status)
  pub set : (key seed : List ℕ) (timestamp status : ℕ) → status < 2 ^ 32 → IsSetReadBack (set_reply (return_of key seed timestamp) status)
  pub opened : (key server : List ℕ) (offered : ℕ) → IsReadBack (opened_reply (cred_of key server) offered)
