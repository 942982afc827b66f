-- A Logon call whose stub lost bytes in its middle isn't read, since all of its lengths stand in its front (MS-NRPC
-- 3.5.4.5.3, 2.2.1.4.5; C706 14.3.12.3). Lengths are in bytes.
use Rattle.std.specs.Prelude.{ℕ, ◌≡◌, ◌+◌, ◌≤◌, ◌<◌, ◌++◌, List, length, take, Option, Err}
use Rattle.wire_base.specs.Numbers.{AreBytes}
use Rattle.wire_base.specs.declared.authenticator.Authenticator.{Authenticator}
use Rattle.ndr_codec.specs.declared.parts.Head.{Head}
use Rattle.ndr_codec.specs.Layout.{short, long, raw}
use Rattle.ndr_codec.specs.Parts.{unique, unique_text, some_pointer, halves, head, IfThere, size_if_there}
use Rattle.ndr_codec.specs.Stub.{Begins, HasLayout}
use Rattle.rpc_units.specs.Joining.{stub_size}
use Rattle.logon_stubs.specs.Calls.{is_request_arm, logon_call, call_of}
use Rattle.logon_stubs.specs.Layout.{Layout, item, part, done, only, ◌>>=◌}
use Rattle.logon_stubs.specs.Ranges.{bytes_of_text, InRangeLogonCall}
use Rattle.logon_stubs.specs.Structures.{authenticator}
use Rattle.logon_stubs.specs.Writing.{CanWriteLogonCall, written_call}
use Rattle.logon_stubs.specs.declared.calls.LogonCall.{LogonCall}
use Rattle.logon_stubs.specs.declared.calls.Call.TheVariants as call
use Rattle.logon_stubs.specs.declared.refused.StubRefused.TheVariants.{BadStub, BadArm}

-- what stands in front of the texts and responses of a Logon call: its parameters up to the network information, and
-- the structure of that, with the lengths of the five targets that follow it
pub record LogonHeads : Type 0 where
  pub server : Option (List ℕ)
  pub computer : Option (List ℕ)
  pub authenticator : Option Authenticator
  pub returned : Option Authenticator
  pub domain : Head
  pub control : ℕ
  pub logon_id : ℕ
  pub user : Head
  pub workstation : Head
  pub challenge : List ℕ
  pub nt : Head
  pub lm : Head

unfoldable pub logon_heads : Layout LogonHeads
logon_heads = do
  server ← part unique_text
  computer ← part unique_text
  presented ← unique authenticator
  returned ← unique authenticator
  level ← item short
  tag ← item short
  only (is_request_arm level tag) (BadArm tag) (do
    there ← part some_pointer
    domain ← part (head 2)
    control ← item long
    logon_id ← part halves
    user ← part (head 2)
    workstation ← part (head 2)
    challenge ← item (raw 8)
    nt ← part (head 1)
    lm ← part (head 1)
    done (record {
      server = server;
      computer = computer;
      authenticator = presented;
      returned = returned;
      domain = domain;
      control = control;
      logon_id = logon_id;
      user = user;
      workstation = workstation;
      challenge = challenge;
      nt = nt;
      lm = lm;
    }))

-- the front of a stub has all of them
pub record HoldsHeads (front : List ℕ) : Type 0 where
  pub heads : LogonHeads
  pub begins : Begins logon_heads heads front

-- the bytes of the names of both computers
abbrev pub names_size : LogonCall → ℕ
names_size value = size_if_there bytes_of_text value.server + size_if_there bytes_of_text value.computer

-- names of computers have at most 64 units
pub record HasShortNames (value : LogonCall) : Type 0 where
  pub server : IfThere (λ name. length name ≤ 64) value.server
  pub computer : IfThere (λ name. length name ≤ 64) value.computer

pub record LostMiddles : Type 0 where
  -- the heads of a Logon have at most 199 bytes more than the names, so a front of that many bytes holds them
  pub heads : (value : LogonCall) (front rest : List ℕ) → AreBytes (front ++ rest) → Begins logon_call value (front ++ rest) → 199 + names_size value ≤ length front → HoldsHeads front
  -- where names have at most 64 units, the first of two or more fragments holds them, whatever the limit of fragments
  pub first_fragment : (value : LogonCall) (stub : List ℕ) (limit : ℕ) → AreBytes stub → Begins logon_call value stub → HasShortNames value → 1432 ≤ limit → stub_size limit ≤ length stub →
      HoldsHeads (take (stub_size limit) stub)
  -- two stubs with the same heads that are read as Logons are Logons of the same length
  pub same_length : (value other : LogonCall) (front rest more : List ℕ) → AreBytes (front ++ rest) → AreBytes (front ++ more) → HoldsHeads front →
      (one : Begins logon_call value (front ++ rest)) (two : Begins logon_call other (front ++ more)) → length one.bytes ≡ length two.bytes
  -- where nothing stands behind a Logon, fewer bytes behind the same heads, whichever they are, are refused for a part
  pub shorter : (value : LogonCall) (front rest fewer : List ℕ) → AreBytes (front ++ rest) → AreBytes (front ++ fewer) → HoldsHeads front → HasLayout logon_call 0 value (front ++ rest) →
      length fewer < length rest → (place : ℕ) × (call_of 2 (front ++ fewer) ≡ Err (BadStub place))
  -- a Logon that was written and lost bytes behind its heads is refused
  pub lost : (value : LogonCall) (front middle back : List ℕ) → CanWriteLogonCall value → InRangeLogonCall value → written_call (call.Logon value) ≡ front ++ (middle ++ back) → HoldsHeads front →
      1 ≤ length middle → (place : ℕ) × (call_of 2 (front ++ back) ≡ Err (BadStub place))
