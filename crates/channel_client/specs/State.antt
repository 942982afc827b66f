-- What the end that asks on a secure channel keeps (this project's own choice).
use Rattle.std.specs.Prelude.{ℕ, List, Option}
use Rattle.channel_client.specs.declared.caller.Caller.{Caller}
use Rattle.channel_client.specs.declared.state.Standing.{Standing}
use Rattle.channel_client.specs.declared.state.Waiting.{Waiting}
use Rattle.channel_client.specs.declared.state.Pending.{Pending}
use Rattle.channel_client.specs.declared.state.Sealing.{Sealing}

pub record Requester : Type 0 where
  pub caller : Caller
  pub standing : Standing
  -- the logons that wait, in order; a turn is for the first of them
  pub waiting : List Waiting
  -- the place of the next logon, and the number of the next bind or request
  pub next_place : ℕ
  pub next_call : ℕ
  -- the turn that is out
  pub turn : Option Pending
  -- the secret that the account is to have, 16 bytes, or none
  pub next : Option (List ℕ)
  -- what seals the units of the channel, where it is one that seals
  pub sealing : Option Sealing
