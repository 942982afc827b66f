-- What a controller keeps of the logons that it asks of the controllers of trusted domains (MS-NRPC 3.1.4, 3.5.4: it is
-- the client there; this project's own choice but for what is named). Trusts are numbered from 0, in the table's order.
use Rattle.std.specs.Prelude.{ℕ, ◌==◌, ◌&&◌, Bool, List, [], ◌++◌, map, codes, None}
use Rattle.channel_keys.specs.ChannelTypes.{trusted_domain_channel}
use Rattle.account_table.specs.AccountTable.{AccountTable}
use Rattle.account_table.specs.declared.account.Trust.{Trust}
use Rattle.channel_client.specs.declared.caller.Caller.{Caller}
use Rattle.channel_client.specs.Machine.{fresh_requester}
use Rattle.channel_client.specs.State.{Requester}
use Rattle.channel_turns.specs.declared.state.Dialling.TheVariants as dialling
use Rattle.controller_calls.specs.Forwarded.{ForwardedState}
use Rattle.domain_controller.specs.declared.trusting.Queues.{Queues}
use Rattle.domain_controller.specs.declared.trusting.Trusting.{Trusting}

-- logons that were asked, each by the number of the trust and the place there
abbrev pub ForwardedCalls : Type 0
ForwardedCalls = List ((ℕ × ℕ) × ForwardedState)

abbrev pub same_place : ℕ × ℕ → ℕ × ℕ → Bool
same_place one other = (one.0 == other.0) && (one.1 == other.1)

-- ---- of a controller that can ask nobody

-- no end that asks, and no logon that was asked
abbrev pub no_queues : Queues
no_queues = record { requesters = []; forwarded = [] }

-- what is kept of logons that are asked of others where nobody can be asked: nothing
abbrev pub no_trusting : Trusting
no_trusting = record { queues = no_queues; turn_of = 0; dialling = dialling.Nothing; sealing = None }

-- ---- at first

-- the account of this domain in a domain that it trusts: its name and a dollar sign
abbrev pub account_there : List ℕ → List ℕ
account_there domain = domain ++ codes "$"

-- Who asks on the channel to a trusted domain's controller: this controller's name as computer; this domain's name and
-- a dollar sign as account, of type TrustedDomainSecureChannel (MS-NRPC 2.2.1.3.13); and the trust's secret.
abbrev pub trust_caller : AccountTable → List ℕ → Trust → Caller
trust_caller table name trust = record {
  secret = trust.hash;
  computer = name;
  account = account_there table.domain;
  kind = trusted_domain_channel;
}

-- the ends that ask at first: one for each trust of the table, in its order, with no channel yet
abbrev pub fresh_requesters : AccountTable → List ℕ → List Requester
fresh_requesters table name = map (λ (trust : Trust). fresh_requester (trust_caller table name trust)) table.trusts

-- one end that asks for each trust, at which nobody waits
abbrev pub first_trusting : AccountTable → List ℕ → Trusting
first_trusting table name = record {
  queues = record { requesters = fresh_requesters table name; forwarded = [] };
  turn_of = 0;
  dialling = dialling.Nothing;
  sealing = None;
}
