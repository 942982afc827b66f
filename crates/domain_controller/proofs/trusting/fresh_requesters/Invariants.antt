-- The requesters so far, one for each trust.
use Rattle.std.proofs.Common.{◌≡◌, map, take}
use Rattle.account_table.specs.declared.account.Trust.{Trust}
use Rattle.channel_client.specs.Machine.{fresh_requester}
use Rattle.domain_controller.specs.Trusting.{trust_caller}
use Rattle.domain_controller.proofs.trusting.fresh_requesters.Given as goal

abbrev pub invariant-loop-trust : goal.invariant-loop-trust
invariant-loop-trust l =
    l.requesters.items ≡ map (λ (trust : Trust). fresh_requester (trust_caller l.table l.name trust)) (take l.trust-index l.trust-items)
