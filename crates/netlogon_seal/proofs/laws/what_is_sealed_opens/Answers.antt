-- Each clause is a case of the law on a run of units (`proofs/CarryLaws`).
use Rattle.std.proofs.Common.{refl, arith, true, false}
use Rattle.netlogon_seal.specs.Channels.{nl_state_of}
use Rattle.netlogon_seal.proofs.CarryLaws.{open_all-send_all}
use Rattle.netlogon_seal.proofs.laws.what_is_sealed_opens.Goals as goal

pub returns-clause-from_any : goal.returns-clause-from_any
returns-clause-from_any c = open_all-send_all

pub returns-clause-from_requester : goal.returns-clause-from_requester
returns-clause-from_requester c key units ranges few =
    open_all-send_all (nl_state_of key true) (nl_state_of key false) units (record { key = refl; sides = refl; numbers = refl }) ranges (omega arith)

pub returns-clause-to_requester : goal.returns-clause-to_requester
returns-clause-to_requester c key units ranges few =
    open_all-send_all (nl_state_of key false) (nl_state_of key true) units (record { key = refl; sides = refl; numbers = refl }) ranges (omega arith)
