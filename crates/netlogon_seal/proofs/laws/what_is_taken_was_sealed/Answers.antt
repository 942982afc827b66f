-- The laws on one unit that is taken or refused (`proofs/CarryLaws`).
use Rattle.netlogon_seal.proofs.CarryLaws.{opens_next, plain_again, taken_was_sealed, sealed_is_taken, other_refused, repeated_refused}
use Rattle.netlogon_seal.proofs.laws.what_is_taken_was_sealed.Goals as goal

pub returns-clause-exactly : goal.returns-clause-exactly
returns-clause-exactly c s unit from to h within room =
    (taken_was_sealed s unit from to h within, sealed_is_taken s unit from to h within room)

pub returns-clause-opens : goal.returns-clause-opens
returns-clause-opens c s plain confounder from to h within eight room =
    record { done = opens_next s plain confounder from to h within eight room; plain_again = plain_again s plain confounder eight }

pub returns-clause-other_number : goal.returns-clause-other_number
returns-clause-other_number c = other_refused

pub returns-clause-repeated : goal.returns-clause-repeated
returns-clause-repeated c = repeated_refused
