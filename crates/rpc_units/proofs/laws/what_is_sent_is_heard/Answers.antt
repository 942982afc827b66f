use Rattle.rpc_units.proofs.CuttingLaws.{cut_sendable, call_heard, call_short}
use Rattle.rpc_units.proofs.laws.what_is_sent_is_heard.Goals as goal

pub returns-clause-fragments : goal.returns-clause-fragments
returns-clause-fragments c = cut_sendable

pub returns-clause-heard : goal.returns-clause-heard
returns-clause-heard c = call_heard

pub returns-clause-bytes : goal.returns-clause-bytes
returns-clause-bytes c = call_short
