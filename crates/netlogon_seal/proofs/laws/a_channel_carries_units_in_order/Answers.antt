-- The law on both directions (`proofs/ConversationLaws`).
use Rattle.netlogon_seal.proofs.ConversationLaws.{both_carry}
use Rattle.netlogon_seal.proofs.laws.a_channel_carries_units_in_order.Goals as goal

pub returns : goal.returns
returns c = both_carry
