use Rattle.std.proofs.Common.{arith}
use Rattle.channel_client.proofs.GrantLaws.{reply_fits}
use Rattle.channel_client.proofs.hearing.hear_stub.Goals as goal

pub returns-in-Ok-clause-writable : goal.returns-in-Ok-clause-writable
returns-in-Ok-clause-writable c = reply_fits _ c.args.stub.now c.in-Ok.reply (λ i. omega (arith, c.type_inv.stub i)) c.in-Ok.ensures.exact
