use Rattle.authenticators.proofs.ChannelLaws.{channel_key-same, same_channel-Decides}
use Rattle.authenticators.proofs.laws.one_channel_has_one_key.Goals as goal

pub returns-clause-key : goal.returns-clause-key
returns-clause-key c = channel_key-same

pub returns-clause-test : goal.returns-clause-test
returns-clause-test c = same_channel-Decides
