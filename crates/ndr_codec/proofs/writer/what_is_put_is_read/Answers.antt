use Rattle.ndr_codec.proofs.Appending.{read_put}
use Rattle.ndr_codec.proofs.writer.what_is_put_is_read.Goals as goal

pub returns : goal.returns
returns c s value old rest can are = read_put s value old rest can are
