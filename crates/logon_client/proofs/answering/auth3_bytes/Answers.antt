use Rattle.logon_client.proofs.AnsweringLaws.{auth3_writable}
use Rattle.logon_client.proofs.answering.auth3_bytes.Goals as goal

pub bytes_within-requires : goal.bytes_within-requires
bytes_within-requires c =
    auth3_writable _ c.args.message.now c.trailer.result c.args.level c.in-Ok.ensures.read_back c.trailer.ensures
