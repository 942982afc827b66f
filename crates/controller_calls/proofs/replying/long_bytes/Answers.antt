use Rattle.std.proofs.Common.{◌≤◌, length}
use Rattle.std.proofs.lemmas.Result.{IfOk-weaker}
use Rattle.end_links.specs.Bounds.{send_limit}
use Rattle.controller_calls.proofs.LongReplyLaws.{bytes_long}
use Rattle.controller_calls.proofs.replying.long_bytes.Goals as goal

pub returns-clause-most : goal.returns-clause-most
returns-clause-most c =
    IfOk-weaker c.call_bytes.result _ (λ bytes. length bytes ≤ send_limit)
    (λ bytes is. rw is (
    rw c.response-unit.ensures.value (
    bytes_long c.args.line.call c.args.line.context c.args.line.limit c.args.stub c.requires.line.least c.requires.few))) c.call_bytes.ensures.value
