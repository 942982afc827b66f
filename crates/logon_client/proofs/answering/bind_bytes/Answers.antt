use Rattle.logon_client.proofs.AnsweringLaws.{bind_writable, bind_short, bind_with}
use Rattle.logon_client.proofs.answering.bind_bytes.Goals as goal

pub unit_bytes-requires-clause-writable : goal.unit_bytes-requires-clause-writable
unit_bytes-requires-clause-writable c =
    let is = bind_with c.in_ok-bind.field-0 c.trailer.result _ c.args.level c.args.auth c.in_ok-bind.ensures.value c.trailer.ensures c.in_ok-negotiate_bytes.ensures in
    rw is (bind_writable c.args.level c.args.auth)

pub unit_bytes-requires-clause-short : goal.unit_bytes-requires-clause-short
unit_bytes-requires-clause-short c =
    let is = bind_with c.in_ok-bind.field-0 c.trailer.result _ c.args.level c.args.auth c.in_ok-bind.ensures.value c.trailer.ensures c.in_ok-negotiate_bytes.ensures in
    rw is (bind_short c.args.level c.args.auth)
