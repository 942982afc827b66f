use Rattle.std.proofs.Common.{refl, ap, ◌≡◌}
use Rattle.outside.specs.declared.action.Action.TheVariants.{Keep, Send, Dial}
use Rattle.end_loop.proofs.ActLaws.{did_ok, did_err, closed_ok, kept_ok, kept_err, said_ok, said_err, says}
use Rattle.end_loop.proofs.act.act.Goals as goal

pub returns-in-Keep-clause-ok : goal.returns-in-Keep-clause-ok
returns-in-Keep-clause-ok g c =
    let is : c.args.action.now ≡ Keep c.bytes.result.now = cc in
    kept_ok _ _ _ _ _ _ _ _ _ _ _ c.keep.result is refl c.keep.ensures.ok

pub returns-in-Keep-clause-err : goal.returns-in-Keep-clause-err
returns-in-Keep-clause-err g c =
    let is : c.args.action.now ≡ Keep c.bytes.result.now = cc in
    kept_err _ _ _ _ _ _ _ _ _ _ _ c.keep.result is c.keep.ensures.kind c.keep.ensures.err

pub returns-in-Send-clause-ok : goal.returns-in-Send-clause-ok
returns-in-Send-clause-ok g c =
    let is : c.args.action.now ≡ Send c.in-Send.link c.bytes-in-Send.result.now = cc in
    did_ok _ _ _ _ _ _ _ _ _ _ _ _ _ _ c.send_on.result is refl refl c.send_on.ensures.did

pub returns-in-Send-clause-err : goal.returns-in-Send-clause-err
returns-in-Send-clause-err g c =
    let is : c.args.action.now ≡ Send c.in-Send.link c.bytes-in-Send.result.now = cc in
    did_err _ _ _ _ _ _ _ _ _ _ _ _ _ _ c.send_on.result is refl refl c.send_on.ensures.memory c.send_on.ensures.did

pub returns-in-Dial-clause-ok : goal.returns-in-Dial-clause-ok
returns-in-Dial-clause-ok g c =
    let is : c.args.action.now ≡ Dial c.bytes-in-Dial.result.now = cc in
    did_ok _ _ _ _ _ _ _ _ _ _ _ _ _ _ c.dial_peer.result is refl refl (c.dial_peer.ensures.did _)

pub returns-in-Dial-clause-err : goal.returns-in-Dial-clause-err
returns-in-Dial-clause-err g c =
    let is : c.args.action.now ≡ Dial c.bytes-in-Dial.result.now = cc in
    did_err _ _ _ _ _ _ _ _ _ _ _ _ _ _ c.dial_peer.result is refl refl c.dial_peer.ensures.memory (c.dial_peer.ensures.did _)

pub returns-in-Close-clause-ok : goal.returns-in-Close-clause-ok
returns-in-Close-clause-ok g c = closed_ok _ _ _ _ _ _ _ _ _ _ _ _ _ c.in-Close.is refl c.close.ensures.told c.close.ensures.link_faults

pub returns-in-Told-clause-ok : goal.returns-in-Told-clause-ok
returns-in-Told-clause-ok g c = said_ok g.E.End.machine _ _ _ _ _ _ _ _ _ c.say.result (ap says c.in-Told.is) c.say.ensures.ok

pub returns-in-Told-clause-err : goal.returns-in-Told-clause-err
returns-in-Told-clause-err g c = said_err g.E.End.machine _ _ _ _ _ _ _ _ _ c.say.result (ap says c.in-Told.is) c.say.ensures.no_file c.say.ensures.err

pub returns-in-Judged-clause-ok : goal.returns-in-Judged-clause-ok
returns-in-Judged-clause-ok g c = said_ok g.E.End.machine _ _ _ _ _ _ _ _ _ c.say-in-Judged.result (ap says c.in-Judged.is) c.say-in-Judged.ensures.ok

pub returns-in-Judged-clause-err : goal.returns-in-Judged-clause-err
returns-in-Judged-clause-err g c = said_err g.E.End.machine _ _ _ _ _ _ _ _ _ c.say-in-Judged.result (ap says c.in-Judged.is) c.say-in-Judged.ensures.no_file c.say-in-Judged.ensures.err
