-- What is granted is what the definition says, of which these are laws.
use Rattle.std.proofs.lemmas.Result.{IfOk-weaker}
use Rattle.logon_stubs.specs.Ranges.{HasShortTexts, InRangeSamInfo}
use Rattle.logon_stubs.specs.Writing.{CanWriteSamInfo}
use Rattle.sam_logon.proofs.GrantedLaws.{in_range-counted, sam_info-CanWrite, sam_info-InRange, sam_info-IsShort}
use Rattle.sam_logon.proofs.granting.sam_info.Goals as goal

pub returns-clause-writable : goal.returns-clause-writable
returns-clause-writable c =
    IfOk-weaker c.fill_in.result _ CanWriteSamInfo (λ info e. rw e (sam_info-CanWrite _ _ _ _ _ c.domain-domain.ensures.form c.bytes-controller.ensures.form (in_range-counted c.args.account.now c.args.count c.ranges.count.fits c.requires))) c.fill_in.ensures

pub returns-clause-short : goal.returns-clause-short
returns-clause-short c =
    IfOk-weaker c.fill_in.result _ HasShortTexts (λ info e. rw e (sam_info-IsShort _ _ _ _ _ c.domain-domain.ensures.form c.bytes-controller.ensures.form (in_range-counted c.args.account.now c.args.count c.ranges.count.fits c.requires))) c.fill_in.ensures

pub returns-clause-range : goal.returns-clause-range
returns-clause-range c =
    IfOk-weaker c.fill_in.result _ InRangeSamInfo
    (λ info e. rw e (sam_info-InRange _ _ _ _ _ c.domain-domain.ensures.form c.bytes-controller.ensures.form (in_range-counted c.args.account.now c.args.count c.ranges.count.fits c.requires) c.sid-sid.ensures.range c.is_key.ensures c.ranges.now.fits))
    c.fill_in.ensures
