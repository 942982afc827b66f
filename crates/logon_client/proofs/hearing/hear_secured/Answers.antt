use Rattle.std.proofs.Common.{◌≡◌, sym, ap, ◌∙◌}
use Rattle.unit_security.specs.Levels.{is_sealed}
use Rattle.unit_security.specs.Securing.{open_unit, secured_if}
use Rattle.logon_client.proofs.HearingLaws.{opened_in}
use Rattle.logon_client.proofs.hearing.hear_secured.Goals as goal

pub returns-clause-answer : goal.returns-clause-answer
returns-clause-answer c =
    let opened : open_unit (is_sealed c.args.work.task.level) c.args.session c.args.bytes.now ≡ secured_if c.open_unit.result c.open_unit.new.bytes c.open_unit.new.session =
    ap (λ seals. open_unit seals c.args.session c.args.bytes.now) (sym c.seals-seals.ensures) ∙ c.open_unit.ensures.answer in
    rw (opened_in (open_unit (is_sealed c.args.work.task.level) c.args.session c.args.bytes.now) c.open_unit.result c.open_unit.new.bytes c.open_unit.new.session c.args.joiner c.args.terms c.args.question c.args.link c.args.work opened c.if-not-open_unit.false)
    c.hear_opened.ensures
