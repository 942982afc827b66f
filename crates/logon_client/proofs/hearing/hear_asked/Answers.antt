use Rattle.std.proofs.Common.{◌≡◌, true, false, IfOk, option_map, sym, ap, subst, ◌∙◌}
use Rattle.rpc_units.specs.Views.{trailer_shown, unit_shown}
use Rattle.logon_client.specs.declared.state.Phase.TheVariants.{Asked}
use Rattle.logon_client.specs.Machine.{talk_on, fails}
use Rattle.logon_client.specs.Securing.{has_level}
use Rattle.logon_client.proofs.HearingLaws.{unit_out, asked_out, asked_in, response_plain, response_unlevelled, response_secured}
use Rattle.logon_client.proofs.hearing.hear_asked.Goals as goal

pub returns-then-unit-number-clause-answer : goal.returns-then-unit-number-clause-answer
returns-then-unit-number-clause-answer c =
    rw (unit_out c.args.bytes.now (talk_on c.args.link c.args.joiner (Asked c.args.terms c.args.question)) c.args.work (unit_shown c.in-Ok.unit) c.in-Ok.ensures.exact
    (λ same. c.if-unit-number.true (same ∙ sym (c.number.ensures c.args.terms))))
    c.blame-then-unit-number.ensures

pub returns-then-not-is_response-clause-answer : goal.returns-then-not-is_response-clause-answer
returns-then-not-is_response-clause-answer c =
    rw (asked_out c.args.bytes.now c.args.joiner c.args.terms c.args.question c.args.link c.args.work (unit_shown c.in-Ok.unit) c.in-Ok.ensures.exact
    (c.if-unit-number.false ∙ c.number.ensures c.args.terms) (sym c.is_response.ensures ∙ c.if-not-is_response.true))
    (subst (λ outcome. IfOk c.fail.result (λ h. h ≡ fails outcome c.args.link c.args.work)) c.outcome_of.ensures c.fail.ensures)

pub returns-in_default-clause-answer : goal.returns-in_default-clause-answer
returns-in_default-clause-answer c =
    rw (asked_in c.args.bytes.now c.args.joiner c.args.terms c.args.question c.args.link c.args.work (unit_shown c.in-Ok.unit) c.in-Ok.ensures.exact
    (c.if-unit-number.false ∙ c.number.ensures c.args.terms) (sym c.is_response.ensures ∙ c.if-not-is_response.false)
    ∙ response_plain c.args.terms c.args.question (unit_shown c.in-Ok.unit) c.args.bytes.now c.args.joiner c.args.link c.args.work c.in_default.is)
    c.hear_fragment.ensures

pub returns-then-not-has_level-clause-answer : goal.returns-then-not-has_level-clause-answer
returns-then-not-has_level-clause-answer c =
    let level : has_level c.args.work.task.level (option_map trailer_shown c.in-Ok.unit.trailer) ≡ false =
    ap (λ l. has_level l (option_map trailer_shown c.in-Ok.unit.trailer)) (sym c.level.ensures) ∙ sym c.has_level.ensures ∙ c.if-not-has_level.true in
    rw (asked_in c.args.bytes.now c.args.joiner c.args.terms c.args.question c.args.link c.args.work (unit_shown c.in-Ok.unit) c.in-Ok.ensures.exact
    (c.if-unit-number.false ∙ c.number.ensures c.args.terms) (sym c.is_response.ensures ∙ c.if-not-is_response.false)
    ∙ response_unlevelled c.args.terms c.args.question (unit_shown c.in-Ok.unit) c.args.bytes.now c.args.joiner c.args.link c.args.work c.in-Some.session c.in-Some.is level)
    c.blame-then-not-has_level.ensures

pub returns-clause-answer : goal.returns-clause-answer
returns-clause-answer c =
    let level : has_level c.args.work.task.level (option_map trailer_shown c.in-Ok.unit.trailer) ≡ true =
    ap (λ l. has_level l (option_map trailer_shown c.in-Ok.unit.trailer)) (sym c.level.ensures) ∙ sym c.has_level.ensures ∙ c.if-not-has_level.false in
    rw (asked_in c.args.bytes.now c.args.joiner c.args.terms c.args.question c.args.link c.args.work (unit_shown c.in-Ok.unit) c.in-Ok.ensures.exact
    (c.if-unit-number.false ∙ c.number.ensures c.args.terms) (sym c.is_response.ensures ∙ c.if-not-is_response.false)
    ∙ response_secured c.args.terms c.args.question (unit_shown c.in-Ok.unit) c.args.bytes.now c.args.joiner c.args.link c.args.work c.in-Some.session c.in-Some.is level)
    c.hear_secured.ensures.answer
