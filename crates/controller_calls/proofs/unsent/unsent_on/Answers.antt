use Rattle.std.proofs.Common.{◌≡◌, ◌∙◌, ℕ, List, ap, sym}
use Rattle.std.proofs.lemmas.Result.{IfOk-weaker}
use Rattle.wire_base.specs.Maps.{lookup}
use Rattle.wire_base.specs.Names.{same_name}
use Rattle.account_table.specs.Changes.{with_changes}
use Rattle.controller_calls.specs.Desk.{desk, take_channel}
use Rattle.controller_calls.specs.Handing.{CallPlace}
use Rattle.controller_calls.specs.Unsent.{Unsent, on_unsent}
use Rattle.controller_calls.proofs.JudgingLaws.{passed_on}
use Rattle.controller_calls.proofs.unsent.unsent_on.Goals as goal

pub returns-in-Some-returned-clause-value : goal.returns-in-Some-returned-clause-value
returns-in-Some-returned-clause-value c =
    let at : CallPlace = record { name = c.args.name.now; now = c.args.now; line = c.args.line; trusts = c.args.trusts } in
    let table = with_changes c.args.changes.now c.args.table.now in
    IfOk-weaker c.pass_or_hand.result _ (λ done. ◌≡◌ {A = Unsent} (desk (with_changes c.pass_or_hand.new.changes c.args.table.now) done.0, done.1)
    (on_unsent (lookup same_name c.args.computer c.args.work.computers.channels) c.args.given.now c.args.asked at c.args.computer (desk table (take_channel c.args.computer c.args.work))))
    (λ done is. is ∙ passed_on c.args.asked at c.args.computer c.args.given.now table c.args.work
    (lookup same_name c.args.computer c.args.work.computers.channels) c.in-Some.channel c.judge-returned.new.self c.in-Some-returned.credential _ _ _ _ _ _
    (ap (λ (n : List ℕ). lookup same_name n c.args.work.computers.channels) (sym c.units.ensures) ∙ sym c.take_channel-work.ensures.channel ∙ c.in-Some.is)
    (sym c.judge-returned.ensures.answer ∙ c.in-Some-returned.is)
    c.judge-returned.ensures.channel c.kind-kind.ensures c.key-key.ensures c.units-in-Some-returned.ensures c.in_ok-duplicate.ensures (c.take_channel-work.ensures.work ∙ ap (λ (n : List ℕ). take_channel n c.args.work) c.units.ensures) c.in_ok-work.ensures)
    c.pass_or_hand.ensures.value
