-- In every schedule a unit that was made as a call on a channel carries the call that has the timestamp which is
-- written down. It serves `Proved.sequences`.
use Rattle.std.proofs.Common.{◌≡◌, List, sym, ap, subst, ◌∙◌}
use Rattle.rpc_units.specs.declared.unit.Unit.{Unit as RpcUnit}
use Rattle.end_links.specs.Sending.{request_of}
use Rattle.channel_events.specs.Marks.{Mark, Calling}
use Rattle.wire_base.proofs.ListLaws.{some_is}
use Rattle.step_notes.specs.Records.{given_in, timestamp_in}
use Rattle.controller_calls.specs.declared.calls.JudgedCall.{JudgedCall}
use Rattle.world_moves.specs.declared.bag.BagUnit.{BagUnit}
use Rattle.domain_world.specs.Accepting.Carried.{call_carried}
use Rattle.domain_world.specs.Accepting.Sequences.{CallsAreStamped}
use Rattle.domain_world.specs.Past.{past}
use Rattle.domain_world.specs.Schedules.{OfSchedules}
use Rattle.domain_world.proofs.Acceptance.CarriedLaws.{asked_is, one_whole}
use Rattle.domain_world.proofs.Acceptance.Heard.MarkSentLaws.{IsCallSent}
use Rattle.domain_world.proofs.Acceptance.Heard.MarkWholeLaws.{FitsMark, OfMark, marks_fit}
use Rattle.domain_world.proofs.Frames.BagFrameLaws.{IsOfUnit}
use Rattle.domain_world.proofs.Moves.PlainFormLaws.{plain_heard}

pub calls_stamped : OfSchedules (λ plan moves. CallsAreStamped (past plan moves))
calls_stamped plan moves nobody is n unit one channel number timestamp asked there noted mark whole carried =
    let bag : List BagUnit = (past plan moves).world.state.bag in
    let had : IsOfUnit OfMark tt bag n one.mark = marks_fit plan moves nobody is n one noted in
    let same : had.unit ≡ unit = some_is had.unit unit (sym had.there ∙ there) in
    let fits : FitsMark unit (Calling channel number timestamp) =
    subst (λ (m : Mark). FitsMark unit m) mark (subst (λ (u : BagUnit). FitsMark u one.mark) same had.holds) in
    let sent : IsCallSent channel number timestamp unit.bytes = (fits (λ plain. plain)).1 in
    let request : RpcUnit = request_of number 0 sent.opnum sent.stub in
    let is_request : whole.unit ≡ request = one_whole unit.bytes whole.frames sent.frames whole.unit request (plain_heard (past plan moves).book.sent n unit whole.frames whole.unit whole.heard) sent.heard in
    -- what is sent is read as the one that is carried
    let same : asked ≡ sent.stamped.asked = asked_is asked sent.stamped.asked (sym carried ∙ ap (λ (u : RpcUnit). call_carried u.body) is_request ∙ sent.stamped.read) in
    ap (λ (x : JudgedCall). timestamp_in (given_in x)) same ∙ sent.stamped.stamp
