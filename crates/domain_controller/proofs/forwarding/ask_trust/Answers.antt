use Rattle.std.proofs.Common.{◌≡◌, ◌<◌, length, get_or, refl, ap, arith, rules}
use Rattle.std.proofs.lemmas.Option.{slice_get_read}
use Rattle.domain_controller.proofs.ForwardLaws.{asked_full}
use Rattle.domain_controller.proofs.forwarding.ask_trust.Goals as goal

pub returns-in-Err-QueueFull : goal.returns-in-Err-QueueFull
returns-in-Err-QueueFull c =
    let items = c.into_vec-requesters.ensures in
    let lt : c.args.trust < length c.args.requesters = omega (arith, c.len.ensures, ap length items) in
    let read : c.index_mut.result.now ≡ get_or c.args.requesters c.args.trust c.index_mut.result.now = (let value = c.index_mut.ensures.value in cc) in
    asked_full c.args.info c.args.trust c.args.requesters c.from_vec-in-Err-QueueFull.result c.index_mut.result.now c.ask.new.self
    (slice_get_read c.args.requesters (length c.args.requesters) c.args.trust c.index_mut.result.now refl lt read) (search rules) (search rules) (search rules)
