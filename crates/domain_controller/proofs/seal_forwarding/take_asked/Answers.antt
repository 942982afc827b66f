use Rattle.std.proofs.Common.{◌≡◌, Some, ap}
use Rattle.wire_base.specs.Maps.{has_key, place_of}
use Rattle.wire_base.proofs.MapLaws.{lookup_at, take_out_at}
use Rattle.domain_controller.specs.Trusting.{same_place}
use Rattle.domain_controller.proofs.seal_forwarding.take_asked.Goals as goal

pub returns-clause-rest : goal.returns-clause-rest
returns-clause-rest c =
    let p = ap (λ asked. place_of (has_key same_place (c.args.trust, c.args.place)) asked) c.items.ensures in
    let found : place_of (has_key same_place (c.args.trust, c.args.place)) c.args.asked ≡ Some c.in-Some.at = (let q = c.in-Some.ensures.at in cc) in
    let a = take_out_at same_place (c.args.trust, c.args.place) c.args.asked c.in-Some.at found in
    let b = c.from_vec.ensures in
    let d = c.remove-call.ensures.items in
    let e = c.into_vec-items.ensures in
    cc

pub returns-clause-call : goal.returns-clause-call
returns-clause-call c =
    let p = ap (λ asked. place_of (has_key same_place (c.args.trust, c.args.place)) asked) c.items.ensures in
    let found : place_of (has_key same_place (c.args.trust, c.args.place)) c.args.asked ≡ Some c.in-Some.at = (let q = c.in-Some.ensures.at in cc) in
    let a = lookup_at same_place (c.args.trust, c.args.place) c.args.asked c.in-Some.at c.remove-call.result found in
    let b = c.remove-call.ensures.value in
    let e = c.into_vec-items.ensures in
    cc
