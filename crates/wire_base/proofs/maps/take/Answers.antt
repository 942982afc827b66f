use Rattle.std.proofs.Common.{◌≡◌, Some, ap}
use Rattle.wire_base.specs.Maps.{place_of, has_key}
use Rattle.wire_base.proofs.MapLaws.{take_out_at}
use Rattle.wire_base.proofs.maps.take.Goals as goal

pub returns-clause-rest : goal.returns-clause-rest
returns-clause-rest g c =
    let p = ap (λ xs. place_of (has_key g.S.Sought.same c.args.sought.now) xs) c.items.ensures in
    let found : place_of (has_key g.S.Sought.same c.args.sought.now) c.args.entries ≡ Some c.in-Some.place =
    (let q = c.in-Some.ensures.place in cc) in
    let a = take_out_at g.S.Sought.same c.args.sought.now c.args.entries c.in-Some.place found in
    let b = c.from_vec.ensures in
    let d = c.remove-value.ensures.items in
    let e = c.into_vec-items.ensures in
    cc
