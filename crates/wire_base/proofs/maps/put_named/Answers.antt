use Rattle.std.proofs.Common.{◌≡◌, ap, ◌∙◌, subst}
use Rattle.std.specs.Result.{IfOk}
use Rattle.wire_base.specs.Maps.{place_of, has_key}
use Rattle.wire_base.specs.Names.{same_name}
use Rattle.wire_base.proofs.MapLaws.{put_at_place}
use Rattle.wire_base.proofs.maps.put_named.Goals as goal

pub returns : goal.returns
returns g c =
    let found : c.place-place.result ≡ place_of (has_key same_name c.units.result.now) c.items.result.now = c.place-place.ensures.place in
    let of_key = ap (λ key. place_of (has_key same_name key) c.items.result.now) c.units.ensures in
    let here = found ∙ of_key ∙ ap (λ entries. place_of (has_key same_name c.args.key) entries) c.items.ensures in
    let is = put_at_place same_name c.args.key c.args.value c.args.entries c.place-place.result here in
    subst (λ entries. IfOk c.put_in.result (λ r. r ≡ entries)) is c.put_in.ensures
