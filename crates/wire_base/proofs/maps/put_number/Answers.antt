use Rattle.std.proofs.Common.{◌≡◌, ap, ◌∙◌, subst}
use Rattle.std.specs.Result.{IfOk}
use Rattle.wire_base.specs.Maps.{place_of, has_key}
use Rattle.wire_base.specs.Maps.{same_number}
use Rattle.wire_base.proofs.MapLaws.{put_at_place}
use Rattle.wire_base.proofs.maps.put_number.Goals as goal

pub returns : goal.returns
returns g c =
    let here = c.place-place.ensures.place ∙ ap (λ entries. place_of (has_key same_number c.args.key) entries) c.items.ensures in
    let is = put_at_place same_number c.args.key c.args.value c.args.entries c.place-place.result here in
    subst (λ entries. IfOk c.put_in.result (λ r. r ≡ entries)) is c.put_in.ensures
