use Rattle.std.proofs.Common.{◌%◌, ◌++◌, [], ◌∷◌, arith, sym, ap, ◌∙◌}
use Rattle.std.proofs.lemmas.List.FromFn.{map-range_with_len_more}
use Rattle.logon_client.proofs.hearing.echo_bytes.Goals as goal

pub loop-place-preserved : goal.loop-place-preserved
loop-place-preserved c =
    c.in_ok-push.ensures.items
    ∙ ap (λ bytes. bytes ++ c.loop-place.place % 251 ∷ []) c.loop-place.invariant
    ∙ sym (map-range_with_len_more (λ place. place % 251) 0 c.loop-place.place c.loop-place.place (omega arith))
