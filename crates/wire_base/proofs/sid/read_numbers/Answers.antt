use Rattle.std.proofs.Common.{arith, ◌<◌, ◌≡◌, ◌∷◌, length, sym, option_map}
use Rattle.std.proofs.lemmas.List.{length_push}
use Rattle.wire_base.specs.Sid.{parts_of}
use Rattle.wire_base.proofs.SidLaws.{loop_more}
use Rattle.wire_base.proofs.sid.read_numbers.Goals as goal

pub loop-rest-preserved : goal.loop-rest-preserved
loop-rest-preserved c =
    let room : length c.loop-rest.numbers < 15 = omega arith in
    let parts : parts_of (option_map (λ t. t.now) c.loop-rest.rest) ≡ c.first_part.result.0.now ∷ parts_of (option_map (λ t. t.now) c.first_part.result.1) = rw c.in-Some.is c.first_part.ensures.parts in
    record {
      so_far = loop_more _ _ _ _ _ _ _ room (sym c.in-Some-number_below.ensures) parts c.in_ok-push.ensures.appended c.loop-rest.invariant.so_far;
      at_most = rw c.in_ok-push.ensures.appended (omega (arith, length_push c.loop-rest.numbers c.in-Some-number_below.number));
    }
