-- The plain form of a unit is the bytes that travel, since no link is sealed. What is known of the ones is known of the
-- other by these laws alone, and it stays while the book grows. It serves `calls_are_judged_as_carried`,
-- `marked_units_are_whole`, `messages_are_called`, `answers_are_taken_in_turn`, `calls_are_stamped` and
-- `Proved.replies`.
use Rattle.std.proofs.Common.{◌≡◌, ℕ, List, refl, sym, subst, ◌∙◌}
use Rattle.rpc_units.specs.Calls.{IsHeard}
use Rattle.rpc_units.specs.declared.unit.Unit.{Unit as RpcUnit}
use Rattle.step_notes.specs.Records.{Sent}
use Rattle.world_moves.specs.declared.bag.BagUnit.{BagUnit}
use Rattle.domain_world.specs.Past.{plain_form}

pub plain_is : (sent : List Sent) (n : ℕ) (unit : BagUnit) → plain_form sent n unit ≡ unit.bytes
unfolding plain_form
plain_is sent n unit = refl

-- whatever is written down later
pub plain_stays : (sent later : List Sent) (n : ℕ) (old now : BagUnit) → now.bytes ≡ old.bytes → plain_form later n now ≡ plain_form sent n old
plain_stays sent later n old now same = plain_is later n now ∙ same ∙ sym (plain_is sent n old)

-- one whole unit, in these frames
pub heard_plain : (sent : List Sent) (n : ℕ) (carrier : BagUnit) (frames : List RpcUnit) (unit : RpcUnit) → IsHeard carrier.bytes frames unit → IsHeard (plain_form sent n carrier) frames unit
heard_plain sent n carrier frames unit heard = subst (λ (bytes : List ℕ). IsHeard bytes frames unit) (sym (plain_is sent n carrier)) heard

pub plain_heard : (sent : List Sent) (n : ℕ) (carrier : BagUnit) (frames : List RpcUnit) (unit : RpcUnit) → IsHeard (plain_form sent n carrier) frames unit → IsHeard carrier.bytes frames unit
plain_heard sent n carrier frames unit heard = subst (λ (bytes : List ℕ). IsHeard bytes frames unit) (plain_is sent n carrier) heard
