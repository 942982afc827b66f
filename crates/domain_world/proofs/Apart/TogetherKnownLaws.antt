-- What the end of a run tells of each earlier state and book. It serves `Proved.never_apart`.
use Rattle.std.proofs.Common.{◌≡◌, ℕ, zero, suc, ◌<◌, ◌≤◌, List, [], ◌∷◌, ◌++◌, length, Some, slice_get, refl, ap, ◌∙◌, append_assoc, arith}
use Rattle.std.specs.List.{AllByRecursion}
use Rattle.channel_events.specs.Marks.{Mark}
use Rattle.step_notes.specs.Records.{Book, Judging, Sent}
use Rattle.world_moves.specs.declared.bag.BagUnit.{BagUnit}
use Rattle.domain_world.specs.Past.{onto}
use Rattle.domain_world.proofs.Apart.OrderToldLaws.{IsEarlier, RepliesFrom, Told, same_earlier, told_before, within}
use Rattle.domain_world.proofs.Apart.TogetherMoveLaws.{IsKnown}
use Rattle.domain_world.proofs.Messages.MessageApartLaws.{links_in}
use Rattle.domain_world.proofs.Moves.ComingLaws.{StillHas, kept_on, kept_same}
use Rattle.domain_world.proofs.Calls.CallHoldsLaws.{marks_in}

onto_join : {T : Type 0} (items more older : List T) → onto more (onto items older) ≡ onto (items ++ more) older
onto_join [] more older = refl
onto_join (item ∷ items) more older = onto_join items more (item ∷ older)

-- a list of marks that stay is no longer than the other
mark_at : (sent : List Sent) (n : ℕ) → n < length sent → (mark : Mark) × (slice_get (marks_in sent) n ≡ Some mark)
mark_at [] n below = absurd (omega (arith, below))
mark_at (one ∷ sent) zero below = (one.mark, refl)
mark_at (one ∷ sent) (suc n) below = mark_at sent n (omega (arith, below))

not_longer : (sent later : List Sent) → ((n : ℕ) (mark : Mark) → slice_get (marks_in sent) n ≡ Some mark → slice_get (marks_in later) n ≡ Some mark) → length sent ≤ length later
not_longer sent later stay = by_contradiction_le (length sent) (length later) (λ more.
    let one = mark_at sent (length later) more in
    let below : length later < length later = within later (length later) one.0 (stay (length later) one.0 one.1) in omega (arith, below))
  where
    by_contradiction_le : (a b : ℕ) → (b < a → ⊥) → a ≤ b
    by_contradiction_le zero b never = omega arith
    by_contradiction_le (suc a) zero never = absurd (never (omega arith))
    by_contradiction_le (suc a) (suc b) never = let rest = by_contradiction_le a b (λ more. never (omega (arith, more))) in omega (arith, rest)

from_more : (count more : ℕ) (items : List Judging) → count ≤ more → AllByRecursion (RepliesFrom more) items → AllByRecursion (RepliesFrom count) items
from_more count more [] least all = tt
from_more count more (j ∷ items) least all = ((λ n is. omega (arith, least, all.0 n is)), from_more count more items least all.1)

both_from : (count : ℕ) (items more : List Judging) → AllByRecursion (RepliesFrom count) items → AllByRecursion (RepliesFrom count) more → AllByRecursion (RepliesFrom count) (items ++ more)
both_from count [] more one other = other
both_from count (j ∷ items) more one other = (one.0, both_from count items more one.1 other)

-- an earlier book of an earlier one
pub earlier_on : (b next last : Book) → IsEarlier b next → IsEarlier next last → IsEarlier b last
earlier_on b next last one other = record {
  clash = λ none. one.clash (other.clash none);
  items = one.items ++ other.items;
  accepted = other.accepted ∙ ap (onto other.items) one.accepted ∙ onto_join one.items other.items b.accepted;
  judgings = one.judgings ++ other.judgings;
  judged = other.judged ∙ ap (onto other.judgings) one.judged ∙ onto_join one.judgings other.judgings b.judged;
  fresh = both_from (length b.sent) one.judgings other.judgings one.fresh
      (from_more (length b.sent) (length next.sent) other.judgings (not_longer b.sent next.sent one.marks) other.fresh);
  marks = λ n mark there. other.marks n mark (one.marks n mark there);
  more = one.more ++ other.more;
  sent = other.sent ∙ ap (λ (old : List Sent). old ++ other.more) one.sent ∙ append_assoc b.sent one.more other.more;
  links = one.links ++ other.links;
  messages = other.messages ∙ ap (λ (old : List ℕ). old ++ other.links) one.messages ∙ append_assoc (links_in b.messages) one.links other.links;
}

-- The units, and the earlier book, lead to this bag and this book.
pub record LeadsTo (bag : List BagUnit) (b : Book) (units : List BagUnit) (book : Book) : Type 0 where
  pub still : StillHas units bag
  pub earlier : IsEarlier book b

pub leads : (bag : List BagUnit) (b : Book) → Told b → IsKnown (LeadsTo bag b)
leads bag b told = record {
  told = λ units book to. told_before book b to.earlier told;
  before = λ units later book next still earlier to. record { still = kept_on units later bag still to.still; earlier = earlier_on book next b earlier to.earlier };
}

pub to_itself : (bag : List BagUnit) (b : Book) → LeadsTo bag b bag b
to_itself bag b = record { still = kept_same bag; earlier = same_earlier b }
