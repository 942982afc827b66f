-- Which number the unit of a mark has: the units that go into the bag on a link get the marks in order, and where an
-- end sends once for each mark before it closes a link, no mark is left over. It serves `Proved.call_marks`,
-- `Proved.reply_marks`, `Proved.opened_marks` and `Proved.opened`.
use Rattle.std.proofs.Common.{◌≡◌, ◌⊎◌, ℕ, zero, suc, ◌+◌, ◌≤◌, Bool, true, false, List, [], ◌∷◌, ◌++◌, drop, length, map, inl, inr, Some, slice_get, refl, sym, ap, subst, ◌∙◌, arith, if◌then◌else◌}
use Rattle.std.specs.List.{AllByRecursion}
use Rattle.std.proofs.lemmas.List.{drop_at}
use Rattle.outside.specs.declared.action.Action.{Action}
use Rattle.outside.specs.declared.action.Action.TheVariants.{Keep, Send, Dial, Close, Told, Judged}
use Rattle.channel_events.specs.Marks.{Mark, Plain}
use Rattle.step_notes.specs.ChannelNames.{sends_in}
use Rattle.step_notes.specs.Marking.{mark_if}
use Rattle.step_notes.specs.Records.{Sent}
use Rattle.world_moves.specs.declared.bag.BagUnit.{BagUnit}
use Rattle.world_moves.specs.declared.links.EndId.{EndId}
use Rattle.world_moves.specs.declared.links.Route.{Route}
use Rattle.world_moves.specs.declared.state.State.{State}
use Rattle.world_moves.specs.Acting.{perform_all, unit_on}
use Rattle.world_moves.specs.Choosing.{places_from}
use Rattle.world_moves.specs.Links.{is_accepted_by, is_own, kind_of}
use Rattle.domain_world.specs.Past.{is_sent_on, later_of, marks_by, marks_of, numbers_on, sent_at}
use Rattle.domain_world.proofs.Moves.MarkPlaceLaws.{IsHere, front_units, got_later, passes}
use Rattle.domain_world.proofs.Moves.NewUnitLaws.{IsFront, MoreAfter, front_bag}
use Rattle.domain_controller.proofs.TurnOutLaws.{got_map}
use Rattle.wire_base.proofs.ListLaws.{got_nothing, some_is}

-- ---- marks and numbers, in order

-- `At` holds of each number and its mark, as far as both go
abbrev pub AtNumbers : (ℕ → Mark → Type 0) → List Mark → List ℕ → Type 0
AtNumbers At [] numbers = Unit {0}
AtNumbers At (mark ∷ marks) [] = Unit {0}
AtNumbers At (mark ∷ marks) (n ∷ numbers) = At n mark × AtNumbers At marks numbers

pub none_numbered : (At : ℕ → Mark → Type 0) (marks : List Mark) → AtNumbers At marks []
none_numbered At [] = tt
none_numbered At (mark ∷ marks) = tt

pub numbers_so : (At Later : ℕ → Mark → Type 0) → ((n : ℕ) (mark : Mark) → At n mark → Later n mark) → (marks : List Mark) (numbers : List ℕ) → AtNumbers At marks numbers →
    AtNumbers Later marks numbers
numbers_so At Later so [] numbers at = tt
numbers_so At Later so (mark ∷ marks) [] at = tt
numbers_so At Later so (mark ∷ marks) (n ∷ numbers) at = (so n mark at.0, numbers_so At Later so marks numbers at.1)

-- of what comes behind the next, if there is one
pub at_later : (At : ℕ → Mark → Type 0) (sends : Bool) (mark : Mark) (more : List Mark) (numbers : List ℕ) → AtNumbers At (mark_if sends mark ++ more) numbers →
    AtNumbers At more (later_of sends numbers)
at_later At false mark more numbers at = at
at_later At true mark more [] at = none_numbered At more
at_later At true mark more (n ∷ numbers) at = at.1

-- the mark stands at the place of that number, where the first place has the number `first`
pub record IsGiven (given : List Mark) (first n : ℕ) (mark : Mark) : Type 0 where
  pub place : ℕ
  pub is : n ≡ first + place
  pub there : slice_get given place ≡ Some mark

given_later : (other : Mark) (given : List Mark) (first n : ℕ) (mark : Mark) → IsGiven given (first + 1) n mark → IsGiven (other ∷ given) first n mark
given_later other given first n mark it = record { place = suc it.place; is = omega (arith, it.is); there = it.there }

module _ (link : ℕ) (back : Bool) where
  -- a unit on the link in that direction takes the next mark
  first_numbered : (hit : Bool) (units : List BagUnit) (marks : List Mark) (first : ℕ) →
      ((others : List Mark) → AtNumbers (IsGiven (marks_of link back units others) (first + 1)) others (places_from (is_sent_on link back) (first + 1) units)) →
      AtNumbers (IsGiven (marks_by hit marks (λ rest. marks_of link back units rest)) first) marks
      (if hit then first ∷ places_from (is_sent_on link back) (first + 1) units else places_from (is_sent_on link back) (first + 1) units)
  first_numbered false units marks first later =
      numbers_so (IsGiven (marks_of link back units marks) (first + 1)) (IsGiven (Plain ∷ marks_of link back units marks) first)
      (λ n mark it. given_later Plain (marks_of link back units marks) first n mark it) marks (places_from (is_sent_on link back) (first + 1) units) (later marks)
  first_numbered true units [] first later = tt
  first_numbered true units (mark ∷ marks) first later = (
    record { place = 0; is = omega arith; there = refl },
    numbers_so (IsGiven (marks_of link back units marks) (first + 1)) (IsGiven (mark ∷ marks_of link back units marks) first)
        (λ n one it. given_later mark (marks_of link back units marks) first n one it) marks (places_from (is_sent_on link back) (first + 1) units) (later marks),
  )

  -- of units of which the first has that number, those on the link have the marks in order
  pub marks_numbered : (units : List BagUnit) (marks : List Mark) (first : ℕ) →
      AtNumbers (IsGiven (marks_of link back units marks) first) marks (places_from (is_sent_on link back) first units)
  marks_numbered [] marks first = none_numbered (IsGiven [] first) marks
  marks_numbered (unit ∷ units) marks first = first_numbered (is_sent_on link back unit) units marks first (λ others. marks_numbered units others (first + 1))

-- ---- the mark of a unit is the next of the marks, and the unit has its number

-- the mark and the number stand at one place
pub record StandsAt (marks : List Mark) (numbers : List ℕ) (number : ℕ) (mark : Mark) : Type 0 where
  pub place : ℕ
  pub marked : slice_get marks place ≡ Some mark
  pub numbered : slice_get numbers place ≡ Some number

abbrev pub PlainOrAt : List Mark → List ℕ → ℕ → Mark → Type 0
PlainOrAt marks numbers number mark = (mark ≡ Plain) ⊎ StandsAt marks numbers number mark

same_number : (marks : List Mark) (numbers : List ℕ) (one other : ℕ) (mark : Mark) → one ≡ other → PlainOrAt marks numbers one mark → PlainOrAt marks numbers other mark
same_number marks numbers one other mark same at = subst (λ (n : ℕ). PlainOrAt marks numbers n mark) same at

one_later : (first : ℕ) (other : Mark) (marks : List Mark) (numbers : List ℕ) (number : ℕ) (mark : Mark) → PlainOrAt marks numbers number mark → PlainOrAt (other ∷ marks) (first ∷ numbers) number mark
one_later first other marks numbers number mark (inl plain) = inl plain
one_later first other marks numbers number mark (inr at) = inr (record { place = suc at.place; marked = at.marked; numbered = at.numbered })

none_there : (numbers more : List ℕ) (number : ℕ) (mark : Mark) → PlainOrAt [] numbers number mark → PlainOrAt [] more number mark
none_there numbers more number mark (inl plain) = inl plain
none_there numbers more number mark (inr at) = absurd (got_nothing at.place mark at.marked)

module _ (link : ℕ) (back : Bool) where
  first_at : (hit : Bool) (units : List BagUnit) (marks : List Mark) (first place : ℕ) (mark : Mark) →
      ((others : List Mark) (k : ℕ) → slice_get (marks_of link back units others) k ≡ Some mark → PlainOrAt others (places_from (is_sent_on link back) (first + 1) units) (first + 1 + k) mark) →
      slice_get (marks_by hit marks (λ rest. marks_of link back units rest)) place ≡ Some mark →
      PlainOrAt marks (if hit then first ∷ places_from (is_sent_on link back) (first + 1) units else places_from (is_sent_on link back) (first + 1) units) (first + place) mark
  first_at false units marks first zero mark later there = inl (sym (some_is Plain mark there))
  first_at false units marks first (suc place) mark later there =
      same_number marks (places_from (is_sent_on link back) (first + 1) units) (first + 1 + place) (first + suc place) mark (omega arith) (later marks place there)
  first_at true units [] first zero mark later there = inl (sym (some_is Plain mark there))
  first_at true units [] first (suc place) mark later there =
      none_there (places_from (is_sent_on link back) (first + 1) units) (first ∷ places_from (is_sent_on link back) (first + 1) units) (first + suc place) mark
      (same_number [] (places_from (is_sent_on link back) (first + 1) units) (first + 1 + place) (first + suc place) mark (omega arith) (later [] place there))
  first_at true units (other ∷ marks) first zero mark later there =
      inr (record { place = 0; marked = there; numbered = ap (λ (n : ℕ). Some n) (let e : first ≡ first + 0 = omega arith in e) })
  first_at true units (other ∷ marks) first (suc place) mark later there =
      one_later first other marks (places_from (is_sent_on link back) (first + 1) units) (first + suc place) mark
      (same_number marks (places_from (is_sent_on link back) (first + 1) units) (first + 1 + place) (first + suc place) mark (omega arith) (later marks place there))

  -- the mark at a place of the units' marks is plain, or stands with the number of the unit there; the first unit has
  -- the number `first`
  pub mark_at : (units : List BagUnit) (marks : List Mark) (first place : ℕ) (mark : Mark) → slice_get (marks_of link back units marks) place ≡ Some mark →
      PlainOrAt marks (places_from (is_sent_on link back) first units) (first + place) mark
  mark_at [] marks first place mark there = absurd (got_nothing place mark there)
  mark_at (unit ∷ units) marks first place mark there =
      first_at (is_sent_on link back unit) units marks first place mark (λ others k is. mark_at units others (first + 1) k mark is) there

-- ---- as they are written down

-- the unit is written down with that mark
pub record IsMarkedAs (sent : List Sent) (n : ℕ) (mark : Mark) : Type 0 where
  pub one : Sent
  pub there : slice_get sent n ≡ Some one
  pub is : one.mark ≡ mark

-- behind those that there were, of which each unit has one
pub given_marked : (old : List Sent) (count at : ℕ) (given : List Mark) (n : ℕ) (mark : Mark) → length old ≡ count → IsGiven given count n mark →
    IsMarkedAs (old ++ map (sent_at at) given) n mark
given_marked old count at given n mark even it =
    let here : length old + it.place ≡ n = omega (arith, even, it.is) in
    record {
      one = sent_at at mark;
      there = subst (λ (k : ℕ). slice_get (old ++ map (sent_at at) given) k ≡ Some (sent_at at mark)) here
          (got_later old (map (sent_at at) given) it.place (sent_at at mark) (got_map (sent_at at) given it.place mark it.there));
      is = refl;
    }

-- the unit `n` is written down with that mark, and was sent after `moves` moves
pub record IsMarkedAt (sent : List Sent) (moves n : ℕ) (mark : Mark) : Type 0 where
  pub one : Sent
  pub there : slice_get sent n ≡ Some one
  pub is : one.mark ≡ mark
  pub step : one.at ≡ moves

pub given_at : (old : List Sent) (count at : ℕ) (given : List Mark) (n : ℕ) (mark : Mark) → length old ≡ count → IsGiven given count n mark →
    IsMarkedAt (old ++ map (sent_at at) given) at n mark
given_at old count at given n mark even it =
    let here : length old + it.place ≡ n = omega (arith, even, it.is) in
    record {
      one = sent_at at mark;
      there = subst (λ (k : ℕ). slice_get (old ++ map (sent_at at) given) k ≡ Some (sent_at at mark)) here
          (got_later old (map (sent_at at) given) it.place (sent_at at mark) (got_map (sent_at at) given it.place mark it.there));
      is = refl;
      step = refl;
    }

-- ---- an end that sends once for each mark

first_counts : (hit : Bool) (first : ℕ) (numbers : List ℕ) → hit ≡ true → length (if hit then first ∷ numbers else numbers) ≡ suc (length numbers)
first_counts true first numbers is = refl
first_counts false first numbers is = absurd cc

module _ (route : Route) (end : EndId) (link : ℕ) (back : Bool) (way : is_accepted_by end route ≡ back) where
  -- each unit that it sends first has a number
  sends_numbered : (later : List BagUnit) (actions : List Action) (first : ℕ) → AllByRecursion (IsHere link) actions →
      length (sends_in actions) ≤ length (places_from (is_sent_on link back) first (front_units route end link actions ++ later))
  sends_numbered later [] first here = omega arith
  sends_numbered later (Keep bytes ∷ actions) first here = sends_numbered later actions first here.1
  sends_numbered later (Send other bytes ∷ actions) first here =
      let own : BagUnit = unit_on route end link bytes in
      let rest : List BagUnit = front_units route end link actions ++ later in
      let more : length (sends_in actions) ≤ length (places_from (is_sent_on link back) (first + 1) rest) = sends_numbered later actions (first + 1) here.1 in
      let counts = first_counts (is_sent_on link back own) first (places_from (is_sent_on link back) (first + 1) rest) (passes back link own refl way) in
      subst (λ (n : ℕ). suc (length (sends_in actions)) ≤ n) (sym counts) (omega (arith, more))
  sends_numbered later (Dial peer ∷ actions) first here = sends_numbered later actions first here.1
  sends_numbered later (Close other cause ∷ actions) first here = absurd here.0
  sends_numbered later (Told other outcome ∷ actions) first here = sends_numbered later actions first here.1
  sends_numbered later (Judged how ∷ actions) first here = sends_numbered later actions first here.1

  -- there are as many numbers as marks at least
  pub numbers_enough : (actions : List Action) (marks : List Mark) (s : State) → slice_get s.links link ≡ Some route → is_own (kind_of route) ≡ true → IsFront link marks actions →
      length marks ≤ length (numbers_on link back s.bag (perform_all end actions s).state.bag)
  numbers_enough actions marks s made own f =
      let more : MoreAfter route end link actions marks s f = front_bag route end link actions marks s f made own in
      let first : List BagUnit = front_units route end link f.front in
      let new : drop (length s.bag) (perform_all end actions s).state.bag ≡ first ++ more.units =
      ap (λ (bag : List BagUnit). drop (length s.bag) bag) more.is ∙ drop_at s.bag (first ++ more.units) (length s.bag) refl in
      subst (λ (units : List BagUnit). length marks ≤ length (places_from (is_sent_on link back) (length s.bag) units)) (sym new)
      (subst (λ (n : ℕ). n ≤ length (places_from (is_sent_on link back) (length s.bag) (first ++ more.units))) f.size (sends_numbered more.units f.front (length s.bag) f.here))
