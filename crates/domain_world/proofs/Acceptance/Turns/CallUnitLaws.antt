-- Which unit of the bag was made as the call of a number on a channel, by what is written down of units.
-- It serves `answers_are_taken_in_turn`.
use Rattle.std.proofs.Common.{if◌then◌else◌, ◌≡◌, ℕ, zero, suc, ◌==◌, ◌&&◌, Bool, true, false, List, [], ◌∷◌, Option, Some, None, refl, sym, ap, ◌∙◌, slice_get}
use Rattle.std.proofs.lemmas.Bool.{eqb-true, eq-eqb}
use Rattle.std.specs.Option.{option_map}
use Rattle.wire_base.specs.Maps.{place_of}
use Rattle.authenticators.specs.Channels.{ChannelIdentity, SameChannel, same_channel}
use Rattle.authenticators.proofs.ChannelLaws.{same_channel-Decides}
use Rattle.channel_events.specs.Marks.{Calling, Mark, Opened, Opening, Plain, ReplyTo}
use Rattle.wire_base.proofs.ListLaws.{got_nothing, some_is}
use Rattle.channel_events.proofs.SameLaws.{one_channel}
use Rattle.step_notes.specs.Records.{Sent}
use Rattle.domain_world.specs.Past.{call_made, is_call_of, is_calling}

-- ---- the first place at which a test passes

record PassesAt {T : Type 0} (test : T → Bool) (items : List T) (n : ℕ) : Type 0 where
  pub item : T
  pub there : slice_get items n ≡ Some item
  pub passes : test item ≡ true

later_place : {T : Type 0} (test : T → Bool) (first : T) (items : List T) (found : Option ℕ) (n : ℕ) → ((m : ℕ) → found ≡ Some m → PassesAt test items m) → option_map suc found ≡ Some n →
    PassesAt test (first ∷ items) n
later_place test first items None n so is = absurd (let x = is in cc)
later_place test first items (Some m) zero so is = absurd (let x = is in cc)
later_place test first items (Some m) (suc n) so is =
    let same : m ≡ n = (let x = is in cc) in
    let one : PassesAt test items n = so n (ap (λ (place : ℕ). Some place) same) in
    record { item = one.item; there = one.there; passes = one.passes }

first_place : {T : Type 0} (test : T → Bool) (first : T) (items : List T) (hit : Bool) (n : ℕ) → test first ≡ hit → ((m : ℕ) → place_of test items ≡ Some m → PassesAt test items m) →
    (if hit then Some 0 else option_map suc (place_of test items)) ≡ Some n → PassesAt test (first ∷ items) n
first_place test first items true zero hit so is = record { item = first; there = refl; passes = hit }
first_place test first items true (suc n) hit so is = absurd (let x = is in cc)
first_place test first items false n hit so is = later_place test first items (place_of test items) n so is

passes_at : {T : Type 0} (test : T → Bool) (items : List T) (n : ℕ) → place_of test items ≡ Some n → PassesAt test items n
passes_at test [] n is = absurd (let x = is in cc)
passes_at test (first ∷ items) n is = first_place test first items (test first) n refl (passes_at test items) is

-- where one passes, there is a first one
record HasPlace {T : Type 0} (test : T → Bool) (items : List T) : Type 0 where
  pub place : ℕ
  pub is : place_of test items ≡ Some place

place_by : {T : Type 0} (test : T → Bool) (first : T) (items : List T) (hit : Bool) → test first ≡ hit → place_of test (first ∷ items) ≡ (if hit then Some 0 else option_map suc (place_of test items))
place_by test first items hit is = ap (λ (b : Bool). if b then Some 0 else option_map suc (place_of test items)) is

place_from : {T : Type 0} (test : T → Bool) (first : T) (items : List T) (hit : Bool) (n : ℕ) (item : T) → test first ≡ hit → test item ≡ true → slice_get (first ∷ items) n ≡ Some item →
    ((m : ℕ) → slice_get items m ≡ Some item → HasPlace test items) → HasPlace test (first ∷ items)
place_from test first items true n item hit passes there so = record { place = 0; is = place_by test first items true hit }
place_from test first items false zero item hit passes there so =
    let never : false ≡ true = sym hit ∙ ap test (some_is first item there) ∙ passes in absurd (let x = never in cc)
place_from test first items false (suc n) item hit passes there so =
    let later : HasPlace test items = so n there in
    record { place = suc later.place; is = place_by test first items false hit ∙ ap (λ (found : Option ℕ). option_map suc found) later.is }

has_place : {T : Type 0} (test : T → Bool) (items : List T) (n : ℕ) (item : T) → slice_get items n ≡ Some item → test item ≡ true → HasPlace test items
has_place test [] n item there passes = absurd (got_nothing n item there)
has_place test (first ∷ items) n item there passes = place_from test first items (test first) n item refl passes there (λ m later. has_place test items m item later passes)

-- ---- a call

-- the unit was made as a call of that number, on that channel
record IsMadeAs (channel : ChannelIdentity) (number : ℕ) (mark : Mark) : Type 0 where
  pub other : ChannelIdentity
  pub timestamp : ℕ
  pub is : mark ≡ Calling other number timestamp
  pub same : SameChannel other channel

both_so : (one other : Bool) → (one && other) ≡ true → (one ≡ true) × (other ≡ true)
both_so true true is = (refl, refl)
both_so true false is = absurd (let x = is in cc)
both_so false other is = absurd (let x = is in cc)

calling_is : (mark : Mark) (channel : ChannelIdentity) (number : ℕ) → is_calling channel number mark ≡ true → IsMadeAs channel number mark
calling_is Plain channel number is = absurd (let x = is in cc)
calling_is (Opening other called) channel number is = absurd (let x = is in cc)
calling_is (Opened other called request) channel number is = absurd (let x = is in cc)
calling_is (ReplyTo other called request) channel number is = absurd (let x = is in cc)
calling_is (Calling other called timestamp) channel number is =
    let both = both_so (same_channel other channel) (called == number) is in
    record {
      other = other;
      timestamp = timestamp;
      is = ap (λ (n : ℕ). Calling other n timestamp) (eqb-true called number both.1);
      same = one_channel other channel both.0;
    }

is_so : (one other : Bool) → one ≡ true → other ≡ true → (one && other) ≡ true
is_so true true is also = refl
is_so true false is also = also
is_so false other is also = is

is_calling_so : (channel other : ChannelIdentity) (number timestamp : ℕ) → SameChannel other channel → is_calling channel number (Calling other number timestamp) ≡ true
is_calling_so channel other number timestamp same = is_so (same_channel other channel) (number == number) ((same_channel-Decides other channel).1 same) (eq-eqb number number refl)

-- the unit that was made as that call
pub record IsCallAt (channel : ChannelIdentity) (number : ℕ) (units : List Sent) (n : ℕ) : Type 0 where
  pub sent : Sent
  pub there : slice_get units n ≡ Some sent
  pub other : ChannelIdentity
  pub timestamp : ℕ
  pub mark : sent.mark ≡ Calling other number timestamp
  pub same : SameChannel other channel

pub call_at : (channel : ChannelIdentity) (number : ℕ) (sent : List Sent) (n : ℕ) → call_made channel number sent ≡ Some n → IsCallAt channel number sent n
call_at channel number sent n is =
    let at : PassesAt (is_call_of channel number) sent n = passes_at (is_call_of channel number) sent n is in
    let made : IsMadeAs channel number at.item.mark = calling_is at.item.mark channel number at.passes in
    record { sent = at.item; there = at.there; other = made.other; timestamp = made.timestamp; mark = made.is; same = made.same }

-- where the calls of a channel have different numbers, it is that one
pub call_is : (channel other : ChannelIdentity) (number timestamp : ℕ) (sent : List Sent) (n : ℕ) (one : Sent) → slice_get sent n ≡ Some one → one.mark ≡ Calling other number timestamp → SameChannel other channel →
    ((m later : ℕ) (another : Sent) (third : ChannelIdentity) → slice_get sent m ≡ Some another → another.mark ≡ Calling third number later → third.client ≡ channel.client → m ≡ n) →
    call_made channel number sent ≡ Some n
call_is channel other number timestamp sent n one there mark same alone =
    let found : HasPlace (is_call_of channel number) sent =
    has_place (is_call_of channel number) sent n one there
    (ap (λ (m : Mark). is_calling channel number m) mark ∙ is_calling_so channel other number timestamp same) in
    let at : IsCallAt channel number sent found.place = call_at channel number sent found.place found.is in
    found.is ∙ ap (λ (place : ℕ). Some place) (alone found.place at.timestamp at.sent at.other at.there at.mark at.same.client)
