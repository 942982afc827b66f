-- Which new unit of the bag gets which mark: those that an end sends on a link before it closes any are the first of
-- the link, and get the marks in order. It serves `Proved.marked`, `Proved.ways`, `Proved.replies` and 4 more.
use Rattle.std.proofs.Common.{◌≡◌, ◌⊎◌, ℕ, zero, suc, ◌+◌, Bool, true, false, ◌==◌, ◌&&◌, List, [], ◌∷◌, ◌++◌, length, map, inl, inr, Option, Some, None, slice_get, slice_set, if◌then◌else◌, refl, ap, sym, subst, ◌∙◌, arith}
use Rattle.std.specs.Prelude.{◌≤◌, not, replicate}
use Rattle.std.specs.List.{AllByRecursion}
use Rattle.std.proofs.lemmas.Bool.{false_from_ne_true}
use Rattle.std.proofs.lemmas.Bool.Decides.{Decides-eqb}
use Rattle.std.proofs.lemmas.List.{append_assoc, append-nil, length-set}
use Rattle.outside.specs.declared.action.Action.{Action}
use Rattle.outside.specs.declared.action.Action.TheVariants.{Keep, Send, Dial, Close, Told, Judged}
use Rattle.channel_events.specs.Marks.{Mark, Plain}
use Rattle.step_notes.specs.ChannelNames.{sends_in}
use Rattle.world_moves.specs.declared.bag.BagUnit.{BagUnit}
use Rattle.world_moves.specs.declared.links.EndId.{EndId}
use Rattle.world_moves.specs.declared.links.Route.{Route}
use Rattle.world_moves.specs.declared.state.State.{State}
use Rattle.world_moves.specs.Acting.{link_closed, perform, perform_all, perform_by, perform_quietly, sent_if, unit_if, unit_on, units_of_action}
use Rattle.world_moves.specs.Bag.{settle_at, settle_by, settled}
use Rattle.world_moves.specs.Choosing.{places_from}
use Rattle.world_moves.specs.Links.{is_accepted_by, is_own, kind_of}
use Rattle.domain_world.specs.Past.{is_sent_on, marks_by, marks_of}
use Rattle.world_moves.proofs.LinkFrameLaws.{IsOnLink}

-- ---- lists

pub all_push : {T : Type 0} (P : T → Type 0) (items : List T) (last : T) → AllByRecursion P items → P last → AllByRecursion P (items ++ last ∷ [])
all_push P [] last all is = (is, tt)
all_push P (item ∷ items) last all is = (all.0, all_push P items last all.1 is)

-- an item of both stands in the first, or at a place of the second
pub record IsLater {T : Type 0} (items more : List T) (k : ℕ) (item : T) : Type 0 where
  pub place : ℕ
  pub is : k ≡ length items + place
  pub there : slice_get more place ≡ Some item

pub later_or : {T : Type 0} (items more : List T) (k : ℕ) (item : T) → slice_get (items ++ more) k ≡ Some item → (slice_get items k ≡ Some item) ⊎ IsLater items more k item
later_or [] more k item is = inr (record { place = k; is = omega arith; there = is })
later_or (first ∷ items) more zero item is = inl is
later_or (first ∷ items) more (suc k) item is =
    elim (later_or items more k item is) [ inl old ↦ inl old | inr new ↦ inr (record { place = new.place; is = omega (arith, new.is); there = new.there }) ]

pub got_later : {T : Type 0} (items more : List T) (place : ℕ) (item : T) → slice_get more place ≡ Some item → slice_get (items ++ more) (length items + place) ≡ Some item
got_later [] more place item is = subst (λ (k : ℕ). slice_get more k ≡ Some item) (let e : place ≡ 0 + place = omega arith in e) is
got_later (first ∷ items) more place item is =
    subst (λ (k : ℕ). slice_get (first ∷ (items ++ more)) k ≡ Some item) (let e : suc (length items + place) ≡ suc (length items) + place = omega arith in e)
    (got_later items more place item is)

-- where one list has an item, a list of that length has one
pub got_beside : {T U : Type 0} (items : List T) (others : List U) (k : ℕ) (item : T) → length items ≡ length others → slice_get items k ≡ Some item → (other : U) × (slice_get others k ≡ Some other)
got_beside [] others zero item same is = absurd cc
got_beside [] others (suc k) item same is = absurd cc
got_beside (first ∷ items) [] k item same is = absurd (omega (arith, same))
got_beside (first ∷ items) (other ∷ others) zero item same is = (other, refl)
got_beside (first ∷ items) (other ∷ others) (suc k) item same is = got_beside items others k item (omega (arith, same)) is

pub got_map : {T U : Type 0} (f : T → U) (items : List T) (k : ℕ) (made : U) → slice_get (map f items) k ≡ Some made → (item : T) × (slice_get items k ≡ Some item) × (f item ≡ made)
got_map f [] zero made is = absurd cc
got_map f [] (suc k) made is = absurd cc
got_map f (item ∷ items) zero made is = (item, refl, cc)
got_map f (item ∷ items) (suc k) made is = got_map f items k made is

pub got_replicate : {T : Type 0} (count : ℕ) (item : T) (k : ℕ) (other : T) → slice_get (replicate count item) k ≡ Some other → other ≡ item
got_replicate zero item zero other is = absurd cc
got_replicate zero item (suc k) other is = absurd cc
got_replicate (suc count) item zero other is = cc
got_replicate (suc count) item (suc k) other is = got_replicate count item k other is

-- a list that has an item wherever another has one is no shorter
pub no_longer : {T U : Type 0} (items : List T) (others : List U) → ((k : ℕ) (item : T) → slice_get items k ≡ Some item → (other : U) × (slice_get others k ≡ Some other)) → length items ≤ length others
no_longer [] others has = omega arith
no_longer (first ∷ items) [] has = absurd (let found : (other : _) × (None ≡ Some other) = has 0 first refl in let none : None ≡ Some found.0 = found.1 in cc)
no_longer (first ∷ items) (other ∷ others) has = omega (arith, no_longer items others (λ k item is. has (suc k) item is))

-- ---- a unit that is delivered or lost

abbrev pub SettledOr : BagUnit → Option BagUnit → Type 0
SettledOr unit now = (now ≡ Some unit) ⊎ (now ≡ Some (settled unit))

got_set : (bag : List BagUnit) (number k : ℕ) (here unit : BagUnit) → slice_get bag number ≡ Some here → slice_get bag k ≡ Some unit →
    SettledOr unit (slice_get (slice_set bag number (settled here)) k)
got_set [] number zero here unit is there = absurd cc
got_set [] number (suc k) here unit is there = absurd cc
got_set (first ∷ bag) zero zero here unit is there =
    let same : here ≡ unit = cc in inr (ap (λ (u : BagUnit). Some (settled u)) same)
got_set (first ∷ bag) zero (suc k) here unit is there = inl there
got_set (first ∷ bag) (suc number) zero here unit is there = inl there
got_set (first ∷ bag) (suc number) (suc k) here unit is there = got_set bag number k here unit is there

got_by : (found : Option BagUnit) (bag : List BagUnit) (number k : ℕ) (unit : BagUnit) → slice_get bag number ≡ found → slice_get bag k ≡ Some unit →
    SettledOr unit (slice_get (settle_by found number bag) k)
got_by None bag number k unit is there = inl there
got_by (Some here) bag number k unit is there = got_set bag number k here unit is there

pub got_settled : (bag : List BagUnit) (number k : ℕ) (unit : BagUnit) → slice_get bag k ≡ Some unit → SettledOr unit (slice_get (settle_at number bag) k)
got_settled bag number k unit there = got_by (slice_get bag number) bag number k unit refl there

length_by_found : (found : Option BagUnit) (number : ℕ) (bag : List BagUnit) → length (settle_by found number bag) ≡ length bag
length_by_found None number bag = refl
length_by_found (Some unit) number bag = length-set bag number (settled unit)

pub settled_length : (number : ℕ) (bag : List BagUnit) → length (settle_at number bag) ≡ length bag
settled_length number bag = length_by_found (slice_get bag number) number bag

-- ---- marks

-- a unit has one mark, whether or not it is on the link in that direction
length_by : (test : Bool) (marks : List Mark) (later : List Mark → List Mark) (count : ℕ) → ((rest : List Mark) → length (later rest) ≡ count) → length (marks_by test marks later) ≡ suc count
length_by false marks later count is = ap suc (is marks)
length_by true [] later count is = ap suc (is [])
length_by true (mark ∷ marks) later count is = ap suc (is marks)

-- one for each unit
pub marks_length : (link : ℕ) (back : Bool) (units : List BagUnit) (marks : List Mark) → length (marks_of link back units marks) ≡ length units
marks_length link back [] marks = refl
marks_length link back (unit ∷ units) marks =
    length_by (is_sent_on link back unit) marks (λ (rest : List Mark). marks_of link back units rest) (length units) (λ rest. marks_length link back units rest)

-- all marks are plain: there are none, or the unit isn't on the link
abbrev pub ArePlain : List Mark → Type 0
ArePlain marks = (k : ℕ) (mark : Mark) → slice_get marks k ≡ Some mark → mark ≡ Plain

plain_first : (marks : List Mark) → ArePlain marks → ArePlain (Plain ∷ marks)
plain_first marks plain zero mark is = cc
plain_first marks plain (suc k) mark is = plain k mark is

plain_by : (test : Bool) (later : List Mark → List Mark) → ArePlain (later []) → ArePlain (marks_by test [] later)
plain_by false later plain = plain_first (later []) plain
plain_by true later plain = plain_first (later []) plain

pub plain_of_none : (link : ℕ) (back : Bool) (units : List BagUnit) → ArePlain (marks_of link back units [])
plain_of_none link back [] zero mark is = absurd cc
plain_of_none link back [] (suc k) mark is = absurd cc
plain_of_none link back (unit ∷ units) k mark is =
    plain_by (is_sent_on link back unit) (λ (rest : List Mark). marks_of link back units rest) (plain_of_none link back units) k mark is

-- ---- units that are sent before any link is closed

-- nothing is closed, and what is sent is on that link
abbrev pub IsHere : ℕ → Action → Type 0
IsHere link (Keep bytes) = Unit {0}
IsHere link (Send other bytes) = other ≡ link
IsHere link (Dial peer) = Unit {0}
IsHere link (Close other cause) = ⊥
IsHere link (Told other outcome) = Unit {0}
IsHere link (Judged how) = Unit {0}

-- the unit that an action sends, on a link of that route
abbrev pub front_unit : Route → EndId → ℕ → Action → List BagUnit
front_unit route end link (Send other bytes) = unit_on route end link bytes ∷ []
front_unit route end link _ = []

abbrev pub front_units : Route → EndId → ℕ → List Action → List BagUnit
front_units route end link [] = []
front_units route end link (what ∷ actions) = front_unit route end link what ++ front_units route end link actions

-- what an action that `IsHere` allows sends, and that it closes nothing
here_does : (route : Route) (end : EndId) (link : ℕ) (what : Action) (s : State) → slice_get s.links link ≡ Some route → is_own (kind_of route) ≡ true → IsHere link what →
    (units_of_action s.links end what ≡ front_unit route end link what) × (link_closed what ≡ None)
here_does route end link (Keep bytes) s made own here = (refl, refl)
here_does route end link (Send other bytes) s made own here = (
  ap (λ (n : ℕ). sent_if (slice_get s.links n) end n bytes) here ∙ ap (λ (r : Option Route). sent_if r end link bytes) made
      ∙ ap (λ (goes : Bool). unit_if goes (unit_on route end link bytes)) own,
  refl,
)
here_does route end link (Dial peer) s made own here = (refl, refl)
here_does route end link (Close other cause) s made own here = absurd here
here_does route end link (Told other outcome) s made own here = (refl, refl)
here_does route end link (Judged how) s made own here = (refl, refl)

-- the units that actions on a link make go into the bag first
pub front_goes : (route : Route) (end : EndId) (link : ℕ) (actions : List Action) (s : State) → slice_get s.links link ≡ Some route → is_own (kind_of route) ≡ true →
    AllByRecursion (IsHere link) actions → (perform_all end actions s).state.bag ≡ s.bag ++ front_units route end link actions
front_goes route end link [] s made own here = sym (append-nil s.bag)
front_goes route end link (what ∷ actions) s made own here =
    let does = here_does route end link what s made own here.0 in
    ap (λ (closed : Option ℕ). (perform_all end actions (perform_by closed end what s).state).state.bag) does.1
    ∙ front_goes route end link actions (perform_quietly end what s) made own here.1
    ∙ ap (λ (units : List BagUnit). (s.bag ++ units) ++ front_units route end link actions) does.0
    ∙ append_assoc s.bag (front_unit route end link what) (front_units route end link actions)

pub all_append : (end : EndId) (front rest : List Action) (s : State) → (perform_all end (front ++ rest) s).state ≡ (perform_all end rest (perform_all end front s).state).state
all_append end [] rest s = refl
all_append end (what ∷ front) rest s = all_append end front rest (perform end what s).state

-- ---- the units that go into the bag get the marks in order

-- at a place among these marks, these bytes that are sent, and these units, of which the first has that number
pub record IsMarkedAt (link : ℕ) (back : Bool) (sends : List (List ℕ)) (marks : List Mark) (units : List BagUnit) (first place : ℕ) (unit : BagUnit) (mark : Mark) : Type 0 where
  pub marked : slice_get marks place ≡ Some mark
  pub sent : slice_get sends place ≡ Some unit.bytes
  pub numbered : slice_get (places_from (is_sent_on link back) first units) place ≡ Some (first + place)
  pub on : unit.link ≡ link
  pub way : unit.back ≡ back

itself : (n : ℕ) → (n == n) ≡ true
itself n = (Decides-eqb n n).1 refl

pub passes : (back : Bool) (link : ℕ) (unit : BagUnit) → unit.link ≡ link → unit.back ≡ back → is_sent_on link back unit ≡ true
passes true link unit on way = ap (λ (n : ℕ). (n == link) && unit.back) on ∙ ap (λ (b : Bool). b && unit.back) (itself link) ∙ way
passes false link unit on way = sym (ap (λ (n : ℕ). is_sent_on n false unit) on) ∙ ap (λ (b : Bool). b && not unit.back) (itself unit.link) ∙ ap not way

marked_first : (link : ℕ) (back : Bool) (bytes : List ℕ) (sends : List (List ℕ)) (mark : Mark) (marks : List Mark) (here unit : BagUnit) (units : List BagUnit) (first : ℕ) (found : Mark) →
    is_sent_on link back here ≡ true → here.bytes ≡ bytes → here.link ≡ link → here.back ≡ back → here ≡ unit → mark ≡ found →
    IsMarkedAt link back (bytes ∷ sends) (mark ∷ marks) (here ∷ units) first 0 unit found
marked_first link back bytes sends mark marks here unit units first found test of on way same is =
    subst (λ (u : BagUnit). IsMarkedAt link back (bytes ∷ sends) (mark ∷ marks) (here ∷ units) first 0 u found) same (record {
      marked = ap (λ (m : Mark). Some m) is;
      sent = ap (λ (b : List ℕ). Some b) (sym of);
      numbered = ap (λ (t : Bool). slice_get (if t then first ∷ places_from (is_sent_on link back) (first + 1) units else places_from (is_sent_on link back) (first + 1) units) 0) test
          ∙ ap (λ (n : ℕ). Some n) (let e : first ≡ first + 0 = omega arith in e);
      on = on;
      way = way;
    })

marked_later : (link : ℕ) (back : Bool) (bytes : List ℕ) (sends : List (List ℕ)) (mark : Mark) (marks : List Mark) (here unit : BagUnit) (units : List BagUnit) (first place : ℕ) (found : Mark) →
    is_sent_on link back here ≡ true → IsMarkedAt link back sends marks units (first + 1) place unit found →
    IsMarkedAt link back (bytes ∷ sends) (mark ∷ marks) (here ∷ units) first (suc place) unit found
marked_later link back bytes sends mark marks here unit units first place found test is = record {
  marked = is.marked;
  sent = is.sent;
  numbered = ap (λ (t : Bool). slice_get (if t then first ∷ places_from (is_sent_on link back) (first + 1) units else places_from (is_sent_on link back) (first + 1) units) (suc place)) test
      ∙ is.numbered ∙ ap (λ (n : ℕ). Some n) (let e : first + 1 + place ≡ first + suc place = omega arith in e);
  on = is.on;
  way = is.way;
}

pub front_marked : (route : Route) (end : EndId) (link : ℕ) (back : Bool) (actions : List Action) (later : List BagUnit) (marks : List Mark) (first place : ℕ) (unit : BagUnit) (mark : Mark) →
    is_accepted_by end route ≡ back → AllByRecursion (IsHere link) actions → length (sends_in actions) ≡ length marks →
    slice_get (front_units route end link actions ++ later) place ≡ Some unit →
    slice_get (marks_of link back (front_units route end link actions ++ later) marks) place ≡ Some mark →
    (mark ≡ Plain) ⊎ IsMarkedAt link back (sends_in actions) marks (front_units route end link actions ++ later) first place unit mark
front_marked route end link back [] later [] first place unit mark way here same there is = inl (plain_of_none link back later place mark is)
front_marked route end link back [] later (other ∷ marks) first place unit mark way here same there is = absurd (omega (arith, same))
front_marked route end link back (Keep bytes ∷ actions) later marks first place unit mark way here same there is = front_marked route end link back actions later marks first place unit mark way here.1 same there is
front_marked route end link back (Send other bytes ∷ actions) later [] first place unit mark way here same there is = absurd (omega (arith, same))
front_marked route end link back (Send other bytes ∷ actions) later (one ∷ marks) first zero unit mark way here same there is =
    let own : BagUnit = unit_on route end link bytes in
    let test : is_sent_on link back own ≡ true = passes back link own refl way in
    let found : Some one ≡ Some mark =
    sym (ap (λ (t : Bool). slice_get (marks_by t (one ∷ marks) (λ (rest : List Mark). marks_of link back (front_units route end link actions ++ later) rest)) 0) test) ∙ is in
    let same_unit : own ≡ unit = cc in
    let same_mark : one ≡ mark = cc in
    inr (marked_first link back bytes (sends_in actions) one marks own unit (front_units route end link actions ++ later) first mark test refl refl way same_unit same_mark)
front_marked route end link back (Send other bytes ∷ actions) later (one ∷ marks) first (suc place) unit mark way here same there is =
    let own : BagUnit = unit_on route end link bytes in
    let test : is_sent_on link back own ≡ true = passes back link own refl way in
    elim (front_marked route end link back actions later marks (first + 1) place unit mark way here.1 (omega (arith, same)) there
    (sym (ap (λ (t : Bool). slice_get (marks_by t (one ∷ marks) (λ (rest : List Mark). marks_of link back (front_units route end link actions ++ later) rest)) (suc place)) test) ∙ is)) [
      | inl plain ↦ inl plain
      | inr new ↦ inr (marked_later link back bytes (sends_in actions) one marks own unit (front_units route end link actions ++ later) first place mark test new)
    ]
front_marked route end link back (Dial peer ∷ actions) later marks first place unit mark way here same there is = front_marked route end link back actions later marks first place unit mark way here.1 same there is
front_marked route end link back (Close other cause ∷ actions) later marks first place unit mark way here same there is = absurd here.0
front_marked route end link back (Told other outcome ∷ actions) later marks first place unit mark way here same there is = front_marked route end link back actions later marks first place unit mark way here.1 same there is
front_marked route end link back (Judged how ∷ actions) later marks first place unit mark way here same there is = front_marked route end link back actions later marks first place unit mark way here.1 same there is

-- ---- no unit goes out on a stranger's link

plain_false : (test : Bool) (marks : List Mark) (later : List Mark → List Mark) → test ≡ false → ArePlain (later marks) → ArePlain (marks_by test marks later)
plain_false false marks later is plain = plain_first (later marks) plain
plain_false true marks later is plain = absurd cc

not_same : (n m : ℕ) → (n ≡ m → ⊥) → (n == m) ≡ false
not_same n m differ = false_from_ne_true (n == m) (λ is. differ ((Decides-eqb n m).0 is))

off : (back : Bool) (link : ℕ) (unit : BagUnit) → (unit.link == link) ≡ false → is_sent_on link back unit ≡ false
off true link unit is = ap (λ (b : Bool). b && unit.back) is
off false link unit is = ap (λ (b : Bool). b && not unit.back) is

pub strangers_plain : (links : List Route) (route : Route) (link : ℕ) (back : Bool) (units : List BagUnit) (marks : List Mark) → slice_get links link ≡ Some route →
    is_own (kind_of route) ≡ false → AllByRecursion (IsOnLink links) units → ArePlain (marks_of link back units marks)
strangers_plain links route link back [] marks made is on zero mark there = absurd cc
strangers_plain links route link back [] marks made is on (suc k) mark there = absurd cc
strangers_plain links route link back (unit ∷ units) marks made is on k mark there =
    plain_false (is_sent_on link back unit) marks (λ (rest : List Mark). marks_of link back units rest)
    (off back link unit (not_same unit.link link (λ same.
    let one : IsOnLink links unit = on.0 in
    let found : Some one.route ≡ Some route = sym one.made ∙ ap (λ (n : ℕ). slice_get links n) same ∙ made in
    let equal : one.route ≡ route = cc in
    let clash : false ≡ true = sym is ∙ ap (λ (r : Route). is_own (kind_of r)) (sym equal) ∙ one.own in cc)))
    (strangers_plain links route link back units marks made is on.1) k mark there
