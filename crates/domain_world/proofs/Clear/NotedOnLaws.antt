-- What holds once a unit came, of all that is written down by then: there is no clash still, and the unit that was sent
-- for it waits with its mark.
-- It serves `Proved.one_by_one`, and `a_run_is_clear` of claim_examples.
use Rattle.std.proofs.Common.{Option, ◌≡◌, ℕ, suc, ◌+◌, ◌-◌, ◌≤◌, Bool, true, false, List, [], ◌∷◌, ◌++◌, length, map, Some, inl, inr, refl, sym, ap, subst, ◌∙◌, arith, slice_get}
use Rattle.std.specs.Prelude.{drop, not}
use Rattle.std.specs.Option.{option_map}
use Rattle.std.proofs.lemmas.Bool.{cases_Bool}
use Rattle.std.proofs.lemmas.List.{drop_at, length-append, length-drop, length-map}
use Rattle.authenticators.specs.Channels.{ChannelIdentity}
use Rattle.channel_events.specs.Marks.{Mark}
use Rattle.wire_base.proofs.ListLaws.{got_append}
use Rattle.step_notes.specs.ChannelNames.{channel_marked}
use Rattle.step_notes.specs.Marking.{mark_channel, sent_channel}
use Rattle.step_notes.specs.Records.{Book, Sent}
use Rattle.world_moves.specs.declared.bag.BagUnit.{BagUnit}
use Rattle.world_moves.specs.declared.links.EndId.{EndId}
use Rattle.world_moves.specs.declared.moves.Move.TheVariants as move
use Rattle.world_moves.specs.declared.state.State.{State}
use Rattle.world_moves.specs.Bag.{first_waiting, is_waiting}
use Rattle.world_moves.specs.Moving.{onward, settle}
use Rattle.logon_runs.specs.Scenes.WaitingUnits.{waiting}
use Rattle.logon_runs.proofs.Scenes.WaitingLaws.{first_place, later_place, waits_first, waits_later}
use Rattle.domain_world.specs.Past.{is_sent_on, marks_by, marks_of, note, note_at, note_given, sent_at}
use Rattle.domain_world.proofs.Moves.MarkPlaceLaws.{got_later, marks_length, settled_length}
use Rattle.domain_world.proofs.Clear.NotedLaws.{Fine, Waits, Written, given_fine, grows, world_at}
use Rattle.domain_world.proofs.Completeness.UnitNotedLaws.{Came, coming, state_then}

-- ---- fine again

-- where that is written down of the unit
pub came_fine : (s : State) (unit : BagUnit) (later : List BagUnit) (end : EndId) (came : Came s unit later end) (k count : ℕ) (b now : Book) →
    note_at (Some end) (coming k came.number unit) unit.bytes (settle came.number s) (state_then end unit came.number s) b ≡ now →
    now.clash ≡ false → length now.judged ≤ count → length now.sent ≤ length (onward s).state.bag → Fine (onward s).state count (note (world_at k s) move.Onward b)
came_fine s unit later end came k count b now is apart few marked =
    subst (λ (one : Book). Fine (onward s).state count (note_given k (onward s).given (onward s).state one)) (sym (came.noted k b ∙ is))
    (given_fine k (onward s).given (onward s).state count now apart few marked)

-- where nothing more is sent than stands in the bag
sent_few : (before between after sent marks new : ℕ) → sent ≡ before → between ≡ before → new ≡ after - between → marks ≡ new → before ≤ after → sent + marks ≤ after
sent_few before between after sent marks new one two three four five = omega arith

pub written_few : (s : State) (unit : BagUnit) (later : List BagUnit) (end : EndId) (came : Came s unit later end) (k link : ℕ) (back : Bool) (count : ℕ) (marks : List Mark) (b now : Book) →
    length b.sent ≡ length s.bag → Written k link back (settle came.number s) (state_then end unit came.number s) count marks b now → length now.sent ≤ length (onward s).state.bag
written_few s unit later end came k link back count marks b now marked written =
    let s1 : State = settle came.number s in
    let new : List BagUnit = drop (length s1.bag) (state_then end unit came.number s).bag in
    let more : List Sent = map (sent_at k) (marks_of link back new marks) in
    let few : length b.sent + length more ≤ length (onward s).state.bag =
    sent_few (length s.bag) (length s1.bag) (length (onward s).state.bag) (length b.sent) (length more) (length new) marked (settled_length came.number s.bag)
    (length-drop (length s1.bag) (state_then end unit came.number s).bag ∙ ap (λ (t : State). length t.bag - length s1.bag) (sym came.state))
    (length-map (marks_of link back new marks) (sent_at k) ∙ marks_length link back new marks) (grows s move.Onward) in
    omega (arith, few, ap (λ (sent : List Sent). length sent) written.sent, length-append b.sent more)

-- ---- the unit that was sent waits

last_waits : (bag : List BagUnit) (unit : BagUnit) → waiting bag ≡ [] → unit.is_settled ≡ false → first_waiting (bag ++ unit ∷ []) ≡ Some (length bag)
last_waits [] unit none opened = first_place unit [] (ap not opened)
last_waits (first ∷ bag) unit none opened =
    elim (cases_Bool (is_waiting first)) [
      | inl waits ↦ absurd (let never : first ∷ waiting bag ≡ [] = sym (waits_first first bag waits) ∙ none in cc)
      | inr not_waiting ↦ later_place first (bag ++ unit ∷ []) not_waiting ∙ ap (option_map suc) (last_waits bag unit (sym (waits_later first bag not_waiting) ∙ none) opened)
    ]

marked_by : (link : ℕ) (back : Bool) (unit : BagUnit) (mark : Mark) → is_sent_on link back unit ≡ true → marks_of link back (unit ∷ []) (mark ∷ []) ≡ mark ∷ []
marked_by link back unit mark on = ap (λ (here : Bool). marks_by here (mark ∷ []) (λ (rest : List Mark). [])) on

pub onward_waits : (s : State) (unit : BagUnit) (end : EndId) (came : Came s unit [] end) (k link : ℕ) (back : Bool) (count : ℕ) (mark : Mark) (next : BagUnit) (b now : Book) →
    note_at (Some end) (coming k came.number unit) unit.bytes (settle came.number s) (state_then end unit came.number s) b ≡ now → length b.sent ≡ length s.bag →
    Written k link back (settle came.number s) (state_then end unit came.number s) count (mark ∷ []) b now →
    (state_then end unit came.number s).bag ≡ (settle came.number s).bag ++ next ∷ [] → next.is_settled ≡ false → is_sent_on link back next ≡ true →
    Waits (onward s).state (mark_channel mark) (note (world_at k s) move.Onward b)
onward_waits s unit end came k link back count mark next b now is marked written bag opened on =
    let s1 : State = settle came.number s in
    let new : List BagUnit = drop (length s1.bag) (state_then end unit came.number s).bag in
    let only : new ≡ next ∷ [] = ap (λ (all : List BagUnit). drop (length s1.bag) all) bag ∙ drop_at s1.bag (next ∷ []) (length s1.bag) refl in
    let marks : marks_of link back new (mark ∷ []) ≡ mark ∷ [] = ap (λ (units : List BagUnit). marks_of link back units (mark ∷ [])) only ∙ marked_by link back next mark on in
    let sent : now.sent ≡ b.sent ++ sent_at k mark ∷ [] = written.sent ∙ ap (λ (all : List Mark). b.sent ++ map (sent_at k) all) marks in
    let here : slice_get now.sent (length b.sent + 0) ≡ Some (sent_at k mark) =
    ap (λ (all : List Sent). slice_get all (length b.sent + 0)) sent ∙ got_later b.sent (sent_at k mark ∷ []) 0 (sent_at k mark) refl in
    let place : length b.sent + 0 ≡ length s1.bag = omega (arith, marked, settled_length came.number s.bag) in
    let noted : slice_get now.sent (length s1.bag) ≡ Some (sent_at k mark) = subst (λ (n : ℕ). slice_get now.sent n ≡ Some (sent_at k mark)) place here in
    subst (λ (one : Book). Waits (onward s).state (mark_channel mark) (note_given k (onward s).given (onward s).state one)) (sym (came.noted k b ∙ is)) (record {
      number = length s1.bag;
      first = ap (λ (t : State). first_waiting t.bag) came.state ∙ ap first_waiting bag ∙ last_waits s1.bag next came.behind opened;
      one = sent_at k mark;
      there = got_append now.sent _ (length s1.bag) (sent_at k mark) noted;
      made = refl;
    })

-- the unit that waits is the one that comes next
pub waits_marked : (s : State) (channel : Option ChannelIdentity) (b : Book) (number : ℕ) → Waits s channel b → first_waiting s.bag ≡ Some number → channel_marked (Some number) b.sent ≡ channel
waits_marked s channel b number waits first =
    let same : waits.number ≡ number = (let both : Some waits.number ≡ Some number = sym waits.first ∙ first in cc) in
    ap (λ (n : ℕ). sent_channel (slice_get b.sent n)) (sym same) ∙ ap sent_channel waits.there ∙ waits.made
