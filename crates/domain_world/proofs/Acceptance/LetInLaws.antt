-- In every run a member lets somebody in only where it took a message on that link, and an answer for it.
-- It serves `Proved.let_in`.
use Rattle.std.proofs.Common.{◌≡◌, ℕ, zero, suc, ◌+◌, ◌==◌, Bool, true, false, List, [], ◌∷◌, ◌++◌, length, map, inl, inr, Option, Some, None, Result, Ok, Err, refl, sym, ap, subst, ◌∙◌, slice_get, arith}
use Rattle.std.specs.Prelude.{flat_map}
use Rattle.std.specs.List.{AllByRecursion}
use Rattle.std.proofs.lemmas.Bool.{eqb-true}
use Rattle.outside.specs.declared.action.Action.{Action}
use Rattle.outside.specs.declared.action.Outcome.{Outcome}
use Rattle.outside.specs.declared.action.StepRefused.{StepRefused}
use Rattle.outside.specs.declared.event.Event.TheVariants as event
use Rattle.logon_stubs.specs.declared.info.Verdict.TheVariants as verdict
use Rattle.end_links.specs.Links.{LinkState}
use Rattle.end_links.specs.Serving.{ServedUnit}
use Rattle.rpc_units.specs.declared.unit.Unit.{Unit as RpcUnit}
use Rattle.member_server.specs.Laws.{IsGranted, IsTold, heard_from, heard_if}
use Rattle.member_server.specs.Machine.{fresh_member, step_of, step_on}
use Rattle.member_server.specs.Outcomes.{outcome_of}
use Rattle.member_server.specs.State.{State as MemberState}
use Rattle.member_server.specs.declared.outcomes.Ending.TheVariants as ending
use Rattle.member_server.specs.declared.plan.MemberPlan.{MemberPlan}
use Rattle.member_server.specs.Turns.{AtTurn}
use Rattle.channel_turns.specs.declared.state.Dialling.{Dialling}
use Rattle.channel_turns.specs.declared.state.Dialling.TheVariants as dialling
use Rattle.member_server.specs.declared.state.Logon.{Logon}
use Rattle.member_server.specs.declared.state.Running.{Running}
use Rattle.channel_turns.specs.declared.state.TurnTalk.{TurnTalk}
use Rattle.member_server.proofs.KeptLaws.{lets_in_the_granted}
use Rattle.wire_base.specs.Lists.{OneOf}
use Rattle.wire_base.proofs.ListLaws.{one_weaker}
use Rattle.step_notes.specs.MemberNotes.{link_units, message_note, taken_link, turn_units, turn_units_by, turn_units_in, turn_units_on}
use Rattle.step_notes.specs.Records.{Book, InUnit, MessageTaken, OutcomeTold, Outside, Source, blank, unit_in, OfMember}
use Rattle.step_notes.specs.Served.{units_if_taken}
use Rattle.world_moves.specs.declared.links.EndId.{EndId}
use Rattle.world_moves.specs.declared.links.EndId.TheVariants.{Controller, Member, Client}
use Rattle.world_moves.specs.declared.links.Route.{Route}
use Rattle.world_moves.specs.declared.links.Route.TheVariants.{ToController}
use Rattle.world_moves.specs.declared.moves.Move.{Move}
use Rattle.world_moves.specs.declared.plan.Plan.{Plan}
use Rattle.world_moves.specs.declared.state.State.{State}
use Rattle.world_moves.specs.Acting.{Given, AfterHearing, given_by, heard_by}
use Rattle.world_moves.specs.Counting.{is_in}
use Rattle.world_moves.specs.Ends.{EndStep, actions_by, client_step, no_step}
use Rattle.world_moves.specs.Links.{acceptor_of}
use Rattle.world_moves.specs.Moving.{begun, with_link}
use Rattle.world_moves.specs.World.{World}
use Rattle.world_moves.specs.Plain.{IsPlainPlan, hear_plain as hear, plain_controller_step as controller_step, plain_member_step as member_step, plain_world}
use Rattle.domain_world.specs.Claims.LetIn.{IsLetInBy, LetsInWhoAsked}
use Rattle.domain_world.specs.Past.{Delivery, at_member, note_at, note_client, note_controller, note_member, note_messages, note_turns, numbers_on, past, told_by, told_in, Past, controller_asked}
use Rattle.step_notes.proofs.Members.KeptLogonLaws.{HasFor, IfDialled, IsFor, KeptIn, bytes_keep, each_found, kept_so, one_before}
use Rattle.step_notes.proofs.Members.TurnAnswerLaws.{HasAnswer, link_answers, none_whole}
use Rattle.step_notes.proofs.Members.UnservedLaws.{LinksIn, bytes_took, took_known}
use Rattle.domain_world.proofs.Acceptance.LetInStepLaws.{change_silent, changed_keeps, IfLetIn, IsAcceptedBy, IsDialledBy, LetInKeeps, KeepsIn, Meets, NotLate, OfLetIn, calm_meets, end_silent, given_append, given_so, hear_keeps, last_accepted, link_made, member_put, messages_so, nobody_so, others_tell, renewed_keeps, side_meets, step_told}
use Rattle.domain_world.proofs.Moves.ComingLaws.{CameFrom}
use Rattle.domain_world.proofs.Messages.MessageNoteLaws.{AreCarried, IsAnsweredFor, for_stable, let_in_stable, notes_grow, turns_answer}
use Rattle.domain_world.proofs.Frames.TurnFrameLaws.{turns_told}
use Rattle.domain_world.proofs.Frames.EndFrameLaws.{Ends, KeepsEndsBy, every_ends_after, ends_in}
use Rattle.domain_world.proofs.Moves.NoBytesLaws.{IsNoBytes}
use Rattle.domain_world.proofs.Frames.EveryStepLaws.{act_plain as hear_and_act, every_noted as noted_by}
use Rattle.domain_world.proofs.Frames.MoveKeepLaws.{every}
use Rattle.domain_world.proofs.Frames.EventLaws.{calm_no_bytes}
use Rattle.domain_world.proofs.Frames.GivenLaws.{told_cases}
use Rattle.outside.specs.declared.event.Event.{Event}

-- ---- bytes that come in no unit of the bag come on no link of a turn

abbrev pub IsCarried : Option ℕ → List Route → ℕ → Type 0
IsCarried None links link = (member : ℕ) → IsDialledBy links member link → ⊥
IsCarried (Some unit) links link = Unit {0}

carried_from : (source : Source) (s : State) (w : Delivery) (piece : List ℕ) → CameFrom source s w piece → IsCarried (unit_in source) s.links w.link
carried_from Outside s w piece came = λ member dialled. came member dialled.controller dialled.at
carried_from (InUnit number) s w piece came = tt

turn_none_by : (hit : Bool) (Own : ℕ → Type 0) (other : ℕ) (said : LinkState TurnTalk) (link : ℕ) (piece : List ℕ) (running : Running) (left : List (List ℕ)) → (other == link) ≡ hit →
    Own other → (Own link → ⊥) → turn_units_by hit said link piece running left ≡ []
turn_none_by false Own other said link piece running left is own none = refl
turn_none_by true Own other said link piece running left is own none = absurd (none (subst Own (eqb-true other link is) own))

turn_none_on : (Own : ℕ → Type 0) (how : Dialling) (link : ℕ) (piece : List ℕ) (running : Running) (left : List (List ℕ)) → IfDialled Own how → (Own link → ⊥) →
    turn_units_on how link piece running left ≡ []
turn_none_on Own dialling.Nothing link piece running left own none = refl
turn_none_on Own (dialling.Waits turn frames) link piece running left own none = refl
turn_none_on Own (dialling.On other said) link piece running left own none = turn_none_by (other == link) Own other said link piece running left refl own none

turn_none_in : (Fits : ℕ → Logon → Type 0) (Own : ℕ → Type 0) (r : Option Running) (link : ℕ) (piece : List ℕ) (left : List (List ℕ)) → KeptIn Fits Own r → (Own link → ⊥) →
    turn_units_in r link piece left ≡ []
turn_none_in Fits Own None link piece left kept none = refl
turn_none_in Fits Own (Some running) link piece left kept none = turn_none_on Own running.dialling link piece running left kept.1 none

pub none_if_taken : (answer : Result (List Action) StepRefused) → units_if_taken {U = ServedUnit AtTurn TurnTalk} answer [] ≡ []
none_if_taken (Ok actions) = refl
none_if_taken (Err why) = refl

carried : (unit : Option ℕ) (Fits : ℕ → Logon → Type 0) (links : List Route) (member : ℕ) (m : MemberState) (link : ℕ) (piece : List ℕ) (now : ℕ) (left : List (List ℕ)) →
    IsCarried unit links link → KeptIn Fits (λ number. IsDialledBy links member number) m.running → AreCarried unit (turn_units m link piece now left)
carried (Some unit) Fits links member m link piece now left is kept = tt
carried None Fits links member m link piece now left is kept =
    ap (λ (units : List (ServedUnit AtTurn TurnTalk)). units_if_taken (step_of m (event.Bytes link piece) now left).answer units)
    (turn_none_in Fits (λ number. IsDialledBy links member number) m.running link piece left kept (is member))
    ∙ none_if_taken (step_of m (event.Bytes link piece) now left).answer

-- ---- who is let in by a message that is written down

abbrev pub IsLetIn : List MessageTaken → OutcomeTold → Type 0
IsLetIn messages told = OneOf (λ (message : MessageTaken). IsLetInBy told message) messages

abbrev pub IsKnown : ℕ → List MessageTaken → ℕ → ℕ → Outcome → Type 0
IsKnown at messages member link how = IsLetIn messages (record { at = at; member = member; link = link; outcome = how })

-- ---- a member hears bytes

-- the late fact of a move at which bytes come on that link: the member accepted it. So it isn't that of the turn
abbrev pub IsLate : ℕ → List Route → ℕ → Type 0
IsLate link links member = IsAcceptedBy links member link

not_both : (links : List Route) (member link : ℕ) → IsAcceptedBy links member link → IsDialledBy links member link → ⊥
not_both links member link accepted dialled =
    let both : Some accepted.route ≡ Some (ToController member dialled.controller) = sym accepted.at ∙ dialled.at in
    let route : accepted.route ≡ ToController member dialled.controller = cc in
    absurd (let never : Member member ≡ Controller dialled.controller = sym accepted.acceptor ∙ ap acceptor_of route in cc)

-- a whole unit comes on the link of the turn alone
heard_by_turn : (Own : ℕ → Type 0) (hit : Bool) (other link : ℕ) (said : LinkState TurnTalk) (piece : List ℕ) (earlier : List RpcUnit) (unit : RpcUnit) (later : List RpcUnit) →
    (other == link) ≡ hit → heard_if hit said piece ≡ earlier ++ unit ∷ later → Own other → Own link
heard_by_turn Own false other link said piece earlier unit later is hears own = absurd (none_whole earlier unit later hears)
heard_by_turn Own true other link said piece earlier unit later is hears own = subst Own (eqb-true other link is) own

heard_on : (Own : ℕ → Type 0) (how : Dialling) (link : ℕ) (piece : List ℕ) (earlier : List RpcUnit) (unit : RpcUnit) (later : List RpcUnit) →
    heard_from link piece how ≡ earlier ++ unit ∷ later → IfDialled Own how → Own link
heard_on Own dialling.Nothing link piece earlier unit later hears own = absurd (none_whole earlier unit later hears)
heard_on Own (dialling.Waits turn frames) link piece earlier unit later hears own = absurd (none_whole earlier unit later hears)
heard_on Own (dialling.On other said) link piece earlier unit later hears own = heard_by_turn Own (other == link) other link said piece earlier unit later refl hears own

module _ (at member : ℕ) (links : List Route) (messages : List MessageTaken) (link : ℕ) (piece : List ℕ) (running : Running) (left : List (List ℕ))
    (kept : KeptIn (HasFor (IsLate link links member) at member messages) (λ number. IsDialledBy links member number) (Some running)) (controller : ℕ) (numbers : List ℕ) (b : Book)
    (grown : (place : ℕ) (logon : Logon) → HasFor (IsLate link links member) at member messages place logon → HasFor (IsLate link links member) at member b.messages place logon) where
  has_answer : (on : ℕ) (how : Outcome) (granted : IsGranted running (event.Bytes link piece) on how) →
      HasAnswer controller granted.place granted.logon (turn_units_on running.dialling link piece running left)
  has_answer on how granted =
      link_answers controller granted.place granted.logon (verdict.Granted granted.info) granted.unit granted.later running.dialling granted.earlier link piece running left granted.hears
      granted.takes granted.kept

  own_link : (on : ℕ) (how : Outcome) → IsGranted running (event.Bytes link piece) on how → IsDialledBy links member link
  own_link on how granted =
      heard_on (λ number. IsDialledBy links member number) running.dialling link piece granted.earlier granted.unit granted.later granted.hears kept.1

  -- a grant was taken in a unit of the bag
  grant_known : (unit : Option ℕ) → IsCarried unit links link → (on : ℕ) (how : Outcome) → IsGranted running (event.Bytes link piece) on how →
      IsKnown at (note_turns controller (turn_units_on running.dialling link piece running left) unit numbers b).messages member on how
  grant_known None is on how granted = absurd (is member (own_link on how granted))
  grant_known (Some unit) is on how granted =
      let units : List (ServedUnit AtTurn TurnTalk) = turn_units_on running.dialling link piece running left in
      let one : HasFor (IsLate link links member) at member messages granted.place granted.logon =
      each_found (HasFor (IsLate link links member) at member messages) granted.place running.logons.asked granted.logon granted.kept kept.0 in
      one_weaker (IsAnsweredFor (IsLate link links member) at member granted.place granted.logon) (IsLetInBy (record { at = at; member = member; link = on; outcome = how }))
      (note_turns controller units (Some unit) numbers b).messages
      (λ message answered. record {
        link = answered.is_for.link ∙ sym granted.number;
        member = answered.is_for.same_member;
        before = elim answered.is_for.before [ inl lt ↦ lt | inr late ↦ absurd (not_both links member link late.0 (own_link on how granted)) ];
        unit = answered.unit;
        reply = answered.reply;
        info = granted.info;
        outcome = granted.is ∙ ap (λ (logon : Logon). outcome_of (ending.Granted granted.info) logon) (sym answered.is_for.same_logon);
      })
      (turns_answer (IsLate link links member) at member granted.place granted.logon controller units unit numbers b (has_answer on how granted) (grown granted.place granted.logon one))

  told_known : (answer : Result (List Action) StepRefused) (unit : Option ℕ) → IsCarried unit links link → AllByRecursion (IsTold running (event.Bytes link piece)) (actions_by answer) →
      OfLetIn (IsKnown at (note_turns controller (units_if_taken answer (turn_units_on running.dialling link piece running left)) unit numbers b).messages)
      (given_by (Member member) (actions_by answer))
  told_known (Err why) unit is told = tt
  told_known (Ok actions) unit is told =
      step_told (IsKnown at (note_turns controller (turn_units_on running.dialling link piece running left) unit numbers b).messages) member running (event.Bytes link piece)
      (grant_known unit is) (Ok actions) told

running_known : (r : Option Running) (at member : ℕ) (links : List Route) (messages : List MessageTaken) (link : ℕ) (piece : List ℕ) (m : MemberState) (now : ℕ)
    (left : List (List ℕ)) (controller : ℕ) (numbers : List ℕ) (b : Book) (unit : Option ℕ) → m.running ≡ r → IsCarried unit links link →
    ((place : ℕ) (logon : Logon) → HasFor (IsLate link links member) at member messages place logon → HasFor (IsLate link links member) at member b.messages place logon) →
    KeptIn (HasFor (IsLate link links member) at member messages) (λ number. IsDialledBy links member number) r →
    OfLetIn (IsKnown at (note_turns controller (turn_units m link piece now left) unit numbers b).messages)
    (given_by (Member member) (actions_by (step_of m (event.Bytes link piece) now left).answer))
running_known None at member links messages link piece m now left controller numbers b unit is carries grown kept =
    subst (λ (r : Option Running).
    OfLetIn (IsKnown at (note_turns controller (units_if_taken (step_on r m (event.Bytes link piece) now left).answer (turn_units_in r link piece left)) unit numbers b).messages)
    (given_by (Member member) (actions_by (step_on r m (event.Bytes link piece) now left).answer))) (sym is) tt
running_known (Some running) at member links messages link piece m now left controller numbers b unit is carries grown kept =
    subst (λ (r : Option Running).
    OfLetIn (IsKnown at (note_turns controller (units_if_taken (step_on r m (event.Bytes link piece) now left).answer (turn_units_in r link piece left)) unit numbers b).messages)
    (given_by (Member member) (actions_by (step_on r m (event.Bytes link piece) now left).answer))) (sym is)
    (told_known at member links messages link piece running left kept controller numbers b grown (step_on (Some running) m (event.Bytes link piece) now left).answer unit carries
    (subst (λ (r : Option Running). AllByRecursion (IsTold running (event.Bytes link piece)) (actions_by (step_on r m (event.Bytes link piece) now left).answer)) is
    (lets_in_the_granted.told m running (event.Bytes link piece) now left is)))

-- ---- what holds between steps

-- who is let in is let in by a message
abbrev pub AreKnown : List MessageTaken → List OutcomeTold → Type 0
AreKnown messages all = AllByRecursion (λ (told : OutcomeTold). is_in told.outcome ≡ true → IsLetIn messages told) all

-- the late fact of a move: of the link on which bytes come
abbrev pub Late : Option Delivery → List Route → ℕ → Type 0
Late None links member = ⊥
Late (Some w) links member = IsLate w.link links member

-- The logons that members keep are those of messages, and who is let in is let in by a message, before this move and in
-- it.
pub record IsKept (at : ℕ) (on : Option Delivery) (ends : Ends) (given : Given) (b : Book) : Type 0 where
  pub keeps : LetInKeeps (Late on) at b.messages ends.ends.members ends.links
  pub known : AreKnown b.messages b.told
  pub let_in : OfLetIn (IsKnown at b.messages) given

known_so : (messages more : List MessageTaken) → ((told : OutcomeTold) → IsLetIn messages told → IsLetIn more told) → (all : List OutcomeTold) → AreKnown messages all → AreKnown more all
known_so messages more so [] known = tt
known_so messages more so (told ∷ all) known = (λ is. so told (known.0 is), known_so messages more so all known.1)

known_append : (messages : List MessageTaken) (all later : List OutcomeTold) → AreKnown messages all → AreKnown messages later → AreKnown messages (all ++ later)
known_append messages [] later known more = more
known_append messages (told ∷ all) later known more = (known.0, known_append messages all later known.1 more)

one_known : (messages : List MessageTaken) (at : ℕ) (end : EndId) (what : Action) (later : List OutcomeTold) → IfLetIn (IsKnown at messages) end what → AreKnown messages later →
    AreKnown messages (told_by end what at ++ later)
one_known messages at end what later known more =
    told_cases (λ (told : ℕ → List OutcomeTold). AreKnown messages (told at ++ later)) end what more (λ member link how same tells. (λ is. known member link how same tells is, more))

given_known : (messages : List MessageTaken) (at : ℕ) (given : Given) → OfLetIn (IsKnown at messages) given → AreKnown messages (told_in given at)
given_known messages at [] all = tt
given_known messages at (one ∷ given) all = one_known messages at one.0 one.1 (told_in given at) all.0 (given_known messages at given all.1)

later_for : (X Y : Type 0) (most member place : ℕ) (logon : Logon) (message : MessageTaken) → IsFor X most member place logon message → IsFor Y (most + 1) member place logon message
later_for X Y most member place logon message is = record {
  same_member = is.same_member;
  same_place = is.same_place;
  same_logon = is.same_logon;
  link = is.link;
  before = inl (elim is.before [ inl lt ↦ omega (arith, lt) | inr late ↦ omega (arith, late.1) ]);
}

-- the move is over: nothing of it is late in the next one
later_keeps : (X Y : List Route → ℕ → Type 0) (at : ℕ) (messages : List MessageTaken) (members : List MemberState) (links : List Route) → LetInKeeps X at messages members links →
    LetInKeeps Y (at + 1) messages members links
later_keeps X Y at messages members links kept =
    messages_so X Y at (at + 1) messages messages members links
    (λ k place logon one. one_weaker (IsFor (X links k) at k place logon) (IsFor (Y links k) (at + 1) k place logon) messages (later_for (X links k) (Y links k) at k place logon) one) kept

-- an end has heard what is no bytes
calm_goes : (at : ℕ) (on : Option Delivery) (end : EndId) (what : Event) (s : State) (given : Given) (b : Book) → IsNoBytes what → Meets end s.links what →
    IsKept at on (ends_in s) given b → IsKept at on (ends_in (hear end what s).state) (given ++ given_by end (hear end what s).actions) b
calm_goes at on end what s given b none meets kept = record {
  keeps = hear_keeps (Late on) at b.messages end what s meets kept.keeps;
  known = kept.known;
  let_in = given_append (IsKnown at b.messages) given (given_by end (hear end what s).actions) kept.let_in
      (nobody_so (IsKnown at b.messages) (given_by end (hear end what s).actions) (end_silent end what s none));
}

-- an end has heard bytes
heard_goes : (w : Delivery) (b later : Book) (s : State) (given : Given) (end : EndId) (heard : AfterHearing) → IsKept w.at (Some w) (ends_in s) given b →
    KeepsIn (IsLate w.link) w.at later.messages heard.state → OfLetIn (IsKnown w.at later.messages) (given_by end heard.actions) →
    ((told : OutcomeTold) → IsLetIn b.messages told → IsLetIn later.messages told) → later.told ≡ b.told →
    IsKept w.at (Some w) (ends_in heard.state) (given ++ given_by end heard.actions) later
heard_goes w b later s given end heard old kept known grows told = record {
  keeps = kept;
  known = subst (λ (all : List OutcomeTold). AreKnown later.messages all) (sym told) (known_so b.messages later.messages grows b.told old.known);
  let_in = given_append (IsKnown w.at later.messages) given (given_by end heard.actions)
      (given_so (IsKnown w.at b.messages) (IsKnown w.at later.messages)
      (λ member on how is. grows (record { at = w.at; member = member; link = on; outcome = how }) is) given old.let_in) known;
}

member_goes : (m : MemberState) (member : ℕ) (w : Delivery) (piece : List ℕ) (s after : State) (given : Given) (b : Book) → slice_get s.ends.members member ≡ Some m →
    IsCarried (unit_in w.source) s.links w.link → IsKept w.at (Some w) (ends_in s) given b →
    let heard : AfterHearing = heard_by (member_step (Some m) member (event.Bytes w.link piece) s.moment s.ends s.chances) s in
    IsKept w.at (Some w) (ends_in heard.state) (given ++ given_by (Member member) heard.actions) (note_member (Some m) member w piece s after b)
member_goes m member w piece s after given b is carries kept =
    let new : MemberState = (step_of m (event.Bytes w.link piece) s.moment s.chances.left).state in
    let units : List (ServedUnit AtTurn TurnTalk) = turn_units m w.link piece s.moment s.chances.left in
    let first : Book = note_messages member m w piece s b in
    let later : Book = note_member (Some m) member w piece s after b in
    let controller : ℕ = controller_asked (OfMember member) s in
    let numbers : List ℕ = numbers_on w.link false s.bag after.bag in
    let more : List MessageTaken = flat_map (message_note (at_member member w s)) (link_units m w.link piece s.moment s.chances.left) in
    let late : ℕ → Type 0 = λ k. IsLate w.link s.links k in
    let own : ℕ → Type 0 = λ number. IsDialledBy s.links member number in
    let mine : KeptIn (HasFor (late member) w.at member b.messages) own m.running = kept.keeps.each member m is in
    let accepted : LinksIn (λ number p. IsAcceptedBy s.links member number) m.running = kept.keeps.accepts member m is in
    let all : AreCarried (unit_in w.source) units = carried (unit_in w.source) (HasFor (late member) w.at member b.messages) s.links member m w.link piece s.moment s.chances.left carries mine in
    let noted : (k place : ℕ) (logon : Logon) → HasFor (late k) w.at k b.messages place logon → HasFor (late k) w.at k first.messages place logon = λ k place logon one.
    one_before (IsFor (late k) w.at k place logon) b.messages more one in
    let grown : (k place : ℕ) (logon : Logon) → HasFor (late k) w.at k first.messages place logon → HasFor (late k) w.at k later.messages place logon = λ k place logon one.
    notes_grow (IsFor (late k) w.at k place logon) (for_stable (late k) w.at k place logon) controller units (unit_in w.source) numbers first all one in
    let stepped : KeptIn (HasFor (late member) w.at member later.messages) own new.running =
    kept_so (HasFor (late member) w.at member first.messages) (HasFor (late member) w.at member later.messages) own own (grown member) (λ number dialled. dialled) new.running
    (bytes_keep (λ number. IsAcceptedBy s.links member number) own (at_member member w s) m piece s.moment s.chances.left b.messages accepted mine) in
    heard_goes w b later s given (Member member) (heard_by (member_step (Some m) member (event.Bytes w.link piece) s.moment s.ends s.chances) s) kept
    (member_put (IsLate w.link) w.at later.messages s.ends.members s.links member new
    (messages_so (IsLate w.link) (IsLate w.link) w.at w.at b.messages later.messages s.ends.members s.links (λ k place logon one. grown k place logon (noted k place logon one)) kept.keeps)
    stepped
    (took_known (λ number. IsAcceptedBy s.links member number) (flat_map (taken_link (at_member member w s)) (link_units m w.link piece s.moment s.chances.left)) new.running
    (bytes_took (λ number. IsAcceptedBy s.links member number) (at_member member w s) m piece s.moment s.chances.left accepted)))
    (running_known m.running w.at member s.links b.messages w.link piece m s.moment s.chances.left controller numbers first (unit_in w.source) refl carries (noted member) mine)
    (λ told known.
    notes_grow (IsLetInBy told) (let_in_stable told) controller units (unit_in w.source) numbers first all (one_before (IsLetInBy told) b.messages more known))
    (turns_told (OfMember member) w units s after first)

end_goes : (end : EndId) (w : Delivery) (piece : List ℕ) (s after : State) (given : Given) (b : Book) → IsCarried (unit_in w.source) s.links w.link → IsKept w.at (Some w) (ends_in s) given b →
    let heard : AfterHearing = hear end (event.Bytes w.link piece) s in IsKept w.at (Some w) (ends_in heard.state) (given ++ given_by end heard.actions) (note_at (Some end) w piece s after b)
end_goes end w piece s after given b carries kept =
    noted_by (λ (one : EndId) (step : EndStep) (now : Book). IsKept w.at (Some w) (ends_in (heard_by step s).state) (given ++ given_by one step.actions) now) w piece s after b
    (λ one. heard_goes w b b s given one (heard_by (no_step s.ends s.chances) s) kept kept.keeps tt (λ told known. known) refl)
    (λ k c is.
    heard_goes w b (note_controller (Some c) k w piece s after b) s given (Controller k)
    (heard_by (controller_step (Some c) k (event.Bytes w.link piece) s.moment s.ends s.chances) s) kept kept.keeps
    (others_tell (IsKnown w.at b.messages) (Controller k) refl _) (λ told known. known) refl)
    (λ k m is. member_goes m k w piece s after given b is carries kept)
    (λ k c is.
    heard_goes w b (note_client (Some c) k w piece s b) s given (Client k) (heard_by (client_step (Some c) k (event.Bytes w.link piece) s.moment s.ends s.chances) s) kept kept.keeps
    (others_tell (IsKnown w.at b.messages) (Client k) refl _) (λ told known. known) refl) end

-- ---- a run

pub kept_on : KeepsEndsBy every IsKept
kept_on = record {
  calm = λ at on end what s given b calm kept. calm_goes at on end what s given b (calm_no_bytes what calm) (calm_meets end s.links what calm) kept;
  dialled = λ at end link s given b side kept. calm_goes at None end (event.Dialled link) s given b tt (side_meets end s.links link side) kept;
  opens = λ at route s given b kept. record {
    keeps = hear_keeps NotLate at b.messages (acceptor_of route) (event.Opened (length s.links)) (with_link route s) (last_accepted (acceptor_of route) route s.links refl)
        (link_made at b.messages s.ends.members s.links route kept.keeps);
    known = kept.known;
    let_in = given_append (IsKnown at b.messages) given _ kept.let_in
        (nobody_so (IsKnown at b.messages) _ (end_silent (acceptor_of route) (event.Opened (length s.links)) (with_link route s) tt));
  };
  begins = λ at client plan s b is kept. record { keeps = kept.keeps; known = kept.known; let_in = others_tell (IsKnown at b.messages) (Client client) refl (begun client plan s).actions };
  comes = λ end w piece s given b side came kept. end_goes end w piece s (hear_and_act end (event.Bytes w.link piece) s).state given b (carried_from w.source s w piece came) kept;
  renews = λ at end s b kept. record { keeps = renewed_keeps NotLate at b.messages end s kept.keeps; known = kept.known; let_in = kept.let_in };
  changes = λ at member secret s b kept.
      record { keeps = changed_keeps NotLate at b.messages member secret s kept.keeps; known = kept.known; let_in = change_silent (IsKnown at b.messages) member secret s };
  over = λ at on next s given b kept. record {
    keeps = later_keeps (Late on) (Late next) at b.messages s.ends.members s.links kept.keeps;
    known = known_append b.messages b.told (told_in given at) kept.known (given_known b.messages at given kept.let_in);
    let_in = tt;
  };
}

pub record HoldsOf (w : World) (b : Book) : Type 0 where
  pub keeps : KeepsIn NotLate w.moves b.messages w.state
  pub known : AreKnown b.messages b.told

fresh_kept : (plans : List MemberPlan) (Kept : Option Running → Type 0) → ((plan : MemberPlan) → Kept (fresh_member plan).running) → (k : ℕ) (m : MemberState) →
    slice_get (map fresh_member plans) k ≡ Some m → Kept m.running
fresh_kept [] Kept fresh k m there = absurd cc
fresh_kept (plan ∷ plans) Kept fresh zero m there = let is : fresh_member plan ≡ m = cc in subst (λ (x : MemberState). Kept x.running) is (fresh plan)
fresh_kept (plan ∷ plans) Kept fresh (suc k) m there = fresh_kept plans Kept fresh k m there

pub first_kept : (plan : Plan) (on : Option Delivery) → IsKept 0 on (ends_in (plain_world plan).state) [] blank
first_kept plan on = record {
  keeps = record {
    each = λ k m there. fresh_kept plan.members (λ r. KeptIn (HasFor (Late on [] k) 0 k []) (λ number. IsDialledBy [] k number) r) (λ one. (tt, tt)) k m there;
    accepts = λ k m there. fresh_kept plan.members (λ r. LinksIn (λ number p. IsAcceptedBy [] k number) r) (λ one. tt) k m there;
  };
  known = tt;
  let_in = tt;
}

pub run_holds : (plan : Plan) (moves : List Move) → IsPlainPlan plan → HoldsOf (past plan moves).world (past plan moves).book
run_holds plan moves nothing =
    let p : Past = past plan moves in
    let kept : IsKept p.world.moves None (ends_in p.world.state) [] p.book = every_ends_after IsKept kept_on plan moves nothing (first_kept plan) in
    record { keeps = kept.keeps; known = kept.known }

-- in every run a member lets in only who asked
pub lets_in_who_asked : (plan : Plan) (moves : List Move) → IsPlainPlan plan → LetsInWhoAsked (past plan moves)
lets_in_who_asked plan moves nothing = (run_holds plan moves nothing).known
