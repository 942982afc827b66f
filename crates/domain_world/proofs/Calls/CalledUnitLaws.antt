-- In every run the unit of the bag that a message's call names is the call of its logon, whole, and is read back as it
-- was written. It rests on `CallSide`, which others carry through each step. It serves `messages_are_called`.
use Rattle.std.proofs.Common.{◌≡◌, ◌⊎◌, ℕ, ◌+◌, ◌==◌, Bool, true, false, List, [], ◌∷◌, ◌++◌, drop, length, append_assoc, inl, inr, Option, Some, None, Result, Ok, Err, refl, sym, ap, ap₂, subst, ◌∙◌, slice_get, length-append, if◌then◌else◌}
use Rattle.std.specs.Prelude.{flat_map}
use Rattle.std.specs.List.{AllByRecursion}
use Rattle.std.proofs.lemmas.Bool.{eqb-true}
use Rattle.std.proofs.lemmas.List.{drop_at}
use Rattle.wire_base.specs.Maps.{lookup, same_number}
use Rattle.outside.specs.declared.action.Action.{Action}
use Rattle.outside.specs.declared.action.Action.TheVariants as action
use Rattle.outside.specs.declared.action.StepRefused.{StepRefused}
use Rattle.outside.specs.declared.event.Event.TheVariants as event
use Rattle.rpc_units.specs.declared.unit.Unit.{Unit as RpcUnit}
use Rattle.rpc_units.specs.Calls.{IsHeard}
use Rattle.logon_stubs.specs.Calls.{call_of, opnum_of_call}
use Rattle.logon_stubs.specs.Writing.{written_call}
use Rattle.logon_stubs.specs.declared.calls.Call.TheVariants as call
use Rattle.logon_stubs.specs.declared.calls.LogonCall.{LogonCall}
use Rattle.end_links.specs.Links.{LinkState}
use Rattle.end_links.specs.Sending.{request_of}
use Rattle.end_links.specs.Serving.{ServedUnit}
use Rattle.channel_client.specs.Whole.{InRangeRequester}
use Rattle.member_server.specs.declared.state.AtLink.{AtLink}
use Rattle.member_server.specs.Turns.{AtTurn}
use Rattle.channel_turns.specs.declared.state.Dialling.{Dialling}
use Rattle.channel_turns.specs.declared.state.Dialling.TheVariants as dialling
use Rattle.member_server.specs.declared.state.Logon.{Logon}
use Rattle.member_server.specs.declared.state.Logons.{Logons}
use Rattle.member_server.specs.declared.state.Phase.{Phase}
use Rattle.member_server.specs.declared.state.Phase.TheVariants as phase
use Rattle.member_server.specs.declared.state.Running.{Running}
use Rattle.member_server.specs.declared.state.Talk.{Talk}
use Rattle.channel_turns.specs.declared.state.TurnTalk.{TurnTalk}
use Rattle.member_server.specs.Laws.{is_dialled}
use Rattle.member_server.specs.Machine.{step_of}
use Rattle.member_server.specs.State.{State as MemberState}
use Rattle.wire_base.specs.Lists.{OneOf}
use Rattle.step_notes.specs.CallLogons.{AreFirst, AsksForKept, IsFirstBy, info_at}
use Rattle.step_notes.specs.MemberNotes.{LinkAt, TurnNote, is_challenged, link_of_logon, link_of_place, link_units, message_after, message_at, message_by, message_kept, message_note, turn_note, turn_units, turn_units_by, turn_units_in, turn_units_on}
use Rattle.step_notes.specs.Records.{Book, MessageTaken, unit_in, OfMember}
use Rattle.step_notes.specs.Served.{talk_after, units_if_taken, work_after}
use Rattle.world_moves.specs.declared.bag.BagUnit.{BagUnit}
use Rattle.world_moves.specs.declared.links.EndId.{EndId}
use Rattle.world_moves.specs.declared.links.EndId.TheVariants.{Member}
use Rattle.world_moves.specs.declared.links.Route.{Route}
use Rattle.world_moves.specs.declared.links.Route.TheVariants.{ToController}
use Rattle.world_moves.specs.declared.state.State.{State}
use Rattle.world_moves.specs.Acting.{Given, AfterHearing, done, heard_by, perform_all, perform_quietly, unit_on}
use Rattle.world_moves.specs.Choosing.{places_from}
use Rattle.world_moves.specs.Ends.{EndStep, actions_by}
use Rattle.world_moves.specs.Links.{is_accepted_by, is_own, kind_of}
use Rattle.world_moves.specs.Alone.{hear_alone}
use Rattle.domain_world.specs.Claims.{info_asked}
use Rattle.domain_world.specs.Past.{Delivery, at_member, change_if, change_message, first_of, is_sent_on, later_of, note_client, note_member, note_messages, note_turn, note_turns, numbers_on, with_answer, with_call, controller_asked}
use Rattle.wire_base.proofs.ListLaws.{all_weaker, got_append, got_last, no_some, one_weaker, some_is}
use Rattle.step_notes.proofs.Members.KeptLogonLaws.{IfDialled, OfEach, each_found, each_so}
use Rattle.step_notes.proofs.Members.RequestOrderLaws.{requests_first}
use Rattle.world_moves.proofs.LinkFrameLaws.{actions_stay}
use Rattle.world_moves.proofs.QuietLaws.{sent_goes}
use Rattle.world_moves.specs.Plain.{plain_member_step as member_step}
use Rattle.domain_world.proofs.Frames.AloneNoteLaws.{note_alone as note_at, note_controller_alone as note_controller}
use Rattle.domain_world.proofs.Frames.AloneStepLaws.{act_alone as hear_and_act}
use Rattle.domain_world.proofs.Acceptance.LetInLaws.{none_if_taken}
use Rattle.domain_world.proofs.Acceptance.LetInStepLaws.{IsDialledBy}
use Rattle.domain_world.proofs.Frames.BagStepLaws.{BagKeeps, BookFact}
use Rattle.domain_world.proofs.Moves.ComingLaws.{IsStill, StillHas, StillIn, kept_same, kept_sent}
use Rattle.domain_world.proofs.Frames.FrameLaws.{HoldsIn}
use Rattle.domain_world.proofs.Moves.MarkPlaceLaws.{passes}
use Rattle.domain_world.proofs.Moves.OpenMadeLaws.{IsMore, MoreOf, goes_on, no_more}
use Rattle.domain_world.proofs.Frames.StepFrameLaws.{RunFact}
use Rattle.domain_world.proofs.Messages.CallMessageLaws.{bytes_are, last_is}
use Rattle.domain_world.proofs.Calls.CallWholeLaws.{IsCallOut, IsLogonSent, IsReadyUnit, OutBy, ReadyIn, ReadyOn, turns_ready}
use Rattle.domain_world.proofs.Messages.OwnMessageLaws.{EachKept, HasMessage, IsOfLogon, KeptOf, has_still, member_messages, member_stays, one_kept}
use Rattle.wire_base.proofs.AllLaws.{all_join, all_flat}
use Rattle.domain_world.proofs.Frames.EndNoteLaws.{messages_in, noted_by}

-- ---- what it rests on, at each moment between steps of ends

-- the requester of each member that runs is in its ranges, and the member dialled the link of its turn
pub record CallSide (s : State) : Type 0 where
  pub ranges : (k : ℕ) (m : MemberState) (running : Running) → slice_get s.ends.members k ≡ Some m → m.running ≡ Some running → InRangeRequester running.logons.channel
  pub dialled : (k : ℕ) (m : MemberState) (running : Running) → slice_get s.ends.members k ≡ Some m → m.running ≡ Some running →
      IfDialled (λ (number : ℕ). IsDialledBy s.links k number) running.dialling

-- ---- what becomes of the calls of messages as units of the turn are written down

abbrev pub IsGood : (ℕ → ℕ → Type 0) → MessageTaken → Type 0
IsGood Good message = (n : ℕ) → message.call ≡ Some n → Good message.link n

module _ (Good : ℕ → ℕ → Type 0) where
  abbrev pub AllGood : List MessageTaken → Type 0
  AllGood messages = AllByRecursion (IsGood Good) messages

  -- the link of the place whose call goes out has its call in the unit of that number
  abbrev pub GoodTurn : Option ℕ → Logons → Option ℕ → Type 0
  GoodTurn called logons number = (on n : ℕ) → link_of_place called logons ≡ Some on → number ≡ Some n → Good on n

  abbrev pub GoodTurns : ℕ → List (ServedUnit AtTurn TurnTalk) → List ℕ → Type 0
  GoodTurns controller [] numbers = Unit {0}
  GoodTurns controller (served ∷ units) numbers =
      GoodTurn (turn_note controller served).called served.work.work.logons (first_of numbers) × GoodTurns controller units (later_of (turn_note controller served).sends numbers)

  called_if : (hit : Bool) (on : ℕ) (number : Option ℕ) (message : MessageTaken) → (message.link == on) ≡ hit → ((n : ℕ) → number ≡ Some n → Good on n) → IsGood Good message →
      IsGood Good (change_if hit (with_call number) message)
  called_if false on number message hits turn good = good
  called_if true on number message hits turn good = λ n is. subst (λ (l : ℕ). Good l n) (sym (eqb-true message.link on hits)) (turn n is)

  all_called : (on : ℕ) (number : Option ℕ) (messages : List MessageTaken) → ((n : ℕ) → number ≡ Some n → Good on n) → AllGood messages →
      AllGood (change_message (Some on) (with_call number) messages)
  all_called on number [] turn good = tt
  all_called on number (message ∷ messages) turn good =
      (called_if (message.link == on) on number message refl turn good.0, all_called on number messages turn good.1)

  some_called : (link : Option ℕ) (number : Option ℕ) (messages : List MessageTaken) → ((on n : ℕ) → link ≡ Some on → number ≡ Some n → Good on n) → AllGood messages →
      AllGood (change_message link (with_call number) messages)
  some_called None number messages turn good = good
  some_called (Some on) number messages turn good = all_called on number messages (λ n is. turn on n refl is) good

  answered_if : (hit : Bool) (unit : Option ℕ) (message : MessageTaken) → IsGood Good message → IsGood Good (change_if hit (with_answer unit) message)
  answered_if false unit message good = good
  answered_if true unit message good = λ n is. good n is

  all_answered : (on : ℕ) (unit : Option ℕ) (messages : List MessageTaken) → AllGood messages → AllGood (change_message (Some on) (with_answer unit) messages)
  all_answered on unit [] good = tt
  all_answered on unit (message ∷ messages) good = (answered_if (message.link == on) unit message good.0, all_answered on unit messages good.1)

  some_answered : (link : Option ℕ) (unit : Option ℕ) (messages : List MessageTaken) → AllGood messages → AllGood (change_message link (with_answer unit) messages)
  some_answered None unit messages good = good
  some_answered (Some on) unit messages good = all_answered on unit messages good

  pub turns_good : (controller : ℕ) (units : List (ServedUnit AtTurn TurnTalk)) (unit : Option ℕ) (numbers : List ℕ) (b : Book) → GoodTurns controller units numbers → AllGood b.messages →
      AllGood (note_turns controller units unit numbers b).messages
  turns_good controller [] unit numbers b turns good = good
  turns_good controller (served ∷ units) unit numbers b turns good =
      let note : TurnNote = turn_note controller served in
      let logons : Logons = served.work.work.logons in
      turns_good controller units unit (later_of note.sends numbers) (note_turn note served unit (first_of numbers) b) turns.1
      (some_answered (link_of_place note.answered logons) unit (change_message (link_of_place note.called logons) (with_call (first_of numbers)) b.messages)
      (some_called (link_of_place note.called logons) (first_of numbers) b.messages turns.0 good))

  -- a message that was just taken has no call
  kept_good : (logon : Option Logon) (place : ℕ) (w : LinkAt) (bytes : List ℕ) → AllGood (message_kept logon place w bytes)
  kept_good None place w bytes = tt
  kept_good (Some logon) place w bytes = ((λ n is. absurd (no_some n is)), tt)

  at_good : (p : Phase) (after : Option AtLink) (w : LinkAt) (bytes : List ℕ) → AllGood (message_at p after w bytes)
  at_good phase.Fresh after w bytes = tt
  at_good (phase.Challenged bound challenge flags) after w bytes = tt
  at_good (phase.Asked bound place held) None w bytes = tt
  at_good (phase.Asked bound place held) (Some after) w bytes = kept_good (lookup same_number place after.logons.asked) place w bytes
  at_good (phase.In on) after w bytes = tt
  at_good (phase.Out bound status) after w bytes = tt

  after_good : (talk : Option Talk) (after : Option AtLink) (w : LinkAt) (bytes : List ℕ) → AllGood (message_after talk after w bytes)
  after_good None after w bytes = tt
  after_good (Some talk) after w bytes = at_good talk.phase after w bytes

  by_good : (challenged : Bool) (unit : ServedUnit AtLink Talk) (w : LinkAt) → AllGood (message_by challenged unit w)
  by_good false unit w = tt
  by_good true unit w = after_good (talk_after unit.part) (work_after unit.part) w unit.bytes

  pub notes_good : (w : LinkAt) (units : List (ServedUnit AtLink Talk)) → AllGood (flat_map (message_note w) units)
  notes_good w units = all_flat (IsGood Good) (message_note w) (λ unit. by_good (is_challenged unit.talk.phase) unit w) units

pub good_so : (Good More : ℕ → ℕ → Type 0) → ((link n : ℕ) → Good link n → More link n) → (messages : List MessageTaken) → AllGood Good messages → AllGood More messages
good_so Good More so messages good = all_weaker (IsGood Good) (IsGood More) messages (λ message is n there. so message.link n (is n there)) good

-- ---- the unit that carries the call of the message of a link

-- a logon asks what a message on its link does
pub record IsAskedOn (link : ℕ) (logon : LogonCall) (message : MessageTaken) : Type 0 where
  pub on : message.link ≡ link
  pub info : logon.info ≡ record (info_asked message) { logon_id = message.place }

pub record IsCallAt (bag : List BagUnit) (messages : List MessageTaken) (link n : ℕ) : Type 0 where
  pub carrier : BagUnit
  pub there : slice_get bag n ≡ Some carrier
  pub number : ℕ
  pub logon : LogonCall
  pub frames : List RpcUnit
  pub heard : IsHeard carrier.bytes frames (request_of number 0 (opnum_of_call (call.Logon logon)) (written_call (call.Logon logon)))
  pub again : call_of (opnum_of_call (call.Logon logon)) (written_call (call.Logon logon)) ≡ Ok (call.Logon logon)
  pub asked : OneOf (IsAskedOn link logon) messages
  pub level : logon.validation ≡ 3

abbrev pub CalledIn : BookFact
CalledIn bag b = AllGood (IsCallAt bag b.messages) b.messages

call_still : (old bag : List BagUnit) (messages more : List MessageTaken) (link n : ℕ) → StillHas old bag →
    ((logon : LogonCall) → OneOf (IsAskedOn link logon) messages → OneOf (IsAskedOn link logon) more) → IsCallAt old messages link n → IsCallAt bag more link n
call_still old bag messages more link n still grows at =
    let now : IsStill at.carrier bag n = still n at.carrier at.there in
    record {
      carrier = now.now;
      there = now.there;
      number = at.number;
      logon = at.logon;
      frames = at.frames;
      heard = subst (λ (bytes : List ℕ). IsHeard bytes at.frames (request_of at.number 0 (opnum_of_call (call.Logon at.logon)) (written_call (call.Logon at.logon)))) (sym now.bytes) at.heard;
      again = at.again;
      asked = grows at.logon at.asked;
      level = at.level;
    }

-- ---- the units that a member sends on the link of its turn get their numbers in order

pub numbers_first : (link : ℕ) (bag : List BagUnit) (unit : BagUnit) (units later : List BagUnit) → later ≡ (bag ++ unit ∷ []) ++ units → is_sent_on link false unit ≡ true →
    numbers_on link false bag later ≡ length bag ∷ numbers_on link false (bag ++ unit ∷ []) later
numbers_first link bag unit units later is sent =
    let whole : later ≡ bag ++ (unit ∷ units) = is ∙ append_assoc bag (unit ∷ []) units in
    let here : drop (length bag) later ≡ unit ∷ units = ap (λ (all : List BagUnit). drop (length bag) all) whole ∙ drop_at bag (unit ∷ units) (length bag) refl in
    let there : drop (length (bag ++ unit ∷ [])) later ≡ units =
    ap (λ (all : List BagUnit). drop (length (bag ++ unit ∷ [])) all) is ∙ drop_at (bag ++ unit ∷ []) units (length (bag ++ unit ∷ [])) refl in
    ap (λ (all : List BagUnit). places_from (is_sent_on link false) (length bag) all) here
    ∙ ap (λ (t : Bool). if t then length bag ∷ places_from (is_sent_on link false) (length bag + 1) units else places_from (is_sent_on link false) (length bag + 1) units) sent
    ∙ ap₂ (λ (n : ℕ) (all : List BagUnit). length bag ∷ places_from (is_sent_on link false) n all) (sym (length-append bag (unit ∷ []))) (sym there)

module _ (route : Route) (end : EndId) (link controller : ℕ) (messages : List MessageTaken) (own : is_own (kind_of route) ≡ true) (way : is_accepted_by end route ≡ false) where
  abbrev CallIn : State → ℕ → ℕ → Type 0
  CallIn later on n = IsCallAt later.bag messages on n

  -- the unit that a request comes to is the call of its place
  call_here : (called : Option ℕ) (before came : AtTurn) (after : Option AtTurn) (t later : State) (bytes : List ℕ) (units : List BagUnit) (on n : ℕ) →
      later.bag ≡ (t.bag ++ unit_on route end link bytes ∷ []) ++ units → after ≡ Some came → came.work.actions ≡ before.work.actions ++ action.Send before.link bytes ∷ [] →
      OutBy called true before after → OfEach (HasMessage messages) before.work.logons.asked → link_of_place called before.work.logons ≡ Some on → length t.bag ≡ n → CallIn later on n
  call_here None before came after t later bytes units on n is comes sends out each found number = absurd (no_some on found)
  call_here (Some place) before came after t later bytes units on n is comes sends out each found number =
      let unit : BagUnit = unit_on route end link bytes in
      let its : IsCallOut before after place = out.1 in
      let sent : IsLogonSent before.work.logons.asked place its.bytes = its.sent in
      let same : came ≡ its.done = some_is came its.done (sym comes ∙ its.comes) in
      let one : bytes ≡ its.bytes = bytes_are before.link bytes its.bytes
      (last_is before.work.actions (action.Send before.link bytes) (action.Send before.link its.bytes) (sym sends ∙ ap (λ (a : AtTurn). a.work.actions) same ∙ its.sends)) in
      let here : sent.own.link ≡ on = some_is sent.own.link on (sym (ap link_of_logon sent.kept) ∙ found) in
      record {
        carrier = unit;
        there = subst (λ (k : ℕ). slice_get later.bag k ≡ Some unit) number
            (ap (λ (bag : List BagUnit). slice_get bag (length t.bag)) is ∙ got_append (t.bag ++ unit ∷ []) units (length t.bag) unit (got_last t.bag unit));
        number = sent.number;
        logon = sent.logon;
        frames = sent.frames;
        heard = subst (λ (b : List ℕ). IsHeard b sent.frames (request_of sent.number 0 (opnum_of_call (call.Logon sent.logon)) (written_call (call.Logon sent.logon)))) (sym one) sent.heard;
        again = sent.again;
        asked = one_weaker (IsOfLogon place sent.own) (IsAskedOn on sent.logon)
            messages (λ message of. record { on = of.on ∙ here; info = sent.info ∙ ap₂ (λ (k : ℕ) (l : Logon). info_at k l) (sym of.same_place) (sym of.same_logon) })
            (each_found (HasMessage messages) place before.work.logons.asked sent.own sent.kept each);
        level = sent.level;
      }

  turn_at : (sends : Bool) (called : Option ℕ) (before : AtTurn) (after : Option AtTurn) (units : List (ServedUnit AtTurn TurnTalk)) (actions : List Action) (t later : State) →
      (perform_all end actions t).state ≡ later → slice_get t.links link ≡ Some route → before.link ≡ link → OfEach (HasMessage messages) before.work.logons.asked →
      OutBy called sends before after → IsFirstBy sends before after actions (λ more. AreFirst controller units more) →
      ((more : List Action) (u : State) → (perform_all end more u).state ≡ later → slice_get u.links link ≡ Some route → AreFirst controller units more →
      GoodTurns (CallIn later) controller units (numbers_on link false u.bag later.bag)) →
      GoodTurn (CallIn later) called before.work.logons (first_of (numbers_on link false t.bag later.bag))
      × GoodTurns (CallIn later) controller units (later_of sends (numbers_on link false t.bag later.bag))
  turn_at false None before after units actions t later performed made on each out first rest = ((λ at n found number. absurd (no_some at found)), rest actions t performed made first)
  turn_at false (Some place) before after units actions t later performed made on each out first rest = absurd (let never : false ≡ true = out.0 in cc)
  turn_at true called before after units actions t later performed made on each out first rest =
      let bytes : List ℕ = first.0 in
      let more : List Action = first.1 in
      let unit : BagUnit = unit_on route end link bytes in
      let u : State = record t { bag = t.bag ++ unit ∷ [] } in
      let goes : (perform_all end more u).state ≡ later =
      ap (λ (x : State). (perform_all end more x).state) (sym (sent_goes route end link bytes t made own))
      ∙ ap (λ (k : ℕ). (perform_all end more (perform_quietly end (action.Send k bytes) t)).state) (sym on)
      ∙ ap (λ (a : List Action). (perform_all end a t).state) (sym first.3)
      ∙ performed in
      let others : IsMore u.links u.bag (perform_all end more u).state.links (perform_all end more u).state.bag =
      actions_stay (MoreOf u.links u.bag) (goes_on u.links u.bag) end more u (no_more u.links u.bag) in
      let bag : later.bag ≡ (t.bag ++ unit ∷ []) ++ others.units = ap (λ (x : State). x.bag) (sym goes) ∙ others.is in
      subst (λ (numbers : List ℕ). GoodTurn (CallIn later) called before.work.logons (first_of numbers) × GoodTurns (CallIn later) controller units (later_of true numbers))
      (sym (numbers_first link t.bag unit others.units later.bag bag (passes false link unit refl way))) (
        (λ at n found number. call_here called before first.2 after t later bytes others.units at n bag first.4 first.5 out each found (some_is (length t.bag) n number)),
        rest more u goes made first.6,
      )

  turns_at : (units : List (ServedUnit AtTurn TurnTalk)) (actions : List Action) (t later : State) → (perform_all end actions t).state ≡ later → slice_get t.links link ≡ Some route →
      AreFirst controller units actions → AllByRecursion (IsReadyUnit (HasMessage messages) link controller) units →
      GoodTurns (CallIn later) controller units (numbers_on link false t.bag later.bag)
  turns_at [] actions t later performed made first ready = tt
  turns_at (unit ∷ units) actions t later performed made first ready =
      turn_at (turn_note controller unit).sends (turn_note controller unit).called unit.work (work_after unit.part) units actions t later performed made ready.0.ready.on ready.0.ready.each
      ready.0.out first (λ more u goes still next. turns_at units more u later goes still next ready.1)

-- ---- bytes come at a member

-- bytes come on the link of a member's turn, or its turn takes nothing
module _ (Own : ℕ → Type 0) where
  or_by : (hit : Bool) (said : LinkState TurnTalk) (other link : ℕ) (piece : List ℕ) (running : Running) (left : List (List ℕ)) → (other == link) ≡ hit → Own other →
      (turn_units_by hit said link piece running left ≡ []) ⊎ Own link
  or_by false said other link piece running left is own = inl refl
  or_by true said other link piece running left is own = inr (subst Own (eqb-true other link is) own)

  or_on : (how : Dialling) (link : ℕ) (piece : List ℕ) (running : Running) (left : List (List ℕ)) → IfDialled Own how → (turn_units_on how link piece running left ≡ []) ⊎ Own link
  or_on dialling.Nothing link piece running left own = inl refl
  or_on (dialling.Waits turn frames) link piece running left own = inl refl
  or_on (dialling.On other said) link piece running left own = or_by (other == link) said other link piece running left refl own

  or_in : (r : Option Running) (link : ℕ) (piece : List ℕ) (left : List (List ℕ)) → ((running : Running) → r ≡ Some running → IfDialled Own running.dialling) →
      (turn_units_in r link piece left ≡ []) ⊎ Own link
  or_in None link piece left own = inl refl
  or_in (Some running) link piece left own = or_on running.dialling link piece running left (own running refl)

-- the turn is ready for its units
pub ready_on : (Fits : ℕ → Logon → Type 0) (link : ℕ) (how : Dialling) (running : Running) → AsksForKept (is_dialled how) running.logons → InRangeRequester running.logons.channel →
    OfEach Fits running.logons.asked → ReadyOn Fits link how running
ready_on Fits link dialling.Nothing running asks range each = tt
ready_on Fits link (dialling.Waits turn frames) running asks range each = tt
ready_on Fits link (dialling.On other said) running asks range each = record { on = refl; asks = asks; range = range; each = each }

ready_in : (messages more : List MessageTaken) (link : ℕ) (r : Option Running) → ((place : ℕ) (logon : Logon) → HasMessage messages place logon → HasMessage more place logon) →
    ((running : Running) → r ≡ Some running → InRangeRequester running.logons.channel) → KeptOf messages r → ReadyIn (HasMessage more) link r
ready_in messages more link None so ranges kept = tt
ready_in messages more link (Some running) so ranges kept =
    ready_on (HasMessage more) link running.dialling running kept.0 (ranges running refl) (each_so (HasMessage messages) (HasMessage more) so running.logons.asked kept.1.0)

asked_call : (link : ℕ) (logon : LogonCall) (number : Option ℕ) (message : MessageTaken) → IsAskedOn link logon message → IsAskedOn link logon (with_call number message)
asked_call link logon number message is = record { on = is.on; info = is.info }

asked_answer : (link : ℕ) (logon : LogonCall) (number : Option ℕ) (message : MessageTaken) → IsAskedOn link logon message → IsAskedOn link logon (with_answer number message)
asked_answer link logon number message is = record { on = is.on; info = is.info }

module _ (m : MemberState) (at : ℕ) (w : Delivery) (piece : List ℕ) (s : State) (b : Book) where
  abbrev member_heard : AfterHearing
  member_heard = heard_by (member_step (Some m) at (event.Bytes w.link piece) s.moment s.ends s.chances) s

  abbrev member_after : State
  member_after = (done (Member at) member_heard).state

  abbrev now_messages : List MessageTaken
  now_messages = member_messages at m w piece s member_after b

  abbrev own_units : List (ServedUnit AtTurn TurnTalk)
  own_units = turn_units m w.link piece s.moment s.chances.left

  abbrev own_numbers : List ℕ
  own_numbers = numbers_on w.link false s.bag member_after.bag

  turns_by : (controller : ℕ) (answer : Result (List Action) StepRefused) → (step_of m (event.Bytes w.link piece) s.moment s.chances.left).answer ≡ answer → IsDialledBy s.links at w.link →
      AllByRecursion (IsReadyUnit (HasMessage now_messages) w.link controller) own_units → GoodTurns (IsCallAt member_after.bag now_messages) controller own_units own_numbers
  turns_by controller (Err why) is dialled ready =
      subst (λ (units : List (ServedUnit AtTurn TurnTalk)). GoodTurns (IsCallAt member_after.bag now_messages) controller units own_numbers)
      (sym (ap (λ (a : Result (List Action) StepRefused). units_if_taken a (turn_units_in m.running w.link piece s.chances.left)) is)) tt
  turns_by controller (Ok actions) is dialled ready =
      turns_at (ToController at dialled.controller) (Member at) w.link controller now_messages refl refl own_units actions member_heard.state member_after
      (ap (λ (a : Result (List Action) StepRefused). (perform_all (Member at) (actions_by a) member_heard.state).state) (sym is)) dialled.at
      (requests_first.first controller m w.link piece s.moment s.chances.left actions is) ready

  turns_called : (controller : ℕ) → slice_get s.ends.members at ≡ Some m → CallSide s → KeptOf b.messages m.running →
      GoodTurns (IsCallAt member_after.bag now_messages) controller own_units own_numbers
  turns_called controller there side kept =
      let answer : Result (List Action) StepRefused = (step_of m (event.Bytes w.link piece) s.moment s.chances.left).answer in
      elim (or_in (λ (number : ℕ). IsDialledBy s.links at number) m.running w.link piece s.chances.left (λ running is. side.dialled at m running there is)) [
        | inl none ↦
            subst (λ (units : List (ServedUnit AtTurn TurnTalk)). GoodTurns (IsCallAt member_after.bag now_messages) controller units own_numbers)
            (sym (ap (λ (units : List (ServedUnit AtTurn TurnTalk)). units_if_taken answer units) none ∙ none_if_taken answer)) tt
        | inr dialled ↦
            turns_by controller answer refl dialled
            (turns_ready (HasMessage now_messages) w.link controller m piece s.moment s.chances.left
            (ready_in b.messages now_messages w.link m.running (has_still at m w piece s member_after b) (λ running is. side.ranges at m running there is) kept))
      ]

  member_called : slice_get s.ends.members at ≡ Some m → CallSide s → KeptOf b.messages m.running → CalledIn s.bag b → CalledIn member_after.bag (note_member (Some m) at w piece s member_after b)
  member_called there side kept called =
      let Now : ℕ → ℕ → Type 0 = IsCallAt member_after.bag now_messages in
      let first : Book = note_messages at m w piece s b in
      let still : StillHas s.bag member_after.bag = actions_stay (StillIn s.bag) (kept_sent s.bag) (Member at) member_heard.actions member_heard.state (kept_same s.bag) in
      let old : AllGood Now b.messages = good_so (IsCallAt s.bag b.messages) Now
      (λ link n one. call_still s.bag member_after.bag b.messages now_messages link n still
      (λ logon asked. member_stays (IsAskedOn link logon) (asked_call link logon) (asked_answer link logon) at m w piece s member_after b asked) one) b.messages called in
      turns_good Now (controller_asked (OfMember at) s) own_units (unit_in w.source) own_numbers first (turns_called (controller_asked (OfMember at) s) there side kept)
      (all_join (IsGood Now) b.messages (flat_map (message_note (at_member at w s)) (link_units m w.link piece s.moment s.chances.left)) old
      (notes_good Now (at_member at w s) (link_units m w.link piece s.moment s.chances.left)))

-- ---- any end

still_called : (old bag : List BagUnit) (b : Book) → StillHas old bag → CalledIn old b → CalledIn bag b
still_called old bag b still called =
    good_so (IsCallAt old b.messages) (IsCallAt bag b.messages) (λ link n one. call_still old bag b.messages b.messages link n still (λ logon asked. asked) one) b.messages called

same_called : (bag : List BagUnit) (b now : Book) → now.messages ≡ b.messages → CalledIn bag b → CalledIn bag now
same_called bag b now same called = subst (λ (messages : List MessageTaken). AllGood (IsCallAt bag messages) messages) (sym same) called

pub heard_still : (end : EndId) (w : Delivery) (piece : List ℕ) (s : State) → StillHas s.bag (hear_and_act end (event.Bytes w.link piece) s).state.bag
heard_still end w piece s =
    let heard : AfterHearing = hear_alone end (event.Bytes w.link piece) s in
    actions_stay (StillIn s.bag) (kept_sent s.bag) end heard.actions heard.state (kept_same s.bag)

end_called : (end : EndId) (w : Delivery) (piece : List ℕ) (s : State) (b : Book) → CallSide s → HoldsIn (EachKept b.messages) s → CalledIn s.bag b →
    CalledIn (hear_and_act end (event.Bytes w.link piece) s).state.bag (note_at (Some end) w piece s (hear_and_act end (event.Bytes w.link piece) s).state b)
end_called end w piece s b side kept called =
    let after : State = (hear_and_act end (event.Bytes w.link piece) s).state in
    let others : CalledIn after.bag b = still_called s.bag after.bag b (heard_still end w piece s) called in
    noted_by (λ (one : EndId) (step : EndStep) (now : Book). after ≡ (done one (heard_by step s)).state → CalledIn after.bag now) w piece s after b (λ one is. others)
    (λ at c there is. same_called after.bag b (note_controller (Some c) at w piece s after b) refl others)
    (λ at m there is.
    subst (λ (t : State). CalledIn t.bag (note_member (Some m) at w piece s t b)) (sym is)
    (member_called m at w piece s b there side (one_kept b.messages s.ends.members at m there kept) called))
    (λ at c there is. same_called after.bag b (note_client (Some c) at w piece s b) refl others) end refl

-- where what is carried through each step gives what it rests on
pub called_keep : (Holds : RunFact) → ((n : ℕ) (s : State) (given : Given) (b : Book) → Holds n s given b → CallSide s) → BagKeeps Holds messages_in EachKept CalledIn
called_keep Holds gives = record {
  still = still_called;
  comes = λ n end w piece s given b at came bytes marked holds kept called. end_called end w piece s b (gives n s given b holds) kept called;
  over = λ at given s b called. called;
}
