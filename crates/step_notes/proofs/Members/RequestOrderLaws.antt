-- The requests of the units on the link of a member's turn are the first of what its step gives, in their order.
-- It serves `requests_come_first`.
use Rattle.std.proofs.Common.{◌≡◌, ℕ, ◌==◌, Bool, true, false, List, [], ◌∷◌, ◌++◌, Option, Some, None, Result, Ok, Err, refl, sym, ap, subst, ◌∙◌}
use Rattle.std.proofs.lemmas.List.{append_assoc}
use Rattle.outside.specs.declared.action.Action.{Action}
use Rattle.outside.specs.declared.action.Action.TheVariants as action
use Rattle.outside.specs.declared.action.CloseCause.{CloseCause}
use Rattle.outside.specs.declared.action.CloseCause.TheVariants as close
use Rattle.outside.specs.declared.action.DropCause.TheVariants as drop_cause
use Rattle.outside.specs.declared.action.StepRefused.{StepRefused}
use Rattle.outside.specs.declared.event.Event.TheVariants as event
use Rattle.outside.specs.Machine.{Part}
use Rattle.rpc_units.specs.declared.refused.UnitRefused.{UnitRefused}
use Rattle.rpc_units.specs.declared.unit.Unit.{Unit as RpcUnit}
use Rattle.rpc_units.specs.Reading.{unit_of}
use Rattle.rpc_units.specs.Stream.{Cut, cut_stream}
use Rattle.end_links.specs.Links.{LinkState}
use Rattle.end_links.specs.Sending.{joined_frames}
use Rattle.end_links.specs.Serving.{ServedPart, served_by, then_talk, ServedUnit, served_units, units_on}
use Rattle.channel_client.specs.declared.answers.Taken.{Taken}
use Rattle.channel_client.specs.declared.answers.Taken.TheVariants as taken
use Rattle.channel_client.specs.Effects.{step_in}
use Rattle.channel_client.specs.Machine.{lose_of, take_of}
use Rattle.channel_client.specs.State.{Requester}
use Rattle.channel_turns.specs.declared.state.Dialling.{Dialling}
use Rattle.channel_turns.specs.declared.state.Dialling.TheVariants as dialling
use Rattle.member_server.specs.declared.state.Running.{Running}
use Rattle.channel_turns.specs.declared.state.TurnTalk.{TurnTalk}
use Rattle.member_server.specs.declared.state.Work.{Work}
use Rattle.member_server.specs.Machine.{after_turn, at_turn, bytes_by, bytes_on, event_part, work_of}
use Rattle.member_server.specs.Outcomes.{tell_at}
use Rattle.member_server.specs.Secrets.{SecretsState, changes_text, secrets_after}
use Rattle.member_server.specs.Turns.{end_turn, AtTurn, DialWork, TurnServed, break_turn, do_taken, keep_ended, keep_if, turn_server, turn_talk, turn_unit, with_requester}
use Rattle.member_server.proofs.StepFrame.{KeepsNext, PartHolds, WorkFact, next_follows, step_answers, turn_ended}
use Rattle.channel_turns.specs.declared.state.TurnEnd.{TurnEnd}
use Rattle.channel_turns.specs.declared.state.TurnEnd.TheVariants as turn_end
use Rattle.step_notes.specs.CallLogons.{AreFirst, IsFirstBy, RequestsComeFirst}
use Rattle.step_notes.specs.MemberNotes.{taken_note, taking_note, taking_read, turn_units_by, turn_units_in, turn_units_on}
use Rattle.step_notes.specs.Served.{units_if_taken}
use Rattle.step_notes.proofs.Channels.MarkLaws.{asked_sends}
use Rattle.step_notes.proofs.Members.CallKeptLaws.{at_channel}
use Rattle.step_notes.proofs.Members.TurnUnitLaws.{taking_by}
use Rattle.step_notes.proofs.Members.SameLogonLaws.{Grows, grows_not, grows_then, logon_ended, told}

-- ---- a turn that ends puts actions behind those so far

ended_grows : (how : TurnEnd) (w : Work) → Grows w.actions (end_turn how w).actions
ended_grows how w =
    turn_ended how w (λ after. Grows w.actions after.actions) (λ none. grows_not w.actions) (λ place ends some. (logon_ended place ends w).grows)

-- a text is kept, or isn't
kept_grows : (changes : Bool) (secrets : SecretsState) (old : List Action) → Grows old (keep_if changes secrets old)
kept_grows false secrets old = grows_not old
kept_grows true secrets old = told old _

-- the link of a turn is closed before the turn ends
closed_grows : (cause : CloseCause) (how : TurnEnd) (link : ℕ) (w : Work) → Grows w.actions (end_turn how (tell_at w (action.Close link cause))).actions
closed_grows cause how link w =
    let closed : Work = tell_at w (action.Close link cause) in
    grows_then w.actions closed.actions (end_turn how closed).actions (told w.actions _) (ended_grows how closed)

-- a text of the secrets stands before that
turn_grows : (how : TurnEnd) (link : ℕ) (w : Work) → Grows w.actions (end_turn how (tell_at (keep_ended how w) (action.Close link close.CallDone))).actions
turn_grows how link w =
    let kept : Work = keep_ended how w in
    let secrets : SecretsState = w.logons.plan.secrets in
    grows_then w.actions kept.actions (end_turn how (tell_at kept (action.Close link close.CallDone))).actions
    (kept_grows (changes_text how secrets) (secrets_after how secrets) w.actions) (closed_grows close.CallDone how link kept)

broken : (cause : CloseCause) (at : AtTurn) → (more : List Action) × ((break_turn cause at).0.work.actions ≡ at.work.actions ++ more) × Unit {0}
broken cause at =
    let losing = lose_of at.work.logons.channel in
    let grows = closed_grows cause (turn_end.Dropped losing.place drop_cause.BadReply) at.link (with_requester at.work losing.state) in (grows.more, grows.is, tt)

-- ---- the units of the turn

module _ (controller : ℕ) where
  -- what the rest of the units comes to, behind the actions so far
  abbrev pub FirstOf : List Action → (List Action → Type 0) → ServedPart AtTurn TurnTalk → Type 0
  FirstOf old Holds (Err why) = Unit {0}
  FirstOf old Holds (Ok part) = (more : List Action) × (part.value.0.work.actions ≡ old ++ more) × Holds more

  abbrev pub LaterFirst : List (List ℕ) → Option UnitRefused → Type 0
  LaterFirst units why = (at : AtTurn) (talk : TurnTalk) (left : List (List ℕ)) →
      FirstOf at.work.actions (AreFirst controller (served_units turn_server units at talk left)) (served_by turn_server units why at talk left)

  -- behind a unit that sends its request
  sent_first : (link : ℕ) (bytes : List ℕ) (old between : List Action) (Holds Later : List Action → Type 0) (part : ServedPart AtTurn TurnTalk) → between ≡ old ++ action.Send link bytes ∷ [] →
      ((more : List Action) → Later more → Holds (action.Send link bytes ∷ more)) → FirstOf between Later part → FirstOf old Holds part
  sent_first link bytes old between Holds Later (Err why) is so first = tt
  sent_first link bytes old between Holds Later (Ok part) is so first =
      (action.Send link bytes ∷ first.0, first.1 ∙ ap (λ (a : List Action). a ++ first.0) is ∙ append_assoc old (action.Send link bytes ∷ []) first.0, so first.0 first.2)

  module _ (units : List (List ℕ)) (why : Option UnitRefused) (later : LaterFirst units why) where
    -- by whether the unit sends a request
    abbrev pub UnitFirst : Bool → AtTurn → TurnServed → List (List ℕ) → Type 0
    UnitFirst sends at served left =
        FirstOf at.work.actions
        (λ actions. IsFirstBy sends at (Some served.0) actions
        (λ more. AreFirst controller (units_on served.0 served.1 left (λ next said rest. served_units turn_server units next said rest)) more))
        (then_talk served.0 served.1 left (λ next said rest. served_by turn_server units why next said rest))

    done_first : (what : Taken) (joiner : Option RpcUnit) (at : AtTurn) (before after : Requester) (left : List (List ℕ)) →
        UnitFirst (taken_note what controller before after).sends at (do_taken what joiner (at_channel at after)) left
    done_first (taken.Skip right) joiner at before after left = later (at_channel at after) _ left
    done_first (taken.Next right frames) joiner at before after left =
        let served : TurnServed = do_taken (taken.Next right frames) joiner (at_channel at after) in
        let bytes : List ℕ = joined_frames frames in
        subst (λ (sends : Bool). UnitFirst sends at served left) (sym (asked_sends (step_in after.turn) after.standing controller before after))
        (sent_first at.link bytes at.work.actions served.0.work.actions
        (λ actions. IsFirstBy true at (Some served.0) actions
        (λ more. AreFirst controller (units_on served.0 served.1 left (λ next said rest. served_units turn_server units next said rest)) more))
        (λ more. AreFirst controller (units_on served.0 served.1 left (λ next said rest. served_units turn_server units next said rest)) more)
        (then_talk served.0 served.1 left (λ next said rest. served_by turn_server units why next said rest))
        refl (λ more first. (bytes, more, served.0, refl, refl, refl, first)) (later served.0 _ left))
    done_first taken.Half joiner at before after left = let grows = turn_grows turn_end.Half at.link (with_requester at.work after) in (grows.more, grows.is, tt)
    done_first taken.Opened joiner at before after left = let grows = turn_grows turn_end.Opened at.link (with_requester at.work after) in (grows.more, grows.is, tt)
    done_first (taken.Answer place verdict) joiner at before after left =
        let grows = turn_grows (turn_end.Answer place verdict) at.link (with_requester at.work after) in (grows.more, grows.is, tt)
    done_first (taken.Dropped place cause) joiner at before after left =
        let grows = turn_grows (turn_end.Dropped place cause) at.link (with_requester at.work after) in (grows.more, grows.is, tt)
    done_first taken.Set joiner at before after left = let grows = turn_grows turn_end.Set at.link (with_requester at.work after) in (grows.more, grows.is, tt)

    read_first : (read : Result RpcUnit UnitRefused) (joiner : Option RpcUnit) (at : AtTurn) (left : List (List ℕ)) →
        UnitFirst (taking_note (taking_read read joiner at.work.logons.channel) controller at.work.logons.channel).sends at (turn_unit read joiner at) left
    read_first read joiner at left =
        let s : Requester = at.work.logons.channel in
        taking_by at (λ taking served. UnitFirst (taking_note taking controller s).sends at served left) (record {
          waits = λ after. later at (turn_talk after) left;
          takes = λ unit after. done_first (take_of s unit).taken after at s (take_of s unit).state left;
          breaks = λ cause. broken cause at;
        }) read joiner

  units_first : (units : List (List ℕ)) (why : Option UnitRefused) → LaterFirst units why
  units_first [] None at talk left = let grows = grows_not at.work.actions in (grows.more, grows.is, tt)
  units_first [] (Some why) at talk left = broken close.BadUnit at
  units_first (bytes ∷ units) why at talk left = read_first units why (units_first units why) (unit_of bytes) talk.joiner at left

  -- ---- the step

  by_more : (sends : Bool) (before : AtTurn) (later : Option AtTurn) (actions tail : List Action) (Holds : List Action → Type 0) → ((more : List Action) → Holds more → Holds (more ++ tail)) →
      IsFirstBy sends before later actions Holds → IsFirstBy sends before later (actions ++ tail) Holds
  by_more false before later actions tail Holds so first = so actions first
  by_more true before later actions tail Holds so first = (first.0, first.1 ++ tail, first.2, ap (λ (a : List Action). a ++ tail) first.3, first.4, first.5, so first.1 first.6)

  first_more : (units : List (ServedUnit AtTurn TurnTalk)) (actions tail : List Action) → AreFirst controller units actions → AreFirst controller units (actions ++ tail)
  first_more [] actions tail first = tt
  first_more (unit ∷ units) actions tail first = by_more _ unit.work _ actions tail (λ more. AreFirst controller units more) (λ more holds. first_more units more tail holds) first

  abbrev First : List (ServedUnit AtTurn TurnTalk) → WorkFact
  First units how w left = AreFirst controller units w.actions

  turn_done : (units : List (ServedUnit AtTurn TurnTalk)) (part : ServedPart AtTurn TurnTalk) (rest : List ℕ) (number : ℕ) → FirstOf [] (AreFirst controller units) part →
      PartHolds (First units) (after_turn part rest number)
  turn_done units (Err why) rest number first = tt
  turn_done units (Ok part) rest number first = subst (λ (a : List Action). AreFirst controller units a) (sym first.1) first.2

  next_first : (units : List (ServedUnit AtTurn TurnTalk)) (now : ℕ) → KeepsNext now (First units) (First units)
  next_first units now = record {
    still = λ how w left can first. first;
    starts = λ turn frames challenge how w before after can drawn answer first. first_more units w.actions _ first;
  }

  none_first : (units : List (ServedUnit AtTurn TurnTalk)) (part : Result (Part DialWork) StepRefused) → units ≡ [] → PartHolds (First units) part
  none_first units (Err why) is = tt
  none_first units (Ok part) is = subst (λ (all : List (ServedUnit AtTurn TurnTalk)). AreFirst controller all part.value.0.actions) (sym is) tt

  by_first : (hit : Bool) (said : LinkState TurnTalk) (other number : ℕ) (piece : List ℕ) (running : Running) (left : List (List ℕ)) →
      PartHolds (First (turn_units_by hit said number piece running left)) (bytes_by hit said number piece (dialling.On other said) (work_of running) left)
  by_first false said other number piece running left = none_first [] (bytes_by false said number piece (dialling.On other said) (work_of running) left) refl
  by_first true said other number piece running left =
      let cut : Cut = cut_stream (said.rest ++ piece) in
      let at : AtTurn = at_turn number (work_of running) in
      turn_done (served_units turn_server cut.units at said.talk left) (served_by turn_server cut.units cut.refused at said.talk left) cut.rest number
      (units_first cut.units cut.refused at said.talk left)

  on_first : (how : Dialling) (number : ℕ) (piece : List ℕ) (running : Running) (left : List (List ℕ)) →
      PartHolds (First (turn_units_on how number piece running left)) (bytes_on how number piece (work_of running) left)
  on_first dialling.Nothing number piece running left = none_first [] (bytes_on dialling.Nothing number piece (work_of running) left) refl
  on_first (dialling.Waits turn frames) number piece running left = none_first [] (bytes_on (dialling.Waits turn frames) number piece (work_of running) left) refl
  on_first (dialling.On other said) number piece running left = by_first (other == number) said other number piece running left

-- the requests come first
pub requests_first : RequestsComeFirst
requests_first = record {
  first = λ controller m number piece now left actions is.
      let units : List (ServedUnit AtTurn TurnTalk) = turn_units_in m.running number piece left in
      subst (λ answer. AreFirst controller (units_if_taken answer units) actions) (sym is)
      (step_answers (AreFirst controller units) (event.Bytes number piece) now left m actions
      (λ running runs.
      subst (λ (r : Option Running). PartHolds (First controller (turn_units_in r number piece left)) (event_part running (event.Bytes number piece) now left)) (sym runs)
      (next_follows now (First controller (turn_units_in (Some running) number piece left)) (First controller (turn_units_in (Some running) number piece left))
      (next_first controller (turn_units_in (Some running) number piece left) now) (bytes_on running.dialling number piece (work_of running) left)
      (on_first controller running.dialling number piece running left))) is);
}
