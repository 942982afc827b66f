-- Where a member takes an answer, a unit of its turn that it serves is written down as the answer of that place.
-- It serves `Proved.asked`, `Proved.let_in`, `Proved.sends`.
use Rattle.std.proofs.Common.{◌≡◌, ℕ, ◌==◌, Bool, true, false, List, [], ◌∷◌, ◌++◌, map, ◌⊎◌, inl, inr, Option, Some, None, Result, Ok, Err, refl, sym, ap, subst, ◌∙◌}
use Rattle.wire_base.specs.Maps.{lookup, same_number}
use Rattle.rpc_units.specs.declared.refused.JoinRefused.{JoinRefused}
use Rattle.rpc_units.specs.declared.refused.UnitRefused.{UnitRefused}
use Rattle.rpc_units.specs.declared.unit.Unit.{Unit as RpcUnit}
use Rattle.rpc_units.specs.Joining.{answer_of, open_after}
use Rattle.rpc_units.specs.Reading.{unit_of}
use Rattle.rpc_units.specs.Stream.{cut_stream}
use Rattle.logon_stubs.specs.declared.info.Verdict.{Verdict}
use Rattle.end_links.specs.Links.{LinkState}
use Rattle.end_links.specs.Serving.{ServedUnit, served_units, units_on}
use Rattle.channel_client.specs.Machine.{SetOutcome, act, hear, judge, judge_set, settle, settle_set, take_of}
use Rattle.channel_client.specs.State.{Requester}
use Rattle.channel_client.specs.declared.answers.Taken.{Taken}
use Rattle.channel_client.specs.declared.answers.Taken.TheVariants as taken
use Rattle.channel_client.specs.declared.hearing.Hearing.{Hearing}
use Rattle.channel_client.specs.declared.hearing.Hearing.TheVariants as hearing
use Rattle.channel_client.specs.declared.hearing.SetHearing.TheVariants as set_hearing
use Rattle.channel_client.specs.declared.judging.Judgement.{Judgement}
use Rattle.channel_client.specs.declared.judging.Judgement.TheVariants as judgement
use Rattle.channel_turns.specs.declared.state.Dialling.{Dialling}
use Rattle.channel_turns.specs.declared.state.Dialling.TheVariants as dialling
use Rattle.member_server.specs.declared.state.Logon.{Logon}
use Rattle.member_server.specs.declared.state.Running.{Running}
use Rattle.channel_turns.specs.declared.state.TurnTalk.{TurnTalk}
use Rattle.member_server.specs.Laws.{Takes, heard_from, heard_if, state_after, then_whole, whole_by, whole_units}
use Rattle.member_server.specs.Machine.{at_turn, work_of}
use Rattle.member_server.specs.Turns.{AtTurn, do_taken, turn_by_join, turn_server, turn_talk, turn_unit, with_requester, with_work}
use Rattle.wire_base.specs.Lists.{OneOf}
use Rattle.step_notes.specs.MemberNotes.{TurnNote, taken_note, taking_joined, taking_note, taking_read, turn_note, turn_units_by, turn_units_on}

-- the requester after it took these units
abbrev pub took : List RpcUnit → Requester → Requester
took units c = state_after (map (λ (u : RpcUnit). Takes u) units) c

pub none_whole : (earlier : List RpcUnit) (unit : RpcUnit) (later : List RpcUnit) → [] ≡ earlier ++ unit ∷ later → ⊥
none_whole [] unit later is = absurd cc
none_whole (first ∷ earlier) unit later is = absurd cc

-- ---- a turn that ended takes no answer

abbrev pub IfEnded : Taken → Requester → Type 0
IfEnded (taken.Skip turn) c = Unit {0}
IfEnded (taken.Next turn frames) c = Unit {0}
IfEnded taken.Half c = c.turn ≡ None
IfEnded taken.Opened c = c.turn ≡ None
IfEnded (taken.Answer place verdict) c = c.turn ≡ None
IfEnded (taken.Dropped place cause) c = c.turn ≡ None
IfEnded taken.Set c = c.turn ≡ None

settled_ends : (j : Judgement) (c : Requester) → IfEnded (settle j c).taken (settle j c).state
settled_ends (judgement.Half client server) c = refl
settled_ends (judgement.Opened o) c = refl
settled_ends (judgement.Answer o verdict) c = refl
settled_ends (judgement.Drop cause) c = refl

set_settled_ends : (judged : SetOutcome) (c : Requester) → IfEnded (settle_set judged c).taken (settle_set judged c).state
set_settled_ends (Ok o) c = refl
set_settled_ends (Err cause) c = refl

acted_ends : (h : Hearing) (c : Requester) → IfEnded (act h c).taken (act h c).state
acted_ends hearing.Skip c = tt
acted_ends (hearing.Next question frames) c = tt
acted_ends (hearing.Reply question reply) c = settled_ends (judge question reply c.standing c.caller.secret) c
acted_ends (hearing.Drop cause) c = settled_ends (judgement.Drop cause) c
acted_ends (hearing.Set (set_hearing.Next frames)) c = tt
acted_ends (hearing.Set (set_hearing.Reply reply)) c = set_settled_ends (judge_set reply c.standing) c

none_taken : (units : List RpcUnit) (unit : RpcUnit) (c : Requester) (place : ℕ) (verdict : Verdict) → c.turn ≡ None →
    (take_of (took units c) unit).taken ≡ taken.Answer place verdict → ⊥
none_taken [] unit c place verdict none is =
    absurd (let never : taken.Skip tt ≡ taken.Answer place verdict = sym (ap (λ turn. (act (hear turn unit c.next_call) c).taken) none) ∙ is in cc)
none_taken (first ∷ units) unit c place verdict none is =
    none_taken units unit (take_of c first).state place verdict (ap (λ turn. (act (hear turn first c.next_call) c).state.turn) none ∙ none) is

-- ---- the units of a stream

-- the answer of the place was taken in that unit, and the logon of the place was kept before it
pub record IsAnswer (controller place : ℕ) (logon : Logon) (served : ServedUnit AtTurn TurnTalk) : Type 0 where
  pub answered : (turn_note controller served).answered ≡ Some place
  pub kept : lookup same_number place served.work.work.logons.asked ≡ Some logon

abbrev pub HasAnswer : ℕ → ℕ → Logon → List (ServedUnit AtTurn TurnTalk) → Type 0
HasAnswer controller place logon units = OneOf (λ (served : ServedUnit AtTurn TurnTalk). IsAnswer controller place logon served) units

module _ (controller place : ℕ) (logon : Logon) (verdict : Verdict) (unit : RpcUnit) (later : List RpcUnit) where
  -- behind those that are earlier the answer comes
  abbrev pub Comes : List RpcUnit → Requester → Type 0
  Comes earlier c = (take_of (took earlier c) unit).taken ≡ taken.Answer place verdict

  abbrev pub LaterAnswers : List (List ℕ) → Type 0
  LaterAnswers units = (earlier : List RpcUnit) (at : AtTurn) (talk : TurnTalk) (left : List (List ℕ)) → whole_units units talk.joiner ≡ earlier ++ unit ∷ later →
      Comes earlier at.work.logons.channel → lookup same_number place at.work.logons.asked ≡ Some logon →
      HasAnswer controller place logon (served_units turn_server units at talk left)

  -- what is written down of the unit
  abbrev pub Own : TurnNote → AtTurn → Type 0
  Own note at = (note.answered ≡ Some place) × (lookup same_number place at.work.logons.asked ≡ Some logon)

  -- the turn goes on behind the unit, or has ended
  goes_on : (units : List (List ℕ)) → LaterAnswers units → (t : Taken) (first : RpcUnit) (after : Option RpcUnit) (earlier : List RpcUnit) (at : AtTurn) (left : List (List ℕ)) →
      (take_of at.work.logons.channel first).taken ≡ t → IfEnded t (take_of at.work.logons.channel first).state → whole_units units after ≡ earlier ++ unit ∷ later →
      Comes earlier (take_of at.work.logons.channel first).state → lookup same_number place at.work.logons.asked ≡ Some logon →
      HasAnswer controller place logon
      (units_on (do_taken t after (with_work at (with_requester at.work (take_of at.work.logons.channel first).state))).0
      (do_taken t after (with_work at (with_requester at.work (take_of at.work.logons.channel first).state))).1 left
      (λ next said rest. served_units turn_server units next said rest))
  goes_on units later_answers (taken.Skip turn) first after earlier at left is ends whole comes kept =
      later_answers earlier (with_work at (with_requester at.work (take_of at.work.logons.channel first).state)) (turn_talk after) left whole comes kept
  goes_on units later_answers (taken.Next turn frames) first after earlier at left is ends whole comes kept =
      later_answers earlier (do_taken (taken.Next turn frames) after (with_work at (with_requester at.work (take_of at.work.logons.channel first).state))).0 (turn_talk after) left whole comes kept
  goes_on units later_answers taken.Half first after earlier at left is ends whole comes kept =
      absurd (none_taken earlier unit (take_of at.work.logons.channel first).state place verdict ends comes)
  goes_on units later_answers taken.Opened first after earlier at left is ends whole comes kept =
      absurd (none_taken earlier unit (take_of at.work.logons.channel first).state place verdict ends comes)
  goes_on units later_answers (taken.Answer other how) first after earlier at left is ends whole comes kept =
      absurd (none_taken earlier unit (take_of at.work.logons.channel first).state place verdict ends comes)
  goes_on units later_answers (taken.Dropped other cause) first after earlier at left is ends whole comes kept =
      absurd (none_taken earlier unit (take_of at.work.logons.channel first).state place verdict ends comes)
  goes_on units later_answers taken.Set first after earlier at left is ends whole comes kept =
      absurd (none_taken earlier unit (take_of at.work.logons.channel first).state place verdict ends comes)

  -- a whole unit: it brings the answer, or is earlier
  whole_answers : (units : List (List ℕ)) → LaterAnswers units → (earlier : List RpcUnit) (first : RpcUnit) (after : Option RpcUnit) (at : AtTurn) (left : List (List ℕ)) →
      first ∷ whole_units units after ≡ earlier ++ unit ∷ later → Comes earlier at.work.logons.channel → lookup same_number place at.work.logons.asked ≡ Some logon →
      Own (taking_note (Some (take_of at.work.logons.channel first)) controller at.work.logons.channel) at
      ⊎ HasAnswer controller place logon
      (units_on (turn_by_join (Ok (Some first)) after at).0 (turn_by_join (Ok (Some first)) after at).1 left (λ next said rest. served_units turn_server units next said rest))
  whole_answers units later_answers [] first after at left whole comes kept =
      let same : first ≡ unit = cc in
      let c : Requester = at.work.logons.channel in
      let is : (take_of c first).taken ≡ taken.Answer place verdict = ap (λ (u : RpcUnit). (take_of c u).taken) same ∙ comes in
      inl (ap (λ (t : Taken). (taken_note t controller c (take_of c first).state).answered) is, kept)
  whole_answers units later_answers (one ∷ earlier) first after at left whole comes kept =
      let same : one ≡ first = cc in
      let rest : whole_units units after ≡ earlier ++ unit ∷ later = cc in
      let c : Requester = at.work.logons.channel in
      inr (goes_on units later_answers (take_of c first).taken first after earlier at left refl (acted_ends (hear c.turn first c.next_call) c) rest
      (subst (λ (u : RpcUnit). Comes earlier (take_of c u).state) same comes) kept)

  joined_answers : (units : List (List ℕ)) → LaterAnswers units → (whole : Result (Option RpcUnit) JoinRefused) (earlier : List RpcUnit) (after : Option RpcUnit) (at : AtTurn) (left : List (List ℕ)) →
      then_whole whole (whole_units units after) ≡ earlier ++ unit ∷ later → Comes earlier at.work.logons.channel → lookup same_number place at.work.logons.asked ≡ Some logon →
      Own (taking_note (taking_joined whole at.work.logons.channel) controller at.work.logons.channel) at
      ⊎ HasAnswer controller place logon
      (units_on (turn_by_join whole after at).0 (turn_by_join whole after at).1 left (λ next said rest. served_units turn_server units next said rest))
  joined_answers units later_answers (Err why) earlier after at left whole comes kept = absurd (none_whole earlier unit later whole)
  joined_answers units later_answers (Ok None) earlier after at left whole comes kept = inr (later_answers earlier at (turn_talk after) left whole comes kept)
  joined_answers units later_answers (Ok (Some first)) earlier after at left whole comes kept = whole_answers units later_answers earlier first after at left whole comes kept

  read_answers : (units : List (List ℕ)) → LaterAnswers units → (read : Result RpcUnit UnitRefused) (earlier : List RpcUnit) (joiner : Option RpcUnit) (at : AtTurn) (left : List (List ℕ)) →
      whole_by read joiner (λ after. whole_units units after) ≡ earlier ++ unit ∷ later → Comes earlier at.work.logons.channel → lookup same_number place at.work.logons.asked ≡ Some logon →
      Own (taking_note (taking_read read joiner at.work.logons.channel) controller at.work.logons.channel) at
      ⊎ HasAnswer controller place logon
      (units_on (turn_unit read joiner at).0 (turn_unit read joiner at).1 left (λ next said rest. served_units turn_server units next said rest))
  read_answers units later_answers (Err why) earlier joiner at left whole comes kept = absurd (none_whole earlier unit later whole)
  read_answers units later_answers (Ok one) earlier joiner at left whole comes kept =
      joined_answers units later_answers (answer_of joiner one) earlier (open_after joiner one) at left whole comes kept

  units_answer : (units : List (List ℕ)) → LaterAnswers units
  units_answer [] earlier at talk left whole comes kept = absurd (none_whole earlier unit later whole)
  units_answer (bytes ∷ units) earlier at talk left whole comes kept =
      elim (read_answers units (units_answer units) (unit_of bytes) earlier talk.joiner at left whole comes kept) [
        | inl own ↦ inl (record { answered = own.0; kept = own.1 })
        | inr more ↦ inr more
      ]

  -- ---- the bytes that come on a link

  bytes_answer : (hit : Bool) (earlier : List RpcUnit) (said : LinkState TurnTalk) (link : ℕ) (piece : List ℕ) (running : Running) (left : List (List ℕ)) →
      heard_if hit said piece ≡ earlier ++ unit ∷ later → Comes earlier running.logons.channel → lookup same_number place running.logons.asked ≡ Some logon →
      HasAnswer controller place logon (turn_units_by hit said link piece running left)
  bytes_answer false earlier said link piece running left hears comes kept = absurd (none_whole earlier unit later hears)
  bytes_answer true earlier said link piece running left hears comes kept =
      units_answer (cut_stream (said.rest ++ piece)).units earlier (at_turn link (work_of running)) said.talk left hears comes kept

  pub link_answers : (how : Dialling) (earlier : List RpcUnit) (link : ℕ) (piece : List ℕ) (running : Running) (left : List (List ℕ)) →
      heard_from link piece how ≡ earlier ++ unit ∷ later → Comes earlier running.logons.channel → lookup same_number place running.logons.asked ≡ Some logon →
      HasAnswer controller place logon (turn_units_on how link piece running left)
  link_answers dialling.Nothing earlier link piece running left hears comes kept = absurd (none_whole earlier unit later hears)
  link_answers (dialling.Waits turn frames) earlier link piece running left hears comes kept = absurd (none_whole earlier unit later hears)
  link_answers (dialling.On other said) earlier link piece running left hears comes kept = bytes_answer (other == link) earlier said link piece running left hears comes kept
