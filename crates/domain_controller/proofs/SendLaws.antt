-- What is sent. It serves `each_send_answers_a_unit`.
use Rattle.std.proofs.Common.{◌≡◌, ◌⊎◌, inl, inr, ℕ, suc, Bool, List, [], ◌∷◌, ◌++◌, length, nat_le, Option, Some, None, Ok, Err, refl, sym, ap, subst, ◌∙◌, arith, append_assoc, append-nil}
use Rattle.std.specs.List.{AllByRecursion, Contains}
use Rattle.wire_base.specs.Maps.{lookup, take_out, same_number}
use Rattle.outside.specs.declared.action.Action.{Action}
use Rattle.outside.specs.declared.action.Action.TheVariants as action
use Rattle.outside.specs.declared.action.CloseCause.TheVariants as close
use Rattle.outside.specs.declared.event.Event.{Event}
use Rattle.outside.specs.declared.event.Event.TheVariants as event
use Rattle.rpc_units.specs.declared.unit.Unit.{Unit as RpcUnit}
use Rattle.rpc_units.specs.Calls.{bytes_of_call}
use Rattle.rpc_units.specs.Joining.{context_of}
use Rattle.rpc_units.specs.Reading.{unit_of}
use Rattle.rpc_units.specs.Stream.{cut_stream}
use Rattle.rpc_units.specs.Writing.{written}
use Rattle.logon_stubs.specs.declared.calls.Reply.{Reply}
use Rattle.logon_stubs.specs.Writing.{written_reply}
use Rattle.secret_change.specs.declared.calls.SetReply.{SetReply}
use Rattle.secret_change.specs.Calls.{written_set_reply}
use Rattle.end_links.specs.Links.{LinkState}
use Rattle.end_links.specs.Sending.{fault_of, response_of}
use Rattle.end_links.specs.Serving.{ServedPart, served_cut}
use Rattle.end_links.proofs.KeepLaws.{StaysAmong, served_among}
use Rattle.end_loop.specs.Runs.{actions_of}
use Rattle.controller_calls.specs.Calls.{asked_of}
use Rattle.controller_calls.specs.Desk.{Desk}
use Rattle.controller_calls.specs.Doing.{Done, done_by, kept_asked, refused_stub, stub_asked}
use Rattle.controller_calls.specs.declared.calls.Asked.{Asked}
use Rattle.controller_calls.specs.declared.calls.Asked.TheVariants as asked
use Rattle.controller_calls.specs.declared.calls.JudgedCall.{JudgedCall}
use Rattle.controller_calls.specs.declared.line.Line.{Line}
use Rattle.controller_calls.proofs.OutcomeLaws.{JudgedComes, Passes, Refused, texts_kept, texts_have}
use Rattle.domain_controller.specs.Hearing.{hear}
use Rattle.domain_controller.specs.Laws.{AnswersUnits, AnswersOne, IsActionOn, IsAnswerTo, done_by_open}
use Rattle.domain_controller.specs.Machine.{controller_server}
use Rattle.domain_controller.specs.State.{State}
use Rattle.domain_controller.specs.Step.{LinkMap, after_units, by_event, first_desk, step_of}
use Rattle.domain_controller.specs.declared.hearing.Heard.{Heard}
use Rattle.domain_controller.specs.declared.hearing.Heard.TheVariants as heard
use Rattle.domain_controller.specs.declared.state.Running.{Running}
use Rattle.domain_controller.specs.declared.state.Talk.{Talk}
use Rattle.domain_controller.proofs.UnitLaws.{Acks, AnswerComes, Faults, IsHeardAs, Naks, Unbound, UnitCases, UnitFact, bytes_heard, heard_comes}
use Rattle.domain_controller.proofs.WalkLaws.{EventCases, acts_of, acts_step, event_comes}

-- ---- the stub of a reply

abbrev pub IsStub : List ℕ → Type 0
IsStub stub = ((answer : Reply) × (stub ≡ written_reply answer)) ⊎ ((answer : SetReply) × (stub ≡ written_set_reply answer))

pub passed_stub : (what : Asked) (key credential : List ℕ) (done : Done) → IsStub (stub_asked what key credential done)
passed_stub (asked.Network info validation) key credential done = inl (_, refl)
passed_stub (asked.Interactive info validation) key credential done = inl (_, refl)
passed_stub (asked.Logoff info) key credential done = inl (_, refl)
passed_stub asked.NetworkLogoff key credential done = inl (_, refl)
passed_stub (asked.Set account kind hidden) key credential done = inr (_, refl)

pub barred_stub : (what : Asked) → IsStub (refused_stub what)
barred_stub (asked.Network info validation) = inl (_, refl)
barred_stub (asked.Interactive info validation) = inl (_, refl)
barred_stub (asked.Logoff info) = inl (_, refl)
barred_stub asked.NetworkLogoff = inl (_, refl)
barred_stub (asked.Set account kind hidden) = inr (_, refl)

-- ---- what is heard of a unit

answers_it : (link : ℕ) (unit : RpcUnit) (talk : Talk) (bytes : List ℕ) (later : Talk) → AnswerComes link unit talk bytes later → IsAnswerTo unit bytes
answers_it link unit talk bytes later (Acks send receive group contexts free is same said) = inl (receive, contexts, same)
answers_it link unit talk bytes later (Naks free same said) = inr (inl same)
answers_it link unit talk bytes later (Unbound free same said) = inr (inr (inl (_, same)))
answers_it link unit talk bytes later (Faults status line small at same) =
    inr (inr (inl (
      status,
      same ∙ ap (λ n. written (fault_of n line.context status)) at.number ∙ ap (λ n. written (fault_of unit.call n status)) at.in_context,
    )))

module _ (link : ℕ) (all : List (List ℕ)) where
  -- what is answered on that line answers one of these units
  pub record AnswersOn (line : Line) : Type 0 where
    pub on : line.link ≡ link
    pub answers : (stub : List ℕ) → IsStub stub → AnswersOne all (bytes_of_call (response_of line.call line.context stub) line.limit)

  abbrev pub IsFor : Heard → Type 0
  IsFor (heard.Close cause) = Unit {0}
  IsFor (heard.Answer bytes talk) = AnswersOne all bytes
  IsFor (heard.Waits talk) = Unit {0}
  IsFor (heard.Asked line c talk) = AnswersOn line

  stub_answers : (unit : RpcUnit) (line : Line) (stub : List ℕ) → line.call ≡ unit.call → line.context ≡ context_of unit.body → IsStub stub →
      IsAnswerTo unit (bytes_of_call (response_of line.call line.context stub) line.limit)
  stub_answers unit line stub number context is =
      let same : bytes_of_call (response_of line.call line.context stub) line.limit ≡ bytes_of_call (response_of unit.call (context_of unit.body) stub) line.limit =
      ap (λ n. bytes_of_call (response_of n line.context stub) line.limit) number ∙ ap (λ n. bytes_of_call (response_of unit.call n stub) line.limit) context in
      elim is [
        | inl answer ↦ inr (inr (inr (inl (answer.0, line.limit, same ∙ ap (λ s. bytes_of_call (response_of unit.call (context_of unit.body) s) line.limit) answer.1))))
        | inr answer ↦ inr (inr (inr (inr (answer.0, line.limit, same ∙ ap (λ s. bytes_of_call (response_of unit.call (context_of unit.body) s) line.limit) answer.1))))
      ]

  pub unit_for : (unit : RpcUnit) (talk : Talk) (bytes : List ℕ) → Contains all bytes → unit_of bytes ≡ Ok unit → (h : Heard) → IsHeardAs link unit talk h → IsFor h
  unit_for unit talk bytes has is (heard.Close cause) known = tt
  unit_for unit talk bytes has is (heard.Answer sent later) known = (has.0, bytes, has.1, has.2, (unit, is, answers_it link unit talk sent later known))
  unit_for unit talk bytes has is (heard.Waits later) known = tt
  unit_for unit talk bytes has is (heard.Asked line c later) known = record {
    on = ap (λ (l : Line). l.link) known.0.line_is;
    answers = λ stub of. (has.0, bytes, has.1, has.2, (unit, is, stub_answers unit line stub known.0.number known.0.in_context of));
  }

  -- ---- the actions of a unit

  abbrev On : Action → Type 0
  On what = IsActionOn link all what

  -- actions that are done on the link were added
  abbrev Adds : List Action → List Action → Type 0
  Adds old new = (more : List Action) × (new ≡ old ++ more) × AllByRecursion On more

  abbrev PartAdds : List Action → ServedPart Desk Talk → Type 0
  PartAdds old (Err why) = Unit {0}
  PartAdds old (Ok part) = Adds old part.value.0.work.actions

  adds_one : (old : List Action) (what : Action) → On what → Adds old (old ++ what ∷ [])
  adds_one old what has = (what ∷ [], refl, (has, tt))

  all_both : (one other : List Action) → AllByRecursion On one → AllByRecursion On other → AllByRecursion On (one ++ other)
  all_both [] other have more = more
  all_both (what ∷ one) other have more = (have.0, all_both one other have.1 more)

  adds_both : (one other third : List Action) → Adds one other → Adds other third → Adds one third
  adds_both one other third first second = (
    first.0 ++ second.0,
    second.1 ∙ ap (λ (x : List Action). x ++ second.0) first.1 ∙ append_assoc one first.0 second.0,
    all_both first.0 second.0 first.2 second.2,
  )

  from_adds : (one other : List Action) (part : ServedPart Desk Talk) → Adds one other → PartAdds other part → PartAdds one part
  from_adds one other (Err why) adds later = tt
  from_adds one other (Ok part) adds later = adds_both one other part.value.0.work.actions adds later

  sends_stub : (line : Line) (old : List Action) (stub : List ℕ) → AnswersOn line → IsStub stub →
      Adds old (old ++ action.Send line.link (bytes_of_call (response_of line.call line.context stub) line.limit) ∷ [])
  sends_stub line old stub is of = adds_one old _ (is.on, is.answers stub of)

  judged_adds : (line : Line) (c : JudgedCall) (name : List ℕ) (now : ℕ) (d after : Desk) → AnswersOn line → JudgedComes c name now line d after → Adds d.work.actions after.work.actions
  judged_adds line c name now d after is (Refused how away) = (_, away.actions, (tt, ((is.on, is.answers (refused_stub (asked_of c)) (barred_stub (asked_of c))), tt)))
  judged_adds line c name now d after is (Passes next so) =
      let done : Done = done_by c next.channel name d.table now d.work.computers.sessions in (
        _,
        so.actions,
        all_both (kept_asked (asked_of c) done) _ (texts_have On (λ text. tt) (kept_asked (asked_of c) done) (texts_kept (asked_of c) done))
            (tt, ((is.on, is.answers _ (passed_stub (asked_of c) _ _ done)), tt)),
      )

  abbrev UnitAdds : List Action → UnitFact
  UnitAdds old h part = IsFor h → PartAdds old part

  unit_cases : (name : List ℕ) (now : ℕ) (d : Desk) (left : List (List ℕ)) → UnitCases (UnitAdds d.work.actions) link name now d left
  unit_cases name now d left = record {
    close = λ cause is. adds_one d.work.actions (action.Close link cause) refl;
    answer = λ bytes talk is. adds_one d.work.actions (action.Send link bytes) (refl, is);
    waits = λ talk is. ([], sym (append-nil d.work.actions), tt);
    spent = λ line c talk none is. tt;
    unknown = λ line c talk server rest drawn none is. sends_stub line d.work.actions _ is (inl (_, refl));
    known = λ line c talk server rest drawn known is. sends_stub line d.work.actions _ is (inl (_, refl));
    denied = λ line c talk status fails none is. sends_stub line d.work.actions _ is (inl (_, refl));
    accepted = λ line c talk opens is. sends_stub line d.work.actions _ is (inl (_, refl));
    judged = λ line c talk after comes is. judged_adds line c name now d after is comes;
  }

  -- ---- the units of a stream

  units_add : (name : List ℕ) (now : ℕ) → StaysAmong (controller_server name now link) (Contains all) (PartAdds [])
  units_add name now = record {
    spent = λ why. tt;
    unit = λ bytes d talk left has adds.
        from_adds [] d.work.actions _ adds
        (heard_comes (UnitAdds d.work.actions) link name now d left (unit_cases name now d left) (hear link bytes talk)
        (bytes_heard IsFor link bytes talk (λ cause. tt) (λ unit h is known. unit_for unit talk bytes has is h known)));
    refusal = λ why d talk left adds. adds_both [] d.work.actions _ adds (adds_one d.work.actions (action.Close link close.BadUnit) refl);
  }

  link_adds : (part : ServedPart Desk Talk) (rest : List ℕ) (links : LinkMap) → PartAdds [] part → AllByRecursion On (acts_of (after_units part rest link links))
  link_adds (Err why) rest links adds = tt
  link_adds (Ok part) rest links adds = subst (λ actions. AllByRecursion On actions) (sym adds.1) adds.2

-- each unit is among the units
pub all_of : (P : List ℕ → Type 0) (units : List (List ℕ)) → ((bytes : List ℕ) → Contains units bytes → P bytes) → AllByRecursion P units
all_of P [] has = tt
all_of P (bytes ∷ units) has =
    (has bytes (0, omega arith, refl), all_of P units (λ other is. has other (suc is.0, (let less = is.1 in omega arith), is.2)))

-- ---- a step

-- what is done at each event
abbrev Does : LinkMap → Event → List Action → Type 0
Does links (event.Bytes number piece) actions =
    ((link : LinkState Talk) → lookup same_number number links ≡ Some link → AllByRecursion (IsActionOn number (cut_stream (link.rest ++ piece)).units) actions)
    × (lookup same_number number links ≡ None → actions ≡ [])
Does links (event.Opened number) actions = actions ≡ done_by_open (nat_le 256 (length (take_out same_number number links))) number
Does links event.Stop actions = actions ≡ []
Does links (event.Closed number) actions = Unit {0}
Does links (event.Dialled number) actions = Unit {0}
Does links event.DialFailed actions = Unit {0}

pub none_some : {T : Type 0} (value : T) (found : Option T) → found ≡ None → found ≡ Some value → ⊥
none_some value found none is = let never : None ≡ Some value = sym none ∙ is in cc

pub one_some : {T : Type 0} (value other : T) (found : Option T) → found ≡ Some value → found ≡ Some other → value ≡ other
one_some value other found one is = let both : Some value ≡ Some other = sym one ∙ is in cc

event_does : (s : State) (running : Running) (now : ℕ) (left : List (List ℕ)) →
    EventCases (λ what part. Does running.links what (acts_of part)) s.name now (first_desk s.table running) running.links left
event_does s running now left = record {
  full = λ number is. sym (ap (λ (full : Bool). done_by_open full number) is);
  opens = λ number is. sym (ap (λ (full : Bool). done_by_open full number) is);
  serves = λ number piece link is.
      let cut = cut_stream (link.rest ++ piece) in
      let d : Desk = first_desk s.table running in
      let others : LinkMap = take_out same_number number running.links in
      let part : ServedPart Desk Talk = served_cut (controller_server s.name now number) cut d link.talk left in (
        λ other so.
            subst (λ (one : LinkState Talk). AllByRecursion (IsActionOn number (cut_stream (one.rest ++ piece)).units) (acts_of (after_units part cut.rest number others)))
            (one_some link other (lookup same_number number running.links) is so)
            (link_adds number cut.units part cut.rest others
            (served_among (controller_server s.name now number) (Contains cut.units) (PartAdds number cut.units []) (units_add number cut.units s.name now) cut d link.talk left
            (all_of (Contains cut.units) cut.units (λ bytes has. has)) ([], refl, tt))),
        λ none. absurd (none_some link (lookup same_number number running.links) none is),
      );
  drops = λ number piece is. (λ link so. absurd (none_some link (lookup same_number number running.links) is so), λ none. refl);
  closed = λ number. tt;
  dialled = λ number. tt;
  failed = tt;
  stop = refl;
}

does : (s : State) (running : Running) (what : Event) (now : ℕ) (left : List (List ℕ)) → s.running ≡ Some running → Does running.links what (actions_of (step_of s what now left))
does s running what now left is =
    acts_step (Does running.links what) s what now left (λ none. absurd (none_some running s.running none is)) (λ other so.
    subst (λ (r : Running). Does running.links what (acts_of (by_event what s.name now (first_desk s.table r) r.links left))) (one_some running other s.running is so)
    (event_comes (λ happens part. Does running.links happens (acts_of part)) s.name now (first_desk s.table running) running.links left (event_does s running now left) what))

pub answers_units : AnswersUnits
answers_units = record {
  bytes = λ s running number link piece now left is found. (does s running (event.Bytes number piece) now left is).0 link found;
  other = λ s running number piece now left is none. (does s running (event.Bytes number piece) now left is).1 none;
  opens = λ s running number now left is. does s running (event.Opened number) now left is;
  stop = λ s now left. acts_step (λ actions. actions ≡ []) s event.Stop now left (λ none. refl) (λ running is. refl);
}
