-- What units on an accepted link make at a controller that asks others. It serves `actions_stand_in_order`.
use Rattle.std.proofs.Common.{◌++◌, ℕ, List, [], ◌∷◌, Ok, Err, inl, refl, sym, subst}
use Rattle.std.specs.List.{AllByRecursion, Contains}
use Rattle.outside.specs.declared.action.Action.{Action}
use Rattle.outside.specs.declared.action.Action.TheVariants as action
use Rattle.outside.specs.declared.action.CloseCause.TheVariants as close
use Rattle.rpc_units.specs.Calls.{bytes_of_call}
use Rattle.rpc_units.specs.Stream.{Cut}
use Rattle.end_links.proofs.KeepLaws.{StaysAmong, served_among}
use Rattle.end_links.specs.Sending.{response_of}
use Rattle.end_links.specs.Serving.{ServedPart, served_cut}
use Rattle.controller_calls.specs.Calls.{asked_of}
use Rattle.controller_calls.specs.Desk.{Desk}
use Rattle.controller_calls.specs.Doing.{Done, done_by, kept_asked, refused_stub}
use Rattle.controller_calls.specs.declared.calls.ControllerCall.TheVariants as call
use Rattle.controller_calls.specs.declared.calls.JudgedCall.{JudgedCall}
use Rattle.controller_calls.specs.declared.line.Line.{Line}
use Rattle.controller_calls.proofs.OutcomeLaws.{JudgedComes, Passes, Refused, judged_comes, texts_have, texts_kept}
use Rattle.domain_controller.specs.Forwarding.{TrustDesk, answer_trust_call, base_desk, beside, by_trust_heard, trust_server}
use Rattle.domain_controller.specs.Hearing.{hear}
use Rattle.domain_controller.specs.Machine.{by_heard}
use Rattle.domain_controller.specs.TrustActions.{IsServedOn}
use Rattle.domain_controller.specs.declared.hearing.Heard.{Heard}
use Rattle.domain_controller.specs.declared.hearing.Heard.TheVariants as heard
use Rattle.domain_controller.specs.declared.state.Talk.{Talk}
use Rattle.domain_controller.specs.declared.trusting.Queues.{Queues}
use Rattle.domain_controller.proofs.HandOnLaws.{CallGoes, GoesOn, IsLeft, StaysHere, call_goes, judges_refused}
use Rattle.domain_controller.proofs.SendLaws.{AnswersOn, IsFor, IsStub, all_of, barred_stub, passed_stub, unit_for}
use Rattle.domain_controller.proofs.TrustWalkLaws.{AddsTo, adds_both, adds_none, adds_one}
use Rattle.domain_controller.proofs.UnitLaws.{UnitCases, bytes_heard, heard_comes}

module _ (link : ℕ) (all : List (List ℕ)) where
  abbrev On : Action → Type 0
  On what = IsServedOn link all what

  abbrev Adds : List Action → List Action → Type 0
  Adds old new = AddsTo On old new

  abbrev PartAdds : List Action → ServedPart Desk Talk → Type 0
  PartAdds old (Err why) = Unit {0}
  PartAdds old (Ok part) = Adds old part.value.0.work.actions

  all_both : (one other : List Action) → AllByRecursion On one → AllByRecursion On other → AllByRecursion On (one ++ other)
  all_both [] other have more = more
  all_both (what ∷ one) other have more = (have.0, all_both one other have.1 more)

  sends_stub : (line : Line) (old : List Action) (stub : List ℕ) → AnswersOn link all line → IsStub stub →
      Adds old (old ++ action.Send line.link (bytes_of_call (response_of line.call line.context stub) line.limit) ∷ [])
  sends_stub line old stub is of = adds_one On old _ (is.on, is.answers stub of)

  judged_adds : (line : Line) (c : JudgedCall) (name : List ℕ) (now : ℕ) (d after : Desk) → AnswersOn link all line → JudgedComes c name now line d after → Adds d.work.actions after.work.actions
  judged_adds line c name now d after is (Refused how away) = (
    _,
    away.actions,
    (judges_refused c d.work.computers how after.work.computers.channels away.why, ((is.on, is.answers (refused_stub (asked_of c)) (barred_stub (asked_of c))), tt)),
  )
  judged_adds line c name now d after is (Passes next so) =
      let done : Done = done_by c next.channel name d.table now d.work.computers.sessions in (
        _,
        so.actions,
        all_both (kept_asked (asked_of c) done) _ (texts_have On (λ text. tt) (kept_asked (asked_of c) done) (texts_kept (asked_of c) done))
            (refl, ((is.on, is.answers _ (passed_stub (asked_of c) _ _ done)), tt)),
      )

  abbrev UnitAdds : List Action → Heard → ServedPart Desk Talk → Type 0
  UnitAdds old h part = IsFor link all h → PartAdds old part

  unit_cases : (name : List ℕ) (now : ℕ) (d : Desk) (left : List (List ℕ)) → UnitCases (UnitAdds d.work.actions) link name now d left
  unit_cases name now d left = record {
    close = λ cause is. adds_one On d.work.actions (action.Close link cause) refl;
    answer = λ bytes talk is. adds_one On d.work.actions (action.Send link bytes) (refl, is);
    waits = λ talk is. adds_none On d.work.actions;
    spent = λ line c talk none is. tt;
    unknown = λ line c talk server rest drawn none is. sends_stub line d.work.actions _ is (inl (_, refl));
    known = λ line c talk server rest drawn known is. sends_stub line d.work.actions _ is (inl (_, refl));
    denied = λ line c talk status fails none is. sends_stub line d.work.actions _ is (inl (_, refl));
    accepted = λ line c talk opens is. sends_stub line d.work.actions _ is (inl (_, refl));
    judged = λ line c talk after comes is. judged_adds line c name now d after is comes;
  }

  -- ---- a unit

  abbrev pub TrustAdds : List Action → ServedPart TrustDesk Talk → Type 0
  TrustAdds old (Err why) = Unit {0}
  TrustAdds old (Ok part) = Adds old part.value.0.work.work.actions

  beside_adds : (old : List Action) (queues : Queues) (part : ServedPart Desk Talk) → PartAdds old part → TrustAdds old (beside queues part)
  beside_adds old queues (Err why) adds = tt
  beside_adds old queues (Ok part) adds = adds

  call_adds : (c : JudgedCall) (name : List ℕ) (now : ℕ) (line : Line) (d after : TrustDesk) → AnswersOn link all line → CallGoes c name now line d after →
      Adds d.work.work.actions after.work.work.actions
  call_adds c name now line d after is (GoesOn there so) = (_, so.actions, (refl, tt))
  call_adds c name now line d after is (IsLeft goes so) = (_, so.actions, (refl, ((is.on, is.answers _ (inl (_, refl))), tt)))
  call_adds c name now line d after is (StaysHere not same) =
      subst (λ (other : TrustDesk). Adds d.work.work.actions other.work.work.actions) (sym same)
      (judged_adds line c name now (base_desk d) _ is (judged_comes c name now line (base_desk d)))

  heard_adds : (h : Heard) (name : List ℕ) (now : ℕ) (d : TrustDesk) (left : List (List ℕ)) → IsFor link all h → TrustAdds d.work.work.actions (by_trust_heard h link name now d left)
  heard_adds (heard.Close cause) name now d left is =
      beside_adds d.work.work.actions d.work.queues (by_heard (heard.Close cause) link name now (base_desk d) left)
      (heard_comes (UnitAdds d.work.work.actions) link name now (base_desk d) left (unit_cases name now (base_desk d) left) (heard.Close cause) is)
  heard_adds (heard.Answer bytes talk) name now d left is =
      beside_adds d.work.work.actions d.work.queues (by_heard (heard.Answer bytes talk) link name now (base_desk d) left)
      (heard_comes (UnitAdds d.work.work.actions) link name now (base_desk d) left (unit_cases name now (base_desk d) left) (heard.Answer bytes talk) is)
  heard_adds (heard.Waits talk) name now d left is = adds_none On d.work.work.actions
  heard_adds (heard.Asked line (call.Challenge c) talk) name now d left is =
      beside_adds d.work.work.actions d.work.queues (by_heard (heard.Asked line (call.Challenge c) talk) link name now (base_desk d) left)
      (heard_comes (UnitAdds d.work.work.actions) link name now (base_desk d) left (unit_cases name now (base_desk d) left) (heard.Asked line (call.Challenge c) talk) is)
  heard_adds (heard.Asked line (call.Authenticate c) talk) name now d left is =
      beside_adds d.work.work.actions d.work.queues (by_heard (heard.Asked line (call.Authenticate c) talk) link name now (base_desk d) left)
      (heard_comes (UnitAdds d.work.work.actions) link name now (base_desk d) left (unit_cases name now (base_desk d) left) (heard.Asked line (call.Authenticate c) talk) is)
  heard_adds (heard.Asked line (call.Judged c) talk) name now d left is =
      call_adds c name now line d (answer_trust_call c name now line d) is (call_goes c name now line d)

  from_adds : (one other : List Action) (part : ServedPart TrustDesk Talk) → Adds one other → TrustAdds other part → TrustAdds one part
  from_adds one other (Err why) adds later = tt
  from_adds one other (Ok part) adds later = adds_both On one other part.value.0.work.work.actions adds later

  -- ---- the units of a piece

  units_add : (old : List Action) (name : List ℕ) (now : ℕ) → StaysAmong (trust_server name now link) (Contains all) (TrustAdds old)
  units_add old name now = record {
    spent = λ why. tt;
    unit = λ bytes d talk left has adds.
        from_adds old d.work.work.actions (by_trust_heard (hear link bytes talk) link name now d left) adds
        (heard_adds (hear link bytes talk) name now d left
        (bytes_heard (λ h. IsFor link all h) link bytes talk (λ cause. tt) (λ unit h is known. unit_for link all unit talk bytes has is h known)));
    refusal = λ why d talk left adds.
        adds_both On old d.work.work.actions _ adds (adds_one On d.work.work.actions (action.Close link close.BadUnit) refl);
  }

-- each send for a piece answers one of its units
pub link_serves : (link : ℕ) (cut : Cut) (name : List ℕ) (now : ℕ) (d : TrustDesk) (talk : Talk) (left : List (List ℕ)) →
    TrustAdds link cut.units d.work.work.actions (served_cut (trust_server name now link) cut d talk left)
link_serves link cut name now d talk left =
    served_among (trust_server name now link) (Contains cut.units) (TrustAdds link cut.units d.work.work.actions) (units_add link cut.units d.work.work.actions name now) cut d talk left
    (all_of (Contains cut.units) cut.units (λ bytes has. has)) (adds_none (λ what. IsServedOn link cut.units what) d.work.work.actions)
