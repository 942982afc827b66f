-- The link of a member's turn through each step: it stays the one on which the turn's bind went out, and nothing is
-- open on it, where what comes on it are whole units. It serves `runs_stand_so`.
use Rattle.std.proofs.Common.{◌≡◌, ℕ, List, [], ◌++◌, Option, Some, None, refl, sym, ap, subst}
use Rattle.outside.specs.declared.event.Event.{Event}
use Rattle.outside.specs.declared.event.Event.TheVariants as event
use Rattle.rpc_units.specs.Calls.{IsHeard}
use Rattle.rpc_units.specs.Stream.{cut_stream}
use Rattle.rpc_units.specs.declared.unit.Unit.{Unit as RpcUnit}
use Rattle.end_links.specs.Links.{LinkState}
use Rattle.end_links.specs.Serving.{ServedPart}
use Rattle.channel_client.specs.Machine.{Taking, take_of}
use Rattle.member_server.specs.Machine.{after_turn, at_turn, serve_dialled, keep_turn, step_of}
use Rattle.member_server.specs.Outcomes.{without_link}
use Rattle.member_server.specs.State.{State as MemberState}
use Rattle.member_server.specs.Turns.{AtTurn, take_by, turn_work, with_requester, with_work}
use Rattle.channel_turns.specs.declared.state.Dialling.{Dialling}
use Rattle.channel_turns.specs.declared.state.Dialling.TheVariants as dialling
use Rattle.member_server.specs.declared.state.Running.{Running}
use Rattle.channel_turns.specs.declared.state.TurnTalk.{TurnTalk}
use Rattle.member_server.specs.declared.state.Work.{Work}
use Rattle.channel_turns.proofs.KeepLaws.{taken_by}
use Rattle.member_server.proofs.StepFrame.{KeepsEvent, KeepsNext, PartHolds, WorkFact, dial_stays, part_keeps, step_keeps}
use Rattle.step_notes.proofs.Controllers.HeardLaws.{controllers_hear}
use Rattle.step_notes.proofs.Members.TurnHeardLaws.{members_take}

-- ---- the link of the turn

-- nothing is open on the link of the turn, and `Own` holds of it
pub record IsRested (Own : ℕ → Type 0) (number : ℕ) (said : LinkState TurnTalk) : Type 0 where
  pub own : Own number
  pub rest : said.rest ≡ []
  pub joiner : said.talk.joiner ≡ None

abbrev pub IfOn : (ℕ → Type 0) → Dialling → Type 0
IfOn Own dialling.Nothing = Unit {0}
IfOn Own (dialling.Waits turn frames) = Unit {0}
IfOn Own (dialling.On number said) = IsRested Own number said

abbrev pub OnUnlessStopped : (ℕ → Type 0) → Option Running → Type 0
OnUnlessStopped Own None = Unit {0}
OnUnlessStopped Own (Some running) = IfOn Own running.dialling

-- the bytes are those of one whole unit
pub record IsOneUnit (bytes : List ℕ) : Type 0 where
  pub frames : List RpcUnit
  pub unit : RpcUnit
  pub heard : IsHeard bytes frames unit

-- what must be known of an event: `Own` holds of the link of an answered dial, and what comes on such links is a whole
-- unit
abbrev pub ComesWell : (ℕ → Type 0) → Event → Type 0
ComesWell Own (event.Opened link) = Unit {0}
ComesWell Own (event.Bytes link piece) = Own link → IsOneUnit piece
ComesWell Own (event.Closed link) = Unit {0}
ComesWell Own (event.Dialled link) = Own link
ComesWell Own event.DialFailed = Unit {0}
ComesWell Own event.Stop = Unit {0}

module _ (Own : ℕ → Type 0) where
  abbrev On : WorkFact
  On how w left = IfOn Own how

  taken_on : (taking : Taking) (at : AtTurn) (rest : List ℕ) (number : ℕ) → Own number → rest ≡ [] → IfOn Own (keep_turn (take_by taking None at).1 rest number)
  taken_on taking at rest number own is =
      taken_by taking.taken None (turn_work (with_work at (with_requester at.work taking.state))) (λ served. IfOn Own (keep_turn served.1 rest number)) (record {
        skips = λ right same. record { own = own; rest = is; joiner = refl };
        sends = λ right frames same. record { own = own; rest = is; joiner = refl };
        ends = λ how same. tt;
      })

  turn_on : (number : ℕ) (piece : List ℕ) (said : LinkState TurnTalk) (work : Work) (left : List (List ℕ)) → IsRested Own number said → (Own number → IsOneUnit piece) →
      PartHolds On (serve_dialled (cut_stream (said.rest ++ piece)) number said.talk work left)
  turn_on number piece said work left on one =
      let unit : IsOneUnit piece = one on.own in
      let bytes : said.rest ++ piece ≡ piece = ap (λ (rest : List ℕ). rest ++ piece) on.rest in
      subst (λ (all : List ℕ). PartHolds On (serve_dialled (cut_stream all) number said.talk work left)) (sym bytes)
      (subst (λ (part : ServedPart AtTurn TurnTalk). PartHolds On (after_turn part (cut_stream piece).rest number))
      (sym (members_take.comes piece unit.frames unit.unit (at_turn number work) said.talk left unit.heard on.joiner))
      (taken_on (take_of work.logons.channel unit.unit) (at_turn number work) (cut_stream piece).rest number on.own
      (controllers_hear.rest piece unit.frames unit.unit unit.heard)))

  event_on : (what : Event) → ComesWell Own what → KeepsEvent what On On
  event_on what well = record {
    still = λ how w left on. on;
    closes = λ link how w left on. on;
    loses = λ cause how w left lost none on. tt;
    full = λ link how w left is on. on;
    opens = λ link how w left is on. on;
    answers = λ link turn frames w left is on. record { own = subst (ComesWell Own) is well; rest = refl; joiner = refl };
    link = λ number piece link how w left is there on. dial_stays (IfOn Own) (cut_stream (link.rest ++ piece)) number link.talk how (without_link number w) left on;
    turn = λ number piece said w left is on. turn_on number piece said w left on (subst (ComesWell Own) is well);
  }

  next_on : (now : ℕ) → KeepsNext now On On
  next_on now = record { still = λ how w left can on. on; starts = λ turn frames challenge how w before after can drawn answer on. tt }

  pub turn_stays : (m : MemberState) (what : Event) (now : ℕ) (left : List (List ℕ)) → OnUnlessStopped Own m.running → ComesWell Own what →
      OnUnlessStopped Own (step_of m what now left).state.running
  turn_stays m what now left on well =
      step_keeps (OnUnlessStopped Own) what now left m tt on
      (λ running runs. part_keeps On On On running what now left (event_on what well) (next_on now) (subst (OnUnlessStopped Own) runs on))
