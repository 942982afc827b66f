-- What bytes come to at a member, by the units that it serves on an accepted link: said once for each fact of what is
-- written down of them and of what is kept then. It serves the laws of what a member takes and sends on its links, here
-- and in the world.
use Rattle.std.proofs.Common.{◌≡◌, ℕ, ◌==◌, Bool, true, false, List, [], ◌∷◌, ◌++◌, Option, Some, None, Result, Ok, Err, refl, sym, subst}
use Rattle.std.proofs.lemmas.Bool.{eqb-true}
use Rattle.wire_base.specs.Maps.{lookup, same_number}
use Rattle.outside.specs.declared.action.StepRefused.{StepRefused}
use Rattle.outside.specs.declared.event.Event.TheVariants as event
use Rattle.outside.specs.Drawing.{IsRest}
use Rattle.outside.specs.Machine.{Part, Stepped, spent_step, step_by, stopped_step, whole_step}
use Rattle.rpc_units.specs.Stream.{cut_stream}
use Rattle.end_links.specs.Links.{LinkState}
use Rattle.end_links.specs.Serving.{ServedPart, ServedUnit, served_units}
use Rattle.channel_turns.specs.declared.state.Dialling.{Dialling}
use Rattle.channel_turns.specs.declared.state.Dialling.TheVariants as dialling
use Rattle.channel_turns.specs.declared.state.TurnTalk.{TurnTalk}
use Rattle.member_server.specs.declared.state.AtLink.{AtLink}
use Rattle.member_server.specs.declared.state.Running.{Running}
use Rattle.member_server.specs.declared.state.Talk.{Talk}
use Rattle.member_server.specs.declared.state.Work.{Work}
use Rattle.member_server.specs.Machine.{actions_in, after_units, bytes_by, bytes_on, bytes_on_link, event_part, halted_state, serve_alone, serve_dialled, state_in, step_of, step_on, work_of}
use Rattle.member_server.specs.Outcomes.{after_link, at_link, keep_link, without_link}
use Rattle.member_server.specs.State.{State as MemberState}
use Rattle.member_server.specs.Turns.{DialWork}
use Rattle.member_server.specs.Units.{link_server}
use Rattle.member_server.proofs.StepFrame.{IsDrawnNext, KeepsNext, PartHolds, WorkFact, next_follows}
use Rattle.step_notes.specs.MemberNotes.{is_turn_link, link_units, link_units_by, link_units_in, link_units_on}
use Rattle.step_notes.specs.Served.{units_if_taken}

-- ---- a part of a step

pub part_each : (Holds : WorkFact) (part : Result (Part DialWork) StepRefused) → ((how : Dialling) (w : Work) (left : List (List ℕ)) → Holds how w left) → PartHolds Holds part
part_each Holds (Err why) each = tt
part_each Holds (Ok part) each = each part.value.1 part.value.0 part.left

pub part_so : (One Other : WorkFact) (part : Result (Part DialWork) StepRefused) → ((how : Dialling) (w : Work) (left : List (List ℕ)) → One how w left → Other how w left) →
    PartHolds One part → PartHolds Other part
part_so One Other (Err why) so holds = tt
part_so One Other (Ok part) so holds = so part.value.1 part.value.0 part.left holds

-- a turn that starts leaves a rest of the challenges
pub drawn_rest : (needs : Bool) (challenge : List ℕ) (before after : List (List ℕ)) → IsDrawnNext needs challenge before after → IsRest after before
drawn_rest false challenge before after drawn = record { front = []; is = drawn.1 }
drawn_rest true challenge before after drawn = record { front = challenge ∷ []; is = sym drawn }

-- after the units of a link, which stays open or is closed
pub units_then : (Holds : WorkFact) (part : ServedPart AtLink Talk) (rest : List ℕ) (number : ℕ) (how : Dialling) (w : Work) →
    ((at : AtLink) (said : Option Talk) (left : List (List ℕ)) → part ≡ Ok (record { value = (at, said); left = left }) → Holds how (keep_link said rest number (after_link at w)) left) →
    PartHolds Holds (after_units part rest number how w)
units_then Holds (Err why) rest number how w so = tt
units_then Holds (Ok part) rest number how w so = so part.value.0 part.value.1 part.left refl

module _ (number : ℕ) (piece : List ℕ) (now : ℕ) (left : List (List ℕ)) (m : MemberState)
    (Middle : List (ServedUnit AtLink Talk) → WorkFact) (After : List (ServedUnit AtLink Talk) → Stepped MemberState → Type 0) where
  -- the step, where it is taken
  abbrev pub stepped_to : Dialling → Work → List (List ℕ) → Stepped MemberState
  stepped_to how w rest = whole_step left rest w.actions (state_in (w, how))

  abbrev pub Stepping : List (ServedUnit AtLink Talk) → WorkFact
  Stepping units how w rest = After units (stepped_to how w rest)

  -- `Middle` once the bytes are served, and `After` once the step is done: of the units that were served
  pub record HearsBytes : Type 0 where
    -- the member had stopped, or the challenges weren't enough: nothing is written down
    pub stopped : After [] (stopped_step left m)
    pub spent : After [] (spent_step left halted_state)
    -- the member has no link of that number
    pub nowhere : (running : Running) → m.running ≡ Some running → Middle [] running.dialling (work_of running) left
    pub on_link : (running : Running) (link : LinkState Talk) (how : Dialling) → m.running ≡ Some running → running.dialling ≡ how → lookup same_number number running.links ≡ Some link →
        PartHolds (Middle (served_units link_server (cut_stream (link.rest ++ piece)).units (at_link number (work_of running)) link.talk left))
        (serve_alone (cut_stream (link.rest ++ piece)) number link.talk how (without_link number (work_of running)) left)
    pub on_turn : (running : Running) (said : LinkState TurnTalk) → m.running ≡ Some running → running.dialling ≡ dialling.On number said →
        PartHolds (Middle []) (serve_dialled (cut_stream (said.rest ++ piece)) number said.talk (work_of running) left)
    pub next : (units : List (ServedUnit AtLink Talk)) → KeepsNext now (Middle units) (Stepping units)

  module _ (hears : HearsBytes) where
    module _ (running : Running) (runs : m.running ≡ Some running) where
      link_hears : (found : Option (LinkState Talk)) (how : Dialling) → lookup same_number number running.links ≡ found → running.dialling ≡ how →
          PartHolds (Middle (link_units_on found number piece running left)) (bytes_on_link found number piece how (work_of running) left)
      link_hears None how there is = subst (λ (d : Dialling). Middle [] d (work_of running) left) is (hears.nowhere running runs)
      link_hears (Some link) how there is = hears.on_link running link how runs is there

      turn_hears : (hit : Bool) (other : ℕ) (said : LinkState TurnTalk) → (other == number) ≡ hit → running.dialling ≡ dialling.On other said →
          PartHolds (Middle (link_units_by hit number piece running left)) (bytes_by hit said number piece (dialling.On other said) (work_of running) left)
      turn_hears true other said hit is = hears.on_turn running said runs (subst (λ (n : ℕ). running.dialling ≡ dialling.On n said) (eqb-true other number hit) is)
      turn_hears false other said hit is = link_hears (lookup same_number number running.links) (dialling.On other said) refl is

      on_hears : (how : Dialling) → running.dialling ≡ how →
          PartHolds (Middle (link_units_by (is_turn_link how number) number piece running left)) (bytes_on how number piece (work_of running) left)
      on_hears dialling.Nothing is = link_hears (lookup same_number number running.links) dialling.Nothing refl is
      on_hears (dialling.Waits turn frames) is = link_hears (lookup same_number number running.links) (dialling.Waits turn frames) refl is
      on_hears (dialling.On other said) is = turn_hears (other == number) other said refl is

    part_hears : (units : List (ServedUnit AtLink Talk)) (part : Result (Part DialWork) StepRefused) → PartHolds (Stepping units) part →
        After (units_if_taken (step_by actions_in state_in halted_state left part).answer units) (step_by actions_in state_in halted_state left part)
    part_hears units (Err why) holds = hears.spent
    part_hears units (Ok part) holds = holds

    running_hears : (r : Option Running) → m.running ≡ r →
        After (units_if_taken (step_on r m (event.Bytes number piece) now left).answer (link_units_in r number piece left)) (step_on r m (event.Bytes number piece) now left)
    running_hears None runs = hears.stopped
    running_hears (Some running) runs =
        let units : List (ServedUnit AtLink Talk) = link_units_in (Some running) number piece left in
        part_hears units (event_part running (event.Bytes number piece) now left)
        (next_follows now (Middle units) (Stepping units) (hears.next units) (bytes_on running.dialling number piece (work_of running) left)
        (on_hears running runs running.dialling refl))

    pub bytes_hear : After (link_units m number piece now left) (step_of m (event.Bytes number piece) now left)
    bytes_hear = running_hears m.running refl
