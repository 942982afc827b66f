-- What follows a link that was closed, or a dial's answer: no link is closed.
use Rattle.std.proofs.Common.{◌≡◌, ℕ, Bool, true, false, List, [], ◌∷◌, ◌++◌, Option, Some, None, Result, Ok, Err, refl, sym, ap, subst, ◌∙◌, if◌then◌else◌}
use Rattle.wire_base.specs.Maps.{lookup, has_key, same_number}
use Rattle.outside.specs.declared.action.Action.{Action}
use Rattle.outside.specs.declared.action.Action.TheVariants as action
use Rattle.outside.specs.declared.action.DropCause.{DropCause}
use Rattle.outside.specs.declared.action.Outcome.TheVariants as outcome
use Rattle.outside.specs.declared.action.StepRefused.{StepRefused}
use Rattle.outside.specs.declared.event.Event.{Event}
use Rattle.outside.specs.declared.event.Event.TheVariants as event
use Rattle.outside.specs.Machine.{Part, step_by}
use Rattle.rpc_units.specs.declared.unit.Unit.{Unit as RpcUnit}
use Rattle.rpc_units.specs.Numbers.{rpc_s_server_unavailable}
use Rattle.rpc_units.specs.Reading.{unit_of}
use Rattle.rpc_units.specs.Writing.{written}
use Rattle.end_links.specs.Links.{LinkState}
use Rattle.end_links.specs.Sending.{fault_of, joined_frames}
use Rattle.end_loop.specs.Acts.{is_made}
use Rattle.end_loop.specs.Runs.{actions_of}
use Rattle.channel_client.specs.Machine.{lose_of}
use Rattle.member_server.specs.declared.outcomes.Ending.TheVariants as ending
use Rattle.member_server.specs.declared.state.AtLink.{AtLink}
use Rattle.member_server.specs.declared.state.Bound.{Bound}
use Rattle.member_server.specs.declared.state.Phase.{Phase}
use Rattle.member_server.specs.declared.state.Phase.TheVariants as phase
use Rattle.member_server.specs.declared.state.Running.{Running}
use Rattle.member_server.specs.declared.state.Talk.{Talk}
use Rattle.channel_turns.specs.declared.state.TurnEnd.TheVariants as turn_end
use Rattle.member_server.specs.declared.state.Work.{Work}
use Rattle.member_server.specs.Laws.{CloseNoLinks, AreRequests, ClosesNothing, HoldRequests, HoldsRequests, ClosesNoLink, IsRequestUnit}
use Rattle.member_server.specs.Machine.{actions_in, event_part, halted_state, state_in, step_on}
use Rattle.member_server.specs.Outcomes.{after_link, at_link, end_logon, keep_link, tell_outcome, without_link, without_logon}
use Rattle.member_server.specs.Turns.{DialWork, keep_ended, lose_turn, with_requester}
use Rattle.member_server.specs.Units.{bound_unit, serve_held}
use Rattle.member_server.specs.Work.{Served}
use Rattle.member_server.proofs.LinkView.{BoundView, Closes, Faults, bound_view, held_among}
use Rattle.member_server.proofs.OutcomeView.{EndView, Unknown, Tells, Reaches, end_view}
use Rattle.member_server.proofs.StepFrame.{KeepsEvent, KeepsNext, PartHolds, WorkFact, part_keeps}

told_quiet : (actions : List Action) (a : Action) → CloseNoLinks actions → ClosesNoLink a → CloseNoLinks (actions ++ a ∷ [])
told_quiet [] a all is = (is, tt)
told_quiet (b ∷ actions) a all is = (all.0, told_quiet actions a all.1 is)

-- ---- requests that are held on a link that goes out

pub record IsOut (p : Phase) : Type 0 where
  pub bound : Bound
  pub status : ℕ
  pub is : p ≡ phase.Out bound status

abbrev IsOutAfter : Option Talk → Type 0
IsOutAfter None = Unit {0}
IsOutAfter (Some talk) = IsOut talk.phase

abbrev StaysOut : Served → Type 0
StaysOut served = CloseNoLinks served.0.actions × IsOutAfter served.1

out_quiet : (bytes : List ℕ) (joiner : Option RpcUnit) (at : AtLink) (bound : Bound) (status : ℕ) (served : Served) → BoundView bytes joiner at (phase.Out bound status) served →
    IsRequestUnit (unit_of bytes) → CloseNoLinks at.actions → StaysOut served
out_quiet bytes joiner at bound status served (Closes cause may) is quiet = absurd (may is)
out_quiet bytes joiner at bound status served (Faults call context) is quiet = (
  told_quiet at.actions (action.Send at.link (written (fault_of call context status))) quiet tt,
  record { bound = bound; status = status; is = refl },
)

held_quiet : (units : List (List ℕ)) → AreRequests units → (at : AtLink) (talk : Talk) → CloseNoLinks at.actions → IsOut talk.phase → CloseNoLinks (serve_held units at talk).0.actions
held_quiet units are at talk quiet out =
    (held_among (λ (bytes : List ℕ). IsRequestUnit (unit_of bytes)) StaysOut (λ bytes at talk is stays.
    let out : IsOut talk.phase = stays.1 in
    let now : Phase = phase.Out out.bound out.status in
    subst (λ (p : Phase). StaysOut (bound_unit p bytes talk.joiner at)) (sym out.is)
    (out_quiet bytes talk.joiner at out.bound out.status (bound_unit now bytes talk.joiner at) (bound_view bytes talk.joiner at now) is stays.0)) units are at talk (quiet, out)).0

-- ---- the link that waits

there_by : (b : Bool) (entry : ℕ × LinkState Talk) (found : Option (LinkState Talk)) (link : LinkState Talk) → HoldsRequests entry.1.talk.phase →
    (found ≡ Some link → HoldsRequests link.talk.phase) → (if b then Some entry.1 else found) ≡ Some link → HoldsRequests link.talk.phase
there_by true entry found link one ih e =
    let same : entry.1 ≡ link = (let z = e in cc) in subst (λ (l : LinkState Talk). HoldsRequests l.talk.phase) same one
there_by false entry found link one ih e = ih e

pub there : (k : ℕ) (links : List (ℕ × LinkState Talk)) (link : LinkState Talk) → HoldRequests links → lookup same_number k links ≡ Some link → HoldsRequests link.talk.phase
there k [] link all e = absurd (let x = e in cc)
there k (entry ∷ links) link all e = there_by (has_key same_number k entry) entry (lookup same_number k links) link all.0 (there k links link all.1) e

kept_quiet : (talk : Option Talk) (rest : List ℕ) (number : ℕ) (at : AtLink) (w : Work) → CloseNoLinks at.actions → CloseNoLinks (keep_link talk rest number (after_link at w)).actions
kept_quiet None rest number at w quiet = quiet
kept_quiet (Some talk) rest number at w quiet = quiet

end_quiet : (cause : DropCause) (place : ℕ) (w after : Work) → EndView place (ending.NoController cause) w after → HoldRequests w.links → CloseNoLinks w.actions → CloseNoLinks after.actions
end_quiet cause place w after (Unknown none) all quiet = quiet
end_quiet cause place w after (Tells logon kept) all quiet = told_quiet w.actions (action.Told logon.link (outcome.NoController cause)) quiet tt
end_quiet cause place w after (Reaches logon link bound held kept waits is) all quiet =
    let told : Work = tell_outcome (ending.NoController cause) logon (without_logon place w) in
    let at : AtLink = at_link logon.link told in
    let talk : Talk = record { joiner = link.talk.joiner; phase = phase.Out bound rpc_s_server_unavailable } in
    let served : Served = serve_held held at talk in
    kept_quiet served.1 link.rest logon.link served.0 (without_link logon.link told)
    (held_quiet held (subst HoldsRequests is (there logon.link w.links link all waits)) at talk
    (told_quiet w.actions (action.Told logon.link (outcome.NoController cause)) quiet tt) (record { bound = bound; status = rpc_s_server_unavailable; is = refl }))

lost_quiet : (cause : DropCause) (w : Work) → HoldRequests w.links → CloseNoLinks w.actions → CloseNoLinks (lose_turn cause w).actions
lost_quiet cause w all quiet =
    let losing = lose_of w.logons.channel in
    let after : Work = keep_ended (turn_end.Dropped losing.place cause) (with_requester w losing.state) in
    end_quiet cause losing.place after (end_logon losing.place (ending.NoController cause) after) (end_view losing.place (ending.NoController cause) after) all quiet

-- ---- a step

abbrev Quiet : WorkFact
Quiet how w left = CloseNoLinks w.actions

abbrev QuietBefore : WorkFact
QuietBefore how w left = HoldRequests w.links × CloseNoLinks w.actions

not_made : (what other : Event) → is_made what ≡ true → what ≡ other → is_made other ≡ false → ⊥
not_made what other made is unmade = let never : true ≡ false = sym made ∙ ap is_made is ∙ unmade in cc

event_quiet : (what : Event) → is_made what ≡ true → KeepsEvent what QuietBefore Quiet
event_quiet what made = record {
  still = λ how w left before. before.1;
  closes = λ link how w left before. before.1;
  loses = λ cause how w left lost none before. lost_quiet cause w before.0 before.1;
  full = λ link how w left is quiet. absurd (not_made what (event.Opened link) made is refl);
  opens = λ link how w left is quiet. absurd (not_made what (event.Opened link) made is refl);
  answers = λ link turn frames w left is before. told_quiet w.actions (action.Send link (joined_frames frames)) before.1 tt;
  link = λ number piece link how w left is there before. absurd (not_made what (event.Bytes number piece) made is refl);
  turn = λ number piece said w left is before. absurd (not_made what (event.Bytes number piece) made is refl);
}

next_quiet : (now : ℕ) → KeepsNext now Quiet Quiet
next_quiet now = record {
  still = λ how w left can quiet. quiet;
  starts = λ turn frames challenge how w before after can drawn is quiet. told_quiet w.actions (action.Dial w.logons.plan.controller) quiet tt;
}

step_quiet : (part : Result (Part DialWork) StepRefused) (left : List (List ℕ)) → PartHolds Quiet part → CloseNoLinks (actions_of (step_by actions_in state_in halted_state left part))
step_quiet (Err why) left quiet = tt
step_quiet (Ok part) left quiet = quiet

pub closes_nothing : ClosesNothing
closes_nothing = record {
  made = λ s running what now left runs all is.
      subst (λ (r : Option Running). CloseNoLinks (actions_of (step_on r s what now left))) (sym runs)
      (step_quiet (event_part running what now left) left (part_keeps QuietBefore Quiet Quiet running what now left (event_quiet what is) (next_quiet now) (all, tt)));
}
