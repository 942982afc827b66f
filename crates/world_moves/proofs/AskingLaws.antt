-- What a member tells: an outcome of each logon that it keeps, at most, and one on each link whose challenge hasn't
-- served. It serves `State::put_answered`, `State::shut_link`, `World::new` and 3 more.
use Rattle.std.proofs.Common.{◌≡◌, ℕ, suc, ◌+◌, ◌≤◌, Bool, true, false, List, [], ◌∷◌, ◌++◌, Option, Some, None, Result, Ok, Err, refl, sym, ap, ◌∙◌, nat_le, length, if◌then◌else◌, arith}
use Rattle.wire_base.specs.Maps.{has_key, lookup, put, take_out, same_number}
use Rattle.outside.specs.declared.action.Action.{Action}
use Rattle.outside.specs.declared.action.Action.TheVariants as action
use Rattle.outside.specs.declared.action.CloseCause.{CloseCause}
use Rattle.outside.specs.declared.action.CloseCause.TheVariants as close
use Rattle.outside.specs.declared.action.DropCause.TheVariants as drop_cause
use Rattle.outside.specs.declared.action.Outcome.TheVariants as outcome
use Rattle.outside.specs.declared.action.StepRefused.{StepRefused}
use Rattle.outside.specs.declared.event.Event.{Event}
use Rattle.outside.specs.declared.event.Event.TheVariants as event
use Rattle.outside.specs.Machine.{Part, step_by}
use Rattle.rpc_units.specs.declared.unit.Unit.{Unit as RpcUnit}
use Rattle.rpc_units.specs.Stream.{Cut, cut_stream}
use Rattle.end_links.specs.Links.{LinkState}
use Rattle.end_links.specs.Sending.{joined_frames}
use Rattle.end_links.specs.Serving.{ServedPart, served_cut, with_close}
use Rattle.end_links.proofs.KeepLaws.{StaysServing, served_stays}
use Rattle.channel_client.specs.Machine.{lose_of}
use Rattle.member_server.specs.declared.outcomes.Ending.{Ending}
use Rattle.member_server.specs.declared.outcomes.Ending.TheVariants as ending
use Rattle.member_server.specs.declared.state.AtLink.{AtLink}
use Rattle.member_server.specs.declared.state.Bound.{Bound}
use Rattle.channel_turns.specs.declared.state.Dialling.{Dialling}
use Rattle.member_server.specs.declared.state.Logon.{Logon}
use Rattle.member_server.specs.declared.state.Phase.{Phase}
use Rattle.member_server.specs.declared.state.Running.{Running}
use Rattle.member_server.specs.declared.state.Talk.{Talk}
use Rattle.member_server.specs.declared.state.Work.{Work}
use Rattle.member_server.specs.Machine.{actions_in, after_units, by_event, close_link, event_part, fresh_link, halted_state, open_by, state_in, step_of, step_on, work_of}
use Rattle.member_server.specs.Outcomes.{after_link, at_link, end_logon, keep_link, outcome_of, phase_after, tell_at, tell_outcome, without_link, without_logon}
use Rattle.member_server.specs.State.{State as MemberState}
use Rattle.member_server.specs.Secrets.{SecretsState, changes_text, secrets_after, written_secrets}
use Rattle.channel_turns.specs.declared.state.TurnEnd.{TurnEnd}
use Rattle.member_server.specs.Turns.{DialWork, keep_ended}
use Rattle.member_server.specs.Units.{is_fresh, link_server, serve_held, unit_by}
use Rattle.member_server.specs.Work.{Served, send, shut}
use Rattle.member_server.proofs.LinkView.{BoundView, Closes, Asks, Overflows, Keeps, Joins, Answers, Faults, UnitView, Serves, Naks, Spends, Challenges, bound_view, held_keeps, logon_at, unit_view}
use Rattle.member_server.proofs.OutcomeView.{EndView, Unknown, Tells, Reaches, end_view}
use Rattle.member_server.proofs.StepFrame.{KeepsEvent, KeepsNext, PartHolds, TakesTurn, WorkFact, dialled_keeps, each_taken, event_keeps, next_follows, turn_ended, taken_at, text_kept}
use Rattle.world_moves.specs.Ends.{actions_by}
use Rattle.world_moves.specs.Telling.{asks_on, can_ask, opens_at, outcomes_left, tells_one, told_by}
use Rattle.world_moves.proofs.TellingLaws.{told_more}

-- ---- what can still be told by what a member at work on a link has

abbrev pub due_at : AtLink → ℕ
due_at at = told_by at.actions + length at.logons.asked

abbrev pub due_on : Option Talk → ℕ
due_on None = 0
due_on (Some talk) = can_ask talk.phase

-- what is told and can be told grows by at most `most`
abbrev pub Adds : (most : ℕ) → AtLink → Served → Type 0
Adds most at served = due_at served.0 + due_on served.1 ≤ due_at at + most

abbrev pub AddsPart : ℕ → AtLink → ServedPart AtLink Talk → Type 0
AddsPart most at (Err why) = Unit {0}
AddsPart most at (Ok part) = Adds most at part.value

shuts : (most : ℕ) (cause : CloseCause) (at : AtLink) → Adds most at (shut cause at)
shuts most cause at = omega (arith, told_more at.actions (action.Close at.link cause))

stays : (most count : ℕ) (at : AtLink) → count ≤ most → due_at at + count ≤ due_at at + most
stays most count at few = omega (arith, few)

sends : (most count : ℕ) (at : AtLink) (bytes : List ℕ) → count ≤ most → due_at (send at bytes) + count ≤ due_at at + most
sends most count at bytes few = omega (arith, few, told_more at.actions (action.Send at.link bytes))

none_few : (most : ℕ) → 0 ≤ most
none_few most = omega arith

same_few : (most : ℕ) → most ≤ most
same_few most = omega arith

-- ---- maps of any values

longer_if : {V : Type 0} (hit : Bool) (entry here : ℕ × V) (entries more : List (ℕ × V)) → length more ≤ length entries + 1 →
    length (if hit then here ∷ entries else entry ∷ more) ≤ suc (length entries) + 1
longer_if true entry here entries more few = omega arith
longer_if false entry here entries more few = omega (arith, few)

put_longer : {V : Type 0} (k : ℕ) (v : V) (entries : List (ℕ × V)) → length (put same_number k v entries) ≤ length entries + 1
put_longer k v [] = omega arith
put_longer k v (entry ∷ entries) = longer_if (has_key same_number k entry) entry (k, v) entries (put same_number k v entries) (put_longer k v entries)

shorter_if : {V : Type 0} (hit : Bool) (entry : ℕ × V) (entries rest : List (ℕ × V)) → length rest ≤ length entries → length (if hit then entries else entry ∷ rest) ≤ suc (length entries)
shorter_if true entry entries rest few = omega arith
shorter_if false entry entries rest few = omega (arith, few)

out_shorter : {V : Type 0} (k : ℕ) (entries : List (ℕ × V)) → length (take_out same_number k entries) ≤ length entries
out_shorter k [] = omega arith
out_shorter k (entry ∷ entries) = shorter_if (has_key same_number k entry) entry entries (take_out same_number k entries) (out_shorter k entries)

one_if : {V : Type 0} (hit : Bool) (entry : ℕ × V) (entries rest : List (ℕ × V)) (found : Option V) (v : V) → (if hit then Some entry.1 else found) ≡ Some v →
    (found ≡ Some v → length rest + 1 ≤ length entries) → length (if hit then entries else entry ∷ rest) + 1 ≤ suc (length entries)
one_if true entry entries rest found v there later = omega arith
one_if false entry entries rest found v there later = omega (arith, later there)

out_one : {V : Type 0} (k : ℕ) (entries : List (ℕ × V)) (v : V) → lookup same_number k entries ≡ Some v → length (take_out same_number k entries) + 1 ≤ length entries
out_one k [] v there = absurd cc
out_one k (entry ∷ entries) v there =
    one_if (has_key same_number k entry) entry entries (take_out same_number k entries) (lookup same_number k entries) v there (out_one k entries v)

-- ---- a unit

view_adds : {bytes : List ℕ} {joiner : Option RpcUnit} (at : AtLink) {p : Phase} {served : Served} → BoundView bytes joiner at p served → Adds (can_ask p) at served
view_adds at (Closes cause may) = shuts _ cause at
view_adds at (Asks {challenge = challenge} {flags = flags} message place fit is) = omega (arith, put_longer place (logon_at at challenge flags message) at.logons.asked)
view_adds at (Overflows message fit is) = omega (arith, told_more at.actions (action.Told at.link (outcome.NoController drop_cause.QueueFull)))
view_adds at (Keeps is fits) = stays 0 0 at (none_few 0)
view_adds at (Joins unit session is joined) = stays 0 0 at (none_few 0)
view_adds at (Answers unit sent session is) = sends 0 0 at sent (none_few 0)
view_adds at (Faults call context) = sends 0 0 at _ (none_few 0)

unit_adds : {bytes : List ℕ} {joiner : Option RpcUnit} (at : AtLink) {p : Phase} {left : List (List ℕ)} {part : ServedPart AtLink Talk} → UnitView bytes joiner at p left part →
    AddsPart (can_ask p) at part
unit_adds at (Serves view) = view_adds at view
unit_adds at (Naks call) = sends 1 1 at _ (same_few 1)
unit_adds at Spends = tt
unit_adds at (Challenges offer call receive contexts challenge taken) = sends 1 1 at _ (same_few 1)

-- ---- units that were held

held_adds : (units : List (List ℕ)) (at : AtLink) (talk : Talk) → Adds (can_ask talk.phase) at (serve_held units at talk)
held_adds units at talk =
    held_keeps (Adds (can_ask talk.phase) at) (λ bytes next said few. omega (arith, few, view_adds next (bound_view bytes said.joiner next said.phase))) units at talk (omega arith)

ended_none : (how : Ending) (logon : Logon) (bound : Bound) → can_ask (phase_after how logon bound) ≡ 0
ended_none (ending.Granted info) logon bound = refl
ended_none (ending.Refused status) logon bound = refl
ended_none (ending.NoController cause) logon bound = refl

-- ---- the units of a stream

behind_adds : (most more : ℕ) (at next : AtLink) (part : ServedPart AtLink Talk) → due_at next + more ≤ due_at at + most → AddsPart more next part → AddsPart most at part
behind_adds most more at next (Err why) few adds = tt
behind_adds most more at next (Ok part) few adds = omega (arith, few, adds)

adds_stay : (most : ℕ) (at : AtLink) → StaysServing link_server (AddsPart most at)
adds_stay most at = record {
  spent = λ why. tt;
  unit = λ bytes next talk left few.
      behind_adds most (can_ask talk.phase) at next (unit_by (is_fresh talk.phase) talk.phase bytes talk.joiner next left) few
      (unit_adds next (unit_view bytes talk.joiner next talk.phase left));
  refusal = λ why next talk left few. behind_adds most (can_ask talk.phase) at next (with_close (link_server.refusal why next talk left)) few (shuts (can_ask talk.phase) close.BadUnit next);
}

units_add : (cut : Cut) (at : AtLink) (talk : Talk) (left : List (List ℕ)) → AddsPart (can_ask talk.phase) at (served_cut link_server cut at talk left)
units_add cut at talk left = served_stays link_server (AddsPart (can_ask talk.phase) at) (adds_stay (can_ask talk.phase) at) cut at talk left (omega arith)

-- ---- the links of a member

ask_if : (hit : Bool) (entry : ℕ × LinkState Talk) (links rest : List (ℕ × LinkState Talk)) (found : Option (LinkState Talk)) (link : LinkState Talk) →
    (if hit then Some entry.1 else found) ≡ Some link → (found ≡ Some link → asks_on rest + can_ask link.talk.phase ≤ asks_on links) →
    asks_on (if hit then links else entry ∷ rest) + can_ask link.talk.phase ≤ can_ask entry.1.talk.phase + asks_on links
ask_if true entry links rest found link there later =
    let here : entry.1 ≡ link = cc in omega (arith, ap (λ (l : LinkState Talk). can_ask l.talk.phase) here)
ask_if false entry links rest found link there later = omega (arith, later there)

ask_taken : (k : ℕ) (links : List (ℕ × LinkState Talk)) (link : LinkState Talk) → lookup same_number k links ≡ Some link →
    asks_on (take_out same_number k links) + can_ask link.talk.phase ≤ asks_on links
ask_taken k [] link there = absurd cc
ask_taken k (entry ∷ links) link there =
    ask_if (has_key same_number k entry) entry links (take_out same_number k links) (lookup same_number k links) link there (ask_taken k links link)

ask_out_if : (hit : Bool) (entry : ℕ × LinkState Talk) (links rest : List (ℕ × LinkState Talk)) → asks_on rest ≤ asks_on links →
    asks_on (if hit then links else entry ∷ rest) ≤ can_ask entry.1.talk.phase + asks_on links
ask_out_if true entry links rest few = omega arith
ask_out_if false entry links rest few = omega (arith, few)

ask_out : (k : ℕ) (links : List (ℕ × LinkState Talk)) → asks_on (take_out same_number k links) ≤ asks_on links
ask_out k [] = omega arith
ask_out k (entry ∷ links) = ask_out_if (has_key same_number k entry) entry links (take_out same_number k links) (ask_out k links)

ask_put_if : (hit : Bool) (k : ℕ) (link : LinkState Talk) (entry : ℕ × LinkState Talk) (links more : List (ℕ × LinkState Talk)) → asks_on more ≤ asks_on links + can_ask link.talk.phase →
    asks_on (if hit then (k, link) ∷ links else entry ∷ more) ≤ (can_ask entry.1.talk.phase + asks_on links) + can_ask link.talk.phase
ask_put_if true k link entry links more few = omega arith
ask_put_if false k link entry links more few = omega (arith, few)

ask_put : (k : ℕ) (link : LinkState Talk) (links : List (ℕ × LinkState Talk)) → asks_on (put same_number k link links) ≤ asks_on links + can_ask link.talk.phase
ask_put k link [] = omega arith
ask_put k link (entry ∷ links) = ask_put_if (has_key same_number k entry) k link entry links (put same_number k link links) (ask_put k link links)

-- ---- a member at work

abbrev pub due_in : Work → ℕ
due_in w = (told_by w.actions + length w.logons.asked) + asks_on w.links

abbrev pub Due : ℕ → WorkFact
Due most how w left = due_in w ≤ most

pub tells_due : (most : ℕ) (w : Work) (what : Action) → tells_one what ≡ 0 → due_in w ≤ most → due_in (tell_at w what) ≤ most
tells_due most w what none few = omega (arith, none, few, told_more w.actions what)

kept_due : (most : ℕ) (said : Option Talk) (rest : List ℕ) (number : ℕ) (at : AtLink) (w : Work) → due_at at + due_on said + asks_on w.links ≤ most →
    due_in (keep_link said rest number (after_link at w)) ≤ most
kept_due most None rest number at w few = omega (arith, few)
kept_due most (Some talk) rest number at w few = omega (arith, few, ask_put number (record { rest = rest; talk = talk }) w.links)

-- ---- an outcome

ended_due : (most place : ℕ) (how : Ending) (w after : Work) → EndView place how w after → due_in w ≤ most → due_in after ≤ most
ended_due most place how w after (Unknown none) few = omega (arith, few, out_shorter place w.logons.asked)
ended_due most place how w after (Tells logon kept) few =
    omega (arith, few, out_one place w.logons.asked logon kept, told_more w.actions (action.Told logon.link (outcome_of how logon)))
ended_due most place how w after (Reaches logon link bound held kept there is) few =
    let alone : Work = without_link logon.link (tell_outcome how logon (without_logon place w)) in
    let at : AtLink = at_link logon.link alone in
    let talk : Talk = record { joiner = link.talk.joiner; phase = phase_after how logon bound } in
    let served : Served = serve_held held at talk in
    let told : due_in alone ≤ most =
    omega (arith, few, out_one place w.logons.asked logon kept, told_more w.actions (action.Told logon.link (outcome_of how logon)), ask_out logon.link w.links) in
    kept_due most served.1 link.rest logon.link served.0 alone (omega (arith, told, held_adds held at talk, ended_none how logon bound))

pub end_due : (most place : ℕ) (how : Ending) (w : Work) → due_in w ≤ most → due_in (end_logon place how w) ≤ most
end_due most place how w few = ended_due most place how w (end_logon place how w) (end_view place how w) few

-- ---- the turn

-- a text that is kept tells nothing
pub text_due : (most : ℕ) (how : TurnEnd) (w : Work) → due_in w ≤ most → due_in (keep_ended how w) ≤ most
text_due most how w few =
    let secrets : SecretsState = secrets_after how w.logons.plan.secrets in
    text_kept (changes_text how w.logons.plan.secrets) secrets w.actions
    (λ (actions : List Action). (told_by actions + length w.logons.asked) + asks_on w.links ≤ most) (λ none. few)
    (λ some. omega (arith, few, told_more w.actions (action.Keep (written_secrets secrets))))

turn_due : (most : ℕ) → TakesTurn (λ units at. due_in at.work ≤ most) (λ w. due_in w ≤ most)
turn_due most = each_taken (λ units at. due_in at.work ≤ most) (λ w. due_in w ≤ most) (record {
  skips = λ right unit units at is few. few;
  sends = λ right frames unit units at is few. tells_due most at.work (action.Send at.link (joined_frames frames)) refl few;
  ends = λ how unit units at is few.
      let kept : Work = keep_ended how (taken_at at unit).work in
      let closed : due_in (tell_at kept (action.Close at.link close.CallDone)) ≤ most =
      tells_due most kept (action.Close at.link close.CallDone) refl (text_due most how (taken_at at unit).work few) in
      turn_ended how _ (λ w. due_in w ≤ most) (λ none. closed) (λ place ends some. end_due most place ends _ closed);
  breaks = λ cause at few.
      end_due most (lose_of at.work.logons.channel).place (ending.NoController drop_cause.BadReply) _ (tells_due most at.work (action.Close at.link cause) refl few);
})

-- ---- bytes on an accepted link

after_due : (most count : ℕ) (at : AtLink) (part : ServedPart AtLink Talk) (rest : List ℕ) (number : ℕ) (how : Dialling) (w : Work) → AddsPart count at part →
    due_at at + count + asks_on w.links ≤ most → PartHolds (Due most) (after_units part rest number how w)
after_due most count at (Err why) rest number how w adds few = tt
after_due most count at (Ok part) rest number how w adds few = kept_due most part.value.1 rest number part.value.0 w (omega (arith, adds, few))

-- ---- the events

fewer_due : (most link : ℕ) (w : Work) → due_in w ≤ most → due_in (without_link link w) ≤ most
fewer_due most link w few = omega (arith, few, ask_out link w.links)

opens_due : (most : ℕ) (full : Bool) (link : ℕ) (w : Work) → due_in w ≤ most → due_in (open_by full link w) ≤ most + 1
opens_due most true link w few = omega (arith, few, told_more w.actions (action.Close link close.TooManyLinks))
opens_due most false link w few = omega (arith, few, ask_put link fresh_link w.links)

-- an event that opens no link isn't the opening of one
not_opened : (what : Event) (link : ℕ) → opens_at what ≡ 0 → what ≡ event.Opened link → ⊥
not_opened what link none is = let one = sym none ∙ ap opens_at is in cc

event_frame : (most : ℕ) (what : Event) → opens_at what ≡ 0 → KeepsEvent what (Due most) (Due most)
event_frame most what none = record {
  still = λ how w left few. few;
  closes = λ link how w left few. fewer_due most link w few;
  loses = λ cause how w left lost heard few. end_due most (lose_of w.logons.channel).place (ending.NoController cause) _ few;
  full = λ link how w left is few. absurd (not_opened what link none is);
  opens = λ link how w left is few. absurd (not_opened what link none is);
  answers = λ link turn frames w left is few. tells_due most (without_link link w) (action.Send link (joined_frames frames)) refl (fewer_due most link w few);
  link = λ number piece link how w left is there few.
      let cut : Cut = cut_stream (link.rest ++ piece) in
      let rest : Work = without_link number w in
      let at : AtLink = at_link number rest in
      after_due most (can_ask link.talk.phase) at (served_cut link_server cut at link.talk left) cut.rest number how rest (units_add cut at link.talk left)
      (omega (arith, few, ask_taken number w.links link there));
  turn = λ number piece said w left is few.
      dialled_keeps (λ units at. due_in at.work ≤ most) (λ w. due_in w ≤ most) (Due most) (turn_due most) (cut_stream (said.rest ++ piece)) number said.talk w left (λ rest later at few. few)
      (λ w few. few) few;
}

more_due : (most : ℕ) (part : Result (Part DialWork) StepRefused) → PartHolds (Due most) part → PartHolds (Due (most + 0)) part
more_due most (Err why) few = tt
more_due most (Ok part) few = omega (arith, few)

pub event_due : (most : ℕ) (what : Event) (how : Dialling) (w : Work) (left : List (List ℕ)) → due_in w ≤ most → PartHolds (Due (most + opens_at what)) (by_event what how w left)
event_due most (event.Opened link) how w left few =
    let closed : DialWork = close_link how link w in
    opens_due most (nat_le 256 (length closed.0.links)) link closed.0 (event_keeps (Due most) (Due most) (event.Closed link) (event_frame most (event.Closed link) refl) how w left few)
event_due most (event.Bytes link piece) how w left few =
    more_due most (by_event (event.Bytes link piece) how w left) (event_keeps (Due most) (Due most) (event.Bytes link piece) (event_frame most (event.Bytes link piece) refl) how w left few)
event_due most (event.Closed link) how w left few = more_due most (by_event (event.Closed link) how w left) (event_keeps (Due most) (Due most) (event.Closed link) (event_frame most (event.Closed link) refl) how w left few)
event_due most (event.Dialled link) how w left few = more_due most (by_event (event.Dialled link) how w left) (event_keeps (Due most) (Due most) (event.Dialled link) (event_frame most (event.Dialled link) refl) how w left few)
event_due most event.DialFailed how w left few = more_due most (by_event event.DialFailed how w left) (event_keeps (Due most) (Due most) event.DialFailed (event_frame most event.DialFailed refl) how w left few)
event_due most event.Stop how w left few = omega (arith, few)

next_due : (most now : ℕ) → KeepsNext now (Due most) (Due most)
next_due most now = record {
  still = λ how w left can few. few;
  starts = λ turn frames challenge how w before after can drawn is few. tells_due most w (action.Dial w.logons.plan.controller) refl few;
}

-- ---- a step

part_step : (most : ℕ) (left : List (List ℕ)) (part : Result (Part DialWork) StepRefused) → PartHolds (Due most) part →
    told_by (actions_by (step_by actions_in state_in halted_state left part).answer) + outcomes_left (step_by actions_in state_in halted_state left part).state.running ≤ most
part_step most left (Err why) few = omega arith
part_step most left (Ok part) few = omega (arith, few)

running_step : (most : ℕ) (r : Option Running) (m : MemberState) (what : Event) (now : ℕ) (left : List (List ℕ)) → outcomes_left m.running ≤ most → outcomes_left r ≤ most →
    told_by (actions_by (step_on r m what now left).answer) + outcomes_left (step_on r m what now left).state.running ≤ most + opens_at what
running_step most None m what now left was few = omega (arith, was)
running_step most (Some running) m what now left was few =
    part_step (most + opens_at what) left (event_part running what now left)
    (next_follows now (Due (most + opens_at what)) (Due (most + opens_at what)) (next_due (most + opens_at what) now) (by_event what running.dialling (work_of running) left)
    (event_due most what running.dialling (work_of running) left (omega (arith, few))))

-- what a member tells at a step comes of the logons that it keeps, of its links, and of the link that opens
pub member_tells : (m : MemberState) (what : Event) (now : ℕ) (left : List (List ℕ)) →
    told_by (actions_by (step_of m what now left).answer) + outcomes_left (step_of m what now left).state.running ≤ outcomes_left m.running + opens_at what
member_tells m what now left = running_step (outcomes_left m.running) m.running m what now left (omega arith) (omega arith)
