-- The frame of a controller's step: what is kept by each change that a unit makes is kept by all units of a stream, by
-- each event and by the step. It serves the laws of all steps.
use Rattle.std.proofs.Common.{◌≡◌, ◌≢◌, ℕ, Bool, true, false, List, [], ◌∷◌, ◌++◌, nat_le, length, Option, Some, None, Ok, Err, refl, sym, subst, if◌then◌else◌}
use Rattle.std.specs.List.{AllByRecursion}
use Rattle.wire_base.specs.Maps.{has_key, lookup, put, take_out, same_number}
use Rattle.outside.specs.Machine.{Stepped, spent_step, step_by, stopped_step, then_part, whole_step}
use Rattle.outside.specs.declared.action.Action.{Action}
use Rattle.outside.specs.declared.action.Action.TheVariants as action
use Rattle.outside.specs.declared.action.CloseCause.{CloseCause}
use Rattle.outside.specs.declared.action.CloseCause.TheVariants as close
use Rattle.outside.specs.declared.event.Event.{Event}
use Rattle.outside.specs.declared.event.Event.TheVariants as event
use Rattle.rpc_units.specs.declared.refused.UnitRefused.{UnitRefused}
use Rattle.rpc_units.specs.Stream.{cut_stream}
use Rattle.authenticators.specs.SecureChannels.{key_of_channel}
use Rattle.ndr_codec.specs.Parts.{IfThere}
use Rattle.logon_stubs.specs.declared.calls.AuthCall.{AuthCall}
use Rattle.logon_stubs.specs.declared.calls.ChallengeCall.{ChallengeCall}
use Rattle.interactive_logon.specs.declared.sessions.Session.{Session}
use Rattle.account_table.specs.AccountTable.{AccountTable}
use Rattle.account_table.specs.LookUps.{knows_in}
use Rattle.end_links.specs.Links.{LinkState}
use Rattle.end_links.specs.Serving.{ServedPart, Service, served_by, served_cut, then_open, then_talk}
use Rattle.controller_calls.specs.Calls.{asked_of, computer_named}
use Rattle.controller_calls.specs.Desk.{Desk, desk, put_pair, send_reply, take_pair, tell}
use Rattle.controller_calls.specs.Doing.{computer_or_none, done_asked}
use Rattle.controller_calls.specs.Opening.{channel_for, deny_channel, open_channel}
use Rattle.controller_calls.specs.declared.calls.ControllerCall.{ControllerCall}
use Rattle.controller_calls.specs.declared.calls.ControllerCall.TheVariants as call
use Rattle.controller_calls.specs.declared.calls.JudgedCall.{JudgedCall}
use Rattle.controller_calls.specs.declared.line.Line.{Line}
use Rattle.controller_calls.proofs.OutcomeLaws.{JudgedComes, OpensAt, Passes, Refused, challenge_reply, pair_for}
use Rattle.domain_controller.specs.Hearing.{first_talk, hear}
use Rattle.domain_controller.specs.Keeping.{text_by}
use Rattle.domain_controller.specs.Laws.{call_in, calls_heard, calls_of, calls_on, calls_then, talk_after}
use Rattle.domain_controller.specs.Machine.{by_heard, controller_server}
use Rattle.domain_controller.specs.Sessions.{told_in}
use Rattle.domain_controller.specs.State.{State}
use Rattle.domain_controller.specs.Step.{LinkMap, StepPart, after_units, by_event, first_desk, halted, keep_link, open_by, serve_on, start_turn, state_after, step_of, step_on, whole_part, with_open}
use Rattle.domain_controller.specs.declared.hearing.Heard.{Heard}
use Rattle.domain_controller.specs.declared.hearing.Heard.TheVariants as heard
use Rattle.domain_controller.specs.declared.state.Running.{Running}
use Rattle.domain_controller.specs.declared.state.Talk.{Talk}
use Rattle.domain_controller.proofs.UnitLaws.{UnitCases, heard_comes}
use Rattle.end_loop.specs.Runs.{actions_of}

-- ---- what an event comes to, and a step

abbrev pub fresh_link : LinkState Talk
fresh_link = record { rest = []; talk = first_talk }

-- a fact of an event, and of the part of a step that it comes to
pub record EventCases (Comes : Event → StepPart → Type 0) (name : List ℕ) (now : ℕ) (d : Desk) (links : LinkMap) (left : List (List ℕ)) : Type 0 where
  -- a link opens, where 256 others are open or fewer
  pub full : (number : ℕ) → nat_le 256 (length (take_out same_number number links)) ≡ true →
      Comes (event.Opened number) (whole_part (desk d.table (tell d.work (action.Close number close.TooManyLinks))) (take_out same_number number links) left)
  pub opens : (number : ℕ) → nat_le 256 (length (take_out same_number number links)) ≡ false →
      Comes (event.Opened number) (whole_part d (put same_number number fresh_link (take_out same_number number links)) left)
  -- bytes come, on an open link or on none
  pub serves : (number : ℕ) (piece : List ℕ) (link : LinkState Talk) → lookup same_number number links ≡ Some link →
      Comes (event.Bytes number piece)
      (after_units (served_cut (controller_server name now number) (cut_stream (link.rest ++ piece)) d link.talk left) (cut_stream (link.rest ++ piece)).rest number (take_out same_number number links))
  pub drops : (number : ℕ) (piece : List ℕ) → lookup same_number number links ≡ None → Comes (event.Bytes number piece) (whole_part d (take_out same_number number links) left)
  pub closed : (number : ℕ) → Comes (event.Closed number) (whole_part d (take_out same_number number links) left)
  pub dialled : (number : ℕ) → Comes (event.Dialled number) (whole_part d links left)
  pub failed : Comes event.DialFailed (whole_part d links left)
  pub stop : Comes event.Stop (whole_part d links left)

module _ (Comes : Event → StepPart → Type 0) (name : List ℕ) (now : ℕ) (d : Desk) (links : LinkMap) (left : List (List ℕ)) (cases : EventCases Comes name now d links left) where
  open_comes : (full : Bool) (number : ℕ) → nat_le 256 (length (take_out same_number number links)) ≡ full →
      Comes (event.Opened number) (with_open (open_by full number d.work (take_out same_number number links)) d.table left)
  open_comes true number is = cases.full number is
  open_comes false number is = cases.opens number is

  bytes_come : (found : Option (LinkState Talk)) (number : ℕ) (piece : List ℕ) → lookup same_number number links ≡ found →
      Comes (event.Bytes number piece) (serve_on found number piece name now d (take_out same_number number links) left)
  bytes_come None number piece is = cases.drops number piece is
  bytes_come (Some link) number piece is = cases.serves number piece link is

  pub event_comes : (what : Event) → Comes what (by_event what name now d links left)
  event_comes (event.Opened number) = open_comes (nat_le 256 (length (take_out same_number number links))) number refl
  event_comes (event.Bytes number piece) = bytes_come (lookup same_number number links) number piece refl
  event_comes (event.Closed number) = cases.closed number
  event_comes (event.Dialled number) = cases.dialled number
  event_comes event.DialFailed = cases.failed
  event_comes event.Stop = cases.stop

-- by the part that the event comes to: it is given up, or taken
abbrev pub PartSteps : (Stepped State → Type 0) → State → List (List ℕ) → StepPart → Type 0
PartSteps Comes s left (Err why) = Comes (spent_step left (halted s))
PartSteps Comes s left (Ok part) = Comes (whole_step left part.left part.value.0.work.actions (state_after s part.value))

module _ (Comes : Stepped State → Type 0) (s : State) (what : Event) (now : ℕ) (left : List (List ℕ)) where
  part_steps : (part : StepPart) → PartSteps Comes s left part →
      Comes (step_by (λ (after : Desk × LinkMap). after.0.work.actions) (λ (after : Desk × LinkMap). state_after s after) (halted s) left (then_part part (λ after rest. start_turn after rest)))
  part_steps (Err why) comes = comes
  part_steps (Ok part) comes = comes

  running_steps : (found : Option Running) → s.running ≡ found → (found ≡ None → Comes (stopped_step left s)) →
      ((running : Running) → found ≡ Some running → PartSteps Comes s left (by_event what s.name now (first_desk s.table running) running.links left)) → Comes (step_on found s what now left)
  running_steps None is stopped part = stopped refl
  running_steps (Some running) is stopped part = part_steps (by_event what s.name now (first_desk s.table running) running.links left) (part running refl)

  pub step_comes : (s.running ≡ None → Comes (stopped_step left s)) →
      ((running : Running) → s.running ≡ Some running → PartSteps Comes s left (by_event what s.name now (first_desk s.table running) running.links left)) → Comes (step_of s what now left)
  step_comes stopped part = running_steps s.running refl stopped part

-- what is done in a step, which is nothing where it is given up
abbrev pub acts_of : StepPart → List Action
acts_of (Err why) = []
acts_of (Ok part) = part.value.0.work.actions

module _ (Are : List Action → Type 0) (s : State) (what : Event) (now : ℕ) (left : List (List ℕ)) where
  acts_part : (part : StepPart) → Are (acts_of part) → PartSteps (λ stepped. Are (actions_of stepped)) s left part
  acts_part (Err why) are = are
  acts_part (Ok part) are = are

  pub acts_step : (s.running ≡ None → Are []) →
      ((running : Running) → s.running ≡ Some running → Are (acts_of (by_event what s.name now (first_desk s.table running) running.links left))) → Are (actions_of (step_of s what now left))
  acts_step stopped part =
      step_comes (λ stepped. Are (actions_of stepped)) s what now left stopped
      (λ running is. acts_part (by_event what s.name now (first_desk s.table running) running.links left) (part running is))

-- ---- what each change keeps

-- Between the calls that were heard, the desk and the challenges left before them, and those behind them.
abbrev pub Trail : Type 1
Trail = List ControllerCall → Desk → List (List ℕ) → Desk → List (List ℕ) → Type 0

-- `Said` is known of what is said on each link, and `Fits` of what is heard of a unit there.
pub record Walks (name : List ℕ) (now : ℕ) (Said : Talk → Type 0) (Fits : ℕ → Heard → Type 0) (R : Trail) : Type 0 where
  pub hears : (link : ℕ) (bytes : List ℕ) (talk : Talk) → Said talk → Fits link (hear link bytes talk)
  pub says : (link : ℕ) (h : Heard) → Fits link h → IfThere Said (talk_after h)
  pub first : Said first_talk
  pub same : (d : Desk) (left : List (List ℕ)) → R [] d left d left
  pub join : (one two : List ControllerCall) (a b c : Desk) (left rest less : List (List ℕ)) → R one a left b rest → R two b rest c less → R (one ++ two) a left c less
  pub close : (link : ℕ) (cause : CloseCause) (d : Desk) (left : List (List ℕ)) → R [] d left (desk d.table (tell d.work (action.Close link cause))) left
  pub answer : (link : ℕ) (bytes : List ℕ) (talk : Talk) (d : Desk) (left : List (List ℕ)) → Fits link (heard.Answer bytes talk) →
      R [] d left (desk d.table (tell d.work (action.Send link bytes))) left
  -- the calls, by what they come to
  pub unknown : (link : ℕ) (line : Line) (c : ChallengeCall) (talk : Talk) (server : List ℕ) (d : Desk) (rest : List (List ℕ)) → Fits link (heard.Asked line (call.Challenge c) talk) →
      knows_in d.table.accounts c.computer ≡ false → R (call.Challenge c ∷ []) d (server ∷ rest) (desk d.table (send_reply d.work line (challenge_reply server))) rest
  pub known : (link : ℕ) (line : Line) (c : ChallengeCall) (talk : Talk) (server : List ℕ) (d : Desk) (rest : List (List ℕ)) → Fits link (heard.Asked line (call.Challenge c) talk) →
      knows_in d.table.accounts c.computer ≡ true →
      R (call.Challenge c ∷ []) d (server ∷ rest) (desk d.table (send_reply (put_pair c.computer (pair_for c server) d.work) line (challenge_reply server))) rest
  pub denied : (link : ℕ) (line : Line) (c : AuthCall) (talk : Talk) (status : ℕ) (d : Desk) (left : List (List ℕ)) → Fits link (heard.Asked line (call.Authenticate c) talk) → status ≢ 0 →
      (OpensAt d c → ⊥) → R (call.Authenticate c ∷ []) d left (desk d.table (deny_channel (take_pair c.computer d.work) line c.flags status)) left
  pub accepted : (link : ℕ) (line : Line) (c : AuthCall) (talk : Talk) (d : Desk) (left : List (List ℕ)) → Fits link (heard.Asked line (call.Authenticate c) talk) → (opens : OpensAt d c) →
      R (call.Authenticate c ∷ []) d left (desk d.table (open_channel true (channel_for opens.account opens.pair c) line c (take_pair c.computer d.work))) left
  pub judged : (link : ℕ) (line : Line) (c : JudgedCall) (talk : Talk) (d : Desk) (left : List (List ℕ)) (after : Desk) → Fits link (heard.Asked line (call.Judged c) talk) →
      JudgedComes c name now line d after → R (call.Judged c ∷ []) d left after left

-- of all links
abbrev pub AreSaid : (Talk → Type 0) → LinkMap → Type 0
AreSaid Said links = AllByRecursion (λ (entry : ℕ × LinkState Talk). Said entry.1.talk) links

abbrev pub PartLeads : (Talk → Type 0) → Trail → List ControllerCall → Desk → List (List ℕ) → ServedPart Desk Talk → Type 0
PartLeads Said R calls d left (Err why) = Unit {0}
PartLeads Said R calls d left (Ok part) = R calls d left part.value.0 part.left × IfThere Said part.value.1

abbrev pub StepLeads : (Talk → Type 0) → Trail → List ControllerCall → Desk → List (List ℕ) → StepPart → Type 0
StepLeads Said R calls d left (Err why) = Unit {0}
StepLeads Said R calls d left (Ok part) = R calls d left part.value.0 part.left × AreSaid Said part.value.1

-- of a unit, behind which that is said on its link
abbrev pub UnitLeads : (ℕ → Heard → Type 0) → Trail → ℕ → Desk → List (List ℕ) → Heard → ServedPart Desk Talk → Type 0
UnitLeads Fits R link d left h (Err why) = Unit {0}
UnitLeads Fits R link d left h (Ok part) = Fits link h → R (call_in h) d left part.value.0 part.left × (part.value.1 ≡ talk_after h)

-- ---- links

module _ (Said : Talk → Type 0) where
  chosen : (test : Bool) (one other : Option (LinkState Talk)) → IfThere (λ link. Said link.talk) one → IfThere (λ link. Said link.talk) other → IfThere (λ link. Said link.talk) (if test then one else other)
  chosen true one other is that = is
  chosen false one other is that = that

  -- the link of a number
  pub found_said : (number : ℕ) (links : LinkMap) → AreSaid Said links → IfThere (λ (link : LinkState Talk). Said link.talk) (lookup same_number number links)
  found_said number [] said = tt
  found_said number (entry ∷ links) said = chosen (has_key same_number number entry) (Some entry.1) (lookup same_number number links) said.0 (found_said number links said.1)

  either : (test : Bool) (one other : LinkMap) → AreSaid Said one → AreSaid Said other → AreSaid Said (if test then one else other)
  either true one other is that = is
  either false one other is that = that

  pub taken_said : (number : ℕ) (links : LinkMap) → AreSaid Said links → AreSaid Said (take_out same_number number links)
  taken_said number [] said = tt
  taken_said number (entry ∷ links) said = either (has_key same_number number entry) links (entry ∷ take_out same_number number links) said.1 (said.0, taken_said number links said.1)

  pub put_said : (number : ℕ) (link : LinkState Talk) (links : LinkMap) → Said link.talk → AreSaid Said links → AreSaid Said (put same_number number link links)
  put_said number link [] is said = (is, tt)
  put_said number link (entry ∷ links) is said =
      either (has_key same_number number entry) ((number, link) ∷ links) (entry ∷ put same_number number link links) (is, said.1) (said.0, put_said number link links is said.1)

  kept_said : (open_talk : Option Talk) (rest : List ℕ) (number : ℕ) (links : LinkMap) → IfThere Said open_talk → AreSaid Said links → AreSaid Said (keep_link open_talk rest number links)
  kept_said None rest number links is said = said
  kept_said (Some talk) rest number links is said = put_said number (record { rest = rest; talk = talk }) links is said

-- ---- the units of a stream, an event, and the step

module _ (name : List ℕ) (now : ℕ) (Said : Talk → Type 0) (Fits : ℕ → Heard → Type 0) (R : Trail) (walks : Walks name now Said Fits R) where
  unit_cases : (link : ℕ) (d : Desk) (left : List (List ℕ)) → UnitCases (UnitLeads Fits R link d left) link name now d left
  unit_cases link d left = record {
    close = λ cause fits. (walks.close link cause d left, refl);
    answer = λ bytes talk fits. (walks.answer link bytes talk d left fits, refl);
    waits = λ talk fits. (walks.same d left, refl);
    spent = λ line c talk none. tt;
    unknown = λ line c talk server rest is none fits. (
      subst (λ (some : List (List ℕ)). R (call.Challenge c ∷ []) d some (desk d.table (send_reply d.work line (challenge_reply server))) rest) (sym is)
          (walks.unknown link line c talk server d rest fits none),
      refl,
    );
    known = λ line c talk server rest is known fits. (
      subst (λ (some : List (List ℕ)). R (call.Challenge c ∷ []) d some (desk d.table (send_reply (put_pair c.computer (pair_for c server) d.work) line (challenge_reply server))) rest) (sym is)
          (walks.known link line c talk server d rest fits known),
      refl,
    );
    denied = λ line c talk status fails none fits. (walks.denied link line c talk status d left fits fails none, refl);
    accepted = λ line c talk opens fits. (walks.accepted link line c talk d left fits opens, refl);
    judged = λ line c talk after comes fits. (walks.judged link line c talk d left after fits comes, refl);
  }

  pub unit_leads : (link : ℕ) (d : Desk) (left : List (List ℕ)) (h : Heard) → UnitLeads Fits R link d left h (by_heard h link name now d left)
  unit_leads link d left h = heard_comes (UnitLeads Fits R link d left) link name now d left (unit_cases link d left) h

  abbrev LaterLeads : (Talk → List ControllerCall) → Service Desk Talk → Type 0
  LaterLeads later_calls later = (d : Desk) (talk : Talk) (left : List (List ℕ)) → Said talk → PartLeads Said R (later_calls talk) d left (later d talk left)

  from_part : (one two : List ControllerCall) (a b : Desk) (left rest : List (List ℕ)) (part : ServedPart Desk Talk) → R one a left b rest → PartLeads Said R two b rest part →
      PartLeads Said R (one ++ two) a left part
  from_part one two a b left rest (Err why) first later = tt
  from_part one two a b left rest (Ok part) first later = (walks.join one two a b part.value.0 left rest part.left first later.0, later.1)

  then_leads : (said : Option Talk) (calls : List ControllerCall) (a b : Desk) (left rest : List (List ℕ)) (later_calls : Talk → List ControllerCall) (later : Service Desk Talk) →
      R calls a left b rest → IfThere Said said → LaterLeads later_calls later → PartLeads Said R (calls ++ calls_then said later_calls) a left (then_talk b said rest later)
  then_leads None calls a b left rest later_calls later first is each = (walks.join calls [] a b b left rest rest first (walks.same b rest), tt)
  then_leads (Some talk) calls a b left rest later_calls later first is each =
      from_part calls (later_calls talk) a b left rest (later b talk rest) first (each b talk rest is)

  after_unit : (part : ServedPart Desk Talk) (h : Heard) (link : ℕ) (d : Desk) (left : List (List ℕ)) (later_calls : Talk → List ControllerCall) (later : Service Desk Talk) →
      UnitLeads Fits R link d left h part → Fits link h → LaterLeads later_calls later → PartLeads Said R (call_in h ++ calls_then (talk_after h) later_calls) d left (then_open part later)
  after_unit (Err why) h link d left later_calls later leads fits each = tt
  after_unit (Ok part) h link d left later_calls later leads fits each =
      let one = leads fits in
      subst (λ (said : Option Talk). PartLeads Said R (call_in h ++ calls_then (talk_after h) later_calls) d left (then_talk part.value.0 said part.left later)) (sym one.1)
      (then_leads (talk_after h) (call_in h) d part.value.0 left part.left later_calls later one.0 (walks.says link h fits) each)

  pub units_lead : (units : List (List ℕ)) (why : Option UnitRefused) (link : ℕ) (d : Desk) (talk : Talk) (left : List (List ℕ)) → Said talk →
      PartLeads Said R (calls_heard link units talk) d left (served_by (controller_server name now link) units why d talk left)
  units_lead [] None link d talk left said = (walks.same d left, said)
  units_lead [] (Some why) link d talk left said = (walks.close link close.BadUnit d left, tt)
  units_lead (bytes ∷ units) why link d talk left said =
      after_unit (by_heard (hear link bytes talk) link name now d left) (hear link bytes talk) link d left (λ later. calls_heard link units later)
      (λ later more rest. served_by (controller_server name now link) units why later more rest) (unit_leads link d left (hear link bytes talk)) (walks.hears link bytes talk said)
      (λ later more rest is. units_lead units why link later more rest is)

  after_link : (part : ServedPart Desk Talk) (calls : List ControllerCall) (d : Desk) (left : List (List ℕ)) (rest : List ℕ) (number : ℕ) (links : LinkMap) → PartLeads Said R calls d left part →
      AreSaid Said links → StepLeads Said R calls d left (after_units part rest number links)
  after_link (Err why) calls d left rest number links leads said = tt
  after_link (Ok part) calls d left rest number links leads said = (leads.0, kept_said Said part.value.1 rest number links leads.1 said)

  there : (found : Option (LinkState Talk)) (link : LinkState Talk) → found ≡ Some link → IfThere (λ (one : LinkState Talk). Said one.talk) found → Said link.talk
  there found link is said = subst (λ (one : Option (LinkState Talk)). IfThere (λ (it : LinkState Talk). Said it.talk) one) is said

  pub event_leads : (what : Event) (d : Desk) (links : LinkMap) (left : List (List ℕ)) → AreSaid Said links → StepLeads Said R (calls_of what links) d left (by_event what name now d links left)
  event_leads what d links left said =
      event_comes (λ happens part. StepLeads Said R (calls_of happens links) d left part) name now d links left (record {
        full = λ number is. (walks.close number close.TooManyLinks d left, taken_said Said number links said);
        opens = λ number is. (walks.same d left, put_said Said number fresh_link (take_out same_number number links) walks.first (taken_said Said number links said));
        serves = λ number piece link is.
            let cut = cut_stream (link.rest ++ piece) in
            let part : ServedPart Desk Talk = served_cut (controller_server name now number) cut d link.talk left in
            subst (λ (found : Option (LinkState Talk)). StepLeads Said R (calls_on found number piece) d left (after_units part cut.rest number (take_out same_number number links))) (sym is)
            (after_link part (calls_heard number cut.units link.talk) d left cut.rest number (take_out same_number number links)
            (units_lead cut.units cut.refused number d link.talk left (there (lookup same_number number links) link is (found_said Said number links said)))
            (taken_said Said number links said));
        drops = λ number piece is.
            subst (λ (found : Option (LinkState Talk)). StepLeads Said R (calls_on found number piece) d left (whole_part d (take_out same_number number links) left)) (sym is)
            (walks.same d left, taken_said Said number links said);
        closed = λ number. (walks.same d left, taken_said Said number links said);
        dialled = λ number. (walks.same d left, said);
        failed = (walks.same d left, said);
        stop = (walks.same d left, said);
      }) what

-- A step: stopped before, given up, or taken, and then what each change keeps holds between the calls of the event, the
-- desk before and the desk behind.
pub record StepsBy (Comes : Stepped State → Type 0) (Said : Talk → Type 0) (R : Trail) (s : State) (what : Event) (left : List (List ℕ)) : Type 0 where
  pub stopped : s.running ≡ None → Comes (stopped_step left s)
  pub spent : (running : Running) → s.running ≡ Some running → Comes (spent_step left (halted s))
  pub taken : (running : Running) (after : Desk) (links : LinkMap) (rest : List (List ℕ)) → s.running ≡ Some running → AreSaid Said links →
      R (calls_of what running.links) (first_desk s.table running) left after rest → Comes (whole_step left rest after.work.actions (state_after s (after, links)))

module _ (Comes : Stepped State → Type 0) (Said : Talk → Type 0) (Fits : ℕ → Heard → Type 0) (R : Trail) (s : State) (what : Event) (now : ℕ) (left : List (List ℕ))
    (walks : Walks s.name now Said Fits R) (steps : StepsBy Comes Said R s what left) where
  part_leads : (running : Running) → s.running ≡ Some running → (part : StepPart) → StepLeads Said R (calls_of what running.links) (first_desk s.table running) left part → PartSteps Comes s left part
  part_leads running is (Err why) leads = steps.spent running is
  part_leads running is (Ok part) leads = steps.taken running part.value.0 part.value.1 part.left is leads.1 leads.0

  pub step_leads : ((running : Running) → s.running ≡ Some running → AreSaid Said running.links) → Comes (step_of s what now left)
  step_leads said =
      step_comes Comes s what now left steps.stopped (λ running is.
      part_leads running is (by_event what s.name now (first_desk s.table running) running.links left)
      (event_leads s.name now Said Fits R walks what (first_desk s.table running) running.links left (said running is)))

-- ---- where nothing is to be known of what is said, nor of what is heard

abbrev pub AnyTalk : Talk → Type 0
AnyTalk talk = Unit {0}

abbrev pub AnyUnit : ℕ → Heard → Type 0
AnyUnit link h = Unit {0}

any_link : (links : LinkMap) → AreSaid AnyTalk links
any_link [] = tt
any_link (entry ∷ links) = (tt, any_link links)

any_after : (said : Option Talk) → IfThere AnyTalk said
any_after None = tt
any_after (Some talk) = tt

-- of the desk alone, whatever challenges are left
abbrev pub DeskTrail : Type 1
DeskTrail = List ControllerCall → Desk → Desk → Type 0

-- an action that tells of no judgement, and keeps no text
pub record TellsNothing (what : Action) : Type 0 where
  pub told : told_in what ≡ []
  pub text : (text : List ℕ) → text_by what text ≡ text

pub record DeskWalks (name : List ℕ) (now : ℕ) (R : DeskTrail) : Type 0 where
  pub same : (d : Desk) → R [] d d
  pub join : (one two : List ControllerCall) (a b c : Desk) → R one a b → R two b c → R (one ++ two) a c
  pub acts : (d : Desk) (what : Action) → TellsNothing what → R [] d (desk d.table (tell d.work what))
  pub unknown : (line : Line) (c : ChallengeCall) (server : List ℕ) (d : Desk) → R (call.Challenge c ∷ []) d (desk d.table (send_reply d.work line (challenge_reply server)))
  pub known : (line : Line) (c : ChallengeCall) (server : List ℕ) (d : Desk) →
      R (call.Challenge c ∷ []) d (desk d.table (send_reply (put_pair c.computer (pair_for c server) d.work) line (challenge_reply server)))
  pub denied : (line : Line) (c : AuthCall) (status : ℕ) (d : Desk) → R (call.Authenticate c ∷ []) d (desk d.table (deny_channel (take_pair c.computer d.work) line c.flags status))
  pub accepted : (line : Line) (c : AuthCall) (d : Desk) → (opens : OpensAt d c) →
      R (call.Authenticate c ∷ []) d (desk d.table (open_channel true (channel_for opens.account opens.pair c) line c (take_pair c.computer d.work)))
  pub judged : (line : Line) (c : JudgedCall) (d after : Desk) → JudgedComes c name now line d after → R (call.Judged c ∷ []) d after

abbrev pub OfDesks : DeskTrail → Trail
OfDesks R calls a left b rest = R calls a b

module _ (name : List ℕ) (now : ℕ) (R : DeskTrail) (walks : DeskWalks name now R) where
  pub desk_walks : Walks name now AnyTalk AnyUnit (OfDesks R)
  desk_walks = record {
    hears = λ link bytes talk said. tt;
    says = λ link h fits. any_after (talk_after h);
    first = tt;
    same = λ d left. walks.same d;
    join = λ one two a b c left rest less first second. walks.join one two a b c first second;
    close = λ link cause d left. walks.acts d (action.Close link cause) (record { told = refl; text = λ text. refl });
    answer = λ link bytes talk d left fits. walks.acts d (action.Send link bytes) (record { told = refl; text = λ text. refl });
    unknown = λ link line c talk server d rest fits none. walks.unknown line c server d;
    known = λ link line c talk server d rest fits known. walks.known line c server d;
    denied = λ link line c talk status d left fits fails none. walks.denied line c status d;
    accepted = λ link line c talk d left fits opens. walks.accepted line c d opens;
    judged = λ link line c talk d left after fits comes. walks.judged line c d after comes;
  }

pub record DeskSteps (Comes : Stepped State → Type 0) (R : DeskTrail) (s : State) (what : Event) (left : List (List ℕ)) : Type 0 where
  pub stopped : s.running ≡ None → Comes (stopped_step left s)
  pub spent : (running : Running) → s.running ≡ Some running → Comes (spent_step left (halted s))
  pub taken : (running : Running) (after : Desk) (links : LinkMap) (rest : List (List ℕ)) → s.running ≡ Some running →
      R (calls_of what running.links) (first_desk s.table running) after → Comes (whole_step left rest after.work.actions (state_after s (after, links)))

pub desk_leads : (Comes : Stepped State → Type 0) (R : DeskTrail) (s : State) (what : Event) (now : ℕ) (left : List (List ℕ)) → DeskWalks s.name now R → DeskSteps Comes R s what left →
    Comes (step_of s what now left)
desk_leads Comes R s what now left walks steps =
    step_leads Comes AnyTalk AnyUnit (OfDesks R) s what now left (desk_walks s.name now R walks)
    (record { stopped = steps.stopped; spent = steps.spent; taken = λ running after links rest is said leads. steps.taken running after links rest is leads })
    (λ running is. any_link running.links)

-- what is known of all calls is known of the first ones, and of the others
pub front_all : (Such : ControllerCall → Type 0) (one two : List ControllerCall) → AllByRecursion Such (one ++ two) → AllByRecursion Such one
front_all Such [] two all = tt
front_all Such (c ∷ one) two all = (all.0, front_all Such one two all.1)

pub behind_all : (Such : ControllerCall → Type 0) (one two : List ControllerCall) → AllByRecursion Such (one ++ two) → AllByRecursion Such two
behind_all Such [] two all = all
behind_all Such (c ∷ one) two all = behind_all Such one two all.1

-- of the accounts alone: they change where a call passes, and then as what it asks leaves them
abbrev pub TableTrail : Type 1
TableTrail = List ControllerCall → AccountTable → AccountTable → Type 0

pub record TableWalks (name : List ℕ) (now : ℕ) (R : TableTrail) : Type 0 where
  pub same : (calls : List ControllerCall) (table : AccountTable) → R calls table table
  pub join : (one two : List ControllerCall) (a b c : AccountTable) → R one a b → R two b c → R (one ++ two) a c
  pub done : (c : JudgedCall) (computer key : List ℕ) (table : AccountTable) (sessions : List Session) →
      R (call.Judged c ∷ []) table (done_asked (asked_of c) computer key name table now sessions).table

abbrev pub OfTables : TableTrail → DeskTrail
OfTables R calls a b = R calls a.table b.table

module _ (name : List ℕ) (now : ℕ) (R : TableTrail) (walks : TableWalks name now R) where
  table_judged : (line : Line) (c : JudgedCall) (d after : Desk) → JudgedComes c name now line d after → R (call.Judged c ∷ []) d.table after.table
  table_judged line c d after (Refused how away) = subst (λ (table : AccountTable). R (call.Judged c ∷ []) d.table table) (sym away.table) (walks.same (call.Judged c ∷ []) d.table)
  table_judged line c d after (Passes next is) =
      subst (λ (table : AccountTable). R (call.Judged c ∷ []) d.table table) (sym is.table)
      (walks.done c (computer_or_none (computer_named c)) (key_of_channel next.channel) d.table d.work.computers.sessions)

  pub table_walks : DeskWalks name now (OfTables R)
  table_walks = record {
    same = λ d. walks.same [] d.table;
    join = λ one two a b c first second. walks.join one two a.table b.table c.table first second;
    acts = λ d what quiet. walks.same [] d.table;
    unknown = λ line c server d. walks.same (call.Challenge c ∷ []) d.table;
    known = λ line c server d. walks.same (call.Challenge c ∷ []) d.table;
    denied = λ line c status d. walks.same (call.Authenticate c ∷ []) d.table;
    accepted = λ line c d opens. walks.same (call.Authenticate c ∷ []) d.table;
    judged = table_judged;
  }
