-- When an authenticator passes again at a controller that can seal: how the channel of a computer moves through the
-- units that are heard, whatever happens. It serves `replays_pass_by_the_sum`.
use Rattle.std.proofs.Common.{◌≡◌, ◌↔◌, ◌&&◌, ◌%◌, ◌^◌, ℕ, Bool, true, false, List, [], ◌∷◌, ◌++◌, Option, Some, None, Result, Ok, Err, refl, sym, ap, subst, ◌∙◌, append-nil, slice_get, inl, inr}
use Rattle.std.proofs.lemmas.Bool.{cases_Bool}
use Rattle.std.proofs.lemmas.Slice.Eq.{bytes_eq-Decides}
use Rattle.std.specs.List.{AllByRecursion}
use Rattle.wire_base.specs.Maps.{lookup, same_number, take_out}
use Rattle.wire_base.specs.Names.{same_name}
use Rattle.wire_base.specs.declared.authenticator.Authenticator.{Authenticator}
use Rattle.wire_base.proofs.ListLaws.{some_is}
use Rattle.wire_base.proofs.NameLaws.{IsSameness-same_name}
use Rattle.account_table.specs.AccountTable.{AccountTable}
use Rattle.account_table.specs.declared.account.Trust.{Trust}
use Rattle.authenticators.specs.Sequences.{Passes, moved_by, next_seed, seed_after}
use Rattle.authenticators.specs.SecureChannels.{SecureChannelState, channel_by, key_of_channel, passes_on}
use Rattle.authenticators.proofs.ReplayLaws.{replay}
use Rattle.outside.specs.Machine.{Part, step_by, then_part}
use Rattle.outside.specs.declared.action.StepRefused.{StepRefused}
use Rattle.outside.specs.declared.event.Event.{Event}
use Rattle.outside.specs.declared.event.Event.TheVariants as event
use Rattle.logon_stubs.specs.declared.info.Verdict.{Verdict}
use Rattle.rpc_units.specs.Stream.{cut_stream}
use Rattle.rpc_units.specs.declared.refused.UnitRefused.{UnitRefused}
use Rattle.channel_client.specs.State.{Requester}
use Rattle.channel_turns.specs.Turning.{Turned, is_on, is_waiting, link_answers, link_closes, link_hears, no_dial}
use Rattle.channel_turns.specs.declared.state.TurnEnded.{TurnEnded}
use Rattle.channel_turns.specs.declared.state.Turning.{Turning}
use Rattle.end_links.specs.Links.{LinkState}
use Rattle.end_links.specs.Serving.{Server, served_by, served_cut, served_units, then_open, then_talk, units_on, units_then}
use Rattle.controller_calls.specs.Calls.{computer_named, given_in}
use Rattle.controller_calls.specs.Seals.{is_on as is_on_own_link, stands}
use Rattle.controller_calls.specs.declared.calls.JudgedCall.{JudgedCall}
use Rattle.controller_calls.specs.declared.line.Line.{Line}
use Rattle.controller_calls.specs.declared.seals.LinkSeal.{LinkSeal}
use Rattle.controller_calls.specs.declared.state.Computers.{Computers}
use Rattle.domain_controller.specs.Forwarding.{TrustDesk}
use Rattle.domain_controller.specs.SealHearing.{seal_hear}
use Rattle.domain_controller.specs.SealJudging.{HearsCall, IfServed, OpensFor, PassesFor, call_heard, channel_at, desk_at}
use Rattle.domain_controller.specs.SealReplays.{ComesWith, Happening, OpensAnother, OpensBy, PassesThen, PassesWith, SealedReplaysBySum, UnitHeard, heard_at, heard_by, heard_if, heard_in, heard_on, timestamp_by, timestamp_if, timestamp_in, timestamp_named, timestamp_of_unit, timestamp_on, timestamps_on, units_heard}
use Rattle.domain_controller.specs.SealServing.{SealDesk, SealPart, answer_on_line, answer_sealed, answer_standing, answered_by, seal_desk, seal_server}
use Rattle.domain_controller.specs.SealStep.{SealParts, SealStepPart, answer_ended, answer_turned, by_seal_event, close_answered, end_verdict, seal_after_units, seal_answer_dial, seal_close_by, seal_close_number, seal_fail_dial, seal_serve_bytes, seal_serve_on, seal_state_after, seal_step_of, seal_step_on, seal_step_part, seal_turn_at, step_with}
use Rattle.domain_controller.specs.Sealing.{seal_of_link, unseal_link, without_asked}
use Rattle.domain_controller.specs.State.{State}
use Rattle.domain_controller.specs.Step.{LinkMap}
use Rattle.domain_controller.specs.TrustStep.{after_turned, is_idle, link_with, next_turn, open_by, parts_of, put_open, trust_halted, turned_work, turning_of, without_link}
use Rattle.domain_controller.specs.declared.sealed.SealedCall.{SealedCall}
use Rattle.domain_controller.specs.declared.sealed.Sealing.{Sealing}
use Rattle.domain_controller.specs.declared.state.Running.{Running}
use Rattle.domain_controller.specs.declared.state.Talk.{Talk}
use Rattle.domain_controller.specs.declared.trusting.Parts.{Parts}
use Rattle.domain_controller.specs.declared.trusting.TrustWork.{TrustWork}
use Rattle.domain_controller.proofs.PlainLaws.{plain_controllers_stay}
use Rattle.domain_controller.proofs.SealJudgeLaws.{own_from, own_so}
use Rattle.domain_controller.proofs.SealToldLaws.{Seals, UnitAdds, channel_moves, channel_stays, hears_from, hears_so, its_part, unit_adds}
use Rattle.domain_controller.proofs.TrustWalkLaws.{NextActs, ended_acts, next_acts}

-- ---- the channels before units, and behind them

abbrev Channels : Type 0
Channels = List (List ℕ × SecureChannelState)

abbrev channels_on : SealDesk → Channels
channels_on work = work.desk.work.work.computers.channels

abbrev parts_channels : Parts → Channels
parts_channels parts = parts.work.work.computers.channels

-- none where the challenges weren't enough
abbrev after_unit : SealPart → Option Channels
after_unit (Err why) = None
after_unit (Ok part) = Some (channels_on part.value.0)

abbrev after_part : SealStepPart → Option Channels
after_part (Err why) = None
after_part (Ok part) = Some (parts_channels part.value.rest.parts)

abbrev channels_by : Option Running → Option Sealing → Option Channels
channels_by None sealing = None
channels_by (Some running) None = None
channels_by (Some running) (Some sealing) = Some running.computers.channels

-- none where it has stopped, or can't seal
abbrev channels_in : State → Option Channels
channels_in s = channels_by s.running s.trusting.sealing

-- a unit was served at a controller that can seal
record IsServed (u : UnitHeard) : Type 0 where
  name : List ℕ
  now : ℕ
  sealing : Sealing
  can : u.served.work.sealing ≡ Some sealing
  is : u.served.part ≡ (seal_server name now u.number).unit u.served.bytes u.served.work u.served.talk u.served.left

-- nothing is heard
abbrev Stays : Channels → Option Channels → Type 0
Stays before None = Unit {0}
Stays before (Some after) = after ≡ before

-- units are heard, the first where the channels stand so, and behind the last they stand so
abbrev Runs : Option Channels → List UnitHeard → Option Channels → Type 0
Runs None [] after = after ≡ None
Runs None (u ∷ units) after = ⊥
Runs (Some before) [] after = Stays before after
Runs (Some before) (u ∷ units) after = (channels_on u.served.work ≡ before) × IsServed u × Runs (after_unit u.served.part) units after

at_rest : (before : Option Channels) → Runs before [] before
at_rest None = refl
at_rest (Some before) = refl

joined_none : (units : List UnitHeard) (after : Option Channels) (before : Channels) → Runs None units after → Runs (Some before) units after
joined_none [] None before is = tt
joined_none [] (Some after) before is = absurd (let x = is in cc)
joined_none (u ∷ units) after before is = absurd is

joined_stay : (before : Channels) (middle : Option Channels) (more : List UnitHeard) (after : Option Channels) → Stays before middle → Runs middle more after →
    Runs (Some before) more after
joined_stay before None more after stays runs = joined_none more after before runs
joined_stay before (Some middle) more after stays runs = subst (λ (c : Channels). Runs (Some c) more after) stays runs

joined : (before : Option Channels) (units more : List UnitHeard) (middle after : Option Channels) → Runs before units middle → Runs middle more after → Runs before (units ++ more) after
joined None [] more middle after first second = subst (λ (c : Option Channels). Runs c more after) first second
joined None (u ∷ units) more middle after first second = absurd first
joined (Some before) [] more middle after first second = joined_stay before middle more after first second
joined (Some before) (u ∷ units) more middle after first second =
    (first.0, first.1, joined (after_unit u.served.part) units more middle after first.2 second)

followed : (before : Option Channels) (units : List UnitHeard) (middle after : Option Channels) → Runs before units middle → Runs middle [] after → Runs before units after
followed before units middle after first second =
    subst (λ (all : List UnitHeard). Runs before all after) (append-nil units) (joined before units [] middle after first second)

behind_front : (front : List UnitHeard) (before : Option Channels) (units : List UnitHeard) (after : Option Channels) → Runs before (front ++ units) after →
    (middle : Option Channels) × Runs middle units after
behind_front [] before units after runs = (before, runs)
behind_front (u ∷ front) None units after runs = absurd runs
behind_front (u ∷ front) (Some before) units after runs = behind_front front (after_unit u.served.part) units after runs.2

-- ---- the units of a piece

module _ (name : List ℕ) (now number : ℕ) where
  abbrev its_server : Server SealDesk Talk
  its_server = seal_server name now number

  abbrev PartSeals : SealPart → Type 0
  PartSeals (Err why) = Unit {0}
  PartSeals (Ok part) = Seals part.value.0.sealing

  seals_by : (bytes : List ℕ) (d : TrustDesk) (s : Sealing) (talk : Talk) (left : List (List ℕ)) (part : SealPart) → UnitAdds name now number bytes d s talk left part → PartSeals part
  seals_by bytes d s talk left (Err why) adds = tt
  seals_by bytes d s talk left (Ok part) adds = adds.1

  unit_seals : (bytes : List ℕ) (work : SealDesk) (talk : Talk) (left : List (List ℕ)) → Seals work.sealing → PartSeals (its_server.unit bytes work talk left)
  unit_seals bytes work talk left seals =
      let same : work ≡ seal_desk work.desk seals.0 = ap (λ (o : Option Sealing). record { desk = work.desk; sealing = o }) seals.1 in
      subst (λ (w : SealDesk). PartSeals (its_server.unit bytes w talk left)) (sym same)
      (seals_by bytes work.desk seals.0 talk left (its_part name now number bytes work.desk seals.0 talk left) (unit_adds name now number bytes work.desk seals.0 talk left))

  abbrev ServedRuns : List (List ℕ) → Option UnitRefused → Type 0
  ServedRuns units why = (work : SealDesk) (talk : Talk) (left : List (List ℕ)) → Seals work.sealing →
      Runs (Some (channels_on work)) (units_heard number (served_units its_server units work talk left)) (after_unit (served_by its_server units why work talk left))

  said_runs : (units : List (List ℕ)) (why : Option UnitRefused) (work : SealDesk) (said : Option Talk) (left : List (List ℕ)) → ServedRuns units why → Seals work.sealing →
      Runs (Some (channels_on work)) (units_heard number (units_on work said left (λ later talk rest. served_units its_server units later talk rest)))
      (after_unit (then_talk work said left (λ later talk rest. served_by its_server units why later talk rest)))
  said_runs units why work None left each seals = refl
  said_runs units why work (Some talk) left each seals = each work talk left seals

  then_runs : (units : List (List ℕ)) (why : Option UnitRefused) (part : SealPart) → ServedRuns units why → PartSeals part →
      Runs (after_unit part) (units_heard number (units_then part (λ later talk rest. served_units its_server units later talk rest)))
      (after_unit (then_open part (λ later talk rest. served_by its_server units why later talk rest)))
  then_runs units why (Err refused) each seals = refl
  then_runs units why (Ok part) each seals = said_runs units why part.value.0 part.value.1 part.left each seals

  served_runs : (units : List (List ℕ)) (why : Option UnitRefused) → ServedRuns units why
  served_runs [] None work talk left seals = refl
  served_runs [] (Some why) work talk left seals = refl
  served_runs (bytes ∷ units) why work talk left seals = (
    refl,
    record { name = name; now = now; sealing = seals.0; can = seals.1; is = refl },
    then_runs units why (its_server.unit bytes work talk left) (served_runs units why) (unit_seals bytes work talk left seals),
  )

-- ---- what else happens leaves the channels

answered_keeps : (bytes : Option (List ℕ)) (line : Line) (w : TrustWork) (s : Sealing) → (answered_by bytes line w s).0.0.work.computers ≡ w.work.computers
answered_keeps None line w s = refl
answered_keeps (Some bytes) line w s = refl

standing_keeps : (has : Bool) (c : SealedCall) (line : Line) (verdict : Verdict) (w : TrustWork) (s : Sealing) → (answer_standing has c line verdict w s).0.0.work.computers ≡ w.work.computers
standing_keeps false c line verdict w s = refl
standing_keeps true c line verdict w s = answered_keeps _ line w _

line_keeps : (line : Option Line) (c : SealedCall) (verdict : Verdict) (w : TrustWork) (s : Sealing) → (answer_on_line line c verdict w s).0.0.work.computers ≡ w.work.computers
line_keeps None c verdict w s = refl
line_keeps (Some line) c verdict w s = standing_keeps (stands c.reply.link s.seals) c line verdict w s

found_keeps : (found : Option SealedCall) (place : ℕ × ℕ) (verdict : Verdict) (w : TrustWork) (s : Sealing) → (answer_sealed found place verdict w s).0.0.work.computers ≡ w.work.computers
found_keeps None place verdict w s = refl
found_keeps (Some c) place verdict w s = line_keeps c.call.line c verdict w (without_asked place s)

verdict_keeps : (answer : Option (ℕ × Verdict)) (trust : ℕ) (w : TrustWork) (s : Sealing) → (answer_ended answer trust w s).0.0.work.computers ≡ w.work.computers
verdict_keeps None trust w s = refl
verdict_keeps (Some answer) trust w s = found_keeps _ (trust, answer.0) answer.1 w s

closes_keep : (closed : Option ℕ) (parts : Parts) (s : Sealing) → (close_answered closed parts s).0.work.work.computers ≡ parts.work.work.computers
closes_keep None parts s = refl
closes_keep (Some number) parts s = refl

turned_keeps : (ended : Option TurnEnded) (trust : ℕ) (parts : Parts) (s : Sealing) → (answer_turned ended trust parts s).0.work.work.computers ≡ parts.work.work.computers
turned_keeps ended trust parts s =
    let done = answer_ended (end_verdict ended) trust parts.work s in
    closes_keep done.1 _ done.0.1 ∙ verdict_keeps (end_verdict ended) trust parts.work s

turn_keeps : (found : Option Requester) (happens : Turning → Turned) (parts : Parts) (s : Sealing) → (seal_turn_at found happens parts s).0.work.work.computers ≡ parts.work.work.computers
turn_keeps None happens parts s = refl
turn_keeps (Some channel) happens parts s =
    let turned : Turned = happens (turning_of channel parts) in
    turned_keeps turned.1 parts.turn_of (after_turned parts.turn_of turned parts) s
    ∙ (ended_acts turned.1 parts.turn_of (turned_work parts.turn_of turned.0 parts.work)).computers

close_keeps : (hit : Bool) (number : ℕ) (parts : Parts) (s : Sealing) → (seal_close_by hit number parts s).0.work.work.computers ≡ parts.work.work.computers
close_keeps false number parts s = refl
close_keeps true number parts s = turn_keeps (slice_get parts.work.queues.requesters parts.turn_of) (λ turning. link_closes number turning) parts s

open_keeps : (full : Bool) (number : ℕ) (parts : Parts) → (open_by full number parts).work.work.computers ≡ parts.work.work.computers
open_keeps true number parts = refl
open_keeps false number parts = refl

dial_keeps : (waits : Bool) (number : ℕ) (parts : Parts) (s : Sealing) → (seal_answer_dial waits number parts s).0.work.work.computers ≡ parts.work.work.computers
dial_keeps false number parts s = refl
dial_keeps true number parts s =
    let less : Parts = without_link number parts in
    turn_keeps (slice_get less.work.queues.requesters less.turn_of) (λ turning. (link_answers number turning, None)) less (unseal_link number s)

fail_keeps : (waits : Bool) (parts : Parts) (s : Sealing) → (seal_fail_dial waits parts s).0.work.work.computers ≡ parts.work.work.computers
fail_keeps false parts s = refl
fail_keeps true parts s = turn_keeps (slice_get parts.work.queues.requesters parts.turn_of) (λ turning. no_dial turning) parts s

abbrev to_channels : (before after : Computers) → after ≡ before → after.channels ≡ before.channels
to_channels before after is = ap (λ (c : Computers). c.channels) is

-- ---- an event, and a step

put_same : (still : Option (LinkState Talk)) (number : ℕ) (parts : Parts) → (put_open still number parts).work.work ≡ parts.work.work
put_same None number parts = refl
put_same (Some link) number parts = refl

units_after : (part : SealPart) (rest : List ℕ) (number : ℕ) (others : LinkMap) (parts : Parts) → after_part (seal_after_units part rest number others parts) ≡ after_unit part
units_after (Err why) rest number others parts = refl
units_after (Ok part) rest number others parts =
    ap (λ (w : _). Some w.computers.channels) (put_same (link_with rest part.value.1) number (record parts { work = part.value.0.desk.work; links = others }))

module _ (s : State) (running : Running) (sealing : Sealing) (now : ℕ) (left : List (List ℕ)) where
  abbrev its_parts : Parts
  its_parts = parts_of running s.trusting

  abbrev PartRuns : List UnitHeard → SealStepPart → Type 0
  PartRuns units part = Runs (Some running.computers.channels) units (after_part part)

  on_runs : (found : Option (LinkState Talk)) (number : ℕ) (piece : List ℕ) (others : LinkMap) →
      PartRuns (heard_on found s running sealing number piece now left) (seal_serve_on found number piece s.name now others s.table its_parts sealing left)
  on_runs None number piece others = refl
  on_runs (Some link) number piece others =
      let cut = cut_stream (link.rest ++ piece) in
      let units : List UnitHeard = units_heard number (served_units (seal_server s.name now number) cut.units (desk_at s running sealing) link.talk left) in
      subst (λ (after : Option Channels). Runs (Some running.computers.channels) units after)
      (sym (units_after (served_cut (seal_server s.name now number) cut (desk_at s running sealing) link.talk left) cut.rest number others its_parts))
      (served_runs s.name now number cut.units cut.refused (desk_at s running sealing) link.talk left (sealing, refl))

  bytes_run : (on : Bool) (number : ℕ) (piece : List ℕ) →
      PartRuns (heard_if on s running sealing number piece now left) (seal_serve_bytes on number piece s.name now s.table its_parts sealing left)
  bytes_run true number piece =
      to_channels running.computers _ (turn_keeps (slice_get its_parts.work.queues.requesters its_parts.turn_of) (λ turning. link_hears number piece turning) its_parts sealing)
  bytes_run false number piece = on_runs (lookup same_number number running.links) number piece (take_out same_number number running.links)

  event_runs : (what : Event) → PartRuns (heard_at what s running sealing now left) (by_seal_event what s.name now s.table its_parts sealing left)
  event_runs (event.Opened number) =
      to_channels running.computers _
      (open_keeps _ number (seal_close_number number its_parts sealing).0 ∙ close_keeps (is_on number its_parts.dialling) number its_parts sealing)
  event_runs (event.Bytes number piece) = bytes_run (is_on number s.trusting.dialling) number piece
  event_runs (event.Closed number) = to_channels running.computers _ (close_keeps (is_on number its_parts.dialling) number its_parts sealing)
  event_runs (event.Dialled number) = to_channels running.computers _ (dial_keeps (is_waiting its_parts.dialling) number its_parts sealing)
  event_runs event.DialFailed = to_channels running.computers _ (fail_keeps (is_waiting its_parts.dialling) its_parts sealing)
  event_runs event.Stop = refl

  abbrev with_next : AccountTable → Option Sealing → Result (Part Parts) StepRefused → SealStepPart
  with_next table after next =
      then_part next (λ later last. Ok (record { value = record { rest = record { table = table; parts = later }; sealing = after }; left = last }))

  next_runs : (next : Result (Part Parts) StepRefused) (table : AccountTable) (after : Option Sealing) (before : Parts) → NextActs before next →
      Runs (Some (parts_channels before)) [] (after_part (with_next table after next))
  next_runs (Err why) table after before acts = tt
  next_runs (Ok part) table after before acts = to_channels before.work.work.computers part.value.work.work.computers acts.computers

  turn_runs : (part : SealStepPart) (trusts : List Trust) →
      Runs (after_part part) [] (after_part (then_part part (λ after rest. with_next after.rest.table after.sealing (next_turn trusts now after.rest.parts rest))))
  turn_runs (Err why) trusts = refl
  turn_runs (Ok part) trusts =
      next_runs (next_turn trusts now part.value.rest.parts part.left) part.value.rest.table part.value.sealing part.value.rest.parts
      (next_acts (is_idle part.value.rest.parts.dialling) trusts now part.value.rest.parts part.left)

  -- one that can't seal any more hears nothing of which is spoken here
  kept_runs : (p : SealParts) (after : Option Sealing) (links : LinkMap) →
      Runs (Some (parts_channels p.rest.parts)) [] (channels_by (Some (record { computers = p.rest.parts.work.work.computers; links = links })) after)
  kept_runs p None links = tt
  kept_runs p (Some after) links = refl

  state_runs : (part : SealStepPart) →
      Runs (after_part part) [] (channels_in (step_by (λ (after : SealParts). after.rest.parts.work.work.actions) (λ after. seal_state_after s after) (trust_halted s) left part).state)
  state_runs (Err why) = refl
  state_runs (Ok part) = kept_runs part.value part.value.sealing part.value.rest.parts.links

  on_step_runs : (what : Event) → Runs (Some running.computers.channels) (heard_at what s running sealing now left) (channels_in (seal_step_on (Some running) sealing s what now left).state)
  on_step_runs what =
      let units : List UnitHeard = heard_at what s running sealing now left in
      let one : SealStepPart = by_seal_event what s.name now s.table its_parts sealing left in
      let all : SealStepPart = seal_step_part running sealing s what now left in
      let first = followed (Some running.computers.channels) units (after_part one) (after_part all) (event_runs what) (turn_runs one s.table.trusts) in
      followed (Some running.computers.channels) units (after_part all) (channels_in (seal_step_on (Some running) sealing s what now left).state) first (state_runs all)

plain_none : (running : Option Running) (sealing : Option Sealing) → sealing ≡ None → channels_by running sealing ≡ None
plain_none None sealing is = refl
plain_none (Some running) None is = refl
plain_none (Some running) (Some sealing) is = absurd (let x = is in cc)

module _ (s : State) (h : Happening) where
  abbrev its_state : State
  its_state = (seal_step_of s h.what h.now h.left).state

  plain_runs : s.trusting.sealing ≡ None → channels_in its_state ≡ None
  plain_runs none = plain_none its_state.running its_state.trusting.sealing (plain_controllers_stay.stays s h.what h.now h.left none)

  step_is : (sealing : Sealing) → s.trusting.sealing ≡ Some sealing → its_state ≡ (seal_step_on s.running sealing s h.what h.now h.left).state
  step_is sealing is = ap (λ (o : Option Sealing). (step_with o s h.what h.now h.left).state) is

  step_runs_by : (running : Option Running) (sealing : Option Sealing) → s.running ≡ running → s.trusting.sealing ≡ sealing →
      Runs (channels_by running sealing) (heard_by running sealing s h) (channels_in its_state)
  step_runs_by None None stops none = plain_runs none
  step_runs_by (Some running) None runs none = plain_runs none
  step_runs_by None (Some sealing) stops is =
      ap channels_in (step_is sealing is)
      ∙ ap (λ (r : Option Running). channels_in (seal_step_on r sealing s h.what h.now h.left).state) stops
      ∙ ap (λ (r : Option Running). channels_by r s.trusting.sealing) stops
  step_runs_by (Some running) (Some sealing) runs is =
      subst (λ (after : Option Channels). Runs (Some running.computers.channels) (heard_at h.what s running sealing h.now h.left) after)
      (sym (ap channels_in (step_is sealing is) ∙ ap (λ (r : Option Running). channels_in (seal_step_on r sealing s h.what h.now h.left).state) runs))
      (on_step_runs s running sealing h.now h.left h.what)

  step_runs : Runs (channels_in s) (heard_by s.running s.trusting.sealing s h) (channels_in its_state)
  step_runs = step_runs_by s.running s.trusting.sealing refl refl

-- the state at the end
abbrev last_of : State → List Happening → State
last_of s [] = s
last_of s (h ∷ more) = last_of (seal_step_of s h.what h.now h.left).state more

all_run : (s : State) (run : List Happening) → Runs (channels_in s) (heard_in s run) (channels_in (last_of s run))
all_run s [] = at_rest (channels_in s)
all_run s (h ∷ more) =
    let next : State = (seal_step_of s h.what h.now h.left).state in
    joined (channels_in s) (heard_by s.running s.trusting.sealing s h) (heard_in next more) (channels_in next) (channels_in (last_of next more)) (step_runs s h) (all_run next more)

-- ---- one computer's channel

same_keys : (one other key : List ℕ) → same_name one other ≡ true → same_name one key ≡ same_name other key
same_keys one other key same =
    elim (cases_Bool (same_name other key)) [
      | inl is ↦ IsSameness-same_name.transitive one other key same is ∙ sym is
      | inr not ↦ not_same (same_name one key) refl not
    ]
  where
    not_same : (found : Bool) → same_name one key ≡ found → same_name other key ≡ false → same_name one key ≡ same_name other key
    not_same false is not = is ∙ sym not
    not_same true is not =
        absurd (let never : false ≡ true = sym not ∙ IsSameness-same_name.transitive other one key (IsSameness-same_name.symmetric one other same) is in cc)

same_found : (one other : List ℕ) (channels : Channels) → same_name one other ≡ true → lookup same_name one channels ≡ lookup same_name other channels
same_found one other [] same = refl
same_found one other (entry ∷ channels) same =
    rw (same_keys one other entry.0 same) (rw (same_found one other channels same) refl)

-- a channel on which these timestamps passed
abbrev moved_on : SecureChannelState → List ℕ → SecureChannelState
moved_on channel [] = channel
moved_on channel (timestamp ∷ later) = moved_on (record channel { seed = next_seed channel.seed timestamp }) later

moved_key : (channel : SecureChannelState) (timestamps : List ℕ) → key_of_channel (moved_on channel timestamps) ≡ key_of_channel channel
moved_key channel [] = refl
moved_key channel (timestamp ∷ later) = moved_key (record channel { seed = next_seed channel.seed timestamp }) later

moved_seed : (channel : SecureChannelState) (timestamps : List ℕ) → (moved_on channel timestamps).seed ≡ seed_after channel.seed timestamps
moved_seed channel [] = refl
moved_seed channel (timestamp ∷ later) = moved_seed (record channel { seed = next_seed channel.seed timestamp }) later

moved_both : (channel : SecureChannelState) (front later : List ℕ) → moved_on channel (front ++ later) ≡ moved_on (moved_on channel front) later
moved_both channel [] later = refl
moved_both channel (timestamp ∷ front) later = moved_both (record channel { seed = next_seed channel.seed timestamp }) front later

-- ---- how a unit moves it

module _ (computer : List ℕ) (u : UnitHeard) (s : Sealing) where
  abbrev its_link : Option LinkSeal
  its_link = seal_of_link u.number s

  abbrev its_computers : Computers
  its_computers = u.served.work.desk.work.work.computers

  abbrev its_call : Option JudgedCall
  its_call = call_heard (seal_hear u.number u.served.bytes u.served.talk its_link s.seals).heard

  abbrev its_timestamp : List ℕ
  its_timestamp = timestamp_by (Some s) computer u

  abbrev Passing : Type 0
  Passing = PassesFor u.number u.served.bytes u.served.talk its_computers s computer

  passed_timestamp : (passes : Passing) → its_timestamp ≡ passes.on.next.given.timestamp ∷ []
  passed_timestamp passes =
      let next = passes.on.next in
      let own : Bool = is_on_own_link its_link next.computer s.seals in
      ap (λ (c : Option JudgedCall). timestamp_in c its_link computer its_computers s.seals)
      (hears_so its_link u.number u.served.bytes u.served.talk s.seals passes.call passes.heard)
      ∙ ap (λ (named : Option (List ℕ)). timestamp_named named (given_in passes.call) its_link computer its_computers s.seals) next.named
      ∙ ap (λ (given : Option Authenticator). timestamp_named (Some next.computer) given its_link computer its_computers s.seals) next.there
      ∙ ap (λ (found : Option SecureChannelState). timestamp_on found (same_name next.computer computer && own) next.given) next.stands
      ∙ ap (λ (is : Bool). timestamp_if ((is && own) && passes_on next.channel next.given) next.given) passes.its
      ∙ ap (λ (is : Bool). timestamp_if (is && passes_on next.channel next.given) next.given) (own_so its_link next.computer s.seals passes.on.own)
      ∙ ap (λ (is : Bool). timestamp_if is next.given) ((bytes_eq-Decides next.given.credential _).1 next.passes)

  -- the unit's call passes on the channel, or doesn't
  data Comes : Type 0 where
    Passed : Passing → Comes
    Other : (Passing → ⊥) → its_timestamp ≡ [] → Comes

  none_comes : its_timestamp ≡ [] → Comes
  none_comes is = Other (λ passes. absurd (let never : [] ≡ passes.on.next.given.timestamp ∷ [] = sym is ∙ passed_timestamp passes in cc)) is

  module _ (c : JudgedCall) (hears : HearsCall its_link u.number u.served.bytes u.served.talk s.seals c) where
    by_tests : (its own next : Bool) (name : List ℕ) (given : Authenticator) (channel : SecureChannelState) → computer_named c ≡ Some name → given_in c ≡ Some given →
        lookup same_name name its_computers.channels ≡ Some channel → same_name name computer ≡ its → is_on_own_link its_link name s.seals ≡ own → passes_on channel given ≡ next →
        its_timestamp ≡ timestamp_if ((its && own) && next) given → Comes
    by_tests true true true name given channel named there stands same on next is = Passed (record {
      call = c;
      heard = hears;
      on = record {
        next = record {
          computer = name;
          given = given;
          channel = channel;
          named = named;
          there = there;
          stands = stands;
          passes = (bytes_eq-Decides given.credential _).0 next;
        };
        own = own_from its_link name s.seals on;
      };
      its = same;
    })
    by_tests true true false name given channel named there stands same on not is = none_comes is
    by_tests true false next name given channel named there stands same not passes is = none_comes is
    by_tests false own next name given channel named there stands not on passes is = none_comes is

    by_found : (found : Option SecureChannelState) (name : List ℕ) (given : Authenticator) → computer_named c ≡ Some name → given_in c ≡ Some given →
        lookup same_name name its_computers.channels ≡ found →
        its_timestamp ≡ timestamp_on found (same_name name computer && is_on_own_link its_link name s.seals) given → Comes
    by_found None name given named there found is = none_comes is
    by_found (Some channel) name given named there found is =
        by_tests (same_name name computer) (is_on_own_link its_link name s.seals) (passes_on channel given) name given channel named there found refl refl refl is

    by_named : (named : Option (List ℕ)) (given : Option Authenticator) → computer_named c ≡ named → given_in c ≡ given →
        its_timestamp ≡ timestamp_named named given its_link computer its_computers s.seals → Comes
    by_named None given names there is = none_comes is
    by_named (Some name) None names there is = none_comes is
    by_named (Some name) (Some given) names there is = by_found (lookup same_name name its_computers.channels) name given names there refl is

  by_call : (found : Option JudgedCall) → its_call ≡ found → its_timestamp ≡ timestamp_in found its_link computer its_computers s.seals → Comes
  by_call None hears is = none_comes is
  by_call (Some c) hears is =
      by_named c (hears_from its_link u.number u.served.bytes u.served.talk s.seals c hears) (computer_named c) (given_in c) refl refl is

  comes : Comes
  comes = by_call its_call refl refl

-- the channel of the computer stands as `channel`, if the challenges were enough
abbrev Has : (computer : List ℕ) → Option Channels → (channel : SecureChannelState) → Type 0
Has computer None channel = Unit {0}
Has computer (Some channels) channel = lookup same_name computer channels ≡ Some channel

module _ (computer : List ℕ) (u : UnitHeard) (is : IsServed u) where
  abbrev its_desk : TrustDesk
  its_desk = u.served.work.desk

  abbrev its_channels : Channels
  its_channels = channels_on u.served.work

  abbrev its_unit : SealPart
  its_unit = (seal_server is.name is.now u.number).unit u.served.bytes (seal_desk its_desk is.sealing) u.served.talk u.served.left

  part_is : u.served.part ≡ its_unit
  part_is =
      is.is
      ∙ ap (λ (o : Option Sealing). (seal_server is.name is.now u.number).unit u.served.bytes (record { desk = its_desk; sealing = o }) u.served.talk u.served.left) is.can

  passes_found : (passes : PassesFor u.number u.served.bytes u.served.talk its_desk.work.work.computers is.sealing computer) (channel : SecureChannelState) →
      lookup same_name computer its_channels ≡ Some channel → passes.on.next.channel ≡ channel
  passes_found passes channel has =
      some_is passes.on.next.channel channel (sym passes.on.next.stands ∙ same_found passes.on.next.computer computer its_channels passes.its ∙ has)

  has_moved : (part : SealPart) (passes : PassesFor u.number u.served.bytes u.served.talk its_desk.work.work.computers is.sealing computer) (channel : SecureChannelState) →
      lookup same_name computer its_channels ≡ Some channel →
      IfServed part u.served.left (λ after. channel_at after.desk.work.work.computers passes.on.next.computer ≡ Some (channel_by true passes.on.next.channel passes.on.next.given)) →
      Has computer (after_unit part) (moved_on channel (passes.on.next.given.timestamp ∷ []))
  has_moved (Err why) passes channel has moves = tt
  has_moved (Ok part) passes channel has moves =
      sym (same_found passes.on.next.computer computer (channels_on part.value.0) passes.its)
      ∙ moves
      ∙ ap (λ (c : SecureChannelState). Some (channel_by true c passes.on.next.given)) (passes_found passes channel has)

  has_stayed : (part : SealPart) (channel : SecureChannelState) → lookup same_name computer its_channels ≡ Some channel →
      IfServed part u.served.left (λ after. channel_at after.desk.work.work.computers computer ≡ channel_at its_desk.work.work.computers computer) →
      Has computer (after_unit part) channel
  has_stayed (Err why) channel has stays = tt
  has_stayed (Ok part) channel has stays = stays ∙ has

  abbrev HasAfter : SecureChannelState → Type 0
  HasAfter channel = Has computer (after_unit u.served.part) channel

  abbrev its_timestamps : List ℕ
  its_timestamps = timestamp_of_unit computer u

  timestamps_are : its_timestamps ≡ timestamp_by (Some is.sealing) computer u
  timestamps_are = ap (λ (o : Option Sealing). timestamp_by o computer u) is.can

  moved_after : (passes : PassesFor u.number u.served.bytes u.served.talk its_desk.work.work.computers is.sealing computer) (channel : SecureChannelState) →
      lookup same_name computer its_channels ≡ Some channel → HasAfter (moved_on channel (passes.on.next.given.timestamp ∷ []))
  moved_after passes channel has =
      subst (λ (part : SealPart). Has computer (after_unit part) (moved_on channel (passes.on.next.given.timestamp ∷ []))) (sym part_is)
      (has_moved its_unit passes channel has
      (channel_moves is.name is.now u.number u.served.bytes its_desk is.sealing u.served.talk u.served.left passes.call passes.heard passes.on))

  opens_none : (OpensAnother computer u → ⊥) → OpensFor u.number u.served.bytes u.served.talk its_desk is.sealing computer → ⊥
  opens_none none opens = none (subst (λ (o : Option Sealing). OpensBy o computer u) (sym is.can) opens)

  by_coming : Comes computer u is.sealing → (channel : SecureChannelState) → lookup same_name computer its_channels ≡ Some channel → (OpensAnother computer u → ⊥) →
      HasAfter (moved_on channel its_timestamps)
  by_coming (Passed passes) channel has none =
      subst (λ (timestamps : List ℕ). HasAfter (moved_on channel timestamps)) (sym (timestamps_are ∙ passed_timestamp computer u is.sealing passes)) (moved_after passes channel has)
  by_coming (Other not nothing) channel has none =
      subst (λ (timestamps : List ℕ). HasAfter (moved_on channel timestamps)) (sym (timestamps_are ∙ nothing))
      (subst (λ (part : SealPart). Has computer (after_unit part) channel) (sym part_is)
      (has_stayed its_unit channel has
      (channel_stays is.name is.now u.number u.served.bytes its_desk is.sealing u.served.talk u.served.left computer not (opens_none none))))

  unit_moves : (channel : SecureChannelState) → lookup same_name computer its_channels ≡ Some channel → (OpensAnother computer u → ⊥) → HasAfter (moved_on channel its_timestamps)
  unit_moves channel has none = by_coming (comes computer u is.sealing) channel has none

-- ---- through units that open no other channel

abbrev NoneOpens : (computer : List ℕ) → List UnitHeard → Type 0
NoneOpens computer units = AllByRecursion (λ (u : UnitHeard). OpensAnother computer u → ⊥) units

has_along : (computer : List ℕ) (units : List UnitHeard) (second : UnitHeard) (later : List UnitHeard) (before after : Option Channels) (channel : SecureChannelState) →
    Runs before (units ++ second ∷ later) after → Has computer before channel → NoneOpens computer units →
    lookup same_name computer (channels_on second.served.work) ≡ Some (moved_on channel (timestamps_on computer units))
has_along computer [] second later None after channel runs has none = absurd runs
has_along computer [] second later (Some before) after channel runs has none = ap (λ (c : Channels). lookup same_name computer c) runs.0 ∙ has
has_along computer (u ∷ units) second later None after channel runs has none = absurd runs
has_along computer (u ∷ units) second later (Some before) after channel runs has none =
    has_along computer units second later (after_unit u.served.part) after (moved_on channel (timestamp_of_unit computer u)) runs.2
    (unit_moves computer u runs.1 channel (ap (λ (c : Channels). lookup same_name computer c) runs.0 ∙ has) none.0) none.1
    ∙ ap (λ (c : SecureChannelState). Some c) (sym (moved_both channel (timestamp_of_unit computer u) (timestamps_on computer units)))

-- ---- the law

module _ (computer : List ℕ) (given : Authenticator) (between later : List UnitHeard) (first second : UnitHeard) (before after : Option Channels)
    (runs : Runs before (first ∷ (between ++ second ∷ later)) after) (one : PassesWith first computer given) (comes : ComesWith second computer given)
    (none : NoneOpens computer between) where
  abbrev its_first : SecureChannelState
  its_first = one.passes.on.next.channel

  abbrev its_later : List ℕ
  its_later = given.timestamp ∷ timestamps_on computer between

  -- the channel that the second one meets
  abbrev its_second : SecureChannelState
  its_second = moved_on its_first its_later

  found_first : lookup same_name computer (channels_on first.served.work) ≡ Some its_first
  found_first = sym (same_found one.passes.on.next.computer computer (channels_on first.served.work) one.passes.its) ∙ one.passes.on.next.stands

  behind_first : (start : Option Channels) → Runs start (first ∷ (between ++ second ∷ later)) after →
      lookup same_name computer (channels_on second.served.work) ≡ Some its_second
  behind_first None all = absurd all
  behind_first (Some start) all =
      let is : IsServed first = record { name = all.1.name; now = all.1.now; sealing = one.sealing; can = one.can; is = all.1.is } in
      has_along computer between second later (after_unit first.served.part) after (moved_on its_first (given.timestamp ∷ [])) all.2
      (subst (λ (g : Authenticator). Has computer (after_unit first.served.part) (moved_on its_first (g.timestamp ∷ []))) one.same
      (moved_after computer first is one.passes its_first found_first))
      none

  second_found : lookup same_name comes.name (channels_on second.served.work) ≡ Some its_second
  second_found = same_found comes.name computer (channels_on second.served.work) comes.its ∙ behind_first before runs

  passes_as : Passes (key_of_channel its_second) its_second.seed given ↔ Passes (key_of_channel its_first) (seed_after its_first.seed its_later) given
  passes_as = (
    λ passes. subst (λ (key : List ℕ). Passes key (seed_after its_first.seed its_later) given) (moved_key its_first its_later)
        (subst (λ (seed : List ℕ). Passes (key_of_channel its_second) seed given) (moved_seed its_first its_later) passes),
    λ passes. subst (λ (seed : List ℕ). Passes (key_of_channel its_second) seed given) (sym (moved_seed its_first its_later))
        (subst (λ (key : List ℕ). Passes key (seed_after its_first.seed its_later) given) (sym (moved_key its_first its_later)) passes),
  )

  passes_first : Passes (key_of_channel its_first) its_first.seed given
  passes_first = subst (λ (g : Authenticator). Passes (key_of_channel its_first) its_first.seed g) one.same one.passes.on.next.passes

  by_sum : Passes (key_of_channel its_second) its_second.seed given ↔ (moved_by its_later % 2 ^ 32 ≡ 0)
  by_sum =
      let law = replay (key_of_channel its_first) its_first.seed given (timestamps_on computer between) one.seed passes_first in
      (λ passes. law.0 (passes_as.0 passes), λ whole. passes_as.1 (law.1 whole))

  meets : PassesThen comes → Passes (key_of_channel its_second) its_second.seed given
  meets on =
      let name : on.next.computer ≡ comes.name = some_is on.next.computer comes.name (sym on.next.named ∙ comes.named) in
      let same : on.next.given ≡ given = some_is on.next.given given (sym on.next.there ∙ comes.there) in
      let channel : on.next.channel ≡ its_second =
      some_is on.next.channel its_second
      (sym on.next.stands ∙ ap (λ (n : List ℕ). lookup same_name n (channels_on second.served.work)) name ∙ second_found) in
      subst (λ (c : SecureChannelState). Passes (key_of_channel c) c.seed given) channel
      (subst (λ (g : Authenticator). Passes (key_of_channel on.next.channel) on.next.channel.seed g) same on.next.passes)

  again_so : PassesThen comes ↔ (moved_by its_later % 2 ^ 32 ≡ 0)
  again_so = (
    λ on. by_sum.0 (meets on),
    λ whole. record {
      next = record {
        computer = comes.name;
        given = given;
        channel = its_second;
        named = comes.named;
        there = comes.there;
        stands = second_found;
        passes = by_sum.1 whole;
      };
      own = comes.own;
    },
  )

pub replays_by_sum : SealedReplaysBySum
replays_by_sum = record {
  again = λ s run computer given earlier between later first second all one comes none.
      let units : List UnitHeard = first ∷ (between ++ second ∷ later) in
      let runs : Runs (channels_in s) (earlier ++ units) (channels_in (last_of s run)) =
      subst (λ (heard : List UnitHeard). Runs (channels_in s) heard (channels_in (last_of s run))) all (all_run s run) in
      let behind = behind_front earlier (channels_in s) units (channels_in (last_of s run)) runs in
      again_so computer given between later first second behind.0 (channels_in (last_of s run)) behind.1 one comes none;
}
