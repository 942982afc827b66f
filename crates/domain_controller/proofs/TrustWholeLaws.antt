-- What a controller that asks others sends is whole, and a step leaves the ranges. It serves
-- `what_trusts_send_is_whole`.
use Rattle.std.proofs.Common.{◌≡◌, ◌<◌, ◌^◌, ◌++◌, ℕ, Bool, true, false, nat_le, List, [], ◌∷◌, length, map, All, Option, Some, None, Result, Ok, Err, slice_get, refl, sym, ap, subst, arith, inl, inr}
use Rattle.std.proofs.lemmas.Bool.{cases_lt}
use Rattle.std.proofs.lemmas.List.{get_or_past, length-append}
use Rattle.std.proofs.lemmas.List.Elements.{All-append, All-from_recursion, All-get_or}
use Rattle.std.specs.List.{AllByRecursion}
use Rattle.wire_base.specs.Maps.{lookup, same_number, take_out}
use Rattle.wire_base.specs.Names.{IsName, IsNameByte}
use Rattle.wire_base.specs.Units.{AreUnits}
use Rattle.authenticators.proofs.BlockLaws.{cred_block}
use Rattle.authenticators.specs.SecureChannels.{key_of_channel}
use Rattle.authenticators.specs.Sequences.{next_seed, return_of}
use Rattle.outside.specs.Machine.{Part, Stepped, step_by, then_part}
use Rattle.outside.specs.declared.action.Action.{Action}
use Rattle.outside.specs.declared.action.StepRefused.{StepRefused}
use Rattle.outside.specs.declared.event.Event.{Event}
use Rattle.outside.specs.declared.event.Event.TheVariants as event
use Rattle.rpc_units.specs.declared.refused.UnitRefused.{UnitRefused}
use Rattle.rpc_units.specs.Stream.{cut_stream}
use Rattle.ndr_codec.specs.Parts.{IfThere}
use Rattle.logon_stubs.specs.Ranges.{InRangeNetworkInfo}
use Rattle.logon_stubs.specs.Status.{no_logon_servers}
use Rattle.logon_stubs.specs.declared.calls.LogonCall.{LogonCall}
use Rattle.logon_stubs.specs.declared.info.NetworkInfo.{NetworkInfo}
use Rattle.logon_stubs.specs.declared.info.Verdict.TheVariants.{Granted, Status}
use Rattle.account_table.specs.AccountTable.{AccountTable}
use Rattle.account_table.specs.declared.account.Trust.{Trust}
use Rattle.end_links.specs.Links.{LinkState}
use Rattle.end_links.specs.Serving.{ServedPart, Service, served_by, served_cut, then_open, then_talk}
use Rattle.end_links.specs.Whole.{IsWholeSend}
use Rattle.end_loop.specs.Runs.{actions_of}
use Rattle.channel_client.proofs.WholeLaws.{requesters_send_whole}
use Rattle.channel_client.specs.Machine.{ask_of, can_start, fresh_requester, needs_challenge}
use Rattle.channel_client.specs.State.{Requester}
use Rattle.channel_client.specs.Whole.{InRangeCaller, InRangeRequester}
use Rattle.channel_turns.specs.Dials.{NextTurn, next_by, next_turn as channel_turn}
use Rattle.channel_turns.specs.Turning.{dial_for, dial_part, is_on, is_waiting, link_answers, link_closes, link_hears, no_dial}
use Rattle.channel_turns.specs.declared.state.Turning.{Turning}
use Rattle.controller_calls.specs.Calls.{IfNetwork, asked_of}
use Rattle.controller_calls.specs.Desk.{Desk, IsLine}
use Rattle.controller_calls.specs.declared.calls.Asked.TheVariants as asked
use Rattle.controller_calls.specs.declared.calls.ControllerCall.{ControllerCall}
use Rattle.controller_calls.specs.declared.calls.ControllerCall.TheVariants as call
use Rattle.controller_calls.specs.declared.calls.JudgedCall.{JudgedCall}
use Rattle.controller_calls.specs.declared.calls.JudgedCall.TheVariants.{Interactive, Logoff, Network, NetworkLogoff, Set}
use Rattle.controller_calls.specs.declared.line.Line.{Line}
use Rattle.controller_calls.proofs.OutcomeLaws.{judged_comes}
use Rattle.domain_controller.specs.Forwarding.{TrustDesk, answer_trust_call, base_desk, beside, by_trust_heard, trust_desk, trust_server}
use Rattle.domain_controller.specs.Hearing.{hear}
use Rattle.domain_controller.specs.Laws.{call_in, calls_heard, calls_if, calls_on, calls_then, talk_after, trust_calls_of}
use Rattle.domain_controller.specs.Machine.{by_heard}
use Rattle.domain_controller.specs.State.{State}
use Rattle.domain_controller.specs.Step.{LinkMap}
use Rattle.domain_controller.specs.TrustStep.{TrustPart, TrustParts, after_turned, after_units, answer_dial, by_trust_event, close_by, close_number, event_and_turn, fail_dial, first_waiting, is_idle, link_with, next_if, next_part, next_turn, open_by, parts_of, put_open, serve_bytes, serve_on, start_at, start_on, trust_halted, trust_part, trust_state_after, trust_step_of, trust_step_on, turn_at, turning_of, without_link}
use Rattle.domain_controller.specs.TrustWhole.{AreForwardedInRange, InRangeQueues, InRangeTrustState, IsInRangeCall, IsWholeBind, IsWholeOrGrant, TrustsSendWhole}
use Rattle.domain_controller.specs.Trusting.{account_there, trust_caller}
use Rattle.domain_controller.specs.Whole.{AreChallenges, InRangeDesk, InRangeLinks, InRangeRunning, InRangeState, InRangeTable, InRangeTalk}
use Rattle.domain_controller.specs.declared.hearing.Heard.{Heard}
use Rattle.domain_controller.specs.declared.hearing.Heard.TheVariants as heard
use Rattle.domain_controller.specs.declared.state.Running.{Running}
use Rattle.domain_controller.specs.declared.state.Talk.{Talk}
use Rattle.domain_controller.specs.declared.trusting.Parts.{Parts}
use Rattle.domain_controller.proofs.FitLaws.{logon_fits}
use Rattle.domain_controller.proofs.HandOnLaws.{CallGoes, GoesOn, IsLeft, StaysHere, call_goes}
use Rattle.domain_controller.proofs.TrustPlaceLaws.{got_all, set_all}
use Rattle.domain_controller.proofs.TrustRangeLaws.{AreWholeOrGrants, InRangeParts, KeepsRange, NextInRange, all_more, all_too, answers_range, calls_left, calls_pushed, closes_range, dials_range, fails_range, hears_range, next_in_range, turn_range, turned_range}
use Rattle.domain_controller.proofs.WalkLaws.{UnitLeads, behind_all, fresh_link, found_said, front_all, put_said, taken_said, unit_leads}
use Rattle.domain_controller.proofs.WholeLaws.{AreWhole, HeardFits, InRange, both_whole, heard_fits, judged_in_range, range_walks, says, stub_whole}
use Rattle.domain_controller.proofs.WholeParts.{passed_few, served_level}

-- ---- a call

abbrev AreInRange : List ControllerCall → Type 0
AreInRange calls = AllByRecursion IsInRangeCall calls

info_range : (c : JudgedCall) (info : NetworkInfo) (validation : ℕ) → IfNetwork (λ (c : LogonCall). InRangeNetworkInfo c.info) c → asked_of c ≡ asked.Network info validation → InRangeNetworkInfo info
info_range (Network c) info validation is asks = let same : c.info ≡ info = (let x = asks in cc) in subst InRangeNetworkInfo same is
info_range (Interactive c) info validation is asks = absurd (let x = asks in cc)
info_range (Logoff c) info validation is asks = absurd (let x = asks in cc)
info_range (NetworkLogoff c) info validation is asks = absurd (let x = asks in cc)
info_range (Set c) info validation is asks = absurd (let x = asks in cc)

call_queues : (c : JudgedCall) (name : List ℕ) (now : ℕ) (line : Line) (d after : TrustDesk) → CallGoes c name now line d after → IsLine line →
    IfNetwork (λ (c : LogonCall). InRangeNetworkInfo c.info) c → InRangeQueues d.work.queues → InRangeQueues after.work.queues
call_queues c name now line d after (IsLeft goes so) is range queues = subst InRangeQueues (sym so.queues) queues
call_queues c name now line d after (StaysHere not same) is range queues = subst InRangeQueues (sym (ap (λ (other : TrustDesk). other.work.queues) same)) queues
call_queues c name now line d after (GoesOn there so) is range queues =
    let goes = there.goes in
    record {
      requesters = subst (λ (requesters : List Requester). AllByRecursion InRangeRequester requesters) (sym so.requesters)
          (set_all InRangeRequester d.work.queues.requesters goes.trust (ask_of goes.requester goes.info).state queues.requesters
          (requesters_send_whole.ask goes.requester goes.info (got_all InRangeRequester d.work.queues.requesters goes.trust goes.requester queues.requesters goes.at)
          (logon_fits goes.info there.fits (info_range c goes.info goes.validation range goes.asks))));
      forwarded = subst AreForwardedInRange (sym so.forwarded)
          (calls_pushed d.work.queues.forwarded (goes.trust, goes.requester.next_place) _ queues.forwarded (record {
            call = record { line = is; level = served_level goes.validation goes.level };
            credential = cred_block (key_of_channel goes.next.channel) (next_seed goes.next.channel.seed goes.next.given.timestamp);
          }));
    }

-- what is known of all calls is known of the first ones, and of the others
front : (one two : List ControllerCall) → AreInRange (one ++ two) → AreInRange one
front one two all = front_all IsInRangeCall one two all

back : (one two : List ControllerCall) → AreInRange (one ++ two) → AreInRange two
back one two all = behind_all IsInRangeCall one two all

module _ (name : List ℕ) (now : ℕ) (is_name : IsName name) (moment : now < 2 ^ 64) where
  call_desk : (c : JudgedCall) (line : Line) (d after : TrustDesk) → CallGoes c name now line d after → IsLine line → InRangeDesk (base_desk d) → InRangeDesk (base_desk after)
  call_desk c line d after (GoesOn there so) is fits = record {
    sends = subst (λ (actions : List Action). AreWhole actions) (sym so.actions) (both_whole d.work.work.actions _ fits.sends (tt, tt));
    table = subst InRangeTable (sym so.table) fits.table;
  }
  call_desk c line d after (IsLeft goes so) is fits =
      let key : List ℕ = key_of_channel goes.next.channel in
      record {
        sends = subst (λ (actions : List Action). AreWhole actions) (sym so.actions)
            (both_whole d.work.work.actions _ fits.sends (
              tt,
              (
                stub_whole line _ is
                    (passed_few (Status no_logon_servers) goes.validation key (return_of key goes.next.channel.seed goes.next.given.timestamp)
                    (cred_block key (next_seed goes.next.channel.seed goes.next.given.timestamp)) tt tt),
                tt,
              ),
            ));
        table = subst InRangeTable (sym so.table) fits.table;
      }
  call_desk c line d after (StaysHere not same) is fits =
      subst (λ (other : TrustDesk). InRangeDesk (base_desk other)) (sym same)
      (judged_in_range name now is_name moment line c (base_desk d) _ is fits (judged_comes c name now line (base_desk d)))

  -- ---- the units of a stream

  -- between the calls, the desk before and the one behind
  record Leads (calls : List ControllerCall) (before : TrustDesk) (left : List (List ℕ)) (after : TrustDesk) (rest : List (List ℕ)) : Type 0 where
    desk : InRangeDesk (base_desk before) × AreChallenges left → InRangeDesk (base_desk after) × AreChallenges rest
    queues : AreInRange calls → InRangeQueues before.work.queues → InRangeQueues after.work.queues

  abbrev HeardLeads : TrustDesk → List (List ℕ) → Heard → ServedPart TrustDesk Talk → Type 0
  HeardLeads d left h (Err why) = Unit {0}
  HeardLeads d left h (Ok part) = Leads (call_in h) d left part.value.0 part.left × (part.value.1 ≡ talk_after h)

  beside_leads : (link : ℕ) (d : TrustDesk) (left : List (List ℕ)) (h : Heard) (part : ServedPart Desk Talk) → HeardFits link h →
      UnitLeads HeardFits (InRange name now is_name moment) link (base_desk d) left h part → HeardLeads d left h (beside d.work.queues part)
  beside_leads link d left h (Err why) fits leads = tt
  beside_leads link d left h (Ok part) fits leads = let one = leads fits in (record { desk = one.0; queues = λ calls queues. queues }, one.1)

  base_leads : (link : ℕ) (d : TrustDesk) (left : List (List ℕ)) (h : Heard) → HeardFits link h → HeardLeads d left h (beside d.work.queues (by_heard h link name now (base_desk d) left))
  base_leads link d left h fits =
      beside_leads link d left h (by_heard h link name now (base_desk d) left) fits
      (unit_leads name now InRangeTalk HeardFits (InRange name now is_name moment) (range_walks name now is_name moment) link (base_desk d) left h)

  heard_leads : (h : Heard) (link : ℕ) (d : TrustDesk) (left : List (List ℕ)) → HeardFits link h → HeardLeads d left h (by_trust_heard h link name now d left)
  heard_leads (heard.Close cause) link d left fits = base_leads link d left (heard.Close cause) fits
  heard_leads (heard.Answer bytes talk) link d left fits = base_leads link d left (heard.Answer bytes talk) fits
  heard_leads (heard.Waits talk) link d left fits = base_leads link d left (heard.Waits talk) fits
  heard_leads (heard.Asked line (call.Challenge c) talk) link d left fits = base_leads link d left (heard.Asked line (call.Challenge c) talk) fits
  heard_leads (heard.Asked line (call.Authenticate c) talk) link d left fits = base_leads link d left (heard.Asked line (call.Authenticate c) talk) fits
  heard_leads (heard.Asked line (call.Judged c) talk) link d left fits =
      let goes = call_goes c name now line d in (
        record {
          desk = λ both. (call_desk c line d (answer_trust_call c name now line d) goes fits.0 both.0, both.1);
          queues = λ calls queues. call_queues c name now line d (answer_trust_call c name now line d) goes fits.0 calls.0 queues;
        },
        refl,
      )

  abbrev PartLeads : List ControllerCall → TrustDesk → List (List ℕ) → ServedPart TrustDesk Talk → Type 0
  PartLeads calls d left (Err why) = Unit {0}
  PartLeads calls d left (Ok part) = Leads calls d left part.value.0 part.left × IfThere InRangeTalk part.value.1

  joined : (one two : List ControllerCall) (a b c : TrustDesk) (left rest less : List (List ℕ)) → Leads one a left b rest → Leads two b rest c less → Leads (one ++ two) a left c less
  joined one two a b c left rest less first second = record {
    desk = λ both. second.desk (first.desk both);
    queues = λ calls queues. second.queues (back one two calls) (first.queues (front one two calls) queues);
  }

  abbrev LaterLeads : (Talk → List ControllerCall) → Service TrustDesk Talk → Type 0
  LaterLeads later_calls later = (d : TrustDesk) (talk : Talk) (left : List (List ℕ)) → InRangeTalk talk → PartLeads (later_calls talk) d left (later d talk left)

  from_part : (one two : List ControllerCall) (a b : TrustDesk) (left rest : List (List ℕ)) (part : ServedPart TrustDesk Talk) → Leads one a left b rest → PartLeads two b rest part →
      PartLeads (one ++ two) a left part
  from_part one two a b left rest (Err why) first later = tt
  from_part one two a b left rest (Ok part) first later = (joined one two a b part.value.0 left rest part.left first later.0, later.1)

  then_leads : (said : Option Talk) (calls : List ControllerCall) (a b : TrustDesk) (left rest : List (List ℕ)) (later_calls : Talk → List ControllerCall) (later : Service TrustDesk Talk) →
      Leads calls a left b rest → IfThere InRangeTalk said → LaterLeads later_calls later → PartLeads (calls ++ calls_then said later_calls) a left (then_talk b said rest later)
  then_leads None calls a b left rest later_calls later first is each =
      (joined calls [] a b b left rest rest first (record { desk = λ both. both; queues = λ none queues. queues }), tt)
  then_leads (Some talk) calls a b left rest later_calls later first is each = from_part calls (later_calls talk) a b left rest (later b talk rest) first (each b talk rest is)

  after_unit : (part : ServedPart TrustDesk Talk) (h : Heard) (link : ℕ) (d : TrustDesk) (left : List (List ℕ)) (later_calls : Talk → List ControllerCall) (later : Service TrustDesk Talk) →
      HeardLeads d left h part → HeardFits link h → LaterLeads later_calls later → PartLeads (call_in h ++ calls_then (talk_after h) later_calls) d left (then_open part later)
  after_unit (Err why) h link d left later_calls later leads fits each = tt
  after_unit (Ok part) h link d left later_calls later leads fits each =
      subst (λ (said : Option Talk). PartLeads (call_in h ++ calls_then (talk_after h) later_calls) d left (then_talk part.value.0 said part.left later)) (sym leads.1)
      (then_leads (talk_after h) (call_in h) d part.value.0 left part.left later_calls later leads.0 (says h link fits) each)

  units_lead : (units : List (List ℕ)) (why : Option UnitRefused) (link : ℕ) (d : TrustDesk) (talk : Talk) (left : List (List ℕ)) → InRangeTalk talk →
      PartLeads (calls_heard link units talk) d left (served_by (trust_server name now link) units why d talk left)
  units_lead [] None link d talk left said = (record { desk = λ both. both; queues = λ none queues. queues }, said)
  units_lead [] (Some why) link d talk left said = (
    record {
      desk = λ both. (record { sends = both_whole d.work.work.actions _ both.0.sends (tt, tt); table = both.0.table }, both.1);
      queues = λ none queues. queues;
    },
    tt,
  )
  units_lead (bytes ∷ units) why link d talk left said =
      let fits : HeardFits link (hear link bytes talk) = heard_fits link bytes talk said in
      after_unit (by_trust_heard (hear link bytes talk) link name now d left) (hear link bytes talk) link d left (λ later. calls_heard link units later)
      (λ later more rest. served_by (trust_server name now link) units why later more rest) (heard_leads (hear link bytes talk) link d left fits) fits
      (λ later more rest is. units_lead units why link later more rest is)

-- ---- an event

record After (calls : List ControllerCall) (accounts : AccountTable) (parts : Parts) (left : List (List ℕ)) : Type 0 where
  table : InRangeTable accounts
  sends : AreWholeOrGrants parts.work.work.actions
  links : InRangeLinks parts.links
  eight : AreChallenges left
  kept : AreInRange calls → InRangeQueues parts.work.queues × IsWholeBind parts.dialling

abbrev EventAfter : List ControllerCall → TrustPart → Type 0
EventAfter calls (Err why) = Unit {0}
EventAfter calls (Ok part) = After calls part.value.table part.value.parts part.left

-- a controller at work before an event
record Before (accounts : AccountTable) (parts : Parts) (left : List (List ℕ)) : Type 0 where
  table : InRangeTable accounts
  bare : parts.work.work.actions ≡ []
  links : InRangeLinks parts.links
  eight : AreChallenges left
  queues : InRangeQueues parts.work.queues
  bind : IsWholeBind parts.dialling

in_range : (table : AccountTable) (parts : Parts) (left : List (List ℕ)) → Before table parts left → InRangeParts parts
in_range table parts left before = record { sends = subst AreWholeOrGrants (sym before.bare) tt; queues = before.queues; bind = before.bind }

-- behind an event of which no call is heard
all_after : (table : AccountTable) (parts : Parts) (left : List (List ℕ)) (calls : List ControllerCall) → InRangeTable table → InRangeLinks parts.links → AreChallenges left → InRangeParts parts →
    After calls table parts left
all_after table parts left calls range links eight is =
    record { table = range; sends = is.sends; links = links; eight = eight; kept = λ any. (is.queues, is.bind) }

less_range : (number : ℕ) (parts : Parts) → InRangeParts parts → InRangeParts (without_link number parts)
less_range number parts range = record {
  sends = range.sends;
  queues = record { requesters = range.queues.requesters; forwarded = calls_left number parts.work.queues.forwarded range.queues.forwarded };
  bind = range.bind;
}

turn_links : (found : Option Requester) (happens : _) (parts : Parts) → (turn_at found happens parts).links ≡ parts.links
turn_links None happens parts = refl
turn_links (Some channel) happens parts = refl

record Fine (parts : Parts) : Type 0 where
  range : InRangeParts parts
  links : InRangeLinks parts.links

on_fine : (found : Option Requester) (happens : _) (parts : Parts) → slice_get parts.work.queues.requesters parts.turn_of ≡ found → KeepsRange happens → Fine parts → Fine (turn_at found happens parts)
on_fine found happens parts is keeps fine = record {
  range = turn_range found happens parts is keeps fine.range;
  links = subst InRangeLinks (sym (turn_links found happens parts)) fine.links;
}

closed_fine : (b : Bool) (number : ℕ) (parts : Parts) → Fine parts → Fine (close_by b number parts)
closed_fine false number parts fine = record { range = less_range number parts fine.range; links = taken_said InRangeTalk number parts.links fine.links }
closed_fine true number parts fine =
    on_fine (slice_get parts.work.queues.requesters parts.turn_of) (λ turning. link_closes number turning) parts refl (λ turning range. closes_range (is_on number turning.dialling) turning range) fine

opened_fine : (full : Bool) (number : ℕ) (parts : Parts) → Fine parts → Fine (open_by full number parts)
opened_fine true number parts fine = record {
  range = record { sends = all_more IsWholeOrGrant parts.work.work.actions _ fine.range.sends (tt, tt); queues = fine.range.queues; bind = fine.range.bind };
  links = fine.links;
}
opened_fine false number parts fine = record {
  range = record { sends = fine.range.sends; queues = fine.range.queues; bind = fine.range.bind };
  links = put_said InRangeTalk number fresh_link parts.links tt fine.links;
}

dial_fine : (waits : Bool) (number : ℕ) (parts : Parts) → Fine parts → Fine (answer_dial waits number parts)
dial_fine false number parts fine = fine
dial_fine true number parts fine =
    let less : Parts = without_link number parts in
    on_fine (slice_get less.work.queues.requesters less.turn_of) (λ turning. (link_answers number turning, None)) less refl
    (λ turning range. answers_range turning.dialling number turning refl range) (record { range = less_range number parts fine.range; links = taken_said InRangeTalk number parts.links fine.links })

failed_fine : (waits : Bool) (parts : Parts) → Fine parts → Fine (fail_dial waits parts)
failed_fine false parts fine = fine
failed_fine true parts fine =
    on_fine (slice_get parts.work.queues.requesters parts.turn_of) (λ turning. no_dial turning) parts refl (λ turning range. fails_range turning.dialling turning range) fine

fine_after : (table : AccountTable) (before after : Parts) (left : List (List ℕ)) (calls : List ControllerCall) → Before table before left → Fine after → After calls table after left
fine_after table before after left calls is fine = all_after table after left calls is.table fine.links is.eight fine.range

module _ (name : List ℕ) (now : ℕ) (is_name : IsName name) (moment : now < 2 ^ 64) where
  put_after : (open_talk : Option Talk) (rest : List ℕ) (number : ℕ) (calls : List ControllerCall) (table : AccountTable) (parts : Parts) (left : List (List ℕ)) → IfThere InRangeTalk open_talk →
      After calls table parts left → After calls table (put_open (link_with rest open_talk) number parts) left
  put_after None rest number calls table parts left said after = record {
    table = after.table;
    sends = after.sends;
    links = after.links;
    eight = after.eight;
    kept = λ range.
        let kept = after.kept range in
        (record { requesters = kept.0.requesters; forwarded = calls_left number parts.work.queues.forwarded kept.0.forwarded }, kept.1);
  }
  put_after (Some talk) rest number calls table parts left said after = record {
    table = after.table;
    sends = after.sends;
    links = put_said InRangeTalk number (record { rest = rest; talk = talk }) parts.links said after.links;
    eight = after.eight;
    kept = after.kept;
  }

  units_after : (part : ServedPart TrustDesk Talk) (calls : List ControllerCall) (table : AccountTable) (rest : List ℕ) (number : ℕ) (others : LinkMap) (parts : Parts) (left : List (List ℕ)) →
      Before table parts left → InRangeLinks others → PartLeads name now is_name moment calls (trust_desk table parts.work) left part → EventAfter calls (after_units part rest number others parts)
  units_after (Err why) calls table rest number others parts left before links leads = tt
  units_after (Ok part) calls table rest number others parts left before links leads =
      let d : TrustDesk = part.value.0 in
      let desk = leads.0.desk (record { sends = subst (λ (actions : List Action). AreWhole actions) (sym before.bare) tt; table = before.table }, before.eight) in
      put_after part.value.1 rest number calls d.table (record parts { work = d.work; links = others }) part.left leads.1 (record {
        table = desk.0.table;
        sends = all_too d.work.work.actions desk.0.sends;
        links = links;
        eight = desk.1;
        kept = λ range. (leads.0.queues range before.queues, before.bind);
      })

  there : (found : Option (LinkState Talk)) (link : LinkState Talk) → found ≡ Some link → IfThere (λ (one : LinkState Talk). InRangeTalk one.talk) found → InRangeTalk link.talk
  there found link is said = subst (λ (one : Option (LinkState Talk)). IfThere (λ (it : LinkState Talk). InRangeTalk it.talk) one) is said

  serve_after : (found : Option (LinkState Talk)) (number : ℕ) (piece : List ℕ) (table : AccountTable) (parts : Parts) (left : List (List ℕ)) → lookup same_number number parts.links ≡ found →
      Before table parts left → EventAfter (calls_on found number piece) (serve_on found number piece name now (take_out same_number number parts.links) table parts left)
  serve_after None number piece table parts left is before =
      all_after table (record parts { links = take_out same_number number parts.links }) left [] before.table (taken_said InRangeTalk number parts.links before.links) before.eight
      (let range = in_range table parts left before in record { sends = range.sends; queues = range.queues; bind = range.bind })
  serve_after (Some link) number piece table parts left is before =
      let cut = cut_stream (link.rest ++ piece) in
      let d : TrustDesk = trust_desk table parts.work in
      let said : InRangeTalk link.talk = there (lookup same_number number parts.links) link is (found_said InRangeTalk number parts.links before.links) in
      units_after (served_cut (trust_server name now number) cut d link.talk left) (calls_heard number cut.units link.talk) table cut.rest number (take_out same_number number parts.links) parts left
      before (taken_said InRangeTalk number parts.links before.links) (units_lead name now is_name moment cut.units cut.refused number d link.talk left said)

  bytes_after : (b : Bool) (number : ℕ) (piece : List ℕ) (table : AccountTable) (parts : Parts) (left : List (List ℕ)) → Before table parts left →
      EventAfter (calls_if b (calls_on (lookup same_number number parts.links) number piece)) (serve_bytes b number piece name now table parts left)
  bytes_after false number piece table parts left before = serve_after (lookup same_number number parts.links) number piece table parts left refl before
  bytes_after true number piece table parts left before =
      fine_after table parts (turn_at (slice_get parts.work.queues.requesters parts.turn_of) (λ turning. link_hears number piece turning) parts) left [] before
      (on_fine (slice_get parts.work.queues.requesters parts.turn_of) (λ turning. link_hears number piece turning) parts refl
      (λ turning range. hears_range turning.dialling number piece turning range) (record { range = in_range table parts left before; links = before.links }))

  event_after : (what : Event) (table : AccountTable) (parts : Parts) (left : List (List ℕ)) → Before table parts left →
      EventAfter (trust_calls_of what parts.links parts.dialling) (by_trust_event what name now table parts left)
  event_after (event.Bytes number piece) table parts left before = bytes_after (is_on number parts.dialling) number piece table parts left before
  event_after (event.Opened number) table parts left before =
      let fine : Fine parts = record { range = in_range table parts left before; links = before.links } in
      fine_after table parts _ left [] before (opened_fine (nat_le 256 (length (close_number number parts).links)) number (close_number number parts) (closed_fine (is_on number parts.dialling) number parts fine))
  event_after (event.Closed number) table parts left before =
      fine_after table parts _ left [] before (closed_fine (is_on number parts.dialling) number parts (record { range = in_range table parts left before; links = before.links }))
  event_after (event.Dialled number) table parts left before =
      fine_after table parts _ left [] before (dial_fine (is_waiting parts.dialling) number parts (record { range = in_range table parts left before; links = before.links }))
  event_after event.DialFailed table parts left before =
      fine_after table parts _ left [] before (failed_fine (is_waiting parts.dialling) parts (record { range = in_range table parts left before; links = before.links }))
  event_after event.Stop table parts left before = fine_after table parts parts left [] before (record { range = in_range table parts left before; links = before.links })

-- ---- the next turn

abbrev NextAfter : List ControllerCall → AccountTable → Result (Part Parts) StepRefused → Type 0
NextAfter calls table (Err why) = Unit {0}
NextAfter calls table (Ok part) = After calls table part.value part.left

-- the challenges that are left
abbrev LeavesEight : Result (Part NextTurn) StepRefused → Type 0
LeavesEight (Err why) = Unit {0}
LeavesEight (Ok part) = AreChallenges part.left

leaves_by : (can needs : Bool) (now : ℕ) (channel : Requester) (left : List (List ℕ)) → AreChallenges left → LeavesEight (next_by can needs now channel left)
leaves_by false needs now channel left eight = eight
leaves_by true false now channel left eight = eight
leaves_by true true now channel [] eight = tt
leaves_by true true now channel (challenge ∷ left) eight = eight.1

dial_sends : (start : Option (Unit {0} × List (List ℕ))) (peer : List ℕ) (turning : Turning) → AreWholeOrGrants turning.actions → AreWholeOrGrants (dial_for start peer turning).actions
dial_sends None peer turning all = all
dial_sends (Some start) peer turning all = all_more IsWholeOrGrant turning.actions _ all (tt, tt)

begun_after : (next : Result (Part NextTurn) StepRefused) (peer : List ℕ) (channel : Requester) (trust : ℕ) (calls : List ControllerCall) (table : AccountTable) (parts : Parts) (left : List (List ℕ)) →
    LeavesEight next → (InRangeRequester channel → NextInRange next) → slice_get parts.work.queues.requesters trust ≡ Some channel → After calls table parts left →
    NextAfter calls table (then_part (then_part next (dial_part peer (turning_of channel parts))) (λ turning rest. next_part (after_turned trust (turning, None) parts) rest))
begun_after (Err why) peer channel trust calls table parts left eight next there after = tt
begun_after (Ok part) peer channel trust calls table parts left eight next there after =
    let before : Turning = record (turning_of channel parts) { channel = part.value.0 } in
    record {
      table = after.table;
      sends = dial_sends part.value.1 peer before after.sends;
      links = after.links;
      eight = eight;
      kept = λ range.
          let kept = after.kept range in
          let is = next (got_all InRangeRequester parts.work.queues.requesters trust channel kept.0.requesters there) in
          let done : InRangeParts (after_turned trust (dial_for part.value.1 peer before, None) parts) =
          turned_range trust (dial_for part.value.1 peer before, None) parts (dials_range part.value.1 peer before is.start (is.channel, kept.1))
          (record { sends = after.sends; queues = kept.0; bind = kept.1 }) in
          (done.queues, done.bind);
    }

start_after : (found : Option Requester) (entry : Option Trust) (trust now : ℕ) (calls : List ControllerCall) (table : AccountTable) (parts : Parts) (left : List (List ℕ)) →
    slice_get parts.work.queues.requesters trust ≡ found → After calls table parts left → NextAfter calls table (start_on found entry trust now parts left)
start_after None entry trust now calls table parts left is after = after
start_after (Some channel) None trust now calls table parts left is after = after
start_after (Some channel) (Some entry) trust now calls table parts left is after =
    begun_after (channel_turn now channel left) entry.address channel trust calls table parts left
    (leaves_by (can_start channel.turn channel.waiting) (needs_challenge channel.standing) now channel left after.eight) (λ range. next_in_range now channel left range after.eight) is after

at_after : (first : Option ℕ) (trusts : List Trust) (now : ℕ) (calls : List ControllerCall) (table : AccountTable) (parts : Parts) (left : List (List ℕ)) → After calls table parts left →
    NextAfter calls table (start_at first trusts now parts left)
at_after None trusts now calls table parts left after = after
at_after (Some trust) trusts now calls table parts left after =
    start_after (slice_get parts.work.queues.requesters trust) (slice_get trusts trust) trust now calls table parts left refl after

next_after : (idle : Bool) (trusts : List Trust) (now : ℕ) (calls : List ControllerCall) (table : AccountTable) (parts : Parts) (left : List (List ℕ)) → After calls table parts left →
    NextAfter calls table (next_if idle trusts now parts left)
next_after false trusts now calls table parts left after = after
next_after true trusts now calls table parts left after = at_after (first_waiting parts.work.queues.requesters) trusts now calls table parts left after

-- ---- a step

with_table : (part : Result (Part Parts) StepRefused) (calls : List ControllerCall) (table : AccountTable) → NextAfter calls table part → EventAfter calls (then_part part (λ later last. trust_part table later last))
with_table (Err why) calls table after = tt
with_table (Ok part) calls table after = after

turn_behind : (part : TrustPart) (calls : List ControllerCall) (trusts : List Trust) (now : ℕ) → EventAfter calls part →
    EventAfter calls (then_part part (λ after rest. then_part (next_turn trusts now after.parts rest) (λ later last. trust_part after.table later last)))
turn_behind (Err why) calls trusts now after = tt
turn_behind (Ok part) calls trusts now after =
    with_table (next_turn trusts now part.value.parts part.left) calls part.value.table
    (next_after (is_idle part.value.parts.dialling) trusts now calls part.value.table part.value.parts part.left after)

record StepAfter (calls : List ControllerCall) (stepped : Stepped State) : Type 0 where
  sends : AreWholeOrGrants (actions_of stepped)
  kept : AreInRange calls → InRangeTrustState stepped.state

halted_range : (s : State) → InRangeState s → InRangeTrustState (trust_halted s)
halted_range s is = record {
  base = record { name = is.name; table = is.table; running = tt };
  trusting = record { queues = record { requesters = tt; forwarded = tt }; bind = tt };
}

taken_after : (part : TrustPart) (calls : List ControllerCall) (s : State) (left : List (List ℕ)) → InRangeState s → EventAfter calls part →
    StepAfter calls (step_by (λ (after : TrustParts). after.parts.work.work.actions) (λ after. trust_state_after s after) (trust_halted s) left part)
taken_after (Err why) calls s left is after = record { sends = tt; kept = λ range. halted_range s is }
taken_after (Ok part) calls s left is after = record {
  sends = after.sends;
  kept = λ range.
      let kept = after.kept range in
      record { base = record { name = is.name; table = after.table; running = after.links }; trusting = record { queues = kept.0; bind = kept.1 } };
}

-- the calls of an event at a controller, where it runs
abbrev calls_at : Option Running → State → Event → List ControllerCall
calls_at None s what = []
calls_at (Some running) s what = trust_calls_of what running.links s.trusting.dialling

step_after : (running : Option Running) (s : State) (what : Event) (now : ℕ) (left : List (List ℕ)) → s.running ≡ running → InRangeTrustState s → now < 2 ^ 64 → AreChallenges left →
    StepAfter (calls_at running s what) (trust_step_on running s what now left)
step_after None s what now left is range moment eight = record { sends = tt; kept = λ none. range }
step_after (Some running) s what now left is range moment eight =
    let parts : Parts = parts_of running s.trusting in
    let calls : List ControllerCall = trust_calls_of what running.links s.trusting.dialling in
    taken_after (event_and_turn s.table.trusts what s.name now s.table parts left) calls s left range.base
    (turn_behind (by_trust_event what s.name now s.table parts left) calls s.table.trusts now
    (event_after s.name now range.base.name moment what s.table parts left (record {
      table = range.base.table;
      bare = refl;
      links = subst InRangeRunning is range.base.running;
      eight = eight;
      queues = range.trusting.queues;
      bind = range.trusting.bind;
    })))

-- ---- at first

name_units : (text : List ℕ) → All IsNameByte text → AreUnits text
name_units text all place =
    elim (cases_lt place (length text)) [
      | inl within ↦ omega (arith, (All-get_or IsNameByte text place 0 within all).1)
      | inr past ↦ rw (get_or_past text place 0 past) (omega arith)
    ]

caller_range : (table : AccountTable) (name : List ℕ) (trust : Trust) → InRangeTable table → IsName name → InRangeCaller (trust_caller table name trust)
caller_range table name trust range is = record {
  computer = is.0;
  computer_units = name_units name is.1;
  account = omega (arith, range.domain.0, length-append table.domain (0x24 ∷ []));
  account_units = name_units (account_there table.domain) (All-append IsNameByte table.domain (0x24 ∷ []) range.domain.1
      (All-from_recursion IsNameByte (0x24 ∷ []) ((omega arith, omega arith), tt)));
  kind = omega arith;
}

fresh_range : (table : AccountTable) (name : List ℕ) (trusts : List Trust) → InRangeTable table → IsName name →
    AllByRecursion InRangeRequester (map (λ (trust : Trust). fresh_requester (trust_caller table name trust)) trusts)
fresh_range table name [] range is = tt
fresh_range table name (trust ∷ trusts) range is =
    (requesters_send_whole.fresh (trust_caller table name trust) (caller_range table name trust range is), fresh_range table name trusts range is)

pub trusts_send_whole : TrustsSendWhole
trusts_send_whole = record {
  sends = λ s what now left range moment eight. (step_after s.running s what now left refl range moment eight).sends;
  keeps = λ s running what now left is range moment eight calls.
      let after : StepAfter (calls_at (Some running) s what) (trust_step_of s what now left) =
      subst (λ (r : Option Running). StepAfter (calls_at r s what) (trust_step_of s what now left)) is (step_after s.running s what now left refl range moment eight) in
      after.kept calls;
  first = λ table name range is. record {
    base = record { name = is; table = range; running = tt };
    trusting = record { queues = record { requesters = fresh_range table name table.trusts range is; forwarded = tt }; bind = tt };
  };
  short = λ bytes reply can texts range.
      subst (λ (sent : List ℕ). IsWholeSend sent) (sym reply.is)
      (stub_whole reply.line _ reply.limits
      (passed_few (Granted reply.granted) reply.f.validation reply.f.key reply.f.credential reply.range.credential (record { can = can; short = texts; range = range }) reply.range.call.level));
}
