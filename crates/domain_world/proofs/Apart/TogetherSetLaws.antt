-- Where a member hears that its secret was set, its controller had set it: the reply answers the call that is out,
-- which passed, and which found the account of the member's computer. It serves `Proved.never_apart`.
use Rattle.std.proofs.Common.{◌≡◌, ℕ, ◌+◌, ◌<◌, ◌≤◌, ◌==◌, Bool, true, false, List, [], ◌∷◌, length, inl, inr, Option, Some, None, Result, Ok, Err, slice_get, refl, sym, ap, subst, ◌∙◌, arith}
use Rattle.std.specs.Prelude.{◌&&◌}
use Rattle.std.proofs.lemmas.Bool.Decides.{Decides-eqb}
use Rattle.std.proofs.lemmas.List.{length-set}
use Rattle.wire_base.specs.Names.{SameName}
use Rattle.wire_base.specs.Lists.{OneOf}
use Rattle.wire_base.proofs.ListLaws.{no_some, some_is}
use Rattle.authenticators.specs.Channels.{ChannelIdentity}
use Rattle.authenticators.specs.SecureChannels.{SecureChannelState, channel_of, key_of_channel}
use Rattle.authenticators.specs.Sequences.{next_seed, return_of}
use Rattle.authenticators.proofs.BlockLaws.{cred_block}
use Rattle.outside.specs.Machine.{Part}
use Rattle.outside.specs.declared.event.Event.TheVariants as event
use Rattle.rpc_units.specs.Calls.{IsHeard}
use Rattle.rpc_units.specs.Joining.{stub_of}
use Rattle.rpc_units.specs.declared.unit.Body.{Body}
use Rattle.rpc_units.specs.declared.unit.Body.TheVariants.{Bind, BindAck, BindNak, Auth3, Request, Response, Fault}
use Rattle.rpc_units.specs.declared.unit.Unit.{Unit as RpcUnit}
use Rattle.logon_stubs.specs.Calls.{reply_of}
use Rattle.logon_stubs.specs.Ranges.{IsBlock}
use Rattle.logon_stubs.specs.Status.{no_trust_sam_account}
use Rattle.logon_stubs.specs.declared.calls.Reply.{Reply}
use Rattle.logon_stubs.specs.declared.refused.StubRefused.{StubRefused}
use Rattle.secret_change.specs.Calls.{set_reply, set_reply_of, written_set_reply}
use Rattle.secret_change.specs.Hiding.{show_of}
use Rattle.secret_change.specs.declared.calls.SetCall.{SetCall}
use Rattle.secret_change.specs.declared.calls.SetReply.{SetReply}
use Rattle.secret_change.specs.declared.refused.SetRefused.{SetRefused}
use Rattle.secret_change.proofs.SetLaws.{reply_stub as set_stub, stub_again}
use Rattle.interactive_logon.specs.declared.sessions.Session.{Session}
use Rattle.account_table.specs.AccountTable.{AccountTable}
use Rattle.account_table.specs.LookUps.{machine_in}
use Rattle.channel_client.specs.Effects.{asking_in, number_in, stands_in, step_in, view_of}
use Rattle.channel_client.specs.Machine.{SetOutcome, act, hear, hear_ack, hear_body, hear_by, hear_reply, hear_set_reply, hear_stub, is_accepting, judge_set, judge_set_status, opnum_asked, settle_set}
use Rattle.channel_client.specs.State.{Requester}
use Rattle.channel_client.specs.declared.hearing.Hearing.{Hearing}
use Rattle.channel_client.specs.declared.hearing.Hearing.TheVariants as hearing
use Rattle.channel_client.specs.declared.hearing.SetHearing.TheVariants as set_hearing
use Rattle.channel_client.specs.declared.state.Pending.{Pending}
use Rattle.channel_client.specs.declared.state.Question.{Question}
use Rattle.channel_client.specs.declared.state.SetStep.TheVariants as set_step
use Rattle.channel_client.specs.declared.state.Standing.{Standing}
use Rattle.channel_client.specs.declared.state.Standing.TheVariants as standing
use Rattle.channel_client.specs.declared.state.Step.{Step}
use Rattle.channel_client.specs.declared.state.Step.TheVariants as step
use Rattle.channel_events.specs.SecretOrder.{IsIn}
use Rattle.controller_calls.specs.Doing.{returned_with, set_so}
use Rattle.controller_calls.specs.declared.calls.JudgedCall.{JudgedCall}
use Rattle.controller_calls.specs.declared.calls.JudgedCall.TheVariants.{Interactive, Logoff, Network, NetworkLogoff, Set}
use Rattle.step_notes.specs.ControllerNotes.{has_passed}
use Rattle.step_notes.specs.Records.{Book, InUnit, Judging}
use Rattle.domain_world.proofs.Apart.TogetherAsksLaws.{set_by}
use Rattle.domain_world.proofs.Apart.TogetherBookLaws.{is_place, is_taken, sets_by, sets_on, taken_units}
use Rattle.domain_world.proofs.Apart.TogetherLastLaws.{first_in, later_in}
use Rattle.domain_world.proofs.Apart.TogetherMemberLaws.{SetFits}
use Rattle.domain_world.proofs.Apart.TogetherTakeLaws.{IsSetReply, SetHeard}
use Rattle.domain_world.proofs.Sequences.CallTakenLaws.{IsAnswer}
use Rattle.channel_events.specs.Marks.{Calling}
use Rattle.member_server.specs.Machine.{event_part}
use Rattle.member_server.specs.State.{State as MemberState}
use Rattle.member_server.specs.Trying.{HasNext, IsSetIn}
use Rattle.member_server.specs.Turns.{DialWork}
use Rattle.member_server.specs.declared.state.Running.{Running}
use Rattle.channel_client.specs.declared.caller.Caller.{Caller}
use Rattle.account_table.specs.AccountTable.{has_distinct_names}
use Rattle.account_table.specs.Changes.{DifferInStates}
use Rattle.secret_change.specs.Secrets.{next_of}
use Rattle.controller_calls.specs.Doing.{done_by, reply_stub}
use Rattle.step_notes.specs.JudgedInRange.{IsReadAsMade}
use Rattle.step_notes.specs.Judged.{passed_channel}
use Rattle.step_notes.specs.Marking.{clashes, mark_channel, sent_channel}
use Rattle.step_notes.specs.Records.{CallTaken, OfMember, Sent, computer_named, unit_in}
use Rattle.step_notes.proofs.Controllers.JudgedInRangeLaws.{replies_are_read}
use Rattle.world_moves.specs.declared.bag.BagUnit.{BagUnit}
use Rattle.world_moves.specs.declared.links.EndId.{EndId}
use Rattle.world_moves.specs.declared.links.EndId.TheVariants.{Member}
use Rattle.world_moves.specs.declared.links.Route.TheVariants.{ToController}
use Rattle.world_moves.specs.declared.moves.Move.{Move}
use Rattle.world_moves.specs.declared.plan.Plan.{Plan}
use Rattle.world_moves.specs.declared.state.State.{State}
use Rattle.world_moves.specs.Acting.{Given, AfterHearing, heard_by}
use Rattle.world_moves.specs.Alone.{IsPlainAlone}
use Rattle.world_moves.specs.Ends.{EndStep}
use Rattle.world_moves.specs.Forms.{IsSchedule, IsTable}
use Rattle.world_moves.specs.Links.{kind_of}
use Rattle.world_moves.proofs.LinkFrameLaws.{actions_stay}
use Rattle.world_moves.specs.Plain.{plain_member_step as member_step}
use Rattle.std.proofs.lemmas.List.Elements.{recursion_from_All}
use Rattle.wire_base.proofs.ListLaws.{got_append}
use Rattle.domain_world.specs.Accepting.Carried.{IsTakenInTurn}
use Rattle.domain_world.specs.Accepting.Runs.{NothingIsOpen}
use Rattle.domain_world.specs.Accepting.SeenSteps.{Differ}
use Rattle.domain_world.specs.Claims.{IsClear}
use Rattle.domain_world.specs.Claims.NeverApart.{BeginsAlike}
use Rattle.domain_world.specs.Past.{Delivery, Past, note_member, past, plain_form}
use Rattle.domain_world.proofs.Acceptance.AnsweredLaws.{IsMade, made_for, passed_of}
use Rattle.domain_world.proofs.Acceptance.Heard.JudgedRunLaws.{judged_stand}
use Rattle.domain_world.proofs.Acceptance.Heard.JudgedUnitLaws.{IsCarriedCall, IsJudgedWell}
use Rattle.domain_world.proofs.Acceptance.Heard.MarkSentLaws.{AreItsNames, HasItsNames}
use Rattle.domain_world.proofs.Acceptance.Heard.MarkWholeLaws.{MarksFit, marks_fit}
use Rattle.domain_world.proofs.Acceptance.LetInStepLaws.{IsDialledBy}
use Rattle.wire_base.proofs.ListPlaceLaws.{Placed, one_at, placed}
use Rattle.domain_world.proofs.Quiet.QuietRunLaws.{is_quiet, one_piece}
use Rattle.domain_world.proofs.Acceptance.Turns.TurnFactLaws.{marks_before, taken_stays, world_in}
use Rattle.domain_world.proofs.Acceptance.Turns.TurnMarkLaws.{marks_known}
use Rattle.domain_world.proofs.Apart.AskedNamesLaws.{asked_names}
use Rattle.domain_world.proofs.Apart.MachinePlaceLaws.{its_machine}
use Rattle.domain_world.proofs.Apart.OrderToldLaws.{member_earlier, within}
use Rattle.domain_world.proofs.Apart.TogetherAsksLaws.{asks_in, judged_asks}
use Rattle.domain_world.proofs.Apart.TogetherBesideLaws.{Beside, beside_has}
use Rattle.domain_world.proofs.Apart.TogetherBookLaws.{Pairing}
use Rattle.domain_world.proofs.Apart.TogetherFrameLaws.{HasHelp}
use Rattle.domain_world.proofs.Apart.TogetherKnownLaws.{LeadsTo, earlier_on, to_itself}
use Rattle.domain_world.proofs.Apart.TogetherLastLaws.{IsAnswering, IsSetOut, Leads, answered_last, apart_at, ends_last, grows_last, one_older, open_by, set_out}
use Rattle.domain_world.proofs.Apart.TogetherMoveLaws.{IsBehindMember}
use Rattle.domain_world.proofs.Apart.TogetherRunLaws.{its_place, pairing_of}
use Rattle.domain_world.proofs.Apart.TogetherStayLaws.{basis_of}
use Rattle.domain_world.proofs.Apart.TogetherTakeLaws.{FitsSet, Ties, hear_fits, set_waits}
use Rattle.domain_world.proofs.Moves.ComingLaws.{CameFrom, CameInUnit, IsPieceOf, IsStill, StillHas, came_in_unit, kept_on}
use Rattle.domain_world.proofs.Frames.EndNoteLaws.{stepped}
use Rattle.domain_world.proofs.Moves.MarkPlaceLaws.{got_beside, got_map}
use Rattle.domain_world.proofs.Frames.MoveKeepLaws.{coming}
use Rattle.domain_world.proofs.Moves.OpenMadeLaws.{IsAtSide, IsMore, MoreOf, goes_on, no_more}
use Rattle.domain_world.proofs.Moves.PlainFormLaws.{heard_plain}
use Rattle.domain_world.proofs.Judgements.GrantLaws.{IsByPlan, stand_after}
use Rattle.domain_world.proofs.Judgements.MovedLaws.{IsFound, passed_in}
use Rattle.domain_world.proofs.Judgements.UnclashedLaws.{passes_unclashed}
use Rattle.domain_world.proofs.Calls.CallComesLaws.{IsWhole}
use Rattle.domain_world.proofs.Calls.CallFrameLaws.{dialled_on}
use Rattle.domain_world.proofs.Calls.CallHoldsLaws.{CallsHold, mark_there, marks_in, views_at}
use Rattle.domain_world.proofs.Calls.CallStepLaws.{most_steps}
use Rattle.domain_world.proofs.Sequences.Own.OwnWholeLaws.{answer_turn}
use Rattle.domain_controller.proofs.TrustPlaceLaws.{got_all}

-- ---- the reply that is heard is that of the unit

abbrev pub ReadsSet : Hearing → List ℕ → Type 0
ReadsSet (hearing.Set (set_hearing.Reply r)) stub = set_reply_of stub ≡ Ok r
ReadsSet _ stub = Unit {0}

ack_reads : (accepts : Bool) (st : Step) (receive next : ℕ) (stub : List ℕ) → ReadsSet (hear_ack accepts st receive next) stub
ack_reads false st receive next stub = tt
ack_reads true (step.Bind c) receive next stub = tt
ack_reads true (step.Reply q) receive next stub = tt
ack_reads true (step.Set (set_step.Bind c)) receive next stub = tt
ack_reads true (step.Set set_step.Reply) receive next stub = tt

reply_reads : (q : Question) (r : Result Reply StubRefused) (stub : List ℕ) → ReadsSet (hear_reply q r) stub
reply_reads q (Err why) stub = tt
reply_reads q (Ok r) stub = tt

set_reads : (found : Result SetReply SetRefused) (stub : List ℕ) → set_reply_of stub ≡ found → ReadsSet (hear_set_reply found) stub
set_reads (Err why) stub is = tt
set_reads (Ok r) stub is = is

stub_reads : (st : Step) (stub : List ℕ) → ReadsSet (hear_stub st stub) stub
stub_reads (step.Bind c) stub = tt
stub_reads (step.Reply q) stub = reply_reads q (reply_of (opnum_asked q) stub) stub
stub_reads (step.Set (set_step.Bind c)) stub = tt
stub_reads (step.Set set_step.Reply) stub = set_reads (set_reply_of stub) stub refl

body_reads : (body : Body) (st : Step) (next : ℕ) → ReadsSet (hear_body body st next) (stub_of body)
body_reads (BindNak reason) st next = tt
body_reads (BindAck send receive group results) st next = ack_reads (is_accepting results) st receive next []
body_reads (Fault hint context status) st next = tt
body_reads (Response hint context stub) st next = stub_reads st stub
body_reads (Bind send receive group contexts) st next = tt
body_reads (Request hint context opnum stub) st next = tt
body_reads Auth3 st next = tt

by_reads : (awaited : Bool) (p : Pending) (unit : RpcUnit) (next : ℕ) → ReadsSet (hear_by awaited p unit next) (stub_of unit.body)
by_reads false p unit next = tt
by_reads true p unit next = body_reads unit.body p.step next

pub hear_reads : (turn : Option Pending) (unit : RpcUnit) (next : ℕ) → ReadsSet (hear turn unit next) (stub_of unit.body)
hear_reads None unit next = tt
hear_reads (Some p) unit next = by_reads (unit.call == p.number) p unit next

-- ---- the status of a reply that sets a secret is 0

status_by : (zero : Bool) (how : Standing) (r : SetReply) (o : SecureChannelState) → judge_set_status zero how r.returned ≡ Ok o → zero ≡ true
status_by false how r o is = absurd (let never = is in cc)
status_by true how r o is = refl

-- a reply that sets a secret is an answer
pub answer_by : (h : Hearing) (r : SetReply) (c : Requester) (o : SecureChannelState) → h ≡ hearing.Set (set_hearing.Reply r) → judge_set r c.standing ≡ Ok o → IsAnswer (act h c).taken
answer_by h r c o is judged =
    subst (λ (heard : Hearing). IsAnswer (act heard c).taken) (sym is) (subst (λ (j : SetOutcome). IsAnswer (settle_set j c).taken) (sym judged) tt)

-- the call is asked on the channel
pub asks_set : (how : Standing) (st : Option Step) (number : ℕ) (o : SecureChannelState) → how ≡ standing.Open o → IsSetReply st → asking_in how st number ≡ Some number
asks_set how None number o is set = absurd set
asks_set how (Some (step.Bind c)) number o is set = absurd set
asks_set how (Some (step.Reply q)) number o is set = absurd set
asks_set how (Some (step.Set (set_step.Bind c))) number o is set = absurd set
asks_set how (Some (step.Set set_step.Reply)) number o is set = ap (λ (h : Standing). asking_in h (Some (step.Set set_step.Reply)) number) is

-- ---- the reply of a call that found no account has another status

ok_same : (one other : SetReply) (found : Result SetReply SetRefused) → found ≡ Ok one → found ≡ Ok other → one ≡ other
ok_same one other found is also = let both : Ok one ≡ Ok other = sym is ∙ also in cc

none_read : (credential : List ℕ) → IsBlock 8 credential → set_reply_of (written_set_reply (record { returned = returned_with credential; status = no_trust_sam_account })) ≡ Ok (record { returned = returned_with credential; status = no_trust_sam_account })
unfolding set_reply_of
none_read credential block =
    stub_again set_reply (record { returned = returned_with credential; status = no_trust_sam_account }) _ _
    (set_stub (record { returned = returned_with credential; status = no_trust_sam_account }) (record { returned = record { credential = block; timestamp = omega arith }; status = omega arith }))

-- where the status is 0 the account was found
set_found : (found : Option ℕ) (hash credential : List ℕ) (table : AccountTable) (sessions : List Session) (r : SetReply) → IsBlock 8 credential →
    set_reply_of (written_set_reply (record { returned = returned_with credential; status = (set_so found hash table sessions).status })) ≡ Ok r → (r.status == 0) ≡ true → (at : ℕ) × (found ≡ Some at)
set_found None hash credential table sessions r block reads zero =
    let same : r ≡ record { returned = returned_with credential; status = no_trust_sam_account } = ok_same r _ _ reads (none_read credential block) in
    absurd (let never : (no_trust_sam_account == 0) ≡ true = ap (λ (x : SetReply). x.status == 0) (sym same) ∙ zero in let both : false ≡ true = never in cc)
set_found (Some at) hash credential table sessions r block reads zero = (at, refl)

-- ---- the call that sets a secret

set_case : (asked : JudgedCall) (d : ChannelIdentity) (secret : List ℕ) → set_by d asked ≡ Some secret → (c : SetCall) × (asked ≡ Set c)
set_case (Network c) d secret is = absurd (no_some secret is)
set_case (Interactive c) d secret is = absurd (no_some secret is)
set_case (Logoff c) d secret is = absurd (no_some secret is)
set_case (NetworkLogoff c) d secret is = absurd (no_some secret is)
set_case (Set c) d secret is = (c, refl)

next_by : (st : Option Step) (how : Standing) (caller : Caller) (next : Option (List ℕ)) → IsSetReply st → IsSetIn st how caller next → HasNext next
next_by None how caller next is set = absurd is
next_by (Some (step.Bind c)) how caller next is set = absurd is
next_by (Some (step.Reply q)) how caller next is set = absurd is
next_by (Some (step.Set (set_step.Bind c))) how caller next is set = absurd is
next_by (Some (step.Set set_step.Reply)) how caller next is set = set

-- by a call by which a secret is set it was taken
taken_by : (controller place : ℕ) (j : Judging) (c : SetCall) (channel : SecureChannelState) (at : ℕ) → j.controller ≡ controller → has_passed j.how ≡ true → j.checks ≡ Some channel → j.asked ≡ Set c →
    machine_in j.table.accounts c.account c.channel c.computer ≡ Some at → at ≡ place → is_taken controller place j ≡ true
taken_by controller place j c channel at own passed checks asked found same =
    ap (λ (hit : Bool). hit && has_passed j.how && sets_on j.checks j place) ((Decides-eqb j.controller controller).1 own)
    ∙ ap (λ (hit : Bool). hit && sets_on j.checks j place) passed
    ∙ ap (λ (o : Option SecureChannelState). sets_on o j place) checks
    ∙ ap (λ (a : JudgedCall). sets_by a j.table place) asked
    ∙ ap (λ (o : Option ℕ). is_place o place) found
    ∙ (Decides-eqb at place).1 same

-- one was taken in that unit
abbrev TookIn : ℕ → ℕ → ℕ → ℕ → Judging → Type 0
TookIn controller place reply unit j = (j.reply ≡ Some reply) × (is_taken controller place j ≡ true) × (j.source ≡ InUnit unit)

took_one : (controller place reply unit : ℕ) (judged : List Judging) → OneOf (TookIn controller place reply unit) judged → IsIn unit (taken_units controller place judged)
took_one controller place reply unit [] one = absurd one
took_one controller place reply unit (j ∷ earlier) one = elim one [
  | inl here ↦ first_in (is_taken controller place j) j.source unit (taken_units controller place earlier) here.1 here.2
  | inr later ↦ later_in (is_taken controller place j) j.source unit (taken_units controller place earlier) (took_one controller place reply unit earlier later)
]

-- what an end does leaves the units of the bag
pub still_stepped : (end : EndId) (what : EndStep) (s : State) → StillHas s.bag (stepped end what s).bag
still_stepped end what s =
    let heard : AfterHearing = heard_by what s in
    let more : IsMore s.links s.bag (stepped end what s).links (stepped end what s).bag =
    actions_stay (MoreOf s.links s.bag) (goes_on s.links s.bag) end heard.actions heard.state (no_more s.links s.bag) in
    λ number one there.
    record { now = one; there = ap (λ (all : List BagUnit). slice_get all number) more.is ∙ got_append s.bag more.units number one there; bytes = refl; link = refl; kind = refl; back = refl }

-- ---- of a member that begins alike

module _ (plan : Plan) (moves : List Move) (nobody : IsPlainAlone plan) (schedule : IsSchedule plan moves) (clear : IsClear (past plan moves).book) (member : ℕ) (begins : BeginsAlike plan member) where
  abbrev p : Past
  p = past plan moves

  abbrev last : Book
  last = p.book

  abbrev bag : List BagUnit
  bag = p.world.state.bag

  abbrev k : ℕ
  k = begins.controller

  abbrev pub place : ℕ
  place = (its_place plan member begins).place

  abbrev pub fits : MarksFit bag last
  fits = marks_fit plan moves nobody schedule

  abbrev pub pair : Pairing
  pair = pairing_of plan member begins place (asks_in bag last fits)

  abbrev pub Known : ℕ → Delivery → State → Given → Book → Type 0
  Known n w s given b = Beside plan member begins place (asks_in bag last fits) n (coming w) s given b

  -- the table of the member's controller has each name once
  pub distinct : has_distinct_names begins.table.accounts ≡ true
  distinct =
      let its : IsTable begins.table = got_all IsTable plan.tables k begins.table (recursion_from_All IsTable plan.tables schedule.forms.tables) begins.is_table in its.distinct

  -- the accounts at a call of its controller
  pub differ_at : (j : Judging) → IsByPlan plan j → j.controller ≡ k → DifferInStates begins.table j.table
  differ_at j by own =
      let table : by.0.planned ≡ begins.table = some_is by.0.planned begins.table (sym by.0.is ∙ ap (slice_get plan.tables) own ∙ begins.is_table) in
      subst (λ (t : AccountTable). DifferInStates t j.table) table by.0.states

  module _ (n : ℕ) (w : Delivery) (piece : List ℕ) (s after : State) (given : Given) (b : Book) (running : Running) (whole : IsWhole w.link piece running)
      (there : slice_get s.ends.members member ≡ Some (record { running = Some running })) (here : IsAtSide s.links w.link w.back (Member member)) (came : CameFrom w.source s w piece)
      (even : length b.sent ≡ length s.bag) (help : HasHelp pair n [] s given b) (known : Known n w s given b) (few : n + 1 ≤ most_steps) (differ : Differ s.chances.drawn)
      (behind : IsBehindMember member (record { running = Some running }) w piece s after) (to : LeadsTo bag last after.bag (note_member (Some (record { running = Some running })) member w piece s after b)) where
    abbrev st : MemberState
    st = record { running = Some running }

    abbrev c : Requester
    c = running.logons.channel

    abbrev noted : Book
    noted = note_member (Some st) member w piece s after b

    abbrev t : State
    t = (heard_by (member_step (Some st) member (event.Bytes w.link piece) s.moment s.ends s.chances) s).state

    still_last : StillHas s.bag bag
    still_last =
        let now : StillHas s.bag after.bag =
        subst (λ (x : State). StillHas s.bag x.bag) (sym behind) (still_stepped (Member member) (member_step (Some st) member (event.Bytes w.link piece) s.moment s.ends s.chances) s) in
        kept_on s.bag after.bag bag now to.still

    leads_was : Leads plan moves nobody schedule clear s b
    leads_was = record {
      still = still_last;
      earlier = earlier_on b noted last (member_earlier st member w piece s after b) to.earlier;
      ends = ends_last plan moves nobody schedule clear s (beside_has plan member begins place (asks_in bag last fits) n (coming w) s given b known).0.0.0.1.0.1;
    }

    leads_now : Leads plan moves nobody schedule clear t noted
    leads_now = record {
      still = still_last;
      earlier = to.earlier;
      ends = record {
        controllers = leads_was.ends.controllers;
        members = length-set s.ends.members member _ ∙ leads_was.ends.members;
        clients = leads_was.ends.clients;
        stations = leads_was.ends.stations;
      };
    }

    module _ (ties : Ties (basis_of pair (views_at s.member_plans s.ends) b) (marks_in b.sent) c running.logons.plan.secrets) (reply : SetReply)
        (heard_is : hear c.turn whole.unit c.next_call ≡ hearing.Set (set_hearing.Reply reply)) (o : SecureChannelState) (judged : judge_set reply c.standing ≡ Ok o) where
      waits : IsSetReply (step_in c.turn)
      waits = subst (λ (h : Hearing). FitsSet h (step_in c.turn)) heard_is (hear_fits c.turn whole.unit c.next_call)

      stood : (own : SecureChannelState) × (c.standing ≡ standing.Open own)
      stood = open_by c.standing (step_in c.turn) waits ties.coherent.matches

      abbrev d : ChannelIdentity
      d = channel_of k c.caller.computer stood.0

      stands : stands_in k c.caller.computer c.standing ≡ Some d
      stands = ap (λ (how : Standing). stands_in k c.caller.computer how) stood.1

      out : IsSetOut b c d
      out =
          set_out plan moves nobody schedule clear n s given b known.0.0.0.1.0.1 leads_was (omega (arith, few)) differ member k running there help.asks waits d stands

      -- ---- the unit of the reply

      dialled : IsDialledBy s.links member w.link
      dialled =
          let holds : CallsHold n s.member_plans s.ends s.chances.drawn s.links b.sent b.messages = help.calls (omega (arith, few)) differ in
          dialled_on _ (λ number. IsDialledBy s.links member number) (Some running) w.link (record { running = running; runs = refl; said = whole.said; on = whole.on }) (holds.members member st there).kept

      in_unit : CameInUnit w.source s w piece
      in_unit = came_in_unit w.source s w piece member dialled.controller came dialled.at

      abbrev piece_of : IsPieceOf s in_unit.number w piece
      piece_of = in_unit.piece_of

      same_bytes : piece_of.unit.bytes ≡ piece
      same_bytes =
          let quiet : NothingIsOpen s = is_quiet s (beside_has plan member begins place (asks_in bag last fits) n (coming w) s given b known).0.0.0.1.0.0.0.0 in
          let route : piece_of.route ≡ ToController member dialled.controller = some_is piece_of.route (ToController member dialled.controller) (sym piece_of.made ∙ dialled.at) in
          let is = quiet.bag in_unit.number piece_of.unit piece_of.there (sym piece_of.same_kind ∙ ap kind_of route) in
          one_piece piece_of.unit.bytes piece is.1 piece_of.part

      abbrev taken : CallTaken
      taken = record { at = 0; requester = OfMember member; call = out.unit; reply = in_unit.number }

      turn_last : (part : Part DialWork) → event_part running (event.Bytes w.link piece) s.moment s.chances.left ≡ Ok part → IsTakenInTurn p taken
      turn_last part ok =
          taken_stays plan (world_in t) p.world noted last (grows_last plan moves nobody schedule clear t noted leads_now) taken
          (answer_turn plan n member w piece s after given b running whole.said whole.on there even (ap (λ (x : State). x.bag) behind) in_unit.number piece_of (ap unit_in in_unit.is) here
          known.0.0.0.1.0.0 few (to.earlier.clash clear.apart) (apart_at plan moves nobody schedule clear t noted leads_now)
          (marks_before t p.world.state noted last (grows_last plan moves nobody schedule clear t noted leads_now) (marks_known plan moves nobody)) differ whole part ok d (number_in c.turn)
          (answer_by (hear c.turn whole.unit c.next_call) reply c o heard_is judged) (subst (λ (kk : ℕ). (view_of kk c).stands ≡ Some d) (sym help.asks) stands)
          (asks_set c.standing (step_in c.turn) (number_in c.turn) stood.0 stood.1 waits) out.unit out.timestamp out.there)

      -- ---- the call that it answers

      marked_last : slice_get (marks_in last.sent) out.unit ≡ Some (Calling d (number_in c.turn) out.timestamp)
      marked_last = leads_was.earlier.marks out.unit (Calling d (number_in c.turn) out.timestamp) out.there

      next_is : asks_in bag last fits out.unit ≡ next_of running.logons.plan.secrets
      next_is =
          (ties.together.asked out.unit
          (set_waits (step_in c.turn) (number_in c.turn) out.unit out.timestamp (stands_in k c.caller.computer c.standing) d (marks_in b.sent) ties.out waits ties.waits stands out.there)).0

      its_next : HasNext (next_of running.logons.plan.secrets)
      its_next = next_by (step_in c.turn) c.standing c.caller (next_of running.logons.plan.secrets) waits (help.tries member st there).sets

      module _ (turn : IsTakenInTurn p taken) (j : Judging) (at : ℕ) (judged_there : slice_get last.judged at ≡ Some j) (answers : IsAnswering plan moves nobody schedule clear taken turn j) where
        well : IsJudgedWell bag j
        well = got_all (IsJudgedWell bag) last.judged at j (judged_stand plan moves nobody schedule).judged judged_there

        call : IsCarriedCall bag j.number j.asked out.unit
        call = well.carried out.unit answers.of.came

        set_is : (own : SetCall) × (j.asked ≡ Set own)
        set_is =
            set_case j.asked d its_next.0
            (sym (judged_asks bag last fits bag last (to_itself bag last) out.unit d (number_in c.turn) out.timestamp marked_last j call) ∙ next_is ∙ its_next.1)

        -- at its controller
        controller_is : j.controller ≡ k
        controller_is =
            let found : IsFound j.controller (computer_named j.asked) j.checks answers.channel = passed_in j answers.channel answers.of.passed in
            let made : IsMade (sent_channel (slice_get last.sent out.unit)) answers.channel =
            made_for j answers.channel out.unit last.sent answers.of.passed answers.of.came
            (got_all (λ (one : Judging). clashes (passed_channel one) (unit_in one.source) last.sent ≡ false) last.judged at j (passes_unclashed plan moves clear.apart) judged_there) in
            let sent = got_map (λ (one : Sent). one.mark) last.sent out.unit (Calling d (number_in c.turn) out.timestamp) marked_last in
            let named : made.named ≡ d = some_is made.named d (sym made.is ∙ ap sent_channel sent.1 ∙ ap mark_channel sent.2) in
            ap (λ (x : ChannelIdentity). x.controller) found.is ∙ sym made.same.controller ∙ ap (λ (x : ChannelIdentity). x.controller) named

        names : AreItsNames d set_is.0.account set_is.0.computer set_is.0.channel
        names =
            subst (HasItsNames d) set_is.1
            (asked_names bag last fits out.unit d (number_in c.turn) out.timestamp marked_last call.carrier call.there call.whole j.asked call.carried)

        -- the status of the reply is that of the call
        its_machine_found : (at : ℕ) × (machine_in j.table.accounts set_is.0.account set_is.0.channel set_is.0.computer ≡ Some at)
        its_machine_found =
            let now : IsStill piece_of.unit bag in_unit.number = still_last in_unit.number piece_of.unit piece_of.there in
            let carrier : now.now ≡ turn.carrier = some_is now.now turn.carrier (sym now.there ∙ turn.there) in
            let bytes : piece ≡ turn.carrier.bytes = sym same_bytes ∙ sym now.bytes ∙ ap (λ (u : BagUnit). u.bytes) carrier in
            let form : List ℕ = plain_form last.sent in_unit.number turn.carrier in
            let heard : IsHeard form whole.frames whole.unit =
            heard_plain last.sent in_unit.number turn.carrier whole.frames whole.unit (subst (λ (bs : List ℕ). IsHeard bs whole.frames whole.unit) bytes whole.heard) in
            let read : IsReadAsMade j form answers.of.carries whole.unit = replies_are_read.read j form answers.of.carries whole.frames whole.unit well.range call.level heard in
            let channel : SecureChannelState = answers.of.carries.next.channel in
            let key : List ℕ = key_of_channel channel in
            let credential : List ℕ = return_of key channel.seed answers.of.carries.next.given.timestamp in
            let stub : stub_of whole.unit.body ≡ reply_stub (Set set_is.0) key credential (done_by (Set set_is.0) channel j.name j.table j.moment j.sessions) =
            ap (λ (u : RpcUnit). stub_of u.body) read.unit_is
            ∙ ap (λ (a : JudgedCall). reply_stub a key credential (done_by a channel j.name j.table j.moment j.sessions)) set_is.1 in
            let reads : set_reply_of (stub_of whole.unit.body) ≡ Ok reply = subst (λ (h : Hearing). ReadsSet h (stub_of whole.unit.body)) heard_is (hear_reads c.turn whole.unit c.next_call) in
            set_found (machine_in j.table.accounts set_is.0.account set_is.0.channel set_is.0.computer) (show_of key set_is.0.hidden) credential j.table j.sessions reply
            (cred_block key (next_seed channel.seed answers.of.carries.next.given.timestamp)) (ap set_reply_of (sym stub) ∙ reads) (status_by (reply.status == 0) c.standing reply o judged)

        its_account : its_machine_found.0 ≡ place
        its_account =
            let same : SameName set_is.0.computer begins.own.computer =
            subst (λ (name : List ℕ). SameName name begins.own.computer) names.computer_is (help.named (omega (arith, few)) differ running there) in
            its_machine begins.table j.table distinct (differ_at j (got_all (IsByPlan plan) last.judged at j (stand_after plan moves nobody).judged judged_there) controller_is) begins.own.computer place
            (its_place plan member begins).found set_is.0.computer set_is.0.channel its_machine_found.0 same
            (ap (λ (a : List ℕ). machine_in j.table.accounts a set_is.0.channel set_is.0.computer) (sym names.account_is) ∙ its_machine_found.1)

        was_taken : is_taken k place j ≡ true
        was_taken =
            taken_by k place j set_is.0 answers.of.carries.next.channel its_machine_found.0 controller_is (passed_of (has_passed j.how) j answers.channel refl answers.of.passed)
            answers.of.carries.next.stands set_is.1 its_machine_found.1 its_account

      took : (part : Part DialWork) → event_part running (event.Bytes w.link piece) s.moment s.chances.left ≡ Ok part → IsIn out.unit (taken_units k place b.judged)
      took part ok =
          let turn : IsTakenInTurn p taken = turn_last part ok in
          let one : Placed (IsAnswering plan moves nobody schedule clear taken turn) last.judged =
          placed (IsAnswering plan moves nobody schedule clear taken turn) last.judged (answered_last plan moves nobody schedule clear taken turn) in
          let Q : Judging → Type 0 = TookIn k place in_unit.number out.unit in
          let all : OneOf Q last.judged =
          one_at Q last.judged one.place one.item one.there (one.is.reply, was_taken turn one.item one.place one.there one.is, one.is.of.came) in
          let sent = got_beside s.bag b.sent in_unit.number piece_of.unit (sym even) piece_of.there in
          let below : in_unit.number < length b.sent = within b.sent in_unit.number sent.0.mark (mark_there b.sent in_unit.number sent.0 sent.1) in
          took_one k place in_unit.number out.unit b.judged
          (one_older Q in_unit.number (length b.sent) (λ x q. q.0) below leads_was.earlier.judgings b.judged leads_was.earlier.fresh
          (subst (λ (js : List Judging). OneOf Q js) leads_was.earlier.judged all))

      set_heard : (part : Part DialWork) → event_part running (event.Bytes w.link piece) s.moment s.chances.left ≡ Ok part →
          SetHeard (basis_of pair (views_at s.member_plans s.ends) b) (marks_in b.sent) c
      set_heard part ok = record { unit = out.unit; timestamp = out.timestamp; channel = d; stands = stands; there = out.there; took = took part ok; others = out.others }

    -- whatever is heard
    set_by_heard : (part : Part DialWork) → event_part running (event.Bytes w.link piece) s.moment s.chances.left ≡ Ok part →
        Ties (basis_of pair (views_at s.member_plans s.ends) b) (marks_in b.sent) c running.logons.plan.secrets → (h : Hearing) → hear c.turn whole.unit c.next_call ≡ h →
        SetFits (basis_of pair (views_at s.member_plans s.ends) b) (marks_in b.sent) c h
    set_by_heard part ok ties hearing.Skip is = tt
    set_by_heard part ok ties (hearing.Next q frames) is = tt
    set_by_heard part ok ties (hearing.Reply q r) is = tt
    set_by_heard part ok ties (hearing.Drop cause) is = tt
    set_by_heard part ok ties (hearing.Set (set_hearing.Next frames)) is = tt
    set_by_heard part ok ties (hearing.Set (set_hearing.Reply r)) is = λ o judged. set_heard ties r is o judged part ok

    pub set_fits : (part : Part DialWork) → event_part running (event.Bytes w.link piece) s.moment s.chances.left ≡ Ok part →
        Ties (basis_of pair (views_at s.member_plans s.ends) b) (marks_in b.sent) c running.logons.plan.secrets →
        SetFits (basis_of pair (views_at s.member_plans s.ends) b) (marks_in b.sent) c (hear c.turn whole.unit c.next_call)
    set_fits part ok ties = set_by_heard part ok ties (hear c.turn whole.unit c.next_call) refl
