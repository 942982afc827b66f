-- What a member reads where it takes an answer in its turn, and what it tells then: the reply, how it is judged on the
-- channel that stands, the outcome of the logon of the place, and which logons it keeps.
-- It serves `schedules_are_heard`.
use Rattle.std.proofs.Common.{◌≡◌, ◌≢◌, ℕ, ◌==◌, Bool, true, false, List, [], ◌∷◌, ◌++◌, map, Option, Some, None, Result, Ok, Err, refl, sym, ap, subst, ◌∙◌, if◌then◌else◌, inl, inr}
use Rattle.std.specs.List.{AllByRecursion}
use Rattle.std.proofs.lemmas.Bool.Decides.{Decides-eqb}
use Rattle.wire_base.specs.Maps.{has_key, lookup, same_number, take_out}
use Rattle.wire_base.specs.declared.authenticator.Authenticator.{Authenticator}
use Rattle.authenticators.specs.SecureChannels.{SecureChannelState}
use Rattle.outside.specs.Machine.{Part, then_part}
use Rattle.outside.specs.declared.action.Action.{Action}
use Rattle.outside.specs.declared.action.Action.TheVariants as action
use Rattle.outside.specs.declared.action.CloseCause.TheVariants as close
use Rattle.outside.specs.declared.action.StepRefused.{StepRefused}
use Rattle.outside.specs.declared.event.Event.TheVariants as event
use Rattle.rpc_units.specs.Calls.{IsHeard}
use Rattle.rpc_units.specs.Joining.{AddsTo, open_after, stub_of}
use Rattle.rpc_units.specs.Stream.{cut_stream}
use Rattle.rpc_units.specs.Writing.{written}
use Rattle.rpc_units.specs.declared.refused.JoinRefused.{JoinRefused}
use Rattle.rpc_units.specs.declared.unit.Body.{Body}
use Rattle.rpc_units.specs.declared.unit.Body.TheVariants.{Bind, BindAck, BindNak, Auth3, Request, Response, Fault}
use Rattle.rpc_units.specs.declared.unit.Unit.{Unit as RpcUnit}
use Rattle.logon_stubs.specs.Calls.{reply_of}
use Rattle.logon_stubs.specs.Status.{access_denied}
use Rattle.logon_stubs.specs.declared.calls.LogonReply.{LogonReply}
use Rattle.logon_stubs.specs.declared.calls.Reply.{Reply}
use Rattle.logon_stubs.specs.declared.calls.Reply.TheVariants as reply
use Rattle.logon_stubs.specs.declared.info.Verdict.{Verdict}
use Rattle.logon_stubs.specs.declared.refused.StubRefused.{StubRefused}
use Rattle.end_links.specs.Links.{LinkState}
use Rattle.secret_change.specs.Calls.{set_reply_of}
use Rattle.secret_change.specs.declared.calls.SetReply.{SetReply}
use Rattle.secret_change.specs.declared.refused.SetRefused.{SetRefused}
use Rattle.domain_world.specs.Accepting.Carried.{IsReadAsAnswer}
use Rattle.step_notes.proofs.Channels.ChannelNameLaws.{SetFits, set_fits}
use Rattle.channel_client.specs.declared.state.SetStep.TheVariants as set_step
use Rattle.channel_client.specs.Effects.{ArePlacesApart, asking_in}
use Rattle.channel_client.specs.Machine.{Taking, act, hear, hear_ack, hear_body, hear_by, hear_reply, hear_stub, is_accepting, judge, judge_auth, judge_challenge, judge_credential, judge_flags, judge_logon, opnum_asked, settle, take_of, SetOutcome, judge_set, settle_set, hear_set_reply}
use Rattle.channel_client.specs.State.{Requester}
use Rattle.channel_client.specs.declared.answers.Taken.{Taken}
use Rattle.channel_client.specs.declared.answers.Taken.TheVariants as taken
use Rattle.channel_client.specs.declared.hearing.Hearing.{Hearing}
use Rattle.channel_client.specs.declared.judging.Judgement.{Judgement}
use Rattle.channel_client.specs.declared.judging.Judgement.TheVariants as judgement
use Rattle.channel_client.specs.declared.state.Pending.{Pending}
use Rattle.channel_client.specs.declared.state.Question.{Question}
use Rattle.channel_client.specs.declared.state.Question.TheVariants as question
use Rattle.channel_client.specs.declared.state.Standing.{Standing}
use Rattle.channel_client.specs.declared.state.Standing.TheVariants as standing
use Rattle.channel_client.specs.declared.state.Step.{Step}
use Rattle.channel_client.specs.declared.state.Step.TheVariants as step
use Rattle.channel_client.specs.declared.state.Waiting.{Waiting}
use Rattle.member_server.specs.Laws.{heard_if, heard_in, then_whole, whole_by, whole_units}
use Rattle.member_server.specs.Machine.{at_turn, by_event, event_part, work_of}
use Rattle.member_server.specs.Outcomes.{tell_at, end_logon, outcome_of, tell_outcome}
use Rattle.member_server.specs.Turns.{AtTurn, DialWork, do_taken, ending_of, next_turn, take_by, timestamp_of, with_requester, with_work}
use Rattle.member_server.specs.declared.outcomes.Ending.{Ending}
use Rattle.channel_turns.specs.declared.state.Dialling.{Dialling}
use Rattle.channel_turns.specs.declared.state.Dialling.TheVariants as dialling
use Rattle.member_server.specs.declared.state.Logon.{Logon}
use Rattle.member_server.specs.declared.state.Running.{Running}
use Rattle.channel_turns.specs.declared.state.TurnTalk.{TurnTalk}
use Rattle.member_server.specs.declared.state.Work.{Work}
use Rattle.wire_base.specs.Lists.{OneOf}
use Rattle.wire_base.proofs.ListLaws.{one_last}
use Rattle.step_notes.specs.CallLogons.{waiting_for}
use Rattle.step_notes.proofs.Controllers.HeardLaws.{AreRead, each_read}
use Rattle.step_notes.proofs.Members.KeptLogonLaws.{OfEach, one_before}
use Rattle.member_server.proofs.ChannelStepLaws.{taken_part, whole_comes}
use Rattle.member_server.proofs.StepFrame.{KeepsNext, PartHolds, dialling_at, next_follows}
use Rattle.member_server.specs.declared.state.Logons.{Logons}
use Rattle.step_notes.proofs.Members.SameLogonLaws.{Grows, grows_not, grows_then, logon_ended, outcome_told, told}

-- ---- the reply that is taken as an answer

-- The turn waited for the reply to a Logon call of the place, on a channel that stood; the unit has its number, and the
-- reply that is read in it has an authenticator and is judged so.
pub record IsAnswerOf (c : Requester) (unit : RpcUnit) (place : ℕ) (verdict : Verdict) : Type 0 where
  pub pending : Pending
  pub turn : c.turn ≡ Some pending
  pub same_place : place ≡ pending.place
  pub asked : pending.step ≡ step.Reply question.Logon
  pub number : unit.call ≡ pending.number
  pub stood : SecureChannelState
  pub stands : c.standing ≡ standing.Open stood
  pub read : LogonReply
  pub reads : reply_of 2 (stub_of unit.body) ≡ Ok (reply.Logon read)
  pub given : Authenticator
  pub returned : read.returned ≡ Some given
  pub later : SecureChannelState
  pub judged : judge_logon (read.status == access_denied) (standing.Open stood) read.returned read.status read.level read.info ≡ judgement.Answer later verdict

-- a reply that answers
abbrev IsReplyTo : Judgement → Standing → Question → Reply → Verdict → Type 0
IsReplyTo j how q r verdict =
    (q ≡ question.Logon) × (read : LogonReply) × (r ≡ reply.Logon read) × (given : Authenticator) × (read.returned ≡ Some given) × (stood : SecureChannelState) × (how ≡ standing.Open stood)
    × (later : SecureChannelState) × (judge_logon (read.status == access_denied) (standing.Open stood) read.returned read.status read.level read.info ≡ judgement.Answer later verdict)

abbrev IfAnswer : Judgement → (Verdict → Type 0) → Type 0
IfAnswer (judgement.Half client server) Is = Unit {0}
IfAnswer (judgement.Opened o) Is = Unit {0}
IfAnswer (judgement.Answer o verdict) Is = Is verdict
IfAnswer (judgement.Drop cause) Is = Unit {0}

challenge_no : (zero : Bool) (client server : List ℕ) (Is : Verdict → Type 0) → IfAnswer (judge_challenge zero client server) Is
challenge_no false client server Is = tt
challenge_no true client server Is = tt

flags_no : (right : Bool) (secret client server : List ℕ) (Is : Verdict → Type 0) → IfAnswer (judge_flags right secret client server) Is
flags_no false secret client server Is = tt
flags_no true secret client server Is = tt

credential_no : (right : Bool) (secret client server : List ℕ) (flags : ℕ) (Is : Verdict → Type 0) → IfAnswer (judge_credential right secret client server flags) Is
credential_no false secret client server flags Is = tt
credential_no true secret client server flags Is = flags_no _ secret client server Is

auth_no : (zero : Bool) (how : Standing) (secret credential : List ℕ) (flags : ℕ) (Is : Verdict → Type 0) → IfAnswer (judge_auth zero how secret credential flags) Is
auth_no false how secret credential flags Is = tt
auth_no true standing.Nothing secret credential flags Is = tt
auth_no true (standing.Half client server) secret credential flags Is = credential_no _ secret client server flags Is
auth_no true (standing.Open o) secret credential flags Is = tt

answer_if : (j : Judgement) (Is : Verdict → Type 0) → ((later : SecureChannelState) (verdict : Verdict) → j ≡ judgement.Answer later verdict → Is verdict) → IfAnswer j Is
answer_if (judgement.Half client server) Is so = tt
answer_if (judgement.Opened o) Is so = tt
answer_if (judgement.Answer o verdict) Is so = so o verdict refl
answer_if (judgement.Drop cause) Is so = tt

return_answer : (denied : Bool) (how : Standing) (given : Option Authenticator) (read : LogonReply) → (read.status == access_denied) ≡ denied → read.returned ≡ given →
    IfAnswer (judge_logon denied how given read.status read.level read.info)
    (λ verdict. IsReplyTo (judge_logon denied how given read.status read.level read.info) how question.Logon (reply.Logon read) verdict)
return_answer true how given read denied is = tt
return_answer false standing.Nothing given read denied is = tt
return_answer false (standing.Half client server) given read denied is = tt
return_answer false (standing.Open o) None read denied is = tt
return_answer false (standing.Open o) (Some given) read denied is =
    answer_if (judge_logon false (standing.Open o) (Some given) read.status read.level read.info)
    (λ verdict. IsReplyTo (judge_logon false (standing.Open o) (Some given) read.status read.level read.info) (standing.Open o) question.Logon (reply.Logon read) verdict)
    (λ later verdict judged. (
      refl,
      read,
      refl,
      given,
      is,
      o,
      refl,
      later,
      ap (λ (b : Bool). judge_logon b (standing.Open o) read.returned read.status read.level read.info) denied
          ∙ ap (λ (g : Option Authenticator). judge_logon false (standing.Open o) g read.status read.level read.info) is ∙ judged,
    ))

judge_answer : (q : Question) (r : Reply) (how : Standing) (secret : List ℕ) → IfAnswer (judge q r how secret) (λ verdict. IsReplyTo (judge q r how secret) how q r verdict)
judge_answer (question.Challenge client) (reply.Challenge r) how secret = challenge_no (r.status == 0) client r.challenge _
judge_answer (question.Challenge client) (reply.Authenticate r) how secret = tt
judge_answer (question.Challenge client) (reply.Logon r) how secret = tt
judge_answer (question.Challenge client) (reply.Logoff r) how secret = tt
judge_answer question.Authenticate (reply.Challenge r) how secret = tt
judge_answer question.Authenticate (reply.Authenticate r) how secret = auth_no (r.status == 0) how secret r.credential r.flags _
judge_answer question.Authenticate (reply.Logon r) how secret = tt
judge_answer question.Authenticate (reply.Logoff r) how secret = tt
judge_answer question.Logon (reply.Challenge r) how secret = tt
judge_answer question.Logon (reply.Authenticate r) how secret = tt
judge_answer question.Logon (reply.Logon r) how secret = return_answer (r.status == access_denied) how r.returned r refl refl
judge_answer question.Logon (reply.Logoff r) how secret = tt

-- what is heard is judged as that
settled_answer : (j : Judgement) (c : Requester) (place : ℕ) (verdict : Verdict) (Is : Verdict → Type 0) → (settle j c).taken ≡ taken.Answer place verdict → IfAnswer j Is → (pending : Pending) → c.turn ≡ Some pending →
    (place ≡ pending.place) × Is verdict
settled_answer (judgement.Half client server) c place verdict Is is answers pending turn = let x = is in cc
settled_answer (judgement.Opened o) c place verdict Is is answers pending turn = let x = is in cc
settled_answer (judgement.Answer o v) c place verdict Is is answers pending turn =
    let both : taken.Answer pending.place v ≡ taken.Answer place verdict = ap (λ (t : Option Pending). (settle (judgement.Answer o v) (record c { turn = t })).taken) (sym turn) ∙ is in
    let places : pending.place ≡ place = (let x = both in cc) in
    let verdicts : v ≡ verdict = (let x = both in cc) in
    (sym places, subst Is verdicts answers)
settled_answer (judgement.Drop cause) c place verdict Is is answers pending turn = let x = is in cc

module _ (c : Requester) (unit : RpcUnit) (place : ℕ) (verdict : Verdict) where
  abbrev Acts : Hearing → Type 0
  Acts h = (act h c).taken ≡ taken.Answer place verdict → IsAnswerOf c unit place verdict

  ack_acts : (accepts : Bool) (s : Step) (receive : ℕ) → Acts (hear_ack accepts s receive c.next_call)
  ack_acts false s receive acts = let x = acts in cc
  ack_acts true (step.Bind call) receive acts = let x = acts in cc
  ack_acts true (step.Reply q) receive acts = let x = acts in cc
  ack_acts true (step.Set (set_step.Bind call)) receive acts = let x = acts in cc
  ack_acts true (step.Set set_step.Reply) receive acts = let x = acts in cc

  -- the reply to a call that sets a secret is no answer of a logon
  set_settles : (judged : SetOutcome) → (settle_set judged c).taken ≡ taken.Answer place verdict → ⊥
  set_settles (Ok o) is = let x = is in cc
  set_settles (Err cause) is = let x = is in cc

  set_reply_acts : (found : Result SetReply SetRefused) → Acts (hear_set_reply found)
  set_reply_acts (Err why) acts = let x = acts in cc
  set_reply_acts (Ok r) acts = absurd (set_settles (judge_set r c.standing) acts)

  reply_acts : (pending : Pending) (stub : List ℕ) (q : Question) (found : Result Reply StubRefused) → c.turn ≡ Some pending → unit.call ≡ pending.number → pending.step ≡ step.Reply q →
      stub_of unit.body ≡ stub → reply_of (opnum_asked q) stub ≡ found → Acts (hear_reply q found)
  reply_acts pending stub q (Err why) turn number asked carried is acts = let x = acts in cc
  reply_acts pending stub q (Ok r) turn number asked carried is acts =
      let so = settled_answer (judge q r c.standing c.caller.secret) c place verdict (λ v. IsReplyTo (judge q r c.standing c.caller.secret) c.standing q r v) acts
      (judge_answer q r c.standing c.caller.secret) pending turn in
      let its = so.1 in
      record {
        pending = pending;
        turn = turn;
        same_place = so.0;
        asked = asked ∙ ap step.Reply its.0;
        number = number;
        stood = its.5;
        stands = its.6;
        read = its.1;
        reads = ap (λ (s : List ℕ). reply_of 2 s) carried ∙ sym (ap (λ (x : Question). reply_of (opnum_asked x) stub) its.0) ∙ is ∙ ap (λ (x : Reply). Ok x) its.2;
        given = its.3;
        returned = its.4;
        later = its.7;
        judged = its.8;
      }

  stub_acts : (pending : Pending) (s : Step) (stub : List ℕ) → c.turn ≡ Some pending → unit.call ≡ pending.number → pending.step ≡ s → stub_of unit.body ≡ stub → Acts (hear_stub s stub)
  stub_acts pending (step.Bind call) stub turn number is carried acts = let x = acts in cc
  stub_acts pending (step.Set (set_step.Bind call)) stub turn number is carried acts = let x = acts in cc
  stub_acts pending (step.Set set_step.Reply) stub turn number is carried acts = set_reply_acts (set_reply_of stub) acts
  stub_acts pending (step.Reply q) stub turn number is carried acts = reply_acts pending stub q (reply_of (opnum_asked q) stub) turn number is carried refl acts

  body_acts : (pending : Pending) (body : Body) → c.turn ≡ Some pending → unit.call ≡ pending.number → unit.body ≡ body → Acts (hear_body body pending.step c.next_call)
  body_acts pending (BindNak reason) turn number is acts = let x = acts in cc
  body_acts pending (BindAck send receive group results) turn number is acts = ack_acts (is_accepting results) pending.step receive acts
  body_acts pending (Fault hint context status) turn number is acts = let x = acts in cc
  body_acts pending (Response hint context stub) turn number is acts = stub_acts pending pending.step stub turn number refl (ap stub_of is) acts
  body_acts pending (Bind send receive group contexts) turn number is acts = let x = acts in cc
  body_acts pending (Request hint context opnum stub) turn number is acts = let x = acts in cc
  body_acts pending Auth3 turn number is acts = let x = acts in cc

  numbered_acts : (hit : Bool) (pending : Pending) → c.turn ≡ Some pending → (unit.call == pending.number) ≡ hit → Acts (hear_by hit pending unit c.next_call)
  numbered_acts false pending turn is acts = let x = acts in cc
  numbered_acts true pending turn is acts = body_acts pending unit.body turn ((Decides-eqb unit.call pending.number).0 is) refl acts

  turn_acts : (turn : Option Pending) → c.turn ≡ turn → Acts (hear turn unit c.next_call)
  turn_acts None is acts = let x = acts in cc
  turn_acts (Some pending) is acts = numbered_acts (unit.call == pending.number) pending is refl acts

  -- what is taken as an answer
  pub answer_is : (take_of c unit).taken ≡ taken.Answer place verdict → IsAnswerOf c unit place verdict
  answer_is is = turn_acts c.turn refl is

-- ---- the reply that says that a secret is set

-- The turn waited for the reply to a call that sets a secret, on a channel that stood; the unit has its number, and
-- a reply to a call that sets a secret is read in it.
pub record IsSetAnswerOf (c : Requester) (unit : RpcUnit) : Type 0 where
  pub pending : Pending
  pub turn : c.turn ≡ Some pending
  pub asked : pending.step ≡ step.Set set_step.Reply
  pub number : unit.call ≡ pending.number
  pub stood : SecureChannelState
  pub stands : c.standing ≡ standing.Open stood
  pub read : SetReply
  pub reads : set_reply_of (stub_of unit.body) ≡ Ok read

settled_unset : (j : Judgement) (c : Requester) → (settle j c).taken ≡ taken.Set → ⊥
settled_unset (judgement.Half client server) c is = let x = is in cc
settled_unset (judgement.Opened o) c is = let x = is in cc
settled_unset (judgement.Answer o v) c is = let x = is in cc
settled_unset (judgement.Drop cause) c is = let x = is in cc

set_stood : (judged : SetOutcome) (c : Requester) → SetFits judged c.standing → (settle_set judged c).taken ≡ taken.Set → (stood : SecureChannelState) × (c.standing ≡ standing.Open stood)
set_stood (Ok o) c fit is = (fit.0, fit.1)
set_stood (Err cause) c fit is = absurd (let x = is in cc)

module _ (c : Requester) (unit : RpcUnit) where
  abbrev SetActs : Hearing → Type 0
  SetActs h = (act h c).taken ≡ taken.Set → IsSetAnswerOf c unit

  ack_sets : (accepts : Bool) (s : Step) (receive : ℕ) → SetActs (hear_ack accepts s receive c.next_call)
  ack_sets false s receive acts = absurd (let x = acts in cc)
  ack_sets true (step.Bind call) receive acts = absurd (let x = acts in cc)
  ack_sets true (step.Reply q) receive acts = absurd (let x = acts in cc)
  ack_sets true (step.Set (set_step.Bind call)) receive acts = absurd (let x = acts in cc)
  ack_sets true (step.Set set_step.Reply) receive acts = absurd (let x = acts in cc)

  logon_sets : (q : Question) (found : Result Reply StubRefused) → SetActs (hear_reply q found)
  logon_sets q (Err why) acts = absurd (let x = acts in cc)
  logon_sets q (Ok r) acts = absurd (settled_unset (judge q r c.standing c.caller.secret) c acts)

  reply_sets : (pending : Pending) (stub : List ℕ) (found : Result SetReply SetRefused) → c.turn ≡ Some pending → unit.call ≡ pending.number → pending.step ≡ step.Set set_step.Reply →
      stub_of unit.body ≡ stub → set_reply_of stub ≡ found → SetActs (hear_set_reply found)
  reply_sets pending stub (Err why) turn number asked carried is acts = absurd (let x = acts in cc)
  reply_sets pending stub (Ok r) turn number asked carried is acts =
      let stood = set_stood (judge_set r c.standing) c (set_fits r c.standing) acts in
      record {
        pending = pending;
        turn = turn;
        asked = asked;
        number = number;
        stood = stood.0;
        stands = stood.1;
        read = r;
        reads = ap (λ (s : List ℕ). set_reply_of s) carried ∙ is;
      }

  stub_sets : (pending : Pending) (s : Step) (stub : List ℕ) → c.turn ≡ Some pending → unit.call ≡ pending.number → pending.step ≡ s → stub_of unit.body ≡ stub → SetActs (hear_stub s stub)
  stub_sets pending (step.Bind call) stub turn number is carried acts = absurd (let x = acts in cc)
  stub_sets pending (step.Reply q) stub turn number is carried acts = logon_sets q (reply_of (opnum_asked q) stub) acts
  stub_sets pending (step.Set (set_step.Bind call)) stub turn number is carried acts = absurd (let x = acts in cc)
  stub_sets pending (step.Set set_step.Reply) stub turn number is carried acts = reply_sets pending stub (set_reply_of stub) turn number is carried refl acts

  body_sets : (pending : Pending) (body : Body) → c.turn ≡ Some pending → unit.call ≡ pending.number → unit.body ≡ body → SetActs (hear_body body pending.step c.next_call)
  body_sets pending (BindNak reason) turn number is acts = absurd (let x = acts in cc)
  body_sets pending (BindAck send receive group results) turn number is acts = ack_sets (is_accepting results) pending.step receive acts
  body_sets pending (Fault hint context status) turn number is acts = absurd (let x = acts in cc)
  body_sets pending (Response hint context stub) turn number is acts = stub_sets pending pending.step stub turn number refl (ap stub_of is) acts
  body_sets pending (Bind send receive group contexts) turn number is acts = absurd (let x = acts in cc)
  body_sets pending (Request hint context opnum stub) turn number is acts = absurd (let x = acts in cc)
  body_sets pending Auth3 turn number is acts = absurd (let x = acts in cc)

  numbered_sets : (hit : Bool) (pending : Pending) → c.turn ≡ Some pending → (unit.call == pending.number) ≡ hit → SetActs (hear_by hit pending unit c.next_call)
  numbered_sets false pending turn is acts = absurd (let x = acts in cc)
  numbered_sets true pending turn is acts = body_sets pending unit.body turn ((Decides-eqb unit.call pending.number).0 is) refl acts

  turn_sets : (turn : Option Pending) → c.turn ≡ turn → SetActs (hear turn unit c.next_call)
  turn_sets None is acts = absurd (let x = acts in cc)
  turn_sets (Some pending) is acts = numbered_sets (unit.call == pending.number) pending is refl acts

  pub set_answer_is : (take_of c unit).taken ≡ taken.Set → IsSetAnswerOf c unit
  set_answer_is is = turn_sets c.turn refl is

-- ---- the reply that is read, to a call of either kind

-- the turn waited for the reply to the call of that number, on a channel that stood
pub record IsReplyRead (c : Requester) (unit : RpcUnit) : Type 0 where
  pub pending : Pending
  pub turn : c.turn ≡ Some pending
  pub number : unit.call ≡ pending.number
  pub stood : SecureChannelState
  pub stands : c.standing ≡ standing.Open stood
  pub asks : asking_in (standing.Open stood) (Some pending.step) pending.number ≡ Some pending.number
  pub answer : IsReadAsAnswer unit

abbrev pub logon_read : (c : Requester) (unit : RpcUnit) (place : ℕ) (verdict : Verdict) → IsAnswerOf c unit place verdict → IsReplyRead c unit
logon_read c unit place verdict own = record {
  pending = own.pending;
  turn = own.turn;
  number = own.number;
  stood = own.stood;
  stands = own.stands;
  asks = ap (λ (st : Step). asking_in (standing.Open own.stood) (Some st) own.pending.number) own.asked;
  answer = inl (record { read = own.read; given = own.given; reads = own.reads; returned = own.returned });
}

abbrev pub set_read : (c : Requester) (unit : RpcUnit) → IsSetAnswerOf c unit → IsReplyRead c unit
set_read c unit own = record {
  pending = own.pending;
  turn = own.turn;
  number = own.number;
  stood = own.stood;
  stands = own.stands;
  asks = ap (λ (st : Step). asking_in (standing.Open own.stood) (Some st) own.pending.number) own.asked;
  answer = inr (record { read = own.read; reads = own.reads });
}

-- ---- what is heard of a whole unit

frames_whole : (unit : RpcUnit) (frames : List RpcUnit) (joiner : Option RpcUnit) → AreRead frames → AddsTo joiner frames unit → whole_units (map written frames) joiner ≡ unit ∷ []
frames_whole unit [] joiner read adds = absurd adds
frames_whole unit (frame ∷ []) joiner read adds =
    ap (λ (r : _). whole_by r joiner (λ after. whole_units [] after)) read.0 ∙ ap (λ (a : Result (Option RpcUnit) JoinRefused). then_whole a []) adds
frames_whole unit (frame ∷ next ∷ frames) joiner read adds =
    ap (λ (r : _). whole_by r joiner (λ after. whole_units (map written (next ∷ frames)) after)) read.0
    ∙ ap (λ (a : Result (Option RpcUnit) JoinRefused). then_whole a (whole_units (map written (next ∷ frames)) (open_after joiner frame))) adds.0
    ∙ frames_whole unit (next ∷ frames) (open_after joiner frame) read.1 adds.1

-- The turn is on that link, nothing is open on it, and the bytes are those of one whole unit.
pub record HearsWhole (running : Running) (number : ℕ) (bytes : List ℕ) (unit : RpcUnit) : Type 0 where
  pub said : LinkState TurnTalk
  pub frames : List RpcUnit
  pub on : running.dialling ≡ dialling.On number said
  pub rest : said.rest ≡ []
  pub none : said.talk.joiner ≡ None
  pub heard : IsHeard bytes frames unit

pub heard_whole : (running : Running) (number : ℕ) (bytes : List ℕ) (unit : RpcUnit) → HearsWhole running number bytes unit → heard_in (event.Bytes number bytes) running.dialling ≡ unit ∷ []
heard_whole running number bytes unit hears =
    ap (λ (how : Dialling). heard_in (event.Bytes number bytes) how) hears.on
    ∙ ap (λ (hit : Bool). heard_if hit hears.said bytes) ((Decides-eqb number number).1 refl)
    ∙ ap (λ (r : List ℕ). whole_units (cut_stream (r ++ bytes)).units hears.said.talk.joiner) hears.rest
    ∙ ap (λ (cut : _). whole_units cut.units hears.said.talk.joiner) hears.heard.stream
    ∙ ap (λ (joiner : Option RpcUnit). whole_units (map written hears.frames) joiner) hears.none
    ∙ frames_whole unit hears.frames None (each_read hears.frames hears.heard.read) hears.heard.joined

-- ---- what the event comes to

event_takes : (running : Running) (number : ℕ) (bytes : List ℕ) (unit : RpcUnit) (left : List (List ℕ)) → HearsWhole running number bytes unit →
    by_event (event.Bytes number bytes) running.dialling (work_of running) left ≡ taken_part number bytes unit (work_of running) left
event_takes running number bytes unit left hears =
    whole_comes running.dialling number hears.said bytes hears.frames unit (work_of running) left hears.on hears.rest hears.none hears.heard

-- ---- what is done when the next turn starts: logons are kept, and actions come behind

record IsDone (before after : Work) : Type 0 where
  asked : after.logons.asked ≡ before.logons.asked
  grows : Grows before.actions after.actions

next_done : (now : ℕ) (before : Work) → KeepsNext now (λ how w left. IsDone before w) (λ how w left. IsDone before w)
next_done now before = record {
  still = λ how w left can done. done;
  starts = λ turn frames challenge how w old left can drawn answer done. record {
    asked = done.asked;
    grows = grows_then before.actions w.actions (dialling_at w (timestamp_of now) challenge).actions done.grows (told w.actions _);
  };
}

-- ---- the outcome of the logon of an answer

-- the outcome is told, and the logon of the place is kept no more
pub record TellsAnswer (running : Running) (place : ℕ) (logon : Logon) (verdict : Verdict) (part : Part DialWork) : Type 0 where
  pub told : OneOf (λ (what : Action). what ≡ action.Told logon.link (outcome_of (ending_of verdict) logon)) part.value.0.actions
  pub asked : part.value.0.logons.asked ≡ take_out same_number place running.logons.asked

-- behind the outcome, which is told first
ended : (place : ℕ) (how : Ending) (logon : Logon) (w : Work) → lookup same_number place w.logons.asked ≡ Some logon →
    OneOf (λ (what : Action). what ≡ action.Told logon.link (outcome_of how logon)) (end_logon place how w).actions
ended place how logon w kept =
    let tells : Action → Type 0 = λ (what : Action). what ≡ action.Told logon.link (outcome_of how logon) in
    let grows = outcome_told place how w logon kept in
    subst (λ (actions : List Action). OneOf tells actions) (sym grows.is)
    (one_before tells (tell_outcome how logon w).actions grows.more (one_last tells w.actions (action.Told logon.link (outcome_of how logon)) refl))

pub answer_tells : (running : Running) (number : ℕ) (bytes : List ℕ) (unit : RpcUnit) (now : ℕ) (left : List (List ℕ)) (part : Part DialWork) (place : ℕ) (verdict : Verdict) (logon : Logon) →
    HearsWhole running number bytes unit → event_part running (event.Bytes number bytes) now left ≡ Ok part →
    (take_of running.logons.channel unit).taken ≡ taken.Answer place verdict → lookup same_number place running.logons.asked ≡ Some logon → TellsAnswer running place logon verdict part
answer_tells running number bytes unit now left part place verdict logon hears is answers there =
    let w : Work = work_of running in
    let taking : Taking = take_of running.logons.channel unit in
    let at : AtTurn = with_work (at_turn number w) (with_requester w taking.state) in
    let closed : Work = tell_at at.work (action.Close number close.CallDone) in
    let after : Work = end_logon place (ending_of verdict) closed in
    let mid : Work = (take_by taking None (at_turn number w)).0.work in
    let taken_work : mid ≡ after = ap (λ (t : Taken). (do_taken t None at).0.work) answers in
    let holds : PartHolds (λ how w left. IsDone mid w) (Ok part) =
    subst (PartHolds (λ how w left. IsDone mid w)) (ap (λ (p : Result (Part DialWork) StepRefused). then_part p (next_turn now)) (sym (event_takes running number bytes unit left hears)) ∙ is)
    (next_follows now (λ how w left. IsDone mid w) (λ how w left. IsDone mid w) (next_done now mid) (taken_part number bytes unit w left)
    (record { asked = refl; grows = grows_not mid.actions })) in
    let tells : Action → Type 0 = λ (what : Action). what ≡ action.Told logon.link (outcome_of (ending_of verdict) logon) in
    record {
      told = subst (λ (actions : List Action). OneOf tells actions) (sym holds.grows.is)
          (one_before tells mid.actions holds.grows.more
          (subst (λ (x : Work). OneOf tells x.actions) (sym taken_work) (ended place (ending_of verdict) logon closed there)));
      asked = holds.asked ∙ ap (λ (x : Work). x.logons.asked) taken_work ∙ ap (λ (l : Logons). l.asked) (logon_ended place (ending_of verdict) closed).logons;
    }

-- ---- the other logons have other places

others_differ : (place : ℕ) (asked : List (ℕ × Logon)) → AllByRecursion (λ (later : Waiting). place ≢ later.place) (map waiting_for asked) → OfEach (λ (other : ℕ) (logon : Logon). other ≢ place) asked
others_differ place [] apart = tt
others_differ place (entry ∷ asked) apart = ((λ is. apart.0 (sym is)), others_differ place asked apart.1)

out_differ_if : (hit : Bool) (place : ℕ) (entry : ℕ × Logon) (asked rest : List (ℕ × Logon)) → (place == entry.0) ≡ hit → AllByRecursion (λ (later : Waiting). entry.0 ≢ later.place) (map waiting_for asked) →
    OfEach (λ (other : ℕ) (logon : Logon). other ≢ place) rest → OfEach (λ (other : ℕ) (logon : Logon). other ≢ place) (if hit then asked else entry ∷ rest)
out_differ_if true place entry asked rest is apart later =
    others_differ place asked (subst (λ (n : ℕ). AllByRecursion (λ (w : Waiting). n ≢ w.place) (map waiting_for asked)) (sym ((Decides-eqb place entry.0).0 is)) apart)
out_differ_if false place entry asked rest is apart later =
    ((λ same. let both : true ≡ false = sym ((Decides-eqb place entry.0).1 (sym same)) ∙ is in absurd (let x = both in cc)), later)

pub out_differ : (place : ℕ) (asked : List (ℕ × Logon)) → ArePlacesApart (map waiting_for asked) → OfEach (λ (other : ℕ) (logon : Logon). other ≢ place) (take_out same_number place asked)
out_differ place [] apart = tt
out_differ place (entry ∷ asked) apart =
    out_differ_if (has_key same_number place entry) place entry asked (take_out same_number place asked) refl apart.0 (out_differ place asked apart.1)
