-- The effect of each step, and what holds of a requester at every moment.
use Rattle.std.proofs.Common.{◌≡◌, ◌==◌, ◌&&◌, ◌++◌, ◌+◌, ◌%◌, ◌^◌, ◌<◌, ◌≤◌, ◌≢◌, ℕ, Bool, true, false, List, [], ◌∷◌, length, nat_le, Option, Some, None, Result, Ok, Err, refl, ap, sym, subst, ◌∙◌, bytes_eq, arith, length-append}
use Rattle.std.proofs.lemmas.Bool.{leb-false}
use Rattle.std.specs.List.{AllByRecursion}
use Rattle.ntlm_flags.specs.Flags.{has_flag}
use Rattle.channel_keys.specs.Flags.{rc4_flag}
use Rattle.wire_base.specs.declared.authenticator.Authenticator.{Authenticator}
use Rattle.authenticators.specs.SecureChannels.{SecureChannelState, fresh_channel, is_awaited, after_return, channel_of}
use Rattle.rpc_units.specs.declared.unit.Unit.{Unit as RpcUnit}
use Rattle.rpc_units.specs.declared.unit.Body.{Body}
use Rattle.rpc_units.specs.declared.unit.Body.TheVariants.{Bind, BindAck, BindNak, Auth3, Request, Response, Fault}
use Rattle.logon_stubs.specs.Calls.{reply_of}
use Rattle.logon_stubs.specs.Status.{access_denied}
use Rattle.logon_stubs.specs.declared.refused.StubRefused.{StubRefused}
use Rattle.logon_stubs.specs.declared.info.NetworkInfo.{NetworkInfo}
use Rattle.logon_stubs.specs.declared.info.SamInfo.{SamInfo}
use Rattle.logon_stubs.specs.declared.calls.Call.{Call}
use Rattle.logon_stubs.specs.declared.calls.Call.TheVariants as call
use Rattle.logon_stubs.specs.declared.calls.Reply.{Reply}
use Rattle.logon_stubs.specs.declared.calls.Reply.TheVariants as reply
use Rattle.secret_change.specs.Calls.{set_reply_of}
use Rattle.secret_change.specs.declared.calls.SetCall.{SetCall}
use Rattle.secret_change.specs.declared.calls.SetReply.{SetReply}
use Rattle.secret_change.specs.declared.refused.SetRefused.{SetRefused}
use Rattle.channel_client.specs.State.{Requester}
use Rattle.channel_client.specs.Machine.{SetOutcome, after, waiting_limit, level_asked, offered_flags, server_credential, question_of, opnum_asked, is_accepting, ask_by, start_by, hear_ack, hear_reply, hear_stub, hear_body, hear_by, hear, judge_challenge, judge_flags, judge_credential, judge_auth, judge_level, judge_status, judge_awaited, judge_return, judge_logon, judge, judge_set_awaited, judge_set_return, judge_set_status, judge_set, wait_for, later_logons, place_of, settle, settle_set, hear_set_reply, act}
use Rattle.channel_client.specs.Effects.{View, view_at, view_of, step_in, number_in, MatchesCall, MatchesQuestion, MatchesSet, MatchesStep, IsForFirst, first_place, AreInOrder, ArePlacesApart, IsCoherent, Changes, effect_start, effect_judged, effect_judged_set, effect_next, effect_heard, HasEffect, Stays, StepsHaveEffects}
use Rattle.channel_client.specs.declared.state.Standing.{Standing}
use Rattle.channel_client.specs.declared.state.Standing.TheVariants as standing
use Rattle.channel_client.specs.declared.state.Question.{Question}
use Rattle.channel_client.specs.declared.state.Question.TheVariants as question
use Rattle.channel_client.specs.declared.state.Step.{Step}
use Rattle.channel_client.specs.declared.state.Step.TheVariants as step
use Rattle.channel_client.specs.declared.state.SetStep.TheVariants as set_step
use Rattle.channel_client.specs.declared.state.Pending.{Pending}
use Rattle.channel_client.specs.declared.state.Waiting.{Waiting}
use Rattle.channel_client.specs.declared.hearing.Hearing.{Hearing}
use Rattle.channel_client.specs.declared.hearing.Hearing.TheVariants as hearing
use Rattle.channel_client.specs.declared.hearing.SetHearing.TheVariants as set_hearing
use Rattle.channel_client.specs.declared.judging.Judgement.{Judgement}
use Rattle.channel_client.specs.declared.judging.Judgement.TheVariants as judgement

-- ---- the logons that wait

first_more : (turn : Option Pending) (logons : List Waiting) (logon : Waiting) → IsForFirst turn logons → IsForFirst turn (logons ++ logon ∷ [])
first_more None logons logon is = tt
first_more (Some p) [] logon is = absurd is
first_more (Some p) (first ∷ logons) logon is = is

places_more : (logons : List Waiting) (next : ℕ) (info : NetworkInfo) → AreInOrder logons next → AreInOrder (logons ++ record { place = next; info = info } ∷ []) (after next)
places_more [] next info are = (refl, tt)
places_more (logon ∷ []) next info are = (are.0, (refl, tt))
places_more (logon ∷ other ∷ logons) next info are = (are.0, places_more (other ∷ logons) next info are.1)

few_more : (logons : List Waiting) (logon : Waiting) → nat_le waiting_limit (length logons) ≡ false → length (logons ++ logon ∷ []) ≤ waiting_limit
few_more logons logon room =
    let below : length logons < waiting_limit = leb-false waiting_limit (length logons) room in
    let both = length-append logons (logon ∷ []) in
    omega (arith, below, both)

places_later : (logons : List Waiting) (next : ℕ) → AreInOrder logons next → AreInOrder (later_logons logons) next
places_later [] next are = tt
places_later (logon ∷ logons) next are = are.1

few_later : (logons : List Waiting) → length logons ≤ waiting_limit → length (later_logons logons) ≤ waiting_limit
few_later [] few = few
few_later (logon ∷ logons) few = omega (arith, few)

-- a turn that goes on with a question is for the first logon, as it was
first_kept : (turn : Option Pending) (logons : List Waiting) (number : ℕ) (q : Question) (st : Step) → step_in turn ≡ Some st → IsForFirst turn logons →
    IsForFirst (Some (record { number = number; place = place_of turn; step = step.Reply q })) logons
first_kept None logons number q st out is = absurd cc
first_kept (Some p) [] number q st out is = absurd is
first_kept (Some p) (logon ∷ logons) number q st out is = (is.0, tt)

-- a turn that goes on to set a secret is for the first logon, as it was
first_set : (turn : Option Pending) (logons : List Waiting) (number : ℕ) (st : Step) → step_in turn ≡ Some st → IsForFirst turn logons →
    IsForFirst (Some (record { number = number; place = place_of turn; step = step.Set set_step.Reply })) logons
first_set None logons number st out is = absurd cc
first_set (Some p) [] number st out is = absurd is
first_set (Some p) (logon ∷ logons) number st out is = (is.0, tt)

-- ---- places

differ : (place count : ℕ) → 1 ≤ count → count < 2 ^ 32 → place ≡ (place + count) % 2 ^ 32 → ⊥
differ place count some few same = omega (arith, some, few, same)

after_more : (place count : ℕ) → after ((place + count) % 2 ^ 32) ≡ (place + (count + 1)) % 2 ^ 32
after_more place count = omega arith

-- logons whose first place is `count` behind `place`
apart_from : (place count : ℕ) (logons : List Waiting) (next : ℕ) → first_place logons next ≡ (place + count) % 2 ^ 32 → AreInOrder logons next →
    1 ≤ count → count + length logons ≤ 2 ^ 32 → AllByRecursion (λ later. place ≢ later.place) logons
apart_from place count [] next is are some few = tt
apart_from place count (logon ∷ logons) next is are some few = (
  (λ same. differ place count some (omega (arith, few)) (same ∙ is)),
  apart_from place (count + 1) logons next (are.0 ∙ ap after is ∙ after_more place count) are.1 (omega arith) (omega (arith, few)),
)

places_apart : (logons : List Waiting) (next : ℕ) → AreInOrder logons next → length logons ≤ waiting_limit → ArePlacesApart logons
places_apart [] next are few = tt
places_apart (logon ∷ logons) next are few =
    (apart_from logon.place 1 logons next are.0 are.1 (omega arith) (omega (arith, few)), places_apart logons next are.1 (omega (arith, few)))

-- ---- asking

asking : (controller : ℕ) (full : Bool) (s : Requester) (info : NetworkInfo) → nat_le waiting_limit (length s.waiting) ≡ full → IsCoherent s →
    HasEffect controller Stays s (ask_by full s info).state
asking controller true s info is c = (refl, c)
asking controller false s info is c = (
  refl,
  record {
    matches = c.matches;
    first = first_more s.turn s.waiting _ c.first;
    places = places_more s.waiting s.next_place _ c.places;
    few = few_more s.waiting _ is;
  },
)

-- ---- starting

abbrev pub with_parts : Requester → Standing → List Waiting → Option Pending → Option (List ℕ) → Requester
with_parts s how logons turn next = record s { standing = how; waiting = logons; turn = turn; next = next }

starting : (controller : ℕ) (s : Requester) (turn : Option Pending) (logons : List Waiting) (how : Standing) (next : Option (List ℕ)) (timestamp : ℕ) (challenge : List ℕ) →
    IsCoherent (with_parts s how logons turn next) →
    HasEffect controller (effect_start controller turn logons how s.caller.computer timestamp challenge) (with_parts s how logons turn next)
    (start_by turn logons (with_parts s how logons turn next) timestamp challenge).state
starting controller s (Some p) logons how next timestamp challenge c = (refl, c)
starting controller s None [] how next timestamp challenge c = (refl, c)
starting controller s None (logon ∷ logons) standing.Nothing next timestamp challenge c =
    ((refl, refl), record { matches = tt; first = (refl, tt); places = c.places; few = c.few })
starting controller s None (logon ∷ logons) (standing.Half client server) next timestamp challenge c =
    (refl, record { matches = tt; first = (refl, tt); places = c.places; few = c.few })
starting controller s None (logon ∷ logons) (standing.Open o) None timestamp challenge c =
    ((o.seed, refl, refl, refl, refl), record { matches = tt; first = (refl, refl); places = c.places; few = c.few })
starting controller s None (logon ∷ logons) (standing.Open o) (Some next) timestamp challenge c =
    ((o.seed, refl, refl, refl, refl), record { matches = tt; first = (refl, tt); places = c.places; few = c.few })

-- ---- a judgement fits how far the channel was, and what was asked

abbrev pub Fits : Judgement → Standing → Question → Type 0
Fits (judgement.Half client server) how q = (how ≡ standing.Nothing) × (q ≡ question.Challenge client)
Fits (judgement.Opened o) how q = (how ≡ standing.Half o.client o.server) × (o ≡ fresh_channel o.secret o.client o.server o.flags)
Fits (judgement.Answer o v) how q = (p : SecureChannelState) × (how ≡ standing.Open p) × (o ≡ after_return true p)
Fits (judgement.Drop cause) how q = Unit {0}

pub fits_challenge : (granted : Bool) (client server : List ℕ) → Fits (judge_challenge granted client server) standing.Nothing (question.Challenge client)
fits_challenge false client server = tt
fits_challenge true client server = (refl, refl)

fits_flags : (enough : Bool) (secret client server : List ℕ) → Fits (judge_flags enough secret client server) (standing.Half client server) question.Authenticate
fits_flags false secret client server = tt
fits_flags true secret client server = (refl, refl)

fits_credential : (right : Bool) (secret client server : List ℕ) (flags : ℕ) → Fits (judge_credential right secret client server flags) (standing.Half client server) question.Authenticate
fits_credential false secret client server flags = tt
fits_credential true secret client server flags = fits_flags (has_flag offered_flags flags && has_flag flags rc4_flag) secret client server

fits_auth : (granted : Bool) (secret client server credential : List ℕ) (flags : ℕ) →
    Fits (judge_auth granted (standing.Half client server) secret credential flags) (standing.Half client server) question.Authenticate
fits_auth false secret client server credential flags = tt
fits_auth true secret client server credential flags =
    fits_credential (bytes_eq credential (server_credential secret client server)) secret client server flags

fits_level : (asked : Bool) (info : Option SamInfo) (p : SecureChannelState) → Fits (judge_level asked info (after_return true p)) (standing.Open p) question.Logon
fits_level false info p = tt
fits_level true None p = tt
fits_level true (Some info) p = (p, refl, refl)

fits_status : (granted : Bool) (status level : ℕ) (info : Option SamInfo) (p : SecureChannelState) → Fits (judge_status granted status level info (after_return true p)) (standing.Open p) question.Logon
fits_status false status level info p = (p, refl, refl)
fits_status true status level info p = fits_level (level == level_asked) info p

fits_awaited : (right : Bool) (status level : ℕ) (info : Option SamInfo) (p : SecureChannelState) → Fits (judge_awaited right status level info p) (standing.Open p) question.Logon
fits_awaited false status level info p = tt
fits_awaited true status level info p = fits_status (status == 0) status level info p

fits_return : (returned : Option Authenticator) (status level : ℕ) (info : Option SamInfo) (p : SecureChannelState) → Fits (judge_return returned status level info p) (standing.Open p) question.Logon
fits_return None status level info p = tt
fits_return (Some returned) status level info p = fits_awaited (is_awaited p.awaited returned.credential) status level info p

pub fits_logon : (denied : Bool) (returned : Option Authenticator) (status level : ℕ) (info : Option SamInfo) (p : SecureChannelState) →
    Fits (judge_logon denied (standing.Open p) returned status level info) (standing.Open p) question.Logon
fits_logon true returned status level info p = tt
fits_logon false returned status level info p = fits_return returned status level info p

pub fits : (q : Question) (r : Reply) (how : Standing) (secret : List ℕ) → MatchesQuestion how q → Fits (judge q r how secret) how q
fits (question.Challenge client) (reply.Challenge r) standing.Nothing secret m = fits_challenge (r.status == 0) client r.challenge
fits (question.Challenge client) (reply.Challenge r) (standing.Half c s) secret m = absurd m
fits (question.Challenge client) (reply.Challenge r) (standing.Open o) secret m = absurd m
fits (question.Challenge client) (reply.Authenticate r) how secret m = tt
fits (question.Challenge client) (reply.Logon r) how secret m = tt
fits (question.Challenge client) (reply.Logoff r) how secret m = tt
fits question.Authenticate (reply.Challenge r) how secret m = tt
fits question.Authenticate (reply.Authenticate r) standing.Nothing secret m = absurd m
fits question.Authenticate (reply.Authenticate r) (standing.Half c s) secret m = fits_auth (r.status == 0) secret c s r.credential r.flags
fits question.Authenticate (reply.Authenticate r) (standing.Open o) secret m = absurd m
fits question.Authenticate (reply.Logon r) how secret m = tt
fits question.Authenticate (reply.Logoff r) how secret m = tt
fits question.Logon (reply.Challenge r) how secret m = tt
fits question.Logon (reply.Authenticate r) how secret m = tt
fits question.Logon (reply.Logon r) standing.Nothing secret m = absurd m
fits question.Logon (reply.Logon r) (standing.Half c s) secret m = absurd m
fits question.Logon (reply.Logon r) (standing.Open p) secret m = fits_logon (r.status == access_denied) r.returned r.status r.level r.info p
fits question.Logon (reply.Logoff r) how secret m = tt

-- ---- what a judgement leaves

abbrev pub without_asking : View → View
without_asking v = record v { asking = None }

-- the effect, from what is seen while the turn waits for the reply to that question
abbrev pub Settles : ℕ → Judgement → Requester → Standing → ℕ → Question → Type 0
Settles controller j s how number q =
    Changes (effect_judged controller j s.caller.computer number) (view_at controller s.caller.computer how (Some (step.Reply q)) number s.next_call) (view_of controller (settle j s).state)

pub settling : (controller : ℕ) (j : Judgement) (s : Requester) (how : Standing) (number : ℕ) (q : Question) → Fits j how q → Settles controller j s how number q
settling controller (judgement.Half client server) s how number q h =
    sym (ap (λ x. view_at controller s.caller.computer x (Some (step.Reply q)) number s.next_call) h.0
    ∙ ap (λ x. view_at controller s.caller.computer standing.Nothing (Some (step.Reply x)) number s.next_call) h.1)
settling controller (judgement.Opened o) s how number q h = (
  ap (λ x. (view_at controller s.caller.computer x (Some (step.Reply q)) number s.next_call).opening) h.0,
  ap (λ (x : SecureChannelState). view_at controller s.caller.computer (standing.Open (record o { seed = x.seed })) None 0 s.next_call) h.1,
)
settling controller (judgement.Answer o v) s how number q h = (
  ap (λ x. (view_at controller s.caller.computer x (Some (step.Reply q)) number s.next_call).stands) h.1 ∙ ap (λ x. Some (channel_of controller s.caller.computer x)) (sym h.2),
  ap (λ x. (view_at controller s.caller.computer x (Some (step.Reply q)) number s.next_call).asking) h.1,
  ap (λ x. view_at controller s.caller.computer (standing.Open x) None 0 s.next_call) h.2
      ∙ sym (ap (λ x. without_asking (view_at controller s.caller.computer x (Some (step.Reply q)) number s.next_call)) h.1),
)
settling controller (judgement.Drop cause) s how number q h = refl

pub settled_coherent : (j : Judgement) (s : Requester) → IsCoherent s → IsCoherent (settle j s).state
settled_coherent (judgement.Half client server) s c = record { matches = tt; first = tt; places = c.places; few = c.few }
settled_coherent (judgement.Opened o) s c = record { matches = tt; first = tt; places = c.places; few = c.few }
settled_coherent (judgement.Answer o v) s c =
    record { matches = tt; first = tt; places = places_later s.waiting s.next_place c.places; few = few_later s.waiting c.few }
settled_coherent (judgement.Drop cause) s c =
    record { matches = tt; first = tt; places = places_later s.waiting s.next_place c.places; few = few_later s.waiting c.few }

-- ---- what a change leaves

abbrev pub FitsSet : SetOutcome → Standing → Type 0
FitsSet (Ok o) how = (p : SecureChannelState) × (how ≡ standing.Open p) × (o ≡ after_return true p)
FitsSet (Err cause) how = Unit {0}

fits_set_awaited : (right : Bool) (p : SecureChannelState) → FitsSet (judge_set_awaited right p) (standing.Open p)
fits_set_awaited false p = tt
fits_set_awaited true p = (p, refl, refl)

fits_set_return : (how : Standing) (returned : Authenticator) → FitsSet (judge_set_return how returned) how
fits_set_return standing.Nothing returned = tt
fits_set_return (standing.Half client server) returned = tt
fits_set_return (standing.Open p) returned = fits_set_awaited (is_awaited p.awaited returned.credential) p

fits_set : (granted : Bool) (how : Standing) (returned : Authenticator) → FitsSet (judge_set_status granted how returned) how
fits_set false how returned = tt
fits_set true how returned = fits_set_return how returned

abbrev pub SettlesSet : ℕ → SetOutcome → Requester → Standing → ℕ → Type 0
SettlesSet controller judged s how number =
    Changes (effect_judged_set controller judged s.caller.computer number) (view_at controller s.caller.computer how (Some (step.Set set_step.Reply)) number s.next_call)
    (view_of controller (settle_set judged s).state)

settling_set : (controller : ℕ) (judged : SetOutcome) (s : Requester) (how : Standing) (number : ℕ) → FitsSet judged how → SettlesSet controller judged s how number
settling_set controller (Ok o) s how number h = (
  ap (λ x. (view_at controller s.caller.computer x (Some (step.Set set_step.Reply)) number s.next_call).stands) h.1 ∙ ap (λ x. Some (channel_of controller s.caller.computer x)) (sym h.2),
  ap (λ x. (view_at controller s.caller.computer x (Some (step.Set set_step.Reply)) number s.next_call).asking) h.1,
  ap (λ x. view_at controller s.caller.computer (standing.Open x) None 0 s.next_call) h.2
      ∙ sym (ap (λ x. without_asking (view_at controller s.caller.computer x (Some (step.Set set_step.Reply)) number s.next_call)) h.1),
)
settling_set controller (Err cause) s how number h = refl

settled_set_coherent : (judged : SetOutcome) (s : Requester) → IsCoherent s → IsCoherent (settle_set judged s).state
settled_set_coherent (Ok o) s c = record { matches = tt; first = tt; places = c.places; few = c.few }
settled_set_coherent (Err cause) s c = settled_coherent (judgement.Drop cause) s c

-- ---- what a unit says fits the turn: a request goes only for the call that waits, and a reply is judged only for what
-- was asked

abbrev pub HeardFits : Hearing → Option Step → Type 0
HeardFits hearing.Skip turn = Unit {0}
HeardFits (hearing.Next q frames) turn = (c : Call) × (turn ≡ Some (step.Bind c)) × (q ≡ question_of c)
HeardFits (hearing.Reply q r) turn = turn ≡ Some (step.Reply q)
HeardFits (hearing.Drop cause) turn = Unit {0}
HeardFits (hearing.Set (set_hearing.Next frames)) turn = (c : SetCall) × (turn ≡ Some (step.Set (set_step.Bind c)))
HeardFits (hearing.Set (set_hearing.Reply r)) turn = turn ≡ Some (step.Set set_step.Reply)

pub ack_fits : (accepting : Bool) (st : Step) (receive next : ℕ) → HeardFits (hear_ack accepting st receive next) (Some st)
ack_fits false st receive next = tt
ack_fits true (step.Bind c) receive next = (c, refl, refl)
ack_fits true (step.Reply q) receive next = tt
ack_fits true (step.Set (set_step.Bind c)) receive next = (c, refl)
ack_fits true (step.Set set_step.Reply) receive next = tt

reply_fits : (q : Question) (read : Result Reply StubRefused) → HeardFits (hear_reply q read) (Some (step.Reply q))
reply_fits q (Err why) = tt
reply_fits q (Ok r) = refl

set_reply_fits : (read : Result SetReply SetRefused) → HeardFits (hear_set_reply read) (Some (step.Set set_step.Reply))
set_reply_fits (Err why) = tt
set_reply_fits (Ok r) = refl

pub stub_fits : (st : Step) (stub : List ℕ) → HeardFits (hear_stub st stub) (Some st)
stub_fits (step.Bind c) stub = tt
stub_fits (step.Reply q) stub = reply_fits q (reply_of (opnum_asked q) stub)
stub_fits (step.Set (set_step.Bind c)) stub = tt
stub_fits (step.Set set_step.Reply) stub = set_reply_fits (set_reply_of stub)

pub body_fits : (body : Body) (st : Step) (next : ℕ) → HeardFits (hear_body body st next) (Some st)
body_fits (BindNak reason) st next = tt
body_fits (BindAck send receive group results) st next = ack_fits (is_accepting results) st receive next
body_fits (Fault hint context status) st next = tt
body_fits (Response hint context stub) st next = stub_fits st stub
body_fits (Bind send receive group contexts) st next = tt
body_fits (Request hint context opnum stub) st next = tt
body_fits Auth3 st next = tt

numbered_fits : (numbered : Bool) (p : Pending) (unit : RpcUnit) (next : ℕ) → HeardFits (hear_by numbered p unit next) (Some p.step)
numbered_fits false p unit next = tt
numbered_fits true p unit next = body_fits unit.body p.step next

pub heard_fits : (turn : Option Pending) (unit : RpcUnit) (next : ℕ) → HeardFits (hear turn unit next) (step_in turn)
heard_fits None unit next = tt
heard_fits (Some p) unit next = numbered_fits (unit.call == p.number) p unit next

-- ---- a request that goes out

abbrev pub GoesAt : ℕ → List ℕ → Standing → Option Step → Question → ℕ → ℕ → Type 0
GoesAt controller computer how turn q number next =
    Changes (effect_next controller how computer next) (view_at controller computer how turn number next) (view_at controller computer how (Some (step.Reply q)) next (after next))
    × MatchesQuestion how q

going_at : (controller : ℕ) (computer : List ℕ) (how : Standing) (c : Call) (number next : ℕ) → MatchesCall how c →
    GoesAt controller computer how (Some (step.Bind c)) (question_of c) number next
going_at controller computer standing.Nothing (call.Challenge value) number next m = (refl, tt)
going_at controller computer standing.Nothing (call.Authenticate value) number next m = absurd m
going_at controller computer standing.Nothing (call.Logon value) number next m = absurd m
going_at controller computer standing.Nothing (call.Logoff value) number next m = absurd m
going_at controller computer (standing.Half client server) (call.Challenge value) number next m = absurd m
going_at controller computer (standing.Half client server) (call.Authenticate value) number next m = (refl, tt)
going_at controller computer (standing.Half client server) (call.Logon value) number next m = absurd m
going_at controller computer (standing.Half client server) (call.Logoff value) number next m = absurd m
going_at controller computer (standing.Open o) (call.Challenge value) number next m = absurd m
going_at controller computer (standing.Open o) (call.Authenticate value) number next m = absurd m
going_at controller computer (standing.Open o) (call.Logon value) number next m = ((refl, refl, refl, refl), tt)
going_at controller computer (standing.Open o) (call.Logoff value) number next m = absurd m

abbrev pub Goes : ℕ → Requester → Option Step → Question → Type 0
Goes controller s turn q = GoesAt controller s.caller.computer s.standing turn q (number_in s.turn) s.next_call

going : (controller : ℕ) (s : Requester) (turn : Option Step) (q : Question) (c : Call) → turn ≡ Some (step.Bind c) → q ≡ question_of c → MatchesStep s.standing turn → Goes controller s turn q
going controller s turn q c e f m =
    subst (λ x. Goes controller s x q) (sym e) (subst (λ x. Goes controller s (Some (step.Bind c)) x) (sym f)
    (going_at controller s.caller.computer s.standing c (number_in s.turn) s.next_call (subst (λ x. MatchesStep s.standing x) e m)))

-- ---- a turn that sets a secret

abbrev pub GoesSetAt : ℕ → List ℕ → Standing → Option Step → ℕ → ℕ → Type 0
GoesSetAt controller computer how turn number next =
    Changes (effect_next controller how computer next) (view_at controller computer how turn number next) (view_at controller computer how (Some (step.Set set_step.Reply)) next (after next))

going_set_at : (controller : ℕ) (computer : List ℕ) (how : Standing) (c : SetCall) (number next : ℕ) → MatchesSet how →
    GoesSetAt controller computer how (Some (step.Set (set_step.Bind c))) number next
going_set_at controller computer standing.Nothing c number next m = absurd m
going_set_at controller computer (standing.Half client server) c number next m = absurd m
going_set_at controller computer (standing.Open o) c number next m = (refl, refl, refl, refl)

abbrev pub GoesSet : ℕ → Requester → Option Step → Type 0
GoesSet controller s turn = GoesSetAt controller s.caller.computer s.standing turn (number_in s.turn) s.next_call × MatchesSet s.standing

going_set : (controller : ℕ) (s : Requester) (turn : Option Step) (c : SetCall) → turn ≡ Some (step.Set (set_step.Bind c)) → MatchesStep s.standing turn → GoesSet controller s turn
going_set controller s turn c e m =
    let matches : MatchesSet s.standing = subst (λ x. MatchesStep s.standing x) e m in
    subst (λ x. GoesSet controller s x) (sym e) (going_set_at controller s.caller.computer s.standing c (number_in s.turn) s.next_call matches, matches)

-- ---- a reply that is judged

abbrev pub Replies : ℕ → Requester → Option Step → Judgement → Type 0
Replies controller s turn j =
    Changes (effect_judged controller j s.caller.computer (number_in s.turn)) (view_at controller s.caller.computer s.standing turn (number_in s.turn) s.next_call) (view_of controller (settle j s).state)

replying : (controller : ℕ) (s : Requester) (turn : Option Step) (q : Question) (r : Reply) → turn ≡ Some (step.Reply q) → MatchesStep s.standing turn →
    Replies controller s turn (judge q r s.standing s.caller.secret)
replying controller s turn q r e m =
    subst (λ x. Replies controller s x (judge q r s.standing s.caller.secret)) (sym e)
    (settling controller (judge q r s.standing s.caller.secret) s s.standing (number_in s.turn) q (fits q r s.standing s.caller.secret (subst (λ x. MatchesStep s.standing x) e m)))

abbrev pub RepliesSet : ℕ → Requester → Option Step → SetOutcome → Type 0
RepliesSet controller s turn judged =
    Changes (effect_judged_set controller judged s.caller.computer (number_in s.turn)) (view_at controller s.caller.computer s.standing turn (number_in s.turn) s.next_call)
    (view_of controller (settle_set judged s).state)

replying_set : (controller : ℕ) (s : Requester) (turn : Option Step) (r : SetReply) → turn ≡ Some (step.Set set_step.Reply) → RepliesSet controller s turn (judge_set r s.standing)
replying_set controller s turn r e =
    subst (λ x. RepliesSet controller s x (judge_set r s.standing)) (sym e)
    (settling_set controller (judge_set r s.standing) s s.standing (number_in s.turn) (fits_set (r.status == 0) s.standing r.returned))

-- ---- the whole

going_coherent : (s : Requester) (q : Question) (c : Call) → step_in s.turn ≡ Some (step.Bind c) → MatchesQuestion s.standing q → IsCoherent s → IsCoherent (wait_for s (place_of s.turn) (step.Reply q))
going_coherent s q c out m is = record {
  matches = m;
  first = first_kept s.turn s.waiting s.next_call q (step.Bind c) out is.first;
  places = is.places;
  few = is.few;
}

going_set_coherent : (s : Requester) (c : SetCall) → step_in s.turn ≡ Some (step.Set (set_step.Bind c)) → MatchesSet s.standing → IsCoherent s →
    IsCoherent (wait_for s (place_of s.turn) (step.Set set_step.Reply))
going_set_coherent s c out m is = record {
  matches = m;
  first = first_set s.turn s.waiting s.next_call (step.Set (set_step.Bind c)) out is.first;
  places = is.places;
  few = is.few;
}

pub acting : (controller : ℕ) (heard : Hearing) (s : Requester) → HeardFits heard (step_in s.turn) → IsCoherent s →
    HasEffect controller (effect_heard controller heard s) s (act heard s).state
acting controller hearing.Skip s h c = (refl, c)
acting controller (hearing.Next q frames) s h c =
    let goes : Goes controller s (step_in s.turn) q = going controller s (step_in s.turn) q h.0 h.1 h.2 c.matches in
    (goes.0, going_coherent s q h.0 h.1 goes.1 c)
acting controller (hearing.Reply q r) s h c =
    (replying controller s (step_in s.turn) q r h c.matches, settled_coherent (judge q r s.standing s.caller.secret) s c)
acting controller (hearing.Drop cause) s h c = (refl, settled_coherent (judgement.Drop cause) s c)
acting controller (hearing.Set (set_hearing.Next frames)) s h c =
    let goes : GoesSet controller s (step_in s.turn) = going_set controller s (step_in s.turn) h.0 h.1 c.matches in
    (goes.0, going_set_coherent s h.0 h.1 goes.1 c)
acting controller (hearing.Set (set_hearing.Reply r)) s h c =
    (replying_set controller s (step_in s.turn) r h, settled_set_coherent (judge_set r s.standing) s c)

pub steps_have_effects : StepsHaveEffects
steps_have_effects = record {
  fresh = λ caller. record { matches = tt; first = tt; places = tt; few = omega arith };
  ask = λ controller s info c. asking controller (nat_le waiting_limit (length s.waiting)) s info refl c;
  start = λ controller s timestamp challenge c. starting controller s s.turn s.waiting s.standing s.next timestamp challenge c;
  take = λ controller s unit c. acting controller (hear s.turn unit s.next_call) s (heard_fits s.turn unit s.next_call) c;
  use_secret = λ controller s secret c. (refl, record { matches = c.matches; first = c.first; places = c.places; few = c.few });
  set_next = λ controller s next c. (refl, record { matches = c.matches; first = c.first; places = c.places; few = c.few });
  places = λ s c. places_apart s.waiting s.next_place c.places c.few;
  lose = λ controller s c. (refl, record { matches = tt; first = tt; places = places_later s.waiting s.next_place c.places; few = few_later s.waiting c.few });
}
