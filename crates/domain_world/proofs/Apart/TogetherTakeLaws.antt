-- What a requester and its controller have in common stays so through each step of the requester: a logon that is
-- asked, a turn that is lost, a unit that is taken, and a turn that starts.
-- It serves `Proved.never_apart`.
use Rattle.std.proofs.Common.{◌≡◌, ◌⊎◌, ℕ, ◌<◌, ◌≤◌, ◌==◌, Bool, true, false, List, [], ◌∷◌, ◌++◌, length, inl, inr, Option, Some, None, Result, Ok, Err, slice_get, refl, sym, ap, subst, ◌∙◌, arith, length-append}
use Rattle.std.specs.Prelude.{◌&&◌, bytes_eq}
use Rattle.std.proofs.lemmas.Bool.Decides.{Decides-eqb}
use Rattle.wire_base.specs.Names.{SameName}
use Rattle.wire_base.specs.declared.authenticator.Authenticator.{Authenticator}
use Rattle.authenticators.specs.Channels.{ChannelIdentity}
use Rattle.authenticators.specs.SecureChannels.{SecureChannelState, after_return, channel_of, is_awaited}
use Rattle.channel_keys.specs.Flags.{rc4_flag}
use Rattle.ntlm_flags.specs.Flags.{has_flag}
use Rattle.outside.specs.declared.action.DropCause.{DropCause}
use Rattle.rpc_units.specs.declared.unit.Body.{Body}
use Rattle.rpc_units.specs.declared.unit.Body.TheVariants.{Bind, BindAck, BindNak, Auth3, Request, Response, Fault}
use Rattle.rpc_units.specs.declared.unit.Unit.{Unit as RpcUnit}
use Rattle.logon_stubs.specs.Calls.{reply_of}
use Rattle.logon_stubs.specs.Status.{access_denied}
use Rattle.logon_stubs.specs.declared.calls.Reply.{Reply}
use Rattle.logon_stubs.specs.declared.calls.Reply.TheVariants as reply
use Rattle.logon_stubs.specs.declared.info.NetworkInfo.{NetworkInfo}
use Rattle.logon_stubs.specs.declared.info.SamInfo.{SamInfo}
use Rattle.logon_stubs.specs.declared.refused.StubRefused.{StubRefused}
use Rattle.secret_change.specs.Agreement.{Holds as HoldsSecret}
use Rattle.secret_change.specs.Calls.{set_reply_of}
use Rattle.secret_change.specs.Secrets.{SecretsState, confirmed_by, confirmed_of, denied_by, denied_of, next_of, opened_by, opened_by_test, opened_of, tried_of}
use Rattle.secret_change.specs.declared.calls.SetReply.{SetReply}
use Rattle.secret_change.specs.declared.refused.SetRefused.{SetRefused}
use Rattle.secret_change.specs.declared.secrets.Next.{Next}
use Rattle.channel_client.specs.Effects.{Counts, HasEffect, IsCoherent, Opens, View, effect_heard, effect_judged, effect_judged_set, effect_next, number_in, stands_in, step_in, view_of}
use Rattle.channel_client.specs.Machine.{SetOutcome, act, ask_by, ask_of, hear, hear_ack, hear_body, hear_by, hear_reply, hear_set_reply, hear_stub, is_accepting, judge, judge_auth, judge_awaited, judge_challenge, judge_credential, judge_flags, judge_level, judge_logon, judge_return, judge_set, judge_status, level_asked, lose_of, offered_flags, opnum_asked, server_credential, settle, settle_set, take_of}
use Rattle.channel_client.specs.State.{Requester}
use Rattle.channel_client.specs.declared.hearing.Hearing.{Hearing}
use Rattle.channel_client.specs.declared.hearing.Hearing.TheVariants as hearing
use Rattle.channel_client.specs.declared.hearing.SetHearing.TheVariants as set_hearing
use Rattle.channel_client.specs.declared.judging.Judgement.{Judgement}
use Rattle.channel_client.specs.declared.judging.Judgement.TheVariants as judgement
use Rattle.channel_client.specs.declared.state.Pending.{Pending}
use Rattle.channel_client.specs.declared.state.Question.{Question}
use Rattle.channel_client.specs.declared.state.Question.TheVariants as question
use Rattle.channel_client.specs.declared.state.SetStep.TheVariants as set_step
use Rattle.channel_client.specs.declared.state.Standing.{Standing}
use Rattle.channel_client.specs.declared.state.Standing.TheVariants as standing
use Rattle.channel_client.specs.declared.state.Step.{Step}
use Rattle.channel_client.specs.declared.state.Step.TheVariants as step
use Rattle.channel_client.proofs.EffectLaws.{steps_have_effects}
use Rattle.channel_turns.specs.declared.state.TurnEnd.{TurnEnd}
use Rattle.channel_turns.proofs.KeepLaws.{end_of}
use Rattle.channel_events.specs.AcceptedOrder.{Accepted, AreInOrder, IsAcceptedIn, IsOf}
use Rattle.channel_events.specs.Marks.{Calling, Mark, Opening, Opened, Plain, ReplyTo}
use Rattle.channel_events.specs.RequestSteps.{seen_if}
use Rattle.channel_events.specs.Requests.{CallsAreApart, IsAsked, Requests}
use Rattle.channel_events.specs.SecretOrder.{AreTogether, IsIn, OpensNoMore, Sides}
use Rattle.wire_base.proofs.ListLaws.{at_end, got_append, got_last, no_some, some_is}
use Rattle.channel_events.proofs.SecretOrderLaws.{stay_together}
use Rattle.member_server.specs.Secrets.{is_denied, secrets_after, secrets_dropped}
use Rattle.member_server.specs.Trying.{IsOpenedBy, TriesSecrets}
use Rattle.step_notes.specs.ChannelNames.{passed_note}
use Rattle.step_notes.specs.EffectNotes.{IsNotedBy, opening_out_of}
use Rattle.step_notes.specs.MemberNotes.{TurnNote, asked_note, no_note, request_note, taking_note}
use Rattle.step_notes.proofs.Channels.EffectNoteLaws.{steps_are_noted}
use Rattle.domain_world.specs.Accepting.SeenSteps.{IfPlaced, IsPlaced, Placed}
use Rattle.domain_world.proofs.Calls.LooserLaws.{calls_before, placed_as}
use Rattle.domain_world.proofs.Calls.StepApartLaws.{seen_with}

-- ---- secrets that stay held

-- the secrets behind a unit, by how the turn ends, if it does
abbrev pub secrets_by : Option TurnEnd → SecretsState → SecretsState
secrets_by None s = s
secrets_by (Some how) s = secrets_after how s

denied_by_next : (next : Option Next) (current secret : List ℕ) → HoldsSecret secret (record { current = current; next = next }) →
    HoldsSecret secret (denied_by next (record { current = current; next = next }))
denied_by_next None current secret holds = holds
denied_by_next (Some n) current secret holds = holds

pub denied_holds : (s : SecretsState) (secret : List ℕ) → HoldsSecret secret s → HoldsSecret secret (denied_of s)
denied_holds s secret holds = denied_by_next s.next s.current secret holds

pub dropped_holds : (denied : Bool) (s : SecretsState) (secret : List ℕ) → HoldsSecret secret s → HoldsSecret secret (secrets_dropped denied s)
dropped_holds false s secret holds = holds
dropped_holds true s secret holds = denied_holds s secret holds

opened_test : (tried : Bool) (secret current hash : List ℕ) → tried_of (record { current = current; next = Some (record { secret = secret; is_tried = tried }) }) ≡ hash →
    HoldsSecret hash (opened_by_test tried secret (record { current = current; next = Some (record { secret = secret; is_tried = tried }) }))
opened_test true secret current hash is = inl (sym is)
opened_test false secret current hash is = inl (sym is)

opened_by_next : (next : Option Next) (current hash : List ℕ) → tried_of (record { current = current; next = next }) ≡ hash →
    HoldsSecret hash (opened_by next (record { current = current; next = next }))
opened_by_next None current hash is = inl (sym is)
opened_by_next (Some n) current hash is = opened_test n.is_tried n.secret current hash is

opened_holds : (s : SecretsState) (hash : List ℕ) → tried_of s ≡ hash → HoldsSecret hash (opened_of s)
opened_holds s hash is = opened_by_next s.next s.current hash is

confirmed_by_next : (next : Option Next) (current hash : List ℕ) → next_of (record { current = current; next = next }) ≡ Some hash →
    HoldsSecret hash (confirmed_by next (record { current = current; next = next }))
confirmed_by_next None current hash is = absurd (no_some hash is)
confirmed_by_next (Some n) current hash is = inl (sym (some_is n.secret hash is))

confirmed_holds : (s : SecretsState) (hash : List ℕ) → next_of s ≡ Some hash → HoldsSecret hash (confirmed_of s)
confirmed_holds s hash is = confirmed_by_next s.next s.current hash is

-- ---- a requester among those that are seen

-- the requester, its computer and its controller, what was accepted, and what the controller has; what the requester
-- has is said apart
pub record Basis : Type 0 where
  pub views : ℕ → Option View
  pub who : ℕ
  pub controller : ℕ
  pub computer : List ℕ
  pub accepted : List Accepted
  pub sides : Sides

abbrev pub with_held : Basis → SecretsState → Option ℕ → Sides
with_held b secrets out = record b.sides { held = secrets; out = out }

-- of a requester that is seen so, with these marks
abbrev pub TogetherAs : Basis → View → List Mark → SecretsState → Option ℕ → Type 0
TogetherAs b v marks secrets out = AreTogether (seen_with b.views b.who v marks [] 0) b.who b.controller b.computer b.accepted (with_held b secrets out)

-- the call that is out sets a secret: it is the one that the requester holds to be out, if it was written down
abbrev pub WaitsBy : Option Step → ℕ → Option ChannelIdentity → List Mark → Option ℕ → Type 0
WaitsBy None number stands marks out = out ≡ None
WaitsBy (Some (step.Bind c)) number stands marks out = out ≡ None
WaitsBy (Some (step.Reply q)) number stands marks out = out ≡ None
WaitsBy (Some (step.Set (set_step.Bind c))) number stands marks out = out ≡ None
WaitsBy (Some (step.Set set_step.Reply)) number stands marks out =
    (unit timestamp : ℕ) (c : ChannelIdentity) → stands ≡ Some c → slice_get marks unit ≡ Some (Calling c number timestamp) → out ≡ Some unit

abbrev pub Waits : ℕ → List Mark → Requester → Option ℕ → Type 0
Waits controller marks c out = WaitsBy (step_in c.turn) (number_in c.turn) (stands_in controller c.caller.computer c.standing) marks out

-- a requester with its secrets
pub record Ties (b : Basis) (marks : List Mark) (c : Requester) (secrets : SecretsState) : Type 0 where
  pub coherent : IsCoherent c
  pub out : Option ℕ
  pub waits : Waits b.controller marks c out
  pub together : TogetherAs b (view_of b.controller c) marks secrets out

-- each call among these marks was one among those
abbrev pub CallsWere : List Mark → List Mark → Type 0
CallsWere later marks =
    (unit number timestamp : ℕ) (c : ChannelIdentity) → slice_get later unit ≡ Some (Calling c number timestamp) → slice_get marks unit ≡ Some (Calling c number timestamp)

pub waits_on : (st : Option Step) (number : ℕ) (stands : Option ChannelIdentity) (marks later : List Mark) (out : Option ℕ) → CallsWere later marks → WaitsBy st number stands marks out →
    WaitsBy st number stands later out
waits_on None number stands marks later out were waits = waits
waits_on (Some (step.Bind c)) number stands marks later out were waits = waits
waits_on (Some (step.Reply q)) number stands marks later out were waits = waits
waits_on (Some (step.Set (set_step.Bind c))) number stands marks later out were waits = waits
waits_on (Some (step.Set set_step.Reply)) number stands marks later out were waits =
    λ unit timestamp c is there. waits unit timestamp c is (were unit number timestamp c there)

module _ (b : Basis) where
  -- ---- how it is seen

  pub own_seen : (v : View) → seen_if (b.who == b.who) v (b.views b.who) ≡ Some v
  own_seen v = ap (λ (hit : Bool). seen_if hit v (b.views b.who)) ((Decides-eqb b.who b.who).1 refl)

  pub seen_own : (v w : View) → seen_if (b.who == b.who) v (b.views b.who) ≡ Some w → v ≡ w
  seen_own v w at = some_is v w (sym (own_seen v) ∙ at)

  -- what was drawn, and how many numbers were used, doesn't matter
  pub with_drawn : (v : View) (marks : List Mark) (drawn : List (List ℕ)) (uses : ℕ) (secrets : SecretsState) (out : Option ℕ) → TogetherAs b v marks secrets out →
      AreTogether (seen_with b.views b.who v marks drawn uses) b.who b.controller b.computer b.accepted (with_held b secrets out)
  with_drawn v marks drawn uses secrets out t =
      record { among = t.among; kept = t.kept; taken = t.taken; sets = t.sets; opens = t.opens; asked = t.asked }

  pub without_drawn : (v : View) (marks : List Mark) (drawn : List (List ℕ)) (uses : ℕ) (secrets : SecretsState) (out : Option ℕ) →
      AreTogether (seen_with b.views b.who v marks drawn uses) b.who b.controller b.computer b.accepted (with_held b secrets out) → TogetherAs b v marks secrets out
  without_drawn v marks drawn uses secrets out t =
      record { among = t.among; kept = t.kept; taken = t.taken; sets = t.sets; opens = t.opens; asked = t.asked }

  -- with marks of which each call was one before
  pub fewer_calls : (v : View) (marks later : List Mark) (secrets : SecretsState) (out : Option ℕ) → CallsWere later marks → TogetherAs b v marks secrets out → TogetherAs b v later secrets out
  fewer_calls v marks later secrets out were t = record {
    among = t.among;
    kept = t.kept;
    taken = t.taken;
    sets = λ unit number timestamp c kept secret there. t.sets unit number timestamp c kept secret (were unit number timestamp c there);
    opens = t.opens;
    asked = t.asked;
  }

  -- the requester opens no channel that it didn't open before
  pub no_more : (u v : View) → ((challenge : List ℕ) → v.opening ≡ Some challenge → u.opening ≡ Some challenge) →
      OpensNoMore (λ j. seen_if (j == b.who) u (b.views j)) (λ j. seen_if (j == b.who) v (b.views j)) b.who
  no_more u v less w challenge at opening = (u, own_seen u, less challenge (ap (λ (x : View). x.opening) (seen_own v w at) ∙ opening))

  pub goes_on : (u v : View) (marks : List Mark) (secrets later : SecretsState) (out after : Option ℕ) → ((challenge : List ℕ) → v.opening ≡ Some challenge → u.opening ≡ Some challenge) →
      ((secret : List ℕ) → HoldsSecret secret secrets → HoldsSecret secret later) →
      ((unit : ℕ) → after ≡ Some unit → (out ≡ Some unit) × (next_of later ≡ next_of secrets)) → TogetherAs b u marks secrets out → TogetherAs b v marks later after
  goes_on u v marks secrets later out after less keeps still together =
      (stay_together ℕ).goes_on (seen_with b.views b.who u marks [] 0) b.who b.controller b.computer b.accepted (with_held b secrets out) (λ j. seen_if (j == b.who) v (b.views j)) later after
      (no_more u v less) keeps still together

  -- no call is out then
  pub goes_without : (u v : View) (marks : List Mark) (secrets later : SecretsState) (out : Option ℕ) → ((challenge : List ℕ) → v.opening ≡ Some challenge → u.opening ≡ Some challenge) →
      ((secret : List ℕ) → HoldsSecret secret secrets → HoldsSecret secret later) → TogetherAs b u marks secrets out → TogetherAs b v marks later None
  goes_without u v marks secrets later out less keeps together =
      goes_on u v marks secrets later out None less keeps (λ unit is. absurd (no_some unit is)) together

  -- ---- a logon is asked, the turn is lost

  asked_by : (full : Bool) (marks : List Mark) (c : Requester) (info : NetworkInfo) (secrets : SecretsState) → IsCoherent (ask_by full c info).state → Ties b marks c secrets →
      Ties b marks (ask_by full c info).state secrets
  asked_by true marks c info secrets coherent ties = ties
  asked_by false marks c info secrets coherent ties = record { coherent = coherent; out = ties.out; waits = ties.waits; together = ties.together }

  pub asks : (marks : List Mark) (c : Requester) (info : NetworkInfo) (secrets : SecretsState) → Ties b marks c secrets → Ties b marks (ask_of c info).state secrets
  asks marks c info secrets ties = asked_by _ marks c info secrets (steps_have_effects.ask b.controller c info ties.coherent).1 ties

  pub loses : (marks : List Mark) (c : Requester) (secrets later : SecretsState) → ((secret : List ℕ) → HoldsSecret secret secrets → HoldsSecret secret later) → Ties b marks c secrets →
      Ties b marks (lose_of c).state later
  loses marks c secrets later keeps ties = record {
    coherent = (steps_have_effects.lose b.controller c ties.coherent).1;
    out = None;
    waits = refl;
    together = goes_without (view_of b.controller c) (view_of b.controller (lose_of c).state) marks secrets later ties.out (λ challenge is. absurd (no_some challenge is)) keeps ties.together;
  }

  -- ---- marks that aren't calls

  -- with others behind
  pub marked : (marks later : List Mark) (c : Requester) (secrets : SecretsState) → CallsWere later marks → Ties b marks c secrets → Ties b later c secrets
  marked marks later c secrets were ties = record {
    coherent = ties.coherent;
    out = ties.out;
    waits = waits_on (step_in c.turn) (number_in c.turn) (stands_in b.controller c.caller.computer c.standing) marks later ties.out were ties.waits;
    together = fewer_calls (view_of b.controller c) marks later secrets ties.out were ties.together;
  }

-- ---- marks of which none is a call

abbrev pub IsNoCalling : Mark → Type 0
IsNoCalling (Calling c number timestamp) = ⊥
IsNoCalling _ = Unit {0}

opening_placed : (marks more : List Mark) (c : ChannelIdentity) (number : ℕ) (is : IsPlaced more (Opening c number)) → CallsWere (marks ++ more) marks
opening_placed marks more c number is unit other timestamp d there =
    calls_before marks is.front is.before unit other timestamp d
    (elim (at_end (marks ++ is.front) (Opening c number) (Calling d other timestamp) unit
    (calls_before ((marks ++ is.front) ++ Opening c number ∷ []) is.rest is.behind unit other timestamp d
    (subst (λ (all : List Mark). slice_get all unit ≡ Some (Calling d other timestamp)) (sym (placed_as marks more (Opening c number) is)) there))) [
      | inl old ↦ old
      | inr new ↦ absurd (let never = new.1 in cc)
    ])

if_placed : (marks more : List Mark) (mark : Mark) → IsNoCalling mark → IfPlaced mark more → CallsWere (marks ++ more) marks
if_placed marks more Plain none placed = calls_before marks more placed
if_placed marks more (Opening c number) none placed = elim placed [
  | inl nothing ↦ calls_before marks more nothing
  | inr is ↦ opening_placed marks more c number is
]
if_placed marks more (Opened c number request) none placed = calls_before marks more placed
if_placed marks more (Calling c number timestamp) none placed = absurd none
if_placed marks more (ReplyTo c number request) none placed = calls_before marks more placed

placed_calls : (sends : Bool) (marks more : List Mark) (mark : Mark) → IsNoCalling mark → Placed sends mark more → CallsWere (marks ++ more) marks
placed_calls false marks more mark none placed = calls_before marks more placed
placed_calls true marks more mark none placed = if_placed marks more mark none placed

-- by what is written down
pub noted_calls : (note other : TurnNote) (marks more : List Mark) → note ≡ other → IsNoCalling other.mark → Placed note.sends note.mark more → CallsWere (marks ++ more) marks
noted_calls note other marks more is none placed =
    placed_calls other.sends marks more other.mark none (subst (λ (n : TurnNote). Placed n.sends n.mark more) is placed)

-- ---- a channel that opens, opens under the caller's secret

abbrev IsHalfWay : Standing → Type 0
IsHalfWay (standing.Half client server) = Unit {0}
IsHalfWay _ = ⊥

abbrev OpensBy : Standing → List ℕ → Judgement → Type 0
OpensBy how secret (judgement.Opened o) = IsHalfWay how × (o.secret ≡ secret)
OpensBy how secret _ = Unit {0}

flags_open : (fit : Bool) (how : Standing) (secret client server : List ℕ) → IsHalfWay how → OpensBy how secret (judge_flags fit secret client server)
flags_open false how secret client server half = tt
flags_open true how secret client server half = (half, refl)

credential_open : (servers : Bool) (how : Standing) (secret client server : List ℕ) (flags : ℕ) → IsHalfWay how → OpensBy how secret (judge_credential servers secret client server flags)
credential_open false how secret client server flags half = tt
credential_open true how secret client server flags half =
    flags_open (has_flag offered_flags flags && has_flag flags rc4_flag) how secret client server half

auth_open : (ok : Bool) (how : Standing) (secret credential : List ℕ) (flags : ℕ) → OpensBy how secret (judge_auth ok how secret credential flags)
auth_open false how secret credential flags = tt
auth_open true standing.Nothing secret credential flags = tt
auth_open true (standing.Half client server) secret credential flags =
    credential_open (bytes_eq credential (server_credential secret client server)) (standing.Half client server) secret client server flags tt
auth_open true (standing.Open o) secret credential flags = tt

challenge_open : (ok : Bool) (how : Standing) (secret client server : List ℕ) → OpensBy how secret (judge_challenge ok client server)
challenge_open false how secret client server = tt
challenge_open true how secret client server = tt

level_open : (asked : Bool) (how : Standing) (secret : List ℕ) (info : Option SamInfo) (o : SecureChannelState) → OpensBy how secret (judge_level asked info o)
level_open false how secret info o = tt
level_open true how secret None o = tt
level_open true how secret (Some info) o = tt

status_open : (ok : Bool) (how : Standing) (secret : List ℕ) (status level : ℕ) (info : Option SamInfo) (o : SecureChannelState) → OpensBy how secret (judge_status ok status level info o)
status_open false how secret status level info o = tt
status_open true how secret status level info o = level_open (level == level_asked) how secret info o

awaited_open : (awaited : Bool) (how : Standing) (secret : List ℕ) (status level : ℕ) (info : Option SamInfo) (o : SecureChannelState) → OpensBy how secret (judge_awaited awaited status level info o)
awaited_open false how secret status level info o = tt
awaited_open true how secret status level info o = status_open (status == 0) how secret status level info (after_return true o)

return_open : (returned : Option Authenticator) (how : Standing) (secret : List ℕ) (status level : ℕ) (info : Option SamInfo) (o : SecureChannelState) →
    OpensBy how secret (judge_return returned status level info o)
return_open None how secret status level info o = tt
return_open (Some returned) how secret status level info o = awaited_open (is_awaited o.awaited returned.credential) how secret status level info o

logon_open : (denied : Bool) (how : Standing) (secret : List ℕ) (returned : Option Authenticator) (status level : ℕ) (info : Option SamInfo) →
    OpensBy how secret (judge_logon denied how returned status level info)
logon_open true how secret returned status level info = tt
logon_open false standing.Nothing secret returned status level info = tt
logon_open false (standing.Half client server) secret returned status level info = tt
logon_open false (standing.Open o) secret returned status level info = return_open returned (standing.Open o) secret status level info o

judged_open : (q : Question) (r : Reply) (how : Standing) (secret : List ℕ) → OpensBy how secret (judge q r how secret)
judged_open (question.Challenge client) (reply.Challenge r) how secret = challenge_open (r.status == 0) how secret client r.challenge
judged_open (question.Challenge client) (reply.Authenticate r) how secret = tt
judged_open (question.Challenge client) (reply.Logon r) how secret = tt
judged_open (question.Challenge client) (reply.Logoff r) how secret = tt
judged_open question.Authenticate (reply.Authenticate r) how secret = auth_open (r.status == 0) how secret r.credential r.flags
judged_open question.Authenticate (reply.Challenge r) how secret = tt
judged_open question.Authenticate (reply.Logon r) how secret = tt
judged_open question.Authenticate (reply.Logoff r) how secret = tt
judged_open question.Logon (reply.Logon r) how secret = logon_open (r.status == access_denied) how secret r.returned r.status r.level r.info
judged_open question.Logon (reply.Challenge r) how secret = tt
judged_open question.Logon (reply.Authenticate r) how secret = tt
judged_open question.Logon (reply.Logoff r) how secret = tt

half_tried : (how : Standing) (turn : Option Pending) (secret tried : List ℕ) → IsHalfWay how → IsOpenedBy how turn secret tried → secret ≡ tried
half_tried standing.Nothing turn secret tried half opens = absurd half
half_tried (standing.Half client server) turn secret tried half opens = opens
half_tried (standing.Open o) turn secret tried half opens = absurd half

-- ---- the reply to a call that sets a secret is heard where a call that sets one is out

abbrev pub IsSetReply : Option Step → Type 0
IsSetReply (Some (step.Set set_step.Reply)) = Unit {0}
IsSetReply _ = ⊥

abbrev pub FitsSet : Hearing → Option Step → Type 0
FitsSet (hearing.Set (set_hearing.Reply r)) st = IsSetReply st
FitsSet _ st = Unit {0}

ack_fits : (accepts : Bool) (st : Step) (receive next : ℕ) → FitsSet (hear_ack accepts st receive next) (Some st)
ack_fits false st receive next = tt
ack_fits true (step.Bind c) receive next = tt
ack_fits true (step.Reply q) receive next = tt
ack_fits true (step.Set (set_step.Bind c)) receive next = tt
ack_fits true (step.Set set_step.Reply) receive next = tt

reply_fits : (q : Question) (r : Result Reply StubRefused) (st : Option Step) → FitsSet (hear_reply q r) st
reply_fits q (Err why) st = tt
reply_fits q (Ok r) st = tt

set_fits : (r : Result SetReply SetRefused) → FitsSet (hear_set_reply r) (Some (step.Set set_step.Reply))
set_fits (Err why) = tt
set_fits (Ok r) = tt

stub_fits : (st : Step) (stub : List ℕ) → FitsSet (hear_stub st stub) (Some st)
stub_fits (step.Bind c) stub = tt
stub_fits (step.Reply q) stub = reply_fits q (reply_of (opnum_asked q) stub) (Some (step.Reply q))
stub_fits (step.Set (set_step.Bind c)) stub = tt
stub_fits (step.Set set_step.Reply) stub = set_fits (set_reply_of stub)

body_fits : (body : Body) (st : Step) (next : ℕ) → FitsSet (hear_body body st next) (Some st)
body_fits (BindNak reason) st next = tt
body_fits (BindAck send receive group results) st next = ack_fits (is_accepting results) st receive next
body_fits (Fault hint context status) st next = tt
body_fits (Response hint context stub) st next = stub_fits st stub
body_fits (Bind send receive group contexts) st next = tt
body_fits (Request hint context opnum stub) st next = tt
body_fits Auth3 st next = tt

by_fits : (awaited : Bool) (p : Pending) (unit : RpcUnit) (next : ℕ) → FitsSet (hear_by awaited p unit next) (Some p.step)
by_fits false p unit next = tt
by_fits true p unit next = body_fits unit.body p.step next

pub hear_fits : (turn : Option Pending) (unit : RpcUnit) (next : ℕ) → FitsSet (hear turn unit next) (step_in turn)
hear_fits None unit next = tt
hear_fits (Some p) unit next = by_fits (unit.call == p.number) p unit next

-- the call that is out is the one that was written down
pub set_waits : (st : Option Step) (number unit timestamp : ℕ) (stands : Option ChannelIdentity) (c : ChannelIdentity) (marks : List Mark) (out : Option ℕ) → IsSetReply st →
    WaitsBy st number stands marks out → stands ≡ Some c → slice_get marks unit ≡ Some (Calling c number timestamp) → out ≡ Some unit
set_waits None number unit timestamp stands c marks out is waits at there = absurd is
set_waits (Some (step.Bind call)) number unit timestamp stands c marks out is waits at there = absurd is
set_waits (Some (step.Reply q)) number unit timestamp stands c marks out is waits at there = absurd is
set_waits (Some (step.Set (set_step.Bind call))) number unit timestamp stands c marks out is waits at there = absurd is
set_waits (Some (step.Set set_step.Reply)) number unit timestamp stands c marks out is waits at there = waits unit timestamp c at there

-- ---- a unit is taken

-- what is known where the reply says that a secret was set: the call was taken, and the others on the channel passed
pub record SetHeard (b : Basis) (marks : List Mark) (c : Requester) : Type 0 where
  pub unit : ℕ
  pub timestamp : ℕ
  pub channel : ChannelIdentity
  pub stands : stands_in b.controller c.caller.computer c.standing ≡ Some channel
  pub there : slice_get marks unit ≡ Some (Calling channel (number_in c.turn) timestamp)
  pub took : IsIn unit b.sides.took
  pub others : (n number stamp : ℕ) (d : ChannelIdentity) → slice_get marks n ≡ Some (Calling d number stamp) → d.client ≡ channel.client → (n ≡ unit) ⊎ IsIn n b.sides.passed

pub stands_of : (controller : ℕ) (computer name : List ℕ) (how : Standing) (c : ChannelIdentity) → SameName computer name → stands_in controller computer how ≡ Some c → IsOf controller name c
stands_of controller computer name standing.Nothing c named is = absurd (no_some c is)
stands_of controller computer name (standing.Half client server) c named is = absurd (no_some c is)
stands_of controller computer name (standing.Open o) c named is =
    subst (λ (x : ChannelIdentity). IsOf controller name x) (some_is (channel_of controller computer o) c is) (record { controller_is = refl; computer_is = named })

-- a view that opens what it did opens no more than before
pub same_opening : (u v : View) → v.opening ≡ u.opening → (challenge : List ℕ) → v.opening ≡ Some challenge → u.opening ≡ Some challenge
same_opening u v same challenge is = sym same ∙ is

opening_next : (controller : ℕ) (how : Standing) (computer : List ℕ) (next : ℕ) (c t : Requester) → HasEffect controller (effect_next controller how computer next) c t →
    (view_of controller t).opening ≡ (view_of controller c).opening
opening_next controller standing.Nothing computer next c t has = ap (λ (x : View). x.opening) has.0
opening_next controller (standing.Half client server) computer next c t has = ap (λ (x : View). x.opening) has.0
opening_next controller (standing.Open o) computer next c t has = ap (λ (x : View). x.opening) has.0.3

pub keeps_all : (s : SecretsState) (secret : List ℕ) → HoldsSecret secret s → HoldsSecret secret s
keeps_all s secret holds = holds

-- a call that sets a secret is of no place
set_called : (how : Standing) (controller : ℕ) (s after : Requester) → (asked_note (Some (step.Set set_step.Reply)) how controller s after).called ≡ None
set_called standing.Nothing controller s after = refl
set_called (standing.Half client server) controller s after = refl
set_called (standing.Open o) controller s after = refl

module _ (b : Basis) (marks more : List Mark) (c : Requester) (secrets : SecretsState) (drawn : List (List ℕ)) (uses : ℕ) where
  abbrev u : View
  u = view_of b.controller c

  abbrev r : Requests ℕ
  r = seen_with b.views b.who u marks drawn uses

  -- each new call sets that secret, or none
  abbrev pub NewAsks : Option (List ℕ) → Type 0
  NewAsks secret =
      (n number timestamp : ℕ) (d : ChannelIdentity) → length marks ≤ n → slice_get (marks ++ more) n ≡ Some (Calling d number timestamp) → b.sides.asks n ≡ secret

  -- by the place whose Logon call goes out: it sets none; or it sets the next one, where it is of none
  abbrev pub CarriesAsks : Option ℕ → Type 0
  CarriesAsks (Some place) = NewAsks None
  CarriesAsks None = NewAsks (next_of secrets)

  module _ (ties : Ties b marks c secrets) (tries : TriesSecrets c secrets) (named : SameName c.caller.computer b.computer) (apart : CallsAreApart r)
      (order : AreInOrder r b.who b.controller b.computer b.accepted) (took : (unit : ℕ) → IsIn unit b.sides.took → unit < length marks) where
    -- nothing but the view changes, and no call is out
    quiet : (t : Requester) → (view_of b.controller t).opening ≡ u.opening → TogetherAs b (view_of b.controller t) marks secrets None
    quiet t same =
        goes_without b u (view_of b.controller t) marks secrets secrets ties.out (same_opening u (view_of b.controller t) same) (keeps_all secrets) ties.together

    -- ---- a call goes out

    module _ (t : Requester) (d : ChannelIdentity) (number timestamp : ℕ) (is : IsPlaced more (Calling d number timestamp)) where
      abbrev its : Mark
      its = Calling d number timestamp

      abbrev front : List Mark
      front = marks ++ is.front

      there_now : slice_get (marks ++ more) (length front) ≡ Some its
      there_now =
          subst (λ (all : List Mark). slice_get all (length front) ≡ Some its) (placed_as marks more its is) (got_append (front ++ its ∷ []) is.rest (length front) its (got_last front its))

      is_new : length marks ≤ length front
      is_new = omega (arith, length-append marks is.front)

      -- with the marks behind it
      with_rest : (out : Option ℕ) → TogetherAs b (view_of b.controller t) (front ++ its ∷ []) secrets out → TogetherAs b (view_of b.controller t) (marks ++ more) secrets out
      with_rest out together =
          subst (λ (all : List Mark). TogetherAs b (view_of b.controller t) all secrets out) (placed_as marks more its is)
          (fewer_calls b (view_of b.controller t) (front ++ its ∷ []) ((front ++ its ∷ []) ++ is.rest) secrets out (calls_before (front ++ its ∷ []) is.rest is.behind) together)

      at_front : TogetherAs b (view_of b.controller t) marks secrets None → TogetherAs b (view_of b.controller t) front secrets None
      at_front together = fewer_calls b (view_of b.controller t) marks front secrets None (calls_before marks is.front is.before) together

      sets_none : NewAsks None → TogetherAs b (view_of b.controller t) marks secrets None → TogetherAs b (view_of b.controller t) (marks ++ more) secrets None
      sets_none asks together =
          with_rest None
          ((stay_together ℕ).unit (seen_with b.views b.who (view_of b.controller t) front [] 0) b.who b.controller b.computer b.accepted (with_held b secrets None) its b.sides.asks
          (λ unit mark at. refl) (λ e other stamp same. inl (asks (length front) number timestamp d is_new there_now)) (λ unit out. absurd (no_some unit out)) (at_front together))

      sets_next : NewAsks (next_of secrets) → TogetherAs b (view_of b.controller t) marks secrets None → TogetherAs b (view_of b.controller t) (marks ++ more) secrets (Some (length front))
      sets_next asks together =
          with_rest (Some (length front))
          ((stay_together ℕ).sends (seen_with b.views b.who (view_of b.controller t) front [] 0) b.who b.controller b.computer b.accepted (with_held b secrets None) d number timestamp b.sides.asks
          (λ unit mark at. refl) (asks (length front) number timestamp d is_new there_now) (λ old. absurd (omega (arith, is_new, took (length front) old))) refl (at_front together))

      -- the call isn't out then: it was given up, or isn't waited for
      then_none : TogetherAs b (view_of b.controller t) (marks ++ more) secrets (Some (length front)) → TogetherAs b (view_of b.controller t) (marks ++ more) secrets None
      then_none together =
          goes_without b (view_of b.controller t) (view_of b.controller t) (marks ++ more) secrets secrets (Some (length front)) (λ challenge opening. opening) (keeps_all secrets) together

      carries_none : (called : Option ℕ) → CarriesAsks called → TogetherAs b (view_of b.controller t) marks secrets None → TogetherAs b (view_of b.controller t) (marks ++ more) secrets None
      carries_none (Some place) asks together = sets_none asks together
      carries_none None asks together = then_none (sets_next asks together)

    -- ---- by what is heard

    -- what is written down of it
    abbrev Noted : Hearing → Type 0
    Noted h =
        IsNotedBy (effect_heard b.controller h c) (taking_note (Some (act h c)) b.controller c) u (view_of b.controller (act h c).state) (opening_out_of c) (opening_out_of (act h c).state)

    abbrev PlacedFor : Hearing → Type 0
    PlacedFor h = Placed (taking_note (Some (act h c)) b.controller c).sends (taking_note (Some (act h c)) b.controller c).mark more

    abbrev TiesAfter : Hearing → Type 0
    TiesAfter h = Ties b (marks ++ more) (act h c).state (secrets_by (end_of (act h c).taken) secrets)

    -- none of the marks is a call, by the effect
    counts_none : (note : TurnNote) (v : View) (old new : Bool) → IsNotedBy Counts note u v old new → Placed note.sends note.mark more → CallsWere (marks ++ more) marks
    counts_none note v old new noted placed = elim noted [
      | inl plain ↦ noted_calls note (request_note Plain None) marks more plain.0 tt placed
      | inr out ↦ noted_calls note (request_note (Opening out.channel u.call) None) marks more out.is tt placed
    ]

    -- the marks don't matter
    marked_so : (t : Requester) (later : SecretsState) → CallsWere (marks ++ more) marks → Ties b marks t later → Ties b (marks ++ more) t later
    marked_so t later were so = marked b marks (marks ++ more) t later were so

    -- the next request of the turn goes out, which asks no secret to be set
    next_by : (q : Question) (frames : List (List ℕ)) (how : Standing) →
        let t : Requester = (act (hearing.Next q frames) c).state in
        (note : TurnNote) (old new : Bool) → HasEffect b.controller (effect_next b.controller how c.caller.computer c.next_call) c t →
        IsNotedBy (effect_next b.controller how c.caller.computer c.next_call) note u (view_of b.controller t) old new → Placed note.sends note.mark more → CarriesAsks note.called → Ties b (marks ++ more) t secrets
    next_by q frames standing.Nothing note old new has noted placed asks =
        let t : Requester = (act (hearing.Next q frames) c).state in
        marked_so t secrets (counts_none note (view_of b.controller t) old new noted placed)
        (record { coherent = has.1; out = None; waits = refl; together = quiet t (opening_next b.controller standing.Nothing c.caller.computer c.next_call c t has) })
    next_by q frames (standing.Half client server) note old new has noted placed asks =
        let t : Requester = (act (hearing.Next q frames) c).state in
        marked_so t secrets (counts_none note (view_of b.controller t) old new noted placed)
        (record { coherent = has.1; out = None; waits = refl; together = quiet t (opening_next b.controller (standing.Half client server) c.caller.computer c.next_call c t has) })
    next_by q frames (standing.Open o) note old new has noted placed asks =
        let t : Requester = (act (hearing.Next q frames) c).state in
        let d : ChannelIdentity = channel_of b.controller c.caller.computer o in
        let so : TogetherAs b (view_of b.controller t) marks secrets None = quiet t (opening_next b.controller (standing.Open o) c.caller.computer c.next_call c t has) in
        elim (subst (λ (n : TurnNote). Placed n.sends n.mark more) noted.2 placed) [
          | inl none ↦ marked_so t secrets (calls_before marks more none) (record { coherent = has.1; out = None; waits = refl; together = so })
          | inr is ↦ record { coherent = has.1; out = None; waits = refl; together = carries_none t d c.next_call noted.0 is noted.1 (subst (λ (n : TurnNote). CarriesAsks n.called) noted.2 asks) so }
        ]

    -- the call goes out that sets a secret
    set_by : (frames : List (List ℕ)) (how : Standing) →
        let t : Requester = (act (hearing.Set (set_hearing.Next frames)) c).state in
        (note : TurnNote) (old new : Bool) → c.standing ≡ how → HasEffect b.controller (effect_next b.controller how c.caller.computer c.next_call) c t →
        IsNotedBy (effect_next b.controller how c.caller.computer c.next_call) note u (view_of b.controller t) old new → Placed note.sends note.mark more → NewAsks (next_of secrets) →
        ((unit other number : ℕ) (d e : ChannelIdentity) → IsAsked (marks ++ more) unit d number → IsAsked (marks ++ more) other e number → d.client ≡ e.client → unit ≡ other) →
        Ties b (marks ++ more) t secrets
    set_by frames standing.Nothing note old new stands has noted placed asks distinct =
        let t : Requester = (act (hearing.Set (set_hearing.Next frames)) c).state in
        marked_so t secrets (counts_none note (view_of b.controller t) old new noted placed) (record {
          coherent = has.1;
          out = None;
          waits = λ unit timestamp d is there. absurd (no_some d (sym (ap (λ (s : Standing). stands_in b.controller c.caller.computer s) stands) ∙ is));
          together = quiet t (opening_next b.controller standing.Nothing c.caller.computer c.next_call c t has);
        })
    set_by frames (standing.Half client server) note old new stands has noted placed asks distinct =
        let t : Requester = (act (hearing.Set (set_hearing.Next frames)) c).state in
        marked_so t secrets (counts_none note (view_of b.controller t) old new noted placed) (record {
          coherent = has.1;
          out = None;
          waits = λ unit timestamp d is there. absurd (no_some d (sym (ap (λ (s : Standing). stands_in b.controller c.caller.computer s) stands) ∙ is));
          together = quiet t (opening_next b.controller (standing.Half client server) c.caller.computer c.next_call c t has);
        })
    set_by frames (standing.Open o) note old new stands has noted placed asks distinct =
        let t : Requester = (act (hearing.Set (set_hearing.Next frames)) c).state in
        let d : ChannelIdentity = channel_of b.controller c.caller.computer o in
        let so : TogetherAs b (view_of b.controller t) marks secrets None = quiet t (opening_next b.controller (standing.Open o) c.caller.computer c.next_call c t has) in
        let open_so : stands_in b.controller c.caller.computer c.standing ≡ Some d = ap (λ (s : Standing). stands_in b.controller c.caller.computer s) stands in
        elim (subst (λ (n : TurnNote). Placed n.sends n.mark more) noted.2 placed) [
          | inl none ↦ record {
            coherent = has.1;
            out = None;
            waits = λ unit timestamp e is there.
                let before : slice_get marks unit ≡ Some (Calling e c.next_call timestamp) = calls_before marks more none unit c.next_call timestamp e there in
                absurd (omega (
                  arith,
                  apart.numbers b.who u unit c.next_call e (own_seen b u) (record { how = inr (e, is, refl) })
                      (record { mark = Calling e c.next_call timestamp; asks = (refl, refl); there = before }),
                ));
            together = fewer_calls b (view_of b.controller t) marks (marks ++ more) secrets None (calls_before marks more none) so;
          }
          | inr is ↦ record {
            coherent = has.1;
            out = Some (length (marks ++ is.front));
            waits = λ unit timestamp e at there.
                ap Some (distinct (length (marks ++ is.front)) unit c.next_call d e
                (record { mark = Calling d c.next_call noted.0; asks = (refl, refl); there = there_now t d c.next_call noted.0 is })
                (record { mark = Calling e c.next_call timestamp; asks = (refl, refl); there = there })
                (ap (λ (x : ChannelIdentity). x.client) (some_is d e (sym open_so ∙ at))));
            together = sets_next t d c.next_call noted.0 is asks so;
          }
        ]

    -- the turn is dropped
    dropped_by : (cause : DropCause) → IsCoherent (settle (judgement.Drop cause) c).state → CallsWere (marks ++ more) marks →
        Ties b (marks ++ more) (settle (judgement.Drop cause) c).state (secrets_dropped (is_denied cause) secrets)
    dropped_by cause coherent were =
        let t : Requester = (settle (judgement.Drop cause) c).state in
        marked_so t (secrets_dropped (is_denied cause) secrets) were (record {
          coherent = coherent;
          out = None;
          waits = refl;
          together = goes_without b u (view_of b.controller t) marks secrets (secrets_dropped (is_denied cause) secrets) ties.out (λ challenge is. absurd (no_some challenge is))
              (dropped_holds (is_denied cause) secrets) ties.together;
        })

    -- the channel opens
    opens_by : (o : SecureChannelState) → IsHalfWay c.standing × (o.secret ≡ c.caller.secret) →
        HasEffect b.controller (Opens (channel_of b.controller c.caller.computer o)) c (settle (judgement.Opened o) c).state →
        IsAcceptedIn b.accepted (channel_of b.controller c.caller.computer o) → TogetherAs b (view_of b.controller (settle (judgement.Opened o) c).state) marks (opened_of secrets) None
    opens_by o opened has accepted =
        let d : ChannelIdentity = channel_of b.controller c.caller.computer o in
        let v : View = view_of b.controller (settle (judgement.Opened o) c).state in
        without_drawn b v marks drawn uses (opened_of secrets) None
        ((stay_together ℕ).opens r b.who b.controller b.computer b.accepted (with_held b secrets ties.out) (λ j. seen_if (j == b.who) v (b.views j)) (opened_of secrets) (record {
          view = u;
          at = own_seen b u;
          channel = d;
          opening = has.0.0;
          accepted_is = accepted;
          of = record { controller_is = refl; computer_is = named };
          tried = opened.1 ∙ half_tried c.standing c.turn c.caller.secret (tried_of secrets) opened.0 tries.opens;
        }) (λ w at. ap (λ (x : View). x.opening) (sym (seen_own b v w at))) (opened_holds secrets b.sides.hash) apart order (with_drawn b u marks drawn uses secrets ties.out ties.together))

    -- a reply is judged
    judged_by : (j : Judgement) (note : TurnNote) (old new : Bool) (number : ℕ) → OpensBy c.standing c.caller.secret j → HasEffect b.controller (effect_judged b.controller j c.caller.computer number) c (settle j c).state →
        IsNotedBy (effect_judged b.controller j c.caller.computer number) note u (view_of b.controller (settle j c).state) old new → Placed note.sends note.mark more →
        ((o : SecureChannelState) → j ≡ judgement.Opened o → IsAcceptedIn b.accepted (channel_of b.controller c.caller.computer o)) →
        Ties b (marks ++ more) (settle j c).state (secrets_by (end_of (settle j c).taken) secrets)
    judged_by (judgement.Half client server) note old new number opened has noted placed accepted =
        let t : Requester = (settle (judgement.Half client server) c).state in
        marked_so t secrets (noted_calls note no_note marks more noted.0 tt placed)
        (record { coherent = has.1; out = None; waits = refl; together = quiet t (ap (λ (x : View). x.opening) has.0) })
    judged_by (judgement.Opened o) note old new number opened has noted placed accepted =
        let t : Requester = (settle (judgement.Opened o) c).state in
        marked_so t (opened_of secrets) (noted_calls note (passed_note (channel_of b.controller c.caller.computer o) None None) marks more noted tt placed)
        (record { coherent = has.1; out = None; waits = refl; together = opens_by o opened has (accepted o refl) })
    judged_by (judgement.Answer o v) note old new number opened has noted placed accepted =
        let t : Requester = (settle (judgement.Answer o v) c).state in
        marked_so t secrets (noted_calls note (passed_note (channel_of b.controller c.caller.computer o) noted.0 (Some number)) marks more noted.1 tt placed)
        (record { coherent = has.1; out = None; waits = refl; together = quiet t (ap (λ (x : View). x.opening) has.0.2) })
    judged_by (judgement.Drop cause) note old new number opened has noted placed accepted =
        dropped_by cause has.1 (noted_calls note no_note marks more noted tt placed)

    -- the reply to a call that sets a secret is
    hears_by : (o : SecureChannelState) → IsSetReply (step_in c.turn) → (heard : SetHeard b marks c) →
        let t : Requester = (settle_set (Ok o) c).state in
        (view_of b.controller t).opening ≡ u.opening → TogetherAs b (view_of b.controller t) marks (confirmed_of secrets) None
    hears_by o fits heard same =
        let v : View = view_of b.controller (settle_set (Ok o) c).state in
        let out : ties.out ≡ Some heard.unit =
        set_waits (step_in c.turn) (number_in c.turn) heard.unit heard.timestamp (stands_in b.controller c.caller.computer c.standing) heard.channel marks ties.out fits ties.waits heard.stands
        heard.there in
        without_drawn b v marks drawn uses (confirmed_of secrets) None
        ((stay_together ℕ).hears r b.who b.controller b.computer b.accepted (with_held b secrets ties.out) (λ j. seen_if (j == b.who) v (b.views j)) (confirmed_of secrets) heard.unit out heard.took
        (record {
          view = u;
          at = own_seen b u;
          channel = heard.channel;
          stands = heard.stands;
          of = stands_of b.controller c.caller.computer b.computer c.standing heard.channel named heard.stands;
          passed = λ n number stamp d there client. elim (heard.others n number stamp d there client) [
            | inl that ↦ inl (ap Some (sym that))
            | inr passed ↦ inr passed
          ];
        }) (no_more b u v (same_opening u v same)) (confirmed_holds secrets b.sides.hash) order (with_drawn b u marks drawn uses secrets ties.out ties.together))

    set_judged : (judged : SetOutcome) (note : TurnNote) (old new : Bool) (number : ℕ) → IsSetReply (step_in c.turn) →
        HasEffect b.controller (effect_judged_set b.controller judged c.caller.computer number) c (settle_set judged c).state →
        IsNotedBy (effect_judged_set b.controller judged c.caller.computer number) note u (view_of b.controller (settle_set judged c).state) old new → Placed note.sends note.mark more →
        ((o : SecureChannelState) → judged ≡ Ok o → SetHeard b marks c) → Ties b (marks ++ more) (settle_set judged c).state (secrets_by (end_of (settle_set judged c).taken) secrets)
    set_judged (Ok o) note old new number fits has noted placed heard =
        let t : Requester = (settle_set (Ok o) c).state in
        marked_so t (confirmed_of secrets) (noted_calls note (passed_note (channel_of b.controller c.caller.computer o) noted.0 (Some number)) marks more noted.1 tt placed)
        (record { coherent = has.1; out = None; waits = refl; together = hears_by o fits (heard o refl) (ap (λ (x : View). x.opening) has.0.2) })
    set_judged (Err cause) note old new number fits has noted placed heard = dropped_by cause has.1 (noted_calls note no_note marks more noted tt placed)

    -- what is to be known of the new call, of the channel that opens, and of the secret that was set
    abbrev pub TakeFits : Hearing → Type 0
    TakeFits hearing.Skip = Unit {0}
    TakeFits (hearing.Next q frames) = Unit {0}
    TakeFits (hearing.Reply q reply) =
        (o : SecureChannelState) → judge q reply c.standing c.caller.secret ≡ judgement.Opened o → IsAcceptedIn b.accepted (channel_of b.controller c.caller.computer o)
    TakeFits (hearing.Drop cause) = Unit {0}
    TakeFits (hearing.Set (set_hearing.Next frames)) = Unit {0}
    TakeFits (hearing.Set (set_hearing.Reply reply)) = (o : SecureChannelState) → judge_set reply c.standing ≡ Ok o → SetHeard b marks c

    heard_by : (h : Hearing) → FitsSet h (step_in c.turn) → HasEffect b.controller (effect_heard b.controller h c) c (act h c).state → Noted h → PlacedFor h →
        ((unit other number : ℕ) (d e : ChannelIdentity) → IsAsked (marks ++ more) unit d number → IsAsked (marks ++ more) other e number → d.client ≡ e.client → unit ≡ other) → TakeFits h →
        CarriesAsks (taking_note (Some (act h c)) b.controller c).called → TiesAfter h
    heard_by hearing.Skip fits has noted placed distinct known carries =
        marked_so c secrets (noted_calls (taking_note (Some (act hearing.Skip c)) b.controller c) no_note marks more noted.0 tt placed) ties
    heard_by (hearing.Next q frames) fits has noted placed distinct known carries = next_by q frames c.standing _ _ _ has noted placed carries
    heard_by (hearing.Reply q reply) fits has noted placed distinct known carries =
        judged_by (judge q reply c.standing c.caller.secret) _ _ _ (number_in c.turn) (judged_open q reply c.standing c.caller.secret) has noted placed known
    heard_by (hearing.Drop cause) fits has noted placed distinct known carries =
        dropped_by cause has.1 (noted_calls (taking_note (Some (act (hearing.Drop cause) c)) b.controller c) no_note marks more noted tt placed)
    heard_by (hearing.Set (set_hearing.Next frames)) fits has noted placed distinct known carries =
        set_by frames c.standing _ _ _ refl has noted placed
        (subst CarriesAsks (set_called c.standing b.controller c (act (hearing.Set (set_hearing.Next frames)) c).state) carries) distinct
    heard_by (hearing.Set (set_hearing.Reply reply)) fits has noted placed distinct known carries =
        set_judged (judge_set reply c.standing) _ _ _ (number_in c.turn) fits has noted placed known

    -- a unit is taken, with the marks that are written down of it
    pub takes : (unit : RpcUnit) → Placed (taking_note (Some (take_of c unit)) b.controller c).sends (taking_note (Some (take_of c unit)) b.controller c).mark more →
        ((one other number : ℕ) (d e : ChannelIdentity) → IsAsked (marks ++ more) one d number → IsAsked (marks ++ more) other e number → d.client ≡ e.client → one ≡ other) →
        TakeFits (hear c.turn unit c.next_call) → CarriesAsks (taking_note (Some (take_of c unit)) b.controller c).called → Ties b (marks ++ more) (take_of c unit).state (secrets_by (end_of (take_of c unit).taken) secrets)
    takes unit placed distinct known carries =
        heard_by (hear c.turn unit c.next_call) (hear_fits c.turn unit c.next_call) (steps_have_effects.take b.controller c unit ties.coherent)
        (steps_are_noted.take b.controller c unit ties.coherent) placed distinct known carries
