-- The effect of each step of any channel, sealed or not, and what holds of it at every moment. It serves
-- `any_step_has_its_effect`.
use Rattle.std.proofs.Common.{◌≡◌, ◌==◌, ◌&&◌, ℕ, Bool, true, false, List, [], ◌∷◌, Option, Some, None, refl, sym, subst, bytes_eq, arith}
use Rattle.ntlm_flags.specs.Flags.{has_flag}
use Rattle.rpc_units.specs.declared.unit.Unit.{Unit as RpcUnit}
use Rattle.rpc_units.specs.declared.unit.Body.{Body}
use Rattle.rpc_units.specs.declared.unit.Body.TheVariants.{Bind, BindAck, BindNak, Auth3, Request, Response, Fault}
use Rattle.channel_sealing.specs.Frames.{seal_all}
use Rattle.logon_stubs.specs.declared.calls.Call.{Call}
use Rattle.logon_stubs.specs.declared.calls.Reply.{Reply}
use Rattle.logon_stubs.specs.declared.calls.Reply.TheVariants as reply
use Rattle.secret_change.specs.declared.calls.SetCall.{SetCall}
use Rattle.channel_client.specs.AnyChannel.{ChannelsHaveEffects, effect_of_take_with, effect_sealed}
use Rattle.channel_client.specs.Effects.{Changes, HasEffect, IsCoherent, MatchesQuestion, MatchesStep, Stays, effect_judged, effect_of_start, effect_start, number_in, step_in, view_at, view_of}
use Rattle.channel_client.specs.Machine.{is_accepting, question_of}
use Rattle.channel_client.specs.Sealed.{act_sealed, heard_by, hear_room, hear_room_ack, hear_room_body, hear_room_by, judge_opening, judge_sealed, judge_secure_auth, judge_secure_credential, judge_secure_flags, next_if, seal_heard, sealed_start_by, secure_server_credential, set_next_if, settle_sealed, start_with, take_with, unseal_with}
use Rattle.channel_client.specs.Sealing.{frames_left, needed_secure_flags, secure_flags}
use Rattle.channel_client.specs.State.{Requester}
use Rattle.channel_client.proofs.EffectLaws.{Fits, HeardFits, acting, body_fits, fits, heard_fits, settled_coherent, settling, steps_have_effects}
use Rattle.channel_client.specs.declared.hearing.Hearing.{Hearing}
use Rattle.channel_client.specs.declared.hearing.Hearing.TheVariants as hearing
use Rattle.channel_client.specs.declared.hearing.SetHearing.TheVariants as set_hearing
use Rattle.channel_client.specs.declared.judging.Judgement.{Judgement}
use Rattle.channel_client.specs.declared.judging.Judgement.TheVariants as judgement
use Rattle.channel_client.specs.declared.state.Pending.{Pending}
use Rattle.channel_client.specs.declared.state.Question.{Question}
use Rattle.channel_client.specs.declared.state.Question.TheVariants as question
use Rattle.channel_client.specs.declared.state.Sealing.{Sealing}
use Rattle.channel_client.specs.declared.state.SetStep.TheVariants as set_step
use Rattle.channel_client.specs.declared.state.Standing.{Standing}
use Rattle.channel_client.specs.declared.state.Standing.TheVariants as standing
use Rattle.channel_client.specs.declared.state.Step.{Step}
use Rattle.channel_client.specs.declared.state.Step.TheVariants as step
use Rattle.channel_client.specs.declared.state.Waiting.{Waiting}

-- ---- another sealing changes nothing that is seen

coherent_with : (s : Requester) (kept : Option Sealing) → IsCoherent s → IsCoherent (record s { sealing = kept })
coherent_with s kept c = record { matches = c.matches; first = c.first; places = c.places; few = c.few }

-- ---- starting

abbrev parts_of : Requester → Standing → List Waiting → Option Pending → Option (List ℕ) → Requester
parts_of s how logons turn next = record s { standing = how; waiting = logons; turn = turn; next = next }

starting : (controller : ℕ) (s : Requester) (value : List ℕ) (turn : Option Pending) (logons : List Waiting) (how : Standing) (next : Option (List ℕ)) (timestamp : ℕ) (challenge : List ℕ) →
    IsCoherent (parts_of s how logons turn next) →
    HasEffect controller (effect_start controller turn logons how s.caller.computer timestamp challenge) (parts_of s how logons turn next)
    (sealed_start_by turn logons value (parts_of s how logons turn next) timestamp challenge).state
starting controller s value (Some p) logons how next timestamp challenge c = (refl, c)
starting controller s value None [] how next timestamp challenge c = (refl, c)
starting controller s value None (logon ∷ logons) standing.Nothing next timestamp challenge c =
    ((refl, refl), record { matches = tt; first = (refl, tt); places = c.places; few = c.few })
starting controller s value None (logon ∷ logons) (standing.Half client server) next timestamp challenge c =
    (refl, record { matches = tt; first = (refl, tt); places = c.places; few = c.few })
starting controller s value None (logon ∷ logons) (standing.Open o) None timestamp challenge c =
    ((o.seed, refl, refl, refl, refl), record { matches = tt; first = (refl, refl); places = c.places; few = c.few })
starting controller s value None (logon ∷ logons) (standing.Open o) (Some next) timestamp challenge c =
    ((o.seed, refl, refl, refl, refl), record { matches = tt; first = (refl, tt); places = c.places; few = c.few })

started : (controller : ℕ) (kept : Option Sealing) (s : Requester) (timestamp : ℕ) (challenge : List ℕ) → IsCoherent s →
    HasEffect controller (effect_of_start controller s timestamp challenge) s (start_with kept s timestamp challenge).state
started controller None s timestamp challenge c = steps_have_effects.start controller s timestamp challenge c
started controller (Some g) s timestamp challenge c =
    let began = starting controller s g.bind_value s.turn s.waiting s.standing s.next timestamp challenge c in
    (began.0, coherent_with (sealed_start_by s.turn s.waiting g.bind_value s timestamp challenge).state _ began.1)

-- ---- how a reply is judged

fits_flags : (enough : Bool) (secret client server : List ℕ) → Fits (judge_secure_flags enough secret client server) (standing.Half client server) question.Authenticate
fits_flags false secret client server = tt
fits_flags true secret client server = (refl, refl)

fits_credential : (right : Bool) (secret client server : List ℕ) (flags : ℕ) →
    Fits (judge_secure_credential right secret client server flags) (standing.Half client server) question.Authenticate
fits_credential false secret client server flags = tt
fits_credential true secret client server flags = fits_flags (has_flag secure_flags flags && has_flag flags needed_secure_flags) secret client server

fits_auth : (granted : Bool) (secret client server credential : List ℕ) (flags : ℕ) →
    Fits (judge_secure_auth granted (standing.Half client server) secret credential flags) (standing.Half client server) question.Authenticate
fits_auth false secret client server credential flags = tt
fits_auth true secret client server credential flags =
    fits_credential (bytes_eq credential (secure_server_credential secret client server)) secret client server flags

fits_opening : (r : Reply) (how : Standing) (secret : List ℕ) → MatchesQuestion how question.Authenticate → Fits (judge_opening r how secret) how question.Authenticate
fits_opening (reply.Challenge r) how secret m = tt
fits_opening (reply.Authenticate r) standing.Nothing secret m = absurd m
fits_opening (reply.Authenticate r) (standing.Half client server) secret m = fits_auth (r.status == 0) secret client server r.credential r.flags
fits_opening (reply.Authenticate r) (standing.Open o) secret m = absurd m
fits_opening (reply.Logon r) how secret m = tt
fits_opening (reply.Logoff r) how secret m = tt

fits_sealed : (q : Question) (r : Reply) (how : Standing) (secret : List ℕ) → MatchesQuestion how q → Fits (judge_sealed q r how secret) how q
fits_sealed (question.Challenge client) r how secret m = fits (question.Challenge client) r how secret m
fits_sealed question.Authenticate r how secret m = fits_opening r how secret m
fits_sealed question.Logon r how secret m = fits question.Logon r how secret m

-- ---- what a judgement leaves

abbrev Replies : ℕ → Requester → Option Step → Judgement → Type 0
Replies controller s turn j =
    Changes (effect_judged controller j s.caller.computer (number_in s.turn)) (view_at controller s.caller.computer s.standing turn (number_in s.turn) s.next_call) (view_of controller (settle_sealed j s).state)

sealed_settling : (controller : ℕ) (j : Judgement) (s : Requester) (q : Question) → Fits j s.standing q → Replies controller s (Some (step.Reply q)) j
sealed_settling controller (judgement.Half client server) s q h = settling controller (judgement.Half client server) s s.standing (number_in s.turn) q h
sealed_settling controller (judgement.Opened o) s q h = settling controller (judgement.Opened o) s s.standing (number_in s.turn) q h
sealed_settling controller (judgement.Answer o v) s q h = settling controller (judgement.Answer o v) s s.standing (number_in s.turn) q h
sealed_settling controller (judgement.Drop cause) s q h = settling controller (judgement.Drop cause) s s.standing (number_in s.turn) q h

replying : (controller : ℕ) (s : Requester) (turn : Option Step) (q : Question) (r : Reply) → turn ≡ Some (step.Reply q) → MatchesStep s.standing turn →
    Replies controller s turn (judge_sealed q r s.standing s.caller.secret)
replying controller s turn q r e m =
    subst (λ x. Replies controller s x (judge_sealed q r s.standing s.caller.secret)) (sym e)
    (sealed_settling controller (judge_sealed q r s.standing s.caller.secret) s q (fits_sealed q r s.standing s.caller.secret (subst (λ x. MatchesStep s.standing x) e m)))

sealed_coherent : (j : Judgement) (s : Requester) → IsCoherent s → IsCoherent (settle_sealed j s).state
sealed_coherent (judgement.Half client server) s c = settled_coherent (judgement.Half client server) s c
sealed_coherent (judgement.Opened o) s c = record { matches = tt; first = tt; places = c.places; few = c.few }
sealed_coherent (judgement.Answer o v) s c = settled_coherent (judgement.Answer o v) s c
sealed_coherent (judgement.Drop cause) s c = settled_coherent (judgement.Drop cause) s c

-- ---- what a unit says fits the turn

room_ack_fits : (accepting : Bool) (st : Step) (receive next : ℕ) → HeardFits (hear_room_ack accepting st receive next) (Some st)
room_ack_fits false st receive next = tt
room_ack_fits true (step.Bind c) receive next = (c, refl, refl)
room_ack_fits true (step.Reply q) receive next = tt
room_ack_fits true (step.Set (set_step.Bind c)) receive next = (c, refl)
room_ack_fits true (step.Set set_step.Reply) receive next = tt

room_body_fits : (body : Body) (st : Step) (next : ℕ) → HeardFits (hear_room_body body st next) (Some st)
room_body_fits (BindNak reason) st next = body_fits (BindNak reason) st next
room_body_fits (BindAck send receive group results) st next = room_ack_fits (is_accepting results) st receive next
room_body_fits (Fault hint context status) st next = body_fits (Fault hint context status) st next
room_body_fits (Response hint context stub) st next = body_fits (Response hint context stub) st next
room_body_fits (Bind send receive group contexts) st next = body_fits (Bind send receive group contexts) st next
room_body_fits (Request hint context opnum stub) st next = body_fits (Request hint context opnum stub) st next
room_body_fits Auth3 st next = body_fits Auth3 st next

room_numbered_fits : (numbered : Bool) (p : Pending) (unit : RpcUnit) (next : ℕ) → HeardFits (hear_room_by numbered p unit next) (Some p.step)
room_numbered_fits false p unit next = tt
room_numbered_fits true p unit next = room_body_fits unit.body p.step next

pub room_fits : (turn : Option Pending) (unit : RpcUnit) (next : ℕ) → HeardFits (hear_room turn unit next) (step_in turn)
room_fits None unit next = tt
room_fits (Some p) unit next = room_numbered_fits (unit.call == p.number) p unit next

next_fits : (q : Question) (frames : Option (List (List ℕ))) (turn : Option Step) → (c : Call) × (turn ≡ Some (step.Bind c)) × (q ≡ question_of c) → HeardFits (next_if q frames) turn
next_fits q None turn of = tt
next_fits q (Some frames) turn of = of

set_next_fits : (frames : Option (List (List ℕ))) (turn : Option Step) → (c : SetCall) × (turn ≡ Some (step.Set (set_step.Bind c))) → HeardFits (set_next_if frames) turn
set_next_fits None turn of = tt
set_next_fits (Some frames) turn of = of

sealed_fits : (h : Hearing) (g : Sealing) (turn : Option Step) → HeardFits h turn → HeardFits (seal_heard h g).0 turn
sealed_fits hearing.Skip g turn of = tt
sealed_fits (hearing.Next q frames) g turn of = next_fits q (frames_left (seal_all g.seal g.confounder frames)) turn of
sealed_fits (hearing.Reply q r) g turn of = of
sealed_fits (hearing.Drop cause) g turn of = tt
sealed_fits (hearing.Set (set_hearing.Next frames)) g turn of = set_next_fits (frames_left (seal_all g.seal g.confounder frames)) turn of
sealed_fits (hearing.Set (set_hearing.Reply r)) g turn of = of

pub heard_by_fits : (how : Standing) (g : Sealing) (turn : Option Pending) (unit : RpcUnit) (next : ℕ) → HeardFits (heard_by how g turn unit next).0 (step_in turn)
heard_by_fits standing.Nothing g turn unit next = heard_fits turn unit next
heard_by_fits (standing.Half client server) g turn unit next = heard_fits turn unit next
heard_by_fits (standing.Open o) g turn unit next = sealed_fits (hear_room turn unit next) g (step_in turn) (room_fits turn unit next)

-- ---- the whole

sealed_acting : (controller : ℕ) (heard : Hearing) (s : Requester) → HeardFits heard (step_in s.turn) → IsCoherent s →
    HasEffect controller (effect_sealed controller heard s) s (act_sealed heard s).state
sealed_acting controller hearing.Skip s h c = acting controller hearing.Skip s h c
sealed_acting controller (hearing.Next q frames) s h c = acting controller (hearing.Next q frames) s h c
sealed_acting controller (hearing.Reply q r) s h c =
    (replying controller s (step_in s.turn) q r h c.matches, sealed_coherent (judge_sealed q r s.standing s.caller.secret) s c)
sealed_acting controller (hearing.Drop cause) s h c = acting controller (hearing.Drop cause) s h c
sealed_acting controller (hearing.Set what) s h c = acting controller (hearing.Set what) s h c

-- the effect doesn't tell what is kept to seal
effect_alike : (controller : ℕ) (heard : Hearing) (s : Requester) (kept : Option Sealing) →
    effect_sealed controller heard (record s { sealing = kept }) ≡ effect_sealed controller heard s
effect_alike controller hearing.Skip s kept = refl
effect_alike controller (hearing.Next q frames) s kept = refl
effect_alike controller (hearing.Reply q r) s kept = refl
effect_alike controller (hearing.Drop cause) s kept = refl
effect_alike controller (hearing.Set (set_hearing.Next frames)) s kept = refl
effect_alike controller (hearing.Set (set_hearing.Reply r)) s kept = refl

taken_with : (controller : ℕ) (kept : Option Sealing) (s : Requester) (unit : RpcUnit) → IsCoherent s →
    HasEffect controller (effect_of_take_with controller kept s unit) s (take_with kept s unit).state
taken_with controller None s unit c = steps_have_effects.take controller s unit c
taken_with controller (Some g) s unit c =
    let heard : Hearing × Sealing = heard_by s.standing g s.turn unit s.next_call in
    let t : Requester = record s { sealing = Some heard.1 } in
    let done = sealed_acting controller heard.0 t (heard_by_fits s.standing g s.turn unit s.next_call) (coherent_with s (Some heard.1) c) in (
      subst (λ effect. Changes effect (view_of controller s) (view_of controller (act_sealed heard.0 t).state)) (effect_alike controller heard.0 s (Some heard.1)) done.0,
      done.1,
    )

unsealed : (controller : ℕ) (kept : Option Sealing) (s : Requester) (unit : List ℕ) (from to : ℕ) → IsCoherent s → HasEffect controller Stays s (unseal_with kept s unit from to).state
unsealed controller None s unit from to c = (refl, c)
unsealed controller (Some g) s unit from to c = (refl, coherent_with s _ c)

pub any_step_has_its_effect : ChannelsHaveEffects
any_step_has_its_effect = record {
  fresh = λ sealing caller. record { matches = tt; first = tt; places = tt; few = omega arith };
  start = λ controller s timestamp challenge c. started controller s.sealing s timestamp challenge c;
  take = λ controller s unit c. taken_with controller s.sealing s unit c;
  unseal = λ controller s unit from to c. unsealed controller s.sealing s unit from to c;
}
