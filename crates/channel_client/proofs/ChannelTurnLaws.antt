-- One turn is out at a time, on any channel. It serves `any_channel_has_one_turn`.
use Rattle.std.proofs.Common.{◌≡◌, ℕ, Bool, true, false, List, [], ◌∷◌, Option, Some, None, is_some, refl, sym, ap, ◌∙◌}
use Rattle.rpc_units.specs.declared.unit.Unit.{Unit as RpcUnit}
use Rattle.logon_stubs.specs.declared.info.NetworkInfo.{NetworkInfo}
use Rattle.channel_client.specs.AnyChannel.{ChannelsHaveOneTurn}
use Rattle.channel_client.specs.Machine.{Beginning, can_start}
use Rattle.channel_client.specs.Sealed.{act_sealed, begin_sealed, draws_challenge, heard_by, judge_sealed, keep_confounder, sealed_start_by, sealed_turn, settle_sealed, start_with, take_with, unseal_with}
use Rattle.channel_client.specs.Sealing.{is_opened}
use Rattle.channel_client.specs.State.{Requester}
use Rattle.channel_client.specs.Turns.{gives_right, is_out}
use Rattle.channel_client.proofs.TurnLaws.{one_turn, right_back}
use Rattle.channel_client.specs.declared.caller.Caller.{Caller}
use Rattle.channel_client.specs.declared.hearing.Hearing.{Hearing}
use Rattle.channel_client.specs.declared.hearing.Hearing.TheVariants as hearing
use Rattle.channel_client.specs.declared.judging.Judgement.{Judgement}
use Rattle.channel_client.specs.declared.judging.Judgement.TheVariants as judgement
use Rattle.channel_client.specs.declared.state.Pending.{Pending}
use Rattle.channel_client.specs.declared.state.Sealing.{Sealing}
use Rattle.channel_client.specs.declared.state.Standing.{Standing}
use Rattle.channel_client.specs.declared.state.Standing.TheVariants as standing
use Rattle.channel_client.specs.declared.state.Waiting.{Waiting}

-- ---- a turn that starts

sealed_answer : (turn : Option Pending) (logons : List Waiting) (value : List ℕ) (s : Requester) (timestamp : ℕ) (challenge : List ℕ) →
    is_some (sealed_start_by turn logons value s timestamp challenge).answer ≡ can_start turn logons
sealed_answer (Some p) logons value s timestamp challenge = refl
sealed_answer None [] value s timestamp challenge = refl
sealed_answer None (logon ∷ logons) value s timestamp challenge = refl

answer_there : (kept : Option Sealing) (s : Requester) (timestamp : ℕ) (challenge : List ℕ) → is_some (start_with kept s timestamp challenge).answer ≡ can_start s.turn s.waiting
answer_there None s timestamp challenge = one_turn.start s timestamp challenge
answer_there (Some g) s timestamp challenge = sealed_answer s.turn s.waiting g.bind_value s timestamp challenge

sealed_out : (turn : Option Pending) (logons : List Waiting) (value : List ℕ) (s : Requester) (timestamp : ℕ) (challenge : List ℕ) → can_start turn logons ≡ true →
    (is_some turn ≡ false) × (is_out (sealed_start_by turn logons value s timestamp challenge).state ≡ true)
sealed_out (Some p) logons value s timestamp challenge can = absurd cc
sealed_out None [] value s timestamp challenge can = absurd cc
sealed_out None (logon ∷ logons) value s timestamp challenge can = (refl, refl)

out_after : (kept : Option Sealing) (s : Requester) (timestamp : ℕ) (challenge : List ℕ) → can_start s.turn s.waiting ≡ true →
    (is_out s ≡ false) × (is_out (start_with kept s timestamp challenge).state ≡ true)
out_after None s timestamp challenge can = one_turn.started s timestamp challenge can
out_after (Some g) s timestamp challenge can = sealed_out s.turn s.waiting g.bind_value s timestamp challenge can

sealed_same : (turn : Option Pending) (logons : List Waiting) (g : Sealing) (opened : Bool) (s : Requester) (timestamp : ℕ) (challenge : List ℕ) → can_start turn logons ≡ false →
    (keep_confounder g opened challenge (sealed_start_by turn logons g.bind_value s timestamp challenge)).state ≡ record s { sealing = Some g }
sealed_same (Some p) logons g opened s timestamp challenge can = refl
sealed_same None [] g opened s timestamp challenge can = refl
sealed_same None (logon ∷ logons) g opened s timestamp challenge can = absurd cc

same_after : (kept : Option Sealing) (s : Requester) (timestamp : ℕ) (challenge : List ℕ) → can_start s.turn s.waiting ≡ false → s.sealing ≡ kept →
    (start_with kept s timestamp challenge).state ≡ s
same_after None s timestamp challenge can is = one_turn.unstarted s timestamp challenge can
same_after (Some g) s timestamp challenge can is =
    sealed_same s.turn s.waiting g (is_opened s.standing) s timestamp challenge can ∙ ap (λ (kept : Option Sealing). record s { sealing = kept }) (sym is)

-- ---- a unit that is taken

sealed_right : (j : Judgement) (s : Requester) → gives_right (settle_sealed j s).taken ≡ is_out (settle_sealed j s).state
sealed_right (judgement.Half client server) s = refl
sealed_right (judgement.Opened o) s = refl
sealed_right (judgement.Answer o v) s = refl
sealed_right (judgement.Drop cause) s = refl

acted_right : (heard : Hearing) (s : Requester) → is_out s ≡ true → gives_right (act_sealed heard s).taken ≡ is_out (act_sealed heard s).state
acted_right hearing.Skip s out = right_back hearing.Skip s out
acted_right (hearing.Next q frames) s out = right_back (hearing.Next q frames) s out
acted_right (hearing.Reply q r) s out = sealed_right (judge_sealed q r s.standing s.caller.secret) s
acted_right (hearing.Drop cause) s out = right_back (hearing.Drop cause) s out
acted_right (hearing.Set what) s out = right_back (hearing.Set what) s out

right_taken : (kept : Option Sealing) (s : Requester) (unit : RpcUnit) → is_out s ≡ true → gives_right (take_with kept s unit).taken ≡ is_out (take_with kept s unit).state
right_taken None s unit out = one_turn.take s unit out
right_taken (Some g) s unit out =
    let heard : Hearing × Sealing = heard_by s.standing g s.turn unit s.next_call in acted_right heard.0 (record s { sealing = Some heard.1 }) out

unsealed_out : (kept : Option Sealing) (s : Requester) (unit : List ℕ) (from to : ℕ) → is_out (unseal_with kept s unit from to).state ≡ is_out s
unsealed_out None s unit from to = refl
unsealed_out (Some g) s unit from to = refl

-- ---- a challenge that isn't drawn isn't looked at

begun_unread : (how : Standing) (g : Sealing) (next : Option (List ℕ)) (caller : Caller) (info : NetworkInfo) (timestamp : ℕ) (one other : List ℕ) →
    draws_challenge (Some g) how ≡ false →
    begin_sealed how next caller info timestamp one ≡ begin_sealed how next caller info timestamp other
begun_unread standing.Nothing g next caller info timestamp one other unread = absurd cc
begun_unread (standing.Half client server) g next caller info timestamp one other unread = refl
begun_unread (standing.Open o) g next caller info timestamp one other unread = absurd cc

sealed_unread : (turn : Option Pending) (logons : List Waiting) (g : Sealing) (s : Requester) (timestamp : ℕ) (one other : List ℕ) → draws_challenge (Some g) s.standing ≡ false →
    keep_confounder g false one (sealed_start_by turn logons g.bind_value s timestamp one) ≡ keep_confounder g false other (sealed_start_by turn logons g.bind_value s timestamp other)
sealed_unread (Some p) logons g s timestamp one other unread = refl
sealed_unread None [] g s timestamp one other unread = refl
sealed_unread None (logon ∷ logons) g s timestamp one other unread =
    ap (λ (b : Beginning). keep_confounder g false one (sealed_turn g.bind_value s logon.place b))
    (begun_unread s.standing g s.next s.caller logon.info timestamp one other unread)

closed_unless : (g : Sealing) (how : Standing) → draws_challenge (Some g) how ≡ false → is_opened how ≡ false
closed_unless g standing.Nothing is = refl
closed_unless g (standing.Half client server) is = refl
closed_unless g (standing.Open o) is = absurd cc

unread_with : (kept : Option Sealing) (s : Requester) (timestamp : ℕ) (one other : List ℕ) → draws_challenge kept s.standing ≡ false →
    start_with kept s timestamp one ≡ start_with kept s timestamp other
unread_with None s timestamp one other unread = one_turn.challenge s timestamp one other unread
unread_with (Some g) s timestamp one other unread =
    let closed : is_opened s.standing ≡ false = closed_unless g s.standing unread in
    ap (λ (opened : Bool). keep_confounder g opened one (sealed_start_by s.turn s.waiting g.bind_value s timestamp one)) closed
    ∙ sealed_unread s.turn s.waiting g s timestamp one other unread
    ∙ sym (ap (λ (opened : Bool). keep_confounder g opened other (sealed_start_by s.turn s.waiting g.bind_value s timestamp other)) closed)

pub any_channel_has_one_turn : ChannelsHaveOneTurn
any_channel_has_one_turn = record {
  fresh = λ sealing caller. refl;
  start = λ s timestamp challenge. answer_there s.sealing s timestamp challenge;
  started = λ s timestamp challenge can. out_after s.sealing s timestamp challenge can;
  unstarted = λ s timestamp challenge can. same_after s.sealing s timestamp challenge can refl;
  take = λ s unit out. right_taken s.sealing s unit out;
  unseal = λ s unit from to. unsealed_out s.sealing s unit from to;
  challenge = λ s timestamp one other unread. unread_with s.sealing s timestamp one other unread;
}
