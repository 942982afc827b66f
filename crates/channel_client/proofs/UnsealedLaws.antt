-- A channel that seals nothing stays one, and goes as if none could seal. It serves `plain_channels_stay`.
use Rattle.std.proofs.Common.{◌≡◌, ℕ, Bool, true, false, List, [], ◌∷◌, Option, Some, None, Ok, Err, nat_le, length, refl, ap}
use Rattle.logon_stubs.specs.declared.info.NetworkInfo.{NetworkInfo}
use Rattle.channel_client.specs.Machine.{SetOutcome, act, ask_by, hear, judge, judge_set, settle, settle_set, start_by, waiting_limit}
use Rattle.channel_client.specs.Sealed.{draws_challenge, start_with, take_with}
use Rattle.channel_client.specs.State.{Requester}
use Rattle.channel_client.specs.Unsealed.{PlainChannelsStay}
use Rattle.channel_client.specs.declared.hearing.Hearing.{Hearing}
use Rattle.channel_client.specs.declared.hearing.Hearing.TheVariants as hearing
use Rattle.channel_client.specs.declared.hearing.SetHearing.TheVariants as set_hearing
use Rattle.channel_client.specs.declared.judging.Judgement.{Judgement}
use Rattle.channel_client.specs.declared.judging.Judgement.TheVariants as judgement
use Rattle.channel_client.specs.declared.state.Pending.{Pending}
use Rattle.channel_client.specs.declared.state.Sealing.{Sealing}
use Rattle.channel_client.specs.declared.state.Waiting.{Waiting}

asked_same : (full : Bool) (s : Requester) (info : NetworkInfo) → (ask_by full s info).state.sealing ≡ s.sealing
asked_same true s info = refl
asked_same false s info = refl

started_same : (turn : Option Pending) (logons : List Waiting) (s : Requester) (timestamp : ℕ) (challenge : List ℕ) → (start_by turn logons s timestamp challenge).state.sealing ≡ s.sealing
started_same (Some p) logons s timestamp challenge = refl
started_same None [] s timestamp challenge = refl
started_same None (logon ∷ logons) s timestamp challenge = refl

settled_same : (j : Judgement) (s : Requester) → (settle j s).state.sealing ≡ s.sealing
settled_same (judgement.Half client server) s = refl
settled_same (judgement.Opened o) s = refl
settled_same (judgement.Answer o v) s = refl
settled_same (judgement.Drop cause) s = refl

set_same : (judged : SetOutcome) (s : Requester) → (settle_set judged s).state.sealing ≡ s.sealing
set_same (Ok o) s = refl
set_same (Err cause) s = refl

pub acted_same : (h : Hearing) (s : Requester) → (act h s).state.sealing ≡ s.sealing
acted_same hearing.Skip s = refl
acted_same (hearing.Next q frames) s = refl
acted_same (hearing.Reply q r) s = settled_same (judge q r s.standing s.caller.secret) s
acted_same (hearing.Drop cause) s = refl
acted_same (hearing.Set (set_hearing.Next frames)) s = refl
acted_same (hearing.Set (set_hearing.Reply r)) s = set_same (judge_set r s.standing) s

pub plain_channels_stay : PlainChannelsStay
plain_channels_stay = record {
  made = λ caller domain computer. refl;
  draws = λ s is. ap (λ (kept : Option Sealing). draws_challenge kept s.standing) is;
  start = λ s timestamp challenge is. ap (λ (kept : Option Sealing). start_with kept s timestamp challenge) is;
  take = λ s unit is. ap (λ (kept : Option Sealing). take_with kept s unit) is;
  fresh = λ caller. refl;
  asked = λ s info. asked_same (nat_le waiting_limit (length s.waiting)) s info;
  started = λ s timestamp challenge. started_same s.turn s.waiting s timestamp challenge;
  taken = λ s unit. acted_same (hear s.turn unit s.next_call) s;
  lost = λ s. refl;
  another = λ s secret. refl;
  set_next = λ s next. refl;
}
