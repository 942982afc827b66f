-- One turn is out at a time.
use Rattle.std.proofs.Common.{◌≡◌, ℕ, Bool, true, false, List, [], ◌∷◌, Option, Some, None, Ok, Err, is_some, nat_le, length, refl, sym, ap}
use Rattle.logon_stubs.specs.declared.info.NetworkInfo.{NetworkInfo}
use Rattle.channel_client.specs.State.{Requester}
use Rattle.channel_client.specs.Machine.{SetOutcome, Beginning, begin_with, with_turn, needs_challenge, can_start, ask_by, start_by, hear, judge, judge_set, act, settle, settle_set}
use Rattle.channel_client.specs.Turns.{is_out, gives_right, OneTurn}
use Rattle.channel_client.specs.declared.caller.Caller.{Caller}
use Rattle.channel_client.specs.declared.state.Standing.{Standing}
use Rattle.channel_client.specs.declared.state.Standing.TheVariants as standing
use Rattle.channel_client.specs.declared.state.Pending.{Pending}
use Rattle.channel_client.specs.declared.state.Waiting.{Waiting}
use Rattle.channel_client.specs.declared.hearing.Hearing.{Hearing}
use Rattle.channel_client.specs.declared.hearing.Hearing.TheVariants as hearing
use Rattle.channel_client.specs.declared.hearing.SetHearing.TheVariants as set_hearing
use Rattle.channel_client.specs.declared.judging.Judgement.{Judgement}
use Rattle.channel_client.specs.declared.judging.Judgement.TheVariants as judgement

out_after_ask : (full : Bool) (s : Requester) (info : NetworkInfo) → is_out (ask_by full s info).state ≡ is_out s
out_after_ask true s info = refl
out_after_ask false s info = refl

answer_there : (turn : Option Pending) (logons : List Waiting) (s : Requester) (timestamp : ℕ) (challenge : List ℕ) →
    is_some (start_by turn logons s timestamp challenge).answer ≡ can_start turn logons
answer_there (Some p) logons s timestamp challenge = refl
answer_there None [] s timestamp challenge = refl
answer_there None (logon ∷ logons) s timestamp challenge = refl

out_after_start : (turn : Option Pending) (logons : List Waiting) (s : Requester) (timestamp : ℕ) (challenge : List ℕ) →
    can_start turn logons ≡ true → (is_some turn ≡ false) × (is_out (start_by turn logons s timestamp challenge).state ≡ true)
out_after_start (Some p) logons s timestamp challenge can = absurd cc
out_after_start None [] s timestamp challenge can = absurd cc
out_after_start None (logon ∷ logons) s timestamp challenge can = (refl, refl)

same_after_start : (turn : Option Pending) (logons : List Waiting) (s : Requester) (timestamp : ℕ) (challenge : List ℕ) →
    can_start turn logons ≡ false → (start_by turn logons s timestamp challenge).state ≡ s
same_after_start (Some p) logons s timestamp challenge can = refl
same_after_start None [] s timestamp challenge can = refl
same_after_start None (logon ∷ logons) s timestamp challenge can = absurd cc

pub right_settled : (j : Judgement) (s : Requester) → gives_right (settle j s).taken ≡ is_out (settle j s).state
right_settled (judgement.Half client server) s = refl
right_settled (judgement.Opened o) s = refl
right_settled (judgement.Answer o v) s = refl
right_settled (judgement.Drop cause) s = refl

right_set : (judged : SetOutcome) (s : Requester) → gives_right (settle_set judged s).taken ≡ is_out (settle_set judged s).state
right_set (Ok o) s = refl
right_set (Err cause) s = refl

pub right_back : (heard : Hearing) (s : Requester) → is_out s ≡ true → gives_right (act heard s).taken ≡ is_out (act heard s).state
right_back hearing.Skip s out = sym out
right_back (hearing.Next q frames) s out = refl
right_back (hearing.Reply q r) s out = right_settled (judge q r s.standing s.caller.secret) s
right_back (hearing.Drop cause) s out = refl
right_back (hearing.Set (set_hearing.Next frames)) s out = refl
right_back (hearing.Set (set_hearing.Reply r)) s out = right_set (judge_set r s.standing) s

begun_unread : (how : Standing) (next : Option (List ℕ)) (caller : Caller) (info : NetworkInfo) (timestamp : ℕ) (one other : List ℕ) →
    needs_challenge how ≡ false → begin_with how next caller info timestamp one ≡ begin_with how next caller info timestamp other
begun_unread standing.Nothing next caller info timestamp one other unread = absurd cc
begun_unread (standing.Half client server) next caller info timestamp one other unread = refl
begun_unread (standing.Open o) next caller info timestamp one other unread = refl

challenge_unread : (turn : Option Pending) (logons : List Waiting) (s : Requester) (timestamp : ℕ) (one other : List ℕ) →
    needs_challenge s.standing ≡ false → start_by turn logons s timestamp one ≡ start_by turn logons s timestamp other
challenge_unread (Some p) logons s timestamp one other unread = refl
challenge_unread None [] s timestamp one other unread = refl
challenge_unread None (logon ∷ logons) s timestamp one other unread =
    ap (λ (b : Beginning). with_turn s logon.place b) (begun_unread s.standing s.next s.caller logon.info timestamp one other unread)

pub one_turn : OneTurn
one_turn = record {
  fresh = λ caller. refl;
  ask = λ s info. out_after_ask (nat_le 64 (length s.waiting)) s info;
  start = λ s timestamp challenge. answer_there s.turn s.waiting s timestamp challenge;
  started = λ s timestamp challenge can. out_after_start s.turn s.waiting s timestamp challenge can;
  unstarted = λ s timestamp challenge can. same_after_start s.turn s.waiting s timestamp challenge can;
  take = λ s unit out. right_back (hear s.turn unit s.next_call) s out;
  lose = λ s. refl;
  use_secret = λ s secret. refl;
  set_next = λ s next. refl;
  challenge = λ s timestamp one other unread. challenge_unread s.turn s.waiting s timestamp one other unread;
}
