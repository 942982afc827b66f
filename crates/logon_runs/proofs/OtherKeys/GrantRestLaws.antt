-- A logon that its member was answered as granted, with whatever key, once nothing waits.
-- Of `grants_rest`.
use Rattle.std.proofs.Common.{◌≡◌, ℕ, List, [], ◌∷◌, length, sym, subst, ◌∙◌, inl, inr}
use Rattle.std.specs.List.{AllByRecursion}
use Rattle.authenticators.specs.SecureChannels.{SecureChannelState, after_call}
use Rattle.logon_stubs.specs.declared.calls.Reply.{Reply}
use Rattle.logon_stubs.specs.declared.info.SamInfo.{SamInfo}
use Rattle.logon_stubs.specs.declared.info.Verdict.TheVariants as verdict
use Rattle.account_table.specs.AccountTable.{AccountTable}
use Rattle.channel_client.specs.declared.judging.Judgement.TheVariants as judgement
use Rattle.channel_client.specs.declared.state.Question.TheVariants as question
use Rattle.channel_client.specs.declared.state.Standing.{Standing}
use Rattle.channel_client.specs.declared.state.Standing.TheVariants as standing
use Rattle.channel_client.specs.Machine.{after as next_number, judge}
use Rattle.world_moves.specs.declared.moves.Move.{Move}
use Rattle.world_moves.specs.declared.moves.Move.TheVariants as move
use Rattle.world_moves.specs.declared.state.State.{State}
use Rattle.world_moves.specs.Moving.{act, onward}
use Rattle.logon_steps.specs.Turning.{IsTurnReply}
use Rattle.logon_runs.specs.OtherKeys.GrantRests.{CanGoOn, GrantsRest, HasSettled, HasShortName, judged_rest, judged_scene}
use Rattle.logon_runs.specs.OtherKeys.LetIn.{GoesOn, HasEndedAt}
use Rattle.logon_runs.specs.Scenes.LinkScenes.{Meeting}
use Rattle.logon_runs.specs.Scenes.Others.{AreAmong, IsStepOn, OthersStay}
use Rattle.logon_runs.specs.Phases.{Arrival, Third, TurnAt, WhoAsked, own, own_keeping, terms_at, turn_before, turn_on}
use Rattle.logon_runs.specs.Rests.{moved_by, three_in}
use Rattle.logon_runs.specs.Runs.{ClientAnswer, message_for}
use Rattle.logon_runs.specs.Scenes.Scene.{Shows}
use Rattle.logon_runs.specs.Failing.TurnedAway.{Settled, settled_in}
use Rattle.logon_runs.specs.Scenes.TurnScenes.{TurnScene}
use Rattle.logon_runs.specs.Scenes.WaitingUnits.{waiting}
use Rattle.logon_runs.proofs.AmongLaws.{no_dial_among, turn_among}
use Rattle.logon_runs.proofs.OtherKeys.LetInLaws.{grants_go_on}
use Rattle.logon_runs.proofs.Scenes.OtherLaws.{others_are_left}
use Rattle.logon_runs.proofs.RunLaws.{between_still}
use Rattle.logon_runs.proofs.Scenes.TwoLinkLaws.{turns_have_links}

-- ---- the moves, one after the other

-- what holds since the reply waited
record IsGoing (p : Arrival) (e : Settled) (left : List (List ℕ)) (s now : State) : Type 0 where
  others : OthersStay (three_in p) s now
  at : GoesOn (settled_in p e) left now

going_on : (p : Arrival) (e : Settled) (left : List (List ℕ)) (s now : State) (what : Move) → IsStepOn what → OthersStay (three_in p) s now → GoesOn (settled_in p e) left now →
    IsGoing p e left s (act now what).state
going_on p e left s now what steps others (inl at) =
    let alone = grants_go_on.alone (settled_in p e) left now at in
    record {
      others = others_are_left.both (three_in p) s now (act now what).state others (others_are_left.steps (three_in p) now what steps alone.0 (no_dial_among p now alone.1));
      at = grants_go_on.goes_on (settled_in p e) left now what steps at;
    }
going_on p e left s now what steps others (inr over) = record {
  others = others_are_left.both (three_in p) s now (act now what).state others
      (others_are_left.steps (three_in p) now what steps (subst (AreAmong (three_in p)) (sym over.shows.opened) tt) (no_dial_among p now over.shows.dials));
  at = inr (grants_go_on.rests (settled_in p e) left now what steps over);
}

all_going : (p : Arrival) (e : Settled) (left : List (List ℕ)) (s now : State) (moves : List Move) → AllByRecursion IsStepOn moves → IsGoing p e left s now → IsGoing p e left s (moved_by moves now)
all_going p e left s now [] steps going = going
all_going p e left s now (what ∷ moves) steps going = all_going p e left s (act now what).state moves steps.1 (going_on p e left s now what steps.0 going.others going.at)

-- a logon of which nothing waits is over
over_so : (g : Meeting) (left : List (List ℕ)) (now : State) → GoesOn g left now → waiting now.bag ≡ [] → HasEndedAt g left now
over_so g left now (inl at) units = absurd (grants_go_on.waits g left now at units)
over_so g left now (inr over) units = over

-- the reply comes, and lets the client in
pub let_in_goes : (p : Arrival) (s : State) (a : ClientAnswer) (who : WhoAsked p a) (v : TurnAt) (o c : SecureChannelState) (timestamp : ℕ) (accounts : AccountTable) (r : Reply)
    (o_then : SecureChannelState) (sam : SamInfo) (left : List (List ℕ)) (moment : ℕ) → CanGoOn p a v → IsTurnReply question.Logon r → HasShortName sam →
    judge question.Logon r (standing.Open (after_call o timestamp)) p.meeting.caller.secret ≡ judgement.Answer o_then (verdict.Granted sam) →
    Shows s (judged_scene p a who v o c timestamp accounts r left moment) → GoesOn (settled_in p (judged_rest p a who v o c timestamp accounts o_then)) left (onward s).state
let_in_goes p s a who v o c timestamp accounts r o_then sam left moment can reply_is short granted shows =
    let how : Standing = standing.Open (after_call o timestamp) in
    let before : TurnScene = turn_before p a who.later (who.sent ∷ []) v in
    let out : TurnScene = turn_on p a who.later (who.sent ∷ []) v (Third o c timestamp) in
    let asked = grants_go_on.asked p a who in
    grants_go_on.granted s (own_keeping p v.secrets) (record (terms_at p a) { session = who.later }) out.info a.challenge (message_for (own p) a) who.sent accounts p.name how o_then out.links out.opened (length v.links)
    (next_number v.next) v.next question.Logon r sam v.computers left moment can.can asked.0 asked.1 short.short short.units can.next_below
    (between_still out accounts (turns_have_links.between (own p) before how can.joined_so)) reply_is granted (turns_have_links.met (own p) before how can.joined_so)
    (turns_have_links.taken (own p) before how can.joined_so) shows

rests_so : (p : Arrival) (s : State) (a : ClientAnswer) (who : WhoAsked p a) (v : TurnAt) (o c : SecureChannelState) (timestamp : ℕ) (accounts : AccountTable) (r : Reply)
    (o_then : SecureChannelState) (sam : SamInfo) (left : List (List ℕ)) (moment : ℕ) → CanGoOn p a v → IsTurnReply question.Logon r → HasShortName sam →
    judge question.Logon r (standing.Open (after_call o timestamp)) p.meeting.caller.secret ≡ judgement.Answer o_then (verdict.Granted sam) →
    Shows s (judged_scene p a who v o c timestamp accounts r left moment) →
    (moves : List Move) → AllByRecursion IsStepOn moves →
    waiting (moved_by moves (onward s).state).bag ≡ [] → HasSettled p s (judged_rest p a who v o c timestamp accounts o_then) (moved_by moves (onward s).state)
rests_so p s a who v o c timestamp accounts r o_then sam left moment can reply_is short granted shows moves steps units =
    let e : Settled = judged_rest p a who v o c timestamp accounts o_then in
    let g : Meeting = settled_in p e in
    let first : GoesOn g left (onward s).state = let_in_goes p s a who v o c timestamp accounts r o_then sam left moment can reply_is short granted shows in
    let others : OthersStay (three_in p) s (onward s).state =
    others_are_left.steps (three_in p) s move.Onward tt (subst (AreAmong (three_in p)) (sym shows.opened) (turn_among p v)) (no_dial_among p s shows.dials) in
    let going : IsGoing p e left s (moved_by moves (onward s).state) = all_going p e left s (onward s).state moves steps (record { others = others; at = first }) in
    let over : HasEndedAt g left (moved_by moves (onward s).state) = over_so g left (moved_by moves (onward s).state) going.at units in
    record {
      outcome = over.outcome;
      left = left;
      moment = over.moment;
      shows = over.shows;
      others = going.others;
      draws = over.shows.left ∙ sym shows.left;
    }

pub grants_rest : GrantsRest
grants_rest = record {
  rests = λ p s a who v o c timestamp accounts r o_then sam left moment can reply_is short granted shows moves steps dials units.
      rests_so p s a who v o c timestamp accounts r o_then sam left moment can reply_is short granted shows moves steps units;
}
