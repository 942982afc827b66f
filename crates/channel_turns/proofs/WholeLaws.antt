-- What turns send is whole. It serves `what_turns_send_is_whole`.
use Rattle.std.proofs.Common.{◌≡◌, ℕ, List, [], ◌∷◌, ◌++◌, refl, sym, ap, subst, ◌∙◌, append-nil, append_assoc}
use Rattle.std.specs.List.{AllByRecursion}
use Rattle.outside.specs.declared.action.Action.{Action}
use Rattle.outside.specs.declared.action.Action.TheVariants as action
use Rattle.rpc_units.specs.Stream.{Cut}
use Rattle.end_links.specs.Sending.{joined_frames}
use Rattle.channel_client.specs.Machine.{lose_of, take_of}
use Rattle.channel_client.specs.Whole.{InRangeRequester, IsWholeNext}
use Rattle.channel_client.proofs.WholeLaws.{requesters_send_whole}
use Rattle.channel_turns.specs.declared.state.TurnTalk.{TurnTalk}
use Rattle.channel_turns.specs.declared.state.TurnWork.{TurnWork}
use Rattle.channel_turns.specs.Laws.{IsWholeOn, SendsWhole, TurnsSendWhole}
use Rattle.channel_turns.specs.Turns.{TurnServed, turn_served, with_channel}
use Rattle.channel_turns.proofs.KeepLaws.{taken_by, turn_stays}

all_behind : (P : Action → Type 0) (actions : List Action) (what : Action) → AllByRecursion P actions → P what → AllByRecursion P (actions ++ what ∷ [])
all_behind P [] what all is = (is, tt)
all_behind P (first ∷ actions) what all is = (all.0, all_behind P actions what all.1 is)

module _ (before : TurnWork) where
  abbrev Sends : TurnServed → Type 0
  Sends served = SendsWhole before served.0

  -- a channel that took a unit, or lost its turn
  moved : (at after : TurnWork) → after.actions ≡ at.actions → after.link ≡ at.link → InRangeRequester after.channel → SendsWhole before at → SendsWhole before after
  moved at after actions link range sends = record {
    more = sends.more;
    is = actions ∙ sends.is;
    all = sends.all;
    link = link ∙ sends.link;
    range = range;
  }

  sent : (at : TurnWork) (frames : List (List ℕ)) → IsWholeOn at.link (action.Send at.link (joined_frames frames)) → SendsWhole before at →
      SendsWhole before (record at { actions = at.actions ++ action.Send at.link (joined_frames frames) ∷ [] })
  sent at frames whole sends = record {
    more = sends.more ++ action.Send at.link (joined_frames frames) ∷ [];
    is = ap (λ (a : List Action). a ++ action.Send at.link (joined_frames frames) ∷ []) sends.is
        ∙ append_assoc before.actions sends.more (action.Send at.link (joined_frames frames) ∷ []);
    all = all_behind (IsWholeOn before.link) sends.more (action.Send at.link (joined_frames frames)) sends.all (sends.link, whole.1);
    link = sends.link;
    range = sends.range;
  }

  first_sends : InRangeRequester before.channel → SendsWhole before before
  first_sends range = record { more = []; is = sym (append-nil before.actions); all = tt; link = refl; range = range }

sends_whole : (cut : Cut) (at : TurnWork) (talk : TurnTalk) → InRangeRequester at.channel → SendsWhole at (turn_served cut at talk).0
sends_whole cut before talk range =
    turn_stays (Sends before) (record {
      waits = λ at talk other sends. sends;
      takes = λ unit joiner at talk sends.
          let taking = take_of at.channel unit in
          let takes = requesters_send_whole.take at.channel unit sends.range in
          let after = with_channel taking.state at in
          let moves = moved before at after refl refl takes.0 sends in
          taken_by taking.taken joiner after (Sends before) (record {
            skips = λ right is. moves;
            sends = λ right frames is. sent before after frames (refl, subst IsWholeNext is takes.1) moves;
            ends = λ how is. moved before after (record after { ended = _ }) refl refl takes.0 moves;
          });
      breaks = λ cause at talk sends.
          moved before at (record at { channel = (lose_of at.channel).state; ended = _ }) refl refl
          (requesters_send_whole.lose at.channel sends.range) sends;
    }) cut before talk (first_sends before range)

pub turns_send_whole : TurnsSendWhole
turns_send_whole = record {
  requests = sends_whole;
  lost = λ cause channel range. requesters_send_whole.lose channel range;
}
