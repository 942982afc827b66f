-- The law `what_passes_is_done`, by what a call on a channel comes to.
use Rattle.std.proofs.Common.{◌≡◌, ℕ, List, subst, ap, ◌∙◌}
use Rattle.wire_base.specs.Maps.{lookup}
use Rattle.wire_base.specs.Names.{same_name}
use Rattle.authenticators.specs.SecureChannels.{SecureChannelState}
use Rattle.outside.specs.declared.action.Judged.{Judged}
use Rattle.controller_calls.specs.Asking.{answer_judged}
use Rattle.controller_calls.specs.Calls.{computer_named, given_in}
use Rattle.controller_calls.specs.Desk.{Desk}
use Rattle.controller_calls.specs.Doing.{DoesWhatPasses, IsRefusedCall, how_refused}
use Rattle.controller_calls.specs.Passing.{IsNext}
use Rattle.controller_calls.specs.declared.calls.JudgedCall.{JudgedCall}
use Rattle.controller_calls.specs.declared.line.Line.{Line}
use Rattle.controller_calls.specs.declared.state.Computers.{Computers}
use Rattle.controller_calls.proofs.OutcomeLaws.{IsRefusedAs, IsTurnedAway, JudgedComes, Passes, Refused, WhyRefused, Bare, Barred, asked_done, asked_refused, judged_comes, passed_so}
use Rattle.controller_calls.proofs.RefusalLaws.{put_back}
pub use Rattle.controller_calls.proofs.OutcomeLaws.{IsRefusedAs, asked_done, asked_refused, texts_kept}

-- ---- a call that doesn't pass

-- each computer has the channel of before
pub channels_left : (c : JudgedCall) (computers : Computers) (how : Judged) (channels : List (List ℕ × SecureChannelState)) (other : List ℕ) → WhyRefused c computers how channels →
    lookup same_name other channels ≡ lookup same_name other computers.channels
channels_left c computers how channels other (Bare none is same) = ap (λ (entries : List (List ℕ × SecureChannelState)). lookup same_name other entries) same
channels_left c computers how channels other (Barred by is back) =
    ap (λ (entries : List (List ℕ × SecureChannelState)). lookup same_name other entries) back ∙ put_back by.computer other by.channel computers.channels by.stands

refused_so : (c : JudgedCall) (line : Line) (how : Judged) (d after : Desk) → IsTurnedAway c line how d after → IsRefusedCall line d after
refused_so c line how d after away = record {
  table = away.table;
  sessions = away.sessions;
  pending = away.pending;
  channels = λ other. channels_left c d.work.computers how after.work.computers.channels other away.why;
  how = how;
  not_passed = away.not_passed;
  answer = _;
  actions = away.actions;
}

away_so : (c : JudgedCall) (name : List ℕ) (now : ℕ) (line : Line) (d after : Desk) → (IsNext d.work.computers (computer_named c) (given_in c) → ⊥) → JudgedComes c name now line d after →
    IsTurnedAway c line (how_refused (computer_named c) (given_in c) d.work.computers) d after
away_so c name now line d after not (Passes next is) = absurd (not next)
away_so c name now line d after not (Refused how away) = subst (λ (h : Judged). IsTurnedAway c line h d after) away.is_how away

pub does_what_passes : DoesWhatPasses
does_what_passes = record {
  passed = λ c name now line d next. passed_so c name now line d (answer_judged c name now line d) next (judged_comes c name now line d);
  refused = λ c name now line d not.
      refused_so c line (how_refused (computer_named c) (given_in c) d.work.computers) d (answer_judged c name now line d)
      (away_so c name now line d (answer_judged c name now line d) not (judged_comes c name now line d));
  denied = λ c name now line d not. (away_so c name now line d (answer_judged c name now line d) not (judged_comes c name now line d)).actions;
}
