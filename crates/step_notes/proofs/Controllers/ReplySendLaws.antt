-- What a controller sends where a call on a secure channel passes.
-- It serves `grants_carry_their_key`, `replies_are_sent_as_judged`.
use Rattle.std.proofs.Common.{◌≡◌, ℕ, true, List, ◌∷◌, [], ◌++◌, drop, length, Some, ap, ◌∙◌}
use Rattle.outside.specs.declared.action.Action.{Action}
use Rattle.outside.specs.declared.action.Action.TheVariants as action
use Rattle.outside.specs.declared.action.Judged.TheVariants as judged
use Rattle.rpc_units.specs.Calls.{bytes_of_call}
use Rattle.end_links.specs.Sending.{response_of}
use Rattle.authenticators.specs.Sequences.{return_of}
use Rattle.authenticators.specs.SecureChannels.{key_of_channel}
use Rattle.domain_controller.specs.Laws.{IsNext}
use Rattle.domain_controller.specs.Machine.{Desk, answer_judged}
use Rattle.controller_calls.specs.Calls.{asked_of, computer_named, given_in}
use Rattle.controller_calls.specs.Doing.{IsDoneAs, done_by, kept_asked, move_on}
use Rattle.controller_calls.specs.declared.calls.JudgedCall.{JudgedCall}
use Rattle.controller_calls.specs.declared.line.Line.{Line}
use Rattle.controller_calls.proofs.DoneLaws.{does_what_passes}
use Rattle.step_notes.specs.ControllerNotes.{Where, has_passed, judging_of, new_actions}
use Rattle.step_notes.specs.Judged.{IsNextOn}
use Rattle.step_notes.specs.Records.{Judging}
use Rattle.step_notes.specs.ReplySends.{done_on, stub_passed}
use Rattle.step_notes.proofs.Controllers.JudgedStepLaws.{dropped, next_of, on_next, told_call, told_right}

-- the step at which the call passed did no more and no less than that, on the channel that the call is checked on: the
-- text that it keeps, its one judgement, and the frames of its reply
pub record IsSentAsPassed (j : Judging) (line : Line) (new : List Action) : Type 0 where
  pub next : IsNextOn j.checks (given_in j.asked)
  pub actions : new
      ≡ kept_asked (asked_of j.asked) (done_on j next.channel)
      ++ action.Judged (judged.Passed (done_on j next.channel).status)
      ∷ action.Send line.link (bytes_of_call (response_of line.call line.context (stub_passed j next.channel next.given)) line.limit)
      ∷ []

module _ (w : Where) (line : Line) (c : JudgedCall) (d : Desk) where
  abbrev after : Desk
  after = answer_judged c w.name w.moment line d

  next_sends : IsNext d.work.computers (computer_named c) (given_in c) → IsSentAsPassed (judging_of w line c d (Some after)) line (new_actions (Some after) d)
  next_sends next =
      let key : List ℕ = key_of_channel next.channel in
      let so : IsDoneAs (asked_of c) line key (return_of key next.channel.seed next.given.timestamp) (done_by c next.channel w.name d.table w.moment d.work.computers.sessions)
      (move_on next.computer next.channel next.given d) after = does_what_passes.passed c w.name w.moment line d next in
      record {
        next = on_next (computer_named c) d.work.computers (given_in c) next;
        actions = ap (λ (all : List Action). drop (length d.work.actions) all) so.actions ∙ dropped d.work.actions _;
      }

  -- a call that passes is sent that reply
  pub passed_sends : has_passed (judging_of w line c d (Some after)).how ≡ true → IsSentAsPassed (judging_of w line c d (Some after)) line (new_actions (Some after) d)
  passed_sends passed =
      next_sends
      (next_of (computer_named c) d.work.computers (given_in c)
      ((told_right d.work.actions after.work.actions (judging_of w line c d (Some after)).checks (given_in c) line (told_call c w.name w.moment line d)).passed.0 passed))
