-- The sessions of a controller change by what the calls come to that pass there, and by nothing else.
-- It serves `Proved.sessions` and `Proved.let_on`.
use Rattle.std.proofs.Common.{◌≡◌, ℕ, Bool, List, [], Option, Some, None, inl, inr, refl, sym, ap, subst, ◌∙◌}
use Rattle.outside.specs.declared.event.Event.TheVariants as event
use Rattle.interactive_logon.specs.declared.sessions.Session.{Session}
use Rattle.authenticators.specs.SecureChannels.{SecureChannelState}
use Rattle.authenticators.specs.SecureChannels.{key_of_channel}
use Rattle.account_table.specs.AccountTable.{AccountTable}
use Rattle.logon_stubs.specs.declared.info.NetworkInfo.{NetworkInfo}
use Rattle.controller_calls.specs.Calls.{asked_of}
use Rattle.controller_calls.specs.Doing.{computer_or_none, done_asked, done_by}
use Rattle.controller_calls.specs.declared.calls.Asked.{Asked}
use Rattle.controller_calls.specs.declared.calls.Asked.TheVariants as asked
use Rattle.controller_calls.specs.declared.calls.JudgedCall.{JudgedCall}
use Rattle.controller_calls.specs.declared.state.Computers.{Computers}
use Rattle.domain_controller.specs.State.{State as ControllerState}
use Rattle.domain_controller.specs.TrustStep.{trust_step_of as step_of}
use Rattle.domain_controller.specs.declared.state.Running.{Running}
use Rattle.step_notes.specs.ControllerNotes.{Answered, Where, has_passed}
use Rattle.step_notes.specs.Records.{Judging, computer_named, given_in}
use Rattle.world_moves.specs.declared.state.State.{State}
use Rattle.domain_world.specs.Claims.Sessions.{sessions_behind, sessions_if, sessions_on}
use Rattle.domain_world.specs.Past.{Delivery, answers_of, at_controller}
use Rattle.step_notes.proofs.Controllers.JudgedStepLaws.{on_next}
use Rattle.step_notes.proofs.Controllers.NotedLaws.{NotedFact}
use Rattle.step_notes.proofs.Controllers.TrustNotedLaws.{trust_step_says}
use Rattle.step_notes.proofs.Controllers.TrustedStepLaws.{OfBase, trusted_how, trusting_stays}
use Rattle.domain_world.proofs.Judgements.ChainLaws.{AreChained, Chains, FollowsCalls, FollowsTrusts, Ledger, its_judging, done_or_refused, left_behind, trusting_chains}
use Rattle.domain_world.proofs.Judgements.JudgedLaws.{trusted_judging}

-- ---- the sessions, as calls on channels change them

abbrev pub kept_sessions : Ledger (List Session)
kept_sessions = record { of = λ d. d.work.computers.sessions; before = λ j. j.sessions; behind = λ j. sessions_behind j }

sessions_follow : FollowsCalls kept_sessions
sessions_follow = record {
  stays = λ table old new same. same;
  by = λ w line c d. refl;
  leaves = λ w line c d.
      let j : Judging = its_judging w line c d in
      elim (done_or_refused w line c d) [
        | inl done ↦
            done.2.sessions
            ∙ ap (λ (found : Option SecureChannelState). sessions_on found j) (sym (on_next (computer_named c) d.work.computers (given_in c) done.0).stands)
            ∙ ap (λ (passed : Bool). sessions_if passed j) (sym done.1)
        | inr refused ↦ refused.1.sessions ∙ ap (λ (passed : Bool). sessions_if passed j) (sym refused.0)
      ];
}

-- a logon for a trust leaves them
network_leaves : (c : JudgedCall) (channel : SecureChannelState) (name : List ℕ) (table : AccountTable) (now : ℕ) (sessions : List Session) (info : NetworkInfo) (validation : ℕ) →
    asked_of c ≡ asked.Network info validation → (done_by c channel name table now sessions).sessions ≡ sessions
network_leaves c channel name table now sessions info validation asks =
    ap (λ (what : Asked). (done_asked what (computer_or_none (computer_named c)) (key_of_channel channel) name table now sessions).sessions) asks

sessions_trusting : FollowsTrusts kept_sessions
sessions_trusting = record {
  by = λ w line c d after. refl;
  leaves = λ w line c d after is.
      let j : Judging = trusted_judging w line c d after in
      ap (λ (computers : Computers). computers.sessions) is.computers
      ∙ sym (network_leaves c is.goes.next.channel w.name d.table w.moment d.work.work.computers.sessions is.goes.info is.goes.validation is.goes.asks)
      ∙ ap (λ (found : Option SecureChannelState). sessions_on found j) (sym (on_next (computer_named c) d.work.work.computers (given_in c) is.goes.next).stands)
      ∙ ap (λ (passed : Bool). sessions_if passed j) (sym (ap has_passed (trusted_how c d after is) ∙ is.passed));
}

-- ---- a step

-- of a controller that hasn't stopped
abbrev pub RunsWith : List Session → Option Running → Type 0
RunsWith sessions None = Unit {0}
RunsWith sessions (Some running) = running.computers.sessions ≡ sessions

-- where the step is taken these were its answers, and else none
pub record StepChains (w : Where) (before : List Session) (answers : List Answered) (after : Option Running) : Type 0 where
  pub chained : AreChained kept_sessions w before answers
  pub runs : RunsWith (left_behind kept_sessions before answers) after

-- a controller that has stopped judges nothing
abbrev pub RunningChains : Where → Option Running → List Answered → Option Running → Type 0
RunningChains w None answers after = (answers ≡ []) × (after ≡ None)
RunningChains w (Some running) answers after = StepChains w running.computers.sessions answers after

spent_chains : (w : Where) (running : Option Running) → RunningChains w running [] None
spent_chains w None = (refl, refl)
spent_chains w (Some running) = record { chained = tt; runs = tt }

pub step_chains : (controller : ℕ) (c : ControllerState) (w : Delivery) (piece : List ℕ) (s : State) →
    RunningChains (at_controller controller c w s) c.running (answers_of controller c w piece s) (step_of c (event.Bytes w.link piece) s.moment s.chances.left).state.running
step_chains controller c w piece s =
    let at : Where = at_controller controller c w s in
    let Holds : Running → NotedFact = λ running answers d left. Chains kept_sessions at running.computers.sessions answers d.work.computers.sessions in
    trust_step_says at w.link c piece s.moment s.chances.left (λ running. OfBase (Holds running)) (λ answers stepped. RunningChains at c.running answers stepped.state.running) (record {
      stays = λ running. trusting_stays at w.link (Holds running) (trusting_chains kept_sessions sessions_follow at running.computers.sessions w.link sessions_trusting);
      first = λ running runs. (tt, refl);
      stopped = λ ends. subst (λ (running : Option Running). RunningChains at running [] c.running) (sym ends) (refl, ends);
      spent = spent_chains at c.running;
      turn = λ running actions last links t runs on all fewer.
          subst (λ (before : Option Running). RunningChains at before [] (Some (record { computers = running.computers; links = links }))) (sym runs)
          (record { chained = tt; runs = refl });
      taken = λ running answers d rest last links dial t runs chains fewer.
          subst (λ (before : Option Running). RunningChains at before answers (Some (record { computers = d.work.work.computers; links = links }))) (sym runs)
          (record { chained = chains.0; runs = chains.1 });
    })
