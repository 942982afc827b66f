-- What a member keeps is the text of the secrets that it holds. It serves `what_is_kept_is_held`.
use Rattle.std.proofs.Common.{◌≡◌, ℕ, List, [], ◌∷◌, ◌++◌, Option, Some, Result, Ok, Err, refl, sym, subst, ◌∙◌}
use Rattle.outside.specs.declared.action.Action.{Action}
use Rattle.outside.specs.declared.action.Action.TheVariants as action
use Rattle.outside.specs.declared.action.StepRefused.{StepRefused}
use Rattle.outside.specs.declared.event.Event.{Event}
use Rattle.outside.specs.Machine.{Part, step_by}
use Rattle.end_loop.specs.Runs.{actions_of}
use Rattle.channel_client.specs.declared.answers.Taken.{Taken}
use Rattle.channel_client.specs.declared.answers.Taken.TheVariants as taken
use Rattle.channel_client.specs.Machine.{lose_of, take_of}
use Rattle.channel_turns.specs.declared.state.TurnEnd.{TurnEnd}
use Rattle.secret_change.specs.Secrets.{begin_of}
use Rattle.secret_change.specs.declared.refused.Busy.{Busy}
use Rattle.member_server.specs.declared.outcomes.Ending.{Ending}
use Rattle.member_server.specs.declared.outcomes.Ending.TheVariants as ending
use Rattle.member_server.specs.declared.state.Logons.{Logons}
use Rattle.member_server.specs.declared.state.Running.{Running}
use Rattle.member_server.specs.Keeping.{IsKeptUnlessStopped, KeepsWhatIsHeld, actions_begun, held_text, kept_after, kept_by}
use Rattle.member_server.specs.Machine.{actions_in, change_begun, change_on, event_part, halted_state, state_in, step_on}
use Rattle.member_server.specs.Messages.{with_channel}
use Rattle.member_server.specs.Outcomes.{outcome_of}
use Rattle.member_server.specs.Secrets.{SecretsState, changes_text, secrets_after, written_secrets}
use Rattle.member_server.specs.State.{State}
use Rattle.member_server.specs.Turns.{DialWork, ending_of, keep_if, with_secrets}
use Rattle.member_server.proofs.EventSteps.{DialWorkPart, step_fine}
use Rattle.member_server.proofs.SecretLaws.{tells_texts_apart}
use Rattle.member_server.proofs.StepFrame.{text_kept}
use Rattle.member_server.proofs.StepRules.{AfterTaken, Ends, Holds, IsPlainAction, LinkRules, StepRules, TurnRules}

-- ---- one action more

kept_more : (actions : List Action) (what : Action) (text : List ℕ) → kept_after (actions ++ what ∷ []) text ≡ kept_by what (kept_after actions text)
kept_more [] what text = refl
kept_more (first ∷ actions) what text = kept_more actions what (kept_by first text)

plain_keeps : (what : Action) (text : List ℕ) → IsPlainAction what → kept_by what text ≡ text
plain_keeps (action.Keep bytes) text plain = absurd plain
plain_keeps (action.Send link bytes) text plain = refl
plain_keeps (action.Dial peer) text plain = refl
plain_keeps (action.Close link cause) text plain = refl
plain_keeps (action.Told link outcome) text plain = refl
plain_keeps (action.Judged how) text plain = refl

-- ---- the rules

module _ (text : List ℕ) where
  abbrev IsHeld : Holds
  IsHeld l a = kept_after a text ≡ written_secrets l.plan.secrets

  told_held : (l : Logons) (a : List Action) (what : Action) → kept_by what (kept_after a text) ≡ kept_after a text → IsHeld l a → IsHeld l (a ++ what ∷ [])
  told_held l a what same held = kept_more a what text ∙ same ∙ held

  held_link : LinkRules IsHeld
  held_link = record {
    tells = λ l a what plain held. told_held l a what (plain_keeps what (kept_after a text) plain) held;
    waits = λ l a info place logon answers held. held;
    full = λ l a info answers held. held;
  }

  keeps_held : (l : Logons) (a : List Action) (how : TurnEnd) → IsHeld l a →
      IsHeld (with_secrets (secrets_after how l.plan.secrets) l) (keep_if (changes_text how l.plan.secrets) (secrets_after how l.plan.secrets) a)
  keeps_held l a how held =
      let secrets : SecretsState = secrets_after how l.plan.secrets in
      text_kept (changes_text how l.plan.secrets) secrets a (λ (x : List Action). IsHeld (with_secrets secrets l) x)
      (λ same. held ∙ sym (tells_texts_apart.same how l.plan.secrets same)) (λ another. kept_more a (action.Keep (written_secrets secrets)) text)

  ends_held : (place : ℕ) (how : Ending) (l : Logons) (a : List Action) → IsHeld l a → Ends IsHeld place how l a
  ends_held place how l a held =
      record { silent = held; told = λ logon kept. told_held l a (action.Told logon.link (outcome_of how logon)) refl held }

  after_held : (t : Taken) (l : Logons) (a : List Action) → IsHeld l a → AfterTaken IsHeld IsHeld t l a
  after_held (taken.Skip turn) l a held = held
  after_held (taken.Next turn frames) l a held = held
  after_held taken.Half l a held = held
  after_held taken.Opened l a held = held
  after_held (taken.Answer place verdict) l a held = ends_held place (ending_of verdict) l a held
  after_held (taken.Dropped place cause) l a held = ends_held place (ending.NoController cause) l a held
  after_held taken.Set l a held = held

  held_turn : TurnRules (λ units. IsHeld) IsHeld
  held_turn = record {
    tells = λ units l a what plain held. told_held l a what (plain_keeps what (kept_after a text) plain) held;
    keeps = λ units l a how held. keeps_held l a how held;
    takes = λ unit units l a held.
        let taking = take_of l.channel unit in after_held taking.taken (with_channel l taking.state) a held;
    loses = λ units l a cause held.
        let losing = lose_of l.channel in ends_held losing.place (ending.NoController cause) (with_channel l losing.state) a held;
  }

  held_step : StepRules (λ units. IsHeld) (λ dialled. IsHeld)
  held_step = record {
    link = λ dialled. held_link;
    turn = held_turn;
    returns = λ units l a held. held;
    starts = λ dialled l a timestamp challenge can held. told_held l a (action.Dial l.plan.controller) refl held;
  }

  -- ---- a step

  step_held : (part : Result (Part DialWork) StepRefused) (left : List (List ℕ)) → DialWorkPart ⊥ (λ dialled. IsHeld) part →
      IsKeptUnlessStopped (kept_after (actions_of (step_by actions_in state_in halted_state left part)) text)
      (step_by actions_in state_in halted_state left part).state.running
  step_held (Err why) left fine = tt
  step_held (Ok part) left fine = fine.good

event_held : (running : Running) (what : Event) (now : ℕ) (left : List (List ℕ)) →
    DialWorkPart ⊥ (λ dialled. IsHeld (held_text running)) (event_part running what now left)
event_held running what now left =
    let text : List ℕ = held_text running in
    step_fine ⊥ (λ units. IsHeld text) (λ dialled. IsHeld text) (held_step text) running what now left refl (λ is. refl) (λ p. absurd p)

-- ---- a change

begun_held : (s : State) (running : Running) (answer : Result (Unit {0}) Busy) (secrets : SecretsState) → s.running ≡ Some running →
    IsKeptUnlessStopped (kept_after (actions_begun (change_begun answer secrets running s).answer) (held_text running)) (change_begun answer secrets running s).state.running
begun_held s running (Ok begun) secrets runs = refl
begun_held s running (Err busy) secrets runs = subst (λ (r : Option Running). IsKeptUnlessStopped (held_text running) r) (sym runs) refl

pub keeps_what_is_held : KeepsWhatIsHeld
keeps_what_is_held = record {
  step = λ s running what now left runs.
      subst (λ (r : Option Running).
      IsKeptUnlessStopped (kept_after (actions_of (step_on r s what now left)) (held_text running)) (step_on r s what now left).state.running) (sym runs)
      (step_held (held_text running) (event_part running what now left) left (event_held running what now left));
  change = λ s running new runs.
      let beginning = begin_of running.logons.plan.secrets new in
      subst (λ (r : Option Running). IsKeptUnlessStopped (kept_after (actions_begun (change_on r s new).answer) (held_text running)) (change_on r s new).state.running) (sym runs)
      (begun_held s running beginning.answer beginning.secrets runs);
}
