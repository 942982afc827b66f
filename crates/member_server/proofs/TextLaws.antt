-- Which texts a member keeps, and when. It serves `texts_are_of_secrets`.
use Rattle.std.proofs.Common.{◌≡◌, ℕ, Bool, true, false, List, [], ◌∷◌, ◌++◌, Option, Some, None, Result, Ok, Err, refl, sym, ap, subst, ◌∙◌}
use Rattle.std.specs.List.{AllByRecursion}
use Rattle.outside.specs.declared.action.Action.{Action}
use Rattle.outside.specs.declared.action.Action.TheVariants as action
use Rattle.outside.specs.declared.action.CloseCause.TheVariants as close
use Rattle.outside.specs.declared.action.DropCause.{DropCause}
use Rattle.outside.specs.declared.action.StepRefused.{StepRefused}
use Rattle.outside.specs.declared.event.Event.{Event}
use Rattle.outside.specs.declared.event.Event.TheVariants as event
use Rattle.outside.specs.Machine.{Part, step_by}
use Rattle.end_loop.specs.Runs.{actions_of}
use Rattle.channel_client.specs.declared.answers.Taken.{Taken}
use Rattle.channel_client.specs.declared.answers.Taken.TheVariants as taken
use Rattle.channel_client.specs.Machine.{lose_of, take_of}
use Rattle.channel_turns.specs.declared.state.Dialling.{Dialling}
use Rattle.channel_turns.specs.declared.state.TurnEnd.{TurnEnd}
use Rattle.channel_turns.specs.declared.state.TurnEnd.TheVariants as turn_end
use Rattle.secret_change.specs.Secrets.{opened_by_test}
use Rattle.secret_change.specs.declared.secrets.Next.{Next}
use Rattle.member_server.specs.declared.outcomes.Ending.{Ending}
use Rattle.member_server.specs.declared.outcomes.Ending.TheVariants as ending
use Rattle.member_server.specs.declared.state.Logons.{Logons}
use Rattle.member_server.specs.declared.state.Running.{Running}
use Rattle.member_server.specs.declared.state.Work.{Work}
use Rattle.member_server.specs.Keeping.{BringsNoBytes, HasSecretsUnlessStopped, IsKeptUnlessStopped, IsSecretsText, KeepsNoText, KeepsTextsOfSecrets, held_text}
use Rattle.member_server.specs.Machine.{actions_in, event_part, halted_state, state_in, step_on}
use Rattle.member_server.specs.Outcomes.{outcome_of, tell_at}
use Rattle.member_server.specs.Secrets.{AreSecrets, SecretsState, changes_text, is_denied, secrets_after, secrets_dropped, written_secrets}
use Rattle.member_server.specs.State.{State}
use Rattle.member_server.specs.Turns.{DialWork, ending_of, keep_if, lose_turn, with_secrets}
use Rattle.member_server.proofs.EventSteps.{DialWorkPart, WorkFine, end_fine, step_fine}
use Rattle.member_server.proofs.SecretLaws.{tells_texts_apart}
use Rattle.member_server.proofs.StepFrame.{KeepsEvent, KeepsNext, PartHolds, WorkFact, part_keeps, text_kept}
use Rattle.member_server.proofs.StepRules.{AfterTaken, Ends, Holds, IsPlainAction, LinkRules, StepRules, TurnRules}

-- ---- one more action

all_more : (Fits : Action → Type 0) (actions : List Action) (what : Action) → AllByRecursion Fits actions → Fits what → AllByRecursion Fits (actions ++ what ∷ [])
all_more Fits [] what all fits = (fits, tt)
all_more Fits (first ∷ actions) what all fits = (all.0, all_more Fits actions what all.1 fits)

plain_text : (what : Action) → IsPlainAction what → IsSecretsText what
plain_text (action.Keep bytes) plain = absurd plain
plain_text (action.Send link bytes) plain = tt
plain_text (action.Dial peer) plain = absurd plain
plain_text (action.Close link cause) plain = tt
plain_text (action.Told link outcome) plain = tt
plain_text (action.Judged how) plain = tt

plain_none : (what : Action) → IsPlainAction what → KeepsNoText what
plain_none (action.Keep bytes) plain = absurd plain
plain_none (action.Send link bytes) plain = tt
plain_none (action.Dial peer) plain = absurd plain
plain_none (action.Close link cause) plain = tt
plain_none (action.Told link outcome) plain = tt
plain_none (action.Judged how) plain = tt

-- ---- secrets of 16 bytes stay such

denied_fine : (denied : Bool) (current : List ℕ) (next : Option Next) → AreSecrets (record { current = current; next = next }) → AreSecrets (secrets_dropped denied (record { current = current; next = next }))
denied_fine false current next are = are
denied_fine true current None are = are
denied_fine true current (Some n) are = are

test_fine : (tried : Bool) (current : List ℕ) (n : Next) → AreSecrets (record { current = current; next = Some n }) → AreSecrets (opened_by_test tried n.secret (record { current = current; next = Some n }))
test_fine true current n are = (are.1, tt)
test_fine false current n are = are

after_fine : (how : TurnEnd) (current : List ℕ) (next : Option Next) → AreSecrets (record { current = current; next = next }) → AreSecrets (secrets_after how (record { current = current; next = next }))
after_fine turn_end.Half current next are = are
after_fine turn_end.Opened current None are = are
after_fine turn_end.Opened current (Some n) are = test_fine n.is_tried current n are
after_fine (turn_end.Answer place verdict) current next are = are
after_fine (turn_end.Dropped place cause) current next are = denied_fine (is_denied cause) current next are
after_fine turn_end.Set current None are = are
after_fine turn_end.Set current (Some n) are = (are.1, tt)

-- ---- what is kept is the text of such

abbrev Texts : Holds
Texts l a = AreSecrets l.plan.secrets × AllByRecursion IsSecretsText a

text_link : LinkRules Texts
text_link = record {
  tells = λ l a what plain fine. (fine.0, all_more IsSecretsText a what fine.1 (plain_text what plain));
  waits = λ l a info place logon answers fine. fine;
  full = λ l a info answers fine. fine;
}

keeps_text : (l : Logons) (a : List Action) (how : TurnEnd) → Texts l a →
    Texts (with_secrets (secrets_after how l.plan.secrets) l) (keep_if (changes_text how l.plan.secrets) (secrets_after how l.plan.secrets) a)
keeps_text l a how fine =
    let secrets : SecretsState = secrets_after how l.plan.secrets in
    let are : AreSecrets secrets = after_fine how l.plan.secrets.current l.plan.secrets.next fine.0 in
    text_kept (changes_text how l.plan.secrets) secrets a (λ (x : List Action). Texts (with_secrets secrets l) x) (λ same. (are, fine.1))
    (λ another. (are, all_more IsSecretsText a (action.Keep (written_secrets secrets)) fine.1 (secrets, are, refl)))

ends_text : (place : ℕ) (how : Ending) (l : Logons) (a : List Action) → Texts l a → Ends Texts place how l a
ends_text place how l a fine =
    record { silent = fine; told = λ logon kept. (fine.0, all_more IsSecretsText a (action.Told logon.link (outcome_of how logon)) fine.1 tt) }

after_text : (t : Taken) (l : Logons) (a : List Action) → Texts l a → AfterTaken Texts Texts t l a
after_text (taken.Skip turn) l a fine = fine
after_text (taken.Next turn frames) l a fine = fine
after_text taken.Half l a fine = fine
after_text taken.Opened l a fine = fine
after_text (taken.Answer place verdict) l a fine = ends_text place (ending_of verdict) l a fine
after_text (taken.Dropped place cause) l a fine = ends_text place (ending.NoController cause) l a fine
after_text taken.Set l a fine = fine

text_turn : TurnRules (λ units. Texts) Texts
text_turn = record {
  tells = λ units l a what plain fine. (fine.0, all_more IsSecretsText a what fine.1 (plain_text what plain));
  keeps = λ units l a how fine. keeps_text l a how fine;
  takes = λ unit units l a fine.
      let taking = take_of l.channel unit in after_text taking.taken (record l { channel = taking.state }) a fine;
  loses = λ units l a cause fine.
      let losing = lose_of l.channel in ends_text losing.place (ending.NoController cause) (record l { channel = losing.state }) a fine;
}

text_step : StepRules (λ units. Texts) (λ dialled. Texts)
text_step = record {
  link = λ dialled. text_link;
  turn = text_turn;
  returns = λ units l a fine. fine;
  starts = λ dialled l a timestamp challenge can fine. (fine.0, all_more IsSecretsText a (action.Dial l.plan.controller) fine.1 tt);
}

text_part : (running : Running) (what : Event) (now : ℕ) (left : List (List ℕ)) → AreSecrets running.logons.plan.secrets → DialWorkPart ⊥ (λ dialled. Texts) (event_part running what now left)
text_part running what now left are =
    step_fine ⊥ (λ units. Texts) (λ dialled. Texts) text_step running what now left (are, tt) (λ is. (are, tt)) (λ p. absurd p)

part_secrets : (part : Result (Part DialWork) StepRefused) (left : List (List ℕ)) → DialWorkPart ⊥ (λ dialled. Texts) part →
    HasSecretsUnlessStopped (step_by actions_in state_in halted_state left part).state.running
part_secrets (Err why) left fine = tt
part_secrets (Ok part) left fine = fine.good.0

part_texts : (part : Result (Part DialWork) StepRefused) (left : List (List ℕ)) → DialWorkPart ⊥ (λ dialled. Texts) part →
    AllByRecursion IsSecretsText (actions_of (step_by actions_in state_in halted_state left part))
part_texts (Err why) left fine = tt
part_texts (Ok part) left fine = fine.good.1

-- ---- where no bytes come

module _ (text : List ℕ) where
  abbrev Same : Holds
  Same l a = AllByRecursion KeepsNoText a × (text ≡ written_secrets l.plan.secrets)

  same_link : LinkRules Same
  same_link = record {
    tells = λ l a what plain fine. (all_more KeepsNoText a what fine.0 (plain_none what plain), fine.1);
    waits = λ l a info place logon answers fine. fine;
    full = λ l a info answers fine. fine;
  }

  abbrev Quiet : WorkFact
  Quiet how w left = Same w.logons w.actions

  lose_same : (cause : DropCause) (w : Work) → Same w.logons w.actions → Same (lose_turn cause w).logons (lose_turn cause w).actions
  lose_same cause w fine =
      let losing = lose_of w.logons.channel in
      let how : TurnEnd = turn_end.Dropped losing.place cause in
      let after : Work = record w { logons = with_secrets (secrets_dropped (is_denied cause) w.logons.plan.secrets) (record w.logons { channel = losing.state }) } in
      let same : text ≡ written_secrets (secrets_dropped (is_denied cause) w.logons.plan.secrets) = fine.1 ∙ sym (tells_texts_apart.same how w.logons.plan.secrets refl) in
      (end_fine ⊥ Same same_link losing.place (ending.NoController cause) after (record {
        silent = (fine.0, same);
        told = λ logon kept. (all_more KeepsNoText w.actions (action.Told logon.link (outcome_of (ending.NoController cause) logon)) fine.0 tt, same);
      }) (λ never. absurd never)).good

  no_bytes : (what : Event) (number : ℕ) (piece : List ℕ) → BringsNoBytes what → what ≡ event.Bytes number piece → ⊥
  no_bytes what number piece none is = subst BringsNoBytes is none

  quiet_event : (what : Event) → BringsNoBytes what → KeepsEvent what Quiet Quiet
  quiet_event what none = record {
    still = λ how w left fine. fine;
    closes = λ link how w left fine. fine;
    loses = λ cause how w left lost unheard fine. lose_same cause w fine;
    full = λ link how w left is fine. (all_more KeepsNoText w.actions (action.Close link close.TooManyLinks) fine.0 tt, fine.1);
    opens = λ link how w left is fine. fine;
    answers = λ link turn frames w left is fine. (all_more KeepsNoText w.actions _ fine.0 tt, fine.1);
    link = λ number piece link how w left is found fine. absurd (no_bytes what number piece none is);
    turn = λ number piece said w left is fine. absurd (no_bytes what number piece none is);
  }

  quiet_next : (now : ℕ) → KeepsNext now Quiet Quiet
  quiet_next now = record {
    still = λ how w left can fine. fine;
    starts = λ turn frames challenge how w before after can drawn answer fine. (all_more KeepsNoText w.actions (action.Dial w.logons.plan.controller) fine.0 tt, fine.1);
  }

  quiet_step : (part : Result (Part DialWork) StepRefused) (left : List (List ℕ)) → PartHolds Quiet part →
      AllByRecursion KeepsNoText (actions_of (step_by actions_in state_in halted_state left part))
      × IsKeptUnlessStopped text (step_by actions_in state_in halted_state left part).state.running
  quiet_step (Err why) left fine = (tt, tt)
  quiet_step (Ok part) left fine = fine

quiet_part : (running : Running) (what : Event) (now : ℕ) (left : List (List ℕ)) → BringsNoBytes what → PartHolds (Quiet (held_text running)) (event_part running what now left)
quiet_part running what now left none =
    let text : List ℕ = held_text running in
    part_keeps (Quiet text) (Quiet text) (Quiet text) running what now left (quiet_event text what none) (quiet_next text now) (tt, refl)

pub keeps_texts : KeepsTextsOfSecrets
keeps_texts = record {
  secrets = λ s running what now left runs are.
      subst (λ (r : Option Running). HasSecretsUnlessStopped (step_on r s what now left).state.running) (sym runs)
      (part_secrets (event_part running what now left) left (text_part running what now left are));
  texts = λ s running what now left runs are.
      subst (λ (r : Option Running). AllByRecursion IsSecretsText (actions_of (step_on r s what now left))) (sym runs)
      (part_texts (event_part running what now left) left (text_part running what now left are));
  quiet = λ s running what now left runs none.
      subst (λ (r : Option Running).
      AllByRecursion KeepsNoText (actions_of (step_on r s what now left)) × IsKeptUnlessStopped (held_text running) (step_on r s what now left).state.running) (sym runs)
      (quiet_step (held_text running) (event_part running what now left) left (quiet_part running what now left none));
}
