-- That what is held are requests, and that In is told of what was granted.
use Rattle.std.proofs.Common.{◌≡◌, ℕ, Bool, true, false, List, [], ◌∷◌, ◌++◌, append_assoc, map, Option, Result, Ok, Err, refl, sym, ap, subst, ◌∙◌}
use Rattle.std.specs.List.{AllByRecursion}
use Rattle.outside.specs.declared.action.Action.{Action}
use Rattle.outside.specs.declared.action.Action.TheVariants as action
use Rattle.outside.specs.declared.action.Outcome.{Outcome}
use Rattle.outside.specs.declared.action.Outcome.TheVariants as outcome
use Rattle.outside.specs.declared.action.StepRefused.{StepRefused}
use Rattle.outside.specs.declared.event.Event.{Event}
use Rattle.outside.specs.Machine.{Part, step_by}
use Rattle.wire_base.specs.Maps.{lookup, same_number}
use Rattle.rpc_units.specs.declared.unit.Unit.{Unit as RpcUnit}
use Rattle.logon_stubs.specs.declared.info.Verdict.{Verdict}
use Rattle.logon_stubs.specs.declared.info.Verdict.TheVariants as verdict
use Rattle.end_loop.specs.Runs.{actions_of}
use Rattle.channel_client.specs.declared.answers.Taken.{Taken}
use Rattle.channel_client.specs.declared.answers.Taken.TheVariants as taken
use Rattle.channel_client.specs.Machine.{take_of}
use Rattle.channel_client.specs.State.{Requester}
use Rattle.member_server.specs.declared.outcomes.Ending.TheVariants as ending
use Rattle.member_server.specs.declared.state.Logon.{Logon}
use Rattle.member_server.specs.declared.state.Logons.{Logons}
use Rattle.member_server.specs.declared.state.Running.{Running}
use Rattle.member_server.specs.Laws.{HoldRequests, HoldUnlessStopped, IsTold, KeepsRequests, LetsInTheGranted, Takes, heard_in, state_after}
use Rattle.member_server.specs.Machine.{actions_in, event_part, halted_state, state_in, step_on}
use Rattle.member_server.specs.Messages.{with_channel}
use Rattle.member_server.specs.Outcomes.{outcome_of}
use Rattle.member_server.specs.Secrets.{SecretsState, changes_text, secrets_after, written_secrets}
use Rattle.member_server.specs.Turns.{DialWork, ending_of, keep_if}
use Rattle.member_server.proofs.StepRules.{AfterTaken, Ends, Holds, IsPlainAction, LinkRules, StepRules, TurnRules}
use Rattle.member_server.proofs.EventSteps.{DialWorkPart, step_fine}

-- ---- who is told that he is in

abbrev pub took : List RpcUnit → Requester → Requester
took units c = state_after (map (λ (u : RpcUnit). Takes u) units) c

took_more : (units : List RpcUnit) (unit : RpcUnit) (c : Requester) → took (units ++ unit ∷ []) c ≡ (take_of (took units c) unit).state
took_more [] unit c = refl
took_more (first ∷ units) unit c = took_more units unit (take_of c first).state

-- each action so far is right
abbrev pub AreTold : Running → Event → Logons → List Action → Type 0
AreTold running what l a = AllByRecursion (IsTold running what) a

-- How far a piece is served: what is told was granted, `units` are still to come on the link of the turn, the channel
-- took those before them, and the logons that are kept are those kept at first.
pub record SoFar (running : Running) (what : Event) (units : List RpcUnit) (l : Logons) (a : List Action) : Type 0 where
  pub told : AreTold running what l a
  pub earlier : List RpcUnit
  pub hears : heard_in what running.dialling ≡ earlier ++ units
  pub takes : l.channel ≡ took earlier running.logons.channel
  pub asked : l.asked ≡ running.logons.asked

one_told : (running : Running) (what : Event) (a : List Action) (more : Action) → AllByRecursion (IsTold running what) a → IsTold running what more →
    AllByRecursion (IsTold running what) (a ++ more ∷ [])
one_told running what [] more all is = (is, tt)
one_told running what (first ∷ a) more all is = (all.0, one_told running what a more all.1 is)

module _ (running : Running) (what : Event) where
  outcome_told : (link : ℕ) (o : Outcome) → IsPlainAction (action.Told link o) → IsTold running what (action.Told link o)
  outcome_told link (outcome.In domain user key) nobody = absurd nobody
  outcome_told link (outcome.Out status) nobody = tt
  outcome_told link (outcome.NoController cause) nobody = tt

  action_told : (more : Action) → IsPlainAction more → IsTold running what more
  action_told (action.Keep bytes) nobody = tt
  action_told (action.Send link bytes) nobody = tt
  action_told (action.Dial peer) nobody = tt
  action_told (action.Close link cause) nobody = tt
  action_told (action.Told link o) nobody = outcome_told link o nobody
  action_told (action.Judged judged) nobody = tt

  -- a text is kept, or none
  text_told : (changes : Bool) (secrets : SecretsState) (l : Logons) (a : List Action) → AreTold running what l a → AreTold running what l (keep_if changes secrets a)
  text_told false secrets l a told = told
  text_told true secrets l a told = one_told running what a (action.Keep (written_secrets secrets)) told tt

  told_link : LinkRules (AreTold running what)
  told_link = record {
    tells = λ l a more nobody told. one_told running what a more told (action_told more nobody);
    waits = λ l a info place logon answers told. told;
    full = λ l a info answers told. told;
  }

  -- the logon of the place ends as the verdict says
  verdict_told : (v : Verdict) (place : ℕ) (unit : RpcUnit) (units : List RpcUnit) (l : Logons) (a : List Action) → (take_of l.channel unit).taken ≡ taken.Answer place v →
      SoFar running what (unit ∷ units) l a → Ends (AreTold running what) place (ending_of v) (with_channel l (take_of l.channel unit).state) a
  verdict_told (verdict.Status status) place unit units l a answers so_far =
      record { silent = so_far.told; told = λ logon kept. one_told running what a _ so_far.told tt }
  verdict_told (verdict.Granted info) place unit units l a answers so_far = record {
    silent = so_far.told;
    told = λ logon kept.
        one_told running what a (action.Told logon.link (outcome_of (ending.Granted info) logon)) so_far.told (record {
          earlier = so_far.earlier;
          unit = unit;
          later = units;
          place = place;
          info = info;
          logon = logon;
          hears = so_far.hears;
          takes = ap (λ (c : Requester). (take_of c unit).taken) (sym so_far.takes) ∙ answers;
          kept = ap (λ (x : List (ℕ × Logon)). lookup same_number place x) (sym so_far.asked) ∙ kept;
          number = refl;
          is = refl;
        });
  }

  -- the unit was taken
  after_unit : (unit : RpcUnit) (units : List RpcUnit) (l : Logons) (a : List Action) → SoFar running what (unit ∷ units) l a →
      SoFar running what units (with_channel l (take_of l.channel unit).state) a
  after_unit unit units l a so_far = record {
    told = so_far.told;
    earlier = so_far.earlier ++ unit ∷ [];
    hears = so_far.hears ∙ sym (append_assoc so_far.earlier (unit ∷ []) units);
    takes = ap (λ (c : Requester). (take_of c unit).state) so_far.takes ∙ sym (took_more so_far.earlier unit running.logons.channel);
    asked = so_far.asked;
  }

  taken_told : (t : Taken) (unit : RpcUnit) (units : List RpcUnit) (l : Logons) (a : List Action) → (take_of l.channel unit).taken ≡ t →
      SoFar running what (unit ∷ units) l a →
      AfterTaken (SoFar running what units) (AreTold running what) t (with_channel l (take_of l.channel unit).state) a
  taken_told (taken.Skip turn) unit units l a is so_far = after_unit unit units l a so_far
  taken_told (taken.Next turn frames) unit units l a is so_far = after_unit unit units l a so_far
  taken_told taken.Half unit units l a is so_far = so_far.told
  taken_told taken.Opened unit units l a is so_far = so_far.told
  taken_told (taken.Answer place v) unit units l a is so_far = verdict_told v place unit units l a is so_far
  taken_told (taken.Dropped place cause) unit units l a is so_far =
      record { silent = so_far.told; told = λ logon kept. one_told running what a _ so_far.told tt }
  taken_told taken.Set unit units l a is so_far = so_far.told

  told_turn : TurnRules (SoFar running what) (AreTold running what)
  told_turn = record {
    tells = λ units l a more nobody so_far. record {
      told = one_told running what a more so_far.told (action_told more nobody);
      earlier = so_far.earlier;
      hears = so_far.hears;
      takes = so_far.takes;
      asked = so_far.asked;
    };
    keeps = λ units l a how so_far. record {
      told = text_told (changes_text how l.plan.secrets) (secrets_after how l.plan.secrets) l a so_far.told;
      earlier = so_far.earlier;
      hears = so_far.hears;
      takes = so_far.takes;
      asked = so_far.asked;
    };
    takes = λ unit units l a so_far. taken_told (take_of l.channel unit).taken unit units l a refl so_far;
    loses = λ units l a cause so_far. record { silent = so_far.told; told = λ logon kept. one_told running what a _ so_far.told tt };
  }

  told_step : StepRules (SoFar running what) (λ b. AreTold running what)
  told_step = record {
    link = λ b. told_link;
    turn = told_turn;
    returns = λ units l a so_far. so_far.told;
    starts = λ dialled l a timestamp challenge can told. one_told running what a (action.Dial l.plan.controller) told tt;
  }

-- ---- a step

step_holds : (P : Type 0) (G : Bool → Holds) (part : Result (Part DialWork) StepRefused) (left : List (List ℕ)) → DialWorkPart P G part → P →
    HoldUnlessStopped (step_by actions_in state_in halted_state left part).state.running
step_holds P G (Err why) left fine p = tt
step_holds P G (Ok part) left fine p = fine.holds p

step_told : (P : Type 0) (running : Running) (what : Event) (part : Result (Part DialWork) StepRefused) (left : List (List ℕ)) → DialWorkPart P (λ b. AreTold running what) part →
    AllByRecursion (IsTold running what) (actions_of (step_by actions_in state_in halted_state left part))
step_told P running what (Err why) left fine = tt
step_told P running what (Ok part) left fine = fine.good

event_told : (running : Running) (what : Event) (now : ℕ) (left : List (List ℕ)) →
    DialWorkPart (HoldRequests running.links) (λ b. AreTold running what) (event_part running what now left)
event_told running what now left =
    step_fine (HoldRequests running.links) (SoFar running what) (λ b. AreTold running what) (told_step running what) running what now left tt
    (λ is. record { told = tt; earlier = []; hears = refl; takes = refl; asked = refl }) (λ p. p)

pub keeps_requests : KeepsRequests
keeps_requests = record {
  fresh = λ plan. tt;
  keeps = λ s running what now left runs all.
      subst (λ (r : Option Running). HoldUnlessStopped (step_on r s what now left).state.running) (sym runs)
      (step_holds (HoldRequests running.links) (λ b. AreTold running what) (event_part running what now left) left
      (event_told running what now left) all);
}

pub lets_in_the_granted : LetsInTheGranted
lets_in_the_granted = record {
  told = λ s running what now left runs.
      subst (λ (r : Option Running). AllByRecursion (IsTold running what) (actions_of (step_on r s what now left))) (sym runs)
      (step_told (HoldRequests running.links) running what (event_part running what now left) left (event_told running what now left));
}
