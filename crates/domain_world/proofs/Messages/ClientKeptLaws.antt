-- In every run a key that a client keeps is that of a message that is written down as made by it.
-- It serves `Proved.clients`.
use Rattle.std.proofs.Common.{◌≡◌, ◌==◌, ℕ, Bool, true, false, List, [], ◌∷◌, ◌++◌, Option, Some, None, Result, Ok, Err, inl, refl, sym, ap, subst, ◌∙◌}
use Rattle.std.specs.List.{AllByRecursion}
use Rattle.outside.specs.Machine.{Part, step_by}
use Rattle.outside.specs.declared.action.Action.{Action}
use Rattle.outside.specs.declared.action.StepRefused.{StepRefused}
use Rattle.outside.specs.declared.event.Event.{Event}
use Rattle.outside.specs.declared.event.Event.TheVariants as event
use Rattle.end_links.specs.Links.{LinkState}
use Rattle.logon_client.specs.Machine.{actions_after, by_close, by_piece, halted, state_after, step_of, work_of}
use Rattle.logon_client.specs.State.{State as ClientState}
use Rattle.logon_client.specs.declared.outcome.ClientOutcome.{ClientOutcome}
use Rattle.logon_client.specs.declared.outcome.ClientOutcome.TheVariants.{In}
use Rattle.logon_client.specs.declared.plan.ClientPlan.{ClientPlan}
use Rattle.logon_client.specs.declared.state.After.{After}
use Rattle.logon_client.specs.declared.state.ClientLink.{ClientLink}
use Rattle.logon_client.specs.declared.state.ClientLink.TheVariants.{Idle, Dialling, On}
use Rattle.logon_client.specs.declared.state.Phase.{Phase}
use Rattle.logon_client.specs.declared.state.Phase.TheVariants.{Asked, Bound}
use Rattle.logon_client.specs.declared.state.Question.{Question}
use Rattle.logon_client.specs.declared.state.Running.{Running}
use Rattle.logon_client.specs.declared.state.Talk.{Talk}
use Rattle.logon_client.specs.declared.state.Terms.{Terms}
use Rattle.logon_client.proofs.SendLaws.{AtUnlessStopped, client_sends}
use Rattle.wire_base.specs.Lists.{OneOf}
use Rattle.wire_base.proofs.ListLaws.{no_some, one_before, one_behind, one_weaker}
use Rattle.step_notes.specs.ChannelNames.{IsKeptOf, IsKeyOf, IsSameKey, key_in_outcome, key_in_running, key_on}
use Rattle.step_notes.specs.ClientNotes.{ClientAt}
use Rattle.step_notes.specs.Records.{MessageMade}
use Rattle.step_notes.proofs.ClientNoteLaws.{clients_write_down}
use Rattle.world_moves.specs.declared.links.Route.{Route}
use Rattle.world_moves.specs.declared.moves.Move.{Move}
use Rattle.world_moves.specs.declared.plan.Plan.{Plan}
use Rattle.world_moves.specs.Plain.{IsPlainPlan}
use Rattle.domain_world.specs.Claims.WrittenDown.{ClientsAreWrittenDown, IsMadeOn, IsMadeWith}
use Rattle.domain_world.specs.Past.{past}
use Rattle.domain_world.proofs.Messages.ClientMadeLaws.{IsBy, client_by}
use Rattle.domain_world.proofs.Frames.ClientFrameLaws.{ClientFact, KeepsClients, MadeFact, MeetsClient, clients_after, made_at}

-- ---- a key that a client keeps

-- a client keeps that key on that link
pub record KeepsOn (c : ClientState) (link : ℕ) (key : List ℕ) : Type 0 where
  pub running : Running
  pub own : LinkState Talk
  pub terms : Terms
  pub question : Question
  pub runs : c.running ≡ Some running
  pub stands : running.standing ≡ On own
  pub asked : own.talk.phase ≡ Asked terms question
  pub is_link : own.talk.link ≡ link
  pub is_key : terms.key ≡ key

-- a client is in with that key
pub record IsInWith (c : ClientState) (key : List ℕ) : Type 0 where
  pub name : List ℕ
  pub echoed : ℕ
  pub is : c.outcome ≡ Some (In name key echoed)

-- each is that of a message that was made
pub record AreOfMade (made : List MessageMade) (k : ℕ) (c : ClientState) : Type 0 where
  pub keeps : (link : ℕ) (key : List ℕ) → KeepsOn c link key → OneOf (IsMadeOn k link key) made
  pub in_with : (key : List ℕ) → IsInWith c key → OneOf (IsMadeWith k key) made

kept_key : (c : ClientState) (link : ℕ) (key : List ℕ) → KeepsOn c link key → key_in_running c.running ≡ Some key
kept_key c link key its =
    let on : key_on its.running.standing ≡ Some its.terms.key = ap key_on its.stands ∙ ap (λ (p : Phase). key_on (On (record its.own { talk = record its.own.talk { phase = p } }))) its.asked in
    ap key_in_running its.runs ∙ on ∙ ap (λ (k : List ℕ). Some k) its.is_key

in_key : (c : ClientState) (key : List ℕ) → IsInWith c key → key_in_outcome c.outcome ≡ Some key
in_key c key its = ap key_in_outcome its.is

no_keys : (made : List MessageMade) (k : ℕ) (c : ClientState) → key_in_running c.running ≡ None → key_in_outcome c.outcome ≡ None → AreOfMade made k c
no_keys made k c none out = record {
  keeps = λ link key its. absurd (no_some key (sym none ∙ kept_key c link key its));
  in_with = λ key its. absurd (no_some key (sym out ∙ in_key c key its));
}

more_made : (made more : List MessageMade) (k : ℕ) (c : ClientState) → AreOfMade made k c → AreOfMade (made ++ more) k c
more_made made more k c of = record {
  keeps = λ link key its. one_before (IsMadeOn k link key) made more (of.keeps link key its);
  in_with = λ key its. one_before (IsMadeWith k key) made more (of.in_with key its);
}

-- ---- no bytes come

abbrev at_standing : ClientPlan → ClientLink → ClientState
at_standing task how = record { running = Some (record { task = task; standing = how }); outcome = None }

module _ (links : List Route) (made : List MessageMade) (k : ℕ) (now : ℕ) (left : List (List ℕ)) where
  close_of : (hit : Bool) (task : ClientPlan) (own : LinkState Talk) → AreOfMade made k (at_standing task (On own)) →
      AreOfMade made k (step_by actions_after state_after (halted (at_standing task (On own))) left (by_close hit own (work_of task now) left)).state
  close_of false task own of = of
  close_of true task own of = no_keys made k _ refl refl

  standing_of : (what : Event) (how : ClientLink) (task : ClientPlan) → MeetsClient links k what → AreOfMade made k (at_standing task how) →
      AreOfMade made k (step_of (at_standing task how) what now left).state
  standing_of (event.Bytes link piece) how task meets of = absurd meets
  standing_of (event.Opened link) Idle task meets of = of
  standing_of (event.Opened link) Dialling task meets of = of
  standing_of (event.Opened link) (On own) task meets of = close_of (link == own.talk.link) task own of
  standing_of (event.Closed link) Idle task meets of = of
  standing_of (event.Closed link) Dialling task meets of = of
  standing_of (event.Closed link) (On own) task meets of = close_of (link == own.talk.link) task own of
  standing_of (event.Dialled link) Idle task meets of = of
  standing_of (event.Dialled link) Dialling task meets of = no_keys made k _ refl refl
  standing_of (event.Dialled link) (On own) task meets of = of
  standing_of event.DialFailed Idle task meets of = of
  standing_of event.DialFailed Dialling task meets of = no_keys made k _ refl refl
  standing_of event.DialFailed (On own) task meets of = of
  standing_of event.Stop Idle task meets of = of
  standing_of event.Stop Dialling task meets of = of
  standing_of event.Stop (On own) task meets of = of

  -- a client that is stopped or has its outcome takes no step
  quiet_of : (what : Event) (r : Option Running) (o : Option ClientOutcome) → MeetsClient links k what → AreOfMade made k (record { running = r; outcome = o }) →
      AreOfMade made k (step_of (record { running = r; outcome = o }) what now left).state
  quiet_of what None o meets of = of
  quiet_of what (Some running) (Some outcome) meets of = of
  quiet_of what (Some running) None meets of = standing_of what running.standing running.task meets of

-- ---- bytes come

-- a key that is kept then is that of a message that was written down in the step
new_on : (client link : ℕ) (key : List ℕ) (news : List MessageMade) → AllByRecursion (IsBy (λ plan. Unit {0}) (λ number. number ≡ link) client) news → IsKeyOf key news → OneOf (IsMadeOn client link key) news
new_on client link key [] by is = absurd is
new_on client link key (one ∷ []) by is = inl (by.0.0, is, by.0.1)
new_on client link key (one ∷ other ∷ news) by is = absurd is

on_with : (client link : ℕ) (key : List ℕ) (made : List MessageMade) → OneOf (IsMadeOn client link key) made → OneOf (IsMadeWith client key) made
on_with client link key made one = one_weaker (IsMadeOn client link key) (IsMadeWith client key) made (λ its on. (on.0, on.1)) one

halts : (s : ClientState) (left : List (List ℕ)) (part : Result (Part After) StepRefused) (why : StepRefused) → (step_by actions_after state_after (halted s) left part).answer ≡ Err why →
    (step_by actions_after state_after (halted s) left part).state ≡ halted s
halts s left (Err refused) why is = refl
halts s left (Ok part) why is = absurd cc

module _ (made : List MessageMade) (w : ClientAt) (piece : List ℕ) (now : ℕ) (left : List (List ℕ)) where
  abbrev stepped : ClientState → ClientState
  stepped c = (step_of c (event.Bytes w.link piece) now left).state

  abbrev news : ClientState → List MessageMade
  news c = made_at w c piece now left

  abbrev Holds : ClientState → Type 0
  Holds c = AreOfMade (made ++ news c) w.client (stepped c)

  module _ (task : ClientPlan) (own : LinkState Talk) where
    abbrev here : ClientState
    here = at_standing task (On own)

    -- the link stays
    link_is : (link : ℕ) (key : List ℕ) → KeepsOn (stepped here) link key → link ≡ own.talk.link
    link_is link key its =
        let stands : AtUnlessStopped (λ (number : ℕ). number ≡ own.talk.link) (stepped here).running =
        (client_sends (λ (number : ℕ). number ≡ own.talk.link) here (event.Bytes w.link piece) now left tt refl).stands in
        let on : AtUnlessStopped (λ (number : ℕ). number ≡ own.talk.link) (Some (record { task = its.running.task; standing = On its.own })) =
        subst (λ (how : ClientLink). AtUnlessStopped (λ (number : ℕ). number ≡ own.talk.link) (Some (record { task = its.running.task; standing = how }))) its.stands
        (subst (λ (r : Option Running). AtUnlessStopped (λ (number : ℕ). number ≡ own.talk.link) r) its.runs stands) in
        sym its.is_link ∙ on

    -- what is written down is of this link
    news_by : AllByRecursion (IsBy (λ plan. Unit {0}) (λ number. number ≡ own.talk.link) w.client) (news here)
    news_by = client_by (λ plan. Unit {0}) (λ number. number ≡ own.talk.link) w piece now left here refl tt

    from_news : (key : List ℕ) → IsKeyOf key (news here) → OneOf (IsMadeOn w.client own.talk.link key) (made ++ news here)
    from_news key is = one_behind (IsMadeOn w.client own.talk.link key) made (news here) (new_on w.client own.talk.link key (news here) news_by is)

    bound_of : own.talk.phase ≡ Bound → (actions : List Action) → (step_of here (event.Bytes w.link piece) now left).answer ≡ Ok actions → Holds here
    bound_of bound actions is =
        let down = clients_write_down.answers here (record { task = task; standing = On own }) own w.link piece now left actions w (record { none = refl; runs = refl; stands = refl }) bound is in
        record {
          keeps = λ link key its.
              subst (λ (n : ℕ). OneOf (IsMadeOn w.client n key) (made ++ news here)) (sym (link_is link key its))
              (from_news key (subst (λ (kept : Option (List ℕ)). IsKeptOf kept (news here)) (kept_key (stepped here) link key its) down.keeps));
          in_with = λ key its.
              on_with w.client own.talk.link key (made ++ news here)
              (from_news key (subst (λ (kept : Option (List ℕ)). IsKeptOf kept (news here)) (in_key (stepped here) key its) down.ends));
        }

    asked_of : (terms : Terms) (question : Question) → own.talk.phase ≡ Asked terms question → (actions : List Action) →
        (step_of here (event.Bytes w.link piece) now left).answer ≡ Ok actions → AreOfMade made w.client here → Holds here
    asked_of terms question asked actions is of =
        let down = clients_write_down.later here (record { task = task; standing = On own }) own w.link piece now left actions w terms question (record { none = refl; runs = refl; stands = refl }) asked is in
        let before : OneOf (IsMadeOn w.client own.talk.link terms.key) (made ++ news here) =
        one_before (IsMadeOn w.client own.talk.link terms.key) made (news here)
        (of.keeps own.talk.link terms.key (record { running = record { task = task; standing = On own }; own = own; terms = terms; question = question; runs = refl; stands = refl; asked = asked; is_link = refl; is_key = refl })) in
        record {
          keeps = λ link key its.
              let same : key ≡ terms.key = subst (λ (kept : Option (List ℕ)). IsSameKey terms.key kept) (kept_key (stepped here) link key its) down.2 in
              subst (λ (n : ℕ). OneOf (IsMadeOn w.client n key) (made ++ news here)) (sym (link_is link key its))
              (subst (λ (k : List ℕ). OneOf (IsMadeOn w.client own.talk.link k) (made ++ news here)) (sym same) before);
          in_with = λ key its.
              let same : key ≡ terms.key = subst (λ (kept : Option (List ℕ)). IsSameKey terms.key kept) (in_key (stepped here) key its) down.3 in
              on_with w.client own.talk.link key (made ++ news here) (subst (λ (k : List ℕ). OneOf (IsMadeOn w.client own.talk.link k) (made ++ news here)) (sym same) before);
        }

    phase_of : (p : Phase) → own.talk.phase ≡ p → (actions : List Action) → (step_of here (event.Bytes w.link piece) now left).answer ≡ Ok actions → AreOfMade made w.client here → Holds here
    phase_of Bound is actions took of = bound_of is actions took
    phase_of (Asked terms question) is actions took of = asked_of terms question is actions took of

    answer_of : (answer : Result (List Action) StepRefused) → (step_of here (event.Bytes w.link piece) now left).answer ≡ answer → AreOfMade made w.client here → Holds here
    answer_of (Ok actions) is of = phase_of own.talk.phase refl actions is of
    answer_of (Err why) is of =
        subst (λ (c : ClientState). AreOfMade (made ++ news here) w.client c) (sym (halts here left (by_piece (w.link == own.talk.link) piece own (work_of task now) left) why is))
        (no_keys (made ++ news here) w.client (halted here) refl refl)

  standing_comes : (how : ClientLink) (task : ClientPlan) → AreOfMade made w.client (at_standing task how) → Holds (at_standing task how)
  standing_comes Idle task of = no_keys (made ++ news (at_standing task Idle)) w.client (at_standing task Idle) refl refl
  standing_comes Dialling task of = no_keys (made ++ news (at_standing task Dialling)) w.client (at_standing task Dialling) refl refl
  standing_comes (On own) task of = answer_of task own (step_of (at_standing task (On own)) (event.Bytes w.link piece) now left).answer refl of

  client_comes : (r : Option Running) (o : Option ClientOutcome) → AreOfMade made w.client (record { running = r; outcome = o }) → Holds (record { running = r; outcome = o })
  client_comes None o of = more_made made (news (record { running = None; outcome = o })) w.client (record { running = None; outcome = o }) of
  client_comes (Some running) (Some outcome) of =
      let c : ClientState = record { running = Some running; outcome = Some outcome } in more_made made (news c) w.client c of
  client_comes (Some running) None of = standing_comes running.standing running.task of

-- ---- a run

abbrev OfMade : ClientFact
OfMade links made k c = AreOfMade made k c

abbrev AnyMade : MadeFact
AnyMade links made = Unit {0}

of_made_keeps : (plans : List ClientPlan) → KeepsClients plans OfMade AnyMade
of_made_keeps plans = record {
  hears = λ links made k c what now left meets of. quiet_of links made k now left what c.running c.outcome meets of;
  comes = λ links made w c piece now left of any. (client_comes made w piece now left c.running c.outcome of, tt);
  more = λ links made more k c of. more_made made more k c of;
  opens = λ links route made k c of. of;
  made_opens = λ links route made any. tt;
  begins = λ links made k plan is. no_keys made k _ refl refl;
  anew = λ links made k plan is. no_keys made k _ refl refl;
}

-- in every run a key that a client keeps is that of a message that is written down
pub clients_written : (plan : Plan) (moves : List Move) → IsPlainPlan plan → ClientsAreWrittenDown (past plan moves)
clients_written plan moves nothing =
    let kept = clients_after plan moves nothing OfMade AnyMade (of_made_keeps plan.clients) tt in
    record {
      keys = λ client c running link terms question at runs stands asked.
          (kept.each client c at).keeps link.talk.link terms.key
          (record { running = running; own = link; terms = terms; question = question; runs = runs; stands = stands; asked = asked; is_link = refl; is_key = refl });
      outcomes = λ client c name key echoed at is. (kept.each client c at).in_with key (record { name = name; echoed = echoed; is = is });
    }
