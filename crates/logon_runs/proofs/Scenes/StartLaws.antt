-- A client's start where no link is open, and moves that find nothing to do.
-- Of `starts_are_seen`.
use Rattle.std.proofs.Common.{◌≡◌, ℕ, List, [], ◌∷◌, ◌++◌, drop, filter, Option, Some, sym, ap, subst, ◌∙◌, slice_get, append-nil}
use Rattle.outside.specs.declared.action.Action.TheVariants as action
use Rattle.logon_client.specs.declared.plan.ClientPlan.{ClientPlan}
use Rattle.logon_client.specs.declared.state.ClientLink.TheVariants as client_standing
use Rattle.logon_client.specs.Machine.{Beginning}
use Rattle.world_moves.specs.declared.links.EndId.TheVariants.{Client}
use Rattle.world_moves.specs.declared.state.State.{State}
use Rattle.world_moves.specs.declared.state.WaitingDial.{WaitingDial}
use Rattle.world_moves.specs.declared.bag.BagUnit.{BagUnit}
use Rattle.world_moves.specs.Acting.{Acted, AfterHearing, done, forget, is_of_other}
use Rattle.world_moves.specs.Counting.{add_counts, counts_of}
use Rattle.world_moves.specs.Ends.{with_client}
use Rattle.world_moves.specs.Links.{OpenMap, forget_end}
use Rattle.world_moves.specs.Moving.{connect_first, start_at, start_by, without_first}
use Rattle.logon_steps.specs.ClientSteps.{client_at}
use Rattle.logon_steps.proofs.ClientStepLaws.{clients_step}
use Rattle.logon_runs.specs.Scenes.LinkScenes.{rest_scene}
use Rattle.logon_runs.specs.Scenes.Scene.{Shows}
use Rattle.logon_runs.specs.Scenes.Starts.{StartsAreSeen}
use Rattle.logon_runs.specs.Scenes.WaitingUnits.{waiting}
use Rattle.logon_runs.proofs.Scenes.WaitingLaws.{waiting_comes}
use Rattle.domain_controller.proofs.TurnOutLaws.{got_set}

-- the client begins so
abbrev pub begun_so : ℕ → Beginning → State → AfterHearing
begun_so at beginning s = record {
  state = record s { ends = with_client at beginning.state s.ends; counts = add_counts s.counts (counts_of beginning.actions) };
  actions = beginning.actions;
}

starts_so : (s : State) (at number : ℕ) (task : ClientPlan) → slice_get s.client_plans at ≡ Some task →
    (start_at (Some at) s).state
    ≡ (done (Client at) (begun_so at (record { actions = action.Dial task.server ∷ []; state = client_at task client_standing.Dialling }) (forget (Client at) s))).state
starts_so s at number task is =
    ap (λ (plan : Option ClientPlan). (start_by plan at s).state) is
    ∙ ap (λ (beginning : Beginning). (done (Client at) (begun_so at beginning (forget (Client at) s))).state) (clients_step.begins task)

pub starts_are_seen : StartsAreSeen
starts_are_seen = record {
  starts = λ s g number before links left moment chosen is_task shows.
      subst (λ (later : State). Shows later (rest_scene g (client_at g.task client_standing.Dialling) links left moment (record { end = Client g.at_client; peer = g.task.server } ∷ [])))
      (sym (ap (λ (at : Option ℕ). (start_at at s).state) chosen ∙ starts_so s g.at_client number g.task is_task))
      (record {
        client = got_set s.ends.clients g.at_client before (client_at g.task client_standing.Dialling) shows.client;
        member = shows.member;
        controller = shows.controller;
        unsealed = shows.unsealed;
        plain = shows.plain;
        links = shows.links;
        opened = ap (λ (o : OpenMap). forget_end (Client g.at_client) o) shows.opened;
        units = ap (λ (bag : List BagUnit). waiting bag) (append-nil s.bag) ∙ shows.units;
        dials = ap (λ (dials : List WaitingDial). filter (is_of_other (Client g.at_client)) dials ++ record { end = Client g.at_client; peer = g.task.server } ∷ []) shows.dials;
        left = shows.left;
        moment = shows.moment;
      });
  no_dial = λ s v none shows.
      subst (λ (later : State). Shows later v)
      (sym (ap (λ (first : Option WaitingDial). (connect_first first (without_first s)).state) (ap (λ (dials : List WaitingDial). slice_get dials 0) (shows.dials ∙ none))))
      (record {
        client = shows.client;
        member = shows.member;
        controller = shows.controller;
        unsealed = shows.unsealed;
        plain = shows.plain;
        links = shows.links;
        opened = shows.opened;
        units = shows.units;
        dials = ap (λ (dials : List WaitingDial). drop 1 dials) (shows.dials ∙ none) ∙ sym none;
        left = shows.left;
        moment = shows.moment;
      });
  no_unit = λ s v none shows.
      subst (λ (later : State). Shows later v) (sym (ap (λ (a : Acted). a.state) (waiting_comes.idle s (shows.units ∙ none)))) shows;
}
