-- What a unit on an accepted link leaves, of what holds by the rules, and what is held then. P is a premise: that what
-- was held before were requests.
use Rattle.std.proofs.Common.{ℕ, ◌+◌, List, [], ◌∷◌, ◌++◌, Option}
use Rattle.ntlm_flags.specs.Flags.{agreed_flags}
use Rattle.outside.specs.declared.action.Action.TheVariants as action
use Rattle.outside.specs.declared.action.CloseCause.{CloseCause}
use Rattle.outside.specs.declared.action.DropCause.TheVariants as drop_cause
use Rattle.outside.specs.declared.action.Outcome.TheVariants as outcome
use Rattle.rpc_units.specs.declared.unit.Unit.{Unit as RpcUnit}
use Rattle.rpc_units.specs.Reading.{unit_of}
use Rattle.rpc_units.specs.Writing.{written}
use Rattle.end_links.specs.Sending.{fault_of}
use Rattle.member_server.specs.declared.state.AtLink.{AtLink}
use Rattle.member_server.specs.declared.state.Phase.{Phase}
use Rattle.member_server.specs.declared.state.Talk.{Talk}
use Rattle.member_server.specs.Laws.{AreRequests, HoldsAfter, HoldsRequests, IsRequestUnit}
use Rattle.member_server.specs.Messages.{info_of, with_channel}
use Rattle.member_server.specs.Units.{bound_unit, serve_held}
use Rattle.member_server.specs.Work.{Served, send, shut, stay}
use Rattle.member_server.proofs.LinkView.{BoundView, Closes, Asks, Overflows, Keeps, Joins, Answers, Faults, asking_at, bound_view, held_keeps, logon_at}
use Rattle.member_server.proofs.StepRules.{Holds, LinkRules}

-- ---- a unit on an accepted link

more_requests : (held : List (List ℕ)) (bytes : List ℕ) → AreRequests held → IsRequestUnit (unit_of bytes) → AreRequests (held ++ bytes ∷ [])
more_requests [] bytes are is = (is, tt)
more_requests (first ∷ held) bytes are is = (are.0, more_requests held bytes are.1 is)

-- what holds then, and what is held
pub record Fine (P : Type 0) (K : Holds) (served : Served) : Type 0 where
  pub good : K served.0.logons served.0.actions
  pub holds : P → HoldsAfter served.1

module _ (P : Type 0) (K : Holds) (rules : LinkRules K) where
  pub shut_fine : (cause : CloseCause) (at : AtLink) → K at.logons at.actions → Fine P K (shut cause at)
  shut_fine cause at good = record { good = rules.tells at.logons at.actions (action.Close at.link cause) tt good; holds = λ p. tt }

  pub put_fine : (bytes : List ℕ) (talk : Talk) (at : AtLink) → K at.logons at.actions → (P → HoldsRequests talk.phase) → Fine P K (stay (send at bytes) talk)
  put_fine bytes talk at good holds = record { good = rules.tells at.logons at.actions (action.Send at.link bytes) tt good; holds = holds }

  view_fine : (bytes : List ℕ) (joiner : Option RpcUnit) (at : AtLink) (p : Phase) (served : Served) → BoundView bytes joiner at p served → K at.logons at.actions →
      (P → HoldsRequests p) → Fine P K served
  view_fine bytes joiner at p served (Closes cause may) good holds = shut_fine cause at good
  view_fine bytes joiner at p served (Asks {challenge = challenge} {flags = flags} message place fit is) good holds = record {
    good = rules.waits at.logons at.actions (info_of message (agreed_flags flags message.flags) challenge) place (logon_at at challenge flags message) is good;
    holds = λ p. tt;
  }
  view_fine bytes joiner at p served (Overflows {challenge = challenge} {flags = flags} message fit is) good holds = record {
    good = rules.tells (with_channel at.logons (asking_at at challenge flags message).state) at.actions (action.Told at.link (outcome.NoController drop_cause.QueueFull)) tt
        (rules.full at.logons at.actions (info_of message (agreed_flags flags message.flags) challenge) is good);
    holds = λ p. tt;
  }
  view_fine bytes joiner at p served (Keeps {held = held} is fits) good holds = record { good = good; holds = λ p. more_requests held bytes (holds p) is }
  view_fine bytes joiner at p served (Joins unit session is joined) good holds = record { good = good; holds = λ p. tt }
  view_fine bytes joiner at p served (Answers unit sent session is) good holds = put_fine sent _ at good (λ p. tt)
  view_fine bytes joiner at p served (Faults call context) good holds = put_fine (written (fault_of call context _)) _ at good (λ p. tt)

  pub bound_fine : (p : Phase) (bytes : List ℕ) (joiner : Option RpcUnit) (at : AtLink) → K at.logons at.actions → (P → HoldsRequests p) →
      Fine P K (bound_unit p bytes joiner at)
  bound_fine p bytes joiner at good holds = view_fine bytes joiner at p (bound_unit p bytes joiner at) (bound_view bytes joiner at p) good holds

  pub held_fine : (units : List (List ℕ)) (at : AtLink) (talk : Talk) → K at.logons at.actions → (P → HoldsRequests talk.phase) → Fine P K (serve_held units at talk)
  held_fine units at talk good holds =
      held_keeps (Fine P K) (λ bytes at talk fine. bound_fine talk.phase bytes talk.joiner at fine.good fine.holds) units at talk (record { good = good; holds = holds })
