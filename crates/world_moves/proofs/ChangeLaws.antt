-- What a change of a member's secret comes to as it begins: nothing, or the member has a next secret and keeps the
-- text. It serves `change_member`, `Ends::change`, `World::report`, `World::step` and the laws of all runs.
use Rattle.std.proofs.Common.{◌≡◌, ◌≢◌, ℕ, zero, suc, false, List, [], ◌∷◌, Option, Some, None, Result, Ok, Err, slice_get, slice_set, refl, ap, ap₂, sym, subst, ◌∙◌}
use Rattle.outside.specs.declared.action.Action.{Action}
use Rattle.outside.specs.declared.action.Action.TheVariants as action
use Rattle.secret_change.specs.Secrets.{SecretsState, begin_by, untried_next, written_secrets}
use Rattle.secret_change.specs.declared.secrets.Next.{Next}
use Rattle.end_links.specs.Bounds.{AreShortSends}
use Rattle.member_server.specs.State.{State as MemberState}
use Rattle.member_server.specs.Machine.{ChangesBy, change_by as change_running_by, change_of, change_on, is_stopped as member_is_stopped, running_with}
use Rattle.member_server.specs.declared.change.ChangeRefused.{ChangeRefused}
use Rattle.member_server.specs.declared.change.ChangeRefused.TheVariants as change_refused
use Rattle.member_server.specs.declared.state.Running.{Running}
use Rattle.world_moves.specs.Ends.{EndStates, HasChanged, actions_begun, change_by, end_change, with_member}

-- ---- the call

-- a call that found memory has done so
pub changes_so : (answer : Result (List Action) ChangeRefused) (old new : MemberState) (secret : List ℕ) → answer ≢ Err change_refused.Memory → ChangesBy answer (change_of old secret) new →
    HasChanged (actions_begun answer) old secret new
changes_so (Ok actions) old new secret known changes = record { member = changes.1; actions = sym (ap actions_begun changes.0) }
changes_so (Err change_refused.Memory) old new secret known changes = absurd (known refl)
changes_so (Err change_refused.Stopped) old new secret known changes = record { member = changes.1; actions = sym (ap actions_begun changes.0) }
changes_so (Err (change_refused.Busy next)) old new secret known changes = record { member = changes.1; actions = sym (ap actions_begun changes.0) }

pub member_changes : (old new : MemberState) (at : ℕ) (secret : List ℕ) (ends : EndStates) (actions : List Action) → slice_get ends.members at ≡ Some old → HasChanged actions old secret new →
    end_change at secret ends ≡ record { ends = record ends { members = slice_set ends.members at new }; actions = actions }
member_changes old new at secret ends actions there has =
    ap (λ (found : Option MemberState). change_by found at secret ends) there
    ∙ ap₂ (λ (member : MemberState) (all : List Action). record { ends = with_member at member ends; actions = all }) (sym has.member) (sym has.actions)

-- ---- what it comes to at a member

-- the secrets beside which this one is the next
abbrev pub with_next : List ℕ → SecretsState → SecretsState
with_next secret secrets = record secrets { next = Some (untried_next secret) }

-- a member that keeps this, once its change to the secret has begun, and its actions
abbrev pub member_begun : List ℕ → Running → MemberState
member_begun secret running = record { running = Some (running_with (with_next secret running.logons.plan.secrets) running) }

abbrev pub text_begun : List ℕ → Running → List Action
text_begun secret running = action.Keep (written_secrets (with_next secret running.logons.plan.secrets)) ∷ []

module _ (P : MemberState → List Action → Type 0) (secret : List ℕ) (m : MemberState) (none : P m [])
    (begins : (running : Running) → m ≡ record { running = Some running } → running.logons.plan.secrets.next ≡ None → P (member_begun secret running) (text_begun secret running)) where
  next_by : (next : Option Next) (running : Running) → running.logons.plan.secrets.next ≡ next → m ≡ record { running = Some running } →
      P (change_running_by (begin_by next running.logons.plan.secrets secret) running m).state (actions_begun (change_running_by (begin_by next running.logons.plan.secrets secret) running m).answer)
  next_by None running is runs = begins running runs is
  next_by (Some next) running is runs = none

  running_by : (r : Option Running) → m ≡ record { running = r } → P (change_on r m secret).state (actions_begun (change_on r m secret).answer)
  running_by None runs = none
  running_by (Some running) runs = next_by running.logons.plan.secrets.next running refl runs

  -- whatever holds where nothing changes, and where a member without a next secret has this one and keeps the text
  pub member_by_change : P (change_of m secret).state (actions_begun (change_of m secret).answer)
  member_by_change = running_by m.running refl

pub change_runs : (old new : MemberState) (secret : List ℕ) (actions : List Action) → member_is_stopped old ≡ false → HasChanged actions old secret new → member_is_stopped new ≡ false
change_runs old new secret actions runs has =
    ap (λ (m : MemberState). member_is_stopped m) has.member ∙ member_by_change (λ (m : MemberState) (all : List Action). member_is_stopped m ≡ false) secret old runs (λ running is none. refl)

pub change_short : (old new : MemberState) (secret : List ℕ) (actions : List Action) → HasChanged actions old secret new → AreShortSends actions
change_short old new secret actions has =
    subst AreShortSends (sym has.actions) (member_by_change (λ (m : MemberState) (all : List Action). AreShortSends all) secret old tt (λ running is none. (tt, tt)))

-- ---- what it comes to at the ends

-- what is at a place is put there again
set_again : (members : List MemberState) (at : ℕ) (member : MemberState) → slice_get members at ≡ Some member → slice_set members at member ≡ members
set_again [] at member is = refl
set_again (first ∷ members) zero member is = let same : first ≡ member = cc in ap (λ (m : MemberState). m ∷ members) (sym same)
set_again (first ∷ members) (suc at) member is = ap (λ (rest : List MemberState). first ∷ rest) (set_again members at member is)

module _ (P : EndStates → List Action → Type 0) (at : ℕ) (secret : List ℕ) (ends : EndStates) (none : P ends [])
    (begins : (running : Running) → slice_get ends.members at ≡ Some (record { running = Some running }) → running.logons.plan.secrets.next ≡ None →
    P (with_member at (member_begun secret running) ends) (text_begun secret running)) where
  found_by : (found : Option MemberState) → slice_get ends.members at ≡ found → P (change_by found at secret ends).ends (change_by found at secret ends).actions
  found_by None is = none
  found_by (Some m) is =
      member_by_change (λ (new : MemberState) (actions : List Action). P (with_member at new ends) actions) secret m
      (subst (λ (members : List MemberState). P (record ends { members = members }) []) (sym (set_again ends.members at m is)) none)
      (λ running runs free. begins running (is ∙ ap Some runs) free)

  -- whatever holds where nothing changes, and where a member without a next secret has this one and keeps the text
  pub by_change : P (end_change at secret ends).ends (end_change at secret ends).actions
  by_change = found_by (slice_get ends.members at) refl
