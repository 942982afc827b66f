-- What a world counts of the actions that ends give (this project's own choice).
use Rattle.std.specs.Prelude.{ℕ, ◌≡◌, ◌+◌, ◌-◌, ◌^◌, min, Bool, true, false, List, [], count_by, if◌then◌else◌}
use Rattle.outside.specs.declared.action.Action.{Action}
use Rattle.outside.specs.declared.action.Action.TheVariants as action
use Rattle.outside.specs.declared.action.Judged.{Judged}
use Rattle.outside.specs.declared.action.Judged.TheVariants as judged
use Rattle.outside.specs.declared.action.Outcome.{Outcome}
use Rattle.outside.specs.declared.action.Outcome.TheVariants as outcome
use Rattle.domain_controller.specs.Laws.{is_passed}
use Rattle.world_moves.specs.declared.counting.Counts.{Counts}
use Rattle.world_moves.specs.declared.counting.Report.{Report}
use Rattle.world_moves.specs.declared.links.EndId.{EndId}
use Rattle.world_moves.specs.declared.links.EndId.TheVariants.{Controller, Member, Client, Station}

-- ---- what is counted

-- a member lets somebody in, is refused him by the domain, or finds no controller
abbrev pub is_in : Outcome → Bool
is_in (outcome.In domain user key) = true
is_in _ = false

abbrev pub is_out : Outcome → Bool
is_out (outcome.Out status) = true
is_out _ = false

abbrev pub is_unanswered : Outcome → Bool
is_unanswered (outcome.NoController cause) = true
is_unanswered _ = false

abbrev pub tells : (Outcome → Bool) → Action → Bool
tells test (action.Told link what) = test what
tells test _ = false

-- a controller bars an authenticator
abbrev pub is_barred : Judged → Bool
is_barred judged.Barred = true
is_barred _ = false

abbrev pub judges : (Judged → Bool) → Action → Bool
judges test (action.Judged how) = test how
judges test _ = false

-- ---- whose actions are counted

-- What comes of a logon is told by a member, and what is judged by a controller; a client tells neither. A station
-- tells what comes of its user's logon, which isn't counted: what is counted are logons at members.
abbrev pub is_counted : EndId → Bool
is_counted (Controller at) = true
is_counted (Member at) = true
is_counted (Client at) = true
is_counted (Station at) = false

-- the actions of an end that are counted
abbrev pub counted_of : EndId → List Action → List Action
counted_of end actions = if is_counted end then actions else []

-- ---- counts of 32 bits, which stand still at their type's end

abbrev pub clipped : ℕ → ℕ
clipped count = min count (2 ^ 32 - 1)

abbrev pub counts_of : List Action → Counts
counts_of actions = record {
  accepted = clipped (count_by (tells is_in) actions);
  refused = clipped (count_by (tells is_out) actions);
  no_controller = clipped (count_by (tells is_unanswered) actions);
  passed = clipped (count_by (judges is_passed) actions);
  barred = clipped (count_by (judges is_barred) actions);
}

abbrev pub add_counts : Counts → Counts → Counts
add_counts one other = record {
  accepted = clipped (one.accepted + other.accepted);
  refused = clipped (one.refused + other.refused);
  no_controller = clipped (one.no_controller + other.no_controller);
  passed = clipped (one.passed + other.passed);
  barred = clipped (one.barred + other.barred);
}

-- A report of `made` moves tells of each kind of action exactly how many of these there are: no count has come to its
-- type's end.
pub record AreCounted (report : Report) (actions : List Action) (made : ℕ) : Type 0 where
  pub moves : report.moves ≡ made
  pub accepted : report.accepted ≡ count_by (tells is_in) actions
  pub refused : report.refused ≡ count_by (tells is_out) actions
  pub no_controller : report.no_controller ≡ count_by (tells is_unanswered) actions
  pub passed : report.passed ≡ count_by (judges is_passed) actions
  pub barred : report.barred ≡ count_by (judges is_barred) actions

abbrev pub no_counts : Counts
no_counts = record { accepted = 0; refused = 0; no_controller = 0; passed = 0; barred = 0 }
