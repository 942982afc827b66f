-- What a member tells where a logon is granted, among the actions that ends give at the move (MS-NLMP 3.2.5.1.2).
use Rattle.std.specs.Prelude.{ℕ, ◌≡◌, List, ◌∷◌, length}
use Rattle.authenticators.specs.SecureChannels.{SecureChannelState, key_of_channel}
use Rattle.outside.specs.declared.action.Action.TheVariants as action
use Rattle.outside.specs.declared.action.CloseCause.TheVariants as close
use Rattle.outside.specs.declared.action.Outcome.TheVariants as outcome
use Rattle.account_table.specs.AccountTable.{AccountTable}
use Rattle.world_moves.specs.declared.links.EndId.TheVariants.{Member}
use Rattle.world_moves.specs.declared.state.State.{State}
use Rattle.world_moves.specs.Acting.{Given}
use Rattle.world_moves.specs.Moving.{onward}
use Rattle.logon_steps.specs.Calling.{TravelsAsZeros}
use Rattle.logon_steps.specs.Granting.{base_key}
use Rattle.logon_runs.specs.Phases.{Arrival, Fits, Granted, IsKnown, TurnAt, WhoAsked, key_at, own, scene_of}
use Rattle.logon_runs.specs.Runs.{ClientAnswer, message_for}
use Rattle.logon_runs.specs.Scenes.Scene.{Shows}

-- the member closes the turn's link, tells of the client's own link that he is in, with the domain, the account's name
-- and the client's key, and answers WhoAmI
pub record TellsIn (p : Arrival) (s : State) (a : ClientAnswer) (v : TurnAt) : Type 0 where
  pub answer : List ℕ
  pub rest : Given
  pub are : (onward s).given
      ≡ (Member p.meeting.at_member, action.Close (length v.links) close.CallDone)
      ∷ (Member p.meeting.at_member, action.Told (own p).link (outcome.In p.table.domain p.account.name (key_at p a)))
      ∷ (Member p.meeting.at_member, action.Send (own p).link answer)
      ∷ rest

pub record GrantsTell : Type 0 where
  -- unless the session base key travels as zeros
  pub tells : (p : Arrival) (s : State) (a : ClientAnswer) (who : WhoAsked p a) (v : TurnAt) (o c : SecureChannelState) (timestamp judged_at : ℕ) (accounts : AccountTable) (left : List (List ℕ))
      (moment : ℕ) → IsKnown p → Fits p (Granted a who v o c timestamp judged_at accounts) → (TravelsAsZeros (key_of_channel o) (base_key p.meeting.task (message_for (own p) a)) → ⊥) →
      Shows s (scene_of p (Granted a who v o c timestamp judged_at accounts) left moment) → TellsIn p s a v
