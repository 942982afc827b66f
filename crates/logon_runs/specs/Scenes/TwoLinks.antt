-- The link of a turn beside that of its client: which is open, and which it is (this project's own
-- choice).
use Rattle.std.specs.Prelude.{◌≡◌, ◌≢◌, [], ◌∷◌, ◌++◌, length, Some, slice_get}
use Rattle.wire_base.specs.Maps.{lookup, same_number, take_out}
use Rattle.channel_client.specs.declared.state.Standing.{Standing}
use Rattle.member_server.specs.declared.state.Talk.{Talk}
use Rattle.world_moves.specs.declared.links.Route.TheVariants.{ToController, ToMember}
use Rattle.world_moves.specs.Links.{accepted}
use Rattle.logon_steps.specs.MemberLinks.{one_link}
use Rattle.logon_steps.specs.MemberTurns.{IsNew}
use Rattle.logon_runs.specs.Scenes.AskScenes.{HasOwnLink}
use Rattle.logon_runs.specs.Scenes.LinkScenes.{Meeting, its_link}
use Rattle.logon_runs.specs.Scenes.TurnScenes.{IsBetween, TurnScene, next_turn}

-- the client's link is among those of before the turn
abbrev pub HasMet : Meeting → TurnScene → Type 0
HasMet g t = slice_get t.links g.link ≡ Some (ToMember g.at_client g.at_member)

pub record TurnsHaveLinks : Type 0 where
  pub found : (g : Meeting) (t : TurnScene) → HasMet g t →
      lookup same_number (length t.links) (its_link g ++ (length t.links, accepted (ToController t.at_member t.at_controller)) ∷ [])
      ≡ Some (accepted (ToController t.at_member t.at_controller))
  pub new : (g : Meeting) (t : TurnScene) (talk : Talk) → HasMet g t → IsNew (length t.links) (one_link g.link talk)
  pub between : (g : Meeting) (t : TurnScene) (how : Standing) → HasMet g t → IsBetween (next_turn t (its_link g) how)
  pub own : (g : Meeting) (t : TurnScene) (how : Standing) → HasMet g t → HasOwnLink g (next_turn t (its_link g) how).opened
  pub apart : (g : Meeting) (t : TurnScene) → HasMet g t → length t.links ≢ g.link
  pub taken : (g : Meeting) (t : TurnScene) (how : Standing) → HasMet g t → take_out same_number (length t.links) (next_turn t (its_link g) how).opened ≡ its_link g
  pub met : (g : Meeting) (t : TurnScene) (how : Standing) → HasMet g t → HasMet g (next_turn t (its_link g) how)
