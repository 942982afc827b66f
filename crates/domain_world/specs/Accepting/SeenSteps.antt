-- What is said of one step of a member, beside the requests that were made before it: how the member is seen after it,
-- which draws differ, and where the request that it sends stands among the marks that are written down.
use Rattle.std.specs.Prelude.{ℕ, ◌≡◌, ◌≢◌, ◌⊎◌, ◌==◌, Bool, true, false, AllPairs, List, [], ◌∷◌, ◌++◌, Option, Some, None, Result, Ok, Err, slice_get}
use Rattle.outside.specs.Machine.{Part}
use Rattle.outside.specs.declared.action.StepRefused.{StepRefused}
use Rattle.outside.specs.declared.event.Event.{Event}
use Rattle.authenticators.specs.Channels.{ChannelIdentity}
use Rattle.channel_client.specs.Effects.{IsCoherent, View}
use Rattle.channel_events.specs.Marks.{Calling, Mark, Opened, Opening, Plain, ReplyTo}
use Rattle.channel_events.specs.Requests.{IsRequest, Requests}
use Rattle.member_server.specs.Laws.{heard_in}
use Rattle.member_server.specs.Turns.{DialWork}
use Rattle.member_server.specs.declared.state.Running.{Running}
use Rattle.step_notes.specs.MemberNotes.{TurnNote}
use Rattle.domain_world.specs.Accepting.Runs.{view_with}
use Rattle.domain_world.specs.Past.{requester_in}

-- no two of the draws are alike
abbrev pub Differ : List (List ℕ) → Type 0
Differ draws = AllPairs (λ (one other : List ℕ). one ≢ other) draws

-- ---- how a member is seen

-- how a member is seen, which asks
abbrev pub seen_running : ℕ → Option Running → Option View
seen_running controller r = view_with controller (requester_in r)

-- how a requester is seen: the one that took the step as it is afterwards, each other as before
abbrev pub seen_or : (is_that_one : Bool) → Option View → Option View → Option View
seen_or false new old = old
seen_or true new old = new

-- the requesters after a step: that one is seen as the state says
abbrev pub requests_after : (ℕ → Option View) → ℕ → ℕ → Option Running → List Mark → List (List ℕ) → ℕ → Requests ℕ
requests_after views who controller r marks drawn uses =
    record { views = λ j. seen_or (j == who) (seen_running controller r) (views j); marks = marks; drawn = drawn; uses = uses }

-- no whole unit comes on the link of the turn
abbrev pub HearsNone : Option Running → Event → Type 0
HearsNone None what = Unit {0}
HearsNone (Some running) what = heard_in what running.dialling ≡ []

-- the requester of a member that runs is coherent
abbrev pub CoherentIf : Option Running → Type 0
CoherentIf None = Unit {0}
CoherentIf (Some running) = IsCoherent running.logons.channel

-- ---- marks that are written down

-- none of the marks is of an opening or a call
abbrev pub NoRequests : List Mark → Type 0
NoRequests marks = (k number : ℕ) (c : ChannelIdentity) (mark : Mark) → IsRequest c number mark → slice_get marks k ≡ Some mark → ⊥

-- the mark stands in one place, and no request before or behind it
pub record IsPlaced (more : List Mark) (mark : Mark) : Type 0 where
  pub front : List Mark
  pub rest : List Mark
  pub is : more ≡ front ++ mark ∷ rest
  pub before : NoRequests front
  pub behind : NoRequests rest

-- of marks that are written down for one: requests among them are that one, which is there at most once
abbrev pub IfPlaced : Mark → List Mark → Type 0
IfPlaced (Calling c number timestamp) more = NoRequests more ⊎ IsPlaced more (Calling c number timestamp)
IfPlaced Plain more = NoRequests more
IfPlaced (Opening c number) more = NoRequests more ⊎ IsPlaced more (Opening c number)
IfPlaced (Opened c number request) more = NoRequests more
IfPlaced (ReplyTo c number request) more = NoRequests more

-- where a request goes out, its mark is placed among those that are written down
abbrev pub Placed : (is_there : Bool) (mark : Mark) (more : List Mark) → Type 0
Placed false mark more = NoRequests more
Placed true mark more = IfPlaced mark more

-- the mark of the request that goes out, if one does, stands among those that are written down
abbrev pub PlacedBy : (step : Result (Part DialWork) StepRefused) (note : TurnNote) (more : List Mark) → Type 0
PlacedBy (Err why) note more = NoRequests more
PlacedBy (Ok part) note more = Placed note.sends note.mark more
