-- What an end's actions do in a world (this project's own choice).
use Rattle.std.specs.Prelude.{ℕ, Bool, true, false, List, [], ◌∷◌, ◌++◌, map, not, filter, Option, Some, None, slice_get, slice_set}
use Rattle.wire_base.specs.Maps.{lookup, take_out, same_number}
use Rattle.outside.specs.declared.action.Action.{Action}
use Rattle.outside.specs.declared.action.Action.TheVariants.{Keep, Send, Dial, Close}
use Rattle.outside.specs.declared.event.Event.{Event}
use Rattle.outside.specs.declared.event.Event.TheVariants as event
use Rattle.secret_change.specs.Secrets.{SecretsState, secrets_of}
use Rattle.member_server.specs.declared.plan.MemberPlan.{MemberPlan}
use Rattle.world_moves.specs.declared.bag.BagUnit.{BagUnit}
use Rattle.world_moves.specs.declared.links.EndId.{EndId}
use Rattle.world_moves.specs.declared.links.EndId.TheVariants.{Controller, Member, Client, Station}
use Rattle.world_moves.specs.declared.links.OpenLink.{OpenLink}
use Rattle.world_moves.specs.declared.links.Route.{Route}
use Rattle.world_moves.specs.declared.state.State.{State}
use Rattle.world_moves.specs.declared.state.WaitingDial.{WaitingDial}
use Rattle.world_moves.specs.Counting.{add_counts, counts_of}
use Rattle.world_moves.specs.Ends.{EndStep, end_step}
use Rattle.world_moves.specs.Links.{forget_end, hearer_of, is_accepted_by, is_own, kind_of, other_hearer, same_end}

-- ---- what a part of a move comes to: the world, and the actions that ends gave, in order, each with its end

abbrev pub Given : Type 0
Given = List (EndId × Action)

pub record Acted : Type 0 where
  pub state : State
  pub given : Given

abbrev pub nothing_done : State → Acted
nothing_done s = record { state = s; given = [] }

-- a part, and then another
abbrev pub then_act : Acted → (State → Acted) → Acted
then_act first later = record { state = (later first.state).state; given = first.given ++ (later first.state).given }

abbrev pub given_by : EndId → List Action → Given
given_by end actions = map (λ (what : Action). (end, what)) actions

-- ---- an end hears something: the world with its state afterwards, and what it counted, and its actions, which aren't
-- done yet

pub record AfterHearing : Type 0 where
  pub state : State
  pub actions : List Action

abbrev pub heard_by : EndStep → State → AfterHearing
heard_by step s = record {
  state = record s { ends = step.ends; chances = step.chances; counts = add_counts s.counts (counts_of step.counted) };
  actions = step.actions;
}

abbrev pub hear : EndId → Event → State → AfterHearing
hear end what s = heard_by (end_step end what s.moment s.ends s.chances) s

-- ---- what an action changes that closes nothing: a unit goes into the bag, a dial waits, or a text is kept

-- a unit that an end sends on a link
abbrev pub unit_on : Route → EndId → ℕ → List ℕ → BagUnit
unit_on route end link bytes =
    record { bytes = bytes; link = link; kind = kind_of route; back = is_accepted_by end route; is_settled = false }

abbrev pub unit_if : (goes : Bool) → BagUnit → List BagUnit
unit_if false unit = []
unit_if true unit = unit ∷ []

-- what goes into the bag where an end sends on a link: the unit, unless the link is a stranger's
abbrev pub sent_if : Option Route → EndId → ℕ → List ℕ → List BagUnit
sent_if None end link bytes = []
sent_if (Some route) end link bytes = unit_if (is_own (kind_of route)) (unit_on route end link bytes)

-- the units that an action sends
abbrev pub units_of_action : List Route → EndId → Action → List BagUnit
units_of_action links end (Send link bytes) = sent_if (slice_get links link) end link bytes
units_of_action links end _ = []

-- the dials that an action makes
abbrev pub dials_of_action : EndId → Action → List WaitingDial
dials_of_action end (Dial peer) = record { end = end; peer = peer } ∷ []
dials_of_action end _ = []

-- a text that an end keeps: a member's plan has the secrets of the text from then on, which the member is made from
-- when it begins anew. A controller begins anew with its accounts as they stand, so its text changes nothing here
abbrev pub put_secrets : Option MemberPlan → SecretsState → ℕ → List MemberPlan → List MemberPlan
put_secrets None secrets at plans = plans
put_secrets (Some plan) secrets at plans = slice_set plans at (record plan { secrets = secrets })

abbrev pub keep_by : Option SecretsState → ℕ → List MemberPlan → List MemberPlan
keep_by None at plans = plans
keep_by (Some secrets) at plans = put_secrets (slice_get plans at) secrets at plans

abbrev pub keep_at : EndId → List ℕ → List MemberPlan → List MemberPlan
keep_at (Controller at) text plans = plans
keep_at (Member at) text plans = keep_by (secrets_of text) at plans
keep_at (Client at) text plans = plans
keep_at (Station at) text plans = plans

-- the plans of members after an action
abbrev pub plans_after : EndId → Action → List MemberPlan → List MemberPlan
plans_after end (Keep text) plans = keep_at end text plans
plans_after end _ plans = plans

-- What an action leaves in a state: units and dials go behind the others. `Close` is passed over here.
abbrev pub perform_quietly : EndId → Action → State → State
perform_quietly end what s = record s {
  member_plans = plans_after end what s.member_plans;
  bag = s.bag ++ units_of_action s.links end what;
  dials = s.dials ++ dials_of_action end what;
}

abbrev pub perform_all_quietly : EndId → List Action → State → State
perform_all_quietly end [] s = s
perform_all_quietly end (what ∷ actions) s = perform_all_quietly end actions (perform_quietly end what s)

-- ---- an end hears that a link was closed: what it does then closes nothing

abbrev pub done_quietly : EndId → AfterHearing → Acted
done_quietly end heard = record {
  state = perform_all_quietly end heard.actions heard.state;
  given = given_by end heard.actions;
}

abbrev pub hear_closed : ℕ → EndId → State → Acted
hear_closed link end s = done_quietly end (hear end (event.Closed link) s)

abbrev pub closed_at : Option EndId → ℕ → State → Acted
closed_at None link s = nothing_done s
closed_at (Some end) link s = hear_closed link end s

-- ---- actions

-- the link is open no more
abbrev pub shut_link : ℕ → State → State
shut_link link s = record s { open_links = take_out same_number link s.open_links }

-- the end at the other side hears of it
abbrev pub close_open : Option OpenLink → EndId → ℕ → State → Acted
close_open None end link s = nothing_done s
close_open (Some there) end link s = closed_at (other_hearer end there) link (shut_link link s)

abbrev pub close : EndId → ℕ → State → Acted
close end link s = close_open (lookup same_number link s.open_links) end link s

-- the link that an action closes
abbrev pub link_closed : Action → Option ℕ
link_closed (Close link cause) = Some link
link_closed _ = None

abbrev pub perform_by : (closed : Option ℕ) → EndId → Action → State → Acted
perform_by None end what s = nothing_done (perform_quietly end what s)
perform_by (Some link) end what s = close end link s

abbrev pub perform : EndId → Action → State → Acted
perform end what s = perform_by (link_closed what) end what s

-- in their order
abbrev pub perform_all : EndId → List Action → State → Acted
perform_all end [] s = nothing_done s
perform_all end (what ∷ actions) s = then_act (perform end what s) (λ later. perform_all end actions later)

-- an end hears something, and does what it then does
abbrev pub done : EndId → AfterHearing → Acted
done end heard = record {
  state = (perform_all end heard.actions heard.state).state;
  given = given_by end heard.actions ++ (perform_all end heard.actions heard.state).given;
}

abbrev pub hear_and_act : EndId → Event → State → Acted
hear_and_act end what s = done end (hear end what s)

-- ---- what comes on a link, `back` to the end that dialled it: a side that isn't open hears nothing

abbrev pub hear_and_act_if : Option EndId → Event → State → Acted
hear_and_act_if None what s = nothing_done s
hear_and_act_if (Some end) what s = hear_and_act end what s

abbrev pub piece_comes : Bool → ℕ → List ℕ → State → Acted
piece_comes back link piece s =
    hear_and_act_if (hearer_of back (lookup same_number link s.open_links)) (event.Bytes link piece) s

abbrev pub pieces_come : Bool → ℕ → List (List ℕ) → State → Acted
pieces_come back link [] s = nothing_done s
pieces_come back link (piece ∷ pieces) s =
    then_act (piece_comes back link piece s) (λ later. pieces_come back link pieces later)

-- ---- an end is forgotten: its links are open at its side no more, and its dials wait no more

abbrev pub is_of_other : EndId → WaitingDial → Bool
is_of_other end waiting = not (same_end waiting.end end)

abbrev pub forget : EndId → State → State
forget end s = record s { open_links = forget_end end s.open_links; dials = filter (is_of_other end) s.dials }
