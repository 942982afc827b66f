-- Which challenges are left once a unit of a link is served: a rest of those that were left before, and at most one
-- fewer.
use Rattle.std.specs.Prelude.{ℕ, ◌≡◌, ◌+◌, ◌≤◌, Bool, true, false, List, [], ◌∷◌, length, Option, Some, None, Result, Ok, Err, refl}
use Rattle.std.proofs.Common.{◌∙◌, subst, sym}
use Rattle.std.proofs.lemmas.List.{length-append}
use Rattle.std.proofs.Math.Nat.{add_comm, le_refl}
use Rattle.outside.specs.Drawing.{IsRest}
use Rattle.outside.specs.Machine.{left_by}
use Rattle.rpc_units.specs.declared.refused.UnitRefused.{UnitRefused}
use Rattle.rpc_units.specs.declared.unit.Body.{Body}
use Rattle.rpc_units.specs.declared.unit.Body.TheVariants.{Bind, BindAck, BindNak, Auth3, Request, Response, Fault}
use Rattle.rpc_units.specs.declared.unit.Syntax.{Syntax}
use Rattle.rpc_units.specs.declared.unit.Trailer.{Trailer}
use Rattle.rpc_units.specs.declared.unit.Unit.{Unit as RpcUnit}
use Rattle.rpc_units.specs.Reading.{unit_of}
use Rattle.end_links.specs.Bounds.{ServerDrawsFew, extra_after, extra_on}
use Rattle.end_links.specs.Serving.{ServedPart, ServerLeavesRest}
use Rattle.end_links.proofs.BoundLaws.{nothing_drawn, none_fewer}
use Rattle.member_server.specs.declared.binds.Offer.{Offer}
use Rattle.member_server.specs.declared.state.AtLink.{AtLink}
use Rattle.member_server.specs.declared.state.Phase.{Phase}
use Rattle.member_server.specs.declared.state.Talk.{Talk}
use Rattle.member_server.specs.Binds.{ack_fits, answer_bind, bind_by, fresh_unit, offer_in}
use Rattle.member_server.specs.Turns.{turn_server}
use Rattle.member_server.specs.Units.{bound_unit, first_unit, is_fresh, unit_by, link_server}

-- all challenges are a rest
pub all_left : (left : List (List ℕ)) → IsRest left left
all_left left = record { front = []; is = refl }

-- all challenges but the first are a rest
pub rest_left : (challenge : List ℕ) (left : List (List ℕ)) → IsRest left (challenge ∷ left)
rest_left challenge left = record { front = challenge ∷ []; is = refl }

pub answer_rest : (fits : Bool) (offer : Offer) (call receive : ℕ) (contexts : List (ℕ × Syntax × List Syntax)) (joiner : Option RpcUnit) (at : AtLink) (left : List (List ℕ)) →
    IsRest (left_by (answer_bind fits offer call receive contexts joiner at left)) left
answer_rest false offer call receive contexts joiner at left = all_left left
answer_rest true offer call receive contexts joiner at [] = all_left []
answer_rest true offer call receive contexts joiner at (challenge ∷ left) = rest_left challenge left

pub bind_rest : (offer : Option Offer) (call receive : ℕ) (contexts : List (ℕ × Syntax × List Syntax)) (joiner : Option RpcUnit) (at : AtLink) (left : List (List ℕ)) →
    IsRest (left_by (bind_by offer call receive contexts joiner at left)) left
bind_rest None call receive contexts joiner at left = all_left left
bind_rest (Some offer) call receive contexts joiner at left =
    answer_rest (ack_fits offer at.logons.plan call receive contexts) offer call receive contexts joiner at left

fresh_rest : (body : Body) (trailer : Option Trailer) (call : ℕ) (joiner : Option RpcUnit) (at : AtLink) (left : List (List ℕ)) →
    IsRest (left_by (fresh_unit body trailer call joiner at left)) left
fresh_rest (Bind send receive group contexts) trailer call joiner at left = bind_rest (offer_in trailer) call receive contexts joiner at left
fresh_rest (BindAck send receive group results) trailer call joiner at left = all_left left
fresh_rest (BindNak reason) trailer call joiner at left = all_left left
fresh_rest Auth3 trailer call joiner at left = all_left left
fresh_rest (Request hint context opnum stub) trailer call joiner at left = all_left left
fresh_rest (Response hint context stub) trailer call joiner at left = all_left left
fresh_rest (Fault hint context status) trailer call joiner at left = all_left left

pub first_rest : (unit : Result RpcUnit UnitRefused) (joiner : Option RpcUnit) (at : AtLink) (left : List (List ℕ)) → IsRest (left_by (first_unit unit joiner at left)) left
first_rest (Err why) joiner at left = all_left left
first_rest (Ok unit) joiner at left = fresh_rest unit.body unit.trailer unit.call joiner at left

unit_rest : (fresh : Bool) (how : Phase) (bytes : List ℕ) (joiner : Option RpcUnit) (at : AtLink) (left : List (List ℕ)) → IsRest (left_by (unit_by fresh how bytes joiner at left)) left
unit_rest true how bytes joiner at left = first_rest (unit_of bytes) joiner at left
unit_rest false how bytes joiner at left = all_left left

-- an accepted link
pub link_leaves : ServerLeavesRest link_server
link_leaves = record {
  unit = λ bytes at talk left. unit_rest (is_fresh talk.phase) talk.phase bytes talk.joiner at left;
  refusal = λ why at talk left. all_left left;
}

-- the link of a turn, which draws none
pub turn_leaves : ServerLeavesRest turn_server
turn_leaves = record {
  unit = λ bytes at talk left. all_left left;
  refusal = λ why at talk left. all_left left;
}

-- ---- how many are drawn

-- none, whatever is said then
none_drawn : {T : Type 0} (said : Option T) (left : List (List ℕ)) → length left + extra_on (λ (talk : T). 0) said ≤ length left + 1 + 0
none_drawn None left = nothing_drawn (length left) 0
none_drawn (Some talk) left = nothing_drawn (length left) 0

one_drawn : (challenge : List ℕ) (left : List (List ℕ)) → length (challenge ∷ left) + 0 ≤ length left + 1 + 0
one_drawn challenge left =
    let one : length (challenge ∷ left) ≡ length left + 1 = length-append (challenge ∷ []) left ∙ add_comm 1 (length left) in
    subst (λ (n : ℕ). n + 0 ≤ length left + 1 + 0) (sym one) (le_refl (length left + 1 + 0))

-- at most one of these, and nothing more is allowed by what is said on a link
abbrev pub DrawsOne : List (List ℕ) → ServedPart AtLink Talk → Type 0
DrawsOne left part = length left + extra_after (λ (talk : Talk). 0) part ≤ length (left_by part) + 1 + 0

answer_few : (fits : Bool) (offer : Offer) (call receive : ℕ) (contexts : List (ℕ × Syntax × List Syntax)) (joiner : Option RpcUnit) (at : AtLink) (left : List (List ℕ)) →
    DrawsOne left (answer_bind fits offer call receive contexts joiner at left)
answer_few false offer call receive contexts joiner at left = nothing_drawn (length left) 0
answer_few true offer call receive contexts joiner at [] = nothing_drawn 0 0
answer_few true offer call receive contexts joiner at (challenge ∷ left) = one_drawn challenge left

bind_few : (offer : Option Offer) (call receive : ℕ) (contexts : List (ℕ × Syntax × List Syntax)) (joiner : Option RpcUnit) (at : AtLink) (left : List (List ℕ)) →
    DrawsOne left (bind_by offer call receive contexts joiner at left)
bind_few None call receive contexts joiner at left = nothing_drawn (length left) 0
bind_few (Some offer) call receive contexts joiner at left =
    answer_few (ack_fits offer at.logons.plan call receive contexts) offer call receive contexts joiner at left

fresh_few : (body : Body) (trailer : Option Trailer) (call : ℕ) (joiner : Option RpcUnit) (at : AtLink) (left : List (List ℕ)) →
    DrawsOne left (fresh_unit body trailer call joiner at left)
fresh_few (Bind send receive group contexts) trailer call joiner at left = bind_few (offer_in trailer) call receive contexts joiner at left
fresh_few (BindAck send receive group results) trailer call joiner at left = nothing_drawn (length left) 0
fresh_few (BindNak reason) trailer call joiner at left = nothing_drawn (length left) 0
fresh_few Auth3 trailer call joiner at left = nothing_drawn (length left) 0
fresh_few (Request hint context opnum stub) trailer call joiner at left = nothing_drawn (length left) 0
fresh_few (Response hint context stub) trailer call joiner at left = nothing_drawn (length left) 0
fresh_few (Fault hint context status) trailer call joiner at left = nothing_drawn (length left) 0

first_few : (unit : Result RpcUnit UnitRefused) (joiner : Option RpcUnit) (at : AtLink) (left : List (List ℕ)) → DrawsOne left (first_unit unit joiner at left)
first_few (Err why) joiner at left = nothing_drawn (length left) 0
first_few (Ok unit) joiner at left = fresh_few unit.body unit.trailer unit.call joiner at left

unit_few : (fresh : Bool) (how : Phase) (bytes : List ℕ) (joiner : Option RpcUnit) (at : AtLink) (left : List (List ℕ)) → DrawsOne left (unit_by fresh how bytes joiner at left)
unit_few true how bytes joiner at left = first_few (unit_of bytes) joiner at left
unit_few false how bytes joiner at left = none_drawn (bound_unit how bytes joiner at).1 left

-- an accepted link
pub link_few : ServerDrawsFew link_server (λ talk. 0)
link_few = record {
  unit = λ bytes at talk left. unit_few (is_fresh talk.phase) talk.phase bytes talk.joiner at left;
  refusal = λ why at talk left. none_fewer (length left);
}
