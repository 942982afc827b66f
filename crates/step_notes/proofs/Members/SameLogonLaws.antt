-- The units on a member's accepted link that leave its logons as they are, and put actions behind those so far: all but
-- the AUTHENTICATE; and the outcome of a logon, which leaves the others so.
-- It serves `calls_carry_their_logon`, `requests_come_first`.
use Rattle.std.proofs.Common.{◌≡◌, ℕ, Bool, true, false, List, [], ◌∷◌, ◌++◌, Option, Some, None, Result, Ok, Err, refl, sym, ap, subst, ◌∙◌}
use Rattle.std.proofs.lemmas.List.{append_assoc, append-nil}
use Rattle.outside.specs.declared.action.Action.{Action}
use Rattle.rpc_units.specs.declared.refused.UnitRefused.{UnitRefused}
use Rattle.rpc_units.specs.declared.unit.Body.{Body}
use Rattle.rpc_units.specs.declared.unit.Body.TheVariants.{Bind, BindAck, BindNak, Auth3, Request, Response, Fault}
use Rattle.rpc_units.specs.declared.unit.Syntax.{Syntax}
use Rattle.rpc_units.specs.declared.unit.Trailer.{Trailer}
use Rattle.rpc_units.specs.declared.unit.Unit.{Unit as RpcUnit}
use Rattle.end_links.specs.Serving.{ServedPart}
use Rattle.member_server.specs.declared.binds.Offer.{Offer}
use Rattle.member_server.specs.declared.state.AtLink.{AtLink}
use Rattle.member_server.specs.declared.state.Bound.{Bound}
use Rattle.member_server.specs.declared.state.Phase.{Phase}
use Rattle.member_server.specs.declared.state.Talk.{Talk}
use Rattle.member_server.specs.Binds.{ack_fits, answer_bind, bind_by, fresh_unit, offer_in}
use Rattle.member_server.specs.Units.{bound_unit, first_unit, serve_held}
use Rattle.member_server.specs.Work.{Served, tell}
use Rattle.wire_base.specs.Maps.{lookup, same_number}
use Rattle.end_links.specs.Links.{LinkState}
use Rattle.member_server.specs.declared.outcomes.Ending.{Ending}
use Rattle.member_server.specs.declared.state.Logon.{Logon}
use Rattle.member_server.specs.declared.state.Work.{Work}
use Rattle.member_server.specs.Outcomes.{after_link, at_link, end_logon, keep_link, phase_after, reach_waiting, tell_outcome, without_link, without_logon}
use Rattle.member_server.proofs.LinkView.{BoundView, Closes, Asks, Overflows, Keeps, Joins, Answers, Faults, bound_view, held_keeps}
use Rattle.member_server.proofs.OutcomeView.{EndView, Unknown, Tells, Reaches, end_view}
use Rattle.step_notes.proofs.Members.UnservedLaws.{HasServed, IfUnserved, bound_serves, ended_serves}

-- actions to which more were added
pub record Grows (old new : List Action) : Type 0 where
  pub more : List Action
  pub is : new ≡ old ++ more

-- the logons and the number of the link are as they were, and so are the actions so far
abbrev pub IsIdle : AtLink → AtLink → Type 0
IsIdle at after = (after.logons ≡ at.logons) × (after.link ≡ at.link) × Grows at.actions after.actions

pub grows_not : (old : List Action) → Grows old old
grows_not old = record { more = []; is = sym (append-nil old) }

pub grows_then : (old between new : List Action) → Grows old between → Grows between new → Grows old new
grows_then old between new one other = record {
  more = one.more ++ other.more;
  is = other.is ∙ ap (λ (a : List Action). a ++ other.more) one.is ∙ append_assoc old one.more other.more;
}

same_idle : (at : AtLink) → IsIdle at at
same_idle at = (refl, refl, grows_not at.actions)

told_idle : (what : Action) (at : AtLink) → IsIdle at (tell at what)
told_idle what at = (refl, refl, record { more = what ∷ []; is = refl })

abbrev pub IsIdlePart : AtLink → ServedPart AtLink Talk → Type 0
IsIdlePart at (Err why) = Unit {0}
IsIdlePart at (Ok part) = IsIdle at part.value.0

-- ---- a unit on a link on which something is bound, but where a CHALLENGE was sent

view_idle : (bytes : List ℕ) (joiner : Option RpcUnit) (at : AtLink) (p : Phase) (served : Served) → BoundView bytes joiner at p served → IfUnserved ⊥ p → IsIdle at served.0
view_idle bytes joiner at p served (Closes cause may) known = told_idle _ at
view_idle bytes joiner at p served (Asks message place fit is) known = absurd known
view_idle bytes joiner at p served (Overflows message fit is) known = absurd known
view_idle bytes joiner at p served (Keeps is fits) known = same_idle at
view_idle bytes joiner at p served (Joins unit session is joins) known = same_idle at
view_idle bytes joiner at p served (Answers unit sent session is) known = told_idle _ at
view_idle bytes joiner at p served (Faults call context) known = told_idle _ at

-- where the challenge of the link has served
pub bound_idle : (p : Phase) (bytes : List ℕ) (joiner : Option RpcUnit) (at : AtLink) → IfUnserved ⊥ p → IsIdle at (bound_unit p bytes joiner at).0
bound_idle p bytes joiner at known = view_idle bytes joiner at p (bound_unit p bytes joiner at) (bound_view bytes joiner at p) known

-- ---- units that were held

idle_then : (at next after : AtLink) → IsIdle at next → IsIdle next after → IsIdle at after
idle_then at next after first second = (second.0 ∙ first.0, second.1 ∙ first.1, grows_then at.actions next.actions after.actions first.2 second.2)

pub held_idle : (units : List (List ℕ)) (at : AtLink) (talk : Talk) → IfUnserved ⊥ talk.phase → IsIdle at (serve_held units at talk).0
held_idle units at talk known =
    (held_keeps (λ served. IsIdle at served.0 × HasServed served.1)
    (λ bytes between said so. (
      idle_then at between (bound_unit said.phase bytes said.joiner between).0 so.0 (bound_idle said.phase bytes said.joiner between so.1),
      bound_serves said.phase bytes said.joiner between,
    )) units at talk (same_idle at, known)).0

-- ---- the outcome of a logon

-- the logons are as they were but for the one of the place, and actions come behind those so far
pub record IsEnded (place : ℕ) (w after : Work) : Type 0 where
  pub logons : after.logons ≡ (without_logon place w).logons
  pub grows : Grows w.actions after.actions

put_back : (said : Option Talk) (rest : List ℕ) (number : ℕ) (at : AtLink) (w : Work) → (keep_link said rest number (after_link at w)).logons ≡ at.logons
put_back None rest number at w = refl
put_back (Some talk) rest number at w = refl

puts_none : (said : Option Talk) (rest : List ℕ) (number : ℕ) (at : AtLink) (w : Work) → (keep_link said rest number (after_link at w)).actions ≡ at.actions
puts_none None rest number at w = refl
puts_none (Some talk) rest number at w = refl

-- what is held on the link that waits
reached : (x : Bound × List (List ℕ)) (link : LinkState Talk) (how : Ending) (logon : Logon) (w : Work) →
    ((reach_waiting x link how logon w).logons ≡ w.logons) × Grows w.actions (reach_waiting x link how logon w).actions
reached x link how logon w =
    let at : AtLink = at_link logon.link w in
    let talk : Talk = record { joiner = link.talk.joiner; phase = phase_after how logon x.0 } in
    let served : Served = serve_held x.1 at talk in
    let idle = held_idle x.1 at talk (ended_serves how logon x.0) in (
      put_back served.1 link.rest logon.link served.0 w ∙ idle.0,
      subst (λ (a : List Action). Grows w.actions a) (sym (puts_none served.1 link.rest logon.link served.0 w)) idle.2,
    )

pub told : (old : List Action) (what : Action) → Grows old (old ++ what ∷ [])
told old what = record { more = what ∷ []; is = refl }

view_ended : (place : ℕ) (how : Ending) (w after : Work) → EndView place how w after → IsEnded place w after
view_ended place how w after (Unknown none) = record { logons = refl; grows = grows_not w.actions }
view_ended place how w after (Tells logon kept) = record { logons = refl; grows = told w.actions _ }
view_ended place how w after (Reaches logon link bound held kept there is) =
    let tells : Work = tell_outcome how logon (without_logon place w) in
    let reaches = reached (bound, held) link how logon (without_link logon.link tells) in
    record { logons = reaches.0; grows = grows_then w.actions tells.actions after.actions (told w.actions _) reaches.1 }

pub logon_ended : (place : ℕ) (how : Ending) (w : Work) → IsEnded place w (end_logon place how w)
logon_ended place how w = view_ended place how w (end_logon place how w) (end_view place how w)

-- where a logon is kept, its outcome is told first
view_tells : (place : ℕ) (how : Ending) (w after : Work) (logon : Logon) → EndView place how w after → lookup same_number place w.logons.asked ≡ Some logon →
    Grows (tell_outcome how logon w).actions after.actions
view_tells place how w after logon (Unknown none) kept = absurd (let x = sym none ∙ kept in cc)
view_tells place how w after logon (Tells other there) kept =
    let same : other ≡ logon = (let x = sym there ∙ kept in cc) in
    subst (λ (l : Logon). Grows (tell_outcome how l w).actions (tell_outcome how other (without_logon place w)).actions) same (grows_not (tell_outcome how other w).actions)
view_tells place how w after logon (Reaches other link bound held there on is) kept =
    let same : other ≡ logon = (let x = sym there ∙ kept in cc) in
    subst (λ (l : Logon). Grows (tell_outcome how l w).actions after.actions) same
    (reached (bound, held) link how other (without_link other.link (tell_outcome how other (without_logon place w)))).1

pub outcome_told : (place : ℕ) (how : Ending) (w : Work) (logon : Logon) → lookup same_number place w.logons.asked ≡ Some logon →
    Grows (tell_outcome how logon w).actions (end_logon place how w).actions
outcome_told place how w logon kept = view_tells place how w (end_logon place how w) logon (end_view place how w) kept

-- ---- a unit on a link on which nothing is bound

answer_idle : (fits : Bool) (offer : Offer) (call receive : ℕ) (contexts : List (ℕ × Syntax × List Syntax)) (joiner : Option RpcUnit) (at : AtLink) (left : List (List ℕ)) →
    IsIdlePart at (answer_bind fits offer call receive contexts joiner at left)
answer_idle false offer call receive contexts joiner at left = told_idle _ at
answer_idle true offer call receive contexts joiner at [] = tt
answer_idle true offer call receive contexts joiner at (challenge ∷ left) = told_idle _ at

bind_idle : (offer : Option Offer) (call receive : ℕ) (contexts : List (ℕ × Syntax × List Syntax)) (joiner : Option RpcUnit) (at : AtLink) (left : List (List ℕ)) →
    IsIdlePart at (bind_by offer call receive contexts joiner at left)
bind_idle None call receive contexts joiner at left = told_idle _ at
bind_idle (Some offer) call receive contexts joiner at left =
    answer_idle (ack_fits offer at.logons.plan call receive contexts) offer call receive contexts joiner at left

fresh_idle : (body : Body) (trailer : Option Trailer) (call : ℕ) (joiner : Option RpcUnit) (at : AtLink) (left : List (List ℕ)) →
    IsIdlePart at (fresh_unit body trailer call joiner at left)
fresh_idle (Bind send receive group contexts) trailer call joiner at left = bind_idle (offer_in trailer) call receive contexts joiner at left
fresh_idle (BindAck send receive group results) trailer call joiner at left = told_idle _ at
fresh_idle (BindNak reason) trailer call joiner at left = told_idle _ at
fresh_idle Auth3 trailer call joiner at left = told_idle _ at
fresh_idle (Request hint context opnum stub) trailer call joiner at left = told_idle _ at
fresh_idle (Response hint context stub) trailer call joiner at left = told_idle _ at
fresh_idle (Fault hint context status) trailer call joiner at left = told_idle _ at

pub first_idle : (unit : Result RpcUnit UnitRefused) (joiner : Option RpcUnit) (at : AtLink) (left : List (List ℕ)) → IsIdlePart at (first_unit unit joiner at left)
first_idle (Err why) joiner at left = told_idle _ at
first_idle (Ok unit) joiner at left = fresh_idle unit.body unit.trailer unit.call joiner at left
