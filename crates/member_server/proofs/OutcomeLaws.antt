-- A link that an outcome reaches.
use Rattle.std.proofs.Common.{◌≡◌, ℕ, Bool, true, List, Option, Some, None, is_some, refl, sym, ap, ◌∙◌}
use Rattle.std.proofs.lemmas.Bool.{eq-eqb}
use Rattle.end_links.specs.Links.{LinkState}
use Rattle.member_server.specs.declared.outcomes.Ending.{Ending}
use Rattle.member_server.specs.declared.state.Bound.{Bound}
use Rattle.member_server.specs.declared.state.Logon.{Logon}
use Rattle.member_server.specs.declared.state.Talk.{Talk}
use Rattle.member_server.specs.declared.state.Work.{Work}
use Rattle.rpc_units.specs.declared.unit.Unit.{Unit as RpcUnit}
use Rattle.member_server.specs.declared.state.Phase.{Phase}
use Rattle.member_server.specs.declared.state.Phase.TheVariants as phase
use Rattle.member_server.specs.Outcomes.{after_served, at_link, phase_after, reach_alone, reach_in_map, waiting_at, waiting_if, without_link}
use Rattle.member_server.specs.Units.{serve_held}

pub turned : (waits : Option (Bound × List (List ℕ))) (link : LinkState Talk) (how : Ending) (logon : Logon) (work : Work) → is_some waits ≡ true →
    reach_alone waits link how logon (without_link logon.link work) ≡ reach_in_map waits link how logon work
turned None link how logon work is = absurd (let z = is in cc)
turned (Some waits) link how logon work is = refl

-- a link that waits for this place
pub asked_turned : (place other : ℕ) (bound : Bound) (held : List (List ℕ)) (how_far : Phase) (joiner : Option RpcUnit) (rest : List ℕ) (how : Ending) (logon : Logon) (work : Work) →
    how_far ≡ phase.Asked bound other held → other ≡ place →
    after_served (serve_held held (at_link logon.link work) (record { joiner = joiner; phase = phase_after how logon bound })) rest logon.link work
    ≡ reach_alone (waiting_at place how_far) (record { rest = rest; talk = record { joiner = joiner; phase = how_far } }) how logon work
asked_turned place other bound held how_far joiner rest how logon work is same =
    let waits : waiting_at place how_far ≡ Some (bound, held) =
    ap (waiting_at place) is ∙ ap (λ (b : Bool). waiting_if b bound held) (eq-eqb other place same) in
    sym (ap (λ x. reach_alone x (record { rest = rest; talk = record { joiner = joiner; phase = how_far } }) how logon work) waits)
