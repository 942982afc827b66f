-- A challenge serves one AUTHENTICATE, and an outcome reaches the link that waits for it.
use Rattle.std.proofs.Common.{◌≡◌, ℕ, List, Option, Some, None, refl, ap, ◌∙◌}
use Rattle.wire_base.specs.Maps.{lookup, same_number}
use Rattle.rpc_units.specs.declared.unit.Unit.{Unit as RpcUnit}
use Rattle.end_links.specs.Links.{LinkState}
use Rattle.member_server.specs.declared.outcomes.Ending.{Ending}
use Rattle.member_server.specs.declared.state.AtLink.{AtLink}
use Rattle.member_server.specs.declared.state.Bound.{Bound}
use Rattle.member_server.specs.declared.state.Logon.{Logon}
use Rattle.member_server.specs.declared.state.Phase.TheVariants as phase
use Rattle.member_server.specs.declared.state.Talk.{Talk}
use Rattle.member_server.specs.declared.state.Work.{Work}
use Rattle.member_server.specs.Laws.{IsPast, ReachesItsLink, ServesOneMessage}
use Rattle.member_server.specs.Outcomes.{end_found, reach_link, tell_outcome, reach_in_map, waiting_on, without_logon}
use Rattle.member_server.specs.Units.{bound_unit}
use Rattle.member_server.specs.Work.{Served}
use Rattle.member_server.proofs.LinkView.{BoundView, Closes, Asks, Overflows, bound_view}

-- ---- a unit where a CHALLENGE was sent

past_by : (bytes : List ℕ) (joiner : Option RpcUnit) (at : AtLink) (bound : Bound) (challenge : List ℕ) (flags : ℕ) (served : Served) →
    BoundView bytes joiner at (phase.Challenged bound challenge flags) served → IsPast served.1
past_by bytes joiner at bound challenge flags served (Closes cause may) = tt
past_by bytes joiner at bound challenge flags served (Asks message place fit is) = refl
past_by bytes joiner at bound challenge flags served (Overflows message fit is) = refl

pub serves_one_message : ServesOneMessage
serves_one_message = record {
  past = λ bound challenge flags bytes joiner at.
      past_by bytes joiner at bound challenge flags (bound_unit (phase.Challenged bound challenge flags) bytes joiner at)
      (bound_view bytes joiner at (phase.Challenged bound challenge flags));
}

-- ---- an outcome

none_reached : (link : Option (LinkState Talk)) (place : ℕ) (how : Ending) (logon : Logon) (work : Work) → waiting_on place link ≡ None →
    reach_link link place how logon work ≡ work
none_reached None place how logon work none = refl
none_reached (Some link) place how logon work none = ap (λ waits. reach_in_map waits link how logon work) none

pub reaches_its_link : ReachesItsLink
reaches_its_link = record {
  unknown = λ place how work none. ap (λ found. end_found found place how (without_logon place work)) none;
  stays = λ place how logon work found none.
      ap (λ found. end_found found place how (without_logon place work)) found
      ∙ none_reached (lookup same_number logon.link work.links) place how logon (tell_outcome how logon (without_logon place work)) none;
  turns = λ place how logon link waits work found there is.
      let told = tell_outcome how logon (without_logon place work) in
      ap (λ found. end_found found place how (without_logon place work)) found
      ∙ ap (λ link. reach_link link place how logon told) there
      ∙ ap (λ waits. reach_in_map waits link how logon told) is;
}
