-- What the outcome of a logon comes to, said once: whether its logon is kept, and whether a link waits for it. It
-- serves the laws of a member that speak of outcomes, here and in the crates above.
use Rattle.std.proofs.Common.{◌≡◌, ℕ, ◌==◌, Bool, true, false, List, Option, Some, None, refl, ap, ◌∙◌}
use Rattle.std.proofs.lemmas.Bool.{eqb-true}
use Rattle.wire_base.specs.Maps.{lookup, same_number}
use Rattle.end_links.specs.Links.{LinkState}
use Rattle.member_server.specs.declared.outcomes.Ending.{Ending}
use Rattle.member_server.specs.declared.state.Bound.{Bound}
use Rattle.member_server.specs.declared.state.Logon.{Logon}
use Rattle.member_server.specs.declared.state.Phase.{Phase}
use Rattle.member_server.specs.declared.state.Phase.TheVariants as phase
use Rattle.member_server.specs.declared.state.Talk.{Talk}
use Rattle.member_server.specs.declared.state.Work.{Work}
use Rattle.member_server.specs.Outcomes.{end_found, end_logon, reach_in_map, reach_link, reach_waiting, tell_outcome, waiting_at, waiting_if, without_link, without_logon}

pub data EndView (place : ℕ) (how : Ending) (work : Work) : Work → Type 0 where
  -- no logon of the place is kept, and nothing is told
  Unknown : lookup same_number place work.logons.asked ≡ None → EndView place how work (without_logon place work)
  -- the outcome is told, and no link waits for it
  Tells : (logon : Logon) → lookup same_number place work.logons.asked ≡ Some logon → EndView place how work (tell_outcome how logon (without_logon place work))
  -- the outcome is told, and reaches the link that waits for it
  Reaches : (logon : Logon) (link : LinkState Talk) (bound : Bound) (held : List (List ℕ)) → lookup same_number place work.logons.asked ≡ Some logon →
      lookup same_number logon.link work.links ≡ Some link → link.talk.phase ≡ phase.Asked bound place held →
      EndView place how work (reach_waiting (bound, held) link how logon (without_link logon.link (tell_outcome how logon (without_logon place work))))

module _ (place : ℕ) (how : Ending) (work : Work) (logon : Logon) (kept : lookup same_number place work.logons.asked ≡ Some logon) where
  abbrev told_work : Work
  told_work = tell_outcome how logon (without_logon place work)

  module _ (link : LinkState Talk) (there : lookup same_number logon.link work.links ≡ Some link) where
    waits_view : (hit : Bool) (other : ℕ) (bound : Bound) (held : List (List ℕ)) → (other == place) ≡ hit → link.talk.phase ≡ phase.Asked bound other held →
        EndView place how work (reach_in_map (waiting_if hit bound held) link how logon told_work)
    waits_view false other bound held same is = Tells logon kept
    waits_view true other bound held same is =
        Reaches logon link bound held kept there (is ∙ ap (λ (n : ℕ). phase.Asked bound n held) (eqb-true other place same))

    phase_view : (p : Phase) → link.talk.phase ≡ p → EndView place how work (reach_in_map (waiting_at place p) link how logon told_work)
    phase_view phase.Fresh is = Tells logon kept
    phase_view (phase.Challenged bound challenge flags) is = Tells logon kept
    phase_view (phase.Asked bound other held) is = waits_view (other == place) other bound held refl is
    phase_view (phase.In on) is = Tells logon kept
    phase_view (phase.Out bound status) is = Tells logon kept

  link_view : (found : Option (LinkState Talk)) → lookup same_number logon.link work.links ≡ found → EndView place how work (reach_link found place how logon told_work)
  link_view None there = Tells logon kept
  link_view (Some link) there = phase_view link there link.talk.phase refl

found_view : (place : ℕ) (how : Ending) (work : Work) (found : Option Logon) → lookup same_number place work.logons.asked ≡ found →
    EndView place how work (end_found found place how (without_logon place work))
found_view place how work None is = Unknown is
found_view place how work (Some logon) is = link_view place how work logon is (lookup same_number logon.link work.links) refl

pub end_view : (place : ℕ) (how : Ending) (work : Work) → EndView place how work (end_logon place how work)
end_view place how work = found_view place how work (lookup same_number place work.logons.asked) refl
