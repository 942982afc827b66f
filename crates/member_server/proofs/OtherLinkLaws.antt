-- Bytes on an accepted link leave every other link as it is.
use Rattle.std.proofs.Common.{◌≡◌, ℕ, ◌==◌, Bool, true, false, List, ◌++◌, Option, Some, None, Result, Ok, Err, refl, sym, subst, ◌∙◌}
use Rattle.wire_base.specs.Maps.{lookup, take_out, same_number}
use Rattle.wire_base.proofs.MapLaws.{put_others, taken_others}
use Rattle.wire_base.proofs.NameLaws.{IsSameness-same_number}
use Rattle.outside.specs.declared.action.StepRefused.{StepRefused}
use Rattle.outside.specs.declared.event.Event.TheVariants as event
use Rattle.outside.specs.Machine.{Part, step_by}
use Rattle.rpc_units.specs.Stream.{cut_stream}
use Rattle.end_links.specs.Links.{LinkState}
use Rattle.end_links.specs.Serving.{ServedPart, served_by}
use Rattle.member_server.specs.declared.state.AtLink.{AtLink}
use Rattle.channel_turns.specs.declared.state.Dialling.{Dialling}
use Rattle.channel_turns.specs.declared.state.Dialling.TheVariants as dialling
use Rattle.member_server.specs.declared.state.Running.{Running}
use Rattle.member_server.specs.declared.state.Talk.{Talk}
use Rattle.channel_turns.specs.declared.state.TurnTalk.{TurnTalk}
use Rattle.member_server.specs.declared.state.Work.{Work}
use Rattle.member_server.specs.Laws.{LeavesOtherLinks, StaysUnlessStopped, is_on}
use Rattle.member_server.specs.Machine.{actions_in, after_units, bytes_by, bytes_on, bytes_on_link, event_part, halted_state, state_in, step_on, work_of}
use Rattle.member_server.specs.Outcomes.{after_link, at_link, keep_link, without_link}
use Rattle.member_server.specs.Turns.{DialWork}
use Rattle.member_server.specs.Units.{link_server}
use Rattle.member_server.proofs.StepFrame.{KeepsNext, PartHolds, next_follows}

abbrev pub Stays : ℕ → List (ℕ × LinkState Talk) → Work → Type 0
Stays other links w = lookup same_number other w.links ≡ lookup same_number other links

abbrev pub StaysPart : ℕ → List (ℕ × LinkState Talk) → Result (Part DialWork) StepRefused → Type 0
StaysPart other links part = PartHolds (λ how w left. Stays other links w) part

module _ (number other : ℕ) (differs : same_number number other ≡ false) where
  taken_stays : (w : Work) → Stays other w.links (without_link number w)
  taken_stays w = taken_others same_number number other w.links IsSameness-same_number differs

  kept_stays : (talk : Option Talk) (rest : List ℕ) (at : AtLink) (w : Work) → Stays other w.links (keep_link talk rest number (after_link at (without_link number w)))
  kept_stays None rest at w = taken_stays w
  kept_stays (Some talk) rest at w =
      put_others same_number number other (record { rest = rest; talk = talk }) (take_out same_number number w.links) IsSameness-same_number differs ∙ taken_stays w

  after_stays : (part : ServedPart AtLink Talk) (rest : List ℕ) (how : Dialling) (w : Work) → StaysPart other w.links (after_units part rest number how (without_link number w))
  after_stays (Err why) rest how w = tt
  after_stays (Ok part) rest how w = kept_stays part.value.1 rest part.value.0 w

  link_stays : (found : Option (LinkState Talk)) (piece : List ℕ) (how : Dialling) (w : Work) (left : List (List ℕ)) → StaysPart other w.links (bytes_on_link found number piece how w left)
  link_stays None piece how w left = refl
  link_stays (Some link) piece how w left =
      let cut = cut_stream (link.rest ++ piece) in
      after_stays (served_by link_server cut.units cut.refused (at_link number (without_link number w)) link.talk left) cut.rest how w

  by_stays : (b : Bool) (said : LinkState TurnTalk) (piece : List ℕ) (how : Dialling) (w : Work) (left : List (List ℕ)) → b ≡ false →
      StaysPart other w.links (bytes_by b said number piece how w left)
  by_stays true said piece how w left e = absurd (let z = e in cc)
  by_stays false said piece how w left e = link_stays (lookup same_number number w.links) piece how w left

  bytes_stay : (how : Dialling) (piece : List ℕ) (w : Work) (left : List (List ℕ)) → is_on number how ≡ false → StaysPart other w.links (bytes_on how number piece w left)
  bytes_stay dialling.Nothing piece w left e = link_stays (lookup same_number number w.links) piece dialling.Nothing w left
  bytes_stay (dialling.Waits turn frames) piece w left e = link_stays (lookup same_number number w.links) piece (dialling.Waits turn frames) w left
  bytes_stay (dialling.On taken said) piece w left e = by_stays (taken == number) said piece (dialling.On taken said) w left e

-- ---- a step

-- the next turn leaves the links
next_stays : (other : ℕ) (links : List (ℕ × LinkState Talk)) (now : ℕ) → KeepsNext now (λ how w left. Stays other links w) (λ how w left. Stays other links w)
next_stays other links now = record { still = λ how w left can stays. stays; starts = λ turn frames challenge how w before after can drawn is stays. stays }

step_stays : (other : ℕ) (links : List (ℕ × LinkState Talk)) (part : Result (Part DialWork) StepRefused) (left : List (List ℕ)) → StaysPart other links part →
    StaysUnlessStopped other links (step_by actions_in state_in halted_state left part).state.running
step_stays other links (Err why) left stays = tt
step_stays other links (Ok part) left stays = stays

pub leaves_other_links : LeavesOtherLinks
leaves_other_links = record {
  stays = λ s running number other piece now left runs on differs.
      subst (λ (r : Option Running). StaysUnlessStopped other running.links (step_on r s (event.Bytes number piece) now left).state.running) (sym runs)
      (step_stays other running.links (event_part running (event.Bytes number piece) now left) left
      (next_follows now (λ how w left. Stays other running.links w) (λ how w left. Stays other running.links w) (next_stays other running.links now)
      (bytes_on running.dialling number piece (work_of running) left) (bytes_stay number other differs running.dialling piece (work_of running) left on)));
}
