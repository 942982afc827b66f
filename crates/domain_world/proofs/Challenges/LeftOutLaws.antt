-- Nothing that a member sends or takes on an accepted link is left out of what is written down of its step.
-- It serves `members_leave_nothing_out`.
use Rattle.std.proofs.Common.{◌≡◌, ℕ, Bool, true, false, List, [], ◌∷◌, ◌++◌, Result, Ok, Err, inl, inr, refl, sym, ap, subst, ◌∙◌, arith, append_assoc}
use Rattle.std.proofs.lemmas.List.{map-append}
use Rattle.std.specs.Prelude.{flat_map}
use Rattle.std.specs.List.{AllByRecursion}
use Rattle.outside.specs.declared.action.Action.{Action}
use Rattle.outside.specs.declared.action.Action.TheVariants as action
use Rattle.outside.specs.declared.action.StepRefused.{StepRefused}
use Rattle.outside.specs.declared.event.Event.TheVariants as event
use Rattle.outside.specs.Machine.{Part}
use Rattle.outside.specs.Drawing.{draws_between}
use Rattle.outside.proofs.DrawLaws.{between_front}
use Rattle.rpc_units.specs.Stream.{Cut, cut_stream}
use Rattle.end_links.specs.Serving.{ServedPart, ServedUnit, served_cut, served_units}
use Rattle.end_links.proofs.KeepLaws.{unit_served}
use Rattle.channel_client.specs.Machine.{needs_challenge}
use Rattle.member_server.specs.declared.state.AtLink.{AtLink}
use Rattle.member_server.specs.declared.state.Talk.{Talk}
use Rattle.member_server.specs.Machine.{serve_alone, serve_dialled, step_of, work_of}
use Rattle.member_server.specs.Outcomes.{at_link, without_link}
use Rattle.member_server.specs.State.{State as MemberState}
use Rattle.member_server.specs.Units.{is_fresh, link_server}
use Rattle.member_server.proofs.StepFrame.{IsDrawnNext, TakesTurn, WorkFact, dialled_keeps, each_taken}
use Rattle.wire_base.specs.Lists.{OneOf}
use Rattle.wire_base.proofs.ListLaws.{one_behind}
use Rattle.step_notes.specs.MemberNotes.{LinkAt, challenge_note, link_units}
use Rattle.step_notes.specs.Records.{ChallengeSent}
use Rattle.step_notes.proofs.Members.LinkBytesLaws.{bytes_hear, part_each, units_then}
use Rattle.step_notes.proofs.ServedLaws.{served_noted, served_such}
use Rattle.domain_world.specs.Claims.LeftOut.{AreDrawnFor, DrawsFor, IsDial, LeavesNothingOut, MembersLeaveNothingOut, challenges_in}
use Rattle.domain_world.proofs.Challenges.LinkUnitLaws.{unit_draws, unit_sends, unit_takes}

-- ---- the challenges that are left

-- the challenges that were left are those that are written down, and those that are left then
abbrev Remain : {T : Type 0} → List (List ℕ) → List ChallengeSent → Result (Part T) StepRefused → Type 0
Remain all sent (Err why) = Unit {0}
Remain all sent (Ok part) = all ≡ challenges_in sent ++ part.left

more_remain : (all left : List (List ℕ)) (sent more : List ChallengeSent) (part : ServedPart AtLink Talk) → all ≡ challenges_in sent ++ left → DrawsFor left more part →
    Remain all (sent ++ more) part
more_remain all left sent more (Err why) before draws = tt
more_remain all left sent more (Ok part) before draws =
    before ∙ ap (λ rest. challenges_in sent ++ rest) draws ∙ sym (append_assoc (challenges_in sent) (challenges_in more) part.left)
    ∙ ap (λ front. front ++ part.left) (sym (map-append (λ (one : ChallengeSent). one.challenge) sent more))

module _ (w : LinkAt) where
  cut_remain : (cut : Cut) (at : AtLink) (talk : Talk) (left : List (List ℕ)) →
      Remain left (flat_map (challenge_note w) (served_units link_server cut.units at talk left)) (served_cut link_server cut at talk left)
  cut_remain cut at talk left =
      served_noted link_server (challenge_note w) (Remain left) (record {
        unit = λ sent bytes at talk rest before.
            more_remain left rest sent (challenge_note w (unit_served link_server bytes at talk rest)) (link_server.unit bytes at talk rest) before
            (unit_draws w (is_fresh talk.phase) talk.phase bytes talk.joiner at rest);
        refusal = λ sent why at talk rest before. before;
      }) cut at talk left refl

-- ---- the next turn draws at most one, and dials

-- the challenges of what is written down, and those of the next turn
turn_draws : (all : List (List ℕ)) (sent : List ChallengeSent) (actions : List Action) (needs : Bool) (challenge : List ℕ) (before after : List (List ℕ)) →
    IsDrawnNext needs challenge before after → all ≡ challenges_in sent ++ before → OneOf IsDial actions → AreDrawnFor sent actions (draws_between all after)
turn_draws all sent actions false challenge before after drawn remain dials = record {
  own = [];
  is = sym (between_front (challenges_in sent ++ []) after all (remain ∙ ap (λ (rest : List (List ℕ)). challenges_in sent ++ rest) (sym drawn.1) ∙ sym (append_assoc (challenges_in sent) [] after)));
  few = omega arith;
  dials = inl refl;
}
turn_draws all sent actions true challenge before after drawn remain dials = record {
  own = challenge ∷ [];
  is = sym (between_front (challenges_in sent ++ challenge ∷ []) after all (remain ∙ ap (λ (rest : List (List ℕ)). challenges_in sent ++ rest) drawn ∙ sym (append_assoc (challenges_in sent) (challenge ∷ []) after)));
  few = omega arith;
  dials = inr dials;
}

-- ---- a step

-- what is left of the challenges as the units are served
abbrev Remaining : LinkAt → List (List ℕ) → List (ServedUnit AtLink Talk) → WorkFact
Remaining w left units how work rest = left ≡ challenges_in (flat_map (challenge_note w) units) ++ rest

-- a turn's link draws none
dialled_remain : TakesTurn (λ units at. Unit {0}) (λ work. Unit {0})
dialled_remain = each_taken (λ units at. Unit {0}) (λ work. Unit {0}) (record {
  skips = λ right unit units at is any. tt;
  sends = λ right frames unit units at is any. tt;
  ends = λ how unit units at is any. tt;
  breaks = λ cause at any. tt;
})

step_few : (w : LinkAt) (piece : List ℕ) (now : ℕ) (left : List (List ℕ)) (m : MemberState) (actions : List Action) → (step_of m (event.Bytes w.link piece) now left).answer ≡ Ok actions →
    AreDrawnFor (flat_map (challenge_note w) (link_units m w.link piece now left)) actions (step_of m (event.Bytes w.link piece) now left).drawn
step_few w piece now left m =
    bytes_hear w.link piece now left m (Remaining w left)
    (λ units stepped. (actions : List Action) → stepped.answer ≡ Ok actions → AreDrawnFor (flat_map (challenge_note w) units) actions stepped.drawn) (record {
      stopped = λ actions answers. absurd cc;
      spent = λ actions answers. absurd cc;
      nowhere = λ running runs. refl;
      on_link = λ running link how runs is there.
          let cut : Cut = cut_stream (link.rest ++ piece) in
          let at : AtLink = at_link w.link (work_of running) in
          let units : List (ServedUnit AtLink Talk) = served_units link_server cut.units at link.talk left in
          units_then (Remaining w left units) (served_cut link_server cut at link.talk left) cut.rest w.link how (without_link w.link (work_of running)) (λ after said rest comes.
          subst (λ (part : ServedPart AtLink Talk). Remain left (flat_map (challenge_note w) units) part) comes (cut_remain w cut at link.talk left));
      on_turn = λ running said runs is.
          dialled_keeps (λ units at. Unit {0}) (λ work. Unit {0}) (Remaining w left []) dialled_remain (cut_stream (said.rest ++ piece)) w.link said.talk (work_of running) left
          (λ rest later at any. refl) (λ work any. refl) tt;
      next = λ units. record {
        still = λ how work rest can remain actions answers. record {
          own = [];
          is = sym (between_front (challenges_in (flat_map (challenge_note w) units) ++ []) rest left (remain ∙ sym (append_assoc (challenges_in (flat_map (challenge_note w) units)) [] rest)));
          few = omega arith;
          dials = inl refl;
        };
        starts = λ turn frames challenge how work before after can drawn is remain actions answers.
            let dials : Action = action.Dial work.logons.plan.controller in
            let same : work.actions ++ dials ∷ [] ≡ actions = cc in
            turn_draws left (flat_map (challenge_note w) units) actions (needs_challenge work.logons.channel.standing) challenge before after drawn remain
            (subst (λ (all : List Action). OneOf IsDial all) same (one_behind IsDial work.actions (dials ∷ []) (inl tt)));
      };
    })

-- ---- each unit

units_left_out : (w : LinkAt) (units : List (List ℕ)) (at : AtLink) (talk : Talk) (left : List (List ℕ)) → AllByRecursion (LeavesNothingOut w) (served_units link_server units at talk left)
units_left_out w units at talk left =
    served_such link_server (λ part. Unit {0}) (LeavesNothingOut w) (λ bytes work talk left any. (
      record {
        sends = unit_sends w talk.phase bytes talk.joiner work left;
        takes = unit_takes w bytes talk.phase talk.joiner work left;
        draws = unit_draws w (is_fresh talk.phase) talk.phase bytes talk.joiner work left;
      },
      tt,
    )) units at talk left tt

bytes_left_out : (w : LinkAt) (m : MemberState) (piece : List ℕ) (now : ℕ) (left : List (List ℕ)) → AllByRecursion (LeavesNothingOut w) (link_units m w.link piece now left)
bytes_left_out w m piece now left =
    bytes_hear w.link piece now left m (λ units how work rest. AllByRecursion (LeavesNothingOut w) units) (λ units stepped. AllByRecursion (LeavesNothingOut w) units) (record {
      stopped = tt;
      spent = tt;
      nowhere = λ running runs. tt;
      on_link = λ running link how runs is there.
          let cut : Cut = cut_stream (link.rest ++ piece) in
          let at : AtLink = at_link w.link (work_of running) in
          part_each (λ other work rest. AllByRecursion (LeavesNothingOut w) (served_units link_server cut.units at link.talk left))
          (serve_alone cut w.link link.talk how (without_link w.link (work_of running)) left) (λ other work rest. units_left_out w cut.units at link.talk left);
      on_turn = λ running said runs is.
          part_each (λ how work rest. Unit {0}) (serve_dialled (cut_stream (said.rest ++ piece)) w.link said.talk (work_of running) left) (λ how work rest. tt);
      next = λ units. record { still = λ how work rest can all. all; starts = λ turn frames challenge how work before after can drawn is all. all };
    })

pub members_leave : MembersLeaveNothingOut
members_leave = record {
  units = λ m w piece now left. bytes_left_out w m piece now left;
  draws = λ m w piece now left actions answers. step_few w piece now left m actions answers;
}
