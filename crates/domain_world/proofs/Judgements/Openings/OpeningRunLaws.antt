-- In every run openings are accepted in order, through each step of a controller. It serves `Proved.openings`.
use Rattle.std.proofs.Common.{false, ◌≡◌, Bool, ◌≢◌, ◌⊎◌, ℕ, ◌-◌, zero, suc, true, List, [], ◌∷◌, ◌++◌, Option, Some, None, refl, sym, ap, subst, ◌∙◌, inl, inr, arith, slice_get, slice_set}
use Rattle.wire_base.specs.Maps.{IsMap, lookup}
use Rattle.wire_base.specs.Names.{SameName, same_name}
use Rattle.outside.specs.Counter.{most_draws}
use Rattle.outside.specs.Drawing.{IsRest}
use Rattle.outside.specs.declared.event.Event.{Event}
use Rattle.outside.specs.declared.event.Event.TheVariants as event
use Rattle.outside.proofs.CounterLaws.{challenges_from-distinct}
use Rattle.outside.proofs.DrawLaws.{IsRest-nothing, IsRest-refl, IsRest-trans}
use Rattle.account_table.specs.AccountTable.{AccountTable}
use Rattle.account_table.specs.LookUps.{knows_in}
use Rattle.authenticators.specs.Channels.{ChannelIdentity}
use Rattle.domain_controller.specs.Forwarding.{TrustDesk, base_desk}
use Rattle.domain_controller.specs.Machine.{Desk, answer_authenticate, answer_challenge, answer_judged}
use Rattle.domain_controller.specs.State.{State as ControllerState}
use Rattle.domain_controller.specs.TrustStep.{first_trust_state, trust_step_of}
use Rattle.domain_controller.specs.Step.{first_state, state_after, step_of}
use Rattle.domain_controller.specs.declared.state.Running.{Running}
use Rattle.controller_calls.proofs.DoneLaws.{does_what_passes}
use Rattle.controller_calls.proofs.OutcomeLaws.{judged_comes}
use Rattle.controller_calls.specs.declared.calls.JudgedCall.{JudgedCall}
use Rattle.controller_calls.specs.declared.line.Line.{Line}
use Rattle.controller_calls.specs.declared.state.Computers.{Computers}
use Rattle.step_notes.specs.ControllerNotes.{Answered, Where, has_passed, identity_by, judged_answer, judging_of, opened_by, opening, plain, silent}
use Rattle.step_notes.specs.KeptNotes.{KeepsNoMore, server_in, waits_in}
use Rattle.step_notes.specs.Records.{ChannelAccepted, Judging}
use Rattle.world_moves.specs.declared.moves.Move.{Move}
use Rattle.world_moves.specs.declared.plan.Plan.{Plan}
use Rattle.world_moves.specs.declared.state.State.{State}
use Rattle.world_moves.specs.World.{first_controllers}
use Rattle.world_moves.specs.Ends.{fresh_controller}
use Rattle.world_moves.specs.Plain.{IsPlainPlan, plain_world}
use Rattle.domain_world.specs.Claims.Openings.{IsLastAccepted, IsUnused, OpeningsAreInOrder, last_accepted}
use Rattle.step_notes.specs.TrustNotes.{trust_judged_answer}
use Rattle.domain_world.specs.Past.{Delivery, accepted_of, answers_of as trusting_answers, at_controller, first_of, later_of, numbers_on, onto, past, replied_with}
use Rattle.wire_base.proofs.ListLaws.{no_some}
use Rattle.step_notes.proofs.Controllers.ComputerLaws.{judged_pending}
use Rattle.step_notes.proofs.Controllers.KeptNoteLaws.{calls_are_kept}
use Rattle.step_notes.proofs.Controllers.NotedLaws.{NotedFact, StaysThrough, step_says}
use Rattle.step_notes.proofs.Controllers.TrustNotedLaws.{trust_step_says}
use Rattle.step_notes.proofs.Controllers.TrustedStepLaws.{IsTrusted, OfBase, StaysWithTrusts, trusting_stays}
use Rattle.domain_world.proofs.Frames.AloneNoteLaws.{alone_answers as answers_of}
use Rattle.domain_world.proofs.Frames.AloneStepLaws.{fresh_by}
use Rattle.domain_world.proofs.Messages.MessageOnceLaws.{set_cases}
use Rattle.domain_world.proofs.Frames.ControllerFrameLaws.{ControllersFact, KeepsControllers}
use Rattle.domain_world.proofs.Frames.EndNoteLaws.{accepted_so, acceptings_of}
use Rattle.domain_world.proofs.Frames.TrustingFrameLaws.{KeepsTrusting, controllers_after}
use Rattle.domain_world.proofs.Moves.NoBytesLaws.{DoesNothingElse, IsNoBytes, KeepsComputers, does_nothing_else}
use Rattle.domain_world.proofs.Moves.TrustNoBytesLaws.{HearsNoCall, KeepsUnlessEnded, hears_no_call}
use Rattle.domain_world.proofs.Judgements.JudgedLaws.{trusted_judging}
use Rattle.domain_world.proofs.Judgements.Openings.OpeningLaws.{AreOpened, AreOrdered, Goes, authenticate_map, challenge_goes, challenge_map, goes_on, judging_none, no_more_goes, opening_goes, ordered_rest, stays, with_accepted, trust_none}
use Rattle.domain_world.proofs.Judgements.ReplayLaws.{apart_from}
use Rattle.domain_world.proofs.Judgements.SeedLaws.{IsSpent}
use Rattle.domain_world.proofs.Judgements.SeedStepLaws.{numbers_left, spent_rest}

-- ---- a logon for a trust

-- what would come of it here keeps no more, and so does what comes of it
trusted_no_more : (w : Where) (line : Line) (c : JudgedCall) (d after : TrustDesk) → IsTrusted c d after → KeepsNoMore w.controller d.work.work.computers after.work.work.computers
trusted_no_more w line c d after is =
    let done = does_what_passes.passed c w.name w.moment line (base_desk d) is.goes.next in
    let here : KeepsNoMore w.controller d.work.work.computers (answer_judged c w.name w.moment line (base_desk d)).work.computers =
    calls_are_kept.judged w.controller c w.name w.moment line (base_desk d) in
    record {
      waits = λ name challenge at.
          here.waits name challenge (ap (λ pending. server_in (lookup same_name name pending)) (done.pending ∙ sym (ap (λ (now : Computers). now.pending) is.computers)) ∙ at);
      keeps = λ name channel at.
          here.keeps name channel
          (ap (λ channels. identity_by w.controller name (lookup same_name name channels)) (done.channels ∙ sym (ap (λ (now : Computers). now.channels) is.computers)) ∙ at);
    }

-- ---- the units of a stream

onto_one : (one : Option ChannelAccepted) (number : Option ℕ) (later accepted : List ChannelAccepted) →
    onto (replied_with one number ++ later) accepted ≡ onto later (with_accepted one number accepted)
onto_one None number later accepted = refl
onto_one (Some one) number later accepted = refl

pub accepted_more : (answers : List Answered) (one : Answered) (numbers : List ℕ) (accepted : List ChannelAccepted) →
    onto (accepted_of (answers ++ one ∷ []) numbers) accepted
    ≡ with_accepted one.accepted (first_of (numbers_left answers numbers)) (onto (accepted_of answers numbers) accepted)
accepted_more [] one numbers accepted = onto_one one.accepted (first_of numbers) [] accepted
accepted_more (first ∷ answers) one numbers accepted =
    let later : List ℕ = later_of first.sends numbers in
    onto_one first.accepted (first_of numbers) (accepted_of (answers ++ one ∷ []) later) accepted
    ∙ accepted_more answers one later (with_accepted first.accepted (first_of numbers) accepted)
    ∙ ap (λ (all : List ChannelAccepted). with_accepted one.accepted (first_of (numbers_left answers later)) all)
    (sym (onto_one first.accepted (first_of numbers) (accepted_of answers later) accepted))

module _ (w : Where) (accepted : List ChannelAccepted) (left : List (List ℕ)) (waited : List ℕ → Option (List ℕ)) (numbers : List ℕ) where
  abbrev written : List Answered → List ChannelAccepted
  written answers = onto (accepted_of answers numbers) accepted

  abbrev GoesOn : NotedFact
  GoesOn answers d some = Goes accepted (written answers) left some w.controller waited d.work.computers

  further : (answers : List Answered) (one : Answered) (d : Desk) (later : Computers) (some less : List (List ℕ)) → GoesOn answers d some →
      Goes (written answers) (with_accepted one.accepted (first_of (numbers_left answers numbers)) (written answers)) some less w.controller (λ name. waits_in d.work.computers name) later →
      Goes accepted (written (answers ++ one ∷ [])) left less w.controller waited later
  further answers one d later some less goes more =
      subst (λ (now : List ChannelAccepted). Goes accepted now left less w.controller waited later) (sym (accepted_more answers one numbers accepted))
      (goes_on accepted (written answers) _ left some less w.controller waited d.work.computers later goes more)

  goes_stay : (link : ℕ) → StaysThrough w link w.name w.moment GoesOn
  goes_stay link = record {
    closes = λ answers d some cause goes. goes;
    waits = λ answers d some goes.
        further answers silent d d.work.computers some some goes (stays (written answers) some w.controller d.work.computers goes.order goes.kept);
    sends = λ answers d some bytes goes.
        further answers plain d d.work.computers some some goes (stays (written answers) some w.controller d.work.computers goes.order goes.kept);
    challenge = λ answers d some line c server on goes.
        let later : Computers = (answer_challenge d.table line c server d.work).computers in
        further answers plain d later (server ∷ some) some goes
        (challenge_goes (written answers) some w.controller c.computer server d.work.computers later goes.order goes.kept (knows_in d.table.accounts c.computer)
        (calls_are_kept.challenge w.controller d.table line c server d.work) (challenge_map d.table line c server d.work goes.kept.map));
    authenticate = λ answers d some line c on goes.
        let later : Computers = (answer_authenticate d.table line c d.work).computers in
        let opened : Option ChannelIdentity = opened_by w.controller c d in
        further answers (opening opened w line.call c.channel) d later some some goes
        (opening_goes (written answers) w d opened line.call c.channel c.computer (first_of (numbers_left answers numbers)) some later
        (calls_are_kept.authenticate w.controller d.table line c d.work goes.kept.map) (authenticate_map d.table line c d.work goes.kept.map) goes.order goes.kept);
    judged = λ answers d some line c on goes.
        let after : Desk = answer_judged c w.name w.moment line d in
        let j : Judging = judging_of w line c d (Some after) in
        let pending : after.work.computers.pending ≡ d.work.computers.pending = judged_pending c w.name w.moment line d after (judged_comes c w.name w.moment line d) in
        further answers (judged_answer j) d after.work.computers some some goes
        (subst (λ (o : Option ChannelAccepted). Goes (written answers) (with_accepted o (first_of (numbers_left answers numbers)) (written answers)) some some w.controller
        (λ name. waits_in d.work.computers name) after.work.computers) (sym (judging_none (has_passed j.how) j))
        (no_more_goes (written answers) some w.controller d.work.computers after.work.computers (calls_are_kept.judged w.controller c w.name w.moment line d)
        (subst (λ entries. IsMap same_name entries) (sym pending) goes.kept.map) goes.order goes.kept));
  }

  -- a controller that may hand logons on goes on so
  goes_trusting : (link : ℕ) → StaysWithTrusts w link GoesOn
  goes_trusting link = record {
    base = goes_stay link;
    trusted = λ answers d after some line c on is goes.
        let j : Judging = trusted_judging w line c d after in
        let before : Computers = d.work.work.computers in
        let now : Computers = after.work.work.computers in
        further answers (trust_judged_answer j) (base_desk d) now some some goes
        (subst (λ (o : Option ChannelAccepted). Goes (written answers) (with_accepted o (first_of (numbers_left answers numbers)) (written answers)) some some w.controller
        (λ name. waits_in before name) now) (sym (trust_none j.how j))
        (no_more_goes (written answers) some w.controller before now (trusted_no_more w line c d after is)
        (subst (λ (computers : Computers). IsMap same_name computers.pending) (sym is.computers) goes.kept.map) goes.order goes.kept));
  }

-- ---- a step of a controller

-- of a controller that hasn't stopped
abbrev pub AreOpenedIf : List ChannelAccepted → List (List ℕ) → ℕ → Option Running → Type 0
AreOpenedIf accepted left controller None = Unit {0}
AreOpenedIf accepted left controller (Some running) = AreOpened accepted left controller running.computers

abbrev pub waits_if : Option Running → List ℕ → Option (List ℕ)
waits_if None name = None
waits_if (Some running) name = waits_in running.computers name

pub record StepGoes (accepted now : List ChannelAccepted) (left rest : List (List ℕ)) (controller : ℕ) (waited : List ℕ → Option (List ℕ)) (running : Option Running) : Type 0 where
  pub order : AreOrdered now rest
  pub kept : AreOpenedIf now rest controller running
  pub fewer : IsRest rest left
  pub came : (name server : List ℕ) → waits_if running name ≡ Some server → (waited name ≡ Some server) ⊎ (IsSpent server left → ⊥)
  pub fresh : (server : List ℕ) → IsSpent server left → ((name : List ℕ) → waited name ≡ Some server → ⊥) → IsUnused server accepted → IsUnused server now
  pub others : (at : ℕ) (name : List ℕ) → at ≢ controller → last_accepted at name now ≡ last_accepted at name accepted

-- nothing more waits
step_stays : (accepted : List ChannelAccepted) (left : List (List ℕ)) (controller : ℕ) (waited : List ℕ → Option (List ℕ)) (running : Option Running) → AreOrdered accepted left →
    AreOpenedIf accepted left controller running → ((name server : List ℕ) → waits_if running name ≡ Some server → waited name ≡ Some server) →
    StepGoes accepted accepted left left controller waited running
step_stays accepted left controller waited running order kept was = record {
  order = order;
  kept = kept;
  fewer = IsRest-refl left;
  came = λ name server at. inl (was name server at);
  fresh = λ server spent none unused. unused;
  others = λ at name differs. refl;
}

-- the challenges weren't enough: the controller stops, and nothing is written down
step_ends : (accepted : List ChannelAccepted) (left : List (List ℕ)) (controller : ℕ) (waited : List ℕ → Option (List ℕ)) → AreOrdered accepted left →
    StepGoes accepted accepted left [] controller waited None
step_ends accepted left controller waited order = record {
  order = ordered_rest accepted [] left (IsRest-nothing left) order;
  kept = tt;
  fewer = IsRest-nothing left;
  came = λ name server at. absurd (no_some server at);
  fresh = λ server spent none unused. unused;
  others = λ at name differs. refl;
}

bytes_step : (controller : ℕ) (c : ControllerState) (accepted : List ChannelAccepted) (w : Delivery) (piece : List ℕ) (s : State) (numbers : List ℕ) → AreOrdered accepted s.chances.left →
    AreOpenedIf accepted s.chances.left controller c.running →
    StepGoes accepted (onto (accepted_of (answers_of controller c w piece s) numbers) accepted) s.chances.left (step_of c (event.Bytes w.link piece) s.moment s.chances.left).left controller
    (λ name. waits_if c.running name) (step_of c (event.Bytes w.link piece) s.moment s.chances.left).state.running
bytes_step controller c accepted w piece s numbers order kept =
    let at : Where = at_controller controller c w s in
    let left : List (List ℕ) = s.chances.left in
    step_says at w.link c piece s.moment left (λ running. GoesOn at accepted left (λ name. waits_in running.computers name) numbers)
    (λ answers stepped. StepGoes accepted (onto (accepted_of answers numbers) accepted) left stepped.left controller (λ name. waits_if c.running name) stepped.state.running) (record {
      stays = λ running. goes_stay at accepted left (λ name. waits_in running.computers name) numbers w.link;
      first = λ running runs.
          stays accepted left controller running.computers order (subst (λ (r : Option Running). AreOpenedIf accepted left controller r) runs kept);
      stopped = λ ends. step_stays accepted left controller (λ name. waits_if c.running name) c.running order kept (λ name server is. is);
      spent = step_ends accepted left controller (λ name. waits_if c.running name) order;
      taken = λ running answers d links rest runs goes.
          subst (λ (r : Option Running). StepGoes accepted (onto (accepted_of answers numbers) accepted) left rest controller (λ name. waits_if r name) (state_after c (d, links)).running) (sym runs)
          (record { order = goes.order; kept = goes.kept; fewer = goes.fewer; came = goes.came; fresh = goes.fresh; others = goes.others });
    })

-- ---- a step at which no bytes come

-- openings are kept where what is kept of computers is the same
same_kept : (old new : Option Running) (accepted : List ChannelAccepted) (left : List (List ℕ)) (controller : ℕ) → KeepsComputers old new → AreOpenedIf accepted left controller old →
    AreOpenedIf accepted left controller new
same_kept None None accepted left controller same kept = tt
same_kept None (Some after) accepted left controller same kept = absurd same
same_kept (Some before) None accepted left controller same kept = absurd same
same_kept (Some before) (Some after) accepted left controller same kept = subst (λ computers. AreOpened accepted left controller computers) (sym same) kept

same_waits : (old new : Option Running) (name : List ℕ) → KeepsComputers old new → waits_if new name ≡ waits_if old name
same_waits None None name same = refl
same_waits None (Some after) name same = absurd same
same_waits (Some before) None name same = absurd same
same_waits (Some before) (Some after) name same = ap (λ computers. waits_in computers name) same

quiet_step : (what : Event) (accepted : List ChannelAccepted) (controller : ℕ) (c : ControllerState) (now : ℕ) (left : List (List ℕ)) → IsNoBytes what → AreOrdered accepted left →
    AreOpenedIf accepted left controller c.running →
    StepGoes accepted accepted left (step_of c what now left).left controller (λ name. waits_if c.running name) (step_of c what now left).state.running
quiet_step what accepted controller c now left none order kept =
    let stays : DoesNothingElse c what now left = does_nothing_else c what now left none in
    let after : Option Running = (step_of c what now left).state.running in
    subst (λ (rest : List (List ℕ)). StepGoes accepted accepted left rest controller (λ name. waits_if c.running name) after) (sym stays.rest)
    (step_stays accepted left controller (λ name. waits_if c.running name) after order (same_kept c.running after accepted left controller stays.keeps kept)
    (λ name server waits. sym (same_waits c.running after name stays.keeps) ∙ waits))

-- ---- all controllers

-- Of the openings that were accepted, of the challenges that are left, and of what each controller keeps: a challenge
-- waits at one controller, for one computer.
pub record OpeningsFollow (accepted : List ChannelAccepted) (left : List (List ℕ)) (controllers : List ControllerState) : Type 0 where
  pub order : AreOrdered accepted left
  pub each : (at : ℕ) (c : ControllerState) → slice_get controllers at ≡ Some c → AreOpenedIf accepted left at c.running
  pub one : (at other : ℕ) (c d : ControllerState) (name more server : List ℕ) → slice_get controllers at ≡ Some c → slice_get controllers other ≡ Some d → waits_if c.running name ≡ Some server →
      waits_if d.running more ≡ Some server → (at ≡ other) × SameName name more

waiting_of : (accepted : List ChannelAccepted) (left : List (List ℕ)) (controller : ℕ) (running : Option Running) (name server : List ℕ) → AreOpenedIf accepted left controller running →
    waits_if running name ≡ Some server → IsSpent server left × IsUnused server accepted
waiting_of accepted left controller None name server kept waits = absurd (no_some server waits)
waiting_of accepted left controller (Some running) name server kept waits = kept.waiting name server waits

one_of : (accepted : List ChannelAccepted) (left : List (List ℕ)) (controller : ℕ) (running : Option Running) (name other server : List ℕ) → AreOpenedIf accepted left controller running →
    waits_if running name ≡ Some server → waits_if running other ≡ Some server → SameName name other
one_of accepted left controller None name other server kept waits also = absurd (no_some server waits)
one_of accepted left controller (Some running) name other server kept waits also = kept.one name other server waits also

-- another controller keeps what it kept
kept_apart : (accepted now : List ChannelAccepted) (rest left : List (List ℕ)) (controller : ℕ) (running : Option Running) → IsRest rest left →
    ((name server : List ℕ) → waits_if running name ≡ Some server → IsUnused server now) → ((name : List ℕ) → last_accepted controller name now ≡ last_accepted controller name accepted) →
    AreOpenedIf accepted left controller running → AreOpenedIf now rest controller running
kept_apart accepted now rest left controller None is unused same kept = tt
kept_apart accepted now rest left controller (Some running) is unused same kept = record {
  map = kept.map;
  waiting = λ name server waits. (spent_rest rest left is server (kept.waiting name server waits).0, unused name server waits);
  keeps = λ name c at.
      let its : IsLastAccepted controller name c accepted = kept.keeps name c at in
      record { one = its.one; last = same name ∙ its.last; same = its.same };
  one = kept.one;
}

-- a controller took a step
controller_put : (accepted now : List ChannelAccepted) (left rest : List (List ℕ)) (controllers : List ControllerState) (at : ℕ) (old new : ControllerState) → slice_get controllers at ≡ Some old →
    OpeningsFollow accepted left controllers → StepGoes accepted now left rest at (λ name. waits_if old.running name) new.running → OpeningsFollow now rest (slice_set controllers at new)
controller_put accepted now left rest controllers at old new is follow goes =
    let kept_of : (k : ℕ) (c : ControllerState) (name server : List ℕ) → slice_get controllers k ≡ Some c → waits_if c.running name ≡ Some server → IsSpent server left × IsUnused server accepted =
    λ k c name server there waits. waiting_of accepted left k c.running name server (follow.each k c there) waits in
    let never : (k : ℕ) (c : ControllerState) (name more server : List ℕ) → k ≢ at → slice_get controllers k ≡ Some c → waits_if c.running name ≡ Some server →
    waits_if new.running more ≡ Some server → ⊥ =
    λ k c name more server differs there waits too. elim (goes.came more server too) [
      | inl was ↦ differs (follow.one k at c old name more server there is waits was).0
      | inr drawn ↦ drawn (kept_of k c name server there waits).0
    ] in
    let here : (c : ControllerState) (name server : List ℕ) → new ≡ c → waits_if c.running name ≡ Some server → waits_if new.running name ≡ Some server =
    λ c name server same waits. ap (λ (x : ControllerState). waits_if x.running name) same ∙ waits in
    record {
      order = goes.order;
      each = λ k c there. elim (set_cases controllers at k new c there) [
        | inl own ↦ subst (λ (x : ControllerState). AreOpenedIf now rest k x.running) own.1 (subst (λ n. AreOpenedIf now rest n new.running) (sym own.0) goes.kept)
        | inr other ↦
            kept_apart accepted now rest left k c.running goes.fewer
            (λ name server waits.
            let its = kept_of k c name server other.1 waits in
            goes.fresh server its.0 (λ more was. other.0 (follow.one k at c old name more server other.1 is waits was).0) its.1) (λ name. goes.others k name other.0) (follow.each k c other.1)
      ];
      one = λ k j c d name more server there also waits too. elim (set_cases controllers at k new c there) [
        | inl own ↦ elim (set_cases controllers at j new d also) [
          | inl both ↦ (own.0 ∙ sym both.0, one_of now rest at new.running name more server goes.kept (here c name server own.1 waits) (here d more server both.1 too))
          | inr other ↦ absurd (never j d more name server other.0 other.1 too (here c name server own.1 waits))
        ]
        | inr other ↦ elim (set_cases controllers at j new d also) [
          | inl own ↦ absurd (never k c name more server other.0 other.1 waits (here d more server own.1 too))
          | inr both ↦ follow.one k j c d name more server other.1 both.1 waits too
        ]
      ];
    }

-- openings follow where another end drew challenges
drawn_follow : (accepted : List ChannelAccepted) (left rest : List (List ℕ)) (controllers : List ControllerState) → IsRest rest left → OpeningsFollow accepted left controllers →
    OpeningsFollow accepted rest controllers
drawn_follow accepted left rest controllers is follow = record {
  order = ordered_rest accepted rest left is follow.order;
  each = λ k c there.
      kept_apart accepted accepted rest left k c.running is (λ name server waits. (waiting_of accepted left k c.running name server (follow.each k c there) waits).1) (λ name. refl)
      (follow.each k c there);
  one = follow.one;
}

-- a controller hears bytes
bytes_follow : (c : ControllerState) (accepted : List ChannelAccepted) (controller : ℕ) (w : Delivery) (piece : List ℕ) (s : State) (numbers : List ℕ) →
    slice_get s.ends.controllers controller ≡ Some c → OpeningsFollow accepted s.chances.left s.ends.controllers →
    OpeningsFollow (onto (accepted_of (answers_of controller c w piece s) numbers) accepted) (step_of c (event.Bytes w.link piece) s.moment s.chances.left).left
    (slice_set s.ends.controllers controller (step_of c (event.Bytes w.link piece) s.moment s.chances.left).state)
bytes_follow c accepted controller w piece s numbers is follow =
    controller_put accepted _ s.chances.left _ s.ends.controllers controller c (step_of c (event.Bytes w.link piece) s.moment s.chances.left).state is follow
    (bytes_step controller c accepted w piece s numbers follow.order (follow.each controller c is))

-- openings follow where a controller hears something else than bytes
quiet_follow : (c : ControllerState) (accepted : List ChannelAccepted) (controller : ℕ) (what : Event) (now : ℕ) (controllers : List ControllerState) (left : List (List ℕ)) →
    slice_get controllers controller ≡ Some c → IsNoBytes what → OpeningsFollow accepted left controllers →
    OpeningsFollow accepted (step_of c what now left).left (slice_set controllers controller (step_of c what now left).state)
quiet_follow c accepted controller what now controllers left is none follow =
    let kept : AreOpenedIf accepted left controller c.running = follow.each controller c is in
    controller_put accepted accepted left _ controllers controller c (step_of c what now left).state is follow (quiet_step what accepted controller c now left none follow.order kept)

-- ---- a step of a controller that may hand logons on

-- a turn draws, where it dials
step_fewer : (accepted now : List ChannelAccepted) (left rest last : List (List ℕ)) (controller : ℕ) (waited : List ℕ → Option (List ℕ)) (running : Option Running) → IsRest last rest →
    StepGoes accepted now left rest controller waited running → StepGoes accepted now left last controller waited running
step_fewer accepted now left rest last controller waited running fewer goes = record {
  order = ordered_rest now last rest fewer goes.order;
  kept = kept_apart now now last rest controller running fewer (λ name server waits. (waiting_of now rest controller running name server goes.kept waits).1) (λ name. refl) goes.kept;
  fewer = IsRest-trans last rest left fewer goes.fewer;
  came = goes.came;
  fresh = goes.fresh;
  others = goes.others;
}

trusting_step : (controller : ℕ) (c : ControllerState) (accepted : List ChannelAccepted) (w : Delivery) (piece : List ℕ) (s : State) (numbers : List ℕ) → AreOrdered accepted s.chances.left →
    AreOpenedIf accepted s.chances.left controller c.running →
    StepGoes accepted (onto (accepted_of (trusting_answers controller c w piece s) numbers) accepted) s.chances.left (trust_step_of c (event.Bytes w.link piece) s.moment s.chances.left).left controller
    (λ name. waits_if c.running name) (trust_step_of c (event.Bytes w.link piece) s.moment s.chances.left).state.running
trusting_step controller c accepted w piece s numbers order kept =
    let at : Where = at_controller controller c w s in
    let left : List (List ℕ) = s.chances.left in
    let Holds : Running → NotedFact = λ running. GoesOn at accepted left (λ name. waits_in running.computers name) numbers in
    let kept_at : (running : Running) → c.running ≡ Some running → AreOpened accepted left controller running.computers =
    λ running runs. subst (λ (r : Option Running). AreOpenedIf accepted left controller r) runs kept in
    trust_step_says at w.link c piece s.moment left (λ running. OfBase (Holds running))
    (λ answers stepped. StepGoes accepted (onto (accepted_of answers numbers) accepted) left stepped.left controller (λ name. waits_if c.running name) stepped.state.running) (record {
      stays = λ running. trusting_stays at w.link (Holds running) (goes_trusting at accepted left (λ name. waits_in running.computers name) numbers w.link);
      first = λ running runs. stays accepted left controller running.computers order (kept_at running runs);
      stopped = λ ends. step_stays accepted left controller (λ name. waits_if c.running name) c.running order kept (λ name server is. is);
      spent = step_ends accepted left controller (λ name. waits_if c.running name) order;
      turn = λ running actions last links t runs on all fewer.
          let new : Option Running = Some (record { computers = running.computers; links = links }) in
          step_fewer accepted accepted left left last controller (λ name. waits_if c.running name) new fewer
          (step_stays accepted left controller (λ name. waits_if c.running name) new order (kept_at running runs)
          (λ name server waits. ap (λ (r : Option Running). waits_if r name) runs ∙ waits));
      taken = λ running answers d rest last links dial t runs goes fewer.
          let new : Option Running = Some (record { computers = d.work.work.computers; links = links }) in
          let now : List ChannelAccepted = onto (accepted_of answers numbers) accepted in
          subst (λ (r : Option Running). StepGoes accepted now left last controller (λ name. waits_if r name) new) (sym runs)
          (step_fewer accepted now left rest last controller (λ name. waits_if (Some running) name) new fewer
          (record { order = goes.order; kept = goes.kept; fewer = goes.fewer; came = goes.came; fresh = goes.fresh; others = goes.others }));
    })

-- openings are kept where what is kept of computers is the same, unless the controller stops
ended_stays : (after before : Option Running) (accepted : List ChannelAccepted) (left : List (List ℕ)) (controller : ℕ) → KeepsUnlessEnded after before → AreOrdered accepted left →
    AreOpenedIf accepted left controller before → StepGoes accepted accepted left left controller (λ name. waits_if before name) after
ended_stays None before accepted left controller same order kept =
    step_stays accepted left controller (λ name. waits_if before name) None order tt (λ name server at. absurd (no_some server at))
ended_stays (Some after) None accepted left controller same order kept = absurd same
ended_stays (Some after) (Some before) accepted left controller same order kept =
    step_stays accepted left controller (λ name. waits_in before.computers name) (Some after) order (subst (λ computers. AreOpened accepted left controller computers) (sym same) kept)
    (λ name server waits. sym (ap (λ computers. waits_in computers name) same) ∙ waits)

no_call_step : (what : Event) (accepted : List ChannelAccepted) (controller : ℕ) (c : ControllerState) (now : ℕ) (left : List (List ℕ)) → IsNoBytes what → AreOrdered accepted left →
    AreOpenedIf accepted left controller c.running →
    StepGoes accepted accepted left (trust_step_of c what now left).left controller (λ name. waits_if c.running name) (trust_step_of c what now left).state.running
no_call_step what accepted controller c now left none order kept =
    let stays : HearsNoCall c what now left = hears_no_call c what now left none in
    let after : Option Running = (trust_step_of c what now left).state.running in
    step_fewer accepted accepted left left (trust_step_of c what now left).left controller (λ name. waits_if c.running name) after stays.rest
    (ended_stays after c.running accepted left controller stays.keeps order kept)

-- ---- through the moves

abbrev pub Follows : List ChannelAccepted → ControllersFact
Follows accepted controllers chances = OpeningsFollow accepted chances.left controllers

-- a controller that is made anew keeps nothing of computers
fresh_opened : (accepted : List ChannelAccepted) (left : List (List ℕ)) (controller : ℕ) → AreOpened accepted left controller (record { pending = []; channels = []; sessions = [] })
fresh_opened accepted left controller = record {
  map = λ i j d lt within. absurd (omega (arith, within));
  waiting = λ name server waits. absurd (no_some server waits);
  keeps = λ name c at. absurd (no_some c at);
  one = λ name other server waits also. absurd (no_some server waits);
}

fresh_goes : (accepted : List ChannelAccepted) (left : List (List ℕ)) (controller : ℕ) (waited : List ℕ → Option (List ℕ)) → AreOrdered accepted left →
    StepGoes accepted accepted left left controller waited (Some (record { computers = record { pending = []; channels = []; sessions = [] }; links = [] }))
fresh_goes accepted left controller waited order = record {
  order = order;
  kept = fresh_opened accepted left controller;
  fewer = IsRest-refl left;
  came = λ name server waits. absurd (no_some server waits);
  fresh = λ server spent none unused. unused;
  others = λ other name differs. refl;
}

-- where nobody is asked
pub follow_on : KeepsControllers acceptings_of Follows
follow_on = record {
  of = accepted_so;
  given = λ at given after b. refl;
  draws = λ accepted controllers chances later on follow. drawn_follow accepted chances.left later.left controllers on.rest follow;
  hears = λ accepted c at what now controllers chances none is follow. quiet_follow c accepted at what now controllers chances.left is none follow;
  comes = λ c at w piece s after b is follow.
      bytes_follow c b.accepted at w piece s (numbers_on w.link true s.bag after.bag) is follow;
  anew = λ accepted c at controllers chances is follow.
      controller_put accepted accepted chances.left chances.left controllers at c (first_state c.table c.name) is follow
      (fresh_goes accepted chances.left at (λ name. waits_if c.running name) follow.order);
}

-- in every world
follow_trusting : KeepsTrusting acceptings_of Follows
follow_trusting = record {
  of = accepted_so;
  given = λ at given after b. refl;
  draws = λ accepted controllers chances later on follow. drawn_follow accepted chances.left later.left controllers on.rest follow;
  hears = λ accepted c at what now controllers chances none is follow.
      controller_put accepted accepted chances.left _ controllers at c (trust_step_of c what now chances.left).state is follow
      (no_call_step what accepted at c now chances.left none follow.order (follow.each at c is));
  comes = λ c at w piece s after b is follow.
      controller_put b.accepted _ s.chances.left _ s.ends.controllers at c (trust_step_of c (event.Bytes w.link piece) s.moment s.chances.left).state is follow
      (trusting_step at c b.accepted w piece s (numbers_on w.link true s.bag after.bag) follow.order (follow.each at c is));
  anew = λ accepted c at hands_on controllers chances is follow.
      controller_put accepted accepted chances.left chances.left controllers at c (fresh_controller hands_on false c.table c.name) is follow
      (fresh_by (λ (new : ControllerState). StepGoes accepted accepted chances.left chances.left at (λ name. waits_if c.running name) new.running) c.table c.name
      (fresh_goes accepted chances.left at (λ name. waits_if c.running name) follow.order) (fresh_goes accepted chances.left at (λ name. waits_if c.running name) follow.order) hands_on);
}

-- ---- at first

pub each_fresh : (P : ControllerState → Type 0) → ((table : AccountTable) (name : List ℕ) → P (first_state table name)) → ((table : AccountTable) (name : List ℕ) → P (first_trust_state table name)) →
    (hands_on : Bool) (tables : List AccountTable) (names : List (List ℕ)) (at : ℕ) (c : ControllerState) → slice_get (first_controllers hands_on false tables names) at ≡ Some c → P c
each_fresh P one other hands_on [] names at c there = absurd cc
each_fresh P one other hands_on (table ∷ tables) [] at c there = absurd cc
each_fresh P one other hands_on (table ∷ tables) (name ∷ names) zero c there =
    let is : fresh_controller hands_on false table name ≡ c = cc in subst P is (fresh_by P table name (one table name) (other table name) hands_on)
each_fresh P one other hands_on (table ∷ tables) (name ∷ names) (suc at) c there = each_fresh P one other hands_on tables names at c there

pub first_follows : (plan : Plan) → OpeningsFollow [] (plain_world plan).state.chances.left (plain_world plan).state.ends.controllers
first_follows plan =
    let left : List (List ℕ) = (plain_world plan).state.chances.left in
    record {
      order = record {
        apart = apart_from left (challenges_from-distinct plan.seed 0 (most_draws - 0) (omega arith) (omega arith));
        spent = tt;
        once = λ i j d lt within. absurd (omega (arith, within));
      };
      each = λ at c there. each_fresh (λ (x : ControllerState). AreOpenedIf [] left at x.running) (λ table name. fresh_opened [] left at) (λ table name. fresh_opened [] left at) plan.hands_on plan.tables plan.controllers at c there;
      one = λ at other c d name more server there also waits too.
          absurd (each_fresh (λ (x : ControllerState). waits_if x.running name ≡ Some server → ⊥) (λ table own waits. no_some server waits) (λ table own waits. no_some server waits) plan.hands_on plan.tables
          plan.controllers at c there waits);
    }

openings_follow : (plan : Plan) (moves : List Move) → IsPlainPlan plan → OpeningsFollow (past plan moves).book.accepted (past plan moves).world.state.chances.left (past plan moves).world.state.ends.controllers
openings_follow plan moves nothing = controllers_after acceptings_of Follows follow_trusting plan moves nothing (first_follows plan)

-- in every run openings are accepted in order
pub openings_in_order : (plan : Plan) (moves : List Move) → IsPlainPlan plan → OpeningsAreInOrder (past plan moves)
openings_in_order plan moves nothing =
    let accepted : List ChannelAccepted = (past plan moves).book.accepted in
    let left : List (List ℕ) = (past plan moves).world.state.chances.left in
    let follow : OpeningsFollow accepted left (past plan moves).world.state.ends.controllers = openings_follow plan moves nothing in
    record {
      once = follow.order.once;
      last = λ controller computer channel at.
          let own : AreOpened accepted left controller at.running.computers = subst (λ (r : Option Running). AreOpenedIf accepted left controller r) at.runs (follow.each controller at.state at.at) in
          own.keeps computer channel at.keeps;
      unused = λ controller computer server at.
          let own : AreOpened accepted left controller at.running.computers = subst (λ (r : Option Running). AreOpenedIf accepted left controller r) at.runs (follow.each controller at.state at.at) in
          (own.waiting computer server at.waits).1;
      one = λ controller other computer more server a b.
          follow.one controller other a.state b.state computer more server a.at b.at (ap (λ (r : Option Running). waits_if r computer) a.runs ∙ a.waits)
          (ap (λ (r : Option Running). waits_if r more) b.runs ∙ b.waits);
    }
