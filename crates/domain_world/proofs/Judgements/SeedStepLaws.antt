-- The seeds of the channels that controllers keep, through each step of an end.
-- It serves `Proved.grants`, `Proved.replays`, `Proved.replies` and 3 more.
use Rattle.std.proofs.Common.{◌≡◌, ◌≢◌, ℕ, List, [], ◌∷◌, ◌++◌, Option, Some, None, refl, sym, ap, subst, ◌∙◌, inl, inr, slice_get, slice_set}
use Rattle.std.specs.List.{AllByRecursion}
use Rattle.authenticators.specs.Channels.{ChannelIdentity}
use Rattle.outside.specs.declared.event.Event.{Event}
use Rattle.outside.specs.Drawing.{IsRest}
use Rattle.outside.proofs.DrawLaws.{IsRest-later, IsRest-nothing, IsRest-refl, IsRest-trans}
use Rattle.account_table.specs.LookUps.{knows_in}
use Rattle.domain_controller.specs.Forwarding.{base_desk}
use Rattle.domain_controller.specs.Machine.{Desk, answer_authenticate, answer_challenge, answer_judged}
use Rattle.domain_controller.specs.State.{State as ControllerState}
use Rattle.domain_controller.specs.TrustStep.{trust_step_of as step_of}
use Rattle.controller_calls.specs.declared.state.Computers.{Computers}
use Rattle.domain_controller.specs.declared.state.Running.{Running}
use Rattle.step_notes.specs.ControllerNotes.{Answered, Where, judged_answer, plain, silent, has_passed, opened_by, opening}
use Rattle.step_notes.specs.TrustNotes.{trust_judged_answer}
use Rattle.step_notes.specs.Records.{Judging}
use Rattle.world_moves.specs.declared.state.State.{State}
use Rattle.domain_world.specs.Claims.{moved_on}
use Rattle.domain_world.specs.Past.{Delivery, answers_of, at_controller, judged_of, later_of, number_sent, onto, with_reply}
use Rattle.step_notes.proofs.Controllers.NotedLaws.{NotedFact, StaysThrough}
use Rattle.step_notes.proofs.Controllers.TrustNotedLaws.{trust_step_says}
use Rattle.step_notes.proofs.Controllers.TrustedStepLaws.{OfBase, StaysWithTrusts, trusting_stays}
use Rattle.domain_world.proofs.Messages.MessageOnceLaws.{set_cases}
use Rattle.domain_world.proofs.Judgements.SeedLaws.{AreApart, AreKept, AreUnheard, IsInOrder, IsSpent, authenticate_kept, channel_from, drawn_order, judged_as, judged_order, keeps_all, kept_on, logon_kept, others_unmoved, pair_kept, trusted_kept}
use Rattle.domain_world.proofs.Judgements.ChainLaws.{its_judging, judged_judging, opening_judging, trust_answer_judging}
use Rattle.domain_world.proofs.Judgements.JudgedLaws.{trusted_judging}
use Rattle.domain_world.proofs.Moves.NoBytesLaws.{IsNoBytes}
use Rattle.domain_world.proofs.Moves.TrustNoBytesLaws.{HearsNoCall, KeepsUnlessEnded, hears_no_call}
use Rattle.outside.specs.declared.event.Event.TheVariants as event

-- ---- fewer challenges are left

all_behind : {T : Type 0} (P : T → Type 0) (front rest : List T) → AllByRecursion P (front ++ rest) → AllByRecursion P rest
all_behind P [] rest all = all
all_behind P (item ∷ front) rest all = all_behind P front rest all.1

pub apart_behind : (front rest : List (List ℕ)) → AreApart (front ++ rest) → AreApart rest
apart_behind [] rest apart = apart
apart_behind (challenge ∷ front) rest apart = apart_behind front rest apart.1

pub spent_rest : (rest left : List (List ℕ)) → IsRest rest left → (challenge : List ℕ) → IsSpent challenge left → IsSpent challenge rest
spent_rest rest left is challenge spent =
    all_behind (λ (one : List ℕ). one ≢ challenge) is.front rest (subst (λ (l : List (List ℕ)). IsSpent challenge l) (sym is.is) spent)

order_rest : (judgings : List Judging) (rest left : List (List ℕ)) → IsRest rest left → IsInOrder judgings left → IsInOrder judgings rest
order_rest judgings rest left is order = record {
  moved = order.moved;
  unheard = all_behind (λ (one : List ℕ). (channel : ChannelIdentity) → channel.server ≡ one → moved_on channel judgings ≡ 0) is.front rest
      (subst (λ (l : List (List ℕ)). AreUnheard judgings l) (sym is.is) order.unheard);
  apart = apart_behind is.front rest (subst (λ (l : List (List ℕ)). AreApart l) (sym is.is) order.apart);
}

-- what a controller keeps, where how far its channels' seeds moved is the same
kept_rest : (judgings now : List Judging) (rest left : List (List ℕ)) (controller : ℕ) (computers : Computers) → IsRest rest left →
    ((channel : ChannelIdentity) → channel.controller ≡ controller → moved_on channel now ≡ moved_on channel judgings) → AreKept judgings left controller computers →
    AreKept now rest controller computers
kept_rest judgings now rest left controller computers is moved kept = record {
  map = kept.map;
  each = λ name.
      kept_on judgings now left rest controller name computers computers (keeps_all name computers)
      (λ secret client server flags. moved (channel_from controller name secret client server flags) refl) (spent_rest rest left is) (kept.each name);
}

-- ---- a part of a step of a controller

-- What is known after it: of what was judged and of its own channels; and the seeds of other controllers' channels
-- didn't move.
pub record Goes (judgings now : List Judging) (left rest : List (List ℕ)) (controller : ℕ) (computers : Computers) : Type 0 where
  pub order : IsInOrder now rest
  pub kept : AreKept now rest controller computers
  pub fewer : IsRest rest left
  pub others : (channel : ChannelIdentity) → (channel.controller ≡ controller → ⊥) → moved_on channel now ≡ moved_on channel judgings

stays : (judgings : List Judging) (left : List (List ℕ)) (controller : ℕ) (computers : Computers) → IsInOrder judgings left → AreKept judgings left controller computers →
    Goes judgings judgings left left controller computers
stays judgings left controller computers order kept = record { order = order; kept = kept; fewer = IsRest-refl left; others = λ channel apart. refl }

goes_on : (judgings middle now : List Judging) (left rest less : List (List ℕ)) (controller : ℕ) (computers later : Computers) →
    Goes judgings middle left rest controller computers → Goes middle now rest less controller later → Goes judgings now left less controller later
goes_on judgings middle now left rest less controller computers later first second = record {
  order = second.order;
  kept = second.kept;
  fewer = IsRest-trans less rest left second.fewer first.fewer;
  others = λ channel apart. second.others channel apart ∙ first.others channel apart;
}

-- ---- a unit

-- with the call that was judged, if one was
abbrev pub with_judging : Option Judging → Option ℕ → List Judging → List Judging
with_judging None number judgings = judgings
with_judging (Some j) number judgings = record j { reply = number } ∷ judgings

-- ---- the units of a stream

onto_reply : (j : Option Judging) (number : Option ℕ) (later judgings : List Judging) → onto (with_reply j number ++ later) judgings ≡ onto later (with_judging j number judgings)
onto_reply None number later judgings = refl
onto_reply (Some j) number later judgings = refl

-- the numbers that are left for what is sent behind these
abbrev pub numbers_left : List Answered → List ℕ → List ℕ
numbers_left [] numbers = numbers
numbers_left (one ∷ answers) numbers = numbers_left answers (later_of one.sends numbers)

judged_more : (answers : List Answered) (one : Answered) (numbers : List ℕ) (judgings : List Judging) →
    onto (judged_of (answers ++ one ∷ []) numbers) judgings
    ≡ with_judging one.judging (number_sent one.sends (numbers_left answers numbers)) (onto (judged_of answers numbers) judgings)
judged_more [] one numbers judgings = onto_reply one.judging (number_sent one.sends numbers) [] judgings
judged_more (first ∷ answers) one numbers judgings =
    let later : List ℕ = later_of first.sends numbers in
    onto_reply first.judging (number_sent first.sends numbers) (judged_of (answers ++ one ∷ []) later) judgings
    ∙ judged_more answers one later (with_judging first.judging (number_sent first.sends numbers) judgings)
    ∙ ap (λ (all : List Judging). with_judging one.judging (number_sent one.sends (numbers_left answers later)) all)
    (sym (onto_reply first.judging (number_sent first.sends numbers) (judged_of answers later) judgings))

module _ (w : Where) (judgings : List Judging) (left : List (List ℕ)) (numbers : List ℕ) where
  abbrev written : List Answered → List Judging
  written answers = onto (judged_of answers numbers) judgings

  abbrev GoesOn : NotedFact
  GoesOn answers d some = Goes judgings (written answers) left some w.controller d.work.computers

  further : (answers : List Answered) (one : Answered) (d : Desk) (later : Computers) (some less : List (List ℕ)) → GoesOn answers d some →
      Goes (written answers) (with_judging one.judging (number_sent one.sends (numbers_left answers numbers)) (written answers)) some less w.controller later →
      Goes judgings (written (answers ++ one ∷ [])) left less w.controller later
  further answers one d later some less goes more =
      subst (λ (now : List Judging). Goes judgings now left less w.controller later) (sym (judged_more answers one numbers judgings))
      (goes_on judgings (written answers) _ left some less w.controller d.work.computers later goes more)

  goes_stay : (link : ℕ) → StaysThrough w link w.name w.moment GoesOn
  goes_stay link = record {
    closes = λ answers d some cause goes. goes;
    waits = λ answers d some goes.
        further answers silent d d.work.computers some some goes (stays (written answers) some w.controller d.work.computers goes.order goes.kept);
    sends = λ answers d some bytes goes.
        further answers plain d d.work.computers some some goes (stays (written answers) some w.controller d.work.computers goes.order goes.kept);
    challenge = λ answers d some line c server on goes.
        further answers plain d (answer_challenge d.table line c server d.work).computers (server ∷ some) some goes (record {
          order = drawn_order (written answers) server some goes.order;
          kept = pair_kept (knows_in d.table.accounts c.computer) (written answers) server some w.controller c.computer c.challenge d.work goes.order goes.kept;
          fewer = IsRest-later server some some (IsRest-refl some);
          others = λ channel apart. refl;
        });
    authenticate = λ answers d some line c on goes.
        let later : Computers = (answer_authenticate d.table line c d.work).computers in
        let opened : Option ChannelIdentity = opened_by w.controller c d in
        further answers (opening opened w line.call c.channel) d later some some goes
        (subst (λ (j : Option Judging). Goes (written answers) (with_judging j (number_sent (opening opened w line.call c.channel).sends (numbers_left answers numbers)) (written answers)) some some w.controller later)
        (sym (opening_judging opened w line.call c.channel))
        (stays (written answers) some w.controller later goes.order (authenticate_kept (written answers) some w.controller d.table line c d.work goes.kept)));
    judged = λ answers d some line c on goes.
        let later : Computers = (answer_judged c w.name w.moment line d).work.computers in
        let one : Judging = its_judging w line c d in
        let number : Option ℕ = number_sent (judged_answer one).sends (numbers_left answers numbers) in
        let j : Judging = judged_as one.how number w line c d in
        further answers (judged_answer one) d later some some goes
        (subst (λ (o : Option Judging). Goes (written answers) (with_judging o number (written answers)) some some w.controller later)
        (sym (judged_judging (has_passed one.how) one)) (record {
          order = judged_order (written answers) some j d.work.computers refl goes.kept goes.order;
          kept = logon_kept (written answers) some number w line c d goes.kept;
          fewer = IsRest-refl some;
          others = others_unmoved (written answers) some j d.work.computers refl goes.kept;
        }));
  }

  -- a controller that may hand logons on goes on so
  goes_trusting : (link : ℕ) → StaysWithTrusts w link GoesOn
  goes_trusting link = record {
    base = goes_stay link;
    trusted = λ answers d after some line c on is goes.
        let one : Judging = trusted_judging w line c d after in
        let number : Option ℕ = number_sent (trust_judged_answer one).sends (numbers_left answers numbers) in
        let j : Judging = judged_as one.how number w line c (base_desk d) in
        let computers : Computers = d.work.work.computers in
        further answers (trust_judged_answer one) (base_desk d) after.work.work.computers some some goes
        (subst (λ (o : Option Judging). Goes (written answers) (with_judging o number (written answers)) some some w.controller after.work.work.computers)
        (sym (trust_answer_judging one)) (record {
          order = judged_order (written answers) some j computers refl goes.kept goes.order;
          kept = trusted_kept (written answers) some number w line c d after is goes.kept;
          fewer = IsRest-refl some;
          others = others_unmoved (written answers) some j computers refl goes.kept;
        }));
  }

-- ---- a step of a controller

-- of a controller that hasn't stopped
abbrev pub AreKeptIf : List Judging → List (List ℕ) → ℕ → Option Running → Type 0
AreKeptIf judgings left controller None = Unit {0}
AreKeptIf judgings left controller (Some running) = AreKept judgings left controller running.computers

pub record StepGoes (judgings now : List Judging) (left rest : List (List ℕ)) (controller : ℕ) (running : Option Running) : Type 0 where
  pub order : IsInOrder now rest
  pub kept : AreKeptIf now rest controller running
  pub fewer : IsRest rest left
  pub others : (channel : ChannelIdentity) → (channel.controller ≡ controller → ⊥) → moved_on channel now ≡ moved_on channel judgings

step_stays : (judgings : List Judging) (left : List (List ℕ)) (controller : ℕ) (running : Option Running) → IsInOrder judgings left → AreKeptIf judgings left controller running →
    StepGoes judgings judgings left left controller running
step_stays judgings left controller running order kept = record { order = order; kept = kept; fewer = IsRest-refl left; others = λ channel apart. refl }

-- the challenges weren't enough: the controller stops, and nothing is written down
step_ends : (judgings : List Judging) (left : List (List ℕ)) (controller : ℕ) → IsInOrder judgings left → StepGoes judgings judgings left [] controller None
step_ends judgings left controller order =
    record { order = order_rest judgings [] left (IsRest-nothing left) order; kept = tt; fewer = IsRest-nothing left; others = λ channel apart. refl }

-- a turn may draw, and dial
turn_goes : (judgings now : List Judging) (left rest last : List (List ℕ)) (controller : ℕ) (computers : Computers) → IsRest last rest → Goes judgings now left rest controller computers →
    Goes judgings now left last controller computers
turn_goes judgings now left rest last controller computers fewer goes = record {
  order = order_rest now last rest fewer goes.order;
  kept = kept_rest now now last rest controller computers fewer (λ channel same. refl) goes.kept;
  fewer = IsRest-trans last rest left fewer goes.fewer;
  others = goes.others;
}

bytes_step : (controller : ℕ) (c : ControllerState) (judgings : List Judging) (w : Delivery) (piece : List ℕ) (s : State) (numbers : List ℕ) → IsInOrder judgings s.chances.left →
    AreKeptIf judgings s.chances.left controller c.running →
    StepGoes judgings (onto (judged_of (answers_of controller c w piece s) numbers) judgings) s.chances.left (step_of c (event.Bytes w.link piece) s.moment s.chances.left).left controller
    (step_of c (event.Bytes w.link piece) s.moment s.chances.left).state.running
bytes_step controller c judgings w piece s numbers order kept =
    let at : Where = at_controller controller c w s in
    let left : List (List ℕ) = s.chances.left in
    let kept_at : (running : Running) → c.running ≡ Some running → AreKept judgings left controller running.computers =
    λ running runs. subst (λ (r : Option Running). AreKeptIf judgings left controller r) runs kept in
    trust_step_says at w.link c piece s.moment left (λ running. OfBase (GoesOn at judgings left numbers))
    (λ answers stepped. StepGoes judgings (onto (judged_of answers numbers) judgings) left stepped.left controller stepped.state.running) (record {
      stays = λ running. trusting_stays at w.link (GoesOn at judgings left numbers) (goes_trusting at judgings left numbers w.link);
      first = λ running runs. stays judgings left controller running.computers order (kept_at running runs);
      stopped = λ ends. step_stays judgings left controller c.running order kept;
      spent = step_ends judgings left controller order;
      turn = λ running actions last links t runs on all fewer.
          let goes = turn_goes judgings judgings left left last controller running.computers fewer (stays judgings left controller running.computers order (kept_at running runs)) in
          record { order = goes.order; kept = goes.kept; fewer = goes.fewer; others = goes.others };
      taken = λ running answers d rest last links dial t runs holds fewer.
          let goes = turn_goes judgings (onto (judged_of answers numbers) judgings) left rest last controller d.work.work.computers fewer holds in
          record { order = goes.order; kept = goes.kept; fewer = goes.fewer; others = goes.others };
    })

-- ---- a step at which no bytes come

-- seeds are kept where what is kept of computers is the same and fewer challenges are left
same_kept : (after before : Option Running) (judgings : List Judging) (rest left : List (List ℕ)) (controller : ℕ) → IsRest rest left → KeepsUnlessEnded after before →
    AreKeptIf judgings left controller before → AreKeptIf judgings rest controller after
same_kept None before judgings rest left controller fewer same kept = tt
same_kept (Some after) None judgings rest left controller fewer same kept = absurd same
same_kept (Some after) (Some before) judgings rest left controller fewer same kept =
    subst (λ (computers : Computers). AreKept judgings rest controller computers) (sym same)
    (kept_rest judgings judgings rest left controller before.computers fewer (λ channel is. refl) kept)

quiet_step : (what : Event) (judgings : List Judging) (controller : ℕ) (c : ControllerState) (now : ℕ) (left : List (List ℕ)) → IsNoBytes what → IsInOrder judgings left →
    AreKeptIf judgings left controller c.running → StepGoes judgings judgings left (step_of c what now left).left controller (step_of c what now left).state.running
quiet_step what judgings controller c now left none order kept =
    let stays : HearsNoCall c what now left = hears_no_call c what now left none in
    let rest : List (List ℕ) = (step_of c what now left).left in
    record {
      order = order_rest judgings rest left stays.rest order;
      kept = same_kept (step_of c what now left).state.running c.running judgings rest left controller stays.rest stays.keeps kept;
      fewer = stays.rest;
      others = λ channel apart. refl;
    }

-- ---- all controllers

-- Of the calls that were judged, of the challenges that are left, and of what each controller keeps.
pub record SeedsFollow (judgings : List Judging) (left : List (List ℕ)) (controllers : List ControllerState) : Type 0 where
  pub order : IsInOrder judgings left
  pub each : (at : ℕ) (c : ControllerState) → slice_get controllers at ≡ Some c → AreKeptIf judgings left at c.running

kept_apart : (judgings now : List Judging) (rest left : List (List ℕ)) (controller : ℕ) (running : Option Running) → IsRest rest left →
    ((channel : ChannelIdentity) → channel.controller ≡ controller → moved_on channel now ≡ moved_on channel judgings) → AreKeptIf judgings left controller running → AreKeptIf now rest controller running
kept_apart judgings now rest left controller None is moved kept = tt
kept_apart judgings now rest left controller (Some running) is moved kept = kept_rest judgings now rest left controller running.computers is moved kept

-- a controller took a step
pub controller_put : (judgings now : List Judging) (left rest : List (List ℕ)) (controllers : List ControllerState) (at : ℕ) (new : ControllerState) → SeedsFollow judgings left controllers →
    StepGoes judgings now left rest at new.running → SeedsFollow now rest (slice_set controllers at new)
controller_put judgings now left rest controllers at new follow goes = record {
  order = goes.order;
  each = λ k c there. elim (set_cases controllers at k new c there) [
    | inl here ↦
        subst (λ (x : ControllerState). AreKeptIf now rest k x.running) here.1 (subst (λ n. AreKeptIf now rest n new.running) (sym here.0) goes.kept)
    | inr other ↦
        kept_apart judgings now rest left k c.running goes.fewer (λ channel is. goes.others channel (λ same. other.0 (sym is ∙ same))) (follow.each k c other.1)
  ];
}

-- seeds follow where another end drew challenges
pub drawn_follow : (judgings : List Judging) (left rest : List (List ℕ)) (controllers : List ControllerState) → IsRest rest left → SeedsFollow judgings left controllers →
    SeedsFollow judgings rest controllers
drawn_follow judgings left rest controllers is follow = record {
  order = order_rest judgings rest left is follow.order;
  each = λ k c there. kept_apart judgings judgings rest left k c.running is (λ channel same. refl) (follow.each k c there);
}

-- a controller hears bytes
pub bytes_follow : (c : ControllerState) (judgings : List Judging) (controller : ℕ) (w : Delivery) (piece : List ℕ) (s : State) (numbers : List ℕ) →
    slice_get s.ends.controllers controller ≡ Some c → SeedsFollow judgings s.chances.left s.ends.controllers →
    SeedsFollow (onto (judged_of (answers_of controller c w piece s) numbers) judgings) (step_of c (event.Bytes w.link piece) s.moment s.chances.left).left
    (slice_set s.ends.controllers controller (step_of c (event.Bytes w.link piece) s.moment s.chances.left).state)
bytes_follow c judgings controller w piece s numbers is follow =
    controller_put judgings _ s.chances.left _ s.ends.controllers controller (step_of c (event.Bytes w.link piece) s.moment s.chances.left).state follow
    (bytes_step controller c judgings w piece s numbers follow.order (follow.each controller c is))

-- seeds follow where a controller hears something else than bytes
pub quiet_follow : (c : ControllerState) (judgings : List Judging) (controller : ℕ) (what : Event) (now : ℕ) (controllers : List ControllerState) (left : List (List ℕ)) →
    slice_get controllers controller ≡ Some c → IsNoBytes what → SeedsFollow judgings left controllers →
    SeedsFollow judgings (step_of c what now left).left (slice_set controllers controller (step_of c what now left).state)
quiet_follow c judgings controller what now controllers left is none follow =
    let kept : AreKeptIf judgings left controller c.running = follow.each controller c is in
    controller_put judgings judgings left _ controllers controller (step_of c what now left).state follow (quiet_step what judgings controller c now left none follow.order kept)
