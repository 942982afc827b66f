-- What controllers told of calls in a run are the judgements of the calls that they heard, in their order, whether they
-- hand logons on or not. It serves `Proved.credentials`.
use Rattle.std.proofs.Common.{◌≡◌, ℕ, Bool, true, false, cond, List, [], ◌∷◌, ◌++◌, length, Option, Some, None, refl, sym, ap, ◌∙◌, subst}
use Rattle.std.specs.List.{AllByRecursion}
use Rattle.std.specs.Prelude.{flat_map}
use Rattle.std.proofs.lemmas.List.{append-nil}
use Rattle.std.proofs.lemmas.List.Concat.{flat_map-append}
use Rattle.outside.specs.declared.action.Action.{Action}
use Rattle.outside.specs.declared.action.Action.TheVariants as action
use Rattle.outside.specs.declared.action.Judged.{Judged}
use Rattle.outside.specs.declared.event.Event.{Event}
use Rattle.outside.specs.declared.event.Event.TheVariants as event
use Rattle.domain_controller.specs.Laws.{judges_call}
use Rattle.domain_controller.specs.Sessions.{judgement_if, told_in}
use Rattle.domain_controller.specs.State.{State as ControllerState}
use Rattle.domain_controller.specs.TrustActions.{dial_of}
use Rattle.domain_controller.specs.TrustStep.{trust_step_of as step_of}
use Rattle.domain_controller.proofs.TrustWalkLaws.{IsOfTurn}
use Rattle.step_notes.specs.ControllerNotes.{Answered, Where}
use Rattle.step_notes.specs.MemberNotes.{turn_units}
use Rattle.step_notes.specs.Records.{Book, JudgementTold, Judging, OfMember}
use Rattle.step_notes.specs.TrustNotes.{trust_judged_answer}
use Rattle.step_notes.proofs.Controllers.TrustNotedLaws.{trust_step_says}
use Rattle.step_notes.proofs.Controllers.TrustedStepLaws.{OfBase, StaysWithTrusts, trusted_how, trusting_stays}
use Rattle.world_moves.specs.declared.links.EndId.{EndId}
use Rattle.world_moves.specs.declared.links.EndId.TheVariants.{Controller, Member, Client}
use Rattle.world_moves.specs.declared.moves.Move.{Move}
use Rattle.world_moves.specs.declared.plan.Plan.{Plan}
use Rattle.world_moves.specs.declared.state.State.{State}
use Rattle.world_moves.specs.Acting.{Given, given_by}
use Rattle.world_moves.specs.Ends.{EndStep, actions_by, client_step}
use Rattle.world_moves.specs.Links.{acceptor_of}
use Rattle.world_moves.specs.Moving.{begun, changed, with_link}
use Rattle.world_moves.specs.Plain.{IsPlainPlan, hear_plain as hear, plain_member_step as member_step}
use Rattle.world_moves.proofs.PlainKindLaws.{plain_by as end_by}
use Rattle.domain_world.specs.Claims.{AreTheirJudgements, PassesTheNextCredential, judgements_of_calls}
use Rattle.domain_world.specs.Past.{Delivery, answers_of, at_controller, judged_of, judgements_in, note_at, note_client, note_controller, note_member, note_messages, numbers_on, onto, past}
use Rattle.domain_world.proofs.Frames.EndFrameLaws.{EndFact, KeepsEndsBy, every_ends_after}
use Rattle.domain_world.proofs.Frames.EndNoteLaws.{judged_so}
use Rattle.domain_world.proofs.Frames.EventLaws.{calm_no_bytes}
use Rattle.domain_world.proofs.Frames.EveryStepLaws.{act_plain as hear_and_act, every_noted}
use Rattle.domain_world.proofs.Frames.MoveKeepLaws.{every}
use Rattle.domain_world.proofs.Frames.TurnFrameLaws.{asked_leave}
use Rattle.domain_world.proofs.Judgements.ChainLaws.{trust_answer_judging}
use Rattle.domain_world.proofs.Judgements.JudgedLaws.{judged_rightly, trusted_judging}
use Rattle.domain_world.proofs.Judgements.ToldLaws.{Follows, all_rightly, answered, further, judged_told, judgements_append, onto_append, others_quiet, telling_by, telling_if, tellings, tellings_onto, told_by, told_of, told_stays}
use Rattle.domain_world.proofs.Moves.NoBytesLaws.{IsNoBytes}
use Rattle.domain_world.proofs.Moves.TrustNoBytesLaws.{TellsNoCall, hears_no_call}

-- ---- what is told of calls

call_if : (judges : Bool) (how : Judged) → judgement_if judges how ≡ [] → judges ≡ false
call_if false how none = refl
call_if true how none = absurd (let x = none in cc)

-- by actions that tell of no call
none_of_calls : (w : Where) (actions : List Action) → AllByRecursion TellsNoCall actions → judgements_of_calls (flat_map (told_of w) actions) ≡ []
none_of_calls w [] all = refl
none_of_calls w (action.Keep bytes ∷ actions) all = none_of_calls w actions all.1
none_of_calls w (action.Send link bytes ∷ actions) all = none_of_calls w actions all.1
none_of_calls w (action.Dial peer ∷ actions) all = none_of_calls w actions all.1
none_of_calls w (action.Close link cause ∷ actions) all = none_of_calls w actions all.1
none_of_calls w (action.Told link outcome ∷ actions) all = none_of_calls w actions all.1
none_of_calls w (action.Judged how ∷ actions) all =
    let rest : List JudgementTold = flat_map (told_of w) actions in
    let one : JudgementTold = record { at = w.at; controller = w.controller; how = how } in
    ap (λ (judges : Bool). cond judges (one ∷ judgements_of_calls rest) (judgements_of_calls rest)) (call_if (judges_call how) how all.0) ∙ none_of_calls w actions all.1

of_turn : (actions : List Action) → AllByRecursion IsOfTurn actions → AllByRecursion TellsNoCall actions
of_turn [] all = tt
of_turn (what ∷ actions) all = (all.0.told, of_turn actions all.1)

-- by actions that tell nothing
none_told_by : (w : Where) (actions : List Action) → AllByRecursion (λ (what : Action). told_in what ≡ []) actions → flat_map (told_of w) actions ≡ []
none_told_by w [] all = refl
none_told_by w (action.Keep bytes ∷ actions) all = none_told_by w actions all.1
none_told_by w (action.Send link bytes ∷ actions) all = none_told_by w actions all.1
none_told_by w (action.Dial peer ∷ actions) all = none_told_by w actions all.1
none_told_by w (action.Close link cause ∷ actions) all = none_told_by w actions all.1
none_told_by w (action.Told link outcome ∷ actions) all = none_told_by w actions all.1
none_told_by w (action.Judged how ∷ actions) all = absurd (let x = all.0 in cc)

-- ---- a step of a controller, when bytes come

told_trusting : (w : Where) (link : ℕ) → StaysWithTrusts w link (Follows w)
told_trusting w link = record {
  base = told_stays w link;
  trusted = λ answers d after left line c on is follows.
      let j : Judging = trusted_judging w line c d after in
      let old : List Action = d.work.work.actions in
      let more : List Action = action.Judged is.how ∷ is.new in
      further w answers (trust_judged_answer j) old after.work.work.actions follows
      (ap (flat_map (told_of w)) is.actions
      ∙ flat_map-append (told_of w) old more
      ∙ ap (λ (rest : List JudgementTold). flat_map (told_of w) old ++ (telling_by w.at w.controller (Some is.how) ++ rest)) (none_told_by w is.new is.quiet)
      ∙ ap (λ (how : Option Judged). flat_map (told_of w) old ++ telling_by w.at w.controller how) (sym (trusted_how c d after is))
      ∙ ap (λ (one : Option Judging). flat_map (told_of w) old ++ telling_if one) (sym (trust_answer_judging j)));
}

dial_told : (w : Where) (dial : Option (List ℕ)) → flat_map (told_of w) (dial_of dial) ≡ []
dial_told w None = refl
dial_told w (Some peer) = refl

-- what is told of calls is what the calls were judged
step_told : (controller : ℕ) (c : ControllerState) (w : Delivery) (piece : List ℕ) (s : State) →
    judgements_of_calls (judgements_in (given_by (Controller controller) (actions_by (step_of c (event.Bytes w.link piece) s.moment s.chances.left).answer)) w.at)
    ≡ judgements_of_calls (answered (answers_of controller c w piece s))
step_told controller c w piece s =
    let at : Where = at_controller controller c w s in
    ap judgements_of_calls (told_by at (actions_by (step_of c (event.Bytes w.link piece) s.moment s.chances.left).answer))
    ∙ trust_step_says at w.link c piece s.moment s.chances.left (λ running. OfBase (Follows at))
    (λ answers stepped. judgements_of_calls (flat_map (told_of at) (actions_by stepped.answer)) ≡ judgements_of_calls (answered answers)) (record {
      stays = λ running. trusting_stays at w.link (Follows at) (told_trusting at w.link);
      first = λ running runs. refl;
      stopped = λ ends. refl;
      spent = refl;
      turn = λ running actions last links t runs on all fewer. none_of_calls at actions (of_turn actions all);
      taken = λ running answers d rest last links dial t runs follows fewer.
          ap judgements_of_calls
          (flat_map-append (told_of at) d.work.work.actions (dial_of dial)
          ∙ ap (λ (told : List JudgementTold). flat_map (told_of at) d.work.work.actions ++ told) (dial_told at dial)
          ∙ append-nil (flat_map (told_of at) d.work.work.actions)
          ∙ follows);
    })

-- ---- steps that tell of no call

abbrev Quiet : EndId → List Action → ℕ → Type 0
Quiet end actions at = judgements_of_calls (judgements_in (given_by end actions) at) ≡ []

quiet_by : (controller at : ℕ) (actions : List Action) → AllByRecursion TellsNoCall actions → Quiet (Controller controller) actions at
quiet_by controller at [] all = refl
quiet_by controller at (action.Keep bytes ∷ actions) all = quiet_by controller at actions all.1
quiet_by controller at (action.Send link bytes ∷ actions) all = quiet_by controller at actions all.1
quiet_by controller at (action.Dial peer ∷ actions) all = quiet_by controller at actions all.1
quiet_by controller at (action.Close link cause ∷ actions) all = quiet_by controller at actions all.1
quiet_by controller at (action.Told link outcome ∷ actions) all = quiet_by controller at actions all.1
quiet_by controller at (action.Judged how ∷ actions) all =
    let rest : List JudgementTold = judgements_in (given_by (Controller controller) actions) at in
    let one : JudgementTold = record { at = at; controller = controller; how = how } in
    ap (λ (judges : Bool). cond judges (one ∷ judgements_of_calls rest) (judgements_of_calls rest)) (call_if (judges_call how) how all.0) ∙ quiet_by controller at actions all.1

end_quiet : (end : EndId) (what : Event) (s : State) (at : ℕ) → IsNoBytes what → Quiet end (hear end what s).actions at
end_quiet end what s at none =
    end_by (λ (one : EndId) (step : EndStep). Quiet one step.actions at) what s.moment s.ends s.chances (λ one. refl)
    (λ k c is. quiet_by k at (actions_by (step_of c what s.moment s.chances.left).answer) (hears_no_call c what s.moment s.chances.left none).told)
    (λ k m is. ap judgements_of_calls (others_quiet (Member k) refl (member_step (Some m) k what s.moment s.ends s.chances).actions at))
    (λ k c is. ap judgements_of_calls (others_quiet (Client k) refl (client_step (Some c) k what s.moment s.ends s.chances).actions at)) end

-- ---- what is written down as bytes come

onto_first : (judges : Bool) (one : JudgementTold) (told older : List JudgementTold) → onto told (cond judges (one ∷ older) older) ≡ onto (cond judges (one ∷ told) told) older
onto_first true one told older = refl
onto_first false one told older = refl

onto_calls : (told older : List JudgementTold) → judgements_of_calls (onto told older) ≡ onto (judgements_of_calls told) (judgements_of_calls older)
onto_calls [] older = refl
onto_calls (one ∷ told) older = onto_calls told (one ∷ older) ∙ onto_first (judges_call one.how) one (judgements_of_calls told) (judgements_of_calls older)

-- the calls that are written down are those whose judgements were told, in this move or before
abbrev AreTold : ℕ → Given → Book → Type 0
AreTold at given b = judgements_of_calls (tellings b.judged) ≡ judgements_of_calls (onto (judgements_in given at) b.judgements)

-- what more is told is told of calls
more_told : (at : ℕ) (given more : Given) (old new : Book) → AreTold at given old →
    judgements_of_calls (tellings new.judged) ≡ onto (judgements_of_calls (judgements_in more at)) (judgements_of_calls (tellings old.judged)) → new.judgements ≡ old.judgements →
    AreTold at (given ++ more) new
more_told at given more old new told judged same =
    let before : List JudgementTold = onto (judgements_in given at) new.judgements in
    judged
    ∙ ap (λ (all : List JudgementTold). onto (judgements_of_calls (judgements_in more at)) all)
    (told ∙ ap (λ (judgements : List JudgementTold). judgements_of_calls (onto (judgements_in given at) judgements)) (sym same))
    ∙ sym (onto_calls (judgements_in more at) before)
    ∙ ap judgements_of_calls (sym (onto_append (judgements_in given at) (judgements_in more at) new.judgements))
    ∙ ap (λ (all : List JudgementTold). judgements_of_calls (onto all new.judgements)) (sym (judgements_append given more at))

-- nothing more is told of calls
none_told : (at : ℕ) (given more : Given) (old new : Book) → AreTold at given old → judgements_of_calls (judgements_in more at) ≡ [] → new.judged ≡ old.judged →
    new.judgements ≡ old.judgements → AreTold at (given ++ more) new
none_told at given more old new told none judged same =
    more_told at given more old new told
    (ap (λ (all : List Judging). judgements_of_calls (tellings all)) judged ∙ ap (λ (all : List JudgementTold). onto all (judgements_of_calls (tellings old.judged))) (sym none)) same

controller_told : (c : ControllerState) (controller : ℕ) (w : Delivery) (piece : List ℕ) (s after : State) (given : Given) (b : Book) → AreTold w.at given b →
    AreTold w.at (given ++ given_by (Controller controller) (actions_by (step_of c (event.Bytes w.link piece) s.moment s.chances.left).answer)) (note_controller (Some c) controller w piece s after b)
controller_told c controller w piece s after given b told =
    let numbers : List ℕ = numbers_on w.link true s.bag after.bag in
    let answers : List Answered = answers_of controller c w piece s in
    more_told w.at given _ b (note_controller (Some c) controller w piece s after b) told
    (ap judgements_of_calls (tellings_onto (judged_of answers numbers) b.judged)
    ∙ onto_calls (tellings (judged_of answers numbers)) (tellings b.judged)
    ∙ ap (λ (all : List JudgementTold). onto all (judgements_of_calls (tellings b.judged)))
    (ap judgements_of_calls (judged_told answers numbers) ∙ sym (step_told controller c w piece s)))
    refl

end_told : (end : EndId) (w : Delivery) (piece : List ℕ) (s after : State) (given : Given) (b : Book) → AreTold w.at given b →
    AreTold w.at (given ++ given_by end (hear end (event.Bytes w.link piece) s).actions) (note_at (Some end) w piece s after b)
end_told end w piece s after given b told =
    let what : Event = event.Bytes w.link piece in
    every_noted (λ (one : EndId) (step : EndStep) (now : Book). AreTold w.at (given ++ given_by one step.actions) now) w piece s after b
    (λ one. none_told w.at given [] b b told refl refl refl) (λ k c is. controller_told c k w piece s after given b told)
    (λ k m is.
    let actions : List Action = (member_step (Some m) k what s.moment s.ends s.chances).actions in
    none_told w.at given (given_by (Member k) actions) b (note_member (Some m) k w piece s after b) told (ap judgements_of_calls (others_quiet (Member k) refl actions w.at))
    (judged_so.members m k w piece s after b)
    (asked_leave (OfMember k) w (turn_units m w.link piece s.moment s.chances.left) s after (note_messages k m w piece s b) (λ (book : Book). book.judgements)
    (λ note served unit number old. refl)))
    (λ k c is.
    let actions : List Action = (client_step (Some c) k what s.moment s.ends s.chances).actions in
    none_told w.at given (given_by (Client k) actions) b (note_client (Some c) k w piece s b) told (ap judgements_of_calls (others_quiet (Client k) refl actions w.at)) refl refl) end

-- ---- a run

abbrev ToldSoFar : EndFact
ToldSoFar at on ends given b = AreTold at given b

told_keeps : KeepsEndsBy every ToldSoFar
told_keeps = record {
  calm = λ at on end what s given b none told. none_told at given (given_by end (hear end what s).actions) b b told (end_quiet end what s at (calm_no_bytes what none)) refl refl;
  dialled = λ at end link s given b side told.
      none_told at given (given_by end (hear end (event.Dialled link) s).actions) b b told (end_quiet end (event.Dialled link) s at tt) refl refl;
  opens = λ at route s given b told.
      let end : EndId = acceptor_of route in
      let what : Event = event.Opened (length s.links) in
      none_told at given (given_by end (hear end what (with_link route s)).actions) b b told (end_quiet end what (with_link route s) at tt) refl refl;
  begins = λ at client plan s b is told.
      none_told at [] (given_by (Client client) (begun client plan s).actions) b b told
      (ap judgements_of_calls (others_quiet (Client client) refl (begun client plan s).actions at)) refl refl;
  comes = λ end w piece s given b side came told. end_told end w piece s (hear_and_act end (event.Bytes w.link piece) s).state given b told;
  renews = λ at end s b told. told;
  changes = λ at member secret s b told.
      none_told at [] (given_by (Member member) (changed member secret s).actions) b b told
      (ap judgements_of_calls (others_quiet (Member member) refl (changed member secret s).actions at)) refl refl;
  over = λ at on next s given b told. told;
}

-- in every run a controller passes an authenticator exactly where it is the next one
pub passes_the_next : (plan : Plan) (moves : List Move) → IsPlainPlan plan → PassesTheNextCredential (past plan moves)
passes_the_next plan moves nothing =
    subst (λ (told : List JudgementTold). AreTheirJudgements told (past plan moves).book.judged) (every_ends_after ToldSoFar told_keeps plan moves nothing (λ on. refl))
    (all_rightly (past plan moves).book.judged (judged_rightly plan moves))
