-- In every run each channel that a controller keeps, or on which a call was checked, has the type that its opening
-- named, and a call that was handed on passed on a channel of a type that hands on. It serves `Proved.kinds`.
use Rattle.std.proofs.Common.{◌≡◌, ◌≢◌, ℕ, true, false, List, [], ◌∷◌, Option, Some, None, refl, sym, ap, ap₂, subst, ◌∙◌, slice_get, slice_set}
use Rattle.std.specs.List.{AllByRecursion}
use Rattle.wire_base.specs.Lists.{OneOf}
use Rattle.wire_base.proofs.ListLaws.{all_weaker, no_some, one_weaker}
use Rattle.authenticators.specs.SecureChannels.{SecureChannelState, channel_of}
use Rattle.outside.specs.declared.action.Judged.{Judged}
use Rattle.outside.specs.declared.action.Judged.TheVariants as judged
use Rattle.outside.specs.declared.event.Event.TheVariants as event
use Rattle.account_table.specs.AccountTable.{AccountTable}
use Rattle.controller_calls.specs.Handing.{hands_on}
use Rattle.controller_calls.specs.declared.calls.JudgedCall.{JudgedCall}
use Rattle.controller_calls.specs.declared.line.Line.{Line}
use Rattle.domain_controller.specs.Forwarding.{TrustDesk}
use Rattle.domain_controller.specs.Machine.{Desk, answer_judged}
use Rattle.domain_controller.specs.State.{State as ControllerState}
use Rattle.domain_controller.specs.TrustStep.{trust_step_of}
use Rattle.domain_controller.specs.declared.state.Running.{Running}
use Rattle.step_notes.specs.ControllerNotes.{Answered, Where, channel_in, has_passed, identity_by, judging_of}
use Rattle.step_notes.specs.Judged.{IsNextOn, channel_if}
use Rattle.step_notes.specs.Records.{Book, ChannelAccepted, Judging, computer_named, given_in}
use Rattle.step_notes.proofs.Controllers.JudgedStepLaws.{on_next}
use Rattle.step_notes.proofs.Controllers.TrustNotedLaws.{trust_step_says}
use Rattle.step_notes.proofs.Controllers.TrustedStepLaws.{IsTrusted, OfBase, trusting_stays}
use Rattle.world_moves.specs.declared.links.EndId.{EndId}
use Rattle.world_moves.specs.declared.moves.Move.{Move}
use Rattle.world_moves.specs.declared.plan.Plan.{Plan}
use Rattle.world_moves.specs.declared.state.State.{State}
use Rattle.world_moves.specs.Ends.{fresh_controller}
use Rattle.world_moves.specs.Plain.{IsPlainPlan, plain_world}
use Rattle.domain_world.specs.Claims.ChannelKinds.{IsAsOpened, IsCheckedAsOpened, IsHandedOnBy, IsLastOpened, KindsFollowOpenings}
use Rattle.domain_world.specs.Claims.Openings.{last_accepted}
use Rattle.domain_world.specs.Past.{Delivery, accepted_of, answers_of, at_controller, judged_of, note_at, note_controller, numbers_on, onto, past}
use Rattle.domain_world.proofs.Frames.AloneStepLaws.{fresh_by}
use Rattle.domain_world.proofs.Frames.BookFrameLaws.{book_holds}
use Rattle.domain_world.proofs.Frames.ControllerFrameLaws.{ControllersFact}
use Rattle.domain_world.proofs.Frames.EndNoteLaws.{OfControllers, accepted_so, judged_so}
use Rattle.domain_world.proofs.Frames.EveryStepLaws.{every_book as book_by}
use Rattle.domain_world.proofs.Frames.TrustingFrameLaws.{KeepsTrusting, controllers_after}
use Rattle.domain_world.proofs.Judgements.GrantLaws.{call_status}
use Rattle.domain_world.proofs.Judgements.JudgedLaws.{HoldsIf, HoldsOfEach, calls_right, each_of_step, judged_hold, onto_hold, trusted_judging}
use Rattle.domain_world.proofs.Judgements.Openings.OpeningKindLaws.{AreAsOpened, GoesOn, goes_trusting}
use Rattle.domain_world.proofs.Judgements.Openings.OpeningRunLaws.{each_fresh}
use Rattle.domain_world.proofs.Judgements.ReplyLaws.{one_older}
use Rattle.domain_world.proofs.Messages.MessageOnceLaws.{each_put}
use Rattle.domain_world.proofs.Moves.TrustNoBytesLaws.{KeepsUnlessEnded, hears_no_call}

-- ---- a step of a controller

-- unless it stopped, the controller keeps channels as they were opened
abbrev AreAsOpenedIf : (accepted : List ChannelAccepted) (controller : ℕ) (running : Option Running) → Type 0
AreAsOpenedIf accepted controller None = Unit {0}
AreAsOpenedIf accepted controller (Some running) = AreAsOpened accepted controller running.computers

record StepKinds (accepted now : List ChannelAccepted) (controller : ℕ) (answers : List Answered) (running : Option Running) : Type 0 where
  kept : AreAsOpenedIf now controller running
  each : AllByRecursion (λ (one : Answered). HoldsIf (IsCheckedAsOpened now) one.judging) answers
  others : (at : ℕ) (name : List ℕ) → at ≢ controller → last_accepted at name now ≡ last_accepted at name accepted

-- `StepKinds` holds where nothing is answered
nothing_more : (accepted : List ChannelAccepted) (controller : ℕ) (running : Option Running) → AreAsOpenedIf accepted controller running → StepKinds accepted accepted controller [] running
nothing_more accepted controller running kept = record { kept = kept; each = tt; others = λ at name differs. refl }

step_kinds : (controller : ℕ) (c : ControllerState) (accepted : List ChannelAccepted) (w : Delivery) (piece : List ℕ) (s : State) (numbers : List ℕ) → AreAsOpenedIf accepted controller c.running →
    let answers : List Answered = answers_of controller c w piece s in
    StepKinds accepted (onto (accepted_of answers numbers) accepted) controller answers (trust_step_of c (event.Bytes w.link piece) s.moment s.chances.left).state.running
step_kinds controller c accepted w piece s numbers kept =
    let at : Where = at_controller controller c w s in
    let kept_at : (running : Running) → c.running ≡ Some running → AreAsOpened accepted controller running.computers =
    λ running runs. subst (λ (r : Option Running). AreAsOpenedIf accepted controller r) runs kept in
    trust_step_says at w.link c piece s.moment s.chances.left (λ running. OfBase (GoesOn at accepted numbers))
    (λ answers stepped. StepKinds accepted (onto (accepted_of answers numbers) accepted) controller answers stepped.state.running) (record {
      stays = λ running. trusting_stays at w.link (GoesOn at accepted numbers) (goes_trusting at accepted numbers w.link);
      first = λ running runs. record { kept = kept_at running runs; each = tt; others = λ other name differs. refl };
      stopped = λ ends. nothing_more accepted controller c.running kept;
      spent = nothing_more accepted controller None tt;
      turn = λ running actions last links t runs on all fewer.
          nothing_more accepted controller (Some (record { computers = running.computers; links = links })) (kept_at running runs);
      taken = λ running answers d rest last links dial t runs goes fewer. record { kept = goes.kept; each = goes.each; others = goes.others };
    })

-- ---- through the moves

-- the channels that controllers keep, and those on which calls were checked, are as they were opened
record KindsStand (accepted : List ChannelAccepted) (judgings : List Judging) (controllers : List ControllerState) : Type 0 where
  each : (at : ℕ) (c : ControllerState) → slice_get controllers at ≡ Some c → AreAsOpenedIf accepted at c.running
  checked : AllByRecursion (IsCheckedAsOpened accepted) judgings

abbrev Kinds : Type 0
Kinds = List ChannelAccepted × List Judging

abbrev kinds_of : Book → Kinds
kinds_of b = (b.accepted, b.judged)

kinds_so : OfControllers kinds_of
kinds_so = record {
  members = λ m at w piece s after b.
      ap₂ (λ (accepted : List ChannelAccepted) (judgings : List Judging). (accepted, judgings)) (accepted_so.members m at w piece s after b) (judged_so.members m at w piece s after b);
  clients = λ c at w piece s b. refl;
}

abbrev Stand : Kinds → ControllersFact
Stand kinds controllers chances = KindsStand kinds.0 kinds.1 controllers

-- `KindsStand` stays where a controller that keeps channels as they were opened is put in its place
put_stands : (accepted : List ChannelAccepted) (judgings : List Judging) (controllers : List ControllerState) (at : ℕ) (new : ControllerState) → AreAsOpenedIf accepted at new.running →
    KindsStand accepted judgings controllers → KindsStand accepted judgings (slice_set controllers at new)
put_stands accepted judgings controllers at new kept stands = record {
  each = each_put (λ (k : ℕ) (x : ControllerState). AreAsOpenedIf accepted k x.running) controllers at new (λ k x differs there. stands.each k x there) kept;
  checked = stands.checked;
}

-- channels are kept as they were opened where what is kept of computers stays, unless the controller stops
ended_keeps : (after before : Option Running) (accepted : List ChannelAccepted) (controller : ℕ) → KeepsUnlessEnded after before → AreAsOpenedIf accepted controller before →
    AreAsOpenedIf accepted controller after
ended_keeps None before accepted controller same kept = tt
ended_keeps (Some after) None accepted controller same kept = absurd same
ended_keeps (Some after) (Some before) accepted controller same kept = subst (λ computers. AreAsOpened accepted controller computers) (sym same) kept

-- another controller keeps channels as they were opened, where its last openings are those of before
others_keep : (running : Option Running) (accepted now : List ChannelAccepted) (controller : ℕ) → ((name : List ℕ) → last_accepted controller name now ≡ last_accepted controller name accepted) →
    AreAsOpenedIf accepted controller running → AreAsOpenedIf now controller running
others_keep None accepted now controller same kept = tt
others_keep (Some running) accepted now controller same kept = λ name has at.
    let its : IsLastOpened controller name has accepted = kept name has at in
    record { one = its.one; last = same name ∙ its.last; is = its.is }

bytes_stand : (c : ControllerState) (at : ℕ) (w : Delivery) (piece : List ℕ) (s after : State) (b : Book) → slice_get s.ends.controllers at ≡ Some c → KindsStand b.accepted b.judged s.ends.controllers →
    let now : Book = note_controller (Some c) at w piece s after b in
    KindsStand now.accepted now.judged (slice_set s.ends.controllers at (trust_step_of c (event.Bytes w.link piece) s.moment s.chances.left).state)
bytes_stand c at w piece s after b is stands =
    let answers : List Answered = answers_of at c w piece s in
    let numbers : List ℕ = numbers_on w.link true s.bag after.bag in
    let more : List ChannelAccepted = accepted_of answers numbers in
    let now : List ChannelAccepted = onto more b.accepted in
    let new : ControllerState = (trust_step_of c (event.Bytes w.link piece) s.moment s.chances.left).state in
    let goes : StepKinds b.accepted now at answers new.running = step_kinds at c b.accepted w piece s numbers (stands.each at c is) in
    record {
      each = each_put (λ (k : ℕ) (x : ControllerState). AreAsOpenedIf now k x.running) s.ends.controllers at new
          (λ k x differs there. others_keep x.running b.accepted now k (λ name. goes.others k name differs) (stands.each k x there)) goes.kept;
      checked = onto_hold (IsCheckedAsOpened now) (judged_of answers numbers) b.judged (judged_hold (IsCheckedAsOpened now) (λ j number holds. holds) answers numbers goes.each)
          (all_weaker (IsCheckedAsOpened b.accepted) (IsCheckedAsOpened now) b.judged
          (λ j checked computer has named there. one_older (IsAsOpened j.controller computer has) more b.accepted (checked computer has named there)) stands.checked);
    }

-- `AreAsOpened` holds where no channel is kept
fresh_keeps : (accepted : List ChannelAccepted) (controller : ℕ) → AreAsOpened accepted controller (record { pending = []; channels = []; sessions = [] })
fresh_keeps accepted controller name has at = absurd (no_some has at)

stand_on : KeepsTrusting kinds_of Stand
stand_on = record {
  of = kinds_so;
  given = λ at given after b. refl;
  draws = λ kinds controllers chances later on stands. stands;
  hears = λ kinds c at what now controllers chances none is stands.
      let new : ControllerState = (trust_step_of c what now chances.left).state in
      put_stands kinds.0 kinds.1 controllers at new (ended_keeps new.running c.running kinds.0 at (hears_no_call c what now chances.left none).keeps (stands.each at c is)) stands;
  comes = λ c at w piece s after b is stands. bytes_stand c at w piece s after b is stands;
  anew = λ kinds c at hands_on controllers chances is stands.
      put_stands kinds.0 kinds.1 controllers at (fresh_controller hands_on false c.table c.name)
      (fresh_by (λ (new : ControllerState). AreAsOpenedIf kinds.0 at new.running) c.table c.name (fresh_keeps kinds.0 at) (fresh_keeps kinds.0 at) hands_on) stands;
}

first_stands : (plan : Plan) → KindsStand [] [] (plain_world plan).state.ends.controllers
first_stands plan = record {
  each = λ at c there.
      each_fresh (λ (x : ControllerState). AreAsOpenedIf [] at x.running) (λ table name. fresh_keeps [] at) (λ table name. fresh_keeps [] at) plan.hands_on plan.tables plan.controllers at c there;
  checked = tt;
}

kinds_stand : (plan : Plan) (moves : List Move) → IsPlainPlan plan → KindsStand (past plan moves).book.accepted (past plan moves).book.judged (past plan moves).world.state.ends.controllers
kinds_stand plan moves nothing = controllers_after kinds_of Stand stand_on plan moves nothing (first_stands plan)

-- ---- a call that is handed on

-- the call is checked on a channel of a type that hands on
record IsHandedFrom (j : Judging) : Type 0 where
  computer : List ℕ
  has : SecureChannelState
  named : computer_named j.asked ≡ Some computer
  checks : j.checks ≡ Some has
  hands : hands_on has.kind ≡ true

abbrev IsHandedSo : Judging → Type 0
IsHandedSo j = j.how ≡ Some judged.Forwarded → IsHandedFrom j

abbrev AnyTable : AccountTable → Type 0
AnyTable table = Unit {0}

-- a call that is judged here isn't handed on
never_handed : (w : Where) (line : Line) (c : JudgedCall) (d : Desk) → IsHandedSo (judging_of w line c d (Some (answer_judged c w.name w.moment line d)))
never_handed w line c d forwarded =
    let j : Judging = judging_of w line c d (Some (answer_judged c w.name w.moment line d)) in
    let passed : has_passed j.how ≡ true = ap has_passed forwarded in
    let next : IsNextOn j.checks (given_in c) = (calls_right w d line c).right.passed.0 passed in
    absurd (let both = sym (call_status w line c d next.channel next.stands passed) ∙ forwarded in cc)

trusted_handed : (w : Where) (line : Line) (c : JudgedCall) (d after : TrustDesk) → IsTrusted c d after → IsHandedSo (trusted_judging w line c d after)
trusted_handed w line c d after is forwarded = record {
  computer = is.goes.next.computer;
  has = is.goes.next.channel;
  named = is.goes.next.named;
  checks = (on_next (computer_named c) d.work.work.computers (given_in c) is.goes.next).stands;
  hands = is.goes.hands;
}

each_handed : (w : Where) → HoldsOfEach w AnyTable IsHandedSo
each_handed w = record {
  judged = λ line c d known. (tt, never_handed w line c d);
  trusted = λ line c d after is known. trusted_handed w line c d after is;
}

-- `IsHandedSo` stays whichever unit carries the reply
by_reply : (j : Judging) (number : Option ℕ) → IsHandedSo j → IsHandedSo (record j { reply = number })
by_reply j number so forwarded =
    let from : IsHandedFrom j = so forwarded in record { computer = from.computer; has = from.has; named = from.named; checks = from.checks; hands = from.hands }

abbrev AreHandedSo : Book → Type 0
AreHandedSo b = AllByRecursion IsHandedSo b.judged

controller_handed : (c : ControllerState) (controller : ℕ) (w : Delivery) (piece : List ℕ) (s after : State) (b : Book) → AreHandedSo b → AreHandedSo (note_controller (Some c) controller w piece s after b)
controller_handed c controller w piece s after b was =
    let answers : List Answered = answers_of controller c w piece s in
    let numbers : List ℕ = numbers_on w.link true s.bag after.bag in
    onto_hold IsHandedSo (judged_of answers numbers) b.judged
    (judged_hold IsHandedSo by_reply answers numbers (each_of_step AnyTable IsHandedSo controller c w piece s (each_handed (at_controller controller c w s)) tt))
    was

end_handed : (end : EndId) (w : Delivery) (piece : List ℕ) (s after : State) (b : Book) → AreHandedSo b → AreHandedSo (note_at (Some end) w piece s after b)
end_handed end w piece s after b was =
    book_by (λ (one : EndId) (now : Book). AreHandedSo now) w piece s after b (λ one. was) (λ at c is. controller_handed c at w piece s after b was)
    (λ at m is. subst (λ (judgings : List Judging). AllByRecursion IsHandedSo judgings) (sym (judged_so.members m at w piece s after b)) was) (λ at c is. was) end

handed_so : (plan : Plan) (moves : List Move) → AreHandedSo (past plan moves).book
handed_so plan moves = book_holds AreHandedSo end_handed (λ at given after b was. was) plan moves tt

-- ---- in every run

-- a call was handed on by the opening of the channel on which it is checked
handed_by : (accepted : List ChannelAccepted) (j : Judging) → IsHandedSo j → IsCheckedAsOpened accepted j → j.how ≡ Some judged.Forwarded → OneOf (IsHandedOnBy j) accepted
handed_by accepted j so checked forwarded =
    let from : IsHandedFrom j = so forwarded in
    one_weaker (IsAsOpened j.controller from.computer from.has) (IsHandedOnBy j) accepted
    (λ one is. record {
      channel = channel_of j.controller from.computer from.has;
      passed = ap (λ (how : Option Judged). channel_if (has_passed how) j) forwarded
          ∙ ap (λ (name : Option (List ℕ)). channel_in j.controller name j.checks) from.named
          ∙ ap (identity_by j.controller from.computer) from.checks;
      same = is.same;
      hands = ap hands_on (sym is.kind_is) ∙ from.hands;
    }) (checked from.computer from.has from.named from.checks)

all_handed : (accepted : List ChannelAccepted) (judgings : List Judging) → AllByRecursion IsHandedSo judgings → AllByRecursion (IsCheckedAsOpened accepted) judgings →
    AllByRecursion (λ (j : Judging). j.how ≡ Some judged.Forwarded → OneOf (IsHandedOnBy j) accepted) judgings
all_handed accepted [] so checked = tt
all_handed accepted (j ∷ judgings) so checked = (handed_by accepted j so.0 checked.0, all_handed accepted judgings so.1 checked.1)

pub kinds_follow : (plan : Plan) (moves : List Move) → IsPlainPlan plan → KindsFollowOpenings (past plan moves)
kinds_follow plan moves nothing =
    let accepted : List ChannelAccepted = (past plan moves).book.accepted in
    let stands : KindsStand accepted (past plan moves).book.judged (past plan moves).world.state.ends.controllers = kinds_stand plan moves nothing in
    record {
      kept = λ controller computer has at.
          let own : AreAsOpened accepted controller at.running.computers = subst (λ (r : Option Running). AreAsOpenedIf accepted controller r) at.runs (stands.each controller at.state at.at) in
          own computer has at.keeps;
      checked = stands.checked;
      handed = all_handed accepted (past plan moves).book.judged (handed_so plan moves) stands.checked;
    }
