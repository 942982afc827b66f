-- The accounts of a controller change by the verdicts on the calls that passed there, and by nothing else.
-- It serves `Proved.tables`.
use Rattle.std.proofs.Common.{◌≡◌, ◌==◌, ℕ, Bool, true, false, List, [], ◌∷◌, ◌++◌, Option, Some, None, inl, inr, refl, sym, ap, subst, ◌∙◌, slice_get, slice_set}
use Rattle.std.proofs.lemmas.Bool.{eq-eqb, ne_eqb}
use Rattle.outside.specs.declared.event.Event.TheVariants as event
use Rattle.authenticators.specs.SecureChannels.{SecureChannelState}
use Rattle.account_table.specs.AccountTable.{AccountTable}
use Rattle.domain_controller.specs.State.{State as ControllerState}
use Rattle.domain_controller.specs.Forwarding.{TrustDesk, answer_trust_call, base_desk}
use Rattle.domain_controller.specs.Step.{first_state, step_of}
use Rattle.domain_controller.specs.TrustLaws.{IsForTrust}
use Rattle.domain_controller.specs.TrustStep.{trust_step_of}
use Rattle.domain_controller.proofs.CountLaws.{counts_by_verdict}
use Rattle.domain_controller.proofs.HandOnLaws.{CallGoes, GoesOn, IsLeft as IsLeftHere, StaysHere, call_goes}
use Rattle.controller_calls.specs.Doing.{done_by}
use Rattle.controller_calls.specs.declared.calls.JudgedCall.{JudgedCall}
use Rattle.controller_calls.specs.declared.line.Line.{Line}
use Rattle.controller_calls.proofs.DoneLaws.{does_what_passes}
use Rattle.step_notes.specs.ControllerNotes.{Answered, Where, has_passed}
use Rattle.step_notes.specs.Records.{Book, Judging, computer_named, given_in}
use Rattle.world_moves.specs.declared.moves.Move.{Move}
use Rattle.world_moves.specs.declared.plan.Plan.{Plan}
use Rattle.world_moves.specs.declared.state.State.{State}
use Rattle.world_moves.specs.Ends.{fresh_controller}
use Rattle.world_moves.specs.Plain.{IsPlainPlan, plain_world}
use Rattle.domain_world.specs.Claims.Tables.{AreByEarlier, IsLeft, TablesFollowVerdicts, accounts_after, accounts_if, left_by, left_if, left_on}
use Rattle.domain_world.specs.Past.{Delivery, answers_of, at_controller, judged_of, later_of, note_answers, number_sent, numbers_on, onto, past, with_reply}
use Rattle.step_notes.proofs.Controllers.JudgedStepLaws.{on_next}
use Rattle.domain_world.proofs.Messages.MessageOnceLaws.{each_put}
use Rattle.domain_world.proofs.Frames.AloneNoteLaws.{alone_answers}
use Rattle.domain_world.proofs.Frames.AloneStepLaws.{fresh_by}
use Rattle.domain_world.proofs.Frames.TrustingFrameLaws.{KeepsTrusting, controllers_after}
use Rattle.domain_world.proofs.Moves.NoBytesLaws.{does_nothing_else}
use Rattle.domain_world.proofs.Moves.TrustNoBytesLaws.{hears_no_call}
use Rattle.domain_world.proofs.Frames.ControllerFrameLaws.{ControllersFact, KeepsControllers}
use Rattle.domain_world.proofs.Frames.EndNoteLaws.{judged_so, judgings_of}
use Rattle.domain_world.proofs.Judgements.GrantLaws.{first_planned}
use Rattle.step_notes.proofs.Controllers.NotedLaws.{NotedFact, step_says}
use Rattle.step_notes.proofs.Controllers.TrustNotedLaws.{trust_step_says}
use Rattle.step_notes.proofs.Controllers.TrustedStepLaws.{OfBase, trusted_how, trusting_stays}
use Rattle.domain_world.proofs.Judgements.ChainLaws.{AreChained, Chains, FollowsCalls, FollowsTrusts, IsBy, Ledger, chains_stay, done_or_refused, its_judging, left_behind, left_of, trusting_chains}
use Rattle.domain_world.proofs.Judgements.JudgedLaws.{trusted_judging}

-- ---- the accounts, as calls on channels change them

abbrev accounts : Ledger AccountTable
accounts = record { of = λ d. d.table; before = λ j. j.table; behind = λ j. left_by j }

accounts_follow : FollowsCalls accounts
accounts_follow = record {
  stays = λ table old new same. refl;
  by = λ w line c d. refl;
  leaves = λ w line c d.
      let j : Judging = its_judging w line c d in
      elim (done_or_refused w line c d) [
        | inl done ↦
            done.2.table
            ∙ ap (λ (found : Option SecureChannelState). left_on found j) (sym (on_next (computer_named c) d.work.computers (given_in c) done.0).stands)
            ∙ ap (λ (passed : Bool). left_if passed j) (sym done.1)
        | inr refused ↦ refused.1.table ∙ ap (λ (passed : Bool). left_if passed j) (sym refused.0)
      ];
}

-- what a logon for a trust would come to here leaves the accounts
goes_leaves : (c : JudgedCall) (name : List ℕ) (now : ℕ) (line : Line) (d after : TrustDesk) → IsForTrust c d → CallGoes c name now line d after → after.table ≡ d.table
goes_leaves c name now line d after goes (GoesOn is so) = so.table
goes_leaves c name now line d after goes (IsLeftHere other so) = so.table
goes_leaves c name now line d after goes (StaysHere not is) = absurd (not goes)

done_leaves : (c : JudgedCall) (name : List ℕ) (now : ℕ) (line : Line) (d : TrustDesk) (goes : IsForTrust c d) →
    (done_by c goes.next.channel name d.table now d.work.work.computers.sessions).table ≡ d.table
done_leaves c name now line d goes =
    sym (does_what_passes.passed c name now line (base_desk d) goes.next).table
    ∙ sym (counts_by_verdict.trusting_call c name now line d)
    ∙ goes_leaves c name now line d (answer_trust_call c name now line d) goes (call_goes c name now line d)

accounts_trusting : FollowsTrusts accounts
accounts_trusting = record {
  by = λ w line c d after. refl;
  leaves = λ w line c d after is.
      let j : Judging = trusted_judging w line c d after in
      is.table
      ∙ sym (done_leaves c w.name w.moment line d is.goes)
      ∙ ap (λ (found : Option SecureChannelState). left_on found j) (sym (on_next (computer_named c) d.work.work.computers (given_in c) is.goes.next).stands)
      ∙ ap (λ (passed : Bool). left_if passed j) (sym (ap has_passed (trusted_how c d after is) ∙ is.passed));
}

-- each call of a step is judged by the accounts as those before it left them, and the last ones stand behind it; where
-- the step isn't taken there are none
step_chains : (controller : ℕ) (c : ControllerState) (w : Delivery) (piece : List ℕ) (s : State) →
    Chains accounts (at_controller controller c w s) c.table (answers_of controller c w piece s) (trust_step_of c (event.Bytes w.link piece) s.moment s.chances.left).state.table
step_chains controller c w piece s =
    let at : Where = at_controller controller c w s in
    let Holds : NotedFact = λ answers d left. Chains accounts at c.table answers d.table in
    trust_step_says at w.link c piece s.moment s.chances.left (λ running. OfBase Holds) (λ answers stepped. Chains accounts at c.table answers stepped.state.table) (record {
      stays = λ running. trusting_stays at w.link Holds (trusting_chains accounts accounts_follow at c.table w.link accounts_trusting);
      first = λ running runs. (tt, refl);
      stopped = λ ends. (tt, refl);
      spent = (tt, refl);
      turn = λ running actions last links t runs on all fewer. (tt, refl);
      taken = λ running answers d rest last links dial t runs chains fewer. chains;
    })

-- calls chain at a controller that asks nobody
chains_alone : (controller : ℕ) (c : ControllerState) (w : Delivery) (piece : List ℕ) (s : State) →
    Chains accounts (at_controller controller c w s) c.table (alone_answers controller c w piece s) (step_of c (event.Bytes w.link piece) s.moment s.chances.left).state.table
chains_alone controller c w piece s =
    let at : Where = at_controller controller c w s in
    step_says at w.link c piece s.moment s.chances.left (λ running answers d left. Chains accounts at c.table answers d.table)
    (λ answers stepped. Chains accounts at c.table answers stepped.state.table) (record {
      stays = λ running. chains_stay accounts accounts_follow at c.table w.link;
      first = λ running runs. (tt, refl);
      stopped = λ ends. (tt, refl);
      spent = (tt, refl);
      taken = λ running answers d links rest runs chains. chains;
    })

-- ---- what is written down

own_if : (here : Bool) (j : Judging) (before : AccountTable) → here ≡ true → accounts_if here j before ≡ left_by j
own_if true j before is = refl
own_if false j before is = absurd (let never : false ≡ true = is in cc)

other_if : (here : Bool) (j : Judging) (before : AccountTable) → here ≡ false → accounts_if here j before ≡ before
other_if false j before is = refl
other_if true j before is = absurd (let never : true ≡ false = is in cc)

-- what a call leaves doesn't depend on which unit carries its reply
left_alike : (checks : Option SecureChannelState) (j : Judging) (number : Option ℕ) → left_on checks (record j { reply = number }) ≡ left_on checks j
left_alike None j number = refl
left_alike (Some channel) j number = refl

left_same : (passed : Bool) (j : Judging) (number : Option ℕ) → left_if passed (record j { reply = number }) ≡ left_if passed j
left_same false j number = refl
left_same true j number = left_alike j.checks j number

-- one call more: the accounts of its controller are those that it leaves, and another's are as they were
one_more : (plan : Plan) (j : Judging) (judgings : List Judging) → IsLeft plan j.controller (j ∷ judgings) (left_by j)
one_more plan j judgings planned is = sym (own_if (j.controller == j.controller) j (accounts_after planned j.controller judgings) (eq-eqb j.controller j.controller refl))

one_other : (plan : Plan) (other : ℕ) (j : Judging) (judgings : List Judging) (table : AccountTable) → (j.controller == other) ≡ false → IsLeft plan other judgings table →
    IsLeft plan other (j ∷ judgings) table
one_other plan other j judgings table differs is planned there = is planned there ∙ sym (other_if (j.controller == other) j (accounts_after planned other judgings) differs)

-- what a step of a controller brings, of the accounts before it
record Brings (plan : Plan) (controller : ℕ) (old now : List Judging) (after : AccountTable) : Type 0 where
  pub judged : AreByEarlier plan now
  pub own : IsLeft plan controller now after
  pub others : (other : ℕ) (table : AccountTable) → (controller == other) ≡ false → IsLeft plan other old table → IsLeft plan other now table

module _ (plan : Plan) (w : Where) (after : AccountTable) where
  -- one answer, and those behind it
  one_brings : (found : Option Judging) (number : Option ℕ) (later old : List Judging) (table : AccountTable) → IsBy accounts w table found → AreByEarlier plan old → IsLeft plan w.controller old table →
      ((now : List Judging) → AreByEarlier plan now → IsLeft plan w.controller now (left_of accounts table found) → Brings plan w.controller now (onto later now) after) →
      Brings plan w.controller old (onto (with_reply found number ++ later) old) after
  one_brings None number later old table by all own next = next old all own
  one_brings (Some j) number later old table by all own next =
      let one : Judging = record j { reply = number } in
      let its : IsLeft plan j.controller old j.table = subst (λ (k : ℕ). IsLeft plan k old j.table) (sym by.controller) (subst (λ (t : AccountTable). IsLeft plan w.controller old t) (sym by.by) own) in
      let more : Brings plan w.controller (one ∷ old) (onto later (one ∷ old)) after =
      next (one ∷ old) (its, all) (subst (λ (k : ℕ). IsLeft plan k (one ∷ old) (left_by j)) by.controller
      (subst (λ (t : AccountTable). IsLeft plan j.controller (one ∷ old) t) (left_same (has_passed j.how) j number) (one_more plan one old))) in
      record {
        judged = more.judged;
        own = more.own;
        others = λ other t differs is. more.others other t differs (one_other plan other one old t (ap (λ (k : ℕ). k == other) by.controller ∙ differs) is);
      }

answers_bring : (plan : Plan) (w : Where) (answers : List Answered) (numbers : List ℕ) (old : List Judging) (table : AccountTable) → AreChained accounts w table answers → AreByEarlier plan old →
    IsLeft plan w.controller old table → Brings plan w.controller old (onto (judged_of answers numbers) old) (left_behind accounts table answers)
answers_bring plan w [] numbers old table chained all own = record { judged = all; own = own; others = λ other t differs is. is }
answers_bring plan w (one ∷ answers) numbers old table chained all own =
    one_brings plan w (left_behind accounts (left_of accounts table one.judging) answers) one.judging (number_sent one.sends numbers) (judged_of answers (later_of one.sends numbers)) old table chained.0 all own
    (λ now each its. answers_bring plan w answers (later_of one.sends numbers) now (left_of accounts table one.judging) chained.1 each its)

-- ---- through the moves

pub record Stand (plan : Plan) (judgings : List Judging) (controllers : List ControllerState) : Type 0 where
  pub judged : AreByEarlier plan judgings
  pub each : (at : ℕ) (c : ControllerState) → slice_get controllers at ≡ Some c → IsLeft plan at judgings c.table

abbrev pub TablesStand : Plan → List Judging → ControllersFact
TablesStand plan judgings controllers chances = Stand plan judgings controllers

-- a controller with the same accounts is put in its place
same_put : (plan : Plan) (judgings : List Judging) (controllers : List ControllerState) (at : ℕ) (c new : ControllerState) → slice_get controllers at ≡ Some c → new.table ≡ c.table →
    Stand plan judgings controllers → Stand plan judgings (slice_set controllers at new)
same_put plan judgings controllers at c new there same stands = record {
  judged = stands.judged;
  each = each_put (λ (k : ℕ) (x : ControllerState). IsLeft plan k judgings x.table) controllers at new (λ k x differs its. stands.each k x its)
      (subst (λ (t : AccountTable). IsLeft plan at judgings t) (sym same) (stands.each at c there));
}

-- bytes come at a controller, which answers so
controller_comes : (c new : ControllerState) (plan : Plan) (at : ℕ) (w : Delivery) (answers : List Answered) (s after : State) (b : Book) → slice_get s.ends.controllers at ≡ Some c →
    Chains accounts (at_controller at c w s) c.table answers new.table → Stand plan b.judged s.ends.controllers →
    Stand plan (note_answers answers w s after b).judged (slice_set s.ends.controllers at new)
controller_comes c new plan at w answers s after b is steps stands =
    let now : List Judging = (note_answers answers w s after b).judged in
    let brings : Brings plan at b.judged now (left_behind accounts c.table answers) =
    answers_bring plan (at_controller at c w s) answers (numbers_on w.link true s.bag after.bag) b.judged c.table steps.0 stands.judged (stands.each at c is) in
    record {
      judged = brings.judged;
      each = each_put (λ (k : ℕ) (x : ControllerState). IsLeft plan k now x.table) s.ends.controllers at new
          (λ k x differs there. brings.others k x.table (ne_eqb at k (λ same. differs (sym same))) (stands.each k x there))
          (subst (λ (t : AccountTable). IsLeft plan at now t) (sym steps.1) brings.own);
    }

-- where nobody is asked
pub stand_on : (plan : Plan) → KeepsControllers judgings_of (TablesStand plan)
stand_on plan = record {
  of = judged_so;
  given = λ at given after b. refl;
  draws = λ judgings controllers chances later on stands. stands;
  hears = λ judgings c at what now controllers chances none is stands.
      same_put plan judgings controllers at c (step_of c what now chances.left).state is (does_nothing_else c what now chances.left none).table stands;
  comes = λ c at w piece s after b is stands.
      controller_comes c (step_of c (event.Bytes w.link piece) s.moment s.chances.left).state plan at w (alone_answers at c w piece s) s after b is (chains_alone at c w piece s) stands;
  anew = λ judgings c at controllers chances is stands. same_put plan judgings controllers at c (first_state c.table c.name) is refl stands;
}

-- in every world
stand_trusting : (plan : Plan) → KeepsTrusting judgings_of (TablesStand plan)
stand_trusting plan = record {
  of = judged_so;
  given = λ at given after b. refl;
  draws = λ judgings controllers chances later on stands. stands;
  hears = λ judgings c at what now controllers chances none is stands.
      same_put plan judgings controllers at c (trust_step_of c what now chances.left).state is (hears_no_call c what now chances.left none).table stands;
  comes = λ c at w piece s after b is stands.
      controller_comes c (trust_step_of c (event.Bytes w.link piece) s.moment s.chances.left).state plan at w (answers_of at c w piece s) s after b is (step_chains at c w piece s) stands;
  anew = λ judgings c at hands_on controllers chances is stands.
      same_put plan judgings controllers at c (fresh_controller hands_on false c.table c.name) is
      (fresh_by (λ (new : ControllerState). new.table ≡ c.table) c.table c.name refl refl hands_on) stands;
}

-- ---- at first

one_table : (one other : AccountTable) → Some one ≡ Some other → one ≡ other
one_table one other is = cc

pub first_stands : (plan : Plan) → Stand plan [] (plain_world plan).state.ends.controllers
first_stands plan = record {
  judged = tt;
  each = λ at c there planned is. one_table c.table planned (sym (first_planned plan.hands_on plan.tables plan.controllers at c there).0 ∙ is);
}

-- in every run accounts change by verdicts alone
pub tables_follow : (plan : Plan) (moves : List Move) → IsPlainPlan plan → TablesFollowVerdicts (past plan moves)
tables_follow plan moves nothing =
    let stands : Stand plan (past plan moves).book.judged (past plan moves).world.state.ends.controllers =
    controllers_after judgings_of (TablesStand plan) (stand_trusting plan) plan moves nothing (first_stands plan) in
    record { judged = stands.judged; stands = stands.each }
