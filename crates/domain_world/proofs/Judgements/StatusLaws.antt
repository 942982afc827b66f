-- In every run of a plain plan a call that passed is told with the status of what it comes to, where no other
-- controller is asked for it; a logon for a trusted domain is told as handed on, or as passed with NO_LOGON_SERVERS. It
-- serves `Proved.statuses`.
use Rattle.std.proofs.Common.{◌≡◌, ◌<◌, ◌||◌, ℕ, zero, suc, Bool, true, false, List, [], ◌∷◌, ◌++◌, drop, length, Option, Some, inl, inr, slice_get, refl, sym, ap, ◌∙◌, subst, arith}
use Rattle.std.specs.List.{AllByRecursion}
use Rattle.wire_base.proofs.AllLaws.{all_join}
use Rattle.wire_base.proofs.ListLaws.{all_weaker, some_is}
use Rattle.authenticators.specs.SecureChannels.{SecureChannelState}
use Rattle.account_table.specs.AccountTable.{AccountTable}
use Rattle.account_table.specs.declared.account.Trust.{Trust}
use Rattle.outside.specs.declared.action.Action.{Action}
use Rattle.outside.specs.declared.action.Action.TheVariants as action
use Rattle.outside.specs.declared.action.Judged.{Judged}
use Rattle.outside.specs.declared.action.Judged.TheVariants as judged
use Rattle.outside.specs.declared.event.Event.{Event}
use Rattle.outside.specs.declared.event.Event.TheVariants as event
use Rattle.logon_stubs.specs.Status.{no_logon_servers}
use Rattle.controller_calls.specs.Asking.{answer_judged}
use Rattle.controller_calls.specs.Calls.{computer_named, given_in}
use Rattle.controller_calls.specs.Handing.{hands_on}
use Rattle.controller_calls.specs.Passing.{IsNext}
use Rattle.controller_calls.specs.declared.calls.JudgedCall.{JudgedCall}
use Rattle.controller_calls.specs.declared.line.Line.{Line}
use Rattle.domain_controller.specs.Forwarding.{TrustDesk, answer_trust_call, base_desk, with_queues}
use Rattle.domain_controller.specs.State.{State as ControllerState}
use Rattle.domain_controller.specs.TrustLaws.{IsForTrust}
use Rattle.domain_controller.specs.TrustStep.{trust_step_of}
use Rattle.domain_controller.proofs.HandOnLaws.{CallGoes, GoesOn, IsLeft, StaysHere, call_goes}
use Rattle.step_notes.specs.ControllerNotes.{Answered, Where, checked_on, judged_in, opened_by, opening, plain, silent}
use Rattle.step_notes.specs.Judged.{IsNextOn}
use Rattle.step_notes.specs.Records.{Book, Judging}
use Rattle.step_notes.specs.TrustNotes.{trust_judged_answer}
use Rattle.step_notes.proofs.Controllers.JudgedStepLaws.{dropped, next_of}
use Rattle.step_notes.proofs.Controllers.TrustNotedLaws.{TrustNotedFact, TrustStaysThrough, trust_step_says}
use Rattle.world_moves.specs.declared.links.EndId.{EndId}
use Rattle.world_moves.specs.declared.moves.Move.{Move}
use Rattle.world_moves.specs.declared.plan.Plan.{Plan}
use Rattle.world_moves.specs.declared.state.State.{State}
use Rattle.world_moves.specs.Acting.{forget}
use Rattle.world_moves.specs.Ends.{EndStates, EndStep, fresh_controller}
use Rattle.world_moves.specs.Links.{acceptor_of}
use Rattle.world_moves.specs.Moving.{with_link}
use Rattle.world_moves.specs.Plain.{IsPlainPlan, hear_plain as hear, renew_plain}
use Rattle.world_moves.specs.World.{first_controllers}
use Rattle.world_moves.proofs.AloneLaws.{alone_if}
use Rattle.world_moves.proofs.ChangeLaws.{by_change}
use Rattle.world_moves.proofs.PlainKindLaws.{plain_by as step_by, renew_plain_by as renew_by}
use Rattle.world_moves.proofs.PlainLaws.{put_each}
use Rattle.domain_world.specs.Claims.Statuses.{IsForTrusted, IsToldAs, IsToldRightly, StatusesAreTold, TellsItsStatus}
use Rattle.domain_world.specs.Past.{Delivery, answers_of, at_controller, judged_of, note_at, numbers_on, past}
use Rattle.domain_world.proofs.Frames.EndNoteLaws.{judged_so}
use Rattle.domain_world.proofs.Frames.EveryStepLaws.{act_plain, every_book}
use Rattle.domain_world.proofs.Frames.MoveFrameLaws.{HoldsAfterMoves}
use Rattle.domain_world.proofs.Frames.MoveKeepLaws.{KeepsMovesBy, MoveFact, NoSide, every}
use Rattle.domain_world.proofs.Frames.PlainFrameLaws.{moves_keep_plain}
use Rattle.domain_world.proofs.Judgements.AskedTrustLaws.{AsksEach, call_many, fresh_asks, step_asks, trust_below}
use Rattle.domain_world.proofs.Judgements.GrantLaws.{call_status, each_status}
use Rattle.domain_world.proofs.Judgements.JudgedLaws.{HoldsIf, by_holds, calls_right, judged_hold, onto_hold, opening_holds, trusted_judging}
use Rattle.domain_world.proofs.Judgements.TrustGrantLaws.{call_differs}

-- ---- a call

checked : (c : JudgedCall) (d : TrustDesk) (next : IsNext d.work.work.computers (computer_named c) (given_in c)) (channel : SecureChannelState) →
    checked_on (computer_named c) d.work.work.computers ≡ Some channel → next.channel ≡ channel
checked c d next channel stands =
    some_is next.channel channel (sym (ap (λ (name : Option (List ℕ)). checked_on name d.work.work.computers) next.named ∙ next.stands) ∙ stands)

-- a judgement that is told first behind the earlier actions is the one that is read off them
told_first : (old all : List Action) (how : Judged) (new : List Action) → all ≡ old ++ action.Judged how ∷ new → judged_in (drop (length old) all) ≡ Some how
told_first old all how new is = ap (λ (actions : List Action). judged_in (drop (length old) actions)) is ∙ ap judged_in (dropped old (action.Judged how ∷ new))

there_is : {T : Type 0} (items : List T) (at : ℕ) → at < length items → (item : T) × (slice_get items at ≡ Some item)
there_is [] at below = absurd (omega (arith, below))
there_is (item ∷ items) zero below = (item, refl)
there_is (item ∷ items) (suc at) below = there_is items at (omega (arith, below))

-- a logon for a trust (`IsForTrust`) is written down as one for a trusted domain (`IsForTrusted`)
trusted_so : (plan : Plan) (w : Where) (line : Line) (c : JudgedCall) (d after : TrustDesk) (goes : IsForTrust c d) (channel : SecureChannelState) → (plan.seals || plan.hands_on) ≡ true →
    checked_on (computer_named c) d.work.work.computers ≡ Some channel → IsForTrusted plan (trusted_judging w line c d after) channel
trusted_so plan w line c d after goes channel hands stands = record {
  hands = hands;
  kind = ap (λ (one : SecureChannelState). hands_on one.kind) (sym (checked c d goes.next channel stands)) ∙ goes.hands;
  info = goes.info;
  validation = goes.validation;
  asks = goes.asks;
  level = goes.level;
  trust = goes.trust;
  routed = goes.routed;
}

-- a call that is written down as one for a trusted domain is a logon for a trust, where each domain that the table
-- trusts can be asked
goes_so : (plan : Plan) (w : Where) (line : Line) (c : JudgedCall) (d after : TrustDesk) (channel : SecureChannelState) → length d.work.queues.requesters ≡ length d.table.trusts →
    IsNextOn (checked_on (computer_named c) d.work.work.computers) (given_in c) → checked_on (computer_named c) d.work.work.computers ≡ Some channel →
    IsForTrusted plan (trusted_judging w line c d after) channel → IsForTrust c d
goes_so plan w line c d after channel many on stands is =
    let next : IsNext d.work.work.computers (computer_named c) (given_in c) = next_of (computer_named c) d.work.work.computers (given_in c) on in
    let below : is.trust < length d.table.trusts = trust_below d.table is.info.domain is.trust is.routed in
    let found = there_is d.work.queues.requesters is.trust (omega (arith, below, many)) in
    record {
      next = next;
      info = is.info;
      validation = is.validation;
      asks = is.asks;
      hands = ap (λ (one : SecureChannelState). hands_on one.kind) (checked c d next channel stands) ∙ is.kind;
      level = is.level;
      trust = is.trust;
      routed = is.routed;
      requester = found.0;
      at = found.1;
    }

told_so : (plan : Plan) → (plan.seals || plan.hands_on) ≡ true → (w : Where) (line : Line) (c : JudgedCall) (d after : TrustDesk) → length d.work.queues.requesters ≡ length d.table.trusts →
    CallGoes c w.name w.moment line d after → IsToldRightly plan (trusted_judging w line c d after)
told_so plan hands w line c d after many (GoesOn is so) = λ channel stands passed. record {
  here = λ not. absurd (not (trusted_so plan w line c d after is.goes channel hands stands));
  elsewhere = λ for. inl (told_first d.work.work.actions after.work.work.actions judged.Forwarded [] so.actions);
}
told_so plan hands w line c d after many (IsLeft goes so) = λ channel stands passed. record {
  here = λ not. absurd (not (trusted_so plan w line c d after goes channel hands stands));
  elsewhere = λ for. inr (told_first d.work.work.actions after.work.work.actions (judged.Passed no_logon_servers) _ so.actions);
}
told_so plan hands w line c d after many (StaysHere not is) =
    subst (λ (other : TrustDesk). IsToldRightly plan (trusted_judging w line c d other)) (sym is)
    (λ channel stands passed. record {
      here = λ none. call_status w line c (base_desk d) channel stands passed;
      elsewhere = λ for.
          absurd (not (goes_so plan w line c d (with_queues d.work.queues (answer_judged c w.name w.moment line (base_desk d))) channel many ((calls_right w (base_desk d) line c).right.passed.0 passed) stands for));
    })

by_reply : (plan : Plan) (j : Judging) (number : Option ℕ) → IsToldRightly plan j → IsToldRightly plan (record j { reply = number })
by_reply plan j number told channel stands passed =
    let is : IsToldAs plan j channel = told channel stands passed in
    record {
      here = λ none. is.here (λ for. none (record {
        hands = for.hands;
        kind = for.kind;
        info = for.info;
        validation = for.validation;
        asks = for.asks;
        level = for.level;
        trust = for.trust;
        routed = for.routed;
      }));
      elsewhere = λ for. is.elsewhere (record {
        hands = for.hands;
        kind = for.kind;
        info = for.info;
        validation = for.validation;
        asks = for.asks;
        level = for.level;
        trust = for.trust;
        routed = for.routed;
      });
    }

-- ---- the units of a step

module _ (plan : Plan) (hands : (plan.seals || plan.hands_on) ≡ true) where
  abbrev AreToldSo : List Answered → Type 0
  AreToldSo answers = AllByRecursion (λ (one : Answered). HoldsIf (IsToldRightly plan) one.judging) answers

  abbrev Told : TrustNotedFact
  Told answers d left = (length d.work.queues.requesters ≡ length d.table.trusts) × AreToldSo answers

  one_more : (answers : List Answered) (one : Answered) → AreToldSo answers → HoldsIf (IsToldRightly plan) one.judging → AreToldSo (answers ++ one ∷ [])
  one_more answers one each holds = all_join (λ (other : Answered). HoldsIf (IsToldRightly plan) other.judging) answers (one ∷ []) each (holds, tt)

  call_trusts : (c : JudgedCall) (name : List ℕ) (now : ℕ) (line : Line) (d after : TrustDesk) → CallGoes c name now line d after → after.table.trusts ≡ d.table.trusts
  call_trusts c name now line d after (GoesOn is so) = ap (λ (table : AccountTable). table.trusts) so.table
  call_trusts c name now line d after (IsLeft goes so) = ap (λ (table : AccountTable). table.trusts) so.table
  call_trusts c name now line d after (StaysHere not is) =
      ap (λ (other : TrustDesk). other.table.trusts) is ∙ (call_differs c name now line (base_desk d)).trusts

  told_stays : (w : Where) (link : ℕ) → TrustStaysThrough w link w.name w.moment Told
  told_stays w link = record {
    closes = λ answers d left cause holds. holds;
    waits = λ answers d left holds. (holds.0, one_more answers silent holds.1 tt);
    sends = λ answers d left bytes holds. (holds.0, one_more answers plain holds.1 tt);
    challenge = λ answers d left line c server on holds. (holds.0, one_more answers plain holds.1 tt);
    authenticate = λ answers d left line c on holds. (
      holds.0,
      one_more answers (opening (opened_by w.controller c (base_desk d)) w line.call c.channel) holds.1
          (opening_holds (IsToldRightly plan) (opened_by w.controller c (base_desk d)) w line.call c.channel),
    );
    judged = λ answers d left line c on holds.
        let after : TrustDesk = answer_trust_call c w.name w.moment line d in
        let goes : CallGoes c w.name w.moment line d after = call_goes c w.name w.moment line d in
        let j : Judging = trusted_judging w line c d after in (
          call_many c w.name w.moment line d after goes ∙ holds.0 ∙ ap (λ (trusts : List Trust). length trusts) (sym (call_trusts c w.name w.moment line d after goes)),
          one_more answers (trust_judged_answer j) holds.1 (by_holds (IsToldRightly plan) j.how j (told_so plan hands w line c d after holds.0 goes)),
        );
  }

  step_told : (at : ℕ) (c : ControllerState) (w : Delivery) (piece : List ℕ) (s : State) → AsksEach c → AreToldSo (answers_of at c w piece s)
  step_told at c w piece s asks =
      let its : Where = at_controller at c w s in
      trust_step_says its w.link c piece s.moment s.chances.left (λ running. Told) (λ answers stepped. AreToldSo answers) (record {
        stays = λ running. told_stays its w.link;
        first = λ running runs. (asks running runs, tt);
        stopped = λ ends. tt;
        spent = tt;
        turn = λ running actions last links t runs on all fewer. tt;
        taken = λ running answers d rest last links dial t runs holds fewer. holds.1;
      })

  -- ---- through the moves

  abbrev AllAsk : List ControllerState → Type 0
  AllAsk controllers = (at : ℕ) (c : ControllerState) → slice_get controllers at ≡ Some c → AsksEach c

  record ToldSoFar (s : State) (b : Book) : Type 0 where
    hands_so : s.hands_on ≡ plan.hands_on
    each : AllAsk s.ends.controllers
    judged : AllByRecursion (IsToldRightly plan) b.judged

  abbrev ToldFact : MoveFact
  ToldFact n p s given b = ToldSoFar s b

  end_asks : (end : EndId) (what : Event) (s : State) → AllAsk s.ends.controllers → AllAsk (hear end what s).state.ends.controllers
  end_asks end what s each =
      step_by (λ (one : EndId) (step : EndStep). AllAsk step.ends.controllers) what s.moment s.ends s.chances (λ one. each)
      (λ at c is. put_each AsksEach s.ends.controllers at (trust_step_of c what s.moment s.chances.left).state each (step_asks c what s.moment s.chances.left (each at c is)))
      (λ at m is. each) (λ at c is. each) end

  -- an end heard something
  heard_so : (end : EndId) (what : Event) (s : State) (b : Book) → ToldSoFar s b → ToldSoFar (hear end what s).state b
  heard_so end what s b told = record { hands_so = told.hands_so; each = end_asks end what s told.each; judged = told.judged }

  bytes_judged : (end : EndId) (w : Delivery) (piece : List ℕ) (s after : State) (b : Book) → AllAsk s.ends.controllers → AllByRecursion (IsToldRightly plan) b.judged →
      AllByRecursion (IsToldRightly plan) (note_at (Some end) w piece s after b).judged
  bytes_judged end w piece s after b each was =
      every_book (λ (one : EndId) (now : Book). AllByRecursion (IsToldRightly plan) now.judged) w piece s after b (λ one. was)
      (λ at c is.
      let answers : List Answered = answers_of at c w piece s in
      let numbers : List ℕ = numbers_on w.link true s.bag after.bag in
      onto_hold (IsToldRightly plan) (judged_of answers numbers) b.judged
      (judged_hold (IsToldRightly plan) (λ j number told. by_reply plan j number told) answers numbers (step_told at c w piece s (each at c is))) was)
      (λ at m is. subst (λ (judged : List Judging). AllByRecursion (IsToldRightly plan) judged) (sym (judged_so.members m at w piece s after b)) was) (λ at c is. was) end

  fresh_each : (hands_on : Bool) → hands_on ≡ true → (table : AccountTable) (name : List ℕ) → AsksEach (fresh_controller hands_on false table name)
  fresh_each true is table name = fresh_asks table name
  fresh_each false is table name = absurd (let x = is in cc)

  renewed_asks : (hands_on : Bool) → hands_on ≡ true → (end : EndId) (s : State) → s.hands_on ≡ hands_on → AllAsk s.ends.controllers → AllAsk (renew_plain end s).controllers
  renewed_asks hands_on is end s same each =
      renew_by (λ (one : EndId) (ends : EndStates). AllAsk ends.controllers) s (λ one. each)
      (λ k c there. put_each AsksEach s.ends.controllers k (fresh_controller s.hands_on false c.table c.name) each (fresh_each s.hands_on (same ∙ is) c.table c.name))
      (λ k plan there. each) (λ k plan there. each) end

  told_keep : plan.hands_on ≡ true → KeepsMovesBy every ⊥ NoSide ToldFact
  told_keep on = record {
    closes = λ n p end link s given b work none told. heard_so end (event.Closed link) s b told;
    opens = λ n at dial route s given b out none told. heard_so (acceptor_of route) (event.Opened (length s.links)) (with_link route s) b
        (record { hands_so = told.hands_so; each = told.each; judged = told.judged });
    dialled = λ n at end link s given b side none told. heard_so end (event.Dialled link) s b told;
    fails = λ n at end s b none told. heard_so end event.DialFailed s b told;
    begins = λ n at client plan s b is none told. record { hands_so = told.hands_so; each = told.each; judged = told.judged };
    comes = λ n end w piece s given b side came bytes none told. record {
      hands_so = told.hands_so;
      each = end_asks end (event.Bytes w.link piece) s told.each;
      judged = bytes_judged end w piece s (act_plain end (event.Bytes w.link piece) s).state b told.each told.judged;
    };
    reaches = λ n w s given b none told. told;
    acts = λ n p end what s given b work none told. record { hands_so = told.hands_so; each = told.each; judged = told.judged };
    shuts = λ n p link s given b work none told. record { hands_so = told.hands_so; each = told.each; judged = told.judged };
    answers = λ n at dial link there s given b is none told. record { hands_so = told.hands_so; each = told.each; judged = told.judged };
    forgets = λ n at end s b none told. record { hands_so = told.hands_so; each = told.each; judged = told.judged };
    settles = λ n at on number s b none told. record { hands_so = told.hands_so; each = told.each; judged = told.judged };
    dials = λ n at dial s b is none told. record { hands_so = told.hands_so; each = told.each; judged = told.judged };
    renews = λ n at end s b none told. record {
      hands_so = told.hands_so;
      each = renewed_asks plan.hands_on on end (forget end s) told.hands_so told.each;
      judged = told.judged;
    };
    changes = λ n at member secret s b formed none told. record {
      hands_so = told.hands_so;
      each = by_change (λ (ends : EndStates) (actions : List Action). AllAsk ends.controllers) member secret s.ends told.each (λ running is none. told.each);
      judged = told.judged;
    };
    ticks = λ n at more s b none told. record { hands_so = told.hands_so; each = told.each; judged = told.judged };
    over = λ n at on next s given b none told. record { hands_so = told.hands_so; each = told.each; judged = told.judged };
  }

  first_asks : (hands_on : Bool) → hands_on ≡ true → (tables : List AccountTable) (names : List (List ℕ)) → AllAsk (first_controllers hands_on false tables names)
  first_asks hands_on is [] names at c there = absurd cc
  first_asks hands_on is (table ∷ tables) [] at c there = absurd cc
  first_asks hands_on is (table ∷ tables) (name ∷ names) zero c there =
      let same : fresh_controller hands_on false table name ≡ c = cc in subst AsksEach same (fresh_each hands_on is table name)
  first_asks hands_on is (table ∷ tables) (name ∷ names) (suc at) c there = first_asks hands_on is tables names at c there

  told_after : plan.hands_on ≡ true → (moves : List Move) → IsPlainPlan plan → StatusesAreTold (past plan moves)
  told_after on moves nothing =
      let after : HoldsAfterMoves ⊥ ToldFact plan moves = moves_keep_plain ⊥ ToldFact (told_keep on) plan moves nothing (λ none. absurd none)
      (λ first. record { hands_so = refl; each = first_asks plan.hands_on on plan.tables plan.controllers; judged = tt }) in after.holds.judged

-- ---- where controllers aren't to hand logons on

none_for : (plan : Plan) (j : Judging) → IsPlainPlan plan → plan.hands_on ≡ false → TellsItsStatus j → IsToldRightly plan j
none_for plan j nothing off told channel stands passed = record {
  here = λ none. told channel stands passed;
  elsewhere = λ for.
      let never : true ≡ false = sym for.hands ∙ ap (λ (seals : Bool). seals || plan.hands_on) nothing.controllers ∙ off in absurd (let x = never in cc);
}

by_plan : (on : Bool) (plan : Plan) (moves : List Move) → plan.hands_on ≡ on → IsPlainPlan plan → StatusesAreTold (past plan moves)
by_plan false plan moves off nothing =
    all_weaker TellsItsStatus (IsToldRightly plan) (past plan moves).book.judged (λ j told. none_for plan j nothing off told) (each_status plan moves (alone_if plan nothing off))
by_plan true plan moves on nothing =
    told_after plan (ap (λ (seals : Bool). seals || plan.hands_on) nothing.controllers ∙ on) on moves nothing

-- calls are told with their statuses in every run of a plain plan
pub statuses_told : (plan : Plan) (moves : List Move) → IsPlainPlan plan → StatusesAreTold (past plan moves)
statuses_told plan moves nothing = by_plan plan.hands_on plan moves refl nothing
