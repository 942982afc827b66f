-- In every run of a plain plan each unit of the bag that is marked as a reply carries what its controller
-- judged, or answers a call that was handed on. It serves `Proved.replies`.
use Rattle.std.proofs.Common.{◌≡◌, ◌⊎◌, ◌||◌, ◌&&◌, not, ℕ, zero, suc, ◌+◌, Bool, true, false, List, [], ◌∷◌, ◌++◌, length, map, inl, inr, Option, Some, None, Result, Ok, Err, refl, sym, ap, ◌∙◌, subst, slice_get}
use Rattle.std.specs.Prelude.{cond, filter}
use Rattle.std.specs.List.{AllByRecursion}
use Rattle.wire_base.specs.Lists.{OneOf}
use Rattle.wire_base.specs.Maps.{lookup, same_number}
use Rattle.wire_base.proofs.AllLaws.{all_join}
use Rattle.wire_base.proofs.ListLaws.{all_weaker, got_nothing, one_behind, one_weaker, some_is}
use Rattle.authenticators.specs.Channels.{ChannelIdentity}
use Rattle.outside.specs.declared.action.Action.{Action}
use Rattle.outside.specs.declared.action.Judged.{Judged}
use Rattle.outside.specs.declared.action.Judged.TheVariants as judged
use Rattle.outside.specs.declared.action.StepRefused.{StepRefused}
use Rattle.outside.specs.declared.event.Event.TheVariants as event
use Rattle.end_links.specs.Links.{LinkState}
use Rattle.channel_turns.specs.Turning.{is_on}
use Rattle.domain_controller.specs.State.{State as ControllerState}
use Rattle.domain_controller.specs.TrustStep.{trust_step_of}
use Rattle.domain_controller.specs.declared.state.Running.{Running}
use Rattle.domain_controller.specs.declared.state.Talk.{Talk}
use Rattle.domain_controller.proofs.TrustPlaceLaws.{got_all}
use Rattle.channel_events.specs.Marks.{Mark, Plain, Opening, Opened, Calling, ReplyTo}
use Rattle.step_notes.specs.ChannelNames.{sends_in}
use Rattle.step_notes.specs.ControllerNotes.{Answered, Where, has_passed, reply_mark}
use Rattle.step_notes.specs.Judged.{channel_if, passed_channel}
use Rattle.step_notes.specs.Marking.{answered_marks, mark_if, turn_marks}
use Rattle.step_notes.specs.MemberNotes.{turn_units}
use Rattle.step_notes.specs.Records.{Book, Forward, InUnit, Judging, OfMember, Outside, Source, unit_in}
use Rattle.step_notes.specs.ReplySends.{AreSentBy, IsReplyOfCall, IsSentBy}
use Rattle.step_notes.specs.Served.{units_if_taken}
use Rattle.step_notes.specs.TrustNotes.{asking_units, calls_handed, forwards_at, if_handed, if_judged, places_handed, trust_answer_on, trust_units_at, trust_units_by, units_beside_turn}
use Rattle.step_notes.specs.TrustReplies.{CarriesTrustReply, IsReplyOfUnasked}
use Rattle.step_notes.proofs.Controllers.TrustReplyLaws.{trust_replies_sent}
use Rattle.world_moves.specs.declared.bag.BagUnit.{BagUnit}
use Rattle.world_moves.specs.declared.links.EndId.{EndId}
use Rattle.world_moves.specs.declared.links.EndId.TheVariants.{Controller, Member}
use Rattle.world_moves.specs.declared.moves.Move.{Move}
use Rattle.world_moves.specs.declared.plan.Plan.{Plan}
use Rattle.world_moves.specs.declared.state.State.{State}
use Rattle.world_moves.specs.Acting.{AfterHearing, heard_by}
use Rattle.world_moves.specs.Ends.{actions_by}
use Rattle.world_moves.specs.Plain.{IsPlainPlan, plain_controller_step as controller_step, plain_member_step as member_step}
use Rattle.world_moves.proofs.AloneLaws.{alone_if}
use Rattle.world_moves.proofs.LinkFrameLaws.{IsOnLink}
use Rattle.domain_world.specs.Claims.Replies.{IsReplyOfOne}
use Rattle.domain_world.specs.Claims.TrustReplies.{HandsOn, IsHandedOnAs, IsReplyIn, IsReplyOfAny, RepliesAreOfTheirCalls}
use Rattle.domain_world.specs.Past.{Delivery, answers_of, asked_in_turn, asking_by, asking_marks, asking_notes, at_controller, beside_mark, forward_mark, forwards_of, heard_marks, is_sent_on, judged_of, later_of, mark_or, marks_of, note_at, note_member, note_messages, number_sent, numbers_on, onto, past, plain_form, still_waits, with_reply}
use Rattle.domain_world.proofs.Frames.BagFrameLaws.{IsOfUnit, UnitFact, member_marks}
use Rattle.domain_world.proofs.Frames.EndNoteLaws.{judged_so, judgings_of}
use Rattle.domain_world.proofs.Frames.EveryMarkLaws.{EveryMarks, OfMarks, every_marks_keep, first_marks}
use Rattle.domain_world.proofs.Frames.EveryStepLaws.{act_plain, every_book as book_by, stepped}
use Rattle.domain_world.proofs.Frames.MoveFrameLaws.{HoldsAfterMoves}
use Rattle.domain_world.proofs.Frames.MoveKeepLaws.{Both, KeepsMovesBy, MoveFact, NoSide, beside, every, join_moves}
use Rattle.domain_world.proofs.Frames.PlainFrameLaws.{moves_keep_plain}
use Rattle.domain_world.proofs.Frames.TurnFrameLaws.{asked_leave}
use Rattle.domain_world.proofs.Judgements.Openings.OpeningReplyLaws.{marks_all}
use Rattle.domain_world.proofs.Judgements.ReplyLaws.{one_newer, one_older, replies_carry, with_number}
use Rattle.domain_world.proofs.Calls.MarkWayLaws.{IsRequest, notes_way, turns_way}
use Rattle.domain_world.proofs.Moves.AcceptedLinkLaws.{AcceptedLinks, IsAccepted, SuchIf, accepted_keep, all_found, first_accepted}
use Rattle.domain_world.proofs.Moves.MarkPlaceLaws.{plain_of_none}
use Rattle.domain_world.proofs.Moves.NewUnitLaws.{IsNewUnit, new_or_plain}
use Rattle.domain_world.proofs.Moves.PlainFormLaws.{plain_is}
use Rattle.domain_world.proofs.Moves.TrustFrontLaws.{accepted_way, trust_front}

-- ---- a call that was handed on is among those that were judged

-- both are one call, whichever unit is written down as its reply
record IsThatCall (one j : Judging) : Type 0 where
  how : j.how ≡ one.how
  source : j.source ≡ one.source
  number : j.number ≡ one.number
  passed : passed_channel j ≡ passed_channel one

itself_by : (passed : Bool) (j : Judging) (number : Option ℕ) → channel_if passed (record j { reply = number }) ≡ channel_if passed j
itself_by false j number = refl
itself_by true j number = refl

that_call : (j : Judging) (number : Option ℕ) → IsThatCall j (record j { reply = number })
that_call j number = record { how = refl; source = refl; number = refl; passed = itself_by (has_passed j.how) j number }

-- the call was handed on, and is written down as judged
abbrev IsKnown : (judgings : List Judging) (one : Judging) → Type 0
IsKnown judgings one = (one.how ≡ Some judged.Forwarded) × OneOf (IsThatCall one) judgings

known_more : (judgings more : List Judging) (one : Judging) → ((P : Judging → Type 0) → OneOf P judgings → OneOf P more) → IsKnown judgings one → IsKnown more one
known_more judgings more one so known = (known.0, so (IsThatCall one) known.1)

if_known : (how : Option Judged) (j : Judging) (number : Option ℕ) (later : List Judging) → j.how ≡ how →
    AllByRecursion (IsKnown (with_reply (Some j) number ++ later)) (if_handed how j)
if_known None j number later is = tt
if_known (Some (judged.Passed status)) j number later is = tt
if_known (Some judged.Forwarded) j number later is = ((is, inl (that_call j number)), tt)
if_known (Some (judged.Answered status)) j number later is = tt
if_known (Some judged.Barred) j number later is = tt
if_known (Some judged.NoChannel) j number later is = tt

one_known : (judging : Option Judging) (number : Option ℕ) (later : List Judging) → AllByRecursion (IsKnown (with_reply judging number ++ later)) (if_judged judging)
one_known None number later = tt
one_known (Some j) number later = if_known j.how j number later refl

calls_known : (answers : List Answered) (numbers : List ℕ) → AllByRecursion (IsKnown (judged_of answers numbers)) (calls_handed answers)
calls_known [] numbers = tt
calls_known (one ∷ answers) numbers =
    let later : List Judging = judged_of answers (later_of one.sends numbers) in
    let first : List Judging = with_reply one.judging (number_sent one.sends numbers) in
    all_join (IsKnown (first ++ later)) (if_judged one.judging) (calls_handed answers) (one_known one.judging (number_sent one.sends numbers) later)
    (all_weaker (IsKnown later) (IsKnown (first ++ later)) (calls_handed answers) (λ j known. known_more later (first ++ later) j (λ P it. one_behind P first later it) known)
    (calls_known answers (later_of one.sends numbers)))

abbrev AreKnown : List Judging → List Forward → Type 0
AreKnown judgings forwards = AllByRecursion (λ (one : Forward). IsKnown judgings one.judging) forwards

forwards_known : (link : ℕ) (judgings : List Judging) (places : List (ℕ × ℕ)) (calls : List Judging) → AllByRecursion (IsKnown judgings) calls → AreKnown judgings (forwards_at link places calls)
forwards_known link judgings [] calls all = tt
forwards_known link judgings (place ∷ places) [] all = tt
forwards_known link judgings (place ∷ places) (j ∷ calls) all = (all.0, forwards_known link judgings places calls all.1)

onto_known : (judgings : List Judging) (new old : List Forward) → AreKnown judgings new → AreKnown judgings old → AreKnown judgings (onto new old)
onto_known judgings [] old all was = was
onto_known judgings (one ∷ new) old all was = onto_known judgings new (one ∷ old) all.1 (all.0, was)

kept_by : (judgings : List Judging) (kept : Bool) (one : Forward) (rest : List Forward) → IsKnown judgings one.judging → AreKnown judgings rest → AreKnown judgings (cond kept (one ∷ rest) rest)
kept_by judgings true one rest is all = (is, all)
kept_by judgings false one rest is all = all

kept_known : (judgings : List Judging) (keeps : Forward → Bool) (forwards : List Forward) → AreKnown judgings forwards → AreKnown judgings (filter keeps forwards)
kept_known judgings keeps [] all = tt
kept_known judgings keeps (one ∷ forwards) all = kept_by judgings (keeps one) one (filter keeps forwards) all.0 (kept_known judgings keeps forwards all.1)

-- ---- through the moves

abbrev KnownForwards : MoveFact
KnownForwards n p s given b = AreKnown b.judged b.forwards

forwards_more : (judgings more : List Judging) (forwards : List Forward) → ((P : Judging → Type 0) → OneOf P judgings → OneOf P more) → AreKnown judgings forwards → AreKnown more forwards
forwards_more judgings more forwards so all =
    all_weaker (λ (one : Forward). IsKnown judgings one.judging) (λ (one : Forward). IsKnown more one.judging) forwards (λ one known. known_more judgings more one.judging so known) all

bytes_known : (end : EndId) (w : Delivery) (piece : List ℕ) (s after : State) (b : Book) → AreKnown b.judged b.forwards →
    AreKnown (note_at (Some end) w piece s after b).judged (note_at (Some end) w piece s after b).forwards
bytes_known end w piece s after b all =
    book_by (λ (one : EndId) (now : Book). AreKnown now.judged now.forwards) w piece s after b (λ one. all)
    (λ at c is.
    let answers : List Answered = answers_of at c w piece s in
    let numbers : List ℕ = numbers_on w.link true s.bag after.bag in
    let new : List Judging = judged_of answers numbers in
    let more : List Judging = onto new b.judged in
    onto_known more (forwards_of at c w piece s) b.forwards
    (forwards_more new more (forwards_of at c w piece s) (λ P it. one_newer P new b.judged it)
    (forwards_known w.link new (places_handed c w.link piece s.moment s.chances.left) (calls_handed answers) (calls_known answers numbers)))
    (forwards_more b.judged more b.forwards (λ P it. one_older P new b.judged it) all))
    (λ at m is.
    let same : (note_member (Some m) at w piece s after b).forwards ≡ b.forwards =
    asked_leave (OfMember at) w (turn_units m w.link piece s.moment s.chances.left) s after (note_messages at m w piece s b) (λ (book : Book). book.forwards)
    (λ note served unit number old. refl) in
    subst (λ (forwards : List Forward). AreKnown (note_member (Some m) at w piece s after b).judged forwards) (sym same)
    (subst (λ (judgings : List Judging). AreKnown judgings b.forwards) (sym (judged_so.members m at w piece s after b)) all))
    (λ at c is. all) end

known_keep : (Known : Type 0) → KeepsMovesBy every Known NoSide KnownForwards
known_keep Known = record {
  closes = λ n p end link s given b work none all. all;
  opens = λ n at dial route s given b out none all. all;
  dialled = λ n at end link s given b side none all. all;
  fails = λ n at end s b none all. all;
  begins = λ n at client plan s b is none all. all;
  comes = λ n end w piece s given b side came bytes none all. bytes_known end w piece s (act_plain end (event.Bytes w.link piece) s).state b all;
  reaches = λ n w s given b none all. all;
  acts = λ n p end what s given b work none all. all;
  shuts = λ n p link s given b work none all. all;
  answers = λ n at dial link there s given b is none all. all;
  forgets = λ n at end s b none all. all;
  settles = λ n at on number s b none all. all;
  dials = λ n at dial s b is none all. all;
  renews = λ n at end s b none all. all;
  changes = λ n at member secret s b formed none all. all;
  ticks = λ n at more s b none all. all;
  over = λ n at on next s given b none all. kept_known b.judged (still_waits s) b.forwards all;
}

-- ---- a reply to one of the calls is one where those calls are among others

of_others : (plan : Plan) (mark : Mark) (judgings others : List Judging) (number : ℕ) (bytes : List ℕ) → ((P : Judging → Type 0) → OneOf P judgings → OneOf P others) →
    IsReplyOfAny plan judgings number bytes mark → IsReplyOfAny plan others number bytes mark
of_others plan Plain judgings others number bytes so is = tt
of_others plan (Opening channel call) judgings others number bytes so is = tt
of_others plan (Opened channel call request) judgings others number bytes so is = tt
of_others plan (Calling channel call timestamp) judgings others number bytes so is = tt
of_others plan (ReplyTo channel call request) judgings others number bytes so (inl is) = inl (so (IsReplyIn plan channel call request number bytes) is)
of_others plan (ReplyTo channel call request) judgings others number bytes so (inr is) = inr (so (IsHandedOnAs channel call request) is)

-- ---- the calls of one step

unasked_numbered : (channel : ChannelIdentity) (call request : ℕ) (j : Judging) (bytes : List ℕ) (reply : Option ℕ) → IsReplyOfUnasked channel call request j bytes →
    IsReplyOfUnasked channel call request (record j { reply = reply }) bytes
unasked_numbered channel call request j bytes reply is = record {
  came = is.came;
  passed = itself_by (has_passed j.how) j reply ∙ is.passed;
  call = is.call;
  carries = record {
    next = is.carries.next;
    how = is.carries.how;
    info = is.carries.info;
    validation = is.carries.validation;
    asks = is.carries.asks;
    kind = is.carries.kind;
    level = is.carries.level;
    trust = is.carries.trust;
    routed = is.carries.routed;
    context = is.carries.context;
    limit = is.carries.limit;
    frames = is.carries.frames;
  };
}

module _ (plan : Plan) (hands : HandsOn plan) where
  either_numbered : (channel : ChannelIdentity) (call request number : ℕ) (j : Judging) (bytes : List ℕ) → IsReplyOfCall channel call request j bytes ⊎ IsReplyOfUnasked channel call request j bytes →
      IsReplyIn plan channel call request number bytes (record j { reply = Some number })
  either_numbered channel call request number j bytes (inl is) = (refl, inl (with_number channel call request j bytes (Some number) is))
  either_numbered channel call request number j bytes (inr is) = (refl, inr (hands, unasked_numbered channel call request j bytes (Some number) is))

  of_first : (mark : Mark) (judging : Option Judging) (number : ℕ) (bytes : List ℕ) (more : List Judging) → CarriesTrustReply mark judging bytes →
      IsReplyOfAny plan (with_reply judging (Some number) ++ more) number bytes mark
  of_first Plain judging number bytes more is = tt
  of_first (Opening channel call) judging number bytes more is = tt
  of_first (Opened channel call request) judging number bytes more is = tt
  of_first (Calling channel call timestamp) judging number bytes more is = tt
  of_first (ReplyTo channel call request) None number bytes more is = absurd is
  of_first (ReplyTo channel call request) (Some j) number bytes more is = inl (inl (either_numbered channel call request number j bytes is))

  module _ (number : ℕ) (bytes : List ℕ) (mark : Mark) where
    -- `IsReplyOfAny` holds of bytes that were sent for the mark, where the mark and the unit's number stand at their
    -- place
    abbrev IsPlaced : List Answered → Type 0
    IsPlaced answers =
        (sent : List (List ℕ)) (numbers : List ℕ) (place : ℕ) → AreSentBy CarriesTrustReply answers sent → slice_get (answered_marks answers) place ≡ Some mark →
        slice_get sent place ≡ Some bytes → slice_get numbers place ≡ Some number → IsReplyOfAny plan (judged_of answers numbers) number bytes mark

    first_placed : (sends : Bool) (one : Answered) (answers : List Answered) → IsPlaced answers → (sent : List (List ℕ)) (numbers : List ℕ) (place : ℕ) →
        IsSentBy CarriesTrustReply sends one sent (λ (rest : List (List ℕ)). AreSentBy CarriesTrustReply answers rest) → slice_get (mark_if sends one.mark ++ answered_marks answers) place ≡ Some mark →
        slice_get sent place ≡ Some bytes → slice_get numbers place ≡ Some number →
        IsReplyOfAny plan (with_reply one.judging (number_sent sends numbers) ++ judged_of answers (later_of sends numbers)) number bytes mark
    first_placed false one answers later sent numbers place is marked sends numbered =
        of_others plan mark (judged_of answers numbers) (with_reply one.judging None ++ judged_of answers numbers) number bytes
        (λ P it. one_behind P (with_reply one.judging None) (judged_of answers numbers) it)
        (later sent numbers place is marked sends numbered)
    first_placed true one answers later [] numbers place is marked sends numbered = absurd is
    first_placed true one answers later (first ∷ sent) [] place is marked sends numbered = absurd (got_nothing place number numbered)
    first_placed true one answers later (first ∷ sent) (n ∷ numbers) zero is marked sends numbered =
        let all : List Judging = with_reply one.judging (Some n) ++ judged_of answers numbers in
        subst (λ (m : Mark). IsReplyOfAny plan all number bytes m) (some_is one.mark mark marked)
        (subst (λ (b : List ℕ). IsReplyOfAny plan all number b one.mark) (some_is first bytes sends)
        (subst (λ (k : ℕ). IsReplyOfAny plan all k first one.mark) (some_is n number numbered)
        (of_first one.mark one.judging n first (judged_of answers numbers) is.0)))
    first_placed true one answers later (first ∷ sent) (n ∷ numbers) (suc place) is marked sends numbered =
        of_others plan mark (judged_of answers numbers) (with_reply one.judging (Some n) ++ judged_of answers numbers) number bytes
        (λ P it. one_behind P (with_reply one.judging (Some n)) (judged_of answers numbers) it)
        (later sent numbers place is.1 marked sends numbered)

    all_placed : (answers : List Answered) → IsPlaced answers
    all_placed [] sent numbers place is marked sends numbered = absurd (got_nothing place mark marked)
    all_placed (one ∷ answers) sent numbers place is marked sends numbered =
        first_placed one.sends one answers (all_placed answers) sent numbers place is marked sends numbered

-- ---- requests are no replies, and units beside a turn's link answer calls that were handed on

requests_free : (plan : Plan) (judgings : List Judging) (number : ℕ) (bytes : List ℕ) (mark : Mark) → IsRequest mark → IsReplyOfAny plan judgings number bytes mark
requests_free plan judgings number bytes Plain way = tt
requests_free plan judgings number bytes (Opening channel call) way = tt
requests_free plan judgings number bytes (Opened channel call request) way = tt
requests_free plan judgings number bytes (Calling channel call timestamp) way = tt
requests_free plan judgings number bytes (ReplyTo channel call request) way = absurd (let never : false ≡ true = way in cc)

module _ (plan : Plan) (judgings : List Judging) (number : ℕ) (bytes : List ℕ) where
  abbrev IsFree : Mark → Type 0
  IsFree mark = IsReplyOfAny plan judgings number bytes mark

  answers_that : (channel : ChannelIdentity) (source : Source) (one : Judging) → one.source ≡ source → passed_channel one ≡ Some channel → IsKnown judgings one →
      IsFree (reply_mark (unit_in source) channel one.number)
  answers_that channel Outside one came passed known = tt
  answers_that channel (InUnit unit) one came passed known =
      inr (one_weaker (IsThatCall one) (IsHandedOnAs channel one.number unit) judgings
      (λ j that. record { how = that.how ∙ known.0; came = that.source ∙ came; passed = that.passed ∙ passed; call = that.number }) known.1)

  forward_free : (channel : Option ChannelIdentity) (one : Forward) → passed_channel one.judging ≡ channel → IsKnown judgings one.judging → IsFree (forward_mark channel one)
  forward_free None one passed known = tt
  forward_free (Some channel) one passed known = answers_that channel one.judging.source one.judging refl passed known

  mark_or_free : (its : Bool) (one : Forward) (other : Mark) → IsKnown judgings one.judging → IsFree other → IsFree (mark_or its one other)
  mark_or_free false one other known free = free
  mark_or_free true one other known free = forward_free (passed_channel one.judging) one refl known

  beside_free : (forwards : List Forward) (after : State) (unit : BagUnit) → AreKnown judgings forwards → IsFree (beside_mark forwards after unit)
  beside_free [] after unit all = tt
  beside_free (one ∷ forwards) after unit all =
      mark_or_free (is_sent_on one.link true unit && not (still_waits after one)) one (beside_mark forwards after unit) all.0 (beside_free forwards after unit all.1)

-- `IsReplyOfAny` holds of the mark with any unit and bytes, as where bytes come on the link of a turn
abbrev AnyUnitFree : Plan → List Judging → Mark → Type 0
AnyUnitFree plan judgings mark = (number : ℕ) (bytes : List ℕ) → IsReplyOfAny plan judgings number bytes mark

module _ (plan : Plan) (judgings : List Judging) where
  by_free : (on : Bool) (marks : List Mark) (other : Mark) (later : List Mark → List Mark) → AnyUnitFree plan judgings other →
      ((rest : List Mark) → AllByRecursion (AnyUnitFree plan judgings) rest → AllByRecursion (AnyUnitFree plan judgings) (later rest)) →
      AllByRecursion (AnyUnitFree plan judgings) marks → AllByRecursion (AnyUnitFree plan judgings) (asking_by on marks other later)
  by_free false marks other later free go each = (free, go marks each)
  by_free true [] other later free go each = ((λ number bytes. tt), go [] tt)
  by_free true (mark ∷ marks) other later free go each = (each.0, go marks each.1)

  asking_free : (link : ℕ) (beside : BagUnit → Mark) → ((unit : BagUnit) → AnyUnitFree plan judgings (beside unit)) → (units : List BagUnit) (marks : List Mark) →
      AllByRecursion (AnyUnitFree plan judgings) marks → AllByRecursion (AnyUnitFree plan judgings) (asking_marks link beside units marks)
  asking_free link beside free [] marks each = tt
  asking_free link beside free (unit ∷ units) marks each =
      by_free (is_sent_on link false unit) marks (beside unit) (λ (rest : List Mark). asking_marks link beside units rest) (free unit) (λ rest all. asking_free link beside free units rest all) each

-- ---- what holds of each unit

abbrev OfUnit : Plan → UnitFact (List Judging)
OfUnit plan judgings number unit mark = IsReplyOfAny plan judgings number unit.bytes mark

-- where no units are served, none is written down as answered, whether the step is taken or not
pub nothing_taken : {U : Type 0} (given : Result (List Action) StepRefused) (units : List U) → units ≡ [] → units_if_taken given units ≡ []
nothing_taken (Ok actions) units none = none
nothing_taken (Err why) units none = refl

-- the link of that number is one that the controller accepted
pub record IsServed (s : State) (at : ℕ) (c : ControllerState) (number : ℕ) : Type 0 where
  pub is : IsAccepted s.links at number

module _ (c : ControllerState) (at : ℕ) (w : Delivery) (piece : List ℕ) (s : State) (all : SuchIf (IsAccepted s.links at) c.running) (off : is_on w.link c.trusting.dialling ≡ false) where
  abbrev its : Where
  its = at_controller at c w s

  abbrev marks : List Mark
  marks = answered_marks (answers_of at c w piece s)

  none_by : (found : Option Running) → c.running ≡ found → trust_units_by found w.link piece c s.moment s.chances.left ≡ [] → answers_of at c w piece s ≡ []
  none_by found is none =
      ap (λ units. map (trust_answer_on w.link its) units)
      (nothing_taken (trust_step_of c (event.Bytes w.link piece) s.moment s.chances.left).answer (trust_units_by c.running w.link piece c s.moment s.chances.left)
      (ap (λ (running : Option Running). trust_units_by running w.link piece c s.moment s.chances.left) is ∙ none))

  link_by : (running : Running) (found : Option (LinkState Talk)) → c.running ≡ Some running → lookup same_number w.link running.links ≡ found → AllByRecursion (λ (entry : ℕ × LinkState Talk). IsAccepted s.links at entry.0) running.links →
      (answers_of at c w piece s ≡ []) ⊎ IsServed s at c w.link
  link_by running None is there such =
      inl (none_by (Some running) is
      (ap (λ (on : Bool). units_beside_turn on w.link piece c running s.moment s.chances.left) off
      ∙ ap (λ (found : Option (LinkState Talk)). trust_units_at found w.link piece c running s.moment s.chances.left) there))
  link_by running (Some link) is there such = inr (record { is = all_found (IsAccepted s.links at) w.link running.links link such there })

  running_by : (found : Option Running) → c.running ≡ found → SuchIf (IsAccepted s.links at) found → (answers_of at c w piece s ≡ []) ⊎ IsServed s at c w.link
  running_by None is such = inl (none_by None is refl)
  running_by (Some running) is such = link_by running (lookup same_number w.link running.links) is refl such

  -- nothing is answered there, or the controller accepted the link
  pub served : (answers_of at c w piece s ≡ []) ⊎ IsServed s at c w.link
  served = running_by c.running refl all

  abbrev after : State
  after = stepped (Controller at) (controller_step (Some c) at (event.Bytes w.link piece) s.moment s.ends s.chances) s

  -- each new unit is made for no channel, or is one that the controller sends for its mark
  unit_sent : (units : List BagUnit) → after.bag ≡ s.bag ++ units → AllByRecursion (IsOnLink s.links) units → (place : ℕ) (unit : BagUnit) (mark : Mark) → slice_get units place ≡ Some unit →
      slice_get (marks_of w.link true units marks) place ≡ Some mark →
      (mark ≡ Plain) ⊎ IsNewUnit w.link true (actions_by (trust_step_of c (event.Bytes w.link piece) s.moment s.chances.left).answer) marks (numbers_on w.link true s.bag after.bag) (length s.bag + place) unit mark
  unit_sent units more on place unit mark there marked = elim served [
    | inl none ↦ inl (plain_of_none w.link true units place mark
        (ap (λ (answers : List Answered). slice_get (marks_of w.link true units (answered_marks answers)) place) (sym none) ∙ marked))
    | inr link ↦ let heard : AfterHearing = heard_by (controller_step (Some c) at (event.Bytes w.link piece) s.moment s.ends s.chances) s in
        new_or_plain link.is.route (Controller at) w.link true heard.actions marks heard.state units place unit mark link.is.made (accepted_way link.is.route at link.is.acceptor)
        (trust_front c its w.link piece s.moment s.chances.left off
        (λ actions is. trust_replies_sent c w.at at w.source w.link piece s.moment s.chances.left actions off is)) more on there marked
  ]

module _ (plan : Plan) (hands : HandsOn plan) where
  -- `IsReplyOfAny` holds of what the controller sends at a place of its marks
  new_reply : (given : Result (List Action) StepRefused) (c : ControllerState) (at : ℕ) (w : Delivery) (piece : List ℕ) (s : State) (numbers : List ℕ) (place number : ℕ) (bytes : List ℕ) (mark : Mark) →
      is_on w.link c.trusting.dialling ≡ false → (trust_step_of c (event.Bytes w.link piece) s.moment s.chances.left).answer ≡ given → slice_get (answered_marks (answers_of at c w piece s)) place ≡ Some mark →
      slice_get (sends_in (actions_by given)) place ≡ Some bytes → slice_get numbers place ≡ Some number →
      IsReplyOfAny plan (judged_of (answers_of at c w piece s) numbers) number bytes mark
  new_reply (Err why) c at w piece s numbers place number bytes mark off is marked sends numbered = absurd (got_nothing place bytes sends)
  new_reply (Ok actions) c at w piece s numbers place number bytes mark off is marked sends numbered =
      all_placed plan hands number bytes mark (answers_of at c w piece s) (sends_in actions) numbers place
      (trust_replies_sent c w.at at w.source w.link piece s.moment s.chances.left actions off is) marked sends numbered

  heard_marked : (on : Bool) (c : ControllerState) (at : ℕ) (w : Delivery) (piece : List ℕ) (s : State) (b : Book) → is_on w.link c.trusting.dialling ≡ on →
      SuchIf (IsAccepted s.links at) c.running → AreKnown b.judged b.forwards →
      let after : State = stepped (Controller at) (controller_step (Some c) at (event.Bytes w.link piece) s.moment s.ends s.chances) s in
      (units : List BagUnit) → after.bag ≡ s.bag ++ units → AllByRecursion (IsOnLink s.links) units → (place : ℕ) (unit : BagUnit) (mark : Mark) → slice_get units place ≡ Some unit →
      slice_get (heard_marks on at c w piece s after b.forwards units) place ≡ Some mark →
      IsReplyOfAny plan (onto (judged_of (answers_of at c w piece s) (numbers_on w.link true s.bag after.bag)) b.judged) (length s.bag + place) unit.bytes mark
  heard_marked false c at w piece s b off all known units more on place unit mark there marked =
      let after : State = stepped (Controller at) (controller_step (Some c) at (event.Bytes w.link piece) s.moment s.ends s.chances) s in
      let numbers : List ℕ = numbers_on w.link true s.bag after.bag in
      let judgings : List Judging = judged_of (answers_of at c w piece s) numbers in
      let number : ℕ = length s.bag + place in
      elim (unit_sent c at w piece s all off units more on place unit mark there marked) [
        | inl plain ↦ subst (λ (m : Mark). IsReplyOfAny plan (onto judgings b.judged) number unit.bytes m) (sym plain) tt
        | inr new ↦ of_others plan mark judgings (onto judgings b.judged) number unit.bytes (λ P it. one_newer P judgings b.judged it)
            (new_reply (trust_step_of c (event.Bytes w.link piece) s.moment s.chances.left).answer c at w piece s numbers new.place number unit.bytes mark off refl new.marked new.sends new.numbered)
      ]
  heard_marked true c at w piece s b off all known units more on place unit mark there marked =
      let after : State = stepped (Controller at) (controller_step (Some c) at (event.Bytes w.link piece) s.moment s.ends s.chances) s in
      let new : List Judging = judged_of (answers_of at c w piece s) (numbers_on w.link true s.bag after.bag) in
      let judgings : List Judging = onto new b.judged in
      let marks : List Mark = turn_marks (asking_notes c w piece s) in
      let requests : AllByRecursion IsRequest marks = notes_way (asked_in_turn c s) (asking_units c w.link piece s.moment s.chances.left) in
      let later : AreKnown judgings b.forwards = forwards_more b.judged judgings b.forwards (λ P it. one_older P new b.judged it) known in
      got_all (AnyUnitFree plan judgings) (asking_marks w.link (λ unit. beside_mark b.forwards after unit) units marks) place mark
      (asking_free plan judgings w.link (λ unit. beside_mark b.forwards after unit) (λ unit number bytes. beside_free plan judgings number bytes b.forwards after unit later) units marks
      (all_weaker IsRequest (AnyUnitFree plan judgings) marks (λ m way. λ number bytes. requests_free plan judgings number bytes m way) requests)) marked (length s.bag + place) unit.bytes

  end_grows : (end : EndId) (w : Delivery) (piece : List ℕ) (s after : State) (b : Book) (number : ℕ) (unit : BagUnit) (mark : Mark) → OfUnit plan b.judged number unit mark →
      OfUnit plan (note_at (Some end) w piece s after b).judged number unit mark
  end_grows end w piece s after b number unit mark is =
      book_by (λ (one : EndId) (now : Book). OfUnit plan now.judged number unit mark) w piece s after b (λ one. is)
      (λ at c there.
      let new : List Judging = judged_of (answers_of at c w piece s) (numbers_on w.link true s.bag after.bag) in
      of_others plan mark b.judged (onto new b.judged) number unit.bytes (λ P it. one_older P new b.judged it) is)
      (λ at m there. subst (λ (judgings : List Judging). OfUnit plan judgings number unit mark) (sym (judged_so.members m at w piece s after b)) is) (λ at c there. is) end

  abbrev Side : MoveFact
  Side = Both AcceptedLinks KnownForwards

  replies_hold : EveryMarks judgings_of (OfUnit plan) Side
  replies_hold = record {
    settles = λ judgings number unit mark is. is;
    grows = λ n end w piece s after given b number unit mark side is. end_grows end w piece s after b number unit mark is;
    given = λ at given after b number unit mark is. is;
    controllers = λ n c at w piece s given b there side even units more on_links place unit mark got marked.
        heard_marked (is_on w.link c.trusting.dialling) c at w piece s b refl (side.0 at c there) side.1 units more on_links place unit mark got marked;
    members = λ n m at w piece s given b there side even units more place unit mark got marked.
        let after : State = stepped (Member at) (member_step (Some m) at (event.Bytes w.link piece) s.moment s.ends s.chances) s in
        requests_free plan (note_member (Some m) at w piece s after b).judged (length s.bag + place) unit.bytes mark
        (got_all IsRequest (marks_of w.link false units (member_marks at m w piece s)) place mark
        (marks_all IsRequest tt w.link false units (member_marks at m w piece s) (turns_way (OfMember at) s (turn_units m w.link piece s.moment s.chances.left))) marked);
    others = λ n at on s given b number unit side. beside_free plan b.judged number unit.bytes b.forwards s unit side.1;
  }

  replies_after : (moves : List Move) → IsPlainPlan plan → RepliesAreOfTheirCalls (past plan moves)
  replies_after moves nothing number unit sent there marked =
      let judgings : List Judging = (past plan moves).book.judged in
      let sides : KeepsMovesBy every ⊥ NoSide Side =
      join_moves ⊥ AcceptedLinks KnownForwards (accepted_keep ⊥) (beside ⊥ AcceptedLinks KnownForwards (known_keep ⊥)) in
      let after : HoldsAfterMoves ⊥ (Both Side (OfMarks judgings_of (OfUnit plan))) plan moves =
      moves_keep_plain ⊥ (Both Side (OfMarks judgings_of (OfUnit plan)))
      (join_moves ⊥ Side (OfMarks judgings_of (OfUnit plan)) sides (every_marks_keep judgings_of (OfUnit plan) Side replies_hold ⊥)) plan moves nothing (λ none. absurd none)
      (λ on. ((first_accepted plan, tt), first_marks (OfUnit plan) [] on)) in
      let of : IsOfUnit (OfUnit plan) judgings (past plan moves).world.state.bag number sent.mark = after.holds.1.each number sent marked in
      subst (λ (bytes : List ℕ). IsReplyOfAny plan judgings number bytes sent.mark) (sym (plain_is (past plan moves).book.sent number unit))
      (subst (λ (one : BagUnit). IsReplyOfAny plan judgings number one.bytes sent.mark) (some_is of.unit unit (sym of.there ∙ there)) of.holds)

-- ---- where controllers aren't to hand logons on

of_judged : (plan : Plan) (judgings : List Judging) (number : ℕ) (bytes : List ℕ) (mark : Mark) → IsReplyOfOne judgings number bytes mark → IsReplyOfAny plan judgings number bytes mark
of_judged plan judgings number bytes Plain is = tt
of_judged plan judgings number bytes (Opening channel call) is = tt
of_judged plan judgings number bytes (Opened channel call request) is = tt
of_judged plan judgings number bytes (Calling channel call timestamp) is = tt
of_judged plan judgings number bytes (ReplyTo channel call request) is =
    inl (one_weaker (λ (j : Judging). (j.reply ≡ Some number) × IsReplyOfCall channel call request j bytes) (IsReplyIn plan channel call request number bytes) judgings
    (λ j of. (of.0, inl of.1)) is)

by_plan : (on : Bool) (plan : Plan) (moves : List Move) → plan.hands_on ≡ on → IsPlainPlan plan → RepliesAreOfTheirCalls (past plan moves)
by_plan false plan moves off nothing = λ number unit sent there marked.
    of_judged plan (past plan moves).book.judged number (plain_form (past plan moves).book.sent number unit) sent.mark (replies_carry plan moves (alone_if plan nothing off) number unit sent there marked)
by_plan true plan moves on nothing =
    replies_after plan (ap (λ (seals : Bool). seals || plan.hands_on) nothing.controllers ∙ on) moves nothing

-- replies are of their calls in every run of a plain plan
pub replies_of_calls : (plan : Plan) (moves : List Move) → IsPlainPlan plan → RepliesAreOfTheirCalls (past plan moves)
replies_of_calls plan moves nothing = by_plan plan.hands_on plan moves refl nothing
