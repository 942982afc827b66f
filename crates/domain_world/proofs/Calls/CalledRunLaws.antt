-- In every schedule the unit of the bag that a message's call names is the call of its logon, whole, and is read back
-- as it was written: by what keeps the ends quiet, and since no two messages came on one link. It serves
-- `messages_are_called`.
use Rattle.std.proofs.Common.{◌≡◌, ◌≢◌, ℕ, zero, suc, List, [], ◌∷◌, inl, inr, Option, Some, sym, subst, slice_get, arith}
use Rattle.std.specs.Prelude.{AllPairs}
use Rattle.std.specs.List.{AllByRecursion}
use Rattle.std.proofs.lemmas.List.Elements.{recursion_from_All}
use Rattle.logon_stubs.specs.declared.calls.LogonCall.{LogonCall}
use Rattle.member_server.specs.State.{State as MemberState}
use Rattle.channel_turns.specs.declared.state.Dialling.{Dialling}
use Rattle.channel_turns.specs.declared.state.Dialling.TheVariants as dialling
use Rattle.member_server.specs.declared.state.Running.{Running}
use Rattle.wire_base.specs.Lists.{OneOf}
use Rattle.step_notes.specs.Records.{Book, MessageTaken, blank}
use Rattle.world_moves.specs.declared.bag.BagUnit.{BagUnit}
use Rattle.world_moves.specs.declared.moves.Move.{Move}
use Rattle.world_moves.specs.declared.plan.Plan.{Plan}
use Rattle.world_moves.specs.declared.state.State.{State}
use Rattle.world_moves.specs.Acting.{Given}
use Rattle.world_moves.specs.Alone.{IsPlainAlone}
use Rattle.world_moves.specs.Plain.{plain_world}
use Rattle.domain_world.specs.Accepting.Carried.{IsCalledFor, MessagesAreCalled}
use Rattle.domain_world.specs.Claims.{info_asked}
use Rattle.domain_world.specs.Past.{past}
use Rattle.wire_base.proofs.ListLaws.{one_found}
use Rattle.step_notes.proofs.Members.KeptLogonLaws.{IfDialled}
use Rattle.domain_world.specs.Schedules.{OfSchedules}
use Rattle.domain_world.proofs.Acceptance.LetInStepLaws.{IsDialledBy}
use Rattle.domain_world.proofs.Quiet.QuietRunLaws.{has_bytes, quiet_first, quiet_keeps}
use Rattle.domain_world.proofs.Quiet.QuietStepLaws.{MemberIsQuiet, QuietAction, QuietFact, QuietState, RunningIsQuiet}
use Rattle.domain_world.proofs.Quiet.QuietTurnLaws.{IfOn}
use Rattle.domain_world.proofs.Messages.MessageApartLaws.{messages_apart}
use Rattle.domain_world.proofs.Frames.BagStepLaws.{run_fits}
use Rattle.domain_world.proofs.Frames.StepFrameLaws.{ActionFact, StepKeeps, NoFact, RunFact}
use Rattle.domain_world.proofs.Calls.CalledUnitLaws.{CallSide, CalledIn, IsAskedOn, IsCallAt, IsGood, called_keep}
use Rattle.domain_world.proofs.Messages.OwnMessageLaws.{EachKept, all_fresh, kept_written}
use Rattle.domain_world.proofs.Moves.PlacedLaws.{HasBytes}
use Rattle.domain_world.proofs.Frames.EndNoteLaws.{messages_in}
use Rattle.domain_world.proofs.Moves.PlainFormLaws.{heard_plain}
use Rattle.wire_base.proofs.AllLaws.{all_zip}

-- ---- the message of a link is one

abbrev AreApart : List MessageTaken → Type 0
AreApart messages = AllPairs (λ (one other : MessageTaken). one.link ≢ other.link) messages

apart_first : (message : MessageTaken) (messages : List MessageTaken) → AreApart (message ∷ messages) → AllByRecursion (λ (other : MessageTaken). message.link ≢ other.link) messages
apart_first message messages apart =
    recursion_from_All (λ (other : MessageTaken). message.link ≢ other.link) messages (λ k d within. apart zero (suc k) d (omega arith) (omega (arith, within)))

apart_later : (message : MessageTaken) (messages : List MessageTaken) → AreApart (message ∷ messages) → AreApart messages
apart_later message messages apart i j d before within = apart (suc i) (suc j) d (omega (arith, before)) (omega (arith, within))

-- what is asked on its link is what it asks
abbrev AsksOwn : List MessageTaken → MessageTaken → Type 0
AsksOwn messages message = (logon : LogonCall) → OneOf (IsAskedOn message.link logon) messages → logon.info ≡ record (info_asked message) { logon_id = message.place }

all_own : (messages : List MessageTaken) → AreApart messages → AllByRecursion (AsksOwn messages) messages
all_own [] apart = tt
all_own (message ∷ messages) apart = (
  λ logon one. elim one [
    | inl here ↦ here.info
    | inr later ↦
        let both = one_found (IsAskedOn message.link logon) (λ (other : MessageTaken). message.link ≢ other.link) messages (apart_first message messages apart) later in
        absurd (both.2 (sym both.1.on))
  ],
  all_zip (AsksOwn messages) (λ (other : MessageTaken). message.link ≢ other.link) (AsksOwn (message ∷ messages)) messages
      (λ other own differs logon one. elim one [
        | inl here ↦ absurd (differs here.on)
        | inr later ↦ own logon later
      ]) (all_own messages (apart_later message messages apart)) (apart_first message messages apart),
)

-- ---- a run

-- in every run
pub messages_called : (Holds : RunFact) (Fine : ActionFact) → StepKeeps NoFact Holds Fine → ((n : ℕ) (s : State) (given : Given) (b : Book) → Holds n s given b → CallSide s) →
    (plan : Plan) (moves : List Move) → IsPlainAlone plan → HasBytes plan moves → Holds 0 (plain_world plan).state [] blank → MessagesAreCalled (past plan moves)
messages_called Holds Fine keeps gives plan moves nobody has holds =
    let messages : List MessageTaken = (past plan moves).book.messages in
    let bag : List BagUnit = (past plan moves).world.state.bag in
    let called : CalledIn bag (past plan moves).book =
    run_fits Holds Fine keeps messages_in EachKept kept_written CalledIn (called_keep Holds gives) plan moves nobody has holds (all_fresh [] plan.members) tt in
    all_zip (IsGood (IsCallAt bag messages)) (AsksOwn messages) (λ (message : MessageTaken). (n : ℕ) → message.call ≡ Some n → IsCalledFor (past plan moves) message n) messages
    (λ message good own n is.
    let at : IsCallAt bag messages message.link n = good n is in
    record {
      carrier = at.carrier;
      there = at.there;
      number = at.number;
      logon = at.logon;
      frames = at.frames;
      heard = heard_plain (past plan moves).book.sent n at.carrier at.frames _ at.heard;
      again = at.again;
      info = own at.logon at.asked;
      level = at.level;
    }) called (all_own messages (messages_apart plan moves nobody.plain))

-- ---- by what keeps the ends quiet

if_dialled : (Own : ℕ → Type 0) (how : Dialling) → IfOn Own how → IfDialled Own how
if_dialled Own dialling.Nothing on = tt
if_dialled Own (dialling.Waits turn frames) on = tt
if_dialled Own (dialling.On number said) on = on.own

quiet_running : (s : State) (k : ℕ) (m : MemberState) (running : Running) → QuietState s → slice_get s.ends.members k ≡ Some m → m.running ≡ Some running → RunningIsQuiet s.links k running
quiet_running s k m running quiet there runs = subst (λ (r : Option Running). MemberIsQuiet s.links k r) runs (quiet.members k m there)

pub quiet_side : (s : State) → QuietState s → CallSide s
quiet_side s quiet = record {
  ranges = λ k m running there runs. (quiet_running s k m running quiet there runs).range.channel;
  dialled = λ k m running there runs. if_dialled (λ (number : ℕ). IsDialledBy s.links k number) running.dialling (quiet_running s k m running quiet there runs).turn;
}

-- each schedule's messages are called
pub schedules_call : OfSchedules (λ plan moves. MessagesAreCalled (past plan moves))
schedules_call plan moves nobody schedule =
    messages_called QuietFact QuietAction quiet_keeps (λ n s given b quiet. quiet_side s quiet) plan moves nobody (has_bytes plan moves nobody schedule) (quiet_first plan schedule.start schedule.forms)
