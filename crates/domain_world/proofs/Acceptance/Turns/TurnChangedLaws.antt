-- What holds of messages whose answer was taken, and of what is told, where something is written down of the messages
-- on one link: their call, or their answer. It serves `schedules_are_heard`.
use Rattle.std.proofs.Common.{◌≡◌, ℕ, true, List, ◌++◌, Option, Some, None, refl, sym, subst, ◌∙◌, slice_get}
use Rattle.std.specs.List.{AllByRecursion}
use Rattle.member_server.specs.State.{State as MemberState}
use Rattle.member_server.specs.declared.state.Logon.{Logon}
use Rattle.wire_base.specs.Lists.{OneOf}
use Rattle.wire_base.proofs.ListLaws.{all_weaker, one_behind, one_with, some_is}
use Rattle.step_notes.specs.Records.{Book, CallTaken, MessageTaken, OutcomeTold}
use Rattle.step_notes.proofs.Members.KeptLogonLaws.{KeptIn, kept_so, one_before}
use Rattle.world_moves.specs.declared.plan.Plan.{Plan}
use Rattle.world_moves.specs.declared.state.State.{State}
use Rattle.world_moves.specs.Counting.{is_in}
use Rattle.domain_world.specs.Accepting.Carried.{IsAnswerFor, IsTakenInTurn}
use Rattle.domain_world.specs.Accepting.ReadBack.{IsLetInInTurn, IsToldInTurn}
use Rattle.domain_world.specs.Past.{change_message, with_answer, with_call}
use Rattle.domain_world.proofs.Acceptance.Turns.TurnFactLaws.{Any, HasFree, IsAnswered, IsFree, IsKnown, TurnFacts, past_at}
use Rattle.domain_world.proofs.Acceptance.Turns.TurnNotedLaws.{each_changed, one_changed}
use Rattle.wire_base.proofs.AllLaws.{all_both, all_join}

no_reply : (reply : Option ℕ) (u : ℕ) → reply ≡ None → reply ≡ Some u → ⊥
no_reply reply u none is = let both : None ≡ Some u = sym none ∙ is in absurd (let x = both in cc)

module _ (plan : Plan) (t : State) (d : Book) (messages : List MessageTaken) (answers : List CallTaken) (told : List OutcomeTold) where
  -- where none of them has its answer
  pub called_facts : (found number : Option ℕ) → ((link : ℕ) → found ≡ Some link → AllByRecursion (λ (message : MessageTaken). message.link ≡ link → message.reply ≡ None) messages) →
      TurnFacts plan t d messages answers told → TurnFacts plan t d (change_message found (with_call number) messages) answers told
  called_facts None number free facts = facts
  called_facts (Some link) number free facts =
      let Open : MessageTaken → Type 0 = λ (message : MessageTaken). message.link ≡ link → message.reply ≡ None in
      let own : AllByRecursion Open messages = free link refl in
      record {
        taken = facts.taken;
        answered = each_changed link (with_call number) (λ (message : MessageTaken). IsAnswered plan t d answers told message × Open message) (IsAnswered plan t d answers told)
            (λ message here fits u reply. absurd (no_reply message.reply u (fits.1 here) reply)) (λ message differs fits. fits.0) messages
            (all_both (IsAnswered plan t d answers told) Open messages facts.answered own);
        let_in = all_weaker (IsKnown plan t d messages) (IsKnown plan t d (change_message (Some link) (with_call number) messages)) told
            (λ one known is.
            one_changed link (with_call number) (λ (message : MessageTaken). IsLetInInTurn (past_at plan t d) one message × Open message) (IsLetInInTurn (past_at plan t d) one)
            (λ message here fits. absurd (no_reply message.reply fits.0.unit (fits.1 here) fits.0.reply)) (λ message differs fits. fits.0) messages
            (one_with Open (IsLetInInTurn (past_at plan t d) one) (λ (message : MessageTaken). IsLetInInTurn (past_at plan t d) one message × Open message) messages
            (λ message side its. (its, side)) own (known is))) facts.let_in;
        free = λ k m there.
            kept_so (HasFree k messages) (HasFree k (change_message (Some link) (with_call number) messages)) Any Any
            (λ place logon one.
            one_changed link (with_call number) (IsFree k place logon) (IsFree k place logon)
            (λ message here is. record { same_member = is.same_member; same_place = is.same_place; same_logon = is.same_logon; link = is.link; none = is.none }) (λ message differs is. is) messages one)
            (λ number own. own) m.running (facts.free k m there);
      }

  module _ (member place : ℕ) (logon : Logon) (u : ℕ) (more : List OutcomeTold) (new : List CallTaken) where
    -- the message of that logon
    abbrev pub Own : MessageTaken → Type 0
    Own message = message.link ≡ logon.link → IsFree member place logon message

    -- a message's answer is one of the new ones, and is told
    abbrev pub Taken : MessageTaken → Type 0
    Taken message =
        message.link ≡ logon.link → OneOf (IsAnswerFor (with_answer (Some u) message) u) new
        × OneOf (λ (one : OutcomeTold). IsToldInTurn (past_at plan t d) (with_answer (Some u) message) u one) more

    abbrev pub LetIn : OutcomeTold → Type 0
    LetIn one = is_in one.outcome ≡ true → (message : MessageTaken) → message.link ≡ logon.link → IsFree member place logon message → IsLetInInTurn (past_at plan t d) one (with_answer (Some u) message)

    -- the logons that are kept are of other places
    abbrev pub KeepOthers : Type 0
    KeepOthers = (k : ℕ) (m : MemberState) → slice_get t.ends.members k ≡ Some m → KeptIn (λ (p : ℕ) (l : Logon). HasFree k messages p l × (k ≡ member → p ≡ place → ⊥)) Any m.running

    -- where the answer of that message is written down
    pub answered_facts : AllByRecursion (IsTakenInTurn (past_at plan t d)) new → AllByRecursion Own messages → AllByRecursion Taken messages → AllByRecursion LetIn more → HasFree member messages place logon →
        KeepOthers → TurnFacts plan t d messages answers told →
        TurnFacts plan t d (change_message (Some logon.link) (with_answer (Some u)) messages) (answers ++ new) (told ++ more)
    answered_facts in_turn own taken let_in has others facts =
        let link : ℕ = logon.link in
        let after : List MessageTaken = change_message (Some link) (with_answer (Some u)) messages in
        let one_told : MessageTaken → ℕ → OutcomeTold → Type 0 = λ message n one. IsToldInTurn (past_at plan t d) message n one in
        record {
          taken = all_join (IsTakenInTurn (past_at plan t d)) answers new facts.taken in_turn;
          answered = each_changed link (with_answer (Some u)) (λ (message : MessageTaken). IsAnswered plan t d answers told message × Taken message)
              (IsAnswered plan t d (answers ++ new) (told ++ more))
              (λ message here fits n reply.
              let its = fits.1 here in
              subst (λ (x : ℕ). OneOf (IsAnswerFor (with_answer (Some u) message) x) (answers ++ new) × OneOf (one_told (with_answer (Some u) message) x) (told ++ more)) (some_is u n reply)
              (one_behind (IsAnswerFor (with_answer (Some u) message) u) answers new its.0, one_behind (one_told (with_answer (Some u) message) u) told more its.1))
              (λ message differs fits n reply.
              let its = fits.0 n reply in
              (one_before (IsAnswerFor message n) answers new its.0, one_before (one_told message n) told more its.1)) messages
              (all_both (IsAnswered plan t d answers told) Taken messages facts.answered taken);
          let_in = all_join (IsKnown plan t d after) told more
              (all_weaker (IsKnown plan t d messages) (IsKnown plan t d after) told
              (λ one known is.
              one_changed link (with_answer (Some u)) (λ (message : MessageTaken). IsLetInInTurn (past_at plan t d) one message × Own message) (IsLetInInTurn (past_at plan t d) one)
              (λ message here fits. absurd (no_reply message.reply fits.0.unit (fits.1 here).none fits.0.reply)) (λ message differs fits. fits.0) messages
              (one_with Own (IsLetInInTurn (past_at plan t d) one) (λ (message : MessageTaken). IsLetInInTurn (past_at plan t d) one message × Own message) messages
              (λ message side its. (its, side)) own (known is))) facts.let_in)
              (all_weaker LetIn (IsKnown plan t d after) more
              (λ one so is.
              one_changed link (with_answer (Some u)) (IsFree member place logon) (IsLetInInTurn (past_at plan t d) one) (λ message here its. so is message here its)
              (λ message differs its. absurd (differs its.link)) messages has) let_in);
          free = λ k m there.
              kept_so (λ (p : ℕ) (l : Logon). HasFree k messages p l × (k ≡ member → p ≡ place → ⊥)) (HasFree k after) Any Any
              (λ p l both.
              one_changed link (with_answer (Some u)) (λ (message : MessageTaken). IsFree k p l message × Own message) (IsFree k p l)
              (λ message here fits.
              let mine : IsFree member place logon message = fits.1 here in
              absurd (both.1 (sym fits.0.same_member ∙ mine.same_member) (sym fits.0.same_place ∙ mine.same_place))) (λ message differs fits. fits.0) messages
              (one_with Own (IsFree k p l) (λ (message : MessageTaken). IsFree k p l message × Own message) messages (λ message side its. (its, side)) own both.0))
              (λ number own. own) m.running (others k m there);
        }
