-- A client's answer to the CHALLENGE of its member, and what the member asks for it.
-- Of `answers_are_asked`.
use Rattle.std.proofs.Common.{◌≡◌, ℕ, ◌≤◌, ◌<◌, ◌^◌, Bool, true, false, List, [], ◌∷◌, ◌++◌, length, Option, Some, None, Result, Ok, Err, refl, sym, ap, ap₂, subst, ◌∙◌, arith, length-append, inl, inr, if◌then◌else◌}
use Rattle.std.specs.Prelude.{◌&&◌, ◌||◌, not, nat_lt, nat_le, IsTrue}
use Rattle.std.proofs.lemmas.Bool.{cases_Bool, eq-eqb, leb-true, ltb-false}
use Rattle.outside.specs.declared.action.Action.TheVariants as action
use Rattle.rc4_stream.proofs.Rc4Laws.{length-applied}
use Rattle.ntlm_flags.specs.Flags.{agreed_flags, challenge_flags, has_flag, negotiate_extended_sessionsecurity, negotiate_key_exch, negotiate_unicode}
use Rattle.ntlm_messages.specs.declared.messages.Authenticate.{Authenticate}
use Rattle.ntlm_messages.specs.declared.refused.Field.{Field}
use Rattle.ntlm_messages.specs.declared.refused.MessageRefused.{MessageRefused}
use Rattle.ntlm_messages.specs.declared.refused.WriteRefused.{WriteRefused}
use Rattle.ntlm_messages.specs.declared.refused.WriteRefused.TheVariants.{TooLong}
use Rattle.ntlm_messages.specs.Authenticate.{authenticate_fields, written_authenticate}
use Rattle.ntlm_messages.specs.Fields.{◌>>=◌, FieldsFit, lengths_of}
use Rattle.ntlm_messages.proofs.AuthenticateWritten.{authenticate_back}
use Rattle.ntlm_messages.proofs.TextLaws.{IsText-written, units_of_text-written}
use Rattle.rpc_units.specs.declared.refused.UnitRefused.{UnitRefused}
use Rattle.rpc_units.specs.declared.unit.Unit.{Unit as RpcUnit}
use Rattle.rpc_units.specs.Writing.{IsSendable, written}
use Rattle.logon_client.specs.declared.answering.Answer.{Answer}
use Rattle.logon_client.specs.declared.answering.Drawn.{Drawn}
use Rattle.logon_client.specs.declared.plan.AuthKind.{AuthKind}
use Rattle.logon_client.specs.declared.plan.AuthKind.TheVariants.{V1, V1Ess, V2}
use Rattle.logon_client.specs.declared.plan.ClientPlan.{ClientPlan}
use Rattle.logon_client.specs.declared.securing.Sending.{Sending}
use Rattle.logon_client.specs.declared.state.Question.TheVariants as client_question
use Rattle.logon_client.specs.declared.state.Terms.{Terms}
use Rattle.logon_client.specs.Answering.{auth3_by, auth3_of, auth3_unit, bytes_if}
use Rattle.logon_client.specs.Answers.{IsDrawn}
use Rattle.logon_client.proofs.FittingLaws.{answers_fit}
use Rattle.logon_client.specs.Machine as client
use Rattle.logon_client.specs.Plans.{CanLogOn, offer_of}
use Rattle.member_server.specs.declared.plan.MemberPlan.{MemberPlan}
use Rattle.unit_security.specs.Levels.{is_plain}
use Rattle.member_server.specs.Messages.{ask_by, is_fit, take_message}
use Rattle.member_server.specs.Units.{unit_challenged}
use Rattle.logon_steps.specs.Answers.{AnswersAreAsked, AreDraws, answer_for, auth3_for, drawn_of, terms_for}
use Rattle.logon_steps.specs.Meeting.{HasShortNames, bound_for, flags_agreed, flags_answered, offer_for}
use Rattle.logon_steps.proofs.MeetingLaws.{exchanges, info_length, name_short, or_true}
use Rattle.logon_steps.proofs.StreamLaws.{read_again}

-- ---- the auth3 that goes out is the message's

fields_fit : (fields : List (Field × List ℕ)) → lengths_of fields ≡ Ok tt → FieldsFit fields
fields_fit [] is = tt
fields_fit (field ∷ fields) is =
    elim (cases_Bool (nat_lt 65535 (length field.1))) [
      | inl long ↦ absurd (let never : Err (TooLong field.0) ≡ Ok tt = sym (ap (λ (b : Bool). (if b then Err (TooLong field.0) else Ok tt) >>= λ fits. lengths_of fields) long) ∙ is in cc)
      | inr short ↦ (ltb-false 65535 (length field.1) short, fields_fit fields (sym (ap (λ (b : Bool). (if b then Err (TooLong field.0) else Ok tt) >>= λ fits. lengths_of fields) short) ∙ is))
    ]

record Goes (level : ℕ) (message : Authenticate) : Type 0 where
  fields : FieldsFit (authenticate_fields message)
  short : length (written (auth3_unit level (written_authenticate message))) ≤ 5840
  is : auth3_of level message ≡ Some (written (auth3_unit level (written_authenticate message)))

goes_if : (fits : Bool) (level : ℕ) (message : Authenticate) (bytes : List ℕ) → nat_le (length (written (auth3_unit level (written_authenticate message)))) 5840 ≡ fits →
    FieldsFit (authenticate_fields message) → auth3_of level message ≡ bytes_if fits (auth3_unit level (written_authenticate message)) →
    auth3_of level message ≡ Some bytes → Goes level message
goes_if false level message bytes fits fields is some = absurd (let never : None ≡ Some bytes = sym is ∙ some in cc)
goes_if true level message bytes fits fields is some = record { fields = fields; short = leb-true _ _ fits; is = is }

goes_by : (lengths : Result (Unit {0}) WriteRefused) (level : ℕ) (message : Authenticate) (bytes : List ℕ) → lengths_of (authenticate_fields message) ≡ lengths →
    auth3_of level message ≡ Some bytes → Goes level message
goes_by (Err why) level message bytes lengths some =
    absurd (let never : None ≡ Some bytes = sym (ap (λ (l : Result (Unit {0}) WriteRefused). auth3_by level (l >>= λ fits. Ok (written_authenticate message))) lengths) ∙ some in cc)
goes_by (Ok tt) level message bytes lengths some =
    goes_if (nat_le (length (written (auth3_unit level (written_authenticate message)))) 5840) level message bytes refl (fields_fit (authenticate_fields message) lengths)
    (ap (λ (l : Result (Unit {0}) WriteRefused). auth3_by level (l >>= λ fits. Ok (written_authenticate message))) lengths) some

pub draws_are : (task : ClientPlan) (one two three : List ℕ) → AreDraws one two three → IsDrawn (has_flag (flags_agreed task) negotiate_key_exch) (drawn_of one two three)
draws_are task one two three are =
    subst (λ (b : Bool). IsDrawn b (drawn_of one two three)) (sym (exchanges task)) (record { client = are.client; chosen = omega (arith, length-append two three, are.first, are.second) })

message_goes : (plan : MemberPlan) (task : ClientPlan) (challenge one two three : List ℕ) (now : ℕ) → CanLogOn task → HasShortNames plan → AreDraws one two three →
    Goes task.level (answer_for plan task challenge now (drawn_of one two three)).message
message_goes plan task challenge one two three now can short are =
    let found = answers_fit task (offer_for plan task challenge now) (drawn_of one two three) can
    (omega (arith, info_length plan, name_short plan.domain short.domain, name_short plan.computer short.computer)) (draws_are task one two three are) in
    goes_by _ task.level (answer_for plan task challenge now (drawn_of one two three)).message found.0 refl found.1

message_some : (message : Authenticate) → 0 < length (written_authenticate message)
unfolding written_authenticate
message_some message = omega arith

auth3_sends : (level : ℕ) (message : Authenticate) → Goes level message → IsSendable (auth3_unit level (written_authenticate message))
auth3_sends level message goes = record {
  writable = record { pieces = (refl, refl); counts = tt; value = message_some message };
  range = record { call = omega arith; body = tt; trailer = omega arith };
  short = goes.short;
}

-- ---- the member takes it

agreed_below : (auth : AuthKind) → agreed_flags (offer_of auth) (challenge_flags (offer_of auth)) < 2 ^ 32
agreed_below V1 = omega arith
agreed_below V1Ess = omega arith
agreed_below V2 = omega arith

agreed_again : (auth : AuthKind) → agreed_flags (challenge_flags (offer_of auth)) (agreed_flags (offer_of auth) (challenge_flags (offer_of auth))) ≡ agreed_flags (offer_of auth) (challenge_flags (offer_of auth))
agreed_again V1 = refl
agreed_again V1Ess = refl
agreed_again V2 = refl

fit_by : (auth : AuthKind) (level : ℕ) (message : Authenticate) → (auth ≡ V1 → level ≡ 2) → length message.key ≡ 16 →
    is_fit level (agreed_flags (offer_of auth) (challenge_flags (offer_of auth))) message ≡ true
fit_by V1 level message plain sixteen =
    ap₂ (λ (p same : Bool). has_flag (agreed_flags (offer_of V1) (challenge_flags (offer_of V1))) negotiate_unicode
    && (p || has_flag (agreed_flags (offer_of V1) (challenge_flags (offer_of V1))) negotiate_extended_sessionsecurity)
    && (not (has_flag (agreed_flags (offer_of V1) (challenge_flags (offer_of V1))) negotiate_key_exch) || same))
    (ap is_plain (plain refl)) (eq-eqb (length message.key) 16 sixteen)
fit_by V1Ess level message plain sixteen =
    ap₂ (λ (p same : Bool). true && p && (false || same)) (or_true (is_plain level)) (eq-eqb (length message.key) 16 sixteen)
fit_by V2 level message plain sixteen =
    ap₂ (λ (p same : Bool). true && p && (false || same)) (or_true (is_plain level)) (eq-eqb (length message.key) 16 sixteen)

key_long : (plan : MemberPlan) (task : ClientPlan) (challenge one two three : List ℕ) (now : ℕ) → AreDraws one two three →
    length (answer_for plan task challenge now (drawn_of one two three)).message.key ≡ 16
key_long plan task challenge one two three now are =
    length-applied _ 0 (two ++ three) ∙ omega (arith, length-append two three, are.first, are.second)

has_unicode : (auth : AuthKind) → IsTrue (has_flag (agreed_flags (offer_of auth) (challenge_flags (offer_of auth))) negotiate_unicode)
has_unicode V1 = refl
has_unicode V1Ess = refl
has_unicode V2 = refl

pub answers_are_asked : AnswersAreAsked
answers_are_asked = record {
  sends = λ plan task challenge one two three now can short are.
      auth3_sends task.level (answer_for plan task challenge now (drawn_of one two three)).message (message_goes plan task challenge one two three now can short are);
  goes = λ plan work challenge one two three link sending can short are is.
      let drawn : Drawn = drawn_of one two three in
      let answer : Answer = answer_for plan work.task challenge work.now drawn in
      let terms : Terms = terms_for plan work.task challenge work.now drawn in
      ap (λ (auth3 : Option (List ℕ)). client.answers_by auth3 terms link work) (message_goes plan work.task challenge one two three work.now can short are).is
      ∙ ap (λ (s : Option Sending). client.asks s terms client_question.Who link (client.told work (action.Send link (written (auth3_for work.task answer.message))))) is;
  asked = λ plan task challenge one two three now at can short are.
      let message : Authenticate = (answer_for plan task challenge now (drawn_of one two three)).message in
      let goes : Goes task.level message = message_goes plan task challenge one two three now can short are in
      ap (λ (unit : Result RpcUnit UnitRefused). unit_challenged unit (bound_for task) challenge (flags_answered task) None at)
      (read_again (auth3_for task message) (auth3_sends task.level message goes))
      ∙ ap (λ (m : Result Authenticate MessageRefused). take_message m (bound_for task) challenge (flags_answered task) None at)
      (authenticate_back message
      (record {
        version = λ some. absurd (let never : false ≡ true = some in cc);
        mic = λ some. absurd (let never : false ≡ true = some in cc);
        domain = IsText-written (flags_agreed task) task.domain;
        user = IsText-written (flags_agreed task) task.user;
        workstation = IsText-written (flags_agreed task) task.workstation;
      })
      goes.fields (record { flags = agreed_below task.auth; version = tt; mic = tt }))
      ∙ ap (λ (agreed : ℕ). ask_by (is_fit task.level agreed message) message agreed challenge (bound_for task) None at) (agreed_again task.auth)
      ∙ ap (λ (fit : Bool). ask_by fit message (flags_agreed task) challenge (bound_for task) None at) (fit_by task.auth task.level message can.plain (key_long plan task challenge one two three now are));
  names = λ plan task challenge one two three now can units. (
    units_of_text-written (flags_agreed task) task.domain (has_unicode task.auth) units.domain,
    units_of_text-written (flags_agreed task) task.user (has_unicode task.auth) units.user,
    units_of_text-written (flags_agreed task) task.workstation (has_unicode task.auth) units.workstation,
  );
}
