-- How a client and a member server meet on a link.
-- Of `clients_and_members_meet`.
use Rattle.std.proofs.Common.{◌≡◌, ℕ, ◌≤◌, ◌<◌, ◌^◌, ◌+◌, Bool, true, false, List, [], ◌∷◌, ◌++◌, length, replicate, Option, Some, None, Result, Ok, refl, ap, ◌∙◌, arith, length-append}
use Rattle.std.specs.Prelude.{◌||◌, ◌==◌, not}
use Rattle.std.specs.Int.{w32, w64, to_le_bytes}
use Rattle.std.proofs.lemmas.Bool.{le-leb, ne_eqb}
use Rattle.outside.specs.Machine.{then_part}
use Rattle.wire_base.specs.Units.{utf16_of}
use Rattle.wire_base.proofs.UnitLaws.{length-utf16_of}
use Rattle.ntlm_flags.specs.Flags.{agreed_flags, challenge_flags, has_flag, negotiate_key_exch}
use Rattle.ntlm_messages.specs.declared.messages.Challenge.{Challenge}
use Rattle.ntlm_messages.specs.declared.messages.Negotiate.{Negotiate}
use Rattle.ntlm_messages.specs.declared.pairs.PairsRefused.{PairsRefused}
use Rattle.ntlm_messages.specs.declared.refused.MessageRefused.{MessageRefused}
use Rattle.ntlm_messages.specs.Challenge.{challenge_of, written_challenge}
use Rattle.ntlm_messages.specs.Fields.{bytes_of, field_bytes}
use Rattle.ntlm_messages.specs.Negotiate.{negotiate_of, written_negotiate}
use Rattle.ntlm_messages.specs.Pairs.{ArePairs, pair_bytes, written_pairs}
use Rattle.ntlm_messages.specs.Places.{challenge_size}
use Rattle.ntlm_messages.proofs.ChallengeWritten.{challenge_back}
use Rattle.ntlm_messages.proofs.NegotiateWritten.{negotiate_back}
use Rattle.ntlm_messages.proofs.PairsLaws.{written_pairs_back}
use Rattle.ntlm_messages.proofs.TextLaws.{IsText-written}
use Rattle.rpc_units.specs.declared.refused.UnitRefused.{UnitRefused}
use Rattle.rpc_units.specs.declared.unit.Body.TheVariants.{BindAck}
use Rattle.rpc_units.specs.declared.unit.Trailer.{Trailer}
use Rattle.rpc_units.specs.declared.unit.Unit.{Unit as RpcUnit}
use Rattle.rpc_units.specs.Numbers.{ndr_syntax}
use Rattle.rpc_units.specs.Stream.{cut_stream}
use Rattle.rpc_units.specs.Writing.{IsSendable, written, written_body, written_start, written_address, written_tail, zeros, pad_for}
use Rattle.rpc_units.proofs.WritingLaws.{length_written, length_zeros}
use Rattle.end_links.specs.Serving.{served_cut}
use Rattle.logon_client.specs.declared.hearing.Heard.{Heard}
use Rattle.logon_client.specs.declared.hearing.Heard.TheVariants as heard
use Rattle.logon_client.specs.declared.plan.AuthKind.{AuthKind}
use Rattle.logon_client.specs.declared.plan.AuthKind.TheVariants.{V1, V1Ess, V2}
use Rattle.logon_client.specs.declared.plan.ClientPlan.{ClientPlan}
use Rattle.logon_client.specs.declared.state.Phase.TheVariants as client_phase
use Rattle.logon_client.specs.declared.state.Work.{Work as ClientWork}
use Rattle.logon_client.specs.Answering.{bind_for, drawn_for, is_enough, negotiate_for, pairs_by}
use Rattle.logon_client.specs.Machine as client
use Rattle.logon_client.specs.Plans.{CanLogOn, needs_ess, offer_of}
use Rattle.unit_security.specs.Securing.{trailer_of}
use Rattle.member_server.specs.declared.binds.Offer.{Offer}
use Rattle.member_server.specs.declared.plan.MemberPlan.{MemberPlan}
use Rattle.member_server.specs.declared.state.AtLink.{AtLink}
use Rattle.member_server.specs.Binds as binds
use Rattle.unit_security.specs.Levels.{is_plain}
use Rattle.member_server.specs.Units.{first_unit, link_server}
use Rattle.member_server.specs.Work.{drawless, send_unit, stay}
use Rattle.logon_steps.specs.Meeting.{HasShortNames, Meets, ack_for, challenged_talk, flags_agreed, flags_answered, fresh_talk, info_for, memo_contexts, offer_for, offer_heard}
use Rattle.logon_steps.proofs.StreamLaws.{read_again, served_one}

-- ---- names and pairs

pub name_short : (name : List ℕ) → length name ≤ 64 → length (utf16_of name) ≤ 128
name_short name short = omega (arith, length-utf16_of name, short)

pairs_are : (domain computer : List ℕ) → length domain ≤ 128 → length computer ≤ 128 → ArePairs ((2, domain) ∷ (1, computer) ∷ [])
pairs_are domain computer one other = (
  record { id = omega arith; no_end = λ e. omega (arith, e); len = omega (arith, one); flags = λ e. absurd (omega (arith, e)); timestamp = λ e. absurd (omega (arith, e)) },
  (record { id = omega arith; no_end = λ e. omega (arith, e); len = omega (arith, other); flags = λ e. absurd (omega (arith, e)); timestamp = λ e. absurd (omega (arith, e)) }, tt),
)

-- ---- the bind

bind_len : (level : ℕ) (auth : AuthKind) → length (written (bind_for level auth)) ≤ 5840
unfolding written written_start zeros written_negotiate
bind_len level V1 = omega arith
bind_len level V1Ess = omega arith
bind_len level V2 = omega arith

value_some : (auth : AuthKind) → 0 < length (written_negotiate (negotiate_for auth))
unfolding written_negotiate
value_some auth = omega arith

pub bind_sends : (level : ℕ) (auth : AuthKind) → IsSendable (bind_for level auth)
bind_sends level auth = record {
  writable = record { pieces = (refl, refl); counts = (omega arith, tt); value = value_some auth };
  range = record { call = omega arith; body = (omega arith, omega arith, omega arith, ((omega arith, (refl, omega arith), ((refl, omega arith), tt)), tt)); trailer = omega arith };
  short = bind_len level auth;
}

offer_below : (auth : AuthKind) → offer_of auth < 2 ^ 32
offer_below V1 = omega arith
offer_below V1Ess = omega arith
offer_below V2 = omega arith

negotiate_read : (auth : AuthKind) → negotiate_of (written_negotiate (negotiate_for auth)) ≡ Ok (negotiate_for auth)
negotiate_read auth =
    negotiate_back (negotiate_for auth) (record { version = λ some. absurd (let never : false ≡ true = some in cc); domain = λ no. refl; workstation = λ no. refl })
    (omega arith, (omega arith, tt)) (record { flags = offer_below auth; version = tt })

-- ---- enough is agreed

pub or_true : (one : Bool) → (one || true) ≡ true
or_true true = refl
or_true false = refl

enough_offered : (task : ClientPlan) → CanLogOn task → binds.is_enough task.level (offer_of task.auth) ≡ true
enough_offered task can = offered task.auth task.level can.plain where
  offered : (auth : AuthKind) (level : ℕ) → (auth ≡ V1 → level ≡ 2) → binds.is_enough level (offer_of auth) ≡ true
  offered V1 level plain = ap (λ (l : ℕ). binds.is_enough l (offer_of V1)) (plain refl)
  offered V1Ess level plain = or_true (is_plain level)
  offered V2 level plain = or_true (is_plain level)

pub enough_agreed : (task : ClientPlan) → CanLogOn task → is_enough task.level task.auth (flags_agreed task) ≡ true
enough_agreed task can = agreed task.auth task.level can.plain where
  agreed : (auth : AuthKind) (level : ℕ) → (auth ≡ V1 → level ≡ 2) → is_enough level auth (agreed_flags (offer_of auth) (challenge_flags (offer_of auth))) ≡ true
  agreed V1 level plain = ap (λ (l : ℕ). is_enough l V1 (agreed_flags (offer_of V1) (challenge_flags (offer_of V1)))) (plain refl)
  agreed V1Ess level plain = or_true (not (needs_ess level V1Ess))
  agreed V2 level plain = or_true (not (needs_ess level V2))

offer_found : (task : ClientPlan) → CanLogOn task → binds.offer_in (Some (trailer_of task.level 1 (written_negotiate (negotiate_for task.auth)))) ≡ Some (offer_heard task)
offer_found task can =
    let trailer : Trailer = trailer_of task.level 1 (written_negotiate (negotiate_for task.auth)) in
    ap (λ (served : Bool). binds.offer_at served trailer) can.level
    ∙ ap (λ (read : Result Negotiate MessageRefused). binds.offer_by read trailer) (negotiate_read task.auth)
    ∙ ap (λ (enough : Bool). binds.offer_if enough trailer (offer_of task.auth)) (enough_offered task can)

-- ---- the answer

challenge_length : (m : Challenge) → length (written_challenge (record m { version = None })) ≡ 40 + length m.challenge + length m.target + length m.info
unfolding written_challenge
challenge_length m =
    let field = field_bytes m.info (challenge_size + length (bytes_of None) + length m.target) in
    let a = m.challenge ++ to_le_bytes w64 0 in
    let b = a ++ field in
    let c = b ++ [] in
    let d = c ++ m.target in
    omega (
      arith,
      length-append m.challenge (to_le_bytes w64 0),
      length-append a field,
      length-append b [],
      length-append c m.target,
      length-append d m.info,
    )

pub info_length : (plan : MemberPlan) → length (info_for plan) ≡ 12 + length (utf16_of plan.domain) + length (utf16_of plan.computer)
unfolding written_pairs
info_length plan =
    let domain = utf16_of plan.domain in
    let computer = utf16_of plan.computer in
    omega (
      arith,
      length-append (domain ++ (pair_bytes (1, computer) ++ [])) (pair_bytes (0, [])),
      length-append domain (pair_bytes (1, computer) ++ []),
      length-append computer [],
    )

body_length : length (written_body (BindAck 5840 5840 1 ((0, 0, ndr_syntax) ∷ []))) ≡ 40
unfolding zeros written_address
body_length = refl

tail_length : (count : ℕ) (t : Trailer) → length (written_tail count (Some t)) ≤ 12 + length t.value
tail_length count t =
    omega (
      arith,
      length-append (zeros (pad_for count)) ((t.kind ∷ t.level ∷ pad_for count ∷ 0 ∷ []) ++ (to_le_bytes w32 t.context ++ t.value)),
      length_zeros (pad_for count),
    )

ack_length : (plan : MemberPlan) (task : ClientPlan) (challenge : List ℕ) → HasShortNames plan → length challenge ≡ 8 → length (written (ack_for plan task challenge)) ≤ 5840
ack_length plan task challenge short eight =
    let ack : RpcUnit = ack_for plan task challenge in
    let body : List ℕ = written_body (BindAck 5840 5840 1 ((0, 0, ndr_syntax) ∷ [])) in
    let trailer : Trailer = binds.challenge_trailer (offer_heard task) plan challenge in
    omega (
      arith,
      length_written ack,
      length-append body (written_tail (length body) (Some trailer)),
      body_length,
      tail_length (length body) trailer,
      challenge_length (binds.challenge_message (flags_answered task) plan challenge),
      info_length plan,
      name_short plan.domain short.domain,
      name_short plan.computer short.computer,
      eight,
    )

fits : (plan : MemberPlan) (task : ClientPlan) → HasShortNames plan → binds.ack_fits (offer_heard task) plan 1 5840 memo_contexts ≡ true
fits plan task short = le-leb _ _ (ack_length plan task (replicate 8 0) short refl)

pub ack_sends : (plan : MemberPlan) (task : ClientPlan) (challenge : List ℕ) → HasShortNames plan → length challenge ≡ 8 → IsSendable (ack_for plan task challenge)
ack_sends plan task challenge short eight = record {
  writable = record { pieces = (refl, refl); counts = tt; value = omega (arith, challenge_length (binds.challenge_message (flags_answered task) plan challenge), eight) };
  range = record { call = omega arith; body = (omega arith, omega arith, omega arith, ((omega arith, omega arith, (refl, omega arith)), tt)); trailer = omega arith };
  short = ack_length plan task challenge short eight;
}

-- the member answers the bind
bind_answered : (task : ClientPlan) (at : AtLink) (challenge : List ℕ) (left : List (List ℕ)) → CanLogOn task → HasShortNames at.logons.plan →
    served_cut link_server (cut_stream (written (bind_for task.level task.auth))) at fresh_talk (challenge ∷ left)
    ≡ drawless (stay (send_unit at (ack_for at.logons.plan task challenge)) (challenged_talk task challenge)) left
bind_answered task at challenge left can short =
    let sends : IsSendable (bind_for task.level task.auth) = bind_sends task.level task.auth in
    served_one link_server (bind_for task.level task.auth) at fresh_talk (challenge ∷ left) sends
    ∙ ap (λ (unit : Result RpcUnit UnitRefused). first_unit unit None at (challenge ∷ left)) (read_again (bind_for task.level task.auth) sends)
    ∙ ap (λ (offer : Option Offer). binds.bind_by offer 1 5840 memo_contexts None at (challenge ∷ left)) (offer_found task can)
    ∙ ap (λ (fit : Bool). binds.answer_bind fit (offer_heard task) 1 5840 memo_contexts None at (challenge ∷ left)) (fits at.logons.plan task short)

-- ---- the CHALLENGE is heard

answered_below : (auth : AuthKind) → challenge_flags (offer_of auth) < 2 ^ 32
answered_below V1 = omega arith
answered_below V1Ess = omega arith
answered_below V2 = omega arith

challenge_read : (plan : MemberPlan) (task : ClientPlan) (challenge : List ℕ) → HasShortNames plan → length challenge ≡ 8 →
    challenge_of (written_challenge (binds.challenge_message (flags_answered task) plan challenge)) ≡ Ok (binds.challenge_message (flags_answered task) plan challenge)
challenge_read plan task challenge short eight =
    challenge_back (binds.challenge_message (flags_answered task) plan challenge)
    (record { version = λ some. absurd (let never : false ≡ true = some in cc); target = IsText-written (flags_answered task) plan.domain })
    (omega (arith, name_short plan.domain short.domain), (omega (arith, info_length plan, name_short plan.domain short.domain, name_short plan.computer short.computer), tt))
    (record { flags = answered_below task.auth; challenge = eight; version = tt })

pairs_read : (plan : MemberPlan) → HasShortNames plan → pairs_by (length (info_for plan) == 0) (info_for plan) ≡ Ok ((2, utf16_of plan.domain) ∷ (1, utf16_of plan.computer) ∷ [])
pairs_read plan short =
    ap (λ (none : Bool). pairs_by none (info_for plan)) (ne_eqb (length (info_for plan)) 0 (λ is. omega (arith, is, info_length plan)))
    ∙ written_pairs_back ((2, utf16_of plan.domain) ∷ (1, utf16_of plan.computer) ∷ [])
    (pairs_are (utf16_of plan.domain) (utf16_of plan.computer) (name_short plan.domain short.domain) (name_short plan.computer short.computer))

pub challenge_heard : (plan : MemberPlan) (work : ClientWork) (challenge : List ℕ) (link : ℕ) → CanLogOn work.task → HasShortNames plan → length challenge ≡ 8 →
    client.hear (written (ack_for plan work.task challenge)) (client.talk_on link None client_phase.Bound) work
    ≡ heard.Challenged work link (offer_for plan work.task challenge work.now)
challenge_heard plan work challenge link can short eight =
    let task : ClientPlan = work.task in
    let message : Challenge = binds.challenge_message (flags_answered task) plan challenge in
    let pairs : List (ℕ × List ℕ) = (2, utf16_of plan.domain) ∷ (1, utf16_of plan.computer) ∷ [] in
    ap (λ (unit : Result RpcUnit UnitRefused). client.hear_unit unit (written (ack_for plan task challenge)) (client.talk_on link None client_phase.Bound) work)
    (read_again (ack_for plan task challenge) (ack_sends plan task challenge short eight))
    ∙ ap (λ (read : Result Challenge MessageRefused). client.hear_challenge read 5840 link work) (challenge_read plan task challenge short eight)
    ∙ ap (λ (read : Result (List (ℕ × List ℕ)) PairsRefused). client.hear_pairs read message 5840 link work) (pairs_read plan short)
    ∙ ap (λ (enough : Bool). client.hear_flags enough (client.offer_by (flags_agreed task) message pairs work.now 5840) link work) (enough_agreed task can)

pub exchanges : (task : ClientPlan) → has_flag (flags_agreed task) negotiate_key_exch ≡ true
exchanges task = by task.auth where
  by : (auth : AuthKind) → has_flag (agreed_flags (offer_of auth) (challenge_flags (offer_of auth))) negotiate_key_exch ≡ true
  by V1 = refl
  by V1Ess = refl
  by V2 = refl

pub challenge_answered : (plan : MemberPlan) (work : ClientWork) (challenge one two three : List ℕ) (left : List (List ℕ)) (link : ℕ) → CanLogOn work.task → HasShortNames plan →
    length challenge ≡ 8 →
    served_cut client.client_server (cut_stream (written (ack_for plan work.task challenge))) work (client.talk_on link None client_phase.Bound) (one ∷ two ∷ three ∷ left)
    ≡ Ok (record {
      value = client.answers (offer_for plan work.task challenge work.now) (record { client = one; chosen = Some (two ++ three) }) link work;
      left = left;
    })
challenge_answered plan work challenge one two three left link can short eight =
    let draws : List (List ℕ) = one ∷ two ∷ three ∷ left in
    served_one client.client_server (ack_for plan work.task challenge) work (client.talk_on link None client_phase.Bound) draws (ack_sends plan work.task challenge short eight)
    ∙ ap (λ (what : Heard). client.serve_heard what draws) (challenge_heard plan work challenge link can short eight)
    ∙ ap (λ (two_more : Bool). then_part (drawn_for two_more draws) (client.answers_part (offer_for plan work.task challenge work.now) link work)) (exchanges work.task)

pub meets : Meets
meets = record {
  bind = λ task at challenge left can short eight. bind_answered task at challenge left can short;
  challenge = challenge_heard;
  answer = challenge_answered;
}
