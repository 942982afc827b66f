-- The CHALLENGE that answers a bind.
use Rattle.std.proofs.Common.{◌≡◌, ℕ, ◌+◌, ◌*◌, ◌%◌, ◌≤◌, ◌<◌, nat_le, Bool, true, false, List, [], ◌∷◌, ◌++◌, length, replicate, map, refl, Some, None, Result, Ok, Err, sym, ap, subst, arith}
use Rattle.std.proofs.lemmas.Bool.{leb-true}
use Rattle.std.proofs.lemmas.List.{length-append, length-replicate}
use Rattle.std.specs.Prelude.{IsTrue}
use Rattle.std.specs.List.{flat_map}
use Rattle.std.specs.Int.{w32, w64, to_le_bytes}
use Rattle.outside.specs.declared.action.CloseCause.{CloseCause}
use Rattle.outside.specs.declared.action.StepRefused.{StepRefused}
use Rattle.outside.specs.Machine.{AnswersBy}
use Rattle.outside.proofs.DrawLaws.{DrawsSome-none, DrawsSome-one}
use Rattle.wire_base.specs.Units.{utf16_of}
use Rattle.wire_base.proofs.UnitLaws.{length-utf16_of}
use Rattle.ntlm_messages.specs.Challenge.{written_challenge}
use Rattle.ntlm_messages.specs.Fields.{bytes_of, field_bytes}
use Rattle.ntlm_messages.specs.Pairs.{written_pairs, pair_bytes, ArePairs}
use Rattle.ntlm_messages.specs.Places.{challenge_size}
use Rattle.ntlm_messages.specs.declared.messages.Challenge.{Challenge}
use Rattle.rpc_units.specs.declared.unit.Syntax.{Syntax}
use Rattle.rpc_units.specs.declared.unit.Trailer.{Trailer}
use Rattle.rpc_units.specs.Writing.{zeros, pad_for, written, written_address, written_answer, written_body, written_tail}
use Rattle.rpc_units.proofs.WritingLaws.{length_written}
use Rattle.end_links.specs.Binding.{ack_of, answer_by, answer_to, offers_ndr, same_syntax}
use Rattle.memo_stubs.specs.Interface.{memo_syntax}
use Rattle.member_server.specs.declared.binds.Offer.{Offer}
use Rattle.member_server.specs.declared.plan.MemberPlan.{MemberPlan}
use Rattle.member_server.specs.Binds.{challenge_message, challenge_trailer, challenge_ack, ack_fits, FitsEach, ClosesBy}
use Rattle.member_server.specs.declared.state.AtLink.{AtLink}
use Rattle.member_server.specs.Work.{Served, drawless, shut}
use Rattle.member_server.specs.Rests.{all_left, rest_left, answer_rest, bind_rest}

-- ---- names

pub name_even : (name : List ℕ) → length (utf16_of name) % 2 ≡ 0
name_even name = omega (arith, length-utf16_of name)

pub name_short : (name : List ℕ) → length name ≤ 64 → length (utf16_of name) ≤ 128
name_short name short = omega (arith, length-utf16_of name, short)

pub ruleset names = (name_even, name_short)

-- ---- pairs

pub pairs_are : (domain computer : List ℕ) → length domain ≤ 128 → length computer ≤ 128 → ArePairs ((2, domain) ∷ (1, computer) ∷ [])
pairs_are domain computer one other = (
  record { id = omega arith; no_end = λ e. omega (arith, e); len = omega (arith, one); flags = λ e. absurd (omega (arith, e)); timestamp = λ e. absurd (omega (arith, e)) },
  (record { id = omega arith; no_end = λ e. omega (arith, e); len = omega (arith, other); flags = λ e. absurd (omega (arith, e)); timestamp = λ e. absurd (omega (arith, e)) }, tt),
)

pub pairs_short : (domain computer : List ℕ) → length domain ≤ 128 → length computer ≤ 128 → length (written_pairs ((2, domain) ∷ (1, computer) ∷ [])) ≤ 65535
unfolding written_pairs
pairs_short domain computer one other =
    omega (arith, one, other, length-append (domain ++ (pair_bytes (1, computer) ++ [])) (pair_bytes (0, [])), length-append domain (pair_bytes (1, computer) ++ []), length-append computer [])

pub ruleset pairs = (pairs_are, pairs_short)

-- ---- the message

pub challenge_some : (message : Challenge) → 0 < length (written_challenge message)
unfolding written_challenge
challenge_some message = omega arith

-- what stands behind two challenges of one length leaves them of one length
same_behind : (one other rest : List ℕ) → length one ≡ length other → length (one ++ rest) ≡ length (other ++ rest)
same_behind one other rest same = omega (arith, length-append one rest, length-append other rest, same)

challenge_len : (message : Challenge) (one other : List ℕ) → length one ≡ length other →
    length (written_challenge (record message { challenge = one; version = None })) ≡ length (written_challenge (record message { challenge = other; version = None }))
unfolding written_challenge
challenge_len message one other same =
    let zeros_behind = same_behind one other (to_le_bytes w64 0) same in
    let field = field_bytes message.info (challenge_size + length (bytes_of None) + length message.target) in
    let field_behind = same_behind (one ++ to_le_bytes w64 0) (other ++ to_le_bytes w64 0) field zeros_behind in
    let none_behind = same_behind (one ++ to_le_bytes w64 0 ++ field) (other ++ to_le_bytes w64 0 ++ field) [] field_behind in
    let target_behind = same_behind (one ++ to_le_bytes w64 0 ++ field ++ []) (other ++ to_le_bytes w64 0 ++ field ++ []) message.target none_behind in
    let info_behind = same_behind (one ++ to_le_bytes w64 0 ++ field ++ [] ++ message.target) (other ++ to_le_bytes w64 0 ++ field ++ [] ++ message.target) message.info target_behind in
    omega (arith, info_behind)

-- ---- the answer

tail_len : (count : ℕ) (one other : Trailer) → length one.value ≡ length other.value → length (written_tail count (Some one)) ≡ length (written_tail count (Some other))
tail_len count one other same =
    omega (
      arith,
      length-append (zeros (pad_for count)) ((one.kind ∷ one.level ∷ pad_for count ∷ 0 ∷ []) ++ (to_le_bytes w32 one.context ++ one.value)),
      length-append (zeros (pad_for count)) ((other.kind ∷ other.level ∷ pad_for count ∷ 0 ∷ []) ++ (to_le_bytes w32 other.context ++ other.value)),
      same,
    )

ack_len : (offer : Offer) (plan : MemberPlan) (call receive : ℕ) (contexts : List (ℕ × Syntax × List Syntax)) (one other : List ℕ) → length one ≡ length other →
    length (written (challenge_ack offer plan call receive contexts one)) ≡ length (written (challenge_ack offer plan call receive contexts other))
ack_len offer plan call receive contexts one other same =
    let a = challenge_ack offer plan call receive contexts one in
    let b = challenge_ack offer plan call receive contexts other in
    let body = written_body a.body in
    omega (
      arith,
      length_written a,
      length_written b,
      length-append body (written_tail (length body) a.trailer),
      length-append body (written_tail (length body) b.trailer),
      tail_len (length body) (challenge_trailer offer plan one) (challenge_trailer offer plan other) (challenge_len (challenge_message offer.flags plan one) one other same),
    )

pub ack_short : (offer : Offer) (plan : MemberPlan) (call receive : ℕ) (contexts : List (ℕ × Syntax × List Syntax)) (challenge : List ℕ) → length challenge ≡ 8 →
    IsTrue (ack_fits offer plan call receive contexts) → length (written (challenge_ack offer plan call receive contexts challenge)) ≤ 5840
ack_short offer plan call receive contexts challenge eight fits =
    let blank = challenge_ack offer plan call receive contexts (replicate 8 0) in
    omega (arith, leb-true (length (written blank)) 5840 fits, ack_len offer plan call receive contexts challenge (replicate 8 0) eight)

-- ---- the length of the answer to a bind

answer_len : (same ndr : Bool) → length (written_answer (answer_by same ndr)) ≡ 24
answer_len false ndr = refl
answer_len true false = refl
answer_len true true = refl

answers_len : (served : Syntax) (contexts : List (ℕ × Syntax × List Syntax)) → length (flat_map written_answer (map (answer_to served) contexts)) ≡ 24 * length contexts
answers_len served [] = refl
answers_len served (context ∷ contexts) =
    omega (
      arith,
      length-append (written_answer (answer_to served context)) (flat_map written_answer (map (answer_to served) contexts)),
      answer_len (same_syntax context.1 served) (offers_ndr context.2),
      answers_len served contexts,
    )

body_len : (call receive : ℕ) (contexts : List (ℕ × Syntax × List Syntax)) → length (written_body (ack_of memo_syntax call receive contexts).body) ≡ 16 + 24 * length contexts
unfolding zeros written_address
body_len call receive contexts = omega (arith, answers_len memo_syntax contexts)

pairs_len : (domain computer : List ℕ) → length (written_pairs ((2, domain) ∷ (1, computer) ∷ [])) ≡ 12 + length domain + length computer
unfolding written_pairs
pairs_len domain computer =
    omega (arith, length-append (domain ++ (pair_bytes (1, computer) ++ [])) (pair_bytes (0, [])), length-append domain (pair_bytes (1, computer) ++ []), length-append computer [])

message_len : (m : Challenge) → length (written_challenge (record m { version = None })) ≡ 40 + length m.challenge + length m.target + length m.info
unfolding written_challenge
message_len m =
    let field = field_bytes m.info (challenge_size + length (bytes_of None) + length m.target) in
    let a = m.challenge ++ to_le_bytes w64 0 in
    let b = a ++ field in
    let c = b ++ [] in
    let d = c ++ m.target in
    omega (
      arith,
      length-append m.challenge (to_le_bytes w64 0),
      length-append a field,
      length-append b [],
      length-append c m.target,
      length-append d m.info,
    )

value_of_len : (plan : MemberPlan) (flags : ℕ) (challenge : List ℕ) → length challenge ≡ 8 →
    length (written_challenge (challenge_message flags plan challenge)) ≡ 60 + 4 * length plan.domain + 2 * length plan.computer
value_of_len plan flags challenge eight =
    omega (
      arith,
      eight,
      message_len (challenge_message flags plan challenge),
      pairs_len (utf16_of plan.domain) (utf16_of plan.computer),
      length-utf16_of plan.domain,
      length-utf16_of plan.computer,
    )

-- behind as many bytes no padding stands
tail_of_len : (count contexts : ℕ) (t : Trailer) → count ≡ 16 + 24 * contexts → length (written_tail count (Some t)) ≡ 8 + length t.value
unfolding zeros
tail_of_len count contexts t is =
    let none : pad_for count ≡ 0 = omega (arith, is) in
    omega (
      arith,
      none,
      length-replicate {A = ℕ} (pad_for count) 0,
      length-append (zeros (pad_for count)) ((t.kind ∷ t.level ∷ pad_for count ∷ 0 ∷ []) ++ (to_le_bytes w32 t.context ++ t.value)),
    )

size_of_ack : (offer : Offer) (plan : MemberPlan) (call receive : ℕ) (contexts : List (ℕ × Syntax × List Syntax)) →
    length (written (challenge_ack offer plan call receive contexts (replicate 8 0))) ≡ 100 + 24 * length contexts + (4 * length plan.domain + 2 * length plan.computer)
size_of_ack offer plan call receive contexts =
    let a = challenge_ack offer plan call receive contexts (replicate 8 0) in
    let body = written_body a.body in
    let trailer = challenge_trailer offer plan (replicate 8 0) in
    omega (
      arith,
      length_written a,
      length-append body (written_tail (length body) a.trailer),
      body_len call receive contexts,
      tail_of_len (length body) (length contexts) trailer (body_len call receive contexts),
      value_of_len plan offer.flags (replicate 8 0) refl,
    )

pub each_fits : (plan : MemberPlan) (contexts : List (ℕ × Syntax × List Syntax)) →
    FitsEach (nat_le (100 + 24 * length contexts + (4 * length plan.domain + 2 * length plan.computer)) 5840) plan contexts
each_fits plan contexts offer call receive = ap (λ n. nat_le n 5840) (sym (size_of_ack offer plan call receive contexts))

-- ---- what is drawn

-- a link that is closed
pub closes_answers : (result : Result Served StepRefused) (cause : CloseCause) (at : AtLink) (left : List (List ℕ)) → ClosesBy result cause at →
    AnswersBy result (drawless (shut cause at) left) left
closes_answers (Ok served) cause at left is = ap (λ (s : Served). drawless s left) (sym is)
closes_answers (Err why) cause at left is = subst (λ w. AnswersBy (Err w) (drawless (shut cause at) left) left) (sym is) (all_left left)

pub ruleset drawing = (closes_answers, DrawsSome-none, DrawsSome-one, all_left, rest_left, answer_rest, bind_rest)
