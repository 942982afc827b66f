-- A client draws few challenges for a unit.
use Rattle.std.proofs.Common.{ℕ, ◌≡◌, ◌+◌, ◌≤◌, Bool, true, false, List, [], ◌∷◌, ◌++◌, length, Option, Some, None, Result, Ok, Err, refl, sym, ap, subst, ◌∙◌, lit≤}
use Rattle.std.proofs.lemmas.List.{length-append}
use Rattle.std.proofs.Math.Nat.{le_refl, le_trans, le-add_right, zero-add, add-le-add, add_comm, add_assoc, add-zero}
use Rattle.ntlm_flags.specs.Flags.{has_flag, negotiate_key_exch}
use Rattle.outside.specs.Machine.{left_by, then_part}
use Rattle.rpc_units.specs.declared.refused.UnitRefused.{UnitRefused}
use Rattle.rpc_units.specs.declared.unit.Body.{Body}
use Rattle.rpc_units.specs.declared.unit.Unit.{Unit as RpcUnit}
use Rattle.rpc_units.specs.Reading.{unit_of}
use Rattle.end_links.specs.Bounds.{ServerDrawsFew, extra_on, extra_after}
use Rattle.logon_client.specs.declared.answering.Drawn.{Drawn}
use Rattle.logon_client.specs.declared.answering.ServerOffer.{ServerOffer}
use Rattle.logon_client.specs.declared.hearing.Heard.{Heard}
use Rattle.logon_client.specs.declared.hearing.Heard.TheVariants.{Done, Challenged}
use Rattle.logon_client.specs.declared.securing.Sending.{Sending}
use Rattle.logon_client.specs.declared.state.Phase.{Phase}
use Rattle.logon_client.specs.declared.state.Phase.TheVariants.{Bound, Asked}
use Rattle.logon_client.specs.declared.state.Question.{Question}
use Rattle.logon_client.specs.declared.state.Question.TheVariants.{Who, Echo}
use Rattle.logon_client.specs.declared.state.Talk.{Talk}
use Rattle.logon_client.specs.declared.state.Terms.{Terms}
use Rattle.logon_client.specs.declared.state.Work.{Work}
use Rattle.logon_client.specs.Answering.{drawn_for, answer_of as answer_to, auth3_of}
use Rattle.logon_client.specs.Bounds.{more_at, more_on}
use Rattle.logon_client.specs.Machine.{asks, answers_by, answers, answers_part, terms_of, hear_body, hear_call, hear_unit, hear, serve_heard, client_server}
use Rattle.logon_client.specs.Asked.{HoldsOf, body_holds}

-- ---- after a call was sent nothing more is drawn

asks_none : (sending : Option Sending) (terms : Terms) (question : Question) (link : ℕ) (work : Work) → extra_on more_on (asks sending terms question link work).1 ≡ 0
asks_none None terms question link work = refl
asks_none (Some sending) terms question link work = refl

answers_by_none : (auth3 : Option (List ℕ)) (terms : Terms) (link : ℕ) (work : Work) → extra_on more_on (answers_by auth3 terms link work).1 ≡ 0
answers_by_none None terms link work = refl
answers_by_none (Some auth3) terms link work = asks_none _ terms Who link _

answers_none : (offer : ServerOffer) (drawn : Drawn) (link : ℕ) (work : Work) → extra_on more_on (answers offer drawn link work).1 ≡ 0
answers_none offer drawn link work =
    answers_by_none (auth3_of work.task.level (answer_to work.task offer drawn).message) (terms_of work.task.level offer (answer_to work.task offer drawn).key) link work

-- ---- what is heard, where so many are allowed besides one

abbrev FewBy : ℕ → Heard → Type 0
FewBy most (Done work talk) = extra_on more_on talk ≤ most
FewBy most (Challenged work link offer) = 2 ≤ most

phase_few : (phase : Phase) → more_at phase ≤ 2
phase_few Bound = lit≤ tt
phase_few (Asked terms question) = lit≤ tt

talk_few : (talk : Option Talk) → extra_on more_on talk ≤ 2
talk_few None = lit≤ tt
talk_few (Some talk) = phase_few talk.phase

two_few : (what : Heard) → FewBy 2 what
two_few (Done work talk) = talk_few talk
two_few (Challenged work link offer) = lit≤ tt

asked_few : (link : ℕ) (work : Work) → HoldsOf (FewBy 0) link work
asked_few link work = record {
  ends = λ outcome. le_refl 0;
  echoes = λ name terms. subst (λ count. count ≤ 0) (sym (asks_none _ terms (Echo name) link work)) (le_refl 0);
  goes_on = λ joiner terms question. le_refl 0;
}

body_few : (phase : Phase) (body : Body) (unit : RpcUnit) (bytes : List ℕ) (joiner : Option RpcUnit) (link : ℕ) (work : Work) → FewBy (more_at phase) (hear_body body phase unit bytes joiner link work)
body_few Bound body unit bytes joiner link work = two_few (hear_body body Bound unit bytes joiner link work)
body_few (Asked terms question) body unit bytes joiner link work =
    body_holds (FewBy 0) body terms question unit bytes joiner link work (asked_few link work)

at_least_none : (count : ℕ) → 0 ≤ count
at_least_none count = subst (λ most. 0 ≤ most) (zero-add count) (le-add_right 0 count)

call_few : (same : Bool) (unit : RpcUnit) (bytes : List ℕ) (talk : Talk) (work : Work) → FewBy (more_on talk) (hear_call same unit bytes talk work)
call_few false unit bytes talk work = at_least_none (more_on talk)
call_few true unit bytes talk work = body_few talk.phase unit.body unit bytes talk.joiner talk.link work

unit_few : (unit : Result RpcUnit UnitRefused) (bytes : List ℕ) (talk : Talk) (work : Work) → FewBy (more_on talk) (hear_unit unit bytes talk work)
unit_few (Err why) bytes talk work = at_least_none (more_on talk)
unit_few (Ok unit) bytes talk work = call_few _ unit bytes talk work

-- ---- what is drawn for it

-- `count` challenges are drawn, and no more are allowed later
count_few : (count before after most extra : ℕ) → before ≡ count + after → extra ≡ 0 → count ≤ 1 + most → before + extra ≤ after + 1 + most
count_few count before after most extra is none few =
    subst (λ sum. before + extra ≤ sum) (add_comm (1 + most) after ∙ sym (add_assoc after 1 most))
    (subst (λ sum. sum ≤ 1 + most + after) (sym (ap (λ more. before + more) none ∙ add-zero before ∙ is)) (add-le-add few (le_refl after)))

drawn_by : (exchanges : Bool) (left : List (List ℕ)) (offer : ServerOffer) (link : ℕ) (work : Work) (most : ℕ) → 3 ≤ 1 + most →
    length left + extra_after more_on (then_part (drawn_for exchanges left) (answers_part offer link work))
    ≤ length (left_by (then_part (drawn_for exchanges left) (answers_part offer link work))) + 1 + most
drawn_by false [] offer link work most three = count_few 0 0 0 most 0 refl refl (le_trans (lit≤ tt) three)
drawn_by false (client ∷ left) offer link work most three =
    count_few 1 (length (client ∷ left)) (length left) most _ (length-append (client ∷ []) left)
    (answers_none offer (record { client = client; chosen = None }) link work) (le_trans (lit≤ tt) three)
drawn_by true [] offer link work most three = count_few 0 0 0 most 0 refl refl (le_trans (lit≤ tt) three)
drawn_by true (client ∷ []) offer link work most three = count_few 1 1 0 most 0 refl refl (le_trans (lit≤ tt) three)
drawn_by true (client ∷ first ∷ []) offer link work most three = count_few 2 2 0 most 0 refl refl (le_trans (lit≤ tt) three)
drawn_by true (client ∷ first ∷ second ∷ left) offer link work most three =
    count_few 3 (length (client ∷ first ∷ second ∷ left)) (length left) most _ (length-append (client ∷ first ∷ second ∷ []) left)
    (answers_none offer (record { client = client; chosen = Some (first ++ second) }) link work) three

heard_few : (what : Heard) (left : List (List ℕ)) (most : ℕ) → FewBy most what →
    length left + extra_after more_on (serve_heard what left) ≤ length (left_by (serve_heard what left)) + 1 + most
heard_few (Done work talk) left most few = add-le-add (le-add_right (length left) 1) few
heard_few (Challenged work link offer) left most few =
    drawn_by (has_flag offer.flags negotiate_key_exch) left offer link work most (add-le-add (le_refl 1) few)

pub client_few : ServerDrawsFew client_server more_on
client_few = record {
  unit = λ bytes work talk left. heard_few (hear bytes talk work) left (more_on talk) (unit_few (unit_of bytes) bytes talk work);
  refusal = λ why work talk left. le_refl (length left);
}
